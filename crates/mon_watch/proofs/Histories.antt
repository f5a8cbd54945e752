-- What calls of the link make of calls of the link below.
use Rattle.std.proofs.Common.{◌≡◌, ℕ, List, [], ◌∷◌, ◌++◌, Result, Ok, Err, refl, ap}
use Rattle.mon_link.specs.Histories.{Happened}
use Rattle.mon_link.specs.Histories.Happened.{Received}
use Rattle.mon_link.specs.declared.link.Got.{Got}
use Rattle.mon_types.specs.declared.names.Stop.{Stop}
use Rattle.mon_watch.specs.Answering.{admitted, asker, handed, passed}
use Rattle.mon_watch.specs.Histories.{AnswerIsSent, Asks, WatchState, watching}
use Rattle.mon_watch.specs.Traffic.{notes_got}

pub asks_only : (wait : ℕ) (e : Stop) (s : WatchState) → Asks wait (Err e) s s (Received wait (Err e) ∷ [])
asks_only wait e s = record { gave = Err e; rest = []; are = refl; after = (refl, refl, refl) }

pub asks_and_answers : (wait : ℕ) (got : Got) (result : Result Got Stop) (old new : WatchState) (now : ℕ) (untils : List ℕ) (went : Result (Unit {0}) Stop)
    → new ≡ watching old.member (notes_got now (passed got) old.notes) → result ≡ handed got went
    → (xs ys : List Happened) → xs ≡ Received wait (Ok got) ∷ [] → AnswerIsSent (admitted now untils (asker got)) new went ys → Asks wait result old new (xs ++ ys)
asks_and_answers wait got result old new now untils went notes hands xs ys one sent = record {
  gave = Ok got;
  rest = ys;
  are = ap (λ (zs : List Happened). zs ++ ys) one;
  after = record { now = now; untils = untils; notes = notes; went = went; sent = sent; hands = hands };
}
