-- What calls of the link make of calls of the link below.
use Rattle.std.proofs.Common.{◌≡◌, ℕ, Bool, List, [], ◌∷◌, ◌++◌, Result, Ok, Err, refl, ap, inl, inr}
use Rattle.mon_link.specs.Histories.{Happened}
use Rattle.mon_link.specs.Histories.Happened.{Received}
use Rattle.mon_link.specs.declared.link.Got.{Got}
use Rattle.mon_types.specs.declared.names.Stop.{Stop}
use Rattle.mon_types.specs.declared.names.Stop.TheVariants.{OutOfMemory}
use Rattle.mon_hello.specs.declared.own.Own.{Own}
use Rattle.mon_hello.specs.Greets.{admitted, asker, handed, hellos_to}
use Rattle.mon_hello.specs.Histories.{AreSent, Asks}

pub asks_only : (own : Own) (wait : ℕ) (e : Stop) → Asks own wait (Err e) (Received wait (Err e) ∷ [])
asks_only own wait e = record { gave = Err e; rest = []; are = refl; after = (refl, refl) }

pub no_memory : (own : Own) (wait : ℕ) (got : Got) → Asks own wait (Err OutOfMemory) (Received wait (Ok got) ∷ [])
no_memory own wait got = record { gave = Ok got; rest = []; are = refl; after = inr (refl, refl) }

pub asks_and_greets : (own : Own) (wait : ℕ) (got : Got) (result : Result Got Stop) (now : ℕ) (untils : List ℕ) (due : Bool) (went : Result (Unit {0}) Stop) → result ≡ handed got went
    → (xs ys : List Happened) → xs ≡ Received wait (Ok got) ∷ [] → AreSent (hellos_to own (admitted now untils (asker got)) due) went ys → Asks own wait result (xs ++ ys)
asks_and_greets own wait got result now untils due went hands xs ys one sent = record {
  gave = Ok got;
  rest = ys;
  are = ap (λ (zs : List Happened). zs ++ ys) one;
  after = inl (now, untils, due, went, sent, hands);
}
