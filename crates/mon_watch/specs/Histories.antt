-- What a call of the link makes of calls of the link below.
use Rattle.std.specs.Prelude.{◌≡◌, ◌⊎◌, ℕ, List, [], ◌∷◌, Option, Some, None, Result, Ok, Err}
use Rattle.mon_link.specs.Histories.{Happened}
use Rattle.mon_link.specs.Histories.Happened.{Received, WasSent}
use Rattle.mon_link.specs.declared.link.Got.{Got}
use Rattle.mon_link.specs.declared.link.Peer.TheVariants.{Client}
use Rattle.mon_types.specs.declared.member.Member.{Member}
use Rattle.mon_types.specs.declared.names.Stop.{Stop}
use Rattle.mon_types.specs.declared.names.Stop.TheVariants.{OutOfMemory}
use Rattle.mon_watch.specs.declared.notes.Notes.{Notes}
use Rattle.mon_watch.specs.declared.request.Asker.{Asker}
use Rattle.mon_watch.specs.declared.times.DiskTimes.{DiskTimes}
use Rattle.mon_watch.specs.Answering.{admitted, after_send, answer, asker, handed, passed}
use Rattle.mon_watch.specs.Traffic.{no_notes, notes_got, notes_sent}

-- the monitor that is watched, and what is noted of it
pub record WatchState : Type 0 where
  pub member : Member
  pub notes : Notes

abbrev pub watching : Member → Notes → WatchState
watching member notes = record { member = member; notes = notes }

-- the link below was asked to send this to a client, and for nothing else
abbrev pub SentTo : (client : ℕ) → List ℕ → (went : Result (Unit {0}) Stop) → List Happened → Type 0
SentTo client bytes went calls =
    (answered : Result (Unit {0}) Stop) × (calls ≡ WasSent (Client client) bytes answered ∷ []) × (went ≡ after_send answered)

-- It was asked to send the answer to the client that asked, unless memory ran out before.
abbrev pub AnswerIsSent : Option Asker → WatchState → (went : Result (Unit {0}) Stop) → List Happened → Type 0
AnswerIsSent None s went calls = (went ≡ Ok tt) × (calls ≡ [])
AnswerIsSent (Some asker) s went calls =
    ((a : DiskTimes) × (b : DiskTimes) × (unkept : ℕ) × SentTo asker.client (answer s.member s.notes asker.id a b unkept) went calls)
    ⊎ ((went ≡ Err OutOfMemory) × (calls ≡ []))

-- The link below gave `got`. It is noted, and an answer is sent to a client that asked, if it is answered now.
pub record IsAnswered (got : Got) (result : Result Got Stop) (old new : WatchState) (calls : List Happened) : Type 0 where
  pub now : ℕ
  pub untils : List ℕ
  pub notes : new ≡ watching old.member (notes_got now (passed got) old.notes)
  pub went : Result (Unit {0}) Stop
  pub sent : AnswerIsSent (admitted now untils (asker got)) new went calls
  pub hands : result ≡ handed got went

-- after an error it was asked for nothing
abbrev pub IsAskedAfter : Result Got Stop → (result : Result Got Stop) → (old new : WatchState) → List Happened → Type 0
IsAskedAfter (Ok got) result old new calls = IsAnswered got result old new calls
IsAskedAfter (Err e) result old new calls = (result ≡ Err e) × (new ≡ old) × (calls ≡ [])

-- The link below was asked once for what comes, with the same wait.
pub record Asks (wait : ℕ) (result : Result Got Stop) (old new : WatchState) (calls : List Happened) : Type 0 where
  pub gave : Result Got Stop
  pub rest : List Happened
  pub are : calls ≡ Received wait gave ∷ rest
  pub after : IsAskedAfter gave result old new rest

-- A datagram is noted, and sent as it is.
abbrev pub WatchedDoes : WatchState → Happened → List Happened → WatchState → Type 0
WatchedDoes old (Received wait result) calls new = Asks wait result old new calls
WatchedDoes old (WasSent to bytes result) calls new =
    (calls ≡ WasSent to bytes result ∷ []) × (new ≡ watching old.member (notes_sent old.member.rank to bytes old.notes))

-- nothing is noted yet
abbrev pub NothingNoted : WatchState → Type 0
NothingNoted s = s.notes ≡ no_notes
