-- What a call of the link makes of calls of the link below.
use Rattle.std.specs.Prelude.{◌≡◌, ◌≤◌, ℕ, Bool, true, false, List, [], ◌∷◌, Result, Ok, Err, if◌then◌else◌}
use Rattle.mon_link.specs.Histories.{Happened}
use Rattle.mon_link.specs.Histories.Happened.{Received, WasSent}
use Rattle.mon_link.specs.Layers.{Sent}
use Rattle.mon_link.specs.declared.link.Got.{Got}
use Rattle.mon_link.specs.declared.link.Got.TheVariants.{Idle}
use Rattle.mon_link.specs.declared.link.Peer.{Peer}
use Rattle.mon_link.specs.declared.link.Peer.TheVariants.{Monitor, Client}
use Rattle.mon_types.specs.declared.names.Stop.{Stop}
use Rattle.mon_resend.specs.declared.copies.Copies.{Copies}
use Rattle.mon_resend.specs.Sending.{isnt_handed_up, with_got}
use Rattle.mon_resend.specs.World.{all_due_copies, all_passed, fresh, is_sent_now, sent}

-- The link below gave `came` at the time `now`, and then it was asked to send the due copies.
pub record IsAskedForCopies (came : Got) (result : Result Got Stop) (old new : Copies) (calls : List Happened) : Type 0 where
  pub again : Bool
  pub now : ℕ
  pub memory : Bool
  pub hands_up : result ≡ Ok (if isnt_handed_up came now old then Idle else came)
  pub kept : new ≡ all_passed again now (with_got memory came now old)
  pub copies : Sent (all_due_copies again now (with_got memory came now old)) calls

-- after an error it was asked for nothing
abbrev pub IsAskedAfter : Result Got Stop → (result : Result Got Stop) → (old new : Copies) → List Happened → Type 0
IsAskedAfter (Ok came) result old new calls = IsAskedForCopies came result old new calls
IsAskedAfter (Err e) result old new calls = (result ≡ Err e) × (new ≡ old) × (calls ≡ [])

-- The link below was asked once for what comes, with this wait at most.
pub record Asks (wait : ℕ) (result : Result Got Stop) (old new : Copies) (calls : List Happened) : Type 0 where
  pub slice : ℕ
  pub within : slice ≤ wait
  pub gave : Result Got Stop
  pub rest : List Happened
  pub are : calls ≡ Received slice gave ∷ rest
  pub after : IsAskedAfter gave result old new rest

abbrev pub GoesNow : Bool → Peer → List ℕ → Result (Unit {0}) Stop → List Happened → Type 0
GoesNow true to bytes result calls = calls ≡ WasSent to bytes result ∷ []
GoesNow false to bytes result calls = (result ≡ Ok tt) × (calls ≡ [])

-- A datagram for another monitor is sent, or waits for the answer to an earlier one, or is lost.
pub record GoesOrWaits (rank : ℕ) (bytes : List ℕ) (result : Result (Unit {0}) Stop) (old new : Copies) (calls : List Happened) : Type 0 where
  pub now : ℕ
  pub memory : Bool
  pub kept : new ≡ sent memory rank bytes now old
  pub goes : GoesNow (is_sent_now rank bytes now old) (Monitor rank) bytes result calls

abbrev pub Goes : Peer → List ℕ → Result (Unit {0}) Stop → (old new : Copies) → List Happened → Type 0
Goes (Monitor rank) bytes result old new calls = GoesOrWaits rank bytes result old new calls
Goes (Client number) bytes result old new calls = (calls ≡ WasSent (Client number) bytes result ∷ []) × (new ≡ old)

abbrev pub ResendingDoes : Copies → Happened → List Happened → Copies → Type 0
ResendingDoes old (Received wait result) calls new = Asks wait result old new calls
ResendingDoes old (WasSent to bytes result) calls new = Goes to bytes result old new calls

-- nothing is kept yet
abbrev pub NothingKept : Copies → Type 0
NothingKept c = c ≡ fresh
