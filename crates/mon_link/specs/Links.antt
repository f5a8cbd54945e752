-- What can be seen of a link, and what each call does to it.
use Rattle.std.specs.Prelude.{◌≡◌, ℕ, List, [], ◌∷◌, ◌++◌, length, Option, None, IfSome, option_map, Result, Ok, Err, if◌then◌else◌}
use Rattle.mon_types.specs.Faults.{risen}
use Rattle.mon_types.specs.declared.names.Stop.{Stop}
use Rattle.mon_types.specs.declared.names.Stop.TheVariants.{Failed, OutOfMemory}
use Rattle.mon_link.specs.declared.link.Peer.{Peer}
use Rattle.mon_link.specs.declared.link.Got.{Got}
use Rattle.mon_link.specs.declared.link.Got.TheVariants.{Closed}
use Rattle.mon_link.specs.declared.link.Outgoing.{Outgoing}
use Rattle.mon_link.specs.Memory.{fails_next}

-- What is still to come, in order; the datagrams that were to be sent and the waits that were asked, failed ones too; and
-- the numbers, from 1, of the calls that fail.
pub record Observed : Type 0 where
  pub left : List Got
  pub sent : List Outgoing
  pub waits : List ℕ
  pub failing_next : List ℕ
  pub failing_send : List ℕ

-- A link at one time: what can be seen of it, if anything; and how often a receive failed. The count saturates at the
-- greatest 64-bit number.
pub record LinkState : Type 0 where
  pub observed : Option Observed
  pub faults : ℕ

-- a link of which its count alone can be seen
abbrev pub unseen : (faults : ℕ) → LinkState
unseen faults = record { observed = None; faults = faults }

-- a count that rises if and only if a call returns `Failed`
abbrev pub count_after : {T : Type 0} → Result T Stop → ℕ → ℕ
count_after (Ok x) count = count
count_after (Err Failed) count = risen count
count_after (Err OutOfMemory) count = count

-- a call returns the wanted result, unless memory ran out
abbrev pub Answers : {T : Type 0} → Result T Stop → Result T Stop → Type 0
Answers (Ok x) wanted = wanted ≡ Ok x
Answers (Err Failed) wanted = wanted ≡ Err Failed
Answers (Err OutOfMemory) wanted = Unit {0}

-- ---- what comes

-- the first item of the list, or `Closed` after the last one
abbrev pub first_of : List Got → Got
first_of [] = Closed
first_of (got ∷ left) = got

abbrev pub others : List Got → List Got
others [] = []
others (got ∷ left) = left

abbrev pub next_answer : Observed → Result Got Stop
next_answer t = if fails_next t.failing_next (length t.waits) then Err Failed else Ok (first_of t.left)

-- a call that fails has given nothing
abbrev pub next_leaves : ℕ → Result Got Stop → Observed → Observed
next_leaves wait (Ok got) t = record t { left = others t.left; waits = t.waits ++ wait ∷ [] }
next_leaves wait (Err Failed) t = record t { waits = t.waits ++ wait ∷ [] }
next_leaves wait (Err OutOfMemory) t = t

pub record CallsNext (wait : ℕ) (result : Result Got Stop) (old new : LinkState) : Type 0 where
  pub answer : IfSome old.observed (λ t. Answers result (next_answer t))
  pub observed : new.observed ≡ option_map (next_leaves wait result) old.observed
  pub faults : new.faults ≡ count_after result old.faults

-- ---- what goes

abbrev pub send_answer : Observed → Result (Unit {0}) Stop
send_answer t = if fails_next t.failing_send (length t.sent) then Err Failed else Ok tt

abbrev pub asked_to_send : Peer → List ℕ → Observed → Observed
asked_to_send to bytes t = record t { sent = t.sent ++ record { to = to; bytes = bytes } ∷ [] }

abbrev pub send_leaves : Peer → List ℕ → Result (Unit {0}) Stop → Observed → Observed
send_leaves to bytes (Ok x) t = asked_to_send to bytes t
send_leaves to bytes (Err Failed) t = asked_to_send to bytes t
send_leaves to bytes (Err OutOfMemory) t = t

pub record CallsSend (to : Peer) (bytes : List ℕ) (result : Result (Unit {0}) Stop) (old new : LinkState) : Type 0 where
  pub answer : IfSome old.observed (λ t. Answers result (send_answer t))
  pub observed : new.observed ≡ option_map (send_leaves to bytes result) old.observed
  pub faults : new.faults ≡ old.faults
