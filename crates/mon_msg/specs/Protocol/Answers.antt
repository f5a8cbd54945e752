-- The answer of a peon to a leader that collects.
use Rattle.std.specs.Prelude.{ℕ, ◌+◌, Bool, true, false, ◌&&◌, ◌||◌, nat_lt, List, Option, Some, None, if◌then◌else◌, [], length}
use Rattle.mon_msg.specs.Protocol.Length.{fits}
use Rattle.mon_msg.specs.Protocol.Readings.{Readings, promise_of}
use Rattle.mon_msg.specs.Protocol.Records.{pending, run_from, longest}
use Rattle.mon_wire.specs.declared.body.Body.TheVariants as body
use Rattle.mon_wire.specs.declared.body.Body.{Body}
use Rattle.mon_wire.specs.declared.parts.Told.{Told}
use Rattle.mon_msg.specs.declared.paxos.Found.{Found}
use Rattle.mon_tx.specs.Decision.{Cell}
use Rattle.mon_tx.specs.declared.op.Op.{Op}

abbrev pub told_of : Option Found → Option Told
told_of None = None
told_of (Some found) = Some (record { pn = found.pn; value = found.value })

-- `n` are the monitors of the map; `promise`, `first` and `last` are the peon's
module _ (n promise first last : ℕ) where
  -- as many values from one version on as the answer takes; none if the leader has them or they aren't kept
  abbrev pub sent_values : (records : ℕ → Cell) → (from : ℕ) → List (List Op)
  sent_values records from =
      if nat_lt last from || nat_lt from first then [] else
      longest (λ values. fits n (body.Last promise first last false from values None)) (run_from records last from)

  -- nothing that the leader lacks is left out: the values reach the last version, and the pending value has room
  abbrev pub is_complete : (from : ℕ) → List (List Op) → Option Told → Bool
  is_complete from values told =
      nat_lt last (from + length values) && fits n (body.Last promise first last true from values told)

  -- the answer with these values of the versions from `from` on, and with the pending value if nothing is left out
  abbrev pub answer_with : (from : ℕ) → List (List Op) → Option Told → Body
  answer_with from values told =
      if is_complete from values told then body.Last promise first last true from values told else
      body.Last promise first last false from values None

  unfoldable pub answer_of : (records : ℕ → Cell) → Option Found → (from : ℕ) → Body
  answer_of records found from = answer_with from (sent_values records from) (told_of found)

abbrev pub last_answer : (n : ℕ) → Readings → (from : ℕ) → Body
last_answer n w from = answer_of n (promise_of w) w.first w.last w.record_of (pending w) from
