-- What monitors promised, and what a promise covers.
use Rattle.log_model.specs.LogOfValues.{IsCommand}
use Rattle.mon_bytes.specs.declared.command.Command.{Command}
use Rattle.mon_msg.specs.Protocol.Places.{is_done}
use Rattle.mon_msg.specs.Protocol.Readings.{Readings, epoch_of, or_zero, promise_of, readings_of}
use Rattle.mon_msg.specs.Protocol.Records.{pending, record_at}
use Rattle.mon_msg.specs.Protocol.Value.{value}
use Rattle.mon_msg.specs.declared.paxos.Found.{Found}
use Rattle.mon_tx.specs.Map.{Store, apply}
use Rattle.mon_tx.specs.declared.op.Op.{Op}
use Rattle.mon_wire.specs.declared.body.Body.TheVariants as body
use Rattle.mon_wire.specs.declared.body.Body.{Body}
use Rattle.mon_wire.specs.declared.parts.Told.{Told}
use Rattle.quorum_laws.specs.Accepting.{HasAccepted, put_alone, readings_at}
use Rattle.quorum_model.specs.World.{Envelope, World}
use Rattle.std.proofs.Common.{Bool, IfSome, List, Ok, Option, Some, [], false, suc, true, ℕ, ◌%◌, ◌<◌, ◌∷◌, ◌≡◌, ◌≤◌, ◌⊎◌}
use Rattle.std.specs.FinMap.{empty}
use Rattle.std.specs.List.{AllByRecursion, Contains}
use Rattle.std.specs.Prelude.{if◌then◌else◌}

-- ---- what never falls

-- the floor of a full synchronization in progress, and otherwise the last version
abbrev pub level_of : Readings → ℕ
level_of w = if w.marked then w.floor else w.last

pub record NeverDecrease (w next : World) (i : ℕ) : Type 0 where
  pub epoch : epoch_of (readings_at w i) ≤ epoch_of (readings_at next i)
  pub promise : promise_of (readings_at w i) ≤ promise_of (readings_at next i)
  pub level : level_of (readings_at w i) ≤ level_of (readings_at next i)

-- ---- numbers

-- A COLLECT has a number of its sender's rank, no greater than the last one that the sender's store keeps.
abbrev pub CollectHolds : World → ℕ → Body → Type 0
CollectHolds w from (body.Collect pn first last) = (pn % 100 ≡ from) × (pn ≤ or_zero (readings_at w from).last_pn)
CollectHolds w from other = Unit {0}

-- a monitor promised each number under which it answers or accepts
abbrev pub PromiseHolds : World → ℕ → Body → Type 0
PromiseHolds w from (body.Last pn first last whole lowest values told) = pn ≤ promise_of (readings_at w from)
PromiseHolds w from (body.Accept pn v) = pn ≤ promise_of (readings_at w from)
PromiseHolds w from other = Unit {0}

pub record NumbersHold (w : World) : Type 0 where
  pub collects : (e : Envelope) → Contains w.messages e → CollectHolds w e.message.from e.message.body
  pub promises : (e : Envelope) → Contains w.messages e → PromiseHolds w e.message.from e.message.body
  pub own : (i : ℕ) → (or_zero (readings_at w i).last_pn ≡ 0) ⊎ (or_zero (readings_at w i).last_pn % 100 ≡ i)
  pub order : (i : ℕ) → or_zero (readings_at w i).last_pn ≤ promise_of (readings_at w i)
  pub pending : (i : ℕ) → (readings_at w i).pending_pn ≤ promise_of (readings_at w i)
  pub accepted : (i v pn : ℕ) (bytes : List ℕ) → HasAccepted w i v pn bytes → pn ≤ promise_of (readings_at w i)
  -- the monitor whose rank the number has made it, and accepted the value too
  pub owner : (i v pn : ℕ) (bytes : List ℕ) → HasAccepted w i v pn bytes
      → HasAccepted w (pn % 100) v pn bytes × (pn ≤ or_zero (readings_at w (pn % 100)).last_pn)

-- A transaction collects under pn: it puts pn as the last number of the monitor, and begins no full synchronization.
pub record Collects (transaction : List Op) (pn : ℕ) : Type 0 where
  pub number : (put_alone transaction).last_pn ≡ Some pn
  pub unmarked : (put_alone transaction).marked ≡ false

-- the last number that a store's monitor made
abbrev pub last_number : Store → ℕ
last_number m = or_zero (readings_of m).last_pn

-- Along the transactions of monitor i, from a store on, its last number never falls. Each transaction that collects
-- raises it to a number of its rank. So a number belongs to one rank and to one collect.
abbrev pub NumbersRise : ℕ → Store → List (List Op) → Type 0
NumbersRise i m [] = Unit {0}
NumbersRise i m (tx ∷ txs) =
    ((pn : ℕ) → Collects tx pn → (pn % 100 ≡ i) × (last_number m < pn)) × (last_number m ≤ last_number (apply tx m)) × NumbersRise i (apply tx m) txs

abbrev pub AllNumbersRise : World → Type 0
AllNumbersRise w = (i : ℕ) → NumbersRise i empty (w.transactions i)

-- ---- what was accepted is not forgotten

-- the pending value is for this version, under this number or a greater one
pub record IsPending (w : Readings) (v pn : ℕ) : Type 0 where
  pub found : Found
  pub is : pending w ≡ Some found
  pub version : found.version ≡ v
  pub number : pn ≤ found.pn

-- the version is committed or pending, or the floor of a full synchronization reaches it
abbrev pub RemembersIn : (is_marked : Bool) → Readings → (v pn : ℕ) → Type 0
RemembersIn true w v pn = v ≤ w.floor
RemembersIn false w v pn = (v ≤ w.last) ⊎ IsPending w v pn

abbrev pub Remembers : Readings → (v pn : ℕ) → Type 0
Remembers w v pn = RemembersIn w.marked w v pn

abbrev pub AllRemember : World → Type 0
AllRemember w = (i v pn : ℕ) (bytes : List ℕ) → HasAccepted w i v pn bytes → Remembers (readings_at w i) v pn

-- ---- answers

pub record IsTold (told : Option Told) (last v pn : ℕ) : Type 0 where
  pub next : v ≡ suc last
  pub value : Told
  pub tells : told ≡ Some value
  pub number : pn ≤ value.pn

-- A whole answer covers all that its monitor accepted under lower numbers, then and ever after: by the last version that it
-- gives, or by the pending value.
abbrev pub AnswerCovers : World → ℕ → Body → Type 0
AnswerCovers w from (body.Last pn first last true lowest values told) =
    (v lower : ℕ) (bytes : List ℕ) → HasAccepted w from v lower bytes → lower < pn → (v ≤ last) ⊎ IsTold told last v lower
AnswerCovers w from other = Unit {0}

abbrev pub AnswersCover : World → Type 0
AnswersCover w = (e : Envelope) → Contains w.messages e → AnswerCovers w e.message.from e.message.body

-- ---- values

-- the value of a command that a monitor was asked, over some store
pub record IsSomeValue (changes : List Op) : Type 0 where
  pub over : Store
  pub command : Command
  pub form : IsCommand command
  pub asked : ℕ
  pub rank : asked ≤ 14
  pub made : value (readings_of over) command asked ≡ Ok changes

abbrev pub CarriesValues : Body → Type 0
CarriesValues (body.Last pn first last whole lowest values told) = AllByRecursion IsSomeValue values × IfSome told (λ t. IsSomeValue t.value)
CarriesValues (body.Begin pn v value) = IsSomeValue value
CarriesValues (body.Commit from values) = AllByRecursion IsSomeValue values
CarriesValues (body.Chunk cookie p values entries is_done) = AllByRecursion IsSomeValue values
CarriesValues (body.LastChunk cookie p values entries last) = AllByRecursion IsSomeValue values
CarriesValues other = Unit {0}

-- what messages carry as values, and what records encode, are values of commands
pub record ValuesAlone (w : World) : Type 0 where
  pub messages : (e : Envelope) → Contains w.messages e → CarriesValues e.message.body
  pub records : (i v : ℕ) (changes : List Op) → record_at (readings_at w i).record_of v ≡ Some changes → IsSomeValue changes
