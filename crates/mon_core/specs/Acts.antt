-- The acts that plans name, and what they need of the event in which they are done.
use Rattle.std.specs.List.{AllByRecursion}
use Rattle.std.specs.Prelude.{◌≡◌, ℕ, true, false, nat_lt, List, Result, []}
use Rattle.mon_msg.specs.Protocol.Changes.{Change, encoded}
use Rattle.mon_msg.specs.Protocol.Course.{Course}
use Rattle.mon_msg.specs.Protocol.Phases.{phase_of}
use Rattle.mon_msg.specs.Protocol.Played.{Fits}
use Rattle.mon_msg.specs.Protocol.Readings.{readings_of}
use Rattle.mon_msg.specs.Protocol.Records.{may_begin}
use Rattle.mon_msg.specs.Protocol.State.{State}
use Rattle.mon_msg.specs.declared.plan.Next.TheVariants as next
use Rattle.mon_msg.specs.declared.plan.Next.{Next}
use Rattle.mon_msg.specs.declared.plan.Plan.{Plan}
use Rattle.mon_msg.specs.declared.plan.RoleStop.{RoleStop}
use Rattle.mon_msg.specs.declared.view.Me.{Me}
use Rattle.mon_tx.specs.Map.{Store, apply}
use Rattle.mon_tx.specs.declared.op.Op.{Op}
use Rattle.mon_plan.specs.Plans.{act, done}
use Rattle.mon_wire.specs.declared.phase.Phase.TheVariants as phase
use Rattle.mon_event.specs.Events.{IsCarried, IsUnderWay, Reaches, remembering}
use Rattle.mon_event.specs.declared.event.Event.{Event}

-- what the store's readers return after these changes is what they returned before, except for the epoch and the count of
-- starts
abbrev pub KeepsAll : Store → List Op → Type 0
KeepsAll m tx = let after = readings_of (apply tx m) in
    after ≡ record (readings_of m) { epoch = after.epoch; boot = after.boot }

-- What an act needs of its event. An act that reads the store from before the event needs the event to keep what the
-- store's readers return, except for the epoch and the count of starts.
abbrev pub MayAct : Me → Store → Event → Next → Type 0
MayAct me m e next.Stay = Unit {0}
MayAct me m e next.Electing = Unit {0}
MayAct me m e (next.Follow leader quorum) = Unit {0}
MayAct me m e next.Elect = Unit {0}
MayAct me m e next.Bootstrap = nat_lt 1 me.member.monitors ≡ false → KeepsAll m e.tx
MayAct me m e (next.Win quorum) = KeepsAll m e.tx
MayAct me m e (next.FullSync from) = KeepsAll m e.tx
MayAct me m e (next.RecentSync from) = KeepsAll m e.tx
MayAct me m e (next.Begin value o) =
    (e.tx ≡ []) × (e.state.phase ≡ phase_of e.state.leader.stage) × (may_begin value ≡ true)

-- a leader's stage is its phase
abbrev pub Leads : State → Type 0
Leads s = s.phase ≡ phase_of s.leader.stage

-- after this act no other one follows in the same event
abbrev pub IsLast : Next → Type 0
IsLast next.Stay = Unit {0}
IsLast (next.Win quorum) = Unit {0}
IsLast next.Bootstrap = ⊥
IsLast next.Elect = ⊥
IsLast next.Electing = ⊥
IsLast (next.Follow leader quorum) = ⊥
IsLast (next.FullSync from) = ⊥
IsLast (next.RecentSync from) = ⊥
IsLast (next.Begin value o) = ⊥

-- a call does the act, whatever the event has done before
abbrev pub Acts : Me → Store → (now : ℕ) → (old : Event) → Next → (new : Event) → Result Unit RoleStop → Type 0
Acts me m now old n new result = (x : Course) → IsUnderWay (readings_of m) old x →
    Reaches (readings_of m) (act me now n x) new result

-- a plan leaves what the act that it names needs, however it is carried out
abbrev pub MayCarry : {S : Type 0} → (put : S → State → State) → Me → Store → (old : Event) → Plan S → Type 0
MayCarry put me m old p = (e : Event) (n : Next) → IsCarried (remembering put) old p e n → MayAct me m e n

-- a plan is carried out, and then the act that it names is done, whichever changes the plan's transaction encodes
abbrev pub Carried : {S : Type 0} → (put : S → State → State) → Me → Store → (now : ℕ) → (old : Event) → Plan S →
    (new : Event) → Result Unit RoleStop → Type 0
Carried put me m now old p new result = (cs : List Change) → AllByRecursion Fits cs → p.tx ≡ encoded cs →
    (x : Course) → IsUnderWay (readings_of m) old x →
    Reaches (readings_of m) (act me now p.next (done (remembering put) cs p x)) new result
