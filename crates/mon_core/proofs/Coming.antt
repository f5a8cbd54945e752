-- What arrives at a monitor that was started, and which of its rows that is.
use Rattle.std.proofs.Common.{◌≡◌, ℕ, Bool, true, false, List, None, Result, Ok, is_some, sym, ap, subst, ◌∙◌, arith}
use Rattle.std.proofs.lemmas.Bool.Decides.{nat_tests}
use Rattle.std.specs.Prelude.{if◌then◌else◌}
use Rattle.mon_bounds.specs.Fitting.{IsValidInput}
use Rattle.mon_bytes.specs.declared.entry.Entry.{Entry}
use Rattle.mon_msg.specs.Protocol.Course.{Course, ◌▸◌, disarm, dropped}
use Rattle.mon_msg.specs.Protocol.Hearing.{hear, is_heard}
use Rattle.mon_msg.specs.Protocol.Length.{fits}
use Rattle.mon_msg.specs.Protocol.Phases.{same_phase}
use Rattle.mon_msg.specs.Protocol.Readings.{readings_of, shared_entries}
use Rattle.mon_msg.specs.Protocol.Table.{at_rest, before_start, react, running, timer_comes}
use Rattle.mon_msg.specs.Protocol.Timers.{end_of}
use Rattle.mon_msg.specs.declared.input.Input.TheVariants as input
use Rattle.mon_msg.specs.declared.input.Input.{Input}
use Rattle.mon_msg.specs.declared.plan.RoleStop.{RoleStop}
use Rattle.mon_msg.specs.declared.view.Me.{Me}
use Rattle.mon_tx.specs.Map.{Store}
use Rattle.mon_types.specs.declared.names.Which.{Which}
use Rattle.mon_wire.specs.declared.message.Message.{Message}
use Rattle.mon_wire.specs.declared.phase.Phase.TheVariants as phase
use Rattle.mon_wire.specs.declared.phase.Timer.{Timer}
use Rattle.mon_plan.specs.Inputs.{input_is_short, row}
use Rattle.mon_event.specs.Events.{Reaches}
use Rattle.mon_event.specs.Roles.{hearer}
use Rattle.mon_event.specs.State.{state_of}
use Rattle.mon_event.specs.declared.event.Event.{Event}
use Rattle.mon_core.specs.Rows.{AnswersInput, IsReady, ReachesFrom}
use Rattle.mon_core.proofs.Acting.{rests}
use Rattle.mon_core.proofs.Taking.{unheard}

-- an event that has just begun has done nothing
pub drops : (me : Me) (m : Store) (e : Event) → IsReady me e
    → (wanted : Result Course Which) → wanted ≡ Ok (at_rest (readings_of m) (state_of e.state)) → Reaches (readings_of m) wanted e (Ok tt)
drops me m e r wanted is = record { course = at_rest (readings_of m) (state_of e.state); wanted_is = is; under_way = rests me m e r }

-- ---- messages

-- a message that is taken isn't longer than one among this many monitors
pub heard_fits : (me : Me) (m : Message) → is_heard me m ≡ true → IsValidInput (input.Deliver m) → input_is_short me.member.monitors (input.Deliver m) ≡ true
heard_fits me m heard may =
    let here : m.monitors ≡ me.member.monitors = grind (arith, nat_tests, heard) in
    subst (λ n. fits n m.body ≡ true) here may.1

module _ (me : Me) (shared : List Entry) (now : ℕ) (m : Message) (x : Course) where
  abbrev came : Input
  came = input.Deliver m

  pub heard : is_heard me m ≡ true → running me shared now came x ≡ row me shared now came x
  heard h = ap (λ b. if b then hear me shared now m.from m.epoch m.body x else dropped x) h

  pub not_heard : is_heard me m ≡ false → running me shared now came x ≡ Ok x
  not_heard h = ap (λ b. if b then hear me shared now m.from m.epoch m.body x else dropped x) h

  pub nobodys : is_heard me m ≡ true → hearer m.body ≡ None → running me shared now came x ≡ Ok x
  nobodys h none = heard h ∙ unheard me shared now m.from m.epoch m.body x none

-- ---- timers

module _ (me : Me) (shared : List Entry) (now : ℕ) (t : Timer) (x : Course) where
  abbrev rung : Input
  rung = input.Timer t

  pub armed : is_some (end_of t x.state.timers) ≡ true → running me shared now rung x ≡ row me shared now rung (disarm t x)
  armed h = ap (λ b. if b then x ▸ disarm t ▸ timer_comes me now t else dropped x) h

  pub not_armed : is_some (end_of t x.state.timers) ≡ false → running me shared now rung x ≡ Ok x
  not_armed h = ap (λ b. if b then x ▸ disarm t ▸ timer_comes me now t else dropped x) h

-- ---- before the start and then

module _ (me : Me) (m : Store) (now : ℕ) (e : Event) (came : Input) where
  abbrev begins : Course
  begins = at_rest (readings_of m) (state_of e.state)

  abbrev then_runs : Bool → Result Course Which
  then_runs booting = if booting then before_start me now came begins else running me (shared_entries m) now came begins

  module _ (new : Event) (result : Result Unit RoleStop) where
    pub not_started : same_phase (state_of e.state).phase phase.Booting ≡ true → ReachesFrom m e (before_start me now came) new result
        → AnswersInput me m now e came new result
    unfolding react
    not_started h done = subst (λ (r : Result Course Which). Reaches (readings_of m) r new result) (sym (ap then_runs h)) done

    pub started : same_phase (state_of e.state).phase phase.Booting ≡ false → ReachesFrom m e (running me (shared_entries m) now came) new result
        → AnswersInput me m now e came new result
    unfolding react
    started h done = subst (λ (r : Result Course Which). Reaches (readings_of m) r new result) (sym (ap then_runs h)) done
