-- How an event gets the result of a row or an act, after a role has planned it.
use Rattle.std.proofs.Common.{◌≡◌, ℕ, List, Result, Ok, Err, refl, sym, ap, subst, ◌∙◌}
use Rattle.mon_msg.specs.Protocol.Course.{Course}
use Rattle.mon_msg.specs.Protocol.Readings.{Readings, epoch_of, readings_of, shared_entries}
use Rattle.mon_msg.specs.Protocol.State.{State}
use Rattle.mon_msg.specs.Protocol.Table.{at_rest}
use Rattle.mon_msg.specs.declared.input.Input.{Input}
use Rattle.mon_msg.specs.declared.plan.Next.TheVariants as next
use Rattle.mon_msg.specs.declared.plan.Next.{Next}
use Rattle.mon_msg.specs.declared.plan.Plan.{Plan}
use Rattle.mon_msg.specs.declared.plan.RoleStop.TheVariants as stop
use Rattle.mon_msg.specs.declared.plan.RoleStop.{RoleStop}
use Rattle.mon_msg.specs.declared.view.Me.{Me}
use Rattle.mon_msg.specs.declared.view.View.{View}
use Rattle.mon_tx.specs.Map.{Store, apply}
use Rattle.mon_tx.specs.declared.op.Op.{Op}
use Rattle.mon_types.specs.declared.names.Which.{Which}
use Rattle.mon_plan.specs.Inputs.{row}
use Rattle.mon_plan.specs.Plans.{act, done, entered, Does, Plans, PlansAct, PlansRow}
use Rattle.mon_plan.specs.Seen.{IsMet, IsSeen}
use Rattle.mon_stored.proofs.Standing.{readings-after}
use Rattle.mon_core.specs.Acts.{Acts, Carried, KeepsAll}
use Rattle.mon_core.specs.Rows.{AnswersRow, IsReady}
use Rattle.mon_event.specs.Events.{Goes, IsCarried, IsUnderWay, Reaches, remembering}
use Rattle.mon_event.specs.State.{state_of}
use Rattle.mon_event.specs.declared.event.Event.{Event}

-- ---- what the store's readers return

-- the store's readers return what the event's transaction leaves
pub tells : (m : Store) (e : Event) (x : Course) → IsUnderWay (readings_of m) e x → x.readings ≡ readings_of (apply e.tx m)
tells m e x h =
    h.readings ∙ sym (readings-after x.changes h.fit m) ∙ ap (λ (ops : List Op). readings_of (apply ops m)) (sym h.encoded)

pub writes_epoch : (m : Store) (e : Event) (x : Course) → IsUnderWay (readings_of m) e x
    → (epoch : ℕ) → epoch ≡ epoch_of (readings_of (apply e.tx m)) → epoch_of x.readings ≡ epoch
writes_epoch m e x h epoch is = ap epoch_of (tells m e x h) ∙ sym is

-- except for the epoch and the count of starts, they return the same
pub kept : (m : Store) (e : Event) (x : Course) → IsUnderWay (readings_of m) e x → KeepsAll m e.tx
    → x.readings ≡ record (readings_of m) { epoch = x.readings.epoch; boot = x.readings.boot }
kept m e x h k = subst (λ (w : Readings). w ≡ record (readings_of m) { epoch = w.epoch; boot = w.boot }) (sym (tells m e x h)) k

-- ---- plans

module _ {S : Type 0} (me : Me) (now : ℕ) (is : S → Course → Course) (B : Course → Type 0) (start : Course → Course)
    (wanted : Course → Result Course Which) (w : Readings) (x : Course) (b : B x) where
  -- no plan was made
  fails : (e : Event) (why : RoleStop) → Plans me now is B start wanted (Err why) → Reaches w (wanted x) e (Err why)
  fails e stop.OutOfMemory h = tt
  fails e (stop.Spent which) h = h x b

  -- one was made and carried out in an event whose state is its start
  module _ (p : Plan S) (d : Does me now is B start wanted p) (e : Event) (h : IsUnderWay w e (start x))
      (c : Event) (n : Next) (k : IsCarried is e p c n) where
    abbrev after : Course
    after = done is d.changes p (start x)

    under_way : IsUnderWay w c after
    under_way = k.done d.changes d.fit d.encoded w (start x) h

    -- and then the act that it names
    goes_on : (new : Event) (result : Result Unit RoleStop) → ((y : Course) → IsUnderWay w c y → Reaches w (act me now n y) new result)
        → Reaches w (wanted x) new result
    goes_on new result f =
        subst (λ (r : Result Course Which). Reaches w r new result)
        (sym (d.row x b ∙ ap (λ n. act me now n after) (sym k.next)))
        (f after under_way)

    -- and it names none
    ends : p.next ≡ next.Stay → Reaches w (wanted x) c (Ok tt)
    ends stays = record {
      course = after;
      wanted_is = d.row x b ∙ ap (λ n. act me now n after) stays;
      under_way = under_way;
    }

-- ---- an act, which has a plan of its own once the monitor is in the act's phase

module _ {S : Type 0} (me : Me) (now : ℕ) (m : Store) (is : S → Course → Course) (n : Next) (e : Event)
    (B : Course → Type 0) (before : (x : Course) → IsUnderWay (readings_of m) e x → B x) where
  pub act_fails : (new : Event) (why : RoleStop) → PlansAct me now is B n (Err why) → Acts me m now e n new (Err why)
  act_fails new why h = λ x u. fails me now is B (entered n) (act me now n) (readings_of m) x (before x u) new why h

  module _ (begun : Event) (enters : Goes e begun (entered n)) (p : Plan S) (d : Does me now is B (entered n) (act me now n) p)
      (c : Event) (then_act : Next) (k : IsCarried is begun p c then_act) where
    pub act_ends : p.next ≡ next.Stay → Acts me m now e n c (Ok tt)
    act_ends stays = λ x u.
        ends me now is B (entered n) (act me now n) (readings_of m) x (before x u) p d begun (enters (readings_of m) x u) c then_act k stays

    pub act_goes_on : (new : Event) (result : Result Unit RoleStop) → Acts me m now c then_act new result → Acts me m now e n new result
    act_goes_on new result f = λ x u.
        goes_on me now is B (entered n) (act me now n) (readings_of m) x (before x u) p d begun (enters (readings_of m) x u) c then_act k new result f

-- ---- a row, of an event that has just begun

pub rests : (me : Me) (m : Store) (e : Event) → IsReady me e → IsUnderWay (readings_of m) e (at_rest (readings_of m) (state_of e.state))
rests me m e r = record { readings = refl; fit = tt; encoded = r.unwritten; out = r.unsent; state = refl }

-- the role that sets its state by `put` plans the row
module _ {S : Type 0} (put : S → State → State) (role_in : State → S) (me : Me) (now : ℕ) (m : Store)
    (e : Event) (r : IsReady me e) (came : Input) (view : View) (seen : IsSeen me now (readings_of m) (state_of e.state) view) where
  abbrev Before : Course → Type 0
  Before = IsMet me now (readings_of m) view role_in (role_in (state_of e.state))

  abbrev wanted : Course → Result Course Which
  wanted = row me (shared_entries m) now came

  abbrev begins : Course
  begins = at_rest (readings_of m) (state_of e.state)

  met : Before begins
  met = record { readings = refl; role = refl; seen = seen }

  pub row_fails : (new : Event) (why : RoleStop) (result : Result Unit RoleStop) → result ≡ Err why
      → PlansRow me now (remembering put) Before wanted (Err why) → AnswersRow me m now e came new result
  row_fails new why result is h =
      subst (λ (x : Result Unit RoleStop). AnswersRow me m now e came new x) (sym is) (fails me now (remembering put) Before (λ x. x) wanted (readings_of m) begins met new why h)

  pub row_goes_on : (p : Plan S) → Does me now (remembering put) Before (λ x. x) wanted p → (new : Event) (result : Result Unit RoleStop)
      → Carried put me m now e p new result → AnswersRow me m now e came new result
  row_goes_on p d new result f =
      subst (λ (x : Result Course Which). Reaches (readings_of m) x new result) (sym (d.row begins met)) (f d.changes d.fit d.encoded begins (rests me m e r))
