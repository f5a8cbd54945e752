-- How an event goes on as the protocol's course does.
use Rattle.std.proofs.Common.{◌≡◌, List, ◌++◌, refl, sym, ap, subst, ◌∙◌}
use Rattle.std.specs.List.{AllByRecursion}
use Rattle.mon_msg.specs.Protocol.Changes.{Change, encoded}
use Rattle.mon_msg.specs.Protocol.Course.{Course, change_all, say}
use Rattle.mon_msg.specs.Protocol.Played.{Fits, played}
use Rattle.mon_msg.specs.Protocol.Readings.{Readings}
use Rattle.mon_msg.specs.Protocol.State.{State}
use Rattle.mon_msg.specs.declared.plan.Plan.{Plan}
use Rattle.mon_msg.specs.declared.plan.Sent.{Sent}
use Rattle.mon_tx.specs.declared.op.Op.{Op}
use Rattle.mon_plan.specs.Plans.{changed, stands, arm_all, sending}
use Rattle.mon_plan.proofs.Planning.{changed-is, sending-is, played-append, encoded-append, fit-append}
use Rattle.mon_event.specs.Events.{Goes, IsCarried, IsUnderWay}
use Rattle.mon_event.specs.State.{state_of}
use Rattle.mon_event.specs.declared.event.Event.{Event}

-- what is remembered changes, and nothing else
pub remembers : (old new : Event) (f : State → State) → new.tx ≡ old.tx → new.out ≡ old.out → state_of new.state ≡ f (state_of old.state)
    → Goes old new (λ x. record x { state = f x.state })
remembers old new f tx out state = λ w x h. record {
  readings = h.readings;
  fit = h.fit;
  encoded = tx ∙ h.encoded;
  out = out ∙ h.out;
  state = state ∙ ap f h.state;
}

-- one step after another
pub then_goes : (a b c : Event) (f g : Course → Course) → Goes a b f → Goes b c g → Goes a c (λ x. g (f x))
then_goes a b c f g one two = λ w x h. two w (f x) (one w x h)

-- changes are written
writes_all : (old new : Event) (tx : List Op) (cs : List Change) → AllByRecursion Fits cs → tx ≡ encoded cs → new ≡ record old { tx = old.tx ++ tx }
    → Goes old new (change_all cs)
writes_all old new tx cs fit is e = λ w x h. record {
  readings = ap (played cs) h.readings ∙ sym (played-append x.changes cs w);
  fit = fit-append x.changes cs h.fit fit;
  encoded = ap (λ (n : Event). n.tx) e ∙ (λ i. h.encoded i ++ is i) ∙ sym (encoded-append x.changes cs);
  out = ap (λ (n : Event). n.out) e ∙ h.out;
  state = ap (λ (n : Event). state_of n.state) e ∙ h.state;
}

-- an event that matches a course matches an equal one
pub along : (w : Readings) (e : Event) (x y : Course) → x ≡ y → IsUnderWay w e x → IsUnderWay w e y
along w e x y same h = subst (IsUnderWay w e) same h

pub writes : (old new : Event) (tx : List Op) (cs : List Change) → AllByRecursion Fits cs → tx ≡ encoded cs → new ≡ record old { tx = old.tx ++ tx }
    → Goes old new (changed cs)
writes old new tx cs fit is e = λ w x h. along w new (change_all cs x) (changed cs x) (sym (changed-is cs x)) (writes_all old new tx cs fit is e w x h)

-- something is sent
pub says_all : (old new : Event) (ms : List Sent) → new ≡ record old { out = old.out ++ ms } → Goes old new (say ms)
says_all old new ms e = λ w x h. record {
  readings = h.readings;
  fit = h.fit;
  encoded = ap (λ (n : Event). n.tx) e ∙ h.encoded;
  out = ap (λ (n : Event). n.out) e ∙ ap (λ (out : List Sent). out ++ ms) h.out;
  state = ap (λ (n : Event). state_of n.state) e ∙ h.state;
}

pub sends : (old new : Event) (ms : List Sent) → new ≡ record old { out = old.out ++ ms } → Goes old new (sending ms)
sends old new ms e = λ w x h. along w new (say ms x) (sending ms x) (sym (sending-is ms x)) (says_all old new ms e w x h)

-- a plan is carried out by what is done before and after the role gets its new state
pub carries : {S : Type 0} (is : S → Course → Course) (e begun set ended : Event) (p : Plan S)
    → ((cs : List Change) → AllByRecursion Fits cs → p.tx ≡ encoded cs → Goes e begun (λ x. changed cs (stands p.next x)))
    → Goes begun set (is p.state) → Goes set ended (λ x. sending p.out (arm_all p.timers x)) → ended.tx ≡ e.tx ++ p.tx
    → IsCarried is e p ended p.next
carries is e begun set ended p first anew last written = record {
  next = refl;
  written = written;
  done = λ cs fit encodes w x h. last w _ (anew w _ (first cs fit encodes w x h));
}
