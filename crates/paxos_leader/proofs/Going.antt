-- Plans of a leader, part by part, and calls that hand an act on.
use Rattle.std.proofs.Common.{◌≡◌, ◌≢◌, ℕ, false, cond, List, [], ◌++◌, Option, None, Result, Ok, Err, refl, sym, ap, subst, ◌∙◌, append_assoc, set, get_or-set_other}
use Rattle.std.specs.List.{AllByRecursion}
use Rattle.mon_msg.specs.Protocol.Changes.{Change, encoded}
use Rattle.mon_msg.specs.Protocol.Course.{Course, ◌▸◌, ◌>>=◌, say, disarm, leader_is, timers_in}
use Rattle.mon_msg.specs.Protocol.Leading.{has_queue}
use Rattle.mon_msg.specs.Protocol.Phases.{same_phase}
use Rattle.mon_msg.specs.Protocol.Played.{Fits, played}
use Rattle.mon_msg.specs.Protocol.Timers.{index_of, disarmed, only_ping, unarmed}
use Rattle.mon_msg.specs.declared.paxos.Leader.{Leader}
use Rattle.mon_msg.specs.declared.plan.Arming.{Arming}
use Rattle.mon_msg.specs.declared.plan.Next.TheVariants as next
use Rattle.mon_msg.specs.declared.plan.Plan.{Plan}
use Rattle.mon_msg.specs.declared.plan.RoleStop.TheVariants as stop
use Rattle.mon_msg.specs.declared.plan.RoleStop.{RoleStop}
use Rattle.mon_msg.specs.declared.plan.Sent.{Sent}
use Rattle.mon_msg.specs.declared.view.Me.{Me}
use Rattle.mon_types.specs.declared.names.Which.{Which}
use Rattle.mon_wire.specs.declared.phase.Timer.{Timer}
use Rattle.mon_plan.specs.Plans.{Does, Plans, changed, sending, stands, phase_as, leads, all_armed, arm_all, done, act}
use Rattle.mon_plan.proofs.Planning.{played-append, changed-is, sending-is, encoded-append, fit-append, weaken, instead}
use Rattle.paxos_leader.specs.Drafts.{under_way, GoesOn}
use Rattle.paxos_leader.specs.declared.draft.Draft.{Draft}

-- the effect of a leader's plan that names no act
abbrev pub finish : List Change → List Sent → List Arming → Leader → Course → Course
finish cs ms armings l y = record y {
  readings = played cs y.readings;
  changes = y.changes ++ cs;
  state = record y.state {
    phase = phase_as l.stage y.state.phase;
    timers = all_armed (has_queue y) armings (timers_in (phase_as l.stage y.state.phase) y.state);
    leader = l;
  };
  out = y.out ++ ms;
}

pub done-is : (cs : List Change) (p : Plan Leader) (x : Course) → p.next ≡ next.Stay → done leads cs p x ≡ finish cs p.out p.timers p.state x
done-is cs p x stays =
    ap (λ n. x ▸ stands n ▸ changed cs ▸ leads p.state ▸ arm_all p.timers ▸ sending p.out) stays
    ∙ sending-is p.out (x ▸ changed cs ▸ leads p.state ▸ arm_all p.timers)
    ∙ ap (λ z. z ▸ leads p.state ▸ arm_all p.timers ▸ say p.out) (changed-is cs x)

-- ---- an event under way

abbrev pub so_far : List Change → List Sent → Leader → Course → Course
so_far cs sends l x = record x {
  readings = played cs x.readings;
  changes = x.changes ++ cs;
  state = record x.state { leader = l };
  out = x.out ++ sends;
}

pub under_way-is : (cs : List Change) (sends : List Sent) (l : Leader) (x : Course) → under_way cs sends l x ≡ so_far cs sends l x
under_way-is cs sends l x = ap (leader_is l) (sending-is sends (changed cs x) ∙ ap (say sends) (changed-is cs x))

module _ (cs ds : List Change) (out ms : List Sent) (l new : Leader) (x : Course) where
  further : so_far (cs ++ ds) (out ++ ms) new x ≡ so_far ds ms new (so_far cs out l x)
  further = λ i. record x {
    readings = played-append cs ds x.readings i;
    changes = sym (append_assoc x.changes cs ds) i;
    state = record x.state { leader = new };
    out = sym (append_assoc x.out out ms) i;
  }

  pub moved : under_way (cs ++ ds) (out ++ ms) new x ≡ under_way ds ms new (under_way cs out l x)
  moved =
      under_way-is (cs ++ ds) (out ++ ms) new x ∙ further
      ∙ ap (so_far ds ms new) (sym (under_way-is cs out l x))
      ∙ sym (under_way-is ds ms new (under_way cs out l x))

  pub finish-on : (armings : List Arming) → finish (cs ++ ds) (out ++ ms) armings new x ≡ finish ds ms armings new (under_way cs out l x)
  finish-on armings =
      (λ i. record x {
        readings = played-append cs ds x.readings i;
        changes = sym (append_assoc x.changes cs ds) i;
        state = record x.state {
          phase = phase_as new.stage x.state.phase;
          timers = all_armed (has_queue x) armings (timers_in (phase_as new.stage x.state.phase) x.state);
          leader = new;
        };
        out = sym (append_assoc x.out out ms) i;
      })
      ∙ ap (finish ds ms armings new) (sym (under_way-is cs out l x))

-- ---- calls that go on

module _ (me : Me) (now : ℕ) (At : Course → Type 0) (d : Draft) (wanted : Course → Result Course Which) where
  -- a plan goes on with a draft if its parts are the draft's with the rest of the act's
  pub goes : (ds : List Change) → AllByRecursion Fits ds → (ms : List Sent) (armings : List Arming) (new : Leader)
      → ((y : Course) → At y → y.state.leader ≡ d.state → wanted y ≡ Ok (finish ds ms armings new y))
      → (p : Plan Leader) → p.tx ≡ d.tx ++ encoded ds → p.out ≡ d.out ++ ms → p.timers ≡ armings → p.state ≡ new → p.next ≡ next.Stay
      → GoesOn me now At d wanted (Ok p)
  goes ds fit ms armings new law p tx out timers state stays cs fits is = record {
    changes = cs ++ ds;
    fit = fit-append cs ds fits fit;
    encoded = tx ∙ ap (λ ops. ops ++ encoded ds) is ∙ sym (encoded-append cs ds);
    row = λ x b.
        law (under_way cs d.out d.state x) b refl
        ∙ ap Ok (
        sym (finish-on cs ds d.out ms d.state new x armings)
        ∙ (λ i. finish (cs ++ ds) (sym out i) (sym timers i) (sym state i) x)
        ∙ sym (done-is (cs ++ ds) p x stays)
        )
        ∙ sym (ap (λ n. act me now n (done leads (cs ++ ds) p x)) stays);
  }

  -- what is wanted may be replaced by what equals it
  pub otherwise : (other : Course → Result Course Which) → ((y : Course) → At y → y.state.leader ≡ d.state → wanted y ≡ other y)
      → (r : Result (Plan Leader) RoleStop) → GoesOn me now At d other r → GoesOn me now At d wanted r
  otherwise other same r h cs fits is =
      instead me now leads (λ x. At (under_way cs d.out d.state x)) (λ x. x) (λ x. other (under_way cs d.out d.state x)) (λ x. wanted (under_way cs d.out d.state x)) r
      (λ x b. same (under_way cs d.out d.state x) b refl) (h cs fits is)

  -- another call may finish the act, from a draft with more changes made and more sent
  pub hands_on : (Bt : Course → Type 0) (e : Draft) (other : Course → Result Course Which) (ds : List Change) → AllByRecursion Fits ds → (ms : List Sent)
      → e.tx ≡ d.tx ++ encoded ds → e.out ≡ d.out ++ ms
      → ((y : Course) → At y → y.state.leader ≡ d.state → Bt (under_way ds ms e.state y))
      → ((y : Course) → At y → y.state.leader ≡ d.state → wanted y ≡ other (under_way ds ms e.state y))
      → (r : Result (Plan Leader) RoleStop) → GoesOn me now Bt e other r → GoesOn me now At d wanted r
  hands_on Bt e other ds fit ms tx out there same r h cs fits is =
      let new : (x : Course) → under_way (cs ++ ds) e.out e.state x ≡ under_way ds ms e.state (under_way cs d.out d.state x) =
      λ x. ap (λ o. under_way (cs ++ ds) o e.state x) out ∙ moved cs ds d.out ms d.state e.state x in
      instead me now leads (λ x. At (under_way cs d.out d.state x)) (λ x. x) (λ x. other (under_way (cs ++ ds) e.out e.state x)) (λ x. wanted (under_way cs d.out d.state x)) r
      (λ x b. same (under_way cs d.out d.state x) b refl ∙ sym (ap other (new x)))
      (weaken me now leads (λ x. Bt (under_way (cs ++ ds) e.out e.state x)) (λ x. At (under_way cs d.out d.state x)) (λ x. x) (λ x. other (under_way (cs ++ ds) e.out e.state x)) r
      (λ x b. subst Bt (sym (new x)) (there (under_way cs d.out d.state x) b refl))
      (h (cs ++ ds) (fit-append cs ds fits fit) (tx ∙ ap (λ ops. ops ++ encoded ds) is ∙ sym (encoded-append cs ds))))

-- a call that goes on if nothing is written yet, as a row or as an act
pub from_start : (me : Me) (now : ℕ) (Bt : Course → Type 0) (e : Draft) (other : Course → Result Course Which) (r : Result (Plan Leader) RoleStop)
    → e.tx ≡ [] → GoesOn me now Bt e other r
    → (A : Course → Type 0) (start : Course → Course) (wanted : Course → Result Course Which)
    → ((x : Course) → A x → Bt (under_way [] e.out e.state (start x)))
    → ((x : Course) → A x → wanted x ≡ other (under_way [] e.out e.state (start x)))
    → Plans me now leads A start wanted r
from_start me now Bt e other (Ok p) none h A start wanted there same =
    let g = h [] tt none in
    record { changes = g.changes; fit = g.fit; encoded = g.encoded; row = λ x b. same x b ∙ g.row (start x) (there x b) }
from_start me now Bt e other (Err stop.OutOfMemory) none h A start wanted there same = tt
from_start me now Bt e other (Err (stop.Spent which)) none h A start wanted there same = λ x b. same x b ∙ h [] tt none (start x) (there x b)

-- ---- what is sent besides

abbrev pub then_say : List Sent → Result Course Which → Result Course Which
then_say ms r = r >>= (λ y. Ok (say ms y))

module _ (me : Me) (now : ℕ) (B : Course → Type 0) (start : Course → Course) (wanted other : Course → Result Course Which) (ms : List Sent) where
  pub says_on : ((x : Course) → B x → other x ≡ then_say ms (wanted x)) → (p q : Plan Leader) → p.next ≡ next.Stay → q ≡ record p { out = p.out ++ ms }
      → Does me now leads B start wanted p → Does me now leads B start other q
  says_on same p q stays is h = record {
    changes = h.changes;
    fit = h.fit;
    encoded = ap (λ (p : Plan Leader). p.tx) is ∙ h.encoded;
    row = λ x b.
        same x b
        ∙ ap (then_say ms) (h.row x b)
        ∙ ap (λ n. then_say ms (act me now n (done leads h.changes p (start x)))) stays
        ∙ ap (λ y. Ok (say ms y)) (done-is h.changes p (start x) stays)
        ∙ (λ i. Ok (record (finish h.changes p.out p.timers p.state (start x)) { out = append_assoc (start x).out p.out ms i }))
        ∙ sym (done_stays h.changes (record p { out = p.out ++ ms }) (start x) stays)
        ∙ sym (λ i. act me now (is i).next (done leads h.changes (is i) (start x)));
  }
    where
      done_stays : (cs : List Change) (p : Plan Leader) (x : Course) → p.next ≡ next.Stay → act me now p.next (done leads cs p x) ≡ Ok (finish cs p.out p.timers p.state x)
      done_stays cs p x h = ap (λ n. act me now n (done leads cs p x)) h ∙ ap Ok (done-is cs p x h)

-- ---- timers of a phase that is left

pub only_ping-disarmed : (t : Timer) (timers : List (Option ℕ)) → 10 ≢ index_of t → only_ping (disarmed t timers) ≡ only_ping timers
only_ping-disarmed t timers other = ap (set unarmed 10) (get_or-set_other timers (index_of t) 10 None None other)

pub finish-unarmed : (ds : List Change) (ms : List Sent) (armings : List Arming) (l : Leader) (t : Timer) (y : Course)
    → same_phase y.state.phase (phase_as l.stage y.state.phase) ≡ false → 10 ≢ index_of t → finish ds ms armings l (disarm t y) ≡ finish ds ms armings l y
finish-unarmed ds ms armings l t y left other =
    let timers = y.state.timers in
    let same : timers_in (phase_as l.stage y.state.phase) (record y.state { timers = disarmed t timers }) ≡ timers_in (phase_as l.stage y.state.phase) y.state =
    ap (λ b. cond b (disarmed t timers) (only_ping (disarmed t timers))) left ∙ only_ping-disarmed t timers other ∙ sym (ap (λ b. cond b timers (only_ping timers)) left) in
    λ i. record y {
      readings = played ds y.readings;
      changes = y.changes ++ ds;
      state = record y.state { phase = phase_as l.stage y.state.phase; timers = all_armed (has_queue y) armings (same i); leader = l };
      out = y.out ++ ms;
    }
