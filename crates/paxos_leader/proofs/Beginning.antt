-- A leader's acts as they are entered, and its renewal of leases.
use Rattle.std.proofs.Common.{◌≡◌, ℕ, Bool, true, false, not, cond, List, [], ◌∷◌, map, Option, Some, Ok, Err, refl, sym, ap, subst, ◌∙◌}
use Rattle.std.specs.List.{AllByRecursion}
use Rattle.mon_msg.specs.Protocol.Changes.{encoded}
use Rattle.mon_msg.specs.Protocol.Collecting.{collect, reign}
use Rattle.mon_msg.specs.Protocol.Course.{Course, ◌▸◌, ◌>>=◌, arm_if, in_phase, leader_is, leads_in, say}
use Rattle.mon_msg.specs.Protocol.Leader.{renew}
use Rattle.mon_msg.specs.Protocol.Leading.{be_active, begin_alone, extend, has_queue}
use Rattle.mon_msg.specs.Protocol.Learning.{learn}
use Rattle.mon_msg.specs.Protocol.Phases.{phase_of, is_leading, same_phase}
use Rattle.mon_msg.specs.Protocol.Played.{Fits, played}
use Rattle.mon_msg.specs.Protocol.Readings.{Readings, readings_of, epoch_of}
use Rattle.mon_msg.specs.Protocol.Sending.{members, message_to, answers_to, answer_any}
use Rattle.mon_msg.specs.Protocol.State.{start_leader}
use Rattle.mon_msg.specs.Protocol.Timers.{only_ping}
use Rattle.mon_msg.specs.declared.paxos.Leader.{Leader}
use Rattle.mon_msg.specs.declared.paxos.LeaderStage.TheVariants as stage
use Rattle.mon_msg.specs.declared.paxos.LeaderStage.{LeaderStage}
use Rattle.mon_msg.specs.declared.plan.Origin.{Origin}
use Rattle.mon_msg.specs.declared.plan.Next.TheVariants as next
use Rattle.mon_msg.specs.declared.plan.Plan.{Plan}
use Rattle.mon_msg.specs.declared.plan.RoleStop.TheVariants as stop
use Rattle.mon_msg.specs.declared.plan.RoleStop.{RoleStop}
use Rattle.mon_msg.specs.declared.plan.Sent.{Sent}
use Rattle.mon_msg.specs.declared.view.Me.{Me}
use Rattle.mon_tx.specs.Map.{Store, apply}
use Rattle.mon_tx.specs.declared.op.Op.{Op}
use Rattle.mon_wire.specs.declared.body.Body.TheVariants as body
use Rattle.mon_wire.specs.declared.phase.Phase.TheVariants as phase
use Rattle.mon_wire.specs.declared.phase.Timer.TheVariants as timer
use Rattle.mon_wire.specs.declared.reply.Reply.TheVariants as reply
use Rattle.mon_plan.specs.Learned.{Learns, learned}
use Rattle.mon_plan.specs.Plans.{Does, Plans, changed, leads, done, act}
use Rattle.mon_plan.proofs.Planning.{sending-is}
use Rattle.mon_stored.proofs.Standing.{readings-after}
use Rattle.paxos_leader.specs.Drafts.{IsAsking, IsHere, IsLed, IsWon, under_way}
use Rattle.paxos_leader.proofs.Acting.{begin_alone-is}
use Rattle.paxos_leader.proofs.Going.{finish, done-is, so_far, under_way-is}
use Rattle.paxos_leader.proofs.Settling.{collect-fresh}

-- ---- one that has won

abbrev pub victories : Me → (epoch : ℕ) → List Bool → List Sent
victories me epoch quorum = map (message_to me epoch (body.Victory quorum)) (members me quorum)

module _ (me : Me) (now e : ℕ) (w : Readings) (quorum : List Bool) (x : Course) (b : IsWon e w x) where
  abbrev pub entered_so : Course
  entered_so = under_way [] (victories me e quorum) start_leader (in_phase phase.Collecting x)

  pub entered-asks : IsAsking e w entered_so
  entered-asks =
      let there : IsAsking e w (so_far [] (victories me e quorum) start_leader (in_phase phase.Collecting x)) = record { epoch = b.epoch; kept = b.kept; phase = refl; stage = refl } in
      subst (IsAsking e w) (sym (under_way-is [] (victories me e quorum) start_leader (in_phase phase.Collecting x))) there

  pub reign-is : reign me now quorum x ≡ collect me now quorum 0 entered_so
  unfolding reign
  reign-is =
      (λ i. collect me now quorum 0 (say (map (message_to me (b.epoch i) (body.Victory quorum)) (members me quorum)) (in_phase phase.Collecting x)))
      ∙ sym (collect-fresh me now quorum 0 (say (victories me e quorum) (in_phase phase.Collecting x)) start_leader)
      ∙ ap (λ z. collect me now quorum 0 (leader_is start_leader z)) (sym (sending-is (victories me e quorum) (in_phase phase.Collecting x)))

-- ---- one that begins a value

leads-of : (s : LeaderStage) → is_leading (phase_of s) ≡ true
leads-of stage.Collecting = refl
leads-of stage.Previous = refl
leads-of stage.Active = refl
leads-of stage.Updating = refl

pub led-leads : (w : Readings) (l : Leader) (x : Course) → IsLed w l x → is_leading x.state.phase ≡ true
led-leads w l x b = ap is_leading b.phase ∙ leads-of l.stage

pub led-here : (w : Readings) (l : Leader) (x : Course) → IsLed w l x → IsHere (epoch_of w) w.last x
led-here w l x b = record { epoch = ap epoch_of b.readings; last = ap (λ (r : Readings). r.last) b.readings; leads = led-leads w l x b }

-- what the store's readers return once a value is learned
pub learned-epoch : (v : ℕ) (value : List Op) → AllByRecursion Fits (learned v (value ∷ [])) → (kv : Store) (tx : List Op) → tx ≡ encoded (learned v (value ∷ []))
    → (y : Course) → y.readings ≡ readings_of kv → epoch_of (played (learned v (value ∷ [])) y.readings) ≡ epoch_of (readings_of (apply tx kv))
learned-epoch v value fit kv tx encodes y h =
    ap (λ r. epoch_of (played (learned v (value ∷ [])) r)) h
    ∙ sym (ap epoch_of (readings-after (learned v (value ∷ [])) fit kv))
    ∙ ap (λ ops. epoch_of (readings_of (apply ops kv))) (sym encodes)

-- ---- one that renews its lease

same_active : (s : LeaderStage) → phase_of s ≡ phase.Active → s ≡ stage.Active
same_active stage.Active h = refl
same_active stage.Collecting h = cc
same_active stage.Previous h = cc
same_active stage.Updating h = cc

active-already : (x : Course) → x.state.phase ≡ phase.Active → phase_of x.state.leader.stage ≡ x.state.phase → leads_in stage.Active x ≡ x
active-already x h s =
    let is : x.state.leader.stage ≡ stage.Active = same_active x.state.leader.stage (s ∙ h) in
    let same : same_phase x.state.phase phase.Active ≡ true = ap (λ p. same_phase p phase.Active) h in
    λ i. record x {
      state = record x.state {
        phase = sym h i;
        timers = cond (same i) x.state.timers (only_ping x.state.timers);
        leader = record x.state.leader { stage = sym is i };
      };
    }

module _ (me : Me) (now : ℕ) (x : Course) where
  pub renew-active : x.state.phase ≡ phase.Active → phase_of x.state.leader.stage ≡ x.state.phase → renew me now x ≡ Ok (be_active me now x)
  unfolding renew be_active
  renew-active h s =
      ap (λ b. cond (not b) (Ok x) (Ok (x ▸ extend me now ▸ arm_if (has_queue x) now timer.Propose))) (ap (λ p. same_phase p phase.Active) h)
      ∙ ap (λ z. Ok (z ▸ extend me now ▸ arm_if (has_queue x) now timer.Propose)) (sym (active-already x h s))

  pub renew-other : same_phase x.state.phase phase.Active ≡ false → renew me now x ≡ Ok x
  unfolding renew
  renew-other h = ap (λ b. cond (not b) (Ok x) (Ok (x ▸ extend me now ▸ arm_if (has_queue x) now timer.Propose))) h

-- ---- one that begins alone

module _ (me : Me) (now : ℕ) where
  pub alone-spent : (At : Course → Type 0) (v : ℕ) (value : List Op) (o : Option Origin) (e : RoleStop) → Learns v (value ∷ []) (Err e)
      → Plans me now leads At (λ x. x) (begin_alone me v value o) (Err e)
  unfolding begin_alone
  alone-spent At v value o stop.OutOfMemory h = tt
  alone-spent At v value o (stop.Spent which) h = λ x b. ap (λ r. r >>= (λ z. Ok (z ▸ leads_in stage.Active ▸ answer_any me o (reply.Done v)))) (h x)

  module _ (kv : Store) (l : Leader) (v : ℕ) (value : List Op) (o : Origin) (fit : AllByRecursion Fits (learned v (value ∷ []))) (tx : List Op) (encodes : tx ≡ encoded (learned v (value ∷ [])))
      (learns : (y : Course) → learn v (value ∷ []) y ≡ Ok (changed (learned v (value ∷ [])) y)) where
    abbrev heard : List Sent
    heard = answers_to me (epoch_of (readings_of (apply tx kv))) (Some o) (reply.Done v)

    pub alone-answers : (p : Plan Leader) → p.tx ≡ tx → p.out ≡ heard → p.timers ≡ [] → p.state ≡ record l { stage = stage.Active } → p.next ≡ next.Stay
        → Does me now leads (IsLed (readings_of kv) l) (λ x. x) (begin_alone me v value (Some o)) p
    alone-answers p is_tx out timers state stays = record {
      changes = learned v (value ∷ []);
      fit = fit;
      encoded = is_tx ∙ encodes;
      row = λ x b.
          begin_alone-is me now x v value (Some o) (led-leads (readings_of kv) l x b) (learns x)
          ∙ (λ i. Ok (finish (learned v (value ∷ [])) (answers_to me (learned-epoch v value fit kv tx encodes x b.readings i) (Some o) (reply.Done v)) [] (record (b.role i) { stage = stage.Active }) x))
          ∙ (λ i. Ok (finish (learned v (value ∷ [])) (sym out i) (sym timers i) (sym state i) x))
          ∙ ap Ok (sym (done-is (learned v (value ∷ [])) p x stays))
          ∙ sym (ap (λ n. act me now n (done leads (learned v (value ∷ [])) p x)) stays);
    }
