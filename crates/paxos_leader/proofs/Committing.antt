-- A value that all of the quorum accepted.
use Rattle.std.proofs.Common.{◌≡◌, ℕ, suc, ◌<◌, ◌^◌, true, false, List, [], ◌∷◌, ◌++◌, map, Option, Some, None, Result, Ok, Err, refl, sym, ap, subst, ◌∙◌, arith}
use Rattle.std.specs.List.{AllByRecursion}
use Rattle.mon_msg.specs.Protocol.Changes.{encoded}
use Rattle.mon_msg.specs.Protocol.Course.{Course, ◌▸◌, ◌>>=◌, disarm, leader_is, say}
use Rattle.mon_msg.specs.Protocol.Leader.{is_one_of, commit_any}
use Rattle.mon_msg.specs.Protocol.Leading.{be_active, commit, extend}
use Rattle.mon_msg.specs.Protocol.Learning.{learn}
use Rattle.mon_msg.specs.Protocol.Phases.{is_leading, same_phase}
use Rattle.mon_msg.specs.Protocol.Played.{Fits, played}
use Rattle.mon_msg.specs.Protocol.Readings.{Readings, readings_of, epoch_of}
use Rattle.mon_msg.specs.Protocol.Sending.{members, message_to, send_each, answers_to, answer_any}
use Rattle.mon_msg.specs.declared.paxos.Leader.{Leader}
use Rattle.mon_msg.specs.declared.paxos.LeaderStage.TheVariants as stage
use Rattle.mon_msg.specs.declared.plan.Next.TheVariants as next
use Rattle.mon_msg.specs.declared.plan.Plan.{Plan}
use Rattle.mon_msg.specs.declared.plan.RoleStop.TheVariants as stop
use Rattle.mon_msg.specs.declared.plan.RoleStop.{RoleStop}
use Rattle.mon_msg.specs.declared.plan.Sent.{Sent}
use Rattle.mon_msg.specs.declared.view.Me.{Me}
use Rattle.mon_tx.specs.Map.{Store, apply}
use Rattle.mon_tx.specs.declared.op.Op.{Op}
use Rattle.mon_types.specs.declared.names.Which.TheVariants as which
use Rattle.mon_types.specs.declared.names.Which.{Which}
use Rattle.mon_wire.specs.declared.body.Body.TheVariants as body
use Rattle.mon_wire.specs.declared.phase.Phase.TheVariants as phase
use Rattle.mon_wire.specs.declared.phase.Phase.{Phase}
use Rattle.mon_wire.specs.declared.phase.Timer.TheVariants as timer
use Rattle.mon_wire.specs.declared.reply.Reply.TheVariants as reply
use Rattle.mon_plan.specs.Learned.{Learns, learned}
use Rattle.mon_plan.specs.Plans.{changed, phase_as}
use Rattle.mon_plan.proofs.Learning.{learn-spent}
use Rattle.mon_plan.proofs.Planning.{sending-is, weaken}
use Rattle.mon_stored.proofs.Standing.{readings-after}
use Rattle.paxos_leader.specs.Drafts.{GoesOn, IsHere, IsVoted, under_way}
use Rattle.paxos_leader.specs.Parts.{announced, without_value}
use Rattle.paxos_leader.specs.declared.draft.Draft.{Draft}
use Rattle.paxos_leader.proofs.Acting.{be_active-unarmed}
use Rattle.paxos_leader.proofs.Going.{says_on}

active-readings : (me : Me) (now : ℕ) (z : Course) → (be_active me now z).readings ≡ z.readings
unfolding be_active extend
active-readings me now z = refl

-- ---- the members hear of it

module _ (me : Me) (now epoch last v : ℕ) (l : Leader) (values : List (List Op)) where
  abbrev pub news : List Sent
  news = map (message_to me epoch (body.Commit v values)) (members me l.quorum)

  abbrev pub heard : List Sent
  heard = answers_to me epoch l.origin (reply.Done v)

  module _ (x : Course) (b : IsHere epoch last (leader_is l x)) where
    abbrev told : Course
    told = leader_is (without_value l) (say news x)

    announced-is : announced me now v values (leader_is l x) ≡ Ok (say heard (be_active me now (leader_is (without_value l) (say news x))))
    announced-is =
        (λ i. Ok (answer_any me l.origin (reply.Done v) (be_active me now (leader_is (without_value l) (say (map (message_to me (b.epoch i) (body.Commit v values)) (members me l.quorum)) x)))))
        ∙ ap (λ r. Ok (say (answers_to me (epoch_of r) l.origin (reply.Done v)) (be_active me now told))) (active-readings me now told)
        ∙ ap (λ e. Ok (say (answers_to me e l.origin (reply.Done v)) (be_active me now told))) b.epoch

  -- by a plan of one that is active
  pub announces : (tx : List Op) (d : Draft) → d.tx ≡ tx → d.out ≡ news → d.state ≡ without_value l → (p q : Plan Leader) → p.next ≡ next.Stay → q ≡ record p { out = p.out ++ heard }
      → GoesOn me now (IsHere epoch last) d (λ y. Ok (be_active me now y)) (Ok p)
      → GoesOn me now (IsHere epoch last) (record { tx = tx; out = []; state = l }) (announced me now v values) (Ok q)
  announces tx d is_tx is_out is_state p q stays is h cs fit encodes =
      let At : Course → Type 0 = λ (x : Course). IsHere epoch last (under_way cs [] l x) in
      let way : (x : Course) → under_way cs d.out d.state x ≡ leader_is (without_value l) (say news (changed cs x)) =
      λ (x : Course). (λ i. under_way cs (is_out i) (is_state i) x) ∙ ap (leader_is (without_value l)) (sending-is news (changed cs x)) in
      says_on me now At (λ x. x) (λ x. Ok (be_active me now (under_way cs d.out d.state x))) (λ x. announced me now v values (under_way cs [] l x)) heard
      (λ x b. announced-is (changed cs x) b ∙ sym (ap (λ z. Ok (say heard (be_active me now z))) (way x)))
      p q stays is
      (weaken me now _ (λ x. IsHere epoch last (under_way cs d.out d.state x)) At (λ x. x) (λ x. Ok (be_active me now (under_way cs d.out d.state x))) (Ok p)
      (λ x b.
      let here : IsHere epoch last (leader_is (without_value l) (say news (changed cs x))) = record { epoch = b.epoch; last = b.last; leads = b.leads } in
      subst (IsHere epoch last) (sym (way x)) here)
      (h cs fit (is_tx ∙ encodes)))

-- ---- phases

pub voted-leads : (p : Phase) → is_one_of (phase.Previous ∷ phase.Updating ∷ []) p ≡ true → is_leading p ≡ true
voted-leads phase.Previous h = refl
voted-leads phase.Updating h = refl
voted-leads phase.Booting h = cc
voted-leads phase.Probing h = cc
voted-leads phase.Synchronizing h = cc
voted-leads phase.Electing h = cc
voted-leads phase.Collecting h = cc
voted-leads phase.Active h = cc
voted-leads phase.Peon h = cc

voted-left : (p : Phase) → is_one_of (phase.Previous ∷ phase.Updating ∷ []) p ≡ true → same_phase p (phase_as stage.Active p) ≡ false
voted-left phase.Previous h = refl
voted-left phase.Updating h = refl
voted-left phase.Booting h = cc
voted-left phase.Probing h = cc
voted-left phase.Synchronizing h = cc
voted-left phase.Electing h = cc
voted-left phase.Collecting h = cc
voted-left phase.Active h = cc
voted-left phase.Peon h = cc

-- ---- it is committed

module _ (me : Me) (now : ℕ) (value : List Op) where
  abbrev rest : (v : ℕ) → Course → Result Course Which
  rest v z =
      let leader = z.state.leader in
      Ok (z
      ▸ disarm timer.Accept
      ▸ leader_is (without_value leader)
      ▸ send_each me (members me leader.quorum) (body.Commit v (value ∷ []))
      ▸ be_active me now
      ▸ answer_any me leader.origin (reply.Done v))

  commit-is : (y : Course) → commit me now value y ≡ (learn (suc y.readings.last) (value ∷ []) y >>= rest (suc y.readings.last))
  unfolding commit
  commit-is y = refl

  module _ (v : ℕ) (y : Course) (is : v ≡ suc y.readings.last) where
    by_version : commit me now value y ≡ (learn v (value ∷ []) y >>= rest v)
    by_version = commit-is y ∙ ap (λ n. learn n (value ∷ []) y >>= rest n) (sym is)

    module _ (l : Leader) (role : y.state.leader ≡ record l { value = Some value }) (votes : is_one_of (phase.Previous ∷ phase.Updating ∷ []) y.state.phase ≡ true) where
      abbrev after : Course
      after = changed (learned v (value ∷ [])) y

      abbrev sent : Course
      sent = after ▸ leader_is (without_value l) ▸ send_each me (members me l.quorum) (body.Commit v (value ∷ []))

      pub commit-announces : learn v (value ∷ []) y ≡ Ok after → commit me now value y ≡ announced me now v (value ∷ []) (leader_is l after)
      commit-announces h =
          by_version
          ∙ ap (λ r. r >>= rest v) h
          ∙ (λ i. Ok (after
          ▸ disarm timer.Accept
          ▸ leader_is (without_value (role i))
          ▸ send_each me (members me (role i).quorum) (body.Commit v (value ∷ []))
          ▸ be_active me now
          ▸ answer_any me (role i).origin (reply.Done v)))
          ∙ ap (λ z. Ok (answer_any me l.origin (reply.Done v) z))
          (be_active-unarmed me now timer.Accept sent (voted-leads y.state.phase votes) (omega arith) (voted-left y.state.phase votes))

  pub commit-over : (last : ℕ) (y : Course) → y.readings.last ≡ last → 2 ^ 62 < suc last → commit me now value y ≡ Err which.Version
  commit-over last y h over =
      commit-is y ∙ ap (λ r. r >>= rest (suc y.readings.last)) (learn-spent (suc y.readings.last) value [] y (omega (arith, over, h)))

  pub commit-fails : (w : Readings) (d : Draft) (v : ℕ) → v ≡ suc w.last → (e : RoleStop) → Learns v (value ∷ []) (Err e) → GoesOn me now (IsVoted w) d (commit me now value) (Err e)
  commit-fails w d v is stop.OutOfMemory h cs fit encodes = tt
  commit-fails w d v is (stop.Spent which) h cs fit encodes = λ x b.
      by_version v (under_way cs d.out d.state x) (is ∙ sym (ap (λ (r : Readings). suc r.last) b.readings)) ∙ ap (λ r. r >>= rest v) (h (under_way cs d.out d.state x))

-- ---- what the store's readers then return

module _ (v : ℕ) (value : List Op) (fit : AllByRecursion Fits (learned v (value ∷ []))) (kv : Store) (tx : List Op) (encodes : tx ≡ encoded (learned v (value ∷ []))) where
  then_reads : (y : Course) → y.readings ≡ readings_of kv → (changed (learned v (value ∷ [])) y).readings ≡ readings_of (apply tx kv)
  then_reads y h =
      ap (played (learned v (value ∷ []))) h
      ∙ sym (readings-after (learned v (value ∷ [])) fit kv)
      ∙ ap (λ ops. readings_of (apply ops kv)) (sym encodes)

  pub committed-here : (l : Leader) (y : Course) → IsVoted (readings_of kv) y
      → IsHere (epoch_of (readings_of (apply tx kv))) (readings_of (apply tx kv)).last (leader_is l (changed (learned v (value ∷ [])) y))
  committed-here l y b = record {
    epoch = ap epoch_of (then_reads y b.readings);
    last = ap (λ (r : Readings). r.last) (then_reads y b.readings);
    leads = voted-leads y.state.phase b.phase;
  }

pub commits-none : (me : Me) (now : ℕ) (value : Option (List Op)) (y : Course) → value ≡ None → commit_any me now value y ≡ Ok y
commits-none me now value y h = ap (λ v. commit_any me now v y) h

pub commits-some : (me : Me) (now : ℕ) (value : Option (List Op)) (one : List Op) (y : Course) → value ≡ Some one → commit_any me now value y ≡ commit me now one y
commits-some me now value one y h = ap (λ v. commit_any me now v y) h
