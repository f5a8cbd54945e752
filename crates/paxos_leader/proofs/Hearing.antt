-- The rows of a leader, case by case.
use Rattle.std.proofs.Common.{◌≡◌, ◌≢◌, ℕ, suc, ◌+◌, ◌≤◌, ◌<◌, Bool, true, false, ◌&&◌, ◌||◌, ltb, List, [], ◌∷◌, Option, Some, None, Result, Ok, refl, sym, ap, ◌∙◌, eq-eqb, ne_eqb, leb, length, arith}
use Rattle.std.specs.List.{AllByRecursion}
use Rattle.std.specs.Prelude.{sum_by, ◌==◌}
use Rattle.std.proofs.lemmas.Bool.{and_parts, leb-true, le-leb, lt-ltb, le-ltb}
use Rattle.mon_bytes.specs.declared.entry.Entry.{Entry}
use Rattle.mon_msg.specs.Protocol.Course.{Course, ◌▸◌, ◌>>=◌, disarm, leader_is}
use Rattle.mon_msg.specs.Protocol.Collecting.{collect}
use Rattle.mon_msg.specs.Protocol.Entering.{bootstrap}
use Rattle.mon_msg.specs.Protocol.Hearing.{hear}
use Rattle.mon_msg.specs.Protocol.Leader.{is_one_of, of_member, hear_last, hear_answer, hear_accept, commit_any, hear_lease_ack}
use Rattle.mon_msg.specs.Protocol.Learning.{learn, news, news_from}
use Rattle.mon_msg.specs.Protocol.Length.{fits}
use Rattle.mon_msg.specs.Protocol.Parts.{value_length, told_length}
use Rattle.mon_msg.specs.Protocol.Phases.{is_leading, phase_of, same_phase}
use Rattle.mon_msg.specs.Protocol.Readings.{Readings, epoch_of}
use Rattle.mon_msg.specs.Protocol.Table.{timer_comes}
use Rattle.mon_msg.specs.Protocol.Sets.{are_within}
use Rattle.mon_msg.specs.declared.paxos.Leader.{Leader}
use Rattle.mon_msg.specs.declared.plan.Plan.{Plan}
use Rattle.mon_msg.specs.declared.plan.RoleStop.{RoleStop}
use Rattle.mon_msg.specs.declared.view.Me.{Me}
use Rattle.mon_msg.specs.declared.view.View.{View}
use Rattle.mon_tx.specs.Text.{text, most}
use Rattle.mon_tx.specs.declared.op.Op.{Op}
use Rattle.mon_types.specs.Ranks.{has, with_rank}
use Rattle.mon_types.specs.declared.names.Which.{Which}
use Rattle.mon_wire.specs.declared.body.Body.TheVariants as body
use Rattle.mon_wire.specs.declared.body.Body.{Body}
use Rattle.mon_wire.specs.declared.parts.Told.{Told}
use Rattle.mon_wire.specs.declared.phase.Phase.TheVariants as phase
use Rattle.mon_wire.specs.declared.phase.Phase.{Phase}
use Rattle.mon_wire.specs.declared.phase.Timer.TheVariants as timer
use Rattle.mon_wire.specs.declared.phase.Timer.{Timer}
use Rattle.mon_plan.specs.Plans.{PlansRow, leads}
use Rattle.mon_plan.specs.Seen.{IsMet}
use Rattle.mon_plan.proofs.Planning.{weaken}
use Rattle.mon_plan.proofs.Values.{all_short}
use Rattle.paxos_leader.specs.Drafts.{IsVoted}
use Rattle.paxos_leader.specs.Inputs.{is_role_message, is_own, phases_for}
use Rattle.paxos_leader.specs.Rows.{IsHeard, goes_on, may_begin_pending}
use Rattle.paxos_leader.proofs.Answering.{collects}
use Rattle.paxos_leader.proofs.Committing.{voted-leads}

module _ (me : Me) (now f e : ℕ) (x : Course) (pn first last : ℕ) (whole : Bool) (from : ℕ) (values : List (List Op)) (told : Option Told) where
  pub last-dropped : of_member (phase.Collecting ∷ []) f e x ≡ false → hear_last me now f e pn first last whole from values told x ≡ Ok x
  unfolding hear_last
  last-dropped other = rw other refl

  module _ (mine : of_member (phase.Collecting ∷ []) f e x ≡ true) where
    pub last-above : x.state.leader.pn < pn → hear_last me now f e pn first last whole from values told x ≡ collect me now x.state.leader.quorum pn x
    unfolding hear_last
    last-above above = let t = lt-ltb x.state.leader.pn pn above in rw (mine, t) refl

    pub last-below : pn < x.state.leader.pn → hear_last me now f e pn first last whole from values told x ≡ Ok x
    unfolding hear_last
    last-below below =
        let t = lt-ltb pn x.state.leader.pn below in
        let u : ltb x.state.leader.pn pn ≡ false = le-ltb x.state.leader.pn pn (omega arith) in
        rw (mine, u, t) refl

    module _ (same : pn ≡ x.state.leader.pn) where
      pub last-prepended : (ltb (suc x.readings.last) first && ltb x.readings.last last) ≡ true → hear_last me now f e pn first last whole from values told x ≡ bootstrap me now x
      unfolding hear_last
      last-prepended h =
          let t : ltb pn x.state.leader.pn ≡ false = le-ltb pn x.state.leader.pn (omega arith) in
          let u : ltb x.state.leader.pn pn ≡ false = le-ltb x.state.leader.pn pn (omega arith) in
          rw (mine, u, t, h) refl

      pub last-answer : (ltb (suc x.readings.last) first && ltb x.readings.last last) ≡ false → hear_last me now f e pn first last whole from values told x ≡ hear_answer me now f last whole from values told x
      unfolding hear_last
      last-answer h =
          let t : ltb pn x.state.leader.pn ≡ false = le-ltb pn x.state.leader.pn (omega arith) in
          let u : ltb x.state.leader.pn pn ≡ false = le-ltb x.state.leader.pn pn (omega arith) in
          rw (mine, u, t, h) refl

  -- by the last version that the store has
  module _ (own : ℕ) (h : x.readings.last ≡ own) where
    pub answer-is : hear_answer me now f last whole from values told x ≡ (learn (news_from own from) (news own from values) x >>= goes_on me now f last whole told)
    answer-is = ap (λ n. learn (news_from n from) (news n from values) x >>= goes_on me now f last whole told) h

    pub answer-learned : (y : Course) → learn (news_from own from) (news own from values) x ≡ Ok y → hear_answer me now f last whole from values told x ≡ goes_on me now f last whole told y
    answer-learned y g = answer-is ∙ ap (λ r. r >>= goes_on me now f last whole told) g

-- ---- ACCEPT

module _ (me : Me) (now f e : ℕ) (x : Course) (pn v : ℕ) where
  abbrev phases : List Phase
  phases = phase.Previous ∷ phase.Updating ∷ []

  abbrev pub with_vote : Leader
  with_vote = record x.state.leader { accepted = with_rank x.state.leader.accepted f }

  pub accept-dropped : of_member phases f e x ≡ false → hear_accept me now f e pn v x ≡ Ok x
  unfolding hear_accept
  accept-dropped other = rw other refl

  module _ (mine : of_member phases f e x ≡ true) where
    pub accept-other : (pn == x.state.leader.pn && v == suc x.readings.last) ≡ false → hear_accept me now f e pn v x ≡ Ok x
    unfolding hear_accept
    accept-other other = rw (mine, other) refl

    module _ (asked : (pn == x.state.leader.pn && v == suc x.readings.last) ≡ true) where
      pub accept-waits : are_within me.member.monitors x.state.leader.quorum with_vote.accepted ≡ false → hear_accept me now f e pn v x ≡ Ok (leader_is with_vote x)
      unfolding hear_accept
      accept-waits few = rw (mine, asked, few) refl

      pub accept-all : are_within me.member.monitors x.state.leader.quorum with_vote.accepted ≡ true
          → hear_accept me now f e pn v x ≡ commit_any me now x.state.leader.value (leader_is with_vote x)
      unfolding hear_accept
      accept-all all = rw (mine, asked, all) refl

-- ---- LEASE_ACK

module _ (me : Me) (f e : ℕ) (x : Course) (last : ℕ) where
  abbrev pub with_ack : Leader
  with_ack = record x.state.leader { acks = with_rank x.state.leader.acks f }

  pub ack-dropped : of_member (phase.Active ∷ []) f e x ≡ false → hear_lease_ack me f e last x ≡ Ok x
  unfolding hear_lease_ack
  ack-dropped other = rw other refl

  module _ (mine : of_member (phase.Active ∷ []) f e x ≡ true) where
    pub ack-other : last ≢ x.readings.last → hear_lease_ack me f e last x ≡ Ok x
    unfolding hear_lease_ack
    ack-other other = let t = ne_eqb last x.readings.last other in rw (mine, t) refl

    module _ (is : last ≡ x.readings.last) where
      pub ack-waits : are_within me.member.monitors x.state.leader.quorum with_ack.acks ≡ false → hear_lease_ack me f e last x ≡ Ok (leader_is with_ack x)
      unfolding hear_lease_ack
      ack-waits few = let t = eq-eqb last x.readings.last is in rw (mine, t, few) refl

      pub ack-all : are_within me.member.monitors x.state.leader.quorum with_ack.acks ≡ true → hear_lease_ack me f e last x ≡ Ok (x ▸ leader_is with_ack ▸ disarm timer.LeaseAck)
      unfolding hear_lease_ack
      ack-all all = let t = eq-eqb last x.readings.last is in rw (mine, t, all) refl

-- ---- messages of members

pub acts : (p : Phase) → is_one_of (phase.Active ∷ []) p ≡ true → p ≡ phase.Active
acts phase.Active h = refl
acts phase.Booting h = cc
acts phase.Probing h = cc
acts phase.Synchronizing h = cc
acts phase.Electing h = cc
acts phase.Collecting h = cc
acts phase.Previous h = cc
acts phase.Updating h = cc
acts phase.Peon h = cc

pub not_active : (p : Phase) → is_one_of (phase.Active ∷ []) p ≡ false → same_phase p phase.Active ≡ false
not_active p h = by (same_phase p phase.Active) h
  where
    by : (b : Bool) → (b || false) ≡ false → b ≡ false
    by true h = cc
    by false h = refl

leads-for : (b : Body) (p : Phase) → is_one_of (phases_for b) p ≡ true → is_leading p ≡ true
leads-for (body.Last pn first last whole from values pending) p h = ap is_leading (collects p h)
leads-for (body.Accept pn v) p h = voted-leads p h
leads-for (body.LeaseAck last) p h = ap is_leading (acts p h)
leads-for other p h = let no : false ≡ true = h in absurd cc

module _ (me : Me) (now : ℕ) (w : Readings) (v : View) (l : Leader) (f e : ℕ) (b : Body) where
  abbrev pub seems_ours : Bool
  seems_ours = is_one_of (phases_for b) v.phase && e == epoch_of w && has l.quorum f

  abbrev pub Met : Course → Type 0
  Met = IsMet me now w v (λ st. st.leader) l

  heard : (x : Course) → Met x → of_member (phases_for b) f e x ≡ seems_ours
  heard x m = λ i. is_one_of (phases_for b) (sym m.seen.phase i) && e == epoch_of (m.readings i) && has (m.role i).quorum f

  pub others : seems_ours ≡ false → (x : Course) → Met x → of_member (phases_for b) f e x ≡ false
  others h x m = heard x m ∙ h

  -- a row for what a member sends is the row for what is heard
  pub member-row : seems_ours ≡ true → (row : Course → Result Course Which) (r : Result (Plan Leader) RoleStop)
      → PlansRow me now leads (IsHeard (phases_for b) f e w l) row r → PlansRow me now leads Met row r
  member-row h row r p =
      let phases : is_one_of (phases_for b) v.phase ≡ true = (and_parts (is_one_of (phases_for b) v.phase) (e == epoch_of w) (and_parts (is_one_of (phases_for b) v.phase && e == epoch_of w) (has l.quorum f) h).0).0 in
      weaken me now leads (IsHeard (phases_for b) f e w l) Met (λ x. x) row r
      (λ x m. record {
        readings = m.readings;
        role = m.role;
        stage = ap (λ (k : Leader). phase_of k.stage) (sym m.role) ∙ m.seen.stage (leads-for b x.state.phase (ap (is_one_of (phases_for b)) (sym m.seen.phase) ∙ phases));
        member = heard x m ∙ h;
      })
      p

pub hear-dropped : (me : Me) (shared : List Entry) (now f e : ℕ) (b : Body) → is_role_message b ≡ true → (x : Course) → of_member (phases_for b) f e x ≡ false → hear me shared now f e b x ≡ Ok x
hear-dropped me shared now f e (body.Last pn first last whole from values told) t x h = last-dropped me now f e x pn first last whole from values told h
hear-dropped me shared now f e (body.Accept pn v) t x h = accept-dropped me now f e x pn v h
hear-dropped me shared now f e (body.LeaseAck last) t x h = ack-dropped me f e x last h
hear-dropped me shared now f e other t x h = let no : false ≡ true = t in absurd cc

-- the timers of a leader but the one that renews its lease
pub rings : (me : Me) (now : ℕ) (t : Timer) → is_own t ≡ true → t ≢ timer.Renew → (x : Course) → timer_comes me now t x ≡ bootstrap me now x
rings me now timer.Collect h other x = refl
rings me now timer.Accept h other x = refl
rings me now timer.LeaseAck h other x = refl
rings me now timer.Renew h other x = absurd (other refl)
rings me now rest h other x = let no : false ≡ true = h in absurd cc

-- ---- the values of an answer that may be sent are few, and short

module _ (n pn first last : ℕ) (whole : Bool) (from : ℕ) (values : List (List Op)) (told : Option Told) (h : fits n (body.Last pn first last whole from values told) ≡ true) where
  fitting : (12 + (33 + (2 + sum_by value_length values) + told_length told) ≤ 1048576) × (length values ≤ 65535)
  fitting =
      let both = and_parts (leb (12 + (33 + (2 + sum_by value_length values) + told_length told)) 1048576) (leb (length values) 65535) h in
      (leb-true (12 + (33 + (2 + sum_by value_length values) + told_length told)) 1048576 both.0, leb-true (length values) 65535 both.1)

  pub answered-short : AllByRecursion (λ (ops : List Op). length (text ops) ≤ most) values
  answered-short = all_short values (omega (arith, fitting.0))

  pub answered-few : length values ≤ 65535
  answered-few = fitting.1

  told-begins : (n : ℕ) (told : Option Told) → 12 + (33 + n + told_length told) ≤ 1048576 → may_begin_pending told ≡ true
  told-begins n None short = refl
  told-begins n (Some t) short = ap (λ b. b && true) (le-leb (12 + (16 + (4 + length (text t.value)))) 1048576 (omega (arith, short)))

  pub answered-begins : may_begin_pending told ≡ true
  answered-begins = told-begins (2 + sum_by value_length values) told fitting.0

-- ---- what is heard of a member, by what the leader remembers then

module _ (me : Me) (now f e : ℕ) (pn v : ℕ) (w : Readings) (l new : Leader) (x : Course) (b : IsHeard (phase.Previous ∷ phase.Updating ∷ []) f e w l x)
    (voted : new ≡ record l { accepted = with_rank l.accepted f }) (asked : (pn == l.pn && v == suc w.last) ≡ true) where
  there : with_vote me now f e x pn v ≡ new
  there = ap (λ (k : Leader). record k { accepted = with_rank k.accepted f }) b.role ∙ sym voted

  asked_there : (pn == x.state.leader.pn && v == suc x.readings.last) ≡ true
  asked_there = (λ i. pn == (b.role i).pn && v == suc (b.readings i).last) ∙ asked

  within : are_within me.member.monitors x.state.leader.quorum (with_vote me now f e x pn v).accepted ≡ are_within me.member.monitors new.quorum new.accepted
  within = ap (λ (k : Leader). are_within me.member.monitors k.quorum k.accepted) there

  pub heard-waits : are_within me.member.monitors new.quorum new.accepted ≡ false → hear_accept me now f e pn v x ≡ Ok (leader_is new x)
  heard-waits few = accept-waits me now f e x pn v b.member asked_there (within ∙ few) ∙ ap (λ k. Ok (leader_is k x)) there

  pub heard-all : are_within me.member.monitors new.quorum new.accepted ≡ true → hear_accept me now f e pn v x ≡ commit_any me now new.value (leader_is new x)
  heard-all all =
      accept-all me now f e x pn v b.member asked_there (within ∙ all)
      ∙ ap (λ (k : Leader). commit_any me now k.value (leader_is k x)) there

  pub heard-votes : IsVoted w (leader_is new x)
  heard-votes = record {
    readings = b.readings;
    stage = ap (λ (k : Leader). phase_of k.stage) voted ∙ b.stage;
    phase = (and_parts (is_one_of (phase.Previous ∷ phase.Updating ∷ []) x.state.phase) (e == epoch_of x.readings)
        (and_parts (is_one_of (phase.Previous ∷ phase.Updating ∷ []) x.state.phase && e == epoch_of x.readings) (has x.state.leader.quorum f) b.member).0).0;
  }

module _ (me : Me) (f e : ℕ) (last : ℕ) (w : Readings) (l new : Leader) (x : Course) (b : IsHeard (phase.Active ∷ []) f e w l x)
    (acked : new ≡ record l { acks = with_rank l.acks f }) (is : last ≡ w.last) where
  acked_there : with_ack me f e x last ≡ new
  acked_there = ap (λ (k : Leader). record k { acks = with_rank k.acks f }) b.role ∙ sym acked

  last_there : last ≡ x.readings.last
  last_there = is ∙ sym (ap (λ (r : Readings). r.last) b.readings)

  acks_within : are_within me.member.monitors x.state.leader.quorum (with_ack me f e x last).acks ≡ are_within me.member.monitors new.quorum new.acks
  acks_within = ap (λ (k : Leader). are_within me.member.monitors k.quorum k.acks) acked_there

  pub heard-few-acks : are_within me.member.monitors new.quorum new.acks ≡ false → hear_lease_ack me f e last x ≡ Ok (leader_is new x)
  heard-few-acks few = ack-waits me f e x last b.member last_there (acks_within ∙ few) ∙ ap (λ k. Ok (leader_is k x)) acked_there

  pub heard-all-acks : are_within me.member.monitors new.quorum new.acks ≡ true → hear_lease_ack me f e last x ≡ Ok (x ▸ leader_is new ▸ disarm timer.LeaseAck)
  heard-all-acks all = ack-all me f e x last b.member last_there (acks_within ∙ all) ∙ ap (λ k. Ok (x ▸ leader_is k ▸ disarm timer.LeaseAck)) acked_there
