-- The acts of which the table's rows are made, walked once: what a law shows of each step holds of each act.
use Rattle.election_rules.specs.Ranking.{allows}
use Rattle.mon_bytes.specs.declared.entry.Entry.{Entry}
use Rattle.mon_lease.specs.Lease as lease
use Rattle.mon_msg.specs.Protocol.Changes.{Change, Epoch, Numbers}
use Rattle.mon_msg.specs.Protocol.Collecting.{begin_found, catch_up, collect, collect_with, commits_to, commits_with, missed, reign, settle}
use Rattle.mon_msg.specs.Protocol.Course.{Course, arm, change, change_all, change_if, disarm, leader_is, leads_in, timers_are}
use Rattle.mon_msg.specs.Protocol.Elections.{follow, is_allowed, is_whole}
use Rattle.mon_msg.specs.Protocol.Entering.{adopt, bootstrap, elect, in_next_epoch, in_odd_epoch, is_even, next_even, own_table, win}
use Rattle.mon_msg.specs.Protocol.Leader.{all_answered, is_one_of, of_member}
use Rattle.mon_msg.specs.Protocol.Leading.{be_active, begin, begin_alone, commit, extend, is_alone}
use Rattle.mon_msg.specs.Protocol.Learning.{learn, news, news_from}
use Rattle.mon_msg.specs.Protocol.Peon.{of_leader}
use Rattle.mon_msg.specs.Protocol.Phases.{is_leading, phase_of, same_phase, votes}
use Rattle.mon_msg.specs.Protocol.Readings.{Readings, epoch_of, or_zero, promise_of}
use Rattle.mon_msg.specs.Protocol.Records.{pending}
use Rattle.mon_msg.specs.Protocol.Sending.{members, message_to, others, send, send_each}
use Rattle.mon_msg.specs.Protocol.Sets.{only}
use Rattle.mon_msg.specs.Protocol.State.{State, start_requester}
use Rattle.mon_msg.specs.Protocol.Synchronizing.{recent_sync}
use Rattle.mon_msg.specs.Protocol.Table.{at_rest, first_elector, start}
use Rattle.mon_msg.specs.Protocol.Timers.{armed, disarmed}
use Rattle.mon_msg.specs.Protocol.Value.{value}
use Rattle.mon_msg.specs.declared.input.Input.TheVariants as input
use Rattle.mon_msg.specs.declared.input.Input.{Input}
use Rattle.mon_msg.specs.declared.paxos.Found.{Found}
use Rattle.mon_msg.specs.declared.paxos.LeaderStage.TheVariants as stage
use Rattle.mon_msg.specs.declared.paxos.LeaderStage.{LeaderStage}
use Rattle.mon_msg.specs.declared.plan.Origin.{Origin}
use Rattle.mon_msg.specs.declared.view.Me.{Me}
use Rattle.mon_tx.specs.declared.op.Op.{Op}
use Rattle.mon_types.specs.Proposal.{next_number}
use Rattle.mon_types.specs.Ranks.{has, is_majority, no_ranks, with_rank}
use Rattle.mon_types.specs.declared.names.Which.TheVariants as which
use Rattle.mon_types.specs.declared.names.Which.{Which}
use Rattle.mon_wire.specs.declared.body.Body.TheVariants as body
use Rattle.mon_wire.specs.declared.body.Body.{Body}
use Rattle.mon_wire.specs.declared.parts.Told.{Told}
use Rattle.mon_wire.specs.declared.phase.Phase.TheVariants as phase
use Rattle.mon_wire.specs.declared.phase.Phase.{Phase}
use Rattle.mon_wire.specs.declared.phase.Timer.TheVariants as timer
use Rattle.mon_wire.specs.declared.phase.Timer.{Timer}
use Rattle.std.proofs.Common.{Bool, Err, List, None, Ok, Option, Result, Some, [], ap, append-nil, arith, eqb, false, inl, inr, is_some, length, ltb, map, max, not, refl, slice_index_or, subst, suc, sym, true, ℕ, ◌&&◌, ◌+◌, ◌-◌, ◌||◌, ◌∙◌, ◌∷◌, ◌≡◌, ◌⊎◌}
use Rattle.std.proofs.lemmas.Bool.{cond_both, ltb-false, not-false}
use Rattle.std.specs.List.{AllByRecursion, flat_map}
use Rattle.table_walk.proofs.Learning.{Same, learns}
use Rattle.table_walk.proofs.Lists.{all_flat_map, all_of}
use Rattle.table_walk.proofs.Steps.{ActSteps, FoundOf, HeardFrom, HeardLast, InHand, IsOwn, MayCommit, MayEnter, MayLead, MayLearn, MaySay, MaySend, MayTell, Nothing, Steps, ValueOf, accepted_by_all, alone, chosen, counted, from_commit, from_last, heard, leading, leads_still, only_member, stood}
use Rattle.table_walk.proofs.Walk.{Then, and_then, and_three, both_then, by_test, done, or_three, where_fits}

-- ---- reasons

-- A leader settles when each member of its quorum answered, the sender as the last one.
pub record MaySettle (me : Me) (came : Input) (x : Course) : Type 0 where
  pub heard : HeardLast me came
  pub collecting : x.state.phase ≡ phase.Collecting
  pub all : all_answered me x ≡ true

-- A candidate wins when all whom it may lead acknowledged it, or when the election is over and a majority did.
pub data MayWin (me : Me) (w : Readings) (s : State) (q : List Bool) : Type 0 where
  acked_by_all : (e : ℕ) → (not (votes s.phase) || is_even e || ltb e (epoch_of w)) ≡ false → ltb (epoch_of w) e ≡ false → s.elector.candidate ≡ true → (is_whole me q && is_allowed me me.member.rank) ≡ true → MayWin me w s q
  acked_by_most : same_phase s.phase phase.Electing ≡ true → (s.elector.candidate && is_allowed me me.member.rank && is_majority me.member.monitors q) ≡ true → MayWin me w s q

abbrev pub Leads : Course → Type 0
Leads x = is_leading x.state.phase ≡ true

won_leads : (me : Me) (w : Readings) (s : State) (x : Course) (q : List Bool) → MayWin me w s q → MayLead me w s x
won_leads me w s x q (acked_by_all e now low candidate whole) =
    let t = or_three (not (votes s.phase)) (is_even e) (ltb e (epoch_of w)) now in
    let same : e ≡ epoch_of w = let a = ltb-false e (epoch_of w) t.2 in let b = ltb-false (epoch_of w) e low in omega arith in
    chosen (not-false _ t.0) (subst (λ (z : ℕ). is_even z ≡ false) same t.1)
won_leads me w s x q (acked_by_most electing most) = stood electing

-- who began a value leads
pub begun_leads : (p : Phase) → is_one_of (phase.Previous ∷ phase.Updating ∷ []) p ≡ true → is_leading p ≡ true
begun_leads phase.Previous t = refl
begun_leads phase.Updating t = refl
begun_leads other t = absurd cc

pub one_collecting : (p : Phase) → is_one_of (phase.Collecting ∷ []) p ≡ true → p ≡ phase.Collecting
one_collecting phase.Collecting t = refl
one_collecting other t = absurd cc

pub leading_leads : (p : Phase) → is_one_of leading p ≡ true → is_leading p ≡ true
leading_leads phase.Collecting t = refl
leading_leads phase.Previous t = refl
leading_leads phase.Active t = refl
leading_leads phase.Updating t = refl
leading_leads other t = absurd cc

pub active_leads : (p : Phase) → same_phase p phase.Active ≡ true → is_leading p ≡ true
active_leads phase.Active t = refl
active_leads other t = absurd cc

-- a member's answer counts
abbrev pub accepted_by : ℕ → Course → Course
accepted_by f x = leader_is (record x.state.leader { accepted = with_rank x.state.leader.accepted f }) x

-- ---- acts

-- What a law shows of each act. All of it follows from what the law shows of each step (`acts_of`). A law that doesn't hold
-- between two steps of an act shows that act itself: record (acts_of steps within) { commits = .. }.
pub record Acts (me : Me) (now : ℕ) (shared : List Entry) (w : Readings) (s : State) (came : Input) (P : InHand → Course → Type 0) (Q : Course → Type 0) : Type 0 where
  -- values of a LAST, of a COMMIT, and of a chunk
  pub learns_last : {f e pn first last from : ℕ} {whole : Bool} {values : List (List Op)} {told : Option Told} → HeardFrom me came f e (body.Last pn first last whole from values told) → s.phase ≡ phase.Collecting → P Nothing (at_rest w s)
      → Then (P Nothing) (learn (news_from w.last from) (news w.last from values) (at_rest w s))
  pub learns_commit : {f e from : ℕ} {values : List (List Op)} → HeardFrom me came f e (body.Commit from values) → (not (of_leader f e (at_rest w s)) || ltb (suc w.last) from) ≡ false → P Nothing (at_rest w s)
      → Then (P Nothing) (learn (suc w.last) (news w.last from values) (at_rest w s))
  pub learns_chunk : {x : Course} (v : ℕ) (values : List (List Op)) → same_phase x.state.phase phase.Synchronizing ≡ true → MayLearn me came x Nothing values → P Nothing x → Then (P Nothing) (learn v values x)
  pub renews : {x : Course} (ts : List (Option ℕ)) → same_phase x.state.phase phase.Active ≡ true → P Nothing x → Q (timers_are ts (extend me now x))
  pub commits : {x : Course} (value : List Op) → x.state.leader.value ≡ Some value → (k : MayCommit me came x) → x ≡ accepted_by k.sender (at_rest w s) → P Nothing x → Then Q (commit me now value x)
  pub begins : {x : Course} (value : List Op) (o : Origin) → same_phase x.state.phase phase.Active ≡ true → P (ValueOf value (Some o)) x → Then Q (begin me now stage.Updating value (Some o) x)
  pub settles : {x : Course} → MaySettle me came x → P Nothing x → Then Q (settle me now x)
  pub collects : {x : Course} (q : List Bool) (above : ℕ) → HeardLast me came → x.state.phase ≡ phase.Collecting → P Nothing x → Then Q (collect me now q above x)
  pub starts : came ≡ input.Start → same_phase s.phase phase.Booting ≡ true → Then Q (start me now (at_rest w s))
  pub bootstraps : {x : Course} → P Nothing x → Then Q (bootstrap me now x)
  pub elects : {x : Course} → P Nothing x → Then Q (elect me now x)
  -- in an epoch that is two or more above the own one
  pub calls : {x : Course} (f e : ℕ) (q : List Bool) → HeardFrom me came f e (body.Victory q) → P Nothing x → Then Q (elect me now (change (Epoch e) x))
  pub wins : {x : Course} (q : List Bool) → MayWin me w s q → x.readings ≡ w → P Nothing x → Then Q (win me now q x)
  pub adopts : {x : Course} (e : ℕ) → MayEnter me came e → P Nothing x → P Nothing (adopt now e x)
  pub follows : {x : Course} (f e : ℕ) (q : List Bool) → HeardFrom me came f e (body.Victory q) → P Nothing x → P Nothing (follow now f e q x)
  pub recent_syncs : {x : Course} (f : ℕ) → P Nothing x → P Nothing (recent_sync me now f x)

pub same_state : (x : Course) (r : Result Course Which) → Then (Same x) r → Then (λ y. y.state ≡ x.state) r
same_state x (Ok y) k = done k.holds.state
same_state x (Err e) k = record { holds = tt }

module _ {me : Me} {now : ℕ} {shared : List Entry} {w : Readings} {s : State} {came : Input} {P : InHand → Course → Type 0} {Q : Course → Type 0} (b : Steps me now shared w s came P Q) where
  -- ---- steps

  module _ {x : Course} where
    pub sends_to : (tos : List ℕ) (m : Body) → MaySay me shared x m → P Nothing x → P Nothing (send_each me tos m x)
    sends_to tos m k A = b.sends (map (message_to me (epoch_of x.readings) m) tos) (all_of (MaySend me shared x) (message_to me (epoch_of x.readings) m) (λ to. (refl, refl, k)) tos) A

    pub sends_one : (to : ℕ) (m : Body) → MaySay me shared x m → P Nothing x → P Nothing (send me to m x)
    sends_one to m k A = b.sends (message_to me (epoch_of x.readings) m to ∷ []) ((refl, refl, k), tt) A

  module _ {h : InHand} {x : Course} where
    pub arms : (t : Timer) → P h x → P h (arm now t x)
    arms t A = b.timers (armed now t x.state.timers) A

    pub disarms : (t : Timer) → P h x → P h (disarm t x)
    disarms t A = b.timers (disarmed t x.state.timers) A

  -- nothing is written
  pub keeps : {x : Course} → P Nothing x → P Nothing (change_all [] x)
  keeps {x = x} A = subst (λ (cs : List Change). P Nothing (record x { changes = cs })) (sym (append-nil x.changes)) A

  pub ends : {x : Course} → P Nothing x → Then Q (Ok x)
  ends A = done (b.after A)

  module _ (i : ActSteps me now shared w s came P Q) where
    tells_to : {h : InHand} {x : Course} (tos : List ℕ) (m : Body) → MayTell me h x m → P h x → P h (send_each me tos m x)
    tells_to {h = h} {x = x} tos m k A = i.tells (map (message_to me (epoch_of x.readings) m) tos) (all_of (IsOwn me x (MayTell me h x)) (message_to me (epoch_of x.readings) m) (λ to. (refl, refl, k)) tos) A

    leads_at : {h : InHand} {x : Course} (z : LeaderStage) → Leads x → P h x → P h (leads_in z x)
    leads_at {x = x} z k A = i.leads (record x.state.leader { stage = z }) (i.enters (phase_of z) (λ t. leads_still k) A)

    learned : {h : InHand} {x : Course} (v : ℕ) (values : List (List Op)) → MayLearn me came x h values → P h x → Then (P h) (learn v values x)
    unfolding learn
    learned v [] k A = done A
    learned {h = h} v (value ∷ values) k A = where_fits (P h) which.Version (v + length values) _ (λ short. done (i.learns v value values k short A))

    -- ---- leading

    extends : {h : InHand} {x : Course} → P h x → P h (extend me now x)
    unfolding extend
    extends {x = x} A =
        b.timers _ (arms timer.Renew (tells_to (members me x.state.leader.quorum) (body.Lease x.readings.last) refl (i.leads (record x.state.leader { lease = lease.extended now; acks = only me.member.rank }) A)))

    active : {h : InHand} {x : Course} → Leads x → P h x → P h (be_active me now x)
    unfolding be_active
    active k A = b.timers _ (extends (leads_at stage.Active k A))

    commits : {x : Course} (value : List Op) → x.state.leader.value ≡ Some value → MayCommit me came x → P Nothing x → Then Q (commit me now value x)
    unfolding commit
    commits {x = x} value e k A = and_then (λ y. P Nothing y × (y.state ≡ x.state)) Q (learn (suc x.readings.last) (value ∷ []) x) _
        (both_then (P Nothing) (λ y. y.state ≡ x.state) (learn (suc x.readings.last) (value ∷ []) x) (learned (suc x.readings.last) (value ∷ []) (accepted_by_all e k) A) (same_state x (learn (suc x.readings.last) (value ∷ []) x) (learns (suc x.readings.last) (value ∷ []) x))) (λ y B.
        let o = y.state.leader.origin in
        let C = tells_to (members me y.state.leader.quorum) (body.Commit (suc x.readings.last) (value ∷ [])) (inl (value, o, refl, refl)) (i.takes_value value k.said (ap (λ (z : State). z.leader.value) B.1 ∙ e) (disarms timer.Accept B.0)) in
        done (i.acknowledges (suc x.readings.last) value o (active (ap (λ (z : State). is_leading z.phase) B.1 ∙ leads) C)))
      where
        leads : Leads x
        leads = begun_leads x.state.phase (and_three (is_one_of (phase.Previous ∷ phase.Updating ∷ []) x.state.phase) (eqb k.epoch (epoch_of x.readings)) (has x.state.leader.quorum k.sender) (and_three (of_member (phase.Previous ∷ phase.Updating ∷ []) k.sender k.epoch x) (eqb k.pn x.state.leader.pn) (eqb k.v (suc x.readings.last)) k.tested).0).0

    begins : {x : Course} (z : LeaderStage) (value : List Op) (o : Option Origin) → Leads x → P (ValueOf value o) x → Then Q (begin me now z value o x)
    unfolding begin begin_alone
    begins {x = x} z value o k A = let v = suc x.readings.last in where_fits Q which.Version v _ (λ short. by_test (is_alone me x.state.leader.quorum)
        (λ _. and_then (λ y. P (ValueOf value o) y × (y.state ≡ x.state)) Q (learn v (value ∷ []) x) _ (both_then (P (ValueOf value o)) (λ y. y.state ≡ x.state) (learn v (value ∷ []) x) (learned v (value ∷ []) alone A) (same_state x (learn v (value ∷ []) x) (learns v (value ∷ []) x)))
        (λ y B. done (i.acknowledges v value o (leads_at stage.Active (ap (λ (q : State). is_leading q.phase) B.1 ∙ k) B.0))))
        (λ _. done (i.proposes z value o short k A)))

    begins_found : {x : Course} (found : Option Found) → Leads x → P (FoundOf found) x → Then Q (begin_found me now found x)
    begins_found None k A = ends (active k (i.drops_found None A))
    begins_found {x = x} (Some f) k A = by_test (eqb f.version (suc x.readings.last)) (λ _. begins stage.Previous f.value None k (i.proposes_found f A)) (λ _. ends (active k (i.drops_found (Some f) A)))

    -- ---- collecting

    caught_up : {x : Course} (ks : List ℕ) → P Nothing x → P Nothing (catch_up me ks x)
    caught_up {x = x} ks A = i.tells (flat_map (commits_to me x.readings x.state.leader.lasts) ks) (all_flat_map (IsOwn me x (MayTell me Nothing x)) (commits_to me x.readings x.state.leader.lasts) (λ to.
        let told = slice_index_or x.state.leader.lasts to 0 in
        cond_both (ltb told x.readings.last) (commits_with me (epoch_of x.readings) told (missed me.member.monitors x.readings.record_of x.readings.last told) to) [] (AllByRecursion (IsOwn me x (MayTell me Nothing x)))
        (λ _. by told (missed me.member.monitors x.readings.record_of x.readings.last told) to (ap (λ (n : ℕ). missed me.member.monitors x.readings.record_of x.readings.last n) (omega arith))) (λ _. tt)) ks) A
      where
        by : (told : ℕ) (values : List (List Op)) (to : ℕ) → values ≡ missed me.member.monitors x.readings.record_of x.readings.last (suc told - 1) → AllByRecursion (IsOwn me x (MayTell me Nothing x)) (commits_with me (epoch_of x.readings) told values to)
        by told [] to k = tt
        by told (value ∷ values) to k = ((refl, refl, inr k), tt)

    settles : {x : Course} → HeardLast me came ⊎ (x.state.leader.found ≡ pending x.readings) → Leads x → P Nothing x → Then Q (settle me now x)
    unfolding settle
    settles {x = x} how k A = begins_found x.state.leader.found k (i.takes_found how (caught_up (members me x.state.leader.quorum) (disarms timer.Collect A)))

    collects : {x : Course} (q : List Bool) (above : ℕ) → Leads x → P Nothing x → Then Q (collect me now q above x)
    unfolding collect collect_with
    collects {x = x} q above k A =
        let pn = next_number (or_zero x.readings.last_pn) (max (promise_of x.readings) above) me.member.rank in
        where_fits Q which.Pn pn _ (λ short.
        let B = arms timer.Collect (sends_to (members me q) (body.Collect pn x.readings.first x.readings.last) refl (i.collects q pn short (i.enters phase.Collecting (λ t. leads_still k) (i.raises (Numbers pn) short A)))) in
        by_test (is_alone me q) (λ _. settles (inr refl) refl B) (λ _. ends B))

    reigns : {x : Course} (q : List Bool) → MayLead me w s x → P Nothing x → Then Q (reign me now q x)
    unfolding reign
    reigns q k A = collects q 0 refl (sends_to (members me q) (body.Victory q) tt (i.enters phase.Collecting (λ t. k) A))

    -- ---- beginning again, and elections

    bootstraps : {x : Course} → P Nothing x → Then Q (bootstrap me now x)
    unfolding bootstrap
    bootstraps {x = x} A =
        let B = b.prober (record { outside = only me.member.rank }) (i.forgets refl (i.enters phase.Probing (λ t. absurd cc) A)) in
        by_test (ltb 1 me.member.monitors) (λ _. ends (arms timer.Probe (sends_to (others me) body.Probe tt B))) (λ one.
        by_test (allows me.rule me.member.rank && not x.readings.marked) (λ _. where_fits Q which.Epoch (next_even (epoch_of x.readings)) _ (λ short. reigns (only me.member.rank) (only_member one) (i.raises (Epoch (next_even (epoch_of x.readings))) (counted short) B))) (λ _. ends B))

    next_epoch : {x : Course} → P Nothing x → Then (P Nothing) (in_next_epoch x)
    next_epoch {x = x} A = where_fits (P Nothing) which.Epoch (suc (epoch_of x.readings)) _ (λ short. done (i.raises (Epoch (suc (epoch_of x.readings))) (counted short) A))

    elects : {x : Course} → P Nothing x → Then Q (elect me now x)
    unfolding elect in_odd_epoch
    elects {x = x} A = and_then (P Nothing) Q (in_odd_epoch x) _ (by_test (is_even (epoch_of x.readings)) (λ _. next_epoch A) (λ _. done A)) (λ y B.
        let C = b.elector (record y.state.elector { candidate = true; acked = only me.member.rank; deferred = None }) (i.forgets refl (i.enters phase.Electing (λ t. absurd cc) B)) in
        ends (arms timer.Election (sends_to (others me) (body.Propose (own_table me y)) tt C)))

    wins : {x : Course} (q : List Bool) → MayWin me w s q → P Nothing x → Then Q (win me now q x)
    unfolding win
    wins {x = x} q k A = and_then (P Nothing) Q (in_next_epoch x) _ (next_epoch A) (λ y B. reigns q (won_leads me w s y q k) B)

    adopts : {x : Course} (e : ℕ) → MayEnter me came e → P Nothing x → P Nothing (adopt now e x)
    unfolding adopt
    adopts {x = x} e k A = arms timer.Election (b.elector (record x.state.elector { candidate = false; acked = no_ranks; deferred = None }) (i.forgets refl (i.enters phase.Electing (λ t. absurd cc) (i.raises (Epoch e) k A))))

    recent_syncs : {x : Course} (f : ℕ) → P Nothing x → P Nothing (recent_sync me now f x)
    unfolding recent_sync
    recent_syncs {x = x} f A = arms timer.Sync (sends_one f (body.GetCookieRecent x.readings.last) tt (b.requester (start_requester f false) tt (i.enters phase.Synchronizing (λ t. absurd cc) A)))

    follows : {x : Course} (f e : ℕ) (q : List Bool) → HeardFrom me came f e (body.Victory q) → P Nothing x → P Nothing (follow now f e q x)
    follows f e q C A = arms timer.Lease (b.peon (record { leader = f; quorum = q; lease = None }) (λ t. absurd cc) (i.enters phase.Peon (λ t. absurd cc) (i.raises (Epoch e) (heard C) A)))

    starts : came ≡ input.Start → same_phase s.phase phase.Booting ≡ true → Then Q (start me now (at_rest w s))
    unfolding start
    starts is booting = where_fits Q which.Boot (suc w.boot) _ (λ short. bootstraps (b.timers _ (b.elector (first_elector me now (suc w.boot) s.elector) (first (not (is_some w.epoch)) (i.boots is booting short)))))
      where
        first : {x : Course} (t : Bool) → P Nothing x → P Nothing (change_if t (Epoch 1) x)
        first true A = i.raises (Epoch 1) (counted (omega arith)) A
        first false A = keeps A

    pub acts_of : Acts me now shared w s came P Q
    acts_of = record {
      learns_last = λ {f} {e} {pn} {first} {last} {from} {whole} {values} {told} C collecting A. learned (news_from w.last from) (news w.last from values) (from_last (suc w.last - from) C) A;
      learns_commit = λ {f} {e} {from} {values} C t A. learned (suc w.last) (news w.last from values) (from_commit (suc w.last - from) C) A;
      learns_chunk = λ v values t k A. learned v values k A;
      renews = λ ts k A. b.after (b.timers ts (extends A));
      commits = λ value e k first A. commits value e k A;
      begins = λ {x = x} value o k A. begins stage.Updating value (Some o) (active_leads x.state.phase k) A;
      settles = λ k A. settles (inl k.heard) (ap is_leading k.collecting) A;
      collects = λ q above heard k A. collects q above (ap is_leading k) A;
      starts = starts;
      bootstraps = bootstraps;
      elects = elects;
      calls = λ f e q C A. elects (i.raises (Epoch e) (heard C) A);
      wins = λ q k same A. wins q k A;
      adopts = adopts;
      follows = follows;
      recent_syncs = recent_syncs;
    }
