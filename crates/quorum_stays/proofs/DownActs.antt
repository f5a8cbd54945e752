-- The acts of a leader that lost a monitor of its quorum: it awaits that monitor's answer, or it doesn't serve with it any more.
use Rattle.law_names.proofs.Table.{Course, Epoch, Found, Leader, LeaderStage, Me, Op, Origin, Phase, State, Timer, Waiting, adopt, armed, be_active, begin, begin_alone, begin_found, begin_with, bootstrap, change, collect, collect_with, commit, disarmed, elect, end_of, epoch_of, extend, has, has_queue, in_next_epoch, in_odd_epoch, index_of, is_alone, is_armed, is_empty, is_even, is_one_of, learn, length_of, members, next_number, only, only_ping, or_zero, promise_of, reign, same_phase, settle, win, with_rank}
use Rattle.mon_lease.specs.Lease.{extended}
use Rattle.mon_lease.specs.declared.lease.TheConstants.{LENGTH}
use Rattle.mon_msg.specs.declared.paxos.LeaderStage.TheVariants as stage
use Rattle.mon_types.specs.declared.names.Which.TheVariants as which
use Rattle.mon_wire.specs.declared.phase.Phase.TheVariants as phase
use Rattle.mon_wire.specs.declared.phase.Timer.TheVariants as timer
use Rattle.quorum_stays.proofs.Timers.{armed_size, disarmed_size, extended_timers, maybe_armed, still_ends, still_on}
use Rattle.quorum_stays.specs.SteppingDown.{serving}
use Rattle.quorum_timed.proofs.Acts.{learn_stays}
use Rattle.quorum_timed.proofs.Armed.{Timers, at_place}
use Rattle.quorum_walk.proofs.Ranks.{alone_within, has_only_is, has_with_is, within_at}
use Rattle.quorum_walk.proofs.Walk.{Then, and_then, by_test, done, where_fits}
use Rattle.std.proofs.Common.{Bool, List, None, Ok, Option, Some, [], ap, arith, cond, eqb, false, inl, inr, is_some, length, ltb, max, min, not, refl, subst, suc, sym, true, ℕ, ◌+◌, ◌<◌, ◌^◌, ◌∙◌, ◌∷◌, ◌≡◌, ◌≤◌, ◌⊎◌}
use Rattle.std.proofs.lemmas.Bool.{cond_both, eqb-false, false≢true, not-true}

-- ---- what it awaits, and until when

-- The lost monitor. By `first` the leader has renewed the leases or has all acceptances, by `second` it has all
-- acknowledgements, and by `third` it has all acceptances of a later value, or a timer ends. A timer fires within `late`.
pub record Terms : Type 0 where
  pub lost : ℕ
  pub first : ℕ
  pub second : ℕ
  pub third : ℕ
  pub late : ℕ
  pub acknowledged : first + late + 10000 ≤ second
  pub shown : ℕ
  pub leased : second + late + 5000 ≤ shown

-- a later value may be begun
abbrev pub MayBegin : Terms → Type 0
MayBegin b = b.second + b.late + 10000 ≤ b.third

-- this timer ends by then, if it is armed
abbrev pub EndsBy : Timer → Timers → ℕ → Type 0
EndsBy t ts u = (end : ℕ) → end_of t ts ≡ Some end → end ≤ u

-- its lease ends by then, if it has one
abbrev pub LeaseBy : Leader → ℕ → Type 0
LeaseBy l u = (end : ℕ) → l.lease ≡ Some end → end ≤ u

pub data Awaits (b : Terms) (now : ℕ) (p : Phase) (l : Leader) (ts : Timers) : Type 0 where
  -- it hasn't renewed the leases since
  renewing : p ≡ phase.Active → now ≤ b.first + b.late → EndsBy timer.Renew ts b.first → EndsBy timer.LeaseAck ts b.second → Awaits b now p l ts
  acknowledging : p ≡ phase.Active → now ≤ b.second + b.late → has l.acks b.lost ≡ false → is_armed timer.LeaseAck ts ≡ true → EndsBy timer.LeaseAck ts b.second → Awaits b now p l ts
  -- it began the value before
  accepting : p ≡ phase.Updating → now ≤ b.first + b.late → EndsBy timer.Accept ts b.first → Awaits b now p l ts
  proposing : p ≡ phase.Updating → has l.accepted b.lost ≡ false → EndsBy timer.Accept ts b.third → Awaits b now p l ts

-- It serves with the lost monitor. If commands wait, a value may be begun. Its lease ends in time.
pub record Serves (b : Terms) (now : ℕ) (p : Phase) (l : Leader) (queue : List Waiting) (ts : Timers) : Type 0 where
  pub among : has l.quorum b.lost ≡ true
  pub size : length ts ≡ 11
  pub awaits : Awaits b now p l ts
  pub commands : (queue ≡ []) ⊎ MayBegin b
  pub lease : LeaseBy l b.shown

-- the same, unless it isn't active or updating any more, or has another quorum
pub record Stays (b : Terms) (now : ℕ) (p : Phase) (l : Leader) (queue : List Waiting) (ts : Timers) : Type 0 where
  pub still : is_one_of serving p ≡ true → has l.quorum b.lost ≡ true → Serves b now p l queue ts

-- ---- phases

pub active_is : (p : Phase) → same_phase p phase.Active ≡ true → p ≡ phase.Active
active_is phase.Active t = refl
active_is other t = absurd cc

pub phases : {b : Terms} {now : ℕ} {p : Phase} {l : Leader} {ts : Timers} → Awaits b now p l ts → (p ≡ phase.Active) ⊎ (p ≡ phase.Updating)
phases (renewing is le r a) = inl is
phases (acknowledging is le lacks on a) = inl is
phases (accepting is le a) = inr is
phases (proposing is lacks a) = inr is

-- what holds of an active leader and of one that is updating holds of it
pub of_serving : {b : Terms} {now : ℕ} {p : Phase} {l : Leader} {ts : Timers} (P : Phase → Type 0) → P phase.Active → P phase.Updating → Awaits b now p l ts → P p
of_serving {p = p} P at_active at_updating A = elim (phases A) [ inl e ↦ subst P (sym e) at_active | inr e ↦ subst P (sym e) at_updating ]

-- an active leader awaits acknowledgements
pub in_time : {b : Terms} {now : ℕ} {p : Phase} {l : Leader} {ts : Timers} → p ≡ phase.Active → Awaits b now p l ts → now ≤ b.second + b.late
in_time {b = b} is (renewing e le r a) = let k = b.acknowledged in omega arith
in_time is (acknowledging e le lacks on a) = le
in_time is (accepting e le a) = absurd (let x : phase.Active ≡ phase.Updating = sym is ∙ e in cc)
in_time is (proposing e lacks a) = absurd (let x : phase.Active ≡ phase.Updating = sym is ∙ e in cc)

-- ---- timers

-- timers of other kinds were armed or disarmed
pub carry : {b : Terms} {now : ℕ} {p : Phase} {l : Leader} {queue : List Waiting} {before after : Timers} → length after ≡ length before
    → end_of timer.Renew after ≡ end_of timer.Renew before → end_of timer.LeaseAck after ≡ end_of timer.LeaseAck before → end_of timer.Accept after ≡ end_of timer.Accept before
    → Serves b now p l queue before → Serves b now p l queue after
carry {b} {now} {p} {l} {queue} {before} {after} size r a c S = record { among = S.among; size = size ∙ S.size; awaits = by S.awaits; commands = S.commands; lease = S.lease }
  where
    by : Awaits b now p l before → Awaits b now p l after
    by (renewing is le ends acks) = renewing is le (λ end e. ends end (sym r ∙ e)) (λ end e. acks end (sym a ∙ e))
    by (acknowledging is le lacks on acks) = acknowledging is le lacks (ap is_some a ∙ on) (λ end e. acks end (sym a ∙ e))
    by (accepting is le ends) = accepting is le (λ end e. ends end (sym c ∙ e))
    by (proposing is lacks ends) = proposing is lacks (λ end e. ends end (sym c ∙ e))

-- none of the three timers for which it waits
pub record Other (u : Timer) : Type 0 where
  pub renew : eqb (index_of timer.Renew) (index_of u) ≡ false
  pub ack : eqb (index_of timer.LeaseAck) (index_of u) ≡ false
  pub accept : eqb (index_of timer.Accept) (index_of u) ≡ false

abbrev pub other : {u : Timer} → eqb (index_of timer.Renew) (index_of u) ≡ false → eqb (index_of timer.LeaseAck) (index_of u) ≡ false → eqb (index_of timer.Accept) (index_of u) ≡ false → Other u
other r a c = record { renew = r; ack = a; accept = c }

module _ {b : Terms} {now : ℕ} {p : Phase} {l : Leader} {queue : List Waiting} where
  pub arm_serves : (at : ℕ) (u : Timer) (ts : Timers) → Other u → Serves b now p l queue ts → Serves b now p l queue (armed at u ts)
  arm_serves at u ts o S = carry (armed_size at u ts S.size ∙ sym S.size)
      (still_ends at timer.Renew u ts (eqb-false (index_of timer.Renew) (index_of u) o.renew))
      (still_ends at timer.LeaseAck u ts (eqb-false (index_of timer.LeaseAck) (index_of u) o.ack))
      (still_ends at timer.Accept u ts (eqb-false (index_of timer.Accept) (index_of u) o.accept)) S

  pub disarm_serves : (u : Timer) (ts : Timers) → Other u → Serves b now p l queue ts → Serves b now p l queue (disarmed u ts)
  disarm_serves u ts o S = carry (disarmed_size u ts S.size ∙ sym S.size)
      (still_on timer.Renew u ts (eqb-false (index_of timer.Renew) (index_of u) o.renew))
      (still_on timer.LeaseAck u ts (eqb-false (index_of timer.LeaseAck) (index_of u) o.ack))
      (still_on timer.Accept u ts (eqb-false (index_of timer.Accept) (index_of u) o.accept)) S

  pub arm_if_serves : (test : Bool) (at : ℕ) (u : Timer) (ts : Timers) → Other u → Serves b now p l queue ts → Serves b now p l queue (cond test (armed at u ts) ts)
  arm_if_serves test at u ts o S = cond_both test (armed at u ts) ts (Serves b now p l queue) (λ _. arm_serves at u ts o S) (λ _. S)

  -- it stays as it is
  pub keep : {ts : Timers} → Serves b now p l queue ts → Stays b now p l queue ts
  keep S = record { still = λ _ _. S }

  -- it isn't active or updating any more
  pub away : {ts : Timers} → is_one_of serving p ≡ false → Stays b now p l queue ts
  away e = record { still = λ t _. absurd (false≢true (sym e ∙ t)) }

  -- its quorum lacks the monitor
  pub free : {ts : Timers} → has l.quorum b.lost ≡ false → Stays b now p l queue ts
  free e = record { still = λ _ t. absurd (false≢true (sym e ∙ t)) }

-- a timer that is armed ends within its length
armed_by : (now u : ℕ) (t : Timer) (ts : Timers) → length ts ≡ 11 → now + length_of t ≤ u → EndsBy t (armed now t ts) u
armed_by now u t ts size le end e =
    let v = min (now + length_of t) (2 ^ 62) in
    let is : Some v ≡ Some end = sym (at_place t t ts (Some v) size refl) ∙ e in
    let same : v ≡ end = cc in
    omega arith

armed_on : (now : ℕ) (t : Timer) (ts : Timers) → length ts ≡ 11 → is_armed t (armed now t ts) ≡ true
armed_on now t ts size = ap is_some (at_place t t ts (Some (min (now + length_of t) (2 ^ 62))) size refl)

-- after a renewal the acknowledgements are awaited, for no longer than before
record Held (second : ℕ) (ts : Timers) : Type 0 where
  size : length ts ≡ 11
  on : is_armed timer.LeaseAck ts ≡ true
  by : EndsBy timer.LeaseAck ts second

held : (second now : ℕ) (ts : Timers) → length ts ≡ 11 → EndsBy timer.LeaseAck ts second → (is_armed timer.LeaseAck ts ≡ false → now + 10000 ≤ second) → Held second (extended_timers now false ts)
held second now ts size ends fresh = cond_both (not (is_armed timer.LeaseAck r)) (armed now timer.LeaseAck r) r (Held second)
    (λ t. record { size = armed_size now timer.LeaseAck r sized; on = armed_on now timer.LeaseAck r sized; by = armed_by now second timer.LeaseAck r sized (fresh (sym (ap is_some same) ∙ not-true _ t)) })
    (λ t. record { size = sized; on = by_not (is_armed timer.LeaseAck r) t; by = λ end e. ends end (sym same ∙ e) })
  where
    r : Timers
    r = armed now timer.Renew ts

    sized : length r ≡ 11
    sized = armed_size now timer.Renew ts size

    same : end_of timer.LeaseAck r ≡ end_of timer.LeaseAck ts
    same = still_ends now timer.LeaseAck timer.Renew ts (eqb-false (index_of timer.LeaseAck) (index_of timer.Renew) refl)

    by_not : (x : Bool) → not x ≡ false → x ≡ true
    by_not true e = refl
    by_not false e = absurd (false≢true (sym e))

held_on : (second now : ℕ) (test : Bool) (ts : Timers) → Held second ts → Held second (maybe_armed test now ts)
held_on second now test ts H = cond_both test (armed now timer.Propose ts) ts (Held second)
    (λ _. record { size = armed_size now timer.Propose ts H.size; on = ap is_some same ∙ H.on; by = λ end e. H.by end (sym same ∙ e) })
    (λ _. H)
  where
    same : end_of timer.LeaseAck (armed now timer.Propose ts) ≡ end_of timer.LeaseAck ts
    same = still_ends now timer.LeaseAck timer.Propose ts (eqb-false (index_of timer.LeaseAck) (index_of timer.Propose) refl)

-- ---- the acts

module _ (b : Terms) (me : Me) (now : ℕ) (other_rank : b.lost ≡ me.member.rank → ⊥) (in_map : b.lost < me.member.monitors) where
  abbrev pub V : Course → Type 0
  V x = Serves b now x.state.phase x.state.leader x.state.clients.queue x.state.timers

  abbrev pub W : Course → Type 0
  W x = Stays b now x.state.phase x.state.leader x.state.clients.queue x.state.timers

  -- ---- sets

  pub only_lacks : has (only me.member.rank) b.lost ≡ false
  only_lacks = by (has (only me.member.rank) b.lost) refl
    where
      by : (t : Bool) → has (only me.member.rank) b.lost ≡ t → has (only me.member.rank) b.lost ≡ false
      by false e = e
      by true e = absurd (other_rank (has_only_is me.member.rank b.lost e))

  pub with_lacks : (s : List Bool) (f : ℕ) → (f ≡ b.lost → ⊥) → has s b.lost ≡ false → has (with_rank s f) b.lost ≡ false
  with_lacks s f ne h = by (has (with_rank s f) b.lost) refl
    where
      by : (t : Bool) → has (with_rank s f) b.lost ≡ t → has (with_rank s f) b.lost ≡ false
      by false e = e
      by true e = absurd (elim (has_with_is s f b.lost e) [ inl is ↦ ne (sym is) | inr k ↦ false≢true (sym h ∙ k) ])

  -- a leader of itself alone has no other monitor in its quorum
  pub alone_lacks : (q : List Bool) → is_alone me q ≡ true → has q b.lost ≡ false
  alone_lacks q e = by (has q b.lost) refl
    where
      by : (t : Bool) → has q b.lost ≡ t → has q b.lost ≡ false
      by false h = h
      by true h =
          let most = me.member.most in
          let own = me.member.in_map in
          let within = alone_within me.member.monitors me.member.rank q (omega arith) e in
          absurd (other_rank (has_only_is me.member.rank b.lost (within_at me.member.monitors q (only me.member.rank) b.lost within in_map h)))

  peons : (q : List Bool) → has q b.lost ≡ true → is_empty (members me q) ≡ false
  peons q h = by (is_empty (members me q)) refl
    where
      by : (t : Bool) → is_empty (members me q) ≡ t → is_empty (members me q) ≡ false
      by false e = e
      by true e = absurd (false≢true (sym (alone_lacks q e) ∙ h))

  -- ---- leading

  -- a lease that is extended ends in time
  extended_by : now ≤ b.second + b.late → (end : ℕ) → extended now ≡ Some end → end ≤ b.shown
  extended_by le end e =
      let k = b.leased in
      let same : min (now + LENGTH) (2 ^ 62) ≡ end = cc in
      omega arith

  -- an active leader renews the leases
  pub extend_serves : (x : Course) → has x.state.leader.quorum b.lost ≡ true → x.state.phase ≡ phase.Active → now ≤ b.second + b.late → (x.state.clients.queue ≡ []) ⊎ MayBegin b
      → length x.state.timers ≡ 11 → EndsBy timer.LeaseAck x.state.timers b.second → (is_armed timer.LeaseAck x.state.timers ≡ false → now + 10000 ≤ b.second)
      → Serves b now x.state.phase (extend me now x).state.leader x.state.clients.queue (maybe_armed (has_queue x) now (extend me now x).state.timers)
  unfolding extend
  extend_serves x among is le commands size ends fresh =
      let H = held_on b.second now (has_queue x) _ (subst (λ (t : Bool). Held b.second (extended_timers now t x.state.timers)) (sym (peons x.state.leader.quorum among)) (held b.second now x.state.timers size ends fresh)) in
      record { among = among; size = H.size; awaits = acknowledging is le only_lacks H.on H.by; commands = commands; lease = extended_by le }

  be_active_serves : (x : Course) → has x.state.leader.quorum b.lost ≡ true → x.state.phase ≡ phase.Updating → now ≤ b.first + b.late → (x.state.clients.queue ≡ []) ⊎ MayBegin b
      → length x.state.timers ≡ 11 → V (be_active me now x)
  unfolding be_active extend
  be_active_serves x among is le commands size =
      let k = b.acknowledged in
      let ts = cond (same_phase x.state.phase phase.Active) x.state.timers (only_ping x.state.timers) in
      let entered = cond_both (same_phase x.state.phase phase.Active) x.state.timers (only_ping x.state.timers) (λ (ts : Timers). (length ts ≡ 11) × (end_of timer.LeaseAck ts ≡ None))
      (λ t. absurd (let e : phase.Active ≡ phase.Updating = sym (active_is x.state.phase t) ∙ is in cc)) (λ _. (refl, refl)) in
      let H = held_on b.second now (has_queue x) _ (subst (λ (t : Bool). Held b.second (extended_timers now t ts)) (sym (peons x.state.leader.quorum among))
      (held b.second now ts entered.0 (λ end e. absurd (let x : None ≡ Some end = sym entered.1 ∙ e in cc)) (λ _. omega arith))) in
      record { among = among; size = H.size; awaits = acknowledging refl (omega arith) only_lacks H.on H.by; commands = commands; lease = extended_by (omega arith) }

  be_active_free : (x : Course) → has x.state.leader.quorum b.lost ≡ false → W (be_active me now x)
  unfolding be_active extend
  be_active_free x e = free e

  -- an updating leader that has the lost monitor in its quorum
  abbrev Committing : State → Type 0
  Committing s = (has s.leader.quorum b.lost ≡ true) × (s.phase ≡ phase.Updating) × ((s.clients.queue ≡ []) ⊎ MayBegin b) × (length s.timers ≡ 11)

  pub commit_serves : (value : List Op) (x : Course) → has x.state.leader.quorum b.lost ≡ true → x.state.phase ≡ phase.Updating → now ≤ b.first + b.late → (x.state.clients.queue ≡ []) ⊎ MayBegin b
      → length x.state.timers ≡ 11 → Then W (commit me now value x)
  unfolding commit
  commit_serves value x among is le commands size = and_then (λ y. Committing y.state) W (learn (suc x.readings.last) (value ∷ []) x) _ (learn_stays Committing (suc x.readings.last) (value ∷ []) x (among, is, commands, size))
      (λ y H. done (keep (be_active_serves _ H.0 H.1 le H.2 (disarmed_size timer.Accept y.state.timers H.3))))

  begin_alone_free : (v : ℕ) (value : List Op) (o : Option Origin) (x : Course) → has x.state.leader.quorum b.lost ≡ false → Then W (begin_alone me v value o x)
  unfolding begin_alone
  begin_alone_free v value o x e = and_then (λ y. has y.state.leader.quorum b.lost ≡ false) W (learn v (value ∷ []) x) _ (learn_stays (λ s. has s.leader.quorum b.lost ≡ false) v (value ∷ []) x e) (λ y H. done (free H))

  begin_with_free : (s : LeaderStage) (v : ℕ) (value : List Op) (o : Option Origin) (x : Course) → has x.state.leader.quorum b.lost ≡ false → W (begin_with me now s v value o x)
  unfolding begin_with
  begin_with_free s v value o x e = free e

  begin_free : (s : LeaderStage) (value : List Op) (o : Option Origin) (x : Course) → has x.state.leader.quorum b.lost ≡ false → Then W (begin me now s value o x)
  unfolding begin
  begin_free s value o x e = let v = suc x.readings.last in
      where_fits W which.Version v _ (λ _. by_test (is_alone me x.state.leader.quorum) (λ _. begin_alone_free v value o x e) (λ _. done (begin_with_free s v value o x e)))

  -- an active leader begins a value
  begin_with_serves : (v : ℕ) (value : List Op) (o : Option Origin) (x : Course) → has x.state.leader.quorum b.lost ≡ true → now ≤ b.second + b.late → MayBegin b → LeaseBy x.state.leader b.shown
      → length x.state.timers ≡ 11 → V (begin_with me now stage.Updating v value o x)
  unfolding begin_with
  begin_with_serves v value o x among le may lease size =
      let entered = cond_both (same_phase x.state.phase phase.Updating) x.state.timers (only_ping x.state.timers) (λ (ts : Timers). length ts ≡ 11) (λ _. size) (λ _. refl) in
      let bare = disarmed_size timer.LeaseAck _ (disarmed_size timer.Renew _ entered) in
      record { among = among; size = armed_size now timer.Accept _ bare; awaits = proposing refl only_lacks (armed_by now b.third timer.Accept _ bare (omega arith)); commands = inr may; lease = lease }

  pub begin_serves : (value : List Op) (o : Option Origin) (x : Course) → V x → x.state.phase ≡ phase.Active → MayBegin b → Then W (begin me now stage.Updating value o x)
  unfolding begin
  begin_serves value o x A is may = let v = suc x.readings.last in
      where_fits W which.Version v _ (λ _. by_test (is_alone me x.state.leader.quorum)
      (λ a. absurd (false≢true (sym (alone_lacks x.state.leader.quorum a) ∙ A.among)))
      (λ _. done (keep (begin_with_serves v value o x A.among (in_time is A.awaits) may A.lease A.size))))

  -- ---- collecting

  begin_found_free : (found : Option Found) (x : Course) → has x.state.leader.quorum b.lost ≡ false → Then W (begin_found me now found x)
  begin_found_free None x e = done (be_active_free x e)
  begin_found_free (Some f) x e = by_test (eqb f.version (suc x.readings.last)) (λ _. begin_free stage.Previous f.value None x e) (λ _. done (be_active_free x e))

  settle_free : (x : Course) → has x.state.leader.quorum b.lost ≡ false → Then W (settle me now x)
  unfolding settle
  settle_free x e = begin_found_free x.state.leader.found _ e

  collect_with_stays : (ranks : List Bool) (pn : ℕ) (x : Course) → (has ranks b.lost ≡ false → has (collect_with me now ranks pn x).state.leader.quorum b.lost ≡ false) × W (collect_with me now ranks pn x)
  unfolding collect_with
  collect_with_stays ranks pn x = (λ e. e, away refl)

  collect_stays : (ranks : List Bool) (above : ℕ) (x : Course) → Then W (collect me now ranks above x)
  unfolding collect
  collect_stays ranks above x =
      let pn = next_number (or_zero x.readings.last_pn) (max (promise_of x.readings) above) me.member.rank in
      where_fits W which.Pn pn _ (λ _. let C = collect_with_stays ranks pn x in by_test (is_alone me ranks) (λ a. settle_free (collect_with me now ranks pn x) (C.0 (alone_lacks ranks a))) (λ _. done C.1))

  reign_stays : (ranks : List Bool) (x : Course) → Then W (reign me now ranks x)
  unfolding reign
  reign_stays ranks x = collect_stays ranks 0 _

  -- ---- elections

  in_next : (x : Course) → Then (λ (y : Course). Unit {0}) (in_next_epoch x)
  in_next x = where_fits (λ (y : Course). Unit {0}) which.Epoch (suc (epoch_of x.readings)) (λ n. Ok (change (Epoch n) x)) (λ _. done tt)

  in_odd : (x : Course) → Then (λ (y : Course). Unit {0}) (in_odd_epoch x)
  unfolding in_odd_epoch
  in_odd x = by_test (is_even (epoch_of x.readings)) (λ _. in_next x) (λ _. done tt)

  pub elect_stays : (x : Course) → Then W (elect me now x)
  unfolding elect
  elect_stays x = and_then (λ y. Unit {0}) W (in_odd_epoch x) _ (in_odd x) (λ y H. done (away refl))

  pub adopt_stays : (e : ℕ) (x : Course) → W (adopt now e x)
  unfolding adopt
  adopt_stays e x = away refl

  pub win_stays : (ranks : List Bool) (x : Course) → Then W (win me now ranks x)
  unfolding win
  win_stays ranks x = and_then (λ y. Unit {0}) W (in_next_epoch x) _ (in_next x) (λ y H. reign_stays ranks y)

  -- ---- probing

  pub bootstrap_stays : ltb 1 me.member.monitors ≡ true → (x : Course) → Then W (bootstrap me now x)
  unfolding bootstrap
  bootstrap_stays many x = by_test (ltb 1 me.member.monitors) (λ _. done (away refl)) (λ e. absurd (false≢true (sym e ∙ many)))
