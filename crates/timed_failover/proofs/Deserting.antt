-- A quorum that is led and loses its leader: its others are deserted.
use Rattle.law_names.proofs.Runs.{Envelope, Monitors, Reached, message_at}
use Rattle.law_names.proofs.Table.{AllByRecursion, Me, Phase, Readings, State, end_of, epoch_of, has, is_armed, lag, readings_of}
use Rattle.mon_wire.specs.declared.phase.Phase.TheVariants as phase
use Rattle.mon_wire.specs.declared.phase.Timer.TheVariants as timer
use Rattle.quorum_laws.specs.Accepting.{readings_at}
use Rattle.quorum_model.proofs.Members.{me_is, member_of}
use Rattle.quorum_recovers.proofs.Known.{low_of}
use Rattle.quorum_stays.proofs.Onward.{one_state}
use Rattle.quorum_stays.specs.Steady.{FollowsSince, Reign, Round, Steady, leased}
use Rattle.quorum_timed.specs.Begins.{Begins}
use Rattle.quorum_timed.specs.Timed.{Pace, Timed}
use Rattle.quorum_timed.specs.Waiting.{Waits, leads_alone, timer_of}
use Rattle.std.proofs.Common.{Bool, IsSomeAnd, List, None, Option, Some, [], ap, arith, false, inl, inr, is_some, max, refl, subst, suc, sym, true, ℕ, ◌+◌, ◌<◌, ◌^◌, ◌||◌, ◌∙◌, ◌≡◌, ◌≤◌, ◌⊎◌}
use Rattle.std.proofs.lemmas.Bool.{false≢true, lt-ltb}
use Rattle.timed_election.proofs.Lists.{closed, opened}
use Rattle.timed_election.specs.Joining.{Deserted, FollowsLost, IsOld, NeedsNoCopy}
use Rattle.timed_failover.proofs.Between.{begins_between}
use Rattle.timed_failover.proofs.CarriedOld.{carried_old}
use Rattle.timed_failover.proofs.Led.{HasOrAccepted, near_holds, of_quorum, peon_last, peon_unmarked, sent_epoch, several}
use Rattle.timed_failover.specs.Failover.{IsWithout, NoCallIsUnderWay, from_time}

-- two monitors that have a version, or accepted its value, need no copy of each other
pub are_near : (version : ℕ) (w v : Readings) → HasOrAccepted version w → HasOrAccepted version v → (v.first ≤ 1) ⊎ (v.first + 501 ≤ v.last) → NeedsNoCopy w.last v.first v.last
are_near version w v a b low = (first a b low, last a b)
  where
    last : HasOrAccepted version w → HasOrAccepted version v → v.last ≤ w.last + lag
    last (inl a) (inl b) = omega arith
    last (inl a) (inr b) = let c = b.0 in omega arith
    last (inr a) (inl b) = let c = a.0 in omega arith
    last (inr a) (inr b) = let c = a.0 in let d = b.0 in omega arith

    first : HasOrAccepted version w → HasOrAccepted version v → (v.first ≤ 1) ⊎ (v.first + 501 ≤ v.last) → v.first ≤ max 1 w.last
    first a b (inl few) = omega arith
    first (inl a) (inl b) (inr far) = omega arith
    first (inl a) (inr b) (inr far) = let c = b.0 in omega arith
    first (inr a) (inl b) (inr far) = let c = a.0 in omega arith
    first (inr a) (inr b) (inr far) = let c = a.0 in let d = b.0 in omega arith

module _ (ms : Monitors) (full q : List Bool) (pace : Pace) (earlier : ℕ) (reign : Reign) (r : Round) (t : Timed) (R : Reached ms t.world) (S : Steady ms full (from_time earlier pace) reign r t)
    (W : IsWithout full q reign.leader) (B : Begins ms q pace t) (quiet : NoCallIsUnderWay q t) where
  -- ---- the members

  not_leader : (i : ℕ) → has q i ≡ true → i ≡ reign.leader → ⊥
  not_leader i qi same = false≢true (sym W.gone ∙ subst (λ (k : ℕ). has q k ≡ true) same qi)

  was_member : (i : ℕ) → has q i ≡ true → has full i ≡ true
  was_member i qi = sym (W.others i (not_leader i qi)) ∙ qi

  in_map : (i : ℕ) → has q i ≡ true → i < ms.count
  in_map i qi = S.members i (was_member i qi)

  epoch_is : (i : ℕ) → has q i ≡ true → epoch_of (readings_of (t.world.store i)) ≡ reign.epoch
  epoch_is i qi = let P = S.peons i (was_member i qi) (not_leader i qi) in P.epoch

  unmarked : (i : ℕ) → has q i ≡ true → (readings_of (t.world.store i)).marked ≡ false
  unmarked i qi = peon_unmarked ms full (from_time earlier pace) reign r t R S i (was_member i qi) (not_leader i qi)

  abbrev IsLast : ℕ → Type 0
  IsLast i = HasOrAccepted r.version (readings_of (t.world.store i))

  last_is : (i : ℕ) → has q i ≡ true → IsLast i
  last_is i qi = peon_last ms full (from_time earlier pace) reign r t R S i (was_member i qi) (not_leader i qi)

  near : (i j : ℕ) → has q i ≡ true → has q j ≡ true → NeedsNoCopy (readings_of (t.world.store i)).last (readings_of (t.world.store j)).first (readings_of (t.world.store j)).last
  near i j qi qj =
      let low = low_of ms (several ms full (from_time earlier pace) reign r t R S) t.world (near_holds ms full (from_time earlier pace) reign r t R S) j (in_map j qj) (unmarked j qj) in
      are_near r.version (readings_of (t.world.store i)) (readings_of (t.world.store j)) (last_is i qi) (last_is j qj) low

  -- ---- what is under way

  early : (f : ℕ) → has q f ≡ true → (k : ℕ) (m : Envelope) → message_at t.world.messages k ≡ Some m → m.message.from ≡ f → m.message.epoch ≤ reign.epoch
  early f qf k m there from = let s = sent_epoch ms full (from_time earlier pace) reign r t R S k m there in let e = epoch_is f qf in let z = ap (λ (j : ℕ). epoch_of (readings_at t.world j)) from in omega arith

  all_old : (f i : ℕ) → has q f ≡ true → has q i ≡ true → AllByRecursion (IsOld reign.epoch t.world.messages f i (t.time + pace.delay)) (t.under_way f i)
  all_old f i qf qi = carried_old ms reign t.world.messages f i (t.time + pace.delay) (early f qf) [] (t.under_way f i) tt (begins_between ms q pace t B f i qf qi) (quiet f i qf qi)
      (S.others f i (was_member f qf) (was_member i qi) ((λ same. absurd (not_leader f qf same)), (λ same. absurd (not_leader i qi same))))

  -- ---- what they remember

  -- the lease of a peon ends in time
  ends : (me : Me) (at : ℕ) (s : State) → s.phase ≡ phase.Peon → Waits me at s → IsSomeAnd (end_of timer.Lease s.timers) (λ end. end ≤ at + 10000)
  ends me at s p K = by (end_of timer.Lease s.timers) refl armed
    where
      armed : (is_some (end_of timer.Lease s.timers) || false) ≡ true
      armed = subst (λ (z : Phase). (is_armed (timer_of z s.requester.stage) s.timers || leads_alone me z s.leader.quorum) ≡ true) p K.armed

      by : (o : Option ℕ) → end_of timer.Lease s.timers ≡ o → (is_some o || false) ≡ true → IsSomeAnd o (λ end. end ≤ at + 10000)
      by None is k = absurd (false≢true k)
      by (Some end) is k = let l = K.soon timer.Lease end is in omega arith

  follows_so : (i : ℕ) → has q i ≡ true → (at : ℕ) (o : Option State) → t.world.state i ≡ o → IsSomeAnd o (FollowsSince reign.leader full at) → IsSomeAnd o (FollowsLost q (pace.since + 10000 + pace.clock i))
  follows_so i qi at None is k = absurd k
  follows_so i qi at (Some s) is F =
      let lt = lt-ltb i ms.count (in_map i qi) in
      let o = opened (Waits (member_of ms i lt) (pace.since + pace.clock i)) (t.world.state i) (B.wait i (member_of ms i lt) qi (me_is ms i lt)) in
      let waits : Waits (member_of ms i lt) (pace.since + pace.clock i) s = subst (Waits (member_of ms i lt) (pace.since + pace.clock i)) (one_state (t.world.state i) o.0 s o.1 is) o.2 in
      let e = opened (λ (end : ℕ). end ≤ pace.since + pace.clock i + 10000) (end_of timer.Lease s.timers) (ends (member_of ms i lt) (pace.since + pace.clock i) s F.follows waits) in record {
        follows = F.follows;
        lost = ap (has q) F.leader_is ∙ W.gone;
        kinds = F.kinds;
        waits = closed (λ (end : ℕ). end ≤ pace.since + 10000 + pace.clock i) (end_of timer.Lease s.timers) e.0 e.1 (let k = e.2 in omega arith);
        only = F.only;
      }

  follows : (i : ℕ) → has q i ≡ true → IsSomeAnd (t.world.state i) (FollowsLost q (pace.since + 10000 + pace.clock i))
  follows i qi = let P = S.peons i (was_member i qi) (not_leader i qi) in follows_so i qi (leased r P.heard + pace.clock i) (t.world.state i) refl P.follows

  -- ---- they are deserted

  pub deserted : suc reign.epoch ≤ 2 ^ 62 → Deserted q pace reign.epoch (pace.since + 10000) t
  deserted fits =
      let Q = of_quorum ms full (from_time earlier pace) reign r t R S in
      let time = B.time in record {
        uncalled = record {
          even = Q.even;
          fits = fits;
          since = omega arith;
          epoch_is = epoch_is;
          unmarked = unmarked;
          near = near;
          under_way = all_old;
          uncalled = λ k m there from _. (let s = sent_epoch ms full (from_time earlier pace) reign r t R S k m there in let e = epoch_is m.message.from from in omega arith);
          calls = λ f i qf qi. (let c = B.calls f i in omega arith);
        };
        before = omega arith;
        follow = follows;
      }
