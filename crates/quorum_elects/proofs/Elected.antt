-- A majority that is near the whole log elects a leader, in every run.
use Rattle.law_names.proofs.Runs.{AllFit, Event, Monitors, Ran, World, first_world, last_of, ran, run}
use Rattle.law_names.proofs.Table.{Command, Session, allows, epoch_of, has}
use Rattle.quorum_agreement.proofs.Invariant.{LogHolds}
use Rattle.quorum_elects.proofs.Can.{Can, Sane, Scope, reached_holds}
use Rattle.quorum_elects.proofs.Majorities.{Candidacy, Majority, epoch_at, scope}
use Rattle.quorum_elects.proofs.Planning.{Plays, plays_all, plays_each, plays_then, plays_weaker}
use Rattle.quorum_elects.proofs.Probing.{Probed, probe_all, start_all, started_probed}
use Rattle.quorum_elects.proofs.Ranking.{IsBefore}
use Rattle.quorum_elects.proofs.Ranks.{Least, greatest_of, lowest_of, same_or_not}
use Rattle.quorum_elects.proofs.Rows.{odd_from}
use Rattle.quorum_elects.proofs.Standing.{Close, Is, IsCollector, IsPeon}
use Rattle.quorum_elects.proofs.Steps.{AsksFit, steps_fit}
use Rattle.quorum_elects.proofs.Stores.{near_short}
use Rattle.quorum_elects.proofs.Voting.{Counting, Elected, Following, Reigning, called, count_end, count_one, follow_all, vote_all, voted_counting, won_following}
use Rattle.quorum_elects.specs.Electing as electing
use Rattle.quorum_elects.specs.Electing.{chosen_leader, election}
use Rattle.quorum_elects.specs.Leading.{HasLeader}
use Rattle.quorum_elects.specs.Plans.{PlannedWay}
use Rattle.quorum_elects.specs.Ready.{AllNear, IsReady, LacksAtMost}
use Rattle.quorum_elects.specs.Ways.{Clock, HasWay, OthersRest}
use Rattle.quorum_laws.specs.Accepting.{IsMajorityOf, readings_at}
use Rattle.quorum_model.proofs.Continuing.{at, ran_on}
use Rattle.quorum_near.proofs.LowWorlds.{AllLow, first_of}
use Rattle.quorum_near.proofs.Whole.{Holds, last_read, mark_read, within}
use Rattle.quorum_near.specs.Near.{HasPending, IsNear}
use Rattle.std.proofs.Common.{Bool, List, None, Option, ap, arith, false, inl, inr, length, refl, subst, suc, sym, true, ℕ, ◌*◌, ◌++◌, ◌+◌, ◌<◌, ◌∙◌, ◌≡◌, ◌≤◌, ◌⊎◌}
use Rattle.std.proofs.lemmas.Bool.{cases_order}

-- ---- a monitor that lacks at most one version

pub near_lacks : (w : World) (i : ℕ) → IsNear w i → LacksAtMost 1 w i
near_lacks w i N = record { unmarked = N.unmarked; near = by N.near }
  where
    by : (last_of (w.store i) ≡ length w.log) ⊎ HasPending w i → length w.log ≤ last_of (w.store i) + 1
    by (inl e) = omega arith
    by (inr P) = let e = P.next in omega arith

pub near_close : (ms : Monitors) (w : World) (H : LogHolds ms w) → AllLow w → (i : ℕ) → i < ms.count → LacksAtMost 1 w i → Close (length w.log) (readings_at w i)
near_close ms w H L i lt N =
    let r = last_read (w.store i) in
    let near = N.near in
    record { unmarked = unmarked; most = within ms w H L i lt unmarked; least = omega arith; low = first_of ms w H L i lt unmarked }
  where
    unmarked : (readings_at w i).marked ≡ false
    unmarked = mark_read (w.store i) ∙ N.unmarked

-- ---- the rounds

module _ (G : Majority) where
  abbrev n : ℕ
  n = G.ms.count

  abbrev Us : Scope
  Us = scope G

  -- one of them leads, and the others follow
  pub record Led (w : World) : Type 0 where
    pub by : Candidacy G
    pub lowest : by.r ≡ chosen_leader G.ms.rule G.q
    pub a : List Bool
    pub following : Following G by a n w

  rounds : (K : Candidacy G) → K.r ≡ chosen_leader G.ms.rule G.q → (m : ℕ) → has G.q m ≡ true → odd_from (epoch_at G m) ≡ K.E → Sane (scope G) G.from → Plays (scope G) (electing.elects n G.q K.r) (2 * n * n + 4 * n + 2) Led G.from
  rounds K lowest m there top sane =
      plays_weaker Us (omega arith) (λ v o p. p)
      (plays_then Us (start_all G sane) (λ v1 o1 A.
      plays_then Us (plays_each Us n (2 * n) (λ k. electing.each n (electing.probes G.q k)) (Probed G) (probe_all G) n 0 (omega arith) v1 (started_probed G v1 A)) (λ v2 o2 P.
      plays_then Us (called G K m there top v2 P) (λ v3 o3 V.
      plays_then Us (vote_all G K v3 V) (λ v4 o4 V.
      plays_then Us (plays_all Us n 1 (electing.counts G.q K.r) (Counting G K) (count_one G K) v4 (voted_counting G K v4 V)) (λ v5 o5 C.
      plays_then Us (count_end G K v5 C) (λ v6 o6 L. follow v6 L)))))))
    where
      follow : (v : World) (L : Elected G K v) → Plays (scope G) (electing.each n (electing.follows K.r)) (1 * n) Led v
      follow v L = let W = L.won in plays_weaker Us (omega arith) (λ x o F. record { by = K; lowest = lowest; a = W.quorum; following = F })
          (follow_all G K W.quorum v (won_following G K v L))

  leads : (v : World) → Led v → HasLeader n G.q G.from v
  leads v L = record {
    leader = K.r;
    quorum = L.a;
    among = F.self;
    within = F.within;
    major = record { below = λ k h. M.below k (F.within k h); major = F.major };
    leads = record { state = Z.state; up = Z.up; is = record { collects = H.phase; quorum = H.quorum } };
    follow = λ f h ne. let Y : Is (IsPeon G.c (suc K.E) K.r L.a) v f = T.done f (M.below f (F.within f h)) (h, ne) in let P = Y.holds in record { state = Y.state; up = Y.up; is = record { follows = P.phase; leader = P.leader; quorum = P.quorum } };
    epoch = λ f h. same f h (same_or_not f K.r);
  }
    where
      K : Candidacy G
      K = L.by

      M : IsMajorityOf n G.q
      M = G.major

      T : Following G L.by L.a n v
      T = L.following

      F : Reigning G L.by L.a v
      F = T.keeps

      Z : Is (IsCollector G.c K.r (suc K.E) L.a F.pn F.first F.last) v K.r
      Z = F.stands

      H : IsCollector G.c K.r (suc K.E) L.a F.pn F.first F.last (readings_at v K.r) Z.state
      H = Z.holds

      same : (f : ℕ) → has L.a f ≡ true → (f ≡ K.r) ⊎ (f ≡ K.r → ⊥) → epoch_of (readings_at v f) ≡ epoch_of (readings_at v K.r)
      same f h (inl e) = ap (λ (x : ℕ). epoch_of (readings_at v x)) e
      same f h (inr ne) = let Y : Is (IsPeon G.c (suc K.E) K.r L.a) v f = T.done f (M.below f (F.within f h)) (h, ne) in let P = Y.holds in P.epoch ∙ sym H.epoch

  -- one that may lead is among them
  module _ (m : ℕ) (among : has G.q m ≡ true) (may_lead : allows G.ms.rule m ≡ true) (sane : Sane (scope G) G.from) where
    pub elected_by : Plays (scope G) (election G.ms G.q) (2 * n * n + 4 * n + 2) Led G.from
    elected_by =
        let L = lowest_of G.q (allows G.ms.rule) m among may_lead in
        let T = greatest_of G.q (λ f. odd_from (epoch_at G f)) m among n in
        rounds (record { r = chosen_leader G.ms.rule G.q; mine = L.within; may_lead = L.passes; before = before (record { rank = chosen_leader G.ms.rule G.q; within = L.within; passes = L.passes; least = L.least }); E = odd_from (epoch_at G T.rank); greatest = T.greatest }) refl T.rank T.within refl sane
      where
        before : (L : Least G.q (allows G.ms.rule)) (f : ℕ) → has G.q f ≡ true → (f ≡ L.rank → ⊥) → IsBefore G.ms.rule L.rank f
        before L f h ne = record { may_lead = L.passes; lower = λ may. (let l = L.least f h may in lower L f ne l) }
          where
            lower : (L : Least G.q (allows G.ms.rule)) (f : ℕ) → (f ≡ L.rank → ⊥) → L.rank ≤ f → L.rank < f
            lower L f ne l = by (cases_order L.rank f)
              where
                by : (L.rank ≡ f) ⊎ ((L.rank < f) ⊎ (f < L.rank)) → L.rank < f
                by (inl e) = absurd (ne (sym e))
                by (inr (inl less)) = less
                by (inr (inr more)) = absurd (omega arith)

    pub has_leader_by : Plays (scope G) (election G.ms G.q) (2 * n * n + 4 * n + 2) (HasLeader n G.q G.from) G.from
    has_leader_by = plays_weaker Us (omega arith) (λ v o L. leads v L) elected_by

    pub has_leader : Can (scope G) (2 * n * n + 4 * n + 2) (HasLeader n G.q G.from) G.from
    has_leader = let P = has_leader_by in P.can

-- ---- the law

-- what monitors of a set can do after a run is a way on
module _ (ms : Monitors) (events : List Event) (there : ran ms events ≡ at (run ms events)) (q : List Bool) (below : (i : ℕ) → has q i ≡ true → i < ms.count) (asks : Option (Session × Command)) (clock : Clock) where
  abbrev Them : Scope
  Them = record { ms = ms; q = q; sent = length (run ms events).messages; asks = asks; clock = clock }

  unfoldable pub way_on : AsksFit asks → (most : ℕ) (P : World → World → Type 0) → Can Them most (P (run ms events)) (run ms events) → HasWay ms events q asks clock most P
  way_on fits most P C = record {
    more = C.events;
    few = C.few;
    steps = C.steps;
    fits = steps_fit ms q (length (run ms events).messages) below asks fits clock (run ms events) C.events C.steps;
    goes_on = ap (λ (r : Ran). r.stop) further;
    rest = subst (λ (r : Ran). OthersRest q (run ms events) r.world) (sym further) (let o = C.onward in o.rest);
    leads = subst (λ (r : Ran). P (run ms events) r.world) (sym further) C.there;
  }
    where
      further : ran ms (events ++ C.events) ≡ at C.next
      further = ran_on ms first_world (run ms events) events C.events there ∙ C.goes

-- a majority of a run, near its log and ready
module _ (ms : Monitors) (several : 1 < ms.count) (events : List Event) (F : AllFit ms.count events) (on : (ran ms events).stop ≡ None) (q : List Bool) (M : IsMajorityOf ms.count q) (near : (i : ℕ) → has q i ≡ true → LacksAtMost 1 (run ms events) i) (ready : IsReady ms q (run ms events))
    (asks : Option (Session × Command)) (clock : Clock) where
  pub there : ran ms events ≡ at (run ms events)
  there = λ j. record { world = run ms events; stop = on j }

  pub holds : Holds ms several (run ms events)
  holds = reached_holds ms several (run ms events) (record { events = events; fit = F; is = there })

  abbrev pub the_majority : Majority
  the_majority = record {
    ms = ms;
    several = several;
    q = q;
    major = M;
    asks = asks;
    clock = clock;
    from = run ms events;
    c = length (run ms events).log;
    close = λ f h. near_close ms (run ms events) holds.0 holds.1 f (M.below f h) (near f h);
    numbers = λ f h. (let R = ready.monitors f h in R.numbers);
  }

  pub its_sane : Sane (scope the_majority) (run ms events)
  its_sane = record {
    since = omega arith;
    reached = record { events = events; fit = F; is = there };
    short = λ i h. (let N = near i h in let R = ready.monitors i h in near_short ms (run ms events) holds.0 i (M.below i h) (mark_read ((run ms events).store i) ∙ N.unmarked) R.store);
  }

  -- what they can do is a way on
  unfoldable pub way : AsksFit asks → (most : ℕ) (P : World → World → Type 0) → Can (scope the_majority) most (P (run ms events)) (run ms events) → HasWay ms events q asks clock most P
  way fits most P C = way_on ms events there q M.below asks clock fits most P C

-- and its events follow the plan
pub elects_by : (ms : Monitors) → 1 < ms.count → (events : List Event) → AllFit ms.count events → (ran ms events).stop ≡ None
    → (q : List Bool) → IsMajorityOf ms.count q → AllNear q (run ms events) → IsReady ms q (run ms events)
    → (clock : Clock) → PlannedWay ms events q None clock (election ms q) (2 * ms.count * ms.count + 4 * ms.count + 2) (HasLeader ms.count q)
unfolding way way_on has_leader_by
elects_by ms several events F on q M near ready clock =
    let lacks : (i : ℕ) → has q i ≡ true → LacksAtMost 1 (run ms events) i = λ i h. near_lacks (run ms events) i (near i h) in
    let P = has_leader_by (the_majority ms several events F on q M lacks ready None clock) ready.leader ready.among ready.may_lead (its_sane ms several events F on q M lacks ready None clock) in
    record { way = way ms several events F on q M lacks ready None clock tt (2 * ms.count * ms.count + 4 * ms.count + 2) (HasLeader ms.count q) P.can; follows = P.follow }

pub elects : (ms : Monitors) → 1 < ms.count → (events : List Event) → AllFit ms.count events → (ran ms events).stop ≡ None
    → (q : List Bool) → IsMajorityOf ms.count q → AllNear q (run ms events) → IsReady ms q (run ms events)
    → (clock : Clock) → HasWay ms events q None clock (2 * ms.count * ms.count + 4 * ms.count + 2) (HasLeader ms.count q)
elects ms several events F on q M all_near ready clock =
    let near : (i : ℕ) → has q i ≡ true → LacksAtMost 1 (run ms events) i = λ i h. near_lacks (run ms events) i (all_near i h) in
    way ms several events F on q M near ready None clock tt (2 * ms.count * ms.count + 4 * ms.count + 2) (HasLeader ms.count q)
    (has_leader (the_majority ms several events F on q M near ready None clock) ready.leader ready.among ready.may_lead (its_sane ms several events F on q M near ready None clock))
