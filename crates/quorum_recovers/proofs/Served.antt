-- A majority that is near the whole log serves, in every run.
use Rattle.law_names.proofs.Runs.{AllFit, Event, IsAsked, IsCommand, Monitors, World, ran, request_of, run}
use Rattle.law_names.proofs.Table.{Command, CommandRefused, Session, allows, has, is_too_long, promise_of, refusal, value}
use Rattle.mon_wire.specs.declared.reply.Reply.TheVariants as reply
use Rattle.quorum_elects.proofs.Can.{Can, Onward, Sane, Scope, reached_holds}
use Rattle.quorum_elects.proofs.Elected.{Led, elected_by, its_sane, near_lacks, the_majority, way, way_on}
use Rattle.quorum_elects.proofs.Majorities.{Candidacy, Majority, scope}
use Rattle.quorum_elects.proofs.Moving.{HasReply}
use Rattle.quorum_elects.proofs.Planning.{Plays, plays_then, plays_weaker}
use Rattle.quorum_elects.proofs.Ranks.{same_or_not}
use Rattle.quorum_elects.proofs.Standing.{CloseAt, Is, IsCollector, IsPeon}
use Rattle.quorum_elects.proofs.Voting.{Following, Reigning}
use Rattle.quorum_elects.specs.Plans.{PlannedWay}
use Rattle.quorum_elects.specs.Ready.{AllNear, HasRoom, IsReady, LacksAtMost}
use Rattle.quorum_elects.specs.Ways.{Clock, ComesInLease, HasWay, IsAskedBy}
use Rattle.quorum_laws.specs.Accepting.{IsMajorityOf, readings_at}
use Rattle.quorum_near.proofs.Whole.{near}
use Rattle.quorum_recovers.proofs.Asked.{asked_at, request_fits}
use Rattle.quorum_recovers.proofs.Leaders as leaders
use Rattle.quorum_recovers.proofs.LoneServed.{lone_serves}
use Rattle.quorum_recovers.proofs.Rounds as rounds
use Rattle.quorum_recovers.proofs.Serving as serving
use Rattle.quorum_recovers.proofs.Terms.{Term}
use Rattle.quorum_recovers.specs.Plan.{led, way_back}
use Rattle.quorum_recovers.specs.Serving.{IsServed, SomeWay}
use Rattle.quorum_walk.proofs.Ranks.{has_only_is}
use Rattle.std.proofs.Common.{Bool, Err, List, None, Some, [], arith, false, inl, inr, length, refl, subst, suc, sym, true, ℕ, ◌*◌, ◌+◌, ◌<◌, ◌∷◌, ◌≡◌, ◌≤◌, ◌⊎◌}
use Rattle.std.proofs.lemmas.Bool.{cases_order}

module _ (G : Majority) (room : HasRoom G.c) (log : length G.from.log ≡ G.c) (session : Session) (cmd : Command) (asks : G.asks ≡ Some (session, cmd)) (form : IsCommand cmd) (brief : is_too_long cmd ≡ false) (leased : ComesInLease G.q G.clock) where
  abbrev n : ℕ
  n = G.ms.count

  abbrev Us : Scope
  Us = scope G

  -- once one of them is elected
  module _ (v : World) (o : Onward (scope G) G.from v) (sane : Sane (scope G) v) (L : Led G v) where
    abbrev K : Candidacy G
    K = L.by

    abbrev T : Following G L.by L.a n v
    T = L.following

    abbrev F : Reigning G L.by L.a v
    F = T.keeps

    M : IsMajorityOf n G.q
    M = G.major

    abbrev Z : Is (IsCollector G.c K.r (suc K.E) L.a F.pn F.first F.last) v K.r
    Z = F.stands

    C : IsCollector G.c K.r (suc K.E) L.a F.pn F.first F.last (readings_at v K.r) Z.state
    C = Z.holds

    close_of : (f : ℕ) → has L.a f ≡ true → CloseAt G.c (readings_at v f).marked (readings_at v f).first (readings_at v f).last
    close_of f h = by (same_or_not f K.r)
      where
        by : (f ≡ K.r) ⊎ (f ≡ K.r → ⊥) → CloseAt G.c (readings_at v f).marked (readings_at v f).first (readings_at v f).last
        by (inl e) = subst (λ (x : ℕ). CloseAt G.c (readings_at v x).marked (readings_at v x).first (readings_at v x).last) (sym e) C.close
        by (inr ne) = let Y : Is (IsPeon G.c (suc K.E) K.r L.a) v f = T.done f (M.below f (F.within f h)) (h, ne) in let P = Y.holds in P.close

    most : (f : ℕ) → has L.a f ≡ true → (readings_at v f).last ≤ G.c
    most f h = let P = close_of f h in P.most

    least : (f : ℕ) → has L.a f ≡ true → G.c ≤ suc (readings_at v f).last
    least f h = let P = close_of f h in P.least

    abbrev term : Term G
    term = record { r = K.r; e = suc K.E; a = L.a; mine = F.self; within = F.within; major = F.major; T = λ f. (readings_at v f).last; most = most; least = least; room = room }

    first : rounds.First G term v
    first = record {
      pn = F.pn;
      room = C.room;
      l = F.last;
      first = F.first;
      hub = record {
        state = Z.state;
        up = Z.up;
        holds = record {
          unmarked = (let P = C.close in P.unmarked);
          epoch = C.epoch;
          last = C.last_is;
          promised = C.promised;
          own = C.own;
          short = (let z = C.room in omega arith);
          phase = C.phase;
          quorum = C.quorum;
          number = C.number;
          found = C.found;
          answered = C.answered;
          lasts = λ f h ne. absurd (ne (has_only_is K.r f h));
          long = C.long;
          queue = C.queue;
        };
      };
      asks = F.asks;
      kept = λ g h. (let P = C.close in let f = C.first_is in let l = C.last_is in let z = least g h in let y = P.most in elim P.low [ inl few ↦ (omega arith) | inr far ↦ (omega arith) ]);
      under = (let P = C.close in let l = C.last_is in let y = P.most in omega arith);
      least = (let P = C.close in let l = C.last_is in let y = P.least in omega arith);
      own = (let l = C.last_is in omega arith);
      peons = λ f h ne. (let Y : Is (IsPeon G.c (suc K.E) K.r L.a) v f = T.done f (M.below f (F.within f h)) (h, ne) in let P = Y.holds in (
        promise_of (readings_at v f),
        record { state = Y.state; up = Y.up; holds = record { unmarked = (let z = P.close in z.unmarked); epoch = P.epoch; last = refl; promised = refl; phase = P.phase; leader = P.leader; quorum = P.quorum } },
        (P.numbers).1,
      ));
    }

    answer : (u : World) → serving.Served G term v.events session cmd u → IsServed n session cmd G.from u
    answer u S = by S.answer
      where
        by : ((x : ℕ) × HasReply u K.r session (reply.Done (suc x)) × (G.c ≤ x) × (x ≤ suc G.c) × (x < length u.log) × IsAsked n (asked_at K.r session cmd ∷ []) u.log x) ⊎ ((why : CommandRefused) × (value (readings_at u K.r) cmd K.r ≡ Err why) × HasReply u K.r session (refusal why)) → IsServed n session cmd G.from u
        by (inl D) = let R = D.1 in record {
          by = R.told;
          among = R.among;
          later = (let z = S.later in let p = o.elapsed in let e = R.since in omega arith);
          session = R.session_is;
          answer = inl (record { v = D.0; done = R.reply_is; new = omega (arith, log); near = omega (arith, log); within = D.4; made = subst (λ (x : ℕ). IsAsked n (record { rank = x; session = session; request = request_of cmd } ∷ []) u.log D.0) (sym R.rank_is) D.5 });
        }
        by (inr D) = let R = D.2 in record {
          by = R.told;
          among = R.among;
          later = (let z = S.later in let p = o.elapsed in let e = R.since in omega arith);
          session = R.session_is;
          answer = inr (record { why = D.0; made = subst (λ (x : ℕ). value (readings_at u x) cmd x ≡ Err D.0) (sym R.rank_is) D.1; refused = R.reply_is });
        }

    fit : leaders.Fit G term v
    fit = record { room = sane; holds = reached_holds G.ms G.several v sane.reached; log = (let z = (o.log_prefix).short in omega (arith, log)) }

    served : Plays (scope G) (led n K.r session cmd) (2 + (2 * n + 2 * n) + ((1 * n + (2 * n + 1 * n)) + (1 + 2 * n))) (IsServed n session cmd G.from) v
    served = plays_weaker Us (omega arith) (λ u o2 S. answer u S)
        (serving.serves_all G term session cmd (subst (λ a. IsAskedBy a session (request_of cmd)) (sym asks) (refl, refl)) form brief leased v fit first)

  module _ (m : ℕ) (among : has G.q m ≡ true) (may_lead : allows G.ms.rule m ≡ true) (sane : Sane (scope G) G.from) where
    pub is_served_by : Plays (scope G) (way_back G.ms G.q session cmd) (2 * n * n + 14 * n + 5) (IsServed n session cmd G.from) G.from
    is_served_by = plays_weaker Us (omega arith) (λ v o p. p) (plays_then Us (elected_by G m among may_lead sane) (λ v o L.
        subst (λ (r : ℕ). Plays (scope G) (led n r session cmd) (2 + (2 * n + 2 * n) + ((1 * n + (2 * n + 1 * n)) + (1 + 2 * n))) (IsServed n session cmd G.from) v) L.lowest (served v o (o.sane sane) L)))

    pub is_served : Can (scope G) (2 * n * n + 14 * n + 5) (IsServed n session cmd G.from) G.from
    is_served = let P = is_served_by in P.can

-- ---- the laws

-- a majority serves of which each member lacks at most one version
pub close_serve : (ms : Monitors) → 1 < ms.count → (events : List Event) → AllFit ms.count events → (ran ms events).stop ≡ None
    → (q : List Bool) → IsMajorityOf ms.count q → ((i : ℕ) → has q i ≡ true → LacksAtMost 1 (run ms events) i) → IsReady ms q (run ms events) → (s : Session) (c : Command) → IsCommand c → is_too_long c ≡ false
    → (clock : Clock) → ComesInLease q clock → HasWay ms events q (Some (s, c)) clock (2 * ms.count * ms.count + 14 * ms.count + 5) (IsServed ms.count s c)
close_serve ms several events F on q M near ready s c form brief clock leased =
    way ms several events F on q M near ready (Some (s, c)) clock (request_fits c form) (2 * ms.count * ms.count + 14 * ms.count + 5) (IsServed ms.count s c)
    (is_served (the_majority ms several events F on q M near ready (Some (s, c)) clock) ready.log refl s c refl form brief leased ready.leader ready.among ready.may_lead (its_sane ms several events F on q M near ready (Some (s, c)) clock))

several_serve : (ms : Monitors) → 1 < ms.count → (events : List Event) → AllFit ms.count events → (ran ms events).stop ≡ None
    → (q : List Bool) → IsMajorityOf ms.count q → AllNear q (run ms events) → IsReady ms q (run ms events) → (s : Session) (c : Command) → IsCommand c → is_too_long c ≡ false
    → (clock : Clock) → ComesInLease q clock → PlannedWay ms events q (Some (s, c)) clock (way_back ms q s c) (2 * ms.count * ms.count + 14 * ms.count + 5) (IsServed ms.count s c)
unfolding way way_on is_served_by
several_serve ms several events F on q M near ready s c form brief clock leased =
    let lacks : (i : ℕ) → has q i ≡ true → LacksAtMost 1 (run ms events) i = λ i h. near_lacks (run ms events) i (near i h) in
    let P = is_served_by (the_majority ms several events F on q M lacks ready (Some (s, c)) clock) ready.log refl s c refl form brief leased ready.leader ready.among ready.may_lead (its_sane ms several events F on q M lacks ready (Some (s, c)) clock) in
    record {
      way = way ms several events F on q M lacks ready (Some (s, c)) clock (request_fits c form) (2 * ms.count * ms.count + 14 * ms.count + 5) (IsServed ms.count s c) P.can;
      follows = P.follow;
    }

-- by events that are planned
pub serves_as_planned : (ms : Monitors) → 1 ≤ ms.count → (events : List Event) → AllFit ms.count events → (ran ms events).stop ≡ None
    → (q : List Bool) → IsMajorityOf ms.count q → AllNear q (run ms events) → IsReady ms q (run ms events) → (s : Session) (c : Command) → IsCommand c → is_too_long c ≡ false
    → (clock : Clock) → ComesInLease q clock → PlannedWay ms events q (Some (s, c)) clock (way_back ms q s c) (2 * ms.count * ms.count + 14 * ms.count + 5) (IsServed ms.count s c)
serves_as_planned ms some events F on q M near ready s c form brief clock leased = by (cases_order 1 ms.count)
  where
    by : (1 ≡ ms.count) ⊎ ((1 < ms.count) ⊎ (ms.count < 1)) → PlannedWay ms events q (Some (s, c)) clock (way_back ms q s c) (2 * ms.count * ms.count + 14 * ms.count + 5) (IsServed ms.count s c)
    by (inl e) = lone_serves ms (sym e) events F on q M near ready s c form brief clock
    by (inr (inl several)) = several_serve ms several events F on q M near ready s c form brief clock leased
    by (inr (inr none)) = absurd (omega arith)

pub serves_any : (ms : Monitors) → 1 ≤ ms.count → (events : List Event) → AllFit ms.count events → (ran ms events).stop ≡ None
    → (q : List Bool) → IsMajorityOf ms.count q → AllNear q (run ms events) → IsReady ms q (run ms events) → (s : Session) (c : Command) → IsCommand c → is_too_long c ≡ false
    → (clock : Clock) → ComesInLease q clock → HasWay ms events q (Some (s, c)) clock (2 * ms.count * ms.count + 14 * ms.count + 5) (IsServed ms.count s c)
serves_any ms some events F on q M near ready s c form brief clock leased = let P = serves_as_planned ms some events F on q M near ready s c form brief clock leased in P.way

pub recovers : (ms : Monitors) → 1 ≤ ms.count → (events : List Event) → AllFit ms.count events → (ran ms events).stop ≡ None
    → (s : Session) (c : Command) → IsCommand c → is_too_long c ≡ false → (clock : Clock) → SomeWay ms events (Some (s, c)) clock (2 * ms.count * ms.count + 14 * ms.count + 5) (IsServed ms.count s c)
recovers ms some events F on s c form brief clock =
    let N = near ms events F some in
    record { by = N.by; major = N.major; way = λ ready leased. serves_any ms some events F on N.by N.major N.near ready s c form brief clock leased }
