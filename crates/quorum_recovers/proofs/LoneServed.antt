-- A map of one monitor serves, in every run.
use Rattle.calm_sizes.specs.Sizes.{AllShort, longest}
use Rattle.law_names.proofs.Runs.{AllFit, Event, IsAsked, IsCommand, Keeps, Monitors, Ran, Reached, World, first_world, ran, request_of, run}
use Rattle.law_names.proofs.Table.{AllByRecursion, Command, Course, Learn, Readings, Rule, Session, allows, are_within, entry, has, is_too_long, number, only, play, refusal, service_of, shared_entries, text, value}
use Rattle.log_copies.proofs.Matching.{record_there}
use Rattle.log_copies.specs.Versions.{HasVersions}
use Rattle.mon_tx.specs.declared.key.Area.TheVariants as area
use Rattle.mon_tx.specs.declared.key.Key.TheVariants as key
use Rattle.mon_wire.specs.declared.phase.Phase.TheVariants as phase
use Rattle.mon_wire.specs.declared.reply.Reply.TheVariants as reply
use Rattle.quorum_agreement.proofs.Grown.{first_is}
use Rattle.quorum_agreement.proofs.LoneWorlds.{IsWhole, LoneHolds, OfLone}
use Rattle.quorum_agreement.proofs.Runs.{lone_run}
use Rattle.quorum_elects.proofs.Can.{Can, Onward, Sane, Scope, onward_on}
use Rattle.quorum_elects.proofs.Moving.{Did}
use Rattle.quorum_elects.proofs.Planning.{Does, Plays, idle, plays_then, plays_weaker, step}
use Rattle.quorum_elects.proofs.Ranks.{highest_of, lowest_of}
use Rattle.quorum_elects.proofs.Standing.{Is}
use Rattle.quorum_elects.proofs.Steps.{ask, is_now, start, steps_fit}
use Rattle.quorum_elects.proofs.Stores.{versions_short}
use Rattle.quorum_elects.proofs.Tests.{and_false, chosen, in_phase, itself_is, otherwise, quorum_is}
use Rattle.quorum_elects.specs.Electing as electing
use Rattle.quorum_elects.specs.Electing.{chosen_leader}
use Rattle.quorum_elects.specs.Plans as plans
use Rattle.quorum_elects.specs.Plans.{PlanStep, PlannedWay}
use Rattle.quorum_elects.specs.Ready.{AllNear, IsReady}
use Rattle.quorum_elects.specs.Ways.{Clock, OthersRest}
use Rattle.quorum_laws.specs.Accepting.{IsMajorityOf, readings_at}
use Rattle.quorum_model.proofs.Continuing.{at, ran_on}
use Rattle.quorum_model.proofs.Reached.{world_is}
use Rattle.quorum_near.proofs.Low.{first_low}
use Rattle.quorum_recovers.proofs.Asked.{asked_at, asked_is, keeps, last_is, learned_is, request_fits, service_room, value_val}
use Rattle.quorum_recovers.proofs.Known.{record_read}
use Rattle.quorum_recovers.proofs.Lone.{Commits, IsAlone, Refuses, answers_alone, lone, starts_alone}
use Rattle.quorum_recovers.specs.Plan as plan
use Rattle.quorum_recovers.specs.Plan.{way_back}
use Rattle.quorum_recovers.specs.Serving.{IsServed}
use Rattle.quorum_walk.proofs.Ranks.{has_only, has_only_is}
use Rattle.std.proofs.Common.{Bool, Err, List, None, Option, Some, [], ap, arith, false, inl, inr, length, ltb, max, refl, subst, suc, sym, true, unwrap_or, ℕ, ◌&&◌, ◌*◌, ◌++◌, ◌+◌, ◌<◌, ◌^◌, ◌∙◌, ◌∷◌, ◌≡◌, ◌≤◌, ◌⊎◌}
use Rattle.std.proofs.lemmas.Bool.{le-ltb}

module _ (most : 1 ≤ 15) (rule : Rule) (events : List Event) (F : AllFit 1 events) (on : (ran (lone most rule) events).stop ≡ None) (q : List Bool) (M : IsMajorityOf 1 q) (ready : IsReady (lone most rule) q (run (lone most rule) events))
    (session : Session) (cmd : Command) (form : IsCommand cmd) (brief : is_too_long cmd ≡ false) (clock : Clock) where
  abbrev ms : Monitors
  ms = lone most rule

  abbrev w0 : World
  w0 = run (lone most rule) events

  abbrev Us : Scope
  Us = record { ms = lone most rule; q = q; sent = length (run (lone most rule) events).messages; asks = Some (session, cmd); clock = clock }

  abbrev l : ℕ
  l = length (run (lone most rule) events).log

  -- it is the one member, and may lead
  leader_is : ready.leader ≡ 0
  leader_is = let z = M.below ready.leader ready.among in omega arith

  inside : has q 0 ≡ true
  inside = subst (λ (x : ℕ). has q x ≡ true) leader_is ready.among

  may_lead : allows rule 0 ≡ true
  may_lead = subst (λ (x : ℕ). allows rule x ≡ true) leader_is ready.may_lead

  there : ran (lone most rule) events ≡ at (run (lone most rule) events)
  there = λ j. record { world = run (lone most rule) events; stop = on j }

  -- ---- what every run says of it

  lone_holds : (v : World) → Reached (lone most rule) v → LoneHolds (lone most rule) v
  lone_holds v R = subst (LoneHolds (lone most rule)) (world_is (lone most rule) v R) (lone_run (lone most rule) refl R.events R.fit)

  first_reached : Reached (lone most rule) (run (lone most rule) events)
  first_reached = record { events = events; fit = F; is = there }

  whole : (v : World) → LoneHolds (lone most rule) v → IsWhole v.log (v.store 0)
  whole v H = let O = H.1 in O.stores 0 (omega arith)

  read : (v : World) → LoneHolds (lone most rule) v → (readings_at v 0).last ≡ length v.log
  read v H = let O = H.1 in let W = whole v H in last_is v.log O.short O.values (v.store 0) (length v.log) W.versions

  sane : Sane (record { ms = lone most rule; q = q; sent = length (run (lone most rule) events).messages; asks = Some (session, cmd); clock = clock }) (run (lone most rule) events)
  sane = record {
    since = omega arith;
    reached = first_reached;
    short = λ i h. (let z = M.below i h in subst (λ (x : ℕ). AllShort longest ((run (lone most rule) events).store x)) (let e : 0 ≡ i = omega arith in e) first_short);
  }
    where
      first_short : AllShort longest ((run (lone most rule) events).store 0)
      first_short =
          let H = lone_holds (run (lone most rule) events) first_reached in
          let O = H.1 in
          let W = whole (run (lone most rule) events) H in
          let R = ready.monitors 0 inside in
          versions_short (run (lone most rule) events).log O.short O.values (length (run (lone most rule) events).log) ((run (lone most rule) events).store 0) W.versions R.store

  -- ---- it starts, and is asked

  abbrev Up : Course → Type 0
  Up y = IsAlone (length (run (lone most rule) events).log) y.readings y.state

  starts : Does Us (plans.Starts 0 ∷ []) 1 (Did Us Up w0 0) w0
  starts =
      let H = lone_holds w0 first_reached in
      let W = whole w0 H in
      let R = ready.monitors 0 inside in
      start Us w0 sane 0 refl inside Up (starts_alone most rule (shared_entries (w0.store 0)) (clock.event w0) (readings_at w0 0) l may_lead W.unmarked (read w0 H) W.settled R.numbers)

  module _ (v : World) (o : Onward Us w0 v) (D : Did Us Up w0 0 v) where
    sane_v : Sane Us v
    sane_v = o.sane sane

    H : LoneHolds (lone most rule) v
    H = lone_holds v sane_v.reached

    O : OfLone (lone most rule) v v.asked
    O = H.1

    V : HasVersions v.log (length v.log) (v.store 0)
    V = let W = whole v H in W.versions

    Z : Is (IsAlone l) v 0
    Z = is_now Us (IsAlone l) w0 v 0 D.y D.moved D.did

    same : length v.log ≡ l
    same = let A = Z.holds in sym (read v H) ∙ A.last

    room : suc (length v.log) ≤ 2 ^ 62
    room = let e = same in let z = ready.log in omega arith

    abbrev Goal : Course → Type 0
    Goal y = Commits most rule (shared_entries (v.store 0)) (clock.command v) (readings_at v 0) l cmd session y ⊎ Refuses most rule (shared_entries (v.store 0)) (clock.command v) (readings_at v 0) cmd session y

    asks : Does Us (plans.Asks 0 session cmd ∷ []) 1 (Did Us Goal v 0) v
    asks = ask Us v sane_v 0 refl inside Goal session cmd (refl, refl) (request_fits cmd form) Z.state Z.up
        (answers_alone most rule (shared_entries (v.store 0)) (clock.command v) (readings_at v 0) Z.state l Z.holds (let e = same in let z = room in omega arith) session cmd brief
        (service_room v.log O.short O.values (v.store 0) (length v.log) V room (service_of cmd)) (value_val v.log O.short O.values (v.store 0) (length v.log) V room cmd form 0 (omega arith)))

    module _ (u : World) (o2 : Onward Us v u) (K : Did Us Goal v 0 u) where
      later : (e : ℕ) → u.events ≤ e → w0.events < e
      later e le = let a = o.elapsed in let b = K.moved.elapses in omega arith

      Hu : LoneHolds (lone most rule) u
      Hu = let S : Sane Us u = o2.sane sane_v in lone_holds u S.reached

      Ou : OfLone (lone most rule) u u.asked
      Ou = Hu.1

      Vu : HasVersions u.log (length u.log) (u.store 0)
      Vu = let W = whole u Hu in W.versions

      module _ (C : Commits most rule (shared_entries (v.store 0)) (clock.command v) (readings_at v 0) l cmd session K.y) where
        long : length u.log ≡ suc l
        long = sym (read u Hu) ∙ ap (λ (r : Readings). r.last) K.moved.reads ∙ C.last

        low : max 1 (number (u.store 0) area.Paxos key.FirstCommitted) ≤ suc l
        low =
            let f = first_is (u.store 0) in
            let e = long in
            let r = read u Hu in
            elim (first_low u.log (readings_at u 0) (subst (λ (c : ℕ). Keeps u.log c (readings_at u 0)) (sym r) (keeps u.log Ou.short Ou.values (u.store 0) (length u.log) Vu))) [ inl few ↦ (omega arith) | inr far ↦ (omega arith) ]

        encodes : entry u.log (suc (length v.log)) ≡ text C.value_is
        encodes =
            ap (λ (k : ℕ). entry u.log (suc k)) same
            ∙ ap (λ (o : Option (List ℕ)). unwrap_or o []) (sym (record_read (u.store 0) (suc l) ∙ record_there u.log Ou.short Ou.values (length u.log) (u.store 0) Vu (suc l) low (let e = long in omega arith))
            ∙ ap (λ (r : Readings). r.record_of (suc l)) K.moved.reads ∙ C.kept
            ∙ subst (λ (k : ℕ). (play (Learn (suc k) C.value_is) (readings_at v 0)).record_of (suc k) ≡ Some (text C.value_is)) same (learned_is v.log O.short O.values (v.store 0) (length v.log) V refl room cmd form 0 (omega arith) C.value_is C.made))

        done : IsServed 1 session cmd w0 u
        done = let R = K.moved.replies session (reply.Done (suc l)) C.says in record {
          by = R.told;
          among = R.among;
          later = later R.told.event R.since;
          session = R.session_is;
          answer = inl (record {
            v = l;
            done = R.reply_is;
            new = omega arith;
            near = omega arith;
            within = (let e = long in omega arith);
            made = subst (λ (x : ℕ). IsAsked 1 (record { rank = x; session = session; request = request_of cmd } ∷ []) u.log l) (sym R.rank_is)
                (subst (λ (k : ℕ). IsAsked 1 (asked_at 0 session cmd ∷ []) u.log k) same (asked_is v.log O.short O.values (v.store 0) (length v.log) V refl room cmd form 0 (omega arith) C.value_is C.made 1 (omega arith) session u.log o2.log_prefix encodes));
          });
        }

      after : IsServed 1 session cmd w0 u
      after = by K.did
        where
          by : Goal K.y → IsServed 1 session cmd w0 u
          by (inl C) = done C
          by (inr P) = let R = K.moved.replies session (refusal P.why) P.says in record {
            by = R.told;
            among = R.among;
            later = later R.told.event R.since;
            session = R.session_is;
            answer = inr (record { why = P.why; made = subst (λ (x : ℕ). value (readings_at u x) cmd x ≡ Err P.why) (sym R.rank_is) (subst (λ (x : Readings). value x cmd 0 ≡ Err P.why) (sym (K.moved.reads ∙ P.reads)) P.is); refused = R.reply_is });
          }

  -- ---- its plan

  -- nobody else is asked
  alone : (set : List Bool) → electing.is_other set 0 0 ≡ false
  alone set = itself_is set 0 0 refl

  -- the greatest of one
  only_top : (number : ℕ → ℕ) (set : List Bool) → has set 0 ≡ true → ((m : ℕ) → has set m ≡ true → m ≡ 0) → ltb (number 0) (number (electing.highest number set 0 1)) ≡ false
  only_top number set h one = let T = highest_of number set 0 h 1 in le-ltb (number 0) (number (electing.highest number set 0 1)) (let z = ap number (one (electing.highest number set 0 1) T.within) in omega arith)

  -- once it serves, it does nothing but what a client asks
  abbrev idle_steps : List PlanStep
  idle_steps =
      electing.probes q 0 0 ∷ electing.calls 1 q 0 ∷ electing.votes q 0 0 ∷ electing.counts q 0 0 ∷ electing.ends 0 ∷ electing.follows 0 0 ∷ plan.raises 1 0 ∷ plan.collects 0 0 ∷ plan.collects 0 0
      ∷ plan.commits 0 0 ∷ plan.accepts phase.Previous 0 0 ∷ plan.commits 0 0 ∷ []

  rest_of : (v : World) → Did Us Up w0 0 v → AllByRecursion (λ (s : PlanStep). s v ≡ []) idle_steps
  rest_of v D = (
    otherwise _ _ (has q 0 && (electing.is_other q 0 0 && electing.is_in v 0 phase.Probing)) (and_false (has q 0) _ (λ i. alone q i && electing.is_in v 0 phase.Probing)),
    (
      otherwise _ _ (ltb (electing.epoch_at v 0) (electing.epoch_at v (electing.highest (electing.epoch_at v) q 0 1))) (only_top (electing.epoch_at v) q inside (λ m h. (let z = M.below m h in omega arith))),
      (
        otherwise _ _ (electing.is_other q 0 0) (alone q),
        (
          otherwise _ _ (electing.is_other q 0 0 && electing.is_in v 0 phase.Electing) (λ i. alone q i && electing.is_in v 0 phase.Electing),
          (
            otherwise _ _ (electing.is_in v 0 phase.Electing) (let A = Z.holds in in_phase v 0 Z.state phase.Active phase.Electing Z.up A.phase),
            (
              otherwise _ _ (electing.is_other (electing.quorum_at v 0) 0 0) (alone (electing.quorum_at v 0)),
              (
                otherwise _ _ (ltb (plan.promise_at v 0) (plan.promise_at v (electing.highest (plan.promise_at v) (electing.quorum_at v 0) 0 1))) (only_top (plan.promise_at v) (electing.quorum_at v 0) ((λ i. has (quorum i) 0) ∙ has_only 0 (omega arith)) (λ m h. has_only_is 0 m (sym (λ i. has (quorum i) m) ∙ h))),
                (
                  collecting,
                  (
                    collecting,
                    (
                      committing,
                      (
                        otherwise _ _ (electing.is_other (electing.quorum_at v 0) 0 0 && electing.is_in v 0 phase.Previous) (λ i. alone (electing.quorum_at v 0) i && electing.is_in v 0 phase.Previous),
                        (
                          committing,
                          tt,
                        ),
                      ),
                    ),
                  ),
                ),
              ),
            ),
          ),
        ),
      ),
    ),
  )
    where
      Z : Is (IsAlone l) v 0
      Z = is_now Us (IsAlone l) w0 v 0 D.y D.moved D.did

      quorum : electing.quorum_at v 0 ≡ only 0
      quorum = let A = Z.holds in quorum_is v 0 Z.state (only 0) Z.up A.quorum

      collecting : plan.collects 0 0 v ≡ []
      collecting = otherwise _ _ (electing.is_other (electing.quorum_at v 0) 0 0 && (electing.is_in v 0 phase.Collecting && are_within 0 (electing.quorum_at v 0) (plan.answered_at v 0)))
          (λ i. alone (electing.quorum_at v 0) i && (electing.is_in v 0 phase.Collecting && are_within 0 (electing.quorum_at v 0) (plan.answered_at v 0)))

      committing : plan.commits 0 0 v ≡ []
      committing = otherwise _ _ (electing.is_other (electing.quorum_at v 0) 0 0 && ltb (readings_at v 0).last (readings_at v 0).last) (λ i. alone (electing.quorum_at v 0) i && ltb (readings_at v 0).last (readings_at v 0).last)

  alone_by : Plays Us (electing.elects 1 q 0 ++ plan.led 1 0 session cmd) 2 (IsServed 1 session cmd w0) w0
  alone_by =
      plays_weaker Us (omega arith) (λ v o p. p)
      (plays_then Us {k = 1} {l = 1} (step Us (electing.starts q 0) (plans.Starts 0 ∷ []) (chosen _ _ (has q 0) inside) starts) (λ v o D.
      plays_then Us {ss = idle_steps} {k = 0} {l = 1} (idle Us idle_steps (rest_of v D) D) (λ v2 o1 D2.
      plays_then Us {k = 1} {l = 0} (step Us (plan.asks 0 session cmd) (plans.Asks 0 session cmd ∷ []) refl (asks v2 (onward_on Us w0 v v2 o o1) D2)) (λ u o2 K.
      idle Us (plan.accepts phase.Updating 0 0 ∷ []) (otherwise _ _ (electing.is_other (electing.quorum_at u 0) 0 0 && electing.is_in u 0 phase.Updating) (λ i. alone (electing.quorum_at u 0) i && electing.is_in u 0 phase.Updating), tt)
      (after v2 (onward_on Us w0 v v2 o o1) D2 u o2 K)))))

  lowest_is : chosen_leader rule q ≡ 0
  lowest_is = let L = lowest_of q (allows rule) 0 inside may_lead in let z = M.below (chosen_leader rule q) L.within in omega arith

  alone_served : Plays Us (way_back (lone most rule) q session cmd) 2 (IsServed 1 session cmd w0) w0
  alone_served = subst (λ (r : ℕ). Plays Us (electing.elects 1 q r ++ plan.led 1 r session cmd) 2 (IsServed 1 session cmd w0) w0) (sym lowest_is) alone_by

  pub lone_way : PlannedWay (lone most rule) events q (Some (session, cmd)) clock (way_back (lone most rule) q session cmd) (2 * 1 * 1 + 14 * 1 + 5) (IsServed 1 session cmd)
  unfolding alone_served
  lone_way = record {
    way = record {
      more = C.events;
      few = (let z = C.few in omega arith);
      steps = C.steps;
      fits = steps_fit (lone most rule) q (length w0.messages) M.below (Some (session, cmd)) (request_fits cmd form) clock w0 C.events C.steps;
      goes_on = ap (λ (r : Ran). r.stop) further;
      rest = subst (λ (r : Ran). OthersRest q w0 r.world) (sym further) (let o = C.onward in o.rest);
      leads = subst (λ (r : Ran). IsServed 1 session cmd w0 r.world) (sym further) C.there;
    };
    follows = (let P = alone_served in P.follow);
  }
    where
      C : Can Us 2 (IsServed 1 session cmd w0) w0
      C = let P = alone_served in P.can

      further : ran (lone most rule) (events ++ C.events) ≡ at C.next
      further = ran_on (lone most rule) first_world w0 events C.events there ∙ C.goes

-- ---- any map of one monitor

abbrev Serves : Rule → ℕ → Type 0
Serves rule k = (most : k ≤ 15) → (let ms : Monitors = record { count = k; most = most; rule = rule } in
    (events : List Event) → AllFit k events → (ran ms events).stop ≡ None → (q : List Bool) → IsMajorityOf k q → IsReady ms q (run ms events) → (s : Session) (c : Command) → IsCommand c → is_too_long c ≡ false
    → (clock : Clock) → PlannedWay ms events q (Some (s, c)) clock (way_back ms q s c) (2 * k * k + 14 * k + 5) (IsServed k s c))

pub lone_serves : (ms : Monitors) → ms.count ≡ 1 → (events : List Event) → AllFit ms.count events → (ran ms events).stop ≡ None
    → (q : List Bool) → IsMajorityOf ms.count q → AllNear q (run ms events) → IsReady ms q (run ms events) → (s : Session) (c : Command) → IsCommand c → is_too_long c ≡ false
    → (clock : Clock) → PlannedWay ms events q (Some (s, c)) clock (way_back ms q s c) (2 * ms.count * ms.count + 14 * ms.count + 5) (IsServed ms.count s c)
lone_serves ms one events F on q M near ready s c form brief clock =
    (subst (Serves ms.rule) (sym one) (λ most events F on q M ready s c form brief clock. lone_way most ms.rule events F on q M ready s c form brief clock)) ms.most events F on q M ready s c form brief clock
