-- A leader that a majority follows commits what was in progress, and answers a client.
use Rattle.law_names.proofs.Runs.{IsAsked, IsCommand, Monitors, World, request_of}
use Rattle.law_names.proofs.Table.{Body, Command, CommandRefused, Course, Op, Phase, Readings, Session, State, entry, has, is_too_long, only, promise_of, refusal, same_phase, service_of, shared_entries, text, value}
use Rattle.log_copies.proofs.Unmarked.{OnLog}
use Rattle.mon_msg.specs.declared.plan.Origin.TheVariants as origin
use Rattle.mon_wire.specs.declared.body.Body.TheVariants as body
use Rattle.mon_wire.specs.declared.phase.Phase.TheVariants as phase
use Rattle.mon_wire.specs.declared.reply.Reply.TheVariants as reply
use Rattle.quorum_agreement.proofs.Chosen.{Chosen, IsEntry}
use Rattle.quorum_agreement.proofs.Invariant.{OfLog}
use Rattle.quorum_elects.proofs.Can.{New, Onward, Scope, log_prefix_on, new_stays}
use Rattle.quorum_elects.proofs.Majorities.{Majority, scope}
use Rattle.quorum_elects.proofs.Moving.{Did, HasReply}
use Rattle.quorum_elects.proofs.Planning.{Plays, plays_none, plays_then, plays_weaker, step}
use Rattle.quorum_elects.proofs.Ranks.{in_or_out, same_or_not}
use Rattle.quorum_elects.proofs.Standing.{Is, letter}
use Rattle.quorum_elects.proofs.Steps.{ask, is_now, is_stays}
use Rattle.quorum_elects.proofs.Tests.{and_false, in_phase, itself_is, otherwise, outside_is, quorum_is}
use Rattle.quorum_elects.specs.Electing as electing
use Rattle.quorum_elects.specs.Plans as plans
use Rattle.quorum_elects.specs.Ways.{ComesInLease, IsAskedBy}
use Rattle.quorum_history.proofs.History.{Accepted}
use Rattle.quorum_history.proofs.Holds.{ActsIn, InPhase, core_of}
use Rattle.quorum_laws.proofs.Chosen.{leaders_know}
use Rattle.quorum_laws.proofs.Invariant.{InvOf}
use Rattle.quorum_laws.proofs.Reading.{as_accepted, state_holds}
use Rattle.quorum_laws.specs.Accepting.{readings_at}
use Rattle.quorum_laws.specs.Values.{has_heard}
use Rattle.quorum_recovers.proofs.Asked.{asked_at, asked_is, last_is, request_fits, service_room, value_val}
use Rattle.quorum_recovers.proofs.Committing as committing
use Rattle.quorum_recovers.proofs.Known.{on_log, within_log}
use Rattle.quorum_recovers.proofs.Leaders as leaders
use Rattle.quorum_recovers.proofs.Rounds as rounds
use Rattle.quorum_recovers.proofs.States.{IsActive, IsHearing, IsProposing}
use Rattle.quorum_recovers.proofs.Terms as terms
use Rattle.quorum_recovers.proofs.Terms.{Term}
use Rattle.quorum_recovers.proofs.ValueRows.{Proposes, Refuses, proposes}
use Rattle.quorum_recovers.specs.Plan as plan
use Rattle.quorum_walk.proofs.FineCourses.{Val}
use Rattle.quorum_walk.proofs.Ranks.{majorities}
use Rattle.quorum_walk.proofs.Sparing.{own_of}
use Rattle.std.proofs.Common.{Bool, Err, IfSome, List, None, Option, Some, [], ap, arith, false, inl, inr, length, ltb, refl, subst, suc, sym, true, ℕ, ◌%◌, ◌&&◌, ◌*◌, ◌+◌, ◌-◌, ◌<◌, ◌^◌, ◌∙◌, ◌∷◌, ◌≡◌, ◌≤◌, ◌⊎◌}
use Rattle.std.proofs.lemmas.Bool.{cases_lt, le-ltb, lt-ltb}

module _ (G : Majority) (Q : Term G) where
  abbrev ms : Monitors
  ms = G.ms

  abbrev n : ℕ
  n = G.ms.count

  abbrev several : 1 < n
  several = G.several

  abbrev q : List Bool
  q = G.q

  abbrev Us : Scope
  Us = scope G

  abbrev sent : ℕ
  sent = length G.from.messages

  abbrev c : ℕ
  c = G.c

  abbrev r : ℕ
  r = Q.r

  abbrev e : ℕ
  e = Q.e

  abbrev a : List Bool
  a = Q.a

  abbrev mine : has a r ≡ true
  mine = Q.mine

  abbrev within : (f : ℕ) → has a f ≡ true → has q f ≡ true
  within = Q.within

  abbrev T : ℕ → ℕ
  T = Q.T

  abbrev On : World → World → Type 0
  On w v = Onward Us w v

  abbrev Mail : ℕ → ℕ → Body → World → Type 0
  Mail f g b w = New sent w (record { to = g; message = letter n f e b })

  below : (f : ℕ) → has a f ≡ true → f < n
  below f h = terms.below G Q f h

  lt_of : (f : ℕ) → has a f ≡ true → ltb f n ≡ true
  lt_of f h = lt-ltb f n (below f h)

  abbrev Fit : World → Type 0
  Fit w = leaders.Fit G Q w

  abbrev Ready : World → Type 0
  Ready w = rounds.Ready G Q w

  abbrev First : World → Type 0
  First w = rounds.First G Q w

  -- ---- the leader is active, and all members have its versions

  pub record Resting (w : World) : Type 0 where
    pub fit : Fit w
    pub l : ℕ
    pub pn : ℕ
    pub short : pn ≤ 2 ^ 62
    pub hub : Is (IsActive r e a l pn) w r
    pub peons : committing.Level G Q l pn w
    pub low : c ≤ l
    pub high : l ≤ suc c

  -- an active leader has the whole log: a majority accepted the last version, so a member of its quorum did
  whole_log : (w : World) → Fit w → (l pn : ℕ) → Is (IsActive r e a l pn) w r → ((f : ℕ) → has a f ≡ true → (f ≡ r → ⊥) → (u : ℕ) × Is (IsHearing r e a u pn) w f) → length w.log ≤ l
  whole_log w F l pn Z peons = by (cases_lt l (length w.log))
    where
      I : InvOf ms w
      I = F.holds.0.0

      O : OfLog ms w w.asked F.holds.0.0
      O = F.holds.0.1

      H : IsActive r e a l pn (readings_at w r) Z.state
      H = Z.holds

      acts : ActsIn n I.g r (core_of (own_of (readings_at w r)) Z.state)
      acts = subst (InPhase n I.g r (core_of (own_of (readings_at w r)) Z.state)) H.phase (state_holds ms w I r Z.state Z.up)

      promise_is : (f : ℕ) → has a f ≡ true → promise_of (readings_at w f) ≡ pn
      promise_is f h = elim (same_or_not f r) [
        | inl x ↦ subst (λ (y : ℕ). promise_of (readings_at w y) ≡ pn) (sym x) H.promised
        | inr ne ↦ (let y = peons f h ne in let Y : Is (IsHearing r e a y.0 pn) w f = y.1 in let P = Y.holds in P.promised)
      ]

      mine_too : (d : ℕ) → l < suc d → (x : List Op) (p : ℕ) → p ≡ pn → Accepted I.g (p % 100) (suc d) p x → ⊥
      mine_too d less x p same k =
          let own : pn % 100 ≡ r = ap (λ (z : ℕ). z % 100) (sym H.number) ∙ (acts.0).own in
          let z = acts.2 (suc d) x (subst (λ (y : ℕ). Accepted I.g y (suc d) Z.state.leader.pn x) own (subst (λ (y : ℕ). Accepted I.g (pn % 100) (suc d) y x) (sym H.number) (subst (λ (y : ℕ). Accepted I.g (y % 100) (suc d) y x) same k))) in
          let y = H.last in
          omega arith

      lacks : (d : ℕ) → length w.log ≡ suc d → l < suc d → ⊥
      lacks d is less =
          let E : IsEntry n I.g w.log (suc d) = O.chosen d (omega arith) in
          let C : Chosen n I.g (suc d) E.x = E.chosen in
          let s = majorities n C.by a C.major Q.major C.below below in
          let low = (I.mine s.0).disk.kept.accepts (suc d) C.pn E.x (C.all s.0 s.1) in
          let p = promise_is s.0 s.2 in
          elim (cases_lt C.pn pn) [
            | inl older ↦ (let K = leaders_know ms w I r Z.state Z.up (ap has_heard H.phase) in elim (K.covered s.0 (suc d) C.pn (text E.x) (subst (λ (b : List Bool). has b s.0 ≡ true) (sym H.quorum) s.2) (as_accepted ms w I s.0 (suc d) C.pn E.x (C.all s.0 s.1)) (let z = H.number in omega arith)) [
              | inl high ↦ (let z = H.last in omega arith)
              | inr again ↦ (let z = sym again.phase ∙ H.phase in cc)
            ])
            | inr own ↦ mine_too d less E.x C.pn (let z = low in omega arith) (I.glob.triples.owner s.0 (suc d) C.pn E.x (C.all s.0 s.1))
          ]

      by : (l < length w.log) ⊎ (length w.log ≤ l) → length w.log ≤ l
      by (inr ge) = ge
      by (inl less) = absurd (lacks (length w.log - 1) (omega arith) (omega arith))

  rests_active : (l pn : ℕ) → pn ≤ 2 ^ 62 → l ≤ 2 ^ 62 → (U : ℕ → ℕ) → ((f : ℕ) → has a f ≡ true → U f ≤ l) → ((f : ℕ) → has a f ≡ true → l ≤ suc (U f)) → (value : List Op) → (1 ≤ l → Val value) → c ≤ l → l ≤ suc c → (w : World) → Fit w → Is (IsActive r e a l pn) w r
      → ((f : ℕ) → f < n → has a f ≡ true → (f ≡ r → ⊥) → U f < l → Mail r f (body.Commit l (value ∷ [])) w) → ((f : ℕ) → has a f ≡ true → (f ≡ r → ⊥) → Is (IsHearing r e a (U f) pn) w f) → Plays Us (electing.each n (plan.commits r)) (1 * n) Resting w
  rests_active l pn short room U top lag value fine low high w F hub commits peons =
      plays_weaker Us (omega arith) (λ v o C. let L = C.keeps in record { fit = L.fit; l = l; pn = pn; short = short; hub = L.hub; peons = λ f h ne. C.done f (below f h) (h, ne); low = low; high = high })
      (committing.catch_all G Q (IsActive r e a l pn) (λ v. Unit {0}) (λ v u o k. tt) l pn room U top lag value fine (λ w s H. (H.last, H.quorum)) w (record { fit = F; hub = hub; post = tt; commits = commits }) peons)

  -- once it rests, nobody lacks a version and nothing is in progress
  not_in : (w : World) (R : Resting w) (p : Phase) → same_phase phase.Active p ≡ false → electing.is_in w r p ≡ false
  not_in w R p e = let Z = R.hub in let H = Z.holds in in_phase w r Z.state phase.Active p Z.up H.phase ∙ e

  abbrev lacks : ℕ → World → Bool
  lacks k w = ltb (readings_at w k).last (readings_at w r).last

  none_lacks : (w : World) (R : Resting w) (k : ℕ) → plan.commits r k w ≡ []
  none_lacks w R k = otherwise _ _ (electing.is_other (electing.quorum_at w r) r k && (lacks k w)) (by (in_or_out (has a k)) (same_or_not k r))
    where
      members : electing.quorum_at w r ≡ a
      members = let Z = R.hub in let H = Z.holds in quorum_is w r Z.state a Z.up H.quorum

      not_other : electing.is_other a r k ≡ false → (electing.is_other (electing.quorum_at w r) r k && (lacks k w)) ≡ false
      not_other out = λ i. ((λ j. electing.is_other (members j) r k) ∙ out) i && (lacks k w)

      by : (has a k ≡ true) ⊎ (has a k ≡ false) → (k ≡ r) ⊎ (k ≡ r → ⊥) → (electing.is_other (electing.quorum_at w r) r k && (lacks k w)) ≡ false
      by (inr out) z = not_other (outside_is a r k out)
      by (inl there) (inl same) = not_other (itself_is a r k same)
      by (inl there) (inr other) = and_false (electing.is_other (electing.quorum_at w r) r k) (lacks k w) (le-ltb (readings_at w k).last (readings_at w r).last
          (let Z = R.hub in let H = Z.holds in let Y : Is (IsHearing r e a R.l R.pn) w k = R.peons k there other in let P = Y.holds in let x = H.last in let y = P.last in omega arith))

  -- what was in progress is committed first
  rests_first : (w : World) → Ready w → Plays Us (plan.settling n r) (1 * n + (2 * n + 1 * n)) Resting w
  rests_first w Y = let S = Y.settled in by S.goes
    where
      S : leaders.Settled G Q w
      S = Y.settled

      whole_then : (l pn : ℕ) → Is (IsActive r e a l pn) w r → ((f : ℕ) → has a f ≡ true → (f ≡ r → ⊥) → Is (IsHearing r e a (T f) pn) w f) → c ≤ l
      whole_then l pn Z peons = let z = whole_log w Y.fit l pn Z (λ f h ne. (T f, peons f h ne)) in let F = Y.fit in let y = F.log in omega arith

      lag : (f : ℕ) → has a f ≡ true → S.l ≤ suc (T f)
      lag f h = let z = Q.least f h in let y = S.under in omega arith

      first : (value : List Op) → Is (IsProposing phase.Previous r e a S.l S.pn (only r) value None) w r → ((g : ℕ) → g < n → has a g ≡ true → (g ≡ r → ⊥) → Mail r g (body.Begin S.pn (suc S.l) value) w) → Plays Us (plan.settling n r) (1 * n + (2 * n + 1 * n)) Resting w
      first value Z begins =
          plays_then Us (committing.catch_all G Q (IsProposing phase.Previous r e a S.l S.pn (only r) value None) Post (λ v u o k g few h ne. new_stays Us o (k g few h ne)) S.l S.pn (let y = S.under in let z = terms.version_room G Q S.l (omega arith) in omega arith) T S.top lag S.value S.fine (λ w s H. (H.last, H.quorum)) w
          (record { fit = Y.fit; hub = Z; post = begins; commits = S.commits }) S.peons) (λ v o C.
          let L = C.keeps in
          plays_then Us (committing.vote_all G Q phase.Previous (inl refl) None S.l S.pn value v L.fit L.post (λ f h ne. C.done f (below f h) (h, ne)) L.hub) (λ u o2 D.
          let K = D.committed in
          rests_active (suc S.l) S.pn S.short (terms.version_room G Q S.l (let y = S.under in omega arith)) (λ f. S.l) (λ f h. omega arith) (λ f h. omega arith) value (λ some. K.fine) (let z = S.least in omega arith) (let z = S.under in omega arith) u D.fit K.hub (λ f few h ne less. K.commits f few h ne) D.peons))
        where
          Post : World → Type 0
          Post v = (g : ℕ) → g < n → has a g ≡ true → (g ≡ r → ⊥) → Mail r g (body.Begin S.pn (suc S.l) value) v

      by : leaders.Goes G Q S.l S.pn w → Plays Us (plan.settling n r) (1 * n + (2 * n + 1 * n)) Resting w
      by (inl Z) = plays_then Us (rests_active S.l S.pn S.short (let y = S.under in let z = terms.version_room G Q S.l (omega arith) in omega arith) T S.top lag S.value S.fine (whole_then S.l S.pn Z S.peons) (let z = S.under in omega arith) w Y.fit Z S.commits S.peons) (λ v o R.
          plays_then Us (plays_none Us n (plan.accepts phase.Previous r) (λ k. otherwise _ _ (electing.is_other (electing.quorum_at v r) r k && electing.is_in v r phase.Previous) (and_false (electing.is_other (electing.quorum_at v r) r k) (electing.is_in v r phase.Previous) (not_in v R phase.Previous refl))) R) (λ u o2 R2.
          plays_none Us n (plan.commits r) (none_lacks u R2) R2))
      by (inr Z) = first Z.0 Z.1 Z.2

  -- ---- a client's command

  pub record Served (from : ℕ) (session : Session) (cmd : Command) (w : World) : Type 0 where
    pub later : from < w.events
    pub answer : ((v : ℕ) × HasReply w r session (reply.Done (suc v)) × (c ≤ v) × (v ≤ suc c) × (v < length w.log) × IsAsked n (asked_at r session cmd ∷ []) w.log v)
        ⊎ ((why : CommandRefused) × (value (readings_at w r) cmd r ≡ Err why) × HasReply w r session (refusal why))

  pub answers : (session : Session) (cmd : Command) → IsAskedBy G.asks session (request_of cmd) → IsCommand cmd → is_too_long cmd ≡ false → ComesInLease G.q G.clock → (w : World) → Resting w → Plays Us (plan.serving n r session cmd) (1 + 2 * n) (Served w.events session cmd) w
  answers session cmd may form short leased w R =
      plays_then Us (step Us (plan.asks r session cmd) (plans.Asks r session cmd ∷ []) refl (ask Us w (let F = R.fit in F.room) r (lt_of r mine) (within r mine) Goal session cmd may (request_fits cmd form) Z.state Z.up
      (proposes ms several r (lt_of r mine) (shared_entries (w.store r)) (G.clock.command w) (readings_at w r) Z.state e a R.l R.pn Z.holds (terms.not_alone G Q (lt_of r mine)) stands room session cmd short
      (service_room w.log O.short O.values (w.store r) V.last V.versions less (service_of cmd)) (λ x is. value_val w.log O.short O.values (w.store r) V.last V.versions less cmd form r (terms.few_r G Q) x is)))) after
    where
      F : Fit w
      F = R.fit

      Z : Is (IsActive r e a R.l R.pn) w r
      Z = R.hub

      H : IsActive r e a R.l R.pn (readings_at w r) Z.state
      H = Z.holds

      stands : (end : ℕ) → Z.state.leader.lease ≡ Some end → G.clock.command w ≤ end - 1
      stands end is =
          subst (λ (o : Option ℕ). IfSome o (λ end. G.clock.command w ≤ end - 1)) is
          (subst (λ (o : Option State). IfSome o (λ s. s.phase ≡ phase.Active → IfSome s.leader.lease (λ end. G.clock.command w ≤ end - 1))) Z.up (leased w r (within r mine)) H.phase)

      room : suc R.l ≤ 2 ^ 62
      room = terms.version_room G Q R.l R.high

      O : OfLog ms w w.asked F.holds.0.0
      O = F.holds.0.1

      V : OnLog w.log (w.store r)
      V = on_log ms several w F.holds r (below r mine) H.unmarked

      same : V.last ≡ R.l
      same = sym (last_is w.log O.short O.values (w.store r) V.last V.versions) ∙ H.last

      less : suc V.last ≤ 2 ^ 62
      less = let e = same in let z = room in omega arith

      whole : length w.log ≡ R.l
      whole = let low = whole_log w F R.l R.pn Z (λ f h ne. (R.l, R.peons f h ne)) in let high = within_log ms several w F.holds r (below r mine) H.unmarked in omega (arith, H.last)

      Goal : Course → Type 0
      Goal y = Proposes ms several r (lt_of r mine) (shared_entries (w.store r)) (G.clock.command w) (readings_at w r) cmd e a R.l R.pn session y ⊎ Refuses ms several r (lt_of r mine) (shared_entries (w.store r)) (G.clock.command w) (readings_at w r) cmd session y

      after : (v : World) → On w v → Did Us Goal w r v → Plays Us (electing.each n (plan.accepts phase.Updating r)) (2 * n) (Served w.events session cmd) v
      after v o D = by D.did
        where
          FV : Fit v
          FV = leaders.fit_on G Q Goal w v r o D R.fit

          by : Goal D.y → Plays Us (electing.each n (plan.accepts phase.Updating r)) (2 * n) (Served w.events session cmd) v
          by (inl P) = plays_weaker Us (omega arith) done
              (committing.vote_all G Q phase.Updating (inr refl) (Some (origin.Session session)) R.l R.pn P.value v FV (λ g few h ne. D.moved.says g (letter n r e (body.Begin R.pn (suc R.l) P.value)) (P.says g few h ne))
              (λ f h ne. is_stays (IsHearing r e a R.l R.pn) w v f (D.moved.others f ne) (R.peons f h ne))
              (is_now Us (IsProposing phase.Updating r e a R.l R.pn (only r) P.value (Some (origin.Session session))) w v r D.y D.moved P.stands))
            where
              done : (u : World) → On v u → committing.Made G Q phase.Updating (inr refl) (Some (origin.Session session)) R.l R.pn P.value u → Served w.events session cmd u
              done u o2 K =
                  let C = K.committed in
                  record {
                    later = (let p = D.moved.elapses in let r = o2.elapsed in omega arith);
                    answer = inl (
                      R.l,
                      C.replied session refl,
                      R.low,
                      R.high,
                      C.within,
                      subst (λ (l : ℕ). IsAsked n (asked_at r session cmd ∷ []) u.log l) same (asked_is w.log O.short O.values (w.store r) V.last V.versions (whole ∙ sym same) less cmd form r (terms.few_r G Q) P.value P.made n (below r mine) session u.log (log_prefix_on o.log_prefix o2.log_prefix) (ap (λ (l : ℕ). entry u.log (suc l)) same ∙ (C.version).encodes)),
                    );
                  }
          by (inr P) = plays_none Us n (plan.accepts phase.Updating r) (λ k. otherwise _ _ (electing.is_other (electing.quorum_at v r) r k && electing.is_in v r phase.Updating) (and_false (electing.is_other (electing.quorum_at v r) r k) (electing.is_in v r phase.Updating) (in_phase v r D.y.state phase.Active phase.Updating D.moved.up P.phase))) (record { later = (let p = D.moved.elapses in omega arith); answer = inr (P.why, subst (λ (x : Readings). value x cmd r ≡ Err P.why) (sym (D.moved.reads ∙ P.reads)) P.is, D.moved.replies session (refusal P.why) P.says) })

  pub serves_all : (session : Session) (cmd : Command) → IsAskedBy G.asks session (request_of cmd) → IsCommand cmd → is_too_long cmd ≡ false → ComesInLease G.q G.clock → (w : World) → Fit w → First w → Plays Us (plan.led n r session cmd) (2 + (2 * n + 2 * n) + ((1 * n + (2 * n + 1 * n)) + (1 + 2 * n))) (Served w.events session cmd) w
  serves_all session cmd may form short leased w F Y = plays_then Us (rounds.ready G Q w F Y) (λ v o X. plays_then Us (rests_first v X) (λ u o2 R. plays_weaker Us (omega arith) (λ x o3 S. record { answer = S.answer; later = (let a = o.elapsed in let b = o2.elapsed in let z = S.later in omega arith) }) (answers session cmd may form short leased u R)))
