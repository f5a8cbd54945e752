-- Every event keeps what is known of the versions that were acknowledged, and of what was replied.
use Rattle.law_names.proofs.Runs.{Acknowledged, AcknowledgedOnce, AllValues, Asked, DoneIsAnswered, Envelope, IsAsked, IsFenced, Monitors, Replied, WasAskedFor, World, acknowledgement, acknowledgements_of, done_by, done_in, incremental_of, is_active, last_of, log_from, messages_of, replies_of, view_at}
use Rattle.law_names.proofs.Table.{AllByRecursion, Body, Cell, Change, Command, Contains, Course, Input, Last, Leader, Learn, Me, Op, Origin, Phase, Readings, Reply, Request, Sent, Service, Session, State, Store, Waiting, answer_to, asked_of, booting, cell, changes_after, entry, epoch_of, has, is_leading, is_majority, is_member, is_peon, kept_from, ops_in, played, put_in, readings_of, same_phase, service_first, service_last, service_of, shared_entries, shown, since, text, transaction_in, votes}
use Rattle.log_copies.proofs.Matching.{IsTold, monitor_keeps, read_last, record_there, shown_told, since_told, told_stays}
use Rattle.log_copies.proofs.Standing.{Agrees}
use Rattle.log_copies.proofs.Unmarked.{OnLog}
use Rattle.log_copies.specs.Synchronizing.{written}
use Rattle.log_model.proofs.Committed.{ops_again}
use Rattle.log_model.proofs.Older.{older_itself}
use Rattle.log_model.proofs.Records.{read_version, value_has_text}
use Rattle.log_model.proofs.RowReadings.{read_some}
use Rattle.log_model.proofs.RuleCells.{log_high}
use Rattle.mon_msg.specs.declared.clients.Asked as waiting
use Rattle.mon_msg.specs.declared.input.Input.TheVariants as input
use Rattle.mon_msg.specs.declared.plan.Origin.TheVariants as origin
use Rattle.mon_msg.specs.declared.plan.Sent.TheVariants as sent
use Rattle.mon_tx.specs.declared.key.Area.TheVariants as area
use Rattle.mon_tx.specs.declared.key.Key.TheVariants as key
use Rattle.mon_wire.specs.declared.body.Body.TheVariants as body
use Rattle.mon_wire.specs.declared.phase.Phase.TheVariants as phase
use Rattle.mon_wire.specs.declared.reply.Reply.TheVariants as reply
use Rattle.mon_wire.specs.declared.request.Request.TheVariants as request
use Rattle.quorum_agreement.proofs.Acknowledging.{IsShownIn, NoShowSent, answer_shows_nothing, fenced_by, no_acks, one_ack, plain_acks, plain_shows_nothing, quiet_fenced, quiet_replies, replies_event}
use Rattle.quorum_agreement.proofs.Answered.{BodyRoutes, ComesFrom, IsFounded, MayRoute, Routes, Stems, asked_makes, asker, asker_is, changed, comes_further, founded_replies, founded_routes, no_answer, plain_founded, reply_then, route_shows_nothing, source_further, stems_further}
use Rattle.quorum_agreement.proofs.Answering.{Acks, AtOnce, BodyKnown, Completes, Hands, InputKnown, IsRead, Lead, Outcome, Reads, RequestKnown, answers, peon_leads_not}
use Rattle.quorum_agreement.proofs.Grown.{first_is}
use Rattle.quorum_agreement.proofs.Held.{IsHeld, Onward, Still, last_is, level_at, shows_it}
use Rattle.quorum_agreement.proofs.Invariant.{remembers}
use Rattle.quorum_agreement.proofs.Lone.{active_is}
use Rattle.quorum_agreement.proofs.Premises.{Completed, accept_completes, leads_others}
use Rattle.quorum_agreement.proofs.Result.{OneLog}
use Rattle.quorum_agreement.proofs.Safe.{IsSafe, safe_more, shows_told, stems_again}
use Rattle.quorum_agreement.proofs.Step.{copy_marked}
use Rattle.quorum_history.proofs.History.{Accepted, Entered, Handed, hand}
use Rattle.quorum_history.proofs.Holds.{ActsIn, BodyHolds, Core, FollowsIn, HasSource, InPhase, IsHanded, core_of, epoch_in}
use Rattle.quorum_history.proofs.Numbers.{level_is}
use Rattle.quorum_history.proofs.Phases.{no, peon_is_peon, votes_unmarked}
use Rattle.quorum_history.proofs.Rows.{InputHolds}
use Rattle.quorum_history.proofs.RowsClients as clients
use Rattle.quorum_laws.proofs.Chosen.{chosen_once, nothing_lower, stays_nothing}
use Rattle.quorum_laws.proofs.Events.{Does, IsNoted, ToldOf, member_of}
use Rattle.quorum_laws.proofs.Invariant.{Further, InvOf, InvWith, WasActive}
use Rattle.quorum_laws.proofs.Reading.{state_holds}
use Rattle.quorum_laws.specs.Accepting.{HasAccepted, IsMajorityOf, readings_at}
use Rattle.quorum_laws.specs.Values.{AcceptedNothing, IsChosen}
use Rattle.quorum_model.proofs.Made.{first_put, puts_command}
use Rattle.quorum_model.specs.Acknowledging.{incremental_in, record_kept}
use Rattle.quorum_model.specs.Shown.{AskedFor}
use Rattle.quorum_walk.proofs.FineCourses.{Ended, Fit, Val, begun}
use Rattle.quorum_walk.proofs.Lists.{Among, all_among, all_append, all_both, all_map, all_of}
use Rattle.quorum_walk.proofs.Sparing.{Own, learned_own, own_of}
use Rattle.quorum_walk.proofs.Walk.{Then}
use Rattle.std.proofs.Common.{Bool, IfSome, List, None, Option, Some, [], ap, append-nil, arith, cond, eqb, false, filter, inl, inr, leb, length, map, refl, subst, suc, sym, true, unwrap_or, ℕ, ◌%◌, ◌++◌, ◌-◌, ◌<◌, ◌||◌, ◌∙◌, ◌∷◌, ◌≡◌, ◌≤◌, ◌⊎◌}
use Rattle.std.proofs.lemmas.Bool.{cases_lt, cases_order, cond_both, eqb-true, false≢true, ltb-true}
use Rattle.std.proofs.lemmas.List.Elements.{Contains-push}

-- a list of changes since a version acknowledges nothing
since_done : (r : Readings) (v : Service) (k : ℕ) → done_in (since r v k) ≡ None
unfolding since
since_done r v k = cond_both (leb (service_first r v) (suc k)) (changes_after r v k (kept_from r v (service_last r v - k) (suc k))) (shown r v) (λ y. done_in y ≡ None) (λ t. refl) (λ t. refl)

-- a list of changes since a version was asked for
since_asked : (w : World) (x : Replied) (r : Readings) (v : Service) (k : ℕ) → AskedFor w x (request.Since v k) → WasAskedFor w x (since r v k)
unfolding since
since_asked w x r v k a = cond_both (leb (service_first r v) (suc k)) (changes_after r v k (kept_from r v (service_last r v - k) (suc k))) (shown r v) (WasAskedFor w x) (λ t. a) (λ t. inr (k, a))

member_votes : (p : Phase) → is_member p ≡ true → votes p ≡ true
member_votes p e = ap (λ (b : Bool). b || same_phase p phase.Electing) e

-- a version that was not acknowledged before is acknowledged once
once_push : (before : List Acknowledged) (a : Acknowledged) → AcknowledgedOnce (λ (c : Acknowledged). c.what.version) before → AllByRecursion (λ (b : Acknowledged). ¬ (a.what.version ≡ b.what.version)) before → AcknowledgedOnce (λ (c : Acknowledged). c.what.version) (before ++ a ∷ [])
once_push [] a h k = (tt, tt)
once_push (b ∷ before) a h k = (all_append (λ (c : Acknowledged). ¬ (c.what.version ≡ b.what.version)) before (a ∷ []) h.0 (k.0, tt), once_push before a h.1 k.1)

-- ---- an event

lead_of : (me : Me) (now : ℕ) (r : Readings) (s : State) (From : ℕ → Command → Origin → Type 0) (Routed : (f e seq : ℕ) → Reply → Type 0) (Voted : (f pn v : ℕ) → Type 0) (Looked : Session → Request → Type 0) (p : Phase) → s.phase ≡ p → Still p s.leader → Lead me now r s From Routed Voted Looked p s.leader (epoch_of r)
lead_of me now r s From Routed Voted Looked phase.Collecting e k = k
lead_of me now r s From Routed Voted Looked phase.Previous e k = k
lead_of me now r s From Routed Voted Looked phase.Updating e k = inl (record { epoch = refl; updating = e; origin = refl; proposes = refl; number = refl })
lead_of me now r s From Routed Voted Looked other e k = tt

still_of : (me : Me) (now : ℕ) (r : Readings) (s : State) (From : ℕ → Command → Origin → Type 0) (Routed : (f e seq : ℕ) → Reply → Type 0) (Voted : (f pn v : ℕ) → Type 0) (Looked : Session → Request → Type 0) (p : Phase) (l : Leader) (e : ℕ) → Lead me now r s From Routed Voted Looked p l e → Still p l
still_of me now r s From Routed Voted Looked phase.Collecting l e k = k
still_of me now r s From Routed Voted Looked phase.Previous l e k = k
still_of me now r s From Routed Voted Looked other l e k = tt

-- what a reaction makes of the world
pub record Moved (w next : World) (rank : ℕ) (m : Store) (y : Course) : Type 0 where
  pub store : next.store rank ≡ m
  pub state : next.state rank ≡ Some y.state
  pub others : (i : ℕ) (s : State) → next.state i ≡ Some s → ((i ≡ rank) × (y.state ≡ s)) ⊎ ((w.state i ≡ Some s) × (next.store i ≡ w.store i))
  pub events : next.events ≡ suc w.events
  pub acks : next.acknowledged ≡ w.acknowledged ++ acknowledgements_of next.events m y.state y.out
  pub replied : next.replied ≡ w.replied ++ replies_of next.events rank m y.out
  pub messages : next.messages ≡ w.messages ++ messages_of y.out
  pub active : is_active y.state.phase ≡ true → Among (epoch_of (readings_of m), rank) next.active
  pub read : readings_of m ≡ y.readings
  pub who : Me
  pub was : State
  pub came : Input
  pub ended : Ended (begun who (readings_at w rank) was came) y

module _ (ms : Monitors) (w next : World) (I : InvOf ms w) (K : InvOf ms next) (O : Onward w next I.g K.g) (S : IsSafe ms w I) (asked : List Asked) (J : InvWith ms w asked) (up : Further I.g J.g) (ahead : Further J.g K.g) (asked_are : next.asked ≡ asked) (Told : Envelope → Type 0) (d : Does ms w Told asked J)
    (M : Moved w next d.by.rank (written (w.store d.by.rank) d.y) d.y) (routes : ToldOf (Routes w I.g) d.by.rank d.by.came) (L : OneLog ms w) (N : OneLog ms next)
    (chosen_then : 1 < ms.count → (v : ℕ) → v < length next.log → IsChosen ms.count next (suc v) (entry next.log (suc v)))
    (alone_reads : ms.count ≡ 1 → (ops : List Op) → d.y.changes ≡ Learn (suc (readings_at w d.by.rank).last) ops ∷ Last (suc (readings_at w d.by.rank).last) ∷ [] → d.y.readings.last ≡ suc (readings_at w d.by.rank).last → ops_in (entry next.log (suc (readings_at w d.by.rank).last)) ≡ ops) where
  abbrev count : ℕ
  count = ms.count

  abbrev rank : ℕ
  rank = d.by.rank

  abbrev me : Me
  me = member_of ms d.by.rank d.by.lt

  abbrev s : State
  s = d.by.state

  abbrev w0 : Readings
  w0 = readings_at w d.by.rank

  abbrev m : Store
  m = written (w.store d.by.rank) d.y

  below : rank < count
  below = ltb-true rank count d.by.lt

  abbrev From : ℕ → Command → Origin → Type 0
  From e c o = HasSource J.g d.by.rank e c o

  abbrev Routed : (f e seq : ℕ) → Reply → Type 0
  Routed f e seq r = MayRoute w I.g d.by.rank e seq r

  abbrev Voted : (f pn v : ℕ) → Type 0
  Voted f pn v = (x : List Op) × Accepted J.g f v pn x

  abbrev Looked : Session → Request → Type 0
  Looked t r = Contains asked (record { rank = d.by.rank; session = t; request = r })

  abbrev Says : Course → Type 0
  Says = Outcome me d.by.at w0 s From Routed Voted Looked

  -- ---- what it does

  still_before : Still s.phase s.leader
  still_before = by d.by.remembers
    where
      by : (w.state rank ≡ Some s) ⊎ (s ≡ booting rank) → Still s.phase s.leader
      by (inl e) = S.still rank s e
      by (inr e) = subst (λ (z : State). Still z.phase z.leader) (sym e) tt

  lead : Lead me d.by.at w0 s From Routed Voted Looked s.phase s.leader (epoch_of w0)
  lead = lead_of me d.by.at w0 s From Routed Voted Looked s.phase refl still_before

  queued : same_phase s.phase phase.Active ≡ true → AllByRecursion (λ (q : Waiting). From (epoch_of w0) q.command q.origin) s.clients.queue
  queued t = let k = subst (InPhase count J.g rank (core_of (own_of w0) s)) (active_is s.phase t) d.by.on in k.0.reigns.queue

  known : (came : Input) → InputHolds me J.g came → ToldOf (Routes w I.g) rank came → IsNoted asked rank came → InputKnown me d.by.at w0 s From Routed Voted Looked lead came
  known (input.Deliver e) h t n = by e.body refl
    where
      by : (b : Body) → e.body ≡ b → BodyKnown me d.by.at w0 s From Routed Voted Looked lead e.from e.epoch b
      by (body.Forward seq c) q = subst (BodyHolds J.g e.from rank e.epoch) q h.1.body
      by (body.Route seq r) q = subst (BodyRoutes w I.g rank e.epoch) q t
      by (body.Accept pn v) q = let B = subst (BodyHolds J.g e.from rank e.epoch) q h.1.body in (B.1, B.2)
      by b q = tt
  known (input.Client t r) h k n = by r h n
    where
      by : (r : Request) → clients.IsAsked J.g rank t r → Looked t r → RequestKnown me d.by.at w0 s From Routed Voted Looked lead t r
      by (request.Set key value) h n = h
      by (request.Remove key) h n = h
      by (request.Log text) h n = h
      by (request.Show v) h n = n
      by (request.Since v z) h n = n
  known other h t n = tt

  says : Says d.y
  says = (subst (Then Says) d.is (answers me d.by.at w0 s From Routed Voted Looked lead queued (shared_entries (w.store rank)) d.by.came (known d.by.came d.by.holds routes d.by.noted))).holds

  still_after : Still d.y.state.phase d.y.state.leader
  still_after = by says
    where
      by : Says d.y → Still d.y.state.phase d.y.state.leader
      by (inl C) = still_of me d.by.at w0 s From Routed Voted Looked d.y.state.phase d.y.state.leader (epoch_of d.y.readings) C.lead
      by (inr (inl A)) = subst (λ (p : Phase). Still p d.y.state.leader) (sym A.active) tt
      by (inr (inr (inl R))) = subst (λ (z : Course). Still z.state.phase z.state.leader) (sym R.is) still_before
      by (inr (inr (inr H))) = subst (λ (p : Phase). Still p d.y.state.leader) (sym H.in_phase) (subst (Still s.phase) (sym H.same) still_before)

  stills : (i : ℕ) (z : State) → next.state i ≡ Some z → Still z.phase z.leader
  stills i z e = elim (M.others i z e) [ inl q ↦ subst (λ (u : State). Still u.phase u.leader) q.1 still_after | inr q ↦ S.still i z q.0 ]

  -- ---- for which command its value is

  stemmed : s.phase ≡ phase.Updating → Stems K.g rank (epoch_of w0) s.leader
  stemmed u = by d.by.remembers
    where
      by : (w.state rank ≡ Some s) ⊎ (s ≡ booting rank) → Stems K.g rank (epoch_of w0) s.leader
      by (inl e) = stems_further I.g K.g O.further rank (epoch_of w0) s.leader (S.stems rank s e u)
      by (inr e) = no (sym (ap (same_phase phase.Booting) u) ∙ ap (λ (z : State). same_phase phase.Booting z.phase) e)

  lead_stems : (l : Leader) (e : ℕ) → Lead me d.by.at w0 s From Routed Voted Looked phase.Updating l e → Stems K.g rank e l
  lead_stems l e (inl Q) =
      let T = stemmed Q.updating in
      subst (λ (z : ℕ). Stems K.g rank z l) (sym Q.epoch) (record { origin = T.origin; is = Q.origin ∙ T.is; ops = T.ops; proposes = Q.proposes ∙ T.proposes; comes = T.comes })
  lead_stems l e (inr B) =
      subst (λ (z : ℕ). Stems K.g rank z l) (sym B.epoch) (record {
        origin = B.origin;
        is = B.is;
        ops = B.ops;
        proposes = B.proposes;
        comes = record {
          command = B.command;
          from = source_further J.g K.g ahead rank (epoch_of w0) B.command B.origin B.from;
          makes = first_put w0 B.command (asked_of me B.origin) B.ops B.made ∙ ap (λ (a : ℕ). changed a B.command) (asker_is me B.origin);
        };
      })

  stems_after : d.y.state.phase ≡ phase.Updating → Stems K.g rank (epoch_of (readings_at next rank)) d.y.state.leader
  stems_after u = subst (λ (r : Readings). Stems K.g rank (epoch_of r) d.y.state.leader) (sym (ap readings_of M.store ∙ M.read)) (by says)
    where
      by : Says d.y → Stems K.g rank (epoch_of d.y.readings) d.y.state.leader
      by (inl C) = lead_stems d.y.state.leader (epoch_of d.y.readings) (subst (λ (p : Phase). Lead me d.by.at w0 s From Routed Voted Looked p d.y.state.leader (epoch_of d.y.readings)) u C.lead)
      by (inr (inl A)) = no (sym (ap (same_phase phase.Active) (sym A.active ∙ u)))
      by (inr (inr (inl R))) = subst (λ (z : Course). Stems K.g rank (epoch_of z.readings) z.state.leader) (sym R.is) (stemmed (ap (λ (z : Course). z.state.phase) (sym R.is) ∙ u))
      by (inr (inr (inr H))) = no (sym (ap is_peon (sym H.in_phase ∙ u)) ∙ H.peon)

  stems : (i : ℕ) (z : State) → next.state i ≡ Some z → z.phase ≡ phase.Updating → Stems K.g i (epoch_of (readings_at next i)) z.leader
  stems i z e u = elim (M.others i z e) [
    | inl q ↦ subst (λ (j : ℕ). Stems K.g j (epoch_of (readings_at next j)) z.leader) (sym q.0)
        (subst (λ (t : State). Stems K.g rank (epoch_of (readings_at next rank)) t.leader) q.1 (stems_after (ap (λ (t : State). t.phase) q.1 ∙ u)))
    | inr q ↦ stems_again ms w next I K O S i z q.0 q.1 u
  ]

  last_then : last_of m ≤ length next.log
  last_then = let a = by (N.stores rank below) in let r = ap last_of M.store in omega arith
    where
      by : Agrees next.log (next.store rank) (remembers rank (next.state rank)) → last_of (next.store rank) ≤ length next.log
      by (inl V) = let h = V.versions in let e = h.last in let le = h.within in omega arith
      by (inr T) = let z = K.mine rank in let D = z.disk in let none = (D.kept.clear (copy_marked next.log (next.store rank) (remembers rank (next.state rank)) T)).0 in let l = last_is (next.store rank) in omega arith

  -- ---- what it answers

  later : suc w.events ≤ next.events
  later = let e = M.events in omega arith

  -- nothing is acknowledged or shown
  abbrev Founded : Sent → Type 0
  Founded x = IsFounded next K.g next.events rank m x

  quietly : acknowledgements_of next.events m d.y.state d.y.out ≡ [] → AllByRecursion NoShowSent d.y.out → AllByRecursion Founded d.y.out → IsSafe ms next K
  quietly none k f = safe_more ms w next I K O S stills stems later [] (replies_of next.events rank m d.y.out) (messages_of d.y.out) (M.acks ∙ ap (λ (z : List Acknowledged). w.acknowledged ++ z) none) M.replied M.messages tt (subst (AcknowledgedOnce (λ (a : Acknowledged). a.what.version)) (sym (append-nil w.acknowledged)) S.once)
      (all_both _ _ _ (quiet_replies next rank m last_then d.y.out k) (replies_event next.events rank m d.y.out)) (founded_replies next K.g next.events rank m d.y.out f) (λ a h. quiet_fenced a next.events rank m d.y.out k)
      (founded_routes next K.g next.events rank m d.y.out f)

  -- a session is shown what the store holds
  module _ (R : Reads me d.by.at w0 s From Routed Voted Looked d.y) where
    there_before : w.state rank ≡ Some s
    there_before = by d.by.remembers
      where
        by : (w.state rank ≡ Some s) ⊎ (s ≡ booting rank) → w.state rank ≡ Some s
        by (inl e) = e
        by (inr e) = no (ap (λ (z : State). is_member z.phase) (sym e) ∙ R.member)

    same : readings_of m ≡ w0
    same = M.read ∙ ap (λ (y : Course). y.readings) R.is

    unmarked : w0.marked ≡ false
    unmarked = votes_unmarked count I.g rank (core_of (own_of w0) s) s.phase (member_votes s.phase R.member) (state_holds ms w I rank s there_before)

    abbrev answer : Replied
    answer = record { event = next.events; rank = rank; epoch = epoch_of (readings_of m); last = last_of m; session = R.session; reply = R.reply }

    stands : OnLog w.log (w.store rank)
    stands = by (L.stores rank below)
      where
        by : Agrees w.log (w.store rank) (remembers rank (w.state rank)) → OnLog w.log (w.store rank)
        by (inl V) = V
        by (inr T) = absurd (false≢true (sym unmarked ∙ copy_marked w.log (w.store rank) (remembers rank (w.state rank)) T))

    last_same : stands.last ≡ last_of m
    last_same = sym (read_last w.log L.short L.values stands.last (w.store rank) stands.versions) ∙ ap (λ (r : Readings). r.last) (sym same) ∙ last_is m

    tells : IsTold w.log stands.last R.reply
    tells = by R.read
      where
        by : IsRead me d.by.at w0 s From Routed Voted Looked R.session R.reply → IsTold w.log stands.last R.reply
        by (inl k) = subst (IsTold w.log stands.last) (sym k.2) (shown_told w.log L.short L.values stands.last (w.store rank) stands.versions k.0)
        by (inr k) = subst (IsTold w.log stands.last) (sym k.3) (since_told w.log L.short L.values stands.last (w.store rank) stands.versions k.0 k.1)

    asked_there : (q : Request) → Looked R.session q → AskedFor next answer q
    asked_there q k = subst (λ (xs : List Asked). Contains xs (record { rank = rank; session = R.session; request = q })) (sym asked_are) k

    asked_for : WasAskedFor next answer R.reply
    asked_for = by R.read
      where
        by : IsRead me d.by.at w0 s From Routed Voted Looked R.session R.reply → WasAskedFor next answer R.reply
        by (inl k) = subst (WasAskedFor next answer) (sym k.2) (inl (asked_there (request.Show k.0) k.1))
        by (inr k) = subst (WasAskedFor next answer) (sym k.3) (since_asked next answer w0 k.0 k.1 (asked_there (request.Since k.0 k.1) k.2))

    is_shown : IsShownIn next answer
    is_shown = record { event = omega arith; last = last_then; shows = shows_told next answer R.reply (subst (λ (c : ℕ). IsTold next.log c R.reply) last_same (told_stays O.log_prefix stands.last (let h = stands.versions in h.within) R.reply tells)); asked = asked_for }

    fenced : (a : Acknowledged) → IsHeld count w I.g a → IsFenced a answer R.reply
    fenced a h = fenced_by a answer R.reply (λ lt e. let v = shows_it ms w I a h rank below s there_before d.by.at R.readable still_before (e ∙ ap epoch_of same) R.member in let l = last_is m in let q = ap (λ (r : Readings). r.last) same in omega arith)

    shown_then : IsSafe ms next K
    shown_then = safe_more ms w next I K O S stills stems later [] (answer ∷ []) [] (M.acks ∙ ap (λ (out : List Sent). w.acknowledged ++ acknowledgements_of next.events m d.y.state out) R.out ∙ ap (λ (z : List Acknowledged). w.acknowledged ++ z) none) (M.replied ∙ ap (λ (out : List Sent). w.replied ++ replies_of next.events rank m out) R.out) (M.messages ∙ ap (λ (out : List Sent). w.messages ++ messages_of out) R.out) tt (subst (AcknowledgedOnce (λ (a : Acknowledged). a.what.version)) (sym (append-nil w.acknowledged)) S.once) ((is_shown, refl), tt) (no_answer next answer R.reply no_done, tt) (λ a h. (fenced a h, tt)) tt
      where
        no_done : done_in R.reply ≡ None
        no_done = by R.read
          where
            by : IsRead me d.by.at w0 s From Routed Voted Looked R.session R.reply → done_in R.reply ≡ None
            by (inl k) = ap done_in k.2
            by (inr k) = ap done_in k.3 ∙ since_done w0 k.0 k.1

        nothing_done : (b : Bool) → cond b (done_in R.reply) None ≡ None
        nothing_done true = no_done
        nothing_done false = refl

        none : acknowledgements_of next.events m d.y.state (sent.Reply R.session R.reply ∷ []) ≡ []
        none = no_acks next.events m d.y.state (sent.Reply R.session R.reply ∷ []) (nothing_done (is_leading d.y.state.phase), tt)

  -- a leader's answer goes to the sessions that wait for it
  handed_then : Hands me d.by.at w0 s From Routed Voted Looked d.y → IsSafe ms next K
  handed_then H = quietly (ap (acknowledgements_of next.events m d.y.state) H.out ∙ no_acks next.events m d.y.state _ (all_of (λ (x : Sent). done_by d.y.state x ≡ None) (λ (a : waiting.Asked). sent.Reply a.session H.reply) (λ a. no_leader (is_leading d.y.state.phase) (ap is_leading H.in_phase ∙ peon_leads_not s.phase H.peon)) (filter (λ (a : waiting.Asked). eqb a.seq H.seq) s.clients.sessions)))
      (subst (AllByRecursion NoShowSent) (sym H.out) (all_of NoShowSent (λ (a : waiting.Asked). sent.Reply a.session H.reply) (λ a. route_shows_nothing w I.g rank H.epoch H.seq H.reply H.known) (filter (λ (a : waiting.Asked). eqb a.seq H.seq) s.clients.sessions)))
      (subst (AllByRecursion Founded) (sym H.out) (each s.clients.sessions follows.sessions))
    where
      no_leader : (b : Bool) → b ≡ false → cond b (done_in H.reply) None ≡ None
      no_leader b e = ap (λ (c : Bool). cond c (done_in H.reply) None) e

      follows : FollowsIn J.g rank (core_of (own_of w0) s)
      follows = subst (InPhase count J.g rank (core_of (own_of w0) s)) (peon_is_peon s.phase H.peon) d.by.on

      -- the session's number is that of the command which was acknowledged
      founded : (a : waiting.Asked) → IsHanded J.g rank (epoch_of w0) a → eqb a.seq H.seq ≡ true → (r : Reply) → MayRoute w I.g rank H.epoch H.seq r → DoneIsAnswered next (reply_then next K.g next.events rank m a.session r) r
      founded a k q (reply.Done v) R =
          let hands = J.glob.hands in
          let theirs = subst (λ (u : ℕ). Handed J.g rank (epoch_of w0) u R.session R.command) (sym (eqb-true a.seq H.seq q)) (subst (λ (e : ℕ). Handed J.g rank e H.seq R.session R.command) H.now_is (up.hands (hand rank H.epoch H.seq R.session R.command) R.handed)) in
          let both = hands.once rank (epoch_of w0) a.seq a.session R.session k.0 R.command k.1 theirs in
          let W = J.asks rank a.session k.0 (hands.asked rank (epoch_of w0) a.seq a.session k.0 k.1) in
          record {
            acknowledged = R.acknowledged;
            among = O.acks R.acknowledged R.among;
            version = R.version;
            earlier = let e = R.earlier in omega (arith, later);
            asked = W.by;
            was_asked = subst (λ (xs : List Asked). Contains xs W.by) (sym asked_are) W.among;
            rank = W.at;
            session = W.session;
            made = asked_makes count asked rank a.session k.0 W ∙ ap (λ (c : Command). Some (changed rank c)) both.1 ∙ ap Some R.made;
          }
      founded a k q other R = tt

      each : (xs : List waiting.Asked) → AllByRecursion (IsHanded J.g rank (epoch_of w0)) xs → AllByRecursion Founded (map (λ (a : waiting.Asked). sent.Reply a.session H.reply) (filter (λ (a : waiting.Asked). eqb a.seq H.seq) xs))
      each [] k = tt
      each (a ∷ xs) k =
          cond_both (eqb a.seq H.seq) (a ∷ filter (λ (b : waiting.Asked). eqb b.seq H.seq) xs) (filter (λ (b : waiting.Asked). eqb b.seq H.seq) xs) (λ (ys : List waiting.Asked). AllByRecursion Founded (map (λ (b : waiting.Asked). sent.Reply b.session H.reply) ys))
          (λ q. (founded a k.0 q H.reply H.known, each xs k.1)) (λ q. each xs k.1)

  -- ---- a version is acknowledged

  module _ (A : Acks me d.by.at w0 s From Routed Voted Looked d.y) where
    abbrev v : ℕ
    v = suc w0.last

    abbrev ack : Acknowledged
    ack = acknowledgement next.events m d.y.state v

    leads : is_leading s.phase ≡ true
    leads = by A.how
      where
        by : Completes me d.by.at w0 s From Routed Voted Looked A.origin A.ops ⊎ AtOnce me d.by.at w0 s From Routed Voted Looked A.origin A.ops → is_leading s.phase ≡ true
        by (inl C) = elim C.in_phase [ inl e ↦ ap is_leading e | inr e ↦ ap is_leading e ]
        by (inr B) = ap is_leading B.active

    was_up : w.state rank ≡ Some s
    was_up = by d.by.remembers
      where
        by : (w.state rank ≡ Some s) ⊎ (s ≡ booting rank) → w.state rank ≡ Some s
        by (inl e) = e
        by (inr e) = no (ap (λ (z : State). is_leading z.phase) (sym e) ∙ leads)

    unmarked_before : w0.marked ≡ false
    unmarked_before = votes_unmarked count I.g rank (core_of (own_of w0) s) s.phase (member_votes s.phase (ap (λ (b : Bool). b || is_peon s.phase) leads)) (state_holds ms w I rank s was_up)

    abbrev c : Core
    c = core_of (own_of (readings_at next rank)) d.y.state

    acts : ActsIn count K.g rank c
    acts = subst (InPhase count K.g rank c) A.active (state_holds ms next K rank d.y.state M.state)

    stored : readings_at next rank ≡ readings_of m
    stored = ap readings_of M.store

    last_now : (readings_at next rank).last ≡ v
    last_now = ap (λ (r : Readings). r.last) (stored ∙ M.read) ∙ A.last

    on_log : OnLog next.log (next.store rank)
    on_log = by (N.stores rank below)
      where
        by : Agrees next.log (next.store rank) (remembers rank (next.state rank)) → OnLog next.log (next.store rank)
        by (inl V) = V
        by (inr T) = absurd (false≢true (sym acts.0.reigns.unmarked ∙ copy_marked next.log (next.store rank) (remembers rank (next.state rank)) T))

    on_last : on_log.last ≡ v
    on_last = sym (read_last next.log N.short N.values on_log.last (next.store rank) on_log.versions) ∙ last_now

    within : v ≤ length next.log
    within = let h = on_log.versions in let w = h.within in omega (arith, on_last)

    abbrev asked_then : IsAsked count next.asked next.log w0.last
    asked_then = N.asks w0.last within

    abbrev values_then : AllValues next.log
    values_then u lt = let q = N.asks u lt in record {
      changes = q.ops;
      value = record { command = q.command; form = q.form; asked = q.by.rank; rank = (let r = q.rank in let k = ms.most in omega arith); newer = q.ops; made = q.made; encoded = older_itself q.ops };
      encodes = q.encodes;
    }

    ops_are : ops_in (entry next.log v) ≡ asked_then.ops
    ops_are = ap ops_in asked_then.encodes ∙ ops_again asked_then.ops (value_has_text next.log N.short values_then w0.last within)

    there : cell m area.Paxos (key.Version v) ≡ Some (entry next.log v)
    there =
        let h = on_log.versions in
        let P = monitor_keeps next.log N.short N.values on_log.last (next.store rank) h in
        let f = P.first in
        let some : 1 ≤ on_log.last = omega (arith, on_last) in
        let low = log_high on_log.last some in
        ap (λ (z : Store). cell z area.Paxos (key.Version v)) (sym M.store)
        ∙ record_there next.log N.short N.values on_log.last (next.store rank) h v (omega (arith, f, read_some log_from on_log.last some, low, on_last, first_is (next.store rank))) (omega (arith, on_last))

    kept : record_kept m v ≡ asked_then.ops
    kept = ap (λ (z : Cell). ops_in (unwrap_or z [])) there ∙ ops_are

    made_kept : incremental_in (record_kept m v) ≡ (service_of asked_then.command, incremental_of asked_then.by.rank asked_then.command)
    made_kept = ap incremental_in kept ∙ first_put (view_at next.log w0.last) asked_then.command asked_then.by.rank asked_then.ops asked_then.made

    put : Contains (put_in ack.what.service (ops_in (entry next.log v))) ack.what.incremental
    put = subst (λ (z : Service × List ℕ). Contains (put_in z.0 (ops_in (entry next.log v))) z.1) (sym made_kept)
        (subst (λ (xs : List (List ℕ)). Contains xs (incremental_of asked_then.by.rank asked_then.command)) (sym puts) (Contains-push [] (incremental_of asked_then.by.rank asked_then.command)))
      where
        puts : put_in (service_of asked_then.command) (ops_in (entry next.log v)) ≡ incremental_of asked_then.by.rank asked_then.command ∷ []
        puts = ap (put_in (service_of asked_then.command)) ops_are ∙ puts_command (view_at next.log w0.last) asked_then.command asked_then.by.rank asked_then.ops asked_then.made

    led : WasActive count K.g (ack.what.epoch, rank)
    led = all_among (WasActive count K.g) (ack.what.epoch, rank) next.active (M.active (ap is_active A.active)) K.active

    quorum_is : led.0 ≡ s.leader.quorum
    quorum_is = (K.glob.roles.once rank ack.what.epoch rank rank led.0 d.y.state.leader.quorum led.1 (subst (λ (r : Readings). Entered K.g rank (epoch_of r) rank d.y.state.leader.quorum) stored acts.0.reigns.role)).1 ∙ A.quorum

    updates : Completes me d.by.at w0 s From Routed Voted Looked A.origin A.ops → s.phase ≡ phase.Updating
    updates C = elim C.in_phase [ inl e ↦ (let q = (subst (λ (p : Phase). Still p s.leader) e still_before).1 in let z : None ≡ Some A.origin = sym q ∙ C.waits in absurd cc) | inr e ↦ e ]

    -- ---- several monitors

    module _ (several : 1 < count) where
      completes : Completes me d.by.at w0 s From Routed Voted Looked A.origin A.ops
      completes = by A.how
        where
          by : Completes me d.by.at w0 s From Routed Voted Looked A.origin A.ops ⊎ AtOnce me d.by.at w0 s From Routed Voted Looked A.origin A.ops → Completes me d.by.at w0 s From Routed Voted Looked A.origin A.ops
          by (inl C) = C
          by (inr B) = no (sym (leads_others me J.g w0 s J.glob several d.by.on leads) ∙ B.alone)

      updating : s.phase ≡ phase.Updating
      updating = updates completes

      done : Completed me J.g w0 s J.glob several d.by.on completes.voter
      done = accept_completes me J.g w0 s J.glob several d.by.on completes.voter s.leader.pn v completes.voted.0 completes.in_phase refl refl completes.voted.1 completes.whole

      all_accepted : (i : ℕ) → has s.leader.quorum i ≡ true → HasAccepted w i v s.leader.pn (text done.x)
      all_accepted i t =
          let D = done.chosen in
          J.triples.kept i v s.leader.pn done.x (subst (λ (p : ℕ). Accepted J.g i v p done.x) done.number (D.all i (subst (λ (q : List Bool). has q i ≡ true) (sym done.quorum) t)))

      majority : IsMajorityOf count s.leader.quorum
      majority = let D = done.chosen in record { below = subst (λ (q : List Bool). (i : ℕ) → has q i ≡ true → i < count) done.quorum D.below; major = subst (λ (q : List Bool). is_majority count q ≡ true) done.quorum D.major }

      encodes : text done.x ≡ entry next.log v
      encodes = chosen_once ms next K v (text done.x) (entry next.log v) (record { pn = s.leader.pn; by = s.leader.quorum; major = majority; all = λ i t. O.accepted i v s.leader.pn (text done.x) (all_accepted i t) }) (chosen_then several w0.last within)

      nothing_below : (lower : ℕ) (q : List Bool) → lower < s.leader.pn → IsMajorityOf count q → AcceptedNothing w q v lower
      nothing_below lower q lt Q = nothing_lower ms w I rank s lower q was_up updating lt Q

    held : IsHeld count next K.g ack
    held = record {
      rank = rank;
      below = below;
      own = acts.0.own;
      event = omega arith;
      some = omega arith;
      within = within;
      put = put;
      led = led;
      level = let l : level_at next rank ≡ (readings_at next rank).last = level_is (own_of (readings_at next rank)) acts.0.reigns.unmarked in omega (arith, last_now);
      chosen = λ several i t. subst (HasAccepted next i v d.y.state.leader.pn) (encodes several) (subst (λ (p : ℕ). HasAccepted next i v p (text (done several).x)) (sym A.number) (O.accepted i v s.leader.pn (text (done several).x) (all_accepted several i (subst (λ (q : List Bool). has q i ≡ true) quorum_is t))));
      fresh = λ several lower q lt Q. stays_nothing w next O.later q v lower (nothing_below several lower q (let e = A.number in omega arith) Q);
    }

    -- ---- for which command it is

    source : ComesFrom J.g rank (epoch_of w0) A.origin A.ops
    source = by A.how
      where
        by : Completes me d.by.at w0 s From Routed Voted Looked A.origin A.ops ⊎ AtOnce me d.by.at w0 s From Routed Voted Looked A.origin A.ops → ComesFrom J.g rank (epoch_of w0) A.origin A.ops
        by (inl C) =
            let T = S.stems rank s was_up (updates C) in
            let at : Some T.origin ≡ Some A.origin = sym T.is ∙ C.waits in
            let value : Some T.ops ≡ Some A.ops = sym T.proposes ∙ C.proposed in
            let same_origin : T.origin ≡ A.origin = cc in
            let same_ops : T.ops ≡ A.ops = cc in
            subst (λ (o : Origin). ComesFrom J.g rank (epoch_of w0) o A.ops) same_origin (subst (ComesFrom J.g rank (epoch_of w0) T.origin) same_ops (comes_further I.g J.g up rank (epoch_of w0) T.origin T.ops T.comes))
        by (inr B) = record { command = B.command; from = B.from; makes = first_put w0 B.command (asked_of me A.origin) A.ops B.made ∙ ap (λ (a : ℕ). changed a B.command) (asker_is me A.origin) }

    reads : ops_in (entry next.log v) ≡ A.ops
    reads = by (cases_order 1 count)
      where
        by : (1 ≡ count) ⊎ ((1 < count) ⊎ (count < 1)) → ops_in (entry next.log v) ≡ A.ops
        by (inl one) = alone_reads (sym one) A.ops A.changes A.last
        by (inr (inl several)) =
            let D = done several in
            let C = completes several in
            let value : Some D.x ≡ Some A.ops = sym D.is ∙ C.proposed in
            let same : D.x ≡ A.ops = cc in
            let V : Val A.ops = subst (λ (o : Option (List Op)). IfSome o Val) C.proposed (let f = d.by.fits in f.value) in
            let R = read_version next.log N.short values_then w0.last within A.ops (subst (λ (b : List ℕ). transaction_in (Some b) ≡ Some A.ops) (ap text (sym same) ∙ encodes several) V.reads) in R.reads
        by (inr (inr none)) = let b = below in absurd (omega arith)

    made_here : changed (asker rank A.origin) source.command ≡ (ack.what.service, ack.what.incremental)
    made_here = ap (λ (z : Service × List ℕ). (z.0, z.1)) (sym (ap (λ (z : Cell). incremental_in (ops_in (unwrap_or z []))) there ∙ ap incremental_in reads ∙ source.makes))

    epoch_same : epoch_of d.y.readings ≡ epoch_of w0
    epoch_same =
        let E = M.ended in
        let f = subst (AllByRecursion Fit) A.changes E.fits in
        ap epoch_of (E.tells ∙ ap (λ (cs : List Change). played cs w0) A.changes) ∙ ap (λ (o : Own). epoch_in o) (learned_own v (A.ops ∷ []) w0 (f.0, tt))

    acks_are : next.acknowledged ≡ w.acknowledged ++ ack ∷ []
    acks_are = M.acks ∙ ap (λ (out : List Sent). w.acknowledged ++ acknowledgements_of next.events m d.y.state out) A.out
        ∙ ap (λ (z : List Acknowledged). w.acknowledged ++ z) (one_ack next.events m d.y.state me A.plain (epoch_of d.y.readings) A.origin v A.all (ap is_leading A.active))

    now : Contains next.acknowledged ack
    now = subst (λ (xs : List Acknowledged). Contains xs ack) (sym acks_are) (Contains-push w.acknowledged ack)

    answer_founded : (o : Origin) (c : Command) → HasSource J.g rank (epoch_of w0) c o → changed (asker rank o) c ≡ (ack.what.service, ack.what.incremental) → AllByRecursion Founded (answer_to me (epoch_of d.y.readings) o (reply.Done v) ∷ [])
    answer_founded (origin.Session t) c k made =
        let W = J.asks rank t c k in (
          record {
            acknowledged = ack;
            among = now;
            version = refl;
            earlier = omega arith;
            asked = W.by;
            was_asked = subst (λ (xs : List Asked). Contains xs W.by) (sym asked_are) W.among;
            rank = W.at;
            session = W.session;
            made = asked_makes count asked rank t c W ∙ ap Some made;
          },
          tt,
        )
    answer_founded (origin.Forwarded f seq) c k made = (
      record {
        acknowledged = ack;
        among = now;
        version = refl;
        earlier = omega arith;
        session = k.0;
        command = c;
        handed = subst (λ (e : ℕ). Handed K.g f e seq k.0 c) (sym epoch_same) (ahead.hands (hand f (epoch_of w0) seq k.0 c) k.1);
        made = made;
      },
      tt,
    )

    -- ---- no version twice

    first_time : (b : Acknowledged) → IsHeld count w I.g b → ¬ (ack.what.version ≡ b.what.version)
    first_time b h e = by (cases_lt 1 count) (cases_order b.what.pn s.leader.pn)
      where
        level : level_at w rank ≡ w0.last
        level = level_is (own_of w0) unmarked_before

        same_rank : h.rank ≡ rank → ⊥
        same_rank q = let l = subst (λ (i : ℕ). b.what.version ≤ level_at w i) q h.level in omega (arith, level)

        number : s.leader.pn % 100 ≡ rank
        number = ap (λ (p : ℕ). p % 100) (sym A.number) ∙ acts.0.own

        lower : 1 < count → b.what.pn < s.leader.pn → ⊥
        lower several lt =
            let role = h.led.1 in
            let R = I.glob.roles in
            let z = nothing_below several b.what.pn h.led.0 lt (record { below = R.within h.rank b.what.epoch h.rank h.led.0 role; major = R.major h.rank b.what.epoch h.rank h.led.0 role }) in
            z.never (entry w.log b.what.version) (subst (λ (u : ℕ). HasAccepted w z.rank u b.what.pn (entry w.log b.what.version)) (sym e) (h.chosen several z.rank z.within))

        higher : 1 < count → s.leader.pn < b.what.pn → ⊥
        higher several lt =
            let z = h.fresh several s.leader.pn s.leader.quorum lt (majority several) in
            z.never (text (done several).x) (subst (λ (u : ℕ). HasAccepted w z.rank u s.leader.pn (text (done several).x)) e (all_accepted several z.rank z.within))

        by : (1 < count) ⊎ (count ≤ 1) → (b.what.pn ≡ s.leader.pn) ⊎ ((b.what.pn < s.leader.pn) ⊎ (s.leader.pn < b.what.pn)) → ⊥
        by (inr one) t = let a = h.below in let q = below in same_rank (omega arith)
        by (inl several) (inl q) = same_rank (sym h.own ∙ ap (λ (p : ℕ). p % 100) q ∙ number)
        by (inl several) (inr (inl lt)) = lower several lt
        by (inl several) (inr (inr lt)) = higher several lt

    acked_then : IsSafe ms next K
    acked_then = safe_more ms w next I K O S stills stems later (ack ∷ []) (replies_of next.events rank m d.y.out) (messages_of d.y.out)
        acks_are M.replied M.messages ((held, refl), tt) (once_push w.acknowledged ack S.once (all_map (IsHeld count w I.g) (λ (b : Acknowledged). ¬ (ack.what.version ≡ b.what.version)) first_time w.acknowledged S.acks))
        (all_both _ _ _ (quiet_replies next rank m last_then d.y.out quiet) (replies_event next.events rank m d.y.out)) (founded_replies next K.g next.events rank m d.y.out founded) (λ a h. quiet_fenced a next.events rank m d.y.out quiet)
        (founded_routes next K.g next.events rank m d.y.out founded)
      where
        quiet : AllByRecursion NoShowSent d.y.out
        quiet = subst (AllByRecursion NoShowSent) (sym A.out) (all_append NoShowSent A.plain _ (plain_shows_nothing A.plain A.all) (answer_shows_nothing me (epoch_of d.y.readings) A.origin v))

        founded : AllByRecursion Founded d.y.out
        founded = subst (AllByRecursion Founded) (sym A.out) (all_append Founded A.plain _ (plain_founded next K.g next.events rank m A.plain A.all) (answer_founded A.origin source.command source.from made_here))

  pub safe_then : IsSafe ms next K
  safe_then = by says
    where
      by : Says d.y → IsSafe ms next K
      by (inl C) = quietly (plain_acks next.events m d.y.state d.y.out C.out) (plain_shows_nothing d.y.out C.out) (plain_founded next K.g next.events rank m d.y.out C.out)
      by (inr (inl A)) = acked_then A
      by (inr (inr (inl R))) = shown_then R
      by (inr (inr (inr H))) = handed_then H
