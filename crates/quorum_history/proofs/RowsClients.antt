-- The rows of clients keep what holds.
use Rattle.law_names.proofs.Runs.{IsCommand}
use Rattle.law_names.proofs.Table.{AllByRecursion, Asked, Command, CommandRefused, Course, IsShort, MOST_WAITING, Me, Op, Origin, Readings, Reply, Request, Session, Waiting, answer, ask, asked_of, at_leader, at_peon, begin_made, clients_are, epoch_of, has, has_queue, hear_client, hear_forward, hear_route, is_leading, is_member, is_peon, is_standing, is_too_long, lease_of, made, may_propose, of_leader, of_member, propose, propose_due, propose_first, propose_next, queue_up, read, readable, refusal, reply_to, same_phase, send, service_last, service_of, shown, since, too_long, value, wait_under, ◌▸◌}
use Rattle.mon_bytes.specs.declared.command.Command.TheVariants as command
use Rattle.mon_msg.specs.Protocol.Commands.{hand_on}
use Rattle.mon_msg.specs.declared.plan.Origin.TheVariants as origin
use Rattle.mon_msg.specs.declared.plan.Sent.TheVariants as sent
use Rattle.mon_types.specs.declared.names.Which.TheVariants as which
use Rattle.mon_wire.specs.declared.body.Body.TheVariants as body
use Rattle.mon_wire.specs.declared.phase.Phase.TheVariants as phase
use Rattle.mon_wire.specs.declared.reply.Reply.TheVariants as reply
use Rattle.mon_wire.specs.declared.request.Request.TheVariants as request
use Rattle.quorum_history.proofs.ActsLeading.{begin_new_holds}
use Rattle.quorum_history.proofs.Frame.{entered_lasts, followed_lasts, handed_lasts, source_lasts}
use Rattle.quorum_history.proofs.History.{Asks, Ghost, Handed, asking}
use Rattle.quorum_history.proofs.Holds.{At, FollowsIn, Good, HasSource, InPhase, IsHanded, SentHolds, Waits, core}
use Rattle.quorum_history.proofs.Phases.{active_is, any_leads, as_known, in_known, peon_is_peon, queue_in}
use Rattle.quorum_history.proofs.Steps.{handed, handed_below, hands_on, says, tells, weaken}
use Rattle.quorum_walk.proofs.FineCourses.{IsStored, Made, OriginFine, RequestFine, WaitingFine}
use Rattle.quorum_walk.proofs.Lists.{all_append, all_filter, all_map, all_of}
use Rattle.quorum_walk.proofs.Walk.{Then, and_three, by_test, done, where_fits}
use Rattle.std.proofs.Common.{Err, List, Ok, Result, Some, [], ap, arith, eqb, false, filter, inl, leb, length, ltb, map, not, refl, slice_index_or, slice_set, subst, suc, sym, true, ℕ, ◌&&◌, ◌++◌, ◌||◌, ◌∷◌, ◌≡◌, ◌≤◌}
use Rattle.std.proofs.lemmas.Bool.{and_parts, eqb-true, not-false}

-- the history has what a session asks of monitor i
abbrev pub IsAsked : Ghost → ℕ → Session → Request → Type 0
IsAsked g i s (request.Set key value) = Asks g i s (command.Set key value)
IsAsked g i s (request.Remove key) = Asks g i s (command.Remove key)
IsAsked g i s (request.Log text) = Asks g i s (command.Log text)
IsAsked g i s (request.Show v) = Unit {0}
IsAsked g i s (request.Since v n) = Unit {0}

module _ (me : Me) (now : ℕ) (g : Ghost) (Known : ℕ → List Op → Type 0) where
  abbrev n : ℕ
  n = me.member.monitors

  abbrev i : ℕ
  i = me.member.rank

  answered_one : (P : Ghost → Type 0) (o : Origin) (r : Reply) (x : Course) → At me g Known P x → At me g Known P (answer me o r x)
  answered_one P (origin.Session s) r x A = says P (sent.Reply s r ∷ []) A (λ h E G D p. (tt, tt))
  answered_one P (origin.Forwarded f seq) r x A = tells me P (body.Route seq r) f A (λ h E G D p. tt)

  pub replies : (P : Ghost → Type 0) (s : Session) (r : Reply) (x : Course) → At me g Known P x → At me g Known P (reply_to s r x)
  replies P s r x A = says P (sent.Reply s r ∷ []) A (λ h E G D p. (tt, tt))

  -- ---- at the leader

  asked_below : (o : Origin) → OriginFine o → asked_of me o ≤ 14
  asked_below (origin.Session s) k = let a = me.member.in_map in let b = me.member.most in omega arith
  asked_below (origin.Forwarded f seq) k = k

  -- A store's readers return this. Each value that a command which was asked makes over it has property Known for the
  -- next version.
  abbrev pub Makes : Readings → Type 0
  Makes w = IsStored w × (w.marked ≡ false → (a : ℕ) (s : Session) (c : Command) (y : List Op) → Asks g a s c → value w c a ≡ Ok y → Known (suc w.last) y)

  source_asked : (x : Course) (e : ℕ) (c : Command) (o : Origin) → (A : Good me g Known x) → HasSource A.h i e c o → (s : Session) × Asks g (asked_of me o) s c
  source_asked x e c (origin.Session s) A k = (s, A.asks (asking i s c) k)
  source_asked x e c (origin.Forwarded f seq) A k = let G = A.glob.hands in (k.0, A.asks (asking f k.0 c) (G.asked f e seq k.0 c k.1))

  proposes : Made → (c : Command) (o : Origin) (x : Course) → IsCommand c → OriginFine o → IsShort x.readings.last → Makes x.readings → ((s : Session) × Asks g (asked_of me o) s c) → x.state.phase ≡ phase.Active → Good me g Known x → Then (Good me g Known) (propose me now c o x)
  unfolding propose
  proposes made c o x form rank last makes asked lead A = where_fits (Good me g Known) which.Version (suc (service_last x.readings (service_of c))) _ (λ short. by short (value x.readings c (asked_of me o)) refl)
    where
      by : IsShort (suc (service_last x.readings (service_of c))) → (r : Result (List Op) CommandRefused) → value x.readings c (asked_of me o) ≡ r → Then (Good me g Known) (begin_made me now o r x)
      by short (Ok y) e = let B = in_known me g Known x phase.Active lead A in let u = B.fact.0.reigns.unmarked in
          begin_new_holds me now g Known y (Some o) x (made x.readings makes.0 c (asked_of me o) y form (asked_below o rank) last short e) (makes.1 u (asked_of me o) asked.0 c y asked.1 e) u B
      by short (Err e) q = done (answered_one _ o (refusal e) x A)

  queued_up : (c : Command) (o : Origin) (x : Course) → is_leading x.state.phase ≡ true → HasSource g i (epoch_of x.readings) c o → Good me g Known x → Good me g Known (queue_up c o x)
  queued_up c o x lead source A = weaken _ _ A (λ h E G D k. queue_in n h i (core x) (x.state.clients.queue ++ record { command = c; origin = o } ∷ []) x.state.phase lead
      (λ q. all_append (Waits h i (epoch_of x.readings)) x.state.clients.queue (record { command = c; origin = o } ∷ []) q (source_lasts i g h E i (epoch_of x.readings) c o source, tt)) k)

  at_leader_holds : Made → (c : Command) (o : Origin) (x : Course) → IsCommand c → OriginFine o → IsShort x.readings.last → Makes x.readings → is_leading x.state.phase ≡ true → HasSource g i (epoch_of x.readings) c o → Good me g Known x → Then (Good me g Known) (at_leader me now c o x)
  at_leader_holds made c o x form rank last makes lead source A =
      by_test (is_too_long c) (λ _. done (answered_one _ o (too_long c) x A)) (λ _.
      by_test (may_propose me now x && not (has_queue x)) (λ w. proposes made c o x form rank last makes (source_asked x (epoch_of x.readings) c o A (source_lasts i g A.h A.ext i (epoch_of x.readings) c o source)) (active_is x.state.phase ((and_three (same_phase x.state.phase phase.Active) (is_standing me now x.state) (not (has_queue x)) w).0)) A) (λ _.
      by_test (leb MOST_WAITING (length x.state.clients.queue)) (λ _. done (answered_one _ o (reply.Busy MOST_WAITING) x A)) (λ _. done (queued_up c o x lead source A))))

  -- ---- at a peon

  hand_on_holds : (c : Command) (s : Session) (x : Course) → x.state.phase ≡ phase.Peon → Asks g i s c → Good me g Known x → Then (Good me g Known) (hand_on me c s x)
  hand_on_holds c s x peon ask A =
      let e = epoch_of x.readings in
      let seq = x.state.clients.next_seq in
      let y : Course = wait_under seq s x in
      let B = hands_on (λ h. FollowsIn h i (core x)) (λ h. FollowsIn h i (core y) × Handed h i e seq s c) seq s c (in_known me g Known x phase.Peon peon A)
      (λ h E p. E.asks.keeps (asking i s c) ask) (λ h p t d a. let lt = p.below seq t d a in absurd (omega arith))
      (λ h E p. let k = handed i e seq s c h in (
        record {
          role = entered_lasts i h k E i e x.state.peon.leader x.state.peon.quorum p.role;
          unmarked = p.unmarked;
          sessions = all_append (IsHanded k i e) x.state.clients.sessions (record { seq = seq; session = s } ∷ [])
              (all_map (IsHanded h i e) (IsHanded k i e) (λ a w. (w.0, handed_lasts i h k E i e a.seq a.session w.0 w.1)) x.state.clients.sessions p.sessions) ((c, inl refl), tt);
          below = handed_below i e seq s c h p.below;
          clear = p.clear;
          led = λ t. followed_lasts i h k E e x.state.peon.leader (p.led t);
        },
        inl refl,
      )) in
      let C = tells me (λ h. FollowsIn h i (core y) × Handed h i e seq s c) (body.Forward seq c) x.state.peon.leader B (λ h E G D p. (s, p.1)) in
      where_fits (Good me g Known) which.Seq seq _ (λ _. done (as_known me g Known (y ▸ send me x.state.peon.leader (body.Forward seq c)) phase.Peon peon (weaken _ _ C (λ h E G D p. p.0))))

  at_peon_holds : (c : Command) (s : Session) (x : Course) → x.state.phase ≡ phase.Peon → Asks g i s c → Good me g Known x → Then (Good me g Known) (at_peon me c s x)
  at_peon_holds c s x peon ask A =
      by_test (is_too_long c) (λ _. done (replies _ s (too_long c) x A)) (λ _.
      by_test (leb MOST_WAITING (length x.state.clients.sessions)) (λ _. done (replies _ s (reply.Busy MOST_WAITING) x A)) (λ _. hand_on_holds c s x peon ask A))

  -- ---- rows

  ask_holds : Made → (s : Session) (c : Command) (x : Course) → IsCommand c → IsShort x.readings.last → Makes x.readings → Asks g i s c → Good me g Known x → Then (Good me g Known) (ask me now s c x)
  unfolding ask
  ask_holds made s c x form last makes asked A =
      by_test (is_leading x.state.phase) (λ lead. at_leader_holds made c (origin.Session s) x form tt last makes lead asked A) (λ _.
      by_test (is_peon x.state.phase) (λ peon. at_peon_holds c s x (peon_is_peon x.state.phase peon) asked A) (λ _. done (replies _ s reply.Unavailable x A)))

  pub hear_forward_holds : Made → (f e : ℕ) (seq : ℕ) (c : Command) (x : Course) → f ≤ 14 → IsCommand c → IsShort x.readings.last → Makes x.readings → (s : Session) → Handed g f e seq s c → Good me g Known x → Then (Good me g Known) (hear_forward me now f e seq c x)
  unfolding hear_forward
  hear_forward_holds made f e seq c x rank form last makes s H A =
      let y : Course = clients_are (record x.state.clients { taken = slice_set x.state.clients.taken f seq }) x in
      let phases = phase.Collecting ∷ phase.Previous ∷ phase.Active ∷ phase.Updating ∷ [] in
      by_test (not (of_member phases f e x && ltb (slice_index_or x.state.clients.taken f 0) seq)) (λ _. done A) (λ heard.
      let t = and_three (same_phase x.state.phase phase.Collecting || (same_phase x.state.phase phase.Previous || (same_phase x.state.phase phase.Active || (same_phase x.state.phase phase.Updating || false)))) (eqb e (epoch_of x.readings)) (has x.state.leader.quorum f)
      ((and_parts (of_member phases f e x) _ (not-false _ heard)).0) in
      at_leader_holds made c (origin.Forwarded f seq) y form rank last makes (any_leads x.state.phase t.0) (s, subst (λ (z : ℕ). Handed g f z seq s c) (eqb-true e (epoch_of x.readings) t.1) H) A)

  pub hear_route_holds : (f e : ℕ) (seq : ℕ) (r : Reply) (x : Course) → Good me g Known x → Then (Good me g Known) (hear_route f e seq r x)
  unfolding hear_route
  hear_route_holds f e seq r x A =
      let left = filter (λ (a : Asked). not (eqb a.seq seq)) x.state.clients.sessions in
      let y : Course = clients_are (record x.state.clients { sessions = left }) x in
      by_test (not (of_leader f e x)) (λ _. done A) (λ heard.
      let t = and_three (is_peon x.state.phase) (eqb e (epoch_of x.readings)) (eqb f x.state.peon.leader) (not-false _ heard) in
      let peon = peon_is_peon x.state.phase t.0 in
      let B : At me g Known (λ h. FollowsIn h i (core y)) y = weaken _ _ (in_known me g Known x phase.Peon peon A) (λ h E G D p.
      record { role = p.role; unmarked = p.unmarked; sessions = all_filter (IsHanded h i (epoch_of x.readings)) (λ (a : Asked). not (eqb a.seq seq)) x.state.clients.sessions p.sessions; below = p.below; clear = p.clear; led = p.led }) in
      done (says _ (map (λ (a : Asked). sent.Reply a.session r) (filter (λ (a : Asked). eqb a.seq seq) x.state.clients.sessions)) (as_known me g Known y phase.Peon peon B) (λ h E G D p. all_of (SentHolds h i) (λ (a : Asked). sent.Reply a.session r) (λ a. tt) _)))

  -- the first of those that wait
  propose_first_holds : Made → (ws : List Waiting) (x : Course) → ws ≡ x.state.clients.queue → AllByRecursion WaitingFine ws → IsShort x.readings.last → Makes x.readings → x.state.phase ≡ phase.Active → Good me g Known x → Then (Good me g Known) (propose_first me now ws x)
  propose_first_holds made [] x is F last makes lead A = done A
  propose_first_holds made (w ∷ ws) x is F last makes lead A =
      let y : Course = clients_are (record x.state.clients { queue = ws }) x in
      let B : Good me g Known y = weaken _ _ A (λ h E G D k. queue_in n h i (core x) ws x.state.phase (ap is_leading lead)
      (λ q. (subst (λ (z : List Waiting). AllByRecursion (Waits h i (epoch_of x.readings)) z) (sym is) q).1) k) in
      let waits = (subst (InPhase n A.h i (core x)) lead A.fact).0.reigns.queue in
      let source = (subst (λ (z : List Waiting). AllByRecursion (Waits A.h i (epoch_of x.readings)) z) (sym is) waits).0 in
      proposes made w.command w.origin y F.0.0 F.0.1 last makes (source_asked x (epoch_of x.readings) w.command w.origin A source) lead B

  pub propose_due_holds : Made → (x : Course) → AllByRecursion WaitingFine x.state.clients.queue → IsShort x.readings.last → Makes x.readings → Good me g Known x → Then (Good me g Known) (propose_due me now x)
  unfolding propose_due propose_next
  propose_due_holds made x F last makes A = by_test (may_propose me now x)
      (λ w. propose_first_holds made x.state.clients.queue x refl F last makes (active_is x.state.phase ((and_parts (same_phase x.state.phase phase.Active) _ w).0)) A) (λ _. done A)

  -- ---- reads

  read_holds : (s : Session) (reading : Readings → Reply) (x : Course) → Good me g Known x → Then (Good me g Known) (read me now s reading x)
  read_holds s reading x A =
      by_test (not (is_member x.state.phase)) (λ _. done (replies _ s reply.Unavailable x A)) (λ _.
      by_test (not (readable x.readings.last n (lease_of x.state) now)) (λ _. done (replies _ s (reply.NotReadable x.readings.last (is_standing me now x.state)) x A)) (λ _. done (replies _ s (reading x.readings) x A)))

  pub hear_client_holds : Made → (s : Session) (r : Request) (x : Course) → RequestFine r → IsShort x.readings.last → Makes x.readings → IsAsked g i s r → Good me g Known x → Then (Good me g Known) (hear_client me now s r x)
  unfolding hear_client
  hear_client_holds made s (request.Set key value) x f last makes k A = ask_holds made s (command.Set key value) x f last makes k A
  hear_client_holds made s (request.Remove key) x f last makes k A = ask_holds made s (command.Remove key) x f last makes k A
  hear_client_holds made s (request.Log text) x f last makes k A = ask_holds made s (command.Log text) x f last makes k A
  hear_client_holds made s (request.Show v) x f last makes k A = read_holds s (λ w. shown w v) x A
  hear_client_holds made s (request.Since v m) x f last makes k A = read_holds s (λ w. since w v m) x A
