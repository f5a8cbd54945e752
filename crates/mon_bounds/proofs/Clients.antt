-- The rows of clients' commands and readings.
use Rattle.std.proofs.Common.{◌≡◌, ℕ, suc, ◌+◌, ◌-◌, ◌<◌, ◌≤◌, ◌^◌, not, ◌&&◌, eqb, ltb, leb, List, [], ◌∷◌, length, map, filter, Some, Result, Ok, Err, refl, arith}
use Rattle.std.proofs.lemmas.Bool.{and_parts, cond_both, leb-true, ltb-false}
use Rattle.std.proofs.lemmas.List.Sums.{sum_by-cons}
use Rattle.std.specs.List.{AllByRecursion}
use Rattle.std.specs.Prelude.{slice_index_or, slice_set, sum_by}
use Rattle.mon_lease.specs.Lease.{readable}
use Rattle.log_model.proofs.Lists.{all_append}
use Rattle.log_model.proofs.Older.{older_itself}
use Rattle.log_model.proofs.ValueSizes.{any_text}
use Rattle.log_model.specs.LogOfValues.{IsCommand, IsValue}
use Rattle.mon_bytes.specs.declared.command.Command.TheVariants as command
use Rattle.mon_bytes.specs.declared.command.Command.{Command}
use Rattle.mon_bytes.specs.declared.command.CommandRefused.TheVariants as refused
use Rattle.mon_bytes.specs.declared.command.CommandRefused.{CommandRefused}
use Rattle.mon_msg.specs.Protocol.Commands.{ask, at_leader, at_peon, hand_on, hear_forward, hear_route, is_too_long, may_propose, most_text, propose_due, queue_up, text_length, too_long}
use Rattle.mon_msg.specs.Protocol.Course.{Course, clients_are, ◌▸◌}
use Rattle.mon_msg.specs.Protocol.Hearing.{hear_client}
use Rattle.mon_msg.specs.Protocol.Leader.{of_member}
use Rattle.mon_msg.specs.Protocol.Leading.{has_queue, is_alone}
use Rattle.mon_msg.specs.Protocol.Peon.{of_leader}
use Rattle.mon_msg.specs.Protocol.Phases.{is_leading, is_member, is_peon}
use Rattle.mon_msg.specs.Protocol.Proposing.{asked_of, begin_made, propose, propose_first, propose_next, refusal}
use Rattle.mon_msg.specs.Protocol.Reads.{changes_after, is_standing, read, shown, since}
use Rattle.mon_msg.specs.Protocol.Readings.{Readings, epoch_of}
use Rattle.mon_msg.specs.Protocol.Records.{longest}
use Rattle.mon_msg.specs.Protocol.Sending.{answer_to, reply_to}
use Rattle.mon_msg.specs.Protocol.Services.{kept_from, fits_reply, service_first, service_last}
use Rattle.mon_msg.specs.Protocol.State.{lease_of}
use Rattle.mon_msg.specs.Protocol.Value.{service_of, value}
use Rattle.mon_msg.specs.declared.clients.Asked.{Asked}
use Rattle.mon_msg.specs.declared.clients.Waiting.{Waiting}
use Rattle.mon_msg.specs.declared.paxos.LeaderStage.TheVariants as stage
use Rattle.mon_msg.specs.declared.plan.Origin.TheVariants as origin
use Rattle.mon_msg.specs.declared.plan.Origin.{Origin}
use Rattle.mon_msg.specs.declared.plan.Sent.TheVariants as sent
use Rattle.mon_msg.specs.declared.view.Me.{Me}
use Rattle.mon_msg.specs.declared.limits.TheConstants.{MOST_WAITING}
use Rattle.mon_tx.specs.declared.op.Op.{Op}
use Rattle.mon_tx.specs.declared.key.Key.TheVariants as key
use Rattle.mon_types.specs.declared.names.Which.TheVariants as which
use Rattle.mon_wire.specs.Message.Client.{a_routed}
use Rattle.mon_wire.specs.Message.Fields.{blob}
use Rattle.mon_wire.specs.Message.PartLengths.{bytes_length}
use Rattle.mon_wire.specs.Message.Parts.{a_command}
use Rattle.mon_wire.specs.declared.body.Body.TheVariants as body
use Rattle.mon_wire.specs.declared.phase.Phase.TheVariants as phase
use Rattle.mon_wire.specs.declared.reply.Reply.TheVariants as reply
use Rattle.mon_wire.specs.declared.reply.Reply.{Reply}
use Rattle.mon_wire.specs.declared.request.Request.TheVariants as request
use Rattle.mon_wire.specs.declared.request.Request.{Request}
use Rattle.mon_wire.specs.declared.request.Service.{Service}
use Rattle.mon_wire.specs.declared.request.Session.{Session}
use Rattle.mon_bounds.proofs.Acts.{answers_go, begin_ok, room_least}
use Rattle.mon_tx.proofs.Places.{number_in-low}
use Rattle.mon_bounds.proofs.Courses.{Over, Under, over, says, serving, tells}
use Rattle.mon_bounds.proofs.Maps.{MayRefuse, read_shown, value_refused}
use Rattle.mon_bounds.proofs.Messages as said
use Rattle.mon_bounds.proofs.Messages.{Answers, Routed, few, goes, routed_answers}
use Rattle.mon_bounds.proofs.Reading.{longest_passes}
use Rattle.quorum_walk.proofs.Lists.{all_filter}
use Rattle.quorum_walk.proofs.Walk.{Then, by_test, where_fits}
use Rattle.mon_bounds.specs.Fitting.{IsRequest, MayAsk, MaySend}
use Rattle.mon_bounds.specs.Remembered.{IsNumber, IsOrigin, IsWaiting, MayPropose}

module _ (me : Me) (now : ℕ) where
  abbrev n : ℕ
  n = me.member.monitors

  -- ---- answers

  pub replies_ok : (s : Session) (r : Reply) (x : Course) → IsNumber s.id → Answers me r → Under me 0 x → Under me 0 (reply_to s r x)
  replies_ok s r x id R A = (says me (sent.Reply s r ∷ []) 0 _ _ _ ((λ e h. goes me (body.Reply s.id r) e h (said.answer me s.id r id R)), tt) A.0, A.1)

  pub unavailable : Answers me reply.Unavailable
  unavailable = record { form = tt; length = omega arith; lists = λ id. refl }

  busy : Routed me (reply.Busy MOST_WAITING)
  busy = record { routed = refl; form = omega arith }

  most_short : (c : Command) → most_text c ≤ 2 ^ 62
  most_short (command.Set k v) = omega arith
  most_short (command.Remove k) = omega arith
  most_short (command.Log t) = omega arith

  long : (c : Command) → IsNumber (text_length c) → Routed me (too_long c)
  long c h = record { routed = refl; form = (h, most_short c) }

  refused_routed : (e : CommandRefused) → MayRefuse e → Routed me (refusal e)
  refused_routed refused.NoSuch h = record { routed = refl; form = tt }
  refused_routed (refused.TooLong len most) h = record { routed = refl; form = h }
  refused_routed (refused.MapFull would_be) h = record { routed = refl; form = h }
  refused_routed refused.OutOfMemory h = absurd h

  -- ---- commands become values

  rank_of : (o : Origin) → IsOrigin n o → asked_of me o ≤ 14
  rank_of (origin.Session s) O = let lt = me.member.in_map in let most = me.member.most in omega arith
  rank_of (origin.Forwarded rank seq) O = let lt = O.0 in let most = me.member.most in omega arith

  made_value : (w : Readings) (c : Command) (asked : ℕ) (x : List Op) → IsCommand c → asked ≤ 14 → w.last ≤ 2 ^ 62 → suc (service_last w (service_of c)) ≤ 2 ^ 62 → value w c asked ≡ Ok x → MayPropose x
  made_value w c asked x form rank at fits h =
      let V : IsValue w x = record { command = c; form = form; asked = asked; rank = rank; newer = x; made = h; encoded = older_itself x } in
      let t = any_text w x V at fits in
      record { form = t.0; short = t.1 }

  begin_made_ok : (c : Command) (o : Origin) (r : Result (List Op) CommandRefused) (x : Course) → IsCommand c → text_length c ≤ most_text c → IsOrigin n o → suc (service_last x.readings (service_of c)) ≤ 2 ^ 62
      → value x.readings c (asked_of me o) ≡ r → Under me 0 x → Then (Over me) (begin_made me now o r x)
  begin_made_ok c o (Ok v) x form short O fits e A =
      let V = made_value x.readings c (asked_of me o) v form (rank_of o O) A.0.numbers.last fits e in
      let r = room_least (is_alone me x.state.leader.quorum) in
      begin_ok me now stage.Updating 0 v (Some o) x V O (omega arith) A
  begin_made_ok c o (Err f) x form short O fits e A =
      let R = refused_routed f (value_refused x.readings c (asked_of me o) f form short e) in
      over me 0 _ (omega arith) (says me (answer_to me (epoch_of x.readings) o (refusal f) ∷ []) 0 _ _ _ (answers_go me now (Some o) (refusal f) (epoch_of x.readings) A.0.numbers.epoch O R) A.0, A.1)

  pub propose_ok : (c : Command) (o : Origin) (x : Course) → IsCommand c → text_length c ≤ most_text c → IsOrigin n o → Under me 0 x → Then (Over me) (propose me now c o x)
  unfolding propose
  propose_ok c o x form short O A = where_fits (Over me) which.Version (suc (service_last x.readings (service_of c))) _ (λ fits.
      begin_made_ok c o (value x.readings c (asked_of me o)) x form short O fits refl A)

  first_ok : (q : List Waiting) (x : Course) → AllByRecursion (IsWaiting n) q → Under me 0 x → Then (Over me) (propose_first me now q x)
  first_ok [] x Q A = over me 0 x (omega arith) A
  first_ok (w ∷ ws) x Q A =
      let W = Q.0 in
      let C = A.1.others.clients in
      let y : Course = x ▸ clients_are (record x.state.clients { queue = ws }) in
      let B : Under me 0 y = (A.0, serving me _ A.1 (record { queue = Q.1; sessions = C.sessions })) in
      propose_ok w.command w.origin y W.form W.short W.origin B

  -- ---- commands that are asked

  at_leader_ok : (c : Command) (o : Origin) (x : Course) → MayAsk c → IsOrigin n o → Under me 0 x → Then (Over me) (at_leader me now c o x)
  at_leader_ok c o x form O A =
      by_test (is_too_long c)
      (λ _. over me 0 _ (omega arith) (says me (answer_to me (epoch_of x.readings) o (too_long c) ∷ []) 0 _ _ _ (answers_go me now (Some o) (too_long c) (epoch_of x.readings) A.0.numbers.epoch O (long c form.1)) A.0, A.1))
      (λ t. let short = ltb-false (most_text c) (text_length c) t in
      by_test (may_propose me now x && not (has_queue x)) (λ _. propose_ok c o x form.0 short O A) (λ _.
      by_test (leb MOST_WAITING (length x.state.clients.queue))
      (λ _. over me 0 _ (omega arith) (says me (answer_to me (epoch_of x.readings) o (reply.Busy MOST_WAITING) ∷ []) 0 _ _ _ (answers_go me now (Some o) (reply.Busy MOST_WAITING) (epoch_of x.readings) A.0.numbers.epoch O busy) A.0, A.1))
      (λ _. over me 0 (queue_up c o x) (omega arith) (queued c o x form.0 short O A))))
    where
      queued : (c : Command) (o : Origin) (x : Course) → IsCommand c → text_length c ≤ most_text c → IsOrigin n o → Under me 0 x → Under me 0 (queue_up c o x)
      queued c o x form short O A =
          let C = A.1.others.clients in
          (A.0, serving me _ A.1 (record { queue = all_append (IsWaiting n) x.state.clients.queue (record { command = c; origin = o } ∷ []) C.queue (record { form = form; short = short; origin = O }, tt); sessions = C.sessions }))

  hand_on_ok : (c : Command) (s : Session) (x : Course) → IsCommand c → text_length c ≤ most_text c → IsNumber s.id → Under me 0 x → Then (Over me) (hand_on me c s x)
  hand_on_ok c s x form short id A = where_fits (Over me) which.Seq x.state.clients.next_seq _ (λ seq.
      let C = A.1.others.clients in
      let Q = A.1.others.peon in
      over me 0 _ (omega arith) (
        tells me (body.Forward x.state.clients.next_seq c) x.state.peon.leader 0 _ _ _ (said.forward me x.state.clients.next_seq c seq form short) Q.leader A.0,
        serving me _ A.1 (record { queue = C.queue; sessions = all_append (λ (a : Asked). IsNumber a.session.id) x.state.clients.sessions (record { seq = x.state.clients.next_seq; session = s } ∷ []) C.sessions (id, tt) }),
      ))

  at_peon_ok : (c : Command) (s : Session) (x : Course) → MayAsk c → IsNumber s.id → Under me 0 x → Then (Over me) (at_peon me c s x)
  at_peon_ok c s x form id A =
      by_test (is_too_long c) (λ _. over me 0 _ (omega arith) (replies_ok s (too_long c) x id (routed_answers me (too_long c) (long c form.1)) A)) (λ t.
      by_test (leb MOST_WAITING (length x.state.clients.sessions)) (λ _. over me 0 _ (omega arith) (replies_ok s (reply.Busy MOST_WAITING) x id (routed_answers me (reply.Busy MOST_WAITING) busy) A))
      (λ _. hand_on_ok c s x form.0 (ltb-false (most_text c) (text_length c) t) id A))

  ask_ok : (s : Session) (c : Command) (x : Course) → IsNumber s.id → MayAsk c → Under me 0 x → Then (Over me) (ask me now s c x)
  unfolding ask
  ask_ok s c x id form A =
      by_test (is_leading x.state.phase) (λ _. at_leader_ok c (origin.Session s) x form id A) (λ _.
      by_test (is_peon x.state.phase) (λ _. at_peon_ok c s x form id A) (λ _. over me 0 _ (omega arith) (replies_ok s reply.Unavailable x id unavailable A)))

  told_command : (c : Command) → a_command.Form c → MayAsk c
  told_command (command.Set k v) form = ((form.0, form.1.0), (let l = form.1.1 in omega arith))
  told_command (command.Remove k) form = (form, omega arith)
  told_command (command.Log t) form = (form.0, (let l = form.1 in omega arith))

  pub hear_forward_ok : (f e : ℕ) (seq : ℕ) (c : Command) (x : Course) → f < n → seq ≤ 2 ^ 62 → a_command.Form c → Under me 0 x → Then (Over me) (hear_forward me now f e seq c x)
  unfolding hear_forward
  hear_forward_ok f e seq c x lt short form A =
      let C = A.1.others.clients in
      let y : Course = x ▸ clients_are (record x.state.clients { taken = slice_set x.state.clients.taken f seq }) in
      let B : Under me 0 y = (A.0, serving me _ A.1 (record { queue = C.queue; sessions = C.sessions })) in
      by_test (not (of_member (phase.Collecting ∷ phase.Previous ∷ phase.Active ∷ phase.Updating ∷ []) f e x && ltb (slice_index_or x.state.clients.taken f 0) seq)) (λ _. over me 0 x (omega arith) A)
      (λ _. at_leader_ok c (origin.Forwarded f seq) y (told_command c form) (lt, short) B)

  pub propose_due_ok : (x : Course) → Under me 0 x → Then (Over me) (propose_due me now x)
  unfolding propose_due propose_next
  propose_due_ok x A = by_test (may_propose me now x) (λ _. first_ok x.state.clients.queue x A.1.others.clients.queue A) (λ _. over me 0 x (omega arith) A)

  -- ---- answers that a leader sends

  each_answered : (r : Reply) (waiting : List Asked) → Routed me r → AllByRecursion (λ (a : Asked). IsNumber a.session.id) waiting → AllByRecursion (MaySend me) (map (λ (a : Asked). sent.Reply a.session r) waiting)
  each_answered r [] R h = tt
  each_answered r (a ∷ waiting) R h = ((λ e k. goes me (body.Reply a.session.id r) e k (said.answer me a.session.id r h.0 (routed_answers me r R))), each_answered r waiting R h.1)

  pub hear_route_ok : (f e : ℕ) (seq : ℕ) (r : Reply) (x : Course) → a_routed.Form r → Under me 0 x → Then (Over me) (hear_route f e seq r x)
  unfolding hear_route
  hear_route_ok f e seq r x form A =
      let C = A.1.others.clients in
      let sessions = x.state.clients.sessions in
      let R : Routed me r = record { routed = form.0; form = form.1 } in
      by_test (not (of_leader f e x)) (λ _. over me 0 x (omega arith) A) (λ _.
      over me 0 _ (omega arith) (
        says me (map (λ (a : Asked). sent.Reply a.session r) (filter (λ a. eqb a.seq seq) sessions)) 0 _ _ _ (each_answered r (filter (λ a. eqb a.seq seq) sessions) R (all_filter (λ (a : Asked). IsNumber a.session.id) (λ a. eqb a.seq seq) sessions C.sessions)) A.0,
        serving me _ A.1 (record { queue = C.queue; sessions = all_filter (λ (a : Asked). IsNumber a.session.id) (λ a. not (eqb a.seq seq)) sessions C.sessions }),
      ))

  -- ---- readings

  shown_answers : (w : Readings) (s : Service) → w.last ≤ 2 ^ 62 → Answers me (shown w s)
  shown_answers w s h =
      let m = read_shown w s in
      let l = m.1 in
      record { form = (tt, (h, (number_in-low (w.row s key.LastCommitted), m.0))); length = omega arith; lists = λ id. refl }

  each_blob : (is : List (List ℕ)) → sum_by bytes_length is ≤ 524288 → AllByRecursion blob.Form is
  each_blob [] h = tt
  each_blob (x ∷ is) h = let s = sum_by-cons bytes_length x is in (omega arith, each_blob is (omega arith))

  same_sum : (is : List (List ℕ)) → sum_by (λ bytes. length bytes + 4) is ≡ sum_by bytes_length is
  same_sum [] = refl
  same_sum (x ∷ is) = omega (arith, sum_by-cons (λ bytes. length bytes + 4) x is, sum_by-cons bytes_length x is, same_sum is)

  changes_answers : (w : Readings) (s : Service) (v : ℕ) (kept : List (List ℕ)) → v ≤ 2 ^ 62 → Answers me (changes_after w s v kept)
  changes_answers w s v kept h =
      let told = longest fits_reply kept in
      let t = longest_passes fits_reply kept refl in
      let parts = and_parts (leb (length told) 65535) (leb (sum_by (λ bytes. length bytes + 4) told) 524288) t in
      let sum = leb-true (sum_by (λ bytes. length bytes + 4) told) 524288 parts.1 in
      let same = same_sum told in
      record { form = (tt, (h, (tt, (few told parts.0, each_blob told (omega arith))))); length = omega arith; lists = λ id. parts.0 }

  since_answers : (w : Readings) (s : Service) (v : ℕ) → w.last ≤ 2 ^ 62 → v ≤ 2 ^ 62 → Answers me (since w s v)
  unfolding since
  since_answers w s v h l = cond_both (leb (service_first w s) (suc v)) (changes_after w s v (kept_from w s (service_last w s - v) (suc v))) (shown w s) (Answers me)
      (λ _. changes_answers w s v (kept_from w s (service_last w s - v) (suc v)) l) (λ _. shown_answers w s h)

  read_ok : (s : Session) (reading : Readings → Reply) (x : Course) → IsNumber s.id → Answers me (reading x.readings) → Under me 0 x → Then (Over me) (read me now s reading x)
  read_ok s reading x id R A =
      by_test (not (is_member x.state.phase)) (λ _. over me 0 _ (omega arith) (replies_ok s reply.Unavailable x id unavailable A)) (λ _.
      by_test (not (readable x.readings.last n (lease_of x.state) now))
      (λ _. over me 0 _ (omega arith) (replies_ok s (reply.NotReadable x.readings.last (is_standing me now x.state)) x id (record { form = (A.0.numbers.last, tt); length = omega arith; lists = λ i. refl }) A))
      (λ _. over me 0 _ (omega arith) (replies_ok s (reading x.readings) x id R A)))

  pub hear_client_ok : (s : Session) (r : Request) (x : Course) → IsNumber s.id → IsRequest r → Under me 0 x → Then (Over me) (hear_client me now s r x)
  unfolding hear_client
  hear_client_ok s (request.Set k v) x id form A = ask_ok s (command.Set k v) x id form A
  hear_client_ok s (request.Remove k) x id form A = ask_ok s (command.Remove k) x id form A
  hear_client_ok s (request.Log t) x id form A = ask_ok s (command.Log t) x id form A
  hear_client_ok s (request.Show v) x id form A = read_ok s (λ w. shown w v) x id (shown_answers x.readings v A.0.numbers.last) A
  hear_client_ok s (request.Since v from) x id form A = read_ok s (λ w. since w v from) x id (since_answers x.readings v from A.0.numbers.last form) A
