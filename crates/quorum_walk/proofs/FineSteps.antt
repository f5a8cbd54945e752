-- The steps of an event pass on only values of commands, and their numbers fit: what a step is made of.
use Rattle.mon_bytes.specs.declared.entry.Entry.{Entry}
use Rattle.mon_msg.specs.Protocol.Answers.{answer_of, is_complete, sent_values, told_of}
use Rattle.mon_msg.specs.Protocol.Changes.{Epoch, Vote}
use Rattle.mon_msg.specs.Protocol.Course.{Course, change}
use Rattle.mon_msg.specs.Protocol.Found.{counts}
use Rattle.mon_msg.specs.Protocol.Length.{fits}
use Rattle.mon_msg.specs.Protocol.Places.{is_done}
use Rattle.mon_msg.specs.Protocol.Played.{IsShort, play}
use Rattle.mon_msg.specs.Protocol.Providing.{chunk, chunk_with, given_entries, given_values, is_finished, reach}
use Rattle.mon_msg.specs.Protocol.Readings.{Readings}
use Rattle.mon_msg.specs.Protocol.Records.{found_as, longest, pending, pending_of, record_at, run_from}
use Rattle.mon_msg.specs.Protocol.Sending.{answers_to}
use Rattle.mon_msg.specs.Protocol.Synchronizing.{floor_of, full_sync, pending_version}
use Rattle.mon_msg.specs.declared.paxos.Found.{Found}
use Rattle.mon_msg.specs.declared.plan.Origin.TheVariants as origin
use Rattle.mon_msg.specs.declared.plan.Origin.{Origin}
use Rattle.mon_msg.specs.declared.synchronization.SyncStage.TheVariants as sync
use Rattle.mon_msg.specs.declared.view.Me.{Me}
use Rattle.mon_tx.specs.Decision.{Cell}
use Rattle.mon_tx.specs.declared.op.Op.{Op}
use Rattle.mon_wire.specs.declared.body.Body.TheVariants as body
use Rattle.mon_wire.specs.declared.parts.Cookie.{Cookie}
use Rattle.mon_wire.specs.declared.parts.Place.{Place}
use Rattle.mon_wire.specs.declared.parts.Told.{Told}
use Rattle.mon_wire.specs.declared.reply.Reply.{Reply}
use Rattle.quorum_walk.proofs.FineCourses.{Base, BodyFine, Ended, EntryFine, Fine, FoundFine, ReadingsFine, RecordsFine, SentOwn, StateFine, ToldFine, Val, mark_fine, number_fine, state_fine, tell_fine}
use Rattle.quorum_walk.proofs.FineReading.{longest_fine, missing_fine, put_fine, run_fine}
use Rattle.std.proofs.Common.{IfSome, List, None, Option, Some, [], arith, eqb, false, ltb, not, refl, subst, suc, true, ℕ, ◌&&◌, ◌||◌, ◌≡◌}
use Rattle.std.proofs.lemmas.Bool.{cond_both}
use Rattle.std.specs.List.{AllByRecursion}
use Rattle.std.specs.Option.{option_map}

-- ---- bodies that are made of what is read

told_fine : (f : Option Found) → FoundFine f → ToldFine (told_of f)
told_fine None k = tt
told_fine (Some f) k = k

pub answer_fine : (n promise first last : ℕ) (records : ℕ → Cell) (found : Option Found) (from : ℕ) → RecordsFine records → FoundFine found → BodyFine (answer_of n promise first last records found from)
unfolding answer_of
answer_fine n promise first last records found from R F =
    let told = sent_values n promise first last records from in
    let values : AllByRecursion Val told = cond_both (ltb last from || ltb from first) [] _ (AllByRecursion Val) (λ _. tt)
    (λ _. longest_fine Val (λ vs. fits n (body.Last promise first last false from vs None)) (run_from records last from) (run_fine records R last from)) in
    cond_both (is_complete n promise first last from told (told_of found)) (body.Last promise first last true from told (told_of found)) (body.Last promise first last false from told None) BodyFine
    (λ _. (values, told_fine found F)) (λ _. (values, tt))

pub chunk_fine : (last : ℕ) (c : Cookie) (p : Place) (left : List Entry) (n : ℕ) (records : ℕ → Cell) → IsShort last → RecordsFine records → AllByRecursion EntryFine left → BodyFine (chunk last c p left n records)
unfolding chunk
chunk_fine last c p left n records short R L =
    let values = given_values last c p left n records in
    let V : AllByRecursion Val values = longest_fine Val (λ vs. fits n (chunk_with last c p left vs [])) (run_from records last (suc p.version)) (run_fine records R last (suc p.version)) in
    let E : AllByRecursion EntryFine (given_entries last c p left n values) = cond_both (reach last p values && not (is_done p.key)) (longest (λ es. fits n (chunk_with last c p left values es)) left) [] (AllByRecursion EntryFine)
    (λ _. longest_fine EntryFine (λ es. fits n (chunk_with last c p left values es)) left L) (λ _. tt) in
    let entries = given_entries last c p left n values in
    cond_both (reach last p values && is_finished p left entries) (body.LastChunk c p values entries last) (body.Chunk c p values entries (is_finished p left entries)) BodyFine (λ _. (V, E, short)) (λ _. (V, E))

pub counts_fine : (o : Option Told) (t : Told) → ToldFine o → counts o ≡ Some t → Val t.value
counts_fine None t k e = absurd cc
counts_fine (Some u) t k e = subst (λ (o : Option Told). IfSome o (λ (t : Told). Val t.value)) e (cond_both _ (Some u) None ToldFine (λ _. k) (λ _. tt))

module _ (me : Me) (now : ℕ) (w0 : Base me) where
  pub answers_fine : (e : ℕ) (o : Option Origin) (r : Reply) → IsShort e → AllByRecursion (SentOwn me) (answers_to me e o r)
  answers_fine e None r k = tt
  answers_fine e (Some (origin.Session s)) r k = (tt, tt)
  answers_fine e (Some (origin.Forwarded f seq)) r k = (((k, tt), refl), tt)

  pub vote_readings : (v pn : ℕ) (value : List Op) (w : Readings) → IsShort v → Val value → ReadingsFine w → ReadingsFine (play (Vote v pn value) w)
  vote_readings v pn value w short V k = record {
    own = record { epoch = k.own.epoch; last_pn = k.own.last_pn; promise = k.own.promise; pending = short; last = k.own.last; floor = k.own.floor };
    records = put_fine v value w.record_of V k.records;
  }

  pub epoch_fine : (e : ℕ) (x : Course) → IsShort e → Fine w0 x → Fine w0 (change (Epoch e) x)
  epoch_fine e x short A = let O = A.readings.own in number_fine (Epoch e) A tt short refl refl (record { epoch = short; last_pn = O.last_pn; promise = O.promise; pending = O.pending; last = O.last; floor = O.floor })

  -- ---- a mark

  version_fine : (w : Readings) → ReadingsFine w → IsShort (pending_version (pending w))
  unfolding pending_of
  version_fine w V = cond_both (eqb w.pending_v (suc w.last)) (found_as w.pending_v w.pending_pn (record_at w.record_of (suc w.last))) None (λ f. IsShort (pending_version f)) (λ _. by (record_at w.record_of (suc w.last))) (λ _. none)
    where
      none : IsShort 0
      none = omega arith

      by : (r : Option (List Op)) → IsShort (pending_version (found_as w.pending_v w.pending_pn r))
      by None = none
      by (Some x) = cond_both _ (Some x) None (λ (o : Option (List Op)). IsShort (pending_version (option_map (λ short. record { version = w.pending_v; pn = w.pending_pn; value = short }) o))) (λ _. V.own.pending) (λ _. none)

  pub full_sync_fine : (f : ℕ) (x : Course) → Fine w0 x → Ended w0 (full_sync me now f x)
  unfolding full_sync
  full_sync_fine f x A =
      let floor = floor_of x.readings in
      let p = version_fine x.readings A.readings in
      let O = A.readings.own in
      let l = O.last in
      let m = O.floor in
      let short : IsShort floor = omega arith in
      let B = mark_fine floor x.readings.last_pn x.readings.promise A (short, O.last_pn, O.promise)
      (record { own = record { epoch = O.epoch; last_pn = O.last_pn; promise = O.promise; pending = omega arith; last = omega arith; floor = short }; records = λ v. missing_fine }) in
      let leader = x.state.leader in
      let S : StateFine leader.found leader.value leader.pn sync.Cookie x.state.clients.queue = record { found = A.state.found; value = A.state.value; pn = A.state.pn; stage = tt; queue = A.state.queue } in
      tell_fine me body.GetCookieFull f (state_fine leader.found leader.value leader.pn sync.Cookie x.state.clients.queue B S) tt
