-- What an event leaves of all requests, and of the log.
use Rattle.law_names.proofs.Runs.{AllValues, Asked, Envelope, IsAsked, IsValue, Keeps, Monitors, Plain, World, log_from, messages_of, put_at, view_at, with_asked}
use Rattle.law_names.proofs.Table.{AllByRecursion, Body, Change, Command, Last, Learn, Op, Readings, Sent, Session, State, Store, apply, apply_op, cell, encoded, entry, epoch_of, is_leading, joined, put_number, readings_of, text, value}
use Rattle.log_copies.proofs.Growing as growing
use Rattle.log_copies.proofs.Matching.{monitor_keeps, read_last, record_there}
use Rattle.log_copies.specs.Versions.{HasVersions}
use Rattle.log_model.proofs.Committed.{texts, value_told}
use Rattle.log_model.proofs.Lists.{length_push}
use Rattle.log_model.proofs.Logs.{IsPrefixOf, entry_push, entry_stays, fold_stays, log_prefix_itself}
use Rattle.log_model.proofs.RowReadings.{read_some}
use Rattle.log_model.proofs.RuleCells.{log_high}
use Rattle.mon_msg.specs.declared.plan.Sent.TheVariants as sent
use Rattle.mon_tx.specs.declared.key.Area.TheVariants as area
use Rattle.mon_tx.specs.declared.key.Key.TheVariants as key
use Rattle.mon_wire.specs.declared.body.Body.TheVariants as body
use Rattle.quorum_agreement.proofs.Grown.{GrowsByOne, first_is}
use Rattle.quorum_agreement.proofs.Kept.{accepted_added}
use Rattle.quorum_agreement.proofs.LoneWorlds.{IsWhole}
use Rattle.quorum_agreement.proofs.Made.{MadeOver, is_value, version_asked_stays}
use Rattle.quorum_agreement.proofs.Result.{OneLog}
use Rattle.quorum_agreement.proofs.SafeWorlds.{grown_log_prefix}
use Rattle.quorum_commands.proofs.Coming.{Does, ended, next, tells}
use Rattle.quorum_commands.proofs.Places.{Begun, BodyForwards, Forwards, Handed, IsAt, IsForwarded, Lasts, LoggedAt, MadeAt, Moves, Nowhere, Place, Places, Queued, StillAt, Tickets, Waits, WaitsIn, apart_at, made_still, own_lasts, wait_last}
use Rattle.quorum_commands.proofs.Sources.{SettledBy, asks_more}
use Rattle.quorum_commands.proofs.Steps.{BodySends, CommitsOwn, Here, Leaves, SendsOwn, leaves}
use Rattle.quorum_laws.proofs.Invariant.{EnvelopeHolds, InvOf}
use Rattle.quorum_laws.proofs.Whole.{at_put}
use Rattle.quorum_laws.specs.Accepting.{AcceptedIn}
use Rattle.quorum_walk.proofs.Lists.{all_append, all_both, all_map}
use Rattle.std.proofs.Common.{List, None, Option, Some, [], ap, arith, inl, inr, length, refl, slice_index_or, subst, suc, sym, ℕ, ◌++◌, ◌<◌, ◌^◌, ◌∙◌, ◌∷◌, ◌≡◌, ◌≤◌, ◌⊎◌}
use Rattle.std.proofs.lemmas.Bool.{cases_order, ltb-true}

-- ---- the log

module _ (n : ℕ) (asked more : List Asked) (still : StillAt asked more) (log newer : List (List ℕ)) (short : length log ≤ 2 ^ 62) (values : AllValues log) (grows : GrowsByOne log newer) (places after : Places) (from : Place) (i : ℕ) (at : IsAt i from) (M : Moves from places after) where
  F : IsPrefixOf log newer
  F = grown_log_prefix log newer grows

  begun_lasts : (k v : ℕ) (bytes : List ℕ) → places k ≡ Begun v bytes → after k ≡ Begun v bytes
  begun_lasts k v bytes e = M k (Begun v bytes) e (apart_at i from (Begun v bytes) at (λ z. z))

  pub logged_lasts : Lasts n asked more log newer places after
  logged_lasts v lt a = (
    (let s = F.short in omega arith),
    record {
      k = a.k;
      place = begun_lasts a.k (suc v) (entry log (suc v)) a.place ∙ ap (Begun (suc v)) (sym (entry_stays F (suc v) (omega arith)));
      by = a.by;
      at = still a.k a.by a.at;
      made = version_asked_stays F n (a.by ∷ []) v lt a.made;
    },
    refl,
  )

  -- and the new one is of that which made it
  new_logged : n ≤ 15 → length log < 2 ^ 62 → (k : ℕ) → after k ≡ Begun (suc (length log)) (entry newer (suc (length log))) → MadeAt n more log k (suc (length log)) (entry newer (suc (length log))) → LoggedAt n more newer after (length log)
  new_logged few room k e a = record { k = k; place = e; by = a.of.by; at = a.of.at; made = made }
    where
      over : MadeOver n (a.of.by ∷ []) log (suc (length log)) a.x
      over = let O = a.of in O.made

      whole : over.before ≡ length log
      whole = let e = over.next in omega arith

      view : view_at newer (length log) ≡ view_at log (length log)
      view = ap (λ (m : Store). readings_of (apply_op (put_number area.Paxos key.LastCommitted (length log)) m)) (fold_stays F (length log) (omega arith))

      made : IsAsked n (a.of.by ∷ []) newer (length log)
      made = record {
        by = over.of.by;
        was_asked = over.of.among;
        rank = (let e = over.of.at in let b = over.of.below in omega arith);
        command = over.command;
        is = over.of.command;
        form = over.of.form;
        ops = a.x;
        made = ap (λ (r : ℕ). value (view_at newer (length log)) over.command r) over.of.at ∙ ap (λ (w : Readings). value w over.command over.rank) view
            ∙ value_told log short values over.over (subst (λ (c : ℕ). Keeps log c over.over) whole over.keeps) (over.last ∙ whole) over.command over.rank ∙ over.made;
        has_text = texts log room values over.over (subst (λ (c : ℕ). Keeps log c over.over) whole over.keeps) (over.last ∙ whole) a.x (is_value n few (a.of.by ∷ []) log room values a.x over);
        encodes = a.encodes;
      }

  -- all of them are, if the new one is
  pub all_logged : n ≤ 15 → length newer ≤ 2 ^ 62 → ((v : ℕ) → v < length log → LoggedAt n asked log places v) → ((bytes : List ℕ) → newer ≡ log ++ bytes ∷ [] → (k : ℕ) × (after k ≡ Begun (suc (length log)) (entry newer (suc (length log)))))
      → ((k v : ℕ) (bytes : List ℕ) → after k ≡ Begun v bytes → MadeAt n more log k v bytes) → (v : ℕ) → v < length newer → LoggedAt n more newer after v
  all_logged few fits old new made v lt = by grows
    where
      by : GrowsByOne log newer → LoggedAt n more newer after v
      by (inl e) = let low : v < length log = subst (λ (l : List (List ℕ)). v < length l) e lt in (logged_lasts v low (old v low)).1
      by (inr x) = last (cases_order v (length log))
        where
          long : length newer ≡ suc (length log)
          long = ap (λ (z : List (List ℕ)). length z) x.1 ∙ length_push log x.0

          room : length log < 2 ^ 62
          room = omega (arith, fits, long)

          last : (v ≡ length log) ⊎ ((v < length log) ⊎ (length log < v)) → LoggedAt n more newer after v
          last (inl e) = let k = new x.0 x.1 in subst (LoggedAt n more newer after) (sym e) (new_logged few room k.0 k.1 (made k.0 (suc (length log)) (entry newer (suc (length log))) k.1))
          last (inr (inl low)) = (logged_lasts v low (old v low)).1
          last (inr (inr high)) = absurd (omega (arith, long))

-- ---- monitors that did nothing, and what is sent

-- fewer monitors are up, and less is sent
pub fewer : (n : ℕ) (places : Places) (store : ℕ → Store) (state less : ℕ → Option State) (txs : ℕ → List (List Op)) (messages some : List Envelope) (asked : List Asked) (log : List (List ℕ)) → ((j : ℕ) (s : State) → less j ≡ Some s → state j ≡ Some s)
    → ((P : Envelope → Type 0) → AllByRecursion P messages → AllByRecursion P some) → Tickets n places store state txs messages asked log → Tickets n places store less txs some asked log
fewer n places store state less txs messages some asked log was front T = record {
  free = T.free;
  waits = λ j. wait j (less j) refl;
  forwards = front (Forwards n asked places store less) (all_map (Forwards n asked places store state) (Forwards n asked places store less) (λ e. forwarded e.message.from e.to e.message.epoch e.message.body) messages T.forwards);
  begun = T.begun;
  accepted = T.accepted;
  logged = T.logged;
}
  where
    wait : (j : ℕ) (o : Option State) → less j ≡ o → WaitsIn n asked places j o
    wait j None e = tt
    wait j (Some s) e = subst (WaitsIn n asked places j) (was j s e) (T.waits j)

    forwarded : (f to e : ℕ) (b : Body) → BodyForwards n asked places (store to) (state to) f to e b → BodyForwards n asked places (store to) (less to) f to e b
    forwarded f to e (body.Forward seq c) k = λ apart. let h = k apart in record { low = h.low; own = λ s q. h.own s (was to s q) }
    forwarded f to e other k = tt

-- more is asked
pub asked_more : (n : ℕ) (places : Places) (store : ℕ → Store) (state : ℕ → Option State) (txs : ℕ → List (List Op)) (messages : List Envelope) (asked more : List Asked) (log : List (List ℕ)) → length log ≤ 2 ^ 62 → AllValues log → StillAt asked more → length asked ≤ length more
    → Tickets n places store state txs messages asked log → Tickets n places store state txs messages more log
asked_more n places store state txs messages asked more log short values still longer T = record {
  free = λ k le. T.free k (omega arith);
  waits = λ j. wait j (state j) (T.waits j);
  forwards = all_map (Forwards n asked places store state) (Forwards n more places store state) (λ e. forwarded e.message.from e.to e.message.epoch e.message.body) messages T.forwards;
  begun = λ k v bytes e. made_still n asked more still log log (log_prefix_itself log) k v bytes (T.begun k v bytes e);
  accepted = T.accepted;
  logged = λ v lt. (let a = T.logged v lt in record { k = a.k; place = a.place; by = a.by; at = still a.k a.by a.at; made = a.made });
}
  where
    stays : Moves Nowhere places places
    stays j p e apart = e

    wait : (j : ℕ) (o : Option State) → WaitsIn n asked places j o → WaitsIn n more places j o
    wait j None h = tt
    wait j (Some s) h = (h.0, h.1, wait_last n asked more still Nowhere places places stays j h.1 s.clients.queue (λ u le e. absurd cc) h.2)

    forwarded : (f to e : ℕ) (b : Body) → BodyForwards n asked places (store to) (state to) f to e b → BodyForwards n more places (store to) (state to) f to e b
    forwarded f to e (body.Forward seq c) k = λ apart. let h = k apart in record { low = h.low; own = λ s q leads now_is lt. own_lasts n asked more still Nowhere places places stays (Handed f to e seq) f c (λ z. absurd cc) (h.own s q leads now_is lt) }
    forwarded f to e other k = tt

-- ---- a monitor goes on, or goes down once it kept what it writes

module _ (ms : Monitors) (w : World) (p : Plain) (I : InvOf ms w) (L : OneLog ms w) (W : ms.count ≡ 1 → (i : ℕ) → i < ms.count → IsWhole w.log (w.store i)) (places : Places)
    (T : Tickets ms.count places w.store w.state w.transactions w.messages w.asked w.log) (d : Does ms w p) (Settled : Session → Type 0) (S0 : SettledBy ms w p I places T d Settled d.by.came) (now : Option State) (rises : epoch_of (readings_of (w.store d.by.rank)) ≤ epoch_of (readings_of (next ms w I p d)))
    (up : (s : State) → now ≡ Some s → (d.y.state ≡ s) × Here ms w p I L W places T d Settled S0) where
  abbrev n : ℕ
  n = ms.count

  abbrev i : ℕ
  i = d.by.rank

  abbrev asked : List Asked
  asked = with_asked p w.asked

  abbrev m : Store
  m = next ms w I p d

  abbrev tx : List Op
  tx = joined (encoded d.y.changes)

  abbrev stores : ℕ → Store
  stores = put_at w.store i m

  abbrev states : ℕ → Option State
  states = put_at w.state i now

  abbrev txs : ℕ → List (List Op)
  txs = put_at w.transactions i (w.transactions i ++ tx ∷ [])

  abbrev E : Leaves ms w p I L W places T d Settled S0
  E = leaves ms w p I L W places T d Settled S0

  abbrev pub after : Places
  after = E.after

  still : StillAt w.asked asked
  still = asks_more p w.asked

  -- ---- those that wait, and those that are handed on

  wait : (j : ℕ) → WaitsIn n asked E.after j (states j)
  wait = at_put (λ (j : ℕ) (u : Store) (o : Option State). WaitsIn n asked E.after j o) w.store w.state i m now (mine now up) (λ j ne. others j ne (w.state j) (T.waits j))
    where
      mine : (o : Option State) → ((s : State) → o ≡ Some s → (d.y.state ≡ s) × Here ms w p I L W places T d Settled S0) → WaitsIn n asked E.after i o
      mine None k = tt
      mine (Some s) k = subst (λ (z : State). Waits n asked E.after i z.clients.queue z.clients.taken) (k s refl).0 E.waits

      others : (j : ℕ) → (j ≡ i → ⊥) → (o : Option State) → WaitsIn n w.asked places j o → WaitsIn n asked E.after j o
      others j ne None h = tt
      others j ne (Some s) h = (h.0, h.1, wait_last n w.asked asked still E.from places E.after E.moves j h.1 s.clients.queue (λ u le. apart_at i E.from (Queued j u) E.at ne) h.2)

  all_rise : (j : ℕ) → epoch_of (readings_of (w.store j)) ≤ epoch_of (readings_of (stores j))
  all_rise = at_put (λ (j : ℕ) (u : Store) (o : Option State). epoch_of (readings_of (w.store j)) ≤ epoch_of (readings_of u)) w.store w.state i m now rises (λ j ne. omega arith)

  forwarded : (f to e seq : ℕ) (c : Command) → f < n → (f ≡ to → ⊥) → IsForwarded n w.asked places (w.store to) (w.state to) f to e seq c → IsForwarded n asked E.after (stores to) (states to) f to e seq c
  forwarded f to e seq c below apart h =
      at_put (λ (j : ℕ) (u : Store) (o : Option State). (f ≡ j → ⊥) → IsForwarded n w.asked places (w.store j) (w.state j) f j e seq c → IsForwarded n asked E.after u o f j e seq c) w.store w.state i m now mine others to apart h
    where
      mine : (f ≡ i → ⊥) → IsForwarded n w.asked places (w.store i) (w.state i) f i e seq c → IsForwarded n asked E.after m now f i e seq c
      mine apart h = record {
        low = (let a = h.low in let b = rises in omega arith);
        own = λ s q leads now_is lt. (
            let same = (up s q).0 in
            E.opens (up s q).1 f e seq c (ap (λ (z : State). is_leading z.phase) same ∙ leads) now_is (subst (λ (z : State). slice_index_or z.clients.taken f 0 < seq) (sym same) lt) apart below h);
      }

      others : (j : ℕ) → (j ≡ i → ⊥) → (f ≡ j → ⊥) → IsForwarded n w.asked places (w.store j) (w.state j) f j e seq c → IsForwarded n asked E.after (w.store j) (w.state j) f j e seq c
      others j ne apart h = record {
        low = h.low;
        own = λ s q leads now_is lt. own_lasts n w.asked asked still E.from places E.after E.moves (Handed f j e seq) f c (apart_at i E.from (Handed f j e seq) E.at ne) (h.own s q leads now_is lt);
      }

  old_forward : (e : Envelope) → EnvelopeHolds n I.g e × Forwards n w.asked places w.store w.state e → Forwards n asked E.after stores states e
  old_forward e k = by e.message.body k.1
    where
      by : (b : Body) → BodyForwards n w.asked places (w.store e.to) (w.state e.to) e.message.from e.to e.message.epoch b → BodyForwards n asked E.after (stores e.to) (states e.to) e.message.from e.to e.message.epoch b
      by (body.Forward seq c) h = λ apart. forwarded e.message.from e.to e.message.epoch seq c k.0.0 apart (h apart)
      by other h = tt

  new_forward : (from to e : ℕ) (b : Body) → BodySends ms w p I L W places T d Settled S0 E.after from to e b → BodyForwards n asked E.after (stores to) (states to) from to e b
  new_forward from to e (body.Forward seq c) k = λ apart. record { low = (let a = k.0 in let b = all_rise to in omega arith); own = λ s q leads now_is lt. k.1 }
  new_forward from to e other k = tt

  sent_forward : (sends : List Sent) → AllByRecursion (SendsOwn ms w p I L W places T d Settled S0 E.after) sends → AllByRecursion (Forwards n asked E.after stores states) (messages_of sends)
  sent_forward [] k = tt
  sent_forward (sent.Message to x ∷ sends) k = (new_forward x.from to x.epoch x.body k.0, sent_forward sends k.1)
  sent_forward (sent.Reply t r ∷ sends) k = sent_forward sends k.1

  -- ---- what was begun

  -- over the log as it was
  made_over_old : (k v : ℕ) (bytes : List ℕ) → E.after k ≡ Begun v bytes → MadeAt n asked w.log k v bytes
  made_over_old k v bytes e = elim (E.begun k v bytes e) [ inl o ↦ made_still n w.asked asked still w.log w.log (log_prefix_itself w.log) k v bytes (T.begun k v bytes o) | inr a ↦ a ]

  accepts : 1 < n → (j v q : ℕ) (bytes : List ℕ) → AcceptedIn (txs j) v q bytes → (k : ℕ) × (E.after k ≡ Begun v bytes)
  accepts several j v q bytes a =
      let N = ended ms w I p d in
      elim (accepted_added d.y.changes N.shape N.fits w.transactions i j v q bytes a) [
        | inl o ↦ (let k = T.accepted several j v q bytes o in (k.0, E.moves k.0 (Begun v bytes) k.1 (apart_at i E.from (Begun v bytes) E.at (λ z. z))))
        | inr s ↦ (let k = E.votes several v q s.0 s.2 in (k.0, k.1 ∙ ap (Begun v) (sym s.1)))
      ]

  -- ---- the log

  module _ (newer : List (List ℕ)) (grows : GrowsByOne w.log newer) (short : length newer ≤ 2 ^ 62) (values : AllValues newer) (whole : n ≡ 1 → IsWhole newer m)
      (somebody : 1 < n → (v : ℕ) → v < length newer → (j : ℕ) × (q : ℕ) × AcceptedIn (txs j) (suc v) q (entry newer (suc v))) where
    -- one that is alone grows the log by what it commits at once
    module _ (one : n ≡ 1) (bytes : List ℕ) (is : newer ≡ w.log ++ bytes ∷ []) where
      below : i < n
      below = ltb-true d.by.rank ms.count d.by.lt

      before : IsWhole w.log (w.store i)
      before = W one i below

      last_before : (readings_of (w.store i)).last ≡ length w.log
      last_before = read_last w.log L.short L.values (length w.log) (w.store i) before.versions

      long : length newer ≡ suc (length w.log)
      long = ap (λ (z : List (List ℕ)). length z) is ∙ length_push w.log bytes

      last_after : d.y.readings.last ≡ suc (length w.log)
      last_after = let N = whole one in sym (ap (λ (r : Readings). r.last) (tells ms w I p d)) ∙ read_last newer short values (length newer) m N.versions ∙ long

      room : length w.log < 2 ^ 62
      room = omega (arith, short, long)

      module _ (C : CommitsOwn ms w p I L W places T d Settled S0 E.after) where
        made : MadeOver n (C.made.by ∷ []) w.log (suc (length w.log)) C.ops
        made = let M = C.made in subst (λ (c : ℕ). MadeOver n (C.made.by ∷ []) w.log (suc c) C.ops) last_before M.made

        its_value : IsValue made.over C.ops
        its_value = is_value n ms.most (C.made.by ∷ []) w.log room L.values C.ops made

        at_end : made.before ≡ length w.log
        at_end = let e = made.next in omega arith

        abbrev grown_log : List (List ℕ)
        grown_log = w.log ++ text C.ops ∷ []

        over_keeps : Keeps w.log (length w.log) made.over
        over_keeps = subst (λ (c : ℕ). Keeps w.log c made.over) at_end made.keeps

        has : HasVersions grown_log (suc (length w.log)) m
        has =
            let cs : d.y.changes ≡ Learn (suc (length w.log)) C.ops ∷ Last (suc (length w.log)) ∷ [] = C.changes ∙ ap (λ (c : ℕ). Learn (suc c) C.ops ∷ Last (suc c) ∷ []) last_before in
            subst (λ (cs : List Change). HasVersions grown_log (suc (length w.log)) (apply (joined (encoded cs)) (w.store i))) (sym cs) (growing.committed w.log room L.values made.over over_keeps (made.last ∙ at_end) C.ops its_value (w.store i) before.versions)

        -- what the store has as the new version
        there : (l : List (List ℕ)) → length l ≤ 2 ^ 62 → AllValues l → HasVersions l (suc (length w.log)) m → cell m area.Paxos (key.Version (suc (length w.log))) ≡ Some (entry l (suc (length w.log)))
        there l f a V =
            let K = monitor_keeps l f a (suc (length w.log)) m V in
            let first = K.first in
            let low = log_high (suc (length w.log)) (omega arith) in
            record_there l f a (suc (length w.log)) m V (suc (length w.log)) (omega (arith, first, low, read_some log_from (suc (length w.log)) (omega arith), first_is m)) (omega arith)

        encodes : entry newer (suc (length w.log)) ≡ text C.ops
        encodes =
            let N = whole one in
            let a = there newer short values (subst (λ (c : ℕ). HasVersions newer c m) long N.versions) in
            let b = there grown_log (let l = length_push w.log (text C.ops) in omega (arith, room)) (growing.more_values w.log room L.values made.over over_keeps (made.last ∙ at_end) C.ops its_value) has in
            let c : Some (entry newer (suc (length w.log))) ≡ Some (entry grown_log (suc (length w.log))) = sym a ∙ b in
            let e : entry newer (suc (length w.log)) ≡ entry grown_log (suc (length w.log)) = cc in
            e ∙ entry_push w.log (text C.ops)

      new_alone : (k : ℕ) × (E.after k ≡ Begun (suc (length w.log)) (entry newer (suc (length w.log))))
      new_alone = by (E.lone one)
        where
          by : (d.y.readings.last ≡ (readings_of (w.store i)).last) ⊎ CommitsOwn ms w p I L W places T d Settled S0 E.after → (k : ℕ) × (E.after k ≡ Begun (suc (length w.log)) (entry newer (suc (length w.log))))
          by (inl same) = absurd (omega (arith, same, last_before, last_after))
          by (inr C) = (C.k, C.place ∙ ap (λ (c : ℕ). Begun (suc c) (text C.ops)) last_before ∙ ap (Begun (suc (length w.log))) (sym (encodes C)))

    new_request : (bytes : List ℕ) → newer ≡ w.log ++ bytes ∷ [] → (k : ℕ) × (E.after k ≡ Begun (suc (length w.log)) (entry newer (suc (length w.log))))
    new_request bytes is = by (cases_order 1 n)
      where
        among : 1 < n → (k : ℕ) × (E.after k ≡ Begun (suc (length w.log)) (entry newer (suc (length w.log))))
        among several = let l = ap (λ (z : List (List ℕ)). length z) is ∙ length_push w.log bytes in let a = somebody several (length w.log) (omega arith) in accepts several a.0 (suc (length w.log)) a.1 (entry newer (suc (length w.log))) a.2

        by : (1 ≡ n) ⊎ ((1 < n) ⊎ (n < 1)) → (k : ℕ) × (E.after k ≡ Begun (suc (length w.log)) (entry newer (suc (length w.log))))
        by (inl e) = new_alone (sym e) bytes is
        by (inr (inl several)) = among several
        by (inr (inr none)) = absurd (let b = ltb-true d.by.rank ms.count d.by.lt in omega arith)

    pub goes_last : Lasts n w.asked asked w.log newer places E.after
    goes_last = logged_lasts n w.asked asked still w.log newer L.short L.values grows places E.after E.from i E.at E.moves

    pub goes_on : Tickets n E.after stores states txs (w.messages ++ messages_of d.y.out) asked newer
    goes_on = record {
      free = E.free;
      waits = wait;
      forwards = all_append (Forwards n asked E.after stores states) w.messages (messages_of d.y.out) (all_map _ (Forwards n asked E.after stores states) old_forward w.messages (all_both (EnvelopeHolds n I.g) (Forwards n w.asked places w.store w.state) w.messages I.sent T.forwards)) (sent_forward d.y.out E.sends);
      begun = λ k v bytes e. made_still n asked asked (λ j a q. q) w.log newer (grown_log_prefix w.log newer grows) k v bytes (made_over_old k v bytes e);
      accepted = accepts;
      logged = all_logged n w.asked asked still w.log newer L.short L.values grows places E.after E.from i E.at E.moves ms.most short T.logged new_request made_over_old;
    }
