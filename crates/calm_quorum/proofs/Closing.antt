-- The closing shows: from a calm world, with any log of values, each monitor shows both maps of the log.
use Rattle.calm_quorum.proofs.Handling.{Place, Said, Shows, Told, comes, grew, place, takes}
use Rattle.calm_quorum.proofs.Hearing.{unchanged}
use Rattle.calm_quorum.proofs.Rounds.{did, put_same}
use Rattle.calm_quorum.proofs.States.{me_at, reacts, with_changes}
use Rattle.calm_quorum.proofs.Stores.{IsSmall}
use Rattle.law_names.proofs.Runs.{AllValues, Answer, Arrival, Client, Envelope, Event, HasAll, IsCalm, Monitors, Order, Ran, World, answers, asks, classic, first_world, log_of, orders, ran, ran_from, run, session}
use Rattle.law_names.proofs.Table.{Entry, Readings, Reply, Service, Session, State, Store, any_reaction, filter_map, flat_map, hear_client, is_member, lease_of, range_with_len, react, readings_of, same_phase, shared_entries, shown}
use Rattle.log_model.proofs.Committed.{shown_shared}
use Rattle.mon_lease.specs.Lease as lease
use Rattle.mon_msg.specs.declared.input.Input.TheVariants as input
use Rattle.mon_msg.specs.declared.plan.Sent.TheVariants as sent
use Rattle.mon_wire.specs.declared.phase.Phase.TheVariants as phase
use Rattle.mon_wire.specs.declared.reply.Reply.TheVariants as reply
use Rattle.mon_wire.specs.declared.request.Request.TheVariants as request
use Rattle.mon_wire.specs.declared.request.Service.TheVariants as service
use Rattle.quorum_model.proofs.Continuing.{ran_next, ran_on}
use Rattle.quorum_model.proofs.Members.{me_is}
use Rattle.quorum_model.specs.CalmRun.{EndsCalmly, ServesCalmly, answers_shown, shown_of}
use Rattle.quorum_model.specs.CalmSchedule.{calm_schedule, shows}
use Rattle.std.proofs.Common.{List, None, Ok, Option, Some, [], ap, append-nil, append_assoc, arith, cond, eqb, false, inl, inr, length, ltb, map, nat_lt, refl, subst, suc, sym, true, zero, ℕ, ◌++◌, ◌+◌, ◌<◌, ◌^◌, ◌||◌, ◌∙◌, ◌∷◌, ◌≡◌, ◌≤◌}
use Rattle.std.proofs.lemmas.Bool.{cases_lt, le-ltb, lt-ltb, or_right}
use Rattle.std.proofs.lemmas.List.{map-append}

-- ---- one request

-- it leads or follows under a lease
pub record MayRead (s : State) : Type 0 where
  pub up : same_phase s.phase phase.Booting ≡ false
  pub member : is_member s.phase ≡ true
  pub lease : lease.stands (lease_of s) 0 ≡ true

pub may_read : (n i : ℕ) (s : State) → ServesCalmly n i s → MayRead s
may_read n zero s L = record { up = rw (L.active) refl; member = rw (L.active) refl; lease = rw (L.active) (L.lease) }
may_read n (suc i) s F = record { up = rw (F.peon) refl; member = rw (F.peon) refl; lease = rw (F.peon) (F.lease) }

-- what is shown if there is a version, and if there is none
abbrev shown_by : Readings → Service → Reply
shown_by w s = cond (ltb 0 w.last) (shown w s) (reply.NotReadable w.last true)

module _ (n i : ℕ) (most : n ≤ 15) (e : nat_lt i n ≡ true) (sh : List Entry) (w : Readings) (s : State)
    (to : Session) (which : Service) where
  pub show_row : MayRead s → any_reaction (react (me_at n i most e) sh 0 w s (input.Client to (request.Show which)))
      ≡ Ok (reacts [] (sent.Reply to (shown_by w which) ∷ []) s)
  unfolding react hear_client
  show_row R =
      let t : (eqb n 1 || lease.stands (lease_of s) 0) ≡ true = or_right _ _ R.lease in
      rw (R.up) (rw (R.member) (rw t (elim (cases_lt 0 w.last)
      [ inl lt ↦ rw (lt-ltb 0 w.last lt) refl | inr ge ↦ rw (le-ltb 0 w.last ge) refl ])))

last_is : (log : List (List ℕ)) (m : Store) → HasAll log m → (readings_of m).last ≡ length log
unfolding readings_of
last_is log m H = H.last

-- ---- a calm monitor that shows

-- it serves after a log, and its store is small
pub record CanShow (n : ℕ) (log : List (List ℕ)) (i : ℕ) (p : Place) : Type 0 where
  pub state : State
  pub up : p.state ≡ Some state
  pub serves : ServesCalmly n i state
  pub has : HasAll log p.store
  pub small : IsSmall p.store

-- what is shown is the log's
shows_log : (log : List (List ℕ)) (m : Store) (s : Service) → length log ≤ 2 ^ 62 → AllValues log → HasAll log m
    → shown_by (readings_of m) s ≡ shown_of log s
shows_log [] m s fits all H = rw (last_is [] m H) refl
shows_log (x ∷ xs) m s fits all H =
    let z = last_is (x ∷ xs) m H in
    let S = shown_shared (x ∷ xs) (length (x ∷ xs)) m H.folded fits all (omega arith) in
    let t : ltb 0 (readings_of m).last ≡ true = lt-ltb 0 (readings_of m).last (omega arith) in
    rw t (rw (S.version s, S.map s) (rw z refl))

module _ (n : ℕ) (most : n ≤ 15) (log : List (List ℕ)) (fits : length log ≤ 2 ^ 62) (all : AllValues log) where
  abbrev ms : Monitors
  ms = classic n most

  abbrev asking : ℕ → ℕ → Service → Arrival
  asking j i s = record { rank = i; at = 0; input = input.Client (session j) (request.Show s) }

  abbrev tells : ℕ → ℕ → Service → Answer
  tells j i s = (i, session j, shown_of log s)

  takes_show : (j i : ℕ) (s : Service) (p : Place) → i < n → CanShow n log i p
      → takes ms log (asking j i s) p ≡ did p [] (Told (tells j i s) ∷ [])
  takes_show j i s p lt C =
      let e = lt-ltb i n lt in
      let row = show_row n i most e (shared_entries p.store) (readings_of p.store) C.state (session j) s
      (may_read n i C.state C.serves) in
      let small : IsSmall (with_changes [] p.store) = rw (unchanged p.store) C.small in
      let said : (grew log p.store ++ Told (i, session j, shown_by (readings_of p.store) s) ∷ [])
      ≡ Told (tells j i s) ∷ [] = rw
      (C.has.last, le-ltb (length log) (length log) (omega arith), shows_log log p.store s fits all C.has)
      refl in
      let first : takes ms log (asking j i s) p ≡ did (place p.store (Some C.state)) []
      (grew log p.store ++ Told (i, session j, shown_by (readings_of p.store) s) ∷ []) =
      rw (me_is (classic n most) i e, C.up) (rw row (rw small (rw (unchanged p.store) refl))) in
      let second : did (place p.store (Some C.state)) []
      (grew log p.store ++ Told (i, session j, shown_by (readings_of p.store) s) ∷ [])
      ≡ did p [] (Told (tells j i s) ∷ []) = λ q. did (place p.store (sym C.up q)) [] (said q) in
      first ∙ second

  -- ---- one event after another, each of which is answered and changes nothing else

  module _ (S : ℕ → Place) (out : List Envelope) where
    record Answers (w : World) (told : List Said) (es : List Event) (more : List Answer) : Type 0 where
      last : World
      goes : ran_from ms w es ≡ record { world = last; stop = None }
      shows : Shows log S out (told ++ map Told more) last

    answers_none : (w : World) (told : List Said) → Shows log S out told w → Answers w told [] []
    unfolding ran_from
    answers_none w told H = record { last = w; goes = refl; shows = rw (append-nil told) H }

    answers_first : (w : World) (told : List Said) (j i : ℕ) (s : Service) (es : List Event) (more : List Answer)
        → i < n → CanShow n log i (S i) → Shows log S out told w → ((next : World)
        → Shows log S out (told ++ Told (tells j i s) ∷ []) next
        → Answers next (told ++ Told (tells j i s) ∷ []) es more)
        → Answers w told (asks j i (request.Show s) ∷ es) (tells j i s ∷ more)
    answers_first w told j i s es more lt C H rest =
        let t = takes_show j i s (S i) lt C in
        let D = comes ms log S out told w (Client i 0 (session j) (request.Show s)) (asking j i s) H refl
        (rw t (tt, tt)) in
        let here : Shows log S out (told ++ Told (tells j i s) ∷ []) D.next =
        rw (t, put_same S i, append-nil out) at D.shows in
        let A = rest D.next here in
        record {
          last = A.last;
          goes = ran_next ms w D.next (asks j i (request.Show s)) es D.happened ∙ A.goes;
          shows = rw (append_assoc told (Told (tells j i s) ∷ []) (map Told more)) at A.shows;
        }

    abbrev both_asked : ℕ → ℕ → List Event
    both_asked j i = asks j i (request.Show service.Kv) ∷ asks j i (request.Show service.Log) ∷ []

    abbrev both_told : ℕ → ℕ → List Answer
    both_told j i = tells j i service.Kv ∷ tells j i service.Log ∷ []

    all_answer : (j k a : ℕ) (w : World) (told : List Said) → a + k ≤ n → ((i : ℕ) → i < n → CanShow n log i (S i))
        → Shows log S out told w → Answers w told (flat_map (both_asked j) (range_with_len a k))
        (flat_map (both_told j) (range_with_len a k))
    all_answer j zero a w told le C H = answers_none w told H
    all_answer j (suc k) a w told le C H =
        answers_first w told j a service.Kv _ _ (omega arith) (C a (omega arith)) H
        (λ next G. answers_first next _ j a service.Log _ _ (omega arith) (C a (omega arith)) G
        (λ last F. all_answer j k (a + 1) last _ (omega arith) C F))

-- ---- the end

untold : Said → Option Answer
untold (Told a) = Some a
untold other = None

untold_all : (xs : List Answer) → filter_map untold (map Told xs) ≡ xs
unfolding untold
untold_all [] = refl
untold_all (x ∷ xs) = ap (λ ys. x ∷ ys) (untold_all xs)

same_told : (xs ys : List Answer) → map Told xs ≡ map Told ys → xs ≡ ys
same_told xs ys e = sym (untold_all xs) ∙ ap (filter_map untold) e ∙ untold_all ys

-- A run that is calm after commands, whose log is one of values and whose stores are small, ends calmly.
pub ends_calmly : (n : ℕ) (most : n ≤ 15) (cs : List Order)
    → IsCalm (classic n most) cs (orders (classic n most) cs)
    → ((i : ℕ) → i < n → IsSmall ((run (classic n most) (orders (classic n most) cs)).store i))
    → length (log_of [] cs) ≤ 2 ^ 62 → AllValues (log_of [] cs) → EndsCalmly n most cs
ends_calmly n most cs C small fits all =
    let ms = classic n most in
    let w = run ms (orders ms cs) in
    let S = λ (i : ℕ). place (w.store i) (w.state i) in
    let H : Shows (log_of [] cs) S w.messages (map Told (answers w)) w =
    record { store = λ i. refl; state = λ i. refl; messages = refl; entries = C.log; said = refl } in
    let can : (i : ℕ) → i < n → CanShow n (log_of [] cs) i (S i) = λ i lt. let P = C.each i lt in
    record {
      state = P.state;
      up = P.up;
      serves = P.serves;
      has = subst (λ (log : List (List ℕ)). HasAll log (w.store i)) C.log P.has;
      small = small i lt;
    } in
    let A = all_answer n most (log_of [] cs) fits all S w.messages (suc (length cs)) n 0 w (map Told (answers w))
    (omega arith) can H in
    let before : ran ms (orders ms cs) ≡ record { world = w; stop = None } =
    λ i. record { world = w; stop = C.goes_on i } in
    let whole : ran ms (calm_schedule n most cs) ≡ record { world = A.last; stop = None } =
    ran_on ms first_world w (orders ms cs) (shows (suc (length cs)) n) before
    ∙ A.goes in
    let said : map Told (answers A.last)
    ≡ map Told (answers w ++ answers_shown (suc (length cs)) n (log_of [] cs)) =
    A.shows.said ∙ sym (map-append Told (answers w) (answers_shown (suc (length cs)) n (log_of [] cs))) in
    record {
      goes_on = ap (λ (r : Ran). r.stop) whole;
      calm = C;
      shown = ap (λ (r : Ran). answers r.world) whole
          ∙ same_told _ _ said
          ∙ ap (λ (ys : List Answer). ys ++ answers_shown (suc (length cs)) n (log_of [] cs)) C.answered;
    }
