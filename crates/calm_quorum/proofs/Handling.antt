-- What deliveries make of the world, block by block.
use Rattle.calm_quorum.proofs.Rounds.{Took, all_of, did, turn}
use Rattle.law_names.proofs.Runs.{Answer, Arrival, Arrives, Deliver, Down, Envelope, Event, Meeting, Monitors, NoMessage, Plain, Ran, Reacts, Replied, Stop, World, after_meeting, answers, arrival, deliveries, grown, happens, in_world, is_marked, last_of, me_of, meeting, meeting_at, messages_of, moved, numbers_delivered, put_at, ran_from, records_after, replies_of, run_from, state_at, unless_stopped}
use Rattle.law_names.proofs.Table.{AllByRecursion, Me, Reaction, Sent, State, Store, apply, filter_map, range_with_len, reaction}
use Rattle.log_model.proofs.Lists.{all_front}
use Rattle.mon_msg.specs.declared.input.Input.TheVariants as input
use Rattle.mon_msg.specs.declared.plan.Sent.TheVariants as sent
use Rattle.quorum_model.proofs.Continuing.{ran_next}
use Rattle.std.proofs.Common.{Bool, Err, List, None, Ok, Option, Result, Some, [], ap, append-nil, append_assoc, arith, cond, eqb, false, length, length-append, ltb, map, refl, slice_get, suc, sym, true, zero, ℕ, ◌++◌, ◌+◌, ◌-◌, ◌<◌, ◌∙◌, ◌∷◌, ◌≡◌, ◌≤◌}
use Rattle.std.proofs.lemmas.Bool.{le-leb, le-ltb, lt-leb, ltb-false}
use Rattle.std.proofs.lemmas.List.{map-append}

-- ---- one monitor

pub record Place : Type 0 where
  pub store : Store
  pub state : Option State

-- what comes of a message, beside what is sent
pub data Said : Type 0 where
  -- a session gets a reply
  Told : Answer → Said
  -- the run stops, there is nobody, or the log grows
  Stopped : Stop → Said
  Lost : Said
  Grew : Said

-- nothing but answers
abbrev pub Fine : Said → Type 0
Fine (Told a) = Unit {0}
Fine (Stopped s) = ⊥
Fine Lost = ⊥
Fine Grew = ⊥

abbrev pub tell : ℕ → Sent → Option Said
tell i (sent.Reply to r) = Some (Told (i, to, r))
tell i (sent.Message to m) = None

-- the store has more versions than the log
abbrev pub grew : List (List ℕ) → Store → List Said
grew log m = cond (ltb (length log) (last_of m)) (Grew ∷ []) []

abbrev pub place : Store → Option State → Place
place m s = record { store = m; state = s }

abbrev pub took : List (List ℕ) → ℕ → Place → Result Reaction Stop → Took Place Envelope Said
took log i p (Ok r) =
    did (place (apply r.transaction p.store) (Some r.state)) (messages_of r.sends)
    (grew log (apply r.transaction p.store) ++ filter_map (tell i) r.sends)
took log i p (Err s) = did p [] (Stopped s ∷ [])

abbrev pub took_by : List (List ℕ) → ℕ → Place → Meeting → Took Place Envelope Said
took_by log i p (Reacts rank came result) = took log i p (unless_stopped p.store result)
took_by log i p Down = did p [] (Lost ∷ [])
took_by log i p NoMessage = did p [] (Lost ∷ [])

abbrev pub takes : Monitors → List (List ℕ) → Arrival → Place → Took Place Envelope Said
takes ms log a p = took_by log a.rank p (meeting a p.store (me_of ms a.rank) (state_at a.rank p.state a.input))

abbrev pub message_arrives : ℕ → Envelope → Arrival
message_arrives i e = record { rank = i; at = 0; input = input.Deliver e.message }

unfoldable pub hears : Monitors → List (List ℕ) → ℕ → Place → Envelope → Took Place Envelope Said
hears ms log i p e = takes ms log (message_arrives i e) p

abbrev pub to_of : Envelope → ℕ
to_of e = e.to

abbrev pub generation : Monitors → List (List ℕ) → List Envelope → (ℕ → Place) → Took (ℕ → Place) Envelope Said
generation ms log = all_of (turn to_of (hears ms log))

-- ---- the world

pub record Shows (log : List (List ℕ)) (S : ℕ → Place) (sent : List Envelope) (told : List Said) (w : World) : Type
    0 where
  pub store : (i : ℕ) → w.store i ≡ (S i).store
  pub state : (i : ℕ) → w.state i ≡ (S i).state
  pub messages : w.messages ≡ sent
  pub entries : w.log ≡ log
  pub said : map Told (answers w) ≡ told

fine_right : (ts us : List Said) → AllByRecursion Fine (ts ++ us) → AllByRecursion Fine us
fine_right [] us h = h
fine_right (t ∷ ts) us h = fine_right ts us h.1

told_are : (event i : ℕ) (m : Store) (xs : List Sent) → map Told
    (map (λ (r : Replied). (r.rank, r.session, r.reply)) (replies_of event i m xs)) ≡ filter_map (tell i) xs
told_are event i m [] = refl
told_are event i m (sent.Reply to r ∷ xs) = ap (λ ts. Told (i, to, r) ∷ ts) (told_are event i m xs)
told_are event i m (sent.Message to x ∷ xs) = told_are event i m xs

not_grown : (log : List (List ℕ)) (m : Store) → AllByRecursion Fine (grew log m) → last_of m ≤ length log
not_grown log m f = by (ltb (length log) (last_of m)) refl f
  where
    by : (b : Bool) → ltb (length log) (last_of m) ≡ b → AllByRecursion Fine (cond b (Grew ∷ []) []) → last_of m ≤ length log
    by true e f = absurd f.0
    by false e f = ltb-false _ _ e

stays : (log : List (List ℕ)) (m : Store) → last_of m ≤ length log → grown log m ≡ log
unfolding grown
stays log m le = by (is_marked m)
  where
    none : last_of m - length log ≡ 0
    none = omega arith

    by : (b : Bool) → cond b log (log ++ records_after m (length log) (last_of m - length log)) ≡ log
    by true = refl
    by false = rw none (append-nil log)

-- nothing grew, and the answers are those
grew_none : (log : List (List ℕ)) (m : Store) (us : List Said) → last_of m ≤ length log → (grew log m ++ us) ≡ us
grew_none log m us le = rw (le-ltb (length log) (last_of m) le) refl

shows_moved : (log : List (List ℕ)) (S : ℕ → Place) (out : List Envelope) (told : List Said) (w : World) (p : Plain)
    (i : ℕ) (r : Reaction) → Shows log S out told w → AllByRecursion Fine (took log i (S i) (Ok r)).done
    → (let t = took log i (S i) (Ok r) in
    Shows log (put_at S i t.st) (out ++ t.out) (told ++ t.done) (moved w p i r))
unfolding moved
shows_moved log S out told w p i r H f = record {
  store = λ j. by_store j (eqb j i);
  state = λ j. by_state j (eqb j i);
  messages = rw (H.messages) refl;
  entries = rw (H.entries, H.store i) (stays log m le);
  said = rw (
    map-append answer w.replied replies,
    map-append Told (map answer w.replied) (map answer replies),
    told_are (suc w.events) i (apply r.transaction (w.store i)) r.sends,
    grew_none log m (filter_map (tell i) r.sends) le,
  ) (rw (H.said) refl);
}
  where
    m : Store
    m = apply r.transaction (S i).store

    answer : Replied → Answer
    answer r = (r.rank, r.session, r.reply)

    replies : List Replied
    replies = replies_of (suc w.events) i (apply r.transaction (w.store i)) r.sends

    le : last_of (apply r.transaction (S i).store) ≤ length log
    le = not_grown log m (all_front Fine (grew log m) _ f)

    by_store : (j : ℕ) (c : Bool) → cond c (apply r.transaction (w.store i)) (w.store j)
        ≡ (cond c (place (apply r.transaction (S i).store) (Some r.state)) (S j)).store
    by_store j true = ap (apply r.transaction) (H.store i)
    by_store j false = H.store j

    by_state : (j : ℕ) (c : Bool) → cond c (Some r.state) (w.state j)
        ≡ (cond c (place (apply r.transaction (S i).store) (Some r.state)) (S j)).state
    by_state j true = refl
    by_state j false = H.state j

-- an event leads to a world that shows this
pub record Comes_to (ms : Monitors) (log : List (List ℕ)) (w : World) (e : Event) (S : ℕ → Place)
    (out : List Envelope) (told : List Said) : Type 0 where
  pub next : World
  pub happened : happens ms w e ≡ Ok next
  pub shows : Shows log S out told next

pub comes : (ms : Monitors) (log : List (List ℕ)) (S : ℕ → Place) (out : List Envelope) (told : List Said)
    (w : World) (p : Plain) (a : Arrival) → Shows log S out told w → arrival w p ≡ Some a
    → AllByRecursion Fine (takes ms log a (S a.rank)).done → (let t = takes ms log a (S a.rank) in
    Comes_to ms log w (Arrives p) (put_at S a.rank t.st) (out ++ t.out) (told ++ t.done))
comes ms log S out told w p a H arrives f = by (me_of ms a.rank) refl (state_at a.rank (S a.rank).state a.input) refl f
  where
    after : (q : Result Reaction Stop) → AllByRecursion Fine (took log a.rank (S a.rank) q).done → (met : Meeting)
        → after_meeting w (Arrives p) met ≡ in_world (moved w p a.rank) q → meeting_at ms w (arrival w p) ≡ met
        → (let t = took log a.rank (S a.rank) q in
        Comes_to ms log w (Arrives p) (put_at S a.rank t.st) (out ++ t.out) (told ++ t.done))
    after (Ok r) f met e is =
        record {
          next = moved w p a.rank r;
          happened = ap (after_meeting w (Arrives p)) is ∙ e;
          shows = shows_moved log S out told w p a.rank r H f;
        }
    after (Err s) f met e is = absurd f.0

    by : (me : Option Me) → me_of ms a.rank ≡ me → (s : Option State) → state_at a.rank (S a.rank).state a.input ≡ s
        → AllByRecursion Fine (took_by log a.rank (S a.rank) (meeting a (S a.rank).store me s)).done
        → (let t = took_by log a.rank (S a.rank) (meeting a (S a.rank).store me s) in
        Comes_to ms log w (Arrives p) (put_at S a.rank t.st) (out ++ t.out) (told ++ t.done))
    by None e s k f = absurd f.0
    by (Some me) e None k f = absurd f.0
    by (Some me) e (Some s) k f =
        let q = reaction me a.at (S a.rank).store s a.input in
        after (unless_stopped (S a.rank).store q) f (Reacts a.rank a.input q) (rw (H.store a.rank) refl)
        (rw arrives (rw (H.store a.rank, H.state a.rank, e, k) refl))

get_at : (old rest : List Envelope) (m : Envelope) → slice_get (old ++ m ∷ rest) (length old) ≡ Some m
get_at [] rest m = refl
get_at (x ∷ old) rest m = get_at old rest m

-- ---- deliveries

-- At most `most` deliveries from message k on: nothing stops them, they deliver `count` messages in order, and the
-- world then shows S, `out` and `told`.
pub record Ends (ms : Monitors) (log : List (List ℕ)) (most k : ℕ) (w : World) (count : ℕ) (S : ℕ → Place)
    (out : List Envelope) (told : List Said) : Type 0 where
  pub last : World
  pub ran : ran_from ms w (deliveries ms most k w) ≡ record { world = last; stop = None }
  pub numbers : numbers_delivered (deliveries ms most k w) ≡ range_with_len k count
  pub shows : Shows log S out told last

after_one : (ms : Monitors) (w next : World) (e : Event) → happens ms w e ≡ Ok next → run_from ms w (e ∷ []) ≡ next
unfolding ran_from
after_one ms w next e h = ap (λ (r : Ran). r.world) (ran_next ms w next e [] h)

next_delivery : (ms : Monitors) (most k : ℕ) (w next : World) → k ≤ length w.messages
    → happens ms w (Arrives (Deliver k 0)) ≡ Ok next
    → deliveries ms (suc most) k w ≡ Arrives (Deliver k 0) ∷ deliveries ms most (suc k) next
unfolding deliveries
next_delivery ms most k w next le h =
    rw (le-leb k (length w.messages) le) (ap (λ (z : World). Arrives (Deliver k 0) ∷ deliveries ms most (suc k) z)
    (after_one ms w next (Arrives (Deliver k 0)) h))

range_more : (k count : ℕ) → range_with_len k (suc count) ≡ k ∷ range_with_len (suc k) count
range_more k count = let z : k + 1 ≡ suc k = omega arith in rw z refl

ends_more : (ms : Monitors) (log : List (List ℕ)) (most k : ℕ) (w next : World) (count : ℕ) (S : ℕ → Place)
    (out : List Envelope) (told : List Said) → k ≤ length w.messages → happens ms w (Arrives (Deliver k 0)) ≡ Ok next
    → Ends ms log most (suc k) next count S out told → Ends ms log (suc most) k w (suc count) S out told
ends_more ms log most k w next count S out told le h E =
    let d = next_delivery ms most k w next le h in
    record {
      last = E.last;
      ran = ap (ran_from ms w) d ∙ ran_next ms w next (Arrives (Deliver k 0)) (deliveries ms most (suc k) next) h ∙ E.ran;
      numbers = ap numbers_delivered d ∙ ap (λ (ks : List ℕ). k ∷ ks) E.numbers ∙ sym (range_more k count);
      shows = E.shows;
    }

ends_none : (ms : Monitors) (log : List (List ℕ)) (most k : ℕ) (w : World) (S : ℕ → Place) (out : List Envelope)
    (told : List Said) → length w.messages < k → Shows log S out told w → Ends ms log most k w 0 S out told
unfolding deliveries ran_from
ends_none ms log zero k w S out told lt H = record { last = w; ran = refl; numbers = refl; shows = H }
ends_none ms log (suc most) k w S out told lt H = record {
  last = w;
  ran = rw (lt-leb k (length w.messages) lt) refl;
  numbers = rw (lt-leb k (length w.messages) lt) refl;
  shows = H;
}

taken : (ms : Monitors) (log : List (List ℕ)) (q : List Envelope) (f count : ℕ) (S U : ℕ → Place)
    (old tail sent : List Envelope) (told said : List Said) (w : World) → AllByRecursion Fine (generation ms log q S).done
    → Shows log S (old ++ (q ++ tail)) told w → ((next : World)
    → (let g = generation ms log q S in Shows log g.st ((old ++ q) ++ (tail ++ g.out)) (told ++ g.done) next)
    → Ends ms log f (suc (length (old ++ q))) next count U sent said)
    → Ends ms log (length q + f) (suc (length old)) w (length q + count) U sent said
unfolding hears
taken ms log [] f count S U old tail sent told said w fine H then_ends =
    let z : 0 + f ≡ f = omega arith in
    let y : 0 + count ≡ count = omega arith in
    rw (z, y) (rw (append-nil old) at (then_ends w (rw (append-nil old, append-nil tail, append-nil told) H)))
taken ms log (m ∷ q) f count S U old tail sent told said w fine H then_ends =
    let t = turn to_of (hears ms log) S m in
    let g = generation ms log q t.st in
    let a : Arrival = message_arrives m.to m in
    let arrives : arrival w (Deliver (suc (length old)) 0) ≡ Some a =
    rw (H.messages) (rw (get_at old (q ++ tail) m) refl) in
    let C : Comes_to ms log w (Arrives (Deliver (suc (length old)) 0)) t.st ((old ++ m ∷ (q ++ tail)) ++ t.out)
    (told ++ t.done) = comes ms log S (old ++ m ∷ (q ++ tail)) told w (Deliver (suc (length old)) 0) a H arrives
    (all_front Fine t.done g.done fine) in
    let c : (old ++ m ∷ (q ++ tail)) ++ t.out ≡ (old ++ m ∷ []) ++ (q ++ (tail ++ t.out)) = simp append_assoc refl in
    let j : (old ++ m ∷ []) ++ q ≡ old ++ m ∷ q = append_assoc old (m ∷ []) q in
    let l : length (old ++ m ∷ []) ≡ suc (length old) = omega (arith, length-append old (m ∷ [])) in
    let z : suc (length q) + f ≡ suc (length q + f) = omega arith in
    let y : suc (length q) + count ≡ suc (length q + count) = omega arith in
    let le : suc (length old) ≤ length w.messages =
    rw (H.messages) (omega (arith, length-append old (m ∷ (q ++ tail)))) in
    let ih : Ends ms log (length q + f) (suc (length (old ++ m ∷ []))) C.next (length q + count) U sent said =
    taken ms log q f count t.st U (old ++ m ∷ []) (tail ++ t.out) sent (told ++ t.done) said C.next
    (fine_right t.done g.done fine) (rw c at C.shows)
    (λ next G.
    rw j (then_ends next (rw (← j, ← append_assoc tail t.out g.out, ← append_assoc told t.done g.done) G))) in
    rw (z, y) (ends_more ms log (length q + f) (suc (length old)) w C.next (length q + count) U sent said le
    C.happened (rw l at ih))

-- The deliveries from S, while the messages q wait, end in T. All that is sent from then on is `after`, and all that is
-- replied is `done`.
abbrev pub Settles : Monitors → List (List ℕ) → (ℕ → Place) → List Envelope → List Envelope → (ℕ → Place)
    → List Said → Type 0
Settles ms log S q after T done =
    (f : ℕ) (old : List Envelope) (told : List Said) (w : World) → length after ≤ f → Shows log S (old ++ q) told w
    → Ends ms log f (suc (length old)) w (length after) T (old ++ after) (told ++ done)

pub settled_is : (ms : Monitors) (log : List (List ℕ)) (S : ℕ → Place) → Settles ms log S [] [] S []
settled_is ms log S f old told w le H =
    ends_none ms log f (suc (length old)) w S (old ++ []) (told ++ [])
    (rw (H.messages, append-nil old) (omega arith)) (rw (append-nil told) H)

pub settles_more : (ms : Monitors) (log : List (List ℕ)) (S T U : ℕ → Place) (q out after : List Envelope)
    (said done : List Said) → AllByRecursion Fine said → generation ms log q S ≡ did T out said
    → Settles ms log T out after U done → Settles ms log S q (q ++ after) U (said ++ done)
settles_more ms log S T U q out after said done nice e s f old told w le H =
    let z : f ≡ length q + (f - length q) = omega (arith, length-append q after) in
    let y : length (q ++ after) ≡ length q + length after = length-append q after in
    let x : (old ++ (q ++ after)) ≡ (old ++ q) ++ after = sym (append_assoc old q after) in
    let v : (told ++ (said ++ done)) ≡ (told ++ said) ++ done = sym (append_assoc told said done) in
    rw (z, y, x, v)
    (taken ms log q (f - length q) (length after) S U old [] ((old ++ q) ++ after) told ((told ++ said) ++ done) w
    (rw e nice) (rw (append-nil q) H)
    (λ next G. s (f - length q) (old ++ q) (told ++ said) next (omega (arith, length-append q after)) (rw e at G)))
