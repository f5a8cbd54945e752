-- Monitors each of whose states is known, and messages that are delivered in order.
use Rattle.law_names.proofs.Runs.{Answer, Arrival, Arrives, Deliver, Envelope, Full, Monitors, Plain, Replied, World, after_meeting, answers, arrival, grown, happens, in_world, meeting, meeting_at, messages_of, most_size, moved, put_at, replies_of, size_of, state_at, unless_stopped}
use Rattle.law_names.proofs.Table.{Course, Input, Me, Sent, State, Store, Which, any_reaction, apply, encoded, filter_map, flat_map, joined, range_with_len, react, reaction_of, readings_of, shared_entries}
use Rattle.mon_msg.specs.declared.input.Input.TheVariants as input
use Rattle.mon_msg.specs.declared.plan.Sent.TheVariants as sent
use Rattle.quorum_model.proofs.Members.{me_is, member_of}
use Rattle.std.proofs.Common.{Err, List, None, Ok, Option, Result, Some, [], ap, append-nil, append_assoc, arith, cond, false, inl, inr, length, length-append, ltb, map, option_map, refl, slice_get, subst, suc, sym, true, zero, ℕ, ◌++◌, ◌+◌, ◌<◌, ◌∙◌, ◌∷◌, ◌≡◌, ◌≤◌, ◌⊎◌}
use Rattle.std.proofs.lemmas.Bool.{cases_eq, eq-eqb, lt-ltb, ne_eqb}
use Rattle.std.proofs.lemmas.List.{map-append}

-- ---- what is replied

abbrev pub answer_in : ℕ → Sent → Option Answer
answer_in i (sent.Reply to r) = Some (i, to, r)
answer_in i (sent.Message to m) = None

abbrev pub answers_in : ℕ → List Sent → List Answer
answers_in i sends = filter_map (answer_in i) sends

abbrev as_answer : Replied → Answer
as_answer r = (r.rank, r.session, r.reply)

replies_are : (event i : ℕ) (m : Store) (sends : List Sent)
    → map as_answer (replies_of event i m sends) ≡ answers_in i sends
replies_are event i m [] = refl
replies_are event i m (sent.Reply to r ∷ sends) = ap (λ (l : List Answer). (i, to, r) ∷ l) (replies_are event i m sends)
replies_are event i m (sent.Message to x ∷ sends) = replies_are event i m sends

-- ---- deliveries

-- the messages k + 1 to j are delivered
pub data Drains (ms : Monitors) : ℕ → World → ℕ → World → Type 0 where
  finished : (k : ℕ) (w : World) → Drains ms k w k w
  delivered : (k : ℕ) (w next : World) (j : ℕ) (last : World) → k < length w.messages
      → happens ms w (Arrives (Deliver (suc k) 0)) ≡ Ok next → Drains ms (suc k) next j last → Drains ms k w j last

pub drains_on : (ms : Monitors) (k : ℕ) (w : World) (j : ℕ) (v : World) (l : ℕ) (last : World) → Drains ms k w j v
    → Drains ms j v l last → Drains ms k w l last
drains_on ms _ _ _ _ l last (finished k w) e = e
drains_on ms _ _ _ _ l last (delivered k w next j v lt h d) e =
    delivered k w next l last lt h (drains_on ms (suc k) next j v l last d e)

-- ---- who stands how

happens_is : (ms : Monitors) (w : World) (p : Plain) (i : ℕ) (lt : ltb i ms.count ≡ true) (came : Input) (s : State)
    (y : Course) → arrival w p ≡ Some (record { rank = i; at = 0; input = came })
    → state_at i (w.state i) came ≡ Some s
    → react (member_of ms i lt) (shared_entries (w.store i)) 0 (readings_of (w.store i)) s came ≡ Ok y
    → ltb most_size (size_of (apply (joined (encoded y.changes)) (w.store i))) ≡ false
    → happens ms w (Arrives p) ≡ Ok (moved w p i (reaction_of y))
happens_is ms w p i lt came s y a c d e =
    ap (λ (o : Option Arrival). after_meeting w (Arrives p) (meeting_at ms w o)) a
    ∙ ap (λ (o : Option Me). after_meeting w (Arrives p)
    (meeting (record { rank = i; at = 0; input = came }) (w.store i) o (state_at i (w.state i) came))) (me_is ms i lt)
    ∙ ap (λ (o : Option State). after_meeting w (Arrives p)
    (meeting (record { rank = i; at = 0; input = came }) (w.store i) (Some (member_of ms i lt)) o)) c
    ∙ ap (λ (r : Result Course Which). in_world (moved w p i) (unless_stopped (w.store i) (any_reaction r))) d
    ∙ ap (λ b. in_world (moved w p i)
    (cond b (Err (Full (size_of (apply (joined (encoded y.changes)) (w.store i))))) (Ok (reaction_of y)))) e

module _ (ms : Monitors) (D : Type 0) (Holds : D → Store → State → Type 0) where
  -- a monitor is up, and its store and its state are as d says
  pub record Is (d : D) (m : Store) (o : Option State) : Type 0 where
    pub state : State
    pub up : o ≡ Some state
    pub holds : Holds d m state

  -- the monitors' states after k messages were delivered, while the messages `waits` wait
  pub record Stands (S : ℕ → D) (k : ℕ) (waits : List Envelope) (log : List (List ℕ)) (told : List Answer)
      (w : World) : Type 0 where
    pub each : (i : ℕ) → i < ms.count → Is (S i) (w.store i) (w.state i)
    pub done : List Envelope
    pub count : length done ≡ k
    pub messages : w.messages ≡ done ++ waits
    pub logged : w.log ≡ log
    pub answered : answers w ≡ told

  -- monitor i reacts to an input: what it sends, what it replies, and what the log is then
  pub record Does (i : ℕ) (lt : ltb i ms.count ≡ true) (m : Store) (s : State) (came : Input) (log : List (List ℕ))
      (d : D) (out : List Envelope) (said : List Answer) (more : List (List ℕ)) : Type 0 where
    pub y : Course
    pub is : react (member_of ms i lt) (shared_entries m) 0 (readings_of m) s came ≡ Ok y
    pub small : ltb most_size (size_of (apply (joined (encoded y.changes)) m)) ≡ false
    pub sends : messages_of y.out ≡ out
    pub tells : answers_in i y.out ≡ said
    pub grows : grown log (apply (joined (encoded y.changes)) m) ≡ more
    pub leaves : Holds d (apply (joined (encoded y.changes)) m) y.state

  -- one event at monitor i, which takes the monitors from the states S to the states T
  pub record One (S T : ℕ → D) (i : ℕ) (came : Input) (log : List (List ℕ)) (out : List Envelope)
      (said : List Answer) (more : List (List ℕ)) : Type 0 where
    pub below : i < ms.count
    pub others : (j : ℕ) → j < ms.count → (j ≡ i → ⊥) → S j ≡ T j
    pub does : (lt : ltb i ms.count ≡ true) (m : Store) (s : State) → Holds (S i) m s
        → Does i lt m s came log (T i) out said more

  module _ (S T : ℕ → D) (i : ℕ) (came : Input) (log : List (List ℕ)) (out : List Envelope) (said : List Answer)
      (more : List (List ℕ)) (O : One S T i came log out said more) where
    -- the world after it
    pub record Moves (p : Plain) (told : List Answer) (w : World) : Type 0 where
      pub next : World
      pub is : happens ms w (Arrives p) ≡ Ok next
      pub each : (j : ℕ) → j < ms.count → Is (T j) (next.store j) (next.state j)
      pub messages : next.messages ≡ w.messages ++ out
      pub logged : next.log ≡ more
      pub answered : answers next ≡ told ++ said

    pub moves : (p : Plain) (w : World) (k : ℕ) (waits : List Envelope) (told : List Answer)
        → Stands S k waits log told w → arrival w p ≡ Some (record { rank = i; at = 0; input = came })
        → state_at i (w.state i) came ≡ w.state i → Moves p told w
    unfolding moved
    moves p w k waits told H a up = record {
      next = moved w p i (reaction_of does.y);
      is = happens_is ms w p i here came at.state does.y a (up ∙ at.up) does.is does.small;
      each = λ j lt. by j lt (cases_eq j i);
      messages = ap (λ (l : List Envelope). w.messages ++ l) does.sends;
      logged = ap (λ (l : List (List ℕ)). grown l after) H.logged ∙ does.grows;
      answered = map-append as_answer w.replied (replies_of (suc w.events) i after does.y.out)
          ∙ (λ q. H.answered q ++ (replies_are (suc w.events) i after does.y.out ∙ does.tells) q);
    }
      where
        here : ltb i ms.count ≡ true
        here = lt-ltb i ms.count O.below

        at : Is (S i) (w.store i) (w.state i)
        at = H.each i O.below

        does : Does i here (w.store i) at.state came log (T i) out said more
        does = O.does here (w.store i) at.state at.holds

        after : Store
        after = apply (joined (encoded does.y.changes)) (w.store i)

        by : (j : ℕ) → j < ms.count → (j ≡ i) ⊎ (j ≡ i → ⊥)
            → Is (T j) (put_at w.store i after j) (put_at w.state i (Some does.y.state) j)
        by j lt (inl e) =
            rw (eq-eqb j i e) (record {
              state = does.y.state;
              up = refl;
              holds = subst (λ (z : ℕ). Holds (T z) after does.y.state) (sym e) does.leaves;
            })
        by j lt (inr ne) =
            rw (ne_eqb j i ne) (subst (λ (d : D). Is d (w.store j) (w.state j)) (O.others j lt ne) (H.each j lt))

  -- ---- one message after the other

  -- at most c messages were delivered after message k, and so the monitors stand
  pub record After (S : ℕ → D) (waits : List Envelope) (log : List (List ℕ)) (told : List Answer) (c k : ℕ)
      (w : World) : Type 0 where
    pub next : World
    pub at : ℕ
    pub few : at ≤ c + k
    pub drains : Drains ms k w at next
    pub stands : Stands S at waits log told next

  pub at_once : (S : ℕ → D) (waits : List Envelope) (log : List (List ℕ)) (told : List Answer) (k : ℕ) (w : World)
      → Stands S k waits log told w → After S waits log told 0 k w
  at_once S waits log told k w H = record { next = w; at = k; few = omega arith; drains = finished k w; stands = H }

  pub and_then : (S T : ℕ → D) (waits further : List Envelope) (log more : List (List ℕ)) (told also : List Answer)
      (c d k : ℕ) (w : World) → After S waits log told c k w
      → ((j : ℕ) (v : World) → Stands S j waits log told v → After T further more also d j v)
      → After T further more also (c + d) k w
  and_then S T waits further log more told also c d k w A h =
      let B = h A.at A.next A.stands in
      record {
        next = B.next;
        at = B.at;
        few = (let a = A.few in let b = B.few in omega arith);
        drains = drains_on ms k w A.at A.next B.at B.next A.drains B.drains;
        stands = B.stands;
      }

  get_at : (done rest : List Envelope) (e : Envelope) → slice_get (done ++ e ∷ rest) (length done) ≡ Some e
  get_at [] rest e = refl
  get_at (x ∷ done) rest e = get_at done rest e

  -- the message that waits first is delivered
  pub one_more : (S T : ℕ → D) (e : Envelope) (log : List (List ℕ)) (out : List Envelope) (said : List Answer)
      (more : List (List ℕ)) → One S T e.to (input.Deliver e.message) log out said more
      → (waits : List Envelope) (told : List Answer) (k : ℕ) (w : World) → Stands S k (e ∷ waits) log told w
      → After T (waits ++ out) more (told ++ said) 1 k w
  one_more S T e log out said more O waits told k w H = record {
    next = M.next;
    at = suc k;
    few = omega arith;
    drains = delivered k w M.next (suc k) M.next within M.is (finished (suc k) M.next);
    stands = record {
      each = M.each;
      done = H.done ++ e ∷ [];
      count = (let l = H.count in omega (arith, length-append H.done (e ∷ [])));
      messages = M.messages
          ∙ ap (λ (l : List Envelope). l ++ out) H.messages
          ∙ append_assoc H.done (e ∷ waits) out
          ∙ sym (append_assoc H.done (e ∷ []) (waits ++ out));
      logged = M.logged;
      answered = M.answered;
    };
  }
    where
      there : slice_get w.messages k ≡ Some e
      there =
          ap (λ (l : List Envelope). slice_get l k) H.messages
          ∙ ap (λ (q : ℕ). slice_get (H.done ++ e ∷ waits) q) (sym H.count)
          ∙ get_at H.done waits e

      within : k < length w.messages
      within =
          (let l = H.count in
          let m = ap (λ (l : List Envelope). length l) H.messages in
          omega (arith, length-append H.done (e ∷ waits)))

      M : Moves S T e.to (input.Deliver e.message) log out said more O (Deliver (suc k) 0) told w
      M = moves S T e.to (input.Deliver e.message) log out said more O (Deliver (suc k) 0) w k (e ∷ waits) told H
          (ap (λ (o : Option Envelope).
          option_map (λ (e : Envelope). record { rank = e.to; at = 0; input = input.Deliver e.message }) o)
          there) refl

  -- a round: message k waits after message k - 1, and leads from how the monitors are at k to how they are at k + 1
  pub round : (f : ℕ → Envelope) (g : ℕ → List Envelope) (T : ℕ → ℕ → D) (log : List (List ℕ)) (told : List Answer)
      (c a b : ℕ) → a + c ≡ b
      → ((k : ℕ) → a ≤ k → k < b → One (T k) (T (suc k)) (f k).to (input.Deliver (f k).message) log (g k) [] log)
      → (waits : List Envelope) (k : ℕ) (w : World) → Stands (T a) k (map f (range_with_len a c) ++ waits) log told w
      → After (T b) (waits ++ flat_map g (range_with_len a c)) log told c k w
  round f g T log told zero a b e h waits k w H =
      let q : a ≡ b = omega arith in
      subst (λ (z : ℕ). After (T z) (waits ++ []) log told 0 k w) q
      (subst (λ (l : List Envelope). After (T a) l log told 0 k w) (sym (append-nil waits))
      (at_once (T a) waits log told k w H))
  round f g T log told (suc c) a b e h waits k w H =
      let next : a + 1 ≡ suc a = omega arith in
      let first = one_more (T a) (T (suc a)) (f a) log (g a) [] log (h a (omega arith) (omega arith))
      (map f (range_with_len (a + 1) c) ++ waits) told k w H in
      let one : After (T (a + 1)) (map f (range_with_len (a + 1) c) ++ (waits ++ g a)) log told 1 k w =
      subst (λ (z : ℕ). After (T z) (map f (range_with_len (a + 1) c) ++ (waits ++ g a)) log told 1 k w) (sym next)
      (subst
      (λ (l : List Answer). After (T (suc a)) (map f (range_with_len (a + 1) c) ++ (waits ++ g a)) log l 1 k w)
      (append-nil told)
      (subst (λ (l : List Envelope). After (T (suc a)) l log (told ++ []) 1 k w)
      (append_assoc (map f (range_with_len (a + 1) c)) waits (g a)) first)) in
      let all = and_then (T (a + 1)) (T b) _ _ log log told told 1 c k w one
      (λ j v K.
      round f g T log told c (a + 1) b (omega arith) (λ i lo hi. h i (omega arith) hi) (waits ++ g a) j v K) in
      let same : 1 + c ≡ suc c = omega arith in
      subst (λ (l : List Envelope). After (T b) l log told (suc c) k w)
      (append_assoc waits (g a) (flat_map g (range_with_len (a + 1) c)))
      (subst (λ (z : ℕ). After (T b) ((waits ++ g a) ++ flat_map g (range_with_len (a + 1) c)) log told z k w) same all)
