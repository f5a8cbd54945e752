-- Options, messages, and what is under way.
use Rattle.law_names.proofs.Runs.{Envelope, message_at, messages_of}
use Rattle.law_names.proofs.Table.{AllByRecursion, Body, Message, Sent, enumerate_from}
use Rattle.mon_msg.specs.declared.plan.Sent.TheVariants as sent
use Rattle.mon_wire.specs.declared.body.Body.TheVariants as body
use Rattle.quorum_stays.proofs.UnderWay.{numbers}
use Rattle.quorum_timed.specs.Calls.{IsCall}
use Rattle.quorum_timed.specs.Timed.{Owed, owed_by}
use Rattle.quorum_walk.proofs.Lists.{Among}
use Rattle.std.proofs.Common.{Bool, IfSome, IsSomeAnd, List, None, Option, Some, [], ap, arith, cond, eqb, false, filter, inl, inr, length, map, refl, slice_get, subst, suc, sym, true, zero, ℕ, ◌&&◌, ◌++◌, ◌+◌, ◌<◌, ◌∙◌, ◌∷◌, ◌≡◌, ◌≤◌, ◌⊎◌}
use Rattle.std.proofs.lemmas.Bool.{and_from, eq-eqb, false≢true}
use Rattle.table_walk.proofs.Lists.{all_get}
use Rattle.timed_election.specs.Election.{ArrivesBy}

-- ---- options

pub opened : {A : Type 0} (P : A → Type 0) (o : Option A) → IsSomeAnd o P → (a : A) × (o ≡ Some a) × P a
opened P None k = absurd k
opened P (Some a) k = (a, refl, k)

pub closed : {A : Type 0} (P : A → Type 0) (o : Option A) (a : A) → o ≡ Some a → P a → IsSomeAnd o P
closed {A = A} P o a e k = subst (λ (z : Option A). IsSomeAnd z P) (sym e) k

-- ---- messages

-- a message is an old one or a new one
pub old_or_new : (old es : List Envelope) (k : ℕ) (m : Envelope) → message_at (old ++ es) k ≡ Some m → (message_at old k ≡ Some m) ⊎ ((d : ℕ) × (slice_get es d ≡ Some m))
old_or_new old es zero m there = absurd cc
old_or_new old es (suc k) m there = by old k there
  where
    by : (xs : List Envelope) (k : ℕ) → slice_get (xs ++ es) k ≡ Some m → (slice_get xs k ≡ Some m) ⊎ ((d : ℕ) × (slice_get es d ≡ Some m))
    by [] k there = inr (k, there)
    by (x ∷ xs) zero there = inl there
    by (x ∷ xs) (suc k) there = by xs k there

pub is_old : (old : List Envelope) (k : ℕ) (m : Envelope) → message_at old k ≡ Some m → k ≤ length old
is_old old zero m there = omega arith
is_old old (suc k) m there = let l = by old k there in omega arith
  where
    by : (xs : List Envelope) (k : ℕ) → slice_get xs k ≡ Some m → k < length xs
    by [] k there = absurd cc
    by (x ∷ xs) zero there = omega arith
    by (x ∷ xs) (suc k) there = let l = by xs k there in omega arith

-- a message is the one that has these parts
pub letter_is : (z : Message) (f n e : ℕ) (b : Body) → z.from ≡ f → z.monitors ≡ n → z.epoch ≡ e → z.body ≡ b → z ≡ record { from = f; monitors = n; epoch = e; body = b }
letter_is z f n e b from monitors epoch says =
    ap (λ (k : ℕ). record z { from = k }) from
    ∙ ap (λ (k : ℕ). record z { from = f; monitors = k }) monitors
    ∙ ap (λ (k : ℕ). record z { from = f; monitors = n; epoch = k }) epoch
    ∙ ap (λ (k : Body). record z { from = f; monitors = n; epoch = e; body = k }) says

-- the message of an envelope
abbrev pub message_in : Message → Option Envelope → Message
message_in z None = z
message_in z (Some m) = m.message

abbrev pub one : Envelope → List Envelope
one m = m ∷ []

pub is_call : (b : Body) → IsCall b ⊎ (IsCall b → ⊥)
is_call (body.Propose table) = inl tt
is_call other = inr (λ k. k)

-- ---- what is under way

pub arrives_more : (by : ℕ) (P Q : Owed → Type 0) → ((o : Owed) → P o → Q o) → (os more : List Owed) → ArrivesBy by P os → ArrivesBy by Q (os ++ more)
arrives_more by P Q f [] more k = absurd k
arrives_more by P Q f (o ∷ os) more k = (k.0, elim k.1 [ inl p ↦ inl (f o p) | inr later ↦ inr (arrives_more by P Q f os more later) ])

pub arrives_last : (by : ℕ) (P : Owed → Type 0) (os : List Owed) (o : Owed) → AllByRecursion (λ z. z.by ≤ by) os → o.by ≤ by → P o → ArrivesBy by P (os ++ o ∷ [])
arrives_last by P [] o all le k = (le, inl k)
arrives_last by P (z ∷ os) o all le k = (all.0, inr (arrives_last by P os o all.1 le k))

pub at_place : {A : Type 0} (P : A → Type 0) (xs : List A) (d : ℕ) (x : A) → AllByRecursion P xs → slice_get xs d ≡ Some x → P x
at_place {A = A} P xs d x all there = subst (λ (o : Option A). IfSome o P) there (all_get P xs d all)

abbrev envelope_in : Envelope → Sent → Envelope
envelope_in z (sent.Message to m) = record { to = to; message = m }
envelope_in z (sent.Reply to r) = z

-- a list has a place for each of its elements
pub place_of : {A : Type 0} (x : A) (xs : List A) → Among x xs → (d : ℕ) × (slice_get xs d ≡ Some x)
place_of x [] a = absurd a
place_of x (y ∷ ys) (inl e) = (0, ap Some (sym e))
place_of x (y ∷ ys) (inr o) = let k = place_of x ys o in (suc k.0, k.1)

-- a message that is sent has an envelope
pub among_sent : (to : ℕ) (m : Message) (sends : List Sent) → Among (sent.Message to m) sends → Among (record { to = to; message = m }) (messages_of sends)
among_sent to m [] a = absurd a
among_sent to m (sent.Reply s r ∷ sends) (inl e) = absurd cc
among_sent to m (sent.Reply s r ∷ sends) (inr o) = among_sent to m sends o
among_sent to m (sent.Message k x ∷ sends) (inl e) = inl (ap (envelope_in (record { to = to; message = m })) e)
among_sent to m (sent.Message k x ∷ sends) (inr o) = inr (among_sent to m sends o)

pub all_sent : (P : Sent → Type 0) (Q : Envelope → Type 0) → ((to : ℕ) (m : Message) → P (sent.Message to m) → Q (record { to = to; message = m })) → (out : List Sent) → AllByRecursion P out → AllByRecursion Q (messages_of out)
all_sent P Q f [] k = tt
all_sent P Q f (sent.Message to m ∷ out) k = (f to m k.0, all_sent P Q f out k.1)
all_sent P Q f (sent.Reply to r ∷ out) k = all_sent P Q f out k.1

pub arrives_after : (by : ℕ) (P : Owed → Type 0) (os more : List Owed) → AllByRecursion (λ o. o.by ≤ by) os → ArrivesBy by P more → ArrivesBy by P (os ++ more)
arrives_after by P [] more all a = a
arrives_after by P (o ∷ os) more all a = (all.0, inr (arrives_after by P os more all.1 a))

-- a new message arrives by then
pub arrives_new : (by : ℕ) (P : Owed → Type 0) (f i k : ℕ) (es : List Envelope) (d : ℕ) (m : Envelope) → slice_get es d ≡ Some m → m.message.from ≡ f → m.to ≡ i → P (record { number = k + d; by = by }) → ArrivesBy by P (owed_by by (numbers f i k es))
arrives_new by P f i k [] d m there from to p = absurd cc
arrives_new by P f i k (e ∷ es) zero m there from to p =
    let same : e ≡ m = cc in
    let number : k + 0 ≡ k = omega arith in
    here (eqb e.message.from f && eqb e.to i) (and_from (eqb e.message.from f) (eqb e.to i) (eq-eqb e.message.from f (ap (λ (z : Envelope). z.message.from) same ∙ from)) (eq-eqb e.to i (ap (λ (z : Envelope). z.to) same ∙ to)))
    (subst (λ (z : ℕ). P (record { number = z; by = by })) number p)
  where
    here : (b : Bool) → b ≡ true → P (record { number = k; by = by })
        → ArrivesBy by P (owed_by by (map (λ m. m.0) (cond b ((k, e) ∷ filter (λ m. eqb m.1.message.from f && eqb m.1.to i) (enumerate_from (k + 1) es)) (filter (λ m. eqb m.1.message.from f && eqb m.1.to i) (enumerate_from (k + 1) es)))))
    here true t p = (omega arith, inl p)
    here false t p = absurd (false≢true t)
arrives_new by P f i k (e ∷ es) (suc d) m there from to p =
    let next : k + suc d ≡ k + 1 + d = omega arith in
    either (eqb e.message.from f && eqb e.to i) (arrives_new by P f i (k + 1) es d m there from to (subst (λ (z : ℕ). P (record { number = z; by = by })) next p))
  where
    either : (b : Bool) → ArrivesBy by P (owed_by by (numbers f i (k + 1) es))
        → ArrivesBy by P (owed_by by (map (λ m. m.0) (cond b ((k, e) ∷ filter (λ m. eqb m.1.message.from f && eqb m.1.to i) (enumerate_from (k + 1) es)) (filter (λ m. eqb m.1.message.from f && eqb m.1.to i) (enumerate_from (k + 1) es)))))
    either true a = (omega arith, inr a)
    either false a = a
