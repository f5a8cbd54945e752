-- What is sent to each monitor, as blocks of messages.
use Rattle.calm_quorum.proofs.Handling.{tell}
use Rattle.calm_quorum.proofs.Rounds.{flat}
use Rattle.calm_quorum.proofs.States.{says}
use Rattle.law_names.proofs.Runs.{Envelope, messages_of}
use Rattle.law_names.proofs.Table.{Body, Me, filter_map, message_to, range_with_len}
use Rattle.std.proofs.Common.{Bool, List, [], ap, append-nil, append_assoc, arith, cond, eqb, false, filter, length, length-append, map, not, refl, suc, sym, true, zero, ℕ, ◌&&◌, ◌*◌, ◌++◌, ◌+◌, ◌<◌, ◌∙◌, ◌∷◌, ◌≡◌, ◌≤◌}
use Rattle.std.proofs.Math.Nat.{suc-mul}

-- the lists b a to b (a + n - 1) joined, from the first one on
abbrev front : {A : Type 0} → ℕ → ℕ → (ℕ → List A) → List A
front a zero b = []
front a (suc n) b = b a ++ front (a + 1) n b

front_end : {A : Type 0} (a n : ℕ) (b : ℕ → List A) → front a (suc n) b ≡ front a n b ++ b (a + n)
front_end a zero b = let z : a + 0 ≡ a = omega arith in rw z (append-nil (b a))
front_end a (suc n) b =
    let z : (a + 1) + n ≡ a + suc n = omega arith in
    let ih = front_end (a + 1) n b in
    rw z at (ap (λ (xs : List _). b a ++ xs) ih ∙ sym (append_assoc (b a) (front (a + 1) n b) (b ((a + 1) + n))))

pub flat_front : {A : Type 0} (n : ℕ) (b : ℕ → List A) → front 0 n b ≡ flat n b
flat_front zero b = refl
flat_front (suc n) b =
    let z : 0 + n ≡ n = omega arith in
    front_end 0 n b ∙ rw (flat_front n b, z) refl

abbrev pub env : (n i k e : ℕ) → Body → Envelope
env n i k e b = record { to = k; message = says n i e b }

-- the message to each of n ranks in q but i
abbrev pub to_each : ℕ → (ℕ → Bool) → ℕ → ℕ → Body → List Envelope
to_each n q i e b = flat n (λ k. cond (q k && not (eqb k i)) (env n i k e b ∷ []) [])

abbrev pub everyone : ℕ → Bool
everyone k = true

-- a message from each of the others to i
abbrev pub from_each : ℕ → ℕ → ℕ → Body → List Envelope
from_each n i e b = flat n (λ k. cond (not (eqb k i)) (env n k i e b ∷ []) [])

sent_front : (me : Me) (e : ℕ) (b : Body) (p : ℕ → Bool) (a n : ℕ) → messages_of
    (map (message_to me e b) (filter p (range_with_len a n)))
    ≡ front a n (λ k. cond (p k) (env me.member.monitors me.member.rank k e b ∷ []) [])
sent_front me e b p a zero = refl
sent_front me e b p a (suc n) = by (p a) (sent_front me e b p (a + 1) n)
  where
    rest : List Envelope
    rest = front (a + 1) n (λ k. cond (p k) (env me.member.monitors me.member.rank k e b ∷ []) [])

    by : (c : Bool) → messages_of (map (message_to me e b) (filter p (range_with_len (a + 1) n))) ≡ rest
        → messages_of (map (message_to me e b)
        (cond c (a ∷ filter p (range_with_len (a + 1) n)) (filter p (range_with_len (a + 1) n))))
        ≡ (cond c (env me.member.monitors me.member.rank a e b ∷ []) [] ++ rest)
    by true h = ap (λ xs. env me.member.monitors me.member.rank a e b ∷ xs) h
    by false h = h

pub sent_each : (me : Me) (e : ℕ) (b : Body) (p : ℕ → Bool) (n : ℕ) → messages_of
    (map (message_to me e b) (filter p (range_with_len 0 n)))
    ≡ flat n (λ k. cond (p k) (env me.member.monitors me.member.rank k e b ∷ []) [])
sent_each me e b p n = sent_front me e b p 0 n ∙ flat_front n _

-- messages carry no session's reply
pub none_told : (i : ℕ) (me : Me) (e : ℕ) (b : Body) (ks : List ℕ)
    → filter_map (tell i) (map (message_to me e b) ks) ≡ []
none_told i me e b [] = refl
none_told i me e b (k ∷ ks) = none_told i me e b ks

-- ---- sizes

pub length_flat : {A : Type 0} (n most : ℕ) (b : ℕ → List A) → ((k : ℕ) → k < n → length (b k) ≤ most)
    → length (flat n b) ≤ n * most
length_flat zero most b h = omega arith
length_flat (suc n) most b h =
    let ih = length_flat n most b (λ k lt. h k (omega arith)) in
    let here = h n (omega arith) in
    rw (suc-mul n most) (omega (arith, length-append (flat n b) (b n)))

length_if : {A : Type 0} (c : Bool) (m : A) → length (cond c (m ∷ []) []) ≤ 1
length_if true m = omega arith
length_if false m = omega arith

pub length_each : (n i e : ℕ) (q : ℕ → Bool) (b : Body) → length (to_each n q i e b) ≤ n * 1
length_each n i e q b = length_flat n 1 _ (λ k lt. length_if (q k && not (eqb k i)) (env n i k e b))

pub length_from : (n i e : ℕ) (b : Body) → length (from_each n i e b) ≤ n * 1
length_from n i e b = length_flat n 1 _ (λ k lt. length_if (not (eqb k i)) (env n k i e b))
