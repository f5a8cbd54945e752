-- Rounds of messages: for any machine whose monitors take one message at a time.
use Rattle.law_names.proofs.Runs.{put_at}
use Rattle.law_names.proofs.Table.{AllByRecursion}
use Rattle.log_model.proofs.Lists.{all_append}
use Rattle.std.proofs.Common.{Bool, List, [], ap, append-nil, append_assoc, arith, cond, eqb, false, inl, inr, leb, ltb, not, refl, subst, suc, sym, true, zero, ℕ, ◌&&◌, ◌++◌, ◌<◌, ◌∙◌, ◌∷◌, ◌≡◌, ◌⊎◌}
use Rattle.std.proofs.lemmas.Bool.{cases_eq, cases_lt, cases_order, cond_both, eq-eqb, eqb-true, false≢true, le-leb, le-ltb, leb-true, lt-leb, lt-ltb, ne_eqb}

-- b 0 to b (k - 1), joined
abbrev pub flat : {A : Type 0} → ℕ → (ℕ → List A) → List A
flat zero b = []
flat (suc k) b = flat k b ++ b k

-- the state after one or more inputs, the messages sent, and the replies
pub record Took (L M R : Type 0) : Type 0 where
  pub st : L
  pub out : List M
  pub done : List R

abbrev pub did : {L M R : Type 0} → L → List M → List R → Took L M R
did l o r = record { st = l; out = o; done = r }

-- first a, and then b from the state after a
abbrev pub chain : {L M R : Type 0} → Took L M R → (L → Took L M R) → Took L M R
chain a b = record { st = (b a.st).st; out = a.out ++ (b a.st).out; done = a.done ++ (b a.st).done }

-- the messages of a block, one after another
abbrev pub all_of : {L M R : Type 0} → (L → M → Took L M R) → List M → L → Took L M R
all_of r [] l = did l [] []
all_of r (m ∷ ms) l = chain (r l m) (all_of r ms)

pub all_of-append : {L M R : Type 0} (r : L → M → Took L M R) (xs ys : List M) (l : L)
    → all_of r (xs ++ ys) l ≡ chain (all_of r xs l) (all_of r ys)
all_of-append r [] ys l = refl
all_of-append r (m ∷ ms) ys l =
    let e = all_of-append r ms ys (r l m).st in
    rw (e, append_assoc, append_assoc) refl

-- ---- a round

-- k blocks, each of which takes the state S k to S (suc k)
pub round : {L M R : Type 0} (r : L → M → Took L M R) (n : ℕ) (b : ℕ → List M) (S : ℕ → L) (o : ℕ → List M)
    (d : ℕ → List R) → ((k : ℕ) → k < n → all_of r (b k) (S k) ≡ did (S (suc k)) (o k) (d k))
    → all_of r (flat n b) (S 0) ≡ did (S n) (flat n o) (flat n d)
round r zero b S o d h = refl
round r (suc k) b S o d h =
    let e = round r k b S o d (λ j lt. h j (omega arith)) in
    all_of-append r (flat k b) (b k) (S 0) ∙ rw e (rw (h k (omega arith)) refl)

-- ---- all monitors

-- one monitor takes its message
abbrev pub turn : {L M R : Type 0} → (M → ℕ) → (ℕ → L → M → Took L M R) → (ℕ → L) → M → Took (ℕ → L) M R
turn to r S m = let t = r (to m) (S (to m)) m in did (put_at S (to m) t.st) t.out t.done

pub all_flat : {A : Type 0} (P : A → Type 0) (n : ℕ) (b : ℕ → List A) → ((k : ℕ) → k < n → AllByRecursion P (b k))
    → AllByRecursion P (flat n b)
all_flat P zero b h = tt
all_flat P (suc k) b h =
    all_append P (flat k b) (b k) (all_flat P k b (λ j lt. h j (omega arith))) (h k (omega arith))

-- equal at each rank is equal
pub same_state : {A : Type 0} (f g : ℕ → A) → ((j : ℕ) → f j ≡ g j) → f ≡ g
same_state f g h = λ i j. h j i

pub put_put : {A : Type 0} (S : ℕ → A) (i : ℕ) (a b : A) → put_at (put_at S i a) i b ≡ put_at S i b
put_put S i a b = same_state _ _ (λ j. by j (eqb j i))
  where
    by : (j : ℕ) (c : Bool) → cond c b (cond c a (S j)) ≡ cond c b (S j)
    by j true = refl
    by j false = refl

pub put_here : {A : Type 0} (S : ℕ → A) (i : ℕ) (a : A) → put_at S i a i ≡ a
put_here S i a = rw (eq-eqb i i refl) refl

pub put_same : {A : Type 0} (S : ℕ → A) (i : ℕ) → put_at S i (S i) ≡ S
put_same S i = same_state _ _ (λ j. by j (eqb j i) refl)
  where
    by : (j : ℕ) (c : Bool) → eqb j i ≡ c → cond c (S i) (S j) ≡ S j
    by j true e = ap S (sym (eqb-true j i e))
    by j false e = refl

-- a block that goes to one monitor is that monitor's alone
pub own : {L M R : Type 0} (to : M → ℕ) (r : ℕ → L → M → Took L M R) (i : ℕ) (ms : List M) (S : ℕ → L)
    → AllByRecursion (λ m. to m ≡ i) ms
    → all_of (turn to r) ms S ≡ (let t = all_of (r i) ms (S i) in did (put_at S i t.st) t.out t.done)
own to r i [] S h = rw (put_same S i) refl
own to r i (m ∷ ms) S h =
    let a = (r i (S i) m).st in
    rw (h.0) (rw (own to r i ms (put_at S i a) h.1)
    (rw (put_here S i a) (rw (put_put S i a (all_of (r i) ms a).st) refl)))

-- ---- a broadcast

-- block k goes to monitor k, which goes from B k to A k
abbrev pub first_of_them : {A : Type 0} → ℕ → (ℕ → A) → (ℕ → A) → ℕ → A
first_of_them n A B j = cond (ltb j n) (A j) (B j)

pub mixed_none : {X : Type 0} (A B : ℕ → X) → first_of_them 0 A B ≡ B
mixed_none A B = same_state _ _ (λ j. rw (le-ltb j 0 (omega arith)) refl)

pub mixed_more : {X : Type 0} (A B : ℕ → X) (k : ℕ) → put_at (first_of_them k A B) k (A k) ≡ first_of_them (suc k) A B
mixed_more A B k = same_state _ _ (λ j. by j (cases_order j k))
  where
    by : (j : ℕ) → (j ≡ k) ⊎ ((j < k) ⊎ (k < j))
        → cond (eqb j k) (A k) (cond (ltb j k) (A j) (B j)) ≡ cond (ltb j (suc k)) (A j) (B j)
    by j (inl e) = rw (eq-eqb j k e, lt-ltb j (suc k) (omega arith)) (ap A (sym e))
    by j (inr (inl lt)) = rw (ne_eqb j k (λ e. omega arith), lt-ltb j k lt, lt-ltb j (suc k) (omega arith)) refl
    by j (inr (inr gt)) =
        rw (ne_eqb j k (λ e. omega arith), le-ltb j k (omega arith), le-ltb j (suc k) (omega arith)) refl

pub spread : {L M R : Type 0} (to : M → ℕ) (r : ℕ → L → M → Took L M R) (n : ℕ) (b : ℕ → List M) (A B : ℕ → L)
    (o : ℕ → List M) (d : ℕ → List R) → ((k : ℕ) → k < n → AllByRecursion (λ m. to m ≡ k) (b k))
    → ((k : ℕ) → k < n → all_of (r k) (b k) (B k) ≡ did (A k) (o k) (d k))
    → all_of (turn to r) (flat n b) B ≡ did (first_of_them n A B) (flat n o) (flat n d)
spread to r n b A B o d e h = rw (mixed_none A B) at (round (turn to r) n b (λ k. first_of_them k A B) o d step)
  where
    step : (k : ℕ) → k < n
        → all_of (turn to r) (b k) (first_of_them k A B) ≡ did (first_of_them (suc k) A B) (o k) (d k)
    step k lt =
        let f = first_of_them k A B in
        let here : f k ≡ B k = rw (le-ltb k k (omega arith)) refl in
        own to r k (b k) f (e k lt) ∙ rw here (rw (h k lt) (rw (mixed_more A B k) refl))

-- ---- a gathering

-- the whole block goes to monitor i
pub gather : {L M R : Type 0} (to : M → ℕ) (r : ℕ → L → M → Took L M R) (i : ℕ) (ms : List M) (S : ℕ → L) (a : L)
    (o : List M) (d : List R) → AllByRecursion (λ m. to m ≡ i) ms → all_of (r i) ms (S i) ≡ did a o d
    → all_of (turn to r) ms S ≡ did (put_at S i a) o d
gather to r i ms S a o d e h = own to r i ms S e ∙ rw h refl

-- the item of a list at the one step at which p becomes true
abbrev pub when_first : {A : Type 0} → (ℕ → Bool) → List A → ℕ → List A
when_first p x k = cond (not (p k) && p (suc k)) x []

-- p k is false up to some step, and true from there on
pub record Rises (n : ℕ) (p : ℕ → Bool) : Type 0 where
  pub low : p 0 ≡ false
  pub up : (k : ℕ) → k < n → p k ≡ true → p (suc k) ≡ true
  pub high : p n ≡ true

flat_when : {A : Type 0} (p : ℕ → Bool) (x : List A) (n : ℕ) → p 0 ≡ false
    → ((k : ℕ) → k < n → p k ≡ true → p (suc k) ≡ true) → flat n (when_first p x) ≡ cond (p n) x []
flat_when p x zero z up = rw z refl
flat_when p x (suc k) z up = rw (flat_when p x k z (λ j lt. up j (omega arith))) (by (p k) refl (p (suc k)) refl)
  where
    by : (a : Bool) → p k ≡ a → (b : Bool) → p (suc k) ≡ b → (cond a x [] ++ cond (not a && b) x []) ≡ cond b x []
    by true e true f = append-nil x
    by true e false f = absurd (false≢true (sym f ∙ up k (omega arith) e))
    by false e true f = refl
    by false e false f = refl

-- ---- a threshold

-- One monitor waits, in the state W k after k blocks, until p is true. It is then in the state Z, and has sent x and
-- replied y.
pub threshold : {L M R : Type 0} (r : L → M → Took L M R) (n : ℕ) (b : ℕ → List M) (p : ℕ → Bool) (W : ℕ → L)
    (Z : L) (x : List M) (y : List R) → Rises n p
    → ((k : ℕ) → k < n → p k ≡ false → all_of r (b k) (W k) ≡ cond (p (suc k)) (did Z x y) (did (W (suc k)) [] []))
    → ((k : ℕ) → k < n → p k ≡ true → all_of r (b k) Z ≡ did Z [] []) → all_of r (flat n b) (W 0) ≡ did Z x y
threshold r n b p W Z x y R h g =
    let a : cond (p 0) Z (W 0) ≡ W 0 = rw (R.low) refl in
    let e = round r n b (λ k. cond (p k) Z (W k)) (when_first p x) (when_first p y) step in
    let c = rw a at e in
    c ∙ rw (flat_when p x n R.low R.up, flat_when p y n R.low R.up) (rw (R.high) refl)
  where
    by : (k : ℕ) → k < n → (u : Bool) → p k ≡ u → (v : Bool) → p (suc k) ≡ v → all_of r (b k) (cond u Z (W k))
        ≡ did (cond v Z (W (suc k))) (cond (not u && v) x []) (cond (not u && v) y [])
    by k lt true e true f = g k lt e
    by k lt true e false f = absurd (false≢true (sym f ∙ R.up k lt e))
    by k lt false e true f = h k lt e ∙ rw f refl
    by k lt false e false f = h k lt e ∙ rw f refl

    step : (k : ℕ) → k < n → all_of r (b k) (cond (p k) Z (W k))
        ≡ did (cond (p (suc k)) Z (W (suc k))) (when_first p x k) (when_first p y k)
    step k lt = by k lt (p k) refl (p (suc k)) refl

-- the same with "all n are in" for p
pub until_last : {L M R : Type 0} (r : L → M → Took L M R) (n : ℕ) (b : ℕ → List M) (W : ℕ → L) (Z : L) (x : List M)
    (y : List R) → 0 < n → ((k : ℕ) → suc k < n → all_of r (b k) (W k) ≡ did (W (suc k)) [] [])
    → ((k : ℕ) → suc k ≡ n → all_of r (b k) (W k) ≡ did Z x y) → all_of r (flat n b) (W 0) ≡ did Z x y
until_last r n b W Z x y pos h g =
    threshold r n b (leb n) W Z x y (record {
      low = lt-leb n 0 pos;
      up = λ k lt e. absurd (let s = leb-true n k e in omega arith);
      high = le-leb n n (omega arith);
    }) step (λ k lt e. absurd (let s = leb-true n k e in omega arith))
  where
    step : (k : ℕ) → k < n → leb n k ≡ false
        → all_of r (b k) (W k) ≡ cond (leb n (suc k)) (did Z x y) (did (W (suc k)) [] [])
    step k lt e =
        elim (cases_lt (suc k) n) [
          | inl more ↦ rw (lt-leb n (suc k) more) (h k more)
          | inr last ↦ rw
              (le-leb n (suc k) last) (g k (omega arith))
        ]

pub flat_none : {A : Type 0} (n : ℕ) → flat {A = A} n (λ _. []) ≡ []
flat_none zero = refl
flat_none {A = A} (suc k) = rw (flat_none {A = A} k) refl

pub single : {L M R : Type 0} (r : L → M → Took L M R) (m : M) (l : L) → all_of r (m ∷ []) l ≡ r l m
single r m l = rw (append-nil (r l m).out, append-nil (r l m).done) refl

-- a team: the first n monitors are in the states A, and all others are idle
abbrev pub team : {L : Type 0} → L → ℕ → (ℕ → L) → ℕ → L
team idle n A = first_of_them n A (λ _. idle)

pub at_team : {L : Type 0} (idle : L) (n : ℕ) (A : ℕ → L) (k : ℕ) → k < n → team idle n A k ≡ A k
at_team idle n A k lt = rw (lt-ltb k n lt) refl

team_again : {L : Type 0} (idle : L) (n : ℕ) (A B : ℕ → L) → first_of_them n A (team idle n B) ≡ team idle n A
team_again idle n A B = same_state _ _ (λ j. by j (ltb j n))
  where
    by : (j : ℕ) (c : Bool) → cond c (A j) (cond c (B j) idle) ≡ cond c (A j) idle
    by j true = refl
    by j false = refl

pub put_team : {L : Type 0} (idle : L) (n : ℕ) (A : ℕ → L) (i : ℕ) (a : L) → i < n
    → put_at (team idle n A) i a ≡ team idle n (put_at A i a)
put_team idle n A i a lt = same_state _ _ (λ j. by j (cases_eq j i))
  where
    by : (j : ℕ) → (j ≡ i) ⊎ (j ≡ i → ⊥)
        → cond (eqb j i) a (cond (ltb j n) (A j) idle) ≡ cond (ltb j n) (cond (eqb j i) a (A j)) idle
    by j (inl e) = rw (eq-eqb j i e, lt-ltb j n (omega arith)) refl
    by j (inr ne) = rw (ne_eqb j i ne) refl

-- each of the team takes its own block
pub all_take : {L M R : Type 0} (to : M → ℕ) (r : ℕ → L → M → Took L M R) (idle : L) (n : ℕ) (b : ℕ → List M)
    (A B : ℕ → L) (o : ℕ → List M) → ((k : ℕ) → k < n → AllByRecursion (λ m. to m ≡ k) (b k))
    → ((k : ℕ) → k < n → all_of (r k) (b k) (B k) ≡ did (A k) (o k) [])
    → all_of (turn to r) (flat n b) (team idle n B) ≡ did (team idle n A) (flat n o) []
all_take {R = R} to r idle n b A B o e h =
    spread to r n b A (team idle n B) o (λ _. []) e (λ k lt. rw (at_team idle n B k lt) (h k lt))
    ∙ rw (team_again idle n A B, flat_none {A = R} n) refl

-- a leader, rank 0, and the others
abbrev pub crew : {L : Type 0} → L → (ℕ → L) → ℕ → L
crew l P j = cond (eqb j 0) l (P j)

-- the leader takes the block
pub leader_takes : {L M R : Type 0} (to : M → ℕ) (r : ℕ → L → M → Took L M R) (idle : L) (n : ℕ) (ms : List M)
    (l a : L) (P : ℕ → L) (o : List M) (d : List R) → 0 < n → AllByRecursion (λ m. to m ≡ 0) ms
    → all_of (r 0) ms l ≡ did a o d
    → all_of (turn to r) ms (team idle n (crew l P)) ≡ did (team idle n (crew a P)) o d
leader_takes to r idle n ms l a P o d pos e h =
    gather to r 0 ms (team idle n (crew l P)) a o d e (rw (at_team idle n (crew l P) 0 pos) h)
    ∙ rw (put_team idle n (crew l P) 0 a pos) (rw (put_put (λ j. P j) 0 l a) refl)

-- each of the others takes one message of the leader's
pub others_take : {L M R : Type 0} (to : M → ℕ) (r : ℕ → L → M → Took L M R) (idle : L) (n : ℕ) (q : ℕ → Bool)
    (m : ℕ → M) (l : L) (P Q : ℕ → L) (o : ℕ → List M) → ((k : ℕ) → k < n → q k ≡ true) → ((k : ℕ) → to (m k) ≡ k)
    → ((k : ℕ) → 0 < k → k < n → r k (P k) (m k) ≡ did (Q k) (o k) []) → all_of (turn to r)
    (flat n (λ k. cond (q k && not (eqb k 0)) (m k ∷ []) [])) (team idle n (crew l P))
    ≡ did (team idle n (crew l Q)) (flat n (λ k. cond (not (eqb k 0)) (o k) [])) []
others_take to r idle n q m l P Q o inq goes h =
    all_take to r idle n _ (crew l Q) (crew l P) _ (λ k lt.
    cond_both (q k && not (eqb k 0)) (m k ∷ []) [] (λ z. AllByRecursion (λ c. to c ≡ k) z) (λ _. (goes k, tt)) (λ _. tt))
    (λ k lt. by k lt (cases_eq k 0))
  where
    by : (k : ℕ) → k < n → (k ≡ 0) ⊎ (k ≡ 0 → ⊥) → all_of (r k) (cond (q k && not (eqb k 0)) (m k ∷ []) [])
        (crew l P k) ≡ did (crew l Q k) (cond (not (eqb k 0)) (o k) []) []
    by k lt (inl z) = rw (inq k lt, eq-eqb k 0 z) refl
    by k lt (inr nz) = rw (inq k lt, ne_eqb k 0 nz) (single (r k) (m k) (P k) ∙ h k (omega arith) lt)

-- the leader takes one message from each of the others, and does more at the last one
pub leader_gathers : {L M R : Type 0} (to : M → ℕ) (r : ℕ → L → M → Took L M R) (idle : L) (n : ℕ) (m : ℕ → M)
    (W : ℕ → L) (Z : L) (P : ℕ → L) (x : List M) (y : List R) → 1 < n → ((k : ℕ) → to (m k) ≡ 0) → W 0 ≡ W 1
    → ((k : ℕ) → 0 < k → suc k < n → r 0 (W k) (m k) ≡ did (W (suc k)) [] [])
    → ((k : ℕ) → 0 < k → suc k ≡ n → r 0 (W k) (m k) ≡ did Z x y) → all_of (turn to r)
    (flat n (λ k. cond (not (eqb k 0)) (m k ∷ []) [])) (team idle n (crew (W 0) P))
    ≡ did (team idle n (crew Z P)) x y
leader_gathers to r idle n m W Z P x y two goes first more last =
    leader_takes to r idle n (flat n (λ k. cond (not (eqb k 0)) (m k ∷ []) [])) (W 0) Z P x y (omega arith)
    (all_flat _ n _ (λ k lt.
    cond_both (not (eqb k 0)) (m k ∷ []) [] (λ z. AllByRecursion (λ c. to c ≡ 0) z) (λ _. (goes k, tt)) (λ _. tt)))
    (until_last (r 0) n _ W Z x y (omega arith)
    (λ k lt. by k (cases_eq k 0) lt)
    (λ k e. rw (ne_eqb k 0 (λ z. omega arith)) (single (r 0) (m k) (W k) ∙ last k (omega arith) e)))
  where
    by : (k : ℕ) → (k ≡ 0) ⊎ (k ≡ 0 → ⊥) → suc k < n
        → all_of (r 0) (cond (not (eqb k 0)) (m k ∷ []) []) (W k) ≡ did (W (suc k)) [] []
    by k (inl z) lt =
        let e : W k ≡ W (suc k) = subst (λ (j : ℕ). W j ≡ W (suc j)) (sym z) first in
        rw (eq-eqb k 0 z) (ap (λ w. did w [] []) e)
    by k (inr nz) lt = rw (ne_eqb k 0 nz) (single (r 0) (m k) (W k) ∙ more k (omega arith) lt)

pub crew_self : {L : Type 0} (P : ℕ → L) → crew (P 0) P ≡ P
crew_self P = same_state _ _ (λ j. by j (cases_eq j 0))
  where
    by : (j : ℕ) → (j ≡ 0) ⊎ (j ≡ 0 → ⊥) → cond (eqb j 0) (P 0) (P j) ≡ P j
    by j (inl z) = rw (eq-eqb j 0 z) (ap P (sym z))
    by j (inr nz) = rw (ne_eqb j 0 nz) refl

-- a message that is sent if c is true goes to k if its recipient is k
pub goes_to : {M : Type 0} (to : M → ℕ) (c : Bool) (m : M) (k : ℕ) → to m ≡ k
    → AllByRecursion (λ x. to x ≡ k) (cond c (m ∷ []) [])
goes_to to true m k e = (e, tt)
goes_to to false m k e = tt

pub if_sent : {L M R : Type 0} (r : L → M → Took L M R) (c : Bool) (m : M) (l : L) (o : List M)
    → (c ≡ true → r l m ≡ did l o []) → all_of r (cond c (m ∷ []) []) l ≡ did l (cond c o []) []
if_sent r true m l o h = single r m l ∙ h refl
if_sent r false m l o h = refl

-- a message that changes nothing, sent or not
pub dropped : {L M R : Type 0} (r : L → M → Took L M R) (c : Bool) (m : M) (l : L)
    → (c ≡ true → r l m ≡ did l [] []) → all_of r (cond c (m ∷ []) []) l ≡ did l [] []
dropped r true m l h = single r m l ∙ h refl
dropped r false m l h = refl

pub flat_nones : {A : Type 0} (k : ℕ) → flat {A = A} k (λ j. cond (not (eqb j 0)) [] []) ≡ []
flat_nones zero = refl
flat_nones {A = A} (suc k) = rw (flat_nones {A = A} k) (by (not (eqb k 0)))
  where
    by : (c : Bool) → cond {A = List A} c [] [] ≡ []
    by true = refl
    by false = refl

pub at_other : {L : Type 0} (idle : L) (n r : ℕ) (l : L) (P : ℕ → L) → 0 < r → r < n → team idle n (crew l P) r ≡ P r
at_other idle n r l P pos lt = at_team idle n (crew l P) r lt ∙ rw (ne_eqb r 0 (λ f. omega arith)) refl
