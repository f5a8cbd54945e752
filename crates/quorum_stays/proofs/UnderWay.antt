-- What an event adds to what is under way.
use Rattle.law_names.proofs.Runs.{Envelope}
use Rattle.law_names.proofs.Table.{AllByRecursion, enumerate_from}
use Rattle.quorum_timed.specs.Timed.{Owed, new_between, owed_by}
use Rattle.std.proofs.Common.{Bool, List, Some, [], ap, arith, cond, eqb, false, filter, length, map, refl, slice_get, subst, suc, true, zero, ℕ, ◌&&◌, ◌++◌, ◌+◌, ◌∙◌, ◌∷◌, ◌≡◌}
use Rattle.std.proofs.lemmas.Bool.{and_parts, eqb-true}
use Rattle.std.proofs.lemmas.List.{drop_at}

-- ---- lists

pub get_more : {A : Type 0} (xs ys : List A) (k : ℕ) (x : A) → slice_get xs k ≡ Some x → slice_get (xs ++ ys) k ≡ Some x
get_more [] ys k x e = absurd cc
get_more (z ∷ xs) ys zero x e = e
get_more (z ∷ xs) ys (suc k) x e = get_more xs ys k x e

get_after : {A : Type 0} (xs ys : List A) (k : ℕ) → slice_get (xs ++ ys) (length xs + k) ≡ slice_get ys k
get_after [] ys k = ap (slice_get ys) (omega arith)
get_after (x ∷ xs) ys k = let next : length (x ∷ xs) + k ≡ suc (length xs + k) = omega arith in rw next (get_after xs ys k)

-- ---- the numbers of new messages

-- the numbers of those of some messages that go from f to i, if the first has number k
abbrev pub numbers : (f i k : ℕ) → List Envelope → List ℕ
numbers f i k es = map (λ m. m.0) (filter (λ m. eqb m.1.message.from f && eqb m.1.to i) (enumerate_from k es))

pub new_are : (f i : ℕ) (old es : List Envelope) → new_between (length old) f i (old ++ es) ≡ numbers f i (suc (length old)) es
new_are f i old es = ap (λ (d : List Envelope). numbers f i (suc (length old)) d) (drop_at old es (length old) refl)

pub all_numbers : (f i k : ℕ) (es : List Envelope) (P : ℕ → Type 0)
    → ((d : ℕ) (e : Envelope) → slice_get es d ≡ Some e → e.message.from ≡ f → e.to ≡ i → P (k + d)) → AllByRecursion P (numbers f i k es)
all_numbers f i k [] P h = tt
all_numbers f i k (e ∷ es) P h = by (eqb e.message.from f && eqb e.to i) refl (all_numbers f i (k + 1) es P later)
  where
    later : (d : ℕ) (g : Envelope) → slice_get es d ≡ Some g → g.message.from ≡ f → g.to ≡ i → P (k + 1 + d)
    later d g there from to = let next : k + suc d ≡ k + 1 + d = omega arith in subst P next (h (suc d) g there from to)

    by : (b : Bool) → (eqb e.message.from f && eqb e.to i) ≡ b → AllByRecursion P (numbers f i (k + 1) es)
        → AllByRecursion P (map (λ m. m.0) (cond b ((k, e) ∷ filter (λ m. eqb m.1.message.from f && eqb m.1.to i) (enumerate_from (k + 1) es)) (filter (λ m. eqb m.1.message.from f && eqb m.1.to i) (enumerate_from (k + 1) es))))
    by true t all =
        let parts = and_parts (eqb e.message.from f) (eqb e.to i) t in
        let here : k + 0 ≡ k = omega arith in
        (subst P here (h 0 e refl (eqb-true e.message.from f parts.0) (eqb-true e.to i parts.1)), all)
    by false t all = all

pub all_owed : (by_time : ℕ) (ns : List ℕ) (P : ℕ → Type 0) (Q : Owed → Type 0) → ((k : ℕ) → P k → Q (record { number = k; by = by_time })) → AllByRecursion P ns → AllByRecursion Q (owed_by by_time ns)
all_owed by_time [] P Q h all = tt
all_owed by_time (n ∷ ns) P Q h all = (h n all.0, all_owed by_time ns P Q h all.1)

-- the message of a new number is there
pub new_there : (old es : List Envelope) (d : ℕ) (e : Envelope) → slice_get es d ≡ Some e → slice_get (old ++ es) (length old + d) ≡ Some e
new_there old es d e there = get_after old es d ∙ there
