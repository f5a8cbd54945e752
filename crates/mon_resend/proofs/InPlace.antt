-- A list of which a loop changes each item, one after the other.
use Rattle.std.specs.Prelude.{◌≡◌, ℕ, zero, suc, ◌+◌, ◌≤◌, List, [], ◌∷◌, ◌++◌, length, map, take, refl}
use Rattle.std.proofs.Common.{ap, arith, subst, ◌∙◌}
use Rattle.std.proofs.Math.Seq.{take-append_seam}
use Rattle.std.proofs.Math.ListN.{get_or, set}

-- the first n items are changed
abbrev pub changed_to : {A : Type 0} → (A → A) → ℕ → List A → List A
changed_to f zero xs = xs
changed_to f (suc n) [] = []
changed_to f (suc n) (x ∷ xs) = f x ∷ changed_to f n xs

pub item_at : {A : Type 0} (f : A → A) (n : ℕ) (xs : List A) (d : A) → get_or (changed_to f n xs) n d ≡ get_or xs n d
item_at f zero xs d = refl
item_at f (suc n) [] d = refl
item_at f (suc n) (x ∷ xs) d = item_at f n xs d

pub one_more : {A : Type 0} (f : A → A) (n : ℕ) (xs : List A) (d : A) → set (changed_to f n xs) n (f (get_or xs n d)) ≡ changed_to f (suc n) xs
one_more f zero [] d = refl
one_more f zero (x ∷ xs) d = refl
one_more f (suc n) [] d = refl
one_more f (suc n) (x ∷ xs) d = ap (λ ys. f x ∷ ys) (one_more f n xs d)

pub all_changed : {A : Type 0} (f : A → A) (xs : List A) → changed_to f (length xs) xs ≡ map f xs
all_changed f [] = refl
all_changed f (x ∷ xs) = ap (λ ys. f x ∷ ys) (all_changed f xs)

pub length-changed : {A : Type 0} (f : A → A) (n : ℕ) (xs : List A) → length (changed_to f n xs) ≡ length xs
length-changed f zero xs = refl
length-changed f (suc n) [] = refl
length-changed f (suc n) (x ∷ xs) = ap suc (length-changed f n xs)

pub past_all : {A : Type 0} (f : A → A) (n : ℕ) (xs : List A) → length xs ≤ n → changed_to f n xs ≡ map f xs
past_all f zero [] le = refl
past_all f (suc n) [] le = refl
past_all f zero (x ∷ xs) le = absurd (omega arith)
past_all f (suc n) (x ∷ xs) le = ap (λ ys. f x ∷ ys) (past_all f n xs (omega arith))

-- The loop has changed the first n items, and puts the next one.
pub put_next : {A : Type 0} (f : A → A) (n : ℕ) (all items : List A) (d y : A) → items ≡ changed_to f n all → y ≡ f (get_or items n d) → set items n y ≡ changed_to f (n + 1) all
put_next f n all items d y is e =
    let at : y ≡ f (get_or all n d) = e ∙ ap (λ xs. f (get_or xs n d)) is ∙ ap f (item_at f n all d) in
    let up : suc n ≡ n + 1 = omega arith in
    subst (λ m. set items n y ≡ changed_to f m all) up (ap (λ xs. set xs n y) is ∙ ap (λ z. set (changed_to f n all) n z) at ∙ one_more f n all d)

-- It has changed all of them.
pub put_all : {A : Type 0} (f : A → A) (n : ℕ) (all items rest : List A) (k : ℕ) → items ≡ changed_to f n all → length items ≤ n → k ≡ length items → take k (items ++ rest) ≡ map f all
put_all f n all items rest k is le e =
    let long : length all ≤ n = omega (arith, le, ap length is, length-changed f n all) in
    ap (λ m. take m (items ++ rest)) e ∙ take-append_seam items rest ∙ is ∙ past_all f n all long
