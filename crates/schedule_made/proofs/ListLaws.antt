-- Beginnings of lists.
use Rattle.std.proofs.Common.{ℕ, zero, suc, ◌*◌, ◌≤◌, Bool, List, [], ◌∷◌, ◌++◌, take, length, IsTrue, refl, arith, length-append}
use Rattle.std.specs.List.{list_all, flat_map}
use Rattle.mon_bytes.proofs.Ascii.{both}

pub list_all-append : {A : Type 0} (p : A → Bool) (xs ys : List A) → IsTrue (list_all p xs) → IsTrue (list_all p ys) → IsTrue (list_all p (xs ++ ys))
list_all-append p [] ys a b = b
list_all-append p (x ∷ xs) ys a b =
    let parts = both (p x) (list_all p xs) a in
    rw (parts.0, list_all-append p xs ys parts.1 b) refl

pub list_all-take : {A : Type 0} (p : A → Bool) (n : ℕ) (xs : List A) → IsTrue (list_all p xs) → IsTrue (list_all p (take n xs))
list_all-take p zero xs h = refl
list_all-take p (suc n) [] h = refl
list_all-take p (suc n) (x ∷ xs) h =
    let parts = both (p x) (list_all p xs) h in
    rw (parts.0, list_all-take p n xs parts.1) refl

pub list_all-weaker : {A : Type 0} (p q : A → Bool) → ((x : A) → IsTrue (p x) → IsTrue (q x)) → (xs : List A) → IsTrue (list_all p xs) → IsTrue (list_all q xs)
list_all-weaker p q h [] all = refl
list_all-weaker p q h (x ∷ xs) all =
    let parts = both (p x) (list_all p xs) all in
    rw (h x parts.0, list_all-weaker p q h xs parts.1) refl

-- pieces whose length is at most `most`
pub length-flat_map_le : {A : Type 0} (p : A → Bool) (f : A → List ℕ) (most : ℕ) → ((x : A) → IsTrue (p x) → length (f x) ≤ most) → (xs : List A) → IsTrue (list_all p xs) → length (flat_map f xs) ≤ most * length xs
length-flat_map_le p f most h [] all = omega arith
length-flat_map_le p f most h (x ∷ xs) all =
    let parts = both (p x) (list_all p xs) all in
    omega (arith, h x parts.0, length-flat_map_le p f most h xs parts.1, length-append (f x) (flat_map f xs))
