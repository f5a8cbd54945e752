-- Prefixes of bytes, piece after piece.
use Rattle.std.proofs.Common.{◌≡◌, ℕ, ◌+◌, List, ◌++◌, take, drop, Option, Some, None, sym, ap, ◌∙◌, append_assoc, arith}
use Rattle.std.specs.Io.KnownBytes.{Appends, Consumes}
use Rattle.std.proofs.lemmas.List.{take-take, drop-take, take-append-drop}

take-add : (bs : List ℕ) (d n : ℕ) → take (d + n) bs ≡ take d bs ++ take n (drop d bs)
take-add bs d n =
    sym (take-append-drop d (take (d + n) bs)) ∙ ap (λ (xs : List ℕ). xs ++ drop d (take (d + n) bs)) (take-take d (d + n) bs (omega arith)) ∙ ap (λ (xs : List ℕ). take d bs ++ xs) (drop-take d n bs)

-- one more piece of the bytes went out
pub front_more : (old mid new : Option (List ℕ)) (bs : List ℕ) (d n : ℕ) → Appends old mid (take d bs) → Appends mid new (take n (drop d bs)) → Appends old new (take (d + n) bs)
front_more None mid new bs d n a b = tt
front_more (Some xs) None new bs d n a b = absurd a
front_more (Some xs) (Some ys) None bs d n a b = absurd b
front_more (Some xs) (Some ys) (Some zs) bs d n a b =
    b ∙ ap (λ (l : List ℕ). l ++ take n (drop d bs)) a ∙ append_assoc xs (take d bs) (take n (drop d bs)) ∙ ap (λ (l : List ℕ). xs ++ l) (sym (take-add bs d n))

-- a piece was read, and then another
pub consumed_more : (old mid new : Option (List ℕ)) (first next : List ℕ) → Consumes old mid first → Consumes mid new next → Consumes old new (first ++ next)
consumed_more None mid new first next a b = tt
consumed_more (Some xs) None new first next a b = absurd a
consumed_more (Some xs) (Some ys) None first next a b = absurd b
consumed_more (Some xs) (Some ys) (Some zs) first next a b = a ∙ ap (λ (l : List ℕ). first ++ l) b ∙ sym (append_assoc first next zs)
