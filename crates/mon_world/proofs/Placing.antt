-- What is at each place of a list in which one place is read and written.
use Rattle.std.proofs.Common.{◌≡◌, ◌≢◌, ℕ, zero, suc, ◌<◌, List, [], ◌∷◌, length, get_or, set, slice_get, Some, refl, sym, ap, ◌∙◌, arith}
use Rattle.std.proofs.lemmas.Option.{slice_get_read}

written_here : {A : Type 0} (xs : List A) (i : ℕ) (x : A) → i < length xs → slice_get (set xs i x) i ≡ Some x
written_here [] i x within = absurd (omega arith)
written_here (y ∷ xs) zero x within = refl
written_here (y ∷ xs) (suc i) x within = written_here xs i x (omega arith)

written_else : {A : Type 0} (xs : List A) (i j : ℕ) (x : A) → j ≢ i → slice_get (set xs i x) j ≡ slice_get xs j
written_else [] i j x other = refl
written_else (y ∷ xs) zero zero x other = absurd (other refl)
written_else (y ∷ xs) zero (suc j) x other = refl
written_else (y ∷ xs) (suc i) zero x other = refl
written_else (y ∷ xs) (suc i) (suc j) x other = written_else xs i j x (λ e. other (ap suc e))

-- the same, for a place that is given as an equal number
module _ {A : Type 0} (xs : List A) (i k : ℕ) (same : k ≡ i) where
  pub read_there : (x : A) → i < length xs → x ≡ get_or xs k x → slice_get xs i ≡ Some x
  read_there x within is = ap (slice_get xs) (sym same) ∙ slice_get_read xs (length xs) k x refl (omega arith) is

  pub wrote_there : (x : A) → i < length xs → slice_get (set xs k x) i ≡ Some x
  wrote_there x within = ap (slice_get (set xs k x)) (sym same) ∙ written_here xs k x (omega arith)

  pub wrote_elsewhere : (x : A) (j : ℕ) → j ≢ i → slice_get (set xs k x) j ≡ slice_get xs j
  wrote_elsewhere x j other = written_else xs k j x (λ e. other (e ∙ same))
