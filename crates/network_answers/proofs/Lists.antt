-- Items of lists that are made of others.
use Rattle.law_names.proofs.Table.{AllByRecursion, Contains}
use Rattle.std.proofs.Common.{List, [], ap, arith, map, refl, suc, zero, ◌∷◌, ◌≡◌}

module _ {X Y : Type 0} (f : X → Y) where
  pub in_image : (xs : List X) (x : X) → Contains xs x → Contains (map f xs) (f x)
  in_image [] x (k, lt, e) = absurd (omega (arith, lt))
  in_image (y ∷ xs) x (zero, lt, e) = (0, omega arith, ap f e)
  in_image (y ∷ xs) x (suc k, lt, e) = let c = in_image xs x (k, omega (arith, lt), e) in (suc c.0, omega (arith, c.1), c.2)

  pub of_image : (xs : List X) (y : Y) → Contains (map f xs) y → (x : X) × Contains xs x × (f x ≡ y)
  of_image [] y (k, lt, e) = absurd (omega (arith, lt))
  of_image (x ∷ xs) y (zero, lt, e) = (x, (0, omega arith, refl), e)
  of_image (x ∷ xs) y (suc k, lt, e) =
      let o = of_image xs y (k, omega (arith, lt), e) in
      let c = o.1 in
      (o.0, (suc c.0, omega (arith, c.1), c.2), o.2)

  pub all_image : (P : Y → Type 0) (xs : List X) → AllByRecursion (λ (x : X). P (f x)) xs → AllByRecursion P (map f xs)
  all_image P [] h = tt
  all_image P (x ∷ xs) h = (h.0, all_image P xs h.1)
