-- The world's log is the one that grows if a chosen value is committed.
use Rattle.law_names.proofs.Runs.{grown, last_of, records_after}
use Rattle.law_names.proofs.Table.{Store, cell, number, readings_of}
use Rattle.mon_tx.specs.declared.key.Area.TheVariants as area
use Rattle.mon_tx.specs.declared.key.Key.TheVariants as key
use Rattle.std.proofs.Common.{List, Some, [], ap, append-nil, arith, cond, false, length, refl, suc, true, unwrap_or, ℕ, ◌++◌, ◌-◌, ◌∙◌, ◌∷◌, ◌≡◌, ◌≤◌, ◌⊎◌}

-- a marked monitor adds nothing
pub grown_marked : (log : List (List ℕ)) (m : Store) → (readings_of m).marked ≡ true → grown log m ≡ log
unfolding grown readings_of
grown_marked log m t = ap (λ b. cond b log (log ++ records_after m (length log) (last_of m - length log))) t

-- nor does one with no further versions
pub grown_none : (log : List (List ℕ)) (m : Store) → (readings_of m).marked ≡ false → (readings_of m).last ≤ length log → grown log m ≡ log
unfolding grown readings_of
grown_none log m t le =
    let none : last_of m - length log ≡ 0 = omega arith in
    ap (λ b. cond b log (log ++ records_after m (length log) (last_of m - length log))) t ∙ ap (λ k. log ++ records_after m (length log) k) none ∙ append-nil log

-- one with one version more adds its record
pub grown_one : (log : List (List ℕ)) (m : Store) (bytes : List ℕ) → (readings_of m).marked ≡ false → (readings_of m).last ≡ suc (length log) → cell m area.Paxos (key.Version (suc (length log))) ≡ Some bytes → grown log m ≡ log ++ bytes ∷ []
unfolding grown readings_of
grown_one log m bytes t last there =
    let one : last_of m - length log ≡ 1 = omega arith in
    ap (λ b. cond b log (log ++ records_after m (length log) (last_of m - length log))) t ∙ ap (λ k. log ++ records_after m (length log) k) one ∙ ap (λ c. log ++ unwrap_or c [] ∷ []) there

pub first_is : (m : Store) → (readings_of m).first ≡ number m area.Paxos key.FirstCommitted
unfolding readings_of
first_is m = refl

-- it stays as it is, or has one entry more
abbrev pub GrowsByOne : (old new : List (List ℕ)) → Type 0
GrowsByOne old new = (new ≡ old) ⊎ ((bytes : List ℕ) × (new ≡ old ++ bytes ∷ []))
