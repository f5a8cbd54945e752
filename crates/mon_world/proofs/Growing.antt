-- How long the log is once a map is kept.
use Rattle.std.proofs.Common.{◌≡◌, ℕ, suc, ◌+◌, ◌-◌, Bool, true, false, cond, max, List, ◌++◌, length, refl, ap, ◌∙◌, arith, length-append}
use Rattle.std.proofs.lemmas.List.FromFn.{length-map-range_with_len}
use Rattle.mon_kv.specs.Readers.{is_marked}
use Rattle.mon_tx.specs.Map.{Store}
use Rattle.quorum_model.specs.Growth.{last_of, record_in, records_after, grown}
use Rattle.mon_world.specs.Step.{log_after}

max-minus : (a b : ℕ) → a + (b - a) ≡ max a b
max-minus a b = omega arith

pub grown-length : (log : List (List ℕ)) (m : Store) → length (grown log m) ≡ log_after (length log) m
unfolding grown
grown-length log m = by (is_marked m)
  where
    by : (b : Bool) → length (cond b log (log ++ records_after m (length log) (last_of m - length log))) ≡ cond b (length log) (max (length log) (last_of m))
    by true = refl
    by false = length-append log _ ∙ ap (λ n. length log + n) (length-map-range_with_len (record_in m) (suc (length log)) (last_of m - length log)) ∙ max-minus (length log) (last_of m)
