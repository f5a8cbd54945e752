-- The full maps of a range of versions, one version after the other.
use Rattle.std.proofs.Common.{◌≡◌, ℕ, suc, ◌+◌, ◌-◌, ◌<◌, ◌%◌, Bool, true, false, cond, eqb, List, [], ◌∷◌, ◌++◌, map, append_assoc, sym, ap, ◌∙◌, arith}
use Rattle.std.specs.List.{filter, range_with_len}
use Rattle.mon_tx.specs.declared.key.Area.{Area}
use Rattle.mon_tx.specs.declared.key.Key.TheVariants as key
use Rattle.mon_tx.specs.declared.op.Op.{Op}
use Rattle.mon_msg.specs.Protocol.Changes.{erase}
use Rattle.mon_msg.specs.declared.limits.TheConstants.{FULL_EVERY}

-- the erasures of the full maps at this many versions
abbrev pub erasures : Area → ℕ → ℕ → List Op
erasures a from count = map (λ v. erase a (key.Full v)) (filter (λ v. eqb (v % FULL_EVERY) 0) (range_with_len from count))

next_version : (v to : ℕ) → v < to → to - v ≡ suc (to - (v + 1))
next_version v to lt = omega arith

at_full : (tx all : List Op) (a : Area) (v count : ℕ) (b : Bool) → eqb (v % FULL_EVERY) 0 ≡ b → tx ++ erasures a v (suc count) ≡ all
    → tx ++ (cond b (erase a (key.Full v) ∷ []) [] ++ erasures a (v + 1) count) ≡ all
at_full tx all a v count true e h = sym (ap (λ t. tx ++ map (λ v. erase a (key.Full v)) (cond t (v ∷ filter (λ v. eqb (v % FULL_EVERY) 0) (range_with_len (v + 1) count)) (filter (λ v. eqb (v % FULL_EVERY) 0) (range_with_len (v + 1) count)))) e) ∙ h
at_full tx all a v count false e h = sym (ap (λ t. tx ++ map (λ v. erase a (key.Full v)) (cond t (v ∷ filter (λ v. eqb (v % FULL_EVERY) 0) (range_with_len (v + 1) count)) (filter (λ v. eqb (v % FULL_EVERY) 0) (range_with_len (v + 1) count)))) e) ∙ h

pub erased : (tx all : List Op) (a : Area) (v to : ℕ) → v < to → eqb (v % FULL_EVERY) 0 ≡ true → tx ++ erasures a v (to - v) ≡ all → (tx ++ erase a (key.Full v) ∷ []) ++ erasures a (v + 1) (to - (v + 1)) ≡ all
erased tx all a v to lt e h = append_assoc tx (erase a (key.Full v) ∷ []) (erasures a (v + 1) (to - (v + 1))) ∙ at_full tx all a v (to - (v + 1)) true e (ap (λ (k : ℕ). tx ++ erasures a v k) (sym (next_version v to lt)) ∙ h)

pub passed : (tx all : List Op) (a : Area) (v to : ℕ) → v < to → eqb (v % FULL_EVERY) 0 ≡ false → tx ++ erasures a v (to - v) ≡ all → tx ++ erasures a (v + 1) (to - (v + 1)) ≡ all
passed tx all a v to lt e h = at_full tx all a v (to - (v + 1)) false e (ap (λ (k : ℕ). tx ++ erasures a v k) (sym (next_version v to lt)) ∙ h)
