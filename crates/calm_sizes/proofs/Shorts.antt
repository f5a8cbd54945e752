-- No value of a store is longer than what was put, and no value of a fold is long.
use Rattle.calm_sizes.proofs.Records.{entry_short}
use Rattle.calm_sizes.specs.Sizes.{AllShort}
use Rattle.law_names.proofs.Runs.{AllValues}
use Rattle.law_names.proofs.Table.{AllByRecursion, Cell, Decision, Erase, ErasePrefix, EraseRange, Op, Put, Store, apply, apply_op, decided, empty, entry, flat_map, fold, get, ops_in, or_before, place_cmp, put, text}
use Rattle.log_model.proofs.Committed.{encoded_text, holds}
use Rattle.mon_tx.proofs.After.{get-apply_op}
use Rattle.mon_tx.specs.Map.{Place, is_within}
use Rattle.mon_tx.specs.Text.{op_text}
use Rattle.mon_tx.specs.declared.key.Area.TheVariants as area
use Rattle.mon_tx.specs.declared.key.Key.TheVariants as key
use Rattle.std.proofs.Common.{Bool, List, None, Some, [], ap, arith, cond, false, length, length-append, refl, subst, suc, sym, true, zero, ℕ, ◌&&◌, ◌^◌, ◌∙◌, ◌∷◌, ◌≡◌, ◌≤◌}
use Rattle.std.specs.FinMap.{get-empty}
use Rattle.std.specs.Ordering.{eq_by_cmp}
use Rattle.std.specs.Str.{bytes_eq}

-- what a change puts isn't longer
abbrev pub PutsShort : (limit : ℕ) → Op → Type 0
PutsShort limit (Put prefix k v) = length v ≤ limit
PutsShort limit (Erase prefix k) = Unit {0}
PutsShort limit (ErasePrefix prefix) = Unit {0}
PutsShort limit (EraseRange prefix from to) = Unit {0}

-- ---- what changes leave

module _ (most : ℕ) where
  decided_short : (op : Op) (q : Place) (x : List ℕ) → PutsShort most op → decided op q ≡ Some (Some x)
      → length x ≤ most
  decided_short (Put prefix k v) q x h e = by (eq_by_cmp place_cmp q (prefix, k)) e
    where
      by : (b : Bool) → ◌≡◌ {A = Decision} (cond b (Some (Some v)) None) (Some (Some x)) → length x ≤ most
      by true e = let same : v ≡ x = cc in subst (λ (z : List ℕ). length z ≤ most) same h
      by false e = absurd cc
  decided_short (Erase prefix k) q x h e = by (eq_by_cmp place_cmp q (prefix, k)) e
    where
      by : (b : Bool) → ◌≡◌ {A = Decision} (cond b (Some None) None) (Some (Some x)) → length x ≤ most
      by true e = absurd cc
      by false e = absurd cc
  decided_short (ErasePrefix prefix) q x h e = by (bytes_eq q.0 prefix) e
    where
      by : (b : Bool) → ◌≡◌ {A = Decision} (cond b (Some None) None) (Some (Some x)) → length x ≤ most
      by true e = absurd cc
      by false e = absurd cc
  decided_short (EraseRange prefix from to) q x h e = by (bytes_eq q.0 prefix && is_within from to q.1) e
    where
      by : (b : Bool) → ◌≡◌ {A = Decision} (cond b (Some None) None) (Some (Some x)) → length x ≤ most
      by true e = absurd cc
      by false e = absurd cc

  one_short : (op : Op) (m : Store) → PutsShort most op → AllShort most m → AllShort most (apply_op op m)
  one_short op m h all q x e = by (decided op q) refl (sym (get-apply_op op m q) ∙ e)
    where
      by : (d : Decision) → decided op q ≡ d → or_before d (get m q) ≡ Some x → length x ≤ most
      by None t i = all q x i
      by (Some c) t i = decided_short op q x h (t ∙ ap (λ (c : Cell). Some c) i)

  pub short_apply : (ops : List Op) (m : Store) → AllByRecursion (PutsShort most) ops → AllShort most m
      → AllShort most (apply ops m)
  short_apply [] m h all = all
  short_apply (op ∷ ops) m h all = short_apply ops (apply_op op m) h.1 (one_short op m h.0 all)

  put_within : (op : Op) → length (op_text op) ≤ most → PutsShort most op
  put_within (Put prefix k v) h =
      let e : length v ≤ length (op_text (Put prefix k v)) = simp length-append (omega arith) in omega (arith, e, h)
  put_within (Erase prefix k) h = tt
  put_within (ErasePrefix prefix) h = tt
  put_within (EraseRange prefix from to) h = tt

  each_within : (ops : List Op) → length (flat_map op_text ops) ≤ most → AllByRecursion (PutsShort most) ops
  each_within [] h = tt
  each_within (op ∷ ops) h =
      let l = length-append (op_text op) (flat_map op_text ops) in
      (put_within op (omega (arith, l, h)), each_within ops (omega (arith, l, h)))

  -- what a transaction of `most` bytes puts isn't longer
  pub puts_within : (ops : List Op) → length (text ops) ≤ most → AllByRecursion (PutsShort most) ops
  puts_within ops h =
      each_within ops (let l : length (flat_map op_text ops) ≤ length (text ops) =
      simp length-append (omega arith) in
      omega (arith, l, h))

pub empty_short : (most : ℕ) → AllShort most empty
empty_short most q x e = let none : None ≡ Some x = sym (get-empty place_cmp q) ∙ e in absurd cc

-- ---- a fold

short_more : (log : List (List ℕ)) (c : ℕ) → length (entry log (suc c)) ≤ 524288
    → AllByRecursion (PutsShort 524288) (ops_in (entry log (suc c))) → AllShort 524288 (fold log c)
    → AllShort 524288 (fold log (suc c))
unfolding fold
short_more log c one puts before =
    short_apply 524288 (put area.Paxos (key.Version (suc c)) (entry log (suc c)) ∷ ops_in (entry log (suc c)))
    (fold log c) (one, puts) before

pub fold_short : (log : List (List ℕ)) → length log ≤ 2 ^ 62 → AllValues log → (c : ℕ) → c ≤ length log
    → AllShort 524288 (fold log c)
unfolding fold
fold_short log within all zero h = empty_short 524288
fold_short log within all (suc c) h =
    let S = all c h in
    let one = entry_short log within all c h in
    let is = encoded_text log c (omega arith) (holds log within all c (omega arith)) S in
    let text_short : length (text S.changes) ≤ 524288 = omega (arith, one, ap length S.encodes) in
    short_more log c one
    (subst (AllByRecursion (PutsShort 524288)) (sym is) (puts_within 524288 S.changes text_short))
    (fold_short log within all c (omega arith))
