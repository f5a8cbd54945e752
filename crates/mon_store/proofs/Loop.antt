-- Reading entries one after the other, as a loop does.
use Rattle.std.proofs.Common.{◌≡◌, ℕ, suc, ◌-◌, ◌+◌, ◌≤◌, ◌<◌, List, [], ◌∷◌, ◌++◌, Result, Ok, Err, Less, cond, T, refl, sym, ap, subst, ◌∙◌, append_assoc, arith}
use Rattle.std.specs.Ordering.{is_lt}
use Rattle.std.specs.FinMap.{entries, empty}
use Rattle.std.proofs.lemmas.List.{append-nil}
use Rattle.mon_bytes.specs.Reading.{Reading}
use Rattle.mon_bytes.specs.declared.command.MapRefused.{MapRefused}
use Rattle.mon_bytes.specs.declared.command.MapRefused.TheVariants as refused
use Rattle.mon_bytes.specs.Forms.{◌>>=◌, Fails}
use Rattle.mon_bytes.proofs.Fields.{chosen_ok, ok_is}
use Rattle.mon_bytes.proofs.Forms.{bind_ok}
use Rattle.mon_bytes.proofs.Ordered.{less}
use Rattle.mon_tx.specs.Map.{Place, place_cmp, Store}
use Rattle.mon_store.specs.Checkpoint.{Entry}
use Rattle.mon_store.specs.Decode.{word_at, value_at, prefix_at, key_at, entry_at, entries_at}
use Rattle.mon_store.proofs.Order.{entries-empty}

-- the entries that were read before, and then those that are read from here on
abbrev pub with_front : List Entry → Result (List Entry × Reading) MapRefused → Result (List Entry × Reading) MapRefused
with_front front read = read >>= λ x. Ok (front ++ x.0, x.1)

pub begins : (m : Store) (count : ℕ) (before : Place) (c : Reading) → m ≡ empty → with_front (entries m) (entries_at (count - 0) before c) ≡ entries_at count before c
begins m count before c none = let all : count - 0 ≡ count = omega arith in rw (all, entries-empty m none) (same (entries_at count before c))
  where
    same : (read : Result (List Entry × Reading) MapRefused) → with_front [] read ≡ read
    same (Ok x) = refl
    same (Err e) = refl

regroup : (front : List Entry) (e : Entry) (read : Result (List Entry × Reading) MapRefused) → with_front front (read >>= λ x. Ok (e ∷ x.0, x.1)) ≡ with_front (front ++ e ∷ []) read
regroup front e (Ok x) = ap (λ (es : List Entry). Ok (es, x.1)) (simp append_assoc)
regroup front e (Err f) = refl

one_more : (count i : ℕ) (before : Place) (c : Reading) → i < count
    → entries_at (count - i) before c ≡ (entry_at before c >>= λ first. entries_at (count - (i + 1)) first.0.0 first.1 >>= λ others. Ok (first.0 ∷ others.0, others.1))
unfolding entries_at
one_more count i before c lt = let k : count - i ≡ suc (count - (i + 1)) = omega arith in rw k refl

pub goes_on : (front : List Entry) (count i : ℕ) (before : Place) (e : Entry) (c after : Reading) (total : Result (List Entry × Reading) MapRefused) → i < count → entry_at before c ≡ Ok (e, after)
    → with_front front (entries_at (count - i) before c) ≡ total → with_front (front ++ e ∷ []) (entries_at (count - (i + 1)) e.0 after) ≡ total
goes_on front count i before e c after total lt h so_far =
    let one : with_front front (entries_at (count - i) before c) ≡ with_front (front ++ e ∷ []) (entries_at (count - (i + 1)) e.0 after) =
    rw (one_more count i before c lt, h) (regroup front e (entries_at (count - (i + 1)) e.0 after)) in
    sym one ∙ so_far

pub ends : (e : MapRefused) (front : List Entry) (count i : ℕ) (before : Place) (c : Reading) (total : Result (List Entry × Reading) MapRefused) → i < count → Fails e (entry_at before c)
    → with_front front (entries_at (count - i) before c) ≡ total → Fails e total
ends refused.OutOfMemory front count i before c total lt h so_far = tt
ends (refused.Form at) front count i before c total lt h so_far =
    let one : with_front front (entries_at (count - i) before c) ≡ Err (refused.Form at) = rw (one_more count i before c lt, h) refl in sym so_far ∙ one

pub is_done : (front : List Entry) (count i : ℕ) (before : Place) (c : Reading) (total : Result (List Entry × Reading) MapRefused) → count ≤ i → with_front front (entries_at (count - i) before c) ≡ total → total ≡ Ok (front, c)
unfolding entries_at
is_done front count i before c total le so_far =
    let none : count - i ≡ 0 = omega arith in
    let last : with_front front (entries_at (count - i) before c) ≡ Ok (front, c) = rw none (ap (λ (es : List Entry). Ok (es, c)) (append-nil front)) in
    sym so_far ∙ last

key_rises : (before : Place) (prefix : List ℕ) (c : Reading) (x : List ℕ × Reading) → key_at before prefix c ≡ Ok x → place_cmp before (prefix, x.0) ≡ Less
unfolding key_at
key_rises before prefix c x e =
    let a = bind_ok (word_at 255 c) (λ key. cond (is_lt (place_cmp before (prefix, key.0))) (Ok key) (Err (refused.Form (c.at + 1)))) x e in
    let g = chosen_ok (is_lt (place_cmp before (prefix, a.0.0))) (refused.Form (c.at + 1)) (Ok a.0) x a.2 in
    subst (λ (p : List ℕ × Reading). place_cmp before (prefix, p.0) ≡ Less) (ok_is a.0 x g.1) (less _ (subst T (sym g.0) tt))

-- an entry that was read is above the place before it
pub rises : (before : Place) (c : Reading) (x : Entry × Reading) → entry_at before c ≡ Ok x → place_cmp before x.0.0 ≡ Less
unfolding entry_at
rises before c x e =
    let a = bind_ok (prefix_at before.0 c) (λ prefix. key_at before prefix.0 prefix.1 >>= λ key. value_at key.1 >>= λ value. Ok (((prefix.0, key.0), value.0), value.1)) x e in
    let b = bind_ok (key_at before a.0.0 a.0.1) (λ key. value_at key.1 >>= λ value. Ok (((a.0.0, key.0), value.0), value.1)) x a.2 in
    let d = bind_ok (value_at b.0.1) (λ value. Ok (((a.0.0, b.0.0), value.0), value.1)) x b.2 in
    subst (λ (p : Entry × Reading). place_cmp before p.0.0 ≡ Less) (ok_is (((a.0.0, b.0.0), d.0.0), d.0.1) x d.2) (key_rises before a.0.0 a.0.1 b.0 b.1)
