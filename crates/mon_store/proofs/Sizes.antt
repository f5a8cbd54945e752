-- How long a checkpoint is, and how many entries a map has.
use Rattle.std.proofs.Common.{◌≡◌, ℕ, suc, ◌+◌, ◌*◌, ◌≤◌, List, [], ◌∷◌, ◌++◌, length, ap, ◌∙◌, length-append, arith}
use Rattle.std.specs.List.{flat_map, sum_by}
use Rattle.std.specs.FinMap.{entries, len, empty, len-entries}
use Rattle.std.proofs.lemmas.List.Sums.{sum_by-cons}
use Rattle.mon_bytes.specs.Forms.{u32_bytes}
use Rattle.mon_bytes.proofs.Forms.{length-u32_bytes}
use Rattle.mon_tx.specs.Map.{Store}
use Rattle.mon_kv.specs.Readers.{entry_size, size_of}
use Rattle.mon_store.specs.Checkpoint.{Entry, entry_text, value_text, checkpoint_text, most_size}
use Rattle.mon_store.proofs.Order.{entries-empty}

length-value : (value : List ℕ) → length (value_text value) ≡ 4 + length value
length-value value = length-append (u32_bytes (length value)) value ∙ ap (λ n. n + length value) (length-u32_bytes (length value))

length-three : (a b c : List ℕ) → length (a ++ b ++ c) ≡ length a + length b + length c
length-three a b c = length-append (a ++ b) c ∙ ap (λ n. n + length c) (length-append a b)

length-entry : (e : Entry) → length (entry_text e) + 10 ≡ entry_size e
length-entry e =
    let parts : length (entry_text e) ≡ suc (length e.0.0) + suc (length e.0.1) + length (value_text e.1) = length-three (length e.0.0 ∷ e.0.0) (length e.0.1 ∷ e.0.1) (value_text e.1) in
    omega (arith, parts, length-value e.1)

length-entries : (es : List Entry) → length (flat_map entry_text es) ≤ sum_by entry_size es
length-entries [] = omega arith
length-entries (e ∷ es) = omega (arith, length-append (entry_text e) (flat_map entry_text es), length-entry e, length-entries es, sum_by-cons entry_size e es)

-- a map that isn't large has a short checkpoint
pub length-checkpoint : (m : Store) → length (checkpoint_text m) ≤ 5 + size_of m
unfolding size_of
length-checkpoint m = omega (arith, length-append (u32_bytes (len m)) (flat_map entry_text (entries m)), length-u32_bytes (len m), length-entries (entries m))

count_entries : (es : List Entry) → 16 * length es ≤ sum_by entry_size es
count_entries [] = omega arith
count_entries (e ∷ es) = omega (arith, count_entries es, sum_by-cons entry_size e es)

pub few_entries : (m : Store) → 16 * len m ≤ size_of m
unfolding size_of
few_entries m = omega (arith, count_entries (entries m), len-entries m)

pub size_empty : (m : Store) → m ≡ empty → size_of m ≤ most_size
unfolding size_of
size_empty m none = let nothing : sum_by entry_size (entries m) ≡ 0 = ap (sum_by entry_size) (entries-empty m none) in omega (arith, nothing)
