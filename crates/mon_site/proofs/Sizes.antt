-- How long a checkpoint is, and so where the file that it begins has its first closed gate; and when one is due.
use Rattle.std.proofs.Common.{◌≡◌, suc, ◌+◌, ◌^◌, Bool, nat_lt, List, [], ◌∷◌, ◌++◌, length, refl, ap, ◌∙◌, length-append, arith}
use Rattle.std.specs.Prelude.{◌&&◌, ◌||◌}
use Rattle.std.specs.List.{flat_map, sum_by}
use Rattle.std.specs.FinMap.{entries, len}
use Rattle.std.proofs.lemmas.List.Sums.{sum_by-cons}
use Rattle.mon_bytes.specs.Forms.{u32_bytes}
use Rattle.mon_bytes.proofs.Forms.{length-u32_bytes}
use Rattle.mon_tx.specs.Map.{Store}
use Rattle.mon_kv.specs.Chunks.{entry_len}
use Rattle.mon_kv.specs.Readers.{is_outgrown}
use Rattle.mon_journal.specs.declared.journal.Form.TheVariants.{Second}
use Rattle.mon_journal.specs.declared.journal.Journal.{Journal}
use Rattle.mon_journal.specs.Written.{payload_bytes}
use Rattle.mon_store.specs.Checkpoint.{Entry, entry_text, value_text, checkpoint_text}
use Rattle.mon_store.specs.Sound as stored
use Rattle.mon_store.specs.Sound.{is_first, next_journal}
use Rattle.quorum_model.specs.Files as model
use Rattle.quorum_model.specs.Files.{checkpoint_length, checkpoint}
use Rattle.mon_site.proofs.Standing.{file_by}

entry_is : (e : Entry) → length (entry_text e) ≡ entry_len e
entry_is e =
    let value : length (value_text e.1) ≡ length (u32_bytes (length e.1)) + length e.1 = length-append (u32_bytes (length e.1)) e.1 in
    let names : length (entry_text e) ≡ length ((length e.0.0 ∷ e.0.0) ++ (length e.0.1 ∷ e.0.1)) + length (value_text e.1) = length-append ((length e.0.0 ∷ e.0.0) ++ (length e.0.1 ∷ e.0.1)) (value_text e.1) in
    omega (arith, names, value, length-u32_bytes (length e.1), length-append (length e.0.0 ∷ e.0.0) (length e.0.1 ∷ e.0.1))

entries_are : (es : List Entry) → length (flat_map entry_text es) ≡ sum_by entry_len es
entries_are [] = refl
entries_are (e ∷ es) = omega (arith, length-append (entry_text e) (flat_map entry_text es), entry_is e, entries_are es, sum_by-cons entry_len e es)

pub checkpoint_is : (m : Store) → length (checkpoint_text m) ≡ checkpoint_length m
checkpoint_is m = omega (arith, length-append (u32_bytes (len m)) (flat_map entry_text (entries m)), length-u32_bytes (len m), entries_are (entries m))

-- the file of the journal that a checkpoint begins
pub next_file : (j : Journal) (m : Store) → file_by (next_journal j m) ≡ checkpoint (file_by j) m
next_file j m =
    let payload : length (payload_bytes (checkpoint_text m)) ≡ 4 + length (checkpoint_text m) =
    length-append (u32_bytes (length (checkpoint_text m))) (checkpoint_text m) ∙ ap (λ n. n + length (checkpoint_text m)) (length-u32_bytes (length (checkpoint_text m))) in
    let gate : 25 + suc (length (payload_bytes (checkpoint_text m))) ≡ 25 + 5 + checkpoint_length m = omega (arith, payload, checkpoint_is m) in
    ap (λ n. record { generation = j.generation + 1; gate = n }) gate

-- a checkpoint is due of a file with the second header
pub due_is : (j : Journal) (m : Store) → j.form ≡ Second → stored.is_due j m ≡ model.is_due (file_by j) m
due_is j m second = ap (λ (first : Bool). nat_lt j.generation (2 ^ 62) && (first || is_outgrown (j.next_gate + 1) m)) (ap is_first second)
