-- One more payload of a file, and a file that begins with a checkpoint.
use Rattle.std.proofs.Common.{◌≡◌, ℕ, ◌+◌, ◌≤◌, Bool, true, false, cond, eqb, List, [], ◌∷◌, ◌++◌, length, Option, Some, None, Ok, refl, sym, ap, subst, ◌∙◌}
use Rattle.std.specs.FinMap.{empty}
use Rattle.std.specs.List.{list_any}
use Rattle.std.proofs.lemmas.Bool.{le-leb}
use Rattle.mon_bytes.specs.Answers.{◌>>=◌}
use Rattle.mon_tx.specs.declared.op.Op.{Op}
use Rattle.mon_tx.specs.Map.{Store, apply}
use Rattle.mon_tx.specs.Text.{text, is_range}
use Rattle.mon_tx.specs.Decode.{HasText}
use Rattle.mon_tx.proofs.Again.{transaction_again}
use Rattle.mon_kv.specs.Readers.{size_of}
use Rattle.mon_store.specs.Checkpoint.{checkpoint_text, most_size, HasCheckpoint}
use Rattle.mon_store.specs.Payloads.{within, changed, after, is_checkpoint, begun, at_fault, folded, map_of}
use Rattle.mon_store.proofs.Again.{checkpoint_again}

within_is : (m : Store) → size_of m ≤ most_size → within m ≡ Some m
within_is m small = ap (λ b. cond b (Some m) None) (le-leb (size_of m) most_size small)

-- what a transaction's text makes of a map
after_text : (ops : List Op) (m : Store) → HasText ops → size_of (apply ops m) ≤ most_size → after (text ops) m ≡ Some (apply ops m)
unfolding after
after_text ops m form small = ap (changed m) (transaction_again ops form) ∙ within_is (apply ops m) small

-- no transaction begins as a checkpoint
no_checkpoint : (ops : List Op) → is_checkpoint (text ops) ≡ false
no_checkpoint ops = by (list_any is_range ops)
  where
    by : (b : Bool) → eqb (cond b 2 1) 128 ≡ false
    by true = refl
    by false = refl

begun_text : (ops : List Op) → HasText ops → size_of (apply ops empty) ≤ most_size → begun (text ops) ≡ Some (apply ops empty)
unfolding begun
begun_text ops form small = rw (no_checkpoint ops) (after_text ops empty form small)

folded_more : (payloads : List (List ℕ)) (at : ℕ) (m n : Store) (ops : List Op) → folded payloads at m ≡ Ok n → HasText ops → size_of (apply ops n) ≤ most_size → folded (payloads ++ text ops ∷ []) at m ≡ Ok (apply ops n)
unfolding folded
folded_more [] at m n ops so_far form small =
    let same : m ≡ n = cc in
    rw (same, after_text ops n form small) refl
folded_more (payload ∷ payloads) at m n ops so_far form small = by (after payload m) (λ next h. folded_more payloads (at + 5 + length payload) next n ops h form small) so_far
  where
    by : (next : Option Store) → ((x : Store) → folded payloads (at + 5 + length payload) x ≡ Ok n → folded (payloads ++ text ops ∷ []) (at + 5 + length payload) x ≡ Ok (apply ops n)) → (at_fault at next >>= folded payloads (at + 5 + length payload)) ≡ Ok n → (at_fault at next >>= folded (payloads ++ text ops ∷ []) (at + 5 + length payload)) ≡ Ok (apply ops n)
    by None more h = absurd cc
    by (Some next) more h = more next h

-- a file with one more record represents what its transaction makes of the map
pub map_more : (payloads : List (List ℕ)) (m : Store) (ops : List Op) → map_of payloads ≡ Ok m → HasText ops → size_of (apply ops m) ≤ most_size → map_of (payloads ++ text ops ∷ []) ≡ Ok (apply ops m)
unfolding map_of folded
map_more [] m ops so_far form small =
    let same : empty ≡ m = cc in
    let small_first : size_of (apply ops empty) ≤ most_size = subst (λ n. size_of (apply ops n) ≤ most_size) (sym same) small in
    rw (begun_text ops form small_first) (ap (λ n. Ok (apply ops n)) same)
map_more (payload ∷ payloads) m ops so_far form small = by (begun payload) so_far
  where
    by : (first : Option Store) → (at_fault 30 first >>= folded payloads (35 + length payload)) ≡ Ok m → (at_fault 30 first >>= folded (payloads ++ text ops ∷ []) (35 + length payload)) ≡ Ok (apply ops m)
    by None h = absurd cc
    by (Some first) h = folded_more payloads (35 + length payload) first m ops h form small

-- a file that begins with a checkpoint of a map, and has no other record, represents that map
pub map_checkpoint : (m : Store) → HasCheckpoint m → size_of m ≤ most_size → map_of (checkpoint_text m ∷ []) ≡ Ok m
unfolding map_of begun folded
map_checkpoint m form small = rw (checkpoint_again m (record { at = 0; rest = checkpoint_text m }) refl form, within_is m small) refl
