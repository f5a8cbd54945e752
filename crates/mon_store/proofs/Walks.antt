-- A walk over the entries of a map, from one to the next.
use Rattle.std.proofs.Common.{◌≡◌, ◌+◌, ◌≤◌, ◌<◌, ◌^◌, List, [], ◌∷◌, ◌++◌, Option, Some, None, IsTrue, length, refl, sym, ap, subst, ◌∙◌, arith}
use Rattle.std.specs.Prelude.{IfSome}
use Rattle.std.specs.List.{flat_map, sum_by, AllByRecursion}
use Rattle.std.specs.Option.{option_map}
use Rattle.std.specs.FinMap.{entries, len, len-entries}
use Rattle.std.proofs.lemmas.List.Sums.{sum_by-cons}
use Rattle.mon_bytes.specs.Texts.{is_name, is_prefix}
use Rattle.mon_tx.specs.Map.{Place, Store}
use Rattle.mon_kv.specs.Tree.{first}
use Rattle.mon_kv.specs.Readers.{entry_of, entry_size, size_of, entries_after}
use Rattle.mon_kv.specs.declared.entry_ref.EntryRef.{EntryRef}
use Rattle.mon_kv.proofs.ChunkLaws.{entries_after-tail}
use Rattle.mon_store.specs.Checkpoint.{Entry, entry_text, EntryFits}

-- an entry and those after it
abbrev pub from : Store → Option Entry → List Entry
from m None = []
from m (Some e) = e ∷ entries_after m e.0

pub from_found : (m : Store) (place : Place) (next : Option Entry) → next ≡ first (entries_after m place) → from m next ≡ entries_after m place
from_found m place None found = none (entries_after m place) found
  where
    none : (es : List Entry) → None ≡ first es → [] ≡ es
    none [] h = refl
    none (e ∷ es) h = absurd cc
from_found m place (Some e) found = sym (entries_after-tail m place e (sym found))

-- an entry that was found has a prefix and a key of their forms
abbrev pub IsFormed : Option EntryRef → Type 0
IsFormed next = IfSome next (λ e. IsTrue (is_prefix e.prefix.now) × IsTrue (is_name e.key.now))

abbrev pub left : Store → Option EntryRef → List Entry
left m next = from m (option_map entry_of next)

-- The entries from `next` on are no larger than the map. If each of them has the form of an entry, then so has each
-- entry of the map.
pub record Walks (m : Store) (next : Option EntryRef) : Type 0 where
  pub size : sum_by entry_size (left m next) ≤ size_of m
  pub each : AllByRecursion EntryFits (left m next) → AllByRecursion EntryFits (entries m)
  pub form : IsFormed next

module _ (m : Store) (next : Option EntryRef) (found : option_map entry_of next ≡ first (entries_after m ([], []))) (start : entries_after m ([], []) ≡ entries m) where
  pub left_first : left m next ≡ entries m
  left_first = from_found m ([], []) (option_map entry_of next) found ∙ start

  pub begins : IsFormed next → Walks m next
  unfolding size_of
  begins form = record { size = let all : sum_by entry_size (left m next) ≡ sum_by entry_size (entries m) = ap (sum_by entry_size) left_first in omega (arith, all); each = subst (AllByRecursion EntryFits) left_first; form = form }

  pub count_first : length (left m next) ≡ len m
  count_first = ap length left_first ∙ sym (len-entries m)

module _ (m : Store) (e : EntryRef) (next : Option EntryRef) (found : option_map entry_of next ≡ first (entries_after m (entry_of e).0)) where
  pub left_next : left m (Some e) ≡ entry_of e ∷ left m next
  left_next = ap (λ (es : List Entry). entry_of e ∷ es) (sym (from_found m (entry_of e).0 (option_map entry_of next) found))

  pub fewer : length (left m (Some e)) ≡ 1 + length (left m next)
  fewer = let l = ap length left_next in omega (arith, l)

  pub value_is_short : Walks m (Some e) → length e.value.now ≤ size_of m
  value_is_short w = omega (arith, w.size, sum_by-cons entry_size (entry_of e) (entries_after m (entry_of e).0))

  pub goes_on : Walks m (Some e) → size_of m < 2 ^ 32 → IsFormed next → Walks m next
  goes_on w small form =
      let all : sum_by entry_size (left m (Some e)) ≡ sum_by entry_size (entry_of e ∷ left m next) = ap (sum_by entry_size) left_next in
      let short : length e.value.now < 2 ^ 32 = omega (arith, value_is_short w, small) in
      record {
        size = omega (arith, w.size, all, sum_by-cons entry_size (entry_of e) (left m next));
        each = λ rest. w.each (subst (AllByRecursion EntryFits) (sym left_next) ((w.form.0, w.form.1, short), rest));
        form = form;
      }

  pub texts : flat_map entry_text (left m (Some e)) ≡ entry_text (entry_of e) ++ flat_map entry_text (left m next)
  texts = ap (flat_map entry_text) left_next
