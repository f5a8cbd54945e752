-- What is counted on a walk over a map.
use Rattle.std.proofs.Common.{◌≡◌, ◌+◌, ◌≤◌, ℕ, Bool, true, false, cond, not, List, [], ◌∷◌, ◌++◌, length, Option, Some, None, refl, sym, ap, subst, ◌∙◌, append_assoc, length-append, arith}
use Rattle.std.proofs.lemmas.List.{append-nil}
use Rattle.std.specs.FinMap.{entries, entries_sorted, get-entries, retain_keys, len-entries}
use Rattle.std.specs.FinMap.Entries.{find-where_key, is_sorted-where_key, same_entries}
use Rattle.std.specs.List.{filter}
use Rattle.std.specs.Option.{option_map}
use Rattle.std.specs.Str.{bytes_eq}
use Rattle.mon_tx.specs.Keys.{area_text, is_local, number, shared}
use Rattle.mon_tx.specs.declared.key.Area.TheVariants as area
use Rattle.mon_tx.specs.declared.key.Key.TheVariants as key
use Rattle.mon_tx.specs.Map.{Place, Store, place_cmp}
use Rattle.mon_tx.proofs.Places.{exact_places, places_total}
use Rattle.log_model.proofs.Places.{get_kept}
use Rattle.mon_kv.specs.Chunks.{shared_of}
use Rattle.mon_kv.specs.Readers.{entry_of, entries_after, size_of, most_size}
use Rattle.mon_kv.specs.Tree.{first}
use Rattle.mon_kv.specs.declared.entry_ref.EntryRef.{EntryRef}
use Rattle.mon_store.specs.Checkpoint.{Entry}
use Rattle.mon_store.proofs.Sizes.{few_entries}
use Rattle.mon_store.proofs.Walks.{left, Walks, IsFormed, begins, left_first, left_next, goes_on}
use Rattle.mon_scrub.specs.declared.tally.Tallies.{Tallies}
use Rattle.mon_scrub.specs.Tallies.{AllCounted, HaveRoom}

pub record Along (m : Store) (last : ℕ) (t : Tallies) (next : Option EntryRef) : Type 0 where
  pub counted : List Entry
  pub are : AllCounted t counted
  pub splits : counted ++ shared_of last (left m next) ≡ entries (shared m)
  pub walks : Walks m next

-- the entries of the keys that stay are those entries that pass
entries-kept : (m : Store) (stays : Place → Bool) → entries (retain_keys m stays) ≡ filter (λ e. stays e.0) (entries m)
entries-kept m stays =
    same_entries place_cmp places_total exact_places _ _ (entries_sorted (retain_keys m stays)) (is_sorted-where_key place_cmp stays (entries m) (entries_sorted m))
    (λ q. sym (get-entries (retain_keys m stays) q) ∙ get_kept m stays q ∙ ap (λ c. cond (stays q) c None) (get-entries m q)
    ∙ sym (find-where_key place_cmp stays q (λ x e. ap stays (sym (exact_places q x e))) (entries m)))

entries-shared : (m : Store) → shared_of (number m area.Paxos key.LastCommitted) (entries m) ≡ entries (shared m)
unfolding shared
entries-shared m = sym (entries-kept m (λ at. not (is_local (number m area.Paxos key.LastCommitted) at)))

few_filtered : (p : Entry → Bool) (es : List Entry) → length (filter p es) ≤ length es
few_filtered p [] = omega arith
few_filtered p (e ∷ es) = by (p e) (few_filtered p es)
  where
    by : (b : Bool) → length (filter p es) ≤ length es → length (cond b (e ∷ filter p es) (filter p es)) ≤ length (e ∷ es)
    by true h = omega (arith, h)
    by false h = omega (arith, h)

module _ (m : Store) (last : ℕ) (is : last ≡ number m area.Paxos key.LastCommitted) where
  pub begins_along : (t : Tallies) (next : Option EntryRef) → AllCounted t [] → option_map entry_of next ≡ first (entries_after m ([], [])) → entries_after m ([], []) ≡ entries m → IsFormed next → Along m last t next
  begins_along t next none found start form = record {
    counted = [];
    are = none;
    splits = (λ i. shared_of (is i) (left_first m next found start i)) ∙ entries-shared m;
    walks = begins m next found start form;
  }

  pub has_room : (t : Tallies) (next : Option EntryRef) → Along m last t next → size_of m ≤ most_size → HaveRoom t
  has_room t next a small =
      let few = few_entries m in
      let n = len-entries m in
      let all : length a.counted + length (shared_of last (left m next)) ≡ length (entries (shared m)) = sym (length-append a.counted (shared_of last (left m next))) ∙ ap length a.splits in
      let shared_few : length (entries (shared m)) ≤ length (entries m) = subst (λ es. length es ≤ length (entries m)) (entries-shared m) (few_filtered (λ e. not (is_local (number m area.Paxos key.LastCommitted) e.0)) (entries m)) in (
        omega (arith, few, n, all, shared_few, small, a.are.kv.keys, few_filtered (λ e. bytes_eq e.0.0 (area_text area.Kv)) a.counted),
        omega (arith, few, n, all, shared_few, small, a.are.logm.keys, few_filtered (λ e. bytes_eq e.0.0 (area_text area.Logm)) a.counted),
        omega (arith, few, n, all, shared_few, small, a.are.paxos.keys, few_filtered (λ e. bytes_eq e.0.0 (area_text area.Paxos)) a.counted),
      )

  pub goes_along : (t u : Tallies) (e : EntryRef) (next : Option EntryRef) → Along m last t (Some e)
      → ((es : List Entry) → AllCounted t es → AllCounted u (es ++ shared_of last (entry_of e ∷ [])))
      → option_map entry_of next ≡ first (entries_after m (entry_of e).0) → size_of m ≤ most_size → IsFormed next → Along m last u next
  goes_along t u e next a more found small form = record {
    counted = a.counted ++ shared_of last (entry_of e ∷ []);
    are = more a.counted a.are;
    splits = append_assoc a.counted (shared_of last (entry_of e ∷ [])) (shared_of last (left m next))
        ∙ ap (λ es. a.counted ++ es) (by (not (is_local last (entry_of e).0)) ∙ ap (shared_of last) (sym (left_next m e next found))) ∙ a.splits;
    walks = goes_on m e next found a.walks (omega (arith, small)) form;
  }
    where
      by : (b : Bool) → cond b (entry_of e ∷ []) [] ++ shared_of last (left m next) ≡ cond b (entry_of e ∷ shared_of last (left m next)) (shared_of last (left m next))
      by true = refl
      by false = refl

  pub all_along : (t : Tallies) → Along m last t None → AllCounted t (entries (shared m))
  all_along t a = subst (AllCounted t) (sym (append-nil a.counted) ∙ a.splits) a.are
