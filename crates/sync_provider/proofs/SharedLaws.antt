-- The shared entries after a place, as a map's runs have them.
use Rattle.std.proofs.Common.{◌≡◌, ℕ, Bool, true, false, not, cond, List, [], ◌∷◌, map, refl, sym, ap, ◌∙◌, None}
use Rattle.std.specs.declared.cmp.Ordering.TheVariants.{Equal}
use Rattle.std.specs.FinMap.{entries, entries_sorted, entries-from_sorted, from_sorted, get-entries, get-from_sorted, get-retain_keys, retain_keys, same_map}
use Rattle.std.specs.FinMap.Entries.{find-where_key, is_sorted-where_key, where_key}
use Rattle.std.specs.List.{filter}
use Rattle.std.specs.Ordering.{is_lt}
use Rattle.mon_bytes.specs.declared.entry.Entry.{Entry}
use Rattle.mon_bytes.specs.declared.entry.KeyPlace.TheVariants as key_place
use Rattle.mon_bytes.specs.declared.entry.KeyPlace.{KeyPlace}
use Rattle.mon_kv.specs.Chunks.{shared_after, shared_of}
use Rattle.mon_kv.specs.Readers.{entries_after}
use Rattle.mon_msg.specs.Protocol.Places.{is_after}
use Rattle.mon_msg.specs.Protocol.Readings.{shared_entries}
use Rattle.mon_tx.proofs.Places.{exact_places, places_total}
use Rattle.mon_tx.specs.Keys.{is_local, number, shared}
use Rattle.mon_tx.specs.Map.{Place, Store, place_cmp}
use Rattle.mon_tx.specs.declared.key.Area.TheVariants as area
use Rattle.mon_tx.specs.declared.key.Key.TheVariants as key
use Rattle.sync_provider.specs.Rows.{remaining_after}

abbrev pub Entries : Type 0
Entries = List (Place × List ℕ)

abbrev pub entry_of : Place × List ℕ → Entry
entry_of e = record { prefix = e.0.0; key = e.0.1; value = e.1 }

-- ---- filters

filter_map : (test : Entry → Bool) (es : Entries) → filter test (map entry_of es) ≡ map entry_of (filter (λ e. test (entry_of e)) es)
filter_map test [] = refl
filter_map test (e ∷ es) = by (test (entry_of e)) (filter_map test es)
  where
    by : (b : Bool) → filter test (map entry_of es) ≡ map entry_of (filter (λ e. test (entry_of e)) es)
        → cond b (entry_of e ∷ filter test (map entry_of es)) (filter test (map entry_of es)) ≡ map entry_of (cond b (e ∷ filter (λ e. test (entry_of e)) es) (filter (λ e. test (entry_of e)) es))
    by true h = ap (λ xs. entry_of e ∷ xs) h
    by false h = h

filters_swap : (p q : Place × List ℕ → Bool) (es : Entries) → filter p (filter q es) ≡ filter q (filter p es)
filters_swap p q [] = refl
filters_swap p q (e ∷ es) = by (p e) (q e) refl refl (filters_swap p q es)
  where
    by : (a b : Bool) → p e ≡ a → q e ≡ b → filter p (filter q es) ≡ filter q (filter p es)
        → filter p (cond b (e ∷ filter q es) (filter q es)) ≡ filter q (cond a (e ∷ filter p es) (filter p es))
    by true true h g r = ap (λ t. cond t (e ∷ filter p (filter q es)) (filter p (filter q es))) h ∙ ap (λ xs. e ∷ xs) r ∙ sym (ap (λ t. cond t (e ∷ filter q (filter p es)) (filter q (filter p es))) g)
    by true false h g r = r ∙ sym (ap (λ t. cond t (e ∷ filter q (filter p es)) (filter q (filter p es))) g)
    by false true h g r = ap (λ t. cond t (e ∷ filter p (filter q es)) (filter p (filter q es))) h ∙ r
    by false false h g r = r

filter_all : (es : List Entry) → filter (λ e. true) es ≡ es
filter_all [] = refl
filter_all (e ∷ es) = ap (λ xs. e ∷ xs) (filter_all es)

pub filter_none : (es : List Entry) → filter (λ e. false) es ≡ []
filter_none [] = refl
filter_none (e ∷ es) = filter_none es

-- ---- the entries that a test keeps

entries-retain_keys : (m : Store) (test : Place → Bool) → entries (retain_keys m test) ≡ filter (λ e. test e.0) (entries m)
entries-retain_keys m test =
    let kept = where_key place_cmp test (entries m) in
    let sorted = is_sorted-where_key place_cmp test (entries m) (entries_sorted m) in
    let alike = λ (q x : Place) (tied : place_cmp q x ≡ Equal). ap test (sym (exact_places q x tied)) in
    ap entries (same_map places_total exact_places (retain_keys m test) (from_sorted kept) (λ q.
    get-retain_keys m test q (alike q)
    ∙ ap (λ o. cond (test q) o None) (get-entries m q)
    ∙ sym (get-from_sorted place_cmp kept q sorted ∙ find-where_key place_cmp test q (alike q) (entries m))))
    ∙ entries-from_sorted place_cmp kept sorted

shared_entries-is : (m : Store) → shared_entries m ≡ map entry_of (shared_of (number m area.Paxos key.LastCommitted) (entries m))
unfolding shared_entries shared
shared_entries-is m = ap (map entry_of) (entries-retain_keys m (λ at. not (is_local (number m area.Paxos key.LastCommitted) at)))

pub left-shared : (m : Store) (at : KeyPlace) → remaining_after m at ≡ map entry_of (shared_after m at)
unfolding shared_after entries_after
left-shared m key_place.Start = filter_all (shared_entries m) ∙ shared_entries-is m
left-shared m (key_place.After prefix own) =
    ap (filter (is_after (key_place.After prefix own))) (shared_entries-is m)
    ∙ filter_map (is_after (key_place.After prefix own)) (shared_of (number m area.Paxos key.LastCommitted) (entries m))
    ∙ ap (map entry_of) (filters_swap (λ e. is_lt (place_cmp (prefix, own) e.0)) (λ e. not (is_local (number m area.Paxos key.LastCommitted) e.0)) (entries m))
left-shared m key_place.Done = filter_none (shared_entries m)
