-- Entries in ascending order of prefix and then key.
use Rattle.std.proofs.Common.{◌≡◌, ℕ, List, [], ◌∷◌, ◌++◌, Less, Greater, refl, sym, ap, ◌∙◌}
use Rattle.std.specs.List.{AllByRecursion}
use Rattle.std.specs.Ordering.{ordering_reverse}
use Rattle.std.specs.FinMap.{entries, insert, empty, entries-insert, len-entries, len-empty}
use Rattle.std.specs.FinMap.Entries.{put}
use Rattle.std.proofs.lemmas.List.{nil_from_length}
use Rattle.mon_tx.specs.Map.{Place, place_cmp, Store}
use Rattle.mon_tx.proofs.Places.{places_total}
use Rattle.mon_store.specs.Checkpoint.{Entry}

-- a place above all others goes to the end
put_above : (front : List Entry) (k : Place) (v : List ℕ) → AllByRecursion (λ e. place_cmp e.0 k ≡ Less) front → put place_cmp k v front ≡ front ++ (k, v) ∷ []
put_above [] k v h = refl
put_above (x ∷ front) k v h =
    let above : place_cmp k x.0 ≡ Greater = places_total.antisymm k x.0 ∙ ap ordering_reverse h.0 in
    rw above (ap (λ (es : List Entry). x ∷ es) (put_above front k v h.1))

-- what is above the last place is above each place
abbrev pub IsAbove : Place → List Entry → Type 0
IsAbove last es = (x : Place) → place_cmp last x ≡ Less → AllByRecursion (λ e. place_cmp e.0 x ≡ Less) es

pub entries-empty : (m : Store) → m ≡ empty → entries m ≡ []
entries-empty m none = ap entries none ∙ nil_from_length (entries empty) (sym (len-entries empty) ∙ len-empty place_cmp (List ℕ))

pub above_none : (m : Store) (last : Place) → m ≡ empty → IsAbove last (entries m)
above_none m last none = λ x lt. rw (entries-empty m none) tt

append_above : (x : Place) (e : Entry) (es : List Entry) → place_cmp e.0 x ≡ Less → AllByRecursion (λ d. place_cmp d.0 x ≡ Less) es → AllByRecursion (λ d. place_cmp d.0 x ≡ Less) (es ++ e ∷ [])
append_above x e [] h all = (h, tt)
append_above x e (d ∷ es) h all = (all.0, append_above x e es h all.1)

pub stays_above : (before : Place) (e : Entry) (es : List Entry) → place_cmp before e.0 ≡ Less → IsAbove before es → IsAbove e.0 (es ++ e ∷ [])
stays_above before e es h above = λ x lt. append_above x e es lt (above x (places_total.trans before e.0 x h lt))

pub entries-inserted : (m : Store) (before : Place) (e : Entry) → place_cmp before e.0 ≡ Less → IsAbove before (entries m) → entries (insert m e.0 e.1) ≡ entries m ++ e ∷ []
entries-inserted m before e h above = entries-insert places_total m e.0 e.1 ∙ put_above (entries m) e.0 e.1 (above e.0 h)
