-- What a change of named keys decides of a named place.
use Rattle.std.proofs.Common.{◌≡◌, ℕ, Bool, true, false, cond, ◌&&◌, leb, ltb, List, Option, Some, None, refl, sym, ap, ◌∙◌}
use Rattle.std.specs.FinMap.{get}
use Rattle.std.proofs.lemmas.Map.Text.{is_eq-slice_cmp}
use Rattle.std.specs.Str.{bytes_eq}
use Rattle.mon_tx.specs.declared.key.Area.{Area}
use Rattle.mon_tx.specs.declared.key.Key.{Key}
use Rattle.mon_tx.specs.declared.op.Op.TheVariants.{Put, Erase, ErasePrefix, EraseRange}
use Rattle.mon_tx.specs.Keys.{decimal_text, area_text, key_text, place, same_area, same_key, covers}
use Rattle.mon_tx.specs.Decision.{decided, or_before}
use Rattle.mon_tx.specs.Map.{Store, apply_op}
use Rattle.mon_tx.proofs.After.{get-apply_op}
use Rattle.mon_tx.proofs.Ties.{same_text, area_tie, place_tie}
use Rattle.mon_tx.proofs.Ranges.{decimal_within, key_within}

pub area_is : (b a : Area) → bytes_eq (area_text b) (area_text a) ≡ same_area b a
area_is b a = sym (is_eq-slice_cmp (area_text b) (area_text a)) ∙ area_tie b a

pub decided-put : (a : Area) (n : Key) (value : List ℕ) (b : Area) (k : Key)
    → decided (Put (area_text a) (key_text n) value) (place b k) ≡ cond (same_area b a && same_key k n) (Some (Some value)) None
decided-put a n value b k = ap (λ t. cond t (Some (Some value)) None) (place_tie b a k n)

pub decided-erase : (a : Area) (n : Key) (b : Area) (k : Key) → decided (Erase (area_text a) (key_text n)) (place b k) ≡ cond (same_area b a && same_key k n) (Some None) None
decided-erase a n b k = ap (λ t. cond t (Some None) None) (place_tie b a k n)

pub decided-erase_prefix : (a b : Area) (k : Key) → decided (ErasePrefix (area_text a)) (place b k) ≡ cond (same_area b a) (Some None) None
decided-erase_prefix a b k = ap (λ t. cond t (Some None) None) (area_is b a)

pub decided-erase_range : (a : Area) (from to : ℕ) (b : Area) (k : Key)
    → decided (EraseRange (area_text a) from to) (place b k) ≡ cond (same_area b a && covers from to k) (Some None) None
decided-erase_range a from to b k = λ i. cond (area_is b a i && key_within from to k i) (Some None) None

same_prefix : (prefix : List ℕ) → bytes_eq prefix prefix ≡ true
same_prefix prefix = sym (is_eq-slice_cmp prefix prefix) ∙ same_text prefix

erased : (test : Bool) (before : Option (List ℕ)) → or_before (cond test (Some None) None) before ≡ cond test None before
erased true before = refl
erased false before = refl

pub range_of_versions : (m : Store) (prefix : List ℕ) (from to v : ℕ)
    → get (apply_op (EraseRange prefix from to) m) (prefix, decimal_text v) ≡ cond (leb from v && ltb v to) None (get m (prefix, decimal_text v))
range_of_versions m prefix from to v =
    get-apply_op (EraseRange prefix from to) m (prefix, decimal_text v)
    ∙ (λ i. or_before (cond (same_prefix prefix i && decimal_within from to v i) (Some None) None) (get m (prefix, decimal_text v)))
    ∙ erased (leb from v && ltb v to) (get m (prefix, decimal_text v))

pub range_of_named : (m : Store) (prefix : List ℕ) (from to : ℕ) (key : Key) → covers from to key ≡ false
    → get (apply_op (EraseRange prefix from to) m) (prefix, key_text key) ≡ get m (prefix, key_text key)
range_of_named m prefix from to key out =
    get-apply_op (EraseRange prefix from to) m (prefix, key_text key)
    ∙ (λ i. or_before (cond (same_prefix prefix i && (key_within from to key ∙ out) i) (Some None) None) (get m (prefix, key_text key)))
