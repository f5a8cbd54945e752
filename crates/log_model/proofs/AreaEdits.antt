-- Changes of one area by key: encoded, and played on what is under one key.
use Rattle.std.proofs.Common.{◌≡◌, ℕ, Bool, true, false, ◌&&◌, cond, List, [], ◌∷◌, ◌++◌, map, Some, None, refl, ap, ◌∙◌}
use Rattle.mon_tx.specs.declared.op.Op.{Op}
use Rattle.mon_tx.specs.declared.op.Op.TheVariants.{EraseRange}
use Rattle.mon_tx.specs.declared.key.Area.{Area}
use Rattle.mon_tx.specs.declared.key.Key.{Key}
use Rattle.mon_tx.specs.Keys.{area_text, place, same_area, same_key, covers}
use Rattle.mon_tx.specs.Decision.{Cell, Decision, decided, decision, later, or_before}
use Rattle.mon_tx.proofs.After.{decision-append}
use Rattle.mon_tx.proofs.Named.{decided-put, decided-erase, decided-erase_range}
use Rattle.mon_tx.proofs.Ties.{same_area_itself}
use Rattle.mon_msg.specs.Puts.{put}
use Rattle.mon_msg.specs.Protocol.Readings.{cell_after}
use Rattle.mon_msg.specs.Protocol.Changes.{erase}

pub data Edit : Type 0 where
  Set : (k : Key) → (bytes : List ℕ) → Edit
  Drop : (k : Key) → Edit
  DropRange : (from to : ℕ) → Edit

abbrev pub op_of : Area → Edit → Op
op_of a (Set k bytes) = put a k bytes
op_of a (Drop k) = erase a k
op_of a (DropRange from to) = EraseRange (area_text a) from to

abbrev pub encoded : Area → List Edit → List Op
encoded a es = map (op_of a) es

abbrev pub left : Edit → Key → Cell → Cell
left (Set k bytes) j c = cond (same_key j k) (Some bytes) c
left (Drop k) j c = cond (same_key j k) None c
left (DropRange from to) j c = cond (covers from to j) None c

-- what edits leave under a key
abbrev pub final : List Edit → Key → Cell → Cell
final [] k c = c
final (e ∷ es) k c = final es k (left e k c)

pub final_append : (a b : List Edit) (k : Key) (c : Cell) → final (a ++ b) k c ≡ final b k (final a k c)
final_append [] b k c = refl
final_append (e ∷ es) b k c = final_append es b k (left e k c)

pub encoded_append : (a : Area) (es fs : List Edit) → encoded a (es ++ fs) ≡ encoded a es ++ encoded a fs
encoded_append a [] fs = refl
encoded_append a (e ∷ es) fs = ap (λ (z : List Op). op_of a e ∷ z) (encoded_append a es fs)

-- ---- what changes leave at a named place

or_before-later : (a b : Decision) (c : Cell) → or_before (later a b) c ≡ or_before a (or_before b c)
or_before-later (Some x) b c = refl
or_before-later None b c = refl

pub cell_after-append : (a b : List Op) (p : Area) (k : Key) (c : Cell) → cell_after (a ++ b) p k c ≡ cell_after b p k (cell_after a p k c)
cell_after-append a b p k c = ap (λ d. or_before d c) (decision-append a b (place p k)) ∙ or_before-later (decision b (place p k)) (decision a (place p k)) c

chosen : (t : Bool) (x c : Cell) → or_before (cond t (Some x) None) c ≡ cond t x c
chosen true x c = refl
chosen false x c = refl

one : (a : Area) (e : Edit) (k : Key) (c : Cell) → or_before (decided (op_of a e) (place a k)) c ≡ left e k c
one a (Set j x) k c = (λ i. or_before ((decided-put a j x a k ∙ ap (λ t. cond (t && same_key k j) (Some (Some x)) None) (same_area_itself a)) i) c) ∙ chosen (same_key k j) (Some x) c
one a (Drop j) k c = (λ i. or_before ((decided-erase a j a k ∙ ap (λ t. cond (t && same_key k j) (Some None) None) (same_area_itself a)) i) c) ∙ chosen (same_key k j) None c
one a (DropRange from to) k c = (λ i. or_before ((decided-erase_range a from to a k ∙ ap (λ t. cond (t && covers from to k) (Some None) None) (same_area_itself a)) i) c) ∙ chosen (covers from to k) None c

one_elsewhere : (a b : Area) (e : Edit) (k : Key) → same_area b a ≡ false → decided (op_of a e) (place b k) ≡ None
one_elsewhere a b (Set j x) k h = decided-put a j x b k ∙ ap (λ t. cond (t && same_key k j) (Some (Some x)) None) h
one_elsewhere a b (Drop j) k h = decided-erase a j b k ∙ ap (λ t. cond (t && same_key k j) (Some None) None) h
one_elsewhere a b (DropRange from to) k h = decided-erase_range a from to b k ∙ ap (λ t. cond (t && covers from to k) (Some None) None) h

-- in their own area
pub cell_here : (a : Area) (es : List Edit) (k : Key) (c : Cell) → cell_after (encoded a es) a k c ≡ final es k c
cell_here a [] k c = refl
cell_here a (e ∷ es) k c = or_before-later (decision (encoded a es) (place a k)) (decided (op_of a e) (place a k)) c ∙ ap (cell_after (encoded a es) a k) (one a e k c) ∙ cell_here a es k (left e k c)

-- in another area
pub cell_elsewhere : (a b : Area) (es : List Edit) (k : Key) (c : Cell) → same_area b a ≡ false → cell_after (encoded a es) b k c ≡ c
cell_elsewhere a b [] k c h = refl
cell_elsewhere a b (e ∷ es) k c h =
    or_before-later (decision (encoded a es) (place b k)) (decided (op_of a e) (place b k)) c ∙ ap (λ d. cell_after (encoded a es) b k (or_before d c)) (one_elsewhere a b e k h)
    ∙ cell_elsewhere a b es k c h
