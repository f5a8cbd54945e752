-- What is at a place after changes, by what they leave if nothing was before, and by whether one of them takes the place
-- away.
use Rattle.std.proofs.Common.{◌≡◌, ℕ, Bool, true, false, ◌&&◌, ◌||◌, cond, List, [], ◌∷◌, Some, None, is_some, refl, sym, ap, ◌∙◌}
use Rattle.std.specs.FinMap.{get, empty, get-empty}
use Rattle.std.specs.List.{AllByRecursion, filter, list_any}
use Rattle.std.specs.Ordering.{eq_by_cmp}
use Rattle.std.specs.Str.{bytes_eq}
use Rattle.mon_tx.specs.Decision.{Cell, Decision, decided, or_before, later, decision}
use Rattle.mon_tx.specs.Keys.{area_text, key_text, place, cell, covers}
use Rattle.mon_tx.specs.Map.{Place, place_cmp, Store, apply}
use Rattle.mon_tx.specs.declared.key.Area.{Area}
use Rattle.mon_tx.specs.declared.key.Key.{Key}
use Rattle.mon_tx.specs.declared.op.Op.TheVariants.{Put, Erase, ErasePrefix, EraseRange}
use Rattle.mon_tx.specs.declared.op.Op.{Op}
use Rattle.mon_tx.proofs.After.{get-apply}
use Rattle.mon_tx.proofs.Ranges.{key_within}
use Rattle.mon_msg.specs.Joined.{takes_away}
use Rattle.mon_msg.specs.Protocol.Changes.{Change, encoded}
use Rattle.mon_msg.specs.Protocol.Played.{Fits, played}
use Rattle.mon_msg.specs.Protocol.Readings.{readings_of}
use Rattle.mon_msg.proofs.Changed.{readings-joined}
use Rattle.mon_msg.proofs.Joining.{neither, apply-joined}
use Rattle.mon_stored.specs.Taking.{is_taking}

-- puts don't matter for whether a place is erased
pub taken-filter : (at : Place) (ops : List Op) → list_any (takes_away at) (filter is_taking ops) ≡ list_any (takes_away at) ops
taken-filter at [] = refl
taken-filter at (Put prefix key value ∷ ops) = taken-filter at ops
taken-filter at (Erase prefix key ∷ ops) = ap (λ b. takes_away at (Erase prefix key) || b) (taken-filter at ops)
taken-filter at (ErasePrefix prefix ∷ ops) = ap (λ b. takes_away at (ErasePrefix prefix) || b) (taken-filter at ops)
taken-filter at (EraseRange prefix from to ∷ ops) = ap (λ b. takes_away at (EraseRange prefix from to) || b) (taken-filter at ops)

-- a change that doesn't touch a place doesn't erase it
untaken : (at : Place) (op : Op) → decided op at ≡ None → takes_away at op ≡ false
untaken at (Put prefix key value) h = refl
untaken at (Erase prefix key) h = ap is_some h
untaken at (ErasePrefix prefix) h = ap is_some h
untaken at (EraseRange prefix from to) h = ap is_some h

none_of : (a b : Decision) → later a b ≡ None → (a ≡ None) × (b ≡ None)
none_of None b h = (refl, h)
none_of (Some x) b h = cc

undecided : (ops : List Op) (at : Place) → decision ops at ≡ None → list_any (takes_away at) ops ≡ false
undecided [] at h = refl
undecided (op ∷ ops) at h =
    let both = none_of (decision ops at) (decided op at) h in
    λ i. untaken at op both.1 i || undecided ops at both.0 i

-- a change that touches a place without erasing it puts a value there
put_there : (test : Bool) (value : List ℕ) → cond test (Some (Some value)) None ≡ Some None → ⊥
put_there true value h = cc
put_there false value h = cc

taken_there : (d : Decision) → is_some d ≡ false → d ≡ Some None → ⊥
taken_there None g h = cc
taken_there (Some x) g h = cc

kept_there : (at : Place) (op : Op) → takes_away at op ≡ false → decided op at ≡ Some None → ⊥
kept_there at (Put prefix key value) g h = put_there _ value h
kept_there at (Erase prefix key) g h = taken_there _ g h
kept_there at (ErasePrefix prefix) g h = taken_there _ g h
kept_there at (EraseRange prefix from to) g h = taken_there _ g h

pub decides_there : (ops : List Op) (at : Place) → list_any (takes_away at) ops ≡ false → decision ops at ≡ Some None → ⊥
decides_there [] at g h = cc
decides_there (op ∷ ops) at g h =
    let both = neither (takes_away at op) (list_any (takes_away at) ops) g in
    by (decision ops at) refl (λ e. decides_there ops at both.1 e) (λ e. kept_there at op both.0 e) h
  where
    by : (d : Decision) → decision ops at ≡ d → (decision ops at ≡ Some None → ⊥) → (decided op at ≡ Some None → ⊥) → later d (decided op at) ≡ Some None → ⊥
    by None e further here h = here h
    by (Some x) e further here h = further (e ∙ h)

-- ---- what takes a place away

abbrev pub erased : Bool → Decision
erased b = cond b (Some None) None

settled : (b : Bool) → b ≡ is_some (erased b)
settled true = refl
settled false = refl

pub erase_takes : (at : Place) (prefix key : List ℕ) → eq_by_cmp place_cmp at (prefix, key) ≡ takes_away at (Erase prefix key)
erase_takes at prefix key = settled (eq_by_cmp place_cmp at (prefix, key))

pub prefix_takes : (at : Place) (prefix : List ℕ) → bytes_eq at.0 prefix ≡ takes_away at (ErasePrefix prefix)
prefix_takes at prefix = settled (bytes_eq at.0 prefix)

pub range_takes : (p prefix : List ℕ) (from to : ℕ) (k : Key) → (bytes_eq p prefix && covers from to k) ≡ takes_away (p, key_text k) (EraseRange prefix from to)
range_takes p prefix from to k =
    settled (bytes_eq p prefix && covers from to k) ∙ ap (λ b. is_some (erased (bytes_eq p prefix && b))) (sym (key_within from to k))

-- ---- readings

module _ (ops : List Op) (m : Store) (at : Place) where
  nothing : get (apply ops empty) at ≡ or_before (decision ops at) None
  nothing = get-apply ops empty at ∙ ap (or_before (decision ops at)) (get-empty place_cmp at)

  pub found : (bytes : List ℕ) → Some bytes ≡ get (apply ops empty) at → Some bytes ≡ get (apply ops m) at
  found bytes h = by (decision ops at) (h ∙ nothing) ∙ sym (get-apply ops m at)
    where
      by : (d : Decision) → Some bytes ≡ or_before d None → Some bytes ≡ or_before d (get m at)
      by None h = cc
      by (Some x) h = h

  pub gone : None ≡ get (apply ops empty) at → list_any (takes_away at) (filter is_taking ops) ≡ true → None ≡ get (apply ops m) at
  gone h g = by (decision ops at) refl (h ∙ nothing) ∙ sym (get-apply ops m at)
    where
      by : (d : Decision) → decision ops at ≡ d → None ≡ or_before d None → None ≡ or_before d (get m at)
      by None e h = let lost : true ≡ false = sym g ∙ taken-filter at ops ∙ undecided ops at e in absurd cc
      by (Some x) e h = h

  pub still : None ≡ get (apply ops empty) at → list_any (takes_away at) (filter is_taking ops) ≡ false → get m at ≡ get (apply ops m) at
  still h g = by (decision ops at) refl (h ∙ nothing) ∙ sym (get-apply ops m at)
    where
      by : (d : Decision) → decision ops at ≡ d → None ≡ or_before d None → get m at ≡ or_before d (get m at)
      by None e h = refl
      by (Some x) e h = absurd (decides_there ops at (sym (taken-filter at ops) ∙ g) (e ∙ ap Some (sym h)))

-- reading by two parts: what the changes put, and which of them erase keys
module _ (ops : List Op) (kv put now : Store) (prefix text : List ℕ) (a : Area) (k : Key)
    (made : put ≡ apply ops empty) (view : apply ops kv ≡ now) (p : prefix ≡ area_text a) (t : text ≡ key_text k) where
  there : get put (prefix, text) ≡ get (apply ops empty) (place a k)
  there = λ i. get (made i) (p i, t i)

  pub read-put : (bytes : List ℕ) → Some bytes ≡ get put (prefix, text) → Some bytes ≡ cell now a k
  read-put bytes h = found ops kv (place a k) bytes (h ∙ there) ∙ ap (λ m. get m (place a k)) view

  module _ (taken : List Op) (those : taken ≡ filter is_taking ops) (h : None ≡ get put (prefix, text)) where
    any : list_any (takes_away (prefix, text)) taken ≡ list_any (takes_away (place a k)) (filter is_taking ops)
    any = λ i. list_any (takes_away (p i, t i)) (those i)

    pub read-still : (r : Cell) → r ≡ cond (list_any (takes_away (prefix, text)) taken) None (get kv (prefix, text)) → r ≡ cell now a k
    read-still r is = is ∙ by (list_any (takes_away (prefix, text)) taken) refl ∙ ap (λ m. get m (place a k)) view
      where
        by : (b : Bool) → list_any (takes_away (prefix, text)) taken ≡ b → cond b None (get kv (prefix, text)) ≡ get (apply ops kv) (place a k)
        by true e = gone ops kv (place a k) (h ∙ there) (sym any ∙ e)
        by false e = (λ i. get kv (p i, t i)) ∙ still ops kv (place a k) (h ∙ there) (sym any ∙ e)

-- what a store's readers return after changes that are encoded
pub readings-after : (cs : List Change) → AllByRecursion Fits cs → (m : Store) → readings_of (apply (encoded cs) m) ≡ played cs (readings_of m)
readings-after cs fit m = ap readings_of (sym (apply-joined (encoded cs) m)) ∙ readings-joined cs fit m
