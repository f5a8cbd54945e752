-- Changes are joined by an index of the place of each key's put.
use Rattle.std.proofs.Common.{◌≡◌, ℕ, zero, suc, ◌+◌, ◌-◌, ◌≤◌, ◌<◌, ◌^◌, Bool, true, false, not, ◌&&◌, ◌||◌, cond, List, [], ◌∷◌, ◌++◌, length, take, drop, drop-cons, get_or, set, Option, Some, None, is_some, refl, sym, ap, subst, ◌∙◌, add-one, arith, length-append, length-set}
use Rattle.std.specs.FinMap.{get, empty, get-empty}
use Rattle.std.specs.List.{AllByRecursion, list_any}
use Rattle.std.specs.Option.{option_map}
use Rattle.std.specs.Cmp.{eq_by_cmp_equiv}
use Rattle.std.specs.Ordering.{eq_by_cmp}
use Rattle.std.proofs.lemmas.List.Folds.{list_any-append}
use Rattle.std.proofs.lemmas.List.{length-map, map-append, map-set, drop_all, take_more}
use Rattle.std.specs.Str.{bytes_eq}
use Rattle.mon_tx.specs.Decision.{Cell, decided, or_before}
use Rattle.mon_tx.specs.Map.{Place, place_cmp, Store, number_bytes, number_in, number_at, is_within, apply_op}
use Rattle.mon_tx.specs.declared.op.Op.TheVariants.{Put, Erase, ErasePrefix, EraseRange}
use Rattle.mon_tx.specs.declared.op.Op.{Op}
use Rattle.mon_tx.proofs.After.{get-apply_op}
use Rattle.mon_tx.proofs.Places.{places_total, number_in-bytes}
use Rattle.mon_msg.specs.Joined.{puts, takes_away, or_here, replaced, or_last, joined_with, joined_onto, joined}
use Rattle.mon_msg.proofs.Joining.{same_place}
use Rattle.mon_stored.specs.Joining.{slot_before, slot, op_at, picked, IsJoined}
use Rattle.mon_stored.specs.Taking.{is_taking}
use Rattle.mon_stored.proofs.Standing.{erased}

-- ---- where the put of a key stands

-- what a put replaces
replaced-slot : (at : Place) (new : Op) (ops : List Op) → replaced at new ops ≡ option_map (λ k. set ops k new) (slot at ops)
replaced-slot at new [] = refl
replaced-slot at new (op ∷ ops) =
    ap (or_here new op ops (puts at op && not (list_any (takes_away at) ops))) (replaced-slot at new ops)
    ∙ by (puts at op && not (list_any (takes_away at) ops)) (slot at ops)
  where
    by : (here : Bool) (s : Option ℕ) → or_here new op ops here (option_map (λ k. set ops k new) s) ≡ option_map (λ k. set (op ∷ ops) k new) (slot_before here s)
    by here (Some k) = refl
    by true None = refl
    by false None = refl

slot-below : (at : Place) (ops : List Op) (k : ℕ) → slot at ops ≡ Some k → k < length ops
slot-below at [] k h = cc
slot-below at (op ∷ ops) k h = by (puts at op && not (list_any (takes_away at) ops)) (slot at ops) refl (λ j e. slot-below at ops j e) h
  where
    by : (here : Bool) (s : Option ℕ) → slot at ops ≡ s → ((j : ℕ) → slot at ops ≡ Some j → j < length ops) → slot_before here s ≡ Some k → k < suc (length ops)
    by here (Some j) e ih h = let same : suc j ≡ k = cc in let below = ih j e in omega (arith, same, below)
    by true None e ih h = let same : 0 ≡ k = cc in omega (arith, same)
    by false None e ih h = cc

or_false : (b : Bool) → (b || false) ≡ b
or_false true = refl
or_false false = refl

any-last : (at : Place) (ops : List Op) (op : Op) → list_any (takes_away at) (ops ++ op ∷ []) ≡ (list_any (takes_away at) ops || takes_away at op)
any-last at ops op = list_any-append (takes_away at) ops (op ∷ []) ∙ ap (λ b. list_any (takes_away at) ops || b) (or_false (takes_away at op))

-- after one more change
abbrev slot_after : (p t : Bool) → ℕ → Option ℕ → Option ℕ
slot_after p t n s = cond p (Some n) (cond t None s)

slot-append : (at : Place) (op : Op) (ops : List Op) → slot at (ops ++ op ∷ []) ≡ slot_after (puts at op) (takes_away at op) (length ops) (slot at ops)
slot-append at op [] = by (puts at op) (takes_away at op)
  where
    by : (p t : Bool) → slot_before (p && true) None ≡ slot_after p t 0 None
    by true t = refl
    by false true = refl
    by false false = refl
slot-append at op (o ∷ ops) =
    (λ i. slot_before (puts at o && not (any-last at ops op i)) (slot-append at op ops i))
    ∙ by (puts at o) (list_any (takes_away at) ops) (puts at op) (takes_away at op) (slot at ops)
  where
    by : (q a p t : Bool) (s : Option ℕ) → slot_before (q && not (a || t)) (slot_after p t (length ops) s) ≡ slot_after p t (suc (length ops)) (slot_before (q && not a) s)
    by q a true t s = refl
    by true true false true s = refl
    by true false false true s = refl
    by false true false true s = refl
    by false false false true s = refl
    by true true false false s = refl
    by true false false false s = refl
    by false true false false s = refl
    by false false false false s = refl

-- ---- a put in the place of another of its key

-- two puts of a key put the same places, and erase nothing
alike : (p q : Place) (a b : Op) → puts p a ≡ true → puts p b ≡ true → (puts q a ≡ puts q b) × (takes_away q a ≡ takes_away q b)
alike p q (Put c d v) (Put e f w) h g = (ap (eq_by_cmp place_cmp q) (sym (same_place p (c, d) h) ∙ same_place p (e, f) g), refl)
alike p q (Put c d v) (Erase e f) h g = cc
alike p q (Put c d v) (ErasePrefix e) h g = cc
alike p q (Put c d v) (EraseRange e f w) h g = cc
alike p q (Erase c d) b h g = cc
alike p q (ErasePrefix c) b h g = cc
alike p q (EraseRange c d v) b h g = cc

both_true : (a b : Bool) → (a && b) ≡ true → a ≡ true
both_true true b h = refl
both_true false b h = cc

abbrev Same : Place → Op → List Op → ℕ → Type 0
Same q new ops k = (list_any (takes_away q) (set ops k new) ≡ list_any (takes_away q) ops) × (slot q (set ops k new) ≡ slot q ops)

-- replacing a put by another put of its key changes no slot, and not what is erased
set-slots : (p q : Place) (new : Op) (ops : List Op) (k : ℕ) → slot p ops ≡ Some k → puts p new ≡ true → Same q new ops k
set-slots p q new [] k h g = cc
set-slots p q new (op ∷ ops) k h g =
    by (puts p op && not (list_any (takes_away p) ops)) refl (slot p ops) refl (λ j e. set-slots p q new ops j e g) h
  where
    by : (here : Bool) → (puts p op && not (list_any (takes_away p) ops)) ≡ here → (s : Option ℕ) → slot p ops ≡ s
        → ((j : ℕ) → slot p ops ≡ Some j → Same q new ops j) → slot_before here s ≡ Some k → Same q new (op ∷ ops) k
    by here t (Some j) e ih h =
        let same : suc j ≡ k = cc in
        let further : Same q new ops j = ih j e in
        subst (λ n. Same q new (op ∷ ops) n) same (ap (λ b. takes_away q op || b) further.0, (λ i. slot_before (puts q op && not (further.0 i)) (further.1 i)))
    by true t None e ih h =
        let same : 0 ≡ k = cc in
        let both = alike p q new op g (both_true (puts p op) (not (list_any (takes_away p) ops)) t) in
        subst (λ n. Same q new (op ∷ ops) n) same (ap (λ b. b || list_any (takes_away q) ops) both.1, ap (λ b. slot_before (b && not (list_any (takes_away q) ops)) (slot q ops)) both.0)
    by false t None e ih h = cc

-- ---- the index

abbrev noted : Option ℕ → Cell
noted s = option_map (λ k. number_bytes (suc k)) s

itself : (b : Bool) → erased b ≡ erased (is_some (erased b))
itself true = refl
itself false = refl

-- an erasing change decides a place if and only if it erases it
taking : (at : Place) (op : Op) → is_taking op ≡ true → (puts at op ≡ false) × (decided op at ≡ erased (takes_away at op))
taking at (Put p k v) h = cc
taking at (Erase p k) h = (refl, itself (eq_by_cmp place_cmp at (p, k)))
taking at (ErasePrefix p) h = (refl, itself (bytes_eq at.0 p))
taking at (EraseRange p from to) h = (refl, itself (bytes_eq at.0 p && is_within from to at.1))

taking-joins : (done : List Op) (op : Op) → is_taking op ≡ true → joined_with done op ≡ done ++ op ∷ []
taking-joins done (Put p k v) h = cc
taking-joins done (Erase p k) h = refl
taking-joins done (ErasePrefix p) h = refl
taking-joins done (EraseRange p from to) h = refl

-- what the index has under a key after one more change
noted-taken : (at : Place) (op : Op) (done : List Op) (m : Store) → is_taking op ≡ true → get m at ≡ noted (slot at done) → get (apply_op op m) at ≡ noted (slot at (done ++ op ∷ []))
noted-taken at op done m h e =
    let t = taking at op h in
    get-apply_op op m at ∙ (λ i. or_before (t.1 i) (e i)) ∙ by (takes_away at op) (slot at done)
    ∙ sym (ap noted (slot-append at op done ∙ ap (λ p. slot_after p (takes_away at op) (length done) (slot at done)) t.0))
  where
    by : (b : Bool) (s : Option ℕ) → or_before (erased b) (noted s) ≡ noted (slot_after false b (length done) s)
    by true s = refl
    by false s = refl

noted-put : (at : Place) (p k v : List ℕ) (n : ℕ) (done : List Op) (m : Store) → n ≡ suc (length done) → get m at ≡ noted (slot at done)
    → get (apply_op (Put p k (number_bytes n)) m) at ≡ noted (slot at (done ++ Put p k v ∷ []))
noted-put at p k v n done m is e =
    get-apply_op (Put p k (number_bytes n)) m at ∙ ap (or_before (decided (Put p k (number_bytes n)) at)) e ∙ by (eq_by_cmp place_cmp at (p, k)) (slot at done)
    ∙ sym (ap noted (slot-append at (Put p k v) done))
  where
    by : (b : Bool) (s : Option ℕ) → or_before (cond b (Some (Some (number_bytes n))) None) (noted s) ≡ noted (slot_after b false (length done) s)
    by true s = ap (λ j. Some (number_bytes j)) is
    by false s = refl

-- ---- the number under a key

number-none : (s : Option ℕ) → s ≡ None → number_in (noted s) ≡ 0
unfolding number_in
number-none s e = ap (λ s. number_in (noted s)) e

number-some : (s : Option ℕ) (k : ℕ) → s ≡ Some k → suc k ≤ 2 ^ 62 → number_in (noted s) ≡ suc k
number-some s k e short = ap (λ s. number_in (noted s)) e ∙ number_in-bytes (suc k) short

-- ---- steps

pub same_at : (ops : List Op) (i : ℕ) (op : Op) → i < length ops → op ≡ get_or ops i op → op_at ops i ≡ op
same_at [] i op lt is = absurd (omega arith)
same_at (o ∷ ops) zero op lt is = sym is
same_at (o ∷ ops) (suc i) op lt is = same_at ops i op (omega arith) is

-- what isn't a put takes keys away
pub no_put : (op : Op) → ((p k v : List ℕ) → op ≡ Put p k v → ⊥) → is_taking op ≡ true
no_put (Put p k v) h = absurd (h p k v refl)
no_put (Erase p k) h = refl
no_put (ErasePrefix p) h = refl
no_put (EraseRange p from to) h = refl

all-set : (P : ℕ → Type 0) (xs : List ℕ) (k x : ℕ) → AllByRecursion P xs → P x → AllByRecursion P (set xs k x)
all-set P [] k x each here = tt
all-set P (y ∷ xs) zero x each here = (here, each.1)
all-set P (y ∷ xs) (suc k) x each here = (each.0, all-set P xs k x each.1 here)

all-last : (P : ℕ → Type 0) (xs : List ℕ) (x : ℕ) → AllByRecursion P xs → P x → AllByRecursion P (xs ++ x ∷ [])
all-last P [] x each here = (here, tt)
all-last P (y ∷ xs) x each here = (each.0, all-last P xs x each.1 here)

module _ (ops : List Op) (i : ℕ) (order : List ℕ) (index : Store) (j : IsJoined ops i order index) (within : i < length ops) where
  joins : (more : List ℕ) → picked ops more ≡ joined_with (picked ops order) (op_at ops i) → joined_onto (picked ops more) (drop (i + 1) ops) ≡ joined ops
  joins more e =
      let cells : drop i ops ≡ op_at ops i ∷ drop (suc i) ops = drop-cons ops i (ErasePrefix []) within in
      rw add-one (ap (λ done. joined_onto done (drop (suc i) ops)) e ∙ sym (ap (joined_onto (picked ops order)) cells) ∙ j.picks)

  one_more : picked ops (order ++ i ∷ []) ≡ picked ops order ++ op_at ops i ∷ []
  one_more = map-append (op_at ops) order (i ∷ [])

  few_more : length (order ++ i ∷ []) ≤ i + 1
  few_more = let n = length-append order (i ∷ []) in let m = j.few in omega arith

  -- a change that takes keys away
  pub join-takes : (op : Op) (other : Store) → op_at ops i ≡ op → is_taking op ≡ true → other ≡ apply_op op index → IsJoined ops (i + 1) (order ++ i ∷ []) other
  join-takes op other is takes e = record {
    picks = joins (order ++ i ∷ []) (one_more ∙ sym (taking-joins (picked ops order) (op_at ops i) (ap is_taking is ∙ takes)));
    indexed = λ at. ap (λ m. get m at) e ∙ noted-taken at op (picked ops order) index takes (j.indexed at) ∙ sym (ap (λ l. noted (slot at l)) (one_more ∙ ap (λ o. picked ops order ++ o ∷ []) is));
    below = all-last (λ k. k < length ops) order i j.below within;
    few = few_more;
  }

  module _ (few : length ops < 2 ^ 62) (p k v : List ℕ) (is : op_at ops i ≡ Put p k v) where
    told : number_at index p k ≡ number_in (noted (slot (p, k) (picked ops order)))
    told = ap number_in (j.indexed (p, k))

    count : length (picked ops order) ≡ length order
    count = length-map order (op_at ops)

    puts_itself : puts (p, k) (Put p k v) ≡ true
    puts_itself = (eq_by_cmp_equiv places_total).refl (p, k)

    some_told : (s : ℕ) → slot (p, k) (picked ops order) ≡ Some s → number_at index p k ≡ suc s
    some_told s e =
        let b = slot-below (p, k) (picked ops order) s e in
        let m = j.few in
        let n = count in
        told ∙ number-some (slot (p, k) (picked ops order)) s e (omega (arith, b, m, n, within, few))

    -- a first put of a key
    pub join-puts : (n : ℕ) (other : Store) → 0 ≡ number_at index p k → n ≡ length order + 1 → other ≡ apply_op (Put p k (number_bytes n)) index → IsJoined ops (i + 1) (order ++ i ∷ []) other
    join-puts n other none is_n e = by (slot (p, k) (picked ops order)) refl
      where
        by : (s : Option ℕ) → slot (p, k) (picked ops order) ≡ s → IsJoined ops (i + 1) (order ++ i ∷ []) other
        by (Some s) f = let lost = some_told s f in absurd (omega (arith, lost, none))
        by None f =
            let last : joined_with (picked ops order) (op_at ops i) ≡ picked ops order ++ op_at ops i ∷ [] =
            ap (joined_with (picked ops order)) is
            ∙ ap (or_last (Put p k v) (picked ops order)) (replaced-slot (p, k) (Put p k v) (picked ops order) ∙ ap (option_map (λ h. set (picked ops order) h (Put p k v))) f)
            ∙ sym (ap (λ o. picked ops order ++ o ∷ []) is) in
            let c = count in
            record {
              picks = joins (order ++ i ∷ []) (one_more ∙ sym last);
              indexed = λ at. ap (λ m. get m at) e ∙ noted-put at p k v n (picked ops order) index (omega (arith, is_n, c)) (j.indexed at) ∙ sym (ap (λ l. noted (slot at l)) (one_more ∙ ap (λ o. picked ops order ++ o ∷ []) is));
              below = all-last (λ h. h < length ops) order i j.below within;
              few = few_more;
            }

    -- a put in the place of another
    pub join-replaces : (n : ℕ) → n ≡ number_at index p k → 0 < n → (n - 1 < length order) × IsJoined ops (i + 1) (set order (n - 1) i) index
    join-replaces n at above = by (slot (p, k) (picked ops order)) refl
      where
        by : (s : Option ℕ) → slot (p, k) (picked ops order) ≡ s → (n - 1 < length order) × IsJoined ops (i + 1) (set order (n - 1) i) index
        by None f = let lost : number_at index p k ≡ 0 = told ∙ number-none _ f in absurd (omega (arith, lost, at, above))
        by (Some s) f =
            let is_n : n - 1 ≡ s = omega (arith, at, some_told s f) in
            let b = slot-below (p, k) (picked ops order) s f in
            let c = count in
            let m = j.few in
            let lines = length-set order s i in
            let changed : picked ops (set order s i) ≡ set (picked ops order) s (Put p k v) = map-set (op_at ops) order s i ∙ ap (set (picked ops order) s) is in
            let place : joined_with (picked ops order) (op_at ops i) ≡ set (picked ops order) s (Put p k v) =
            ap (joined_with (picked ops order)) is
            ∙ ap (or_last (Put p k v) (picked ops order)) (replaced-slot (p, k) (Put p k v) (picked ops order) ∙ ap (option_map (λ h. set (picked ops order) h (Put p k v))) f) in
            subst (λ h. (h < length order) × IsJoined ops (i + 1) (set order h i) index) (sym is_n) (
              omega (arith, b, c),
              record {
                picks = joins (set order s i) (changed ∙ sym place);
                indexed = λ at. j.indexed at ∙ sym (ap (λ l. noted (slot at l)) changed ∙ ap noted (set-slots (p, k) at (Put p k v) (picked ops order) s f puts_itself).1);
                below = all-set (λ h. h < length ops) order s i j.below within;
                few = omega (arith, lines, m);
              },
            )

pub join-first : (ops : List Op) → IsJoined ops 0 [] empty
unfolding joined
join-first ops = record { picks = refl; indexed = λ at. get-empty place_cmp at; below = tt; few = omega arith }

pub join-last : (ops : List Op) (i : ℕ) (order : List ℕ) (index : Store) → IsJoined ops i order index → length ops ≤ i → picked ops order ≡ joined ops
join-last ops i order index j past = sym (ap (joined_onto (picked ops order)) (drop_all i ops past)) ∙ j.picks

-- the picked changes, one more
pub picked-next : (ops : List Op) (order : List ℕ) (n : ℕ) (op : Op) → n < length order → get_or order n 0 < length ops → op ≡ get_or ops (get_or order n 0) op
    → picked ops (take (n + 1) order) ≡ picked ops (take n order) ++ op ∷ []
picked-next ops order n op lt within is =
    ap (picked ops) (take_more order n 0 lt) ∙ map-append (op_at ops) (take n order) (get_or order n 0 ∷ [])
    ∙ ap (λ o. picked ops (take n order) ++ o ∷ []) (same_at ops (get_or order n 0) op within is)
