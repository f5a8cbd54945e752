-- A transaction that names each key once does the same.
use Rattle.std.proofs.Common.{◌≡◌, ℕ, Bool, true, false, not, ◌&&◌, ◌||◌, cond, List, [], ◌∷◌, Option, Some, None, is_some, refl, sym, ap, ◌∙◌, ◌⊎◌, inl, inr}
use Rattle.std.proofs.lemmas.Bool.{and_parts, cases_Bool, not-true}
use Rattle.std.specs.List.{list_any}
use Rattle.std.specs.Ordering.{eq_by_cmp}
use Rattle.std.specs.FinMap.{get, same_map}
use Rattle.mon_tx.specs.declared.op.Op.{Op}
use Rattle.mon_tx.specs.declared.op.Op.TheVariants.{Put, Erase, ErasePrefix, EraseRange}
use Rattle.mon_tx.specs.Map.{Place, place_cmp, Store, apply}
use Rattle.mon_tx.specs.Decision.{Decision, decided, later, decision, or_before}
use Rattle.mon_tx.proofs.Places.{places_total, exact_places, is_equal}
use Rattle.mon_tx.proofs.After.{decision-append, get-apply, later-assoc, later-none}
use Rattle.mon_msg.specs.Joined.{puts, takes_away, or_here, replaced, or_last, joined_with, joined_onto, joined}

-- places that tie are the same
pub same_place : (p q : Place) → eq_by_cmp place_cmp p q ≡ true → p ≡ q
same_place p q h = exact_places p q (is_equal (place_cmp p q) h)

is_none : (d : Decision) → is_some d ≡ false → d ≡ None
is_none None h = refl
is_none (Some c) h = cc

pub neither : (a b : Bool) → (a || b) ≡ false → (a ≡ false) × (b ≡ false)
neither false b h = (refl, h)
neither true b h = cc

pub not_here : (new op : Op) (ops : List Op) (here : Bool) (further : Option (List Op)) → or_here new op ops here further ≡ None → (here ≡ false) × (further ≡ None)
not_here new op ops here (Some found) h = cc
not_here new op ops true None h = cc
not_here new op ops false None h = (refl, refl)

untouched : (at : Place) (op : Op) → puts at op ≡ false → takes_away at op ≡ false → decided op at ≡ None
untouched at (Put prefix key value) h g = ap (λ b. cond b (Some (Some value)) None) h
untouched at (Erase prefix key) h g = is_none _ g
untouched at (ErasePrefix prefix) h g = is_none _ g
untouched at (EraseRange prefix from to) h g = is_none _ g

pub without_last : (a b : Bool) → (a && not b) ≡ false → b ≡ false → a ≡ false
without_last false b h g = refl
without_last true b h g = let e : not b ≡ true = rw g refl in cc

-- if no put may be replaced, and nothing takes the key away, nothing is decided about it
undecided : (at : Place) (new : Op) (ops : List Op) → replaced at new ops ≡ None → list_any (takes_away at) ops ≡ false → decision ops at ≡ None
undecided at new [] h g = refl
undecided at new (op ∷ ops) h g =
    let any = neither (takes_away at op) (list_any (takes_away at) ops) g in
    let none = not_here new op ops (puts at op && not (list_any (takes_away at) ops)) (replaced at new ops) h in
    let here : decided op at ≡ None = untouched at op (without_last (puts at op) (list_any (takes_away at) ops) none.0 any.1) any.0 in
    let further : decision ops at ≡ None = undecided at new ops none.1 any.1 in
    λ i. later (further i) (here i)

-- a put of one place decides nothing of another
apart_alike : (p at : Place) (op : Op) → puts p op ≡ true → eq_by_cmp place_cmp at p ≡ false → decided op at ≡ None
apart_alike p at (Put q l w) h ne = ap (λ b. cond b (Some (Some w)) None) (ap (eq_by_cmp place_cmp at) (sym (same_place p (q, l) h)) ∙ ne)
apart_alike p at (Erase q l) h ne = cc
apart_alike p at (ErasePrefix q) h ne = cc
apart_alike p at (EraseRange q from to) h ne = cc

-- a put decides in an earlier one's place as it does after all, if nothing after that place concerns it
in_place : (p k v : List ℕ) (at : Place) (op : Op) (ops : List Op) → puts (p, k) op ≡ true → decision ops (p, k) ≡ None
    → later (decision ops at) (decided (Put p k v) at) ≡ later (decided (Put p k v) at) (later (decision ops at) (decided op at))
in_place p k v at op ops h none = by (cases_Bool (eq_by_cmp place_cmp at (p, k)))
  where
    by : (eq_by_cmp place_cmp at (p, k) ≡ true) ⊎ (eq_by_cmp place_cmp at (p, k) ≡ false)
        → later (decision ops at) (decided (Put p k v) at) ≡ later (decided (Put p k v) at) (later (decision ops at) (decided op at))
    by (inl e) =
        let d : decision ops at ≡ None = ap (decision ops) (same_place at (p, k) e) ∙ none in
        let now : decided (Put p k v) at ≡ Some (Some v) = ap (λ b. cond b (Some (Some v)) None) e in
        (λ i. later (d i) (now i)) ∙ sym (ap (λ x. later x (later (decision ops at) (decided op at))) now)
    by (inr e) =
        let now : decided (Put p k v) at ≡ None = ap (λ b. cond b (Some (Some v)) None) e in
        let was : decided op at ≡ None = apart_alike (p, k) at op h e in
        (λ i. later (decision ops at) (now i)) ∙ (λ i. later (decision ops at) (sym was i)) ∙ sym (ap (λ x. later x (later (decision ops at) (decided op at))) now)

-- the list with a put in an earlier one's place decides as the list with the put after it does
replacing : (p k v : List ℕ) (at : Place) (ops found : List Op) → replaced (p, k) (Put p k v) ops ≡ Some found
    → decision found at ≡ later (decided (Put p k v) at) (decision ops at)
replacing p k v at [] found h = cc
replacing p k v at (op ∷ ops) found h = by (replaced (p, k) (Put p k v) ops) refl (λ f e. replacing p k v at ops f e) h
  where
    by_test : (here : Bool) → (puts (p, k) op && not (list_any (takes_away (p, k)) ops)) ≡ here → replaced (p, k) (Put p k v) ops ≡ None
        → or_here (Put p k v) op ops here None ≡ Some found → decision found at ≡ later (decided (Put p k v) at) (later (decision ops at) (decided op at))
    by_test true t e h =
        let is : Put p k v ∷ ops ≡ found = cc in
        let both = and_parts (puts (p, k) op) (not (list_any (takes_away (p, k)) ops)) t in
        let none = undecided (p, k) (Put p k v) ops e (not-true _ both.1) in
        sym (ap (λ l. decision l at) is) ∙ in_place p k v at op ops both.0 none
    by_test false t e h = cc

    by : (further : Option (List Op)) → replaced (p, k) (Put p k v) ops ≡ further
        → ((f : List Op) → replaced (p, k) (Put p k v) ops ≡ Some f → decision f at ≡ later (decided (Put p k v) at) (decision ops at))
        → or_here (Put p k v) op ops (puts (p, k) op && not (list_any (takes_away (p, k)) ops)) further ≡ Some found
        → decision found at ≡ later (decided (Put p k v) at) (later (decision ops at) (decided op at))
    by (Some f) e ih h =
        let is : op ∷ f ≡ found = cc in
        sym (ap (λ l. decision l at) is) ∙ ap (λ d. later d (decided op at)) (ih f e) ∙ later-assoc (decided (Put p k v) at) (decision ops at) (decided op at)
    by None e ih h = by_test (puts (p, k) op && not (list_any (takes_away (p, k)) ops)) refl e h

-- joining one more change decides as that change after the others does
decision-joined_with : (done : List Op) (op : Op) (at : Place) → decision (joined_with done op) at ≡ later (decided op at) (decision done at)
decision-joined_with done (Put p k v) at = by (replaced (p, k) (Put p k v) done) refl
  where
    by : (found : Option (List Op)) → replaced (p, k) (Put p k v) done ≡ found → decision (or_last (Put p k v) done found) at ≡ later (decided (Put p k v) at) (decision done at)
    by (Some f) e = replacing p k v at done f e
    by None e = decision-append done (Put p k v ∷ []) at
decision-joined_with done (Erase p k) at = decision-append done (Erase p k ∷ []) at
decision-joined_with done (ErasePrefix p) at = decision-append done (ErasePrefix p ∷ []) at
decision-joined_with done (EraseRange p from to) at = decision-append done (EraseRange p from to ∷ []) at

decision-joined_onto : (done ops : List Op) (at : Place) → decision (joined_onto done ops) at ≡ later (decision ops at) (decision done at)
decision-joined_onto done [] at = refl
decision-joined_onto done (op ∷ ops) at =
    decision-joined_onto (joined_with done op) ops at
    ∙ ap (later (decision ops at)) (decision-joined_with done op at)
    ∙ sym (later-assoc (decision ops at) (decided op at) (decision done at))

pub decision-joined : (ops : List Op) (at : Place) → decision (joined ops) at ≡ decision ops at
unfolding joined
decision-joined ops at = decision-joined_onto [] ops at ∙ later-none (decision ops at)

pub apply-joined : (ops : List Op) (m : Store) → apply (joined ops) m ≡ apply ops m
apply-joined ops m =
    same_map places_total exact_places (apply (joined ops) m) (apply ops m)
    (λ at. get-apply (joined ops) m at ∙ ap (λ d. or_before d (get m at)) (decision-joined ops at) ∙ sym (get-apply ops m at))
