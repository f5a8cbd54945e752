-- If each key is put once, joining leaves the list.
use Rattle.std.proofs.Common.{◌≡◌, ℕ, true, false, not, ◌&&◌, ◌||◌, List, [], ◌∷◌, ◌++◌, None, ◌⊎◌, inl, inr, refl, sym, ap, ◌∙◌, append_assoc, append-nil}
use Rattle.std.proofs.lemmas.Bool.{and_parts, cases_Bool, not-true}
use Rattle.std.proofs.lemmas.List.Folds.{list_any-append}
use Rattle.std.specs.Cmp.{eq_by_cmp_equiv}
use Rattle.std.specs.List.{AllByRecursion, list_any}
use Rattle.mon_tx.proofs.Places.{places_total}
use Rattle.mon_tx.specs.Map.{Place}
use Rattle.mon_tx.specs.declared.op.Op.{Op}
use Rattle.mon_tx.specs.declared.op.Op.TheVariants.{Put, Erase, ErasePrefix, EraseRange}
use Rattle.mon_msg.proofs.Joining.{neither, same_place}
use Rattle.mon_msg.specs.Joined.{puts, takes_away, or_here, replaced, or_last, joined_with, joined_onto, joined}
use Rattle.mon_core.specs.Joining.{is_put_again, are_put_once}

-- none of the changes puts a key that this one puts
abbrev IsApart : List Op → Op → Type 0
IsApart done op = (at : Place) → puts at op ≡ true → list_any (puts at) done ≡ false

none_replaced : (at : Place) (new : Op) (done : List Op) → list_any (puts at) done ≡ false → replaced at new done ≡ None
none_replaced at new [] h = refl
none_replaced at new (op ∷ done) h =
    let both = neither (puts at op) (list_any (puts at) done) h in
    let here : puts at op ≡ false = both.0 in
    let further : replaced at new done ≡ None = none_replaced at new done both.1 in
    λ i. or_here new op done (here i && not (list_any (takes_away at) done)) (further i)

puts_itself : (p k v : List ℕ) → puts (p, k) (Put p k v) ≡ true
puts_itself p k v = (eq_by_cmp_equiv places_total).refl (p, k)

joins_last : (done : List Op) (op : Op) → IsApart done op → joined_with done op ≡ done ++ op ∷ []
joins_last done (Put p k v) h = ap (or_last (Put p k v) done) (none_replaced (p, k) (Put p k v) done (h (p, k) (puts_itself p k v)))
joins_last done (Erase p k) h = refl
joins_last done (ErasePrefix p) h = refl
joins_last done (EraseRange p from to) h = refl

-- a change that isn't put again, and the next one
abbrev PartsFrom : Op → Op → List Op → Type 0
PartsFrom op o ops = ((at : Place) → puts at o ≡ true → puts at op ≡ false) × (is_put_again op ops ≡ false)

parts_from : (op o : Op) (ops : List Op) → is_put_again op (o ∷ ops) ≡ false → PartsFrom op o ops
parts_from (Put p k v) o ops h =
    let both = neither (puts (p, k) o) (list_any (puts (p, k)) ops) h in
    (by both.0, both.1)
  where
    by : puts (p, k) o ≡ false → (at : Place) → puts at o ≡ true → puts at (Put p k v) ≡ false
    by not_here at here = by_test (cases_Bool (puts at (Put p k v)))
      where
        by_test : (puts at (Put p k v) ≡ true) ⊎ (puts at (Put p k v) ≡ false) → puts at (Put p k v) ≡ false
        by_test (inl e) = let lost : true ≡ false = sym here ∙ ap (λ q. puts q o) (same_place at (p, k) e) ∙ not_here in absurd cc
        by_test (inr e) = e
parts_from (Erase p k) o ops h = (λ at here. refl, refl)
parts_from (ErasePrefix p) o ops h = (λ at here. refl, refl)
parts_from (EraseRange p from to) o ops h = (λ at here. refl, refl)

stay_apart : (done : List Op) (op : Op) (ops : List Op) → AllByRecursion (IsApart done) ops → is_put_again op ops ≡ false → AllByRecursion (IsApart (done ++ op ∷ [])) ops
stay_apart done op [] all h = tt
stay_apart done op (o ∷ ops) all h =
    let parts : PartsFrom op o ops = parts_from op o ops h in (
      λ at here. list_any-append (puts at) done (op ∷ []) ∙ (λ i. all.0 at here i || (parts.0 at here i || false)),
      stay_apart done op ops all.1 parts.1,
    )

joins : (done ops : List Op) → AllByRecursion (IsApart done) ops → are_put_once ops ≡ true → joined_onto done ops ≡ done ++ ops
joins done [] all h = sym (append-nil done)
joins done (op ∷ ops) all h =
    let both = and_parts (not (is_put_again op ops)) (are_put_once ops) h in
    ap (λ l. joined_onto l ops) (joins_last done op all.0)
    ∙ joins (done ++ op ∷ []) ops (stay_apart done op ops all.1 (not-true _ both.0)) both.1
    ∙ append_assoc done (op ∷ []) ops

apart_from_none : (ops : List Op) → AllByRecursion (IsApart []) ops
apart_from_none [] = tt
apart_from_none (op ∷ ops) = (λ at here. refl, apart_from_none ops)

pub joined_once : (ops : List Op) → are_put_once ops ≡ true → joined ops ≡ ops
unfolding joined
joined_once ops h = joins [] ops (apart_from_none ops) h
