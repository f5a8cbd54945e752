-- A map has entries only at places with a property, if all puts that made it are at such places.
use Rattle.std.proofs.Common.{◌≡◌, Bool, true, false, ◌&&◌, cond, List, [], ◌∷◌, ℕ, Some, None, refl, sym, ap, subst, ◌∙◌}
use Rattle.std.specs.FinMap.{get}
use Rattle.std.specs.List.{AllByRecursion}
use Rattle.std.specs.Ordering.{eq_by_cmp}
use Rattle.std.specs.Str.{bytes_eq}
use Rattle.mon_tx.specs.declared.op.Op.{Op}
use Rattle.mon_tx.specs.declared.op.Op.TheVariants.{Put, Erase, ErasePrefix, EraseRange}
use Rattle.mon_tx.specs.Decision.{Cell, Decision, decided, or_before}
use Rattle.mon_tx.specs.Map.{Place, place_cmp, Store, is_within, apply_op, apply}
use Rattle.mon_tx.proofs.After.{get-apply_op}
use Rattle.log_model.proofs.Places.{same_place}

abbrev pub AllPlaces : (Place → Type 0) → Store → Type 0
AllPlaces P m = (q : Place) (x : List ℕ) → get m q ≡ Some x → P q

-- the place of a put has the property
abbrev pub PutsAt : (Place → Type 0) → Op → Type 0
PutsAt P (Put prefix k v) = P (prefix, k)
PutsAt P (Erase prefix k) = Unit {0}
PutsAt P (ErasePrefix prefix) = Unit {0}
PutsAt P (EraseRange prefix from to) = Unit {0}

gone : (b : Bool) (x : List ℕ) → ◌≡◌ {A = Decision} (cond b (Some None) None) (Some (Some x)) → ⊥
gone true x e = cc
gone false x e = cc

decided_at : (P : Place → Type 0) (op : Op) (q : Place) (x : List ℕ) → PutsAt P op → decided op q ≡ Some (Some x) → P q
decided_at P (Put prefix k v) q x h e = by (eq_by_cmp place_cmp q (prefix, k)) refl e
  where
    by : (b : Bool) → eq_by_cmp place_cmp q (prefix, k) ≡ b → ◌≡◌ {A = Decision} (cond b (Some (Some v)) None) (Some (Some x)) → P q
    by true t e = subst P (sym (same_place q (prefix, k) t)) h
    by false t e = absurd cc
decided_at P (Erase prefix k) q x h e = absurd (gone (eq_by_cmp place_cmp q (prefix, k)) x e)
decided_at P (ErasePrefix prefix) q x h e = absurd (gone (bytes_eq q.0 prefix) x e)
decided_at P (EraseRange prefix from to) q x h e = absurd (gone (bytes_eq q.0 prefix && is_within from to q.1) x e)

one_at : (P : Place → Type 0) (op : Op) (m : Store) → PutsAt P op → AllPlaces P m → AllPlaces P (apply_op op m)
one_at P op m h all q x e = by (decided op q) refl (sym (get-apply_op op m q) ∙ e)
  where
    by : (d : Decision) → decided op q ≡ d → or_before d (get m q) ≡ Some x → P q
    by None t i = all q x i
    by (Some c) t i = decided_at P op q x h (t ∙ ap (λ (c : Cell). Some c) i)

pub all_places : (P : Place → Type 0) (ops : List Op) (m : Store) → AllByRecursion (PutsAt P) ops → AllPlaces P m → AllPlaces P (apply ops m)
all_places P [] m h all = all
all_places P (op ∷ ops) m h all = all_places P ops (apply_op op m) h.1 (one_at P op m h.0 all)
