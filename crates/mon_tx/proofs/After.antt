-- What is at a place after changes: what the last of them that concerns it decided.
use Rattle.std.proofs.Common.{◌≡◌, ℕ, Bool, true, false, ◌&&◌, not, cond, List, [], ◌∷◌, ◌++◌, Option, Some, None, refl, sym, ap, ◌∙◌}
use Rattle.std.specs.Ordering.{eq_by_cmp}
use Rattle.std.specs.declared.cmp.Ordering.TheVariants.{Equal}
use Rattle.std.specs.Str.{bytes_eq}
use Rattle.std.specs.FinMap.{get, get-insert, get-remove, get-retain_keys}
use Rattle.mon_tx.specs.declared.op.Op.{Op}
use Rattle.mon_tx.specs.declared.op.Op.TheVariants.{Put, Erase, ErasePrefix, EraseRange}
use Rattle.mon_tx.specs.Map.{Place, place_cmp, Store, is_within, apply_op, apply}
use Rattle.mon_tx.specs.Decision.{Decision, decided, or_before, later, decision}
use Rattle.mon_tx.proofs.Places.{places_total, exact_places}

chosen : (test : Bool) (answer before : Option (List ℕ)) → cond test answer before ≡ or_before (cond test (Some answer) None) before
chosen true answer before = refl
chosen false answer before = refl

kept : (test : Bool) (before : Option (List ℕ)) → cond (not test) before None ≡ or_before (cond test (Some None) None) before
kept true before = refl
kept false before = refl

-- a test of places takes the same place once
alike : (test : Place → Bool) (p q : Place) → place_cmp q p ≡ Equal → test p ≡ test q
alike test p q e = ap test (sym (exact_places q p e))

pub get-apply_op : (op : Op) (m : Store) (at : Place) → get (apply_op op m) at ≡ or_before (decided op at) (get m at)
get-apply_op (Put prefix key value) m at = get-insert places_total m (prefix, key) value at ∙ chosen (eq_by_cmp place_cmp at (prefix, key)) (Some value) (get m at)
get-apply_op (Erase prefix key) m at = get-remove places_total m (prefix, key) at ∙ chosen (eq_by_cmp place_cmp at (prefix, key)) None (get m at)
get-apply_op (ErasePrefix prefix) m at =
    let stays = λ (p : Place). not (bytes_eq p.0 prefix) in
    get-retain_keys m stays at (λ p e. alike stays p at e) ∙ kept (bytes_eq at.0 prefix) (get m at)
get-apply_op (EraseRange prefix from to) m at =
    let stays = λ (p : Place). not (bytes_eq p.0 prefix && is_within from to p.1) in
    get-retain_keys m stays at (λ p e. alike stays p at e) ∙ kept (bytes_eq at.0 prefix && is_within from to at.1) (get m at)

pub later-assoc : (a b c : Decision) → later (later a b) c ≡ later a (later b c)
later-assoc (Some x) b c = refl
later-assoc None b c = refl

pub later-none : (a : Decision) → later a None ≡ a
later-none (Some x) = refl
later-none None = refl

or_before-later : (a b : Decision) (before : Option (List ℕ)) → or_before a (or_before b before) ≡ or_before (later a b) before
or_before-later (Some x) b before = refl
or_before-later None b before = refl

pub decision-append : (a b : List Op) (at : Place) → decision (a ++ b) at ≡ later (decision b at) (decision a at)
decision-append [] b at = sym (later-none (decision b at))
decision-append (op ∷ a) b at = ap (λ d. later d (decided op at)) (decision-append a b at) ∙ later-assoc (decision b at) (decision a at) (decided op at)

pub get-apply : (ops : List Op) (m : Store) (at : Place) → get (apply ops m) at ≡ or_before (decision ops at) (get m at)
get-apply [] m at = refl
get-apply (op ∷ ops) m at =
    get-apply ops (apply_op op m) at ∙ ap (or_before (decision ops at)) (get-apply_op op m at) ∙ or_before-later (decision ops at) (decided op at) (get m at)
