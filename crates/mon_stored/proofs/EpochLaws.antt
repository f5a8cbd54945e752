-- Changes of other areas than the monitor's leave its epoch.
use Rattle.std.proofs.Common.{◌≡◌, ℕ, Bool, true, false, ◌&&◌, cond, List, [], ◌∷◌, Some, None, refl, sym, ap, ◌∙◌}
use Rattle.std.specs.List.{list_any}
use Rattle.std.specs.Ordering.{eq_by_cmp}
use Rattle.std.specs.Str.{bytes_eq}
use Rattle.std.proofs.lemmas.Bool.{false_from_ne_true}
use Rattle.mon_msg.proofs.Joining.{neither}
use Rattle.mon_msg.specs.Protocol.Readings.{readings_of, epoch_of, epoch_or_first, number_if_there}
use Rattle.mon_tx.proofs.After.{get-apply}
use Rattle.mon_tx.proofs.Places.{exact_places, is_equal}
use Rattle.mon_tx.specs.Decision.{Cell, Decision, decided, decision, later, or_before}
use Rattle.mon_tx.specs.Keys.{area_text, cell, key_text}
use Rattle.mon_tx.specs.Map.{Place, Store, apply, is_within, place_cmp}
use Rattle.mon_tx.specs.declared.key.Area.TheVariants as area
use Rattle.mon_tx.specs.declared.key.Key.TheVariants as key
use Rattle.mon_tx.specs.declared.op.Op.TheVariants.{Put, Erase, ErasePrefix, EraseRange}
use Rattle.mon_tx.specs.declared.op.Op.{Op}
use Rattle.mon_stored.specs.Epochs.{speaks_of_monitor}

abbrev own : List ℕ
own = area_text area.Monitor

apart : (prefix k other : List ℕ) → bytes_eq own prefix ≡ false → eq_by_cmp place_cmp (own, k) (prefix, other) ≡ false
apart prefix k other h =
    false_from_ne_true _
    (λ e.
    let same : (own, k) ≡ (prefix, other) = exact_places (own, k) (prefix, other) (is_equal (place_cmp (own, k) (prefix, other)) e) in
    let no : true ≡ false = ap (λ (p : Place). bytes_eq own p.0) same ∙ h in
    absurd cc)

undecided : (op : Op) (k : List ℕ) → speaks_of_monitor op ≡ false → decided op (own, k) ≡ None
undecided (Put prefix other value) k h = ap (λ (t : Bool). let d : Decision = cond t (Some (Some value)) None in d) (apart prefix k other h)
undecided (Erase prefix other) k h = ap (λ (t : Bool). let d : Decision = cond t (Some None) None in d) (apart prefix k other h)
undecided (ErasePrefix prefix) k h = ap (λ (t : Bool). let d : Decision = cond t (Some None) None in d) h
undecided (EraseRange prefix from to) k h = ap (λ (t : Bool). let d : Decision = cond (t && is_within from to k) (Some None) None in d) h

none_decides : (ops : List Op) (k : List ℕ) → list_any speaks_of_monitor ops ≡ false → decision ops (own, k) ≡ None
none_decides [] k h = refl
none_decides (op ∷ ops) k h =
    let both = neither (speaks_of_monitor op) (list_any speaks_of_monitor ops) h in
    λ i. later (none_decides ops k both.1 i) (undecided op k both.0 i)

pub epoch-kept : (ops : List Op) (m : Store) → list_any speaks_of_monitor ops ≡ false → epoch_of (readings_of m) ≡ epoch_of (readings_of (apply ops m))
unfolding readings_of
epoch-kept ops m h =
    let at = key_text key.ElectionEpoch in
    let same : cell (apply ops m) area.Monitor key.ElectionEpoch ≡ cell m area.Monitor key.ElectionEpoch =
    get-apply ops m (own, at) ∙ ap (λ (d : Decision). or_before d (cell m area.Monitor key.ElectionEpoch)) (none_decides ops at h) in
    sym (ap (λ (c : Cell). epoch_or_first (number_if_there c)) same)
