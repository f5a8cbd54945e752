-- What one change of the store does to a service's row.
use Rattle.std.proofs.Common.{◌≡◌, ℕ, Bool, true, false, cond, ◌&&◌, List, Some, None, bytes_eq, refl, sym, ap, ◌∙◌}
use Rattle.std.proofs.lemmas.Bool.{false_from_ne_true}
use Rattle.std.proofs.lemmas.Map.Text.{is_eq-slice_cmp}
use Rattle.std.specs.FinMap.{get, slice_cmp-IsAntisymmetric, nat_cmp-IsAntisymmetric}
use Rattle.std.specs.Ordering.{eq_by_cmp}
use Rattle.mon_tx.specs.Decision.{decided, or_before}
use Rattle.mon_tx.specs.Keys.{area_text, key_text, place, same_key}
use Rattle.mon_tx.specs.Map.{Store, place_cmp, apply_op, is_within}
use Rattle.mon_tx.specs.declared.key.Key.{Key}
use Rattle.mon_tx.specs.declared.op.Op.{Op}
use Rattle.mon_tx.specs.declared.op.Op.TheVariants.{Put, Erase, ErasePrefix, EraseRange}
use Rattle.mon_tx.proofs.After.{get-apply_op}
use Rattle.mon_tx.proofs.Named.{decided-put}
use Rattle.mon_tx.proofs.Places.{exact_places, is_equal}
use Rattle.mon_tx.proofs.Ties.{same_text, same_area_itself}
use Rattle.mon_msg.specs.Protocol.Readings.{readings_of}
use Rattle.mon_msg.specs.Puts.{area_of}
use Rattle.mon_wire.specs.declared.request.Service.{Service}

pub same_bytes : (p q : List ℕ) → bytes_eq p q ≡ true → p ≡ q
same_bytes p q e = slice_cmp-IsAntisymmetric nat_cmp-IsAntisymmetric p q (is_equal _ (is_eq-slice_cmp p q ∙ e))

bytes_themselves : (p : List ℕ) → bytes_eq p p ≡ true
bytes_themselves p = sym (is_eq-slice_cmp p p) ∙ same_text p

-- other bytes
others : (p q : List ℕ) → bytes_eq p q ≡ false → (q ≡ p → ⊥)
others p q e same = let t : bytes_eq p q ≡ true = rw same (bytes_themselves p) in absurd cc

others_back : (p q : List ℕ) → bytes_eq p q ≡ false → bytes_eq q p ≡ false
others_back p q e = false_from_ne_true _ (λ t. others p q e (same_bytes q p t))

elsewhere : (p key q k : List ℕ) → bytes_eq p q ≡ false → eq_by_cmp place_cmp (q, k) (p, key) ≡ false
elsewhere p key q k e = false_from_ne_true _ (λ t. others p q e (ap (λ (at : List ℕ × List ℕ). at.0) (exact_places (q, k) (p, key) (is_equal _ t))))

abbrev pub prefix_of : Op → List ℕ
prefix_of (Put prefix key value) = prefix
prefix_of (Erase prefix key) = prefix
prefix_of (ErasePrefix prefix) = prefix
prefix_of (EraseRange prefix from to) = prefix

decided-elsewhere : (op : Op) (q k : List ℕ) → bytes_eq (prefix_of op) q ≡ false → decided op (q, k) ≡ None
decided-elsewhere (Put prefix key value) q k e = ap (λ t. cond t (Some (Some value)) None) (elsewhere prefix key q k e)
decided-elsewhere (Erase prefix key) q k e = ap (λ t. cond t (Some None) None) (elsewhere prefix key q k e)
decided-elsewhere (ErasePrefix prefix) q k e = ap (λ t. cond t (Some None) None) (others_back prefix q e)
decided-elsewhere (EraseRange prefix from to) q k e = ap (λ t. cond (t && is_within from to k) (Some None) None) (others_back prefix q e)

-- a change of another prefix leaves the row
pub row_stays : (op : Op) (m : Store) (s : Service) (k : Key) → bytes_eq (prefix_of op) (area_text (area_of s)) ≡ false → (readings_of (apply_op op m)).row s k ≡ (readings_of m).row s k
unfolding readings_of
row_stays op m s k e =
    get-apply_op op m (place (area_of s) k) ∙ ap (λ d. or_before d (get m (place (area_of s) k))) (decided-elsewhere op (area_text (area_of s)) (key_text k) e)

-- a put of a named key changes that key alone
pub row_put : (m : Store) (s : Service) (n : Key) (value : List ℕ) (k : Key) → (readings_of (apply_op (Put (area_text (area_of s)) (key_text n) value) m)).row s k ≡ cond (same_key k n) (Some value) ((readings_of m).row s k)
unfolding readings_of
row_put m s n value k =
    get-apply_op (Put (area_text (area_of s)) (key_text n) value) m (place (area_of s) k)
    ∙ ap (λ d. or_before d (get m (place (area_of s) k))) (decided-put (area_of s) n value (area_of s) k ∙ ap (λ t. cond (t && same_key k n) (Some (Some value)) None) (same_area_itself (area_of s)))
    ∙ by (same_key k n)
  where
    by : (b : Bool) → or_before (cond b (Some (Some value)) None) (get m (place (area_of s) k)) ≡ cond b (Some value) (get m (place (area_of s) k))
    by true = refl
    by false = refl
