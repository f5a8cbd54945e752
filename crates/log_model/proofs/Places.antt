-- What a put of a named key leaves at named places, and what is left of a map without the keys of some places.
use Rattle.std.proofs.Common.{◌≡◌, ℕ, ◌+◌, Bool, true, false, cond, not, ◌&&◌, ◌||◌, List, Some, None, refl, sym, ap, ◌∙◌}
use Rattle.std.specs.Ordering.{eq_by_cmp}
use Rattle.std.specs.FinMap.{get, insert, retain_keys, get-insert, get-retain_keys, same_map}
use Rattle.mon_tx.specs.declared.key.Area.{Area}
use Rattle.mon_tx.specs.declared.key.Area.TheVariants as area
use Rattle.mon_tx.specs.declared.key.Key.{Key}
use Rattle.mon_tx.specs.declared.key.Key.TheVariants as key
use Rattle.mon_tx.specs.Map.{Place, place_cmp, Store}
use Rattle.mon_tx.specs.Decision.{Cell}
use Rattle.mon_tx.specs.Keys.{place, number, is_local, shared, same_area, same_key}
use Rattle.mon_tx.proofs.Places.{places_total, exact_places, is_equal}
use Rattle.mon_tx.proofs.Ties.{place_tie}

-- ---- some places alone

pub same_place : (p q : Place) → eq_by_cmp place_cmp p q ≡ true → p ≡ q
same_place p q e = exact_places p q (is_equal (place_cmp p q) e)

pub get_kept : (m : Store) (stays : Place → Bool) (q : Place) → get (retain_keys m stays) q ≡ cond (stays q) (get m q) None
get_kept m stays q = get-retain_keys m stays q (λ x e. ap stays (sym (exact_places q x e)))

outside : (b c : Bool) (x y : Cell) → (b ≡ true → c ≡ false) → cond c (cond b x y) None ≡ cond c y None
outside true c x y h = ap (λ t. cond t x None) (h refl) ∙ sym (ap (λ t. cond t y None) (h refl))
outside false c x y h = refl

module _ (m : Store) (stays : Place → Bool) where
  after_put : (at : Place) (v : List ℕ) (q : Place) → get (retain_keys (insert m at v) stays) q ≡ cond (stays q) (cond (eq_by_cmp place_cmp q at) (Some v) (get m q)) None
  after_put at v q = get_kept (insert m at v) stays q ∙ ap (λ c. cond (stays q) c None) (get-insert places_total m at v q)

  pub lost_put : (at : Place) (v : List ℕ) → stays at ≡ false → retain_keys (insert m at v) stays ≡ retain_keys m stays
  lost_put at v h = same_map places_total exact_places _ _ (λ q.
      after_put at v q ∙ outside (eq_by_cmp place_cmp q at) (stays q) (Some v) (get m q) (λ e. ap stays (same_place q at e) ∙ h) ∙ sym (get_kept m stays q))

-- ---- what a monitor shares

-- the places that are shared, if `last` is the last version
abbrev pub is_shared : ℕ → Place → Bool
is_shared last at = not (is_local last at)

pub shared_is : (m : Store) (last : ℕ) → number m area.Paxos key.LastCommitted ≡ last → shared m ≡ retain_keys m (is_shared last)
unfolding shared
shared_is m last e = ap (λ l. retain_keys m (is_shared l)) e

-- whether a name is one of these
abbrev pub tied : ℕ → Area → Key → Bool
tied last b k =
    (same_area area.Paxos b && same_key key.LastCommitted k) || ((same_area area.Paxos b && same_key key.LastPn k) || ((same_area area.Paxos b && same_key key.AcceptedPn k)
    || ((same_area area.Paxos b && same_key key.PendingV k) || ((same_area area.Paxos b && same_key key.PendingPn k) || ((same_area area.Paxos b && same_key (key.Version (last + 1)) k)
    || ((same_area area.Monitor b && same_key key.ElectionEpoch k) || ((same_area area.Monitor b && same_key key.BootCount k) || ((same_area area.Sync b && same_key key.InSync k)
    || ((same_area area.Sync b && same_key key.Floor k) || false)))))))))

pub local_named : (last : ℕ) (b : Area) (k : Key) → is_local last (place b k) ≡ tied last b k
local_named last b k = λ i.
    place_tie area.Paxos b key.LastCommitted k i || (place_tie area.Paxos b key.LastPn k i || (place_tie area.Paxos b key.AcceptedPn k i
    || (place_tie area.Paxos b key.PendingV k i || (place_tie area.Paxos b key.PendingPn k i || (place_tie area.Paxos b (key.Version (last + 1)) k i
    || (place_tie area.Monitor b key.ElectionEpoch k i || (place_tie area.Monitor b key.BootCount k i || (place_tie area.Sync b key.InSync k i
    || (place_tie area.Sync b key.Floor k i || false)))))))))
