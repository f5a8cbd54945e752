-- What a store holds whose committed versions are those of a log of values.
use Rattle.std.proofs.Common.{◌≡◌, ℕ, ◌<◌, ◌≤◌, ◌^◌, Bool, true, false, cond, List, [], length, Option, None, refl, sym, ap, ◌∙◌, arith}
use Rattle.std.specs.FinMap.{empty, get, get-empty, retain_keys, same_map}
use Rattle.mon_tx.specs.declared.key.Area.TheVariants as area
use Rattle.mon_tx.specs.declared.key.Key.TheVariants as key
use Rattle.mon_tx.specs.Map.{Place, place_cmp, Store, number_in}
use Rattle.mon_tx.specs.Keys.{cell, number, shared}
use Rattle.mon_tx.proofs.Places.{places_total, exact_places}
use Rattle.mon_msg.specs.Fold.{fold}
use Rattle.log_model.specs.LogOfValues.{AllValues}
use Rattle.log_model.proofs.Places.{get_kept, is_shared, shared_is}

-- A store has the whole log: it isn't marked, nothing is pending, and no record follows the last version.
pub record Holds (log : List (List ℕ)) (m : Store) : Type 0 where
  pub last : number m area.Paxos key.LastCommitted ≡ length log
  pub fits : length log ≤ 2 ^ 62
  pub unmarked : cell m area.Sync key.InSync ≡ None
  pub settled : number m area.Paxos key.PendingV ≡ 0
  pub beyond : (v : ℕ) → length log < v → cell m area.Paxos (key.Version v) ≡ None
  pub folded : shared m ≡ fold log (length log)
  pub values : AllValues log

-- ---- at first

pub number_none : number_in None ≡ 0
unfolding number_in
number_none = refl

nothing_kept : (stays : Place → Bool) → ◌≡◌ {A = Store} (retain_keys empty stays) empty
nothing_kept stays = same_map places_total exact_places _ _ (λ q. get_kept empty stays q ∙ none (stays q) (get empty q) (get-empty place_cmp q))
  where
    none : (b : Bool) (c : Option (List ℕ)) → c ≡ None → cond b c None ≡ c
    none true c e = refl
    none false c e = sym e

pub holds_nothing : Holds [] empty
unfolding fold
holds_nothing = record {
  last = ap number_in (get-empty place_cmp _) ∙ number_none;
  fits = omega arith;
  unmarked = get-empty place_cmp _;
  settled = ap number_in (get-empty place_cmp _) ∙ number_none;
  beyond = λ v h. get-empty place_cmp _;
  folded = shared_is empty 0 (ap number_in (get-empty place_cmp _) ∙ number_none) ∙ nothing_kept (is_shared 0);
  values = λ v h. absurd (omega arith);
}
