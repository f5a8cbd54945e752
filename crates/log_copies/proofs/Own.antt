-- Which keys are a monitor's own whichever its last version is.
use Rattle.law_names.proofs.Table.{Area, Key, is_local, place}
use Rattle.log_copies.specs.Copies.{is_own}
use Rattle.log_model.proofs.Places.{local_named, tied}
use Rattle.log_model.proofs.Sharing.{of_own}
use Rattle.log_model.proofs.Spares.{is_number}
use Rattle.mon_tx.specs.Map.{Place}
use Rattle.mon_tx.specs.declared.key.Area.TheVariants as area
use Rattle.mon_tx.specs.declared.key.Key.TheVariants as key
use Rattle.std.proofs.Common.{ap, arith, false, inl, inr, refl, sym, true, ℕ, ◌&&◌, ◌+◌, ◌∙◌, ◌≡◌, ◌⊎◌}
use Rattle.std.proofs.lemmas.Bool.{and_parts, cases_eq, ne_eqb}

pub own_named : (a : Area) (k : Key) → is_own (place a k) ≡ (tied 0 a k && tied 1 a k)
own_named a k = λ i. local_named 0 a k i && local_named 1 a k i

-- the record of a version isn't
pub record_shared : (v : ℕ) → is_own (place area.Paxos (key.Version v)) ≡ false
record_shared v = own_named area.Paxos (key.Version v) ∙ by (cases_eq 1 v)
  where
    by : (1 ≡ v) ⊎ (1 ≡ v → ⊥) → (tied 0 area.Paxos (key.Version v) && tied 1 area.Paxos (key.Version v)) ≡ false
    by (inl e) = ap (λ (w : ℕ). tied 0 area.Paxos (key.Version w) && tied 1 area.Paxos (key.Version w)) (sym e)
    by (inr ne) = rw (ne_eqb (0 + 1) v (λ e. ne (omega arith))) refl

module _ (P : Place → Type 0) (named : (a : Area) (k : Key) → is_number a k ≡ true → P (place a k)) where
  -- what holds of each of a monitor's own numbers holds of each key that is its own
  pub of_numbers : (at : Place) → is_own at ≡ true → P at
  of_numbers at e =
      let parts = and_parts (is_local 0 at) (is_local 1 at) e in
      of_own (λ q. is_local 1 q ≡ true → P q) 0 (record {
        last_committed = λ _. named area.Paxos key.LastCommitted refl;
        last_pn = λ _. named area.Paxos key.LastPn refl;
        accepted_pn = λ _. named area.Paxos key.AcceptedPn refl;
        pending_v = λ _. named area.Paxos key.PendingV refl;
        pending_pn = λ _. named area.Paxos key.PendingPn refl;
        behind = λ t. let g : true ≡ false = sym t ∙ local_named 1 area.Paxos (key.Version (0 + 1)) in absurd cc;
        epoch = λ _. named area.Monitor key.ElectionEpoch refl;
        boots = λ _. named area.Monitor key.BootCount refl;
        mark = λ _. named area.Sync key.InSync refl;
        floor = λ _. named area.Sync key.Floor refl;
      }) at parts.0 parts.1

number_is_local : (last : ℕ) (a : Area) (k : Key) → is_number a k ≡ true → tied last a k ≡ true
number_is_local last area.Monitor key.ElectionEpoch t = refl
number_is_local last area.Monitor key.BootCount t = refl
number_is_local last area.Paxos key.LastPn t = refl
number_is_local last area.Paxos key.AcceptedPn t = refl
number_is_local last area.Paxos key.PendingV t = refl
number_is_local last area.Paxos key.PendingPn t = refl
number_is_local last area.Paxos key.LastCommitted t = refl
number_is_local last area.Sync key.InSync t = refl
number_is_local last area.Sync key.Floor t = refl
number_is_local last a k t = absurd cc

pub own_number : (a : Area) (k : Key) → is_number a k ≡ true → is_own (place a k) ≡ true
own_number a k t = own_named a k ∙ (λ i. number_is_local 0 a k t i && number_is_local 1 a k t i)

-- they are its own with each last version
pub own_local : (last : ℕ) (at : Place) → is_own at ≡ true → is_local last at ≡ true
own_local last = of_numbers (λ q. is_local last q ≡ true) (λ a k t. local_named last a k ∙ number_is_local last a k t)
