-- Even and odd epochs.
use Rattle.mon_msg.specs.Protocol.Entering.{is_even, next_even}
use Rattle.mon_msg.specs.Protocol.Peon.{promise}
use Rattle.mon_types.specs.Proposal.{next_number}
use Rattle.std.proofs.Common.{arith, false, max, suc, true, ℕ, ◌%◌, ◌<◌, ◌≡◌, ◌≤◌}
use Rattle.std.proofs.lemmas.Bool.{eq-eqb, eqb-false, eqb-true, ne_eqb}

pub even_next : (e : ℕ) → is_even (next_even e) ≡ true
even_next e = eq-eqb _ 0 (omega arith)

pub next_above : (e : ℕ) → e < next_even e
next_above e = omega arith

pub even_of_odd : (e : ℕ) → is_even e ≡ false → is_even (suc e) ≡ true
even_of_odd e h = let s = eqb-false (e % 2) 0 h in eq-eqb _ 0 (omega arith)

pub odd_of_even : (e : ℕ) → is_even e ≡ true → is_even (suc e) ≡ false
odd_of_even e h = let s = eqb-true (e % 2) 0 h in ne_eqb _ 0 (λ t. omega arith)

pub odd_before : (e : ℕ) → is_even (suc e) ≡ true → is_even e ≡ false
odd_before e h = let s = eqb-true (suc e % 2) 0 h in ne_eqb _ 0 (λ t. omega arith)

-- the next number is above both, and the rank's own
pub next_is : (last promise above r : ℕ) → r < 100 → (last ≤ next_number last (max promise above) r) × (promise < next_number last (max promise above) r) × (next_number last (max promise above) r % 100 ≡ r)
next_is last promise above r lt = (omega arith, omega arith, omega arith)
