-- Reading on, version by version.
use Rattle.std.proofs.Common.{◌≡◌, ℕ, suc, ◌+◌, ◌-◌, ◌<◌, ◌≤◌, Bool, true, false, Option, Some, None, refl, sym, ap, ◌∙◌, arith}
use Rattle.mon_msg.specs.Protocol.Services.{read_on}
use Rattle.mon_msg.specs.Protocol.Readings.{Readings}
use Rattle.mon_wire.specs.declared.reply.ShownMap.{ShownMap}
use Rattle.mon_wire.specs.declared.request.Service.{Service}
use Rattle.svc_core.specs.Kinds.{Stepped}
use Rattle.svc_core.specs.Onward.{step_at, goes_on}

module _ (w : Readings) (s : Service) where
  pub read-none : (count v : ℕ) (m : ShownMap) → step_at w s v m ≡ None → read_on w s (suc count) v m ≡ m
  unfolding read_on
  read-none count v m e = ap (λ (o : Option ShownMap). elim o as (λ _. ShownMap) [ None ↦ m | Some next ↦ read_on w s count (suc v) next ]) e

  pub read-some : (count v : ℕ) (m next : ShownMap) → step_at w s v m ≡ Some next → read_on w s (suc count) v m ≡ read_on w s count (suc v) next
  unfolding read_on
  read-some count v m next e = ap (λ (o : Option ShownMap). elim o as (λ _. ShownMap) [ None ↦ m | Some next ↦ read_on w s count (suc v) next ]) e

  pub goes-none : (count v : ℕ) (m : ShownMap) → step_at w s v m ≡ None → goes_on w s (suc count) v m ≡ false
  unfolding goes_on
  goes-none count v m e = ap (λ (o : Option ShownMap). elim o as (λ _. Bool) [ None ↦ false | Some next ↦ goes_on w s count (suc v) next ]) e

  pub goes-some : (count v : ℕ) (m next : ShownMap) → step_at w s v m ≡ Some next → goes_on w s (suc count) v m ≡ goes_on w s count (suc v) next
  unfolding goes_on
  goes-some count v m next e = ap (λ (o : Option ShownMap). elim o as (λ _. Bool) [ None ↦ false | Some next ↦ goes_on w s count (suc v) next ]) e

  -- a reading from version v on has come to version v + i
  pub record IsAt (count v : ℕ) (from : ShownMap) (i : ℕ) (m : ShownMap) : Type 0 where
    pub read : read_on w s count v from ≡ read_on w s (count - i) (v + i) m
    pub goes : goes_on w s count v from ≡ goes_on w s (count - i) (v + i) m

  pub is_at_first : (count v : ℕ) (m : ShownMap) → IsAt count v m 0 m
  is_at_first count v m =
      let a : count - 0 ≡ count = omega arith in
      let b : v + 0 ≡ v = omega arith in
      record { read = rw (a, b) refl; goes = rw (a, b) refl }

  pub is_at_next : (count v : ℕ) (from : ShownMap) (i : ℕ) (m next : ShownMap) → i < count → Stepped m next (step_at w s (v + i) m) true → IsAt count v from i m → IsAt count v from (i + 1) next
  is_at_next count v from i m next lt e h =
      let a : count - i ≡ suc (count - (i + 1)) = omega arith in
      let b : v + (i + 1) ≡ suc (v + i) = omega arith in
      record { read = h.read ∙ rw (a, b) (read-some (count - (i + 1)) (v + i) m next e); goes = h.goes ∙ rw (a, b) (goes-some (count - (i + 1)) (v + i) m next e) }

  pub is_at_end : (count v : ℕ) (from : ShownMap) (i : ℕ) (m new : ShownMap) → i < count → Stepped m new (step_at w s (v + i) m) false → IsAt count v from i m
      → (read_on w s count v from ≡ new) × (goes_on w s count v from ≡ false)
  is_at_end count v from i m new lt e h =
      let a : count - i ≡ suc (count - (i + 1)) = omega arith in
      (h.read ∙ rw a (read-none (count - (i + 1)) (v + i) m e.0) ∙ sym e.1, h.goes ∙ rw a (goes-none (count - (i + 1)) (v + i) m e.0))

  pub is_at_last : (count v : ℕ) (from : ShownMap) (i : ℕ) (m : ShownMap) → count ≤ i → IsAt count v from i m → (read_on w s count v from ≡ m) × (goes_on w s count v from ≡ true)
  unfolding read_on goes_on
  is_at_last count v from i m le h =
      let a : count - i ≡ 0 = omega arith in
      (h.read ∙ rw a refl, h.goes ∙ rw a refl)
