-- A frame comes off, and one of another tag isn't taken.
use Rattle.std.proofs.Common.{◌≡◌, ℕ, ◌^◌, ◌<◌, eqb, Bool, true, false, cond, List, ◌++◌, Some, None, refl, ap, ◌∙◌}
use Rattle.std.proofs.lemmas.Bool.{eqb-true, eq-eqb}
use Rattle.mon_bytes.specs.Reading.{Reading}
use Rattle.mon_bytes.proofs.Fields.{byte_found}
use Rattle.mon_frag.specs.Pieces.{u64_bytes}
use Rattle.mon_frag.proofs.ReadBack.{u64_found}
use Rattle.mon_name.specs.Frames.{framed, unframed}

-- what is read of a framed datagram
read_framed : (tag other : ℕ) (datagram : List ℕ) → tag < 2 ^ 64 → unframed other (framed tag datagram) ≡ cond (eqb tag other) (Some datagram) None
unfolding unframed
read_framed tag other datagram lt =
    let c : Reading = record { at = 0; rest = framed tag datagram } in
    let mark = byte_found c 3 (u64_bytes tag ++ datagram) refl in
    let n = u64_found mark.0 tag datagram mark.1 lt in
    rw (mark.2, n.2, n.1) refl

pub comes_off : (tag : ℕ) (datagram : List ℕ) → tag < 2 ^ 64 → unframed tag (framed tag datagram) ≡ Some datagram
comes_off tag datagram lt = read_framed tag tag datagram lt ∙ ap (λ (b : Bool). cond b (Some datagram) None) (eq-eqb tag tag refl)

pub apart : (tag other : ℕ) (datagram : List ℕ) → tag < 2 ^ 64 → (tag ≡ other → ⊥) → unframed other (framed tag datagram) ≡ None
apart tag other datagram lt ne = read_framed tag other datagram lt ∙ by (eqb tag other) refl
  where
    by : (b : Bool) → eqb tag other ≡ b → cond b (Some datagram) None ≡ None
    by true e = absurd (ne (eqb-true tag other e))
    by false e = refl
