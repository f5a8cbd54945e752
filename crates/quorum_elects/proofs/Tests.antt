-- Tests of steps, decided.
use Rattle.law_names.proofs.Runs.{World}
use Rattle.law_names.proofs.Table.{Phase, State, has, no_ranks, same_phase}
use Rattle.quorum_elects.specs.Electing.{is_in, is_other, quorum_at}
use Rattle.std.proofs.Common.{Bool, List, Option, Some, ap, eqb, false, if◌then◌else◌, not, refl, true, ℕ, ◌&&◌, ◌∙◌, ◌≡◌}
use Rattle.std.proofs.lemmas.Bool.{eq-eqb, ne_eqb}
use Rattle.std.specs.Option.{option_map_or}

pub chosen : {A : Type 0} (x y : A) (b : Bool) → b ≡ true → (if b then x else y) ≡ x
chosen x y b e = ap (λ (c : Bool). if c then x else y) e

pub otherwise : {A : Type 0} (x y : A) (b : Bool) → b ≡ false → (if b then x else y) ≡ y
otherwise x y b e = ap (λ (c : Bool). if c then x else y) e

pub and_false : (a b : Bool) → b ≡ false → (a && b) ≡ false
and_false true b e = e
and_false false b e = refl

-- a monitor that is up is in the phase that it remembers
pub in_phase : (w : World) (i : ℕ) (s : State) (p r : Phase) → w.state i ≡ Some s → s.phase ≡ p → is_in w i r ≡ same_phase p r
in_phase w i s p r up e = ap (λ (o : Option State). option_map_or (λ x. same_phase x.phase r) o false) up ∙ ap (λ (x : Phase). same_phase x r) e

pub quorum_is : (w : World) (i : ℕ) (s : State) (a : List Bool) → w.state i ≡ Some s → s.leader.quorum ≡ a → quorum_at w i ≡ a
quorum_is w i s a up e = ap (λ (o : Option State). option_map_or (λ x. x.leader.quorum) o no_ranks) up ∙ e

pub other_is : (q : List Bool) (r k : ℕ) → has q k ≡ true → (k ≡ r → ⊥) → is_other q r k ≡ true
other_is q r k h ne = λ i. h i && not (ne_eqb k r ne i)

pub outside_is : (q : List Bool) (r k : ℕ) → has q k ≡ false → is_other q r k ≡ false
outside_is q r k out = λ i. out i && not (eqb k r)

pub itself_is : (q : List Bool) (r k : ℕ) → k ≡ r → is_other q r k ≡ false
itself_is q r k e = and_false (has q k) (not (eqb k r)) (ap not (eq-eqb k r e))
