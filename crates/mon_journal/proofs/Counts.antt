-- How many calls were made.
use Rattle.std.proofs.Common.{◌≡◌, ◌⊎◌, inl, inr, ℕ, suc, ◌+◌, ◌≤◌, ◌<◌, Bool, true, false, ltb, is_some, List, [], ◌∷◌, length, Option, Some, None, refl, sym, ap, subst, ◌∙◌, length-append, arith}
use Rattle.std.specs.Prelude.{IfSome}
use Rattle.std.proofs.lemmas.Bool.{le-ltb, ltb-false}
use Rattle.mon_disk.specs.declared.disk.DiskCall.{DiskCall}
use Rattle.mon_disk.specs.Images.{Content, images}
use Rattle.mon_disk.specs.Calls.{Observed, and_made, Makes}
use Rattle.mon_types.specs.declared.names.Stop.{Stop}
use Rattle.mon_types.specs.declared.names.Stop.TheVariants.{OutOfMemory}
use Rattle.mon_journal.specs.Steps.{made_more}

abbrev pub count : Option Observed → ℕ
count None = 0
count (Some t) = length t.made

one_more : (call : DiskCall) (s : Option Observed) → count (and_made call s) ≤ suc (count s)
one_more call None = omega arith
one_more call (Some t) = omega (arith, length-append t.made (call ∷ []))

observed_more : (call : DiskCall) (s : Option Observed) → is_some s ≡ true → (count (and_made call s) ≡ suc (count s)) × (is_some (and_made call s) ≡ true)
observed_more call None some = absurd cc
observed_more call (Some t) some = (omega (arith, length-append t.made (call ∷ [])), refl)

pub at_most : (calls : List DiskCall) (old new : Option Observed) (stop : Option Stop) → Makes calls stop old new → count new ≤ count old + length calls
at_most [] old new stop made = omega (arith, ap count made.0)
at_most (call ∷ calls) old new stop (inl made) = omega (arith, ap count made.1)
at_most (call ∷ calls) old new stop (inr (inl made)) = omega (arith, ap count made.1, one_more call old)
at_most (call ∷ calls) old new stop (inr (inr made)) = omega (arith, at_most calls (and_made call old) new stop made.1, one_more call old)

at_least : (calls : List DiskCall) (old new : Option Observed) (stop : Option Stop) → is_some old ≡ true → Makes calls stop old new → count old ≤ count new
at_least [] old new stop some made = omega (arith, ap count made.0)
at_least (call ∷ calls) old new stop some (inl made) = omega (arith, ap count made.1)
at_least (call ∷ calls) old new stop some (inr (inl made)) = omega (arith, ap count made.1, (observed_more call old some).0)
at_least (call ∷ calls) old new stop some (inr (inr made)) =
    omega (arith, at_least calls (and_made call old) new stop (observed_more call old some).1 made.1, (observed_more call old some).0)

-- after calls of which none failed, all are counted
pub all_made : (calls : List DiskCall) (old new : Option Observed) → is_some old ≡ true → Makes calls None old new → (count new ≡ count old + length calls) × (is_some new ≡ true)
all_made [] old new some made = (omega (arith, ap count made.0), ap is_some made.0 ∙ some)
all_made (call ∷ calls) old new some (inl made) = absurd cc
all_made (call ∷ calls) old new some (inr (inl made)) = absurd cc
all_made (call ∷ calls) old new some (inr (inr made)) =
    let m = observed_more call old some in
    let rest = all_made calls (and_made call old) new m.1 made.1 in
    (omega (arith, rest.0, m.0), rest.1)

-- no call was made, or at least one
pub begun : (call : DiskCall) (calls : List DiskCall) (old new : Option Observed) (stop : Option Stop) → is_some old ≡ true → Makes (call ∷ calls) stop old new → (new ≡ old) ⊎ (count old < count new)
begun call calls old new stop some (inl made) = inl made.1
begun call calls old new stop some (inr (inl made)) = inr (omega (arith, ap count made.1, (observed_more call old some).0))
begun call calls old new stop some (inr (inr made)) =
    let m = observed_more call old some in
    inr (omega (arith, at_least calls (and_made call old) new stop m.1 made.1, m.0))

-- if one call was refused and no call was counted, memory ran out
pub refused : (P : Type 0) (call : DiskCall) (stop : Stop) (before now : Option Observed) → Makes (call ∷ []) (Some stop) before now → (stop ≡ OutOfMemory → P) → IfSome before (λ s. now ≡ Some s → P)
refused P call stop None now made none = tt
refused P call stop (Some s) now (inl made) none = λ same. none (let is : Some stop ≡ Some OutOfMemory = made.0 in cc)
refused P call stop (Some s) now (inr (inl made)) none = λ same. absurd (omega (arith, ap count made.1, ap count same, (observed_more call (Some s) refl).0))
refused P call stop (Some s) now (inr (inr made)) none = λ same. absurd (omega (arith, ap count made.1.0, ap count same, (observed_more call (Some s) refl).0))

pub done_before : (P : Type 0) (call next : DiskCall) (stop : Option Stop) (before mid now : Option Observed) → Makes (call ∷ []) None before mid → Makes (next ∷ []) stop mid now → IfSome before (λ s. now ≡ Some s → P)
done_before P call next stop None mid now first second = tt
done_before P call next stop (Some s) mid now first second = λ same.
    let m = all_made (call ∷ []) (Some s) mid refl first in
    let more = at_least (next ∷ []) mid now stop m.1 second in
    absurd (omega (arith, m.0, more, ap count same))

-- what a disk settles to if at most n calls were made
pub few : (n : ℕ) (old now : Option Observed) (new : Content) (P : Bool → List ℕ → Type 0) → count now ≤ count old + n → ((c : List ℕ) → images new c → P false c) → IfSome now (λ t. images new (t.settles t.made))
    → IfSome old (λ s. IfSome now (λ t. P (made_more n s t) (t.settles t.made)))
few n None now new P most h settled = tt
few n (Some s) None new P most h settled = tt
few n (Some s) (Some t) new P most h settled =
    let not : ltb (length s.made + n) (length t.made) ≡ false = le-ltb _ _ most in
    subst (λ (b : Bool). P b (t.settles t.made)) (sym not) (h (t.settles t.made) settled)

-- and if more calls may have been made
pub more : (n : ℕ) (old mid now : Option Observed) (new : Content) (P : Bool → List ℕ → Type 0) (NoNew : Type 0) → (is_some old ≡ true → count mid ≡ count old + n) → (is_some old ≡ true → (now ≡ mid) ⊎ (count mid < count now))
    → IfSome mid (λ s. now ≡ Some s → NoNew) → ((opening : Bool) → (opening ≡ false → NoNew) → (c : List ℕ) → images new c → P opening c) → IfSome now (λ t. images new (t.settles t.made))
    → IfSome old (λ s. IfSome now (λ t. P (made_more n s t) (t.settles t.made)))
more n None mid now new P NoNew all either none h settled = tt
more n (Some s) mid None new P NoNew all either none h settled = tt
more n (Some s) mid (Some t) new P NoNew all either none h settled =
    h (ltb (length s.made + n) (length t.made)) (λ not. same (either refl) none (ltb-false _ _ not)) (t.settles t.made) settled
  where
    same : ((Some t ≡ mid) ⊎ (count mid < length t.made)) → IfSome mid (λ s. Some t ≡ Some s → NoNew) → length t.made ≤ length s.made + n → NoNew
    same (inl is) none le = subst (λ (m : Option Observed). IfSome m (λ s. Some t ≡ Some s → NoNew)) (sym is) none refl
    same (inr lt) none le = absurd (omega (arith, all refl, lt, le))
