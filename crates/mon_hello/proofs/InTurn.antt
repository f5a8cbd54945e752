-- What is sent one after the other.
use Rattle.std.proofs.Common.{◌≡◌, ℕ, zero, suc, ◌+◌, ◌-◌, ◌<◌, List, [], ◌∷◌, ◌++◌, Result, Ok, Err, refl, sym, ap, subst, ◌∙◌, arith, inl, inr}
use Rattle.mon_link.specs.Links.{LinkState, count_after}
use Rattle.mon_link.specs.declared.link.Got.{Got}
use Rattle.mon_link.specs.declared.link.Outgoing.{Outgoing}
use Rattle.mon_types.specs.declared.names.Stop.{Stop}
use Rattle.mon_types.specs.declared.names.Stop.TheVariants.{Failed, OutOfMemory}
use Rattle.mon_hello.specs.declared.own.Own.{Own}
use Rattle.mon_hello.specs.Greets.{AsksOnce, Follows, Passes, Rounds, SendsAll, handed, hellos, round, to_other}

pub sends_then : (xs ys : List Outgoing) (r : Result (Unit {0}) Stop) (a b c : LinkState) → SendsAll xs (Ok tt) a b → SendsAll ys r b c → SendsAll (xs ++ ys) r a c
sends_then [] ys r a b c p q = subst (λ s. SendsAll ys r s c) p.1 q
sends_then (x ∷ xs) ys r a b c p q = (p.0, p.1, p.2, goes_on (λ rest. sends_then xs ys r p.1 b c rest q) p.0 p.3)
  where
    goes_on : (SendsAll xs (Ok tt) p.1 b → SendsAll (xs ++ ys) r p.1 c) → (answered : Result (Unit {0}) Stop) → Follows answered (SendsAll xs) (Ok tt) p.1 b → Follows answered (SendsAll (xs ++ ys)) r p.1 c
    goes_on go (Ok u) rest = go rest
    goes_on go (Err Failed) rest = go rest
    goes_on go (Err OutOfMemory) rest = absurd cc

-- after an error, the datagrams that follow aren't sent
pub sends_no_more : (xs ys : List Outgoing) (e : Stop) (a b : LinkState) → SendsAll xs (Err e) a b → SendsAll (xs ++ ys) (Err e) a b
sends_no_more [] ys e a b p = absurd cc
sends_no_more (x ∷ xs) ys e a b p = (p.0, p.1, p.2, goes_on (sends_no_more xs ys e p.1 b) p.0 p.3)
  where
    goes_on : (SendsAll xs (Err e) p.1 b → SendsAll (xs ++ ys) (Err e) p.1 b) → (answered : Result (Unit {0}) Stop) → Follows answered (SendsAll xs) (Err e) p.1 b → Follows answered (SendsAll (xs ++ ys)) (Err e) p.1 b
    goes_on go (Ok u) rest = go rest
    goes_on go (Err Failed) rest = go rest
    goes_on go (Err OutOfMemory) rest = rest

-- one more monitor of a round, and the last one that was asked
pub round_then : (own k : ℕ) (bytes : List ℕ) (r : Result (Unit {0}) Stop) (a b c : LinkState) → SendsAll (round own k bytes) (Ok tt) a b → SendsAll (to_other own k bytes) r b c → SendsAll (round own (k + 1) bytes) r a c
round_then own k bytes r a b c p q =
    let next : k + 1 ≡ suc k = omega arith in
    subst (λ (n : ℕ). SendsAll (round own n bytes) r a c) (sym next) (sends_then (round own k bytes) (to_other own k bytes) r a b c p q)

round_no_more : (own d k : ℕ) (bytes : List ℕ) (e : Stop) (a b : LinkState) → SendsAll (round own k bytes) (Err e) a b → SendsAll (round own (k + d) bytes) (Err e) a b
round_no_more own zero k bytes e a b p =
    let same : k + 0 ≡ k = omega arith in
    subst (λ (n : ℕ). SendsAll (round own n bytes) (Err e) a b) (sym same) p
round_no_more own (suc d) k bytes e a b p =
    let next : k + suc d ≡ suc (k + d) = omega arith in
    subst (λ (n : ℕ). SendsAll (round own n bytes) (Err e) a b) (sym next)
    (sends_no_more (round own (k + d) bytes) (to_other own (k + d) bytes) e a b (round_no_more own d k bytes e a b p))

pub round_ends : (own k n : ℕ) (bytes : List ℕ) (e : Stop) (a b c : LinkState) → k < n → SendsAll (round own k bytes) (Ok tt) a b → SendsAll (to_other own k bytes) (Err e) b c → SendsAll (round own n bytes) (Err e) a c
round_ends own k n bytes e a b c lt p q =
    let all : (k + 1) + (n - (k + 1)) ≡ n = omega (arith, lt) in
    subst (λ (m : ℕ). SendsAll (round own m bytes) (Err e) a c) all
    (round_no_more own (n - (k + 1)) (k + 1) bytes e a c (round_then own k bytes (Err e) a b c p q))

-- ---- faults

faults_stay : (xs : List Outgoing) (r : Result (Unit {0}) Stop) (a b : LinkState) → SendsAll xs r a b → b.faults ≡ a.faults
faults_stay [] r a b p = subst (λ s. s.faults ≡ a.faults) (sym p.1) refl
faults_stay (x ∷ xs) r a b p = goes_on (faults_stay xs r p.1 b) p.0 p.3 ∙ p.2.faults
  where
    goes_on : (SendsAll xs r p.1 b → b.faults ≡ p.1.faults) → (answered : Result (Unit {0}) Stop) → Follows answered (SendsAll xs) r p.1 b → b.faults ≡ p.1.faults
    goes_on go (Ok u) rest = go rest
    goes_on go (Err Failed) rest = go rest
    goes_on go (Err OutOfMemory) rest = subst (λ s. s.faults ≡ p.1.faults) (sym rest.1) refl

-- a send that failed is no reason to stop
never_failed : (xs : List Outgoing) (a b : LinkState) → SendsAll xs (Err Failed) a b → ⊥
never_failed [] a b p = absurd cc
never_failed (x ∷ xs) a b p = goes_on (never_failed xs p.1 b) p.0 p.3
  where
    goes_on : (SendsAll xs (Err Failed) p.1 b → ⊥) → (answered : Result (Unit {0}) Stop) → Follows answered (SendsAll xs) (Err Failed) p.1 b → ⊥
    goes_on go (Ok u) rest = go rest
    goes_on go (Err Failed) rest = go rest
    goes_on go (Err OutOfMemory) rest = absurd cc

counted : (xs : List Outgoing) (got : Got) (went : Result (Unit {0}) Stop) (a b : LinkState) → SendsAll xs went a b → b.faults ≡ count_after (handed got went) a.faults
counted xs got (Ok u) a b p = faults_stay xs (Ok u) a b p
counted xs got (Err Failed) a b p = absurd (never_failed xs a b p)
counted xs got (Err OutOfMemory) a b p = faults_stay xs (Err OutOfMemory) a b p

after_gave : (own : Own) (gave result : Result Got Stop) (r after_it : Rounds) (old a b : LinkState) → a.faults ≡ count_after gave old.faults → Passes own gave result r after_it a b → b.faults ≡ count_after result old.faults
after_gave own (Err e) result r after_it old a b f p =
    subst (λ (x : Result Got Stop). b.faults ≡ count_after x old.faults) (sym p.0) (ap (λ (s : LinkState). s.faults) p.2 ∙ f)
after_gave own (Ok got) result r after_it old a b f (inl g) =
    subst (λ (x : Result Got Stop). b.faults ≡ count_after x old.faults) (sym g.hands)
    (counted (hellos own r g.now got) got g.went a b g.sends ∙ ap (count_after (handed got g.went)) f)
after_gave own (Ok got) result r after_it old a b f (inr n) =
    subst (λ (x : Result Got Stop). b.faults ≡ count_after x old.faults) (sym n.answer) (ap (λ (s : LinkState). s.faults) n.below ∙ f)

pub faults_after : (own : Own) (wait : ℕ) (result : Result Got Stop) (r after_it : Rounds) (old new : LinkState) → AsksOnce own wait result r after_it old new → new.faults ≡ count_after result old.faults
faults_after own wait result r after_it old new p = after_gave own p.gave result r after_it old p.between new p.asks.faults p.passes
