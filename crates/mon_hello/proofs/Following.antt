-- The histories of a link that is asked to send one datagram after the other.
use Rattle.std.proofs.Common.{◌≡◌, ℕ, zero, suc, ◌+◌, ◌-◌, ◌<◌, List, [], ◌∷◌, ◌++◌, Result, Ok, Err, ◌⊎◌, refl, sym, ap, subst, inl, inr, arith}
use Rattle.mon_link.specs.Histories.{Happened, GoesOn}
use Rattle.mon_link.specs.Histories.Happened.{WasSent}
use Rattle.mon_link.specs.Layers.{Grows}
use Rattle.mon_link.proofs.Layers.{grows_one}
use Rattle.mon_link.specs.declared.link.Outgoing.{Outgoing}
use Rattle.mon_link.specs.declared.link.Peer.{Peer}
use Rattle.mon_types.specs.declared.names.Stop.{Stop}
use Rattle.mon_types.specs.declared.names.Stop.TheVariants.{Failed, OutOfMemory}
use Rattle.mon_hello.specs.Greets.{outgoing, round, to_other}
use Rattle.mon_hello.specs.Histories.{AreSent, IsFollowed}

pub sent_then : (xs ys : List Outgoing) (r : Result (Unit {0}) Stop) (a b : List Happened) → AreSent xs (Ok tt) a → AreSent ys r b → AreSent (xs ++ ys) r (a ++ b)
sent_then [] ys r a b p q = subst (λ (zs : List Happened). AreSent ys r (zs ++ b)) (sym p.1) q
sent_then (x ∷ xs) ys r a b p q = (p.0, p.1 ++ b, ap (λ (zs : List Happened). zs ++ b) p.2, goes (λ rest. sent_then xs ys r p.1 b rest q) p.0 p.3)
  where
    goes : (AreSent xs (Ok tt) p.1 → AreSent (xs ++ ys) r (p.1 ++ b)) → (answered : Result (Unit {0}) Stop) → IsFollowed answered (AreSent xs) (Ok tt) p.1 → IsFollowed answered (AreSent (xs ++ ys)) r (p.1 ++ b)
    goes go (Ok u) rest = go rest
    goes go (Err Failed) rest = go rest
    goes go (Err OutOfMemory) rest = absurd cc

-- after an error, the datagrams that follow aren't sent
pub sent_no_more : (xs ys : List Outgoing) (e : Stop) (a : List Happened) → AreSent xs (Err e) a → AreSent (xs ++ ys) (Err e) a
sent_no_more [] ys e a p = absurd cc
sent_no_more (x ∷ xs) ys e a p = (p.0, p.1, p.2, goes (sent_no_more xs ys e p.1) p.0 p.3)
  where
    goes : (AreSent xs (Err e) p.1 → AreSent (xs ++ ys) (Err e) p.1) → (answered : Result (Unit {0}) Stop) → IsFollowed answered (AreSent xs) (Err e) p.1 → IsFollowed answered (AreSent (xs ++ ys)) (Err e) p.1
    goes go (Ok u) rest = go rest
    goes go (Err Failed) rest = go rest
    goes go (Err OutOfMemory) rest = rest

-- ---- a round

-- one more monitor, and the last one that was asked
pub one_greeted : (own k : ℕ) (bytes : List ℕ) (r : Result (Unit {0}) Stop) (a b : List Happened) → AreSent (round own k bytes) (Ok tt) a → AreSent (to_other own k bytes) r b → AreSent (round own (k + 1) bytes) r (a ++ b)
one_greeted own k bytes r a b p q =
    let next : k + 1 ≡ suc k = omega arith in
    subst (λ (n : ℕ). AreSent (round own n bytes) r (a ++ b)) (sym next) (sent_then (round own k bytes) (to_other own k bytes) r a b p q)

none_greeted : (own d k : ℕ) (bytes : List ℕ) (e : Stop) (a : List Happened) → AreSent (round own k bytes) (Err e) a → AreSent (round own (k + d) bytes) (Err e) a
none_greeted own zero k bytes e a p =
    let same : k + 0 ≡ k = omega arith in
    subst (λ (n : ℕ). AreSent (round own n bytes) (Err e) a) (sym same) p
none_greeted own (suc d) k bytes e a p =
    let next : k + suc d ≡ suc (k + d) = omega arith in
    subst (λ (n : ℕ). AreSent (round own n bytes) (Err e) a) (sym next)
    (sent_no_more (round own (k + d) bytes) (to_other own (k + d) bytes) e a (none_greeted own d k bytes e a p))

pub last_greeted : (own k n : ℕ) (bytes : List ℕ) (e : Stop) → k < n → (a b : List Happened) → AreSent (round own k bytes) (Ok tt) a → AreSent (to_other own k bytes) (Err e) b → AreSent (round own n bytes) (Err e) (a ++ b)
last_greeted own k n bytes e lt a b p q =
    let all : (k + 1) + (n - (k + 1)) ≡ n = omega (arith, lt) in
    subst (λ (m : ℕ). AreSent (round own m bytes) (Err e) (a ++ b)) all
    (none_greeted own (n - (k + 1)) (k + 1) bytes e (a ++ b) (one_greeted own k bytes (Err e) a b p q))

-- ---- one hello

pub one_went : (Old New : List Happened → Type 0) (to : Peer) (bytes : List ℕ) (answered : Result (Unit {0}) Stop) → GoesOn Old (WasSent to bytes answered) New → answered ≡ Ok tt → Grows Old (AreSent (outgoing to bytes ∷ []) (Ok tt)) New
one_went Old New to bytes answered goes is =
    grows_one Old New (AreSent (outgoing to bytes ∷ []) (Ok tt)) (WasSent to bytes answered) goes
    (subst (λ r. AreSent (outgoing to bytes ∷ []) (Ok tt) (WasSent to bytes r ∷ [])) (sym is) (Ok tt, [], refl, (refl, refl)))

pub one_lost : (Old New : List Happened → Type 0) (to : Peer) (bytes : List ℕ) (answered : Result (Unit {0}) Stop) → GoesOn Old (WasSent to bytes answered) New → answered ≡ Err Failed → Grows Old (AreSent (outgoing to bytes ∷ []) (Ok tt)) New
one_lost Old New to bytes answered goes is =
    grows_one Old New (AreSent (outgoing to bytes ∷ []) (Ok tt)) (WasSent to bytes answered) goes
    (subst (λ r. AreSent (outgoing to bytes ∷ []) (Ok tt) (WasSent to bytes r ∷ [])) (sym is) (Err Failed, [], refl, (refl, refl)))

pub no_memory_for_one : (Old New : List Happened → Type 0) (to : Peer) (bytes : List ℕ) (answered : Result (Unit {0}) Stop) → GoesOn Old (WasSent to bytes answered) New → answered ≡ Err OutOfMemory → Grows Old (AreSent (outgoing to bytes ∷ []) (Err OutOfMemory)) New
no_memory_for_one Old New to bytes answered goes is =
    grows_one Old New (AreSent (outgoing to bytes ∷ []) (Err OutOfMemory)) (WasSent to bytes answered) goes
    (subst (λ r. AreSent (outgoing to bytes ∷ []) (Err OutOfMemory) (WasSent to bytes r ∷ [])) (sym is) (Err OutOfMemory, [], refl, (refl, refl)))

pub one_settled : (Old New : List Happened → Type 0) (to : Peer) (bytes : List ℕ) (answered : Result (Unit {0}) Stop) → GoesOn Old (WasSent to bytes answered) New → (answered ≡ Ok tt) ⊎ (answered ≡ Err Failed) → Grows Old (AreSent (outgoing to bytes ∷ []) (Ok tt)) New
one_settled Old New to bytes answered goes (inl is) = one_went Old New to bytes answered goes is
one_settled Old New to bytes answered goes (inr is) = one_lost Old New to bytes answered goes is
