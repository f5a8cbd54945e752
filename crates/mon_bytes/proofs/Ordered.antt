-- Entries that are read in ascending order of key are their encoding.
use Rattle.std.proofs.Common.{◌≡◌, ℕ, zero, suc, ◌<◌, ◌^◌, Bool, true, false, ◌&&◌, List, [], ◌∷◌, ◌++◌, length, Ok, Less, Equal, Greater, Ordering, T, refl, sym, subst, ◌∙◌, append_assoc, arith}
use Rattle.std.specs.Cmp.{IsTotalOrder}
use Rattle.std.specs.List.{flat_map, AllByRecursion}
use Rattle.std.specs.Ordering.{is_lt}
use Rattle.std.specs.FinMap.{is_sorted}
use Rattle.std.specs.FinMap.Entries.{below_all}
use Rattle.mon_bytes.specs.Answers.{◌>>=◌}
use Rattle.mon_bytes.specs.Format.{Reader}
use Rattle.mon_bytes.specs.Reading.{IsBytes, Reading}
use Rattle.mon_bytes.proofs.Fields.{ok_is, Takes, Takes-then, Found}
use Rattle.mon_bytes.proofs.Formats.{bind_ok}

pub both : (a b : Bool) → T a → T b → T (a && b)
both true b p q = q
both false b p q = absurd p

pub first : (a b : Bool) → T (a && b) → T a
first true b p = tt
first false b p = absurd p

pub second : (a b : Bool) → T (a && b) → T b
second true b p = p
second false b p = absurd p

pub less : (o : Ordering) → T (is_lt o) → o ≡ Less
less Less p = refl
less Equal p = absurd p
less Greater p = absurd p

-- what is below a key is below all that is above that key
pub below_less : {K V : Type 0} {cmp : K → K → Ordering} → IsTotalOrder cmp → (x y : K) (es : List (K × V)) → cmp x y ≡ Less → T (below_all cmp y es) → T (below_all cmp x es)
below_less total x y [] p h = tt
below_less {K} {V} {cmp} total x y (e ∷ es) p h =
    let below : cmp x e.0 ≡ Less = total.trans x y e.0 p (less _ (first _ _ h)) in
    rw below (below_less total x y es p (second _ _ h))

-- entries in ascending order of key: how one is encoded and read after the key before it, and this many of them
pub record Entries (E K V : Type 0) : Type 1 where
  pub cmp : K → K → Ordering
  pub total : IsTotalOrder cmp
  pub text : K × V → List ℕ
  pub Form : K × V → Type 0
  pub one : K → Reader E (K × V)
  pub many : ℕ → K → Reader E (List (K × V))
  pub none : (before : K) (c : Reading) → many 0 before c ≡ Ok ([], c)
  pub some : (n : ℕ) (before : K) (c : Reading) → many (suc n) before c ≡ (one before c >>= λ first. many n first.0.0 first.1 >>= λ others. Ok (first.0 ∷ others.0, others.1))

pub record TakesEntry {E K V : Type 0} (o : Entries E K V) (before : K) (c : Reading) (x : (K × V) × Reading) : Type 0 where
  pub all : Takes c (o.text x.0) x.1
  pub form : o.Form x.0
  pub rises : o.cmp before x.0.0 ≡ Less

pub record TakesEntries {E K V : Type 0} (o : Entries E K V) (n : ℕ) (before : K) (c : Reading) (x : List (K × V) × Reading) : Type 0 where
  pub all : Takes c (flat_map o.text x.0) x.1
  pub each : AllByRecursion o.Form x.0
  pub sorted : T (is_sorted o.cmp x.0)
  pub above : T (below_all o.cmp before x.0)
  pub count : length x.0 ≡ n

pub entries_takes : {E K V : Type 0} (o : Entries E K V) → ((before : K) (c : Reading) (x : (K × V) × Reading) → IsBytes c.rest → o.one before c ≡ Ok x → TakesEntry o before c x)
    → (n : ℕ) (before : K) (c : Reading) (x : List (K × V) × Reading) → IsBytes c.rest → o.many n before c ≡ Ok x → TakesEntries o n before c x
entries_takes o takes zero before c x fits e =
    subst (TakesEntries o 0 before c) (ok_is ([], c) x (sym (o.none before c) ∙ e)) (record { all = record { parts = refl; bytes = fits }; each = tt; sorted = tt; above = tt; count = refl })
entries_takes o takes (suc n) before c x fits e =
    let a = bind_ok (o.one before c) (λ first. o.many n first.0.0 first.1 >>= λ others. Ok (first.0 ∷ others.0, others.1)) x (sym (o.some n before c) ∙ e) in
    let b = bind_ok (o.many n a.0.0.0 a.0.1) (λ others. Ok (a.0.0 ∷ others.0, others.1)) x a.2 in
    let t0 = takes before c a.0 fits a.1 in
    let t1 = entries_takes o takes n a.0.0.0 a.0.1 b.0 t0.all.bytes b.1 in
    subst (TakesEntries o (suc n) before c) {x = (a.0.0 ∷ b.0.0, b.0.1)} (ok_is (a.0.0 ∷ b.0.0, b.0.1) x b.2)
    (record {
      all = Takes-then c a.0.1 b.0.1 (o.text a.0.0) (flat_map o.text b.0.0) t0.all t1.all;
      each = (t0.form, t1.each);
      sorted = both _ _ t1.above t1.sorted;
      above = both _ _ (subst (λ r. T (is_lt r)) (sym t0.rises) tt) (below_less o.total before a.0.0.0 b.0.0 t0.rises t1.above);
      count = omega (arith, t1.count);
    })

pub entries_found : {E K V : Type 0} (o : Entries E K V)
    → ((before : K) (e : K × V) (c : Reading) (rest : List ℕ) → c.rest ≡ o.text e ++ rest → o.Form e → o.cmp before e.0 ≡ Less → Found (o.one before c) e rest)
    → (before : K) (es : List (K × V)) (c : Reading) (rest : List ℕ) → c.rest ≡ flat_map o.text es ++ rest → AllByRecursion o.Form es → T (is_sorted o.cmp es) → T (below_all o.cmp before es) → Found (o.many (length es) before c) es rest
entries_found o found before [] c rest e each sorted above = (c, e, o.none before c)
entries_found o found before (x ∷ es) c rest e each sorted above =
    let a = found before x c (flat_map o.text es ++ rest) (e ∙ append_assoc (o.text x) (flat_map o.text es) rest) each.0 (less (o.cmp before x.0) (first (is_lt (o.cmp before x.0)) (below_all o.cmp before es) above)) in
    let b = entries_found o found x.0 es a.0 rest a.1 each.1 (second (below_all o.cmp x.0 es) (is_sorted o.cmp es) sorted) (first (below_all o.cmp x.0 es) (is_sorted o.cmp es) sorted) in
    (b.0, b.1, o.some (length es) before c ∙ rw (a.2, b.2) refl)
