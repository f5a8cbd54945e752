-- Decoding in a format accepts exactly the encodings.
use Rattle.std.proofs.Common.{◌≡◌, ℕ, zero, suc, ◌^◌, ◌≤◌, ◌<◌, ◌⊎◌, Bool, true, false, cond, eqb, List, [], ◌∷◌, ◌++◌, length, Result, Ok, Err, refl, sym, ap, subst, ◌∙◌, append_assoc, arith, inl, inr}
use Rattle.std.specs.List.{flat_map, AllByRecursion}
use Rattle.std.proofs.lemmas.Bool.{cases_eq}
use Rattle.std.proofs.lemmas.Bool.Decides.{nat_tests}
use Rattle.byteorder.specs.Endian.{little_bytes}
use Rattle.byteorder.specs.Numbers.{little_number-reads_back}
use Rattle.mon_bytes.specs.declared.cursor.Short.{Short}
use Rattle.mon_bytes.specs.Reading.{IsBytes, Reading, number}
use Rattle.mon_bytes.proofs.Fields.{guard_ok, ok_is, Takes, Takes-then, number_takes, byte_takes, Found, number_found, byte_found}
use Rattle.mon_bytes.specs.Answers.{◌>>=◌, at_fault, Fails, Unless}
pub use Rattle.mon_bytes.specs.Format.{IsLawful}
use Rattle.mon_bytes.specs.Format.{Faults, Reader, Format, nothing, dependent, seen_as, as_parts, items, u16_bytes, list, some, Encoding, variant, chosen, tagged}

pub bind_ok : {A B E : Type 0} (r : Result A E) (f : A → Result B E) (y : B) → (r >>= f) ≡ Ok y → (x : A) × (r ≡ Ok x) × (f x ≡ Ok y)
bind_ok (Ok x) f y e = (x, refl, e)
bind_ok (Err d) f y e = absurd cc

pub bind_bind : {A B C E : Type 0} (r : Result A E) (f : A → Result B E) (g : B → Result C E) → ((r >>= f) >>= g) ≡ (r >>= λ x. f x >>= g)
bind_bind (Ok x) f g = refl
bind_bind (Err d) f g = refl

pub at_fault_ok : {A E : Type 0} (fault : ℕ → E) (r : Result A Short) (x : A) → at_fault fault r ≡ Ok x → r ≡ Ok x
at_fault_ok fault (Ok y) x e = let same : y ≡ x = cc in ap (λ z. Ok z) same
at_fault_ok fault (Err s) x e = absurd cc

-- if a part fails, the whole does
pub fails_on : {A B E : Type 0} (no_memory : E → Bool) (e : E) (part : Result A E) (more : A → Result B E) → Fails no_memory e part → Fails no_memory e (part >>= more)
fails_on {A} {B} {E} no_memory e part more = by (no_memory e)
  where
    by : (b : Bool) → Unless b (part ≡ Err e) → Unless b ((part >>= more) ≡ Err e)
    by true h = tt
    by false h = rw h refl

pub nothing-lawful : {E : Type 0} → IsLawful (nothing {E = E})
nothing-lawful {E} = record {
  takes = λ c x fits e. subst (λ (p : Unit {0} × Reading). Takes c [] p.1 × Unit {0}) (ok_is (tt, c) x e) (record { parts = refl; bytes = fits }, tt);
  found = λ c x rest e form. (c, e, refl);
}

pub dependent-lawful : {E A B : Type 0} (f : Format E A) (g : A → Format E B) → IsLawful f → ((x : A) → IsLawful (g x)) → IsLawful (dependent f g)
dependent-lawful {E} {A} {B} f g lf lg = record {
  takes = λ c x fits e.
      let a = bind_ok (f.read c) (λ x. (g x.0).read x.1 >>= λ y. Ok ((x.0, y.0), y.1)) x e in
      let b = bind_ok ((g a.0.0).read a.0.1) (λ y. Ok ((a.0.0, y.0), y.1)) x a.2 in
      let t0 = lf.takes c a.0 fits a.1 in
      let t1 = (lg a.0.0).takes a.0.1 b.0 t0.0.bytes b.1 in
      subst (λ (p : (A × B) × Reading). Takes c (f.text p.0.0 ++ (g p.0.0).text p.0.1) p.1 × (f.Form p.0.0 × (g p.0.0).Form p.0.1))
      (ok_is ((a.0.0, b.0.0), b.0.1) x b.2)
      (Takes-then c a.0.1 b.0.1 (f.text a.0.0) ((g a.0.0).text b.0.0) t0.0 t1.0, (t0.1, t1.1));
  found = λ c x rest e form.
      let a = lf.found c x.0 ((g x.0).text x.1 ++ rest) (e ∙ append_assoc (f.text x.0) ((g x.0).text x.1) rest) form.0 in
      let b = (lg x.0).found a.0 x.1 rest a.1 form.1 in
      (b.0, b.1, rw (a.2, b.2) refl);
}

pub seen_as-lawful : {E A B : Type 0} (f : Format E A) (whole : A → B) (parts : B → A) (Form : B → Type 0) → IsLawful f
    → ((x : A) → f.Form x → (parts (whole x) ≡ x) × Form (whole x)) → ((y : B) → Form y → (whole (parts y) ≡ y) × f.Form (parts y)) → IsLawful (seen_as f whole parts Form)
seen_as-lawful {E} {A} {B} f whole parts Form lf back again = record {
  takes = λ c x fits e.
      let a = bind_ok (f.read c) (λ x. Ok (whole x.0, x.1)) x e in
      let t = lf.takes c a.0 fits a.1 in
      let same = back a.0.0 t.1 in
      subst (λ (p : B × Reading). Takes c (f.text (parts p.0)) p.1 × Form p.0) (ok_is (whole a.0.0, a.0.1) x a.2)
      (subst (λ (y : A). Takes c (f.text y) a.0.1) (sym same.0) t.0, same.1);
  found = λ c y rest e form.
      let same = again y form in
      let a = lf.found c (parts y) rest e same.1 in
      (a.0, a.1, rw (a.2, same.0) refl);
}

pub as_parts-lawful : {E A B : Type 0} (f : Format E A) (whole : A → B) (parts : B → A) → IsLawful f → ((x : A) → parts (whole x) ≡ x) → ((y : B) → whole (parts y) ≡ y) → IsLawful (as_parts f whole parts)
as_parts-lawful {E} {A} {B} f whole parts lf back again =
    seen_as-lawful f whole parts (λ b. f.Form (parts b)) lf (λ x form. (back x, subst f.Form (sym (back x)) form)) (λ y form. (again y, form))

-- ---- lists

u16_takes : (c : Reading) (x : ℕ × Reading) → IsBytes c.rest → number 2 c ≡ Ok x → Takes c (u16_bytes x.0) x.1 × (x.0 < 2 ^ 16)
unfolding u16_bytes
u16_takes c x fits e = let t = number_takes 2 c x fits e in (t.0, omega (arith, t.1))

u16_found : (c : Reading) (n : ℕ) (rest : List ℕ) → c.rest ≡ u16_bytes n ++ rest → n < 2 ^ 16 → Found (number 2 c) n rest
unfolding u16_bytes
u16_found c n rest e lt = number_found 2 c (little_bytes 2 n) rest n e refl (little_number-reads_back 2 n [] (omega arith))

pub not_zero : (n : ℕ) → eqb n 0 ≡ false → 1 ≤ n
not_zero zero e = absurd cc
not_zero (suc n) e = omega arith

pub above_zero : (n : ℕ) → 1 ≤ n → eqb n 0 ≡ false
above_zero n h = grind (arith, nat_tests)

pub record TakesItems {E A : Type 0} (f : Format E A) (n : ℕ) (c : Reading) (x : List A × Reading) : Type 0 where
  pub all : Takes c (flat_map f.text x.0) x.1
  pub each : AllByRecursion f.Form x.0
  pub count : length x.0 ≡ n

pub items_takes : {E A : Type 0} (f : Format E A) (lf : IsLawful f) (n : ℕ) (c : Reading) (x : List A × Reading) → IsBytes c.rest → items f.read n c ≡ Ok x → TakesItems f n c x
unfolding items
items_takes f lf zero c x fits e = subst (TakesItems f 0 c) (ok_is ([], c) x e) (record { all = record { parts = refl; bytes = fits }; each = tt; count = refl })
items_takes f lf (suc n) c x fits e =
    let a = bind_ok (f.read c) (λ first. items f.read n first.1 >>= λ others. Ok (first.0 ∷ others.0, others.1)) x e in
    let b = bind_ok (items f.read n a.0.1) (λ others. Ok (a.0.0 ∷ others.0, others.1)) x a.2 in
    let t0 = lf.takes c a.0 fits a.1 in
    let t1 = items_takes f lf n a.0.1 b.0 t0.0.bytes b.1 in
    subst (TakesItems f (suc n) c) (ok_is (a.0.0 ∷ b.0.0, b.0.1) x b.2)
    (record { all = Takes-then c a.0.1 b.0.1 (f.text a.0.0) (flat_map f.text b.0.0) t0.0 t1.all; each = (t0.1, t1.each); count = omega (arith, t1.count) })

pub items_found : {E A : Type 0} (f : Format E A) (lf : IsLawful f) (xs : List A) (c : Reading) (rest : List ℕ) → c.rest ≡ flat_map f.text xs ++ rest → AllByRecursion f.Form xs → Found (items f.read (length xs) c) xs rest
unfolding items
items_found f lf [] c rest e each = (c, e, refl)
items_found f lf (x ∷ xs) c rest e each =
    let a = lf.found c x (flat_map f.text xs ++ rest) (e ∙ append_assoc (f.text x) (flat_map f.text xs) rest) each.0 in
    let b = items_found f lf xs a.0 rest a.1 each.1 in
    (b.0, b.1, rw (a.2, b.2) refl)

pub list-lawful : {E A : Type 0} (faults : Faults E) (f : Format E A) → IsLawful f → IsLawful (list faults f)
list-lawful {E} {A} faults f lf = record {
  takes = λ c x fits e.
      let a = bind_ok (at_fault faults.cut (number 2 c)) (λ n. items f.read n.0 n.1) x e in
      let t0 = u16_takes c a.0 fits (at_fault_ok faults.cut (number 2 c) a.0 a.1) in
      let t1 = items_takes f lf a.0.0 a.0.1 x t0.0.bytes a.2 in
      let all = Takes-then c a.0.1 x.1 (u16_bytes a.0.0) (flat_map f.text x.0) t0.0 t1.all in
      (subst (λ (n : ℕ). Takes c (u16_bytes n ++ flat_map f.text x.0) x.1) (sym t1.count) all, (omega (arith, t1.count, t0.1), t1.each));
  found = λ c xs rest e form.
      let a = u16_found c (length xs) (flat_map f.text xs ++ rest) (e ∙ append_assoc (u16_bytes (length xs)) (flat_map f.text xs) rest) form.0 in
      let b = items_found f lf xs a.0 rest a.1 form.1 in
      (b.0, b.1, rw a.2 b.2);
}

pub some-lawful : {E A : Type 0} (faults : Faults E) (f : Format E A) → IsLawful f → IsLawful (some faults f)
some-lawful {E} {A} faults f lf = record {
  takes = λ c x fits e.
      let a = bind_ok (at_fault faults.cut (number 2 c)) (λ n. cond (eqb n.0 0) (Err (faults.value c.at)) (items f.read n.0 n.1)) x e in
      let g = guard_ok (eqb a.0.0 0) (faults.value c.at) (items f.read a.0.0 a.0.1) x a.2 in
      let t0 = u16_takes c a.0 fits (at_fault_ok faults.cut (number 2 c) a.0 a.1) in
      let t1 = items_takes f lf a.0.0 a.0.1 x t0.0.bytes g.1 in
      let all = Takes-then c a.0.1 x.1 (u16_bytes a.0.0) (flat_map f.text x.0) t0.0 t1.all in
      let least : 1 ≤ a.0.0 = not_zero a.0.0 g.0 in
      (subst (λ (n : ℕ). Takes c (u16_bytes n ++ flat_map f.text x.0) x.1) (sym t1.count) all, (omega (arith, t1.count, least), (omega (arith, t1.count, t0.1), t1.each)));
  found = λ c xs rest e form.
      let a = u16_found c (length xs) (flat_map f.text xs ++ rest) (e ∙ append_assoc (u16_bytes (length xs)) (flat_map f.text xs) rest) form.1.0 in
      let b = items_found f lf xs a.0 rest a.1 form.1.1 in
      let least : eqb (length xs) 0 ≡ false = above_zero (length xs) form.0 in
      (b.0, b.1, rw (a.2, least) b.2);
}

-- ---- values of several kinds

-- what a reader of a kind reads is encoded after that kind
pub record IsTaken {E B : Type 0} (encoded : B → Encoding) (v : ℕ × Reader E B) (c : Reading) (x : B × Reading) : Type 0 where
  pub tag : (encoded x.0).tag ≡ v.0
  pub all : Takes c ((encoded x.0).text) x.1
  pub form : (encoded x.0).Form

abbrev pub TakesVariant : {E B : Type 0} → (B → Encoding) → ℕ × Reader E B → Type 0
TakesVariant {E} {B} encoded v = (c : Reading) (x : B × Reading) → IsBytes c.rest → v.1 c ≡ Ok x → IsTaken encoded v c x

pub variant_takes : {E A B : Type 0} (encoded : B → Encoding) (tag : ℕ) (f : Format E A) (whole : A → B) → IsLawful f
    → ((a : A) → (encoded (whole a)).tag ≡ tag)
    → ((a : A) → (encoded (whole a)).text ≡ f.text a)
    → ((a : A) → f.Form a → (encoded (whole a)).Form)
    → TakesVariant encoded (tag, variant f whole)
variant_takes encoded tag f whole lf same_tag same_text form c x fits e =
    let a = bind_ok (f.read c) (λ x. Ok (whole x.0, x.1)) x e in
    let t = lf.takes c a.0 fits a.1 in
    subst (IsTaken encoded (tag, variant f whole) c) (ok_is (whole a.0.0, a.0.1) x a.2)
    (record { tag = same_tag a.0.0; all = subst (λ (bytes : List ℕ). Takes c bytes a.0.1) (sym (same_text a.0.0)) t.0; form = form a.0.0 t.1 })

pub tested : {A E : Type 0} (m n : ℕ) (r s : Result A E) (x : A) → cond (eqb m n) r s ≡ Ok x → ((m ≡ n) × (r ≡ Ok x)) ⊎ (s ≡ Ok x)
tested m n r s x e =
    elim (cases_eq m n) [
      | inl same ↦ let t : eqb m n ≡ true = grind (arith, nat_tests) in inl (same, rw t at e)
      | inr ne ↦ let t : eqb m n ≡ false = grind (arith, nat_tests) in inr (rw t at e)
    ]

chosen_takes : {E B : Type 0} (faults : Faults E) (encoded : B → Encoding) (vs : List (ℕ × Reader E B)) (at kind : ℕ) (r : Reader E B) (c : Reading) (x : B × Reading) → AllByRecursion (TakesVariant encoded) vs → IsBytes c.rest → chosen faults vs at kind c ≡ Ok x → IsTaken encoded (kind, r) c x
chosen_takes faults encoded [] at kind r c x each fits e = absurd cc
chosen_takes faults encoded (v ∷ vs) at kind r c x each fits e =
    elim (tested kind v.0 (v.1 c) (chosen faults vs at kind c) x e) [
      | inl h ↦ let t = each.0 c x fits h.1 in record { tag = t.tag ∙ sym h.0; all = t.all; form = t.form }
      | inr h ↦ chosen_takes faults encoded vs at kind r c x each.1 fits h
    ]

pub choice_takes : {E B : Type 0} (faults : Faults E) (encoded : B → Encoding) (vs : List (ℕ × Reader E B)) → AllByRecursion (TakesVariant encoded) vs → (c : Reading) (x : B × Reading) → IsBytes c.rest → tagged faults vs c ≡ Ok x
    → Takes c ((encoded x.0).tag ∷ (encoded x.0).text) x.1 × (encoded x.0).Form
choice_takes faults encoded vs each c x fits e =
    let a = bind_ok (at_fault faults.cut (number 1 c)) (λ kind. chosen faults vs c.at kind.0 kind.1) x e in
    let t0 = byte_takes c a.0 fits (at_fault_ok faults.cut (number 1 c) a.0 a.1) in
    let t1 = chosen_takes faults encoded vs c.at a.0.0 (tagged faults vs) a.0.1 x each t0.0.bytes a.2 in
    let text = (encoded x.0).text in
    (subst (λ (n : ℕ). Takes c (n ∷ text) x.1) (sym t1.tag) (Takes-then c a.0.1 x.1 (a.0.0 ∷ []) text t0.0 t1.all), t1.form)

pub variant_found : {E A B : Type 0} (faults : Faults E) (vs : List (ℕ × Reader E B)) (f : Format E A) (whole : A → B) (tag : ℕ) → IsLawful f → ((at : ℕ) (d : Reading) → chosen faults vs at tag d ≡ variant f whole d)
    → (c : Reading) (a : A) (rest : List ℕ) → c.rest ≡ tag ∷ (f.text a ++ rest) → f.Form a → Found (tagged faults vs c) (whole a) rest
variant_found faults vs f whole tag lf pick c a rest e form =
    let k = byte_found c tag (f.text a ++ rest) e in
    let b = lf.found k.0 a rest k.1 form in
    (b.0, b.1, rw (k.2, pick c.at k.0, b.2) refl)
