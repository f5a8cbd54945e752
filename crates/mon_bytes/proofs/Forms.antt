-- What the readers of forms take, and that they read what is encoded.
use Rattle.std.proofs.Common.{◌≡◌, ℕ, ◌^◌, ◌<◌, cond, eqb, List, [], ◌++◌, length, Result, Ok, Err, IsTrue, refl, sym, ap, subst, ◌∙◌, arith}
use Rattle.std.proofs.lemmas.Bool.{eqb-true}
use Rattle.std.proofs.lemmas.List.{append-nil, nil_from_length}
use Rattle.std.specs.Prelude.{IfOk}
use Rattle.std.specs.Str.{is_utf8}
use Rattle.byteorder.specs.Endian.{little_bytes}
use Rattle.byteorder.specs.Numbers.{little_number-reads_back}
use Rattle.mon_bytes.specs.declared.cursor.Short.{Short}
use Rattle.mon_bytes.specs.declared.command.MapRefused.{MapRefused}
use Rattle.mon_bytes.specs.declared.command.MapRefused.TheVariants as refused
use Rattle.mon_bytes.specs.Format.{Format, IsLawful}
use Rattle.mon_bytes.specs.Reading.{IsBytes, Reading, number, next_bytes}
use Rattle.mon_bytes.specs.Forms.{◌>>=◌, fitted, u32_bytes, text_bytes, text_at, ended, whole, Gives}
pub use Rattle.mon_bytes.proofs.Formats.{bind_ok}
use Rattle.mon_bytes.proofs.Formats.{at_fault_ok}
use Rattle.mon_bytes.proofs.Fields.{chosen_ok, ok_is, Takes, Takes-then, Takes-whole, front_takes, number_takes, Found, number_found, front_found}

pub fitted_ok : {A : Type 0} (r : Result A Short) (x : A) → fitted r ≡ Ok x → r ≡ Ok x
fitted_ok r x e = at_fault_ok (λ at. refused.Form at) r x e

pub length-u32_bytes : (n : ℕ) → length (u32_bytes n) ≡ 4
unfolding u32_bytes
length-u32_bytes n = refl

pub u32_takes : (c : Reading) (x : ℕ × Reading) → IsBytes c.rest → number 4 c ≡ Ok x → Takes c (u32_bytes x.0) x.1 × (x.0 < 2 ^ 32)
unfolding u32_bytes
u32_takes c x fits e = let t = number_takes 4 c x fits e in (t.0, omega (arith, t.1))

pub u32_found : (c : Reading) (n : ℕ) (rest : List ℕ) → c.rest ≡ u32_bytes n ++ rest → n < 2 ^ 32 → Found (number 4 c) n rest
unfolding u32_bytes
u32_found c n rest e lt = number_found 4 c (little_bytes 4 n) rest n e refl (little_number-reads_back 4 n [] (omega arith))

-- a count, and this many entries
pub counted : (c : Reading) (n : ℕ × Reading) (after : Reading) (k : ℕ) (bytes : List ℕ) → Takes c (u32_bytes n.0) n.1 × (n.0 < 2 ^ 32) → k ≡ n.0 → Takes n.1 bytes after → Takes c (u32_bytes k ++ bytes) after × (k < 2 ^ 32)
counted c n after k bytes t is more =
    (subst (λ (m : ℕ). Takes c (u32_bytes m ++ bytes) after) (sym is) (Takes-then c n.1 after (u32_bytes n.0) bytes t.0 more), omega (arith, is, t.1))

pub text_takes : (c : Reading) (x : List ℕ × Reading) → IsBytes c.rest → text_at c ≡ Ok x → Takes c (text_bytes x.0) x.1 × IsTrue (is_utf8 x.0) × (length x.0 < 2 ^ 32)
unfolding text_at
text_takes c x fits e =
    let a = bind_ok (fitted (number 4 c)) (λ n. fitted (next_bytes n.0 n.1) >>= λ bytes. cond (is_utf8 bytes.0) (Ok bytes) (Err (refused.Form n.1.at))) x e in
    let n = a.0 in
    let b = bind_ok (fitted (next_bytes n.0 n.1)) (λ bytes. cond (is_utf8 bytes.0) (Ok bytes) (Err (refused.Form n.1.at))) x a.2 in
    let g = chosen_ok (is_utf8 b.0.0) (refused.Form n.1.at) (Ok b.0) x b.2 in
    let t0 = u32_takes c n fits (fitted_ok (number 4 c) n a.1) in
    let t1 = front_takes n.0 n.1 b.0 t0.0.bytes (fitted_ok (next_bytes n.0 n.1) b.0 b.1) in
    let all = Takes-then c n.1 b.0.1 (u32_bytes n.0) b.0.0 t0.0 t1.0 in
    subst (λ (p : List ℕ × Reading). Takes c (text_bytes p.0) p.1 × IsTrue (is_utf8 p.0) × (length p.0 < 2 ^ 32)) (ok_is b.0 x g.1)
    (subst (λ (k : ℕ). Takes c (u32_bytes k ++ b.0.0) b.0.1) (sym t1.1) all, g.0, omega (arith, t0.1, t1.1))

pub text_found : (c : Reading) (text rest : List ℕ) → c.rest ≡ u32_bytes (length text) ++ (text ++ rest) → IsTrue (is_utf8 text) → length text < 2 ^ 32 → Found (text_at c) text rest
unfolding text_at
text_found c text rest e utf8 lt =
    let a = u32_found c (length text) (text ++ rest) e lt in
    let b = front_found (length text) a.0 text rest a.1 refl in
    (b.0, b.1, rw (a.2, b.2, utf8) refl)

pub ended_ok : {A : Type 0} (x : A × Reading) (y : A) → ended x ≡ Ok y → (x.0 ≡ y) × (x.1.rest ≡ [])
unfolding ended
ended_ok x y e =
    let g = chosen_ok (eqb (length x.1.rest) 0) (refused.Form x.1.at) (Ok x.0) y e in
    (ok_is x.0 y g.1, nil_from_length x.1.rest (eqb-true _ _ g.0))

pub ended_found : {A : Type 0} (x : A) (c : Reading) → c.rest ≡ [] → ended (x, c) ≡ Ok x
unfolding ended
ended_found x c e = rw e refl

-- ---- all of the bytes

pub whole_takes : {A : Type 0} (f : Format MapRefused A) → IsLawful f → (bytes : List ℕ) (x : A) → IsBytes bytes → whole f bytes ≡ Ok x → f.Form x × (bytes ≡ f.text x)
unfolding whole
whole_takes {A} f lf bytes x fits e =
    let c : Reading = record { at = 0; rest = bytes } in
    let a = bind_ok (f.read c) (λ y. ended y) x e in
    let done = ended_ok a.0 x a.2 in
    let t = lf.takes c a.0 fits a.1 in
    subst (λ (y : A). f.Form y × (bytes ≡ f.text y)) done.0 (t.1, Takes-whole c a.0.1 (f.text a.0.0) t.0 done.1)

pub whole_again : {A : Type 0} (f : Format MapRefused A) → IsLawful f → (x : A) → f.Form x → whole f (f.text x) ≡ Ok x
unfolding whole
whole_again f lf x form =
    let a = lf.found (record { at = 0; rest = f.text x }) x [] (sym (append-nil (f.text x))) form in
    rw a.2 (ended_found x a.0 a.1)

pub is_found : {A : Type 0} (f : Format MapRefused A) → IsLawful f → (bytes : List ℕ) (r : Result A MapRefused) → IsBytes bytes → Gives (λ x. x) r (whole f bytes) → IfOk r (λ x. f.Form x × (bytes ≡ f.text x))
is_found f lf bytes (Ok x) fits h = whole_takes f lf bytes x fits h
is_found f lf bytes (Err e) fits h = tt

pub is_only : {A : Type 0} (f : Format MapRefused A) → IsLawful f → (bytes : List ℕ) (r : Result A MapRefused) → Gives (λ x. x) r (whole f bytes) → (x : A) → f.Form x → bytes ≡ f.text x → Gives (λ x. x) r (Ok x)
is_only f lf bytes r h x form e = subst (Gives (λ x. x) r) (ap (whole f) e ∙ whole_again f lf x form) h
