-- What the readers of numbers and bytes take from the front, and that they take what is there.
use Rattle.std.proofs.Common.{◌≡◌, ℕ, ◌+◌, ◌^◌, ◌≤◌, ◌<◌, Bool, true, false, cond, ltb, List, [], ◌∷◌, ◌++◌, length, take, drop, Result, Ok, Err, refl, sym, ap, subst, ◌∙◌, append_assoc, arith, inl, inr}
use Rattle.std.proofs.lemmas.Bool.{cases_lt, ltb-false, le-ltb}
use Rattle.std.proofs.lemmas.List.{append-nil, take_at, drop_at, take-append-drop, length-append, length-take, get_or-drop, get_or-take, get_or_past}
use Rattle.byteorder.specs.Endian.{little_bytes, little_number}
use Rattle.mon_bytes.specs.Reading.{IsBytes, Reading, moved, number, next_bytes}
pub use Rattle.mon_bytes.specs.Reading.{Takes, Found}
use Rattle.mon_bytes.proofs.LittleEndian.{little_number-below, little_bytes-little_number}

pub IsBytes-drop : (n : ℕ) (bytes : List ℕ) → IsBytes bytes → IsBytes (drop n bytes)
IsBytes-drop n bytes h i = rw get_or-drop (h (n + i))

pub IsBytes-take : (n : ℕ) (bytes : List ℕ) → IsBytes bytes → IsBytes (take n bytes)
IsBytes-take n bytes h i =
    elim (cases_lt i n) [
      | inl lt ↦ rw (get_or-take n bytes i 0 lt) (h i)
      | inr le ↦ rw (get_or_past (take n bytes) i 0 (omega (arith, length-take n bytes))) (omega arith)
    ]

pub guard_ok : {A E : Type 0} (b : Bool) (d : E) (r : Result A E) (y : A) → cond b (Err d) r ≡ Ok y → (b ≡ false) × (r ≡ Ok y)
guard_ok true d r y e = absurd cc
guard_ok false d r y e = (refl, e)

pub chosen_ok : {A E : Type 0} (b : Bool) (d : E) (r : Result A E) (y : A) → cond b r (Err d) ≡ Ok y → (b ≡ true) × (r ≡ Ok y)
chosen_ok true d r y e = (refl, e)
chosen_ok false d r y e = absurd cc

pub ok_is : {A E : Type 0} (x y : A) → ◌≡◌ {A = Result A E} (Ok x) (Ok y) → x ≡ y
ok_is x y e = cc

pub Takes-then : (a b c : Reading) (x y : List ℕ) → Takes a x b → Takes b y c → Takes a (x ++ y) c
Takes-then a b c x y p q = record { parts = p.parts ∙ ap (λ (t : List ℕ). x ++ t) q.parts ∙ sym (append_assoc x y c.rest); bytes = q.bytes }

-- if nothing is left, all was taken
pub Takes-whole : (c after : Reading) (text : List ℕ) → Takes c text after → after.rest ≡ [] → c.rest ≡ text
Takes-whole c after text t none = t.parts ∙ ap (λ (r : List ℕ). text ++ r) none ∙ append-nil text

pub front_takes : (n : ℕ) (c : Reading) (x : List ℕ × Reading) → IsBytes c.rest → next_bytes n c ≡ Ok x → Takes c x.0 x.1 × (length x.0 ≡ n)
front_takes n c x fits e =
    let g = guard_ok (ltb (length c.rest) n) (record { at = c.at }) (Ok (take n c.rest, moved n c)) x e in
    let long : n ≤ length c.rest = ltb-false _ _ g.0 in
    subst (λ (p : List ℕ × Reading). Takes c p.0 p.1 × (length p.0 ≡ n)) (ok_is (take n c.rest, moved n c) x g.1)
    (record { parts = sym (take-append-drop n c.rest); bytes = IsBytes-drop n c.rest fits }, omega (arith, length-take n c.rest))

pub number_takes : (k : ℕ) (c : Reading) (x : ℕ × Reading) → IsBytes c.rest → number k c ≡ Ok x → Takes c (little_bytes k x.0) x.1 × (x.0 < 256 ^ k)
number_takes k c x fits e =
    let g = guard_ok (ltb (length c.rest) k) (record { at = c.at }) (Ok (little_number k (take k c.rest), moved k c)) x e in
    let long : k ≤ length c.rest = ltb-false _ _ g.0 in
    let len : length (take k c.rest) ≡ k = omega (arith, length-take k c.rest) in
    let back = little_bytes-little_number k (take k c.rest) len (IsBytes-take k c.rest fits) in
    subst (λ (p : ℕ × Reading). Takes c (little_bytes k p.0) p.1 × (p.0 < 256 ^ k)) (ok_is (little_number k (take k c.rest), moved k c) x g.1)
    (record { parts = sym (take-append-drop k c.rest) ∙ ap (λ (t : List ℕ). t ++ drop k c.rest) (sym back); bytes = IsBytes-drop k c.rest fits }, little_number-below k (take k c.rest) len (IsBytes-take k c.rest fits))

pub byte_takes : (c : Reading) (x : ℕ × Reading) → IsBytes c.rest → number 1 c ≡ Ok x → Takes c (x.0 ∷ []) x.1 × (x.0 < 256)
byte_takes c x fits e =
    let t = number_takes 1 c x fits e in
    let one : little_bytes 1 x.0 ≡ x.0 ∷ [] = ap (λ (n : ℕ). n ∷ []) (omega (arith, t.1)) in
    (subst (λ (bs : List ℕ). Takes c bs x.1) one t.0, omega (arith, t.1))

pub number_found : (k : ℕ) (c : Reading) (bytes rest : List ℕ) (n : ℕ) → c.rest ≡ bytes ++ rest → length bytes ≡ k → little_number k bytes ≡ n → Found (number k c) n rest
number_found k c bytes rest n e len is =
    let first : take k c.rest ≡ bytes = ap (take k) e ∙ take_at bytes rest k len in
    let others : drop k c.rest ≡ rest = ap (drop k) e ∙ drop_at bytes rest k len in
    let long : ltb (length c.rest) k ≡ false = le-ltb _ _ (omega (arith, ap length e, length-append bytes rest)) in
    (moved k c, others, rw (long, first, is) refl)

pub byte_found : (c : Reading) (n : ℕ) (rest : List ℕ) → c.rest ≡ n ∷ rest → Found (number 1 c) n rest
byte_found c n rest e = number_found 1 c (n ∷ []) rest n e refl (omega arith)

pub front_found : (k : ℕ) (c : Reading) (bytes rest : List ℕ) → c.rest ≡ bytes ++ rest → length bytes ≡ k → Found (next_bytes k c) bytes rest
front_found k c bytes rest e len =
    let first : take k c.rest ≡ bytes = ap (take k) e ∙ take_at bytes rest k len in
    let others : drop k c.rest ≡ rest = ap (drop k) e ∙ drop_at bytes rest k len in
    let long : ltb (length c.rest) k ≡ false = le-ltb _ _ (omega (arith, ap length e, length-append bytes rest)) in
    (moved k c, others, rw (long, first) refl)
