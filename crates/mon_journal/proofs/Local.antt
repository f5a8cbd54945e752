-- A reader that succeeds looks at what it takes and at nothing after it.
use Rattle.std.proofs.Common.{◌≡◌, ℕ, ◌+◌, ◌≤◌, Bool, true, false, cond, ltb, List, [], ◌++◌, length, take, drop, Result, Ok, Err, refl, sym, ap, subst, ◌∙◌, append_assoc, length-append, arith}
use Rattle.std.proofs.lemmas.Bool.{ltb-false, le-ltb}
use Rattle.std.proofs.lemmas.List.{take_at, drop_at, take-append-drop, length-take}
use Rattle.byteorder.specs.Endian.{little_number}
use Rattle.mon_bytes.specs.declared.cursor.Short.{Short}
use Rattle.mon_bytes.specs.Reading.{Reading, moved, number, next_bytes}
use Rattle.mon_bytes.proofs.Fields.{guard_ok, ok_is}
use Rattle.mon_journal.specs.declared.stop.JournalStop.{JournalStop}
use Rattle.mon_journal.specs.Fields.{◌>>=◌, whole}

-- at this place, with these bytes left
abbrev pub from : ℕ → List ℕ → Reading
from at rest = record { at = at; rest = rest }

pub record Local {A : Type 0} (read : Reading → Result (A × Reading) JournalStop) (c : Reading) (x : A) (after : Reading) : Type 0 where
  pub taken : List ℕ
  pub parts : c.rest ≡ taken ++ after.rest
  pub place : after.at ≡ c.at + length taken
  pub again : (others : List ℕ) → read (from c.at (taken ++ others)) ≡ Ok (x, from after.at others)

abbrev pub IsLocal : {A : Type 0} → (Reading → Result (A × Reading) JournalStop) → Type 0
IsLocal {A} read = (c : Reading) (x : A × Reading) → read c ≡ Ok x → Local read c x.0 x.1

pub bind_ok : {A B : Type 0} (r : Result A JournalStop) (f : A → Result B JournalStop) (y : B) → (r >>= f) ≡ Ok y → (x : A) × (r ≡ Ok x) × (f x ≡ Ok y)
bind_ok (Ok x) f y e = (x, refl, e)
bind_ok (Err d) f y e = absurd cc

pub whole_ok : {A : Type 0} (r : Result A Short) (x : A) → whole r ≡ Ok x → r ≡ Ok x
whole_ok (Ok y) x e = let same : y ≡ x = cc in ap (λ z. Ok z) same
whole_ok (Err s) x e = absurd cc

pub number_local : (k : ℕ) → IsLocal (λ c. whole (number k c))
number_local k c x e =
    let g = guard_ok (ltb (length c.rest) k) (record { at = c.at }) (Ok (little_number k (take k c.rest), moved k c)) x (whole_ok (number k c) x e) in
    let long : k ≤ length c.rest = ltb-false _ _ g.0 in
    let len : length (take k c.rest) ≡ k = omega (arith, length-take k c.rest) in
    subst (λ (p : ℕ × Reading). Local (λ c. whole (number k c)) c p.0 p.1) (ok_is (little_number k (take k c.rest), moved k c) x g.1)
    (record {
      taken = take k c.rest;
      parts = sym (take-append-drop k c.rest);
      place = omega (arith, len);
      again = λ others.
          let first : take k (take k c.rest ++ others) ≡ take k c.rest = take_at (take k c.rest) others k len in
          let behind : drop k (take k c.rest ++ others) ≡ others = drop_at (take k c.rest) others k len in
          let there : ltb (length (take k c.rest ++ others)) k ≡ false = le-ltb _ _ (omega (arith, len, length-append (take k c.rest) others)) in
          rw (there, first, behind) refl;
    })

pub front_local : (k : ℕ) → IsLocal (λ c. whole (next_bytes k c))
front_local k c x e =
    let g = guard_ok (ltb (length c.rest) k) (record { at = c.at }) (Ok (take k c.rest, moved k c)) x (whole_ok (next_bytes k c) x e) in
    let long : k ≤ length c.rest = ltb-false _ _ g.0 in
    let len : length (take k c.rest) ≡ k = omega (arith, length-take k c.rest) in
    subst (λ (p : List ℕ × Reading). Local (λ c. whole (next_bytes k c)) c p.0 p.1) (ok_is (take k c.rest, moved k c) x g.1)
    (record {
      taken = take k c.rest;
      parts = sym (take-append-drop k c.rest);
      place = omega (arith, len);
      again = λ others.
          let first : take k (take k c.rest ++ others) ≡ take k c.rest = take_at (take k c.rest) others k len in
          let behind : drop k (take k c.rest ++ others) ≡ others = drop_at (take k c.rest) others k len in
          let there : ltb (length (take k c.rest ++ others)) k ≡ false = le-ltb _ _ (omega (arith, len, length-append (take k c.rest) others)) in
          rw (there, first, behind) refl;
    })

-- a reader that returns a known value takes no bytes
pub ok_local : {A : Type 0} (a : A) → IsLocal (λ c. Ok (a, c))
ok_local {A = A} a c x e =
    subst (λ (p : A × Reading). Local (λ c. Ok (a, c)) c p.0 p.1) (ok_is (a, c) x e)
    (record { taken = []; parts = refl; place = omega arith; again = λ others. refl })

pub fault_local : {A : Type 0} (fault : Reading → JournalStop) → IsLocal {A = A} (λ c. Err (fault c))
fault_local fault c x e = absurd cc

-- a test of what is known before reading
pub either_local : {A : Type 0} (b : Bool) (one two : Reading → Result (A × Reading) JournalStop) → IsLocal one → IsLocal two → IsLocal (λ c. cond b (one c) (two c))
either_local true one two l m c x e = l c x e
either_local false one two l m c x e = m c x e

-- one reader after another; the second may depend on the place where the first began
pub then_local : {A B : Type 0} (read : Reading → Result (A × Reading) JournalStop) (f : ℕ → A × Reading → Result (B × Reading) JournalStop)
    → IsLocal read → ((at : ℕ) (a : A) → IsLocal (λ c. f at (a, c))) → IsLocal (λ c. read c >>= f c.at)
then_local read f one two c x e =
    let b = bind_ok (read c) (f c.at) x e in
    let p = one c b.0 b.1 in
    let q = two c.at b.0.0 b.0.1 x b.2 in
    record {
      taken = p.taken ++ q.taken;
      parts = p.parts ∙ ap (λ (l : List ℕ). p.taken ++ l) q.parts ∙ sym (append_assoc p.taken q.taken x.1.rest);
      place = omega (arith, p.place, q.place, length-append p.taken q.taken);
      again = λ others. rw (append_assoc, p.again (q.taken ++ others)) (q.again others);
    }
