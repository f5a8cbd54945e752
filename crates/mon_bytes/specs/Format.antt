-- Formats: how values are encoded in bytes, how they are read, and which values have an encoding.
use Rattle.std.specs.Prelude.{◌≡◌, ℕ, zero, suc, ◌≤◌, ◌<◌, ◌^◌, List, [], ◌∷◌, ◌++◌, length, Result, Ok, Err, ◌==◌, if◌then◌else◌}
use Rattle.std.specs.List.{flat_map, AllByRecursion}
use Rattle.byteorder.specs.Endian.{little_bytes}
use Rattle.mon_bytes.specs.Reading.{IsBytes, Reading, Takes, Found, number}
use Rattle.mon_bytes.specs.Answers.{◌>>=◌, at_fault}

-- the faults of a field that is cut and of one that is outside its set, by the offset at which the field begins
pub record Faults (E : Type 0) : Type 0 where
  pub cut : ℕ → E
  pub value : ℕ → E

abbrev pub Reader : Type 0 → Type 0 → Type 0
Reader E A = Reading → Result (A × Reading) E

pub record Format (E A : Type 0) : Type 1 where
  pub text : A → List ℕ
  pub read : Reader E A
  pub Form : A → Type 0

-- Decoding in a format accepts exactly the encodings.
pub record IsLawful {E A : Type 0} (f : Format E A) : Type 0 where
  pub takes : (c : Reading) (x : A × Reading) → IsBytes c.rest → f.read c ≡ Ok x → Takes c (f.text x.0) x.1 × f.Form x.0
  pub found : (c : Reading) (x : A) (rest : List ℕ) → c.rest ≡ f.text x ++ rest → f.Form x → Found (f.read c) x rest

-- no bytes
abbrev pub nothing : {E : Type 0} → Format E (Unit {0})
nothing = record { text = λ x. []; read = λ c. Ok (tt, c); Form = λ x. Unit {0} }

-- one after the other; the first says how the second is encoded
abbrev pub dependent : {E A B : Type 0} → Format E A → (A → Format E B) → Format E (A × B)
dependent f g = record {
  text = λ p. f.text p.0 ++ (g p.0).text p.1;
  read = λ c. f.read c >>= λ x. (g x.0).read x.1 >>= λ y. Ok ((x.0, y.0), y.1);
  Form = λ p. f.Form p.0 × (g p.0).Form p.1;
}

-- one after the other
infixr 20 ◌⊗◌
abbrev pub ◌⊗◌ : {E A B : Type 0} → Format E A → Format E B → Format E (A × B)
f ⊗ g = dependent f (λ x. g)

-- the same bytes for values of another type; of these, the values of this form have an encoding
abbrev pub seen_as : {E A B : Type 0} → Format E A → (A → B) → (B → A) → (B → Type 0) → Format E B
seen_as f whole parts Form = record {
  text = λ b. f.text (parts b);
  read = λ c. f.read c >>= λ x. Ok (whole x.0, x.1);
  Form = Form;
}

abbrev pub as_parts : {E A B : Type 0} → Format E A → (A → B) → (B → A) → Format E B
as_parts f whole parts = seen_as f whole parts (λ b. f.Form (parts b))

-- this many values
unfoldable pub items : {E A : Type 0} → Reader E A → ℕ → Reader E (List A)
items read zero c = Ok ([], c)
items read (suc n) c = do
  first ← read c
  others ← items read n first.1
  Ok (first.0 ∷ others.0, others.1)

-- a number in two bytes, the lowest first
unfoldable pub u16_bytes : ℕ → List ℕ
u16_bytes n = little_bytes 2 n

-- how many values there are, and the values
abbrev pub list : {E A : Type 0} → Faults E → Format E A → Format E (List A)
list faults f = record {
  text = λ xs. u16_bytes (length xs) ++ flat_map f.text xs;
  read = λ c. at_fault faults.cut (number 2 c) >>= λ n. items f.read n.0 n.1;
  Form = λ xs. (length xs < 2 ^ 16) × AllByRecursion f.Form xs;
}

-- a list that isn't empty
abbrev pub some : {E A : Type 0} → Faults E → Format E A → Format E (List A)
some faults f = record {
  text = (list faults f).text;
  read = λ c. at_fault faults.cut (number 2 c) >>= λ n. if n.0 == 0 then Err (faults.value c.at) else items f.read n.0 n.1;
  Form = λ xs. (1 ≤ length xs) × (list faults f).Form xs;
}

-- ---- values of several kinds, with the kind in front

-- a value of one of the kinds: the byte of its kind, the bytes that follow, and what its form asks
pub record Encoding : Type 1 where
  pub tag : ℕ
  pub text : List ℕ
  pub Form : Type 0

abbrev pub encoding : {E A : Type 0} → ℕ → Format E A → A → Encoding
encoding tag f x = record { tag = tag; text = f.text x; Form = f.Form x }

-- reading what follows the kind
abbrev pub variant : {E A B : Type 0} → Format E A → (A → B) → Reader E B
variant f whole c = f.read c >>= λ x. Ok (whole x.0, x.1)

-- by the kind that was read at that place
abbrev pub chosen : {E B : Type 0} → Faults E → List (ℕ × Reader E B) → ℕ → ℕ → Reader E B
chosen faults [] at kind c = Err (faults.value at)
chosen faults (v ∷ vs) at kind c = if kind == v.0 then v.1 c else chosen faults vs at kind c

abbrev pub tagged : {E B : Type 0} → Faults E → List (ℕ × Reader E B) → Reader E B
tagged faults vs c = at_fault faults.cut (number 1 c) >>= λ kind. chosen faults vs c.at kind.0 kind.1

abbrev pub choice : {E B : Type 0} → (B → Encoding) → Reader E B → Format E B
choice encoded read = record {
  text = λ b. (encoded b).tag ∷ (encoded b).text;
  read = read;
  Form = λ b. (encoded b).Form;
}
