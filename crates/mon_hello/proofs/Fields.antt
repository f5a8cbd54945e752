-- The formats of single fields read what they encode.
use Rattle.std.proofs.Common.{◌≡◌, ℕ, zero, suc, ◌^◌, ◌/◌, ◌<◌, Bool, true, false, cond, ltb, List, [], ◌∷◌, ◌++◌, length, Ok, Err, IsTrue, refl, sym, ap, subst, ◌∙◌, append_assoc, arith}
use Rattle.std.proofs.lemmas.Bool.{lt-ltb, ltb-true}
use Rattle.std.proofs.Math.Nat.{pow-suc}
use Rattle.byteorder.specs.Endian.{little_bytes}
use Rattle.byteorder.specs.Numbers.{little_number-reads_back}
use Rattle.mon_types.specs.Ranks.{to_bits, from_bits, low_bits}
use Rattle.mon_types.proofs.Bits.{to_bits-low_bits, low_bits-to_bits}
use Rattle.mon_bytes.specs.Reading.{IsBytes, Reading, number, next_bytes}
use Rattle.mon_bytes.specs.Forms.{◌>>=◌, fitted}
use Rattle.mon_bytes.specs.Format.{IsLawful, nothing, items, u16_bytes}
use Rattle.mon_bytes.proofs.Fields.{chosen_ok, ok_is, Takes, Takes-then, front_takes, number_takes, byte_takes, Found, number_found, byte_found, front_found}
use Rattle.mon_bytes.proofs.Formats.{items_takes, items_found, nothing-lawful, variant_takes, choice_takes, variant_found}
use Rattle.mon_bytes.proofs.Forms.{bind_ok, fitted_ok}
use Rattle.mon_bytes.specs.declared.command.MapRefused.TheVariants.{Form}
use Rattle.election_rules.specs.declared.rule.Rule.{Rule}
use Rattle.election_rules.specs.declared.rule.Rule.TheVariants as rule
use Rattle.mon_link.specs.declared.udp.Address.{Address}
use Rattle.mon_hello.specs.Formats.{faults, byte_at, byte, counted_at, counted, set_bytes, set_at, set, address_at, address_text, an_address, all_addresses, rule_encoded, rule_kinds, rule_at, a_rule}

-- ---- a byte

byte_is_taken : (test : ℕ → Bool) (c : Reading) (x : ℕ × Reading) → IsBytes c.rest → byte_at test c ≡ Ok x → Takes c (x.0 ∷ []) x.1 × IsTrue (test x.0)
unfolding byte_at
byte_is_taken test c x fits e =
    let a = bind_ok (fitted (number 1 c)) (λ n. cond (test n.0) (Ok n) (Err (Form c.at))) x e in
    let g = chosen_ok (test a.0.0) (Form c.at) (Ok a.0) x a.2 in
    subst (λ (p : ℕ × Reading). Takes c (p.0 ∷ []) p.1 × IsTrue (test p.0)) (ok_is a.0 x g.1) ((byte_takes c a.0 fits (fitted_ok (number 1 c) a.0 a.1)).0, g.0)

byte_is_found : (test : ℕ → Bool) (c : Reading) (n : ℕ) (rest : List ℕ) → c.rest ≡ n ∷ rest → IsTrue (test n) → Found (byte_at test c) n rest
unfolding byte_at
byte_is_found test c n rest e form = let a = byte_found c n rest e in (a.0, a.1, rw (a.2, form) refl)

pub byte-lawful : (test : ℕ → Bool) → IsLawful (byte test)
byte-lawful test = record { takes = byte_is_taken test; found = byte_is_found test }

-- ---- bytes after their length

counted_is_taken : (test : List ℕ → Bool) (c : Reading) (x : List ℕ × Reading) → IsBytes c.rest → counted_at test c ≡ Ok x → Takes c (length x.0 ∷ x.0) x.1 × IsTrue (test x.0)
unfolding counted_at
counted_is_taken test c x fits e =
    let a = bind_ok (fitted (number 1 c)) (λ n. fitted (next_bytes n.0 n.1) >>= λ bytes. cond (test bytes.0) (Ok bytes) (Err (Form n.1.at))) x e in
    let n = a.0 in
    let b = bind_ok (fitted (next_bytes n.0 n.1)) (λ bytes. cond (test bytes.0) (Ok bytes) (Err (Form n.1.at))) x a.2 in
    let g = chosen_ok (test b.0.0) (Form n.1.at) (Ok b.0) x b.2 in
    let t0 = byte_takes c n fits (fitted_ok (number 1 c) n a.1) in
    let t1 = front_takes n.0 n.1 b.0 t0.0.bytes (fitted_ok (next_bytes n.0 n.1) b.0 b.1) in
    let all = Takes-then c n.1 b.0.1 (n.0 ∷ []) b.0.0 t0.0 t1.0 in
    subst (λ (p : List ℕ × Reading). Takes c (length p.0 ∷ p.0) p.1 × IsTrue (test p.0)) (ok_is b.0 x g.1)
    (subst (λ (k : ℕ). Takes c (k ∷ b.0.0) b.0.1) (sym t1.1) all, g.0)

counted_is_found : (test : List ℕ → Bool) (c : Reading) (bytes rest : List ℕ) → c.rest ≡ length bytes ∷ (bytes ++ rest) → IsTrue (test bytes) → Found (counted_at test c) bytes rest
unfolding counted_at
counted_is_found test c bytes rest e form =
    let a = byte_found c (length bytes) (bytes ++ rest) e in
    let b = front_found (length bytes) a.0 bytes rest a.1 refl in
    (b.0, b.1, rw (a.2, b.2, form) refl)

pub counted-lawful : (test : List ℕ → Bool) → IsLawful (counted test)
counted-lawful test = record { takes = counted_is_taken test; found = counted_is_found test }

-- ---- numbers in two bytes

u16_takes : (c : Reading) (x : ℕ × Reading) → IsBytes c.rest → number 2 c ≡ Ok x → Takes c (u16_bytes x.0) x.1 × (x.0 < 2 ^ 16)
unfolding u16_bytes
u16_takes c x fits e = let t = number_takes 2 c x fits e in (t.0, omega (arith, t.1))

u16_found : (c : Reading) (n : ℕ) (rest : List ℕ) → c.rest ≡ u16_bytes n ++ rest → n < 2 ^ 16 → Found (number 2 c) n rest
unfolding u16_bytes
u16_found c n rest e lt = number_found 2 c (little_bytes 2 n) rest n e refl (little_number-reads_back 2 n [] (omega arith))

-- ---- sets of ranks

length-low_bits : (k n : ℕ) → length (low_bits k n) ≡ k
length-low_bits zero n = refl
length-low_bits (suc k) n = omega (arith, length-low_bits k (n / 2))

bits_below : (s : List Bool) → to_bits s < 2 ^ length s
bits_below [] = omega arith
bits_below (b ∷ s) = by b (bits_below s)
  where
    by : (b : Bool) → to_bits s < 2 ^ length s → to_bits (b ∷ s) < 2 ^ length (b ∷ s)
    by true h = omega (arith, h, pow-suc 2 (length s))
    by false h = omega (arith, h, pow-suc 2 (length s))

set_is_taken : (c : Reading) (x : List Bool × Reading) → IsBytes c.rest → set_at c ≡ Ok x → Takes c (set_bytes x.0) x.1 × (length x.0 ≡ 15)
unfolding set_at set_bytes from_bits
set_is_taken c x fits e =
    let a = bind_ok (fitted (number 2 c)) (λ bits. cond (ltb bits.0 (2 ^ 15)) (Ok (from_bits bits.0, bits.1)) (Err (Form c.at))) x e in
    let w = a.0.0 in
    let g = chosen_ok (ltb w (2 ^ 15)) (Form c.at) (Ok (low_bits 15 w, a.0.1)) x a.2 in
    let t = u16_takes c a.0 fits (fitted_ok (number 2 c) a.0 a.1) in
    let same : to_bits (low_bits 15 w) ≡ w = to_bits-low_bits 15 w (ltb-true _ _ g.0) in
    subst (λ (p : List Bool × Reading). Takes c (u16_bytes (to_bits p.0)) p.1 × (length p.0 ≡ 15)) (ok_is (low_bits 15 w, a.0.1) x g.1)
    (subst (λ (n : ℕ). Takes c (u16_bytes n) a.0.1) (sym same) t.0, length-low_bits 15 w)

set_is_found : (c : Reading) (s : List Bool) (rest : List ℕ) → c.rest ≡ set_bytes s ++ rest → length s ≡ 15 → Found (set_at c) s rest
unfolding set_at set_bytes from_bits
set_is_found c s rest e form =
    let w = to_bits s in
    let small : w < 2 ^ 15 = subst (λ (k : ℕ). w < 2 ^ k) form (bits_below s) in
    let a = u16_found c w rest e (omega (arith, small)) in
    let test : ltb w (2 ^ 15) ≡ true = lt-ltb _ _ small in
    let same : low_bits 15 w ≡ s = ap (λ (k : ℕ). low_bits k w) (sym form) ∙ low_bits-to_bits s in
    (a.0, a.1, rw (a.2, test, same) refl)

pub set-lawful : IsLawful set
set-lawful = record { takes = set_is_taken; found = set_is_found }

-- ---- rules

rule_is_taken : (c : Reading) (x : Rule × Reading) → IsBytes c.rest → rule_at c ≡ Ok x → Takes c (a_rule.text x.0) x.1 × a_rule.Form x.0
unfolding rule_at
rule_is_taken = choice_takes faults rule_encoded rule_kinds (
  variant_takes rule_encoded 0 nothing (λ x. rule.Classic) nothing-lawful (λ a. refl) (λ a. refl) (λ a h. h),
  (
    variant_takes rule_encoded 1 set (λ ranks. rule.Disallow ranks) set-lawful (λ a. refl) (λ a. refl) (λ a h. h),
    (variant_takes rule_encoded 2 set (λ ranks. rule.Connectivity ranks) set-lawful (λ a. refl) (λ a. refl) (λ a h. h), tt),
  ),
)

rule_is_found : (c : Reading) (x : Rule) (rest : List ℕ) → c.rest ≡ a_rule.text x ++ rest → a_rule.Form x → Found (rule_at c) x rest
unfolding rule_at
rule_is_found c rule.Classic rest e form = variant_found faults rule_kinds nothing (λ x. rule.Classic) 0 nothing-lawful (λ at d. refl) c tt rest e form
rule_is_found c (rule.Disallow ranks) rest e form = variant_found faults rule_kinds set (λ s. rule.Disallow s) 1 set-lawful (λ at d. refl) c ranks rest e form
rule_is_found c (rule.Connectivity ranks) rest e form = variant_found faults rule_kinds set (λ s. rule.Connectivity s) 2 set-lawful (λ at d. refl) c ranks rest e form

pub rule-lawful : IsLawful a_rule
rule-lawful = record { takes = rule_is_taken; found = rule_is_found }

-- ---- addresses

address_is_taken : (c : Reading) (x : Address × Reading) → IsBytes c.rest → address_at c ≡ Ok x → Takes c (address_text x.0) x.1 × an_address.Form x.0
unfolding address_at
address_is_taken c x fits e =
    let a = bind_ok (fitted (next_bytes 4 c)) (λ host. fitted (number 2 host.1) >>= λ port. Ok (record { host = host.0; port = port.0 }, port.1)) x e in
    let b = bind_ok (fitted (number 2 a.0.1)) (λ port. Ok (record { host = a.0.0; port = port.0 }, port.1)) x a.2 in
    let t0 = front_takes 4 c a.0 fits (fitted_ok (next_bytes 4 c) a.0 a.1) in
    let t1 = u16_takes a.0.1 b.0 t0.0.bytes (fitted_ok (number 2 a.0.1) b.0 b.1) in
    subst (λ (p : Address × Reading). Takes c (address_text p.0) p.1 × an_address.Form p.0) (ok_is (record { host = a.0.0; port = b.0.0 }, b.0.1) x b.2)
    (Takes-then c a.0.1 b.0.1 a.0.0 (u16_bytes b.0.0) t0.0 t1.0, (t0.1, t1.1))

address_is_found : (c : Reading) (a : Address) (rest : List ℕ) → c.rest ≡ address_text a ++ rest → an_address.Form a → Found (address_at c) a rest
unfolding address_at
address_is_found c a rest e form =
    let h = front_found 4 c a.host (u16_bytes a.port ++ rest) (e ∙ append_assoc a.host (u16_bytes a.port) rest) form.0 in
    let p = u16_found h.0 a.port rest h.1 form.1 in
    (p.0, p.1, rw (h.2, p.2) refl)

pub address-lawful : IsLawful an_address
address-lawful = record { takes = address_is_taken; found = address_is_found }

pub addresses-lawful : (n : ℕ) → IsLawful (all_addresses n)
addresses-lawful n = record {
  takes = λ c x fits e. let t = items_takes an_address address-lawful n c x fits e in (t.all, (t.count, t.each));
  found = λ c xs rest e form. subst (λ (k : ℕ). Found (items address_at k c) xs rest) form.0 (items_found an_address address-lawful xs c rest e form.1);
}
