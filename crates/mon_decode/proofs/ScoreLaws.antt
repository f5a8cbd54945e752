-- The formats of sets and of tables read what they encode.
use Rattle.std.proofs.Common.{◌≡◌, ℕ, ◌+◌, ◌-◌, ◌*◌, ◌/◌, ◌%◌, ◌^◌, ◌≤◌, ◌<◌, Bool, false, cond, ltb, leb, List, [], ◌∷◌, ◌++◌, length, take, replicate, Ok, Err, refl, sym, ap, subst, ◌∙◌, arith}
use Rattle.std.specs.List.{flat_map, AllByRecursion}
use Rattle.std.proofs.Math.Nat.{pow-le-pow_right}
use Rattle.std.proofs.lemmas.Bool.{ltb-false, le-ltb}
use Rattle.std.proofs.lemmas.Bool.Decides.{nat_tests}
use Rattle.std.proofs.lemmas.List.{length-append, length-take, length-replicate, take_at, drop_at, take-append-drop}
use Rattle.byteorder.specs.Endian.{little_bytes}
use Rattle.byteorder.specs.Numbers.{little_number-reads_back}
use Rattle.mon_types.specs.Ranks.{to_bits, low_bits, from_bits}
use Rattle.mon_types.proofs.Bits.{to_bits-low_bits, length-low_bits, low_bits-to_bits}
use Rattle.mon_bytes.specs.Reading.{IsBytes, Reading, number}
use Rattle.mon_bytes.specs.Forms.{u32_bytes}
use Rattle.mon_bytes.proofs.Fields.{guard_ok, ok_is, Takes, number_takes, Found, number_found}
use Rattle.mon_bytes.proofs.Forms.{u32_takes, u32_found}
use Rattle.election_rules.specs.Table.{full, start_row}
use Rattle.mon_wire.specs.declared.refusal.MsgKind.TheVariants as fault
use Rattle.mon_wire.specs.declared.refusal.MsgRefused.TheVariants as refused
use Rattle.mon_wire.specs.Message.Format.{faults, cut, Format, ◌⊗◌, items}
use Rattle.mon_wire.specs.Message.Fields.{numeral, set_bytes, set_at, set}
use Rattle.mon_wire.specs.Message.Scores.{padded_at, IsPadded, padded, score_at, score, row, table}
use Rattle.mon_bytes.proofs.Formats.{bind_ok, at_fault_ok, IsLawful, items_takes, items_found, seen_as-lawful, as_parts-lawful}
use Rattle.mon_decode.proofs.FieldLaws.{numeral-lawful}
use Rattle.mon_decode.proofs.PartLaws.{then-lawful}

-- ---- sets

set_takes : (n : ℕ) → n ≤ 15 → (c : Reading) (x : List Bool × Reading) → IsBytes c.rest → set_at n c ≡ Ok x → Takes c (set_bytes x.0) x.1 × ((length x.0 ≡ 15) × (to_bits x.0 < 2 ^ n))
unfolding set_at set_bytes from_bits
set_takes n few c x fits e =
    let a = bind_ok (cut (number 2 c)) (λ w. cond (leb (2 ^ n) w.0) (Err (refused.At c.at fault.Value)) (Ok (low_bits 15 w.0, w.1))) x e in
    let w = a.0.0 in
    let g = guard_ok (leb (2 ^ n) w) (refused.At c.at fault.Value) (Ok (low_bits 15 w, a.0.1)) x a.2 in
    let t = number_takes 2 c a.0 fits (at_fault_ok faults.cut (number 2 c) a.0 a.1) in
    let low : w < 2 ^ n = grind (arith, nat_tests, g.0) in
    let most : 2 ^ n ≤ 2 ^ 15 = pow-le-pow_right (omega arith) few in
    let same : to_bits (low_bits 15 w) ≡ w = to_bits-low_bits 15 w (omega (arith, low, most)) in
    subst (λ (p : List Bool × Reading). Takes c (little_bytes 2 (to_bits p.0)) p.1 × ((length p.0 ≡ 15) × (to_bits p.0 < 2 ^ n))) (ok_is (low_bits 15 w, a.0.1) x g.1)
    (subst (λ (m : ℕ). Takes c (little_bytes 2 m) a.0.1) (sym same) t.0, (length-low_bits 15 w, subst (λ (m : ℕ). m < 2 ^ n) (sym same) low))

set_found : (n : ℕ) → n ≤ 15 → (c : Reading) (s : List Bool) (rest : List ℕ) → c.rest ≡ set_bytes s ++ rest → (length s ≡ 15) × (to_bits s < 2 ^ n) → Found (set_at n c) s rest
unfolding set_at set_bytes from_bits
set_found n few c s rest e form =
    let w = to_bits s in
    let most : 2 ^ n ≤ 2 ^ 15 = pow-le-pow_right (omega arith) few in
    let a = number_found 2 c (little_bytes 2 w) rest w e refl (little_number-reads_back 2 w [] (omega (arith, form.1, most))) in
    let low : leb (2 ^ n) w ≡ false = grind (arith, nat_tests, form.1) in
    let same : low_bits 15 w ≡ s = ap (λ (k : ℕ). low_bits k w) (sym form.0) ∙ low_bits-to_bits s in
    (a.0, a.1, rw (a.2, low, same) refl)

pub set-lawful : (n : ℕ) → n ≤ 15 → IsLawful (set n)
set-lawful n few = record { takes = set_takes n few; found = set_found n few }

-- ---- tables

score_takes : (c : Reading) (x : ℕ × Reading) → IsBytes c.rest → score_at c ≡ Ok x → Takes c (u32_bytes x.0) x.1 × (x.0 ≤ full)
unfolding score_at
score_takes c x fits e =
    let a = bind_ok (cut (number 4 c)) (λ n. cond (ltb full n.0) (Err (refused.At c.at fault.Value)) (Ok n)) x e in
    let g = guard_ok (ltb full a.0.0) (refused.At c.at fault.Value) (Ok a.0) x a.2 in
    let t = u32_takes c a.0 fits (at_fault_ok faults.cut (number 4 c) a.0 a.1) in
    subst (λ (p : ℕ × Reading). Takes c (u32_bytes p.0) p.1 × (p.0 ≤ full)) (ok_is a.0 x g.1) (t.0, ltb-false _ _ g.0)

score_found : (c : Reading) (n : ℕ) (rest : List ℕ) → c.rest ≡ u32_bytes n ++ rest → n ≤ full → Found (score_at c) n rest
unfolding score_at
score_found c n rest e le =
    let a = u32_found c n rest e (omega arith) in
    let low : ltb full n ≡ false = le-ltb _ _ le in
    (a.0, a.1, rw (a.2, low) refl)

score-lawful : IsLawful score
score-lawful = record { takes = score_takes; found = score_found }

padded_takes : {A : Type 0} (n : ℕ) (d : A) (f : Format A) → n ≤ 15 → IsLawful f → (c : Reading) (x : List A × Reading) → IsBytes c.rest → padded_at n d f.read c ≡ Ok x → Takes c (flat_map f.text (take n x.0)) x.1 × IsPadded n d f.Form x.0
unfolding padded_at
padded_takes {A} n d f few lf c x fits e =
    let a = bind_ok (items f.read n c) (λ xs. Ok (xs.0 ++ replicate (15 - n) d, xs.1)) x e in
    let t = items_takes f lf n c a.0 fits a.1 in
    let front : take n (a.0.0 ++ replicate (15 - n) d) ≡ a.0.0 = take_at a.0.0 (replicate (15 - n) d) n t.count in
    subst (λ (p : List A × Reading). Takes c (flat_map f.text (take n p.0)) p.1 × IsPadded n d f.Form p.0) (ok_is (a.0.0 ++ replicate (15 - n) d, a.0.1) x a.2) (
      subst (λ (xs : List A). Takes c (flat_map f.text xs) a.0.1) (sym front) t.all,
      record {
        ranks = omega (arith, length-append a.0.0 (replicate (15 - n) d), length-replicate (15 - n) d, t.count, few);
        each = subst (AllByRecursion f.Form) (sym front) t.each;
        others = drop_at a.0.0 (replicate (15 - n) d) n t.count;
      },
    )

padded_found : {A : Type 0} (n : ℕ) (d : A) (f : Format A) → n ≤ 15 → IsLawful f → (c : Reading) (xs : List A) (rest : List ℕ) → c.rest ≡ flat_map f.text (take n xs) ++ rest → IsPadded n d f.Form xs → Found (padded_at n d f.read c) xs rest
unfolding padded_at
padded_found {A} n d f few lf c xs rest e form =
    let count : length (take n xs) ≡ n = omega (arith, length-take n xs, form.ranks, few) in
    let a = subst (λ (k : ℕ). Found (items f.read k c) (take n xs) rest) count (items_found f lf (take n xs) c rest e form.each) in
    let whole : take n xs ++ replicate (15 - n) d ≡ xs = ap (λ (ys : List A). take n xs ++ ys) (sym form.others) ∙ take-append-drop n xs in
    (a.0, a.1, rw (a.2, whole) refl)

pub padded-lawful : {A : Type 0} (n : ℕ) (d : A) (f : Format A) → n ≤ 15 → IsLawful f → IsLawful (padded n d f)
padded-lawful n d f few lf = record { takes = padded_takes n d f few lf; found = padded_found n d f few lf }

row-lawful : (n : ℕ) → n ≤ 15 → IsLawful (row n)
row-lawful n few =
    as_parts-lawful (numeral ⊗ numeral ⊗ padded n full score) (λ p. record { boot = p.0; count = p.1.0; scores = p.1.1 }) (λ r. (r.boot, (r.count, r.scores)))
    (then-lawful numeral (numeral ⊗ padded n full score) numeral-lawful (then-lawful numeral (padded n full score) numeral-lawful (padded-lawful n full score few score-lawful))) (λ x. refl) (λ y. refl)

pub table-lawful : (n own : ℕ) → n ≤ 15 → IsLawful (table n own)
table-lawful n own few =
    let rows = padded n (start_row 0) (row n) in
    seen_as-lawful rows (λ rows. record { own = own; rows = rows }) (λ t. t.rows) (λ t. (t.own ≡ own) × rows.Form t.rows)
    (padded-lawful n (start_row 0) (row n) few (row-lawful n few))
    (λ x form. (refl, (refl, form))) (λ y form. (ap (λ (own : ℕ). record { own = own; rows = y.rows }) (sym form.0), form.1))
