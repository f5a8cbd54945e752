-- The lengths of entries, and what is left of bytes that wait.
use Rattle.std.proofs.Common.{◌≡◌, ◌==◌, false, ◌≤◌, ◌<◌, ℕ, zero, suc, ◌+◌, ◌-◌, List, [], ◌∷◌, ◌++◌, length, take, drop, sym, ap, ◌∙◌, arith, length-append, length-drop}
use Rattle.std.proofs.lemmas.Bool.Decides.{nat_tests}
use Rattle.std.proofs.lemmas.List.{drop-take, take-append-le}
use Rattle.mon_bytes.specs.Forms.{u32_bytes}
use Rattle.mon_frag.specs.Pieces.{u64_bytes}
use Rattle.mon_bytes.proofs.Forms.{length-u32_bytes}
use Rattle.mon_frag.proofs.ReadBack.{length-u64_bytes}
use Rattle.mon_record.specs.Entries.{entry, gap, of_kind}
use Rattle.mon_record.specs.declared.entry.Front.{Front}
use Rattle.mon_record.specs.declared.entry.TheConstants.{GAP}

parts_length : (kind party : ℕ) (who number count bytes : List ℕ) → length who ≡ 4 → length number ≡ 8 → length count ≡ 4
    → length ((kind ∷ party ∷ who ++ number ++ count) ++ bytes) ≡ 18 + length bytes
parts_length kind party who number count bytes p q r =
    let a : length ((who ++ number ++ count) ++ bytes) ≡ length (who ++ number ++ count) + length bytes = length-append (who ++ number ++ count) bytes in
    let b : length (who ++ number ++ count) ≡ length (who ++ number) + length count = length-append (who ++ number) count in
    let d : length (who ++ number) ≡ length who + length number = length-append who number in
    let sums : suc (suc (length who + length number + length count + length bytes)) ≡ 18 + length bytes = omega (arith, p, q, r) in
    ap (λ k. suc (suc k)) (a ∙ ap (λ k. k + length bytes) (b ∙ ap (λ k. k + length count) d)) ∙ sums

pub entry_length : (f : Front) (bytes : List ℕ) → length (entry f bytes) ≡ 18 + length bytes
entry_length f bytes =
    parts_length f.kind f.party (u32_bytes f.who) (u64_bytes f.number) (u32_bytes (length bytes)) bytes
    (length-u32_bytes f.who) (length-u64_bytes f.number) (length-u32_bytes (length bytes))

not_zero : (n : ℕ) → (suc n == 0) ≡ false
not_zero n = grind (arith, nat_tests)

pub gap_length : (n : ℕ) → 0 < n → length (gap n) ≡ 18
gap_length zero p = omega (arith, p)
gap_length (suc n) p = rw (not_zero n) (entry_length (of_kind GAP (suc n)) [])

-- the bytes after the first n of those that wait, in a room that was turned by n
pub turned : (n e : ℕ) (room : List ℕ) → n ≤ e → e ≤ length room
    → take (e - n) (drop n room ++ take n room) ≡ drop n (take e room)
turned n e room p q =
    let e_is : e ≡ n + (e - n) = omega (arith, p) in
    take-append-le (e - n) (drop n room) (take n room) (omega (arith, q, length-drop n room))
    ∙ sym (ap (λ k. drop n (take k room)) e_is ∙ drop-take n (e - n) room)
