-- The copies that are kept for each monitor stay within their bounds.
use Rattle.std.specs.Prelude.{◌≡◌, ℕ, ◌+◌, ◌≤◌, ◌^◌, min, ◌-◌, Bool, true, false, ◌&&◌, refl, List, [], ◌∷◌, length, map, filter}
use Rattle.std.specs.List.{sum_by}
use Rattle.std.proofs.Common.{cond, leb, arith}
use Rattle.std.proofs.lemmas.Bool.Decides.{nat_tests}
use Rattle.std.proofs.lemmas.List.{length-append}
use Rattle.std.proofs.lemmas.List.Sums.{sum_by-cons, sum_by-append}
use Rattle.mon_link.specs.declared.link.Outgoing.{Outgoing}
use Rattle.mon_resend.specs.declared.note.Note.{Note}
use Rattle.mon_resend.specs.declared.shelf.Kept.{Kept}
use Rattle.mon_resend.specs.Bounds.{IsWithin, StaysWithin}
use Rattle.mon_resend.specs.Copied.{datagram}
use Rattle.mon_resend.specs.Shelves.{with_note}
use Rattle.mon_resend.proofs.Walk.{Thins, Grows, of_sent, of_arrived, of_all_passed}
use Rattle.mon_link.specs.declared.link.Peer.TheVariants.{Monitor}

abbrev bytes_in : List Kept → ℕ
bytes_in kept = sum_by (λ k. length k.out.bytes) kept

record IsLess (those these : List Kept) : Type 0 where
  datagrams : length these ≤ length those
  bytes : bytes_in these ≤ bytes_in those

if_less : (f : Note → Note) (k : Kept) (kept those : List Kept) (b : Bool) → IsLess kept (map (λ k. with_note (f k.note) k) those)
    → IsLess (k ∷ kept) (map (λ k. with_note (f k.note) k) (cond b (k ∷ those) those))
if_less f k kept those true h =
    let same = with_note (f k.note) k in
    let new = sum_by-cons (λ (k : Kept). length k.out.bytes) same (map (λ k. with_note (f k.note) k) those) in
    let old = sum_by-cons (λ (k : Kept). length k.out.bytes) k kept in
    record { datagrams = omega (arith, h.datagrams); bytes = omega (arith, h.bytes, new, old) }
if_less f k kept those false h =
    let old = sum_by-cons (λ (k : Kept). length k.out.bytes) k kept in
    record { datagrams = omega (arith, h.datagrams); bytes = omega (arith, h.bytes, old) }

less : (f : Note → Note) (p : Kept → Bool) (kept : List Kept) → IsLess kept (map (λ k. with_note (f k.note) k) (filter p kept))
less f p [] = record { datagrams = omega arith; bytes = omega arith }
less f p (k ∷ kept) = if_less f k kept (filter p kept) (p k) (less f p kept)

lasts_within : Thins IsWithin
lasts_within f p kept h =
    let l = less f p kept in
    record { datagrams = omega (arith, l.datagrams, h.datagrams); bytes = omega (arith, l.bytes, h.bytes) }

both_true : (a b : Bool) → (a && b) ≡ true → (a ≡ true) × (b ≡ true)
both_true true true e = (refl, refl)
both_true true false e = absurd cc
both_true false b e = absurd cc

grows_within : (out : Outgoing) → Grows IsWithin out
grows_within out n kept room h =
    let one : Kept = record { out = out; note = n } in
    let b = bytes_in kept in
    let parts = both_true (leb (min (length kept + 1) (2 ^ 64 - 1)) 160) (leb (min (min b (2 ^ 64 - 1) + length out.bytes) (2 ^ 64 - 1)) 6291456) room in
    let few : length kept + 1 ≤ 160 = grind (arith, nat_tests, parts.0, h.datagrams) in
    let small : b + length out.bytes ≤ 6291456 = grind (arith, nat_tests, parts.1, h.bytes) in
    let sum = sum_by-append (λ (k : Kept). length k.out.bytes) kept (one ∷ []) in
    let last = sum_by-cons (λ (k : Kept). length k.out.bytes) one [] in
    record { datagrams = omega (arith, few, length-append kept (one ∷ [])); bytes = omega (arith, small, sum, last) }

none_within : IsWithin []
none_within = record { datagrams = omega arith; bytes = omega arith }

pub stays_within : StaysWithin
stays_within = record {
  at_first =
      (none_within, (none_within, (none_within, (none_within, (none_within, (none_within, (none_within, (none_within, (none_within, (none_within, (none_within, (none_within, (none_within, (none_within, (none_within, tt)))))))))))))));
  sends = λ memory rank bytes now c h. of_sent IsWithin none_within lasts_within memory rank bytes now c (grows_within (datagram (Monitor rank) bytes)) h;
  hears = λ memory rank bytes now c h. of_arrived IsWithin none_within lasts_within memory rank bytes now c h;
  passes = λ again now c h. of_all_passed IsWithin none_within lasts_within again now c h;
}
