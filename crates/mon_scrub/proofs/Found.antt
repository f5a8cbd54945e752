-- What was read is the text of what it gave.
use Rattle.std.proofs.Common.{◌≡◌, ℕ, zero, suc, ◌<◌, ◌≤◌, ◌+◌, ◌-◌, ◌*◌, ◌^◌, Bool, true, cond, eqb, leb, List, [], ◌∷◌, ◌++◌, length, take, drop, Option, Some, None, Result, Ok, Err, refl, sym, ap, subst, ◌∙◌, append_assoc, arith}
use Rattle.std.specs.Prelude.{IfOk, IsTrue, ◌&&◌, codes, decimal, nat_lt}
use Rattle.std.specs.Str.{bytes_eq}
use Rattle.std.specs.Cmp.Lexicographic.{bytes_decides}
use Rattle.std.proofs.lemmas.Fmt.{decimal_digit}
use Rattle.std.proofs.lemmas.List.{append-nil, take-append-drop}
use Rattle.std.proofs.lemmas.Bool.Decides.{nat_tests}
use Rattle.hex.proofs.HexLemmas.{decode_sized-ok, length-encode_with}
use Rattle.hex.specs.Hex.{decode_sized, encode_lower, lower_digits}
use Rattle.hex.specs.declared.error.FromHexError.{FromHexError}
use Rattle.mon_bytes.proofs.Ascii.{both}
use Rattle.mon_bytes.proofs.Fields.{chosen_ok, guard_ok, ok_is}
use Rattle.mon_bytes.proofs.Formats.{bind_ok}
use Rattle.schedule_text.specs.Fields.{cut, number_of, within}
use Rattle.schedule_text.specs.declared.refusal.ScheduleKind.{ScheduleKind}
use Rattle.schedule_text.proofs.FieldLaws.{joined, cut_joined}
use Rattle.schedule_text.proofs.Numerals.{number_takes, within_most}
use Rattle.mon_bytes.specs.Reading.{IsBytes}
use Rattle.trace_text.specs.Words.{flag_text}
use Rattle.mon_scrub.specs.declared.report.Part.{Part}
use Rattle.mon_scrub.specs.declared.report.Report.{Report}
use Rattle.mon_scrub.specs.declared.refusal.ReportRefused.{ReportRefused}
use Rattle.mon_scrub.specs.declared.refusal.ReportRefused.TheVariants as refused
use Rattle.mon_scrub.proofs.Digests.{sized_are_bytes}
use Rattle.mon_scrub.specs.Text.{AreParts, Fields, IsPart, IsReport, fields_of, fields_text, report_text, member_text, last_text, part_text, parts_text, prefixes}
use Rattle.mon_scrub.specs.Reading.{◌>>=◌, Is, fault, text_at, if_cut, field_at, if_number, number_at, if_encoded, digest_at, part_at, parts_at, member_at, last_at, report_at, two_at, reports_at}

abbrev Read : Type 0 → Type 0
Read A = Result (A × List ℕ) ReportRefused

-- ---- what comes next

text_takes : (n : ℕ) (text rest : List ℕ) (x : Unit {0} × List ℕ) → text_at n text rest ≡ Ok x → rest ≡ text ++ x.1
unfolding text_at
text_takes n text rest x e =
    let g = chosen_ok (leb (length text) (length rest) && bytes_eq (take (length text) rest) text) (refused.Report n) (Ok (tt, drop (length text) rest)) x e in
    let same = (bytes_decides (take (length text) rest) text).0 (both (leb (length text) (length rest)) (bytes_eq (take (length text) rest) text) g.0).1 in
    sym (take-append-drop (length text) rest) ∙ ap (λ (t : List ℕ). t ++ drop (length text) rest) same ∙ ap (λ (y : Unit {0} × List ℕ). text ++ y.1) (ok_is (tt, drop (length text) rest) x g.1)

cut_found : (n : ℕ) (p : List ℕ × Option (List ℕ)) (x : List ℕ × List ℕ) → if_cut n p ≡ Ok x → p ≡ (x.0, Some x.1)
cut_found n (front, None) x e = absurd cc
cut_found n (front, Some rest) x e = ap (λ (y : List ℕ × List ℕ). (y.0, Some y.1)) (ok_is (front, rest) x e)

field_takes : (n separator : ℕ) (rest : List ℕ) (x : List ℕ × List ℕ) → field_at n separator rest ≡ Ok x → rest ≡ x.0 ++ separator ∷ x.1
field_takes n separator rest x e =
    sym (cut_joined separator rest) ∙ ap (λ (p : List ℕ × Option (List ℕ)). joined separator p.0 p.1) (cut_found n ((cut separator rest).0, (cut separator rest).1) x e)

number_found : (n : ℕ) (r : Result ℕ ScheduleKind) (x : ℕ) → if_number n r ≡ Ok x → r ≡ Ok x
number_found n (Ok y) x e = ap (λ z. Ok z) (ok_is y x e)
number_found n (Err kind) x e = absurd cc

number_at_takes : (n separator least most : ℕ) (rest : List ℕ) (x : ℕ × List ℕ) → most < 2 ^ 64 → number_at n separator least most rest ≡ Ok x → (rest ≡ decimal x.0 ++ separator ∷ x.1) × IsTrue (within least most x.0)
unfolding number_at
number_at_takes n separator least most rest x small e =
    let a = bind_ok (field_at n separator rest) (λ field. if_number n (number_of least most field.0) >>= λ y. Ok (y, field.1)) x e in
    let b = bind_ok (if_number n (number_of least most a.0.0)) (λ y. Ok (y, a.0.1)) x a.2 in
    let t = number_takes least most a.0.0 b.0 small (number_found n (number_of least most a.0.0) b.0 b.1) in
    subst (λ (y : ℕ × List ℕ). (rest ≡ decimal y.0 ++ separator ∷ y.1) × IsTrue (within least most y.0)) (ok_is (b.0, a.0.1) x b.2)
    (field_takes n separator rest a.0 a.1 ∙ ap (λ (f : List ℕ). f ++ separator ∷ a.0.1) t.0, t.1)

encoded_found : (n : ℕ) (field : List ℕ) (r : Result (List ℕ) FromHexError) (x : List ℕ) → if_encoded n field r ≡ Ok x → field ≡ encode_lower x
encoded_found n field (Ok digest) x e =
    let g = chosen_ok (bytes_eq (encode_lower digest) field) (refused.Report n) (Ok digest) x e in
    sym ((bytes_decides (encode_lower digest) field).0 g.0) ∙ ap encode_lower (ok_is digest x g.1)
encoded_found n field (Err error) x e = absurd cc

encoded_size : (n : ℕ) (field : List ℕ) (r : Result (List ℕ) FromHexError) (x : List ℕ) → if_encoded n field r ≡ Ok x → r ≡ Ok x
encoded_size n field (Ok digest) x e = ap (λ z. Ok z) (ok_is digest x (chosen_ok (bytes_eq (encode_lower digest) field) (refused.Report n) (Ok digest) x e).1)
encoded_size n field (Err error) x e = absurd cc

digest_takes : (n : ℕ) (rest : List ℕ) (x : List ℕ × List ℕ) → digest_at n rest ≡ Ok x → (rest ≡ encode_lower x.0 ++ 10 ∷ x.1) × (length x.0 ≡ 32) × IsBytes x.0
unfolding digest_at
digest_takes n rest x e =
    let a = bind_ok (field_at n 10 rest) (λ field. if_encoded n field.0 (decode_sized field.0 32) >>= λ digest. Ok (digest, field.1)) x e in
    let b = bind_ok (if_encoded n a.0.0 (decode_sized a.0.0 32)) (λ digest. Ok (digest, a.0.1)) x a.2 in
    let field = encoded_found n a.0.0 (decode_sized a.0.0 32) b.0 b.1 in
    let decoded = encoded_size n a.0.0 (decode_sized a.0.0 32) b.0 b.1 in
    let long : length a.0.0 ≡ 64 = decode_sized-ok a.0.0 32 b.0 decoded in
    let digits : length a.0.0 ≡ 2 * length b.0 = ap length field ∙ length-encode_with lower_digits b.0 in
    subst (λ (y : List ℕ × List ℕ). (rest ≡ encode_lower y.0 ++ 10 ∷ y.1) × (length y.0 ≡ 32) × IsBytes y.0) (ok_is (b.0, a.0.1) x b.2)
    (field_takes n 10 rest a.0 a.1 ∙ ap (λ (f : List ℕ). f ++ 10 ∷ a.0.1) field, omega (arith, long, digits), sized_are_bytes a.0.0 32 b.0 decoded)

-- ---- lines

part_takes : (n : ℕ) (name rest : List ℕ) (x : Part × List ℕ) → part_at n name rest ≡ Ok x
    → (rest ≡ name ++ (decimal x.0.keys ++ (codes " sha256=" ++ (encode_lower x.0.digest ++ 10 ∷ x.1)))) × IsPart x.0
unfolding part_at
part_takes n name rest x e =
    let a = bind_ok (text_at n name rest) (λ a. number_at n 32 0 (2 ^ 32 - 1) a.1 >>= λ keys. text_at n (codes "sha256=") keys.1 >>= λ b. digest_at n b.1 >>= λ digest. Ok (record { keys = keys.0; digest = digest.0 }, digest.1)) x e in
    let b = bind_ok (number_at n 32 0 (2 ^ 32 - 1) a.0.1) (λ keys. text_at n (codes "sha256=") keys.1 >>= λ b. digest_at n b.1 >>= λ digest. Ok (record { keys = keys.0; digest = digest.0 }, digest.1)) x a.2 in
    let d = bind_ok (text_at n (codes "sha256=") b.0.1) (λ d. digest_at n d.1 >>= λ digest. Ok (record { keys = b.0.0; digest = digest.0 }, digest.1)) x b.2 in
    let f = bind_ok (digest_at n d.0.1) (λ digest. Ok (record { keys = b.0.0; digest = digest.0 }, digest.1)) x d.2 in
    let part : Part = record { keys = b.0.0; digest = f.0.0 } in
    let keys = number_at_takes n 32 0 (2 ^ 32 - 1) a.0.1 b.0 (omega arith) b.1 in
    let few = within_most 0 (2 ^ 32 - 1) b.0.0 keys.1 in
    let digest = digest_takes n d.0.1 f.0 f.1 in
    let is : IsPart part = record { keys = omega (arith, few); long = digest.1; bytes = digest.2 } in
    subst (λ (y : Part × List ℕ). (rest ≡ name ++ (decimal y.0.keys ++ (codes " sha256=" ++ (encode_lower y.0.digest ++ 10 ∷ y.1)))) × IsPart y.0) (ok_is (part, f.0.1) x f.2) (
      text_takes n name rest a.0 a.1
          ∙ ap (λ (t : List ℕ). name ++ t) (keys.0
          ∙ ap (λ (t : List ℕ). decimal b.0.0 ++ 32 ∷ t) (text_takes n (codes "sha256=") b.0.1 d.0 d.1
          ∙ ap (λ (t : List ℕ). codes "sha256=" ++ t) digest.0)),
      is,
    )

-- a part's line, and what comes after it
pub line_of : (prefix : List ℕ) (p : Part) (rest : List ℕ) → prefix ++ (codes " keys=" ++ (decimal p.keys ++ (codes " sha256=" ++ (encode_lower p.digest ++ 10 ∷ rest)))) ≡ part_text prefix p ++ rest
line_of prefix p rest = simp append_assoc

parts_takes : (n : ℕ) (rest : List ℕ) (x : List Part × List ℕ) → parts_at n rest ≡ Ok x → (rest ≡ parts_text prefixes x.0 ++ x.1) × AreParts x.0
unfolding parts_at
parts_takes n rest x e =
    let a = bind_ok (part_at n (codes "kv keys=") rest) (λ kv. part_at (n + 1) (codes "logm keys=") kv.1 >>= λ logm. part_at (n + 2) (codes "paxos keys=") logm.1 >>= λ paxos. Ok (kv.0 ∷ logm.0 ∷ paxos.0 ∷ [], paxos.1)) x e in
    let b = bind_ok (part_at (n + 1) (codes "logm keys=") a.0.1) (λ logm. part_at (n + 2) (codes "paxos keys=") logm.1 >>= λ paxos. Ok (a.0.0 ∷ logm.0 ∷ paxos.0 ∷ [], paxos.1)) x a.2 in
    let d = bind_ok (part_at (n + 2) (codes "paxos keys=") b.0.1) (λ paxos. Ok (a.0.0 ∷ b.0.0 ∷ paxos.0 ∷ [], paxos.1)) x b.2 in
    let first = part_takes n (codes "kv keys=") rest a.0 a.1 in
    let second = part_takes (n + 1) (codes "logm keys=") a.0.1 b.0 b.1 in
    let third = part_takes (n + 2) (codes "paxos keys=") b.0.1 d.0 d.1 in
    let kv = first.0 ∙ line_of (codes "kv") a.0.0 a.0.1 in
    let logm = second.0 ∙ line_of (codes "logm") b.0.0 b.0.1 in
    let paxos = third.0 ∙ line_of (codes "paxos") d.0.0 d.0.1 in
    subst (λ (y : List Part × List ℕ). (rest ≡ parts_text prefixes y.0 ++ y.1) × AreParts y.0) (ok_is (a.0.0 ∷ b.0.0 ∷ d.0.0 ∷ [], d.0.1) x d.2) (
      kv ∙ ap (λ (t : List ℕ). part_text (codes "kv") a.0.0 ++ t) (logm ∙ ap (λ (t : List ℕ). part_text (codes "logm") b.0.0 ++ t) paxos)
          ∙ three (part_text (codes "kv") a.0.0) (part_text (codes "logm") b.0.0) (part_text (codes "paxos") d.0.0) d.0.1,
      (first.1, second.1, third.1),
    )
  where
    three : (p q r rest : List ℕ) → p ++ (q ++ (r ++ rest)) ≡ (p ++ (q ++ (r ++ []))) ++ rest
    three p q r rest = simp append_assoc

above : (rank monitors : ℕ) → IsTrue (within (rank + 1) 15 monitors) → rank < monitors
above rank monitors h = grind (arith, nat_tests)

member_takes : (n : ℕ) (rest : List ℕ) (x : (ℕ × ℕ) × List ℕ) → member_at n rest ≡ Ok x
    → (rest ≡ member_text x.0.0 x.0.1 ++ 32 ∷ x.1) × (x.0.0 < x.0.1) × (x.0.1 ≤ 15)
unfolding member_at
member_takes n rest x e =
    let a = bind_ok (text_at n (codes "scrub rank=") rest) (λ a. number_at n 32 0 14 a.1 >>= λ rank. text_at n (codes "monitors=") rank.1 >>= λ b. number_at n 32 (rank.0 + 1) 15 b.1 >>= λ monitors. Ok ((rank.0, monitors.0), monitors.1)) x e in
    let b = bind_ok (number_at n 32 0 14 a.0.1) (λ rank. text_at n (codes "monitors=") rank.1 >>= λ b. number_at n 32 (rank.0 + 1) 15 b.1 >>= λ monitors. Ok ((rank.0, monitors.0), monitors.1)) x a.2 in
    let d = bind_ok (text_at n (codes "monitors=") b.0.1) (λ d. number_at n 32 (b.0.0 + 1) 15 d.1 >>= λ monitors. Ok ((b.0.0, monitors.0), monitors.1)) x b.2 in
    let f = bind_ok (number_at n 32 (b.0.0 + 1) 15 d.0.1) (λ monitors. Ok ((b.0.0, monitors.0), monitors.1)) x d.2 in
    let monitors = number_at_takes n 32 (b.0.0 + 1) 15 d.0.1 f.0 (omega arith) f.1 in
    subst (λ (y : (ℕ × ℕ) × List ℕ). (rest ≡ member_text y.0.0 y.0.1 ++ 32 ∷ y.1) × (y.0.0 < y.0.1) × (y.0.1 ≤ 15)) (ok_is ((b.0.0, f.0.0), f.0.1) x f.2) (
      text_takes n (codes "scrub rank=") rest a.0 a.1
          ∙ ap (λ (t : List ℕ). codes "scrub rank=" ++ t) ((number_at_takes n 32 0 14 a.0.1 b.0 (omega arith) b.1).0
          ∙ ap (λ (t : List ℕ). decimal b.0.0 ++ 32 ∷ t) (text_takes n (codes "monitors=") b.0.1 d.0 d.1
          ∙ ap (λ (t : List ℕ). codes "monitors=" ++ t) monitors.0))
          ∙ joined_up b.0.0 f.0.0 f.0.1,
      above b.0.0 f.0.0 monitors.1,
      within_most (b.0.0 + 1) 15 f.0.0 monitors.1,
    )
  where
    joined_up : (rank monitors : ℕ) (rest : List ℕ) → codes "scrub rank=" ++ (decimal rank ++ (codes " monitors=" ++ (decimal monitors ++ 32 ∷ rest))) ≡ member_text rank monitors ++ 32 ∷ rest
    joined_up rank monitors rest = simp append_assoc

two_is_more : (k : ℕ) → IsTrue (within 0 1 (suc (suc k))) → ⊥
two_is_more k fits = let u = fits in grind (arith, nat_tests, u)

-- a mark is read from a number of at most 1
flag_found : (k : ℕ) → IsTrue (within 0 1 k) → decimal k ≡ flag_text (eqb k 1)
flag_found zero fits = decimal_digit 0 (omega arith)
flag_found (suc zero) fits = decimal_digit 1 (omega arith)
flag_found (suc (suc k)) fits = absurd (two_is_more k fits)

last_takes : (n : ℕ) (rest : List ℕ) (x : (ℕ × Bool) × List ℕ) → last_at n rest ≡ Ok x
    → (32 ∷ rest ≡ last_text x.0.0 x.0.1 ++ x.1) × (x.0.0 ≤ 2 ^ 62)
unfolding last_at
last_takes n rest x e =
    let a = bind_ok (text_at n (codes "last=") rest) (λ a. number_at n 32 0 (2 ^ 62) a.1 >>= λ last. text_at n (codes "marked=") last.1 >>= λ b. number_at n 10 0 1 b.1 >>= λ marked. Ok ((last.0, eqb marked.0 1), marked.1)) x e in
    let b = bind_ok (number_at n 32 0 (2 ^ 62) a.0.1) (λ last. text_at n (codes "marked=") last.1 >>= λ b. number_at n 10 0 1 b.1 >>= λ marked. Ok ((last.0, eqb marked.0 1), marked.1)) x a.2 in
    let d = bind_ok (text_at n (codes "marked=") b.0.1) (λ d. number_at n 10 0 1 d.1 >>= λ marked. Ok ((b.0.0, eqb marked.0 1), marked.1)) x b.2 in
    let f = bind_ok (number_at n 10 0 1 d.0.1) (λ marked. Ok ((b.0.0, eqb marked.0 1), marked.1)) x d.2 in
    let flag = number_at_takes n 10 0 1 d.0.1 f.0 (omega arith) f.1 in
    let last = number_at_takes n 32 0 (2 ^ 62) a.0.1 b.0 (omega arith) b.1 in
    subst (λ (y : (ℕ × Bool) × List ℕ). (32 ∷ rest ≡ last_text y.0.0 y.0.1 ++ y.1) × (y.0.0 ≤ 2 ^ 62)) (ok_is ((b.0.0, eqb f.0.0 1), f.0.1) x f.2) (
      ap (λ (t : List ℕ). 32 ∷ t) (text_takes n (codes "last=") rest a.0 a.1
          ∙ ap (λ (t : List ℕ). codes "last=" ++ t) (last.0
          ∙ ap (λ (t : List ℕ). decimal b.0.0 ++ 32 ∷ t) (text_takes n (codes "marked=") b.0.1 d.0 d.1
          ∙ ap (λ (t : List ℕ). codes "marked=" ++ t) (flag.0 ∙ ap (λ (t : List ℕ). t ++ 10 ∷ f.0.1) (flag_found f.0.0 flag.1)))))
          ∙ joined_up b.0.0 (eqb f.0.0 1) f.0.1,
      within_most 0 (2 ^ 62) b.0.0 last.1,
    )
  where
    joined_up : (last : ℕ) (marked : Bool) (rest : List ℕ) → codes " last=" ++ (decimal last ++ (codes " marked=" ++ (flag_text marked ++ 10 ∷ rest))) ≡ last_text last marked ++ rest
    joined_up last marked rest = simp append_assoc

report_takes : (n : ℕ) (rest : List ℕ) (x : Fields × List ℕ) → report_at n rest ≡ Ok x → (rest ≡ fields_text x.0 ++ x.1) × IsReport x.0
unfolding report_at
report_takes n rest x e =
    let a = bind_ok (member_at n rest) (λ member. last_at n member.1 >>= λ last. parts_at (n + 1) last.1 >>= λ parts. Ok (record { rank = member.0.0; monitors = member.0.1; last = last.0.0; marked = last.0.1; parts = parts.0 }, parts.1)) x e in
    let b = bind_ok (last_at n a.0.1) (λ last. parts_at (n + 1) last.1 >>= λ parts. Ok (record { rank = a.0.0.0; monitors = a.0.0.1; last = last.0.0; marked = last.0.1; parts = parts.0 }, parts.1)) x a.2 in
    let d = bind_ok (parts_at (n + 1) b.0.1) (λ parts. Ok (record { rank = a.0.0.0; monitors = a.0.0.1; last = b.0.0.0; marked = b.0.0.1; parts = parts.0 }, parts.1)) x b.2 in
    let fields : Fields = record { rank = a.0.0.0; monitors = a.0.0.1; last = b.0.0.0; marked = b.0.0.1; parts = d.0.0 } in
    let member = member_takes n rest a.0 a.1 in
    let last = last_takes n a.0.1 b.0 b.1 in
    let parts = parts_takes (n + 1) b.0.1 d.0 d.1 in
    let is : IsReport fields = record { rank = member.1; monitors = member.2; last = last.1; parts = parts.1 } in
    subst (λ (y : Fields × List ℕ). (rest ≡ fields_text y.0 ++ y.1) × IsReport y.0) (ok_is (fields, d.0.1) x d.2) (
      member.0
          ∙ ap (λ (t : List ℕ). member_text a.0.0.0 a.0.0.1 ++ t) (last.0
          ∙ ap (λ (t : List ℕ). last_text b.0.0.0 b.0.0.1 ++ t) parts.0)
          ∙ three (member_text a.0.0.0 a.0.0.1) (last_text b.0.0.0 b.0.0.1) (parts_text prefixes d.0.0) d.0.1,
      is,
    )
  where
    three : (p q r rest : List ℕ) → p ++ (q ++ (r ++ rest)) ≡ (p ++ (q ++ r)) ++ rest
    three p q r rest = simp append_assoc

-- ---- two reports

none_left : (n : ℕ) → eqb n 0 ≡ true → n ≡ 0
none_left n e = let u = e in grind (arith, nat_tests, u)

pub reports_take : (bytes : List ℕ) (x : Fields × Fields) → reports_at bytes ≡ Ok x → (bytes ≡ fields_text x.0 ++ fields_text x.1) × IsReport x.0 × IsReport x.1
unfolding reports_at two_at
reports_take bytes x e =
    let g = guard_ok (nat_lt 4096 (length bytes)) (refused.Report 0) (two_at bytes) x e in
    let a = bind_ok (report_at 1 bytes) (λ a. report_at 5 a.1 >>= λ b. cond (eqb (length b.1) 0) (Ok (a.0, b.0)) (fault 9)) x g.1 in
    let b = bind_ok (report_at 5 a.0.1) (λ b. cond (eqb (length b.1) 0) (Ok (a.0.0, b.0)) (fault 9)) x a.2 in
    let h = chosen_ok (eqb (length b.0.1) 0) (refused.Report 9) (Ok (a.0.0, b.0.0)) x b.2 in
    let none : b.0.1 ≡ [] = nothing b.0.1 h.0 in
    let first = report_takes 1 bytes a.0 a.1 in
    let second = report_takes 5 a.0.1 b.0 b.1 in
    subst (λ (y : Fields × Fields). (bytes ≡ fields_text y.0 ++ fields_text y.1) × IsReport y.0 × IsReport y.1) (ok_is (a.0.0, b.0.0) x h.1)
    (first.0 ∙ ap (λ (t : List ℕ). fields_text a.0.0 ++ t) (second.0 ∙ ap (λ (t : List ℕ). fields_text b.0.0 ++ t) none ∙ append-nil (fields_text b.0.0)), first.1, second.1)
  where
    nothing : (rest : List ℕ) → eqb (length rest) 0 ≡ true → rest ≡ []
    nothing [] e = refl
    nothing (b ∷ rest) e = absurd (omega (arith, none_left (length (b ∷ rest)) e))

-- what a call gave
pub is_found : (bytes : List ℕ) (r : Result (Report × Report) ReportRefused) → Is (λ x. (fields_of x.0, fields_of x.1)) r (reports_at bytes) → IfOk r (λ x. bytes ≡ report_text x.0 ++ report_text x.1)
is_found bytes (Ok x) e = (reports_take bytes (fields_of x.0, fields_of x.1) e).0
is_found bytes (Err s) e = tt
