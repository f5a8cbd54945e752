-- The text of two reports is read as these reports.
use Rattle.std.proofs.Common.{◌≡◌, ℕ, ◌<◌, ◌≤◌, ◌+◌, ◌*◌, ◌-◌, ◌^◌, Bool, true, false, eqb, leb, List, [], ◌∷◌, ◌++◌, length, Some, Ok, refl, sym, ap, subst, ◌∙◌, append_assoc, length-append, arith, inl, inr}
use Rattle.std.specs.Prelude.{IsTrue, IsOk, ◌&&◌, codes, decimal, nat_lt}
use Rattle.std.specs.List.{list_all}
use Rattle.std.specs.Str.{bytes_eq}
use Rattle.std.proofs.Math.Seq.{take-append_seam, drop-append_seam}
use Rattle.std.proofs.lemmas.Bool.{cases_eq}
use Rattle.std.proofs.lemmas.Bool.Decides.{nat_tests}
use Rattle.std.proofs.lemmas.Fmt.{decimal_digit, digits_decimal}
use Rattle.std.proofs.lemmas.List.{append-nil}
use Rattle.std.proofs.lemmas.List.Sums.{list_all-from_AllPass}
use Rattle.std.proofs.lemmas.Slice.Eq.{bytes_eq-Decides}
use Rattle.hex.proofs.HexLemmas.{IsOk-decode_sized, decode_sized-encode_lower, length-encode_with}
use Rattle.hex.specs.Hex.{decode_sized, encode_lower, is_hex_digit, lower_digits}
use Rattle.mon_bytes.specs.Reading.{IsBytes}
use Rattle.schedule_text.specs.Fields.{cut, digit, within}
use Rattle.schedule_text.proofs.FieldLaws.{apart, cut_again, list_all-weaker}
use Rattle.schedule_text.proofs.Lengths.{at_most_20_digits}
use Rattle.schedule_text.proofs.Numerals.{number_again, own, within_most}
use Rattle.trace_text.specs.Words.{flag_text}
use Rattle.mon_scrub.specs.declared.report.Part.{Part}
use Rattle.mon_scrub.specs.Text.{AreParts, Fields, IsPart, IsReport, fields_text, part_text, parts_text, prefixes}
use Rattle.mon_scrub.proofs.Found.{line_of}
use Rattle.mon_scrub.specs.Reading.{◌>>=◌, digest_at, field_at, last_at, member_at, number_at, part_at, parts_at, report_at, reports_at, text_at, two_at}

-- ---- what comes next

same_bytes : (bytes : List ℕ) → bytes_eq bytes bytes ≡ true
same_bytes bytes = (bytes_eq-Decides bytes bytes).1 refl

no_longer : (n k : ℕ) → leb n (n + k) ≡ true
no_longer n k = grind (arith, nat_tests)

text_again : (n : ℕ) (text rest : List ℕ) → text_at n text (text ++ rest) ≡ Ok (tt, rest)
unfolding text_at
text_again n text rest =
    rw (length-append text rest, no_longer (length text) (length rest), take-append_seam text rest, same_bytes text, drop-append_seam text rest) refl

field_again : (n separator : ℕ) (f rest : List ℕ) → IsTrue (list_all (apart separator) f) → field_at n separator (f ++ separator ∷ rest) ≡ Ok (f, rest)
field_again n separator f rest h = let e : cut separator (f ++ separator ∷ rest) ≡ (f, Some rest) = cut_again separator f (Some rest) h in rw e refl

digit_apart : (separator b : ℕ) → separator < 48 → IsTrue (digit b) → IsTrue (apart separator b)
digit_apart separator b low h = grind (arith, nat_tests)

number_at_again : (n separator least most x : ℕ) (rest : List ℕ) → most < 2 ^ 64 → separator < 48 → IsTrue (within least most x)
    → number_at n separator least most (decimal x ++ separator ∷ rest) ≡ Ok (x, rest)
unfolding number_at
number_at_again n separator least most x rest small low fits =
    let le : x ≤ most = within_most least most x fits in
    let digits = list_all-weaker digit (apart separator) (λ b. digit_apart separator b low) (decimal x) (digits_decimal own x (omega arith)) in
    rw (field_again n separator (decimal x) rest digits, number_again least most x small fits) refl

hex_apart : (b : ℕ) → IsTrue (is_hex_digit b) → IsTrue (apart 10 b)
hex_apart b h =
    elim (cases_eq b 10) [
      | inl e ↦ let u : IsTrue (is_hex_digit 10) = subst (λ x. IsTrue (is_hex_digit x)) e h in absurd cc
      | inr ne ↦ grind (arith, nat_tests)
    ]

digest_again : (n : ℕ) (d rest : List ℕ) → length d ≡ 32 → IsBytes d → digest_at n (encode_lower d ++ 10 ∷ rest) ≡ Ok (d, rest)
unfolding digest_at
digest_again n d rest long bytes =
    let decoded = decode_sized-encode_lower d 32 long bytes in
    let ok : IsOk (decode_sized (encode_lower d) 32) = rw decoded refl in
    let digits = list_all-from_AllPass is_hex_digit (encode_lower d) ((IsOk-decode_sized (encode_lower d) 32).0 ok).1 in
    rw (field_again n 10 (encode_lower d) rest (list_all-weaker is_hex_digit (apart 10) hex_apart (encode_lower d) digits), decoded, same_bytes (encode_lower d)) refl

-- ---- lines

below_is_within : (most x : ℕ) → x ≤ most → IsTrue (within 0 most x)
below_is_within most x le = grind (arith, nat_tests)

part_again : (n : ℕ) (name rest : List ℕ) (p : Part) → IsPart p
    → part_at n name (name ++ (decimal p.keys ++ 32 ∷ (codes "sha256=" ++ (encode_lower p.digest ++ 10 ∷ rest)))) ≡ Ok (p, rest)
unfolding part_at
part_again n name rest p h =
    let k = h.keys in
    rw (
      text_again n name (decimal p.keys ++ 32 ∷ (codes "sha256=" ++ (encode_lower p.digest ++ 10 ∷ rest))),
      number_at_again n 32 0 (2 ^ 32 - 1) p.keys (codes "sha256=" ++ (encode_lower p.digest ++ 10 ∷ rest)) (omega arith) (omega arith) (below_is_within (2 ^ 32 - 1) p.keys (omega (arith, k))),
      text_again n (codes "sha256=") (encode_lower p.digest ++ 10 ∷ rest),
      digest_again n p.digest rest h.long h.bytes,
    ) refl

-- a part's line, as it is read
abbrev encoded : (name : List ℕ) → Part → List ℕ → List ℕ
encoded name p rest = name ++ (decimal p.keys ++ 32 ∷ (codes "sha256=" ++ (encode_lower p.digest ++ 10 ∷ rest)))

parts_joined : (kv logm paxos : Part) (rest : List ℕ)
    → encoded (codes "kv keys=") kv (encoded (codes "logm keys=") logm (encoded (codes "paxos keys=") paxos rest)) ≡ parts_text prefixes (kv ∷ logm ∷ paxos ∷ []) ++ rest
parts_joined kv logm paxos rest =
    line_of (codes "kv") kv (encoded (codes "logm keys=") logm (encoded (codes "paxos keys=") paxos rest))
    ∙ ap (λ (t : List ℕ). part_text (codes "kv") kv ++ t) (line_of (codes "logm") logm (encoded (codes "paxos keys=") paxos rest)
    ∙ ap (λ (t : List ℕ). part_text (codes "logm") logm ++ t) (line_of (codes "paxos") paxos rest))
    ∙ three (part_text (codes "kv") kv) (part_text (codes "logm") logm) (part_text (codes "paxos") paxos) rest
  where
    three : (p q r rest : List ℕ) → p ++ (q ++ (r ++ rest)) ≡ (p ++ (q ++ (r ++ []))) ++ rest
    three p q r rest = simp append_assoc

three_again : (n : ℕ) (kv logm paxos : Part) (rest : List ℕ) → IsPart kv → IsPart logm → IsPart paxos
    → parts_at n (encoded (codes "kv keys=") kv (encoded (codes "logm keys=") logm (encoded (codes "paxos keys=") paxos rest))) ≡ Ok (kv ∷ logm ∷ paxos ∷ [], rest)
unfolding parts_at
three_again n kv logm paxos rest a b d =
    rw (
      part_again n (codes "kv keys=") (encoded (codes "logm keys=") logm (encoded (codes "paxos keys=") paxos rest)) kv a,
      part_again (n + 1) (codes "logm keys=") (encoded (codes "paxos keys=") paxos rest) logm b,
      part_again (n + 2) (codes "paxos keys=") rest paxos d,
    ) refl

parts_again : (n : ℕ) (ps : List Part) (rest : List ℕ) → AreParts ps → parts_at n (parts_text prefixes ps ++ rest) ≡ Ok (ps, rest)
parts_again n [] rest h = absurd h
parts_again n (kv ∷ []) rest h = absurd h
parts_again n (kv ∷ logm ∷ []) rest h = absurd h
parts_again n (kv ∷ logm ∷ paxos ∷ []) rest h = ap (parts_at n) (sym (parts_joined kv logm paxos rest)) ∙ three_again n kv logm paxos rest h.0 h.1 h.2
parts_again n (kv ∷ logm ∷ paxos ∷ p ∷ ps) rest h = absurd h

member_again : (n rank monitors : ℕ) (rest : List ℕ) → rank < monitors → monitors ≤ 15
    → member_at n (codes "scrub rank=" ++ (decimal rank ++ 32 ∷ (codes "monitors=" ++ (decimal monitors ++ 32 ∷ rest)))) ≡ Ok ((rank, monitors), rest)
unfolding member_at
member_again n rank monitors rest below most =
    let above : IsTrue (within (rank + 1) 15 monitors) = grind (arith, nat_tests) in
    rw (
      text_again n (codes "scrub rank=") (decimal rank ++ 32 ∷ (codes "monitors=" ++ (decimal monitors ++ 32 ∷ rest))),
      number_at_again n 32 0 14 rank (codes "monitors=" ++ (decimal monitors ++ 32 ∷ rest)) (omega arith) (omega arith) (below_is_within 14 rank (omega arith)),
      text_again n (codes "monitors=") (decimal monitors ++ 32 ∷ rest),
      number_at_again n 32 (rank + 1) 15 monitors rest (omega arith) (omega arith) above,
    ) refl

-- the number of a mark
abbrev mark : Bool → ℕ
mark true = 1
mark false = 0

mark_again : (n : ℕ) (marked : Bool) (rest : List ℕ) → number_at n 10 0 1 (flag_text marked ++ 10 ∷ rest) ≡ Ok (mark marked, rest)
mark_again n true rest = subst (λ (t : List ℕ). number_at n 10 0 1 (t ++ 10 ∷ rest) ≡ Ok (1, rest)) (decimal_digit 1 (omega arith)) (number_at_again n 10 0 1 1 rest (omega arith) (omega arith) refl)
mark_again n false rest = subst (λ (t : List ℕ). number_at n 10 0 1 (t ++ 10 ∷ rest) ≡ Ok (0, rest)) (decimal_digit 0 (omega arith)) (number_at_again n 10 0 1 0 rest (omega arith) (omega arith) refl)

mark_is : (marked : Bool) → eqb (mark marked) 1 ≡ marked
mark_is true = refl
mark_is false = refl

last_again : (n last : ℕ) (marked : Bool) (rest : List ℕ) → last ≤ 2 ^ 62
    → last_at n (codes "last=" ++ (decimal last ++ 32 ∷ (codes "marked=" ++ (flag_text marked ++ 10 ∷ rest)))) ≡ Ok ((last, marked), rest)
unfolding last_at
last_again n last marked rest most =
    rw (
      text_again n (codes "last=") (decimal last ++ 32 ∷ (codes "marked=" ++ (flag_text marked ++ 10 ∷ rest))),
      number_at_again n 32 0 (2 ^ 62) last (codes "marked=" ++ (flag_text marked ++ 10 ∷ rest)) (omega arith) (omega arith) (below_is_within (2 ^ 62) last most),
      text_again n (codes "marked=") (flag_text marked ++ 10 ∷ rest),
      mark_again n marked rest,
      mark_is marked,
    ) refl

report_joined : (f : Fields) (rest : List ℕ)
    → codes "scrub rank=" ++ (decimal f.rank ++ (codes " monitors=" ++ (decimal f.monitors ++ (codes " last=" ++ (decimal f.last ++ (codes " marked=" ++ (flag_text f.marked ++ 10 ∷ (parts_text prefixes f.parts ++ rest))))))))
    ≡ fields_text f ++ rest
report_joined f rest = simp append_assoc

report_read : (n : ℕ) (f : Fields) (rest : List ℕ) → IsReport f
    → report_at n (codes "scrub rank=" ++ (decimal f.rank ++ 32 ∷ (codes "monitors=" ++ (decimal f.monitors ++ 32 ∷ (codes "last=" ++ (decimal f.last ++ 32 ∷ (codes "marked=" ++ (flag_text f.marked ++ 10 ∷ (parts_text prefixes f.parts ++ rest)))))))))
    ≡ Ok (f, rest)
unfolding report_at
report_read n f rest h =
    rw (
      member_again n f.rank f.monitors (codes "last=" ++ (decimal f.last ++ 32 ∷ (codes "marked=" ++ (flag_text f.marked ++ 10 ∷ (parts_text prefixes f.parts ++ rest))))) h.rank h.monitors,
      last_again n f.last f.marked (parts_text prefixes f.parts ++ rest) h.last,
      parts_again (n + 1) f.parts rest h.parts,
    ) refl

report_again : (n : ℕ) (f : Fields) (rest : List ℕ) → IsReport f → report_at n (fields_text f ++ rest) ≡ Ok (f, rest)
report_again n f rest h = ap (report_at n) (sym (report_joined f rest)) ∙ report_read n f rest h

-- ---- lengths

part_length : (prefix : List ℕ) (p : Part) → IsPart p → length (part_text prefix p) ≤ length prefix + 99
part_length prefix p h =
    let digits = at_most_20_digits p.keys (omega (arith, h.keys)) in
    let digest = length-encode_with lower_digits p.digest in
    let long = h.long in
    simp length-append (omega (arith, digits, digest, long))

parts_length : (ps : List Part) → AreParts ps → length (parts_text prefixes ps) ≤ 308
parts_length [] h = absurd h
parts_length (kv ∷ []) h = absurd h
parts_length (kv ∷ logm ∷ []) h = absurd h
parts_length (kv ∷ logm ∷ paxos ∷ []) h =
    let a = part_length (codes "kv") kv h.0 in
    let b = part_length (codes "logm") logm h.1 in
    let d = part_length (codes "paxos") paxos h.2 in
    sum (part_text (codes "kv") kv) (part_text (codes "logm") logm) (part_text (codes "paxos") paxos) a b d
  where
    sum : (p q r : List ℕ) → length p ≤ 101 → length q ≤ 103 → length r ≤ 104 → length (p ++ (q ++ (r ++ []))) ≤ 308
    sum p q r a b d = simp length-append (omega (arith, a, b, d))
parts_length (kv ∷ logm ∷ paxos ∷ p ∷ ps) h = absurd h

flag_length : (marked : Bool) → length (flag_text marked) ≡ 1
flag_length true = refl
flag_length false = refl

report_length : (f : Fields) → IsReport f → length (fields_text f) ≤ 512
report_length f h =
    let rank = at_most_20_digits f.rank (omega (arith, h.rank, h.monitors)) in
    let monitors = at_most_20_digits f.monitors (omega (arith, h.monitors)) in
    let last = at_most_20_digits f.last (omega (arith, h.last)) in
    let flag = flag_length f.marked in
    let parts = parts_length f.parts h.parts in
    simp length-append (omega (arith, rank, monitors, last, flag, parts))

-- ---- two reports

not_more : (n : ℕ) → n ≤ 4096 → nat_lt 4096 n ≡ false
not_more n le = grind (arith, nat_tests)

two_again : (a b : Fields) → IsReport a → IsReport b → two_at (fields_text a ++ fields_text b) ≡ Ok (a, b)
unfolding two_at
two_again a b ha hb =
    let second : report_at 5 (fields_text b) ≡ Ok (b, []) = ap (report_at 5) (sym (append-nil (fields_text b))) ∙ report_again 5 b [] hb in
    rw (report_again 1 a (fields_text b) ha, second) refl

pub reports_again : (a b : Fields) → IsReport a → IsReport b → reports_at (fields_text a ++ fields_text b) ≡ Ok (a, b)
unfolding reports_at
reports_again a b ha hb =
    let m = report_length a ha in
    let n = report_length b hb in
    let sum = length-append (fields_text a) (fields_text b) in
    rw (not_more (length (fields_text a ++ fields_text b)) (omega (arith, m, n, sum))) (two_again a b ha hb)
