-- What is read of the front of a message is its header and the numbers that its body begins with.
use Rattle.std.proofs.Common.{◌≡◌, ℕ, ◌+◌, ◌-◌, ◌^◌, ◌≤◌, ◌<◌, Bool, List, [], ◌∷◌, ◌++◌, length, take, refl, sym, ap, ◌∙◌, append_assoc, arith}
use Rattle.std.proofs.lemmas.List.{append-nil, length-append}
use Rattle.std.specs.List.{flat_map}
use Rattle.std.proofs.Math.Seq.{take-append-add}
use Rattle.byteorder.specs.Endian.{little_bytes}
use Rattle.byteorder.specs.Numbers.{little_number-reads_back}
use Rattle.mon_types.specs.Ranks.{to_bits}
use Rattle.mon_bytes.specs.Reading.{Reading, number}
use Rattle.mon_bytes.proofs.Fields.{Found, number_found}
use Rattle.std.proofs.Math.Nat.{pow-le-pow_right}
use Rattle.mon_wire.specs.declared.body.Body.{Body}
use Rattle.mon_wire.specs.declared.body.Body.TheVariants as body
use Rattle.mon_wire.specs.declared.message.Message.{Message}
use Rattle.mon_wire.specs.Message.Format.{Reader, u16_bytes, ◌⊗◌, list}
use Rattle.mon_wire.specs.Message.Fields.{number_bytes, set_bytes, numeral, flag, value}
use Rattle.mon_wire.specs.Message.Parts.{optional, cookie, told, place, entry, a_command}
use Rattle.mon_wire.specs.Message.Client.{a_request, a_reply, a_routed}
use Rattle.mon_wire.specs.Message.Bodies.{encoded}
use Rattle.mon_wire.specs.Message.Whole.{kind_of, text, IsMessage}
use Rattle.mon_wire.proofs.PartLengths.{length-number_bytes, length-set_bytes}
use Rattle.mon_decode.specs.Headers.{none_at, one_at, two_at, ranks_at, range_at, numbers_at, header_at, header_of, kind_byte, kind_in, numbers_in, heading, ReadsHeaders}
use Rattle.mon_decode.proofs.FieldLaws.{numeral-lawful}
use Rattle.mon_decode.proofs.BodyLaws.{tag-is}
use Rattle.mon_decode.proofs.KindBytes.{kind_of_byte, kind_low, kind_high}
use Rattle.mon_decode.proofs.WholeLaws.{format_found, kind_found, sender_found, epoch_found}

-- ---- the numbers

-- A text begins with at most sixteen bytes in which a reader finds these numbers.
record Begins (read : Reader (ℕ × ℕ)) (numbers : ℕ × ℕ) (text : List ℕ) : Type 0 where
  bytes : List ℕ
  others : List ℕ
  parts : text ≡ bytes ++ others
  few : length bytes ≤ 16
  found : (c : Reading) (rest : List ℕ) → c.rest ≡ bytes ++ rest → Found (read c) numbers rest

begins_none : (text : List ℕ) → Begins none_at (0, 0) text
begins_none text = record { bytes = []; others = text; parts = refl; few = omega arith; found = λ c rest e. (c, e, refl) }

one_found : (a : ℕ) → a ≤ 2 ^ 62 → (c : Reading) (rest : List ℕ) → c.rest ≡ number_bytes a ++ rest → Found (one_at c) (a, 0) rest
unfolding one_at
one_found a le c rest e = let n = numeral-lawful.found c a rest e le in (n.0, n.1, rw n.2 refl)

begins_one : (a : ℕ) (text others : List ℕ) → a ≤ 2 ^ 62 → text ≡ number_bytes a ++ others → Begins one_at (a, 0) text
begins_one a text others le e = record { bytes = number_bytes a; others = others; parts = e; few = omega (arith, length-number_bytes a); found = one_found a le }

two_found : (a b : ℕ) → a ≤ 2 ^ 62 → b ≤ 2 ^ 62 → (c : Reading) (rest : List ℕ) → c.rest ≡ (number_bytes a ++ number_bytes b) ++ rest → Found (two_at c) (a, b) rest
unfolding two_at
two_found a b low high c rest e =
    let n = numeral-lawful.found c a (number_bytes b ++ rest) (e ∙ append_assoc (number_bytes a) (number_bytes b) rest) low in
    let m = numeral-lawful.found n.0 b rest n.1 high in
    (m.0, m.1, rw (n.2, m.2) refl)

begins_two : (a b : ℕ) (text others : List ℕ) → a ≤ 2 ^ 62 → b ≤ 2 ^ 62 → text ≡ (number_bytes a ++ number_bytes b) ++ others → Begins two_at (a, b) text
begins_two a b text others low high e = record {
  bytes = number_bytes a ++ number_bytes b;
  others = others;
  parts = e;
  few = omega (arith, length-append (number_bytes a) (number_bytes b), length-number_bytes a, length-number_bytes b);
  found = two_found a b low high;
}

count_found : (n : ℕ) → n < 2 ^ 16 → (c : Reading) (rest : List ℕ) → c.rest ≡ u16_bytes n ++ rest → Found (number 2 c) n rest
unfolding u16_bytes
count_found n low c rest e = number_found 2 c (little_bytes 2 n) rest n e refl (little_number-reads_back 2 n [] (omega (arith, low)))

range_found : (a n : ℕ) → a ≤ 2 ^ 62 → n < 2 ^ 16 → (c : Reading) (rest : List ℕ) → c.rest ≡ (number_bytes a ++ u16_bytes n) ++ rest → Found (range_at c) (a, a + n - 1) rest
unfolding range_at
range_found a n low high c rest e =
    let f = numeral-lawful.found c a (u16_bytes n ++ rest) (e ∙ append_assoc (number_bytes a) (u16_bytes n) rest) low in
    let m = count_found n high f.0 rest f.1 in
    (m.0, m.1, rw (f.2, m.2) refl)

length-u16 : (n : ℕ) → length (u16_bytes n) ≡ 2
unfolding u16_bytes
length-u16 n = refl

begins_range : (a n : ℕ) (text others : List ℕ) → a ≤ 2 ^ 62 → n < 2 ^ 16 → text ≡ number_bytes a ++ (u16_bytes n ++ others) → Begins range_at (a, a + n - 1) text
begins_range a n text others low high e = record {
  bytes = number_bytes a ++ u16_bytes n;
  others = others;
  parts = e ∙ sym (append_assoc (number_bytes a) (u16_bytes n) others);
  few = omega (arith, length-append (number_bytes a) (u16_bytes n), length-number_bytes a, length-u16 n);
  found = range_found a n low high;
}

ranks_found : (s : List Bool) → to_bits s < 2 ^ 16 → (c : Reading) (rest : List ℕ) → c.rest ≡ set_bytes s ++ rest → Found (ranks_at c) (to_bits s, 0) rest
unfolding ranks_at set_bytes
ranks_found s low c rest e =
    let n = number_found 2 c (little_bytes 2 (to_bits s)) rest (to_bits s) e refl (little_number-reads_back 2 (to_bits s) [] (omega (arith, low))) in
    (n.0, n.1, rw n.2 refl)

begins_ranks : (s : List Bool) → to_bits s < 2 ^ 16 → Begins ranks_at (to_bits s, 0) (set_bytes s)
begins_ranks s low = record { bytes = set_bytes s; others = []; parts = sym (append-nil (set_bytes s)); few = omega (arith, length-set_bytes s); found = ranks_found s low }

-- the numbers that a body begins with are found
begins : (n own : ℕ) → n ≤ 15 → (b : Body) → (encoded n own b).Form → Begins (numbers_at (kind_in b)) (numbers_in b) (encoded n own b).text
begins n own few body.Probe form = begins_none []
begins n own few (body.ProbeReply quorum first last) form = begins_none (encoded n own (body.ProbeReply quorum first last)).text
begins n own few (body.Propose t) form = begins_none (encoded n own (body.Propose t)).text
begins n own few body.Ack form = begins_none []
begins n own few (body.Victory quorum) form = let most : 2 ^ n ≤ 2 ^ 15 = pow-le-pow_right (omega arith) few in begins_ranks quorum (omega (arith, form.1, most))
begins n own few (body.Collect pn first last) form = begins_one pn (encoded n own (body.Collect pn first last)).text (number_bytes first ++ number_bytes last) form.0 refl
begins n own few (body.Last pn first l whole from values pending) form =
    begins_one pn (encoded n own (body.Last pn first l whole from values pending)).text
    ((numeral ⊗ numeral ⊗ flag ⊗ numeral ⊗ list value ⊗ optional told).text (first, (l, (whole, (from, (values, pending)))))) form.0 refl
begins n own few (body.Begin pn version v) form =
    begins_two pn version (encoded n own (body.Begin pn version v)).text (value.text v) form.0 form.1.0 (sym (append_assoc (number_bytes pn) (number_bytes version) (value.text v)))
begins n own few (body.Accept pn version) form = begins_two pn version (number_bytes pn ++ number_bytes version) [] form.0 form.1 (sym (append-nil (number_bytes pn ++ number_bytes version)))
begins n own few (body.Commit from values) form = begins_range from (length values) (encoded n own (body.Commit from values)).text (flat_map value.text values) form.0 form.1.1.0 refl
begins n own few (body.Lease l) form = begins_one l (number_bytes l) [] form (sym (append-nil (number_bytes l)))
begins n own few (body.LeaseAck l) form = begins_one l (number_bytes l) [] form (sym (append-nil (number_bytes l)))
begins n own few (body.Forward seq command) form = begins_one seq (encoded n own (body.Forward seq command)).text (a_command.text command) form.0 refl
begins n own few (body.Route seq reply) form = begins_one seq (encoded n own (body.Route seq reply)).text (a_routed.text reply) form.0 refl
begins n own few body.GetCookieFull form = begins_none []
begins n own few (body.GetCookieRecent l) form = begins_one l (number_bytes l) [] form (sym (append-nil (number_bytes l)))
begins n own few (body.Cookie full k l) form = begins_none (encoded n own (body.Cookie full k l)).text
begins n own few (body.GetChunk k at) form = begins_two k.boot k.seq (encoded n own (body.GetChunk k at)).text (place.text at) form.0.0 form.0.1 refl
begins n own few (body.Chunk k at values entries done) form =
    begins_two k.boot k.seq (encoded n own (body.Chunk k at values entries done)).text ((place ⊗ list value ⊗ list entry ⊗ flag).text (at, (values, (entries, done)))) form.0.0 form.0.1 refl
begins n own few (body.LastChunk k at values entries l) form =
    begins_two k.boot k.seq (encoded n own (body.LastChunk k at values entries l)).text ((place ⊗ list value ⊗ list entry ⊗ numeral).text (at, (values, (entries, l)))) form.0.0 form.0.1 refl
begins n own few (body.NoCookie k) form = begins_two k.boot k.seq (cookie.text k) [] form.0 form.1 (sym (append-nil (cookie.text k)))
begins n own few (body.Ping t) form = begins_none (encoded n own (body.Ping t)).text
begins n own few (body.PingReply t) form = begins_none (encoded n own (body.PingReply t)).text
begins n own few (body.Request id r) form = begins_one id (encoded n own (body.Request id r)).text (a_request.text r) form.0 refl
begins n own few (body.Reply id r) form = begins_one id (encoded n own (body.Reply id r)).text (a_reply.text r) form.0 refl

-- ---- the header before them

-- the fields of a header, as they are encoded
fields : Message → List ℕ → List ℕ
fields m bytes = 1 ∷ (encoded m.monitors m.from m.body).tag ∷ m.from ∷ m.monitors ∷ (number_bytes m.epoch ++ bytes)

header_found : (m : Message) → IsMessage m → (b : Begins (numbers_at (kind_in m.body)) (numbers_in m.body) (encoded m.monitors m.from m.body).text)
    → (c : Reading) (rest : List ℕ) → c.rest ≡ fields m (b.bytes ++ rest) → Found (header_at c) (heading m) rest
unfolding header_at fields
header_found m form b c rest e =
    let s = encoded m.monitors m.from m.body in
    let said = b.bytes ++ rest in
    let tag : s.tag ≡ kind_byte (kind_in m.body) = tag-is m.monitors m.from m.body in
    let is : kind_of s.tag ≡ kind_in m.body = ap kind_of tag ∙ kind_of_byte (kind_in m.body) in
    let f = format_found c (s.tag ∷ m.from ∷ m.monitors ∷ (number_bytes m.epoch ++ said)) e in
    let k = kind_found f.0 s.tag (m.from ∷ m.monitors ∷ (number_bytes m.epoch ++ said)) f.1 (omega (arith, tag, kind_low (kind_in m.body))) (omega (arith, tag, kind_high (kind_in m.body))) in
    let w = sender_found s.tag k.0 m.from m.monitors (number_bytes m.epoch ++ said) k.1 form.sender form.monitors (λ is. (form.asks is).0) in
    let p = epoch_found s.tag w.0 m.epoch said w.1 form.epoch (λ is. (form.asks is).1) in
    let n = b.found p.0 rest p.1 in
    (n.0, n.1, rw (f.2, k.2, w.2, p.2, is, n.2) refl)

take_whole : (n : ℕ) (xs ys : List ℕ) → length xs ≤ n → take n (xs ++ ys) ≡ xs ++ take (n - length xs) ys
take_whole n xs ys le =
    let split : n ≡ length xs + (n - length xs) = omega (arith, le) in
    ap (λ k. take k (xs ++ ys)) split ∙ take-append-add xs ys (n - length xs)

fields_end : (m : Message) (bytes others : List ℕ) → fields m (bytes ++ others) ≡ fields m bytes ++ others
unfolding fields
fields_end m bytes others = rw (append_assoc (number_bytes m.epoch) bytes others) refl

length-fields : (m : Message) (bytes : List ℕ) → length (fields m bytes) ≡ 12 + length bytes
unfolding fields
length-fields m bytes = omega (arith, length-append (number_bytes m.epoch) bytes, length-number_bytes m.epoch)

text_is : (m : Message) → text m ≡ fields m (encoded m.monitors m.from m.body).text
unfolding fields
text_is m = refl

pub reads_headers : ReadsHeaders
unfolding header_of
reads_headers m n has le =
    let b = begins m.monitors m.from has.form.monitors m.body has.form.body in
    let front = fields m b.bytes in
    let whole : text m ≡ front ++ b.others = text_is m ∙ ap (fields m) b.parts ∙ fields_end m b.bytes b.others in
    let few : length front ≤ n = omega (arith, length-fields m b.bytes, b.few, le) in
    let cut : take n (text m) ≡ fields m (b.bytes ++ take (n - length front) b.others) =
    ap (take n) whole ∙ take_whole n front b.others few ∙ sym (fields_end m b.bytes (take (n - length front) b.others)) in
    let found = header_found m has.form b (record { at = 0; rest = take n (text m) }) (take (n - length front) b.others) cut in
    rw found.2 refl
