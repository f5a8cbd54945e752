-- Parsing accepts exactly the texts of addresses, and returns the addresses that a text encodes.
use Rattle.std.proofs.Common.{◌≡◌, ◌==◌, cond, ℕ, ◌+◌, ◌-◌, ◌<◌, ◌≤◌, ◌^◌, Bool, true, false, List, [], ◌∷◌, ◌++◌, length, map, Option, Some, None, Result, Ok, Err, IsTrue, decimal, refl, sym, ap, subst, ◌∙◌, arith, lit<}
use Rattle.std.specs.Prelude.{is_ok}
use Rattle.std.specs.List.{AllByRecursion, list_all}
use Rattle.std.proofs.lemmas.Bool.Decides.{nat_tests}
use Rattle.std.proofs.lemmas.Fmt.{digits_decimal}
use Rattle.std.proofs.lemmas.List.{append-nil, length-map}
use Rattle.std.proofs.lemmas.List.Sums.{sum_by-cons}
use Rattle.mon_bytes.proofs.Ascii.{both}
use Rattle.mon_bytes.proofs.Fields.{ok_is}
use Rattle.mon_bytes.proofs.Formats.{bind_ok}
use Rattle.mon_link.specs.declared.udp.Address.{Address}
use Rattle.schedule_text.specs.Fields.{cut, digit, number_of}
use Rattle.schedule_text.proofs.FieldLaws.{apart, cut_again, cut_joined, list_all-append, list_all-weaker, number_form}
use Rattle.schedule_text.proofs.FieldLaws as fields
use Rattle.schedule_text.proofs.Numerals.{own}
use Rattle.task_words.specs.Addresses.{IsAddress, address_of, address_text, addresses_of, addresses_text, commas, host_of, port_of}
use Rattle.task_words.specs.Parts.{joined, parts_of}
use Rattle.task_words.proofs.NumberLaws.{is_within, within_is}
use Rattle.task_words.proofs.PartsLoop.{left}
use Rattle.task_words.proofs.PartLaws.{IsPart, before, parts_again, parts_take}

-- ---- numbers

no_dot : (b : ℕ) → IsTrue (digit b) → IsTrue (apart 46 b)
no_dot b h = grind (arith, nat_tests)

no_colon : (b : ℕ) → IsTrue (digit b) → IsTrue (apart 58 b)
no_colon b h = grind (arith, nat_tests)

no_comma : (b : ℕ) → IsTrue (digit b) → IsTrue (apart 44 b)
no_comma b h = grind (arith, nat_tests)

digits_apart : (separator n : ℕ) → ((b : ℕ) → IsTrue (digit b) → IsTrue (apart separator b)) → n < 2 ^ 64 → IsTrue (list_all (apart separator) (decimal n))
digits_apart separator n weaker small = list_all-weaker digit (apart separator) weaker (decimal n) (digits_decimal own n small)

number_part : IsPart ℕ 46 (number_of 0 255) decimal (λ n. n ≤ 255)
number_part = record {
  takes = λ f n e. let t = (number_form 0 255 (lit< tt)).takes f n e in (t.0, (is_within 0 255 n t.1).1);
  again = λ n most. (number_form 0 255 (lit< tt)).again n (within_is 0 255 n (omega arith) most);
  apart_is = λ n most. digits_apart 46 n no_dot (omega arith);
}

-- ---- hosts

joined_all : (p : ℕ → Bool) (separator : ℕ) (texts : List (List ℕ)) → IsTrue (p separator) → AllByRecursion (λ t. IsTrue (list_all p t)) texts → IsTrue (list_all p (joined separator texts))
joined_all p separator [] holds each = refl
joined_all p separator (t ∷ []) holds each = each.0
joined_all p separator (t ∷ u ∷ ts) holds each =
    let rest = joined_all p separator (u ∷ ts) holds each.1 in
    list_all-append p t (separator ∷ joined separator (u ∷ ts)) each.0 (rw holds rest)

decimals_apart : (separator : ℕ) (ns : List ℕ) → ((b : ℕ) → IsTrue (digit b) → IsTrue (apart separator b)) → AllByRecursion (λ n. n ≤ 255) ns
    → AllByRecursion (λ t. IsTrue (list_all (apart separator) t)) (map decimal ns)
decimals_apart separator [] weaker most = tt
decimals_apart separator (n ∷ ns) weaker most = (digits_apart separator n weaker (omega (arith, most.0)), decimals_apart separator ns weaker most.1)

-- what is left before some texts, of which there is one
same_left : (text : List ℕ) (separator : ℕ) (texts : List (List ℕ)) → Some text ≡ before separator texts → text ≡ joined separator texts
same_left text separator [] is = absurd cc
same_left text separator (t ∷ ts) is = cc

left_is : (separator : ℕ) (texts : List (List ℕ)) → 0 < length texts → before separator texts ≡ Some (joined separator texts)
left_is separator [] some = absurd (omega arith)
left_is separator (t ∷ ts) some = refl

pub record IsHost (text host : List ℕ) : Type 0 where
  pub parsed : text ≡ joined 46 (map decimal host)
  pub numbers : length host ≡ 4
  pub most : AllByRecursion (λ n. n ≤ 255) host

host_takes : (text host : List ℕ) → host_of text ≡ Ok host → IsHost text host
unfolding host_of
host_takes text host e =
    let parts = parts_take ℕ 46 (number_of 0 255) decimal (λ n. n ≤ 255) number_part 4 (Some text) host e in
    record { parsed = same_left text 46 (map decimal host) parts.parsed; numbers = parts.count; most = parts.each }

host_again : (host : List ℕ) → length host ≡ 4 → AllByRecursion (λ n. n ≤ 255) host → host_of (joined 46 (map decimal host)) ≡ Ok host
unfolding host_of
host_again host numbers most =
    let some : 0 < length (map decimal host) = omega (arith, length-map host decimal) in
    ap (λ (n : ℕ). parts_of 46 (number_of 0 255) n (Some (joined 46 (map decimal host)))) (sym numbers)
    ∙ ap (λ (rest : Option (List ℕ)). parts_of 46 (number_of 0 255) (length host) rest) (sym (left_is 46 (map decimal host) some))
    ∙ parts_again ℕ 46 (number_of 0 255) decimal (λ n. n ≤ 255) number_part host most

-- ---- one address

port_takes : (rest : Option (List ℕ)) (port : ℕ) → port_of rest ≡ Ok port → (rest ≡ Some (decimal port)) × (1 ≤ port) × (port ≤ 65535)
unfolding port_of
port_takes None port e = absurd cc
port_takes (Some text) port e =
    let t = (number_form 1 65535 (lit< tt)).takes text port e in
    let w = is_within 1 65535 port t.1 in
    (ap (λ (f : List ℕ). Some f) t.0, w.0, w.1)

port_again : (port : ℕ) → 1 ≤ port → port ≤ 65535 → port_of (Some (decimal port)) ≡ Ok port
unfolding port_of
port_again port least most = (number_form 1 65535 (lit< tt)).again port (within_is 1 65535 port least most)

address_takes : (field : List ℕ) (a : Address) → address_of field ≡ Ok a → (field ≡ address_text a) × IsAddress a
unfolding address_of
address_takes field a e =
    let host = bind_ok (host_of (cut 58 field).0) _ a e in
    let port = bind_ok (port_of (cut 58 field).1) (λ (p : ℕ). Ok (record { host = host.0; port = p })) a host.2 in
    let h = host_takes (cut 58 field).0 host.0 host.1 in
    let p = port_takes (cut 58 field).1 port.0 port.1 in
    let text : field ≡ joined 46 (map decimal host.0) ++ 58 ∷ decimal port.0 =
    sym (cut_joined 58 field) ∙ (λ i. fields.joined 58 (h.parsed i) (p.0 i)) in
    let made : Address = record { host = host.0; port = port.0 } in
    subst (λ (b : Address). (field ≡ address_text b) × IsAddress b) (ok_is made a port.2)
    (text, record { numbers = h.numbers; most = h.most; port = p.1; port_most = p.2 })

address_again : (a : Address) → IsAddress a → address_of (address_text a) ≡ Ok a
unfolding address_of
address_again a is =
    let apart_text = joined_all (apart 58) 46 (map decimal a.host) refl (decimals_apart 58 a.host no_colon is.most) in
    rw (cut_again 58 (joined 46 (map decimal a.host)) (Some (decimal a.port)) apart_text, host_again a.host is.numbers is.most, port_again a.port is.port is.port_most) refl

address_apart : (a : Address) → IsAddress a → IsTrue (list_all (apart 44) (address_text a))
address_apart a is =
    let host = joined_all (apart 44) 46 (map decimal a.host) refl (decimals_apart 44 a.host no_comma is.most) in
    let port = digits_apart 44 a.port no_comma (omega (arith, is.port_most)) in
    list_all-append (apart 44) (joined 46 (map decimal a.host)) (58 ∷ decimal a.port) host port

pub address_part : IsPart Address 44 address_of address_text IsAddress
address_part = record { takes = address_takes; again = address_again; apart_is = address_apart }

-- ---- several

pub record AreAddresses (n : ℕ) (text : List ℕ) (addresses : List Address) : Type 0 where
  pub parsed : text ≡ addresses_text addresses
  pub count : length addresses ≡ n
  pub each : AllByRecursion IsAddress addresses

pub addresses_take : (n : ℕ) (text : List ℕ) (addresses : List Address) → addresses_of n text ≡ Ok addresses → AreAddresses n text addresses
unfolding addresses_of
addresses_take n text addresses e =
    let parts = parts_take Address 44 address_of address_text IsAddress address_part n (Some text) addresses e in
    record { parsed = same_left text 44 (map address_text addresses) parts.parsed; count = parts.count; each = parts.each }

pub addresses_again : (addresses : List Address) → 0 < length addresses → AllByRecursion IsAddress addresses → addresses_of (length addresses) (addresses_text addresses) ≡ Ok addresses
unfolding addresses_of
addresses_again addresses some each =
    let there : 0 < length (map address_text addresses) = omega (arith, length-map addresses address_text) in
    ap (λ (rest : Option (List ℕ)). parts_of 44 address_of (length addresses) rest) (sym (left_is 44 (map address_text addresses) there))
    ∙ parts_again Address 44 address_of address_text IsAddress address_part addresses each

-- the text of some addresses is read as these
pub addresses_read : (n : ℕ) (text : List ℕ) (addresses : List Address) → 0 < n → length addresses ≡ n → AllByRecursion IsAddress addresses → text ≡ addresses_text addresses
    → addresses_of n text ≡ Ok addresses
addresses_read n text addresses some count each is =
    ap (addresses_of n) is ∙ ap (λ (k : ℕ). addresses_of k (addresses_text addresses)) (sym count) ∙ addresses_again addresses (omega arith) each

some_ok : {A E : Type 0} (r : Result A E) → is_ok r ≡ true → (x : A) × (r ≡ Ok x)
some_ok (Ok x) is = (x, refl)
some_ok (Err e) is = absurd cc

pub addresses_there : (n : ℕ) (text : List ℕ) → is_ok (addresses_of n text) ≡ true → (addresses : List Address) × AreAddresses n text addresses
addresses_there n text is = let found = some_ok (addresses_of n text) is in (found.0, addresses_take n text found.0 found.1)

pub no_addresses : (n : ℕ) (text : List ℕ) → is_ok (addresses_of n text) ≡ false → (addresses : List Address) → 0 < n → length addresses ≡ n → AllByRecursion IsAddress addresses
    → ¬ (text ≡ addresses_text addresses)
no_addresses n text fails addresses some count each is = let read = addresses_read n text addresses some count each is in cc

-- where their reading begins
pub starts : (n : ℕ) (text : List ℕ) (rest : Option (List ℕ)) → rest ≡ Some text → left Address 44 address_of n 0 rest ≡ addresses_of n text
unfolding addresses_of
starts n text rest is =
    let whole : n - 0 ≡ n = omega arith in
    ap (left Address 44 address_of n 0) is ∙ ap (λ (k : ℕ). parts_of 44 address_of k (Some text)) whole

-- ---- how many there are, as the commas show

one_more : (b : ℕ) (bs : List ℕ) → commas (b ∷ bs) ≡ cond (b == 44) 1 0 + commas bs
one_more b bs = sum_by-cons (λ (x : ℕ). cond (x == 44) 1 0) b bs

no_comma_in : (b : ℕ) → IsTrue (apart 44 b) → cond {A = ℕ} (b == 44) 1 0 ≡ 0
no_comma_in b h = grind (arith, nat_tests)

-- text without a comma adds none
commas_after : (text rest : List ℕ) → IsTrue (list_all (apart 44) text) → commas (text ++ rest) ≡ commas rest
commas_after [] rest h = refl
commas_after (b ∷ bs) rest h =
    let parts = both (apart 44 b) (list_all (apart 44) bs) h in
    one_more b (bs ++ rest) ∙ omega (arith, no_comma_in b parts.0, commas_after bs rest parts.1)

pub commas_between : (addresses : List Address) → 1 ≤ length addresses → AllByRecursion IsAddress addresses → commas (addresses_text addresses) + 1 ≡ length addresses
commas_between [] some each = absurd (omega arith)
commas_between (a ∷ []) some each =
    ap (λ (t : List ℕ). commas t + 1) (sym (append-nil (address_text a))) ∙ ap (λ (n : ℕ). n + 1) (commas_after (address_text a) [] (address_apart a each.0))
commas_between (a ∷ b ∷ more) some each =
    let rest = commas_between (b ∷ more) (omega arith) each.1 in
    let first : commas (address_text a ++ 44 ∷ addresses_text (b ∷ more)) ≡ commas (44 ∷ addresses_text (b ∷ more)) = commas_after (address_text a) _ (address_apart a each.0) in
    omega (arith, first, one_more 44 (addresses_text (b ∷ more)), rest)
