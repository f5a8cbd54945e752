-- A text that encodes a value is read as that value.
use Rattle.std.proofs.Common.{◌≡◌, ℕ, ◌+◌, ◌<◌, ◌≤◌, ◌^◌, true, false, List, length, Option, Some, None, Result, Ok, Err, decimal, refl, sym, ap, subst, ◌∙◌, arith}
use Rattle.std.specs.Prelude.{IfOk, IfSome, is_ok, is_some, ok_or, option_map}
use Rattle.std.specs.Borrow.{Bor}
use Rattle.std.specs.List.{AllByRecursion}
use Rattle.std.specs.Str.{IsUtf8, is_utf8}
use Rattle.std.proofs.lemmas.Fmt.{decimal_injective}
use Rattle.std.proofs.lemmas.Str.{is_utf8-from_IsUtf8}
use Rattle.clap.specs.Words.{Text, first_value, found_of, rows_of}
use Rattle.clap.specs.declared.parser.matches.ArgMatches.{ArgMatches}
use Rattle.clap.proofs.WalkLemmas.{first_value-rows}
use Rattle.election_rules.specs.declared.rule.Rule.{Rule}
use Rattle.mon_link.specs.declared.udp.Address.{Address}
use Rattle.mon_types.specs.declared.member.Member.{Member}
use Rattle.mon_wire.specs.declared.request.Service.{Service}
use Rattle.schedule_text.specs.Encoding.{RuleFits, rule_text}
use Rattle.schedule_text.specs.Words.{service_text}
use Rattle.task_words.specs.declared.task.WordsStop.{WordsStop}
use Rattle.task_words.specs.declared.task.WordsStop.TheVariants.{Refused, OutOfMemory}
use Rattle.task_words.specs.Addresses.{IsAddress, addresses_of, addresses_text, commas}
use Rattle.task_words.specs.Matches.{IsFound, IsGiven, IsText}
use Rattle.task_words.specs.Words.{Parses}
use Rattle.task_words.proofs.AddressLaws.{addresses_read, commas_between}
use Rattle.mon_types.proofs.Members.{same_member}
use Rattle.task_words.proofs.Unique.{same_rule, same_service}

text_given : (o : Option (Bor (List ℕ))) (r : Result (Bor (List ℕ)) WordsStop) (text : List ℕ) → option_map (λ s. s.now) o ≡ Some text → r ≡ ok_or o Refused → IsText text r
text_given None r text e is = absurd cc
text_given (Some s) r text e is = let same : s.now ≡ text = cc in subst (IsText text) (sym is) same

pub text_found : (m : ArgMatches) (id : Text) (o : Option (Bor (List ℕ))) (r : Result (Bor (List ℕ)) WordsStop) → option_map (λ s. s.now) o ≡ first_value (found_of m) id → r ≡ ok_or o Refused
    → (text : List ℕ) → IsFound (rows_of (found_of m)) id text → IsText text r
text_found m id o r first is text found = text_given o r text (first ∙ first_value-rows (found_of m) id ∙ found) is

-- an argument that encodes a value was read
value_given : (A : Type 0) (text : A → List ℕ) (Fits : A → Type 0) (word : List ℕ) (o : Option A) (r : Result A WordsStop) (x : A)
    → ((y : A) → Fits y → text y ≡ text x → y ≡ x) → Parses text Fits o word → r ≡ ok_or o Refused → Fits x → word ≡ text x → IsGiven x r
value_given A text Fits word (Some y) r x unique parses is fits word_is = subst (IsGiven x) (sym is) (unique y parses.1 (sym parses.0 ∙ word_is))
value_given A text Fits word None r x unique parses is fits word_is = absurd (parses x fits word_is)

pub number_given : (least most : ℕ) (word : List ℕ) (o : Option ℕ) (r : Result ℕ WordsStop) (n : ℕ) → most < 2 ^ 64
    → Parses decimal (λ m. (least ≤ m) × (m ≤ most)) o word → r ≡ ok_or o Refused → least ≤ n → n ≤ most → word ≡ decimal n → IsGiven n r
number_given least most word o r n small parses is low high word_is =
    value_given ℕ decimal (λ m. (least ≤ m) × (m ≤ most)) word o r n (λ m fits same. decimal_injective m n (omega (arith, fits.1)) (omega arith) same) parses is (low, high) word_is

pub rule_given : (n : ℕ) (word : List ℕ) (o : Option Rule) (r : Result Rule WordsStop) (rule : Rule)
    → Parses rule_text (RuleFits n) o word → r ≡ ok_or o Refused → RuleFits n rule → word ≡ rule_text rule → IsGiven rule r
rule_given n word o r rule parses is fits word_is =
    value_given Rule rule_text (RuleFits n) word o r rule (λ other other_fits same. same_rule n other rule other_fits fits same) parses is fits word_is

-- the member that two arguments encode, or that they encode none
pub member_given : (rank monitors : List ℕ) (o : Option Member) (r : Result Member WordsStop) (m : Member)
    → IfSome o (λ k. (rank ≡ decimal k.rank) × (monitors ≡ decimal k.monitors)) → (o ≡ None → (k : Member) → rank ≡ decimal k.rank → monitors ≡ decimal k.monitors → ⊥)
    → r ≡ ok_or o Refused → rank ≡ decimal m.rank → monitors ≡ decimal m.monitors → IsGiven m r
member_given rank monitors (Some k) r m some none is rank_is monitors_is =
    let ranks = decimal_injective k.rank m.rank (omega (arith, k.most, k.in_map)) (omega (arith, m.most, m.in_map)) (sym some.0 ∙ rank_is) in
    let counts = decimal_injective k.monitors m.monitors (omega (arith, k.most)) (omega (arith, m.most)) (sym some.1 ∙ monitors_is) in
    subst (IsGiven m) (sym is) (same_member k m ranks counts)
member_given rank monitors None r m some none is rank_is monitors_is = absurd (none refl m rank_is monitors_is)

pub addresses_given : (n : ℕ) (text : List ℕ) (r : Result (List Address) WordsStop) (addresses : List Address) → IfOk r (λ read. addresses_of n text ≡ Ok read)
    → (r ≡ Err Refused → is_ok (addresses_of n text) ≡ false) → 1 ≤ n → length addresses ≡ n → AllByRecursion IsAddress addresses → text ≡ addresses_text addresses → IsGiven addresses r
addresses_given n text (Ok read) addresses found refused some count each text_is =
    let again = addresses_read n text addresses some count each text_is in
    cc
addresses_given n text (Err Refused) addresses found refused some count each text_is =
    let again = addresses_read n text addresses some count each text_is in
    let lost = refused refl in
    absurd cc
addresses_given n text (Err OutOfMemory) addresses found refused some count each text_is = tt

pub service_given : (word : List ℕ) (o : Option Service) (r : Result Service WordsStop) (service : Service) → Parses service_text (λ _. Unit {0}) o word → r ≡ ok_or o Refused
    → word ≡ service_text service → IsGiven service r
service_given word o r service parses is word_is =
    value_given Service service_text (λ _. Unit {0}) word o r service (λ other _ same. same_service other service same) parses is tt word_is

-- how many addresses there are
pub count_is : (text : List ℕ) (n : ℕ) (addresses : List Address) → n ≡ commas text + 1 → 1 ≤ length addresses → AllByRecursion IsAddress addresses
    → text ≡ addresses_text addresses → length addresses ≡ n
count_is text n addresses count least each text_is = omega (arith, count, commas_between addresses least each, ap commas text_is)

-- there aren't more than fifteen
pub not_many : (text : List ℕ) (addresses : List Address) → 15 ≤ commas text → 1 ≤ length addresses → length addresses ≤ 15 → AllByRecursion IsAddress addresses
    → text ≡ addresses_text addresses → ⊥
not_many text addresses many least most each text_is = omega (arith, many, most, commas_between addresses least each, ap commas text_is)

pub path_given : (path text bytes : List ℕ) (o : Option (List ℕ)) (r : Result (List ℕ) WordsStop) → text ≡ path → IsUtf8 text → bytes ≡ text → is_some o ≡ is_utf8 bytes
    → IfSome o (λ x. x ≡ bytes) → r ≡ ok_or o Refused → IsGiven path r
path_given path text bytes (Some x) r same utf8 copied valid value is = subst (IsGiven path) (sym is) (value ∙ copied ∙ same)
path_given path text bytes None r same utf8 copied valid value is =
    let lost : false ≡ true = valid ∙ ap is_utf8 copied ∙ is_utf8-from_IsUtf8 text utf8 in absurd cc
