-- The numbers and the rules that arguments encode.
use Rattle.std.proofs.Common.{◌≡◌, ◌↔◌, ℕ, ◌<◌, ◌≤◌, ◌^◌, Bool, true, false, not, List, Option, Some, None, Ok, Err, IsTrue, decimal, refl, sym, ap, subst, ◌∙◌, arith}
use Rattle.std.specs.Prelude.{IfSome, is_some}
use Rattle.std.proofs.lemmas.Bool.Decides.{nat_tests}
use Rattle.std.proofs.lemmas.Fmt.{decimal_injective}
use Rattle.election_rules.specs.declared.rule.Rule.{Rule}
use Rattle.mon_types.specs.declared.member.Member.{Member}
use Rattle.schedule_text.specs.declared.refusal.ScheduleKind.{ScheduleKind}
use Rattle.schedule_text.specs.Fields.{number_of, within}
use Rattle.schedule_text.specs.Schedule.{rule_of}
use Rattle.schedule_text.specs.Encoding.{RuleFits, rule_text}
use Rattle.schedule_text.proofs.FieldLaws.{number_form}
use Rattle.schedule_text.proofs.HeaderLaws.{rule_again}
use Rattle.task_words.specs.Words.{Parses, Reflects}

pub within_is : (least most n : ℕ) → least ≤ n → n ≤ most → IsTrue (within least most n)
within_is least most n low high = grind (arith, nat_tests)

pub is_within : (least most n : ℕ) → IsTrue (within least most n) → (least ≤ n) × (n ≤ most)
is_within least most n h =
    let low : least ≤ n = grind (arith, nat_tests) in
    let high : n ≤ most = grind (arith, nat_tests) in
    (low, high)

pub number_is : (least most n : ℕ) (word : List ℕ) → most < 2 ^ 64 → number_of least most word ≡ Ok n → (word ≡ decimal n) × ((least ≤ n) × (n ≤ most))
number_is least most n word small e =
    let t = (number_form least most small).takes word n e in
    (t.0, is_within least most n t.1)

pub no_number : (least most : ℕ) (word : List ℕ) (kind : ScheduleKind) → most < 2 ^ 64 → number_of least most word ≡ Err kind
    → (n : ℕ) → (least ≤ n) × (n ≤ most) → ¬ (word ≡ decimal n)
no_number least most word kind small e n fits is =
    let reads : number_of least most (decimal n) ≡ Ok n = (number_form least most small).again n (within_is least most n fits.0 fits.1) in
    let fails : number_of least most (decimal n) ≡ Err kind = ap (number_of least most) (sym is) ∙ e in
    cc

pub no_rule : (n : ℕ) (word : List ℕ) (kind : ScheduleKind) → rule_of n word ≡ Err kind → (r : Rule) → RuleFits n r → ¬ (word ≡ rule_text r)
no_rule n word kind e r fits is =
    let reads : rule_of n (rule_text r) ≡ Ok r = rule_again n r fits in
    let fails : rule_of n (rule_text r) ≡ Err kind = ap (rule_of n) (sym is) ∙ e in
    cc

-- a number that is there, and a member that would have to be
pub no_member : (rank monitors : List ℕ) (r n k : ℕ) (o : Option Member) → rank ≡ decimal r → r ≤ 14 → monitors ≡ decimal n → n ≤ 15 → k ≡ r
    → (is_some o ≡ true ↔ (k < n) × (n ≤ 15)) → o ≡ None → (m : Member) → rank ≡ decimal m.rank → monitors ≡ decimal m.monitors → ⊥
no_member rank monitors r n k o rank_is low monitors_is most same valid none m rank_of monitors_of =
    let ranks : r ≡ m.rank = decimal_injective r m.rank (omega arith) (omega (arith, m.most, m.in_map)) (sym rank_is ∙ rank_of) in
    let counts : n ≡ m.monitors = decimal_injective n m.monitors (omega arith) (omega (arith, m.most)) (sym monitors_is ∙ monitors_of) in
    let in_map : k < n = omega (arith, m.in_map) in
    let some : is_some o ≡ true = valid.1 (in_map, most) in
    let lost : is_some o ≡ false = ap (λ (x : Option Member). is_some x) none in
    absurd cc

-- a member that was found, and one that wasn't
pub member_there : (rank monitors : List ℕ) (o : Option Member) (none : Bool) → IfSome o (λ m. (rank ≡ decimal m.rank) × (monitors ≡ decimal m.monitors)) → is_some o ≡ not none → none ≡ false
    → (m : Member) × ((rank ≡ decimal m.rank) × (monitors ≡ decimal m.monitors))
member_there rank monitors (Some m) none some is fails = (m, some)
member_there rank monitors None none some is fails = let lost : false ≡ true = is ∙ ap not fails in absurd cc

pub no_member_there : (o : Option Member) (none : Bool) → is_some o ≡ not none → none ≡ true → o ≡ None
no_member_there (Some m) none is holds = let lost : true ≡ false = is ∙ ap not holds in absurd cc
no_member_there None none is holds = refl

-- ---- a value that was found, and one that wasn't

module _ (A : Type 0) (text : A → List ℕ) (Fits : A → Type 0) (word : List ℕ) where
  pub parsed_some : (found : Option A) (none : Bool) → Parses text Fits found word → is_some found ≡ not none → none ≡ false → (x : A) × ((word ≡ text x) × Fits x)
  parsed_some (Some x) none h is fails = (x, h)
  parsed_some None none h is fails = let lost : false ≡ true = is ∙ ap not fails in absurd cc

  pub parsed_none : (found : Option A) (none : Bool) → Parses text Fits found word → is_some found ≡ not none → none ≡ true → (x : A) → Fits x → ¬ (word ≡ text x)
  parsed_none (Some x) none h is holds = let lost : true ≡ false = is ∙ ap not holds in absurd cc
  parsed_none None none h is holds = h

  -- the last test of several
  pub last_reflects : (found : Option A) (test : Bool) (Fact : Type 0) → Parses text Fits found word → test ≡ is_some found → ((x : A) → Fits x → word ≡ text x → Fact)
      → (((x : A) → Fits x → ¬ (word ≡ text x)) → ¬ Fact) → Reflects test Fact
  last_reflects (Some x) test Fact h is all none = subst (λ (b : Bool). Reflects b Fact) (sym is) (all x h.1 h.0)
  last_reflects None test Fact h is all none = subst (λ (b : Bool). Reflects b Fact) (sym is) (none h)
