-- Parsing a first line accepts exactly its texts.
use Rattle.std.proofs.Common.{◌≡◌, ℕ, zero, suc, ◌+◌, ◌^◌, ◌<◌, ◌≤◌, Bool, cond, not, eqb, List, ◌∷◌, ◌++◌, Option, Some, None, Result, Ok, Err, IsTrue, codes, refl, sym, ap, subst, ◌∙◌, arith, inl, inr, lit<}
use Rattle.std.specs.Prelude.{is_some}
use Rattle.std.specs.Fmt.{decimal}
use Rattle.std.specs.List.{list_all}
use Rattle.std.specs.Str.{bytes_eq}
use Rattle.std.proofs.lemmas.Fmt.{digits_decimal}
use Rattle.election_rules.specs.declared.rule.Rule.{Rule}
use Rattle.election_rules.specs.declared.rule.Rule.TheVariants.{Classic, Disallow, Connectivity}
use Rattle.mon_bytes.specs.Texts.{graphic}
use Rattle.mon_types.specs.Ranks.{has}
use Rattle.schedule_text.specs.declared.refusal.ScheduleKind.{ScheduleKind}
use Rattle.schedule_text.specs.declared.refusal.ScheduleKind.TheVariants as kind
use Rattle.schedule_text.specs.Words.{printable}
use Rattle.schedule_text.specs.Fields.{◌>>=◌, cut, digit, next, ended, field_at, within}
use Rattle.schedule_text.specs.Ranks.{separated, ranks_from, ranks_text, set_of}
use Rattle.schedule_text.specs.Encoding.{spaced, rule_text, header, RuleFits}
use Rattle.schedule_text.specs.Schedule.{disallow_of, connectivity_of, rule_of, monitors_at, header_at}
use Rattle.mon_bytes.proofs.Fields.{ok_is}
use Rattle.mon_bytes.proofs.Formats.{bind_ok}
use Rattle.schedule_text.proofs.Numerals.{own}
use Rattle.schedule_text.proofs.FieldLaws.{list_all-weaker, list_all-append, digit_graphic, cut_joined, cut_again, Reads-then, Reads-last, next_reads, IsWord, IsWord-printable, next_again, number_form, chosen_word, last_word, field_step, field_again, ended_takes}
use Rattle.schedule_text.proofs.RankLaws.{cases_true, joined-separated, set_takes, set_again}

-- ---- parsed, and then printed

-- a word and what follows its equals sign
with_ranks : (field : List ℕ) (word : List ℕ) → (cut 61 field).0 ≡ word → field ≡ word ++ separated 61 (cut 61 field).1
with_ranks field word same =
    sym (cut_joined 61 field) ∙ joined-separated 61 (cut 61 field).0 (cut 61 field).1 ∙ ap (λ (w : List ℕ). w ++ separated 61 (cut 61 field).1) same

abbrev pub Encodes : ℕ → List ℕ → Rule → Type 0
Encodes n field rule = (field ≡ rule_text rule) × RuleFits n rule

classic_takes : (n : ℕ) (field : List ℕ) (rule : Rule) → (cut 61 field).0 ≡ codes "classic" → ended (cut 61 field).1 Classic ≡ Ok rule → Encodes n field rule
classic_takes n field rule same e =
    let end = ended_takes (cut 61 field).1 Classic rule e in
    subst (Encodes n field) end.1 (with_ranks field (codes "classic") same ∙ ap (λ (a : Option (List ℕ)). codes "classic" ++ separated 61 a) end.0, tt)

is_some_of : (ranks : List ℕ) (set : List Bool) → Some ranks ≡ ranks_text set → IsTrue (is_some (ranks_text set))
is_some_of ranks set e = ap (λ (a : Option (List ℕ)). is_some a) (sym e)

disallow_takes : (n : ℕ) (ranks : Option (List ℕ)) (rule : Rule) → disallow_of n ranks ≡ Ok rule → (codes "disallow" ++ separated 61 ranks ≡ rule_text rule) × RuleFits n rule
unfolding disallow_of
disallow_takes n None rule e = absurd cc
disallow_takes n (Some ranks) rule e =
    let a = bind_ok (set_of n (Some ranks)) (λ set. Ok (Disallow set)) rule e in
    let t = set_takes n (Some ranks) a.0 a.1 in
    subst (λ (r : Rule). (codes "disallow" ++ separated 61 (Some ranks) ≡ rule_text r) × RuleFits n r) (ok_is (Disallow a.0) rule a.2)
    (ap (λ (x : Option (List ℕ)). codes "disallow" ++ separated 61 x) t.0, (t.1, is_some_of ranks a.0 t.0))

connectivity_takes : (n : ℕ) (ranks : Option (List ℕ)) (rule : Rule) → connectivity_of n ranks ≡ Ok rule → (codes "connectivity" ++ separated 61 ranks ≡ rule_text rule) × RuleFits n rule
unfolding connectivity_of
connectivity_takes n ranks rule e =
    let a = bind_ok (set_of n ranks) (λ set. Ok (Connectivity set)) rule e in
    let t = set_takes n ranks a.0 a.1 in
    subst (λ (r : Rule). (codes "connectivity" ++ separated 61 ranks ≡ rule_text r) × RuleFits n r) (ok_is (Connectivity a.0) rule a.2)
    (ap (λ (x : Option (List ℕ)). codes "connectivity" ++ separated 61 x) t.0, t.1)

pub rule_takes : (n : ℕ) (field : List ℕ) (rule : Rule) → rule_of n field ≡ Ok rule → Encodes n field rule
unfolding rule_of
rule_takes n field rule e =
    let word = (cut 61 field).0 in
    let ranks = (cut 61 field).1 in
    elim (chosen_word word (codes "classic") (ended ranks Classic) _ rule e) [
      | inl h ↦ classic_takes n field rule h.0 h.1
      | inr h ↦ elim (chosen_word word (codes "disallow") (disallow_of n ranks) _ rule h) [
        | inl h ↦ let t = disallow_takes n ranks rule h.1 in (with_ranks field (codes "disallow") h.0 ∙ t.0, t.1)
        | inr h ↦
            let g = last_word word (codes "connectivity") (connectivity_of n ranks) kind.Header rule h in
            let t = connectivity_takes n ranks rule g.1 in
            (with_ranks field (codes "connectivity") g.0 ∙ t.0, t.1)
      ]
    ]

-- a first line of n monitors under a rule
pub record IsHeader (line : List ℕ) (h : ℕ × Rule) : Type 0 where
  pub text : line ≡ header h.0 h.1
  pub monitors : IsTrue (within 1 15 h.0)
  pub rule : RuleFits h.0 h.1

same_some : (x y : List ℕ) → Some x ≡ Some y → x ≡ y
same_some x y e = cc

-- what is read of a first line is encoded so
pub header_takes : (line : List ℕ) (h : ℕ × Rule) → header_at line ≡ Ok h → IsHeader line h
unfolding header_at monitors_at field_at
header_takes line h e =
    let w = bind_ok (next (Some line)) _ h e in
    let first = next_reads (Some line) w.0.1 w.0.0 w.1 in
    let g = last_word w.0.0 (codes "monitors") (monitors_at w.0.1) kind.Header h w.2 in
    let n = field_step (number_form 1 15 (lit< tt)) w.0.1 _ h g.1 in
    let a = bind_ok (field_at (rule_of n.x) n.after) _ h n.on in
    let b = bind_ok (next n.after) (λ field. rule_of n.x field.0 >>= λ x. Ok (x, field.1)) a.0 a.1 in
    let c = bind_ok (rule_of n.x b.0.0) (λ x. Ok (x, b.0.1)) a.0 b.2 in
    let same = ok_is (c.0, b.0.1) a.0 c.2 in
    let end = ended_takes a.0.1 (n.x, a.0.0) h a.2 in
    let nothing : b.0.1 ≡ None = ap (λ (p : Rule × Option (List ℕ)). p.1) same ∙ end.0 in
    let t = rule_takes n.x b.0.0 c.0 c.1 in
    let rule_on = Reads-last n.after b.0.0 b.0.1 (next_reads n.after b.0.1 b.0.0 b.1) nothing in
    let monitors_on = Reads-then w.0.1 (decimal n.x) n.after b.0.0 n.reads rule_on in
    let all = Reads-then (Some line) w.0.0 w.0.1 _ first monitors_on in
    let is : line ≡ header n.x c.0 =
    same_some line (spaced w.0.0 (spaced (decimal n.x) b.0.0)) all
    ∙ ap (λ (f : List ℕ). spaced f (spaced (decimal n.x) b.0.0)) g.0
    ∙ ap (λ (f : List ℕ). spaced (codes "monitors") (spaced (decimal n.x) f)) t.0 in
    let header_is : (n.x, c.0) ≡ h = ap (λ (p : Rule × Option (List ℕ)). (n.x, p.0)) same ∙ end.1 in
    subst (IsHeader line) header_is (record { text = is; monitors = n.fitting; rule = t.1 })

-- ---- printed, and then parsed

-- a text of graphic bytes
abbrev AllGraphic : List ℕ → Type 0
AllGraphic f = IsTrue (list_all graphic f)

graphic_rank : (separator r : ℕ) (rest : Option (List ℕ)) → IsTrue (graphic separator) → r < 2 ^ 64 → AllGraphic (separated 44 rest) → AllGraphic (separated separator (Some (decimal r ++ separated 44 rest)))
graphic_rank separator r rest h small more =
    rw h (list_all-append graphic (decimal r) (separated 44 rest) (list_all-weaker digit graphic digit_graphic (decimal r) (digits_decimal own r small)) more)

graphic_behind : (separator count r : ℕ) (set : List Bool) → IsTrue (graphic separator) → r + count ≤ 15 → AllGraphic (separated separator (ranks_from count r set))
graphic_behind separator zero r set h le = refl
graphic_behind separator (suc count) r set h le =
    elim (cases_true (has set r)) [
      | inl t ↦ rw t (graphic_rank separator r (ranks_from count (suc r) set) h (omega arith) (graphic_behind 44 count (suc r) set refl (omega arith)))
      | inr f ↦ rw f (graphic_behind separator count (suc r) set h (omega arith))
    ]

pub rule_word : (rule : Rule) → IsWord (rule_text rule)
unfolding ranks_text
rule_word Classic = record { long = omega arith; graphics = refl }
rule_word (Disallow set) = record { long = omega arith; graphics = list_all-append graphic (codes "disallow") (separated 61 (ranks_text set)) refl (graphic_behind 61 15 0 set refl (omega arith)) }
rule_word (Connectivity set) = record { long = omega arith; graphics = list_all-append graphic (codes "connectivity") (separated 61 (ranks_text set)) refl (graphic_behind 61 15 0 set refl (omega arith)) }

cut_word : (word : List ℕ) (ranks : Option (List ℕ)) → IsTrue (list_all (λ b. not (eqb b 61)) word) → cut 61 (word ++ separated 61 ranks) ≡ (word, ranks)
cut_word word ranks h = ap (cut 61) (sym (joined-separated 61 word ranks)) ∙ cut_again 61 word ranks h

disallow_again : (n : ℕ) (ranks : Option (List ℕ)) (set : List Bool) → IsTrue (is_some ranks) → set_of n ranks ≡ Ok set → disallow_of n ranks ≡ Ok (Disallow set)
unfolding disallow_of
disallow_again n None set some e = absurd cc
disallow_again n (Some ranks) set some e = rw e refl

connectivity_again : (n : ℕ) (ranks : Option (List ℕ)) (set : List Bool) → set_of n ranks ≡ Ok set → connectivity_of n ranks ≡ Ok (Connectivity set)
unfolding connectivity_of
connectivity_again n ranks set e = rw e refl

-- a rule by its word, read so far
abbrev by_word : ℕ → List ℕ × Option (List ℕ) → Result Rule ScheduleKind
by_word n parts =
    cond (bytes_eq parts.0 (codes "classic")) (ended parts.1 Classic)
    (cond (bytes_eq parts.0 (codes "disallow")) (disallow_of n parts.1) (cond (bytes_eq parts.0 (codes "connectivity")) (connectivity_of n parts.1) (Err kind.Header)))

rule_by : (n : ℕ) (field : List ℕ) → rule_of n field ≡ by_word n (cut 61 field)
unfolding rule_of
rule_by n field = refl

pub rule_again : (n : ℕ) (rule : Rule) → RuleFits n rule → rule_of n (rule_text rule) ≡ Ok rule
rule_again n Classic fits = rule_by n (codes "classic") ∙ refl
rule_again n (Disallow set) fits =
    rule_by n (rule_text (Disallow set))
    ∙ ap (by_word n) (cut_word (codes "disallow") (ranks_text set) refl)
    ∙ disallow_again n (ranks_text set) set fits.1 (set_again n set fits.0)
rule_again n (Connectivity set) fits =
    rule_by n (rule_text (Connectivity set))
    ∙ ap (by_word n) (cut_word (codes "connectivity") (ranks_text set) refl)
    ∙ connectivity_again n (ranks_text set) set (set_again n set fits)

rule_field : (n : ℕ) (rule : Rule) → RuleFits n rule → field_at (rule_of n) (Some (rule_text rule)) ≡ Ok (rule, None)
unfolding field_at
rule_field n rule fits = rw (next_again (rule_text rule) None (rule_word rule), rule_again n rule fits) refl

-- what is encoded so is read
pub header_again : (n : ℕ) (rule : Rule) → IsTrue (within 1 15 n) → RuleFits n rule → header_at (header n rule) ≡ Ok (n, rule)
unfolding header_at monitors_at
header_again n rule monitors fits =
    rw (field_again (number_form 1 15 (lit< tt)) n (rule_text rule) monitors, rule_field n rule fits) refl

-- a first line has no line feed
pub printable_header : (n : ℕ) (rule : Rule) → IsTrue (within 1 15 n) → IsTrue (list_all printable (header n rule))
printable_header n rule h =
    list_all-append printable (decimal n) (32 ∷ rule_text rule) (IsWord-printable (decimal n) ((number_form 1 15 (lit< tt)).word n h)) (IsWord-printable (rule_text rule) (rule_word rule))
