-- Reading events line after line, as a loop does.
use Rattle.std.proofs.Common.{◌≡◌, ◌≢◌, ℕ, ◌+◌, true, false, eqb, List, [], ◌∷◌, ◌++◌, length, Option, Some, None, Result, Ok, Err, refl, sym, ap, subst, ◌∙◌, append_assoc, arith, inl, inr}
use Rattle.std.proofs.lemmas.Bool.{cases_eq}
use Rattle.std.proofs.lemmas.Bool.Decides.{nat_tests}
use Rattle.std.proofs.lemmas.List.{append-nil}
use Rattle.schedule_text.specs.declared.event.Event.{Event}
use Rattle.schedule_text.specs.declared.refusal.ScheduleKind.TheVariants as kind
use Rattle.schedule_text.specs.declared.refusal.ScheduleRefused.{ScheduleRefused}
use Rattle.schedule_text.specs.declared.refusal.ScheduleRefused.TheVariants.{At, OutOfMemory}
use Rattle.schedule_text.specs.Fields.{◌>>=◌, cut}
use Rattle.election_rules.specs.declared.rule.Rule.{Rule}
use Rattle.schedule_text.specs.declared.schedule.Schedule.{Schedule}
use Rattle.schedule_text.specs.Schedule.{onto, lines_of, on_first_line, header_at, event_line_at, events_at, whole_at, Fails}

-- ---- the first line

abbrev pub lines_after : List ℕ → Option (List ℕ) → List (List ℕ) × List ℕ
lines_after f None = ([], f)
lines_after f (Some rest) = (f ∷ (lines_of rest).0, (lines_of rest).1)

onto-lines_after : (b : ℕ) (f : List ℕ) (rest : Option (List ℕ)) → onto b (lines_after f rest) ≡ lines_after (b ∷ f) rest
onto-lines_after b f None = refl
onto-lines_after b f (Some rest) = refl

pub lines_of-cut : (bytes : List ℕ) → lines_of bytes ≡ lines_after (cut 10 bytes).0 (cut 10 bytes).1
lines_of-cut [] = refl
lines_of-cut (b ∷ bs) =
    elim (cases_eq b 10) [
      | inl e ↦ rw e refl
      | inr ne ↦ let t : eqb b 10 ≡ false = grind (arith, nat_tests) in rw t (ap (onto b) (lines_of-cut bs) ∙ onto-lines_after b (cut 10 bs).0 (cut 10 bs).1)
    ]

pub cut_whole : (c : ℕ) (bytes : List ℕ) → (cut c bytes).1 ≡ None → (cut c bytes).0 ≡ bytes
cut_whole c [] e = refl
cut_whole c (b ∷ bs) e =
    elim (cases_eq b c) [
      | inl same ↦ let t : eqb b c ≡ true = grind (arith, nat_tests) in let lost = rw t at e in absurd cc
      | inr ne ↦ let t : eqb b c ≡ false = grind (arith, nat_tests) in let rest = rw t at e in rw t (ap (λ (xs : List ℕ). b ∷ xs) (cut_whole c bs rest))
    ]

-- ---- the loop

-- what was read before, and what is still read
abbrev pub with_front : List Event → Result (List Event) ScheduleRefused → Result (List Event) ScheduleRefused
with_front front read = read >>= λ others. Ok (front ++ others)

regroup : (front : List Event) (event : Event) (read : Result (List Event) ScheduleRefused) → with_front front (read >>= λ others. Ok (event ∷ others)) ≡ with_front (front ++ event ∷ []) read
regroup front event (Ok others) = ap (λ (es : List Event). Ok es) (simp append_assoc)
regroup front event (Err f) = refl

-- the events of the text that is still to be read
abbrev pub left : ℕ → ℕ → List ℕ → Result (List Event) ScheduleRefused
left n count bytes = events_at n count (lines_of bytes).0 (lines_of bytes).1

left-some : (n count : ℕ) (bytes line after : List ℕ) → (cut 10 bytes).0 ≡ line → (cut 10 bytes).1 ≡ Some after
    → left n count bytes ≡ (event_line_at n count line >>= λ event. left n (count + 1) after >>= λ others. Ok (event ∷ others))
unfolding events_at
left-some n count bytes line after f r = rw (lines_of-cut bytes, f, r) refl

pub goes_on : (front : List Event) (n count : ℕ) (bytes line after : List ℕ) (event : Event) (total : Result (List Event) ScheduleRefused) → (cut 10 bytes).0 ≡ line → (cut 10 bytes).1 ≡ Some after
    → event_line_at n count line ≡ Ok event → with_front front (left n count bytes) ≡ total → with_front (front ++ event ∷ []) (left n (count + 1) after) ≡ total
goes_on front n count bytes line after event total f r e so_far =
    let one : with_front front (left n count bytes) ≡ with_front (front ++ event ∷ []) (left n (count + 1) after) = rw (left-some n count bytes line after f r, e) (regroup front event (left n (count + 1) after)) in
    sym one ∙ so_far

pub ends : (e : ScheduleRefused) (front : List Event) (n count : ℕ) (bytes line after : List ℕ) (total : Result (List Event) ScheduleRefused) → (cut 10 bytes).0 ≡ line → (cut 10 bytes).1 ≡ Some after
    → Fails e (event_line_at n count line) → with_front front (left n count bytes) ≡ total → Fails e total
ends OutOfMemory front n count bytes line after total f r h so_far = tt
ends (At l k) front n count bytes line after total f r h so_far =
    let one : with_front front (left n count bytes) ≡ Err (At l k) = rw (left-some n count bytes line after f r, h) refl in
    sym so_far ∙ one

last : (bytes : List ℕ) → (cut 10 bytes).1 ≡ None → lines_of bytes ≡ ([], bytes)
last bytes r = lines_of-cut bytes ∙ rw (r, cut_whole 10 bytes r) refl

pub is_done : (front : List Event) (n count : ℕ) (bytes : List ℕ) (total : Result (List Event) ScheduleRefused) → (cut 10 bytes).1 ≡ None → length bytes ≡ 0 → with_front front (left n count bytes) ≡ total → total ≡ Ok front
unfolding events_at
is_done front n count [] total r empty so_far = sym so_far ∙ ap (λ (es : List Event). Ok es) (append-nil front)
is_done front n count (b ∷ bs) total r empty so_far = absurd (omega arith)

pub is_cut : (front : List Event) (n count : ℕ) (bytes : List ℕ) (total : Result (List Event) ScheduleRefused) → (cut 10 bytes).1 ≡ None → length bytes ≢ 0 → with_front front (left n count bytes) ≡ total → total ≡ Err (At (count + 2) kind.End)
unfolding events_at
is_cut front n count [] total r ne so_far = absurd (ne refl)
is_cut front n count (b ∷ bs) total r ne so_far =
    let one : with_front front (left n count (b ∷ bs)) ≡ Err (At (count + 2) kind.End) = rw (last (b ∷ bs) r) refl in
    sym so_far ∙ one

-- ---- the whole

pub empty_whole : (bytes : List ℕ) → length bytes ≡ 0 → whole_at (lines_of bytes).0 (lines_of bytes).1 ≡ Err (At 1 kind.Header)
unfolding whole_at
empty_whole [] e = refl
empty_whole (b ∷ bs) e = absurd (omega arith)

unfed : (bytes : List ℕ) → length bytes ≢ 0 → whole_at [] bytes ≡ Err (At 1 kind.End)
unfolding whole_at
unfed [] ne = absurd (ne refl)
unfed (b ∷ bs) ne = refl

pub no_first_line : (bytes : List ℕ) → length bytes ≢ 0 → (cut 10 bytes).1 ≡ None → whole_at (lines_of bytes).0 (lines_of bytes).1 ≡ Err (At 1 kind.End)
no_first_line bytes ne r = ap (λ (p : List (List ℕ) × List ℕ). whole_at p.0 p.1) (last bytes r) ∙ unfed bytes ne

abbrev pub made : ℕ × Rule → List Event → Schedule
made header events = record { monitors = header.0; rule = header.1; events = events }

-- the whole by its first line
abbrev pub by_first : List ℕ → List ℕ → Result Schedule ScheduleRefused
by_first first body = on_first_line (header_at first) >>= λ header. left header.0 0 body >>= λ events. Ok (made header events)

pub whole_first : (bytes first body : List ℕ) → (cut 10 bytes).0 ≡ first → (cut 10 bytes).1 ≡ Some body → whole_at (lines_of bytes).0 (lines_of bytes).1 ≡ by_first first body
unfolding whole_at
whole_first bytes first body f r = rw (lines_of-cut bytes, f, r) refl

-- a refusal of the first line, or of a later one, is a refusal of the schedule
pub first_fails : (e : ScheduleRefused) (first body : List ℕ) → Fails e (on_first_line (header_at first)) → Fails e (by_first first body)
first_fails OutOfMemory first body h = tt
first_fails (At l k) first body h = rw h refl

pub rest_fails : (e : ScheduleRefused) (first body : List ℕ) (header : ℕ × Rule) → on_first_line (header_at first) ≡ Ok header → Fails e (left header.0 0 body) → Fails e (by_first first body)
rest_fails OutOfMemory first body header is h = tt
rest_fails (At l k) first body header is h = rw (is, h) refl

pub all_read : (first body : List ℕ) (header : ℕ × Rule) (events : List Event) → on_first_line (header_at first) ≡ Ok header → left header.0 0 body ≡ Ok events → by_first first body ≡ Ok (made header events)
all_read first body header events is h = rw (is, h) refl

pub same_fails : (e : ScheduleRefused) (x y : Result Schedule ScheduleRefused) → x ≡ y → Fails e y → Fails e x
same_fails e x y is h = subst (Fails e) (sym is) h

pub is_none : (n : ℕ) → eqb n 0 ≡ true → n ≡ 0
is_none n h = grind (arith, nat_tests)

pub is_some_length : (n : ℕ) → eqb n 0 ≡ false → n ≢ 0
is_some_length n h = λ e. let t : eqb n 0 ≡ true = grind (arith, nat_tests) in absurd (differ (sym t ∙ h))
  where
    differ : true ≡ false → ⊥
    differ e = cc
