-- Parsing a schedule accepts exactly its texts.
use Rattle.std.proofs.Common.{◌≡◌, ℕ, ◌+◌, ◌≤◌, ◌<◌, ◌^◌, Bool, false, not, eqb, leb, ltb, List, [], ◌∷◌, ◌++◌, length, Result, Ok, Err, IfOk, IsTrue, refl, sym, ap, subst, ◌∙◌, append_assoc, arith, inl, inr}
use Rattle.std.specs.List.{flat_map, list_all}
use Rattle.std.proofs.lemmas.Bool.{cases_eq, leb-false, ltb-false, le-ltb}
use Rattle.std.proofs.lemmas.Bool.Decides.{nat_tests}
use Rattle.mon_bytes.proofs.Ascii.{both}
use Rattle.schedule_text.specs.declared.event.Event.{Event}
use Rattle.schedule_text.specs.declared.refusal.ScheduleKind.{ScheduleKind}
use Rattle.schedule_text.specs.declared.refusal.ScheduleKind.TheVariants as kind
use Rattle.schedule_text.specs.declared.refusal.ScheduleRefused.{ScheduleRefused}
use Rattle.schedule_text.specs.declared.refusal.ScheduleRefused.TheVariants.{At, OutOfMemory}
use Rattle.schedule_text.specs.declared.schedule.Schedule.{Schedule}
use Rattle.schedule_text.specs.Words.{printable}
use Rattle.schedule_text.specs.Fields.{◌>>=◌, within}
use Rattle.schedule_text.specs.Lines.{event_at}
use Rattle.schedule_text.specs.Encoding.{event_text, event_fits, header, ended_line, event_line, schedule_text, most_events, most_bytes, HasText}
use Rattle.schedule_text.specs.Schedule.{onto, lines_of, on_line, on_first_line, header_at, event_line_at, events_at, whole_at, schedule_at, Fails, Gives}
use Rattle.mon_bytes.proofs.Fields.{guard_ok, ok_is}
use Rattle.mon_bytes.proofs.Formats.{bind_ok}
use Rattle.schedule_text.proofs.Numerals.{within_most}
use Rattle.schedule_text.proofs.FieldLaws.{list_all-weaker}
use Rattle.schedule_text.proofs.HeaderLaws.{header_takes, header_again, printable_header}
use Rattle.schedule_text.proofs.LineLaws.{event_takes, event_again, printable_event}
use Rattle.schedule_text.proofs.ScheduleLoop.{made}

-- ---- lines

onto-joined : (b : ℕ) (parts : List (List ℕ) × List ℕ) → flat_map ended_line (onto b parts).0 ++ (onto b parts).1 ≡ b ∷ (flat_map ended_line parts.0 ++ parts.1)
onto-joined b ([], tail) = refl
onto-joined b (line ∷ lines, tail) = refl

-- the lines and what follows are the bytes
lines_of-joined : (bytes : List ℕ) → flat_map ended_line (lines_of bytes).0 ++ (lines_of bytes).1 ≡ bytes
lines_of-joined [] = refl
lines_of-joined (b ∷ bs) =
    elim (cases_eq b 10) [
      | inl e ↦ rw e (ap (λ (xs : List ℕ). 10 ∷ xs) (lines_of-joined bs))
      | inr ne ↦ let t : eqb b 10 ≡ false = grind (arith, nat_tests) in rw t (onto-joined b (lines_of bs) ∙ ap (λ (xs : List ℕ). b ∷ xs) (lines_of-joined bs))
    ]

abbrev no_feed : ℕ → Bool
no_feed b = not (eqb b 10)

abbrev IsLine : List ℕ → Type 0
IsLine line = IsTrue (list_all no_feed line)

no_feed_is : (b : ℕ) → IsTrue (no_feed b) → eqb b 10 ≡ false
no_feed_is b h = grind (arith, nat_tests)

lines_of-line : (line rest : List ℕ) → IsLine line → lines_of (line ++ 10 ∷ rest) ≡ (line ∷ (lines_of rest).0, (lines_of rest).1)
lines_of-line [] rest h = refl
lines_of-line (b ∷ bs) rest h =
    let parts = both (no_feed b) (list_all no_feed bs) h in
    rw (no_feed_is b parts.0, lines_of-line bs rest parts.1) refl

printable_no_feed : (b : ℕ) → IsTrue (printable b) → IsTrue (no_feed b)
printable_no_feed b h = grind (arith, nat_tests)

IsLine-printable : (line : List ℕ) → IsTrue (list_all printable line) → IsLine line
IsLine-printable line h = list_all-weaker printable no_feed printable_no_feed line h

-- ---- events

on_line_ok : {A : Type 0} (line : ℕ) (r : Result A ScheduleKind) (x : A) → on_line line r ≡ Ok x → r ≡ Ok x
on_line_ok line (Ok y) x e = let same : y ≡ x = cc in ap (λ z. Ok z) same
on_line_ok line (Err k) x e = absurd cc

lt-leb : (a b : ℕ) → b < a → leb a b ≡ false
lt-leb a b lt = grind (arith, nat_tests)

line_takes : (n count : ℕ) (line : List ℕ) (event : Event) → n < 2 ^ 64 → event_line_at n count line ≡ Ok event → (line ≡ event_text event) × IsTrue (event_fits n event) × (count < most_events)
unfolding event_line_at
line_takes n count line event small e =
    let g = guard_ok (leb most_events count) (At (count + 2) kind.TooMany) (on_line (count + 2) (event_at n line)) event e in
    let t = event_takes n line event small (on_line_ok (count + 2) (event_at n line) event g.1) in
    (t.0, t.1, leb-false _ _ g.0)

line_again : (n count : ℕ) (event : Event) → n < 2 ^ 64 → IsTrue (event_fits n event) → count < most_events → event_line_at n count (event_text event) ≡ Ok event
unfolding event_line_at
line_again n count event small fits lt = rw (lt-leb _ _ lt, event_again n event small fits) refl

-- what events_at reads
record Takes (n count : ℕ) (lines : List (List ℕ)) (tail : List ℕ) (es : List Event) : Type 0 where
  text : flat_map ended_line lines ++ tail ≡ flat_map event_line es
  each : IsTrue (list_all (event_fits n) es)
  total : count ≤ most_events → count + length es ≤ most_events

events_takes : (n count : ℕ) (lines : List (List ℕ)) (tail : List ℕ) (es : List Event) → n < 2 ^ 64 → events_at n count lines tail ≡ Ok es → Takes n count lines tail es
unfolding events_at
events_takes n count [] [] es small e =
    subst (Takes n count [] []) (ok_is [] es e) (record { text = refl; each = refl; total = λ h. omega arith })
events_takes n count [] (b ∷ tail) es small e = absurd cc
events_takes n count (line ∷ lines) tail es small e =
    let a = bind_ok (event_line_at n count line) (λ event. events_at n (count + 1) lines tail >>= λ others. Ok (event ∷ others)) es e in
    let b = bind_ok (events_at n (count + 1) lines tail) (λ others. Ok (a.0 ∷ others)) es a.2 in
    let first = line_takes n count line a.0 small a.1 in
    let others = events_takes n (count + 1) lines tail b.0 small b.1 in
    subst (Takes n count (line ∷ lines) tail) (ok_is (a.0 ∷ b.0) es b.2) (record {
      text = append_assoc (ended_line line) (flat_map ended_line lines) tail ∙ ap (λ (xs : List ℕ). ended_line line ++ xs) others.text ∙ ap (λ (l : List ℕ). ended_line l ++ flat_map event_line b.0) first.0;
      each = rw (first.1, others.each) refl;
      total = λ h. omega (arith, others.total (omega (arith, first.2)));
    })

events_again : (n count : ℕ) (es : List Event) → n < 2 ^ 64 → IsTrue (list_all (event_fits n) es) → count + length es ≤ most_events
    → events_at n count (lines_of (flat_map event_line es)).0 (lines_of (flat_map event_line es)).1 ≡ Ok es
unfolding events_at
events_again n count [] small each total = refl
events_again n count (event ∷ es) small each total =
    let parts = both (event_fits n event) (list_all (event_fits n) es) each in
    let split : lines_of (flat_map event_line (event ∷ es)) ≡ (event_text event ∷ (lines_of (flat_map event_line es)).0, (lines_of (flat_map event_line es)).1) =
    ap lines_of (append_assoc (event_text event) (10 ∷ []) (flat_map event_line es)) ∙ lines_of-line (event_text event) (flat_map event_line es) (IsLine-printable (event_text event) (printable_event n event small parts.0)) in
    let others = events_again n (count + 1) es small parts.1 (omega arith) in
    rw (split, line_again n count event small parts.0 (omega arith), others) refl

-- ---- the schedule

on_first_ok : {A : Type 0} (r : Result A ScheduleKind) (x : A) → on_first_line r ≡ Ok x → r ≡ Ok x
on_first_ok (Ok y) x e = let same : y ≡ x = cc in ap (λ z. Ok z) same
on_first_ok (Err k) x e = absurd cc

few_monitors : (n : ℕ) → IsTrue (within 1 15 n) → n < 2 ^ 64
few_monitors n h = let le = within_most 1 15 n h in omega arith

-- what the lines give, but for the length of the text
record Whole (text : List ℕ) (s : Schedule) : Type 0 where
  text-is : text ≡ schedule_text s
  form : length (schedule_text s) ≤ most_bytes → HasText s

whole_takes : (lines : List (List ℕ)) (tail : List ℕ) (s : Schedule) → whole_at lines tail ≡ Ok s → Whole (flat_map ended_line lines ++ tail) s
unfolding whole_at
whole_takes [] [] s e = absurd cc
whole_takes [] (b ∷ tail) s e = absurd cc
whole_takes (first ∷ lines) tail s e =
    let a = bind_ok (on_first_line (header_at first)) (λ h. events_at h.0 0 lines tail >>= λ events. Ok (made h events)) s e in
    let b = bind_ok (events_at a.0.0 0 lines tail) (λ events. Ok (made a.0 events)) s a.2 in
    let h = header_takes first a.0 (on_first_ok (header_at first) a.0 a.1) in
    let t = events_takes a.0.0 0 lines tail b.0 (few_monitors a.0.0 h.monitors) b.1 in
    subst (Whole (flat_map ended_line (first ∷ lines) ++ tail)) (ok_is (made a.0 b.0) s b.2) (record {
      text-is = append_assoc (ended_line first) (flat_map ended_line lines) tail ∙ ap (λ (xs : List ℕ). ended_line first ++ xs) t.text ∙ ap (λ (l : List ℕ). ended_line l ++ flat_map event_line b.0) h.text;
      form = λ short. record { monitors = h.monitors; rule = h.rule; each = t.each; count = omega (arith, t.total (omega arith)); bytes = short };
    })

-- what is read from bytes is encoded so
pub schedule_takes : (bytes : List ℕ) (s : Schedule) → schedule_at bytes ≡ Ok s → HasText s × (bytes ≡ schedule_text s)
unfolding schedule_at
schedule_takes bytes s e =
    let g = guard_ok (ltb most_bytes (length bytes)) (At 0 kind.TooLong) (whole_at (lines_of bytes).0 (lines_of bytes).1) s e in
    let short : length bytes ≤ most_bytes = ltb-false _ _ g.0 in
    let t = whole_takes (lines_of bytes).0 (lines_of bytes).1 s g.1 in
    let text : bytes ≡ schedule_text s = sym (lines_of-joined bytes) ∙ t.text-is in
    (t.form (subst (λ (xs : List ℕ). length xs ≤ most_bytes) text short), text)

-- what is encoded so is read
pub schedule_again : (s : Schedule) → HasText s → schedule_at (schedule_text s) ≡ Ok s
unfolding schedule_at whole_at
schedule_again s h =
    let short : ltb most_bytes (length (schedule_text s)) ≡ false = le-ltb _ _ h.bytes in
    let first = header s.monitors s.rule in
    let body = flat_map event_line s.events in
    let split : lines_of (schedule_text s) ≡ (first ∷ (lines_of body).0, (lines_of body).1) =
    ap lines_of (append_assoc first (10 ∷ []) body) ∙ lines_of-line first body (IsLine-printable first (printable_header s.monitors s.rule h.monitors)) in
    rw (short, split, header_again s.monitors s.rule h.monitors h.rule, events_again s.monitors 0 s.events (few_monitors s.monitors h.monitors) h.each (omega (arith, h.count))) refl

abbrev answered : Schedule → Result Schedule ScheduleRefused
answered s = Ok s

-- what a refusal says of bytes that are encoded so
pub answers : (e : ScheduleRefused) (s : Schedule) → HasText s → (bytes : List ℕ) → bytes ≡ schedule_text s → Fails e (schedule_at bytes) → Fails e (answered s)
answers OutOfMemory s h bytes is fails = tt
answers (At line kind) s h bytes is fails = sym (schedule_again s h) ∙ ap schedule_at (sym is) ∙ fails

-- what a call shows that answered what reading gives
pub read_found : (bytes : List ℕ) (r : Result Schedule ScheduleRefused) → Gives (λ s. s) r (schedule_at bytes) → IfOk r (λ s. HasText s × (bytes ≡ schedule_text s))
read_found bytes (Ok s) e = schedule_takes bytes s e
read_found bytes (Err e) h = tt

pub read_only : (bytes : List ℕ) (r : Result Schedule ScheduleRefused) → Gives (λ s. s) r (schedule_at bytes) → (s : Schedule) → HasText s → bytes ≡ schedule_text s → Gives (λ s. s) r (answered s)
read_only bytes (Ok read) e s h is = sym (schedule_again s h) ∙ ap schedule_at (sym is) ∙ e
read_only bytes (Err e) fails s h is = answers e s h bytes is fails
