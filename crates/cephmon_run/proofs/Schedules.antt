-- The monitors and the events of a schedule that has a text, as the world takes them.
use Rattle.std.proofs.Common.{◌≡◌, ℕ, ◌+◌, ◌≤◌, leb, List, [], ◌∷◌, length, IsTrue, sym, subst, arith, length-append}
use Rattle.std.specs.List.{AllByRecursion, flat_map, list_all}
use Rattle.std.proofs.Math.Bridge.{le_prop}
use Rattle.std.proofs.lemmas.Bool.Decides.{nat_tests}
use Rattle.election_rules.specs.declared.rule.Rule.{Rule}
use Rattle.mon_bytes.proofs.Ascii.{both}
use Rattle.quorum_model.specs.Monitors.{Monitors}
use Rattle.schedule_text.specs.declared.event.Event.{Event}
use Rattle.schedule_text.specs.declared.schedule.Schedule.{Schedule}
use Rattle.schedule_text.specs.Encoding.{HasText, event_fits, event_line, event_text, header, ended_line, most_bytes}
use Rattle.mon_world.specs.Represented.{Fits}
use Rattle.mon_world.proofs.Fitting.{line_fits}

few : (n : ℕ) → IsTrue (leb n 15) → n ≤ 15
few n h = grind (arith, nat_tests)

pub at_most_15 : (s : Schedule) → HasText s → s.monitors ≤ 15
at_most_15 s h = few s.monitors (both (leb 1 s.monitors) (leb s.monitors 15) h.monitors).1

-- ---- its monitors

abbrev pub monitors : (n : ℕ) → n ≤ 15 → Rule → Monitors
monitors n most rule = record { count = n; most = most; rule = rule }

abbrev pub monitors_of : (s : Schedule) → HasText s → Monitors
monitors_of s h = monitors s.monitors (at_most_15 s h) s.rule

same_when : (n m : ℕ) (a : n ≤ 15) (b : m ≤ 15) (r q : Rule) → n ≡ m → r ≡ q → monitors n a r ≡ monitors m b q
same_when n m a b r q e f =
    subst (λ (m : ℕ). (b : m ≤ 15) → monitors n a r ≡ monitors m b q) e (λ b. λ i. monitors n (le_prop a b i) (f i)) b

-- monitors with equal counts and rules are equal
pub same_monitors : (ms others : Monitors) → ms.count ≡ others.count → ms.rule ≡ others.rule → ms ≡ others
same_monitors ms others = same_when ms.count others.count ms.most others.most ms.rule others.rule

-- ---- its events

fits_each : (n : ℕ) (es : List Event) → IsTrue (list_all (event_fits n) es) → length (flat_map event_line es) ≤ most_bytes → AllByRecursion (Fits n) es
fits_each n [] each short = tt
fits_each n (e ∷ es) each short =
    let parts = both (event_fits n e) (list_all (event_fits n) es) each in
    let line : length (event_line e) ≡ length (event_text e) + 1 = length-append (event_text e) (10 ∷ []) in
    let whole : length (flat_map event_line (e ∷ es)) ≡ length (event_line e) + length (flat_map event_line es) =
    length-append (event_line e) (flat_map event_line es) in
    (line_fits n e parts.0 (omega arith), fits_each n es parts.1 (omega arith))

pub all_fit : (s : Schedule) (ms : Monitors) → HasText s → ms.count ≡ s.monitors → AllByRecursion (Fits ms.count) s.events
all_fit s ms h count =
    let lines : length (flat_map event_line s.events) ≤ most_bytes =
    omega (arith, h.bytes, length-append (ended_line (header s.monitors s.rule)) (flat_map event_line s.events)) in
    subst (λ (n : ℕ). AllByRecursion (Fits n) s.events) (sym count) (fits_each s.monitors s.events h.each lines)

-- its first line
pub first_line : (s : Schedule) (ms : Monitors) → ms.count ≡ s.monitors → ms.rule ≡ s.rule → ended_line (header s.monitors s.rule) ≡ ended_line (header ms.count ms.rule)
first_line s ms count rule = λ i. ended_line (header (sym count i) (sym rule i))
