-- A number's schedule has this many events, and a text.
use Rattle.std.proofs.Common.{◌≡◌, ℕ, zero, suc, ◌+◌, ◌-◌, ◌*◌, ◌%◌, ◌^◌, ◌<◌, ◌≤◌, eqb, ltb, [], ◌∷◌, ◌++◌, map, length, IsTrue, Ok, refl, arith, inl, inr, length-append, length-take}
use Rattle.std.specs.List.{list_all, range_with_len}
use Rattle.std.proofs.Math.Nat.{mod-lt}
use Rattle.std.proofs.lemmas.Bool.{cases_lt, cases_eq, cond_both, lt-ltb, le-ltb, eq-eqb, ne_eqb}
use Rattle.std.proofs.lemmas.List.FromFn.{length-map-range_with_len}
use Rattle.mon_wire.specs.declared.request.Request.TheVariants as request
use Rattle.mon_wire.specs.declared.request.Service.TheVariants.{Kv}
use Rattle.rand_pcg.specs.Lcg.{Lcg}
use Rattle.schedule_text.proofs.Lengths.{at_most_20_digits}
use Rattle.schedule_text.specs.Schedule.{schedule_at}
use Rattle.schedule_text.proofs.ScheduleLaws.{schedule_again}
use Rattle.schedule_text.specs.Encoding.{event_fits, event_line, schedule_text, request_fits, request_text, HasText}
use Rattle.schedule_made.specs.Draws.{draw, passed, generator_of}
use Rattle.schedule_made.specs.Made.{MadeEvent, start, deliver, timer, ask, set, command, deliveries, opening, round, rounds, made_event, made_events, later, made_schedule}
use Rattle.schedule_made.proofs.DrawLaws.{draw_small}
use Rattle.schedule_made.proofs.EventLaws.{is_short, short_fits, short_line, start_short, deliver_short, ask_short, timer_short, set_fits, set_short, log_fits, log_short}
use Rattle.schedule_made.proofs.ListLaws.{list_all-append, list_all-take, list_all-weaker, length-flat_map_le}

-- ---- how many

length-deliveries : (first count at : ℕ) → length (deliveries first count at) ≡ count
unfolding deliveries
length-deliveries first count at = length-map-range_with_len (λ message. deliver message at) first count

length-opening : length opening ≡ 33
unfolding opening
length-opening = omega (arith, length-deliveries 1 30 0)

pub length-round : (j : ℕ) (g : Lcg) → length (round j g) ≡ 13
unfolding round
length-round j g = simp length-append (omega (arith, length-deliveries (31 + 10 * j) 10 (1000 * (j + 1))))

length-rounds : (n j : ℕ) (g : Lcg) → length (rounds n j g) ≡ 13 * n
unfolding rounds
length-rounds zero j g = refl
length-rounds (suc n) j g =
    omega (arith, length-append (round j g) (rounds n (suc j) (passed 5 g)), length-round j g, length-rounds n (suc j) (passed 5 g))

length-made_events : (n i next : ℕ) (g : Lcg) → length (made_events n i next g) ≡ n
unfolding made_events
length-made_events zero i next g = refl
length-made_events (suc n) i next g =
    omega (arith, length-made_events n (suc i) (made_event i next g).next (passed (made_event i next g).draws g))

length-later : (number events : ℕ) → events ≤ length (later number events)
unfolding later
length-later number events =
    elim (cases_eq (number % 2) 0) [
      | inl e ↦ rw (eq-eqb (number % 2) 0 e) (omega (arith, length-rounds events 0 (generator_of number)))
      | inr ne ↦ rw (ne_eqb (number % 2) 0 ne) (omega (arith, length-made_events events 34 31 (generator_of number)))
    ]

pub length-made : (number events : ℕ) → length (made_schedule number events).events ≡ events
unfolding made_schedule
length-made number events =
    omega (arith, length-take events (opening ++ later number events), length-append opening (later number events), length-later number events)

-- ---- short lines

deliveries_short : (count first at : ℕ) → 1 ≤ first → first + count ≤ 2 ^ 62 → at ≤ 2 ^ 62 → IsTrue (list_all is_short (map (λ message. deliver message at) (range_with_len first count)))
deliveries_short zero first at one last a = refl
deliveries_short (suc count) first at one last a =
    rw (deliver_short first at one (omega arith) a, deliveries_short count (first + 1) at (omega arith) (omega arith) a) refl

all_deliveries_short : (first count at : ℕ) → 1 ≤ first → first + count ≤ 2 ^ 62 → at ≤ 2 ^ 62 → IsTrue (list_all is_short (deliveries first count at))
unfolding deliveries
all_deliveries_short first count at one last a = deliveries_short count first at one last a

opening_short : IsTrue (list_all is_short opening)
unfolding opening
opening_short =
    rw (start_short 0 0 (omega arith) (omega arith), start_short 1 0 (omega arith) (omega arith), start_short 2 0 (omega arith) (omega arith), all_deliveries_short 1 30 0 (omega arith) (omega arith) (omega arith)) refl

third : (n : ℕ) → n % 3 < 3
third n = mod-lt n (omega arith)

command_short : (g : Lcg) → IsTrue (request_fits (command g)) × (length (request_text (command g)) ≤ 60)
command_short g =
    let y : draw 1 g % 20 < 2 ^ 32 = omega arith in
    elim (cases_lt (draw 0 g % 4) 3) [
      | inl lt ↦ rw (lt-ltb (draw 0 g % 4) 3 lt) (set_fits (draw 1 g % 20) (draw 2 g) y (draw_small 2 g), set_short (draw 1 g % 20) (draw 2 g) y (draw_small 2 g))
      | inr ge ↦ rw (le-ltb (draw 0 g % 4) 3 ge) (log_fits (draw 2 g) (draw_small 2 g), log_short (draw 2 g) (draw_small 2 g))
    ]

round_short : (j : ℕ) (g : Lcg) → j ≤ 2 ^ 32 → IsTrue (list_all is_short (round j g))
unfolding round
round_short j g small =
    let at = 1000 * (j + 1) in
    let first = 31 + 10 * j in
    let asked = command_short g in
    let set : IsTrue (is_short (ask 0 at 1 (j + 1) (command g))) = ask_short 0 at 1 (j + 1) (command g) (omega arith) (omega arith) (omega arith) (omega arith) asked.0 asked.1 in
    let shown : IsTrue (is_short (ask (draw 3 g % 3) at 2 (j + 1) (request.Show Kv))) = ask_short (draw 3 g % 3) at 2 (j + 1) (request.Show Kv) (third (draw 3 g)) (omega arith) (omega arith) (omega arith) refl (omega arith) in
    let again : IsTrue (is_short (deliver (first + 4 + draw 4 g % 2) at)) = deliver_short (first + 4 + draw 4 g % 2) at (omega arith) (omega arith) (omega arith) in
    let inner = list_all-append is_short (deliveries first 10 at) (ask (draw 3 g % 3) at 2 (j + 1) (request.Show Kv) ∷ deliver (first + 4 + draw 4 g % 2) at ∷ [])
    (all_deliveries_short first 10 at (omega arith) (omega arith) (omega arith)) (rw (shown, again) refl) in
    rw (set, inner) refl

rounds_short : (n j : ℕ) (g : Lcg) → n + j ≤ 2 ^ 32 → IsTrue (list_all is_short (rounds n j g))
unfolding rounds
rounds_short zero j g small = refl
rounds_short (suc n) j g small =
    list_all-append is_short (round j g) (rounds n (suc j) (passed 5 g)) (round_short j g (omega arith)) (rounds_short n (suc j) (passed 5 g) (omega arith))

-- ---- what is true of each kind of iteration is true of an iteration

made_event_is : (P : MadeEvent → Type 0) (i next : ℕ) (g : Lcg)
    → P (record { event = deliver next (10 * i); draws = 1; next = next + 1 })
    → P (record { event = deliver (1 + draw 1 g % (next - 1)) (10 * i); draws = 2; next = next })
    → P (record { event = ask (draw 1 g % 3) (10 * i) 3 i (set (draw 2 g % 20) (draw 3 g)); draws = 4; next = next })
    → P (record { event = timer (draw 1 g % 3) (draw 2 g % 11) (10 * i); draws = 3; next = next })
    → P (record { event = start (draw 1 g % 3) (10 * i); draws = 2; next = next })
    → P (made_event i next g)
unfolding made_event
made_event_is P i next g ordered random asked due started =
    cond_both (ltb (draw 0 g % 16) 10) _ _ P (λ _. ordered)
    (λ _. cond_both (ltb (draw 0 g % 16) 12) _ _ P (λ _. random)
    (λ _. cond_both (ltb (draw 0 g % 16) 14) _ _ P (λ _. asked)
    (λ _. cond_both (eqb (draw 0 g % 16) 14) _ _ P (λ _. due) (λ _. started))))

pub next_of_made_event : (i next : ℕ) (g : Lcg) → (next ≤ (made_event i next g).next) × ((made_event i next g).next ≤ next + 1)
next_of_made_event i next g =
    let same : (next ≤ next) × (next ≤ next + 1) = (omega arith, omega arith) in
    made_event_is (λ t. (next ≤ t.next) × (t.next ≤ next + 1)) i next g (omega arith, omega arith) same same same same

made_event_short : (i next : ℕ) (g : Lcg) → 31 ≤ next → next ≤ 2 ^ 40 → i ≤ 2 ^ 40 → IsTrue (is_short (made_event i next g).event)
made_event_short i next g least most small =
    let at = 10 * i in
    let y = draw 1 g in
    let key : draw 2 g % 20 < 2 ^ 32 = omega arith in
    let earlier : y % (next - 1) < next - 1 = mod-lt y (omega arith) in
    made_event_is (λ t. IsTrue (is_short t.event)) i next g
    (deliver_short next at (omega arith) (omega arith) (omega arith))
    (deliver_short (1 + y % (next - 1)) at (omega arith) (omega arith) (omega arith))
    (ask_short (y % 3) at 3 i (set (draw 2 g % 20) (draw 3 g)) (third y) (omega arith) (omega arith) (omega arith)
    (set_fits (draw 2 g % 20) (draw 3 g) key (draw_small 3 g)) (set_short (draw 2 g % 20) (draw 3 g) key (draw_small 3 g)))
    (timer_short (y % 3) (draw 2 g % 11) at (third y) (omega arith))
    (start_short (y % 3) at (third y) (omega arith))

made_events_short : (n i next : ℕ) (g : Lcg) → 31 ≤ next → next + n ≤ 2 ^ 40 → i + n ≤ 2 ^ 40 → IsTrue (list_all is_short (made_events n i next g))
unfolding made_events
made_events_short zero i next g least most small = refl
made_events_short (suc n) i next g least most small =
    let bounds = next_of_made_event i next g in
    rw (
      made_event_short i next g least (omega arith) (omega arith),
      made_events_short n (suc i) (made_event i next g).next (passed (made_event i next g).draws g) (omega (arith, bounds.0)) (omega (arith, bounds.1)) (omega arith),
    ) refl

later_short : (number events : ℕ) → events ≤ 100000 → IsTrue (list_all is_short (later number events))
unfolding later
later_short number events most =
    elim (cases_eq (number % 2) 0) [
      | inl e ↦ rw (eq-eqb (number % 2) 0 e) (rounds_short events 0 (generator_of number) (omega arith))
      | inr ne ↦ rw (ne_eqb (number % 2) 0 ne) (made_events_short events 34 31 (generator_of number) (omega arith) (omega arith) (omega arith))
    ]

made_short : (number events : ℕ) → events ≤ 100000 → IsTrue (list_all is_short (made_schedule number events).events)
unfolding made_schedule
made_short number events most =
    list_all-take is_short events (opening ++ later number events) (list_all-append is_short opening (later number events) opening_short (later_short number events most))

pub made_has_text : (number events : ℕ) → events ≤ 100000 → HasText (made_schedule number events)
unfolding made_schedule
made_has_text number events most =
    let short = made_short number events most in
    let count = length-made number events in
    let lines = length-flat_map_le is_short event_line 160 short_line (made_schedule number events).events short in
    record {
      monitors = refl;
      rule = tt;
      each = list_all-weaker is_short (event_fits 3) short_fits (made_schedule number events).events short;
      count = omega (arith, count);
      bytes = simp length-append (omega (arith, lines, count, at_most_20_digits 3 (omega arith)));
    }

pub made_again : (number events : ℕ) → events ≤ 100000 → schedule_at (schedule_text (made_schedule number events)) ≡ Ok (made_schedule number events)
made_again number events most = schedule_again (made_schedule number events) (made_has_text number events most)
