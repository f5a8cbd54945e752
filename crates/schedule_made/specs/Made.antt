-- The schedule of a number. A generator represents the draws to come.
use Rattle.std.specs.Prelude.{ℕ, zero, suc, ◌+◌, ◌-◌, ◌*◌, ◌%◌, ◌==◌, List, [], ◌∷◌, ◌++◌, map, take, codes, decimal, nat_lt, if◌then◌else◌}
use Rattle.std.specs.List.{range_with_len, slice_index_or}
use Rattle.rand_pcg.specs.Lcg.{Lcg}
use Rattle.election_rules.specs.declared.rule.Rule.TheVariants.{Classic}
use Rattle.mon_wire.specs.declared.phase.TheConstants.Timer.{ALL}
use Rattle.mon_wire.specs.declared.phase.Timer.TheVariants.{Probe}
use Rattle.mon_wire.specs.declared.request.Request.{Request}
use Rattle.mon_wire.specs.declared.request.Request.TheVariants as request
use Rattle.mon_wire.specs.declared.request.Service.TheVariants.{Kv}
use Rattle.schedule_text.specs.declared.event.Plain.TheVariants as plain
use Rattle.schedule_text.specs.declared.event.Event.{Event}
use Rattle.schedule_text.specs.declared.event.Event.TheVariants.{Plain}
use Rattle.schedule_text.specs.declared.schedule.Schedule.{Schedule}
use Rattle.schedule_made.specs.Draws.{generator_of, passed, draw}

-- ---- events

abbrev pub start : ℕ → ℕ → Event
start rank at = Plain (plain.Start rank at)

abbrev pub deliver : ℕ → ℕ → Event
deliver message at = Plain (plain.Deliver message at)

-- the timer of this number, in the order of timers that are due together
abbrev pub timer : ℕ → ℕ → ℕ → Event
timer rank kind at = Plain (plain.Timer rank (slice_index_or ALL kind Probe) at)

abbrev pub ask : ℕ → ℕ → ℕ → ℕ → Request → Event
ask rank at client id asked = Plain (plain.Client rank at (record { client = client; id = id }) asked)

abbrev pub set : ℕ → ℕ → Request
set key value = request.Set (codes "k" ++ decimal key) (codes "v" ++ decimal value)

abbrev pub log : ℕ → Request
log text = request.Log (codes "t" ++ decimal text)

-- this many messages, from this one on, at this time
unfoldable pub deliveries : ℕ → ℕ → ℕ → List Event
deliveries first count at = map (λ message. deliver message at) (range_with_len first count)

-- three monitors start and form a quorum
unfoldable pub opening : List Event
opening = start 0 0 ∷ start 1 0 ∷ start 2 0 ∷ deliveries 1 30 0

-- ---- of an even number: rounds of 13 events, each from five draws

-- the commands: three of four set a key, and the others log a text
abbrev pub command : Lcg → Request
command g = if nat_lt (draw 0 g % 4) 3 then set (draw 1 g % 20) (draw 2 g) else log (draw 2 g)

unfoldable pub round : ℕ → Lcg → List Event
round j g =
    let at = 1000 * (j + 1) in
    let first = 31 + 10 * j in
    ask 0 at 1 (j + 1) (command g)
    ∷ (deliveries first 10 at
    ++ ask (draw 3 g % 3) at 2 (j + 1) (request.Show Kv)
    ∷ deliver (first + 4 + draw 4 g % 2) at ∷ [])

-- this many rounds, from round j on
unfoldable pub rounds : ℕ → ℕ → Lcg → List Event
rounds zero j g = []
rounds (suc n) j g = round j g ++ rounds n (suc j) (passed 5 g)

-- ---- of an odd number: events in a random order

-- an event, how many draws it takes, and which message is the next in order after it
pub record MadeEvent : Type 0 where
  pub event : Event
  pub draws : ℕ
  pub next : ℕ

-- event i, where this message is the next in order: its kind, by the first draw modulo 16
unfoldable pub made_event : ℕ → ℕ → Lcg → MadeEvent
made_event i next g =
    let at = 10 * i in
    let kind = draw 0 g % 16 in
    let y = draw 1 g in
    if nat_lt kind 10 then record { event = deliver next at; draws = 1; next = next + 1 }
    else (if nat_lt kind 12 then record { event = deliver (1 + y % (next - 1)) at; draws = 2; next = next }
    else (if nat_lt kind 14 then record { event = ask (y % 3) at 3 i (set (draw 2 g % 20) (draw 3 g)); draws = 4; next = next }
    else (if kind == 14 then record { event = timer (y % 3) (draw 2 g % 11) at; draws = 3; next = next }
    else record { event = start (y % 3) at; draws = 2; next = next })))

-- this many events, from event i on
unfoldable pub made_events : ℕ → ℕ → ℕ → Lcg → List Event
made_events zero i next g = []
made_events (suc n) i next g =
    let t = made_event i next g in
    t.event ∷ made_events n (suc i) t.next (passed t.draws g)

-- ---- the schedule

-- what follows the opening: at least this many events
unfoldable pub later : ℕ → ℕ → List Event
later number events =
    if number % 2 == 0 then rounds events 0 (generator_of number) else made_events events 34 31 (generator_of number)

unfoldable pub made_schedule : ℕ → ℕ → Schedule
made_schedule number events =
    record { monitors = 3; rule = Classic; events = take events (opening ++ later number events) }
