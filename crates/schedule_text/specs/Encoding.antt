-- How events and schedules are printed, and which of them have a text that is read.
use Rattle.std.specs.Prelude.{◌≡◌, ℕ, ◌-◌, ◌^◌, ◌≤◌, Bool, true, ◌&&◌, List, [], ◌∷◌, ◌++◌, length, IsTrue, codes, decimal, nat_le, nat_lt, is_some}
use Rattle.std.specs.List.{flat_map, list_all}
use Rattle.election_rules.specs.declared.rule.Rule.{Rule}
use Rattle.election_rules.specs.declared.rule.Rule.TheVariants.{Classic, Disallow, Connectivity}
use Rattle.mon_bytes.specs.Texts.{is_name}
use Rattle.mon_types.specs.declared.names.Side.{Side}
use Rattle.mon_wire.specs.declared.request.Request.{Request}
use Rattle.mon_wire.specs.declared.request.Request.TheVariants as request
use Rattle.schedule_text.specs.declared.event.Plain.{Plain}
use Rattle.schedule_text.specs.declared.event.Plain.TheVariants.{Start, Deliver, Timer, Client}
use Rattle.schedule_text.specs.declared.event.Event.{Event}
use Rattle.schedule_text.specs.declared.event.Event.TheVariants as event
use Rattle.schedule_text.specs.declared.schedule.Schedule.{Schedule}
use Rattle.schedule_text.specs.declared.schedule.TheConstants.{MOST_SCHEDULE, MOST_EVENTS}
use Rattle.schedule_text.specs.Words.{printable, service_text, side_text, timer_text}
use Rattle.schedule_text.specs.Fields.{within}
use Rattle.schedule_text.specs.Ranks.{separated, ranks_text, below}

-- ---- the text of an event

-- a field, and the rest of the line after a space
abbrev pub spaced : List ℕ → List ℕ → List ℕ
spaced field rest = field ++ 32 ∷ rest

abbrev pub request_text : Request → List ℕ
request_text (request.Set key value) = spaced (codes "set") (spaced key value)
request_text (request.Remove key) = spaced (codes "remove") key
request_text (request.Log text) = spaced (codes "log") text
request_text (request.Show service) = spaced (codes "show") (service_text service)
request_text (request.Since service version) = spaced (codes "since") (spaced (service_text service) (decimal version))

abbrev pub plain_text : Plain → List ℕ
plain_text (Start rank at) = spaced (codes "start") (spaced (decimal rank) (decimal at))
plain_text (Deliver message at) = spaced (codes "deliver") (spaced (decimal message) (decimal at))
plain_text (Timer rank kind at) = spaced (codes "timer") (spaced (decimal rank) (spaced (timer_text kind) (decimal at)))
plain_text (Client rank at session asked) =
    spaced (codes "client") (spaced (decimal rank) (spaced (decimal at) (spaced (decimal session.client) (spaced (decimal session.id) (request_text asked)))))

-- the text of a crash or a disk's fault after its word: the disk, its call, the image of what it keeps, and the event
abbrev pub injected_text : Side → ℕ → ℕ → Plain → List ℕ
injected_text disk call image plain = spaced (side_text disk) (spaced (decimal call) (spaced (decimal image) (plain_text plain)))

abbrev pub event_text : Event → List ℕ
event_text (event.Plain plain) = plain_text plain
event_text (event.Crash disk call image plain) = spaced (codes "crash") (injected_text disk call image plain)
event_text (event.Fail disk call image plain) = spaced (codes "fail") (injected_text disk call image plain)

-- ---- what has a line, if there are n monitors

abbrev pub request_fits : Request → Bool
request_fits (request.Set key value) = is_name key && list_all printable value
request_fits (request.Remove key) = is_name key
request_fits (request.Log text) = list_all printable text
request_fits (request.Show service) = true
request_fits (request.Since service version) = nat_le version (2 ^ 62)

abbrev pub plain_fits : ℕ → Plain → Bool
plain_fits n (Start rank at) = nat_lt rank n && nat_le at (2 ^ 62)
plain_fits n (Deliver message at) = within 1 (2 ^ 64 - 1) message && nat_le at (2 ^ 62)
plain_fits n (Timer rank kind at) = nat_lt rank n && nat_le at (2 ^ 62)
plain_fits n (Client rank at session asked) =
    nat_lt rank n && (nat_le at (2 ^ 62) && (nat_le session.client (2 ^ 32 - 1) && (nat_le session.id (2 ^ 62) && request_fits asked)))

abbrev pub injected_fits : ℕ → ℕ → ℕ → Plain → Bool
injected_fits n call image plain = within 1 1000 call && (nat_le image 3 && plain_fits n plain)

abbrev pub event_fits : ℕ → Event → Bool
event_fits n (event.Plain plain) = plain_fits n plain
event_fits n (event.Crash disk call image plain) = injected_fits n call image plain
event_fits n (event.Fail disk call image plain) = injected_fits n call image plain

-- ---- the text of a schedule

abbrev pub rule_text : Rule → List ℕ
rule_text Classic = codes "classic"
rule_text (Disallow set) = codes "disallow" ++ separated 61 (ranks_text set)
rule_text (Connectivity set) = codes "connectivity" ++ separated 61 (ranks_text set)

-- the first line
abbrev pub header : ℕ → Rule → List ℕ
header n rule = spaced (codes "monitors") (spaced (decimal n) (rule_text rule))

-- The sets name only ranks below n. A rule that disallows names at least one.
abbrev pub RuleFits : ℕ → Rule → Type 0
RuleFits n Classic = Unit {0}
RuleFits n (Disallow set) = (set ≡ below n set) × IsTrue (is_some (ranks_text set))
RuleFits n (Connectivity set) = set ≡ below n set

-- a line with its line feed
abbrev pub ended_line : List ℕ → List ℕ
ended_line line = line ++ 10 ∷ []

abbrev pub event_line : Event → List ℕ
event_line event = ended_line (event_text event)

abbrev pub schedule_text : Schedule → List ℕ
schedule_text s = ended_line (header s.monitors s.rule) ++ flat_map event_line s.events

abbrev pub most_events : ℕ
most_events = MOST_EVENTS

abbrev pub most_bytes : ℕ
most_bytes = MOST_SCHEDULE

-- the schedules that have a text, which is then read back
pub record HasText (s : Schedule) : Type 0 where
  pub monitors : IsTrue (within 1 15 s.monitors)
  pub rule : RuleFits s.monitors s.rule
  pub each : IsTrue (list_all (event_fits s.monitors) s.events)
  pub count : length s.events ≤ most_events
  pub bytes : length (schedule_text s) ≤ most_bytes
