-- Calm schedules: each message comes once, in order and before anything else happens; no timer rings, and no time
-- passes.
use Rattle.std.specs.Prelude.{ℕ, zero, suc, ◌≤◌, ◌<◌, nat_le, List, [], ◌∷◌, ◌++◌, length, map, Option, Some, None, if◌then◌else◌}
use Rattle.std.specs.List.{AllByRecursion, filter_map, flat_map, range_with_len}
use Rattle.mon_bytes.specs.declared.command.Command.{Command}
use Rattle.mon_bytes.specs.declared.command.Command.TheVariants as command
use Rattle.mon_wire.specs.declared.request.Request.{Request}
use Rattle.mon_wire.specs.declared.request.Request.TheVariants as request
use Rattle.mon_wire.specs.declared.request.Service.TheVariants as service
use Rattle.mon_wire.specs.declared.request.Session.{Session}
use Rattle.log_model.specs.LogOfValues.{IsCommand}
use Rattle.quorum_model.specs.Monitors.{Monitors, classic}
use Rattle.quorum_model.specs.Runs.{run, run_from}
use Rattle.quorum_model.specs.World.{World, Event, Arrives, Start, Deliver, Client}

-- a command, and the rank that is asked
abbrev pub Order : Type 0
Order = ℕ × Command

-- the commands that may come to n monitors, of which there are 1 to 15
pub record OrdersFit (n : ℕ) (cs : List Order) : Type 0 where
  pub some : 1 ≤ n
  pub most : n ≤ 15
  pub short : length cs ≤ 100000
  pub each : AllByRecursion (λ (c : Order). (c.0 < n) × IsCommand c.1) cs

abbrev pub request_of : Command → Request
request_of (command.Set key value) = request.Set key value
request_of (command.Remove key) = request.Remove key
request_of (command.Log text) = request.Log text

-- the j-th session of the one client
abbrev pub session : (j : ℕ) → Session
session j = record { client = 1; id = j }

-- what it asks a monitor in that session
abbrev pub asks : (j rank : ℕ) → Request → Event
asks j rank r = Arrives (Client rank 0 (session j) r)

-- the numbers of the messages that events deliver, in order
abbrev pub number_delivered : Event → Option ℕ
number_delivered (Arrives (Deliver k at)) = Some k
number_delivered other = None

abbrev pub numbers_delivered : List Event → List ℕ
numbers_delivered events = filter_map number_delivered events

-- ---- deliveries

-- Delivers each message from number k on, in order, until none is undelivered: those that were sent before, and those
-- that these deliveries send. There are at most `most` deliveries.
unfoldable pub deliveries : Monitors → (most k : ℕ) → World → List Event
deliveries ms zero k w = []
deliveries ms (suc most) k w =
    if nat_le k (length w.messages)
    then Arrives (Deliver k 0) ∷ deliveries ms most (suc k) (run_from ms w (Arrives (Deliver k 0) ∷ []))
    else []

-- A bound on the deliveries after the starts, or after one command: 15 monitors send fewer messages. It is no
-- assumption, for `IsCalm` says that each message was delivered.
abbrev pub most_sent : ℕ
most_sent = 1000

-- the events so far, more events, and then each message that wasn't delivered yet
abbrev pub then_delivered : Monitors → List Event → List Event → List Event
then_delivered ms before more =
    let events = before ++ more in
    events ++ deliveries ms most_sent (suc (length (numbers_delivered before))) (run ms events)

-- ---- the schedule

-- all monitors start
abbrev pub starts : Monitors → List Event
starts ms = then_delivered ms [] (map (λ i. Arrives (Start i 0)) (range_with_len 0 ms.count))

-- Then each command comes in a session of its own. The first of these commands comes in the j-th session.
unfoldable pub asks_all : Monitors → (j : ℕ) → List Event → List Order → List Event
asks_all ms j before [] = before
asks_all ms j before (c ∷ cs) = asks_all ms (suc j) (then_delivered ms before (asks j c.0 (request_of c.1) ∷ [])) cs

abbrev pub orders : Monitors → List Order → List Event
orders ms cs = asks_all ms 1 (starts ms) cs

-- at the end each monitor shows both maps, all in one more session
abbrev pub shows : (j n : ℕ) → List Event
shows j n =
    flat_map (λ i. asks j i (request.Show service.Kv) ∷ asks j i (request.Show service.Log) ∷ []) (range_with_len 0 n)

-- the schedule of n monitors under the classic rule
abbrev pub calm_schedule : (n : ℕ) → n ≤ 15 → List Order → List Event
calm_schedule n most cs = orders (classic n most) cs ++ shows (suc (length cs)) n
