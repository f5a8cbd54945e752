-- What a monitor gets: a timer that is due, or what the link returns.
use Rattle.std.specs.Prelude.{◌≡◌, ℕ, ◌-◌, ◌==◌, ◌&&◌, nat_le, min, not, Bool, true, false, List, Option, Some, None, IfSome, Result, Ok, Err, option_map, if◌then◌else◌}
use Rattle.mon_frag.specs.Keeping.{taken}
use Rattle.mon_frag.specs.Whole.{answer_in, kept_in}
use Rattle.mon_link.specs.Clocks.{Readings, reading, after}
use Rattle.mon_link.specs.Links.{Observed, Answers, next_answer, next_leaves}
use Rattle.mon_link.specs.declared.link.Got.TheVariants.{Datagram, Idle, Closed}
use Rattle.mon_link.specs.declared.link.Got.{Got}
use Rattle.mon_link.specs.declared.link.Peer.TheVariants.{Monitor, Client}
use Rattle.mon_link.specs.declared.link.Peer.{Peer}
use Rattle.mon_msg.specs.declared.input.Input.TheVariants as input
use Rattle.mon_msg.specs.declared.input.Input.{Input}
use Rattle.mon_types.specs.Faults.{risen}
use Rattle.mon_types.specs.declared.names.Stop.TheVariants as stop
use Rattle.mon_types.specs.declared.names.Stop.{Stop}
use Rattle.mon_wire.specs.Message.Whole.{message_of}
use Rattle.mon_wire.specs.declared.body.Body.TheVariants as body
use Rattle.mon_wire.specs.declared.body.Body.{Body}
use Rattle.mon_wire.specs.declared.message.Message.{Message}
use Rattle.mon_wire.specs.declared.phase.Timer.{Timer}
use Rattle.mon_wire.specs.declared.refusal.MsgRefused.{MsgRefused}
use Rattle.mon_node.specs.Nodes.{Outside}
use Rattle.mon_node.specs.declared.end.NodeEnd.TheVariants as end
use Rattle.mon_node.specs.declared.end.NodeEnd.{NodeEnd}
use Rattle.mon_node.specs.declared.hearing.TheConstants.{LONGEST_WAIT}
use Rattle.mon_node.specs.declared.hearing.TimedInput.{TimedInput}

-- ---- timers

-- the timer that comes next, by its time, if it is due by now
abbrev pub due_by : (now : ℕ) → Option (Timer × ℕ) → Option Timer
due_by now None = None
due_by now (Some next) = if nat_le next.1 now then Some next.0 else None

-- how many milliseconds the link is asked to wait: up to that time, and at most a second
abbrev pub wait_until : (now : ℕ) → Option (Timer × ℕ) → ℕ
wait_until now None = LONGEST_WAIT
wait_until now (Some next) = min LONGEST_WAIT (next.1 - now)

-- ---- bytes

abbrev pub is_request : Body → Bool
is_request (body.Request id r) = true
is_request other = false

-- a client asks, and nothing else comes from one
abbrev pub from_client : ℕ → Body → Option Input
from_client client (body.Request id r) = Some (input.Client (record { client = client; id = id }) r)
from_client client other = None

-- a monitor asks for nothing, and its message counts if it names that monitor as its sender
abbrev pub from_monitor : ℕ → Message → Option Input
from_monitor rank m = if (m.from == rank) && not (is_request m.body) then Some (input.Deliver m) else None

abbrev pub from_peer : Peer → Message → Option Input
from_peer (Monitor rank) m = from_monitor rank m
from_peer (Client client) m = from_client client m.body

-- the input that a message from a peer is in a quorum map of n monitors, if it is one
abbrev pub input_of : (n : ℕ) → Peer → Message → Option Input
input_of n from m = if m.monitors == n then from_peer from m else None

abbrev pub input_read : (n : ℕ) → Peer → Result Message MsgRefused → Option Input
input_read n from (Ok m) = input_of n from m
input_read n from (Err e) = None

-- the input that a peer's bytes encode, if there are any and they encode one
abbrev pub input_in : (n : ℕ) → Peer → Option (List ℕ) → Option Input
input_in n from None = None
input_in n from (Some bytes) = input_read n from (message_of bytes)

-- ---- an iteration

-- What an iteration is given: what the clock shows as it begins; what the link returns, if it is asked; and what the clock
-- shows after a datagram came.
pub record Given : Type 0 where
  pub began : ℕ
  pub answer : Result Got Stop
  pub later : ℕ

-- an input, nothing, or the end; and the state of the outside then
pub record Heard : Type 0 where
  pub came : Result (Option TimedInput) NodeEnd
  pub outside : Outside

abbrev pub at_time : ℕ → Input → TimedInput
at_time now came = record { input = came; at = now }

-- the clock was read
abbrev pub clock_read : Outside → Outside
clock_read o = record o { clock = option_map after o.clock }

-- the link was asked
abbrev pub link_asked : (wait : ℕ) → Result Got Stop → Outside → Outside
link_asked wait answer o = record o { link = option_map (next_leaves wait answer) o.link }

-- a datagram came: the clock is read again, and the message that is whole with it may be an input
abbrev pub datagram_arrived : (n later : ℕ) → Peer → List ℕ → Outside → Heard
datagram_arrived n later from bytes o =
    let it = taken o.parts from bytes in
    record {
      came = Ok (option_map (at_time later) (input_in n from (answer_in it)));
      outside = record (clock_read o) { parts = kept_in o.parts it };
    }

abbrev pub answer_arrived : (n later : ℕ) → Result Got Stop → Outside → Heard
answer_arrived n later (Ok (Datagram from bytes)) o = datagram_arrived n later from bytes o
answer_arrived n later (Ok Idle) o = record { came = Ok None; outside = o }
answer_arrived n later (Ok Closed) o = record { came = Err end.Closed; outside = o }
answer_arrived n later (Err stop.Failed) o = record { came = Err end.LinkFault; outside = o }
answer_arrived n later (Err stop.OutOfMemory) o = record { came = Err end.OutOfMemory; outside = o }

-- a timer that is due is the input, and else the link is asked
abbrev pub heard_by : Option Timer → (n wait : ℕ) → Given → Outside → Heard
heard_by (Some t) n wait g o = record { came = Ok (Some (at_time g.began (input.Timer t))); outside = o }
heard_by None n wait g o = answer_arrived n g.later g.answer (link_asked wait g.answer o)

-- by the timer that comes next, and its time
abbrev pub heard : (n : ℕ) → Option (Timer × ℕ) → Given → Outside → Heard
heard n next g o = heard_by (due_by g.began next) n (wait_until g.began next) g (clock_read o)

-- ---- what it is given is what clock and link give, if that can be seen

abbrev pub IsAnswer : Option Observed → Result Got Stop → Type 0
IsAnswer link answer = IfSome link (λ t. Answers answer (next_answer t))

abbrev pub IsReading : Option Readings → ℕ → Type 0
IsReading clock shown = IfSome clock (λ r. shown ≡ reading r)

-- the clock is read again only once a datagram came
abbrev pub IsLater : Option Readings → Result Got Stop → ℕ → Type 0
IsLater clock (Ok (Datagram from bytes)) later = IsReading clock later
IsLater clock (Ok Idle) later = Unit {0}
IsLater clock (Ok Closed) later = Unit {0}
IsLater clock (Err e) later = Unit {0}

pub record AreAnswers (o : Outside) (answer : Result Got Stop) (later : ℕ) : Type 0 where
  pub answer_is : IsAnswer o.link answer
  pub later_is : IsLater o.clock answer later

-- the link is asked only if no timer is due
abbrev pub AreAsked : Option Timer → Given → Outside → Type 0
AreAsked (Some t) g o = Unit {0}
AreAsked None g o = AreAnswers o g.answer g.later

pub record IsGiven (next : Option (Timer × ℕ)) (g : Given) (o : Outside) : Type 0 where
  pub began : IsReading o.clock g.began
  pub rest : AreAsked (due_by g.began next) g (clock_read o)

-- ---- the result and the outside are those of what should be heard, unless memory runs out

abbrev pub Hears : Heard → Result (Option TimedInput) NodeEnd → Outside → Type 0
Hears h (Ok came) o = h ≡ record { came = Ok came; outside = o }
Hears h (Err end.Closed) o = h ≡ record { came = Err end.Closed; outside = o }
Hears h (Err end.LinkFault) o = h ≡ record { came = Err end.LinkFault; outside = o }
Hears h (Err end.OutOfMemory) o = (o.clock ≡ h.outside.clock) × (o.link ≡ h.outside.link)
Hears h (Err other) o = ⊥

-- a link counts a fault if and only if it couldn't receive
abbrev pub faults_at : NodeEnd → ℕ → ℕ
faults_at end.LinkFault faults = risen faults
faults_at other faults = faults

abbrev pub faults_by : {T : Type 0} → Result T NodeEnd → ℕ → ℕ
faults_by (Ok x) faults = faults
faults_by (Err e) faults = faults_at e faults
