-- A few monitors that take events one after another, so that what the protocol's definitions say can be seen in runs.
use Rattle.std.proofs.Common.{ℕ, zero, suc, Bool, true, false, List, [], ◌∷◌, ◌++◌, map, Option, Some, None, Result, Ok, Err}
use Rattle.std.specs.Prelude.{slice_set, slice_index_or, nat_lt, ◌==◌, if◌then◌else◌}
use Rattle.std.specs.List.{flat_map}
use Rattle.mon_types.specs.declared.names.Which.{Which}
use Rattle.mon_bytes.specs.declared.entry.Entry.{Entry}
use Rattle.mon_tx.specs.declared.key.Area.{Area}
use Rattle.mon_tx.specs.declared.key.Area.TheVariants as area
use Rattle.mon_tx.specs.declared.key.Key.{Key}
use Rattle.mon_tx.specs.declared.key.Key.TheVariants as key
use Rattle.mon_tx.specs.Map.{number_bytes}
use Rattle.mon_tx.specs.Keys.{area_text, key_text}
use Rattle.mon_wire.specs.declared.body.Body.{Body}
use Rattle.mon_wire.specs.declared.body.Body.TheVariants as body
use Rattle.mon_wire.specs.declared.request.Service.TheVariants as service
use Rattle.mon_msg.specs.declared.input.Input.{Input}
use Rattle.mon_msg.specs.declared.input.Input.TheVariants as input
use Rattle.mon_wire.specs.declared.message.Message.{Message}
use Rattle.mon_wire.specs.declared.phase.Timer.{Timer}
use Rattle.mon_msg.specs.declared.plan.Sent.{Sent}
use Rattle.mon_msg.specs.declared.plan.Sent.TheVariants as sent
use Rattle.mon_wire.specs.declared.reply.Reply.{Reply}
use Rattle.mon_wire.specs.declared.request.Request.{Request}
use Rattle.mon_wire.specs.declared.request.Session.{Session}
use Rattle.mon_msg.specs.declared.view.Me.{Me}
use Rattle.mon_msg.specs.Protocol.Course.{Course}
use Rattle.mon_msg.specs.Protocol.State.{State, booting}
use Rattle.mon_msg.specs.Protocol.Table.{react}
use Rattle.mon_msg.specs.Protocol.Readings.{Readings}

pub data Event : Type 0 where
  Start : (rank : ℕ) → (at : ℕ) → Event
  -- the message of that number, counted from 0
  Deliver : (message : ℕ) → (at : ℕ) → Event
  TimerComes : (rank : ℕ) → (timer : Timer) → (at : ℕ) → Event
  Ask : (rank : ℕ) → (at : ℕ) → (session : Session) → (request : Request) → Event

-- a message, and to whom it goes
pub record Envelope : Type 0 where
  pub to : ℕ
  pub message : Message

pub record World : Type 0 where
  -- what each monitor's store holds, and what it remembers
  pub readings : List Readings
  pub states : List State
  pub envelopes : List Envelope
  pub replies : List (Session × Reply)
  -- a number ran out, or a message was delivered that was never sent
  pub is_stopped : Bool

abbrev pub no_readings : Readings
no_readings = record {
  epoch = None;
  boot = 0;
  last_pn = None;
  promise = None;
  pending_v = 0;
  pending_pn = 0;
  first = 0;
  last = 0;
  marked = false;
  floor = 0;
  record_of = λ v. None;
  row = λ s k. None;
}

abbrev pub readings_at : World → ℕ → Readings
readings_at w r = slice_index_or w.readings r no_readings

abbrev pub state_of : World → ℕ → State
state_of w r = slice_index_or w.states r (booting r)

abbrev pub envelopes_in : List Sent → List Envelope
envelopes_in [] = []
envelopes_in (sent.Message to m ∷ out) = record { to = to; message = m } ∷ envelopes_in out
envelopes_in (sent.Reply session r ∷ out) = envelopes_in out

abbrev pub replies_in : List Sent → List (Session × Reply)
replies_in [] = []
replies_in (sent.Message to m ∷ out) = replies_in out
replies_in (sent.Reply session r ∷ out) = (session, r) ∷ replies_in out

-- the decimal numbers up to 29 as keys are in order
abbrev pub in_key_order : List ℕ
in_key_order = 1 ∷ 10 ∷ 11 ∷ 12 ∷ 13 ∷ 14 ∷ 15 ∷ 16 ∷ 17 ∷ 18 ∷ 19 ∷ 2 ∷ 20 ∷ 21 ∷ 22 ∷ 23 ∷ 24 ∷ 25 ∷ 26 ∷ 27 ∷ 28 ∷ 29 ∷ 3 ∷ 4 ∷ 5 ∷ 6 ∷ 7 ∷ 8 ∷ 9 ∷ []

abbrev pub entry_if : Area → Key → Option (List ℕ) → List Entry
entry_if a k None = []
entry_if a k (Some bytes) = record { prefix = area_text a; key = key_text k; value = bytes } ∷ []

-- what a store with the log's service alone, of at most 29 versions, shares
abbrev pub shared_of : Readings → List Entry
shared_of w =
    flat_map (λ v. entry_if area.Logm (key.Version v) (w.row service.Log (key.Version v))) in_key_order
    ++ (entry_if area.Logm key.FirstCommitted (w.row service.Log key.FirstCommitted)
    ++ (entry_if area.Logm (key.Full 25) (w.row service.Log (key.Full 25))
    ++ (entry_if area.Logm key.FullLatest (w.row service.Log key.FullLatest)
    ++ (entry_if area.Logm key.LastCommitted (w.row service.Log key.LastCommitted)
    ++ (flat_map (λ v. if v == suc w.last then [] else entry_if area.Paxos (key.Version v) (w.record_of v)) in_key_order
    ++ (if nat_lt 0 w.first then entry_if area.Paxos key.FirstCommitted (Some (number_bytes w.first)) else []))))))

abbrev pub shared_for : Body → Readings → List Entry
shared_for (body.GetChunk c p) w = shared_of w
shared_for b w = []

-- `members` are the monitors of the map
module _ (members : List Me) (nobody : Me) where
  abbrev pub me_of : ℕ → Me
  me_of r = slice_index_or members r nobody

  abbrev pub first_world : World
  first_world = record {
    readings = map (λ (me : Me). no_readings) members;
    states = map (λ (me : Me). booting me.member.rank) members;
    envelopes = [];
    replies = [];
    is_stopped = false;
  }

  abbrev pub takes : World → ℕ → Result Course Which → World
  takes w r (Ok x) = record {
    readings = slice_set w.readings r x.readings;
    states = slice_set w.states r x.state;
    envelopes = w.envelopes ++ envelopes_in x.out;
    replies = w.replies ++ replies_in x.out;
    is_stopped = w.is_stopped;
  }
  takes w r (Err e) = record w { is_stopped = true }

  abbrev pub input_to : World → List Entry → ℕ → ℕ → State → Input → World
  input_to w shared r now s i = takes w r (react (me_of r) shared now (readings_at w r) s i)

  abbrev pub envelope_at : List Envelope → ℕ → Option Envelope
  envelope_at [] k = None
  envelope_at (l ∷ ls) zero = Some l
  envelope_at (l ∷ ls) (suc k) = envelope_at ls k

  abbrev pub take_envelope : World → ℕ → Option Envelope → World
  take_envelope w now None = record w { is_stopped = true }
  take_envelope w now (Some l) = input_to w (shared_for l.message.body (readings_at w l.to)) l.to now (state_of w l.to) (input.Deliver l.message)

  abbrev pub happens : Event → World → World
  happens (Start r now) w = input_to w [] r now (booting r) input.Start
  happens (Deliver k now) w = take_envelope w now (envelope_at w.envelopes k)
  happens (TimerComes r t now) w = input_to w [] r now (state_of w r) (input.Timer t)
  happens (Ask r now session request) w = input_to w [] r now (state_of w r) (input.Client session request)

  abbrev pub run : List Event → World → World
  run [] w = w
  run (e ∷ es) w = run es (happens e w)
