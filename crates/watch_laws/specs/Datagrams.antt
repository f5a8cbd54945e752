-- What a link that watches shows of datagrams.
use Rattle.std.specs.Prelude.{◌≡◌, ◌<◌, ◌||◌, ◌==◌, not, nat_le, ℕ, Bool, List, [], ◌∷◌, ◌++◌, length, map, Some, Result, Ok, Err, if◌then◌else◌}
use Rattle.std.specs.List.{AllByRecursion}
use Rattle.mon_decode.specs.Headers.{kind_in, same_kind}
use Rattle.mon_frag.specs.Pieces.{pieces_of}
use Rattle.mon_frag.specs.declared.cutting.TheConstants.{DATAGRAM}
use Rattle.mon_link.specs.declared.link.Got.{Got}
use Rattle.mon_link.specs.declared.link.Outgoing.{Outgoing}
use Rattle.mon_link.specs.declared.link.Peer.TheVariants.{Client, Monitor}
use Rattle.mon_link.specs.declared.link.Peer.{Peer}
use Rattle.mon_msg.specs.Protocol.Readings.{epoch_of, readings_of}
use Rattle.mon_msg.specs.Protocol.State.{State}
use Rattle.mon_msg.specs.declared.input.Input.TheVariants as input
use Rattle.mon_msg.specs.declared.input.Input.{Input}
use Rattle.mon_msg.specs.declared.plan.Sent.TheVariants as sent
use Rattle.mon_msg.specs.declared.plan.Sent.{Sent}
use Rattle.mon_watch.specs.Traffic.{no_notes, notes_got, notes_sent}
use Rattle.mon_watch.specs.declared.notes.Notes.{Notes}
use Rattle.mon_wire.specs.Message.Whole.{HasText, text}
use Rattle.mon_wire.specs.declared.kind.Kind.TheVariants as kind
use Rattle.mon_wire.specs.declared.message.Message.{Message}
use Rattle.quorum_model.specs.Events.{AllFit}
use Rattle.quorum_model.specs.Happens.{Stop, happens}
use Rattle.quorum_model.specs.Meets.{Meeting, Reacts, meets}
use Rattle.quorum_model.specs.Monitors.{Monitors}
use Rattle.quorum_model.specs.Runs.{run}
use Rattle.quorum_model.specs.World.{Arrives, Event, World, first_world, plain_of}
use Rattle.watch_laws.specs.Watching.{IsSo}

-- A message is read unless it is a LAST that is longer than a datagram.
abbrev pub is_short : Message → Bool
is_short m = not (same_kind (kind_in m.body) kind.Last) || nat_le (length (text m)) DATAGRAM

-- ---- what a link does

pub data Call : Type 0 where
  -- it is given a datagram to send
  Goes : (to : Peer) (bytes : List ℕ) → Call
  -- the link below it gives this, at this time
  Comes : (now : ℕ) (got : Got) → Call

-- what the watch of a monitor notes
abbrev pub noted : (own : ℕ) → List Call → Notes → Notes
noted own [] n = n
noted own (Goes to bytes ∷ calls) n = noted own calls (notes_sent own to bytes n)
noted own (Comes now got ∷ calls) n = noted own calls (notes_got now got n)

abbrev pub to_peer : Peer → List ℕ → Outgoing
to_peer to bytes = record { to = to; bytes = bytes }

-- the datagrams that it is given to send
abbrev pub given : List Call → List Outgoing
given [] = []
given (Goes to bytes ∷ calls) = to_peer to bytes ∷ given calls
given (Comes now got ∷ calls) = given calls

abbrev pub IsToClient : Outgoing → Type 0
IsToClient d = (client : ℕ) × (d.to ≡ Client client)

-- These are the datagrams of what a core sends, in order: of each message, under any numbers of its pieces, and of
-- replies, which go to clients.
abbrev pub AreOf : List Sent → List Outgoing → Type 0
AreOf [] ds = ds ≡ []
AreOf (sent.Message to m ∷ out) ds =
    HasText m
    × ((boot : ℕ) × (seq : ℕ) × (rest : List Outgoing)
    × (ds ≡ map (to_peer (Monitor to)) (pieces_of (text m) boot seq) ++ rest) × AreOf out rest)
AreOf (sent.Reply session r ∷ out) ds =
    (these : List Outgoing) × (rest : List Outgoing) × AllByRecursion IsToClient these
    × (ds ≡ these ++ rest) × AreOf out rest

-- ---- what a monitor's core sent since it started

module _ (i : ℕ) where
  abbrev pub sent_before : Input → List Sent → List Sent
  sent_before input.Start out = []
  sent_before came out = out

  abbrev pub sent_at : Event → Meeting → List Sent → List Sent
  sent_at (Arrives p) (Reacts rank came (Ok r)) out = if rank == i then sent_before came out ++ r.sends else out
  sent_at e met out = out

  abbrev pub sent_on : (World → List Sent) → List Sent → Result World Stop → List Sent
  sent_on others out (Ok next) = others next
  sent_on others out (Err stop) = out

  -- after events from a world on
  unfoldable pub sent_from : Monitors → World → List Event → List Sent → List Sent
  sent_from ms w [] out = out
  sent_from ms w (e ∷ es) out =
      sent_on (λ next. sent_from ms next es (sent_at e (meets ms w (plain_of e)) out)) out (happens ms w e)

-- After any events of two monitors or more, let a link have watched a monitor that is up since it started. Let it have
-- been given the datagrams of what its core sent, while anything arrived. What it shows is true, or lags.
abbrev pub LinkIsSo : Type 0
LinkIsSo =
    (ms : Monitors) (events : List Event) → AllFit ms.count events → 1 < ms.count
    → (i : ℕ) (s : State) → (run ms events).state i ≡ Some s
    → (calls : List Call) → AreOf (sent_from i ms first_world events []) (given calls)
    → IsSo i (noted i calls no_notes).seen (epoch_of (readings_of ((run ms events).store i))) s
