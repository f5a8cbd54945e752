-- What a link that watches shows of its monitor is true, or lags until the next message that shows a phase.
use Rattle.std.specs.Prelude.{◌≡◌, ◌⊎◌, ◌<◌, ◌&&◌, ◌||◌, ◌==◌, ℕ, Bool, true, false, List, [], ◌∷◌, Some, None, Result, Ok, Err, if◌then◌else◌}
use Rattle.std.specs.List.{list_any}
use Rattle.mon_decode.specs.Headers.{heading, kind_in, same_kind}
use Rattle.mon_msg.specs.Protocol.Phases.{is_member, is_peon, same_phase}
use Rattle.mon_msg.specs.Protocol.Readings.{epoch_of, readings_of}
use Rattle.mon_msg.specs.Protocol.Reaction.{Reaction}
use Rattle.mon_msg.specs.Protocol.State.{State}
use Rattle.mon_msg.specs.declared.input.Input.{Input}
use Rattle.mon_msg.specs.declared.input.Input.TheVariants as input
use Rattle.mon_msg.specs.declared.plan.Sent.{Sent}
use Rattle.mon_msg.specs.declared.plan.Sent.TheVariants as sent
use Rattle.mon_watch.specs.Seen.{after_header, nothing_seen, shows}
use Rattle.mon_watch.specs.declared.seen.Seen.{Seen}
use Rattle.mon_wire.specs.declared.kind.Kind.TheVariants as kind
use Rattle.mon_wire.specs.declared.message.Message.{Message}
use Rattle.mon_wire.specs.declared.phase.Phase.{Phase}
use Rattle.mon_wire.specs.declared.phase.Phase.TheVariants as phase
use Rattle.quorum_laws.specs.Elections.{leader_of}
use Rattle.quorum_model.specs.Events.{AllFit, PlainFits}
use Rattle.quorum_model.specs.Happens.{Stop, happens, is_active, map_after}
use Rattle.quorum_model.specs.Meets.{Meeting, Reacts, meets}
use Rattle.quorum_model.specs.Monitors.{Monitors}
use Rattle.quorum_model.specs.Runs.{run}
use Rattle.quorum_model.specs.World.{Arrives, Event, World, first_world, plain_of, Plain}

-- ---- what is read of what a monitor sends

-- Which messages are read. One that is longer than a datagram is sent in pieces, which aren't read. Of the messages
-- that show a phase, only a LAST may be so long.
abbrev pub ReadsShort : (is_read : Message → Bool) → Type 0
ReadsShort is_read = (m : Message) → same_kind (kind_in m.body) kind.Last ≡ false → is_read m ≡ true

module _ (own : ℕ) (is_read : Message → Bool) where
  abbrev pub after_message : (to : ℕ) → Message → Seen → Seen
  after_message to m s = if is_read m then after_header own to (Some (heading m)) s else s

  abbrev pub after_all : List Sent → Seen → Seen
  after_all [] s = s
  after_all (sent.Message to m ∷ out) s = after_all out (after_message to m s)
  after_all (sent.Reply session r ∷ out) s = after_all out s

-- ---- what that shows of the monitor

-- whether a monitor in the phase `actual` may be seen in the phase `shown`: a leader's messages don't show all its
-- phases
abbrev pub fits : (shown actual : Phase) → Bool
fits phase.Probing p = same_phase p phase.Probing
fits phase.Synchronizing p = same_phase p phase.Synchronizing
fits phase.Electing p = same_phase p phase.Electing
fits phase.Collecting p = same_phase p phase.Collecting || same_phase p phase.Previous
fits phase.Active p = is_active p
fits phase.Peon p = is_peon p
fits shown p = false

-- The watch lags: the monitor hasn't started, or has shown no phase since its start. Or it was seen in an election that
-- is over, and it has shown no phase since.
abbrev pub lags : (shown actual : Phase) → Bool
lags shown p =
    same_phase p phase.Booting || same_phase shown phase.Booting || (same_phase shown phase.Electing && is_member p)

-- What is seen agrees with the monitor's phase and epoch, with who leads its quorum, and from whom it takes a store.
pub record IsShown (own : ℕ) (seen : Seen) (now : ℕ) (s : State) : Type 0 where
  pub shows : fits seen.phase s.phase ≡ true
  pub epoch : seen.epoch ≡ now
  pub leader : seen.leader ≡ if is_member s.phase then Some (leader_of own s) else None
  pub source : same_phase s.phase phase.Synchronizing ≡ true → seen.source ≡ Some s.requester.provider

abbrev pub IsSo : (own : ℕ) → Seen → (epoch : ℕ) → State → Type 0
IsSo own seen epoch s = (lags seen.phase s.phase ≡ true) ⊎ IsShown own seen epoch s

-- ---- a run

module _ (i : ℕ) (is_read : Message → Bool) where
  -- a monitor that starts is watched anew
  abbrev pub seen_before : Input → Seen → Seen
  seen_before input.Start s = nothing_seen
  seen_before came s = s

  -- what is seen of monitor i after an event, if it is up then
  abbrev pub seen_at : Event → Meeting → Seen → Seen
  seen_at (Arrives p) (Reacts rank came (Ok r)) s = if rank == i then after_all i is_read r.sends (seen_before came s) else s
  seen_at e met s = s

  abbrev pub seen_on : (World → Seen) → Seen → Result World Stop → Seen
  seen_on others s (Ok next) = others next
  seen_on others s (Err stop) = s

  -- what is seen of it after events from a world on
  unfoldable pub seen_from : Monitors → World → List Event → Seen → Seen
  seen_from ms w [] s = s
  seen_from ms w (e ∷ es) s = seen_on (λ next. seen_from ms next es (seen_at e (meets ms w (plain_of e)) s)) s (happens ms w e)

-- After any events of two monitors or more, what is seen of a monitor that is up is true, or lags.
abbrev pub WatchIsSo : Type 0
WatchIsSo =
    (ms : Monitors) (events : List Event) → AllFit ms.count events → 1 < ms.count
    → (is_read : Message → Bool) → ReadsShort is_read
    → (i : ℕ) (s : State) → (run ms events).state i ≡ Some s
    → IsSo i (seen_from i is_read ms first_world events nothing_seen) (epoch_of (readings_of ((run ms events).store i))) s

-- ---- how long it lags

module _ (is_read : Message → Bool) where
  -- a message that shows a phase, and is read
  abbrev pub is_seen : Sent → Bool
  is_seen (sent.Message to m) = is_read m && shows (Some (kind_in m.body))
  is_seen (sent.Reply session r) = false

-- The watch lags until the next such message: after an event in which a monitor sends one, what is seen agrees with it.
abbrev pub LagEnds : Type 0
LagEnds =
    (ms : Monitors) (events : List Event) → AllFit ms.count events → 1 < ms.count
    → (is_read : Message → Bool) → ReadsShort is_read
    → (p : Plain) → PlainFits ms.count p → (i : ℕ) (came : Input) (r : Reaction)
    → meets ms (run ms events) p ≡ Reacts i came (Ok r) → list_any (is_seen is_read) r.sends ≡ true
    → IsShown i (after_all i is_read r.sends (seen_before i is_read came (seen_from i is_read ms first_world events nothing_seen)))
    (epoch_of (readings_of (map_after (run ms events) i r))) r.state
