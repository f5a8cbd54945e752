-- Commands that are answered in time while a quorum is led, and a quorum in which nobody writes.
use Rattle.mon_bytes.specs.declared.command.Command.{Command}
use Rattle.mon_bytes.specs.declared.command.CommandRefused.{CommandRefused}
use Rattle.mon_msg.specs.Protocol.Commands.{too_long}
use Rattle.mon_msg.specs.Protocol.Proposing.{refusal}
use Rattle.mon_msg.specs.Protocol.Readings.{Readings}
use Rattle.mon_msg.specs.Protocol.Timers.{end_of}
use Rattle.mon_msg.specs.Protocol.Value.{value}
use Rattle.mon_msg.specs.declared.limits.TheConstants.{MOST_WAITING}
use Rattle.mon_types.specs.Ranks.{has}
use Rattle.mon_wire.specs.declared.body.Body.TheVariants as body
use Rattle.mon_wire.specs.declared.body.Body.{Body}
use Rattle.mon_wire.specs.declared.phase.Timer.TheVariants as timer
use Rattle.mon_wire.specs.declared.reply.Reply.TheVariants as reply
use Rattle.mon_wire.specs.declared.reply.Reply.{Reply}
use Rattle.mon_wire.specs.declared.request.Session.{Session}
use Rattle.quorum_model.specs.Meets.{message_at}
use Rattle.quorum_model.specs.World.{Arrives, Client, Envelope, Event, Replied, World}
use Rattle.quorum_stays.specs.Reading.{Reads}
use Rattle.quorum_stays.specs.Steady.{Reign, Round}
use Rattle.quorum_timed.specs.Timed.{Owed, Pace, Timed}
use Rattle.std.specs.List.{AllByRecursion}
use Rattle.std.specs.Prelude.{Bool, Err, IfSome, IsSomeAnd, List, None, [], slice_index_or, true, ℕ, ◌*◌, ◌+◌, ◌++◌, ◌<◌, ◌∷◌, ◌≡◌, ◌≤◌}

-- ---- answers

-- The command was committed as a version, or it wasn't taken: too many wait, it is too long, or its service refuses it.
pub data IsAnswer : Reply → Type 0 where
  is_done : (v : ℕ) → IsAnswer (reply.Done v)
  is_busy : IsAnswer (reply.Busy MOST_WAITING)
  is_long : (c : Command) → IsAnswer (too_long c)
  is_refused : (w : Readings) (c : Command) (asked : ℕ) (e : CommandRefused) → value w c asked ≡ Err e
      → IsAnswer (refusal e)

-- monitor i answered a command of the session between these two worlds
pub record IsServed (before after : World) (i : ℕ) (session : Session) : Type 0 where
  pub earlier : List Replied
  pub answer : Replied
  pub later : List Replied
  pub replied : after.replied ≡ (before.replied ++ earlier) ++ answer ∷ later
  pub rank_is : answer.rank ≡ i
  pub session_is : answer.session ≡ session
  pub answers : IsAnswer answer.reply

-- ---- commands that wait

-- A value in progress was begun before now. While none is in progress and commands wait at the leader, their timer has
-- ended, so the next one is proposed soon.
pub record Attends (pace : Pace) (reign : Reign) (r : Round) (t : Timed) : Type 0 where
  pub begun : IfSome r.next (λ b. b.at ≤ t.time)
  pub soon : r.next ≡ None → IsSomeAnd (t.world.state reign.leader) (λ s. (s.clients.queue ≡ [] → ⊥)
      → IsSomeAnd (end_of timer.Propose s.timers) (λ end. end ≤ t.time + pace.clock reign.leader))

-- The longest time until the leader answers a command: that of a value in progress, and of 64 commands that wait.
-- Before each of these the timer may be late twice, if the leases are renewed meanwhile.
abbrev pub answer_time : Pace → ℕ
answer_time pace = 2 * pace.delay + 64 * (2 * pace.delay + 2 * pace.late)

-- ---- by way of a peon

-- a ROUTE has the answer to a command
abbrev pub CarriesAnswer : Body → Type 0
CarriesAnswer (body.Route seq r) = IsAnswer r
CarriesAnswer other = Unit {0}

-- a FORWARD has a number below this one
abbrev pub IsNumbered : ℕ → Body → Type 0
IsNumbered next b = (seq : ℕ) (c : Command) → b ≡ body.Forward seq c → seq < next

-- message k was sent from g to i, and is an answer if it is a ROUTE
abbrev pub IsKnown : List Envelope → (g i : ℕ) → ℕ → Type 0
IsKnown messages g i k =
    IsSomeAnd (message_at messages k) (λ m. (m.message.from ≡ g) × (m.to ≡ i) × CarriesAnswer m.message.body)

abbrev pub IsBelow : List Envelope → (next : ℕ) → ℕ → Type 0
IsBelow messages next k = IsSomeAnd (message_at messages k) (λ m. IsNumbered next m.message.body)

-- Each message under way from one member to another was sent by the one to the other, and each ROUTE is an answer. Peon
-- f's next number is above that of each command of f that is under way to the leader, or that the leader took.
pub record Counts (q : List Bool) (reign : Reign) (f : ℕ) (t : Timed) : Type 0 where
  pub known : (g i : ℕ) → has q g ≡ true → has q i ≡ true
      → AllByRecursion (λ o. IsKnown t.world.messages g i o.number) (t.under_way g i)
  pub below : IsSomeAnd (t.world.state f) (λ s. IsSomeAnd (t.world.state reign.leader)
      (λ l. slice_index_or l.clients.taken f 0 < s.clients.next_seq)
      × AllByRecursion (λ o. IsBelow t.world.messages s.clients.next_seq o.number) (t.under_way f reign.leader))

-- ---- nobody writes

-- a client asks for a command
abbrev pub Writes : Event → Type 0
Writes (Arrives (Client rank at session request)) = Reads request → ⊥
Writes other = ⊥

abbrev pub IsForward : Body → Type 0
IsForward (body.Forward seq c) = Unit {0}
IsForward other = ⊥

-- none of these messages under way hands on a command
abbrev pub HandsOnNothing : List Envelope → List Owed → Type 0
HandsOnNothing messages =
    AllByRecursion (λ o. IfSome (message_at messages o.number) (λ m. IsForward m.message.body → ⊥))

-- No command waits at the leader, or is on its way to it.
pub record NothingWaits (q : List Bool) (reign : Reign) (t : Timed) : Type 0 where
  pub queue : IsSomeAnd (t.world.state reign.leader) (λ s. s.clients.queue ≡ [])
  pub under_way : (i : ℕ) → has q i ≡ true → HandsOnNothing t.world.messages (t.under_way i reign.leader)
