-- Runs in time. From some time on the messages among the monitors of a set arrive in time, once and in order, and the
-- timers of these monitors fire in time. Nothing else arrives at them but what clients ask. The other monitors take no
-- step: they count as stopped, and what they sent doesn't arrive.
use Rattle.mon_msg.specs.Protocol.Timers.{end_of}
use Rattle.mon_types.specs.Ranks.{has}
use Rattle.mon_msg.specs.Protocol.State.{State}
use Rattle.mon_wire.specs.declared.phase.Timer.{Timer}
use Rattle.mon_wire.specs.declared.request.Request.{Request}
use Rattle.mon_wire.specs.declared.request.Session.{Session}
use Rattle.quorum_model.specs.Happens.{happens}
use Rattle.quorum_model.specs.Monitors.{Monitors}
use Rattle.quorum_model.specs.World.{Arrives, Client, Deliver, Envelope, Event, Ring, World}
use Rattle.quorum_timed.specs.Calls.{Calls, IsNewCall}
use Rattle.std.specs.List.{enumerate_from}
use Rattle.std.specs.Prelude.{Bool, List, Ok, Some, [], drop, filter, length, map, max, suc, true, ℕ, ◌&&◌, ◌+◌, ◌++◌, ◌==◌, ◌∷◌, ◌≡◌, ◌≤◌, ◌⊎◌, if◌then◌else◌}

-- ---- what is in time

-- From time `since` on a message arrives within `delay` after it is sent, and a timer fires within `late` after its
-- end. A call for an election arrives again within each `again`, as long as it isn't acknowledged. At time t the
-- clock of monitor i shows t + clock i. All are in milliseconds.
pub record Pace : Type 0 where
  pub since : ℕ
  pub delay : ℕ
  pub late : ℕ
  pub again : ℕ
  pub clock : ℕ → ℕ

-- ---- what is under way

-- the number of a message, and the time by which it arrives
pub record Owed : Type 0 where
  pub number : ℕ
  pub by : ℕ

-- The world at a time. For each sender and receiver there are the messages under way, in the order in which they were
-- sent, and the time by which the next call for an election arrives, if the sender still calls.
pub record Timed : Type 0 where
  pub world : World
  pub time : ℕ
  pub under_way : ℕ → ℕ → List Owed
  pub call_by : ℕ → ℕ → ℕ

-- the numbers of the messages from f to i that follow the first `sent` messages
abbrev pub new_between : (sent : ℕ) → (f i : ℕ) → List Envelope → List ℕ
new_between sent f i messages =
    map (λ m. m.0) (filter (λ m. m.1.message.from == f && m.1.to == i) (enumerate_from (suc sent) (drop sent messages)))

abbrev pub owed_by : (by : ℕ) → List ℕ → List Owed
owed_by by numbers = map (λ k. record { number = k; by = by }) numbers

-- the first message under way from f to i is no longer under way
abbrev pub without_first : (f i : ℕ) → List Owed → (ℕ → ℕ → List Owed) → ℕ → ℕ → List Owed
without_first f i others all g j = if g == f && j == i then others else all g j

-- ---- steps

module _ (ms : Monitors) (q : List Bool) (pace : Pace) where
  -- How far time may go: no message of members is overdue, no timer of a member, and no call.
  pub record MayBe (t : Timed) (u : ℕ) : Type 0 where
    pub later : t.time ≤ u
    pub messages : (f i : ℕ) → has q f ≡ true → has q i ≡ true → (o : Owed) (others : List Owed)
        → t.under_way f i ≡ o ∷ others → u ≤ o.by
    pub timers : (i : ℕ) → has q i ≡ true → (s : State) → t.world.state i ≡ Some s → (kind : Timer) (end : ℕ)
        → end_of kind s.timers ≡ Some end → u + pace.clock i ≤ max end (pace.since + pace.clock i) + pace.late
    pub calls : (f i : ℕ) → has q f ≡ true → has q i ≡ true → (k : ℕ) → Calls t.world k f i → u ≤ t.call_by f i

  -- The event happened at this time, and what it sent is under way. If it sent or delivered a call, the next call may
  -- be due `again` later. If it isn't put off so and is overdue, it comes before time goes on.
  pub record Went (t : Timed) (e : Event) (left : ℕ → ℕ → List Owed) (next : Timed) : Type 0 where
    pub happened : happens ms t.world e ≡ Ok next.world
    pub time : next.time ≡ t.time
    pub sent : (f i : ℕ) → next.under_way f i
        ≡ left f i ++ owed_by (t.time + pace.delay) (new_between (length t.world.messages) f i next.world.messages)
    pub calls : (f i : ℕ) → (next.call_by f i ≡ t.call_by f i)
        ⊎ ((next.call_by f i ≡ t.time + pace.again) × IsNewCall t.world next.world e f i)

  -- What comes at a time: the first message under way between two members, a call that arrives again, a timer of a
  -- member that has ended, or what a client asks a member.
  pub data Comes (t : Timed) (next : Timed) (e : Event) : Type 0 where
    Arriving : (f i : ℕ) → has q f ≡ true → has q i ≡ true → (o : Owed) (others : List Owed)
        → t.under_way f i ≡ o ∷ others → e ≡ Arrives (Deliver o.number (t.time + pace.clock i))
        → Went t e (without_first f i others t.under_way) next → Comes t next e
    Again : (f i : ℕ) → has q f ≡ true → has q i ≡ true → (k : ℕ) → Calls t.world k f i
        → e ≡ Arrives (Deliver k (t.time + pace.clock i)) → Went t e t.under_way next → Comes t next e
    Firing : (i : ℕ) → has q i ≡ true → (s : State) → t.world.state i ≡ Some s → (kind : Timer) (end : ℕ)
        → end_of kind s.timers ≡ Some end → end ≤ t.time + pace.clock i
        → e ≡ Arrives (Ring i kind (t.time + pace.clock i)) → Went t e t.under_way next → Comes t next e
    Asking : (i : ℕ) → has q i ≡ true → (session : Session) (request : Request)
        → e ≡ Arrives (Client i (t.time + pace.clock i) session request) → Went t e t.under_way next → Comes t next e

  -- the same at a later time
  abbrev pub at_time : ℕ → Timed → Timed
  at_time u t = record t { time = u }

  -- these events, each at its time, lead from the one to the other
  abbrev pub Leads : Timed → List (ℕ × Event) → Timed → Type 0
  Leads t [] last = MayBe t last.time × (last ≡ at_time last.time t)
  Leads t ((u, e) ∷ more) last = MayBe t u × ((next : Timed) × Comes (at_time u t) next e × Leads next more last)

-- ---- what stops no run

abbrev pub IsRequest : Event → Type 0
IsRequest (Arrives (Client rank at session request)) = Unit {0}
IsRequest other = ⊥

-- No delivery and no timer stops the run: no number runs out, and no store becomes full.
pub record GoesOn (ms : Monitors) (w : World) : Type 0 where
  pub deliveries : (k at : ℕ) → (next : World) × (happens ms w (Arrives (Deliver k at)) ≡ Ok next)
  pub timers : (i at : ℕ) (kind : Timer) → (next : World) × (happens ms w (Arrives (Ring i kind at)) ≡ Ok next)
