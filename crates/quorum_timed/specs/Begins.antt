-- How a timed run begins, and which paces are quick enough for elections and leases.
use Rattle.mon_msg.specs.declared.view.Me.{Me}
use Rattle.mon_types.specs.Ranks.{has}
use Rattle.quorum_model.specs.Meets.{message_at}
use Rattle.quorum_model.specs.Monitors.{Monitors, me_of}
use Rattle.quorum_model.specs.World.{World}
use Rattle.quorum_timed.specs.Timed.{Owed, Pace, Timed}
use Rattle.quorum_timed.specs.Waiting.{Waits}
use Rattle.std.specs.Prelude.{Bool, IsSomeAnd, List, Some, [], true, ℕ, ◌*◌, ◌+◌, ◌<◌, ◌∷◌, ◌≡◌, ◌≤◌}

-- A call is acknowledged well before the election ends, and a lease is renewed well before it ends.
pub record IsQuick (pace : Pace) : Type 0 where
  pub elections : pace.again + 4 * pace.delay + pace.late < 5000
  pub leases : pace.delay + pace.late < 2000

-- message k was sent from f to i
abbrev pub IsBetween : World → (f i : ℕ) → ℕ → Type 0
IsBetween w f i k = IsSomeAnd (message_at w.messages k) (λ e. (e.message.from ≡ f) × (e.to ≡ i))

-- Some messages from f to i, in the order in which they were sent, each of which arrives by this time.
abbrev pub ArePart : World → (f i by above : ℕ) → List Owed → Type 0
ArePart w f i by above [] = Unit {0}
ArePart w f i by above (o ∷ others) =
    (above < o.number) × IsBetween w f i o.number × (o.by ≤ by) × ArePart w f i by o.number others

-- At time `since` all members are up, and no timer of a member ends later than its length after that. Of what was sent
-- before, any part is under way, in order, and arrives by `since` + `delay`.
pub record Begins (ms : Monitors) (q : List Bool) (pace : Pace) (t : Timed) : Type 0 where
  pub time : t.time ≡ pace.since
  pub wait : (i : ℕ) (me : Me) → has q i ≡ true → me_of ms i ≡ Some me
      → IsSomeAnd (t.world.state i) (Waits me (pace.since + pace.clock i))
  pub earlier : (f i : ℕ) → has q f ≡ true → has q i ≡ true
      → ArePart t.world f i (pace.since + pace.delay) 0 (t.under_way f i)
  pub calls : (f i : ℕ) → t.call_by f i ≤ pace.since + pace.again

-- the world at time `since`, with nothing under way
abbrev pub at_rest : Pace → World → Timed
at_rest pace w = record { world = w; time = pace.since; under_way = λ f i. []; call_by = λ f i. pace.since }
