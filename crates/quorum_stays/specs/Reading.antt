-- Reads, and leases that stand.
use Rattle.mon_lease.specs.Lease.{stands}
use Rattle.mon_msg.specs.Protocol.Readings.{Readings, readings_of}
use Rattle.mon_msg.specs.Protocol.Reads.{shown, since}
use Rattle.mon_msg.specs.Protocol.State.{lease_of}
use Rattle.mon_types.specs.Ranks.{has}
use Rattle.mon_wire.specs.declared.reply.Reply.{Reply}
use Rattle.mon_wire.specs.declared.request.Request.TheVariants as request
use Rattle.mon_wire.specs.declared.request.Request.{Request}
use Rattle.mon_wire.specs.declared.request.Session.{Session}
use Rattle.quorum_model.specs.World.{Replied, World}
use Rattle.quorum_timed.specs.Timed.{Pace, Timed}
use Rattle.std.specs.Prelude.{Bool, IsSomeAnd, List, [], true, ℕ, ◌++◌, ◌+◌, ◌^◌, ◌∷◌, ◌≡◌, ◌≤◌}

abbrev pub Reads : Request → Type 0
Reads (request.Show service) = Unit {0}
Reads (request.Since service version) = Unit {0}
Reads other = ⊥

-- The clocks of the members don't reach their end by this time.
abbrev pub ClocksGoOn : List Bool → Pace → (u : ℕ) → Type 0
ClocksGoOn q pace u = (i : ℕ) → has q i ≡ true → u + pace.clock i + 10000 ≤ 2 ^ 62

-- Each member has a lease that is valid now.
abbrev pub LeasesStand : List Bool → Pace → Timed → Type 0
LeasesStand q pace t = (i : ℕ) → has q i ≡ true
    → IsSomeAnd (t.world.state i) (λ s. stands (lease_of s) (t.time + pace.clock i) ≡ true)

-- what a read shows of a store
abbrev pub ShowsStore : Readings → Request → Reply → Type 0
ShowsStore w (request.Show service) reply = reply ≡ shown w service
ShowsStore w (request.Since service version) reply = reply ≡ since w service version
ShowsStore w other reply = ⊥

-- The event replied once, to this session, and showed what monitor i's store keeps.
pub record IsAnswered (before after : World) (i : ℕ) (session : Session) (r : Request) : Type 0 where
  pub answer : Replied
  pub one : after.replied ≡ before.replied ++ answer ∷ []
  pub rank_is : answer.rank ≡ i
  pub session_is : answer.session ≡ session
  pub shows : ShowsStore (readings_of (before.store i)) r answer.reply
