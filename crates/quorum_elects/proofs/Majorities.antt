-- A majority that begins again, and the one of it that is to lead.
use Rattle.law_names.proofs.Runs.{Monitors, World}
use Rattle.law_names.proofs.Table.{Command, Session, allows, epoch_of, has}
use Rattle.quorum_elects.proofs.Can.{Scope}
use Rattle.quorum_elects.proofs.Ranking.{IsBefore}
use Rattle.quorum_elects.proofs.Rows.{odd_from}
use Rattle.quorum_elects.proofs.Standing.{Close}
use Rattle.quorum_elects.specs.Ready.{NumbersHaveRoom}
use Rattle.quorum_elects.specs.Ways.{Clock}
use Rattle.quorum_laws.specs.Accepting.{IsMajorityOf, readings_at}
use Rattle.std.proofs.Common.{Bool, List, Option, length, true, ℕ, ◌<◌, ◌≡◌, ◌≤◌}

-- A majority q of a map, in the world from which it goes on: each of its members is near c versions, and its numbers have room.
pub record Majority : Type 0 where
  pub ms : Monitors
  pub several : 1 < ms.count
  pub q : List Bool
  pub major : IsMajorityOf ms.count q
  pub asks : Option (Session × Command)
  pub clock : Clock
  pub from : World
  pub c : ℕ
  pub close : (f : ℕ) → has q f ≡ true → Close c (readings_at from f)
  pub numbers : (f : ℕ) → has q f ≡ true → NumbersHaveRoom (readings_at from f)

abbrev pub scope : Majority → Scope
scope G = record { ms = G.ms; q = G.q; sent = length G.from.messages; asks = G.asks; clock = G.clock }

-- the epoch that a monitor has there
abbrev pub epoch_at : Majority → ℕ → ℕ
epoch_at G f = epoch_of (readings_at G.from f)

-- Rank r is to lead: it may, and is before all others. E is the greatest epoch in which one of them becomes a candidate.
pub record Candidacy (G : Majority) : Type 0 where
  pub r : ℕ
  pub mine : has G.q r ≡ true
  pub may_lead : allows G.ms.rule r ≡ true
  pub before : (f : ℕ) → has G.q f ≡ true → (f ≡ r → ⊥) → IsBefore G.ms.rule r f
  pub E : ℕ
  pub greatest : (f : ℕ) → f < G.ms.count → has G.q f ≡ true → odd_from (epoch_at G f) ≤ E
