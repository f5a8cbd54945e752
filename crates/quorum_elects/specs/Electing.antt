-- How the members of a majority elect the lowest of them that may lead.
use Rattle.election_rules.specs.Ranking.{allows}
use Rattle.election_rules.specs.declared.rule.Rule.{Rule}
use Rattle.mon_msg.specs.Protocol.Phases.{same_phase}
use Rattle.mon_msg.specs.Protocol.Readings.{epoch_of}
use Rattle.mon_types.specs.Ranks.{has, no_ranks}
use Rattle.mon_wire.specs.declared.kind.Kind.TheVariants as kind
use Rattle.mon_wire.specs.declared.phase.Phase.TheVariants as phase
use Rattle.mon_wire.specs.declared.phase.Phase.{Phase}
use Rattle.mon_wire.specs.declared.phase.Timer.TheVariants as timer
use Rattle.quorum_elects.specs.Plans.{Hears, PlanStep, Rings, Starts}
use Rattle.quorum_laws.specs.Accepting.{readings_at}
use Rattle.quorum_model.specs.Monitors.{Monitors}
use Rattle.quorum_model.specs.World.{World}
use Rattle.std.specs.List.{flat_map, range_with_len}
use Rattle.std.specs.Option.{option_map_or}
use Rattle.std.specs.Prelude.{Bool, List, [], false, map, nat_lt, not, suc, zero, ℕ, ◌&&◌, ◌++◌, ◌==◌, ◌∷◌, if◌then◌else◌}

-- ---- ranks

-- the lowest rank of a set that passes the test; the set's length if none does
unfoldable pub lowest : (ℕ → Bool) → List Bool → ℕ
lowest test [] = 0
lowest test (b ∷ set) = if b && test 0 then 0 else suc (lowest (λ k. test (suc k)) set)

-- Of r and the ranks of a set below k, one with the greatest number: r if none has a greater one, else the lowest such.
unfoldable pub highest : (ℕ → ℕ) → List Bool → (r k : ℕ) → ℕ
highest number set r zero = r
highest number set r (suc k) =
    let top = highest number set r k in
    if has set k && nat_lt (number top) (number k) then k else top

-- the member that is to lead
abbrev pub chosen_leader : Rule → List Bool → ℕ
chosen_leader rule set = lowest (allows rule) set

-- one of a set, other than r
abbrev pub is_other : List Bool → (r k : ℕ) → Bool
is_other set r k = has set k && not (k == r)

-- ---- what a monitor is and has

-- whether it is up, and in this phase
abbrev pub is_in : World → ℕ → Phase → Bool
is_in w i p = option_map_or (λ s. same_phase s.phase p) (w.state i) false

-- the quorum in its state as a leader; empty if it is down
abbrev pub quorum_at : World → ℕ → List Bool
quorum_at w i = option_map_or (λ s. s.leader.quorum) (w.state i) no_ranks

abbrev pub epoch_at : World → ℕ → ℕ
epoch_at w i = epoch_of (readings_at w i)

-- ---- the steps, of n monitors, a set q of them, and r that is to lead

abbrev pub starts : List Bool → ℕ → PlanStep
starts q k w = if has q k then Starts k ∷ [] else []

-- if k is probing, j gets k's PROBE, and k gets the answer of j
abbrev pub probes : List Bool → (k j : ℕ) → PlanStep
probes q k j w =
    if has q k && (is_other q k j && is_in w k phase.Probing)
    then Hears j k kind.Probe ∷ Hears k j kind.ProbeReply ∷ [] else []

-- if a member has a greater epoch than r, r gets the PROPOSE of one with the greatest
abbrev pub calls : (n : ℕ) → List Bool → ℕ → PlanStep
calls n q r w =
    let top = highest (epoch_at w) q r n in
    if nat_lt (epoch_at w r) (epoch_at w top) then Hears r top kind.Propose ∷ [] else []

abbrev pub votes : List Bool → (r k : ℕ) → PlanStep
votes q r k w = if is_other q r k then Hears k r kind.Propose ∷ [] else []

-- if r is still electing, it gets the ACK of k; r wins at once if all of the map voted for it
abbrev pub counts : List Bool → (r k : ℕ) → PlanStep
counts q r k w = if is_other q r k && is_in w r phase.Electing then Hears r k kind.Ack ∷ [] else []

abbrev pub ends : ℕ → PlanStep
ends r w = if is_in w r phase.Electing then Rings r timer.Election ∷ [] else []

abbrev pub follows : (r k : ℕ) → PlanStep
follows r k w = if is_other (quorum_at w r) r k then Hears k r kind.Victory ∷ [] else []

-- ---- the plan

-- a step for each rank below n
abbrev pub each : ℕ → (ℕ → PlanStep) → List PlanStep
each n step = map step (range_with_len 0 n)

abbrev pub elects : (n : ℕ) → List Bool → (r : ℕ) → List PlanStep
elects n q r =
    each n (starts q) ++ (flat_map (λ k. each n (probes q k)) (range_with_len 0 n)
    ++ (calls n q r ∷ (each n (votes q r) ++ (each n (counts q r) ++ (ends r ∷ each n (follows r))))))

abbrev pub election : Monitors → List Bool → List PlanStep
election ms q = elects ms.count q (chosen_leader ms.rule q)
