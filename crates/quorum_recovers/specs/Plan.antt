-- The way back: how a majority that is near the whole log elects a leader, commits what was in progress, and serves.
use Rattle.mon_bytes.specs.declared.command.Command.{Command}
use Rattle.mon_msg.specs.Protocol.Readings.{promise_of}
use Rattle.mon_msg.specs.Protocol.Sets.{are_within}
use Rattle.mon_types.specs.Ranks.{no_ranks}
use Rattle.mon_wire.specs.declared.kind.Kind.TheVariants as kind
use Rattle.mon_wire.specs.declared.phase.Phase.TheVariants as phase
use Rattle.mon_wire.specs.declared.phase.Phase.{Phase}
use Rattle.mon_wire.specs.declared.request.Session.{Session}
use Rattle.quorum_elects.specs.Electing.{each, election, highest, is_in, is_other, chosen_leader, quorum_at}
use Rattle.quorum_elects.specs.Plans.{Asks, Hears, PlanStep}
use Rattle.quorum_laws.specs.Accepting.{readings_at}
use Rattle.quorum_model.specs.Monitors.{Monitors}
use Rattle.quorum_model.specs.World.{World}
use Rattle.std.specs.Option.{option_map_or}
use Rattle.std.specs.Prelude.{Bool, List, [], nat_lt, ℕ, ◌&&◌, ◌++◌, ◌∷◌, if◌then◌else◌}

abbrev pub promise_at : World → ℕ → ℕ
promise_at w i = promise_of (readings_at w i)

-- the ranks that answered the COLLECT of monitor i, by its state as a leader; none if it is down
abbrev pub answered_at : World → ℕ → List Bool
answered_at w i = option_map_or (λ s. s.leader.answered) (w.state i) no_ranks

-- ---- the steps, of n monitors of which r leads

-- if a member of r's quorum promised more than r, the one that promised most gets r's COLLECT first, and r its answer
abbrev pub raises : (n r : ℕ) → PlanStep
raises n r w =
    let top = highest (promise_at w) (quorum_at w r) r n in
    if nat_lt (promise_at w r) (promise_at w top) then Hears top r kind.Collect ∷ Hears r top kind.Last ∷ [] else []

-- if r collects and all members below k answered, k gets r's COLLECT, and r gets the answer of k
abbrev pub collects : (r k : ℕ) → PlanStep
collects r k w =
    let members = quorum_at w r in
    if is_other members r k && (is_in w r phase.Collecting && are_within k members (answered_at w r))
    then Hears k r kind.Collect ∷ Hears r k kind.Last ∷ [] else []

-- if member k has fewer versions than r, it gets r's COMMIT
abbrev pub commits : (r k : ℕ) → PlanStep
commits r k w =
    if is_other (quorum_at w r) r k && nat_lt (readings_at w k).last (readings_at w r).last
    then Hears k r kind.Commit ∷ [] else []

-- if r proposes a value in this phase, k gets r's BEGIN, and r gets the ACCEPT of k
abbrev pub accepts : Phase → (r k : ℕ) → PlanStep
accepts p r k w =
    if is_other (quorum_at w r) r k && is_in w r p
    then Hears k r kind.Begin ∷ Hears r k kind.Accept ∷ [] else []

abbrev pub asks : ℕ → Session → Command → PlanStep
asks r session command w = Asks r session command ∷ []

-- ---- the plan

-- r hears all of its quorum, a second time only if it learned a version in the first round
abbrev pub hearing : (n r : ℕ) → List PlanStep
hearing n r = raises n r ∷ (each n (collects r) ++ each n (collects r))

-- what was in progress is committed
abbrev pub settling : (n r : ℕ) → List PlanStep
settling n r = each n (commits r) ++ (each n (accepts phase.Previous r) ++ each n (commits r))

abbrev pub serving : (n r : ℕ) → Session → Command → List PlanStep
serving n r session command = asks r session command ∷ each n (accepts phase.Updating r)

-- the steps of the way back once r is elected
abbrev pub led : (n r : ℕ) → Session → Command → List PlanStep
led n r session command = hearing n r ++ (settling n r ++ serving n r session command)

abbrev pub way_back : Monitors → List Bool → Session → Command → List PlanStep
way_back ms q session command = election ms q ++ led ms.count (chosen_leader ms.rule q) session command
