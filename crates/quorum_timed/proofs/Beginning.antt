-- A timed run can begin after every run.
use Rattle.law_names.proofs.Runs.{Event, Monitors, me_of, run}
use Rattle.law_names.proofs.Table.{Me, State, has}
use Rattle.quorum_timed.proofs.Armed.{later_good}
use Rattle.quorum_timed.proofs.Worlds.{waits}
use Rattle.quorum_timed.specs.Begins.{Begins, at_rest}
use Rattle.quorum_timed.specs.Timed.{Pace}
use Rattle.quorum_timed.specs.Times.{latest}
use Rattle.quorum_timed.specs.Waiting.{Waits}
use Rattle.std.proofs.Common.{Bool, IfSome, IsSomeAnd, List, None, Option, Some, arith, refl, true, ℕ, ◌+◌, ◌<◌, ◌≡◌, ◌≤◌}
use Rattle.std.specs.Prelude.{⊤}

-- a monitor that waits at a time waits at each later one
pub later : (me : Me) (a b : ℕ) (s : State) → a ≤ b → Waits me a s → Waits me b s
later me a b s le W = let G = later_good a b s.timers le (record { size = W.kinds; soon = W.soon }) in record { kinds = G.size; armed = W.armed; soon = G.soon }

pub begins : (ms : Monitors) (events : List Event) (q : List Bool) (pace : Pace) → 1 < ms.count
    → ((i : ℕ) → has q i ≡ true → IsSomeAnd ((run ms events).state i) (λ s. ⊤) × (latest events ≤ pace.since + pace.clock i))
    → Begins ms q pace (at_rest pace (run ms events))
begins ms events q pace many up = record { time = refl; wait = wait; earlier = λ f i qf qi. tt; calls = λ f i. omega arith }
  where
    wait : (i : ℕ) (me : Me) → has q i ≡ true → me_of ms i ≡ Some me → IsSomeAnd ((run ms events).state i) (Waits me (pace.since + pace.clock i))
    wait i me qi e = by ((run ms events).state i) (up i qi).0 (waits ms events many i me e)
      where
        by : (o : Option State) → IsSomeAnd o (λ s. ⊤) → IfSome o (Waits me (latest events)) → IsSomeAnd o (Waits me (pace.since + pace.clock i))
        by None k w = k
        by (Some s) k w = later me (latest events) (pace.since + pace.clock i) s (up i qi).1 w
