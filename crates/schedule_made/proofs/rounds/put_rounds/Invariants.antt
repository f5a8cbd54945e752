use Rattle.std.proofs.Common.{◌≡◌, ◌-◌, ◌++◌, take}
use Rattle.schedule_made.specs.Made.{rounds}
use Rattle.schedule_made.proofs.rounds.put_rounds.Given as goal

abbrev pub invariant-loop-j : goal.invariant-loop-j
invariant-loop-j l =
    take l.most (l.fn.events.items ++ rounds l.most 0 l.fn.generator) ≡ take l.most (l.events.items ++ rounds (l.most - l.j) l.j l.generator)
