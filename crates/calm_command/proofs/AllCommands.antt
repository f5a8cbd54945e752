-- A run that rests goes on with every list of commands.
use Rattle.calm_command.proofs.OneCommand.{next_rests}
use Rattle.calm_command.specs.Resting.{IsResting}
use Rattle.law_names.proofs.Runs.{Event, IsCommand, Monitors, Order, orders, starts}
use Rattle.law_names.proofs.Table.{AllByRecursion}
use Rattle.log_model.proofs.Lists.{length_push}
use Rattle.quorum_model.specs.CalmSchedule.{asks_all}
use Rattle.std.proofs.Common.{List, [], append-nil, append_assoc, arith, length, subst, suc, sym, ℕ, ◌++◌, ◌+◌, ◌<◌, ◌∷◌, ◌≤◌}

abbrev MayCome : ℕ → Order → Type 0
MayCome n c = (c.0 < n) × IsCommand c.1

-- and every list of them
pub every_command : (ms : Monitors) (done cs : List Order) (events : List Event) → IsResting ms done events
    → length done + length cs ≤ 100000 → AllByRecursion (MayCome ms.count) cs
    → IsResting ms (done ++ cs) (asks_all ms (suc (length done)) events cs)
unfolding asks_all
every_command ms done [] events H short all =
    subst (λ (l : List Order). IsResting ms l events) (sym (append-nil done)) H
every_command ms done (c ∷ cs) events H short all =
    let next = next_rests ms done events H (omega arith) c all.0.0 all.0.1 in
    let rest = every_command ms (done ++ c ∷ []) cs _ next (omega (arith, length_push done c)) all.1 in
    rw (length_push done c, append_assoc done (c ∷ []) cs) at rest

pub all_rest : (ms : Monitors) (cs : List Order) → IsResting ms [] (starts ms) → length cs ≤ 100000
    → AllByRecursion (MayCome ms.count) cs → IsResting ms cs (orders ms cs)
all_rest ms cs H short all = every_command ms [] cs (starts ms) H (omega arith) all
