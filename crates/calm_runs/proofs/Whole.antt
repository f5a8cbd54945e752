-- Every calm schedule leads to a run that rests, and ends calmly.
use Rattle.calm_command.proofs.AllCommands.{all_rest}
use Rattle.calm_command.proofs.RestsCalm.{is_calm}
use Rattle.calm_command.specs.Resting.{IsResting}
use Rattle.calm_quorum.proofs.Closing.{ends_calmly}
use Rattle.calm_quorum.proofs.Stores.{IsSmall}
use Rattle.calm_runs.proofs.First.{rests_first}
use Rattle.calm_sizes.proofs.Stores.{not_full}
use Rattle.law_names.proofs.Runs.{Order, classic, log_of, orders, run}
use Rattle.quorum_model.specs.CalmRun.{EndsCalmly}
use Rattle.quorum_model.specs.CalmSchedule.{OrdersFit}
use Rattle.std.proofs.Common.{List, [], arith, length, ℕ, ◌<◌, ◌^◌, ◌≤◌}

module _ (n : ℕ) (most : n ≤ 15) (cs : List Order) (O : OrdersFit n cs) where
  pub rests : IsResting (classic n most) cs (orders (classic n most) cs)
  rests = all_rest (classic n most) cs (rests_first n O.some most) O.short O.each

  fits : length (log_of [] cs) ≤ 2 ^ 62
  fits = let few = rests.short in let short = O.short in omega arith

  small : (i : ℕ) → i < n → IsSmall ((run (classic n most) (orders (classic n most) cs)).store i)
  small i lt =
      let keeps = (rests.each i lt).keeps in
      not_full (log_of [] cs) fits rests.values (length (log_of [] cs)) _ keeps.versions keeps.short

  pub ends : EndsCalmly n most cs
  ends =
      ends_calmly n most cs (is_calm (classic n most) cs (orders (classic n most) cs) rests O.some) small fits
      rests.values
