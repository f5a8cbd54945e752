use Rattle.std.proofs.Common.{◌<◌, ◌^◌, subst}
use Rattle.map_log.proofs.Lengths.{is_short, size_is}
use Rattle.map_log.proofs.map.LogMap.size.Goals as goal

pub returns-clause-size : goal.returns-clause-size
returns-clause-size c = size_is c.self.inside.entries.items c.self.inside.size c.args.self.now c.self.invariant c.self.view_is

pub returns-clause-short : goal.returns-clause-short
returns-clause-short c = λ small. is_short c.args.self.now (subst (λ n. n < 2 ^ 32) (size_is c.self.inside.entries.items c.self.inside.size c.args.self.now c.self.invariant c.self.view_is) small)
