use Rattle.std.proofs.Common.{◌≡◌, map, refl, ap, ◌∙◌, arith}
use Rattle.mon_world.specs.Represented.{envelope_of}
use Rattle.mon_world.proofs.Making.{one_made, all_made}
use Rattle.mon_world.proofs.Safety.{begins}
use Rattle.mon_world.proofs.world.World.new.Goals as goal

pub loop-rank-preserved : goal.loop-rank-preserved
loop-rank-preserved c =
    rw c.in_ok-push.ensures.items
    (one_made c.args.monitors c.args.rule c.loop-rank.list.items c.loop-rank.rank c.down.result c.loop-rank.invariant c.down.ensures)

pub returns : goal.returns
returns c = λ ms counts rules.
    let end : c.loop-rank.rank ≡ ms.count = omega arith in
    begins ms _
    (record {
      count = c.loop-rank.invariant.count ∙ end;
      each = all_made ms c.args.monitors c.args.rule c.loop-rank.list.items c.loop-rank.rank c.loop-rank.invariant counts rules;
      messages = ap (map envelope_of) c.new.ensures.items;
      arrive = tt;
      log = refl;
    })
