use Rattle.std.proofs.Common.{ap, ◌∙◌}
use Rattle.mon_tx.specs.Text.{is_upward}
use Rattle.mon_tx.proofs.Lengths.{upward_at}
use Rattle.mon_stored.proofs.Picking.{same_at, no_put}
use Rattle.mon_stored.proofs.join.join.Goals as goal

pub join_put-requires : goal.join_put-requires
join_put-requires c = record {
  joined = c.requires.joined;
  within = c.requires.within;
  few = c.requires.few;
  put = (_, same_at c.args.ops.now c.args.i c.index-ops-i.result c.requires.within c.index-ops-i.is ∙ c.in-Put.is);
}

pub join_taking-requires : goal.join_taking-requires
join_taking-requires c = record {
  joined = c.requires.joined;
  within = c.requires.within;
  taking = no_put c.index-ops-i.result c.in_default.not-Put;
  here = same_at c.args.ops.now c.args.i c.index-ops-i.result c.requires.within c.index-ops-i.is;
  upward = ap is_upward c.index-ops-i.is ∙ upward_at c.args.ops.now c.args.i c.index-ops-i.result c.requires.within c.requires.upward;
}
