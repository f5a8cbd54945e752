use Rattle.std.proofs.Common.{refl, sym, ap, ◌∙◌}
use Rattle.std.specs.FinMap.{get-empty}
use Rattle.mon_tx.specs.Keys.{place}
use Rattle.mon_tx.specs.Map.{number_in, place_cmp}
use Rattle.mon_tx.specs.declared.key.Area.TheVariants as area
use Rattle.mon_tx.specs.declared.key.Key.TheVariants as key
use Rattle.mon_world.proofs.monitor.Monitor.new.Goals as goal

pub returns : goal.returns
unfolding number_in
returns c = record {
  me_is = refl;
  last = c.known.ensures ∙ sym (ap number_in (get-empty place_cmp (place area.Paxos key.LastCommitted)));
  holds = c.empty_disks.ensures c.args.me.member;
}
