use Rattle.std.proofs.Common.{None, sym, subst, ◌∙◌}
use Rattle.std.specs.FinMap.{empty}
use Rattle.mon_msg.specs.declared.view.Me.{Me}
use Rattle.quorum_model.specs.Files.{no_files}
use Rattle.mon_world.specs.Monitor.{Represents}
use Rattle.mon_world.proofs.Making.{same_me}
use Rattle.mon_world.proofs.world.down.Goals as goal

pub returns : goal.returns
returns c = λ me rank monitors rule.
    subst (λ (me : Me). Represents me empty None no_files c.new.result)
    (same_me _ me (c.known.ensures ∙ sym rank) (sym monitors) (sym rule)) c.new.ensures
