use Rattle.mon_bounds.proofs.Table.{begins_ok, boot_ok, reaction_ok}
use Rattle.mon_bounds.proofs.laws.law_reaction_fits.Goals as goal

pub returns : goal.returns
returns c = record { boot = boot_ok; begins = begins_ok; stays = reaction_ok }
