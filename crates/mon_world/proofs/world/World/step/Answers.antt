use Rattle.mon_world.proofs.Safety.{goes_further, safe_after}
use Rattle.mon_world.proofs.world.World.step.Goals as goal

pub returns-clause-does : goal.returns-clause-does
returns-clause-does c = c.happen.ensures.does

pub returns-clause-goes_on : goal.returns-clause-goes_on
returns-clause-goes_on c = λ ms d events s.
    goes_further ms c.args.self.now d events c.args.event.now c.requires.fits s c.happen.result c.happen.new.self (c.happen.ensures.does ms d s.stands)

pub returns-clause-safe : goal.returns-clause-safe
returns-clause-safe c = λ ms d events s. safe_after ms c.args.self.now d events c.args.event.now c.requires.fits s

pub returns-clause-any_time : goal.returns-clause-any_time
returns-clause-any_time c = c.happen.ensures.any_time
