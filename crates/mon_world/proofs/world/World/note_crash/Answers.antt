use Rattle.std.proofs.Common.{Bool, Option, refl, sym, ap, subst}
use Rattle.std.specs.Prelude.{is_some}
use Rattle.mon_world.specs.declared.world.FaultOutcome.TheVariants as fault_outcome
use Rattle.mon_world.specs.Reporting.{GrowsIf}
use Rattle.mon_world.proofs.world.World.note_crash.Goals as goal

pub returns-in_default : goal.returns-in_default
returns-in_default c = record {
  monitors = refl;
  messages = refl;
  log = subst (λ (k : Option Bool). GrowsIf k c.args.crash.last c.args.self.now.log c.args.self.now.log) (sym c.in_default.is) refl;
  reported_is = ap (λ (k : Option Bool). fault_outcome.Stopped (is_some k)) (sym c.in_default.is);
}

pub returns : goal.returns
returns c = record {
  monitors = refl;
  messages = refl;
  log = subst (λ (k : Option Bool). GrowsIf k c.args.crash.last c.args.self.now.log c.grown-self.result) (sym c.in-Some.is) c.grown-self.ensures;
  reported_is = ap (λ (k : Option Bool). fault_outcome.Stopped (is_some k)) (sym c.in-Some.is);
}
