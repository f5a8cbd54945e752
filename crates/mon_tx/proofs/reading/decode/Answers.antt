use Rattle.std.proofs.Common.{ap, subst, ◌∙◌, arith}
use Rattle.mon_tx.specs.Fields.{Gives}
use Rattle.mon_tx.specs.Decode.{transaction_of}
use Rattle.mon_tx.proofs.Takes.{is_found}
use Rattle.mon_tx.proofs.Again.{transaction_again}
use Rattle.mon_tx.proofs.reading.decode.Goals as goal

pub returns-clause-found : goal.returns-clause-found
returns-clause-found c = is_found c.args.bytes.now c.read.result (λ i. omega (arith, c.type_inv.bytes i)) c.read.ensures

pub returns-clause-only : goal.returns-clause-only
returns-clause-only c = λ ops fits e. subst (λ f. Gives (λ tx. tx) c.read.result f) (ap transaction_of e ∙ transaction_again ops fits) c.read.ensures
