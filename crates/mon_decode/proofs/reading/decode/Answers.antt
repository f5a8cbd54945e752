use Rattle.std.proofs.Common.{ap, subst, ◌∙◌, arith}
use Rattle.mon_wire.specs.Message.Format.{Gives}
use Rattle.mon_wire.specs.Message.Whole.{message_of}
use Rattle.mon_decode.proofs.WholeLaws.{message_is_found, message_again}
use Rattle.mon_decode.proofs.reading.decode.Goals as goal

pub returns-clause-found : goal.returns-clause-found
returns-clause-found c = message_is_found c.args.bytes.now c.read.result (λ i. omega (arith, c.type_inv.bytes i)) c.read.ensures

pub returns-clause-only : goal.returns-clause-only
returns-clause-only c = λ m has e. subst (λ f. Gives (λ x. x) c.read.result f) (ap message_of e ∙ message_again m has) c.read.ensures
