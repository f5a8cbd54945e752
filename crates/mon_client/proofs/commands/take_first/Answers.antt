use Rattle.std.proofs.Common.{◌<◌, length, List, ◌∷◌, ap, sym, ◌∙◌, arith}
use Rattle.mon_msg.specs.declared.clients.Waiting.{Waiting}
use Rattle.mon_client.proofs.CommandLaws.{first_rest}
use Rattle.mon_client.proofs.commands.take_first.Goals as goal

pub returns : goal.returns
returns c =
    let queue = c.into_vec-waiting.result.items in
    let some : 0 < length queue = omega (arith, ap length c.into_vec-waiting.ensures, c.requires) in
    let parts = first_rest queue c.remove-first.result c.remove-first.new.self.items some c.remove-first.ensures.value c.remove-first.ensures.items in
    let whole = sym c.into_vec-waiting.ensures ∙ parts ∙ ap (λ (rest : List Waiting). c.remove-first.result ∷ rest) (sym c.from_vec.ensures) in
    λ i. record c.args.clients { queue = whole i }
