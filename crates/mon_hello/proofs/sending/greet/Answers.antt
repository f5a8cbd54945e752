use Rattle.std.proofs.Common.{rules, ◌≡◌, [], Ok, cond, subst}
use Rattle.mon_link.specs.Layers.{Grows}
use Rattle.mon_link.proofs.Layers.{grows_then}
use Rattle.mon_hello.specs.Greets.{answer, hellos_to, round}
use Rattle.mon_hello.specs.Histories.{AreSent}
use Rattle.mon_hello.proofs.Following.{sent_then}
use Rattle.mon_hello.proofs.sending.greet.Goals as goal

pub returns-clause-grows : goal.returns-clause-grows
returns-clause-grows g c =
    let own = c.args.own.now in
    let hellos = cond c.args.due (round own.member.rank own.member.monitors own.datagram) [] in
    let bytes : c.as_slice.result.now ≡ own.answer = search rules in
    grows_then _ _ _ (AreSent (answer own.answer c.args.asker) (Ok tt)) (AreSent hellos c.greet_if.result) (AreSent (hellos_to own c.args.asker c.args.due) c.greet_if.result)
    (sent_then (answer own.answer c.args.asker) hellos c.greet_if.result)
    (subst (λ bs. Grows (g.L.Link.history c.args.link.now) (AreSent (answer bs c.args.asker) (Ok tt)) (g.L.Link.history c.answer_one.new.link)) bytes c.in_ok-answer_one.ensures.grows)
    c.greet_if.ensures.grows
