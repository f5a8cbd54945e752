use Rattle.mon_world.proofs.Outgoing.{SoFar}
use Rattle.mon_world.proofs.sending.send.Given as goal

abbrev pub invariant-loop-one : goal.invariant-loop-one
invariant-loop-one l = SoFar l.rank l.fn.messages.items l.yielded l.messages.items l.gone
