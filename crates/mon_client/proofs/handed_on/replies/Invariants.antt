use Rattle.std.proofs.Common.{◌≡◌, ◌==◌, filter, map, take}
use Rattle.mon_msg.specs.declared.plan.Sent.TheVariants as sent
use Rattle.mon_client.proofs.handed_on.replies.Given as goal

abbrev pub invariant-loop-asked : goal.invariant-loop-asked
invariant-loop-asked l = l.out ≡ map (λ a. sent.Reply a.session l.reply) (filter (λ a. a.seq == l.seq) (take l.asked-index l.sessions))
