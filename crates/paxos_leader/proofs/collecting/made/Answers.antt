use Rattle.std.proofs.Common.{◌≡◌, ◌≤◌, ◌^◌, max, ap, subst, ◌∙◌}
use Rattle.std.specs.Prelude.{◌↔◌, IsSome, IfSome}
use Rattle.mon_msg.specs.Protocol.Readings.{Readings, readings_of, or_zero, promise_of}
use Rattle.mon_types.specs.Proposal.{next_number}
use Rattle.paxos_leader.specs.Parts.{made}
use Rattle.paxos_leader.proofs.collecting.made.Goals as goal

pub returns : goal.returns
returns c =
    let w : Readings = readings_of c.args.stored.now in
    let pn = c.or_zero.ensures ∙ ap or_zero c.last_pn.ensures in
    let known : c.known-known.result ≡ max (promise_of w) c.args.above = c.known-known.ensures ∙ c.max.ensures ∙ (λ i. max ((c.get.ensures.value ∙ c.promise.ensures) i) (c.get-2.ensures.value i)) in
    let same : next_number c.or_zero.result c.known-known.result c.args.me.now.member.rank ≡ made c.args.me.now c.args.above w = λ i. next_number (pn i) (known i) c.args.me.now.member.rank in
    record {
      fits = subst (λ n. IsSome c.next_pn.result ↔ (n ≤ 2 ^ 62)) same c.next_pn.ensures.fits;
      value = subst (λ n. IfSome c.next_pn.result (λ pn. pn ≡ n)) same c.next_pn.ensures.value;
    }
