use Rattle.std.proofs.Common.{◌≡◌, ℕ, ◌++◌, List, [], ◌∷◌, Ok, Err, ap, subst, ◌∙◌}
use Rattle.std.specs.List.{AllByRecursion}
use Rattle.mon_msg.specs.Protocol.Changes.{encoded}
use Rattle.mon_msg.specs.Protocol.Learning.{learn}
use Rattle.mon_msg.specs.Protocol.Played.{Fits}
use Rattle.mon_msg.specs.declared.plan.Next.TheVariants as next
use Rattle.mon_plan.specs.Learned.{Learns, learned}
use Rattle.mon_plan.specs.Plans.{changed}
use Rattle.mon_tx.specs.declared.op.Op.{Op}
use Rattle.paxos_leader.proofs.acts.commit_alone.Goals as goal

pub returns-in-Err-clause-alone : goal.returns-in-Err-clause-alone
returns-in-Err-clause-alone c =
    subst (λ (v : ℕ). Learns v (c.args.value ∷ []) (Err c.in-Err.stop)) c.get.ensures.value c.in-Err.ensures.act

pub returns-clause-alone : goal.returns-clause-alone
returns-clause-alone c =
    let d = c.args.draft in
    let values : List (List Op) = c.args.value ∷ [] in
    let tx : c.learn.new.tx ≡ d.tx ++ encoded (learned c.args.version values) = c.in-Ok.ensures.changes ∙ ap (λ (v : ℕ). d.tx ++ encoded (learned v values)) c.get.ensures.value in
    record {
      fit = subst (λ (v : ℕ). AllByRecursion Fits (learned v values)) c.get.ensures.value c.in-Ok.ensures.fit;
      learns = λ x. subst (λ (v : ℕ). learn v values x ≡ Ok (changed (learned v values) x)) c.get.ensures.value (c.in-Ok.ensures.act x);
      plan = λ i. record { tx = tx i; out = d.out; timers = c.new.ensures i; state = c.at_rest.ensures i; next = next.Stay };
    }
