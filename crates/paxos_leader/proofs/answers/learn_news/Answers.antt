use Rattle.std.proofs.Common.{◌≡◌, ℕ, suc, ◌-◌, ◌≤◌, ◌++◌, List, length, length-drop, take, drop, sym, ap, subst, ◌∙◌, arith}
use Rattle.std.specs.List.{AllByRecursion}
use Rattle.std.specs.Prelude.{OnOk}
use Rattle.mon_msg.specs.Protocol.Changes.{encoded}
use Rattle.mon_msg.specs.Protocol.Learning.{news, news_from}
use Rattle.mon_msg.specs.Protocol.Played.{Fits}
use Rattle.mon_tx.specs.Text.{text, most}
use Rattle.mon_tx.specs.declared.op.Op.{Op}
use Rattle.mon_plan.specs.Learned.{Learns, learned}
use Rattle.mon_plan.proofs.Values.{all_drop, rest_is, same_news}
use Rattle.paxos_leader.proofs.answers.learn_news.Goals as goal

pub learn-requires : goal.learn-requires
learn-requires c =
    let values : List (List Op) = c.args.answer.now.values.now in
    record {
      short =
          subst (AllByRecursion (λ (ops : List Op). length (text ops) ≤ most)) (sym (rest_is c.min-known.result values))
          (all_drop (λ (ops : List Op). length (text ops) ≤ most) c.min-known.result values c.requires.short);
      from = omega arith;
      room = omega (arith, ap length (rest_is c.min-known.result values), length-drop c.min-known.result values, c.get-next.ensures.most, c.get-start.ensures.most, c.requires.few);
    }

pub returns : goal.returns
returns c =
    let a = c.args.answer.now in
    let values : List (List Op) = a.values.now in
    let k = c.min-known.result in
    let from : c.max.result ≡ news_from c.args.own a.start = omega (arith, c.max.ensures, c.get-next.ensures.value, c.get-start.ensures.value) in
    let rest : take (length values - k) (drop k values) ≡ news c.args.own a.start values = rest_is k values ∙ same_news k (suc c.args.own - a.start) values (omega (arith, c.min-known.ensures, c.get-next.ensures.value, c.get-start.ensures.value)) in
    record {
      act = subst (λ (vs : List (List Op)). Learns (news_from c.args.own a.start) vs c.learn.result) rest (subst (λ (v : ℕ). Learns v (take (length values - k) (drop k values)) c.learn.result) from c.learn.ensures.act);
      changes = subst (λ (vs : List (List Op)). OnOk c.learn.result (c.learn.new.tx ≡ c.args.tx.now ++ encoded (learned (news_from c.args.own a.start) vs))) rest (subst (λ (v : ℕ). OnOk c.learn.result (c.learn.new.tx ≡ c.args.tx.now ++ encoded (learned v (take (length values - k) (drop k values))))) from c.learn.ensures.changes);
      fit = subst (λ (vs : List (List Op)). OnOk c.learn.result (AllByRecursion Fits (learned (news_from c.args.own a.start) vs))) rest (subst (λ (v : ℕ). OnOk c.learn.result (AllByRecursion Fits (learned v (take (length values - k) (drop k values))))) from c.learn.ensures.fit);
    }
