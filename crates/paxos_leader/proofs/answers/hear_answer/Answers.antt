use Rattle.std.proofs.Common.{◌≡◌, List, [], ◌∷◌, ◌++◌, refl, sym, ap, ◌∙◌}
use Rattle.std.specs.List.{AllByRecursion}
use Rattle.mon_msg.specs.Protocol.Changes.{Change, encoded}
use Rattle.mon_msg.specs.Protocol.Leader.{hear_answer}
use Rattle.mon_msg.specs.Protocol.Learning.{news, news_from}
use Rattle.mon_msg.specs.Protocol.Played.{Fits}
use Rattle.mon_msg.specs.Protocol.Readings.{Readings, readings_of, epoch_of}
use Rattle.mon_msg.specs.declared.paxos.Leader.{Leader}
use Rattle.mon_msg.specs.declared.plan.Plan.{Plan}
use Rattle.mon_tx.specs.Map.{Store, apply}
use Rattle.mon_tx.specs.declared.op.Op.{Op}
use Rattle.mon_wire.specs.declared.phase.Phase.TheVariants as phase
use Rattle.mon_plan.specs.Learned.{learned}
use Rattle.mon_plan.specs.Plans.{changed}
use Rattle.paxos_leader.specs.Drafts.{IsAsking}
use Rattle.paxos_leader.specs.Rows.{IsHeard, goes_on}
use Rattle.paxos_leader.proofs.Answering.{learned-asks}
use Rattle.paxos_leader.proofs.Prepended.{prepended-fails, prepended-does, learning-fails}
use Rattle.paxos_leader.proofs.Hearing.{answer-is, answer-learned}
use Rattle.paxos_leader.proofs.answers.hear_answer.Goals as goal

pub returns-in-Err-clause-plans : goal.returns-in-Err-clause-plans
returns-in-Err-clause-plans c =
    λ e.
    let me = c.args.here.now.me.now in
    let now = c.args.here.now.time in
    let a = c.args.answer.now in
    let w : Readings = readings_of c.args.here.now.kv.now in
    let own = c.own_last-own.result in
    let is : own ≡ w.last = c.own_last-own.ensures in
    learning-fails me now (IsHeard (phase.Collecting ∷ []) a.from e w c.args.state) (news_from own a.start) (news own a.start a.values.now) (goes_on me now a.from a.last a.whole a.pending.now)
    (hear_answer me now a.from a.last a.whole a.start a.values.now a.pending.now) c.in-Err.stop c.in-Err.ensures.act
    (λ x b. answer-is me now a.from e x a.pn a.first a.last a.whole a.start a.values.now a.pending.now own (ap (λ (r : Readings). r.last) b.readings ∙ sym is))

pub returns-in-Err-go_on_after-clause-plans : goal.returns-in-Err-go_on_after-clause-plans
returns-in-Err-go_on_after-clause-plans c =
    λ e.
    let me = c.args.here.now.me.now in
    let now = c.args.here.now.time in
    let l : Leader = c.args.state in
    let a = c.args.answer.now in
    let m : Store = c.args.here.now.kv.now in
    let w : Readings = readings_of m in
    let own = c.own_last-own.result in
    let is : own ≡ w.last = c.own_last-own.ensures in
    let cs : List Change = learned (news_from own a.start) (news own a.start a.values.now) in
    let fit : AllByRecursion Fits cs = c.in-Ok.ensures.fit in
    let tx : List Op = c.learn_news.new.tx in
    let encodes : tx ≡ encoded cs = c.in-Ok.ensures.changes ∙ ap (λ (t : List Op). t ++ encoded cs) c.new-tx.ensures in
    let after : Readings = readings_of (apply tx m) in
    prepended-fails me now (IsHeard (phase.Collecting ∷ []) a.from e w l) (IsAsking (epoch_of after) after)
    (hear_answer me now a.from a.last a.whole a.start a.values.now a.pending.now) (goes_on me now a.from a.last a.whole a.pending.now) l cs
    (λ x b. b.role) (λ x b. learned-asks cs fit m tx encodes a.from e l x b)
    (λ x b. answer-learned me now a.from e x a.pn a.first a.last a.whole a.start a.values.now a.pending.now own (ap (λ (r : Readings). r.last) b.readings ∙ sym is) (changed cs x) (c.in-Ok.ensures.act x))
    c.in-Err-go_on_after.stop (c.in-Err-go_on_after.ensures.goes [] tt refl)

pub returns-in_ok-prepended-in-Ok-go_on_after-clause-plans : goal.returns-in_ok-prepended-in-Ok-go_on_after-clause-plans
returns-in_ok-prepended-in-Ok-go_on_after-clause-plans c =
    λ e.
    let me = c.args.here.now.me.now in
    let now = c.args.here.now.time in
    let l : Leader = c.args.state in
    let a = c.args.answer.now in
    let m : Store = c.args.here.now.kv.now in
    let w : Readings = readings_of m in
    let own = c.own_last-own.result in
    let is : own ≡ w.last = c.own_last-own.ensures in
    let cs : List Change = learned (news_from own a.start) (news own a.start a.values.now) in
    let fit : AllByRecursion Fits cs = c.in-Ok.ensures.fit in
    let tx : List Op = c.learn_news.new.tx in
    let encodes : tx ≡ encoded cs = c.in-Ok.ensures.changes ∙ ap (λ (t : List Op). t ++ encoded cs) c.new-tx.ensures in
    let after : Readings = readings_of (apply tx m) in
    let p : Plan Leader = c.in-Ok-go_on_after.plan in
    let joins = c.in_ok-prepended-in-Ok-go_on_after.ensures in
    prepended-does me now (IsHeard (phase.Collecting ∷ []) a.from e w l) (IsAsking (epoch_of after) after)
    (hear_answer me now a.from a.last a.whole a.start a.values.now a.pending.now) (goes_on me now a.from a.last a.whole a.pending.now) l cs
    (λ x b. b.role) (λ x b. learned-asks cs fit m tx encodes a.from e l x b)
    (λ x b. answer-learned me now a.from e x a.pn a.first a.last a.whole a.start a.values.now a.pending.now own (ap (λ (r : Readings). r.last) b.readings ∙ sym is) (changed cs x) (c.in-Ok.ensures.act x))
    fit p c.in_ok-prepended-in-Ok-go_on_after.field-0 (c.in-Ok-go_on_after.ensures.goes [] tt refl)
    (ap (λ (q : Plan Leader). q.tx) joins ∙ ap (λ (t : List Op). t ++ p.tx) encodes)
    (ap (λ (q : Plan Leader). q.out) joins) (ap (λ (q : Plan Leader). q.timers) joins) (ap (λ (q : Plan Leader). q.state) joins) (ap (λ (q : Plan Leader). q.next) joins)

pub returns-in_ok-prepended-in-Ok-go_on_after-clause-stays : goal.returns-in_ok-prepended-in-Ok-go_on_after-clause-stays
returns-in_ok-prepended-in-Ok-go_on_after-clause-stays c = ap (λ (q : Plan Leader). q.next) c.in_ok-prepended-in-Ok-go_on_after.ensures ∙ c.in-Ok-go_on_after.ensures.stays
