use Rattle.std.proofs.Common.{◌≡◌, ℕ, suc, ◌≤◌, ◌<◌, ◌^◌, List, [], ◌∷◌, ◌++◌, length, Some, Ok, Err, refl, sym, ap, subst, ◌∙◌, arith}
use Rattle.std.specs.List.{AllByRecursion}
use Rattle.mon_msg.specs.Protocol.Changes.{Change, encoded}
use Rattle.mon_msg.specs.Protocol.Course.{Course}
use Rattle.mon_msg.specs.Protocol.Leading.{commit}
use Rattle.mon_msg.specs.Protocol.Learning.{learn}
use Rattle.mon_msg.specs.Protocol.Played.{Fits}
use Rattle.mon_msg.specs.Protocol.Readings.{Readings, readings_of, epoch_of}
use Rattle.mon_msg.specs.declared.paxos.Leader.{Leader}
use Rattle.mon_tx.specs.Map.{Store, apply}
use Rattle.mon_tx.specs.Text.{text, most}
use Rattle.mon_tx.specs.declared.op.Op.{Op}
use Rattle.mon_plan.specs.Learned.{Learns, learned}
use Rattle.mon_plan.specs.Plans.{changed}
use Rattle.paxos_leader.specs.Drafts.{GoesOn, IsHere, IsVoted, under_way}
use Rattle.paxos_leader.specs.Parts.{announced}
use Rattle.paxos_leader.proofs.Acting.{over}
use Rattle.paxos_leader.proofs.Committing.{commit-over, commit-fails, commit-announces, committed-here}
use Rattle.paxos_leader.proofs.Going.{hands_on}
use Rattle.paxos_leader.proofs.values.commit.Goals as goal

pub learn-requires : goal.learn-requires
learn-requires c =
    let one : c.as_slice.result.now ≡ c.args.value ∷ [] = c.as_slice.ensures ∙ c.in_ok-values.ensures in
    record {
      short = subst (AllByRecursion (λ (ops : List Op). length (text ops) ≤ most)) (sym one) (c.requires, tt);
      from = omega (arith, c.get.ensures.value, c.in-Some.ensures.value);
      room = omega (arith, ap length one, c.get.ensures.most);
    }

pub returns-in_default-clause-goes : goal.returns-in_default-clause-goes
returns-in_default-clause-goes c =
    λ cs fits is x b.
    let w : Readings = readings_of c.args.here.now.kv.now in
    let own : c.own_last.result ≡ w.last = c.own_last.ensures in
    commit-over c.args.here.now.me.now c.args.here.now.time c.args.value w.last (under_way cs [] (record c.args.state { value = Some c.args.value }) x) (ap (λ (r : Readings). r.last) b.readings)
    (subst (λ (n : ℕ). 2 ^ 62 < suc n) own (over c.own_last.result c.in_default.ensures.valid.1))

pub returns-in-Err-clause-goes : goal.returns-in-Err-clause-goes
returns-in-Err-clause-goes c =
    let w : Readings = readings_of c.args.here.now.kv.now in
    let own : c.own_last.result ≡ w.last = c.own_last.ensures in
    commit-fails c.args.here.now.me.now c.args.here.now.time c.args.value w (record { tx = []; out = []; state = record c.args.state { value = Some c.args.value } }) c.in-Some.version
    (omega (arith, own, c.in-Some.ensures.value)) c.in-Err.stop
    (subst (λ (vs : List (List Op)). Learns c.in-Some.version vs (Err c.in-Err.stop)) (c.as_slice.ensures ∙ c.in_ok-values.ensures)
    (subst (λ (v : ℕ). Learns v c.as_slice.result.now (Err c.in-Err.stop)) c.get.ensures.value c.in-Err.ensures.act))

pub returns-clause-goes : goal.returns-clause-goes
returns-clause-goes c =
    let me = c.args.here.now.me.now in
    let now = c.args.here.now.time in
    let m : Store = c.args.here.now.kv.now in
    let w : Readings = readings_of m in
    let v = c.in-Some.version in
    let value = c.args.value in
    let l : Leader = c.args.state in
    let own : c.own_last.result ≡ w.last = c.own_last.ensures in
    let is : v ≡ suc w.last = omega (arith, own, c.in-Some.ensures.value) in
    let one : c.as_slice.result.now ≡ value ∷ [] = c.as_slice.ensures ∙ c.in_ok-values.ensures in
    let cs : List Change = learned v (value ∷ []) in
    let same : learned c.get.result c.as_slice.result.now ≡ cs = λ i. learned (c.get.ensures.value i) (one i) in
    let fit : AllByRecursion Fits cs = subst (AllByRecursion Fits) same c.in-Ok.ensures.fit in
    let tx : List Op = c.learn.new.tx in
    let encodes : tx ≡ encoded cs = c.in-Ok.ensures.changes ∙ ap (λ (t : List Op). t ++ encoded (learned c.get.result c.as_slice.result.now)) c.new-tx.ensures ∙ ap encoded same in
    let learns : (y : Course) → learn v (value ∷ []) y ≡ Ok (changed cs y) =
    λ (y : Course). (λ i. learn (sym c.get.ensures.value i) (sym one i) y) ∙ c.in-Ok.ensures.act y ∙ ap (λ (ds : List Change). Ok (changed ds y)) same in
    let after : Readings = readings_of (apply tx m) in
    hands_on me now (IsVoted w) (record { tx = []; out = []; state = record l { value = Some value } }) (commit me now value)
    (IsHere (epoch_of after) after.last) (record { tx = tx; out = []; state = l }) (announced me now v (value ∷ [])) cs fit [] encodes refl
    (λ y b r. committed-here v value fit m tx encodes l y b)
    (λ y b r. commit-announces me now value v y (is ∙ sym (ap (λ (r : Readings). suc r.last) b.readings)) l r b.phase (learns y))
    (Ok c.in_ok-announce_after.field-0)
    (subst (λ (vs : List (List Op)). GoesOn me now (IsHere (epoch_of after) after.last) (record { tx = tx; out = []; state = l }) (announced me now v vs) (Ok c.in_ok-announce_after.field-0)) c.in_ok-values.ensures c.in_ok-announce_after.ensures.goes)
