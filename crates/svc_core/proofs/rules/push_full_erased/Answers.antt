use Rattle.std.proofs.Common.{◌++◌, ◌-◌, sym, ◌∙◌}
use Rattle.svc_core.proofs.Fulls.{erasures, erased, passed}
use Rattle.svc_core.proofs.rules.push_full_erased.Goals as goal
use Rattle.svc_core.proofs.rules.push_full_erased.Goals.{then-has_full+in_ok-erase, else-has_full}

pub loop-v-preserved : goal.loop-v-preserved
loop-v-preserved c =
    let all = c.args.tx.now ++ erasures c.args.area c.args.from (c.args.to - c.args.from) in
    elim c.if-has_full.branch [
      | then-has_full+in_ok-erase w ↦
          rw (w.tx-is, w.in_ok-erase.ensures.ok) (erased c.loop-v.tx all c.args.area c.loop-v.v c.args.to c.loop-v-test.true (sym c.has_full.ensures ∙ w.if-has_full.true) c.loop-v.invariant)
      | else-has_full w ↦ rw w.tx-is (passed c.loop-v.tx all c.args.area c.loop-v.v c.args.to c.loop-v-test.true (sym c.has_full.ensures ∙ w.if-has_full.false) c.loop-v.invariant)
    ]
