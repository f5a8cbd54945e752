use Rattle.std.proofs.Common.{arith, length-drop, ◌∙◌}
use Rattle.std.proofs.lemmas.List.{take_rest}
use Rattle.mon_link.proofs.Fronts.{front_more}
use Rattle.mon_link.proofs.whole.write_all.Goals as goal

pub loop-done-preserved : goal.loop-done-preserved
loop-done-preserved g c = record {
  later = omega (arith, c.in_ok-done.ensures.cause.later);
  most = omega (arith, c.in_ok-done.ensures.bound, length-drop c.loop-done.done c.args.bytes.now);
  put = front_more _ _ _ c.args.bytes.now c.loop-done.done c.in_ok-done.field-0 c.loop-done.invariant.put (rw take_rest at c.in_ok-done.ensures.bytes);
  visible = c.in_ok-done.ensures.visible ∙ c.loop-done.invariant.visible;
}
