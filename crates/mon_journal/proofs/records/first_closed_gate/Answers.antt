use Rattle.std.proofs.Common.{◌+◌, ◌<◌, ◌^◌, ℕ, List, Option, None, Ok, subst, ◌∙◌, arith}
use Rattle.std.specs.Prelude.{IfSome}
use Rattle.mon_journal.specs.Content.{HeadAt}
use Rattle.mon_journal.specs.Pieces.{left_at}
use Rattle.mon_journal.proofs.Looking.{then_reads}
use Rattle.mon_journal.proofs.Gathering.{goes_on}
use Rattle.mon_journal.proofs.records.first_closed_gate.Goals as goal

pub overflow_add-at-in-loop-length : goal.overflow_add-at-in-loop-length
overflow_add-at-in-loop-length g c =
    let fits : c.loop-length.at + 5 + c.in-Some.length < 2 ^ 64 = subst (λ (o : Option ℕ). IfSome o (λ n. c.loop-length.at + 5 + n < 2 ^ 64)) c.in-Some.is c.in_ok-length.ensures.fits in
    omega (arith, fits)

pub loop-length-preserved : goal.loop-length-preserved
loop-length-preserved g c =
    let l = c.loop-length in
    let s = (g.D.Disk.state c.args.disk.now).content.seen in
    let observed = subst (λ (t : Option (List ℕ)). IfSome t (λ file. HeadAt (Ok c.in_ok-length.field-0) (left_at l.at file))) l.invariant.disk.seen c.in_ok-length.ensures.head in
    let head = subst (λ (o : Option ℕ). IfSome s (λ file. HeadAt (Ok o) (left_at l.at file))) c.in-Some.is observed in
    record {
      disk = then_reads None (g.D.Disk.state c.args.disk.now) (g.D.Disk.state l.disk) (g.D.Disk.state c.length_at.new.disk) l.invariant.disk c.in_ok-length.ensures.disk;
      on = c.in_ok-length.ensures.on;
      end = c.in_ok-length.ensures.end ∙ l.invariant.end;
      records = goes_on s l.at c.in-Some.length (l.at + (5 + c.in-Some.length)) (omega arith) l.invariant.records head;
    }
