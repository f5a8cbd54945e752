use Rattle.std.proofs.Common.{Ok, subst}
use Rattle.mon_store.specs.Whole.{disk_a, disk_b}
use Rattle.mon_tx.specs.Map.{apply}
use Rattle.quorum_model.specs.Files.{after_append}
use Rattle.mon_site.specs.declared.finishing.Kept.{Kept}
use Rattle.mon_site.specs.Ending.{Keeps, on_live}
use Rattle.mon_site.proofs.Written.{wrote_all, wrote_part, memory_stops}
use Rattle.mon_site.proofs.finishing.apply_until_fault.Goals as goal

pub returns-in-Ok : goal.returns-in-Ok
returns-in-Ok c member m f faulty =
    let u = c.args.injected in
    let ops = c.args.tx.now in
    let new = c.checkpoint.new.store in
    let k = subst (λ (k : Kept). Keeps u member m f ops c.keep.new.store (Ok k)) c.in-Ok-Whole.field-0-is (c.in-Ok-Whole.ensures.keeps member m f faulty) in
    wrote_all u member m f ops (disk_a new) (disk_b new) k.1 k.0 (c.in-Ok.ensures (on_live u f) u.call u.image member (apply ops m) (after_append ops f) k.2)

pub returns-in-Err-checkpoint : goal.returns-in-Err-checkpoint
returns-in-Err-checkpoint c member m f faulty =
    let u = c.args.injected in
    let ops = c.args.tx.now in
    let k = subst (λ (k : Kept). Keeps u member m f ops c.keep.new.store (Ok k)) c.in-Ok-Whole.field-0-is (c.in-Ok-Whole.ensures.keeps member m f faulty) in
    memory_stops m ops c.in-Err-checkpoint.stop (c.in-Err-checkpoint.ensures (on_live u f) u.call u.image member (apply ops m) (after_append ops f) k.2)

pub returns-in-Ok-Cut : goal.returns-in-Ok-Cut
returns-in-Ok-Cut c member m f faulty =
    let u = c.args.injected in
    let ops = c.args.tx.now in
    let new = c.keep.new.store in
    let k = subst (λ (k : Kept). Keeps u member m f ops new (Ok k)) c.in-Ok-Cut.field-0-is (c.in-Ok-Cut.ensures.keeps member m f faulty) in
    wrote_part u member m f ops (disk_a new) (disk_b new) k.2 c.in-Ok-Cut.kept k.0 k.1 k.3 k.4
