use Rattle.std.proofs.Common.{sym, ◌∙◌}
use Rattle.mon_site.proofs.AtRest.{file_a, file_b}
use Rattle.mon_site.proofs.resting.opening_count.Goals as goal

pub returns-clause-count : goal.returns-clause-count
returns-clause-count c member m f rests =
    let a = c.args.disks.now.a in
    let b = c.args.disks.now.b in
    c.count.ensures f (file_a member m f a b rests ∙ sym c.in_ok-a.ensures.open) (file_b member m f a b rests ∙ sym c.in_ok-b.ensures.open)
