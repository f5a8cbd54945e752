use Rattle.std.proofs.Common.{ap, arith}
use Rattle.mon_bytes.specs.Forms.{fitted}
use Rattle.svc_core.proofs.Scans.{map_held}
use Rattle.svc_core.proofs.scan.map_holds.Goals as goal

pub returns : goal.returns
returns c =
    map_held c.args.bytes.now c.args.key.now c.in-Ok.count c.take_u32.new.self c.entries_hold.new.cursor c.in_ok-held.held (ap fitted (rw c.new-cursor.ensures at c.in-Ok.ensures.step)) c.in_ok-held.ensures
    (omega (arith, c.left.ensures, c.if-left-ne0.false))
