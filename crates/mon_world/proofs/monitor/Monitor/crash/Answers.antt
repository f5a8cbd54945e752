use Rattle.std.proofs.Common.{◌≡◌, Option, Some, None, Ok, Err, refl, sym, subst}
use Rattle.std.proofs.lemmas.Result.{err_from_is_err_and}
use Rattle.mon_msg.specs.Protocol.Reaction.{reaction}
use Rattle.mon_msg.specs.declared.view.Me.{Me}
use Rattle.mon_world.specs.Monitor.{Holds}
use Rattle.mon_world.specs.declared.crash.Written.{Written}
use Rattle.mon_world.proofs.Downing.{down_kept, down_lost, crashes_itself}
use Rattle.mon_world.proofs.monitor.Monitor.crash.Goals as goal

pub crash_within-requires-clause-held : goal.crash_within-requires-clause-held
crash_within-requires-clause-held c =
    let x = c.requires.stands in (x.1, x.2, x.3, subst (λ (me : Me). Holds me x.1 x.2 x.3 c.args.self.now.kept) (sym x.4.me_is) x.4.holds)

pub returns-in_err-disks : goal.returns-in_err-disks
returns-in_err-disks c me m s to f stands at =
    let p = err_from_is_err_and c.from_residual.result c.from_residual.ensures.1 in
    rw (p.1, p.2) (crashes_itself c.args.injected m s f c.args.input.now c.args.now (Err c.in_err-disks.field-0.0) c.args.self.now me to stands at (c.in_err-disks.ensures m s to f))

pub returns-in-Some : goal.returns-in-Some
returns-in-Some c me m s to f stands at =
    let came = c.args.input.now in
    let remains = c.in_ok-disks.field-0 in
    let is = crashes_itself c.args.injected m s f came c.args.now (Ok remains) c.args.self.now me to stands at (c.in_ok-disks.ensures m s to f) in
    let kept : c.in_ok-disks.field-0.kept ≡ Some c.in-Some.written = cc in
    down_kept c.args.injected me m f came (reaction me c.args.now m to came) remains is _ stands.me_is c.put.ensures c.in-Some.written kept refl

pub returns-in-None : goal.returns-in-None
returns-in-None c me m s to f stands at =
    let came = c.args.input.now in
    let remains = c.in_ok-disks.field-0 in
    let is = crashes_itself c.args.injected m s f came c.args.now (Ok remains) c.args.self.now me to stands at (c.in_ok-disks.ensures m s to f) in
    let kept : ◌≡◌ {A = Option Written} c.in_ok-disks.field-0.kept None = cc in
    down_lost c.args.injected me m f came (reaction me c.args.now m to came) remains is _ stands.me_is c.put.ensures kept stands.last
