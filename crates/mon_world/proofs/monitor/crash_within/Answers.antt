use Rattle.mon_msg.specs.Protocol.Readings.{readings_of}
use Rattle.mon_world.proofs.Downing.{crashes_as, follows_each, remembers}
use Rattle.mon_world.proofs.Remembering.{start_boots}
use Rattle.mon_world.proofs.monitor.crash_within.Goals as goal

pub core_at-core-requires : goal.core_at-core-requires
core_at-core-requires c = let x = c.requires.held in (c.take-disks.ensures.takes x.0 x.1 x.2 x.3).me_is

pub crash-remains-requires-clause-rests : goal.crash-remains-requires-clause-rests
crash-remains-requires-clause-rests c = let x = c.requires.held in (x.0, x.2, (c.take-disks.ensures.takes x.0 x.1 x.2 x.3).rests)

pub crash-remains-requires-clause-follows : goal.crash-remains-requires-clause-follows
crash-remains-requires-clause-follows c n g rests =
    let x = c.requires.held in
    let t = c.take-disks.ensures.takes x.0 x.1 x.2 x.3 in
    let d = c.take-disks.result.disks in
    let core = c.core_at-core in
    follows_each c.args.me.now.member x.0 n x.2 g d.a d.b core.result.cache t.rests (core.ensures.follows (readings_of x.0) t.follows) rests

pub crash-remains-requires-clause-starts : goal.crash-remains-requires-clause-starts
crash-remains-requires-clause-starts c starting =
    start_boots c.args.me.now.member.rank c.take-disks.result.core.state c.core_at-core.result.state c.args.input.now starting c.core_at-core.ensures.state

pub returns : goal.returns
returns c m s to f holds at =
    let me = c.args.me.now in
    let came = c.args.input.now in
    let core = c.core_at-core.result in
    let t = c.take-disks.ensures.takes m s f holds in
    let state = remembers me s came c.take-disks.result.core.state core.state to t.state c.core_at-core.ensures.state at in
    crashes_as c.args.injected m f came c.args.now c.crash-remains.result core me to c.core_at-core.ensures.me state (c.crash-remains.ensures m f t.rests)
