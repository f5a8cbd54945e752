use Rattle.std.proofs.Common.{◌≡◌, ◌-◌}
use Rattle.mon_msg.specs.Protocol.Readings.{readings_of}
use Rattle.mon_msg.specs.Protocol.Replay.{more_of}
use Rattle.sync_requester.proofs.ReplayLaws.{onto}
use Rattle.sync_requester.proofs.replay.with_more.Given as goal

abbrev pub invariant-loop-v : goal.invariant-loop-v
invariant-loop-v l =
    onto l.all (more_of (readings_of l.stored).record_of (l.fn.to - l.v) l.left l.v)
    ≡ onto l.fn.values (more_of (readings_of l.stored).record_of (l.fn.to - l.fn.from) l.fn.room l.fn.from)
