use Rattle.std.proofs.Common.{◌≡◌, ◌++◌, take, string_bytes}
use Rattle.std.specs.List.{flat_map}
use Rattle.trace_text.specs.Trace.{reply_line}
use Rattle.trace_text.proofs.trace.put_replies.Given as goal

abbrev pub invariant-loop-replied : goal.invariant-loop-replied
invariant-loop-replied l = string_bytes l.out ≡ string_bytes l.fn.out ++ flat_map reply_line (take l.replied-index l.replies)
