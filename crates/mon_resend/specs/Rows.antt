-- Which messages are kept, how they are sent again, and what ends them.
use Rattle.std.specs.Prelude.{Bool, true, false, ◌&&◌, ◌||◌, ◌==◌, nat_le, nat_lt}
use Rattle.mon_decode.specs.declared.header.Header.{Header}
use Rattle.mon_decode.specs.Headers.{same_kind}
use Rattle.mon_resend.specs.declared.rows.Way.{Way}
use Rattle.mon_resend.specs.declared.rows.Way.TheVariants as way
use Rattle.mon_wire.specs.declared.kind.Kind.{Kind}
use Rattle.mon_wire.specs.declared.kind.Kind.TheVariants as kind

abbrev pub way_of : Kind → Way
way_of kind.Propose = way.ByTime
way_of kind.Victory = way.ByTime
way_of kind.Collect = way.ByTime
way_of kind.Begin = way.ByTime
way_of kind.Commit = way.ByTime
way_of kind.Lease = way.ByTime
way_of kind.Forward = way.ByTime
way_of kind.GetCookieFull = way.ByTime
way_of kind.GetCookieRecent = way.ByTime
way_of kind.GetChunk = way.ByTime
way_of kind.Accept = way.WhenAsked
way_of kind.Route = way.WhenAsked
way_of kind.Chunk = way.WhenAsked
way_of kind.LastChunk = way.WhenAsked
way_of k = way.Never

-- The epoch of a message of this kind is compared with others: a greater one ends copies of an earlier one.
abbrev pub is_of_epoch : Kind → Bool
is_of_epoch kind.ProbeReply = false
is_of_epoch kind.GetCookieFull = false
is_of_epoch kind.GetCookieRecent = false
is_of_epoch kind.Cookie = false
is_of_epoch kind.GetChunk = false
is_of_epoch kind.Chunk = false
is_of_epoch kind.LastChunk = false
is_of_epoch kind.NoCookie = false
is_of_epoch kind.Ping = false
is_of_epoch kind.PingReply = false
is_of_epoch kind.Request = false
is_of_epoch kind.Reply = false
is_of_epoch k = true

-- the questions of one who copies a store, and their long answers
abbrev pub is_copying : Kind → Bool
is_copying k = same_kind k kind.GetCookieFull || same_kind k kind.GetCookieRecent || same_kind k kind.GetChunk

abbrev pub is_chunk : Kind → Bool
is_chunk k = same_kind k kind.Chunk || same_kind k kind.LastChunk

-- whether a new message of kind `sent` to a monitor ends the copies of kind `kept` for that monitor
abbrev pub ends : (sent kept : Kind) → Bool
ends kind.Collect kept = same_kind kept kind.Collect || same_kind kept kind.Begin || same_kind kept kind.Commit || same_kind kept kind.Lease
ends kind.Begin kept = same_kind kept kind.Begin || same_kind kept kind.Collect || same_kind kept kind.Lease
ends kind.Commit kept = same_kind kept kind.Commit || same_kind kept kind.Begin || same_kind kept kind.Lease
ends kind.GetCookieFull kept = is_copying kept
ends kind.GetCookieRecent kept = is_copying kept
ends kind.GetChunk kept = is_copying kept
ends kind.Chunk kept = is_chunk kept
ends kind.LastChunk kept = is_chunk kept
ends kind.Forward kept = false
ends sent kept = same_kind kept sent

-- whether a message that arrives from a monitor answers, and so ends, a copy that is kept for it
abbrev pub is_answered_as : Kind → (kept came : Header) → Bool
is_answered_as kind.Propose kept came = is_of_epoch came.kind && (nat_lt kept.epoch came.epoch || (came.epoch == kept.epoch && same_kind came.kind kind.Ack))
is_answered_as kind.Victory kept came = same_kind came.kind kind.Last || same_kind came.kind kind.Accept || same_kind came.kind kind.LeaseAck
is_answered_as kind.Collect kept came = same_kind came.kind kind.Last && nat_le kept.first came.first
is_answered_as kind.Begin kept came = same_kind came.kind kind.Accept && came.first == kept.first && came.second == kept.second
is_answered_as kind.Commit kept came = (same_kind came.kind kind.LeaseAck && nat_le kept.second came.first) || (same_kind came.kind kind.Accept && nat_lt kept.second came.second)
is_answered_as kind.Lease kept came = same_kind came.kind kind.LeaseAck && came.first == kept.first
is_answered_as kind.Forward kept came = same_kind came.kind kind.Route && came.first == kept.first
is_answered_as kind.Chunk kept came = is_copying came.kind || same_kind came.kind kind.Probe
is_answered_as kind.LastChunk kept came = is_copying came.kind || same_kind came.kind kind.Probe
is_answered_as k kept came = false

abbrev pub is_answered : (kept came : Header) → Bool
is_answered kept came = is_answered_as kept.kind kept came

-- whether an arrived message is the question that a kept message answers
abbrev pub is_asked_as : Kind → (kept came : Header) → Bool
is_asked_as kind.Accept kept came = same_kind came.kind kind.Begin && came.epoch == kept.epoch && came.first == kept.first && came.second == kept.second
is_asked_as kind.Route kept came = same_kind came.kind kind.Forward && came.epoch == kept.epoch && came.first == kept.first
is_asked_as kind.Chunk kept came = same_kind came.kind kind.GetChunk && came.first == kept.first && came.second == kept.second
is_asked_as kind.LastChunk kept came = same_kind came.kind kind.GetChunk && came.first == kept.first && came.second == kept.second
is_asked_as k kept came = false

abbrev pub is_asked_again : (kept came : Header) → Bool
is_asked_again kept came = is_asked_as kept.kind kept came

-- whether the time of the answers to messages of this kind is measured
abbrev pub is_measured : Kind → Bool
is_measured k = same_kind k kind.Begin || same_kind k kind.Collect || same_kind k kind.Forward
