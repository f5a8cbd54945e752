-- What a monitor does at messages and at requests.
use Rattle.std.specs.Prelude.{ℕ, Bool, true, not, ◌&&◌, ◌==◌, List, Option, Some, None, Result, if◌then◌else◌}
use Rattle.election_rules.specs.declared.scores.Scores.{Scores}
use Rattle.mon_bytes.specs.declared.command.Command.TheVariants as command
use Rattle.mon_bytes.specs.declared.entry.Entry.{Entry}
use Rattle.mon_msg.specs.Protocol.Commands.{ask, hear_forward, hear_route}
use Rattle.mon_msg.specs.Protocol.Chunks.{hear_chunk, hear_last_chunk}
use Rattle.mon_msg.specs.Protocol.Copying.{hear_cookie, hear_no_cookie}
use Rattle.mon_msg.specs.Protocol.Course.{Course, dropped}
use Rattle.mon_msg.specs.Protocol.Elections.{hear_propose, hear_ack, hear_victory}
use Rattle.mon_msg.specs.Protocol.Entering.{scores_count}
use Rattle.mon_msg.specs.Protocol.Leader.{hear_last, hear_accept, hear_lease_ack}
use Rattle.mon_msg.specs.Protocol.Peon.{hear_collect, hear_begin, hear_commit, hear_lease}
use Rattle.mon_msg.specs.Protocol.Pings.{hear_ping, hear_ping_reply}
use Rattle.mon_msg.specs.Protocol.Probing.{hear_probe, hear_probe_reply}
use Rattle.mon_msg.specs.Protocol.Providing.{hear_get_cookie_full, hear_get_cookie_recent, hear_get_chunk}
use Rattle.mon_msg.specs.Protocol.Reads.{shown, since, read}
use Rattle.mon_wire.specs.declared.body.Body.TheVariants as body
use Rattle.mon_wire.specs.declared.body.Body.{Body}
use Rattle.mon_wire.specs.declared.message.Message.{Message}
use Rattle.mon_wire.specs.declared.request.Request.TheVariants as request
use Rattle.mon_wire.specs.declared.request.Request.{Request}
use Rattle.mon_wire.specs.declared.request.Session.{Session}
use Rattle.mon_msg.specs.declared.view.Me.{Me}
use Rattle.mon_types.specs.declared.names.Which.{Which}

-- ---- which messages are heard

module _ (me : Me) where
  -- a table is sent if and only if scores count
  abbrev pub fits_rule : Option Scores → Bool
  fits_rule None = not (scores_count me.rule)
  fits_rule (Some table) = scores_count me.rule

  abbrev pub has_fitting_table : Body → Bool
  has_fitting_table (body.Propose table) = fits_rule table
  has_fitting_table (body.Ping table) = fits_rule table
  has_fitting_table (body.PingReply table) = fits_rule table
  has_fitting_table b = true

  -- a message of another monitor, of a map of as many monitors, with a table if and only if scores count
  abbrev pub is_heard : Message → Bool
  is_heard m = not (m.from == me.member.rank) && m.monitors == me.member.monitors && has_fitting_table m.body

module _ (me : Me) (shared : List Entry) (now : ℕ) where
  -- what a monitor does at a body from another monitor f in its epoch e; requests and replies are dropped
  abbrev pub hear : (f e : ℕ) → Body → Course → Result Course Which
  hear f e body.Probe x = hear_probe me f x
  hear f e (body.ProbeReply quorum first last) x = hear_probe_reply me now f quorum first last x
  hear f e (body.Propose table) x = hear_propose me now f e table x
  hear f e body.Ack x = hear_ack me now f e x
  hear f e (body.Victory quorum) x = hear_victory me now f e quorum x
  hear f e (body.Collect pn first last) x = hear_collect me now f e pn first last x
  hear f e (body.Last pn first last whole from values pending) x =
      hear_last me now f e pn first last whole from values pending x
  hear f e (body.Begin pn v value) x = hear_begin me f e pn v value x
  hear f e (body.Accept pn v) x = hear_accept me now f e pn v x
  hear f e (body.Commit from values) x = hear_commit f e from values x
  hear f e (body.Lease last) x = hear_lease me now f e last x
  hear f e (body.LeaseAck last) x = hear_lease_ack me f e last x
  hear f e (body.Forward seq c) x = hear_forward me now f e seq c x
  hear f e (body.Route seq r) x = hear_route f e seq r x
  hear f e body.GetCookieFull x = hear_get_cookie_full me f x
  hear f e (body.GetCookieRecent last) x = hear_get_cookie_recent me f last x
  hear f e (body.Cookie full cookie last) x = hear_cookie me now f full cookie last x
  hear f e (body.GetChunk cookie place) x = hear_get_chunk me shared f cookie place x
  hear f e (body.Chunk cookie place values entries done) x = hear_chunk me now f cookie place values entries done x
  hear f e (body.LastChunk cookie place values entries last) x =
      hear_last_chunk me now f cookie place values entries last x
  hear f e (body.NoCookie cookie) x = hear_no_cookie me now f cookie x
  hear f e (body.Ping table) x = hear_ping me f table x
  hear f e (body.PingReply table) x = hear_ping_reply f table x
  hear f e (body.Request id r) x = dropped x
  hear f e (body.Reply id r) x = dropped x

  abbrev pub deliver : Message → Course → Result Course Which
  deliver m x = if is_heard me m then hear m.from m.epoch m.body x else dropped x

-- ---- what a client asks

module _ (me : Me) (now : ℕ) where
  unfoldable pub hear_client : Session → Request → Course → Result Course Which
  hear_client session (request.Set key value) x = ask me now session (command.Set key value) x
  hear_client session (request.Remove key) x = ask me now session (command.Remove key) x
  hear_client session (request.Log text) x = ask me now session (command.Log text) x
  hear_client session (request.Show s) x = read me now session (λ w. shown w s) x
  hear_client session (request.Since s v) x = read me now session (λ w. since w s v) x
