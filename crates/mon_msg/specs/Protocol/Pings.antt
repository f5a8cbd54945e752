-- The rows by which monitors measure their connections.
use Rattle.std.specs.Prelude.{ℕ, Bool, List, Option, Some, None, Result, Ok, if◌then◌else◌, [], ◌∷◌, ◌-◌, ◌/◌}
use Rattle.election_rules.specs.Table.{merged, raised, lowered, scored}
use Rattle.election_rules.specs.declared.scores.Scores.{Scores}
use Rattle.mon_msg.specs.Protocol.Course.{Course, ◌▸◌, dropped, elector_is, arm}
use Rattle.mon_msg.specs.Protocol.Entering.{own_table}
use Rattle.mon_msg.specs.Protocol.Sending.{others, send, send_each}
use Rattle.mon_wire.specs.declared.body.Body.TheVariants as body
use Rattle.mon_msg.specs.declared.election.Elector.{Elector}
use Rattle.mon_wire.specs.declared.phase.Timer.TheVariants as timer
use Rattle.mon_msg.specs.declared.view.Me.{Me}
use Rattle.mon_types.specs.Ranks.{no_ranks, has, with_rank}
use Rattle.mon_types.specs.declared.names.Which.{Which}

-- the table after this many seconds: the own score of each of these ranks is raised if the rank was heard, and
-- otherwise lowered
abbrev pub scores_after : (seconds : ℕ) → (heard : List Bool) → List ℕ → Scores → Scores
scores_after seconds heard [] table = table
scores_after seconds heard (k ∷ ks) table =
    scores_after seconds heard ks (scored (if has heard k then raised seconds else lowered seconds) k table)

-- f was heard, and its table is merged
abbrev pub with_heard : (f : ℕ) → Scores → Elector → Elector
with_heard f table elector = record elector { scores = merged elector.scores table; heard = with_rank elector.heard f }

abbrev pub note_table : (f : ℕ) → Scores → Course → Course
note_table f table x = elector_is (with_heard f table x.state.elector) x

unfoldable pub hear_ping : Me → (f : ℕ) → Option Scores → Course → Result Course Which
hear_ping me f None x = dropped x
hear_ping me f (Some table) x = let y = note_table f table x in Ok (send me f (body.PingReply (own_table me y)) y)

unfoldable pub hear_ping_reply : (f : ℕ) → Option Scores → Course → Result Course Which
hear_ping_reply f None x = dropped x
hear_ping_reply f (Some table) x = Ok (note_table f table x)

module _ (me : Me) (now : ℕ) where
  -- the scores after the time since the last pings; from now on nobody was heard
  abbrev pub measure : Elector → Elector
  measure elector = record elector {
    scores = scores_after ((now - elector.pinged) / 1000) elector.heard (others me) elector.scores;
    heard = no_ranks;
    pinged = now;
  }

  -- the connections are measured, and all others are pinged again
  unfoldable pub ping : Course → Result Course Which
  ping x =
      let y = x ▸ elector_is (measure x.state.elector) in
      Ok (y ▸ send_each me (others me) (body.Ping (own_table me y)) ▸ arm now timer.Ping)
