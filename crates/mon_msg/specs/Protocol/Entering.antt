-- The acts by which a monitor begins again, and calls, joins and wins elections.
use Rattle.std.specs.Prelude.{ℕ, suc, ◌+◌, ◌*◌, Bool, true, false, not, ◌&&◌, ◌==◌, nat_lt, List, Option, Some, None, Result, Ok, if◌then◌else◌, ◌/◌, ◌%◌}
use Rattle.election_rules.specs.Ranking.{allows}
use Rattle.election_rules.specs.declared.rule.Rule.TheVariants.{Classic, Disallow, Connectivity}
use Rattle.election_rules.specs.declared.rule.Rule.{Rule}
use Rattle.election_rules.specs.declared.scores.Scores.{Scores}
use Rattle.mon_msg.specs.Protocol.Changes.{Epoch}
use Rattle.mon_msg.specs.Protocol.Collecting.{reign}
use Rattle.mon_msg.specs.Protocol.Course.{Course, ◌▸◌, ◌>>=◌, checked, change, elector_is, prober_is, forget_clients, arm, in_phase}
use Rattle.mon_msg.specs.Protocol.Readings.{epoch_of}
use Rattle.mon_msg.specs.Protocol.Sending.{others, send_each}
use Rattle.mon_msg.specs.Protocol.Sets.{only}
use Rattle.mon_wire.specs.declared.body.Body.TheVariants as body
use Rattle.mon_wire.specs.declared.phase.Phase.TheVariants as phase
use Rattle.mon_wire.specs.declared.phase.Timer.TheVariants as timer
use Rattle.mon_msg.specs.declared.view.Me.{Me}
use Rattle.mon_types.specs.Ranks.{no_ranks}
use Rattle.mon_types.specs.declared.names.Which.TheVariants as which
use Rattle.mon_types.specs.declared.names.Which.{Which}

abbrev pub is_even : ℕ → Bool
is_even e = e % 2 == 0

-- the next greater even number
abbrev pub next_even : ℕ → ℕ
next_even e = (e / 2 + 1) * 2

-- whether the rule is one by connectivity
abbrev pub scores_count : Rule → Bool
scores_count Classic = false
scores_count (Disallow ranks) = false
scores_count (Connectivity ranks) = true

-- the own table, if scores count
abbrev pub own_table : Me → Course → Option Scores
own_table me x = if scores_count me.rule then Some x.state.elector.scores else None

abbrev pub in_next_epoch : Course → Result Course Which
in_next_epoch x = do
  e ← checked which.Epoch (suc (epoch_of x.readings))
  Ok (change (Epoch e) x)

-- the epoch of an election is odd: an even epoch is followed by the next one
unfoldable pub in_odd_epoch : Course → Result Course Which
in_odd_epoch x = if is_even (epoch_of x.readings) then in_next_epoch x else Ok x

module _ (me : Me) (now : ℕ) where
  abbrev pub win_alone : Course → Result Course Which
  win_alone x = do
    e ← checked which.Epoch (next_even (epoch_of x.readings))
    x ▸ change (Epoch e) ▸ reign me now (only me.member.rank)

  -- it probes the others; if it is alone in its map, it wins, unless it may not lead or is marked
  unfoldable pub bootstrap : Course → Result Course Which
  bootstrap x =
      let y = x ▸ in_phase phase.Probing ▸ forget_clients ▸ prober_is (record { outside = only me.member.rank }) in
      if nat_lt 1 me.member.monitors then Ok (y ▸ send_each me (others me) body.Probe ▸ arm now timer.Probe) else (
      if allows me.rule me.member.rank && not x.readings.marked then win_alone y else Ok y)

  -- it calls an election, and takes part in it
  unfoldable pub elect : Course → Result Course Which
  elect x = do
    y ← in_odd_epoch x
    Ok (y
        ▸ in_phase phase.Electing
        ▸ forget_clients
        ▸ elector_is (record y.state.elector { candidate = true; acked = only me.member.rank; deferred = None })
        ▸ send_each me (others me) (body.Propose (own_table me y))
        ▸ arm now timer.Election)

  -- it won the election, and leads those who deferred to it in the next epoch
  unfoldable pub win : List Bool → Course → Result Course Which
  win acked x = do
    y ← in_next_epoch x
    reign me now acked y

-- it joins the election of a later epoch, without standing in it
unfoldable pub adopt : (now e : ℕ) → Course → Course
adopt now e x =
    x
    ▸ change (Epoch e)
    ▸ in_phase phase.Electing
    ▸ forget_clients
    ▸ elector_is (record x.state.elector { candidate = false; acked = no_ranks; deferred = None })
    ▸ arm now timer.Election
