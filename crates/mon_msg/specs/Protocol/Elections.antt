-- The rows of elections.
use Rattle.std.specs.Prelude.{ℕ, suc, Bool, true, false, not, ◌&&◌, ◌||◌, ◌==◌, nat_le, nat_lt, List, Option, Some, None, Result, Ok, if◌then◌else◌, is_some}
use Rattle.election_rules.specs.Ranking.{allows, outranks}
use Rattle.election_rules.specs.Table.{merged}
use Rattle.election_rules.specs.declared.scores.Scores.{Scores}
use Rattle.mon_msg.specs.Protocol.Changes.{Epoch}
use Rattle.mon_msg.specs.Protocol.Course.{Course, ◌▸◌, dropped, nothing_more, change, elector_is, peon_is, arm, in_phase}
use Rattle.mon_msg.specs.Protocol.Entering.{is_even, elect, adopt, win}
use Rattle.mon_msg.specs.Protocol.Phases.{same_phase, votes}
use Rattle.mon_msg.specs.Protocol.Readings.{epoch_of}
use Rattle.mon_msg.specs.Protocol.Sending.{send}
use Rattle.mon_msg.specs.Protocol.State.{quorum_of}
use Rattle.mon_wire.specs.declared.body.Body.TheVariants as body
use Rattle.mon_wire.specs.declared.phase.Phase.TheVariants as phase
use Rattle.mon_wire.specs.declared.phase.Timer.TheVariants as timer
use Rattle.mon_msg.specs.declared.view.Me.{Me}
use Rattle.mon_types.specs.Ranks.{no_ranks, has, with_rank, count_of, is_majority}
use Rattle.mon_types.specs.declared.names.Which.{Which}

-- ---- tables of scores

-- the table that a message has, or otherwise the own one
abbrev pub table_or : Option Scores → Scores → Scores
table_or None own = own
table_or (Some table) own = table

abbrev pub merged_if_sent : Option Scores → Scores → Scores
merged_if_sent None own = own
merged_if_sent (Some table) own = merged own table

abbrev pub merge : Option Scores → Course → Course
merge table x = elector_is (record x.state.elector { scores = merged_if_sent table x.state.elector.scores }) x

-- ---- candidates

module _ (me : Me) where
  abbrev pub is_allowed : ℕ → Bool
  is_allowed k = allows me.rule k

  -- whether a is before b, by the table that a message has
  abbrev pub stands_before : Scores → (a b : ℕ) → Bool
  stands_before table a b = outranks me.rule me.member.monitors table a b

  -- whether it may defer to f
  abbrev pub may_defer : Scores → (f : ℕ) → Option ℕ → Bool
  may_defer table f None = true
  may_defer table f (Some other) = f == other || stands_before table f other

  abbrev pub defer_to : (f : ℕ) → Course → Course
  defer_to f x =
      x
      ▸ elector_is (record x.state.elector { candidate = false; acked = no_ranks; deferred = Some f })
      ▸ send me f body.Ack

  -- whether all of the map deferred to it
  abbrev pub is_whole : List Bool → Bool
  is_whole acked = count_of acked == me.member.monitors

module _ (me : Me) (now : ℕ) where
  -- a candidate of this epoch: the monitor defers to it, stands itself, or does nothing
  abbrev pub weigh : Scores → (f : ℕ) → Course → Result Course Which
  weigh table f x =
      let elector = x.state.elector in
      if is_allowed me f && stands_before me table f me.member.rank
      then (if may_defer me table f elector.deferred then Ok (defer_to me f x) else nothing_more x)
      else (if not (is_some elector.deferred) && not elector.candidate then elect me now x else nothing_more x)

  -- a candidate of an earlier epoch: if the own epoch is even and the own quorum lacks the candidate, an election is
  -- called
  abbrev pub hear_earlier : (f : ℕ) → Course → Result Course Which
  hear_earlier f x =
      if is_even (epoch_of x.readings) && not (has (quorum_of x.state) f) then elect me now x else dropped x

  unfoldable pub hear_propose : (f e : ℕ) → Option Scores → Course → Result Course Which
  hear_propose f e table x =
      let told = table_or table x.state.elector.scores in
      if not (votes x.state.phase) || is_even e then dropped x else (
      if nat_lt e (epoch_of x.readings) then hear_earlier f x else (
      if nat_lt (epoch_of x.readings) e
      then weigh told f (merge table (adopt now e x))
      else weigh told f (merge table x)))

  abbrev pub count_ack : (f : ℕ) → Course → Result Course Which
  count_ack f x =
      let acked = with_rank x.state.elector.acked f in
      let y = x ▸ elector_is (record x.state.elector { acked = acked }) in
      if is_whole me acked && is_allowed me me.member.rank then win me now acked y else Ok y

  unfoldable pub hear_ack : (f e : ℕ) → Course → Result Course Which
  hear_ack f e x =
      if not (votes x.state.phase) || is_even e || nat_lt e (epoch_of x.readings) then dropped x else (
      if nat_lt (epoch_of x.readings) e then elect me now (adopt now e x) else (
      if x.state.elector.candidate then count_ack f x else dropped x))

  -- the election's time is over: a candidate with a majority wins, and any other monitor calls an election again
  unfoldable pub election_ends : Course → Result Course Which
  election_ends x =
      let elector = x.state.elector in
      let may_win = elector.candidate && is_allowed me me.member.rank && is_majority me.member.monitors elector.acked in
      if not (same_phase x.state.phase phase.Electing) then nothing_more x else (
      if may_win then win me now elector.acked x else elect me now x)

-- ---- victories

-- it follows the leader f in its quorum
abbrev pub follow : (now f e : ℕ) → List Bool → Course → Course
follow now f e q x =
    x
    ▸ change (Epoch e)
    ▸ in_phase phase.Peon
    ▸ peon_is (record { leader = f; quorum = q; lease = None })
    ▸ arm now timer.Lease

unfoldable pub hear_victory : Me → (now f e : ℕ) → List Bool → Course → Result Course Which
hear_victory me now f e q x =
    let counts = has q me.member.rank && has q f && is_majority me.member.monitors q in
    if not (votes x.state.phase) || not (is_even e) || nat_le e (epoch_of x.readings) then dropped x else (
    if not (e == suc (epoch_of x.readings)) then elect me now (change (Epoch e) x) else (
    if counts then Ok (follow now f e q x) else dropped x))
