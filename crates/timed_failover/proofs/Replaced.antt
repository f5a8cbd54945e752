-- A lost leader is replaced: the members that it deserted join an election, and one of them wins it.
use Rattle.law_names.proofs.Runs.{Event, Monitors, Reached}
use Rattle.quorum_stays.specs.Reading.{ClocksGoOn}
use Rattle.quorum_stays.specs.Steady.{Reign, Round, Steady}
use Rattle.quorum_timed.specs.Begins.{Begins, IsQuick}
use Rattle.quorum_timed.specs.Timed.{Leads, Pace, Timed}
use Rattle.std.proofs.Common.{Bool, List, ap, arith, suc, sym, ℕ, ◌*◌, ◌++◌, ◌+◌, ◌<◌, ◌^◌, ◌∙◌, ◌≤◌}
use Rattle.std.proofs.lemmas.List.{append_assoc}
use Rattle.timed_election.proofs.JoiningRun.{joined_by}
use Rattle.timed_election.proofs.Leaving.{leaves_votes}
use Rattle.timed_election.proofs.Parts.{joined}
use Rattle.timed_election.specs.Election.{CanElect}
use Rattle.timed_election.specs.Joining.{JoinBy}
use Rattle.timed_election.specs.Keeping.{IsWonWithin}
use Rattle.timed_failover.proofs.Deserting.{deserted}
use Rattle.timed_failover.specs.Failover.{IsReplacedBy, IsWithout, NoCallIsUnderWay, from_time}

module _ (ms : Monitors) (full q : List Bool) (pace : Pace) (earlier best : ℕ) (reign : Reign) (r : Round) (t last : Timed) (more : List (ℕ × Event)) (quick : IsQuick pace) (short : pace.delay < 1000)
    (R : Reached ms t.world) (S : Steady ms full (from_time earlier pace) reign r t) (W : IsWithout full q reign.leader) (C : CanElect ms q best) (B : Begins ms q pace t) (quiet : NoCallIsUnderWay q t)
    (fits : suc reign.epoch ≤ 2 ^ 62) (L : Leads ms q pace t more last) (room : ClocksGoOn q pace last.time) (late : pace.since + 15000 + 2 * pace.delay + 2 * pace.late < last.time) where
  pub joins : JoinBy ms q pace best (suc reign.epoch) t last more (pace.since + 10000 + pace.late + 2 * pace.delay)
  joins = joined_by ms q pace best reign.epoch (pace.since + 10000) t last more quick (omega arith) C (deserted ms full q pace earlier reign r t R S W B quiet fits) L room (omega arith)

  pub replaced : IsReplacedBy ms q pace best (suc reign.epoch) t last more (pace.since + 15000 + 2 * pace.delay + 2 * pace.late)
  replaced =
      let J = joins in
      let by = J.by in
      let V : IsWonWithin ms q pace J.election J.reached last J.after (J.election.by + 5000 + pace.late) = leaves_votes ms q pace quick short J.election J.reached J.elects J.soon last J.after J.rest room (omega arith) in
      let at = V.by in record {
        before = J.before ++ V.before;
        after = V.after;
        parts = J.parts ∙ ap (λ (z : List (ℕ × Event)). J.before ++ z) V.parts ∙ sym (append_assoc J.before V.before V.after);
        reached = V.reached;
        run = joined ms q pace J.before t J.reached V.reached V.before J.run V.run;
        rest = V.rest;
        by = omega arith;
        election = J.election;
        epoch_is = J.epoch_is;
        best_is = J.best_is;
        won = V.won;
        votes = V.votes;
      }
