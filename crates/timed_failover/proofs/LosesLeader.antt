-- A quorum that loses its leader serves again: its other members join an election, and the winner serves.
use Rattle.law_names.proofs.Runs.{Event, Monitors, Reached}
use Rattle.law_names.proofs.Table.{has}
use Rattle.quorum_stays.specs.Reading.{ClocksGoOn}
use Rattle.quorum_stays.specs.Steady.{Reign, Round, Steady}
use Rattle.quorum_timed.specs.Begins.{Begins, IsQuick}
use Rattle.quorum_timed.specs.Timed.{Leads, Pace, Timed}
use Rattle.std.proofs.Common.{Bool, List, arith, length, subst, suc, sym, true, ℕ, ◌*◌, ◌+◌, ◌<◌, ◌^◌, ◌∙◌, ◌≡◌, ◌≤◌}
use Rattle.std.proofs.lemmas.Bool.{false≢true}
use Rattle.timed_election.specs.Election.{CanElect}
use Rattle.timed_election.specs.Joining.{JoinBy}
use Rattle.timed_failover.proofs.Between.{begins_between}
use Rattle.timed_failover.proofs.Led.{several}
use Rattle.timed_failover.proofs.LedWorlds.{led_are_stocked}
use Rattle.timed_failover.proofs.Regained.{AreStocked, regained}
use Rattle.timed_failover.proofs.Replaced.{joins}
use Rattle.timed_failover.proofs.Stocked.{last_value}
use Rattle.timed_failover.specs.Failover.{IsWithout, NoCallIsUnderWay, SteadyBy, from_time}

module _ (ms : Monitors) (full q : List Bool) (pace : Pace) (earlier best : ℕ) (reign : Reign) (r : Round) (t last : Timed) (more : List (ℕ × Event)) (quick : IsQuick pace) (short : 4 * pace.delay ≤ 3000)
    (R : Reached ms t.world) (S : Steady ms full (from_time earlier pace) reign r t) (W : IsWithout full q reign.leader) (C : CanElect ms q best) (ranks : length q ≡ 15) (B : Begins ms q pace t) (quiet : NoCallIsUnderWay q t)
    (fits : suc reign.epoch ≤ 2 ^ 62) (few : suc (suc r.version) ≤ 2 ^ 62) (L : Leads ms q pace t more last) (room : ClocksGoOn q pace last.time) (late : pace.since + 15000 + 6 * pace.delay + 2 * pace.late < last.time) where
  was_member : (i : ℕ) → has q i ≡ true → has full i ≡ true
  was_member i qi = sym (W.others i (λ same. false≢true (sym W.gone ∙ subst (λ (k : ℕ). has q k ≡ true) same qi))) ∙ qi

  stocked : AreStocked q r.version (last_value t.world.log) reign.pn t.world
  stocked = led_are_stocked ms full (from_time earlier pace) reign r t R S (several ms full (from_time earlier pace) reign r t R S) q was_member few

  J : JoinBy ms q pace best (suc reign.epoch) t last more (pace.since + 10000 + pace.late + 2 * pace.delay)
  J = joins ms full q pace earlier best reign r t last more quick (omega arith) R S W C B quiet fits L room (omega arith)

  pub serves_again : SteadyBy ms q pace best (suc (suc reign.epoch)) t last more (pace.since + 15000 + 6 * pace.delay + 2 * pace.late)
  serves_again =
      let sum : pace.since + 10000 + pace.late + 2 * pace.delay + 5000 + 4 * pace.delay + pace.late ≡ pace.since + 15000 + 6 * pace.delay + 2 * pace.late = omega arith in
      subst (SteadyBy ms q pace best (suc (suc reign.epoch)) t last more) sum
      (regained ms q pace best (suc reign.epoch) (pace.since + 10000 + pace.late + 2 * pace.delay) t last more quick short ranks (begins_between ms q pace t B) r.version (last_value t.world.log) reign.pn stocked J room (omega arith))
