-- A quorum that loses a peon serves again, if no client writes meanwhile: its leader ceases to lead, and all others join an
-- election.
use Rattle.law_names.proofs.Runs.{Event, Monitors, Reached}
use Rattle.law_names.proofs.Table.{AllByRecursion}
use Rattle.quorum_stays.specs.Reading.{ClocksGoOn}
use Rattle.quorum_stays.specs.Serving.{NothingWaits, Writes}
use Rattle.quorum_stays.specs.Steady.{Reign, Round, Steady}
use Rattle.quorum_timed.specs.Begins.{Begins, IsQuick}
use Rattle.quorum_timed.specs.Timed.{Leads, Pace, Timed}
use Rattle.std.proofs.Common.{Bool, List, None, [], ap, arith, length, suc, sym, ℕ, ◌*◌, ◌++◌, ◌+◌, ◌<◌, ◌^◌, ◌∙◌, ◌∷◌, ◌≡◌, ◌≤◌}
use Rattle.std.proofs.lemmas.List.{append_assoc}
use Rattle.timed_election.proofs.JoiningRun.{parted_by}
use Rattle.timed_election.proofs.Parts.{joined}
use Rattle.timed_election.specs.Election.{CanElect}
use Rattle.timed_election.specs.Joining.{JoinBy}
use Rattle.timed_failover.proofs.Between.{begins_between, led_between}
use Rattle.timed_failover.proofs.PeonParts.{parted_at, parts_so, parts_then, parts_there, stocked, until_parted}
use Rattle.timed_failover.proofs.Regained.{regained}
use Rattle.timed_failover.proofs.Stocked.{last_value}
use Rattle.timed_failover.proofs.WaningRun.{PartsBy}
use Rattle.timed_failover.specs.Failover.{IsWithout, NoCallIsUnderWay, SteadyBy, from_time}

module _ (ms : Monitors) (full q : List Bool) (pace : Pace) (earlier best lost : ℕ) (reign : Reign) (r : Round) (t last : Timed) (more : List (ℕ × Event)) (quick : IsQuick pace) (short : 4 * pace.delay ≤ 3000)
    (R : Reached ms t.world) (S : Steady ms full (from_time earlier pace) reign r t) (none : r.next ≡ None) (N : NothingWaits q reign t) (soon : pace.since ≤ r.latest + 3000 + pace.late)
    (W : IsWithout full q lost) (other : lost ≡ reign.leader → ⊥) (B : Begins ms q pace t) (silent : NoCallIsUnderWay q t) (C : CanElect ms q best) (ranks : length q ≡ 15)
    (fits : suc reign.epoch ≤ 2 ^ 62) (few : suc (suc r.version) ≤ 2 ^ 62) (L : Leads ms q pace t more last) (quiet : AllByRecursion (λ m. Writes m.1 → ⊥) more) (room : ClocksGoOn q pace last.time)
    (late : pace.since + 18000 + 7 * pace.delay + 3 * pace.late < last.time) where
  P : PartsBy ms full q pace reign quick short r t last more (pace.since + 13000 + 2 * pace.late)
  P = parts_then ms full q pace earlier best lost reign r t last more quick short R S soon W other C B silent none N fits L quiet room (omega arith)

  one : Leads ms q pace t (P.before ++ (P.at, P.event) ∷ []) P.next
  one = until_parted ms full q pace earlier best reign r t last more quick short R S C B fits quiet P

  parts_now : more ≡ (P.before ++ (P.at, P.event) ∷ []) ++ P.after
  parts_now = parts_there ms full q pace earlier best reign r t last more quick short R S C B fits quiet P

  at_next : P.next.time ≡ P.at
  at_next = parted_at ms full q pace earlier best reign r t last more quick short R S C B fits quiet P

  J : JoinBy ms q pace best (suc reign.epoch) P.next last P.after (P.next.time + 3 * pace.delay)
  J = parted_by ms q pace best reign.leader reign.epoch P.next last P.after quick (omega arith) C (parts_so ms full q pace earlier best reign r t last more quick short R S C B fits quiet P) P.rest room (let a = P.by in let b = at_next in omega arith)

  Z : SteadyBy ms q pace best (suc (suc reign.epoch)) P.next last P.after (P.next.time + 3 * pace.delay + 5000 + 4 * pace.delay + pace.late)
  Z = regained ms q pace best (suc reign.epoch) (P.next.time + 3 * pace.delay) P.next last P.after quick short ranks (led_between ms q pace (P.before ++ (P.at, P.event) ∷ []) t P.next (begins_between ms q pace t B) one)
      P.round.version (last_value P.eve.world.log) reign.pn (stocked ms full q pace earlier best reign r t last more quick short R S C B fits quiet P few) J room (let a = P.by in let b = at_next in omega arith)

  pub serves_again : SteadyBy ms q pace best (suc (suc reign.epoch)) t last more (pace.since + 18000 + 7 * pace.delay + 3 * pace.late)
  serves_again = record {
    before = (P.before ++ (P.at, P.event) ∷ []) ++ Z.before;
    after = Z.after;
    parts = parts_now ∙ ap (λ (k : List (ℕ × Event)). (P.before ++ (P.at, P.event) ∷ []) ++ k) Z.parts ∙ sym (append_assoc (P.before ++ (P.at, P.event) ∷ []) Z.before Z.after);
    reached = Z.reached;
    run = joined ms q pace (P.before ++ (P.at, P.event) ∷ []) t P.next Z.reached Z.before one Z.run;
    rest = Z.rest;
    by = (let a = Z.by in let b = P.by in let c = at_next in omega arith);
    reign = Z.reign;
    leader_is = Z.leader_is;
    epoch_is = Z.epoch_is;
    round = Z.round;
    steady = Z.steady;
  }
