-- A quorum that loses a peon parts from its leader, if no client writes meanwhile: the leader probes, and the others still
-- follow it.
use Rattle.law_names.proofs.Runs.{Event, Monitors, Reached}
use Rattle.law_names.proofs.Table.{AllByRecursion, State, end_of}
use Rattle.log_model.proofs.Lists.{all_front}
use Rattle.mon_wire.specs.declared.phase.Timer.TheVariants as timer
use Rattle.quorum_stays.proofs.Onward.{one_state}
use Rattle.quorum_stays.proofs.Staying.{goes_on, time_of_next}
use Rattle.quorum_stays.proofs.SteppingDown.{here}
use Rattle.quorum_stays.specs.Reading.{ClocksGoOn}
use Rattle.quorum_stays.specs.Serving.{NothingWaits, Writes}
use Rattle.quorum_stays.specs.Steady.{Reign, Round, Steady}
use Rattle.quorum_timed.specs.Begins.{Begins, IsQuick}
use Rattle.quorum_timed.specs.Timed.{Leads, Pace, Timed, at_time}
use Rattle.std.proofs.Common.{Bool, List, None, Some, [], arith, refl, subst, suc, sym, ℕ, ◌*◌, ◌++◌, ◌+◌, ◌<◌, ◌^◌, ◌∙◌, ◌∷◌, ◌≡◌, ◌≤◌}
use Rattle.std.proofs.lemmas.List.{append_assoc}
use Rattle.timed_election.proofs.Parts.{joined}
use Rattle.timed_election.specs.Election.{CanElect}
use Rattle.timed_election.specs.Joining.{Parted}
use Rattle.timed_failover.proofs.Between.{begins_between, led_between}
use Rattle.timed_failover.proofs.CallsDue.{begins_due, led_due}
use Rattle.timed_failover.proofs.Led.{of_quorum, several}
use Rattle.timed_failover.proofs.PartedThen.{parted, parted_stocked}
use Rattle.timed_failover.proofs.ReachedOn.{reached_on}
use Rattle.timed_failover.proofs.Regained.{AreStocked}
use Rattle.timed_failover.proofs.Stocked.{last_value}
use Rattle.timed_failover.proofs.WaningBegins.{begins}
use Rattle.timed_failover.proofs.WaningRun.{PartsBy, parts_by}
use Rattle.timed_failover.proofs.WaningSteps.{Rings}
use Rattle.timed_failover.proofs.WaningTimes.{leading}
use Rattle.timed_failover.specs.Failover.{IsPartedBy, IsWithout, NoCallIsUnderWay, from_time}

-- from the event of the leader's timer of acknowledgements
module _ (ms : Monitors) (full q : List Bool) (pace : Pace) (earlier best : ℕ) (reign : Reign) (r : Round) (t last : Timed) (more : List (ℕ × Event)) (quick : IsQuick pace) (short : 4 * pace.delay ≤ 3000)
    (R : Reached ms t.world) (S : Steady ms full (from_time earlier pace) reign r t) (C : CanElect ms q best) (B : Begins ms q pace t) (fits : suc reign.epoch ≤ 2 ^ 62)
    (quiet : AllByRecursion (λ m. Writes m.1 → ⊥) more) (P : PartsBy ms full q pace reign quick short r t last more (pace.since + 13000 + 2 * pace.late)) where
  pub many : 1 < ms.count
  many = several ms full (from_time earlier pace) reign r t R S

  pub until_parted : Leads ms q pace t (P.before ++ (P.at, P.event) ∷ []) P.next
  until_parted = joined ms q pace P.before t P.eve P.next ((P.at, P.event) ∷ []) P.run (P.on, (P.next, P.comes, (here ms q pace P.next last P.after P.rest, refl)))

  pub parts_there : more ≡ (P.before ++ (P.at, P.event) ∷ []) ++ P.after
  parts_there = P.parts ∙ sym (append_assoc P.before ((P.at, P.event) ∷ []) P.after)

  quiet_once : AllByRecursion (λ m. Writes m.1 → ⊥) (P.before ++ (P.at, P.event) ∷ [])
  quiet_once = all_front (λ (m : ℕ × Event). Writes m.1 → ⊥) (P.before ++ (P.at, P.event) ∷ []) P.after (subst (AllByRecursion (λ (m : ℕ × Event). Writes m.1 → ⊥)) parts_there quiet)

  reached_eve : Reached ms P.eve.world
  reached_eve = reached_on ms q pace C.members P.before t P.eve (all_front (λ (m : ℕ × Event). Writes m.1 → ⊥) P.before ((P.at, P.event) ∷ []) quiet_once) R P.run

  reached_next : Reached ms P.next.world
  reached_next = reached_on ms q pace C.members (P.before ++ (P.at, P.event) ∷ []) t P.next quiet_once R until_parted

  G : Rings ms full q pace reign quick short P.round P.eve P.wanes P.at P.on P.room P.next P.event
  G = P.rings

  set : end_of timer.LeaseAck (leading ms full q pace reign P.round P.eve P.wanes).0.timers ≡ Some G.end
  set = let l = leading ms full q pace reign P.round P.eve P.wanes in subst (λ (s : State). end_of timer.LeaseAck s.timers ≡ Some G.end) (one_state (P.eve.world.state reign.leader) G.state l.0 G.up l.1) G.set

  since : pace.since ≤ P.at
  since = let a = B.time in let b = goes_on ms q pace reign quick P.before t P.eve P.run in let M = P.on in let c = M.later in omega arith

  pub parted_at : P.next.time ≡ P.at
  parted_at = time_of_next ms q pace reign quick (at_time ms q pace P.at P.eve) P.next P.event P.comes

  pub parts_so : Parted ms q pace reign.leader reign.epoch P.next
  parts_so =
      let Q = of_quorum ms full (from_time earlier pace) reign r t R S in
      parted ms full q pace reign P.round P.eve P.wanes many P.at P.on P.room P.next G.end set G.due G.went quick short best C reached_eve reached_next Q.even fits since
      (led_between ms q pace P.before t P.eve (begins_between ms q pace t B) P.run) (led_due ms q pace (P.before ++ (P.at, P.event) ∷ []) t P.next (begins_due ms q pace t B) until_parted)

  pub stocked : suc (suc r.version) ≤ 2 ^ 62 → AreStocked q P.round.version (last_value P.eve.world.log) reign.pn P.next.world
  stocked few =
      let Q = of_quorum ms full (from_time earlier pace) reign r t R S in
      parted_stocked ms full q pace reign P.round P.eve P.wanes many P.at P.on P.room P.next G.end set G.due G.went quick short best C reached_eve reached_next Q.even fits since
      (led_between ms q pace P.before t P.eve (begins_between ms q pace t B) P.run) (led_due ms q pace (P.before ++ (P.at, P.event) ∷ []) t P.next (begins_due ms q pace t B) until_parted) (let v = P.version in omega arith)

-- ---- in time

module _ (ms : Monitors) (full q : List Bool) (pace : Pace) (earlier best lost : ℕ) (reign : Reign) (r : Round) (t last : Timed) (more : List (ℕ × Event)) (quick : IsQuick pace) (short : 4 * pace.delay ≤ 3000)
    (R : Reached ms t.world) (S : Steady ms full (from_time earlier pace) reign r t) (soon : pace.since ≤ r.latest + 3000 + pace.late) (W : IsWithout full q lost) (other : lost ≡ reign.leader → ⊥) (C : CanElect ms q best)
    (B : Begins ms q pace t) (silent : NoCallIsUnderWay q t) (none : r.next ≡ None) (N : NothingWaits q reign t) (fits : suc reign.epoch ≤ 2 ^ 62) (L : Leads ms q pace t more last) (quiet : AllByRecursion (λ m. Writes m.1 → ⊥) more)
    (room : ClocksGoOn q pace last.time) (late : pace.since + 13000 + 2 * pace.late < last.time) where
  pub parts_then : PartsBy ms full q pace reign quick short r t last more (pace.since + 13000 + 2 * pace.late)
  parts_then =
      parts_by ms full q pace reign lost quick short r t last more (begins ms full q pace earlier reign r t soon S lost W other none N silent) W.gone W.was B L quiet room late

  pub parted_in_time : IsPartedBy ms q pace reign t last more (pace.since + 13000 + 2 * pace.late)
  parted_in_time =
      let P = parts_then in record {
        before = P.before ++ (P.at, P.event) ∷ [];
        after = P.after;
        parts = parts_there ms full q pace earlier best reign r t last more quick short R S C B fits quiet P;
        reached = P.next;
        run = until_parted ms full q pace earlier best reign r t last more quick short R S C B fits quiet P;
        rest = P.rest;
        by = (let a = P.by in let b = parted_at ms full q pace earlier best reign r t last more quick short R S C B fits quiet P in omega arith);
        parted = parts_so ms full q pace earlier best reign r t last more quick short R S C B fits quiet P;
      }
