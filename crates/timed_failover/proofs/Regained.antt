-- Members that join an election, and whose stores are near, are led again: one of them wins, hears all, and serves.
use Rattle.law_names.proofs.Runs.{Event, Monitors, World}
use Rattle.law_names.proofs.Table.{Epoch, Numbers, Op, Readings, has, played, promise_of, readings_of, text}
use Rattle.quorum_stays.specs.Reading.{ClocksGoOn}
use Rattle.quorum_stays.specs.Steady.{IsOfCommand}
use Rattle.quorum_timed.specs.Begins.{IsQuick}
use Rattle.quorum_timed.specs.Timed.{Pace, Timed}
use Rattle.std.proofs.Common.{Bool, List, [], ap, arith, inl, inr, length, subst, suc, sym, true, ℕ, ◌*◌, ◌++◌, ◌+◌, ◌<◌, ◌^◌, ◌∙◌, ◌∷◌, ◌≡◌, ◌≤◌}
use Rattle.std.proofs.lemmas.Bool.{cases_eq}
use Rattle.std.proofs.lemmas.List.{append_assoc}
use Rattle.timed_election.proofs.Leaving.{leaves_votes}
use Rattle.timed_election.proofs.Parts.{joined}
use Rattle.timed_election.specs.Election.{Election}
use Rattle.timed_election.specs.Joining.{JoinBy}
use Rattle.timed_election.specs.Keeping.{IsWonWithin}
use Rattle.timed_failover.proofs.Between.{led_between}
use Rattle.timed_failover.proofs.Raised.{learns_epoch, learns_won, stocked_epoch, stocked_won}
use Rattle.timed_failover.proofs.SecondMember.{second_member}
use Rattle.timed_failover.proofs.Serving.{elected_serves}
use Rattle.timed_failover.proofs.WholeAnswers.{most_committed, whole_answer}
use Rattle.timed_failover.specs.Collecting.{AreBetween, CanLearn, IsElected, IsStocked}
use Rattle.timed_failover.specs.Failover.{SteadyBy}

-- All members keep the last version of a log, or lack it alone and have it pending. They promised the same number.
pub record AreStocked (q : List Bool) (version : ℕ) (value : List Op) (pn : ℕ) (w : World) : Type 0 where
  pub fits : suc (suc version) ≤ 2 ^ 62
  pub made : 0 < version → IsOfCommand value × (length (text value) ≤ most_committed)
  pub stocked : (i : ℕ) → has q i ≡ true → IsStocked version value (readings_of (w.store i))
  pub learns : (i : ℕ) → has q i ≡ true → CanLearn version value (readings_of (w.store i))
  pub promised : (i : ℕ) → has q i ≡ true → promise_of (readings_of (w.store i)) ≡ pn

module _ (ms : Monitors) (q : List Bool) (pace : Pace) (best epoch u : ℕ) (t last : Timed) (more : List (ℕ × Event)) (quick : IsQuick pace) (short : 4 * pace.delay ≤ 3000) (ranks : length q ≡ 15)
    (between : AreBetween q t) (version : ℕ) (value : List Op) (pn : ℕ) (S : AreStocked q version value pn t.world) (J : JoinBy ms q pace best epoch t last more u)
    (room : ClocksGoOn q pace last.time) (late : u + 5000 + 4 * pace.delay + pace.late < last.time) where
  abbrev E : Election
  E = J.election

  V : IsWonWithin ms q pace E J.reached last J.after (E.by + 5000 + pace.late)
  V = leaves_votes ms q pace quick (omega arith) E J.reached J.elects J.soon last J.after J.rest room (let b = J.by in omega arith)

  abbrev w : ℕ → Readings
  w i = readings_of (t.world.store i)

  abbrev z : ℕ → Readings
  z i = readings_of (V.reached.world.store i)

  -- what they keep when it is won

  other_is : (i : ℕ) → has q i ≡ true → (i ≡ E.best → ⊥) → z i ≡ played (Epoch epoch ∷ []) (w i)
  other_is i qi ne = V.kept i qi ne ∙ J.kept i qi

  in_quorum : has q E.best ≡ true
  in_quorum = let L = J.elects in let C = L.can in C.member

  best_is : z E.best ≡ played (Epoch (suc E.epoch) ∷ Numbers V.won.pn ∷ []) (played (Epoch epoch ∷ []) (w E.best))
  best_is = let R = V.raised in R.after_is ∙ ap (played (Epoch (suc E.epoch) ∷ Numbers V.won.pn ∷ [])) (J.kept E.best in_quorum)

  stocked : (i : ℕ) → has q i ≡ true → IsStocked version value (z i)
  stocked i qi = elim (cases_eq i E.best) [
    | inr ne ↦ subst (IsStocked version value) (sym (other_is i qi ne)) (stocked_epoch version value (w i) epoch (S.stocked i qi))
    | inl is ↦ subst (λ (k : ℕ). IsStocked version value (z k)) (sym is) (subst (IsStocked version value) (sym best_is)
        (stocked_won version value (played (Epoch epoch ∷ []) (w E.best)) (suc E.epoch) V.won.pn (stocked_epoch version value (w E.best) epoch (S.stocked E.best in_quorum))))
  ]

  learns : CanLearn version value (z E.best)
  learns = subst (CanLearn version value) (sym best_is)
      (learns_won version value (played (Epoch epoch ∷ []) (w E.best)) (suc E.epoch) V.won.pn (learns_epoch version value (w E.best) epoch (S.learns E.best in_quorum)))

  low : (i : ℕ) → has q i ≡ true → (i ≡ E.best → ⊥) → promise_of (z i) < V.won.pn
  low i qi ne =
      let R = V.raised in
      let a = R.above in
      let b = ap promise_of (J.kept E.best in_quorum) in
      let c = ap promise_of (other_is i qi ne) in
      let d = S.promised E.best in_quorum in
      let e = S.promised i qi in omega arith

  close : version ≤ suc (z E.best).last
  close = let K = stocked E.best in_quorum in elim K.near [ inl k ↦ (let e = k.0 in omega arith) | inr k ↦ (let e = k.0 in omega arith) ]

  elected : IsElected ms q pace E version value V.reached
  elected =
      let L = J.elects in
      let two = second_member ms q E.best L.can in record {
        can = L.can;
        odd = L.odd;
        together = L.together;
        soon = V.by;
        since = (let W = V.won in let a = W.begun in let b = L.since in let c = L.together in omega arith);
        ranks = ranks;
        second = two.0;
        second_in = two.1;
        second_is = two.2;
        won = V.won;
        votes = V.votes;
        between = led_between ms q pace V.before J.reached V.reached (led_between ms q pace J.before t J.reached between J.run) V.run;
        fits = S.fits;
        made = λ some. (let k = S.made some in (k.0, omega (arith, k.1)));
        stocked = stocked;
        learns = learns;
        low = low;
        whole = λ i qi ne. whole_answer ms.count V.won.pn (z E.best).last version value (z i) (stocked i qi) close (λ some. (S.made some).1);
      }

  serves : SteadyBy ms q pace E.best (suc E.epoch) V.reached last V.after (V.reached.time + 4 * pace.delay)
  serves = elected_serves ms q pace E version value V.reached last V.after quick short elected V.rest room (let a = V.by in let b = J.by in omega arith)

  pub regained : SteadyBy ms q pace best (suc epoch) t last more (u + 5000 + 4 * pace.delay + pace.late)
  regained =
      let Z = serves in record {
        before = J.before ++ (V.before ++ Z.before);
        after = Z.after;
        parts = J.parts ∙ ap (λ (k : List (ℕ × Event)). J.before ++ k) (V.parts ∙ ap (λ (k : List (ℕ × Event)). V.before ++ k) Z.parts ∙ sym (append_assoc V.before Z.before Z.after)) ∙ sym (append_assoc J.before (V.before ++ Z.before) Z.after);
        reached = Z.reached;
        run = joined ms q pace J.before t J.reached Z.reached (V.before ++ Z.before) J.run (joined ms q pace V.before J.reached V.reached Z.reached Z.before V.run Z.run);
        rest = Z.rest;
        by = (let a = Z.by in let b = V.by in let c = J.by in omega arith);
        reign = Z.reign;
        leader_is = Z.leader_is ∙ J.best_is;
        epoch_is = Z.epoch_is ∙ ap suc J.epoch_is;
        round = Z.round;
        steady = Z.steady;
      }
