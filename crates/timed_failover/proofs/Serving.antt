-- A new leader that asks its quorum serves: at once if it finds nothing, and otherwise when what it found is committed.
use Rattle.law_names.proofs.Runs.{Event, Monitors}
use Rattle.law_names.proofs.Table.{Op}
use Rattle.quorum_stays.specs.Reading.{ClocksGoOn}
use Rattle.quorum_stays.specs.Steady.{Reign}
use Rattle.quorum_timed.specs.Begins.{IsQuick}
use Rattle.quorum_timed.specs.Timed.{Leads, Pace, Timed}
use Rattle.std.proofs.Common.{Bool, List, ap, arith, inl, inr, refl, suc, sym, ℕ, ◌*◌, ◌++◌, ◌+◌, ◌<◌, ◌∙◌, ◌≤◌}
use Rattle.std.proofs.lemmas.List.{append_assoc}
use Rattle.timed_election.proofs.Parts.{joined}
use Rattle.timed_election.specs.Election.{Election, reign_of}
use Rattle.timed_failover.proofs.CollectBegins.{asked, query}
use Rattle.timed_failover.proofs.CollectCome.{heard_all}
use Rattle.timed_failover.proofs.SettledAtOnce.{opens}
use Rattle.timed_failover.proofs.SettlersCome.{committed}
use Rattle.timed_failover.specs.Collecting.{AreBetween, IsAsked, IsElected, IsHeardBy, Query}
use Rattle.timed_failover.specs.Failover.{SteadyBy}
use Rattle.timed_failover.specs.Settling.{IsSettledBy, Settling, opening}

module _ (ms : Monitors) (q : List Bool) (pace : Pace) (x : Query) (t last : Timed) (more : List (ℕ × Event)) (quick : IsQuick pace) (short : 4 * pace.delay ≤ 3000) (X : IsAsked ms q pace x t) (B : AreBetween q t)
    (L : Leads ms q pace t more last) (room : ClocksGoOn q pace last.time) (late : x.won + 4 * pace.delay < last.time) where
  H : IsHeardBy ms q pace x t last more (x.won + 2 * pace.delay)
  H = heard_all ms q pace quick x (λ i qi. (let C = X.can in C.members i qi)) t last more X B L room (omega arith)

  abbrev R : Reign
  R = reign_of x.election x.pn

  pub serves : SteadyBy ms q pace x.election.best (suc x.election.epoch) t last more (x.won + 4 * pace.delay)
  serves = let by = H.by in elim H.heard [
    | inl k ↦ record {
      before = H.before;
      after = H.after;
      parts = H.parts;
      reached = H.reached;
      run = H.run;
      rest = H.rest;
      by = omega arith;
      reign = R;
      leader_is = refl;
      epoch_is = refl;
      round = opening H.version x.value x.won (H.reached).time;
      steady = opens ms q pace R H.version x.value x.won H.reached short k;
    }
    | inr k ↦
        let y : Settling = record { version = H.version; value = x.value; won = x.won; found = record { value = k.0; at = (H.reached).time } } in
        let S : IsSettledBy ms q pace R y H.reached last H.after ((H.reached).time + 2 * pace.delay) = committed ms q pace quick short R y H.reached last H.after k.1 H.rest room (omega arith) in
        let end = S.by in record {
          before = H.before ++ S.before;
          after = S.after;
          parts = H.parts ∙ ap (λ (z : List (ℕ × Event)). H.before ++ z) S.parts ∙ sym (append_assoc H.before S.before S.after);
          reached = S.reached;
          run = joined ms q pace H.before t H.reached S.reached S.before H.run S.run;
          rest = S.rest;
          by = omega arith;
          reign = R;
          leader_is = refl;
          epoch_is = refl;
          round = S.round;
          steady = S.steady;
        }
  ]

-- one that just won asks its quorum
module _ (ms : Monitors) (q : List Bool) (pace : Pace) (E : Election) (version : ℕ) (value : List Op) (t last : Timed) (more : List (ℕ × Event)) (quick : IsQuick pace) (short : 4 * pace.delay ≤ 3000)
    (K : IsElected ms q pace E version value t) (L : Leads ms q pace t more last) (room : ClocksGoOn q pace last.time) (late : t.time + 4 * pace.delay < last.time) where
  asks : IsAsked ms q pace (query ms q pace quick E t K.won K.can K.odd K.together K.soon K.since K.ranks K.second K.second_in K.second_is K.votes version value K.fits K.made K.stocked K.learns K.low K.whole) t
  asks = asked ms q pace quick E t K.won K.can K.odd K.together K.soon K.since K.ranks K.second K.second_in K.second_is K.votes version value K.fits K.made K.stocked K.learns K.low K.whole

  pub elected_serves : SteadyBy ms q pace E.best (suc E.epoch) t last more (t.time + 4 * pace.delay)
  elected_serves = serves ms q pace (query ms q pace quick E t K.won K.can K.odd K.together K.soon K.since K.ranks K.second K.second_in K.second_is K.votes version value K.fits K.made K.stocked K.learns K.low K.whole)
      t last more quick short asks K.between L room late
