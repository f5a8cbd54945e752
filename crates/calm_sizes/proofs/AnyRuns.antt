-- In every run of any monitors, a store that copies nothing and has no long value of its own has room for the next
-- event.
use Rattle.calm_sizes.proofs.Weights.{never_full}
use Rattle.calm_sizes.specs.Sizes.{OwnShort, longest}
use Rattle.law_names.proofs.Runs.{AllFit, AllValues, Arrives, Event, Meeting, Monitors, Plain, PlainFits, Reacts, World, after_meeting, happens, in_world, meets, most_size, moved, run, size_of, unless_stopped, with_asked}
use Rattle.law_names.proofs.Table.{Course, Input, Reaction, State, Store, Which, any_reaction, apply, fold, react, reaction_of, readings_of, shared, shared_entries}
use Rattle.log_copies.proofs.Standing.{Agrees}
use Rattle.quorum_agreement.proofs.Invariant.{EnvelopeMatches, remembers}
use Rattle.quorum_agreement.proofs.LoneWorlds.{LoneFollows, lone_asking, lone_follows}
use Rattle.quorum_agreement.proofs.Result.{OneLog, lone_log, several_log}
use Rattle.quorum_agreement.proofs.Runs.{lone_run, several_run}
use Rattle.quorum_agreement.proofs.Step.{copy_marked}
use Rattle.quorum_agreement.proofs.Worlds.{Follows, all_follow, asking}
use Rattle.quorum_laws.proofs.Events.{Arriving, Keeps, member_of}
use Rattle.quorum_laws.proofs.Invariant.{InvWith}
use Rattle.quorum_laws.proofs.Meetings.{OfMeeting, each_meeting}
use Rattle.std.proofs.Common.{Bool, Err, List, Ok, Result, Some, ap, arith, cond, false, inl, inr, length, ltb, refl, subst, sym, true, ℕ, ◌<◌, ◌^◌, ◌∙◌, ◌≡◌, ◌≤◌, ◌⊎◌}
use Rattle.std.proofs.lemmas.Bool.{cases_order, eq-eqb, false≢true, le-ltb, ltb-true}

-- a store is that of a monitor of some log
pub record OnSomeLog (m : Store) (s : State) : Type 0 where
  pub log : List (List ℕ)
  pub short : length log ≤ 2 ^ 62
  pub values : AllValues log
  pub agrees : Agrees log m s

-- the world that an event would make, full or not, is one of one log
abbrev Would : Monitors → World → Plain → Meeting → Type 0
Would ms w p (Reacts i came (Ok r)) = (ltb i ms.count ≡ true) × OneLog ms (moved w p i r)
Would ms w p other = Unit {0}

module _ (ms : Monitors) (w : World) (p : Plain) (J : InvWith ms w (with_asked p w.asked)) where
  several_so : Keeps ms w (EnvelopeMatches w.log) p J (Follows ms w)
      → OfMeeting ms w (EnvelopeMatches w.log) p J (Would ms w p)
  several_so K = record { down = tt; none = tt; reacts = reacts }
    where
      reacts : (A : Arriving ms w (EnvelopeMatches w.log) (with_asked p w.asked) J) (r : Result Course Which)
          → react (member_of ms A.rank A.lt) (shared_entries (w.store A.rank)) A.at (readings_of (w.store A.rank))
          A.state A.came ≡ r → Would ms w p (Reacts A.rank A.came (any_reaction r))
      reacts A (Ok y) q =
          (A.lt, several_log ms (moved w p A.rank (reaction_of y)) (K.goes_on (record { by = A; y = y; is = q })).0)
      reacts A (Err which) q = tt

  lone_so : Keeps ms w (EnvelopeMatches w.log) p J (LoneFollows ms w)
      → OfMeeting ms w (EnvelopeMatches w.log) p J (Would ms w p)
  lone_so K = record { down = tt; none = tt; reacts = reacts }
    where
      reacts : (A : Arriving ms w (EnvelopeMatches w.log) (with_asked p w.asked) J) (r : Result Course Which)
          → react (member_of ms A.rank A.lt) (shared_entries (w.store A.rank)) A.at (readings_of (w.store A.rank))
          A.state A.came ≡ r → Would ms w p (Reacts A.rank A.came (any_reaction r))
      reacts A (Ok y) q =
          (A.lt, lone_log ms (moved w p A.rank (reaction_of y)) (K.goes_on (record { by = A; y = y; is = q })).0)
      reacts A (Err which) q = tt

module _ (ms : Monitors) (events : List Event) (F : AllFit ms.count events) (p : Plain) (G : PlainFits ms.count p) where
  abbrev w : World
  w = run ms events

  of_several : ((i : ℕ) → i < ms.count → 1 < ms.count) → Would ms w p (meets ms w p)
  of_several several =
      let h = several_run ms several events F in
      each_meeting ms w (EnvelopeMatches w.log) h.0 (Would ms w p) h.1.sent p G
      (λ J up. several_so ms w p J (all_follow ms several w p J (asking ms w p h.0 h.1 J)))

  of_one : ms.count ≡ 1 → Would ms w p (meets ms w p)
  of_one one =
      let h = lone_run ms one events F in
      each_meeting ms w (EnvelopeMatches w.log) h.0 (Would ms w p) h.1.sent p G
      (λ J up. lone_so ms w p J (lone_follows ms one w p J (lone_asking ms w p h.1)))

  would : Would ms w p (meets ms w p)
  would = by (cases_order 1 ms.count)
    where
      by : (1 ≡ ms.count) ⊎ ((1 < ms.count) ⊎ (ms.count < 1)) → Would ms w p (meets ms w p)
      by (inl e) = of_one (sym e)
      by (inr (inl more)) = of_several (λ i lt. more)
      by (inr (inr none)) = of_several (λ i lt. absurd (omega arith))

  module _ (i : ℕ) (came : Input) (r : Reaction) (met : meets ms w p ≡ Reacts i came (Ok r)) where
    abbrev next : Store
    next = apply r.transaction (w.store i)

    then : (ltb i ms.count ≡ true) × OneLog ms (moved w p i r)
    then = subst (Would ms w p) met would

    next_is : (moved w p i r).store i ≡ next
    unfolding moved
    next_is = rw (eq-eqb i i refl) refl

    -- full or not
    pub would_be : OnSomeLog next r.state
    unfolding moved
    would_be = let L = then.1 in record {
      log = (moved w p i r).log;
      short = L.short;
      values = L.values;
      agrees = subst (λ (b : Bool). Agrees (moved w p i r).log (cond b next (w.store i)) (remembers i (cond b (Some r.state) (w.state i)))) (eq-eqb i i refl) (L.stores i (ltb-true i ms.count then.0));
    }

    -- an event that the store has room for doesn't stop the run
    pub goes_on_within : size_of next ≤ most_size → happens ms w (Arrives p) ≡ Ok (moved w p i r)
    goes_on_within small = ap (after_meeting w (Arrives p)) met ∙ ap (in_world (moved w p i)) stops_not
      where
        stops_not : unless_stopped (w.store i) (Ok r) ≡ Ok r
        stops_not = rw (le-ltb most_size (size_of next) small) refl

    module _ (unmarked : (readings_of next).marked ≡ false) (own : OwnShort longest next) where
      pub within : size_of next ≤ most_size
      within = by (L.stores i (ltb-true i ms.count then.0))
        where
          L : OneLog ms (moved w p i r)
          L = then.1

          by : Agrees (moved w p i r).log ((moved w p i r).store i) (remembers i ((moved w p i r).state i))
              → size_of next ≤ most_size
          by (inl V) =
              let H = V.versions in
              never_full (moved w p i r).log L.short L.values V.last H.within next
              (subst (λ (m : Store). shared m ≡ fold (moved w p i r).log V.last) next_is H.folded) own
          by (inr T) =
              absurd (false≢true
              (sym unmarked ∙ ap (λ (m : Store). (readings_of m).marked) (sym next_is) ∙ copy_marked _ _ _ T))

      -- the event doesn't stop the run
      pub goes_on_then : happens ms w (Arrives p) ≡ Ok (moved w p i r)
      goes_on_then = goes_on_within within
