-- In every run each monitor of two or more waits for a timer.
use Rattle.law_names.proofs.Runs.{Arrival, Arrives, Client, Crash, Deliver, Down, Envelope, Event, Full, Meeting, Monitors, NoMessage, Plain, Reacts, Ring, Start, Stop, World, after_meeting, first_world, goes_on, happens, in_world, kept_only, lost, me_if, me_of, meeting, meeting_at, meets, message_at, most_size, moved, plain_of, put_at, ran_from, run, run_from, size_of, state_at, unmoved}
use Rattle.law_names.proofs.Table.{Course, Input, Me, Reaction, State, Store, Which, any_reaction, apply, react, reaction, reaction_of, readings_of, shared_entries}
use Rattle.mon_msg.specs.declared.input.Input.TheVariants as input
use Rattle.quorum_timed.proofs.Armed.{Rests}
use Rattle.quorum_timed.proofs.Table.{reacts_waiting, starts_waiting}
use Rattle.quorum_timed.specs.Times.{latest, time_of}
use Rattle.quorum_timed.specs.Waiting.{Waits}
use Rattle.quorum_walk.proofs.Walk.{Then}
use Rattle.std.proofs.Common.{Bool, Err, IfOk, IfSome, List, None, Ok, Option, Result, Some, [], ap, arith, eqb, false, ltb, nat_lt, option_map, refl, subst, sym, true, ℕ, ◌<◌, ◌∙◌, ◌∷◌, ◌≡◌, ◌≤◌}
use Rattle.std.proofs.lemmas.Bool.{cond_both, eqb-true, lt-ltb}

module _ (b : ℕ) where
  -- a monitor of a rank, in a state
  abbrev pub Waits_so : Me → State → Type 0
  Waits_so me s = Rests me b s.phase s.requester.stage s.leader.quorum s.timers

  -- all monitors that are up wait
  abbrev pub AllWait : Monitors → World → Type 0
  AllWait ms w = (i : ℕ) (me : Me) → me_of ms i ≡ Some me → IfSome (w.state i) (Waits_so me)

  -- what a meeting leaves
  abbrev Leaves : Monitors → Meeting → Type 0
  Leaves ms (Reacts i input (Ok r)) = (me : Me) → me_of ms i ≡ Some me → Waits_so me r.state
  Leaves ms other = Unit {0}

  module _ (ms : Monitors) (many : 1 < ms.count) where
    -- a monitor of the map knows how many there are
    counts : (i : ℕ) (me : Me) → me_of ms i ≡ Some me → me.member.monitors ≡ ms.count
    counts i me e = by (nat_lt i ms.count) refl e
      where
        by : (t : Bool) (is : nat_lt i ms.count ≡ t) → me_if ms i t is ≡ Some me → me.member.monitors ≡ ms.count
        by true is e = ap (λ (o : Option Me). elim o as (λ _. ℕ) [ None ↦ ms.count | Some z ↦ z.member.monitors ]) (sym e)
        by false is e = absurd cc

    -- the reaction of a monitor leaves it waiting
    abbrev Goes : Me → ℕ → Store → Input → State → Type 0
    Goes me now m came s = Then (λ (x : Course). Waits_so me x.state) (react me (shared_entries m) now (readings_of m) s came)

    reacted : (me : Me) (now : ℕ) (m : Store) (came : Input) (s : State) → Goes me now m came s → (r : Reaction) → reaction me now m s came ≡ Ok r → Waits_so me r.state
    reacted me now m came s k r is = by (react me (shared_entries m) now (readings_of m) s came) k is
      where
        by : (z : Result Course Which) → Then (λ (x : Course). Waits_so me x.state) z → any_reaction z ≡ Ok r → Waits_so me r.state
        by (Ok x) k e = let same : reaction_of x ≡ r = cc in subst (λ (y : Reaction). Waits_so me y.state) same k.holds
        by (Err z) k e = absurd cc

    module _ (w : World) (A : AllWait ms w) where
      several : (i : ℕ) (me : Me) → me_of ms i ≡ Some me → ltb 1 me.member.monitors ≡ true
      several i me e = lt-ltb 1 me.member.monitors (subst (λ (n : ℕ). 1 < n) (sym (counts i me e)) many)

      leaves : (a : Arrival) → a.at ≤ b → Leaves ms (meeting a (w.store a.rank) (me_of ms a.rank) (state_at a.rank (w.state a.rank) a.input))
      leaves a le = by (me_of ms a.rank) refl (state_at a.rank (w.state a.rank) a.input) (λ me e. known me e a.input)
        where
          m : Store
          m = w.store a.rank

          up : (me : Me) (e : me_of ms a.rank ≡ Some me) (came : Input) (o : Option State) → IfSome o (Waits_so me) → IfSome o (Goes me a.at m came)
          up me e came None k = tt
          up me e came (Some s) k = reacts_waiting me b a.at le (several a.rank me e) (shared_entries m) (readings_of m) s came k

          -- what it does with the input
          known : (me : Me) → me_of ms a.rank ≡ Some me → (came : Input) → IfSome (state_at a.rank (w.state a.rank) came) (Goes me a.at m came)
          known me e input.Start = starts_waiting me b a.at le (several a.rank me e) (shared_entries m) (readings_of m) a.rank
          known me e (input.Deliver x) = up me e (input.Deliver x) (w.state a.rank) (A a.rank me e)
          known me e (input.Timer t) = up me e (input.Timer t) (w.state a.rank) (A a.rank me e)
          known me e (input.Client s q) = up me e (input.Client s q) (w.state a.rank) (A a.rank me e)

          by : (o : Option Me) → me_of ms a.rank ≡ o → (s : Option State) → ((me : Me) → me_of ms a.rank ≡ Some me → IfSome s (Goes me a.at m a.input)) → Leaves ms (meeting a (w.store a.rank) o s)
          by None e s k = tt
          by (Some me) e None k = tt
          by (Some me) e (Some s) k = on (reaction me a.at (w.store a.rank) s a.input) refl
            where
              on : (z : Result Reaction Which) → reaction me a.at (w.store a.rank) s a.input ≡ z → Leaves ms (Reacts a.rank a.input z)
              on (Err z) is = tt
              on (Ok r) is = λ other f.
                  let same : me ≡ other = (let q : Some me ≡ Some other = sym e ∙ f in cc) in
                  subst (λ (z : Me). Waits_so z r.state) same (reacted me a.at m a.input s (k me e) r is)

      met : (p : Plain) → time_of p ≤ b → Leaves ms (meets ms w p)
      met (Start rank at) le = leaves (record { rank = rank; at = at; input = input.Start }) le
      met (Ring rank timer at) le = leaves (record { rank = rank; at = at; input = input.Timer timer }) le
      met (Client rank at session request) le = leaves (record { rank = rank; at = at; input = input.Client session request }) le
      met (Deliver k at) le = by (message_at w.messages k)
        where
          by : (o : Option Envelope) → Leaves ms (meeting_at ms w (option_map (λ e. record { rank = e.to; at = at; input = input.Deliver e.message }) o))
          by None = tt
          by (Some e) = leaves (record { rank = e.to; at = at; input = input.Deliver e.message }) le

      -- a monitor's state is put
      put : (i : ℕ) (o : Option State) → ((me : Me) → me_of ms i ≡ Some me → IfSome o (Waits_so me)) → (j : ℕ) (me : Me) → me_of ms j ≡ Some me → IfSome (put_at w.state i o j) (Waits_so me)
      put i o k j me e = cond_both (eqb j i) o (w.state j) (λ (s : Option State). IfSome s (Waits_so me))
          (λ t. k me (subst (λ (z : ℕ). me_of ms z ≡ Some me) (eqb-true j i t) e)) (λ _. A j me e)

      module _ (p : Plain) where
        arrives : (z : Meeting) → Leaves ms z → IfOk (after_meeting w (Arrives p) z) (AllWait ms)
        unfolding unmoved moved
        arrives NoMessage k = A
        arrives Down k = A
        arrives (Reacts i input (Err z)) k = tt
        arrives (Reacts i input (Ok r)) k =
            cond_both (nat_lt most_size (size_of (apply r.transaction (w.store i)))) (Err (Full (size_of (apply r.transaction (w.store i))))) (Ok r) (λ (o : Result Reaction Stop). IfOk (in_world (moved w p i) o) (AllWait ms))
            (λ _. tt) (λ _. put i (Some r.state) k)

        crashes : (kept : Bool) (z : Meeting) → IfOk (after_meeting w (Crash p kept) z) (AllWait ms)
        unfolding unmoved lost kept_only
        crashes true NoMessage = A
        crashes true Down = A
        crashes false NoMessage = A
        crashes false Down = A
        crashes false (Reacts i input z) = put i None (λ _ _. tt)
        crashes true (Reacts i input (Err z)) = tt
        crashes true (Reacts i input (Ok r)) =
            cond_both (nat_lt most_size (size_of (apply r.transaction (w.store i)))) (Err (Full (size_of (apply r.transaction (w.store i))))) (Ok r) (λ (o : Result Reaction Stop). IfOk (in_world (kept_only w p i) o) (AllWait ms))
            (λ _. tt) (λ _. put i None (λ _ _. tt))

      wait_after : (e : Event) → time_of (plain_of e) ≤ b → IfOk (happens ms w e) (AllWait ms)
      wait_after (Arrives p) le = arrives p (meets ms w p) (met p le)
      wait_after (Crash p kept) le = crashes p kept (meets ms w p)

    pub wait_on : (es : List Event) → latest es ≤ b → (w : World) → AllWait ms w → AllWait ms (run_from ms w es)
    unfolding ran_from latest
    wait_on [] le w A = A
    wait_on (e ∷ es) le w A = by (happens ms w e) (wait_after w A e (omega arith)) (wait_on es (omega arith))
      where
        by : (r : Result World Stop) → IfOk r (AllWait ms) → ((next : World) → AllWait ms next → AllWait ms (run_from ms next es)) → AllWait ms (goes_on w (λ next. ran_from ms next es) r).world
        by (Ok next) k ih = ih next k
        by (Err stop) k ih = A

pub waits : (ms : Monitors) (events : List Event) → 1 < ms.count → (i : ℕ) (me : Me) → me_of ms i ≡ Some me → IfSome ((run ms events).state i) (Waits me (latest events))
waits ms events many i me e = by ((run ms events).state i) (wait_on (latest events) ms many events (omega arith) first_world (λ j you f. tt) i me e)
  where
    by : (o : Option State) → IfSome o (Waits_so (latest events) me) → IfSome o (Waits me (latest events))
    by None k = tt
    by (Some s) k = record { kinds = k.good.size; armed = k.waits; soon = k.good.soon }
