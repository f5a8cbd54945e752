-- No call for an election is under way after an event that sends none.
use Rattle.law_names.proofs.Runs.{Envelope, Event, Monitors, message_at}
use Rattle.law_names.proofs.Table.{AllByRecursion}
use Rattle.log_model.proofs.Lists.{all_append}
use Rattle.quorum_stays.proofs.Riding.{all_new, all_still, list_is, new_from}
use Rattle.quorum_timed.specs.Calls.{IsCall}
use Rattle.quorum_timed.specs.Timed.{Owed, Pace, Timed, Went, at_time}
use Rattle.std.proofs.Common.{Bool, IsSomeAnd, List, subst, sym, ℕ, ◌++◌, ◌≡◌}
use Rattle.timed_election.proofs.Lists.{at_place}

-- none of these messages under way calls an election
abbrev pub CallsNone : List Envelope → List Owed → Type 0
CallsNone messages = AllByRecursion (λ o. IsSomeAnd (message_at messages o.number) (λ m. IsCall m.message.body → ⊥))

module _ (ms : Monitors) (q : List Bool) (pace : Pace) (t next : Timed) (u : ℕ) (e : Event) (left : ℕ → ℕ → List Owed) (went : Went ms q pace (at_time ms q pace u t) e left next)
    (es : List Envelope) (messages : next.world.messages ≡ t.world.messages ++ es) (silent : AllByRecursion (λ (m : Envelope). IsCall m.message.body → ⊥) es) where
  pub calls_on : (f i : ℕ) → CallsNone t.world.messages (left f i) → CallsNone next.world.messages (next.under_way f i)
  calls_on f i old =
      let Q = λ (m : Envelope). IsCall m.message.body → ⊥ in
      let P = λ (o : Owed). IsSomeAnd (message_at next.world.messages o.number) (λ m. IsCall m.message.body → ⊥) in
      subst (AllByRecursion P) (sym (list_is ms q pace t next u es messages e left went f i))
      (all_append P (left f i) (new_from ms q pace t next u es messages f i) (all_still ms q pace t next u es messages Q Q (λ m k. k) (left f i) old)
      (all_new ms q pace t next u es messages f i Q (λ d m there _ _. at_place Q es d m silent there)))
