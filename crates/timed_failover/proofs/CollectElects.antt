-- A new leader still asks after an event at a member that takes part in the election: until the VICTORY comes, what is under
-- way is a vote, a call may come again, and its own timer may fire. It calls and defers as before, and doesn't win.
use Rattle.law_names.proofs.Runs.{Envelope, Event, Monitors, messages_of}
use Rattle.law_names.proofs.Table.{AllByRecursion, Course, Input, Me, Message, Readings, Sent, State, Timer, armed, disarmed, end_of, epoch_of, has, is_alone, is_even, is_majority, is_whole, no_ranks, only, others, react, readings_of, shared_entries, with_rank}
use Rattle.mon_msg.specs.declared.input.Input.TheVariants as input
use Rattle.mon_msg.specs.declared.plan.Sent.TheVariants as sent
use Rattle.mon_wire.specs.declared.body.Body.TheVariants as body
use Rattle.mon_wire.specs.declared.phase.Timer.TheVariants as timer
use Rattle.quorum_agreement.proofs.Others.{others as has_others}
use Rattle.quorum_model.proofs.Members.{member_of}
use Rattle.quorum_stays.proofs.Stepping.{Did}
use Rattle.quorum_stays.proofs.Timers.{armed_size, disarmed_size, ends, one_end, same_kind_or, still_ends, still_on}
use Rattle.quorum_timed.proofs.Armed.{Timers}
use Rattle.quorum_timed.specs.Begins.{IsQuick}
use Rattle.quorum_timed.specs.Timed.{Owed, Pace, Timed, Went, at_time}
use Rattle.quorum_walk.proofs.Ranks.{has_only_is, has_with_is, nobody}
use Rattle.quorum_walk.proofs.Walk.{Then}
use Rattle.std.proofs.Common.{Bool, List, None, Ok, Option, Some, [], ap, arith, false, inl, inr, length, ltb, map, refl, subst, sym, true, ℕ, ◌+◌, ◌<◌, ◌^◌, ◌∙◌, ◌∷◌, ◌≡◌, ◌≤◌}
use Rattle.std.proofs.lemmas.Bool.{false≢true}
use Rattle.timed_election.proofs.Coming.{How, again, asks, fires, first}
use Rattle.timed_election.proofs.Counting.{not_whole, several}
use Rattle.timed_election.proofs.Outcomes.{AsksIn, IsAnswerTo, IsLow, Outcome, Stays, calls, calls_again, counts, defers, reacted, rests, says, wins}
use Rattle.timed_election.specs.Election.{CanElect}
use Rattle.timed_failover.proofs.CollectKeeps.{IsApart, L}
use Rattle.timed_failover.proofs.CollectQuiets.{still_asked}
use Rattle.timed_failover.specs.Collecting.{Electing, Following, IsAs, IsAsked, Noted, Progress, Promised, Query, StillElects}

all_sent : (P : Sent → Type 0) (Q : Envelope → Type 0) → ((to : ℕ) (m : Message) → P (sent.Message to m) → Q (record { to = to; message = m })) → (out : List Sent) → AllByRecursion P out → AllByRecursion Q (messages_of out)
all_sent P Q f [] k = tt
all_sent P Q f (sent.Message to m ∷ out) k = (f to m k.0, all_sent P Q f out k.1)
all_sent P Q f (sent.Reply to r ∷ out) k = all_sent P Q f out k.1

module _ (ms : Monitors) (q : List Bool) (pace : Pace) (quick : IsQuick pace) (x : Query) (t : Timed) (u : ℕ) (later : t.time ≤ u) (next : Timed) (e : Event) (left : ℕ → ℕ → List Owed) (X : IsAsked ms q pace x (record t { under_way = left })) (went : Went ms q pace (at_time ms q pace u t) e left next)
    (i : ℕ) (qi : has q i ≡ true) (ni : i ≡ L ms q pace x → ⊥) (came : Input) (s : State) (up : t.world.state i ≡ Some s) (y : Course) (how : How ms q pace t u i came e left s) (D : Did t.world next.world i y.state y.changes (messages_of y.out))
    (lt : ltb i ms.count ≡ true) (room : u + pace.clock i + 10000 ≤ 2 ^ 62) (reacts : react (member_of ms i lt) (shared_entries (t.world.store i)) (u + pace.clock i) (readings_of (t.world.store i)) s came ≡ Ok y)
    (P : StillElects q pace x i s) (epoch_is : epoch_of (readings_of (t.world.store i)) ≡ x.election.epoch) (soon : u ≤ x.won + pace.delay)
    (low : IsLow (epoch_of (readings_of (t.world.store i))) came) (plain : AsksIn came → ⊥) (from_member : (m : Message) → came ≡ input.Deliver m → has q m.from ≡ true) where
  abbrev me : Me
  me = member_of ms i lt

  abbrev now : ℕ
  now = u + pace.clock i

  abbrev w : Readings
  w = readings_of (t.world.store i)

  abbrev C : CanElect ms q x.election.best
  C = X.can

  odd : is_even (epoch_of w) ≡ false
  odd = subst (λ (z : ℕ). is_even z ≡ false) (sym epoch_is) X.odd

  more : (f : ℕ) → has q f ≡ true → (k : ℕ) → has (with_rank s.elector.acked f) k ≡ true → has q k ≡ true
  more f qf k h = elim (has_with_is s.elector.acked f k h) [ inl is ↦ subst (λ (z : ℕ). has q z ≡ true) (sym is) qf | inr old ↦ P.acks k old ]

  few : (f : ℕ) (m : Message) → came ≡ input.Deliver m → m.from ≡ f → is_whole me (with_rank s.elector.acked f) ≡ false
  few f m is from = not_whole ms q x.election.best C (with_rank s.elector.acked f) (more f (subst (λ (z : ℕ). has q z ≡ true) from (from_member m is)))

  second : is_majority ms.count s.elector.acked ≡ true → is_alone me s.elector.acked ≡ false
  second most = has_others me s.elector.acked (several ms q x.election.best C) most (λ k h. C.members k (P.acks k h))

  outcome : Outcome ms i lt now (shared_entries (t.world.store i)) w s came y
  outcome = (subst (Then (Outcome ms i lt now (shared_entries (t.world.store i)) w s came)) reacts (reacted ms i lt now (shared_entries (t.world.store i)) w s odd C.ranks_decide P.only second came few P.elects low)).holds

  -- ---- what it remembers

  module _ (candidate : Bool) (acked : List Bool) (deferred : Option ℕ) (ts : Timers) (K : Stays candidate acked deferred ts y) where
    remains : length ts ≡ 11 → ((kind : Timer) (end : ℕ) → end_of kind ts ≡ Some end → kind ≡ timer.Election) → ((j : ℕ) → has acked j ≡ true → has q j ≡ true)
        → (candidate ≡ true → (end : ℕ) → end_of timer.Election ts ≡ Some end → x.won + pace.clock i + pace.delay < end) → StillElects q pace x i y.state
    remains size only_one acks stands = record {
      elects = K.phase;
      kinds = ap length K.timers ∙ size;
      only = λ kind end on. only_one kind end (sym (ap (end_of kind) K.timers) ∙ on);
      acks = λ j h. acks j (sym (ap (λ (z : List Bool). has z j) K.acked) ∙ h);
      stands = λ c end on. stands (sym K.candidate ∙ c) end (sym (ap (end_of timer.Election) K.timers) ∙ on);
    }

  -- it called anew
  module _ (ts : Timers) (size : length ts ≡ 11) (only_one : (kind : Timer) (end : ℕ) → end_of kind ts ≡ Some end → kind ≡ timer.Election) where
    anew : Stays true (only i) None (armed now timer.Election ts) y → StillElects q pace x i y.state
    anew K = remains true (only i) None (armed now timer.Election ts) K (armed_size now timer.Election ts size) (λ kind end on. elim (same_kind_or kind timer.Election) [
      | inl same ↦ same
      | inr ne ↦ only_one kind end (sym (still_ends now kind timer.Election ts ne) ∙ on)
    ]) (λ j h. subst (λ (z : ℕ). has q z ≡ true) (sym (has_only_is i j h)) qi)
        (λ _ end on. (let is = one_end (end_of timer.Election (armed now timer.Election ts)) end (now + 5000) on (ends now timer.Election ts size (omega arith)) in let a = X.begun in let c = quick.leases in omega arith))

  -- ---- what it sends

  abbrev IsLetter : Sent → Type 0
  IsLetter (sent.Message to m) = m ≡ record { from = i; monitors = ms.count; epoch = epoch_of w; body = body.Propose None }
  IsLetter (sent.Reply to r) = ⊥

  letters : (ks : List ℕ) → AllByRecursion IsLetter (map (says ms i lt now (shared_entries (t.world.store i)) w s (body.Propose None)) ks)
  letters [] = tt
  letters (k ∷ ks) = (refl, letters ks)

  called : y.out ≡ map (says ms i lt now (shared_entries (t.world.store i)) w s (body.Propose None)) (others me) → AllByRecursion (IsApart ms q pace x) (messages_of y.out)
  called out = subst (λ (z : List Sent). AllByRecursion (IsApart ms q pace x) (messages_of z)) (sym out)
      (all_sent IsLetter (IsApart ms q pace x) (λ to m k. subst (λ (z : Message). IsApart ms q pace x (record { to = to; message = z })) (sym k) (inr (record { sender = refl; before = (let z = epoch_is in omega arith); elects = tt })))
      (map (says ms i lt now (shared_entries (t.world.store i)) w s (body.Propose None)) (others me)) (letters (others me)))

  -- ---- the query goes on

  goes_on : y.changes ≡ [] → AllByRecursion (IsApart ms q pace x) (messages_of y.out) → StillElects q pace x i y.state → IsAsked ms q pace x next
  goes_on none apart still = still_asked ms q pace x t u later next e left X went i came s up y how D none apart (λ is _ _. absurd (ni is)) (λ is _ _ _ _ _. absurd (ni is)) (λ _ p k. follows p k)
    where
      follows : (p : Progress) → IsAs ms.count pace x q i p s → IsAs ms.count pace x q i p y.state
      follows Electing k = still
      follows Following k = let a = k.follows in let c = P.elects in absurd cc
      follows Promised k = let a = k.follows in let c = P.elects in absurd cc
      follows Noted k = let a = k.follows in let c = P.elects in absurd cc

  fired : came ≡ input.Timer timer.Election → (end : ℕ) × (end_of timer.Election s.timers ≡ Some end) × (end ≤ now)
  fired is = by how
    where
      by : How ms q pace t u i came e left s → (end : ℕ) × (end_of timer.Election s.timers ≡ Some end) × (end ≤ now)
      by (first f qf o others z list there from k at rest) = absurd cc
      by (again k z there from call still h at rest) = absurd cc
      by (fires kind end on due k at rest) = let same : kind ≡ timer.Election = cc in (end, subst (λ (z : Timer). end_of z s.timers ≡ Some end) same on, due)
      by (asks session r k at rest) = absurd cc

  pub electing_asked : IsAsked ms q pace x next
  electing_asked = by outcome
    where
      by : Outcome ms i lt now (shared_entries (t.world.store i)) w s came y → IsAsked ms q pace x next
      by (rests K quiet answers) = goes_on K.changes (all_sent (IsAnswerTo came) (IsApart ms q pace x) (λ to m k. absurd (plain k.0)) y.out answers)
          (remains s.elector.candidate s.elector.acked s.elector.deferred s.timers K P.kinds P.only P.acks P.stands)
      by (counts f H candidate K out) = goes_on K.changes (subst (λ (z : List Sent). AllByRecursion (IsApart ms q pace x) (messages_of z)) (sym out) tt)
          (remains true (with_rank s.elector.acked f) s.elector.deferred s.timers K P.kinds P.only (more f (subst (λ (z : ℕ). has q z ≡ true) H.from (from_member H.message H.is))) (λ _. P.stands candidate))
      by (defers f tb table H better may K out) = goes_on K.changes (subst (λ (z : List Sent). AllByRecursion (IsApart ms q pace x) (messages_of z)) (sym out) (inr (record { sender = refl; before = (let z = epoch_is in omega arith); elects = tt }), tt))
          (remains false no_ranks (Some f) s.timers K P.kinds P.only (λ j h. absurd (false≢true (sym (nobody j) ∙ h))) (λ c. absurd (false≢true c)))
      by (calls idle free K out) = goes_on K.changes (called out) (anew s.timers P.kinds P.only K)
      by (calls_again is no_win K out) = goes_on K.changes (called out) (anew (disarmed timer.Election s.timers) (disarmed_size timer.Election s.timers P.kinds) (λ kind end on. elim (same_kind_or kind timer.Election) [
        | inl same ↦ same
        | inr ne ↦ P.only kind end (sym (still_on kind timer.Election s.timers ne) ∙ on)
      ]) K)
      by (wins is candidate most K) = let f = fired is in let a = P.stands candidate f.0 f.1 in let c = f.2 in absurd (omega arith)
