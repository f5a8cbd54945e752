-- The members join the election, event by event, until all take part.
use Rattle.law_names.proofs.Runs.{Event, Monitors}
use Rattle.law_names.proofs.Table.{Epoch, Readings, State, epoch_of, has, is_even, played, readings_of}
use Rattle.log_model.proofs.Lists.{all_map}
use Rattle.quorum_stays.proofs.Staying.{goes_on, time_of_next}
use Rattle.quorum_stays.proofs.SteppingDown.{here}
use Rattle.quorum_stays.specs.Reading.{ClocksGoOn}
use Rattle.quorum_stays.specs.Steady.{Reign}
use Rattle.quorum_timed.specs.Begins.{IsQuick}
use Rattle.quorum_timed.specs.Timed.{Comes, Leads, MayBe, Pace, Timed, at_time}
use Rattle.quorum_walk.proofs.Parity.{odd_of_even}
use Rattle.std.proofs.Common.{Bool, List, None, Option, Some, [], ap, arith, false, inl, inr, refl, suc, sym, true, zero, ℕ, ◌*◌, ◌+◌, ◌<◌, ◌^◌, ◌∙◌, ◌∷◌, ◌≡◌, ◌≤◌, ◌⊎◌}
use Rattle.std.proofs.lemmas.Bool.{false≢true}
use Rattle.timed_election.proofs.Coming.{Handled, handled}
use Rattle.timed_election.proofs.FollowingTurns.{loyal_turn, peon_turn}
use Rattle.timed_election.proofs.JoinedTurns.{in_turn}
use Rattle.timed_election.proofs.Joining.{Beginning, First, Goes, Joining, Raised, Standing, Takes, election, joined, loyal, peon, prober}
use Rattle.timed_election.proofs.JoiningBegins.{begins_with, deserted, parted}
use Rattle.timed_election.proofs.JoiningFrame.{Soon, Turned, between, joining_next, out_by, time_now, ups}
use Rattle.timed_election.proofs.JoiningTurns.{first_of}
use Rattle.timed_election.proofs.Lists.{closed, opened}
use Rattle.timed_election.proofs.ProbingTurns.{prober_turn}
use Rattle.timed_election.specs.Election.{CanElect, Election, Elects, IsOfElection, Stands, TakesPart}
use Rattle.timed_election.specs.Joining.{Deserted, JoinBy, NeedsNoCopy, Parted, Uncalled}

-- one of two things holds of each member: the first of all, or the second of one
pub all_or_one : (q : List Bool) (P Q : ℕ → Type 0) → ((i : ℕ) → has q i ≡ true → P i ⊎ Q i) → ((i : ℕ) → has q i ≡ true → P i) ⊎ ((i : ℕ) × (has q i ≡ true) × Q i)
all_or_one [] P Q f = inl (λ i h. absurd (false≢true h))
all_or_one (false ∷ q) P Q f = elim (all_or_one q (λ i. P (suc i)) (λ i. Q (suc i)) (λ i h. f (suc i) h)) [
  | inr o ↦ inr (suc o.0, o.1, o.2)
  | inl all ↦ inl (later all)
]
  where
    later : ((i : ℕ) → has q i ≡ true → P (suc i)) → (i : ℕ) → has (false ∷ q) i ≡ true → P i
    later all zero h = absurd (false≢true h)
    later all (suc i) h = all i h
all_or_one (true ∷ q) P Q f = elim (f 0 refl) [
  | inr k ↦ inr (0, refl, k)
  | inl k ↦ elim (all_or_one q (λ i. P (suc i)) (λ i. Q (suc i)) (λ i h. f (suc i) h)) [
    | inr o ↦ inr (suc o.0, o.1, o.2)
    | inl all ↦ inl (later k all)
  ]
]
  where
    later : P 0 → ((i : ℕ) → has q i ≡ true → P (suc i)) → (i : ℕ) → has (true ∷ q) i ≡ true → P i
    later k all zero h = k
    later k all (suc i) h = all i h

module _ (ms : Monitors) (q : List Bool) (pace : Pace) (quick : IsQuick pace) (short : 2 * pace.delay < 2000) (B : Beginning) (C : CanElect ms q B.best) (enough : B.top + 2 * pace.delay ≤ B.end)
    (near : (i j : ℕ) → has q i ≡ true → has q j ≡ true → NeedsNoCopy (B.stores i).last (B.stores j).first (B.stores j).last) (even : is_even B.epoch ≡ true) (fits : suc B.epoch ≤ 2 ^ 62) where
  abbrev F : Type 0
  F = First ms q pace B

  abbrev J : F → Timed → Type 0
  J c t = Joining ms q pace B c t

  -- the first call reached no later
  abbrev Late : F → ℕ → Type 0
  Late None u = Unit {0}
  Late (Some (k, from)) u = u ≤ from + 3 * pace.delay

  abbrev IsOut : Timed → ℕ → Type 0
  IsOut t i = epoch_of (readings_of (t.world.store i)) ≡ B.epoch

  abbrev TakesNow : F → Timed → ℕ → Type 0
  TakesNow c t i = Raised ms q pace B i (readings_of (t.world.store i)) × Takes ms q pace B c t i

  in_or_out : (c : F) (t : Timed) (i : ℕ) → Standing ms q pace B c t i → TakesNow c t i ⊎ IsOut t i
  in_or_out c t i (peon S k a) = inr S.epoch
  in_or_out c t i (loyal S k a) = inr S.epoch
  in_or_out c t i (prober S P) = inr S.epoch
  in_or_out c t i (joined S k) = inl (S, k)

  -- the store of a member with the epoch of the election
  abbrev raised : Readings → Readings
  raised w = played (Epoch (suc B.epoch) ∷ []) w

  raised_same : (c : F) (t : Timed) → J c t → (i : ℕ) → has q i ≡ true → raised (readings_of (t.world.store i)) ≡ raised (B.stores i)
  raised_same c t X i qi = by (X.stands i qi)
    where
      by : Standing ms q pace B c t i → raised (readings_of (t.world.store i)) ≡ raised (B.stores i)
      by (peon S k a) = ap raised S.same
      by (loyal S k a) = ap raised S.same
      by (prober S P) = ap raised S.same
      by (joined S k) = ap raised S.same

  -- ---- one event

  abbrev Stepped : Timed → Type 0
  Stepped next = (d : F) × J d next × Late d next.time

  module _ (t : Timed) (u : ℕ) (M : MayBe ms q pace t u) (next : Timed) (e : Event) (room : ClocksGoOn q pace u) (j : ℕ) (qj : has q j ≡ true) (out : IsOut t j) where
    -- the turn of a member that was out
    went : (c : F) (X : J c t) (H : Handled ms q pace C.members t u next e)
        → Turned ms q pace short B C enough c t X u M next e H c ⊎ Turned ms q pace short B C enough c t X u M next e H (first_of ms q pace short B C enough near c t X u M next e H c) → Stepped next
    went c X H (inl T) = (c, joining_next ms q pace short B C enough c t X u M next e H c T, late c (out_by ms q pace short B C enough c t X u M j qj out).1)
      where
        late : (x : F) → Soon ms q pace short B C enough c t X u M x 3 → Late x next.time
        late None k = tt
        late (Some (a, from)) k = let z = time_now ms q pace short B C enough c t X u M next e H in omega arith
    went c X H (inr T) = (first_of ms q pace short B C enough near c t X u M next e H c, joining_next ms q pace short B C enough c t X u M next e H (first_of ms q pace short B C enough near c t X u M next e H c) T, late c (out_by ms q pace short B C enough c t X u M j qj out).1)
      where
        late : (x : F) → Soon ms q pace short B C enough c t X u M x 3 → Late (first_of ms q pace short B C enough near c t X u M next e H x) next.time
        late None k = let z = time_now ms q pace short B C enough c t X u M next e H in omega arith
        late (Some (a, from)) k = let z = time_now ms q pace short B C enough c t X u M next e H in omega arith

    stepped : (c : F) (X : J c t) → Comes ms q pace (at_time ms q pace u t) next e → Stepped next
    stepped c X comes = of c X refl (handled ms q pace C.members t u (between ms q pace short B C enough c t X u M) (ups ms q pace short B C enough c t X u M) next e comes)
      where
        of : (x : F) (Y : J x t) → c ≡ x → Handled ms q pace C.members t u next e → Stepped next
        of x Y is H = by x Y (Y.stands H.i H.member)
          where
            by : (x : F) (Y : J x t) → Standing ms q pace B x t H.i → Stepped next
            by x Y (peon S k a) = went x Y H (peon_turn ms q pace short B C enough near x t Y u M next e H C.ranks_decide even fits (room H.i H.member) S k a)
            by x Y (loyal S k a) = went x Y H (loyal_turn ms q pace short B C enough near x t Y u M next e H C.ranks_decide even fits (room H.i H.member) S k a)
            by x Y (prober S P) = went x Y H (prober_turn ms q pace short B C enough near x t Y u M next e H C.ranks_decide even fits (room H.i H.member) S P)
            by None Y (joined S k) = absurd k
            by (Some (a, from)) Y (joined S k) =
                let o = out_by ms q pace short B C enough (Some (a, from)) t Y u M j qj out in
                let soon = o.1 in
                let first_by = o.0 in
                let g = quick.elections in
                went (Some (a, from)) Y H (inl (in_turn ms q pace short B C enough near a from t Y u M next e H C.ranks_decide (odd_of_even B.epoch even) (room H.i H.member) S k (omega arith) (omega arith)))

  -- ---- all take part

  done : (d : F) (t : Timed) (Y : J d t) → Late d t.time → t.time ≤ B.end → ((i : ℕ) → has q i ≡ true → TakesNow d t i)
      → (E : Election) × (E.epoch ≡ suc B.epoch) × (E.best ≡ B.best) × (E.by ≤ B.end) × (t.time ≤ E.by) × Elects ms q pace E t
  done None t Y late le all = absurd (all B.best C.member).1
  done (Some (a, from)) t Y late le all = (
    (election ms q pace B from),
    refl,
    refl,
    (omega arith),
    (omega arith),
    record {
      can = C;
      odd = odd_of_even B.epoch even;
      since = (let b = Y.begun in let s = b.1 in let l = b.2 in omega arith);
      together = (omega arith);
      begun = (let b = Y.begun in b.0);
      epoch = λ i qi. (let S = (all i qi).0 in S.epoch);
      part = λ i qi. (let o = opened (λ (s : State). TakesPart q pace (election ms q pace B from) i s × (i ≡ B.best → Stands q pace (election ms q pace B from) s)) (t.world.state i) (all i qi).1 in closed (TakesPart q pace (election ms q pace B from) i) (t.world.state i) o.0 o.1 o.2.0);
      stands = (let o = opened (λ (s : State). TakesPart q pace (election ms q pace B from) B.best s × (B.best ≡ B.best → Stands q pace (election ms q pace B from) s)) (t.world.state B.best) (all B.best C.member).1 in closed (Stands q pace (election ms q pace B from)) (t.world.state B.best) o.0 o.1 (o.2.1 refl));
      under_way = λ f i qf qi. all_map (Goes ms q pace B t.world f i (t.time + pace.delay)) (IsOfElection (election ms q pace B from) t.world.messages f i (t.time + pace.delay)) (λ o G. record {
        envelope = record { to = i; message = G.message };
        there = G.there;
        sender = G.sender;
        receiver = refl;
        epoch = G.epoch;
        calls = λ _ k. (G.calls k).0;
        in_time = G.in_time;
      }) (t.under_way f i) (Y.under_way f i qf qi);
      called = λ i qi ne. Y.called (let S = (all B.best C.member).0 in S.epoch) i qi ne;
      alike = λ i k m there calling from_best to epoch. (Y.alike i k m there calling from_best to epoch).0;
      others = λ i qi ne. elim (Y.told i qi ne) [
        | inr h ↦ inr h.2
        | inl N ↦ inl (record { comes = (let c = Y.calls_by i qi in omega arith); unacked = N.unacked (let S = (all B.best C.member).0 in S.epoch); silent = N.silent })
      ];
    },
  )

  -- ---- the run

  -- times don't depend on who leads
  nobody : Reign
  nobody = record { leader = B.best; epoch = B.epoch; pn = 0 }

  pub joins : (c : F) (t last : Timed) (more : List (ℕ × Event)) → J c t → (j : ℕ) → has q j ≡ true → IsOut t j → Leads ms q pace t more last → ClocksGoOn q pace last.time → B.end < last.time
      → JoinBy ms q pace B.best (suc B.epoch) t last more B.end
  joins c t last [] X j qj out L room late = let o = out_by ms q pace short B C enough c t X last.time L.0 j qj out in let k = o.0 in absurd (omega arith)
  joins c t last ((u, e) ∷ more) X j qj out L room late = by (stepped t u L.0 L.1.0 e room_now j qj out c X L.1.1) (λ d Y k qk still. joins d L.1.0 last more Y k qk still L.1.2 room late)
    where
      M : MayBe ms q pace t u
      M = L.0

      next : Timed
      next = L.1.0

      time_is : next.time ≡ u
      time_is = time_of_next ms q pace nobody quick (at_time ms q pace u t) next e L.1.1

      room_now : ClocksGoOn q pace u
      room_now i qi = let k = room i qi in let a = time_is in let c = goes_on ms q pace nobody quick more next last L.1.2 in omega arith

      soon : next.time ≤ B.end
      soon = let o = out_by ms q pace short B C enough c t X u M j qj out in let k = o.0 in let a = time_is in omega arith

      by : Stepped next → ((d : F) → J d next → (k : ℕ) → has q k ≡ true → IsOut next k → JoinBy ms q pace B.best (suc B.epoch) next last more B.end) → JoinBy ms q pace B.best (suc B.epoch) t last ((u, e) ∷ more) B.end
      by S rest = elim (all_or_one q (TakesNow S.0 next) (IsOut next) (λ i qi. (let Y : J S.0 next = S.1 in in_or_out S.0 next i (Y.stands i qi)))) [
        | inr k ↦ (let W = rest S.0 S.1 k.0 k.1 k.2 in record {
          before = (u, e) ∷ W.before;
          after = W.after;
          parts = ap (λ (z : List (ℕ × Event)). (u, e) ∷ z) W.parts;
          reached = W.reached;
          run = (M, (next, L.1.1, W.run));
          rest = W.rest;
          election = W.election;
          epoch_is = W.epoch_is;
          best_is = W.best_is;
          by = W.by;
          soon = W.soon;
          elects = W.elects;
          kept = λ i qi. W.kept i qi ∙ raised_same S.0 next S.1 i qi ∙ sym (raised_same c t X i qi);
        })
        | inl all ↦ (let D = done S.0 next S.1 S.2 soon all in record {
          before = (u, e) ∷ [];
          after = more;
          parts = refl;
          reached = next;
          run = (M, (next, L.1.1, (here ms q pace next last more L.1.2, refl)));
          rest = L.1.2;
          election = D.0;
          epoch_is = D.1;
          best_is = D.2;
          by = D.3;
          soon = D.4;
          elects = D.5;
          kept = λ i qi. (let Z = (all i qi).0 in Z.same) ∙ sym (raised_same c t X i qi);
        })
      ]

-- ---- from each beginning

module _ (ms : Monitors) (q : List Bool) (pace : Pace) (best epoch top end : ℕ) (former : Option ℕ) (t last : Timed) (more : List (ℕ × Event)) (quick : IsQuick pace) (short : 2 * pace.delay < 2000) (C : CanElect ms q best)
    (U : Uncalled q pace epoch t) where
  join_so : Joining ms q pace (begins_with best epoch top end former t) None t → top + 2 * pace.delay ≤ end → Leads ms q pace t more last → ClocksGoOn q pace last.time → end < last.time
      → JoinBy ms q pace best (suc epoch) t last more end
  join_so X enough L room late = joins ms q pace quick short (begins_with best epoch top end former t) C enough U.near U.even U.fits None t last more X best C.member (U.epoch_is best C.member) L room late

pub joined_by : (ms : Monitors) (q : List Bool) (pace : Pace) (best epoch by : ℕ) (t last : Timed) (more : List (ℕ × Event)) → IsQuick pace → 2 * pace.delay < 2000 → CanElect ms q best → Deserted q pace epoch by t
    → Leads ms q pace t more last → ClocksGoOn q pace last.time → by + pace.late + 2 * pace.delay < last.time → JoinBy ms q pace best (suc epoch) t last more (by + pace.late + 2 * pace.delay)
joined_by ms q pace best epoch by t last more quick short C D L room late =
    join_so ms q pace best epoch (by + pace.late) (by + pace.late + 2 * pace.delay) None t last more quick short C D.uncalled (deserted ms q pace best epoch by t C D) (omega arith) L room late

pub parted_by : (ms : Monitors) (q : List Bool) (pace : Pace) (best leader epoch : ℕ) (t last : Timed) (more : List (ℕ × Event)) → IsQuick pace → 2 * pace.delay < 2000 → CanElect ms q best
    → Parted ms q pace leader epoch t → Leads ms q pace t more last → ClocksGoOn q pace last.time → t.time + 3 * pace.delay < last.time → JoinBy ms q pace best (suc epoch) t last more (t.time + 3 * pace.delay)
parted_by ms q pace best leader epoch t last more quick short C P L room late =
    join_so ms q pace best epoch t.time (t.time + 3 * pace.delay) (Some leader) t last more quick short C P.uncalled (parted ms q pace best leader epoch t C P) (omega arith) L room late
