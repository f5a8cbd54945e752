-- What comes at a member while the members join an election.
use Rattle.law_names.proofs.Runs.{Event, Monitors}
use Rattle.law_names.proofs.Table.{AllByRecursion, Body, Message, Phase, State, has, same_phase}
use Rattle.mon_msg.specs.declared.input.Input.TheVariants as input
use Rattle.mon_wire.specs.declared.body.Body.TheVariants as body
use Rattle.mon_wire.specs.declared.phase.Phase.TheVariants as phase
use Rattle.quorum_stays.proofs.Onward.{one_state}
use Rattle.quorum_stays.specs.Steady.{FollowsSince}
use Rattle.quorum_timed.specs.Calls.{IsCall, IsCandidate}
use Rattle.quorum_timed.specs.Timed.{Pace, Timed}
use Rattle.std.proofs.Common.{Bool, IsSomeAnd, List, None, Some, ap, arith, false, refl, subst, suc, sym, true, ℕ, ◌+◌, ◌∙◌, ◌≡◌, ◌≤◌}
use Rattle.std.proofs.lemmas.Bool.{false≢true}
use Rattle.timed_election.proofs.Coming.{Handled, How, again, asks, fires, first as first_}
use Rattle.timed_election.proofs.Joining.{Beginning, First, Goes, IsIn, Joining, Standing, joined, loyal, peon, prober}
use Rattle.timed_election.proofs.Lists.{message_in, opened}
use Rattle.timed_election.specs.Election.{CanElect}
use Rattle.timed_election.specs.Joining.{CausesNoCopy, FollowsLost, LeavesStores}
use Rattle.timed_election.specs.Probing.{IsProbing}

-- a call is near any versions, and changes no store
near_call : (n : ℕ) (b : Body) → IsCall b → CausesNoCopy n b
near_call n (body.Propose table) k = tt
near_call n other k = absurd k

leaves_call : (b : Body) → IsCall b → LeavesStores b
leaves_call (body.Propose table) k = tt
leaves_call other k = absurd k

module _ (ms : Monitors) (q : List Bool) (pace : Pace) (B : Beginning) where
  module _ (c : First ms q pace B) (t : Timed) (X : Joining ms q pace B c t) where
    -- nobody takes part before the first call
    pub nobody_in : (f : ℕ) → has q f ≡ true → IsIn ms q pace B t f → c ≡ None → ⊥
    nobody_in f qf k is = of c (X.stands f qf) is
      where
        of : (x : First ms q pace B) → Standing ms q pace B x t f → x ≡ None → ⊥
        of x (peon S a d) n = (let z = S.epoch in omega arith)
        of x (loyal S a d) n = (let z = S.epoch in omega arith)
        of x (prober S P) n = (let z = S.epoch in omega arith)
        of None (joined S d) n = d
        of (Some y) (joined S d) n = cc

    -- a candidate takes part
    candidate_in : (f n : ℕ) → has q f ≡ true → IsCandidate t.world f n → (n ≡ suc B.epoch) × IsIn ms q pace B t f
    candidate_in f n qf K = of (X.stands f qf)
      where
        away : (P : State → Type 0) (p : Phase) → ((s : State) → P s → s.phase ≡ p) → same_phase p phase.Electing ≡ false → IsSomeAnd (t.world.state f) P → ⊥
        away P p g ne k = let o = opened P (t.world.state f) k in
            false≢true (sym ne ∙ ap (λ (z : Phase). same_phase z phase.Electing) (sym (g o.0 o.2)) ∙ ap (λ (z : State). same_phase z.phase phase.Electing) (one_state (t.world.state f) o.0 K.state o.1 K.up) ∙ ap (λ (z : Phase). same_phase z phase.Electing) K.elects)

        of : Standing ms q pace B c t f → (n ≡ suc B.epoch) × IsIn ms q pace B t f
        of (peon S k a) = absurd (away (FollowsLost q (k.by + pace.clock f)) phase.Peon (λ s P. P.follows) refl k.follows)
        of (loyal S k a) = absurd (away (FollowsSince k.leader k.quorum (k.leased + pace.clock f)) phase.Peon (λ s P. P.follows) refl k.follows)
        of (prober S P) = absurd (away (IsProbing ms pace f P.at) phase.Probing (λ s Z. Z.probes) refl P.probing)
        of (joined S k) = (sym K.epoch_is ∙ S.epoch, S.epoch)

  module _ (C : CanElect ms q B.best) (c : First ms q pace B) (t : Timed) (X : Joining ms q pace B c t) (u : ℕ) (next : Timed) (e : Event) (H : Handled ms q pace C.members t u next e) where
    abbrev i : ℕ
    i = H.i

    -- a message that comes
    pub record Known (m : Message) : Type 0 where
      pub member : has q m.from ≡ true
      pub epoch : m.epoch ≤ suc B.epoch
      pub close : CausesNoCopy (B.stores i).last m.body
      pub leaves : B.former ≡ Some m.from → LeavesStores m.body
      pub calls : IsCall m.body → (m.epoch ≡ suc B.epoch) × IsIn ms q pace B t m.from

    pub known : (m : Message) → H.came ≡ input.Deliver m → Known m
    known m is = of H.how
      where
        so : (z : Message) → H.came ≡ input.Deliver z → Known z → Known m
        so z h k = subst Known (let two : input.Deliver z ≡ input.Deliver m = sym h ∙ is in cc) k

        of : How ms q pace t u i H.came e H.left H.state → Known m
        of (first_ f qf o others z list there from h at rest) =
            let all = subst (AllByRecursion (Goes ms q pace B t.world f i (t.time + pace.delay))) list (X.under_way f i qf H.member) in
            let G : Goes ms q pace B t.world f i (t.time + pace.delay) o = all.0 in
            let two : Some (record { to = i; message = G.message }) ≡ Some (record { to = i; message = z }) = sym G.there ∙ there in
            let same : G.message ≡ z = ap (message_in z) two in
            so z h (subst Known same (record {
              member = subst (λ (k : ℕ). has q k ≡ true) (sym G.sender) qf;
              epoch = G.epoch;
              close = G.near;
              leaves = λ is. G.leaves (is ∙ ap Some G.sender);
              calls = λ k. ((G.calls k).0, subst (IsIn ms q pace B t) (sym G.sender) (G.calls k).1);
            }))
        of (again n z there from calling cand h at rest) = let k = candidate_in c t X z.from z.epoch from cand in so z h (record { member = from; epoch = (let a = k.0 in omega arith); close = near_call (B.stores i).last z.body calling; leaves = λ _. leaves_call z.body calling; calls = λ _. k })
        of (fires kind end on over h at rest) = (let clash : input.Timer kind ≡ input.Deliver m = sym h ∙ is in absurd cc)
        of (asks session r h at rest) = (let clash : input.Client session r ≡ input.Deliver m = sym h ∙ is in absurd cc)
