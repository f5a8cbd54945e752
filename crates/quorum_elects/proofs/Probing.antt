-- The members of a majority start, ask one another, and become candidates.
use Rattle.law_names.proofs.Runs.{Monitors, World}
use Rattle.law_names.proofs.Table.{Readings, Scores, State, Store, booting, count_of, has, is_majority, no_ranks, only, quorum_of, react, readings_of, same_phase, shared_entries, with_rank}
use Rattle.mon_msg.specs.declared.input.Input.TheVariants as input
use Rattle.mon_wire.specs.declared.body.Body.TheVariants as body
use Rattle.mon_wire.specs.declared.kind.Kind.TheVariants as kind
use Rattle.mon_wire.specs.declared.phase.Phase.TheVariants as phase
use Rattle.quorum_elects.proofs.Can.{New, Onward, Sane, Scope, new_stays}
use Rattle.quorum_elects.proofs.InTurn.{InTurn, Turned, at_first, covers_one, covers_with, each_in_turn}
use Rattle.quorum_elects.proofs.Majorities.{Majority, epoch_at, scope}
use Rattle.quorum_elects.proofs.Moving.{Did, Sound}
use Rattle.quorum_elects.proofs.Planning.{Does, Plays, does_then, does_weaker, passes, plays_all, plays_none, plays_weaker, step}
use Rattle.quorum_elects.proofs.Ranking.{FullIf}
use Rattle.quorum_elects.proofs.Ranks.{count_more, from_on, in_or_out, one_counts, same_or_not, up_to}
use Rattle.quorum_elects.proofs.Rows.{Answers, Fitting, Hears, Starts, odd_from, probed, replied, starts}
use Rattle.quorum_elects.proofs.Standing.{Close, CloseAt, Is, IsCandidate, IsProbing, letter}
use Rattle.quorum_elects.proofs.Steps.{deliver, is_now, is_stays, start}
use Rattle.quorum_elects.proofs.Tests.{and_false, chosen, in_phase, itself_is, other_is, otherwise, outside_is}
use Rattle.quorum_elects.proofs.Walking.{Surely}
use Rattle.quorum_elects.specs.Electing as electing
use Rattle.quorum_elects.specs.Plans as plans
use Rattle.quorum_elects.specs.Plans.{PlanStep}
use Rattle.quorum_laws.specs.Accepting.{IsMajorityOf, readings_at}
use Rattle.quorum_model.proofs.Members.{member_of}
use Rattle.quorum_walk.proofs.Ranks.{has_only, has_only_is, has_with}
use Rattle.std.proofs.Common.{Bool, List, Option, Some, [], ap, arith, false, inl, inr, length, ltb, refl, subst, suc, sym, true, unwrap_or, ℕ, ◌&&◌, ◌*◌, ◌<◌, ◌∙◌, ◌∷◌, ◌≡◌, ◌≤◌, ◌⊎◌}
use Rattle.std.proofs.lemmas.Bool.{cases_lt, false≢true, le-ltb, lt-ltb, ltb-false, ltb-true}
use Rattle.std.proofs.lemmas.List.{length-set}

module _ (G : Majority) where
  abbrev ms : Monitors
  ms = G.ms

  abbrev n : ℕ
  n = G.ms.count

  abbrev several : 1 < n
  several = G.several

  abbrev q : List Bool
  q = G.q

  abbrev M : IsMajorityOf n q
  M = G.major

  abbrev c : ℕ
  c = G.c

  abbrev Us : Scope
  Us = scope G

  abbrev sent : ℕ
  sent = length G.from.messages

  abbrev e0 : ℕ → ℕ
  e0 f = epoch_at G f

  abbrev On : World → World → Type 0
  On w v = Onward Us w v

  abbrev Room : World → Type 0
  Room w = Sane (scope G) w

  pub lt_of : (f : ℕ) → has q f ≡ true → ltb f n ≡ true
  lt_of f h = lt-ltb f n (M.below f h)

  -- ---- messages that wait

  abbrev Probes : ℕ → World → Type 0
  Probes f w = (g : ℕ) → g < n → (g ≡ f → ⊥) → (at : ℕ) × New sent w (record { to = g; message = letter n f at body.Probe })

  pub record Calls (f e : ℕ) (w : World) : Type 0 where
    pub table : Option Scores
    pub fits : Fitting ms.rule table
    pub full : FullIf table
    pub sent_to : (g : ℕ) → g < n → (g ≡ f → ⊥) → New sent w (record { to = g; message = letter n f e (body.Propose table) })

  probes_stay : (f : ℕ) (w v : World) → On w v → Probes f w → Probes f v
  probes_stay f w v o k g lt ne = let p = k g lt ne in (p.0, new_stays Us o p.1)

  pub calls_stay : (f e : ℕ) (w v : World) → On w v → Calls f e w → Calls f e v
  calls_stay f e w v o k = record { table = k.table; fits = k.fits; full = k.full; sent_to = λ g lt ne. new_stays Us o (k.sent_to g lt ne) }

  -- ---- one that waits for answers, and a candidate

  abbrev pub Waits : ℕ → World → Type 0
  Waits f w = Is (IsProbing c (e0 f) (only f)) w f × Probes f w

  abbrev pub Stands : ℕ → World → Type 0
  Stands f w = Is (IsCandidate c (odd_from (e0 f)) (only f)) w f × Calls f (odd_from (e0 f)) w

  -- ---- all start

  abbrev IsOf : ℕ → Type 0
  IsOf f = has q f ≡ true

  of_or_not : (k : ℕ) → IsOf k ⊎ (IsOf k → ⊥)
  of_or_not k = elim (in_or_out (has q k)) [ inl there ↦ inl there | inr out ↦ inr (λ h. false≢true (sym out ∙ h)) ]

  abbrev Stored : ℕ → World → Type 0
  Stored f w = w.store f ≡ G.from.store f

  -- those below k started, and the others have the store that they had
  abbrev pub Started : ℕ → World → Type 0
  Started = InTurn IsOf Room Waits Stored

  start_one : (k : ℕ) (w : World) → k < n → IsOf k → Room w → Stored k w → Plays Us (electing.starts q k ∷ []) 1 (Turned IsOf Room Waits Stored k w) w
  start_one k w lt there room same =
      step Us (electing.starts q k) (plans.Starts k ∷ []) (chosen _ _ (has q k) there) (does_weaker Us (omega arith) after (start Us w room k (lt_of k there) there (Starts ms several c k (lt_of k there) (shared_entries (w.store k)) (G.clock.event w) (e0 k)) (subst (λ (m : Store). Starting m) (sym same) first)))
    where
      after : (v : World) → On w v → Did Us (Starts ms several c k (lt_of k there) (shared_entries (w.store k)) (G.clock.event w) (e0 k)) w k v → Turned IsOf Room Waits Stored k w v
      after v o D = record {
        keeps = o.sane room;
        done = (is_now Us (IsProbing c (e0 k) (only k)) w v k D.y D.moved D.did.stands, λ g low ne. (D.did.at, D.moved.says g (letter n k D.did.at body.Probe) (D.did.says g low ne)));
        others = λ f ne a. (λ z. (is_stays (IsProbing c (e0 f) (only f)) w v f (D.moved.others f ne) z.0, probes_stay f w v o z.1), λ z. (D.moved.others f ne).1 ∙ z);
      }

      Starting : Store → Type 0
      Starting m = Surely (λ y. Sound (readings_of m) y × Starts ms several c k (lt_of k there) (shared_entries m) (G.clock.event w) (e0 k) y) (react (member_of ms k (lt_of k there)) (shared_entries m) (G.clock.event w) (readings_of m) (booting k) input.Start)

      first : Starting (G.from.store k)
      first = let N = G.numbers k there in let e = N.epoch in starts ms several c k (lt_of k there) (shared_entries (G.from.store k)) (G.clock.event w) (readings_at G.from k) (G.close k there) (N.number, N.promise) N.boot (omega arith)

  pub start_all : Room G.from → Plays Us (electing.each n (electing.starts q)) (1 * n) (Started n) G.from
  start_all room =
      each_in_turn IsOf Room Waits Stored Us n 1 (electing.starts q) of_or_not
      (λ k w not R. otherwise _ _ (has q k) (elim (in_or_out (has q k)) [ inl there ↦ absurd (not there) | inr out ↦ out ])) start_one G.from (at_first IsOf Room Waits Stored G.from room (λ f a. refl))

  -- ---- each asks the others, and becomes a candidate

  -- those below k are candidates, and the others wait for answers
  pub record Probed (k : ℕ) (w : World) : Type 0 where
    pub room : Room w
    pub done : (f : ℕ) → f < k → has q f ≡ true → Stands f w
    pub left : (f : ℕ) → k ≤ f → has q f ≡ true → Waits f w

  pub started_probed : (w : World) → Started n w → Probed 0 w
  started_probed w K = record { room = K.keeps; done = λ f low h. absurd (omega arith); left = λ f high h. K.done f (M.below f h) h }

  -- k itself waits for answers, and heard all below j, which are no majority
  pub record HubWaits (k j : ℕ) (w : World) : Type 0 where
    pub outside : List Bool
    pub long : length outside ≡ 15
    pub waits : Is (IsProbing c (e0 k) outside) w k
    pub probes : Probes k w
    pub self : has outside k ≡ true
    pub heard : (f : ℕ) → f < j → has q f ≡ true → has outside f ≡ true
    pub few : is_majority n outside ≡ false

  pub record Probing (k j : ℕ) (w : World) : Type 0 where
    pub room : Room w
    pub done : (f : ℕ) → f < k → has q f ≡ true → Stands f w
    pub left : (f : ℕ) → suc k ≤ f → has q f ≡ true → Waits f w
    pub hub : Stands k w ⊎ HubWaits k j w

  -- one that waits for answers, or is a candidate, is near and up
  record IsThere (w : World) (j : ℕ) : Type 0 where
    state : State
    up : w.state j ≡ Some state
    close : Close c (readings_at w j)
    runs : same_phase state.phase phase.Booting ≡ false

  there_waits : (w : World) (j : ℕ) → Waits j w → IsThere w j
  there_waits w j k = let z = k.0 in let h = z.holds in record { state = z.state; up = z.up; close = h.close; runs = ap (λ p. same_phase p phase.Booting) h.phase }

  there_stands : (w : World) (j : ℕ) → Stands j w → IsThere w j
  there_stands w j k = let z = k.0 in let h = z.holds in record { state = z.state; up = z.up; close = h.close; runs = ap (λ p. same_phase p phase.Booting) h.phase }

  waits_stay : (w v : World) (f : ℕ) → On w v → (v.state f ≡ w.state f) × (v.store f ≡ w.store f) → Waits f w → Waits f v
  waits_stay w v f o same k = (is_stays (IsProbing c (e0 f) (only f)) w v f same k.0, probes_stay f w v o k.1)

  pub stands_stay : (w v : World) (f : ℕ) → On w v → (v.state f ≡ w.state f) × (v.store f ≡ w.store f) → Stands f w → Stands f v
  stands_stay w v f o same k = (is_stays (IsCandidate c (odd_from (e0 f)) (only f)) w v f same k.0, calls_stay f (odd_from (e0 f)) w v o k.1)

  module _ (k : ℕ) (mine : has q k ≡ true) where
    -- another one answers, and nothing else changes
    record Answered (j : ℕ) (w v : World) : Type 0 where
      close : Close c (readings_at w j)
      at : ℕ
      quorum : List Bool
      first : ℕ
      last : ℕ
      first_is : (readings_at w j).first ≡ first
      last_is : (readings_at w j).last ≡ last
      waits : New sent v (record { to = k; message = letter n j at (body.ProbeReply quorum first last) })
      probing : Probing k j v
      hub : HubWaits k j v

    asks_one : (j : ℕ) (w : World) → j < n → (j ≡ k → ⊥) → (there : has q j ≡ true) → Probing k j w → HubWaits k j w → IsThere w j → Does Us (plans.Hears j k kind.Probe ∷ []) 1 (Answered j w) w
    asks_one j w lt ne there P H T =
        let m = H.probes j lt ne in
        does_weaker Us (omega arith) after
        (deliver Us w P.room j (lt_of j there) there (Answers ms several c j (lt_of j there) (shared_entries (w.store j)) (G.clock.event w) (readings_at w j) T.state k) (letter n k m.0 body.Probe) m.1 T.state T.up
        (probed ms several c j (lt_of j there) (shared_entries (w.store j)) (G.clock.event w) (readings_at w j) T.state k m.0 (λ e. ne (sym e)) (let C = T.close in C.unmarked) T.runs))
      where
        after : (v : World) → On w v → Did Us (Answers ms several c j (lt_of j there) (shared_entries (w.store j)) (G.clock.event w) (readings_at w j) T.state k) w j v → Answered j w v
        after v o D = record {
          close = T.close;
          at = D.did.at;
          quorum = quorum_of T.state;
          first = (readings_at w j).first;
          last = (readings_at w j).last;
          first_is = refl;
          last_is = refl;
          waits = D.moved.says k (letter n j D.did.at (body.ProbeReply (quorum_of T.state) (readings_at w j).first (readings_at w j).last)) D.did.says;
          probing = record { room = o.sane P.room; done = λ f low h. done f low h (same_or_not f j); left = λ f high h. left f high h (same_or_not f j); hub = inr hub };
          hub = hub;
        }
          where
            -- what held of it still does
            again : (R : Readings → State → Type 0) → Is R w j → Is R v j
            again R z = record {
              state = T.state;
              up = D.moved.up ∙ ap Some D.did.same;
              holds = subst (λ (r : Readings). R r T.state) (sym (D.moved.reads ∙ D.did.reads)) (subst (R (readings_at w j)) (some_is z.state T.state (sym z.up ∙ T.up)) z.holds);
            }
              where
                some_is : (a b : State) → ◌≡◌ {A = Option State} (Some a) (Some b) → a ≡ b
                some_is a b e = ap (λ (o : Option State). unwrap_or o a) e

            done : (f : ℕ) → f < k → has q f ≡ true → (f ≡ j) ⊎ (f ≡ j → ⊥) → Stands f v
            done f low h (inr other) = stands_stay w v f o (D.moved.others f other) (P.done f low h)
            done f low h (inl e) = subst (λ (x : ℕ). Stands x v) (sym e) (let z = subst (λ (x : ℕ). Stands x w) e (P.done f low h) in (again (IsCandidate c (odd_from (e0 j)) (only j)) z.0, calls_stay j (odd_from (e0 j)) w v o z.1))

            left : (f : ℕ) → suc k ≤ f → has q f ≡ true → (f ≡ j) ⊎ (f ≡ j → ⊥) → Waits f v
            left f high h (inr other) = waits_stay w v f o (D.moved.others f other) (P.left f high h)
            left f high h (inl e) = subst (λ (x : ℕ). Waits x v) (sym e) (let z = subst (λ (x : ℕ). Waits x w) e (P.left f high h) in (again (IsProbing c (e0 j) (only j)) z.0, probes_stay j w v o z.1))

            hub : HubWaits k j v
            hub = record { outside = H.outside; long = H.long; waits = is_stays (IsProbing c (e0 k) H.outside) w v k (D.moved.others k (λ e. ne (sym e))) H.waits; probes = probes_stay k w v o H.probes; self = H.self; heard = H.heard; few = H.few }

    hears_one : (j : ℕ) (w0 w : World) → j < n → (j ≡ k → ⊥) → (there : has q j ≡ true) → Answered j w0 w → HubWaits k j w → Does Us (plans.Hears k j kind.ProbeReply ∷ []) 1 (Probing k (suc j)) w
    hears_one j w0 w lt ne there A H =
        does_weaker Us (omega arith) after
        (deliver Us w P.room k (lt_of k mine) mine (Hears ms several c k (lt_of k mine) (shared_entries (w.store k)) (G.clock.event w) (e0 k) H.outside j) (letter n j A.at (body.ProbeReply A.quorum A.first A.last)) A.waits W.state W.up
        (replied ms several c k (lt_of k mine) (shared_entries (w.store k)) (G.clock.event w) (readings_at w k) W.state (e0 k) H.outside W.holds j A.at A.quorum A.first A.last (readings_at w0 j).marked ne close))
      where
        P : Probing k j w
        P = A.probing

        W : Is (IsProbing c (e0 k) H.outside) w k
        W = H.waits

        close : CloseAt c (readings_at w0 j).marked A.first A.last
        close = subst (λ (x : ℕ). CloseAt c (readings_at w0 j).marked x A.last) A.first_is (subst (λ (x : ℕ). CloseAt c (readings_at w0 j).marked (readings_at w0 j).first x) A.last_is A.close)

        after : (v : World) → On w v → Did Us (Hears ms several c k (lt_of k mine) (shared_entries (w.store k)) (G.clock.event w) (e0 k) H.outside j) w k v → Probing k (suc j) v
        after v o D = record {
          room = o.sane P.room;
          done = λ f low h. stands_stay w v f o (D.moved.others f (λ e. omega arith)) (P.done f low h);
          left = λ f high h. waits_stay w v f o (D.moved.others f (λ e. omega arith)) (P.left f high h);
          hub = by D.did;
        }
          where
            by : Hears ms several c k (lt_of k mine) (shared_entries (w.store k)) (G.clock.event w) (e0 k) H.outside j D.y → Stands k v ⊎ HubWaits k (suc j) v
            by (inl E) = inl (is_now Us (IsCandidate c (odd_from (e0 k)) (only k)) w v k D.y D.moved E.stands, record { table = E.table; fits = E.fits; full = E.full; sent_to = λ g low other. D.moved.says g (letter n k (odd_from (e0 k)) (body.Propose E.table)) (E.says g low other) })
            by (inr E) = inr (record {
              outside = with_rank H.outside j;
              long = length-set H.outside j true ∙ H.long;
              waits = is_now Us (IsProbing c (e0 k) (with_rank H.outside j)) w v k D.y D.moved E.0;
              probes = probes_stay k w v o H.probes;
              self = has_with H.outside j k H.self;
              heard = covers_with q H.outside j (let z = H.long in let m = lt in let s = ms.most in omega arith) H.heard;
              few = E.1;
            })

    abbrev Probe : ℕ → PlanStep
    Probe j = electing.probes q k j

    -- k asks j only if it probes
    is_probing : (w : World) (o : List Bool) (W : Is (IsProbing c (e0 k) o) w k) → electing.is_in w k phase.Probing ≡ true
    is_probing w o W = let h = W.holds in in_phase w k W.state phase.Probing phase.Probing W.up h.phase

    is_standing : (w : World) → Stands k w → electing.is_in w k phase.Probing ≡ false
    is_standing w Z = let z = Z.0 in let h = z.holds in in_phase w k z.state phase.Electing phase.Probing z.up h.phase

    probe_one : (j : ℕ) (w : World) → j < n → Probing k j w → Plays Us (Probe j ∷ []) 2 (Probing k (suc j)) w
    probe_one j w lt P = by P.hub
      where
        skips : (H : HubWaits k j w) → (electing.is_other q k j ≡ false) → (has q j ≡ true → has H.outside j ≡ true) → Plays Us (Probe j ∷ []) 2 (Probing k (suc j)) w
        skips H out in_it = passes Us (Probe j) (otherwise _ _ (has q k && (electing.is_other q k j && electing.is_in w k phase.Probing)) (λ i. mine i && (out i && electing.is_in w k phase.Probing))) (record {
          room = P.room;
          done = P.done;
          left = P.left;
          hub = inr (record {
            outside = H.outside;
            long = H.long;
            waits = H.waits;
            probes = H.probes;
            self = H.self;
            heard = covers_one q H.outside j in_it H.heard;
            few = H.few;
          });
        })

        there_of : has q j ≡ true → (j ≡ k → ⊥) → IsThere w j
        there_of h ne = elim (cases_lt j k) [ inl less ↦ there_stands w j (P.done j less h) | inr ge ↦ there_waits w j (P.left j (elim (from_on j k ge) [ inl e ↦ absurd (ne e) | inr more ↦ more ]) h) ]

        goes : (H : HubWaits k j w) → (h : has q j ≡ true) → (j ≡ k → ⊥) → Plays Us (Probe j ∷ []) 2 (Probing k (suc j)) w
        goes H h ne = step Us (Probe j) (plans.Hears j k kind.Probe ∷ plans.Hears k j kind.ProbeReply ∷ [])
            (chosen _ _ (has q k && (electing.is_other q k j && electing.is_in w k phase.Probing)) (λ i. mine i && (other_is q k j h ne i && is_probing w H.outside H.waits i)))
            (does_then Us (asks_one j w lt ne h P H (there_of h ne)) (λ v o A. hears_one j w v lt ne h A A.hub))

        by : Stands k w ⊎ HubWaits k j w → Plays Us (Probe j ∷ []) 2 (Probing k (suc j)) w
        by (inl Z) = passes Us (Probe j) (otherwise _ _ (has q k && (electing.is_other q k j && electing.is_in w k phase.Probing)) (and_false (has q k) _ (and_false (electing.is_other q k j) _ (is_standing w Z))))
            (record { room = P.room; done = P.done; left = P.left; hub = inl Z })
        by (inr H) = elim (in_or_out (has q j)) [
          | inr out ↦ skips H (outside_is q k j out) (λ h. absurd (false≢true (sym out ∙ h)))
          | inl h ↦ elim (same_or_not j k) [ inl e ↦ skips H (itself_is q k j e) (λ _. subst (λ (x : ℕ). has H.outside x ≡ true) (sym e) H.self) | inr ne ↦ goes H h ne ]
        ]

    -- once it heard all of the majority, it is a candidate
    probes_end : (w : World) → Probing k n w → Probed (suc k) w
    probes_end w P = record { room = P.room; done = λ f low h. elim (up_to f k low) [ inl e ↦ subst (λ (x : ℕ). Stands x w) (sym e) (by P.hub) | inr less ↦ P.done f less h ]; left = P.left }
      where
        by : Stands k w ⊎ HubWaits k n w → Stands k w
        by (inl Z) = Z
        by (inr H) =
            let more = count_more q H.outside (λ f h. H.heard f (M.below f h) h) in
            let major = ltb-true n (2 * count_of q) M.major in
            let few = ltb-false n (2 * count_of H.outside) H.few in
            absurd (omega arith)

  pub probe_all : (k : ℕ) (w : World) → k < n → Probed k w → Plays Us (electing.each n (electing.probes q k)) (2 * n) (Probed (suc k)) w
  probe_all k w lt P = by (in_or_out (has q k))
    where
      by : (has q k ≡ true) ⊎ (has q k ≡ false) → Plays Us (electing.each n (electing.probes q k)) (2 * n) (Probed (suc k)) w
      by (inr out) = plays_none Us n (electing.probes q k) (λ j. otherwise _ _ (has q k && (electing.is_other q k j && electing.is_in w k phase.Probing)) (λ i. out i && (electing.is_other q k j && electing.is_in w k phase.Probing))) (record {
        room = P.room;
        done = λ f low h. elim (up_to f k low) [ inl e ↦ absurd (false≢true (sym out ∙ subst (λ (x : ℕ). has q x ≡ true) e h)) | inr less ↦ P.done f less h ];
        left = λ f high h. P.left f (omega arith) h;
      })
      by (inl mine) = plays_weaker Us (omega arith) (λ v o p. probes_end k mine v p) (plays_all Us n 2 (electing.probes q k) (Probing k) (probe_one k mine) w (record {
        room = P.room;
        done = P.done;
        left = λ f high h. P.left f (omega arith) h;
        hub = inr (let z = P.left k (omega arith) mine in record {
          outside = only k;
          long = length-set no_ranks k true;
          waits = z.0;
          probes = z.1;
          self = has_only k (let l = M.below k mine in omega arith);
          heard = λ f low h. absurd (omega arith);
          few = le-ltb n (2 * count_of (only k)) (let f = one_counts (only k) k (λ m h. has_only_is k m h) in omega arith);
        });
      }))
