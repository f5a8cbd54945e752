-- Members that lack a version get it, and a value is accepted and committed.
use Rattle.law_names.proofs.Runs.{Monitors, World}
use Rattle.law_names.proofs.Table.{Body, Course, Op, Origin, Phase, Readings, Session, State, are_within, has, no_ranks, only, same_phase, shared_entries, with_rank}
use Rattle.log_model.proofs.Records.{IsVersion}
use Rattle.mon_msg.specs.declared.plan.Origin.TheVariants as origin
use Rattle.mon_wire.specs.declared.body.Body.TheVariants as body
use Rattle.mon_wire.specs.declared.kind.Kind.TheVariants as kind
use Rattle.mon_wire.specs.declared.phase.Phase.TheVariants as phase
use Rattle.mon_wire.specs.declared.reply.Reply.TheVariants as reply
use Rattle.quorum_elects.proofs.Can.{New, Onward, Scope, new_stays}
use Rattle.quorum_elects.proofs.InTurn.{InTurn, Peon, Turned, at_first, covers_one, covers_with, each_in_turn, not_peon, peon_or_not}
use Rattle.quorum_elects.proofs.Majorities.{Majority, scope}
use Rattle.quorum_elects.proofs.Moving.{Did, HasReply}
use Rattle.quorum_elects.proofs.Planning.{Does, Plays, does_then, does_weaker, passes, plays_all, plays_weaker, step}
use Rattle.quorum_elects.proofs.Ranks.{in_or_out, same_or_not}
use Rattle.quorum_elects.proofs.Standing.{Is, letter}
use Rattle.quorum_elects.proofs.Steps.{deliver, is_now, is_stays}
use Rattle.quorum_elects.proofs.Tests.{and_false, chosen, in_phase, itself_is, other_is, otherwise, outside_is, quorum_is}
use Rattle.quorum_elects.specs.Electing as electing
use Rattle.quorum_elects.specs.Plans as plans
use Rattle.quorum_laws.specs.Accepting.{readings_at}
use Rattle.quorum_recovers.proofs.Known.{message_tells, value_fine, within_log}
use Rattle.quorum_recovers.proofs.Leaders as leaders
use Rattle.quorum_recovers.proofs.States.{IsActive, IsHearing, IsProposing}
use Rattle.quorum_recovers.proofs.Terms as terms
use Rattle.quorum_recovers.proofs.Terms.{Term}
use Rattle.quorum_recovers.proofs.ValueRows.{Accepts, Commits, accepts, counts_accept, learns}
use Rattle.quorum_recovers.specs.Plan as plan
use Rattle.quorum_walk.proofs.FineCourses.{Val}
use Rattle.quorum_walk.proofs.Ranks.{has_only, has_with}
use Rattle.std.proofs.Common.{Bool, List, Option, Some, [], arith, false, inl, inr, length, ltb, subst, suc, sym, true, ℕ, ◌&&◌, ◌*◌, ◌<◌, ◌^◌, ◌∙◌, ◌∷◌, ◌≡◌, ◌≤◌, ◌⊎◌}
use Rattle.std.proofs.lemmas.Bool.{cases_lt, false≢true, le-ltb, lt-ltb}
use Rattle.std.proofs.lemmas.List.{length-set}

module _ (G : Majority) (Q : Term G) where
  abbrev ms : Monitors
  ms = G.ms

  abbrev n : ℕ
  n = G.ms.count

  abbrev several : 1 < n
  several = G.several

  abbrev q : List Bool
  q = G.q

  abbrev Us : Scope
  Us = scope G

  abbrev sent : ℕ
  sent = length G.from.messages

  abbrev r : ℕ
  r = Q.r

  abbrev e : ℕ
  e = Q.e

  abbrev a : List Bool
  a = Q.a

  abbrev mine : has a r ≡ true
  mine = Q.mine

  abbrev within : (f : ℕ) → has a f ≡ true → has q f ≡ true
  within = Q.within

  abbrev On : World → World → Type 0
  On w v = Onward Us w v

  abbrev Mail : ℕ → ℕ → Body → World → Type 0
  Mail f g b w = New sent w (record { to = g; message = letter n f e b })

  below : (f : ℕ) → has a f ≡ true → f < n
  below f h = terms.below G Q f h

  lt_of : (f : ℕ) → has a f ≡ true → ltb f n ≡ true
  lt_of f h = lt-ltb f n (below f h)

  abbrev Fit : World → Type 0
  Fit w = leaders.Fit G Q w

  -- ---- who lacks the version gets it

  abbrev lacks : ℕ → World → Bool
  lacks k w = ltb (readings_at w k).last (readings_at w r).last

  abbrev gets : ℕ → World → Bool
  gets k w = electing.is_other (electing.quorum_at w r) r k && lacks k w

  module _ (Hub : Readings → State → Type 0) (Post : World → Type 0) (post_on : (w v : World) → On w v → Post w → Post v) (l pn : ℕ) (room : l ≤ 2 ^ 62) (U : ℕ → ℕ) (top : (f : ℕ) → has a f ≡ true → U f ≤ l) (lag : (f : ℕ) → has a f ≡ true → l ≤ suc (U f)) (value : List Op) (fine : 1 ≤ l → Val value)
      (leads : (w : Readings) (s : State) → Hub w s → (w.last ≡ l) × (s.leader.quorum ≡ a)) where
    pub record Lasting (w : World) : Type 0 where
      pub fit : Fit w
      pub hub : Is Hub w r
      pub post : Post w
      pub commits : (f : ℕ) → f < n → has a f ≡ true → (f ≡ r → ⊥) → U f < l → Mail r f (body.Commit l (value ∷ [])) w

    abbrev Has : ℕ → World → Type 0
    Has f w = Is (IsHearing r e a l pn) w f

    abbrev Lacks : ℕ → World → Type 0
    Lacks f w = Is (IsHearing r e a (U f) pn) w f

    -- peons below k have all l versions, and the others those that they had
    abbrev pub Catching : ℕ → World → Type 0
    Catching = InTurn (Peon a r) Lasting Has Lacks

    hub_is : (w : World) → Lasting w → ((readings_at w r).last ≡ l) × (electing.quorum_at w r ≡ a)
    hub_is w C = let Z = C.hub in let z = leads (readings_at w r) Z.state Z.holds in (z.0, quorum_is w r Z.state a Z.up z.1)

    not_other : (w : World) → Lasting w → (k : ℕ) → electing.is_other a r k ≡ false → gets k w ≡ false
    not_other w C k out = λ i. ((λ j. electing.is_other ((hub_is w C).1 j) r k) ∙ out) i && (lacks k w)

    catch_one : (k : ℕ) (w : World) → k < n → Peon a r k → Lasting w → Lacks k w → Plays Us (plan.commits r k ∷ []) 1 (Turned (Peon a r) Lasting Has Lacks k w) w
    catch_one k w lt peon C Z = elim (cases_lt (U k) l) [
      | inl less ↦ goes less
      | inr ge ↦ passes Us (plan.commits r k) (otherwise _ _ (gets k w) (and_false (electing.is_other (electing.quorum_at w r) r k) (lacks k w) (le-ltb (readings_at w k).last (readings_at w r).last (let x = last_of_k in let y = (hub_is w C).0 in omega arith)))) (record {
        keeps = C;
        done = subst (λ (y : ℕ). Is (IsHearing r e a y pn) w k) (let t = top k peon.0 in omega arith) Z;
        others = λ f ne b. (λ z. z, λ z. z);
      })
    ]
      where
        last_of_k : (readings_at w k).last ≡ U k
        last_of_k = let H = Z.holds in H.last

        goes : U k < l → Plays Us (plan.commits r k ∷ []) 1 (Turned (Peon a r) Lasting Has Lacks k w) w
        goes less =
            let there : has a k ≡ true = peon.0 in
            let next : suc (U k) ≡ l = (let g = lag k there in omega arith) in
            step Us (plan.commits r k) (plans.Hears k r kind.Commit ∷ [])
            (chosen _ _ (gets k w) (λ i. ((λ j. electing.is_other ((hub_is w C).1 j) r k) ∙ other_is a r k there peon.1) i && lt-ltb (readings_at w k).last (readings_at w r).last (let x = last_of_k in let y = (hub_is w C).0 in omega arith) i))
            (does_weaker Us (omega arith) after
            (deliver Us w (let F = C.fit in F.room) k (lt_of k there) (within k there) Goal (letter n r e (body.Commit (suc (U k)) (value ∷ []))) (subst (λ (x : ℕ). Mail r k (body.Commit x (value ∷ [])) w) (sym next) (C.commits k lt there peon.1 less)) Z.state Z.up
            (learns ms several k (lt_of k there) (shared_entries (w.store k)) (G.clock.event w) (readings_at w k) Z.state r e a (U k) pn Z.holds (λ x. peon.1 (sym x)) value (fine (omega arith)) (omega arith))))
          where
            Goal : Course → Type 0
            Goal y = IsHearing r e a (suc (U k)) pn y.readings y.state

            after : (v : World) → On w v → Did Us Goal w k v → Turned (Peon a r) Lasting Has Lacks k w v
            after v o D = record {
              keeps = record {
                fit = leaders.fit_on G Q Goal w v k o D C.fit;
                hub = is_stays Hub w v r (D.moved.others r (λ x. peon.1 (sym x))) C.hub;
                post = post_on w v o C.post;
                commits = λ f few h ne low. new_stays Us o (C.commits f few h ne low);
              };
              done = subst (λ (x : ℕ). Is (IsHearing r e a x pn) v k) (let g = lag k peon.0 in omega arith) (is_now Us (IsHearing r e a (suc (U k)) pn) w v k D.y D.moved D.did);
              others = λ f ne b. (is_stays (IsHearing r e a l pn) w v f (D.moved.others f ne), is_stays (IsHearing r e a (U f) pn) w v f (D.moved.others f ne));
            }

    pub catch_all : (w : World) → Lasting w → ((f : ℕ) → has a f ≡ true → (f ≡ r → ⊥) → Lacks f w) → Plays Us (electing.each n (plan.commits r)) (1 * n) (Catching n) w
    catch_all w C left =
        each_in_turn (Peon a r) Lasting Has Lacks Us n 1 (plan.commits r) (peon_or_not a r) (λ k w none C. otherwise _ _ (gets k w) (not_other w C k (not_peon a r k none))) catch_one w
        (at_first (Peon a r) Lasting Has Lacks w C (λ f peon. left f peon.0 peon.1))

  abbrev pub Level : (l pn : ℕ) → World → Type 0
  Level l pn w = (f : ℕ) → has a f ≡ true → (f ≡ r → ⊥) → Is (IsHearing r e a l pn) w f

  -- ---- a value in progress

  module _ (ph : Phase) (which_phase : (ph ≡ phase.Previous) ⊎ (ph ≡ phase.Updating)) (o : Option Origin) (l pn : ℕ) (value : List Op) where
    pub record Committed (w : World) : Type 0 where
      pub hub : Is (IsActive r e a (suc l) pn) w r
      pub commits : (g : ℕ) → g < n → has a g ≡ true → (g ≡ r → ⊥) → Mail r g (body.Commit (suc l) (value ∷ [])) w
      pub fine : Val value
      pub within : suc l ≤ length w.log
      pub version : IsVersion w.log (suc l) value
      pub replied : (session : Session) → o ≡ Some (origin.Session session) → HasReply w r session (reply.Done (suc l))

    pub record Voting (k : ℕ) (w : World) : Type 0 where
      pub fit : Fit w
      pub begins : (g : ℕ) → g < n → has a g ≡ true → (g ≡ r → ⊥) → Mail r g (body.Begin pn (suc l) value) w
      pub peons : Level l pn w
      pub hub : Committed w ⊎ ((A : List Bool) × Is (IsProposing ph r e a l pn A value o) w r × (are_within n a A ≡ false) × (length A ≡ 15) × (has A r ≡ true) × ((f : ℕ) → f < k → has a f ≡ true → has A f ≡ true))

    abbrev Proposer : List Bool → World → Type 0
    Proposer A w = Is (IsProposing ph r e a l pn A value o) w r

    -- one accepts, and the leader counts it
    count_one : (k : ℕ) (there : has a k ≡ true) → (k ≡ r → ⊥) → (A : List Bool) (v : World) → Fit v → ((g : ℕ) → g < n → has a g ≡ true → (g ≡ r → ⊥) → Mail r g (body.Begin pn (suc l) value) v) → Level l pn v → Proposer A v → length A ≡ 15 → has A r ≡ true
        → ((f : ℕ) → f < k → has a f ≡ true → has A f ≡ true) → Mail k r (body.Accept pn (suc l)) v → Does Us (plans.Hears r k kind.Accept ∷ []) 1 (Voting (suc k)) v
    count_one k there other A v FV begins peons Z long self covers mail =
        does_weaker Us (omega arith) after
        (deliver Us v FV.room r (lt_of r mine) (within r mine) Goal (letter n k e (body.Accept pn (suc l))) mail Z.state Z.up
        (counts_accept ms several r (lt_of r mine) (shared_entries (v.store r)) (G.clock.event v) (readings_at v r) Z.state ph e a l pn A value o Z.holds which_phase fine k there other))
      where
        H : IsProposing ph r e a l pn A value o (readings_at v r) Z.state
        H = Z.holds

        fine : Val value
        fine = value_fine ms several v FV.holds r Z.state Z.up value H.proposes

        Goal : Course → Type 0
        Goal y = IsProposing ph r e a l pn (with_rank A k) value o y.readings y.state × (are_within n a (with_rank A k) ≡ false) ⊎ Commits ms several r (lt_of r mine) (shared_entries (v.store r)) (G.clock.event v) e a l pn value o y

        after : (u : World) → On v u → Did Us Goal v r u → Voting (suc k) u
        after u o2 D = record {
          fit = leaders.fit_on G Q Goal v u r o2 D FV;
          begins = λ g few h ne. new_stays Us o2 (begins g few h ne);
          peons = λ f h ne. is_stays (IsHearing r e a l pn) v u f (D.moved.others f ne) (peons f h ne);
          hub = go D.did;
        }
          where
            go : Goal D.y → Committed u ⊎ ((A : List Bool) × Proposer A u × (are_within n a A ≡ false) × (length A ≡ 15) × (has A r ≡ true) × ((f : ℕ) → f < suc k → has a f ≡ true → has A f ≡ true))
            go (inl S) = inr (
              with_rank A k,
              is_now Us (IsProposing ph r e a l pn (with_rank A k) value o) v u r D.y D.moved S.0,
              S.1,
              length-set A k true ∙ long,
              has_with A k r self,
              covers_with a A k (let b = below k there in omega arith) covers,
            )
            go (inr S) =
                let FU : Fit u = leaders.fit_on G Q Goal v u r o2 D FV in
                let hub : Is (IsActive r e a (suc l) pn) u r = is_now Us (IsActive r e a (suc l) pn) v u r D.y D.moved S.stands in
                let V : IsActive r e a (suc l) pn (readings_at u r) hub.state = hub.holds in
                inl (record {
                  hub = hub;
                  commits = λ g few h ne. D.moved.says g (letter n r e (body.Commit (suc l) (value ∷ []))) (S.commits g few h ne);
                  fine = fine;
                  within = (let z = within_log ms several u FU.holds r (below r mine) V.unmarked in let y = V.last in omega arith);
                  version = (message_tells ms several u FU.holds (D.moved.says k (letter n r e (body.Commit (suc l) (value ∷ []))) (S.commits k (below k there) there other))).0;
                  replied = λ session is. D.moved.replies session (reply.Done (suc l)) (S.answers session is);
                })

    -- the phase, before and after it is committed
    proposer_in : (w : World) (A : List Bool) (Z : Proposer A w) → electing.is_in w r ph ≡ true
    proposer_in w A Z = let H = Z.holds in in_phase w r Z.state ph ph Z.up H.phase ∙ by which_phase
      where
        by : (ph ≡ phase.Previous) ⊎ (ph ≡ phase.Updating) → same_phase ph ph ≡ true
        by (inl z) = λ i. same_phase (z i) (z i)
        by (inr z) = λ i. same_phase (z i) (z i)

    committed_in : (w : World) (C : Committed w) → electing.is_in w r ph ≡ false
    committed_in w C = let Z = C.hub in let H = Z.holds in in_phase w r Z.state phase.Active ph Z.up H.phase ∙ by which_phase
      where
        by : (ph ≡ phase.Previous) ⊎ (ph ≡ phase.Updating) → same_phase phase.Active ph ≡ false
        by (inl z) = λ i. same_phase phase.Active (z i)
        by (inr z) = λ i. same_phase phase.Active (z i)

    members : (w : World) (A : List Bool) (Z : Proposer A w) → electing.quorum_at w r ≡ a
    members w A Z = let H = Z.holds in quorum_is w r Z.state a Z.up H.quorum

    abbrev accepting : ℕ → World → Bool
    accepting k w = electing.is_other (electing.quorum_at w r) r k && electing.is_in w r ph

    vote_one : (k : ℕ) (w : World) → k < n → Voting k w → Plays Us (plan.accepts ph r k ∷ []) 2 (Voting (suc k)) w
    vote_one k w lt V = by V.hub
      where
        stays : (accepting k w) ≡ false → Committed w ⊎ ((A : List Bool) × Proposer A w × (are_within n a A ≡ false) × (length A ≡ 15) × (has A r ≡ true) × ((f : ℕ) → f < suc k → has a f ≡ true → has A f ≡ true)) → Plays Us (plan.accepts ph r k ∷ []) 2 (Voting (suc k)) w
        stays out h = passes Us (plan.accepts ph r k) (otherwise _ _ (accepting k w) out) (record { fit = V.fit; begins = V.begins; peons = V.peons; hub = h })

        goes : (A : List Bool) (Z : Proposer A w) → length A ≡ 15 → has A r ≡ true → ((f : ℕ) → f < k → has a f ≡ true → has A f ≡ true) → (there : has a k ≡ true) → (k ≡ r → ⊥) → Plays Us (plan.accepts ph r k ∷ []) 2 (Voting (suc k)) w
        goes A Z long self covers there other =
            let Y : Is (IsHearing r e a l pn) w k = V.peons k there other in
            let H = Z.holds in
            step Us (plan.accepts ph r k) (plans.Hears k r kind.Begin ∷ plans.Hears r k kind.Accept ∷ [])
            (chosen _ _ (accepting k w) (λ i. ((λ j. electing.is_other (members w A Z j) r k) ∙ other_is a r k there other) i && proposer_in w A Z i))
            (does_then Us (deliver Us w (let F = V.fit in F.room) k (lt_of k there) (within k there) Goal (letter n r e (body.Begin pn (suc l) value)) (V.begins k lt there other) Y.state Y.up
            (accepts ms several k (lt_of k there) (shared_entries (w.store k)) (G.clock.event w) (readings_at w k) Y.state r e a l pn Y.holds (λ x. other (sym x)) H.short H.room value (let V = value_fine ms several w (let F = V.fit in F.holds) r Z.state Z.up value H.proposes in V.short))) after)
          where
            Goal : Course → Type 0
            Goal y = Accepts ms several k (lt_of k there) (shared_entries (w.store k)) (G.clock.event w) r e a l pn y

            after : (v : World) → On w v → Did Us Goal w k v → Does Us (plans.Hears r k kind.Accept ∷ []) 1 (Voting (suc k)) v
            after v o2 D = let S = D.did in count_one k there other A v (leaders.fit_on G Q Goal w v k o2 D V.fit) (λ g few h ne. new_stays Us o2 (V.begins g few h ne)) (λ f h ne. peons f h ne (same_or_not f k))
                (is_stays (IsProposing ph r e a l pn A value o) w v r (D.moved.others r (λ x. other (sym x))) Z) long self covers (D.moved.says r (letter n k e (body.Accept pn (suc l))) S.says)
              where
                peons : (f : ℕ) → has a f ≡ true → (f ≡ r → ⊥) → (f ≡ k) ⊎ (f ≡ k → ⊥) → Is (IsHearing r e a l pn) v f
                peons f h ne (inl z) = subst (λ (x : ℕ). Is (IsHearing r e a l pn) v x) (sym z) (let S = D.did in is_now Us (IsHearing r e a l pn) w v k D.y D.moved S.stands)
                peons f h ne (inr nk) = is_stays (IsHearing r e a l pn) w v f (D.moved.others f nk) (V.peons f h ne)

        by : Committed w ⊎ ((A : List Bool) × Proposer A w × (are_within n a A ≡ false) × (length A ≡ 15) × (has A r ≡ true) × ((f : ℕ) → f < k → has a f ≡ true → has A f ≡ true)) → Plays Us (plan.accepts ph r k ∷ []) 2 (Voting (suc k)) w
        by (inl C) = stays (and_false (electing.is_other (electing.quorum_at w r) r k) (electing.is_in w r ph) (committed_in w C)) (inl C)
        by (inr Y) = elim (in_or_out (has a k)) [
          | inr out ↦ skips (outside_is a r k out) (λ h. absurd (false≢true (sym out ∙ h)))
          | inl there ↦ elim (same_or_not k r) [ inl z ↦ skips (itself_is a r k z) (λ _. subst (λ (x : ℕ). has Y.0 x ≡ true) (sym z) Y.4) | inr other ↦ goes Y.0 Y.1 Y.3 Y.4 Y.5 there other ]
        ]
          where
            skips : electing.is_other a r k ≡ false → (has a k ≡ true → has Y.0 k ≡ true) → Plays Us (plan.accepts ph r k ∷ []) 2 (Voting (suc k)) w
            skips out in_it = stays (λ i. ((λ j. electing.is_other (members w Y.0 Y.1 j) r k) ∙ out) i && electing.is_in w r ph) (inr (Y.0, Y.1, Y.2, Y.3, Y.4, covers_one a Y.0 k in_it Y.5))

    pub record Made (w : World) : Type 0 where
      pub fit : Fit w
      pub peons : Level l pn w
      pub committed : Committed w

    pub vote_all : (w : World) → Fit w → ((g : ℕ) → g < n → has a g ≡ true → (g ≡ r → ⊥) → Mail r g (body.Begin pn (suc l) value) w) → Level l pn w → Proposer (only r) w → Plays Us (electing.each n (plan.accepts ph r)) (2 * n) Made w
    vote_all w F begins peons Z =
        plays_weaker Us (omega arith) after
        (plays_all Us n 2 (plan.accepts ph r) Voting vote_one w (record { fit = F; begins = begins; peons = peons; hub = inr (only r, Z, (terms.only_open G Q), length-set no_ranks r true, has_only r (terms.few_r G Q), λ f low h. absurd (omega arith)) }))
      where
        after : (v : World) → On w v → Voting n v → Made v
        after v o2 V = record { fit = V.fit; peons = V.peons; committed = go V.hub }
          where
            go : Committed v ⊎ ((A : List Bool) × Proposer A v × (are_within n a A ≡ false) × (length A ≡ 15) × (has A r ≡ true) × ((f : ℕ) → f < n → has a f ≡ true → has A f ≡ true)) → Committed v
            go (inl C) = C
            go (inr Y) = absurd (false≢true (sym Y.2 ∙ terms.all_within n a Y.0 Y.5))
