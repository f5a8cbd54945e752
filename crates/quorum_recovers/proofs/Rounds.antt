-- A leader hears all of its quorum, under a number above all that were promised.
use Rattle.law_names.proofs.Runs.{Monitors, World}
use Rattle.law_names.proofs.Table.{Body, Course, Readings, are_within, has, no_ranks, only, promise_of, shared_entries, with_rank}
use Rattle.mon_wire.specs.declared.body.Body.TheVariants as body
use Rattle.mon_wire.specs.declared.kind.Kind.TheVariants as kind
use Rattle.mon_wire.specs.declared.phase.Phase.TheVariants as phase
use Rattle.quorum_elects.proofs.Can.{New, Onward, Scope}
use Rattle.quorum_elects.proofs.InTurn.{covers_one, covers_with}
use Rattle.quorum_elects.proofs.Majorities.{Majority, scope}
use Rattle.quorum_elects.proofs.Moving.{Did}
use Rattle.quorum_elects.proofs.Planning.{Does, Plays, does_then, does_weaker, passes, plays_all, plays_none, plays_then, plays_weaker, step}
use Rattle.quorum_elects.proofs.Ranks.{Greatest, IsHighest, highest_of, in_or_out, same_or_not}
use Rattle.quorum_elects.proofs.Standing.{Is, letter}
use Rattle.quorum_elects.proofs.Steps.{deliver, is_now, is_stays}
use Rattle.quorum_elects.proofs.Tests.{and_false, chosen, in_phase, itself_is, other_is, otherwise, outside_is, quorum_is}
use Rattle.quorum_elects.specs.Electing as electing
use Rattle.quorum_elects.specs.Plans as plans
use Rattle.quorum_elects.specs.Ready.{HasRoom}
use Rattle.quorum_laws.specs.Accepting.{readings_at}
use Rattle.quorum_recovers.proofs.CollectRows.{Asks, asks_above}
use Rattle.quorum_recovers.proofs.Known.{low_of}
use Rattle.quorum_recovers.proofs.LastAnswers.{IsAnswer}
use Rattle.quorum_recovers.proofs.Leaders as leaders
use Rattle.quorum_recovers.proofs.States.{IsAsking, IsHearing, IsProposing}
use Rattle.quorum_recovers.proofs.Terms as terms
use Rattle.quorum_recovers.proofs.Terms.{Term, answered_is}
use Rattle.quorum_recovers.specs.Plan as plan
use Rattle.quorum_walk.proofs.Ranks.{has_only, has_only_is, within_at}
use Rattle.std.proofs.Common.{Bool, List, None, [], ap, arith, cond, false, inl, inr, length, ltb, max, refl, subst, suc, sym, true, ℕ, ◌&&◌, ◌*◌, ◌++◌, ◌+◌, ◌<◌, ◌^◌, ◌∙◌, ◌∷◌, ◌≡◌, ◌≤◌, ◌⊎◌}
use Rattle.std.proofs.lemmas.Bool.{cases_lt, false≢true, le-ltb, lt-ltb}
use Rattle.std.proofs.lemmas.List.{length-set}

module _ (G : Majority) (Q : Term G) where
  abbrev ms : Monitors
  ms = G.ms

  abbrev n : ℕ
  n = G.ms.count

  abbrev several : 1 < n
  several = G.several

  abbrev q : List Bool
  q = G.q

  abbrev Us : Scope
  Us = scope G

  abbrev sent : ℕ
  sent = length G.from.messages

  abbrev c : ℕ
  c = G.c

  abbrev r : ℕ
  r = Q.r

  abbrev e : ℕ
  e = Q.e

  abbrev a : List Bool
  a = Q.a

  abbrev mine : has a r ≡ true
  mine = Q.mine

  abbrev within : (f : ℕ) → has a f ≡ true → has q f ≡ true
  within = Q.within

  abbrev T : ℕ → ℕ
  T = Q.T

  abbrev On : World → World → Type 0
  On w v = Onward Us w v

  abbrev Mail : ℕ → ℕ → Body → World → Type 0
  Mail f g b w = New sent w (record { to = g; message = letter n f e b })

  below : (f : ℕ) → has a f ≡ true → f < n
  below f h = terms.below G Q f h

  lt_of : (f : ℕ) → has a f ≡ true → ltb f n ≡ true
  lt_of f h = lt-ltb f n (below f h)

  abbrev Fit : World → Type 0
  Fit w = leaders.Fit G Q w

  abbrev Settled : World → Type 0
  Settled w = leaders.Settled G Q w

  abbrev Fresh : World → Type 0
  Fresh w = leaders.Fresh G Q w

  abbrev Asking : List Bool → ℕ → World → Type 0
  Asking A la w = leaders.Asking G Q A la w

  -- ---- its steps

  members : (A : List Bool) (la : ℕ) (w : World) (X : Asking A la w) → electing.quorum_at w r ≡ a
  members A la w X = let Z = X.hub in let H = Z.holds in quorum_is w r Z.state a Z.up H.quorum

  -- once the leader heard all of its quorum it no longer collects
  settled_in : (w : World) (S : Settled w) → electing.is_in w r phase.Collecting ≡ false
  settled_in w S = by S.goes
    where
      by : leaders.Goes G Q S.l S.pn w → electing.is_in w r phase.Collecting ≡ false
      by (inl Z) = let H = Z.holds in in_phase w r Z.state phase.Active phase.Collecting Z.up H.phase
      by (inr Y) = let Z : Is (IsProposing phase.Previous r e a S.l S.pn (only r) Y.0 None) w r = Y.1 in let H = Z.holds in in_phase w r Z.state phase.Previous phase.Collecting Z.up H.phase

  -- whether k is next
  abbrev next : World → ℕ → Bool
  next w k = electing.is_in w r phase.Collecting && are_within k (electing.quorum_at w r) (plan.answered_at w r)

  next_is : (A : List Bool) (la : ℕ) (w : World) (X : Asking A la w) (k : ℕ) (b : Bool) → are_within k a A ≡ b → next w k ≡ b
  next_is A la w X k b t = let Z = X.hub in let H = Z.holds in λ i. in_phase w r Z.state phase.Collecting phase.Collecting Z.up H.phase i && ((λ j. are_within k (members A la w X j) (answered_is w r Z.state A Z.up H.answered j)) ∙ t) i

  abbrev asked : World → ℕ → Bool
  asked w k = electing.is_other (electing.quorum_at w r) r k && next w k

  -- ---- it hears all

  -- it asks again, because of a member that it asked
  pub record Again (la k : ℕ) (w : World) : Type 0 where
    pub fresh : Fresh w
    pub by : ℕ
    pub inside : has a by ≡ true
    pub other : by ≡ r → ⊥
    pub before : by < k
    pub top : T by ≡ suc la

  again_later : (la k : ℕ) (w : World) → Again la k w → Again la (suc k) w
  again_later la k w Y = record { fresh = Y.fresh; by = Y.by; inside = Y.inside; other = Y.other; before = (let z = Y.before in omega arith); top = Y.top }

  -- and that one didn't answer yet
  again_not : (la k : ℕ) (w : World) (Y : Again la k w) → next w k ≡ false
  again_not la k w Y = let Z = Y.fresh in next_is (only r) Z.la w Z.asking k false (by (are_within k a (only r)) refl)
    where
      by : (b : Bool) → are_within k a (only r) ≡ b → b ≡ false
      by false t = refl
      by true t = absurd (Y.other (has_only_is r Y.by (within_at k a (only r) Y.by t Y.before Y.inside)))

  pub record Round (la k : ℕ) (w : World) : Type 0 where
    pub fit : Fit w
    pub comes : Settled w ⊎ (Again la k w ⊎ ((A : List Bool) × Asking A la w × ((f : ℕ) → f < k → has a f ≡ true → has A f ≡ true)))

  hear_one : (la k : ℕ) (w : World) → k < n → Round la k w → Plays Us (plan.collects r k ∷ []) 2 (Round la (suc k)) w
  hear_one la k w lt R = by R.comes
    where
      stays : asked w k ≡ false → Settled w ⊎ (Again la (suc k) w ⊎ ((A : List Bool) × Asking A la w × ((f : ℕ) → f < (suc k) → has a f ≡ true → has A f ≡ true))) → Plays Us (plan.collects r k ∷ []) 2 (Round la (suc k)) w
      stays out h = passes Us (plan.collects r k) (otherwise _ _ (asked w k) out) (record { fit = R.fit; comes = h })

      goes : (A : List Bool) (X : Asking A la w) → ((f : ℕ) → f < k → has a f ≡ true → has A f ≡ true) → (there : has a k ≡ true) → (k ≡ r → ⊥) → Plays Us (plan.collects r k ∷ []) 2 (Round la (suc k)) w
      goes A X covers there other =
          step Us (plan.collects r k) (plans.Hears k r kind.Collect ∷ plans.Hears r k kind.Last ∷ [])
          (chosen _ _ (asked w k) (λ i. ((λ j. electing.is_other (members A la w X j) r k) ∙ other_is a r k there other) i && next_is A la w X k true (terms.all_within k a A covers) i))
          (does_weaker Us (omega arith) after (leaders.answer_one G Q k there other A la w R.fit X))
        where
          after : (v : World) → On w v → leaders.After G Q k la A v → Round la (suc k) v
          after v o H = record { fit = H.fit; comes = go H.comes }
            where
              go : Settled v ⊎ (Asking (with_rank A k) la v ⊎ (Fresh v × (T k ≡ suc la))) → Settled v ⊎ (Again la (suc k) v ⊎ ((A : List Bool) × Asking A la v × ((f : ℕ) → f < (suc k) → has a f ≡ true → has A f ≡ true)))
              go (inl S) = inl S
              go (inr (inl Y)) = inr (inr (
                with_rank A k,
                Y,
                covers_with a A k (let l = X.long in let b = below k there in omega arith) covers,
              ))
              go (inr (inr Y)) = inr (inl (record { fresh = Y.0; by = k; inside = there; other = other; before = omega arith; top = Y.1 }))

      skips : (A : List Bool) (X : Asking A la w) → electing.is_other a r k ≡ false → ((f : ℕ) → f < k → has a f ≡ true → has A f ≡ true) → (has a k ≡ true → has A k ≡ true) → Plays Us (plan.collects r k ∷ []) 2 (Round la (suc k)) w
      skips A X out covers in_it = stays (λ i. ((λ j. electing.is_other (members A la w X j) r k) ∙ out) i && next w k) (inr (inr (
        A,
        X,
        covers_one a A k in_it covers,
      )))

      by : Settled w ⊎ (Again la k w ⊎ ((A : List Bool) × Asking A la w × ((f : ℕ) → f < k → has a f ≡ true → has A f ≡ true))) → Plays Us (plan.collects r k ∷ []) 2 (Round la (suc k)) w
      by (inl S) = stays (and_false (electing.is_other (electing.quorum_at w r) r k) (next w k) (λ i. settled_in w S i && are_within k (electing.quorum_at w r) (plan.answered_at w r))) (inl S)
      by (inr (inl Y)) = stays (and_false (electing.is_other (electing.quorum_at w r) r k) (next w k) (again_not la k w Y)) (inr (inl (again_later la k w Y)))
      by (inr (inr Y)) = elim (in_or_out (has a k)) [
        | inr out ↦ skips Y.0 Y.1 (outside_is a r k out) Y.2 (λ h. absurd (false≢true (sym out ∙ h)))
        | inl there ↦ elim (same_or_not k r) [ inl z ↦ skips Y.0 Y.1 (itself_is a r k z) Y.2 (λ _. subst (λ (x : ℕ). has Y.0 x ≡ true) (sym z) (let X : Asking Y.0 la w = Y.1 in X.self)) | inr other ↦ goes Y.0 Y.1 Y.2 there other ]
      ]

  pub record Heard (la : ℕ) (w : World) : Type 0 where
    pub fit : Fit w
    pub comes : Settled w ⊎ Again la n w

  hear_round : (la : ℕ) (w : World) → Fit w → Asking (only r) la w → Plays Us (electing.each n (plan.collects r)) (2 * n) (Heard la) w
  hear_round la w F X =
      plays_weaker Us (omega arith) after
      (plays_all Us n 2 (plan.collects r) (Round la) (hear_one la) w (record { fit = F; comes = inr (inr (only r, X, λ f low h. absurd (omega arith))) }))
    where
      after : (v : World) → On w v → Round la n v → Heard la v
      after v o R = record { fit = R.fit; comes = go R.comes }
        where
          go : Settled v ⊎ (Again la n v ⊎ ((A : List Bool) × Asking A la v × ((f : ℕ) → f < n → has a f ≡ true → has A f ≡ true))) → Settled v ⊎ Again la n v
          go (inl S) = inl S
          go (inr (inl Y)) = inr Y
          go (inr (inr Y)) = absurd (false≢true (let X : Asking Y.0 la v = Y.1 in sym X.unheard ∙ terms.all_within n a Y.0 Y.2))

  pub record Ready (w : World) : Type 0 where
    pub fit : Fit w
    pub settled : Settled w

  -- a second time only if a version was learned
  hear_all : (la : ℕ) (w : World) → Fit w → Asking (only r) la w → Plays Us (electing.each n (plan.collects r) ++ electing.each n (plan.collects r)) (2 * n + 2 * n) Ready w
  hear_all la w F X = plays_then Us (hear_round la w F X) (λ v o H. again v H.fit H.comes)
    where
      again : (v : World) → Fit v → Settled v ⊎ Again la n v → Plays Us (electing.each n (plan.collects r)) (2 * n) Ready v
      again v FV (inl S) = plays_none Us n (plan.collects r) (λ k. otherwise _ _ (asked v k) (and_false (electing.is_other (electing.quorum_at v r) r k) (next v k) (λ i. settled_in v S i && are_within k (electing.quorum_at v r) (plan.answered_at v r)))) (record { fit = FV; settled = S })
      again v FV (inr Y) = let Z = Y.fresh in plays_weaker Us (omega arith) (λ u o H. last Z u H.fit H.comes) (hear_round Z.la v FV Z.asking)
        where
          last : (Z : Fresh v) (u : World) → Fit u → Settled u ⊎ Again Z.la n u → Ready u
          last Z u FU (inl S) = record { fit = FU; settled = S }
          last Z u FU (inr Y) = absurd (let z = Z.all Y.by Y.inside in let y = Y.top in omega arith)

  -- ---- a number above all that were promised

  pub record First (w : World) : Type 0 where
    pub pn : ℕ
    pub room : pn + 800 ≤ 2 ^ 62
    pub l : ℕ
    pub first : ℕ
    pub hub : Is (IsAsking r e a l pn (only r) T) w r
    pub asks : (g : ℕ) → g < n → has a g ≡ true → (g ≡ r → ⊥) → Mail r g (body.Collect pn first l) w
    pub kept : (g : ℕ) → has a g ≡ true → first ≤ suc (T g)
    pub under : l ≤ c
    pub least : c ≤ suc l
    pub own : T r ≤ l
    pub peons : (f : ℕ) → has a f ≡ true → (f ≡ r → ⊥) → (p : ℕ) × Is (IsHearing r e a (T f) p) w f × HasRoom p

  pub record Above (w : World) : Type 0 where
    pub fit : Fit w
    pub la : ℕ
    pub asking : Asking (only r) la w

  above_all : (w : World) → Fit w → First w → Plays Us (plan.raises n r ∷ []) 2 Above w
  above_all w F Y = by (cases_lt Y.pn (promise_of (readings_at w top.rank)))
    where
      the_top : IsHighest (plan.promise_at w) a n (electing.highest (plan.promise_at w) a r n)
      the_top = highest_of (plan.promise_at w) a r mine n

      top : Greatest a (λ f. promise_of (readings_at w f)) n
      top = record { rank = electing.highest (plan.promise_at w) a r n; within = the_top.within; greatest = the_top.greatest }

      -- the step, by what its quorum is
      raising : {b : Bool} → ltb (plan.promise_at w r) (promise_of (readings_at w top.rank)) ≡ b → plan.raises n r w ≡ cond b (plans.Hears top.rank r kind.Collect ∷ plans.Hears r top.rank kind.Last ∷ []) []
      raising e =
          ap (λ (x : List Bool). let t = electing.highest (plan.promise_at w) x r n in cond (ltb (plan.promise_at w r) (plan.promise_at w t)) (plans.Hears t r kind.Collect ∷ plans.Hears r t kind.Last ∷ []) [])
          (let Z = Y.hub in let H = Z.holds in quorum_is w r Z.state a Z.up H.quorum)
          ∙ ap (λ (b : Bool). cond b (plans.Hears top.rank r kind.Collect ∷ plans.Hears r top.rank kind.Last ∷ []) []) e

      -- if no promise is above the number
      asking : (v : World) (pn first : ℕ) → pn + 400 ≤ 2 ^ 62 → Is (IsAsking r e a Y.l pn (only r) T) v r → ((g : ℕ) → g < n → has a g ≡ true → (g ≡ r → ⊥) → Mail r g (body.Collect pn first Y.l) v) → ((g : ℕ) → has a g ≡ true → first ≤ suc (T g))
          → ((f : ℕ) → has a f ≡ true → (f ≡ r → ⊥) → (p : ℕ) × Is (IsHearing r e a (T f) p) v f × (p ≤ pn)) → Asking (only r) Y.l v
      asking v pn first room hub asks kept peons = record {
        pn = pn;
        room = (let z = Y.least in omega arith);
        l = Y.l;
        first = first;
        hub = hub;
        asks = asks;
        kept = kept;
        above = omega arith;
        near = omega arith;
        under = Y.under;
        least = Y.least;
        told = λ f h i. subst (λ (x : ℕ). T x ≤ Y.l) (sym (has_only_is r f i)) Y.own;
        peons = λ f h ne. (let z = peons f h ne in (z.0, z.1, z.2, (λ i. absurd (ne (has_only_is r f i)))));
        unheard = (terms.only_open G Q);
        self = has_only r (terms.few_r G Q);
        long = length-set no_ranks r true;
      }

      own_promise : promise_of (readings_at w r) ≡ Y.pn
      own_promise = let Z = Y.hub in let H = Z.holds in H.promised

      at_once : promise_of (readings_at w top.rank) ≤ Y.pn → Plays Us (plan.raises n r ∷ []) 2 Above w
      at_once le = passes Us (plan.raises n r) (raising (le-ltb (promise_of (readings_at w r)) (promise_of (readings_at w top.rank)) (let z = own_promise in omega arith))) (record {
        fit = F;
        la = Y.l;
        asking = asking w Y.pn Y.first (let z = Y.room in omega arith) Y.hub Y.asks Y.kept (λ f h ne. (let z = Y.peons f h ne in let Z : Is (IsHearing r e a (T f) z.0) w f = z.1 in let H = Z.holds in let g = top.greatest f (below f h) h in (z.0, z.1, (let y = H.promised in omega arith))));
      })

      goes : Y.pn < promise_of (readings_at w top.rank) → Plays Us (plan.raises n r ∷ []) 2 Above w
      goes more = step Us (plan.raises n r) (plans.Hears top.rank r kind.Collect ∷ plans.Hears r top.rank kind.Last ∷ [])
          (raising (lt-ltb (promise_of (readings_at w r)) (promise_of (readings_at w top.rank)) (let z = own_promise in omega arith)))
          (does_then Us (leaders.ask_one G Q w F top.rank top.within other z.0 z.1 Y.pn Y.first Y.l H.short (Y.kept top.rank top.within) (let y = Q.most top.rank top.within in let x = Y.least in omega arith) Y.under (Y.asks top.rank (below top.rank top.within) top.within other)) above)
        where
          Hub : Is (IsAsking r e a Y.l Y.pn (only r) T) w r
          Hub = Y.hub

          H : IsAsking r e a Y.l Y.pn (only r) T (readings_at w r) Hub.state
          H = Hub.holds

          other : top.rank ≡ r → ⊥
          other is = let y = H.promised in let x = ap (λ (f : ℕ). promise_of (readings_at w f)) is in omega arith

          z : (p : ℕ) × Is (IsHearing r e a (T top.rank) p) w top.rank × HasRoom p
          z = Y.peons top.rank top.within other

          promise_top : (p : ℕ) (P : Is (IsHearing r e a (T top.rank) p) w top.rank) → p ≡ promise_of (readings_at w top.rank)
          promise_top p P = let K = P.holds in sym K.promised

          above : (v : World) → On w v → leaders.Answered G Q top.rank Y.l (max z.0 Y.pn) w v → Does Us (plans.Hears r top.rank kind.Last ∷ []) 1 Above v
          above v o R = does_weaker Us (omega arith) after
              (deliver Us v (let FV = R.fit in FV.room) r (lt_of r mine) (within r mine) Goal (letter n top.rank e (body.Last (max z.0 Y.pn) R.first (T top.rank) Ans.whole (suc Y.l) Ans.values Ans.told)) (subst (λ (b : Body). Mail top.rank r b v) Ans.is R.mail) hub.state hub.up
              (asks_above ms several r (lt_of r mine) (shared_entries (v.store r)) (G.clock.event v) (readings_at v r) hub.state e a Y.l Y.pn (only r) T hub.holds (terms.not_alone G Q (lt_of r mine)) top.rank top.within other (max z.0 Y.pn) R.first (T top.rank) Ans.whole (suc Y.l) Ans.values Ans.told (let t = promise_top z.0 z.1 in omega arith) (max z.0 Y.pn + 114) (omega arith) (let x = z.2 in let y = Y.room in omega arith)))
            where
              Ans : IsAnswer R.tells (max z.0 Y.pn) R.first (T top.rank) (suc Y.l)
              Ans = R.answer

              Goal : Course → Type 0
              Goal y = Asks ms several r (lt_of r mine) (shared_entries (v.store r)) (G.clock.event v) e a Y.l (max z.0 Y.pn) (max z.0 Y.pn + 114) T y

              hub : Is (IsAsking r e a Y.l Y.pn (only r) T) v r
              hub = is_stays (IsAsking r e a Y.l Y.pn (only r) T) w v r (R.others r (λ x. other (sym x))) Hub

              after : (u : World) → On v u → Did Us Goal v r u → Above u
              after u o2 D = record { fit = FU; la = Y.l; asking = asking u S.pn D.y.readings.first (let x = z.2 in let y = Y.room in let b = S.low in omega arith) at (λ g few h ne. D.moved.says g (letter n r e (body.Collect S.pn D.y.readings.first Y.l)) (S.says g few h ne)) kept peons }
                where
                  FU : Fit u
                  FU = leaders.fit_on G Q Goal v u r o2 D R.fit

                  S : Asks ms several r (lt_of r mine) (shared_entries (v.store r)) (G.clock.event v) e a Y.l (max z.0 Y.pn) (max z.0 Y.pn + 114) T D.y
                  S = D.did

                  at : Is (IsAsking r e a Y.l S.pn (only r) T) u r
                  at = is_now Us (IsAsking r e a Y.l S.pn (only r) T) v u r D.y D.moved S.stands

                  kept : (g : ℕ) → has a g ≡ true → D.y.readings.first ≤ suc (T g)
                  kept g h = subst (λ (w : Readings). w.first ≤ suc (T g)) D.moved.reads (let K = at.holds in let x = Q.least g h in let y = K.last in let b = Y.under in elim (low_of ms several u FU.holds r (below r mine) K.unmarked) [ inl few ↦ (omega arith) | inr far ↦ (omega arith) ])

                  peons : (f : ℕ) → has a f ≡ true → (f ≡ r → ⊥) → (p : ℕ) × Is (IsHearing r e a (T f) p) u f × (p ≤ S.pn)
                  peons f h ne = go (same_or_not f top.rank)
                    where
                      go : (f ≡ top.rank) ⊎ (f ≡ top.rank → ⊥) → (p : ℕ) × Is (IsHearing r e a (T f) p) u f × (p ≤ S.pn)
                      go (inl x) = (max z.0 Y.pn, is_stays (IsHearing r e a (T f) (max z.0 Y.pn)) v u f (D.moved.others f ne) (subst (λ (y : ℕ). Is (IsHearing r e a (T y) (max z.0 Y.pn)) v y) (sym x) R.stands), (let y = S.high in omega arith))
                      go (inr x) =
                          let y = Y.peons f h ne in
                          let P : Is (IsHearing r e a (T f) y.0) w f = y.1 in
                          let K = P.holds in
                          let g = top.greatest f (below f h) h in
                          (y.0, is_stays (IsHearing r e a (T f) y.0) v u f (D.moved.others f ne) (is_stays (IsHearing r e a (T f) y.0) w v f (R.others f x) y.1), (let b = S.high in let t = promise_top z.0 z.1 in let s = K.promised in omega arith))

      by : (Y.pn < promise_of (readings_at w top.rank)) ⊎ (promise_of (readings_at w top.rank) ≤ Y.pn) → Plays Us (plan.raises n r ∷ []) 2 Above w
      by (inl more) = goes more
      by (inr le) = at_once le

  pub ready : (w : World) → Fit w → First w → Plays Us (plan.hearing n r) (2 + (2 * n + 2 * n)) Ready w
  ready w F Y = plays_then Us (above_all w F Y) (λ v o A. hear_all A.la v A.fit A.asking)
