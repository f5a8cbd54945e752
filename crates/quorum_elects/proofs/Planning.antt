-- Events that follow a plan, one after the other.
use Rattle.law_names.proofs.Runs.{Event, Monitors, World, ran_from, run_from}
use Rattle.law_names.proofs.Table.{AllByRecursion, flat_map, range_with_len}
use Rattle.quorum_elects.proofs.Can.{Can, Onward, Scope, onward_not, run_splits, run_stays, then, weaker}
use Rattle.quorum_elects.specs.Plans.{ArePlanned, Follow, PlanStep, Planned}
use Rattle.quorum_elects.specs.Ways.{Clock}
use Rattle.quorum_model.proofs.Continuing.{at}
use Rattle.quorum_walk.proofs.Lists.{all_of}
use Rattle.std.proofs.Common.{List, [], ap, arith, map, refl, subst, suc, sym, zero, ℕ, ◌*◌, ◌++◌, ◌+◌, ◌<◌, ◌∙◌, ◌∷◌, ◌≡◌, ◌≤◌}
use Rattle.std.proofs.Math.Nat.{mul-suc}

-- ---- lists and plans

append_nil : {A : Type 0} (xs : List A) → xs ≡ xs ++ []
append_nil [] = refl
append_nil (x ∷ xs) = ap (λ (l : List _). x ∷ l) (append_nil xs)

append_assoc : {A : Type 0} (xs ys zs : List A) → (xs ++ ys) ++ zs ≡ xs ++ (ys ++ zs)
append_assoc [] ys zs = refl
append_assoc (x ∷ xs) ys zs = ap (λ (l : List _). x ∷ l) (append_assoc xs ys zs)

planned_append : (ms : Monitors) (clock : Clock) (w v : World) (ps rs : List Planned) (xs ys : List Event) → ArePlanned ms clock w ps xs → ran_from ms w xs ≡ at v → ArePlanned ms clock v rs ys → ArePlanned ms clock w (ps ++ rs) (xs ++ ys)
planned_append ms clock w v [] rs xs ys a e b =
    subst (λ (l : List Event). ArePlanned ms clock w rs (l ++ ys)) (sym a) (subst (λ (u : World). ArePlanned ms clock u rs ys) (sym (run_stays ms w v (subst (λ (l : List Event). ran_from ms w l ≡ at v) a e))) b)
planned_append ms clock w v (p ∷ ps) rs [] ys a e b = absurd a
planned_append ms clock w v (p ∷ ps) rs (x ∷ xs) ys a e b = (a.0, planned_append ms clock (run_from ms w (x ∷ [])) v ps rs xs ys a.1 (run_splits ms w v (x ∷ []) xs e) b)

follow_append : (ms : Monitors) (clock : Clock) (w v : World) (ss ts : List PlanStep) (xs ys : List Event) → Follow ms clock w ss xs → ran_from ms w xs ≡ at v → Follow ms clock v ts ys → Follow ms clock w (ss ++ ts) (xs ++ ys)
follow_append ms clock w v [] ts xs ys a e b =
    subst (λ (l : List Event). Follow ms clock w ts (l ++ ys)) (sym a) (subst (λ (u : World). Follow ms clock u ts ys) (sym (run_stays ms w v (subst (λ (l : List Event). ran_from ms w l ≡ at v) a e))) b)
follow_append ms clock w v (s ∷ ss) ts xs ys (first, others, is, planned, f) e b = (
  first,
  others ++ ys,
  ap (λ (l : List Event). l ++ ys) is ∙ append_assoc first others ys,
  planned,
  follow_append ms clock (run_from ms w first) v ss ts others ys f (run_splits ms w v first others (subst (λ (l : List Event). ran_from ms w l ≡ at v) is e)) b,
)

module _ (S : Scope) where
  -- ---- what can be done by planned events

  -- from w at most `most` events lead to a world with P, and they are the planned events
  pub record Does (planned : List Planned) (most : ℕ) (P : World → Type 0) (w : World) : Type 0 where
    pub can : Can S most P w
    pub are : ArePlanned S.ms S.clock w planned can.events

  -- from w at most `most` events lead to a world with P, and they follow the steps
  pub record Plays (steps : List PlanStep) (most : ℕ) (P : World → Type 0) (w : World) : Type 0 where
    pub can : Can S most P w
    pub follow : Follow S.ms S.clock w steps can.events

  pub does_weaker : {ps : List Planned} {k l : ℕ} {P R : World → Type 0} {w : World} → k ≤ l → ((v : World) → Onward S w v → P v → R v) → Does ps k P w → Does ps l R w
  unfolding weaker
  does_weaker {ps} {k} {l} {P} {R} {w} le f D = record { can = weaker S le f D.can; are = D.are }

  pub plays_weaker : {ss : List PlanStep} {k l : ℕ} {P R : World → Type 0} {w : World} → k ≤ l → ((v : World) → Onward S w v → P v → R v) → Plays ss k P w → Plays ss l R w
  unfolding weaker
  plays_weaker {ss} {k} {l} {P} {R} {w} le f D = record { can = weaker S le f D.can; follow = D.follow }

  pub does_then : {ps rs : List Planned} {k l : ℕ} {P R : World → Type 0} {w : World} → Does ps k P w → ((v : World) → Onward S w v → P v → Does rs l R v) → Does (ps ++ rs) (k + l) R w
  unfolding then
  does_then {ps} {rs} {k} {l} {P} {R} {w} C f = record {
    can = then S C.can (λ v o p. let D = f v o p in D.can);
    are = (let c = C.can in let D = f c.next c.onward c.there in planned_append S.ms S.clock w c.next ps rs c.events D.can.events C.are c.goes D.are);
  }

  pub plays_then : {ss ts : List PlanStep} {k l : ℕ} {P R : World → Type 0} {w : World} → Plays ss k P w → ((v : World) → Onward S w v → P v → Plays ts l R v) → Plays (ss ++ ts) (k + l) R w
  unfolding then
  plays_then {ss} {ts} {k} {l} {P} {R} {w} C f = record {
    can = then S C.can (λ v o p. let D = f v o p in D.can);
    follow = (let c = C.can in let D = f c.next c.onward c.there in follow_append S.ms S.clock w c.next ss ts c.events D.can.events C.follow c.goes D.follow);
  }

  -- ---- a step

  pub step : (s : PlanStep) (ps : List Planned) {k : ℕ} {P : World → Type 0} {w : World} → s w ≡ ps → Does ps k P w → Plays (s ∷ []) k P w
  step s ps {k} {P} {w} e D = record { can = D.can; follow = (let c = D.can in (c.events, [], append_nil c.events, subst (λ (l : List Planned). ArePlanned S.ms S.clock w l c.events) (sym e) D.are, refl)) }

  -- no event is needed if P already holds
  nothing : {k : ℕ} {P : World → Type 0} {w : World} → P w → Can S k P w
  unfolding ran_from
  nothing {k} {P} {w} p = record { events = []; few = omega arith; steps = tt; next = w; goes = refl; onward = onward_not S w; there = p }

  -- a step that plans no event in w
  pub passes : (s : PlanStep) {k : ℕ} {P : World → Type 0} {w : World} → s w ≡ [] → P w → Plays (s ∷ []) k P w
  unfolding nothing
  passes s {k} {P} {w} e p = step s [] e (record { can = nothing p; are = refl })

  -- steps that each plan no event in w
  pub idle : (ss : List PlanStep) {k : ℕ} {P : World → Type 0} {w : World} → AllByRecursion (λ (s : PlanStep). s w ≡ []) ss → P w → Plays ss k P w
  unfolding nothing ran_from
  idle ss {k} {P} {w} none p = record { can = nothing p; follow = all ss none }
    where
      all : (ss : List PlanStep) → AllByRecursion (λ (s : PlanStep). s w ≡ []) ss → Follow S.ms S.clock w ss []
      all [] none = refl
      all (s ∷ ss) none = ([], [], refl, subst (λ (l : List Planned). ArePlanned S.ms S.clock w l []) (sym none.0) refl, all ss none.1)

  pub plays_none : (n : ℕ) (s : ℕ → PlanStep) {k : ℕ} {P : World → Type 0} {w : World} → ((j : ℕ) → s j w ≡ []) → P w → Plays (map s (range_with_len 0 n)) k P w
  plays_none n s {k} {P} {w} none p = idle (map s (range_with_len 0 n)) (all_of (λ (s : PlanStep). s w ≡ []) s none (range_with_len 0 n)) p

  -- ---- steps for each rank

  pub plays_each : (n c : ℕ) (steps : ℕ → List PlanStep) (Inv : ℕ → World → Type 0) → ((k : ℕ) (w : World) → k < n → Inv k w → Plays (steps k) c (Inv (suc k)) w)
      → (j k : ℕ) → k + j ≡ n → (w : World) → Inv k w → Plays (flat_map steps (range_with_len k j)) (c * j) (Inv n) w
  unfolding nothing
  plays_each n c steps Inv one zero k e w h = record { can = nothing (subst (λ (m : ℕ). Inv m w) (let z : k ≡ n = omega arith in z) h); follow = refl }
  plays_each n c steps Inv one (suc j) k e w h = plays_weaker (product j) (λ v o p. p)
      (plays_then (one k w (omega arith) h) (λ v o i. subst (λ (m : ℕ). Plays (flat_map steps (range_with_len m j)) (c * j) (Inv n) v) (let z : suc k ≡ k + 1 = omega arith in z) (plays_each n c steps Inv one j (suc k) (omega arith) v i)))
    where
      product : (j : ℕ) → c + c * j ≤ c * suc j
      product j = let z = mul-suc c j in omega arith

  -- one step for each rank
  pub plays_all : (n c : ℕ) (s : ℕ → PlanStep) (Inv : ℕ → World → Type 0) → ((k : ℕ) (w : World) → k < n → Inv k w → Plays (s k ∷ []) c (Inv (suc k)) w)
      → (w : World) → Inv 0 w → Plays (map s (range_with_len 0 n)) (c * n) (Inv n) w
  plays_all n c s Inv one w h = subst (λ (l : List PlanStep). Plays l (c * n) (Inv n) w) (singles s (range_with_len 0 n)) (plays_each n c (λ k. s k ∷ []) Inv one n 0 (omega arith) w h)
    where
      singles : (s : ℕ → PlanStep) (ks : List ℕ) → flat_map (λ k. s k ∷ []) ks ≡ map s ks
      singles s [] = refl
      singles s (k ∷ ks) = ap (λ (l : List PlanStep). s k ∷ l) (singles s ks)
