-- What goes round some ranks, one after the other.
use Rattle.law_names.proofs.Runs.{World}
use Rattle.law_names.proofs.Table.{has, range_with_len, with_rank}
use Rattle.quorum_elects.proofs.Can.{Scope}
use Rattle.quorum_elects.proofs.Planning.{Plays, passes, plays_all, plays_weaker}
use Rattle.quorum_elects.proofs.Ranks.{has_self, in_or_out, same_or_not, up_to}
use Rattle.quorum_elects.proofs.Tests.{itself_is, outside_is}
use Rattle.quorum_elects.specs.Electing.{is_other}
use Rattle.quorum_elects.specs.Plans.{PlanStep}
use Rattle.quorum_walk.proofs.Ranks.{has_with}
use Rattle.std.proofs.Common.{Bool, List, [], arith, false, inl, inr, length, map, subst, suc, sym, true, ℕ, ◌*◌, ◌<◌, ◌∙◌, ◌∷◌, ◌≡◌, ◌≤◌, ◌⊎◌}
use Rattle.std.proofs.lemmas.Bool.{false≢true}

-- a member of a quorum other than its leader
abbrev pub Peon : List Bool → (leader f : ℕ) → Type 0
Peon q r f = (has q f ≡ true) × (f ≡ r → ⊥)

pub peon_or_not : (q : List Bool) (r k : ℕ) → Peon q r k ⊎ (Peon q r k → ⊥)
peon_or_not q r k = elim (in_or_out (has q k)) [
  | inr out ↦ inr (λ p. false≢true (sym out ∙ p.0))
  | inl there ↦ elim (same_or_not k r) [ inl e ↦ inr (λ p. p.1 e) | inr other ↦ inl (there, other) ]
]

-- a plan asks no other rank
pub not_peon : (q : List Bool) (r k : ℕ) → (Peon q r k → ⊥) → is_other q r k ≡ false
not_peon q r k none = elim (in_or_out (has q k)) [
  | inr out ↦ outside_is q r k out
  | inl there ↦ elim (same_or_not k r) [ inl e ↦ itself_is q r k e | inr other ↦ absurd (none (there, other)) ]
]

-- Of a rank that is asked Done is so after its turn, and Left before it. Keeps is so all the time.
module _ (Asked : ℕ → Type 0) (Keeps : World → Type 0) (Done Left : ℕ → World → Type 0) where
  -- those below k had their turn
  pub record InTurn (k : ℕ) (w : World) : Type 0 where
    pub keeps : Keeps w
    pub done : (f : ℕ) → f < k → Asked f → Done f w
    pub left : (f : ℕ) → k ≤ f → Asked f → Left f w

  pub at_first : (w : World) → Keeps w → ((f : ℕ) → Asked f → Left f w) → InTurn 0 w
  at_first w keeps left = record { keeps = keeps; done = λ f low a. absurd (omega arith); left = λ f high a. left f a }

  -- The turn of k: it is done, and what held of the others still does.
  pub record Turned (k : ℕ) (w v : World) : Type 0 where
    pub keeps : Keeps v
    pub done : Done k v
    pub others : (f : ℕ) → (f ≡ k → ⊥) → Asked f → (Done f w → Done f v) × (Left f w → Left f v)

  pub each_in_turn : (S : Scope) (n c : ℕ) (s : ℕ → PlanStep) → ((k : ℕ) → Asked k ⊎ (Asked k → ⊥)) → ((k : ℕ) (w : World) → (Asked k → ⊥) → Keeps w → s k w ≡ [])
      → ((k : ℕ) (w : World) → k < n → Asked k → Keeps w → Left k w → Plays S (s k ∷ []) c (Turned k w) w) → (w : World) → InTurn 0 w → Plays S (map s (range_with_len 0 n)) (c * n) (InTurn n) w
  each_in_turn S n c s asked_or_not none one w T = plays_all S n c s InTurn turn w T
    where
      turn : (k : ℕ) (w : World) → k < n → InTurn k w → Plays S (s k ∷ []) c (InTurn (suc k)) w
      turn k w lt T = elim (asked_or_not k) [
        | inr not ↦ passes S (s k) (none k w not T.keeps) (record {
          keeps = T.keeps;
          done = λ f low a. elim (up_to f k low) [ inl e ↦ absurd (not (subst Asked e a)) | inr less ↦ T.done f less a ];
          left = λ f high a. T.left f (omega arith) a;
        })
        | inl asked ↦ plays_weaker S (omega arith) (λ v o R. record {
          keeps = R.keeps;
          done = λ f low a. elim (up_to f k low) [ inl e ↦ subst (λ (x : ℕ). Done x v) (sym e) R.done | inr less ↦ (R.others f (λ e. omega arith) a).0 (T.done f less a) ];
          left = λ f high a. (R.others f (λ e. omega arith) a).1 (T.left f (omega arith) a);
        }) (one k w lt asked T.keeps (T.left k (omega arith) asked))
      ]

-- ---- who is counted

-- the second set has each rank below k that is in the first
abbrev pub Covers : List Bool → List Bool → ℕ → Type 0
Covers q a k = (f : ℕ) → f < k → has q f ≡ true → has a f ≡ true

-- rank k is in it, if it is in the first at all
pub covers_one : (q a : List Bool) (k : ℕ) → (has q k ≡ true → has a k ≡ true) → Covers q a k → Covers q a (suc k)
covers_one q a k here covers f low h = elim (up_to f k low) [ inl e ↦ subst (λ (x : ℕ). has a x ≡ true) (sym e) (here (subst (λ (x : ℕ). has q x ≡ true) e h)) | inr less ↦ covers f less h ]

pub covers_with : (q a : List Bool) (k : ℕ) → k < length a → Covers q a k → Covers q (with_rank a k) (suc k)
covers_with q a k long covers = covers_one q (with_rank a k) k (λ _. has_self a k long) (λ f low h. has_with a k f (covers f low h))
