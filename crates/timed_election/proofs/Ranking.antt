-- The best member outranks all others, whatever table a message has.
use Rattle.election_rules.proofs.RankingLaws.{strict}
use Rattle.election_rules.specs.Ranking.{outranks, score}
use Rattle.election_rules.specs.declared.rule.Rule.TheVariants.{Classic, Connectivity, Disallow}
use Rattle.law_names.proofs.Runs.{Monitors}
use Rattle.law_names.proofs.Table.{Rule, Scores, allows, has, scores_count}
use Rattle.std.proofs.Common.{Bool, List, arith, false, refl, sym, true, ℕ, ◌&&◌, ◌<◌, ◌∙◌, ◌≡◌}
use Rattle.std.proofs.lemmas.Bool.{and_from, and_parts, eq-eqb, false≢true, le-ltb, lt-ltb}
use Rattle.timed_election.specs.Election.{CanElect}

same_score : (rule : Rule) → scores_count rule ≡ false → (table : Scores) (n a b : ℕ) → score rule table n a ≡ score rule table n b
same_score Classic isnt table n a b = refl
same_score (Disallow ranks) isnt table n a b = refl
same_score (Connectivity ranks) isnt table n a b = absurd (false≢true (sym isnt))

module _ (ms : Monitors) (q : List Bool) (best : ℕ) (C : CanElect ms q best) (i : ℕ) (qi : has q i ≡ true) (other : i ≡ best → ⊥) (table : Scores) where
  lower : allows ms.rule i ≡ true → best < i
  lower t = let le = C.lowest i qi t in let ne : best ≡ i → ⊥ = (λ e. other (sym e)) in omega arith

  is_before : outranks ms.rule ms.count table best i ≡ true
  is_before = by (allows ms.rule i) refl
    where
      s : score ms.rule table ms.count best ≡ score ms.rule table ms.count i
      s = same_score ms.rule C.ranks_decide table ms.count best i

      by : (x : Bool) → allows ms.rule i ≡ x → outranks ms.rule ms.count table best i ≡ true
      by true t = rw (C.may_lead, t, s, eq-eqb (score ms.rule table ms.count i) (score ms.rule table ms.count i) refl, le-ltb (score ms.rule table ms.count i) (score ms.rule table ms.count i) (omega arith), lt-ltb best i (lower t)) refl
      by false t = rw (C.may_lead, t) refl

  pub best_first : (allows ms.rule best && outranks ms.rule ms.count table best i) ≡ true
  best_first = and_from (allows ms.rule best) (outranks ms.rule ms.count table best i) C.may_lead is_before

  -- no other member outranks it
  pub no_better : outranks ms.rule ms.count table i best ≡ false
  no_better = by (outranks ms.rule ms.count table i best) refl
    where
      by : (x : Bool) → outranks ms.rule ms.count table i best ≡ x → x ≡ false
      by false t = refl
      by true t = let o = strict ms.rule ms.count table in absurd (o.irreflexive best (o.transitive best i best is_before t))

  pub nobody_better : (allows ms.rule i && outranks ms.rule ms.count table i best) ≡ true → ⊥
  nobody_better t = false≢true (sym no_better ∙ (and_parts (allows ms.rule i) (outranks ms.rule ms.count table i best) t).1)

-- nobody outranks itself
pub not_itself : (ms : Monitors) (table : Scores) (i : ℕ) → (allows ms.rule i && outranks ms.rule ms.count table i i) ≡ true → ⊥
not_itself ms table i t = let o = strict ms.rule ms.count table in o.irreflexive i (and_parts (allows ms.rule i) (outranks ms.rule ms.count table i i) t).1
