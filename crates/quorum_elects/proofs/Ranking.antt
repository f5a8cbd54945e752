-- Who is before whom while no connection ever failed: those who may lead, and among these the lower rank.
use Rattle.election_rules.proofs.MergeLemmas.{length-merged, merged-other, merged-own}
use Rattle.election_rules.proofs.RankingLaws.{strict}
use Rattle.election_rules.proofs.TotalLemmas.{sum_for-more}
use Rattle.election_rules.specs.Ranking.{outranks, score}
use Rattle.election_rules.specs.Table.{full, is_older, merged, newer, no_row, row_of, start_row, start_scores, sum_for, total}
use Rattle.election_rules.specs.declared.row.Row.{Row}
use Rattle.election_rules.specs.declared.rule.Rule.TheVariants.{Classic, Connectivity, Disallow}
use Rattle.law_names.proofs.Table.{Rule, Scores, allows, table_or}
use Rattle.mon_msg.specs.Protocol.Elections.{merged_if_sent}
use Rattle.quorum_elects.proofs.Ranks.{same_or_not}
use Rattle.std.proofs.Common.{Bool, IfSome, None, Option, Some, ap, arith, cond, eqb, false, inl, inr, length, refl, replicate, slice_index, subst, suc, sym, take, true, zero, ℕ, ◌*◌, ◌+◌, ◌-◌, ◌<◌, ◌∙◌, ◌≡◌, ◌≤◌, ◌⊎◌}
use Rattle.std.proofs.lemmas.Bool.{cases_lt, eq-eqb, le-ltb, lt-ltb, ne_eqb}
use Rattle.std.proofs.lemmas.List.{get_or-replicate, get_or-set_other, get_or-set_same, length-replicate, length-set}

-- no connection ever failed
abbrev pub IsFullRow : Row → Type 0
IsFullRow row = (x : ℕ) → x < 15 → slice_index row.scores x ≡ full

pub record IsFull (table : Scores) : Type 0 where
  pub own : table.own < 15
  pub ranks : length table.rows ≡ 15
  pub rows : (y : ℕ) → y < 15 → IsFullRow (row_of table y)

-- ---- tables at first, and merged ones

start_full : (boot : ℕ) → IsFullRow (start_row boot)
unfolding start_row
start_full boot x lt = get_or-replicate 15 x full 0 lt

pub full_start : (own boot : ℕ) → own < 15 → IsFull (start_scores own boot)
full_start own boot lt = record {
  own = lt;
  ranks = length-set (replicate 15 (start_row 0)) own (start_row boot) ∙ length-replicate 15 (start_row 0);
  rows = λ y less. by y less (same_or_not y own);
}
  where
    by : (y : ℕ) → y < 15 → (y ≡ own) ⊎ (y ≡ own → ⊥) → IsFullRow (row_of (start_scores own boot) y)
    by y less (inl e) = subst IsFullRow (sym (ap (row_of (start_scores own boot)) e ∙ get_or-set_same (replicate 15 (start_row 0)) own (start_row boot) no_row (let l = length-replicate 15 (start_row 0) in omega arith))) (start_full boot)
    by y less (inr ne) = subst IsFullRow (sym (get_or-set_other (replicate 15 (start_row 0)) own y (start_row boot) no_row ne ∙ get_or-replicate 15 y (start_row 0) no_row less)) (start_full 0)

newer_full : (a b : Row) → IsFullRow a → IsFullRow b → IsFullRow (newer (a, b))
newer_full a b p q = by (is_older a b)
  where
    by : (older : Bool) → IsFullRow (cond older b a)
    by true = q
    by false = p

full_merged : (table other : Scores) → IsFull table → IsFull other → IsFull (merged table other)
full_merged table other F G = record {
  own = F.own;
  ranks = length-merged table other F.ranks G.ranks;
  rows = λ y less. by y less (same_or_not y table.own);
}
  where
    by : (y : ℕ) → y < 15 → (y ≡ table.own) ⊎ (y ≡ table.own → ⊥) → IsFullRow (row_of (merged table other) y)
    by y less (inl e) = subst IsFullRow (sym (ap (row_of (merged table other)) e ∙ merged-own table other F.ranks G.ranks F.own)) (F.rows table.own F.own)
    by y less (inr ne) = subst IsFullRow (sym (merged-other table other y F.ranks G.ranks less ne)) (newer_full (row_of table y) (row_of other y) (F.rows y less) (G.rows y less))

-- what a message has
abbrev pub FullIf : Option Scores → Type 0
FullIf table = IfSome table IsFull

pub full_after : (table : Option Scores) (own : Scores) → FullIf table → IsFull own → IsFull (merged_if_sent table own)
full_after None own T F = F
full_after (Some table) own T F = full_merged own table F T

pub full_or : (table : Option Scores) (own : Scores) → FullIf table → IsFull own → IsFull (table_or table own)
full_or None own T F = F
full_or (Some table) own T F = T

-- ---- totals

module _ (table : Scores) (F : IsFull table) (x : ℕ) (less : x < 15) where
  more : (i : ℕ) → i < 15 → sum_for x (take (suc i) table.rows) ≡ sum_for x (take i table.rows) + cond (eqb i x) 0 full
  more i lt =
      subst (λ (k : ℕ). sum_for x (take k table.rows) ≡ sum_for x (take i table.rows) + cond (eqb i x) 0 (slice_index (row_of table i).scores x)) (let e : i + 1 ≡ suc i = omega arith in e)
      (sum_for-more x table.rows i no_row (let r = F.ranks in omega arith)) ∙ ap (λ (z : ℕ). sum_for x (take i table.rows) + cond (eqb i x) 0 z) (F.rows i lt x less)

  other_row : (i : ℕ) → i < 15 → (i ≡ x → ⊥) → sum_for x (take (suc i) table.rows) ≡ sum_for x (take i table.rows) + full
  other_row i lt ne = more i lt ∙ ap (λ b. sum_for x (take i table.rows) + cond b 0 full) (ne_eqb i x ne)

  own_row : (i : ℕ) → i < 15 → i ≡ x → sum_for x (take (suc i) table.rows) ≡ sum_for x (take i table.rows) + 0
  own_row i lt e = more i lt ∙ ap (λ b. sum_for x (take i table.rows) + cond b 0 full) (eq-eqb i x e)

  below : (i : ℕ) → i ≤ x → sum_for x (take i table.rows) ≡ 1000000 * i
  below zero le = refl
  below (suc i) le = let b = below i (omega arith) in let m = other_row i (omega arith) (λ e. omega arith) in omega arith

  above : (i : ℕ) → i ≤ 15 → x < i → sum_for x (take i table.rows) ≡ 1000000 * (i - 1)
  above zero le lt = absurd (omega arith)
  above (suc i) le lt = by (λ low. above i (omega arith) low) (cases_lt x i)
    where
      by : (x < i → sum_for x (take i table.rows) ≡ 1000000 * (i - 1)) → (x < i) ⊎ (i ≤ x) → sum_for x (take (suc i) table.rows) ≡ 1000000 * (suc i - 1)
      by before (inl low) = let a = before low in let m = other_row i (omega arith) (λ e. omega arith) in omega arith
      by before (inr high) = let e : i ≡ x = omega arith in let b = below i (omega arith) in let m = own_row i (omega arith) e in omega arith

-- all of the map have the same score
same_total : (table : Scores) → IsFull table → (n a b : ℕ) → n ≤ 15 → a < n → b < n → total table n a ≡ total table n b
same_total table F n a b le p q = above table F a (omega arith) n le p ∙ sym (above table F b (omega arith) n le q)

same_score : (rule : Rule) (table : Scores) → IsFull table → (n a b : ℕ) → n ≤ 15 → a < n → b < n → score rule table n a ≡ score rule table n b
same_score Classic table F n a b le p q = refl
same_score (Disallow ranks) table F n a b le p q = refl
same_score (Connectivity ranks) table F n a b le p q = same_total table F n a b le p q

-- ---- ranks

-- a may lead, and is lower than b or b may not
pub record IsBefore (rule : Rule) (a b : ℕ) : Type 0 where
  pub may_lead : allows rule a ≡ true
  pub lower : (allows rule b ≡ true → a < b)

pub before_is : (rule : Rule) (table : Scores) → IsFull table → (n a b : ℕ) → n ≤ 15 → a < n → b < n → IsBefore rule a b → outranks rule n table a b ≡ true
before_is rule table F n a b le p q B = by (allows rule b) refl
  where
    s : score rule table n a ≡ score rule table n b
    s = same_score rule table F n a b le p q

    by : (x : Bool) → allows rule b ≡ x → outranks rule n table a b ≡ true
    by true t = rw (B.may_lead, t, s, eq-eqb (score rule table n b) (score rule table n b) refl, le-ltb (score rule table n b) (score rule table n b) (omega arith), lt-ltb a b (B.lower t)) refl
    by false t = rw (B.may_lead, t) refl

pub before_not : (rule : Rule) (table : Scores) → IsFull table → (n a b : ℕ) → n ≤ 15 → a < n → b < n → IsBefore rule a b → outranks rule n table b a ≡ false
before_not rule table F n a b le p q B = by (outranks rule n table b a) refl
  where
    by : (x : Bool) → outranks rule n table b a ≡ x → x ≡ false
    by false t = refl
    by true t = let o = strict rule n table in absurd (o.irreflexive a (o.transitive a b a (before_is rule table F n a b le p q B) t))
