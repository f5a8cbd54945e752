-- Ranking is a strict total order.
use Rattle.std.proofs.Common.{◌≡◌, ◌≢◌, ℕ, ◌⊎◌, IsTrue, refl, ap, inl, inr}
use Rattle.std.specs.declared.cmp.Ordering.{Ordering}
use Rattle.std.specs.declared.cmp.Ordering.TheVariants.{Less, Equal, Greater}
use Rattle.std.specs.Ordering.{ordering_reverse, ordering_then, is_lt, nat_cmp}
use Rattle.std.specs.Cmp.{IsTotalOrder, on_total, back_total, then_total, nat_cmp_total, bool_cmp_total, tied_itself, ranks}
use Rattle.election_rules.specs.declared.rule.Rule.{Rule}
use Rattle.election_rules.specs.declared.scores.Scores.{Scores}
use Rattle.election_rules.specs.Ranking.{allows, score, ranking, outranks, IsStrictTotalOrder}

-- each measure is a total order, and so is one after another
ranking_total : (rule : Rule) (n : ℕ) (table : Scores) → IsTotalOrder (ranking rule n table)
ranking_total rule n table =
    then_total (then_total (on_total (allows rule) (back_total bool_cmp_total)) (on_total (score rule table n) (back_total nat_cmp_total))) nat_cmp_total

-- if the rank decides last, no two tie
untied : (o : Ordering) (a b : ℕ) → a ≢ b → ordering_then o (nat_cmp a b) ≢ Equal
untied Less a b n e = cc
untied Equal a b n e = n (rw e at (ranks a b))
untied Greater a b n e = cc

less : (o : Ordering) → IsTrue (is_lt o) → o ≡ Less
less Less h = refl
less Equal h = cc
less Greater h = cc

either : (o p : Ordering) → o ≢ Equal → p ≡ ordering_reverse o → IsTrue (is_lt o) ⊎ IsTrue (is_lt p)
either Less p n e = inl refl
either Equal p n e = absurd (n refl)
either Greater p n e = inr (ap is_lt e)

pub strict : (rule : Rule) (n : ℕ) (table : Scores) → IsStrictTotalOrder (outranks rule n table)
strict rule n table =
    let o = ranking_total rule n table in
    record {
      irreflexive = λ a h. let e : ranking rule n table a a ≡ Equal = tied_itself o a in let l : ranking rule n table a a ≡ Less = less (ranking rule n table a a) h in cc;
      transitive = λ a b c p q. ap is_lt (o.trans a b c (less (ranking rule n table a b) p) (less (ranking rule n table b c) q));
      total = λ a b m. either (ranking rule n table a b) (ranking rule n table b a) (untied _ a b m) (o.antisymm b a);
    }
