-- A key that no change takes away is put at most once in a joined transaction.
use Rattle.std.proofs.Common.{◌≡◌, ℕ, ◌+◌, ◌≤◌, Bool, true, false, not, ◌&&◌, ◌||◌, cond, List, [], ◌∷◌, ◌++◌, Option, Some, None, refl, sym, ap, subst, ◌∙◌, ◌⊎◌, inl, inr, add-zero, arith}
use Rattle.std.proofs.lemmas.Bool.{and_parts, cases_Bool}
use Rattle.std.proofs.lemmas.List.Folds.{list_any-append}
use Rattle.std.proofs.lemmas.List.Sums.{sum_by-cons, sum_by-append}
use Rattle.std.specs.List.{list_any, count_by}
use Rattle.std.specs.Ordering.{eq_by_cmp}
use Rattle.mon_tx.specs.declared.op.Op.{Op}
use Rattle.mon_tx.specs.declared.op.Op.TheVariants.{Put, Erase, ErasePrefix, EraseRange}
use Rattle.mon_tx.specs.Map.{Place, place_cmp}
use Rattle.mon_msg.specs.Joined.{puts, takes_away, or_here, replaced, or_last, joined_with, joined_onto, joined}
use Rattle.mon_msg.proofs.Joining.{same_place, neither, not_here, without_last}

one_more : (at : Place) (op : Op) (ops : List Op) → count_by (puts at) (op ∷ ops) ≡ cond (puts at op) 1 0 + count_by (puts at) ops
one_more at op ops = sum_by-cons (λ x. cond (puts at x) 1 0) op ops

-- if no put may be replaced, and nothing takes the key away, there is none
never_put : (at : Place) (new : Op) (ops : List Op) → replaced at new ops ≡ None → list_any (takes_away at) ops ≡ false → count_by (puts at) ops ≡ 0
never_put at new [] h g = refl
never_put at new (op ∷ ops) h g =
    let any = neither (takes_away at op) (list_any (takes_away at) ops) g in
    let none = not_here new op ops (puts at op && not (list_any (takes_away at) ops)) (replaced at new ops) h in
    let here : puts at op ≡ false = without_last (puts at op) (list_any (takes_away at) ops) none.0 any.1 in
    one_more at op ops ∙ (λ i. cond (here i) 1 0 + never_put at new ops none.1 any.1 i)

-- two puts of one place are alike for every place
record Alike (at : Place) (old new : List Op) : Type 0 where
  puts_alike : count_by (puts at) old ≡ count_by (puts at) new
  takes_alike : list_any (takes_away at) old ≡ list_any (takes_away at) new

exchanged : (p k v : List ℕ) (at : Place) (op : Op) (ops : List Op) → puts (p, k) op ≡ true → Alike at (Put p k v ∷ ops) (op ∷ ops)
exchanged p k v at (Put q l w) ops h =
    let same : eq_by_cmp place_cmp at (p, k) ≡ eq_by_cmp place_cmp at (q, l) = ap (eq_by_cmp place_cmp at) (same_place (p, k) (q, l) h) in
    record {
      puts_alike = one_more at (Put p k v) ops ∙ ap (λ b. cond b 1 0 + count_by (puts at) ops) same ∙ sym (one_more at (Put q l w) ops);
      takes_alike = refl;
    }
exchanged p k v at (Erase q l) ops h = cc
exchanged p k v at (ErasePrefix q) ops h = cc
exchanged p k v at (EraseRange q from to) ops h = cc

replaced_alike : (p k v : List ℕ) (at : Place) (ops found : List Op) → replaced (p, k) (Put p k v) ops ≡ Some found → Alike at found ops
replaced_alike p k v at [] found h = cc
replaced_alike p k v at (op ∷ ops) found h = by (replaced (p, k) (Put p k v) ops) refl (λ f e. replaced_alike p k v at ops f e) h
  where
    by_test : (here : Bool) → (puts (p, k) op && not (list_any (takes_away (p, k)) ops)) ≡ here → or_here (Put p k v) op ops here None ≡ Some found → Alike at found (op ∷ ops)
    by_test true t h =
        let is : Put p k v ∷ ops ≡ found = cc in
        subst (λ (l : List Op). Alike at l (op ∷ ops)) is (exchanged p k v at op ops (and_parts (puts (p, k) op) (not (list_any (takes_away (p, k)) ops)) t).0)
    by_test false t h = cc

    by : (further : Option (List Op)) → replaced (p, k) (Put p k v) ops ≡ further → ((f : List Op) → replaced (p, k) (Put p k v) ops ≡ Some f → Alike at f ops)
        → or_here (Put p k v) op ops (puts (p, k) op && not (list_any (takes_away (p, k)) ops)) further ≡ Some found → Alike at found (op ∷ ops)
    by (Some f) e ih h =
        let is : op ∷ f ≡ found = cc in
        let a = ih f e in
        subst (λ (l : List Op). Alike at l (op ∷ ops)) is (record {
          puts_alike = one_more at op f ∙ ap (λ n. cond (puts at op) 1 0 + n) a.puts_alike ∙ sym (one_more at op ops);
          takes_alike = ap (λ b. takes_away at op || b) a.takes_alike;
        })
    by None e ih h = by_test (puts (p, k) op && not (list_any (takes_away (p, k)) ops)) refl h

-- so far no change takes the key away, and it is put at most once
record IsOnce (at : Place) (ops : List Op) : Type 0 where
  stays : list_any (takes_away at) ops ≡ false
  most : count_by (puts at) ops ≤ 1

behind : (at : Place) (done : List Op) (op : Op) → IsOnce at done → takes_away at op ≡ false → (puts at op ≡ true → count_by (puts at) done ≡ 0) → IsOnce at (done ++ op ∷ [])
behind at done op so_far h none =
    let count : count_by (puts at) (done ++ op ∷ []) ≡ count_by (puts at) done + cond (puts at op) 1 0 =
    sum_by-append (λ x. cond (puts at x) 1 0) done (op ∷ []) ∙ ap (λ n. count_by (puts at) done + n) (one_more at op [] ∙ add-zero (cond (puts at op) 1 0)) in
    record {
      stays = list_any-append (takes_away at) done (op ∷ []) ∙ (λ i. so_far.stays i || (h i || false));
      most = by (cases_Bool (puts at op)) count;
    }
  where
    by : (puts at op ≡ true) ⊎ (puts at op ≡ false) → count_by (puts at) (done ++ op ∷ []) ≡ count_by (puts at) done + cond (puts at op) 1 0 → count_by (puts at) (done ++ op ∷ []) ≤ 1
    by (inl e) c = let n = none e in let d = c ∙ ap (λ b. count_by (puts at) done + cond b 1 0) e in omega arith
    by (inr e) c = let m = so_far.most in let d = c ∙ ap (λ b. count_by (puts at) done + cond b 1 0) e in omega arith

once_more : (at : Place) (done : List Op) (op : Op) → IsOnce at done → takes_away at op ≡ false → IsOnce at (joined_with done op)
once_more at done (Put p k v) so_far h = by (replaced (p, k) (Put p k v) done) refl
  where
    by : (found : Option (List Op)) → replaced (p, k) (Put p k v) done ≡ found → IsOnce at (or_last (Put p k v) done found)
    by (Some f) e =
        let a = replaced_alike p k v at done f e in
        let n = a.puts_alike in
        let m = so_far.most in
        record { stays = a.takes_alike ∙ so_far.stays; most = omega arith }
    by None e =
        behind at done (Put p k v) so_far refl
        (λ t. let is : at ≡ (p, k) = same_place at (p, k) t in never_put at (Put p k v) done (ap (λ q. replaced q (Put p k v) done) is ∙ e) so_far.stays)
once_more at done (Erase p k) so_far h = behind at done (Erase p k) so_far h (λ t. cc)
once_more at done (ErasePrefix p) so_far h = behind at done (ErasePrefix p) so_far h (λ t. cc)
once_more at done (EraseRange p from to) so_far h = behind at done (EraseRange p from to) so_far h (λ t. cc)

all_once : (at : Place) (done ops : List Op) → IsOnce at done → list_any (takes_away at) ops ≡ false → IsOnce at (joined_onto done ops)
all_once at done [] so_far h = so_far
all_once at done (op ∷ ops) so_far h =
    let both = neither (takes_away at op) (list_any (takes_away at) ops) h in
    all_once at (joined_with done op) ops (once_more at done op so_far both.0) both.1

pub put_once : (ops : List Op) (at : Place) → list_any (takes_away at) ops ≡ false → count_by (puts at) (joined ops) ≤ 1
unfolding joined
put_once ops at h = (all_once at [] ops (record { stays = refl; most = omega arith }) h).most
