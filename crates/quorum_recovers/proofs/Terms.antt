-- A leader whose members lack at most one version.
use Rattle.law_names.proofs.Runs.{World}
use Rattle.law_names.proofs.Table.{State, are_within, count_of, has, is_alone, is_majority, list_all, no_ranks, only, range_with_len}
use Rattle.quorum_agreement.proofs.Others.{others}
use Rattle.quorum_elects.proofs.Majorities.{Majority}
use Rattle.quorum_elects.proofs.Ranks.{one_counts}
use Rattle.quorum_elects.specs.Ready.{HasRoom}
use Rattle.quorum_laws.specs.Accepting.{IsMajorityOf}
use Rattle.quorum_model.proofs.Members.{member_of}
use Rattle.quorum_recovers.specs.Plan.{answered_at}
use Rattle.quorum_walk.proofs.Ranks.{has_only_is, within_at}
use Rattle.std.proofs.Common.{Bool, List, Option, Some, ap, arith, false, ltb, not, refl, suc, true, zero, ℕ, ◌&&◌, ◌*◌, ◌+◌, ◌<◌, ◌^◌, ◌||◌, ◌∙◌, ◌≡◌, ◌≤◌}
use Rattle.std.proofs.lemmas.Bool.{ltb-true}
use Rattle.std.specs.Option.{option_map_or}

-- the answers that a plan sees are those in the state of a monitor that is up
pub answered_is : (w : World) (i : ℕ) (s : State) (a : List Bool) → w.state i ≡ Some s → s.leader.answered ≡ a → answered_at w i ≡ a
answered_is w i s a up e = ap (λ (o : Option State). option_map_or (λ x. x.leader.answered) o no_ranks) up ∙ e

-- if all ranks of a below n are in b, the test of each rank from `from` on passes
all_from : (n : ℕ) (a b : List Bool) → ((f : ℕ) → f < n → has a f ≡ true → has b f ≡ true) → (len from : ℕ) → from + len ≤ n → list_all (λ k. not (has a k) || has b k) (range_with_len from len) ≡ true
all_from n a b h zero from le = refl
all_from n a b h (suc len) from le = by (all_from n a b h len (from + 1) (omega arith)) (has a from) refl
  where
    by : list_all (λ k. not (has a k) || has b k) (range_with_len (from + 1) len) ≡ true → (x : Bool) → has a from ≡ x → ((not (has a from) || has b from) && list_all (λ k. not (has a k) || has b k) (range_with_len (from + 1) len)) ≡ true
    by later true is = λ j. (not (is j) || h from (omega arith) is j) && later j
    by later false is = λ j. (not (is j) || has b from) && later j

pub all_within : (n : ℕ) (a b : List Bool) → ((f : ℕ) → f < n → has a f ≡ true → has b f ≡ true) → are_within n a b ≡ true
all_within n a b h = all_from n a b h n 0 (omega arith)

-- Rank r leads the quorum a in epoch e. Each member f has T f versions, which are c or one less.
pub record Term (G : Majority) : Type 0 where
  pub r : ℕ
  pub e : ℕ
  pub a : List Bool
  pub mine : has a r ≡ true
  pub within : (f : ℕ) → has a f ≡ true → has G.q f ≡ true
  pub major : is_majority G.ms.count a ≡ true
  pub T : ℕ → ℕ
  pub most : (f : ℕ) → has a f ≡ true → T f ≤ G.c
  pub least : (f : ℕ) → has a f ≡ true → G.c ≤ suc (T f)
  pub room : HasRoom G.c

module _ (G : Majority) (Q : Term G) where
  pub below : (f : ℕ) → has Q.a f ≡ true → f < G.ms.count
  below f h = let M : IsMajorityOf G.ms.count G.q = G.major in M.below f (Q.within f h)

  pub few_r : Q.r < 15
  few_r = let z = below Q.r Q.mine in let m = G.ms.most in omega arith

  pub not_alone : (lt : ltb Q.r G.ms.count ≡ true) → is_alone (member_of G.ms Q.r lt) Q.a ≡ false
  not_alone lt = others (member_of G.ms Q.r lt) Q.a G.several Q.major below

  -- the leader alone is not all of its quorum
  pub only_open : are_within G.ms.count Q.a (only Q.r) ≡ false
  only_open = by (are_within G.ms.count Q.a (only Q.r)) refl
    where
      by : (b : Bool) → are_within G.ms.count Q.a (only Q.r) ≡ b → b ≡ false
      by false t = refl
      by true t =
          let few = one_counts Q.a Q.r (λ m h. has_only_is Q.r m (within_at G.ms.count Q.a (only Q.r) m t (below m h) h)) in
          let many = ltb-true G.ms.count (2 * count_of Q.a) Q.major in
          let s = G.several in
          absurd (omega arith)

  -- a version after these has room
  pub version_room : (l : ℕ) → l ≤ suc G.c → suc l ≤ 2 ^ 62
  version_room l le = let z = Q.room in omega arith
