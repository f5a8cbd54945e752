-- The events that deliver what waits, and their run.
use Rattle.calm_command.proofs.Worlds.{Drains, delivered, finished}
use Rattle.law_names.proofs.Runs.{Arrives, Deliver, Event, Monitors, Ran, Stop, World, deliveries, goes_on, numbers_delivered, ran_from, run_from}
use Rattle.law_names.proofs.Table.{range_with_len}
use Rattle.quorum_model.proofs.Continuing.{at, ran_one}
use Rattle.std.proofs.Common.{List, Result, [], ap, arith, cond, length, refl, suc, sym, zero, ℕ, ◌+◌, ◌-◌, ◌∙◌, ◌∷◌, ◌≡◌, ◌≤◌}
use Rattle.std.proofs.lemmas.Bool.{le-leb, lt-leb}

pub drains_up : (ms : Monitors) (k : ℕ) (w : World) (j : ℕ) (last : World) → Drains ms k w j last → k ≤ j
drains_up ms _ _ _ _ (finished k w) = omega arith
drains_up ms _ _ _ _ (delivered k w next j last lt h d) = let r = drains_up ms (suc k) next j last d in omega arith

pub record Ends (ms : Monitors) (most k : ℕ) (w : World) (j : ℕ) (last : World) : Type 0 where
  pub is : ran_from ms w (deliveries ms most (suc k) w) ≡ at last
  pub numbers : numbers_delivered (deliveries ms most (suc k) w) ≡ range_with_len (suc k) (j - k)

pub ends : (ms : Monitors) (most k : ℕ) (w : World) (j : ℕ) (last : World) → Drains ms k w j last
    → length last.messages ≤ j → j ≤ most + k → Ends ms most k w j last
unfolding deliveries ran_from
ends ms zero _ _ _ _ (finished k w) le few =
    let none : k - k ≡ 0 = omega arith in
    record { is = refl; numbers = ap (λ (c : ℕ). range_with_len (suc k) c) (sym none) }
ends ms (suc most) _ _ _ _ (finished k w) le few =
    let none : k - k ≡ 0 = omega arith in
    let past = lt-leb (suc k) (length w.messages) (omega arith) in
    record { is = rw past refl; numbers = rw past (ap (λ (c : ℕ). range_with_len (suc k) c) (sym none)) }
ends ms zero _ _ _ _ (delivered k w next j last lt h d) le few =
    let up = drains_up ms (suc k) next j last d in absurd (omega arith)
ends ms (suc most) _ _ _ _ (delivered k w next j last lt h d) le few =
    let up = drains_up ms (suc k) next j last d in
    let E = ends ms most (suc k) next j last d le (omega arith) in
    let there = le-leb (suc k) (length w.messages) (omega arith) in
    let one : run_from ms w (Arrives (Deliver (suc k) 0) ∷ []) ≡ next =
    ap (λ (r : Ran). r.world) (ran_one ms w next (Arrives (Deliver (suc k) 0)) h) in
    let count : j - k ≡ suc (j - suc k) = omega arith in
    let more : suc k + 1 ≡ suc (suc k) = omega arith in
    let e : Event = Arrives (Deliver (suc k) 0) in
    let opened : deliveries ms (suc most) (suc k) w ≡ e ∷ deliveries ms most (suc (suc k)) next =
    ap (λ b. cond b (e ∷ deliveries ms most (suc (suc k)) (run_from ms w (e ∷ []))) []) there
    ∙ ap (λ (v : World). e ∷ deliveries ms most (suc (suc k)) v) one in
    let numbered : range_with_len (suc k) (j - k) ≡ suc k ∷ range_with_len (suc (suc k)) (j - suc k) =
    ap (λ (c : ℕ). range_with_len (suc k) c) count ∙ ap (λ (q : ℕ). suc k ∷ range_with_len q (j - suc k)) more in
    record {
      is = ap (λ (l : List Event). ran_from ms w l) opened
          ∙ ap (λ (r : Result World Stop). goes_on w (λ v. ran_from ms v (deliveries ms most (suc (suc k)) next)) r)
          h
          ∙ E.is;
      numbers = ap (λ (l : List Event). numbers_delivered l) opened
          ∙ ap (λ (l : List ℕ). suc k ∷ l) E.numbers
          ∙ sym numbered;
    }
