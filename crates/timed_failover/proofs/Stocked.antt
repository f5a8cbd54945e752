-- Monitors that have the last version of the log, or lack it alone and have a value pending for it.
use Rattle.law_names.proofs.Runs.{Monitors, Reached, World}
use Rattle.law_names.proofs.Table.{Found, Learn, Op, entry, has, most_value, ops_in, pending, play, readings_of, record_at, text, transaction_in}
use Rattle.log_model.proofs.Records.{IsVersion, read_version}
use Rattle.quorum_agreement.proofs.Invariant.{OfLog}
use Rattle.quorum_history.proofs.Numbers.{pending_is}
use Rattle.quorum_laws.proofs.Invariant.{InvOf}
use Rattle.quorum_laws.specs.Accepting.{readings_at}
use Rattle.quorum_near.proofs.Whole.{Holds}
use Rattle.quorum_recovers.proofs.Known.{at_cell, entry_value, last_cell, learned_cell, low_of}
use Rattle.quorum_stays.specs.Steady.{IsOfCommand, Reign, Round, Steady}
use Rattle.quorum_timed.specs.Timed.{Pace, Timed}
use Rattle.quorum_walk.proofs.FineCourses.{Val}
use Rattle.quorum_walk.proofs.FineReading.{pending_fine}
use Rattle.std.proofs.Common.{Bool, IfSome, List, Option, Some, ap, arith, false, inl, inr, is_some, length, refl, subst, suc, sym, true, zero, ℕ, ◌<◌, ◌∙◌, ◌≡◌, ◌≤◌}
use Rattle.std.proofs.lemmas.Bool.{cases_eq}
use Rattle.timed_failover.proofs.Led.{HasOrAccepted, log_and_mark, near_holds, peon_last, peon_unmarked, several}
use Rattle.timed_failover.specs.Collecting.{CanLearn, IsStocked}

-- the value of a log's last version
abbrev pub last_value : List (List ℕ) → List Op
last_value log = ops_in (entry log (length log))

of_command : (x : List Op) → Val x → IsOfCommand x
of_command x V = record { readings = readings_of V.over; command = V.command; asked = V.asked; made = V.made }

-- ---- the log of a run

module _ (ms : Monitors) (several : 1 < ms.count) (w : World) (H : Holds ms several w) where
  abbrev I : InvOf ms w
  I = (H.0).0

  abbrev O : OfLog ms w w.asked I
  O = (H.0).1

  -- the value that its last entry encodes is that of a command
  record IsLast (x : List Op) : Type 0 where
    version : IsVersion w.log (length w.log) x
    fine : Val x

  last_fine : 0 < length w.log → IsLast (last_value w.log)
  last_fine some = by (length w.log) refl
    where
      by : (c : ℕ) → length w.log ≡ c → IsLast (last_value w.log)
      by zero e = absurd (omega arith)
      by (suc l) e =
          let x = entry_value ms several w H l (omega arith) in
          let V : Val x.0 = x.2 in
          let r : IsVersion w.log (suc l) x.0 = read_version w.log O.short O.values l (omega arith) x.0 (ap (λ (b : List ℕ). transaction_in (Some b)) x.1 ∙ V.reads) in
          let k : IsVersion w.log (length w.log) x.0 = subst (λ (z : ℕ). IsVersion w.log z x.0) (sym e) r in
          subst IsLast (sym k.reads) (record { version = k; fine = V })

  pub last_encoded : 0 < length w.log → entry w.log (length w.log) ≡ text (last_value w.log)
  last_encoded some = let k = last_fine some in let v = k.version in v.encodes

  pub last_made : 0 < length w.log → IsOfCommand (last_value w.log) × (length (text (last_value w.log)) ≤ most_value)
  last_made some = let k = last_fine some in let V = k.fine in (of_command (last_value w.log) V, V.short)

  -- ---- a monitor that has its last version, or accepted a value for it last

  module _ (i : ℕ) (lt : i < ms.count) (unmarked : (readings_at w i).marked ≡ false) (near : HasOrAccepted (length w.log) (readings_at w i)) where
    has_it : (readings_at w i).last ≡ length w.log → 0 < length w.log → record_at (readings_at w i).record_of (length w.log) ≡ Some (last_value w.log)
    has_it last some = by (length w.log) refl
      where
        by : (c : ℕ) → length w.log ≡ c → record_at (readings_at w i).record_of (length w.log) ≡ Some (last_value w.log)
        by zero e = absurd (omega arith)
        by (suc l) e =
            let k = last_fine some in
            let cell = subst (λ (z : ℕ). (readings_at w i).record_of z ≡ Some (entry w.log z)) (sym e) (last_cell ms several w H i lt unmarked l (last ∙ e)) in
            at_cell (readings_at w i).record_of (length w.log) (entry w.log (length w.log)) (last_value w.log) cell (last_encoded some) k.fine

    -- that value is pending
    pends : (readings_at w i).pending_v ≡ suc (readings_at w i).last → is_some (pending (readings_at w i)) ≡ true
    pends next =
        let D = (I.mine i).disk in
        let K = D.kept in
        let V = K.vote unmarked next in
        ap is_some (pending_is I.g.accepts i (readings_at w i).pending_v (readings_at w i).pending_pn (readings_at w i).last (readings_at w i).record_of next V (I.glob.triples.fine i (suc (readings_at w i).last) (readings_at w i).pending_pn V.x V.was))

    pub stocked : IsStocked (length w.log) (last_value w.log) (readings_at w i)
    stocked = record {
      near = elim near [ inl e ↦ inl (e, has_it e) | inr k ↦ inr (k.0, k.1, pends (k.1 ∙ sym k.0)) ];
      low = low_of ms several w H i lt unmarked;
      made = λ f is. of_command f.value (subst (λ (o : Option Found). IfSome o (λ g. Val g.value)) is
          (pending_fine (readings_at w i).record_of (I.mine i).fine.records (readings_at w i).pending_v (readings_at w i).pending_pn (readings_at w i).last));
    }

    pub learns : CanLearn (length w.log) (last_value w.log) (readings_at w i)
    learns lacks =
        let some : 0 < length w.log = omega arith in
        let k = last_fine some in
        let v = subst (λ (z : ℕ). IsVersion w.log z (last_value w.log)) (sym lacks) k.version in
        let next = learned_cell ms several w H i lt unmarked (readings_at w i).last refl (last_value w.log) v (omega arith) in
        let cell = subst (λ (z : ℕ). (play (Learn z (last_value w.log)) (readings_at w i)).record_of z ≡ Some (entry w.log z)) lacks next in
        at_cell (play (Learn (length w.log) (last_value w.log)) (readings_at w i)).record_of (length w.log) (entry w.log (length w.log)) (last_value w.log) cell (last_encoded some) k.fine

-- ---- a quorum that is led

module _ (ms : Monitors) (q : List Bool) (pace : Pace) (reign : Reign) (r : Round) (t : Timed) (R : Reached ms t.world) (S : Steady ms q pace reign r t) where
  abbrev many : 1 < ms.count
  many = several ms q pace reign r t R S

  abbrev holds : Holds ms many t.world
  holds = near_holds ms q pace reign r t R S

  version_is : length t.world.log ≡ r.version
  version_is = (log_and_mark ms q pace reign r t R S).0

  pub led_made : 0 < r.version → IsOfCommand (last_value t.world.log) × (length (text (last_value t.world.log)) ≤ most_value)
  led_made some = last_made ms many t.world holds (let e = version_is in omega arith)

  module _ (i : ℕ) (qi : has q i ≡ true) where
    unmarked : (readings_at t.world i).marked ≡ false
    unmarked = elim (cases_eq i reign.leader) [
      | inl same ↦ subst (λ (k : ℕ). (readings_at t.world k).marked ≡ false) (sym same) (log_and_mark ms q pace reign r t R S).1
      | inr ne ↦ peon_unmarked ms q pace reign r t R S i qi ne
    ]

    near : HasOrAccepted (length t.world.log) (readings_at t.world i)
    near = subst (λ (v : ℕ). HasOrAccepted v (readings_at t.world i)) (sym version_is) (elim (cases_eq i reign.leader) [
      | inl same ↦ inl (ap (λ (k : ℕ). (readings_at t.world k).last) same ∙ S.last)
      | inr ne ↦ peon_last ms q pace reign r t R S i qi ne
    ])

    pub led_stocked : IsStocked r.version (last_value t.world.log) (readings_of (t.world.store i))
    led_stocked = subst (λ (v : ℕ). IsStocked v (last_value t.world.log) (readings_at t.world i)) version_is (stocked ms many t.world holds i (S.members i qi) unmarked near)

    pub led_learns : CanLearn r.version (last_value t.world.log) (readings_of (t.world.store i))
    led_learns = subst (λ (v : ℕ). CanLearn v (last_value t.world.log) (readings_at t.world i)) version_is (learns ms many t.world holds i (S.members i qi) unmarked near)
