-- What a start writes and does first.
use Rattle.std.proofs.Common.{◌≡◌, ℕ, suc, ◌≤◌, ◌<◌, ◌^◌, Bool, true, false, not, List, [], ◌∷◌, ◌++◌, is_some, Err, refl, sym, ap, ◌∙◌, append-nil, arith}
use Rattle.std.proofs.lemmas.Bool.{le-leb, lt-leb}
use Rattle.std.specs.List.{AllByRecursion}
use Rattle.mon_msg.specs.Protocol.Changes.{Boot, Epoch, encoded}
use Rattle.mon_msg.specs.Protocol.Course.{Course, ◌▸◌, change, change_if, change_all, elector_is, arm_if}
use Rattle.mon_msg.specs.Protocol.Entering.{bootstrap, scores_count}
use Rattle.mon_msg.specs.Protocol.Played.{Fits}
use Rattle.mon_msg.specs.Protocol.Readings.{Readings}
use Rattle.mon_msg.specs.Protocol.State.{State}
use Rattle.mon_msg.specs.Protocol.Table.{at_rest, first_elector, start}
use Rattle.mon_msg.specs.declared.view.Me.{Me}
use Rattle.mon_types.specs.declared.names.Which.TheVariants as which
use Rattle.mon_wire.specs.declared.phase.Timer.TheVariants as timer
use Rattle.mon_tx.specs.Map.{Store}
use Rattle.mon_tx.specs.declared.op.Op.{Op}
use Rattle.mon_plan.proofs.Planning.{changes-append, changed-is}
use Rattle.mon_core.specs.Acts.{KeepsAll}
use Rattle.mon_core.specs.Rows.{first_changes, started}
use Rattle.mon_core.proofs.Leaving.{keeps_boot, keeps_first}

pub first_fit : (boot : ℕ) (b : Bool) → boot ≤ 2 ^ 62 → AllByRecursion Fits (first_changes boot b)
first_fit boot true short = (short, tt)
first_fit boot false short = (short, (omega arith, tt))

-- as the protocol has it, change by change
first_changed : (boot : ℕ) (b : Bool) (x : Course) → change_if (not b) (Epoch 1) (change (Boot boot) x) ≡ change_all (first_changes boot b) x
first_changed boot true x = λ i. record (change (Boot boot) x) { changes = append-nil (x.changes ++ Boot boot ∷ []) i }
first_changed boot false x = sym (changes-append (Boot boot ∷ []) (Epoch 1 ∷ []) x)

pub first_keeps : (m : Store) (tx : List Op) (boot : ℕ) (b : Bool) → boot ≤ 2 ^ 62 → tx ≡ encoded (first_changes boot b) → KeepsAll m tx
first_keeps m tx boot true short is = keeps_boot m tx boot short is
first_keeps m tx boot false short is = keeps_first m tx boot short is

module _ (me : Me) (now : ℕ) (w : Readings) (s : State) where
  pub starts : (boot : ℕ) → boot ≡ suc w.boot → boot ≤ 2 ^ 62
      → start me now (at_rest w s) ≡ bootstrap me now (started me now boot (is_some w.epoch) s.elector (at_rest w s))
  unfolding start
  starts boot is short =
      rw (← is) (
      rw (le-leb boot (2 ^ 62) short)
      (ap (λ (y : Course). y ▸ elector_is (first_elector me now boot s.elector) ▸ arm_if (scores_count me.rule) now timer.Ping ▸ bootstrap me now)
      (first_changed boot (is_some w.epoch) (at_rest w s) ∙ sym (changed-is (first_changes boot (is_some w.epoch)) (at_rest w s)))))

  pub spent : 2 ^ 62 < suc w.boot → start me now (at_rest w s) ≡ Err which.Boot
  unfolding start
  spent past = rw (lt-leb (suc w.boot) (2 ^ 62) past) refl
