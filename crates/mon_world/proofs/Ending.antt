-- What a monitor's event ends with over a store of which a disk fails.
use Rattle.std.proofs.Common.{◌≡◌, ℕ, Bool, true, false, List, Result, Ok, Err, refl, ap, subst, ◌∙◌}
use Rattle.std.specs.Bool.{then_some}
use Rattle.std.specs.Prelude.{if◌then◌else◌}
use Rattle.mon_disk.specs.MemoryDisk.{MemoryState}
use Rattle.mon_msg.specs.Protocol.Reaction.{Reaction, reaction}
use Rattle.mon_msg.specs.Protocol.State.{State}
use Rattle.mon_msg.specs.declared.input.Input.{Input}
use Rattle.mon_msg.specs.declared.view.Me.{Me}
use Rattle.mon_site.specs.Ending.{Writes}
use Rattle.mon_site.specs.Faults.{Rests, Settles}
use Rattle.mon_site.specs.declared.injected.InjectedFault.{InjectedFault}
use Rattle.mon_tx.specs.Map.{Store, apply}
use Rattle.mon_tx.specs.declared.op.Op.{Op}
use Rattle.mon_types.specs.declared.member.Member.{Member}
use Rattle.quorum_model.specs.Cuts.{append_cut}
use Rattle.quorum_model.specs.Files.{Files}
use Rattle.mon_world.specs.declared.crash.Remains.{Remains}
use Rattle.mon_world.specs.declared.crash.Written.{Written}
use Rattle.mon_world.specs.declared.stop.WorldStop.{WorldStop}
use Rattle.mon_world.specs.Crashes.{Ends, EndsWith, Settled, written, written_if}
use Rattle.mon_world.specs.Monitor.{does}
use Rattle.mon_world.proofs.Reacting.{not_kept}

then_some_is : (kept : Bool) (m : Store) → then_some kept (written m) ≡ written_if kept m
then_some_is true m = refl
then_some_is false m = refl

-- its disks settle
pub settled : (u : InjectedFault) (member : Member) (m : Store) (f : Files) (ops : List Op) (a b : MemoryState) (kept : Bool) (w : Written) (remains : Remains)
    → Writes u member m f ops a b (Ok kept) → w ≡ written (apply ops m) → remains.kept ≡ then_some kept w
    → ((n : Store) (g : Files) → Settles member n g a b → Rests member n g remains.disks.a remains.disks.b) → Settled u member m f ops remains
settled u member m f ops a b kept w remains x is some rests = record {
  room = x.1;
  kept = some ∙ (ap (then_some kept) is ∙ (then_some_is kept (apply ops m) ∙ ap (λ (k : Bool). written_if k (apply ops m)) x.0));
  rests =
      subst (λ (k : Bool). Rests member (if k then apply ops m else m) (append_cut f m u.disk u.call u.image ops) remains.disks.a remains.disks.b) x.0
      (rests (if kept then apply ops m else m) (append_cut f m u.disk u.call u.image ops) x.2);
}

-- what its reaction writes is kept or lost, or stops the run as it should
pub ends : (me : Me) (now : ℕ) (m : Store) (s : State) (came : Input) (u : InjectedFault) (member : Member) (f : Files) (r : Reaction) (result : Result Remains WorldStop)
    → reaction me now m s came ≡ Ok r → EndsWith u member m f r.transaction result → Ends u member m f (reaction me now m s came) result
unfolding does
ends me now m s came u member f r (Ok remains) is h = (r, is, h)
ends me now m s came u member f r (Err e) is h = not_kept me now m s came r e is h
