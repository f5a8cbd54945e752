-- What can be seen of a disk in memory after a call, by its result.
use Rattle.std.proofs.Common.{◌≡◌, inl, inr, ℕ, List, [], ◌∷◌, Option, Some, None, refl, ap, ◌∙◌, sym}
use Rattle.mon_types.specs.declared.names.Stop.{Stop}
use Rattle.mon_types.specs.declared.names.Stop.TheVariants.{Failed, OutOfMemory}
use Rattle.mon_disk.specs.declared.disk.DiskCall.TheVariants.{Write, Sync}
use Rattle.mon_disk.specs.Images.{images, TornFrom, Only}
use Rattle.mon_disk.specs.Calls.{Called, Unmade}
use Rattle.mon_disk.specs.Memory.{seen_of}
use Rattle.mon_disk.specs.MemoryDisk.{MemoryState, and_call, content_of, state_of, after_call, IsFor}
use Rattle.mon_disk.proofs.Writes.{torn_not}
use Rattle.mon_disk.proofs.Lives.{seen_synced, sync_only}
use Rattle.mon_disk.proofs.Contents.{leaves_now, write_goes, sync_goes}
use Rattle.mon_disk.proofs.Following.{still}

-- out of memory
pub unmade : (d : MemoryState) → Unmade (state_of d) (state_of (after_call Sync (Some OutOfMemory) d))
unmade d = record { seen = refl; any_time = still (content_of d.past d.life) (images (content_of d.past d.life)) (λ c left. left); known = refl; observed = refl; refusals = refl }

pub write_called : (d : MemoryState) (at : ℕ) (bytes : List ℕ) (stop : Option Stop) → IsFor stop d.life
    → Called (Write at bytes ∷ []) (TornFrom (content_of d.past d.life) at bytes) stop (state_of d) (state_of (after_call (Write at bytes) stop d))
write_called d at bytes None right =
    record { visible = refl; any_time = write_goes d.past d.life at bytes; made = inr (inr (right, (refl, λ is. absurd cc))); faults = refl; refusals = refl }
write_called d at bytes (Some Failed) right =
    record { visible = refl; any_time = write_goes d.past d.life at bytes; made = inr (inl (refl, refl, right)); faults = refl; refusals = refl }
write_called d at bytes (Some OutOfMemory) right = record {
  visible = refl;
  any_time = still (content_of d.past d.life) (TornFrom (content_of d.past d.life) at bytes) (λ c left. (c, left, torn_not at bytes c));
  made = inl (refl, refl);
  faults = refl;
  refusals = inr refl;
}

pub sync_called : (d : MemoryState) (stop : Option Stop) → IsFor stop d.life → Called (Sync ∷ []) (images (content_of d.past d.life)) stop (state_of d) (state_of (after_call Sync stop d))
sync_called d None right =
    record { visible = refl; any_time = sync_goes d.past d.life; made = inr (inr (right, (refl, λ is. absurd cc))); faults = refl; refusals = refl }
sync_called d (Some Failed) right =
    record { visible = refl; any_time = sync_goes d.past d.life; made = inr (inl (refl, refl, right)); faults = refl; refusals = refl }
sync_called d (Some OutOfMemory) right = record {
  visible = refl;
  any_time = still (content_of d.past d.life) (images (content_of d.past d.life)) (λ c left. left);
  made = inl (refl, refl);
  faults = refl;
  refusals = inr refl;
}

pub sync_durable : (d : MemoryState) → IsFor None d.life → Only (content_of d.past (and_call Sync d.life))
sync_durable d right c left =
    let is : c ≡ seen_of d.life = sync_only d.life c right (leaves_now d.past (and_call Sync d.life) c left) in
    ap Some (seen_synced d.life right ∙ sym is)
