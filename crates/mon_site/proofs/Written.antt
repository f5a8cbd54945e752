-- What an event in which a disk fails has written at its end.
use Rattle.std.proofs.Common.{◌≡◌, ◌≤◌, Bool, true, false, nat_lt, nat_le, List, Ok, refl, sym, ap, ◌∙◌, subst}
use Rattle.std.specs.Prelude.{◌==◌, ◌&&◌, ◌||◌, not, if◌then◌else◌}
use Rattle.mon_types.specs.declared.member.Member.{Member}
use Rattle.mon_disk.specs.MemoryDisk.{MemoryState}
use Rattle.mon_tx.specs.declared.op.Op.{Op}
use Rattle.mon_tx.specs.Map.{Store, apply}
use Rattle.mon_kv.specs.Readers.{size_of, most_size}
use Rattle.mon_msg.specs.Protocol.Sets.{is_empty}
use Rattle.quorum_model.specs.Cuts.{after_checkpoint, checkpoint_begun, append_cut}
use Rattle.quorum_model.specs.Files.{Files, after_append}
use Rattle.quorum_model.specs.InjectedFaults.{opens_gate}
use Rattle.mon_site.specs.declared.injected.InjectedFault.{InjectedFault}
use Rattle.mon_store.specs.declared.stop.StoreStop.{StoreStop}
use Rattle.mon_store.specs.declared.stop.StoreStop.TheVariants as stop
use Rattle.mon_site.specs.Ending.{StopsAt, IsMemory, Writes, on_live, is_beyond}
use Rattle.mon_site.specs.Faults.{Settles}

module _ (u : InjectedFault) (member : Member) (m : Store) (f : Files) (ops : List Op) (a b : MemoryState) (small : size_of (apply ops m) ≤ most_size) where
  kept_by : (x empty late : Bool) → (x && not (late || empty)) ≡ false → (if empty then true else if x then (late || (nat_le 3 u.call && u.image == 1)) else true) ≡ true
  kept_by x true late uncut = refl
  kept_by false false late uncut = refl
  kept_by true false true uncut = refl
  kept_by true false false uncut = absurd cc

  files_by : (x y : Bool) → (x && not y) ≡ false → (if x then after_checkpoint (apply ops m) (after_append ops f) else checkpoint_begun u.call u.image (apply ops m) (after_append ops f))
      ≡ (if x then (if y then after_checkpoint (apply ops m) (after_append ops f) else (if opens_gate 3 u.call u.image then after_append ops f else f)) else checkpoint_begun u.call u.image (apply ops m) (after_append ops f))
  files_by false y uncut = refl
  files_by true true uncut = refl
  files_by true false uncut = absurd cc

  pub wrote_all : (on_live u f && not (is_beyond u ops)) ≡ false
      → Settles member (apply ops m) (if on_live u f then after_checkpoint (apply ops m) (after_append ops f) else checkpoint_begun u.call u.image (apply ops m) (after_append ops f)) a b
      → Writes u member m f ops a b (Ok true)
  wrote_all uncut settles =
      (sym (kept_by (on_live u f) (is_empty ops) (nat_lt 4 u.call) uncut), small, subst (λ (g : Files). Settles member (apply ops m) g a b) (files_by (on_live u f) (is_beyond u ops) uncut) settles)

  not_empty : (late empty : Bool) → (late || empty) ≡ false → empty ≡ false
  not_empty true empty e = absurd cc
  not_empty false empty e = e

  cut_files : append_cut f m u.disk u.call u.image ops ≡ (if on_live u f then (if is_beyond u ops then after_checkpoint (apply ops m) (after_append ops f) else (if opens_gate 3 u.call u.image then after_append ops f else f)) else checkpoint_begun u.call u.image (apply ops m) (after_append ops f))
  cut_files = refl

  pub wrote_part : (kept : Bool) → on_live u f ≡ true → is_beyond u ops ≡ false → kept ≡ opens_gate 3 u.call u.image
      → Settles member (if kept then apply ops m else m) (if kept then after_append ops f else f) a b → Writes u member m f ops a b (Ok kept)
  wrote_part kept live short is settles =
      let some : is_empty ops ≡ false = not_empty (nat_lt 4 u.call) (is_empty ops) short in
      let files : append_cut f m u.disk u.call u.image ops ≡ (if kept then after_append ops f else f) =
      cut_files
      ∙ ap (λ (x : Bool). if x then (if is_beyond u ops then after_checkpoint (apply ops m) (after_append ops f) else (if opens_gate 3 u.call u.image then after_append ops f else f)) else checkpoint_begun u.call u.image (apply ops m) (after_append ops f)) live
      ∙ ap (λ (y : Bool). if y then after_checkpoint (apply ops m) (after_append ops f) else (if opens_gate 3 u.call u.image then after_append ops f else f)) short
      ∙ ap (λ (k : Bool). if k then after_append ops f else f) (sym is) in (
        is ∙ sym (ap (λ (e : Bool). if e then true else if on_live u f then opens_gate 3 u.call u.image else true) some ∙ ap (λ (x : Bool). if x then opens_gate 3 u.call u.image else true) live),
        small,
        subst (λ (g : Files). Settles member (if kept then apply ops m else m) g a b) (sym files) settles,
      )

-- running out of memory stops a transaction too
pub memory_stops : (m : Store) (ops : List Op) (e : StoreStop) → IsMemory e → StopsAt m ops e
memory_stops m ops stop.Broken h = absurd h
memory_stops m ops (stop.TooLong len) h = absurd h
memory_stops m ops (stop.Full would_be) h = absurd h
memory_stops m ops stop.DiskFault h = absurd h
memory_stops m ops stop.OutOfMemory h = tt
