-- What a crash may at least leave of a disk in memory.
use Rattle.std.proofs.Common.{true, false, ◌≡◌, ℕ, ◌+◌, ◌≤◌, List, [], ◌∷◌, ◌++◌, length, reverse, Option, Some, None, refl, sym, ap, ◌∙◌, subst, arith}
use Rattle.mon_types.specs.declared.names.Stop.TheVariants.{Failed}
use Rattle.mon_disk.specs.declared.disk.DiskCall.{DiskCall}
use Rattle.mon_disk.specs.declared.disk.DiskCall.TheVariants.{Write, Sync}
use Rattle.mon_disk.specs.Images.{images, Torn}
use Rattle.mon_disk.specs.Memory.{InjectedFault, begins_with, from_of, first_write, lost_of, done_of, done, begun, LeftAfter, seen_of, settled}
use Rattle.mon_disk.specs.MemoryDisk.{MemoryState, and_call, state_of, fails, after_call, injected_life, injected_by, settle_of}
use Rattle.mon_disk.proofs.Lives.{Cut, begun_done, begun_sound, done_failed, lost_write, seen_left, seen_synced}
use Rattle.mon_disk.proofs.InjectedFaults.{all_begun}
use Rattle.mon_disk.proofs.Contents.{leaves_now, left_now}

pub written_below : (d : MemoryState) (at : ℕ) (bytes c e : List ℕ) → fails d.life ≡ false → images (state_of d).content c → Torn at bytes c e → images (state_of (after_call (Write at bytes) None d)).content e
written_below d at bytes c e sound left torn =
    let call = Write at bytes in
    let before : LeftAfter d.life.first (done d.life) c = subst (λ (cs : List DiskCall). LeftAfter d.life.first cs c) (begun_sound d.life sound) (leaves_now d.past d.life c left) in
    left_now d.past (and_call call d.life) e (subst (λ (cs : List DiskCall). LeftAfter d.life.first cs e) (sym (begun_done d.life call sound)) (c, before, torn))

pub failed_below : (d : MemoryState) (at : ℕ) (bytes c e : List ℕ) → fails d.life ≡ true → lost_of (from_of d.life.upset) d.life.calls ≡ [] → images (state_of d).content c → Torn at bytes c e
    → images (state_of (after_call (Write at bytes) (Some Failed) d)).content e
failed_below d at bytes c e fails first left torn =
    let call = Write at bytes in
    let none : begun d.life ≡ done d.life = ap (λ (cs : List DiskCall). cs ++ done d.life) first in
    let lost : lost_of (from_of d.life.upset) (d.life.calls ++ call ∷ []) ≡ call ∷ [] =
    lost_write d.life at bytes fails ∙ ap (λ (cs : List DiskCall). first_write (cs ++ call ∷ [])) first in
    let now : begun (and_call call d.life) ≡ call ∷ done d.life =
    ap (λ (cs : List DiskCall). cs ++ done (and_call call d.life)) lost ∙ ap (λ (cs : List DiskCall). call ∷ cs) (done_failed d.life call fails) in
    let before : LeftAfter d.life.first (done d.life) c = subst (λ (cs : List DiskCall). LeftAfter d.life.first cs c) none (leaves_now d.past d.life c left) in
    left_now d.past (and_call call d.life) e (subst (λ (cs : List DiskCall). LeftAfter d.life.first cs e) (sym now) (c, before, torn))

pub synced_below : (d : MemoryState) → fails d.life ≡ false → images (state_of (after_call Sync None d)).content (seen_of d.life)
synced_below d sound =
    let next = and_call Sync d.life in
    left_now d.past next (seen_of d.life) (subst (Cut next) (seen_synced d.life sound) (seen_left next))

pub injected_below : (d : MemoryState) (call image : ℕ) (c : List ℕ) → d.life.upset ≡ None → 1 ≤ call → images (state_of d).content c → images (state_of (injected_by call image d)).content c
injected_below d call image c none some left =
    let life = d.life in
    let u : InjectedFault = record { from = length life.calls + call; image = image } in
    let lost : lost_of (from_of life.upset) life.calls ≡ [] = ap (λ (o : Option InjectedFault). lost_of (from_of o) life.calls) none in
    let sound : begun life ≡ reverse life.calls =
    ap (λ (cs : List DiskCall). cs ++ done life) lost ∙ ap (λ (o : Option InjectedFault). reverse (done_of (from_of o) life.calls)) none in
    let same : begun life ≡ begun (injected_life call image life) = sound ∙ sym (all_begun life.first u life.calls (omega (arith, some))) in
    left_now d.past (injected_life call image life) c (subst (λ (cs : List DiskCall). LeftAfter life.first cs c) same (leaves_now d.past life c left))

pub settled_below : (d : MemoryState) → images (state_of (settle_of d)).content (settled d.life)
settled_below d = left_now (d.past ++ d.life ∷ []) (begins_with (settled d.life)) (settled d.life) refl
