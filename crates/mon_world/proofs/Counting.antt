-- The call from which those of a failing disk are counted, and what remains if it fails.
use Rattle.std.proofs.Common.{◌≡◌, ℕ, ◌-◌, ◌≤◌, ◌<◌, false, Option, Some, None, Result, Ok, refl, sym, ap, subst, ◌∙◌, arith}
use Rattle.mon_disk.specs.MemoryDisk.{MemoryState}
use Rattle.mon_msg.specs.Protocol.Reaction.{Reaction}
use Rattle.mon_msg.specs.declared.input.Input.{Input}
use Rattle.mon_msg.specs.declared.input.Input.TheVariants as input
use Rattle.mon_site.specs.Begins.{Begins}
use Rattle.mon_site.specs.Faults.{HasFault, Rests}
use Rattle.mon_site.specs.declared.opening.Begun.TheVariants.{Open}
use Rattle.mon_site.specs.declared.injected.InjectedFault.{InjectedFault}
use Rattle.mon_store.specs.declared.store.Store as kept
use Rattle.mon_tx.specs.Map.{Store}
use Rattle.mon_types.specs.declared.member.Member.{Member}
use Rattle.mon_types.specs.declared.names.Side.{Side}
use Rattle.mon_types.specs.declared.names.Side.TheVariants.{A, B}
use Rattle.mon_types.specs.declared.names.Which.{Which}
use Rattle.quorum_model.specs.declared.calls.TheConstants.{FIRST_OPENING}
use Rattle.quorum_model.specs.Cuts.{opening_cut}
use Rattle.quorum_model.specs.Files.{File, Files, after_opening}
use Rattle.quorum_model.specs.InjectedFaults.{opening_count, writes_nothing}
use Rattle.mon_world.specs.declared.crash.Remains.{Remains}
use Rattle.mon_world.specs.declared.stop.WorldStop.{WorldStop}
use Rattle.mon_world.specs.Crashes.{Ends, Crashes, IsRemains, counted}
use Rattle.mon_world.proofs.Deciding.{behind, counted_behind, ended, failed, fails_at_start}

few_by_files : (side : Side) (a b : Option File) → opening_count side (record { a = a; b = b }) ≤ FIRST_OPENING
few_by_files A None None = omega arith
few_by_files A None (Some b) = omega arith
few_by_files A (Some a) b = omega arith
few_by_files B None None = omega arith
few_by_files B (Some a) None = omega arith
few_by_files B None (Some b) = omega arith
few_by_files B (Some a) (Some b) = omega arith

-- opening makes the most calls of a disk if it creates a store there
pub few_calls : (side : Side) (f : Files) → opening_count side f ≤ FIRST_OPENING
few_calls side f = few_by_files side f.a f.b

-- ---- what counting leaves as it was

pub first_counted : (u : InjectedFault) (came : Input) (n : ℕ) → 1 ≤ u.call → 1 ≤ (counted u came n).call
first_counted u input.Start n first = first
first_counted u (input.Deliver m) n first = omega arith
first_counted u (input.Timer t) n first = omega arith
first_counted u (input.Client session r) n first = omega arith

pub image_counted : (u : InjectedFault) (came : Input) (n : ℕ) → (counted u came n).image ≡ u.image
image_counted u input.Start n = refl
image_counted u (input.Deliver m) n = refl
image_counted u (input.Timer t) n = refl
image_counted u (input.Client session r) n = refl

disk_counted : (u : InjectedFault) (came : Input) (n : ℕ) → (counted u came n).disk ≡ u.disk
disk_counted u input.Start n = refl
disk_counted u (input.Deliver m) n = refl
disk_counted u (input.Timer t) n = refl
disk_counted u (input.Client session r) n = refl

-- ---- what remains, if the disk fails during the opening or after it

module _ (u : InjectedFault) (member : Member) (m : Store) (f : Files) (came : Input) (n : ℕ) (is : n ≡ opening_count u.disk f) (from : InjectedFault) (counts : from ≡ counted u came n) where
  same_disk : from.disk ≡ u.disk
  same_disk = ap (λ (v : InjectedFault). v.disk) counts ∙ disk_counted u came n

  same_count : opening_count from.disk f ≡ opening_count u.disk f
  same_count = ap (λ (side : Side). opening_count side f) same_disk

  same_call : from.call ≡ (counted u came n).call
  same_call = ap (λ (v : InjectedFault). v.call) counts

  -- the opening's calls come first
  pub opens_first : opening_count from.disk f < from.call → n ≤ from.call
  opens_first late = let e : n ≡ opening_count from.disk f = is ∙ sym same_count in omega arith

  -- a store that is open stops after them
  pub opens_faulty : (store : kept.Store MemoryState) → Begins from member m f (Ok (Open store)) → HasFault from.disk (from.call - n) from.image member m (after_opening f) store
  opens_faulty store h = subst (λ (k : ℕ). HasFault from.disk (from.call - k) from.image member m (after_opening f) store) (sym (is ∙ sym same_count)) h.1

  module _ (first : 1 ≤ u.call) where
    pub ended_so : (r : Result Reaction Which) (result : Result Remains WorldStop) → opening_count from.disk f < from.call → Ends (behind from n) member m (after_opening f) r result → Crashes u member m f came r result
    ended_so r result late h =
        let later : opening_count u.disk f < (counted u came n).call = omega (arith, late, same_count, same_call) in
        let b = counted_behind u f came n first is later in
        ended u member m f came b.later r result
        (subst (λ (v : InjectedFault). Ends v member m (after_opening f) r result) (ap (λ (v : InjectedFault). behind v n) counts ∙ b.same) h)

    -- a start that fails at opening loses what it would write
    pub failed_so : (r : Result Reaction Which) (remains : Remains) → (came ≡ input.Start → writes_nothing r ≡ false) → from.call ≤ opening_count from.disk f
        → remains.kept ≡ None → Rests member m (opening_cut f from.disk from.call from.image) remains.disks.a remains.disks.b → IsRemains u member m f came r remains
    failed_so r remains writes early none rests =
        let sooner : (counted u came n).call ≤ opening_count u.disk f = omega (arith, early, same_count, same_call) in
        let s = fails_at_start u f came n first is sooner in
        let same : from ≡ u = counts ∙ ap (λ (came : Input). counted u came n) s.start in
        subst (λ (came : Input). IsRemains u member m f came r remains) (sym s.start)
        (failed u member m f r remains s.early (writes s.start) none
        (subst (λ (v : InjectedFault). Rests member m (opening_cut f v.disk v.call v.image) remains.disks.a remains.disks.b) same rests))
