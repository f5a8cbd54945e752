-- One of two disks at rest has an injected fault.
use Rattle.std.proofs.Common.{◌≡◌, ℕ, ◌≤◌, List, Some, sym, ap, ◌∙◌, subst}
use Rattle.mon_types.specs.declared.member.Member.{Member}
use Rattle.mon_types.specs.declared.names.Side.TheVariants.{A, B}
use Rattle.mon_disk.specs.Images.{images, Only, LeavesOnly}
use Rattle.mon_disk.specs.Memory.{seen_of}
use Rattle.mon_disk.specs.MemoryDisk.{MemoryState, observed_of, injected_by}
use Rattle.mon_disk.proofs.Following.{now}
use Rattle.mon_tx.specs.Map.{Store}
use Rattle.quorum_model.specs.Files.{Files}
use Rattle.mon_site.specs.Disks.{IsCalm, content, files_in}
use Rattle.mon_site.specs.Faults.{OpensMap, IsReady, Rests}
use Rattle.mon_site.specs.InjectedFault.{IsInjected}

module _ (old new : MemoryState) (call image : ℕ) (calm : IsCalm old) (is : new ≡ injected_by call image old) (seen : seen_of new.life ≡ seen_of old.life) (leaves : LeavesOnly (content old) (content new) (images (content old))) where
  is_upset : 1 ≤ call → image ≤ 3 → IsInjected call image new
  is_upset first most = record {
    like = old.life;
    observed = ap (λ (d : MemoryState). observed_of d.life) is;
    seen = ap (λ (d : MemoryState). seen_of d.life) (sym is);
    first = first;
    most = most;
  }

  still_only : Only (content new)
  still_only c left = ap (λ (l : List ℕ). Some l) seen ∙ calm.only c (now (content old) (content new) (images (content old)) leaves c left)

module _ (member : Member) (m : Store) (f : Files) (a b : MemoryState) (call image : ℕ) (rests : Rests member m f a b) (first : 1 ≤ call) (most : image ≤ 3) where
  pub ready_a : (new : MemoryState) → new ≡ injected_by call image a → seen_of new.life ≡ seen_of a.life → LeavesOnly (content a) (content new) (images (content a)) → IsReady A call image member m f new b
  ready_a new is seen leaves = record {
    upset = is_upset a new call image rests.calm_a is seen leaves first most;
    calm = rests.calm_b.calm;
    only_a = still_only a new call image rests.calm_a is seen leaves;
    only_b = rests.calm_b.only;
    opens = subst (λ (l : List ℕ). OpensMap member m l (seen_of b.life)) (sym seen) rests.opens;
    files = ap (λ (l : List ℕ). files_in l (seen_of b.life)) seen ∙ rests.files;
  }

  pub ready_b : (new : MemoryState) → new ≡ injected_by call image b → seen_of new.life ≡ seen_of b.life → LeavesOnly (content b) (content new) (images (content b)) → IsReady B call image member m f a new
  ready_b new is seen leaves = record {
    upset = is_upset b new call image rests.calm_b is seen leaves first most;
    calm = rests.calm_a.calm;
    only_a = rests.calm_a.only;
    only_b = still_only b new call image rests.calm_b is seen leaves;
    opens = subst (λ (l : List ℕ). OpensMap member m (seen_of a.life) l) (sym seen) rests.opens;
    files = ap (λ (l : List ℕ). files_in (seen_of a.life) l) seen ∙ rests.files;
  }
