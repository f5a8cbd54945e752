-- Two disks at rest, before and after a read; and which of them are open.
use Rattle.std.proofs.Common.{◌≡◌, ℕ, ◌≤◌, ◌<◌, Bool, true, false, List, [], ◌∷◌, length, take, Option, Some, None, is_some, Ok, refl, sym, ap, ◌∙◌, subst, arith}
use Rattle.std.specs.Prelude.{◌==◌, not}
use Rattle.std.specs.FinMap.{empty}
use Rattle.mon_types.specs.declared.member.Member.{Member}
use Rattle.mon_types.specs.declared.names.Side.TheVariants.{A}
use Rattle.mon_types.specs.declared.names.Stop.{Stop}
use Rattle.mon_disk.specs.Calls.{Called}
use Rattle.mon_disk.specs.Images.{images}
use Rattle.mon_disk.specs.Memory.{begins_with, from_of, seen_of}
use Rattle.mon_disk.specs.MemoryDisk.{MemoryState, observed_of, state_of}
use Rattle.mon_disk.proofs.Contents.{settled_only}
use Rattle.mon_disk.proofs.Following.{now}
use Rattle.mon_tx.specs.Map.{Store}
use Rattle.mon_journal.specs.Content.{is_closed}
use Rattle.mon_journal.specs.Content as journal
use Rattle.mon_journal.specs.Written.{owner_of, created}
use Rattle.mon_journal.proofs.Finds as finds
use Rattle.mon_store.specs.Pair.{Create, found}
use Rattle.quorum_model.specs.Files.{Files, no_files}
use Rattle.mon_site.specs.Calm.{IsRead}
use Rattle.mon_site.specs.Disks.{content, files_in}
use Rattle.mon_site.specs.Faults.{OpensMap, Rests}
use Rattle.mon_site.proofs.Found.{has_a, has_b}
use Rattle.mon_site.proofs.Opened.{place_of, new_opens}
use Rattle.mon_site.proofs.Openings.{unfailing}
use Rattle.mon_site.proofs.Remaining.{none_stands}

-- ---- empty disks

new_found : found [] [] ≡ Ok Create
unfolding found journal.content
new_found = refl

new_files : files_in [] [] ≡ no_files
unfolding journal.content
new_files = refl

abbrev pub empty_disk : MemoryState
empty_disk = record { past = []; life = begins_with []; known = 0; faults = 0; refusals = 0 }

pub empty_rests : (member : Member) → Rests member empty no_files empty_disk empty_disk
empty_rests member = record {
  calm_a = record { calm = refl; only = settled_only [] [] };
  calm_b = record { calm = refl; only = settled_only [] [] };
  opens = record { store_view = record { side = A; journal = created member 1 None; kv = empty }; opens = new_opens member [] [] new_found; form = refl; map = refl };
  files = new_files;
}

-- ---- reading

pub read : (stop : Option Stop) (old new : MemoryState) → Called [] (images (content old)) stop (state_of old) (state_of new) → (content new).seen ≡ (content old).seen → IsRead old new
read stop old new called seen = record {
  seen = same;
  calm = λ was. record {
    calm = none_stands new.life.upset (unfailing stop [] (observed_of old.life) (observed_of new.life) (ap from_of was.calm) called.made).1;
    only = λ c left. seen ∙ was.only c (now (content old) (content new) (images (content old)) called.any_time c left);
  };
}
  where
    same : seen_of new.life ≡ seen_of old.life
    same = let h : Some (seen_of new.life) ≡ Some (seen_of old.life) = seen in cc

pub unread : (d : MemoryState) → IsRead d d
unread d = record { seen = refl; calm = λ was. was }

pub read_more : (old mid new : MemoryState) → IsRead old mid → IsRead mid new → IsRead old new
read_more old mid new first second = record { seen = second.seen ∙ first.seen; calm = λ was. second.calm (first.calm was) }

pub rest_again : (member : Member) (m : Store) (f : Files) (a b na nb : MemoryState) → IsRead a na → IsRead b nb → Rests member m f a b → Rests member m f na nb
rest_again member m f a b na nb on_a on_b rests = record {
  calm_a = on_a.calm rests.calm_a;
  calm_b = on_b.calm rests.calm_b;
  opens =
      subst (λ (x : List ℕ). OpensMap member m x (seen_of nb.life)) (sym on_a.seen)
      (subst (λ (y : List ℕ). OpensMap member m (seen_of a.life) y) (sym on_b.seen) rests.opens);
  files = ap (λ (x : List ℕ). files_in x (seen_of nb.life)) on_a.seen ∙ ap (λ (y : List ℕ). files_in (seen_of a.life) y) on_b.seen ∙ rests.files;
}

-- ---- whether a disk is open

pub short : (file : List ℕ) → length file < 2 → is_closed file ≡ true
short [] h = refl
short (gate ∷ []) h = refl
short (gate ∷ byte ∷ bytes) h = absurd (omega (arith, h))

twice : (b : Bool) → b ≡ not (not b)
twice true = refl
twice false = refl

pub by_gate : (byte : ℕ) (file : List ℕ) → 2 ≤ length file → byte ∷ [] ≡ take 1 file → (byte == 1) ≡ not (is_closed file)
by_gate byte [] long is = absurd (omega (arith, long))
by_gate byte (gate ∷ []) long is = absurd (omega (arith, long))
by_gate byte (gate ∷ next ∷ bytes) long is = let same : byte ≡ gate = cc in ap (λ n. n == 1) same ∙ twice (gate == 1)

some_by : (file : List ℕ) (closed : Bool) → is_closed file ≡ closed → is_some (journal.content file) ≡ not closed
some_by file true is = ap is_some (finds.is_none file is)
some_by file false is = ap is_some (finds.is_some file is)

-- which of two have a file
module _ (member : Member) (m : Store) (f : Files) (a b : MemoryState) (rests : Rests member m f a b) where
  pub file_a : is_some f.a ≡ not (is_closed (seen_of a.life))
  file_a =
      let p = place_of member (seen_of a.life) (seen_of b.life) rests.opens.store_view rests.opens.opens in
      ap (λ (g : Files). is_some g.a) (sym rests.files) ∙ has_a (owner_of member) (seen_of a.life) (seen_of b.life) p.0 p.1 ∙ some_by (seen_of a.life) (is_closed (seen_of a.life)) refl

  pub file_b : is_some f.b ≡ not (is_closed (seen_of b.life))
  file_b =
      let p = place_of member (seen_of a.life) (seen_of b.life) rests.opens.store_view rests.opens.opens in
      ap (λ (g : Files). is_some g.b) (sym rests.files) ∙ has_b (owner_of member) (seen_of a.life) (seen_of b.life) p.0 p.1 ∙ some_by (seen_of b.life) (is_closed (seen_of b.life)) refl
