-- Which files two disks have that hold a store, and which of them is live.
use Rattle.std.proofs.Common.{◌≡◌, ℕ, ◌<◌, true, false, nat_lt, List, [], ◌∷◌, Option, Some, None, Result, Ok, Err, refl, ap, ◌∙◌, arith}
use Rattle.std.proofs.lemmas.Bool.Decides.{nat_tests}
use Rattle.mon_types.specs.declared.names.Side.{Side}
use Rattle.mon_types.specs.declared.names.Side.TheVariants.{A, B}
use Rattle.mon_disk.specs.Memory.{seen_of, settled}
use Rattle.mon_disk.specs.MemoryDisk.{MemoryState}
use Rattle.mon_disk.specs.Laws.{as_read, settles}
use Rattle.mon_tx.specs.declared.op.Op.{Op}
use Rattle.mon_tx.specs.Map.{Store}
use Rattle.mon_journal.specs.declared.stop.JournalStop.{JournalStop}
use Rattle.mon_journal.specs.declared.journal.Journal.{Journal}
use Rattle.mon_journal.specs.Content.{Held}
use Rattle.mon_journal.specs.Content as journal
use Rattle.mon_store.specs.Calls.{journal_after}
use Rattle.mon_types.specs.Sides.{other as other_side}
use Rattle.mon_store.specs.Sound.{of_a, of_b, of_live, IsBelow, Sound, StandsOn}
use Rattle.mon_store.proofs.Applying.{stands_now}
use Rattle.quorum_model.specs.Files.{File, Files, live_side, file_after, after_append}
use Rattle.mon_site.specs.Disks.{file_of, file_in, files_in, content}

-- a journal's file
abbrev pub file_by : Journal → File
file_by j = record { generation = j.generation; gate = j.next_gate }

-- two disks' files, if this is the live one and that the other disk's
abbrev pub files_with : Side → File → Option File → Files
files_with side live other = record { a = of_a side (Some live) other; b = of_b side (Some live) other }

pub files_are : (side : Side) (j : Journal) (m : Store) (a b : List ℕ) → StandsOn side j m a b → files_in a b ≡ files_with side (file_by j) (file_in (of_live (other_side side) a b))
files_are A j m a b s = ap (λ (f : Option File). record { a = f; b = file_in b }) (ap file_of s.holds)
files_are B j m a b s = ap (λ (f : Option File). record { a = file_in a; b = f }) (ap file_of s.holds)

lower : (x y : ℕ) → x < y → nat_lt x y ≡ true
lower x y h = grind (arith, nat_tests)

not_lower : (x y : ℕ) → x < y → nat_lt y x ≡ false
not_lower x y h = grind (arith, nat_tests)

live_by : (side : Side) (live : File) (other : Option (Result Held JournalStop)) → IsBelow live.generation other → live_side (files_with side live (file_of other)) ≡ side
live_by A live None below = refl
live_by B live None below = refl
live_by A live (Some (Ok held)) below = rw (lower held.header.generation live.generation below) refl
live_by B live (Some (Ok held)) below = rw (not_lower held.header.generation live.generation below) refl
live_by A live (Some (Err e)) below = absurd below
live_by B live (Some (Err e)) below = absurd below

pub live_stands : (side : Side) (j : Journal) (m : Store) (a b : List ℕ) → StandsOn side j m a b → live_side (files_in a b) ≡ side
live_stands side j m a b s = ap live_side (files_are side j m a b s) ∙ live_by side (file_by j) (journal.content (of_live (other_side side) a b)) s.below

-- ---- a transaction's record

pub file_goes : (j : Journal) (ops : List Op) → file_after ops (file_by j) ≡ file_by (journal_after j ops)
file_goes j [] = refl
file_goes j (op ∷ ops) = refl

appends : (side : Side) (live : File) (other : Option File) (ops : List Op) → live_side (files_with side live other) ≡ side → after_append ops (files_with side live other) ≡ files_with side (file_after ops live) other
appends A live other ops is = rw is refl
appends B live other ops is = rw is refl

pub append_is : (side : Side) (j : Journal) (m : Store) (ops : List Op) (a b : List ℕ) → StandsOn side j m a b
    → after_append ops (files_in a b) ≡ files_with side (file_by (journal_after j ops)) (file_in (of_live (other_side side) a b))
append_is side j m ops a b s =
    ap (after_append ops) (files_are side j m a b s)
    ∙ appends side (file_by j) (file_in (of_live (other_side side) a b)) ops (live_by side (file_by j) (journal.content (of_live (other_side side) a b)) s.below)
    ∙ ap (λ (f : File). files_with side f (file_in (of_live (other_side side) a b))) (file_goes j ops)

-- ---- what a store in use is on

module _ (side : Side) (live other : MemoryState) (j : Journal) (m : Store) (known : ℕ) (sound : Sound j m known (content live) (content other)) where
  pub as_it_reads : StandsOn side j m (of_a side (seen_of live.life) (seen_of other.life)) (of_b side (seen_of live.life) (seen_of other.life))
  as_it_reads = stands_now j m known (content live) (content other) sound side (seen_of live.life) (seen_of other.life) (as_read live) (as_read other)

  pub live_seen : settled live.life ≡ seen_of live.life
  live_seen = let h : Some (seen_of live.life) ≡ Some (settled live.life) = sound.stands_live.only (settled live.life) (settles live) in cc

  pub other_seen : settled other.life ≡ seen_of other.life
  other_seen = let h : Some (seen_of other.life) ≡ Some (settled other.life) = sound.only_other (settled other.life) (settles other) in cc

-- a function of each disk, for disks A and B, and for the live one and the other
pub by_name_a : {X Y : Type 0} (f : X → Y) (side : Side) (live other : X) → f (of_a side live other) ≡ of_a side (f live) (f other)
by_name_a f A live other = refl
by_name_a f B live other = refl

pub by_name_b : {X Y : Type 0} (f : X → Y) (side : Side) (live other : X) → f (of_b side live other) ≡ of_b side (f live) (f other)
by_name_b f A live other = refl
by_name_b f B live other = refl
