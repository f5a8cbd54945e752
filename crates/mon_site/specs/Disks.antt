-- What a monitor's two disks in memory hold, and what it opens on them.
use Rattle.std.specs.Prelude.{◌≡◌, List, ℕ, Option, Some, None, Result, Ok, Err}
use Rattle.mon_disk.specs.Images.{Content, Only}
use Rattle.mon_disk.specs.MemoryDisk.{MemoryState, content_of}
use Rattle.mon_journal.specs.declared.stop.JournalStop.{JournalStop}
use Rattle.mon_journal.specs.Content.{Held}
use Rattle.mon_journal.specs.Content as journal
use Rattle.quorum_model.specs.Files.{File, Files}

-- the file that a disk has open
abbrev pub file_of : Option (Result Held JournalStop) → Option File
file_of None = None
file_of (Some (Ok held)) = Some (record { generation = held.header.generation; gate = held.next_gate })
file_of (Some (Err e)) = None

abbrev pub file_in : List ℕ → Option File
file_in bytes = file_of (journal.content bytes)

-- those of two disks
abbrev pub files_in : List ℕ → List ℕ → Files
files_in a b = record { a = file_in a; b = file_in b }

-- what a disk holds, and what a crash may leave of it
abbrev pub content : MemoryState → Content
content d = content_of d.past d.life

-- A disk at rest: it has no injected fault, and a crash leaves what a read returns.
pub record IsCalm (d : MemoryState) : Type 0 where
  pub calm : d.life.upset ≡ None
  pub only : Only (content d)
