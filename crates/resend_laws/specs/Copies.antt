-- The copies of one datagram.
use Rattle.std.specs.Prelude.{◌≡◌, ℕ, ◌+◌, ◌≤◌, true, false, List}
use Rattle.std.specs.List.{AllByRecursion}
use Rattle.mon_decode.specs.Headers.{same_kind}
use Rattle.mon_link.specs.declared.link.Outgoing.{Outgoing}
use Rattle.mon_link.specs.declared.link.Peer.TheVariants.{Monitor}
use Rattle.mon_resend.specs.declared.copies.Copies.{Copies}
use Rattle.mon_resend.specs.declared.note.Note.{Note}
use Rattle.mon_resend.specs.declared.rows.Way.TheVariants as way
use Rattle.mon_resend.specs.declared.shelf.Kept.{Kept}
use Rattle.mon_resend.specs.Copied.{datagram}
use Rattle.mon_resend.specs.Rows.{way_of, is_of_epoch}
use Rattle.mon_resend.specs.World.{box_of}
use Rattle.mon_wire.specs.declared.kind.Kind.TheVariants as kind
use Rattle.resend_laws.specs.Runs.{Step, Sends, Hears, Passes, run}

-- what holds of the note of each copy of x
abbrev pub EachOf : Outgoing → (Note → Type 0) → List Kept → Type 0
EachOf x Holds kept = AllByRecursion (λ k. k.out ≡ x → Holds k.note) kept

-- what holds of the note of each copy of x that is kept for a monitor
abbrev pub EachAt : (rank : ℕ) → Outgoing → (Note → Type 0) → Copies → Type 0
EachAt rank x Holds c = EachOf x Holds (box_of rank c).shelf

-- No copy of x is kept for the monitor, so x isn't sent again.
abbrev pub IsOver : (rank : ℕ) → Outgoing → Copies → Type 0
IsOver rank x c = EachAt rank x (λ n. ⊥) c

-- x isn't sent anew
abbrev pub IsOther : Outgoing → Step → Type 0
IsOther x (Sends memory rank bytes now) = datagram (Monitor rank) bytes ≡ x → ⊥
IsOther x (Hears memory rank bytes now) = Unit {0}
IsOther x (Passes again now) = Unit {0}

abbrev pub IsNotSent : Outgoing → List Step → Type 0
IsNotSent x steps = AllByRecursion (IsOther x) steps

-- x isn't sent again before it is sent anew
abbrev pub StaysOver : (rank : ℕ) → Outgoing → Copies → Type 0
StaysOver rank x c = (steps : List Step) → IsNotSent x steps → IsOver rank x (run steps c)

-- ---- when copies are dropped

-- The copy is sent again by time, isn't held, is due `wait` after `since` at the latest, and each of its waits is at
-- most `wait`. It is no GET_CHUNK, since that waits longer for each piece that arrives.
pub record IsTried (wait since : ℕ) (n : Note) : Type 0 where
  pub by_time : way_of n.header.kind ≡ way.ByTime
  pub no_chunk : same_kind n.header.kind kind.GetChunk ≡ false
  pub not_held : n.held ≡ false
  pub every : n.every ≤ wait
  pub due : n.due ≤ since + wait
  pub times : n.times ≤ 16

-- the copy is of a quorum's message of this epoch or an earlier one
pub record IsUpTo (greatest : ℕ) (n : Note) : Type 0 where
  pub counts : is_of_epoch n.header.kind ≡ true
  pub epoch : n.header.epoch ≤ greatest
