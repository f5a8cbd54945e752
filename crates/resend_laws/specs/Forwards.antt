-- The FORWARDs that are sent to one monitor, by their numbers.
use Rattle.std.specs.Prelude.{ℕ, ◌-◌, ◌^◌, ◌≤◌, ◌<◌, ◌&&◌, ◌==◌, List, [], ◌∷◌, ◌++◌, Option, Some, None, if◌then◌else◌}
use Rattle.std.specs.List.{AllByRecursion, flat_map}
use Rattle.mon_decode.specs.declared.header.Header.{Header}
use Rattle.mon_decode.specs.Headers.{same_kind}
use Rattle.mon_resend.specs.declared.copies.Copies.{Copies}
use Rattle.mon_resend.specs.declared.datagram.Part.{Part}
use Rattle.mon_resend.specs.declared.datagram.Part.TheVariants.{Whole, First, Later}
use Rattle.mon_resend.specs.declared.outbox.UnderWay.{UnderWay}
use Rattle.mon_resend.specs.declared.outbox.UnderWay.TheVariants as under_way
use Rattle.mon_resend.specs.declared.shelf.Kept.{Kept}
use Rattle.mon_resend.specs.Datagrams.{part_of}
use Rattle.mon_resend.specs.Shelves.{due_kept}
use Rattle.mon_resend.specs.World.{box_of, is_sent_now}
use Rattle.mon_wire.specs.declared.kind.Kind.TheVariants as kind
use Rattle.resend_laws.specs.Runs.{Step, Sends, Hears, Passes, step, time_of}

-- the number of a message that is a FORWARD
abbrev pub number_of : Header → List ℕ
number_of h = if same_kind h.kind kind.Forward then h.first ∷ [] else []

-- ---- FORWARDs that are given to send, in their order

abbrev pub begun_in : Option Part → List ℕ
begun_in (Some (Whole h)) = number_of h
begun_in (Some (First h total)) = number_of h
begun_in (Some (Later p)) = []
begun_in None = []

abbrev pub begun_by : (rank : ℕ) → Step → List ℕ
begun_by rank (Sends memory to bytes now) = if to == rank then begun_in (part_of bytes) else []
begun_by rank (Hears memory from bytes now) = []
begun_by rank (Passes again now) = []

abbrev pub begun : (rank : ℕ) → List Step → List ℕ
begun rank steps = flat_map (begun_by rank) steps

-- ---- FORWARDs that are kept

abbrev pub numbers : List Kept → List ℕ
numbers kept = flat_map (λ k. number_of k.note.header) kept

-- the one of which later pieces are to be kept
abbrev pub long : UnderWay → List ℕ
long (under_way.Kept n) = number_of n.header
long under_way.Lost = []
long under_way.Nothing = []

abbrev pub kept_for : (rank : ℕ) → Copies → List ℕ
kept_for rank c = numbers (box_of rank c).shelf ++ long (box_of rank c).under_way

-- no FORWARD of a number below q is kept
abbrev pub IsLeast : (rank q : ℕ) → Copies → Type 0
IsLeast rank q c = AllByRecursion (λ p. q ≤ p) (kept_for rank c)

-- ---- FORWARDs of which a datagram is sent, once for each datagram

-- A later piece counts if pieces of its message are kept. Otherwise no datagram of that message is sent again.
abbrev pub sent_in : Option Part → UnderWay → List ℕ
sent_in (Some (Whole h)) u = number_of h
sent_in (Some (First h total)) u = number_of h
sent_in (Some (Later p)) u = long u
sent_in None u = []

abbrev pub leave_in : (rank : ℕ) → Step → Copies → List ℕ
leave_in rank (Sends memory to bytes now) c = if to == rank && is_sent_now to bytes now c then sent_in (part_of bytes) (box_of to c).under_way else []
leave_in rank (Hears memory from bytes now) c = []
leave_in rank (Passes again now) c = numbers (due_kept again now (box_of rank c).shelf)

abbrev pub leave : (rank : ℕ) → List Step → Copies → List ℕ
leave rank [] c = []
leave rank (s ∷ steps) c = leave_in rank s c ++ leave rank steps (step s c)

-- The clock never shows its greatest number: at that time a copy is due that waits for an event.
abbrev pub IsBeforeEnd : List Step → Type 0
IsBeforeEnd steps = AllByRecursion (λ s. time_of s < 2 ^ 64 - 1) steps
