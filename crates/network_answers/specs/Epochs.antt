-- What answers promise over all epochs. Writes are linearizable, and so are the reads that show a mark of their client.
use Rattle.std.specs.Prelude.{◌≡◌, ℕ, ◌<◌, ◌≤◌, Bool, List, length, Some}
use Rattle.std.specs.List.{AllByRecursion, Contains}
use Rattle.mon_msg.specs.Fold.{entry, put_in}
use Rattle.mon_tx.specs.Decode.{ops_in}
use Rattle.mon_wire.specs.declared.reply.Reply.TheVariants as reply
use Rattle.mon_wire.specs.declared.request.Request.{Request}
use Rattle.mon_wire.specs.declared.request.Service.{Service}
use Rattle.mon_wire.specs.declared.request.Session.{Session}
use Rattle.network_answers.specs.Answers.{Answer, Requested}
use Rattle.quorum_answers.specs.Reads.{Shows}
use Rattle.quorum_model.specs.Clients.{made_by}
use Rattle.quorum_model.specs.World.{Acknowledgement, Asked}

-- ---- what began after some point in time

-- None of these requests makes this change. A client brings that about by a text or a value that nobody else writes.
abbrev pub IsUnasked : (before : List Asked) → Service → (incremental : List ℕ) → Type 0
IsUnasked before s incremental =
    AllByRecursion (λ (a : Asked). ¬ (made_by a.rank a.request ≡ Some (s, incremental))) before

-- All changes for which a session asks monitor i are such. A client meets this by an ID that it uses for one command,
-- or if nobody else makes the changes of the session's commands.
abbrev pub AsksAnew : (before requests : List Asked) → (i : ℕ) → Session → Type 0
AsksAnew before requests i session = (r : Request) (s : Service) (incremental : List ℕ)
    → Requested requests i session r → made_by i r ≡ Some (s, incremental) → IsUnasked before s incremental

-- A mark is a version of the log that makes a change for which nobody had asked by then.
pub record IsMark (before : List Asked) (log : List (List ℕ)) (m : ℕ) : Type 0 where
  pub some : 1 ≤ m
  pub within : m ≤ length log
  pub service : Service
  pub incremental : List ℕ
  pub put : Contains (put_in service (ops_in (entry log m))) incremental
  pub unasked : IsUnasked before service incremental

-- The answer shows the log up to a mark, or further. The last version of its monitor is the `paxos` of a Shown, which
-- the client sees.
pub record ShowsMark (before : List Asked) (log : List (List ℕ)) (a : Answer) : Type 0 where
  pub shows : Shows a.reply
  pub mark : ℕ
  pub is : IsMark before log mark
  pub to : mark ≤ a.last

-- The answer reports a change for which nobody had asked by then.
pub record TellsUnasked (before : List Asked) (a : Answer) : Type 0 where
  pub service : Service
  pub from : ℕ
  pub told : List (List ℕ)
  pub more : Bool
  pub is : a.reply ≡ reply.Since service from told more
  pub incremental : List ℕ
  pub among : Contains told incremental
  pub unasked : IsUnasked before service incremental

-- ---- the order in time is the order in the log

-- The log is one total order, in which each operation has a place: a write has its version, and an answer that shows
-- something comes after the last version of its monitor and before the next one. Of these writes and answers the old
-- ones were completed by some point in time, and `before` is what had been asked by then. Each operation that began
-- after that time comes after them in the log, in whatever epochs and at whichever monitors. A write began after it if
-- nobody had asked for its change by then, and a read if it shows a mark for which its client asked only then. This is
-- the order in real time that linearizability asks for. That each operation has the effect of its place is
-- `IsOfThisLog`.
pub record AreLinearizable (before : List Asked) (old_log log : List (List ℕ))
    (old_writes writes : List Acknowledgement) (old answers : List Answer) : Type 0 where
  pub write_write : (a b : Acknowledgement) → Contains old_writes a → Contains writes b
      → IsUnasked before b.service b.incremental → a.version < b.version
  pub write_read : (a : Acknowledgement) (b : Answer) → Contains old_writes a → Contains answers b
      → ShowsMark before log b → a.version ≤ b.last
  pub read_write : (a : Answer) (b : Acknowledgement) → Contains old a → Contains writes b → Shows a.reply
      → IsUnasked before b.service b.incremental → a.last < b.version
  pub read_read : (a b : Answer) → Contains old a → Contains answers b → Shows a.reply
      → ShowsMark before log b → a.last ≤ b.last
  pub apart : (a b : Acknowledgement) → Contains writes a → Contains writes b → a.version ≡ b.version → a ≡ b
  -- changes show a mark if they have it, even if its client got no Done
  pub told : (a : Answer) → Contains answers a → TellsUnasked before a → ShowsMark before log a
  -- each mark is above the log of that time
  pub above : (m : ℕ) → IsMark before log m → length old_log < m

-- ---- what a client sees of its writes

-- Two answers are to one change, for which each session asked its monitor.
pub record AreOfOneChange (requests : List Asked) (a b : Answer) : Type 0 where
  pub service : Service
  pub incremental : List ℕ
  pub first : Request
  pub first_requested : Requested requests a.rank a.session first
  pub first_made : made_by a.rank first ≡ Some (service, incremental)
  pub second : Request
  pub second_requested : Requested requests b.rank b.session second
  pub second_made : made_by b.rank second ≡ Some (service, incremental)

-- The version of a Done is above those of all Dones and above all that was shown by some point in time, if its session
-- asks for changes for which nobody had asked by then. It is a mark then. No two changes have one version.
pub record AreDoneInOrder (before requests : List Asked) (log : List (List ℕ)) (old answers : List Answer)
    : Type 0 where
  pub marks : (a : Answer) (v : ℕ) → Contains answers a → a.reply ≡ reply.Done v
      → AsksAnew before requests a.rank a.session → IsMark before log v
  pub later : (a b : Answer) (v w : ℕ) → Contains old a → Contains answers b → a.reply ≡ reply.Done v
      → b.reply ≡ reply.Done w → AsksAnew before requests b.rank b.session → v < w
  pub unseen : (a b : Answer) (w : ℕ) → Contains old a → Contains answers b → Shows a.reply
      → b.reply ≡ reply.Done w → AsksAnew before requests b.rank b.session → a.last < w
  pub apart : (a b : Answer) (v : ℕ) → Contains answers a → Contains answers b → a.reply ≡ reply.Done v
      → b.reply ≡ reply.Done v → AreOfOneChange requests a b
