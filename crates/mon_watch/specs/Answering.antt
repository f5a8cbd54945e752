-- What a link that watches asks of the link below, and what it hands up.
use Rattle.std.specs.Prelude.{◌≡◌, ◌⊎◌, ℕ, List, Option, Some, None, IfSome, IsSome, Result, Ok, Err, if◌then◌else◌}
use Rattle.answer_times.specs.Times.{after_asking, is_answered}
use Rattle.serde_json.specs.Written.{compact_text}
use Rattle.mon_link.specs.Clocks.{Readings, reading}
use Rattle.mon_link.specs.Links.{LinkState, CallsNext, CallsSend, count_after}
use Rattle.mon_link.specs.declared.link.Got.{Got}
use Rattle.mon_link.specs.declared.link.Got.TheVariants.{Datagram, Idle, Closed}
use Rattle.mon_link.specs.declared.link.Peer.TheVariants.{Monitor, Client}
use Rattle.mon_types.specs.declared.member.Member.{Member}
use Rattle.mon_types.specs.declared.names.Stop.{Stop}
use Rattle.mon_types.specs.declared.names.Stop.TheVariants.{Failed, OutOfMemory}
use Rattle.mon_bytes.specs.declared.command.MapRefused.{MapRefused}
use Rattle.mon_watch.specs.declared.notes.Notes.{Notes}
use Rattle.mon_watch.specs.declared.request.Asker.{Asker}
use Rattle.mon_watch.specs.declared.times.DiskTimes.{DiskTimes}
use Rattle.mon_watch.specs.Reports.{report_data}
use Rattle.mon_watch.specs.Requests.{answer_text, is_watch, request_of}
use Rattle.mon_watch.specs.Traffic.{notes_got}

-- what is handed up: Idle in place of a datagram of the watch
abbrev pub passed : Got → Got
passed (Datagram from bytes) = if is_watch bytes then Idle else Datagram from bytes
passed Idle = Idle
passed Closed = Closed

-- ---- who asked

abbrev pub asked_by : ℕ → Result ℕ MapRefused → Option Asker
asked_by c (Ok id) = Some (record { client = c; id = id })
asked_by c (Err e) = None

-- the client that asked, and the number of its request
abbrev pub asker : Got → Option Asker
asker (Datagram (Client c) bytes) = asked_by c (request_of bytes)
asker (Datagram (Monitor j) bytes) = None
asker Idle = None
asker Closed = None

-- of the client that asked, what the table of times says: whether it is answered now, and the times that follow
abbrev pub admitted : (now : ℕ) → (untils : List ℕ) → Option Asker → Option Asker
admitted now untils None = None
admitted now untils (Some asker) = if is_answered asker.client now untils then Some asker else None

abbrev pub untils_after : (now : ℕ) → Option Asker → (untils : List ℕ) → List ℕ
untils_after now None untils = untils
untils_after now (Some asker) untils = after_asking asker.client now untils

-- the result of a send: one that failed is lost and no error; that memory ran out is an error
abbrev pub after_send : Result (Unit {0}) Stop → Result (Unit {0}) Stop
after_send (Ok x) = Ok tt
after_send (Err Failed) = Ok tt
after_send (Err OutOfMemory) = Err OutOfMemory

-- what the monitor answers: what is noted, what was counted of its disks, and how many copies weren't kept
unfoldable pub answer : Member → Notes → (id : ℕ) → (a b : DiskTimes) → (unkept : ℕ) → List ℕ
answer m n id a b unkept =
    answer_text id (compact_text (report_data (record { member = m; notes = n; a = a; b = b; unkept = unkept })))

-- a link was asked for nothing but to send this to a client
abbrev pub SendsTo : (client : ℕ) → List ℕ → (went : Result (Unit {0}) Stop) → (old new : LinkState) → Type 0
SendsTo client bytes went old new =
    (answered : Result (Unit {0}) Stop) × CallsSend (Client client) bytes answered old new × (went ≡ after_send answered)

-- A link was asked for nothing but to send the answer to the client that asked.
abbrev pub SendsAnswer : Option Asker → Member → Notes → (unkept : ℕ) → (went : Result (Unit {0}) Stop) → (old new : LinkState) → Type 0
SendsAnswer None m n unkept went old new = (went ≡ Ok tt) × (new ≡ old)
SendsAnswer (Some asker) m n unkept went old new =
    (a : DiskTimes) × (b : DiskTimes) × SendsTo asker.client (answer m n asker.id a b unkept) went old new

-- ---- a call of `next`

-- what the link below gave is handed up, unless memory ran out for the answer
abbrev pub handed : Got → Result (Unit {0}) Stop → Result Got Stop
handed got (Ok x) = Ok (passed got)
handed got (Err e) = Err e

-- what is noted of a monitor, and until when each client waits for an answer
pub record Noted : Type 0 where
  pub notes : Notes
  pub untils : List ℕ

abbrev pub noted : Notes → List ℕ → Noted
noted notes untils = record { notes = notes; untils = untils }

-- The link below gave `got`. The clock is read once, `got` is noted, and an answer is sent to a client that asked and
-- doesn't wait.
pub record Answers (m : Member) (clock : Option Readings) (got : Got) (result : Result Got Stop) (before after : Noted)
    (old new : LinkState) : Type 0 where
  pub now : ℕ
  pub shows : IfSome clock (λ r. now ≡ reading r)
  pub notes : after.notes ≡ notes_got now (passed got) before.notes
  pub untils : after.untils ≡ untils_after now (asker got) before.untils
  pub went : Result (Unit {0}) Stop
  pub unkept : ℕ
  pub sends : SendsAnswer (admitted now before.untils (asker got)) m after.notes unkept went old new
      ⊎ (IsSome (admitted now before.untils (asker got)) × (went ≡ Err OutOfMemory) × (new ≡ old))
  pub hands : result ≡ handed got went

-- An error of the link below ended the call; anything else was handed up after answering.
abbrev pub Passes : (m : Member) → Option Readings → Result Got Stop → Result Got Stop → (before after : Noted) → LinkState → LinkState → Type 0
Passes m clock (Err e) result before after old new = (result ≡ Err e) × (after ≡ before) × (new ≡ old)
Passes m clock (Ok got) result before after old new = Answers m clock got result before after old new

-- The link below was asked once, with the same wait, and then only to send an answer.
pub record AsksOnce (m : Member) (clock : Option Readings) (wait : ℕ) (result : Result Got Stop) (before after : Noted)
    (old new : LinkState) : Type 0 where
  pub gave : Result Got Stop
  pub between : LinkState
  pub asks : CallsNext wait gave old between
  pub passes : Passes m clock gave result before after between new
  pub faults : new.faults ≡ count_after result old.faults
