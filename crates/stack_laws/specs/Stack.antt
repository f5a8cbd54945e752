-- What the links of a monitor do together, over any link below.
use Rattle.std.specs.Prelude.{◌≡◌, ◌⊎◌, ◌<◌, ℕ, List, [], ◌∷◌, Some, Result, Ok, Err}
use Rattle.mon_link.specs.Histories.{Happened, received, sent}
use Rattle.mon_link.specs.declared.link.Got.{Got}
use Rattle.mon_link.specs.declared.link.Got.TheVariants.{Datagram, Idle, Closed}
use Rattle.mon_link.specs.declared.link.Outgoing.{Outgoing}
use Rattle.mon_link.specs.declared.link.Peer.TheVariants.{Monitor, Client}
use Rattle.mon_types.specs.declared.member.Member.{Member}
use Rattle.mon_types.specs.declared.names.Stop.{Stop}
use Rattle.mon_hello.specs.Greets.{asker as hello_asker, outgoing}
use Rattle.mon_hello.specs.declared.own.Own.{Own}
use Rattle.mon_name.specs.Frames.{unframed}
use Rattle.mon_name.specs.Naming.{off_got, wired}
use Rattle.mon_name.specs.Numbers.{renumbered}
use Rattle.mon_resend.specs.Copied.{IsOneOf}
use Rattle.mon_watch.specs.Answering.{answer}
use Rattle.mon_watch.specs.Requests.{request_of}
use Rattle.mon_watch.specs.declared.notes.Notes.{Notes}
use Rattle.mon_watch.specs.declared.times.DiskTimes.{DiskTimes}

-- this came on a link
abbrev pub Came : List Happened → Got → Type 0
Came below got = IsOneOf {A = Result Got Stop} (received below) (Ok got)

-- What is handed up as a monitor's datagram came from this monitor in a frame of the tag. What is handed up as a client's
-- came from this client.
abbrev pub IsCome : (tag : ℕ) → (below : List Happened) → Got → Type 0
IsCome tag below (Datagram (Monitor j) x) =
    (frame : List ℕ) × (unframed tag frame ≡ Some x) × Came below (Datagram (Monitor j) frame)
IsCome tag below (Datagram (Client c) x) = Came below (Datagram (Client c) x)
IsCome tag below Idle = Unit {0}
IsCome tag below Closed = Unit {0}

-- the datagrams among these, oldest first
abbrev pub and_then : Got → List Got → List Got
and_then (Datagram from bytes) later = Datagram from bytes ∷ later
and_then Idle later = later
and_then Closed later = later

abbrev pub datagrams : List (Result Got Stop) → List Got
datagrams [] = []
datagrams (Ok got ∷ later) = and_then got (datagrams later)
datagrams (Err e ∷ later) = datagrams later

-- those of a client, and those of monitors that were in a frame of the tag, without it
abbrev pub opened : (tag : ℕ) → List Got → List Got
opened tag [] = []
opened tag (got ∷ later) = and_then (off_got tag got) (opened tag later)

-- some of these, in the same order
abbrev pub IsPart : List Got → (these : List Got) → Type 0
IsPart [] these = Unit {0}
IsPart (x ∷ some) [] = ⊥
IsPart (x ∷ some) (y ∷ these) = ((x ≡ y) × IsPart some these) ⊎ IsPart (x ∷ some) these

-- a datagram as it goes over the wire
abbrev pub on_wire : (tag life : ℕ) → Outgoing → Outgoing
on_wire tag life x = outgoing x.to (wired tag life x.to x.bytes)

-- the answer of the watch to a client's status request that came
pub record IsStatus (member : Member) (life : ℕ) (below : List Happened) (d : Outgoing) : Type 0 where
  pub client : ℕ
  pub request : List ℕ
  pub id : ℕ
  pub notes : Notes
  pub a : DiskTimes
  pub b : DiskTimes
  pub unkept : ℕ
  pub came : Came below (Datagram (Client client) request)
  pub asks : request_of request ≡ Ok id
  pub is : d ≡ outgoing (Client client) (renumbered life (answer member notes id a b unkept))

-- a hello to another monitor
pub record IsHello (own : Own) (d : Outgoing) : Type 0 where
  pub rank : ℕ
  pub exists : rank < own.member.monitors
  pub other : rank ≡ own.member.rank → ⊥
  pub is : d ≡ outgoing (Monitor rank) own.datagram

-- the answer to a client's hello that came and is no answer
pub record IsHelloBack (own : Own) (below : List Happened) (d : Outgoing) : Type 0 where
  pub client : ℕ
  pub hello : List ℕ
  pub came : Came below (Datagram (Client client) hello)
  pub asks : hello_asker (Datagram (Client client) hello) ≡ Some client
  pub is : d ≡ outgoing (Client client) own.answer

-- What goes is a datagram that was sent above, as it goes over the wire, or a copy of one; or it is of one of the links.
abbrev pub IsMade : (member : Member) → (own : Own) → (tag life : ℕ) → (above below : List Happened) → Outgoing → Type 0
IsMade member own tag life above below d =
    ((x : Outgoing) × IsOneOf (sent above) x × (d ≡ on_wire tag life x))
    ⊎ (IsStatus member life below d ⊎ (IsHello own d ⊎ IsHelloBack own below d))

-- Datagrams are handed up as they came: in the same order, and each at most as often.
pub record Stack (member : Member) (own : Own) (tag life : ℕ) (above below : List Happened) : Type 0 where
  pub comes : (got : Got) → Came above got → IsCome tag below got
  pub order : IsPart (datagrams (received above)) (opened tag (datagrams (received below)))
  pub goes : (d : Outgoing) → IsOneOf (sent below) d → IsMade member own tag life above below d
