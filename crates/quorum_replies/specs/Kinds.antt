-- What a reply is to its client.
use Rattle.mon_wire.specs.declared.reply.Reply.{Reply}
use Rattle.mon_wire.specs.declared.reply.Reply.TheVariants as reply

-- A reply says that a command is done, shows a map or its changes, refuses a command, or says that the request isn't
-- served.
pub data Kind : Type 0 where
  Acknowledging : Kind
  Showing : Kind
  Refusing : Kind
  Deferring : Kind

-- Each reply is named here. What laws promise of a reply depends on its kind. A law that promises something of each reply
-- of a kind is false of a further reply of this kind, until it says what it promises of that one.
abbrev pub kind_of : Reply → Kind
kind_of (reply.Done v) = Acknowledging
kind_of (reply.Shown s paxos version map) = Showing
kind_of (reply.Since s from told more) = Showing
kind_of reply.NoSuch = Refusing
kind_of (reply.TooLong len most) = Refusing
kind_of (reply.MapFull would_be) = Refusing
kind_of reply.Unavailable = Deferring
kind_of (reply.NotReadable has lease) = Deferring
kind_of (reply.Busy waiting) = Deferring

-- no version is acknowledged
abbrev pub AcknowledgesNothing : Kind → Type 0
AcknowledgesNothing Acknowledging = ⊥
AcknowledgesNothing other = Unit {0}

abbrev pub IsShowing : Kind → Type 0
IsShowing Showing = Unit {0}
IsShowing other = ⊥

abbrev pub IsRefusing : Kind → Type 0
IsRefusing Refusing = Unit {0}
IsRefusing other = ⊥

-- nothing of the log is acknowledged or shown
abbrev pub SaysNothing : Kind → Type 0
SaysNothing Acknowledging = ⊥
SaysNothing Showing = ⊥
SaysNothing other = Unit {0}

-- the request is served, or refused for a cause of its own
abbrev pub IsServing : Kind → Type 0
IsServing Deferring = ⊥
IsServing other = Unit {0}
