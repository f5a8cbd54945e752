-- What holds of all monitors after every event, with some history.
use Rattle.law_names.proofs.Runs.{Asked, Envelope, Monitors, World}
use Rattle.law_names.proofs.Table.{AllByRecursion, Command, Op, Readings, Session, State, Store, empty, has, readings_of, text}
use Rattle.quorum_history.proofs.History.{Accepted, Ask, Asks, Entered, Entry, Ext, Ghost, Glob, Hand, Joined}
use Rattle.quorum_history.proofs.Holds.{Disk, InPhase, MessageHolds, core_of}
use Rattle.quorum_laws.specs.Accepting.{AcceptedIn}
use Rattle.quorum_laws.specs.Commands.{WasAsked}
use Rattle.quorum_laws.specs.Promises.{NumbersRise}
use Rattle.quorum_model.specs.Safe.{after_transactions}
use Rattle.quorum_walk.proofs.FineCourses.{MessageFine, ReadingsFine, StateFine}
use Rattle.quorum_walk.proofs.Lists.{Among}
use Rattle.quorum_walk.proofs.Sparing.{own_of}
use Rattle.std.proofs.Common.{Bool, IfSome, List, None, Option, Some, true, ℕ, ◌++◌, ◌<◌, ◌≡◌}
use Rattle.std.proofs.lemmas.List.Elements.{Contains-append_left}

abbrev pub OnState : ℕ → Ghost → ℕ → Readings → Option State → Type 0
OnState n g i w None = Unit {0}
OnState n g i w (Some s) = InPhase n g i (core_of (own_of w) s) s.phase

abbrev pub StateFits : State → Type 0
StateFits s = StateFine s.leader.found s.leader.value s.leader.pn s.requester.stage s.clients.queue

abbrev pub EnvelopeFine : Envelope → Type 0
EnvelopeFine e = MessageFine e.message

abbrev pub EnvelopeHolds : ℕ → Ghost → Envelope → Type 0
EnvelopeHolds n g e = (e.message.from < n) × MessageHolds g e.to e.message

pub was_asked_more : (n : ℕ) (asked more : List Asked) (rank : ℕ) (s : Session) (c : Command) → WasAsked n asked rank s c → WasAsked n (asked ++ more) rank s c
was_asked_more n asked more rank s c k = record { by = k.by; among = Contains-append_left asked more k.by k.among; at = k.at; below = k.below; session = k.session; command = k.command; form = k.form }

-- the leader had its whole quorum in the epoch
abbrev pub WasActive : ℕ → Ghost → ℕ × ℕ → Type 0
WasActive n g c = (q : List Bool) × Entered g c.1 c.0 c.1 q × ((m : ℕ) → m < n → has q m ≡ true → Joined g m c.0 c.1)

-- a history that goes on
pub record Further (g h : Ghost) : Type 0 where
  pub roles : (r : Entry) → Among r g.roles → Among r h.roles
  pub hands : (r : Hand) → Among r g.hands → Among r h.hands
  pub asks : (a : Ask) → Among a g.asks → Among a h.asks

pub further_refl : (g : Ghost) → Further g g
further_refl g = record { roles = λ r a. a; hands = λ r a. a; asks = λ r a. a }

pub further_trans : (f g h : Ghost) → Further f g → Further g h → Further f h
further_trans f g h a b = record { roles = λ r k. b.roles r (a.roles r k); hands = λ r k. b.hands r (a.hands r k); asks = λ r k. b.asks r (a.asks r k) }

pub further_ext : (i : ℕ) (g h : Ghost) → Ext i g h → Further g h
further_ext i g h E = record { roles = E.roles.keeps; hands = E.hands.keeps; asks = E.asks.keeps }

-- one monitor's store and what it remembers
pub record Mine (n : ℕ) (g : Ghost) (i : ℕ) (w : Readings) (s : Option State) : Type 0 where
  pub fine : ReadingsFine w
  pub fits : IfSome s StateFits
  pub disk : Disk g i (own_of w) w.record_of
  pub state : OnState n g i w s

-- what was accepted is what the kept transactions accept
pub record TriplesKept (g : Ghost) (transactions : ℕ → List (List Op)) : Type 0 where
  pub kept : (i v p : ℕ) (x : List Op) → Accepted g i v p x → AcceptedIn (transactions i) v p (text x)
  pub known : (i v p : ℕ) (bytes : List ℕ) → AcceptedIn (transactions i) v p bytes → (x : List Op) × (bytes ≡ text x) × Accepted g i v p x

pub record Inv (n : ℕ) (store : ℕ → Store) (state : ℕ → Option State) (transactions : ℕ → List (List Op)) (messages : List Envelope) (pairs : List (ℕ × ℕ)) (asked : List Asked) : Type 0 where
  pub g : Ghost
  pub glob : Glob n g
  pub mine : (i : ℕ) → Mine n g i (readings_of (store i)) (state i)
  pub triples : TriplesKept g transactions
  pub held : (i : ℕ) → store i ≡ after_transactions (transactions i) empty
  pub raised : (i : ℕ) → NumbersRise i empty (transactions i)
  pub sent : AllByRecursion (EnvelopeHolds n g) messages
  pub sizes : AllByRecursion EnvelopeFine messages
  pub active : AllByRecursion (WasActive n g) pairs
  pub asks : (i : ℕ) (s : Session) (c : Command) → Asks g i s c → WasAsked n asked i s c

-- the invariant of a world if clients asked these requests
abbrev pub InvWith : Monitors → World → List Asked → Type 0
InvWith ms w asked = Inv ms.count w.store w.state w.transactions w.messages w.active asked

abbrev pub InvOf : Monitors → World → Type 0
InvOf ms w = InvWith ms w w.asked
