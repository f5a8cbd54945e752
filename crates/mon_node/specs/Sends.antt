-- The datagrams that a link was asked to send, with its answers.
use Rattle.std.specs.Prelude.{◌≡◌, ℕ, List, [], ◌∷◌, map, take, Result, Err}
use Rattle.std.specs.List.{AllByRecursion}
use Rattle.mon_link.specs.Histories.{Happened, GoOn}
use Rattle.mon_link.specs.Histories.Happened.{WasSent}
use Rattle.mon_link.specs.Links.{LinkState}
use Rattle.mon_link.specs.declared.link.Outgoing.{Outgoing}
use Rattle.mon_types.specs.declared.names.Stop.{Stop}
use Rattle.mon_types.specs.declared.names.Stop.TheVariants.{OutOfMemory}

-- a datagram that a link was asked to send, and what it returned
pub record Send : Type 0 where
  pub datagram : Outgoing
  pub answer : Result (Unit {0}) Stop

abbrev pub call_of : Send → Happened
call_of s = WasSent s.datagram.to s.datagram.bytes s.answer

-- the datagrams alone
abbrev pub outgoing_of : List Send → List Outgoing
outgoing_of sends = map (λ s. s.datagram) sends

-- memory was enough: the datagram went, or it is lost
abbrev pub HadMemory : Send → Type 0
HadMemory s = ¬ (s.answer ≡ Err OutOfMemory)

-- once memory ran out, nothing more is sent
abbrev pub EndsAtWant : List Send → Type 0
EndsAtWant [] = Unit {0}
EndsAtWant (s ∷ []) = Unit {0}
EndsAtWant (s ∷ t ∷ sends) = HadMemory s × EndsAtWant (t ∷ sends)

-- all of these datagrams were sent, in order
pub record AreSent (ds : List Outgoing) (sends : List Send) : Type 0 where
  pub all : outgoing_of sends ≡ ds
  pub had : AllByRecursion HadMemory sends

-- the first of them were sent, and memory may have run out at the last of these
pub record AreFirstSent (ds : List Outgoing) (sends : List Send) : Type 0 where
  pub count : ℕ
  pub first : outgoing_of sends ≡ take count ds
  pub had : EndsAtWant sends

-- a link was asked to send all of these, and no others
pub record Went (ds : List Outgoing) (before after : List Happened → Type 0) : Type 0 where
  pub sends : List Send
  pub are : AreSent ds sends
  pub goes_on : GoOn before (map call_of sends) after

-- it was asked to send the first of these
pub record WentFirst (ds : List Outgoing) (before after : List Happened → Type 0) : Type 0 where
  pub sends : List Send
  pub are : AreFirstSent ds sends
  pub goes_on : GoOn before (map call_of sends) after

-- ---- a link at one time

-- what can be seen of it, and the lists of calls that can have led to it
pub record LinkNow : Type 1 where
  pub state : LinkState
  pub history : List Happened → Type 0

abbrev pub link_now : {L : Type 0} → (L → LinkState) → (L → List Happened → Type 0) → L → LinkNow
link_now state history l = record { state = state l; history = history l }
