-- What a link was asked and what it returned, oldest first.
use Rattle.std.specs.Prelude.{◌≡◌, ℕ, List, [], ◌∷◌, ◌++◌, Result}
use Rattle.mon_types.specs.declared.names.Stop.{Stop}
use Rattle.mon_link.specs.declared.link.Peer.{Peer}
use Rattle.mon_link.specs.declared.link.Got.{Got}
use Rattle.mon_link.specs.declared.link.Outgoing.{Outgoing}
use Rattle.mon_link.specs.Links.{LinkState, CallsNext, CallsSend}

-- one call of a link
pub data Happened : Type 0 where
  Received : (wait : ℕ) → (answer : Result Got Stop) → Happened
  WasSent : (to : Peer) → (bytes : List ℕ) → (answer : Result (Unit {0}) Stop) → Happened

-- what a link returned when it was asked for what comes
abbrev pub received : List Happened → List (Result Got Stop)
received [] = []
received (Received wait answer ∷ h) = answer ∷ received h
received (WasSent to bytes answer ∷ h) = received h

-- what it was asked to send, whatever it returned
abbrev pub sent : List Happened → List Outgoing
sent [] = []
sent (Received wait answer ∷ h) = sent h
sent (WasSent to bytes answer ∷ h) = record { to = to; bytes = bytes } ∷ sent h

-- Each history of the link before these calls is one of the link after them, with the calls at its end.
abbrev pub GoOn : (old : List Happened → Type 0) → List Happened → (new : List Happened → Type 0) → Type 0
GoOn old calls new = (h : List Happened) → old h → new (h ++ calls)

abbrev pub GoesOn : (old : List Happened → Type 0) → Happened → (new : List Happened → Type 0) → Type 0
GoesOn old call new = GoOn old (call ∷ []) new

-- one call took the link from a state to another
abbrev pub Calls : Happened → (old new : LinkState) → Type 0
Calls (Received wait answer) old new = CallsNext wait answer old new
Calls (WasSent to bytes answer) old new = CallsSend to bytes answer old new

-- these calls, in order, took the link from a state to another
abbrev pub Leads : List Happened → (old new : LinkState) → Type 0
Leads [] old new = new ≡ old
Leads (x ∷ h) old new = (between : LinkState) × Calls x old between × Leads h between new
