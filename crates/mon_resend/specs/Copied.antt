-- What is sent again.
use Rattle.std.specs.Prelude.{◌≡◌, ℕ, ◌≤◌, List, [], ◌∷◌, ◌++◌, ◌⊎◌, Result, Ok, Err, option_map}
use Rattle.mon_link.specs.Links.{LinkState, Observed, CallsNext}
use Rattle.mon_link.specs.declared.link.Got.{Got}
use Rattle.mon_link.specs.declared.link.Got.TheVariants.{Datagram, Idle, Closed}
use Rattle.mon_link.specs.declared.link.Outgoing.{Outgoing}
use Rattle.mon_link.specs.declared.link.Peer.{Peer}
use Rattle.mon_types.specs.declared.names.Stop.{Stop}

-- x is one of these
abbrev pub IsOneOf : {A : Type 0} → List A → A → Type 0
IsOneOf [] x = ⊥
IsOneOf (y ∷ ys) x = (x ≡ y) ⊎ IsOneOf ys x

-- each of these is one of those
pub record AreOf (those these : List Outgoing) : Type 0 where
  pub each : (x : Outgoing) → IsOneOf these x → IsOneOf those x

abbrev pub datagram : Peer → List ℕ → Outgoing
datagram to bytes = record { to = to; bytes = bytes }

abbrev pub with_sent : List Outgoing → Observed → Observed
with_sent more t = record t { sent = t.sent ++ more }

-- a link was asked for nothing but to send some of these
pub record RepeatsOnly (kept : List Outgoing) (old new : LinkState) : Type 0 where
  pub more : List Outgoing
  pub among : AreOf kept more
  pub observed : new.observed ≡ option_map (with_sent more) old.observed
  pub faults : new.faults ≡ old.faults

abbrev pub IsDatagram : Got → Type 0
IsDatagram (Datagram from bytes) = Unit {0}
IsDatagram Idle = ⊥
IsDatagram Closed = ⊥

abbrev pub IsGiven : Result Got Stop → Type 0
IsGiven (Ok got) = IsDatagram got
IsGiven (Err e) = ⊥

-- a link was asked once for what arrives, with at most this wait, and then only to send some of these
pub record AsksOnce (wait : ℕ) (kept : List Outgoing) (result : Result Got Stop) (old new : LinkState) : Type 0 where
  pub slice : ℕ
  pub within : slice ≤ wait
  pub between : LinkState
  pub gave : Result Got Stop
  pub asks : CallsNext slice gave old between
  pub hands : (gave ≡ result) ⊎ ((result ≡ Ok Idle) × IsGiven gave)
  pub repeats : RepeatsOnly kept between new
