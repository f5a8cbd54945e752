-- What a call of the link makes of calls of the link below.
use Rattle.std.specs.Prelude.{◌≡◌, ◌⊎◌, ℕ, Bool, List, [], ◌∷◌, Result, Ok, Err}
use Rattle.mon_link.specs.Histories.{Happened}
use Rattle.mon_link.specs.Histories.Happened.{Received, WasSent}
use Rattle.mon_link.specs.declared.link.Got.{Got}
use Rattle.mon_link.specs.declared.link.Outgoing.{Outgoing}
use Rattle.mon_types.specs.declared.names.Stop.{Stop}
use Rattle.mon_types.specs.declared.names.Stop.TheVariants.{Failed, OutOfMemory}
use Rattle.mon_hello.specs.declared.own.Own.{Own}
use Rattle.mon_hello.specs.Greets.{admitted, asker, handed, hellos_to}

-- A datagram that failed is followed by the next one. Once memory ran out nothing more is sent, and that is the result.
abbrev pub IsFollowed : (answered : Result (Unit {0}) Stop) → (Rest : Result (Unit {0}) Stop → List Happened → Type 0)
    → (result : Result (Unit {0}) Stop) → List Happened → Type 0
IsFollowed (Ok x) Rest result calls = Rest result calls
IsFollowed (Err Failed) Rest result calls = Rest result calls
IsFollowed (Err OutOfMemory) Rest result calls = (result ≡ Err OutOfMemory) × (calls ≡ [])

-- The link was asked once to send each of these, in order, up to one for which it had no memory.
abbrev pub AreSent : List Outgoing → (result : Result (Unit {0}) Stop) → List Happened → Type 0
AreSent [] result calls = (result ≡ Ok tt) × (calls ≡ [])
AreSent (out ∷ outs) result calls =
    (answered : Result (Unit {0}) Stop) × (rest : List Happened)
    × (calls ≡ WasSent out.to out.bytes answered ∷ rest) × IsFollowed answered (AreSent outs) result rest

-- The link below gave `got` and was then asked to send hellos: to the client that sent one, if it is answered now, and
-- to the other monitors, if a round is due. Or memory ran out before.
abbrev pub IsGreeted : Own → Got → (result : Result Got Stop) → List Happened → Type 0
IsGreeted own got result calls =
    ((now : ℕ) × (untils : List ℕ) × (due : Bool) × (went : Result (Unit {0}) Stop)
    × AreSent (hellos_to own (admitted now untils (asker got)) due) went calls × (result ≡ handed got went))
    ⊎ ((result ≡ Err OutOfMemory) × (calls ≡ []))

abbrev pub IsAskedAfter : Own → (gave result : Result Got Stop) → List Happened → Type 0
IsAskedAfter own (Ok got) result calls = IsGreeted own got result calls
IsAskedAfter own (Err e) result calls = (result ≡ Err e) × (calls ≡ [])

-- The link below was asked once for what comes, with the same wait.
pub record Asks (own : Own) (wait : ℕ) (result : Result Got Stop) (calls : List Happened) : Type 0 where
  pub gave : Result Got Stop
  pub rest : List Happened
  pub are : calls ≡ Received wait gave ∷ rest
  pub after : IsAskedAfter own gave result rest

-- A datagram is sent as it is.
abbrev pub GreetingDoes : Own → Happened → List Happened → Own → Type 0
GreetingDoes old (Received wait result) calls new = Asks old wait result calls × (new ≡ old)
GreetingDoes old (WasSent to bytes result) calls new = (calls ≡ WasSent to bytes result ∷ []) × (new ≡ old)

abbrev pub AnyOwn : Own → Type 0
AnyOwn own = Unit {0}
