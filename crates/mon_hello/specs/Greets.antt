-- What a link that greets asks of the link below, and what it hands up.
use Rattle.std.specs.Prelude.{◌≡◌, ◌⊎◌, ℕ, zero, suc, ◌+◌, nat_le, ◌==◌, Bool, false, List, [], ◌∷◌, ◌++◌, Option, Some, None, IfSome, option_map, Result, Ok, Err, if◌then◌else◌}
use Rattle.answer_times.specs.Times.{after_asking, is_answered}
use Rattle.mon_link.specs.Clocks.{Readings, reading, after}
use Rattle.mon_link.specs.Links.{LinkState, CallsNext, CallsSend}
use Rattle.mon_link.specs.declared.link.Got.{Got}
use Rattle.mon_link.specs.declared.link.Got.TheVariants.{Datagram, Idle, Closed}
use Rattle.mon_link.specs.declared.link.Outgoing.{Outgoing}
use Rattle.mon_link.specs.declared.link.Peer.{Peer}
use Rattle.mon_link.specs.declared.link.Peer.TheVariants.{Monitor, Client}
use Rattle.mon_types.specs.declared.names.Stop.{Stop}
use Rattle.mon_types.specs.declared.names.Stop.TheVariants.{Failed, OutOfMemory}
use Rattle.mon_bytes.specs.declared.command.MapRefused.{MapRefused}
use Rattle.mon_hello.specs.declared.hello.Hello.{Hello}
use Rattle.mon_hello.specs.declared.greeting.TheConstants.{INTERVAL}
use Rattle.mon_hello.specs.declared.own.Own.{Own}
use Rattle.mon_hello.specs.Formats.{hello_of, is_mark}

-- a hello begins with the byte 04, or with 06 if it answers another one
abbrev pub is_hello : List ℕ → Bool
is_hello [] = false
is_hello (b ∷ bytes) = is_mark b

-- what is handed up: Idle in place of a hello
abbrev pub passed : Got → Got
passed (Datagram from bytes) = if is_hello bytes then Idle else Datagram from bytes
passed Idle = Idle
passed Closed = Closed

-- ---- what is sent

-- an answer isn't answered
abbrev pub asked_by : ℕ → Result Hello MapRefused → Option ℕ
asked_by c (Ok h) = if h.answers then None else Some c
asked_by c (Err e) = None

-- the client that sent a hello that is no answer
abbrev pub asker : Got → Option ℕ
asker (Datagram (Client c) bytes) = asked_by c (hello_of bytes)
asker (Datagram (Monitor j) bytes) = None
asker Idle = None
asker Closed = None

-- of the client that asked, what the table of times says: whether it is answered now, and the times that follow
abbrev pub admitted : (now : ℕ) → (untils : List ℕ) → Option ℕ → Option ℕ
admitted now untils None = None
admitted now untils (Some c) = if is_answered c now untils then Some c else None

abbrev pub untils_after : (now : ℕ) → Option ℕ → (untils : List ℕ) → List ℕ
untils_after now None untils = untils
untils_after now (Some c) untils = after_asking c now untils

abbrev pub outgoing : Peer → List ℕ → Outgoing
outgoing to bytes = record { to = to; bytes = bytes }

abbrev pub answer : List ℕ → Option ℕ → List Outgoing
answer bytes None = []
answer bytes (Some c) = outgoing (Client c) bytes ∷ []

abbrev pub to_other : ℕ → ℕ → List ℕ → List Outgoing
to_other own k bytes = if k == own then [] else outgoing (Monitor k) bytes ∷ []

-- one to each of the first n monitors but one's own
abbrev pub round : ℕ → ℕ → List ℕ → List Outgoing
round own zero bytes = []
round own (suc k) bytes = round own k bytes ++ to_other own k bytes

-- When the next round of hellos is due, until when each client waits for an answer, and the readings of the clock to
-- come, if they are known.
pub record Rounds : Type 0 where
  pub due : ℕ
  pub untils : List ℕ
  pub left : Option Readings

abbrev pub rounds : ℕ → List ℕ → Option Readings → Rounds
rounds due untils left = record { due = due; untils = untils; left = left }

-- whether a round is due at this time
abbrev pub is_due : ℕ → Rounds → Bool
is_due now r = nat_le r.due now

-- an answer to a client, if there is one to answer, and a hello to each other monitor, if a round is due
abbrev pub hellos_to : Own → Option ℕ → (due : Bool) → List Outgoing
hellos_to own client due =
    answer own.answer client ++ (if due then round own.member.rank own.member.monitors own.datagram else [])

-- The hellos that are sent after the link below gave something at this time: to a client that sent one and doesn't wait,
-- and to the other monitors, if a round is due.
abbrev pub hellos : Own → Rounds → (now : ℕ) → Got → List Outgoing
hellos own r now got = hellos_to own (admitted now r.untils (asker got)) (is_due now r)

-- A datagram that failed is followed by the next one. Once memory ran out nothing more is sent, and that is the result.
abbrev pub Follows : (answered : Result (Unit {0}) Stop) → (Result (Unit {0}) Stop → LinkState → LinkState → Type 0)
    → (result : Result (Unit {0}) Stop) → (old new : LinkState) → Type 0
Follows (Ok x) Rest result old new = Rest result old new
Follows (Err Failed) Rest result old new = Rest result old new
Follows (Err OutOfMemory) Rest result old new = (result ≡ Err OutOfMemory) × (new ≡ old)

-- The link was asked once to send each of these, in order, up to one for which it had no memory.
abbrev pub SendsAll : List Outgoing → (result : Result (Unit {0}) Stop) → (old new : LinkState) → Type 0
SendsAll [] result old new = (result ≡ Ok tt) × (new ≡ old)
SendsAll (out ∷ outs) result old new =
    (answered : Result (Unit {0}) Stop) × (between : LinkState)
    × CallsSend out.to out.bytes answered old between × Follows answered (SendsAll outs) result between new

-- ---- a call of `next`

-- what the link below gave is handed up once all hellos were sent
abbrev pub handed : Got → Result (Unit {0}) Stop → Result Got Stop
handed got (Ok x) = Ok (passed got)
handed got (Err e) = Err e

-- after a round was sent, the next one is due 10 s later
abbrev pub due_after : Result (Unit {0}) Stop → Rounds → (now : ℕ) → ℕ
due_after (Ok x) r now = if is_due now r then now + INTERVAL else r.due
due_after (Err e) r now = r.due

-- The link below gave `got`. The clock is read once, and the hellos that are due at that time are sent.
pub record Greets (own : Own) (got : Got) (result : Result Got Stop) (r after_it : Rounds)
    (old new : LinkState) : Type 0 where
  pub now : ℕ
  pub shows : IfSome r.left (λ left. now ≡ reading left)
  pub reads : after_it.left ≡ option_map after r.left
  pub went : Result (Unit {0}) Stop
  pub sends : SendsAll (hellos own r now got) went old new
  pub hands : result ≡ handed got went
  pub due : after_it.due ≡ due_after went r now
  pub untils : after_it.untils ≡ untils_after now (asker got) r.untils

-- Memory ran out before any hello was sent, which may happen whatever the link below gave. A due round stays due.
pub record FindsNoMemory (result : Result Got Stop) (r after_it : Rounds) (old new : LinkState) : Type 0 where
  pub reads : after_it.left ≡ option_map after r.left
  pub answer : result ≡ Err OutOfMemory
  pub due : after_it.due ≡ r.due
  pub untils : after_it.untils ≡ r.untils
  pub below : new ≡ old

-- After the link below gave something, hellos are sent and it is handed up. An error is returned as it is, and nothing
-- is done.
abbrev pub Passes : Own → (gave result : Result Got Stop) → (r after_it : Rounds) → (old new : LinkState)
    → Type 0
Passes own (Err e) result r after_it old new = (result ≡ Err e) × (after_it ≡ r) × (new ≡ old)
Passes own (Ok got) result r after_it old new =
    Greets own got result r after_it old new ⊎ FindsNoMemory result r after_it old new

-- The link below was asked once, with the same wait, and then only to send hellos.
pub record AsksOnce (own : Own) (wait : ℕ) (result : Result Got Stop) (r after_it : Rounds)
    (old new : LinkState) : Type 0 where
  pub gave : Result Got Stop
  pub between : LinkState
  pub asks : CallsNext wait gave old between
  pub passes : Passes own gave result r after_it between new
