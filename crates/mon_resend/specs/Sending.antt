-- What the link asks of the link below it, and what it keeps afterwards.
use Rattle.std.specs.Prelude.{◌≡◌, ℕ, ◌-◌, min, Bool, true, false, nat_lt, List, [], ◌∷◌, map, Result, Ok, Err, if◌then◌else◌, Option, IfSome}
use Rattle.std.specs.List.{flat_map}
use Rattle.mon_link.specs.Clocks.{Readings, reading, after}
use Rattle.mon_link.specs.Links.{LinkState, CallsNext, CallsSend}
use Rattle.mon_link.specs.declared.link.Got.{Got}
use Rattle.mon_link.specs.declared.link.Got.TheVariants.{Datagram, Idle, Closed}
use Rattle.mon_link.specs.declared.link.Outgoing.{Outgoing}
use Rattle.mon_link.specs.declared.link.Peer.{Peer}
use Rattle.mon_link.specs.declared.link.Peer.TheVariants.{Monitor, Client}
use Rattle.mon_types.specs.declared.names.Stop.{Stop}
use Rattle.mon_resend.specs.declared.copies.Copies.{Copies}
use Rattle.mon_resend.specs.declared.resending.TheConstants.{RUN}
use Rattle.mon_resend.specs.Notes.{plus}
use Rattle.mon_resend.specs.World.{sent, is_sent_now, arrived, is_taken, all_due_copies, all_passed, due_of}

-- the datagrams that are kept
abbrev pub outs : Copies → List Outgoing
outs c = flat_map (λ b. map (λ k. k.out) b.shelf) c.boxes

-- A link was asked to send these, in order, and for nothing else. Any of the calls may fail.
abbrev pub SendsEach : List Outgoing → LinkState → LinkState → Type 0
SendsEach [] old new = new ≡ old
SendsEach (d ∷ more) old new = (result : Result (Unit {0}) Stop) × (between : LinkState) × CallsSend d.to d.bytes result old between × SendsEach more between new

-- what a clock shows at its next reading, and at the one after it
abbrev pub Shows : Option Readings → ℕ → Type 0
Shows left now = IfSome left (λ r. now ≡ reading r)

abbrev pub ShowsThen : Option Readings → ℕ → Type 0
ShowsThen left now = IfSome left (λ r. now ≡ reading (after r))

-- ---- `next`

-- how many datagrams came in a row; from 0 again after RUN of them, since copies are sent then
abbrev pub run_after : Got → ℕ → ℕ
run_after (Datagram from bytes) run = if nat_lt (plus run 1) RUN then plus run 1 else 0
run_after Idle run = 0
run_after Closed run = 0

-- Messages may be sent again: the link below gave no datagram, so no answer waits in it; or RUN came in a row.
abbrev pub may_go : Got → ℕ → Bool
may_go (Datagram from bytes) run = if nat_lt (plus run 1) RUN then false else true
may_go Idle run = true
may_go Closed run = true

abbrev pub with_got : (memory : Bool) → Got → ℕ → Copies → Copies
with_got memory (Datagram (Monitor rank) bytes) now c = arrived memory rank bytes now c
with_got memory (Datagram (Client number) bytes) now c = c
with_got memory Idle now c = c
with_got memory Closed now c = c

abbrev pub isnt_handed_up : Got → ℕ → Copies → Bool
isnt_handed_up (Datagram (Monitor rank) bytes) now c = is_taken rank bytes now c
isnt_handed_up (Datagram (Client number) bytes) now c = false
isnt_handed_up Idle now c = false
isnt_handed_up Closed now c = false

-- The link below gave `came`. Then it was asked to send the due copies.
pub record Gave (came : Got) (memory : Bool) (now run : ℕ) (old : Copies) (between : LinkState) (result : Result Got Stop) (new : Copies) (link : LinkState) : Type 0 where
  pub hands_up : result ≡ Ok (if isnt_handed_up came now old then Idle else came)
  pub kept : new ≡ all_passed (may_go came run) now (with_got memory came now old)
  pub sends : SendsEach (all_due_copies (may_go came run) now (with_got memory came now old)) between link

abbrev pub AfterNext : Result Got Stop → (memory : Bool) → (now run : ℕ) → Copies → LinkState → Result Got Stop → (run_now : ℕ) → Copies → LinkState → Type 0
AfterNext (Ok came) memory now run old between result run_now new link = Gave came memory now run old between result new link × (run_now ≡ run_after came run)
AfterNext (Err e) memory now run old between result run_now new link = (result ≡ Err e) × (new ≡ old) × (link ≡ between) × (run_now ≡ run)

-- The link below was asked once, with a wait until the next copy is due at most, and then to send the due copies.
pub record Receives (wait : ℕ) (clock : Option Readings) (run : ℕ) (old : Copies) (before : LinkState) (result : Result Got Stop) (run_now : ℕ) (new : Copies) (link : LinkState) : Type 0 where
  pub first : ℕ
  pub second : ℕ
  pub shows : Shows clock first
  pub shows_then : ShowsThen clock second
  pub gave : Result Got Stop
  pub memory : Bool
  pub between : LinkState
  pub asks : CallsNext (min wait (due_of old - first)) gave before between
  pub then_does : AfterNext gave memory second run old between result run_now new link

-- ---- `send`

abbrev pub SendsNow : Bool → Peer → List ℕ → Result (Unit {0}) Stop → LinkState → LinkState → Type 0
SendsNow true to bytes result old new = CallsSend to bytes result old new
SendsNow false to bytes result old new = (result ≡ Ok tt) × (new ≡ old)

-- A datagram for another monitor is sent, or waits for the answer to an earlier one, or is lost.
pub record Keeps (rank : ℕ) (bytes : List ℕ) (clock : Option Readings) (old : Copies) (before : LinkState) (result : Result (Unit {0}) Stop) (new : Copies) (link : LinkState) : Type 0 where
  pub now : ℕ
  pub shows : Shows clock now
  pub memory : Bool
  pub kept : new ≡ sent memory rank bytes now old
  pub sends : SendsNow (is_sent_now rank bytes now old) (Monitor rank) bytes result before link

-- A datagram for a client is sent.
abbrev pub Sends : Peer → List ℕ → Option Readings → Copies → LinkState → Result (Unit {0}) Stop → Copies → LinkState → Type 0
Sends (Monitor rank) bytes clock old before result new link = Keeps rank bytes clock old before result new link
Sends (Client number) bytes clock old before result new link = CallsSend (Client number) bytes result before link × (new ≡ old)
