-- What a link that names a quorum and numbers a life asks of the link below, and makes of what that gives.
use Rattle.std.specs.Prelude.{◌≡◌, ◌⊎◌, ℕ, zero, suc, Bool, true, false, not, List, Option, Some, None, is_some, Result, Ok, Err}
use Rattle.mon_link.specs.Links.{LinkState, CallsNext}
use Rattle.mon_link.specs.declared.link.Got.{Got}
use Rattle.mon_link.specs.declared.link.Got.TheVariants.{Datagram, Idle, Closed}
use Rattle.mon_link.specs.declared.link.Peer.{Peer}
use Rattle.mon_link.specs.declared.link.Peer.TheVariants.{Monitor, Client}
use Rattle.mon_types.specs.declared.names.Stop.{Stop}
use Rattle.mon_types.specs.declared.names.Stop.TheVariants.{OutOfMemory}
use Rattle.mon_name.specs.Frames.{framed, unframed}
use Rattle.mon_name.specs.Numbers.{renumbered}
use Rattle.mon_name.specs.declared.named.TheConstants.{MOST_FOREIGN}

-- a datagram as it goes over the wire
abbrev pub wired : (tag life : ℕ) → Peer → List ℕ → List ℕ
wired tag life (Monitor j) bytes = framed tag (renumbered life bytes)
wired tag life (Client c) bytes = renumbered life bytes

-- the datagram that was in the frame; nothing came if none was
abbrev pub if_framed : Peer → Option (List ℕ) → Got
if_framed from (Some bytes) = Datagram from bytes
if_framed from None = Idle

abbrev pub taken_off : (tag : ℕ) → Peer → List ℕ → Got
taken_off tag (Monitor j) bytes = if_framed (Monitor j) (unframed tag bytes)
taken_off tag (Client c) bytes = Datagram (Client c) bytes

abbrev pub off_got : (tag : ℕ) → Got → Got
off_got tag (Datagram from bytes) = taken_off tag from bytes
off_got tag Idle = Idle
off_got tag Closed = Closed

-- what the link below gave, without its frame
abbrev pub without_frame : (tag : ℕ) → Result Got Stop → Result Got Stop
without_frame tag (Ok got) = Ok (off_got tag got)
without_frame tag (Err e) = Err e

-- whether this is a foreign datagram: one from a monitor's address, not in the frame of this tag
abbrev pub is_foreign_from : (tag : ℕ) → Peer → List ℕ → Bool
is_foreign_from tag (Monitor j) bytes = not (is_some (unframed tag bytes))
is_foreign_from tag (Client c) bytes = false

abbrev pub is_foreign : (tag : ℕ) → Result Got Stop → Bool
is_foreign tag (Ok (Datagram from bytes)) = is_foreign_from tag from bytes
is_foreign tag (Ok Idle) = false
is_foreign tag (Ok Closed) = false
is_foreign tag (Err e) = false

-- what was given is handed on without its frame, unless it is foreign
abbrev pub IsHanded : (tag : ℕ) → Got → Option Got → Type 0
IsHanded tag got (Some x) = (is_foreign tag (Ok got) ≡ false) × (x ≡ off_got tag got)
IsHanded tag got None = is_foreign tag (Ok got) ≡ true

-- memory ran out, or what was given is handed on
abbrev pub Opens : {E : Type 0} → (tag : ℕ) → Got → Result (Option Got) E → Type 0
Opens tag got (Ok x) = IsHanded tag got x
Opens tag got (Err e) = is_foreign tag (Ok got) ≡ false

-- The link below was asked once.
abbrev pub IsOpened : (tag : ℕ) → Result Got Stop → Result (Option Got) Stop → Type 0
IsOpened tag (Ok got) (Ok x) = IsHanded tag got x
IsOpened tag (Ok got) (Err e) = (is_foreign tag (Ok got) ≡ false) × (e ≡ OutOfMemory)
IsOpened tag (Err e) result = result ≡ Err e

pub record Takes (tag wait : ℕ) (result : Result (Option Got) Stop) (old new : LinkState) : Type 0 where
  pub gave : Result Got Stop
  pub asks : CallsNext wait gave old new
  pub opens : IsOpened tag gave result

-- After a foreign datagram the link below is asked again. Any other answer is the last one, and nothing more is asked.
abbrev pub Unless : (foreign : Bool) → (Again : Result Got Stop → LinkState → LinkState → Type 0)
    → (answer last : Result Got Stop) → (old new : LinkState) → Type 0
Unless true Again answer last old new = Again last old new
Unless false Again answer last old new = (last ≡ answer) × (new ≡ old)

-- The link below was asked with the wait `wait`, and its last answer was `last`. After each foreign datagram it was
-- asked again without waiting, at most `most` times.
unfoldable pub AsksPast : (most : ℕ) → (tag wait : ℕ) → (last : Result Got Stop) → (old new : LinkState) → Type 0
AsksPast zero tag wait last old new = CallsNext wait last old new
AsksPast (suc most) tag wait last old new =
    (answer : Result Got Stop) × (between : LinkState) × CallsNext wait answer old between
    × Unless (is_foreign tag answer) (AsksPast most tag 0) answer last between new

abbrev pub IsGiven : Result Got Stop → Type 0
IsGiven (Ok got) = Unit {0}
IsGiven (Err e) = ⊥

-- What the link below gave is handed on without its frame, unless memory ran out.
abbrev pub HandsOn : (tag : ℕ) → (gave result : Result Got Stop) → Type 0
HandsOn tag gave result = (result ≡ without_frame tag gave) ⊎ ((result ≡ Err OutOfMemory) × IsGiven gave)

-- The link below was asked past foreign datagrams, and its last answer is handed on.
pub record Unframes (tag wait : ℕ) (result : Result Got Stop) (old new : LinkState) : Type 0 where
  pub gave : Result Got Stop
  pub asks : AsksPast MOST_FOREIGN tag wait gave old new
  pub hands : HandsOn tag gave result
