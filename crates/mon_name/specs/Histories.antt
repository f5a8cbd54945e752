-- What a call of each of the two links makes of calls of the link below.
use Rattle.std.specs.Prelude.{◌≡◌, ◌≤◌, ◌⊎◌, ℕ, List, [], ◌∷◌, ◌++◌, length, true, false, Option, Result, Ok, Err}
use Rattle.std.specs.List.{AllByRecursion}
use Rattle.mon_link.specs.Histories.{Happened}
use Rattle.mon_link.specs.Histories.Happened.{Received, WasSent}
use Rattle.mon_link.specs.declared.link.Got.{Got}
use Rattle.mon_link.specs.declared.link.Got.TheVariants.{Closed}
use Rattle.mon_link.specs.declared.link.Peer.{Peer}
use Rattle.mon_types.specs.declared.names.Stop.{Stop}
use Rattle.mon_types.specs.declared.names.Stop.TheVariants.{OutOfMemory}
use Rattle.mon_name.specs.Awake.{Gaps, Reads, unless_stood}
use Rattle.mon_name.specs.Naming.{HandsOn, IsOpened, is_foreign, wired}
use Rattle.mon_name.specs.declared.named.TheConstants.{MOST_FOREIGN}

-- ---- a link that names its quorum

-- the tag of the quorum and the number of the life
pub record Names : Type 0 where
  pub tag : ℕ
  pub life : ℕ

abbrev pub names : (tag life : ℕ) → Names
names tag life = record { tag = tag; life = life }

-- A link was asked with this wait, and then again without waiting. These are its answers.
abbrev pub asked : (wait : ℕ) → List (Result Got Stop) → List Happened
asked wait [] = []
asked wait (answer ∷ answers) = Received wait answer ∷ asked 0 answers

-- it was asked once
abbrev pub IsAskedOnce : (tag wait : ℕ) → Result (Option Got) Stop → List Happened → Type 0
IsAskedOnce tag wait result calls =
    (gave : Result Got Stop) × (calls ≡ Received wait gave ∷ []) × IsOpened tag gave result

-- It was asked past at most MOST_FOREIGN foreign datagrams, and its last answer is handed on.
pub record IsAskedPast (tag wait : ℕ) (result : Result Got Stop) (calls : List Happened) : Type 0 where
  pub past : List (Result Got Stop)
  pub last : Result Got Stop
  pub are : calls ≡ asked wait (past ++ last ∷ [])
  pub foreign : AllByRecursion (λ answer. is_foreign tag answer ≡ true) past
  pub most : length past ≤ MOST_FOREIGN
  pub ends : (is_foreign tag last ≡ false) ⊎ (length past ≡ MOST_FOREIGN)
  pub hands : HandsOn tag last result

-- it was asked to send this, unless memory ran out before
abbrev pub IsAskedToSend : Peer → List ℕ → Result (Unit {0}) Stop → List Happened → Type 0
IsAskedToSend to bytes result calls = (calls ≡ WasSent to bytes result ∷ []) ⊎ ((result ≡ Err OutOfMemory) × (calls ≡ []))

abbrev pub NamedDoes : Names → Happened → List Happened → Names → Type 0
NamedDoes old (Received wait result) calls new = IsAskedPast old.tag wait result calls × (new ≡ old)
NamedDoes old (WasSent to bytes result) calls new =
    IsAskedToSend to (wired old.tag old.life to bytes) result calls × (new ≡ old)

abbrev pub AnyNames : Names → Type 0
AnyNames n = Unit {0}

-- ---- a link that is closed after the first gap

-- The link below was asked once, and then the clock was read. If there was a gap, what came is dropped; an error isn't.
pub record IsAskedAwake (wait : ℕ) (result : Result Got Stop) (old new : Gaps) (calls : List Happened) : Type 0 where
  pub gave : Result Got Stop
  pub are : calls ≡ Received wait gave ∷ []
  pub reads : Reads old new
  pub answer : result ≡ unless_stood new.stood gave

-- The clock was read. After a gap the link is closed, and the one below wasn't asked.
pub record AsksBelow (wait : ℕ) (result : Result Got Stop) (old new : Gaps) (calls : List Happened) : Type 0 where
  pub first : Gaps
  pub reads : Reads old first
  pub does : ((first.stood ≡ true) × (result ≡ Ok Closed) × (new ≡ first) × (calls ≡ []))
      ⊎ ((first.stood ≡ false) × IsAskedAwake wait result first new calls)

-- The clock was read. After a gap nothing is sent.
pub record SendsBelow (to : Peer) (bytes : List ℕ) (result : Result (Unit {0}) Stop) (old new : Gaps) (calls : List Happened) : Type 0 where
  pub reads : Reads old new
  pub does : ((new.stood ≡ true) × (result ≡ Ok tt) × (calls ≡ []))
      ⊎ ((new.stood ≡ false) × (calls ≡ WasSent to bytes result ∷ []))

abbrev pub AwakeDoes : Gaps → Happened → List Happened → Gaps → Type 0
AwakeDoes old (Received wait result) calls new = AsksBelow wait result old new calls
AwakeDoes old (WasSent to bytes result) calls new = SendsBelow to bytes result old new calls

-- no gap was seen yet
abbrev pub NotStood : Gaps → Type 0
NotStood g = g.stood ≡ false
