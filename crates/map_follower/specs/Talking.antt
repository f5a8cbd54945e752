-- What the link of a client that follows was asked, and what it returned.
use Rattle.std.specs.Prelude.{◌≡◌, ◌⊎◌, ℕ, ◌%◌, List, [], ◌∷◌, ◌++◌, Option, Some, None, Result, Ok, Err}
use Rattle.mon_link.specs.Histories.{Happened, GoOn}
use Rattle.mon_link.specs.Histories.Happened.{Received, WasSent}
use Rattle.mon_link.specs.declared.link.Got.{Got}
use Rattle.mon_link.specs.declared.link.Got.TheVariants.{Idle}
use Rattle.mon_link.specs.declared.link.Peer.TheVariants.{Monitor}
use Rattle.mon_link.specs.declared.link.Peer.{Peer}
use Rattle.mon_types.specs.declared.names.Stop.{Stop}
use Rattle.mon_types.specs.declared.names.Stop.TheVariants.{OutOfMemory}
use Rattle.mon_wire.specs.Message.Whole.{text}
use Rattle.map_follower.specs.Iterations.{Course, all_turned, request_of}
use Rattle.map_follower.specs.declared.end.FollowEnd.{FollowEnd}
use Rattle.map_follower.specs.declared.end.FollowEnd.TheVariants as end

-- what the link returned to a request, if one was sent
abbrev pub Answer : Type 0
Answer = Option (Result (Unit {0}) Stop)

-- the next request of a course was sent, and the link returned this
abbrev pub request_sent : (n : ℕ) → Course → Result (Unit {0}) Stop → Happened
request_sent n c a = WasSent (Monitor (c.asks % n)) (text (request_of n c.asks c.follower)) a

abbrev pub asked_with : (n : ℕ) → Course → Answer → List Happened
asked_with n c None = []
asked_with n c (Some a) = request_sent n c a ∷ []

-- What happened on the link, oldest first, by what it returned at each iteration and to each request. Both are listed
-- newest first, and what it returned to the first request is listed last.
abbrev pub happened : (n : ℕ) → Course → (given : List (Result Got Stop)) → List Answer → List Happened
happened n c given [] = []
happened n c [] (a ∷ others) = asked_with n c a
happened n c (g ∷ earlier) (a ∷ others) =
    happened n c earlier others ++ (Received 1000 g ∷ asked_with n (all_turned n c earlier).course a)

-- a request was sent, or is lost: memory was enough
abbrev pub Went : Answer → Type 0
Went None = ⊥
Went (Some a) = ¬ (a ≡ Err OutOfMemory)

-- in an iteration that is completed a request is sent if and only if nothing came in time
abbrev pub WentBy : Result Got Stop → Answer → Type 0
WentBy (Ok Idle) a = Went a
WentBy other a = a ≡ None

-- memory ran out before a request was sent, or as it was
abbrev pub Lacked : Answer → Type 0
Lacked a = (a ≡ None) ⊎ (a ≡ Some (Err OutOfMemory))

-- the first request was sent, and all of these iterations were completed
abbrev pub AllWent : (given : List (Result Got Stop)) → List Answer → Type 0
AllWent given [] = ⊥
AllWent [] (a ∷ others) = Went a × (others ≡ [])
AllWent (g ∷ earlier) (a ∷ others) = WentBy g a × AllWent earlier others

-- the same, but the client ended so at the last one
abbrev pub LackedAt : FollowEnd → Answer → Type 0
LackedAt end.OutOfMemory a = Lacked a
LackedAt other a = a ≡ None

abbrev pub AsksBy : {T : Type 0} → Result T FollowEnd → Answer → Type 0
AsksBy (Ok x) a = Went a
AsksBy (Err e) a = LackedAt e a

abbrev pub WentAt : Result (Unit {0}) FollowEnd → Result Got Stop → Answer → Type 0
WentAt (Ok x) g a = WentBy g a
WentAt (Err e) g a = LackedAt e a

abbrev pub WentUntil : FollowEnd → (given : List (Result Got Stop)) → List Answer → Type 0
WentUntil e given [] = ⊥
WentUntil end.TurnsUsed given (a ∷ others) = AllWent given (a ∷ others)
WentUntil e [] (a ∷ others) = LackedAt e a × (others ≡ [])
WentUntil e (g ∷ earlier) (a ∷ others) = LackedAt e a × AllWent earlier others

-- ---- calls

-- the link was asked once to send this; if memory ran out, as it was
abbrev pub Sends : {T E : Type 0} → (to : Peer) → (bytes : List ℕ) → Result T E → (before after : List Happened → Type 0)
    → Type 0
Sends to bytes (Ok x) before after =
    (a : Result (Unit {0}) Stop) × ¬ (a ≡ Err OutOfMemory) × GoOn before (WasSent to bytes a ∷ []) after
Sends to bytes (Err e) before after = GoOn before (WasSent to bytes (Err OutOfMemory) ∷ []) after

-- the same, or memory ran out before
abbrev pub SendsOrNot : {T E : Type 0} → (to : Peer) → (bytes : List ℕ) → Result T E
    → (before after : List Happened → Type 0) → Type 0
SendsOrNot to bytes (Ok x) before after = Sends {E = Unit {0}} to bytes (Ok x) before after
SendsOrNot to bytes (Err e) before after = GoOn before [] after ⊎ Sends {T = Unit {0}} to bytes (Err e) before after

-- the next request of a course was sent, or not
pub record Asks {T : Type 0} (n : ℕ) (c : Course) (result : Result T FollowEnd) (before after : List Happened → Type 0)
    : Type 0 where
  pub answer : Answer
  pub went : AsksBy result answer
  pub goes_on : GoOn before (asked_with n c answer) after

-- an iteration from this course on, in which the link returned `g`
pub record TalkIteration (n : ℕ) (c : Course) (g : Result Got Stop) (result : Result (Unit {0}) FollowEnd)
    (before after : List Happened → Type 0) : Type 0 where
  pub answer : Answer
  pub went : WentAt result g answer
  pub goes_on : GoOn before (Received 1000 g ∷ asked_with n c answer) after

-- What happened on the link while a client followed: each history of the link goes on so.
pub record Talks (n : ℕ) (c : Course) (e : FollowEnd) (given : List (Result Got Stop))
    (before after : List Happened → Type 0) : Type 0 where
  pub answers : List Answer
  pub went : WentUntil e given answers
  pub goes_on : GoOn before (happened n c given answers) after
