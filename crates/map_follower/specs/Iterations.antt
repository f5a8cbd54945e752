-- The iterations of a client that follows, as a function of what its link returns.
use Rattle.std.specs.Prelude.{◌≡◌, ◌⊎◌, ℕ, ◌+◌, ◌%◌, ◌==◌, ◌≤◌, List, [], ◌∷◌, ◌++◌, length, take, Option, Some, None, IfSome, Result, Ok, Err, codes, decimal, option_map, if◌then◌else◌}
use Rattle.mon_frag.specs.Keeping.{taken as piece_taken}
use Rattle.mon_frag.specs.Whole.{answer_in, kept_in}
use Rattle.mon_frag.specs.declared.partial.Partial.{Partial}
use Rattle.mon_link.specs.Links.{Observed, Answers, next_answer, next_leaves, asked_to_send}
use Rattle.mon_link.specs.declared.link.Got.{Got}
use Rattle.mon_link.specs.declared.link.Got.TheVariants.{Datagram, Idle, Closed}
use Rattle.mon_link.specs.declared.link.Peer.{Peer}
use Rattle.mon_link.specs.declared.link.Peer.TheVariants.{Monitor, Client}
use Rattle.mon_types.specs.Faults.{risen}
use Rattle.mon_types.specs.declared.names.Stop.{Stop}
use Rattle.mon_types.specs.declared.names.Stop.TheVariants as stop
use Rattle.mon_wire.specs.Message.Whole.{message_of, text}
use Rattle.mon_wire.specs.declared.body.Body.{Body}
use Rattle.mon_wire.specs.declared.body.Body.TheVariants as body
use Rattle.mon_wire.specs.declared.message.Message.{Message}
use Rattle.mon_wire.specs.declared.refusal.MsgRefused.{MsgRefused}
use Rattle.mon_wire.specs.declared.reply.Reply.{Reply}
use Rattle.mon_wire.specs.declared.request.Request.TheVariants as request
use Rattle.schedule_text.specs.Words.{service_text}
use Rattle.trace_text.specs.Shown.{shown_text}
use Rattle.map_follower.specs.Copies.{Taken, service_of, taken}
use Rattle.map_follower.specs.declared.end.FollowEnd.{FollowEnd}
use Rattle.map_follower.specs.declared.end.FollowEnd.TheVariants as end
use Rattle.map_follower.specs.declared.follower.Follower.{Follower}
use Rattle.map_follower.specs.declared.took.Took.TheVariants as took

-- the copy, the messages of which not all pieces came, the number of requests, what the link reports, and what was written
pub record Course : Type 0 where
  pub follower : Follower
  pub parts : List Partial
  pub asks : ℕ
  pub link : Option Observed
  pub written : Option (List ℕ)

-- ---- what is asked

-- the next request after `asks`, to n monitors one after the other
abbrev pub request_of : (n asks : ℕ) → Follower → Message
request_of n asks f = record {
  from = 0;
  monitors = n;
  epoch = 0;
  body = body.Request (asks + 1) (request.Since (service_of f.map) f.version);
}

abbrev pub asked : ℕ → Course → Course
asked n c = record c {
  asks = c.asks + 1;
  link = option_map (asked_to_send (Monitor (c.asks % n)) (text (request_of n c.asks c.follower))) c.link;
}

-- ---- what comes

abbrev pub reply_of : Body → Option Reply
reply_of (body.Reply id r) = Some r
reply_of other = None

abbrev pub from_monitor : (n : ℕ) → Peer → Message → Option Reply
from_monitor n (Monitor rank) m = if m.monitors == n then (if m.from == rank then reply_of m.body else None) else None
from_monitor n (Client client) m = None

abbrev pub reply_read : (n : ℕ) → Peer → Result Message MsgRefused → Option Reply
reply_read n from (Ok m) = from_monitor n from m
reply_read n from (Err e) = None

-- the reply that a datagram completes
abbrev pub reply_in : (n : ℕ) → Peer → Option (List ℕ) → Option Reply
reply_in n from None = None
reply_in n from (Some bytes) = reply_read n from (message_of bytes)

-- a newer copy is written as a line
abbrev pub copy_text : Follower → List ℕ
copy_text f = service_text (service_of f.map) ++ (codes " version=" ++ (decimal f.version ++ 32 ∷ (shown_text f.map ++ 10 ∷ [])))

abbrev pub line_of : Taken → List ℕ
line_of (f, took.Newer version) = copy_text f
line_of (f, _) = []

abbrev pub with_reply : Course → Option Reply → Course
with_reply c None = c
with_reply c (Some r) = record c {
  follower = (taken c.follower r).0;
  written = option_map (λ w. w ++ line_of (taken c.follower r)) c.written;
}

abbrev pub with_datagram : (n : ℕ) → Peer → List ℕ → Course → Course
with_datagram n from bytes c =
    with_reply (record c { parts = kept_in c.parts (piece_taken c.parts from bytes) }) (reply_in n from (answer_in (piece_taken c.parts from bytes)))

-- ---- an iteration, by what the link returns

pub record Iterated : Type 0 where
  pub course : Course
  pub stop : Option FollowEnd

abbrev pub answered : (n : ℕ) → Result Got Stop → Course → Iterated
answered n (Ok (Datagram from bytes)) c = record { course = with_datagram n from bytes c; stop = None }
answered n (Ok Idle) c = record { course = asked n c; stop = None }
answered n (Ok Closed) c = record { course = c; stop = Some end.Closed }
answered n (Err stop.Failed) c = record { course = c; stop = Some end.LinkFault }
answered n (Err stop.OutOfMemory) c = record { course = c; stop = Some end.OutOfMemory }

-- the link waits for one second at most
abbrev pub turned : (n : ℕ) → Result Got Stop → Course → Iterated
turned n g c = answered n g (record c { link = option_map (next_leaves 1000 g) c.link })

abbrev pub and_turned : (n : ℕ) → Result Got Stop → Iterated → Iterated
and_turned n g t = elim t.stop [ None ↦ turned n g t.course | Some e ↦ t ]

-- The iterations with these results, newest first. The first request is sent before all of them.
abbrev pub all_turned : (n : ℕ) → Course → List (Result Got Stop) → Iterated
all_turned n c [] = record { course = asked n c; stop = None }
all_turned n c (g ∷ earlier) = and_turned n g (all_turned n c earlier)

-- ---- how much of an iteration was done

abbrev pub first_sent : ℕ → Observed → Observed
first_sent k t = record t { sent = take k t.sent }

-- Of what an iteration sends and writes, a prefix was sent and written. All that was sent and written before the iteration
-- stays.
abbrev pub SentPrefix : (before whole new : Option Observed) → Type 0
SentPrefix before whole new = (k : ℕ) × IfSome before (λ t. length t.sent ≤ k) × (new ≡ option_map (first_sent k) whole)

abbrev pub WrittenPrefix : (before whole new : Option (List ℕ)) → Type 0
WrittenPrefix before whole new = (k : ℕ) × IfSome before (λ w. length w ≤ k) × (new ≡ option_map (take k) whole)

-- a line was written to the sink, or a prefix of it
abbrev pub Writes : Option (List ℕ) → Option (List ℕ) → List ℕ → Type 0
Writes old new line = new ≡ option_map (λ w. w ++ line) old

abbrev pub WritesPrefix : FollowEnd → Option (List ℕ) → Option (List ℕ) → List ℕ → Type 0
WritesPrefix end.WriteFault old new line = (k : ℕ) × Writes old new (take k line)
WritesPrefix end.OutOfMemory old new line = (k : ℕ) × Writes old new (take k line)
WritesPrefix other old new line = ⊥

-- The copy at an end. If memory ran out, it is the copy before the last iteration or the copy after it.
abbrev pub CopyAt : FollowEnd → (was now new : Follower) → Type 0
CopyAt end.OutOfMemory was now new = (new ≡ was) ⊎ (new ≡ now)
CopyAt e was now new = new ≡ now

-- What was sent and written at an end: all of the last iteration; or a prefix of its line, if writing failed; or a prefix of
-- its request and of its line, if memory ran out.
abbrev pub Outputs : FollowEnd → (before : Course) → Iterated → Course → Type 0
Outputs end.WriteFault before t new =
    (t.stop ≡ None) × (new.link ≡ t.course.link) × WrittenPrefix before.written t.course.written new.written
Outputs end.OutOfMemory before t new =
    SentPrefix before.link t.course.link new.link × WrittenPrefix before.written t.course.written new.written
Outputs end.TurnsUsed before t new = ⊥
Outputs e before t new = (t.stop ≡ Some e) × (new.link ≡ t.course.link) × (new.written ≡ t.course.written)

abbrev pub Ends : FollowEnd → (before : Course) → Iterated → Course → Type 0
Ends e before t new = CopyAt e before.follower t.course.follower new.follower × Outputs e before t new

abbrev pub Does : Result (Unit {0}) FollowEnd → (before : Course) → Iterated → Course → Type 0
Does (Ok x) before t new = t ≡ record { course = new; stop = None }
Does (Err e) before t new = Ends e before t new

-- an answer is the one that the link reports as its next, if it reports any
abbrev pub IsAnswer : Option Observed → Result Got Stop → Type 0
IsAnswer link g = IfSome link (λ t. Answers g (next_answer t))

abbrev pub AreAnswers : (n : ℕ) → Course → List (Result Got Stop) → Type 0
AreAnswers n c [] = Unit {0}
AreAnswers n c (g ∷ earlier) = AreAnswers n c earlier × IsAnswer (all_turned n c earlier).course.link g

-- the course before the last of these iterations
abbrev pub course_before : (n : ℕ) → Course → List (Result Got Stop) → Course
course_before n c [] = c
course_before n c (g ∷ earlier) = (all_turned n c earlier).course

-- How a client that follows ended: after all its iterations, or at one of them, or before the first because memory ran out.
abbrev pub EndsAfter : (turns : ℕ) → FollowEnd → (made : ℕ) → (before : Course) → Iterated → Course → Type 0
EndsAfter turns end.TurnsUsed made before t new = (made ≡ turns) × (t ≡ record { course = new; stop = None })
EndsAfter turns e made before t new = Ends e before t new

-- what the link returned at each iteration decides what was sent, written and taken
pub record Follows (n turns : ℕ) (old new : Course) (e : FollowEnd) : Type 0 where
  pub given : List (Result Got Stop)
  pub are : AreAnswers n old given
  pub most : length given ≤ turns
  pub ends : EndsAfter turns e (length given) (course_before n old given) (all_turned n old given) new

abbrev pub faults_at : FollowEnd → ℕ → ℕ
faults_at end.LinkFault faults = risen faults
faults_at other faults = faults

abbrev pub faults_by : Result (Unit {0}) FollowEnd → ℕ → ℕ
faults_by (Ok x) faults = faults
faults_by (Err e) faults = faults_at e faults

abbrev pub course : Follower → List Partial → ℕ → Option Observed → Option (List ℕ) → Course
course f parts asks link written = record { follower = f; parts = parts; asks = asks; link = link; written = written }

abbrev pub goes_on : Course → Iterated
goes_on c = record { course = c; stop = None }
