-- What becomes of requests that came to processes: at most one version each, and at most one answer each.
use Rattle.std.specs.Prelude.{◌≡◌, ℕ, ◌+◌, ◌<◌, ◌≤◌, List, [], ◌∷◌, length, Some, slice_get}
use Rattle.std.specs.List.{AllByRecursion}
use Rattle.mon_wire.specs.declared.request.Session.{Session}
use Rattle.network_answers.specs.Answers.{Answer}
use Rattle.quorum_commands.specs.Once.{IsOf}
use Rattle.quorum_commands.specs.Unmade.{AcknowledgesNone}
use Rattle.quorum_model.specs.World.{Asked}
use Rattle.quorum_replies.specs.Replies.{one_of, times_asked}

-- the number of the request that each version of the log is of, counted from 0
abbrev pub Requests : List (List ℕ) → Type 0
Requests log = (v : ℕ) → v < length log → ℕ

-- Each version of the log is the value of a request of its own. Versions that the log had at an earlier point in time
-- are of requests that came by then.
pub record AreMadeOnce (n : ℕ) (old_requests requests : List Asked) (old_log log : List (List ℕ)) : Type 0 where
  pub request : Requests log
  pub is : (v : ℕ) (within : v < length log) → IsOf n requests log v (request v within)
  pub once : (u v : ℕ) (low : u < length log) (high : v < length log) → request u low ≡ request v high → u ≡ v
  pub earlier : (v : ℕ) (within : v < length log) → v < length old_log → request v within < length old_requests

-- The answer's session asked its monitor a request of which no version is. If it asked the monitor only once, that is
-- the request answered.
pub record HasUnmade (requests : List Asked) (log : List (List ℕ)) (request : Requests log) (a : Answer) : Type 0 where
  pub k : ℕ
  pub by : Asked
  pub at : slice_get requests k ≡ Some by
  pub rank : by.rank ≡ a.rank
  pub session : by.session ≡ a.session
  pub none : (v : ℕ) (within : v < length log) → ¬ (request v within ≡ k)

-- Each version of the log is the value of a request of its own. Each answer other than Done is to a session with a
-- request of which no version is, whether older or newer than the answer.
pub record AreUnmade (n : ℕ) (requests : List Asked) (log : List (List ℕ)) (answers : List Answer) : Type 0 where
  pub request : Requests log
  pub is : (v : ℕ) (within : v < length log) → IsOf n requests log v (request v within)
  pub once : (u v : ℕ) (low : u < length log) (high : v < length log) → request u low ≡ request v high → u ≡ v
  pub refused : AllByRecursion (λ (a : Answer). AcknowledgesNone a.reply → HasUnmade requests log request a) answers

-- how often monitor i answered the session
abbrev pub times_answered : (i : ℕ) → Session → List Answer → ℕ
times_answered i t [] = 0
times_answered i t (a ∷ answers) = one_of i t a.rank a.session + times_answered i t answers

-- each monitor answered each session no more often than the session's requests came to it
abbrev pub AreAnsweredOnce : List Asked → List Answer → Type 0
AreAnsweredOnce requests answers = (i : ℕ) (t : Session) → times_answered i t answers ≤ times_asked i t requests
