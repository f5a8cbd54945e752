-- That a session which gets a reply other than Done has a request that makes no version of the log.
use Rattle.std.specs.Prelude.{◌≡◌, ℕ, ◌<◌, length, Some, slice_get}
use Rattle.std.specs.List.{AllByRecursion}
use Rattle.mon_wire.specs.declared.reply.Reply.{Reply}
use Rattle.quorum_commands.specs.Once.{IsOf}
use Rattle.quorum_model.specs.World.{World, Asked, Replied}
use Rattle.quorum_replies.specs.Kinds.{AcknowledgesNothing, kind_of}

-- a reply that acknowledges no version
abbrev pub AcknowledgesNone : Reply → Type 0
AcknowledgesNone r = AcknowledgesNothing (kind_of r)

-- the number of the request that each version of the log is of, counted from 0
abbrev pub Requests : World → Type 0
Requests w = (v : ℕ) → v < length w.log → ℕ

-- The session asked this monitor a request of which no version is. If it asked the monitor only once, that is the
-- request answered.
pub record IsUnmade (w : World) (request : Requests w) (r : Replied) : Type 0 where
  pub k : ℕ
  pub by : Asked
  pub at : slice_get w.asked k ≡ Some by
  pub rank : by.rank ≡ r.rank
  pub session : by.session ≡ r.session
  pub none : (v : ℕ) (within : v < length w.log) → ¬ (request v within ≡ k)

-- Every version is the value of some request's command, and no two versions are of one request. Each reply other than
-- Done is to a session with a request of which no version is, whether older or newer than the reply.
pub record Unmade (n : ℕ) (w : World) : Type 0 where
  pub request : Requests w
  pub is : (v : ℕ) (within : v < length w.log) → IsOf n w.asked w.log v (request v within)
  pub once : (u v : ℕ) (low : u < length w.log) (high : v < length w.log) → request u low ≡ request v high → u ≡ v
  pub refused : AllByRecursion (λ r. AcknowledgesNone r.reply → IsUnmade w request r) w.replied
