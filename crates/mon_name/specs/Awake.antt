-- A clock that shows gaps, and a link that is closed after the first one.
use Rattle.std.specs.Prelude.{◌≡◌, ◌⊎◌, ◌||◌, ◌-◌, ℕ, List, Bool, true, false, Option, Some, None, IfSome, option_map, Result, Ok, Err, nat_lt, if◌then◌else◌}
use Rattle.mon_link.specs.Clocks.{Readings, reading, after}
use Rattle.mon_link.specs.Links.{LinkState, CallsNext, CallsSend}
use Rattle.mon_link.specs.declared.link.Got.{Got}
use Rattle.mon_link.specs.declared.link.Got.TheVariants.{Closed}
use Rattle.mon_link.specs.declared.link.Peer.{Peer}
use Rattle.mon_types.specs.declared.names.Stop.{Stop}

-- The readings to come, if they are known; how many milliseconds between two readings are no gap; the last reading, if
-- there was one; and whether there was a gap.
pub record Gaps : Type 0 where
  pub left : Option Readings
  pub most : ℕ
  pub last : Option ℕ
  pub stood : Bool

abbrev pub is_gap : (most : ℕ) → (last : Option ℕ) → (now : ℕ) → Bool
is_gap most None now = false
is_gap most (Some last) now = nat_lt most (now - last)

abbrev pub noted : ℕ → Gaps → Gaps
noted now g =
    record { left = option_map after g.left; most = g.most; last = Some now; stood = g.stood || is_gap g.most g.last now }

-- The clock was read once.
pub record Reads (old new : Gaps) : Type 0 where
  pub now : ℕ
  pub shows : IfSome old.left (λ r. now ≡ reading r)
  pub notes : new ≡ noted now old

-- ---- what comes

abbrev pub unless_stood : Bool → Result Got Stop → Result Got Stop
unless_stood stood (Ok got) = if stood then Ok Closed else Ok got
unless_stood stood (Err e) = Err e

-- The link below was asked once, and then the clock was read. If there was a gap, what came is dropped; an error isn't.
pub record AsksAwake (wait : ℕ) (result : Result Got Stop) (old new : Gaps) (below below_after : LinkState) : Type 0 where
  pub gave : Result Got Stop
  pub asks : CallsNext wait gave below below_after
  pub reads : Reads old new
  pub answer : result ≡ unless_stood new.stood gave

-- The clock was read. After a gap the link is closed, and the one below wasn't asked.
pub record NextAwake (wait : ℕ) (result : Result Got Stop) (old new : Gaps) (below below_after : LinkState) : Type 0 where
  pub first : Gaps
  pub reads : Reads old first
  pub does : ((first.stood ≡ true) × (result ≡ Ok Closed) × (new ≡ first) × (below_after ≡ below))
      ⊎ ((first.stood ≡ false) × AsksAwake wait result first new below below_after)

-- ---- what goes

-- The clock was read. After a gap nothing is sent.
pub record SendAwake (to : Peer) (bytes : List ℕ) (result : Result (Unit {0}) Stop) (old new : Gaps)
    (below below_after : LinkState) : Type 0 where
  pub reads : Reads old new
  pub does : ((new.stood ≡ true) × (result ≡ Ok tt) × (below_after ≡ below))
      ⊎ ((new.stood ≡ false) × CallsSend to bytes result below below_after)
