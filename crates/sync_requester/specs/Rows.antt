-- What is known when a requester's rows and acts are proved.
use Rattle.std.specs.Prelude.{◌≡◌, ℕ, true, Result}
use Rattle.mon_msg.specs.Protocol.Copying.{of_provider}
use Rattle.mon_msg.specs.Protocol.Course.{Course, requester_is}
use Rattle.mon_msg.specs.Protocol.Readings.{Readings, epoch_of, readings_of}
use Rattle.mon_msg.specs.declared.plan.Plan.{Plan}
use Rattle.mon_msg.specs.declared.plan.RoleStop.{RoleStop}
use Rattle.mon_msg.specs.declared.synchronization.Requester.{Requester}
use Rattle.mon_msg.specs.declared.view.View.{View}
use Rattle.mon_plan.specs.Plans.{PlansRow}
use Rattle.mon_plan.specs.Seen.{IsMet}
use Rattle.mon_types.specs.declared.names.Which.{Which}
use Rattle.mon_stored.specs.declared.here.Here.{Here}

-- An event under way at a requester: the store's readers return this, and the role remembers that.
pub record Holds (w : Readings) (state : Requester) (x : Course) : Type 0 where
  pub readings : x.readings ≡ w
  pub role : x.state.requester ≡ state

-- An event under way at a requester that hears a message of its provider f while it synchronizes.
pub record IsHeard (w : Readings) (state : Requester) (f : ℕ) (x : Course) : Type 0 where
  pub readings : x.readings ≡ w
  pub role : x.state.requester ≡ state
  pub ours : of_provider f x ≡ true

-- An event under way at a monitor that begins to synchronize, in epoch e. The store's readers return w, except for the
-- epoch and the count of starts.
pub record IsEntering (e : ℕ) (w : Readings) (x : Course) : Type 0 where
  pub epoch : epoch_of x.readings ≡ e
  pub kept : x.readings ≡ record w { epoch = x.readings.epoch; boot = x.readings.boot }

-- A call plans this row, by what it reads of the monitor, and by what the role sees and remembers.
abbrev pub ByRow : Here → View → Requester → (Course → Result Course Which) → Result (Plan Requester) RoleStop → Type 0
ByRow here view s row result =
    PlansRow here.me.now here.time requester_is
    (IsMet here.me.now here.time (readings_of here.kv.now) view (λ state. state.requester) s) row result

-- A call plans this row, by what it reads of the monitor, at a message of its provider f.
abbrev pub ByHeard : Here → Requester → (f : ℕ) → (Course → Result Course Which) → Result (Plan Requester) RoleStop → Type 0
ByHeard here s f row result =
    PlansRow here.me.now here.time requester_is (IsHeard (readings_of here.kv.now) s f) row result
