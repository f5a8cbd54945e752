-- The inputs of a provider, and what is known when its rows are proved.
use Rattle.std.specs.Prelude.{◌≡◌, ℕ, Bool, true, false, List, Result, filter}
use Rattle.mon_bytes.specs.declared.entry.Entry.{Entry}
use Rattle.mon_bytes.specs.declared.entry.KeyPlace.{KeyPlace}
use Rattle.mon_msg.specs.Protocol.Course.{Course, provider_is}
use Rattle.mon_msg.specs.Protocol.Places.{is_after}
use Rattle.mon_msg.specs.Protocol.Readings.{Readings, readings_of, shared_entries}
use Rattle.mon_msg.specs.declared.input.Input.TheVariants as input
use Rattle.mon_msg.specs.declared.input.Input.{Input}
use Rattle.mon_msg.specs.declared.plan.Plan.{Plan}
use Rattle.mon_msg.specs.declared.plan.RoleStop.{RoleStop}
use Rattle.mon_msg.specs.declared.synchronization.Provider.{Provider}
use Rattle.mon_plan.specs.Plans.{PlansRow}
use Rattle.mon_tx.specs.Map.{Store}
use Rattle.mon_types.specs.declared.names.Which.{Which}
use Rattle.mon_wire.specs.declared.body.Body.TheVariants as body
use Rattle.mon_wire.specs.declared.body.Body.{Body}
use Rattle.sync_provider.specs.declared.here.Here.{Here}

-- the requests of a monitor that synchronizes, or is about to
abbrev pub is_asked : Body → Bool
is_asked body.GetCookieFull = true
is_asked (body.GetCookieRecent last) = true
is_asked (body.GetChunk cookie place) = true
is_asked b = false

-- the inputs of a provider
abbrev pub is_input : Input → Bool
is_input input.Start = false
is_input (input.Deliver m) = is_asked m.body
is_input (input.Timer t) = false
is_input (input.Client session r) = false

-- An event under way at a provider: the store's readers return this, and the role remembers that.
pub record Holds (w : Readings) (state : Provider) (x : Course) : Type 0 where
  pub readings : x.readings ≡ w
  pub role : x.state.provider ≡ state

-- a call's result is this row of the table
abbrev pub ByRow : Here → (now : ℕ) → (row : Course → Result Course Which) → Result (Plan Provider) RoleStop → Type 0
ByRow here now row result = PlansRow here.me.now now provider_is (Holds (readings_of here.kv.now) here.state.now) row result

-- the shared entries after a place, in order
abbrev pub remaining_after : Store → KeyPlace → List Entry
remaining_after m at = filter (is_after at) (shared_entries m)
