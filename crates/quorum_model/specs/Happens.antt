-- What an event makes of the world.
use Rattle.std.specs.Prelude.{ℕ, suc, nat_lt, Bool, true, false, cond, [], ◌∷◌, ◌++◌, Some, None, Result, Ok, Err, ◌==◌, if◌then◌else◌}
use Rattle.mon_types.specs.declared.names.Which.{Which}
use Rattle.mon_tx.specs.Map.{Store, apply}
use Rattle.mon_kv.specs.Readers.{size_of, most_size}
use Rattle.mon_msg.specs.Protocol.Reaction.{Reaction}
use Rattle.mon_msg.specs.Protocol.Readings.{readings_of, epoch_of}
use Rattle.mon_wire.specs.declared.phase.Phase.{Phase}
use Rattle.mon_wire.specs.declared.phase.Phase.TheVariants as phase
use Rattle.quorum_model.specs.Acknowledging.{acknowledgements_of}
use Rattle.quorum_model.specs.Clients.{with_asked, messages_of, replies_of}
use Rattle.quorum_model.specs.Growth.{grown}
use Rattle.quorum_model.specs.Meets.{Meeting, Reacts, meets}
use Rattle.quorum_model.specs.Monitors.{Monitors}
use Rattle.quorum_model.specs.World.{World, Plain, Event, Arrives, Crash, plain_of}

-- an active leader
abbrev pub is_active : Phase → Bool
is_active phase.Active = true
is_active phase.Updating = true
is_active other = false

abbrev pub put_at : {A : Type 0} → (ℕ → A) → ℕ → A → ℕ → A
put_at f i a j = if j == i then a else f j

-- ---- what becomes of the world

-- an event that moves no monitor: it is counted, and what it asked is noted
unfoldable pub unmoved : World → Plain → World
unmoved w p = record w { asked = with_asked p w.asked; events = suc w.events }

-- monitor i went down before it kept anything
unfoldable pub lost : World → Plain → ℕ → World
lost w p i = record w { state = put_at w.state i None; asked = with_asked p w.asked; events = suc w.events }

-- the map of monitor i after a reaction
abbrev pub map_after : World → ℕ → Reaction → Store
map_after w i r = apply r.transaction (w.store i)

-- monitor i kept what its reaction writes, and went down before it sent anything
unfoldable pub kept_only : World → Plain → ℕ → Reaction → World
kept_only w p i r =
    let m = map_after w i r in
    record w {
      store = put_at w.store i m;
      state = put_at w.state i None;
      transactions = put_at w.transactions i (w.transactions i ++ r.transaction ∷ []);
      log = grown w.log m;
      asked = with_asked p w.asked;
      events = suc w.events;
    }

-- monitor i did what its reaction says: its transaction is kept, and then what it sends goes out
unfoldable pub moved : World → Plain → ℕ → Reaction → World
moved w p i r =
    let m = map_after w i r in
    let event = suc w.events in
    record {
      store = put_at w.store i m;
      state = put_at w.state i (Some r.state);
      transactions = put_at w.transactions i (w.transactions i ++ r.transaction ∷ []);
      messages = w.messages ++ messages_of r.sends;
      log = grown w.log m;
      asked = with_asked p w.asked;
      acknowledged = w.acknowledged ++ acknowledgements_of event m r.state r.sends;
      replied = w.replied ++ replies_of event i m r.sends;
      active = w.active ++ cond (is_active r.state.phase) ((epoch_of (readings_of m), i) ∷ []) [];
      events = event;
    }

-- ---- an event

-- what stops a run: a number that would pass 2^62, or a map that would be larger than a store keeps
pub data Stop : Type 0 where
  Spent : (which : Which) → Stop
  Full : (would_be : ℕ) → Stop

-- a reaction over a map, unless it stops the run
abbrev pub unless_stopped : Store → Result Reaction Which → Result Reaction Stop
unless_stopped m (Err which) = Err (Spent which)
unless_stopped m (Ok r) =
    if nat_lt most_size (size_of (apply r.transaction m)) then Err (Full (size_of (apply r.transaction m))) else Ok r

-- the world that a reaction makes, unless the reaction stops the run
abbrev pub in_world : (Reaction → World) → Result Reaction Stop → Result World Stop
in_world next (Ok r) = Ok (next r)
in_world next (Err stop) = Err stop

-- The world after a meeting, or what stops the run. A crash that loses what is written never stops the run, whatever
-- the reaction was.
abbrev pub after_meeting : World → Event → Meeting → Result World Stop
after_meeting w (Arrives p) (Reacts i input result) = in_world (moved w p i) (unless_stopped (w.store i) result)
after_meeting w (Crash p true) (Reacts i input result) = in_world (kept_only w p i) (unless_stopped (w.store i) result)
after_meeting w (Crash p false) (Reacts i input result) = Ok (lost w p i)
after_meeting w e other = Ok (unmoved w (plain_of e))

-- what an event makes of the world, or what stops the run before it
abbrev pub happens : Monitors → World → Event → Result World Stop
happens ms w e = after_meeting w e (meets ms w (plain_of e))
