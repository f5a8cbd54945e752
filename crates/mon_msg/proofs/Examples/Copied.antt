-- A monitor that is far behind takes a whole copy, or the versions that it lacks.
use Rattle.std.proofs.Common.{◌≡◌, ℕ, suc, Bool, true, false, ◌&&◌, List, [], ◌∷◌, ◌++◌, Option, Some, None, refl}
use Rattle.std.specs.Prelude.{nat_le, if◌then◌else◌}
use Rattle.mon_tx.specs.declared.op.Op.{Op}
use Rattle.mon_tx.specs.declared.key.Area.TheVariants as area
use Rattle.mon_tx.specs.declared.key.Key.{Key}
use Rattle.mon_tx.specs.declared.key.Key.TheVariants as key
use Rattle.mon_tx.specs.Decision.{Cell}
use Rattle.mon_tx.specs.Decode.{transaction_of, ops_at, op_at, ops_of, put_at}
use Rattle.mon_tx.specs.Fields.{word_at, value_at, version_at, format_at}
use Rattle.mon_tx.specs.Keys.{decimal_text}
use Rattle.mon_tx.specs.Map.{number_in, number_bytes, is_within}
use Rattle.mon_tx.specs.Text.{text}
use Rattle.mon_wire.specs.declared.phase.Phase.TheVariants as phase
use Rattle.mon_wire.specs.declared.phase.Timer.TheVariants as timer
use Rattle.mon_wire.specs.declared.request.Service.{Service}
use Rattle.mon_wire.specs.declared.request.Service.TheVariants as service
use Rattle.mon_msg.specs.Puts.{put_number}
use Rattle.mon_msg.specs.Joined.{joined}
use Rattle.mon_msg.specs.Protocol.Chunks.{hear_last_chunk}
use Rattle.mon_msg.specs.Protocol.Copying.{hear_cookie}
use Rattle.mon_msg.specs.Protocol.Entering.{bootstrap}
use Rattle.mon_msg.specs.Protocol.Learning.{learn}
use Rattle.mon_msg.specs.Protocol.Probing.{hear_probe, hear_probe_reply}
use Rattle.mon_msg.specs.Protocol.Providing.{chunk, hear_get_cookie_full, hear_get_cookie_recent, hear_get_chunk}
use Rattle.mon_msg.specs.Protocol.Records.{record_at, pending_of, run_of}
use Rattle.mon_msg.specs.Protocol.Replay.{more_of, step_of, replay_step}
use Rattle.mon_msg.specs.Protocol.Synchronizing.{full_sync, recent_sync}
use Rattle.mon_msg.specs.Protocol.Table.{start, react}
use Rattle.mon_msg.specs.Protocol.Readings.{Readings, after}
use Rattle.mon_msg.proofs.Examples.World.{Event, Start, Deliver, TimerComes, World, first_world, run, readings_at}
use Rattle.mon_msg.proofs.Examples.Calm.{me_0, three, Stand, stand}

-- the value of a version, if all that the log's service keeps is its last version
abbrev value_of_version : ℕ → List Op
value_of_version v = put_number area.Logm key.LastCommitted v ∷ []

abbrev records : ℕ → ℕ → ℕ → Cell
records first last v = if nat_le first v && nat_le v last then Some (text (value_of_version v)) else None

abbrev rows : ℕ → Service → Key → Cell
rows last service.Log key.LastCommitted = Some (number_bytes last)
rows last s k = None

-- a store with these versions, and one that promised and accepted besides
abbrev keeps : ℕ → ℕ → Readings
keeps first last = record {
  epoch = Some 7;
  boot = 0;
  last_pn = None;
  promise = None;
  pending_v = 0;
  pending_pn = 0;
  first = first;
  last = last;
  marked = false;
  floor = 0;
  record_of = records first last;
  row = rows last;
}

abbrev accepts : ℕ → ℕ → ℕ → Readings
accepts first last pn = record (keeps first last) { promise = Some pn; pending_v = suc last; pending_pn = pn; record_of = records first (suc last) }

-- monitor 0 and monitor 1 with these stores
abbrev between : Readings → Readings → World
between a b = record (first_world three me_0) { readings = a ∷ b ∷ keeps 0 0 ∷ [] }

-- they start, and monitor 1 hears how far monitor 0 is
abbrev probed : List Event
probed = Start 0 0 ∷ Start 1 0 ∷ Deliver 2 0 ∷ Deliver 4 0 ∷ []

-- the state of monitor 1, its first version, whether it is marked, its floor, and its promise
abbrev copy_of : World → Stand × ℕ × Bool × ℕ × Option ℕ
copy_of w = let v = readings_at w 1 in (stand w 1, v.first, v.marked, v.floor, v.promise)

-- It kept up to version 4 and accepted version 5, and monitor 0 has nothing before version 6. So it gives up what is shared.
marked : copy_of (run three me_0 probed (between (keeps 6 9) (accepts 1 4 302))) ≡ ((phase.Synchronizing, 7, 0), 0, true, 5, Some 302)
unfolding start react bootstrap hear_probe hear_probe_reply full_sync recent_sync pending_of record_at transaction_of ops_at op_at ops_of put_at word_at value_at version_at format_at number_bytes number_in
marked = refl

-- the copy is whole: it is where monitor 0 is, with its own promise and epoch
copied : copy_of (run three me_0 (probed ++ (Deliver 5 0 ∷ Deliver 6 0 ∷ Deliver 7 0 ∷ Deliver 8 0 ∷ TimerComes 1 timer.Step 0 ∷ [])) (between (keeps 6 9) (accepts 1 4 302)))
    ≡ ((phase.Probing, 7, 9), 6, false, 0, Some 302)
unfolding start react bootstrap hear_probe hear_probe_reply full_sync recent_sync pending_of record_at transaction_of ops_at op_at ops_of put_at word_at value_at version_at format_at number_bytes number_in hear_get_cookie_full hear_cookie hear_get_chunk hear_last_chunk learn after run_of more_of step_of replay_step joined is_within decimal_text chunk
copied = refl

-- it lacks more than ten versions, and all of them are kept: it takes these alone
caught_up : copy_of (run three me_0 (probed ++ (Deliver 5 0 ∷ Deliver 6 0 ∷ Deliver 7 0 ∷ Deliver 8 0 ∷ [])) (between (keeps 1 16) (keeps 1 5)))
    ≡ ((phase.Probing, 7, 16), 1, false, 0, None)
unfolding start react bootstrap hear_probe hear_probe_reply full_sync recent_sync pending_of record_at transaction_of ops_at op_at ops_of put_at word_at value_at version_at format_at number_bytes number_in hear_get_cookie_recent hear_cookie hear_get_chunk hear_last_chunk learn after run_of joined is_within decimal_text chunk
caught_up = refl
