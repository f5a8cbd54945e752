-- What a leader acknowledges.
use Rattle.std.specs.Prelude.{ℕ, List, [], ◌∷◌, Option, Some, None, if◌then◌else◌}
use Rattle.std.specs.List.{filter_map}
use Rattle.std.specs.Option.{option_map}
use Rattle.mon_tx.specs.declared.op.Op.{Op}
use Rattle.mon_tx.specs.Decode.{ops_in}
use Rattle.mon_tx.specs.Map.{Store}
use Rattle.mon_msg.specs.Fold.{put_in}
use Rattle.mon_msg.specs.Protocol.Phases.{is_leading}
use Rattle.mon_msg.specs.Protocol.State.{State}
use Rattle.mon_msg.specs.Protocol.Readings.{readings_of, epoch_of}
use Rattle.mon_wire.specs.declared.body.Body.{Body}
use Rattle.mon_wire.specs.declared.body.Body.TheVariants as body
use Rattle.mon_msg.specs.declared.plan.Sent.{Sent}
use Rattle.mon_msg.specs.declared.plan.Sent.TheVariants as sent
use Rattle.mon_wire.specs.declared.reply.Reply.{Reply}
use Rattle.mon_wire.specs.declared.reply.Reply.TheVariants as reply
use Rattle.mon_wire.specs.declared.request.Service.{Service}
use Rattle.mon_wire.specs.declared.request.Service.TheVariants as service
use Rattle.quorum_model.specs.Growth.{record_in}
use Rattle.quorum_model.specs.World.{Acknowledged, Acknowledgement}

-- ---- the version that a send says is done

abbrev pub done_in : Reply → Option ℕ
done_in (reply.Done v) = Some v
done_in other = None

abbrev pub done_by_route : Body → Option ℕ
done_by_route (body.Route seq r) = done_in r
done_by_route other = None

-- A leader acknowledges a version by a reply to its own client, or by a ROUTE to the peon that handed the command on.
-- The peon's reply to its client then acknowledges nothing new.
abbrev pub done_by : State → Sent → Option ℕ
done_by s (sent.Reply to r) = if is_leading s.phase then done_in r else None
done_by s (sent.Message to m) = done_by_route m.body

-- ---- what it acknowledges

-- the operations in the record that a store has of version v
abbrev pub record_kept : Store → ℕ → List Op
record_kept m v = ops_in (record_in m v)

-- The service and the incremental that a transaction puts. If it puts no incremental, this is one without bytes, which
-- no value puts.
abbrev pub kv_or_log : (kv log : List (List ℕ)) → Service × List ℕ
kv_or_log (i ∷ is) others = (service.Kv, i)
kv_or_log [] (i ∷ is) = (service.Log, i)
kv_or_log [] [] = (service.Kv, [])

abbrev pub incremental_in : List Op → Service × List ℕ
incremental_in ops = kv_or_log (put_in service.Kv ops) (put_in service.Log ops)

-- the acknowledgement of version v
abbrev pub acknowledges : Store → State → ℕ → Acknowledgement
acknowledges m s v =
    let made = incremental_in (record_kept m v) in
    record {
      version = v;
      pn = s.leader.pn;
      epoch = epoch_of (readings_of m);
      service = made.0;
      incremental = made.1;
    }

abbrev pub acknowledgement : (event : ℕ) → Store → State → ℕ → Acknowledged
acknowledgement event m s v = record { event = event; what = acknowledges m s v }

-- What the sends of an event acknowledge. After the event the monitor keeps m and remembers s.
abbrev pub acknowledgements_of : (event : ℕ) → Store → State → List Sent → List Acknowledged
acknowledgements_of event m s sends = filter_map (λ x. option_map (acknowledgement event m s) (done_by s x)) sends
