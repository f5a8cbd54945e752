-- A leader that is lost leaves a value which one peon accepted, and the next leader commits it.
use Rattle.std.proofs.Common.{◌≡◌, List, [], ◌∷◌, ◌++◌, Some, refl}
use Rattle.mon_tx.specs.Decode.{transaction_of, ops_at, op_at, ops_of, put_at}
use Rattle.mon_tx.specs.Fields.{word_at, value_at, version_at, format_at}
use Rattle.mon_tx.specs.Keys.{decimal_text}
use Rattle.mon_tx.specs.Map.{number_in, number_bytes, is_within}
use Rattle.mon_bytes.specs.Forms.{u32_bytes}
use Rattle.mon_wire.specs.declared.phase.Phase.TheVariants as phase
use Rattle.mon_wire.specs.declared.phase.Timer.TheVariants as timer
use Rattle.mon_msg.specs.Joined.{joined}
use Rattle.mon_msg.specs.Protocol.Answers.{answer_of}
use Rattle.mon_msg.specs.Protocol.Collecting.{missed, settle, collect, collect_with, reign}
use Rattle.mon_msg.specs.Protocol.Commands.{ask}
use Rattle.mon_msg.specs.Protocol.Elections.{hear_propose, hear_ack, election_ends, hear_victory}
use Rattle.mon_msg.specs.Protocol.Entering.{bootstrap, in_odd_epoch, elect, adopt, win}
use Rattle.mon_msg.specs.Protocol.Hearing.{hear_client}
use Rattle.mon_msg.specs.Protocol.Leader.{hear_last, hear_accept, hear_lease_ack}
use Rattle.mon_msg.specs.Protocol.Leading.{extend, be_active, begin, begin_with, begin_alone, commit}
use Rattle.mon_msg.specs.Protocol.Learning.{learn}
use Rattle.mon_msg.specs.Protocol.Peon.{hear_collect, hear_begin, hear_commit, hear_lease}
use Rattle.mon_msg.specs.Protocol.Probing.{hear_probe, hear_probe_reply}
use Rattle.mon_msg.specs.Protocol.Proposing.{propose}
use Rattle.mon_msg.specs.Protocol.Services.{read_map, read_on}
use Rattle.mon_msg.specs.Protocol.Records.{record_at, pending_of, run_of}
use Rattle.mon_msg.specs.Protocol.Rules.{value_ops}
use Rattle.mon_msg.specs.Protocol.Table.{start, react}
use Rattle.mon_msg.specs.Protocol.Value.{value}
use Rattle.mon_msg.specs.Protocol.Readings.{after}
use Rattle.mon_msg.proofs.Examples.World.{Event, Deliver, TimerComes}
use Rattle.mon_msg.proofs.Examples.Calm.{stands, outcome, deliveries, starts, logs, shows, from_start}

-- Monitor 1 accepts the value for version 1, and monitor 0 is heard no more. The leases of the others end, and they probe and
-- elect: monitor 1 wins epoch 4.
abbrev lost : List Event
lost =
    logs
    ∷ Deliver 30 0
    ∷ TimerComes 1 timer.Lease 0
    ∷ TimerComes 2 timer.Lease 0
    ∷ Deliver 34 0
    ∷ Deliver 36 0
    ∷ Deliver 37 0
    ∷ Deliver 38 0
    ∷ Deliver 40 0
    ∷ Deliver 43 0
    ∷ TimerComes 1 timer.Election 0
    ∷ []

won : stands (from_start (starts ++ (deliveries 30 0 ++ lost))) ≡ (phase.Updating, 2, 0) ∷ (phase.Collecting, 4, 0) ∷ (phase.Electing, 3, 0) ∷ []
unfolding start react bootstrap hear_probe hear_probe_reply elect in_odd_epoch hear_propose hear_ack win reign collect collect_with settle hear_victory hear_collect hear_last be_active extend hear_lease hear_lease_ack pending_of record_at run_of learn hear_client ask propose value value_ops read_map read_on begin begin_with begin_alone hear_begin hear_accept commit hear_commit after joined number_in number_bytes is_within decimal_text transaction_of u32_bytes election_ends adopt ops_at op_at ops_of put_at word_at value_at version_at format_at answer_of missed
won = refl

-- monitor 2 promises, the value is begun again and accepted, and then it is committed; nobody waits for it any more
recovered : outcome (from_start (starts ++ (deliveries 30 0 ++ (lost ++ (deliveries 5 44 ++ shows 1 ∷ [])))))
    ≡ ((phase.Updating, 2, 0) ∷ (phase.Active, 4, 1) ∷ (phase.Peon, 4, 0) ∷ [], 51, (2, Some 1) ∷ [])
unfolding start react bootstrap hear_probe hear_probe_reply elect in_odd_epoch hear_propose hear_ack win reign collect collect_with settle hear_victory hear_collect hear_last be_active extend hear_lease hear_lease_ack pending_of record_at run_of learn hear_client ask propose value value_ops read_map read_on begin begin_with begin_alone hear_begin hear_accept commit hear_commit after joined number_in number_bytes is_within decimal_text transaction_of u32_bytes election_ends adopt ops_at op_at ops_of put_at word_at value_at version_at format_at answer_of missed
recovered = refl
