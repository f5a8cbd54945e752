-- Three monitors elect a leader, and commit a text of the cluster log.
use Rattle.std.proofs.Common.{◌≡◌, ℕ, zero, suc, lit≤, List, [], ◌∷◌, ◌++◌, length, map, Option, Some, None, refl}
use Rattle.election_rules.specs.declared.rule.Rule.TheVariants.{Classic}
use Rattle.mon_tx.specs.Decode.{transaction_of}
use Rattle.mon_tx.specs.Keys.{decimal_text}
use Rattle.mon_tx.specs.Map.{number_in, number_bytes, is_within}
use Rattle.mon_bytes.specs.Forms.{u32_bytes}
use Rattle.mon_msg.specs.Joined.{joined}
use Rattle.mon_wire.specs.declared.phase.Phase.{Phase}
use Rattle.mon_wire.specs.declared.phase.Phase.TheVariants as phase
use Rattle.mon_wire.specs.declared.phase.Timer.TheVariants as timer
use Rattle.mon_wire.specs.declared.reply.Reply.{Reply}
use Rattle.mon_wire.specs.declared.reply.Reply.TheVariants as reply
use Rattle.mon_wire.specs.declared.request.Request.TheVariants as request
use Rattle.mon_wire.specs.declared.request.Service.TheVariants as service
use Rattle.mon_wire.specs.declared.request.Session.{Session}
use Rattle.mon_msg.specs.declared.view.Me.{Me}
use Rattle.mon_msg.specs.Protocol.Answers.{answer_of}
use Rattle.mon_msg.specs.Protocol.Collecting.{missed, settle, collect, collect_with, reign}
use Rattle.mon_msg.specs.Protocol.Commands.{ask, hear_forward, hear_route}
use Rattle.mon_msg.specs.Protocol.Elections.{hear_propose, hear_ack, election_ends, hear_victory}
use Rattle.mon_msg.specs.Protocol.Entering.{bootstrap, in_odd_epoch, elect, win}
use Rattle.mon_msg.specs.Protocol.Hearing.{hear_client}
use Rattle.mon_msg.specs.Protocol.Leader.{hear_last, hear_accept, hear_lease_ack}
use Rattle.mon_msg.specs.Protocol.Leading.{extend, be_active, begin, begin_with, begin_alone, commit}
use Rattle.mon_msg.specs.Protocol.Learning.{learn}
use Rattle.mon_msg.specs.Protocol.Peon.{hear_collect, hear_begin, hear_commit, hear_lease}
use Rattle.mon_msg.specs.Protocol.Probing.{hear_probe, hear_probe_reply}
use Rattle.mon_msg.specs.Protocol.Proposing.{propose}
use Rattle.mon_msg.specs.Protocol.Services.{read_map, read_on}
use Rattle.mon_msg.specs.Protocol.Records.{record_at, pending_of, run_of}
use Rattle.mon_msg.specs.Protocol.Rules.{value_ops}
use Rattle.mon_msg.specs.Protocol.Table.{start, react}
use Rattle.mon_msg.specs.Protocol.Value.{value}
use Rattle.mon_msg.specs.Protocol.Readings.{epoch_of, after}
use Rattle.mon_msg.proofs.Examples.World.{Event, Start, Deliver, TimerComes, Ask, World, first_world, run, readings_at, state_of}

abbrev pub me_0 : Me
me_0 = record { member = record { rank = 0; monitors = 3; most = lit≤ tt; in_map = lit≤ tt }; rule = Classic }

abbrev pub me_1 : Me
me_1 = record { member = record { rank = 1; monitors = 3; most = lit≤ tt; in_map = lit≤ tt }; rule = Classic }

abbrev pub me_2 : Me
me_2 = record { member = record { rank = 2; monitors = 3; most = lit≤ tt; in_map = lit≤ tt }; rule = Classic }

abbrev pub three : List Me
three = me_0 ∷ me_1 ∷ me_2 ∷ []

-- the state of a monitor, its epoch and its last version
abbrev pub Stand : Type 0
Stand = Phase × ℕ × ℕ

abbrev pub stand : World → ℕ → Stand
stand w r = ((state_of w r).phase, epoch_of (readings_at w r), (readings_at w r).last)

abbrev pub stands : World → List Stand
stands w = stand w 0 ∷ stand w 1 ∷ stand w 2 ∷ []

-- the number of a client's request, and the version in its reply: that of its own command, or that of the map it was shown
abbrev pub told : Session × Reply → ℕ × Option ℕ
told (s, reply.Done v) = (s.id, Some v)
told (s, reply.Shown service paxos version m) = (s.id, Some version)
told (s, r) = (s.id, None)

-- the states of all, how many messages were sent, and the replies to clients
abbrev pub outcome : World → List Stand × ℕ × List (ℕ × Option ℕ)
outcome w = (stands w, length w.envelopes, map told w.replies)

-- the deliveries of this many messages from number k on
abbrev pub deliveries : ℕ → ℕ → List Event
deliveries zero k = []
deliveries (suc count) k = Deliver k 0 ∷ deliveries count (suc k)

abbrev pub starts : List Event
starts = Start 0 0 ∷ Start 1 0 ∷ Start 2 0 ∷ []

abbrev pub session : ℕ → Session
session n = record { client = 1; id = n }

-- monitor 0 is asked to log a text
abbrev pub logs : Event
logs = Ask 0 0 (session 1) (request.Log (120 ∷ []))

abbrev pub from_start : List Event → World
from_start events = run three me_0 events (first_world three me_0)

elected : stands (from_start (starts ++ deliveries 30 0)) ≡ (phase.Active, 2, 0) ∷ (phase.Peon, 2, 0) ∷ (phase.Peon, 2, 0) ∷ []
unfolding start react bootstrap hear_probe hear_probe_reply elect in_odd_epoch hear_propose hear_ack win reign collect collect_with settle hear_victory hear_collect hear_last be_active extend hear_lease hear_lease_ack pending_of record_at run_of learn answer_of missed
elected = refl

abbrev pub shows : ℕ → Event
shows r = Ask r 0 (session 2) (request.Show service.Log)

-- all monitors have the version, and a peon shows it
committed : outcome (from_start (starts ++ (deliveries 30 0 ++ (logs ∷ (deliveries 10 30 ++ shows 2 ∷ [])))))
    ≡ ((phase.Active, 2, 1) ∷ (phase.Peon, 2, 1) ∷ (phase.Peon, 2, 1) ∷ [], 40, (1, Some 1) ∷ (2, Some 1) ∷ [])
unfolding start react bootstrap hear_probe hear_probe_reply elect in_odd_epoch hear_propose hear_ack win reign collect collect_with settle hear_victory hear_collect hear_last be_active extend hear_lease hear_lease_ack pending_of record_at run_of learn hear_client ask propose value value_ops read_map read_on begin begin_with begin_alone hear_begin hear_accept commit hear_commit after joined number_in number_bytes is_within decimal_text transaction_of u32_bytes answer_of missed
committed = refl

-- an election in which nobody defers to the candidate is called again in the same epoch
called_again : outcome (from_start (starts ++ (Deliver 0 0 ∷ Deliver 6 0 ∷ TimerComes 0 timer.Election 5000 ∷ [])))
    ≡ ((phase.Electing, 1, 0) ∷ (phase.Probing, 1, 0) ∷ (phase.Probing, 1, 0) ∷ [], 11, [])
unfolding start react bootstrap hear_probe hear_probe_reply elect in_odd_epoch election_ends win reign collect collect_with settle missed
called_again = refl

-- a peon hands its client's command on, and answers once the leader has
handed_on : outcome (from_start (starts ++ (deliveries 30 0 ++ (Ask 1 0 (session 1) (request.Log (120 ∷ [])) ∷ deliveries 5 30 ++ Deliver 39 0 ∷ []))))
    ≡ ((phase.Active, 2, 1) ∷ (phase.Peon, 2, 0) ∷ (phase.Peon, 2, 0) ∷ [], 40, (1, Some 1) ∷ [])
unfolding start react bootstrap hear_probe hear_probe_reply elect in_odd_epoch hear_propose hear_ack win reign collect collect_with settle hear_victory hear_collect hear_last be_active extend hear_lease hear_lease_ack pending_of record_at run_of learn hear_client ask hear_forward hear_route propose value value_ops read_map read_on begin begin_with begin_alone hear_begin hear_accept commit hear_commit after joined number_in number_bytes is_within decimal_text transaction_of u32_bytes answer_of missed
handed_on = refl
