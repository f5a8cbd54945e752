-- A calm run of three monitors, played on what their stores hold: how they follow one command.
use Rattle.std.proofs.Common.{◌≡◌, ℕ, zero, suc, Bool, true, false, List, [], ◌∷◌, ◌++◌, map, Option, Some, refl, sym, ap, ◌∙◌, arith}
use Rattle.std.specs.Prelude.{slice_index_or, replicate}
use Rattle.std.proofs.lemmas.Bool.{le-ltb}
use Rattle.mon_lease.specs.Lease.{stands}
use Rattle.mon_bytes.specs.Forms.{u32_bytes}
use Rattle.mon_tx.specs.Decode.{transaction_of}
use Rattle.mon_tx.specs.Keys.{decimal_text}
use Rattle.mon_tx.specs.Map.{number_in, number_bytes, is_within}
use Rattle.mon_msg.specs.Joined.{joined}
use Rattle.mon_msg.specs.Protocol.Answers.{answer_of}
use Rattle.mon_msg.specs.Protocol.Collecting.{missed, settle, collect, collect_with, reign}
use Rattle.mon_msg.specs.Protocol.Commands.{ask}
use Rattle.mon_msg.specs.Protocol.Elections.{hear_propose, hear_ack, hear_victory}
use Rattle.mon_msg.specs.Protocol.Entering.{bootstrap, in_odd_epoch, elect, win}
use Rattle.mon_msg.specs.Protocol.Hearing.{hear_client}
use Rattle.mon_msg.specs.Protocol.Leader.{hear_last, hear_accept, hear_lease_ack}
use Rattle.mon_msg.specs.Protocol.Leading.{extend, be_active, begin, begin_with, begin_alone, commit}
use Rattle.mon_msg.specs.Protocol.Learning.{learn}
use Rattle.mon_msg.specs.Protocol.Peon.{hear_collect, hear_begin, hear_commit, hear_lease}
use Rattle.mon_msg.specs.Protocol.Probing.{hear_probe, hear_probe_reply}
use Rattle.mon_msg.specs.Protocol.Proposing.{propose}
use Rattle.mon_msg.specs.Protocol.Services.{read_map, read_on}
use Rattle.mon_msg.specs.Protocol.Records.{record_at, pending_of, run_of}
use Rattle.mon_msg.specs.Protocol.Rules.{value_ops}
use Rattle.mon_msg.specs.Protocol.State.{State}
use Rattle.mon_msg.specs.declared.clients.Waiting.{Waiting}
use Rattle.mon_wire.specs.declared.phase.Phase.{Phase}
use Rattle.mon_wire.specs.declared.phase.Phase.TheVariants as phase
use Rattle.mon_msg.specs.Protocol.Table.{start, react}
use Rattle.mon_msg.specs.Protocol.Value.{value}
use Rattle.mon_msg.specs.Protocol.Readings.{epoch_of, promise_of, after}
use Rattle.mon_msg.proofs.Examples.Calm.{told, deliveries, starts, logs, from_start}
use Rattle.mon_msg.proofs.Examples.World.{World, readings_at, state_of}
use Rattle.quorum_model.specs.CalmRun.{AreAll, LeadsCalmly, FollowsCalmly}

-- ---- what the definitions ask of a state, as one tuple

abbrev Leading : Type 0
Leading = Phase × List Bool × ℕ × Bool × List Bool × List Waiting

abbrev leading : State → Leading
leading s = (s.phase, s.leader.quorum, s.leader.pn, stands s.leader.lease 0, s.leader.acks, s.clients.queue)

abbrev Following : Type 0
Following = Phase × ℕ × List Bool × Bool

abbrev following : State → Following
following s = (s.phase, s.peon.leader, s.peon.quorum, stands s.peon.lease 0)

-- of fifteen ranks the first three
abbrev three : List Bool
three = true ∷ true ∷ true ∷ replicate 12 false

none_else : (n k : ℕ) → slice_index_or (replicate n false) k false ≡ false
none_else zero k = refl
none_else (suc n) zero = refl
none_else (suc n) (suc k) = none_else n k

are_three : AreAll 3 three
are_three zero = refl
are_three (suc zero) = refl
are_three (suc (suc zero)) = refl
are_three (suc (suc (suc k))) = none_else 12 k ∙ sym (le-ltb (suc (suc (suc k))) 3 (omega arith))

leads_by : (s : State) → leading s ≡ (phase.Active, three, 100, true, three, []) → LeadsCalmly 3 s
leads_by s e = record {
  active = ap (λ (t : Leading). t.0) e;
  quorum = λ k. ap (λ (t : Leading). slice_index_or t.1 k false) e ∙ are_three k;
  pn = ap (λ (t : Leading). t.2) e;
  lease = ap (λ (t : Leading). t.3) e;
  acks = ap (λ (t : Leading). t.4) e ∙ sym (ap (λ (t : Leading). t.1) e);
  queue = ap (λ (t : Leading). t.5) e;
}

follows_by : (s : State) → following s ≡ (phase.Peon, 0, three, true) → FollowsCalmly 3 s
follows_by s e = record {
  peon = ap (λ (t : Following). t.0) e;
  leader = ap (λ (t : Following). t.1) e;
  quorum = λ k. ap (λ (t : Following). slice_index_or t.2 k false) e ∙ are_three k;
  lease = ap (λ (t : Following). t.3) e;
}

-- ---- the run

-- the starts, the 30 messages that they send, a text for the cluster log, and the 10 messages that it sends
abbrev calm : World
calm = from_start (starts ++ (deliveries 30 0 ++ (logs ∷ deliveries 10 30)))

abbrev Seen : Type 0
Seen = Leading × Following × Following

seen : ◌≡◌ {A = Seen} (leading (state_of calm 0), following (state_of calm 1), following (state_of calm 2))
    ((phase.Active, three, 100, true, three, []), (phase.Peon, 0, three, true), (phase.Peon, 0, three, true))
unfolding start react bootstrap hear_probe hear_probe_reply elect in_odd_epoch hear_propose hear_ack win reign collect collect_with settle hear_victory hear_collect hear_last be_active extend hear_lease hear_lease_ack pending_of record_at run_of learn hear_client ask propose value value_ops read_map read_on begin begin_with begin_alone hear_begin hear_accept commit hear_commit after joined number_in number_bytes is_within decimal_text transaction_of u32_bytes answer_of missed
seen = refl

leads : LeadsCalmly 3 (state_of calm 0)
leads = leads_by (state_of calm 0) (ap (λ (t : Seen). t.0) seen)

first_follows : FollowsCalmly 3 (state_of calm 1)
first_follows = follows_by (state_of calm 1) (ap (λ (t : Seen). t.1) seen)

second_follows : FollowsCalmly 3 (state_of calm 2)
second_follows = follows_by (state_of calm 2) (ap (λ (t : Seen). t.2) seen)

-- ---- what the stores hold, and the client's reply

-- the epoch, the promise and the last version
abbrev tells : ℕ → ℕ × ℕ × ℕ
tells r = (epoch_of (readings_at calm r), promise_of (readings_at calm r), (readings_at calm r).last)

have_all : ◌≡◌ {A = List (ℕ × ℕ × ℕ) × List (ℕ × Option ℕ)} (tells 0 ∷ tells 1 ∷ tells 2 ∷ [], map told calm.replies)
    ((2, 100, 1) ∷ (2, 100, 1) ∷ (2, 100, 1) ∷ [], (1, Some 1) ∷ [])
unfolding start react bootstrap hear_probe hear_probe_reply elect in_odd_epoch hear_propose hear_ack win reign collect collect_with settle hear_victory hear_collect hear_last be_active extend hear_lease hear_lease_ack pending_of record_at run_of learn hear_client ask propose value value_ops read_map read_on begin begin_with begin_alone hear_begin hear_accept commit hear_commit after joined number_in number_bytes is_within decimal_text transaction_of u32_bytes answer_of missed
have_all = refl
