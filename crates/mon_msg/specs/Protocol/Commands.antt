-- The rows of clients' commands, at the leader and by way of a peon.
use Rattle.std.specs.Prelude.{ℕ, suc, Bool, not, ◌&&◌, ◌==◌, nat_le, nat_lt, List, Result, Ok, if◌then◌else◌, [], ◌∷◌, ◌++◌, filter, map, length, slice_set, slice_index_or}
use Rattle.map_kv.specs.declared.command.TheConstants.{MOST_KV_VALUE}
use Rattle.map_log.specs.declared.command.TheConstants.{MOST_TEXT}
use Rattle.mon_bytes.specs.declared.command.Command.TheVariants as command
use Rattle.mon_bytes.specs.declared.command.Command.{Command}
use Rattle.mon_msg.specs.Protocol.Course.{Course, ◌▸◌, ◌>>=◌, checked, dropped, nothing_more, say, clients_are}
use Rattle.mon_msg.specs.Protocol.Leader.{of_member}
use Rattle.mon_msg.specs.Protocol.Leading.{has_queue}
use Rattle.mon_msg.specs.Protocol.Peon.{of_leader}
use Rattle.mon_msg.specs.Protocol.Phases.{same_phase, is_leading, is_peon}
use Rattle.mon_msg.specs.Protocol.Proposing.{propose, propose_next}
use Rattle.mon_msg.specs.Protocol.Reads.{is_standing}
use Rattle.mon_msg.specs.Protocol.Sending.{send, reply_to, answer}
use Rattle.mon_wire.specs.declared.body.Body.TheVariants as body
use Rattle.mon_msg.specs.declared.clients.Asked.{Asked}
use Rattle.mon_wire.specs.declared.phase.Phase.TheVariants as phase
use Rattle.mon_msg.specs.declared.plan.Origin.TheVariants as origin
use Rattle.mon_msg.specs.declared.plan.Origin.{Origin}
use Rattle.mon_msg.specs.declared.plan.Sent.TheVariants as sent
use Rattle.mon_wire.specs.declared.reply.Reply.TheVariants as reply
use Rattle.mon_wire.specs.declared.reply.Reply.{Reply}
use Rattle.mon_wire.specs.declared.request.Session.{Session}
use Rattle.mon_msg.specs.declared.view.Me.{Me}
use Rattle.mon_msg.specs.declared.limits.TheConstants.{MOST_WAITING}
use Rattle.mon_types.specs.declared.names.Which.TheVariants as which
use Rattle.mon_types.specs.declared.names.Which.{Which}

-- ---- what is too long

-- the most bytes that a command's value or text may have, and how many it has
abbrev pub most_text : Command → ℕ
most_text (command.Set key value) = MOST_KV_VALUE
most_text (command.Remove key) = 0
most_text (command.Log text) = MOST_TEXT

abbrev pub text_length : Command → ℕ
text_length (command.Set key value) = length value
text_length (command.Remove key) = 0
text_length (command.Log text) = length text

abbrev pub is_too_long : Command → Bool
is_too_long c = nat_lt (most_text c) (text_length c)

abbrev pub too_long : Command → Reply
too_long c = reply.TooLong (text_length c) (most_text c)

-- ---- commands

-- a command waits at a leader
abbrev pub queue_up : Command → Origin → Course → Course
queue_up c o x =
    clients_are (record x.state.clients { queue = x.state.clients.queue ++ record { command = c; origin = o } ∷ [] }) x

-- a session waits at a peon under a number
abbrev pub wait_under : (seq : ℕ) → Session → Course → Course
wait_under seq session x =
    let clients = x.state.clients in
    let sessions = clients.sessions ++ record { seq = seq; session = session } ∷ [] in
    clients_are (record clients { sessions = sessions; next_seq = suc seq }) x

module _ (me : Me) where
  abbrev pub hand_on : Command → Session → Course → Result Course Which
  hand_on c session x = do
    seq ← checked which.Seq x.state.clients.next_seq
    Ok (x ▸ wait_under seq session ▸ send me x.state.peon.leader (body.Forward seq c))

  -- a command at a peon: its session waits under a number, and the leader gets it
  abbrev pub at_peon : Command → Session → Course → Result Course Which
  at_peon c session x =
      let is_full = nat_le MOST_WAITING (length x.state.clients.sessions) in
      if is_too_long c then Ok (reply_to session (too_long c) x) else (
      if is_full then Ok (reply_to session (reply.Busy MOST_WAITING) x) else hand_on c session x)

module _ (me : Me) (now : ℕ) where
  -- whether a command may be proposed at once
  abbrev pub may_propose : Course → Bool
  may_propose x = same_phase x.state.phase phase.Active && is_standing me now x.state

  -- a command at the leader: it is proposed, or waits until it is
  abbrev pub at_leader : Command → Origin → Course → Result Course Which
  at_leader c o x =
      let is_full = nat_le MOST_WAITING (length x.state.clients.queue) in
      if is_too_long c then Ok (answer me o (too_long c) x) else (
      if may_propose x && not (has_queue x) then propose me now c o x else (
      if is_full then Ok (answer me o (reply.Busy MOST_WAITING) x) else Ok (queue_up c o x)))

  unfoldable pub ask : Session → Command → Course → Result Course Which
  ask session c x =
      if is_leading x.state.phase then at_leader c (origin.Session session) x else (
      if is_peon x.state.phase then at_peon me c session x else Ok (reply_to session reply.Unavailable x))

  -- a command of a peon's client, unless it was taken before
  unfoldable pub hear_forward : (f e : ℕ) → (seq : ℕ) → Command → Course → Result Course Which
  hear_forward f e seq c x =
      let clients = x.state.clients in
      let phases = phase.Collecting ∷ phase.Previous ∷ phase.Active ∷ phase.Updating ∷ [] in
      if not (of_member phases f e x && nat_lt (slice_index_or clients.taken f 0) seq) then dropped x else
      x ▸ clients_are (record clients { taken = slice_set clients.taken f seq }) ▸ at_leader c (origin.Forwarded f seq)

  -- the next command that waits is proposed
  unfoldable pub propose_due : Course → Result Course Which
  propose_due x = if may_propose x then propose_next me now x else nothing_more x

-- the leader's answer goes to the session that waits under that number
abbrev pub reply_each : List Asked → Reply → Course → Course
reply_each asked r = say (map (λ a. sent.Reply a.session r) asked)

unfoldable pub hear_route : (f e : ℕ) → (seq : ℕ) → Reply → Course → Result Course Which
hear_route f e seq r x =
    let sessions = x.state.clients.sessions in
    if not (of_leader f e x) then dropped x else
    Ok (x
    ▸ clients_are (record x.state.clients { sessions = filter (λ a. not (a.seq == seq)) sessions })
    ▸ reply_each (filter (λ a. a.seq == seq) sessions) r)
