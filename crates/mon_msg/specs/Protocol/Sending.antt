-- What an event sends.
use Rattle.std.specs.List.{range_with_len}
use Rattle.std.specs.Prelude.{ℕ, Bool, not, ◌&&◌, ◌==◌, List, Option, Some, None, [], ◌∷◌, filter, map}
use Rattle.mon_msg.specs.Protocol.Course.{Course, say}
use Rattle.mon_msg.specs.Protocol.Readings.{epoch_of}
use Rattle.mon_wire.specs.declared.body.Body.TheVariants as body
use Rattle.mon_wire.specs.declared.body.Body.{Body}
use Rattle.mon_msg.specs.declared.plan.Origin.TheVariants as origin
use Rattle.mon_msg.specs.declared.plan.Origin.{Origin}
use Rattle.mon_msg.specs.declared.plan.Sent.TheVariants as sent
use Rattle.mon_msg.specs.declared.plan.Sent.{Sent}
use Rattle.mon_wire.specs.declared.reply.Reply.{Reply}
use Rattle.mon_wire.specs.declared.request.Session.{Session}
use Rattle.mon_msg.specs.declared.view.Me.{Me}
use Rattle.mon_types.specs.Ranks.{has}

-- the ranks of a set without the own one, ascending
abbrev pub members : Me → List Bool → List ℕ
members me q = filter (λ k. has q k && not (k == me.member.rank)) (range_with_len 0 me.member.monitors)

abbrev pub others : Me → List ℕ
others me = filter (λ k. not (k == me.member.rank)) (range_with_len 0 me.member.monitors)

-- ---- messages, in the epoch that the store has now

abbrev pub message_to : Me → (epoch : ℕ) → Body → (to : ℕ) → Sent
message_to me epoch b to =
    sent.Message to (record { from = me.member.rank; monitors = me.member.monitors; epoch = epoch; body = b })

abbrev pub send_each : Me → List ℕ → Body → Course → Course
send_each me ks b x = say (map (message_to me (epoch_of x.readings) b) ks) x

abbrev pub send : Me → ℕ → Body → Course → Course
send me to b x = say (message_to me (epoch_of x.readings) b to ∷ []) x

-- ---- answers

abbrev pub reply_to : Session → Reply → Course → Course
reply_to session r = say (sent.Reply session r ∷ [])

-- a session of this monitor gets a reply; the answer to a forwarded command goes to the peon that forwarded it
abbrev pub answer_to : Me → (epoch : ℕ) → Origin → Reply → Sent
answer_to me epoch (origin.Session session) r = sent.Reply session r
answer_to me epoch (origin.Forwarded rank seq) r = message_to me epoch (body.Route seq r) rank

abbrev pub answer : Me → Origin → Reply → Course → Course
answer me o r x = say (answer_to me (epoch_of x.readings) o r ∷ []) x

abbrev pub answers_to : Me → (epoch : ℕ) → Option Origin → Reply → List Sent
answers_to me epoch None r = []
answers_to me epoch (Some o) r = answer_to me epoch o r ∷ []

abbrev pub answer_any : Me → Option Origin → Reply → Course → Course
answer_any me o r x = say (answers_to me (epoch_of x.readings) o r) x
