-- How monitors measure their connections.
use Rattle.std.proofs.Common.{◌≡◌, ℕ, ◌+◌, ◌≤◌, ◌<◌, ◌^◌, Bool, cond, length, drop, get_or, List, [], ◌∷◌, map, min, Some, None, Ok, refl, sym, ap, ◌∙◌}
use Rattle.std.proofs.lemmas.List.{drop_more, drop_all}
use Rattle.election_rules.specs.Table.{raised, lowered, scored}
use Rattle.election_rules.specs.declared.scores.Scores.{Scores}
use Rattle.mon_msg.specs.Protocol.Course.{Course}
use Rattle.mon_msg.specs.Protocol.Pings.{hear_ping, hear_ping_reply, ping, with_heard, measure, scores_after}
use Rattle.mon_msg.specs.Protocol.Readings.{Readings, epoch_of, readings_of}
use Rattle.mon_msg.specs.Protocol.Sending.{others, message_to}
use Rattle.mon_msg.specs.declared.election.Elector.{Elector}
use Rattle.mon_msg.specs.declared.plan.Arming.TheVariants as arming
use Rattle.mon_msg.specs.declared.plan.Next.TheVariants as next
use Rattle.mon_msg.specs.declared.plan.Sent.{Sent}
use Rattle.mon_msg.specs.declared.view.Me.{Me}
use Rattle.mon_plan.proofs.Planning.{sending-is}
use Rattle.mon_types.specs.Ranks.{has}
use Rattle.mon_wire.specs.declared.body.Body.TheVariants as body
use Rattle.mon_wire.specs.declared.phase.Timer.TheVariants as timer
use Rattle.mon_elector.specs.Rows.{sent_table}
use Rattle.mon_elector.specs.declared.here.Here.{Here}
use Rattle.mon_elector.proofs.Known.{Met, planned, along}

module _ (here : Here) (x : Course) (b : Met here x) (f : ℕ) (table : Scores) where
  abbrev pub answers : Readings → Elector → Type 0
  answers r t =
      hear_ping here.me.now f (Some table) x
      ≡ Ok (planned [] (message_to here.me.now (epoch_of r) (body.PingReply (sent_table here.me.now.rule (with_heard f table t).scores)) f ∷ []) [] (with_heard f table t) next.Stay x)

  pub ping-answered : answers (readings_of here.stored.now) here.state.now
  unfolding hear_ping
  ping-answered = along here x b answers refl

  abbrev pub notes : Elector → Type 0
  notes t = hear_ping_reply f (Some table) x ≡ Ok (planned [] [] [] (with_heard f table t) next.Stay x)

  pub ping_reply-noted : notes here.state.now
  unfolding hear_ping_reply
  ping_reply-noted = along here x b (λ r t. notes t) refl

pub ping-untold : (me : Me) (f : ℕ) (x : Course) → hear_ping me f None x ≡ Ok x
unfolding hear_ping
ping-untold me f x = refl

pub ping_reply-untold : (f : ℕ) (x : Course) → hear_ping_reply f None x ≡ Ok x
unfolding hear_ping_reply
ping_reply-untold f x = refl

abbrev pub asks : Me → (now e : ℕ) → Elector → List Sent
asks me now e t = map (message_to me e (body.Ping (sent_table me.rule (measure me now t).scores))) (others me)

module _ (here : Here) (x : Course) (b : Met here x) where
  abbrev pub pings : Readings → Elector → Type 0
  pings r t =
      ping here.me.now here.time x
      ≡ Ok (planned [] (asks here.me.now here.time (epoch_of r) t) (arming.Arm timer.Ping (min (here.time + 2000) (2 ^ 62)) ∷ []) (measure here.me.now here.time t) next.Stay x)

  pub ping-due : pings (readings_of here.stored.now) here.state.now
  unfolding ping
  ping-due = along here x b pings (ap (λ y. Ok y) (sym (sending-is (asks here.me.now here.time (epoch_of x.readings) x.state.elector) _)))

-- ---- one monitor after the other

pub scores_next : (seconds : ℕ) (heard : List Bool) (ks : List ℕ) (i k : ℕ) (t : Scores) → i < length ks → k ≡ get_or ks i k
    → scores_after seconds heard (drop (i + 1) ks) (scored (cond (has heard k) (raised seconds) (lowered seconds)) k t) ≡ scores_after seconds heard (drop i ks) t
scores_next seconds heard ks i k t within is =
    sym (ap (λ (l : List ℕ). scores_after seconds heard l t) (drop_more ks i k within ∙ ap (λ (y : ℕ). y ∷ drop (i + 1) ks) (sym is)))

pub scores_end : (seconds : ℕ) (heard : List Bool) (ks : List ℕ) (i : ℕ) (t : Scores) → length ks ≤ i → scores_after seconds heard (drop i ks) t ≡ t
scores_end seconds heard ks i t past = ap (λ (l : List ℕ). scores_after seconds heard l t) (drop_all i ks past)
