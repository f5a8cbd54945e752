-- What is known in every run of commands that wait and are handed on.
use Rattle.law_names.proofs.Runs.{Monitors, World}
use Rattle.law_names.proofs.Table.{AllByRecursion, Asked, Body, Command, Origin, Phase, Session, State, Waiting, is_leading, is_peon}
use Rattle.mon_msg.specs.declared.plan.Origin.TheVariants as origin
use Rattle.mon_wire.specs.declared.body.Body.TheVariants as body
use Rattle.mon_wire.specs.declared.phase.Phase.TheVariants as phase
use Rattle.quorum_history.proofs.History.{Handed}
use Rattle.quorum_history.proofs.Holds.{BodyHolds, Core, FollowsIn, HasSource, InPhase, IsHanded, Waits, core_of, epoch_in}
use Rattle.quorum_history.proofs.Phases.{no, peon_is_peon}
use Rattle.quorum_laws.proofs.Invariant.{InvOf}
use Rattle.quorum_laws.proofs.Reading.{sent_holds, state_holds}
use Rattle.quorum_laws.specs.Accepting.{readings_at}
use Rattle.quorum_laws.specs.Commands.{CommandsHold, HandsOn, HasOrigin, WasAsked}
use Rattle.quorum_walk.proofs.Lists.{all_map}
use Rattle.quorum_walk.proofs.Sparing.{own_of}
use Rattle.std.proofs.Common.{Some, subst, true, ℕ, ◌≡◌}

module _ (ms : Monitors) (w : World) (I : InvOf ms w) where
  handed : (i e seq : ℕ) (s : Session) (c : Command) → Handed I.g i e seq s c → WasAsked ms.count w.asked i s c
  handed i e seq s c a = I.asks i s c (I.glob.hands.asked i e seq s c a)

  sourced : (i e : ℕ) (c : Command) (o : Origin) → HasSource I.g i e c o → HasOrigin ms.count w.asked i c o
  sourced i e c (origin.Session s) a = I.asks i s c a
  sourced i e c (origin.Forwarded f seq) a = (a.0, handed f e seq a.0 c a.1)

  hands_on : (from to e : ℕ) (b : Body) → BodyHolds I.g from to e b → HandsOn ms.count w.asked from b
  hands_on from to e (body.Forward seq c) k = (k.0, handed from e seq k.0 c k.1)
  hands_on from to e other k = tt

  queue_in : (i : ℕ) (c : Core) (p : Phase) → is_leading p ≡ true → InPhase ms.count I.g i c p → AllByRecursion (Waits I.g i (epoch_in c.own)) c.queue
  queue_in i c phase.Collecting t k = k.0.reigns.queue
  queue_in i c phase.Previous t k = k.0.reigns.queue
  queue_in i c phase.Active t k = k.0.reigns.queue
  queue_in i c phase.Updating t k = k.0.reigns.queue
  queue_in i c other t k = no t

  leader_holds : (i : ℕ) (s : State) → w.state i ≡ Some s → is_leading s.phase ≡ true → AllByRecursion (λ q. HasOrigin ms.count w.asked i q.command q.origin) s.clients.queue
  leader_holds i s up leads =
      let c : Core = core_of (own_of (readings_at w i)) s in
      all_map (Waits I.g i (epoch_in c.own)) (λ (q : Waiting). HasOrigin ms.count w.asked i q.command q.origin) (λ q. sourced i (epoch_in c.own) q.command q.origin) s.clients.queue (queue_in i c s.phase leads (state_holds ms w I i s up))

  peon_holds : (i : ℕ) (s : State) → w.state i ≡ Some s → is_peon s.phase ≡ true → AllByRecursion (λ a. (c : Command) × WasAsked ms.count w.asked i a.session c) s.clients.sessions
  peon_holds i s up peon =
      let c : Core = core_of (own_of (readings_at w i)) s in
      let k : FollowsIn I.g i c = subst (InPhase ms.count I.g i c) (peon_is_peon s.phase peon) (state_holds ms w I i s up) in
      all_map (IsHanded I.g i (epoch_in c.own)) (λ (a : Asked). (d : Command) × WasAsked ms.count w.asked i a.session d) (λ a h. (h.0, handed i (epoch_in c.own) a.seq a.session h.0 h.1)) s.clients.sessions k.sessions

  pub commands_hold : CommandsHold ms.count w
  commands_hold = record { messages = λ e c. hands_on e.message.from e.to e.message.epoch e.message.body (sent_holds ms w I e c).body; leaders = leader_holds; peons = peon_holds }
