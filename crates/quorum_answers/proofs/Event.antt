-- What an event says, whatever is known of the ROUTEs that come.
use Rattle.law_names.proofs.Runs.{Asked, Envelope, Monitors, World}
use Rattle.law_names.proofs.Table.{AllByRecursion, Body, Command, Course, Input, Me, Message, Op, Origin, Readings, Reply, Request, State, Waiting, epoch_of, readings_of, same_phase, shared_entries, text, value}
use Rattle.mon_msg.specs.declared.input.Input.TheVariants as input
use Rattle.mon_wire.specs.declared.body.Body.TheVariants as body
use Rattle.mon_wire.specs.declared.phase.Phase.TheVariants as phase
use Rattle.mon_wire.specs.declared.request.Request.TheVariants as request
use Rattle.quorum_agreement.proofs.Lone.{active_is}
use Rattle.quorum_answers.proofs.Rows.{BodyKnown, HandKnown, InputKnown, reacts}
use Rattle.quorum_answers.proofs.Saying as saying
use Rattle.quorum_history.proofs.History.{Accepted}
use Rattle.quorum_history.proofs.Holds.{BodyHolds, HasSource, InPhase, core_of}
use Rattle.quorum_history.proofs.Rows.{InputHolds}
use Rattle.quorum_history.proofs.RowsClients as clients
use Rattle.quorum_laws.proofs.Events.{Does, member_of}
use Rattle.quorum_laws.proofs.Invariant.{InvWith}
use Rattle.quorum_walk.proofs.Sparing.{own_of}
use Rattle.quorum_walk.proofs.Walk.{Then}
use Rattle.std.proofs.Common.{List, refl, subst, true, ℕ, ◌≡◌}
use Rattle.table_walk.proofs.Steps.{asked_by}

module _ (ms : Monitors) (w : World) (asked : List Asked) (J : InvWith ms w asked) (On : Envelope → Type 0) (d : Does ms w On asked J) where
  abbrev pub me : Me
  me = member_of ms d.by.rank d.by.lt

  abbrev pub s : State
  s = d.by.state

  abbrev pub w0 : Readings
  w0 = readings_of (w.store d.by.rank)

  -- a command that a client asked here, or that was handed on
  abbrev pub From : ℕ → Command → Origin → Type 0
  From e c o = HasSource J.g d.by.rank e c o

  abbrev pub Voted : (f pn v : ℕ) → Type 0
  Voted f pn v = (x : List Op) × Accepted J.g f v pn x

  module _ (Routed : (f e seq : ℕ) → Reply → Type 0) (routes : (m : Message) → d.by.came ≡ input.Deliver m → (seq : ℕ) (r : Reply) → m.body ≡ body.Route seq r → Routed m.from m.epoch seq r) where
    abbrev pub Says : Course → Type 0
    Says = saying.Outcome me d.by.at w0 s d.by.came From Routed Voted

    queued : same_phase s.phase phase.Active ≡ true → AllByRecursion (λ (q : Waiting). From (epoch_of w0) q.command q.origin) s.clients.queue
    queued t = let k = subst (InPhase ms.count J.g d.by.rank (core_of (own_of w0) s)) (active_is s.phase t) d.by.on in k.0.reigns.queue

    known : (came : Input) → d.by.came ≡ came → InputHolds me J.g came → InputKnown me d.by.at w0 s d.by.came From Routed Voted came
    known (input.Deliver e) is h = by e.body refl
      where
        by : (b : Body) → e.body ≡ b → BodyKnown me d.by.at w0 s d.by.came From Routed Voted e.from e.epoch b
        by (body.Forward seq c) q = subst (BodyHolds J.g e.from d.by.rank e.epoch) q h.1.body
        by (body.Route seq r) q = routes e is seq r q
        by (body.Accept pn v) q = let B = subst (BodyHolds J.g e.from d.by.rank e.epoch) q h.1.body in (B.1, B.2)
        by b q = tt
    known (input.Client t r) is h = by r h
      where
        by : (r : Request) → clients.IsAsked J.g d.by.rank t r → HandKnown me d.by.at w0 s d.by.came From Routed Voted (asked_by r t) w0 s.phase
        by (request.Set key value) h = (h, refl, refl)
        by (request.Remove key) h = (h, refl, refl)
        by (request.Log text) h = (h, refl, refl)
        by (request.Show v) h = tt
        by (request.Since v z) h = tt
    known other is h = tt

    pub outcome : Says d.y
    outcome = (subst (Then Says) d.is (reacts me d.by.at w0 s d.by.came From Routed Voted queued (shared_entries (w.store d.by.rank)) (known d.by.came refl d.by.holds))).holds
