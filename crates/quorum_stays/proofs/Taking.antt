-- Whether the leader takes a command from what an event brings.
use Rattle.law_names.proofs.Runs.{Arrival, Arrives, Event, World, arrival}
use Rattle.law_names.proofs.Table.{Body, Input, Me, Message, Origin, Phase, Readings, Request, Session, State, at_rest, is_heard, is_leading, of_member, readings_of}
use Rattle.mon_msg.specs.declared.input.Input.TheVariants as input
use Rattle.mon_msg.specs.declared.plan.Origin.TheVariants as origin
use Rattle.mon_wire.specs.declared.body.Body.TheVariants as body
use Rattle.mon_wire.specs.declared.phase.Phase.TheVariants as phase
use Rattle.mon_wire.specs.declared.request.Request.TheVariants as request
use Rattle.quorum_stays.specs.Serving.{IsForward}
use Rattle.std.proofs.Common.{Bool, List, None, Option, Some, [], ap, cond, eqb, ltb, refl, slice_index_or, ℕ, ◌&&◌, ◌∙◌, ◌∷◌, ◌≡◌}
use Rattle.std.proofs.lemmas.Bool.{cond_both, eq-eqb, ne_eqb}

-- a monitor that leads, in each of its phases
abbrev pub leading : List Phase
leading = phase.Collecting ∷ phase.Previous ∷ phase.Active ∷ phase.Updating ∷ []

-- the message is of a member of the leader's quorum, and it took none of this number from that member or later
abbrev pub takes_seq : Readings → State → Message → (seq : ℕ) → Bool
takes_seq w s m seq = of_member leading m.from m.epoch (at_rest w s) && ltb (slice_index_or s.clients.taken m.from 0) seq

module _ (me : Me) (w : Readings) (s : State) where
  -- who asks the command that a leader takes from a client's request
  abbrev pub taken_request : Session → Request → Option Origin
  taken_request session (request.Show service) = None
  taken_request session (request.Since service version) = None
  taken_request session other = cond (is_leading s.phase) (Some (origin.Session session)) None

  -- the same for a message that is heard
  abbrev pub taken_body : Message → Body → Option Origin
  taken_body m (body.Forward seq c) = cond (takes_seq w s m seq) (Some (origin.Forwarded m.from seq)) None
  taken_body m other = None

  abbrev pub taken_from : Input → Option Origin
  taken_from (input.Client session r) = taken_request session r
  taken_from (input.Deliver m) = cond (is_heard me m) (taken_body m m.body) None
  taken_from other = None

  body_none : (m : Message) (b : Body) → (IsForward b → ⊥) → taken_body m b ≡ None
  body_none m (body.Forward seq c) nil = absurd (nil tt)
  body_none m other nil = refl

  pub no_forward : (m : Message) → (IsForward m.body → ⊥) → taken_from (input.Deliver m) ≡ None
  no_forward m nil = cond_both (is_heard me m) (taken_body m m.body) None (λ (o : Option Origin). o ≡ None) (λ _. body_none m m.body nil) (λ _. refl)

-- ---- of an event

module _ (me : Me) (w : World) (leader : ℕ) (s : State) where
  abbrev pub taken_at : Option Arrival → Option Origin
  taken_at None = None
  taken_at (Some a) = cond (eqb a.rank leader) (taken_from me (readings_of (w.store leader)) s a.input) None

  -- who asks the command that the leader takes, if it takes one
  abbrev pub taken_by : Event → Option Origin
  taken_by (Arrives p) = taken_at (arrival w p)
  taken_by other = None

  pub taken_here : (o : Option Arrival) (a : Arrival) → o ≡ Some a → a.rank ≡ leader → taken_at o ≡ taken_from me (readings_of (w.store leader)) s a.input
  taken_here o a is same = ap taken_at is ∙ (let t = eq-eqb a.rank leader same in rw t refl)

  pub taken_elsewhere : (o : Option Arrival) (a : Arrival) → o ≡ Some a → (a.rank ≡ leader → ⊥) → taken_at o ≡ None
  taken_elsewhere o a is other = ap taken_at is ∙ (let t = ne_eqb a.rank leader other in rw t refl)

  -- nothing is taken from such an input, wherever it comes
  pub taken_nowhere : (o : Option Arrival) (a : Arrival) → o ≡ Some a → taken_from me (readings_of (w.store leader)) s a.input ≡ None → taken_at o ≡ None
  taken_nowhere o a is none = ap taken_at is ∙ cond_both (eqb a.rank leader) (taken_from me (readings_of (w.store leader)) s a.input) None (λ (z : Option Origin). z ≡ None) (λ _. none) (λ _. refl)
