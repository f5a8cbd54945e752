-- Messages that a monitor hears, and from whom.
use Rattle.law_names.proofs.Table.{Body, Course, Entry, Me, Message, Phase, Readings, Request, Session, State, Timer, Which, at_rest, disarm, epoch_of, has, hear, hear_client, is_armed, is_one_of, of_leader, of_member, of_provider, react, same_phase, timer_comes, votes, ◌▸◌}
use Rattle.mon_msg.specs.Protocol.Hearing.{has_fitting_table}
use Rattle.mon_msg.specs.declared.input.Input.TheVariants as input
use Rattle.mon_wire.specs.declared.phase.Phase.TheVariants as phase
use Rattle.std.proofs.Common.{List, Result, ap, eq-eqb, false, ne_eqb, refl, sym, true, ℕ, ◌&&◌, ◌∙◌, ◌≡◌}

-- a message of the monitor f of the same map, in epoch e
abbrev pub letter : Me → (f e : ℕ) → Body → Message
letter me f e b = record { from = f; monitors = me.member.monitors; epoch = e; body = b }

-- the monitor f is another one, and this one has started
pub record IsOther (me : Me) (s : State) (f : ℕ) : Type 0 where
  pub other : f ≡ me.member.rank → ⊥
  pub runs : same_phase s.phase phase.Booting ≡ false

-- a peon follows the leader f in epoch e
pub record IsLeader (me : Me) (w : Readings) (s : State) (f e : ℕ) : Type 0 where
  pub other : f ≡ me.member.rank → ⊥
  pub follows : s.phase ≡ phase.Peon
  pub epoch : epoch_of w ≡ e
  pub leader : s.peon.leader ≡ f

-- f is a member of the quorum of a leader in phase p, in epoch e
pub record IsMember (me : Me) (w : Readings) (s : State) (p : Phase) (f e : ℕ) : Type 0 where
  pub other : f ≡ me.member.rank → ⊥
  pub leads : s.phase ≡ p
  pub epoch : epoch_of w ≡ e
  pub member : has s.leader.quorum f ≡ true

-- f gives a copy to a monitor that synchronizes
pub record IsProvider (me : Me) (s : State) (f : ℕ) : Type 0 where
  pub other : f ≡ me.member.rank → ⊥
  pub takes : s.phase ≡ phase.Synchronizing
  pub provider : s.requester.provider ≡ f

pub another : {me : Me} {s : State} {f : ℕ} → (f ≡ me.member.rank → ⊥) → same_phase s.phase phase.Booting ≡ false → IsOther me s f
another other runs = record { other = other; runs = runs }

pub in_phase_runs : {me : Me} {s : State} {f : ℕ} (p : Phase) → (f ≡ me.member.rank → ⊥) → s.phase ≡ p → same_phase p phase.Booting ≡ false → IsOther me s f
in_phase_runs p other is runs = record { other = other; runs = ap (λ (q : Phase). same_phase q phase.Booting) is ∙ runs }

-- who takes part in elections has started
pub voter_runs : {me : Me} {s : State} {f : ℕ} → (f ≡ me.member.rank → ⊥) → votes s.phase ≡ true → IsOther me s f
voter_runs {me} {s} {f} other voting = record { other = other; runs = by s.phase voting }
  where
    by : (p : Phase) → votes p ≡ true → same_phase p phase.Booting ≡ false
    by phase.Booting v = sym v
    by other v = refl

pub is_of_leader : {me : Me} {w : Readings} {s : State} {f e : ℕ} → IsLeader me w s f e → of_leader f e (at_rest w s) ≡ true
is_of_leader {me} {w} {s} {f} {e} L = λ j. same_phase (L.follows j) phase.Peon && eq-eqb e (epoch_of w) (sym L.epoch) j && eq-eqb f s.peon.leader (sym L.leader) j

pub of_a_leader : {me : Me} {w : Readings} {s : State} {f e : ℕ} → IsLeader me w s f e → IsOther me s f
of_a_leader L = in_phase_runs phase.Peon L.other L.follows refl

pub is_of_member : {me : Me} {w : Readings} {s : State} {p : Phase} {f e : ℕ} (ps : List Phase) → is_one_of ps p ≡ true → IsMember me w s p f e → of_member ps f e (at_rest w s) ≡ true
is_of_member {me} {w} {s} {p} {f} {e} ps counts M = λ j. (ap (is_one_of ps) M.leads ∙ counts) j && eq-eqb e (epoch_of w) (sym M.epoch) j && M.member j

pub of_a_member : {me : Me} {w : Readings} {s : State} {p : Phase} {f e : ℕ} → same_phase p phase.Booting ≡ false → IsMember me w s p f e → IsOther me s f
of_a_member {p = p} runs M = in_phase_runs p M.other M.leads runs

pub is_of_provider : {me : Me} {s : State} {f : ℕ} (w : Readings) → IsProvider me s f → of_provider f (at_rest w s) ≡ true
is_of_provider {me} {s} {f} w P = λ j. same_phase (P.takes j) phase.Synchronizing && eq-eqb f s.requester.provider (sym P.provider) j

pub of_a_provider : {me : Me} {s : State} {f : ℕ} → IsProvider me s f → IsOther me s f
of_a_provider P = in_phase_runs phase.Synchronizing P.other P.takes refl

module _ (me : Me) (shared : List Entry) (now : ℕ) where
  -- what a monitor does at a message
  abbrev pub hears : Readings → State → (f e : ℕ) → Body → Result Course Which
  hears w s f e b = react me shared now w s (input.Deliver (letter me f e b))

  -- one that runs hears the messages of others
  pub heard : (w : Readings) {s : State} {f : ℕ} (e : ℕ) (b : Body) → IsOther me s f → has_fitting_table me b ≡ true → hears w s f e b ≡ hear me shared now f e b (at_rest w s)
  unfolding react
  heard w {s} {f} e b O fits = rw (O.runs, ne_eqb f me.member.rank O.other, eq-eqb me.member.monitors me.member.monitors refl, fits) refl

  -- and takes the timers that are armed
  pub rings : (w : Readings) (s : State) (t : Timer) → same_phase s.phase phase.Booting ≡ false → is_armed t s.timers ≡ true → react me shared now w s (input.Timer t) ≡ timer_comes me now t (at_rest w s ▸ disarm t)
  unfolding react
  rings w s t runs on = rw (runs, on) refl

  -- and the requests of clients
  pub asked : (w : Readings) (s : State) (session : Session) (r : Request) → same_phase s.phase phase.Booting ≡ false → react me shared now w s (input.Client session r) ≡ hear_client me now session r (at_rest w s)
  unfolding react
  asked w s session r runs = rw runs refl
