-- Single events at a monitor of which something is known.
use Rattle.law_names.proofs.Runs.{AllFit, Arrival, Arrives, Client, Crash, Deliver, Envelope, Event, Monitors, PlainFits, RequestFits, Ring, Start, World, plain_of, request_of, run_from}
use Rattle.law_names.proofs.Table.{Command, Course, Message, Readings, Request, Session, State, Store, Timer, booting, has, react, readings_of, shared_entries}
use Rattle.mon_decode.specs.Headers.{kind_in}
use Rattle.mon_msg.specs.declared.input.Input.TheVariants as input
use Rattle.quorum_elects.proofs.Can.{New, Sane, Scope, new_step}
use Rattle.quorum_elects.proofs.Moving.{Did, Moved, Sound, comes_by}
use Rattle.quorum_elects.proofs.Planning.{Does}
use Rattle.quorum_elects.proofs.Standing.{Is}
use Rattle.quorum_elects.proofs.Walking.{Surely}
use Rattle.quorum_elects.specs.Plans.{ArePlanned, Asks, Hears, IsPlanned, Planned, Rings, Starts}
use Rattle.quorum_elects.specs.Ways.{AreSteps, Clock, IsAskedBy, IsStep}
use Rattle.quorum_model.proofs.Members.{member_of}
use Rattle.std.proofs.Common.{Bool, IfSome, List, None, Option, Some, [], ap, ltb, option_map, refl, subst, suc, sym, true, ℕ, ◌<◌, ◌∙◌, ◌∷◌, ◌≡◌}
use Rattle.std.proofs.lemmas.Bool.{ltb-true}

-- ---- who remembers what

pub is_stays : (R : Readings → State → Type 0) (w next : World) (i : ℕ) → (next.state i ≡ w.state i) × (next.store i ≡ w.store i) → Is R w i → Is R next i
is_stays R w next i same k = record { state = k.state; up = same.0 ∙ k.up; holds = subst (λ (m : Store). R (readings_of m) k.state) (sym same.1) k.holds }

pub is_now : (S : Scope) (R : Readings → State → Type 0) (w next : World) (i : ℕ) (y : Course) → Moved S w next i y → R y.readings y.state → Is R next i
is_now S R w next i y M h = record { state = y.state; up = M.up; holds = subst (λ (r : Readings). R r y.state) (sym M.reads) h }

-- ---- events

module _ (S : Scope) (w : World) (sane : Sane S w) (i : ℕ) (lt : ltb i S.ms.count ≡ true) (inside : has S.q i ≡ true) (R : Course → Type 0) where
  first : (p : Planned) (es : List Event) (e : Event) → es ≡ e ∷ [] → IsPlanned S.clock w p e → ArePlanned S.ms S.clock w (p ∷ []) es
  first p es e is planned = subst (λ (l : List Event). ArePlanned S.ms S.clock w (p ∷ []) l) (sym is) (planned, refl)

  pub start : Surely (λ y. Sound (readings_of (w.store i)) y × R y) (react (member_of S.ms i lt) (shared_entries (w.store i)) (S.clock.event w) (readings_of (w.store i)) (booting i) input.Start)
      → Does S (Starts i ∷ []) 1 (Did S R w i) w
  start T = let D = comes_by S w sane (Start i (S.clock.event w)) i lt (S.clock.event w) input.Start (booting i) refl refl (refl, inside) inside (ltb-true i S.ms.count lt) R T in record { can = D.can; are = first (Starts i) D.can.events (Arrives (Start i (S.clock.event w))) D.is refl }

  pub deliver : (m : Message) → New S.sent w (record { to = i; message = m }) → (s : State) → w.state i ≡ Some s
      → Surely (λ y. Sound (readings_of (w.store i)) y × R y) (react (member_of S.ms i lt) (shared_entries (w.store i)) (S.clock.event w) (readings_of (w.store i)) s (input.Deliver m))
      → Does S (Hears i m.from (kind_in m.body) ∷ []) 1 (Did S R w i) w
  deliver m N s up T =
      let D = comes_by S w sane (Deliver (suc N.index) (S.clock.event w)) i lt (S.clock.event w) (input.Deliver m) s (ap (option_map arrives) N.there) up (new_step S.q S.asks S.clock N inside) inside tt R T in
      record {
        can = D.can;
        are = first (Hears i m.from (kind_in m.body)) D.can.events (Arrives (Deliver (suc N.index) (S.clock.event w))) D.is (record { number = suc N.index; is = refl; envelope = record { to = i; message = m }; there = N.there; to = refl; sender = refl; kind_is = refl });
      }
    where
      arrives : Envelope → Arrival
      arrives e = record { rank = e.to; at = S.clock.event w; input = input.Deliver e.message }

  pub ring : (t : Timer) → (s : State) → w.state i ≡ Some s
      → Surely (λ y. Sound (readings_of (w.store i)) y × R y) (react (member_of S.ms i lt) (shared_entries (w.store i)) (S.clock.event w) (readings_of (w.store i)) s (input.Timer t))
      → Does S (Rings i t ∷ []) 1 (Did S R w i) w
  ring t s up T = let D = comes_by S w sane (Ring i t (S.clock.event w)) i lt (S.clock.event w) (input.Timer t) s refl up (refl, inside) inside (ltb-true i S.ms.count lt) R T in record { can = D.can; are = first (Rings i t) D.can.events (Arrives (Ring i t (S.clock.event w))) D.is refl }

  pub ask : (session : Session) (c : Command) → IsAskedBy S.asks session (request_of c) → RequestFits (request_of c) → (s : State) → w.state i ≡ Some s
      → Surely (λ y. Sound (readings_of (w.store i)) y × R y) (react (member_of S.ms i lt) (shared_entries (w.store i)) (S.clock.command w) (readings_of (w.store i)) s (input.Client session (request_of c)))
      → Does S (Asks i session c ∷ []) 1 (Did S R w i) w
  ask session c may form s up T =
      let D = comes_by S w sane (Client i (S.clock.command w) session (request_of c)) i lt (S.clock.command w) (input.Client session (request_of c)) s refl up (refl, inside, may) inside (ltb-true i S.ms.count lt, form) R T in
      record { can = D.can; are = first (Asks i session c) D.can.events (Arrives (Client i (S.clock.command w) session (request_of c))) D.is refl }

-- the requests that they may be asked have their form
abbrev pub AsksFit : Option (Session × Command) → Type 0
AsksFit asks = IfSome asks (λ a. RequestFits (request_of a.1))

-- such events are those of a run
module _ (ms : Monitors) (q : List Bool) (sent : ℕ) (below : (m : ℕ) → has q m ≡ true → m < ms.count) where
  asked_fits : (asks : Option (Session × Command)) → AsksFit asks → (s : Session) (r : Request) → IsAskedBy asks s r → RequestFits r
  asked_fits None F s r k = absurd k
  asked_fits (Some a) F s r k = subst RequestFits (sym k.1) F

  step_fits : (asks : Option (Session × Command)) → AsksFit asks → (clock : Clock) (w : World) (e : Event) → IsStep q sent asks clock w e → PlainFits ms.count (plain_of e)
  step_fits asks F clock w (Arrives (Start rank at)) k = below rank k.1
  step_fits asks F clock w (Arrives (Deliver message at)) k = tt
  step_fits asks F clock w (Arrives (Ring rank timer at)) k = below rank k.1
  step_fits asks F clock w (Arrives (Client rank at session r)) k = (below rank k.1, asked_fits asks F session r k.2)
  step_fits asks F clock w (Crash p kept) k = absurd k

  pub steps_fit : (asks : Option (Session × Command)) → AsksFit asks → (clock : Clock) (w : World) (es : List Event) → AreSteps ms q sent asks clock w es → AllFit ms.count es
  steps_fit asks F clock w [] s = tt
  steps_fit asks F clock w (e ∷ es) s = (step_fits asks F clock w e s.0, steps_fit asks F clock (run_from ms w (e ∷ [])) es s.1)
