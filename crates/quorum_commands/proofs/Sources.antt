-- The sources of the commands that an event of a monitor may take: each command has a request of its own.
use Rattle.law_names.proofs.Runs.{Asked, Client, Deliver, IsCommand, Monitors, Plain, PlainFits, Ring, Start, World, command_of, with_asked}
use Rattle.law_names.proofs.Table.{AllByRecursion, Body, Command, Input, Me, Message, Origin, Readings, Request, Session, State, Timer, Waiting, booting, epoch_of, is_leading, readings_of, same_phase, shared_entries, text, value}
use Rattle.mon_bytes.specs.declared.command.Command.TheVariants as command
use Rattle.mon_msg.specs.declared.input.Input.TheVariants as input
use Rattle.mon_msg.specs.declared.plan.Origin.TheVariants as origin
use Rattle.mon_wire.specs.declared.body.Body.TheVariants as body
use Rattle.mon_wire.specs.declared.phase.Phase.TheVariants as phase
use Rattle.mon_wire.specs.declared.phase.Timer.TheVariants as timer
use Rattle.mon_wire.specs.declared.request.Request.TheVariants as request
use Rattle.quorum_agreement.proofs.Answered.{asker}
use Rattle.quorum_agreement.proofs.Lone.{active_is}
use Rattle.quorum_commands.proofs.Coming.{Does, me, phase_holds}
use Rattle.quorum_commands.proofs.Idle.{BodyReturns}
use Rattle.quorum_commands.proofs.Places.{AllWait, AskedAt, BodyForwards, Forwards, Handed, IsAt, IsForwarded, IsSettled, Nowhere, Place, Places, Queued, StillAt, Tickets, Waits, WaitsIn, asked_still, get_contained, get_more, get_pushed}
use Rattle.quorum_commands.proofs.Taking.{BodyKnown, InputKnown, Outcome, RequestKnown, TimerKnown, takes}
use Rattle.quorum_history.proofs.History.{Handed as HandedOn}
use Rattle.quorum_history.proofs.Holds.{ActsIn, BodyHolds, HasSource, InPhase, MessageHolds, Waits as HeldAs, core_of}
use Rattle.quorum_history.proofs.Phases.{no}
use Rattle.quorum_laws.proofs.Invariant.{EnvelopeFine, EnvelopeHolds, InvOf}
use Rattle.quorum_laws.proofs.Meetings.{sent_known}
use Rattle.quorum_laws.specs.Commands.{WasAsked}
use Rattle.quorum_model.proofs.Happening.{Brought}
use Rattle.quorum_walk.proofs.FineCourses.{MessageFine}
use Rattle.quorum_walk.proofs.Sparing.{own_of}
use Rattle.quorum_walk.proofs.Walk.{Then}
use Rattle.std.proofs.Common.{IfSome, List, Option, Some, [], ap, arith, get_or-set_other, get_or-set_same, inl, inr, length, length-append, length-set, ltb, refl, slice_get, slice_index_or, slice_set, subst, suc, sym, true, ℕ, ◌<◌, ◌∙◌, ◌∷◌, ◌≡◌, ◌≤◌, ◌⊎◌}
use Rattle.std.proofs.lemmas.Bool.{cases_eq, ltb-true}

-- ---- how places are distinguished

abbrev ticket_of : Place → ℕ
ticket_of (Queued j t) = t
ticket_of other = 0

abbrev from_of : Place → ℕ
from_of (Handed j to u s) = j
from_of other = 0

abbrev seq_of : Place → ℕ
seq_of (Handed j to u s) = s
seq_of other = 0

-- more is asked by an event, at most
pub asks_more : (p : Plain) (asked : List Asked) → StillAt asked (with_asked p asked)
asks_more (Client rank at t r) asked k a e = get_more asked (record { rank = rank; session = t; request = r } ∷ []) k a e
asks_more (Start rank at) asked k a e = e
asks_more (Deliver m at) asked k a e = e
asks_more (Ring rank t at) asked k a e = e

pub asks_longer : (p : Plain) (asked : List Asked) → length asked ≤ length (with_asked p asked)
asks_longer (Client rank at t r) asked = let l = length-append asked (record { rank = rank; session = t; request = r } ∷ []) in omega arith
asks_longer (Start rank at) asked = omega arith
asks_longer (Deliver m at) asked = omega arith
asks_longer (Ring rank t at) asked = omega arith

-- any session may be answered
abbrev pub Anybody : Session → Type 0
Anybody t = Unit {0}

-- ---- an event

module _ (ms : Monitors) (w : World) (p : Plain) (I : InvOf ms w) (places : Places) (T : Tickets ms.count places w.store w.state w.transactions w.messages w.asked w.log) (d : Does ms w p) where
  abbrev n : ℕ
  n = ms.count

  abbrev i : ℕ
  i = d.by.rank

  abbrev pub asked : List Asked
  asked = with_asked p w.asked

  abbrev self : Me
  self = me ms w I p d

  abbrev w0 : Readings
  w0 = readings_of (w.store d.by.rank)

  still : StillAt w.asked asked
  still = asks_more p w.asked

  in_map : i < n
  in_map = ltb-true d.by.rank ms.count d.by.lt

  -- those that waited here
  pub waited : Waits n w.asked places i d.by.state.clients.queue d.by.state.clients.taken
  waited = by d.by.remembers
    where
      by : (w.state i ≡ Some d.by.state) ⊎ (d.by.state ≡ booting i) → Waits n w.asked places i d.by.state.clients.queue d.by.state.clients.taken
      by (inl e) = subst (WaitsIn n w.asked places i) e (T.waits i)
      by (inr e) = subst (λ (s : State). Waits n w.asked places i s.clients.queue s.clients.taken) (sym e) (refl, 0, tt)

  -- a leader was up
  pub was_up : is_leading d.by.state.phase ≡ true → w.state i ≡ Some d.by.state
  was_up t = by d.by.remembers
    where
      by : (w.state i ≡ Some d.by.state) ⊎ (d.by.state ≡ booting i) → w.state i ≡ Some d.by.state
      by (inl e) = e
      by (inr e) = no (ap (λ (s : State). is_leading s.phase) (sym e) ∙ t)

  -- ---- where a command comes from

  -- a request of this session asked the command of monitor j
  pub record AskedBy (j : ℕ) (t : Session) (c : Command) : Type 0 where
    pub k : ℕ
    pub asks : AskedAt n asked k j c
    pub session : asks.session ≡ t

  -- the session that it was asked by, of this monitor or of the peon that handed it on
  abbrev pub HasAsker : Origin → Command → Type 0
  HasAsker (origin.Session t) c = AskedBy i t c
  HasAsker (origin.Forwarded f seq) c = (t : Session) × HandedOn I.g f (epoch_of w0) seq t c × AskedBy f t c

  asked_by : (j : ℕ) (t : Session) (c : Command) → WasAsked n w.asked j t c → AskedBy j t c
  asked_by j t c W = record {
    k = W.among.0;
    asks = record { by = W.by; at = still W.among.0 W.by (get_contained w.asked W.among.0 W.by W.among.1 W.among.2); session = t; was = record { by = W.by; among = (0, omega arith, refl); at = W.at; below = W.below; session = W.session; command = W.command; form = W.form } };
    session = refl;
  }

  handed_by : (f seq : ℕ) (t : Session) (c : Command) → HandedOn I.g f (epoch_of w0) seq t c → HasAsker (origin.Forwarded f seq) c
  handed_by f seq t c h = let hands = I.glob.hands in (t, h, asked_by f t c (I.asks f t c (hands.asked f (epoch_of w0) seq t c h)))

  has_asker : (c : Command) (o : Origin) → HasSource I.g i (epoch_of w0) c o → HasAsker o c
  has_asker c (origin.Session t) h = asked_by i t c (I.asks i t c h)
  has_asker c (origin.Forwarded f seq) h = handed_by f seq h.0 c h.1

  -- request k asked the command. It is none of the requests that wait besides, and none that a peon may still hand on.
  pub record Source (c : Command) (o : Origin) (others : List Waiting) (taken : List ℕ) : Type 0 where
    pub k : ℕ
    pub from : Place
    pub place : places k ≡ from
    pub at : IsAt i from
    pub asks : AskedAt n asked k (asker i o) c
    pub long : length taken ≡ 15
    pub ticket : ℕ
    pub tie : HasAsker o c
    pub fresh : from ≡ Nowhere → k ≡ length w.asked
    pub wait : AllWait n w.asked places i ticket others
    pub apart : (u : ℕ) → ticket ≤ u → Queued i u ≡ from → ⊥
    pub open_still : (f seq : ℕ) → slice_index_or taken f 0 < seq → (slice_index_or d.by.state.clients.taken f 0 < seq) × (Handed f i (epoch_of w0) seq ≡ from → ⊥)

  -- the newest request asks a command of this monitor
  abbrev pub Asks : Session → Command → Type 0
  Asks t c = (places (length w.asked) ≡ Nowhere) × (a : AskedAt n asked (length w.asked) i c) × (a.session ≡ t)

  from_client : (t : Session) (c : Command) → Asks t c → Source c (origin.Session t) d.by.state.clients.queue d.by.state.clients.taken
  from_client t c A = let q = waited in record {
    k = length w.asked;
    from = Nowhere;
    place = A.0;
    at = tt;
    asks = A.1;
    tie = record { k = length w.asked; asks = A.1; session = A.2 };
    fresh = λ e. refl;
    long = q.0;
    ticket = q.1;
    wait = q.2;
    apart = λ u le e. absurd cc;
    open_still = λ f seq lt. (lt, λ e. absurd cc);
  }

  -- the first of those that wait
  first_known : same_phase d.by.state.phase phase.Active ≡ true → (x : Waiting) (xs : List Waiting) → d.by.state.clients.queue ≡ x ∷ xs → Source x.command x.origin xs d.by.state.clients.taken
  first_known active x xs e =
      let q = waited in
      let leads : ActsIn n I.g i (core_of (own_of w0) d.by.state) = subst (InPhase n I.g i (core_of (own_of w0) d.by.state)) (active_is d.by.state.phase active) (phase_holds ms w I p d) in
      let source = subst (AllByRecursion (HeldAs I.g i (epoch_of w0))) e leads.0.reigns.queue in
      let h = subst (AllWait n w.asked places i q.1) e q.2 in
      record {
        k = h.0.k;
        from = Queued i q.1;
        place = h.0.place;
        at = refl;
        asks = asked_still n w.asked asked still h.0.k (asker i x.origin) x.command h.0.of;
        tie = has_asker x.command x.origin source.0;
        fresh = λ z. absurd cc;
        long = q.0;
        ticket = suc q.1;
        wait = h.1;
        apart = λ u le z. (let same = ap ticket_of z in omega arith);
        open_still = λ f seq lt. (lt, λ z. absurd cc);
      }

  -- a command that a peon hands on, and that wasn't taken
  forward_known : (f e seq : ℕ) (c : Command) → ((f ≡ i → ⊥) → IsForwarded n w.asked places (w.store i) (w.state i) f i e seq c) → (s : Session) × HandedOn I.g f e seq s c → f < n → (f ≡ i → ⊥) → is_leading d.by.state.phase ≡ true → e ≡ epoch_of w0 → ltb (slice_index_or d.by.state.clients.taken f 0) seq ≡ true
      → Source c (origin.Forwarded f seq) d.by.state.clients.queue (slice_set d.by.state.clients.taken f seq)
  forward_known f e seq c F B lt apart leads now_is fresh =
      let q = waited in
      let new = ltb-true (slice_index_or d.by.state.clients.taken f 0) seq fresh in
      let h = (F apart).own d.by.state (was_up leads) leads (sym now_is) new in
      record {
        k = h.k;
        from = Handed f i e seq;
        place = h.place;
        at = refl;
        asks = asked_still n w.asked asked still h.k f c h.of;
        tie = handed_by f seq B.0 c (subst (λ (z : ℕ). HandedOn I.g f z seq B.0 c) now_is B.1);
        fresh = λ z. absurd cc;
        long = length-set d.by.state.clients.taken f seq ∙ q.0;
        ticket = q.1;
        wait = q.2;
        apart = λ u le z. absurd cc;
        open_still = λ g s less. by g s (cases_eq g f) less new (let long = q.0 in let few = ms.most in omega arith);
      }
    where
      by : (g s : ℕ) → (g ≡ f) ⊎ (g ≡ f → ⊥) → slice_index_or (slice_set d.by.state.clients.taken f seq) g 0 < s → slice_index_or d.by.state.clients.taken f 0 < seq → f < length d.by.state.clients.taken
          → (slice_index_or d.by.state.clients.taken g 0 < s) × (Handed g i (epoch_of w0) s ≡ Handed f i e seq → ⊥)
      by g s (inl z) less new within =
          let less2 : slice_index_or (slice_set d.by.state.clients.taken f seq) f 0 < s = subst (λ (j : ℕ). slice_index_or (slice_set d.by.state.clients.taken f seq) j 0 < s) z less in
          let is = get_or-set_same d.by.state.clients.taken f seq 0 within in
          (subst (λ (j : ℕ). slice_index_or d.by.state.clients.taken j 0 < s) (sym z) (omega arith), λ u. (let same = ap seq_of u in omega arith))
      by g s (inr ne) less new within = (let is = get_or-set_other d.by.state.clients.taken f g seq 0 ne in omega arith, λ u. ne (ap from_of u))

  newest_at : (t : Session) (r : Request) → Brought ms w p i (input.Client t r) → slice_get asked (length w.asked) ≡ Some (record { rank = i; session = t; request = r })
  newest_at t r b = subst (λ (z : Plain). slice_get (with_asked z w.asked) (length w.asked) ≡ Some (record { rank = i; session = t; request = r })) (sym b.1) (get_pushed w.asked (record { rank = i; session = t; request = r }))

  -- a request that comes is the newest
  newest : (t : Session) (r : Request) (c : Command) → command_of r ≡ Some c → Brought ms w p i (input.Client t r) → Asks t c
  newest t r c is b = (
    T.free (length w.asked) (omega arith),
    record {
      by = one;
      at = newest_at t r b;
      session = t;
      was = record { by = one; among = (0, omega arith, refl); at = refl; below = in_map; session = refl; command = is; form = subst (λ (o : Option Command). IfSome o IsCommand) is (subst (PlainFits ms.count) b.1 d.fit).1 };
    },
    refl,
  )
    where
      one : Asked
      one = record { rank = i; session = t; request = r }

  -- it isn't under way yet
  pub newest_settled : (t : Session) (r : Request) → Brought ms w p i (input.Client t r) → IsSettled asked places i t
  newest_settled t r b = record { k = length w.asked; by = record { rank = i; session = t; request = r }; at = newest_at t r b; rank = refl; session = refl; place = T.free (length w.asked) (omega arith) }

  -- what is known of a message that comes
  pub said : (m : Message) → Brought ms w p i (input.Deliver m) → ((m.from < n) × MessageHolds I.g i m) × MessageFine m
  said m b = (sent_known ms w p d.by w.asked I (EnvelopeHolds n I.g) I.sent m b, sent_known ms w p d.by w.asked I EnvelopeFine I.sizes m b)

  -- ---- what comes

  -- the sessions that an input may answer are settled
  abbrev pub SettledBy : (Session → Type 0) → Input → Type 0
  SettledBy Settled (input.Client t r) = Settled t
  SettledBy Settled (input.Deliver m) = BodyReturns self d.by.at w0 d.by.state Settled m.epoch m.body
  SettledBy Settled other = Unit {0}

  pub anybody : SettledBy Anybody d.by.came
  anybody = by d.by.came
    where
      returns : (e : ℕ) (b : Body) → BodyReturns self d.by.at w0 d.by.state Anybody e b
      returns e (body.Route seq r) = λ u p now_is a among same. tt
      returns e other = tt

      by : (came : Input) → SettledBy Anybody came
      by input.Start = tt
      by (input.Deliver m) = returns m.epoch m.body
      by (input.Timer t) = tt
      by (input.Client t r) = tt

  module _ (Settled : Session → Type 0) (S : SettledBy Settled d.by.came) where
    request_known : (t : Session) (r : Request) → ((c : Command) → command_of r ≡ Some c → Asks t c) → RequestKnown self d.by.at w0 d.by.state Source Asks Settled t r
    request_known t (request.Set key value) k = let A = k (command.Set key value) refl in (from_client t (command.Set key value) A, A)
    request_known t (request.Remove key) k = let A = k (command.Remove key) refl in (from_client t (command.Remove key) A, A)
    request_known t (request.Log text) k = let A = k (command.Log text) refl in (from_client t (command.Log text) A, A)
    request_known t (request.Show v) k = tt
    request_known t (request.Since v m) k = tt

    timer_known : (t : Timer) → TimerKnown self d.by.at w0 d.by.state Source Asks Settled t
    timer_known timer.Propose = first_known
    timer_known other = tt

    body_known : (f e : ℕ) (b : Body) → BodyForwards n w.asked places (w.store i) (w.state i) f i e b → BodyHolds I.g f i e b → f < n → BodyReturns self d.by.at w0 d.by.state Settled e b → BodyKnown self d.by.at w0 d.by.state Source Asks Settled f e b
    body_known f e (body.Forward seq c) F B lt K = forward_known f e seq c F B lt
    body_known f e (body.Route seq r) F B lt K = K
    body_known f e other F B lt K = tt

    input_known : (came : Input) → Brought ms w p i came → SettledBy Settled came → InputKnown self d.by.at w0 d.by.state Source Asks Settled came
    input_known input.Start b K = tt
    input_known (input.Deliver m) b K =
        let z = said m b in
        let lt = z.0.0 in
        (lt, body_known m.from m.epoch m.body (sent_known ms w p d.by w.asked I (Forwards n w.asked places w.store w.state) T.forwards m b) z.0.1.body lt K)
    input_known (input.Timer t) b K = timer_known t
    input_known (input.Client t r) b K = (request_known t r (λ c is. newest t r c is b), K)

    pub outcome : Outcome self d.by.at w0 d.by.state Source Asks Settled d.by.came d.y
    outcome = (subst (Then (Outcome self d.by.at w0 d.by.state Source Asks Settled d.by.came)) d.is (takes self d.by.at w0 d.by.state Source Asks Settled (shared_entries (w.store i)) d.by.came (input_known d.by.came d.by.brought S))).holds
