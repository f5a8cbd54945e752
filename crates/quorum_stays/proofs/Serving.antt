-- What an event makes of the commands that wait at the leader.
use Rattle.law_names.proofs.Runs.{Arrival, Arrives, Envelope, Event, Monitors, Plain, Replied, World, arrival, messages_of, replies_of}
use Rattle.law_names.proofs.Table.{AllByRecursion, Change, Clients, Origin, Reply, Sent, State, Store, Waiting, answer_to, end_of, readings_of}
use Rattle.mon_msg.specs.declared.plan.Origin.TheVariants as origin
use Rattle.mon_msg.specs.declared.plan.Sent.TheVariants as sent
use Rattle.mon_wire.specs.declared.body.Body.TheVariants as body
use Rattle.mon_wire.specs.declared.phase.Timer.TheVariants as timer
use Rattle.quorum_model.proofs.Members.{member_of}
use Rattle.quorum_stays.proofs.Outcomes.{HandsOnNone, RoutesAnswer}
use Rattle.quorum_stays.proofs.Sharing.{HandsOnNoneOf, Shares, elsewhere}
use Rattle.quorum_stays.proofs.Stepping.{Did}
use Rattle.quorum_stays.proofs.Taking.{taken_by, taken_elsewhere, taken_from, taken_nowhere}
use Rattle.quorum_stays.specs.Serving.{CarriesAnswer, IsAnswer, IsForward, IsServed, Writes}
use Rattle.quorum_stays.specs.Steady.{Begun, Reign, Round, Steady, in_reign}
use Rattle.quorum_timed.specs.Timed.{Pace, Timed}
use Rattle.std.proofs.Common.{Bool, List, None, Option, Some, [], ap, inl, inr, length, ltb, refl, slice_index_or, subst, sym, true, ℕ, ◌++◌, ◌+◌, ◌<◌, ◌∙◌, ◌∷◌, ◌≡◌, ◌≤◌, ◌⊎◌}
use Rattle.std.proofs.lemmas.Bool.{cases_eq}
use Rattle.std.proofs.lemmas.List.Elements.{filter_map-append}
use Rattle.std.proofs.lemmas.List.{append_assoc}

-- ---- answers

-- one of these messages is the answer to a command that monitor f handed on under this number
pub record IsRouted (ms : Monitors) (reign : Reign) (f seq : ℕ) (es : List Envelope) : Type 0 where
  pub earlier : List Envelope
  pub later : List Envelope
  pub reply : Reply
  pub is : es ≡ earlier ++ in_reign ms reign reign.leader f (body.Route seq reply) ∷ later
  pub answers : IsAnswer reply

-- whoever asked is answered: a session at once, and a peon by what is sent
abbrev pub Answers : Monitors → Reign → (before after : World) → List Envelope → Origin → Type 0
Answers ms reign before after es (origin.Session session) = IsServed before after reign.leader session
Answers ms reign before after es (origin.Forwarded f seq) = IsRouted ms reign f seq es

-- an answer among what is sent
pub answered : (ms : Monitors) (reign : Reign) (before after : World) (here : ltb reign.leader ms.count ≡ true) (event : ℕ) (m : Store) (o : Origin) (r : Reply) → IsAnswer r → (xs ys : List Sent)
    → after.replied ≡ before.replied ++ replies_of event reign.leader m (xs ++ answer_to (member_of ms reign.leader here) reign.epoch o r ∷ ys)
    → Answers ms reign before after (messages_of (xs ++ answer_to (member_of ms reign.leader here) reign.epoch o r ∷ ys)) o
answered ms reign before after here event m (origin.Session session) r k xs ys is = record {
  earlier = replies_of event reign.leader m xs;
  answer = _;
  later = replies_of event reign.leader m ys;
  replied = is
      ∙ ap (λ (z : List Replied). before.replied ++ z) (filter_map-append _ xs (sent.Reply session r ∷ ys))
      ∙ sym (append_assoc before.replied (replies_of event reign.leader m xs) _);
  rank_is = refl;
  session_is = refl;
  answers = k;
}
answered ms reign before after here event m (origin.Forwarded f seq) r k xs ys is = record {
  earlier = messages_of xs;
  later = messages_of ys;
  reply = r;
  is = filter_map-append _ xs (answer_to (member_of ms reign.leader here) reign.epoch (origin.Forwarded f seq) r ∷ ys);
  answers = k;
}

-- ---- the leader's commands

module _ (ms : Monitors) (pace : Pace) (reign : Reign) where
  -- the same value is in progress, and the timer of commands that wait ends as before if it counts
  pub record Rests (r later : Round) (was is : State) : Type 0 where
    pub next : later.next ≡ r.next
    pub latest : later.latest ≡ r.latest
    pub origin : is.leader.origin ≡ was.leader.origin
    pub ends : later.next ≡ None → (is.clients.queue ≡ [] → ⊥) → end_of timer.Propose is.timers ≡ end_of timer.Propose was.timers

  -- if commands wait, their timer ends now
  abbrev pub Armed : (u : ℕ) → State → Type 0
  Armed u is = (is.clients.queue ≡ [] → ⊥) → end_of timer.Propose is.timers ≡ Some (u + pace.clock reign.leader)

  -- What an event at time u makes of them. `taken` says who asks a command that the leader takes.
  pub data Turn (u : ℕ) (before after : World) (r later : Round) (taken : Option Origin) (was is : State) (es : List Envelope) : Type 0 where
    Kept : taken ≡ None → is.clients.queue ≡ was.clients.queue → Rests r later was is → Turn u before after r later taken was is es
    Answered : (o : Origin) → taken ≡ Some o → Answers ms reign before after es o → is.clients.queue ≡ was.clients.queue → Rests r later was is → Turn u before after r later taken was is es
    Queued : (one : Waiting) → taken ≡ Some one.origin → is.clients.queue ≡ was.clients.queue ++ one ∷ [] → length was.clients.queue < 64 → (r.next ≡ None → was.clients.queue ≡ [] → ⊥)
        → Rests r later was is → Turn u before after r later taken was is es
    -- the first one that waited is refused
    Refused : (one : Waiting) → taken ≡ None → was.clients.queue ≡ one ∷ is.clients.queue → Answers ms reign before after es one.origin → r.next ≡ None → later.next ≡ None → later.latest ≡ r.latest → Armed u is
        → Turn u before after r later taken was is es
    Renewed : taken ≡ None → is.clients.queue ≡ was.clients.queue → r.next ≡ None → later.next ≡ None → later.latest ≡ u → r.latest + 3000 ≤ u → Armed u is → Turn u before after r later taken was is es
    -- a value is begun, of a command that was asked now or of the first one that waited
    Began : (from : Origin) (b : Begun) → r.next ≡ None → later.next ≡ Some b → b.at ≡ u → is.leader.origin ≡ Some from
        → ((taken ≡ Some from) × (was.clients.queue ≡ []) × (is.clients.queue ≡ [])) ⊎ ((one : Waiting) × (taken ≡ None) × (was.clients.queue ≡ one ∷ is.clients.queue) × (one.origin ≡ from))
        → Turn u before after r later taken was is es
    Committed : (b : Begun) → taken ≡ None → is.clients.queue ≡ was.clients.queue → r.next ≡ Some b → later.next ≡ None → later.latest ≡ u
        → ((o : Origin) → was.leader.origin ≡ Some o → Answers ms reign before after es o) → Armed u is → Turn u before after r later taken was is es

  -- the leader notes a peon's number if it takes the command of that number
  abbrev pub Marking : (f : ℕ) → Option Origin → (was is : State) → Type 0
  Marking f taken was is = (slice_index_or is.clients.taken f 0 ≡ slice_index_or was.clients.taken f 0)
      ⊎ ((seq : ℕ) × (taken ≡ Some (origin.Forwarded f seq)) × (slice_index_or is.clients.taken f 0 ≤ seq))

  pub record Served (e : Event) (u : ℕ) (before after : World) (r later : Round) : Type 0 where
    pub here : ltb reign.leader ms.count ≡ true
    pub was : State
    pub is : State
    pub up : before.state reign.leader ≡ Some was
    pub up_after : after.state reign.leader ≡ Some is
    pub es : List Envelope
    pub messages : after.messages ≡ before.messages ++ es
    pub plain : AllByRecursion (λ m. IsForward m.message.body → ⊥) es ⊎ Writes e
    pub version : r.next ≡ None → later.version ≡ r.version
    pub marks : (f : ℕ) → Marking f (taken_by (member_of ms reign.leader here) before reign.leader was e) was is
    pub routes : AllByRecursion (λ m. CarriesAnswer m.message.body) es
    pub peons : (f : ℕ) → (f ≡ reign.leader → ⊥) → Shares ms reign before after e es f
    pub turn : Turn u before after r later (taken_by (member_of ms reign.leader here) before reign.leader was e) was is es

-- a quorum stays led in an event, in which the leader served its commands
abbrev pub Goes : Monitors → List Bool → Pace → Reign → World → (u : ℕ) → Event → (r later : Round) → Timed → Type 0
Goes ms q pace reign w u e r later next = Steady ms q pace reign later next × Served ms pace reign e u w next.world r later

module _ (ms : Monitors) (pace : Pace) (reign : Reign) (here : ltb reign.leader ms.count ≡ true) (r : Round) (u : ℕ) (before after : World) (p : Plain) (a : Arrival) (comes : arrival before p ≡ Some a)
    (s : State) (up : before.state reign.leader ≡ Some s) where
  -- an event at another monitor
  pub aside : (i : ℕ) → a.rank ≡ i → (i ≡ reign.leader → ⊥) → (x : State) (cs : List Change) (es : List Envelope) → Did before after i x cs es → AllByRecursion (λ m. IsForward m.message.body → ⊥) es ⊎ Writes (Arrives p)
      → ((f : ℕ) → (f ≡ i → ⊥) → HandsOnNoneOf f es) → AllByRecursion (λ m. CarriesAnswer m.message.body) es → Shares ms reign before after (Arrives p) es i → Served ms pace reign (Arrives p) u before after r r
  aside i rank other x cs es D plain none routes mine = record {
    here = here;
    was = s;
    is = s;
    up = up;
    up_after = D.others reign.leader (λ e. other (sym e)) ∙ up;
    marks = λ f. inl refl;
    routes = routes;
    peons = λ f nf. peon f (cases_eq f i);
    es = es;
    messages = D.messages;
    plain = plain;
    version = λ _. refl;
    turn = Kept (taken_elsewhere (member_of ms reign.leader here) before reign.leader s (arrival before p) a comes (λ e. other (sym rank ∙ e))) refl (record { next = refl; latest = refl; origin = refl; ends = λ _ _. refl });
  }
    where
      peon : (f : ℕ) → (f ≡ i) ⊎ (f ≡ i → ⊥) → Shares ms reign before after (Arrives p) es f
      peon f (inl e) = subst (Shares ms reign before after (Arrives p) es) (sym e) mine
      peon f (inr ne) = elsewhere ms reign before after p a comes i rank x cs es D f ne (none f ne)

  -- an event at the leader, which takes no command, and leaves its commands as they were
  pub undisturbed : a.rank ≡ reign.leader → taken_from (member_of ms reign.leader here) (readings_of (before.store reign.leader)) s a.input ≡ None → (x : State) → Did before after reign.leader x [] []
      → x.clients ≡ s.clients → x.leader.origin ≡ s.leader.origin → (r.next ≡ None → end_of timer.Propose x.timers ≡ end_of timer.Propose s.timers) → Served ms pace reign (Arrives p) u before after r r
  undisturbed rank none x D clients same ends = record {
    here = here;
    was = s;
    is = x;
    up = up;
    up_after = D.up;
    marks = λ f. inl (ap (λ (z : Clients). slice_index_or z.taken f 0) clients);
    routes = tt;
    peons = λ f nf. elsewhere ms reign before after p a comes reign.leader rank x [] [] D f nf tt;
    es = [];
    messages = D.messages;
    plain = inl tt;
    version = λ _. refl;
    turn = Kept (taken_nowhere (member_of ms reign.leader here) before reign.leader s (arrival before p) a comes none) (ap (λ (z : Clients). z.queue) clients) (record { next = refl; latest = refl; origin = same; ends = λ e _. ends e });
  }

-- what is sent hands on no command
pub messages_hand_on_none : (out : List Sent) → AllByRecursion HandsOnNone out → AllByRecursion (λ (m : Envelope). IsForward m.message.body → ⊥) (messages_of out)
messages_hand_on_none [] all = tt
messages_hand_on_none (sent.Message to m ∷ out) all = (all.0, messages_hand_on_none out all.1)
messages_hand_on_none (sent.Reply to r ∷ out) all = messages_hand_on_none out all.1

-- what is sent to peons about their commands are answers
pub messages_carry : (out : List Sent) → AllByRecursion RoutesAnswer out → AllByRecursion (λ (m : Envelope). CarriesAnswer m.message.body) (messages_of out)
messages_carry [] all = tt
messages_carry (sent.Message to m ∷ out) all = (all.0, messages_carry out all.1)
messages_carry (sent.Reply to r ∷ out) all = messages_carry out all.1
