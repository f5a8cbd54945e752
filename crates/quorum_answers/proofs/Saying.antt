-- What an event sends, how a leader's last version and a peon's lease come about, and why a command is refused.
use Rattle.law_names.proofs.Runs.{is_active}
use Rattle.law_names.proofs.Table.{AllByRecursion, Asked, Body, Change, Command, CommandRefused, Course, Input, Last, Me, Message, Op, Origin, Phase, Readings, Reply, Sent, Session, State, answers_to, are_within, asked_of, epoch_of, is_alone, is_leading, is_peon, is_too_long, learn, learn_changes, message_to, refusal, same_phase, too_long, value, with_rank}
use Rattle.mon_msg.specs.declared.input.Input.TheVariants as input
use Rattle.mon_msg.specs.declared.plan.Origin.TheVariants as origin
use Rattle.mon_msg.specs.declared.plan.Sent.TheVariants as sent
use Rattle.mon_types.specs.declared.names.Which.TheVariants as which
use Rattle.mon_wire.specs.declared.body.Body.TheVariants as body
use Rattle.mon_wire.specs.declared.phase.Phase.TheVariants as phase
use Rattle.quorum_answers.specs.Refused.{IsRefusalReply}
use Rattle.quorum_history.proofs.Holds.{epoch_in}
use Rattle.quorum_history.proofs.Phases.{no, peon_is_peon}
use Rattle.quorum_walk.proofs.FineCourses.{Fit}
use Rattle.quorum_walk.proofs.Lists.{Among, all_append, all_map, all_of}
use Rattle.quorum_walk.proofs.Sparing.{Own, Spares, learned_own}
use Rattle.quorum_walk.proofs.Walk.{Then, done, where_fits}
use Rattle.std.proofs.Common.{Bool, Err, List, None, Ok, Option, Some, [], ap, append-nil, arith, false, inl, inr, is_some, length, map, refl, subst, suc, sym, true, ℕ, ◌++◌, ◌+◌, ◌<◌, ◌∙◌, ◌∷◌, ◌≡◌, ◌≤◌, ◌⊎◌}
use Rattle.std.proofs.lemmas.List.{append_assoc}

-- ---- a leader's phases

-- a leader that isn't active yet
abbrev pub is_gathering : Phase → Bool
is_gathering phase.Collecting = true
is_gathering phase.Previous = true
is_gathering other = false

-- one whose quorum answered
abbrev pub has_answers : Phase → Bool
has_answers phase.Previous = true
has_answers phase.Active = true
has_answers phase.Updating = true
has_answers other = false

pub all_left : {A : Type 0} (P : A → Type 0) (xs ys : List A) → AllByRecursion P (xs ++ ys) → AllByRecursion P xs × AllByRecursion P ys
all_left P [] ys h = (tt, h)
all_left P (x ∷ xs) ys h = let t = all_left P xs ys h.1 in ((h.0, t.0), t.1)

-- ---- what is learned

pub record Learned (v : ℕ) (values : List (List Op)) (x y : Course) : Type 0 where
  pub state : y.state ≡ x.state
  pub out : y.out ≡ x.out
  pub extra : List Change
  pub changes : y.changes ≡ x.changes ++ extra
  pub epoch : AllByRecursion Fit extra → epoch_of y.readings ≡ epoch_of x.readings
  pub last : ((length values ≡ 0) × (y.readings.last ≡ x.readings.last)) ⊎ ((1 ≤ length values) × (suc y.readings.last ≡ v + length values))

spares : (v : ℕ) (values : List (List Op)) → AllByRecursion Fit (learn_changes v values) → AllByRecursion Spares values
spares v [] h = tt
spares v (x ∷ values) h = (h.0, spares (suc v) values h.1)

pub learns : (v : ℕ) (values : List (List Op)) (x : Course) → Then (Learned v values x) (learn v values x)
unfolding learn
learns v [] x = done (record { state = refl; out = refl; extra = []; changes = sym (append-nil x.changes); epoch = λ F. refl; last = inl (refl, refl) })
learns v (value ∷ values) x = where_fits (Learned v (value ∷ values) x) which.Version (v + length values) _ (λ _. done (record {
  state = refl;
  out = refl;
  extra = learn_changes v (value ∷ values) ++ Last (v + length values) ∷ [];
  changes = append_assoc x.changes (learn_changes v (value ∷ values)) (Last (v + length values) ∷ []);
  epoch = λ F. ap (λ (o : Own). epoch_in o) (learned_own v (value ∷ values) x.readings (spares v (value ∷ values) (all_left Fit (learn_changes v (value ∷ values)) (Last (v + length values) ∷ []) F).0));
  last = inr (omega arith, omega arith);
}))

-- no session is refused a command
abbrev pub NoRefusal : Sent → Type 0
NoRefusal (sent.Message to m) = Unit {0}
NoRefusal (sent.Reply t r) = IsRefusalReply r → ⊥

-- ---- an event, from what the store's readers returned and what was remembered before it

module _ (me : Me) (now : ℕ) (w : Readings) (s : State) (came : Input) (From : ℕ → Command → Origin → Type 0) (Routed : (f e seq : ℕ) → Reply → Type 0) (Voted : (f pn v : ℕ) → Type 0) where
  -- ---- a refusal

  -- why a reply refuses the command: it is too long, or its service refuses it over what an active leader's store has
  abbrev pub WhyOf : ℕ → Command → Reply → Type 0
  WhyOf asked c r = ((is_too_long c ≡ true) × (r ≡ too_long c)) ⊎ ((s.phase ≡ phase.Active) × (e : CommandRefused) × (value w c asked ≡ Err e) × (r ≡ refusal e))

  -- a reply in the monitor's epoch refuses a command of this origin, for such a cause
  pub record Decides (o : Origin) (f : ℕ) (r : Reply) : Type 0 where
    pub command : Command
    pub from : From (epoch_of w) command o
    pub epoch : f ≡ epoch_of w
    pub why : WhyOf (asked_of me o) command r

  -- a peon passes its leader's reply on to a session that waits at it
  pub record Hands (t : Session) (r : Reply) : Type 0 where
    pub leader : ℕ
    pub epoch : ℕ
    pub waits : Asked
    pub known : Routed leader epoch waits.seq r
    pub among : Among waits s.clients.sessions
    pub session : waits.session ≡ t
    pub peon : is_peon s.phase ≡ true
    pub now_is : epoch ≡ epoch_of w

  -- ---- what is sent

  abbrev pub FoundedBody : (to f : ℕ) → Body → Type 0
  FoundedBody to f (body.Route seq r) = IsRefusalReply r → Decides (origin.Forwarded to seq) f r
  FoundedBody to f other = Unit {0}

  -- if a reply refuses a command, it is so decided, or passed on by a peon
  abbrev pub Founded : Sent → Type 0
  Founded (sent.Message to m) = FoundedBody to m.epoch m.body
  Founded (sent.Reply t r) = IsRefusalReply r → Decides (origin.Session t) (epoch_of w) r ⊎ Hands t r

  -- A LEASE has the last version of an active leader, and a COMMIT has no version above it.
  abbrev pub SaysBody : Phase → (e v to f : ℕ) → Body → Type 0
  SaysBody p e v to f (body.Lease last) = (p ≡ phase.Active) × (last ≡ v) × (f ≡ e)
  SaysBody p e v to f (body.Commit from values) = (has_answers p ≡ true) × (from + length values ≤ suc v) × (f ≡ e)
  SaysBody p e v to f other = FoundedBody to f other

  abbrev pub SaysSent : Phase → (e v : ℕ) → Sent → Type 0
  SaysSent p e v (sent.Message to m) = SaysBody p e v to m.epoch m.body
  SaysSent p e v (sent.Reply t r) = Founded (sent.Reply t r)

  -- what is sent before a leader is active: no LEASE, no refusal to a session, and COMMITs up to its last version
  abbrev pub ShortBody : (e v to f : ℕ) → Body → Type 0
  ShortBody e v to f (body.Lease last) = ⊥
  ShortBody e v to f (body.Commit from values) = (from + length values ≤ suc v) × (f ≡ e)
  ShortBody e v to f other = FoundedBody to f other

  abbrev pub Short : (e v : ℕ) → Sent → Type 0
  Short e v (sent.Message to m) = ShortBody e v to m.epoch m.body
  Short e v (sent.Reply t r) = IsRefusalReply r → ⊥

  -- neither a LEASE nor a COMMIT, and no refusal to a session
  abbrev pub IsPlainBody : (to f : ℕ) → Body → Type 0
  IsPlainBody to f (body.Lease last) = ⊥
  IsPlainBody to f (body.Commit from values) = ⊥
  IsPlainBody to f other = FoundedBody to f other

  abbrev pub IsPlain : Sent → Type 0
  IsPlain (sent.Message to m) = IsPlainBody to m.epoch m.body
  IsPlain (sent.Reply t r) = IsRefusalReply r → ⊥

  -- neither a LEASE nor a COMMIT, and refusals only as `Founded` has them
  abbrev pub IsAnswer : Sent → Type 0
  IsAnswer (sent.Message to m) = IsPlainBody to m.epoch m.body
  IsAnswer (sent.Reply t r) = Founded (sent.Reply t r)

  abbrev pub AllPlain : List Sent → Type 0
  AllPlain sends = AllByRecursion IsPlain sends

  plain_short : (e v : ℕ) (x : Sent) → IsPlain x → Short e v x
  plain_short e v (sent.Message to m) k = by m.body k
    where
      by : (b : Body) → IsPlainBody to m.epoch b → ShortBody e v to m.epoch b
      by (body.Lease last) k = absurd k
      by (body.Commit from values) k = absurd k
      by other k = k
  plain_short e v (sent.Reply u r) k = k

  pub short_says : (p : Phase) (e v : ℕ) → has_answers p ≡ true → (x : Sent) → Short e v x → SaysSent p e v x
  short_says p e v t (sent.Message to m) k = by m.body k
    where
      by : (b : Body) → ShortBody e v to m.epoch b → SaysBody p e v to m.epoch b
      by (body.Lease last) k = absurd k
      by (body.Commit from values) k = (t, k.0, k.1)
      by other k = k
  short_says p e v t (sent.Reply u r) k = λ z. absurd (k z)

  answer_says : (p : Phase) (e v : ℕ) (x : Sent) → IsAnswer x → SaysSent p e v x
  answer_says p e v (sent.Message to m) k = by m.body k
    where
      by : (b : Body) → IsPlainBody to m.epoch b → SaysBody p e v to m.epoch b
      by (body.Lease last) k = absurd k
      by (body.Commit from values) k = absurd k
      by other k = k
  answer_says p e v (sent.Reply u r) k = k

  plain_answers : (x : Sent) → IsPlain x → IsAnswer x
  plain_answers (sent.Message to m) k = k
  plain_answers (sent.Reply u r) k = λ z. absurd (k z)

  short_calm : (e v : ℕ) (x : Sent) → Short e v x → NoRefusal x
  short_calm e v (sent.Message to m) k = tt
  short_calm e v (sent.Reply u r) k = k

  short_founded : (e v : ℕ) (x : Sent) → Short e v x → Founded x
  short_founded e v (sent.Message to m) k = by m.body k
    where
      by : (b : Body) → ShortBody e v to m.epoch b → FoundedBody to m.epoch b
      by (body.Lease last) k = absurd k
      by (body.Commit from values) k = tt
      by other k = k
  short_founded e v (sent.Reply u r) k = λ z. absurd (k z)

  pub says_founded : (p : Phase) (e v : ℕ) (x : Sent) → SaysSent p e v x → Founded x
  says_founded p e v (sent.Message to m) k = by m.body k
    where
      by : (b : Body) → SaysBody p e v to m.epoch b → FoundedBody to m.epoch b
      by (body.Lease last) k = tt
      by (body.Commit from values) k = tt
      by other k = k
  says_founded p e v (sent.Reply u r) k = k

  pub all_short : (e v : ℕ) (out : List Sent) → AllPlain out → AllByRecursion (Short e v) out
  all_short e v out k = all_map IsPlain (Short e v) (plain_short e v) out k

  pub all_calm : (e v : ℕ) (out : List Sent) → AllByRecursion (Short e v) out → AllByRecursion NoRefusal out
  all_calm e v out k = all_map (Short e v) NoRefusal (short_calm e v) out k

  pub all_founded : (e v : ℕ) (out : List Sent) → AllByRecursion (Short e v) out → AllByRecursion Founded out
  all_founded e v out k = all_map (Short e v) Founded (short_founded e v) out k

  -- ---- what it remembers

  -- if the changes fit
  abbrev pub SameEpoch : List Change → ℕ → Type 0
  SameEpoch cs e = AllByRecursion Fit cs → e ≡ epoch_of w

  -- it sent no LEASE in its epoch before, or it is the only monitor
  abbrev pub Gathers : List Change → ℕ → Type 0
  Gathers cs e = ((is_gathering s.phase ≡ true) × SameEpoch cs e) ⊎ ((epoch_of w < e) ⊎ (me.member.monitors ≤ 1))

  pub record Completes (cs : List Change) (e v : ℕ) : Type 0 where
    pub epoch : SameEpoch cs e
    pub last : v ≡ suc w.last
    pub in_phase : s.phase ≡ phase.Updating
    pub voter : ℕ
    pub voted : Voted voter s.leader.pn (suc w.last)
    pub whole : are_within me.member.monitors s.leader.quorum (with_rank s.leader.accepted voter) ≡ true

  abbrev pub Goes : List Change → (e v : ℕ) → Type 0
  Goes cs e v = ((is_active s.phase ≡ true) × SameEpoch cs e × (v ≡ w.last)) ⊎ (Gathers cs e ⊎ Completes cs e v)

  pub record Takes (v : ℕ) : Type 0 where
    pub message : Message
    pub is : came ≡ input.Deliver message
    pub says : message.body ≡ body.Lease w.last
    pub epoch : message.epoch ≡ epoch_of w
    pub last : v ≡ w.last

  pub record Learns (v : ℕ) : Type 0 where
    pub message : Message
    pub is : came ≡ input.Deliver message
    pub first : ℕ
    pub values : List (List Op)
    pub says : message.body ≡ body.Commit first values
    pub epoch : message.epoch ≡ epoch_of w
    pub had : is_some s.peon.lease ≡ true
    pub last : suc v ≤ first + length values
    pub higher : w.last ≤ v

  pub record Leased (cs : List Change) (e v : ℕ) : Type 0 where
    pub peon : is_peon s.phase ≡ true
    pub epoch : SameEpoch cs e
    pub how : ((is_some s.peon.lease ≡ true) × (v ≡ w.last)) ⊎ (Takes v ⊎ Learns v)

  abbrev pub Lead : Phase → List Change → (e v : ℕ) → Option ℕ → Type 0
  Lead phase.Collecting cs e v z = Gathers cs e
  Lead phase.Previous cs e v z = Gathers cs e
  Lead phase.Active cs e v z = Goes cs e v
  Lead phase.Updating cs e v z = Goes cs e v
  Lead phase.Peon cs e v z = is_some z ≡ true → Leased cs e v
  Lead other cs e v z = Unit {0}

  abbrev pub LeadAt : Course → Type 0
  LeadAt y = Lead y.state.phase y.changes (epoch_of y.readings) y.readings.last y.state.peon.lease

  abbrev pub GathersAt : Course → Type 0
  GathersAt x = Gathers x.changes (epoch_of x.readings)

  -- a session is refused nothing, unless the epoch stays
  abbrev pub Calm : Course → Type 0
  Calm y = AllByRecursion NoRefusal y.out ⊎ (epoch_of y.readings ≡ epoch_of w)

  pub record Good (y : Course) : Type 0 where
    pub out : AllByRecursion (SaysSent y.state.phase (epoch_of y.readings) y.readings.last) y.out
    pub calm : Calm y
    pub lead : LeadAt y

  -- a leader whose quorum is itself alone
  pub record Alone (y : Course) : Type 0 where
    pub out : AllByRecursion Founded y.out
    pub calm : Calm y
    pub leads : is_leading y.state.phase ≡ true
    pub alone : is_alone me y.state.leader.quorum ≡ true

  abbrev pub Outcome : Course → Type 0
  Outcome y = Good y ⊎ Alone y

  pub founded : (y : Course) → Outcome y → AllByRecursion Founded y.out
  founded y (inl G) = all_map _ Founded (says_founded y.state.phase (epoch_of y.readings) y.readings.last) y.out G.out
  founded y (inr A) = A.out

  pub calm : (y : Course) → Outcome y → Calm y
  calm y (inl G) = G.calm
  calm y (inr A) = A.calm

  -- ---- small steps

  pub all_says : (p : Phase) (e v : ℕ) (out : List Sent) → AllByRecursion IsAnswer out → AllByRecursion (SaysSent p e v) out
  all_says p e v out k = all_map IsAnswer (SaysSent p e v) (answer_says p e v) out k

  all_say : (y : Course) → AllByRecursion IsAnswer y.out → AllByRecursion (SaysSent y.state.phase (epoch_of y.readings) y.readings.last) y.out
  all_say y k = all_says y.state.phase (epoch_of y.readings) y.readings.last y.out k

  plain_calm : (x : Sent) → IsPlain x → NoRefusal x
  plain_calm (sent.Message to m) k = tt
  plain_calm (sent.Reply t r) k = k

  pub all_answers : (out : List Sent) → AllPlain out → AllByRecursion IsAnswer out
  all_answers out k = all_map IsPlain IsAnswer plain_answers out k

  pub all_plain_calm : (out : List Sent) → AllPlain out → AllByRecursion NoRefusal out
  all_plain_calm out k = all_map IsPlain NoRefusal plain_calm out k

  -- an answer that refuses nothing
  pub answers_plain : (e : ℕ) (o : Option Origin) (r : Reply) → (IsRefusalReply r → ⊥) → AllPlain (answers_to me e o r)
  answers_plain e None r k = tt
  answers_plain e (Some (origin.Session t)) r k = (k, tt)
  answers_plain e (Some (origin.Forwarded f seq)) r k = ((λ u. absurd (k u)), tt)

  pub quietly : (y : Course) → AllPlain y.out → LeadAt y → Outcome y
  quietly y out lead = inl (record { out = all_say y (all_answers y.out out); calm = inl (all_plain_calm y.out out); lead = lead })

  pub quiet : (y : Course) → AllPlain y.out → LeadAt y → Then Outcome (Ok y)
  quiet y out lead = done (quietly y out lead)

  pub answered : (y : Course) → AllByRecursion IsAnswer y.out → epoch_of y.readings ≡ epoch_of w → LeadAt y → Outcome y
  answered y out same lead = inl (record { out = all_say y out; calm = inr same; lead = lead })

  pub to_each : (e : ℕ) (b : Body) → ((to : ℕ) → IsPlainBody to e b) → (tos : List ℕ) → AllPlain (map (message_to me e b) tos)
  to_each e b k tos = all_of IsPlain (message_to me e b) k tos

  pub more : (out sends : List Sent) → AllPlain out → AllPlain sends → AllPlain (out ++ sends)
  more out sends a b = all_append IsPlain out sends a b

  pub same_more : (cs more : List Change) (e : ℕ) → SameEpoch cs e → SameEpoch (cs ++ more) e
  same_more cs more e k F = k (all_left Fit cs more F).0

  pub gathers_more : (cs more : List Change) (e : ℕ) → Gathers cs e → Gathers (cs ++ more) e
  gathers_more cs more e (inl k) = inl (k.0, same_more cs more e k.1)
  gathers_more cs more e (inr k) = inr k

  goes_more : (cs more : List Change) (e v : ℕ) → Goes cs e v → Goes (cs ++ more) e v
  goes_more cs more e v (inl k) = inl (k.0, same_more cs more e k.1, k.2)
  goes_more cs more e v (inr (inl k)) = inr (inl (gathers_more cs more e k))
  goes_more cs more e v (inr (inr k)) = inr (inr (record { epoch = same_more cs more e k.epoch; last = k.last; in_phase = k.in_phase; voter = k.voter; voted = k.voted; whole = k.whole }))

  -- what else is written, if it changes neither the epoch nor the last version
  pub lead_more : (p : Phase) (cs more : List Change) (e v : ℕ) (z : Option ℕ) → Lead p cs e v z → Lead p (cs ++ more) e v z
  lead_more phase.Collecting cs more e v z k = gathers_more cs more e k
  lead_more phase.Previous cs more e v z k = gathers_more cs more e k
  lead_more phase.Active cs more e v z k = goes_more cs more e v k
  lead_more phase.Updating cs more e v z k = goes_more cs more e v k
  lead_more phase.Peon cs more e v z k = λ t. let l = k t in record { peon = l.peon; epoch = same_more cs more e l.epoch; how = l.how }
  lead_more other cs more e v z k = tt

  pub peon_lead : (p : Phase) (cs : List Change) (e v : ℕ) (z : Option ℕ) → is_peon p ≡ true → (is_some z ≡ true → Leased cs e v) → Lead p cs e v z
  peon_lead p cs e v z t k = subst (λ (q : Phase). Lead q cs e v z) (sym (peon_is_peon p t)) k

  pub sync_lead : (p : Phase) (cs : List Change) (e v : ℕ) (z : Option ℕ) → same_phase p phase.Synchronizing ≡ true → Lead p cs e v z
  sync_lead phase.Synchronizing cs e v z t = tt
  sync_lead phase.Booting cs e v z t = tt
  sync_lead phase.Probing cs e v z t = tt
  sync_lead phase.Electing cs e v z t = tt
  sync_lead other cs e v z t = no t

  pub rest_lead : (p : Phase) → s.phase ≡ p → Lead p [] (epoch_of w) w.last s.peon.lease
  rest_lead phase.Collecting e = inl (ap is_gathering e, λ F. refl)
  rest_lead phase.Previous e = inl (ap is_gathering e, λ F. refl)
  rest_lead phase.Active e = inl (ap is_active e, (λ F. refl), refl)
  rest_lead phase.Updating e = inl (ap is_active e, (λ F. refl), refl)
  rest_lead phase.Peon e = λ t. record { peon = ap is_peon e; epoch = λ F. refl; how = inl (t, refl) }
  rest_lead other e = tt

  -- what is learned leaves the epoch
  pub learned_same : (v : ℕ) (values : List (List Op)) (x y : Course) → Learned v values x y → SameEpoch x.changes (epoch_of x.readings) → SameEpoch y.changes (epoch_of y.readings)
  learned_same v values x y K k F = let G = all_left Fit x.changes K.extra (subst (AllByRecursion Fit) K.changes F) in K.epoch G.1 ∙ k G.0
