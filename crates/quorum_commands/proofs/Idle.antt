-- What a monitor does in an event in which it takes no command and hands none on: those that wait there wait on, or are forgotten.
use Rattle.law_names.proofs.Table.{Asked, Body, Boot, Change, Clients, Command, Course, Entry, Epoch, Input, Last, Me, Numbers, Op, Origin, Phase, Promise, Readings, Reply, Sent, Session, State, Timer, Unmark, answers_to, at_rest, begin_with, change, epoch_of, full_sync, is_even, is_leading, is_peon, members, message_to, no_clients, of_leader, pending, play, react, same_phase, value, votes}
use Rattle.mon_msg.specs.declared.input.Input.TheVariants as input
use Rattle.mon_msg.specs.declared.plan.Origin.TheVariants as origin
use Rattle.mon_msg.specs.declared.plan.Sent.TheVariants as sent
use Rattle.mon_msg.specs.declared.synchronization.SyncStage.TheVariants as sync
use Rattle.mon_wire.specs.declared.body.Body.TheVariants as body
use Rattle.mon_wire.specs.declared.phase.Phase.TheVariants as phase
use Rattle.mon_wire.specs.declared.reply.Reply.TheVariants as reply
use Rattle.quorum_commands.proofs.Sends.{AllFair, HandsNone, IsFair}
use Rattle.quorum_commands.specs.Unmade.{AcknowledgesNone}
use Rattle.quorum_history.proofs.Phases.{no}
use Rattle.quorum_history.proofs.Rows.{body_brings, brings}
use Rattle.std.proofs.Common.{List, None, Option, Some, [], ap, arith, eqb, false, filter, inl, inr, ltb, map, not, refl, subst, suc, sym, true, ℕ, ◌++◌, ◌<◌, ◌∙◌, ◌∷◌, ◌≡◌, ◌⊎◌}
use Rattle.std.proofs.lemmas.Bool.{cond_both, eqb-false, eqb-true, not-true}
use Rattle.table_walk.proofs.Acts.{acts_of}
use Rattle.table_walk.proofs.Lists.{Among, all_append, all_map, all_of}
use Rattle.table_walk.proofs.Steps.{ActSteps, FoundOf, HeardFrom, HeardLast, InHand, IsOwn, MayAnswer, MayCopy, MayLead, MayLearn, MayRaise, MaySay, MaySend, MayTell, MayWrite, Nothing, Steps, ValueOf, accepted_by_all, alone, brought, chosen, copied_chunk, copied_last_chunk, from_chunk, from_commit, from_last, from_last_chunk, leads_still, only_member, stood, unserved}
use Rattle.table_walk.proofs.Table.{walked}
use Rattle.table_walk.proofs.Walk.{Then, and_three}

-- those that wait, and those that were taken of peons, are the same
abbrev pub SameClients : Clients → Clients → Type 0
SameClients a b = (a.queue ≡ b.queue) × (a.taken ≡ b.taken)

-- ---- an event, from what the store's readers returned and what was remembered before it

-- Settled says that a session may be given any reply.
module _ (me : Me) (now : ℕ) (w : Readings) (s : State) (Settled : Session → Type 0) where
  -- it is alone in its map, with no value pending and nothing to replay
  pub record Alone : Type 0 where
    pub one : me.member.monitors ≡ 1
    pub none : pending w ≡ None
    pub replays : (next end : ℕ) → same_phase s.phase phase.Synchronizing ≡ true → s.requester.stage ≡ sync.Replay next end → ⊥

  -- It led before, and remembers its clients; or it was elected in this event, or it is alone.
  abbrev pub Leads : Clients → Type 0
  Leads c = ((is_leading s.phase ≡ true) × SameClients c s.clients) ⊎ (((votes s.phase ≡ true) × (is_even (epoch_of w) ≡ false)) ⊎ ((same_phase s.phase phase.Electing ≡ true) ⊎ (ltb 1 me.member.monitors ≡ false)))

  pub record Idle (y : Course) : Type 0 where
    pub out : AllFair Settled y.out
    pub clients : SameClients y.state.clients s.clients ⊎ (y.state.clients ≡ no_clients)
    pub leads : is_leading y.state.phase ≡ true → Leads y.state.clients
    pub last : Alone → y.readings.last ≡ w.last

  abbrev x0 : Course
  x0 = at_rest w s

  pub says : (sends : List Sent) → AllFair Settled sends → Idle (record x0 { out = sends })
  says sends O = record { out = O; clients = inl (refl, refl); leads = λ t. inl (t, (refl, refl)); last = λ a. refl }

  -- what comes back to a session that waits under this number settles it
  abbrev pub Returns : (e seq : ℕ) → Reply → Type 0
  Returns e seq r = AcknowledgesNone r → is_peon s.phase ≡ true → e ≡ epoch_of w → (a : Asked) → Among a s.clients.sessions → a.seq ≡ seq → Settled a.session

  -- what is known of what comes back
  abbrev pub BodyReturns : (e : ℕ) → Body → Type 0
  BodyReturns e (body.Route seq r) = Returns e seq r
  BodyReturns e other = Unit {0}

  -- what is known of a message that comes
  abbrev pub Heard : Input → Type 0
  Heard (input.Deliver m) = (m.from < me.member.monitors) × BodyReturns m.epoch m.body
  Heard other = Unit {0}

  -- ---- each step

  -- nothing more is pending than before, and no version is new
  record IdleAt (sent : List Sent) (c : Clients) (p : Phase) (r : Readings) : Type 0 where
    out : AllFair Settled sent
    clients : SameClients c s.clients ⊎ (c ≡ no_clients)
    leads : is_leading p ≡ true → Leads c
    last : Alone → (pending r ≡ None) × (r.last ≡ w.last)

  abbrev IdleIn : Course → Type 0
  IdleIn x = IdleAt x.out x.state.clients x.state.phase x.readings

  -- other numbers are read
  reads : {o : List Sent} {c : Clients} {p : Phase} {r : Readings} (q : Readings) → (Alone → (pending q ≡ None) × (q.last ≡ w.last)) → IdleAt o c p r → IdleAt o c p q
  reads q last A = record { out = A.out; clients = A.clients; leads = A.leads; last = last }

  sends : {o : List Sent} {c : Clients} {p : Phase} {r : Readings} (more : List Sent) → AllFair Settled more → IdleAt o c p r → IdleAt (o ++ more) c p r
  sends {o} more k A = record { out = all_append (IsFair Settled) o more A.out k; clients = A.clients; leads = A.leads; last = A.last }

  idle : (x : Course) → IdleIn x → Idle x
  idle x A = record { out = A.out; clients = A.clients; leads = A.leads; last = λ a. (A.last a).1 }

  module _ (shared : List Entry) (came : Input) (none : brings came ≡ false) (heard : Heard came) where
    -- no command and no read is in hand, and a value only at one of several monitors
    abbrev HandIdle : InHand → Type 0
    HandIdle Nothing = Unit {0}
    HandIdle (FoundOf found) = Alone → found ≡ None
    HandIdle (ValueOf value o) = Alone → ⊥
    HandIdle other = ⊥

    abbrev Goes : InHand → Course → Type 0
    Goes h x = IdleIn x × HandIdle h

    brings_none : (c : Input) → brings c ≡ false → HandIdle (brought c)
    brings_none input.Start k = tt
    brings_none (input.Deliver m) k = tt
    brings_none (input.Timer t) k = tt
    brings_none (input.Client u r) k = no (sym k)

    -- who hears another isn't alone
    several : {f e : ℕ} {m : Body} → HeardFrom me came f e m → Alone → ⊥
    several C a =
        let lt = (subst Heard C.is heard).0 in
        let apart = eqb-false C.message.from me.member.rank (not-true _ (and_three (not (eqb C.message.from me.member.rank)) _ _ C.heard).0) in
        let one = a.one in
        apart (let own = me.member.in_map in omega arith)

    forwards_none : {f e seq : ℕ} {c : Command} → HeardFrom me came f e (body.Forward seq c) → ⊥
    forwards_none C = no (sym none ∙ ap brings C.is ∙ ap body_brings C.says)

    learns_none : {h : InHand} {x : Course} (values : List (List Op)) → MayLearn me came x h values → HandIdle h → Alone → ⊥
    learns_none values (from_last n C) k = several C
    learns_none values (from_commit n C) k = several C
    learns_none values (from_chunk C) k = several C
    learns_none values (from_last_chunk C) k = several C
    learns_none values (accepted_by_all e C) k = several C.said
    learns_none values alone k = k

    copies_none : (values : List (List Op)) (entries : List Entry) → MayCopy me came values entries → Alone → ⊥
    copies_none values entries (copied_chunk C) = several C
    copies_none values entries (copied_last_chunk C) = several C

    raises_idle : (x : Course) (c : Change) → MayRaise me came c → IdleIn x → IdleIn (change c x)
    raises_idle x (Epoch e) k A = reads (play (Epoch e) x.readings) A.last A
    raises_idle x (Numbers pn) k A = reads (play (Numbers pn) x.readings) A.last A
    raises_idle x other k A = absurd k

    writes_idle : (x : Course) (c : Change) → MayWrite me s came x c → IdleIn x → IdleIn (change c x)
    writes_idle x (Promise pn) k A = reads (play (Promise pn) x.readings) A.last A
    writes_idle x Unmark k A = reads (play Unmark x.readings) A.last A
    writes_idle x (Last v) k A = reads (play (Last v) x.readings) (λ a. absurd (a.replays k.1.0 v k.0 k.1.1)) A
    writes_idle x other k A = absurd k

    says_fair : (x : Course) (m : Body) → MaySay me shared x m → HandsNone m
    says_fair x (body.Forward seq c) k = absurd k
    says_fair x (body.Route seq r) k = absurd k
    says_fair x other k = tt

    sends_fair : (x : Course) (m : Sent) → MaySend me shared x m → (IsFair Settled) m
    sends_fair x (sent.Message to m) k = says_fair x m.body k.2
    sends_fair x (sent.Reply t r) k = absurd k

    told_fair : (h : InHand) (x : Course) (m : Body) → MayTell me h x m → HandsNone m
    told_fair h x (body.Forward seq c) k = absurd k
    told_fair h x (body.Route seq r) k = absurd k
    told_fair h x other k = tt

    tells_fair : (h : InHand) (x : Course) (m : Sent) → IsOwn me x (MayTell me h x) m → (IsFair Settled) m
    tells_fair h x (sent.Message to m) k = told_fair h x m.body k.2
    tells_fair h x (sent.Reply t r) k = absurd k

    -- nothing that is in hand is answered
    asked_none : (x : Course) {h : InHand} {r : Reply} → MayAnswer me now w s x h r → HandIdle h → ⊥
    asked_none x (unserved t) k = k
    asked_none x other k = k

    acknowledged_fair : (e : ℕ) (o : Option Origin) (v : ℕ) → AllFair Settled (answers_to me e o (reply.Done v))
    acknowledged_fair e None v = tt
    acknowledged_fair e (Some (origin.Session u)) v = ((λ z. absurd z), tt)
    acknowledged_fair e (Some (origin.Forwarded f seq)) v = ((λ z. z), tt)

    leads_so : (x : Course) → MayLead me w s x → IdleIn x → Leads x.state.clients
    leads_so x (leads_still t) A = A.leads t
    leads_so x (chosen v odd) A = inr (inl (v, odd))
    leads_so x (stood t) A = inr (inr (inl t))
    leads_so x (only_member t) A = inr (inr (inr t))

    found_none : (x : Course) → HeardLast me came ⊎ (x.state.leader.found ≡ pending x.readings) → IdleIn x → Alone → x.state.leader.found ≡ None
    found_none x (inl H) A a = absurd (several H.said a)
    found_none x (inr e) A a = e ∙ (A.last a).0

    -- a reply that a leader routes goes to those that wait under its number
    routes_fair : (f e seq : ℕ) (r : Reply) → HeardFrom me came f e (body.Route seq r) → of_leader f e x0 ≡ true → AllFair Settled (map (λ (a : Asked). sent.Reply a.session r) (filter (λ (a : Asked). eqb a.seq seq) s.clients.sessions))
    routes_fair f e seq r C t =
        let k = and_three (is_peon s.phase) (eqb e (epoch_of w)) (eqb f s.peon.leader) t in
        let known : BodyReturns C.message.epoch C.message.body = (subst Heard C.is heard).1 in
        each k.0 (eqb-true e (epoch_of w) k.1) (subst (λ (n : ℕ). Returns n seq r) C.epoch (subst (BodyReturns C.message.epoch) C.says known)) s.clients.sessions (λ a z. z)
      where
        each : is_peon s.phase ≡ true → e ≡ epoch_of w → Returns e seq r → (xs : List Asked) → ((a : Asked) → Among a xs → Among a s.clients.sessions) → AllFair Settled (map (λ (a : Asked). sent.Reply a.session r) (filter (λ (a : Asked). eqb a.seq seq) xs))
        each p n K [] k = tt
        each p n K (a ∷ xs) k =
            cond_both (eqb a.seq seq) (a ∷ filter (λ (b : Asked). eqb b.seq seq) xs) (filter (λ (b : Asked). eqb b.seq seq) xs) (λ (ys : List Asked). AllFair Settled (map (λ (b : Asked). sent.Reply b.session r) ys))
            (λ q. ((λ u. K u p n a (k a (inl refl)) (eqb-true a.seq seq q)), each p n K xs (λ b o. k b (inr o))))
            (λ q. each p n K xs (λ b o. k b (inr o)))

    rest : IdleIn x0
    rest = record { out = tt; clients = inl (refl, refl); leads = λ t. inl (t, (refl, refl)); last = λ a. (a.none, refl) }

    idling : Steps me now shared w s came Goes Idle
    unfolding full_sync
    idling = record {
      before = λ k. (rest, brings_none came none);
      after = λ {x = x} A. idle x A.0;
      marks = λ f C why A. record { out = (tt, tt); clients = inl (refl, refl); leads = λ t. no t; last = λ a. absurd (several C a) };
      answers_probe = λ f e A. says _ (tt, tt);
      votes = λ {x = x} f e pn v value C t A. record { out = all_append (IsFair Settled) x.out (message_to me (epoch_of x.readings) (body.Accept pn v) f ∷ []) A.0.out (tt, tt); clients = A.0.clients; leads = A.0.leads; last = λ a. absurd (several C a) };
      writes = λ {x = x} c k A. (writes_idle x c k A.0, A.1);
      replays = λ left v end values t z e A. (reads _ (λ a. absurd (a.replays v end t z)) A.0, tt);
      copies = λ v values entries t k A. (reads _ (λ a. absurd (copies_none values entries k a)) A.0, A.1);
      sends = λ {x = x} more k A. (sends more (all_map (MaySend me shared x) (IsFair Settled) (sends_fair x) more k) A.0, A.1);
      timers = λ ts A. A;
      elector = λ e A. A;
      prober = λ p A. A;
      peon = λ p k A. A;
      provider = λ p A. A;
      requester = λ q k A. A;
      leader = λ l A. A;
      finds = λ l k A. A;
      takes_queued = λ q qs e is due A. no (sym none ∙ ap brings is);
      takes_forwarded = λ f e seq c C new A. absurd (forwards_none C);
      makes_value = λ c o ops short e active A. absurd A.1;
      queues = λ c o short A. absurd A.1;
      forwards = λ c u peon short fits A. absurd A.1;
      routes = λ f e seq r C t A. record { out = routes_fair f e seq r C t; clients = inl (refl, refl); leads = λ z. inl (z, (refl, refl)); last = λ a. refl };
      answers = λ {x = x} h r k A. absurd (asked_none x k A.1);
    }

    idling_within : ActSteps me now shared w s came Goes Idle
    unfolding begin_with
    idling_within = record {
      boots = λ is boots short. (reads (play (Boot (suc w.boot)) w) rest.last rest, tt);
      raises = λ {x = x} c k A. (raises_idle x c k A.0, A.1);
      learns = λ {x = x} v value values k short A. (reads _ (λ a. absurd (learns_none (value ∷ values) k A.1 a)) A.0, A.1);
      proposes = λ {x = x} z value o short leads A. record {
        out = all_append (IsFair Settled) x.out _ A.0.out (all_of (IsFair Settled) (message_to me (epoch_of x.readings) (body.Begin x.state.leader.pn (suc x.readings.last) value)) (λ to. tt) (members me x.state.leader.quorum));
        clients = A.0.clients;
        leads = λ t. A.0.leads leads;
        last = λ a. (A.0.last a).1;
      };
      tells = λ {h = h} {x = x} more k A. (sends more (all_map (IsOwn me x (MayTell me h x)) (IsFair Settled) (tells_fair h x) more k) A.0, A.1);
      leads = λ l A. A;
      enters = λ {x = x} p k A. (record { out = A.0.out; clients = A.0.clients; leads = λ t. leads_so x (k t) A.0; last = A.0.last }, A.1);
      collects = λ q pn short A. A;
      forgets = λ k A. (record { out = A.0.out; clients = inr refl; leads = λ t. no (sym k ∙ t); last = A.0.last }, A.1);
      takes_found = λ {x = x} how A. (A.0, found_none x how A.0);
      takes_value = λ value C e A. (A.0, several C);
      proposes_found = λ found A. (A.0, λ a. let bad = A.1 a in absurd cc);
      drops_found = λ found A. (A.0, tt);
      acknowledges = λ {x = x} v value o A. idle _ (sends (answers_to me (epoch_of x.readings) o (reply.Done v)) (acknowledged_fair (epoch_of x.readings) o v) A.0);
    }

    pub idles : Then Idle (react me shared now w s came)
    idles = walked idling (acts_of idling idling_within)
