-- What a monitor replies in an event, and what a leader has under way after it. Nothing is acknowledged unless a leader
-- commits a value, and nothing is shown but what the store holds.
use Rattle.law_names.proofs.Table.{AllByRecursion, Asked, Body, Change, Command, CommandRefused, Course, Entry, Found, Input, Last, Leader, Learn, MOST_WAITING, Me, Op, Origin, Phase, Promise, Readings, Reply, Request, Sent, Service, Session, State, Unmark, Waiting, adopt, all_accepted, allows, answer_any, answer_to, answers_to, are_within, asked_of, at_rest, be_active, begin, begin_alone, begin_found, begin_with, bootstrap, change, collect, collect_with, commit, commits_to, commits_with, disarm, elect, epoch_of, extend, flat_map, full_sync, has, in_next_epoch, in_odd_epoch, is_alone, is_even, is_leading, is_member, is_one_of, is_peon, is_standing, leader_is, leads_in, learn, lease_of, members, message_to, missed, news, news_from, next_even, next_number, of_leader, of_member, only, or_zero, others, own_table, promise_of, react, readable, recent_sync, refusal, reign, reply_to, same_phase, send_each, settle, shown, since, start, too_long, value, win, with_rank, ◌▸◌}
use Rattle.mon_bytes.specs.declared.command.Command.TheVariants as command
use Rattle.mon_bytes.specs.declared.command.CommandRefused.TheVariants as why
use Rattle.mon_lease.specs.Lease as lease
use Rattle.mon_msg.specs.declared.input.Input.TheVariants as input
use Rattle.mon_msg.specs.declared.paxos.LeaderStage.TheVariants as stage
use Rattle.mon_msg.specs.declared.plan.Origin.TheVariants as origin
use Rattle.mon_msg.specs.declared.plan.Sent.TheVariants as sent
use Rattle.mon_types.specs.declared.names.Which.TheVariants as which
use Rattle.mon_wire.specs.declared.body.Body.TheVariants as body
use Rattle.mon_wire.specs.declared.phase.Phase.TheVariants as phase
use Rattle.mon_wire.specs.declared.phase.Timer.TheVariants as timer
use Rattle.mon_wire.specs.declared.reply.Reply.TheVariants as reply
use Rattle.mon_wire.specs.declared.request.Request.TheVariants as request
use Rattle.quorum_agreement.proofs.Accepting.{begun, begun_is, then_map}
use Rattle.quorum_agreement.proofs.Lone.{active_is}
use Rattle.quorum_history.proofs.Phases.{no, peon_is_peon}
use Rattle.quorum_walk.proofs.Learning.{LearnedOne, Same, learns, learns_one}
use Rattle.quorum_walk.proofs.Lists.{all_append, all_flat_map, all_map, all_of}
use Rattle.quorum_walk.proofs.Walk.{Then, and_then, and_three, by_test, done, where_fits}
use Rattle.std.proofs.Common.{Bool, List, None, Ok, Option, Some, [], ap, eqb, false, filter, inl, inr, ltb, map, max, not, refl, slice_index_or, subst, suc, sym, true, ℕ, ◌&&◌, ◌++◌, ◌||◌, ◌∙◌, ◌∷◌, ◌≡◌, ◌⊎◌}
use Rattle.std.proofs.lemmas.Bool.{and_parts, cond_both, eqb-true, not-false, or_parts}
use Rattle.table_walk.proofs.Acts.{Acts, accepted_by}
use Rattle.table_walk.proofs.Steps.{CommandOf, FoundOf, HeardFrom, InHand, MayAnswer, MayCommit, MaySay, MaySend, MayWrite, Nothing, ReadOf, Steps, ValueOf, brought, busy_queue, busy_sessions, leading, not_readable, origin_of, refused, shows_map, shows_since, too_much, unread, unserved}
use Rattle.table_walk.proofs.Table.{walked}

-- ---- what is plain

-- a reply that acknowledges nothing and shows nothing
abbrev pub IsPlainReply : Reply → Type 0
IsPlainReply (reply.Done v) = ⊥
IsPlainReply (reply.Shown s paxos version map) = ⊥
IsPlainReply (reply.Since s from told more) = ⊥
IsPlainReply other = Unit {0}

abbrev pub IsPlainBody : Body → Type 0
IsPlainBody (body.Route seq r) = IsPlainReply r
IsPlainBody other = Unit {0}

abbrev pub IsPlain : Sent → Type 0
IsPlain (sent.Message to m) = IsPlainBody m.body
IsPlain (sent.Reply s r) = IsPlainReply r

abbrev pub AllPlain : List Sent → Type 0
AllPlain sends = AllByRecursion IsPlain sends

refusal_plain : (e : CommandRefused) → IsPlainReply (refusal e)
refusal_plain why.NoSuch = tt
refusal_plain (why.TooLong len most) = tt
refusal_plain (why.MapFull would_be) = tt
refusal_plain why.OutOfMemory = tt

pub peon_leads_not : (p : Phase) → is_peon p ≡ true → is_leading p ≡ false
peon_leads_not p e = ap is_leading (peon_is_peon p e)

sync_leads_not : (p : Phase) → same_phase p phase.Synchronizing ≡ true → is_leading p ≡ false
sync_leads_not phase.Collecting t = no t
sync_leads_not phase.Previous t = no t
sync_leads_not phase.Active t = no t
sync_leads_not phase.Updating t = no t
sync_leads_not other t = refl

-- ---- an event, from what the store's readers returned and what was remembered before it

module _ (me : Me) (now : ℕ) (w : Readings) (s : State) (From : ℕ → Command → Origin → Type 0) (Routed : (f e seq : ℕ) → Reply → Type 0) (Voted : (f pn v : ℕ) → Type 0) (Looked : Session → Request → Type 0) where
  -- the leader began to propose the value of a command, and From holds of that command
  pub record Begun (l : Leader) (e : ℕ) : Type 0 where
    pub epoch : e ≡ epoch_of w
    pub origin : Origin
    pub command : Command
    pub ops : List Op
    pub from : From (epoch_of w) command origin
    pub is : l.origin ≡ Some origin
    pub proposes : l.value ≡ Some ops
    pub made : value w command (asked_of me origin) ≡ Ok ops

  -- the leader goes on with the value that it proposed before
  pub record Keeps (l : Leader) (e : ℕ) : Type 0 where
    pub epoch : e ≡ epoch_of w
    pub updating : s.phase ≡ phase.Updating
    pub origin : l.origin ≡ s.leader.origin
    pub proposes : l.value ≡ s.leader.value
    pub number : l.pn ≡ s.leader.pn

  -- a leader that isn't active yet gave no lease, and nobody waits for the value that it proposes again
  abbrev pub Lead : Phase → Leader → ℕ → Type 0
  Lead phase.Collecting l e = l.lease ≡ None
  Lead phase.Previous l e = (l.lease ≡ None) × (l.origin ≡ None)
  Lead phase.Updating l e = Keeps l e ⊎ Begun l e
  Lead other l e = Unit {0}

  pub record Calm (y : Course) : Type 0 where
    pub out : AllPlain y.out
    pub lead : Lead y.state.phase y.state.leader (epoch_of y.readings)

  -- with this answer all of the leader's quorum accepted the value that it proposed for a command
  pub record Completes (o : Origin) (ops : List Op) : Type 0 where
    pub proposed : s.leader.value ≡ Some ops
    pub waits : s.leader.origin ≡ Some o
    pub in_phase : (s.phase ≡ phase.Previous) ⊎ (s.phase ≡ phase.Updating)
    pub voter : ℕ
    pub voted : Voted voter s.leader.pn (suc w.last)
    pub whole : are_within me.member.monitors s.leader.quorum (with_rank s.leader.accepted voter) ≡ true

  -- the leader is alone in its quorum, and commits a command's value at once
  pub record AtOnce (o : Origin) (ops : List Op) : Type 0 where
    pub command : Command
    pub from : From (epoch_of w) command o
    pub made : value w command (asked_of me o) ≡ Ok ops
    pub active : s.phase ≡ phase.Active
    pub alone : is_alone me s.leader.quorum ≡ true

  pub record Acks (y : Course) : Type 0 where
    pub origin : Origin
    pub ops : List Op
    pub changes : y.changes ≡ Learn (suc w.last) ops ∷ Last (suc w.last) ∷ []
    pub plain : List Sent
    pub all : AllPlain plain
    pub out : y.out ≡ plain ++ answer_to me (epoch_of y.readings) origin (reply.Done (suc w.last)) ∷ []
    pub last : y.readings.last ≡ suc w.last
    pub active : y.state.phase ≡ phase.Active
    pub number : y.state.leader.pn ≡ s.leader.pn
    pub quorum : y.state.leader.quorum ≡ s.leader.quorum
    pub how : Completes origin ops ⊎ AtOnce origin ops

  -- what a session is shown of a service that it looks at
  abbrev pub IsRead : Session → Reply → Type 0
  IsRead t r = ((v : Service) × Looked t (request.Show v) × (r ≡ shown w v)) ⊎ ((v : Service) × (k : ℕ) × Looked t (request.Since v k) × (r ≡ since w v k))

  pub record Reads (y : Course) : Type 0 where
    pub session : Session
    pub reply : Reply
    pub out : y.out ≡ sent.Reply session reply ∷ []
    pub is : y ≡ reply_to session reply (at_rest w s)
    pub member : is_member s.phase ≡ true
    pub readable : readable w.last me.member.monitors (lease_of s) now ≡ true
    pub read : IsRead session reply

  -- a leader's answer goes to the sessions that wait for it
  pub record Hands (y : Course) : Type 0 where
    pub from : ℕ
    pub epoch : ℕ
    pub seq : ℕ
    pub reply : Reply
    pub known : Routed from epoch seq reply
    pub out : y.out ≡ map (λ (a : Asked). sent.Reply a.session reply) (filter (λ (a : Asked). eqb a.seq seq) s.clients.sessions)
    pub readings : y.readings ≡ w
    pub changes : y.changes ≡ []
    pub in_phase : y.state.phase ≡ s.phase
    pub same : y.state.leader ≡ s.leader
    pub peon : is_peon s.phase ≡ true
    pub now_is : epoch ≡ epoch_of w
    pub leader : from ≡ s.peon.leader

  abbrev pub Outcome : Course → Type 0
  Outcome y = Calm y ⊎ (Acks y ⊎ (Reads y ⊎ Hands y))

  -- ---- small steps

  quiet : (y : Course) → AllPlain y.out → Lead y.state.phase y.state.leader (epoch_of y.readings) → Then Outcome (Ok y)
  quiet y out lead = done (inl (record { out = out; lead = lead }))

  to_each : (e : ℕ) (b : Body) → IsPlainBody b → (tos : List ℕ) → AllPlain (map (message_to me e b) tos)
  to_each e b k tos = all_of IsPlain (message_to me e b) (λ to. k) tos

  more : (out sends : List Sent) → AllPlain out → AllPlain sends → AllPlain (out ++ sends)
  more out sends a b = all_append IsPlain out sends a b

  lead_same : (p : Phase) (l k : Leader) (e : ℕ) → k.lease ≡ l.lease → k.origin ≡ l.origin → k.value ≡ l.value → k.pn ≡ l.pn → Lead p l e → Lead p k e
  lead_same phase.Collecting l k z a b c d h = a ∙ h
  lead_same phase.Previous l k z a b c d h = (a ∙ h.0, b ∙ h.1)
  lead_same phase.Updating l k z a b c d h = by h
    where
      by : Keeps l z ⊎ Begun l z → Keeps k z ⊎ Begun k z
      by (inl K) = inl (record { epoch = K.epoch; updating = K.updating; origin = b ∙ K.origin; proposes = c ∙ K.proposes; number = d ∙ K.number })
      by (inr B) = inr (record { epoch = B.epoch; origin = B.origin; command = B.command; ops = B.ops; from = B.from; is = b ∙ B.is; proposes = c ∙ B.proposes; made = B.made })
  lead_same phase.Booting l k z a b c d h = tt
  lead_same phase.Probing l k z a b c d h = tt
  lead_same phase.Synchronizing l k z a b c d h = tt
  lead_same phase.Electing l k z a b c d h = tt
  lead_same phase.Active l k z a b c d h = tt
  lead_same phase.Peon l k z a b c d h = tt

  -- nothing is asked of the leader's part in a phase in which the monitor doesn't lead
  leads_not : (p : Phase) (l : Leader) (e : ℕ) → is_leading p ≡ false → Lead p l e
  leads_not phase.Collecting l e t = no (sym t)
  leads_not phase.Previous l e t = no (sym t)
  leads_not phase.Updating l e t = no (sym t)
  leads_not other l e t = tt

  peon_lead : (p : Phase) (l : Leader) (e : ℕ) → is_peon p ≡ true → Lead p l e
  peon_lead p l e t = leads_not p l e (peon_leads_not p t)

  -- ---- leading

  active : (x : Course) → AllPlain x.out → Then Outcome (Ok (be_active me now x))
  unfolding be_active extend
  active x O = quiet _ (more x.out _ O (to_each (epoch_of x.readings) (body.Lease x.readings.last) tt (members me x.state.leader.quorum))) tt

  begins_found : (found : Option Found) (x : Course) → x.state.leader.lease ≡ None → AllPlain x.out → Then Outcome (begin_found me now found x)
  unfolding begin begin_alone begin_with
  begins_found None x lease O = active x O
  begins_found (Some f) x lease O = by_test (eqb f.version (suc x.readings.last)) (λ _. where_fits Outcome which.Version (suc x.readings.last) _ (λ _.
      by_test (is_alone me x.state.leader.quorum) (λ _. and_then (LearnedOne (suc x.readings.last) f.value x) Outcome (learn (suc x.readings.last) (f.value ∷ []) x) _ (learns_one (suc x.readings.last) f.value x)
      (λ y L. quiet _ (more y.out [] (subst AllPlain (sym L.out) O) tt) tt))
      (λ _. quiet _ (more x.out _ O (to_each (epoch_of x.readings) (body.Begin x.state.leader.pn (suc x.readings.last) f.value) tt (members me x.state.leader.quorum))) (lease, refl)))) (λ _. active x O)

  commits_plain : (r : Readings) (lasts : List ℕ) (ks : List ℕ) → AllPlain (flat_map (commits_to me r lasts) ks)
  commits_plain r lasts ks = all_flat_map IsPlain (commits_to me r lasts) (λ to. let told = slice_index_or lasts to 0 in let values = missed me.member.monitors r.record_of r.last told in
      cond_both (ltb told r.last) (commits_with me (epoch_of r) told values to) [] AllPlain (λ _. by told values to) (λ _. tt)) ks
    where
      by : (told : ℕ) (values : List (List Op)) (to : ℕ) → AllPlain (commits_with me (epoch_of r) told values to)
      by told [] to = tt
      by told (value ∷ values) to = (tt, tt)

  settles : (x : Course) → x.state.leader.lease ≡ None → AllPlain x.out → Then Outcome (settle me now x)
  unfolding settle
  settles x lease O = begins_found x.state.leader.found _ lease (more x.out _ O (commits_plain x.readings x.state.leader.lasts (members me x.state.leader.quorum)))

  collects : (q : List Bool) (above : ℕ) (x : Course) → AllPlain x.out → Then Outcome (collect me now q above x)
  unfolding collect collect_with
  collects q above x O =
      let pn = next_number (or_zero x.readings.last_pn) (max (promise_of x.readings) above) me.member.rank in
      let sent = more x.out (map (message_to me (epoch_of x.readings) (body.Collect pn x.readings.first x.readings.last)) (members me q)) O (to_each (epoch_of x.readings) (body.Collect pn x.readings.first x.readings.last) tt (members me q)) in
      where_fits Outcome which.Pn pn _ (λ _. by_test (is_alone me q) {x = settle me now (collect_with me now q pn x)} {y = Ok (collect_with me now q pn x)} (λ _. settles (collect_with me now q pn x) refl sent) (λ _. quiet (collect_with me now q pn x) sent refl))

  reigns : (q : List Bool) (x : Course) → AllPlain x.out → Then Outcome (reign me now q x)
  unfolding reign
  reigns q x O = collects q 0 _ (more x.out _ O (to_each (epoch_of x.readings) (body.Victory q) tt (members me q)))

  -- ---- beginning again, and elections

  bootstraps : (x : Course) → AllPlain x.out → Then Outcome (bootstrap me now x)
  unfolding bootstrap
  bootstraps x O =
      by_test (ltb 1 me.member.monitors) (λ _. quiet _ (more x.out _ O (to_each (epoch_of x.readings) body.Probe tt (others me))) tt)
      (λ _. by_test (allows me.rule me.member.rank && not x.readings.marked) (λ _. where_fits Outcome which.Epoch (next_even (epoch_of x.readings)) _ (λ _. reigns (only me.member.rank) _ O)) (λ _. quiet _ O tt))

  next_epoch : (x : Course) → AllPlain x.out → Then (λ y. AllPlain y.out) (in_next_epoch x)
  next_epoch x O = where_fits (λ y. AllPlain y.out) which.Epoch (suc (epoch_of x.readings)) _ (λ _. done O)

  elects : (x : Course) → AllPlain x.out → Then Outcome (elect me now x)
  unfolding elect in_odd_epoch
  elects x O = and_then (λ y. AllPlain y.out) Outcome (in_odd_epoch x) _ (by_test (is_even (epoch_of x.readings)) (λ _. next_epoch x O) (λ _. done O))
      (λ y P. quiet _ (more y.out _ P (to_each (epoch_of y.readings) (body.Propose (own_table me y)) tt (others me))) tt)

  wins : (q : List Bool) (x : Course) → AllPlain x.out → Then Outcome (win me now q x)
  unfolding win
  wins q x O = and_then (λ y. AllPlain y.out) Outcome (in_next_epoch x) _ (next_epoch x O) (λ y P. reigns q y P)

  module _ (L : Lead s.phase s.leader (epoch_of w)) where
    abbrev x0 : Course
    x0 = at_rest w s

    abbrev counted : ℕ → Course
    counted f = accepted_by f x0

    -- what goes out with a commit, but for the answer
    abbrev committing : List Op → Course → List Sent
    committing value y =
        (y.out ++ map (message_to me (epoch_of y.readings) (body.Commit (suc w.last) (value ∷ []))) (members me y.state.leader.quorum)) ++ map (message_to me (epoch_of y.readings) (body.Lease y.readings.last)) (members me y.state.leader.quorum)

    committing_plain : (value : List Op) (y : Course) → y.out ≡ [] → AllPlain (committing value y)
    committing_plain value y e =
        more _ _ (more y.out _ (subst AllPlain (sym e) tt) (to_each (epoch_of y.readings) (body.Commit (suc w.last) (value ∷ [])) tt (members me y.state.leader.quorum))) (to_each (epoch_of y.readings) (body.Lease y.readings.last) tt (members me y.state.leader.quorum))

    -- the answer that makes it whole
    record MakesWhole (f : ℕ) : Type 0 where
      in_phase : (s.phase ≡ phase.Previous) ⊎ (s.phase ≡ phase.Updating)
      voted : Voted f s.leader.pn (suc w.last)
      whole : are_within me.member.monitors s.leader.quorum (with_rank s.leader.accepted f) ≡ true

    commits : (f : ℕ) (value : List Op) → s.leader.value ≡ Some value → MakesWhole f → Then Outcome (commit me now value (counted f))
    unfolding commit be_active extend
    commits f value is T = and_then (LearnedOne (suc w.last) value (counted f)) Outcome (learn (suc w.last) (value ∷ []) (counted f)) _ (learns_one (suc w.last) value (counted f)) (λ y K. by y K y.state.leader.origin refl)
      where
        by : (y : Course) → LearnedOne (suc w.last) value (counted f) y → (o : Option Origin) → y.state.leader.origin ≡ o
            → Then Outcome (Ok (y ▸ disarm timer.Accept ▸ leader_is (record y.state.leader { value = None; origin = None }) ▸ send_each me (members me y.state.leader.quorum) (body.Commit (suc w.last) (value ∷ [])) ▸ be_active me now ▸ answer_any me y.state.leader.origin (reply.Done (suc w.last))))
        by y K None e = quiet _ (more (committing value y) _ (committing_plain value y K.out) (subst (λ (o : Option Origin). AllPlain (answers_to me (epoch_of y.readings) o (reply.Done (suc w.last)))) (sym e) tt)) tt
        by y K (Some o) e = done (inr (inl (record {
          origin = o;
          ops = value;
          changes = K.changes;
          plain = committing value y;
          all = committing_plain value y K.out;
          out = ap (λ (z : Option Origin). committing value y ++ answers_to me (epoch_of y.readings) z (reply.Done (suc w.last))) e;
          last = K.last;
          active = refl;
          number = ap (λ (z : State). z.leader.pn) K.state;
          quorum = ap (λ (z : State). z.leader.quorum) K.state;
          how = inl (record { proposed = is; waits = sym (ap (λ (z : State). z.leader.origin) K.state) ∙ e; in_phase = T.in_phase; voter = f; voted = T.voted; whole = T.whole });
        })))

    -- what is known of what comes
    abbrev pub BodyKnown : (f e : ℕ) → Body → Type 0
    BodyKnown f e (body.Forward seq c) = From e c (origin.Forwarded f seq)
    BodyKnown f e (body.Route seq r) = Routed f e seq r
    BodyKnown f e (body.Accept pn v) = Voted f pn v
    BodyKnown f e other = Unit {0}

    abbrev pub RequestKnown : Session → Request → Type 0
    RequestKnown t (request.Set key value) = From (epoch_of w) (command.Set key value) (origin.Session t)
    RequestKnown t (request.Remove key) = From (epoch_of w) (command.Remove key) (origin.Session t)
    RequestKnown t (request.Log text) = From (epoch_of w) (command.Log text) (origin.Session t)
    RequestKnown t (request.Show v) = Looked t (request.Show v)
    RequestKnown t (request.Since v k) = Looked t (request.Since v k)

    abbrev pub InputKnown : Input → Type 0
    InputKnown (input.Deliver m) = BodyKnown m.from m.epoch m.body
    InputKnown (input.Client t r) = RequestKnown t r
    InputKnown other = Unit {0}

    module _ (Q : same_phase s.phase phase.Active ≡ true → AllByRecursion (λ (q : Waiting). From (epoch_of w) q.command q.origin) s.clients.queue) (shared : List Entry) (came : Input) (input_known : InputKnown came) where
      -- what is known of what is in hand: a command or its value has a source, and nothing has changed since
      abbrev Untouched : Readings → List Change → Phase → Leader → Type 0
      Untouched r cs p l = (r ≡ w) × (cs ≡ []) × (p ≡ s.phase) × (l ≡ s.leader)

      abbrev HandKnown : InHand → Readings → List Change → Phase → Leader → Type 0
      HandKnown (ReadOf t q) r cs p l = Looked t q
      HandKnown (CommandOf c o) r cs p l = From (epoch_of w) c o × Untouched r cs p l
      HandKnown (ValueOf ops (Some o)) r cs p l = ((c : Command) × From (epoch_of w) c o × (value w c (asked_of me o) ≡ Ok ops)) × Untouched r cs p l
      HandKnown other r cs p l = Unit {0}

      -- nothing is acknowledged and nothing is shown so far
      abbrev Plain : InHand → Course → Type 0
      Plain h x = AllPlain x.out × Lead x.state.phase x.state.leader (epoch_of x.readings) × HandKnown h x.readings x.changes x.state.phase x.state.leader

      asked_known : (c : Input) → InputKnown c → HandKnown (brought c) w [] s.phase s.leader
      asked_known (input.Client t (request.Set key value)) k = (k, (refl, refl, refl, refl))
      asked_known (input.Client t (request.Remove key)) k = (k, (refl, refl, refl, refl))
      asked_known (input.Client t (request.Log text)) k = (k, (refl, refl, refl, refl))
      asked_known (input.Client t (request.Show v)) k = k
      asked_known (input.Client t (request.Since v n)) k = k
      asked_known other k = tt

      heard_known : {f e : ℕ} {m : Body} → HeardFrom me came f e m → BodyKnown f e m
      heard_known {f} {e} {m} C = subst (λ (n : ℕ). BodyKnown n e m) C.from (subst (λ (n : ℕ). BodyKnown C.message.from n m) C.epoch (subst (BodyKnown C.message.from C.message.epoch) C.says (subst InputKnown C.is input_known)))

      calm : (y : Course) → AllPlain y.out → Lead y.state.phase y.state.leader (epoch_of y.readings) → Outcome y
      calm y out lead = inl (record { out = out; lead = lead })

      -- ---- reasons

      say_plain : (x : Course) (m : Body) → MaySay me shared x m → IsPlainBody m
      say_plain x (body.Route seq r) k = absurd k
      say_plain x other k = tt

      sent_plain : (x : Course) (m : Sent) → MaySend me shared x m → IsPlain m
      sent_plain x (sent.Message to m) k = say_plain x m.body k.2
      sent_plain x (sent.Reply t r) k = absurd k

      written : (x : Course) (c : Change) → MayWrite me s came x c → Plain Nothing x → Plain Nothing (change c x)
      written x (Promise pn) k A = (A.0, A.1, tt)
      written x Unmark k A = (A.0, A.1, tt)
      written x (Last v) k A = (A.0, A.1, tt)
      written x other k A = absurd k

      -- the monitor synchronizes
      copies : (x : Course) (y : Course) → same_phase x.state.phase phase.Synchronizing ≡ true → y.state.phase ≡ x.state.phase → Lead y.state.phase y.state.leader (epoch_of y.readings)
      copies x y t same = leads_not y.state.phase y.state.leader _ (ap is_leading same ∙ sync_leads_not x.state.phase t)

      learned_last : (from : ℕ) (values : List (List Op)) → s.phase ≡ phase.Collecting → Then (Plain Nothing) (learn (news_from w.last from) (news w.last from values) x0)
      learned_last from values p = then_map (Same x0) (Plain Nothing) (learn (news_from w.last from) (news w.last from values) x0) (λ y k. (
        subst AllPlain (sym k.out) tt,
        subst (λ (z : State). Lead z.phase z.leader (epoch_of y.readings)) (sym k.state) (subst (λ (q : Phase). Lead q s.leader (epoch_of y.readings)) (sym p) (subst (λ (q : Phase). Lead q s.leader (epoch_of w)) p L)),
        tt,
      )) (learns (news_from w.last from) (news w.last from values) x0)

      learned_commit : (f e from : ℕ) (values : List (List Op)) → (not (of_leader f e x0) || ltb (suc w.last) from) ≡ false → Then (Plain Nothing) (learn (suc w.last) (news w.last from values) x0)
      learned_commit f e from values t = then_map (Same x0) (Plain Nothing) (learn (suc w.last) (news w.last from values) x0) (λ y k. (
        subst AllPlain (sym k.out) tt,
        peon_lead y.state.phase y.state.leader _ (ap (λ (z : State). is_peon z.phase) k.state ∙ (and_three (is_peon s.phase) (eqb e (epoch_of w)) (eqb f s.peon.leader) (not-false _ (or_parts (not (of_leader f e x0)) (ltb (suc w.last) from) t).0)).0),
        tt,
      )) (learns (suc w.last) (news w.last from values) x0)

      learned_chunk : (x : Course) (v : ℕ) (values : List (List Op)) → same_phase x.state.phase phase.Synchronizing ≡ true → Plain Nothing x → Then (Plain Nothing) (learn v values x)
      learned_chunk x v values t A = then_map (Same x) (Plain Nothing) (learn v values x) (λ y k. (subst AllPlain (sym k.out) A.0, copies x y t (ap (λ (z : State). z.phase) k.state), tt)) (learns v values x)

      makes_whole : (x : Course) (k : MayCommit me came x) → x ≡ counted k.sender → MakesWhole k.sender
      makes_whole x k first =
          let t = subst (λ (y : Course). (of_member begun k.sender k.epoch y && eqb k.pn y.state.leader.pn && eqb k.v (suc y.readings.last)) ≡ true) first k.tested in
          let u = subst (λ (y : Course). all_accepted me y ≡ true) first k.all in
          let b = and_three (of_member begun k.sender k.epoch (counted k.sender)) (eqb k.pn s.leader.pn) (eqb k.v (suc w.last)) t in
          let c = and_three (is_one_of begun s.phase) (eqb k.epoch (epoch_of w)) (has s.leader.quorum k.sender) b.0 in
          record { in_phase = begun_is s.phase c.0; voted = subst (λ (p : ℕ). Voted k.sender p (suc w.last)) (eqb-true k.pn s.leader.pn b.1) (subst (Voted k.sender k.pn) (eqb-true k.v (suc w.last) b.2) (heard_known k.said)); whole = u }

      -- ---- a value is begun

      module _ (x : Course) (ops : List Op) (o : Origin) (lead : same_phase x.state.phase phase.Active ≡ true) (A : Plain (ValueOf ops (Some o)) x) where
        abbrev K : Untouched x.readings x.changes x.state.phase x.state.leader
        K = A.2.1

        last_is : x.readings.last ≡ w.last
        last_is = ap (λ (r : Readings). r.last) K.0

        at_once : is_alone me x.state.leader.quorum ≡ true → (y : Course) → LearnedOne (suc x.readings.last) ops x y → Outcome (y ▸ leads_in stage.Active ▸ answer_any me (Some o) (reply.Done (suc x.readings.last)))
        at_once t y N = inr (inl (record {
          origin = o;
          ops = ops;
          changes = N.changes ∙ ap (λ (cs : List Change). (cs ++ Learn (suc x.readings.last) ops ∷ []) ++ Last (suc x.readings.last) ∷ []) K.1 ∙ ap (λ (n : ℕ). Learn (suc n) ops ∷ Last (suc n) ∷ []) last_is;
          plain = x.out;
          all = A.0;
          out = ap (λ (out : List Sent). out ++ answer_to me (epoch_of y.readings) o (reply.Done (suc x.readings.last)) ∷ []) N.out ∙ ap (λ (n : ℕ). x.out ++ answer_to me (epoch_of y.readings) o (reply.Done (suc n)) ∷ []) last_is;
          last = N.last ∙ ap (λ (n : ℕ). suc n) last_is;
          active = refl;
          number = ap (λ (q : State). q.leader.pn) N.state ∙ ap (λ (l : Leader). l.pn) K.3;
          quorum = ap (λ (q : State). q.leader.quorum) N.state ∙ ap (λ (l : Leader). l.quorum) K.3;
          how = inr (record { command = A.2.0.0; from = A.2.0.1; made = A.2.0.2; active = sym K.2 ∙ active_is x.state.phase lead; alone = ap (λ (l : Leader). is_alone me l.quorum) (sym K.3) ∙ t });
        }))

        begins : Then Outcome (begin me now stage.Updating ops (Some o) x)
        unfolding begin begin_alone begin_with
        begins = where_fits Outcome which.Version (suc x.readings.last) _ (λ _. by_test (is_alone me x.state.leader.quorum)
            (λ t. and_then (LearnedOne (suc x.readings.last) ops x) Outcome (learn (suc x.readings.last) (ops ∷ []) x) _ (learns_one (suc x.readings.last) ops x) (λ y N. done (at_once t y N)))
            (λ _. quiet _ (more x.out _ A.0 (to_each (epoch_of x.readings) (body.Begin x.state.leader.pn (suc x.readings.last) ops) tt (members me x.state.leader.quorum)))
            (inr (record { epoch = ap epoch_of K.0; origin = o; command = A.2.0.0; ops = ops; from = A.2.0.1; is = refl; proposes = refl; made = A.2.0.2 }))))

      -- ---- answers

      plain_answers : (e : ℕ) (o : Option Origin) (r : Reply) → IsPlainReply r → AllPlain (answers_to me e o r)
      plain_answers e None r k = tt
      plain_answers e (Some (origin.Session t)) r k = (k, tt)
      plain_answers e (Some (origin.Forwarded f seq)) r k = (k, tt)

      replied : (x : Course) (h : InHand) (r : Reply) → IsPlainReply r → Plain h x → Outcome (answer_any me (origin_of h) r x)
      replied x h r k A = calm _ (more x.out _ A.0 (plain_answers (epoch_of x.readings) (origin_of h) r k)) A.1

      shows : (x : Course) (t : Session) (reading : Readings → Reply) → x ≡ x0 → is_member s.phase ≡ true → readable w.last me.member.monitors (lease_of s) now ≡ true → IsRead t (reading w) → Outcome (answer_any me (Some (origin.Session t)) (reading x.readings) x)
      shows x t reading first member may k = subst (λ (y : Course). Outcome (answer_any me (Some (origin.Session t)) (reading y.readings) y)) (sym first) (inr (inr (inl (record { session = t; reply = reading w; out = refl; is = refl; member = member; readable = may; read = k }))))

      answers_so : (x : Course) (h : InHand) (r : Reply) → MayAnswer me now w s x h r → Plain h x → Outcome (answer_any me (origin_of h) r x)
      answers_so x Nothing r k A = elim k [ ]
      answers_so x (FoundOf found) r k A = elim k [ ]
      answers_so x (ValueOf ops o) r k A = elim k [ ]
      answers_so x (CommandOf c o) r (unserved t) A = replied x (CommandOf c o) reply.Unavailable tt A
      answers_so x (ReadOf t q) r (unread k) A = replied x (ReadOf t q) reply.Unavailable tt A
      answers_so x (CommandOf c o) r (too_much t) A = replied x (CommandOf c o) (too_long c) tt A
      answers_so x (CommandOf c o) r (busy_queue t k) A = replied x (CommandOf c o) (reply.Busy MOST_WAITING) tt A
      answers_so x (CommandOf c o) r (busy_sessions t k) A = replied x (CommandOf c o) (reply.Busy MOST_WAITING) tt A
      answers_so x (CommandOf c o) r (refused e leads short q) A = replied x (CommandOf c o) (refusal e) (refusal_plain e) A
      answers_so x (ReadOf t q) r (not_readable k u) A = replied x (ReadOf t q) (reply.NotReadable x.readings.last (is_standing me now x.state)) tt A
      answers_so x (ReadOf t q) r (shows_map v first member k) A = shows x t (λ z. shown z v) first member k (inl (v, A.2, refl))
      answers_so x (ReadOf t q) r (shows_since v n first member k) A = shows x t (λ z. since z v n) first member k (inr (v, n, A.2, refl))

      -- ---- steps and acts

      plain : Steps me now shared w s came Plain Outcome
      unfolding full_sync
      plain = record {
        before = λ k. (tt, L, asked_known came input_known);
        after = λ {x = x} A. calm x A.0 A.1;
        marks = λ f C why A. calm _ (tt, tt) tt;
        answers_probe = λ f e A. calm _ (tt, tt) L;
        votes = λ {x = x} f e pn v value C t A. calm _ (more x.out (message_to me (epoch_of x.readings) (body.Accept pn v) f ∷ []) A.0 (tt, tt)) A.1;
        writes = λ {x = x} c k A. written x c k A;
        replays = λ left v end values t z e A. (A.0, leads_not s.phase s.leader _ (sync_leads_not s.phase t), tt);
        copies = λ {x = x} v values entries t k A. (A.0, leads_not x.state.phase x.state.leader _ (sync_leads_not x.state.phase t), tt);
        sends = λ {x = x} sends k A. (more x.out sends A.0 (all_map (MaySend me shared x) IsPlain (sent_plain x) sends k), A.1, tt);
        timers = λ ts A. A;
        elector = λ e A. A;
        prober = λ p A. A;
        peon = λ p k A. A;
        provider = λ p A. A;
        requester = λ q k A. A;
        leader = λ {x = x} l A. (A.0, lead_same x.state.phase x.state.leader (record l { pn = x.state.leader.pn; lease = x.state.leader.lease; found = x.state.leader.found; value = x.state.leader.value; origin = x.state.leader.origin }) (epoch_of x.readings) refl refl refl refl A.1, tt);
        finds = λ {x = x} l k A. (A.0, lead_same x.state.phase x.state.leader (record l { pn = x.state.leader.pn; lease = x.state.leader.lease; value = x.state.leader.value; origin = x.state.leader.origin }) (epoch_of x.readings) refl refl refl refl A.1, tt);
        takes_queued = λ q qs e is due A. (A.0, A.1, ((subst (AllByRecursion (λ (z : Waiting). From (epoch_of w) z.command z.origin)) e (Q (and_parts (same_phase s.phase phase.Active) _ due).0)).0, (refl, refl, refl, refl)));
        takes_forwarded = λ f e seq c C t A. (A.0, A.1, (subst (λ (n : ℕ). From n c (origin.Forwarded f seq)) (eqb-true e (epoch_of w) (and_three (is_one_of leading s.phase) (eqb e (epoch_of w)) (has s.leader.quorum f) (and_parts (of_member leading f e x0) _ t).0).1) (heard_known C), (refl, refl, refl, refl)));
        makes_value = λ {x = x} c o ops short e lead A. (A.0, A.1, ((c, A.2.0, ap (λ (r : Readings). value r c (asked_of me o)) (sym A.2.1.0) ∙ e), A.2.1));
        queues = λ c o short A. calm _ A.0 A.1;
        forwards = λ {x = x} c u peon short fits A. calm _ (more x.out (message_to me (epoch_of x.readings) (body.Forward x.state.clients.next_seq c) x.state.peon.leader ∷ []) A.0 (tt, tt)) A.1;
        routes = λ f e seq r C heard A. let t = and_three (is_peon s.phase) (eqb e (epoch_of w)) (eqb f s.peon.leader) heard in inr (inr (inr (record {
          from = f;
          epoch = e;
          seq = seq;
          reply = r;
          known = heard_known C;
          out = refl;
          readings = refl;
          changes = refl;
          in_phase = refl;
          same = refl;
          peon = t.0;
          now_is = eqb-true e (epoch_of w) t.1;
          leader = eqb-true f s.peon.leader t.2;
        })));
        answers = λ {x = x} h r k A. answers_so x h r k A;
      }

      lease_none : (x : Course) → x.state.phase ≡ phase.Collecting → Lead x.state.phase x.state.leader (epoch_of x.readings) → x.state.leader.lease ≡ None
      lease_none x e l = subst (λ (p : Phase). Lead p x.state.leader (epoch_of x.readings)) e l

      acts : Acts me now shared w s came Plain Outcome
      unfolding start adopt recent_sync extend
      acts = record {
        learns_last = λ {f} {e} {pn} {first} {last} {from} {whole} {values} {told} C p A. learned_last from values p;
        learns_commit = λ {f} {e} {from} {values} C t A. learned_commit f e from values t;
        learns_chunk = λ {x = x} v values t k A. learned_chunk x v values t A;
        renews = λ {x = x} ts t A. calm _ (more x.out _ A.0 (to_each (epoch_of x.readings) (body.Lease x.readings.last) tt (members me x.state.leader.quorum)))
            (subst (λ (p : Phase). Lead p (record x.state.leader { lease = lease.extended now; acks = only me.member.rank }) (epoch_of x.readings)) (sym (active_is x.state.phase t)) tt);
        commits = λ {x = x} value e k first A. subst (λ (y : Course). Then Outcome (commit me now value y)) (sym first) (commits k.sender value (ap (λ (y : Course). y.state.leader.value) (sym first) ∙ e) (makes_whole x k first));
        begins = λ {x = x} value o t A. begins x value o t A;
        settles = λ {x = x} k A. settles x (lease_none x k.collecting A.1) A.0;
        collects = λ {x = x} q above heard p A. collects q above x A.0;
        starts = λ is booting. where_fits Outcome which.Boot (suc w.boot) _ (λ _. bootstraps _ tt);
        bootstraps = λ {x = x} A. bootstraps x A.0;
        elects = λ {x = x} A. elects x A.0;
        calls = λ f e q C A. elects _ A.0;
        wins = λ {x = x} q k same A. wins q x A.0;
        adopts = λ e k A. (A.0, tt, tt);
        follows = λ f e q C A. (A.0, tt, tt);
        recent_syncs = λ {x = x} f A. (more x.out (message_to me (epoch_of x.readings) (body.GetCookieRecent x.readings.last) f ∷ []) A.0 (tt, tt), tt, tt);
      }

    pub answers : (Q : same_phase s.phase phase.Active ≡ true → AllByRecursion (λ (q : Waiting). From (epoch_of w) q.command q.origin) s.clients.queue) (shared : List Entry) (came : Input) → InputKnown came → Then Outcome (react me shared now w s came)
    answers Q shared came k = walked (plain Q shared came k) (acts Q shared came k)
