-- What an event makes of a monitor, as `Saying` has it.
use Rattle.law_names.proofs.Table.{AllByRecursion, Asked, Body, Change, Command, Course, Entry, Input, Last, MOST_WAITING, Me, Op, Origin, Phase, Promise, Readings, Reply, Sent, State, Unmark, Vote, Waiting, adopt, all_accepted, answer_any, answer_to, are_within, asked_of, at_rest, be_active, begin, begin_with, change, commit, disarm, epoch_of, extend, full_sync, has, is_alone, is_one_of, is_peon, is_standing, leader_is, learn, members, message_to, news, news_from, of_leader, of_member, pending, promise_of, react, recent_sync, refusal, same_phase, send_each, shown, since, start, too_long, value, with_rank, ◌▸◌}
use Rattle.mon_bytes.specs.declared.command.Command.TheVariants as command
use Rattle.mon_msg.specs.Protocol.Course.{timers_are}
use Rattle.mon_msg.specs.declared.input.Input.TheVariants as input
use Rattle.mon_msg.specs.declared.paxos.LeaderStage.TheVariants as stage
use Rattle.mon_msg.specs.declared.plan.Origin.TheVariants as origin
use Rattle.mon_msg.specs.declared.plan.Sent.TheVariants as sent
use Rattle.mon_types.specs.declared.names.Which.TheVariants as which
use Rattle.mon_wire.specs.declared.body.Body.TheVariants as body
use Rattle.mon_wire.specs.declared.phase.Phase.TheVariants as phase
use Rattle.mon_wire.specs.declared.phase.Timer.TheVariants as timer
use Rattle.mon_wire.specs.declared.reply.Reply.TheVariants as reply
use Rattle.mon_wire.specs.declared.request.Request.TheVariants as request
use Rattle.quorum_agreement.proofs.Accepting.{begun, begun_is, then_map}
use Rattle.quorum_agreement.proofs.Lone.{active_is}
use Rattle.quorum_answers.proofs.Leading as leaders
use Rattle.quorum_answers.proofs.Replies.{shows_no_refusal, since_shows}
use Rattle.quorum_answers.proofs.Saying as saying
use Rattle.quorum_answers.proofs.Saying.{Learned, NoRefusal, is_gathering, learns}
use Rattle.quorum_answers.specs.Refused.{IsRefusalReply}
use Rattle.quorum_history.proofs.Phases.{no}
use Rattle.quorum_walk.proofs.Lists.{Among, all_append, all_map, all_of}
use Rattle.quorum_walk.proofs.Walk.{Then, and_then, and_three, by_test, done, or_three, where_fits}
use Rattle.std.proofs.Common.{List, None, Option, Some, T, [], ap, arith, eqb, false, filter, inl, inr, is_some, length, length-drop, ltb, map, not, refl, subst, suc, sym, true, ℕ, ◌&&◌, ◌++◌, ◌+◌, ◌-◌, ◌||◌, ◌∙◌, ◌∷◌, ◌≡◌, ◌≤◌, ◌⊎◌}
use Rattle.std.proofs.lemmas.Bool.{and_parts, cond_both, eqb-true, ltb-false, not-false, or_parts}
use Rattle.table_walk.proofs.Acts.{Acts, accepted_by}
use Rattle.table_walk.proofs.Steps.{CommandOf, FoundOf, HeardFrom, InHand, MayAnswer, MayCommit, MayHold, MaySay, MaySend, MayWrite, Nothing, ReadOf, Steps, ValueOf, asked_by, brought, busy_queue, busy_sessions, leading, not_readable, origin_of, refused, shows_map, shows_since, too_much, unread, unserved}
use Rattle.table_walk.proofs.Table.{walked}

module _ (me : Me) (now : ℕ) (w : Readings) (s : State) (came : Input) (From : ℕ → Command → Origin → Type 0) (Routed : (f e seq : ℕ) → Reply → Type 0) (Voted : (f pn v : ℕ) → Type 0) where
  abbrev Outcome : Course → Type 0
  Outcome = saying.Outcome me now w s came From Routed Voted

  abbrev Good : Course → Type 0
  Good = saying.Good me now w s came From Routed Voted

  abbrev Goes : List Change → (e v : ℕ) → Type 0
  Goes = saying.Goes me now w s came From Routed Voted

  abbrev Lead : Phase → List Change → (e v : ℕ) → Option ℕ → Type 0
  Lead = saying.Lead me now w s came From Routed Voted

  abbrev LeadAt : Course → Type 0
  LeadAt = saying.LeadAt me now w s came From Routed Voted

  abbrev GathersAt : Course → Type 0
  GathersAt = saying.GathersAt me now w s came From Routed Voted

  abbrev IsPlain : Sent → Type 0
  IsPlain = saying.IsPlain me now w s came From Routed Voted

  abbrev AllPlain : List Sent → Type 0
  AllPlain = saying.AllPlain me now w s came From Routed Voted

  abbrev IsAnswer : Sent → Type 0
  IsAnswer = saying.IsAnswer me now w s came From Routed Voted

  abbrev Short : (e v : ℕ) → Sent → Type 0
  Short = saying.Short me now w s came From Routed Voted

  abbrev SaysSent : Phase → (e v : ℕ) → Sent → Type 0
  SaysSent = saying.SaysSent me now w s came From Routed Voted

  quietly : (y : Course) → AllPlain y.out → LeadAt y → Outcome y
  quietly = saying.quietly me now w s came From Routed Voted

  more : (out sends : List Sent) → AllPlain out → AllPlain sends → AllPlain (out ++ sends)
  more = saying.more me now w s came From Routed Voted

  peon_lead : (p : Phase) (cs : List Change) (e v : ℕ) (z : Option ℕ) → is_peon p ≡ true → (is_some z ≡ true → saying.Leased me now w s came From Routed Voted cs e v) → Lead p cs e v z
  peon_lead = saying.peon_lead me now w s came From Routed Voted

  sync_lead : (p : Phase) (cs : List Change) (e v : ℕ) (z : Option ℕ) → same_phase p phase.Synchronizing ≡ true → Lead p cs e v z
  sync_lead = saying.sync_lead me now w s came From Routed Voted

  learned_same : (v : ℕ) (values : List (List Op)) (x y : Course) → Learned v values x y → saying.SameEpoch me now w s came From Routed Voted x.changes (epoch_of x.readings) → saying.SameEpoch me now w s came From Routed Voted y.changes (epoch_of y.readings)
  learned_same = saying.learned_same me now w s came From Routed Voted

  active : (x : Course) → AllByRecursion (Short (epoch_of x.readings) x.readings.last) x.out → Goes x.changes (epoch_of x.readings) x.readings.last → Good (be_active me now x)
  active = leaders.active me now w s came From Routed Voted

  abbrev x0 : Course
  x0 = at_rest w s

  L : LeadAt x0
  L = saying.rest_lead me now w s came From Routed Voted s.phase refl

  -- ---- what is known

  -- what waits at an active leader
  abbrev pub QueueKnown : Type 0
  QueueKnown = same_phase s.phase phase.Active ≡ true → AllByRecursion (λ (q : Waiting). From (epoch_of w) q.command q.origin) s.clients.queue

  -- what a message says of what was asked and accepted
  abbrev pub BodyKnown : (f e : ℕ) → Body → Type 0
  BodyKnown f e (body.Forward seq c) = From e c (origin.Forwarded f seq)
  BodyKnown f e (body.Route seq r) = Routed f e seq r
  BodyKnown f e (body.Accept pn v) = Voted f pn v
  BodyKnown f e other = Unit {0}

  -- the source of a command in hand is known, and neither the store nor the phase has changed
  abbrev pub HandKnown : InHand → Readings → Phase → Type 0
  HandKnown (CommandOf c o) r p = From (epoch_of w) c o × (r ≡ w) × (p ≡ s.phase)
  HandKnown other r p = Unit {0}

  abbrev pub InputKnown : Input → Type 0
  InputKnown (input.Deliver m) = BodyKnown m.from m.epoch m.body
  InputKnown (input.Client t r) = HandKnown (asked_by r t) w s.phase
  InputKnown other = Unit {0}

  -- ---- a value is committed

  abbrev counted : ℕ → Course
  counted f = accepted_by f x0

  -- the answer that makes it whole
  record MakesWhole (f : ℕ) : Type 0 where
    in_phase : (s.phase ≡ phase.Previous) ⊎ (s.phase ≡ phase.Updating)
    voted : Voted f s.leader.pn (suc w.last)
    whole : are_within me.member.monitors s.leader.quorum (with_rank s.leader.accepted f) ≡ true

  commits : (f : ℕ) (value : List Op) → MakesWhole f → Then Outcome (commit me now value (counted f))
  unfolding commit
  commits f value T = and_then (Learned (suc w.last) (value ∷ []) (counted f)) Outcome (learn (suc w.last) (value ∷ []) (counted f)) _ (learns (suc w.last) (value ∷ []) (counted f)) (λ y K. done (inl (by y K (sent y K))))
    where
      up : (y : Course) → Learned (suc w.last) (value ∷ []) (counted f) y → y.readings.last ≡ suc w.last
      up y K = elim K.last [ inl k ↦ (let z = k.0 in absurd (omega arith)) | inr k ↦ (let z = k.1 in omega arith) ]

      sent : (y : Course) → Learned (suc w.last) (value ∷ []) (counted f) y → AllByRecursion (Short (epoch_of y.readings) y.readings.last) (y.out ++ map (message_to me (epoch_of y.readings) (body.Commit (suc w.last) (value ∷ []))) (members me y.state.leader.quorum))
      sent y K = all_append _ y.out _ (subst (AllByRecursion (Short (epoch_of y.readings) y.readings.last)) (sym K.out) tt) (all_of (Short (epoch_of y.readings) y.readings.last) (message_to me (epoch_of y.readings) (body.Commit (suc w.last) (value ∷ []))) (λ to. let l = up y K in (omega arith, refl)) (members me y.state.leader.quorum))

      goes : (y : Course) → Learned (suc w.last) (value ∷ []) (counted f) y → Goes y.changes (epoch_of y.readings) y.readings.last
      goes y K = elim T.in_phase [
        | inl e ↦ inr (inl (inl (ap is_gathering e, learned_same (suc w.last) (value ∷ []) (counted f) y K (λ F. refl))))
        | inr e ↦ inr (inr (record { epoch = learned_same (suc w.last) (value ∷ []) (counted f) y K (λ F. refl); last = up y K; in_phase = e; voter = f; voted = T.voted; whole = T.whole }))
      ]

      by : (y : Course) → Learned (suc w.last) (value ∷ []) (counted f) y → AllByRecursion (Short (epoch_of y.readings) y.readings.last) (y.out ++ map (message_to me (epoch_of y.readings) (body.Commit (suc w.last) (value ∷ []))) (members me y.state.leader.quorum))
          → Good (y ▸ disarm timer.Accept ▸ leader_is (record y.state.leader { value = None; origin = None }) ▸ send_each me (members me y.state.leader.quorum) (body.Commit (suc w.last) (value ∷ [])) ▸ be_active me now ▸ answer_any me y.state.leader.origin (reply.Done (suc w.last)))
      by y K S =
          let x : Course = y ▸ disarm timer.Accept ▸ leader_is (record y.state.leader { value = None; origin = None }) ▸ send_each me (members me y.state.leader.quorum) (body.Commit (suc w.last) (value ∷ [])) in
          let G = active x S (goes y K) in
          let plain = saying.answers_plain me now w s came From Routed Voted (epoch_of (be_active me now x).readings) y.state.leader.origin (reply.Done (suc w.last)) (λ u. u) in
          record {
            calm = elim G.calm [ inl k ↦ inl (all_append NoRefusal (be_active me now x).out _ k (saying.all_plain_calm me now w s came From Routed Voted _ plain)) | inr e ↦ inr e ];
            out = all_append _ (be_active me now x).out _ G.out (saying.all_says me now w s came From Routed Voted (be_active me now x).state.phase (epoch_of (be_active me now x).readings) (be_active me now x).readings.last _ (saying.all_answers me now w s came From Routed Voted _ plain));
            lead = G.lead;
          }

  -- ---- a peon learns

  news_end : (from v : ℕ) (values : List (List Op)) → from ≤ suc w.last → 1 ≤ length (news w.last from values) → suc v ≡ suc w.last + length (news w.last from values) → (suc v ≤ from + length values) × (w.last ≤ v)
  news_end from v values le some e = let d = length-drop (suc w.last - from) values in (omega arith, omega arith)

  module _ (f e from : ℕ) (values : List (List Op)) (C : HeardFrom me came f e (body.Commit from values)) (t : (not (of_leader f e x0) || ltb (suc w.last) from) ≡ false) where
    learns_now : Then (λ y. AllPlain y.out × LeadAt y) (learn (suc w.last) (news w.last from values) x0)
    learns_now = then_map (Learned (suc w.last) (news w.last from values) x0) (λ y. AllPlain y.out × LeadAt y) (learn (suc w.last) (news w.last from values) x0) (λ y K. (subst AllPlain (sym K.out) tt, lead y K)) (learns (suc w.last) (news w.last from values) x0)
      where
        parts : (not (of_leader f e x0) ≡ false) × (ltb (suc w.last) from ≡ false)
        parts = or_parts (not (of_leader f e x0)) (ltb (suc w.last) from) t

        a : (is_peon s.phase ≡ true) × (eqb e (epoch_of w) ≡ true) × (eqb f s.peon.leader ≡ true)
        a = and_three (is_peon s.phase) (eqb e (epoch_of w)) (eqb f s.peon.leader) (not-false _ parts.0)

        how : (y : Course) → Learned (suc w.last) (news w.last from values) x0 y → is_some s.peon.lease ≡ true → ((length (news w.last from values) ≡ 0) × (y.readings.last ≡ w.last)) ⊎ ((1 ≤ length (news w.last from values)) × (suc y.readings.last ≡ suc w.last + length (news w.last from values)))
            → ((is_some s.peon.lease ≡ true) × (y.readings.last ≡ w.last)) ⊎ (saying.Takes me now w s came From Routed Voted y.readings.last ⊎ saying.Learns me now w s came From Routed Voted y.readings.last)
        how y K had (inl same) = inl (had, same.1)
        how y K had (inr k) =
            let n = news_end from y.readings.last values (ltb-false (suc w.last) from parts.1) k.0 k.1 in
            inr (inr (record { message = C.message; is = C.is; first = from; values = values; says = C.says; epoch = C.epoch ∙ eqb-true e (epoch_of w) a.1; had = had; last = n.0; higher = n.1 }))

        lead : (y : Course) → Learned (suc w.last) (news w.last from values) x0 y → LeadAt y
        lead y K = peon_lead y.state.phase y.changes (epoch_of y.readings) y.readings.last y.state.peon.lease (ap (λ (z : State). is_peon z.phase) K.state ∙ a.0) (λ u. record {
          peon = a.0;
          epoch = learned_same (suc w.last) (news w.last from values) x0 y K (λ F. refl);
          how = how y K (sym (ap (λ (z : State). is_some z.peon.lease) K.state) ∙ u) K.last;
        })

  -- a peon's lease that is new is of a LEASE that comes now
  held : (x : Course) (z : Option ℕ) → MayHold me w s came x → Lead x.state.phase x.changes (epoch_of x.readings) x.readings.last z
  held x z k =
      let t = or_three (not (of_leader k.leader k.epoch x0)) (not (eqb k.last w.last)) (is_some (pending w)) k.tested in
      let a = and_three (is_peon s.phase) (eqb k.epoch (epoch_of w)) (eqb k.leader s.peon.leader) (not-false _ t.0) in
      let q : k.last ≡ w.last = eqb-true k.last w.last (not-false _ t.1) in
      subst (λ (y : Course). Lead y.state.phase y.changes (epoch_of y.readings) y.readings.last z) (sym k.first) (peon_lead s.phase [] (epoch_of w) w.last z a.0 (λ u. record {
        peon = a.0;
        epoch = λ F. refl;
        how = inr (inl (record { message = k.said.message; is = k.said.is; says = k.said.says ∙ ap (λ (v : ℕ). body.Lease v) q; epoch = k.said.epoch ∙ eqb-true k.epoch (epoch_of w) a.1; last = refl }));
      }))

  lead_kept : (p : Phase) (cs : List Change) (e v : ℕ) (z : Option ℕ) → Lead p cs e v z → Lead p cs e v None
  lead_kept phase.Peon cs e v z k = λ t. no t
  lead_kept other cs e v z k = k

  leased : (x : Course) (z : Option ℕ) → (is_some z ≡ true → MayHold me w s came x) → LeadAt x → Lead x.state.phase x.changes (epoch_of x.readings) x.readings.last z
  leased x None k l = lead_kept x.state.phase x.changes (epoch_of x.readings) x.readings.last x.state.peon.lease l
  leased x (Some end) k l = held x (Some end) (k refl)

  -- ---- the walk

  module _ (Q : QueueKnown) (shared : List Entry) (input_known : InputKnown came) where
    -- neither a LEASE nor a COMMIT is sent so far, and no session is refused
    abbrev Plain : InHand → Course → Type 0
    Plain h x = AllPlain x.out × LeadAt x × HandKnown h x.readings x.state.phase

    asked_known : (c : Input) → InputKnown c → HandKnown (brought c) w s.phase
    asked_known (input.Client t r) k = k
    asked_known other k = tt

    heard_known : {f e : ℕ} {m : Body} → HeardFrom me came f e m → BodyKnown f e m
    heard_known {f} {e} {m} C = subst (λ (n : ℕ). BodyKnown n e m) C.from (subst (λ (n : ℕ). BodyKnown C.message.from n m) C.epoch (subst (BodyKnown C.message.from C.message.epoch) C.says (subst InputKnown C.is input_known)))

    -- ---- reasons

    say_plain : (x : Course) (to e : ℕ) (m : Body) → MaySay me shared x m → saying.IsPlainBody me now w s came From Routed Voted to e m
    say_plain x to e (body.Lease last) k = absurd k
    say_plain x to e (body.Commit from values) k = absurd k
    say_plain x to e (body.Route seq r) k = absurd k
    say_plain x to e other k = tt

    sent_plain : (x : Course) (m : Sent) → MaySend me shared x m → IsPlain m
    sent_plain x (sent.Message to m) k = say_plain x to m.epoch m.body k.2
    sent_plain x (sent.Reply t r) k = absurd k

    written : (x : Course) (c : Change) → MayWrite me s came x c → Plain Nothing x → Plain Nothing (change c x)
    written x (Promise pn) k A = (A.0, saying.lead_more me now w s came From Routed Voted x.state.phase x.changes (Promise pn ∷ []) (epoch_of x.readings) x.readings.last x.state.peon.lease A.1, tt)
    written x Unmark k A = (A.0, saying.lead_more me now w s came From Routed Voted x.state.phase x.changes (Unmark ∷ []) (epoch_of x.readings) x.readings.last x.state.peon.lease A.1, tt)
    written x (Last v) k A = (A.0, sync_lead x.state.phase _ _ _ _ (ap (λ (p : Phase). same_phase p phase.Synchronizing) k.2 ∙ k.0), tt)
    written x other k A = absurd k

    gathers : (x : Course) → x.state.phase ≡ phase.Collecting → LeadAt x → GathersAt x
    gathers x e l = subst (λ (p : Phase). Lead p x.changes (epoch_of x.readings) x.readings.last x.state.peon.lease) e l

    goes : (x : Course) → same_phase x.state.phase phase.Active ≡ true → LeadAt x → Goes x.changes (epoch_of x.readings) x.readings.last
    goes x t l = subst (λ (p : Phase). Lead p x.changes (epoch_of x.readings) x.readings.last x.state.peon.lease) (active_is x.state.phase t) l

    learned_last : (from : ℕ) (values : List (List Op)) → s.phase ≡ phase.Collecting → Then (Plain Nothing) (learn (news_from w.last from) (news w.last from values) x0)
    learned_last from values p = then_map (Learned (news_from w.last from) (news w.last from values) x0) (Plain Nothing) (learn (news_from w.last from) (news w.last from values) x0) (λ y K. (
      subst AllPlain (sym K.out) tt,
      subst (λ (q : Phase). Lead q y.changes (epoch_of y.readings) y.readings.last y.state.peon.lease) (sym (ap (λ (z : State). z.phase) K.state ∙ p)) (inl (ap is_gathering p, learned_same (news_from w.last from) (news w.last from values) x0 y K (λ F. refl))),
      tt,
    )) (learns (news_from w.last from) (news w.last from values) x0)

    learned_chunk : (x : Course) (v : ℕ) (values : List (List Op)) → same_phase x.state.phase phase.Synchronizing ≡ true → Plain Nothing x → Then (Plain Nothing) (learn v values x)
    learned_chunk x v values t A = then_map (Learned v values x) (Plain Nothing) (learn v values x) (λ y K. (
      subst AllPlain (sym K.out) A.0,
      sync_lead y.state.phase _ _ _ _ (ap (λ (z : State). same_phase z.phase phase.Synchronizing) K.state ∙ t),
      tt,
    )) (learns v values x)

    begins : (x : Course) (value : List Op) (o : Origin) → same_phase x.state.phase phase.Active ≡ true → Plain (ValueOf value (Some o)) x → Then Outcome (begin me now stage.Updating value (Some o) x)
    unfolding begin begin_with
    begins x value o t A = let v = suc x.readings.last in let short = saying.all_short me now w s came From Routed Voted (epoch_of x.readings) x.readings.last x.out A.0 in
        where_fits Outcome which.Version v _ (λ _. by_test (is_alone me x.state.leader.quorum)
        (λ one. leaders.alone me now w s came From Routed Voted v value (Some o) x one (saying.all_founded me now w s came From Routed Voted (epoch_of x.readings) x.readings.last x.out short) (saying.all_calm me now w s came From Routed Voted (epoch_of x.readings) x.readings.last x.out short))
        (λ _. done (quietly _ (more x.out _ A.0 (saying.to_each me now w s came From Routed Voted (epoch_of x.readings) (body.Begin x.state.leader.pn v value) (λ to. tt) (members me x.state.leader.quorum)))
        (saying.lead_more me now w s came From Routed Voted phase.Updating x.changes (Vote v x.state.leader.pn value ∷ []) (epoch_of x.readings) x.readings.last x.state.peon.lease (goes x t A.1)))))

    makes_whole : (value : List Op) (x : Course) (k : MayCommit me came x) → x ≡ counted k.sender → MakesWhole k.sender
    makes_whole value x k first =
        let t = subst (λ (y : Course). (of_member begun k.sender k.epoch y && eqb k.pn y.state.leader.pn && eqb k.v (suc y.readings.last)) ≡ true) first k.tested in
        let u = subst (λ (y : Course). all_accepted me y ≡ true) first k.all in
        let b = and_three (of_member begun k.sender k.epoch (counted k.sender)) (eqb k.pn s.leader.pn) (eqb k.v (suc w.last)) t in
        let c = and_three (is_one_of begun s.phase) (eqb k.epoch (epoch_of w)) (has s.leader.quorum k.sender) b.0 in
        record { in_phase = begun_is s.phase c.0; voted = subst (λ (p : ℕ). Voted k.sender p (suc w.last)) (eqb-true k.pn s.leader.pn b.1) (subst (Voted k.sender k.pn) (eqb-true k.v (suc w.last) b.2) (heard_known k.said)); whole = u }

    -- ---- answers

    module _ (x : Course) where
      replied : (h : InHand) (r : Reply) → (IsRefusalReply r → ⊥) → Plain h x → Outcome (answer_any me (origin_of h) r x)
      replied h r k A = quietly _ (more x.out _ A.0 (saying.answers_plain me now w s came From Routed Voted (epoch_of x.readings) (origin_of h) r k)) A.1

      refuses : (c : Command) (o : Origin) (r : Reply) → saying.WhyOf me now w s came From Routed Voted (asked_of me o) c r → Plain (CommandOf c o) x → Outcome (answer_any me (Some o) r x)
      refuses c o r why A =
          saying.answered me now w s came From Routed Voted _ (all_append IsAnswer x.out _ (saying.all_answers me now w s came From Routed Voted x.out A.0) (known_answer o (λ u. decides))) (ap epoch_of A.2.1) A.1
        where
          decides : saying.Decides me now w s came From Routed Voted o (epoch_of x.readings) r
          decides = record { command = c; from = A.2.0; epoch = ap epoch_of A.2.1; why = why }

          known_answer : (o : Origin) → (IsRefusalReply r → saying.Decides me now w s came From Routed Voted o (epoch_of x.readings) r) → AllByRecursion IsAnswer (answer_to me (epoch_of x.readings) o r ∷ [])
          known_answer (origin.Session t) k = ((λ u. inl (subst (λ (e : ℕ). saying.Decides me now w s came From Routed Voted (origin.Session t) e r) (ap epoch_of A.2.1) (k u))), tt)
          known_answer (origin.Forwarded f seq) k = (k, tt)

      answers_so : (h : InHand) (r : Reply) → MayAnswer me now w s x h r → Plain h x → Outcome (answer_any me (origin_of h) r x)
      answers_so Nothing r k A = elim k [ ]
      answers_so (FoundOf found) r k A = elim k [ ]
      answers_so (ValueOf ops o) r k A = elim k [ ]
      answers_so (CommandOf c o) r (unserved t) A = replied (CommandOf c o) reply.Unavailable (λ u. u) A
      answers_so (ReadOf t q) r (unread k) A = replied (ReadOf t q) reply.Unavailable (λ u. u) A
      answers_so (CommandOf c o) r (too_much t) A = refuses c o (too_long c) (inl (t, refl)) A
      answers_so (CommandOf c o) r (busy_queue t k) A = replied (CommandOf c o) (reply.Busy MOST_WAITING) (λ u. u) A
      answers_so (CommandOf c o) r (busy_sessions t k) A = replied (CommandOf c o) (reply.Busy MOST_WAITING) (λ u. u) A
      answers_so (CommandOf c o) r (refused e leads short q) A = refuses c o (refusal e) (inr (sym A.2.2 ∙ active_is x.state.phase leads, e, ap (λ (z : Readings). value z c (asked_of me o)) (sym A.2.1) ∙ q, refl)) A
      answers_so (ReadOf t q) r (not_readable k u) A = replied (ReadOf t q) (reply.NotReadable x.readings.last (is_standing me now x.state)) (λ u. u) A
      answers_so (ReadOf t q) r (shows_map v first member k) A = replied (ReadOf t (request.Show v)) (shown x.readings v) (λ u. u) A
      answers_so (ReadOf t q) r (shows_since v n first member k) A = replied (ReadOf t (request.Since v n)) (since x.readings v n) (shows_no_refusal (since x.readings v n) (since_shows x.readings v n)) A

    routed : (f e seq : ℕ) (r : Reply) → Routed f e seq r → of_leader f e x0 ≡ true → AllByRecursion IsAnswer (map (λ (a : Asked). sent.Reply a.session r) (filter (λ (a : Asked). eqb a.seq seq) s.clients.sessions))
    routed f e seq r K heard =
        let t = and_three (is_peon s.phase) (eqb e (epoch_of w)) (eqb f s.peon.leader) heard in
        each t.0 (eqb-true e (epoch_of w) t.1) s.clients.sessions (λ a k. k)
      where
        each : is_peon s.phase ≡ true → e ≡ epoch_of w → (xs : List Asked) → ((a : Asked) → Among a xs → Among a s.clients.sessions) → AllByRecursion IsAnswer (map (λ (a : Asked). sent.Reply a.session r) (filter (λ (a : Asked). eqb a.seq seq) xs))
        each p n [] k = tt
        each p n (a ∷ xs) k =
            cond_both (eqb a.seq seq) (a ∷ filter (λ (b : Asked). eqb b.seq seq) xs) (filter (λ (b : Asked). eqb b.seq seq) xs) (λ (ys : List Asked). AllByRecursion IsAnswer (map (λ (b : Asked). sent.Reply b.session r) ys))
            (λ q. ((λ u. inr (record { leader = f; epoch = e; waits = a; known = subst (λ (z : ℕ). Routed f e z r) (sym (eqb-true a.seq seq q)) K; among = k a (inl refl); session = refl; peon = p; now_is = n })), each p n xs (λ b o. k b (inr o))))
            (λ q. each p n xs (λ b o. k b (inr o)))

    -- ---- steps and acts

    plain : Steps me now shared w s came Plain Outcome
    unfolding full_sync
    plain = record {
      before = λ k. (tt, L, asked_known came input_known);
      after = λ {x = x} A. quietly x A.0 A.1;
      marks = λ f C why A. quietly _ (tt, tt) tt;
      answers_probe = λ f e A. quietly _ (tt, tt) L;
      votes = λ {x = x} f e pn v value C t A. quietly _ (more x.out (message_to me (epoch_of x.readings) (body.Accept pn v) f ∷ []) A.0 (tt, tt))
          (peon_lead x.state.phase _ _ _ None (and_three (is_peon x.state.phase) (eqb e (epoch_of x.readings)) (eqb f x.state.peon.leader) (and_three (of_leader f e x) (eqb pn (promise_of x.readings)) (eqb v (suc x.readings.last)) t).0).0 (λ u. no u));
      writes = λ {x = x} c k A. written x c k A;
      replays = λ left v end values t z e A. (A.0, sync_lead s.phase _ _ _ _ t, tt);
      copies = λ {x = x} v values entries t k A. (A.0, sync_lead x.state.phase _ _ _ _ t, tt);
      sends = λ {x = x} sends k A. (more x.out sends A.0 (all_map (MaySend me shared x) IsPlain (sent_plain x) sends k), A.1, tt);
      timers = λ ts A. A;
      elector = λ e A. A;
      prober = λ p A. A;
      peon = λ {x = x} p k A. (A.0, leased x p.lease k A.1, A.2);
      provider = λ p A. A;
      requester = λ q k A. A;
      leader = λ l A. A;
      finds = λ l k A. A;
      takes_queued = λ q qs e is due A. (A.0, A.1, ((subst (AllByRecursion (λ (z : Waiting). From (epoch_of w) z.command z.origin)) e (Q (and_parts (same_phase s.phase phase.Active) _ due).0)).0, refl, refl));
      takes_forwarded = λ f e seq c C t A. (A.0, A.1, (subst (λ (n : ℕ). From n c (origin.Forwarded f seq)) (eqb-true e (epoch_of w) (and_three (is_one_of leading s.phase) (eqb e (epoch_of w)) (has s.leader.quorum f) (and_parts (of_member leading f e x0) _ t).0).1) (heard_known C), refl, refl));
      makes_value = λ c o ops short e active A. (A.0, A.1, tt);
      queues = λ c o short A. quietly _ A.0 A.1;
      forwards = λ {x = x} c u peon short fits A. quietly _ (more x.out (message_to me (epoch_of x.readings) (body.Forward x.state.clients.next_seq c) x.state.peon.leader ∷ []) A.0 (tt, tt)) A.1;
      routes = λ f e seq r C t A. saying.answered me now w s came From Routed Voted _ (routed f e seq r (heard_known C) t) refl L;
      answers = λ {x = x} h r k A. answers_so x h r k A;
    }

    renewed : (x : Course) (ts : List (Option ℕ)) → same_phase x.state.phase phase.Active ≡ true → Plain Nothing x → Good (timers_are ts (extend me now x))
    unfolding extend
    renewed x ts t A = let sends = map (message_to me (epoch_of x.readings) (body.Lease x.readings.last)) (members me x.state.leader.quorum) in record {
      out = all_append _ x.out sends (saying.all_says me now w s came From Routed Voted x.state.phase (epoch_of x.readings) x.readings.last x.out (saying.all_answers me now w s came From Routed Voted x.out A.0)) (all_of (SaysSent x.state.phase (epoch_of x.readings) x.readings.last) (message_to me (epoch_of x.readings) (body.Lease x.readings.last)) (λ to. (active_is x.state.phase t, refl, refl)) (members me x.state.leader.quorum));
      calm = inl (all_append NoRefusal x.out sends (saying.all_plain_calm me now w s came From Routed Voted x.out A.0) (all_of NoRefusal (message_to me (epoch_of x.readings) (body.Lease x.readings.last)) (λ to. tt) (members me x.state.leader.quorum)));
      lead = A.1;
    }

    acts : Acts me now shared w s came Plain Outcome
    unfolding start adopt recent_sync extend
    acts = record {
      learns_last = λ {f} {e} {pn} {first} {last} {from} {whole} {values} {told} C p A. learned_last from values p;
      learns_commit = λ {f} {e} {from} {values} C t A. then_map _ (Plain Nothing) (learn (suc w.last) (news w.last from values) x0) (λ y K. (K.0, K.1, tt)) (learns_now f e from values C t);
      learns_chunk = λ {x = x} v values t k A. learned_chunk x v values t A;
      renews = λ {x = x} ts t A. inl (renewed x ts t A);
      commits = λ {x = x} value e k first A. subst (λ (y : Course). Then Outcome (commit me now value y)) (sym first) (commits k.sender value (makes_whole value x k first));
      begins = λ {x = x} value o t A. begins x value o t A;
      settles = λ {x = x} k A. leaders.settles me now w s came From Routed Voted x (gathers x k.collecting A.1) A.0;
      collects = λ {x = x} q above heard p A. leaders.collects me now w s came From Routed Voted q above x (gathers x p A.1) A.0;
      starts = λ is booting. where_fits Outcome which.Boot (suc w.boot) _ (λ _. leaders.bootstraps me now w s came From Routed Voted _ tt);
      bootstraps = λ {x = x} A. leaders.bootstraps me now w s came From Routed Voted x A.0;
      elects = λ {x = x} A. leaders.elects me now w s came From Routed Voted x A.0;
      calls = λ f e q C A. leaders.elects me now w s came From Routed Voted _ A.0;
      wins = λ {x = x} q k same A. leaders.wins me now w s came From Routed Voted q x (ap epoch_of same) A.0;
      adopts = λ e k A. (A.0, tt, tt);
      follows = λ f e q C A. (A.0, (λ t. no t), tt);
      recent_syncs = λ {x = x} f A. (more x.out (message_to me (epoch_of x.readings) (body.GetCookieRecent x.readings.last) f ∷ []) A.0 (tt, tt), tt, tt);
    }

    pub reacts : Then Outcome (react me shared now w s came)
    reacts = walked plain acts
