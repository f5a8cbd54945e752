-- Each answer that doesn't serve has its cause in a step.
use Rattle.law_names.proofs.Runs.{Acknowledgement, Arrival, Asked, Client, Deliver, Envelope, Monitors, Plain, Reached, Replied, Ring, Start, World, arrival, last_of, map_after, me_of, message_at, messages_of, replies_of, state_at}
use Rattle.law_names.proofs.Table.{AllByRecursion, Body, Contains, Course, Input, Me, Message, Reaction, Readings, Reply, Sent, Session, State, Store, Which, any_reaction, apply, booting, epoch_of, played, react, reaction_of, readings_of, shared_entries}
use Rattle.log_model.proofs.Lists.{all_append, all_map, of_all}
use Rattle.mon_msg.proofs.Changed.{readings-joined}
use Rattle.mon_msg.specs.declared.input.Input.TheVariants as input
use Rattle.mon_msg.specs.declared.plan.Sent.TheVariants as sent
use Rattle.mon_wire.specs.declared.body.Body.TheVariants as body
use Rattle.network_answers.proofs.Answering.{answer}
use Rattle.network_answers.proofs.Lists.{all_image}
use Rattle.network_answers.specs.Answers.{Answer}
use Rattle.network_answers.specs.Causes.{IsCaused, Reacted, Routes}
use Rattle.quorum_network.proofs.Acts.{Act, Does, DoesSo, act_at, act_by, act_in, act_in_iteration}
use Rattle.quorum_network.proofs.Assembled.{assembly, contains_first, contains_later}
use Rattle.quorum_network.proofs.Events.{known}
use Rattle.quorum_network.proofs.Invariant.{Moved, Next, Still}
use Rattle.quorum_network.proofs.Names.{AllMay, Iteration, Leadership, Network, Node, NodeEnd, Posted, Step, TimedInput, acknowledged_at, acknowledgements, after_step, asked_by, iteration_of, kept_by, leaderships, led_at, network, requests}
use Rattle.quorum_network.proofs.Senders.{started, went}
use Rattle.quorum_network.proofs.Steps.{step_next}
use Rattle.quorum_network.proofs.Whole.{Stands, facts, stands, stands_first, stands_next}
use Rattle.quorum_replies.proofs.Causes.{Caused, IsForCause, IsRouted, RoutesForCause, says_for_cause}
use Rattle.quorum_replies.specs.Causes.{HasCause, HasCauseToRoute}
use Rattle.quorum_walk.proofs.FineCourses.{Base, Ended, begun, fit_fits}
use Rattle.quorum_walk.proofs.Walk.{Then}
use Rattle.std.proofs.Common.{Err, List, None, Ok, Option, Result, Some, [], ap, arith, inl, inr, map, option_map, refl, slice_get, subst, suc, sym, zero, ℕ, ◌++◌, ◌∙◌, ◌∷◌, ◌≡◌, ◌⊎◌}

-- ---- an act of a step

pub record IsAct (ms : Monitors) (net : Network) (s : Step) (a : Act) : Type 0 where
  pub reacted : Reacted ms net s
  pub rank : s.rank ≡ a.rank
  pub at : reacted.it.at ≡ a.at
  pub node : reacted.iteration.serving.node ≡ a.node
  pub reaction : reacted.reaction ≡ a.reaction

is_act : (ms : Monitors) (net : Network) (s : Step) (a : Act) → act_at net s (me_of ms s.rank) ≡ Some a → IsAct ms net s a
is_act ms net s a e = by_me (me_of ms s.rank) refl e
  where
    by_came : (me : Me) → me_of ms s.rank ≡ Some me → (t : Iteration) → iteration_of me (net.process s.rank) s.doing ≡ Some t
        → (c : Result (Option TimedInput) NodeEnd) → t.came ≡ c → (o : Option Reaction) → kept_by me t s.up_to ≡ o → act_in s.rank me t.serving.node c o ≡ Some a → IsAct ms net s a
    by_came me k t i (Err x) c o h e = absurd cc
    by_came me k t i (Ok None) c o h e = absurd cc
    by_came me k t i (Ok (Some it)) c None h e = absurd cc
    by_came me k t i (Ok (Some it)) c (Some r) h e =
        let same : record { rank = s.rank; me = me; node = t.serving.node; at = it.at; input = it.input; reaction = r } ≡ a = cc in
        record {
          reacted = record { me = me; known = k; iteration = t; iterates = i; it = it; came = c; reaction = r; kept = h };
          rank = ap (λ (x : Act). x.rank) same;
          at = ap (λ (x : Act). x.at) same;
          node = ap (λ (x : Act). x.node) same;
          reaction = ap (λ (x : Act). x.reaction) same;
        }

    by_it : (me : Me) → me_of ms s.rank ≡ Some me → (o : Option Iteration) → iteration_of me (net.process s.rank) s.doing ≡ o → act_in_iteration s.rank me s.up_to o ≡ Some a → IsAct ms net s a
    by_it me k None i e = absurd cc
    by_it me k (Some t) i e = by_came me k t i t.came refl (kept_by me t s.up_to) refl e

    by_me : (x : Option Me) → me_of ms s.rank ≡ x → act_at net s x ≡ Some a → IsAct ms net s a
    by_me None k e = absurd cc
    by_me (Some me) k e = by_it me k (iteration_of me (net.process s.rank) s.doing) refl e

-- ---- messages that come

get_contains : (xs : List Envelope) (k : ℕ) (e : Envelope) → slice_get xs k ≡ Some e → Contains xs e
get_contains [] k e h = absurd cc
get_contains (x ∷ xs) zero e h = let same : x ≡ e = cc in (0, omega arith, same)
get_contains (x ∷ xs) (suc k) e h = contains_later x xs e (get_contains xs k e h)

-- a message that arrives was sent
arrived : (w : World) (p : Plain) (i at : ℕ) (m : Message) → arrival w p ≡ Some (record { rank = i; at = at; input = input.Deliver m }) → Contains w.messages (record { to = i; message = m })
arrived w (Start rank t) i at m e = absurd (let same : ◌≡◌ {A = Arrival} (record { rank = rank; at = t; input = input.Start }) (record { rank = i; at = at; input = input.Deliver m }) = cc in let z = ap (λ (a : Arrival). a.input) same in cc)
arrived w (Ring rank timer t) i at m e = absurd (let same : ◌≡◌ {A = Arrival} (record { rank = rank; at = t; input = input.Timer timer }) (record { rank = i; at = at; input = input.Deliver m }) = cc in let z = ap (λ (a : Arrival). a.input) same in cc)
arrived w (Client rank t s r) i at m e = absurd (let same : ◌≡◌ {A = Arrival} (record { rank = rank; at = t; input = input.Client s r }) (record { rank = i; at = at; input = input.Deliver m }) = cc in let z = ap (λ (a : Arrival). a.input) same in cc)
arrived w (Deliver zero t) i at m e = absurd cc
arrived w (Deliver (suc k) t) i at m e = by (slice_get w.messages k) refl e
  where
    message_in : Input → Message → Message
    message_in (input.Deliver x) other = x
    message_in x other = other

    by : (o : Option Envelope) → slice_get w.messages k ≡ o → option_map {U = Arrival} (λ (e : Envelope). record { rank = e.to; at = t; input = input.Deliver e.message }) o ≡ Some (record { rank = i; at = at; input = input.Deliver m }) → Contains w.messages (record { to = i; message = m })
    by None h e = absurd cc
    by (Some v) h e =
        let same : ◌≡◌ {A = Arrival} (record { rank = v.to; at = t; input = input.Deliver v.message }) (record { rank = i; at = at; input = input.Deliver m }) = cc in
        let one : v ≡ record { to = i; message = m } = ap (λ (a : Arrival). record { to = a.rank; message = message_in a.input m }) same in
        subst (Contains w.messages) one (get_contains w.messages k v h)

-- ---- a reaction's causes

of_react : (me : Me) (at : ℕ) (came : Input) (m : Store) (s : State) (base : Base me) → base.from ≡ readings_of m → (x : Result Course Which) → Then (Caused me at (shared_entries m) (readings_of m) s came) x → Then (Ended base) x → (r : Reaction) → any_reaction x ≡ Ok r
    → AllByRecursion (IsForCause me.member.monitors at came (readings_of (apply r.transaction m)) r.state) r.sends
of_react me at came m s base from (Err which) T E r e = absurd cc
of_react me at came m s base from (Ok y) T E r e =
    let ended : Ended base y = E.holds in
    let reads : readings_of (apply (reaction_of y).transaction m) ≡ y.readings = readings-joined y.changes (fit_fits y.changes ended.fits) m ∙ ap (played y.changes) (sym from) ∙ sym ended.tells in
    let same : reaction_of y ≡ r = cc in
    subst (λ (q : Reaction). AllByRecursion (IsForCause me.member.monitors at came (readings_of (apply q.transaction m)) q.state) q.sends) same
    (subst (λ (w : Readings). AllByRecursion (IsForCause me.member.monitors at came w y.state) y.out) (sym reads) T.holds)

module _ (ms : Monitors) (w next : World) (R : Reached ms w) (a : Act) (D : Does ms w next a) where
  abbrev m : Store
  m = w.store a.rank

  abbrev monitors : ℕ
  monitors = a.me.member.monitors

  rank_is : a.me.member.rank ≡ a.rank
  rank_is = let M = known ms a.rank a.me D.known in M.rank

  pub count_is : monitors ≡ ms.count
  count_is = let M = known ms a.rank a.me D.known in M.count

  abbrev AllFor : Type 0
  AllFor = AllByRecursion (IsForCause a.me.member.monitors a.at a.input (readings_of (apply a.reaction.transaction (w.store a.rank))) a.reaction.state) a.reaction.sends

  pub all_for_cause : AllFor
  all_for_cause = by a.input refl
    where
      runs : w.state a.rank ≡ Some a.node.state → AllFor
      runs up =
          of_react a.me a.at a.input m a.node.state (begun a.me (readings_of m) a.node.state a.input) refl (react a.me (shared_entries m) a.at (readings_of m) a.node.state a.input)
          (says_for_cause a.me a.at (shared_entries m) (readings_of m) a.node.state a.input) (went ms w R a.me a.rank a.at a.input D.plain a.node.state D.fits D.there up) a.reaction D.reacts

      by : (c : Input) → a.input ≡ c → AllFor
      by input.Start e =
          let up : a.node.state ≡ booting a.me.member.rank = (let z : Some (booting a.rank) ≡ Some a.node.state = subst (λ (c : Input). state_at a.rank (w.state a.rank) c ≡ Some a.node.state) e D.up in let same : booting a.rank ≡ a.node.state = cc in sym same ∙ ap booting (sym rank_is)) in
          subst (λ (c : Input). AllByRecursion (IsForCause a.me.member.monitors a.at c (readings_of (apply a.reaction.transaction (w.store a.rank))) a.reaction.state) a.reaction.sends) (sym e)
          (of_react a.me a.at input.Start m (booting a.me.member.rank) (begun a.me (readings_of m) (booting a.me.member.rank) input.Start) refl (react a.me (shared_entries m) a.at (readings_of m) (booting a.me.member.rank) input.Start)
          (says_for_cause a.me a.at (shared_entries m) (readings_of m) (booting a.me.member.rank) input.Start) (started ms w R a.rank a.at a.me) a.reaction
          (subst (λ (c : Input). any_reaction (react a.me (shared_entries m) a.at (readings_of m) (booting a.me.member.rank) c) ≡ Ok a.reaction) e
          (subst (λ (s : State). any_reaction (react a.me (shared_entries m) a.at (readings_of m) s a.input) ≡ Ok a.reaction) up D.reacts)))
      by (input.Deliver x) e = runs (ap (λ (c : Input). state_at a.rank (w.state a.rank) c) (sym e) ∙ D.up)
      by (input.Timer t) e = runs (ap (λ (c : Input). state_at a.rank (w.state a.rank) c) (sym e) ∙ D.up)
      by (input.Client s r) e = runs (ap (λ (c : Input). state_at a.rank (w.state a.rank) c) (sym e) ∙ D.up)

-- ---- a step's causes

-- a ROUTE with this reply was sent to monitor i for a cause
pub record IsRoutedFor (ms : Monitors) (steps : List Step) (i : ℕ) (y : Reply) : Type 0 where
  pub later : List Step
  pub step : Step
  pub earlier : List Step
  pub is : steps ≡ later ++ step ∷ earlier
  pub reacted : Reacted ms (network ms earlier) step
  pub routes : Routes reacted.reaction i y
  pub cause : HasCauseToRoute reacted.reaction.state y

abbrev pub IfRoute : (ms : Monitors) (steps : List Step) (i : ℕ) → Body → Type 0
IfRoute ms steps i (body.Route seq y) = IsRoutedFor ms steps i y
IfRoute ms steps i other = Unit {0}

-- all that was replied and routed in these steps had a cause
pub record AllCaused (ms : Monitors) (steps : List Step) (w : World) : Type 0 where
  pub replies : AllByRecursion (λ (r : Replied). IsCaused ms steps (answer r)) w.replied
  pub routes : AllByRecursion (λ (e : Envelope). IfRoute ms steps e.to e.message.body) w.messages

-- a later step changes nothing in it
caused_on : (ms : Monitors) (s : Step) (steps : List Step) (a : Answer) → IsCaused ms steps a → IsCaused ms (s ∷ steps) a
caused_on ms s steps a K = record { later = s ∷ K.later; step = K.step; earlier = K.earlier; is = ap (λ (xs : List Step). s ∷ xs) K.is; reacted = K.reacted; cause = K.cause }

route_on : (ms : Monitors) (s : Step) (steps : List Step) (i : ℕ) (b : Body) → IfRoute ms steps i b → IfRoute ms (s ∷ steps) i b
route_on ms s steps i (body.Route seq y) K = record { later = s ∷ K.later; step = K.step; earlier = K.earlier; is = ap (λ (xs : List Step). s ∷ xs) K.is; reacted = K.reacted; routes = K.routes; cause = K.cause }
route_on ms s steps i other K = tt

all_on : (ms : Monitors) (s : Step) (steps : List Step) (w : World) → AllCaused ms steps w → AllCaused ms (s ∷ steps) w
all_on ms s steps w K = record {
  replies = all_map (λ (r : Replied). IsCaused ms steps (answer r)) (λ (r : Replied). IsCaused ms (s ∷ steps) (answer r)) (λ r k. caused_on ms s steps (answer r) k) w.replied K.replies;
  routes = all_map (λ (e : Envelope). IfRoute ms steps e.to e.message.body) (λ (e : Envelope). IfRoute ms (s ∷ steps) e.to e.message.body) (λ e k. route_on ms s steps e.to e.message.body k) w.messages K.routes;
}

module _ (ms : Monitors) (s : Step) (earlier : List Step) (w next : World) (R : Reached ms w) (K : AllCaused ms earlier w) (a : Act) (D : Does ms w next a) (F : IsAct ms (network ms earlier) s a) where
  abbrev steps : List Step
  steps = s ∷ earlier

  abbrev reads : Readings
  reads = readings_of (apply a.reaction.transaction (w.store a.rank))

  -- a reply of its own
  own : (y : Reply) → HasCause a.me.member.monitors a.at reads a.reaction.state y
      → HasCause ms.count F.reacted.it.at (readings_of (apply F.reacted.reaction.transaction F.reacted.iteration.serving.node.store.kv)) F.reacted.reaction.state y
  own y h =
      subst (λ (at : ℕ). HasCause ms.count at (readings_of (apply F.reacted.reaction.transaction F.reacted.iteration.serving.node.store.kv)) F.reacted.reaction.state y) (sym F.at)
      (subst (λ (r : Reaction). HasCause ms.count a.at (readings_of (apply r.transaction F.reacted.iteration.serving.node.store.kv)) r.state y) (sym F.reaction)
      (subst (λ (n : Node). HasCause ms.count a.at (readings_of (apply a.reaction.transaction n.store.kv)) a.reaction.state y) (sym F.node)
      (subst (λ (m : Store). HasCause ms.count a.at (readings_of (apply a.reaction.transaction m)) a.reaction.state y) (sym D.kv)
      (subst (λ (k : ℕ). HasCause k a.at (readings_of (apply a.reaction.transaction (w.store a.rank))) a.reaction.state y) (count_is ms w next R a D) h))))

  -- one that a ROUTE brought
  brought : (r : Replied) → r.rank ≡ a.rank → IsRouted a.input r.reply → IsCaused ms steps (answer r)
  brought r rank C =
      let there : Contains w.messages (record { to = a.rank; message = C.message }) = arrived w D.plain a.rank a.at C.message (subst (λ (c : Input). arrival w D.plain ≡ Some (record { rank = a.rank; at = a.at; input = c })) C.is D.there) in
      let sent : IfRoute ms earlier a.rank C.message.body = of_all (λ (e : Envelope). IfRoute ms earlier e.to e.message.body) w.messages K.routes (record { to = a.rank; message = C.message }) there in
      let by : IsRoutedFor ms earlier a.rank r.reply = subst (IfRoute ms earlier a.rank) C.says sent in
      record {
        later = s ∷ by.later;
        step = by.step;
        earlier = by.earlier;
        is = ap (λ (xs : List Step). s ∷ xs) by.is;
        reacted = by.reacted;
        cause = inr (subst (λ (i : ℕ). Routes by.reacted.reaction i r.reply) (sym rank) by.routes, by.cause);
      }

  new_reply : (r : Replied) → r.rank ≡ a.rank → HasCause a.me.member.monitors a.at reads a.reaction.state r.reply ⊎ IsRouted a.input r.reply → IsCaused ms steps (answer r)
  new_reply r rank (inl h) = record { later = []; step = s; earlier = earlier; is = refl; reacted = F.reacted; cause = inl (F.rank ∙ sym rank, own r.reply h) }
  new_reply r rank (inr C) = brought r rank C

  new_replies : (event : ℕ) (m : Store) (sends : List Sent) → AllByRecursion (IsForCause a.me.member.monitors a.at a.input reads a.reaction.state) sends → AllByRecursion (λ (r : Replied). IsCaused ms steps (answer r)) (replies_of event a.rank m sends)
  new_replies event m [] k = tt
  new_replies event m (sent.Message to x ∷ sends) k = new_replies event m sends k.1
  new_replies event m (sent.Reply t y ∷ sends) k = (new_reply (record { event = event; rank = a.rank; epoch = epoch_of (readings_of m); last = last_of m; session = t; reply = y }) refl k.0, new_replies event m sends k.1)

  new_route : (to : ℕ) (x : Message) → Contains a.reaction.sends (sent.Message to x) → (b : Body) → x.body ≡ b → RoutesForCause a.reaction.state b → IfRoute ms steps to b
  new_route to x c (body.Route seq y) e k =
      let routes : Routes a.reaction to y = record { message = x; among = c; seq = seq; says = e } in
      record {
        later = [];
        step = s;
        earlier = earlier;
        is = refl;
        reacted = F.reacted;
        routes = subst (λ (r : Reaction). Routes r to y) (sym F.reaction) routes;
        cause = subst (λ (r : Reaction). HasCauseToRoute r.state y) (sym F.reaction) k;
      }
  new_route to x c other e k = tt

  new_routes : (sends : List Sent) → ((x : Sent) → Contains sends x → Contains a.reaction.sends x) → AllByRecursion (IsForCause a.me.member.monitors a.at a.input reads a.reaction.state) sends → AllByRecursion (λ (e : Envelope). IfRoute ms steps e.to e.message.body) (messages_of sends)
  new_routes [] among k = tt
  new_routes (sent.Message to x ∷ sends) among k = (new_route to x (among (sent.Message to x) (contains_first (sent.Message to x) sends)) x.body refl k.0, new_routes sends (λ y c. among y (contains_later (sent.Message to x) sends y c)) k.1)
  new_routes (sent.Reply t y ∷ sends) among k = new_routes sends (λ z c. among z (contains_later (sent.Reply t y) sends z c)) k.1

  pub now_caused : AllCaused ms steps next
  now_caused =
      let old = all_on ms s earlier w K in
      let all = all_for_cause ms w next R a D in
      record {
        replies = subst (AllByRecursion (λ (r : Replied). IsCaused ms steps (answer r))) (sym D.replied)
            (all_append (λ (r : Replied). IsCaused ms steps (answer r)) w.replied (replies_of (suc w.events) a.rank (map_after w a.rank a.reaction) a.reaction.sends) old.replies (new_replies (suc w.events) (map_after w a.rank a.reaction) a.reaction.sends all));
        routes = subst (AllByRecursion (λ (e : Envelope). IfRoute ms steps e.to e.message.body)) (sym D.messages)
            (all_append (λ (e : Envelope). IfRoute ms steps e.to e.message.body) w.messages (messages_of a.reaction.sends) old.routes (new_routes a.reaction.sends (λ x c. c) all));
      }

-- what an event does, by the act of its step
by_act : (ms : Monitors) (s : Step) (earlier : List Step) (w next : World) → Reached ms w → AllCaused ms earlier w → (act : Option Act) → act_at (network ms earlier) s (me_of ms s.rank) ≡ act → DoesSo ms w next act → AllCaused ms (s ∷ earlier) next
by_act ms s earlier w next R K None is D =
    let old = all_on ms s earlier w K in
    record {
      replies = subst (AllByRecursion (λ (r : Replied). IsCaused ms (s ∷ earlier) (answer r))) (sym D.0) old.replies;
      routes = subst (AllByRecursion (λ (e : Envelope). IfRoute ms (s ∷ earlier) e.to e.message.body)) (sym D.1) old.routes;
    }
by_act ms s earlier w next R K (Some a) is D = now_caused ms s earlier w next R K a D (is_act ms (network ms earlier) s a is)

-- ---- a network's causes

module _ (ms : Monitors) (olds more : List Asked) (acks added : List Acknowledgement) (leads led : List Leadership) (before : List Posted) (old net : Network) (S : Stands assembly ms olds acks leads old) where
  on_step : (s : Step) (earlier : List Step) → AllCaused ms earlier S.w → (act : Option Act) → act_at (network ms earlier) s (me_of ms s.rank) ≡ act → (N : Next assembly ms more added led act before S.inv.ls net S.w)
      → AllCaused ms (s ∷ earlier) (stands_next assembly ms olds more acks added leads led before old net S N).w
  unfolding stands_next
  on_step s earlier K act is (Still sent unasked none nobody idle I same) = all_on ms s earlier S.w K
  on_step s earlier K act is (Moved M) = by_act ms s earlier S.w M.world S.reach K act is M.did

pub all_caused : (ms : Monitors) (steps : List Step) (may : AllMay ms steps) → AllCaused ms steps (stands assembly ms (facts ms) steps may).w
unfolding network AllMay requests acknowledgements leaderships stands stands_first
all_caused ms [] may = record { replies = tt; routes = tt }
all_caused ms (s ∷ earlier) may =
    let old : Network = network ms earlier in
    let S = stands assembly ms (facts ms) earlier may.0 in
    on_step ms (requests ms earlier) (asked_by old s (me_of ms s.rank)) (acknowledgements ms earlier) (acknowledged_at old s (me_of ms s.rank)) (leaderships ms earlier) (led_at old s (me_of ms s.rank)) old.sent old (after_step ms old s) S s earlier
    (all_caused ms earlier may.0) (act_at old s (me_of ms s.rank)) refl (step_next assembly ms (facts ms) old S.w S.reach S.inv s may.1)

-- the same of the answers
pub answers_caused : (ms : Monitors) (steps : List Step) (may : AllMay ms steps) → AllByRecursion (IsCaused ms steps) (map answer (stands assembly ms (facts ms) steps may).w.replied)
answers_caused ms steps may =
    let S = stands assembly ms (facts ms) steps may in
    let K = all_caused ms steps may in
    all_image answer (IsCaused ms steps) S.w.replied K.replies
