-- What one monitor shows and acknowledges isn't above what it has, and not below what it showed before.
use Rattle.law_names.proofs.Runs.{Acknowledged, Asked, Envelope, Monitors, Replied, World, acknowledgement, acknowledgements_of, done_by, done_in, last_of, messages_of, put_at, replies_of}
use Rattle.law_names.proofs.Table.{AllByRecursion, Body, Change, Command, Course, Input, Leader, Me, Origin, Phase, Readings, Reply, Request, Sent, Session, State, Store, Waiting, apply, encoded, epoch_of, is_leading, is_member, joined, lease_of, played, readable, readings_of, same_phase, shared_entries, since, text, value, votes}
use Rattle.mon_msg.specs.declared.clients.Asked as waiting
use Rattle.mon_msg.specs.declared.input.Input.TheVariants as input
use Rattle.mon_msg.specs.declared.plan.Sent.TheVariants as sent
use Rattle.mon_wire.specs.declared.body.Body.TheVariants as body
use Rattle.mon_wire.specs.declared.phase.Phase.TheVariants as phase
use Rattle.mon_wire.specs.declared.request.Request.TheVariants as request
use Rattle.quorum_agreement.proofs.Acknowledging.{NoShow, NoShowBody, NoShowSent, answer_shows_nothing, no_acks, no_routes_show, one_ack, plain_acks, plain_shows_nothing}
use Rattle.quorum_agreement.proofs.Answering.{AtOnce, BodyKnown, Completes, InputKnown, IsRead, Lead, Outcome, RequestKnown, answers, peon_leads_not}
use Rattle.quorum_agreement.proofs.Held.{Still, last_is, level_at}
use Rattle.quorum_answers.proofs.Ordering.{AllPairs, pairs_grow, pairs_of}
use Rattle.quorum_answers.proofs.Replies.{shows_not, shows_nothing_done, since_shows}
use Rattle.quorum_answers.proofs.Saying.{has_answers}
use Rattle.quorum_answers.specs.Reads.{EachOnward, NoOlder, Shows}
use Rattle.quorum_history.proofs.Holds.{core_of, epoch_in, level_in}
use Rattle.quorum_history.proofs.Numbers.{level_is}
use Rattle.quorum_history.proofs.Phases.{no, votes_unmarked}
use Rattle.quorum_laws.proofs.Events.{Does, ToldOf, ended, member_of, same, shares}
use Rattle.quorum_laws.proofs.Invariant.{InvOf, InvWith}
use Rattle.quorum_laws.proofs.Later.{Later}
use Rattle.quorum_laws.proofs.Reading.{state_holds}
use Rattle.quorum_walk.proofs.FineCourses.{Ended, Fit, begun}
use Rattle.quorum_walk.proofs.Lists.{all_append, all_map, all_of}
use Rattle.quorum_walk.proofs.Sparing.{Own, learned_own, own_of}
use Rattle.quorum_walk.proofs.Walk.{Then}
use Rattle.std.proofs.Common.{Bool, List, None, Some, [], ap, arith, cond, eqb, false, filter, inl, inr, refl, subst, suc, sym, true, ℕ, ◌++◌, ◌<◌, ◌||◌, ◌∙◌, ◌∷◌, ◌≡◌, ◌≤◌, ◌⊎◌}
use Rattle.std.proofs.lemmas.Bool.{eqb-true}

-- ---- what this proof needs of commands, ROUTEs, votes and requests

abbrev pub AnyFrom : ℕ → Command → Origin → Type 0
AnyFrom e c o = Unit {0}

abbrev pub NoRoute : (f e seq : ℕ) → Reply → Type 0
NoRoute f e seq r = NoShow r

abbrev pub AnyVote : (f pn v : ℕ) → Type 0
AnyVote f pn v = Unit {0}

abbrev pub AnyLook : Session → Request → Type 0
AnyLook t r = Unit {0}

lead_before : (me : Me) (now : ℕ) (r : Readings) (s : State) (p : Phase) → s.phase ≡ p → Still p s.leader → Lead me now r s AnyFrom NoRoute AnyVote AnyLook p s.leader (epoch_of r)
lead_before me now r s phase.Collecting e k = k
lead_before me now r s phase.Previous e k = k
lead_before me now r s phase.Updating e k = inl (record { epoch = refl; updating = e; origin = refl; proposes = refl; number = refl })
lead_before me now r s other e k = tt

still_of : (me : Me) (now : ℕ) (r : Readings) (s : State) (p : Phase) (l : Leader) (e : ℕ) → Lead me now r s AnyFrom NoRoute AnyVote AnyLook p l e → Still p l
still_of me now r s phase.Collecting l e k = k
still_of me now r s phase.Previous l e k = k
still_of me now r s other l e k = tt

-- ---- what was said

abbrev pub Quiet : Envelope → Type 0
Quiet e = NoShowBody e.message.body

-- a reply of one of n monitors, which has the version that the reply shows
pub record IsBelow (n : ℕ) (w : World) (r : Replied) : Type 0 where
  pub event : r.event ≤ w.events
  pub below : r.rank < n
  pub last : Shows r.reply → r.last ≤ level_at w r.rank

-- one of n monitors has the acknowledged version
pub record IsHad (n : ℕ) (w : World) (a : Acknowledged) : Type 0 where
  pub event : a.event ≤ w.events
  pub rank : ℕ
  pub below : rank < n
  pub level : a.what.version ≤ level_at w rank

pub record Onward (n : ℕ) (w : World) : Type 0 where
  pub still : (i : ℕ) (s : State) → w.state i ≡ Some s → Still s.phase s.leader
  pub quiet : AllByRecursion Quiet w.messages
  pub replied : AllByRecursion (IsBelow n w) w.replied
  pub acknowledged : AllByRecursion (IsHad n w) w.acknowledged
  pub order : EachOnward w

abbrev level_of : Store → ℕ
level_of z = level_in (own_of (readings_of z))

-- ---- what lasts

below_lasts : (n : ℕ) (w next : World) → w.events ≤ next.events → Later w next → (r : Replied) → IsBelow n w r → IsBelow n next r
below_lasts n w next le L r k = record { event = (let e = k.event in omega arith); below = k.below; last = λ t. let a = k.last t in let b = (L.each r.rank).level in omega arith }

had_lasts : (n : ℕ) (w next : World) → w.events ≤ next.events → Later w next → (a : Acknowledged) → IsHad n w a → IsHad n next a
had_lasts n w next le L a k = record { event = (let e = k.event in omega arith); rank = k.rank; below = k.below; level = (let h = k.level in let b = (L.each k.rank).level in omega arith) }

-- a reply of this event, of this monitor; if it shows something, its last version is that of the store
pub record IsNew (event rank last : ℕ) (r : Replied) : Type 0 where
  pub event_is : r.event ≡ event
  pub rank_is : r.rank ≡ rank
  pub last_is : Shows r.reply → r.last ≡ last

quiet_new : (event rank last : ℕ) (m : Store) (sends : List Sent) → AllByRecursion NoShowSent sends → AllByRecursion (IsNew event rank last) (replies_of event rank m sends)
quiet_new event rank last m [] k = tt
quiet_new event rank last m (sent.Message to x ∷ sends) k = quiet_new event rank last m sends k.1
quiet_new event rank last m (sent.Reply t y ∷ sends) k = (record { event_is = refl; rank_is = refl; last_is = λ t. absurd (shows_not y k.0 t) }, quiet_new event rank last m sends k.1)

-- nothing is said
pub same_replies : (n : ℕ) (w next : World) → w.events ≤ next.events → Later w next → ((i : ℕ) (s : State) → next.state i ≡ Some s → Still s.phase s.leader) → next.messages ≡ w.messages → next.replied ≡ w.replied → next.acknowledged ≡ w.acknowledged → Onward n w → Onward n next
same_replies n w next le L still m r a O = record {
  still = still;
  quiet = subst (AllByRecursion Quiet) (sym m) O.quiet;
  replied = subst (AllByRecursion (IsBelow n next)) (sym r) (all_map (IsBelow n w) (IsBelow n next) (below_lasts n w next le L) w.replied O.replied);
  acknowledged = subst (AllByRecursion (IsHad n next)) (sym a) (all_map (IsHad n w) (IsHad n next) (had_lasts n w next le L) w.acknowledged O.acknowledged);
  order = subst (λ (rs : List Replied). AllPairs (λ a b. a.rank ≡ b.rank → NoOlder a b) rs rs) (sym r) O.order;
}

pub put_cases : {A : Type 0} (f : ℕ → A) (i : ℕ) (a : A) (j : ℕ) (b : A) → put_at f i a j ≡ b → ((j ≡ i) × (a ≡ b)) ⊎ (f j ≡ b)
put_cases f i a j b e = by (eqb j i) refl e
  where
    by : (t : Bool) → eqb j i ≡ t → cond t a (f j) ≡ b → ((j ≡ i) × (a ≡ b)) ⊎ (f j ≡ b)
    by true q e = inl (eqb-true j i q, e)
    by false q e = inr e

-- replies and acknowledgements of one event, with those before
module _ (n : ℕ) (w next : World) (rank : ℕ) (below : rank < n) (new : List Replied) (later : next.events ≡ suc w.events) (L : Later w next) (are : next.replied ≡ w.replied ++ new)
    (N : AllByRecursion (IsNew next.events rank (level_at next rank)) new) (O : Onward n w) where
  abbrev OfRank : Replied → Replied → Type 0
  OfRank a b = a.rank ≡ b.rank → NoOlder a b

  abbrev New : Replied → Type 0
  New = IsNew next.events rank (level_at next rank)

  new_below : (r : Replied) → New r → IsBelow n next r
  new_below r k = record {
    event = (let e = k.event_is in omega arith);
    below = subst (λ (i : ℕ). i < n) (sym k.rank_is) below;
    last = λ t. let e = k.last_is t in subst (λ (i : ℕ). r.last ≤ level_at next i) (sym k.rank_is) (omega arith);
  }

  old_new : (a : Replied) → IsBelow n w a → (b : Replied) → New b → OfRank a b
  old_new a k b z e s t le =
      let x = (below_lasts n w next (omega arith) L a k).last s in
      let y = z.last_is t in
      let u = subst (λ (i : ℕ). a.last ≤ level_at next i) (e ∙ z.rank_is) x in
      omega arith

  new_old : (a : Replied) → New a → (b : Replied) → IsBelow n w b → OfRank a b
  new_old a z b k e s t le = let x = k.event in let y = z.event_is in absurd (omega arith)

  new_new : (a : Replied) → New a → (b : Replied) → New b → OfRank a b
  new_new a z b k e s t le = let x = z.last_is s in let y = k.last_is t in omega arith

  pub more_replies : ((i : ℕ) (s : State) → next.state i ≡ Some s → Still s.phase s.leader) → AllByRecursion Quiet next.messages → (acks : List Acknowledged) → next.acknowledged ≡ w.acknowledged ++ acks → AllByRecursion (IsHad n next) acks → Onward n next
  more_replies still quiet acks e A = record {
    still = still;
    quiet = quiet;
    replied = subst (AllByRecursion (IsBelow n next)) (sym are) (all_append (IsBelow n next) w.replied new (all_map (IsBelow n w) (IsBelow n next) (below_lasts n w next (omega arith) L) w.replied O.replied) (all_map New (IsBelow n next) new_below new N));
    acknowledged = subst (AllByRecursion (IsHad n next)) (sym e) (all_append (IsHad n next) w.acknowledged acks (all_map (IsHad n w) (IsHad n next) (had_lasts n w next (omega arith) L) w.acknowledged O.acknowledged) A);
    order = subst (λ (rs : List Replied). AllPairs OfRank rs rs) (sym are) (pairs_grow OfRank w.replied new w.replied new O.order (pairs_of OfRank (IsBelow n w) New old_new w.replied new O.replied N)
        (all_map New _ (λ a k. all_append (OfRank a) w.replied new (all_map (IsBelow n w) (OfRank a) (new_old a k) w.replied O.replied) (all_map New (OfRank a) (new_new a k) new N)) new N));
  }

-- ---- an event

pub member_votes : (p : Phase) → is_member p ≡ true → votes p ≡ true
member_votes p e = ap (λ (b : Bool). b || same_phase p phase.Electing) e

pub answers_vote : (p : Phase) → has_answers p ≡ true → votes p ≡ true
answers_vote phase.Previous t = refl
answers_vote phase.Active t = refl
answers_vote phase.Updating t = refl
answers_vote other t = no t

module _ (ms : Monitors) (w : World) (I : InvOf ms w) (O : Onward ms.count w) (asked : List Asked) (J : InvWith ms w asked) (d : Does ms w Quiet asked J) where
  abbrev pub rank : ℕ
  rank = d.by.rank

  abbrev pub me : Me
  me = member_of ms d.by.rank d.by.lt

  abbrev pub s : State
  s = d.by.state

  abbrev pub w0 : Readings
  w0 = readings_of (w.store d.by.rank)

  abbrev pub m : Store
  m = apply (joined (encoded d.y.changes)) (w.store d.by.rank)

  abbrev pub Says : Course → Type 0
  Says = Outcome me d.by.at w0 s AnyFrom NoRoute AnyVote AnyLook

  pub read : readings_of m ≡ d.y.readings
  read = same w.store w.state w.transactions w.messages w.active asked me J d.by.at d.by.state d.by.came d.by.on d.by.fits d.by.holds (d.by.fine (shares w.store w.state w.transactions w.messages w.active asked me J d.by.at)) d.y d.is

  fine : Ended (begun me w0 s d.by.came) d.y
  fine = ended w.store w.state w.transactions w.messages w.active asked me J d.by.at d.by.state d.by.came d.by.on d.by.fits d.by.holds (d.by.fine (shares w.store w.state w.transactions w.messages w.active asked me J d.by.at)) d.y d.is

  still_before : Still s.phase s.leader
  still_before = elim d.by.remembers [ inl e ↦ O.still rank s e | inr e ↦ subst (λ (z : State). Still z.phase z.leader) (sym e) tt ]

  lead : Lead me d.by.at w0 s AnyFrom NoRoute AnyVote AnyLook s.phase s.leader (epoch_of w0)
  lead = lead_before me d.by.at w0 s s.phase refl still_before

  any_queue : (qs : List Waiting) → AllByRecursion (λ (q : Waiting). AnyFrom (epoch_of w0) q.command q.origin) qs
  any_queue [] = tt
  any_queue (q ∷ qs) = (tt, any_queue qs)

  known : (came : Input) → ToldOf Quiet rank came → InputKnown me d.by.at w0 s AnyFrom NoRoute AnyVote AnyLook lead came
  known (input.Deliver e) t = by e.body t
    where
      by : (b : Body) → NoShowBody b → BodyKnown me d.by.at w0 s AnyFrom NoRoute AnyVote AnyLook lead e.from e.epoch b
      by (body.Forward seq c) k = tt
      by (body.Route seq r) k = k
      by (body.Accept pn v) k = tt
      by b k = tt
  known (input.Client t r) k = by r
    where
      by : (r : Request) → RequestKnown me d.by.at w0 s AnyFrom NoRoute AnyVote AnyLook lead t r
      by (request.Set key value) = tt
      by (request.Remove key) = tt
      by (request.Log text) = tt
      by (request.Show v) = tt
      by (request.Since v z) = tt
  known other k = tt

  pub says : Says d.y
  says = (subst (Then Says) d.is (answers me d.by.at w0 s AnyFrom NoRoute AnyVote AnyLook lead (λ t. any_queue s.clients.queue) (shared_entries (w.store rank)) d.by.came (known d.by.came d.by.told))).holds

  still_after : Still d.y.state.phase d.y.state.leader
  still_after = by says
    where
      by : Says d.y → Still d.y.state.phase d.y.state.leader
      by (inl C) = still_of me d.by.at w0 s d.y.state.phase d.y.state.leader (epoch_of d.y.readings) C.lead
      by (inr (inl A)) = subst (λ (p : Phase). Still p d.y.state.leader) (sym A.active) tt
      by (inr (inr (inl R))) = subst (λ (z : Course). Still z.state.phase z.state.leader) (sym R.is) still_before
      by (inr (inr (inr H))) = subst (λ (p : Phase). Still p d.y.state.leader) (sym H.in_phase) (subst (Still s.phase) (sym H.same) still_before)

  pub stills : (i : ℕ) (z : State) → put_at w.state rank (Some d.y.state) i ≡ Some z → Still z.phase z.leader
  stills i z e = elim (put_cases w.state rank (Some d.y.state) i (Some z) e) [ inl q ↦ (let p : Some d.y.state ≡ Some z = q.1 in let r : d.y.state ≡ z = cc in subst (λ (u : State). Still u.phase u.leader) r still_after) | inr q ↦ O.still i z q ]

  -- who votes had its store before, and no copy of another's
  pub voted : votes s.phase ≡ true → w.state rank ≡ Some s
  voted t = elim d.by.remembers [ inl e ↦ e | inr e ↦ no (ap (λ (z : State). votes z.phase) (sym e) ∙ t) ]

  pub unmarked : votes s.phase ≡ true → w0.marked ≡ false
  unmarked t = votes_unmarked ms.count I.g rank (core_of (own_of w0) s) s.phase t (state_holds ms w I rank s (voted t))

  -- ---- what it shows

  -- its own store
  pub record Showing : Type 0 where
    pub session : Session
    pub reply : Reply
    pub out : d.y.out ≡ sent.Reply session reply ∷ []
    pub same_read : readings_of m ≡ w0
    pub member : is_member s.phase ≡ true
    pub readable : readable w0.last ms.count (lease_of s) d.by.at ≡ true

  pub shows : AllByRecursion NoShowSent d.y.out ⊎ Showing
  shows = by says
    where
      by : Says d.y → AllByRecursion NoShowSent d.y.out ⊎ Showing
      by (inl C) = inl (plain_shows_nothing d.y.out C.out)
      by (inr (inl A)) = inl (subst (AllByRecursion NoShowSent) (sym A.out) (all_append NoShowSent A.plain _ (plain_shows_nothing A.plain A.all) (answer_shows_nothing me (epoch_of d.y.readings) A.origin (suc w0.last))))
      by (inr (inr (inl R))) = inr (record { session = R.session; reply = R.reply; out = R.out; same_read = read ∙ ap (λ (y : Course). y.readings) R.is; member = R.member; readable = R.readable })
      by (inr (inr (inr H))) = inl (subst (AllByRecursion NoShowSent) (sym H.out) (all_of NoShowSent (λ (a : waiting.Asked). sent.Reply a.session H.reply) (λ a. H.known) (filter (λ (a : waiting.Asked). eqb a.seq H.seq) s.clients.sessions)))

  pub quiet_out : AllByRecursion Quiet (messages_of d.y.out)
  quiet_out = by shows
    where
      by : AllByRecursion NoShowSent d.y.out ⊎ Showing → AllByRecursion Quiet (messages_of d.y.out)
      by (inl k) = no_routes_show d.y.out k
      by (inr S) = subst (λ (o : List Sent). AllByRecursion Quiet (messages_of o)) (sym S.out) tt

  -- what it replies
  module _ (next : World) (store : next.store rank ≡ m) where
    stored : (S : Showing) → level_at next rank ≡ last_of m
    stored S =
        ap (λ (z : Store). level_of z) store ∙ ap (λ (r : Readings). level_in (own_of r)) S.same_read ∙ level_is (own_of w0) (unmarked (member_votes s.phase S.member)) ∙ ap (λ (r : Readings). r.last) (sym S.same_read) ∙ last_is m

    pub new_replies : (event : ℕ) → AllByRecursion (IsNew event rank (level_at next rank)) (replies_of event rank m d.y.out)
    new_replies event = by shows
      where
        by : AllByRecursion NoShowSent d.y.out ⊎ Showing → AllByRecursion (IsNew event rank (level_at next rank)) (replies_of event rank m d.y.out)
        by (inl k) = quiet_new event rank (level_at next rank) m d.y.out k
        by (inr S) = subst (λ (o : List Sent). AllByRecursion (IsNew event rank (level_at next rank)) (replies_of event rank m o)) (sym S.out) (record { event_is = refl; rank_is = refl; last_is = λ t. sym (stored S) }, tt)

  -- ---- what it acknowledges

  -- the version that it commits
  pub record Acking (event : ℕ) : Type 0 where
    pub acks : acknowledgements_of event m d.y.state d.y.out ≡ acknowledgement event m d.y.state (suc w0.last) ∷ []
    pub answered : has_answers s.phase ≡ true
    pub active : d.y.state.phase ≡ phase.Active
    pub epoch : epoch_of (readings_of m) ≡ epoch_of w0
    pub last : (readings_of m).last ≡ suc w0.last

  pub acking : (event : ℕ) → (acknowledgements_of event m d.y.state d.y.out ≡ []) ⊎ Acking event
  acking event = by says
    where
      none : (b : Bool) (r : Reply) → done_in r ≡ None → cond b (done_in r) None ≡ None
      none true r k = k
      none false r k = refl

      no_done : (t : Session) (r : Reply) → IsRead me d.by.at w0 s AnyFrom NoRoute AnyVote AnyLook t r → done_in r ≡ None
      no_done t r (inl k) = ap done_in k.2
      no_done t r (inr k) = ap done_in k.3 ∙ shows_nothing_done (since w0 k.0 k.1) (since_shows w0 k.0 k.1)

      by : Says d.y → (acknowledgements_of event m d.y.state d.y.out ≡ []) ⊎ Acking event
      by (inl C) = inl (plain_acks event m d.y.state d.y.out C.out)
      by (inr (inl A)) = inr (record {
        acks = ap (acknowledgements_of event m d.y.state) A.out ∙ one_ack event m d.y.state me A.plain (epoch_of d.y.readings) A.origin (suc w0.last) A.all (ap is_leading A.active);
        answered = leads A.how;
        active = A.active;
        epoch = ap epoch_of read ∙ same_epoch;
        last = ap (λ (r : Readings). r.last) read ∙ A.last;
      })
        where
          leads : Completes me d.by.at w0 s AnyFrom NoRoute AnyVote AnyLook A.origin A.ops ⊎ AtOnce me d.by.at w0 s AnyFrom NoRoute AnyVote AnyLook A.origin A.ops → has_answers s.phase ≡ true
          leads (inl C) = elim C.in_phase [ inl e ↦ ap has_answers e | inr e ↦ ap has_answers e ]
          leads (inr B) = ap has_answers B.active

          same_epoch : epoch_of d.y.readings ≡ epoch_of w0
          same_epoch =
              let f = subst (AllByRecursion Fit) A.changes fine.fits in
              ap epoch_of (fine.tells ∙ ap (λ (cs : List Change). played cs w0) A.changes) ∙ ap (λ (o : Own). epoch_in o) (learned_own (suc w0.last) (A.ops ∷ []) w0 (f.0, tt))
      by (inr (inr (inl R))) = inl (ap (acknowledgements_of event m d.y.state) R.out ∙ no_acks event m d.y.state (sent.Reply R.session R.reply ∷ []) (none (is_leading d.y.state.phase) R.reply (no_done R.session R.reply R.read), tt))
      by (inr (inr (inr H))) = inl (ap (acknowledgements_of event m d.y.state) H.out
          ∙ no_acks event m d.y.state _ (all_of (λ (x : Sent). done_by d.y.state x ≡ None) (λ (a : waiting.Asked). sent.Reply a.session H.reply)
          (λ a. ap (λ (b : Bool). cond b (done_in H.reply) None) (ap is_leading H.in_phase ∙ peon_leads_not s.phase H.peon)) (filter (λ (a : waiting.Asked). eqb a.seq H.seq) s.clients.sessions)))
