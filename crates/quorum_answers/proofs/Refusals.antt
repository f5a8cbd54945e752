-- Each refusal is the service's, over the log.
use Rattle.law_names.proofs.Runs.{Acknowledged, Agree, Agrees, AllFit, AllValues, Asked, Envelope, Event, IsKeptIn, Monitors, Plain, PlainFits, Reached, Replied, World, first_world, happens, is_marked, kept_only, last_of, lost, messages_of, moved, plain_of, replies_of, run, run_from, unmoved, with_asked}
use Rattle.law_names.proofs.Table.{AllByRecursion, Body, Command, Contains, Me, Message, Origin, Readings, Reply, Sent, Session, State, Store, apply, encoded, epoch_of, joined, most_text, reaction_of, readings_of, same_phase, text_length, value, votes}
use Rattle.log_model.proofs.Logs.{IsPrefixOf}
use Rattle.mon_bytes.specs.declared.command.CommandRefused.TheVariants as because
use Rattle.mon_msg.specs.declared.input.Input.TheVariants as input
use Rattle.mon_msg.specs.declared.plan.Origin.TheVariants as origin
use Rattle.mon_msg.specs.declared.plan.Sent.TheVariants as sent
use Rattle.mon_wire.specs.declared.body.Body.TheVariants as body
use Rattle.mon_wire.specs.declared.phase.Phase.TheVariants as phase
use Rattle.quorum_agreement.proofs.Every.{agrees, all_values}
use Rattle.quorum_agreement.proofs.Held.{last_is}
use Rattle.quorum_agreement.proofs.Result.{there_marked}
use Rattle.quorum_agreement.proofs.SafeWorlds.{safe}
use Rattle.quorum_agreement.proofs.Worlds.{still_among}
use Rattle.quorum_answers.proofs.Event as event
use Rattle.quorum_answers.proofs.Ordering.{Covered, all_there}
use Rattle.quorum_answers.proofs.Over.{long_refused, value_stored, view_stays}
use Rattle.quorum_answers.proofs.Reached.{log_prefix_next, runs_on}
use Rattle.quorum_answers.proofs.Saying as saying
use Rattle.quorum_answers.proofs.Saying.{NoRefusal}
use Rattle.quorum_answers.proofs.Whole as whole
use Rattle.quorum_answers.specs.Refused.{AllRefused, CoversAll, IsRefusalReply, IsRefused}
use Rattle.quorum_history.proofs.History.{Ghost, Handed, hand}
use Rattle.quorum_history.proofs.Holds.{FollowsIn, InPhase, IsHanded, core_of}
use Rattle.quorum_history.proofs.Phases.{no, peon_is_peon, votes_unmarked}
use Rattle.quorum_laws.proofs.Beginning.{at_first}
use Rattle.quorum_laws.proofs.Events.{After, Does, Keeps, ToldOf, each_event, each_keeps, member_of, same, shares}
use Rattle.quorum_laws.proofs.Invariant.{Further, InvOf, InvWith, further_trans}
use Rattle.quorum_laws.proofs.Reading.{state_holds}
use Rattle.quorum_laws.specs.Accepting.{readings_at}
use Rattle.quorum_laws.specs.Commands.{WasAsked}
use Rattle.quorum_model.proofs.Happening.{of_next, runs_apart}
use Rattle.quorum_model.proofs.Reached.{reached_first, reached_next, world_is}
use Rattle.quorum_walk.proofs.Lists.{Among, all_among, all_append, all_map, among_left}
use Rattle.quorum_walk.proofs.Sparing.{own_of}
use Rattle.std.proofs.Common.{IfOk, List, Ok, Some, [], ap, arith, false, inl, inr, length, refl, subst, sym, true, ℕ, ◌++◌, ◌<◌, ◌^◌, ◌∙◌, ◌∷◌, ◌≡◌, ◌≤◌}
use Rattle.std.proofs.lemmas.Bool.{ltb-true}

-- a ROUTE brings a refusal to a session that handed its command on under this number
pub record IsHandedBack (before w : World) (g : Ghost) (to e seq : ℕ) (r : Reply) : Type 0 where
  pub session : Session
  pub command : Command
  pub handed : Handed g to e seq session command
  pub refused : IsRefused before w to session e r

abbrev pub MayBring : (before w : World) → Ghost → (to e seq : ℕ) → Reply → Type 0
MayBring before w g to e seq r = IsRefusalReply r → IsHandedBack before w g to e seq r

abbrev pub Brings : (before w : World) → Ghost → (to e : ℕ) → Body → Type 0
Brings before w g to e (body.Route seq r) = MayBring before w g to e seq r
Brings before w g to e other = Unit {0}

abbrev pub Back : (before w : World) → Ghost → Envelope → Type 0
Back before w g x = Brings before w g x.to x.message.epoch x.message.body

abbrev pub IsKnown : (before w : World) → Replied → Type 0
IsKnown before w r = IsRefusalReply r.reply → IsRefused before w r.rank r.session r.epoch r.reply

pub record Refusals (before w : World) (g : Ghost) : Type 0 where
  pub known : AllByRecursion (λ (a : Acknowledged). Among a w.acknowledged) before.acknowledged
  pub back : AllByRecursion (Back before w g) w.messages
  pub refused : AllRefused before w

-- ---- what lasts

module _ (before w next : World) (asked : (a : Asked) → Contains w.asked a → Contains next.asked a) (log_prefix : IsPrefixOf w.log next.log) where
  refusal_lasts : (i : ℕ) (t : Session) (e : ℕ) (r : Reply) → IsRefused before w i t e r → IsRefused before next i t e r
  refusal_lasts i t e r k = record {
    asked = k.asked;
    was_asked = asked k.asked k.was_asked;
    rank = k.rank;
    session = k.session;
    command = k.command;
    is = k.is;
    version = k.version;
    within = (let h = k.within in let f = log_prefix.short in omega arith);
    why = k.why;
    refused = ap (λ (v : Readings). value v k.command i) (view_stays w.log next.log log_prefix k.version k.within) ∙ k.refused;
    says = k.says;
    since = k.since;
  }

  module _ (g h : Ghost) (F : Further g h) where
    brings_last : (to e seq : ℕ) (r : Reply) → MayBring before w g to e seq r → MayBring before next h to e seq r
    brings_last to e seq r k u = let z = k u in record { session = z.session; command = z.command; handed = F.hands (hand to e seq z.session z.command) z.handed; refused = refusal_lasts to z.session e r z.refused }

    back_lasts : (x : Envelope) → Back before w g x → Back before next h x
    back_lasts x k = by x.message.body k
      where
        by : (b : Body) → Brings before w g x.to x.message.epoch b → Brings before next h x.to x.message.epoch b
        by (body.Route seq r) k = brings_last x.to x.message.epoch seq r k
        by other k = tt

    -- nothing is said
    refusals_last : next.messages ≡ w.messages → next.replied ≡ w.replied → next.acknowledged ≡ w.acknowledged → Refusals before w g → Refusals before next h
    refusals_last m r a k = record {
      known = subst (λ (xs : List Acknowledged). AllByRecursion (λ (b : Acknowledged). Among b xs) before.acknowledged) (sym a) k.known;
      back = subst (AllByRecursion (Back before next h)) (sym m) (all_map _ _ back_lasts w.messages k.back);
      refused = subst (AllByRecursion (IsKnown before next)) (sym r) (all_map (IsKnown before w) (IsKnown before next) (λ x z u. refusal_lasts x.rank x.session x.epoch x.reply (z u)) w.replied k.refused);
    }

-- a refusal beside an earlier world is also one beside w itself, in which its command was asked already
module _ (before w : World) where
  refusal_old : (i : ℕ) (t : Session) (e : ℕ) (r : Reply) → IsRefused before w i t e r → IsRefused w w i t e r
  refusal_old i t e r k = record {
    asked = k.asked;
    was_asked = k.was_asked;
    rank = k.rank;
    session = k.session;
    command = k.command;
    is = k.is;
    version = k.version;
    within = k.within;
    why = k.why;
    refused = k.refused;
    says = k.says;
    since = inl k.was_asked;
  }

  pub refusals_now : (g : Ghost) → Refusals before w g → Refusals w w g
  refusals_now g k = record {
    known = all_there w.acknowledged;
    back = all_map _ _ (λ x z. by x.to x.message.epoch x.message.body z) w.messages k.back;
    refused = all_map (IsKnown before w) (IsKnown w w) (λ x z u. refusal_old x.rank x.session x.epoch x.reply (z u)) w.replied k.refused;
  }
    where
      by : (to e : ℕ) (b : Body) → Brings before w g to e b → Brings w w g to e b
      by to e (body.Route seq r) k = λ u. let z = k u in record { session = z.session; command = z.command; handed = z.handed; refused = refusal_old to z.session e r z.refused }
      by to e other k = tt

-- ---- what is known of a world that a run reaches

module _ (ms : Monitors) (w : World) (R : Reached ms w) where
  pub agreed : Agree ms.count w
  agreed = subst (Agree ms.count) (world_is ms w R) (agrees ms R.events R.fit)

  pub valued : (length w.log ≤ 2 ^ 62) × AllValues w.log
  valued = subst (λ (v : World). (length v.log ≤ 2 ^ 62) × AllValues v.log) (world_is ms w R) (all_values ms R.events R.fit)

  -- no version was acknowledged that the log doesn't have
  in_log : AllByRecursion (λ (a : Acknowledged). a.what.version ≤ length w.log) w.acknowledged
  in_log = all_map (IsKeptIn ms.count w) _ (λ a k. k.within) w.acknowledged (subst (λ (v : World). AllByRecursion (IsKeptIn ms.count v) v.acknowledged) (world_is ms w R) (let S = safe ms R.events R.fit in let K = S.kept in K.each))

  leads : (i : ℕ) (s : State) → i < ms.count → w.state i ≡ Some s → s.phase ≡ phase.Active → Covered w (epoch_of (readings_at w i)) (readings_at w i).last
  leads = whole.leader_covers ms w (subst (whole.Holds ms) (world_is ms w R) (whole.after_events ms R.events R.fit))

-- ---- an event

module _ (ms : Monitors) (before w : World) (R : Reached ms w) (I : InvOf ms w) (O : Refusals before w I.g) (asked : List Asked) (still_asked : (a : Asked) → Contains w.asked a → Contains asked a) (J : InvWith ms w asked) (up : Further I.g J.g) (d : Does ms w (Back before w I.g) asked J) where
  abbrev rank : ℕ
  rank = d.by.rank

  abbrev me : Me
  me = member_of ms d.by.rank d.by.lt

  abbrev s : State
  s = d.by.state

  abbrev w0 : Readings
  w0 = readings_of (w.store d.by.rank)

  abbrev m : Store
  m = apply (joined (encoded d.y.changes)) (w.store d.by.rank)

  abbrev From : ℕ → Command → Origin → Type 0
  From = event.From ms w asked J (Back before w I.g) d

  abbrev Voted : (f pn v : ℕ) → Type 0
  Voted = event.Voted ms w asked J (Back before w I.g) d

  abbrev Routed : (f e seq : ℕ) → Reply → Type 0
  Routed f e seq r = MayBring before w I.g d.by.rank e seq r

  abbrev Decides : Origin → (f : ℕ) → Reply → Type 0
  Decides = saying.Decides me d.by.at w0 s d.by.came From Routed Voted

  abbrev WhyOf : ℕ → Command → Reply → Type 0
  WhyOf = saying.WhyOf me d.by.at w0 s d.by.came From Routed Voted

  abbrev Hands : Session → Reply → Type 0
  Hands = saying.Hands me d.by.at w0 s d.by.came From Routed Voted

  routes : (x : Message) → d.by.came ≡ input.Deliver x → (seq : ℕ) (r : Reply) → x.body ≡ body.Route seq r → Routed x.from x.epoch seq r
  routes x is seq r says = subst (Brings before w I.g d.by.rank x.epoch) says (subst (ToldOf (Back before w I.g) d.by.rank) is d.by.told)

  outcome : saying.Outcome me d.by.at w0 s d.by.came From Routed Voted d.y
  outcome = event.outcome ms w asked J (Back before w I.g) d Routed routes

  read : readings_of m ≡ d.y.readings
  read = same w.store w.state w.transactions w.messages w.active asked me J d.by.at d.by.state d.by.came d.by.on d.by.fits d.by.holds (d.by.fine (shares w.store w.state w.transactions w.messages w.active asked me J d.by.at)) d.y d.is

  -- a version that covers the acknowledgements of w covers those of `before`
  covers_before : (e v : ℕ) → CoversAll w e v → CoversAll before e v
  covers_before e v k = all_map (λ (a : Acknowledged). Among a w.acknowledged) _ (λ a among. all_among _ a w.acknowledged among k) before.acknowledged O.known

  -- ---- a refusal that is decided here

  module _ (active : s.phase ≡ phase.Active) where
    there : w.state rank ≡ Some s
    there = elim d.by.remembers [ inl e ↦ e | inr e ↦ no (sym (ap (same_phase phase.Booting) active) ∙ ap (λ (z : State). same_phase phase.Booting z.phase) e) ]

    unmarked : w0.marked ≡ false
    unmarked = votes_unmarked ms.count I.g rank (core_of (own_of w0) s) s.phase (ap votes active) (state_holds ms w I rank s there)

    stored : Agrees w.log (w.store rank)
    stored = let A = agreed ms w R in A.monitors rank (ltb-true rank ms.count d.by.lt) (not_marked (w.store rank) unmarked)
      where
        not_marked : (z : Store) → (readings_of z).marked ≡ false → ¬ (is_marked z ≡ true)
        not_marked z e t = no (sym e ∙ there_marked z t)

  module _ (next : World) (h : Ghost) (F : Further J.g h) (asked_are : next.asked ≡ asked) (log_prefix : IsPrefixOf w.log next.log) where
    short : length w.log ≤ length next.log
    short = log_prefix.short

    refused_by : (i : ℕ) (t : Session) (c : Command) (r : Reply) → WasAsked ms.count asked i t c → WhyOf i c r → IsRefused before next i t (epoch_of w0) r
    refused_by i t c r W (inl long) = record {
      asked = W.by;
      was_asked = subst (λ (xs : List Asked). Contains xs W.by) (sym asked_are) W.among;
      rank = W.at;
      session = W.session;
      command = c;
      is = W.command;
      version = length w.log;
      within = short;
      why = because.TooLong (text_length c) (most_text c);
      refused = ap (λ (v : Readings). value v c i) (view_stays w.log next.log log_prefix (length w.log) (omega arith)) ∙ (let V = valued ms w R in long_refused w.log V.0 V.1 c i long.0);
      says = long.1;
      since = inr (covers_before (epoch_of w0) (length w.log) (all_map (λ (a : Acknowledged). a.what.version ≤ length w.log) (λ (a : Acknowledged). a.what.epoch ≡ epoch_of w0 → a.what.version ≤ length w.log) (λ a k e. k) w.acknowledged (in_log ms w R)));
    }
    refused_by i t c r W (inr (active, e, q, is)) = record {
      asked = W.by;
      was_asked = subst (λ (xs : List Asked). Contains xs W.by) (sym asked_are) W.among;
      rank = W.at;
      session = W.session;
      command = c;
      is = W.command;
      version = last_of (w.store rank);
      within = (let A = stored active in let a = A.within in let b = short in omega arith);
      why = e;
      refused = (let A = stored active in let V = valued ms w R in ap (λ (v : Readings). value v c i) (view_stays w.log next.log log_prefix (last_of (w.store rank)) A.within) ∙ value_stored w.log V.0 V.1 (w.store rank) A c i ∙ q);
      says = is;
      since = inr (covers_before (epoch_of w0) (last_of (w.store rank)) (subst (CoversAll w (epoch_of w0)) (last_is (w.store rank)) (let C = leads ms w R rank s (ltb-true rank ms.count d.by.lt) (there active) active in C.writes)));
    }

    decided_here : (t : Session) (r : Reply) → Decides (origin.Session t) (epoch_of w0) r → IsRefused before next rank t (epoch_of w0) r
    decided_here t r D = refused_by rank t D.command r (J.asks rank t D.command D.from) D.why

    routed : (to seq f : ℕ) (r : Reply) → Decides (origin.Forwarded to seq) f r → IsHandedBack before next h to f seq r
    routed to seq f r D =
        let k = D.from in
        let hands = J.glob.hands in
        let W = J.asks to k.0 D.command (hands.asked to (epoch_of w0) seq k.0 D.command k.1) in
        subst (λ (e : ℕ). IsHandedBack before next h to e seq r) (sym D.epoch) (record {
          session = k.0;
          command = D.command;
          handed = F.hands (hand to (epoch_of w0) seq k.0 D.command) k.1;
          refused = refused_by to k.0 D.command r W D.why;
        })

    -- what a peon hands on
    brought : (t : Session) (r : Reply) → IsRefusalReply r → Hands t r → IsRefused before next rank t (epoch_of w0) r
    brought t r u H =
        let z = H.known u in
        let follows : FollowsIn J.g rank (core_of (own_of w0) s) = subst (InPhase ms.count J.g rank (core_of (own_of w0) s)) (peon_is_peon s.phase H.peon) d.by.on in
        let hands = J.glob.hands in
        let k = all_among (IsHanded J.g rank (epoch_of w0)) H.waits s.clients.sessions H.among follows.sessions in
        let theirs = subst (λ (e : ℕ). Handed J.g rank e H.waits.seq z.session z.command) H.now_is (up.hands (hand rank H.epoch H.waits.seq z.session z.command) z.handed) in
        let both = hands.once rank (epoch_of w0) H.waits.seq H.waits.session z.session k.0 z.command k.1 theirs in
        let mine : z.session ≡ t = sym both.0 ∙ H.session in
        subst (λ (e : ℕ). IsRefused before next rank t e r) H.now_is (subst (λ (v : Session). IsRefused before next rank v H.epoch r) mine
        (refusal_lasts before w next (λ a c. subst (λ (xs : List Asked). Contains xs a) (sym asked_are) (still_asked a c)) log_prefix rank z.session H.epoch r z.refused))

    abbrev Founded : Sent → Type 0
    Founded = saying.Founded me d.by.at w0 s d.by.came From Routed Voted

    -- ---- what is said now

    new_refused : AllByRecursion (IsKnown before next) (replies_of next.events rank m d.y.out)
    new_refused = by (saying.calm me d.by.at w0 s d.by.came From Routed Voted d.y outcome)
      where
        none : (out : List Sent) → AllByRecursion NoRefusal out → AllByRecursion (IsKnown before next) (replies_of next.events rank m out)
        none [] k = tt
        none (sent.Message to x ∷ out) k = none out k.1
        none (sent.Reply t r ∷ out) k = ((λ u. absurd (k.0 u)), none out k.1)

        some : epoch_of (readings_of m) ≡ epoch_of w0 → (out : List Sent) → AllByRecursion Founded out → AllByRecursion (IsKnown before next) (replies_of next.events rank m out)
        some e [] k = tt
        some e (sent.Message to x ∷ out) k = some e out k.1
        some e (sent.Reply t r ∷ out) k = ((λ u. subst (λ (f : ℕ). IsRefused before next rank t f r) (sym e) (elim (k.0 u) [ inl D ↦ decided_here t r D | inr H ↦ brought t r u H ])), some e out k.1)

        by : saying.Calm me d.by.at w0 s d.by.came From Routed Voted d.y → AllByRecursion (IsKnown before next) (replies_of next.events rank m d.y.out)
        by (inl k) = none d.y.out k
        by (inr same) = some (ap epoch_of read ∙ same) d.y.out (saying.founded me d.by.at w0 s d.by.came From Routed Voted d.y outcome)

    new_back : AllByRecursion (Back before next h) (messages_of d.y.out)
    new_back = by d.y.out (saying.founded me d.by.at w0 s d.by.came From Routed Voted d.y outcome)
      where
        body_is : (to f : ℕ) (b : Body) → saying.FoundedBody me d.by.at w0 s d.by.came From Routed Voted to f b → Brings before next h to f b
        body_is to f (body.Route seq r) k = λ u. routed to seq f r (k u)
        body_is to f other k = tt

        by : (out : List Sent) → AllByRecursion Founded out → AllByRecursion (Back before next h) (messages_of out)
        by [] k = tt
        by (sent.Message to x ∷ out) k = (body_is to x.epoch x.body k.0, by out k.1)
        by (sent.Reply t r ∷ out) k = by out k.1

-- ---- runs

abbrev pub Holds : Monitors → (before w : World) → Type 0
Holds ms before w = (I : InvOf ms w) × Refusals before w I.g

-- refusals hold in `next`, if the log of w goes on there
abbrev GoesOn : Monitors → (before w next : World) → Type 0
GoesOn ms before w next = IsPrefixOf w.log next.log → Holds ms before next

keeps : (ms : Monitors) (before w : World) (R : Reached ms w) (I : InvOf ms w) (O : Refusals before w I.g) (p : Plain) (J : InvWith ms w (with_asked p w.asked)) → Further I.g J.g → Keeps ms w (Back before w I.g) p J (GoesOn ms before w)
unfolding unmoved moved kept_only lost
keeps ms before w R I O p J up = record {
  nothing = λ f. (let A = K.nothing in (A.0, refusals_last before w (unmoved w p) (still_among p w.asked) f I.g A.0.g (further_trans I.g J.g A.0.g up A.1) refl refl refl O));
  loses = λ i lt f. (let A = K.loses i lt in (A.0, refusals_last before w (lost w p i) (still_among p w.asked) f I.g A.0.g (further_trans I.g J.g A.0.g up A.1) refl refl refl O));
  goes_down = λ d f. (let A = K.goes_down d in (A.0, refusals_last before w (kept_only w p d.by.rank (reaction_of d.y)) (still_among p w.asked) f I.g A.0.g (further_trans I.g J.g A.0.g up A.1) refl refl refl O));
  goes_on = λ d f. (
      let A = K.goes_on d in
      let next = moved w p d.by.rank (reaction_of d.y) in
      let B = new_back ms before w R I O (with_asked p w.asked) (still_among p w.asked) J up d next A.0.g A.1 refl f in
      let N = new_refused ms before w R I O (with_asked p w.asked) (still_among p w.asked) J up d next A.0.g A.1 refl f in (
        A.0,
        record {
          known = all_map (λ (a : Acknowledged). Among a w.acknowledged) _ (λ a k. among_left a w.acknowledged _ k) before.acknowledged O.known;
          back = all_append (Back before next A.0.g) w.messages (messages_of d.y.out) (all_map _ _ (back_lasts before w next (still_among p w.asked) f I.g A.0.g (further_trans I.g J.g A.0.g up A.1)) w.messages O.back) B;
          refused = all_append (IsKnown before next) w.replied _ (all_map (IsKnown before w) (IsKnown before next) (λ x z u. refusal_lasts before w next (still_among p w.asked) f x.rank x.session x.epoch x.reply (z u)) w.replied O.refused) N;
        },
      ));
}
  where
    K : Keeps ms w (Back before w I.g) p J (After ms w (with_asked p w.asked) J)
    K = each_keeps ms w (Back before w I.g) p J

follows : (ms : Monitors) (before w : World) (e : Event) → Reached ms w → PlainFits ms.count (plain_of e) → Holds ms before w → IfOk (happens ms w e) (GoesOn ms before w)
follows ms before w e R F h = let O = h.1 in each_event ms w (Back before w h.0.g) h.0 (GoesOn ms before w) O.back e F (λ J up. keeps ms before w R h.0 h.1 (plain_of e) J up)

at_start : (ms : Monitors) → Holds ms first_world first_world
at_start ms = (at_first ms, record { known = tt; back = tt; refused = tt })

-- the law: events, and others after them
module _ (ms : Monitors) where
  -- of a world that a run reaches
  from_now : (w : World) (later : List Event) → AllFit ms.count later → Reached ms w → Holds ms first_world w → AllRefused w (run_from ms w later)
  from_now w later F R h = let O = (runs_on ms (Holds ms w) (follows ms w) w later F R (h.0, refusals_now first_world w h.0.g h.1)).1 in O.refused

  abbrev Stands : World → Type 0
  Stands w = Reached ms w × Holds ms first_world w

  stands_next : (w : World) (e : Event) → PlainFits ms.count (plain_of e) → Stands w → (next : World) → happens ms w e ≡ Ok next → Stands next
  stands_next w e F h next q = (reached_next ms w next e F q h.0, of_next (GoesOn ms first_world w) (happens ms w e) next q (follows ms first_world w e h.0 F h.1) (log_prefix_next ms w next e F q h.0))

  pub all_refused : (earlier later : List Event) → AllFit ms.count (earlier ++ later) → AllRefused (run ms earlier) (run ms (earlier ++ later))
  all_refused earlier later F = runs_apart ms (λ e. PlainFits ms.count (plain_of e)) Stands stands_next AllRefused later (λ w h F. from_now w later F h.0 h.1) (λ w h. let O = refusals_now first_world w h.1.0.g h.1.1 in O.refused) first_world earlier F (reached_first ms, at_start ms)
