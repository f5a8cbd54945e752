-- A request that is answered otherwise than by Done makes no version.
use Rattle.law_names.proofs.Runs.{Asked, Envelope, Monitors, Plain, Replied, World, command_of, messages_of, replies_of, with_asked}
use Rattle.law_names.proofs.Table.{AllByRecursion, Body, Command, Input, Me, Op, Origin, Readings, Sent, Session, State, Store, answer_to, epoch_of, readings_of}
use Rattle.mon_msg.specs.declared.input.Input.TheVariants as input
use Rattle.mon_msg.specs.declared.plan.Origin.TheVariants as origin
use Rattle.mon_msg.specs.declared.plan.Sent.TheVariants as sent
use Rattle.mon_wire.specs.declared.body.Body.TheVariants as body
use Rattle.quorum_agreement.proofs.Answered.{asker}
use Rattle.quorum_agreement.proofs.LoneWorlds.{IsWhole}
use Rattle.quorum_agreement.proofs.Result.{OneLog}
use Rattle.quorum_commands.proofs.Coming.{Does, me, phase_holds}
use Rattle.quorum_commands.proofs.Exchange.{Alike, at_second, exchanged, only_one, other_is, second_is, tickets_exchanged}
use Rattle.quorum_commands.proofs.Idle.{BodyReturns}
use Rattle.quorum_commands.proofs.Places.{AskedAt, IsSettled, Nowhere, Places, StillAt, Tickets}
use Rattle.quorum_commands.proofs.Sends.{IsCalm, IsCalmBody}
use Rattle.quorum_commands.proofs.Sources.{AskedBy, HasAsker, SettledBy, asks_more, newest_settled}
use Rattle.quorum_commands.proofs.Steps.{Leaves, Refuses, Says, Stills, leaves}
use Rattle.quorum_commands.specs.Unmade.{AcknowledgesNone}
use Rattle.quorum_history.proofs.History.{Ghost, Handed, hand}
use Rattle.quorum_history.proofs.Holds.{FollowsIn, InPhase, IsHanded, core_of}
use Rattle.quorum_history.proofs.Phases.{peon_is_peon}
use Rattle.quorum_laws.proofs.Invariant.{Further, InvOf}
use Rattle.quorum_laws.proofs.Meetings.{sent_known}
use Rattle.quorum_model.proofs.Happening.{Brought}
use Rattle.quorum_walk.proofs.Lists.{all_among, all_map}
use Rattle.quorum_walk.proofs.Sparing.{own_of}
use Rattle.std.proofs.Common.{List, Option, [], ap, inl, inr, length, subst, sym, ℕ, ◌<◌, ◌∙◌, ◌∷◌, ◌≡◌}
use Rattle.std.proofs.lemmas.Bool.{cases_eq}
use Rattle.std.proofs.lemmas.Option.{slice_get_within}

-- ---- what was answered

-- a ROUTE that acknowledges no version is to a session that is settled
abbrev pub BodyBack : Ghost → (asked : List Asked) → Places → (to e : ℕ) → Body → Type 0
BodyBack g asked places to e (body.Route seq r) = AcknowledgesNone r → (t : Session) × (c : Command) × Handed g to e seq t c × IsSettled asked places to t
BodyBack g asked places to e other = Unit {0}

abbrev pub Back : Ghost → (asked : List Asked) → Places → Envelope → Type 0
Back g asked places x = BodyBack g asked places x.to x.message.epoch x.message.body

abbrev pub IsKnown : (asked : List Asked) → Places → Replied → Type 0
IsKnown asked places r = AcknowledgesNone r.reply → IsSettled asked places r.rank r.session

pub record Answers (g : Ghost) (asked : List Asked) (places : Places) (messages : List Envelope) (replied : List Replied) : Type 0 where
  pub back : AllByRecursion (Back g asked places) messages
  pub known : AllByRecursion (IsKnown asked places) replied

-- ---- it lasts

module _ (asked more : List Asked) (still : StillAt asked more) (places after : Places) (stays : (k : ℕ) → k < length asked → places k ≡ Nowhere → after k ≡ Nowhere) where
  pub settled_lasts : (i : ℕ) (t : Session) → IsSettled asked places i t → IsSettled more after i t
  settled_lasts i t s = record { k = s.k; by = s.by; at = still s.k s.by s.at; rank = s.rank; session = s.session; place = stays s.k (slice_get_within asked s.k s.by s.at) s.place }

  module _ (g h : Ghost) (F : Further g h) where
    back_lasts : (x : Envelope) → Back g asked places x → Back h more after x
    back_lasts x k = by x.message.body k
      where
        by : (b : Body) → BodyBack g asked places x.to x.message.epoch b → BodyBack h more after x.to x.message.epoch b
        by (body.Route seq r) k = λ u. let z = k u in (z.0, z.1, F.hands (hand x.to x.message.epoch seq z.0 z.1) z.2, settled_lasts x.to z.0 z.3)
        by other k = tt

    pub answers_last : (messages : List Envelope) (replied : List Replied) → Answers g asked places messages replied → Answers h more after messages replied
    answers_last messages replied A = record {
      back = all_map (Back g asked places) (Back h more after) back_lasts messages A.back;
      known = all_map (IsKnown asked places) (IsKnown more after) (λ r k u. settled_lasts r.rank r.session (k u)) replied A.known;
    }

-- ---- an event

module _ (ms : Monitors) (w : World) (p : Plain) (I : InvOf ms w) (places : Places) (T : Tickets ms.count places w.store w.state w.transactions w.messages w.asked w.log) (A : Answers I.g w.asked places w.messages w.replied) (d : Does ms w p) where
  abbrev i : ℕ
  i = d.by.rank

  abbrev pub asked : List Asked
  asked = with_asked p w.asked

  abbrev self : Me
  self = me ms w I p d

  abbrev w0 : Readings
  w0 = readings_of (w.store d.by.rank)

  abbrev pub Settled : Session → Type 0
  Settled t = IsSettled asked places d.by.rank t

  returns : (e : ℕ) (b : Body) → BodyBack I.g w.asked places i e b → BodyReturns self d.by.at w0 d.by.state Settled e b
  returns e (body.Route seq r) k = λ u peon now_is a among same.
      let z = k u in
      let follows : FollowsIn I.g i (core_of (own_of w0) d.by.state) = subst (InPhase ms.count I.g i (core_of (own_of w0) d.by.state)) (peon_is_peon d.by.state.phase peon) (phase_holds ms w I p d) in
      let mine = all_among (IsHanded I.g i (epoch_of w0)) a d.by.state.clients.sessions among follows.sessions in
      let theirs = subst (λ (f : ℕ). Handed I.g i f a.seq z.0 z.1) now_is (subst (λ (s : ℕ). Handed I.g i e s z.0 z.1) (sym same) z.2) in
      let hands = I.glob.hands in
      let both = hands.once i (epoch_of w0) a.seq a.session z.0 mine.0 z.1 mine.1 theirs in
      subst (IsSettled asked places i) (sym both.0) (settled_lasts w.asked asked (asks_more p w.asked) places places (λ j lt q. q) i z.0 z.3)
  returns e other k = tt

  pub may_answer : SettledBy ms w p I places T d Settled d.by.came
  may_answer = by d.by.came d.by.brought
    where
      by : (came : Input) → Brought ms w p i came → SettledBy ms w p I places T d Settled came
      by input.Start b = tt
      by (input.Deliver m) b = returns m.epoch m.body (sent_known ms w p d.by w.asked I (Back I.g w.asked places) A.back m b)
      by (input.Timer t) b = tt
      by (input.Client t r) b = newest_settled ms w p I places T d t r b

  module _ (L : OneLog ms w) (W : ms.count ≡ 1 → (i : ℕ) → i < ms.count → IsWhole w.log (w.store i)) where
    abbrev E : Leaves ms w p I L W places T d Settled may_answer
    E = leaves ms w p I L W places T d Settled may_answer

    -- ---- a refusal

    -- the request that the refused session asked takes the place of the one that is refused
    module _ (R : Refuses ms w p I L W places T d Settled may_answer E.after) where
      module _ (j : ℕ) (t : Session) (B : AskedBy ms w p I places T d j t R.command) (same : AskedAt ms.count asked R.k j R.command) where
        abbrev exchanged_places : Places
        exchanged_places = exchanged R.k B.k E.after

        alike : Alike same.by B.asks.by
        alike =
            let u = only_one same.by same.was.by same.was.among in
            let v = only_one B.asks.by B.asks.was.by B.asks.was.among in
            record {
              rank = ap (λ (z : Asked). z.rank) (sym v) ∙ B.asks.was.at ∙ sym same.was.at ∙ ap (λ (z : Asked). z.rank) u;
              command = ap (λ (z : Asked). command_of z.request) (sym v) ∙ B.asks.was.command ∙ sym same.was.command ∙ ap (λ (z : Asked). command_of z.request) u;
            }

        its_settled : IsSettled asked exchanged_places j t
        its_settled =
            let v = only_one B.asks.by B.asks.was.by B.asks.was.among in
            record { k = B.k; by = B.asks.by; at = B.asks.at; rank = ap (λ (z : Asked). z.rank) (sym v) ∙ B.asks.was.at; session = ap (λ (z : Asked). z.session) (sym v) ∙ B.asks.was.session ∙ B.session; place = ap E.after (at_second R.k B.k) ∙ R.place }

        still_settled : (k : ℕ) → k < length w.asked → places k ≡ Nowhere → exchanged_places k ≡ Nowhere
        still_settled k lt e =
            elim (cases_eq k B.k) [
              | inl q ↦ ap E.after (second_is R.k B.k k (R.apart k lt e) q) ∙ R.place
              | inr ne ↦ ap E.after (other_is R.k B.k k (R.apart k lt e) ne) ∙ E.settled k lt e
            ]

        refused_tickets : (store : ℕ → Store) (state : ℕ → Option State) (txs : ℕ → List (List Op)) (messages : List Envelope) (log : List (List ℕ)) → Tickets ms.count E.after store state txs messages asked log → Tickets ms.count exchanged_places store state txs messages asked log
        refused_tickets = tickets_exchanged ms.count asked R.k B.k same.by B.asks.by same.at B.asks.at alike E.after

    -- ---- what is sent

    module _ (h : Ghost) (F : Further I.g h) (event : ℕ) (m : Store) where
      -- of the answers of this event
      abbrev Said : Places → List Sent → Type 0
      Said after out = AllByRecursion (Back h asked after) (messages_of out) × AllByRecursion (IsKnown asked after) (replies_of event d.by.rank m out)

      calm_said : (out : List Sent) → AllByRecursion (IsCalm (Stills ms w p I L W places T d Settled may_answer E.after)) out → Said E.after out
      calm_said [] k = (tt, tt)
      calm_said (sent.Message to x ∷ out) k = let z = calm_said out k.1 in ((by x.body k.0, z.0), z.1)
        where
          by : (b : Body) → IsCalmBody b → BodyBack h asked E.after to x.epoch b
          by (body.Route seq r) k = λ u. absurd (k u)
          by other k = tt
      calm_said (sent.Reply t r ∷ out) k =
          let z = calm_said out k.1 in
          (z.0, ((λ u. (let a = k.0 u in let s = a.0 in record { k = s.k; by = s.by; at = s.at; rank = s.rank; session = s.session; place = a.1 s.k ∙ s.place })), z.1))

    -- ---- what becomes of places

    pub record Becomes (h : Ghost) (event : ℕ) (m : Store) (out : List Sent) : Type 0 where
      pub after : Places
      pub tickets : (store : ℕ → Store) (state : ℕ → Option State) (txs : ℕ → List (List Op)) (messages : List Envelope) (log : List (List ℕ)) → Tickets ms.count E.after store state txs messages asked log → Tickets ms.count after store state txs messages asked log
      pub stays : (k : ℕ) → k < length w.asked → places k ≡ Nowhere → after k ≡ Nowhere
      pub back : AllByRecursion (Back h asked after) (messages_of out)
      pub known : AllByRecursion (IsKnown asked after) (replies_of event d.by.rank m out)

    pub becomes : (h : Ghost) → Further I.g h → (event : ℕ) (m : Store) → Becomes h event m d.y.out
    becomes h F event m = by E.says
      where
        refused : (R : Refuses ms w p I L W places T d Settled may_answer E.after) (o : Origin) → HasAsker ms w p I places T d o R.command → AskedAt ms.count asked R.k (asker i o) R.command → d.y.out ≡ answer_to self (epoch_of w0) o R.reply ∷ []
            → Becomes h event m d.y.out
        refused R (origin.Session t) B same out = record {
          after = exchanged_places R i t B same;
          tickets = refused_tickets R i t B same;
          stays = still_settled R i t B same;
          back = subst (λ (out : List Sent). AllByRecursion (Back h asked (exchanged_places R i t B same)) (messages_of out)) (sym out) tt;
          known = subst (λ (out : List Sent). AllByRecursion (IsKnown asked (exchanged_places R i t B same)) (replies_of event d.by.rank m out)) (sym out) ((λ u. its_settled R i t B same), tt);
        }
        refused R (origin.Forwarded f seq) tie same out = record {
          after = exchanged_places R f tie.0 tie.2 same;
          tickets = refused_tickets R f tie.0 tie.2 same;
          stays = still_settled R f tie.0 tie.2 same;
          back = subst (λ (out : List Sent). AllByRecursion (Back h asked (exchanged_places R f tie.0 tie.2 same)) (messages_of out)) (sym out)
              ((λ u. (tie.0, R.command, F.hands (hand f (epoch_of w0) seq tie.0 R.command) tie.1, its_settled R f tie.0 tie.2 same)), tt);
          known = subst (λ (out : List Sent). AllByRecursion (IsKnown asked (exchanged_places R f tie.0 tie.2 same)) (replies_of event d.by.rank m out)) (sym out) tt;
        }

        as_it_is : Said h F event m E.after d.y.out → Becomes h event m d.y.out
        as_it_is k = record { after = E.after; tickets = λ store state txs messages log T. T; stays = E.settled; back = k.0; known = k.1 }

        by : Says ms w p I L W places T d Settled may_answer E.after → Becomes h event m d.y.out
        by (inl R) = refused R R.origin R.tie R.asks R.out
        by (inr calm) = as_it_is (calm_said h F event m d.y.out calm)
