-- What an event of a monitor does to the requests that are under way there.
use Rattle.law_names.proofs.Runs.{Asked, Monitors, Plain, World, with_asked}
use Rattle.law_names.proofs.Table.{AllByRecursion, Body, Change, Clients, Command, Input, Last, Learn, Me, Op, Origin, Readings, Reply, Sent, Session, State, Store, Vote, Waiting, answer_to, asked_of, at_rest, booting, epoch_of, found_as, is_leading, is_member, no_clients, pending_of, readings_of, record_at, shared_entries, text, value, votes}
use Rattle.mon_msg.specs.declared.input.Input.TheVariants as input
use Rattle.mon_msg.specs.declared.plan.Origin.TheVariants as origin
use Rattle.mon_msg.specs.declared.plan.Sent.TheVariants as sent
use Rattle.mon_wire.specs.declared.body.Body.TheVariants as body
use Rattle.mon_wire.specs.declared.phase.Phase.TheVariants as phase
use Rattle.quorum_agreement.proofs.Answered.{asker, asker_is}
use Rattle.quorum_agreement.proofs.Answering.{peon_leads_not}
use Rattle.quorum_agreement.proofs.LoneWorlds.{IsWhole}
use Rattle.quorum_agreement.proofs.Premises.{requests_in}
use Rattle.quorum_agreement.proofs.Result.{OneLog}
use Rattle.quorum_commands.proofs.Coming.{Does, leads_unmarked, me, next, phase_holds, versions}
use Rattle.quorum_commands.proofs.Idle.{Alone, Idle, Leads, SameClients}
use Rattle.quorum_commands.proofs.Places.{AllWait, AskedAt, Begun, Handed, HasOwn, IsAt, IsForwarded, MadeAt, MadeOf, Moves, Nowhere, Place, Places, Queued, StillAt, Tickets, Waits, is_moved, moved_to, moves, own_lasts, wait_last, wait_push, was_there}
use Rattle.quorum_commands.proofs.Sends.{AllFair, HandsNone, IsCalm, IsFair, Nobody, fair_calm}
use Rattle.quorum_commands.proofs.Sources as sources
use Rattle.quorum_commands.proofs.Sources.{HasAsker, SettledBy, asks_longer, asks_more}
use Rattle.quorum_commands.proofs.Taking.{Becomes, Commits, Hands, Outcome, Proposes, Takes, TakesNone}
use Rattle.quorum_history.proofs.History.{ext_refl}
use Rattle.quorum_history.proofs.Holds.{Core, FollowsIn, Good, InPhase, StageHolds, core_of}
use Rattle.quorum_history.proofs.Phases.{electing_is, no, peon_is_peon, votes_in_odd}
use Rattle.quorum_history.proofs.Rows.{HasForm, InputHolds, brings, reacts_plain}
use Rattle.quorum_history.proofs.Steps.{tied_refl}
use Rattle.quorum_laws.proofs.Invariant.{InvOf}
use Rattle.quorum_laws.proofs.Later.{Stays, is_in}
use Rattle.quorum_model.proofs.Happening.{Brought}
use Rattle.quorum_walk.proofs.Lists.{Among, all_map}
use Rattle.quorum_walk.proofs.Sparing.{own_of}
use Rattle.quorum_walk.proofs.Walk.{Then}
use Rattle.std.proofs.Common.{Bool, List, None, Ok, Some, [], ap, arith, cond, false, inl, inr, length, refl, slice_index_or, subst, suc, sym, true, ℕ, ◌++◌, ◌+◌, ◌<◌, ◌∙◌, ◌∷◌, ◌≡◌, ◌≤◌, ◌⊎◌}
use Rattle.std.proofs.lemmas.Bool.{ltb-false, ltb-true, ne_eqb}
use Rattle.std.proofs.lemmas.Option.{slice_get_within}

-- the place of a value that the change votes for; Nowhere for other changes
abbrev vote_place : Change → Place
vote_place (Vote v q x) = Begun v (text x)
vote_place other = Nowhere

-- ---- an event

module _ (ms : Monitors) (w : World) (p : Plain) (I : InvOf ms w) (L : OneLog ms w) (W : ms.count ≡ 1 → (i : ℕ) → i < ms.count → IsWhole w.log (w.store i)) (places : Places)
    (T : Tickets ms.count places w.store w.state w.transactions w.messages w.asked w.log) (d : Does ms w p) (Settled : Session → Type 0) (S0 : SettledBy ms w p I places T d Settled d.by.came) where
  abbrev n : ℕ
  n = ms.count

  abbrev i : ℕ
  i = d.by.rank

  abbrev asked : List Asked
  asked = with_asked p w.asked

  abbrev self : Me
  self = me ms w I p d

  abbrev w0 : Readings
  w0 = readings_of (w.store d.by.rank)

  abbrev after_store : Store
  after_store = next ms w I p d

  still : StillAt w.asked asked
  still = asks_more p w.asked

  longer : length w.asked ≤ length asked
  longer = asks_longer p w.asked

  in_map : i < n
  in_map = ltb-true d.by.rank ms.count d.by.lt

  K : InPhase n I.g i (core_of (own_of w0) d.by.state) d.by.state.phase
  K = phase_holds ms w I p d

  -- ---- what an event leaves of requests

  -- a command that the monitor hands on is of an epoch that the receiver reached, and has a request of its own
  abbrev pub BodySends : Places → (from to e : ℕ) → Body → Type 0
  BodySends after from to e (body.Forward seq c) = (e ≤ epoch_of (readings_of (w.store to))) × HasOwn n asked after (Handed from to e seq) from c
  BodySends after from to e other = Unit {0}

  abbrev pub SendsOwn : Places → Sent → Type 0
  SendsOwn after (sent.Message to m) = BodySends after m.from to m.epoch m.body
  SendsOwn after (sent.Reply t r) = Unit {0}

  -- its numbers don't fall, and if its epoch stays it is in a quorum only if it was in one before
  abbrev pub Here : Type 0
  Here = Stays w0 (w.state i) (readings_of after_store) (Some d.y.state)

  -- if the monitor leads in an epoch after the event, each command handed on in it and not taken has its own request
  abbrev pub Opens : Places → Type 0
  Opens after = Here → (f e seq : ℕ) (c : Command) → is_leading d.y.state.phase ≡ true → epoch_of (readings_of after_store) ≡ e → slice_index_or d.y.state.clients.taken f 0 < seq → (f ≡ i → ⊥) → f < n
      → IsForwarded n w.asked places (w.store i) (w.state i) f i e seq c → HasOwn n asked after (Handed f i e seq) f c

  -- the monitor commits at once a value that a request made
  pub record CommitsOwn (after : Places) : Type 0 where
    pub ops : List Op
    pub k : ℕ
    pub place : after k ≡ Begun (suc w0.last) (text ops)
    pub made : MadeOf n asked w.log k (suc w0.last) ops
    pub changes : d.y.changes ≡ Learn (suc w0.last) ops ∷ Last (suc w0.last) ∷ []
    pub last : d.y.readings.last ≡ suc w0.last

  -- the monitor refuses the command of request k, which is then no longer under way
  pub record Refuses (after : Places) : Type 0 where
    pub k : ℕ
    pub command : Command
    pub origin : Origin
    pub reply : Reply
    pub place : after k ≡ Nowhere
    pub apart : (j : ℕ) → j < length w.asked → places j ≡ Nowhere → j ≡ k → ⊥
    pub asks : AskedAt n asked k (asker i origin) command
    pub tie : HasAsker ms w p I places T d origin command
    pub out : d.y.out ≡ answer_to self (epoch_of w0) origin reply ∷ []

  -- the session is settled, and no request moves
  abbrev pub Stills : Places → Session → Type 0
  Stills after t = Settled t × ((k : ℕ) → after k ≡ places k)

  -- It refuses a command. Or it refuses nobody, or moves no request and refuses only sessions that are settled.
  abbrev pub Says : Places → Type 0
  Says after = Refuses after ⊎ AllByRecursion (IsCalm (Stills after)) d.y.out

  -- one request goes to another place at most, and all others stay
  pub record Leaves : Type 0 where
    pub from : Place
    pub at : IsAt i from
    pub after : Places
    pub moves : Moves from places after
    pub free : (k : ℕ) → length asked ≤ k → after k ≡ Nowhere
    pub begun : (k v : ℕ) (bytes : List ℕ) → after k ≡ Begun v bytes → (places k ≡ Begun v bytes) ⊎ MadeAt n asked w.log k v bytes
    pub waits : Waits n asked after i d.y.state.clients.queue d.y.state.clients.taken
    pub opens : Opens after
    pub sends : AllByRecursion (SendsOwn after) d.y.out
    pub says : Says after
    pub settled : (k : ℕ) → k < length w.asked → places k ≡ Nowhere → after k ≡ Nowhere
    pub votes : 1 < n → (v q : ℕ) (x : List Op) → Among (Vote v q x) d.y.changes → (k : ℕ) × (after k ≡ Begun v (text x))
    pub lone : n ≡ 1 → (d.y.readings.last ≡ w0.last) ⊎ CommitsOwn after

  -- ---- small steps

  -- nothing moves
  stays : Moves Nowhere places places
  stays j q e apart = e

  other_body : (after : Places) (from to e : ℕ) (b : Body) → HandsNone b → BodySends after from to e b
  other_body after from to e (body.Forward seq c) k = absurd k
  other_body after from to e other k = tt

  fair_sent : (S : Session → Type 0) (after : Places) (sends : List Sent) → AllFair S sends → AllByRecursion (SendsOwn after) sends
  fair_sent S after sends k = all_map (IsFair S) (SendsOwn after) by sends k
    where
      by : (x : Sent) → IsFair S x → SendsOwn after x
      by (sent.Message to m) o = other_body after m.from to m.epoch m.body o
      by (sent.Reply t r) o = tt

  answer_sent : (after : Places) (o : Origin) (r : Reply) → AllByRecursion (SendsOwn after) (answer_to self (epoch_of w0) o r ∷ [])
  answer_sent after (origin.Session t) r = (tt, tt)
  answer_sent after (origin.Forwarded f seq) r = (tt, tt)

  -- those that waited here
  waited : Waits n w.asked places i d.by.state.clients.queue d.by.state.clients.taken
  waited = sources.waited ms w p I places T d

  -- a leader was up
  was_up : is_leading d.by.state.phase ≡ true → w.state i ≡ Some d.by.state
  was_up = sources.was_up ms w p I places T d

  free_still : (k : ℕ) → length asked ≤ k → places k ≡ Nowhere
  free_still k le = T.free k (let l = longer in omega arith)

  -- ---- what a request makes

  -- the value of a command that a request asked
  made_over : is_leading d.by.state.phase ≡ true → (k : ℕ) (c : Command) (o : Origin) (ops : List Op) → AskedAt n asked k (asker i o) c → value w0 c (asked_of self o) ≡ Ok ops → MadeOf n asked w.log k (suc w0.last) ops
  made_over t k c o ops a e =
      let V = versions ms w I p d L (leads_unmarked ms w I p d t) in
      record {
        by = a.by;
        at = a.at;
        made = record {
          before = w0.last;
          next = refl;
          within = V.within;
          over = w0;
          keeps = V.keeps;
          last = refl;
          rank = asker i o;
          session = a.session;
          command = c;
          of = a.was;
          made = subst (λ (r : ℕ). value w0 c r ≡ Ok ops) (asker_is self o) e;
        };
      }

  -- where a command comes from
  abbrev Source : Command → Origin → List Waiting → List ℕ → Type 0
  Source = sources.Source ms w p I places T d

  abbrev Asks : Session → Command → Type 0
  Asks = sources.Asks ms w p I places T d

  outcome : Outcome self d.by.at w0 d.by.state Source Asks Settled d.by.came d.y
  outcome = sources.outcome ms w p I places T d Settled S0

  -- ---- if nothing is written

  no_votes : (after : Places) → d.y.changes ≡ [] → (v q : ℕ) (x : List Op) → Among (Vote v q x) d.y.changes → (k : ℕ) × (after k ≡ Begun v (text x))
  no_votes after e v q x a = absurd (none (subst (λ (cs : List Change). Among (Vote v q x) cs) e a))
    where
      none : Among (Vote v q x) [] → ⊥
      none a = a

  -- those that wait still do, if nothing moves
  still_waits : Waits n asked places i d.by.state.clients.queue d.by.state.clients.taken
  still_waits = let q = waited in (q.0, q.1, wait_last n w.asked asked still Nowhere places places stays i q.1 d.by.state.clients.queue (λ u le e. absurd cc) q.2)

  same_waits : (after : Places) (c : Clients) → SameClients c d.by.state.clients → Waits n asked after i d.by.state.clients.queue d.by.state.clients.taken → Waits n asked after i c.queue c.taken
  same_waits after c same h = subst (λ (xs : List Waiting). Waits n asked after i xs c.taken) (sym same.0) (subst (λ (ts : List ℕ). Waits n asked after i d.by.state.clients.queue ts) (sym same.1) h)

  -- ---- if no command is taken

  -- the values that requests made
  abbrev Known : ℕ → List Op → Type 0
  Known v x = (k : ℕ) × (places k ≡ Begun v (text x))

  module _ (several : 1 < n) where
    good : Good self I.g Known (at_rest w0 d.by.state)
    good = record {
      h = I.g;
      ext = ext_refl i I.g;
      glob = I.glob;
      disk = (I.mine i).disk;
      tied = tied_refl i I.g;
      known = λ j v q x a. T.accepted several j v q (text x) (I.triples.kept j v q x a);
      asks = λ a k. k;
      sent = tt;
      fact = K;
    }

    input_holds : (came : Input) → Brought ms w p i came → brings came ≡ false → InputHolds self I.g came
    input_holds input.Start b none = tt
    input_holds (input.Deliver m) b none = (sources.said ms w p I places T d m b).0
    input_holds (input.Timer t) b none = tt
    input_holds (input.Client t r) b none = no (sym none)

    fits_in : (came : Input) → Brought ms w p i came → HasForm came
    fits_in input.Start b = tt
    fits_in (input.Deliver m) b = (sources.said ms w p I places T d m b).1
    fits_in (input.Timer t) b = tt
    fits_in (input.Client t r) b = tt

    repeated : brings d.by.came ≡ false → (v q : ℕ) (x : List Op) → Among (Vote v q x) d.y.changes → Known v x
    repeated none v q x a =
        let B = (subst (Then (Good self I.g Known)) d.is (reacts_plain self d.by.at I.g Known (shared_entries (w.store i)) w0 d.by.state d.by.came none (input_holds d.by.came d.by.brought none) (fits_in d.by.came d.by.brought) (I.mine i).fine.records good)).holds in
        B.known self.member.rank v q x (B.tied.votes v q x a)

  alone : n ≡ 1 → Alone self d.by.at w0 d.by.state Settled
  unfolding pending_of
  alone one = record {
    one = one;
    none = (let z = H.settled in ap (λ (b : Bool). cond b (found_as w0.pending_v w0.pending_pn (record_at w0.record_of (suc w0.last))) None) (ne_eqb w0.pending_v (suc w0.last) (λ e. omega arith)));
    replays = λ from end t e.
        let R = requests_in self I.g w0 d.by.state I.glob d.by.state.phase t K in
        let full = (subst (StageHolds I.g w0.last w0.floor d.by.state.requester.provider d.by.state.requester.full d.by.state.requester.start d.by.state.requester.place.version) e R.1).0 in
        no (sym (R.0 ∙ H.unmarked) ∙ full);
  }
    where
      H : IsWhole w.log (w.store i)
      H = W one i in_map

  -- if a reached epoch is the one after the event, it is also the one before
  same_epoch : Here → (e : ℕ) → e ≤ epoch_of w0 → epoch_of (readings_of after_store) ≡ e → epoch_of w0 ≡ e
  same_epoch here e low now_is = let up = here.epoch in omega arith

  -- who stood for election leads in a later epoch
  elected : Here → (e : ℕ) → e ≤ epoch_of w0 → epoch_of (readings_of after_store) ≡ e → is_leading d.y.state.phase ≡ true → d.by.state.phase ≡ phase.Electing → ⊥
  elected here e low now_is leads stood = by d.by.remembers (here.inside (rw leads refl) (now_is ∙ sym (same_epoch here e low now_is)))
    where
      by : (w.state i ≡ Some d.by.state) ⊎ (d.by.state ≡ booting i) → is_in (w.state i) ≡ true → ⊥
      by (inl z) k = no (sym (ap is_in z ∙ ap is_member stood) ∙ k)
      by (inr z) k = let booted : phase.Booting ≡ phase.Electing = sym (ap (λ (s : State). s.phase) z) ∙ stood in absurd cc

  idle_opens : Idle self d.by.at w0 d.by.state Settled d.y → Opens places
  idle_opens Q here f e seq c leads now_is lt apart below F = by (Q.leads leads)
    where
      by : Leads self d.by.at w0 d.by.state Settled d.y.state.clients → HasOwn n asked places (Handed f i e seq) f c
      by (inl z) = own_lasts n w.asked asked still Nowhere places places stays (Handed f i e seq) f c (λ u. absurd cc)
          (F.own d.by.state (was_up z.0) z.0 (same_epoch here e F.low now_is) (subst (λ (ts : List ℕ). slice_index_or ts f 0 < seq) z.1.1 lt))
      by (inr (inl z)) = absurd (elected here e F.low now_is leads (votes_in_odd n I.g i (core_of (own_of w0) d.by.state) d.by.state.phase I.glob.roles z.1 z.0 K))
      by (inr (inr (inl z))) = absurd (elected here e F.low now_is leads (electing_is d.by.state.phase z))
      by (inr (inr (inr one))) = absurd (apart (let few = ltb-false 1 n one in let b = in_map in omega arith))

  idle_leaves : TakesNone self d.by.at w0 d.by.state Source Asks Settled d.by.came d.y → Leaves
  idle_leaves N = record {
    from = Nowhere;
    at = tt;
    after = places;
    moves = stays;
    free = free_still;
    begun = λ k v bytes e. inl e;
    waits = wait N.idle.clients;
    opens = idle_opens N.idle;
    sends = fair_sent Settled places d.y.out N.idle.out;
    says = inr (fair_calm Settled (Stills places) (λ t z. (z, λ k. refl)) d.y.out N.idle.out);
    settled = λ k lt e. e;
    votes = λ several. vote several (brings d.by.came) refl;
    lone = λ one. inl (N.idle.last (alone one));
  }
    where
      wait : SameClients d.y.state.clients d.by.state.clients ⊎ (d.y.state.clients ≡ no_clients) → Waits n asked places i d.y.state.clients.queue d.y.state.clients.taken
      wait (inl same) = same_waits places d.y.state.clients same still_waits
      wait (inr e) = subst (λ (c : Clients). Waits n asked places i c.queue c.taken) (sym e) (refl, 0, tt)

      vote : 1 < n → (b : Bool) → brings d.by.came ≡ b → (v q : ℕ) (x : List Op) → Among (Vote v q x) d.y.changes → (k : ℕ) × (places k ≡ Begun v (text x))
      vote several true e = no_votes places (N.stays e)
      vote several false e = repeated several e

  -- ---- if a command is taken

  module _ (H : Takes self d.by.at w0 d.by.state Source Asks Settled d.y) where
    abbrev S : Source H.command H.origin H.others H.taken
    S = H.source

    takes_opens : (after : Places) → Moves S.from places after → Opens after
    takes_opens after M here f e seq c leads now_is lt apart below F =
        let o = S.open_still f seq (subst (λ (ts : List ℕ). slice_index_or ts f 0 < seq) H.counts lt) in
        let same = same_epoch here e F.low now_is in
        own_lasts n w.asked asked still S.from places after M (Handed f i e seq) f c (subst (λ (u : ℕ). Handed f i u seq ≡ S.from → ⊥) same o.1) (F.own d.by.state (was_up H.leads) H.leads same o.0)

    others_wait : (after : Places) → Moves S.from places after → AllWait n asked after i S.ticket H.others
    others_wait after M = wait_last n w.asked asked still S.from places after M i S.ticket H.others S.apart S.wait

    counted : (after : Places) (xs : List Waiting) (t : ℕ) → d.y.state.clients.queue ≡ xs → AllWait n asked after i t xs → Waits n asked after i d.y.state.clients.queue d.y.state.clients.taken
    counted after xs t e h = (ap (λ (ts : List ℕ). length ts) H.counts ∙ S.long, t, subst (AllWait n asked after i t) (sym e) h)

    leaves_as : (after : Places) → Moves S.from places after → ((k : ℕ) → length asked ≤ k → after k ≡ Nowhere) → ((k v : ℕ) (bytes : List ℕ) → after k ≡ Begun v bytes → (places k ≡ Begun v bytes) ⊎ MadeAt n asked w.log k v bytes)
        → Waits n asked after i d.y.state.clients.queue d.y.state.clients.taken → ((v q : ℕ) (x : List Op) → Among (Vote v q x) d.y.changes → (k : ℕ) × (after k ≡ Begun v (text x))) → (d.y.readings.last ≡ w0.last) ⊎ CommitsOwn after
        → AllByRecursion (SendsOwn after) d.y.out → Says after → ((k : ℕ) → k < length w.asked → places k ≡ Nowhere → after k ≡ Nowhere) → Leaves
    leaves_as after M free begun waits votes lone sends says settled = record {
      from = S.from;
      at = S.at;
      after = after;
      moves = M;
      free = free;
      begun = begun;
      waits = waits;
      opens = takes_opens after M;
      sends = sends;
      says = says;
      settled = settled;
      votes = λ several. votes;
      lone = λ one. lone;
    }

    -- what was settled before isn't what moves
    apart : (j : ℕ) → j < length w.asked → places j ≡ Nowhere → j ≡ S.k → ⊥
    apart j lt e same = let z : S.from ≡ Nowhere = sym S.place ∙ ap places (sym same) ∙ e in let f = S.fresh z in omega arith

    -- the request goes to a place
    abbrev goes_to : Place → Places
    goes_to to = moved_to S.k to places

    goes : (to : Place) → Moves S.from places (goes_to to)
    goes to = moves S.k S.from to places S.place

    goes_settled : (to : Place) (k : ℕ) → k < length w.asked → places k ≡ Nowhere → goes_to to k ≡ Nowhere
    goes_settled to k lt e = ap (λ (b : Bool). cond b to (places k)) (ne_eqb k S.k (apart k lt e)) ∙ e

    goes_free : (to : Place) (k : ℕ) → length asked ≤ k → goes_to to k ≡ Nowhere
    goes_free to k le = let lt = slice_get_within asked S.k S.asks.by S.asks.at in ap (λ (b : Bool). cond b to (places k)) (ne_eqb k S.k (λ e. omega arith)) ∙ free_still k le

    -- what request k made at a place, if any
    abbrev MadeThere : Place → Type 0
    MadeThere (Begun v bytes) = MadeAt n asked w.log S.k v bytes
    MadeThere other = Unit {0}

    module _ (ops : List Op) (own : MadeOf n asked w.log S.k (suc w0.last) ops) where
      abbrev to : Place
      to = Begun (suc w0.last) (text ops)

      there : goes_to to S.k ≡ to
      there = is_moved S.k to places

      begun_in : (k v : ℕ) (bytes : List ℕ) → goes_to to k ≡ Begun v bytes → (places k ≡ Begun v bytes) ⊎ MadeAt n asked w.log k v bytes
      begun_in k v bytes e = elim (was_there S.k to places k (Begun v bytes) e) [ inl o ↦ inl o | inr q ↦ inr (subst (λ (j : ℕ). MadeAt n asked w.log j v bytes) (sym q.0) (subst MadeThere q.1 (record { x = ops; encodes = refl; of = own }))) ]

      votes_in : Proposes self d.by.at w0 d.by.state Source Asks Settled ops d.y ⊎ Commits self d.by.at w0 d.by.state Source Asks Settled ops d.y → (v q : ℕ) (x : List Op) → Among (Vote v q x) d.y.changes → (k : ℕ) × (goes_to to k ≡ Begun v (text x))
      votes_in (inl c) v q x a = elim (subst (λ (cs : List Change). Among (Vote v q x) cs) c.1 a) [ inl e ↦ (S.k, there ∙ sym (ap vote_place e)) | inr b ↦ absurd b ]
      votes_in (inr c) v q x a = elim (subst (λ (cs : List Change). Among (Vote v q x) cs) c.0 a) [ inl e ↦ absurd cc | inr b ↦ elim b [ inl e ↦ absurd cc | inr b ↦ absurd b ] ]

      lone_in : Proposes self d.by.at w0 d.by.state Source Asks Settled ops d.y ⊎ Commits self d.by.at w0 d.by.state Source Asks Settled ops d.y → (d.y.readings.last ≡ w0.last) ⊎ CommitsOwn (goes_to to)
      lone_in (inl c) = inl c.2
      lone_in (inr c) = inr (record { ops = ops; k = S.k; place = there; made = own; changes = c.0; last = c.1 })

    takes_leaves : Leaves
    takes_leaves = by H.becomes
      where
        waits_there : (x : Waiting) (to : Place) → to ≡ Queued i (S.ticket + length H.others) → AskedAt n asked S.k (asker i x.origin) x.command → AllWait n asked (goes_to to) i S.ticket (H.others ++ x ∷ [])
        waits_there x to is a = wait_push n asked (goes_to to) i S.ticket H.others x (others_wait (goes_to to) (goes to)) (record { k = S.k; place = is_moved S.k to places ∙ is; of = a })

        by : Becomes self d.by.at w0 d.by.state Source Asks Settled H.command H.origin H.others d.y → Leaves
        by (inl z) =
            leaves_as (goes_to Nowhere) (goes Nowhere) (goes_free Nowhere)
            (λ k v bytes e. elim (was_there S.k Nowhere places k (Begun v bytes) e) [ inl o ↦ inl o | inr q ↦ (let bad : Nowhere ≡ Begun v bytes = q.1 in absurd cc) ])
            (counted (goes_to Nowhere) H.others S.ticket z.queue (others_wait (goes_to Nowhere) (goes Nowhere))) (no_votes (goes_to Nowhere) z.writes.changes) (inl (ap (λ (r : Readings). r.last) z.writes.readings))
            (subst (λ (out : List Sent). AllByRecursion (SendsOwn (goes_to Nowhere)) out) (sym z.out) (answer_sent (goes_to Nowhere) H.origin z.reply))
            (inl (record { k = S.k; command = H.command; origin = H.origin; reply = z.reply; place = is_moved S.k Nowhere places; apart = apart; asks = S.asks; tie = S.tie; out = z.out })) (goes_settled Nowhere)
        by (inr (inl z)) =
            let to = Queued i (S.ticket + length H.others) in
            let x : Waiting = record { command = H.command; origin = H.origin } in
            leaves_as (goes_to to) (goes to) (goes_free to)
            (λ k v bytes e. elim (was_there S.k to places k (Begun v bytes) e) [ inl o ↦ inl o | inr q ↦ (let bad : to ≡ Begun v bytes = q.1 in absurd cc) ])
            (counted (goes_to to) (H.others ++ x ∷ []) S.ticket z.queue (waits_there x to refl S.asks)) (no_votes (goes_to to) z.writes.changes) (inl (ap (λ (r : Readings). r.last) z.writes.readings))
            (fair_sent Nobody (goes_to to) d.y.out z.out) (inr (fair_calm Nobody (Stills (goes_to to)) (λ t none. absurd none) d.y.out z.out)) (goes_settled to)
        by (inr (inr z)) =
            let B = z.begins in
            let own = made_over H.leads S.k H.command H.origin B.ops S.asks B.made in
            let to = Begun (suc w0.last) (text B.ops) in
            leaves_as (goes_to to) (goes to) (goes_free to) (begun_in B.ops own) (counted (goes_to to) H.others S.ticket z.queue (others_wait (goes_to to) (goes to))) (votes_in B.ops own B.how) (lone_in B.ops own B.how)
            (fair_sent Nobody (goes_to to) d.y.out z.out) (inr (fair_calm Nobody (Stills (goes_to to)) (λ t none. absurd none) d.y.out z.out)) (goes_settled to)

  -- a peon hands one on
  hands_leaves : Hands self d.by.at w0 d.by.state Source Asks Settled d.y → Leaves
  hands_leaves H = record {
    from = Nowhere;
    at = tt;
    after = after;
    moves = moves k0 Nowhere to places H.asked.0;
    free = λ k le. let lt = slice_get_within asked k0 H.asked.1.by H.asked.1.at in ap (λ (b : Bool). cond b to (places k)) (ne_eqb k k0 (λ e. omega arith)) ∙ free_still k le;
    begun = λ k v bytes e. elim (was_there k0 to places k (Begun v bytes) e) [ inl o ↦ inl o | inr q ↦ (let bad : to ≡ Begun v bytes = q.1 in absurd cc) ];
    waits = same_waits after d.y.state.clients (H.queue, H.taken) wait;
    opens = λ here f e seq c leads now_is lt apart below F. no (sym (ap is_leading H.still ∙ peon_leads_not d.by.state.phase H.peon) ∙ leads);
    sends = subst (λ (out : List Sent). AllByRecursion (SendsOwn after) out) (sym H.out) ((low, record { k = k0; place = is_moved k0 to places; of = H.asked.1 }), tt);
    says = inr (subst (λ (out : List Sent). AllByRecursion (IsCalm (Stills after)) out) (sym H.out) (tt, tt));
    settled = λ k lt e. ap (λ (b : Bool). cond b to (places k)) (ne_eqb k k0 (λ z. omega arith)) ∙ e;
    votes = λ several. no_votes after H.writes.changes;
    lone = λ one. inl (ap (λ (r : Readings). r.last) H.writes.readings);
  }
    where
      k0 : ℕ
      k0 = length w.asked

      to : Place
      to = Handed i d.by.state.peon.leader (epoch_of w0) H.seq

      after : Places
      after = moved_to (length w.asked) (Handed i d.by.state.peon.leader (epoch_of w0) H.seq) places

      wait : Waits n asked after i d.by.state.clients.queue d.by.state.clients.taken
      wait = let q = waited in (q.0, q.1, wait_last n w.asked asked still Nowhere places after (moves k0 Nowhere to places H.asked.0) i q.1 d.by.state.clients.queue (λ u le e. absurd cc) q.2)

      low : epoch_of w0 ≤ epoch_of (readings_of (w.store d.by.state.peon.leader))
      low =
          let c : Core = core_of (own_of w0) d.by.state in
          let F : FollowsIn I.g i c = subst (InPhase n I.g i c) (peon_is_peon d.by.state.phase H.peon) K in
          (I.mine d.by.state.peon.leader).disk.kept.roles (epoch_of w0) d.by.state.peon.leader d.by.state.peon.quorum (I.glob.roles.lead i (epoch_of w0) d.by.state.peon.leader d.by.state.peon.quorum F.role)

  pub leaves : Leaves
  leaves = by outcome
    where
      by : Outcome self d.by.at w0 d.by.state Source Asks Settled d.by.came d.y → Leaves
      by (inl N) = idle_leaves N
      by (inr (inl H)) = takes_leaves H
      by (inr (inr H)) = hands_leaves H
