-- Every event keeps what holds.
pub use Rattle.quorum_laws.proofs.Meetings.{Arriving, IsNoted, ToldOf, member_of}
pub use Rattle.quorum_model.proofs.Happening.{unless_full}
use Rattle.law_names.proofs.Runs.{AllFit, Asked, Envelope, Event, Monitors, Plain, PlainFits, World, first_world, happens, is_active, kept_only, lost, messages_of, moved, plain_of, put_at, run, run_from, unmoved, with_asked}
use Rattle.law_names.proofs.Table.{AllByRecursion, Command, Course, Input, Me, Op, Readings, Session, State, Store, apply, at_rest, booting, encoded, epoch_of, is_member, joined, or_zero, promise_of, react, reaction_of, readings_of, shared_entries}
use Rattle.mon_msg.proofs.Changed.{readings-joined}
use Rattle.quorum_history.proofs.Frame.{accepted_lasts}
use Rattle.quorum_history.proofs.History.{ALevel, ANumber, APromise, Accepted, AnEpoch, Asks, Entry, Had, asking, ext_refl, had_lasts, triple}
use Rattle.quorum_history.proofs.Holds.{Good, core, level_in}
use Rattle.quorum_history.proofs.Rows.{InputHolds, react_holds}
use Rattle.quorum_history.proofs.RowsClients.{Makes}
use Rattle.quorum_history.proofs.Steps.{tied_refl}
use Rattle.quorum_laws.proofs.Beginning.{at_first}
use Rattle.quorum_laws.proofs.Invariant.{EnvelopeFine, EnvelopeHolds, Further, Inv, InvOf, InvWith, Mine, OnState, StateFits, TriplesKept, WasActive, further_ext, further_refl, further_trans}
use Rattle.quorum_laws.proofs.Later.{Later, Stays, is_in, later_refl, later_trans, stays_refl}
use Rattle.quorum_laws.proofs.Leaving.{IsLater, stays_outside}
use Rattle.quorum_laws.proofs.Meetings.{Adds, adds, arriving}
use Rattle.quorum_laws.proofs.Values.{made, sharing}
use Rattle.quorum_laws.proofs.Voting.{collects_number}
use Rattle.quorum_laws.proofs.Whole.{active_last, at_put, envelopes_last, envelopes_of, fine_envelopes, held_after, mine_lasts, raised_after, triples_kept, was_active}
use Rattle.quorum_laws.specs.Accepting.{AcceptedIn}
use Rattle.quorum_laws.specs.Commands.{WasAsked}
use Rattle.quorum_laws.specs.Promises.{Collects, last_number}
use Rattle.quorum_model.proofs.Happening as happening
use Rattle.quorum_model.proofs.Happening.{Leads, of_next, run_leads, runs_apart}
use Rattle.quorum_walk.proofs.FineCourses.{Ended, EntryFine, Fine, begun, fit_fits, still}
use Rattle.quorum_walk.proofs.FineTable.{ComesFine, react_fine}
use Rattle.quorum_walk.proofs.Lists.{Among, all_append}
use Rattle.quorum_walk.proofs.Sparing.{own_of}
use Rattle.quorum_walk.proofs.Walk.{Then}
use Rattle.std.proofs.Common.{Bool, IfOk, IfSome, List, None, Ok, Option, Some, [], ap, arith, cond, eqb, false, inl, inr, ltb, refl, subst, sym, true, ℕ, ◌%◌, ◌++◌, ◌<◌, ◌∙◌, ◌∷◌, ◌≡◌, ◌≤◌, ◌⊎◌}
use Rattle.std.proofs.lemmas.Bool.{cond_both, eqb-true, false≢true}

module _ (store : ℕ → Store) (state : ℕ → Option State) (txs : ℕ → List (List Op)) (messages : List Envelope) (pairs : List (ℕ × ℕ)) (asked : List Asked) (me : Me) (I : Inv me.member.monitors store state txs messages pairs asked) (at : ℕ) where
  abbrev n : ℕ
  n = me.member.monitors

  abbrev i : ℕ
  i = me.member.rank

  abbrev m : Store
  m = store i

  abbrev pub shares : AllByRecursion EntryFine (shared_entries m)
  shares = sharing m (I.mine i).fine.records

  fine_at_first : (s : State) → StateFits s → Fine (still me (readings_of m)) (at_rest (readings_of m) s)
  fine_at_first s k = record { shape = tt; stored = (m, refl); tells = refl; boot = refl; fits = tt; readings = (I.mine i).fine; state = k; sends = tt }

  -- this is known of what was accepted, and of what a command that was asked makes
  good_at_first : (Known : ℕ → List Op → Type 0) → ((j v p : ℕ) (x : List Op) → Accepted I.g j v p x → Known v x) → (s : State) → OnState n I.g i (readings_of m) (Some s) → Good me I.g Known (at_rest (readings_of m) s)
  good_at_first Known known s k = record { h = I.g; ext = ext_refl i I.g; glob = I.glob; disk = (I.mine i).disk; tied = tied_refl i I.g; known = known; asks = λ a k. k; sent = tt; fact = k }

  -- what it does at an input
  module _ (s : State) (came : Input) (k : OnState n I.g i (readings_of m) (Some s)) (z : StateFits s) (c : InputHolds me I.g came) (d : ComesFine me at (readings_of m) made (shared_entries m) shares came)
      (x : Course) (is : react me (shared_entries m) at (readings_of m) s came ≡ Ok x) where
    pub good_with : (Known : ℕ → List Op → Type 0) → ((j v p : ℕ) (y : List Op) → Accepted I.g j v p y → Known v y) → Makes me at I.g Known (readings_of m) → Good me I.g Known x
    good_with Known known makes =
        (subst (Then (Good me I.g Known)) is (react_holds me at I.g Known made (readings_of m) (shared_entries m) shares (readings_of m) s came c d (fine_at_first s z) makes (good_at_first Known known s k))).holds

    good : Good me I.g (λ v y. Unit {0}) x
    good = good_with (λ v y. Unit {0}) (λ j v p y a. tt) ((m, refl), λ u a s c y k e. tt)

    pub ended : Ended (begun me (readings_of m) s came) x
    ended = (subst (Then (Ended (begun me (readings_of m) s came))) is (react_fine me at made (shared_entries m) shares (readings_of m) s came d (fine_at_first s z))).holds

    abbrev tx : List Op
    tx = joined (encoded x.changes)

    abbrev next : Store
    next = apply tx m

    pub same : readings_of next ≡ x.readings
    same = readings-joined x.changes (fit_fits x.changes ended.fits) m ∙ sym ended.tells

    -- what it keeps, and what others have
    kept_here : (t : Option State) → IfSome t StateFits → OnState n good.h i x.readings t → Mine n good.h i (readings_of next) t
    kept_here t f o = subst (λ (w : Readings). Mine n good.h i w t) (sym same) (record { fine = ended.readings; fits = f; disk = good.disk; state = o })

    others_keep : (j : ℕ) → (j ≡ i → ⊥) → Mine n good.h j (readings_of (store j)) (state j)
    others_keep j ne = mine_lasts n i I.g good.h good.ext j (readings_of (store j)) (state j) ne (I.mine j)

    all_mine : (t : Option State) → IfSome t StateFits → OnState n good.h i x.readings t → (j : ℕ) → Mine n good.h j (readings_of (put_at store i next j)) (put_at state i t j)
    all_mine t f o = at_put (λ (j : ℕ) (u : Store) (v : Option State). Mine n good.h j (readings_of u) v) store state i next t (kept_here t f o) others_keep

    triples : TriplesKept good.h (put_at txs i (txs i ++ tx ∷ []))
    triples = triples_kept i I.g good.h x.changes good.tied ended.shape ended.fits good.glob.triples.some txs I.triples (accepted_lasts i I.g good.h good.ext)

    -- a number that it collects under is its own, and new
    collects_new : (pn : ℕ) → Collects tx pn → (pn % 100 ≡ i) × (last_number m < pn)
    collects_new pn C = let made = good.tied.made pn (collects_number x.changes ended.shape ended.fits pn C) in (made.0, made.1 (last_number m) ((I.mine i).disk.numbers.now ANumber))

    last_up : last_number m ≤ last_number next
    last_up = subst (λ (w : Readings). last_number m ≤ or_zero w.last_pn) (sym same) (good.disk.numbers.top ANumber (last_number m) (had_lasts good.ext ANumber i (last_number m) ((I.mine i).disk.numbers.now ANumber)))

    now_active : AllByRecursion (WasActive n good.h) (cond (is_active x.state.phase) ((epoch_of (readings_of next), i) ∷ []) [])
    now_active = cond_both (is_active x.state.phase) ((epoch_of (readings_of next), i) ∷ []) [] (AllByRecursion (WasActive n good.h))
        (λ e. (subst (λ (w : Readings). WasActive n good.h (epoch_of w, i)) (sym same) (was_active n good.h i (core x) x.state.phase e good.fact), tt)) (λ _. tt)

    asks : (j : ℕ) (t : Session) (c : Command) → Asks good.h j t c → WasAsked n asked j t c
    asks j t c a = I.asks j t c (good.asks (asking j t c) a)

    -- it goes on
    pub goes_on_holds : Inv n (put_at store i next) (put_at state i (Some x.state)) (put_at txs i (txs i ++ tx ∷ [])) (messages ++ messages_of x.out) (pairs ++ cond (is_active x.state.phase) ((epoch_of (readings_of next), i) ∷ []) []) asked
    goes_on_holds = record {
      g = good.h;
      glob = good.glob;
      mine = all_mine (Some x.state) ended.state good.fact;
      triples = triples;
      held = held_after store txs i tx I.held;
      raised = raised_after store txs i tx I.held I.raised collects_new last_up;
      sent = all_append (EnvelopeHolds n good.h) messages (messages_of x.out) (envelopes_last n i I.g good.h good.ext messages I.sent) (envelopes_of n good.h i me.member.in_map x.out good.sent);
      sizes = all_append EnvelopeFine messages (messages_of x.out) I.sizes (fine_envelopes me x.out ended.sends);
      active = all_append (WasActive n good.h) pairs _ (active_last n i I.g good.h good.ext pairs I.active) now_active;
      asks = asks;
    }

    -- or goes down once it kept what it writes
    pub goes_down_holds : Inv n (put_at store i next) (put_at state i None) (put_at txs i (txs i ++ tx ∷ [])) messages pairs asked
    goes_down_holds = record {
      g = good.h;
      glob = good.glob;
      mine = all_mine None tt tt;
      triples = triples;
      held = held_after store txs i tx I.held;
      raised = raised_after store txs i tx I.held I.raised collects_new last_up;
      sent = envelopes_last n i I.g good.h good.ext messages I.sent;
      sizes = I.sizes;
      active = active_last n i I.g good.h good.ext pairs I.active;
      asks = asks;
    }

    -- what it makes of what was; if it was in a quorum, it remembered that
    module _ (t : Option State) (still : is_in t ≡ true → is_member x.state.phase ≡ true) (from : is_member s.phase ≡ true → is_in (state i) ≡ true) where
      inside : is_in t ≡ true → epoch_of (readings_of next) ≡ epoch_of (readings_of m) → is_in (state i) ≡ true
      inside a e = by (is_member s.phase) refl
        where
          by : (b : Bool) → is_member s.phase ≡ b → is_in (state i) ≡ true
          by true h = from h
          by false h =
              let outside = stays_outside me at I.g made (readings_of m) (shared_entries m) shares s (fine_at_first s z) I.glob (I.mine i).disk k h came c d in
              let later : epoch_of (readings_of m) < epoch_of x.readings = (subst (Then (IsLater (epoch_of (readings_of m)))) is outside).holds (still a) in
              let q = ap epoch_of same in
              absurd (omega arith)

      here : Stays (readings_of m) (state i) (readings_of next) t
      here = record {
        epoch = subst (λ (w : Readings). epoch_of (readings_of m) ≤ epoch_of w) (sym same) (good.disk.numbers.top AnEpoch (epoch_of (readings_of m)) (had_lasts good.ext AnEpoch i (epoch_of (readings_of m)) ((I.mine i).disk.numbers.now AnEpoch)));
        promise = subst (λ (w : Readings). promise_of (readings_of m) ≤ promise_of w) (sym same) (good.disk.numbers.top APromise (promise_of (readings_of m)) (had_lasts good.ext APromise i (promise_of (readings_of m)) ((I.mine i).disk.numbers.now APromise)));
        level = subst (λ (w : Readings). level_in (own_of (readings_of m)) ≤ level_in (own_of w)) (sym same) (good.disk.numbers.top ALevel (level_in (own_of (readings_of m))) (had_lasts good.ext ALevel i (level_in (own_of (readings_of m))) ((I.mine i).disk.numbers.now ALevel)));
        inside = inside;
      }

      pub each_stays : (j : ℕ) → Stays (readings_of (store j)) (state j) (readings_of (put_at store i next j)) (put_at state i t j)
      each_stays j = by (eqb j i) refl
        where
          by : (b : Bool) → eqb j i ≡ b → Stays (readings_of (store j)) (state j) (readings_of (cond b next (store j))) (cond b t (state j))
          by true e = subst (λ (z : ℕ). Stays (readings_of (store z)) (state z) (readings_of next) t) (sym (eqb-true j i e)) here
          by false e = stays_refl (readings_of (store j)) (state j)

    pub accepted_since : (j v pn : ℕ) (bytes : List ℕ) → AcceptedIn (put_at txs i (txs i ++ tx ∷ []) j) v pn bytes → AcceptedIn (txs j) v pn bytes ⊎ (promise_of (readings_of (store j)) ≤ pn)
    accepted_since j v pn bytes a =
        let t = triples.known j v pn bytes a in
        elim (good.ext.accepts.added (triple j v pn t.0) t.2) [
          | inl o ↦ inl (subst (AcceptedIn (txs j) v pn) (sym t.1) (I.triples.kept j v pn t.0 o))
          | inr new ↦ inr (new.high (promise_of (readings_of (store j))) (subst (λ (y : ℕ). Had I.g APromise y (promise_of (readings_of (store j)))) new.who ((I.mine j).disk.numbers.now APromise)))
        ]

-- it goes down before it kept anything
pub lost_holds : (n : ℕ) (store : ℕ → Store) (state : ℕ → Option State) (txs : ℕ → List (List Op)) (messages : List Envelope) (pairs : List (ℕ × ℕ)) (asked : List Asked) (i : ℕ) → Inv n store state txs messages pairs asked → Inv n store (put_at state i None) txs messages pairs asked
lost_holds n store state txs messages pairs asked i I = record { g = I.g; glob = I.glob; mine = λ j. by j (eqb j i); triples = I.triples; held = I.held; raised = I.raised; sent = I.sent; sizes = I.sizes; active = I.active; asks = I.asks }
  where
    by : (j : ℕ) (t : Bool) → Mine n I.g j (readings_of (store j)) (cond t None (state j))
    by j true = record { fine = (I.mine j).fine; fits = tt; disk = (I.mine j).disk; state = tt }
    by j false = I.mine j

lost_stays : (store : ℕ → Store) (state : ℕ → Option State) (i j : ℕ) → Stays (readings_of (store j)) (state j) (readings_of (store j)) (put_at state i None j)
lost_stays store state i j = by (eqb j i)
  where
    by : (b : Bool) → Stays (readings_of (store j)) (state j) (readings_of (store j)) (cond b None (state j))
    by true = record { epoch = omega arith; promise = omega arith; level = omega arith; inside = λ a e. absurd (false≢true a) }
    by false = stays_refl (readings_of (store j)) (state j)

-- ---- an event

module _ (ms : Monitors) (w : World) (Told : Envelope → Type 0) where
  -- and what it does
  pub record Does (asked : List Asked) (I : InvWith ms w asked) : Type 0 where
    pub by : Arriving ms w Told asked I
    pub y : Course
    pub is : react (member_of ms by.rank by.lt) (shared_entries (w.store by.rank)) by.at (readings_of (w.store by.rank)) by.state by.came ≡ Ok y

  -- whatever an event makes of the world, this is so of it
  pub record Keeps (p : Plain) (I : InvWith ms w (with_asked p w.asked)) (P : World → Type 0) : Type 0 where
    pub nothing : P (unmoved w p)
    pub loses : (i : ℕ) → ltb i ms.count ≡ true → P (lost w p i)
    pub goes_on : (d : Does (with_asked p w.asked) I) → P (moved w p d.by.rank (reaction_of d.y))
    pub goes_down : (d : Does (with_asked p w.asked) I) → P (kept_only w p d.by.rank (reaction_of d.y))

  -- it is so whatever what is asked adds to the history
  pub each_event : (I : InvOf ms w) (P : World → Type 0) → AllByRecursion Told w.messages → (e : Event) → PlainFits ms.count (plain_of e)
      → ((J : InvWith ms w (with_asked (plain_of e) w.asked)) → Further I.g J.g → Keeps (plain_of e) J P) → IfOk (happens ms w e) P
  each_event I P T e F K = happening.each_event ms w P e k.nothing k.loses (λ d. k.goes_on (does d)) (λ d. k.goes_down (does d))
    where
      A : Adds ms w I (plain_of e)
      A = adds ms w I (plain_of e) F

      k : Keeps (plain_of e) A.0 P
      k = K A.0 A.1

      does : happening.Does ms w (plain_of e) → Does (with_asked (plain_of e) w.asked) A.0
      does d = record { by = arriving ms w Told (plain_of e) F T A.0 A.2 d.by; y = d.y; is = d.is }

-- every event keeps what holds, with a history that goes on
abbrev pub After : (ms : Monitors) (w : World) (asked : List Asked) → InvWith ms w asked → World → Type 0
After ms w asked I next = (J : InvOf ms next) × Further I.g J.g × Later w next

-- who starts is in no quorum
remembered : (o : Option State) (s : State) (rank : ℕ) → (o ≡ Some s) ⊎ (s ≡ booting rank) → is_member s.phase ≡ true → is_in o ≡ true
remembered o s rank (inl e) t = ap is_in e ∙ t
remembered o s rank (inr e) t = absurd (false≢true (ap (λ (z : State). is_member z.phase) (sym e) ∙ t))

pub each_keeps : (ms : Monitors) (w : World) (Told : Envelope → Type 0) (p : Plain) (J : InvWith ms w (with_asked p w.asked)) → Keeps ms w Told p J (After ms w (with_asked p w.asked) J)
unfolding unmoved moved kept_only lost goes_on_holds goes_down_holds lost_holds
each_keeps ms w Told p J = record {
  nothing = (J, further_refl J.g, record { each = λ j. stays_refl (readings_of (w.store j)) (w.state j); since = λ j v pn bytes a. inl a });
  loses = λ i lt. (lost_holds ms.count w.store w.state w.transactions w.messages w.active asked i J, further_refl J.g, record { each = lost_stays w.store w.state i; since = λ j v pn bytes a. inl a });
  goes_on = λ d. let a = d.by in (
    goes_on_holds w.store w.state w.transactions w.messages w.active asked (member_of ms a.rank a.lt) J a.at a.state a.came a.on a.fits a.holds (a.fine (shared_at a.rank)) d.y d.is,
    further d,
    record {
      each = each_stays w.store w.state w.transactions w.messages w.active asked (member_of ms a.rank a.lt) J a.at a.state a.came a.on a.fits a.holds (a.fine (shared_at a.rank)) d.y d.is (Some d.y.state) (λ b. b) (remembered (w.state a.rank) a.state a.rank a.remembers);
      since = accepted_since w.store w.state w.transactions w.messages w.active asked (member_of ms a.rank a.lt) J a.at a.state a.came a.on a.fits a.holds (a.fine (shared_at a.rank)) d.y d.is;
    },
  );
  goes_down = λ d. let a = d.by in (
    goes_down_holds w.store w.state w.transactions w.messages w.active asked (member_of ms a.rank a.lt) J a.at a.state a.came a.on a.fits a.holds (a.fine (shared_at a.rank)) d.y d.is,
    further d,
    record {
      each = each_stays w.store w.state w.transactions w.messages w.active asked (member_of ms a.rank a.lt) J a.at a.state a.came a.on a.fits a.holds (a.fine (shared_at a.rank)) d.y d.is None (λ b. absurd (false≢true b)) (remembered (w.state a.rank) a.state a.rank a.remembers);
      since = accepted_since w.store w.state w.transactions w.messages w.active asked (member_of ms a.rank a.lt) J a.at a.state a.came a.on a.fits a.holds (a.fine (shared_at a.rank)) d.y d.is;
    },
  );
}
  where
    asked : List Asked
    asked = with_asked p w.asked

    shared_at : (rank : ℕ) → AllByRecursion EntryFine (shared_entries (w.store rank))
    shared_at rank = sharing (w.store rank) (J.mine rank).fine.records

    further : (d : Does ms w Told asked J) → Further J.g (good w.store w.state w.transactions w.messages w.active asked (member_of ms d.by.rank d.by.lt) J d.by.at d.by.state d.by.came d.by.on d.by.fits d.by.holds (d.by.fine (shared_at d.by.rank)) d.y d.is).h
    further d = let a = d.by in let k = good w.store w.state w.transactions w.messages w.active asked (member_of ms a.rank a.lt) J a.at a.state a.came a.on a.fits a.holds (a.fine (shared_at a.rank)) d.y d.is in further_ext a.rank J.g k.h k.ext

abbrev any_told : Envelope → Type 0
any_told e = Unit {0}

all_told : (es : List Envelope) → AllByRecursion any_told es
all_told [] = tt
all_told (e ∷ es) = (tt, all_told es)

pub event_holds : (ms : Monitors) (w : World) (e : Event) → PlainFits ms.count (plain_of e) → (I : InvOf ms w) → IfOk (happens ms w e) (After ms w w.asked I)
event_holds ms w e F I = each_event ms w any_told I (After ms w w.asked I) (all_told w.messages) e F (λ J up. from J up (each_keeps ms w any_told (plain_of e) J))
  where
    later : (asked : List Asked) (J : InvWith ms w asked) → Further I.g J.g → (next : World) → After ms w asked J next → After ms w w.asked I next
    later asked J up next k = (k.0, further_trans I.g J.g k.0.g up k.1, k.2)

    from : (J : InvWith ms w (with_asked (plain_of e) w.asked)) → Further I.g J.g → Keeps ms w any_told (plain_of e) J (After ms w (with_asked (plain_of e) w.asked) J) → Keeps ms w any_told (plain_of e) J (After ms w w.asked I)
    from J up K = record {
      nothing = later _ J up _ K.nothing;
      loses = λ i lt. later _ J up _ (K.loses i lt);
      goes_on = λ d. later _ J up _ (K.goes_on d);
      goes_down = λ d. later _ J up _ (K.goes_down d);
    }

-- ---- runs

-- what holds after events that follow, with a history that goes on
abbrev pub GoesOn : (ms : Monitors) (w next : World) → InvOf ms w → Type 0
GoesOn ms w next I = After ms w w.asked I next

abbrev Fits : Monitors → Event → Type 0
Fits ms e = PlainFits ms.count (plain_of e)

abbrev Goes : (ms : Monitors) (w : World) → InvOf ms w → (next : World) → InvOf ms next → Type 0
Goes ms w I next J = Further I.g J.g × Later w next

next_holds : (ms : Monitors) (w : World) (e : Event) → Fits ms e → (I : InvOf ms w) (next : World) → happens ms w e ≡ Ok next → Leads ms (Fits ms) (InvOf ms) (Goes ms) w I next
next_holds ms w e F I next q = let z = of_next (λ (next : World). GoesOn ms w next I) (happens ms w e) next q (event_holds ms w e F I) in (z.0, (z.1, z.2))

run_holds : (ms : Monitors) (w : World) (events : List Event) → AllFit ms.count events → (I : InvOf ms w) → GoesOn ms w (run_from ms w events) I
run_holds ms w events F I =
    let z = run_leads ms (Fits ms) (InvOf ms) (Goes ms) (λ w I. (further_refl I.g, later_refl w)) (λ u v w I J K a b. (further_trans I.g J.g K.g a.0 b.0, later_trans u v w a.1 b.1)) (next_holds ms) w events F I in
    (z.0, z.1.0, z.1.1)

pub all_runs : (ms : Monitors) (events : List Event) → AllFit ms.count events → InvOf ms (run ms events)
all_runs ms events F = (run_holds ms first_world events F (at_first ms)).0

-- a run, and one that goes on
abbrev BothHold : Monitors → World → World → Type 0
BothHold ms v w = (I : InvOf ms v) × (J : InvOf ms w) × ((r : Entry) → Among r I.g.roles → Among r J.g.roles) × Later v w

pub both_runs : (ms : Monitors) (w : World) (a b : List Event) → AllFit ms.count (a ++ b) → InvOf ms w → BothHold ms (run_from ms w a) (run_from ms w (a ++ b))
both_runs ms w a b F I = runs_apart ms (Fits ms) (InvOf ms) (λ w e fits I next q. (next_holds ms w e fits I next q).0) (BothHold ms) b (λ w I F. (let z = run_holds ms w b F I in (I, z.0, z.1.roles, z.2))) (λ w I. (I, I, λ r a. a, later_refl w)) w a F I
