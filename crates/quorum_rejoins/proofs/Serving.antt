-- Any majority that has room catches up. It serves if it is ready and none of its members lacks from 2 to 11 versions.
use Rattle.law_names.proofs.Runs.{AllFit, Arrives, Client, Crash, Deliver, Event, IsCommand, Monitors, PlainFits, Ran, Ring, Start, World, first_world, plain_of, ran, run, run_from}
use Rattle.law_names.proofs.Table.{Command, Session, has, is_too_long, or_zero}
use Rattle.log_model.proofs.Lists.{all_append}
use Rattle.quorum_elects.proofs.Can.{Can, Scope, steps_append, weaker}
use Rattle.quorum_elects.proofs.Elected.{near_lacks, way_on}
use Rattle.quorum_elects.proofs.Steps.{steps_fit}
use Rattle.quorum_elects.specs.Ready.{AllNear, HasRoom, IsReady, LacksAtMost}
use Rattle.quorum_elects.specs.Ways.{AreSteps, Clock, ComesInLease, HasWay, IsStep, OthersRest}
use Rattle.quorum_laws.specs.Accepting.{IsMajorityOf}
use Rattle.quorum_model.proofs.Continuing.{at, ran_on}
use Rattle.quorum_near.proofs.Whole.{every}
use Rattle.quorum_near.specs.Near.{IsNear}
use Rattle.quorum_recovers.proofs.Asked.{request_fits}
use Rattle.quorum_recovers.proofs.Served.{close_serve, serves_any}
use Rattle.quorum_recovers.specs.Serving.{IsServed}
use Rattle.quorum_rejoins.proofs.Rejoined.{AllCaught, all_catch_up}
use Rattle.quorum_rejoins.specs.Lagging.{CaughtUp, HaveRoom, NoneBetween}
use Rattle.std.proofs.Common.{Bool, List, None, Option, Some, [], ap, append_assoc, arith, false, inl, inr, length, refl, subst, sym, true, ℕ, ◌*◌, ◌++◌, ◌+◌, ◌<◌, ◌∙◌, ◌∷◌, ◌≡◌, ◌≤◌, ◌⊎◌}
use Rattle.std.proofs.lemmas.Bool.{cases_order}
use Rattle.std.proofs.lemmas.List.{append-nil, length-append}

-- ---- several monitors

several_catch_up : (ms : Monitors) → 1 < ms.count → (events : List Event) → AllFit ms.count events → (ran ms events).stop ≡ None → (q : List Bool) → IsMajorityOf ms.count q → HaveRoom q (run ms events) → (clock : Clock) → HasWay ms events q None clock (1850 * ms.count + 1) (CaughtUp q)
several_catch_up ms several events F on q M R clock =
    let there : ran ms events ≡ at (run ms events) = λ j. record { world = run ms events; stop = on j } in
    way_on ms events there q M.below None clock tt (1850 * ms.count + 1) (CaughtUp q)
    (weaker (record { ms = ms; q = q; sent = length (run ms events).messages; asks = None; clock = clock }) (omega arith) (λ w o A. A.caught) (all_catch_up ms several events F there q M R None clock))

-- a step of later events is one of these
later_step : (q : List Bool) (sent more : ℕ) (asks : Option (Session × Command)) (clock : Clock) → sent ≤ more → (w : World) (e : Event) → IsStep q more asks clock w e → IsStep q sent asks clock w e
later_step q sent more asks clock le w (Arrives (Start rank at)) h = h
later_step q sent more asks clock le w (Arrives (Deliver message at)) h = (h.0, (let z = h.1 in omega arith), h.2)
later_step q sent more asks clock le w (Arrives (Ring rank timer at)) h = h
later_step q sent more asks clock le w (Arrives (Client rank at session r)) h = h
later_step q sent more asks clock le w (Crash p kept) h = h

later_steps : (ms : Monitors) (q : List Bool) (sent more : ℕ) (asks : Option (Session × Command)) (clock : Clock) → sent ≤ more → (w : World) (es : List Event) → AreSteps ms q more asks clock w es → AreSteps ms q sent asks clock w es
later_steps ms q sent more asks clock le w [] h = tt
later_steps ms q sent more asks clock le w (e ∷ es) h = (later_step q sent more asks clock le w e h.0, later_steps ms q sent more asks clock le (run_from ms w (e ∷ [])) es h.1)

-- an answer is one to what was asked before, if the log was the same
served_before : (n : ℕ) (s : Session) (c : Command) (a b w : World) → b.log ≡ a.log → a.events ≤ b.events → IsServed n s c b w → IsServed n s c a w
served_before n s c a b w same le V = record {
  by = V.by;
  among = V.among;
  later = (let z = V.later in omega arith);
  session = V.session;
  answer = elim V.answer [
    | inl D ↦ inl (record { v = D.v; done = D.done; new = (let z = D.new in let e = ap (λ (l : List (List ℕ)). length l) same in omega arith); near = (let z = D.near in let e = ap (λ (l : List (List ℕ)). length l) same in omega arith); within = D.within; made = D.made })
    | inr F ↦ inr F
  ];
}

-- a way that goes on after what a majority can do
module _ (ms : Monitors) (several : 1 < ms.count) (events : List Event) (F : AllFit ms.count events) (on : (ran ms events).stop ≡ None) (q : List Bool) (M : IsMajorityOf ms.count q) (R : HaveRoom q (run ms events)) (may : IsReady ms q (run ms events)) (between : NoneBetween q (run ms events))
    (s : Session) (c : Command) (form : IsCommand c) (brief : is_too_long c ≡ false) (clock : Clock) (leased : ComesInLease q clock) where
  abbrev n : ℕ
  n = ms.count

  abbrev asks : Option (Session × Command)
  asks = Some (s, c)

  abbrev S : Scope
  S = record { ms = ms; q = q; sent = length (run ms events).messages; asks = Some (s, c); clock = clock }

  abbrev there : ran ms events ≡ at (run ms events)
  there = λ j. record { world = run ms events; stop = on j }

  abbrev Caught : World → Type 0
  Caught w = AllCaught ms several events F there q M R (Some (s, c)) clock w

  module _ (C : Can S (1850 * ms.count + 1) Caught (run ms events)) where
    abbrev further : List Event
    further = events ++ C.events

    reached : ran ms further ≡ at C.next
    reached = ran_on ms first_world (run ms events) events C.events there ∙ C.goes

    next_is : run ms further ≡ C.next
    next_is = ap (λ (r : Ran). r.world) reached

    steps_of : AllFit ms.count C.events
    steps_of = steps_fit ms q (length (run ms events).messages) M.below (Some (s, c)) (request_fits c form) clock (run ms events) C.events C.steps

    F2 : AllFit ms.count further
    F2 = all_append (λ e. PlainFits ms.count (plain_of e)) events C.events F steps_of

    A : Caught C.next
    A = C.there

    near : (i : ℕ) → has q i ≡ true → LacksAtMost 1 C.next i
    near i h = let U = A.caught in elim (between i h) [
      | inl close ↦ stayed i h close
      | inr far ↦ U.copied i h far
    ]
      where
        stayed : (i : ℕ) → has q i ≡ true → LacksAtMost 1 (run ms events) i → LacksAtMost 1 C.next i
        stayed i h L = let U = A.caught in let V = U.near i h in record { unmarked = V.unmarked; near = (let z = L.near in let y = U.more i h in let e = ap (λ (l : List (List ℕ)). length l) U.log in omega arith) }

    ready : IsReady ms q C.next
    ready =
        let U = A.caught in
        record {
          leader = may.leader;
          among = may.among;
          may_lead = may.may_lead;
          monitors = λ i h. (let K = A.kept i h in let X = R.monitors i h in let N = X.numbers in let boot = R.starts i h in let short = (A.room).short i h in record {
            numbers = record {
              boot = (let z = K.boot in omega arith);
              epoch = (let e = K.epoch in let z = N.epoch in omega arith);
              number = subst (λ (o : Option ℕ). HasRoom (or_zero o)) (sym K.last_pn) N.number;
              promise = subst (λ (o : Option ℕ). HasRoom (or_zero o)) (sym K.promise) N.promise;
            };
            store = λ p x own e. short p x e;
          });
          log = subst (λ (l : List (List ℕ)). HasRoom (length l)) (sym U.log) R.log;
        }

    serves : HasWay ms further q (Some (s, c)) clock (2 * ms.count * ms.count + 14 * ms.count + 5) (IsServed ms.count s c)
    serves = close_serve ms several further F2 (ap (λ (r : Ran). r.stop) reached) q M
        (λ i h. subst (λ (w : World). LacksAtMost 1 w i) (sym next_is) (near i h)) (subst (IsReady ms q) (sym next_is) ready) s c form brief clock leased

    joined : events ++ (C.events ++ serves.more) ≡ further ++ serves.more
    joined = sym (append_assoc events C.events serves.more)

    grows : length (run ms events).messages ≤ length (run ms further).messages
    grows = let o = C.onward in let e = ap (λ (w : World). length w.messages) next_is in let z = ap (λ l. length l) o.messages in let y = length-append (run ms events).messages o.more in omega arith

    both : HasWay ms events q (Some (s, c)) clock (2 * ms.count * ms.count + 1864 * ms.count + 6) (IsServed ms.count s c)
    both = record {
      more = C.events ++ serves.more;
      few = (let a = C.few in let b = serves.few in let l = length-append C.events serves.more in omega arith);
      steps = steps_append ms q (length (run ms events).messages) (Some (s, c)) clock (run ms events) C.next C.events serves.more C.steps C.goes
          (later_steps ms q (length (run ms events).messages) (length (run ms further).messages) (Some (s, c)) clock grows C.next serves.more (subst (λ (w : World). AreSteps ms q (length (run ms further).messages) (Some (s, c)) clock w serves.more) next_is serves.steps));
      fits = all_append (λ e. PlainFits ms.count (plain_of e)) C.events serves.more steps_of serves.fits;
      goes_on = subst (λ (es : List Event). (ran ms es).stop ≡ None) (sym joined) serves.goes_on;
      rest = λ i out. (let a = (C.onward).rest i out in let b = subst (λ (es : List Event). OthersRest q (run ms further) (run ms es)) (sym joined) serves.rest i out in (b.0 ∙ ap (λ (w : World). w.state i) next_is ∙ a.0, b.1 ∙ ap (λ (w : World). w.store i) next_is ∙ a.1));
      leads = subst (λ (es : List Event). IsServed ms.count s c (run ms events) (run ms es)) (sym joined)
          (served_before ms.count s c (run ms events) (run ms further) (run ms (further ++ serves.more)) (ap (λ (w : World). w.log) next_is ∙ (let U = A.caught in U.log)) (let z = (C.onward).elapsed in let e = ap (λ (w : World). w.events) next_is in omega arith) serves.leads);
    }

several_serve : (ms : Monitors) → 1 < ms.count → (events : List Event) → AllFit ms.count events → (ran ms events).stop ≡ None → (q : List Bool) → IsMajorityOf ms.count q → HaveRoom q (run ms events) → IsReady ms q (run ms events) → NoneBetween q (run ms events)
    → (s : Session) (c : Command) → IsCommand c → is_too_long c ≡ false → (clock : Clock) → ComesInLease q clock → HasWay ms events q (Some (s, c)) clock (2 * ms.count * ms.count + 1864 * ms.count + 6) (IsServed ms.count s c)
several_serve ms several events F on q M R may between s c form brief clock leased =
    both ms several events F on q M R may between s c form brief clock leased (all_catch_up ms several events F (λ j. record { world = run ms events; stop = on j }) q M R (Some (s, c)) clock)

-- ---- one alone, which has the whole log

module _ (ms : Monitors) (one : ms.count ≡ 1) (events : List Event) (F : AllFit ms.count events) (on : (ran ms events).stop ≡ None) (q : List Bool) (M : IsMajorityOf ms.count q) (clock : Clock) where
  near_alone : AllNear q (run ms events)
  near_alone i h =
      let N = every ms events F (omega arith) q M in
      let a = M.below i h in
      let b = M.below N.rank N.within in
      subst (IsNear (run ms events)) (let e : N.rank ≡ i = omega arith in e) N.near

  lacks : (i : ℕ) → has q i ≡ true → LacksAtMost 1 (run ms events) i
  lacks i h = near_lacks (run ms events) i (near_alone i h)

  caught : CaughtUp q (run ms events) (run ms events)
  caught = record {
    log = refl;
    near = λ i h. (let L = lacks i h in record { unmarked = L.unmarked; near = (let z = L.near in omega arith) });
    more = λ i h. omega arith;
    copied = λ i h more. lacks i h;
  }

  catches_alone : HasWay ms events q None clock (1850 * ms.count + 1) (CaughtUp q)
  catches_alone = record {
    more = [];
    few = omega arith;
    steps = tt;
    fits = tt;
    goes_on = subst (λ (es : List Event). (ran ms es).stop ≡ None) (sym (append-nil events)) on;
    rest = subst (λ (es : List Event). OthersRest q (run ms events) (run ms es)) (sym (append-nil events)) (λ i out. (refl, refl));
    leads = subst (λ (es : List Event). CaughtUp q (run ms events) (run ms es)) (sym (append-nil events)) caught;
  }

-- ---- the laws

pub catches_up : (ms : Monitors) → 1 ≤ ms.count → (events : List Event) → AllFit ms.count events → (ran ms events).stop ≡ None → (q : List Bool) → IsMajorityOf ms.count q → HaveRoom q (run ms events) → (clock : Clock) → HasWay ms events q None clock (1850 * ms.count + 1) (CaughtUp q)
catches_up ms some events F on q M R clock = by (cases_order 1 ms.count)
  where
    by : (1 ≡ ms.count) ⊎ ((1 < ms.count) ⊎ (ms.count < 1)) → HasWay ms events q None clock (1850 * ms.count + 1) (CaughtUp q)
    by (inl e) = catches_alone ms (sym e) events F on q M clock
    by (inr (inl several)) = several_catch_up ms several events F on q M R clock
    by (inr (inr none)) = absurd (omega arith)

pub far_serves : (ms : Monitors) → 1 ≤ ms.count → (events : List Event) → AllFit ms.count events → (ran ms events).stop ≡ None → (q : List Bool) → IsMajorityOf ms.count q → HaveRoom q (run ms events) → IsReady ms q (run ms events) → NoneBetween q (run ms events)
    → (s : Session) (c : Command) → IsCommand c → is_too_long c ≡ false → (clock : Clock) → ComesInLease q clock → HasWay ms events q (Some (s, c)) clock (2 * ms.count * ms.count + 1864 * ms.count + 6) (IsServed ms.count s c)
far_serves ms some events F on q M R may between s c form brief clock leased = by (cases_order 1 ms.count)
  where
    by : (1 ≡ ms.count) ⊎ ((1 < ms.count) ⊎ (ms.count < 1)) → HasWay ms events q (Some (s, c)) clock (2 * ms.count * ms.count + 1864 * ms.count + 6) (IsServed ms.count s c)
    by (inl e) = let W = serves_any ms some events F on q M (near_alone ms (sym e) events F on q M clock) may s c form brief clock leased in record { more = W.more; few = (let z = W.few in omega arith); steps = W.steps; fits = W.fits; goes_on = W.goes_on; rest = W.rest; leads = W.leads }
    by (inr (inl several)) = several_serve ms several events F on q M R may between s c form brief clock leased
    by (inr (inr none)) = absurd (omega arith)
