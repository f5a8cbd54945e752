-- Further events of some monitors, one after the other, which lead to a world of some kind.
use Rattle.calm_sizes.specs.Sizes.{AllShort, longest}
use Rattle.law_names.proofs.Runs.{Arrives, Deliver, Envelope, Event, Monitors, Ran, Reached, Stop, World, goes_on, happens, ran_from, run_from}
use Rattle.law_names.proofs.Table.{Command, Message, Session, has}
use Rattle.log_model.proofs.Logs.{IsPrefixOf, log_prefix_itself}
use Rattle.quorum_elects.specs.Ways.{AreSteps, Clock, IsStep, OthersRest}
use Rattle.quorum_model.proofs.Continuing.{at, ran_on}
use Rattle.quorum_model.proofs.Reached.{world_is}
use Rattle.quorum_near.proofs.Whole.{Holds, held}
use Rattle.quorum_walk.proofs.Lists.{Among}
use Rattle.std.proofs.Common.{Bool, Err, IsSomeAnd, List, None, Ok, Option, Result, Some, [], ap, arith, inl, inr, length, refl, slice_get, subst, suc, sym, true, zero, ℕ, ◌*◌, ◌++◌, ◌+◌, ◌<◌, ◌∙◌, ◌∷◌, ◌≡◌, ◌≤◌}
use Rattle.std.proofs.Math.Nat.{mul-suc}
use Rattle.std.proofs.lemmas.List.{length-append}

-- ---- messages that were sent since

pub record New (sent : ℕ) (w : World) (e : Envelope) : Type 0 where
  pub index : ℕ
  pub since : sent ≤ index
  pub there : slice_get w.messages index ≡ Some e

get_left : (xs ys : List Envelope) (k : ℕ) (e : Envelope) → slice_get xs k ≡ Some e → slice_get (xs ++ ys) k ≡ Some e
get_left [] ys k e h = absurd cc
get_left (x ∷ xs) ys zero e h = h
get_left (x ∷ xs) ys (suc k) e h = get_left xs ys k e h

record AtIndex (xs : List Envelope) (from : ℕ) (e : Envelope) : Type 0 where
  index : ℕ
  since : from ≤ index
  there : slice_get xs index ≡ Some e

get_right : (xs ys : List Envelope) (e : Envelope) → Among e ys → AtIndex (xs ++ ys) (length xs) e
get_right [] [] e a = absurd a
get_right [] (y ∷ ys) e a = elim a [
  | inl is ↦ record { index = 0; since = omega arith; there = ap Some (sym is) }
  | inr o ↦ (let r = get_right [] ys e o in record { index = suc r.index; since = omega arith; there = r.there })
]
get_right (x ∷ xs) ys e a = let r = get_right xs ys e a in record { index = suc r.index; since = (let s = r.since in omega arith); there = r.there }

pub new_added : (sent : ℕ) (w next : World) (more : List Envelope) (e : Envelope) → next.messages ≡ w.messages ++ more → sent ≤ length w.messages → Among e more → New sent next e
new_added sent w next more e is le a =
    let r = get_right w.messages more e a in
    record { index = r.index; since = (let s = r.since in omega arith); there = subst (λ (l : List Envelope). slice_get l r.index ≡ Some e) (sym is) r.there }

-- that one of q gets it is a step
pub new_step : {sent : ℕ} {w : World} {i : ℕ} {m : Message} (q : List Bool) (asks : Option (Session × Command)) (clock : Clock) (N : New sent w (record { to = i; message = m })) → has q i ≡ true → IsStep q sent asks clock w (Arrives (Deliver (suc N.index) (clock.event w)))
new_step q asks clock N inside = (refl, (let z = N.since in omega arith), subst (λ (o : Option Envelope). IsSomeAnd o (λ e. has q e.to ≡ true)) (sym N.there) inside)

-- ---- runs of some events and then others

-- if a run over xs and then ys ends in v, so does the run over ys from the world after xs
pub run_splits : (ms : Monitors) (w v : World) (xs ys : List Event) → ran_from ms w (xs ++ ys) ≡ at v → ran_from ms (run_from ms w xs) ys ≡ at v
unfolding ran_from
run_splits ms w v [] ys e = e
run_splits ms w v (x ∷ xs) ys e = by (happens ms w x) (λ next. run_splits ms next v xs ys) e
  where
    by : (r : Result World Stop) → ((next : World) → ran_from ms next (xs ++ ys) ≡ at v → ran_from ms (run_from ms next xs) ys ≡ at v)
        → goes_on w (λ next. ran_from ms next (xs ++ ys)) r ≡ at v → ran_from ms ((goes_on w (λ next. ran_from ms next xs) r).world) ys ≡ at v
    by (Ok next) h e = h next e
    by (Err stop) h e = absurd (let z : ◌≡◌ {A = Option Stop} (Some stop) None = ap (λ (r : Ran). r.stop) e in cc)

-- a run over no events ends where it began
pub run_stays : (ms : Monitors) (w v : World) → ran_from ms w [] ≡ at v → w ≡ v
unfolding ran_from
run_stays ms w v e = ap (λ (r : Ran). r.world) e

-- steps and then further steps
pub steps_append : (ms : Monitors) (q : List Bool) (sent : ℕ) (asks : Option (Session × Command)) (clock : Clock) (w v : World) (xs ys : List Event) → AreSteps ms q sent asks clock w xs → ran_from ms w xs ≡ at v → AreSteps ms q sent asks clock v ys → AreSteps ms q sent asks clock w (xs ++ ys)
steps_append ms q sent asks clock w v [] ys a e b = subst (λ (u : World). AreSteps ms q sent asks clock u ys) (sym (run_stays ms w v e)) b
steps_append ms q sent asks clock w v (x ∷ xs) ys a e b = (a.0, steps_append ms q sent asks clock (run_from ms w (x ∷ [])) v xs ys a.1 (run_splits ms w v (x ∷ []) xs e) b)

-- ---- worlds that a run reaches

pub reached_holds : (ms : Monitors) (several : 1 < ms.count) (w : World) → Reached ms w → Holds ms several w
reached_holds ms several w R = subst (Holds ms several) (world_is ms w R) (held ms several R.events R.fit)

-- The scope of further events: each is a step of the monitors of q after the first `sent` messages of a run of ms, and
-- the only request is `asks`. They come at the times of a clock.
pub record Scope : Type 0 where
  pub ms : Monitors
  pub q : List Bool
  pub sent : ℕ
  pub asks : Option (Session × Command)
  pub clock : Clock

-- a world from which they go on: a run reaches it, and the stores of q have no long value
pub record Sane (S : Scope) (w : World) : Type 0 where
  pub since : S.sent ≤ length w.messages
  pub reached : Reached S.ms w
  pub short : (i : ℕ) → has S.q i ≡ true → AllShort longest (w.store i)

pub log_prefix_on : {a b c : List (List ℕ)} → IsPrefixOf a b → IsPrefixOf b c → IsPrefixOf a c
log_prefix_on F G = record { short = (let p = F.short in let q = G.short in omega arith); same = λ i lt. (let p = F.short in G.same i (omega arith)) ∙ F.same i lt }

module _ (S : Scope) where
  -- ---- what stays

  -- all others are as they were, and messages, the log and the count of events only grew
  pub record Onward (w next : World) : Type 0 where
    pub rest : OthersRest S.q w next
    pub more : List Envelope
    pub messages : next.messages ≡ w.messages ++ more
    pub sane : Sane S w → Sane S next
    pub log_prefix : IsPrefixOf w.log next.log
    pub elapsed : w.events ≤ next.events

  pub onward_not : (w : World) → Onward w w
  onward_not w = record { rest = λ i out. (refl, refl); more = []; messages = nothing w.messages; sane = λ k. k; log_prefix = log_prefix_itself w.log; elapsed = omega arith }
    where
      nothing : (xs : List Envelope) → xs ≡ xs ++ []
      nothing [] = refl
      nothing (x ∷ xs) = ap (λ (l : List Envelope). x ∷ l) (nothing xs)

  pub onward_on : (a b c : World) → Onward a b → Onward b c → Onward a c
  onward_on a b c x y = record {
    rest = λ i out. ((y.rest i out).0 ∙ (x.rest i out).0, (y.rest i out).1 ∙ (x.rest i out).1);
    more = x.more ++ y.more;
    messages = y.messages ∙ ap (λ (l : List Envelope). l ++ y.more) x.messages ∙ assoc a.messages x.more y.more;
    sane = λ k. y.sane (x.sane k);
    log_prefix = log_prefix_on x.log_prefix y.log_prefix;
    elapsed = (let p = x.elapsed in let r = y.elapsed in omega arith);
  }
    where
      assoc : (xs ys zs : List Envelope) → (xs ++ ys) ++ zs ≡ xs ++ (ys ++ zs)
      assoc [] ys zs = refl
      assoc (x ∷ xs) ys zs = ap (λ (l : List Envelope). x ∷ l) (assoc xs ys zs)

  pub new_stays : {sent : ℕ} {a b : World} {e : Envelope} → Onward a b → New sent a e → New sent b e
  new_stays {sent} {a} {b} {e} x k = record { index = k.index; since = k.since; there = subst (λ (l : List Envelope). slice_get l k.index ≡ Some e) (sym x.messages) (get_left a.messages x.more k.index e k.there) }

  -- ---- events one after the other

  -- from w at most `most` steps lead to a world with P, and none of them stops the run
  pub record Can (most : ℕ) (P : World → Type 0) (w : World) : Type 0 where
    pub events : List Event
    pub few : length events ≤ most
    pub steps : AreSteps S.ms S.q S.sent S.asks S.clock w events
    pub next : World
    pub goes : ran_from S.ms w events ≡ at next
    pub onward : Onward w next
    pub there : P next

  pub here : (P : World → Type 0) (w : World) → P w → Can 0 P w
  unfolding ran_from
  here P w p = record { events = []; few = omega arith; steps = tt; next = w; goes = refl; onward = onward_not w; there = p }

  unfoldable pub weaker : {k l : ℕ} {P R : World → Type 0} {w : World} → k ≤ l → ((v : World) → Onward w v → P v → R v) → Can k P w → Can l R w
  weaker {k} {l} {P} {R} {w} le f C = record { events = C.events; few = (let s = C.few in omega arith); steps = C.steps; next = C.next; goes = C.goes; onward = C.onward; there = f C.next C.onward C.there }

  -- no step is needed if P already holds
  pub rests : {k : ℕ} {P : World → Type 0} {w : World} → P w → Can k P w
  rests {k} {P} {w} p = weaker (omega arith) (λ v o x. x) (here P w p)

  unfoldable pub then : {k l : ℕ} {P R : World → Type 0} {w : World} → Can k P w → ((v : World) → Onward w v → P v → Can l R v) → Can (k + l) R w
  then {k} {l} {P} {R} {w} C f =
      let D : Can l R C.next = f C.next C.onward C.there in
      record {
        events = C.events ++ D.events;
        few = (let a = C.few in let b = D.few in let s = length-append C.events D.events in omega arith);
        steps = steps_append S.ms S.q S.sent S.asks S.clock w C.next C.events D.events C.steps C.goes D.steps;
        next = D.next;
        goes = ran_on S.ms w C.next C.events D.events C.goes ∙ D.goes;
        onward = onward_on w C.next D.next C.onward D.onward;
        there = D.there;
      }

  -- for each rank, one after the other
  pub for_each : (n c : ℕ) (Inv : ℕ → World → Type 0) → ((k : ℕ) (w : World) → k < n → Inv k w → Can c (Inv (suc k)) w)
      → (j k : ℕ) → k + j ≡ n → (w : World) → Inv k w → Can (c * j) (Inv n) w
  for_each n c Inv step zero k e w h = rests (subst (λ (m : ℕ). Inv m w) (let z : k ≡ n = omega arith in z) h)
  for_each n c Inv step (suc j) k e w h = weaker (product j) (λ v o p. p) (then (step k w (omega arith) h) (λ v o i. for_each n c Inv step j (suc k) (omega arith) v i))
    where
      product : (j : ℕ) → c + c * j ≤ c * suc j
      product j = let z = mul-suc c j in omega arith
