-- Every run keeps what is known of requests, so that each version of the log is of its own.
use Rattle.law_names.proofs.Runs.{AllFit, Asked, Envelope, Event, Monitors, Plain, PlainFits, World, first_world, happens, kept_only, lost, messages_of, moved, plain_of, put_at, run, unmoved, with_asked}
use Rattle.law_names.proofs.Table.{AllByRecursion, Session, State, Store, encoded, entry, epoch_of, joined, reaction_of, readings_of}
use Rattle.quorum_agreement.proofs.Grown.{GrowsByOne}
use Rattle.quorum_agreement.proofs.LoneWorlds.{IsWhole}
use Rattle.quorum_agreement.proofs.SafeWorlds.{put_same}
use Rattle.quorum_commands.proofs.Basis.{Basis, basis}
use Rattle.quorum_commands.proofs.Coming.{Does, each_event, next}
use Rattle.quorum_commands.proofs.Places.{Begun, Lasts, Nowhere, Place, Places, Tickets}
use Rattle.quorum_commands.proofs.Sources.{Anybody, SettledBy, anybody, asks_longer, asks_more}
use Rattle.quorum_commands.proofs.Steps.{Here, Leaves, leaves}
use Rattle.quorum_commands.proofs.Worlds.{asked_more, fewer, goes_last, goes_on}
use Rattle.quorum_commands.specs.Once.{CommittedOnce, IsOf}
use Rattle.quorum_laws.proofs.Events as laws
use Rattle.quorum_laws.proofs.Events.{event_holds}
use Rattle.quorum_laws.proofs.Invariant.{InvOf}
use Rattle.quorum_laws.proofs.Later.{Later, Stays}
use Rattle.quorum_laws.specs.Accepting.{AcceptedIn}
use Rattle.quorum_model.proofs.Happening.{Leads, of_next, run_leads, runs_apart}
use Rattle.std.proofs.Common.{Bool, Err, IfOk, List, None, Ok, Option, Result, Some, [], ap, arith, cond, eqb, false, inl, inr, length, refl, subst, suc, sym, true, ℕ, ◌++◌, ◌<◌, ◌∙◌, ◌∷◌, ◌≡◌, ◌≤◌, ◌⊎◌}
use Rattle.std.proofs.lemmas.Bool.{cases_lt, eqb-false, ltb-true}
use Rattle.std.proofs.lemmas.Option.{slice_get_within}

-- ---- what is put at one place

-- if nothing is put, nothing is
pub none_put : (f g : ℕ → Option State) (i : ℕ) → ((j : ℕ) → (j ≡ i → ⊥) → g j ≡ f j) → (j : ℕ) (s : State) → put_at f i None j ≡ Some s → g j ≡ Some s
none_put f g i same j s = by (eqb j i) refl
  where
    by : (b : Bool) → eqb j i ≡ b → cond b None (f j) ≡ Some s → g j ≡ Some s
    by true t e = absurd cc
    by false t e = same j (eqb-false j i t) ∙ e

pub front : (P : Envelope → Type 0) (xs ys : List Envelope) → AllByRecursion P (xs ++ ys) → AllByRecursion P xs
front P [] ys h = tt
front P (x ∷ xs) ys h = (h.0, front P xs ys h.1)

-- of two facts a third
pub if_both : {A E : Type 0} (P Q R : A → Type 0) → ((x : A) → P x → Q x → R x) → (r : Result A E) → IfOk r P → IfOk r Q → IfOk r R
if_both P Q R f (Ok x) p q = f x p q
if_both P Q R f (Err e) p q = tt

abbrev pub TicketsIn : Monitors → Places → World → Type 0
TicketsIn ms places w = Tickets ms.count places w.store w.state w.transactions w.messages w.asked w.log

-- what is known of requests in a world that follows on another one
record Has (ms : Monitors) (w next : World) (places : Places) : Type 0 where
  after : Places
  tickets : TicketsIn ms after next
  lasts : Lasts ms.count w.asked next.asked w.log next.log places after

pub first_tickets : (ms : Monitors) → TicketsIn ms (λ k. Nowhere) first_world
first_tickets ms = record { free = λ k le. refl; waits = λ i. tt; forwards = tt; begun = λ k v bytes e. absurd cc; accepted = λ several i v q bytes a. absurd (nothing_accepted v q bytes a); logged = λ v lt. absurd (omega arith) }
  where
    nothing_accepted : (v q : ℕ) (bytes : List ℕ) → AcceptedIn [] v q bytes → ⊥
    nothing_accepted v q bytes a = let lt = a.among.1 in omega arith

-- what one request began is for one version
abbrev pub version_of : Place → ℕ
version_of (Begun v bytes) = v
version_of other = 0

-- ---- one event, over whatever is known of the log

module _ (ms : Monitors) (D : Basis ms) where
  abbrev n : ℕ
  n = ms.count

  abbrev pub Follows : World → World → Type 0
  Follows w next = (D.holds next × GrowsByOne w.log next.log) × Later w next

  -- what is known of requests after an event
  module _ (w : World) (p : Plain) (B : D.holds w) (I : InvOf ms w) (places : Places) (T : TicketsIn ms places w) where
    abbrev asked : List Asked
    asked = with_asked p w.asked

    more : Tickets n places w.store w.state w.transactions w.messages asked w.log
    more = let L = D.one w B in asked_more n places w.store w.state w.transactions w.messages w.asked asked w.log L.short L.values (asks_more p w.asked) (asks_longer p w.asked) T

    pub same_lasts : Lasts n w.asked asked w.log w.log places places
    same_lasts v lt a = (lt, record { k = a.k; place = a.place; by = a.by; at = asks_more p w.asked a.k a.by a.at; made = a.made }, refl)

    pub nothing : TicketsIn ms places (unmoved w p)
    unfolding unmoved
    nothing = more

    pub loses : (i : ℕ) → TicketsIn ms places (lost w p i)
    unfolding lost
    loses i = fewer n places w.store w.state (put_at w.state i None) w.transactions w.messages w.messages asked w.log (none_put w.state w.state i (λ j ne. refl)) (λ P h. h) more

    module _ (d : Does ms w p) (Settled : Session → Type 0) (S : SettledBy ms w p I places T d Settled d.by.came) where
      abbrev i : ℕ
      i = d.by.rank

      abbrev m : Store
      m = next ms w I p d

      abbrev E : Leaves ms w p I (D.one w B) (D.whole w B) places T d Settled S
      E = leaves ms w p I (D.one w B) (D.whole w B) places T d Settled S

      abbrev Up : Option State → Type 0
      Up now = (s : State) → now ≡ Some s → (d.y.state ≡ s) × Here ms w p I (D.one w B) (D.whole w B) places T d Settled S

      pub goes : Follows w (moved w p d.by.rank (reaction_of d.y)) → TicketsIn ms E.after (moved w p d.by.rank (reaction_of d.y)) × Lasts n w.asked asked w.log (moved w p d.by.rank (reaction_of d.y)).log places E.after
      unfolding moved
      goes k =
          let next = moved w p d.by.rank (reaction_of d.y) in
          let here = (let L = k.1 in L.each i) in
          let same = put_same w.store i m in
          let stays : Stays (readings_of (w.store i)) (w.state i) (readings_of m) (Some d.y.state) =
          subst (λ (u : Store). Stays (readings_of (w.store i)) (w.state i) (readings_of u) (Some d.y.state)) same
          (subst (λ (o : Option State). Stays (readings_of (w.store i)) (w.state i) (readings_of (put_at w.store i m i)) o) (put_same w.state i (Some d.y.state)) here) in
          let up : Up (Some d.y.state) = λ s q. ((let z : d.y.state ≡ s = cc in z), stays) in
          let L = D.one next k.0.0 in
          let W : n ≡ 1 → IsWhole next.log m = λ single. subst (IsWhole next.log) same (D.whole next k.0.0 single i (ltb-true d.by.rank ms.count d.by.lt)) in (
            goes_on ms w p I (D.one w B) (D.whole w B) places T d Settled S (Some d.y.state) stays.epoch up next.log k.0.1 L.short L.values W (D.somebody next k.0.0),
            goes_last ms w p I (D.one w B) (D.whole w B) places T d Settled S (Some d.y.state) stays.epoch up next.log k.0.1 L.short L.values W (D.somebody next k.0.0),
          )

      pub falls : Follows w (kept_only w p d.by.rank (reaction_of d.y)) → TicketsIn ms E.after (kept_only w p d.by.rank (reaction_of d.y)) × Lasts n w.asked asked w.log (kept_only w p d.by.rank (reaction_of d.y)).log places E.after
      unfolding kept_only
      falls k =
          let next = kept_only w p d.by.rank (reaction_of d.y) in
          let same = put_same w.store i m in
          let rises = subst (λ (u : Store). epoch_of (readings_of (w.store i)) ≤ epoch_of (readings_of u)) same (let L = k.1 in let s = L.each i in s.epoch) in
          let up : Up None = λ s q. absurd cc in
          let L = D.one next k.0.0 in
          let W : n ≡ 1 → IsWhole next.log m = λ single. subst (IsWhole next.log) same (D.whole next k.0.0 single i (ltb-true d.by.rank ms.count d.by.lt)) in (
            fewer n E.after (put_at w.store i m) (put_at w.state i None) (put_at w.state i None) (put_at w.transactions i (w.transactions i ++ joined (encoded d.y.changes) ∷ [])) (w.messages ++ messages_of d.y.out) w.messages asked next.log (λ j s q. q)
                (λ P h. front P w.messages (messages_of d.y.out) h) (goes_on ms w p I (D.one w B) (D.whole w B) places T d Settled S None rises up next.log k.0.1 L.short L.values W (D.somebody next k.0.0)),
            goes_last ms w p I (D.one w B) (D.whole w B) places T d Settled S None rises up next.log k.0.1 L.short L.values W (D.somebody next k.0.0),
          )

  -- an event that goes on from what is known, and leaves this of requests
  pub follows : (Q : (w next : World) → Type 0) (w : World) (e : Event) → PlainFits ms.count (plain_of e) → D.holds w → IfOk (happens ms w e) (λ next. Follows w next → Q w next) → IfOk (happens ms w e) (λ next. D.holds next × Q w next)
  follows Q w e F B k =
      if_both (λ (next : World). D.holds next × GrowsByOne w.log next.log) (λ (next : World). (Follows w next → Q w next) × Later w next) (λ (next : World). D.holds next × Q w next) (λ next a b. (a.0, b.0 (a, b.1))) (happens ms w e) (D.step w e F B)
      (if_both (λ (next : World). Follows w next → Q w next) (laws.After ms w w.asked (D.inv w B)) (λ (next : World). (Follows w next → Q w next) × Later w next) (λ next a b. (a, b.2)) (happens ms w e) k (event_holds ms w e F (D.inv w B)))

  module _ (w : World) (p : Plain) (B : D.holds w) (places : Places) (T : TicketsIn ms places w) where
    leaves_all : Has ms w (unmoved w p) places
    unfolding unmoved
    leaves_all = record { after = places; tickets = nothing w p B (D.inv w B) places T; lasts = same_lasts w p B (D.inv w B) places T }

    forgets : (i : ℕ) → Has ms w (lost w p i) places
    unfolding lost
    forgets i = record { after = places; tickets = loses w p B (D.inv w B) places T i; lasts = same_lasts w p B (D.inv w B) places T }

    module _ (d : Does ms w p) where
      abbrev any : SettledBy ms w p (D.inv w B) places T d Anybody d.by.came
      any = anybody ms w p (D.inv w B) places T d

      moves : Follows w (moved w p d.by.rank (reaction_of d.y)) → Has ms w (moved w p d.by.rank (reaction_of d.y)) places
      unfolding moved
      moves k = let z = goes w p B (D.inv w B) places T d Anybody any k in record { after = (leaves ms w p (D.inv w B) (D.one w B) (D.whole w B) places T d Anybody any).after; tickets = z.0; lasts = z.1 }

      keeps : Follows w (kept_only w p d.by.rank (reaction_of d.y)) → Has ms w (kept_only w p d.by.rank (reaction_of d.y)) places
      unfolding kept_only
      keeps k = let z = falls w p B (D.inv w B) places T d Anybody any k in record { after = (leaves ms w p (D.inv w B) (D.one w B) (D.whole w B) places T d Anybody any).after; tickets = z.0; lasts = z.1 }

  event : (w : World) (e : Event) → PlainFits ms.count (plain_of e) → D.holds w → (places : Places) → TicketsIn ms places w → IfOk (happens ms w e) (λ next. D.holds next × Has ms w next places)
  event w e F B places T =
      let p = plain_of e in
      follows (λ w next. Has ms w next places) w e F B
      (each_event ms w (λ (next : World). Follows w next → Has ms w next places) e F (λ k. leaves_all w p B places T) (λ i k. forgets w p B places T i) (λ d. moves w p B places T d) (λ d. keeps w p B places T d))

  -- ---- runs

  abbrev Fits : Event → Type 0
  Fits e = PlainFits ms.count (plain_of e)

  -- the log, and a place of each request
  abbrev pub Placed : World → Type 0
  Placed w = D.holds w × (places : Places) × TicketsIn ms places w

  abbrev pub AllLast : (w : World) → Placed w → (next : World) → Placed next → Type 0
  AllLast w h next k = Lasts n w.asked next.asked w.log next.log h.1 k.1

  placed : (w : World) (e : Event) → Fits e → (h : Placed w) (next : World) → happens ms w e ≡ Ok next → Leads ms Fits Placed AllLast w h next
  placed w e F h next q = let z = of_next (λ (next : World). D.holds next × Has ms w next h.1) (happens ms w e) next q (event w e F h.0 h.1 h.2) in ((z.0, z.1.after, z.1.tickets), z.1.lasts)

  still : (w : World) (h : Placed w) → AllLast w h w h
  still w h v lt a = (lt, a, refl)

  -- of a run, and of one that goes on
  abbrev pub Both : World → World → Type 0
  Both was now = (h : Placed was) × Leads ms Fits Placed AllLast was h now

  pub both : (before after : List Event) → AllFit n (before ++ after) → (h : Placed first_world) → Both (run ms before) (run ms (before ++ after))
  both before after F h = runs_apart ms Fits Placed (λ w e fits h next q. (placed w e fits h next q).0) Both after
      (λ w h F. (h, run_leads ms Fits Placed AllLast still (λ u v w h k l a b x lt c. (let s = a x lt c in let t = b x s.0 s.1 in (t.0, t.1, t.2 ∙ s.2))) placed w after F h))
      (λ w h. (h, (h, still w h))) first_world before F h

-- ---- one monitor, and several

module _ (ms : Monitors) (before events : List Event) (F : AllFit ms.count (before ++ events)) where
  abbrev was : World
  was = run ms before

  abbrev now : World
  now = run ms (before ++ events)

  runs : Both ms (basis ms) was now
  runs = both ms (basis ms) before events F ((basis ms).first, (λ k. Nowhere), first_tickets ms)

  abbrev places : Places
  places = runs.1.0.1

  -- the request of a version, which is that of the run before if it has the version
  record Picked (v : ℕ) : Type 0 where
    k : ℕ
    place : places k ≡ Begun (suc v) (entry now.log (suc v))
    of : IsOf ms.count now.asked now.log v k
    earlier : v < length was.log → k < length was.asked

  pick : (v : ℕ) → v < length now.log → Picked v
  pick v lt = by (cases_lt v (length was.log))
    where
      by : (v < length was.log) ⊎ (length was.log ≤ v) → Picked v
      by (inl low) =
          let a = runs.0.2.logged v low in
          let s = runs.1.1 v low a in
          let b = s.1 in
          record { k = b.k; place = b.place; of = record { by = b.by; at = b.at; made = b.made }; earlier = λ l. subst (λ (k : ℕ). k < length was.asked) (sym s.2) (slice_get_within was.asked a.k a.by a.at) }
      by (inr high) = let b = runs.1.0.2.logged v lt in record { k = b.k; place = b.place; of = record { by = b.by; at = b.at; made = b.made }; earlier = λ low. absurd (omega arith) }

  pub once : CommittedOnce ms.count was now
  once = record {
    request = λ v lt. (pick v lt).k;
    is = λ v lt. (pick v lt).of;
    once = λ u v low high e. (let a = pick u low in let b = pick v high in let z : suc u ≡ suc v = ap version_of (sym a.place ∙ ap places e ∙ b.place) in omega arith);
    earlier = λ v lt low. (pick v lt).earlier low;
  }
