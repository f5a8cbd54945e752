-- In every run what is acknowledged is held, and what is shown is the log's.
use Rattle.law_names.proofs.Runs.{Acknowledged, AllFit, Asked, Envelope, Event, Monitors, Plain, PlainFits, Safe, World, acknowledgements_of, first_world, grown, happens, kept_only, lost, moved, plain_of, put_at, run, unmoved, with_asked}
use Rattle.law_names.proofs.Table.{AllByRecursion, Contains, Input, Last, Learn, Op, State, Store, encoded, entry, epoch_of, joined, ops_in, reaction_of, readings_of, shared_entries}
use Rattle.log_copies.specs.Synchronizing.{written}
use Rattle.log_model.proofs.Logs.{IsPrefixOf, log_prefix_itself, log_prefix_push}
use Rattle.mon_msg.specs.declared.input.Input.TheVariants as input
use Rattle.quorum_agreement.proofs.Answered.{Routes}
use Rattle.quorum_agreement.proofs.Beginning.{at_first}
use Rattle.quorum_agreement.proofs.Every.{agrees}
use Rattle.quorum_agreement.proofs.Grown.{GrowsByOne}
use Rattle.quorum_agreement.proofs.Held.{Onward, is_kept}
use Rattle.quorum_agreement.proofs.Invariant.{EnvelopeMatches, LogHolds}
use Rattle.quorum_agreement.proofs.Kept.{accepted_keeps}
use Rattle.quorum_agreement.proofs.LoneWorlds.{LoneHolds, lone_asking, lone_at_first, lone_follows, lone_reads}
use Rattle.quorum_agreement.proofs.Result.{OneLog, entries_chosen, lone_log, several_log}
use Rattle.quorum_agreement.proofs.Runs.{runs_hold}
use Rattle.quorum_agreement.proofs.Safe.{IsSafe, safe_same}
use Rattle.quorum_agreement.proofs.SafeStep.{safe_then}
use Rattle.quorum_agreement.proofs.Worlds.{all_follow, asking, still_among}
use Rattle.quorum_history.proofs.History.{Ghost}
use Rattle.quorum_laws.proofs.Beginning as beginning
use Rattle.quorum_laws.proofs.Elections.{one_active}
use Rattle.quorum_laws.proofs.Events as events
use Rattle.quorum_laws.proofs.Events.{After, Does, ToldOf, all_runs, each_event, each_keeps, ended, member_of, same, shares}
use Rattle.quorum_laws.proofs.Invariant.{Further, InvOf, InvWith, further_trans}
use Rattle.quorum_laws.specs.Accepting.{HasAccepted, readings_at}
use Rattle.quorum_laws.specs.Values.{IsChosen}
use Rattle.quorum_model.proofs.Writing.{all_kept}
use Rattle.quorum_model.specs.Kept.{Kept}
use Rattle.quorum_model.specs.Shown.{Fence, Shown}
use Rattle.quorum_walk.proofs.FineCourses.{EntryFine}
use Rattle.quorum_walk.proofs.Lists.{Among, all_both, all_map, among_right}
use Rattle.std.proofs.Common.{Bool, IfOk, List, None, Some, [], arith, cond, eqb, false, inl, inr, length, ltb, refl, subst, suc, sym, true, ℕ, ◌<◌, ◌∷◌, ◌≡◌, ◌≤◌, ◌⊎◌}
use Rattle.std.proofs.lemmas.Bool.{cases_order, eq-eqb, eqb-true, ltb-true}
use Rattle.std.proofs.lemmas.List.Elements.{Contains-append_left}

-- ---- what is put at one place

pub put_same : {A : Type 0} (f : ℕ → A) (i : ℕ) (a : A) → put_at f i a i ≡ a
put_same f i a = rw (eq-eqb i i refl) refl

-- two functions that are changed at number i: number j is i and has the new item, or both have their old item at j
put_cases : {A B : Type 0} (f : ℕ → A) (h : ℕ → B) (i : ℕ) (a : A) (u : B) (j : ℕ) (b : A) → put_at f i a j ≡ b → ((j ≡ i) × (a ≡ b)) ⊎ ((f j ≡ b) × (put_at h i u j ≡ h j))
put_cases f h i a u j b = by (eqb j i) refl
  where
    by : (t : Bool) → eqb j i ≡ t → cond t a (f j) ≡ b → ((j ≡ i) × (a ≡ b)) ⊎ ((f j ≡ b) × (cond t u (h j) ≡ h j))
    by true q e = inl (eqb-true j i q, e)
    by false q e = inr (e, refl)

pub grown_log_prefix : (old new : List (List ℕ)) → GrowsByOne old new → IsPrefixOf old new
grown_log_prefix old new (inl e) = subst (IsPrefixOf old) (sym e) (log_prefix_itself old)
grown_log_prefix old new (inr x) = subst (IsPrefixOf old) (sym x.1) (log_prefix_push old x.0)

-- what is known of a message that comes: what it says of the log, and the acknowledgement of a ROUTE
abbrev Told : World → Ghost → Envelope → Type 0
Told w g e = EnvelopeMatches w.log e × Routes w g e

first_told : (w : World) (g : Ghost) (rank : ℕ) (came : Input) → ToldOf (Told w g) rank came → ToldOf (EnvelopeMatches w.log) rank came
first_told w g rank (input.Deliver m) t = t.0
first_told w g rank other t = tt

second_told : (w : World) (g : Ghost) (rank : ℕ) (came : Input) → ToldOf (Told w g) rank came → ToldOf (Routes w g) rank came
second_told w g rank (input.Deliver m) t = t.1
second_told w g rank other t = tt

-- if a monitor that is alone learns a value, the log's new entry reads as that
abbrev AloneReads : (ms : Monitors) (w : World) (asked : List Asked) (J : InvWith ms w asked) (Said : Envelope → Type 0) → Does ms w Said asked J → Type 0
AloneReads ms w asked J Said d =
    ms.count ≡ 1 → (ops : List Op) → d.y.changes ≡ Learn (suc (readings_at w d.by.rank).last) ops ∷ Last (suc (readings_at w d.by.rank).last) ∷ [] → d.y.readings.last ≡ suc (readings_at w d.by.rank).last
    → ops_in (entry (grown w.log (written (w.store d.by.rank) d.y)) (suc (readings_at w d.by.rank).last)) ≡ ops

-- what a safe run promises beyond agreement
record SafeFacts (ms : Monitors) (w : World) : Type 0 where
  pub kept : Kept ms.count w
  pub shown : Shown w
  pub fence : Fence w

-- ---- one event, over whatever is known of the log

module _ (ms : Monitors) (Base : World → Type 0) (one : (w : World) → Base w → OneLog ms w) (chosen : (w : World) → Base w → 1 < ms.count → (v : ℕ) → v < length w.log → IsChosen ms.count w (suc v) (entry w.log (suc v)))
    (goes : (w : World) (p : Plain) (J : InvWith ms w (with_asked p w.asked)) → Base w → events.Keeps ms w (EnvelopeMatches w.log) p J (λ next. Base next × GrowsByOne w.log next.log))
    (alone : (w : World) (p : Plain) (J : InvWith ms w (with_asked p w.asked)) → Base w → (d : Does ms w (EnvelopeMatches w.log) (with_asked p w.asked) J) → AloneReads ms w (with_asked p w.asked) J (EnvelopeMatches w.log) d) where
  abbrev pub SafeHolds : World → Type 0
  SafeHolds w = Base w × (I : InvOf ms w) × IsSafe ms w I

  abbrev Next : World → World → Type 0
  Next w next = SafeHolds next × GrowsByOne w.log next.log

  module _ (w : World) (p : Plain) (B : Base w) (I : InvOf ms w) (S : IsSafe ms w I) (J : InvWith ms w (with_asked p w.asked)) (up : Further I.g J.g) where
    abbrev asked : List Asked
    asked = with_asked p w.asked

    abbrev Said : Envelope → Type 0
    Said = Told w I.g

    onward : (next : World) (A : After ms w asked J next) → GrowsByOne w.log next.log → w.events ≤ next.events → ((i v pn : ℕ) (bytes : List ℕ) → HasAccepted w i v pn bytes → HasAccepted next i v pn bytes)
        → ((a : Acknowledged) → Contains w.acknowledged a → Contains next.acknowledged a) → next.asked ≡ asked → Onward w next I.g A.0.g
    onward next A G events accepted acks asks = record {
      further = further_trans I.g J.g A.0.g up A.1;
      log_prefix = grown_log_prefix w.log next.log G;
      events = events;
      later = A.2;
      levels = λ i. let L = A.2 in (L.each i).level;
      accepted = accepted;
      acks = acks;
      asked = λ a k. subst (λ (xs : List Asked). Contains xs a) (sym asks) (still_among p w.asked a k);
    }

    nothing_next : Next w (unmoved w p)
    unfolding unmoved
    nothing_next =
        let b = (goes w p J B).nothing in
        let A = (each_keeps ms w Said p J).nothing in
        ((b.0, A.0, safe_same ms w (unmoved w p) I A.0 (onward (unmoved w p) A b.1 (omega arith) (λ i v pn bytes a. a) (λ a k. k) refl) S (λ i s e. (e, refl)) refl refl refl), b.1)

    loses_next : (i : ℕ) → ltb i ms.count ≡ true → Next w (lost w p i)
    unfolding lost
    loses_next i lt =
        let b = (goes w p J B).loses i lt in
        let A = (each_keeps ms w Said p J).loses i lt in
        ((b.0, A.0, safe_same ms w (lost w p i) I A.0 (onward (lost w p i) A b.1 (omega arith) (λ i v pn bytes a. a) (λ a k. k) refl) S down refl refl refl), b.1)
      where
        down : (j : ℕ) (s : State) → put_at w.state i None j ≡ Some s → (w.state j ≡ Some s) × (w.store j ≡ w.store j)
        down j s e = elim (put_cases w.state w.store i None (w.store i) j (Some s) e) [ inl z ↦ (let q : None ≡ Some s = z.1 in absurd cc) | inr z ↦ (z.0, refl) ]

    module _ (d : Does ms w Said asked J) where
      abbrev d1 : Does ms w (EnvelopeMatches w.log) asked J
      d1 = let a = d.by in record {
        by = record { rank = a.rank; lt = a.lt; at = a.at; state = a.state; remembers = a.remembers; came = a.came; on = a.on; fits = a.fits; holds = a.holds; fine = a.fine; told = first_told w I.g a.rank a.came a.told; noted = a.noted };
        y = d.y;
        is = d.is;
      }

      abbrev m : Store
      m = written (w.store d.by.rank) d.y

      goes_down_next : Next w (kept_only w p d.by.rank (reaction_of d.y))
      unfolding kept_only
      goes_down_next =
          let next = kept_only w p d.by.rank (reaction_of d.y) in
          let b = (goes w p J B).goes_down d1 in
          let A = (each_keeps ms w Said p J).goes_down d in
          ((b.0, A.0, safe_same ms w next I A.0 (onward next A b.1 (omega arith) (accepted_keeps w.transactions d.by.rank (joined (encoded d.y.changes))) (λ a k. k) refl) S down refl refl refl), b.1)
        where
          down : (j : ℕ) (s : State) → put_at w.state d.by.rank None j ≡ Some s → (w.state j ≡ Some s) × (put_at w.store d.by.rank m j ≡ w.store j)
          down j s e = elim (put_cases w.state w.store d.by.rank None m j (Some s) e) [ inl z ↦ (let q : None ≡ Some s = z.1 in absurd cc) | inr z ↦ z ]

      others : (j : ℕ) (s : State) → put_at w.state d.by.rank (Some d.y.state) j ≡ Some s → ((j ≡ d.by.rank) × (d.y.state ≡ s)) ⊎ ((w.state j ≡ Some s) × (put_at w.store d.by.rank m j ≡ w.store j))
      others j s e = elim (put_cases w.state w.store d.by.rank (Some d.y.state) m j (Some s) e) [ inl z ↦ inl (z.0, (let q : Some d.y.state ≡ Some s = z.1 in cc)) | inr z ↦ inr z ]

      abbrev fine : AllByRecursion EntryFine (shared_entries (w.store d.by.rank))
      fine = shares w.store w.state w.transactions w.messages w.active asked (member_of ms d.by.rank d.by.lt) J d.by.at

      goes_on_next : Next w (moved w p d.by.rank (reaction_of d.y))
      unfolding moved
      goes_on_next =
          let next = moved w p d.by.rank (reaction_of d.y) in
          let b = (goes w p J B).goes_on d1 in
          let A = (each_keeps ms w Said p J).goes_on d in
          let acks = acknowledgements_of (suc w.events) m d.y.state d.y.out in
          let O = onward next A b.1 (omega arith) (accepted_keeps w.transactions d.by.rank (joined (encoded d.y.changes))) (λ a k. Contains-append_left w.acknowledged acks a k) refl in (
            (
              b.0,
              A.0,
              safe_then ms w next I A.0 O S asked J up A.1 refl Said d
                  (record {
                    store = put_same w.store d.by.rank m;
                    state = put_same w.state d.by.rank (Some d.y.state);
                    others = others;
                    events = refl;
                    acks = refl;
                    replied = refl;
                    messages = refl;
                    active = λ t. (
                        let c : ℕ × ℕ = (epoch_of (readings_of m), d.by.rank) in
                        among_right c w.active _ (subst (λ (z : Bool). Among c (cond z (c ∷ []) [])) (sym t) (inl refl)));
                    read = same w.store w.state w.transactions w.messages w.active asked (member_of ms d.by.rank d.by.lt) J d.by.at d.by.state d.by.came d.by.on d.by.fits d.by.holds (d.by.fine fine) d.y d.is;
                    who = member_of ms d.by.rank d.by.lt;
                    was = d.by.state;
                    came = d.by.came;
                    ended = ended w.store w.state w.transactions w.messages w.active asked (member_of ms d.by.rank d.by.lt) J d.by.at d.by.state d.by.came d.by.on d.by.fits d.by.holds (d.by.fine fine) d.y d.is;
                  })
                  (second_told w I.g d.by.rank d.by.came d.by.told) (one w B) (one next b.0) (chosen next b.0) (alone w p J B d1),
            ),
            b.1,
          )

    all_next : events.Keeps ms w Said p J (Next w)
    all_next = record { nothing = nothing_next; loses = loses_next; goes_on = goes_on_next; goes_down = goes_down_next }

  safe_event : (w : World) (e : Event) → PlainFits ms.count (plain_of e) → SafeHolds w → IfOk (happens ms w e) (Next w)
  safe_event w e F h =
      let O = one w h.0 in
      let I = h.1 in
      let S = h.2 in
      each_event ms w (Told w I.g) I (Next w) (all_both (EnvelopeMatches w.log) (Routes w I.g) w.messages O.sent S.routes) e F (λ J up. all_next w (plain_of e) h.0 I S J up)

  facts : (w : World) → SafeHolds w → SafeFacts ms w
  facts w h = let S = h.2 in record {
    kept = record { each = all_map _ _ (λ a k. is_kept ms w h.1 a k) w.acknowledged S.acks; once = S.once; answered = S.answers };
    shown = all_map _ _ (λ r k. record { within = k.last; shows = k.shows; asked = k.asked }) w.replied S.replies;
    fence = S.fence;
  }

  safe_run : Base first_world → (events : List Event) → AllFit ms.count events → SafeFacts ms (run ms events)
  safe_run first events F = facts (run ms events) (runs_hold ms SafeHolds safe_event first_world events F
      (first, beginning.at_first ms, record { still = λ i s e. absurd cc; stems = λ i s e. absurd cc; acks = tt; once = tt; replies = tt; answers = tt; fence = tt; routes = tt }))

-- ---- one monitor, and several

safe_facts : (ms : Monitors) (events : List Event) → AllFit ms.count events → SafeFacts ms (run ms events)
safe_facts ms events F = by (cases_order 1 ms.count)
  where
    several_safe : ((i : ℕ) → i < ms.count → 1 < ms.count) → SafeFacts ms (run ms events)
    several_safe several =
        safe_run ms (LogHolds ms) (several_log ms) (λ w b more v lt. entries_chosen ms w b.0 b.1 v lt) (λ w p J b. all_follow ms several w p J (asking ms w p b.0 b.1 J))
        (λ w p J b d one. let k = several d.by.rank (ltb-true d.by.rank ms.count d.by.lt) in absurd (omega arith)) (at_first ms) events F

    lone_safe : ms.count ≡ 1 → SafeFacts ms (run ms events)
    lone_safe single =
        safe_run ms (LoneHolds ms) (lone_log ms) (λ w b more v lt. absurd (omega arith)) (λ w p J b. lone_follows ms single w p J (lone_asking ms w p b.1))
        (λ w p J b d one. lone_reads ms single w (with_asked p w.asked) J (lone_asking ms w p b.1) d) (lone_at_first ms) events F

    by : (1 ≡ ms.count) ⊎ ((1 < ms.count) ⊎ (ms.count < 1)) → SafeFacts ms (run ms events)
    by (inl e) = lone_safe (sym e)
    by (inr (inl more)) = several_safe (λ i lt. more)
    by (inr (inr none)) = several_safe (λ i lt. absurd (omega arith))

pub safe : (ms : Monitors) (events : List Event) → AllFit ms.count events → Safe ms events
safe ms events F =
    let S = safe_facts ms events F in
    let I = all_runs ms events F in
    record {
      agree = agrees ms events F;
      kept = S.kept;
      shown = S.shown;
      held = record { folded = λ i lt. I.held i; whole = λ i lt. all_kept ms events i };
      one_active = one_active ms events F;
      fence = S.fence;
    }
