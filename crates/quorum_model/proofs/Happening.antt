-- What an event makes of a world, and what a run keeps, whatever it is that each event keeps.
use Rattle.mon_kv.specs.Readers.{most_size, size_of}
use Rattle.mon_msg.specs.Protocol.Course.{Course}
use Rattle.mon_msg.specs.Protocol.Reaction.{Reaction, any_reaction, reaction_of}
use Rattle.mon_msg.specs.Protocol.Readings.{readings_of, shared_entries}
use Rattle.mon_msg.specs.Protocol.State.{State, booting}
use Rattle.mon_msg.specs.Protocol.Table.{react}
use Rattle.mon_msg.specs.declared.input.Input.TheVariants as input
use Rattle.mon_msg.specs.declared.input.Input.{Input}
use Rattle.mon_tx.specs.Map.{Store, apply}
use Rattle.mon_types.specs.declared.names.Which.{Which}
use Rattle.quorum_model.proofs.Members.{member_of}
use Rattle.quorum_model.specs.Happens.{Full, Stop, after_meeting, happens, in_world, kept_only, lost, moved, unless_stopped, unmoved}
use Rattle.quorum_model.specs.Meets.{Down, Meeting, NoMessage, Reacts, meeting, meeting_at, meets, state_at}
use Rattle.quorum_model.specs.Monitors.{Monitors, me_if}
use Rattle.quorum_model.specs.Runs.{goes_on, ran_from, run_from}
use Rattle.quorum_model.specs.World.{Arrives, Client, Crash, Deliver, Envelope, Event, Plain, Ring, Start, World, plain_of}
use Rattle.std.proofs.Common.{Bool, Err, List, None, Ok, Option, Result, Some, [], false, inl, inr, ltb, refl, slice_get, subst, suc, true, zero, ℕ, ◌++◌, ◌∷◌, ◌≡◌, ◌⊎◌}
use Rattle.std.proofs.lemmas.Bool.{cond_both}
use Rattle.std.specs.List.{AllByRecursion}
use Rattle.std.specs.Option.{option_map}
use Rattle.std.specs.Prelude.{IfOk}

-- ---- what arrives at a monitor

module _ (ms : Monitors) (w : World) (p : Plain) where
  -- a message that comes was sent, and a client's request is the event's own
  abbrev pub Brought : (rank : ℕ) → Input → Type 0
  Brought rank (input.Deliver m) = (k : ℕ) × (slice_get w.messages k ≡ Some (record { to = rank; message = m }))
  Brought rank (input.Client t r) = (at : ℕ) × (p ≡ Client rank at t r)
  Brought rank other = Unit {0}

  -- what arrives at a monitor of the map that is up, or that starts
  pub record Arrived : Type 0 where
    pub rank : ℕ
    pub lt : ltb rank ms.count ≡ true
    pub at : ℕ
    pub state : State
    pub remembers : (w.state rank ≡ Some state) ⊎ (state ≡ booting rank)
    pub came : Input
    pub brought : Brought rank came

  abbrev pub reacted : Arrived → Result Course Which
  reacted a = react (member_of ms a.rank a.lt) (shared_entries (w.store a.rank)) a.at (readings_of (w.store a.rank)) a.state a.came

  -- what the monitor does then
  pub record Does : Type 0 where
    pub by : Arrived
    pub y : Course
    pub is : reacted by ≡ Ok y

  -- it is so of what the event meets, if it is so of each monitor that reacts
  module _ (Q : Meeting → Type 0) (down : Q Down) (none : Q NoMessage) (reacts : (a : Arrived) (r : Result Course Which) → reacted a ≡ r → Q (Reacts a.rank a.came (any_reaction r))) where
    module _ (rank at : ℕ) (came : Input) (b : Brought rank came) where
      arrives : (o : Option State) → ((s : State) → o ≡ Some s → (w.state rank ≡ Some s) ⊎ (s ≡ booting rank)) → (t : Bool) (q : ltb rank ms.count ≡ t) → Q (meeting (record { rank = rank; at = at; input = came }) (w.store rank) (me_if ms rank t q) o)
      arrives (Some s) k true q = reacts (record { rank = rank; lt = q; at = at; state = s; remembers = k s refl; came = came; brought = b }) _ refl
      arrives None k true q = down
      arrives (Some s) k false q = down
      arrives None k false q = down

      comes_to : ((s : State) → state_at rank (w.state rank) came ≡ Some s → (w.state rank ≡ Some s) ⊎ (s ≡ booting rank)) → Q (meeting_at ms w (Some (record { rank = rank; at = at; input = came })))
      comes_to k = arrives (state_at rank (w.state rank) came) k (ltb rank ms.count) refl

    delivered : (at k : ℕ) (o : Option Envelope) → slice_get w.messages k ≡ o → Q (meeting_at ms w (option_map (λ e. record { rank = e.to; at = at; input = input.Deliver e.message }) o))
    delivered at k None q = none
    delivered at k (Some e) q = comes_to e.to at (input.Deliver e.message) (k, q) (λ s z. inl z)

    comes : (z : Plain) → p ≡ z → Q (meets ms w z)
    comes (Start rank at) e = comes_to rank at input.Start tt (λ s z. let q : s ≡ booting rank = cc in inr q)
    comes (Deliver zero at) e = none
    comes (Deliver (suc k) at) e = delivered at k (slice_get w.messages k) refl
    comes (Ring rank timer at) e = comes_to rank at (input.Timer timer) tt (λ s z. inl z)
    comes (Client rank at t r) e = comes_to rank at (input.Client t r) (at, e) (λ s z. inl z)

    pub each_meeting : Q (meets ms w p)
    each_meeting = comes p refl

-- ---- what an event makes of the world

-- whatever becomes of a transaction, the run goes on with it or stops
pub unless_full : (P : World → Type 0) (m : Store) (next : Reaction → World) (r : Reaction) → P (next r) → IfOk (in_world next (unless_stopped m (Ok r))) P
unless_full P m next r p = cond_both (ltb most_size (size_of (apply r.transaction m))) (Err (Full (size_of (apply r.transaction m)))) (Ok r) (λ (x : Result Reaction Stop). IfOk (in_world next x) P) (λ _. tt) (λ _. p)

-- The event moves no monitor; or one goes down before it kept anything, does what it does, or goes down once it kept what
-- it writes.
pub each_event : (ms : Monitors) (w : World) (P : World → Type 0) (e : Event) → P (unmoved w (plain_of e)) → ((i : ℕ) → ltb i ms.count ≡ true → P (lost w (plain_of e) i))
    → ((d : Does ms w (plain_of e)) → P (moved w (plain_of e) d.by.rank (reaction_of d.y))) → ((d : Does ms w (plain_of e)) → P (kept_only w (plain_of e) d.by.rank (reaction_of d.y))) → IfOk (happens ms w e) P
each_event ms w P (Arrives p) nothing loses goes_on goes_down = each_meeting ms w p (λ met. IfOk (after_meeting w (Arrives p) met) P) nothing nothing by
  where
    by : (a : Arrived ms w p) (r : Result Course Which) → reacted ms w p a ≡ r → IfOk (after_meeting w (Arrives p) (Reacts a.rank a.came (any_reaction r))) P
    by a (Ok y) q = unless_full P (w.store a.rank) (moved w p a.rank) (reaction_of y) (goes_on (record { by = a; y = y; is = q }))
    by a (Err which) q = tt
each_event ms w P (Crash p true) nothing loses goes_on goes_down = each_meeting ms w p (λ met. IfOk (after_meeting w (Crash p true) met) P) nothing nothing by
  where
    by : (a : Arrived ms w p) (r : Result Course Which) → reacted ms w p a ≡ r → IfOk (after_meeting w (Crash p true) (Reacts a.rank a.came (any_reaction r))) P
    by a (Ok y) q = unless_full P (w.store a.rank) (kept_only w p a.rank) (reaction_of y) (goes_down (record { by = a; y = y; is = q }))
    by a (Err which) q = tt
each_event ms w P (Crash p false) nothing loses goes_on goes_down = each_meeting ms w p (λ met. IfOk (after_meeting w (Crash p false) met) P) nothing nothing (λ a r q. loses a.rank a.lt)

-- what is said of an event that stops nothing
pub of_next : {A E : Type 0} (P : A → Type 0) (r : Result A E) (x : A) → r ≡ Ok x → IfOk r P → P x
of_next {A} {E} P r x q k = subst (λ (z : Result A E). IfOk z P) q k

-- ---- what a run keeps

-- whatever the events are
abbrev pub Any : Event → Type 0
Any e = Unit {0}

pub all_any : (events : List Event) → AllByRecursion Any events
all_any [] = tt
all_any (e ∷ events) = (tt, all_any events)

module _ (ms : Monitors) (Fits : Event → Type 0) where
  -- H holds of each world of a run, and G of each and of a later one, if each event of this kind leads from one to the next
  module _ (H : World → Type 0) (G : (w : World) → H w → (next : World) → H next → Type 0) where
    abbrev pub Leads : (w : World) → H w → World → Type 0
    Leads w h next = (k : H next) × G w h next k

    pub run_leads : ((w : World) (h : H w) → G w h w h) → ((u v w : World) (h : H u) (k : H v) (l : H w) → G u h v k → G v k w l → G u h w l) → ((w : World) (e : Event) → Fits e → (h : H w) (next : World) → happens ms w e ≡ Ok next → Leads w h next)
        → (w : World) (events : List Event) → AllByRecursion Fits events → (h : H w) → Leads w h (run_from ms w events)
    unfolding ran_from
    run_leads still on follows w [] F h = (h, still w h)
    run_leads still on follows w (e ∷ es) F h = by (happens ms w e) (follows w e F.0 h) (λ next. run_leads still on follows next es F.1)
      where
        by : (r : Result World Stop) → ((next : World) → r ≡ Ok next → Leads w h next) → ((next : World) (k : H next) → Leads next k (run_from ms next es)) → Leads w h (goes_on w (λ next. ran_from ms next es) r).world
        by (Ok next) f ih = let a = f next refl in let b = ih next a.0 in (b.0, on w next (run_from ms next es) h a.0 b.0 a.1 b.1)
        by (Err stop) f ih = (h, still w h)

  module _ (P : World → Type 0) (follows : (w : World) (e : Event) → Fits e → P w → (next : World) → happens ms w e ≡ Ok next → P next) where
    -- what each event keeps is kept by a run
    pub run_keeps : (w : World) (events : List Event) → AllByRecursion Fits events → P w → P (run_from ms w events)
    run_keeps w events F h = (run_leads P (λ u a v b. Unit {0}) (λ u a. tt) (λ u v x a b c d e. tt) (λ u e fits a next q. (follows u e fits a next q, tt)) w events F h).0

    -- Q holds of a run and one that goes on, if it holds of each world and what these events make of it, and of a world and itself
    pub runs_apart : (Q : World → World → Type 0) (after : List Event) → ((w : World) → P w → AllByRecursion Fits after → Q w (run_from ms w after)) → ((w : World) → P w → Q w w)
        → (w : World) (before : List Event) → AllByRecursion Fits (before ++ after) → P w → Q (run_from ms w before) (run_from ms w (before ++ after))
    unfolding ran_from
    runs_apart Q after now still w [] F h = now w h F
    runs_apart Q after now still w (e ∷ es) F h = by (happens ms w e) (follows w e F.0 h) (λ next. runs_apart Q after now still next es F.1)
      where
        by : (r : Result World Stop) → ((next : World) → r ≡ Ok next → P next) → ((next : World) → P next → Q (run_from ms next es) (run_from ms next (es ++ after)))
            → Q (goes_on w (λ next. ran_from ms next es) r).world (goes_on w (λ next. ran_from ms next (es ++ after)) r).world
        by (Ok next) f ih = ih next (f next refl)
        by (Err stop) f ih = still w h
