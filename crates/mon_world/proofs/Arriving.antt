-- The arrival of an event, and the monitor of the world at which it arrives.
use Rattle.std.proofs.Common.{◌≡◌, ◌≢◌, ℕ, ◌<◌, Bool, true, false, cond, eqb, List, length, map, Option, Some, None, IfSome, refl, sym, ap, subst, ◌∙◌, arith, inl, inr}
use Rattle.std.proofs.lemmas.Bool.{eqb-false, eqb-true}
use Rattle.std.proofs.lemmas.Option.{same_Some, slice_get_cases}
use Rattle.std.specs.Prelude.{slice_get}
use Rattle.mon_bounds.specs.Fitting.{IsValidInput}
use Rattle.mon_msg.specs.Protocol.Reaction.{reaction}
use Rattle.mon_msg.specs.Protocol.State.{State}
use Rattle.mon_msg.specs.declared.view.Me.{Me}
use Rattle.mon_tx.specs.Map.{Store}
use Rattle.quorum_model.specs.Files.{Files}
use Rattle.quorum_model.specs.Happens.{put_at, unmoved}
use Rattle.quorum_model.specs.Meets.{Arrival, Down, NoMessage, Reacts, arrival, meeting, meeting_at, meets, state_at}
use Rattle.quorum_model.specs.Monitors.{Monitors, me_of}
use Rattle.quorum_model.specs.Scenes.{Scene}
use Rattle.quorum_model.specs.World.{Plain, World as Model}
use Rattle.schedule_text.specs.declared.event.Plain as schedule
use Rattle.mon_world.specs.declared.monitor.Monitor.{Monitor}
use Rattle.mon_world.specs.declared.world.World.{World}
use Rattle.mon_world.specs.Events.{plain_event}
use Rattle.mon_world.specs.Monitor.{RepresentsSome, Represents}
use Rattle.mon_world.specs.Represented.{EachRepresents, FitsPlain, RepresentsAt, RepresentsScene, envelope_of}
use Rattle.mon_world.proofs.Coming.{MayMeet, may_meet}
use Rattle.mon_world.proofs.Ranks.{is_of, me_at}

-- ---- the monitor of an arrival

found_at : {A : Type 0} (xs : List A) (i : ℕ) → i < length xs → (x : A) × (slice_get xs i ≡ Some x)
found_at {A = A} xs i below = elim ((slice_get_cases xs i).1) as (λ _. (x : A) × (slice_get xs i ≡ Some x)) [
  | inl found ↦ (found.0, found.2)
  | inr past ↦ absurd (omega arith)
]

-- it is one of the map's monitors, and its store, state and files are those of the scene
pub record Reaches (ms : Monitors) (old : List Monitor) (c : Scene) (a : Arrival) : Type 0 where
  pub me : Me
  pub itself : me_of ms a.rank ≡ Some me
  pub rank_is : me.member.rank ≡ a.rank
  pub monitors : me.member.monitors ≡ ms.count
  pub monitor : Monitor
  pub found : slice_get old a.rank ≡ Some monitor
  pub stands : Represents me (c.world.store a.rank) (c.world.state a.rank) (c.files a.rank) monitor
  pub within : a.rank < length old

pub arrives : (ms : Monitors) (old : World) (c : Scene) (p : schedule.Plain) (a : Arrival) → RepresentsScene ms old c → FitsPlain (length old.monitors.items) p
    → arrival c.world (plain_event p) ≡ Some a → (a.rank < length old.monitors.items) × IsValidInput a.input
arrives ms old c p a s fits is =
    let may : MayMeet ms.count a =
    subst (λ (o : Option Arrival). IfSome o (MayMeet ms.count)) is (may_meet ms.count c.world p (subst (λ (n : ℕ). FitsPlain n p) s.count fits) s.arrive) in
    (omega (arith, s.count, may.rank), may.comes)

pub standing_at : (ms : Monitors) (old : World) (c : Scene) (i : ℕ) → RepresentsScene ms old c → i < length old.monitors.items
    → (monitor : Monitor) → slice_get old.monitors.items i ≡ Some monitor → RepresentsSome monitor
standing_at ms old c i s within monitor found =
    let itself = me_at ms i (omega (arith, s.count, within)) in
    (itself.0, c.world.store i, c.world.state i, c.files i, s.each i itself.0 monitor itself.1 found)

pub reaches : (ms : Monitors) (old : World) (c : Scene) (a : Arrival) → RepresentsScene ms old c → a.rank < length old.monitors.items → Reaches ms old.monitors.items c a
reaches ms old c a s within =
    let itself = me_at ms a.rank (omega (arith, s.count, within)) in
    let of_map = is_of ms a.rank itself.0 itself.1 in
    let found = found_at old.monitors.items a.rank within in
    record {
      me = itself.0;
      itself = itself.1;
      rank_is = of_map.rank_is;
      monitors = of_map.monitors;
      monitor = found.0;
      found = found.1;
      stands = s.each a.rank itself.0 found.0 itself.1 found.1;
      within = within;
    }

-- ---- what is met

pub meets_none : (ms : Monitors) (w : Model) (p : Plain) → arrival w p ≡ None → meets ms w p ≡ NoMessage
meets_none ms w p none = ap (meeting_at ms w) none

module _ (ms : Monitors) (w : Model) (p : Plain) (a : Arrival) (me : Me) (comes : arrival w p ≡ Some a) (itself : me_of ms a.rank ≡ Some me) (rank_is : me.member.rank ≡ a.rank) where
  here : meets ms w p ≡ meeting a (w.store a.rank) (Some me) (state_at me.member.rank (w.state a.rank) a.input)
  here = ap (meeting_at ms w) comes
      ∙ ap (λ (m : Option Me). meeting a (w.store a.rank) m (state_at a.rank (w.state a.rank) a.input)) itself
      ∙ ap (λ (i : ℕ). meeting a (w.store a.rank) (Some me) (state_at i (w.state a.rank) a.input)) (sym rank_is)

  pub meets_down : state_at me.member.rank (w.state a.rank) a.input ≡ None → meets ms w p ≡ Down
  meets_down down = here ∙ ap (meeting a (w.store a.rank) (Some me)) down

  pub meets_up : (before : State) → state_at me.member.rank (w.state a.rank) a.input ≡ Some before
      → meets ms w p ≡ Reacts a.rank a.input (reaction me a.at (w.store a.rank) before a.input)
  meets_up before up = here ∙ ap (meeting a (w.store a.rank) (Some me)) up

-- ---- how the monitors stand then

-- P holds of each monitor, if it holds of one with a new store, state and files, and of the others as they were
pub put_each : (P : ℕ → Store → Option State → Files → Type 0) (c : Scene) (i : ℕ) (m : Store) (s : Option State) (f : Files) → P i m s f
    → ((j : ℕ) → j ≢ i → P j (c.world.store j) (c.world.state j) (c.files j))
    → (j : ℕ) → P j (put_at c.world.store i m j) (put_at c.world.state i s j) (put_at c.files i f j)
put_each P c i m s f here others j = by (eqb j i) refl
  where
    by : (t : Bool) → eqb j i ≡ t → P j (cond t m (c.world.store j)) (cond t s (c.world.state j)) (cond t f (c.files j))
    by true e = subst (λ (k : ℕ). P k m s f) (sym (eqb-true j i e)) here
    by false e = others j (eqb-false j i e)

-- the other monitors represent what they did before
pub elsewhere : (ms : Monitors) (old new : List Monitor) (c : Scene) (i : ℕ) → EachRepresents ms old c
    → ((j : ℕ) → j ≢ i → slice_get new j ≡ slice_get old j)
    → (j : ℕ) → j ≢ i → RepresentsAt ms new j (c.world.store j) (c.world.state j) (c.files j)
elsewhere ms old new c i each others j n me monitor itself found = each j me monitor itself (sym (others j n) ∙ found)

-- only one monitor has a rank, so what one represents is what the monitor of the rank represents
pub stands_at : (ms : Monitors) (new : List Monitor) (i : ℕ) (m : Store) (s : Option State) (f : Files) (me : Me) (monitor : Monitor)
    → me_of ms i ≡ Some me → slice_get new i ≡ Some monitor → Represents me m s f monitor → RepresentsAt ms new i m s f
stands_at ms new i m s f me monitor itself found stands me_too monitor_too itself_too found_too =
    subst (λ (x : Me). Represents x m s f monitor_too) (same_Some me me_too (sym itself ∙ itself_too))
    (subst (λ (x : Monitor). Represents me m s f x) (same_Some monitor monitor_too (sym found ∙ found_too)) stands)

pub new_found : (ms : Monitors) (old new : List Monitor) (c : Scene) (a : Arrival) → Reaches ms old c a → length new ≡ length old → (monitor : Monitor) × (slice_get new a.rank ≡ Some monitor)
new_found ms old new c a r count = let within = r.within in found_at new a.rank (omega arith)

-- ---- an arrival without effect

abbrev pub after_none : Scene → Plain → Scene
after_none c p = record { world = unmoved c.world p; files = c.files }

pub unmoved_stands : (ms : Monitors) (old new : World) (c : Scene) (p : Plain) → RepresentsScene ms old c
    → length new.monitors.items ≡ length old.monitors.items → EachRepresents ms new.monitors.items c
    → new.messages.items ≡ old.messages.items → new.log ≡ old.log
    → RepresentsScene ms new (after_none c p)
unfolding unmoved
unmoved_stands ms old new c p s count each messages log = record {
  count = count ∙ s.count;
  each = each;
  messages = ap (map envelope_of) messages ∙ s.messages;
  arrive = s.arrive;
  log = log ∙ s.log;
}

-- the monitor of the arrival stays down
pub still_each : (ms : Monitors) (old new : List Monitor) (c : Scene) (a : Arrival) → Reaches ms old c a → EachRepresents ms old c
    → length new ≡ length old
    → ((j : ℕ) → j ≢ a.rank → slice_get new j ≡ slice_get old j)
    → ((me : Me) (monitor : Monitor) → me_of ms a.rank ≡ Some me → slice_get new a.rank ≡ Some monitor
    → Represents me (c.world.store a.rank) (c.world.state a.rank) (c.files a.rank) monitor)
    → EachRepresents ms new c
still_each ms old new c a r each count others here =
    put_each (λ j m s f. RepresentsAt ms new j (c.world.store j) (c.world.state j) (c.files j)) c a.rank (c.world.store a.rank) None (c.files a.rank) here
    (elsewhere ms old new c a.rank each others)
