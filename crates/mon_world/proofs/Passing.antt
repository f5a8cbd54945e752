-- What the disks of monitors go through in an event.
use Rattle.std.proofs.Common.{◌≡◌, ◌≢◌, ℕ, ◌≤◌, Bool, true, false, eqb, inl, List, [], ◌∷◌, ◌++◌, Option, Some, None, Result, Ok, Err, IfOk, refl, sym, ap, ◌∙◌, subst, arith}
use Rattle.std.proofs.lemmas.Bool.{eqb-false, eqb-true}
use Rattle.std.proofs.lemmas.Option.{same_Some}
use Rattle.std.specs.Prelude.{slice_get}
use Rattle.mon_disk.specs.Images.{Content}
use Rattle.mon_disk.specs.Memory.{seen_of}
use Rattle.mon_disk.specs.MemoryDisk.{MemoryState}
use Rattle.mon_msg.specs.Protocol.State.{State}
use Rattle.mon_msg.specs.declared.input.Input.{Input}
use Rattle.mon_msg.specs.declared.view.Me.{Me}
use Rattle.mon_site.specs.Disks.{content}
use Rattle.mon_site.specs.Faults.{OpensMap, Rests}
use Rattle.mon_site.specs.Times.{OpensEither}
use Rattle.mon_site.proofs.InUse.{rests}
use Rattle.mon_store.specs.Times.{Lasts, Meanwhile, WhileOpening}
use Rattle.mon_store.specs.StoreView.{StoreView}
use Rattle.mon_tx.specs.Map.{Store, apply}
use Rattle.mon_types.specs.declared.member.Member.{Member}
use Rattle.quorum_model.specs.Files.{Files}
use Rattle.quorum_model.specs.Monitors.{Monitors, me_of}
use Rattle.quorum_model.specs.Scenes.{Scene}
use Rattle.mon_world.specs.declared.meeting.Handled.{Handled}
use Rattle.mon_world.specs.declared.monitor.Kept.{Kept}
use Rattle.mon_world.specs.declared.monitor.Kept.TheVariants.{Down, Up}
use Rattle.mon_world.specs.declared.monitor.Monitor.{Monitor}
use Rattle.mon_world.specs.declared.stop.WorldStop.{WorldStop}
use Rattle.mon_world.specs.declared.world.World.{World}
use Rattle.mon_world.specs.Meeting.{Meets}
use Rattle.mon_world.specs.Times.{Between, Through, Passes, PassesAt, PassesHandled, EachPasses, a_of, b_of}
use Rattle.mon_world.specs.Monitor.{Holds, Represents}
use Rattle.mon_world.specs.Represented.{RepresentsScene}

abbrev Pairs : Type 1
Pairs = List ℕ → List ℕ → Type 0

-- ---- one way after another

module _ (P : Pairs) where
  through_later : (a b : Content) (from to : ℕ × ℕ) (way : List (ℕ × ℕ)) → Through P a b from way to → (from.0 ≤ to.0) × (from.1 ≤ to.1)
  through_later a b from to [] h = (h.a_later, h.b_later)
  through_later a b from to (mid ∷ mids) h =
      let one = h.0.a_later in
      let two = h.0.b_later in
      let more = through_later a b mid to mids h.1 in
      let three = more.0 in
      let four = more.1 in
      (omega arith, omega arith)

  module _ (a b x y : Content) (on_a : Lasts a x) (on_b : Lasts b y) where
    between_on : (from to : ℕ × ℕ) → to.0 ≤ a.time → to.1 ≤ b.time → Between P a b from to → Between P x y from to
    between_on from to last_a last_b h = record {
      a_later = h.a_later;
      b_later = h.b_later;
      each = λ s t c d g i j k at_a at_b. h.each s t c d g i j k (on_a.past s c (omega arith) at_a) (on_b.past t d (omega arith) at_b);
    }

    through_on : (from to : ℕ × ℕ) (way : List (ℕ × ℕ)) → to.0 ≤ a.time → to.1 ≤ b.time → Through P a b from way to → Through P x y from way to
    through_on from to [] last_a last_b h = between_on from to last_a last_b h
    through_on from to (mid ∷ mids) last_a last_b h =
        let later = through_later a b mid to mids h.1 in
        let one = later.0 in
        let two = later.1 in
        (between_on from mid (omega arith) (omega arith) h.0, through_on mid to mids last_a last_b h.1)

  joined : (a b : Content) (from mid to : ℕ × ℕ) (way others : List (ℕ × ℕ)) → Through P a b from way mid → Through P a b mid others to → Through P a b from (way ++ mid ∷ others) to
  joined a b from mid to [] others first second = (first, second)
  joined a b from mid to (next ∷ way) others first second = (first.0, joined a b next mid to way others first.1 second)

lasts_on : (x y z : Content) → Lasts x y → Lasts y z → Lasts x z
lasts_on x y z first second =
    let one = first.later in
    let two = second.later in
    record {
      later = omega arith;
      past = λ t c before left. first.past t c before (second.past t c (omega arith) left);
      kept = λ t c before left. second.kept t c (omega arith) (first.kept t c before left);
    }

lasts_itself : (x : Content) → Lasts x x
lasts_itself x = record { later = omega arith; past = λ t c before left. left; kept = λ t c before left. left }

pub passes_on : (P : Pairs) (a b x y u v : MemoryState) → Passes P a b x y → Passes P x y u v → Passes P a b u v
passes_on P a b x y u v first second = record {
  a = lasts_on (content a) (content x) (content u) first.a second.a;
  b = lasts_on (content b) (content y) (content v) first.b second.b;
  way = first.way ++ ((content x).time, (content y).time) ∷ second.way;
  through =
      joined P (content u) (content v) ((content a).time, (content b).time) ((content x).time, (content y).time) ((content u).time, (content v).time) first.way second.way
      (through_on P (content x) (content y) (content u) (content v) second.a second.b ((content a).time, (content b).time) ((content x).time, (content y).time) first.way (omega arith) (omega arith) first.through)
      second.through;
}

-- ---- a weaker fact

between_as : (P Q : Pairs) (a b : Content) (from to : ℕ × ℕ) → ((c d : List ℕ) → P c d → Q c d) → Between P a b from to → Between Q a b from to
between_as P Q a b from to turned h = record {
  a_later = h.a_later;
  b_later = h.b_later;
  each = λ s t c d g i j k at_a at_b. turned c d (h.each s t c d g i j k at_a at_b);
}

through_as : (P Q : Pairs) (a b : Content) (from to : ℕ × ℕ) (way : List (ℕ × ℕ)) → ((c d : List ℕ) → P c d → Q c d) → Through P a b from way to → Through Q a b from way to
through_as P Q a b from to [] turned h = between_as P Q a b from to turned h
through_as P Q a b from to (mid ∷ mids) turned h = (between_as P Q a b from mid turned h.0, through_as P Q a b mid to mids turned h.1)

pub passes_as : (P Q : Pairs) (a b x y : MemoryState) → ((c d : List ℕ) → P c d → Q c d) → Passes P a b x y → Passes Q a b x y
passes_as P Q a b x y turned h = record {
  a = h.a;
  b = h.b;
  way = h.way;
  through = through_as P Q (content x) (content y) _ _ h.way turned h.through;
}

-- ---- a call of a store

pub while_passes : (P : Pairs) (a b x y : MemoryState) → Meanwhile (content a) (content b) (content x) (content y) P → Passes P a b x y
while_passes P a b x y w = record {
  a = w.a;
  b = w.b;
  way = [];
  through = record { a_later = w.a.later; b_later = w.b.later; each = w.each };
}

pub opening_passes : (P : Pairs) (a b x y : MemoryState) → WhileOpening (content a) (content b) (content x) (content y) P → Passes P a b x y
opening_passes P a b x y w = record {
  a = w.a;
  b = w.b;
  way = (w.switch_time, (content y).time) ∷ [];
  through = (
    record { a_later = w.from; b_later = w.b.later; each = w.each },
    record {
      a_later = w.to;
      b_later = omega arith;
      each = λ s t c d g i j k at_a at_b.
          let now : t ≡ (content y).time = omega arith in
          w.alone s c d g i at_a (subst (λ (n : ℕ). (content y).images_at n d) now at_b);
    },
  );
}

-- ---- disks at rest

module _ (member : Member) (m : Store) (f : Files) (a b : MemoryState) (rest : Rests member m f a b) where
  opens_at_rest : (s t : ℕ) (c d : List ℕ) → s ≡ (content a).time → t ≡ (content b).time → (content a).images_at s c → (content b).images_at t d → OpensMap member m c d
  opens_at_rest s t c d on_a on_b at_a at_b =
      let left_a = rest.calm_a.only c (subst (λ (n : ℕ). (content a).images_at n c) on_a at_a) in
      let left_b = rest.calm_b.only d (subst (λ (n : ℕ). (content b).images_at n d) on_b at_b) in
      subst (λ (x : List ℕ). OpensMap member m x d) (same_Some (seen_of a.life) c left_a)
      (subst (λ (y : List ℕ). OpensMap member m (seen_of a.life) y) (same_Some (seen_of b.life) d left_b) rest.opens)

  rest_passes : Passes (OpensMap member m) a b a b
  rest_passes = record {
    a = lasts_itself (content a);
    b = lasts_itself (content b);
    way = [];
    through = record {
      a_later = omega arith;
      b_later = omega arith;
      each = λ s t c d g i j k at_a at_b. opens_at_rest s t c d (omega arith) (omega arith) at_a at_b;
    };
  }

-- ---- a monitor

-- its disks rest, also while its store is open on them
kept_rests : (me : Me) (m : Store) (s : Option State) (f : Files) (kept : Kept) → Holds me m s f kept → Rests me.member m f (a_of kept) (b_of kept)
kept_rests me m None f (Down disks) h = h
kept_rests me m (Some s) f (Up running) h = rests me.member m f running.store h.runs
kept_rests me m None f (Up running) h = absurd h
kept_rests me m (Some s) f (Down disks) h = absurd h

same_store_view : (member : Member) (m n : Store) (c d : List ℕ) → OpensMap member m c d → OpensMap member n c d → m ≡ n
same_store_view member m n c d first second =
    let same : Ok first.store_view ≡ Ok second.store_view = sym first.opens ∙ second.opens in
    let store_view : first.store_view ≡ second.store_view = cc in
    sym first.map ∙ ap (λ (s : StoreView). s.kv) store_view ∙ second.map

-- it represents one map
pub same_map : (me : Me) (m n : Store) (s t : Option State) (f g : Files) (monitor : Monitor) → Represents me m s f monitor → Represents me n t g monitor → m ≡ n
same_map me m n s t f g monitor first second =
    same_store_view me.member m n _ _ (kept_rests me m s f monitor.kept first.holds).opens (kept_rests me n t g monitor.kept second.holds).opens

-- nothing happens to it
still_passes : (me : Me) (m n : Store) (s : Option State) (f : Files) (x y : Monitor) → Represents me m s f x → y ≡ x → PassesAt (OpensEither me.member m n) x y
still_passes me m n s f x y stands same =
    let rest = kept_rests me m s f x.kept stands.holds in
    subst (λ (z : Monitor). PassesAt (OpensEither me.member m n) x z) (sym same)
    (passes_as (OpensMap me.member m) (OpensEither me.member m n) _ _ _ _ (λ c d h. inl h) (rest_passes me.member m f (a_of x.kept) (b_of x.kept) rest))

-- it opens its store, and reacts to the start
pub started_passes : (me : Me) (m : Store) (old mid new : Monitor) (result : Result Handled WorldStop) → PassesAt (OpensMap me.member m) old mid
    → IfOk result (λ handled. PassesAt (OpensEither me.member m (apply handled.reaction.tx m)) mid new)
    → IfOk result (λ handled. PassesAt (OpensEither me.member m (apply handled.reaction.tx m)) old new)
started_passes me m old mid new (Ok handled) first second =
    let P = OpensEither me.member m (apply handled.reaction.tx m) in
    passes_on P (a_of old.kept) (b_of old.kept) (a_of mid.kept) (b_of mid.kept) (a_of new.kept) (b_of new.kept)
    (passes_as (OpensMap me.member m) P (a_of old.kept) (b_of old.kept) (a_of mid.kept) (b_of mid.kept) (λ c d h. inl h) first) second
started_passes me m old mid new (Err e) first second = tt

-- ---- each monitor

module _ (ms : Monitors) (old new : World) (before after : Scene) (store_view : RepresentsScene ms old before) (stands : RepresentsScene ms new after) where
  -- nothing happens
  pub none_passes : new.monitors.items ≡ old.monitors.items → EachPasses ms before after old new
  none_passes same i me x y itself was is =
      let still : Some y ≡ Some x = sym is ∙ ap (λ (l : List Monitor). slice_get l i) same ∙ was in
      still_passes me (before.world.store i) (after.world.store i) (before.world.state i) (before.files i) x y (store_view.each i me x itself was) (same_Some y x still)

  -- one meets an input
  module _ (items : List Monitor) (moved : new.monitors.items ≡ items) (rank at : ℕ) (came : Input) (result : Result (Option Handled) WorldStop)
      (others : (j : ℕ) → j ≢ rank → slice_get items j ≡ slice_get old.monitors.items j)
      (meets : (x y : Monitor) → slice_get old.monitors.items rank ≡ Some x → slice_get items rank ≡ Some y → (me : Me) (m : Store) (s : Option State) (f : Files)
      → Represents me m s f x → Meets me at m s f came y result)
      (passes : (x y : Monitor) → slice_get old.monitors.items rank ≡ Some x → slice_get items rank ≡ Some y → (me : Me) (m : Store) (s : Option State) (f : Files)
      → Represents me m s f x → PassesHandled me.member m result x y) where
    -- the others stay as they are
    elsewhere : (i : ℕ) (me : Me) (x y : Monitor) → i ≢ rank → me_of ms i ≡ Some me → slice_get old.monitors.items i ≡ Some x → slice_get new.monitors.items i ≡ Some y
        → PassesAt (OpensEither me.member (before.world.store i) (after.world.store i)) x y
    elsewhere i me x y other itself was is =
        let still : Some y ≡ Some x = sym is ∙ ap (λ (l : List Monitor). slice_get l i) moved ∙ others i other ∙ was in
        still_passes me (before.world.store i) (after.world.store i) (before.world.state i) (before.files i) x y (store_view.each i me x itself was) (same_Some y x still)

    -- of that one
    old_there : (i : ℕ) (x : Monitor) → i ≡ rank → slice_get old.monitors.items i ≡ Some x → slice_get old.monitors.items rank ≡ Some x
    old_there i x here was = ap (slice_get old.monitors.items) (sym here) ∙ was

    new_there : (i : ℕ) (y : Monitor) → i ≡ rank → slice_get new.monitors.items i ≡ Some y → slice_get items rank ≡ Some y
    new_there i y here is = ap (λ (l : List Monitor). slice_get l rank) (sym moved) ∙ ap (slice_get new.monitors.items) (sym here) ∙ is

    pub down_passes : result ≡ Ok None → EachPasses ms before after old new
    down_passes none i me x y itself was is = by (eqb i rank) refl
      where
        by : (t : Bool) → eqb i rank ≡ t → PassesAt (OpensEither me.member (before.world.store i) (after.world.store i)) x y
        by true e =
            let here = eqb-true i rank e in
            let stands_so = store_view.each i me x itself was in
            let still = subst (λ (r : Result (Option Handled) WorldStop). PassesHandled me.member (before.world.store i) r x y) none
            (passes x y (old_there i x here was) (new_there i y here is) me (before.world.store i) (before.world.state i) (before.files i) stands_so) in
            still_passes me (before.world.store i) (after.world.store i) (before.world.state i) (before.files i) x y stands_so still
        by false e = elsewhere i me x y (eqb-false i rank e) itself was is

    pub handled_passes : (t : Handled) → result ≡ Ok (Some t) → EachPasses ms before after old new
    handled_passes t one i me x y itself was is = by (eqb i rank) refl
      where
        by : (t : Bool) → eqb i rank ≡ t → PassesAt (OpensEither me.member (before.world.store i) (after.world.store i)) x y
        by true e =
            let here = eqb-true i rank e in
            let m = before.world.store i in
            let stands_so = store_view.each i me x itself was in
            let went = subst (λ (r : Result (Option Handled) WorldStop). PassesHandled me.member m r x y) one
            (passes x y (old_there i x here was) (new_there i y here is) me m (before.world.state i) (before.files i) stands_so) in
            let met = subst (λ (r : Result (Option Handled) WorldStop). Meets me at m (before.world.state i) (before.files i) came y r) one
            (meets x y (old_there i x here was) (new_there i y here is) me m (before.world.state i) (before.files i) stands_so) in
            let map = same_map me (apply t.reaction.tx m) (after.world.store i) _ (after.world.state i) _ (after.files i) y met.2.stands (stands.each i me y itself is) in
            subst (λ (n : Store). PassesAt (OpensEither me.member m n) x y) map went
        by false e = elsewhere i me x y (eqb-false i rank e) itself was is
