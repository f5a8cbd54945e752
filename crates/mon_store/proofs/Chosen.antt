-- The disk that is live if two were opened.
use Rattle.std.proofs.Common.{◌≡◌, ◌≢◌, ◌⊎◌, inl, inr, ℕ, ◌+◌, ◌≤◌, ◌<◌, ◌^◌, Bool, true, false, cond, eqb, ltb, is_some, List, length, Option, Some, None, Result, Ok, Err, refl, sym, ap, subst, ◌∙◌, arith}
use Rattle.std.specs.Prelude.{IfOk, OnOk, IfSome, slice_index_or}
use Rattle.std.proofs.lemmas.Bool.{ltb-true, ltb-false, eqb-false}
use Rattle.mon_types.specs.declared.names.Side.{Side}
use Rattle.mon_types.specs.declared.names.Side.TheVariants.{A, B}
use Rattle.mon_disk.specs.Calls.{DiskState}
use Rattle.mon_disk.specs.Images.{Content, Only}
use Rattle.mon_tx.specs.Map.{Store}
use Rattle.mon_kv.specs.Readers.{size_of}
use Rattle.mon_journal.specs.declared.journal.Journal.{Journal}
use Rattle.mon_journal.specs.Steps as disk
use Rattle.mon_journal.specs.Content.{Held, content, payloads_of, held_by, Holds}
use Rattle.mon_journal.specs.Steps.{OnDisk, Opens, Stands}
use Rattle.mon_store.specs.declared.opening.LiveStore.{LiveStore}
use Rattle.mon_store.specs.declared.stop.OpenStop.{OpenStop}
use Rattle.mon_store.specs.Checkpoint.{most_size}
use Rattle.mon_store.specs.Payloads.{map_of}
use Rattle.mon_store.specs.Pair.{Refusal, NotAStore, Found, Create, Live, newer, chosen}
use Rattle.mon_types.specs.Sides.{other as other_side}
use Rattle.mon_store.specs.Sound.{of_live, IsBelow, Sound}
use Rattle.mon_store.specs.Opening.{held_in, len_of, stop_in, Rereads}
use Rattle.mon_store.proofs.Rereading.{stands_still}

same_live : (s t : Side) (x y : Held) → ◌≡◌ {A = Result Found Refusal} (Ok (Live s x)) (Ok (Live t y)) → (s ≡ t) × (x ≡ y)
same_live s t x y is = let a : s ≡ t = cc in let b : x ≡ y = cc in (a, b)

-- a disk that isn't live beside a file of this generation: it is closed, or its generation is lower
abbrev pub IsOther : ℕ → OnDisk → Type 0
IsOther generation (disk.Closed len) = Unit {0}
IsOther generation (disk.Live journal payloads) = journal.generation < generation

-- the live disk was found to hold this, and the other one isn't live
pub record Chosen (side : Side) (held : Held) (a b : OnDisk) : Type 0 where
  pub live : held_in (of_live side a b) ≡ Some held
  pub other : IsOther held.header.generation (of_live (other_side side) a b)

newer_is : (j k : Journal) (p q : List (List ℕ)) (side : Side) (held : Held) → newer (held_by j p) (held_by k q) ≡ Ok (Live side held)
    → ((side ≡ A) × (held_by j p ≡ held) × (k.generation < j.generation)) ⊎ ((side ≡ B) × (held_by k q ≡ held) × (j.generation < k.generation))
newer_is j k p q side held = by (eqb j.generation k.generation) (ltb k.generation j.generation) refl refl
  where
    by : (same above : Bool) → eqb j.generation k.generation ≡ same → ltb k.generation j.generation ≡ above
        → cond same (Err (NotAStore B 0)) (cond above (Ok (Live A (held_by j p))) (Ok (Live B (held_by k q)))) ≡ Ok (Live side held)
        → ((side ≡ A) × (held_by j p ≡ held) × (k.generation < j.generation)) ⊎ ((side ≡ B) × (held_by k q ≡ held) × (j.generation < k.generation))
    by true above e f h = absurd cc
    by false true e f h = let is = same_live A side (held_by j p) held h in inl (sym is.0, is.1, ltb-true _ _ f)
    by false false e f h = let is = same_live B side (held_by k q) held h in inr (sym is.0, is.1, let le = ltb-false _ _ f in let ne = eqb-false _ _ e in omega (arith, le, ne))

pub chosen_live : (a b : OnDisk) (side : Side) (held : Held) → chosen (held_in a) (held_in b) (len_of a) (len_of b) ≡ Ok (Live side held) → Chosen side held a b
chosen_live (disk.Closed la) (disk.Closed lb) side held h = absurd (none (ltb 26 la) (ltb 0 lb) h)
  where
    none : (p q : Bool) → cond p (Err (NotAStore A 0)) (cond q (Err (NotAStore B 0)) (Ok Create)) ≡ Ok (Live side held) → ⊥
    none true q h = cc
    none false true h = cc
    none false false h = cc
chosen_live (disk.Live j p) (disk.Closed lb) side held h =
    let is = same_live A side (held_by j p) held h in
    subst (λ s. Chosen s held (disk.Live j p) (disk.Closed lb)) is.0 (record { live = ap (λ x. Some x) is.1; other = tt })
chosen_live (disk.Closed la) (disk.Live k q) side held h =
    let is = same_live B side (held_by k q) held h in
    subst (λ s. Chosen s held (disk.Closed la) (disk.Live k q)) is.0 (record { live = ap (λ x. Some x) is.1; other = tt })
chosen_live (disk.Live j p) (disk.Live k q) side held h = elim (newer_is j k p q side held h) [
  | inl x ↦ subst (λ s. Chosen s held (disk.Live j p) (disk.Live k q)) (sym x.0) (record { live = ap (λ y. Some y) x.1; other = subst (λ (y : Held). k.generation < y.header.generation) x.1 x.2 })
  | inr x ↦ subst (λ s. Chosen s held (disk.Live j p) (disk.Live k q)) (sym x.0) (record { live = ap (λ y. Some y) x.1; other = subst (λ (y : Held). j.generation < y.header.generation) x.1 x.2 })
]

-- a store is to be created if both are closed, and hold no more than a creation that a crash cut short
pub record New (a b : OnDisk) : Type 0 where
  pub none_a : held_in a ≡ None
  pub none_b : held_in b ≡ None
  pub short : len_of a ≤ 26
  pub nothing : len_of b ≡ 0

pub chosen_new : (a b : OnDisk) → chosen (held_in a) (held_in b) (len_of a) (len_of b) ≡ Ok Create → New a b
chosen_new (disk.Closed la) (disk.Closed lb) h = by (ltb 26 la) (ltb 0 lb) refl refl h
  where
    by : (p q : Bool) → ltb 26 la ≡ p → ltb 0 lb ≡ q → cond p (Err (NotAStore A 0)) (cond q (Err (NotAStore B 0)) (Ok Create)) ≡ Ok Create → New (disk.Closed la) (disk.Closed lb)
    by true q e f h = absurd cc
    by false true e f h = absurd cc
    by false false e f h = record { none_a = refl; none_b = refl; short = ltb-false _ _ e; nothing = let le = ltb-false _ _ f in omega (arith, le) }
chosen_new (disk.Live j p) (disk.Closed lb) h = absurd cc
chosen_new (disk.Closed la) (disk.Live k q) h = absurd cc
chosen_new (disk.Live j p) (disk.Live k q) h = absurd (none (eqb j.generation k.generation) (ltb k.generation j.generation) h)
  where
    none : (p1 q1 : Bool) → cond p1 (Err (NotAStore B 0)) (cond q1 (Ok (Live A (held_by j p))) (Ok (Live B (held_by k q)))) ≡ Ok Create → ⊥
    none true q1 h = cc
    none false true h = cc
    none false false h = cc

-- ---- the live disk and the other one after an opening

same_held : (j k : Journal) (p q : List (List ℕ)) → held_by j p ≡ held_by k q → (r : List (List ℕ)) → held_by j r ≡ held_by k r
same_held j k p q is r = ap (λ (h : Held). record { header = h.header; payloads = r; next_gate = h.next_gate }) is

stands_as : (j k : Journal) (p q : List (List ℕ)) (known : ℕ) (x : Content) → held_by j p ≡ held_by k q → Stands j known x → Stands k known x
stands_as j k p q known x is s = record {
  only = s.only;
  holds = by x.seen s.holds;
  shut = subst (λ (n : ℕ). IfSome x.seen (λ file. slice_index_or file n 0 ≢ 1)) gate s.shut;
  reach = subst (λ (n : ℕ). n < known) gate s.reach;
  room = subst (λ (n : ℕ). n + 1 < 2 ^ 64) gate s.room;
}
  where
    gate : j.next_gate ≡ k.next_gate
    gate = ap (λ (h : Held). h.next_gate) is

    by : (t : Option (List ℕ)) → IfSome t (λ file. Holds j (payloads_of file) file) → IfSome t (λ file. Holds k (payloads_of file) file)
    by None h = tt
    by (Some file) h = h ∙ ap (λ held. Some (Ok held)) (same_held j k p q is (payloads_of file))

-- the live disk
pub stands_open : (on : OnDisk) (j : Journal) (payloads : List (List ℕ)) (s : Option (List ℕ)) (known : ℕ) (x : Content) → held_in on ≡ Some (held_by j payloads) → Opens s known x (Ok on)
    → Stands j known x × IfSome x.seen (λ file. payloads_of file ≡ payloads)
stands_open (disk.Closed len) j payloads s known x is h = absurd cc
stands_open (disk.Live k p) j payloads s known x is h =
    let same : held_by k p ≡ held_by j payloads = cc in
    let these : p ≡ payloads = ap (λ (y : Held). y.payloads) same in
    (stands_as k j p payloads known x same h.0.stands, subst (λ (ps : List (List ℕ)). IfSome x.seen (λ file. payloads_of file ≡ ps)) these h.0.payloads_are)

-- the other one
pub stands_aside : (on : OnDisk) (generation : ℕ) (s : Option (List ℕ)) (known : ℕ) (x : Content) → IsOther generation on → Opens s known x (Ok on) → Only x × IfSome x.seen (λ file. IsBelow generation (content file))
stands_aside (disk.Closed len) generation s known x less h = (h.0, subst (λ t. IfSome t (λ file. IsBelow generation (content file))) (sym h.1) (by s h.3))
  where
    by : (t : Option (List ℕ)) → IfSome t (λ file. (content file ≡ None) × (len ≡ length file)) → IfSome t (λ file. IsBelow generation (content file))
    by None g = tt
    by (Some file) g = subst (IsBelow generation) (sym g.0) tt
stands_aside (disk.Live k p) generation s known x less h = (h.0.stands.only, by x.seen h.0.stands.holds)
  where
    by : (t : Option (List ℕ)) → IfSome t (λ file. Holds k (payloads_of file) file) → IfSome t (λ file. IsBelow generation (content file))
    by None g = tt
    by (Some file) g = subst (IsBelow generation) (sym g) less

sound_open : (on other : OnDisk) (j : Journal) (payloads : List (List ℕ)) (m : Store) (s t : Option (List ℕ)) (known known_other : ℕ) (x y : Content) → held_in on ≡ Some (held_by j payloads) → IsOther j.generation other
    → IfSome x.seen (λ file. map_of (payloads_of file) ≡ Ok m) → size_of m ≤ most_size → Opens s known x (Ok on) → Opens t known_other y (Ok other) → Sound j m known x y
sound_open on other j payloads m s t known known_other x y is less map small h k =
    let live = stands_open on j payloads s known x is h in
    let aside = stands_aside other j.generation t known_other y less k in
    record { stands_live = live.0; only_other = aside.0; below = aside.1; map = map; size = small }

module _ {D : Type 0} (state : D → DiskState) (a b : OnDisk) (on_a on_b : D) (s t : Option (List ℕ)) (j : Journal) (payloads : List (List ℕ)) (h : Opens s (state on_a).known (state on_a).content (Ok a)) (k : Opens t (state on_b).known (state on_b).content (Ok b)) where
  -- the same, whichever disk is live
  sound_live : (side : Side) (m : Store) → Chosen side (held_by j payloads) a b → IfSome (state (of_live side on_a on_b)).content.seen (λ file. map_of (payloads_of file) ≡ Ok m) → size_of m ≤ most_size
      → Sound j m (state (of_live side on_a on_b)).known (state (of_live side on_a on_b)).content (state (of_live (other_side side) on_a on_b)).content
  sound_live A m is map small = sound_open a b j payloads m s t (state on_a).known (state on_b).known (state on_a).content (state on_b).content is.live is.other map small h k
  sound_live B m is map small = sound_open b a j payloads m t s (state on_b).known (state on_a).known (state on_b).content (state on_a).content is.live is.other map small k h

  -- the file of the live one
  pub live_file : (side : Side) → Chosen side (held_by j payloads) a b
      → Stands j (state (of_live side on_a on_b)).known (state (of_live side on_a on_b)).content × IfSome (state (of_live side on_a on_b)).content.seen (λ file. payloads_of file ≡ payloads)
  live_file A is = stands_open a j payloads s (state on_a).known (state on_a).content is.live h
  live_file B is = stands_open b j payloads t (state on_b).known (state on_b).content is.live k

  module _ (side : Side) (is : chosen (held_in a) (held_in b) (len_of a) (len_of b) ≡ Ok (Live side (held_by j payloads))) (new_a new_b : D) (result : Result LiveStore OpenStop) (r : Rereads state side (stop_in result) on_a on_b new_a new_b) where
    live_still : (m : Store) → j.next_gate < (state (of_live side new_a new_b)).known → Sound j m (state (of_live side on_a on_b)).known (state (of_live side on_a on_b)).content (state (of_live (other_side side) on_a on_b)).content
        → Sound j m (state (of_live side new_a new_b)).known (state (of_live side new_a new_b)).content (state (of_live (other_side side) new_a new_b)).content
    live_still m reach sound = subst (λ (d : D). Sound j m (state (of_live side new_a new_b)).known (state (of_live side new_a new_b)).content (state d).content) (sym r.other)
        (record {
          stands_live = stands_still (stop_in result) (state (of_live side on_a on_b)) (state (of_live side new_a new_b)) j r.live reach sound.stands_live;
          only_other = sound.only_other;
          below = sound.below;
          map = subst (λ (t : Option (List ℕ)). IfSome t (λ file. map_of (payloads_of file) ≡ Ok m)) (sym r.live.seen) sound.map;
          size = sound.size;
        })

    -- the same for every result of restoring the map
    pub sound_restored : IfOk result (λ r. r.side ≡ side) → IfOk result (λ r. r.journal ≡ j) → IfOk result (λ r. IfSome (state (of_live side on_a on_b)).content.seen (λ file. map_of (payloads_of file) ≡ Ok r.kv)) → IfOk result (λ r. size_of r.kv ≤ most_size)
        → OnOk result (j.next_gate < (state (of_live side new_a new_b)).known)
        → IfOk result (λ r. Sound r.journal r.kv (state (of_live r.side new_a new_b)).known (state (of_live r.side new_a new_b)).content (state (of_live (other_side r.side) new_a new_b)).content)
    sound_restored = by result live_still
      where
        by : (result : Result LiveStore OpenStop)
            → ((m : Store) → j.next_gate < (state (of_live side new_a new_b)).known → Sound j m (state (of_live side on_a on_b)).known (state (of_live side on_a on_b)).content (state (of_live (other_side side) on_a on_b)).content
            → Sound j m (state (of_live side new_a new_b)).known (state (of_live side new_a new_b)).content (state (of_live (other_side side) new_a new_b)).content)
            → IfOk result (λ r. r.side ≡ side) → IfOk result (λ r. r.journal ≡ j) → IfOk result (λ r. IfSome (state (of_live side on_a on_b)).content.seen (λ file. map_of (payloads_of file) ≡ Ok r.kv)) → IfOk result (λ r. size_of r.kv ≤ most_size)
            → OnOk result (j.next_gate < (state (of_live side new_a new_b)).known)
            → IfOk result (λ r. Sound r.journal r.kv (state (of_live r.side new_a new_b)).known (state (of_live r.side new_a new_b)).content (state (of_live (other_side r.side) new_a new_b)).content)
        by (Err e) still at_side journal map small reach = tt
        by (Ok r) still at_side journal map small reach =
            let sound : Sound j r.kv (state (of_live side new_a new_b)).known (state (of_live side new_a new_b)).content (state (of_live (other_side side) new_a new_b)).content =
            still r.kv reach (sound_live side r.kv (chosen_live a b side (held_by j payloads) is) map small) in
            subst (λ (i : Side). Sound r.journal r.kv (state (of_live i new_a new_b)).known (state (of_live i new_a new_b)).content (state (of_live (other_side i) new_a new_b)).content) (sym at_side)
            (subst (λ (i : Journal). Sound i r.kv (state (of_live side new_a new_b)).known (state (of_live side new_a new_b)).content (state (of_live (other_side side) new_a new_b)).content) (sym journal) sound)

  -- and what it returns is what the bytes give
  pub gives_restored : (P : List (List ℕ) → Type 0) (side : Side) → chosen (held_in a) (held_in b) (len_of a) (len_of b) ≡ Ok (Live side (held_by j payloads)) → is_some (state on_a).content.seen ≡ is_some s → is_some (state on_b).content.seen ≡ is_some t
      → IfSome (state (of_live side on_a on_b)).content.seen (λ file. P (payloads_of file)) → (x y : List ℕ) → s ≡ Some x → t ≡ Some y → P payloads
  gives_restored P side is visible_a visible_b gives x y p q =
      let some_a : is_some (state on_a).content.seen ≡ true = visible_a ∙ ap is_some p in
      let some_b : is_some (state on_b).content.seen ≡ true = visible_b ∙ ap is_some q in
      by (state (of_live side on_a on_b)).content.seen (each side some_a some_b) (live_file side (chosen_live a b side (held_by j payloads) is)).1 gives
    where
      each : (side : Side) → is_some (state on_a).content.seen ≡ true → is_some (state on_b).content.seen ≡ true → is_some (state (of_live side on_a on_b)).content.seen ≡ true
      each A some_a some_b = some_a
      each B some_a some_b = some_b

      by : (z : Option (List ℕ)) → is_some z ≡ true → IfSome z (λ file. payloads_of file ≡ payloads) → IfSome z (λ file. P (payloads_of file)) → P payloads
      by None some these h = absurd cc
      by (Some file) some these h = subst P these h
