-- What two disks represent while a transaction is applied, and then.
use Rattle.std.proofs.Common.{◌≡◌, ℕ, ◌≤◌, Bool, true, false, cond, eqb, is_some, List, [], ◌∷◌, ◌++◌, Option, Some, None, Result, Ok, Err, refl, sym, ap, subst, ◌∙◌}
use Rattle.std.specs.Prelude.{IfSome, IfErr, OnOk, OnErr, slice_index_or}
use Rattle.std.proofs.lemmas.Bool.{eqb-true}
use Rattle.mon_types.specs.declared.names.Side.{Side}
use Rattle.mon_types.specs.declared.names.Side.TheVariants.{A, B}
use Rattle.mon_disk.specs.Calls.{DiskState}
use Rattle.mon_disk.specs.Images.{Content, images, LeavesOnly}
use Rattle.mon_tx.specs.declared.op.Op.{Op}
use Rattle.mon_tx.specs.Map.{Store, apply}
use Rattle.mon_tx.specs.Text.{text}
use Rattle.mon_tx.specs.Decode.{HasText}
use Rattle.mon_kv.specs.Readers.{size_of}
use Rattle.mon_journal.specs.declared.journal.Journal.{Journal}
use Rattle.mon_journal.specs.Content.{content, payloads_of, held_by, appended}
use Rattle.mon_journal.specs.Steps.{payloads_observed, payloads_seen, Keeps}
use Rattle.mon_store.specs.Checkpoint.{most_size}
use Rattle.mon_store.specs.Payloads.{map_of}
use Rattle.mon_store.specs.Times.{Meanwhile, EachPair}
use Rattle.mon_types.specs.Sides.{other as other_side}
use Rattle.mon_store.specs.Sound.{of_a, of_b, of_live, IsBelow, Sound, WithChange, StandsOn, BeforeOrAfter}
use Rattle.mon_store.specs.declared.stop.StoreStop.{StoreStop}
use Rattle.mon_store.specs.declared.stop.StoreStop.TheVariants.{Broken, TooLong, Full, DiskFault, OutOfMemory}
use Rattle.mon_store.specs.Refusals.{AfterRefusal, LeavesDisk, breaks}
use Rattle.mon_store.proofs.Payloads.{map_more}
use Rattle.mon_store.proofs.OnPairs.{on_held, live_is}
use Rattle.mon_store.proofs.Times.{first_goes, second_goes}
use Rattle.mon_store.proofs.Keeping.{holds_now, shut}

-- ---- what can be seen of a disk

pub observed_map : (m : Store) (s : Option (List ℕ)) → is_some s ≡ true → IfSome s (λ file. map_of (payloads_of file) ≡ Ok m) → map_of (payloads_observed s) ≡ Ok m
observed_map m None some h = absurd cc
observed_map m (Some file) some h = h

observed_below : (generation : ℕ) (s : Option (List ℕ)) (d : List ℕ) → s ≡ Some d → IfSome s (λ file. IsBelow generation (content file)) → IsBelow generation (content d)
observed_below generation s d is h = subst (λ (t : Option (List ℕ)). IfSome t (λ file. IsBelow generation (content file))) is h

pub is_observed : (s : Option (List ℕ)) (c : List ℕ) → s ≡ Some c → is_some s ≡ true
is_observed s c is = ap is_some is

module _ (journal : Journal) (m : Store) (known : ℕ) (live other : Content) (sound : Sound journal m known live other) (side : Side) where
  below_now : (d : List ℕ) → images other d → IsBelow journal.generation (content d)
  below_now d left = observed_below journal.generation other.seen d (sound.only_other d left) sound.below

  -- a crash now leaves the map
  pub stands_now : (c d : List ℕ) → images live c → images other d → StandsOn side journal m (of_a side c d) (of_b side c d)
  stands_now c d left there =
      let observed = is_observed live.seen c (sound.stands_live.only c left) in
      on_held side c d journal (payloads_seen live) m (holds_now journal known live sound.stands_live c left) (below_now d there) (observed_map m live.seen observed sound.map)

  abbrev Either : List Op → Bool → List ℕ → List ℕ → Type 0
  Either ops b = StandsOn side (cond b (appended journal (text ops)) journal) (cond b (apply ops m) m)

  -- what a crash leaves of a record, together with the other disk
  pub changes : (ops : List Op) → is_some live.seen ≡ true → (c d : List ℕ) → WithChange journal (payloads_seen live) m ops c → images other d → BeforeOrAfter side journal m ops (of_a side c d) (of_b side c d)
  changes ops observed c d change there =
      subst (λ (l : List ℕ). Either ops (eqb (slice_index_or l journal.next_gate 0) 1) (of_a side c d) (of_b side c d)) (sym (live_is side c d)) (by (eqb (slice_index_or c journal.next_gate 0) 1) refl change.0)
    where
      payloads : List (List ℕ)
      payloads = payloads_seen live

      by : (b : Bool) → eqb (slice_index_or c journal.next_gate 0) 1 ≡ b
          → content c ≡ Some (Ok (cond b (held_by (appended journal (text ops)) (payloads ++ text ops ∷ [])) (held_by journal payloads))) → Either ops b (of_a side c d) (of_b side c d)
      by false e is = on_held side c d journal payloads m is (below_now d there) (observed_map m live.seen observed sound.map)
      by true e is =
          let fits = change.1 (eqb-true _ _ e) in
          on_held side c d (appended journal (text ops)) (payloads ++ text ops ∷ []) (apply ops m) is (below_now d there) (map_more payloads m ops (observed_map m live.seen observed sound.map) fits.0 fits.1)

  -- no change
  pub changes_nothing : (ops : List Op) (c d : List ℕ) → images live c → images other d → BeforeOrAfter side journal m ops (of_a side c d) (of_b side c d)
  changes_nothing ops c d left there =
      subst (λ (l : List ℕ). Either ops (eqb (slice_index_or l journal.next_gate 0) 1) (of_a side c d) (of_b side c d)) (sym (live_is side c d))
      (subst (λ (b : Bool). Either ops b (of_a side c d) (of_b side c d)) (sym (shut journal known live sound.stands_live c left)) (stands_now c d left there))

  -- after the record
  pub sound_after : (ops : List Op) (next : Journal) (reach : ℕ) (new : Content) → next ≡ appended journal (text ops) → HasText ops → size_of (apply ops m) ≤ most_size → is_some new.seen ≡ is_some live.seen
      → Keeps next (payloads_seen live ++ text ops ∷ []) reach new → Sound next (apply ops m) reach new other
  sound_after ops next reach new is form small visible keeps = record {
    stands_live = keeps.stands;
    only_other = sound.only_other;
    below = subst (λ (j : Journal). IfSome other.seen (λ file. IsBelow j.generation (content file))) (sym is) sound.below;
    map = by new.seen visible keeps.payloads_are;
    size = small;
  }
    where
      by : (s : Option (List ℕ)) → is_some s ≡ is_some live.seen → IfSome s (λ file. payloads_of file ≡ payloads_seen live ++ text ops ∷ []) → IfSome s (λ file. map_of (payloads_of file) ≡ Ok (apply ops m))
      by None visible h = tt
      by (Some file) visible h = ap map_of h ∙ map_more (payloads_seen live) m ops (observed_map m live.seen (sym visible) sound.map) form small

-- ---- by the disk that is live

pub each_pair : {D : Type 0} (state : D → DiskState) (side : Side) (live other : D) (P : List ℕ → List ℕ → Type 0) → ((c d : List ℕ) → images (state live).content c → images (state other).content d → P (of_a side c d) (of_b side c d))
    → EachPair (state (of_a side live other)).content (state (of_b side live other)).content P
each_pair state A live other P h = λ c d left there. h c d left there
each_pair state B live other P h = λ c d there left. h d c left there

pub live_goes : {D : Type 0} (state : D → DiskState) (side : Side) (live new other : D) (Q : List ℕ → Type 0) (P : List ℕ → List ℕ → Type 0) → LeavesOnly (state live).content (state new).content Q
    → ((c d : List ℕ) → Q c → images (state other).content d → P (of_a side c d) (of_b side c d))
    → Meanwhile (state (of_a side live other)).content (state (of_b side live other)).content (state (of_a side new other)).content (state (of_b side new other)).content P
live_goes state A live new other Q P l h = first_goes (state live).content (state new).content (state other).content Q P l h
live_goes state B live new other Q P l h = second_goes (state other).content (state live).content (state new).content Q P l (λ c d there left. h d c left there)

-- two disks of which one is live
pub stands_pair : {D : Type 0} (state : D → DiskState) (a b : D) (side : Side) (j : Journal) (m : Store) → Sound j m (state (of_live side a b)).known (state (of_live side a b)).content (state (of_live (other_side side) a b)).content
    → EachPair (state a).content (state b).content (StandsOn side j m)
stands_pair state a b A j m sound = each_pair state A a b (StandsOn A j m) (stands_now j m (state a).known (state a).content (state b).content sound A)
stands_pair state a b B j m sound = each_pair state B b a (StandsOn B j m) (stands_now j m (state b).known (state b).content (state a).content sound B)

-- ---- after the answer

-- what is known of a store after a transaction was kept or refused
pub record Kept {D : Type 0} (state : D → DiskState) (journal : Journal) (m : Store) (live : D) (ops : List Op) (next : Journal) (kv : Store) (new : D) (result : Result (Unit {0}) StoreStop) : Type 0 where
  pub keeps : OnOk result (Keeps next (payloads_seen (state live).content ++ text ops ∷ []) (state new).known (state new).content)
  pub appends : OnOk result (next ≡ appended journal (text ops))
  pub stays : OnErr result (next ≡ journal)
  pub form : OnOk result (HasText ops)
  pub map : OnOk result (kv ≡ apply ops m)
  pub size : OnOk result (size_of (apply ops m) ≤ most_size)
  pub refused : IfErr result (AfterRefusal ops m kv)
  pub disk : IfErr result (LeavesDisk live new)
  pub visible : is_some (state new).content.seen ≡ is_some (state live).content.seen

module _ {D : Type 0} (state : D → DiskState) (journal : Journal) (m : Store) (live other : D) (sound : Sound journal m (state live).known (state live).content (state other).content) (side : Side) where
  pub sound_then : (ops : List Op) (next : Journal) (kv : Store) (new : D) (result : Result (Unit {0}) StoreStop) → Kept state journal m live ops next kv new result → breaks result ≡ false → Sound next kv (state new).known (state new).content (state other).content
  sound_then ops next kv new (Ok x) k whole =
      subst (λ (n : Store). Sound next n (state new).known (state new).content (state other).content) (sym k.map)
      (sound_after journal m (state live).known (state live).content (state other).content sound side ops next (state new).known (state new).content k.appends k.form k.size k.visible k.keeps)
  sound_then ops next kv new (Err (TooLong len)) k whole =
      subst (λ (n : Store). Sound next n (state new).known (state new).content (state other).content) (sym k.refused.2)
      (subst (λ (j : Journal). Sound j m (state new).known (state new).content (state other).content) (sym k.stays) (subst (λ (d : D). Sound journal m (state d).known (state d).content (state other).content) (sym k.disk) sound))
  sound_then ops next kv new (Err Broken) k whole = absurd k.refused
  sound_then ops next kv new (Err (Full would_be)) k whole = absurd cc
  sound_then ops next kv new (Err DiskFault) k whole = absurd cc
  sound_then ops next kv new (Err OutOfMemory) k whole = absurd cc

pub safe_then : {D : Type 0} (state : D → DiskState) (next : Journal) (kv : Store) (new other : D) (side : Side) (result : Result (Unit {0}) StoreStop) → (breaks result ≡ false → Sound next kv (state new).known (state new).content (state other).content)
    → OnOk result (EachPair (state (of_a side new other)).content (state (of_b side new other)).content (StandsOn side next kv))
safe_then state next kv new other side (Ok x) sound = each_pair state side new other (StandsOn side next kv) (stands_now next kv (state new).known (state new).content (state other).content (sound refl) side)
safe_then state next kv new other side (Err e) sound = tt
