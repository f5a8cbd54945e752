-- A store that is open on two disks of which none fails: its opening, a transaction, what is due, and its close.
use Rattle.std.proofs.Common.{◌≡◌, inl, ℕ, ◌≤◌, ◌<◌, Bool, true, false, List, Option, Some, None, Result, Ok, Err, refl, sym, ap, ◌∙◌, subst}
use Rattle.std.specs.Prelude.{◌||◌, OnOk}
use Rattle.mon_types.specs.declared.member.Member.{Member}
use Rattle.mon_types.specs.declared.names.Side.{Side}
use Rattle.mon_types.specs.declared.names.Side.TheVariants.{A, B}
use Rattle.mon_types.specs.declared.names.Stop.TheVariants as disk
use Rattle.mon_disk.specs.declared.disk.DiskCall.{DiskCall}
use Rattle.mon_disk.specs.Calls.{Observed, Makes, Called}
use Rattle.mon_disk.specs.Memory.{InjectedFault, from_of, seen_of, settled, settled_as}
use Rattle.mon_disk.specs.MemoryDisk.{MemoryState, observed_of, state_of}
use Rattle.mon_tx.specs.declared.op.Op.{Op}
use Rattle.mon_tx.specs.Map.{Store, apply}
use Rattle.mon_kv.specs.Readers.{size_of, most_size}
use Rattle.mon_journal.specs.declared.journal.Journal.{Journal}
use Rattle.mon_journal.specs.Steps.{Any}
use Rattle.mon_journal.specs.Written.{owner_of}
use Rattle.mon_store.specs.declared.stop.OpenStop.{OpenStop}
use Rattle.mon_store.specs.declared.stop.OpenStop.TheVariants as opening
use Rattle.mon_store.specs.declared.stop.StoreStop.{StoreStop}
use Rattle.mon_store.specs.declared.stop.StoreStop.TheVariants as stop
use Rattle.mon_store.specs.declared.store.Store as kept
use Rattle.mon_store.specs.Calls.{apply_calls, restart_calls, journal_after, stop_in, unless_early}
use Rattle.mon_store.specs.Times.{WhileOpening}
use Rattle.mon_store.specs.Opening as opened
use Rattle.mon_store.specs.Opening.{Alike}
use Rattle.mon_store.specs.OpeningCalls.{MakesBoth, opening_calls}
use Rattle.mon_store.specs.Pair.{NotAStore, Stranger}
use Rattle.mon_store.specs.Refusals.{Answers, Restarts, breaks}
use Rattle.mon_types.specs.Sides.{other as other_side}
use Rattle.mon_store.specs.Sound.{of_a, of_b, of_live, is_due, next_journal, Sound}
use Rattle.mon_store.specs.StoreView.{StoreView, opens_as}
use Rattle.mon_store.specs.Whole.{IsSound, disk_a, disk_b, disk_of}
use Rattle.mon_store.proofs.OnPairs.{store_view_opens}
use Rattle.quorum_model.specs.Cuts.{after_checkpoint}
use Rattle.quorum_model.specs.Files.{File, Files, is_created, after_opening, after_append}
use Rattle.mon_site.specs.Calm.{Runs, Changes, Renews, Applies}
use Rattle.mon_site.specs.Disks.{file_in, files_in, content}
use Rattle.mon_site.specs.Ending.{IsKept, IsMemory}
use Rattle.mon_site.specs.Faults.{Settles, Rests}
use Rattle.mon_site.specs.InjectedFault.{files_on}
use Rattle.mon_site.proofs.Checkpointing.{files_seen, stands_seen}
use Rattle.mon_site.proofs.Ending.{files_grow}
use Rattle.mon_site.proofs.OnStores.{after_form, after_owner, not_due, made_whole}
use Rattle.mon_site.proofs.Openings.{unfailing, on, on_a}
use Rattle.mon_site.proofs.Remaining.{only_of_a, only_of_b, none_stands, form_is, map_is, files_are}
use Rattle.mon_site.proofs.Standing.{file_by, files_with}
use Rattle.mon_site.proofs.Written.{memory_stops}

abbrev Held : Type 0
Held = kept.Store MemoryState

-- ---- disks without an injected fault

pub as_seen : (d : MemoryState) → d.life.upset ≡ None → settled d.life ≡ seen_of d.life
as_seen d calm = ap (λ (u : Option InjectedFault). settled_as u d.life) calm

seen_files : (member : Member) (m : Store) (f : Files) (a b : MemoryState) → a.life.upset ≡ None → b.life.upset ≡ None → Settles member m f a b → files_on a b ≡ f
seen_files member m f a b calm_a calm_b s =
    ap (λ (x : List ℕ). files_in x (seen_of b.life)) (sym (as_seen a calm_a)) ∙ ap (λ (y : List ℕ). files_in (settled a.life) y) (sym (as_seen b calm_b)) ∙ s.files

by_name : (side : Side) (live other : MemoryState) → live.life.upset ≡ None → other.life.upset ≡ None → ((of_a side live other).life.upset ≡ None) × ((of_b side live other).life.upset ≡ None)
by_name A live other calm_live calm_other = (calm_live, calm_other)
by_name B live other calm_live calm_other = (calm_other, calm_live)

by_place : (side : Side) (live other : MemoryState) → (of_a side live other).life.upset ≡ None → (of_b side live other).life.upset ≡ None → (live.life.upset ≡ None) × (other.life.upset ≡ None)
by_place A live other calm_a calm_b = (calm_a, calm_b)
by_place B live other calm_a calm_b = (calm_b, calm_a)

of_two : (side : Side) (a b : MemoryState) → (of_live side a b).life.upset ≡ None → (of_live (other_side side) a b).life.upset ≡ None → (a.life.upset ≡ None) × (b.life.upset ≡ None)
of_two A a b calm calm_other = (calm, calm_other)
of_two B a b calm calm_other = (calm_other, calm)

-- ---- opening

both_calm : {T : Type 0} (result : Result T OpenStop) (calls : List (Side × DiskCall)) (s t new_s new_t : Observed) → s.fails_from ≡ None → t.fails_from ≡ None → MakesBoth calls (Some s) (Some t) (Some new_s) (Some new_t) result
    → (result ≡ Err opening.DiskFault → ⊥) × (new_s.fails_from ≡ None) × (new_t.fails_from ≡ None)
both_calm {T = T} result calls s t new_s new_t calm_s calm_t made =
    let x = on_a result calls s t new_s new_t calm_t made in
    let u = unfailing (opened.stop_in result) (on A calls) s new_s calm_s x.0 in
    (λ is. u.0 (ap (λ (r : Result T OpenStop). opened.stop_in r) is), u.1, x.1)

-- none of its calls fails
pub opens_whole : {T : Type 0} (result : Result T OpenStop) (member : Member) (m : Store) (f : Files) (a b na nb : MemoryState) → Rests member m f a b
    → MakesBoth (opening_calls (owner_of member) (seen_of a.life) (seen_of b.life)) (Some (observed_of a.life)) (Some (observed_of b.life)) (Some (observed_of na.life)) (Some (observed_of nb.life)) result
    → (result ≡ Err opening.DiskFault → ⊥) × (na.life.upset ≡ None) × (nb.life.upset ≡ None)
opens_whole result member m f a b na nb rests made =
    let r = both_calm result (opening_calls (owner_of member) (seen_of a.life) (seen_of b.life)) (observed_of a.life) (observed_of b.life) (observed_of na.life) (observed_of nb.life) (ap from_of rests.calm_a.calm) (ap from_of rests.calm_b.calm) made in
    (r.0, none_stands na.life.upset r.1, none_stands nb.life.upset r.2)

-- so an opening fails only if memory runs out
pub only_memory_lacks : (member : Member) (a b : MemoryState) (s : StoreView) (e : OpenStop) → opens_as member (seen_of a.life) (seen_of b.life) ≡ Ok s → opened.Answers member (seen_of a.life) (seen_of b.life) (Err e)
    → (◌≡◌ {A = Result StoreView OpenStop} (Err e) (Err opening.DiskFault) → ⊥) → e ≡ opening.OutOfMemory
only_memory_lacks member a b s opening.DiskFault opens answer calm = absurd (calm refl)
only_memory_lacks member a b s opening.OutOfMemory opens answer calm = refl
only_memory_lacks member a b s (opening.NotAStore side at) opens answer calm = let other : Ok s ≡ Err (NotAStore side at) = sym opens ∙ answer in absurd cc
only_memory_lacks member a b s (opening.Stranger held asked) opens answer calm = let other : Ok s ≡ Err (Stranger (owner_of held) (owner_of asked)) = sym opens ∙ answer in absurd cc

pub begins : (member : Member) (m : Store) (f : Files) (a b : MemoryState) (s : Held) → Rests member m f a b → s.broken ≡ false
    → Sound s.journal s.kv s.live.known (content s.live) (content s.other) → owner_of s.journal.member ≡ owner_of member
    → opens_as member (seen_of a.life) (seen_of b.life) ≡ Ok (record { side = s.side; journal = s.journal; kv = s.kv })
    → WhileOpening (content a) (content b) (content (disk_a s)) (content (disk_b s)) (Alike member (content a) (content b))
    → (disk_a s).life.upset ≡ None → (disk_b s).life.upset ≡ None → Runs member m (after_opening f) s
begins member m f a b s rests whole sound own answer times calm_a calm_b =
    let calm = by_place s.side s.live s.other calm_a calm_b in record {
      unbroken = whole;
      sound = sound;
      form = form_is member m f a b s.side s.live s.other s.journal s.kv s.live.known 1 0 sound answer rests.calm_a.only rests.calm_b.only rests.opens rests.files times;
      owner = own;
      map = map_is member m f a b s.side s.live s.other s.journal s.kv s.live.known 1 0 sound answer rests.calm_a.only rests.calm_b.only rests.opens rests.files times;
      files = files_are member m f a b s.side s.live s.other s.journal s.kv s.live.known 1 0 sound answer rests.calm_a.only rests.calm_b.only rests.opens rests.files times;
      calm_live = calm.0;
      calm_other = calm.1;
    }

-- ---- a transaction

module _ (member : Member) (m : Store) (f : Files) (ops : List Op) (old new : Held) (runs : Runs member m f old) where
  grown : new.side ≡ old.side → new.other ≡ old.other → new.broken ≡ false → IsSound state_of new → new.journal ≡ journal_after old.journal ops → new.kv ≡ apply ops old.kv
      → Makes (apply_calls old.journal.next_gate ops) None (Some (observed_of old.live.life)) (Some (observed_of new.live.life)) → Runs member (apply ops m) (after_append ops f) new
  grown side other whole sound journal map made =
      let here : Sound new.journal new.kv new.live.known (content new.live) (content old.other) = subst (λ (o : MemoryState). Sound new.journal new.kv new.live.known (content new.live) (content o)) other (sound whole) in
      record {
        unbroken = whole;
        sound = sound whole;
        form = ap (λ (j : Journal). j.form) journal ∙ after_form old.journal ops ∙ runs.form;
        owner = ap (λ (j : Journal). owner_of j.member) journal ∙ after_owner old.journal ops ∙ runs.owner;
        map = map ∙ ap (λ (n : Store). apply ops n) runs.map;
        files =
            subst (λ (o : MemoryState). files_on (of_a new.side new.live o) (of_b new.side new.live o) ≡ after_append ops f) (sym other)
            (subst (λ (s : Side). files_on (of_a s new.live old.other) (of_b s new.live old.other) ≡ after_append ops f) (sym side)
            (files_grow old.side old.live old.other old.journal old.kv old.live.known runs.sound new.live new.journal new.kv new.live.known ops here journal ∙ ap (after_append ops) runs.files));
        calm_live = none_stands new.live.life.upset (unfailing None (apply_calls old.journal.next_gate ops) (observed_of old.live.life) (observed_of new.live.life) (ap from_of runs.calm_live) made).1;
        calm_other = ap (λ (o : MemoryState). o.life.upset) other ∙ runs.calm_other;
      }

  pub changes : (result : Result (Unit {0}) StoreStop) → new.side ≡ old.side → new.other ≡ old.other → IsSound state_of new → new.broken ≡ (old.broken || breaks result) → Answers ops old.kv new.kv old.broken result
      → OnOk result (new.journal ≡ journal_after old.journal ops)
      → Called (unless_early result (apply_calls old.journal.next_gate ops)) Any (stop_in result) (state_of old.live) (state_of new.live) → Changes member m f ops new result
  changes (Ok done) side other sound broken answer journal called =
      (subst (λ (n : Store). size_of (apply ops n) ≤ most_size) runs.map answer.2, grown side other (broken ∙ ap (λ (b : Bool). b || false) runs.unbroken) sound journal answer.3 called.made)
  changes (Err stop.Broken) side other sound broken answer journal called = let whole : old.broken ≡ false = runs.unbroken in absurd cc
  changes (Err (stop.TooLong len)) side other sound broken answer journal called = answer.1.0
  changes (Err (stop.Full would_be)) side other sound broken answer journal called =
      (subst (λ (n : Store). most_size < size_of (apply ops n)) runs.map answer.1.1, answer.1.2 ∙ ap (λ (n : Store). size_of (apply ops n)) runs.map)
  changes (Err stop.DiskFault) side other sound broken answer journal called =
      let r = unfailing (Some disk.Failed) (apply_calls old.journal.next_gate ops) (observed_of old.live.life) (observed_of new.live.life) (ap from_of runs.calm_live) called.made in absurd (r.0 refl)
  changes (Err stop.OutOfMemory) side other sound broken answer journal called = tt

-- ---- what is due

with_files : (member : Member) (m : Store) (f g : Files) (s : Held) → Runs member m f s → files_on (disk_a s) (disk_b s) ≡ g → Runs member m g s
with_files member m f g s runs files = record {
  unbroken = runs.unbroken;
  sound = runs.sound;
  form = runs.form;
  owner = runs.owner;
  map = runs.map;
  files = files;
  calm_live = runs.calm_live;
  calm_other = runs.calm_other;
}

module _ (member : Member) (m : Store) (f : Files) (old new : Held) (runs : Runs member m f old) where
  whole_so_far : IsKept true 7 0 member m f old
  whole_so_far = record {
    unbroken = runs.unbroken;
    sound = runs.sound;
    form = runs.form;
    owner = runs.owner;
    map = runs.map;
    files = runs.files;
    other = inl (refl, runs.calm_other);
  }

  pub idle : is_due old.journal old.kv ≡ false → new ≡ old → Runs member m (after_checkpoint m f) new
  idle none same =
      let still : Runs member m f new = subst (λ (s : Held). Runs member m f s) (sym same) runs in
      let calm = by_name new.side new.live new.other still.calm_live still.calm_other in
      with_files member m f (after_checkpoint m f) new still (seen_files member m (after_checkpoint m f) (disk_a new) (disk_b new) calm.0 calm.1 (not_due true 7 0 member m f old new whole_so_far none same))

  abbrev aside : MemoryState
  aside = disk_of (other_side old.side) new

  pub renewed : is_due old.journal old.kv ≡ true → new.side ≡ other_side old.side → new.journal ≡ next_journal old.journal old.kv → new.kv ≡ old.kv → disk_of old.side new ≡ old.live → new.broken ≡ false → IsSound state_of new
      → Makes (restart_calls old.journal old.kv) None (Some (observed_of old.other.life)) (Some (observed_of aside.life)) → Runs member m (after_checkpoint m f) new
  renewed due side journal map untouched whole sound made =
      let calm_aside : aside.life.upset ≡ None = none_stands aside.life.upset (unfailing None (restart_calls old.journal old.kv) (observed_of old.other.life) (observed_of aside.life) (ap from_of runs.calm_other) made).1 in
      let calm = of_two old.side (disk_a new) (disk_b new) (ap (λ (d : MemoryState). d.life.upset) untouched ∙ runs.calm_live) calm_aside in
      let placed = by_place new.side new.live new.other calm.0 calm.1 in
      record {
        unbroken = whole;
        sound = sound whole;
        form = ap (λ (j : Journal). j.form) journal;
        owner = ap (λ (j : Journal). owner_of j.member) journal ∙ runs.owner;
        map = map ∙ runs.map;
        files = seen_files member m (after_checkpoint m f) (disk_a new) (disk_b new) calm.0 calm.1 (made_whole true 7 0 member m f old new whole_so_far due side journal map untouched (sound whole) made);
        calm_live = placed.0;
        calm_other = placed.1;
      }

  pub only_memory : (e : StoreStop) → Restarts old.broken (is_due old.journal old.kv) (Err e)
      → Called (unless_early {T = Bool} (Err e) (restart_calls old.journal old.kv)) Any (stop_in {T = Bool} (Err e)) (state_of old.other) (state_of aside) → IsMemory e
  only_memory stop.Broken answer called = let whole : old.broken ≡ false = runs.unbroken in absurd cc
  only_memory (stop.TooLong len) answer called = answer
  only_memory (stop.Full would_be) answer called = answer
  only_memory stop.DiskFault answer called =
      let r = unfailing (Some disk.Failed) (restart_calls old.journal old.kv) (observed_of old.other.life) (observed_of aside.life) (ap from_of runs.calm_other) called.made in r.0 refl
  only_memory stop.OutOfMemory answer called = tt

-- ---- both

pub both_made : (member : Member) (m : Store) (f : Files) (ops : List Op) (store : Held) (result : Result (Unit {0}) StoreStop) → size_of (apply ops m) ≤ most_size
    → Renews member (apply ops m) (after_append ops f) store result → Applies member m f ops store result
both_made member m f ops store (Ok done) small r = (small, r)
both_made member m f ops store (Err e) small r = memory_stops m ops e r

-- ---- its close

module _ (member : Member) (m : Store) (f : Files) (s : Held) (runs : Runs member m f s) where
  pub rests : Rests member m f (disk_a s) (disk_b s)
  rests =
      let calm = by_name s.side s.live s.other runs.calm_live runs.calm_other in record {
        calm_a = record { calm = calm.0; only = only_of_a s.side s.live s.other s.journal s.kv s.live.known runs.sound };
        calm_b = record { calm = calm.1; only = only_of_b s.side s.live s.other s.journal s.kv s.live.known runs.sound };
        opens = record {
          store_view = record { side = s.side; journal = s.journal; kv = s.kv };
          opens = store_view_opens s.journal s.kv member s.side (seen_of (disk_a s).life) (seen_of (disk_b s).life) (stands_seen s.side s.live s.other s.journal s.kv s.live.known runs.sound) runs.owner;
          form = runs.form;
          map = runs.map;
        };
        files = runs.files;
      }

  one_there : (side : Side) (live : File) (other : Option File) → is_created (files_with side live other) ≡ true
  one_there A live other = refl
  one_there B live None = refl
  one_there B live (Some file) = refl

  pub created : is_created f ≡ true
  created = ap is_created (sym runs.files ∙ files_seen s.side s.live s.other s.journal s.kv s.live.known runs.sound) ∙ one_there s.side (file_by s.journal) (file_in (seen_of s.other.life))
