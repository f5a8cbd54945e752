-- A store that was opened on two disks of which one will fail.
use Rattle.std.proofs.Common.{◌≡◌, ℕ, ◌+◌, ◌-◌, ◌<◌, true, List, length, Option, Some, None, Result, Ok, refl, sym, ap, ◌∙◌, subst, arith}
use Rattle.std.specs.FinMap.{empty}
use Rattle.mon_types.specs.declared.member.Member.{Member}
use Rattle.mon_types.specs.declared.names.Side.{Side}
use Rattle.mon_types.specs.declared.names.Side.TheVariants.{A, B}
use Rattle.mon_disk.specs.declared.disk.DiskCall.{DiskCall}
use Rattle.mon_disk.specs.Calls.{Makes}
use Rattle.mon_disk.specs.Images.{Only}
use Rattle.mon_disk.specs.Laws.{as_read}
use Rattle.mon_disk.specs.Memory.{InjectedFault, from_of, seen_of}
use Rattle.mon_disk.specs.MemoryDisk.{MemoryState, observed_of}
use Rattle.mon_tx.specs.Map.{Store}
use Rattle.mon_journal.specs.declared.journal.Form.TheVariants.{Second}
use Rattle.mon_journal.specs.declared.journal.Journal.{Journal}
use Rattle.mon_journal.specs.Content as journal
use Rattle.mon_journal.specs.Written.{owner_of, created}
use Rattle.mon_store.specs.declared.stop.OpenStop.{OpenStop}
use Rattle.mon_store.specs.Times.{WhileOpening}
use Rattle.mon_store.specs.Opening.{Alike}
use Rattle.mon_store.specs.OpeningCalls.{MakesBoth, opening_calls}
use Rattle.mon_store.specs.Pair.{Found, Create, found}
use Rattle.mon_types.specs.Sides.{other as other_side}
use Rattle.mon_store.specs.Sound.{of_a, of_b, of_live, Sound}
use Rattle.mon_store.specs.StoreView.{StoreView, opens_as}
use Rattle.quorum_model.specs.Files.{File, Files, first_file, is_created, after_opening}
use Rattle.quorum_model.specs.InjectedFaults.{opening_count}
use Rattle.mon_site.specs.Disks.{file_in, content}
use Rattle.mon_site.specs.InjectedFault.{IsInjected, files_on}
use Rattle.mon_site.specs.Faults.{OpensMap, IsReady}
use Rattle.mon_site.proofs.Checkpointing.{files_seen}
use Rattle.mon_site.proofs.Found.{Content, files_with, open_writes, writes_a, Finds, IsNew, WasThere, finds, on_disk_a, on_disk_b, counts_a, counts_b}
use Rattle.mon_site.proofs.Guarded.{guarded}
use Rattle.mon_site.proofs.Opened.{place_of, new_opens, none_yet, files_there, second_none}
use Rattle.mon_site.proofs.Openings.{on_a, on_b, Opened, walks, injected_left}
use Rattle.mon_site.proofs.Standing.{file_by}

pub only_of_a : (side : Side) (live other : MemoryState) (j : Journal) (m : Store) (known : ℕ) → Sound j m known (content live) (content other) → Only (content (of_a side live other))
only_of_a A live other j m known sound = sound.stands_live.only
only_of_a B live other j m known sound = sound.only_other

pub only_of_b : (side : Side) (live other : MemoryState) (j : Journal) (m : Store) (known : ℕ) → Sound j m known (content live) (content other) → Only (content (of_b side live other))
only_of_b A live other j m known sound = sound.only_other
only_of_b B live other j m known sound = sound.stands_live.only

pub none_stands : (u : Option InjectedFault) → from_of u ≡ None → u ≡ None
none_stands None h = refl
none_stands (Some u) h = absurd cc

-- what is known of the store, whichever disk fails
pub record Well (disk : Side) (call image : ℕ) (m : Store) (f : Files) (side : Side) (live other : MemoryState) (j : Journal) (kv : Store) : Type 0 where
  pub form : j.form ≡ Second
  pub map : kv ≡ m
  pub files : files_on (of_a side live other) (of_b side live other) ≡ after_opening f
  pub beyond : opening_count disk f < call
  pub upset : IsInjected (call - opening_count disk f) image (of_live disk (of_a side live other) (of_b side live other))
  pub calm : (of_live (other_side disk) (of_a side live other) (of_b side live other)).life.upset ≡ None

module _ (member : Member) (m : Store) (f : Files) (a b : MemoryState) (side : Side) (live other : MemoryState) (j : Journal) (kv : Store) (known call image : ℕ)
    (sound : Sound j kv known (content live) (content other))
    (answer : opens_as member (seen_of a.life) (seen_of b.life) ≡ Ok (record { side = side; journal = j; kv = kv })) where
  abbrev na : MemoryState
  na = of_a side live other

  abbrev nb : MemoryState
  nb = of_b side live other

  abbrev it : StoreView
  it = record { side = side; journal = j; kv = kv }

  abbrev done : Result StoreView OpenStop
  done = Ok it

  module _ (only_a : Only (content a)) (only_b : Only (content b)) (opens : OpensMap member m (seen_of a.life) (seen_of b.life)) (files : files_on a b ≡ f)
      (times : WhileOpening (content a) (content b) (content na) (content nb) (Alike member (content a) (content b))) where
    same_store_view : it ≡ opens.store_view
    same_store_view = let h : ◌≡◌ {A = Result StoreView _} (Ok it) (Ok opens.store_view) = sym answer ∙ opens.opens in cc

    pub form_is : j.form ≡ Second
    form_is = ap (λ (s : StoreView). s.journal.form) same_store_view ∙ opens.form

    pub map_is : kv ≡ m
    map_is = ap (λ (s : StoreView). s.kv) same_store_view ∙ opens.map

    two : Alike member (content a) (content b) (seen_of na.life) (seen_of nb.life)
    two = times.alone (content na).time (seen_of na.life) (seen_of nb.life) times.to (omega arith) (as_read na) (as_read nb)

    p : (place : Found) × (found (seen_of a.life) (seen_of b.life) ≡ Ok place)
    p = place_of member (seen_of a.life) (seen_of b.life) opens.store_view opens.opens

    new_one : found (seen_of a.life) (seen_of b.life) ≡ Ok Create → it ≡ record { side = A; journal = created member 1 None; kv = empty }
    new_one e = let h : ◌≡◌ {A = Result StoreView _} (Ok it) (Ok (record { side = A; journal = created member 1 None; kv = empty })) = sym answer ∙ new_opens member (seen_of a.life) (seen_of b.life) e in cc

    first_is : found (seen_of a.life) (seen_of b.life) ≡ Ok Create → file_in (seen_of na.life) ≡ Some first_file
    first_is e =
        ap (λ (g : Files). g.a) (files_seen side live other j kv known sound)
        ∙ ap (λ (s : StoreView). of_a s.side (Some (file_by s.journal)) (file_in (seen_of other.life))) (new_one e)

    files_by : Finds (journal.content (seen_of a.life)) (journal.content (seen_of b.life)) (found (seen_of a.life) (seen_of b.life)) → files_on na nb ≡ after_opening f
    files_by (WasThere made_before t) =
        let created_f : is_created f ≡ true = ap is_created (sym files) ∙ made_before in
        files_there member m a b na nb only_a only_b opens (seen_of na.life) (seen_of nb.life) two.0 two.1 t ∙ files ∙ rw created_f refl
    files_by (IsNew none_a none_b e) =
        let before : f ≡ none_yet = sym files ∙ ap (λ (x : Content). files_with x (journal.content (seen_of b.life))) none_a ∙ ap (λ (y : Content). files_with None y) none_b in
        ap (λ (x : Option File). record { a = x; b = file_in (seen_of nb.life) }) (first_is e)
        ∙ ap (λ (y : Option File). record { a = Some first_file; b = y }) (second_none member m a b na nb only_a only_b opens (seen_of na.life) (seen_of nb.life) two.0 two.1 none_b)
        ∙ ap after_opening (sym before)

    pub files_are : files_on na nb ≡ after_opening f
    files_are = files_by (finds (owner_of member) (seen_of a.life) (seen_of b.life) p.0 p.1)

  abbrev calls : List (Side × DiskCall)
  calls = opening_calls (owner_of member) (seen_of a.life) (seen_of b.life)

  module _ (made : MakesBoth calls (Some (observed_of a.life)) (Some (observed_of b.life)) (Some (observed_of na.life)) (Some (observed_of nb.life)) done)
      (times : WhileOpening (content a) (content b) (content na) (content nb) (Alike member (content a) (content b))) where
    pub well_a : IsReady A call image member m f a b → Well A call image m f side live other j kv
    well_a ready =
        let p = place_of member (seen_of a.life) (seen_of b.life) ready.opens.store_view ready.opens.opens in
        let writes = writes_a (owner_of member) (journal.content (seen_of a.life)) (journal.content (seen_of b.life)) in
        let both = on_a done calls (observed_of a.life) (observed_of b.life) (observed_of na.life) (observed_of nb.life) (ap from_of ready.calm) made in
        let opened : Opened call image a ready.upset ready.only_a writes (observed_of na.life) =
        walks call image a ready.upset ready.only_a writes (observed_of na.life) None
        (subst (λ (cs : List DiskCall). Makes cs None (Some (observed_of a.life)) (Some (observed_of na.life))) (on_disk_a (owner_of member) (seen_of a.life) (seen_of b.life) p.0 p.1) both.0) in
        let count : opening_count A f ≡ 1 + length (guarded writes) = ap (λ (g : Files). opening_count A g) (sym ready.files) ∙ counts_a (owner_of member) (seen_of a.life) (seen_of b.life) p.0 p.1 in
        record {
          form = form_is ready.only_a ready.only_b ready.opens ready.files times;
          map = map_is ready.only_a ready.only_b ready.opens ready.files times;
          files = files_are ready.only_a ready.only_b ready.opens ready.files times;
          beyond = omega (arith, count, opened.beyond);
          upset = subst (λ (n : ℕ). IsInjected (call - n) image na) (sym count) (injected_left call image a ready.upset ready.only_a writes na (only_of_a side live other j kv known sound) opened);
          calm = none_stands nb.life.upset both.1;
        }

    pub well_b : IsReady B call image member m f a b → Well B call image m f side live other j kv
    well_b ready =
        let p = place_of member (seen_of a.life) (seen_of b.life) ready.opens.store_view ready.opens.opens in
        let writes = open_writes (journal.content (seen_of b.life)) in
        let both = on_b done calls (observed_of a.life) (observed_of b.life) (observed_of na.life) (observed_of nb.life) (ap from_of ready.calm) made in
        let opened : Opened call image b ready.upset ready.only_b writes (observed_of nb.life) =
        walks call image b ready.upset ready.only_b writes (observed_of nb.life) None
        (subst (λ (cs : List DiskCall). Makes cs None (Some (observed_of b.life)) (Some (observed_of nb.life))) (on_disk_b (owner_of member) (seen_of a.life) (seen_of b.life) p.0 p.1) both.0) in
        let count : opening_count B f ≡ 1 + length (guarded writes) = ap (λ (g : Files). opening_count B g) (sym ready.files) ∙ counts_b (owner_of member) (seen_of a.life) (seen_of b.life) p.0 p.1 in
        record {
          form = form_is ready.only_a ready.only_b ready.opens ready.files times;
          map = map_is ready.only_a ready.only_b ready.opens ready.files times;
          files = files_are ready.only_a ready.only_b ready.opens ready.files times;
          beyond = omega (arith, count, opened.beyond);
          upset = subst (λ (n : ℕ). IsInjected (call - n) image nb) (sym count) (injected_left call image b ready.upset ready.only_b writes nb (only_of_b side live other j kv known sound) opened);
          calm = none_stands na.life.upset both.1;
        }

    pub well : (disk : Side) → IsReady disk call image member m f a b → Well disk call image m f side live other j kv
    well A ready = well_a ready
    well B ready = well_b ready
