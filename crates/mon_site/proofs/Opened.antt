-- What is left after opening two disks, one of which fails.
use Rattle.std.proofs.Common.{inl, inr, ◌≡◌, ℕ, suc, ◌+◌, ◌-◌, ◌<◌, ◌≤◌, Bool, true, false, nat_le, nat_lt, List, [], ◌∷◌, length, Option, Some, None, Result, Ok, Err, refl, sym, ap, ◌∙◌, subst, arith}
use Rattle.std.specs.Prelude.{◌==◌, ◌&&◌, if◌then◌else◌, slice_index_or}
use Rattle.std.specs.FinMap.{empty}
use Rattle.std.proofs.lemmas.Bool.Decides.{nat_tests}
use Rattle.mon_types.specs.declared.member.Member.{Member}
use Rattle.mon_types.specs.declared.names.Side.{Side}
use Rattle.mon_types.specs.declared.names.Side.TheVariants.{A, B}
use Rattle.mon_types.specs.declared.names.Stop.TheVariants as disk
use Rattle.mon_disk.specs.declared.disk.DiskCall.{DiskCall}
use Rattle.mon_disk.specs.declared.disk.DiskCall.TheVariants.{Sync}
use Rattle.mon_disk.specs.Calls.{Observed, Makes, is_past, fails_next}
use Rattle.mon_disk.specs.Images.{Only}
use Rattle.mon_disk.specs.Memory.{from_of, seen_of, settled}
use Rattle.mon_disk.specs.MemoryDisk.{MemoryState, observed_of}
use Rattle.mon_disk.proofs.Lives.{length_more}
use Rattle.mon_tx.specs.Map.{Store}
use Rattle.mon_journal.specs.Content as journal
use Rattle.mon_journal.specs.Steps.{made_more, create_calls}
use Rattle.mon_journal.specs.Written.{owner_of, created}
use Rattle.mon_journal.specs.Fields.{Owner}
use Rattle.mon_store.specs.declared.stop.OpenStop.{OpenStop}
use Rattle.mon_store.specs.declared.stop.OpenStop.TheVariants as opening
use Rattle.mon_store.specs.Opening.{AlikePair, Settled, first_content}
use Rattle.mon_store.specs.OpeningCalls.{MakesBoth, opening_calls, calls_on}
use Rattle.mon_store.specs.Pair.{◌>>=◌, Found, Create, Live, Refusal, found}
use Rattle.mon_store.specs.Pair as pair
use Rattle.mon_store.specs.StoreView.{StoreView, opens_as, standing_of}
use Rattle.quorum_model.specs.Cuts.{opening_cut}
use Rattle.quorum_model.specs.Files.{File, Files, first_file, is_created}
use Rattle.quorum_model.specs.InjectedFaults.{opening_count, opens_gate, closes_gate}
use Rattle.mon_site.specs.Disks.{file_of, file_in, files_in, content}
use Rattle.mon_site.specs.Faults.{OpensMap, IsReady, Settles}
use Rattle.mon_site.proofs.Guarded.{guarded, cut_short}
use Rattle.mon_site.proofs.Gates.{is_opened, create_writes, create_gate}
use Rattle.mon_site.proofs.Openings.{one_more, on, on_a, on_b, Broken, AtSync, Behind, walks}
use Rattle.mon_site.proofs.Found.{Content, files_with, open_writes, writes_a, Finds, IsNew, WasThere, IsThere, finds, found_by, on_disk_a, on_disk_b, counts_a, counts_b}
use Rattle.mon_site.proofs.Checkpointing.{opens_is}

-- ---- what is found

opened_by : (member : Member) (a b : List ℕ) (s : StoreView) → opens_as member a b ≡ Ok s → (it : Found × Store) × (pair.opened (owner_of member) a b ≡ Ok it)
opened_by member a b s e = by (pair.opened (owner_of member) a b) e
  where
    by : (r : Result (Found × Store) Refusal) → (r >>= λ it. Ok (standing_of member it.0 it.1)) ≡ Ok s → (it : Found × Store) × (r ≡ Ok it)
    by (Ok it) e = (it, refl)
    by (Err f) e = absurd cc

pub place_of : (member : Member) (a b : List ℕ) (s : StoreView) → opens_as member a b ≡ Ok s → (place : Found) × (found a b ≡ Ok place)
place_of member a b s e = let o = opened_by member a b s e in found_by (owner_of member) a b o.0 o.1

-- a new store is created on disk A
pub new_opens : (member : Member) (a b : List ℕ) → found a b ≡ Ok Create → opens_as member a b ≡ Ok (record { side = A; journal = created member 1 None; kv = empty })
unfolding pair.opened
new_opens member a b e = rw e refl

-- disk A holds what it held, if a store was there
first_there : (member : Member) (b : Bool) (file : List ℕ) (place : Result Found Refusal) → IsThere place → first_content member b file place ≡ journal.content file
first_there member b file place t = ap (first_content member b file) t.is ∙ by b
  where
    by : (b : Bool) → first_content member b file (Ok (Live t.side t.held)) ≡ journal.content file
    by true = refl
    by false = refl

first_new : (member : Member) (b : Bool) (file : List ℕ) (place : Result Found Refusal) → place ≡ Ok Create → journal.content file ≡ None
    → file_of (first_content member b file place) ≡ (if b then Some first_file else None)
first_new member b file place e none = ap (λ (r : Result Found Refusal). file_of (first_content member b file r)) e ∙ by b
  where
    by : (b : Bool) → file_of (first_content member b file (Ok Create)) ≡ (if b then Some first_file else None)
    by true = refl
    by false = ap file_of none

-- an opening that is cut short leaves the files that are there
cut_there : (disk : Side) (call image : ℕ) (f : Files) → is_created f ≡ true → opening_cut f disk call image ≡ f
cut_there A call image f made = rw made refl
cut_there B call image f made = refl

-- ---- the pair that two disks settle to

module _ (member : Member) (m : Store) (a b na nb : MemoryState) (only_a : Only (content a)) (only_b : Only (content b)) (opens : OpensMap member m (seen_of a.life) (seen_of b.life)) where
  abbrev sa : List ℕ
  sa = seen_of a.life

  abbrev sb : List ℕ
  sb = seen_of b.life

  place : (place : Found) × (found sa sb ≡ Ok place)
  place = place_of member sa sb opens.store_view opens.opens

  module _ (c d : List ℕ) (test : Bool) (two : AlikePair member (content a) (content b) test c d) where
    was_a : two.on_a ≡ sa
    was_a = let h : Some sa ≡ Some two.on_a = only_a two.on_a two.left_a in cc

    was_b : two.on_b ≡ sb
    was_b = let h : Some sb ≡ Some two.on_b = only_b two.on_b two.left_b in cc

    first_is : journal.content c ≡ first_content member test sa (found sa sb)
    first_is = two.first ∙ ap (λ (l : List ℕ). first_content member test l (found l two.on_b)) was_a ∙ ap (λ (l : List ℕ). first_content member test sa (found sa l)) was_b

    second_is : journal.content d ≡ journal.content sb
    second_is = two.second ∙ ap journal.content was_b

    pub still_opens : OpensMap member m c d
    still_opens = record {
      store_view = opens.store_view;
      opens = two.opens ∙ ap (λ (l : List ℕ). opens_as member l two.on_b) was_a ∙ ap (λ (l : List ℕ). opens_as member sa l) was_b ∙ opens.opens;
      form = opens.form;
      map = opens.map;
    }

    -- the files, if a store was there
    pub files_there : IsThere (found sa sb) → files_in c d ≡ files_in sa sb
    files_there t =
        ap (λ (x : Content). files_with x (journal.content d)) (first_is ∙ first_there member test sa (found sa sb) t)
        ∙ ap (λ (y : Content). files_with (journal.content sa) y) second_is

    -- and if there was none
    pub files_new : found sa sb ≡ Ok Create → journal.content sa ≡ None → journal.content sb ≡ None
        → files_in c d ≡ record { a = if test then Some first_file else None; b = None }
    files_new e none_a none_b =
        ap (λ (x : Option File). record { a = x; b = file_in d }) (ap file_of first_is ∙ first_new member test sa (found sa sb) e none_a)
        ∙ ap (λ (y : Option File). record { a = if test then Some first_file else None; b = y }) (ap file_of (second_is ∙ none_b))

    pub second_none : journal.content sb ≡ None → file_in d ≡ None
    second_none none = ap file_of (second_is ∙ none)

-- ---- a call fails

unfailing_next : (t : Observed) → t.fails_from ≡ None → fails_next t ≡ false
unfailing_next t calm = ap (λ (from : Option ℕ). is_past from (suc (length t.made))) calm

new_calls : (owner : Owner) (a b : List ℕ) → journal.content a ≡ None → journal.content b ≡ None → found a b ≡ Ok Create → opening_calls owner a b ≡ (A, Sync) ∷ (B, Sync) ∷ calls_on A (create_calls owner 1 None)
unfolding opening_calls
new_calls owner a b none_a none_b e = rw (none_a, none_b, e) refl

none_more : (t : Bool) (n made : ℕ) → made ≡ n + 1 → (t && nat_lt (n + 5) made) ≡ false
none_more t n made is = let few : nat_lt (n + 5) made ≡ false = grind (arith, nat_tests) in ap (λ (b : Bool). t && b) few ∙ by t
  where
    by : (t : Bool) → (t && false) ≡ false
    by true = refl
    by false = refl

more_five : (n done made : ℕ) → made ≡ n + (2 + done) → nat_lt (n + 5) made ≡ nat_le 4 done
more_five n done made is = grind (arith, nat_tests)

abbrev failed : Result StoreView OpenStop
failed = Err opening.DiskFault

abbrev pub none_yet : Files
none_yet = record { a = None; b = None }

pub record FailsIn (count call : ℕ) (member : Member) (m : Store) (f : Files) (a b : MemoryState) : Type 0 where
  pub early : call ≤ count
  pub settles : Settles member m f a b

module _ (member : Member) (m : Store) (f : Files) (a b na nb : MemoryState) (call image : ℕ) where
  abbrev owner : Owner
  owner = owner_of member

  abbrev calls : List (Side × DiskCall)
  calls = opening_calls owner (seen_of a.life) (seen_of b.life)

  module _ (ready : IsReady A call image member m f a b)
      (made : MakesBoth calls (Some (observed_of a.life)) (Some (observed_of b.life)) (Some (observed_of na.life)) (Some (observed_of nb.life)) failed)
      (left : Settled member (content a) (content b) (observed_of a.life) (observed_of na.life) (observed_of nb.life)) where
    p : (place : Found) × (found (seen_of a.life) (seen_of b.life) ≡ Ok place)
    p = place_of member (seen_of a.life) (seen_of b.life) ready.opens.store_view ready.opens.opens

    abbrev writes : List (ℕ × List ℕ)
    writes = writes_a owner (journal.content (seen_of a.life)) (journal.content (seen_of b.life))

    broken : Broken call image a ready.upset ready.only_a writes (observed_of na.life)
    broken =
        walks call image a ready.upset ready.only_a writes (observed_of na.life) (Some disk.Failed)
        (subst (λ (cs : List DiskCall). Makes cs (Some disk.Failed) (Some (observed_of a.life)) (Some (observed_of na.life))) (on_disk_a owner (seen_of a.life) (seen_of b.life) p.0 p.1)
        (on_a failed calls (observed_of a.life) (observed_of b.life) (observed_of na.life) (observed_of nb.life) (ap from_of ready.calm) made).0)

    abbrev test : Bool
    test = slice_index_or (settled na.life) 0 0 == 1 && made_more 5 (observed_of a.life) (observed_of na.life)

    opens_still : OpensMap member m (settled na.life) (settled nb.life)
    opens_still = still_opens member m a b na nb ready.only_a ready.only_b ready.opens (settled na.life) (settled nb.life) test left

    count_is : opening_count A f ≡ 1 + length (guarded writes)
    count_is = ap (λ (g : Files). opening_count A g) (sym ready.files) ∙ counts_a owner (seen_of a.life) (seen_of b.life) p.0 p.1

    there : IsThere (found (seen_of a.life) (seen_of b.life)) → is_created (files_in (seen_of a.life) (seen_of b.life)) ≡ true → files_in (settled na.life) (settled nb.life) ≡ opening_cut f A call image
    there t made_before =
        files_there member m a b na nb ready.only_a ready.only_b ready.opens (settled na.life) (settled nb.life) test left t
        ∙ ready.files
        ∙ sym (cut_there A call image f (ap is_created (sym ready.files) ∙ made_before))

    new_with : (w : Bool) → test ≡ w → opens_gate 5 (call - 1) image ≡ w → found (seen_of a.life) (seen_of b.life) ≡ Ok Create → journal.content (seen_of a.life) ≡ None → journal.content (seen_of b.life) ≡ None
        → files_in (settled na.life) (settled nb.life) ≡ opening_cut f A call image
    new_with w is opens e none_a none_b =
        let before : f ≡ none_yet = sym ready.files ∙ ap (λ (x : Content). files_with x (journal.content (seen_of b.life))) none_a ∙ ap (λ (y : Content). files_with None y) none_b in
        files_new member m a b na nb ready.only_a ready.only_b ready.opens (settled na.life) (settled nb.life) test left e none_a none_b
        ∙ ap (λ (b : Bool). record { a = if b then Some first_file else None; b = None }) is
        ∙ by w (closes_gate 1 (call - 1) image)
        ∙ ap (λ (b : Bool). record { a = if b then Some first_file else (if closes_gate 1 (call - 1) image then None else None); b = None }) (sym opens)
        ∙ ap (λ (g : Files). opening_cut g A call image) (sym before)
      where
        by : (w c : Bool) → ◌≡◌ {A = Files} (record { a = if w then Some first_file else None; b = None }) (record { a = if w then Some first_file else (if c then None else None); b = None })
        by true c = refl
        by false true = refl
        by false false = refl

    files_are : Broken call image a ready.upset ready.only_a writes (observed_of na.life) → Finds (journal.content (seen_of a.life)) (journal.content (seen_of b.life)) (found (seen_of a.life) (seen_of b.life))
        → files_in (settled na.life) (settled nb.life) ≡ opening_cut f A call image
    files_are w (WasThere made_before t) = there t made_before
    files_are (AtSync number long) (IsNew none_a none_b e) =
        new_with false (none_more (is_opened (settled na.life) 0) (length a.life.calls) (length na.life.calls) long)
        (ap (λ n. opens_gate 5 (n - 1) image) number) e none_a none_b
    files_are (Behind done number within long leaves) (IsNew none_a none_b e) =
        let is_writes : writes ≡ create_writes owner 1 None = ap (λ (x : Content). writes_a owner x (journal.content (seen_of b.life))) none_a ∙ ap (λ (y : Content). writes_a owner None y) none_b in
        let within_six : done < 6 = omega (arith, within, ap (λ (ws : List (ℕ × List ℕ)). length (guarded ws)) is_writes) in
        new_with (nat_le 4 done && image == 1)
        (ap (λ (l : List ℕ). is_opened l 0 && made_more 5 (observed_of a.life) (observed_of na.life)) (leaves ∙ ap (λ (ws : List (ℕ × List ℕ)). cut_short image done ws (seen_of a.life)) is_writes)
        ∙ ap (λ (b : Bool). is_opened (cut_short image done (create_writes owner 1 None) (seen_of a.life)) 0 && b) (more_five (length a.life.calls) done (length na.life.calls) (long ∙ ap (λ n. length a.life.calls + n) number))
        ∙ create_gate image done owner 1 None (seen_of a.life) within_six)
        (opens_is (call - 1) done image (omega (arith, number)) within_six) e none_a none_b

    early : Broken call image a ready.upset ready.only_a writes (observed_of na.life) → call ≤ opening_count A f
    early (AtSync number long) = omega (arith, number, count_is)
    early (Behind done number within long leaves) = omega (arith, number, within, count_is)

    pub fails_on_a : FailsIn (opening_count A f) call member m (opening_cut f A call image) na nb
    fails_on_a = record {
      early = early broken;
      settles = record { opens = opens_still; files = files_are broken (finds owner (seen_of a.life) (seen_of b.life) p.0 p.1) };
    }

  -- ---- the same of disk B

  first_syncs : (more : List (Side × DiskCall)) (s t new_s new_t : Observed) → s.fails_from ≡ None → on B more ≡ [] → MakesBoth ((A, Sync) ∷ (B, Sync) ∷ more) (Some s) (Some t) (Some new_s) (Some new_t) failed → length new_s.made ≡ length s.made + 1
  first_syncs more s t new_s new_t calm alone (inl m_) = let h : failed ≡ Err opening.OutOfMemory = m_.0 in absurd cc
  first_syncs more s t new_s new_t calm alone (inr (inl m_)) =
      let fails : fails_next s ≡ true = m_.3 in
      let sound : fails_next s ≡ false = (unfailing_next s calm) in absurd cc
  first_syncs more s t new_s new_t calm alone (inr (inr (sound, inl m_))) = let h : failed ≡ Err opening.OutOfMemory = m_.0 in absurd cc
  first_syncs more s t new_s new_t calm alone (inr (inr (sound, inr (inl m_)))) =
      let is : Some new_s ≡ Some (one_more Sync s) = m_.1 in
      let same : new_s ≡ one_more Sync s = cc in
      ap (λ (x : Observed). length x.made) same ∙ length_more s.made Sync ∙ omega arith
  first_syncs more s t new_s new_t calm alone (inr (inr (sound, inr (inr (more_sound, m_))))) =
      let r = on_b failed more (one_more Sync s) (one_more Sync t) new_s new_t calm m_ in
      let none : Makes [] (Some disk.Failed) (Some (one_more Sync t)) (Some new_t) = subst (λ (cs : List DiskCall). Makes cs (Some disk.Failed) (Some (one_more Sync t)) (Some new_t)) alone r.0 in
      absurd (none.1 refl)

  module _ (ready : IsReady B call image member m f a b)
      (made : MakesBoth calls (Some (observed_of a.life)) (Some (observed_of b.life)) (Some (observed_of na.life)) (Some (observed_of nb.life)) failed)
      (left : Settled member (content a) (content b) (observed_of a.life) (observed_of na.life) (observed_of nb.life)) where
    q : (place : Found) × (found (seen_of a.life) (seen_of b.life) ≡ Ok place)
    q = place_of member (seen_of a.life) (seen_of b.life) ready.opens.store_view ready.opens.opens

    abbrev writes_here : List (ℕ × List ℕ)
    writes_here = open_writes (journal.content (seen_of b.life))

    broken_b : Broken call image b ready.upset ready.only_b writes_here (observed_of nb.life)
    broken_b =
        walks call image b ready.upset ready.only_b writes_here (observed_of nb.life) (Some disk.Failed)
        (subst (λ (cs : List DiskCall). Makes cs (Some disk.Failed) (Some (observed_of b.life)) (Some (observed_of nb.life))) (on_disk_b owner (seen_of a.life) (seen_of b.life) q.0 q.1)
        (on_b failed calls (observed_of a.life) (observed_of b.life) (observed_of na.life) (observed_of nb.life) (ap from_of ready.calm) made).0)

    abbrev test_a : Bool
    test_a = slice_index_or (settled na.life) 0 0 == 1 && made_more 5 (observed_of a.life) (observed_of na.life)

    count_b : opening_count B f ≡ 1 + length (guarded writes_here)
    count_b = ap (λ (g : Files). opening_count B g) (sym ready.files) ∙ counts_b owner (seen_of a.life) (seen_of b.life) q.0 q.1

    files_b : Finds (journal.content (seen_of a.life)) (journal.content (seen_of b.life)) (found (seen_of a.life) (seen_of b.life)) → files_in (settled na.life) (settled nb.life) ≡ f
    files_b (WasThere made_before t) = files_there member m a b na nb ready.only_a ready.only_b ready.opens (settled na.life) (settled nb.life) test_a left t ∙ ready.files
    files_b (IsNew none_a none_b e) =
        let before : f ≡ none_yet = sym ready.files ∙ ap (λ (x : Content). files_with x (journal.content (seen_of b.life))) none_a ∙ ap (λ (y : Content). files_with None y) none_b in
        let calls_so : calls ≡ (A, Sync) ∷ (B, Sync) ∷ calls_on A (create_calls owner 1 None) = new_calls owner (seen_of a.life) (seen_of b.life) none_a none_b e in
        let long : length na.life.calls ≡ length a.life.calls + 1 =
        first_syncs (calls_on A (create_calls owner 1 None)) (observed_of a.life) (observed_of b.life) (observed_of na.life) (observed_of nb.life) (ap from_of ready.calm) refl
        (subst (λ (cs : List (Side × DiskCall)). MakesBoth cs (Some (observed_of a.life)) (Some (observed_of b.life)) (Some (observed_of na.life)) (Some (observed_of nb.life)) failed) calls_so made) in
        files_new member m a b na nb ready.only_a ready.only_b ready.opens (settled na.life) (settled nb.life) test_a left e none_a none_b
        ∙ ap (λ (b : Bool). record { a = if b then Some first_file else None; b = None }) (none_more (is_opened (settled na.life) 0) (length a.life.calls) (length na.life.calls) long)
        ∙ sym before

    early_b : Broken call image b ready.upset ready.only_b writes_here (observed_of nb.life) → call ≤ opening_count B f
    early_b (AtSync number long) = omega (arith, number, count_b)
    early_b (Behind done number within long leaves) = omega (arith, number, within, count_b)

    pub fails_on_b : FailsIn (opening_count B f) call member m (opening_cut f B call image) na nb
    fails_on_b = record {
      early = early_b broken_b;
      settles = record {
        opens = still_opens member m a b na nb ready.only_a ready.only_b ready.opens (settled na.life) (settled nb.life) test_a left;
        files = files_b (finds owner (seen_of a.life) (seen_of b.life) q.0 q.1);
      };
    }

  pub fails : (disk : Side) → IsReady disk call image member m f a b
      → MakesBoth calls (Some (observed_of a.life)) (Some (observed_of b.life)) (Some (observed_of na.life)) (Some (observed_of nb.life)) failed
      → Settled member (content a) (content b) (observed_of a.life) (observed_of na.life) (observed_of nb.life)
      → FailsIn (opening_count disk f) call member m (opening_cut f disk call image) na nb
  fails A ready made left = fails_on_a ready made left
  fails B ready made left = fails_on_b ready made left
