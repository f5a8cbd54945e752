-- The checkpoint that is due, if the other disk has the injected fault.
use Rattle.std.proofs.Common.{◌≡◌, ◌⊎◌, ℕ, zero, suc, ◌+◌, ◌<◌, Bool, true, false, nat_le, nat_lt, List, length, Option, Some, None, refl, sym, ap, ◌∙◌, subst, arith}
use Rattle.std.specs.Prelude.{◌==◌, ◌&&◌, if◌then◌else◌, slice_index_or}
use Rattle.std.proofs.lemmas.Bool.Decides.{nat_tests}
use Rattle.mon_types.specs.declared.names.Side.{Side}
use Rattle.mon_types.specs.declared.names.Side.TheVariants.{A, B}
use Rattle.mon_types.specs.declared.names.Stop.TheVariants as disk
use Rattle.mon_disk.specs.Calls.{Makes}
use Rattle.mon_disk.specs.Memory.{seen_of, settled}
use Rattle.mon_disk.specs.MemoryDisk.{MemoryState, observed_of}
use Rattle.mon_disk.specs.Images.{images}
use Rattle.mon_disk.specs.Laws.{settles}
use Rattle.mon_tx.specs.Map.{Store}
use Rattle.mon_journal.specs.declared.journal.Form.TheVariants.{Second}
use Rattle.mon_journal.specs.declared.journal.Journal.{Journal}
use Rattle.mon_journal.specs.Content as journal
use Rattle.mon_journal.specs.Steps.{create_calls, made_more, ByTest}
use Rattle.mon_journal.specs.Written.{owner_of}
use Rattle.mon_store.specs.Checkpoint.{checkpoint_text}
use Rattle.mon_types.specs.Sides.{other as other_side}
use Rattle.mon_store.specs.Sound.{of_a, of_b, of_live, next_journal, Sound, StandsOn, Restarted}
use Rattle.mon_store.specs.Sound as stored
use Rattle.mon_store.proofs.Applying.{stands_now}
use Rattle.mon_store.proofs.OnPairs.{other_is}
use Rattle.quorum_model.specs.Cuts.{file_remaining, checkpoint_begun, checkpoint_cut}
use Rattle.quorum_model.specs.Files.{File, Files, live_side, file_on, with_file, checkpoint}
use Rattle.quorum_model.specs.Files as model
use Rattle.quorum_model.specs.InjectedFaults.{opens_gate, closes_gate}
use Rattle.mon_site.specs.Disks.{file_of, file_in, files_in, content}
use Rattle.mon_site.specs.InjectedFault.{IsInjected, Leaves, files_on}
use Rattle.mon_site.proofs.Guarded.{cut_short}
use Rattle.mon_site.proofs.Gates.{is_opened, create_writes, create_gate, create_left}
use Rattle.mon_site.proofs.Keeping.{CutShort, cut_of}
use Rattle.mon_site.proofs.Sizes.{next_file, due_is}
use Rattle.mon_site.proofs.Standing.{file_by, files_with, files_are, live_stands, as_it_reads, live_seen, other_seen, by_name_a, by_name_b}

-- ---- a store in use whose disks settle to what they read

module _ (side : Side) (live other : MemoryState) (j : Journal) (m : Store) (known : ℕ) (sound : Sound j m known (content live) (content other)) where
  abbrev a : MemoryState
  a = of_a side live other

  abbrev b : MemoryState
  b = of_b side live other

  settled_a : settled a.life ≡ of_a side (settled live.life) (settled other.life)
  settled_a = by_name_a (λ (d : MemoryState). settled d.life) side live other

  settled_b : settled b.life ≡ of_b side (settled live.life) (settled other.life)
  settled_b = by_name_b (λ (d : MemoryState). settled d.life) side live other

  pub stands_settled : StandsOn side j m (settled a.life) (settled b.life)
  stands_settled =
      subst (λ (x : List ℕ). StandsOn side j m x (settled b.life)) (sym settled_a)
      (subst (λ (y : List ℕ). StandsOn side j m (of_a side (settled live.life) (settled other.life)) y) (sym settled_b)
      (stands_now j m known (content live) (content other) sound side (settled live.life) (settled other.life) (settles live) (settles other)))

  pub settled_other : of_live (other_side side) (settled a.life) (settled b.life) ≡ seen_of other.life
  settled_other =
      ap (λ (l : List ℕ). of_live (other_side side) l (settled b.life)) settled_a
      ∙ ap (λ (l : List ℕ). of_live (other_side side) (of_a side (settled live.life) (settled other.life)) l) settled_b
      ∙ other_is side (settled live.life) (settled other.life)
      ∙ other_seen side live other j m known sound

  pub files_settled : files_in (settled a.life) (settled b.life) ≡ files_with side (file_by j) (file_in (seen_of other.life))
  files_settled = files_are side j m (settled a.life) (settled b.life) stands_settled ∙ ap (λ (l : List ℕ). files_with side (file_by j) (file_in l)) settled_other

  seen_a : seen_of a.life ≡ of_a side (seen_of live.life) (seen_of other.life)
  seen_a = by_name_a (λ (d : MemoryState). seen_of d.life) side live other

  seen_b : seen_of b.life ≡ of_b side (seen_of live.life) (seen_of other.life)
  seen_b = by_name_b (λ (d : MemoryState). seen_of d.life) side live other

  pub stands_seen : StandsOn side j m (seen_of a.life) (seen_of b.life)
  stands_seen =
      subst (λ (x : List ℕ). StandsOn side j m x (seen_of b.life)) (sym seen_a)
      (subst (λ (y : List ℕ). StandsOn side j m (of_a side (seen_of live.life) (seen_of other.life)) y) (sym seen_b)
      (as_it_reads side live other j m known sound))

  pub seen_other : of_live (other_side side) (seen_of a.life) (seen_of b.life) ≡ seen_of other.life
  seen_other =
      ap (λ (l : List ℕ). of_live (other_side side) l (seen_of b.life)) seen_a
      ∙ ap (λ (l : List ℕ). of_live (other_side side) (of_a side (seen_of live.life) (seen_of other.life)) l) seen_b
      ∙ other_is side (seen_of live.life) (seen_of other.life)

  pub files_seen : files_on a b ≡ files_with side (file_by j) (file_in (seen_of other.life))
  files_seen = files_are side j m (seen_of a.life) (seen_of b.life) stands_seen ∙ ap (λ (l : List ℕ). files_with side (file_by j) (file_in l)) seen_other

  pub live_on : live_side (files_with side (file_by j) (file_in (seen_of other.life))) ≡ side
  live_on = ap live_side (sym files_seen) ∙ live_stands side j m (seen_of a.life) (seen_of b.life) stands_seen

-- ---- the files after a checkpoint

replaced : (side : Side) (live : File) (other new : Option File) → with_file (other_side side) new (files_with side live other) ≡ record { a = of_a side (Some live) new; b = of_b side (Some live) new }
replaced A live other new = refl
replaced B live other new = refl

module _ (side : Side) (live : File) (other : Option File) (m : Store) (is_live : live_side (files_with side live other) ≡ side) where
  abbrev f : Files
  f = files_with side live other

  live_there : file_on side f ≡ Some live
  live_there = by side
    where
      by : (side : Side) → file_on side (files_with side live other) ≡ Some live
      by A = refl
      by B = refl

  other_there : file_on (other_side side) f ≡ other
  other_there = by side
    where
      by : (side : Side) → file_on (other_side side) (files_with side live other) ≡ other
      by A = refl
      by B = refl

  begun_is : (call image : ℕ) → checkpoint_begun call image m f ≡ (if model.is_due live m then with_file (other_side side) (file_remaining call image other (checkpoint live m)) f else f)
  begun_is call image =
      ap (λ (s : Side). checkpoint_cut call image m (other_side s) (file_on s f) f) is_live
      ∙ ap (λ (file : Option File). checkpoint_cut call image m (other_side side) file f) live_there
      ∙ ap (λ (file : Option File). if model.is_due live m then with_file (other_side side) (file_remaining call image file (checkpoint live m)) f else f) other_there

  pub not_due : (call image : ℕ) → model.is_due live m ≡ false → checkpoint_begun call image m f ≡ f
  not_due call image idle = begun_is call image ∙ ap (λ (b : Bool). if b then with_file (other_side side) (file_remaining call image other (checkpoint live m)) f else f) idle

  pub when_due : (call image : ℕ) → model.is_due live m ≡ true
      → checkpoint_begun call image m f ≡ record { a = of_a side (Some live) (file_remaining call image other (checkpoint live m)); b = of_b side (Some live) (file_remaining call image other (checkpoint live m)) }
  when_due call image due =
      begun_is call image
      ∙ ap (λ (b : Bool). if b then with_file (other_side side) (file_remaining call image other (checkpoint live m)) f else f) due
      ∙ replaced side live other (file_remaining call image other (checkpoint live m))

-- ---- none is due

pub nothing_begun : (side : Side) (live other : MemoryState) (j : Journal) (m : Store) (known : ℕ) (sound : Sound j m known (content live) (content other)) (call image : ℕ) → j.form ≡ Second → stored.is_due j m ≡ false
    → Leaves side j m (checkpoint_begun call image m (files_on (of_a side live other) (of_b side live other))) (of_a side live other) (of_b side live other)
nothing_begun side live other j m known sound call image second idle = record {
  stands = stands_settled side live other j m known sound;
  files =
      let seen = files_seen side live other j m known sound in
      files_settled side live other j m known sound
      ∙ sym (ap (checkpoint_begun call image m) seen
      ∙ not_due side (file_by j) (file_in (seen_of other.life)) m (live_on side live other j m known sound) call image (sym (due_is j m second) ∙ idle));
}

-- ---- one is due, and made

turned_files : (side : Side) (live : File) (new : File) → files_with (other_side side) new (Some live) ≡ record { a = of_a side (Some live) (Some new); b = of_b side (Some live) (Some new) }
turned_files A live new = refl
turned_files B live new = refl

opens_by : (call image : ℕ) → 6 < call → opens_gate 5 call image ≡ true
opens_by call image lt = let late : nat_lt 6 call ≡ true = grind (arith, nat_tests) in rw late refl

pub whole_begun : (side : Side) (live other new : MemoryState) (j : Journal) (m : Store) (known later : ℕ) (sound : Sound j m known (content live) (content other))
    → Sound (next_journal j m) m later (content new) (content live) → (call image : ℕ) → 6 < call → j.form ≡ Second → stored.is_due j m ≡ true
    → Leaves (other_side side) (next_journal j m) m (checkpoint_begun call image m (files_on (of_a side live other) (of_b side live other))) (of_a (other_side side) new live) (of_b (other_side side) new live)
whole_begun side live other new j m known later sound after call image beyond second due = record {
  stands = stands_settled (other_side side) new live (next_journal j m) m later after;
  files =
      let seen = files_seen side live other j m known sound in
      let old : file_in (seen_of live.life) ≡ Some (file_by j) = ap file_of sound.stands_live.holds in
      files_settled (other_side side) new live (next_journal j m) m later after
      ∙ ap (λ (o : Option File). files_with (other_side side) (file_by (next_journal j m)) o) old
      ∙ turned_files side (file_by j) (file_by (next_journal j m))
      ∙ ap (λ (n : File). record { a = of_a side (Some (file_by j)) (Some n); b = of_b side (Some (file_by j)) (Some n) }) (next_file j m)
      ∙ ap (λ (b : Bool). let left = if b then Some (checkpoint (file_by j) m) else (if closes_gate 1 call image then None else file_in (seen_of other.life)) in record { a = of_a side (Some (file_by j)) left; b = of_b side (Some (file_by j)) left }) (sym (opens_by call image beyond))
      ∙ sym (ap (checkpoint_begun call image m) seen
      ∙ when_due side (file_by j) (file_in (seen_of other.life)) m (live_on side live other j m known sound) call image (sym (due_is j m second) ∙ due));
}

-- ---- one is due, and cut short

twice : {X : Type 0} (side : Side) (live other : X) → of_live (other_side (other_side side)) (of_a side live other) (of_b side live other) ≡ live
twice A live other = refl
twice B live other = refl

pub opens_is : (call done image : ℕ) → call ≡ suc done → done < 6 → opens_gate 5 call image ≡ (nat_le 4 done && image == 1)
opens_is call done image number within = ap (λ n. opens_gate 5 n image) number ∙ by done within
  where
    by : (done : ℕ) → done < 6 → opens_gate 5 (suc done) image ≡ (nat_le 4 done && image == 1)
    by zero within = refl
    by (suc zero) within = refl
    by (suc (suc zero)) within = refl
    by (suc (suc (suc zero))) within = refl
    by (suc (suc (suc (suc zero)))) within = refl
    by (suc (suc (suc (suc (suc zero))))) within = refl
    by (suc (suc (suc (suc (suc (suc n)))))) within = absurd (omega (arith, within))

more_is : (n done len : ℕ) → len ≡ n + suc done → nat_lt (n + 4) len ≡ nat_le 4 done
more_is n done len is = grind (arith, nat_tests)

-- a store of this member's is on what two disks settle to
pub record Ends (j : Journal) (m : Store) (f : Files) (a b : MemoryState) : Type 0 where
  pub side : Side
  pub journal : Journal
  pub owner : owner_of journal.member ≡ owner_of j.member
  pub form : journal.form ≡ Second
  pub leaves : Leaves side journal m f a b

module _ (side : Side) (live other new : MemoryState) (j : Journal) (m : Store) (known : ℕ) (sound : Sound j m known (content live) (content other)) (call image : ℕ) (up : IsInjected call image other)
    (second : j.form ≡ Second) (due : stored.is_due j m ≡ true)
    (made : Makes (create_calls (owner_of j.member) (j.generation + 1) (Some (checkpoint_text m))) (Some disk.Failed) (Some (observed_of other.life)) (Some (observed_of new.life)))
    (either : Restarted side j m (content other) (made_more 4 (observed_of other.life) (observed_of new.life)) (of_a side (settled live.life) (settled new.life)) (of_b side (settled live.life) (settled new.life))) where
  abbrev writes : List (ℕ × List ℕ)
  writes = create_writes (owner_of j.member) (j.generation + 1) (Some (checkpoint_text m))

  c : CutShort call image other up sound.only_other writes (observed_of new.life)
  c = cut_of call image other up sound.only_other writes (observed_of new.life) made

  abbrev x : List ℕ
  x = of_a side (settled live.life) (settled new.life)

  abbrev y : List ℕ
  y = of_b side (settled live.life) (settled new.life)

  abbrev is_whole : Bool
  is_whole = nat_le 4 c.done && image == 1

  other_xy : of_live (other_side side) x y ≡ settled new.life
  other_xy = other_is side (settled live.life) (settled new.life)

  test : (slice_index_or (of_live (other_side side) x y) 0 0 == 1 && made_more 4 (observed_of other.life) (observed_of new.life)) ≡ is_whole
  test =
      ap (λ (l : List ℕ). is_opened l 0 && made_more 4 (observed_of other.life) (observed_of new.life)) (other_xy ∙ c.leaves)
      ∙ ap (λ (b : Bool). is_opened (cut_short image c.done writes (seen_of other.life)) 0 && b) (more_is (length other.life.calls) c.done (length new.life.calls) (c.made ∙ ap (λ n. length other.life.calls + n) c.number))
      ∙ create_gate image c.done (owner_of j.member) (j.generation + 1) (Some (checkpoint_text m)) (seen_of other.life) c.within

  abbrev before : Files
  before = files_on (of_a side live other) (of_b side live other)

  abbrev cut : Option File
  cut = file_remaining call image (file_in (seen_of other.life)) (checkpoint (file_by j) m)

  after : checkpoint_begun call image m before ≡ record { a = of_a side (Some (file_by j)) cut; b = of_b side (Some (file_by j)) cut }
  after =
      ap (checkpoint_begun call image m) (files_seen side live other j m known sound)
      ∙ when_due side (file_by j) (file_in (seen_of other.life)) m (live_on side live other j m known sound) call image (sym (due_is j m second) ∙ due)

  cut_by : (b : Bool) → is_whole ≡ b → cut ≡ (if b then Some (checkpoint (file_by j) m) else (if closes_gate 1 call image then None else file_in (seen_of other.life)))
  cut_by b e = ap (λ (b : Bool). if b then Some (checkpoint (file_by j) m) else (if closes_gate 1 call image then None else file_in (seen_of other.life))) (opens_is call c.done image c.number c.within ∙ e)

  abbrev new_a : MemoryState
  new_a = of_a side live new

  abbrev new_b : MemoryState
  new_b = of_b side live new

  is_a : settled new_a.life ≡ x
  is_a = by_name_a (λ (d : MemoryState). settled d.life) side live new

  is_b : settled new_b.life ≡ y
  is_b = by_name_b (λ (d : MemoryState). settled d.life) side live new

  on_names : (s : Side) (k : Journal) → StandsOn s k m x y → StandsOn s k m (settled new_a.life) (settled new_b.life)
  on_names s k stands = subst (λ (l : List ℕ). StandsOn s k m l (settled new_b.life)) (sym is_a) (subst (λ (l : List ℕ). StandsOn s k m x l) (sym is_b) stands)

  files_xy : files_in (settled new_a.life) (settled new_b.life) ≡ files_in x y
  files_xy = ap (λ (l : List ℕ). files_in l (settled new_b.life)) is_a ∙ ap (λ (l : List ℕ). files_in x l) is_b

  abbrev Either : Bool → Type 0
  Either b = ByTest b (StandsOn (other_side side) (next_journal j m) m x y) (StandsOn side j m x y × (images (content other) (of_live (other_side side) x y) ⊎ (journal.content (of_live (other_side side) x y) ≡ None)))

  by : (b : Bool) → is_whole ≡ b → Either b → Ends j m (checkpoint_begun call image m before) new_a new_b
  by true e stands = record {
    side = other_side side;
    journal = next_journal j m;
    owner = refl;
    form = refl;
    leaves = record {
      stands = on_names (other_side side) (next_journal j m) stands;
      files =
          files_xy
          ∙ files_are (other_side side) (next_journal j m) m x y stands
          ∙ ap (λ (l : List ℕ). files_with (other_side side) (file_by (next_journal j m)) (file_in l)) (twice side (settled live.life) (settled new.life) ∙ live_seen side live other j m known sound)
          ∙ ap (λ (o : Option File). files_with (other_side side) (file_by (next_journal j m)) o) (ap file_of sound.stands_live.holds)
          ∙ turned_files side (file_by j) (file_by (next_journal j m))
          ∙ ap (λ (n : File). record { a = of_a side (Some (file_by j)) (Some n); b = of_b side (Some (file_by j)) (Some n) }) (next_file j m)
          ∙ ap (λ (o : Option File). record { a = of_a side (Some (file_by j)) o; b = of_b side (Some (file_by j)) o }) (sym (cut_by true e))
          ∙ sym after;
    };
  }
  by false e stands = record {
    side = side;
    journal = j;
    owner = refl;
    form = second;
    leaves = record {
      stands = on_names side j stands.0;
      files =
          files_xy
          ∙ files_are side j m x y stands.0
          ∙ ap (λ (l : List ℕ). files_with side (file_by j) (file_in l)) (other_xy ∙ c.leaves)
          ∙ ap (λ (o : Option File). files_with side (file_by j) o) (create_left image c.done (owner_of j.member) (j.generation + 1) (Some (checkpoint_text m)) (seen_of other.life) c.within up.most e
          ∙ ap (λ n. if closes_gate 1 n image then None else file_in (seen_of other.life)) (sym c.number)
          ∙ sym (cut_by false e))
          ∙ sym after;
    };
  }

  pub cut_checkpoint : Ends j m (checkpoint_begun call image m before) new_a new_b
  cut_checkpoint = by is_whole refl (subst Either test either)
