-- What two disks represent while a checkpoint begins a journal on the other one, and then.
use Rattle.std.proofs.Common.{◌≡◌, ℕ, ◌+◌, ◌<◌, Bool, true, false, ◌&&◌, eqb, List, [], ◌∷◌, ◌⊎◌, inl, inr, Option, Some, None, Ok, refl, sym, ap, subst, ◌∙◌, arith}
use Rattle.std.specs.Prelude.{IfSome, slice_index_or}
use Rattle.mon_types.specs.declared.names.Side.{Side}
use Rattle.mon_types.specs.declared.names.Side.TheVariants.{A, B}
use Rattle.mon_disk.specs.Images.{Content, images, LeavesOnly}
use Rattle.mon_disk.specs.Calls.{Observed, DiskState}
use Rattle.mon_tx.specs.Map.{Store}
use Rattle.mon_journal.specs.declared.journal.Journal.{Journal}
use Rattle.mon_journal.specs.Content.{content, payloads_of, Holds}
use Rattle.mon_journal.specs.Steps.{ByTest, ClosedFrom, CreatedFrom, made_more, Made, Keeps, payloads_seen}
use Rattle.mon_journal.proofs.Counts.{few}
use Rattle.mon_store.specs.Checkpoint.{checkpoint_text, HasCheckpoint}
use Rattle.mon_store.specs.Payloads.{map_of}
use Rattle.mon_store.specs.Times.{Meanwhile}
use Rattle.mon_types.specs.Sides.{other as other_side}
use Rattle.mon_store.specs.Sound.{of_a, of_b, of_live, IsBelow, Sound, StandsOn, Begins, BegunAs, next_journal, ThisOrNext, Restarted}
use Rattle.mon_store.proofs.Payloads.{map_checkpoint}
use Rattle.mon_store.proofs.OnPairs.{on_held, turned, other_is}
use Rattle.mon_store.proofs.Times.{first_goes, second_goes}
use Rattle.mon_store.proofs.Keeping.{holds_now}
use Rattle.mon_store.proofs.Applying.{observed_map, is_observed, stands_now}

-- what a crash may leave of a file while a checkpoint is written
pub as_begins : (x : Content) (journal : Journal) (m : Store) → HasCheckpoint m → (c : List ℕ) → CreatedFrom x journal (checkpoint_text m ∷ []) c → Begins x journal m c
as_begins x journal m form c (inl left) = inl left
as_begins x journal m form c (inr (inl closed)) = inr (inl closed)
as_begins x journal m form c (inr (inr holds)) = inr (inr (holds, form))

-- no call on the other disk
pub not_begun : (x : Content) (journal : Journal) (m : Store) (observed : Option Observed) → IfSome observed (λ t. images x (t.settles t.made)) → IfSome observed (λ s. IfSome observed (λ t. BegunAs x journal m (made_more 4 s t) (t.settles t.made)))
not_begun x journal m observed left = few 4 observed observed x (BegunAs x journal m) (omega arith) (λ c there. by (eqb (slice_index_or c 0 0) 1) c there) left
  where
    by : (b : Bool) (c : List ℕ) → images x c → ByTest (b && false) (Holds journal (checkpoint_text m ∷ []) c × HasCheckpoint m) (images x c ⊎ ClosedFrom x (journal.next_gate + 1) c)
    by true c there = inl there
    by false c there = inl there

-- the calls that began a journal on the other disk
pub has_begun : (x : Content) (journal : Journal) (m : Store) (old new : Option Observed) → HasCheckpoint m → IfSome old (λ s. IfSome new (λ t. Made x journal (checkpoint_text m ∷ []) (made_more 4 s t) (t.settles t.made)))
    → IfSome old (λ s. IfSome new (λ t. BegunAs x journal m (made_more 4 s t) (t.settles t.made)))
has_begun x journal m None new form made = tt
has_begun x journal m (Some s) None form made = tt
has_begun x journal m (Some s) (Some t) form made = by (eqb (slice_index_or (t.settles t.made) 0 0) 1 && made_more 4 s t) made
  where
    by : (b : Bool) → ByTest b (Holds journal (checkpoint_text m ∷ []) (t.settles t.made)) (images x (t.settles t.made) ⊎ ClosedFrom x (journal.next_gate + 1) (t.settles t.made))
        → ByTest b (Holds journal (checkpoint_text m ∷ []) (t.settles t.made) × HasCheckpoint m) (images x (t.settles t.made) ⊎ ClosedFrom x (journal.next_gate + 1) (t.settles t.made))
    by true h = (h, form)
    by false h = h

below_next : (j : Journal) (payloads : List (List ℕ)) (file : List ℕ) → Holds j payloads file → IsBelow (j.generation + 1) (content file)
below_next j payloads file holds = subst (IsBelow (j.generation + 1)) (sym holds) (let lt : j.generation < j.generation + 1 = omega arith in lt)

module _ (j : Journal) (m : Store) (known : ℕ) (live other : Content) (sound : Sound j m known live other) (side : Side) where
  abbrev next : Journal
  next = next_journal j m

  shut_aside : (c d : List ℕ) → images live c → content d ≡ None → StandsOn side j m (of_a side c d) (of_b side c d)
  shut_aside c d left closed =
      let holds = holds_now j known live sound.stands_live c left in
      on_held side c d j (payloads_seen live) m holds (subst (IsBelow j.generation) (sym closed) tt) (observed_map m live.seen (is_observed live.seen c (sound.stands_live.only c left)) sound.map)

  next_stands : (c d : List ℕ) → images live c → Holds next (checkpoint_text m ∷ []) d → HasCheckpoint m → StandsOn (other_side side) next m (of_a side c d) (of_b side c d)
  next_stands c d left holds form =
      let below = below_next j (payloads_seen live) c (holds_now j known live sound.stands_live c left) in
      turned side next m c d (on_held (other_side side) d c next (checkpoint_text m ∷ []) m holds below (map_checkpoint m form sound.size))

  -- while the journal is begun
  pub begins : (c d : List ℕ) → images live c → Begins other next m d → ThisOrNext side j m (of_a side c d) (of_b side c d)
  begins c d left (inl there) = inl (stands_now j m known live other sound side c d left there)
  begins c d left (inr (inl closed)) = inl (shut_aside c d left closed.0)
  begins c d left (inr (inr new)) = inr (next_stands c d left new.0 new.1)

  -- and what the two settle to
  pub settles_as : (opening : Bool) (c d : List ℕ) → images live c → BegunAs other next m opening d → Restarted side j m other opening (of_a side c d) (of_b side c d)
  settles_as opening c d left begun =
      subst (λ (file : List ℕ). ByTest (eqb (slice_index_or file 0 0) 1 && opening) (StandsOn (other_side side) next m (of_a side c d) (of_b side c d)) (StandsOn side j m (of_a side c d) (of_b side c d) × (images other file ⊎ (content file ≡ None))))
      (sym (other_is side c d)) (by (eqb (slice_index_or d 0 0) 1 && opening) begun)
    where
      by : (b : Bool) → ByTest b (Holds next (checkpoint_text m ∷ []) d × HasCheckpoint m) (images other d ⊎ ClosedFrom other (next.next_gate + 1) d)
          → ByTest b (StandsOn (other_side side) next m (of_a side c d) (of_b side c d)) (StandsOn side j m (of_a side c d) (of_b side c d) × (images other d ⊎ (content d ≡ None)))
      by true h = next_stands c d left h.0 h.1
      by false (inl there) = (stands_now j m known live other sound side c d left there, inl there)
      by false (inr closed) = (shut_aside c d left closed.0, inr closed.0)

  -- if both can be seen
  pub settled : (l s t : Option Observed) → IfSome l (λ u. images live (u.settles u.made)) → IfSome s (λ u. IfSome t (λ v. BegunAs other next m (made_more 4 u v) (v.settles v.made)))
      → IfSome l (λ u. IfSome s (λ v. IfSome t (λ w. Restarted side j m other (made_more 4 v w) (of_a side (u.settles u.made) (w.settles w.made)) (of_b side (u.settles u.made) (w.settles w.made)))))
  settled None s t left begun = tt
  settled (Some u) None t left begun = tt
  settled (Some u) (Some v) None left begun = tt
  settled (Some u) (Some v) (Some w) left begun = settles_as (made_more 4 v w) (u.settles u.made) (w.settles w.made) left begun

  -- and when it is there
  pub sound_next : (made : Journal) (reach : ℕ) (new : Content) → made ≡ next → HasCheckpoint m → Keeps made (checkpoint_text m ∷ []) reach new → Sound made m reach new live
  sound_next made reach new is form keeps = record {
    stands_live = keeps.stands;
    only_other = sound.stands_live.only;
    below = subst (λ (n : Journal). IfSome live.seen (λ file. IsBelow n.generation (content file))) (sym is) (older live.seen sound.stands_live.holds);
    map = by new.seen keeps.payloads_are;
    size = sound.size;
  }
    where
      older : (s : Option (List ℕ)) → IfSome s (λ file. Holds j (payloads_of file) file) → IfSome s (λ file. IsBelow (j.generation + 1) (content file))
      older None h = tt
      older (Some file) h = below_next j (payloads_of file) file h

      by : (s : Option (List ℕ)) → IfSome s (λ file. payloads_of file ≡ checkpoint_text m ∷ []) → IfSome s (λ file. map_of (payloads_of file) ≡ Ok m)
      by None h = tt
      by (Some file) h = ap map_of h ∙ map_checkpoint m form sound.size

-- ---- by the disk that is live

pub turned_live : {D : Type 0} (side : Side) (live other : D) → of_live side (of_a (other_side side) live other) (of_b (other_side side) live other) ≡ other
turned_live A live other = refl
turned_live B live other = refl

pub turned_other : {D : Type 0} (side : Side) (live other : D) → of_live (other_side side) (of_a (other_side side) live other) (of_b (other_side side) live other) ≡ live
turned_other A live other = refl
turned_other B live other = refl

module _ {D : Type 0} (state : D → DiskState) (live old new : D) (Q : List ℕ → Type 0) (P : List ℕ → List ℕ → Type 0) (l : LeavesOnly (state old).content (state new).content Q) where
  -- calls on the other disk alone
  pub other_goes : (side : Side) → ((c d : List ℕ) → images (state live).content c → Q d → P (of_a side c d) (of_b side c d))
      → Meanwhile (state (of_a side live old)).content (state (of_b side live old)).content (state (of_a side live new)).content (state (of_b side live new)).content P
  other_goes A h = second_goes (state live).content (state old).content (state new).content Q P l h
  other_goes B h = first_goes (state old).content (state new).content (state live).content Q P l (λ c d left there. h d c there left)

  turned_round : (side : Side) → ((c d : List ℕ) → images (state live).content c → Q d → P (of_a side c d) (of_b side c d))
      → Meanwhile (state (of_a side live old)).content (state (of_b side live old)).content (state (of_a (other_side side) new live)).content (state (of_b (other_side side) new live)).content P
  turned_round A h = other_goes A h
  turned_round B h = other_goes B h

  -- the same, and then the other disk is live
  pub other_takes : (side after : Side) (x y : D) → x ≡ new → y ≡ live → after ≡ other_side side → ((c d : List ℕ) → images (state live).content c → Q d → P (of_a side c d) (of_b side c d))
      → Meanwhile (state (of_a side live old)).content (state (of_b side live old)).content (state (of_a after x y)).content (state (of_b after x y)).content P
  other_takes side after x y is_new is_live is_turned h = rw (is_new, is_live, is_turned) (turned_round side h)
