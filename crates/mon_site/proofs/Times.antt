-- A crash at any point of a call leaves two images on which a member opens the map from before or from after it.
use Rattle.std.proofs.Common.{◌≡◌, ℕ, ◌+◌, ◌<◌, ◌≤◌, Bool, true, false, inl, inr, List, [], ◌∷◌, Option, Some, Result, refl, sym, ap, ◌∙◌, subst, arith}
use Rattle.std.specs.Prelude.{◌⊎◌, ◌==◌, if◌then◌else◌, slice_index_or}
use Rattle.mon_types.specs.declared.member.Member.{Member}
use Rattle.mon_types.specs.declared.names.Side.{Side}
use Rattle.mon_types.specs.declared.names.Side.TheVariants.{A, B}
use Rattle.mon_types.specs.Sides.{other as other_side}
use Rattle.mon_disk.specs.Images.{Content, images}
use Rattle.mon_disk.specs.Laws.{as_read}
use Rattle.mon_disk.specs.Memory.{seen_of}
use Rattle.mon_disk.specs.MemoryDisk.{MemoryState}
use Rattle.mon_journal.specs.declared.journal.Form.TheVariants.{Second}
use Rattle.mon_journal.specs.declared.journal.Journal.{Journal}
use Rattle.mon_journal.specs.declared.stop.JournalStop.{JournalStop}
use Rattle.mon_journal.specs.Content.{Held, appended}
use Rattle.mon_journal.specs.Content as journal
use Rattle.mon_journal.specs.Written.{owner_of}
use Rattle.mon_store.specs.declared.store.Store as kept
use Rattle.mon_store.specs.Calls.{journal_after}
use Rattle.mon_store.specs.Times.{Meanwhile, WhileOpening}
use Rattle.mon_store.specs.Opening.{Alike}
use Rattle.mon_store.specs.Sound.{of_a, of_b, of_live, BeforeOrAfter, IsBelow, StandsOn, ThisOrNext, next_journal}
use Rattle.mon_store.specs.StoreView.{opens_as}
use Rattle.mon_store.specs.Whole.{disk_a, disk_b, disk_of}
use Rattle.mon_store.proofs.OnPairs.{store_view_opens}
use Rattle.mon_tx.specs.declared.op.Op.{Op}
use Rattle.mon_tx.specs.Map.{Store, apply}
use Rattle.mon_tx.specs.Text.{text}
use Rattle.quorum_model.specs.Files.{Files}
use Rattle.mon_site.specs.Calm.{Runs}
use Rattle.mon_site.specs.Disks.{content}
use Rattle.mon_site.specs.Faults.{OpensMap, Rests}
use Rattle.mon_site.specs.Times.{OpensEither}

-- ---- opening

opening_as : (P Q : List ℕ → List ℕ → Type 0) (a b x y : Content) → ((c d : List ℕ) → P c d → Q c d) → WhileOpening a b x y P → WhileOpening a b x y Q
opening_as P Q a b x y turned w = record {
  a = w.a;
  b = w.b;
  switch_time = w.switch_time;
  from = w.from;
  to = w.to;
  each = λ s t c d g h i j on_a on_b. turned c d (w.each s t c d g h i j on_a on_b);
  alone = λ s c d g h on_a on_b. turned c d (w.alone s c d g h on_a on_b);
}

module _ (member : Member) (m : Store) (f : Files) (a b : MemoryState) (rests : Rests member m f a b) where
  alike_opens : (c d : List ℕ) → Alike member (content a) (content b) c d → OpensMap member m c d
  alike_opens c d alike =
      let it = alike.1 in
      let on_a : Some (seen_of a.life) ≡ Some it.on_a = rests.calm_a.only it.on_a it.left_a in
      let on_b : Some (seen_of b.life) ≡ Some it.on_b = rests.calm_b.only it.on_b it.left_b in
      let same_a : it.on_a ≡ seen_of a.life = cc in
      let same_b : it.on_b ≡ seen_of b.life = cc in
      record {
        store_view = rests.opens.store_view;
        opens = it.opens ∙ ap (λ (x : List ℕ). opens_as member x it.on_b) same_a ∙ ap (λ (y : List ℕ). opens_as member (seen_of a.life) y) same_b ∙ rests.opens.opens;
        form = rests.opens.form;
        map = rests.opens.map;
      }

  pub while_opening : (x y : MemoryState) → WhileOpening (content a) (content b) (content x) (content y) (Alike member (content a) (content b))
      → WhileOpening (content a) (content b) (content x) (content y) (OpensMap member m)
  while_opening x y w = opening_as (Alike member (content a) (content b)) (OpensMap member m) (content a) (content b) (content x) (content y) alike_opens w

-- ---- a record, and then a checkpoint

opens_on : (member : Member) (side : Side) (j : Journal) (m : Store) (a b : List ℕ) → owner_of j.member ≡ owner_of member → j.form ≡ Second → StandsOn side j m a b → OpensMap member m a b
opens_on member side j m a b own form s = record {
  store_view = record { side = side; journal = j; kv = m };
  opens = store_view_opens j m member side a b s own;
  form = form;
  map = refl;
}

module _ (member : Member) (side : Side) (j : Journal) (m : Store) (ops : List Op) (own : owner_of j.member ≡ owner_of member) (form : j.form ≡ Second) where
  either : (k : Bool) (a b : List ℕ) → StandsOn side (if k then appended j (text ops) else j) (if k then apply ops m else m) a b → OpensEither member m (apply ops m) a b
  either true a b s = inr (opens_on member side (appended j (text ops)) (apply ops m) a b own form s)
  either false a b s = inl (opens_on member side j m a b own form s)

-- a journal's file is below each greater generation
below_next : (j : Journal) (payloads : List (List ℕ)) (file : List ℕ) (generation : ℕ) → journal.Holds j payloads file → j.generation < generation → IsBelow generation (journal.content file)
below_next j payloads file generation holds lower = subst (λ (x : Option (Result Held JournalStop)). IsBelow generation x) (sym holds) lower

-- A pair of images in which the live disk's is from before its record was written, and the other disk's from after
-- that, holds a store too.
crossed : (side : Side) (j k : Journal) (m n : Store) (live now other later : List ℕ) → k.generation ≡ j.generation
    → StandsOn side j m (of_a side live other) (of_b side live other) → ThisOrNext side k n (of_a side now later) (of_b side now later)
    → StandsOn side j m (of_a side live later) (of_b side live later)
    ⊎ StandsOn (other_side side) (next_journal k n) n (of_a side live later) (of_b side live later)
crossed A j k m n live now other later same on (inl this) =
    inl (record { holds = on.holds; map = on.map; below = subst (λ (g : ℕ). IsBelow g (journal.content later)) same this.below })
crossed A j k m n live now other later same on (inr next) =
    inr (record { holds = next.holds; map = next.map; below = below_next j _ live (k.generation + 1) on.holds (omega arith) })
crossed B j k m n live now other later same on (inl this) =
    inl (record { holds = on.holds; map = on.map; below = subst (λ (g : ℕ). IsBelow g (journal.content later)) same this.below })
crossed B j k m n live now other later same on (inr next) =
    inr (record { holds = next.holds; map = next.map; below = below_next j _ live (k.generation + 1) on.holds (omega arith) })

module _ (member : Member) (side : Side) (j k : Journal) (m n : Store) (ops : List Op)
    (own : owner_of j.member ≡ owner_of member) (form : j.form ≡ Second) (own_k : owner_of k.member ≡ owner_of member) (same : k.generation ≡ j.generation) (is : n ≡ apply ops m) where
  crossed_opens : (is_open : Bool) (live now other later : List ℕ)
      → StandsOn side (if is_open then appended j (text ops) else j) (if is_open then apply ops m else m) (of_a side live other) (of_b side live other)
      → ThisOrNext side k n (of_a side now later) (of_b side now later) → OpensEither member m (apply ops m) (of_a side live later) (of_b side live later)
  crossed_opens true live now other later on step = by (crossed side (appended j (text ops)) k (apply ops m) n live now other later same on step)
    where
      by : StandsOn side (appended j (text ops)) (apply ops m) (of_a side live later) (of_b side live later)
          ⊎ StandsOn (other_side side) (next_journal k n) n (of_a side live later) (of_b side live later) → OpensEither member m (apply ops m) (of_a side live later) (of_b side live later)
      by (inl s) = inr (opens_on member side (appended j (text ops)) (apply ops m) _ _ own form s)
      by (inr s) = inr (subst (λ (x : Store). OpensMap member x (of_a side live later) (of_b side live later)) is (opens_on member (other_side side) (next_journal k n) n _ _ own_k refl s))
  crossed_opens false live now other later on step = by (crossed side j k m n live now other later same on step)
    where
      by : StandsOn side j m (of_a side live later) (of_b side live later)
          ⊎ StandsOn (other_side side) (next_journal k n) n (of_a side live later) (of_b side live later) → OpensEither member m (apply ops m) (of_a side live later) (of_b side live later)
      by (inl s) = inl (opens_on member side j m _ _ own form s)
      by (inr s) = inr (subst (λ (x : Store). OpensMap member x (of_a side live later) (of_b side live later)) is (opens_on member (other_side side) (next_journal k n) n _ _ own_k refl s))

after_generation : (j : Journal) (ops : List Op) → (journal_after j ops).generation ≡ j.generation
after_generation j [] = refl
after_generation j (op ∷ ops) = refl

-- ---- both, of two disks

module _ (member : Member) (j k : Journal) (m n : Store) (ops : List Op)
    (own : owner_of j.member ≡ owner_of member) (form : j.form ≡ Second) (own_k : owner_of k.member ≡ owner_of member) (same : k.generation ≡ j.generation) (is : n ≡ apply ops m)
    (live now other later : MemoryState) where
  -- whichever is live
  in_both : (side : Side)
      → Meanwhile (content (of_a side live other)) (content (of_b side live other)) (content (of_a side now other)) (content (of_b side now other)) (BeforeOrAfter side j m ops)
      → Meanwhile (content (of_a side now other)) (content (of_b side now other)) (content (of_a side now later)) (content (of_b side now later)) (ThisOrNext side k n)
      → Meanwhile (content (of_a side live other)) (content (of_b side live other)) (content (of_a side now later)) (content (of_b side now later)) (OpensEither member m (apply ops m))
  in_both A first second = record {
    a = first.a;
    b = second.b;
    each = λ s t c d from to from_b to_b on_a on_b.
        crossed_opens member A j k m n ops own form own_k same is (slice_index_or c j.next_gate 0 == 1) c (seen_of now.life) (seen_of other.life) d
        (first.each s (content other).time c (seen_of other.life) from to (omega arith) (omega arith) on_a (as_read other))
        (second.each (content now).time t (seen_of now.life) d (omega arith) (omega arith) from_b to_b (as_read now) on_b);
  }
  in_both B first second = record {
    a = second.a;
    b = first.b;
    each = λ s t c d from to from_b to_b on_a on_b.
        crossed_opens member B j k m n ops own form own_k same is (slice_index_or d j.next_gate 0 == 1) d (seen_of now.life) (seen_of other.life) c
        (first.each (content other).time t (seen_of other.life) d (omega arith) (omega arith) from_b to_b (as_read other) on_b)
        (second.each s (content now).time c (seen_of now.life) from to (omega arith) (omega arith) on_a (as_read now));
  }

-- two disks, one of which is `now`
module _ (x y : Content) (P : List ℕ → List ℕ → Type 0) (a b now : MemoryState) where
  by_side : (side : Side) → of_live side a b ≡ now → Meanwhile x y (content a) (content b) P
      → Meanwhile x y (content (of_a side now (of_live (other_side side) a b))) (content (of_b side now (of_live (other_side side) a b))) P
  by_side A is w = subst (λ (d : MemoryState). Meanwhile x y (content d) (content b) P) is w
  by_side B is w = subst (λ (d : MemoryState). Meanwhile x y (content a) (content d) P) is w

  from_side : (side : Side) → of_live side a b ≡ now
      → Meanwhile x y (content (of_a side now (of_live (other_side side) a b))) (content (of_b side now (of_live (other_side side) a b))) P
      → Meanwhile x y (content a) (content b) P
  from_side A is w = subst (λ (d : MemoryState). Meanwhile x y (content d) (content b) P) (sym is) w
  from_side B is w = subst (λ (d : MemoryState). Meanwhile x y (content a) (content d) P) (sym is) w

-- ---- of a store

abbrev InUse : Type 0
InUse = kept.Store MemoryState

module _ (member : Member) (m : Store) (f : Files) (ops : List Op) (old mid : InUse) (runs : Runs member m f old)
    (side : mid.side ≡ old.side) (other : mid.other ≡ old.other)
    (written : Meanwhile (content (disk_a old)) (content (disk_b old)) (content (disk_a mid)) (content (disk_b mid)) (BeforeOrAfter old.side old.journal old.kv ops)) where
  abbrev either_map : Store → (new : InUse) → Type 0
  either_map n new = Meanwhile (content (disk_a old)) (content (disk_b old)) (content (disk_a new)) (content (disk_b new)) (OpensEither member n (apply ops n))

  -- a transaction that isn't made, or isn't made yet
  pub while_written : either_map m mid
  while_written = subst (λ (n : Store). either_map n mid) runs.map (record {
    a = written.a;
    b = written.b;
    each = λ s t c d from to from_b to_b on_a on_b.
        either member old.side old.journal old.kv ops runs.owner runs.form (slice_index_or (of_live old.side c d) old.journal.next_gate 0 == 1) c d (written.each s t c d from to from_b to_b on_a on_b);
  })

  -- the checkpoint that is due after the transaction
  pub while_applied : (g : Files) (new : InUse) → Runs member (apply ops m) g mid → mid.journal ≡ journal_after old.journal ops → disk_of mid.side new ≡ mid.live
      → Meanwhile (content (disk_a mid)) (content (disk_b mid)) (content (disk_a new)) (content (disk_b new)) (ThisOrNext mid.side mid.journal mid.kv) → either_map m new
  while_applied g new here journal untouched renewed =
      let later = disk_of (other_side old.side) new in
      let still : disk_of old.side new ≡ mid.live = subst (λ (s : Side). disk_of s new ≡ mid.live) side untouched in
      let placed : Meanwhile (content (of_a old.side mid.live old.other)) (content (of_b old.side mid.live old.other)) (content (disk_a new)) (content (disk_b new)) (ThisOrNext old.side mid.journal mid.kv) =
      subst (λ (d : MemoryState). Meanwhile (content (of_a old.side mid.live d)) (content (of_b old.side mid.live d)) (content (disk_a new)) (content (disk_b new)) (ThisOrNext old.side mid.journal mid.kv)) other
      (subst (λ (s : Side). Meanwhile (content (of_a s mid.live mid.other)) (content (of_b s mid.live mid.other)) (content (disk_a new)) (content (disk_b new)) (ThisOrNext s mid.journal mid.kv)) side renewed) in
      let first : Meanwhile (content (disk_a old)) (content (disk_b old)) (content (of_a old.side mid.live old.other)) (content (of_b old.side mid.live old.other)) (BeforeOrAfter old.side old.journal old.kv ops) =
      subst (λ (d : MemoryState). Meanwhile (content (disk_a old)) (content (disk_b old)) (content (of_a old.side mid.live d)) (content (of_b old.side mid.live d)) (BeforeOrAfter old.side old.journal old.kv ops)) other
      (subst (λ (s : Side). Meanwhile (content (disk_a old)) (content (disk_b old)) (content (of_a s mid.live mid.other)) (content (of_b s mid.live mid.other)) (BeforeOrAfter old.side old.journal old.kv ops)) side written) in
      let second = by_side (content (of_a old.side mid.live old.other)) (content (of_b old.side mid.live old.other)) (ThisOrNext old.side mid.journal mid.kv) (disk_a new) (disk_b new) mid.live old.side still placed in
      let whole = in_both member old.journal mid.journal old.kv mid.kv ops runs.owner runs.form here.owner
      (ap (λ (x : Journal). x.generation) journal ∙ after_generation old.journal ops) (here.map ∙ ap (apply ops) (sym runs.map)) old.live mid.live old.other later old.side first second in
      subst (λ (n : Store). either_map n new) runs.map
      (from_side (content (disk_a old)) (content (disk_b old)) (OpensEither member old.kv (apply ops old.kv)) (disk_a new) (disk_b new) mid.live old.side still whole)
