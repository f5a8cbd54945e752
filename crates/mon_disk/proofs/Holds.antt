-- What a disk in memory holds stays that of its life.
use Rattle.std.proofs.Common.{Bool, true, false, cond, ◌==◌, ◌≡◌, ℕ, zero, suc, pred, min, nat_le, ◌⊎◌, inl, inr, ◌+◌, ◌-◌, ◌<◌, ◌≤◌, List, [], ◌∷◌, ◌++◌, map, length, take, drop, reverse, Option, Some, None, refl, sym, ap, ◌∙◌, arith, append_assoc}
use Rattle.std.proofs.lemmas.Bool.Decides.{nat_tests}
use Rattle.std.proofs.lemmas.List.{take_all, drop_all, length-take, drop-drop, reverse-append}
use Rattle.mon_disk.specs.declared.disk.DiskCall.{DiskCall}
use Rattle.mon_disk.specs.declared.disk.DiskCall.TheVariants.{Write, Sync}
use Rattle.mon_disk.specs.declared.unsynced.Unsynced.{Unsynced}
use Rattle.mon_disk.specs.declared.holding.Countdown.{Countdown}
use Rattle.mon_disk.specs.Images.{overwritten}
use Rattle.mon_disk.specs.Calls.{is_past}
use Rattle.mon_disk.specs.Memory.{InjectedFault, Lived, begins_with, from_of, first_write, lost_of, done_of, done, seen_after, part, placed, imaged, settled_as, settled}
use Rattle.mon_disk.specs.MemoryDisk.{and_call, fails, injected_life}
use Rattle.mon_disk.specs.Holding.{HoldingState, holds_only, is_over, counted, write_of, written_on, synced_on, first_lost, lost_on, failed_on, injected_on, undone, all_undone, call_of, lost_calls, settled_with, settled_from, since_sync, at_sync, left_of, Holds}
use Rattle.mon_disk.proofs.Writes.{take-overwritten, drop-overwritten}
use Rattle.mon_disk.proofs.Lives.{done_done, done_failed, lost_done, lost_write, lost_still, seen_written, seen_synced, seen_failed, length_more}
use Rattle.mon_disk.proofs.InjectedFaults.{all_done}

-- ---- a write that is taken back

take_drop : (n : ℕ) (l : List ℕ) → take n l ++ drop n l ≡ l
take_drop zero l = refl
take_drop (suc n) [] = refl
take_drop (suc n) (x ∷ l) = ap (λ (r : List ℕ). x ∷ r) (take_drop n l)

same_test : (m n : ℕ) → m ≡ n → (m == n) ≡ true
same_test m n is = grind (arith, nat_tests, is)

other_test : (m n : ℕ) → m < n → (m == n) ≡ false
other_test m n lt = grind (arith, nat_tests, lt)

taken_back : (at : ℕ) (bytes file : List ℕ) → at ≤ length file → undone (write_of at bytes file) (overwritten at bytes file) ≡ file
taken_back at bytes file within =
    let n = length bytes in
    let rest = drop at file in
    let under = take n rest in
    let new = overwritten at bytes file in
    let front : take at new ≡ take at file = take-overwritten at at bytes file (omega arith) within in
    let back : drop (at + n) new ≡ drop (at + n) file = drop-overwritten (at + n) at bytes file (omega arith) within in
    let long : length under ≡ min n (length rest) = length-take n rest in
    elim (le_or_gt n (length rest)) [
      | inl inside ↦
          let same : length under ≡ n = omega (arith, long, inside) in
          ap (λ (b : Bool). cond b (overwritten at under new) (take at new ++ under)) (same_test (length under) n same)
          ∙ ap (λ (m : ℕ). take at new ++ under ++ drop (at + m) new) same
          ∙ ap (λ (l : List ℕ). l ++ under ++ drop (at + n) new) front
          ∙ ap (λ (l : List ℕ). take at file ++ under ++ l) (back ∙ sym (drop-drop n at file))
          ∙ append_assoc (take at file) under (drop n rest)
          ∙ ap (λ (l : List ℕ). take at file ++ l) (take_drop n rest)
          ∙ take_drop at file
      | inr past ↦
          let all : under ≡ rest = take_all n rest (omega (arith, past)) in
          let short : length under < n = omega (arith, ap length all, past) in
          ap (λ (b : Bool). cond b (overwritten at under new) (take at new ++ under)) (other_test (length under) n short)
          ∙ ap (λ (l : List ℕ). l ++ under) front
          ∙ ap (λ (l : List ℕ). take at file ++ l) all
          ∙ take_drop at file
    ]
  where
    le_or_gt : (m n : ℕ) → (m ≤ n) ⊎ (n < m)
    le_or_gt m n = grind arith

-- ---- the countdown

counts : (made : ℕ) (u : Option InjectedFault) → counted (left_of made u) ≡ left_of (suc made) u
counts made None = refl
counts made (Some u) =
    let less : u.from - suc made - 1 ≡ u.from - suc (suc made) = omega arith in
    ap (λ (n : ℕ). Some (record { left = n; image = u.image })) less

counts_call : (c : HoldingState) (life : Lived) (call : DiskCall) → c.upset ≡ left_of (length life.calls) life.upset → counted c.upset ≡ left_of (length (life.calls ++ call ∷ [])) life.upset
counts_call c life call is =
    ap counted is ∙ counts (length life.calls) life.upset ∙ ap (λ (n : ℕ). left_of n life.upset) (sym (length_more life.calls call))

over_of : (made : ℕ) (u : Option InjectedFault) → is_over (left_of made u) ≡ is_past (from_of u) (suc made)
over_of made None = refl
over_of made (Some u) = zero_test u.from (suc made)
  where
    zero_test : (from n : ℕ) → (from - n == 0) ≡ nat_le from n
    zero_test from n = grind (arith, nat_tests)

pub fails_is : (c : HoldingState) (life : Lived) → Holds c life → is_over c.upset ≡ fails life
fails_is c life h = ap is_over h.4 ∙ over_of (length life.calls) life.upset

-- ---- one call more

newest : (writes : List Unsynced) (w : Unsynced) → reverse (writes ++ w ∷ []) ≡ w ∷ reverse writes
newest writes w = reverse-append writes (w ∷ [])

pub holds_begun : (file : List ℕ) → Holds (holds_only file) (begins_with file)
holds_begun file = (refl, refl, refl, refl, refl)

pub holds_written : (c : HoldingState) (life : Lived) (at : ℕ) (bytes : List ℕ) → Holds c life → fails life ≡ false → at ≤ length c.bytes → Holds (written_on at bytes c) (and_call (Write at bytes) life)
holds_written c life at bytes h sound within =
    let w = write_of at bytes c.bytes in
    let call = Write at bytes in
    let next = and_call call life in
    let calls = done_done life call sound in (
      ap (overwritten at bytes) h.0 ∙ sym (seen_written life at bytes sound),
      ap (map call_of) (newest c.unsynced w) ∙ ap (λ (l : List DiskCall). call ∷ l) h.1 ∙ ap since_sync (sym calls),
      ap (λ (ws : List Unsynced). all_undone ws (overwritten at bytes c.bytes)) (newest c.unsynced w)
          ∙ ap (all_undone (reverse c.unsynced)) (taken_back at bytes c.bytes within)
          ∙ h.2
          ∙ ap (at_sync life.first) (sym calls),
      h.3 ∙ lost_done life call sound,
      counts_call c life call h.4,
    )

pub holds_synced : (c : HoldingState) (life : Lived) → Holds c life → fails life ≡ false → Holds (synced_on c) (and_call Sync life)
holds_synced c life h sound =
    let calls = done_done life Sync sound in (
      h.0 ∙ sym (seen_synced life sound),
      ap since_sync (sym calls),
      h.0 ∙ ap (at_sync life.first) (sym calls),
      h.3 ∙ lost_done life Sync sound,
      counts_call c life Sync h.4,
    )

pub holds_lost : (c : HoldingState) (life : Lived) (at : ℕ) (bytes : List ℕ) → Holds c life → fails life ≡ true → Holds (lost_on at bytes c) (and_call (Write at bytes) life)
holds_lost c life at bytes h fails =
    let call = Write at bytes in
    let calls = done_failed life call fails in (
      h.0 ∙ sym (seen_failed life call fails),
      h.1 ∙ ap since_sync (sym calls),
      h.2 ∙ ap (at_sync life.first) (sym calls),
      first c.lost h.3 ∙ sym (lost_write life at bytes fails),
      counts_call c life call h.4,
    )
  where
    first : (w : Option Unsynced) → lost_calls w ≡ lost_of (from_of life.upset) life.calls
        → lost_calls (first_lost at bytes w) ≡ first_write (lost_of (from_of life.upset) life.calls ++ Write at bytes ∷ [])
    first None is = ap (λ (l : List DiskCall). first_write (l ++ Write at bytes ∷ [])) is
    first (Some w) is = ap (λ (l : List DiskCall). first_write (l ++ Write at bytes ∷ [])) is

pub holds_failed : (c : HoldingState) (life : Lived) → Holds c life → fails life ≡ true → Holds (failed_on c) (and_call Sync life)
holds_failed c life h fails =
    let calls = done_failed life Sync fails in (
      h.0 ∙ sym (seen_failed life Sync fails),
      h.1 ∙ ap since_sync (sym calls),
      h.2 ∙ ap (at_sync life.first) (sym calls),
      h.3 ∙ sym (lost_still life fails),
      counts_call c life Sync h.4,
    )

pub holds_injected : (c : HoldingState) (life : Lived) (call image : ℕ) → Holds c life → life.upset ≡ None → 1 ≤ call → Holds (injected_on call image c) (injected_life call image life)
holds_injected c life call image h none some =
    let u : InjectedFault = record { from = length life.calls + call; image = image } in
    let before : length life.calls < length life.calls + call = omega (arith, some) in
    let sound : done life ≡ reverse life.calls = ap (λ (o : Option InjectedFault). reverse (done_of (from_of o) life.calls)) none in
    let calls : done (injected_life call image life) ≡ done life = all_done life.first u life.calls before ∙ sym sound in
    let lost : lost_of (Some u.from) life.calls ≡ [] = ap first_write (drop_all (pred u.from) life.calls (omega (arith, before))) in
    let none_lost : lost_of (from_of life.upset) life.calls ≡ [] = ap (λ (o : Option InjectedFault). lost_of (from_of o) life.calls) none in
    let left : call - 1 ≡ length life.calls + call - suc (length life.calls) = omega arith in (
      h.0 ∙ ap (seen_after life.first) (sym calls),
      h.1 ∙ ap since_sync (sym calls),
      h.2 ∙ ap (at_sync life.first) (sym calls),
      h.3 ∙ none_lost ∙ sym lost,
      ap (λ (n : ℕ). Some (record { left = n; image = image })) left,
    )

-- ---- what it settles to

imaged_since : (image : ℕ) (first : List ℕ) (calls : List DiskCall) → imaged image (at_sync first calls) (since_sync calls) ≡ imaged image first calls
imaged_since image first [] = refl
imaged_since image first (Write at bytes ∷ older) = ap (placed at (part image bytes)) (imaged_since image first older)
imaged_since image first (Sync ∷ older) = refl

imaged_lost : (image : ℕ) (first : List ℕ) (w : Option Unsynced) (calls : List DiskCall) → imaged image (at_sync first calls) (lost_calls w ++ since_sync calls) ≡ imaged image first (lost_calls w ++ calls)
imaged_lost image first None calls = imaged_since image first calls
imaged_lost image first (Some w) calls = ap (placed w.at (part image w.bytes)) (imaged_since image first calls)

settles_as : (c : HoldingState) (life : Lived) (u : Option InjectedFault) → Holds c life → settled_with (left_of (length life.calls) u) c ≡ settled_as u life
settles_as c life None h = h.0
settles_as c life (Some u) h =
    let writes = lost_calls c.lost in
    ap (λ (file : List ℕ). imaged u.image file (writes ++ map call_of (reverse c.unsynced))) h.2
    ∙ ap (λ (l : List DiskCall). imaged u.image (at_sync life.first (done life)) (writes ++ l)) h.1
    ∙ imaged_lost u.image life.first c.lost (done life)
    ∙ ap (λ (l : List DiskCall). imaged u.image life.first (l ++ done life)) h.3

pub settles_is : (c : HoldingState) (life : Lived) → Holds c life → settled_from c ≡ settled life
settles_is c life h = ap (λ (u : Option Countdown). settled_with u c) h.4 ∙ settles_as c life life.upset h
