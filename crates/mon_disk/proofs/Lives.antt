-- One call more in the life of a disk in memory.
use Rattle.std.proofs.Common.{Bool, true, false, ◌≡◌, ◌⊎◌, ⊎_elim, ℕ, suc, pred, nat_le, ◌<◌, ◌≤◌, List, [], ◌∷◌, ◌++◌, length, take, drop, reverse, Option, Some, None, refl, sym, ap, ◌∙◌, subst, arith}
use Rattle.std.proofs.lemmas.Bool.Decides.{nat_tests}
use Rattle.std.proofs.lemmas.List.{take_all, drop_all, take-append-le, drop-append-le, length-append, reverse-append}
use Rattle.mon_disk.specs.declared.disk.DiskCall.{DiskCall}
use Rattle.mon_disk.specs.declared.disk.DiskCall.TheVariants.{Write, Sync}
use Rattle.mon_disk.specs.Images.{overwritten, Torn}
use Rattle.mon_disk.specs.Calls.{is_past}
use Rattle.mon_disk.specs.Memory.{InjectedFault, Lived, from_of, done_of, first_write, lost_of, done, begun, seen_after, LeftAfter, part, imaged, seen_of, settled_as, settled}
use Rattle.mon_disk.specs.MemoryDisk.{and_call, fails, Leaves}
use Rattle.mon_disk.proofs.Writes.{torn_not, torn_whole, torn_part, length-part, one_byte}

-- what became of the writes that aren't on the disk
abbrev pub Cut : Lived → List ℕ → Type 0
Cut life = LeftAfter life.first (begun life)

-- what a read gives is among what a crash may leave
pub read_left : (first : List ℕ) (calls : List DiskCall) → LeftAfter first calls (seen_after first calls)
read_left first [] = refl
read_left first (Write at bytes ∷ older) = (seen_after first older, read_left first older, torn_whole at bytes (seen_after first older))
read_left first (Sync ∷ older) = refl

-- and so is each image
image_left : (image : ℕ) (first : List ℕ) (calls : List DiskCall) → LeftAfter first calls (imaged image first calls)
image_left image first [] = refl
image_left image first (Write at bytes ∷ older) =
    (imaged image first older, image_left image first older, torn_part at bytes (part image bytes) (imaged image first older) (length-part image bytes) (one_byte image bytes))
image_left image first (Sync ∷ older) = refl

-- a write that failed may have left nothing
lost_left : (first : List ℕ) (failed older : List DiskCall) (c : List ℕ) → LeftAfter first older c → LeftAfter first (first_write failed ++ older) c
lost_left first [] older c left = left
lost_left first (Write at bytes ∷ failed) older c left = (c, left, torn_not at bytes c)
lost_left first (Sync ∷ failed) older c left = lost_left first failed older c left

seen_left_of : (o : Option ℕ) (first : List ℕ) (calls : List DiskCall) → LeftAfter first (lost_of o calls ++ reverse (done_of o calls)) (seen_after first (reverse (done_of o calls)))
seen_left_of None first calls = read_left first (reverse calls)
seen_left_of (Some from) first calls =
    lost_left first (drop (pred from) calls) (reverse (take (pred from) calls)) (seen_after first (reverse (take (pred from) calls))) (read_left first (reverse (take (pred from) calls)))

pub seen_left : (life : Lived) → Cut life (seen_of life)
seen_left life = seen_left_of (from_of life.upset) life.first life.calls

settled_left_of : (u : Option InjectedFault) (life : Lived) → Cut life (settled_as u life)
settled_left_of None life = seen_left life
settled_left_of (Some u) life = image_left u.image life.first (begun life)

pub settled_left : (life : Lived) → Cut life (settled life)
settled_left life = settled_left_of life.upset life

-- the number of a call that fails or doesn't
later : (from n : ℕ) → nat_le from n ≡ false → n < from
later from n test = grind (arith, nat_tests)

reached : (from n : ℕ) → nat_le from n ≡ true → from ≤ n
reached from n test = grind (arith, nat_tests)

pub length_more : (calls : List DiskCall) (call : DiskCall) → length (calls ++ call ∷ []) ≡ suc (length calls)
length_more calls call = omega (arith, length-append calls (call ∷ []))

newest : (calls : List DiskCall) (call : DiskCall) → reverse (calls ++ call ∷ []) ≡ call ∷ reverse calls
newest calls call = reverse-append calls (call ∷ [])

-- a call that is done
done_more : (o : Option ℕ) (calls : List DiskCall) (call : DiskCall) → is_past o (suc (length calls)) ≡ false → reverse (done_of o (calls ++ call ∷ [])) ≡ call ∷ reverse (done_of o calls)
done_more None calls call sound = newest calls call
done_more (Some from) calls call sound =
    let n = later from (suc (length calls)) sound in
    ap reverse (take_all (pred from) (calls ++ call ∷ []) (omega (arith, n, length_more calls call)))
    ∙ newest calls call
    ∙ ap (λ (cs : List DiskCall). call ∷ reverse cs) (sym (take_all (pred from) calls (omega (arith, n))))

none_lost : (o : Option ℕ) (calls : List DiskCall) → is_past o (length calls) ≡ false → lost_of o calls ≡ []
none_lost None calls sound = refl
none_lost (Some from) calls sound = ap first_write (drop_all (pred from) calls (omega (arith, later from (length calls) sound)))

sound_before : (o : Option ℕ) (n : ℕ) → is_past o (suc n) ≡ false → is_past o n ≡ false
sound_before None n sound = refl
sound_before (Some from) n sound = grind (arith, nat_tests)

-- a call that fails
done_stays : (o : Option ℕ) (calls : List DiskCall) (call : DiskCall) → is_past o (suc (length calls)) ≡ true → done_of o (calls ++ call ∷ []) ≡ done_of o calls
done_stays None calls call fails = absurd (cc fails)
done_stays (Some from) calls call fails =
    take-append-le (pred from) calls (call ∷ []) (omega (arith, reached from (suc (length calls)) fails))

lost_more : (first : List ℕ) (at : ℕ) (bytes : List ℕ) (failed older : List DiskCall) (c : List ℕ) → LeftAfter first (first_write (failed ++ Write at bytes ∷ []) ++ older) c → (d : List ℕ) × LeftAfter first (first_write failed ++ older) d × Torn at bytes d c
lost_more first at bytes [] older c left = left
lost_more first at bytes (Write to other ∷ failed) older c left = (c, left, torn_not at bytes c)
lost_more first at bytes (Sync ∷ failed) older c left = lost_more first at bytes failed older c left

lost_sync : (failed : List DiskCall) → first_write (failed ++ Sync ∷ []) ≡ first_write failed
lost_sync [] = refl
lost_sync (Write at bytes ∷ failed) = refl
lost_sync (Sync ∷ failed) = lost_sync failed

fails_more : (from : ℕ) (calls : List DiskCall) (call : DiskCall) → from ≤ suc (length calls) → drop (pred from) (calls ++ call ∷ []) ≡ drop (pred from) calls ++ call ∷ []
fails_more from calls call fails = drop-append-le (pred from) calls (call ∷ []) (omega (arith, fails))

pub done_done : (life : Lived) (call : DiskCall) → fails life ≡ false → done (and_call call life) ≡ call ∷ done life
done_done life call sound = done_more (from_of life.upset) life.calls call sound

pub done_failed : (life : Lived) (call : DiskCall) → fails life ≡ true → done (and_call call life) ≡ done life
done_failed life call fails = ap reverse (done_stays (from_of life.upset) life.calls call fails)

pub begun_done : (life : Lived) (call : DiskCall) → fails life ≡ false → begun (and_call call life) ≡ call ∷ done life
begun_done life call sound =
    let o = from_of life.upset in
    let more : is_past o (length (life.calls ++ call ∷ [])) ≡ false = ap (is_past o) (length_more life.calls call) ∙ sound in
    ap (λ (cs : List DiskCall). cs ++ done (and_call call life)) (none_lost o (life.calls ++ call ∷ []) more) ∙ done_done life call sound

pub begun_sound : (life : Lived) → fails life ≡ false → begun life ≡ done life
begun_sound life sound =
    let o = from_of life.upset in
    ap (λ (cs : List DiskCall). cs ++ done life) (none_lost o life.calls (sound_before o (length life.calls) sound))

-- the first write that failed, after one more call
pub lost_done : (life : Lived) (call : DiskCall) → fails life ≡ false → lost_of (from_of life.upset) life.calls ≡ lost_of (from_of life.upset) (life.calls ++ call ∷ [])
lost_done life call sound =
    let o = from_of life.upset in
    let more : is_past o (length (life.calls ++ call ∷ [])) ≡ false = ap (is_past o) (length_more life.calls call) ∙ sound in
    none_lost o life.calls (sound_before o (length life.calls) sound) ∙ sym (none_lost o (life.calls ++ call ∷ []) more)

first_twice : (failed more : List DiskCall) → first_write (failed ++ more) ≡ first_write (first_write failed ++ more)
first_twice [] more = refl
first_twice (Write at bytes ∷ failed) more = refl
first_twice (Sync ∷ failed) more = first_twice failed more

lost_write_of : (o : Option ℕ) (calls : List DiskCall) (call : DiskCall) → is_past o (suc (length calls)) ≡ true → lost_of o (calls ++ call ∷ []) ≡ first_write (lost_of o calls ++ call ∷ [])
lost_write_of None calls call failed = absurd (cc failed)
lost_write_of (Some from) calls call failed =
    ap first_write (fails_more from calls call (reached from (suc (length calls)) failed)) ∙ first_twice (drop (pred from) calls) (call ∷ [])

pub lost_write : (life : Lived) (at : ℕ) (bytes : List ℕ) → fails life ≡ true → lost_of (from_of life.upset) (life.calls ++ Write at bytes ∷ []) ≡ first_write (lost_of (from_of life.upset) life.calls ++ Write at bytes ∷ [])
lost_write life at bytes failed = lost_write_of (from_of life.upset) life.calls (Write at bytes) failed

-- what a read gives after one more call
pub seen_written : (life : Lived) (at : ℕ) (bytes : List ℕ) → fails life ≡ false → seen_of (and_call (Write at bytes) life) ≡ overwritten at bytes (seen_of life)
seen_written life at bytes sound = ap (seen_after life.first) (done_done life (Write at bytes) sound)

pub seen_synced : (life : Lived) → fails life ≡ false → seen_of (and_call Sync life) ≡ seen_of life
seen_synced life sound = ap (seen_after life.first) (done_done life Sync sound)

pub seen_failed : (life : Lived) (call : DiskCall) → fails life ≡ true → seen_of (and_call call life) ≡ seen_of life
seen_failed life call failed = ap (seen_after life.first) (done_failed life call failed)

-- what a crash may leave after one more call
write_failed_of : (u : Option ℕ) (first : List ℕ) (calls : List DiskCall) (at : ℕ) (bytes c : List ℕ) → is_past u (suc (length calls)) ≡ true
    → LeftAfter first (lost_of u (calls ++ Write at bytes ∷ []) ++ reverse (done_of u (calls ++ Write at bytes ∷ []))) c
    → (d : List ℕ) × LeftAfter first (lost_of u calls ++ reverse (done_of u calls)) d × Torn at bytes d c
write_failed_of None first calls at bytes c failed left = absurd (cc failed)
write_failed_of (Some from) first calls at bytes c failed left =
    let call = Write at bytes in
    let le = reached from (suc (length calls)) failed in
    let same = done_stays (Some from) calls call failed in
    lost_more first at bytes (drop (pred from) calls) (reverse (take (pred from) calls)) c
    (rw (← fails_more from calls call le, ← same) left)

sync_failed_of : (u : Option ℕ) (calls : List DiskCall) → is_past u (suc (length calls)) ≡ true → lost_of u (calls ++ Sync ∷ []) ≡ lost_of u calls
sync_failed_of None calls failed = absurd (cc failed)
sync_failed_of (Some from) calls failed =
    ap first_write (fails_more from calls Sync (reached from (suc (length calls)) failed)) ∙ lost_sync (drop (pred from) calls)

pub lost_still : (life : Lived) → fails life ≡ true → lost_of (from_of life.upset) (life.calls ++ Sync ∷ []) ≡ lost_of (from_of life.upset) life.calls
lost_still life failed = sync_failed_of (from_of life.upset) life.calls failed

by_test : {P : Type 0} (b : Bool) → (b ≡ true → P) → (b ≡ false → P) → P
by_test true yes_ no_ = yes_ refl
by_test false yes_ no_ = no_ refl

pub write_left : (life : Lived) (at : ℕ) (bytes c : List ℕ) → Cut (and_call (Write at bytes) life) c → (d : List ℕ) × Cut life d × Torn at bytes d c
write_left life at bytes c left =
    by_test
    (fails life)
    (λ (failed : fails life ≡ true). write_failed_of (from_of life.upset) life.first life.calls at bytes c failed left)
    (λ (sound : fails life ≡ false).
    let now : LeftAfter life.first (Write at bytes ∷ done life) c = subst (λ (cs : List DiskCall). LeftAfter life.first cs c) (begun_done life (Write at bytes) sound) left in
    (now.0, subst (λ (cs : List DiskCall). LeftAfter life.first cs now.0) (sym (begun_sound life sound)) now.1, now.2))

pub sync_only : (life : Lived) (c : List ℕ) → fails life ≡ false → Cut (and_call Sync life) c → c ≡ seen_of life
sync_only life c sound left = subst (λ (cs : List DiskCall). LeftAfter life.first cs c) (begun_done life Sync sound) left

pub sync_left : (life : Lived) (c : List ℕ) → Cut (and_call Sync life) c → Cut life c
sync_left life c left =
    by_test
    (fails life)
    (λ (failed : fails life ≡ true). rw (← sync_failed_of (from_of life.upset) life.calls failed, ← done_failed life Sync failed) left)
    (λ (sound : fails life ≡ false). rw (sync_only life c sound left) (seen_left life))

-- and that is all that a crash may leave
pub as_cut : (life : Lived) (c : List ℕ) → Leaves life c → Cut life c
as_cut life c left =
    ⊎_elim
    (λ (read : c ≡ seen_of life). subst (Cut life) (sym read) (seen_left life))
    (λ (rest : (c ≡ settled life) ⊎ Cut life c). ⊎_elim (λ (image : c ≡ settled life). subst (Cut life) (sym image) (settled_left life)) (λ (cut : Cut life c). cut) rest)
    left
