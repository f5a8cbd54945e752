-- Decoding accepts the encodings.
use Rattle.std.proofs.Common.{◌≡◌, ℕ, suc, ◌≤◌, ◌<◌, ◌^◌, false, ◌&&◌, leb, ltb, eqb, List, [], ◌∷◌, ◌++◌, length, Ok, Less, Equal, Greater, Ordering, Result, Err, nat_cmp, IsTrue, T, refl, sym, ap, subst, ◌∙◌, append_assoc, arith}
use Rattle.std.specs.Cmp.Lexicographic.{slice_cmp, nat_list_cmp_total}
use Rattle.std.specs.List.{list_all, flat_map, AllByRecursion}
use Rattle.std.specs.Ordering.{is_lt, ordering_then, ordering_reverse}
use Rattle.std.specs.FinMap.{entries, len, from_sorted, entries-from_sorted, entries_sorted, same_entries_map, len-entries}
use Rattle.std.specs.FinMap.Entries.{below_all}
use Rattle.std.proofs.lemmas.Bool.{leb-true, le-ltb}
use Rattle.std.proofs.lemmas.Bool.Decides.{nat_tests}
use Rattle.std.proofs.lemmas.List.{append-nil}
use Rattle.mon_bytes.specs.Reading.{Reading}
use Rattle.mon_bytes.specs.Texts.{graphic, is_word}
use Rattle.mon_bytes.specs.declared.command.MapRefused.{MapRefused}
use Rattle.mon_bytes.specs.declared.command.MapRefused.TheVariants.{Form, OutOfMemory}
use Rattle.mon_bytes.specs.Forms.{◌>>=◌, u32_bytes, Reads}
use Rattle.mon_bytes.proofs.Ascii.{both}
use Rattle.mon_bytes.proofs.Fields.{Found, byte_found, front_found}
use Rattle.mon_bytes.proofs.Forms.{u32_found, ended_found}
use Rattle.mon_bytes.proofs.Ordered.{Entries, entries_found}
use Rattle.mon_tx.specs.Map.{Place, place_cmp, Store}
use Rattle.mon_tx.proofs.Places.{places_total}
use Rattle.mon_store.specs.Checkpoint.{Entry, entry_text, checkpoint_text, EntryFits, HasCheckpoint}
use Rattle.mon_store.specs.Decode.{word_at, value_at, prefix_at, key_at, entry_at, entries_at, map_at, checkpoint_of}

-- how long a word is
record IsLong (most : ℕ) (bytes : List ℕ) : Type 0 where
  low : 1 ≤ length bytes
  high : length bytes ≤ most

word_is_long : (most : ℕ) (bytes : List ℕ) → IsTrue (is_word most bytes) → IsLong most bytes
word_is_long most bytes h =
    let a = both (leb 1 (length bytes) && leb (length bytes) most) (list_all graphic bytes) h in
    let b = both (leb 1 (length bytes)) (leb (length bytes) most) a.0 in
    record { low = leb-true _ _ b.0; high = leb-true _ _ b.1 }

word_found : (most : ℕ) (c : Reading) (bytes rest : List ℕ) → c.rest ≡ length bytes ∷ (bytes ++ rest) → IsTrue (is_word most bytes) → Found (word_at most c) bytes rest
unfolding word_at
word_found most c bytes rest e form =
    let long = word_is_long most bytes form in
    let some : eqb (length bytes) 0 ≡ false = grind (arith, nat_tests, long.low) in
    let few : ltb most (length bytes) ≡ false = le-ltb _ _ long.high in
    let a = byte_found c (length bytes) (bytes ++ rest) e in
    let b = front_found (length bytes) a.0 bytes rest a.1 refl in
    (b.0, b.1, rw (a.2, some, few, b.2, form) refl)

value_found : (c : Reading) (value rest : List ℕ) → c.rest ≡ u32_bytes (length value) ++ (value ++ rest) → length value < 2 ^ 32 → Found (value_at c) value rest
unfolding value_at
value_found c value rest e short =
    let a = u32_found c (length value) (value ++ rest) e short in
    let b = front_found (length value) a.0 value rest a.1 refl in
    (b.0, b.1, rw (a.2, b.2) refl)

entry_parts : (prefix key count value rest : List ℕ) → (prefix ++ key ++ (count ++ value)) ++ rest ≡ prefix ++ (key ++ (count ++ (value ++ rest)))
entry_parts prefix key count value rest = simp append_assoc

-- a prefix isn't below that of a place below it
not_below : (before place : Place) → place_cmp before place ≡ Less → is_lt (slice_cmp nat_cmp place.0 before.0) ≡ false
not_below before place h = by (slice_cmp nat_cmp before.0 place.0) refl h
  where
    turned : (o : Ordering) → slice_cmp nat_cmp before.0 place.0 ≡ o → slice_cmp nat_cmp place.0 before.0 ≡ ordering_reverse o
    turned o e = nat_list_cmp_total.antisymm place.0 before.0 ∙ ap ordering_reverse e

    by : (o : Ordering) → slice_cmp nat_cmp before.0 place.0 ≡ o → ordering_then o (slice_cmp nat_cmp before.1 place.1) ≡ Less → is_lt (slice_cmp nat_cmp place.0 before.0) ≡ false
    by Less e h = ap is_lt (turned Less e)
    by Equal e h = ap is_lt (turned Equal e)
    by Greater e h = absurd cc

entry_found : (before : Place) (e : Entry) (c : Reading) (rest : List ℕ) → c.rest ≡ entry_text e ++ rest → EntryFits e → place_cmp before e.0 ≡ Less → Found (entry_at before c) e rest
unfolding entry_at prefix_at key_at
entry_found before e c rest is fits rises =
    let count = u32_bytes (length e.1) in
    let a = word_found 32 c e.0.0 (length e.0.1 ∷ (e.0.1 ++ (count ++ (e.1 ++ rest)))) (is ∙ entry_parts (length e.0.0 ∷ e.0.0) (length e.0.1 ∷ e.0.1) count e.1 rest) fits.0 in
    let b = word_found 255 a.0 e.0.1 (count ++ (e.1 ++ rest)) a.1 fits.1 in
    let d = value_found b.0 e.1 rest b.1 fits.2 in
    (d.0, d.1, rw (a.2, not_below before e.0 rises, b.2, rises, d.2) refl)

pub none_left : (before : Place) (c : Reading) → entries_at 0 before c ≡ Ok ([], c)
unfolding entries_at
none_left before c = refl

pub some_left : (n : ℕ) (before : Place) (c : Reading) → entries_at (suc n) before c ≡ (entry_at before c >>= λ first. entries_at n first.0.0 first.1 >>= λ others. Ok (first.0 ∷ others.0, others.1))
unfolding entries_at
some_left n before c = refl

abbrev pub entries_in_order : Entries MapRefused Place (List ℕ)
entries_in_order = record { cmp = place_cmp; total = places_total; text = entry_text; Form = EntryFits; one = entry_at; many = entries_at; none = none_left; some = some_left }

-- nothing is below each prefix
above_nothing : (es : List Entry) → AllByRecursion EntryFits es → T (below_all place_cmp ([], []) es)
above_nothing [] each = tt
above_nothing (e ∷ es) each = rw (nothing_first e.0.0 (word_is_long 32 e.0.0 each.0.0).low) (above_nothing es each.1)
  where
    nothing_first : (prefix : List ℕ) → 1 ≤ length prefix → slice_cmp nat_cmp [] prefix ≡ Less
    nothing_first [] h = absurd (omega arith)
    nothing_first (b ∷ prefix) h = refl

pub same_map_of_entries : (m : Store) → from_sorted (entries m) ≡ m
same_map_of_entries m = same_entries_map _ m (entries-from_sorted place_cmp (entries m) (entries_sorted m))

map_found : (m : Store) (c : Reading) (rest : List ℕ) → c.rest ≡ checkpoint_text m ++ rest → HasCheckpoint m → Found (map_at c) m rest
unfolding map_at
map_found m c rest e fits =
    let es = entries m in
    let k = byte_found c 128 (u32_bytes (len m) ++ (flat_map entry_text es ++ rest)) (e ∙ ap (λ (bs : List ℕ). 128 ∷ bs) (append_assoc (u32_bytes (len m)) (flat_map entry_text es) rest)) in
    let a = u32_found k.0 (len m) (flat_map entry_text es ++ rest) k.1 fits.count in
    let b = entries_found entries_in_order entry_found ([], []) es a.0 rest a.1 fits.each (entries_sorted m) (above_nothing es fits.each) in
    let all = subst (λ (n : ℕ). entries_at n ([], []) a.0 ≡ Ok (es, b.0)) (sym (len-entries m)) b.2 in
    (b.0, b.1, rw (k.2, a.2, all, same_map_of_entries m) refl)

pub checkpoint_again : (m : Store) (c : Reading) → c.rest ≡ checkpoint_text m → HasCheckpoint m → checkpoint_of c ≡ Ok m
unfolding checkpoint_of
checkpoint_again m c e fits =
    let a = map_found m c [] (e ∙ sym (append-nil (checkpoint_text m))) fits in
    rw a.2 (ended_found m a.0 a.1)

-- a map that was put together from its entries as they were read
pub from_read : (made : Result Store MapRefused) (after : Reading) (read : Result (List Entry × Reading) MapRefused) → Reads entries made after read → Reads (λ m. m) made after (read >>= λ es. Ok (from_sorted es.0, es.1))
from_read (Ok m) after read h = rw h (ap (λ n. Ok (n, after)) (same_map_of_entries m))
from_read (Err OutOfMemory) after read h = tt
from_read (Err (Form at)) after read h = rw h refl
