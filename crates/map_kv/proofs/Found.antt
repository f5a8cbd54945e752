-- Readers find what is encoded.
use Rattle.std.proofs.Common.{◌≡◌, ℕ, suc, ◌≤◌, false, ◌&&◌, leb, eqb, List, [], ◌∷◌, ◌++◌, length, Result, Ok, Err, Less, nat_cmp, IsTrue, T, refl, sym, ap, subst, ◌∙◌, append_assoc, arith}
use Rattle.std.specs.Cmp.Lexicographic.{slice_cmp, nat_list_cmp_total}
use Rattle.std.specs.List.{list_all, flat_map, AllByRecursion}
use Rattle.std.specs.FinMap.{entries, len, from_sorted, entries-from_sorted, entries_sorted, same_entries_map, len-entries}
use Rattle.std.specs.FinMap.Entries.{below_all}
use Rattle.std.proofs.lemmas.Bool.{leb-true}
use Rattle.std.proofs.lemmas.Bool.Decides.{nat_tests}
use Rattle.mon_bytes.specs.declared.command.MapRefused.{MapRefused}
use Rattle.mon_bytes.specs.declared.command.MapRefused.TheVariants.{Form, OutOfMemory}
use Rattle.mon_bytes.specs.Reading.{Reading}
use Rattle.mon_bytes.specs.Texts.{graphic, is_name}
use Rattle.mon_bytes.specs.Forms.{◌>>=◌, u32_bytes, Reads}
use Rattle.mon_bytes.proofs.Ascii.{both}
use Rattle.mon_bytes.proofs.Fields.{Found, byte_found, front_found}
use Rattle.mon_bytes.proofs.Forms.{u32_found, text_found}
use Rattle.mon_bytes.proofs.Ordered.{Entries, entries_found}
use Rattle.map_kv.specs.Map.{Kv}
use Rattle.map_kv.specs.Text.{entry_text, inc_text, map_text, EntryFits, IncFits, MapFits}
use Rattle.map_kv.specs.Decode.{name_at, set_at, remove_at, inc_at, key_at, entry_at, entries_at, map_format}
use Rattle.map_kv.specs.declared.inc.KvInc.{KvInc}
use Rattle.map_kv.specs.declared.inc.KvInc.TheVariants.{Set, Remove}
use Rattle.map_kv.proofs.Pairs.{Entry}

name_is_long : (key : List ℕ) → IsTrue (is_name key) → 1 ≤ length key
name_is_long key h = leb-true _ _ (both (leb 1 (length key)) (leb (length key) 255) (both (leb 1 (length key) && leb (length key) 255) (list_all graphic key) h).0).0

name_found : (c : Reading) (key rest : List ℕ) → c.rest ≡ length key ∷ (key ++ rest) → IsTrue (is_name key) → Found (name_at c) key rest
unfolding name_at
name_found c key rest e form =
    let long = name_is_long key form in
    let some : eqb (length key) 0 ≡ false = grind (arith, nat_tests) in
    let a = byte_found c (length key) (key ++ rest) e in
    let b = front_found (length key) a.0 key rest a.1 refl in
    (b.0, b.1, rw (a.2, some, b.2, form) refl)

set_parts : (key value count rest : List ℕ) → (1 ∷ ((length key ∷ key) ++ (count ++ value))) ++ rest ≡ 1 ∷ (length key ∷ (key ++ (count ++ (value ++ rest))))
set_parts key value count rest = simp append_assoc

pub inc_found : (c : Reading) (inc : KvInc) (rest : List ℕ) → c.rest ≡ inc_text inc ++ rest → IncFits inc → Found (inc_at c) inc rest
unfolding inc_at set_at remove_at
inc_found c (Set key value) rest e fits =
    let count = u32_bytes (length value) in
    let a = byte_found c 1 (length key ∷ (key ++ (count ++ (value ++ rest)))) (e ∙ set_parts key value count rest) in
    let b = name_found a.0 key (count ++ (value ++ rest)) a.1 fits.0 in
    let d = text_found b.0 value rest b.1 fits.1 fits.2 in
    (d.0, d.1, rw (a.2, b.2, d.2) refl)
inc_found c (Remove key) rest e fits =
    let a = byte_found c 2 (length key ∷ (key ++ rest)) e in
    let b = name_found a.0 key rest a.1 fits in
    (b.0, b.1, rw (a.2, b.2) refl)

entry_parts : (key value count rest : List ℕ) → ((length key ∷ key) ++ (count ++ value)) ++ rest ≡ length key ∷ (key ++ (count ++ (value ++ rest)))
entry_parts key value count rest = simp append_assoc

entry_found : (before : List ℕ) (e : Entry) (c : Reading) (rest : List ℕ) → c.rest ≡ entry_text e ++ rest → EntryFits e → slice_cmp nat_cmp before e.0 ≡ Less → Found (entry_at before c) e rest
unfolding entry_at key_at
entry_found before e c rest is fits rises =
    let count = u32_bytes (length e.1) in
    let a = name_found c e.0 (count ++ (e.1 ++ rest)) (is ∙ entry_parts e.0 e.1 count rest) fits.0 in
    let b = text_found a.0 e.1 rest a.1 fits.1 fits.2 in
    (b.0, b.1, rw (a.2, rises, b.2) refl)

pub none_left : (before : List ℕ) (c : Reading) → entries_at 0 before c ≡ Ok ([], c)
unfolding entries_at
none_left before c = refl

pub some_left : (n : ℕ) (before : List ℕ) (c : Reading) → entries_at (suc n) before c ≡ (entry_at before c >>= λ first. entries_at n first.0.0 first.1 >>= λ others. Ok (first.0 ∷ others.0, others.1))
unfolding entries_at
some_left n before c = refl

abbrev pub entries_in_order : Entries MapRefused (List ℕ) (List ℕ)
entries_in_order = record { cmp = slice_cmp nat_cmp; total = nat_list_cmp_total; text = entry_text; Form = EntryFits; one = entry_at; many = entries_at; none = none_left; some = some_left }

-- the empty text is below each name
above_nothing : (es : List Entry) → AllByRecursion EntryFits es → T (below_all (slice_cmp nat_cmp) [] es)
above_nothing [] each = tt
above_nothing (e ∷ es) each = rw (nothing_first e.0 (name_is_long e.0 each.0.0)) (above_nothing es each.1)
  where
    nothing_first : (key : List ℕ) → 1 ≤ length key → slice_cmp nat_cmp [] key ≡ Less
    nothing_first [] h = absurd (omega arith)
    nothing_first (b ∷ key) h = refl

pub same_map_of_entries : (m : Kv) → from_sorted (entries m) ≡ m
same_map_of_entries m = same_entries_map _ m (entries-from_sorted (slice_cmp nat_cmp) (entries m) (entries_sorted m))

pub map_found : (c : Reading) (m : Kv) (rest : List ℕ) → c.rest ≡ map_text m ++ rest → MapFits m → Found (map_format.read c) m rest
map_found c m rest e fits =
    let es = entries m in
    let a = u32_found c (len m) (flat_map entry_text es ++ rest) (e ∙ append_assoc (u32_bytes (len m)) (flat_map entry_text es) rest) fits.count in
    let b = entries_found entries_in_order entry_found [] es a.0 rest a.1 fits.each (entries_sorted m) (above_nothing es fits.each) in
    let all = subst (λ (n : ℕ). entries_at n [] a.0 ≡ Ok (es, b.0)) (sym (len-entries m)) b.2 in
    (b.0, b.1, rw (a.2, all, same_map_of_entries m) refl)

-- a map that was put together from its entries as they were read
pub from_read : (made : Result Kv MapRefused) (after : Reading) (read : Result (List Entry × Reading) MapRefused) → Reads entries made after read → Reads (λ m. m) made after (read >>= λ es. Ok (from_sorted es.0, es.1))
from_read (Ok m) after read h = rw h (ap (λ n. Ok (n, after)) (same_map_of_entries m))
from_read (Err OutOfMemory) after read h = tt
from_read (Err (Form at)) after read h = rw h refl
