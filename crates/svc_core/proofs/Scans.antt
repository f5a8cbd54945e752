-- Reading the entries of a key-value map, and what they say of a key.
use Rattle.std.proofs.Common.{◌≡◌, ℕ, ◌+◌, ◌-◌, ◌<◌, ◌≤◌, Bool, true, false, cond, ◌||◌, List, [], length, Option, Some, None, is_some, Result, Ok, Err, nat_cmp, bytes_eq, refl, sym, ap, ◌∙◌}
use Rattle.std.proofs.lemmas.Map.Text.{is_eq-slice_cmp}
use Rattle.std.specs.FinMap.{empty, entries, insert, get, contains_key, from_sorted, get-empty, get-insert}
use Rattle.std.specs.Cmp.Lexicographic.{slice_cmp, nat_list_cmp_total}
use Rattle.mon_bytes.specs.Forms.{◌>>=◌, fitted, text_at, ended}
use Rattle.mon_bytes.specs.Reading.{Reading, number}
use Rattle.mon_bytes.specs.declared.command.MapRefused.{MapRefused}
use Rattle.map_kv.specs.Decode.{key_at, entries_at, map_of}
use Rattle.map_kv.specs.Map.{Kv}
use Rattle.map_kv.proofs.Found.{same_map_of_entries}
use Rattle.svc_core.specs.Scan.{entries_hold, map_holds}
use Rattle.map_kv.proofs.Loop.{with_front, IsAbove, begins, above_none, goes_on, is_done, key_rises, stays_above, entries_after}

pub holds-empty : (q : List ℕ) → contains_key {X = List ℕ} {R = slice_cmp nat_cmp} empty q ≡ false
holds-empty q = ap is_some (get-empty (slice_cmp nat_cmp) q)

pub holds-insert : (m : Kv) (k v q : List ℕ) → contains_key (insert m k v) q ≡ (contains_key m q || bytes_eq q k)
holds-insert m k v q = ap is_some (get-insert nat_list_cmp_total m k v q) ∙ rw (is_eq-slice_cmp q k) (by (bytes_eq q k) (get m q))
  where
    by : (b : Bool) (o : Option (List ℕ)) → is_some (cond b (Some v) o) ≡ (is_some o || b)
    by true None = refl
    by true (Some w) = refl
    by false None = refl
    by false (Some w) = refl

-- of `count` entries `i` were read, which are those of a map
pub record IsScanned (count : ℕ) (c : Reading) (key : List ℕ) (i : ℕ) (before : List ℕ) (now : Reading) (held : Bool) : Type 0 where
  pub m : Kv
  pub read : with_front (entries m) (entries_at (count - i) before now) ≡ entries_at count [] c
  pub above : IsAbove before (entries m)
  pub held_is : held ≡ contains_key m key

pub scan_begins : (count : ℕ) (c : Reading) (key : List ℕ) → IsScanned count c key 0 [] c false
scan_begins count c key = record { m = empty; read = begins empty count c refl; above = above_none empty [] refl; held_is = sym (holds-empty key) }

pub scan_goes_on : (count : ℕ) (c : Reading) (key : List ℕ) (i : ℕ) (before name value : List ℕ) (now named after : Reading) (held next : Bool) → i < count
    → key_at before now ≡ Ok (name, named) → text_at named ≡ Ok (value, after) → next ≡ (held || bytes_eq key name)
    → IsScanned count c key i before now held → IsScanned count c key (i + 1) name after next
scan_goes_on count c key i before name value now named after held next lt k t e h =
    let rises = key_rises before now (name, named) k in
    let longer = entries_after h.m before name value rises h.above in
    record {
      m = insert h.m name value;
      read = rw longer (goes_on (entries h.m) count i before name value now named after (entries_at count [] c) lt k t h.read);
      above = rw longer (stays_above before name value (entries h.m) rises h.above);
      held_is = e ∙ ap (λ (b : Bool). b || bytes_eq key name) h.held_is ∙ sym (holds-insert h.m name value key);
    }

pub scan_ends : (count : ℕ) (c : Reading) (key : List ℕ) (i : ℕ) (before : List ℕ) (now : Reading) (held : Bool) → count ≤ i → IsScanned count c key i before now held
    → entries_hold key (entries_at count [] c) ≡ Some (held, now)
scan_ends count c key i before now held le h =
    rw (is_done (entries h.m) count i before now (entries_at count [] c) le h.read, same_map_of_entries h.m, ← h.held_is) refl

-- a count, its entries, and nothing after them are a map
pub map_held : (bytes key : List ℕ) (count : ℕ) (c after : Reading) (held : Bool) → fitted (number 4 (record { at = 0; rest = bytes })) ≡ Ok (count, c)
    → entries_hold key (entries_at count [] c) ≡ Some (held, after) → length after.rest ≡ 0 → map_holds key (map_of bytes) ≡ Some held
unfolding map_of ended
map_held bytes key count c after held n e none = rw n (by (entries_at count [] c) e)
  where
    by : (r : Result (List (List ℕ × List ℕ) × Reading) MapRefused) → entries_hold key r ≡ Some (held, after)
        → map_holds key (r >>= λ entries. ended (from_sorted entries.0, entries.1)) ≡ Some held
    by (Ok (es, d)) e =
        let same : (contains_key (from_sorted {R = slice_cmp nat_cmp} es) key, d) ≡ (held, after) = cc in
        let end : length d.rest ≡ 0 = ap (λ (p : Bool × Reading). length p.1.rest) same ∙ none in
        rw end (ap (λ (p : Bool × Reading). Some p.0) same)
    by (Err x) e = absurd cc
