-- The key-value maps that incrementals of commands make can be read back from their texts.
use Rattle.std.proofs.Common.{◌≡◌, ℕ, ◌≤◌, Bool, true, false, not, cond, List, [], ◌∷◌, length, Option, Some, None, Less, Equal, Greater, nat_cmp, T, IsTrue, refl, sym, ap, subst, ◌∙◌, arith, length-append}
use Rattle.std.specs.Cmp.Lexicographic.{slice_cmp, nat_list_cmp_total}
use Rattle.std.specs.FinMap.{get, entries, insert, remove, empty, from_sorted, is_sorted, put, slice_cmp-IsAntisymmetric, nat_cmp-IsAntisymmetric, entries-from_sorted, entries_sorted, entries-insert, get-from_sorted, get-entries, get-remove, same_map}
use Rattle.std.specs.FinMap.Entries.{by_order, where_key, is_sorted-where_key, find-where_key}
use Rattle.std.specs.List.{AllByRecursion}
use Rattle.std.specs.Ordering.{eq_by_cmp}
use Rattle.std.proofs.lemmas.Bool.{and_parts, le-leb, leb-true}
use Rattle.mon_bytes.specs.Texts.{is_name}
use Rattle.mon_bytes.proofs.Forms.{length-u32_bytes}
use Rattle.map_kv.specs.Kept.{IsPair, size_of}
use Rattle.map_kv.specs.Map.{Kv, with_inc}
use Rattle.map_kv.specs.Text.{inc_text, map_text, IncFits, MapFits, EntryFits, IsShort}
use Rattle.map_kv.specs.declared.inc.KvInc.{KvInc}
use Rattle.map_kv.specs.declared.inc.KvInc.TheVariants.{Set, Remove}
use Rattle.map_kv.proofs.Again.{inc_again, map_again}
use Rattle.map_kv.proofs.Kept.{entries-kept_map, is_short, none_kept}
use Rattle.map_kv.proofs.Lengths.{length-map_text}
use Rattle.mon_wire.specs.declared.reply.ShownMap.TheVariants as shown
use Rattle.mon_wire.specs.declared.request.Service.TheVariants as service
use Rattle.mon_msg.specs.Protocol.Maps.{next_map, decoded_map}
use Rattle.log_model.proofs.Lists.{all_map, all_both}

abbrev Entry : Type 0
Entry = List ℕ × List ℕ

-- ---- names and texts alone

pub record IsFine (m : Kv) : Type 0 where
  pub each : AllByRecursion IsPair (entries m)
  pub short : length (map_text m) ≤ 393216

abbrev nothing : Kv
nothing = empty

none_there : entries nothing ≡ []
none_there = sym (ap entries (none_kept [] refl)) ∙ entries-kept_map [] tt

pub fine_empty : IsFine empty
fine_empty = record { each = subst (AllByRecursion IsPair) (sym none_there) tt; short = omega (arith, length-map_text empty, ap size_of none_there) }

pub each_put : (k v : List ℕ) (es : List Entry) → IsPair (k, v) → AllByRecursion IsPair es → AllByRecursion IsPair (put (slice_cmp nat_cmp) k v es)
each_put k v [] new h = (new, tt)
each_put k v (e ∷ es) new h =
    elim (slice_cmp nat_cmp k e.0) as (λ r. AllByRecursion IsPair (by_order r ((k, v) ∷ e ∷ es) ((e.0, v) ∷ es) (e ∷ put (slice_cmp nat_cmp) k v es))) [
      | Less ↦ (new, h)
      | Equal ↦ ((h.0.0, new.1), h.1)
      | Greater ↦ (h.0, each_put k v es new h.1)
    ]

each_where : (p : List ℕ → Bool) (es : List Entry) → AllByRecursion IsPair es → AllByRecursion IsPair (where_key (slice_cmp nat_cmp) p es)
each_where p [] h = tt
each_where p (e ∷ es) h = elim (p e.0) as (λ b. AllByRecursion IsPair (cond b (e ∷ where_key (slice_cmp nat_cmp) p es) (where_key (slice_cmp nat_cmp) p es))) [ true ↦ (h.0, each_where p es h.1) | false ↦ each_where p es h.1 ]

size_where : (p : List ℕ → Bool) (es : List Entry) → size_of (where_key (slice_cmp nat_cmp) p es) ≤ size_of es
size_where p [] = omega arith
size_where p (e ∷ es) = elim (p e.0) as (λ b. size_of (cond b (e ∷ where_key (slice_cmp nat_cmp) p es) (where_key (slice_cmp nat_cmp) p es)) ≤ size_of (e ∷ es)) [ true ↦ omega (arith, size_where p es) | false ↦ omega (arith, size_where p es) ]

abbrev other_than : List ℕ → List ℕ → Bool
other_than k x = not (eq_by_cmp (slice_cmp nat_cmp) x k)

swapped : (t : Bool) (c : Option (List ℕ)) → cond t None c ≡ cond (not t) c None
swapped true c = refl
swapped false c = refl

exact : (p q : List ℕ) → slice_cmp nat_cmp p q ≡ Equal → p ≡ q
exact = slice_cmp-IsAntisymmetric nat_cmp-IsAntisymmetric

abbrev without : List ℕ → Kv → Kv
without k m = from_sorted (where_key (slice_cmp nat_cmp) (other_than k) (entries m))

-- a map without a key has the entries without it
removed : (m : Kv) (k : List ℕ) → entries (remove m k) ≡ where_key (slice_cmp nat_cmp) (other_than k) (entries m)
removed m k = ap entries (same_map nat_list_cmp_total exact (remove m k) (without k m) same) ∙ entries-from_sorted (slice_cmp nat_cmp) (where_key (slice_cmp nat_cmp) (other_than k) (entries m)) sorted
  where
    sorted : T (is_sorted (slice_cmp nat_cmp) (where_key (slice_cmp nat_cmp) (other_than k) (entries m)))
    sorted = is_sorted-where_key (slice_cmp nat_cmp) (other_than k) (entries m) (entries_sorted m)

    same : (q : List ℕ) → get (remove m k) q ≡ get (without k m) q
    same q =
        get-remove nat_list_cmp_total m k q ∙ swapped (eq_by_cmp (slice_cmp nat_cmp) q k) (get m q) ∙ ap (λ c. cond (other_than k q) c None) (get-entries m q)
        ∙ sym (find-where_key (slice_cmp nat_cmp) (other_than k) q (λ x e. ap (other_than k) (sym (exact q x e))) (entries m))
        ∙ sym (get-from_sorted (slice_cmp nat_cmp) (where_key (slice_cmp nat_cmp) (other_than k) (entries m)) q sorted)

-- ---- an incremental's step

-- the longest incremental: its kind, two lengths, a name and a value
abbrev pub most_inc : ℕ
most_inc = 65797

name_length : (k : List ℕ) → IsTrue (is_name k) → length k ≤ 255
name_length k h = leb-true (length k) 255 (and_parts _ _ (and_parts _ _ h).0).1

pub record Steps (m : Kv) (inc : KvInc) : Type 0 where
  pub fine : IsFine (with_inc m inc)
  pub next : next_map service.Kv (shown.Kv m) (inc_text inc) ≡ Some (shown.Kv (with_inc m inc))
  pub short : length (inc_text inc) ≤ most_inc

map_fits : (m : Kv) → IsFine m → MapFits m
map_fits m h =
    let short = is_short m (let s = h.short in omega arith) in
    record { each = all_map (λ e. IsPair e × IsShort e) EntryFits (λ e p. (p.0.0, p.0.1, p.1)) (entries m) (all_both IsPair IsShort (entries m) h.each short.each); count = short.count }

pub read_back : (m : Kv) → IsFine m → decoded_map service.Kv (map_text m) ≡ Some (shown.Kv m)
read_back m h = rw (le-leb (length (map_text m)) 393216 h.short, map_again m (map_fits m h)) refl

steps : (m : Kv) (inc : KvInc) → IncFits inc → IsFine (with_inc m inc) → length (inc_text inc) ≤ most_inc → Steps m inc
steps m inc form fine short = record { fine = fine; short = short; next = rw (inc_again inc form, le-leb (length (map_text (with_inc m inc))) 393216 fine.short) refl }

pub set_short : (k v : List ℕ) → IsTrue (is_name k) → length v ≤ 65536 → length (inc_text (Set k v)) ≤ most_inc
set_short k v name short = let n = name_length k name in simp length-append (omega (arith, length-u32_bytes (length v)))

pub remove_short : (k : List ℕ) → IsTrue (is_name k) → length (inc_text (Remove k)) ≤ most_inc
remove_short k name = let n = name_length k name in omega arith

pub remove_shorter : (m : Kv) (k : List ℕ) → length (map_text (remove m k)) ≤ length (map_text m)
remove_shorter m k = omega (arith, length-map_text m, length-map_text (remove m k), ap size_of (removed m k), size_where (other_than k) (entries m))

pub steps_set : (m : Kv) (k v : List ℕ) → IsFine m → IsPair (k, v) → length v ≤ 65536 → length (map_text (insert m k v)) ≤ 393216 → Steps m (Set k v)
steps_set m k v h pair short le =
    steps m (Set k v) (pair.0, pair.1, omega arith) (record { each = subst (AllByRecursion IsPair) (sym (entries-insert nat_list_cmp_total m k v)) (each_put k v (entries m) pair h.each); short = le }) (set_short k v pair.0 short)

pub steps_remove : (m : Kv) (k : List ℕ) → IsFine m → IsTrue (is_name k) → Steps m (Remove k)
steps_remove m k h name =
    steps m (Remove k) name (record { each = subst (AllByRecursion IsPair) (sym (removed m k)) (each_where (other_than k) (entries m) h.each); short = let s = h.short in omega (arith, remove_shorter m k) })
    (remove_short k name)
