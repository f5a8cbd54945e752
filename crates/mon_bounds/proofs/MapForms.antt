-- What the bytes encode that a service keeps, whatever they are, has names and texts of the right form.
use Rattle.std.proofs.Common.{◌≡◌, ℕ, zero, suc, ◌+◌, ◌≤◌, cond, eqb, ltb, List, [], ◌∷◌, Ok, Err, IsTrue, Less, nat_cmp, T, sym, subst, inl, inr}
use Rattle.std.proofs.lemmas.Bool.{ltb-false}
use Rattle.std.specs.Cmp.Lexicographic.{slice_cmp, nat_list_cmp_total}
use Rattle.std.specs.FinMap.{entries, from_sorted, insert, is_sorted, entries-from_sorted, entries-insert}
use Rattle.std.specs.FinMap.Entries.{below_all}
use Rattle.std.specs.List.{AllByRecursion}
use Rattle.std.specs.Ordering.{is_lt}
use Rattle.std.specs.Str.{is_utf8}
use Rattle.mon_bytes.proofs.Fields.{guard_ok, chosen_ok, ok_is}
use Rattle.mon_bytes.proofs.Formats.{tested}
use Rattle.mon_bytes.proofs.Forms.{bind_ok, ended_ok}
use Rattle.mon_bytes.specs.Forms.{◌>>=◌, fitted, text_at, ended}
use Rattle.mon_bytes.specs.Reading.{Reading, number, next_bytes}
use Rattle.mon_bytes.specs.Texts.{is_name}
use Rattle.mon_bytes.specs.declared.command.MapRefused.TheVariants as refused
use Rattle.map_kv.proofs.Loop.{key_rises}
use Rattle.map_kv.proofs.Pairs.{Entry, below_less, both}
use Rattle.map_kv.specs.Decode.{name_at, set_at, remove_at, inc_at, inc_of, key_at, entry_at, entries_at, map_of}
use Rattle.map_kv.specs.Kept.{IsPair}
use Rattle.map_kv.specs.Map.{Kv}
use Rattle.map_kv.specs.declared.inc.KvInc.{KvInc}
use Rattle.map_kv.specs.declared.inc.KvInc.TheVariants.{Set, Remove}
use Rattle.map_log.specs.Decode as log_decode
use Rattle.map_log.specs.Text.{IsEntry}
use Rattle.map_log.specs.declared.inc.LogInc.{LogInc}
use Rattle.log_model.proofs.KvSteps.{each_put}

name_is : (c : Reading) (x : List ℕ × Reading) → name_at c ≡ Ok x → IsTrue (is_name x.0)
unfolding name_at
name_is c x e =
    let rest = λ (n : ℕ × Reading). fitted (next_bytes n.0 n.1) >>= λ bytes. cond (is_name bytes.0) (Ok bytes) (Err (refused.Form n.1.at)) in
    let a = bind_ok (fitted (number 1 c)) (λ n. cond (eqb n.0 0) (Err (refused.Form c.at)) (rest n)) x e in
    let some = guard_ok (eqb a.0.0 0) (refused.Form c.at) (rest a.0) x a.2 in
    let b = bind_ok (fitted (next_bytes a.0.0 a.0.1)) (λ bytes. cond (is_name bytes.0) (Ok bytes) (Err (refused.Form a.0.1.at))) x some.1 in
    let g = chosen_ok (is_name b.0.0) (refused.Form a.0.1.at) (Ok b.0) x b.2 in
    subst (λ (p : List ℕ × Reading). IsTrue (is_name p.0)) (ok_is b.0 x g.1) g.0

text_is : (c : Reading) (x : List ℕ × Reading) → text_at c ≡ Ok x → IsTrue (is_utf8 x.0)
unfolding text_at
text_is c x e =
    let a = bind_ok (fitted (number 4 c)) (λ n. fitted (next_bytes n.0 n.1) >>= λ bytes. cond (is_utf8 bytes.0) (Ok bytes) (Err (refused.Form n.1.at))) x e in
    let b = bind_ok (fitted (next_bytes a.0.0 a.0.1)) (λ bytes. cond (is_utf8 bytes.0) (Ok bytes) (Err (refused.Form a.0.1.at))) x a.2 in
    let g = chosen_ok (is_utf8 b.0.0) (refused.Form a.0.1.at) (Ok b.0) x b.2 in
    subst (λ (p : List ℕ × Reading). IsTrue (is_utf8 p.0)) (ok_is b.0 x g.1) g.0

-- ---- the key-value map's

abbrev pub IncIs : KvInc → Type 0
IncIs (Set key value) = IsPair (key, value)
IncIs (Remove key) = IsTrue (is_name key)

set_is : (c : Reading) (x : KvInc × Reading) → set_at c ≡ Ok x → IncIs x.0
unfolding set_at
set_is c x e =
    let a = bind_ok (name_at c) (λ key. text_at key.1 >>= λ value. Ok (Set key.0 value.0, value.1)) x e in
    let b = bind_ok (text_at a.0.1) (λ value. Ok (Set a.0.0 value.0, value.1)) x a.2 in
    subst (λ (p : KvInc × Reading). IncIs p.0) (ok_is (Set a.0.0 b.0.0, b.0.1) x b.2) (name_is c a.0 a.1, text_is a.0.1 b.0 b.1)

remove_is : (c : Reading) (x : KvInc × Reading) → remove_at c ≡ Ok x → IncIs x.0
unfolding remove_at
remove_is c x e =
    let a = bind_ok (name_at c) (λ key. Ok (Remove key.0, key.1)) x e in
    subst (λ (p : KvInc × Reading). IncIs p.0) (ok_is (Remove a.0.0, a.0.1) x a.2) (name_is c a.0 a.1)

inc_at_is : (c : Reading) (x : KvInc × Reading) → inc_at c ≡ Ok x → IncIs x.0
unfolding inc_at
inc_at_is c x e =
    let other = λ (k : ℕ × Reading). cond (eqb k.0 2) (remove_at k.1) (Err (refused.Form c.at)) in
    let a = bind_ok (fitted (number 1 c)) (λ k. cond (eqb k.0 1) (set_at k.1) (other k)) x e in
    elim (tested a.0.0 1 (set_at a.0.1) (other a.0) x a.2) [
      | inl h ↦ set_is a.0.1 x h.1
      | inr h ↦ let g = chosen_ok (eqb a.0.0 2) (refused.Form c.at) (remove_at a.0.1) x h in remove_is a.0.1 x g.1
    ]

pub kv_inc_is : (bytes : List ℕ) (inc : KvInc) → inc_of bytes ≡ Ok inc → IncIs inc
unfolding inc_of
kv_inc_is bytes inc e =
    let a = bind_ok (inc_at (record { at = 0; rest = bytes })) (λ inc. ended inc) inc e in
    let g = ended_ok a.0 inc a.2 in
    subst IncIs g.0 (inc_at_is (record { at = 0; rest = bytes }) a.0 a.1)

record EntryIs (before : List ℕ) (x : Entry × Reading) : Type 0 where
  pair : IsPair x.0
  rises : slice_cmp nat_cmp before x.0.0 ≡ Less

key_is : (before : List ℕ) (c : Reading) (x : List ℕ × Reading) → key_at before c ≡ Ok x → IsTrue (is_name x.0)
unfolding key_at
key_is before c x e =
    let a = bind_ok (name_at c) (λ key. cond (is_lt (slice_cmp nat_cmp before key.0)) (Ok key) (Err (refused.Form (c.at + 1)))) x e in
    let g = chosen_ok (is_lt (slice_cmp nat_cmp before a.0.0)) (refused.Form (c.at + 1)) (Ok a.0) x a.2 in
    subst (λ (p : List ℕ × Reading). IsTrue (is_name p.0)) (ok_is a.0 x g.1) (name_is c a.0 a.1)

entry_is : (before : List ℕ) (c : Reading) (x : Entry × Reading) → entry_at before c ≡ Ok x → EntryIs before x
unfolding entry_at
entry_is before c x e =
    let a = bind_ok (key_at before c) (λ key. text_at key.1 >>= λ value. Ok ((key.0, value.0), value.1)) x e in
    let b = bind_ok (text_at a.0.1) (λ value. Ok ((a.0.0, value.0), value.1)) x a.2 in
    subst (EntryIs before) (ok_is ((a.0.0, b.0.0), b.0.1) x b.2) (record { pair = (key_is before c a.0 a.1, text_is a.0.1 b.0 b.1); rises = key_rises before c a.0 a.1 })

record EntriesAre (before : List ℕ) (x : List Entry × Reading) : Type 0 where
  pairs : AllByRecursion IsPair x.0
  sorted : T (is_sorted (slice_cmp nat_cmp) x.0)
  above : T (below_all (slice_cmp nat_cmp) before x.0)

entries_are : (n : ℕ) (before : List ℕ) (c : Reading) (x : List Entry × Reading) → entries_at n before c ≡ Ok x → EntriesAre before x
unfolding entries_at
entries_are zero before c x e = subst (EntriesAre before) (ok_is ([], c) x e) (record { pairs = tt; sorted = tt; above = tt })
entries_are (suc n) before c x e =
    let a = bind_ok (entry_at before c) (λ first. entries_at n first.0.0 first.1 >>= λ others. Ok (first.0 ∷ others.0, others.1)) x e in
    let b = bind_ok (entries_at n a.0.0.0 a.0.1) (λ others. Ok (a.0.0 ∷ others.0, others.1)) x a.2 in
    let first = entry_is before c a.0 a.1 in
    let rest = entries_are n a.0.0.0 a.0.1 b.0 b.1 in
    subst (EntriesAre before) (ok_is (a.0.0 ∷ b.0.0, b.0.1) x b.2)
    (record {
      pairs = (first.pair, rest.pairs);
      sorted = both _ _ rest.above rest.sorted;
      above = both _ _ (subst (λ r. T (is_lt r)) (sym first.rises) tt) (below_less before a.0.0.0 b.0.0 first.rises rest.above);
    })

pub kv_map_is : (bytes : List ℕ) (m : Kv) → map_of bytes ≡ Ok m → AllByRecursion IsPair (entries m)
unfolding map_of
kv_map_is bytes m e =
    let c : Reading = record { at = 0; rest = bytes } in
    let a = bind_ok (fitted (number 4 c)) (λ count. entries_at count.0 [] count.1 >>= λ es. ended (from_sorted es.0, es.1)) m e in
    let b = bind_ok (entries_at a.0.0 [] a.0.1) (λ es. ended (from_sorted es.0, es.1)) m a.2 in
    let g = ended_ok (from_sorted b.0.0, b.0.1) m b.2 in
    let rest = entries_are a.0.0 [] a.0.1 b.0 b.1 in
    subst (λ (n : Kv). AllByRecursion IsPair (entries n)) g.0 (subst (AllByRecursion IsPair) (sym (entries-from_sorted (slice_cmp nat_cmp) b.0.0 rest.sorted)) rest.pairs)

pub inserted_is : (m : Kv) (k v : List ℕ) → IsPair (k, v) → AllByRecursion IsPair (entries m) → AllByRecursion IsPair (entries (insert m k v))
inserted_is m k v new h = subst (AllByRecursion IsPair) (sym (entries-insert nat_list_cmp_total m k v)) (each_put k v (entries m) new h)

-- ---- the cluster log's

inc_at_entry : (c : Reading) (x : LogInc × Reading) → log_decode.inc_at c ≡ Ok x → IsEntry x.0
unfolding log_decode.inc_at log_decode.rank_at
inc_at_entry c x e =
    let a = bind_ok (fitted (number 1 c) >>= λ n. cond (ltb 14 n.0) (Err (refused.Form c.at)) (Ok n)) (λ rank. text_at rank.1 >>= λ text. Ok (record { rank = rank.0; text = text.0 }, text.1)) x e in
    let n = bind_ok (fitted (number 1 c)) (λ n. cond (ltb 14 n.0) (Err (refused.Form c.at)) (Ok n)) a.0 a.1 in
    let g = guard_ok (ltb 14 n.0.0) (refused.Form c.at) (Ok n.0) a.0 n.2 in
    let low : a.0.0 ≤ 14 = subst (λ (p : ℕ × Reading). p.0 ≤ 14) (ok_is n.0 a.0 g.1) (ltb-false _ _ g.0) in
    let b = bind_ok (text_at a.0.1) (λ text. Ok (record { rank = a.0.0; text = text.0 }, text.1)) x a.2 in
    subst (λ (p : LogInc × Reading). IsEntry p.0) (ok_is (record { rank = a.0.0; text = b.0.0 }, b.0.1) x b.2) (low, text_is a.0.1 b.0 b.1)

pub log_inc_is : (bytes : List ℕ) (inc : LogInc) → log_decode.inc_of bytes ≡ Ok inc → IsEntry inc
unfolding log_decode.inc_of
log_inc_is bytes inc e =
    let a = bind_ok (log_decode.inc_at (record { at = 0; rest = bytes })) (λ read. ended read) inc e in
    let g = ended_ok a.0 inc a.2 in
    subst IsEntry g.0 (inc_at_entry (record { at = 0; rest = bytes }) a.0 a.1)

incs_are : (n : ℕ) (c : Reading) (x : List LogInc × Reading) → log_decode.entries_at n c ≡ Ok x → AllByRecursion IsEntry x.0
unfolding log_decode.entries_at
incs_are zero c x e = subst (λ (p : List LogInc × Reading). AllByRecursion IsEntry p.0) (ok_is ([], c) x e) tt
incs_are (suc n) c x e =
    let a = bind_ok (log_decode.inc_at c) (λ first. log_decode.entries_at n first.1 >>= λ others. Ok (first.0 ∷ others.0, others.1)) x e in
    let b = bind_ok (log_decode.entries_at n a.0.1) (λ others. Ok (a.0.0 ∷ others.0, others.1)) x a.2 in
    subst (λ (p : List LogInc × Reading). AllByRecursion IsEntry p.0) (ok_is (a.0.0 ∷ b.0.0, b.0.1) x b.2) (inc_at_entry c a.0 a.1, incs_are n a.0.1 b.0 b.1)

pub log_map_is : (bytes : List ℕ) (es : List LogInc) → log_decode.map_of bytes ≡ Ok es → AllByRecursion IsEntry es
unfolding log_decode.map_of
log_map_is bytes es e =
    let c : Reading = record { at = 0; rest = bytes } in
    let a = bind_ok (fitted (number 4 c)) (λ count. log_decode.entries_at count.0 count.1 >>= λ read. ended read) es e in
    let b = bind_ok (log_decode.entries_at a.0.0 a.0.1) (λ read. ended read) es a.2 in
    let g = ended_ok b.0 es b.2 in
    subst (AllByRecursion IsEntry) g.0 (incs_are a.0.0 a.0.1 b.0 b.1)
