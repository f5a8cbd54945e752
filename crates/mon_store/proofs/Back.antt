-- What is decoded is encoded so.
use Rattle.std.proofs.Common.{◌≡◌, ℕ, ◌+◌, ◌<◌, ◌^◌, cond, eqb, ltb, ◌||◌, List, [], ◌∷◌, ◌++◌, length, Ok, Err, Less, nat_cmp, IsTrue, T, refl, sym, ap, subst, ◌∙◌, arith}
use Rattle.std.specs.Cmp.Lexicographic.{slice_cmp}
use Rattle.std.specs.List.{flat_map, AllByRecursion}
use Rattle.std.specs.Ordering.{is_lt}
use Rattle.std.specs.FinMap.{entries, len, from_sorted, is_sorted, entries-from_sorted, len-entries}
use Rattle.std.proofs.lemmas.Bool.{eqb-true}
use Rattle.mon_bytes.specs.declared.command.MapRefused.TheVariants.{Form}
use Rattle.mon_bytes.specs.Reading.{IsBytes, Reading, number, next_bytes}
use Rattle.mon_bytes.specs.Texts.{is_word}
use Rattle.mon_bytes.specs.Forms.{◌>>=◌, fitted, u32_bytes, ended}
use Rattle.mon_bytes.proofs.Fields.{guard_ok, chosen_ok, ok_is, Takes, Takes-then, Takes-whole, front_takes, byte_takes}
use Rattle.mon_bytes.proofs.Forms.{bind_ok, fitted_ok, u32_takes, counted, ended_ok}
use Rattle.mon_bytes.proofs.Ordered.{less, TakesEntry, entries_takes}
use Rattle.mon_tx.specs.Map.{Place, place_cmp, Store}
use Rattle.mon_tx.specs.Text.{word}
use Rattle.mon_store.specs.Checkpoint.{Entry, entry_text, value_text, checkpoint_text, EntryFits, HasCheckpoint}
use Rattle.mon_store.specs.Decode.{word_at, value_at, prefix_at, key_at, entry_at, entries_at, map_at, checkpoint_of}
use Rattle.mon_store.proofs.Again.{entries_in_order}

-- a word that was taken
abbrev TakesWord : ℕ → Reading → List ℕ × Reading → Type 0
TakesWord most c x = Takes c (word x.0) x.1 × IsTrue (is_word most x.0)

word_takes : (most : ℕ) (c : Reading) (x : List ℕ × Reading) → IsBytes c.rest → word_at most c ≡ Ok x → TakesWord most c x
unfolding word_at
word_takes most c x fits e =
    let a = bind_ok (fitted (number 1 c)) (λ n. cond (eqb n.0 0 || ltb most n.0) (Err (Form c.at)) (fitted (next_bytes n.0 n.1) >>= λ bytes. cond (is_word most bytes.0) (Ok bytes) (Err (Form n.1.at)))) x e in
    let n = a.0 in
    let some = guard_ok (eqb n.0 0 || ltb most n.0) (Form c.at) (fitted (next_bytes n.0 n.1) >>= λ bytes. cond (is_word most bytes.0) (Ok bytes) (Err (Form n.1.at))) x a.2 in
    let b = bind_ok (fitted (next_bytes n.0 n.1)) (λ bytes. cond (is_word most bytes.0) (Ok bytes) (Err (Form n.1.at))) x some.1 in
    let g = chosen_ok (is_word most b.0.0) (Form n.1.at) (Ok b.0) x b.2 in
    let t0 = byte_takes c n fits (fitted_ok (number 1 c) n a.1) in
    let t1 = front_takes n.0 n.1 b.0 t0.0.bytes (fitted_ok (next_bytes n.0 n.1) b.0 b.1) in
    let all = Takes-then c n.1 b.0.1 (n.0 ∷ []) b.0.0 t0.0 t1.0 in
    subst (TakesWord most c) (ok_is b.0 x g.1) (subst (λ (k : ℕ). Takes c (k ∷ b.0.0) b.0.1) (sym t1.1) all, g.0)

value_takes : (c : Reading) (x : List ℕ × Reading) → IsBytes c.rest → value_at c ≡ Ok x → Takes c (value_text x.0) x.1 × (length x.0 < 2 ^ 32)
unfolding value_at
value_takes c x fits e =
    let a = bind_ok (fitted (number 4 c)) (λ n. fitted (next_bytes n.0 n.1)) x e in
    let n = a.0 in
    let t0 = u32_takes c n fits (fitted_ok (number 4 c) n a.1) in
    let t1 = front_takes n.0 n.1 x t0.0.bytes (fitted_ok (next_bytes n.0 n.1) x a.2) in
    let all = Takes-then c n.1 x.1 (u32_bytes n.0) x.0 t0.0 t1.0 in
    (subst (λ (k : ℕ). Takes c (u32_bytes k ++ x.0) x.1) (sym t1.1) all, omega (arith, t0.1, t1.1))

prefix_takes : (before : List ℕ) (c : Reading) (x : List ℕ × Reading) → IsBytes c.rest → prefix_at before c ≡ Ok x → TakesWord 32 c x
unfolding prefix_at
prefix_takes before c x fits e =
    let a = bind_ok (word_at 32 c) (λ prefix. cond (is_lt (slice_cmp nat_cmp prefix.0 before)) (Err (Form (c.at + 1))) (Ok prefix)) x e in
    let g = guard_ok (is_lt (slice_cmp nat_cmp a.0.0 before)) (Form (c.at + 1)) (Ok a.0) x a.2 in
    subst (TakesWord 32 c) (ok_is a.0 x g.1) (word_takes 32 c a.0 fits a.1)

key_takes : (before : Place) (prefix : List ℕ) (c : Reading) (x : List ℕ × Reading) → IsBytes c.rest → key_at before prefix c ≡ Ok x → TakesWord 255 c x × (place_cmp before (prefix, x.0) ≡ Less)
unfolding key_at
key_takes before prefix c x fits e =
    let a = bind_ok (word_at 255 c) (λ key. cond (is_lt (place_cmp before (prefix, key.0))) (Ok key) (Err (Form (c.at + 1)))) x e in
    let g = chosen_ok (is_lt (place_cmp before (prefix, a.0.0))) (Form (c.at + 1)) (Ok a.0) x a.2 in
    subst (λ (p : List ℕ × Reading). TakesWord 255 c p × (place_cmp before (prefix, p.0) ≡ Less)) (ok_is a.0 x g.1)
    (word_takes 255 c a.0 fits a.1, less (place_cmp before (prefix, a.0.0)) (subst (λ b. T b) (sym g.0) tt))

entry_takes : (before : Place) (c : Reading) (x : Entry × Reading) → IsBytes c.rest → entry_at before c ≡ Ok x → TakesEntry entries_in_order before c x
unfolding entry_at
entry_takes before c x fits e =
    let a = bind_ok (prefix_at before.0 c) (λ prefix. key_at before prefix.0 prefix.1 >>= λ key. value_at key.1 >>= λ value. Ok (((prefix.0, key.0), value.0), value.1)) x e in
    let b = bind_ok (key_at before a.0.0 a.0.1) (λ key. value_at key.1 >>= λ value. Ok (((a.0.0, key.0), value.0), value.1)) x a.2 in
    let d = bind_ok (value_at b.0.1) (λ value. Ok (((a.0.0, b.0.0), value.0), value.1)) x b.2 in
    let t0 = prefix_takes before.0 c a.0 fits a.1 in
    let t1 = key_takes before a.0.0 a.0.1 b.0 t0.0.bytes b.1 in
    let t2 = value_takes b.0.1 d.0 t1.0.0.bytes d.1 in
    subst (TakesEntry entries_in_order before c) (ok_is (((a.0.0, b.0.0), d.0.0), d.0.1) x d.2)
    (record {
      all = Takes-then c b.0.1 d.0.1 (word a.0.0 ++ word b.0.0) (value_text d.0.0) (Takes-then c a.0.1 b.0.1 (word a.0.0) (word b.0.0) t0.0 t1.0.0) t2.0;
      form = (t0.1, t1.0.1, t2.1);
      rises = t1.1;
    })

-- the map of entries in order has these entries
map_of_entries : (es : List Entry) → T (is_sorted place_cmp es) → AllByRecursion EntryFits es → length es < 2 ^ 32 → HasCheckpoint (from_sorted es) × (checkpoint_text (from_sorted es) ≡ 128 ∷ (u32_bytes (length es) ++ flat_map entry_text es))
map_of_entries es sorted each few =
    let same : entries (from_sorted {R = place_cmp} es) ≡ es = entries-from_sorted place_cmp es sorted in
    let count : len (from_sorted {R = place_cmp} es) ≡ length es = len-entries (from_sorted es) ∙ ap length same in
    (record { each = subst (AllByRecursion EntryFits) (sym same) each; count = omega (arith, count, few) }, rw (same, count) refl)

record TakesMap (c : Reading) (x : Store × Reading) : Type 0 where
  all : Takes c (checkpoint_text x.0) x.1
  form : HasCheckpoint x.0

map_takes : (c : Reading) (x : Store × Reading) → IsBytes c.rest → map_at c ≡ Ok x → TakesMap c x
unfolding map_at
map_takes c x fits e =
    let a = bind_ok (fitted (number 1 c)) (λ kind. cond (eqb kind.0 128) (fitted (number 4 kind.1) >>= λ count. entries_at count.0 ([], []) count.1 >>= λ es. Ok (from_sorted es.0, es.1)) (Err (Form c.at))) x e in
    let kind = a.0 in
    let g = chosen_ok (eqb kind.0 128) (Form c.at) (fitted (number 4 kind.1) >>= λ count. entries_at count.0 ([], []) count.1 >>= λ es. Ok (from_sorted es.0, es.1)) x a.2 in
    let b = bind_ok (fitted (number 4 kind.1)) (λ count. entries_at count.0 ([], []) count.1 >>= λ es. Ok (from_sorted es.0, es.1)) x g.1 in
    let d = bind_ok (entries_at b.0.0 ([], []) b.0.1) (λ es. Ok (from_sorted es.0, es.1)) x b.2 in
    let t0 = byte_takes c kind fits (fitted_ok (number 1 c) kind a.1) in
    let t1 = u32_takes kind.1 b.0 t0.0.bytes (fitted_ok (number 4 kind.1) b.0 b.1) in
    let t2 = entries_takes entries_in_order entry_takes b.0.0 ([], []) b.0.1 d.0 t1.0.bytes d.1 in
    let entries = counted kind.1 b.0 d.0.1 (length d.0.0) (flat_map entry_text d.0.0) t1 t2.count t2.all in
    let m = map_of_entries d.0.0 t2.sorted t2.each entries.1 in
    let first : Takes c (128 ∷ []) kind.1 = subst (λ (n : ℕ). Takes c (n ∷ []) kind.1) (eqb-true kind.0 128 g.0) t0.0 in
    let whole = Takes-then c kind.1 d.0.1 (128 ∷ []) (u32_bytes (length d.0.0) ++ flat_map entry_text d.0.0) first entries.0 in
    subst (TakesMap c) (ok_is (from_sorted d.0.0, d.0.1) x d.2) (record { all = subst (λ (t : List ℕ). Takes c t d.0.1) (sym m.1) whole; form = m.0 })

pub checkpoint_takes : (c : Reading) (m : Store) → IsBytes c.rest → checkpoint_of c ≡ Ok m → HasCheckpoint m × (c.rest ≡ checkpoint_text m)
unfolding checkpoint_of
checkpoint_takes c m fits e =
    let a = bind_ok (map_at c) (λ x. ended x) m e in
    let done = ended_ok a.0 m a.2 in
    let t = map_takes c a.0 fits a.1 in
    subst (λ (n : Store). HasCheckpoint n × (c.rest ≡ checkpoint_text n)) done.0 (t.form, Takes-whole c a.0.1 (checkpoint_text a.0.0) t.all done.1)
