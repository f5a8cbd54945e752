-- Decoding accepts exactly the encodings, and the formats are lawful.
use Rattle.std.proofs.Common.{◌≡◌, ℕ, ◌+◌, ◌<◌, ◌^◌, cond, eqb, List, [], ◌∷◌, ◌++◌, length, Result, Ok, Err, nat_cmp, IsTrue, T, refl, sym, ap, subst, ◌∙◌, arith, inl, inr}
use Rattle.std.specs.Prelude.{IfOk}
use Rattle.std.specs.Cmp.Lexicographic.{slice_cmp}
use Rattle.std.specs.List.{flat_map, AllByRecursion}
use Rattle.std.specs.Ordering.{is_lt}
use Rattle.std.specs.FinMap.{entries, len, from_sorted, is_sorted, entries-from_sorted, len-entries}
use Rattle.mon_bytes.specs.declared.command.MapRefused.{MapRefused}
use Rattle.mon_bytes.specs.declared.command.MapRefused.TheVariants as refused
use Rattle.mon_bytes.specs.Reading.{IsBytes, Reading, number, next_bytes}
use Rattle.mon_bytes.specs.Format.{IsLawful}
use Rattle.mon_bytes.specs.Texts.{is_name}
use Rattle.mon_bytes.specs.Forms.{◌>>=◌, fitted, u32_bytes, text_bytes, text_at, ended, whole, Gives}
use Rattle.mon_bytes.proofs.Fields.{guard_ok, chosen_ok, ok_is, Takes, Takes-then, front_takes, byte_takes}
use Rattle.mon_bytes.proofs.Formats.{bind_bind, tested}
use Rattle.mon_bytes.proofs.Forms.{bind_ok, fitted_ok, u32_takes, counted, text_takes, is_found}
use Rattle.mon_bytes.proofs.Ordered.{TakesEntry, entries_takes}
use Rattle.map_kv.specs.Map.{Kv}
use Rattle.map_kv.specs.Text.{key_text, entry_text, inc_text, map_text, EntryFits, IncFits, MapFits}
use Rattle.map_kv.specs.Decode.{name_at, set_at, remove_at, inc_at, inc_of, key_at, entry_at, entries_at, map_of, inc_format, map_format}
use Rattle.map_kv.specs.declared.inc.KvInc.{KvInc}
use Rattle.map_kv.specs.declared.inc.KvInc.TheVariants.{Set, Remove}
use Rattle.map_kv.proofs.Found.{inc_found, map_found, entries_in_order}
use Rattle.map_kv.proofs.Pairs.{Entry}
use Rattle.map_kv.proofs.Loop.{key_rises}

name_takes : (c : Reading) (x : List ℕ × Reading) → IsBytes c.rest → name_at c ≡ Ok x → Takes c (key_text x.0) x.1 × IsTrue (is_name x.0)
unfolding name_at
name_takes c x fits e =
    let a = bind_ok (fitted (number 1 c)) (λ n. cond (eqb n.0 0) (Err (refused.Form c.at)) (fitted (next_bytes n.0 n.1) >>= λ bytes. cond (is_name bytes.0) (Ok bytes) (Err (refused.Form n.1.at)))) x e in
    let n = a.0 in
    let some = guard_ok (eqb n.0 0) (refused.Form c.at) (fitted (next_bytes n.0 n.1) >>= λ bytes. cond (is_name bytes.0) (Ok bytes) (Err (refused.Form n.1.at))) x a.2 in
    let b = bind_ok (fitted (next_bytes n.0 n.1)) (λ bytes. cond (is_name bytes.0) (Ok bytes) (Err (refused.Form n.1.at))) x some.1 in
    let g = chosen_ok (is_name b.0.0) (refused.Form n.1.at) (Ok b.0) x b.2 in
    let t0 = byte_takes c n fits (fitted_ok (number 1 c) n a.1) in
    let t1 = front_takes n.0 n.1 b.0 t0.0.bytes (fitted_ok (next_bytes n.0 n.1) b.0 b.1) in
    let all = Takes-then c n.1 b.0.1 (n.0 ∷ []) b.0.0 t0.0 t1.0 in
    subst (λ (p : List ℕ × Reading). Takes c (key_text p.0) p.1 × IsTrue (is_name p.0)) (ok_is b.0 x g.1)
    (subst (λ (k : ℕ). Takes c (k ∷ b.0.0) b.0.1) (sym t1.1) all, g.0)

key_takes : (before : List ℕ) (c : Reading) (x : List ℕ × Reading) → IsBytes c.rest → key_at before c ≡ Ok x → Takes c (key_text x.0) x.1 × IsTrue (is_name x.0)
unfolding key_at
key_takes before c x fits e =
    let a = bind_ok (name_at c) (λ key. cond (is_lt (slice_cmp nat_cmp before key.0)) (Ok key) (Err (refused.Form (c.at + 1)))) x e in
    let g = chosen_ok (is_lt (slice_cmp nat_cmp before a.0.0)) (refused.Form (c.at + 1)) (Ok a.0) x a.2 in
    subst (λ (p : List ℕ × Reading). Takes c (key_text p.0) p.1 × IsTrue (is_name p.0)) (ok_is a.0 x g.1) (name_takes c a.0 fits a.1)

-- what follows a kind, if the kind was taken before
abbrev TakesInc : Reading → List ℕ → KvInc × Reading → Type 0
TakesInc c kind x = (first : Reading) → Takes first kind c → Takes first (inc_text x.0) x.1 × IncFits x.0

set_takes : (c : Reading) (x : KvInc × Reading) → IsBytes c.rest → set_at c ≡ Ok x → TakesInc c (1 ∷ []) x
unfolding set_at
set_takes c x fits e =
    let a = bind_ok (name_at c) (λ key. text_at key.1 >>= λ value. Ok (Set key.0 value.0, value.1)) x e in
    let b = bind_ok (text_at a.0.1) (λ value. Ok (Set a.0.0 value.0, value.1)) x a.2 in
    let t0 = name_takes c a.0 fits a.1 in
    let t1 = text_takes a.0.1 b.0 t0.0.bytes b.1 in
    subst (TakesInc c (1 ∷ [])) (ok_is (Set a.0.0 b.0.0, b.0.1) x b.2)
    (λ first kind. (Takes-then first c b.0.1 (1 ∷ []) (key_text a.0.0 ++ text_bytes b.0.0) kind (Takes-then c a.0.1 b.0.1 (key_text a.0.0) (text_bytes b.0.0) t0.0 t1.0), (t0.1, t1.1, t1.2)))

remove_takes : (c : Reading) (x : KvInc × Reading) → IsBytes c.rest → remove_at c ≡ Ok x → TakesInc c (2 ∷ []) x
unfolding remove_at
remove_takes c x fits e =
    let a = bind_ok (name_at c) (λ key. Ok (Remove key.0, key.1)) x e in
    let t0 = name_takes c a.0 fits a.1 in
    subst (TakesInc c (2 ∷ [])) (ok_is (Remove a.0.0, a.0.1) x a.2) (λ first kind. (Takes-then first c a.0.1 (2 ∷ []) (key_text a.0.0) kind t0.0, t0.1))

inc_takes : (c : Reading) (x : KvInc × Reading) → IsBytes c.rest → inc_at c ≡ Ok x → Takes c (inc_text x.0) x.1 × IncFits x.0
unfolding inc_at
inc_takes c x fits e =
    let a = bind_ok (fitted (number 1 c)) (λ kind. cond (eqb kind.0 1) (set_at kind.1) (cond (eqb kind.0 2) (remove_at kind.1) (Err (refused.Form c.at)))) x e in
    let kind = a.0 in
    let t0 = byte_takes c kind fits (fitted_ok (number 1 c) kind a.1) in
    elim (tested kind.0 1 (set_at kind.1) (cond (eqb kind.0 2) (remove_at kind.1) (Err (refused.Form c.at))) x a.2) [
      | inl h ↦ set_takes kind.1 x t0.0.bytes h.1 c (subst (λ (n : ℕ). Takes c (n ∷ []) kind.1) h.0 t0.0)
      | inr h ↦ elim (tested kind.0 2 (remove_at kind.1) (Err (refused.Form c.at)) x h) [
        | inl i ↦ remove_takes kind.1 x t0.0.bytes i.1 c (subst (λ (n : ℕ). Takes c (n ∷ []) kind.1) i.0 t0.0)
        | inr i ↦ absurd cc
      ]
    ]

pub inc_is_lawful : IsLawful inc_format
inc_is_lawful = record { takes = inc_takes; found = inc_found }

pub inc_is_whole : (bytes : List ℕ) → inc_of bytes ≡ whole inc_format bytes
unfolding inc_of whole
inc_is_whole bytes = refl

-- ---- the entries of a map

entry_takes : (before : List ℕ) (c : Reading) (x : Entry × Reading) → IsBytes c.rest → entry_at before c ≡ Ok x → TakesEntry entries_in_order before c x
unfolding entry_at
entry_takes before c x fits e =
    let a = bind_ok (key_at before c) (λ key. text_at key.1 >>= λ value. Ok ((key.0, value.0), value.1)) x e in
    let b = bind_ok (text_at a.0.1) (λ value. Ok ((a.0.0, value.0), value.1)) x a.2 in
    let t0 = key_takes before c a.0 fits a.1 in
    let t1 = text_takes a.0.1 b.0 t0.0.bytes b.1 in
    subst (TakesEntry entries_in_order before c) (ok_is ((a.0.0, b.0.0), b.0.1) x b.2)
    (record { all = Takes-then c a.0.1 b.0.1 (key_text a.0.0) (text_bytes b.0.0) t0.0 t1.0; form = (t0.1, t1.1, t1.2); rises = key_rises before c a.0 a.1 })

-- the map of entries in order has these entries
map_of_entries : (es : List Entry) → T (is_sorted (slice_cmp nat_cmp) es) → AllByRecursion EntryFits es → length es < 2 ^ 32 → MapFits (from_sorted es) × (map_text (from_sorted es) ≡ u32_bytes (length es) ++ flat_map entry_text es)
map_of_entries es sorted each few =
    let same : entries (from_sorted {R = slice_cmp nat_cmp} es) ≡ es = entries-from_sorted (slice_cmp nat_cmp) es sorted in
    let count : len (from_sorted {R = slice_cmp nat_cmp} es) ≡ length es = len-entries (from_sorted es) ∙ ap length same in
    (record { each = subst (AllByRecursion EntryFits) (sym same) each; count = omega (arith, count, few) }, rw (same, count) refl)

map_takes : (c : Reading) (x : Kv × Reading) → IsBytes c.rest → map_format.read c ≡ Ok x → Takes c (map_text x.0) x.1 × MapFits x.0
map_takes c x fits e =
    let a = bind_ok (fitted (number 4 c)) (λ count. entries_at count.0 [] count.1 >>= λ es. Ok (from_sorted es.0, es.1)) x e in
    let b = bind_ok (entries_at a.0.0 [] a.0.1) (λ es. Ok (from_sorted es.0, es.1)) x a.2 in
    let t0 = u32_takes c a.0 fits (fitted_ok (number 4 c) a.0 a.1) in
    let t1 = entries_takes entries_in_order entry_takes a.0.0 [] a.0.1 b.0 t0.0.bytes b.1 in
    let all = counted c a.0 b.0.1 (length b.0.0) (flat_map entry_text b.0.0) t0 t1.count t1.all in
    let form = map_of_entries b.0.0 t1.sorted t1.each all.1 in
    subst (λ (p : Kv × Reading). Takes c (map_text p.0) p.1 × MapFits p.0) (ok_is (from_sorted b.0.0, b.0.1) x b.2)
    (subst (λ (bytes : List ℕ). Takes c bytes b.0.1) (sym form.1) all.0, form.0)

pub map_is_lawful : IsLawful map_format
map_is_lawful = record { takes = map_takes; found = map_found }

then_ended : (r : Result (ℕ × Reading) MapRefused) (f : ℕ × Reading → Result (List Entry × Reading) MapRefused) (whole_map : List Entry → Kv)
    → ((r >>= λ count. f count >>= λ es. Ok (whole_map es.0, es.1)) >>= λ x. ended x) ≡ (r >>= λ count. f count >>= λ es. ended (whole_map es.0, es.1))
then_ended (Ok count) f whole_map = bind_bind (f count) (λ es. Ok (whole_map es.0, es.1)) (λ x. ended x)
then_ended (Err e) f whole_map = refl

pub map_is_whole : (bytes : List ℕ) → map_of bytes ≡ whole map_format bytes
unfolding map_of whole
map_is_whole bytes = sym (then_ended (fitted (number 4 (record { at = 0; rest = bytes }))) (λ count. entries_at count.0 [] count.1) from_sorted)

pub map_is_found : (bytes : List ℕ) (r : Result Kv MapRefused) → IsBytes bytes → Gives (λ x. x) r (map_of bytes) → IfOk r (λ map. MapFits map × (bytes ≡ map_text map))
map_is_found bytes r fits h = is_found map_format map_is_lawful bytes r fits (subst (Gives (λ x. x) r) (map_is_whole bytes) h)
