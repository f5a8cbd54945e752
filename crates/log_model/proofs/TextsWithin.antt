-- The text of a map is no longer than the bytes that the map was read from, whatever these are.
use Rattle.std.proofs.Common.{◌≡◌, ℕ, zero, suc, ◌+◌, ◌≤◌, cond, eqb, ltb, List, [], ◌∷◌, length, take, Ok, Err, Less, nat_cmp, T, sym, ap, subst, arith, length-take, length-drop}
use Rattle.std.proofs.lemmas.Bool.{ltb-false}
use Rattle.std.specs.Cmp.Lexicographic.{slice_cmp}
use Rattle.std.specs.FinMap.{from_sorted, is_sorted, entries-from_sorted}
use Rattle.std.specs.FinMap.Entries.{below_all}
use Rattle.std.specs.Ordering.{is_lt}
use Rattle.std.specs.Str.{is_utf8}
use Rattle.mon_bytes.specs.declared.command.MapRefused.TheVariants as refused
use Rattle.mon_bytes.specs.Reading.{Reading, moved, number, next_bytes}
use Rattle.mon_bytes.specs.Texts.{is_name}
use Rattle.mon_bytes.specs.Forms.{◌>>=◌, fitted, text_at, ended}
use Rattle.mon_bytes.proofs.Fields.{guard_ok, chosen_ok, ok_is}
use Rattle.mon_bytes.proofs.Forms.{bind_ok, fitted_ok, ended_ok}
use Rattle.map_kv.specs.Decode.{name_at, key_at, entry_at, entries_at, map_of}
use Rattle.map_kv.specs.Kept.{size_of}
use Rattle.map_kv.specs.Map.{Kv}
use Rattle.map_kv.specs.Text as kv_text
use Rattle.map_kv.proofs.Lengths.{length-map_text}
use Rattle.map_kv.proofs.Loop.{key_rises}
use Rattle.map_kv.proofs.Pairs.{Entry, below_less, both}
use Rattle.map_log.specs.declared.inc.LogInc.{LogInc}
use Rattle.map_log.specs.Decode as log_decode
use Rattle.map_log.specs.Text as log_text
use Rattle.map_log.proofs.Lengths as log_lengths

-- this many bytes were read
abbrev pub Drawn : Reading → ℕ → Reading → Type 0
Drawn c n after = length c.rest ≡ n + length after.rest

front_drawn : (n : ℕ) (c : Reading) (x : List ℕ × Reading) → next_bytes n c ≡ Ok x → Drawn c (length x.0) x.1
front_drawn n c x e =
    let g = guard_ok (ltb (length c.rest) n) (record { at = c.at }) (Ok (take n c.rest, moved n c)) x e in
    let long = ltb-false _ _ g.0 in
    subst (λ (p : List ℕ × Reading). Drawn c (length p.0) p.1) (ok_is (take n c.rest, moved n c) x g.1) (omega (arith, long, length-take n c.rest, length-drop n c.rest))

pub number_drawn : (k : ℕ) (c : Reading) (x : ℕ × Reading) → number k c ≡ Ok x → Drawn c k x.1
number_drawn k c x e =
    let g = guard_ok (ltb (length c.rest) k) (record { at = c.at }) _ x e in
    let long = ltb-false _ _ g.0 in
    subst (λ (p : ℕ × Reading). Drawn c k p.1) (ok_is _ x g.1) (omega (arith, long, length-drop k c.rest))

name_drawn : (c : Reading) (x : List ℕ × Reading) → name_at c ≡ Ok x → Drawn c (1 + length x.0) x.1
unfolding name_at
name_drawn c x e =
    let a = bind_ok (fitted (number 1 c)) (λ n. cond (eqb n.0 0) (Err (refused.Form c.at)) (fitted (next_bytes n.0 n.1) >>= λ bytes. cond (is_name bytes.0) (Ok bytes) (Err (refused.Form n.1.at)))) x e in
    let n = a.0 in
    let some = guard_ok (eqb n.0 0) (refused.Form c.at) (fitted (next_bytes n.0 n.1) >>= λ bytes. cond (is_name bytes.0) (Ok bytes) (Err (refused.Form n.1.at))) x a.2 in
    let b = bind_ok (fitted (next_bytes n.0 n.1)) (λ bytes. cond (is_name bytes.0) (Ok bytes) (Err (refused.Form n.1.at))) x some.1 in
    let g = chosen_ok (is_name b.0.0) (refused.Form n.1.at) (Ok b.0) x b.2 in
    let first = number_drawn 1 c n (fitted_ok (number 1 c) n a.1) in
    let second = front_drawn n.0 n.1 b.0 (fitted_ok (next_bytes n.0 n.1) b.0 b.1) in
    subst (λ (p : List ℕ × Reading). Drawn c (1 + length p.0) p.1) (ok_is b.0 x g.1) (omega (arith, first, second))

text_drawn : (c : Reading) (x : List ℕ × Reading) → text_at c ≡ Ok x → Drawn c (4 + length x.0) x.1
unfolding text_at
text_drawn c x e =
    let a = bind_ok (fitted (number 4 c)) (λ n. fitted (next_bytes n.0 n.1) >>= λ bytes. cond (is_utf8 bytes.0) (Ok bytes) (Err (refused.Form n.1.at))) x e in
    let n = a.0 in
    let b = bind_ok (fitted (next_bytes n.0 n.1)) (λ bytes. cond (is_utf8 bytes.0) (Ok bytes) (Err (refused.Form n.1.at))) x a.2 in
    let g = chosen_ok (is_utf8 b.0.0) (refused.Form n.1.at) (Ok b.0) x b.2 in
    let first = number_drawn 4 c n (fitted_ok (number 4 c) n a.1) in
    let second = front_drawn n.0 n.1 b.0 (fitted_ok (next_bytes n.0 n.1) b.0 b.1) in
    subst (λ (p : List ℕ × Reading). Drawn c (4 + length p.0) p.1) (ok_is b.0 x g.1) (omega (arith, first, second))

key_drawn : (before : List ℕ) (c : Reading) (x : List ℕ × Reading) → key_at before c ≡ Ok x → Drawn c (1 + length x.0) x.1
unfolding key_at
key_drawn before c x e =
    let a = bind_ok (name_at c) (λ key. cond (is_lt (slice_cmp nat_cmp before key.0)) (Ok key) (Err (refused.Form (c.at + 1)))) x e in
    let g = chosen_ok (is_lt (slice_cmp nat_cmp before a.0.0)) (refused.Form (c.at + 1)) (Ok a.0) x a.2 in
    subst (λ (p : List ℕ × Reading). Drawn c (1 + length p.0) p.1) (ok_is a.0 x g.1) (name_drawn c a.0 a.1)

record DrawnEntry (before : List ℕ) (c : Reading) (x : Entry × Reading) : Type 0 where
  all : Drawn c (length x.0.0 + length x.0.1 + 5) x.1
  rises : slice_cmp nat_cmp before x.0.0 ≡ Less

entry_drawn : (before : List ℕ) (c : Reading) (x : Entry × Reading) → entry_at before c ≡ Ok x → DrawnEntry before c x
unfolding entry_at
entry_drawn before c x e =
    let a = bind_ok (key_at before c) (λ key. text_at key.1 >>= λ value. Ok ((key.0, value.0), value.1)) x e in
    let b = bind_ok (text_at a.0.1) (λ value. Ok ((a.0.0, value.0), value.1)) x a.2 in
    let first = key_drawn before c a.0 a.1 in
    let second = text_drawn a.0.1 b.0 b.1 in
    subst (DrawnEntry before c) (ok_is ((a.0.0, b.0.0), b.0.1) x b.2) (record { all = omega (arith, first, second); rises = key_rises before c a.0 a.1 })

record DrawnEntries (before : List ℕ) (c : Reading) (x : List Entry × Reading) : Type 0 where
  all : Drawn c (size_of x.0) x.1
  sorted : T (is_sorted (slice_cmp nat_cmp) x.0)
  above : T (below_all (slice_cmp nat_cmp) before x.0)

entries_drawn : (n : ℕ) (before : List ℕ) (c : Reading) (x : List Entry × Reading) → entries_at n before c ≡ Ok x → DrawnEntries before c x
unfolding entries_at
entries_drawn zero before c x e = subst (DrawnEntries before c) (ok_is ([], c) x e) (record { all = omega arith; sorted = tt; above = tt })
entries_drawn (suc n) before c x e =
    let a = bind_ok (entry_at before c) (λ first. entries_at n first.0.0 first.1 >>= λ others. Ok (first.0 ∷ others.0, others.1)) x e in
    let b = bind_ok (entries_at n a.0.0.0 a.0.1) (λ others. Ok (a.0.0 ∷ others.0, others.1)) x a.2 in
    let first = entry_drawn before c a.0 a.1 in
    let rest = entries_drawn n a.0.0.0 a.0.1 b.0 b.1 in
    subst (DrawnEntries before c) (ok_is (a.0.0 ∷ b.0.0, b.0.1) x b.2)
    (record {
      all = (let f = first.all in let r = rest.all in omega arith);
      sorted = both _ _ rest.above rest.sorted;
      above = both _ _ (subst (λ r. T (is_lt r)) (sym first.rises) tt) (below_less before a.0.0.0 b.0.0 first.rises rest.above);
    })

pub kv_within : (bytes : List ℕ) (m : Kv) → map_of bytes ≡ Ok m → length (kv_text.map_text m) ≤ length bytes
unfolding map_of
kv_within bytes m e =
    let c : Reading = record { at = 0; rest = bytes } in
    let a = bind_ok (fitted (number 4 c)) (λ count. entries_at count.0 [] count.1 >>= λ es. ended (from_sorted es.0, es.1)) m e in
    let b = bind_ok (entries_at a.0.0 [] a.0.1) (λ es. ended (from_sorted es.0, es.1)) m a.2 in
    let done = ended_ok (from_sorted b.0.0, b.0.1) m b.2 in
    let first = number_drawn 4 c a.0 (fitted_ok (number 4 c) a.0 a.1) in
    let rest = entries_drawn a.0.0 [] a.0.1 b.0 b.1 in
    let all = rest.all in
    subst (λ (n : Kv). length (kv_text.map_text n) ≤ length bytes) done.0
    (omega (arith, first, all, length-map_text (from_sorted b.0.0), ap size_of (entries-from_sorted (slice_cmp nat_cmp) b.0.0 rest.sorted)))

-- ---- the cluster log's

rank_drawn : (c : Reading) (x : ℕ × Reading) → log_decode.rank_at c ≡ Ok x → Drawn c 1 x.1
unfolding log_decode.rank_at
rank_drawn c x e =
    let a = bind_ok (fitted (number 1 c)) (λ n. cond (ltb 14 n.0) (Err (refused.Form c.at)) (Ok n)) x e in
    let g = guard_ok (ltb 14 a.0.0) (refused.Form c.at) (Ok a.0) x a.2 in
    subst (λ (p : ℕ × Reading). Drawn c 1 p.1) (ok_is a.0 x g.1) (number_drawn 1 c a.0 (fitted_ok (number 1 c) a.0 a.1))

inc_drawn : (c : Reading) (x : LogInc × Reading) → log_decode.inc_at c ≡ Ok x → Drawn c (length x.0.text + 5) x.1
unfolding log_decode.inc_at
inc_drawn c x e =
    let a = bind_ok (log_decode.rank_at c) (λ rank. text_at rank.1 >>= λ text. Ok (record { rank = rank.0; text = text.0 }, text.1)) x e in
    let b = bind_ok (text_at a.0.1) (λ text. Ok (record { rank = a.0.0; text = text.0 }, text.1)) x a.2 in
    let first = rank_drawn c a.0 a.1 in
    let second = text_drawn a.0.1 b.0 b.1 in
    subst (λ (p : LogInc × Reading). Drawn c (length p.0.text + 5) p.1) (ok_is (record { rank = a.0.0; text = b.0.0 }, b.0.1) x b.2) (omega (arith, first, second))

incs_drawn : (n : ℕ) (c : Reading) (x : List LogInc × Reading) → log_decode.entries_at n c ≡ Ok x → Drawn c (log_text.size_of x.0) x.1
unfolding log_decode.entries_at
incs_drawn zero c x e = subst (λ (p : List LogInc × Reading). Drawn c (log_text.size_of p.0) p.1) (ok_is ([], c) x e) (omega arith)
incs_drawn (suc n) c x e =
    let a = bind_ok (log_decode.inc_at c) (λ first. log_decode.entries_at n first.1 >>= λ others. Ok (first.0 ∷ others.0, others.1)) x e in
    let b = bind_ok (log_decode.entries_at n a.0.1) (λ others. Ok (a.0.0 ∷ others.0, others.1)) x a.2 in
    let first = inc_drawn c a.0 a.1 in
    let rest = incs_drawn n a.0.1 b.0 b.1 in
    subst (λ (p : List LogInc × Reading). Drawn c (log_text.size_of p.0) p.1) (ok_is (a.0.0 ∷ b.0.0, b.0.1) x b.2) (omega (arith, first, rest))

pub log_within : (bytes : List ℕ) (es : List LogInc) → log_decode.map_of bytes ≡ Ok es → length (log_text.map_text es) ≤ length bytes
unfolding log_decode.map_of
log_within bytes es e =
    let c : Reading = record { at = 0; rest = bytes } in
    let a = bind_ok (fitted (number 4 c)) (λ count. log_decode.entries_at count.0 count.1 >>= λ read. ended read) es e in
    let b = bind_ok (log_decode.entries_at a.0.0 a.0.1) (λ read. ended read) es a.2 in
    let done = ended_ok b.0 es b.2 in
    let first = number_drawn 4 c a.0 (fitted_ok (number 4 c) a.0 a.1) in
    let rest = incs_drawn a.0.0 a.0.1 b.0 b.1 in
    subst (λ (read : List LogInc). length (log_text.map_text read) ≤ length bytes) done.0 (omega (arith, first, rest, log_lengths.length-map_text b.0.0))
