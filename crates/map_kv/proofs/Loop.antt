-- Reading entries one after the other, as a loop does.
use Rattle.std.proofs.Common.{◌≡◌, ℕ, suc, ◌-◌, ◌+◌, ◌≤◌, ◌<◌, List, [], ◌∷◌, ◌++◌, Result, Ok, Err, Less, nat_cmp, cond, T, refl, sym, ap, subst, ◌∙◌, append_assoc, arith}
use Rattle.std.specs.Cmp.Lexicographic.{slice_cmp, nat_list_cmp_total}
use Rattle.std.proofs.lemmas.List.{append-nil, nil_from_length}
use Rattle.std.specs.List.{AllByRecursion}
use Rattle.std.specs.Ordering.{is_lt}
use Rattle.std.specs.FinMap.{entries, insert, empty, len-entries, len-empty, entries-insert}
use Rattle.mon_bytes.specs.Reading.{Reading}
use Rattle.mon_bytes.specs.declared.command.MapRefused.{MapRefused}
use Rattle.mon_bytes.specs.declared.command.MapRefused.TheVariants as refused
use Rattle.mon_bytes.specs.Forms.{◌>>=◌, Fails, text_at}
use Rattle.mon_bytes.proofs.Fields.{chosen_ok, ok_is}
use Rattle.mon_bytes.proofs.Forms.{bind_ok}
use Rattle.map_kv.specs.Map.{Kv}
use Rattle.map_kv.specs.Decode.{name_at, key_at, entry_at, entries_at}
use Rattle.map_kv.proofs.Pairs.{Entry, less, put_above}

-- what was read before, and what is still read
abbrev pub with_front : List Entry → Result (List Entry × Reading) MapRefused → Result (List Entry × Reading) MapRefused
with_front front read = read >>= λ x. Ok (front ++ x.0, x.1)

entries-none : (m : Kv) → m ≡ empty → entries m ≡ []
entries-none m none = ap entries none ∙ nil_from_length (entries empty) (sym (len-entries empty) ∙ len-empty (slice_cmp nat_cmp) (List ℕ))

pub begins : (m : Kv) (count : ℕ) (c : Reading) → m ≡ empty → with_front (entries m) (entries_at (count - 0) [] c) ≡ entries_at count [] c
begins m count c none = let all : count - 0 ≡ count = omega arith in rw (all, entries-none m none) (same (entries_at count [] c))
  where
    same : (read : Result (List Entry × Reading) MapRefused) → with_front [] read ≡ read
    same (Ok x) = refl
    same (Err e) = refl

regroup : (front : List Entry) (e : Entry) (read : Result (List Entry × Reading) MapRefused) → with_front front (read >>= λ x. Ok (e ∷ x.0, x.1)) ≡ with_front (front ++ e ∷ []) read
regroup front e (Ok x) = ap (λ (es : List Entry). Ok (es, x.1)) (simp append_assoc)
regroup front e (Err f) = refl

one_more : (count i : ℕ) (before : List ℕ) (c : Reading) → i < count
    → entries_at (count - i) before c ≡ (entry_at before c >>= λ first. entries_at (count - (i + 1)) first.0.0 first.1 >>= λ others. Ok (first.0 ∷ others.0, others.1))
unfolding entries_at
one_more count i before c lt = let k : count - i ≡ suc (count - (i + 1)) = omega arith in rw k refl

entry_is : (before key value : List ℕ) (c d after : Reading) → key_at before c ≡ Ok (key, d) → text_at d ≡ Ok (value, after) → entry_at before c ≡ Ok ((key, value), after)
unfolding entry_at
entry_is before key value c d after h g = rw (h, g) refl

pub goes_on : (front : List Entry) (count i : ℕ) (before key value : List ℕ) (c d after : Reading) (total : Result (List Entry × Reading) MapRefused) → i < count → key_at before c ≡ Ok (key, d) → text_at d ≡ Ok (value, after)
    → with_front front (entries_at (count - i) before c) ≡ total → with_front (front ++ (key, value) ∷ []) (entries_at (count - (i + 1)) key after) ≡ total
goes_on front count i before key value c d after total lt h g so_far =
    let one : with_front front (entries_at (count - i) before c) ≡ with_front (front ++ (key, value) ∷ []) (entries_at (count - (i + 1)) key after) =
    rw (one_more count i before c lt, entry_is before key value c d after h g) (regroup front (key, value) (entries_at (count - (i + 1)) key after)) in
    sym one ∙ so_far

stopped : (front : List Entry) (count i : ℕ) (before : List ℕ) (c : Reading) (total : Result (List Entry × Reading) MapRefused) (e : MapRefused) → i < count → entry_at before c ≡ Err e
    → with_front front (entries_at (count - i) before c) ≡ total → total ≡ Err e
stopped front count i before c total e lt h so_far =
    let one : with_front front (entries_at (count - i) before c) ≡ Err e = rw (one_more count i before c lt, h) refl in sym so_far ∙ one

no_key : (e : MapRefused) (before : List ℕ) (c : Reading) → key_at before c ≡ Err e → entry_at before c ≡ Err e
unfolding entry_at
no_key e before c h = rw h refl

no_value : (e : MapRefused) (before key : List ℕ) (c d : Reading) → key_at before c ≡ Ok (key, d) → text_at d ≡ Err e → entry_at before c ≡ Err e
unfolding entry_at
no_value e before key c d h g = rw (h, g) refl

pub ends_at_key : (e : MapRefused) (front : List Entry) (count i : ℕ) (before : List ℕ) (c : Reading) (total : Result (List Entry × Reading) MapRefused) → i < count → Fails e (key_at before c)
    → with_front front (entries_at (count - i) before c) ≡ total → Fails e total
ends_at_key refused.OutOfMemory front count i before c total lt h so_far = tt
ends_at_key (refused.Form at) front count i before c total lt h so_far = stopped front count i before c total (refused.Form at) lt (no_key (refused.Form at) before c h) so_far

pub ends_at_value : (e : MapRefused) (front : List Entry) (count i : ℕ) (before key : List ℕ) (c d : Reading) (total : Result (List Entry × Reading) MapRefused) → i < count → key_at before c ≡ Ok (key, d) → Fails e (text_at d)
    → with_front front (entries_at (count - i) before c) ≡ total → Fails e total
ends_at_value refused.OutOfMemory front count i before key c d total lt h g so_far = tt
ends_at_value (refused.Form at) front count i before key c d total lt h g so_far =
    stopped front count i before c total (refused.Form at) lt (no_value (refused.Form at) before key c d h g) so_far

pub is_done : (front : List Entry) (count i : ℕ) (before : List ℕ) (c : Reading) (total : Result (List Entry × Reading) MapRefused) → count ≤ i → with_front front (entries_at (count - i) before c) ≡ total → total ≡ Ok (front, c)
unfolding entries_at
is_done front count i before c total le so_far =
    let none : count - i ≡ 0 = omega arith in
    let last : with_front front (entries_at (count - i) before c) ≡ Ok (front, c) = rw none (ap (λ (es : List Entry). Ok (es, c)) (append-nil front)) in
    sym so_far ∙ last

-- what is above the last key is above each key
abbrev pub IsAbove : List ℕ → List Entry → Type 0
IsAbove last es = (x : List ℕ) → slice_cmp nat_cmp last x ≡ Less → AllByRecursion (λ e. slice_cmp nat_cmp e.0 x ≡ Less) es

pub above_none : (m : Kv) (last : List ℕ) → m ≡ empty → IsAbove last (entries m)
above_none m last none = λ x lt. rw (entries-none m none) tt

pub key_rises : (before : List ℕ) (c : Reading) (x : List ℕ × Reading) → key_at before c ≡ Ok x → slice_cmp nat_cmp before x.0 ≡ Less
unfolding key_at
key_rises before c x e =
    let a = bind_ok (name_at c) (λ key. cond (is_lt (slice_cmp nat_cmp before key.0)) (Ok key) (Err (refused.Form (c.at + 1)))) x e in
    let g = chosen_ok (is_lt (slice_cmp nat_cmp before a.0.0)) (refused.Form (c.at + 1)) (Ok a.0) x a.2 in
    subst (λ (p : List ℕ × Reading). slice_cmp nat_cmp before p.0 ≡ Less) (ok_is a.0 x g.1) (less _ (subst T (sym g.0) tt))

append_above : (x key value : List ℕ) (es : List Entry) → slice_cmp nat_cmp key x ≡ Less → AllByRecursion (λ e. slice_cmp nat_cmp e.0 x ≡ Less) es → AllByRecursion (λ e. slice_cmp nat_cmp e.0 x ≡ Less) (es ++ (key, value) ∷ [])
append_above x key value [] h all = (h, tt)
append_above x key value (e ∷ es) h all = (all.0, append_above x key value es h all.1)

pub stays_above : (before key value : List ℕ) (es : List Entry) → slice_cmp nat_cmp before key ≡ Less → IsAbove before es → IsAbove key (es ++ (key, value) ∷ [])
stays_above before key value es h above = λ x lt. append_above x key value es lt (above x (nat_list_cmp_total.trans before key x h lt))

pub entries_after : (m : Kv) (before key value : List ℕ) → slice_cmp nat_cmp before key ≡ Less → IsAbove before (entries m) → entries (insert m key value) ≡ entries m ++ (key, value) ∷ []
entries_after m before key value h above = entries-insert nat_list_cmp_total m key value ∙ put_above (entries m) key value (above key h)
