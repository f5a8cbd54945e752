-- Parsing a set of ranks accepts exactly its texts.
use Rattle.std.proofs.Common.{◌≡◌, ℕ, zero, suc, ◌+◌, ◌*◌, ◌-◌, ◌^◌, ◌<◌, ◌≤◌, Bool, true, false, ◌&&◌, cond, ltb, List, [], ◌∷◌, ◌++◌, length, replicate, Option, Some, None, Ok, IsTrue, refl, sym, ap, subst, ◌∙◌, append_assoc, append-nil, length-append, arith, inl, inr, ◌⊎◌}
use Rattle.std.specs.Prelude.{filter}
use Rattle.std.specs.Bool.{Decides}
use Rattle.std.specs.Cmp.{booleans_Decides}
use Rattle.std.proofs.Math.Bool.{beq}
use Rattle.std.specs.Cmp.Lexicographic.{pointwise}
use Rattle.std.specs.Cmp.Lexicographic.{pointwise_decides}
use Rattle.std.specs.Fmt.{decimal}
use Rattle.std.specs.List.{list_all, range_with_len}
use Rattle.std.specs.Str.{bytes_eq}
use Rattle.std.proofs.lemmas.Bool.Decides.{nat_tests}
use Rattle.std.proofs.lemmas.Slice.Eq.{bytes_eq-Decides}
use Rattle.std.proofs.lemmas.Fmt.{digits_decimal, decimal_injective}
use Rattle.std.proofs.Math.Seq.{set-append_seam}
use Rattle.mon_types.specs.Ranks.{no_ranks, has, with_rank, ranks_in}
use Rattle.mon_bytes.proofs.Ascii.{both}
use Rattle.schedule_text.specs.Fields.{cut, digit, ended}
use Rattle.schedule_text.specs.Ranks.{separated, separator, ranks_from, ranks_text, flags_below, below, is_next, after_next, flags_at, set_of}
use Rattle.schedule_text.proofs.Lengths.{at_most_20_digits}
use Rattle.schedule_text.proofs.Numerals.{own}
use Rattle.schedule_text.proofs.FieldLaws.{list_all-weaker, apart, joined, cut_joined, cut_again, ended_takes}

digit_no_comma : (b : ℕ) → IsTrue (digit b) → IsTrue (apart 44 b)
digit_no_comma b h = grind (arith, nat_tests)

no_comma : (n : ℕ) → n < 2 ^ 64 → IsTrue (list_all (apart 44) (decimal n))
no_comma n small = list_all-weaker digit (apart 44) digit_no_comma (decimal n) (digits_decimal own n small)

pub joined-separated : (separator : ℕ) (f : List ℕ) (rest : Option (List ℕ)) → joined separator f rest ≡ f ++ separated separator rest
joined-separated separator f None = sym (append-nil f)
joined-separated separator f (Some rest) = refl

-- ---- a flag among flags

seam : (front : List Bool) (b : Bool) (others : List Bool) → has (front ++ b ∷ others) (length front) ≡ b
seam [] b others = refl
seam (x ∷ front) b others = seam front b others

flag_at : (front : List Bool) (b : Bool) (others : List Bool) (r : ℕ) → length front ≡ r → has (front ++ b ∷ others) r ≡ b
flag_at front b others r is = ap (has (front ++ b ∷ others)) (sym is) ∙ seam front b others

-- ---- parsed, and then printed

pub cases_true : (b : Bool) → (b ≡ true) ⊎ (b ≡ false)
cases_true true = inl refl
cases_true false = inr refl

next_is : (r : ℕ) (rest : Option (List ℕ)) → is_next r rest ≡ true → rest ≡ Some (decimal r ++ separated 44 (after_next rest))
next_is r None h = absurd cc
next_is r (Some bytes) h =
    let same : (cut 44 bytes).0 ≡ decimal r = (bytes_eq-Decides (cut 44 bytes).0 (decimal r)).0 h in
    ap (λ (xs : List ℕ). Some xs) (sym (cut_joined 44 bytes) ∙ joined-separated 44 (cut 44 bytes).0 (cut 44 bytes).1 ∙ ap (λ (f : List ℕ). f ++ separated 44 (cut 44 bytes).1) same)

-- the rest of the text is the encoding of the flags that are still to be read
record IsEncoded (n count r : ℕ) (front flags : List Bool) (rest : Option (List ℕ)) : Type 0 where
  text : rest ≡ ranks_from count r (front ++ flags)
  kept : flags_below n count r (front ++ flags) ≡ flags

snoc : (front : List Bool) (b : Bool) (flags : List Bool) → (front ++ b ∷ []) ++ flags ≡ front ++ b ∷ flags
snoc front b flags = append_assoc front (b ∷ []) flags

longer : (front : List Bool) (b : Bool) (r : ℕ) → length front ≡ r → length (front ++ b ∷ []) ≡ suc r
longer front b r is = simp length-append (omega arith)

flags_take : (n count r : ℕ) (front : List Bool) (rest : Option (List ℕ)) → length front ≡ r → (flags_at n count r rest).1 ≡ None → IsEncoded n count r front (flags_at n count r rest).0 rest
flags_take n zero r front rest is end = record { text = end; kept = refl }
flags_take n (suc count) r front rest is end =
    let test = ltb r n && is_next r rest in
    elim (cases_true test) [
      | inl t ↦
          let parts = both (ltb r n) (is_next r rest) t in
          let after = after_next rest in
          let flags = (flags_at n count (suc r) after).0 in
          let end' : (flags_at n count (suc r) after).1 ≡ None = rw t at end in
          let others = flags_take n count (suc r) (front ++ true ∷ []) after (longer front true r is) end' in
          let text' : after ≡ ranks_from count (suc r) (front ++ true ∷ flags) = others.text ∙ ap (ranks_from count (suc r)) (snoc front true flags) in
          let kept' : flags_below n count (suc r) (front ++ true ∷ flags) ≡ flags = ap (flags_below n count (suc r)) (sym (snoc front true flags)) ∙ others.kept in
          let here : has (front ++ true ∷ flags) r ≡ true = flag_at front true flags r is in
          rw t (record {
            text = rw here (next_is r rest parts.1 ∙ ap (λ (a : Option (List ℕ)). Some (decimal r ++ separated 44 a)) text');
            kept = rw (here, parts.0) (ap (λ (fs : List Bool). true ∷ fs) kept');
          })
      | inr f ↦
          let flags = (flags_at n count (suc r) rest).0 in
          let end' : (flags_at n count (suc r) rest).1 ≡ None = rw f at end in
          let others = flags_take n count (suc r) (front ++ false ∷ []) rest (longer front false r is) end' in
          let text' : rest ≡ ranks_from count (suc r) (front ++ false ∷ flags) = others.text ∙ ap (ranks_from count (suc r)) (snoc front false flags) in
          let kept' : flags_below n count (suc r) (front ++ false ∷ flags) ≡ flags = ap (flags_below n count (suc r)) (sym (snoc front false flags)) ∙ others.kept in
          let here : has (front ++ false ∷ flags) r ≡ false = flag_at front false flags r is in
          rw f (record {
            text = rw here text';
            kept = rw here (no_flag (ltb r n) _ _ kept');
          })
    ]
  where
    no_flag : (b : Bool) (xs flags : List Bool) → xs ≡ flags → (b && false) ∷ xs ≡ false ∷ flags
    no_flag true xs flags e = ap (λ (fs : List Bool). false ∷ fs) e
    no_flag false xs flags e = ap (λ (fs : List Bool). false ∷ fs) e

-- what is read of a set is encoded so
pub set_takes : (n : ℕ) (rest : Option (List ℕ)) (set : List Bool) → set_of n rest ≡ Ok set → (rest ≡ ranks_text set) × (set ≡ below n set)
unfolding set_of ranks_text below
set_takes n rest set e =
    let end = ended_takes (flags_at n 15 0 rest).1 (flags_at n 15 0 rest).0 set e in
    let t = flags_take n 15 0 [] rest refl end.0 in
    subst (λ (s : List Bool). (rest ≡ ranks_text s) × (s ≡ below n s)) end.1 (t.text, sym t.kept)

-- ---- printed, and then parsed

-- a set's flags among those below n
flag_below : (n count r i : ℕ) (set : List Bool) → i < count → has (flags_below n count r set) i ≡ (ltb (r + i) n && has set (r + i))
flag_below n zero r i set lt = absurd (omega arith)
flag_below n (suc count) r zero set lt = ap (λ k. ltb k n && has set k) (omega arith)
flag_below n (suc count) r (suc i) set lt =
    flag_below n count (suc r) i set (omega arith) ∙ ap (λ k. ltb k n && has set k) (omega arith)

-- each rank of the set is below n
only_below : (n r : ℕ) (set : List Bool) → set ≡ below n set → r < 15 → has set r ≡ true → IsTrue (ltb r n)
unfolding below
only_below n r set is lt h =
    let flag : has set r ≡ (ltb r n && has set r) = ap (λ (s : List Bool). has s r) is ∙ flag_below n 15 0 r set lt ∙ ap (λ k. ltb k n && has set k) (omega arith) in
    (both (ltb r n) (has set r) (sym flag ∙ h)).0

others_differ : (r q : ℕ) → r < q → q < 2 ^ 64 → bytes_eq (decimal q) (decimal r) ≡ false
others_differ r q lt small =
    elim (cases_true (bytes_eq (decimal q) (decimal r))) [
      | inl t ↦
          let same = decimal_injective q r small (omega arith) ((bytes_eq-Decides (decimal q) (decimal r)).0 t) in
          absurd (omega (arith, same))
      | inr f ↦ f
    ]

cut_rank : (q : ℕ) (rest : Option (List ℕ)) → q < 2 ^ 64 → cut 44 (decimal q ++ separated 44 rest) ≡ (decimal q, rest)
cut_rank q rest small = ap (cut 44) (sym (joined-separated 44 (decimal q) rest)) ∙ cut_again 44 (decimal q) rest (no_comma q small)

-- a rank isn't the next one if only greater ones are encoded
not_next : (count r q : ℕ) (set : List Bool) → r < q → q + count ≤ 15 → is_next r (ranks_from count q set) ≡ false
not_next zero r q set lt le = refl
not_next (suc count) r q set lt le =
    elim (cases_true (has set q)) [
      | inl t ↦ let small : q < 2 ^ 64 = omega arith in rw (t, cut_rank q (ranks_from count (suc q) set) small) (others_differ r q lt small)
      | inr f ↦ rw f (not_next count r (suc q) set (omega arith) (omega arith))
    ]

-- a rank that is encoded first is the next one
comes : (n count r : ℕ) (bytes : List ℕ) (after : Option (List ℕ)) (flags : List Bool) → cut 44 bytes ≡ (decimal r, after) → IsTrue (ltb r n)
    → flags_at n count (suc r) after ≡ (flags, None) → flags_at n (suc count) r (Some bytes) ≡ (true ∷ flags, None)
comes n count r bytes after flags e under others =
    let test : bytes_eq (cut 44 bytes).0 (decimal r) ≡ true = ap (λ (p : List ℕ × Option (List ℕ)). bytes_eq p.0 (decimal r)) e ∙ (bytes_eq-Decides (decimal r) (decimal r)).1 refl in
    let left : (cut 44 bytes).1 ≡ after = ap (λ (p : List ℕ × Option (List ℕ)). p.1) e in
    rw (under, test, left, others) refl

flags_again : (n count r : ℕ) (set : List Bool) → set ≡ below n set → r + count ≤ 15 → flags_at n count r (ranks_from count r set) ≡ (flags_below n count r set, None)
flags_again n zero r set is le = refl
flags_again n (suc count) r set is le =
    let others = flags_again n count (suc r) set is (omega arith) in
    elim (cases_true (has set r)) [
      | inl t ↦
          let small : r < 2 ^ 64 = omega arith in
          let under = only_below n r set is (omega arith) t in
          let more = ranks_from count (suc r) set in
          let text : ranks_from (suc count) r set ≡ Some (decimal r ++ separated 44 more) = rw t refl in
          let flags : true ∷ flags_below n count (suc r) set ≡ flags_below n (suc count) r set = rw (under, t) refl in
          ap (flags_at n (suc count) r) text
          ∙ comes n count r (decimal r ++ separated 44 more) more (flags_below n count (suc r) set) (cut_rank r more small) under others
          ∙ ap (λ (fs : List Bool). (fs, None)) flags
      | inr f ↦
          rw (f, not_next count r (suc r) set (omega arith) (omega arith)) (by (ltb r n) _ _ others)
    ]
  where
    by : (b : Bool) (read : List Bool × Option (List ℕ)) (flags : List Bool) → read ≡ (flags, None)
        → ◌≡◌ {A = List Bool × Option (List ℕ)} (cond (b && false) (true ∷ (flags_at n count (suc r) (after_next (ranks_from count (suc r) set))).0, (flags_at n count (suc r) (after_next (ranks_from count (suc r) set))).1) (false ∷ read.0, read.1)) ((b && false) ∷ flags, None)
    by true read flags e = ap (λ (p : List Bool × Option (List ℕ)). (false ∷ p.0, p.1)) e
    by false read flags e = ap (λ (p : List Bool × Option (List ℕ)). (false ∷ p.0, p.1)) e

-- what is encoded so is read
pub set_again : (n : ℕ) (set : List Bool) → set ≡ below n set → set_of n (ranks_text set) ≡ Ok set
unfolding set_of ranks_text below
set_again n set is =
    ap (λ (p : List Bool × Option (List ℕ)). ended p.1 p.0) (flags_again n 15 0 set is (omega arith)) ∙ ap (λ (s : List Bool). Ok s) (sym is)

-- ---- a set under way

-- the flags of the ranks below r, and none above
pub record SoFar (r count : ℕ) (front set : List Bool) : Type 0 where
  pub width : length front ≡ r
  pub set_is : set ≡ front ++ replicate count false

pub none_yet : SoFar 0 15 [] no_ranks
none_yet = record { width = refl; set_is = refl }

pub one_more : (r count : ℕ) (front set : List Bool) → SoFar r (suc count) front set → SoFar (suc r) count (front ++ true ∷ []) (with_rank set r)
one_more r count front set s = record {
  width = longer front true r s.width;
  set_is = rw (s.set_is) (ap (λ k. with_rank (front ++ false ∷ replicate count false) k) (sym s.width) ∙ set-append_seam front false (replicate count false) true ∙ sym (snoc front true (replicate count false)));
}

pub one_less : (r count : ℕ) (front set : List Bool) → SoFar r (suc count) front set → SoFar (suc r) count (front ++ false ∷ []) set
one_less r count front set s = record {
  width = longer front false r s.width;
  set_is = s.set_is ∙ sym (snoc front false (replicate count false));
}

-- reading a set: the flags so far, and the text that is still to be read
pub record Reading (n r count : ℕ) (set : List Bool) (rest text : Option (List ℕ)) : Type 0 where
  pub front : List Bool
  pub so_far : SoFar r count front set
  pub whole : flags_at n 15 0 text ≡ (front ++ (flags_at n count r rest).0, (flags_at n count r rest).1)

pub reading_begins : (n : ℕ) (text : Option (List ℕ)) → Reading n 0 15 no_ranks text text
reading_begins n text = record { front = []; so_far = none_yet; whole = refl }

pub reading_takes : (n r count : ℕ) (set : List Bool) (rest text : Option (List ℕ)) → (ltb r n && is_next r rest) ≡ true → Reading n r (suc count) set rest text → Reading n (suc r) count (with_rank set r) (after_next rest) text
reading_takes n r count set rest text t h =
    let so_far = rw t at h.whole in
    record {
      front = h.front ++ true ∷ [];
      so_far = one_more r count h.front set h.so_far;
      whole = so_far ∙ ap (λ (flags : List Bool). (flags, (flags_at n count (suc r) (after_next rest)).1)) (sym (snoc h.front true (flags_at n count (suc r) (after_next rest)).0));
    }

pub reading_leaves : (n r count : ℕ) (set : List Bool) (rest text : Option (List ℕ)) → (ltb r n && is_next r rest) ≡ false → Reading n r (suc count) set rest text → Reading n (suc r) count set rest text
reading_leaves n r count set rest text f h =
    let so_far = rw f at h.whole in
    record {
      front = h.front ++ false ∷ [];
      so_far = one_less r count h.front set h.so_far;
      whole = so_far ∙ ap (λ (flags : List Bool). (flags, (flags_at n count (suc r) rest).1)) (sym (snoc h.front false (flags_at n count (suc r) rest).0));
    }

pub reading_ends : (n : ℕ) (set : List Bool) (rest text : Option (List ℕ)) → Reading n 15 0 set rest text → set_of n text ≡ ended rest set
unfolding set_of
reading_ends n set rest text h =
    ap (λ (p : List Bool × Option (List ℕ)). ended p.1 p.0) h.whole ∙ ap (λ (s : List Bool). ended rest s) (sym h.so_far.set_is)

-- keeping the ranks below n
pub record Keeping (n r count : ℕ) (kept set : List Bool) : Type 0 where
  pub front : List Bool
  pub so_far : SoFar r count front kept
  pub whole : below n set ≡ front ++ flags_below n count r set

pub keeping_begins : (n : ℕ) (set : List Bool) → Keeping n 0 15 no_ranks set
unfolding below
keeping_begins n set = record { front = []; so_far = none_yet; whole = refl }

pub keeping_takes : (n r count : ℕ) (kept set : List Bool) → (ltb r n && has set r) ≡ true → Keeping n r (suc count) kept set → Keeping n (suc r) count (with_rank kept r) set
keeping_takes n r count kept set t h =
    let so_far = rw t at h.whole in
    record { front = h.front ++ true ∷ []; so_far = one_more r count h.front kept h.so_far; whole = so_far ∙ sym (snoc h.front true (flags_below n count (suc r) set)) }

pub keeping_leaves : (n r count : ℕ) (kept set : List Bool) → (ltb r n && has set r) ≡ false → Keeping n r (suc count) kept set → Keeping n (suc r) count kept set
keeping_leaves n r count kept set f h =
    let so_far = rw f at h.whole in
    record { front = h.front ++ false ∷ []; so_far = one_less r count h.front kept h.so_far; whole = so_far ∙ sym (snoc h.front false (flags_below n count (suc r) set)) }

pub keeping_ends : (n : ℕ) (kept set : List Bool) → Keeping n 15 0 kept set → kept ≡ below n set
keeping_ends n kept set h = h.so_far.set_is ∙ sym h.whole

-- the number of the next rank, as a loop counts

to_next : (P : ℕ → ℕ → Type 0) (r : ℕ) → P (suc r) (15 - suc r) → P (r + 1) (15 - (r + 1))
to_next P r p =
    let e : suc r ≡ r + 1 = omega arith in
    subst (λ k. P k (15 - k)) e p

from_here : (P : ℕ → ℕ → Type 0) (r : ℕ) → r < 15 → P r (15 - r) → P r (suc (15 - suc r))
from_here P r lt p =
    let e : 15 - r ≡ suc (15 - suc r) = omega arith in
    subst (P r) e p

pub at_end : (P : ℕ → ℕ → Type 0) (r : ℕ) → 15 ≤ r → r ≤ 15 → P r (15 - r) → P 15 0
at_end P r ge le p =
    let e : r ≡ 15 = omega arith in
    subst (λ k. P k (15 - k)) e p

pub reading_taken : (n r : ℕ) (set : List Bool) (rest text : Option (List ℕ)) → r < 15 → (ltb r n && is_next r rest) ≡ true → Reading n r (15 - r) set rest text → Reading n (r + 1) (15 - (r + 1)) (with_rank set r) (after_next rest) text
reading_taken n r set rest text lt t h =
    to_next (λ k c. Reading n k c (with_rank set r) (after_next rest) text) r (reading_takes n r (15 - suc r) set rest text t (from_here (λ k c. Reading n k c set rest text) r lt h))

pub reading_left : (n r : ℕ) (set : List Bool) (rest text : Option (List ℕ)) → r < 15 → (ltb r n && is_next r rest) ≡ false → Reading n r (15 - r) set rest text → Reading n (r + 1) (15 - (r + 1)) set rest text
reading_left n r set rest text lt f h =
    to_next (λ k c. Reading n k c set rest text) r (reading_leaves n r (15 - suc r) set rest text f (from_here (λ k c. Reading n k c set rest text) r lt h))

pub keeping_taken : (n r : ℕ) (kept set : List Bool) → r < 15 → (ltb r n && has set r) ≡ true → Keeping n r (15 - r) kept set → Keeping n (r + 1) (15 - (r + 1)) (with_rank kept r) set
keeping_taken n r kept set lt t h =
    to_next (λ k c. Keeping n k c (with_rank kept r) set) r (keeping_takes n r (15 - suc r) kept set t (from_here (λ k c. Keeping n k c kept set) r lt h))

pub keeping_left : (n r : ℕ) (kept set : List Bool) → r < 15 → (ltb r n && has set r) ≡ false → Keeping n r (15 - r) kept set → Keeping n (r + 1) (15 - (r + 1)) kept set
keeping_left n r kept set lt f h =
    to_next (λ k c. Keeping n k c kept set) r (keeping_leaves n r (15 - suc r) kept set f (from_here (λ k c. Keeping n k c kept set) r lt h))

-- the text of these ranks, if there is one
abbrev pub named : List ℕ → Option (List ℕ)
named [] = None
named (r ∷ rs) = Some (decimal r ++ separated 44 (named rs))

named_from : (count r : ℕ) (set : List Bool) → ranks_from count r set ≡ named (filter (has set) (range_with_len r count))
named_from zero r set = refl
named_from (suc count) r set =
    let next : r + 1 ≡ suc r = omega arith in
    elim (cases_true (has set r)) [
      | inl t ↦ rw (t, next) (ap (λ (more : Option (List ℕ)). Some (decimal r ++ separated 44 more)) (named_from count (suc r) set))
      | inr f ↦ rw (f, next) (named_from count (suc r) set)
    ]

pub named_text : (set : List Bool) → ranks_text set ≡ named (ranks_in set)
unfolding ranks_text
named_text set = named_from 15 0 set

-- what is written, once the first of these ranks is
pub one_written : (first : Bool) (r : ℕ) (rs out : List ℕ) → (out ++ separator first ∷ decimal r) ++ separated 44 (named rs) ≡ out ++ separated (separator first) (named (r ∷ rs))
one_written first r rs out = append_assoc out (separator first ∷ decimal r) (separated 44 (named rs))

-- the length, whatever the separator
pub same_length : (rest : Option (List ℕ)) → length (separated 44 rest) ≡ length (separated 61 rest)
same_length None = refl
same_length (Some rest) = refl

-- the length, once the first of these ranks is counted
pub one_counted : (r : ℕ) (rs : List ℕ) (len : ℕ) → (len + (1 + length (decimal r))) + length (separated 44 (named rs)) ≡ len + length (separated 44 (named (r ∷ rs)))
one_counted r rs len =
    let both_parts : length (decimal r ++ separated 44 (named rs)) ≡ length (decimal r) + length (separated 44 (named rs)) = length-append (decimal r) (separated 44 (named rs)) in
    omega (arith, both_parts)

short_from : (count r : ℕ) (set : List Bool) → r + count ≤ 15 → length (separated 44 (ranks_from count r set)) ≤ 21 * count
short_from zero r set le = omega arith
short_from (suc count) r set le =
    let others = short_from count (suc r) set (omega arith) in
    elim (cases_true (has set r)) [
      | inl t ↦
          let more = separated 44 (ranks_from count (suc r) set) in
          let here : length (separated 44 (ranks_from (suc count) r set)) ≡ suc (length (decimal r ++ more)) = rw t refl in
          let both_parts : length (decimal r ++ more) ≡ length (decimal r) + length more = length-append (decimal r) more in
          let few : length (decimal r) ≤ 20 = at_most_20_digits r (omega arith) in
          omega (arith, here, both_parts, few, others)
      | inr f ↦
          let here : length (separated 44 (ranks_from (suc count) r set)) ≡ length (separated 44 (ranks_from count (suc r) set)) = rw f refl in
          omega (arith, here, others)
    ]

pub short_ranks : (set : List Bool) → length (separated 61 (ranks_text set)) ≤ 400
unfolding ranks_text
short_ranks set = omega (arith, short_from 15 0 set (omega arith), same_length (ranks_from 15 0 set))

-- two sets are equal if and only if their flags are, one by one
pub sets_decided : (xs ys : List Bool) → Decides (pointwise beq xs ys) (xs ≡ ys)
sets_decided = pointwise_decides booleans_Decides
