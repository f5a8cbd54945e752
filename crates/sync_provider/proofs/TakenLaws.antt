-- The longest run of entries that a chunk takes, computed from the longest one that a chunk takes if further entries
-- follow.
use Rattle.std.proofs.Common.{◌≡◌, ℕ, zero, suc, ◌+◌, ◌-◌, ◌≤◌, ◌<◌, Bool, true, false, ◌&&◌, cond, leb, List, [], ◌∷◌, ◌++◌, length, map, take, drop, length-drop, refl, sym, ap, subst, ◌∙◌, ◌⊎◌, inl, inr, arith, append_assoc, append-nil, length-append}
use Rattle.std.specs.Prelude.{sum_by}
use Rattle.std.proofs.lemmas.Bool.{cases_lt, le-leb, lt-leb, leb-false}
use Rattle.std.proofs.lemmas.List.{take-append-drop, take-append-le, take_all, length-take, length-take-le}
use Rattle.mon_bytes.specs.declared.entry.Entry.{Entry}
use Rattle.mon_kv.specs.Chunks.{run_of, entry_len}
use Rattle.mon_tx.specs.Map.{Place}
use Rattle.mon_msg.specs.Protocol.Parts.{entry_length}
use Rattle.mon_msg.specs.Protocol.Records.{longest_onto, longest, IsLongest}
use Rattle.mon_msg.proofs.Runs.{longest_is, have_room, RunsOn, runs-first, runs-last, runs-full, runs-out, runs-next}
use Rattle.sync_provider.proofs.SharedLaws.{Entries, entry_of}

-- ---- a run of a map is the longest beginning that there is room for

module _ (besides : ℕ) (whole : List Entry) where
  abbrev pub plain_test : List Entry → Bool
  plain_test = have_room entry_length (λ _. besides) 1048576

  abbrev Goes : ℕ → List Entry → List Entry → Type 0
  Goes bytes done rest = RunsOn entry_length (λ _. besides) 1048576 whole bytes done rest

  abbrev chosen : Place × List ℕ → (left most : ℕ) → Entries → Bool → Entries
  chosen e left most rest b = cond b (e ∷ run_of (left - entry_len e) most rest) []

  run_on : (rest : Entries) (left most bytes : ℕ) (done : List Entry) → Goes bytes done (map entry_of rest) → left ≡ 1048576 - besides - bytes → most ≡ 65535 - length done
      → done ++ map entry_of (run_of left most rest) ≡ longest plain_test whole
  run_on [] left most bytes done r l m = append-nil done ∙ runs-last entry_length (λ _. besides) 1048576 whole bytes done r
  run_on (e ∷ rest) left zero bytes done r l m =
      append-nil done ∙ runs-full entry_length (λ _. besides) 1048576 whole bytes done (entry_of e) (map entry_of rest) r (omega (arith, m, r.count))
  run_on (e ∷ rest) left (suc most) bytes done r l m =
      by (cases_lt left (entry_len e)) (λ fits. run_on rest (left - entry_len e) most (bytes + entry_length (entry_of e)) (done ++ entry_of e ∷ [])
      (runs-next entry_length (λ _. besides) 1048576 whole bytes done (entry_of e) (map entry_of rest) r (omega (arith, fits, l)) (λ full. omega (arith, full, m)))
      (omega (arith, l)) (omega (arith, m, length-append done (entry_of e ∷ []))))
    where
      by : (left < entry_len e) ⊎ (entry_len e ≤ left)
          → (entry_len e ≤ left → (done ++ entry_of e ∷ []) ++ map entry_of (run_of (left - entry_len e) most rest) ≡ longest plain_test whole)
          → done ++ map entry_of (chosen e left most rest (leb (entry_len e) left)) ≡ longest plain_test whole
      by (inl lt) next =
          ap (λ b. done ++ map entry_of (chosen e left most rest b)) (lt-leb (entry_len e) left lt) ∙ append-nil done
          ∙ runs-out entry_length (λ _. besides) 1048576 whole bytes done (entry_of e) (map entry_of rest) r (omega (arith, lt, l))
      by (inr le) next =
          ap (λ b. done ++ map entry_of (chosen e left most rest b)) (le-leb (entry_len e) left le)
          ∙ sym (append_assoc done (entry_of e ∷ []) (map entry_of (run_of (left - entry_len e) most rest))) ∙ next le

pub run-longest : (besides : ℕ) (all : Entries) → map entry_of (run_of (1048576 - besides) 65535 all) ≡ longest (plain_test besides (map entry_of all)) (map entry_of all)
run-longest besides all =
    run_on besides (map entry_of all) all (1048576 - besides) 65535 0 [] (runs-first entry_length (λ _. besides) 1048576 (map entry_of all)) (omega arith) (omega arith)

-- ---- whatever is the longest beginning is the one that is computed

onto : {A : Type 0} (test : List A → Bool) (more rest done : List A) → ((k : ℕ) → k < length more → test (done ++ take (suc k) more) ≡ true)
    → ((x : A) (later : List A) → rest ≡ x ∷ later → test ((done ++ more) ++ x ∷ []) ≡ false) → longest_onto test done (more ++ rest) ≡ done ++ more
onto test [] [] done passes ends = sym (append-nil done)
onto test [] (x ∷ rest) done passes ends =
    let out : test (done ++ x ∷ []) ≡ false = ap (λ ys. test (ys ++ x ∷ [])) (sym (append-nil done)) ∙ ends x rest refl in
    ap (λ b. cond b (longest_onto test (done ++ x ∷ []) rest) done) out ∙ sym (append-nil done)
onto test (y ∷ more) rest done passes ends =
    ap (λ b. cond b (longest_onto test (done ++ y ∷ []) (more ++ rest)) done) (passes 0 (omega arith))
    ∙ onto test more rest (done ++ y ∷ []) (λ k below. ap test (append_assoc done (y ∷ []) (take (suc k) more)) ∙ passes (suc k) (omega arith))
    (λ x later e. ap (λ ys. test (ys ++ x ∷ [])) (append_assoc done (y ∷ []) more) ∙ ends x later e)
    ∙ append_assoc done (y ∷ []) more

only_longest : {A : Type 0} (test : List A → Bool) (whole found : List A) → IsLongest test whole found → found ≡ longest test whole
only_longest test whole found l = sym (ap (longest test) (sym l.begins) ∙ onto test found l.rest [] l.passes l.ends)

-- ---- a chunk after which no entry follows takes seven bytes more

and_none : (a b : Bool) → b ≡ false → (a && b) ≡ false
and_none true b h = h
and_none false b h = refl

module _ (left : List Entry) (bytes : ℕ) where
  -- what a chunk takes besides its entries
  abbrev pub besides_at : Bool → ℕ
  besides_at all = cond all 40 33 + bytes

  abbrev pub test : List Entry → Bool
  test = have_room entry_length (λ entries. besides_at (leb (length left) (length entries))) 1048576

  abbrev pub plain_run : List Entry
  plain_run = longest (plain_test (33 + bytes) left) left

  below : (entries : List Entry) → length entries < length left → test entries ≡ plain_test (33 + bytes) left entries
  below entries lt = ap (λ b. leb (besides_at b + sum_by entry_length entries) 1048576 && leb (length entries) 65535) (lt-leb (length left) (length entries) lt)

  not_plain : (entries : List Entry) → plain_test (33 + bytes) left entries ≡ false → test entries ≡ false
  not_plain entries h = by (leb (length left) (length entries)) (leb (33 + bytes + sum_by entry_length entries) 1048576) refl h
    where
      by : (all room : Bool) → leb (33 + bytes + sum_by entry_length entries) 1048576 ≡ room → (room && leb (length entries) 65535) ≡ false
          → (leb (besides_at all + sum_by entry_length entries) 1048576 && leb (length entries) 65535) ≡ false
      by false room e h = ap (λ b. b && leb (length entries) 65535) e ∙ h
      by true false e h = ap (λ b. b && leb (length entries) 65535) (lt-leb _ _ (let above = leb-false _ _ e in omega (arith, above)))
      by true true e h = and_none (leb (besides_at true + sum_by entry_length entries) 1048576) (leb (length entries) 65535) h

  pub some-left : length plain_run < length left → plain_run ≡ longest test left
  some-left lt =
      let r = longest_is (plain_test (33 + bytes) left) left in
      only_longest test left plain_run (record {
        rest = r.rest;
        begins = r.begins;
        passes = λ k less. below (take (suc k) plain_run) (let short = length-take (suc k) plain_run in omega (arith, short, lt)) ∙ r.passes k less;
        ends = λ x more e. not_plain (plain_run ++ x ∷ []) (r.ends x more e);
      })

  passes_before : plain_run ≡ left → (k : ℕ) → suc k < length left → test (take (suc k) left) ≡ true
  passes_before whole k lt =
      let r = longest_is (plain_test (33 + bytes) left) left in
      below (take (suc k) left) (let short = length-take (suc k) left in omega (arith, short, lt))
      ∙ subst (λ (es : List Entry). plain_test (33 + bytes) left (take (suc k) es) ≡ true) whole (r.passes k (let same = ap length whole in omega (arith, same, lt)))

  pub none-left : plain_run ≡ left → test left ≡ true → left ≡ longest test left
  none-left whole h = only_longest test left left (record {
    rest = [];
    begins = append-nil left;
    passes = λ k less. by k (cases_lt (suc k) (length left)) less;
    ends = λ x more e. absurd (cc);
  })
    where
      by : (k : ℕ) → (suc k < length left) ⊎ (length left ≤ suc k) → k < length left → test (take (suc k) left) ≡ true
      by k (inl lt) less = passes_before whole k lt
      by k (inr le) less = ap test (take_all (suc k) left le) ∙ h

  pub one-left : plain_run ≡ left → test left ≡ false → 0 < length left → take (length left - 1) left ≡ longest test left
  one-left whole h some =
      let n = length left - 1 in
      let cut = take-append-drop n left in
      let len : length (take n left) ≡ n = length-take-le n left (omega arith) in
      only_longest test left (take n left) (record {
        rest = drop n left;
        begins = cut;
        passes = λ k less.
            ap test (sym (ap (take (suc k)) (sym cut) ∙ take-append-le (suc k) (take n left) (drop n left) (omega (arith, len, less))))
            ∙ passes_before whole k (omega (arith, len, less, some));
        ends = λ x more e. ap test (ends x more e len) ∙ h;
      })
    where
      ends : (x : Entry) (more : List Entry) → drop (length left - 1) left ≡ x ∷ more → length (take (length left - 1) left) ≡ length left - 1 → take (length left - 1) left ++ x ∷ [] ≡ left
      ends x [] e len = ap (λ ys. take (length left - 1) left ++ ys) (sym e) ∙ take-append-drop (length left - 1) left
      ends x (y ∷ more) e len = let l = ap length e in absurd (omega (arith, l, length-drop (length left - 1) left, some))
