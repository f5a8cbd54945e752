-- What a chunk takes of a map's run.
use Rattle.std.proofs.Common.{◌≡◌, ℕ, ◌+◌, ◌-◌, ◌≤◌, ◌<◌, Bool, true, false, ◌&&◌, cond, leb, List, [], ◌∷◌, ◌++◌, length, map, take, append-nil, zero, suc, refl, sym, ap, subst, ◌∙◌, arith, length-append}
use Rattle.std.specs.Prelude.{sum_by}
use Rattle.std.proofs.Math.Bool.{and-true}
use Rattle.std.proofs.lemmas.Bool.{eqb-false, eqb-true, le-leb, lt-leb}
use Rattle.std.proofs.lemmas.List.{length-map, length-take-le}
use Rattle.mon_bytes.specs.declared.entry.Entry.{Entry}
use Rattle.mon_bytes.specs.declared.entry.KeyPlace.{KeyPlace}
use Rattle.mon_kv.specs.Chunks.{IsLongestRun, entry_len, plain, run_of, shared_after}
use Rattle.mon_kv.specs.declared.chunk.KeyRun.{KeyRun}
use Rattle.mon_tx.specs.Map.{Store}
use Rattle.mon_msg.specs.Protocol.Parts.{entry_length}
use Rattle.mon_msg.specs.Protocol.Records.{longest}
use Rattle.mon_msg.proofs.Runs.{longest_is}
use Rattle.sync_provider.specs.Rows.{remaining_after}
use Rattle.sync_provider.specs.Taken.{IsTaken, takes}
use Rattle.sync_provider.proofs.SharedLaws.{Entries, entry_of, left-shared}
use Rattle.sync_provider.proofs.TakenLaws.{plain_test, plain_run, run-longest, some-left, none-left, one-left}

pub map_plain : (es : List Entry) → map entry_of (map plain es) ≡ es
map_plain [] = refl
map_plain (e ∷ es) = ap (λ xs. e ∷ xs) (map_plain es)

run_of-few : (room most : ℕ) (es : Entries) → length (run_of room most es) ≤ most
run_of-few room most [] = omega arith
run_of-few room zero (e ∷ es) = omega arith
run_of-few room (suc most) (e ∷ es) = by (leb (entry_len e) room) (run_of-few (room - entry_len e) most es)
  where
    by : (b : Bool) → length (run_of (room - entry_len e) most es) ≤ most → length (cond b (e ∷ run_of (room - entry_len e) most es) []) ≤ suc most
    by true h = omega (arith, h)
    by false h = omega arith

pub nothing : (es : List Entry) → length es ≡ 0 → es ≡ []
nothing [] h = refl
nothing (e ∷ es) h = absurd (omega (arith, h))

-- a beginning of the same length is the whole
all_of : (front whole rest : List Entry) → front ++ rest ≡ whole → length front ≡ length whole → front ≡ whole
all_of front whole rest e n =
    let none = nothing rest (let k = ap length e in omega (arith, k, n, length-append front rest)) in
    sym (append-nil front) ∙ ap (λ es. front ++ es) (sym none) ∙ e

module _ (m : Store) (at : KeyPlace) (bytes room : ℕ) (r : room ≡ 1048576 - 33 - bytes) (run : KeyRun) (l : IsLongestRun (shared_after m at) room 65535 run) where
  abbrev pub left : List Entry
  left = remaining_after m at

  abbrev items : List Entry
  items = run.entries.items

  run-items : items ≡ plain_run left bytes
  run-items =
      let k : room ≡ 1048576 - (33 + bytes) = omega (arith, r) in
      sym (map_plain items) ∙ ap (map entry_of) (l.entries ∙ ap (λ n. run_of n 65535 (shared_after m at)) k)
      ∙ run-longest (33 + bytes) (shared_after m at)
      ∙ ap (λ es. longest (plain_test (33 + bytes) es) es) (sym (left-shared m at))

  count : length left ≡ length (shared_after m at)
  count = ap length (left-shared m at) ∙ length-map (shared_after m at) entry_of

  -- a run is a beginning
  shorter : length items ≤ length left
  shorter =
      let whole = ap length (longest_is (plain_test (33 + bytes) left) left).begins in
      let same = ap length run-items in
      omega (arith, whole, same, length-append (plain_run left bytes) (longest_is (plain_test (33 + bytes) left) left).rest)

  -- all that are left
  whole : run.done ≡ true → items ≡ left
  whole h = all_of items left (longest_is (plain_test (33 + bytes) left) left).rest (ap (λ es. es ++ (longest_is (plain_test (33 + bytes) left) left).rest) run-items ∙ (longest_is (plain_test (33 + bytes) left) left).begins) (eqb-true (length items) (length (shared_after m at)) (sym l.done ∙ h) ∙ sym count)

  pub taken-some : run.done ≡ false → IsTaken left bytes run
  taken-some h =
      let ne = eqb-false (length items) (length (shared_after m at)) (sym l.done ∙ h) in
      let lt : length items < length left = omega (arith, shorter, count, ne) in
      record {
        entries = run-items ∙ some-left left bytes (subst (λ (es : List Entry). length es < length left) run-items lt);
        done = h ∙ sym (lt-leb (length left) (length items) lt);
      }

  all-taken : run.done ≡ true → items ≡ longest (takes left bytes) left → IsTaken left bytes run
  all-taken h e = record {
    entries = e;
    done = h ∙ sym (le-leb (length left) (length items) (let same = ap length (whole h) in omega (arith, same)));
  }

  pub taken-none : run.done ≡ true → length items ≡ 0 → IsTaken left bytes run
  taken-none h none =
      let empty = nothing items none in
      all-taken h (empty ∙ ap (λ es. longest (takes es bytes) es) (sym empty ∙ whole h))

  run-few : length items ≤ 65535
  run-few = let same = ap length l.entries in let kept = length-map items plain in omega (arith, same, kept, run_of-few room 65535 (shared_after m at))

  test-whole : (h : run.done ≡ true) → takes left bytes left ≡ leb (40 + bytes + sum_by entry_length items) 1048576
  test-whole h =
      let same = whole h in
      let few : length left ≤ 65535 = subst (λ (es : List Entry). length es ≤ 65535) same run-few in
      (λ i. leb (cond (le-leb (length left) (length left) (omega arith) i) 40 33 + bytes + sum_by entry_length (sym same i)) 1048576 && le-leb (length left) 65535 few i)
      ∙ and-true (leb (40 + bytes + sum_by entry_length items) 1048576)

  pub taken-all : run.done ≡ true → leb (40 + bytes + sum_by entry_length items) 1048576 ≡ true → IsTaken left bytes run
  taken-all h fits =
      let same = whole h in
      all-taken h (same ∙ none-left left bytes (sym run-items ∙ same) (test-whole h ∙ fits))

  pub taken-but-one : run.done ≡ true → 0 < length items → leb (40 + bytes + sum_by entry_length items) 1048576 ≡ false
      → (other : KeyRun) → other.entries.items ≡ take (length items - 1) items → other.done ≡ false → IsTaken left bytes other
  taken-but-one h some long other is done =
      let same = whole h in
      let n = ap length same in
      let cut : other.entries.items ≡ take (length left - 1) left = is ∙ (λ i. take (length (same i) - 1) (same i)) in
      let len : length other.entries.items < length left = (let k = ap length cut in let j = length-take-le (length left - 1) left (omega arith) in omega (arith, k, j, n, some)) in
      record {
        entries = cut ∙ one-left left bytes (sym run-items ∙ same) (test-whole h ∙ long) (omega (arith, n, some));
        done = done ∙ sym (lt-leb (length left) (length other.entries.items) len);
      }
