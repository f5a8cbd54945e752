-- Taking items of a list one by one while a message has room gives the longest prefix that the message takes.
use Rattle.std.proofs.Common.{◌≡◌, ◌≢◌, ℕ, zero, suc, ◌+◌, ◌-◌, ◌≤◌, ◌<◌, Bool, true, false, ◌&&◌, cond, leb, List, [], ◌∷◌, ◌++◌, length, take, Option, Some, None, refl, sym, ap, ◌∙◌, ◌⊎◌, arith, append_assoc, length-append}
use Rattle.std.specs.Prelude.{sum_by}
use Rattle.std.proofs.lemmas.Bool.{le-leb, lt-leb, leb-true, leb-false}
use Rattle.std.proofs.lemmas.List.{take-append-le, take_all}
use Rattle.std.proofs.lemmas.List.Sums.{sum_by-append}
use Rattle.mon_tx.specs.Decision.{Cell}
use Rattle.mon_tx.specs.declared.op.Op.{Op}
use Rattle.mon_msg.specs.Protocol.Records.{record_at, run_of, run_from, longest_onto, longest, IsLongest}

-- ---- the longest prefix

pass_on : {A : Type 0} (test : List A → Bool) (done : List A) (x : A) → ((k : ℕ) → k < length done → test (take (suc k) done) ≡ true)
    → test (done ++ x ∷ []) ≡ true → (k : ℕ) → k < length (done ++ x ∷ []) → test (take (suc k) (done ++ x ∷ [])) ≡ true
pass_on {A} test done x passes here k below = by (leb (suc k) (length done)) refl
  where
    by : (b : Bool) → leb (suc k) (length done) ≡ b → test (take (suc k) (done ++ x ∷ [])) ≡ true
    by true e = let h = leb-true _ _ e in ap test (take-append-le (suc k) done (x ∷ []) h) ∙ passes k (omega arith)
    by false e =
        let h = leb-false _ _ e in
        let all : length (done ++ x ∷ []) ≤ suc k = omega (arith, length-append done (x ∷ [])) in
        ap test (take_all (suc k) (done ++ x ∷ []) all) ∙ here

longest_from : {A : Type 0} (test : List A → Bool) (whole done rest : List A) → done ++ rest ≡ whole
    → ((k : ℕ) → k < length done → test (take (suc k) done) ≡ true) → IsLongest test whole (longest_onto test done rest)
longest_from test whole done [] begins passes = record { rest = []; begins = begins; passes = passes; ends = λ x more e. absurd (cc) }
longest_from {A} test whole done (x ∷ rest) begins passes =
    by (test (done ++ x ∷ [])) refl
    (λ here. longest_from test whole (done ++ x ∷ []) rest (append_assoc done (x ∷ []) rest ∙ begins) (pass_on test done x passes here))
  where
    by : (b : Bool) → test (done ++ x ∷ []) ≡ b → (test (done ++ x ∷ []) ≡ true → IsLongest test whole (longest_onto test (done ++ x ∷ []) rest))
        → IsLongest test whole (cond b (longest_onto test (done ++ x ∷ []) rest) done)
    by true e on = on e
    by false e on = record {
      rest = x ∷ rest;
      begins = begins;
      passes = passes;
      ends = λ y more is. let same : x ≡ y = cc in ap (λ z. test (done ++ z ∷ [])) (sym same) ∙ e;
    }

pub longest_is : {A : Type 0} (test : List A → Bool) (whole : List A) → IsLongest test whole (longest test whole)
longest_is test whole = longest_from test whole [] whole refl (λ k below. absurd (omega arith))

-- ---- item by item

-- whether this many bytes and those of the items are no more than there is room for, and the items no more than a list has
abbrev pub have_room : {A : Type 0} → (size : A → ℕ) → (besides : List A → ℕ) → (room : ℕ) → List A → Bool
have_room size besides room items = leb (besides items + sum_by size items) room && leb (length items) 65535

-- These items were taken so far, of this many bytes, and the run goes on with the rest.
pub record RunsOn {A : Type 0} (size : A → ℕ) (besides : List A → ℕ) (room : ℕ) (whole : List A) (bytes : ℕ) (done rest : List A) : Type 0 where
  pub run : longest_onto (have_room size besides room) done rest ≡ longest (have_room size besides room) whole
  pub sum : bytes ≡ sum_by size done
  pub count : length done ≤ 65535

module _ {A : Type 0} (size : A → ℕ) (besides : List A → ℕ) (room : ℕ) (whole : List A) where
  pub runs-first : RunsOn size besides room whole 0 [] whole
  runs-first = record { run = refl; sum = refl; count = omega arith }

  -- nothing is left
  pub runs-last : (bytes : ℕ) (done : List A) → RunsOn size besides room whole bytes done [] → done ≡ longest (have_room size besides room) whole
  runs-last bytes done r = r.run

  stop : (bytes : ℕ) (done : List A) (x : A) (rest : List A) → RunsOn size besides room whole bytes done (x ∷ rest)
      → have_room size besides room (done ++ x ∷ []) ≡ false → done ≡ longest (have_room size besides room) whole
  stop bytes done x rest r e = ap (λ b. cond b (longest_onto (have_room size besides room) (done ++ x ∷ []) rest) done) (sym e) ∙ r.run

  no_count : (a b : Bool) → b ≡ false → (a && b) ≡ false
  no_count true b h = h
  no_count false b h = refl

  sum_one : (done : List A) (x : A) → sum_by size (done ++ x ∷ []) ≡ sum_by size done + size x
  sum_one done x = grind (arith, sum_by-append size done (x ∷ []))

  -- a list of a message has no more items
  pub runs-full : (bytes : ℕ) (done : List A) (x : A) (rest : List A) → RunsOn size besides room whole bytes done (x ∷ rest) → length done ≡ 65535
      → done ≡ longest (have_room size besides room) whole
  runs-full bytes done x rest r full =
      let more = length-append done (x ∷ []) in
      let above : leb (length (done ++ x ∷ [])) 65535 ≡ false = lt-leb _ _ (omega arith) in
      stop bytes done x rest r (no_count (leb (besides (done ++ x ∷ []) + sum_by size (done ++ x ∷ [])) room) _ above)

  -- the next item has no room
  pub runs-out : (bytes : ℕ) (done : List A) (x : A) (rest : List A) → RunsOn size besides room whole bytes done (x ∷ rest)
      → room < besides (done ++ x ∷ []) + (bytes + size x) → done ≡ longest (have_room size besides room) whole
  runs-out bytes done x rest r out =
      let s = sum_one done x in
      let b = r.sum in
      let above : leb (besides (done ++ x ∷ []) + sum_by size (done ++ x ∷ [])) room ≡ false = lt-leb _ _ (omega arith) in
      stop bytes done x rest r (ap (λ t. t && leb (length (done ++ x ∷ [])) 65535) above)

  -- the next item has room
  pub runs-next : (bytes : ℕ) (done : List A) (x : A) (rest : List A) → RunsOn size besides room whole bytes done (x ∷ rest)
      → besides (done ++ x ∷ []) + (bytes + size x) ≤ room → length done ≢ 65535
      → RunsOn size besides room whole (bytes + size x) (done ++ x ∷ []) rest
  runs-next bytes done x rest r within few =
      let s = sum_one done x in
      let b = r.sum in
      let c = r.count in
      let more = length-append done (x ∷ []) in
      let fits : leb (besides (done ++ x ∷ []) + sum_by size (done ++ x ∷ [])) room ≡ true = le-leb _ _ (omega arith) in
      let short : leb (length (done ++ x ∷ [])) 65535 ≡ true = le-leb _ _ (omega arith) in
      let both : have_room size besides room (done ++ x ∷ []) ≡ true = λ i. fits i && short i in
      record {
        run = ap (λ t. cond t (longest_onto (have_room size besides room) (done ++ x ∷ []) rest) done) (sym both) ∙ r.run;
        sum = omega arith;
        count = omega arith;
      }

-- ---- records

module _ (records : ℕ → Cell) where
  abbrev run_with : Option (List Op) → ℕ → ℕ → List (List Op)
  run_with o count v = elim o as (λ _. List (List Op)) [ None ↦ [] | Some value ↦ value ∷ run_of records count (suc v) ]

  -- the run from a version on: it begins with that version's value
  pub run_from-next : (last v : ℕ) (value : List Op) → v ≤ last → record_at records v ≡ Some value
      → run_from records last v ≡ value ∷ run_from records last (suc v)
  unfolding run_of
  run_from-next last v value within e =
      let count : suc last - v ≡ suc (suc last - suc v) = omega arith in
      ap (λ n. run_of records n v) count ∙ ap (λ o. run_with o (suc last - suc v) v) e

  -- if it has none the run is at its end
  pub run_from-none : (last v : ℕ) → record_at records v ≡ None → run_from records last v ≡ []
  unfolding run_of
  run_from-none last v e = by (suc last - v)
    where
      by : (n : ℕ) → run_of records n v ≡ []
      by zero = refl
      by (suc n) = ap (λ o. run_with o n v) e

  -- so it is above the last version
  pub run_from-past : (last v : ℕ) → last < v → run_from records last v ≡ []
  unfolding run_of
  run_from-past last v past =
      let count : suc last - v ≡ 0 = omega arith in
      ap (λ n. run_of records n v) count
