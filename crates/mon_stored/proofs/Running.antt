-- The longest run of records that a message takes, record by record.
use Rattle.std.proofs.Common.{◌≡◌, ◌≢◌, ℕ, suc, ◌+◌, ◌-◌, ◌≤◌, ◌<◌, Bool, true, false, cond, eqb, leb, ltb, List, [], ◌∷◌, ◌++◌, length, Option, Some, None, refl, sym, ap, subst, ◌∙◌, arith, inl, inr, ◌⊎◌, add-one, length-append}
use Rattle.std.proofs.lemmas.Bool.{cases_Bool, cases_lt, leb-true, leb-false, lt-ltb, le-ltb, eqb-true, eqb-false}
use Rattle.mon_tx.specs.Decision.{Cell}
use Rattle.mon_tx.specs.declared.op.Op.{Op}
use Rattle.mon_msg.specs.Protocol.Parts.{value_length}
use Rattle.mon_msg.specs.Protocol.Records.{record_at, run_from, longest}
use Rattle.mon_msg.proofs.Runs.{RunsOn, runs-first, runs-last, runs-full, runs-out, runs-next, run_from-next, run_from-none, run_from-past}
use Rattle.mon_stored.specs.Runs.{besides, have_room, run_within, if_room}

-- a value that has no room
without_room : (room : ℕ) (value : List Op) → if_room room (Some value) ≡ None → room < value_length value
without_room room value h = by (leb (value_length value) room) refl h
  where
    by : (t : Bool) → leb (value_length value) room ≡ t → cond t (Some value) None ≡ None → room < value_length value
    by true e h = cc
    by false e h = leb-false _ _ e

-- a value that has room
pub with_room : (room : ℕ) (o : Option (List Op)) (value : List Op) → if_room room o ≡ Some value → (o ≡ Some value) × (value_length value ≤ room)
with_room room None value h = cc
with_room room (Some other) value h = by (leb (value_length other) room) refl h
  where
    by : (t : Bool) → leb (value_length other) room ≡ t → cond t (Some other) None ≡ Some value → (Some other ≡ Some value) × (value_length value ≤ room)
    by true e h = (h, let same : other ≡ value = cc in subst (λ (x : List Op). value_length x ≤ room) same (leb-true _ _ e))
    by false e h = cc

module _ (records : ℕ → Cell) (last from plain at_end : ℕ) where
  abbrev pub taking : List (List Op) → ℕ
  taking = besides last from plain at_end

  -- This many values were taken, and the run goes on at version v.
  pub record RunsTo (v bytes : ℕ) (done : List (List Op)) : Type 0 where
    pub runs : RunsOn value_length taking 1048576 (run_from records last from) bytes done (run_from records last v)
    pub at : v ≡ from + length done
    pub room : bytes ≤ 1048576

  abbrev longest_run : List (List Op)
  longest_run = longest (have_room last from plain at_end) (run_from records last from)

  folded : longest_run ≡ run_within records last from plain at_end
  unfolding run_within
  folded = refl

  pub run-first : RunsTo from 0 []
  run-first = record { runs = runs-first value_length taking 1048576 (run_from records last from); at = omega arith; room = omega arith }

  -- what a message takes besides, with the value of version v
  abbrev pub at_version : ℕ → ℕ
  at_version v = cond (eqb v last) at_end plain

  taking-next : (v : ℕ) (done : List (List Op)) (value : List Op) → v ≡ from + length done → v ≤ last → taking (done ++ value ∷ []) ≡ at_version v
  taking-next v done value at within =
      let more = length-append done (value ∷ []) in
      ap (λ b. cond b at_end plain) (by (cases_lt last (from + length (done ++ value ∷ []))) (cases_Bool (eqb v last)))
    where
      by : (last < from + length (done ++ value ∷ [])) ⊎ (from + length (done ++ value ∷ []) ≤ last) → (eqb v last ≡ true) ⊎ (eqb v last ≡ false)
          → ltb last (from + length (done ++ value ∷ [])) ≡ eqb v last
      by (inl lt) (inl e) = lt-ltb _ _ lt ∙ sym e
      by (inl lt) (inr e) = let no = eqb-false v last e in let more = length-append done (value ∷ []) in absurd (no (omega arith))
      by (inr le) (inl e) = let same = eqb-true v last e in let more = length-append done (value ∷ []) in absurd (omega arith)
      by (inr le) (inr e) = le-ltb _ _ le ∙ sym e

  -- the run is at its end if the next record is invalid
  ends : (v bytes : ℕ) (done : List (List Op)) → RunsTo v bytes done → run_from records last v ≡ [] → done ≡ longest_run
  ends v bytes done r none =
      runs-last value_length taking 1048576 (run_from records last from) bytes done
      (subst (λ rest. RunsOn value_length taking 1048576 (run_from records last from) bytes done rest) none r.runs)

  goes_on : (v bytes : ℕ) (done : List (List Op)) (value : List Op) → RunsTo v bytes done → v ≤ last → record_at records v ≡ Some value
      → RunsOn value_length taking 1048576 (run_from records last from) bytes done (value ∷ run_from records last (suc v))
  goes_on v bytes done value r within there =
      subst (λ rest. RunsOn value_length taking 1048576 (run_from records last from) bytes done rest) (run_from-next records last v value within there) r.runs

  pub run-past : (v bytes : ℕ) (done : List (List Op)) → RunsTo v bytes done → last < v → done ≡ run_within records last from plain at_end
  run-past v bytes done r past = ends v bytes done r (run_from-past records last v past) ∙ folded

  -- no more than a list of a message has
  pub run-full : (v bytes : ℕ) (done : List (List Op)) → RunsTo v bytes done → v ≤ last → length done ≡ 65535 → done ≡ run_within records last from plain at_end
  run-full v bytes done r within full = by (record_at records v) refl ∙ folded
    where
      by : (o : Option (List Op)) → record_at records v ≡ o → done ≡ longest_run
      by None e = ends v bytes done r (run_from-none records last v e)
      by (Some value) e = runs-full value_length taking 1048576 (run_from records last from) bytes done value (run_from records last (suc v)) (goes_on v bytes done value r within e) full

  -- the next value isn't there, or has no room
  pub run-out : (v bytes room : ℕ) (done : List (List Op)) → RunsTo v bytes done → v ≤ last → room ≡ 1048576 - at_version v - bytes
      → if_room room (record_at records v) ≡ None → done ≡ run_within records last from plain at_end
  run-out v bytes room done r within is none = by (record_at records v) refl ∙ folded
    where
      by : (o : Option (List Op)) → record_at records v ≡ o → done ≡ longest_run
      by None e = ends v bytes done r (run_from-none records last v e)
      by (Some value) e =
          let above = without_room room value (ap (if_room room) (sym e) ∙ none) in
          let k = taking-next v done value r.at within in
          runs-out value_length taking 1048576 (run_from records last from) bytes done value (run_from records last (suc v)) (goes_on v bytes done value r within e)
          (rw k (omega (arith, above, is)))

  -- the next value has room
  pub run-next : (v bytes room : ℕ) (done : List (List Op)) (value : List Op) → RunsTo v bytes done → v ≤ last → room ≡ 1048576 - at_version v - bytes
      → length done ≢ 65535 → if_room room (record_at records v) ≡ Some value → RunsTo (v + 1) (bytes + value_length value) (done ++ value ∷ [])
  run-next v bytes room done value r within is few there =
      let here = with_room room (record_at records v) value there in
      let k = taking-next v done value r.at within in
      let more = length-append done (value ∷ []) in
      let short : 0 < value_length value = omega arith in
      record {
        runs = rw add-one (runs-next value_length taking 1048576 (run_from records last from) bytes done value (run_from records last (suc v)) (goes_on v bytes done value r within here.0) (rw k (omega (arith, here.1, is, short))) few);
        at = omega (arith, r.at, more);
        room = omega (arith, here.1, is, short);
      }
