-- What a peon answers to COLLECT, if neither it nor the leader lacks more than one version.
use Rattle.law_names.proofs.Table.{Body, Cell, Found, Op, Readings, Told, answer_of, better, counts, fits, is_complete, last_answer, longest, most_value, pending, promise_of, record_at, run_from, run_of, sent_values, text, told_of}
use Rattle.mon_msg.specs.Protocol.Answers.{answer_with}
use Rattle.mon_msg.specs.Protocol.Found.{is_newer}
use Rattle.mon_msg.specs.Protocol.Length.{message_length, most_message}
use Rattle.mon_msg.specs.Protocol.Parts.{value_length}
use Rattle.mon_wire.specs.declared.body.Body.TheVariants as body
use Rattle.quorum_elects.proofs.Values.{FoundShort, pending_short}
use Rattle.std.proofs.Common.{Bool, IfSome, List, None, Option, Some, [], ap, arith, cond, false, leb, length, refl, subst, suc, sym, true, ℕ, ◌&&◌, ◌+◌, ◌-◌, ◌<◌, ◌∙◌, ◌∷◌, ◌≡◌, ◌≤◌}
use Rattle.std.proofs.lemmas.Bool.{cond_both, le-leb, le-ltb, leb-true, lt-ltb}
use Rattle.std.proofs.lemmas.List.Sums.{sum_by-cons}

-- ---- what is short

-- a value in an answer is short
abbrev pub ToldShort : Option Told → Type 0
ToldShort told = IfSome told (λ t. length (text t.value) ≤ most_value)

pub counts_short : (told : Option Told) → ToldShort (counts told)
counts_short None = tt
counts_short (Some t) = cond_both (leb (length (text t.value)) most_value) (Some t) None ToldShort (λ e. leb-true (length (text t.value)) most_value e) (λ _. tt)

pub better_short : (found : Option Found) (new : Found) → FoundShort found → length (text new.value) ≤ most_value → FoundShort (better found new)
better_short found new f k = cond_both (is_newer new.version new.pn found) (Some new) found FoundShort (λ _. k) (λ _. f)

told_short : (o : Option Found) → FoundShort o → ToldShort (told_of o)
told_short None k = tt
told_short (Some f) k = k

-- a pending value alone fits a message
fits_told : (n promise first last from : ℕ) (told : Option Told) → ToldShort told → fits n (body.Last promise first last true from [] told) ≡ true
fits_told n promise first last from None k = refl
fits_told n promise first last from (Some t) k = rw (le-leb (12 + (33 + 2 + (1 + 8 + (4 + length (text t.value))))) 1048576 (omega arith)) refl

-- one value fits a message too
pub fits_one : (n promise first last from : ℕ) (x : List Op) → length (text x) ≤ most_value → fits n (body.Last promise first last false from (x ∷ []) None) ≡ true
fits_one n promise first last from x k = λ j. le-leb (message_length n (body.Last promise first last false from (x ∷ []) None)) most_message (omega (arith, sum_by-cons value_length x [])) j && true

pub fits_commit : (n v : ℕ) (x : List Op) → length (text x) ≤ most_value → fits n (body.Commit v (x ∷ [])) ≡ true
fits_commit n v x k = λ j. le-leb (message_length n (body.Commit v (x ∷ []))) most_message (omega (arith, sum_by-cons value_length x [])) j && true

-- ---- the answer

pub record IsAnswer (b : Body) (promise first last from : ℕ) : Type 0 where
  pub whole : Bool
  pub values : List (List Op)
  pub told : Option Told
  pub is : b ≡ body.Last promise first last whole from values told
  -- if the leader lacks nothing, nothing is left out; if it lacks one version, the answer has its value
  pub none : last < from → (whole ≡ true) × (values ≡ [])
  pub one : last ≡ from → (x : List Op) × (values ≡ x ∷ [])

-- one record
pub run_one : (records : ℕ → Cell) (v : ℕ) (x : List Op) → record_at records v ≡ Some x → run_of records 1 v ≡ x ∷ []
unfolding run_of
run_one records v x e = ap (λ (o : Option (List Op)). elim o as (λ _. List (List Op)) [ None ↦ [] | Some value ↦ value ∷ [] ]) e

answer_known : (n promise first last from : ℕ) (values : List (List Op)) (told : Option Told) → (last < from → values ≡ []) → (last ≡ from → (x : List Op) × (values ≡ x ∷ []))
    → ToldShort told → IsAnswer (answer_with n promise first last from values told) promise first last from
answer_known n promise first last from values told none one short = by (is_complete n promise first last from values told) refl
  where
    all : last < from → is_complete n promise first last from values told ≡ true
    all lt = subst (λ (vs : List (List Op)). is_complete n promise first last from vs told ≡ true) (sym (none lt)) (λ j. lt-ltb last (from + 0) (omega arith) j && fits_told n promise first last from told short j)

    by : (b : Bool) → is_complete n promise first last from values told ≡ b
        → IsAnswer (cond b (body.Last promise first last true from values told) (body.Last promise first last false from values None)) promise first last from
    by true e = record { whole = true; values = values; told = told; is = refl; none = λ lt. (refl, none lt); one = one }
    by false e = record { whole = false; values = values; told = None; is = refl; none = λ lt. (sym e ∙ all lt, none lt); one = one }

-- of a peon that keeps its last version
pub answer_is : (n : ℕ) (w : Readings) (from : ℕ) → w.last ≤ from → (w.last ≡ from → w.first ≤ from × ((x : List Op) × (record_at w.record_of from ≡ Some x) × (length (text x) ≤ most_value)))
    → IsAnswer (last_answer n w from) (promise_of w) w.first w.last from
unfolding answer_of
answer_is n w from high known =
    answer_known n (promise_of w) w.first w.last from (sent_values n (promise_of w) w.first w.last w.record_of from) (told_of (pending w)) none one (told_short (pending w) (pending_short w))
  where
    none : w.last < from → sent_values n (promise_of w) w.first w.last w.record_of from ≡ []
    none lt = rw (lt-ltb w.last from lt) refl

    one : w.last ≡ from → (x : List Op) × (sent_values n (promise_of w) w.first w.last w.record_of from ≡ x ∷ [])
    one e =
        let k = known e in
        let count : suc w.last - from ≡ 1 = omega arith in
        let run : run_from w.record_of w.last from ≡ k.1.0 ∷ [] = ap (λ (c : ℕ). run_of w.record_of c from) count ∙ run_one w.record_of from k.1.0 k.1.1 in (
          k.1.0,
          rw (le-ltb w.last from (omega arith), le-ltb from w.first k.0)
              (ap (longest (λ values. fits n (body.Last (promise_of w) w.first w.last false from values None))) run
              ∙ ap (λ b. cond b (k.1.0 ∷ []) []) (fits_one n (promise_of w) w.first w.last from k.1.0 k.1.2)),
        )
