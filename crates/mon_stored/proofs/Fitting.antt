-- What the protocol's messages take of a run is the run that has room.
use Rattle.std.proofs.Common.{◌≡◌, ℕ, suc, ◌+◌, ◌≤◌, ◌<◌, Bool, true, false, ◌&&◌, ◌||◌, cond, leb, ltb, List, [], length, refl, sym, ap, ◌∙◌, ◌⊎◌, inl, inr, arith}
use Rattle.std.specs.Prelude.{nat_lt, sum_by}
use Rattle.std.proofs.lemmas.Bool.{cases_lt, le-leb, lt-leb, lt-ltb, le-ltb}
use Rattle.mon_bytes.specs.declared.entry.Entry.{Entry}
use Rattle.mon_tx.specs.Decision.{Cell}
use Rattle.mon_tx.specs.declared.op.Op.{Op}
use Rattle.mon_wire.specs.declared.parts.Cookie.{Cookie}
use Rattle.mon_wire.specs.declared.parts.Place.{Place}
use Rattle.mon_msg.specs.Protocol.Answers.{sent_values}
use Rattle.mon_msg.specs.Protocol.Collecting.{missed}
use Rattle.mon_msg.specs.Protocol.Parts.{value_length, place_length}
use Rattle.mon_msg.specs.Protocol.Providing.{reach, is_finished, given_values}
use Rattle.mon_msg.specs.Protocol.Records.{run_from, longest}
use Rattle.mon_msg.proofs.Fitting.{sent_values-is, missed-is, given_values-is}
use Rattle.mon_stored.specs.Runs.{besides, run_within}

-- two bounds that hold together
pub by_bounds : (a b c d : ℕ) → (a ≤ b → c ≤ d) → (c ≤ d → a ≤ b) → leb a b ≡ leb c d
by_bounds a b c d f g = by (cases_lt b a) (cases_lt d c)
  where
    by : (b < a) ⊎ (a ≤ b) → (d < c) ⊎ (c ≤ d) → leb a b ≡ leb c d
    by (inl lt) (inl less) = lt-leb a b lt ∙ sym (lt-leb c d less)
    by (inl lt) (inr le) = let low : a ≤ b = g le in absurd (omega arith)
    by (inr le) (inl less) = let low : c ≤ d = f le in absurd (omega arith)
    by (inr le) (inr least) = le-leb a b le ∙ sym (le-leb c d least)

same_choice : (b : Bool) (n : ℕ) → n ≡ cond b n n
same_choice true n = refl
same_choice false n = refl

module _ (records : ℕ → Cell) (last from : ℕ) where
  abbrev with_test : (List (List Op) → ℕ) → List (List Op)
  with_test taking = longest (λ values. leb (taking values + sum_by value_length values) 1048576 && leb (length values) 65535) (run_from records last from)

  with_room : (plain at_end : ℕ) (taking : List (List Op) → ℕ) → ((values : List (List Op)) → taking values ≡ besides last from plain at_end values)
      → with_test taking ≡ run_within records last from plain at_end
  unfolding run_within
  with_room plain at_end taking h = λ i. with_test (λ values. h values i)

-- LAST without a pending value has 48 bytes besides
pub sent_values-run : (n promise first last : ℕ) (records : ℕ → Cell) (from : ℕ) → (nat_lt last from || nat_lt from first) ≡ false
    → sent_values n promise first last records from ≡ run_within records last from 48 48
sent_values-run n promise first last records from h =
    sent_values-is n promise first last records from h
    ∙ with_room records last from 48 48 (λ _. 48) (λ values. same_choice (ltb last (from + length values)) 48)

-- COMMIT has 22
pub missed-run : (n : ℕ) (records : ℕ → Cell) (last told : ℕ) → missed n records last told ≡ run_within records last (suc told) 22 22
missed-run n records last told =
    missed-is n records last told
    ∙ with_room records last (suc told) 22 22 (λ _. 22) (λ values. same_choice (ltb last (suc told + length values)) 22)

-- CHUNK has 33 and the place, and LAST_CHUNK, which is sent if nothing is left, seven more
module _ (last : ℕ) (c : Cookie) (p : Place) (left : List Entry) where
  abbrev pub at_end : ℕ
  at_end = cond (is_finished p left []) 40 33 + place_length p

  reaches : (n : ℕ) → leb last (p.version + n) ≡ ltb last (suc p.version + n)
  reaches n = by (cases_lt (p.version + n) last)
    where
      by : (p.version + n < last) ⊎ (last ≤ p.version + n) → leb last (p.version + n) ≡ ltb last (suc p.version + n)
      by (inl lt) = lt-leb last (p.version + n) lt ∙ sym (le-ltb last (suc p.version + n) (omega (arith, lt)))
      by (inr le) = le-leb last (p.version + n) le ∙ sym (lt-ltb last (suc p.version + n) (omega (arith, le)))

  chosen : (r f : Bool) → cond (r && f) 40 33 + place_length p ≡ cond r (cond f 40 33 + place_length p) (33 + place_length p)
  chosen true f = refl
  chosen false f = refl

  pub given_values-run : (n : ℕ) (records : ℕ → Cell) → given_values last c p left n records ≡ run_within records last (suc p.version) (33 + place_length p) at_end
  given_values-run n records =
      given_values-is last c p left n records
      ∙ with_room records last (suc p.version) (33 + place_length p) at_end (λ values. cond (reach last p values && is_finished p left []) 40 33 + place_length p)
      (λ values. chosen (reach last p values) (is_finished p left []) ∙ ap (λ b. cond b at_end (33 + place_length p)) (reaches (length values)))
