-- The answer to a new leader that lacks at most one version fits one message: a committed value and a pending one do.
use Rattle.law_names.proofs.Runs.{AllValues, first_read, log_from, service_from, view_at}
use Rattle.law_names.proofs.Table.{Found, Op, Readings, answer_of, area_of, entry, fits, incrementals, is_complete, longest, pending, record_at, run_from, run_of, sent_values, text, told_of}
use Rattle.log_model.proofs.Committed.{holds, next_at}
use Rattle.log_model.proofs.FoldWindows.{Holds, keeps_view, view_last}
use Rattle.log_model.proofs.MapSteps.{fine_short}
use Rattle.log_model.proofs.TextSizes.{cost_most, value_length}
use Rattle.log_model.proofs.Windows.{Next}
use Rattle.log_model.specs.LogOfValues.{EncodesValue}
use Rattle.mon_msg.specs.Protocol.Length.{message_length, most_message}
use Rattle.mon_msg.specs.Protocol.Parts as lengths
use Rattle.mon_msg.specs.Protocol.Parts.{map_text}
use Rattle.mon_wire.specs.declared.body.Body.TheVariants as body
use Rattle.quorum_elects.proofs.Values.{FoundShort, pending_short}
use Rattle.quorum_recovers.proofs.LastAnswers.{fits_one, run_one}
use Rattle.std.proofs.Common.{Bool, List, None, Option, Some, [], ap, arith, cond, false, inl, inr, length, refl, subst, suc, sym, true, ℕ, ◌&&◌, ◌+◌, ◌-◌, ◌<◌, ◌^◌, ◌∙◌, ◌∷◌, ◌≡◌, ◌≤◌}
use Rattle.std.proofs.lemmas.Bool.{cases_lt, le-leb, le-ltb, lt-ltb}
use Rattle.std.proofs.lemmas.List.Sums.{sum_by-cons}
use Rattle.timed_failover.specs.Collecting.{IsStocked, IsWhole, answer_to}

-- ---- what is committed

-- the most bytes of a version of a log of values
abbrev pub most_committed : ℕ
most_committed = 476613

pub entry_most : (log : List (List ℕ)) → length log ≤ 2 ^ 62 → AllValues log → (c : ℕ) → c < length log → length (entry log (suc c)) ≤ most_committed
entry_most log within all c h =
    let H : Holds log c = holds log within all c (omega arith) in
    let S : EncodesValue log c = all c h in
    let N : Next log c S.value.newer = next_at log c (omega arith) H (view_at log c) (keeps_view log c (omega arith) H.keeps) (view_last log c (omega arith)) S.changes S.value in
    let few = H.chains.few N.service in
    let l = value_length (first_read log_from c) c (area_of N.service) _ (first_read service_from (length (incrementals N.service log c))) N.incremental (map_text N.map) S.value.newer N.ops (omega arith) (omega arith) N.makes.short
    (fine_short N.service N.map N.makes.fine) S.changes S.value.encoded in
    omega (arith, l, cost_most (suc (length (incrementals N.service log c))), ap length S.encodes)

-- ---- the answer

-- one such value and a pending one fit a message
none_fit : (n pn first last from : ℕ) (o : Option Found) → FoundShort o → fits n (body.Last pn first last true from [] (told_of o)) ≡ true
none_fit n pn first last from None k = refl
none_fit n pn first last from (Some f) k = rw (le-leb (12 + (33 + 2 + (1 + 8 + (4 + length (text f.value))))) 1048576 (omega arith)) refl

one_fits : (n pn first last from : ℕ) (x : List Op) (o : Option Found) → length (text x) ≤ most_committed → FoundShort o → fits n (body.Last pn first last true from (x ∷ []) (told_of o)) ≡ true
one_fits n pn first last from x None short k = λ j. le-leb (message_length n (body.Last pn first last true from (x ∷ []) None)) most_message (omega (arith, sum_by-cons lengths.value_length x [])) j && true
one_fits n pn first last from x (Some f) short k = λ j. le-leb (message_length n (body.Last pn first last true from (x ∷ []) (told_of (Some f)))) most_message (omega (arith, sum_by-cons lengths.value_length x [])) j && true

module _ (n pn last version : ℕ) (value : List Op) (w : Readings) (stocked : IsStocked version value w) (close : version ≤ suc last) (short : 0 < version → length (text value) ≤ most_committed) where
  abbrev sends : List (List Op)
  sends = sent_values n pn w.first w.last w.record_of (suc last)

  none : w.last ≤ last → sends ≡ []
  none le = rw (lt-ltb w.last (suc last) (omega arith)) refl

  one : w.last ≡ suc last → w.first ≤ suc last → record_at w.record_of (suc last) ≡ Some value → length (text value) ≤ most_committed → sends ≡ value ∷ []
  one e low there few =
      let count : suc w.last - suc last ≡ 1 = omega arith in
      let run : run_from w.record_of w.last (suc last) ≡ value ∷ [] = ap (λ (c : ℕ). run_of w.record_of c (suc last)) count ∙ run_one w.record_of (suc last) value there in
      rw (le-ltb w.last (suc last) (omega arith), le-ltb (suc last) w.first low)
      (ap (longest (λ vs. fits n (body.Last pn w.first w.last false (suc last) vs None))) run ∙ ap (λ b. cond b (value ∷ []) []) (fits_one n pn w.first w.last (suc last) value (omega arith)))

  complete : is_complete n pn w.first w.last (suc last) sends (told_of (pending w)) ≡ true
  complete = elim stocked.near [
    | inr k ↦ (let z = k.0 in at_rest (omega arith))
    | inl k ↦ newest k.0 k.1
  ]
    where
      at_rest : w.last ≤ last → is_complete n pn w.first w.last (suc last) sends (told_of (pending w)) ≡ true
      at_rest le = subst (λ (vs : List (List Op)). is_complete n pn w.first w.last (suc last) vs (told_of (pending w)) ≡ true) (sym (none le))
          (λ j. lt-ltb w.last (suc last + 0) (omega arith) j && none_fit n pn w.first w.last (suc last) (pending w) (pending_short w) j)

      newest : w.last ≡ version → (0 < version → record_at w.record_of version ≡ Some value) → is_complete n pn w.first w.last (suc last) sends (told_of (pending w)) ≡ true
      newest is there = elim (cases_lt last w.last) [
        | inr le ↦ at_rest le
        | inl lt ↦
            let top : version ≡ suc last = omega arith in
            let low : w.first ≤ suc last = elim stocked.low [ inl few ↦ omega arith | inr far ↦ omega arith ] in
            subst (λ (vs : List (List Op)). is_complete n pn w.first w.last (suc last) vs (told_of (pending w)) ≡ true)
            (sym (one (omega arith) low (subst (λ (c : ℕ). record_at w.record_of c ≡ Some value) top (there (omega arith))) (short (omega arith))))
            (λ j. lt-ltb w.last (suc last + 1) (omega arith) j && one_fits n pn w.first w.last (suc last) value (pending w) (short (omega arith)) (pending_short w) j)
      ]

  pub whole_answer : IsWhole (answer_to n pn last w)
  unfolding answer_of
  whole_answer = subst (λ (b : Bool). IsWhole (cond b (body.Last pn w.first w.last true (suc last) sends (told_of (pending w))) (body.Last pn w.first w.last false (suc last) sends None))) (sym complete) refl
