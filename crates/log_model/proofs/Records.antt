-- The record of a version, if it is read, is the value that the log's entry encodes.
use Rattle.std.proofs.Common.{◌≡◌, ℕ, zero, suc, ◌+◌, ◌-◌, ◌≤◌, ◌<◌, ◌^◌, Bool, true, false, cond, leb, List, [], ◌∷◌, ◌++◌, length, min, Option, Some, None, ◌⊎◌, inl, inr, refl, sym, ap, subst, ◌∙◌, arith}
use Rattle.std.specs.Option.{option_map}
use Rattle.mon_tx.specs.declared.op.Op.{Op}
use Rattle.mon_tx.specs.Decision.{Cell}
use Rattle.mon_tx.specs.Decode.{HasText, ops_in, transaction_of}
use Rattle.mon_tx.specs.Text.{text}
use Rattle.mon_tx.proofs.Again.{transaction_again}
use Rattle.mon_msg.specs.Fold.{entry}
use Rattle.mon_msg.specs.Protocol.Changes.{Learn, ops_of, encoded}
use Rattle.mon_msg.specs.Protocol.Learning.{learn_changes}
use Rattle.mon_msg.specs.Protocol.Readings.{Readings}
use Rattle.mon_msg.specs.Protocol.Records.{may_begin, if_it_may_begin, transaction_in, record_at, run_of, run_from}
use Rattle.mon_msg.specs.Protocol.Replay.{most_versions, most_bytes, more_of, step_of}
use Rattle.log_model.specs.LogOfValues.{view_at, AllValues}
use Rattle.log_model.specs.Windows.{log_from, within, Keeps}
use Rattle.log_model.proofs.AnyValue.{value_spares}
use Rattle.log_model.proofs.Beginnings.{begun_text}
use Rattle.log_model.proofs.Committed.{ops_again, keeps}
use Rattle.log_model.proofs.FoldWindows.{keeps_view, view_last}
use Rattle.log_model.proofs.Older.{decides_same}
use Rattle.log_model.proofs.Spares.{Spares, by_name, at_name, spares_append, spares_learned}

-- a version's value: its text is the log's entry, which is read as it
pub record IsVersion (log : List (List ℕ)) (v : ℕ) (x : List Op) : Type 0 where
  pub encodes : entry log v ≡ text x
  pub reads : ops_in (entry log v) ≡ x

-- values are those of the versions from v on
abbrev pub AreVersions : List (List ℕ) → ℕ → List (List Op) → Type 0
AreVersions log v [] = Unit {0}
AreVersions log v (x ∷ xs) = IsVersion log v x × AreVersions log (suc v) xs

pub first_versions : (log : List (List ℕ)) (xs ys : List (List Op)) (v : ℕ) → AreVersions log v (xs ++ ys) → AreVersions log v xs
first_versions log [] ys v h = tt
first_versions log (x ∷ xs) ys v h = (h.0, first_versions log xs ys (suc v) h.1)

-- the record of a version is missing, or it is the log's entry
abbrev pub MayHold : List (List ℕ) → ℕ → Cell → Type 0
MayHold log v c = (c ≡ None) ⊎ (c ≡ Some (entry log v))

same_value : (x y : List Op) (b : Bool) → cond b (Some x) None ≡ Some y → x ≡ y
same_value x y true e = cc
same_value x y false e = absurd cc

module _ (log : List (List ℕ)) (fits : length log ≤ 2 ^ 62) (all : AllValues log) where
  pub value_has_text : (v : ℕ) (lt : v < length log) → HasText ((all v lt).changes)
  value_has_text v lt =
      let S = all v lt in
      begun_text log v (omega arith) all (omega arith) (view_at log v) (keeps_view log v (omega arith) (keeps log fits all v (omega arith))) (view_last log v (omega arith)) S.changes S.value

  pub read_version : (v : ℕ) → v < length log → (x : List Op) → transaction_in (Some (entry log (suc v))) ≡ Some x → IsVersion log (suc v) x
  read_version v lt x e =
      let S = all v lt in
      let has = value_has_text v lt in
      let same : S.changes ≡ x = same_value S.changes x (may_begin S.changes) (sym (ap if_it_may_begin (ap transaction_of S.encodes ∙ transaction_again S.changes has)) ∙ e) in
      record { encodes = S.encodes ∙ ap text same; reads = ap ops_in S.encodes ∙ ops_again S.changes has ∙ same }

  pub held_version : (v : ℕ) → v < length log → (c : Cell) → MayHold log (suc v) c → (x : List Op) → transaction_in c ≡ Some x → IsVersion log (suc v) x
  held_version v lt c (inl none) x e = let g : None ≡ Some x = sym (ap transaction_in none) ∙ e in absurd cc
  held_version v lt c (inr some) x e = read_version v lt x (sym (ap transaction_in some) ∙ e)

  -- ---- runs

  module _ (records : ℕ → Cell) where
    pub run_versions : (count v : ℕ) → v + count ≤ length log → ((u : ℕ) → v ≤ u → u < v + count → MayHold log (suc u) (records (suc u))) → AreVersions log (suc v) (run_of records count (suc v))
    unfolding run_of record_at
    run_versions zero v le held = tt
    run_versions (suc count) v le held =
        by (transaction_in (records (suc v))) refl (λ _. run_versions count (suc v) (omega arith) (λ u from to. held u (omega arith) (omega arith)))
      where
        by : (o : Option (List Op)) → transaction_in (records (suc v)) ≡ o → (Unit {0} → AreVersions log (suc (suc v)) (run_of records count (suc (suc v))))
            → AreVersions log (suc v) (elim o as (λ _. List (List Op)) [ None ↦ [] | Some value ↦ value ∷ run_of records count (suc (suc v)) ])
        by None e more = tt
        by (Some x) e more = (held_version v (omega arith) (records (suc v)) (held v (omega arith) (omega arith)) x e, more tt)

  -- a store that keeps the first c versions
  pub keeps_held : (c : ℕ) (w : Readings) → Keeps log c w → (v : ℕ) → v ≤ c → MayHold log v (w.record_of v)
  keeps_held c w K v le = by (within (log_from c) (suc c) v) (K.records v le)
    where
      by : (b : Bool) → w.record_of v ≡ cond b (Some (entry log v)) None → MayHold log v (w.record_of v)
      by true e = inr e
      by false e = inl e

run_length : (records : ℕ → Cell) (count v : ℕ) → length (run_of records count v) ≤ count
unfolding run_of
run_length records zero v = omega arith
run_length records (suc count) v = by (record_at records v) (run_length records count (suc v))
  where
    by : (o : Option (List Op)) → length (run_of records count (suc v)) ≤ count
        → length (elim o as (λ _. List (List Op)) [ None ↦ [] | Some value ↦ value ∷ run_of records count (suc v) ]) ≤ suc count
    by None h = omega arith
    by (Some x) h = omega arith

pub run_from_length : (records : ℕ → Cell) (last v : ℕ) → length (run_from records last (suc v)) ≤ last - v
run_from_length records last v = let l = run_length records (suc last - suc v) (suc v) in omega arith

-- ---- the versions of a step of a replay

module _ (log : List (List ℕ)) (fits : length log ≤ 2 ^ 62) (all : AllValues log) (records : ℕ → Cell) where
  -- this many versions at most, from v + 1 on
  pub record IsStep (count v : ℕ) (values : List (List Op)) : Type 0 where
    pub versions : AreVersions log (suc v) values
    pub few : length values ≤ count

  more_step : (count room v : ℕ) (values : List (List Op)) → v + count ≤ length log → ((u : ℕ) → v ≤ u → u < v + count → MayHold log (suc u) (records (suc u)))
      → more_of records count room (suc v) ≡ Some values → IsStep count v values
  unfolding more_of record_at
  more_step zero room v values le held e = let none : [] ≡ values = cc in subst (IsStep 0 v) none (record { versions = tt; few = omega arith })
  more_step (suc count) room v values le held e =
      by (transaction_in (records (suc v))) refl e (λ others left. more_step count left (suc v) others (omega arith) (λ u from to. held u (omega arith) (omega arith)))
    where
      by : (o : Option (List Op)) → transaction_in (records (suc v)) ≡ o
          → elim o as (λ _. Option (List (List Op))) [
            | None ↦ None
            | Some value ↦ cond (leb (length (text value)) room) (option_map (λ values. value ∷ values) (more_of records count (room - length (text value)) (suc (suc v)))) (Some [])
          ] ≡ Some values
          → ((others : List (List Op)) (left : ℕ) → more_of records count left (suc (suc v)) ≡ Some others → IsStep count (suc v) others) → IsStep (suc count) v values
      by None t q more = absurd cc
      by (Some x) t q more = in_room (leb (length (text x)) room) q
        where
          one_more : (p : Option (List (List Op))) → more_of records count (room - length (text x)) (suc (suc v)) ≡ p → option_map (λ values. x ∷ values) p ≡ Some values → IsStep (suc count) v values
          one_more None s r = absurd cc
          one_more (Some others) s r =
              let is : x ∷ others ≡ values = cc in
              let rest = more others (room - length (text x)) s in
              subst (IsStep (suc count) v) is (record {
                versions = (held_version log fits all v (omega arith) (records (suc v)) (held v (omega arith) (omega arith)) x t, rest.versions);
                few = (let f = rest.few in omega arith);
              })

          in_room : (b : Bool) → cond b (option_map (λ values. x ∷ values) (more_of records count (room - length (text x)) (suc (suc v)))) (Some []) ≡ Some values → IsStep (suc count) v values
          in_room true r = one_more (more_of records count (room - length (text x)) (suc (suc v))) refl r
          in_room false r = let none : [] ≡ values = cc in subst (IsStep (suc count) v) none (record { versions = tt; few = omega arith })

  pub step_versions : (left v : ℕ) (values : List (List Op)) → v + left ≤ length log → ((u : ℕ) → v ≤ u → u < v + left → MayHold log (suc u) (records (suc u)))
      → step_of records left (suc v) ≡ Some values → IsStep left v values
  unfolding step_of record_at
  step_versions zero v values le held e = let none : [] ≡ values = cc in subst (IsStep 0 v) none (record { versions = tt; few = omega arith })
  step_versions (suc left) v values le held e = by (transaction_in (records (suc v))) refl e
    where
      by : (o : Option (List Op)) → transaction_in (records (suc v)) ≡ o
          → elim o as (λ _. Option (List (List Op))) [
            | None ↦ None
            | Some value ↦ option_map (λ values. value ∷ values) (more_of records (min left (most_versions - 1)) (most_bytes - length (text value)) (suc (suc v)))
          ] ≡ Some values
          → IsStep (suc left) v values
      by None t q = absurd cc
      by (Some x) t q = one_more (more_of records (min left (most_versions - 1)) (most_bytes - length (text x)) (suc (suc v))) refl q
        where
          one_more : (p : Option (List (List Op))) → more_of records (min left (most_versions - 1)) (most_bytes - length (text x)) (suc (suc v)) ≡ p
              → option_map (λ values. x ∷ values) p ≡ Some values → IsStep (suc left) v values
          one_more None s r = absurd cc
          one_more (Some others) s r =
              let is : x ∷ others ≡ values = cc in
              let rest = more_step (min left (most_versions - 1)) (most_bytes - length (text x)) (suc v) others (omega arith) (λ u from to. held u (omega arith) (omega arith)) s in
              subst (IsStep (suc left) v) is (record {
                versions = (held_version log fits all v (omega arith) (records (suc v)) (held v (omega arith) (omega arith)) x t, rest.versions);
                few = (let f = rest.few in omega arith);
              })

-- ---- versions spare a monitor's own numbers

module _ (log : List (List ℕ)) (fits : length log ≤ 2 ^ 62) (all : AllValues log) where
  changes_spare : (v : ℕ) (lt : v < length log) → Spares ((all v lt).changes)
  changes_spare v lt =
      let V = (all v lt).value in
      let newer = value_spares (view_at log v) V.command V.asked V.newer V.made in
      by_name ((all v lt).changes) (λ a k e. decides_same V.encoded a k ∙ at_name V.newer newer a k e)

  pub version_spares : (v : ℕ) → v < length log → (x : List Op) → IsVersion log (suc v) x → Spares x
  version_spares v lt x V =
      let S = all v lt in
      let has = value_has_text log fits all v lt in
      subst Spares (sym (ap ops_in S.encodes ∙ ops_again S.changes has) ∙ V.reads) (changes_spare v lt)

  pub versions_spare : (values : List (List Op)) (v : ℕ) → v + length values ≤ length log → AreVersions log (suc v) values → Spares (encoded (learn_changes (suc v) values))
  versions_spare [] v le h = by_name [] (λ a k e. refl)
  versions_spare (x ∷ values) v le h =
      spares_append (ops_of (Learn (suc v) x)) (encoded (learn_changes (suc (suc v)) values)) (spares_learned (suc v) x (version_spares v (omega arith) x h.0)) (versions_spare values (suc v) (omega arith) h.1)
