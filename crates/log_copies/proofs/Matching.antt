-- What a monitor of the log sends of it: its records, the runs of them, and what it shows.
use Rattle.law_names.proofs.Runs.{AllValues, Keeps, first_read, log_from, service_from, within}
use Rattle.law_names.proofs.Table.{Last, Op, Reply, Service, Store, cell, changes_after, entry, fits_reply, incrementals, learn_changes, longest, map_after, map_of_log, news, news_from, number, ops_in, readings_of, run_from, run_of, shown, since, text, version_of_log}
use Rattle.log_copies.proofs.Learning.{learned}
use Rattle.log_copies.specs.Versions.{HasVersions, store_after, values_from}
use Rattle.log_model.proofs.Committed.{keeps, keeps_shared, ops_again, shown_shared}
use Rattle.log_model.proofs.Logs.{IsPrefixOf, incrementals_stay}
use Rattle.log_model.proofs.LongestPrefix.{longest_is_prefix, others_remain}
use Rattle.log_model.proofs.Records.{AreVersions, IsVersion, keeps_held, run_versions, value_has_text}
use Rattle.log_model.proofs.RowReadings.{read_some}
use Rattle.log_model.specs.Windows.{Shows}
use Rattle.mon_tx.specs.declared.key.Area.TheVariants as area
use Rattle.mon_tx.specs.declared.key.Key.TheVariants as key
use Rattle.mon_wire.specs.declared.reply.Reply.TheVariants as reply
use Rattle.std.proofs.Common.{Bool, IsTrue, List, None, Some, [], ap, arith, cond, drop, false, inl, inr, leb, length, map, max, refl, subst, suc, sym, take, true, zero, ℕ, ◌++◌, ◌+◌, ◌-◌, ◌<◌, ◌^◌, ◌↔◌, ◌∙◌, ◌∷◌, ◌≡◌, ◌≤◌, ◌⊎◌}
use Rattle.std.proofs.lemmas.Bool.{cases_lt, le-leb, lt-ltb}
use Rattle.std.proofs.lemmas.List.{get_or_past}

-- ---- parts of runs

pub drop_versions : (log : List (List ℕ)) (k v : ℕ) (xs : List (List Op)) → AreVersions log v xs → AreVersions log (v + k) (drop k xs)
drop_versions log zero v xs h = subst (λ (u : ℕ). AreVersions log u xs) (omega arith) h
drop_versions log (suc k) v [] h = tt
drop_versions log (suc k) v (x ∷ xs) h = subst (λ (u : ℕ). AreVersions log u (drop k xs)) (omega arith) (drop_versions log k (suc v) xs h.1)

-- of values from a version on, those above the last one
pub news_versions : (log : List (List ℕ)) (last from : ℕ) (values : List (List Op)) → from ≤ suc last → AreVersions log from values → AreVersions log (suc last) (news last from values)
news_versions log last from values le h = subst (λ (u : ℕ). AreVersions log u (news last from values)) (omega arith) (drop_versions log (suc last - from) from values h)

pub news_begin : (last from : ℕ) → from ≤ suc last → news_from last from ≡ suc last
news_begin last from le = omega arith

-- ---- what is sent of the log up to its version c

abbrev pub IsTold : List (List ℕ) → ℕ → Reply → Type 0
IsTold log c (reply.Shown s paxos version map) = (paxos ≡ c) × (map ≡ map_of_log s log c) × (version ≡ version_of_log s log c)
IsTold log c (reply.Since s from told more) = (told ≡ take (length told) (drop from (incrementals s log c))) × (IsTrue more ↔ from + length told < length (incrementals s log c))
IsTold log c other = Unit {0}

-- it lasts when the log grows
pub told_stays : {log more : List (List ℕ)} → IsPrefixOf log more → (c : ℕ) → c ≤ length log → (r : Reply) → IsTold log c r → IsTold more c r
told_stays F c le (reply.Shown s paxos version map) h =
    let same = sym (incrementals_stay F s c le) in
    (h.0, h.1 ∙ ap (λ (is : List (List ℕ)). map_after s is) same, h.2 ∙ ap (λ (is : List (List ℕ)). length is) same)
told_stays F c le (reply.Since s from told more) h =
    subst (λ (is : List (List ℕ)). (told ≡ take (length told) (drop from is)) × (IsTrue more ↔ from + length told < length is)) (sym (incrementals_stay F s c le)) h
told_stays F c le other h = tt

module _ (log : List (List ℕ)) (fits : length log ≤ 2 ^ 62) (all : AllValues log) (c : ℕ) (m : Store) (V : HasVersions log c m) where
  pub monitor_keeps : Keeps log c (readings_of m)
  monitor_keeps = keeps_shared log c m V.folded V.last (keeps log fits all c V.within)

  pub read_last : (readings_of m).last ≡ c
  unfolding readings_of
  read_last = V.last

  -- ---- records

  -- from the first version that is kept
  pub record_there : (v : ℕ) → max 1 (number m area.Paxos key.FirstCommitted) ≤ v → v ≤ c → cell m area.Paxos (key.Version v) ≡ Some (entry log v)
  unfolding readings_of
  record_there v low high = let K = monitor_keeps in K.records v high ∙ here
    where
      from : log_from c ≤ v
      from = let K = monitor_keeps in let f = K.first in omega (arith, f, read_some log_from c (omega arith))

      here : cond (within (log_from c) (suc c) v) (Some (entry log v)) None ≡ Some (entry log v)
      here = rw (le-leb (log_from c) v from, lt-ltb v (suc c) (omega arith)) refl

  -- the values that it sends from a version on
  pub run_told : (v : ℕ) → AreVersions log (suc v) (run_from (readings_of m).record_of c (suc v))
  unfolding readings_of run_of
  run_told v = by (cases_lt c v)
    where
      by : (c < v) ⊎ (v ≤ c) → AreVersions log (suc v) (run_from (λ u. cell m area.Paxos (key.Version u)) c (suc v))
      by (inl above) = let none : suc c - suc v ≡ 0 = omega arith in subst (λ (n : ℕ). AreVersions log (suc v) (run_of (λ u. cell m area.Paxos (key.Version u)) n (suc v))) (sym none) (nothing v)
        where
          nothing : (v : ℕ) → AreVersions log (suc v) (run_of (λ u. cell m area.Paxos (key.Version u)) 0 (suc v))
          nothing v = tt
      by (inr within) =
          run_versions log fits all (λ u. cell m area.Paxos (key.Version u)) (suc c - suc v) v (let w = V.within in omega arith)
          (λ u from to. keeps_held log fits all c (readings_of m) monitor_keeps (suc u) (omega arith))

  -- ---- services

  shows : Shows log c (readings_of m)
  shows = shown_shared log c m V.folded fits all V.within

  pub shown_told : (s : Service) → IsTold log c (shown (readings_of m) s)
  shown_told s = let S = shows in (read_last, S.map s, S.version s)

  pub since_told : (s : Service) (v : ℕ) → IsTold log c (since (readings_of m) s v)
  since_told s v = let S = shows in subst (IsTold log c) (sym (S.since s v)) (by (leb (first_read service_from (version_of_log s log c)) (suc v)))
    where
      by : (b : Bool) → IsTold log c (cond b (changes_after (readings_of m) s v (drop v (incrementals s log c))) (reply.Shown s (readings_of m).last (version_of_log s log c) (map_of_log s log c)))
      by true = let kept = drop v (incrementals s log c) in (longest_is_prefix kept, others_remain (incrementals s log c) v (length (longest fits_reply kept)))
      by false = (read_last, refl, refl)

-- ---- values of versions

-- a version that is encoded is within the log
pub one_within : (log : List (List ℕ)) (v : ℕ) (x : List Op) → IsVersion log (suc v) x → v < length log
one_within log v x V = by (cases_lt v (length log))
  where
    by : (v < length log) ⊎ (length log ≤ v) → v < length log
    by (inl lt) = lt
    by (inr le) = let none : [] ≡ text x = sym (get_or_past log v [] le) ∙ V.encodes in absurd cc

pub versions_within : (log : List (List ℕ)) (xs : List (List Op)) (v : ℕ) (x : List Op) → AreVersions log (suc v) (x ∷ xs) → v + length (x ∷ xs) ≤ length log
versions_within log [] v x h = let lt = one_within log v x h.0 in omega arith
versions_within log (y ∷ xs) v x h = let rest = versions_within log xs (suc v) y h.1 in omega arith

-- they are those that the entries encode
pub versions_are : (log : List (List ℕ)) (xs : List (List Op)) (v : ℕ) → AreVersions log v xs → xs ≡ values_from log v (length xs)
versions_are log [] v h = refl
versions_are log (x ∷ xs) v h =
    let rest = versions_are log xs (suc v) h.1 in
    let next : suc v ≡ v + 1 = omega arith in
    let same : values_from log (suc v) (length xs) ≡ values_from log (v + 1) (length xs) = ap (λ (u : ℕ). values_from log u (length xs)) next in
    (λ i. sym h.0.reads i ∷ (rest ∙ same) i)

pub are_versions : (log : List (List ℕ)) → length log ≤ 2 ^ 62 → AllValues log → (count v : ℕ) → v + count ≤ length log → AreVersions log (suc v) (values_from log (suc v) count)
are_versions log fits all zero v le = tt
are_versions log fits all (suc count) v le =
    let S = all v (omega arith) in
    let has = value_has_text log fits all v (omega arith) in
    let next : suc (suc v) ≡ suc v + 1 = omega arith in
    let back : ops_in (entry log (suc v)) ≡ S.changes = ap ops_in S.encodes ∙ ops_again S.changes has in (
      record { encodes = S.encodes ∙ ap text (sym back); reads = refl },
      subst (λ (u : ℕ). AreVersions log (suc (suc v)) (values_from log u count)) next (are_versions log fits all count (suc v) (omega arith)),
    )

values_length : (log : List (List ℕ)) (count v : ℕ) → length (values_from log v count) ≡ count
values_length log zero v = refl
values_length log (suc count) v = ap suc (values_length log count (v + 1))

-- the next ones of which are learned
pub learned_values : (log : List (List ℕ)) → length log ≤ 2 ^ 62 → AllValues log → (c : ℕ) (m : Store) → HasVersions log c m → (count : ℕ) → suc c + count ≤ length log
    → HasVersions log (suc c + count) (store_after (learn_changes (suc c) (values_from log (suc c) (suc count)) ++ Last (suc c + count) ∷ []) m)
learned_values log fits all c m V count le =
    let first = ops_in (entry log (suc c)) in
    let rest = values_from log (suc c + 1) count in
    let long : length rest ≡ count = values_length log count (suc c + 1) in
    subst (λ (n : ℕ). HasVersions log (suc c + n) (store_after (learn_changes (suc c) (first ∷ rest) ++ Last (suc c + n) ∷ []) m)) long
    (learned log fits all c m V first rest (are_versions log fits all (suc count) c (omega arith)) (omega (arith, long)))
