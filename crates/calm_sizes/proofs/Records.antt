-- The records of consecutive versions of a log together: a full map is there once in 25 versions of a service.
use Rattle.law_names.proofs.Runs.{AllValues, first_read, log_from, service_from, view_at}
use Rattle.law_names.proofs.Table.{Kv, Log, Service, area_of, entry, incrementals, ops_in, same_area, version_of_log}
use Rattle.log_model.proofs.Committed.{encoded_text, holds, next_at}
use Rattle.log_model.proofs.FoldWindows.{Holds, keeps_view, view_last}
use Rattle.log_model.proofs.MapSteps.{fine_short}
use Rattle.log_model.proofs.TextSizes.{cost_most, full_cost, value_length}
use Rattle.log_model.proofs.Windows.{Next, incrementals_more}
use Rattle.log_model.specs.LogOfValues.{EncodesValue}
use Rattle.mon_msg.specs.Protocol.Parts.{map_text}
use Rattle.std.proofs.Common.{Bool, List, [], ap, arith, cond, eqb, false, length, length-append, refl, suc, true, zero, ℕ, ◌%◌, ◌*◌, ◌+◌, ◌/◌, ◌<◌, ◌^◌, ◌∙◌, ◌∷◌, ◌≡◌, ◌≤◌}
use Rattle.std.proofs.lemmas.Bool.{eqb-true}

-- how many full maps of both services were put
abbrev pub fulls : List (List ℕ) → ℕ → ℕ
fulls log c = version_of_log Kv log c / 25 + version_of_log Log log c / 25

-- ---- one version

-- the service that has one version more, and how long the record is
record Steps (log : List (List ℕ)) (c : ℕ) : Type 0 where
  service : Service
  more : (u : Service)
      → version_of_log u log (suc c) ≡ version_of_log u log c + cond (same_area (area_of service) (area_of u)) 1 0
  short : length (entry log (suc c)) ≤ 83309 + full_cost (suc (version_of_log service log c))

one : (b : Bool) (x : List ℕ) → length (cond b (x ∷ []) []) ≡ cond b 1 0
one true x = refl
one false x = refl

module _ (log : List (List ℕ)) (within : length log ≤ 2 ^ 62) (all : AllValues log) where
  steps : (c : ℕ) → c < length log → Steps log c
  steps c h = record { service = N.service; more = more; short = short }
    where
      H : Holds log c
      H = holds log within all c (omega arith)

      S : EncodesValue log c
      S = all c h

      N : Next log c S.value.newer
      N =
          next_at log c (omega arith) H (view_at log c) (keeps_view log c (omega arith) H.keeps)
          (view_last log c (omega arith)) S.changes S.value

      encodes : ops_in (entry log (suc c)) ≡ S.changes
      encodes = encoded_text log c (omega arith) H S

      more : (u : Service)
          → version_of_log u log (suc c) ≡ version_of_log u log c + cond (same_area (area_of N.service) (area_of u)) 1 0
      more u =
          ap length (incrementals_more log c S.changes S.value.newer S.value.encoded N encodes u)
          ∙ length-append (incrementals u log c) _
          ∙ ap (λ (k : ℕ). version_of_log u log c + k) (one (same_area (area_of N.service) (area_of u)) N.incremental)

      short : length (entry log (suc c)) ≤ 83309 + full_cost (suc (version_of_log N.service log c))
      short =
          let few = H.chains.few N.service in
          let l = value_length (first_read log_from c) c (area_of N.service) _
          (first_read service_from (version_of_log N.service log c)) N.incremental (map_text N.map)
          S.value.newer N.ops (omega arith) (omega arith) N.makes.short
          (fine_short N.service N.map N.makes.fine) S.changes S.value.encoded in
          omega (arith, l, ap length S.encodes)

  -- each record is short
  pub entry_short : (c : ℕ) → c < length log → length (entry log (suc c)) ≤ 524288
  entry_short c h =
      let l = (steps c h).short in
      let f = cost_most (suc (version_of_log (steps c h).service log c)) in
      omega (arith, l, f)

  -- a full map is put if the version is a multiple of 25
  costs : (n : ℕ) → full_cost (suc n) + 393304 * (n / 25) ≤ 393304 * (suc n / 25)
  costs n = by (eqb (suc n % 25) 0) refl
    where
      by : (b : Bool) → eqb (suc n % 25) 0 ≡ b → cond b 393304 0 + 393304 * (n / 25) ≤ 393304 * (suc n / 25)
      by true e =
          let z = eqb-true (suc n % 25) 0 e in let q : suc n / 25 ≡ suc (n / 25) = omega arith in omega (arith, q)
      by false e = let q : n / 25 ≤ suc n / 25 = omega arith in omega (arith, q)

  pub record_short : (c : ℕ) → c < length log
      → length (entry log (suc c)) + 393304 * fulls log c ≤ 83309 + 393304 * fulls log (suc c)
  record_short c h = by (steps c h).service (steps c h).more (steps c h).short
    where
      by : (s : Service) → ((u : Service)
          → version_of_log u log (suc c) ≡ version_of_log u log c + cond (same_area (area_of s) (area_of u)) 1 0)
          → length (entry log (suc c)) ≤ 83309 + full_cost (suc (version_of_log s log c))
          → length (entry log (suc c)) + 393304 * fulls log c ≤ 83309 + 393304 * fulls log (suc c)
      by Kv more short =
          let a = more Kv in
          let b = more Log in
          let k : version_of_log Kv log (suc c) ≡ suc (version_of_log Kv log c) = omega arith in
          let l : version_of_log Log log (suc c) ≡ version_of_log Log log c = omega arith in
          let e = costs (version_of_log Kv log c) in
          let p = ap (λ (n : ℕ). n / 25) k in
          let q = ap (λ (n : ℕ). n / 25) l in
          omega (arith, e, p, q, short)
      by Log more short =
          let a = more Kv in
          let b = more Log in
          let k : version_of_log Kv log (suc c) ≡ version_of_log Kv log c = omega arith in
          let l : version_of_log Log log (suc c) ≡ suc (version_of_log Log log c) = omega arith in
          let e = costs (version_of_log Log log c) in
          let p = ap (λ (n : ℕ). n / 25) k in
          let q = ap (λ (n : ℕ). n / 25) l in
          omega (arith, e, p, q, short)

  -- no service has more new versions than the log
  rise : (s : Service) (c : ℕ) → c < length log → version_of_log s log (suc c) ≤ suc (version_of_log s log c)
  rise s c h = let m = (steps c h).more s in by (same_area (area_of (steps c h).service) (area_of s)) m
    where
      by : (b : Bool) → version_of_log s log (suc c) ≡ version_of_log s log c + cond b 1 0
          → version_of_log s log (suc c) ≤ suc (version_of_log s log c)
      by true m = omega arith
      by false m = omega arith

  rises : (s : Service) (from count : ℕ) → from + count ≤ length log
      → version_of_log s log (from + count) ≤ version_of_log s log from + count
  rises s from zero h = let e : from + 0 ≡ from = omega arith in omega (arith, ap (version_of_log s log) e)
  rises s from (suc count) h =
      let a = rises s from count (omega arith) in
      let b = rise s (from + count) (omega arith) in
      let e : from + suc count ≡ suc (from + count) = omega arith in
      omega (arith, a, b, ap (version_of_log s log) e)

  -- ---- `count` versions after one

  abbrev pub records_length : (from count : ℕ) → ℕ
  records_length from zero = 0
  records_length from (suc count) = length (entry log (suc from)) + records_length (suc from) count

  lengths : (count from : ℕ) → from + count ≤ length log
      → records_length from count + 393304 * fulls log from ≤ 83309 * count + 393304 * fulls log (from + count)
  lengths zero from h = let e : from + 0 ≡ from = omega arith in omega (arith, ap (fulls log) e)
  lengths (suc count) from h =
      let a = record_short from (omega arith) in
      let b = lengths count (suc from) (omega arith) in
      let e : from + suc count ≡ suc from + count = omega arith in
      let f = ap (fulls log) e in
      omega (arith, a, b, f)

  pub records_short : (count from : ℕ) → from + count ≤ length log
      → records_length from count ≤ 83309 * count + 393304 * (2 * (count / 25 + 1))
  records_short count from h =
      let a = lengths count from h in
      let k = rises Kv from count h in
      let l = rises Log from count h in
      let p : version_of_log Kv log (from + count) / 25 ≤ version_of_log Kv log from / 25 + (count / 25 + 1) =
      omega arith in
      let q : version_of_log Log log (from + count) / 25 ≤ version_of_log Log log from / 25 + (count / 25 + 1) =
      omega arith in
      omega (arith, a, p, q)
