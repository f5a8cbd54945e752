-- What is read of a row that keeps the windows of its incrementals.
use Rattle.std.proofs.Common.{◌≡◌, ℕ, zero, suc, ◌+◌, ◌-◌, ◌*◌, ◌/◌, ◌%◌, ◌<◌, ◌≤◌, ◌^◌, ◌&&◌, cond, leb, ltb, List, [], ◌∷◌, length, get_or, take, drop, Some, None, ◌⊎◌, inl, inr, refl, sym, ap, ◌∙◌, arith}
use Rattle.std.proofs.lemmas.Bool.{cases_lt, cond_both, cond-true, eq-eqb, le-leb, lt-leb, leb-true, lt-ltb, le-ltb}
use Rattle.std.proofs.Math.Seq.{drop-cons}
use Rattle.std.specs.Option.{option_and_then}
use Rattle.mon_tx.specs.declared.key.Key.{Key}
use Rattle.mon_tx.specs.declared.key.Key.TheVariants as key
use Rattle.mon_tx.specs.Map.{number_bytes, number_in}
use Rattle.mon_tx.proofs.Places.{number_in-bytes}
use Rattle.mon_wire.specs.declared.reply.Reply.TheVariants as reply
use Rattle.mon_wire.specs.declared.request.Service.{Service}
use Rattle.mon_wire.specs.declared.request.Service.TheVariants.{Kv, Log}
use Rattle.mon_msg.specs.Fold.{entry, map_after}
use Rattle.mon_msg.specs.Protocol.Maps.{next_map, decoded_map, empty_map}
use Rattle.mon_msg.specs.Protocol.Parts.{map_text}
use Rattle.mon_msg.specs.Protocol.Services.{service_first, service_last, full_latest, read_on, full_map, read_map, kept_from}
use Rattle.mon_msg.specs.Protocol.Reads.{changes_after, since}
use Rattle.mon_msg.specs.Protocol.Readings.{Readings}
use Rattle.log_model.specs.Windows.{service_from, within, is_full, if_any, row_after, first_read}
use Rattle.log_model.proofs.MapSteps.{Chain, read_back, after_last}

pub none_read : number_in None ≡ 0
unfolding number_in
none_read = refl

pub first_number : (from : ℕ → ℕ) (n : ℕ) → from n ≤ 2 ^ 62 → number_in (if_any n (number_bytes (from n))) ≡ first_read from n
first_number from zero h = none_read
first_number from (suc n) h = number_in-bytes (from (suc n)) h

pub read_some : (from : ℕ → ℕ) (n : ℕ) → 1 ≤ n → first_read from n ≡ from n
read_some from zero h = absurd (omega arith)
read_some from (suc n) h = refl

drop_all : {A : Type 0} (xs : List A) (n : ℕ) → length xs ≤ n → drop n xs ≡ []
drop_all [] zero h = refl
drop_all [] (suc n) h = refl
drop_all (x ∷ xs) zero h = absurd (omega arith)
drop_all (x ∷ xs) (suc n) h = drop_all xs n (omega arith)

nothing_before : (s : Service) → map_after s [] ≡ empty_map s
nothing_before Kv = refl
nothing_before Log = refl

-- a row that is that of incrementals
pub record IsRow (w : Readings) (s : Service) (is : List (List ℕ)) : Type 0 where
  pub cell : (k : Key) → w.row s k ≡ row_after s is k

module _ (w : Readings) (s : Service) (is : List (List ℕ)) (row : IsRow w s is) (fits : length is ≤ 2 ^ 62) where
  pub last_is : service_last w s ≡ length is
  last_is = ap number_in (row.cell key.LastCommitted) ∙ first_number (λ v. v) (length is) fits ∙ itself (length is)
    where
      itself : (v : ℕ) → first_read (λ v. v) v ≡ v
      itself zero = refl
      itself (suc v) = refl

  pub first_is : service_first w s ≡ first_read service_from (length is)
  first_is = let h : service_from (length is) ≤ 2 ^ 62 = omega arith in ap number_in (row.cell key.FirstCommitted) ∙ first_number service_from (length is) h

  latest_is : full_latest w s ≡ 25 * (length is / 25)
  latest_is = ap number_in (row.cell key.FullLatest) ∙ by (cases_lt (length is) 25)
    where
      by : (length is < 25) ⊎ (25 ≤ length is) → number_in (cond (ltb (length is) 25) None (Some (number_bytes (25 * (length is / 25))))) ≡ 25 * (length is / 25)
      by (inl lt) = let e : 0 ≡ 25 * (length is / 25) = omega arith in rw (lt-ltb (length is) 25 lt) (none_read ∙ e)
      by (inr le) = let h : 25 * (length is / 25) ≤ 2 ^ 62 = omega arith in rw (le-ltb (length is) 25 le) (number_in-bytes (25 * (length is / 25)) h)

  version_is : (v : ℕ) → service_from (length is) ≤ v → v ≤ length is → w.row s (key.Version v) ≡ Some (entry is v)
  version_is v h g = row.cell (key.Version v) ∙ here
    where
      here : cond (within (service_from (length is)) (suc (length is)) v) (Some (entry is v)) None ≡ Some (entry is v)
      here = rw (le-leb (service_from (length is)) v h, lt-ltb v (suc (length is)) (omega arith)) refl

  full_is : (v : ℕ) → v % 25 ≡ 0 → service_from (length is) ≤ v → v ≤ length is → w.row s (key.Full v) ≡ Some (map_text (map_after s (take v is)))
  full_is v m h g = row.cell (key.Full v) ∙ here
    where
      here : cond (within (service_from (length is)) (suc (length is)) v && is_full v) (Some (map_text (map_after s (take v is)))) None ≡ Some (map_text (map_after s (take v is)))
      here = rw (le-leb (service_from (length is)) v h, lt-ltb v (suc (length is)) (omega arith), eq-eqb (v % 25) 0 m) refl

  full_none : w.row s (key.Full 0) ≡ None
  full_none = row.cell (key.Full 0) ∙ here
    where
      here : cond (within (service_from (length is)) (suc (length is)) 0 && is_full 0) (Some (map_text (map_after s (take 0 is)))) None ≡ None
      here = rw (lt-leb (service_from (length is)) 0 (omega arith)) refl

  kept_on : (count v : ℕ) → v + count ≡ length is → service_from (length is) ≤ suc v → kept_from w s count (suc v) ≡ drop v is
  unfolding kept_from
  kept_on zero v e h = sym (drop_all is v (omega arith))
  kept_on (suc count) v e h =
      rw (version_is (suc v) h (omega arith), kept_from) (ap (λ (z : List (List ℕ)). get_or is v [] ∷ z) (kept_on count (suc v) (omega arith) (omega arith)) ∙ sym (drop-cons is v [] (omega arith)))

  kept_is : (v : ℕ) → first_read service_from (length is) ≤ suc v → kept_from w s (length is - v) (suc v) ≡ drop v is
  unfolding kept_from
  kept_is v h = by (cases_lt v (length is))
    where
      by : (v < length is) ⊎ (length is ≤ v) → kept_from w s (length is - v) (suc v) ≡ drop v is
      by (inl lt) = kept_on (length is - v) v (omega arith) (omega (arith, read_some service_from (length is) (omega arith)))
      by (inr le) = let z : length is - v ≡ 0 = omega arith in rw z (sym (drop_all is v le))

  -- ---- the map

  module _ (chain : Chain s is) where
    on_is : (count v : ℕ) → v + count ≡ length is → service_from (length is) ≤ suc v → read_on w s count (suc v) (map_after s (take v is)) ≡ map_after s (take (length is) is)
    unfolding read_on
    on_is zero v e h = let q : v ≡ length is = omega arith in ap (λ (u : ℕ). map_after s (take u is)) q
    on_is (suc count) v e h =
        let step : option_and_then (next_map s (map_after s (take v is))) (w.row s (key.Version (suc v))) ≡ Some (map_after s (take (suc v) is)) =
        ap (option_and_then (next_map s (map_after s (take v is)))) (version_is (suc v) h (omega arith)) ∙ chain.next v (omega arith) in
        rw (step, read_on) (on_is count (suc v) (omega arith) (omega arith))

    full_map_is : full_map w s ≡ option_and_then (decoded_map s) (w.row s (key.Full (25 * (length is / 25))))
    full_map_is =
        (λ i. cond (leb (latest_is i) (last_is i)) (option_and_then (decoded_map s) (w.row s (key.Full (latest_is i)))) None)
        ∙ cond-true (leb (25 * (length is / 25)) (length is)) _ _ (le-leb (25 * (length is / 25)) (length is) (omega arith))

    pub map_is : read_map w s ≡ map_after s is
    unfolding read_map
    map_is = by (cases_lt (length is) 25)
      where
        few : length is < 25 → full_map w s ≡ None
        few lt =
            let z : 25 * (length is / 25) ≡ 0 = omega arith in
            full_map_is ∙ ap (λ (v : ℕ). option_and_then (decoded_map s) (w.row s (key.Full v))) z ∙ ap (option_and_then (decoded_map s)) full_none

        some : 25 ≤ length is → full_map w s ≡ Some (map_after s (take (25 * (length is / 25)) is))
        some le =
            full_map_is ∙ ap (option_and_then (decoded_map s)) (full_is (25 * (length is / 25)) (omega arith) (omega arith) (omega arith))
            ∙ read_back s _ (chain.fine (25 * (length is / 25)) (omega arith))

        by : (length is < 25) ⊎ (25 ≤ length is) → read_map w s ≡ map_after s is
        by (inl lt) =
            rw (few lt) (ap (λ (c : ℕ). read_on w s c 1 (empty_map s)) last_is ∙ ap (read_on w s (length is) 1) (sym (nothing_before s)) ∙ on_is (length is) 0 (omega arith) (omega arith) ∙ after_last s is)
        by (inr le) =
            rw (some le) ((λ i. read_on w s (last_is i - latest_is i) (suc (latest_is i)) (map_after s (take (25 * (length is / 25)) is)))
            ∙ on_is (length is - 25 * (length is / 25)) (25 * (length is / 25)) (omega arith) (omega arith) ∙ after_last s is)

    -- ---- what changed it

    pub since_is : (v : ℕ) → since w s v ≡ cond (leb (first_read service_from (length is)) (suc v)) (changes_after w s v (drop v is)) (reply.Shown s w.last (length is) (map_after s is))
    unfolding since
    since_is v =
        (λ i. cond (leb (first_is i) (suc v)) (changes_after w s v (kept_from w s (last_is i - v) (suc v))) (reply.Shown s w.last (last_is i) (map_is i)))
        ∙ cond_both (leb (first_read service_from (length is)) (suc v)) (changes_after w s v (drop v is)) (reply.Shown s w.last (length is) (map_after s is))
        (λ r. cond (leb (first_read service_from (length is)) (suc v)) (changes_after w s v (kept_from w s (length is - v) (suc v))) (reply.Shown s w.last (length is) (map_after s is)) ≡ r)
        (λ e. rw e (ap (changes_after w s v) (kept_is v (leb-true _ _ e)))) (λ e. rw e refl)
