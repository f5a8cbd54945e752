-- Every value has a text, with its ranges encoded as ranges or one by one.
use Rattle.std.proofs.Common.{◌≡◌, ℕ, zero, suc, ◌+◌, ◌-◌, ◌*◌, ◌<◌, ◌≤◌, ◌^◌, cond, eqb, leb, ltb, List, [], ◌∷◌, ◌++◌, length, map, IsTrue, refl, sym, ap, subst, ◌∙◌, arith, length-append}
use Rattle.std.proofs.lemmas.Bool.{cond_both, and_parts, leb-true, ltb-true}
use Rattle.std.specs.List.{AllByRecursion, flat_map, range_with_len, filter}
use Rattle.mon_bytes.specs.Texts.{is_name, is_prefix}
use Rattle.mon_tx.specs.declared.key.Area.{Area}
use Rattle.mon_tx.specs.declared.key.Area.TheVariants.{Paxos, Kv, Logm, Monitor, Sync}
use Rattle.mon_tx.specs.declared.key.Area.TheVariants as area
use Rattle.mon_tx.specs.declared.key.Key.{Key}
use Rattle.mon_tx.specs.declared.key.Key.TheVariants.{FirstCommitted, LastCommitted, LastPn, AcceptedPn, PendingV, PendingPn, FullLatest, ElectionEpoch, BootCount, InSync, Floor, Version, Full}
use Rattle.mon_tx.specs.declared.op.Op.{Op}
use Rattle.mon_tx.specs.declared.op.Op.TheVariants.{Put, Erase, ErasePrefix, EraseRange}
use Rattle.mon_tx.specs.Decode.{OpFits, HasText}
use Rattle.mon_tx.specs.Keys.{area_text, key_text, decimal_text}
use Rattle.mon_tx.specs.Map.{number_bytes}
use Rattle.mon_tx.specs.Text.{op_text, text}
use Rattle.mon_tx.proofs.Decimals.{decimal_word, word_name, whole_name}
use Rattle.mon_msg.specs.Fold.{incrementals}
use Rattle.mon_msg.specs.Puts.{area_of}
use Rattle.mon_msg.specs.Protocol.Changes.{erase}
use Rattle.mon_msg.specs.Protocol.Parts.{map_text}
use Rattle.mon_msg.specs.Protocol.Records.{most_value}
use Rattle.mon_msg.specs.Protocol.Rules.{service_to, paxos_to, value_ops}
use Rattle.log_model.specs.LogOfValues.{one_by_one, IsOlder, none, same, range}
use Rattle.log_model.specs.Windows.{service_from, log_from, is_full, first_read}
use Rattle.log_model.proofs.AreaEdits.{Edit, Set, Drop, DropRange, encoded}
use Rattle.log_model.proofs.Lists.{all_append}
use Rattle.log_model.proofs.RuleEdits.{first_set, begun, new, full, full_drops, cut, trimmed, log_cut, log_trimmed, service_edits, value_is}
use Rattle.log_model.proofs.MapSteps.{fine_short}
use Rattle.log_model.proofs.Windows.{Next}

-- ---- how long changes are at most, with their ranges written out

abbrev pub weight : Op → ℕ
weight (Put prefix k v) = 7 + length prefix + length k + length v
weight (Erase prefix k) = 3 + length prefix + length k
weight (ErasePrefix prefix) = 2 + length prefix
weight (EraseRange prefix from to) = 18 + length prefix + 31 * (to - from)

abbrev pub total : List Op → ℕ
total [] = 0
total (op ∷ ops) = weight op + total ops

op_length : (op : Op) → length (op_text op) ≤ weight op
op_length (Put prefix k v) = simp length-append (omega arith)
op_length (Erase prefix k) = simp length-append (omega arith)
op_length (ErasePrefix prefix) = omega arith
op_length (EraseRange prefix from to) = simp length-append (omega arith)

texts_length : (ops : List Op) → length (flat_map op_text ops) ≤ total ops
texts_length [] = omega arith
texts_length (op ∷ ops) = omega (arith, length-append (op_text op) (flat_map op_text ops), op_length op, texts_length ops)

pub text_length : (ops : List Op) → length (text ops) ≤ 5 + total ops
text_length ops = simp length-append (omega (arith, texts_length ops))

pub total-append : (a b : List Op) → total (a ++ b) ≡ total a + total b
total-append [] b = omega arith
total-append (op ∷ a) b = omega (arith, total-append a b)

-- ---- keys

decimal_length : (v : ℕ) → v < 2 ^ 64 → length (decimal_text v) ≤ 20
decimal_length v h = leb-true (length (decimal_text v)) 20 (and_parts _ _ (and_parts _ _ (decimal_word v h)).0).1

pub area_length : (a : Area) → length (area_text a) ≤ 8
area_length Paxos = omega arith
area_length Kv = omega arith
area_length Logm = omega arith
area_length Monitor = omega arith
area_length Sync = omega arith

area_prefix : (a : Area) → IsTrue (is_prefix (area_text a))
area_prefix Paxos = refl
area_prefix Kv = refl
area_prefix Logm = refl
area_prefix Monitor = refl
area_prefix Sync = refl

-- the number in it, if any, has at most 20 digits
abbrev pub KeyFits : Key → Type 0
KeyFits (Version v) = v < 2 ^ 64
KeyFits (Full v) = v < 2 ^ 64
KeyFits k = Unit {0}

key_name : (k : Key) → KeyFits k → IsTrue (is_name (key_text k))
key_name (Version v) h = word_name (decimal_text v) (decimal_word v h)
key_name (Full v) h = whole_name (decimal_text v) (decimal_word v h)
key_name FirstCommitted h = refl
key_name LastCommitted h = refl
key_name LastPn h = refl
key_name AcceptedPn h = refl
key_name PendingV h = refl
key_name PendingPn h = refl
key_name FullLatest h = refl
key_name ElectionEpoch h = refl
key_name BootCount h = refl
key_name InSync h = refl
key_name Floor h = refl

pub key_length : (k : Key) → KeyFits k → length (key_text k) ≤ 25
key_length (Version v) h = let l = decimal_length v h in omega arith
key_length (Full v) h = let l = decimal_length v h in omega arith
key_length FirstCommitted h = omega arith
key_length LastCommitted h = omega arith
key_length LastPn h = omega arith
key_length AcceptedPn h = omega arith
key_length PendingV h = omega arith
key_length PendingPn h = omega arith
key_length FullLatest h = omega arith
key_length ElectionEpoch h = omega arith
key_length BootCount h = omega arith
key_length InSync h = omega arith
key_length Floor h = omega arith

-- ---- versions that are taken away one by one

abbrev each : Area → ℕ → ℕ → List Op
each a from count = map (λ v. erase a (Version v)) (range_with_len from count)

each_fits : (a : Area) (count from : ℕ) → from + count ≤ 2 ^ 62 → AllByRecursion OpFits (each a from count)
each_fits a zero from h = tt
each_fits a (suc count) from h = ((area_prefix a, key_name (Version from) (omega arith)), each_fits a count (from + 1) (omega arith))

each_total : (a : Area) (count from : ℕ) → from + count ≤ 2 ^ 62 → total (each a from count) ≤ 31 * count
each_total a zero from h = omega arith
each_total a (suc count) from h =
    let rest = each_total a count (from + 1) (omega arith) in
    let l = decimal_length from (omega arith) in
    omega (arith, area_length a)

older_fits : {ops older : List Op} → IsOlder ops older → AllByRecursion OpFits ops → AllByRecursion OpFits older
older_fits none h = tt
older_fits (same op o) h = (h.0, older_fits o h.1)
older_fits (range a from to {older = older} o) h =
    let up = h.0.1 in
    let most = h.0.2 in
    all_append OpFits (one_by_one a from to) older (each_fits a (to - from) from (omega arith)) (older_fits o h.1)

older_total : {ops older : List Op} → IsOlder ops older → AllByRecursion OpFits ops → total older ≤ total ops
older_total none h = omega arith
older_total (same op o) h = let t = older_total o h.1 in omega arith
older_total (range a from to {older = older} o) h =
    let up = h.0.1 in
    let most = h.0.2 in
    let t = older_total o h.1 in
    omega (arith, total-append (one_by_one a from to) older, each_total a (to - from) from (omega arith))

-- ---- the rules

abbrev pub EditFits : Edit → Type 0
EditFits (Set k x) = KeyFits k × (length x < 2 ^ 32)
EditFits (Drop k) = KeyFits k
EditFits (DropRange from to) = (from < to) × (to ≤ 2 ^ 62)

pub edits_fit : (a : Area) (es : List Edit) → AllByRecursion EditFits es → AllByRecursion OpFits (encoded a es)
edits_fit a [] h = tt
edits_fit a (Set k x ∷ es) h = ((area_prefix a, key_name k h.0.0, h.0.1), edits_fit a es h.1)
edits_fit a (Drop k ∷ es) h = ((area_prefix a, key_name k h.0), edits_fit a es h.1)
edits_fit a (DropRange from to ∷ es) h = ((area_prefix a, h.0.0, h.0.1), edits_fit a es h.1)

abbrev pub edit_weight : Edit → ℕ
edit_weight (Set k x) = 40 + length x
edit_weight (Drop k) = 36
edit_weight (DropRange from to) = 26 + 31 * (to - from)

abbrev pub edits_weight : List Edit → ℕ
edits_weight [] = 0
edits_weight (e ∷ es) = edit_weight e + edits_weight es

pub edits_total : (a : Area) (es : List Edit) → AllByRecursion EditFits es → total (encoded a es) ≤ edits_weight es
edits_total a [] h = omega arith
edits_total a (Set k x ∷ es) h = omega (arith, edits_total a es h.1, area_length a, key_length k h.0.0)
edits_total a (Drop k ∷ es) h = omega (arith, edits_total a es h.1, area_length a, key_length k h.0)
edits_total a (DropRange from to ∷ es) h = omega (arith, edits_total a es h.1, area_length a)

weight-append : (es fs : List Edit) → edits_weight (es ++ fs) ≡ edits_weight es + edits_weight fs
weight-append [] fs = omega arith
weight-append (e ∷ es) fs = omega (arith, weight-append es fs)

pub record Light (es : List Edit) (most : ℕ) : Type 0 where
  pub fits : AllByRecursion EditFits es
  pub light : edits_weight es ≤ most

pub light-append : (es fs : List Edit) (j k : ℕ) → Light es j → Light fs k → Light (es ++ fs) (j + k)
light-append es fs j k a b = record { fits = all_append EditFits es fs a.fits b.fits; light = let l = a.light in let m = b.light in omega (arith, weight-append es fs) }

length_number : (n : ℕ) → length (number_bytes n) ≡ 8
unfolding number_bytes
length_number n = refl

pub light_first : (n : ℕ) → Light (first_set n) 48
light_first n = record { fits = ((tt, omega (arith, length_number n)), tt); light = omega (arith, length_number n) }

pub light_begun : (c : ℕ) → Light (begun c) 48
light_begun c = cond_both (eqb c 0) (first_set 1) [] (λ es. Light es 48) (λ e. light_first 1) (λ e. record { fits = tt; light = omega arith })

pub light_new : (n : ℕ) (x : List ℕ) → n ≤ 2 ^ 62 → length x ≤ 65797 → Light (new n x) 65933
light_new n x h short =
    light-append (Set (Version n) x ∷ []) _ 65837 96 (record { fits = ((omega arith, omega arith), tt); light = omega arith })
    (light-append (cond (eqb n 1) (first_set 1) []) (Set LastCommitted (number_bytes n) ∷ []) 48 48
    (cond_both (eqb n 1) (first_set 1) [] (λ es. Light es 48) (λ e. light_first 1) (λ e. record { fits = tt; light = omega arith }))
    (record { fits = ((tt, omega (arith, length_number n)), tt); light = omega (arith, length_number n) }))

-- what a full map takes, if the version has one
abbrev pub full_cost : ℕ → ℕ
full_cost n = cond (is_full n) 393304 0

pub cost_most : (n : ℕ) → full_cost n ≤ 393304
cost_most n = cond_both (is_full n) 393304 0 (λ (k : ℕ). k ≤ 393304) (λ e. omega arith) (λ e. omega arith)

light_full : (n : ℕ) (t : List ℕ) → n ≤ 2 ^ 62 → length t ≤ 393216 → Light (full n t) (full_cost n)
light_full n t h short =
    cond_both (is_full n) (Set (Full n) t ∷ Set FullLatest (number_bytes n) ∷ []) [] (λ es. Light es (full_cost n))
    (λ e. rw e (record {
      fits = ((omega arith, omega arith), ((tt, omega (arith, length_number n)), tt));
      light = omega (arith, length_number n);
    }))
    (λ e. rw e (record { fits = tt; light = omega arith }))

light_drops : (count from : ℕ) → from + count ≤ 2 ^ 62 → Light (map (λ v. Drop (Full v)) (filter is_full (range_with_len from count))) (36 * count)
light_drops zero from h = record { fits = tt; light = omega arith }
light_drops (suc count) from h =
    let rest = light_drops count (from + 1) (omega arith) in
    cond_both (is_full from) (from ∷ filter is_full (range_with_len (from + 1) count)) (filter is_full (range_with_len (from + 1) count)) (λ vs. Light (map (λ v. Drop (Full v)) vs) (36 * suc count))
    (λ e. record { fits = (omega arith, rest.fits); light = let l = rest.light in omega arith }) (λ e. record { fits = rest.fits; light = let l = rest.light in omega arith })

pub light_cut : (from : ℕ) → from + 25 ≤ 2 ^ 62 → Light (cut from (from + 25)) 1749
light_cut from h =
    let e : from + 25 - from ≡ 25 = omega arith in
    let drops : Light (full_drops from (from + 25)) 900 = subst (λ (k : ℕ). Light (map (λ v. Drop (Full v)) (filter is_full (range_with_len from k))) 900) (sym e) (light_drops 25 from h) in
    light-append (DropRange from (from + 25) ∷ []) _ 801 948 (record { fits = ((omega arith, h), tt); light = omega arith }) (light-append (full_drops from (from + 25)) (first_set (from + 25)) 900 48 drops (light_first (from + 25)))

light_trimmed : (n first : ℕ) → n ≤ 2 ^ 62 → Light (trimmed n first) 1749
light_trimmed n first h =
    cond_both (leb 75 (n - first)) (cut first (service_to n first)) [] (λ es. Light es 1749)
    (λ e.
    let due = leb-true 75 (n - first) e in
    let to : service_to n first ≡ first + 25 = omega arith in
    subst (λ (b : ℕ). Light (cut first b) 1749) (sym to) (light_cut first (omega arith)))
    (λ e. record { fits = tt; light = omega arith })

light_log : (first last : ℕ) → last ≤ 2 ^ 62 → Light (log_trimmed first last) 15574
light_log first last h =
    cond_both (ltb 750 (last - first)) (log_cut first (paxos_to first last)) [] (λ es. Light es 15574)
    (λ e.
    let due = ltb-true 750 (last - first) e in
    light-append (DropRange first (paxos_to first last) ∷ []) (first_set (paxos_to first last)) 15526 48 (record { fits = ((omega arith, omega arith), tt); light = omega arith }) (light_first (paxos_to first last)))
    (λ e. record { fits = tt; light = omega arith })

light_service : (n first : ℕ) (x t : List ℕ) → n ≤ 2 ^ 62 → length x ≤ 65797 → length t ≤ 393216
    → Light (service_edits n first x t) (65933 + (full_cost n + 1749))
light_service n first x t h short_x short_t =
    light-append (new n x) _ 65933 (full_cost n + 1749) (light_new n x h short_x)
    (light-append (full n t) _ (full_cost n) 1749 (light_full n t h short_t) (light_trimmed n first h))

-- ---- a value

module _ (first last : ℕ) (a : Area) (n service_first : ℕ) (x t : List ℕ) (newer : List Op) (is : newer ≡ value_ops first last a n service_first x t) (at : last ≤ 2 ^ 62) (h : n ≤ 2 ^ 62) (short_x : length x ≤ 65797)
    (short_t : length t ≤ 393216) where
  abbrev edits : List Edit
  edits = service_edits n service_first x t

  abbrev parts : List Op
  parts = encoded area.Paxos (begun last) ++ (encoded a edits ++ encoded area.Paxos (log_trimmed first last))

  parts_are : newer ≡ parts
  parts_are = is ∙ value_is first last a n service_first x t

  own : Light edits (65933 + (full_cost n + 1749))
  own = light_service n service_first x t h short_x short_t

  log_edits : Light (log_trimmed first last) 15574
  log_edits = light_log first last at

  parts_fit : AllByRecursion OpFits parts
  parts_fit =
      all_append OpFits (encoded area.Paxos (begun last)) _ (edits_fit area.Paxos (begun last) (light_begun last).fits)
      (all_append OpFits (encoded a edits) (encoded area.Paxos (log_trimmed first last)) (edits_fit a edits own.fits) (edits_fit area.Paxos (log_trimmed first last) log_edits.fits))

  parts_total : total parts ≤ 83304 + full_cost n
  parts_total =
      let b = (light_begun last).light in
      let o = own.light in
      let l = log_edits.light in
      omega (
        arith,
        total-append (encoded area.Paxos (begun last)) (encoded a edits ++ encoded area.Paxos (log_trimmed first last)),
        total-append (encoded a edits) (encoded area.Paxos (log_trimmed first last)),
        edits_total area.Paxos (begun last) (light_begun last).fits,
        edits_total a edits own.fits,
        edits_total area.Paxos (log_trimmed first last) log_edits.fits,
      )

  fits : AllByRecursion OpFits newer
  fits = subst (AllByRecursion OpFits) (sym parts_are) parts_fit

  pub value_length : (older : List Op) → IsOlder newer older → length (text older) ≤ 83309 + full_cost n
  value_length older o = omega (arith, text_length older, older_total o fits, ap total parts_are, parts_total)

  -- short enough to be proposed
  pub value_short : (older : List Op) → IsOlder newer older → length (text older) ≤ most_value
  value_short older o = omega (arith, value_length older o, cost_most n)

  pub value_text : (older : List Op) → IsOlder newer older → HasText older
  value_text older o = record { each = older_fits o fits; short = (let l = value_short older o in omega arith) }

-- a value that makes the next map of a log's
module _ (log : List (List ℕ)) (c : ℕ) (newer : List Op) (N : Next log c newer) (h : c < 2 ^ 62) (few : length (incrementals N.service log c) ≤ c) (older : List Op) (o : IsOlder newer older) where
  pub short : length (text older) ≤ most_value
  short =
      value_short (first_read log_from c) c (area_of N.service) _ (first_read service_from (length (incrementals N.service log c))) N.incremental (map_text N.map) newer N.ops (omega arith) (omega arith) N.makes.short
      (fine_short N.service N.map N.makes.fine) older o

  pub has_text : HasText older
  has_text =
      value_text (first_read log_from c) c (area_of N.service) _ (first_read service_from (length (incrementals N.service log c))) N.incremental (map_text N.map) newer N.ops (omega arith) (omega arith) N.makes.short
      (fine_short N.service N.map N.makes.fine) older o
