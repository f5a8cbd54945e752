-- A store whose shared part is a fold of a log of values is never full.
use Rattle.calm_sizes.proofs.Keys.{fold_keys, fold_listed, kept_from, log_keys, service_keys, version_at}
use Rattle.calm_sizes.proofs.Listed.{In, counted, here, in_left, in_right, run, run_within, size_within, there, weight}
use Rattle.calm_sizes.proofs.Records.{records_length, records_short}
use Rattle.calm_sizes.proofs.Shorts.{fold_short}
use Rattle.calm_sizes.specs.Sizes.{OwnShort}
use Rattle.law_names.proofs.Runs.{AllValues, entry_size, log_from, most_size, size_of, within}
use Rattle.law_names.proofs.Table.{AllByRecursion, Area, Cell, Key, Kv, Log, Store, cell, entries, entry, find, fold, get, is_local, number, place, place_cmp, readings_of, shared}
use Rattle.log_model.proofs.Committed.{holds}
use Rattle.log_model.proofs.Places.{get_kept, is_shared, local_named, same_place, shared_is, tied}
use Rattle.log_model.proofs.SharedEntries.{Pair, entries_found}
use Rattle.log_model.proofs.Sharing.{of_own}
use Rattle.log_model.proofs.TextSizes.{KeyFits, area_length, key_length}
use Rattle.mon_tx.proofs.Places.{number_in-low}
use Rattle.mon_tx.specs.Keys.{local_places}
use Rattle.mon_tx.specs.Map.{Place}
use Rattle.mon_tx.specs.declared.key.Area.TheVariants as area
use Rattle.mon_tx.specs.declared.key.Key.TheVariants as key
use Rattle.std.proofs.Common.{Bool, List, None, Some, [], ap, arith, cond, false, length, map, not, refl, subst, suc, sum_by, sym, true, zero, ℕ, ◌*◌, ◌++◌, ◌+◌, ◌-◌, ◌/◌, ◌^◌, ◌∙◌, ◌∷◌, ◌≡◌, ◌≤◌}
use Rattle.std.proofs.lemmas.Bool.{eq-eqb}
use Rattle.std.proofs.lemmas.List.Sums.{sum_by-append, sum_by-cons}
use Rattle.std.specs.FinMap.{get-entries}
use Rattle.std.specs.Ordering.{eq_by_cmp}

-- ---- one key

-- a named key counts with its value and at most 49 more
key_weight : (m : Store) (a : Area) (k : Key) (most : ℕ) → KeyFits k
    → ((x : List ℕ) → cell m a k ≡ Some x → length x ≤ most) → weight m (place a k) ≤ most + 49
key_weight m a k most room h = by (cell m a k) h
  where
    by : (c : Cell) → ((x : List ℕ) → c ≡ Some x → length x ≤ most) → counted (place a k) c ≤ most + 49
    by None h = omega arith
    by (Some x) h = let l = h x refl in omega (arith, l, area_length a, key_length k room)

-- ---- the fold of a log

module _ (log : List (List ℕ)) (short : length log ≤ 2 ^ 62) (all : AllValues log) (c : ℕ) (h : c ≤ length log) where
  abbrev m : Store
  m = fold log c

  any_key : (a : Area) (k : Key) → KeyFits k → weight m (place a k) ≤ 524337
  any_key a k room = key_weight m a k 524288 room (λ x e. fold_short log short all c h (place a k) x e)

  service_weight : (a : Area) (from : ℕ) → from ≤ 2 ^ 63 → sum_by (weight m) (service_keys a from) ≤ 42471297
  service_weight a from low =
      let w = weight m in
      let versions : sum_by w (run (version_at a) from 75) ≤ 75 * 524337 =
      run_within w (version_at a) 524337 75 from (λ v p q. any_key a (key.Version v) (omega arith)) in
      let l6 = sum_by-cons w (place a (key.Full (from + 74))) (run (version_at a) from 75) in
      let l5 = sum_by-cons w (place a (key.Full (from + 49)))
      (place a (key.Full (from + 74)) ∷ run (version_at a) from 75) in
      let l4 = sum_by-cons w (place a (key.Full (from + 24)))
      (place a (key.Full (from + 49)) ∷ place a (key.Full (from + 74)) ∷ run (version_at a) from 75) in
      let l3 = sum_by-cons w (place a key.FullLatest) (place a (key.Full (from + 24))
      ∷ place a (key.Full (from + 49)) ∷ place a (key.Full (from + 74)) ∷ run (version_at a) from 75) in
      let l2 = sum_by-cons w (place a key.LastCommitted) (place a key.FullLatest ∷ place a (key.Full (from + 24))
      ∷ place a (key.Full (from + 49)) ∷ place a (key.Full (from + 74)) ∷ run (version_at a) from 75) in
      let l1 = sum_by-cons w (place a key.FirstCommitted) (place a key.LastCommitted ∷ place a key.FullLatest
      ∷ place a (key.Full (from + 24)) ∷ place a (key.Full (from + 49)) ∷ place a (key.Full (from + 74))
      ∷ run (version_at a) from 75) in
      let k1 = any_key a key.FirstCommitted tt in
      let k2 = any_key a key.LastCommitted tt in
      let k3 = any_key a key.FullLatest tt in
      let k4 = any_key a (key.Full (from + 24)) (omega arith) in
      let k5 = any_key a (key.Full (from + 49)) (omega arith) in
      let k6 = any_key a (key.Full (from + 74)) (omega arith) in
      omega (arith, versions, l1, l2, l3, l4, l5, l6, k1, k2, k3, k4, k5, k6)

  -- a record is that of the log
  one_record : (v : ℕ) → suc v ≤ c → weight m (version_at area.Paxos (suc v)) ≤ length (entry log (suc v)) + 49
  unfolding readings_of
  one_record v le =
      key_weight m area.Paxos (key.Version (suc v)) (length (entry log (suc v))) (omega arith)
      (λ x e.
      by (within (log_from c) (suc c) (suc v)) x (sym ((holds log short all c h).keeps.records (suc v) le) ∙ e))
    where
      by : (b : Bool) (x : List ℕ) → ◌≡◌ {A = Cell} (cond b (Some (entry log (suc v))) None) (Some x)
          → length x ≤ length (entry log (suc v))
      by true x e = let same : entry log (suc v) ≡ x = cc in omega (arith, ap length same)
      by false x e = absurd cc

  records_weight : (count from : ℕ) → from + count ≤ c → sum_by (weight m)
      (run (version_at area.Paxos) (suc from) count) ≤ records_length log short all from count + 49 * count
  records_weight zero from k = omega arith
  records_weight (suc count) from k =
      let a = one_record from (omega arith) in
      let b = records_weight count (suc from) (omega arith) in
      omega (
        arith,
        a,
        b,
        sum_by-cons (weight m) (version_at area.Paxos (suc from))
            (run (version_at area.Paxos) (suc (suc from)) count),
      )

  log_weight : sum_by (weight m) (log_keys c) ≤ 87670000
  log_weight =
      let from : ℕ = 251 * ((c - 502) / 251) in
      let count : ℕ = suc c - log_from c in
      let begins : log_from c ≡ suc from = omega arith in
      let few : count ≤ 752 = omega arith in
      let ends : from + count ≤ c = omega arith in
      let here : sum_by (weight m) (run (version_at area.Paxos) (suc from) count)
      ≤ records_length log short all from count + 49 * count = records_weight count from ends in
      let all_of : records_length log short all from count ≤ 83309 * count + 393304 * (2 * (count / 25 + 1)) =
      records_short log short all count from (omega arith) in
      let moved : sum_by (weight m) (run (version_at area.Paxos) (log_from c) count)
      ≡ sum_by (weight m) (run (version_at area.Paxos) (suc from) count) =
      ap (λ (v : ℕ). sum_by (weight m) (run (version_at area.Paxos) v count)) begins in
      let maps : count / 25 ≤ 30 = omega arith in
      let first = any_key area.Paxos key.FirstCommitted tt in
      omega (
        arith,
        few,
        here,
        all_of,
        moved,
        maps,
        first,
        sum_by-cons (weight m)
            (place area.Paxos key.FirstCommitted) (run (version_at area.Paxos) (log_from c) count),
      )

  pub fold_small : size_of (fold log c) ≤ 172700000
  fold_small =
      let w = weight m in
      let kv = service_keys area.Kv (kept_from Kv log c) in
      let logm = service_keys area.Logm (kept_from Log log c) in
      let few = (holds log short all c h).chains.few in
      let few_kv = few Kv in
      let few_log = few Log in
      let a = size_within m (fold_keys log c) (fold_listed log short all c h) in
      let k = service_weight area.Kv (kept_from Kv log c) (omega arith) in
      let l = service_weight area.Logm (kept_from Log log c) (omega arith) in
      omega (arith, a, k, l, log_weight, sum_by-append w (log_keys c) (kv ++ logm), sum_by-append w kv logm)

-- ---- a monitor's own part, and what it shares

abbrev pub keys_of : List Pair → List Place
keys_of es = map (λ e. e.0) es

pub found_listed : (es : List Pair) (q : Place) (x : List ℕ) → find place_cmp q es ≡ Some x → In q (keys_of es)
found_listed [] q x e = absurd cc
found_listed (f ∷ es) q x e = by (eq_by_cmp place_cmp q f.0) refl e (found_listed es q x)
  where
    by : (b : Bool) → eq_by_cmp place_cmp q f.0 ≡ b → cond b (Some f.1) (find place_cmp q es) ≡ Some x
        → (find place_cmp q es ≡ Some x → In q (keys_of es)) → In q (keys_of (f ∷ es))
    by true t e rest = subst (λ (p : Place). In p (keys_of (f ∷ es))) (sym (same_place q f.0 t)) here
    by false t e rest = there (rest e)

module _ (m : Store) where
  abbrev last : ℕ
  last = number m area.Paxos key.LastCommitted

  shared_get : (q : Place) → get (shared m) q ≡ cond (not (is_local last q)) (get m q) None
  shared_get q = ap (λ (s : Store). get s q) (shared_is m last refl) ∙ get_kept m (is_shared last) q

  own_listed : (q : Place) → is_local last q ≡ true → In q (local_places last)
  own_listed = of_own (λ p. In p (local_places last)) last (record {
    last_committed = here;
    last_pn = there here;
    accepted_pn = there (there here);
    pending_v = there (there (there here));
    pending_pn = there (there (there (there here)));
    behind = there (there (there (there (there here))));
    epoch = there (there (there (there (there (there here)))));
    boots = there (there (there (there (there (there (there here))))));
    mark = there (there (there (there (there (there (there (there here)))))));
    floor = there (there (there (there (there (there (there (there (there here))))))));
  })

  listed : (q : Place) (x : List ℕ) → get m q ≡ Some x → In q (local_places last ++ keys_of (entries (shared m)))
  listed q x e = by (is_local last q) refl
    where
      by : (b : Bool) → is_local last q ≡ b → In q (local_places last ++ keys_of (entries (shared m)))
      by true t = in_left (local_places last) _ (own_listed q t)
      by false t =
          in_right (local_places last) _ (found_listed (entries (shared m)) q x
          (sym (get-entries (shared m) q) ∙ shared_get q ∙ ap (λ (b : Bool). cond (not b) (get m q) None) t ∙ e))

  -- what is shared counts alike in both
  as_much : (es : List Pair) → AllByRecursion (λ (e : Pair). get (shared m) e.0 ≡ Some e.1) es
      → sum_by (weight m) (keys_of es) ≡ sum_by entry_size es
  as_much [] h = refl
  as_much (e ∷ es) h =
      let rest = as_much es h.1 in
      let one : weight m e.0 ≡ entry_size e = by (is_local last e.0) (sym (shared_get e.0) ∙ h.0) in
      omega (arith, rest, one, sum_by-cons (weight m) e.0 (keys_of es), sum_by-cons entry_size e es)
    where
      by : (b : Bool) → cond (not b) (get m e.0) None ≡ Some e.1 → counted e.0 (get m e.0) ≡ entry_size e
      by true k = absurd cc
      by false k = ap (counted e.0) k

  pub size_parts : size_of m ≤ sum_by (weight m) (local_places last) + size_of (shared m)
  unfolding size_of
  size_parts =
      let a = size_within m (local_places last ++ keys_of (entries (shared m))) listed in
      omega (
        arith,
        a,
        sum_by-append (weight m) (local_places last) (keys_of (entries (shared m))),
        as_much (entries (shared m)) (entries_found (shared m)),
      )

pub own_weight : (most : ℕ) (m : Store) → OwnShort most m
    → sum_by (weight m) (local_places (number m area.Paxos key.LastCommitted)) ≤ 10 * (most + 49)
own_weight most m own =
    let last : ℕ = number m area.Paxos key.LastCommitted in
    let low = number_in-low (cell m area.Paxos key.LastCommitted) in
    let is : (a : Area) (k : Key) → KeyFits k → tied last a k ≡ true → weight m (place a k) ≤ most + 49 =
    λ a k room t. key_weight m a k most room (λ x e. own (place a k) x (local_named last a k ∙ t) e) in
    let k1 = is area.Paxos key.LastCommitted tt refl in
    let k2 = is area.Paxos key.LastPn tt refl in
    let k3 = is area.Paxos key.AcceptedPn tt refl in
    let k4 = is area.Paxos key.PendingV tt refl in
    let k5 = is area.Paxos key.PendingPn tt refl in
    let k6 = is area.Paxos (key.Version (last + 1)) (omega arith) (rw (eq-eqb (last + 1) (last + 1) refl) refl) in
    let k7 = is area.Monitor key.ElectionEpoch tt refl in
    let k8 = is area.Monitor key.BootCount tt refl in
    let k9 = is area.Sync key.InSync tt refl in
    let k10 = is area.Sync key.Floor tt refl in
    omega (arith, k1, k2, k3, k4, k5, k6, k7, k8, k9, k10)

-- no store whose shared part is a fold of a log of values is full
pub never_full : (log : List (List ℕ)) → length log ≤ 2 ^ 62 → AllValues log → (c : ℕ) → c ≤ length log
    → (m : Store) → shared m ≡ fold log c → OwnShort 4194304 m → size_of m ≤ most_size
never_full log short all c h m same own =
    let a = size_parts m in
    let b = own_weight 4194304 m own in
    let f = fold_small log short all c h in
    omega (arith, a, b, f, ap size_of same)
