-- Each chunk brings an entry or a version, unless it is the last one.
use Rattle.calm_sizes.proofs.Keys.{fold_keys, fold_listed, kept_from, log_keys, service_keys, version_at}
use Rattle.calm_sizes.proofs.Listed.{In, few_within, here, run, there}
use Rattle.calm_sizes.proofs.Shorts.{fold_short}
use Rattle.law_names.proofs.Runs.{AllValues, log_from}
use Rattle.law_names.proofs.Table.{AllByRecursion, Area, Body, Cell, Cookie, Entry, Key, KeyPlace, Kv, Log, Op, Place as ChunkPlace, Store, after_entries, chunk, chunk_with, entries, fits, fold, get, given_entries, given_values, is_after, is_done, is_finished, longest, place, place_cmp, reach, record_at, run_from, run_of, shared, shared_entries, text}
use Rattle.log_copies.proofs.Ordered.{entry_of, past_up}
use Rattle.log_copies.specs.Copies.{is_past}
use Rattle.log_model.proofs.Committed.{holds}
use Rattle.log_model.proofs.Lists.{all_append}
use Rattle.log_model.proofs.Records.{run_from_length}
use Rattle.log_model.proofs.SharedEntries.{Pair, entries_found}
use Rattle.log_model.proofs.TextSizes.{KeyFits, area_length, key_length}
use Rattle.mon_bytes.specs.declared.entry.KeyPlace.TheVariants as key_place
use Rattle.mon_msg.proofs.Fitting.{besides_entries, besides_records, given_entries-is, given_values-is}
use Rattle.mon_msg.proofs.Runs.{have_room, longest_is}
use Rattle.mon_msg.specs.Protocol.Records.{IsLongest}
use Rattle.mon_tx.proofs.Places.{places_total}
use Rattle.mon_tx.specs.Map.{Place}
use Rattle.mon_tx.specs.declared.key.Area.TheVariants as area
use Rattle.mon_tx.specs.declared.key.Key.TheVariants as key
use Rattle.mon_wire.specs.Message.PartLengths.{entry_length, key_place_length, value_length}
use Rattle.mon_wire.specs.declared.body.Body.TheVariants as body
use Rattle.quorum_walk.proofs.Lists.{Among}
use Rattle.std.proofs.Common.{Bool, List, None, Option, Some, [], ap, arith, cond, false, filter, inl, inr, leb, length, map, not, refl, subst, suc, sum_by, sym, true, zero, ℕ, ◌&&◌, ◌++◌, ◌+◌, ◌-◌, ◌<◌, ◌^◌, ◌||◌, ◌∙◌, ◌∷◌, ◌≡◌, ◌≤◌, ◌⊎◌}
use Rattle.std.proofs.lemmas.Bool.{cond_both, false≢true, le-leb, leb-false, leb-true}
use Rattle.std.proofs.lemmas.List.Sums.{sum_by-cons}
use Rattle.std.proofs.lemmas.List.{length-append, length-map, nil_from_length}
use Rattle.std.specs.Cmp.{eq_by_cmp_equiv}
use Rattle.std.specs.Ordering.{is_eq, is_lt}
use Rattle.std.specs.declared.cmp.Ordering.TheVariants.{Equal, Greater, Less}
use Rattle.std.specs.declared.cmp.Ordering.{Ordering}

-- ---- fewer are left

filter_most : {A : Type 0} (p q : A → Bool) (xs : List A) → ((x : A) → q x ≡ true → p x ≡ true) → length (filter q xs) ≤ length (filter p xs)
filter_most p q [] h = omega arith
filter_most p q (x ∷ xs) h = by (p x) (q x) (h x) (filter_most p q xs h)
  where
    by : (a b : Bool) → (b ≡ true → a ≡ true) → length (filter q xs) ≤ length (filter p xs) → length (cond b (x ∷ filter q xs) (filter q xs)) ≤ length (cond a (x ∷ filter p xs) (filter p xs))
    by true true h le = omega arith
    by true false h le = omega arith
    by false true h le = absurd (false≢true (h refl))
    by false false h le = le

pub filter_within : {A : Type 0} (p : A → Bool) (xs : List A) → length (filter p xs) ≤ length xs
filter_within p [] = omega arith
filter_within p (x ∷ xs) = by (p x) (filter_within p xs)
  where
    by : (b : Bool) → length (filter p xs) ≤ length xs → length (cond b (x ∷ filter p xs) (filter p xs)) ≤ length (x ∷ xs)
    by true le = omega arith
    by false le = omega arith

-- if an item passes only the first test, fewer items pass the second one
filter_less : {A : Type 0} (p q : A → Bool) (y : A) (xs : List A) → ((x : A) → q x ≡ true → p x ≡ true) → p y ≡ true → q y ≡ false → Among y xs → length (filter q xs) < length (filter p xs)
filter_less p q y [] h t u a = absurd a
filter_less {A} p q y (x ∷ xs) h t u (inl e) = by (filter_most p q xs h) (p x) (q x) (ap p (sym e) ∙ t) (ap q (sym e) ∙ u)
  where
    by : length (filter q xs) ≤ length (filter p xs) → (a b : Bool) → a ≡ true → b ≡ false → length (cond b (x ∷ filter q xs) (filter q xs)) < length (cond a (x ∷ filter p xs) (filter p xs))
    by le true false s k = omega arith
    by le true true s k = absurd cc
    by le false b s k = absurd cc
filter_less p q y (x ∷ xs) h t u (inr o) = by (p x) (q x) (h x) (filter_less p q y xs h t u o)
  where
    by : (a b : Bool) → (b ≡ true → a ≡ true) → length (filter q xs) < length (filter p xs) → length (cond b (x ∷ filter q xs) (filter q xs)) < length (cond a (x ∷ filter p xs) (filter p xs))
    by true true h le = omega arith
    by true false h le = omega arith
    by false true h le = absurd (false≢true (h refl))
    by false false h le = le

-- ---- places

after_past : (x : KeyPlace) (e : Entry) → is_after x e ≡ is_past x (e.prefix, e.key)
after_past key_place.Start e = refl
after_past (key_place.After p k) e = refl
after_past key_place.Done e = refl

less_is : (r : Ordering) → is_lt r ≡ true → r ≡ Less
less_is Less t = refl
less_is Equal t = absurd cc
less_is Greater t = absurd cc

-- whatever comes after an entry that is after a place is after that place
onward : (x : KeyPlace) (l e : Entry) → is_after x l ≡ true → is_after (key_place.After l.prefix l.key) e ≡ true → is_after x e ≡ true
onward x l e h t = after_past x e ∙ past_up x (l.prefix, l.key) (e.prefix, e.key) (sym (after_past x l) ∙ h) (less_is (place_cmp (l.prefix, l.key) (e.prefix, e.key)) t)

not_itself : (l : Entry) → is_after (key_place.After l.prefix l.key) l ≡ false
not_itself l = by (place_cmp (l.prefix, l.key) (l.prefix, l.key)) ((eq_by_cmp_equiv places_total).refl (l.prefix, l.key))
  where
    by : (r : Ordering) → is_eq r ≡ true → is_lt r ≡ false
    by Equal e = refl
    by Less e = absurd cc
    by Greater e = absurd cc

-- the last one of some entries
last_one : (x : KeyPlace) (e : Entry) (es : List Entry) → (l : Entry) × Among l (e ∷ es) × (after_entries (e ∷ es) x ≡ key_place.After l.prefix l.key)
last_one x e [] = (e, inl refl, refl)
last_one x e (f ∷ es) = let z = last_one (key_place.After e.prefix e.key) f es in (z.0, inr z.1, z.2)

among_front : {A : Type 0} (y : A) (xs ys : List A) → Among y xs → Among y (xs ++ ys)
among_front y [] ys a = absurd a
among_front y (x ∷ xs) ys (inl e) = inl e
among_front y (x ∷ xs) ys (inr o) = inr (among_front y xs ys o)

filter_among : {A : Type 0} (p : A → Bool) (y : A) (xs : List A) → Among y (filter p xs) → (p y ≡ true) × Among y xs
filter_among p y [] a = absurd a
filter_among {A} p y (x ∷ xs) a = by (p x) refl (λ o. filter_among p y xs o) a
  where
    by : (b : Bool) → p x ≡ b → (Among y (filter p xs) → (p y ≡ true) × Among y xs) → Among y (cond b (x ∷ filter p xs) (filter p xs)) → (p y ≡ true) × Among y (x ∷ xs)
    by true t later (inl e) = (ap p e ∙ t, inl e)
    by true t later (inr o) = let z = later o in (z.0, inr z.1)
    by false t later o = let z = later o in (z.0, inr z.1)

-- after some of the entries that are left, fewer are left
pub left_less : (all : List Entry) (x : KeyPlace) (e : Entry) (es rest : List Entry) → (e ∷ es) ++ rest ≡ filter (is_after x) all
    → length (filter (is_after (after_entries (e ∷ es) x)) all) < length (filter (is_after x) all)
left_less all x e es rest begins =
    let z = last_one x e es in
    let l : Entry = z.0 in
    let there = filter_among (is_after x) l all (subst (λ (xs : List Entry). Among l xs) begins (among_front l (e ∷ es) rest z.1)) in
    subst (λ (k : KeyPlace). length (filter (is_after k) all) < length (filter (is_after x) all)) (sym z.2)
    (filter_less (is_after x) (is_after (key_place.After l.prefix l.key)) l all (λ y t. onward x l y there.0 t) there.0 (not_itself l) there.1)

-- a place after an entry isn't the end
pub not_done : (x : KeyPlace) (e : Entry) (es : List Entry) → is_done (after_entries (e ∷ es) x) ≡ false
not_done x e es = let z = last_one x e es in ap is_done z.2

-- ---- entries are short

-- the lengths of a named key and of its prefix
abbrev NameShort : Place → Type 0
NameShort q = (length q.0 ≤ 8) × (length q.1 ≤ 25)

named_short : (a : Area) (k : Key) → KeyFits k → NameShort (place a k)
named_short a k fits = (area_length a, key_length k fits)

in_short : (q : Place) (ks : List Place) → In q ks → AllByRecursion NameShort ks → NameShort q
in_short q [] i h = elim i [ ]
in_short q (k ∷ ks) here h = h.0
in_short q (k ∷ ks) (there i) h = in_short q ks i h.1

run_short : (a : Area) (count from : ℕ) → from + count ≤ 2 ^ 63 → AllByRecursion NameShort (run (version_at a) from count)
run_short a zero from h = tt
run_short a (suc count) from h = (named_short a (key.Version from) (omega arith), run_short a count (suc from) (omega arith))

service_short : (a : Area) (from : ℕ) → from ≤ 2 ^ 62 → AllByRecursion NameShort (service_keys a from)
service_short a from low = (
  named_short a key.FirstCommitted tt,
  (named_short a key.LastCommitted tt, (named_short a key.FullLatest tt, (named_short a (key.Full (from + 24)) (omega arith), (named_short a (key.Full (from + 49)) (omega arith), (named_short a (key.Full (from + 74)) (omega arith), run_short a 75 from (omega arith)))))),
)

module _ (log : List (List ℕ)) (fits : length log ≤ 2 ^ 62) (all : AllValues log) (c : ℕ) (le : c ≤ length log) where
  keys_short : AllByRecursion NameShort (fold_keys log c)
  keys_short =
      let few = (holds log fits all c le).chains.few in
      let few_kv = few Kv in
      let few_log = few Log in
      all_append NameShort (log_keys c) (service_keys area.Kv (kept_from Kv log c) ++ service_keys area.Logm (kept_from Log log c)) (named_short area.Paxos key.FirstCommitted tt, run_short area.Paxos (suc c - log_from c) (log_from c) (omega arith))
      (all_append NameShort (service_keys area.Kv (kept_from Kv log c)) (service_keys area.Logm (kept_from Log log c)) (service_short area.Kv (kept_from Kv log c) (omega arith)) (service_short area.Logm (kept_from Log log c) (omega arith)))

  name_short : (q : Place) (x : List ℕ) → get (fold log c) q ≡ Some x → NameShort q
  name_short q x e = in_short q (fold_keys log c) (fold_listed log fits all c le q x e) keys_short

  -- an entry of the fold
  abbrev pub EntryShort : Entry → Type 0
  EntryShort e = NameShort (e.prefix, e.key) × (length e.value ≤ 524288)

  each_short : (es : List Pair) → AllByRecursion (λ (e : Pair). get (fold log c) e.0 ≡ Some e.1) es → AllByRecursion EntryShort (map entry_of es)
  each_short [] h = tt
  each_short (e ∷ es) h = ((name_short e.0 e.1 h.0, fold_short log fits all c le e.0 e.1 h.0), each_short es h.1)

  pub entries_short : (m : Store) → shared m ≡ fold log c → AllByRecursion EntryShort (shared_entries m)
  unfolding shared_entries
  entries_short m same = subst (λ (s : Store). AllByRecursion EntryShort (map entry_of (entries s))) (sym same) (each_short (entries (fold log c)) (entries_found (fold log c)))

-- ---- entries are few

run_long : (a : Area) (count from : ℕ) → length (run (version_at a) from count) ≡ count
run_long a zero from = refl
run_long a (suc count) from = ap suc (run_long a count (suc from))

service_few : (a : Area) (from : ℕ) → length (service_keys a from) ≤ 81
service_few a from = let l = run_long a 75 from in omega arith

kept_few : (c : ℕ) → suc c - log_from c ≤ 752
kept_few c = omega arith

keys_few : (log : List (List ℕ)) (c : ℕ) → length (fold_keys log c) ≤ 915
keys_few log c =
    let kv = service_keys area.Kv (kept_from Kv log c) in
    let logm = service_keys area.Logm (kept_from Log log c) in
    let a = length-append (log_keys c) (kv ++ logm) in
    let b = length-append kv logm in
    let r = run_long area.Paxos (suc c - log_from c) (log_from c) in
    let k = kept_few c in
    let x = service_few area.Kv (kept_from Kv log c) in
    let y = service_few area.Logm (kept_from Log log c) in
    omega (arith, a, b, r, k, x, y)

pub entries_few : (log : List (List ℕ)) → length log ≤ 2 ^ 62 → AllValues log → (c : ℕ) → c ≤ length log → (m : Store) → shared m ≡ fold log c → length (shared_entries m) ≤ 915
unfolding shared_entries
entries_few log fits all c le m same =
    let few = few_within (fold log c) (fold_keys log c) (fold_listed log fits all c le) in
    omega (arith, few, keys_few log c, length-map (entries (shared m)) entry_of, ap (λ (s : Store). length (entries s)) same)

pub all_filter : {A : Type 0} (P : A → Type 0) (p : A → Bool) (xs : List A) → AllByRecursion P xs → AllByRecursion P (filter p xs)
all_filter P p [] h = tt
all_filter P p (x ∷ xs) h = by (p x) (all_filter P p xs h.1)
  where
    by : (b : Bool) → AllByRecursion P (filter p xs) → AllByRecursion P (cond b (x ∷ filter p xs) (filter p xs))
    by true k = (h.0, k)
    by false k = k

-- ---- a chunk of entries

abbrev pub IsBrief : Entry → Type 0
IsBrief e = ((length e.prefix ≤ 8) × (length e.key ≤ 25)) × (length e.value ≤ 524288)

pub brief_place : (x : KeyPlace) (es : List Entry) → key_place_length x ≤ 36 → AllByRecursion IsBrief es → key_place_length (after_entries es x) ≤ 36
brief_place x [] low h = low
brief_place x (e ∷ es) low h = brief_place (key_place.After e.prefix e.key) es (let z = h.0.0.0 in let y = h.0.0.1 in omega arith) h.1

-- A chunk whose place is at the provider's last version has no record. It has the first of the entries that remain, and
-- at least one of them unless it is the last chunk.
pub record Brings (last : ℕ) (c : Cookie) (p : ChunkPlace) (left : List Entry) (b : Body) : Type 0 where
  pub found : List Entry
  pub rest : List Entry
  pub begins : found ++ rest ≡ left
  pub is : (b ≡ body.LastChunk c p [] found last) ⊎ ((b ≡ body.Chunk c p [] found false) × ((e : Entry) × (es : List Entry) × (found ≡ e ∷ es)))

module _ (last : ℕ) (c : Cookie) (p : ChunkPlace) (left : List Entry) (n : ℕ) (records : ℕ → Cell) (at : p.version ≡ last) (undone : is_done p.key ≡ false) (low : key_place_length p.key ≤ 36) (brief : AllByRecursion IsBrief left) where
  none : given_values last c p left n records ≡ []
  none = ap (longest (λ values. fits n (chunk_with last c p left values []))) (let l = run_from_length records last p.version in nil_from_length (run_from records last (suc p.version)) (omega arith))

  reaches : reach last p [] ≡ true
  reaches = le-leb last (p.version + 0) (omega arith)

  goes_on : (reach last p [] && not (is_done p.key)) ≡ true
  goes_on = λ j. reaches j && not (undone j)

  abbrev found : List Entry
  found = longest (have_room entry_length (besides_entries last c p left []) 1048576) left

  chunk_now : chunk last c p left n records ≡ chunk_with last c p left [] found
  unfolding chunk
  chunk_now = ap (λ (vs : List (List Op)). chunk_with last c p left vs (given_entries last c p left n vs)) none ∙ ap (chunk_with last c p left []) (given_entries-is last c p left n [] refl goes_on)

  -- any entry has room alone
  fits_one : (y : Entry) → IsBrief y → have_room entry_length (besides_entries last c p left []) 1048576 (y ∷ []) ≡ true
  fits_one y k = λ j. le-leb (besides_entries last c p left [] (y ∷ []) + sum_by entry_length (y ∷ [])) 1048576 within j && true
    where
      within : besides_entries last c p left [] (y ∷ []) + sum_by entry_length (y ∷ []) ≤ 1048576
      within =
          let s = sum_by-cons entry_length y [] in
          let none : sum_by entry_length [] ≡ 0 = refl in
          let no_values : sum_by value_length [] ≡ 0 = refl in
          let b : cond (reach last p [] && is_finished p left (y ∷ [])) 40 33 ≤ 40 = cond_both (reach last p [] && is_finished p left (y ∷ [])) 40 33 (λ z. z ≤ 40) (λ _. omega arith) (λ _. omega arith) in
          let a = k.0.0 in
          let d = k.0.1 in
          let e = k.1 in
          omega (arith, s, none, no_values, b, a, d, e)

  L : IsLongest (have_room entry_length (besides_entries last c p left []) 1048576) left found
  L = longest_is (have_room entry_length (besides_entries last c p left []) 1048576) left

  some_found : is_finished p left found ≡ false → (es : List Entry) → found ≡ es → (e : Entry) × (more : List Entry) × (es ≡ e ∷ more)
  some_found f (e ∷ es) is = (e, es, refl)
  some_found f [] is = by L.rest L.begins L.ends brief
    where
      few : 0 < length left
      few = let z = leb-false (length left) (length found) (sym (ap (λ d. d || leb (length left) (length found)) undone) ∙ f) in let y = ap length is in omega arith

      by : (rest : List Entry) → found ++ rest ≡ left → ((x : Entry) (more : List Entry) → rest ≡ x ∷ more → have_room entry_length (besides_entries last c p left []) 1048576 (found ++ x ∷ []) ≡ false) → AllByRecursion IsBrief left → (e : Entry) × (more : List Entry) × ([] ≡ e ∷ more)
      by [] begins ends all = absurd (let z = ap length begins in let y = ap length is in let l = length-append found ([]) in let f = few in omega arith)
      by (x ∷ more) begins ends all =
          let first : x ∷ more ≡ left = ap (λ (xs : List Entry). xs ++ x ∷ more) (sym is) ∙ begins in
          let whole : AllByRecursion IsBrief (x ∷ more) = subst (AllByRecursion IsBrief) (sym first) all in
          absurd (false≢true (sym (ends x more refl) ∙ ap (λ (xs : List Entry). have_room entry_length (besides_entries last c p left []) 1048576 (xs ++ x ∷ [])) is ∙ fits_one x whole.0))

  pub brings : Brings last c p left (chunk last c p left n records)
  brings = record { found = found; rest = L.rest; begins = L.begins; is = by (is_finished p left found) refl }
    where
      body_is : (b : Bool) → is_finished p left found ≡ b → chunk last c p left n records ≡ cond b (body.LastChunk c p [] found last) (body.Chunk c p [] found b)
      body_is b f = chunk_now ∙ ap (λ a. cond (a && is_finished p left found) (body.LastChunk c p [] found last) (body.Chunk c p [] found (is_finished p left found))) reaches
          ∙ ap (λ a. cond a (body.LastChunk c p [] found last) (body.Chunk c p [] found a)) f

      by : (b : Bool) → is_finished p left found ≡ b → (chunk last c p left n records ≡ body.LastChunk c p [] found last) ⊎ ((chunk last c p left n records ≡ body.Chunk c p [] found false) × ((e : Entry) × (es : List Entry) × (found ≡ e ∷ es)))
      by true f = inl (body_is true f)
      by false f = inr (body_is false f, some_found f found refl)

-- ---- a chunk of records

-- the records after a place that has no entries left
pub record BringsValues (last : ℕ) (c : Cookie) (v : ℕ) (b : Body) : Type 0 where
  pub values : List (List Op)
  pub is : ((b ≡ body.LastChunk c (record { version = v; key = key_place.Done }) values [] last) × (last ≤ v + length values))
      ⊎ ((b ≡ body.Chunk c (record { version = v; key = key_place.Done }) values [] true) × (v + length values < last) × ((x : List Op) × (xs : List (List Op)) × (values ≡ x ∷ xs)))

and_false : (a : Bool) → (a && false) ≡ false
and_false true = refl
and_false false = refl

and_true : (a : Bool) → (a && true) ≡ a
and_true true = refl
and_true false = refl

module _ (last : ℕ) (c : Cookie) (v : ℕ) (left : List Entry) (n : ℕ) (records : ℕ → Cell) (there : v < last → (x : List Op) × (record_at records (suc v) ≡ Some x) × (length (text x) ≤ 524288)) where
  abbrev p : ChunkPlace
  p = record { version = v; key = key_place.Done }

  abbrev values : List (List Op)
  values = longest (have_room value_length (besides_records last c p left) 1048576) (run_from records last (suc v))

  no_entries : (vs : List (List Op)) → given_entries last c p left n vs ≡ []
  no_entries vs = ap (λ b. cond b (longest (λ entries. fits n (chunk_with last c p left vs entries)) left) []) (and_false (reach last p vs))

  values_now : chunk last c p left n records ≡ chunk_with last c p left values []
  unfolding chunk
  values_now = ap (λ (es : List Entry). chunk_with last c p left (given_values last c p left n records) es) (no_entries (given_values last c p left n records)) ∙ ap (λ (vs : List (List Op)). chunk_with last c p left vs []) (given_values-is last c p left n records)

  fits_record : (x : List Op) → length (text x) ≤ 524288 → have_room value_length (besides_records last c p left) 1048576 (x ∷ []) ≡ true
  fits_record x short = λ j. le-leb (besides_records last c p left (x ∷ []) + sum_by value_length (x ∷ [])) 1048576 within j && true
    where
      within : besides_records last c p left (x ∷ []) + sum_by value_length (x ∷ []) ≤ 1048576
      within =
          let s = sum_by-cons value_length x [] in
          let none : sum_by value_length [] ≡ 0 = refl in
          let b : cond (reach last p (x ∷ []) && is_finished p left []) 40 33 ≤ 40 = cond_both (reach last p (x ∷ []) && is_finished p left []) 40 33 (λ z. z ≤ 40) (λ _. omega arith) (λ _. omega arith) in
          omega (arith, s, none, b, short)

  V : IsLongest (have_room value_length (besides_records last c p left) 1048576) (run_from records last (suc v)) values
  V = longest_is (have_room value_length (besides_records last c p left) 1048576) (run_from records last (suc v))

  -- the first record that is left
  first_run : v < last → (x : List Op) × (more : List (List Op)) × (run_from records last (suc v) ≡ x ∷ more) × (length (text x) ≤ 524288)
  unfolding run_of
  first_run less =
      let z = there less in
      let count : suc last - suc v ≡ suc (last - suc v) = omega arith in (
        z.0,
        run_of records (last - suc v) (suc (suc v)),
        ap (λ (k : ℕ). run_of records k (suc v)) count ∙ ap (λ (o : Option (List Op)). elim o as (λ _. List (List Op)) [ None ↦ [] | Some value ↦ value ∷ run_of records (last - suc v) (suc (suc v)) ]) z.1,
        z.2,
      )

  some_values : reach last p values ≡ false → (vs : List (List Op)) → values ≡ vs → (x : List Op) × (xs : List (List Op)) × (vs ≡ x ∷ xs)
  some_values r (x ∷ xs) is = (x, xs, refl)
  some_values r [] is = absurd (by V.rest V.begins V.ends)
    where
      less : v < last
      less = let z = leb-false last (v + length values) r in let y = ap length is in omega arith

      by : (rest : List (List Op)) → values ++ rest ≡ run_from records last (suc v) → ((x : List Op) (more : List (List Op)) → rest ≡ x ∷ more → have_room value_length (besides_records last c p left) 1048576 (values ++ x ∷ []) ≡ false) → ⊥
      by rest begins ends =
          let z = first_run less in
          let first : rest ≡ z.0 ∷ z.1 = ap (λ (xs : List (List Op)). xs ++ rest) (sym is) ∙ begins ∙ z.2 in
          false≢true (sym (ends z.0 z.1 first) ∙ ap (λ (xs : List (List Op)). have_room value_length (besides_records last c p left) 1048576 (xs ++ z.0 ∷ [])) is ∙ fits_record z.0 z.3)

  pub brings_values : BringsValues last c v (chunk last c p left n records)
  brings_values = record { values = values; is = by (reach last p values) refl }
    where
      body_is : (b : Bool) → reach last p values ≡ b → chunk last c p left n records ≡ cond b (body.LastChunk c p values [] last) (body.Chunk c p values [] true)
      body_is b r = values_now ∙ ap (λ a. cond a (body.LastChunk c p values [] last) (body.Chunk c p values [] true)) (and_true (reach last p values) ∙ r)

      by : (b : Bool) → reach last p values ≡ b → ((chunk last c p left n records ≡ body.LastChunk c p values [] last) × (last ≤ v + length values)) ⊎ ((chunk last c p left n records ≡ body.Chunk c p values [] true) × (v + length values < last) × ((x : List Op) × (xs : List (List Op)) × (values ≡ x ∷ xs)))
      by true r = inl (body_is true r, leb-true last (v + length values) r)
      by false r = inr (body_is false r, leb-false last (v + length values) r, some_values r values refl)
