-- The stores of the first calm run: what their readers return, how large they are, and that they share nothing yet.
use Rattle.calm_quorum.proofs.States.{alone, born, led, promised, served, tells, with_changes}
use Rattle.law_names.proofs.Runs.{HasAll, last_of, most_size, size_of}
use Rattle.law_names.proofs.Table.{AllByRecursion, Area, Boot, Change, Epoch, Erase, ErasePrefix, EraseRange, Key, Numbers, Op, Promise, Put, Readings, Store, apply, area_of, cell, empty, encoded, entries, epoch_of, fold, get, insert, marks, number, number_bytes, number_if_there, number_in, place, place_cmp, played, promise_of, readings_of, retain_keys, same_map}
use Rattle.log_model.proofs.Places.{get_kept, is_shared, lost_put, shared_is}
use Rattle.mon_kv.specs.Readers.{pending}
use Rattle.mon_msg.proofs.Changed.{readings-joined}
use Rattle.mon_msg.proofs.Joining.{apply-joined}
use Rattle.mon_tx.proofs.Places.{exact_places, places_total}
use Rattle.mon_tx.specs.Map.{Place}
use Rattle.mon_tx.specs.declared.key.Area.TheVariants as area
use Rattle.mon_tx.specs.declared.key.Key.TheVariants as key
use Rattle.std.proofs.Common.{Bool, List, None, Option, Some, [], ap, arith, cond, false, length, lit≤, nat_lt, refl, sym, true, ℕ, ◌^◌, ◌∙◌, ◌∷◌, ◌≡◌, ◌≤◌}
use Rattle.std.specs.FinMap.{entries-insert, get-empty, len-empty, len-entries, put}

-- ---- what is replied

nothing_there : (a : Area) (k : Key) → cell empty a k ≡ None
nothing_there a k = get-empty place_cmp (place a k)

no_number : (a : Area) (k : Key) → number empty a k ≡ 0
unfolding number_in
no_number a k = ap number_in (nothing_there a k)

abbrev pub unborn : Readings
unborn = record (tells None None None) { boot = 0 }

pub empty_told : readings_of empty ≡ unborn
unfolding readings_of number_in
empty_told = λ i. record {
  epoch = ap number_if_there (nothing_there area.Monitor key.ElectionEpoch) i;
  boot = no_number area.Monitor key.BootCount i;
  last_pn = ap number_if_there (nothing_there area.Paxos key.LastPn) i;
  promise = ap number_if_there (nothing_there area.Paxos key.AcceptedPn) i;
  pending_v = no_number area.Paxos key.PendingV i;
  pending_pn = no_number area.Paxos key.PendingPn i;
  first = no_number area.Paxos key.FirstCommitted i;
  last = no_number area.Paxos key.LastCommitted i;
  marked = ap marks (nothing_there area.Sync key.InSync) i;
  floor = no_number area.Sync key.Floor i;
  record_of = λ v. nothing_there area.Paxos (key.Version v) i;
  row = λ s k. nothing_there (area_of s) k i;
}

pub born_told : readings_of born ≡ tells (Some 1) None None
unfolding born
born_told =
    readings-joined (Boot 1 ∷ Epoch 1 ∷ []) (lit≤ tt, (lit≤ tt, tt)) empty
    ∙ ap (played (Boot 1 ∷ Epoch 1 ∷ [])) empty_told

pub led_told : readings_of led ≡ tells (Some 2) (Some 100) (Some 100)
unfolding led
led_told =
    readings-joined (Epoch 2 ∷ Numbers 100 ∷ []) (lit≤ tt, (lit≤ tt, tt)) born
    ∙ ap (played (Epoch 2 ∷ Numbers 100 ∷ [])) born_told

pub served_told : readings_of served ≡ tells (Some 2) None None
unfolding served
served_told = readings-joined (Epoch 2 ∷ []) (lit≤ tt, tt) born ∙ ap (played (Epoch 2 ∷ [])) born_told

pub promised_told : readings_of promised ≡ tells (Some 2) None (Some 100)
unfolding promised
promised_told = readings-joined (Promise 100 ∷ []) (lit≤ tt, tt) served ∙ ap (played (Promise 100 ∷ [])) served_told

pub alone_told : readings_of alone ≡ tells (Some 2) (Some 100) (Some 100)
unfolding alone
alone_told =
    readings-joined (Boot 1 ∷ Epoch 1 ∷ Epoch 2 ∷ Numbers 100 ∷ []) (lit≤ tt, (lit≤ tt, (lit≤ tt, (lit≤ tt, tt))))
    empty
    ∙ ap (played (Boot 1 ∷ Epoch 1 ∷ Epoch 2 ∷ Numbers 100 ∷ [])) empty_told

-- ---- sizes

abbrev Entries : Type 0
Entries = List (Place × List ℕ)

-- what puts leave, in order
abbrev put_all : List Op → Entries → Entries
put_all [] es = es
put_all (Put prefix k v ∷ ops) es = put_all ops (put place_cmp (prefix, k) v es)
put_all (Erase prefix k ∷ ops) es = es
put_all (ErasePrefix prefix ∷ ops) es = es
put_all (EraseRange prefix from to ∷ ops) es = es

abbrev are_puts : List Op → Bool
are_puts [] = true
are_puts (Put prefix k v ∷ ops) = are_puts ops
are_puts (Erase prefix k ∷ ops) = false
are_puts (ErasePrefix prefix ∷ ops) = false
are_puts (EraseRange prefix from to ∷ ops) = false

entries_put : (ops : List Op) (m : Store) (es : Entries) → are_puts ops ≡ true → entries m ≡ es
    → entries (apply ops m) ≡ put_all ops es
entries_put [] m es h e = e
entries_put (Put prefix k v ∷ ops) m es h e =
    entries_put ops (insert m (prefix, k) v) (put place_cmp (prefix, k) v es) h
    (entries-insert places_total m (prefix, k) v ∙ ap (put place_cmp (prefix, k) v) e)
entries_put (Erase prefix k ∷ ops) m es h e = absurd cc
entries_put (ErasePrefix prefix ∷ ops) m es h e = absurd cc
entries_put (EraseRange prefix from to ∷ ops) m es h e = absurd cc

no_length : {A : Type 0} (es : List A) → length es ≡ 0 → es ≡ []
no_length [] e = refl
no_length (x ∷ es) e = absurd (omega arith)

no_entries : ◌≡◌ {A = Entries} (entries {R = place_cmp} empty) []
no_entries =
    no_length (entries {R = place_cmp} empty)
    (sym (len-entries {R = place_cmp} empty) ∙ len-empty place_cmp (List ℕ))

changed_entries : (cs : List Change) (m : Store) (es : Entries) → are_puts (encoded cs) ≡ true → entries m ≡ es
    → entries (with_changes cs m) ≡ put_all (encoded cs) es
changed_entries cs m es h e = ap entries (apply-joined (encoded cs) m) ∙ entries_put (encoded cs) m es h e

abbrev es1 : Entries
es1 = put_all (encoded (Boot 1 ∷ Epoch 1 ∷ [])) []

abbrev es2 : Entries
es2 = put_all (encoded (Epoch 2 ∷ [])) es1

born_entries : entries born ≡ es1
unfolding born
born_entries = changed_entries (Boot 1 ∷ Epoch 1 ∷ []) empty [] refl no_entries

served_entries : entries served ≡ es2
unfolding served
served_entries = changed_entries (Epoch 2 ∷ []) born es1 refl born_entries

abbrev pub IsSmall : Store → Type 0
IsSmall m = nat_lt most_size (size_of m) ≡ false

abbrev measured : Entries → ℕ
measured es = Rattle.std.specs.Prelude.sum_by Rattle.mon_kv.specs.Readers.entry_size es

small_by : (m : Store) (es : Entries) → entries m ≡ es → nat_lt most_size (measured es) ≡ false → IsSmall m
unfolding size_of
small_by m es e h = ap (λ (z : Entries). nat_lt most_size (measured z)) e ∙ h

pub born_small : IsSmall born
unfolding number_bytes
born_small = small_by born es1 born_entries refl

pub served_small : IsSmall served
unfolding number_bytes
served_small = small_by served es2 served_entries refl

pub led_small : IsSmall led
unfolding led number_bytes
led_small = small_by led _ (changed_entries (Epoch 2 ∷ Numbers 100 ∷ []) born es1 refl born_entries) refl

pub promised_small : IsSmall promised
unfolding promised number_bytes
promised_small = small_by promised _ (changed_entries (Promise 100 ∷ []) served es2 refl served_entries) refl

pub alone_small : IsSmall alone
unfolding alone number_bytes
alone_small =
    small_by alone _ (changed_entries (Boot 1 ∷ Epoch 1 ∷ Epoch 2 ∷ Numbers 100 ∷ []) empty [] refl no_entries) refl

-- ---- what is shared

abbrev pub SharesNone : Store → Type 0
SharesNone m = retain_keys m (is_shared 0) ≡ empty

none_kept : SharesNone empty
none_kept =
    same_map places_total exact_places _ _
    (λ q. get_kept empty (is_shared 0) q ∙ by (is_shared 0 q) (get empty q) (get-empty place_cmp q))
  where
    by : (b : Bool) (c : Option (List ℕ)) → c ≡ None → cond b c None ≡ c
    by true c e = refl
    by false c e = sym e

-- puts of own keys
abbrev are_own : List Op → Bool
are_own [] = true
are_own (Put prefix k v ∷ ops) = cond (is_shared 0 (prefix, k)) false (are_own ops)
are_own (Erase prefix k ∷ ops) = false
are_own (ErasePrefix prefix ∷ ops) = false
are_own (EraseRange prefix from to ∷ ops) = false

own_stay : (ops : List Op) (m : Store) → are_own ops ≡ true → SharesNone m → SharesNone (apply ops m)
own_stay [] m h e = e
own_stay (Put prefix k v ∷ ops) m h e = by (is_shared 0 (prefix, k)) refl h (own_stay ops (insert m (prefix, k) v))
  where
    by : (b : Bool) → is_shared 0 (prefix, k) ≡ b → cond b false (are_own ops) ≡ true
        → (are_own ops ≡ true → SharesNone (insert m (prefix, k) v)
        → SharesNone (apply ops (insert m (prefix, k) v))) → SharesNone (apply ops (insert m (prefix, k) v))
    by true q h ih = absurd cc
    by false q h ih = ih h (lost_put m (is_shared 0) (prefix, k) v q ∙ e)
own_stay (Erase prefix k ∷ ops) m h e = absurd cc
own_stay (ErasePrefix prefix ∷ ops) m h e = absurd cc
own_stay (EraseRange prefix from to ∷ ops) m h e = absurd cc

changed_share : (cs : List Change) (m : Store) → are_own (encoded cs) ≡ true → SharesNone m
    → SharesNone (with_changes cs m)
changed_share cs m h e =
    ap (λ (z : Store). retain_keys z (is_shared 0)) (apply-joined (encoded cs) m) ∙ own_stay (encoded cs) m h e

born_shares : SharesNone born
unfolding born
born_shares = changed_share (Boot 1 ∷ Epoch 1 ∷ []) empty refl none_kept

served_shares : SharesNone served
unfolding served
served_shares = changed_share (Epoch 2 ∷ []) born refl born_shares

pub led_shares : SharesNone led
unfolding led
led_shares = changed_share (Epoch 2 ∷ Numbers 100 ∷ []) born refl born_shares

pub promised_shares : SharesNone promised
unfolding promised
promised_shares = changed_share (Promise 100 ∷ []) served refl served_shares

pub alone_shares : SharesNone alone
unfolding alone
alone_shares = changed_share (Boot 1 ∷ Epoch 1 ∷ Epoch 2 ∷ Numbers 100 ∷ []) empty refl none_kept

-- ---- nothing is committed or pending

pub no_version : (m : Store) (a b c : Option ℕ) → readings_of m ≡ tells a b c → last_of m ≡ 0
unfolding readings_of
no_version m a b c e = ap (λ (w : Readings). w.last) e

none_pending : (m : Store) (a b c : Option ℕ) → readings_of m ≡ tells a b c → pending m ≡ None
unfolding readings_of pending
none_pending m a b c e =
    let v : number m area.Paxos key.PendingV ≡ 0 = ap (λ (w : Readings). w.pending_v) e in
    let l : number m area.Paxos key.LastCommitted ≡ 0 = ap (λ (w : Readings). w.last) e in
    rw (v, l) refl

pub has_all : (m : Store) (b : Option ℕ) → readings_of m ≡ tells (Some 2) b (Some 100) → SharesNone m → HasAll [] m
unfolding fold
has_all m b e s = record {
  epoch = ap epoch_of e;
  promise = ap promise_of e;
  settled = none_pending m _ _ _ e;
  last = no_version m _ _ _ e;
  folded = shared_is m 0 (no_version m _ _ _ e) ∙ s;
}

-- ---- how they were made

-- transactions one after another
abbrev pub all_changed : List (List Change) → Store → Store
all_changed [] m = m
all_changed (cs ∷ css) m = all_changed css (with_changes cs m)

-- the changes that come before there are versions
abbrev pub IsEarly : Change → Type 0
IsEarly (Boot b) = b ≤ 2 ^ 62
IsEarly (Epoch e) = e ≤ 2 ^ 62
IsEarly (Numbers pn) = pn ≤ 2 ^ 62
IsEarly (Promise pn) = pn ≤ 2 ^ 62
IsEarly other = ⊥

abbrev pub AllEarly : List (List Change) → Type 0
AllEarly css = AllByRecursion (AllByRecursion IsEarly) css

-- a store of the first calm run: what its readers give, and how it was made
pub record IsFirst (m : Store) : Type 0 where
  pub last_pn : Option ℕ
  pub told : readings_of m ≡ tells (Some 2) last_pn (Some 100)
  pub has : HasAll [] m
  pub small : IsSmall m
  pub transactions : List (List Change)
  pub made : m ≡ all_changed transactions empty
  pub early : AllEarly transactions

abbrev births : List Change
births = Boot 1 ∷ Epoch 1 ∷ []

pub led_first : IsFirst led
unfolding born led
led_first = record {
  last_pn = Some 100;
  told = led_told;
  has = has_all led (Some 100) led_told led_shares;
  small = led_small;
  transactions = births ∷ (Epoch 2 ∷ Numbers 100 ∷ []) ∷ [];
  made = refl;
  early = ((lit≤ tt, (lit≤ tt, tt)), ((lit≤ tt, (lit≤ tt, tt)), tt));
}

pub promised_first : IsFirst promised
unfolding born served promised
promised_first = record {
  last_pn = None;
  told = promised_told;
  has = has_all promised None promised_told promised_shares;
  small = promised_small;
  transactions = births ∷ (Epoch 2 ∷ []) ∷ (Promise 100 ∷ []) ∷ [];
  made = refl;
  early = ((lit≤ tt, (lit≤ tt, tt)), ((lit≤ tt, tt), ((lit≤ tt, tt), tt)));
}

pub alone_first : IsFirst alone
unfolding alone
alone_first = record {
  last_pn = Some 100;
  told = alone_told;
  has = has_all alone (Some 100) alone_told alone_shares;
  small = alone_small;
  transactions = (Boot 1 ∷ Epoch 1 ∷ Epoch 2 ∷ Numbers 100 ∷ []) ∷ [];
  made = refl;
  early = ((lit≤ tt, (lit≤ tt, (lit≤ tt, (lit≤ tt, tt)))), tt);
}
