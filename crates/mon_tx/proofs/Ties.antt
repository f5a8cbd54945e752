-- Two named keys tie if and only if their names are the same.
use Rattle.std.proofs.Common.{◌≡◌, ℕ, ◌+◌, ◌<◌, ◌≤◌, Bool, true, false, cond, ◌&&◌, List, [], ◌∷◌, ◌++◌, map, get_or, eqb, refl, sym, ap, ◌∙◌, ◌⊎◌, inl, inr, arith, lit≤}
use Rattle.std.proofs.lemmas.Bool.{cases_eq, eq-eqb, ne_eqb, false_from_ne_true}
use Rattle.std.proofs.lemmas.Int.Digits.{same_from_digits_of, all_below_base_digits_of, first_digits_of}
use Rattle.std.specs.Prelude.{codes}
use Rattle.std.specs.FinMap.{slice_cmp-IsAntisymmetric, nat_cmp-IsAntisymmetric}
use Rattle.std.specs.Cmp.Lexicographic.{slice_cmp, nat_list_cmp_total}
use Rattle.std.specs.Ordering.{nat_cmp, eq_by_cmp}
use Rattle.std.specs.Cmp.{eq_by_cmp_equiv, tied_then}
use Rattle.std.specs.Int.Digits.{digits_of, AllBelowBase}
use Rattle.mon_tx.specs.declared.key.Area.{Area}
use Rattle.mon_tx.specs.declared.key.Area.TheVariants.{Paxos, Kv, Logm, Monitor, Sync}
use Rattle.mon_tx.specs.declared.key.Key.{Key}
use Rattle.mon_tx.specs.declared.key.Key.TheVariants.{FirstCommitted, LastCommitted, LastPn, AcceptedPn, PendingV, PendingPn, FullLatest, ElectionEpoch, BootCount, InSync, Floor, Version, Full}
use Rattle.mon_tx.specs.Map.{place_cmp}
use Rattle.mon_tx.specs.Keys.{decimal_text, area_text, key_text, place, same_area, same_key}
use Rattle.mon_tx.proofs.Places.{is_equal}

pub same_text : (k : List ℕ) → eq_by_cmp (slice_cmp nat_cmp) k k ≡ true
same_text k = (eq_by_cmp_equiv nat_list_cmp_total).refl k

pub apart : (j k : List ℕ) → (j ≡ k → ⊥) → eq_by_cmp (slice_cmp nat_cmp) j k ≡ false
apart j k ne = false_from_ne_true _ (λ e. ne (slice_cmp-IsAntisymmetric nat_cmp-IsAntisymmetric j k (is_equal _ e)))

map_back : (xs ys : List ℕ) → map (λ d. 48 + d) xs ≡ map (λ d. 48 + d) ys → xs ≡ ys
map_back [] [] e = refl
map_back [] (y ∷ ys) e = cc
map_back (x ∷ xs) [] e = cc
map_back (x ∷ xs) (y ∷ ys) e =
    let h : 48 + x ≡ 48 + y = cc in
    let t : map (λ d. 48 + d) xs ≡ map (λ d. 48 + d) ys = cc in
    let a : x ≡ y = omega arith in
    let b : xs ≡ ys = map_back xs ys t in
    cc

first_of_map : (ds : List ℕ) → AllBelowBase 10 ds → 0 < get_or ds 0 0 → (48 < get_or (map (λ d. 48 + d) ds) 0 0) × (get_or (map (λ d. 48 + d) ds) 0 0 < 58)
first_of_map [] b h = absurd (omega arith)
first_of_map (d ∷ ds) b h = let s = b.0 in (omega arith, omega arith)

-- the first byte of a decimal text; it is '0' for 0 alone
pub decimal_first : (n : ℕ) → (48 ≤ get_or (decimal_text n) 0 0) × (get_or (decimal_text n) 0 0 < 58)
unfolding decimal_text
decimal_first n = by (cases_eq n 0)
  where
    by : (n ≡ 0) ⊎ (n ≡ 0 → ⊥) → (48 ≤ get_or (cond (eqb n 0) (48 ∷ []) (map (λ d. 48 + d) (digits_of 10 n))) 0 0) × (get_or (cond (eqb n 0) (48 ∷ []) (map (λ d. 48 + d) (digits_of 10 n))) 0 0 < 58)
    by (inl e) = rw (eq-eqb n 0 e) (omega arith, omega arith)
    by (inr ne) = rw (ne_eqb n 0 ne) (let h = first_of_map (digits_of 10 n) (all_below_base_digits_of 10 n (omega arith)) (first_digits_of 10 n (omega arith) (omega arith)) in (omega (arith, h.0), omega (arith, h.1)))

pub decimal_some : (n : ℕ) → (n ≡ 0 → ⊥) → (decimal_text n ≡ map (λ d. 48 + d) (digits_of 10 n)) × (48 < get_or (decimal_text n) 0 0)
unfolding decimal_text
decimal_some n ne = rw (ne_eqb n 0 ne) (refl, (first_of_map (digits_of 10 n) (all_below_base_digits_of 10 n (omega arith)) (first_digits_of 10 n (omega arith) (omega arith))).0)

pub decimal_none : decimal_text 0 ≡ 48 ∷ []
unfolding decimal_text
decimal_none = refl

pub decimal_text_injective : (v w : ℕ) → decimal_text v ≡ decimal_text w → v ≡ w
decimal_text_injective v w e = by (cases_eq v 0) (cases_eq w 0)
  where
    by : (v ≡ 0) ⊎ (v ≡ 0 → ⊥) → (w ≡ 0) ⊎ (w ≡ 0 → ⊥) → v ≡ w
    by (inl a) (inl b) = omega arith
    by (inl a) (inr b) = let f = ap (λ (z : List ℕ). get_or z 0 0) (sym e ∙ ap decimal_text a ∙ decimal_none) in absurd (omega (arith, f, (decimal_some w b).1))
    by (inr a) (inl b) = let f = ap (λ (z : List ℕ). get_or z 0 0) (e ∙ ap decimal_text b ∙ decimal_none) in absurd (omega (arith, f, (decimal_some v a).1))
    by (inr a) (inr b) = same_from_digits_of 10 v w (omega arith) (map_back _ _ (sym (decimal_some v a).0 ∙ e ∙ (decimal_some w b).0))

abbrev tie : List ℕ → List ℕ → Bool
tie = eq_by_cmp (slice_cmp nat_cmp)

-- a text whose first byte is no digit is no decimal text
not_decimal : (v c : ℕ) (cs : List ℕ) → 58 ≤ c → decimal_text v ≡ c ∷ cs → ⊥
not_decimal v c cs h e = let f = ap (λ (z : List ℕ). get_or z 0 0) e in omega (arith, f, (decimal_first v).1)

decimal_letters : (v c : ℕ) (cs : List ℕ) → 58 ≤ c → tie (decimal_text v) (c ∷ cs) ≡ false
decimal_letters v c cs h = apart _ _ (not_decimal v c cs h)

letters_decimal : (v c : ℕ) (cs : List ℕ) → 58 ≤ c → tie (c ∷ cs) (decimal_text v) ≡ false
letters_decimal v c cs h = apart _ _ (λ e. not_decimal v c cs h (sym e))

decimals : (v w : ℕ) → tie (decimal_text v) (decimal_text w) ≡ eqb v w
decimals v w = by (cases_eq v w)
  where
    by : (v ≡ w) ⊎ (v ≡ w → ⊥) → tie (decimal_text v) (decimal_text w) ≡ eqb v w
    by (inl e) = rw (e, same_text (decimal_text w), eq-eqb w w refl) refl
    by (inr ne) = rw (apart (decimal_text v) (decimal_text w) (λ e. ne (decimal_text_injective v w e)), ne_eqb v w ne) refl

key_tie : (k n : Key) → tie (key_text k) (key_text n) ≡ same_key k n
key_tie FirstCommitted (Version w) = letters_decimal w 102 (codes "irst_committed") (lit≤ tt)
key_tie LastCommitted (Version w) = letters_decimal w 108 (codes "ast_committed") (lit≤ tt)
key_tie LastPn (Version w) = letters_decimal w 108 (codes "ast_pn") (lit≤ tt)
key_tie AcceptedPn (Version w) = letters_decimal w 97 (codes "ccepted_pn") (lit≤ tt)
key_tie PendingV (Version w) = letters_decimal w 112 (codes "ending_v") (lit≤ tt)
key_tie PendingPn (Version w) = letters_decimal w 112 (codes "ending_pn") (lit≤ tt)
key_tie FullLatest (Version w) = letters_decimal w 102 (codes "ull_latest") (lit≤ tt)
key_tie ElectionEpoch (Version w) = letters_decimal w 101 (codes "lection_epoch") (lit≤ tt)
key_tie BootCount (Version w) = letters_decimal w 98 (codes "oot_count") (lit≤ tt)
key_tie InSync (Version w) = letters_decimal w 105 (codes "n_sync") (lit≤ tt)
key_tie Floor (Version w) = letters_decimal w 108 (codes "ast_committed_floor") (lit≤ tt)
key_tie (Version v) FirstCommitted = decimal_letters v 102 (codes "irst_committed") (lit≤ tt)
key_tie (Version v) LastCommitted = decimal_letters v 108 (codes "ast_committed") (lit≤ tt)
key_tie (Version v) LastPn = decimal_letters v 108 (codes "ast_pn") (lit≤ tt)
key_tie (Version v) AcceptedPn = decimal_letters v 97 (codes "ccepted_pn") (lit≤ tt)
key_tie (Version v) PendingV = decimal_letters v 112 (codes "ending_v") (lit≤ tt)
key_tie (Version v) PendingPn = decimal_letters v 112 (codes "ending_pn") (lit≤ tt)
key_tie (Version v) FullLatest = decimal_letters v 102 (codes "ull_latest") (lit≤ tt)
key_tie (Version v) ElectionEpoch = decimal_letters v 101 (codes "lection_epoch") (lit≤ tt)
key_tie (Version v) BootCount = decimal_letters v 98 (codes "oot_count") (lit≤ tt)
key_tie (Version v) InSync = decimal_letters v 105 (codes "n_sync") (lit≤ tt)
key_tie (Version v) Floor = decimal_letters v 108 (codes "ast_committed_floor") (lit≤ tt)
key_tie (Version v) (Version w) = decimals v w
key_tie (Version v) (Full w) = decimal_letters v 102 (codes "ull_" ++ decimal_text w) (lit≤ tt)
key_tie (Full v) (Version w) = letters_decimal w 102 (codes "ull_" ++ decimal_text v) (lit≤ tt)
key_tie (Full v) (Full w) = decimals v w
key_tie FullLatest (Full w) = letters_decimal w 108 (codes "atest") (lit≤ tt)
key_tie (Full v) FullLatest = decimal_letters v 108 (codes "atest") (lit≤ tt)
key_tie k n = refl

pub area_tie : (b a : Area) → tie (area_text b) (area_text a) ≡ same_area b a
area_tie Paxos Paxos = refl
area_tie Paxos Kv = refl
area_tie Paxos Logm = refl
area_tie Paxos Monitor = refl
area_tie Paxos Sync = refl
area_tie Kv Paxos = refl
area_tie Kv Kv = refl
area_tie Kv Logm = refl
area_tie Kv Monitor = refl
area_tie Kv Sync = refl
area_tie Logm Paxos = refl
area_tie Logm Kv = refl
area_tie Logm Logm = refl
area_tie Logm Monitor = refl
area_tie Logm Sync = refl
area_tie Monitor Paxos = refl
area_tie Monitor Kv = refl
area_tie Monitor Logm = refl
area_tie Monitor Monitor = refl
area_tie Monitor Sync = refl
area_tie Sync Paxos = refl
area_tie Sync Kv = refl
area_tie Sync Logm = refl
area_tie Sync Monitor = refl
area_tie Sync Sync = refl

pub place_tie : (b a : Area) (k n : Key) → eq_by_cmp place_cmp (place b k) (place a n) ≡ (same_area b a && same_key k n)
place_tie b a k n = sym (tied_then (slice_cmp nat_cmp (area_text b) (area_text a)) (slice_cmp nat_cmp (key_text k) (key_text n))) ∙ (λ i. area_tie b a i && key_tie k n i)

pub same_area_itself : (a : Area) → same_area a a ≡ true
same_area_itself Paxos = refl
same_area_itself Kv = refl
same_area_itself Logm = refl
same_area_itself Monitor = refl
same_area_itself Sync = refl
