-- What a set in the order of insertion does to a list, and the hand to the ring, as the clients of a link say it.
use Rattle.std.proofs.Common.{◌≡◌, ℕ, suc, ◌+◌, ◌-◌, ◌<◌, ◌≤◌, Bool, true, false, not, List, [], ◌∷◌, ◌++◌, length, take, slice_get, slice_set, Option, Some, None, IfSome, refl, sym, ap, ◌∙◌, subst, arith, inl, inr}
use Rattle.std.specs.Prelude.{swap_remove, slice_index_or}
use Rattle.std.specs.List.{list_any, position_or_len}
use Rattle.std.specs.declared.net.socket_addr.SocketAddr.{SocketAddr}
use Rattle.std.proofs.Math.Numerals.{one-add}
use Rattle.std.proofs.Math.Seq.{get_or-append_seam, take-append_seam}
use Rattle.std.proofs.lemmas.Bool.{cases_Bool, lt-ltb, le-ltb, both_ways}
use Rattle.std.proofs.lemmas.List.{get_or-set_same, length-append, length-set, set-append_left}
use Rattle.std.proofs.lemmas.Option.{none-some, slice_get_cases, slice_get_read}
use Rattle.indexmap.specs.IndexSet.{insert_key}
use Rattle.mon_link.specs.declared.clients.Ring.{Ring}
use Rattle.mon_link.specs.Clients.{MOST_CLIENTS, same_address, next, seen, stopped}

module _ {X : Type 0} (p : X → Bool) where
  absent_last : (xs : List X) → list_any p xs ≡ false → position_or_len p xs ≡ length xs
  absent_last [] e = refl
  absent_last (x ∷ xs) e =
      elim (cases_Bool (p x)) [
        | inl here ↦ absurd (both_ways _ e (rw here refl))
        | inr other ↦ rw other (ap (λ n. 1 + n) (absent_last xs (rw other at e)) ∙ one-add (length xs))
      ]

  present_before : (xs : List X) → list_any p xs ≡ true → position_or_len p xs < length xs
  present_before [] e = absurd (both_ways _ refl e)
  present_before (x ∷ xs) e =
      elim (cases_Bool (p x)) [
        | inl here ↦ rw here (omega arith)
        | inr other ↦ rw other (omega (arith, present_before xs (rw other at e)))
      ]

  -- the place of an element past a list of the most elements
  beyond : (xs : List X) (most : ℕ) → length xs ≤ most → most ≤ position_or_len p xs → (list_any p xs ≡ false) × (length xs ≡ most)
  beyond xs most h e =
      elim (cases_Bool (list_any p xs)) [
        | inl known ↦ absurd (omega (arith, present_before xs known))
        | inr new ↦ (new, omega (arith, absent_last xs new))
      ]

-- the last element takes the place of the one that goes
takes_place : {X : Type 0} (xs : List X) (x d : X) (i : ℕ) → i < length xs → swap_remove (xs ++ x ∷ []) i d ≡ slice_set xs i x
takes_place xs x d i h =
    let one_more : length (xs ++ x ∷ []) - 1 ≡ length xs = omega (arith, length-append xs (x ∷ [])) in
    rw (one_more, get_or-append_seam xs x [] d, set-append_left xs (x ∷ []) i x h)
    (subst (λ n. take n (slice_set xs i x ++ x ∷ []) ≡ slice_set xs i x) (length-set xs i x) (take-append_seam (slice_set xs i x) (x ∷ [])))

-- the hand passes a number with a mark
pub passes : (count i : ℕ) (marks : List Bool) (hand : ℕ) (total : Ring) → i < count → slice_index_or marks hand false ≡ true → stopped (count - i) (record { marks = marks; hand = hand }) ≡ total
    → stopped (count - (i + 1)) (record { marks = slice_set marks hand false; hand = next hand }) ≡ total
unfolding stopped
passes count i marks hand total lt marked so_far =
    let more : count - i ≡ suc (count - (i + 1)) = omega arith in
    let one : stopped (count - i) (record { marks = marks; hand = hand }) ≡ stopped (count - (i + 1)) (record { marks = slice_set marks hand false; hand = next hand }) =
    rw (more, marked) refl in
    sym one ∙ so_far

-- the hand stops at a number without a mark
pub stops : (count i : ℕ) (marks : List Bool) (hand : ℕ) (total : Ring) → i < count → slice_index_or marks hand false ≡ false → stopped (count - i) (record { marks = marks; hand = hand }) ≡ total
    → record { marks = marks; hand = hand } ≡ total
unfolding stopped
stops count i marks hand total lt free so_far =
    let more : count - i ≡ suc (count - (i + 1)) = omega arith in
    let one : stopped (count - i) (record { marks = marks; hand = hand }) ≡ record { marks = marks; hand = hand } = rw (more, free) refl in
    sym one ∙ so_far

-- the hand came round
pub came_round : (count i : ℕ) (ring total : Ring) → count ≤ i → stopped (count - i) ring ≡ total → ring ≡ total
unfolding stopped
came_round count i ring total le so_far =
    let none : count - i ≡ 0 = omega arith in
    let last : stopped (count - i) ring ≡ ring = rw none refl in
    sym last ∙ so_far

-- an address that isn't known
pub is_absent : {X : Type 0} (p : X → Bool) (xs : List X) (is_new : Bool) → is_new ≡ not (list_any p xs) → is_new ≡ true → list_any p xs ≡ false
is_absent p xs is_new added new =
    elim (cases_Bool (list_any p xs)) [
      | inl known ↦ absurd (both_ways is_new (added ∙ rw known refl) new)
      | inr absent ↦ absent
    ]

module _ (a : SocketAddr) (ks : List SocketAddr) (most : length ks ≤ MOST_CLIENTS) where
  -- an address that gets the next number
  pub seen_within : (ring : Ring) → list_any (same_address a) ks ≡ false → position_or_len (same_address a) ks < MOST_CLIENTS
      → record { addresses = insert_key same_address ks a; ring = ring } ≡ seen a (record { addresses = ks; ring = ring })
  seen_within ring new h = rw (new, lt-ltb (length ks) MOST_CLIENTS (omega (arith, absent_last (same_address a) ks new))) refl

  pub most_within : list_any (same_address a) ks ≡ false → position_or_len (same_address a) ks < MOST_CLIENTS → length (insert_key same_address ks a) ≤ MOST_CLIENTS
  most_within new h = rw new (omega (arith, length-append ks (a ∷ []), absent_last (same_address a) ks new))

  module _ (i : ℕ) (within : i < MOST_CLIENTS) (past : MOST_CLIENTS ≤ position_or_len (same_address a) ks) where
    -- an address that gets the number at which the hand stopped
    pub replaces : (gone : Option SocketAddr) (new : List SocketAddr) → gone ≡ slice_get (insert_key same_address ks a) i → IfSome gone (λ d. new ≡ swap_remove (insert_key same_address ks a) i d) → new ≡ slice_set ks i a
    replaces (Some d) new e h =
        let full = beyond (same_address a) ks MOST_CLIENTS most past in
        (rw full.0 at h) ∙ takes_place ks a d i (omega arith)
    replaces None new e h =
        let full = beyond (same_address a) ks MOST_CLIENTS most past in
        let keys : insert_key same_address ks a ≡ ks ++ a ∷ [] = rw full.0 refl in
        elim ((slice_get_cases (insert_key same_address ks a) i).1) [
          | inl found ↦ absurd (none-some _ (e ∙ found.2))
          | inr out ↦ absurd (omega (arith, out.0, ap length keys, length-append ks (a ∷ [])))
        ]

    pub seen_beyond : (ring after : Ring) (new : List SocketAddr) → after ≡ stopped MOST_CLIENTS ring → after.hand ≡ i → new ≡ slice_set ks i a
        → record { addresses = new; ring = record { marks = after.marks; hand = next i } } ≡ seen a (record { addresses = ks; ring = ring })
    seen_beyond ring after new stop at e =
        let full = beyond (same_address a) ks MOST_CLIENTS most past in
        rw (full.0, le-ltb (length ks) MOST_CLIENTS (omega arith), e, ← at, stop) refl

    pub most_beyond : (new : List SocketAddr) → new ≡ slice_set ks i a → length new ≤ MOST_CLIENTS
    most_beyond new e = omega (arith, ap length e, length-set ks i a)

    pub at_place : (new : List SocketAddr) → new ≡ slice_set ks i a → slice_get new i ≡ Some a
    at_place new e =
        let full = beyond (same_address a) ks MOST_CLIENTS most past in
        ap (λ xs. slice_get xs i) e ∙ slice_get_read (slice_set ks i a) (length ks) i a (sym (length-set ks i a)) (omega arith) (sym (get_or-set_same ks i a a (omega arith)))
