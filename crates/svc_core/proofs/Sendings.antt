-- The incrementals that one reply has room for, one after the other.
use Rattle.std.proofs.Common.{◌≡◌, ℕ, suc, ◌+◌, ◌-◌, ◌<◌, ◌≤◌, Bool, true, false, cond, ◌&&◌, leb, ltb, List, [], ◌∷◌, ◌++◌, length, Some, None, ◌⊎◌, inl, inr, refl, sym, ap, ◌∙◌, arith}
use Rattle.std.proofs.lemmas.Bool.{le-leb, lt-leb, lt-ltb, le-ltb}
use Rattle.std.proofs.lemmas.List.{length-append}
use Rattle.std.proofs.lemmas.List.Sums.{sum_by-append}
use Rattle.std.specs.List.{sum_by}
use Rattle.mon_tx.specs.Decision.{Cell}
use Rattle.mon_tx.specs.declared.key.Key.TheVariants as key
use Rattle.mon_msg.specs.Protocol.Services.{kept_from, fits_reply}
use Rattle.mon_msg.specs.Protocol.Records.{longest_onto, longest}
use Rattle.mon_msg.specs.Protocol.Readings.{Readings}
use Rattle.mon_wire.specs.declared.request.Service.{Service}

abbrev size : List ℕ → ℕ
size bytes = length bytes + 4

module _ (w : Readings) (s : Service) where
  kept-none : (count v : ℕ) → w.row s (key.Version v) ≡ None → kept_from w s (suc count) v ≡ []
  unfolding kept_from
  kept-none count v e = ap (λ (c : Cell). elim c as (λ _. List (List ℕ)) [ None ↦ [] | Some bytes ↦ bytes ∷ kept_from w s count (suc v) ]) e

  kept-some : (count v : ℕ) (bytes : List ℕ) → w.row s (key.Version v) ≡ Some bytes → kept_from w s (suc count) v ≡ bytes ∷ kept_from w s count (suc v)
  unfolding kept_from
  kept-some count v bytes e = ap (λ (c : Cell). elim c as (λ _. List (List ℕ)) [ None ↦ [] | Some bytes ↦ bytes ∷ kept_from w s count (suc v) ]) e

  -- those after version n
  abbrev after : ℕ → ℕ → List (List ℕ)
  after last n = kept_from w s (last - n) (suc n)

  pub record Sends (last v n : ℕ) (updates : List (List ℕ)) (room : ℕ) : Type 0 where
    pub so_far : longest_onto fits_reply updates (after last n) ≡ longest fits_reply (after last v)
    pub count : length updates + length (after last n) ≡ length (after last v)
    pub room_is : room + sum_by size updates ≡ 524288
    pub many : length updates ≤ 65535

  next_is : (last n : ℕ) (bytes : List ℕ) → n < last → w.row s (key.Version (n + 1)) ≡ Some bytes → after last n ≡ bytes ∷ after last (n + 1)
  next_is last n bytes lt e =
      let a : last - n ≡ suc (last - (n + 1)) = omega arith in
      let b : n + 1 ≡ suc n = omega arith in
      rw a (kept-some (last - (n + 1)) (suc n) bytes (rw b at e)) ∙ ap (λ (k : ℕ). bytes ∷ kept_from w s (last - (n + 1)) (suc k)) (sym b)

  may : (updates : List (List ℕ)) (bytes : List ℕ) (room : ℕ) → room + sum_by size updates ≡ 524288 → length updates < 65535 → length bytes + 4 ≤ room → fits_reply (updates ++ bytes ∷ []) ≡ true
  may updates bytes room room_is few short =
      let a : leb (length (updates ++ bytes ∷ [])) 65535 ≡ true = le-leb _ _ (omega (arith, length-append updates (bytes ∷ []))) in
      let b : leb (sum_by size (updates ++ bytes ∷ [])) 524288 ≡ true = le-leb _ _ (omega (arith, sum_by-append size updates (bytes ∷ []))) in
      rw (a, b) refl

  neither : (a b : Bool) → (a ≡ false) ⊎ (b ≡ false) → (a && b) ≡ false
  neither true b (inl e) = absurd cc
  neither true b (inr e) = e
  neither false b h = refl

  may_not : (updates : List (List ℕ)) (bytes : List ℕ) (room : ℕ) → room + sum_by size updates ≡ 524288 → (65535 ≤ length updates) ⊎ (room < length bytes + 4) → fits_reply (updates ++ bytes ∷ []) ≡ false
  may_not updates bytes room room_is (inl many) = neither _ _ (inl (lt-leb (length (updates ++ bytes ∷ [])) 65535 (omega (arith, length-append updates (bytes ∷ [])))))
  may_not updates bytes room room_is (inr long) = neither _ _ (inr (lt-leb (sum_by size (updates ++ bytes ∷ [])) 524288 (omega (arith, sum_by-append size updates (bytes ∷ [])))))

  pub sends_more : (last v n : ℕ) (updates : List (List ℕ)) (room : ℕ) (bytes : List ℕ) → n < last → w.row s (key.Version (n + 1)) ≡ Some bytes → length updates < 65535 → length bytes + 4 ≤ room
      → Sends last v n updates room → Sends last v (n + 1) (updates ++ bytes ∷ []) (room - (length bytes + 4))
  sends_more last v n updates room bytes lt e few short h =
      let next = next_is last n bytes lt e in
      let yes = may updates bytes room h.room_is few short in
      record {
        so_far = sym (ap (λ b. cond b (longest_onto fits_reply (updates ++ bytes ∷ []) (after last (n + 1))) updates) yes) ∙ sym (ap (longest_onto fits_reply updates) next) ∙ h.so_far;
        count = omega (arith, h.count, ap length next, length-append updates (bytes ∷ []));
        room_is = omega (arith, h.room_is, sum_by-append size updates (bytes ∷ []));
        many = omega (arith, length-append updates (bytes ∷ []));
      }

  pub sends_full : (last v n : ℕ) (updates : List (List ℕ)) (room : ℕ) (bytes : List ℕ) → n < last → w.row s (key.Version (n + 1)) ≡ Some bytes → (65535 ≤ length updates) ⊎ (room < length bytes + 4)
      → Sends last v n updates room → (updates ≡ longest fits_reply (after last v)) × (true ≡ ltb (length updates) (length (after last v)))
  sends_full last v n updates room bytes lt e full h =
      let next = next_is last n bytes lt e in
      let no = may_not updates bytes room h.room_is full in (
        sym (ap (λ b. cond b (longest_onto fits_reply (updates ++ bytes ∷ []) (after last (n + 1))) updates) no) ∙ sym (ap (longest_onto fits_reply updates) next) ∙ h.so_far,
        sym (lt-ltb _ _ (omega (arith, h.count, ap length next))),
      )

  sends_all : (last v n : ℕ) (updates : List (List ℕ)) (room : ℕ) → after last n ≡ [] → Sends last v n updates room → (updates ≡ longest fits_reply (after last v)) × (false ≡ ltb (length updates) (length (after last v)))
  sends_all last v n updates room none h =
      (sym (ap (longest_onto fits_reply updates) none) ∙ h.so_far, sym (le-ltb _ _ (omega (arith, h.count, ap length none))))

  pub sends_gap : (last v n : ℕ) (updates : List (List ℕ)) (room : ℕ) → n < last → w.row s (key.Version (n + 1)) ≡ None → Sends last v n updates room
      → (updates ≡ longest fits_reply (after last v)) × (false ≡ ltb (length updates) (length (after last v)))
  sends_gap last v n updates room lt e h =
      let a : last - n ≡ suc (last - (n + 1)) = omega arith in
      let b : n + 1 ≡ suc n = omega arith in
      sends_all last v n updates room (rw a (kept-none (last - (n + 1)) (suc n) (rw b at e))) h

  pub sends_last : (last v n : ℕ) (updates : List (List ℕ)) (room : ℕ) → last ≤ n → Sends last v n updates room → (updates ≡ longest fits_reply (after last v)) × (false ≡ ltb (length updates) (length (after last v)))
  unfolding kept_from
  sends_last last v n updates room le h = let a : last - n ≡ 0 = omega arith in sends_all last v n updates room (rw a refl) h
