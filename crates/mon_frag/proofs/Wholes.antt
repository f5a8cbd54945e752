-- The parts of a message, once they are all there, are the message.
use Rattle.std.proofs.Common.{◌≡◌, ℕ, suc, ◌+◌, ◌*◌, ◌≤◌, true, List, [], ◌∷◌, ◌++◌, length, take, drop, Option, Some, None, is_some, unwrap_or, refl, sym, ap, ◌∙◌, arith}
use Rattle.std.specs.List.{list_all, flat_map, slice_get}
use Rattle.std.proofs.lemmas.List.{take-append-drop, drop-drop, length-drop, nil_from_length}
use Rattle.mon_frag.specs.Pieces.{part_at}

-- each part that is there is that of the message
abbrev pub AreParts : List ℕ → List (Option (List ℕ)) → Type 0
AreParts message parts = (k : ℕ) (bytes : List ℕ) → slice_get parts k ≡ Some (Some bytes) → bytes ≡ part_at message (59000 * k)

later_part : (message bytes : List ℕ) (k : ℕ) → bytes ≡ part_at message (59000 * suc k) → bytes ≡ part_at (drop 59000 message) (59000 * k)
later_part message bytes k e =
    let place : 59000 + 59000 * k ≡ 59000 * suc k = omega arith in
    e ∙ ap (λ (n : ℕ). take 59000 (drop n message)) (sym place) ∙ ap (take 59000) (sym (drop-drop (59000 * k) 59000 message))

pub are_whole : (parts : List (Option (List ℕ))) (message : List ℕ) → AreParts message parts → list_all is_some parts ≡ true → length message ≤ 59000 * length parts
    → flat_map (λ part. unwrap_or part []) parts ≡ message
are_whole [] message each all long = sym (nil_from_length message (omega arith))
are_whole (None ∷ parts) message each all long = absurd cc
are_whole (Some bytes ∷ parts) message each all long =
    let first : bytes ≡ take 59000 message = each 0 bytes refl in
    let rest = are_whole parts (drop 59000 message) (λ k b e. later_part message b k (each (suc k) b e)) all (omega (arith, length-drop 59000 message)) in
    ap (λ (x : List ℕ). x ++ flat_map (λ part. unwrap_or part []) parts) first ∙ ap (λ (x : List ℕ). take 59000 message ++ x) rest ∙ take-append-drop 59000 message
