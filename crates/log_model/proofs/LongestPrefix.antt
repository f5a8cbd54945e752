-- The incrementals in a reply are a prefix of those after the version.
use Rattle.std.proofs.Common.{◌≡◌, ℕ, suc, ◌+◌, ◌<◌, ◌≤◌, Bool, ltb, IsTrue, ◌↔◌, List, [], ◌∷◌, ◌++◌, length, take, drop, sym, ap, ◌∙◌, arith, append_assoc}
use Rattle.std.proofs.lemmas.Bool.{cond_both, ltb-true, lt-ltb}
use Rattle.std.proofs.lemmas.List.{append-nil}
use Rattle.std.proofs.Math.ListN.{length-take, length-drop}
use Rattle.mon_msg.specs.Protocol.Services.{fits_reply}
use Rattle.mon_msg.specs.Protocol.Records.{longest_onto, longest}

module _ {A : Type 0} (test : List A → Bool) where
  record Front (done xs found : List A) : Type 0 where
    count : ℕ
    most : count ≤ length xs
    is : found ≡ done ++ take count xs

  front : (done xs : List A) → Front done xs (longest_onto test done xs)
  front done [] = record { count = 0; most = omega arith; is = sym (append-nil done) }
  front done (x ∷ xs) =
      let rest = front (done ++ x ∷ []) xs in
      cond_both (test (done ++ x ∷ [])) (longest_onto test (done ++ x ∷ []) xs) done (Front done (x ∷ xs))
      (λ e. record { count = suc rest.count; most = let m = rest.most in omega arith; is = rest.is ∙ append_assoc done (x ∷ []) (take rest.count xs) })
      (λ e. record { count = 0; most = omega arith; is = sym (append-nil done) })

  whole : (xs : List A) (count : ℕ) (found : List A) → count ≤ length xs → found ≡ take count xs → found ≡ take (length found) xs
  whole xs count found h e =
      let n : length found ≡ count = omega (arith, ap length e, length-take count xs) in
      e ∙ ap (λ (k : ℕ). take k xs) (sym n)

  longest_front : (xs : List A) → longest test xs ≡ take (length (longest test xs)) xs
  longest_front xs = let f = front [] xs in whole xs f.count (longest test xs) f.most f.is

pub longest_is_prefix : (xs : List (List ℕ)) → longest fits_reply xs ≡ take (length (longest fits_reply xs)) xs
longest_is_prefix xs = longest_front fits_reply xs

pub others_remain : (all : List (List ℕ)) (v told : ℕ) → IsTrue (ltb told (length (drop v all))) ↔ (v + told < length all)
others_remain all v told =
    let n = length-drop v all in
    (λ h. let lt = ltb-true told (length (drop v all)) h in omega arith, λ h. lt-ltb told (length (drop v all)) (omega arith))
