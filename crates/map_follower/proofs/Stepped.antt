-- How a run of incrementals goes on.
use Rattle.std.proofs.Common.{◌≡◌, ℕ, suc, ◌+◌, ◌<◌, List, ◌∷◌, length, drop, get_or, Some, None, Result, Err, sym, ap, ◌∙◌, arith}
use Rattle.std.proofs.lemmas.List.{drop_more}
use Rattle.mon_msg.specs.Protocol.Maps.{with_incremental}
use Rattle.mon_wire.specs.declared.reply.ShownMap.{ShownMap}
use Rattle.map_follower.specs.Copies.{applied_from, step_then}
use Rattle.map_follower.specs.Stepping.{Gives, Steps}
use Rattle.map_follower.specs.declared.stepping.Unapplied.{Unapplied}
use Rattle.map_follower.specs.declared.stepping.Unapplied.TheVariants.{Bad, OutOfMemory}

module _ (updates : List (List ℕ)) (i place : ℕ) (m : ShownMap) (bytes : List ℕ) (there : drop i updates ≡ bytes ∷ drop (i + 1) updates) where
  first_step : applied_from place m (drop i updates) ≡ step_then place (λ next. applied_from (suc place) next (drop (i + 1) updates)) (with_incremental m bytes)
  first_step = ap (applied_from place m) there

  pub goes_on : (next : ShownMap) → with_incremental m bytes ≡ Some next → applied_from (place + 1) next (drop (i + 1) updates) ≡ applied_from place m (drop i updates)
  goes_on next h =
      let one : place + 1 ≡ suc place = omega arith in
      ap (λ p. applied_from p next (drop (i + 1) updates)) one ∙ ap (step_then place (λ n. applied_from (suc place) n (drop (i + 1) updates))) (sym h) ∙ sym first_step

  refused : with_incremental m bytes ≡ None → applied_from place m (drop i updates) ≡ Err place
  refused h = first_step ∙ ap (step_then place (λ n. applied_from (suc place) n (drop (i + 1) updates))) h

  pub stops : (e : Unapplied) (new : ShownMap) → Steps (Err e) place new (with_incremental m bytes) → (whole : Result ShownMap ℕ) → applied_from place m (drop i updates) ≡ whole → Gives (Err e) whole
  stops (Bad j) new h whole w = sym w ∙ refused h.0 ∙ ap Err (sym h.1)
  stops OutOfMemory new h whole w = tt

pub next_of : (updates : List (List ℕ)) (i : ℕ) (x bytes : List ℕ) → i < length updates → x ≡ get_or updates i x → bytes ≡ x → drop i updates ≡ bytes ∷ drop (i + 1) updates
next_of updates i x bytes below is same = drop_more updates i x below ∙ ap (λ y. y ∷ drop (i + 1) updates) (sym is ∙ sym same)
