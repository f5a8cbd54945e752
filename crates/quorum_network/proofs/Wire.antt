-- A datagram from the wire that is handed on as a monitor's was sent by that monitor to this one.
use Rattle.law_names.proofs.Table.{Stop}
use Rattle.mon_bytes.proofs.Fields.{byte_found}
use Rattle.mon_bytes.specs.Reading.{number}
use Rattle.mon_name.proofs.Frames.{comes_off}
use Rattle.mon_name.specs.Frames.{of_mark, of_tag, unframed}
use Rattle.mon_name.specs.Naming.{HandsOn, if_framed, taken_off, without_frame}
use Rattle.quorum_network.proofs.Names.{Client, Closed, Datagram, Got, Idle, IsAnswer, Monitor, Network, Peer}
use Rattle.quorum_network.specs.Wire.{CameOver, IsOverWire}
use Rattle.std.proofs.Common.{Bool, Err, List, None, Ok, Option, Result, ap, cond, eqb, false, inl, inr, refl, subst, sym, true, ℕ, ◌<◌, ◌^◌, ◌∙◌, ◌∷◌, ◌≡◌}
use Rattle.std.proofs.lemmas.Bool.{eqb-true}

module _ (tag : ℕ) (lt : tag < 2 ^ 64) (net : Network) (i : ℕ) where
  taken : (from : Peer) (bytes : List ℕ) → CameOver tag net i from bytes → IsAnswer net i (Ok (taken_off tag from bytes))
  taken (Monitor j) bytes (inl own) =
      subst (λ (o : Option (List ℕ)). IsAnswer net i (Ok (if_framed (Monitor j) o))) (sym (ap (unframed tag) own.2 ∙ comes_off tag own.0 lt)) own.1
  taken (Monitor j) bytes (inr other) = subst (λ (o : Option (List ℕ)). IsAnswer net i (Ok (if_framed (Monitor j) o))) (sym other) tt
  taken (Client c) bytes came = came

  whole : (gave : Result Got Stop) → IsOverWire tag net i gave → IsAnswer net i (without_frame tag gave)
  whole (Ok (Datagram from bytes)) came = taken from bytes came
  whole (Ok Idle) came = tt
  whole (Ok Closed) came = tt
  whole (Err e) came = tt

  pub handed_on : (gave result : Result Got Stop) → IsOverWire tag net i gave → HandsOn tag gave result → IsAnswer net i result
  handed_on gave result came (inl is) = subst (IsAnswer net i) (sym is) (whole gave came)
  handed_on gave result came (inr none) = subst (IsAnswer net i) (sym none.0) tt

-- a datagram that begins with another byte isn't framed
pub unmarked : (tag mark : ℕ) (bytes : List ℕ) → (mark ≡ 3 → ⊥) → unframed tag (mark ∷ bytes) ≡ None
unfolding unframed
unmarked tag mark bytes ne =
    let found = byte_found (record { at = 0; rest = mark ∷ bytes }) mark bytes refl in
    ap (of_mark tag) found.2 ∙ by (eqb mark 3) refl (of_tag tag (number 8 found.0))
  where
    by : (b : Bool) → eqb mark 3 ≡ b → (inside : Option (List ℕ)) → cond b inside None ≡ None
    by true e inside = absurd (ne (eqb-true mark 3 e))
    by false e inside = refl
