-- Histories of layers.
use Rattle.std.proofs.Common.{List, [], ◌∷◌, ◌++◌, refl, sym, ap, subst, ◌∙◌, append_assoc}
use Rattle.std.proofs.lemmas.List.{append-nil}
use Rattle.mon_link.specs.declared.link.Outgoing.{Outgoing}
use Rattle.mon_link.specs.Histories.{Happened, GoesOn}
use Rattle.mon_link.specs.Layers.{Above, Grows, Sent, Steps}

-- ---- what was done meanwhile

-- nothing
pub grows_none : (Old : List Happened → Type 0) (Did : List Happened → Type 0) → Did [] → Grows Old Did Old
grows_none Old Did did = record { calls = []; did = did; goes_on = λ h old. subst Old (sym (append-nil h)) old }

-- one call
pub grows_one : (Old New : List Happened → Type 0) (Did : List Happened → Type 0) (x : Happened) → GoesOn Old x New → Did (x ∷ []) → Grows Old Did New
grows_one Old New Did x goes did = record { calls = x ∷ []; did = did; goes_on = goes }

-- one thing and then another
pub grows_then : (Old Mid New : List Happened → Type 0) (First Then Both : List Happened → Type 0)
    → ((xs ys : List Happened) → First xs → Then ys → Both (xs ++ ys)) → Grows Old First Mid → Grows Mid Then New → Grows Old Both New
grows_then Old Mid New First Then Both both p q = record {
  calls = p.calls ++ q.calls;
  did = both p.calls q.calls p.did q.did;
  goes_on = λ h old. subst New (append_assoc h p.calls q.calls) (q.goes_on (h ++ p.calls) (p.goes_on h old));
}

pub grows_as : (Old New : List Happened → Type 0) (Did As : List Happened → Type 0) → ((xs : List Happened) → Did xs → As xs) → Grows Old Did New → Grows Old As New
grows_as Old New Did As as_well p = record { calls = p.calls; did = as_well p.calls p.did; goes_on = p.goes_on }

pub sent_then : (ds es : List Outgoing) (xs ys : List Happened) → Sent ds xs → Sent es ys → Sent (ds ++ es) (xs ++ ys)
sent_then [] es xs ys p q = subst (λ (zs : List Happened). Sent es (zs ++ ys)) (sym p) q
sent_then (d ∷ ds) es xs ys p q = (p.0, p.1 ++ ys, ap (λ (zs : List Happened). zs ++ ys) p.2, sent_then ds es p.1 ys p.3 q)

-- ---- a new layer

pub above_new : {S : Type 0} (Does : S → Happened → List Happened → S → Type 0) (IsFirst : S → Type 0) (Below : List Happened → Type 0) (s : S)
    → Below [] → IsFirst s → Above Does IsFirst Below s []
above_new Does IsFirst Below s below first = ([], below, s, first, (refl, refl))

-- ---- a call of a layer

steps_on : {S : Type 0} (Does : S → Happened → List Happened → S → Type 0) (h below : List Happened) (x : Happened) (calls : List Happened) (first old new : S)
    → Steps Does first h below old → Does old x calls new → Steps Does first (h ++ x ∷ []) (below ++ calls) new
steps_on Does [] below x calls first old new p did =
    (calls, [], new, ap (λ (xs : List Happened). xs ++ calls) p.0 ∙ sym (append-nil calls), subst (λ s. Does s x calls new) p.1 did, (refl, refl))
steps_on Does (y ∷ h) below x calls first old new p did =
    (p.0, p.1 ++ calls, p.2, ap (λ (xs : List Happened). xs ++ calls) p.3 ∙ append_assoc p.0 p.1 calls, p.4, steps_on Does h p.1 x calls p.2 old new p.5 did)

pub above_on : {S : Type 0} (Does : S → Happened → List Happened → S → Type 0) (IsFirst : S → Type 0) (Old New : List Happened → Type 0) (old new : S) (x : Happened)
    → Grows Old (λ calls. Does old x calls new) New → GoesOn (Above Does IsFirst Old old) x (Above Does IsFirst New new)
above_on Does IsFirst Old New old new x g h a =
    (a.0 ++ g.calls, g.goes_on a.0 a.1, a.2, a.3, steps_on Does h a.0 x g.calls a.2 old new a.4 g.did)
