-- Datagrams are handed up in the order in which they came.
use Rattle.std.proofs.Common.{◌≡◌, ℕ, List, [], ◌∷◌, ◌++◌, Option, Result, Ok, Err, refl, sym, ap, subst, ◌∙◌, inl, inr}
use Rattle.mon_link.specs.Histories.{Happened, received}
use Rattle.mon_link.specs.Histories.Happened.{Received, WasSent}
use Rattle.mon_link.specs.Layers.{Steps}
use Rattle.mon_link.specs.declared.link.Got.{Got}
use Rattle.mon_link.specs.declared.link.Got.TheVariants.{Datagram, Idle, Closed}
use Rattle.mon_link.specs.declared.link.Peer.TheVariants.{Monitor, Client}
use Rattle.mon_types.specs.declared.names.Stop.{Stop}
use Rattle.mon_name.specs.Naming.{if_framed, off_got}
use Rattle.mon_resend.specs.Copied.{IsOneOf}
use Rattle.stack_laws.specs.Stack.{IsCome, IsPart, and_then, datagrams, opened}
use Rattle.stack_laws.proofs.Passing.{received_then}
use Rattle.stack_laws.proofs.Coming.{IsPassed}

-- ---- parts of lists

part_more : (xs : List Got) (y : Got) (ys : List Got) → IsPart xs ys → IsPart xs (y ∷ ys)
part_more [] y ys p = tt
part_more (x ∷ xs) y ys p = inr p

pub part_then : (xs these ys those : List Got) → IsPart xs these → IsPart ys those → IsPart (xs ++ ys) (these ++ those)
part_then [] [] ys those p q = q
part_then [] (z ∷ these) ys those p q = part_more ys z (these ++ those) (part_then [] these ys those tt q)
part_then (x ∷ xs) [] ys those p q = absurd p
part_then (x ∷ xs) (z ∷ these) ys those (inl both) q = inl (both.0, part_then xs these ys those both.1 q)
part_then (x ∷ xs) (z ∷ these) ys those (inr p) q = inr (part_then (x ∷ xs) these ys those p q)

pub part_of_part : (xs ys zs : List Got) → IsPart xs ys → IsPart ys zs → IsPart xs zs
part_of_part [] ys zs p q = tt
part_of_part (x ∷ xs) [] zs p q = absurd p
part_of_part (x ∷ xs) (y ∷ ys) [] p q = absurd q
part_of_part (x ∷ xs) (y ∷ ys) (z ∷ zs) (inl both) (inl same) = inl (both.0 ∙ same.0, part_of_part xs ys zs both.1 same.1)
part_of_part (x ∷ xs) (y ∷ ys) (z ∷ zs) (inr p) (inl same) = inr (part_of_part (x ∷ xs) ys zs p same.1)
part_of_part (x ∷ xs) (y ∷ ys) (z ∷ zs) p (inr q) = inr (part_of_part (x ∷ xs) (y ∷ ys) zs p q)

-- ---- datagrams

put_then : (got : Got) (xs ys : List Got) → and_then got (xs ++ ys) ≡ and_then got xs ++ ys
put_then (Datagram from bytes) xs ys = refl
put_then Idle xs ys = refl
put_then Closed xs ys = refl

datagrams_then : (rs ss : List (Result Got Stop)) → datagrams (rs ++ ss) ≡ datagrams rs ++ datagrams ss
datagrams_then [] ss = refl
datagrams_then (Ok got ∷ rs) ss = ap (and_then got) (datagrams_then rs ss) ∙ put_then got (datagrams rs) (datagrams ss)
datagrams_then (Err e ∷ rs) ss = datagrams_then rs ss

opened_then : (tag : ℕ) (xs ys : List Got) → opened tag (xs ++ ys) ≡ opened tag xs ++ opened tag ys
opened_then tag [] ys = refl
opened_then tag (x ∷ xs) ys = ap (and_then (off_got tag x)) (opened_then tag xs ys) ∙ put_then (off_got tag x) (opened tag xs) (opened tag ys)

put_more : (got : Got) (xs ys : List Got) → IsPart xs ys → IsPart xs (and_then got ys)
put_more (Datagram from bytes) xs ys p = part_more xs (Datagram from bytes) ys p
put_more Idle xs ys p = p
put_more Closed xs ys p = p

put_both : (got : Got) (xs ys : List Got) → IsPart xs ys → IsPart (and_then got xs) (and_then got ys)
put_both (Datagram from bytes) xs ys p = inl (refl, p)
put_both Idle xs ys p = p
put_both Closed xs ys p = p

pub opened_part : (tag : ℕ) (xs ys : List Got) → IsPart xs ys → IsPart (opened tag xs) (opened tag ys)
opened_part tag [] ys p = tt
opened_part tag (x ∷ xs) [] p = absurd p
opened_part tag (x ∷ xs) (y ∷ ys) (inl both) =
    subst (λ (z : Got). IsPart (and_then (off_got tag x) (opened tag xs)) (and_then (off_got tag z) (opened tag ys))) both.0
    (put_both (off_got tag x) (opened tag xs) (opened tag ys) (opened_part tag xs ys both.1))
opened_part tag (x ∷ xs) (y ∷ ys) (inr p) =
    put_more (off_got tag y) (opened tag (x ∷ xs)) (opened tag ys) (opened_part tag (x ∷ xs) ys p)

-- what came is one of the datagrams
one_part : (from : Got) (rs : List (Result Got Stop)) → IsOneOf rs (Ok from) → IsPart (and_then from []) (datagrams rs)
one_part from [] m = absurd m
one_part from (r ∷ rs) (inl is) =
    subst (λ (s : Result Got Stop). IsPart (and_then from []) (datagrams (s ∷ rs))) is (put_both from [] (datagrams rs) tt)
one_part from (Ok got ∷ rs) (inr m) = put_more got (and_then from []) (datagrams rs) (one_part from rs m)
one_part from (Err e ∷ rs) (inr m) = one_part from rs m

pub passed_part : (calls : List Happened) (got : Got) → IsPassed calls got → IsPart (and_then got []) (datagrams (received calls))
passed_part calls (Datagram from bytes) p = one_part (Datagram from bytes) (received calls) (p tt)
passed_part calls Idle p = tt
passed_part calls Closed p = tt

pub come_part : (tag : ℕ) (calls : List Happened) (got : Got) → IsCome tag calls got → IsPart (and_then got []) (opened tag (datagrams (received calls)))
come_part tag calls (Datagram (Monitor j) x) p =
    subst (λ (o : Option (List ℕ)). IsPart (and_then (if_framed (Monitor j) o) []) (opened tag (datagrams (received calls)))) p.1
    (opened_part tag (Datagram (Monitor j) p.0 ∷ []) (datagrams (received calls)) (one_part (Datagram (Monitor j) p.0) (received calls) p.2))
come_part tag calls (Datagram (Client c) x) p = opened_part tag (Datagram (Client c) x ∷ []) (datagrams (received calls)) (one_part (Datagram (Client c) x) (received calls) p)
come_part tag calls Idle p = tt
come_part tag calls Closed p = tt

-- ---- a layer

-- what the link below gave, as a layer takes it: the datagrams, or those without their frames
pub record IsSplit (F : List Happened → List Got) : Type 0 where
  pub empty : F [] ≡ []
  pub then_it : (xs ys : List Happened) → F (xs ++ ys) ≡ F xs ++ F ys

pub as_they_are : IsSplit (λ h. datagrams (received h))
as_they_are = record {
  empty = refl;
  then_it = λ xs ys. ap datagrams (received_then xs ys) ∙ datagrams_then (received xs) (received ys);
}

pub without_frames : (tag : ℕ) → IsSplit (λ h. opened tag (datagrams (received h)))
without_frames tag = record {
  empty = refl;
  then_it = λ xs ys.
      ap (λ rs. opened tag (datagrams rs)) (received_then xs ys) ∙ ap (opened tag) (datagrams_then (received xs) (received ys)) ∙ opened_then tag (datagrams (received xs)) (datagrams (received ys));
}

module _ {S : Type 0} {A : Type 0} (Does : S → Happened → List Happened → S → Type 0) (f : S → A) (a : A) (F : List Happened → List Got) (split : IsSplit F)
    (same : (s t : S) (x : Happened) (calls : List Happened) → Does s x calls t → f t ≡ f s)
    (one : (s t : S) → f s ≡ a → (wait : ℕ) (got : Got) (calls : List Happened) → Does s (Received wait (Ok got)) calls t → IsPart (and_then got []) (F calls)) where
  at_call : (x : Happened) (s t : S) → f s ≡ a → (calls : List Happened) → Does s x calls t → IsPart (datagrams (received (x ∷ []))) (F calls)
  at_call (Received wait (Ok got)) s t e calls d = one s t e wait got calls d
  at_call (Received wait (Err stop)) s t e calls d = tt
  at_call (WasSent to bytes answer) s t e calls d = tt

  pub in_order : (above below : List Happened) (first last : S) → f first ≡ a → Steps Does first above below last → IsPart (datagrams (received above)) (F below)
  in_order [] below first last e p = tt
  in_order (x ∷ above) below first last e p =
      subst (λ (h : List Happened). IsPart (datagrams (received (x ∷ above))) (F h)) (sym p.3)
      (subst (λ (gots : List Got). IsPart (datagrams (received (x ∷ above))) gots) (sym (split.then_it p.0 p.1))
      (subst (λ (gots : List Got). IsPart gots (F p.0 ++ F p.1)) (sym (as_they_are.then_it (x ∷ []) above))
      (part_then (datagrams (received (x ∷ []))) (F p.0) (datagrams (received above)) (F p.1) (at_call x first p.2 e p.0 p.4) (in_order above p.1 p.2 last (same first p.2 x p.0 p.4 ∙ e) p.5))))
