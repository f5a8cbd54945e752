-- What a layer's calls say of its histories.
use Rattle.std.proofs.Common.{◌≡◌, ℕ, List, [], ◌∷◌, ◌++◌, Result, Ok, ◌⊎◌, refl, sym, ap, subst, ◌∙◌, inl, inr}
use Rattle.mon_link.specs.Histories.{Happened, received, sent}
use Rattle.mon_link.specs.Histories.Happened.{Received, WasSent}
use Rattle.mon_link.specs.Layers.{Steps}
use Rattle.mon_link.specs.declared.link.Got.{Got}
use Rattle.mon_link.specs.declared.link.Outgoing.{Outgoing}
use Rattle.mon_types.specs.declared.names.Stop.{Stop}
use Rattle.mon_resend.specs.Copied.{IsOneOf}
use Rattle.mon_resend.proofs.Parts.{one_left, one_right}
use Rattle.stack_laws.specs.Stack.{Came}

pub received_then : (xs ys : List Happened) → received (xs ++ ys) ≡ received xs ++ received ys
received_then [] ys = refl
received_then (Received wait answer ∷ xs) ys = ap (λ (rs : List (Result Got Stop)). answer ∷ rs) (received_then xs ys)
received_then (WasSent to bytes answer ∷ xs) ys = received_then xs ys

pub came_left : (xs ys : List Happened) (got : Got) → Came xs got → Came (xs ++ ys) got
came_left xs ys got c = subst (λ (rs : List (Result Got Stop)). IsOneOf rs (Ok got)) (sym (received_then xs ys)) (one_left (received xs) (received ys) (Ok got) c)

pub came_right : (xs ys : List Happened) (got : Got) → Came ys got → Came (xs ++ ys) got
came_right xs ys got c = subst (λ (rs : List (Result Got Stop)). IsOneOf rs (Ok got)) (sym (received_then xs ys)) (one_right (received xs) (received ys) (Ok got) c)

-- ---- what comes

-- What a layer hands up is as `Is` says of the calls that it made below. `f` is what no call changes.
module _ {S : Type 0} {A : Type 0} (Does : S → Happened → List Happened → S → Type 0) (f : S → A) (a : A) (Is : List Happened → Got → Type 0)
    (left : (xs ys : List Happened) (got : Got) → Is xs got → Is (xs ++ ys) got)
    (right : (xs ys : List Happened) (got : Got) → Is ys got → Is (xs ++ ys) got)
    (same : (s t : S) (x : Happened) (calls : List Happened) → Does s x calls t → f t ≡ f s)
    (one : (s t : S) → f s ≡ a → (wait : ℕ) (got : Got) (calls : List Happened) → Does s (Received wait (Ok got)) calls t → Is calls got) where
  pub comes_through : (above below : List Happened) (first last : S) → f first ≡ a → Steps Does first above below last → (got : Got) → Came above got → Is below got
  comes_through [] below first last e p got c = absurd c
  comes_through (Received wait answer ∷ above) below first last e p got (inl is) =
      subst (λ (xs : List Happened). Is xs got) (sym p.3) (left p.0 p.1 got (one first p.2 e wait got p.0 (subst (λ r. Does first (Received wait r) p.0 p.2) (sym is) p.4)))
  comes_through (Received wait answer ∷ above) below first last e p got (inr c) =
      subst (λ (xs : List Happened). Is xs got) (sym p.3) (right p.0 p.1 got (comes_through above p.1 p.2 last (same first p.2 (Received wait answer) p.0 p.4 ∙ e) p.5 got c))
  comes_through (WasSent to bytes answer ∷ above) below first last e p got c =
      subst (λ (xs : List Happened). Is xs got) (sym p.3) (right p.0 p.1 got (comes_through above p.1 p.2 last (same first p.2 (WasSent to bytes answer) p.0 p.4 ∙ e) p.5 got c))

-- ---- what stays

-- what no call changes
module _ {S : Type 0} {A : Type 0} (Does : S → Happened → List Happened → S → Type 0) (f : S → A)
    (one : (s t : S) (x : Happened) (calls : List Happened) → Does s x calls t → f t ≡ f s) where
  pub stays : (above below : List Happened) (first last : S) → Steps Does first above below last → f last ≡ f first
  stays [] below first last p = ap f p.1
  stays (x ∷ above) below first last p = stays above p.1 p.2 last p.5 ∙ one first p.2 x p.0 p.4

-- ---- what goes

pub sent_either : (xs ys : List Happened) (d : Outgoing) → IsOneOf (sent (xs ++ ys)) d → IsOneOf (sent xs) d ⊎ IsOneOf (sent ys) d
sent_either [] ys d m = inr m
sent_either (Received wait answer ∷ xs) ys d m = sent_either xs ys d m
sent_either (WasSent to bytes answer ∷ xs) ys d (inl is) = inl (inl is)
sent_either (WasSent to bytes answer ∷ xs) ys d (inr m) = elim (sent_either xs ys d m) [ inl l ↦ inl (inr l) | inr r ↦ inr r ]

-- What a layer sends is as `Is` says of its calls and of those that it made below. `f` is what no call changes.
module _ {S : Type 0} {A : Type 0} (Does : S → Happened → List Happened → S → Type 0) (f : S → A) (a : A)
    (Is : (above below : List Happened) → Outgoing → Type 0)
    (here : (x : Happened) (above xs ys : List Happened) (d : Outgoing) → Is (x ∷ []) xs d → Is (x ∷ above) (xs ++ ys) d)
    (later : (x : Happened) (above xs ys : List Happened) (d : Outgoing) → Is above ys d → Is (x ∷ above) (xs ++ ys) d)
    (same : (s t : S) (x : Happened) (calls : List Happened) → Does s x calls t → f t ≡ f s)
    (one : (s t : S) (x : Happened) (calls : List Happened) → f s ≡ a → Does s x calls t → (d : Outgoing) → IsOneOf (sent calls) d → Is (x ∷ []) calls d) where
  pub goes_through : (above below : List Happened) (first last : S) → f first ≡ a → Steps Does first above below last → (d : Outgoing) → IsOneOf (sent below) d → Is above below d
  goes_through [] below first last e p d m = absurd (subst (λ (xs : List Happened). IsOneOf (sent xs) d) p.0 m)
  goes_through (x ∷ above) below first last e p d m =
      subst (λ (xs : List Happened). Is (x ∷ above) xs d) (sym p.3)
      (elim (sent_either p.0 p.1 d (subst (λ (xs : List Happened). IsOneOf (sent xs) d) p.3 m)) [
        | inl l ↦ here x above p.0 p.1 d (one first p.2 x p.0 e p.4 d l)
        | inr r ↦ later x above p.0 p.1 d (goes_through above p.1 p.2 last (same first p.2 x p.0 p.4 ∙ e) p.5 d r)
      ])
