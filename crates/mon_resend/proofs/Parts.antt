-- What a link is asked to send is one of what was kept.
use Rattle.std.specs.Prelude.{◌≡◌, ℕ, List, [], ◌∷◌, ◌++◌, ◌⊎◌, Option, Some, None, option_map, Result, Ok, Err, refl}
use Rattle.std.proofs.lemmas.List.{append-nil}
use Rattle.std.proofs.Common.{inl, inr, ap, sym, subst, ◌∙◌, append_assoc}
use Rattle.mon_link.specs.declared.link.Outgoing.{Outgoing}
use Rattle.mon_link.specs.Links.{LinkState, Observed, CallsSend, send_leaves}
use Rattle.mon_link.specs.declared.link.Peer.{Peer}
use Rattle.mon_types.specs.declared.names.Stop.{Stop}
use Rattle.mon_types.specs.declared.names.Stop.TheVariants.{Failed, OutOfMemory}
use Rattle.mon_resend.specs.Copied.{IsOneOf, AreOf, RepeatsOnly, with_sent, datagram}
use Rattle.mon_resend.specs.Sending.{SendsEach}

pub same : (xs : List Outgoing) → AreOf xs xs
same xs = record { each = λ x h. h }

pub through : (xs ys zs : List Outgoing) → AreOf xs ys → AreOf ys zs → AreOf xs zs
through xs ys zs a b = record { each = λ x h. a.each x (b.each x h) }

pub one_left : {A : Type 0} (xs ys : List A) (x : A) → IsOneOf xs x → IsOneOf (xs ++ ys) x
one_left [] ys x h = absurd h
one_left (z ∷ xs) ys x h = elim h [ inl e ↦ inl e | inr r ↦ inr (one_left xs ys x r) ]

pub one_right : {A : Type 0} (xs ys : List A) (x : A) → IsOneOf ys x → IsOneOf (xs ++ ys) x
one_right [] ys x h = h
one_right (z ∷ xs) ys x h = inr (one_right xs ys x h)

pub either : {A : Type 0} (xs ys : List A) (x : A) → IsOneOf (xs ++ ys) x → IsOneOf xs x ⊎ IsOneOf ys x
either [] ys x h = inr h
either (z ∷ xs) ys x h = elim h [ inl e ↦ inl (inl e) | inr r ↦ (elim (either xs ys x r) [ inl a ↦ inl (inr a) | inr b ↦ inr b ]) ]

pub more : (xs ys : List Outgoing) → AreOf (xs ++ ys) xs
more xs ys = record { each = λ x h. one_left xs ys x h }

pub both : (those xs ys : List Outgoing) → AreOf those xs → AreOf those ys → AreOf those (xs ++ ys)
both those xs ys a b = record { each = λ x h. elim (either xs ys x h) [ inl l ↦ a.each x l | inr r ↦ b.each x r ] }

-- also with one more
pub longer : (those these : List Outgoing) (x : Outgoing) → AreOf those these → AreOf (those ++ x ∷ []) (these ++ x ∷ [])
longer those these x a = both (those ++ x ∷ []) these (x ∷ []) (through (those ++ x ∷ []) those these (more those (x ∷ [])) a) (record { each = λ y h. one_right those (x ∷ []) y h })

pub wider : (those these : List Outgoing) (x : Outgoing) → AreOf those these → AreOf (those ++ x ∷ []) these
wider those these x a = through (those ++ x ∷ []) those these (more those (x ∷ [])) a

-- ---- a link

none_more : (o : Option Observed) → o ≡ option_map (with_sent []) o
none_more None = refl
none_more (Some t) = ap (λ s. Some (record t { sent = s })) (sym (append-nil t.sent))

unasked : (to : Peer) (bytes : List ℕ) (o : Option Observed) → option_map (send_leaves to bytes (Err OutOfMemory)) o ≡ option_map (with_sent []) o
unasked to bytes None = refl
unasked to bytes (Some t) = ap (λ s. Some (record t { sent = s })) (sym (append-nil t.sent))

more_twice : (o : Option Observed) (xs ys : List Outgoing) → option_map (with_sent ys) (option_map (with_sent xs) o) ≡ option_map (with_sent (xs ++ ys)) o
more_twice None xs ys = refl
more_twice (Some t) xs ys = ap (λ s. Some (record t { sent = s })) (append_assoc t.sent xs ys)

-- what was sent is one of these
pub sent_one : (kept : List Outgoing) (to : Peer) (bytes : List ℕ) (result : Result (Unit {0}) Stop) (old new : LinkState) → CallsSend to bytes result old new → IsOneOf kept (datagram to bytes) → RepeatsOnly kept old new
sent_one kept to bytes (Ok x) old new s h = record { more = datagram to bytes ∷ []; among = record { each = λ y k. elim k [ inl e ↦ subst (λ z. IsOneOf kept z) (sym e) h | inr r ↦ absurd r ] }; observed = s.observed; faults = s.faults }
sent_one kept to bytes (Err Failed) old new s h = record { more = datagram to bytes ∷ []; among = record { each = λ y k. elim k [ inl e ↦ subst (λ z. IsOneOf kept z) (sym e) h | inr r ↦ absurd r ] }; observed = s.observed; faults = s.faults }
sent_one kept to bytes (Err OutOfMemory) old new s h = record { more = []; among = record { each = λ y k. absurd k }; observed = s.observed ∙ unasked to bytes old.observed; faults = s.faults }

pub and_then : (kept : List Outgoing) (a b c : LinkState) → RepeatsOnly kept a b → RepeatsOnly kept b c → RepeatsOnly kept a c
and_then kept a b c p q = record {
  more = p.more ++ q.more;
  among = both kept p.more q.more p.among q.among;
  observed = q.observed ∙ ap (option_map (with_sent q.more)) p.observed ∙ more_twice a.observed p.more q.more;
  faults = q.faults ∙ p.faults;
}

-- ---- sends, one after the other

pub sends_then : (xs ys : List Outgoing) (a b c : LinkState) → SendsEach xs a b → SendsEach ys b c → SendsEach (xs ++ ys) a c
sends_then [] ys a b c p q = subst (λ s. SendsEach ys s c) p q
sends_then (x ∷ xs) ys a b c p q = (p.0, p.1, p.2, sends_then xs ys p.1 b c p.3 q)

pub repeats : (kept xs : List Outgoing) (a b : LinkState) → AreOf kept xs → SendsEach xs a b → RepeatsOnly kept a b
repeats kept [] a b h p = record { more = []; among = record { each = λ x k. absurd k }; observed = ap (λ (s : LinkState). s.observed) p ∙ none_more a.observed; faults = ap (λ (s : LinkState). s.faults) p }
repeats kept (x ∷ xs) a b h p =
    and_then kept a p.1 b (sent_one kept x.to x.bytes p.0 a p.1 p.2 (h.each x (inl refl)))
    (repeats kept xs p.1 b (record { each = λ y k. h.each y (inr k) }) p.3)
