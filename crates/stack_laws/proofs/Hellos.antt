-- What the link that greets sends below was sent above, or is a hello.
use Rattle.std.proofs.Common.{◌≡◌, ℕ, zero, suc, ◌<◌, eqb, Bool, true, false, cond, List, [], ◌∷◌, ◌++◌, Option, Some, None, Result, Ok, Err, ◌⊎◌, refl, sym, subst, ◌∙◌, inl, inr, arith}
use Rattle.std.proofs.lemmas.Bool.{eqb-false}
use Rattle.answer_times.specs.Times.{is_answered}
use Rattle.mon_bytes.specs.declared.command.MapRefused.{MapRefused}
use Rattle.mon_link.specs.Histories.{Happened, sent}
use Rattle.mon_link.specs.Histories.Happened.{Received, WasSent}
use Rattle.mon_link.specs.declared.link.Got.{Got}
use Rattle.mon_link.specs.declared.link.Got.TheVariants.{Datagram, Idle, Closed}
use Rattle.mon_link.specs.declared.link.Outgoing.{Outgoing}
use Rattle.mon_link.specs.declared.link.Peer.TheVariants.{Monitor, Client}
use Rattle.mon_types.specs.declared.names.Stop.{Stop}
use Rattle.mon_types.specs.declared.names.Stop.TheVariants.{Failed, OutOfMemory}
use Rattle.mon_hello.specs.Formats.{hello_of}
use Rattle.mon_hello.specs.Greets.{admitted, answer, asked_by, asker, hellos_to, outgoing, round, to_other}
use Rattle.mon_hello.specs.Histories as greeting
use Rattle.mon_hello.specs.declared.hello.Hello.{Hello}
use Rattle.mon_hello.specs.declared.own.Own.{Own}
use Rattle.mon_resend.specs.Copied.{IsOneOf}
use Rattle.mon_resend.proofs.Parts.{either}
use Rattle.stack_laws.specs.Stack.{Came, IsHello, IsHelloBack}
use Rattle.stack_laws.proofs.Going.{above_here, above_later, after_asking, none_sent, one_sent}
use Rattle.stack_laws.proofs.Passing.{came_left, came_right}

abbrev pub IsGreeting : Own → (above below : List Happened) → Outgoing → Type 0
IsGreeting own above below d = IsOneOf (sent above) d ⊎ (IsHello own d ⊎ IsHelloBack own below d)

pub greeting_here : (own : Own) (x : Happened) (above xs ys : List Happened) (d : Outgoing) → IsGreeting own (x ∷ []) xs d → IsGreeting own (x ∷ above) (xs ++ ys) d
greeting_here own x above xs ys d (inl m) = inl (above_here x above d m)
greeting_here own x above xs ys d (inr (inl hello)) = inr (inl hello)
greeting_here own x above xs ys d (inr (inr back)) = inr (inr (record {
  client = back.client;
  hello = back.hello;
  came = came_left xs ys (Datagram (Client back.client) back.hello) back.came;
  asks = back.asks;
  is = back.is;
}))

pub greeting_later : (own : Own) (x : Happened) (above xs ys : List Happened) (d : Outgoing) → IsGreeting own above ys d → IsGreeting own (x ∷ above) (xs ++ ys) d
greeting_later own x above xs ys d (inl m) = inl (above_later x above d m)
greeting_later own x above xs ys d (inr (inl hello)) = inr (inl hello)
greeting_later own x above xs ys d (inr (inr back)) = inr (inr (record {
  client = back.client;
  hello = back.hello;
  came = came_right xs ys (Datagram (Client back.client) back.hello) back.came;
  asks = back.asks;
  is = back.is;
}))

-- ---- the hellos of a round

among_sent : (ds : List Outgoing) (went : Result (Unit {0}) Stop) (calls : List Happened) (d : Outgoing) → greeting.AreSent ds went calls → IsOneOf (sent calls) d → IsOneOf ds d
among_sent [] went calls d p m = none_sent calls d p.1 m
among_sent (x ∷ ds) went calls d p m =
    elim (subst (λ (xs : List Happened). IsOneOf (sent xs) d) p.2 m) [ inl is ↦ inl is | inr more ↦ inr (goes (λ rest. among_sent ds went p.1 d rest more) p.0 p.3 more) ]
  where
    goes : (greeting.AreSent ds went p.1 → IsOneOf ds d) → (answered : Result (Unit {0}) Stop) → greeting.IsFollowed answered (greeting.AreSent ds) went p.1 → IsOneOf (sent p.1) d → IsOneOf ds d
    goes go (Ok u) rest more = go rest
    goes go (Err Failed) rest more = go rest
    goes go (Err OutOfMemory) rest more = absurd (none_sent p.1 d rest.1 more)

module _ (own : Own) (d : Outgoing) where
  to_one : (k : ℕ) → k < own.member.monitors → (b : Bool) → eqb k own.member.rank ≡ b → IsOneOf (cond b [] (outgoing (Monitor k) own.datagram ∷ [])) d → IsHello own d
  to_one k lt true e m = absurd m
  to_one k lt false e m = elim m [
    | inl is ↦ record { rank = k; exists = lt; other = eqb-false k own.member.rank e; is = is }
    | inr none ↦ absurd none
  ]

  in_round : (n : ℕ) → ((k : ℕ) → k < n → k < own.member.monitors) → IsOneOf (round own.member.rank n own.datagram) d → IsHello own d
  in_round zero few m = absurd m
  in_round (suc k) few m = elim (either (round own.member.rank k own.datagram) (to_other own.member.rank k own.datagram) d m) [
    | inl l ↦ in_round k (λ j lt. few j (omega (arith, lt))) l
    | inr r ↦ to_one k (few k (omega arith)) (eqb k own.member.rank) refl r
  ]

  if_due : (due : Bool) → IsOneOf (cond due (round own.member.rank own.member.monitors own.datagram) []) d → IsHello own d
  if_due true m = in_round own.member.monitors (λ k lt. lt) m
  if_due false m = absurd m

  -- ---- the answer to a hello

  module _ (calls : List Happened) where
    back : (c : ℕ) (hello : List ℕ) → Came calls (Datagram (Client c) hello) → asker (Datagram (Client c) hello) ≡ Some c → (b : Bool) → IsOneOf (answer own.answer (cond b (Some c) None)) d → IsHelloBack own calls d
    back c hello came asks true m = record { client = c; hello = hello; came = came; asks = asks; is = elim m [ inl is ↦ is | inr none ↦ absurd none ] }
    back c hello came asks false m = absurd m

    asked : (c : ℕ) (hello : List ℕ) (now : ℕ) (untils : List ℕ) → Came calls (Datagram (Client c) hello) → (o : Option ℕ) → asker (Datagram (Client c) hello) ≡ o
        → (o ≡ None ⊎ o ≡ Some c) → IsOneOf (answer own.answer (admitted now untils o)) d → IsHelloBack own calls d
    asked c hello now untils came None is which m = absurd m
    asked c hello now untils came (Some k) is (inl none) m = absurd cc
    asked c hello now untils came (Some k) is (inr same) m =
        back c hello came (is ∙ same) (is_answered c now untils) (subst (λ o. IsOneOf (answer own.answer (admitted now untils o)) d) same m)

    only_it : (c : ℕ) (read : Result Hello MapRefused) → (asked_by c read ≡ None) ⊎ (asked_by c read ≡ Some c)
    only_it c (Ok h) = by h.answers
      where
        by : (b : Bool) → (cond b None (Some c) ≡ None) ⊎ (cond b None (Some c) ≡ Some c)
        by true = inl refl
        by false = inr refl
    only_it c (Err e) = inl refl

    answers_it : (came : Got) (now : ℕ) (untils : List ℕ) → Came calls came → IsOneOf (answer own.answer (admitted now untils (asker came))) d → IsHelloBack own calls d
    answers_it (Datagram (Client c) bytes) now untils came m = asked c bytes now untils came (asked_by c (hello_of bytes)) refl (only_it c (hello_of bytes)) m
    answers_it (Datagram (Monitor j) bytes) now untils came m = absurd m
    answers_it Idle now untils came m = absurd m
    answers_it Closed now untils came m = absurd m

pub greeting_stays : (s t : Own) (x : Happened) (calls : List Happened) → greeting.GreetingDoes s x calls t → t ≡ s
greeting_stays s t (Received wait result) calls p = p.1
greeting_stays s t (WasSent to bytes result) calls p = p.1

pub greeting_sends : (own s t : Own) (x : Happened) (calls : List Happened) → s ≡ own → greeting.GreetingDoes s x calls t → (d : Outgoing) → IsOneOf (sent calls) d → IsGreeting own (x ∷ []) calls d
greeting_sends own s t (WasSent to bytes result) calls e p d m = inl (one_sent calls (WasSent to bytes result) d p.0 m)
greeting_sends own s t (Received wait result) calls e p d m = inr (subst (λ (o : Own). IsHello o d ⊎ IsHelloBack o calls d) e (by p.0.gave p.0.are p.0.after))
  where
    by : (gave : Result Got Stop) → calls ≡ Received wait gave ∷ p.0.rest → greeting.IsAskedAfter s gave result p.0.rest → IsHello s d ⊎ IsHelloBack s calls d
    by (Ok came) are (inl g) =
        elim
        (either (answer s.answer (admitted g.0 g.1 (asker came))) (cond g.2 (round s.member.rank s.member.monitors s.datagram) []) d
        (among_sent (hellos_to s (admitted g.0 g.1 (asker came)) g.2) g.3 p.0.rest d g.4 (after_asking calls p.0.rest wait (Ok came) d are m))) [
          | inl l ↦ inr (answers_it s d calls came g.0 g.1 (subst (λ (xs : List Happened). Came xs came) (sym are) (inl refl)) l)
          | inr r ↦ inl (if_due s d g.2 r)
        ]
    by (Ok came) are (inr none) = absurd (none_sent p.0.rest d none.1 (after_asking calls p.0.rest wait (Ok came) d are m))
    by (Err f) are after = absurd (none_sent p.0.rest d after.1 (after_asking calls p.0.rest wait (Err f) d are m))
