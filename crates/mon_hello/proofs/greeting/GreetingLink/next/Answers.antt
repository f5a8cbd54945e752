use Rattle.std.specs.Prelude.{nat_le}
use Rattle.std.proofs.Common.{rules, ◌≡◌, [], ◌∷◌, Ok, Err, refl, sym, ap, subst}
use Rattle.mon_link.specs.Histories.Happened.{Received}
use Rattle.mon_link.specs.Layers.{Grows}
use Rattle.mon_link.proofs.Layers.{grows_one, grows_then}
use Rattle.mon_types.specs.declared.names.Stop.TheVariants.{OutOfMemory}
use Rattle.mon_hello.specs.Greets.{admitted, asker, handed, hellos_to}
use Rattle.mon_hello.specs.Histories.{AreSent, Asks, GreetingDoes}
use Rattle.mon_hello.proofs.Greeted.{asks_and_greets, asks_only, no_memory}
use Rattle.mon_hello.proofs.greeting.GreetingLink.next.Goals as goal

pub returns-in_err-got-clause-does : goal.returns-in_err-got-clause-does
returns-in_err-got-clause-does g c =
    let own = c.args.self.now.own in
    let f = c.in_err-got.field-0.0 in
    let is : c.next.result ≡ Err f = search rules in
    let e : c.from_residual.result ≡ Err f = search rules in
    grows_one _ _ _ (Received c.args.wait c.next.result) c.next.ensures.goes_on (
      subst (λ r. Asks own c.args.wait r (Received c.args.wait c.next.result ∷ [])) (sym e)
          (subst (λ r. Asks own c.args.wait (Err f) (Received c.args.wait r ∷ [])) (sym is) (asks_only own c.args.wait f)),
      refl,
    )

pub returns-in_default-clause-does : goal.returns-in_default-clause-does
returns-in_default-clause-does g c =
    let own = c.args.self.now.own in
    let is : c.next.result ≡ Ok c.in_ok-got.got = search rules in
    grows_one _ _ _ (Received c.args.wait c.next.result) c.next.ensures.goes_on
    (subst (λ r. Asks own c.args.wait (Err OutOfMemory) (Received c.args.wait r ∷ [])) (sym is) (no_memory own c.args.wait c.in_ok-got.got), refl)

pub returns-in_err-greet-clause-does : goal.returns-in_err-greet-clause-does
returns-in_err-greet-clause-does g c =
    let own = c.args.self.now.own in
    let got = c.in_ok-got.got in
    let now = c.now-moment.result in
    let untils = c.args.self.now.heard.answered in
    let due = nat_le c.args.self.now.due c.get-now.result in
    let f = c.in_err-greet.field-0.0 in
    let is : c.next.result ≡ Ok got = search rules in
    let asks : c.admits-asker.result ≡ admitted now untils (asker got) = search rules in
    let hands : c.from_residual-in_err-greet.result ≡ handed got (Err f) = search rules in
    grows_then _ _ _ (λ xs. xs ≡ Received c.args.wait (Ok got) ∷ []) (AreSent (hellos_to own (admitted now untils (asker got)) due) (Err f))
    (λ calls. GreetingDoes own (Received c.args.wait c.from_residual-in_err-greet.result) calls own)
    (λ xs ys p q. (asks_and_greets own c.args.wait got c.from_residual-in_err-greet.result now untils due (Err f) hands xs ys p q, refl))
    (grows_one _ _ (λ xs. xs ≡ Received c.args.wait (Ok got) ∷ []) (Received c.args.wait c.next.result) c.next.ensures.goes_on (ap (λ r. Received c.args.wait r ∷ []) is))
    (subst (λ a. Grows (g.L.Link.history c.next.new.self) (AreSent (hellos_to own a due) (Err f)) (g.L.Link.history c.greet.new.link)) asks c.in_err-greet.ensures.grows)

pub returns-clause-does : goal.returns-clause-does
returns-clause-does g c =
    let own = c.args.self.now.own in
    let got = c.in_ok-got.got in
    let now = c.now-moment.result in
    let untils = c.args.self.now.heard.answered in
    let due = nat_le c.args.self.now.due c.get-now.result in
    let is : c.next.result ≡ Ok got = search rules in
    let asks : c.admits-asker.result ≡ admitted now untils (asker got) = search rules in
    let hands : Ok c.passed.result ≡ handed got (Ok tt) = search rules in
    let inner : c.if-due.self.inner ≡ c.greet.new.link = search rules in
    let same : c.if-due.self.own ≡ own = search rules in
    subst (λ i. Grows (g.L.Link.history c.args.self.now.inner) (λ calls. GreetingDoes own (Received c.args.wait (Ok c.passed.result)) calls c.if-due.self.own) (g.L.Link.history i)) (sym inner)
    (grows_then _ _ _ (λ xs. xs ≡ Received c.args.wait (Ok got) ∷ []) (AreSent (hellos_to own (admitted now untils (asker got)) due) (Ok tt))
    (λ calls. GreetingDoes own (Received c.args.wait (Ok c.passed.result)) calls c.if-due.self.own)
    (λ xs ys p q. (asks_and_greets own c.args.wait got (Ok c.passed.result) now untils due (Ok tt) hands xs ys p q, same))
    (grows_one _ _ (λ xs. xs ≡ Received c.args.wait (Ok got) ∷ []) (Received c.args.wait c.next.result) c.next.ensures.goes_on (ap (λ r. Received c.args.wait r ∷ []) is))
    (subst (λ a. Grows (g.L.Link.history c.next.new.self) (AreSent (hellos_to own a due) (Ok tt)) (g.L.Link.history c.greet.new.link)) asks c.in_ok-greet.ensures.grows))
