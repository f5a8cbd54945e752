use Rattle.std.proofs.Common.{◌≡◌, suc, ◌+◌, ◌-◌, ◌∙◌, Some, None, Ok, Err, sym, subst, arith}
use Rattle.std.proofs.lemmas.Result.{err_from_is_err_and}
use Rattle.mon_link.specs.Layers.{Grows}
use Rattle.mon_link.specs.declared.link.Got.TheVariants.{Idle}
use Rattle.mon_link.proofs.Layers.{grows_then}
use Rattle.mon_name.specs.Histories.{IsAskedOnce, IsAskedPast}
use Rattle.mon_name.specs.Naming.{AsksPast, Takes}
use Rattle.mon_name.specs.declared.named.TheConstants.{MOST_FOREIGN}
use Rattle.mon_name.proofs.Asked.{CameForeign, ends_failed, ends_foreign, ends_own, one_more}
use Rattle.mon_name.proofs.Past.{failed, goes_past, last_foreign, taken}
use Rattle.mon_name.proofs.named.Named.asks_past.Goals as goal

pub returns-in_err-got-clause-asks : goal.returns-in_err-got-clause-asks
returns-in_err-got-clause-asks g c =
    let p = err_from_is_err_and c.from_residual.result c.from_residual.ensures.1 in
    let e = failed (MOST_FOREIGN - c.loop.counter) c.args.self.now.tag c.loop.rest c.in_err-got.field-0.0 _ _
    (subst (λ tag. Takes tag c.loop.rest (Err c.in_err-got.field-0.0) (g.L.Link.state c.loop.self.inner) (g.L.Link.state c.takes.new.self.inner)) c.loop.invariant.tag c.in_err-got.ensures.takes) in
    rw (p.1, p.2) (record { gave = e.0; asks = c.loop.invariant.past e.0 _ e.1; hands = e.2 })

pub returns-in-Some-clause-asks : goal.returns-in-Some-clause-asks
returns-in-Some-clause-asks g c =
    let t = subst (λ tag. Takes tag c.loop.rest (Ok c.in_ok-got.field-0) (g.L.Link.state c.loop.self.inner) (g.L.Link.state c.takes.new.self.inner)) c.loop.invariant.tag c.in_ok-got.ensures.takes in
    let e = taken (MOST_FOREIGN - c.loop.counter) c.args.self.now.tag c.loop.rest c.in-Some.got _ _
    (subst (λ o. Takes c.args.self.now.tag c.loop.rest (Ok o) (g.L.Link.state c.loop.self.inner) (g.L.Link.state c.takes.new.self.inner)) c.in-Some.is t) in
    record { gave = e.0; asks = c.loop.invariant.past e.0 _ e.1; hands = e.2 }

pub loop-preserved : goal.loop-preserved
loop-preserved g c =
    let t = subst (λ tag. Takes tag c.loop.rest (Ok c.in_ok-got.field-0) (g.L.Link.state c.loop.self.inner) (g.L.Link.state c.takes.new.self.inner)) c.loop.invariant.tag c.in_ok-got.ensures.takes in
    let none = subst (λ o. Takes c.args.self.now.tag c.loop.rest (Ok o) (g.L.Link.state c.loop.self.inner) (g.L.Link.state c.takes.new.self.inner)) c.in_default.is t in
    let more : suc (MOST_FOREIGN - (c.loop.counter + 1)) ≡ MOST_FOREIGN - c.loop.counter = omega (arith, c.loop-test.true) in
    record {
      past = λ last new p.
          c.loop.invariant.past last new
          (subst (λ k. AsksPast k c.args.self.now.tag c.loop.rest last (g.L.Link.state c.loop.self.inner) new) more
          (goes_past (MOST_FOREIGN - (c.loop.counter + 1)) c.args.self.now.tag c.loop.rest last _ _ new none p));
      most = omega (arith, c.loop-test.true);
      grows = grows_then _ _ _ (CameForeign c.args.self.now.tag c.args.wait c.loop.rest c.loop.counter) (IsAskedOnce c.args.self.now.tag c.loop.rest (Ok None)) (CameForeign c.args.self.now.tag c.args.wait 0 (c.loop.counter + 1))
          (one_more c.args.self.now.tag c.args.wait c.loop.rest c.loop.counter) c.loop.invariant.grows
          (subst (λ o. Grows (g.L.Link.history c.loop.self.inner) (IsAskedOnce c.args.self.now.tag c.loop.rest (Ok o)) (g.L.Link.history c.takes.new.self.inner)) c.in_default.is
          (subst (λ tag. Grows (g.L.Link.history c.loop.self.inner) (IsAskedOnce tag c.loop.rest (Ok c.in_ok-got.field-0)) (g.L.Link.history c.takes.new.self.inner)) c.loop.invariant.tag c.in_ok-got.ensures.grows));
      tag = c.takes.ensures.tag ∙ c.loop.invariant.tag;
      life = c.takes.ensures.life ∙ c.loop.invariant.life;
    }

pub returns-in_err-got-2-clause-asks : goal.returns-in_err-got-2-clause-asks
returns-in_err-got-2-clause-asks g c =
    let p = err_from_is_err_and c.from_residual-in_err-got-2.result c.from_residual-in_err-got-2.ensures.1 in
    let e = failed (MOST_FOREIGN - c.loop.counter) c.args.self.now.tag c.loop.rest c.in_err-got-2.field-0.0 _ _
    (subst (λ tag. Takes tag c.loop.rest (Err c.in_err-got-2.field-0.0) (g.L.Link.state c.loop.self.inner) (g.L.Link.state c.takes-2.new.self.inner)) c.loop.invariant.tag c.in_err-got-2.ensures.takes) in
    rw (p.1, p.2) (record { gave = e.0; asks = c.loop.invariant.past e.0 _ e.1; hands = e.2 })

pub returns-in-Some-2-clause-asks : goal.returns-in-Some-2-clause-asks
returns-in-Some-2-clause-asks g c =
    let t = subst (λ tag. Takes tag c.loop.rest (Ok c.in_ok-got-2.field-0) (g.L.Link.state c.loop.self.inner) (g.L.Link.state c.takes-2.new.self.inner)) c.loop.invariant.tag c.in_ok-got-2.ensures.takes in
    let e = taken (MOST_FOREIGN - c.loop.counter) c.args.self.now.tag c.loop.rest c.in-Some-2.got _ _
    (subst (λ o. Takes c.args.self.now.tag c.loop.rest (Ok o) (g.L.Link.state c.loop.self.inner) (g.L.Link.state c.takes-2.new.self.inner)) c.in-Some-2.is t) in
    record { gave = e.0; asks = c.loop.invariant.past e.0 _ e.1; hands = e.2 }

pub returns-in-None-clause-asks : goal.returns-in-None-clause-asks
returns-in-None-clause-asks g c =
    let t = subst (λ tag. Takes tag c.loop.rest (Ok c.in_ok-got-2.field-0) (g.L.Link.state c.loop.self.inner) (g.L.Link.state c.takes-2.new.self.inner)) c.loop.invariant.tag c.in_ok-got-2.ensures.takes in
    let e = last_foreign c.args.self.now.tag c.loop.rest _ _
    (subst (λ o. Takes c.args.self.now.tag c.loop.rest (Ok o) (g.L.Link.state c.loop.self.inner) (g.L.Link.state c.takes-2.new.self.inner)) c.in-None.is t) in
    let none : MOST_FOREIGN - c.loop.counter ≡ 0 = omega (arith, c.loop-test.false) in
    record {
      gave = e.0;
      asks = c.loop.invariant.past e.0 _ (subst (λ k. AsksPast k c.args.self.now.tag c.loop.rest e.0 (g.L.Link.state c.loop.self.inner) (g.L.Link.state c.takes-2.new.self.inner)) (sym none) e.1);
      hands = e.2;
    }

pub returns-in_err-got-clause-grows : goal.returns-in_err-got-clause-grows
returns-in_err-got-clause-grows g c =
    let p = err_from_is_err_and c.from_residual.result c.from_residual.ensures.1 in
    rw (p.1, p.2) (grows_then _ _ _ (CameForeign c.args.self.now.tag c.args.wait c.loop.rest c.loop.counter) (IsAskedOnce c.args.self.now.tag c.loop.rest (Err c.in_err-got.field-0.0)) (IsAskedPast c.args.self.now.tag c.args.wait (Err c.in_err-got.field-0.0))
    (ends_failed c.args.self.now.tag c.args.wait c.loop.rest c.loop.counter c.in_err-got.field-0.0 (omega (arith, c.loop-test.true))) c.loop.invariant.grows
    (subst (λ tag. Grows (g.L.Link.history c.loop.self.inner) (IsAskedOnce tag c.loop.rest (Err c.in_err-got.field-0.0)) (g.L.Link.history c.takes.new.self.inner)) c.loop.invariant.tag c.in_err-got.ensures.grows))

pub returns-in-Some-clause-grows : goal.returns-in-Some-clause-grows
returns-in-Some-clause-grows g c =
    grows_then _ _ _ (CameForeign c.args.self.now.tag c.args.wait c.loop.rest c.loop.counter) (IsAskedOnce c.args.self.now.tag c.loop.rest (Ok (Some c.in-Some.got))) (IsAskedPast c.args.self.now.tag c.args.wait (Ok c.in-Some.got))
    (ends_own c.args.self.now.tag c.args.wait c.loop.rest c.loop.counter c.in-Some.got (omega (arith, c.loop-test.true))) c.loop.invariant.grows
    (subst (λ o. Grows (g.L.Link.history c.loop.self.inner) (IsAskedOnce c.args.self.now.tag c.loop.rest (Ok o)) (g.L.Link.history c.takes.new.self.inner)) c.in-Some.is
    (subst (λ tag. Grows (g.L.Link.history c.loop.self.inner) (IsAskedOnce tag c.loop.rest (Ok c.in_ok-got.field-0)) (g.L.Link.history c.takes.new.self.inner)) c.loop.invariant.tag c.in_ok-got.ensures.grows))

pub returns-in_err-got-2-clause-grows : goal.returns-in_err-got-2-clause-grows
returns-in_err-got-2-clause-grows g c =
    let p = err_from_is_err_and c.from_residual-in_err-got-2.result c.from_residual-in_err-got-2.ensures.1 in
    rw (p.1, p.2) (grows_then _ _ _ (CameForeign c.args.self.now.tag c.args.wait c.loop.rest c.loop.counter) (IsAskedOnce c.args.self.now.tag c.loop.rest (Err c.in_err-got-2.field-0.0)) (IsAskedPast c.args.self.now.tag c.args.wait (Err c.in_err-got-2.field-0.0))
    (ends_failed c.args.self.now.tag c.args.wait c.loop.rest c.loop.counter c.in_err-got-2.field-0.0 c.loop.invariant.most) c.loop.invariant.grows
    (subst (λ tag. Grows (g.L.Link.history c.loop.self.inner) (IsAskedOnce tag c.loop.rest (Err c.in_err-got-2.field-0.0)) (g.L.Link.history c.takes-2.new.self.inner)) c.loop.invariant.tag c.in_err-got-2.ensures.grows))

pub returns-in-Some-2-clause-grows : goal.returns-in-Some-2-clause-grows
returns-in-Some-2-clause-grows g c =
    grows_then _ _ _ (CameForeign c.args.self.now.tag c.args.wait c.loop.rest c.loop.counter) (IsAskedOnce c.args.self.now.tag c.loop.rest (Ok (Some c.in-Some-2.got))) (IsAskedPast c.args.self.now.tag c.args.wait (Ok c.in-Some-2.got))
    (ends_own c.args.self.now.tag c.args.wait c.loop.rest c.loop.counter c.in-Some-2.got c.loop.invariant.most) c.loop.invariant.grows
    (subst (λ o. Grows (g.L.Link.history c.loop.self.inner) (IsAskedOnce c.args.self.now.tag c.loop.rest (Ok o)) (g.L.Link.history c.takes-2.new.self.inner)) c.in-Some-2.is
    (subst (λ tag. Grows (g.L.Link.history c.loop.self.inner) (IsAskedOnce tag c.loop.rest (Ok c.in_ok-got-2.field-0)) (g.L.Link.history c.takes-2.new.self.inner)) c.loop.invariant.tag c.in_ok-got-2.ensures.grows))

pub returns-in-None-clause-grows : goal.returns-in-None-clause-grows
returns-in-None-clause-grows g c =
    grows_then _ _ _ (CameForeign c.args.self.now.tag c.args.wait c.loop.rest c.loop.counter) (IsAskedOnce c.args.self.now.tag c.loop.rest (Ok None)) (IsAskedPast c.args.self.now.tag c.args.wait (Ok Idle))
    (ends_foreign c.args.self.now.tag c.args.wait c.loop.rest c.loop.counter (omega (arith, c.loop.invariant.most, c.loop-test.false))) c.loop.invariant.grows
    (subst (λ o. Grows (g.L.Link.history c.loop.self.inner) (IsAskedOnce c.args.self.now.tag c.loop.rest (Ok o)) (g.L.Link.history c.takes-2.new.self.inner)) c.in-None.is
    (subst (λ tag. Grows (g.L.Link.history c.loop.self.inner) (IsAskedOnce tag c.loop.rest (Ok c.in_ok-got-2.field-0)) (g.L.Link.history c.takes-2.new.self.inner)) c.loop.invariant.tag c.in_ok-got-2.ensures.grows))
