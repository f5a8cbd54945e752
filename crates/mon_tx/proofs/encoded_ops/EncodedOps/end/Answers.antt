use Rattle.std.proofs.Common.{◌≡◌, true, false, sym, ◌∙◌, rules}
use Rattle.mon_tx.proofs.Unread.{left_over, no_range, first_format, with_range}
use Rattle.mon_tx.proofs.encoded_ops.EncodedOps.end.Goals.{else-self-eq2-via-then-self-eq2+else-not-self, else-self-eq2-via-else-self-eq2}
use Rattle.mon_tx.proofs.encoded_ops.EncodedOps.end.Goals as goal

pub returns-then-left-ne0 : goal.returns-then-left-ne0
returns-then-left-ne0 c = rw c.at.ensures.value (left_over _ _ _ _ c.requires (λ none. c.if-left-ne0.true (c.left.ensures ∙ none)))

pub returns-then-not-self : goal.returns-then-not-self
returns-then-not-self c =
    let without : c.args.self.now.ranged ≡ false = search rules in
    no_range _ _ _ _ c.requires (sym c.left.ensures ∙ c.if-left-ne0.false) c.if-self-eq2.true without

pub returns : goal.returns
returns c =
    let none = sym c.left.ensures ∙ c.if-left-ne0.false in
    elim c.else-self-eq2.branch [
      | else-self-eq2-via-then-self-eq2+else-not-self w ↦ let met : c.args.self.now.ranged ≡ true = search (rules, w.if-not-self) in with_range _ _ _ _ c.requires none met
      | else-self-eq2-via-else-self-eq2 w ↦ first_format _ _ _ _ c.requires none w.if-self-eq2.false
    ]
