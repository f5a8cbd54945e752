use Rattle.std.proofs.Common.{◌≡◌, ap, sym, ◌∙◌, rules}
use Rattle.std.specs.Option.{option_map}
use Rattle.mon_kv.specs.Tree.{bytes_cmp, entries}
use Rattle.mon_kv.proofs.Forks.{first_less, first_not_less}
use Rattle.mon_kv.proofs.tree.Tree.+first_above.Goals as goal

pub returns-in-Some : goal.returns-in-Some
returns-in-Some t κs c =
    first_less _ _ _ _ _ (ap entries c.in-Fork.is) _ (search rules) (λ s. sym (ap (option_map (λ e. (e.0.now, e.1.now))) c.in-Some.is) ∙ (rw c.deref-in-Less.ensures at c.first_above.ensures) s)

pub returns-in-None : goal.returns-in-None
returns-in-None t κs c =
    rw (c.deref-in-None.ensures, c.deref-in-None-2.ensures)
    (first_less _ _ _ _ _ (ap entries c.in-Fork.is) _ (search rules) (λ s. sym (ap (option_map (λ e. (e.0.now, e.1.now))) c.in-None.is) ∙ (rw c.deref-in-Less.ensures at c.first_above.ensures) s))

pub returns-in_default : goal.returns-in_default
returns-in_default t κs c =
    let k : c.compare.result ≡ bytes_cmp c.args.key.now c.in-Fork.node.value.key = search rules in
    first_not_less _ _ _ _ _ (ap entries c.in-Fork.is) _ (λ e. c.in_default.not-Less (k ∙ e)) (rw c.deref-in_default.ensures at c.first_above-in_default.ensures)
