use Rattle.std.proofs.Common.{None, ap, sym, ◌∙◌, rules}
use Rattle.std.specs.Option.{option_map}
use Rattle.mon_kv.specs.Tree.{entries, first}
use Rattle.mon_kv.specs.Areas.{at_prefix, places}
use Rattle.mon_kv.specs.Readers.{after, found_of}
use Rattle.mon_kv.proofs.NextLaws.{left_whole, right_whole, area_in_order, next_less, next_equal, next_greater}
use Rattle.mon_kv.proofs.next.+next.Goals as goal

pub returns-in-Leaf : goal.returns-in-Leaf
returns-in-Leaf κs c = λ w. sym (ap (λ t. first (after (c.args.prefix.now, c.args.key.now) (places (entries t)))) c.in-Leaf.is)

pub returns-in-Some : goal.returns-in-Some
returns-in-Some κs c = λ w.
    let n = c.in-Fork.node.value in
    let is = ap entries c.in-Fork.is in
    let found = sym (ap (option_map found_of) c.in-Some.is) ∙ (rw c.deref-in-Less.ensures at c.next.ensures) (left_whole c.args.prefix.now c.args.key.now c.args.areas.now n.left n.right (n.key, n.value) is w) in
    next_less c.args.prefix.now c.args.key.now c.args.areas.now n.left n.right (n.key, n.value) is w _ (search rules) found

pub returns-in-None : goal.returns-in-None
returns-in-None κs c = λ w.
    let n = c.in-Fork.node.value in
    let is = ap entries c.in-Fork.is in
    let found = sym (ap (option_map found_of) c.in-None.is) ∙ (rw c.deref-in-Less.ensures at c.next.ensures) (left_whole c.args.prefix.now c.args.key.now c.args.areas.now n.left n.right (n.key, n.value) is w) in
    let own = rw c.deref-in-None-2.ensures at c.first.ensures in
    c.under_prefix.ensures ∙ rw c.deref-in-None.ensures (ap (at_prefix c.in-Fork.node.value.key) own) ∙ next_less c.args.prefix.now c.args.key.now c.args.areas.now n.left n.right (n.key, n.value) is w _ (search rules) found

pub returns-in-Some-first_above : goal.returns-in-Some-first_above
returns-in-Some-first_above κs c = λ w.
    let n = c.in-Fork.node.value in
    let is = ap entries c.in-Fork.is in
    let own = sym (ap (option_map (λ e. (e.0.now, e.1.now))) c.in-Some-first_above.is) ∙ (rw c.deref-in-Equal.ensures at c.first_above.ensures) (area_in_order c.args.prefix.now c.args.key.now c.args.areas.now n.left n.right (n.key, n.value) is w) in
    c.under_prefix-in-Some-first_above.ensures ∙ rw c.deref-in-Some-first_above.ensures (next_equal c.args.prefix.now c.args.key.now c.args.areas.now n.left n.right (n.key, n.value) is w _ (search rules) own)

pub returns-in-None-first_above : goal.returns-in-None-first_above
returns-in-None-first_above κs c = λ w.
    let n = c.in-Fork.node.value in
    let is = ap entries c.in-Fork.is in
    let own = sym (ap (option_map (λ e. (e.0.now, e.1.now))) c.in-None-first_above.is) ∙ (rw c.deref-in-Equal.ensures at c.first_above.ensures) (area_in_order c.args.prefix.now c.args.key.now c.args.areas.now n.left n.right (n.key, n.value) is w) in
    (rw c.deref-in-None-first_above.ensures at c.next-in-None-first_above.ensures) (right_whole c.args.prefix.now c.args.key.now c.args.areas.now n.left n.right (n.key, n.value) is w) ∙ next_equal c.args.prefix.now c.args.key.now c.args.areas.now n.left n.right (n.key, n.value) is w None (search rules) own

pub returns-in-Greater : goal.returns-in-Greater
returns-in-Greater κs c = λ w.
    let n = c.in-Fork.node.value in
    let is = ap entries c.in-Fork.is in
    (rw c.deref-in-Greater.ensures at c.next-in-Greater.ensures) (right_whole c.args.prefix.now c.args.key.now c.args.areas.now n.left n.right (n.key, n.value) is w) ∙ next_greater c.args.prefix.now c.args.key.now c.args.areas.now n.left n.right (n.key, n.value) is w (search rules)
