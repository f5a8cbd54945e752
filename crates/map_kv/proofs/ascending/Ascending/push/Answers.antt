use Rattle.std.proofs.Common.{◌+◌, length, IsTrue, string_bytes, sym, ap, subst, ◌∙◌, arith}
use Rattle.std.specs.FinMap.{entries, insert}
use Rattle.mon_bytes.specs.Texts.{is_name}
use Rattle.map_kv.specs.Kept.{kept_map, IsKept}
use Rattle.map_kv.proofs.Rising.{IsBelow, inserted_last, kept_last}
use Rattle.map_kv.proofs.ascending.Ascending.push.Goals as goal

pub invariant_of-self-2 : goal.invariant_of-self-2
invariant_of-self-2 c =
    let es = c.self.inside.entries.items in
    let name = sym c.into_string-key.ensures.value in
    let below = subst (λ k. IsBelow k (entries (kept_map es))) name (subst (λ m. IsBelow c.args.key (entries m)) (sym c.self.view_is) c.requires) in
    let grows = ap (λ n. c.self.inside.size + n) (c.entry_size.ensures.size ∙ ap (λ k. length k + length c.args.value + 5) c.deref.ensures) in
    subst (λ all. IsKept all (c.self.inside.size + c.entry_size.result)) (sym c.in_ok-push.ensures.items)
    (kept_last es c.into_string-key.result c.args.value c.self.inside.size (c.self.inside.size + c.entry_size.result) c.self.invariant (subst (λ k. IsTrue (is_name k)) name c.into_string-key.ensures.form, c.entry_size.ensures.text) below grows (omega (arith, c.if-size-gt-GREATEST.false)))

pub returns : goal.returns
returns c =
    let es = c.self.inside.entries.items in
    let below = subst (λ k. IsBelow k (entries (kept_map es))) (sym c.into_string-key.ensures.value) (subst (λ m. IsBelow c.args.key (entries m)) (sym c.self.view_is) c.requires) in
    ap kept_map c.in_ok-push.ensures.items ∙ inserted_last es c.into_string-key.result c.args.value c.self.invariant.sorted below ∙ ap (λ m. insert m (string_bytes c.into_string-key.result) c.args.value) c.self.view_is
    ∙ ap (λ k. insert c.args.self.now k c.args.value) c.into_string-key.ensures.value
