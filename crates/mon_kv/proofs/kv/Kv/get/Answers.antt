use Rattle.std.proofs.Common.{ap, sym, ◌∙◌}
use Rattle.std.specs.FinMap.{get}
use Rattle.std.specs.Option.{option_copied}
use Rattle.mon_kv.proofs.StoreLaws.{get_some, get_none}
use Rattle.mon_kv.proofs.kv.Kv.get.Goals as goal

pub returns-in-Some-get : goal.returns-in-Some-get
returns-in-Some-get c =
    let found = sym (ap option_copied c.in-Some.is) ∙ c.get.ensures c.self.invariant.0.in_order in
    get_some _ _ _ _ _ c.self.invariant.0 found (λ s. rw c.as_slice.ensures (sym (ap option_copied c.in-Some-get.is) ∙ c.get-in-Some.ensures s)) ∙ ap (λ m. get m (c.args.prefix.now, c.args.key.now)) c.self.view_is

pub returns-in-None-get : goal.returns-in-None-get
returns-in-None-get c =
    let found = sym (ap option_copied c.in-Some.is) ∙ c.get.ensures c.self.invariant.0.in_order in
    get_some _ _ _ _ _ c.self.invariant.0 found (λ s. sym (ap option_copied c.in-None-get.is) ∙ c.get-in-Some.ensures s) ∙ ap (λ m. get m (c.args.prefix.now, c.args.key.now)) c.self.view_is

pub returns-in-None : goal.returns-in-None
returns-in-None c =
    let found = sym (ap option_copied c.in-None.is) ∙ c.get.ensures c.self.invariant.0.in_order in
    get_none _ _ _ c.self.invariant.0 found ∙ ap (λ m. get m (c.args.prefix.now, c.args.key.now)) c.self.view_is
