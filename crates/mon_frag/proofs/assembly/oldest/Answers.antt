use Rattle.std.proofs.Common.{◌∙◌, ap, sym, ℕ, Option}
use Rattle.mon_frag.specs.Keeping.{first_of, is_client, or_else}
use Rattle.mon_frag.proofs.Lists.{oldest_monitor, oldest_client}
use Rattle.mon_frag.proofs.assembly.oldest.Goals as goal

pub returns-in-Monitor-clause-place : goal.returns-in-Monitor-clause-place
returns-in-Monitor-clause-place c = c.first_from.ensures ∙ sym (oldest_monitor c.args.from.now c.in-Monitor.field-0 c.args.kept.now c.in-Monitor.is)

pub returns-in-Some-clause-place : goal.returns-in-Some-clause-place
returns-in-Some-clause-place c =
    let any : Option ℕ = first_of 64 (λ p. is_client p.from) c.args.kept.now in
    ap (λ (own : Option ℕ). or_else own any) c.in-Some.ensures ∙ sym (oldest_client c.args.from.now c.in-Client.field-0 c.args.kept.now c.in-Client.is)

pub returns-in-None-clause-place : goal.returns-in-None-clause-place
returns-in-None-clause-place c =
    let any : Option ℕ = first_of 64 (λ p. is_client p.from) c.args.kept.now in
    c.first_from_clients.ensures
    ∙ ap (λ (own : Option ℕ). or_else own any) c.in-None.ensures
    ∙ sym (oldest_client c.args.from.now c.in-Client.field-0 c.args.kept.now c.in-Client.is)
