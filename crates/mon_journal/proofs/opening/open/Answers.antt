use Rattle.std.proofs.Common.{List, ℕ, Option, Some, None, Ok, Err, subst, ◌∙◌}
use Rattle.std.specs.Prelude.{IfSome}
use Rattle.std.proofs.lemmas.Result.{err_from_is_err_and}
use Rattle.mon_journal.specs.declared.journal.Journal.{Journal}
use Rattle.mon_journal.specs.declared.opening.Opened.{Opened}
use Rattle.mon_journal.specs.Content.{FoundIn}
use Rattle.mon_journal.specs.Steps.{payloads_observed}
use Rattle.mon_journal.proofs.Finds.{stopped_first, closed_calls, fault_calls, observed_payloads, is_live, live_calls, read_behind, only_read}
use Rattle.mon_journal.proofs.Stops.{stop_back}
use Rattle.mon_journal.proofs.opening.open.Goals as goal

pub returns-in_err-len-clause-call : goal.returns-in_err-len-clause-call
returns-in_err-len-clause-call g c =
    let p = err_from_is_err_and c.from_residual.result c.from_residual.ensures.1 in
    rw (p.1, p.2, stop_back Opened c.in_err-len.field-0.0) (stopped_first (g.D.Disk.state c.args.disk.now) (g.D.Disk.state c.synced_len.new.disk) c.in_err-len.field-0.0 c.in_err-len.ensures.call)

pub returns-in_err-found-clause-call : goal.returns-in_err-found-clause-call
returns-in_err-found-clause-call g c =
    let p = err_from_is_err_and c.from_residual-in_err-found.result c.from_residual-in_err-found.ensures.1 in
    let state = g.D.Disk.state in
    let fails = subst (λ (t : Option (List ℕ)). IfSome t (FoundIn (Err c.in_err-found.field-0.0))) c.in_ok-len.ensures.seen c.in_err-found.ensures.held in
    rw (p.1, p.2)
    (fault_calls Opened c.in_err-found.field-0.0 (state c.args.disk.now) (state c.held_on.new.disk) fails (read_behind _ (state c.args.disk.now) (state c.synced_len.new.disk) (state c.held_on.new.disk) c.in_ok-len.ensures.call c.in_err-found.ensures.disk))

pub returns-in-None-clause-call : goal.returns-in-None-clause-call
returns-in-None-clause-call g c =
    let state = g.D.Disk.state in
    let observed = subst (λ (t : Option (List ℕ)). IfSome t (FoundIn (Ok c.in_ok-found.found))) c.in_ok-len.ensures.seen c.in_ok-found.ensures.held in
    let none = subst (λ (o : Option Journal). IfSome (state c.args.disk.now).content.seen (FoundIn (Ok o))) c.in-None.is observed in
    closed_calls (state c.args.disk.now) (state c.held_on.new.disk) none (read_behind None (state c.args.disk.now) (state c.synced_len.new.disk) (state c.held_on.new.disk) c.in_ok-len.ensures.call c.in_ok-found.ensures.disk)

pub returns-in_err-write_synced-in-Some-clause-call : goal.returns-in_err-write_synced-in-Some-clause-call
returns-in_err-write_synced-in-Some-clause-call g c =
    let p = err_from_is_err_and c.from_residual-in_err-write_synced-in-Some.result c.from_residual-in_err-write_synced-in-Some.ensures.1 in
    let e = c.in_err-write_synced-in-Some.field-0.0 in
    let state = g.D.Disk.state in
    let s = (state c.args.disk.now).content.seen in
    let observed = subst (λ (t : Option (List ℕ)). IfSome t (FoundIn (Ok c.in_ok-found.found))) c.in_ok-len.ensures.seen c.in_ok-found.ensures.held in
    let holds = observed_payloads c.in-Some.journal s (subst (λ (o : Option Journal). IfSome s (FoundIn (Ok o))) c.in-Some.is observed) in
    rw (p.1, p.2, stop_back Opened e)
    (live_calls c.in-Some.journal (payloads_observed s) (state c.args.disk.now) (state c.held_on.new.disk) (state c.write_synced.new.disk) (Some e) holds (c.in_ok-found.ensures.disk.seen ∙ c.in_ok-len.ensures.seen)
    (only_read None (state c.synced_len.new.disk) (state c.held_on.new.disk) c.in_ok-found.ensures.disk c.in_ok-len.ensures.durable)
    (read_behind None (state c.args.disk.now) (state c.synced_len.new.disk) (state c.held_on.new.disk) c.in_ok-len.ensures.call c.in_ok-found.ensures.disk) c.in_err-write_synced-in-Some.ensures.call)

pub returns-clause-call : goal.returns-clause-call
returns-clause-call g c =
    let state = g.D.Disk.state in
    let s = (state c.args.disk.now).content.seen in
    let observed = subst (λ (t : Option (List ℕ)). IfSome t (FoundIn (Ok c.in_ok-found.found))) c.in_ok-len.ensures.seen c.in_ok-found.ensures.held in
    let holds = observed_payloads c.in-Some.journal s (subst (λ (o : Option Journal). IfSome s (FoundIn (Ok o))) c.in-Some.is observed) in
    live_calls c.in-Some.journal (payloads_observed s) (state c.args.disk.now) (state c.held_on.new.disk) (state c.write_synced.new.disk) None holds (c.in_ok-found.ensures.disk.seen ∙ c.in_ok-len.ensures.seen)
    (only_read None (state c.synced_len.new.disk) (state c.held_on.new.disk) c.in_ok-found.ensures.disk c.in_ok-len.ensures.durable)
    (read_behind None (state c.args.disk.now) (state c.synced_len.new.disk) (state c.held_on.new.disk) c.in_ok-len.ensures.call c.in_ok-found.ensures.disk) c.in_ok-write_synced-in-Some.ensures.call

pub returns-clause-found : goal.returns-clause-found
returns-clause-found g c =
    let state = g.D.Disk.state in
    let s = (state c.args.disk.now).content.seen in
    let observed = subst (λ (t : Option (List ℕ)). IfSome t (FoundIn (Ok c.in_ok-found.found))) c.in_ok-len.ensures.seen c.in_ok-found.ensures.held in
    let holds = observed_payloads c.in-Some.journal s (subst (λ (o : Option Journal). IfSome s (FoundIn (Ok o))) c.in-Some.is observed) in
    is_live c.in-Some.journal (payloads_observed s) (state c.args.disk.now).content (state c.held_on.new.disk).content (state c.write_synced.new.disk).content (state c.held_on.new.disk).known (state c.write_synced.new.disk).known holds
    (c.in_ok-found.ensures.disk.seen ∙ c.in_ok-len.ensures.seen) c.in_ok-write_synced-in-Some.ensures.seen c.in_ok-write_synced-in-Some.ensures.durable c.in_ok-write_synced-in-Some.ensures.end c.in_ok-write_synced-in-Some.ensures.known
