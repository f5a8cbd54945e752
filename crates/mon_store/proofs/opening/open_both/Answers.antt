use Rattle.std.proofs.Common.{Option, None, Ok, Err, inl, inr, sym, subst}
use Rattle.mon_types.specs.declared.names.Stop.{Stop}
use Rattle.mon_types.specs.declared.names.Side.TheVariants.{A, B}
use Rattle.mon_journal.specs.Steps.{OpensBy, with_payloads, payloads_observed, stop_in as of_journal}
use Rattle.mon_journal.specs.declared.opening.Opened.{Opened}
use Rattle.std.specs.Prelude.{IfSome}
use Rattle.mon_store.specs.declared.stop.OpenStop.{OpenStop}
use Rattle.mon_store.specs.Pair.{found}
use Rattle.mon_store.specs.declared.opening.Both.{Both}
use Rattle.mon_store.specs.Opening.{IsStopOf, named, stop_in}
use Rattle.mon_store.proofs.Alike.{opened_a, opened_b, made_by, few_calls, refused_a, refused_b}
use Rattle.mon_store.proofs.Called.{stop_named}
use Rattle.mon_store.proofs.OpenCalls.{calls_a, calls_b}
use Rattle.mon_store.proofs.Counting.{of_calls, none_counts}
use Rattle.mon_store.proofs.opening.open_both.Goals as goal

pub returns-in-Err-clause-refused : goal.returns-in-Err-clause-refused
returns-in-Err-clause-refused g c =
    let x = (g.D.Disk.state c.args.a.now).content in
    let y = (g.D.Disk.state c.args.b.now).content in
    subst (λ (e : OpenStop). IfSome x.seen (λ s. IfSome y.seen (λ t. IsStopOf e (found s t)))) (sym c.named.ensures)
    (refused_a c.in-Err.stop x.seen y.seen (g.D.Disk.state c.open.new.disk).known (g.D.Disk.state c.open.new.disk).content c.in-Err.ensures.found)

pub returns-in-Err-clause-any_time : goal.returns-in-Err-clause-any_time
returns-in-Err-clause-any_time g c = opened_a (g.D.Disk.state c.args.a.now).content (g.D.Disk.state c.open.new.disk).content (g.D.Disk.state c.args.b.now).content c.open.ensures.call.1.any_time

pub returns-in-Ok-open-clause-any_time : goal.returns-in-Ok-open-clause-any_time
returns-in-Ok-open-clause-any_time g c =
    opened_b (g.D.Disk.state c.args.a.now).content (g.D.Disk.state c.open.new.disk).content (g.D.Disk.state c.args.b.now).content (g.D.Disk.state c.open-2.new.disk).content c.open.ensures.call.1.any_time c.open-2.ensures.call.1.any_time

pub returns-in-Err-open-clause-refused : goal.returns-in-Err-open-clause-refused
returns-in-Err-open-clause-refused g c =
    let x = (g.D.Disk.state c.args.a.now).content in
    let y = (g.D.Disk.state c.args.b.now).content in
    subst (λ (e : OpenStop). IfSome x.seen (λ s. IfSome y.seen (λ t. IsStopOf e (found s t)))) (sym c.named-in-Err-open.ensures)
    (refused_b c.in-Err-open.stop (with_payloads (payloads_observed x.seen) c.in-Ok.opened) x.seen y.seen (g.D.Disk.state c.open.new.disk).known (g.D.Disk.state c.open-2.new.disk).known (g.D.Disk.state c.open.new.disk).content (g.D.Disk.state c.open-2.new.disk).content c.in-Ok.ensures.found c.in-Err-open.ensures.found)

pub returns-in-Err-open-clause-any_time : goal.returns-in-Err-open-clause-any_time
returns-in-Err-open-clause-any_time g c =
    opened_b (g.D.Disk.state c.args.a.now).content (g.D.Disk.state c.open.new.disk).content (g.D.Disk.state c.args.b.now).content (g.D.Disk.state c.open-2.new.disk).content c.open.ensures.call.1.any_time c.open-2.ensures.call.1.any_time

pub returns-in-Err-clause-few : goal.returns-in-Err-clause-few
returns-in-Err-clause-few g c = few_calls (g.D.Disk.state c.args.a.now).content.seen (g.D.Disk.state c.args.a.now).observed (g.D.Disk.state c.open.new.disk).observed (of_journal {T = Opened} (Err c.in-Err.stop)) (made_by (of_journal {T = Opened} (Err c.in-Err.stop)) (g.D.Disk.state c.args.a.now) (g.D.Disk.state c.open.new.disk) c.in-Err.ensures.call)

pub returns-in-Ok-open-clause-few : goal.returns-in-Ok-open-clause-few
returns-in-Ok-open-clause-few g c = few_calls (g.D.Disk.state c.args.a.now).content.seen (g.D.Disk.state c.args.a.now).observed (g.D.Disk.state c.open.new.disk).observed None (made_by None (g.D.Disk.state c.args.a.now) (g.D.Disk.state c.open.new.disk) c.in-Ok.ensures.call)

pub returns-in-Err-open-clause-few : goal.returns-in-Err-open-clause-few
returns-in-Err-open-clause-few g c = few_calls (g.D.Disk.state c.args.a.now).content.seen (g.D.Disk.state c.args.a.now).observed (g.D.Disk.state c.open.new.disk).observed None (made_by None (g.D.Disk.state c.args.a.now) (g.D.Disk.state c.open.new.disk) c.in-Ok.ensures.call)

pub returns-in-Err-clause-calls : goal.returns-in-Err-clause-calls
returns-in-Err-clause-calls g c =
    let x = g.D.Disk.state c.args.a.now in
    let y = g.D.Disk.state c.args.b.now in
    let m = g.D.Disk.state c.open.new.disk in
    let e = c.in-Err.stop in
    rw c.named.ensures (calls_a x.content.seen y.content.seen x.observed y.observed Both e m.known m.content m.observed c.in-Err.ensures.found (made_by (of_journal {T = Opened} (Err e)) x m c.in-Err.ensures.call))

pub returns-in-Ok-open-clause-calls : goal.returns-in-Ok-open-clause-calls
returns-in-Ok-open-clause-calls g c =
    let x = g.D.Disk.state c.args.a.now in
    let y = g.D.Disk.state c.args.b.now in
    let m = g.D.Disk.state c.open.new.disk in
    let n = g.D.Disk.state c.open-2.new.disk in
    calls_b x.content.seen y.content.seen x.observed y.observed Both (with_payloads (payloads_observed x.content.seen) c.in-Ok.opened) (Ok _) m.known m.content m.observed n.observed c.in-Ok.ensures.found (made_by None x m c.in-Ok.ensures.call) (made_by None y n c.in-Ok-open.ensures.call)

pub returns-in-Err-open-clause-calls : goal.returns-in-Err-open-clause-calls
returns-in-Err-open-clause-calls g c =
    let x = g.D.Disk.state c.args.a.now in
    let y = g.D.Disk.state c.args.b.now in
    let m = g.D.Disk.state c.open.new.disk in
    let n = g.D.Disk.state c.open-2.new.disk in
    let e = c.in-Err-open.stop in
    let stop = stop_in {T = Both} (Err (named B e)) in
    let opens : OpensBy stop y n = subst (λ (k : Option Stop). OpensBy k y n) (sym (stop_named Opened Both B e)) c.in-Err-open.ensures.call in
    rw c.named-in-Err-open.ensures (calls_b x.content.seen y.content.seen x.observed y.observed Both (with_payloads (payloads_observed x.content.seen) c.in-Ok.opened) (Err (named B e)) m.known m.content m.observed n.observed c.in-Ok.ensures.found (made_by None x m c.in-Ok.ensures.call) (made_by stop y n opens))

pub returns-in-Err-clause-counts : goal.returns-in-Err-clause-counts
returns-in-Err-clause-counts g c =
    rw (c.named.ensures, stop_named Opened Both A c.in-Err.stop) (inl (of_calls c.in-Err.ensures.call.1, none_counts (g.D.Disk.state c.args.b.now)))

pub returns-in-Ok-open-clause-counts : goal.returns-in-Ok-open-clause-counts
returns-in-Ok-open-clause-counts g c = inl (of_calls c.in-Ok.ensures.call.1, of_calls c.in-Ok-open.ensures.call.1)

pub returns-in-Err-open-clause-counts : goal.returns-in-Err-open-clause-counts
returns-in-Err-open-clause-counts g c =
    rw (c.named-in-Err-open.ensures, stop_named Opened Both B c.in-Err-open.stop) (inr (of_calls c.in-Ok.ensures.call.1, of_calls c.in-Err-open.ensures.call.1))

pub returns-in-Ok-open-clause-made : goal.returns-in-Ok-open-clause-made
returns-in-Ok-open-clause-made g c = made_by None (g.D.Disk.state c.args.a.now) (g.D.Disk.state c.open.new.disk) c.in-Ok.ensures.call
