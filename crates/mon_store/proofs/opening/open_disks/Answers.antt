use Rattle.std.proofs.Common.{◌≡◌, false, is_some, Option, None, Ok, Err, ap, sym, subst, ◌∙◌, ◌≤◌, arith}
use Rattle.mon_disk.specs.Calls.{Observed}
use Rattle.std.specs.Prelude.{IfSome}
use Rattle.mon_journal.specs.Steps.{with_payloads, payloads_observed, made_more, create_calls}
use Rattle.std.proofs.lemmas.Result.{err_from_is_err_and}
use Rattle.mon_journal.specs.Content.{held_by}
use Rattle.mon_journal.specs.Written.{owner_of}
use Rattle.mon_store.specs.declared.opening.Both.{Both}
use Rattle.mon_store.specs.declared.opening.LiveStore.{LiveStore}
use Rattle.mon_store.specs.Sound.{of_live}
use Rattle.mon_store.specs.Pair.{Live, chosen, taken}
use Rattle.mon_store.specs.Opening.{held_in, len_of, found_of, Gives, AlikePair, Alike, stop_in}
use Rattle.mon_store.proofs.Times.{weaker, ends, now}
use Rattle.mon_store.proofs.Alike.{is_alike, both_settle, when_some, one_call}
use Rattle.mon_store.proofs.Answering.{refused, not_chosen, answers_err, answers_new, answers_live}
use Rattle.mon_store.proofs.Chosen.{chosen_live, chosen_new, live_file, sound_restored, gives_restored}
use Rattle.mon_store.proofs.Rereading.{visible_a, visible_b, made_a, made_b, read_meanwhile, reread_counts, no_fault_observed}
use Rattle.mon_store.proofs.Creating.{closed_of, opened_c, settled_c, sound_new}
use Rattle.mon_store.proofs.Called.{on_a}
use Rattle.mon_store.proofs.OpenCalls.{calls_refused, refusal_no_fault, calls_none, calls_live, calls_new}
use Rattle.mon_store.proofs.Counting.{of_calls, then_a, whatever, same_refusal}
use Rattle.mon_store.proofs.opening.open_disks.Goals as goal

pub returns-in_err-both-clause-answer : goal.returns-in_err-both-clause-answer
returns-in_err-both-clause-answer g c =
    let p = err_from_is_err_and c.from_residual.result c.from_residual.ensures.1 in
    let e = c.in_err-both.field-0.0 in
    let s = (g.D.Disk.state c.args.a.now).content.seen in
    let t = (g.D.Disk.state c.args.b.now).content.seen in
    answers_err c.args.member.now e s t c.from_residual.result (p.1 ∙ ap (λ x. Err x) p.2) (refused (owner_of c.args.member.now) e s t c.in_err-both.ensures.refused)

pub returns-in_err-both-clause-calls : goal.returns-in_err-both-clause-calls
returns-in_err-both-clause-calls g c =
    let p = err_from_is_err_and c.from_residual.result c.from_residual.ensures.1 in
    let s = (g.D.Disk.state c.args.a.now).content.seen in
    let t = (g.D.Disk.state c.args.b.now).content.seen in
    rw (p.1, p.2)
    (calls_refused s t (g.D.Disk.state c.args.a.now).observed (g.D.Disk.state c.args.b.now).observed Both LiveStore (owner_of c.args.member.now) c.in_err-both.field-0.0 (g.D.Disk.state c.open_both.new.a).observed (g.D.Disk.state c.open_both.new.b).observed
    c.in_err-both.ensures.refused c.in_err-both.ensures.calls)

pub returns-in_err-both-clause-any_time : goal.returns-in_err-both-clause-any_time
returns-in_err-both-clause-any_time g c = λ observed_a observed_b.
    let state = g.D.Disk.state in
    let a = (state c.args.a.now).content in
    let b = (state c.args.b.now).content in
    let member = c.args.member.now in
    let x = (state c.open_both.new.a).content in
    let y = (state c.open_both.new.b).content in
    ends a b x y (Alike member a b) (weaker a b x y (AlikePair member a b false) (Alike member a b) (c.open_both.ensures.any_time member) (is_alike member a b))

pub returns-in_err-choose-clause-any_time : goal.returns-in_err-choose-clause-any_time
returns-in_err-choose-clause-any_time g c = λ observed_a observed_b.
    let state = g.D.Disk.state in
    let a = (state c.args.a.now).content in
    let b = (state c.args.b.now).content in
    let member = c.args.member.now in
    let x = (state c.open_both.new.a).content in
    let y = (state c.open_both.new.b).content in
    ends a b x y (Alike member a b) (weaker a b x y (AlikePair member a b false) (Alike member a b) (c.open_both.ensures.any_time member) (is_alike member a b))

pub returns-in_err-choose-clause-answer : goal.returns-in_err-choose-clause-answer
returns-in_err-choose-clause-answer g c =
    let p = err_from_is_err_and c.from_residual-in_err-choose.result c.from_residual-in_err-choose.ensures.1 in
    let e = c.in_err-choose.field-0.0 in
    let a = c.open_both.new.a in
    let b = c.open_both.new.b in
    let s = (g.D.Disk.state c.args.a.now).content.seen in
    let t = (g.D.Disk.state c.args.b.now).content.seen in
    answers_err c.args.member.now e s t c.from_residual-in_err-choose.result (p.1 ∙ ap (λ x. Err x) p.2)
    (not_chosen (with_payloads (payloads_observed (g.D.Disk.state c.args.a.now).content.seen) c.in_ok-both.both.a) (with_payloads (payloads_observed (g.D.Disk.state c.args.b.now).content.seen) c.in_ok-both.both.b) s t (g.D.Disk.state a).known (g.D.Disk.state b).known (g.D.Disk.state a).content (g.D.Disk.state b).content c.in_ok-both.ensures.a c.in_ok-both.ensures.b c.args.member.now e (c.in_err-choose.ensures.found (payloads_observed (g.D.Disk.state c.args.a.now).content.seen) (payloads_observed (g.D.Disk.state c.args.b.now).content.seen)))

pub returns-in_err-choose-clause-calls : goal.returns-in_err-choose-clause-calls
returns-in_err-choose-clause-calls g c =
    let p = err_from_is_err_and c.from_residual-in_err-choose.result c.from_residual-in_err-choose.ensures.1 in
    let a = c.open_both.new.a in
    let b = c.open_both.new.b in
    let s = (g.D.Disk.state c.args.a.now).content.seen in
    let t = (g.D.Disk.state c.args.b.now).content.seen in
    rw (p.1, p.2)
    (calls_none (with_payloads (payloads_observed (g.D.Disk.state c.args.a.now).content.seen) c.in_ok-both.both.a) (with_payloads (payloads_observed (g.D.Disk.state c.args.b.now).content.seen) c.in_ok-both.both.b) s t (g.D.Disk.state a).known (g.D.Disk.state b).known (g.D.Disk.state a).content (g.D.Disk.state b).content c.in_ok-both.ensures.a c.in_ok-both.ensures.b (owner_of c.args.member.now)
    (g.D.Disk.state c.args.a.now).observed (g.D.Disk.state c.args.b.now).observed (g.D.Disk.state a).observed (g.D.Disk.state b).observed Both LiveStore c.in_ok-both.both c.in_ok-both.ensures.calls c.in_err-choose.field-0.0 c.in_err-choose.ensures.refused (c.in_err-choose.ensures.found (payloads_observed (g.D.Disk.state c.args.a.now).content.seen) (payloads_observed (g.D.Disk.state c.args.b.now).content.seen)))

pub returns-in-New-clause-sound : goal.returns-in-New-clause-sound
returns-in-New-clause-sound g c =
    let state = g.D.Disk.state in
    let a = c.open_both.new.a in
    let b = c.open_both.new.b in
    let n = chosen_new (with_payloads (payloads_observed (g.D.Disk.state c.args.a.now).content.seen) c.in_ok-both.both.a) (with_payloads (payloads_observed (g.D.Disk.state c.args.b.now).content.seen) c.in_ok-both.both.b) (c.in_ok-choose.ensures.found (payloads_observed (g.D.Disk.state c.args.a.now).content.seen) (payloads_observed (g.D.Disk.state c.args.b.now).content.seen) ∙ ap (λ x. Ok (found_of (payloads_observed (g.D.Disk.state c.args.a.now).content.seen) (payloads_observed (g.D.Disk.state c.args.b.now).content.seen) x)) c.in-New.is) in
    let nothing : len_of (with_payloads (payloads_observed (g.D.Disk.state c.args.b.now).content.seen) c.in_ok-both.both.b) ≤ 0 = omega (arith, n.nothing) in
    sound_new state c.args.member.now (state c.args.a.now).content (state c.args.b.now).content c.create_on.new.a a b c.in_ok-both.ensures.a_time c.in_ok-both.ensures.b_time
    (closed_of (with_payloads (payloads_observed (g.D.Disk.state c.args.a.now).content.seen) c.in_ok-both.both.a) (state c.args.a.now).content (state a).content (state a).known 26 n.none_a n.short c.in_ok-both.ensures.a) (closed_of (with_payloads (payloads_observed (g.D.Disk.state c.args.b.now).content.seen) c.in_ok-both.both.b) (state c.args.b.now).content (state b).content (state b).known 0 n.none_b nothing c.in_ok-both.ensures.b)
    c.create_on.result c.create_on.ensures.side c.create_on.ensures.journal c.create_on.ensures.map c.create_on.ensures.kept

pub returns-in-New-clause-answer : goal.returns-in-New-clause-answer
returns-in-New-clause-answer g c =
    let a = c.open_both.new.a in
    let b = c.open_both.new.b in
    let s = (g.D.Disk.state c.args.a.now).content.seen in
    let t = (g.D.Disk.state c.args.b.now).content.seen in
    answers_new (with_payloads (payloads_observed (g.D.Disk.state c.args.a.now).content.seen) c.in_ok-both.both.a) (with_payloads (payloads_observed (g.D.Disk.state c.args.b.now).content.seen) c.in_ok-both.both.b) s t (g.D.Disk.state a).known (g.D.Disk.state b).known (g.D.Disk.state a).content (g.D.Disk.state b).content c.in_ok-both.ensures.a c.in_ok-both.ensures.b c.args.member.now
    c.create_on.result (c.in_ok-choose.ensures.found (payloads_observed (g.D.Disk.state c.args.a.now).content.seen) (payloads_observed (g.D.Disk.state c.args.b.now).content.seen) ∙ ap (λ x. Ok (found_of (payloads_observed (g.D.Disk.state c.args.a.now).content.seen) (payloads_observed (g.D.Disk.state c.args.b.now).content.seen) x)) c.in-New.is) c.create_on.ensures.side c.create_on.ensures.journal c.create_on.ensures.map c.create_on.ensures.outside

pub returns-in-New-clause-any_time : goal.returns-in-New-clause-any_time
returns-in-New-clause-any_time g c = λ observed_a observed_b.
    let state = g.D.Disk.state in
    let a = c.open_both.new.a in
    let b = c.open_both.new.b in
    let n = chosen_new (with_payloads (payloads_observed (g.D.Disk.state c.args.a.now).content.seen) c.in_ok-both.both.a) (with_payloads (payloads_observed (g.D.Disk.state c.args.b.now).content.seen) c.in_ok-both.both.b) (c.in_ok-choose.ensures.found (payloads_observed (g.D.Disk.state c.args.a.now).content.seen) (payloads_observed (g.D.Disk.state c.args.b.now).content.seen) ∙ ap (λ x. Ok (found_of (payloads_observed (g.D.Disk.state c.args.a.now).content.seen) (payloads_observed (g.D.Disk.state c.args.b.now).content.seen) x)) c.in-New.is) in
    let nothing : len_of (with_payloads (payloads_observed (g.D.Disk.state c.args.b.now).content.seen) c.in_ok-both.both.b) ≤ 0 = omega (arith, n.nothing) in
    opened_c c.args.member.now (state c.args.a.now).content (state a).content (state c.create_on.new.a).content (state c.args.b.now).content (state b).content c.in_ok-both.ensures.a_time c.in_ok-both.ensures.b_time
    (closed_of (with_payloads (payloads_observed (g.D.Disk.state c.args.a.now).content.seen) c.in_ok-both.both.a) (state c.args.a.now).content (state a).content (state a).known 26 n.none_a n.short c.in_ok-both.ensures.a) (closed_of (with_payloads (payloads_observed (g.D.Disk.state c.args.b.now).content.seen) c.in_ok-both.both.b) (state c.args.b.now).content (state b).content (state b).known 0 n.none_b nothing c.in_ok-both.ensures.b)
    c.create_on.ensures.call.any_time observed_a (g.met.D.Disk.as_read a)

pub returns-in-New-clause-calls : goal.returns-in-New-clause-calls
returns-in-New-clause-calls g c =
    let a = c.open_both.new.a in
    let b = c.open_both.new.b in
    let s = (g.D.Disk.state c.args.a.now).content.seen in
    let t = (g.D.Disk.state c.args.b.now).content.seen in
    calls_new (with_payloads (payloads_observed (g.D.Disk.state c.args.a.now).content.seen) c.in_ok-both.both.a) (with_payloads (payloads_observed (g.D.Disk.state c.args.b.now).content.seen) c.in_ok-both.both.b) s t (g.D.Disk.state a).known (g.D.Disk.state b).known (g.D.Disk.state a).content (g.D.Disk.state b).content c.in_ok-both.ensures.a c.in_ok-both.ensures.b (owner_of c.args.member.now)
    (g.D.Disk.state c.args.a.now).observed (g.D.Disk.state c.args.b.now).observed (g.D.Disk.state a).observed (g.D.Disk.state b).observed Both LiveStore c.in_ok-both.both c.in_ok-both.ensures.calls
    c.create_on.result (g.D.Disk.state c.create_on.new.a).observed (c.in_ok-choose.ensures.found (payloads_observed (g.D.Disk.state c.args.a.now).content.seen) (payloads_observed (g.D.Disk.state c.args.b.now).content.seen) ∙ ap (λ x. Ok (found_of (payloads_observed (g.D.Disk.state c.args.a.now).content.seen) (payloads_observed (g.D.Disk.state c.args.b.now).content.seen) x)) c.in-New.is) (λ some. on_a LiveStore c.create_on.result (create_calls (owner_of c.args.member.now) 1 None) (g.D.Disk.state a).observed (g.D.Disk.state c.create_on.new.a).observed (g.D.Disk.state b).observed some c.create_on.ensures.call.made)

pub returns-in_err-both-clause-settles : goal.returns-in_err-both-clause-settles
returns-in_err-both-clause-settles g c = λ observed_a observed_b.
    let state = g.D.Disk.state in
    let a = (state c.args.a.now).content in
    let b = (state c.args.b.now).content in
    let member = c.args.member.now in
    let both = c.open_both.new in
    both_settle member a b (state both.a).content (state both.b).content (state c.args.a.now).observed (state both.a).observed (state both.b).observed (now a b (state both.a).content (state both.b).content (AlikePair member a b false) (c.open_both.ensures.any_time member))
    (when_some a.seen (IfSome (state c.args.a.now).observed (λ s. IfSome (state both.a).observed (λ t. made_more 5 s t ≡ false))) observed_a c.open_both.ensures.few) (g.met.D.Disk.settled both.a) (g.met.D.Disk.settled both.b)

pub returns-in_err-choose-clause-settles : goal.returns-in_err-choose-clause-settles
returns-in_err-choose-clause-settles g c = λ observed_a observed_b.
    let state = g.D.Disk.state in
    let a = (state c.args.a.now).content in
    let b = (state c.args.b.now).content in
    let member = c.args.member.now in
    let both = c.open_both.new in
    both_settle member a b (state both.a).content (state both.b).content (state c.args.a.now).observed (state both.a).observed (state both.b).observed (now a b (state both.a).content (state both.b).content (AlikePair member a b false) (c.open_both.ensures.any_time member))
    (when_some a.seen (IfSome (state c.args.a.now).observed (λ s. IfSome (state both.a).observed (λ t. made_more 5 s t ≡ false))) observed_a c.open_both.ensures.few) (g.met.D.Disk.settled both.a) (g.met.D.Disk.settled both.b)

pub returns-in-New-clause-settles : goal.returns-in-New-clause-settles
returns-in-New-clause-settles g c = λ observed_a observed_b.
    let state = g.D.Disk.state in
    let a = c.open_both.new.a in
    let b = c.open_both.new.b in
    let x = (state c.args.a.now).content in
    let y = (state c.args.b.now).content in
    let on_a = (with_payloads (payloads_observed (g.D.Disk.state c.args.a.now).content.seen) c.in_ok-both.both.a) in
    let on_b = (with_payloads (payloads_observed (g.D.Disk.state c.args.b.now).content.seen) c.in_ok-both.both.b) in
    let n = chosen_new on_a on_b (c.in_ok-choose.ensures.found (payloads_observed (g.D.Disk.state c.args.a.now).content.seen) (payloads_observed (g.D.Disk.state c.args.b.now).content.seen) ∙ ap (λ x. Ok (found_of (payloads_observed (g.D.Disk.state c.args.a.now).content.seen) (payloads_observed (g.D.Disk.state c.args.b.now).content.seen) x)) c.in-New.is) in
    let nothing : len_of on_b ≤ 0 = omega (arith, n.nothing) in
    let closed_a = closed_of on_a x (state a).content (state a).known 26 n.none_a n.short c.in_ok-both.ensures.a in
    settled_c c.args.member.now x (state a).content (state c.create_on.new.a).content y (state b).content c.in_ok-both.ensures.a_time c.in_ok-both.ensures.b_time
    closed_a (closed_of on_b y (state b).content (state b).known 0 n.none_b nothing c.in_ok-both.ensures.b)
    (state c.args.a.now).observed (state a).observed (state c.create_on.new.a).observed (state b).observed observed_a (g.met.D.Disk.as_read a)
    (one_call 26 x.seen (state c.args.a.now).observed (state a).observed observed_a closed_a.none c.in_ok-both.ensures.made) c.create_on.ensures.settles (g.met.D.Disk.settled b)

pub returns-in_err-both-clause-counts : goal.returns-in_err-both-clause-counts
returns-in_err-both-clause-counts g c =
    let p = err_from_is_err_and c.from_residual.result c.from_residual.ensures.1 in
    rw (p.1, p.2, same_refusal LiveStore Both c.in_err-both.field-0.0) c.in_err-both.ensures.counts

pub returns-in_err-choose-clause-counts : goal.returns-in_err-choose-clause-counts
returns-in_err-choose-clause-counts g c =
    let p = err_from_is_err_and c.from_residual-in_err-choose.result c.from_residual-in_err-choose.ensures.1 in
    let e = c.in_err-choose.field-0.0 in
    let state = g.D.Disk.state in
    rw (p.1, p.2) (whatever LiveStore (Err e) (state c.args.a.now) (state c.args.b.now) (state c.open_both.new.a) (state c.open_both.new.b) (refusal_no_fault e c.in_err-choose.ensures.refused) c.in_ok-both.ensures.counts)

pub returns-in-New-clause-counts : goal.returns-in-New-clause-counts
returns-in-New-clause-counts g c =
    let state = g.D.Disk.state in
    then_a (stop_in c.create_on.result) (state c.args.a.now) (state c.args.b.now) (state c.open_both.new.a) (state c.create_on.new.a) (state c.open_both.new.b) c.in_ok-both.ensures.counts (of_calls c.create_on.ensures.call)

pub returns-in-New-clause-a_visible : goal.returns-in-New-clause-a_visible
returns-in-New-clause-a_visible g c = c.create_on.ensures.call.visible ∙ c.open_both.ensures.a_visible

pub restore-requires : goal.restore-requires
restore-requires g c =
    let state = g.D.Disk.state in
    let a = c.open_both.new.a in
    let b = c.open_both.new.b in
    let s = (state c.args.a.now).content.seen in
    let t = (state c.args.b.now).content.seen in
    let on_a = with_payloads (payloads_observed s) c.in_ok-both.both.a in
    let on_b = with_payloads (payloads_observed t) c.in_ok-both.both.b in
    let side = c.in-Live.side in
    let j = c.in-Live.journal in
    let payloads = of_live side (payloads_observed s) (payloads_observed t) in
    let is : chosen (held_in on_a) (held_in on_b) (len_of on_a) (len_of on_b) ≡ Ok (Live side (held_by j payloads)) =
    c.in_ok-choose.ensures.found (payloads_observed s) (payloads_observed t) ∙ ap (λ x. Ok (found_of (payloads_observed s) (payloads_observed t) x)) c.in-Live.is in
    record { holds = (live_file state on_a on_b a b s t j payloads c.in_ok-both.ensures.a c.in_ok-both.ensures.b side (chosen_live on_a on_b side (held_by j payloads) is)).0.holds }

pub returns-in-Live-clause-answer : goal.returns-in-Live-clause-answer
returns-in-Live-clause-answer g c =
    let state = g.D.Disk.state in
    let a = c.open_both.new.a in
    let b = c.open_both.new.b in
    let s = (state c.args.a.now).content.seen in
    let t = (state c.args.b.now).content.seen in
    let on_a = with_payloads (payloads_observed s) c.in_ok-both.both.a in
    let on_b = with_payloads (payloads_observed t) c.in_ok-both.both.b in
    let side = c.in-Live.side in
    let j = c.in-Live.journal in
    let payloads = of_live side (payloads_observed s) (payloads_observed t) in
    let is : chosen (held_in on_a) (held_in on_b) (len_of on_a) (len_of on_b) ≡ Ok (Live side (held_by j payloads)) =
    c.in_ok-choose.ensures.found (payloads_observed s) (payloads_observed t) ∙ ap (λ x. Ok (found_of (payloads_observed s) (payloads_observed t) x)) c.in-Live.is in
    answers_live on_a on_b s t (state a).known (state b).known (state a).content (state b).content c.in_ok-both.ensures.a c.in_ok-both.ensures.b c.args.member.now
    c.restore.result side j payloads is
    (gives_restored state on_a on_b a b s t j payloads c.in_ok-both.ensures.a c.in_ok-both.ensures.b (λ ps. Gives (λ r. (Live side (held_by j ps), r.kv)) c.restore.result (taken (owner_of c.args.member.now) (Live side (held_by j ps)))) side is c.open_both.ensures.a_visible c.open_both.ensures.b_visible c.restore.ensures.answer)
    c.restore.ensures.side c.restore.ensures.journal c.restore.ensures.owner

pub returns-in-Live-clause-sound : goal.returns-in-Live-clause-sound
returns-in-Live-clause-sound g c =
    let state = g.D.Disk.state in
    let a = c.open_both.new.a in
    let b = c.open_both.new.b in
    let s = (state c.args.a.now).content.seen in
    let t = (state c.args.b.now).content.seen in
    let on_a = with_payloads (payloads_observed s) c.in_ok-both.both.a in
    let on_b = with_payloads (payloads_observed t) c.in_ok-both.both.b in
    let side = c.in-Live.side in
    let j = c.in-Live.journal in
    let payloads = of_live side (payloads_observed s) (payloads_observed t) in
    let is : chosen (held_in on_a) (held_in on_b) (len_of on_a) (len_of on_b) ≡ Ok (Live side (held_by j payloads)) =
    c.in_ok-choose.ensures.found (payloads_observed s) (payloads_observed t) ∙ ap (λ x. Ok (found_of (payloads_observed s) (payloads_observed t) x)) c.in-Live.is in
    sound_restored state on_a on_b a b s t j payloads c.in_ok-both.ensures.a c.in_ok-both.ensures.b side is c.restore.new.a c.restore.new.b c.restore.result c.restore.ensures.disks
    c.restore.ensures.side c.restore.ensures.journal c.restore.ensures.map c.restore.ensures.size c.restore.ensures.reach

pub returns-in-Live-clause-calls : goal.returns-in-Live-clause-calls
returns-in-Live-clause-calls g c =
    let state = g.D.Disk.state in
    let a = c.open_both.new.a in
    let b = c.open_both.new.b in
    let s = (state c.args.a.now).content.seen in
    let t = (state c.args.b.now).content.seen in
    let on_a = with_payloads (payloads_observed s) c.in_ok-both.both.a in
    let on_b = with_payloads (payloads_observed t) c.in_ok-both.both.b in
    let side = c.in-Live.side in
    let j = c.in-Live.journal in
    let payloads = of_live side (payloads_observed s) (payloads_observed t) in
    let is : chosen (held_in on_a) (held_in on_b) (len_of on_a) (len_of on_b) ≡ Ok (Live side (held_by j payloads)) =
    c.in_ok-choose.ensures.found (payloads_observed s) (payloads_observed t) ∙ ap (λ x. Ok (found_of (payloads_observed s) (payloads_observed t) x)) c.in-Live.is in
    let r = c.restore.ensures.disks in
    calls_live on_a on_b s t (state a).known (state b).known (state a).content (state b).content c.in_ok-both.ensures.a c.in_ok-both.ensures.b (owner_of c.args.member.now)
    (state c.args.a.now).observed (state c.args.b.now).observed (state a).observed (state b).observed Both LiveStore c.in_ok-both.both c.in_ok-both.ensures.calls
    side (held_by j payloads) c.restore.result (state c.restore.new.a).observed (state c.restore.new.b).observed is (made_a state side (stop_in c.restore.result) a b c.restore.new.a c.restore.new.b r) (made_b state side (stop_in c.restore.result) a b c.restore.new.a c.restore.new.b r)
    (λ observed_a observed_b. no_fault_observed state side c.restore.result a b c.restore.new.a c.restore.new.b observed_a observed_b r)

pub returns-in-Live-clause-any_time : goal.returns-in-Live-clause-any_time
returns-in-Live-clause-any_time g c = λ observed_a observed_b.
    let state = g.D.Disk.state in
    let a = (state c.args.a.now).content in
    let b = (state c.args.b.now).content in
    let member = c.args.member.now in
    let both = c.open_both.new in
    let last = c.restore.new in
    let times = read_meanwhile a b (AlikePair member a b false) state c.in-Live.side (stop_in c.restore.result) both.a both.b last.a last.b c.restore.ensures.disks (c.open_both.ensures.any_time member) in
    ends a b (state last.a).content (state last.b).content (Alike member a b) (weaker a b (state last.a).content (state last.b).content (AlikePair member a b false) (Alike member a b) times (is_alike member a b))

pub returns-in-Live-clause-settles : goal.returns-in-Live-clause-settles
returns-in-Live-clause-settles g c = λ observed_a observed_b.
    let state = g.D.Disk.state in
    let a = (state c.args.a.now).content in
    let b = (state c.args.b.now).content in
    let member = c.args.member.now in
    let both = c.open_both.new in
    let last = c.restore.new in
    let r = c.restore.ensures.disks in
    let times = read_meanwhile a b (AlikePair member a b false) state c.in-Live.side (stop_in c.restore.result) both.a both.b last.a last.b r (c.open_both.ensures.any_time member) in
    let few = when_some a.seen (IfSome (state c.args.a.now).observed (λ s. IfSome (state both.a).observed (λ t. made_more 5 s t ≡ false))) observed_a c.open_both.ensures.few in
    both_settle member a b (state last.a).content (state last.b).content (state c.args.a.now).observed (state last.a).observed (state last.b).observed (now a b (state last.a).content (state last.b).content (AlikePair member a b false) times)
    (subst (λ (m : Option Observed). IfSome (state c.args.a.now).observed (λ s. IfSome m (λ t. made_more 5 s t ≡ false))) (sym (made_a state c.in-Live.side (stop_in c.restore.result) both.a both.b last.a last.b r)) few)
    (g.met.D.Disk.settled last.a) (g.met.D.Disk.settled last.b)

pub returns-in-Live-clause-counts : goal.returns-in-Live-clause-counts
returns-in-Live-clause-counts g c =
    let state = g.D.Disk.state in
    reread_counts state c.in-Live.side (stop_in c.restore.result) (state c.args.a.now) (state c.args.b.now) c.open_both.new.a c.open_both.new.b c.restore.new.a c.restore.new.b c.restore.ensures.disks c.in_ok-both.ensures.counts

pub returns-in-Live-clause-a_visible : goal.returns-in-Live-clause-a_visible
returns-in-Live-clause-a_visible g c = ap is_some (visible_a g.D.Disk.state c.in-Live.side (stop_in c.restore.result) c.open_both.new.a c.open_both.new.b c.restore.new.a c.restore.new.b c.restore.ensures.disks) ∙ c.open_both.ensures.a_visible

pub returns-in-Live-clause-b_visible : goal.returns-in-Live-clause-b_visible
returns-in-Live-clause-b_visible g c = ap is_some (visible_b g.D.Disk.state c.in-Live.side (stop_in c.restore.result) c.open_both.new.a c.open_both.new.b c.restore.new.a c.restore.new.b c.restore.ensures.disks) ∙ c.open_both.ensures.b_visible
