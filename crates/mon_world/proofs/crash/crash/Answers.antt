use Rattle.std.proofs.Common.{◌-◌, ◌≤◌, Ok, refl, sym, subst, arith}
use Rattle.mon_msg.specs.Protocol.Reaction.{reaction}
use Rattle.mon_msg.specs.Protocol.Readings.{readings_of}
use Rattle.mon_site.specs.Begins.{Begins}
use Rattle.mon_site.specs.Faults.{HasFault}
use Rattle.mon_site.specs.declared.opening.Begun.{Begun}
use Rattle.mon_site.specs.declared.injected.InjectedFault.{InjectedFault}
use Rattle.mon_tx.specs.Map.{Store}
use Rattle.mon_types.specs.declared.member.Member.{Member}
use Rattle.quorum_model.specs.Cuts.{opening_cut}
use Rattle.quorum_model.specs.Files.{after_opening}
use Rattle.svc_core.specs.Cache.{Follows}
use Rattle.mon_world.specs.Crashes.{Ends}
use Rattle.mon_world.proofs.Counting.{ended_so, failed_so, few_calls, first_counted, image_counted, opens_faulty, opens_first}
use Rattle.mon_world.proofs.Deciding.{behind}
use Rattle.mon_world.proofs.Starting.{start_writes}
use Rattle.mon_world.proofs.crash.crash.Goals as goal

pub counted_from-from-requires-clause-opening : goal.counted_from-from-requires-clause-opening
counted_from-from-requires-clause-opening c =
    let x = c.requires.rests in
    let is = c.in_ok-opening.ensures.count c.args.member x.0 x.1 x.2 in
    omega (arith, few_calls c.args.injected.disk x.1)

pub inject_one-requires-clause-calm_a : goal.inject_one-requires-clause-calm_a
inject_one-requires-clause-calm_a c = let x = c.requires.rests in (c.opening_count.ensures.rests c.args.member x.0 x.1 x.2).calm_a.calm

pub inject_one-requires-clause-calm_b : goal.inject_one-requires-clause-calm_b
inject_one-requires-clause-calm_b c = let x = c.requires.rests in (c.opening_count.ensures.rests c.args.member x.0 x.1 x.2).calm_b.calm

pub inject_one-requires-clause-first : goal.inject_one-requires-clause-first
inject_one-requires-clause-first c =
    subst (λ (v : InjectedFault). 1 ≤ v.call) (sym c.counted_from-from.ensures) (first_counted c.args.injected c.args.input.now c.in_ok-opening.opening c.requires.may.first)

pub inject_one-requires-clause-most : goal.inject_one-requires-clause-most
inject_one-requires-clause-most c =
    subst (λ (v : InjectedFault). v.image ≤ 3) (sym c.counted_from-from.ensures) (rw (image_counted c.args.injected c.args.input.now c.in_ok-opening.opening) c.requires.may.image)

pub open-requires : goal.open-requires
open-requires c =
    let x = c.requires.rests in
    let ready = c.inject_one.ensures c.args.member x.0 x.1 (c.opening_count.ensures.rests c.args.member x.0 x.1 x.2) in (ready.opens.store_view, ready.opens.opens)

pub overflow_sub-behind : goal.overflow_sub-behind
overflow_sub-behind c =
    let x = c.requires.rests in
    let is = c.in_ok-opening.ensures.count c.args.member x.0 x.1 x.2 in
    let ready = c.inject_one.ensures c.args.member x.0 x.1 (c.opening_count.ensures.rests c.args.member x.0 x.1 x.2) in
    let from = c.counted_from-from.result in
    let b = subst (λ (b : Begun). Begins from c.args.member x.0 x.1 (Ok b)) c.in-Open.is (c.in_ok-store.ensures x.0 x.1 ready) in
    opens_first c.args.injected c.args.member x.0 x.1 c.args.input.now c.in_ok-opening.opening is from c.counted_from-from.ensures b.0

pub end-requires-clause-fault : goal.end-requires-clause-fault
end-requires-clause-fault c =
    let x = c.requires.rests in
    let is = c.in_ok-opening.ensures.count c.args.member x.0 x.1 x.2 in
    let ready = c.inject_one.ensures c.args.member x.0 x.1 (c.opening_count.ensures.rests c.args.member x.0 x.1 x.2) in
    let from = c.counted_from-from.result in
    let b = subst (λ (b : Begun). Begins from c.args.member x.0 x.1 (Ok b)) c.in-Open.is (c.in_ok-store.ensures x.0 x.1 ready) in
    (c.args.member, x.0, after_opening x.1, opens_faulty c.args.injected c.args.member x.0 x.1 c.args.input.now c.in_ok-opening.opening is from c.counted_from-from.ensures c.in-Open.store b)

pub end-requires-clause-follows : goal.end-requires-clause-follows
end-requires-clause-follows c =
    let x = c.requires.rests in
    let ready = c.inject_one.ensures c.args.member x.0 x.1 (c.opening_count.ensures.rests c.args.member x.0 x.1 x.2) in
    let from = c.counted_from-from.result in
    let b = subst (λ (b : Begun). Begins from c.args.member x.0 x.1 (Ok b)) c.in-Open.is (c.in_ok-store.ensures x.0 x.1 ready) in
    subst (λ (m : Store). Follows c.args.core.now.cache (readings_of m)) (sym b.1.map) (c.requires.follows x.0 x.1 x.2)

pub returns-in-Open : goal.returns-in-Open
returns-in-Open c m f rests =
    let member = c.args.member in
    let core = c.args.core.now in
    let opening = c.in_ok-opening.opening in
    let is = c.in_ok-opening.ensures.count member m f rests in
    let from = c.counted_from-from.result in
    let b = subst (λ (b : Begun). Begins from member m f (Ok b)) c.in-Open.is (c.in_ok-store.ensures m f (c.inject_one.ensures member m f (c.opening_count.ensures.rests member m f rests))) in
    let faulty = opens_faulty c.args.injected member m f c.args.input.now opening is from c.counted_from-from.ensures c.in-Open.store b in
    let r = reaction core.me c.args.now m core.state c.args.input.now in
    ended_so c.args.injected member m f c.args.input.now opening is from c.counted_from-from.ensures c.requires.may.first r c.end.result b.0
    (subst (λ (member : Member). Ends (behind from opening) member m (after_opening f) r c.end.result) c.requires.member
    (c.end.ensures m (after_opening f) (subst (λ (member : Member). HasFault from.disk (from.call - opening) from.image member m (after_opening f) c.in-Open.store) (sym c.requires.member) faulty)))

pub returns-in_ok-settle_both-in-Failed : goal.returns-in_ok-settle_both-in-Failed
returns-in_ok-settle_both-in-Failed c m f rests =
    let member = c.args.member in
    let core = c.args.core.now in
    let opening = c.in_ok-opening.opening in
    let is = c.in_ok-opening.ensures.count member m f rests in
    let from = c.counted_from-from.result in
    let b = subst (λ (b : Begun). Begins from member m f (Ok b)) c.in-Failed.is (c.in_ok-store.ensures m f (c.inject_one.ensures member m f (c.opening_count.ensures.rests member m f rests))) in
    failed_so c.args.injected member m f c.args.input.now opening is from c.counted_from-from.ensures c.requires.may.first (reaction core.me c.args.now m core.state c.args.input.now) _
    (λ starting. start_writes core.me c.args.now m core.state c.args.input.now (c.requires.starts starting) starting) b.0 refl
    (c.in_ok-settle_both-in-Failed.ensures member m (opening_cut f from.disk from.call from.image) b.1)
