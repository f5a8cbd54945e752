use Rattle.std.proofs.Common.{◌≡◌, true, Ok, Err, ap, refl, sym, subst, ◌∙◌}
use Rattle.std.proofs.lemmas.Result.{err_from_is_err_and}
use Rattle.mon_msg.specs.Protocol.Course.{clients_are}
use Rattle.mon_msg.specs.Protocol.Readings.{readings_of, shared_entries}
use Rattle.mon_msg.specs.declared.clients.Clients.{Clients}
use Rattle.mon_msg.specs.declared.paxos.Leader.{Leader}
use Rattle.mon_plan.specs.Inputs.{row}
use Rattle.mon_plan.specs.Plans.{PlansRow, leads, phase_as}
use Rattle.mon_plan.specs.Seen.{IsMet}
use Rattle.mon_event.specs.State.{state_of}
use Rattle.mon_event.specs.declared.role.Role.TheVariants as role
use Rattle.mon_event.specs.declared.role.Role.{Role}
use Rattle.paxos_leader.specs.Inputs.{may_begin_all}
use Rattle.mon_core.specs.Rows.{IsFor}
use Rattle.mon_core.proofs.Acting.{row_fails, row_goes_on}
use Rattle.mon_core.proofs.Holding.{may_begin_held}
use Rattle.mon_core.proofs.Leaving.{may_act}
use Rattle.mon_core.proofs.Regaining.{carried_whole, goes_whole, clients_taken, leader_taken, put_clients, put_elector, put_leader, put_peon, put_prober, put_provider, put_requester}
use Rattle.mon_core.proofs.Taking.{takes_own}
use Rattle.mon_core.proofs.roles.answer.Goals as goal

pub view-view-requires : goal.view-view-requires
view-view-requires c = c.requires.ready.remembers.placed.leads

-- ---- the prober

pub step-requires : goal.step-requires
step-requires c = takes_own c.args.input.now role.Prober (subst (λ (r : Role). IsFor c.args.here.now.me.now r c.args.input.now) c.in-Prober.is c.requires.input).role

pub carry-requires : goal.carry-requires
carry-requires c = λ e n k.
    let d = c.in_ok-plan-in-Prober.ensures.plans (shared_entries c.args.here.now.kv.now) in
    may_act put_prober (λ x s active stage. stage) c.args.here.now.me.now c.args.here.now.kv.now c.args.event.now c.requires.ready
    c.in_ok-plan-in-Prober.plan d.changes d.fit d.encoded e n k c.view-view.result.phase c.view-view.ensures.phase c.in_ok-plan-in-Prober.ensures.leaves

pub returns-in_err-plan-in-Prober : goal.returns-in_err-plan-in-Prober
returns-in_err-plan-in-Prober c =
    let p = err_from_is_err_and c.from_residual.result c.from_residual.ensures.1 in
    row_fails put_prober (λ s. s.prober) c.args.here.now.me.now c.args.here.now.time c.args.here.now.kv.now c.args.event.now c.requires.ready c.args.input.now
    c.view-view.result c.view-view.ensures c.args.event.now c.in_err-plan-in-Prober.field-0.0 _ (p.1 ∙ ap Err p.2) (c.in_err-plan-in-Prober.ensures.plans (shared_entries c.args.here.now.kv.now))

pub returns-in_ok-plan-in-Prober : goal.returns-in_ok-plan-in-Prober
returns-in_ok-plan-in-Prober c =
    row_goes_on put_prober (λ s. s.prober) c.args.here.now.me.now c.args.here.now.time c.args.here.now.kv.now c.args.event.now c.requires.ready c.args.input.now
    c.view-view.result c.view-view.ensures c.in_ok-plan-in-Prober.plan (c.in_ok-plan-in-Prober.ensures.plans (shared_entries c.args.here.now.kv.now)) c.carry.new.event c.carry.result c.carry.ensures

-- ---- the elector

pub step-requires-in-Elector : goal.step-requires-in-Elector
step-requires-in-Elector c = takes_own c.args.input.now role.Elector (subst (λ (r : Role). IsFor c.args.here.now.me.now r c.args.input.now) c.in-Elector.is c.requires.input).role

pub carry-requires-in-Elector : goal.carry-requires-in-Elector
carry-requires-in-Elector c = λ e n k.
    let d = c.in_ok-plan-in-Elector.ensures.plans (shared_entries c.args.here.now.kv.now) in
    may_act put_elector (λ x s active stage. stage) c.args.here.now.me.now c.args.here.now.kv.now c.args.event.now c.requires.ready
    c.in_ok-plan-in-Elector.plan d.changes d.fit d.encoded e n k c.view-view.result.phase c.view-view.ensures.phase c.in_ok-plan-in-Elector.ensures.leaves

pub returns-in_err-plan-in-Elector : goal.returns-in_err-plan-in-Elector
returns-in_err-plan-in-Elector c =
    let p = err_from_is_err_and c.from_residual-in_err-plan-in-Elector.result c.from_residual-in_err-plan-in-Elector.ensures.1 in
    row_fails put_elector (λ s. s.elector) c.args.here.now.me.now c.args.here.now.time c.args.here.now.kv.now c.args.event.now c.requires.ready c.args.input.now
    c.view-view.result c.view-view.ensures c.args.event.now c.in_err-plan-in-Elector.field-0.0 _ (p.1 ∙ ap Err p.2) (c.in_err-plan-in-Elector.ensures.plans (shared_entries c.args.here.now.kv.now))

pub returns-in_ok-plan-in-Elector : goal.returns-in_ok-plan-in-Elector
returns-in_ok-plan-in-Elector c =
    row_goes_on put_elector (λ s. s.elector) c.args.here.now.me.now c.args.here.now.time c.args.here.now.kv.now c.args.event.now c.requires.ready c.args.input.now
    c.view-view.result c.view-view.ensures c.in_ok-plan-in-Elector.plan (c.in_ok-plan-in-Elector.ensures.plans (shared_entries c.args.here.now.kv.now)) c.carry-in-Elector.new.event c.carry-in-Elector.result c.carry-in-Elector.ensures

-- ---- the leader

pub step_owned-requires-clause-input : goal.step_owned-requires-clause-input
step_owned-requires-clause-input c = takes_own c.args.input.now role.Leader (subst (λ (r : Role). IsFor c.args.here.now.me.now r c.args.input.now) c.in-Leader.is c.requires.input).role

pub step_owned-requires-clause-fits : goal.step_owned-requires-clause-fits
step_owned-requires-clause-fits c = c.requires.input.comes

pub step_owned-requires-clause-held : goal.step_owned-requires-clause-held
step_owned-requires-clause-held c =
    subst (λ (l : Leader). may_begin_all l ≡ true) (sym c.take_leader-leader.ensures.taken)
    (may_begin_held c.args.here.now.me.now.member.monitors c.args.event.now.state.leader c.requires.ready.remembers.leader)

pub carry-requires-in-Leader : goal.carry-requires-in-Leader
carry-requires-in-Leader c = λ e n k.
    let d = subst (λ (x : Leader). PlansRow c.args.here.now.me.now c.args.here.now.time leads (IsMet c.args.here.now.me.now c.args.here.now.time (readings_of c.args.here.now.kv.now) c.view-view.result (λ s. s.leader) x) (row c.args.here.now.me.now (shared_entries c.args.here.now.kv.now) c.args.here.now.time c.args.input.now) (Ok c.in_ok-plan-in-Leader.plan))
    c.take_leader-leader.ensures.taken (c.in_ok-plan-in-Leader.ensures.plans (shared_entries c.args.here.now.kv.now)) in
    may_act put_leader (λ l s active stage. ap (phase_as l.stage) active) c.args.here.now.me.now c.args.here.now.kv.now c.args.event.now c.requires.ready
    c.in_ok-plan-in-Leader.plan d.changes d.fit d.encoded e n (carried_whole put_leader c.args.event.now (record c.args.event.now { state = c.take_leader-leader.new.self }) refl refl (leader_taken (state_of c.args.event.now.state) (state_of c.take_leader-leader.new.self) c.take_leader-leader.ensures.left) c.in_ok-plan-in-Leader.plan e n k) c.view-view.result.phase c.view-view.ensures.phase c.in_ok-plan-in-Leader.ensures.leaves

pub returns-in_err-plan-in-Leader : goal.returns-in_err-plan-in-Leader
returns-in_err-plan-in-Leader c =
    let p = err_from_is_err_and c.from_residual-in_err-plan-in-Leader.result c.from_residual-in_err-plan-in-Leader.ensures.1 in
    row_fails put_leader (λ s. s.leader) c.args.here.now.me.now c.args.here.now.time c.args.here.now.kv.now c.args.event.now c.requires.ready c.args.input.now
    c.view-view.result c.view-view.ensures (record c.args.event.now { state = c.take_leader-leader.new.self }) c.in_err-plan-in-Leader.field-0.0 _ (p.1 ∙ ap Err p.2) (subst (λ (x : Leader). PlansRow c.args.here.now.me.now c.args.here.now.time leads (IsMet c.args.here.now.me.now c.args.here.now.time (readings_of c.args.here.now.kv.now) c.view-view.result (λ s. s.leader) x) (row c.args.here.now.me.now (shared_entries c.args.here.now.kv.now) c.args.here.now.time c.args.input.now) (Err c.in_err-plan-in-Leader.field-0.0))
    c.take_leader-leader.ensures.taken (c.in_err-plan-in-Leader.ensures.plans (shared_entries c.args.here.now.kv.now)))

pub returns-in_ok-plan-in-Leader : goal.returns-in_ok-plan-in-Leader
returns-in_ok-plan-in-Leader c =
    row_goes_on put_leader (λ s. s.leader) c.args.here.now.me.now c.args.here.now.time c.args.here.now.kv.now c.args.event.now c.requires.ready c.args.input.now
    c.view-view.result c.view-view.ensures c.in_ok-plan-in-Leader.plan (subst (λ (x : Leader). PlansRow c.args.here.now.me.now c.args.here.now.time leads (IsMet c.args.here.now.me.now c.args.here.now.time (readings_of c.args.here.now.kv.now) c.view-view.result (λ s. s.leader) x) (row c.args.here.now.me.now (shared_entries c.args.here.now.kv.now) c.args.here.now.time c.args.input.now) (Ok c.in_ok-plan-in-Leader.plan))
    c.take_leader-leader.ensures.taken (c.in_ok-plan-in-Leader.ensures.plans (shared_entries c.args.here.now.kv.now))) c.carry-in-Leader.new.event c.carry-in-Leader.result (goes_whole put_leader c.args.event.now (record c.args.event.now { state = c.take_leader-leader.new.self }) refl refl (leader_taken (state_of c.args.event.now.state) (state_of c.take_leader-leader.new.self) c.take_leader-leader.ensures.left) c.in_ok-plan-in-Leader.plan c.args.here.now.me.now c.args.here.now.kv.now c.args.here.now.time c.carry-in-Leader.new.event c.carry-in-Leader.result c.carry-in-Leader.ensures)

-- ---- the peon

pub step-requires-in-Peon-clause-input : goal.step-requires-in-Peon-clause-input
step-requires-in-Peon-clause-input c = takes_own c.args.input.now role.Peon (subst (λ (r : Role). IsFor c.args.here.now.me.now r c.args.input.now) c.in-Peon.is c.requires.input).role

pub step-requires-in-Peon-clause-fits : goal.step-requires-in-Peon-clause-fits
step-requires-in-Peon-clause-fits c = c.requires.input.comes

pub carry-requires-in-Peon : goal.carry-requires-in-Peon
carry-requires-in-Peon c = λ e n k.
    let d = c.in_ok-plan-in-Peon.ensures.plans (shared_entries c.args.here.now.kv.now) in
    may_act put_peon (λ x s active stage. stage) c.args.here.now.me.now c.args.here.now.kv.now c.args.event.now c.requires.ready
    c.in_ok-plan-in-Peon.plan d.changes d.fit d.encoded e n k c.view-view.result.phase c.view-view.ensures.phase c.in_ok-plan-in-Peon.ensures.leaves

pub returns-in_err-plan-in-Peon : goal.returns-in_err-plan-in-Peon
returns-in_err-plan-in-Peon c =
    let p = err_from_is_err_and c.from_residual-in_err-plan-in-Peon.result c.from_residual-in_err-plan-in-Peon.ensures.1 in
    row_fails put_peon (λ s. s.peon) c.args.here.now.me.now c.args.here.now.time c.args.here.now.kv.now c.args.event.now c.requires.ready c.args.input.now
    c.view-view.result c.view-view.ensures c.args.event.now c.in_err-plan-in-Peon.field-0.0 _ (p.1 ∙ ap Err p.2) (c.in_err-plan-in-Peon.ensures.plans (shared_entries c.args.here.now.kv.now))

pub returns-in_ok-plan-in-Peon : goal.returns-in_ok-plan-in-Peon
returns-in_ok-plan-in-Peon c =
    row_goes_on put_peon (λ s. s.peon) c.args.here.now.me.now c.args.here.now.time c.args.here.now.kv.now c.args.event.now c.requires.ready c.args.input.now
    c.view-view.result c.view-view.ensures c.in_ok-plan-in-Peon.plan (c.in_ok-plan-in-Peon.ensures.plans (shared_entries c.args.here.now.kv.now)) c.carry-in-Peon.new.event c.carry-in-Peon.result c.carry-in-Peon.ensures

-- ---- clients

pub step_owned-requires-in-Clients-clause-input : goal.step_owned-requires-in-Clients-clause-input
step_owned-requires-in-Clients-clause-input c = takes_own c.args.input.now role.Clients (subst (λ (r : Role). IsFor c.args.here.now.me.now r c.args.input.now) c.in-Clients.is c.requires.input).role

pub step_owned-requires-in-Clients-clause-fits : goal.step_owned-requires-in-Clients-clause-fits
step_owned-requires-in-Clients-clause-fits c = c.requires.input.comes

pub carry-requires-in-Clients : goal.carry-requires-in-Clients
carry-requires-in-Clients c = λ e n k.
    let d = subst (λ (x : Clients). PlansRow c.args.here.now.me.now c.args.here.now.time clients_are (IsMet c.args.here.now.me.now c.args.here.now.time (readings_of c.args.here.now.kv.now) c.view-view.result (λ s. s.clients) x) (row c.args.here.now.me.now (shared_entries c.args.here.now.kv.now) c.args.here.now.time c.args.input.now) (Ok c.in_ok-plan-in-Clients.plan))
    c.take_clients-clients.ensures.taken (c.in_ok-plan-in-Clients.ensures.plans (shared_entries c.args.here.now.kv.now)) in
    may_act put_clients (λ x s active stage. stage) c.args.here.now.me.now c.args.here.now.kv.now c.args.event.now c.requires.ready
    c.in_ok-plan-in-Clients.plan d.changes d.fit d.encoded e n (carried_whole put_clients c.args.event.now (record c.args.event.now { state = c.take_clients-clients.new.self }) refl refl (clients_taken (state_of c.args.event.now.state) (state_of c.take_clients-clients.new.self) c.take_clients-clients.ensures.left) c.in_ok-plan-in-Clients.plan e n k) c.view-view.result.phase c.view-view.ensures.phase c.in_ok-plan-in-Clients.ensures.leaves

pub returns-in_err-plan-in-Clients : goal.returns-in_err-plan-in-Clients
returns-in_err-plan-in-Clients c =
    let p = err_from_is_err_and c.from_residual-in_err-plan-in-Clients.result c.from_residual-in_err-plan-in-Clients.ensures.1 in
    row_fails put_clients (λ s. s.clients) c.args.here.now.me.now c.args.here.now.time c.args.here.now.kv.now c.args.event.now c.requires.ready c.args.input.now
    c.view-view.result c.view-view.ensures (record c.args.event.now { state = c.take_clients-clients.new.self }) c.in_err-plan-in-Clients.field-0.0 _ (p.1 ∙ ap Err p.2) (subst (λ (x : Clients). PlansRow c.args.here.now.me.now c.args.here.now.time clients_are (IsMet c.args.here.now.me.now c.args.here.now.time (readings_of c.args.here.now.kv.now) c.view-view.result (λ s. s.clients) x) (row c.args.here.now.me.now (shared_entries c.args.here.now.kv.now) c.args.here.now.time c.args.input.now) (Err c.in_err-plan-in-Clients.field-0.0))
    c.take_clients-clients.ensures.taken (c.in_err-plan-in-Clients.ensures.plans (shared_entries c.args.here.now.kv.now)))

pub returns-in_ok-plan-in-Clients : goal.returns-in_ok-plan-in-Clients
returns-in_ok-plan-in-Clients c =
    row_goes_on put_clients (λ s. s.clients) c.args.here.now.me.now c.args.here.now.time c.args.here.now.kv.now c.args.event.now c.requires.ready c.args.input.now
    c.view-view.result c.view-view.ensures c.in_ok-plan-in-Clients.plan (subst (λ (x : Clients). PlansRow c.args.here.now.me.now c.args.here.now.time clients_are (IsMet c.args.here.now.me.now c.args.here.now.time (readings_of c.args.here.now.kv.now) c.view-view.result (λ s. s.clients) x) (row c.args.here.now.me.now (shared_entries c.args.here.now.kv.now) c.args.here.now.time c.args.input.now) (Ok c.in_ok-plan-in-Clients.plan))
    c.take_clients-clients.ensures.taken (c.in_ok-plan-in-Clients.ensures.plans (shared_entries c.args.here.now.kv.now))) c.carry-in-Clients.new.event c.carry-in-Clients.result (goes_whole put_clients c.args.event.now (record c.args.event.now { state = c.take_clients-clients.new.self }) refl refl (clients_taken (state_of c.args.event.now.state) (state_of c.take_clients-clients.new.self) c.take_clients-clients.ensures.left) c.in_ok-plan-in-Clients.plan c.args.here.now.me.now c.args.here.now.kv.now c.args.here.now.time c.carry-in-Clients.new.event c.carry-in-Clients.result c.carry-in-Clients.ensures)

-- ---- the provider

pub step-requires-in-Provider : goal.step-requires-in-Provider
step-requires-in-Provider c = takes_own c.args.input.now role.Provider (subst (λ (r : Role). IsFor c.args.here.now.me.now r c.args.input.now) c.in-Provider.is c.requires.input).role

pub carry-requires-in-Provider : goal.carry-requires-in-Provider
carry-requires-in-Provider c = λ e n k.
    let d = c.in_ok-plan-in-Provider.ensures.plans in
    may_act put_provider (λ x s active stage. stage) c.args.here.now.me.now c.args.here.now.kv.now c.args.event.now c.requires.ready
    c.in_ok-plan-in-Provider.plan d.changes d.fit d.encoded e n k c.view-view.result.phase c.view-view.ensures.phase c.in_ok-plan-in-Provider.ensures.leaves

pub returns-in_err-plan-in-Provider : goal.returns-in_err-plan-in-Provider
returns-in_err-plan-in-Provider c =
    let p = err_from_is_err_and c.from_residual-in_err-plan-in-Provider.result c.from_residual-in_err-plan-in-Provider.ensures.1 in
    row_fails put_provider (λ s. s.provider) c.args.here.now.me.now c.args.here.now.time c.args.here.now.kv.now c.args.event.now c.requires.ready c.args.input.now
    c.view-view.result c.view-view.ensures c.args.event.now c.in_err-plan-in-Provider.field-0.0 _ (p.1 ∙ ap Err p.2) (c.in_err-plan-in-Provider.ensures.plans)

pub returns-in_ok-plan-in-Provider : goal.returns-in_ok-plan-in-Provider
returns-in_ok-plan-in-Provider c =
    row_goes_on put_provider (λ s. s.provider) c.args.here.now.me.now c.args.here.now.time c.args.here.now.kv.now c.args.event.now c.requires.ready c.args.input.now
    c.view-view.result c.view-view.ensures c.in_ok-plan-in-Provider.plan (c.in_ok-plan-in-Provider.ensures.plans) c.carry-in-Provider.new.event c.carry-in-Provider.result c.carry-in-Provider.ensures

-- ---- the requester

pub step-requires-in-Requester-clause-input : goal.step-requires-in-Requester-clause-input
step-requires-in-Requester-clause-input c = takes_own c.args.input.now role.Requester (subst (λ (r : Role). IsFor c.args.here.now.me.now r c.args.input.now) c.in-Requester.is c.requires.input).role

pub step-requires-in-Requester-clause-fits : goal.step-requires-in-Requester-clause-fits
step-requires-in-Requester-clause-fits c = c.requires.input.comes

pub carry-requires-in-Requester : goal.carry-requires-in-Requester
carry-requires-in-Requester c = λ e n k.
    let d = c.in_ok-plan-in-Requester.ensures.plans (shared_entries c.args.here.now.kv.now) in
    may_act put_requester (λ x s active stage. stage) c.args.here.now.me.now c.args.here.now.kv.now c.args.event.now c.requires.ready
    c.in_ok-plan-in-Requester.plan d.changes d.fit d.encoded e n k c.view-view.result.phase c.view-view.ensures.phase c.in_ok-plan-in-Requester.ensures.leaves

pub returns-in_err-plan-in-Requester : goal.returns-in_err-plan-in-Requester
returns-in_err-plan-in-Requester c =
    let p = err_from_is_err_and c.from_residual-in_err-plan-in-Requester.result c.from_residual-in_err-plan-in-Requester.ensures.1 in
    row_fails put_requester (λ s. s.requester) c.args.here.now.me.now c.args.here.now.time c.args.here.now.kv.now c.args.event.now c.requires.ready c.args.input.now
    c.view-view.result c.view-view.ensures c.args.event.now c.in_err-plan-in-Requester.field-0.0 _ (p.1 ∙ ap Err p.2) (c.in_err-plan-in-Requester.ensures.plans (shared_entries c.args.here.now.kv.now))

pub returns-in_ok-plan-in-Requester : goal.returns-in_ok-plan-in-Requester
returns-in_ok-plan-in-Requester c =
    row_goes_on put_requester (λ s. s.requester) c.args.here.now.me.now c.args.here.now.time c.args.here.now.kv.now c.args.event.now c.requires.ready c.args.input.now
    c.view-view.result c.view-view.ensures c.in_ok-plan-in-Requester.plan (c.in_ok-plan-in-Requester.ensures.plans (shared_entries c.args.here.now.kv.now)) c.carry-in-Requester.new.event c.carry-in-Requester.result c.carry-in-Requester.ensures
