-- What a role remembers and doesn't change stays.
use Rattle.std.proofs.Common.{◌≡◌, Bool, true, false, cond, refl, sym, ap, ◌∙◌}
use Rattle.mon_msg.specs.Protocol.Course.{Course, elector_is, prober_is, peon_is, clients_are, provider_is, requester_is, timers_in}
use Rattle.mon_msg.specs.Protocol.Phases.{phase_of, same_phase, is_leading}
use Rattle.mon_msg.specs.Protocol.Timers.{only_ping}
use Rattle.mon_msg.specs.declared.clients.Clients.{Clients}
use Rattle.mon_msg.specs.declared.election.Elector.{Elector}
use Rattle.mon_msg.specs.declared.election.Prober.{Prober}
use Rattle.mon_msg.specs.declared.paxos.Leader.{Leader}
use Rattle.mon_msg.specs.declared.paxos.LeaderStage.{LeaderStage}
use Rattle.mon_msg.specs.declared.paxos.Peon.{Peon}
use Rattle.mon_msg.specs.declared.synchronization.Provider.{Provider}
use Rattle.mon_msg.specs.declared.synchronization.Requester.{Requester}
use Rattle.mon_wire.specs.declared.phase.Phase.TheVariants as phase
use Rattle.mon_wire.specs.declared.phase.Phase.{Phase}
use Rattle.mon_plan.specs.Plans.{phase_as, leads}

pub kept-elector : (s : Elector) (x : Course) → x.state.elector ≡ s → elector_is s x ≡ x
kept-elector s x h = λ i. record x { state = record x.state { elector = sym h i } }

pub kept-prober : (s : Prober) (x : Course) → x.state.prober ≡ s → prober_is s x ≡ x
kept-prober s x h = λ i. record x { state = record x.state { prober = sym h i } }

pub kept-peon : (s : Peon) (x : Course) → x.state.peon ≡ s → peon_is s x ≡ x
kept-peon s x h = λ i. record x { state = record x.state { peon = sym h i } }

pub kept-clients : (s : Clients) (x : Course) → x.state.clients ≡ s → clients_are s x ≡ x
kept-clients s x h = λ i. record x { state = record x.state { clients = sym h i } }

pub kept-provider : (s : Provider) (x : Course) → x.state.provider ≡ s → provider_is s x ≡ x
kept-provider s x h = λ i. record x { state = record x.state { provider = sym h i } }

pub kept-requester : (s : Requester) (x : Course) → x.state.requester ≡ s → requester_is s x ≡ x
kept-requester s x h = λ i. record x { state = record x.state { requester = sym h i } }

pub same_phase-itself : (p : Phase) → same_phase p p ≡ true
same_phase-itself phase.Booting = refl
same_phase-itself phase.Probing = refl
same_phase-itself phase.Synchronizing = refl
same_phase-itself phase.Electing = refl
same_phase-itself phase.Collecting = refl
same_phase-itself phase.Previous = refl
same_phase-itself phase.Active = refl
same_phase-itself phase.Updating = refl
same_phase-itself phase.Peon = refl

phase-kept : (s : LeaderStage) (p : Phase) → (is_leading p ≡ true → phase_of s ≡ p) → phase_as s p ≡ p
phase-kept s p h = by (is_leading p) h
  where
    by : (b : Bool) → (b ≡ true → phase_of s ≡ p) → cond b (phase_of s) p ≡ p
    by true h = h refl
    by false h = refl

-- a leader whose stage is its phase
pub kept-leader : (s : Leader) (x : Course) → (is_leading x.state.phase ≡ true → phase_of s.stage ≡ x.state.phase) → x.state.leader ≡ s → leads s x ≡ x
kept-leader s x stage h =
    ap (λ p. record x { state = record x.state { phase = p; timers = timers_in p x.state; leader = s } }) (phase-kept s.stage x.state.phase stage)
    ∙ (λ i. record x { state = record x.state { timers = cond (same_phase-itself x.state.phase i) x.state.timers (only_ping x.state.timers); leader = sym h i } })
