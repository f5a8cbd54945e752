-- A plan puts in what its role took out of what the monitor remembers.
use Rattle.std.proofs.Common.{◌≡◌, ℕ, List, Result, ◌++◌, refl, sym, ap, subst, ◌∙◌}
use Rattle.mon_msg.specs.Protocol.Changes.{Change}
use Rattle.mon_msg.specs.Protocol.Course.{Course, change_all, timers_in}
use Rattle.mon_msg.specs.Protocol.Readings.{Readings, readings_of}
use Rattle.mon_msg.specs.Protocol.State.{State, no_clients, start_leader}
use Rattle.mon_msg.specs.declared.clients.Clients.{Clients}
use Rattle.mon_msg.specs.declared.election.Elector.{Elector}
use Rattle.mon_msg.specs.declared.paxos.Leader.{Leader}
use Rattle.mon_msg.specs.declared.paxos.Peon.{Peon}
use Rattle.mon_msg.specs.declared.election.Prober.{Prober}
use Rattle.mon_msg.specs.declared.synchronization.Provider.{Provider}
use Rattle.mon_msg.specs.declared.synchronization.Requester.{Requester}
use Rattle.mon_msg.specs.declared.plan.Next.TheVariants as next
use Rattle.mon_msg.specs.declared.plan.Next.{Next}
use Rattle.mon_msg.specs.declared.plan.Plan.{Plan}
use Rattle.mon_msg.specs.declared.plan.RoleStop.{RoleStop}
use Rattle.mon_msg.specs.declared.view.Me.{Me}
use Rattle.mon_tx.specs.Map.{Store}
use Rattle.mon_plan.specs.Plans.{act, changed, stands, phase_as, arm_all, sending}
use Rattle.mon_plan.proofs.Planning.{changed-is}
use Rattle.mon_core.specs.Acts.{Carried}
use Rattle.mon_event.specs.Events.{IsCarried, IsUnderWay, Reaches, remembering}
use Rattle.mon_event.specs.State.{state_of}
use Rattle.mon_event.specs.declared.event.Event.{Event}

-- A role's part may be taken out of what its monitor remembers: a plan puts the role's new state in, whatever the
-- monitor's phase is by then and whatever it has written.
abbrev pub Regains : {S : Type 0} → (put : S → State → State) → (whole left : State) → Type 0
Regains {S} put whole left = (s : S) (n : Next) (cs : List Change) (x : Course) → x.state ≡ whole →
    remembering put s (changed cs (stands n (record x { state = left }))) ≡ remembering put s (changed cs (stands n x))

module _ {S : Type 0} (put : S → State → State) (s : S) (cs : List Change) where
  written : (y z : Course) → remembering put s (change_all cs y) ≡ remembering put s (change_all cs z) → remembering put s (changed cs y) ≡ remembering put s (changed cs z)
  written y z e = ap (remembering put s) (changed-is cs y) ∙ e ∙ sym (ap (remembering put s) (changed-is cs z))

abbrev pub put_prober : Prober → State → State
put_prober prober s = record s { prober = prober }

abbrev pub put_elector : Elector → State → State
put_elector elector s = record s { elector = elector }

abbrev pub put_peon : Peon → State → State
put_peon peon s = record s { peon = peon }

abbrev pub put_provider : Provider → State → State
put_provider provider s = record s { provider = provider }

abbrev pub put_requester : Requester → State → State
put_requester requester s = record s { requester = requester }

abbrev pub put_clients : Clients → State → State
put_clients clients s = record s { clients = clients }

abbrev pub put_leader : Leader → State → State
put_leader leader s = let p = phase_as leader.stage s.phase in record s { phase = p; timers = timers_in p s; leader = leader }

without_clients : (s : Clients) (n : Next) (cs : List Change) (x : Course)
    → remembering put_clients s (change_all cs (stands n (record x { state = record x.state { clients = no_clients } }))) ≡ remembering put_clients s (change_all cs (stands n x))
without_clients s next.Stay cs x = refl
without_clients s next.Bootstrap cs x = refl
without_clients s next.Elect cs x = refl
without_clients s next.Electing cs x = refl
without_clients s (next.Win quorum) cs x = refl
without_clients s (next.Follow leader quorum) cs x = refl
without_clients s (next.FullSync from) cs x = refl
without_clients s (next.RecentSync from) cs x = refl
without_clients s (next.Begin value o) cs x = refl

without_leader : (l : Leader) (n : Next) (cs : List Change) (x : Course)
    → remembering put_leader l (change_all cs (stands n (record x { state = record x.state { leader = start_leader } }))) ≡ remembering put_leader l (change_all cs (stands n x))
without_leader l next.Stay cs x = refl
without_leader l next.Bootstrap cs x = refl
without_leader l next.Elect cs x = refl
without_leader l next.Electing cs x = refl
without_leader l (next.Win quorum) cs x = refl
without_leader l (next.Follow leader quorum) cs x = refl
without_leader l (next.FullSync from) cs x = refl
without_leader l (next.RecentSync from) cs x = refl
without_leader l (next.Begin value o) cs x = refl

pub clients_taken : (whole left : State) → left ≡ record whole { clients = no_clients } → Regains put_clients whole left
clients_taken whole left taken = λ s n cs x is.
    (λ i. remembering put_clients s (changed cs (stands n (record x { state = (taken ∙ ap (λ (w : State). record w { clients = no_clients }) (sym is)) i }))))
    ∙ written put_clients s cs (stands n (record x { state = record x.state { clients = no_clients } })) (stands n x) (without_clients s n cs x)

pub leader_taken : (whole left : State) → left ≡ record whole { leader = start_leader } → Regains put_leader whole left
leader_taken whole left taken = λ l n cs x is.
    (λ i. remembering put_leader l (changed cs (stands n (record x { state = (taken ∙ ap (λ (w : State). record w { leader = start_leader }) (sym is)) i }))))
    ∙ written put_leader l cs (stands n (record x { state = record x.state { leader = start_leader } })) (stands n x) (without_leader l n cs x)

-- So a plan that is carried out after its role has taken its part is carried out from what the monitor remembered.
module _ {S : Type 0} (put : S → State → State) (old lent : Event) (tx : lent.tx ≡ old.tx) (out : lent.out ≡ old.out)
    (regains : Regains put (state_of old.state) (state_of lent.state)) (p : Plan S) where
  abbrev as_lent : Course → Course
  as_lent x = record x { state = state_of lent.state }

  under_way : (w : Readings) (x : Course) → IsUnderWay w old x → IsUnderWay w lent (as_lent x)
  under_way w x u = record { readings = u.readings; fit = u.fit; encoded = tx ∙ u.encoded; out = out ∙ u.out; state = refl }

  pub carried_whole : (new : Event) (n : Next) → IsCarried (remembering put) lent p new n → IsCarried (remembering put) old p new n
  carried_whole new n k = record {
    next = k.next;
    written = k.written ∙ ap (λ ops. ops ++ p.tx) tx;
    done = λ cs fit is w x u.
        subst (λ (z : Course). IsUnderWay w new (sending p.out (arm_all p.timers z))) (regains p.state p.next cs x (sym u.state)) (k.done cs fit is w (as_lent x) (under_way w x u));
  }

  pub goes_whole : (me : Me) (m : Store) (now : ℕ) (new : Event) (result : Result Unit RoleStop)
      → Carried put me m now lent p new result → Carried put me m now old p new result
  goes_whole me m now new result f = λ cs fit is x u.
      subst (λ (z : Course). Reaches (readings_of m) (act me now p.next (sending p.out (arm_all p.timers z))) new result)
      (regains p.state p.next cs x (sym u.state)) (f cs fit is (as_lent x) (under_way (readings_of m) x u))
