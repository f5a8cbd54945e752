-- An event that does what the protocol says is its reaction.
use Rattle.std.proofs.Common.{◌≡◌, ℕ, List, [], Ok, Err, refl, sym, ap, subst, ◌∙◌}
use Rattle.mon_bounds.specs.Remembered.{MayRemember}
use Rattle.mon_bounds.proofs.Table.{boot_ok}
use Rattle.mon_msg.specs.Joined.{joined}
use Rattle.mon_msg.specs.Protocol.Reaction.{any_reaction, reaction}
use Rattle.mon_msg.specs.Protocol.Readings.{readings_of, shared_entries}
use Rattle.mon_msg.specs.Protocol.State.{booting}
use Rattle.mon_msg.specs.Protocol.Table.{react}
use Rattle.mon_msg.specs.declared.input.Input.{Input}
use Rattle.mon_msg.specs.declared.plan.RoleStop.TheVariants as stop
use Rattle.mon_msg.specs.declared.plan.RoleStop.{RoleStop}
use Rattle.mon_msg.specs.declared.plan.Sent.{Sent}
use Rattle.mon_msg.specs.declared.view.Me.{Me}
use Rattle.mon_tx.specs.Map.{Store}
use Rattle.mon_tx.specs.declared.op.Op.{Op}
use Rattle.svc_core.specs.declared.cache.Cache.{Cache}
use Rattle.mon_event.specs.Events.{IsReached}
use Rattle.mon_event.specs.State.{state_of}
use Rattle.mon_event.specs.declared.event.Event.{Event}
use Rattle.mon_event.specs.declared.state.State.{State as Held}
use Rattle.mon_core.specs.Core.{Monitor}
use Rattle.mon_core.specs.Reacts.{Reacts}
use Rattle.mon_core.specs.Rows.{AnswersInput, IsReady}

module _ (me : Me) (m : Store) (now : ℕ) (came : Input) (begun : Event) where
  pub reacts : (done : Event) → IsReached (readings_of m) (react me (shared_entries m) now (readings_of m) (state_of begun.state) came) done
      → (tx : List Op) → tx ≡ joined done.tx → (out : List Sent) → out ≡ done.out
      → reaction me now m (state_of begun.state) came ≡ Ok (record { transaction = tx; sends = out; state = state_of done.state })
  reacts done r tx joins out taken =
      ap any_reaction r.wanted_is
      ∙ (λ i. Ok (record {
        transaction = sym (joins ∙ ap joined r.under_way.encoded) i;
        sends = sym (taken ∙ r.under_way.out) i;
        state = sym r.under_way.state i;
      }))

  pub stops : (kept : Cache) (done : Event) (new : Monitor) (why : RoleStop) → AnswersInput me m now begun came done (Err why)
      → Reacts (record { me = me; state = state_of begun.state; cache = kept }) new m now came (Err why)
  stops kept done new stop.OutOfMemory h = tt
  stops kept done new (stop.Spent which) h = ap any_reaction h

-- a monitor that isn't started is ready for an event
pub rests_ready : (me : Me) (s : Held) → state_of s ≡ booting me.member.rank
    → (e : Event) → e ≡ record { tx = []; out = []; state = s } → IsReady me e
rests_ready me s is e begun =
    subst (IsReady me) (sym begun) (record { unwritten = refl; unsent = refl; remembers = subst (MayRemember me) (sym is) (boot_ok me) })
