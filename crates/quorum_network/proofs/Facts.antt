-- Facts of the table and of the model, each proved in a file of its own.
use Rattle.law_names.proofs.Runs.{Envelope, Monitors, Plain, PlainFits, Reached, World, arrival}
use Rattle.law_names.proofs.Table.{AllByRecursion, Contains, Input, Me, Reaction, State, booting, reaction}
use Rattle.mon_msg.specs.declared.input.Input.TheVariants as input
use Rattle.quorum_network.proofs.Names.{IsNamed, entries_in}
use Rattle.quorum_network.proofs.Sends.{IsOwn}
use Rattle.std.proofs.Common.{Ok, Some, ℕ, ◌≡◌}

pub record Facts (ms : Monitors) : Type 0 where
  -- a message names its sender
  pub started_own : (w : World) (i at : ℕ) (me : Me) (r : Reaction) → Reached ms w → reaction me at (w.store i) (booting me.member.rank) input.Start ≡ Ok r → AllByRecursion (IsOwn me) r.sends
  pub own : (w : World) (p : Plain) (i at : ℕ) (came : Input) (me : Me) (s : State) (r : Reaction) → Reached ms w → PlainFits ms.count p
      → arrival w p ≡ Some (record { rank = i; at = at; input = came }) → w.state i ≡ Some s → (came ≡ input.Start → ⊥) → reaction me at (w.store i) s came ≡ Ok r
      → AllByRecursion (IsOwn me) r.sends
  -- entries that are sent are named
  pub named : (w : World) → Reached ms w → (e : Envelope) → Contains w.messages e → AllByRecursion IsNamed (entries_in e.message.body)
