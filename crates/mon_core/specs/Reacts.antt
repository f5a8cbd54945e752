-- What a core answers to an input, and what it is from then on.
use Rattle.std.specs.List.{AllByRecursion}
use Rattle.std.specs.Prelude.{◌≡◌, ℕ, Result, Ok, Err}
use Rattle.mon_bounds.specs.Fitting.{IsBounded, IsNamed, entries_in}
use Rattle.mon_msg.specs.Protocol.Reaction.{reaction}
use Rattle.mon_msg.specs.Protocol.Readings.{readings_of}
use Rattle.mon_msg.specs.declared.input.Input.{Input}
use Rattle.mon_msg.specs.declared.plan.RoleStop.TheVariants as stop
use Rattle.mon_msg.specs.declared.plan.RoleStop.{RoleStop}
use Rattle.mon_msg.specs.declared.plan.Sent.TheVariants as sent
use Rattle.mon_msg.specs.declared.plan.Sent.{Sent}
use Rattle.mon_tx.specs.Map.{Store, apply}
use Rattle.mon_wire.specs.declared.request.Service.{Service}
use Rattle.svc_core.specs.Cache.{Follows, known, known_after}
use Rattle.mon_core.specs.Core.{Monitor}
use Rattle.mon_core.specs.Known.{known_by_then}
use Rattle.mon_core.specs.declared.reaction.Reaction.{Reaction}

-- the entries of a store in a message are named as they must be
abbrev pub SendsNamed : Sent → Type 0
SendsNamed (sent.Message to m) = AllByRecursion IsNamed (entries_in m.body)
SendsNamed (sent.Reply to r) = Unit {0}

-- The protocol's reaction is answered: what is written and sent is neither too long nor malformed. What was kept of the
-- services' maps follows what is written; before that a map that is shown is read.
pub record IsReaction (old new : Monitor) (m : Store) (now : ℕ) (came : Input) (r : Reaction) : Type 0 where
  pub me : new.me ≡ old.me
  pub reacts : reaction old.me now m old.state came ≡
      Ok (record { transaction = r.tx; sends = r.out; state = new.state })
  pub bounded : IsBounded old.me (record { transaction = r.tx; sends = r.out; state = new.state })
  pub named : AllByRecursion SendsNamed r.out
  pub known : (s : Service)
      → known new.cache s ≡ known_after s r.tx (known_by_then old.me now (readings_of m) old.state came s
      (known old.cache s))
  pub follows : Follows new.cache (readings_of (apply r.tx m))

-- A core's answer is the reaction, or names the number that runs out, or reports that memory ran out.
abbrev pub Reacts : (old new : Monitor) → Store → (now : ℕ) → Input → Result Reaction RoleStop → Type 0
Reacts old new m now came (Ok r) = IsReaction old new m now came r
Reacts old new m now came (Err stop.OutOfMemory) = Unit {0}
Reacts old new m now came (Err (stop.Spent which)) = reaction old.me now m old.state came ≡ Err which
