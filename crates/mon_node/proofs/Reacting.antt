-- What a core returns, and the result of the iteration of its input.
use Rattle.std.proofs.Common.{◌≡◌, ℕ, List, Option, Some, Ok, Err, subst}
use Rattle.std.specs.List.{AllByRecursion}
use Rattle.mon_bounds.specs.Fitting.{MaySend}
use Rattle.mon_core.specs.Core.{Monitor}
use Rattle.mon_core.specs.Reacts.{Reacts}
use Rattle.mon_msg.specs.declared.plan.RoleStop.TheVariants as stop
use Rattle.mon_msg.specs.declared.plan.RoleStop.{RoleStop}
use Rattle.mon_core.specs.declared.reaction.Reaction as core
use Rattle.mon_frag.specs.declared.partial.Partial.{Partial}
use Rattle.mon_link.specs.Clocks.{Readings}
use Rattle.mon_link.specs.Links.{Observed}
use Rattle.mon_msg.specs.Protocol.Reaction.{Reaction, reaction}
use Rattle.mon_msg.specs.declared.input.Input.{Input}
use Rattle.mon_msg.specs.declared.view.Me.{Me}
use Rattle.mon_store.specs.StoreView.{StoreView}
use Rattle.mon_node.specs.Ends.{of_core}
use Rattle.mon_node.specs.Hearing.{at_time}
use Rattle.mon_node.specs.Lasting.{BothVisible, Leave, PassIteration}
use Rattle.mon_node.specs.Nodes.{Disks, outside_of}
use Rattle.mon_node.specs.Serving.{EndsAt}
use Rattle.mon_node.specs.Iterations.{reaction_to}
use Rattle.mon_node.proofs.Passing.{wants_pass, stops_pass}
use Rattle.mon_node.proofs.Taking.{refusals, stops}

module _ (old new : Monitor) (store_view : StoreView) (now : ℕ) (came : Input) (me : Me) (own : old.me ≡ me) where
  abbrev reaction_from : core.Reaction → Reaction
  reaction_from r = record { transaction = r.tx; sends = r.out; state = new.state }

  pub reacts_so : (r : core.Reaction) (next : ℕ) → Reacts old new store_view.kv now came (Ok r)
      → reaction_to me (record { state = old.state; store = store_view; next = next }) (at_time now came) ≡ Ok (reaction_from r)
  reacts_so r next h = subst (λ (x : Me). reaction x now store_view.kv old.state came ≡ Ok (reaction_from r)) own h.reacts

  pub may_go : (r : core.Reaction) → Reacts old new store_view.kv now came (Ok r) → AllByRecursion (MaySend me) r.out
  may_go r h = subst (λ (x : Me). AllByRecursion (MaySend x) r.out) own h.bounded.sends

  pub core_ends : (s : RoleStop) (next : ℕ) (parts : List Partial) (clock : Option Readings) (link : Option Observed) → Reacts old new store_view.kv now came (Err s)
      → EndsAt me (record { came = Ok (Some (at_time now came)); serving = record { node = record { state = old.state; store = store_view; next = next }; outside = outside_of parts clock link } }) (of_core s) clock link
  core_ends stop.OutOfMemory next parts clock link h = refusals me (record { node = record { state = old.state; store = store_view; next = next }; outside = outside_of parts clock link }) (at_time now came)
  core_ends (stop.Spent which) next parts clock link h =
      stops me (record { node = record { state = old.state; store = store_view; next = next }; outside = outside_of parts clock link }) (at_time now came) which
      (subst (λ (x : Me). reaction x now store_view.kv old.state came ≡ Err which) own h)

  pub core_passes : (T : Type 0) (s : RoleStop) (next : ℕ) (parts : List Partial) (clock : Option Readings) (link : Option Observed) (d : Disks) → Reacts old new store_view.kv now came (Err s) → BothVisible d → Leave d (λ x. x ≡ store_view)
      → PassIteration {T = T} me (record { came = Ok (Some (at_time now came)); serving = record { node = record { state = old.state; store = store_view; next = next }; outside = outside_of parts clock link } }) (Err (of_core s)) link d d
  core_passes T stop.OutOfMemory next parts clock link d h both_visible still = wants_pass me (record { node = record { state = old.state; store = store_view; next = next }; outside = outside_of parts clock link }) (at_time now came) T d both_visible still
  core_passes T (stop.Spent which) next parts clock link d h both_visible still =
      stops_pass me (record { node = record { state = old.state; store = store_view; next = next }; outside = outside_of parts clock link }) (at_time now came) T d both_visible still which
      (subst (λ (x : Me). reaction x now store_view.kv old.state came ≡ Err which) own h)
