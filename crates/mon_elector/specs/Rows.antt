-- The inputs of an elector, and what is known when its rows and its act are proved.
use Rattle.std.specs.Prelude.{◌≡◌, ℕ, suc, ◌≤◌, ◌<◌, ◌^◌, Bool, true, false, List, Option, Some, None, Result, Ok, Err, if◌then◌else◌, [], ◌∷◌}
use Rattle.election_rules.specs.declared.rule.Rule.{Rule}
use Rattle.election_rules.specs.declared.scores.Scores.{Scores}
use Rattle.mon_msg.specs.Protocol.Changes.{Epoch, encoded}
use Rattle.mon_msg.specs.Protocol.Course.{Course, elector_is}
use Rattle.mon_msg.specs.Protocol.Entering.{scores_count}
use Rattle.mon_msg.specs.Protocol.Readings.{Readings, epoch_of, readings_of}
use Rattle.mon_msg.specs.declared.election.Elector.{Elector}
use Rattle.mon_msg.specs.declared.input.Input.TheVariants as input
use Rattle.mon_msg.specs.declared.input.Input.{Input}
use Rattle.mon_msg.specs.declared.plan.Next.TheVariants as next
use Rattle.mon_msg.specs.declared.plan.Plan.{Plan}
use Rattle.mon_msg.specs.declared.plan.RoleStop.TheVariants as stop
use Rattle.mon_msg.specs.declared.plan.RoleStop.{RoleStop}
use Rattle.mon_msg.specs.declared.view.Me.{Me}
use Rattle.mon_msg.specs.declared.view.View.{View}
use Rattle.mon_plan.specs.Plans.{PlansRow}
use Rattle.mon_plan.specs.Seen.{IsMet}
use Rattle.mon_types.specs.declared.names.Which.TheVariants as which
use Rattle.mon_types.specs.declared.names.Which.{Which}
use Rattle.mon_wire.specs.declared.body.Body.TheVariants as body
use Rattle.mon_wire.specs.declared.body.Body.{Body}
use Rattle.mon_wire.specs.declared.phase.Timer.TheVariants as timer
use Rattle.mon_wire.specs.declared.phase.Timer.{Timer}
use Rattle.mon_elector.specs.declared.here.Here.{Here}

-- what monitors say to each other of elections and of their connections
abbrev pub is_role_message : Body → Bool
is_role_message (body.Propose table) = true
is_role_message body.Ack = true
is_role_message (body.Victory quorum) = true
is_role_message (body.Ping table) = true
is_role_message (body.PingReply table) = true
is_role_message b = false

abbrev pub is_rung : Timer → Bool
is_rung timer.Election = true
is_rung timer.Ping = true
is_rung t = false

-- the inputs of an elector
abbrev pub is_input : Input → Bool
is_input input.Start = false
is_input (input.Deliver m) = is_role_message m.body
is_input (input.Timer t) = is_rung t
is_input (input.Client session r) = false

-- a call's result is this row of the table, if the store's readers return w, and the elector sees `view` and remembers
-- s
abbrev pub PlansElection : Me → (now : ℕ) → Readings → View → Elector → (Course → Result Course Which) →
    Result (Plan Elector) RoleStop → Type 0
PlansElection me now w view s row result =
    PlansRow me now elector_is (IsMet me now w view (λ state. state.elector) s) row result

-- a row, by what an elector reads beside its message
abbrev pub ByRow : Here → (Course → Result Course Which) → Result (Plan Elector) RoleStop → Type 0
ByRow here row result =
    PlansElection here.me.now here.time (readings_of here.stored.now) here.view.now here.state.now row result

-- An event under way in which an election is called, in epoch e, by an elector that remembers s.
pub record IsCalled (e : ℕ) (s : Elector) (x : Course) : Type 0 where
  pub epoch : epoch_of x.readings ≡ e
  pub role : x.state.elector ≡ s

-- the own table, if scores count
abbrev pub sent_table : Rule → Scores → Option Scores
sent_table rule scores = if scores_count rule then Some scores else None

-- The next epoch begins, and the monitor wins it with those that deferred to it, unless the epoch would pass 2^62.
abbrev pub Wins : (epoch : ℕ) → Elector → (acked : List Bool) → Result (Plan Elector) RoleStop → Type 0
Wins epoch s acked (Ok p) =
    (suc epoch ≤ 2 ^ 62) × (p ≡ record {
      tx = encoded (Epoch (suc epoch) ∷ []);
      out = [];
      timers = [];
      state = s;
      next = next.Win acked;
    })
Wins epoch s acked (Err stop.OutOfMemory) = Unit {0}
Wins epoch s acked (Err (stop.Spent spent)) = (spent ≡ which.Epoch) × (2 ^ 62 < suc epoch)
