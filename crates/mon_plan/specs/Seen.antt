-- What a role sees of the other roles.
use Rattle.std.specs.Prelude.{◌≡◌, ℕ, true, if◌then◌else◌}
use Rattle.mon_lease.specs.Lease.{readable}
use Rattle.mon_msg.specs.Protocol.Course.{Course}
use Rattle.mon_msg.specs.Protocol.Phases.{phase_of, is_leading, is_peon}
use Rattle.mon_msg.specs.Protocol.Reads.{is_standing}
use Rattle.mon_msg.specs.Protocol.Readings.{Readings}
use Rattle.mon_msg.specs.Protocol.State.{State, quorum_of, lease_of}
use Rattle.mon_msg.specs.declared.view.Me.{Me}
use Rattle.mon_msg.specs.declared.view.View.{View}

-- the leader of its quorum, or itself
abbrev pub leader_of : (rank : ℕ) → State → ℕ
leader_of rank s = if is_peon s.phase then s.peon.leader else rank

pub record IsSeen (me : Me) (now : ℕ) (w : Readings) (s : State) (view : View) : Type 0 where
  pub phase : view.phase ≡ s.phase
  pub leader : view.leader ≡ leader_of me.member.rank s
  pub quorum : view.quorum ≡ quorum_of s
  pub standing : view.standing ≡ is_standing me now s
  pub readable : view.readable ≡ readable w.last me.member.monitors (lease_of s) now
  -- a leader's stage is its phase
  pub stage : is_leading s.phase ≡ true → phase_of s.leader.stage ≡ s.phase

-- An event under way before a role's call: the store's readers return this, the role remembers that, and the other roles are
-- seen so.
pub record IsMet {S : Type 0} (me : Me) (now : ℕ) (w : Readings) (view : View) (role_in : State → S) (remembered : S)
    (x : Course) : Type 0 where
  pub readings : x.readings ≡ w
  pub role : role_in x.state ≡ remembered
  pub seen : IsSeen me now x.readings x.state view
