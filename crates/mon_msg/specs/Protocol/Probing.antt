-- The rows of probing.
use Rattle.std.specs.Prelude.{ℕ, ◌+◌, Bool, not, ◌&&◌, nat_le, nat_lt, List, Result, Ok, if◌then◌else◌}
use Rattle.mon_msg.specs.Protocol.Course.{Course, ◌▸◌, dropped, prober_is}
use Rattle.mon_msg.specs.Protocol.Entering.{elect}
use Rattle.mon_msg.specs.Protocol.Phases.{same_phase}
use Rattle.mon_msg.specs.Protocol.Sending.{send}
use Rattle.mon_msg.specs.Protocol.State.{quorum_of}
use Rattle.mon_msg.specs.Protocol.Synchronizing.{full_sync, recent_sync}
use Rattle.mon_wire.specs.declared.body.Body.TheVariants as body
use Rattle.mon_wire.specs.declared.phase.Phase.TheVariants as phase
use Rattle.mon_msg.specs.declared.view.Me.{Me}
use Rattle.mon_types.specs.Ranks.{with_rank, count_of, is_majority}
use Rattle.mon_types.specs.declared.names.Which.{Which}

-- the answer to a probe: the own quorum and the versions that are kept; a marked monitor doesn't answer
unfoldable pub hear_probe : Me → (f : ℕ) → Course → Result Course Which
hear_probe me f x =
    let w = x.readings in
    if w.marked then dropped x else Ok (send me f (body.ProbeReply (quorum_of x.state) w.first w.last) x)

-- the most versions that a monitor may lack if it is to join an election
abbrev pub lag : ℕ
lag = 10

module _ (me : Me) (now : ℕ) where
  -- f is outside of a quorum too; a majority of such monitors elects
  abbrev pub join_outside : (f : ℕ) → Course → Result Course Which
  join_outside f x =
      let outside = with_rank x.state.prober.outside f in
      let y = x ▸ prober_is (record { outside = outside }) in
      if is_majority me.member.monitors outside then elect me now y else Ok y

  -- a marked monitor takes a whole copy of one that reaches its floor
  abbrev pub copy_again : (f last : ℕ) → Course → Result Course Which
  copy_again f last x =
      if nat_le 1 last && nat_le x.readings.floor last then Ok (full_sync me now f x) else dropped x

  unfoldable pub hear_probe_reply : (f : ℕ) → (quorum : List Bool) → (first last : ℕ) → Course → Result Course Which
  hear_probe_reply f quorum first last x =
      let w = x.readings in
      if not (same_phase x.state.phase phase.Probing) then dropped x else (
      if w.marked then copy_again f last x else (
      if nat_lt w.last first && nat_lt 1 first then Ok (full_sync me now f x) else (
      if nat_lt (w.last + lag) last then Ok (recent_sync me now f x) else (
      if nat_lt 0 (count_of quorum) then elect me now x else join_outside f x))))
