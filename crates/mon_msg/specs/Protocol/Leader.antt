-- The rows of a leader.
use Rattle.std.specs.Prelude.{ℕ, suc, Bool, false, not, ◌&&◌, ◌||◌, ◌==◌, nat_lt, List, Option, Some, None, Result, Ok, if◌then◌else◌, [], ◌∷◌, slice_set}
use Rattle.mon_msg.specs.Protocol.Collecting.{settle, collect}
use Rattle.mon_msg.specs.Protocol.Course.{Course, ◌▸◌, ◌>>=◌, checked, dropped, nothing_more, leader_is, arm_if, disarm_if}
use Rattle.mon_msg.specs.Protocol.Entering.{bootstrap}
use Rattle.mon_msg.specs.Protocol.Found.{counts, better}
use Rattle.mon_msg.specs.Protocol.Leading.{has_queue, extend, commit}
use Rattle.mon_msg.specs.Protocol.Learning.{learn, news, news_from}
use Rattle.mon_msg.specs.Protocol.Phases.{same_phase}
use Rattle.mon_msg.specs.Protocol.Readings.{epoch_of}
use Rattle.mon_msg.specs.Protocol.Sets.{are_within}
use Rattle.mon_wire.specs.declared.parts.Told.{Told}
use Rattle.mon_msg.specs.declared.paxos.Found.{Found}
use Rattle.mon_wire.specs.declared.phase.Phase.TheVariants as phase
use Rattle.mon_wire.specs.declared.phase.Phase.{Phase}
use Rattle.mon_wire.specs.declared.phase.Timer.TheVariants as timer
use Rattle.mon_msg.specs.declared.view.Me.{Me}
use Rattle.mon_tx.specs.declared.op.Op.{Op}
use Rattle.mon_types.specs.Ranks.{has, with_rank}
use Rattle.mon_types.specs.declared.names.Which.TheVariants as which
use Rattle.mon_types.specs.declared.names.Which.{Which}

abbrev pub is_one_of : List Phase → Phase → Bool
is_one_of [] p = false
is_one_of (q ∷ qs) p = same_phase p q || is_one_of qs p

-- a message of this epoch from a member of the leader's quorum, in one of these phases
abbrev pub of_member : List Phase → (f e : ℕ) → Course → Bool
of_member phases f e x = is_one_of phases x.state.phase && e == epoch_of x.readings && has x.state.leader.quorum f

-- ---- what members accepted

-- f answered, and gave its last version
abbrev pub note_answer : (f last : ℕ) → Option Found → Course → Course
note_answer f last found x =
    let leader = x.state.leader in
    let answered = with_rank leader.answered f in
    leader_is (record leader { answered = answered; lasts = slice_set leader.lasts f last; found = found }) x

-- a pending value that f gave is one for the version after its last one
abbrev pub note_pending : (f last : ℕ) → Option Told → Course → Result Course Which
note_pending f last None x = Ok (note_answer f last x.state.leader.found x)
note_pending f last (Some told) x = do
  v ← checked which.Version (suc last)
  Ok (note_answer f last (better x.state.leader.found (record { version = v; pn = told.pn; value = told.value })) x)

abbrev pub note : (f last : ℕ) → Option Told → Course → Result Course Which
note f last told x = note_pending f last (counts told) x

module _ (me : Me) where
  abbrev pub all_answered : Course → Bool
  all_answered x = are_within me.member.monitors x.state.leader.quorum x.state.leader.answered

  abbrev pub all_accepted : Course → Bool
  all_accepted x = are_within me.member.monitors x.state.leader.quorum x.state.leader.accepted

module _ (me : Me) (now : ℕ) where
  abbrev pub hear_whole : (f last : ℕ) → Option Told → Course → Result Course Which
  hear_whole f last told x = do
    y ← note f last told x
    if all_answered me y then settle me now y else Ok y

  -- an answer under the leader's own number: its values are learned; if it isn't whole, the leader collects anew
  abbrev pub hear_answer : (f last : ℕ) → Bool → (from : ℕ)
      → List (List Op) → Option Told → Course → Result Course Which
  hear_answer f last whole from values told x = do
    y ← learn (news_from x.readings.last from) (news x.readings.last from values) x
    if whole then hear_whole f last told y else collect me now y.state.leader.quorum 0 y

  unfoldable pub hear_last : (f e : ℕ) → (pn first last : ℕ) → Bool → (from : ℕ)
      → List (List Op) → Option Told → Course → Result Course Which
  hear_last f e pn first last whole from values told x =
      let leader = x.state.leader in
      let own = x.readings.last in
      if not (of_member (phase.Collecting ∷ []) f e x) then dropped x else (
      if nat_lt leader.pn pn then collect me now leader.quorum pn x else (
      if nat_lt pn leader.pn then dropped x else (
      if nat_lt (suc own) first && nat_lt own last then bootstrap me now x else
      hear_answer f last whole from values told x)))

  -- ---- a value

  abbrev pub commit_any : Option (List Op) → Course → Result Course Which
  commit_any None x = Ok x
  commit_any (Some value) x = commit me now value x

  unfoldable pub hear_accept : (f e : ℕ) → (pn v : ℕ) → Course → Result Course Which
  hear_accept f e pn v x =
      let leader = x.state.leader in
      let phases = phase.Previous ∷ phase.Updating ∷ [] in
      let counts = of_member phases f e x && pn == leader.pn && v == suc x.readings.last in
      let y = x ▸ leader_is (record leader { accepted = with_rank leader.accepted f }) in
      if not counts then dropped x else (
      if all_accepted me y then commit_any leader.value y else Ok y)

-- ---- leases

unfoldable pub hear_lease_ack : Me → (f e : ℕ) → (last : ℕ) → Course → Result Course Which
hear_lease_ack me f e last x =
    let leader = x.state.leader in
    let acks = with_rank leader.acks f in
    if not (of_member (phase.Active ∷ []) f e x && last == x.readings.last) then dropped x else
    Ok (x
    ▸ leader_is (record leader { acks = acks })
    ▸ disarm_if (are_within me.member.monitors leader.quorum acks) timer.LeaseAck)

unfoldable pub renew : Me → (now : ℕ) → Course → Result Course Which
renew me now x =
    if not (same_phase x.state.phase phase.Active) then nothing_more x else
    Ok (x ▸ extend me now ▸ arm_if (has_queue x) now timer.Propose)
