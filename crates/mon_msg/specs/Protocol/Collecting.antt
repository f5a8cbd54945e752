-- The acts of a leader that collects what its quorum accepted.
use Rattle.std.specs.Prelude.{ℕ, suc, Bool, ◌==◌, nat_lt, List, Option, Some, None, Result, Ok, if◌then◌else◌, [], ◌∷◌, max, slice_index_or, flat_map}
use Rattle.mon_msg.specs.Protocol.Changes.{Numbers}
use Rattle.mon_msg.specs.Protocol.Course.{Course, ◌▸◌, ◌>>=◌, checked, change, say, leader_is, arm, disarm, in_phase}
use Rattle.mon_msg.specs.Protocol.Leading.{is_alone, be_active, begin}
use Rattle.mon_msg.specs.Protocol.Length.{fits}
use Rattle.mon_msg.specs.Protocol.Readings.{Readings, or_zero, epoch_of, promise_of}
use Rattle.mon_msg.specs.Protocol.Records.{pending, run_from, longest}
use Rattle.mon_msg.specs.Protocol.Sending.{members, message_to, send_each}
use Rattle.mon_msg.specs.Protocol.Sets.{only}
use Rattle.mon_msg.specs.Protocol.State.{start_leader}
use Rattle.mon_wire.specs.declared.body.Body.TheVariants as body
use Rattle.mon_msg.specs.declared.paxos.Found.{Found}
use Rattle.mon_msg.specs.declared.paxos.Leader.{Leader}
use Rattle.mon_msg.specs.declared.paxos.LeaderStage.TheVariants as stage
use Rattle.mon_wire.specs.declared.phase.Phase.TheVariants as phase
use Rattle.mon_wire.specs.declared.phase.Timer.TheVariants as timer
use Rattle.mon_msg.specs.declared.plan.Sent.{Sent}
use Rattle.mon_msg.specs.declared.view.Me.{Me}
use Rattle.mon_tx.specs.Decision.{Cell}
use Rattle.mon_tx.specs.declared.op.Op.{Op}
use Rattle.mon_types.specs.Proposal.{next_number}
use Rattle.mon_types.specs.declared.names.Which.TheVariants as which
use Rattle.mon_types.specs.declared.names.Which.{Which}

-- ---- members that lack versions

-- the values of the versions after one that a member reported, as many as one message among n monitors takes
unfoldable pub missed : (n : ℕ) → (records : ℕ → Cell) → (last told : ℕ) → List (List Op)
missed n records last told =
    longest (λ values. fits n (body.Commit (suc told) values)) (run_from records last (suc told))

module _ (me : Me) where
  abbrev pub commits_with : (epoch told : ℕ) → List (List Op) → (to : ℕ) → List Sent
  commits_with epoch told [] to = []
  commits_with epoch told (value ∷ values) to = message_to me epoch (body.Commit (suc told) (value ∷ values)) to ∷ []

  -- a member whose reported last version is lower gets the values after it
  abbrev pub commits_to : Readings → (lasts : List ℕ) → (to : ℕ) → List Sent
  commits_to w lasts to =
      let told = slice_index_or lasts to 0 in
      let values = missed me.member.monitors w.record_of w.last told in
      if nat_lt told w.last then commits_with (epoch_of w) told values to else []

  abbrev pub catch_up : List ℕ → Course → Course
  catch_up ks x = say (flat_map (commits_to x.readings x.state.leader.lasts) ks) x

-- ---- collecting

module _ (me : Me) (now : ℕ) where
  abbrev pub begin_found : Option Found → Course → Result Course Which
  begin_found None x = Ok (be_active me now x)
  begin_found (Some found) x =
      if found.version == suc x.readings.last
      then begin me now stage.Previous found.value None x
      else Ok (be_active me now x)

  -- all of the quorum answered: a value that was found for the next version comes first
  unfoldable pub settle : Course → Result Course Which
  settle x =
      x
      ▸ disarm timer.Collect
      ▸ catch_up me (members me x.state.leader.quorum)
      ▸ leader_is (record x.state.leader { found = None })
      ▸ begin_found x.state.leader.found

-- the state of a leader of this quorum that begins to collect under a number: it has its own answer alone
abbrev pub collector : Me → List Bool → (pn : ℕ) → Readings → Leader
collector me q pn w =
    record start_leader { quorum = q; pn = pn; answered = only me.member.rank; found = pending w }

module _ (me : Me) (now : ℕ) where
  -- the leader makes this number its own, and asks the quorum what was accepted
  unfoldable pub collect_with : List Bool → (pn : ℕ) → Course → Course
  collect_with q pn x =
      x
      ▸ change (Numbers pn)
      ▸ in_phase phase.Collecting
      ▸ leader_is (collector me q pn x.readings)
      ▸ send_each me (members me q) (body.Collect pn x.readings.first x.readings.last)
      ▸ arm now timer.Collect

  unfoldable pub collect : List Bool → (above : ℕ) → Course → Result Course Which
  collect q above x = do
    pn ← checked which.Pn (next_number (or_zero x.readings.last_pn) (max (promise_of x.readings) above) me.member.rank)
    if is_alone me q then settle me now (collect_with q pn x) else Ok (collect_with q pn x)

  -- it leads this quorum
  unfoldable pub reign : List Bool → Course → Result Course Which
  reign q x = x ▸ in_phase phase.Collecting ▸ send_each me (members me q) (body.Victory q) ▸ collect q 0
