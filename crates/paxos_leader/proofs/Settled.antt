-- Settling at an event under way.
use Rattle.std.proofs.Common.{◌≡◌, ◌≢◌, ℕ, suc, [], Some, None, Ok, refl, sym, ap, subst, ◌∙◌, eq-eqb, ne_eqb}
use Rattle.std.specs.Prelude.{flat_map}
use Rattle.mon_msg.specs.Protocol.Collecting.{commits_to, begin_found, settle}
use Rattle.mon_msg.specs.Protocol.Course.{Course, ◌▸◌, leader_is, say}
use Rattle.mon_msg.specs.Protocol.Leading.{be_active, begin}
use Rattle.mon_msg.specs.Protocol.Phases.{is_leading}
use Rattle.mon_msg.specs.Protocol.Readings.{Readings}
use Rattle.mon_msg.specs.Protocol.Sending.{members}
use Rattle.mon_msg.specs.declared.paxos.Found.{Found}
use Rattle.mon_msg.specs.declared.paxos.Leader.{Leader}
use Rattle.mon_msg.specs.declared.paxos.LeaderStage.TheVariants as stage
use Rattle.mon_msg.specs.declared.view.Me.{Me}
use Rattle.mon_plan.proofs.Planning.{sending-is}
use Rattle.paxos_leader.specs.Drafts.{IsCollecting, IsHere, under_way}
use Rattle.paxos_leader.specs.Parts.{commits, without_found}
use Rattle.paxos_leader.proofs.Going.{so_far, under_way-is}
use Rattle.paxos_leader.proofs.Settling.{caught_up, settle-is}

module _ (me : Me) (now e : ℕ) (w : Readings) (l : Leader) (y : Course) (b : IsCollecting e w y) (r : y.state.leader ≡ l) where
  abbrev pub after : Course
  after = under_way [] (commits me e w l) (without_found l) y

  pub settled-here : IsHere e w.last after
  settled-here =
      let here : IsHere e w.last (so_far [] (commits me e w l) (without_found l) y) = record { epoch = b.epoch; last = b.last; leads = ap is_leading b.phase } in
      subst (IsHere e w.last) (sym (under_way-is [] (commits me e w l) (without_found l) y)) here

  pub settles : settle me now y ≡ begin_found me now l.found after
  settles =
      settle-is me now y b.phase
      ∙ (λ i. begin_found me now (r i).found (y ▸ say (flat_map (commits_to me y.readings (r i).lasts) (members me (r i).quorum)) ▸ leader_is (without_found (r i))))
      ∙ ap (λ ms. begin_found me now l.found (y ▸ say ms ▸ leader_is (without_found l))) (caught_up me e w y.readings b.epoch b.last b.records l.lasts (members me l.quorum))
      ∙ ap (λ z. begin_found me now l.found (leader_is (without_found l) z)) (sym (sending-is (commits me e w l) y))

module _ (me : Me) (now last : ℕ) (found : Found) (y : Course) (h : y.readings.last ≡ last) where
  pub found-other : found.version ≢ suc last → begin_found me now (Some found) y ≡ Ok (be_active me now y)
  found-other other = let t = ne_eqb found.version (suc y.readings.last) (λ is. other (is ∙ ap suc h)) in rw t refl

  pub found-next : found.version ≡ suc last → begin_found me now (Some found) y ≡ begin me now stage.Previous found.value None y
  found-next is = let t = eq-eqb found.version (suc y.readings.last) (is ∙ sym (ap suc h)) in rw t refl
