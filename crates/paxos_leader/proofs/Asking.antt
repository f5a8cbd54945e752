-- Asking a quorum at an event under way.
use Rattle.std.proofs.Common.{◌≡◌, ℕ, ◌≤◌, ◌<◌, ◌^◌, Bool, true, false, List, [], ◌∷◌, map, Ok, Err, sym, ap, ◌∙◌, subst}
use Rattle.mon_msg.specs.Protocol.Changes.{Numbers}
use Rattle.mon_msg.specs.Protocol.Collecting.{settle, collector, collect_with, collect}
use Rattle.mon_msg.specs.Protocol.Course.{Course, ◌▸◌, leader_is, say}
use Rattle.mon_msg.specs.Protocol.Readings.{Readings}
use Rattle.mon_msg.specs.Protocol.Sending.{members, message_to}
use Rattle.mon_msg.specs.Protocol.Sets.{is_empty}
use Rattle.mon_msg.specs.declared.view.Me.{Me}
use Rattle.mon_types.specs.declared.names.Which.TheVariants as which
use Rattle.mon_wire.specs.declared.body.Body.TheVariants as body
use Rattle.mon_wire.specs.declared.phase.Timer.TheVariants as timer
use Rattle.mon_plan.specs.Plans.{changed}
use Rattle.mon_plan.proofs.Planning.{sending-is}
use Rattle.paxos_leader.specs.Drafts.{IsAsking, IsCollecting, armed_now, under_way}
use Rattle.paxos_leader.specs.Parts.{made, asked}
use Rattle.paxos_leader.proofs.Going.{finish, so_far, under_way-is}
use Rattle.paxos_leader.proofs.Settling.{number, collect-spent, collect-alone, collect-others, questions, collect_with-is, collect_with-as, settle-armed}

module _ (me : Me) (now : ℕ) (quorum : List Bool) (above e : ℕ) (w : Readings) (y : Course) (b : IsAsking e w y) where
  same_number : number me now quorum above y ≡ made me above w
  same_number = ap (made me above) b.kept

  pub collect-over : 2 ^ 62 < made me above w → collect me now quorum above y ≡ Err which.Pn
  collect-over over = collect-spent me now quorum above y (subst (λ n. 2 ^ 62 < n) (sym same_number) over)

  module _ (pn : ℕ) (is : pn ≡ made me above w) (short : made me above w ≤ 2 ^ 62) where
    short_there : number me now quorum above y ≤ 2 ^ 62
    short_there = subst (λ n. n ≤ 2 ^ 62) (sym same_number) short

    number_is : number me now quorum above y ≡ pn
    number_is = same_number ∙ sym is

    same_questions : questions me now quorum pn y b.phase ≡ asked me quorum pn e w
    same_questions = λ i. map (message_to me (b.epoch i) (body.Collect pn (ap (λ (r : Readings). r.first) b.kept i) (ap (λ (r : Readings). r.last) b.kept i))) (members me quorum)

    pub collects : is_empty (members me quorum) ≡ false
        → collect me now quorum above y ≡ Ok (finish (Numbers pn ∷ []) (asked me quorum pn e w) (armed_now now timer.Collect ∷ []) (collector me quorum pn w) y)
    collects others =
        collect-others me now quorum above y short_there others
        ∙ ap (λ n. Ok (collect_with me now quorum n y)) number_is
        ∙ ap Ok (collect_with-is me now quorum pn y b.phase
        ∙ (λ i. finish (Numbers pn ∷ []) (same_questions i) (armed_now now timer.Collect ∷ []) (ap (collector me quorum pn) b.kept i) y))

    abbrev pub asking : Course
    asking = under_way (Numbers pn ∷ []) (asked me quorum pn e w) (collector me quorum pn w) y

    pub collects-alone : is_empty (members me quorum) ≡ true → collect me now quorum above y ≡ settle me now asking
    collects-alone alone =
        collect-alone me now quorum above y short_there alone
        ∙ ap (λ n. settle me now (collect_with me now quorum n y)) number_is
        ∙ ap (settle me now) (collect_with-as me now quorum pn y b.phase)
        ∙ settle-armed me now (y ▸ changed (Numbers pn ∷ []) ▸ say (questions me now quorum pn y b.phase) ▸ leader_is (collector me quorum pn y.readings))
        ∙ (λ i. settle me now (y ▸ changed (Numbers pn ∷ []) ▸ say (same_questions i) ▸ leader_is (ap (collector me quorum pn) b.kept i)))
        ∙ ap (λ z. settle me now (leader_is (collector me quorum pn w) z)) (sym (sending-is (asked me quorum pn e w) (changed (Numbers pn ∷ []) y)))

    pub asking-here : IsCollecting e w asking
    asking-here =
        let here : IsCollecting e w (so_far (Numbers pn ∷ []) (asked me quorum pn e w) (collector me quorum pn w) y) = record {
          epoch = b.epoch;
          last = ap (λ (r : Readings). r.last) b.kept;
          records = ap (λ (r : Readings). r.record_of) b.kept;
          phase = b.phase;
        } in
        subst (IsCollecting e w) (sym (under_way-is (Numbers pn ∷ []) (asked me quorum pn e w) (collector me quorum pn w) y)) here
