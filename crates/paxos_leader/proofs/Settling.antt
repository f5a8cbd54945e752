-- The acts of a leader that collects, as calls go on with them.
use Rattle.std.proofs.Common.{◌≡◌, ℕ, suc, ◌+◌, ◌≤◌, ◌<◌, ◌^◌, max, min, Bool, true, false, cond, ltb, eqb, List, [], ◌∷◌, ◌++◌, map, Option, Some, None, Ok, Err, refl, sym, ap, ◌∙◌, arith, append-nil, length, get_or, take}
use Rattle.std.specs.Prelude.{flat_map, slice_index_or}
use Rattle.std.proofs.lemmas.Bool.{le-leb, lt-leb, lt-ltb, eqb-true}
use Rattle.std.proofs.lemmas.Grind.{flat_map-append}
use Rattle.std.proofs.lemmas.List.{set-set, take_more}
use Rattle.mon_msg.specs.Protocol.Changes.{Numbers}
use Rattle.mon_msg.specs.Protocol.Collecting.{missed, commits_with, commits_to, catch_up, begin_found, settle, collector, collect_with, collect}
use Rattle.mon_msg.specs.Protocol.Course.{Course, ◌▸◌, arm, disarm, leader_is, say}
use Rattle.mon_msg.specs.Protocol.Phases.{same_phase, is_leading}
use Rattle.mon_msg.specs.Protocol.Readings.{Readings, epoch_of, or_zero, promise_of}
use Rattle.mon_msg.specs.Protocol.Sending.{members, message_to}
use Rattle.mon_msg.specs.Protocol.Sets.{is_empty}
use Rattle.mon_msg.specs.declared.paxos.Found.{Found}
use Rattle.mon_msg.specs.declared.paxos.Leader.{Leader}
use Rattle.mon_msg.specs.declared.paxos.LeaderStage.TheVariants as stage
use Rattle.mon_msg.specs.declared.plan.Sent.{Sent}
use Rattle.mon_msg.specs.declared.view.Me.{Me}
use Rattle.mon_tx.specs.declared.op.Op.{Op}
use Rattle.mon_types.specs.Proposal.{next_number}
use Rattle.mon_types.specs.declared.names.Which.TheVariants as which
use Rattle.mon_wire.specs.declared.body.Body.TheVariants as body
use Rattle.mon_wire.specs.declared.phase.Phase.TheVariants as phase
use Rattle.mon_wire.specs.declared.phase.Timer.TheVariants as timer
use Rattle.mon_plan.specs.Plans.{changed, phase_as}
use Rattle.paxos_leader.specs.Drafts.{armed_now, at_epoch}
use Rattle.paxos_leader.specs.Parts.{without_found}
use Rattle.paxos_leader.proofs.Acting.{be_active-unarmed, begin-unarmed}
use Rattle.paxos_leader.proofs.Going.{finish}

-- ---- members that lack versions

pub flat_map-next : {A B : Type 0} (f : A → List B) (xs : List A) (i : ℕ) (x : A) → i < length xs → x ≡ get_or xs i x → flat_map f (take (i + 1) xs) ≡ flat_map f (take i xs) ++ f x
flat_map-next f xs i x lt is =
    ap (flat_map f) (take_more xs i x lt ∙ ap (λ y. take i xs ++ y ∷ []) (sym is)) ∙ flat_map-append f (take i xs) (x ∷ []) ∙ ap (λ l. flat_map f (take i xs) ++ l) (append-nil (f x))

module _ (me : Me) (epoch : ℕ) (w r : Readings) (e : epoch_of r ≡ epoch) (last : r.last ≡ w.last) (records : r.record_of ≡ w.record_of) where
  same_commits : (lasts : List ℕ) (to : ℕ) → commits_to me r lasts to ≡ commits_to me (at_epoch epoch w) lasts to
  same_commits lasts to = λ i.
      cond (ltb (slice_index_or lasts to 0) (last i))
      (commits_with me (e i) (slice_index_or lasts to 0) (missed me.member.monitors (records i) (last i) (slice_index_or lasts to 0)) to) []

  pub caught_up : (lasts ks : List ℕ) → flat_map (commits_to me r lasts) ks ≡ flat_map (commits_to me (at_epoch epoch w) lasts) ks
  caught_up lasts ks = λ i. flat_map (λ k. same_commits lasts k i) ks

module _ (me : Me) (epoch : ℕ) (w : Readings) (lasts : List ℕ) (to told : ℕ) (values : List (List Op)) (h : told ≡ slice_index_or lasts to 0)
    (lacks : told < w.last) (those : values ≡ missed me.member.monitors w.record_of w.last told) where
  commits-as : commits_to me (at_epoch epoch w) lasts to ≡ commits_with me epoch told values to
  commits-as =
      (λ i. cond (ltb (sym h i) w.last) (commits_with me epoch (sym h i) (missed me.member.monitors w.record_of w.last (sym h i)) to) [])
      ∙ ap (λ b. cond b (commits_with me epoch told (missed me.member.monitors w.record_of w.last told) to) []) (lt-ltb told w.last lacks)
      ∙ ap (λ vs. commits_with me epoch told vs to) (sym those)

  pub commits-none : (out : List Sent) → eqb (length values) 0 ≡ true → out ≡ out ++ commits_to me (at_epoch epoch w) lasts to
  commits-none out none = sym (append-nil out) ∙ ap (λ l. out ++ l) (sym (commits-as ∙ by values none))
    where
      by : (vs : List (List Op)) → eqb (length vs) 0 ≡ true → commits_with me epoch told vs to ≡ []
      by [] e = refl
      by (v ∷ vs) e = let no : suc (length vs) ≡ 0 = eqb-true (suc (length vs)) 0 e in absurd (omega arith)

  pub commits-some : eqb (length values) 0 ≡ false → message_to me epoch (body.Commit (suc told) values) to ∷ [] ≡ commits_to me (at_epoch epoch w) lasts to
  commits-some some = sym (commits-as ∙ by values some)
    where
      by : (vs : List (List Op)) → eqb (length vs) 0 ≡ false → commits_with me epoch told vs to ≡ message_to me epoch (body.Commit (suc told) vs) to ∷ []
      by [] e = let no : true ≡ false = e in absurd cc
      by (v ∷ vs) e = refl

-- ---- settling

module _ (me : Me) (now : ℕ) (z : Course) (collects : z.state.phase ≡ phase.Collecting) where
  lead : is_leading z.state.phase ≡ true
  lead = ap is_leading collects

  active : same_phase z.state.phase (phase_as stage.Active z.state.phase) ≡ false
  active = ap (λ p. same_phase p (phase_as stage.Active p)) collects

  previous : same_phase z.state.phase (phase_as stage.Previous z.state.phase) ≡ false
  previous = ap (λ p. same_phase p (phase_as stage.Previous p)) collects

  found-unarmed : (found : Option Found) → begin_found me now found (disarm timer.Collect z) ≡ begin_found me now found z
  found-unarmed None = ap Ok (be_active-unarmed me now timer.Collect z lead (omega arith) active)
  found-unarmed (Some found) = λ i.
      cond (eqb found.version (suc z.readings.last))
      (begin-unarmed me now timer.Collect z lead (omega arith) stage.Previous found.value active previous i)
      (Ok (be_active-unarmed me now timer.Collect z lead (omega arith) active i))

module _ (me : Me) (now : ℕ) (y : Course) (collects : y.state.phase ≡ phase.Collecting) where
  abbrev pub settled : Course
  settled =
      y ▸ say (flat_map (commits_to me y.readings y.state.leader.lasts) (members me y.state.leader.quorum))
      ▸ leader_is (without_found y.state.leader)

  pub settle-is : settle me now y ≡ begin_found me now y.state.leader.found settled
  unfolding settle
  settle-is = found-unarmed me now settled collects y.state.leader.found

-- the timer that is disarmed may have been armed
pub settle-armed : (me : Me) (now : ℕ) (z : Course) → settle me now (arm now timer.Collect z) ≡ settle me now z
unfolding settle
settle-armed me now z =
    let end = Some (min (now + 10000) (2 ^ 62)) in
    let timers = z.state.timers in
    λ i. begin_found me now z.state.leader.found (
    record z { state = record z.state { timers = set-set timers 2 end None i } } ▸ catch_up me (members me z.state.leader.quorum) ▸ leader_is (record z.state.leader { found = None })
    )

-- ---- asking

module _ (me : Me) (now : ℕ) (quorum : List Bool) (above : ℕ) (y : Course) where
  abbrev pub number : ℕ
  number = next_number (or_zero y.readings.last_pn) (max (promise_of y.readings) above) me.member.rank

  pub collect-spent : 2 ^ 62 < number → collect me now quorum above y ≡ Err which.Pn
  unfolding collect
  collect-spent over = let t = lt-leb number (2 ^ 62) over in rw t refl

  pub collect-alone : number ≤ 2 ^ 62 → is_empty (members me quorum) ≡ true → collect me now quorum above y ≡ settle me now (collect_with me now quorum number y)
  unfolding collect
  collect-alone short alone = let t = le-leb number (2 ^ 62) short in rw (t, alone) refl

  pub collect-others : number ≤ 2 ^ 62 → is_empty (members me quorum) ≡ false → collect me now quorum above y ≡ Ok (collect_with me now quorum number y)
  unfolding collect
  collect-others short others = let t = le-leb number (2 ^ 62) short in rw (t, others) refl

  -- what was remembered before doesn't count
  pub collect-fresh : (l : Leader) → collect me now quorum above (leader_is l y) ≡ collect me now quorum above y
  unfolding collect collect_with
  collect-fresh l = refl

module _ (me : Me) (now : ℕ) (quorum : List Bool) (pn : ℕ) (y : Course) (collects : y.state.phase ≡ phase.Collecting) where
  abbrev pub questions : List Sent
  questions = map (message_to me (epoch_of y.readings) (body.Collect pn y.readings.first y.readings.last)) (members me quorum)

  pub collect_with-is : collect_with me now quorum pn y ≡ finish (Numbers pn ∷ []) questions (armed_now now timer.Collect ∷ []) (collector me quorum pn y.readings) y
  unfolding collect_with
  collect_with-is = rw collects refl

  pub collect_with-as : collect_with me now quorum pn y ≡ arm now timer.Collect (y ▸ changed (Numbers pn ∷ []) ▸ say questions ▸ leader_is (collector me quorum pn y.readings))
  unfolding collect_with
  collect_with-as = rw collects refl
