-- The acts of an active leader, as plans do them.
use Rattle.std.proofs.Common.{◌≡◌, ◌≢◌, ℕ, suc, ◌+◌, ◌≤◌, ◌<◌, ◌^◌, true, false, List, [], ◌∷◌, map, Option, Some, None, Result, Ok, Err, refl, sym, ap, ◌∙◌, append-nil, inl, inr, ◌⊎◌, arith}
use Rattle.std.proofs.lemmas.Bool.{cases_Bool, cases_lt, le-leb, lt-leb}
use Rattle.mon_lease.specs.Lease.{extended}
use Rattle.mon_msg.specs.Protocol.Changes.{Vote}
use Rattle.mon_msg.specs.Protocol.Course.{Course, ◌▸◌, ◌>>=◌, disarm, leads_in, say}
use Rattle.mon_msg.specs.Protocol.Leading.{extend, be_active, begin_with, begin_alone, begin}
use Rattle.mon_msg.specs.Protocol.Learning.{learn}
use Rattle.mon_msg.specs.Protocol.Phases.{is_leading, same_phase}
use Rattle.mon_msg.specs.Protocol.Played.{played}
use Rattle.mon_msg.specs.Protocol.Readings.{epoch_of}
use Rattle.mon_msg.specs.Protocol.Sending.{members, message_to, answers_to, answer_any}
use Rattle.mon_msg.specs.Protocol.Sets.{is_empty, only}
use Rattle.mon_msg.specs.Protocol.Timers.{index_of}
use Rattle.mon_msg.specs.declared.paxos.Leader.{Leader}
use Rattle.mon_msg.specs.declared.paxos.LeaderStage.TheVariants as stage
use Rattle.mon_msg.specs.declared.paxos.LeaderStage.{LeaderStage}
use Rattle.mon_msg.specs.declared.plan.Origin.{Origin}
use Rattle.mon_msg.specs.declared.plan.Plan.{Plan}
use Rattle.mon_msg.specs.declared.view.Me.{Me}
use Rattle.mon_tx.specs.declared.op.Op.{Op}
use Rattle.mon_types.specs.declared.names.Which.TheVariants as which
use Rattle.mon_wire.specs.declared.body.Body.TheVariants as body
use Rattle.mon_wire.specs.declared.reply.Reply.TheVariants as reply
use Rattle.mon_wire.specs.declared.phase.Timer.{Timer}
use Rattle.mon_msg.specs.declared.plan.RoleStop.TheVariants as stop
use Rattle.mon_msg.specs.declared.plan.RoleStop.{RoleStop}
use Rattle.mon_plan.specs.Learned.{learned}
use Rattle.mon_plan.specs.Plans.{changed, phase_as}
use Rattle.mon_plan.proofs.Learning.{learn-done}
use Rattle.paxos_leader.specs.Drafts.{under_way, CommitsAlone, GoesOn, IsHere, lease_timers, value_timers}
use Rattle.paxos_leader.specs.declared.draft.Draft.{Draft}
use Rattle.paxos_leader.proofs.Going.{finish, finish-unarmed, goes}

abbrev pub leasing : Me → ℕ → Leader → Leader
leasing me now l = record l { stage = stage.Active; lease = extended now; acks = only me.member.rank }

pub over : (n : ℕ) → (n < 2 ^ 62 → false ≡ true) → 2 ^ 62 < suc n
over n h = elim (cases_lt n (2 ^ 62)) [ inl lt ↦ let no : false ≡ true = h lt in absurd cc | inr le ↦ omega (arith, le) ]

-- one whose value waits for its members
abbrev pub awaiting_votes : Me → LeaderStage → List Op → Option Origin → Leader → Leader
awaiting_votes me s value o l = record l { stage = s; accepted = only me.member.rank; value = Some value; origin = o }

module _ (me : Me) (now : ℕ) (y : Course) where
  abbrev pub peons : List ℕ
  peons = members me y.state.leader.quorum

  pub be_active-is : is_leading y.state.phase ≡ true
      → be_active me now y ≡ finish [] (map (message_to me (epoch_of y.readings) (body.Lease y.readings.last)) peons) (lease_timers (is_empty peons) now) (leasing me now y.state.leader) y
  unfolding be_active extend
  be_active-is lead =
      elim (cases_Bool (is_empty peons)) [
        | inl p ↦ rw (lead, p, append-nil) refl
        | inr p ↦ rw (lead, p, append-nil) refl
      ]

  pub begin_with-is : (s : LeaderStage) (v : ℕ) (value : List Op) (o : Option Origin) → is_leading y.state.phase ≡ true
      → begin_with me now s v value o y
      ≡ finish (Vote v y.state.leader.pn value ∷ []) (map (message_to me (epoch_of y.readings) (body.Begin y.state.leader.pn v value)) peons)
      (value_timers now) (awaiting_votes me s value o y.state.leader) y
  unfolding begin_with
  begin_with-is s v value o lead = rw lead refl

  pub begin_alone-is : (v : ℕ) (value : List Op) (o : Option Origin) → is_leading y.state.phase ≡ true → learn v (value ∷ []) y ≡ Ok (changed (learned v (value ∷ [])) y)
      → begin_alone me v value o y
      ≡ Ok (finish (learned v (value ∷ [])) (answers_to me (epoch_of (played (learned v (value ∷ [])) y.readings)) o (reply.Done v)) [] (record y.state.leader { stage = stage.Active }) y)
  unfolding begin_alone
  begin_alone-is v value o lead h = ap (λ r. r >>= (λ z. Ok (z ▸ leads_in stage.Active ▸ answer_any me o (reply.Done v)))) h ∙ rw lead refl

  pub begin-spent : (s : LeaderStage) (value : List Op) (o : Option Origin) → 2 ^ 62 < suc y.readings.last → begin me now s value o y ≡ Err which.Version
  unfolding begin
  begin-spent s value o above = let t = lt-leb (suc y.readings.last) (2 ^ 62) above in rw t refl

  pub begin-alone : (s : LeaderStage) (value : List Op) (o : Option Origin) → suc y.readings.last ≤ 2 ^ 62 → is_empty peons ≡ true
      → begin me now s value o y ≡ begin_alone me (suc y.readings.last) value o y
  unfolding begin
  begin-alone s value o short alone = let t = le-leb (suc y.readings.last) (2 ^ 62) short in rw (t, alone) refl

  pub begin-others : (s : LeaderStage) (value : List Op) (o : Option Origin) → suc y.readings.last ≤ 2 ^ 62 → is_empty peons ≡ false
      → begin me now s value o y ≡ Ok (begin_with me now s (suc y.readings.last) value o y)
  unfolding begin
  begin-others s value o short others = let t = le-leb (suc y.readings.last) (2 ^ 62) short in rw (t, others) refl

-- ---- at an event under way

module _ (me : Me) (now epoch last : ℕ) (l : Leader) (y : Course) (b : IsHere epoch last y) (e : y.state.leader ≡ l) where
  pub active-here : be_active me now y
      ≡ finish [] (map (message_to me epoch (body.Lease last)) (members me l.quorum)) (lease_timers (is_empty (members me l.quorum)) now) (leasing me now l) y
  active-here =
      be_active-is me now y b.leads
      ∙ (λ i. finish [] (map (message_to me (b.epoch i) (body.Lease (b.last i))) (members me (e i).quorum)) (lease_timers (is_empty (members me (e i).quorum)) now) (leasing me now (e i)) y)

  pub begun-here : (s : LeaderStage) (v : ℕ) (value : List Op) (o : Option Origin) → begin_with me now s v value o y
      ≡ finish (Vote v l.pn value ∷ []) (map (message_to me epoch (body.Begin l.pn v value)) (members me l.quorum)) (value_timers now) (awaiting_votes me s value o l) y
  begun-here s v value o =
      begin_with-is me now y s v value o b.leads
      ∙ (λ i. finish (Vote v (e i).pn value ∷ []) (map (message_to me (b.epoch i) (body.Begin (e i).pn v value)) (members me (e i).quorum)) (value_timers now) (awaiting_votes me s value o (e i)) y)

  pub alone-here : (v : ℕ) (value : List Op) → learn v (value ∷ []) y ≡ Ok (changed (learned v (value ∷ [])) y)
      → begin_alone me v value None y ≡ Ok (finish (learned v (value ∷ [])) [] [] (record l { stage = stage.Active }) y)
  alone-here v value h = begin_alone-is me now y v value None b.leads h ∙ (λ i. Ok (finish (learned v (value ∷ [])) [] [] (record (e i) { stage = stage.Active }) y))

  module _ (s : LeaderStage) (value : List Op) (o : Option Origin) where
    pub begin-over : 2 ^ 62 < suc last → begin me now s value o y ≡ Err which.Version
    begin-over over = begin-spent me now y s value o (omega (arith, over, b.last))

    module _ (v : ℕ) (is : v ≡ last + 1) (short : v ≤ 2 ^ 62) where
      next_is : suc y.readings.last ≡ v
      next_is = omega (arith, b.last, is)

      pub begins-alone : is_empty (members me l.quorum) ≡ true → begin me now s value o y ≡ begin_alone me v value o y
      begins-alone alone =
          begin-alone me now y s value o (omega (arith, next_is, short)) (ap (λ k. is_empty (members me k.quorum)) e ∙ alone)
          ∙ ap (λ n. begin_alone me n value o y) next_is

      pub begins-among : is_empty (members me l.quorum) ≡ false → begin me now s value o y ≡ Ok (begin_with me now s v value o y)
      begins-among others =
          begin-others me now y s value o (omega (arith, next_is, short)) (ap (λ k. is_empty (members me k.quorum)) e ∙ others)
          ∙ ap (λ n. Ok (begin_with me now s n value o y)) next_is

-- one that commits a value at once for which nobody waits
pub alone-goes : (me : Me) (now epoch last : ℕ) (d : Draft) (v : ℕ) (value : List Op) (r : Result (Plan Leader) RoleStop) → CommitsAlone d v value r
    → GoesOn me now (IsHere epoch last) d (begin_alone me v value None) r
unfolding begin_alone
alone-goes me now epoch last d v value (Ok p) h =
    goes me now (IsHere epoch last) d (begin_alone me v value None) (learned v (value ∷ [])) h.fit [] [] (record d.state { stage = stage.Active })
    (λ y b e. alone-here me now epoch last d.state y b e v value (h.learns y))
    p (ap (λ (p : Plan Leader). p.tx) h.plan) (ap (λ (p : Plan Leader). p.out) h.plan ∙ sym (append-nil d.out)) (ap (λ (p : Plan Leader). p.timers) h.plan)
    (ap (λ (p : Plan Leader). p.state) h.plan) (ap (λ (p : Plan Leader). p.next) h.plan)
alone-goes me now epoch last d v value (Err stop.OutOfMemory) h = λ cs fit is. tt
alone-goes me now epoch last d v value (Err (stop.Spent which)) h = λ cs fit is x b. ap (λ r. r >>= (λ z. Ok (z ▸ leads_in stage.Active ▸ say []))) (h (under_way cs d.out d.state x))

-- ---- a timer of a phase that is left

module _ (me : Me) (now : ℕ) (t : Timer) (y : Course) (lead : is_leading y.state.phase ≡ true) (other : 10 ≢ index_of t) where
  pub be_active-unarmed : same_phase y.state.phase (phase_as stage.Active y.state.phase) ≡ false → be_active me now (disarm t y) ≡ be_active me now y
  be_active-unarmed left =
      be_active-is me now (disarm t y) lead
      ∙ finish-unarmed [] (map (message_to me (epoch_of y.readings) (body.Lease y.readings.last)) (peons me now y)) (lease_timers (is_empty (peons me now y)) now) (leasing me now y.state.leader) t y left other
      ∙ sym (be_active-is me now y lead)

  pub begin-unarmed : (s : LeaderStage) (value : List Op) → same_phase y.state.phase (phase_as stage.Active y.state.phase) ≡ false → same_phase y.state.phase (phase_as s y.state.phase) ≡ false
      → begin me now s value None (disarm t y) ≡ begin me now s value None y
  begin-unarmed s value left leaves = by (cases_lt (2 ^ 62) (suc y.readings.last)) (cases_Bool (is_empty (peons me now y)))
    where
      by : (2 ^ 62 < suc y.readings.last) ⊎ (suc y.readings.last ≤ 2 ^ 62) → (is_empty (peons me now y) ≡ true) ⊎ (is_empty (peons me now y) ≡ false)
          → begin me now s value None (disarm t y) ≡ begin me now s value None y
      by (inl above) b = begin-spent me now (disarm t y) s value None above ∙ sym (begin-spent me now y s value None above)
      by (inr short) (inl alone) =
          begin-alone me now (disarm t y) s value None short alone
          ∙ begin_alone-is me now (disarm t y) (suc y.readings.last) value None lead (learn-done (suc y.readings.last) value [] (disarm t y) (omega (arith, short)))
          ∙ ap Ok (finish-unarmed (learned (suc y.readings.last) (value ∷ [])) [] [] (record y.state.leader { stage = stage.Active }) t y left other)
          ∙ sym (begin_alone-is me now y (suc y.readings.last) value None lead (learn-done (suc y.readings.last) value [] y (omega (arith, short))))
          ∙ sym (begin-alone me now y s value None short alone)
      by (inr short) (inr others) =
          begin-others me now (disarm t y) s value None short others
          ∙ ap Ok (begin_with-is me now (disarm t y) s (suc y.readings.last) value None lead
          ∙ finish-unarmed (Vote (suc y.readings.last) y.state.leader.pn value ∷ []) (map (message_to me (epoch_of y.readings) (body.Begin y.state.leader.pn (suc y.readings.last) value)) (peons me now y))
          (value_timers now) (awaiting_votes me s value None y.state.leader) t y leaves other
          ∙ sym (begin_with-is me now y s (suc y.readings.last) value None lead))
          ∙ sym (begin-others me now y s value None short others)
