-- What a plan leaves lets its monitor do the act that the plan names.
use Rattle.std.proofs.Common.{◌≡◌, ℕ, ◌≤◌, ◌^◌, List, Some, [], ◌∷◌, ◌++◌, refl, sym, ap, subst, ◌∙◌, inl, inr, arith}
use Rattle.std.proofs.lemmas.Bool.{lt-ltb}
use Rattle.std.specs.List.{AllByRecursion}
use Rattle.mon_msg.specs.Protocol.Changes.{Change, Boot, Epoch, encoded}
use Rattle.mon_msg.specs.Protocol.Course.{Course}
use Rattle.mon_msg.specs.Protocol.Phases.{is_leading}
use Rattle.mon_msg.specs.Protocol.Played.{Fits, played}
use Rattle.mon_msg.specs.Protocol.Readings.{Readings, readings_of}
use Rattle.mon_msg.specs.Protocol.State.{State}
use Rattle.mon_msg.specs.Protocol.Table.{at_rest}
use Rattle.mon_msg.specs.declared.plan.Next.TheVariants as next
use Rattle.mon_msg.specs.declared.plan.Next.{Next}
use Rattle.mon_msg.specs.declared.plan.Plan.{Plan}
use Rattle.mon_msg.specs.declared.plan.Sent.{Sent}
use Rattle.mon_msg.specs.declared.view.Me.{Me}
use Rattle.mon_msg.proofs.Afterwards.{apply-append}
use Rattle.mon_tx.specs.Map.{Store, apply}
use Rattle.mon_tx.specs.declared.op.Op.{Op}
use Rattle.mon_wire.specs.declared.phase.Phase.TheVariants as phase
use Rattle.mon_wire.specs.declared.phase.Phase.{Phase}
use Rattle.mon_plan.specs.Leaves.{Ends, Leaves, WritesEpoch}
use Rattle.mon_plan.specs.Plans.{done, stands, changed, arm_all, sending}
use Rattle.mon_plan.proofs.Planning.{changed-state}
use Rattle.mon_stored.proofs.Standing.{readings-after}
use Rattle.mon_core.specs.Acts.{IsLast, KeepsAll, Leads, MayAct}
use Rattle.mon_core.specs.Rows.{IsReady}
use Rattle.mon_core.proofs.Acting.{rests}
use Rattle.mon_event.specs.Events.{IsCarried, IsUnderWay, remembering}
use Rattle.mon_event.specs.State.{state_of}
use Rattle.mon_event.specs.declared.event.Event.{Event}

-- the stage of an active leader stays its phase when this role's state is replaced
abbrev pub LeadsOn : {S : Type 0} → (put : S → State → State) → Type 0
LeadsOn {S} put = (x : S) (s : State) → s.phase ≡ phase.Active → Leads s → Leads (put x s)

-- ---- what the store's readers return, except for the epoch and the count of starts

abbrev Kept : Readings → Readings → Type 0
Kept w v = v ≡ record w { epoch = v.epoch; boot = v.boot }

keeps : (m : Store) (tx : List Op) (cs : List Change) → AllByRecursion Fits cs → tx ≡ encoded cs
    → Kept (readings_of m) (played cs (readings_of m)) → KeepsAll m tx
keeps m tx cs fit is h =
    subst (λ (ops : List Op). KeepsAll m ops) (sym is) (subst (Kept (readings_of m)) (sym (readings-after cs fit m)) h)

pub keeps_none : (m : Store) (tx : List Op) → tx ≡ [] → KeepsAll m tx
keeps_none m tx is = keeps m tx [] tt is refl

pub keeps_boot : (m : Store) (tx : List Op) (boot : ℕ) → boot ≤ 2 ^ 62 → tx ≡ encoded (Boot boot ∷ []) → KeepsAll m tx
keeps_boot m tx boot short is = keeps m tx (Boot boot ∷ []) (short, tt) is refl

pub keeps_first : (m : Store) (tx : List Op) (boot : ℕ) → boot ≤ 2 ^ 62 → tx ≡ encoded (Boot boot ∷ Epoch 1 ∷ []) → KeepsAll m tx
keeps_first m tx boot short is = keeps m tx (Boot boot ∷ Epoch 1 ∷ []) (short, (omega arith, tt)) is refl

-- so it does if the epoch is written after
pub keeps_more : (m : Store) (before tx all : List Op) → all ≡ before ++ tx → KeepsAll m before → WritesEpoch tx → KeepsAll m all
keeps_more m before tx all is k t =
    let m' : Store = apply before m in
    let one : readings_of (apply tx m') ≡ record (readings_of m') { epoch = Some t.epoch } =
    ap (λ (ops : List Op). readings_of (apply ops m')) t.is ∙ readings-after (Epoch t.epoch ∷ []) (t.short, tt) m' in
    let both : readings_of (apply all m) ≡ readings_of (apply tx m') =
    ap (λ (ops : List Op). readings_of (apply ops m)) is ∙ ap readings_of (apply-append before tx m) in
    subst (Kept (readings_of m)) (sym (both ∙ one)) (ap (λ (w : Readings). record w { epoch = Some t.epoch }) k)

-- ---- the leader's stage stays its phase

sending-state : (ms : List Sent) (x : Course) → (sending ms x).state ≡ x.state
sending-state [] x = refl
sending-state (m ∷ ms) x = refl

-- ---- plans

module _ {S : Type 0} (put : S → State → State) (on : LeadsOn put) (me : Me) (m : Store) (e : Event) (r : IsReady me e)
    (p : Plan S) (cs : List Change) (fit : AllByRecursion Fits cs) (encodes : p.tx ≡ encoded cs)
    (c : Event) (n : Next) (k : IsCarried (remembering put) e p c n) where
  abbrev begins : Course
  begins = at_rest (readings_of m) (state_of e.state)

  after : IsUnderWay (readings_of m) c (done (remembering put) cs p begins)
  after = k.done cs fit encodes (readings_of m) begins (rests me m e r)

  -- as the plan's role gets its new state
  abbrev by_then : Course
  by_then = changed cs (stands p.next begins)

  -- the event has written what the plan writes
  writes : c.tx ≡ p.tx
  writes = k.written ∙ ap (λ (ops : List Op). ops ++ p.tx) r.unwritten

  -- if no other phase begins with the plan
  leads : stands p.next begins ≡ begins → e.state.phase ≡ phase.Active → Leads (state_of c.state)
  leads stays active =
      let state : by_then.state ≡ state_of e.state = changed-state cs (stands p.next begins) ∙ ap (λ (x : Course). x.state) stays in
      let began : Leads (state_of e.state) = sym (r.remembers.placed.leads (ap is_leading active)) in
      subst Leads (sym after.state)
      (subst Leads (sym (sending-state p.out (arm_all p.timers (remembering put p.state by_then))))
      (on p.state by_then.state (ap (λ (s : State). s.phase) state ∙ active) (subst Leads (sym state) began)))

  pub may_act : (at : Phase) → at ≡ e.state.phase → Leaves at p.next p.tx → MayAct me m c n
  may_act at is_at left = subst (MayAct me m c) (sym k.next) (by p.next refl left)
    where
      by : (n : Next) → p.next ≡ n → Leaves at n p.tx → MayAct me m c n
      by next.Stay e l = tt
      by next.Electing e l = tt
      by (next.Follow leader quorum) e l = tt
      by next.Elect e l = tt
      by next.Bootstrap e (inl none) = λ _. keeps_none m c.tx (writes ∙ none)
      by next.Bootstrap e (inr copies) = λ alone.
          let many = r.remembers.placed.copies (sym is_at ∙ copies) in
          let yes = lt-ltb 1 me.member.monitors many in
          absurd cc
      by (next.Win quorum) e l = keeps_more m [] p.tx c.tx writes (keeps_none m [] refl) l
      by (next.FullSync from) e l = keeps_none m c.tx (writes ∙ l)
      by (next.RecentSync from) e l = keeps_none m c.tx (writes ∙ l)
      by (next.Begin value o) e l = (writes ∙ l.0, leads (ap (λ n. stands n begins) e) (sym is_at ∙ l.1), l.2)

-- ---- what follows if a monitor begins again

pub ends_last : (me : Me) (tx : List Op) (n : Next) → Ends me n tx → IsLast n
ends_last me tx next.Stay h = tt
ends_last me tx (next.Win quorum) h = tt
ends_last me tx next.Bootstrap h = h
ends_last me tx next.Elect h = h
ends_last me tx next.Electing h = h
ends_last me tx (next.Follow leader quorum) h = h
ends_last me tx (next.FullSync from) h = h
ends_last me tx (next.RecentSync from) h = h
ends_last me tx (next.Begin value o) h = h

-- one that wins alone kept what its store's readers return
module _ (me : Me) (m : Store) (e begun : Event) (same : begun.tx ≡ e.tx) (may : MayAct me m e next.Bootstrap)
    (tx : List Op) (c : Event) (written : c.tx ≡ begun.tx ++ tx) where
  pub may_end : (n : Next) → Ends me n tx → MayAct me m c n
  may_end next.Stay h = tt
  may_end (next.Win quorum) h = keeps_more m e.tx tx c.tx (written ∙ ap (λ (ops : List Op). ops ++ tx) same) (may h.0) h.1
  may_end next.Bootstrap h = absurd h
  may_end next.Elect h = absurd h
  may_end next.Electing h = absurd h
  may_end (next.Follow leader quorum) h = absurd h
  may_end (next.FullSync from) h = absurd h
  may_end (next.RecentSync from) h = absurd h
  may_end (next.Begin value o) h = absurd h
