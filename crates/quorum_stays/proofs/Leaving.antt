-- No member follows a monitor outside of the set for long.
use Rattle.law_names.proofs.Runs.{Event, Monitors, World}
use Rattle.law_names.proofs.Table.{AllByRecursion, Course, Entry, Input, Me, Phase, Readings, State, end_of, has, is_armed, react, readings_of, shared_entries}
use Rattle.mon_msg.specs.declared.input.Input.TheVariants as input
use Rattle.mon_wire.specs.declared.phase.Phase.TheVariants as phase
use Rattle.mon_wire.specs.declared.phase.Timer.TheVariants as timer
use Rattle.quorum_model.proofs.Members.{me_is, member_of}
use Rattle.quorum_stays.proofs.LeavingActs.{Lapses}
use Rattle.quorum_stays.proofs.LeavingTable.{FromMember, reacts_leaving}
use Rattle.quorum_stays.proofs.Moving.{AllGo, AtMember, Brought, lt, moves}
use Rattle.quorum_stays.proofs.Onward.{one_state, pack, unpack}
use Rattle.quorum_stays.specs.Leaving.{FollowMembers}
use Rattle.quorum_timed.proofs.Beginning.{later}
use Rattle.quorum_timed.proofs.Events.{goes_on}
use Rattle.quorum_timed.specs.Begins.{ArePart, Begins, IsBetween}
use Rattle.quorum_timed.specs.Timed.{Leads, MayBe, Owed, Pace, Timed, at_time}
use Rattle.quorum_timed.specs.Waiting.{Waits, leads_alone, timer_of}
use Rattle.quorum_walk.proofs.Walk.{Then}
use Rattle.std.proofs.Common.{Bool, IsSomeAnd, List, None, Ok, Option, Some, [], arith, false, inl, inr, is_some, refl, subst, sym, true, ℕ, ◌+◌, ◌<◌, ◌||◌, ◌∷◌, ◌≡◌, ◌≤◌}
use Rattle.std.proofs.Math.Bool.{Bool-set}
use Rattle.std.proofs.lemmas.Bool.{cases_eq, false≢true, lt-ltb}

-- a member that waits, and whose lease timer ends by b if it follows a monitor outside of q
pub record Fine (q : List Bool) (me : Me) (at b : ℕ) (s : State) : Type 0 where
  pub waits : Waits me at s
  pub lapses : Lapses q b s.phase s.peon.leader s.timers

reacted : (q : List Bool) (b : ℕ) (me : Me) (shared : List Entry) (now : ℕ) (w : Readings) (s : State) (came : Input) (y : Course) → 1 < me.member.monitors
    → FromMember q came → Fine q me now b s → react me shared now w s came ≡ Ok y → Fine q me now b y.state
reacted q b me shared now w s came y many from F e = record {
  waits = goes_on me shared now now w s came y many (omega arith) F.waits e;
  lapses = (subst (Then (λ (x : Course). Lapses q b x.state.phase x.state.peon.leader x.state.timers)) e (reacts_leaving q b me now (lt-ltb 1 me.member.monitors many) shared w s came from F.lapses)).holds;
}

pub parts : (w : World) (f i by_time above : ℕ) (os : List Owed) → ArePart w f i by_time above os → AllByRecursion (λ o. IsBetween w f i o.number) os
parts w f i by_time above [] k = tt
parts w f i by_time above (o ∷ os) k = (k.1, parts w f i by_time o.number os k.3)

-- a peon waits for its lease timer
peon_armed : (me : Me) (s : State) → s.phase ≡ phase.Peon → (is_armed (timer_of s.phase s.requester.stage) s.timers || leads_alone me s.phase s.leader.quorum) ≡ true → is_armed timer.Lease s.timers ≡ true
peon_armed me s is h =
    let at_peon : (is_armed timer.Lease s.timers || false) ≡ true = subst (λ (p : Phase). (is_armed (timer_of p s.requester.stage) s.timers || leads_alone me p s.leader.quorum) ≡ true) is h in
    or_false (is_armed timer.Lease s.timers) at_peon
  where
    or_false : (x : Bool) → (x || false) ≡ true → x ≡ true
    or_false true e = refl
    or_false false e = e

module _ (ms : Monitors) (q : List Bool) (pace : Pace) (many : 1 < ms.count) (within : (i : ℕ) → has q i ≡ true → i < ms.count) where
  abbrev bound : ℕ → ℕ
  bound i = pace.since + pace.clock i + 10000

  abbrev Go : Timed → Type 0
  Go = AllGo ms q pace within

  abbrev pub At : ℕ → (i : ℕ) → has q i ≡ true → State → Type 0
  At u i qi = Fine q (member_of ms i (lt ms q pace within i qi)) (u + pace.clock i) (bound i)

  -- all members are fine, and what is under way among them is of them
  pub record AllFine (t : Timed) : Type 0 where
    pub fine : (i : ℕ) (qi : has q i ≡ true) → IsSomeAnd (t.world.state i) (At t.time i qi)
    pub go : Go t

  -- time goes on
  aged : (t : Timed) (u : ℕ) → t.time ≤ u → AllFine t → AllFine (at_time ms q pace u t)
  aged t u le A = record {
    fine = λ i qi. (let F = unpack (At t.time i qi) (t.world.state i) (A.fine i qi) in
        let G = F.2 in
        pack (At u i qi) (t.world.state i) F.0 F.1
        (record { waits = later (member_of ms i (lt ms q pace within i qi)) (t.time + pace.clock i) (u + pace.clock i) F.0 (omega arith) G.waits; lapses = G.lapses }));
    go = A.go;
  }

  from_member : (w : World) (i at : ℕ) (e : Event) (came : Input) → Brought ms q pace within w i at e came → FromMember q came
  from_member w i at e input.Start k = absurd k
  from_member w i at e (input.Deliver m) k = k.0
  from_member w i at e (input.Timer kind) k = tt
  from_member w i at e (input.Client session r) k = tt

  -- an event at a member
  stepped : (t next : Timed) (e : Event) → AllFine t → AtMember ms q pace within t next e → AllFine next
  stepped t next e A M = record { fine = fine_next; go = M.under_way }
    where
      F : (s : State) × (t.world.state M.i ≡ Some s) × At t.time M.i M.member s
      F = unpack (At t.time M.i M.member) (t.world.state M.i) (A.fine M.i M.member)

      mine : At t.time M.i M.member M.course.state
      mine = reacted q (bound M.i) (member_of ms M.i (lt ms q pace within M.i M.member)) (shared_entries (t.world.store M.i)) (t.time + pace.clock M.i) (readings_of (t.world.store M.i)) M.state M.came M.course many
          (from_member t.world M.i (t.time + pace.clock M.i) e M.came M.brought) (subst (At t.time M.i M.member) (one_state (t.world.state M.i) F.0 M.state F.1 M.up) F.2) M.reacts

      fine_next : (j : ℕ) → (qj : has q j ≡ true) → IsSomeAnd (next.world.state j) (At next.time j qj)
      fine_next j qj = subst (λ (u : ℕ). IsSomeAnd (next.world.state j) (At u j qj)) (sym M.time) (elim (cases_eq j M.i) [
        | inl same ↦ at_i same
        | inr ne ↦ subst (λ (z : Option State). IsSomeAnd z (At t.time j qj)) (sym (M.others j ne)) (A.fine j qj)
      ])
        where
          at_i : j ≡ M.i → IsSomeAnd (next.world.state j) (At t.time j qj)
          at_i same = (subst (λ (z : ℕ). (qz : has q z ≡ true) → IsSomeAnd (next.world.state z) (At t.time z qz)) (sym same)
              (λ qz. pack (At t.time M.i qz) (next.world.state M.i) M.course.state M.now
              (subst (λ (h : has q M.i ≡ true). At t.time M.i h M.course.state) (Bool-set _ _ M.member qz) mine))) qj

  ups : (t : Timed) → AllFine t → (i : ℕ) → has q i ≡ true → IsSomeAnd (t.world.state i) (λ s. Unit {0})
  ups t A i qi = let F = unpack (At t.time i qi) (t.world.state i) (A.fine i qi) in pack (λ s. Unit {0}) (t.world.state i) F.0 F.1 tt

  -- ---- the run

  -- a peon's lease timer is armed
  set_timer : (ts : List (Option ℕ)) → is_armed timer.Lease ts ≡ true → (end : ℕ) × (end_of timer.Lease ts ≡ Some end)
  set_timer ts h = by (end_of timer.Lease ts) refl h
    where
      by : (o : Option ℕ) → end_of timer.Lease ts ≡ o → is_some o ≡ true → (end : ℕ) × (end_of timer.Lease ts ≡ Some end)
      by None is h = absurd (false≢true h)
      by (Some end) is h = (end, is)

  too_late : (t : Timed) (u : ℕ) → AllFine t → MayBe ms q pace t u → pace.since + 10000 + pace.late < u → FollowMembers q t.world
  too_late t u A M late i qi =
      let F = unpack (At t.time i qi) (t.world.state i) (A.fine i qi) in
      pack (λ s. s.phase ≡ phase.Peon → has q s.peon.leader ≡ true) (t.world.state i) F.0 F.1 (λ is. by F.0 F.1 F.2 is (has q F.0.peon.leader) refl)
    where
      by : (s : State) → t.world.state i ≡ Some s → At t.time i qi s → s.phase ≡ phase.Peon → (x : Bool) → has q s.peon.leader ≡ x → has q s.peon.leader ≡ true
      by s up G is true e = e
      by s up G is false e =
          let W = G.waits in
          let Z = G.lapses in
          let armed : is_armed timer.Lease s.timers ≡ true = (let h = W.armed in peon_armed (member_of ms i (lt ms q pace within i qi)) s is h) in
          let end = set_timer s.timers armed in
          let soon = Z.by is e end.0 end.1 in
          let le = M.timers i qi s up timer.Lease end.0 end.1 in
          absurd (omega arith)

  pub runs_left : (more : List (ℕ × Event)) (t last : Timed) → AllFine t → Leads ms q pace t more last → pace.since + 10000 + pace.late < last.time → FollowMembers q last.world
  runs_left [] t last A L late = subst (λ (z : Timed). FollowMembers q z.world) (sym L.1) (too_late t last.time A L.0 late)
  runs_left ((u, e) ∷ more) t last A L late =
      let M : MayBe ms q pace t u = L.0 in
      let B = aged t u M.later A in
      runs_left more L.1.0 last (stepped (at_time ms q pace u t) L.1.0 e B (moves ms q pace within (at_time ms q pace u t) L.1.0 B.go (ups (at_time ms q pace u t) B) e L.1.1)) L.1.2 late

pub left : (ms : Monitors) (q : List Bool) (pace : Pace) (t last : Timed) (more : List (ℕ × Event)) → 1 < ms.count
    → ((i : ℕ) → has q i ≡ true → i < ms.count) → Begins ms q pace t → Leads ms q pace t more last
    → pace.since + 10000 + pace.late < last.time → FollowMembers q last.world
left ms q pace t last more many within B L late = runs_left ms q pace many within more t last (record {
  fine = λ i qi. (let lti = lt ms q pace within i qi in
      let F = unpack (Waits (member_of ms i lti) (pace.since + pace.clock i)) (t.world.state i) (B.wait i (member_of ms i lti) qi (me_is ms i lti)) in
      let W = F.2 in
      pack (Fine q (member_of ms i lti) (t.time + pace.clock i) (pace.since + pace.clock i + 10000)) (t.world.state i) F.0 F.1
      (record {
        waits = subst (λ (u : ℕ). Waits (member_of ms i lti) (u + pace.clock i) F.0) (sym B.time) W;
        lapses = record { by = λ is out end set. W.soon timer.Lease end set };
      }));
  go = λ f i qf qi. parts t.world f i (pace.since + pace.delay) 0 (t.under_way f i) (B.earlier f i qf qi);
}) L late
