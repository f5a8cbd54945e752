-- A leader that lost a monitor of its quorum steps down.
use Rattle.law_names.proofs.Runs.{Arrives, Client, Deliver, Envelope, Event, Monitors, World, message_at}
use Rattle.law_names.proofs.Table.{Course, Input, Me, Message, Phase, Request, Session, State, Timer, end_of, has, is_alone, is_armed, is_leading, is_one_of, is_peon, lease_of, or_zero, readings_of, shared_entries, stands}
use Rattle.mon_msg.specs.declared.input.Input.TheVariants as input
use Rattle.mon_wire.specs.declared.phase.Phase.TheVariants as phase
use Rattle.mon_wire.specs.declared.phase.Timer.TheVariants as timer
use Rattle.quorum_model.proofs.Members.{me_is, member_of}
use Rattle.quorum_stays.proofs.DownActs.{Awaits, LeaseBy, MayBegin, Serves, Stays, Terms, accepting, acknowledging, alone_lacks, of_serving, proposing, renewing}
use Rattle.quorum_stays.proofs.DownTable.{Fits, reacts_stepping}
use Rattle.quorum_stays.proofs.Leaving.{parts}
use Rattle.quorum_stays.proofs.Moving.{AllGo, AtMember, Brought, IsSent, lt, moves}
use Rattle.quorum_stays.proofs.Onward.{one_state, pack, unpack}
use Rattle.quorum_stays.specs.Reading.{Reads}
use Rattle.quorum_stays.specs.Serving.{IsForward}
use Rattle.quorum_stays.specs.SteppingDown.{BringsNone, EachIs, ServesWith, StepsDown, serving}
use Rattle.quorum_timed.proofs.Beginning.{later}
use Rattle.quorum_timed.proofs.Events.{goes_on}
use Rattle.quorum_timed.specs.Begins.{Begins}
use Rattle.quorum_timed.specs.Timed.{Leads, MayBe, Pace, Timed, at_time}
use Rattle.quorum_timed.specs.Waiting.{Waits, leads_alone, timer_of}
use Rattle.quorum_walk.proofs.Walk.{Then}
use Rattle.std.proofs.Common.{Bool, IfSome, IsSomeAnd, List, None, Ok, Option, Some, [], ap, arith, cond, false, inl, inr, is_some, refl, subst, sym, true, ℕ, ◌&&◌, ◌*◌, ◌+◌, ◌<◌, ◌||◌, ◌∙◌, ◌∷◌, ◌≡◌, ◌≤◌, ◌⊎◌}
use Rattle.std.proofs.Math.Bool.{Bool-set}
use Rattle.std.proofs.lemmas.Bool.{cases_eq, false≢true, le-ltb, lt-ltb}

-- ---- timers

-- the timer is armed, and ends then
abbrev Set : Timer → List (Option ℕ) → Type 0
Set t ts = (end : ℕ) × (end_of t ts ≡ Some end)

set_of : (t : Timer) (ts : List (Option ℕ)) → is_armed t ts ≡ true → Set t ts
set_of t ts h = by (end_of t ts) refl h
  where
    by : (o : Option ℕ) → end_of t ts ≡ o → is_some o ≡ true → Set t ts
    by None is h = absurd (false≢true h)
    by (Some end) is h = (end, is)

-- who has another monitor in its quorum isn't alone, so the timer of its phase is armed
armed_in : (me : Me) (p : Phase) (s : State) → s.phase ≡ p → is_alone me s.leader.quorum ≡ false → (is_armed (timer_of s.phase s.requester.stage) s.timers || leads_alone me s.phase s.leader.quorum) ≡ true → is_armed (timer_of p s.requester.stage) s.timers ≡ true
armed_in me p s is many h = or_false (is_armed (timer_of p s.requester.stage) s.timers) (leads_alone me p s.leader.quorum) (no_other (is_leading p) (is_alone me s.leader.quorum) many) (subst (λ (z : Phase). (is_armed (timer_of z s.requester.stage) s.timers || leads_alone me z s.leader.quorum) ≡ true) is h)
  where
    no_other : (x y : Bool) → y ≡ false → (x && y) ≡ false
    no_other true y e = e
    no_other false y e = refl

    or_false : (x y : Bool) → y ≡ false → (x || y) ≡ true → x ≡ true
    or_false true y n e = refl
    or_false false y n e = absurd (false≢true (sym n ∙ e))

-- ---- time

module _ (ms : Monitors) (q : List Bool) (pace : Pace) where
  -- time stands for a while
  may_now : (t : Timed) (u : ℕ) → MayBe ms q pace t u → MayBe ms q pace t t.time
  may_now t u M = let le = M.later in record {
    later = omega arith;
    messages = λ f j qf qj o others is. let k = M.messages f j qf qj o others is in omega arith;
    timers = λ j qj s up kind end set. let k = M.timers j qj s up kind end set in omega arith;
    calls = λ f j qf qj n c. let k = M.calls f j qf qj n c in omega arith;
  }

  pub here : (t last : Timed) (more : List (ℕ × Event)) → Leads ms q pace t more last → MayBe ms q pace t t.time
  here t last [] L = may_now t last.time L.0
  here t last ((u, e) ∷ more) L = may_now t u L.0

-- ---- the premises of a run

module _ (ms : Monitors) (q : List Bool) (pace : Pace) (many : 1 < ms.count) (within : (i : ℕ) → has q i ≡ true → i < ms.count)
    (b : Terms) (late_is : b.late ≡ pace.late) (outside : has q b.lost ≡ false) (in_map : b.lost < ms.count) (i : ℕ) (qi : has q i ≡ true)
    (begins : pace.since + pace.clock i ≤ b.first) (ordered : b.second ≤ b.third)
    (E : World → Event → Type 0) (asks : (w : World) (at : ℕ) (session : Session) (r : Request) → E w (Arrives (Client i at session r)) → Reads r ⊎ MayBegin b)
    (forwards : (w : World) (k at : ℕ) (m : Message) → E w (Arrives (Deliver k at)) → IsSent ms q pace within w k i m → IsForward m.body → MayBegin b) where
  abbrev me_at : (j : ℕ) → has q j ≡ true → Me
  me_at j qj = member_of ms j (lt ms q pace within j qj)

  other_rank : (j : ℕ) → has q j ≡ true → b.lost ≡ j → ⊥
  other_rank j qj e = false≢true (sym outside ∙ subst (λ (z : ℕ). has q z ≡ true) (sym e) qj)

  -- member j waits, and still serves with the lost monitor at time u
  pub record Holds (j : ℕ) (qj : has q j ≡ true) (w : World) (u : ℕ) : Type 0 where
    pub state : State
    pub up : w.state j ≡ Some state
    pub waits : Waits (me_at j qj) (u + pace.clock i) state
    pub serves : Serves b (u + pace.clock i) state.phase state.leader state.clients.queue state.timers

  not_alone : (s : State) → has s.leader.quorum b.lost ≡ true → is_alone (me_at i qi) s.leader.quorum ≡ false
  not_alone s among = by (is_alone (me_at i qi) s.leader.quorum) refl
    where
      by : (x : Bool) → is_alone (me_at i qi) s.leader.quorum ≡ x → is_alone (me_at i qi) s.leader.quorum ≡ false
      by false e = e
      by true e = absurd (false≢true (sym (alone_lacks b (me_at i qi) 0 (other_rank i qi) in_map s.leader.quorum e) ∙ among))

  -- while it serves so, time doesn't go on beyond the last end of its timers
  pub aged : (t : Timed) (u : ℕ) → MayBe ms q pace t u → Holds i qi t.world t.time → (u + pace.clock i ≤ b.third + b.late) × Holds i qi t.world u
  aged t u M H = by H.serves.awaits
    where
      s : State
      s = H.state

      S : Serves b (t.time + pace.clock i) s.phase s.leader s.clients.queue s.timers
      S = H.serves

      passes : t.time ≤ u
      passes = M.later

      own : (p : Phase) → s.phase ≡ p → is_armed (timer_of p s.requester.stage) s.timers ≡ true
      own p is = armed_in (me_at i qi) p s is (not_alone s S.among) H.waits.armed

      -- a timer that ends by c is due by then
      due : (t : Timer) (c : ℕ) → pace.since + pace.clock i ≤ c → is_armed t s.timers ≡ true → ((end : ℕ) → end_of t s.timers ≡ Some end → end ≤ c) → u + pace.clock i ≤ c + b.late
      due kind c le on ends =
          let k = set_of kind s.timers on in
          let soon = ends k.0 k.1 in
          let may = M.timers i qi s H.up kind k.0 k.1 in
          omega (arith, late_is)

      now : Awaits b (u + pace.clock i) s.phase s.leader s.timers → Holds i qi t.world u
      now A = record {
        state = s;
        up = H.up;
        waits = later (me_at i qi) (t.time + pace.clock i) (u + pace.clock i) s (omega arith) H.waits;
        serves = record { among = S.among; size = S.size; awaits = A; commands = S.commands; lease = S.lease };
      }

      by : Awaits b (t.time + pace.clock i) s.phase s.leader s.timers → (u + pace.clock i ≤ b.third + b.late) × Holds i qi t.world u
      by (renewing is le ends wait) =
          let k = b.acknowledged in
          let soon = due timer.Renew b.first begins (own phase.Active is) ends in
          (omega arith, now (renewing is soon ends wait))
      by (acknowledging is le lacks on wait) =
          let k = b.acknowledged in
          let soon = due timer.LeaseAck b.second (omega arith) on wait in
          (omega arith, now (acknowledging is soon lacks on wait))
      by (accepting is le ends) =
          let k = b.acknowledged in
          let soon = due timer.Accept b.first begins (own phase.Updating is) ends in
          (omega arith, now (accepting is soon ends))
      by (proposing is lacks ends) =
          let k = b.acknowledged in
          (due timer.Accept b.third (omega arith) (own phase.Updating is) ends, now (proposing is lacks ends))

  -- ---- an event

  -- it doesn't serve with the lost monitor any more
  abbrev pub Stopped : ℕ → Timed → Type 0
  Stopped j t = IsSomeAnd (t.world.state j) (λ s. ServesWith b.lost s → ⊥)

  fits : (w : World) (e : Event) → E w e → (j at : ℕ) → j ≡ i → (came : Input) → Brought ms q pace within w j at e came → Fits b came
  fits w e k j at is input.Start c = absurd c
  fits w e k j at is (input.Deliver m) c =
      ((λ of. other_rank m.from c.0 (sym of)), forwards w c.1.0 at m (subst (E w) c.1.1 k) (subst (λ (z : ℕ). IsSent ms q pace within w c.1.0 z m) is c.1.2))
  fits w e k j at is (input.Timer kind) c = tt
  fits w e k j at is (input.Client session r) c = asks w at session r (subst (λ (z : ℕ). E w (Arrives (Client z at session r))) is (subst (E w) c k))

  module _ (t next : Timed) (e : Event) (k : E t.world e) (M : AtMember ms q pace within t next e) where
    -- at the member itself
    reacted : M.i ≡ i → Holds M.i M.member t.world t.time → Holds M.i M.member next.world next.time ⊎ Stopped M.i next
    reacted same H = by (is_one_of serving M.course.state.phase) refl (has M.course.state.leader.quorum b.lost) refl
      where
        me : Me
        me = me_at M.i M.member

        at : ℕ
        at = t.time + pace.clock M.i

        clock : t.time + pace.clock i ≡ at
        clock = ap (λ (z : ℕ). t.time + pace.clock z) (sym same)

        is : H.state ≡ M.state
        is = one_state (t.world.state M.i) H.state M.state H.up M.up

        serves : Serves b at M.state.phase M.state.leader M.state.clients.queue M.state.timers
        serves = subst (λ (s : State). Serves b at s.phase s.leader s.clients.queue s.timers) is (subst (λ (n : ℕ). Serves b n H.state.phase H.state.leader H.state.clients.queue H.state.timers) clock H.serves)

        waits : Waits me at M.state
        waits = subst (Waits me at) is (subst (λ (n : ℕ). Waits me n H.state) clock H.waits)

        T : Then (λ (y : Course). Stays b at y.state.phase y.state.leader y.state.clients.queue y.state.timers) (Ok M.course)
        T = subst (Then (λ (y : Course). Stays b at y.state.phase y.state.leader y.state.clients.queue y.state.timers)) M.reacts
            (reacts_stepping b me at (other_rank M.i M.member) in_map (lt-ltb 1 ms.count many) (shared_entries (t.world.store M.i)) (readings_of (t.world.store M.i)) M.state M.came
            (fits t.world e k M.i at same M.came M.brought) serves)

        stopped : (ServesWith b.lost M.course.state → ⊥) → Stopped M.i next
        stopped doesnt = pack (λ s. ServesWith b.lost s → ⊥) (next.world.state M.i) M.course.state M.now doesnt

        by : (x : Bool) → is_one_of serving M.course.state.phase ≡ x → (y : Bool) → has M.course.state.leader.quorum b.lost ≡ y → Holds M.i M.member next.world next.time ⊎ Stopped M.i next
        by true f true g = inl (subst (Holds M.i M.member next.world) (sym M.time) (record {
          state = M.course.state;
          up = M.now;
          waits = subst (λ (n : ℕ). Waits me n M.course.state) (sym clock) (goes_on me (shared_entries (t.world.store M.i)) at at (readings_of (t.world.store M.i)) M.state M.came M.course many (omega arith) waits M.reacts);
          serves = subst (λ (n : ℕ). Serves b n M.course.state.phase M.course.state.leader M.course.state.clients.queue M.course.state.timers) (sym clock) (T.holds.still f g);
        }))
        by false f y g = inr (stopped (λ S. false≢true (sym f ∙ S.serves)))
        by true f false g = inr (stopped (λ S. false≢true (sym g ∙ S.among)))

    pub stepped : Holds i qi t.world t.time → Holds i qi next.world next.time ⊎ Stopped i next
    stepped H = elim (cases_eq i M.i) [
      | inl same ↦ subst (λ (z : ℕ). (qz : has q z ≡ true) → Holds z qz next.world next.time ⊎ Stopped z next) (sym same) (λ qz.
          subst (λ (h : has q M.i ≡ true). Holds M.i h next.world next.time ⊎ Stopped M.i next) (Bool-set _ _ M.member qz)
          (reacted (sym same) (subst (λ (z : ℕ). (qz : has q z ≡ true) → Holds z qz t.world t.time) same (λ qz. subst (λ (h : has q i ≡ true). Holds i h t.world t.time) (Bool-set _ _ qi qz) H) M.member))) qi
      | inr ne ↦ inl (subst (Holds i qi next.world) (sym M.time) (record { state = H.state; up = M.others i ne ∙ H.up; waits = H.waits; serves = H.serves }))
    ]

    -- all members are still up
    pub still_up : ((j : ℕ) → has q j ≡ true → IsSomeAnd (t.world.state j) (λ s. Unit {0})) → (j : ℕ) → has q j ≡ true → IsSomeAnd (next.world.state j) (λ s. Unit {0})
    still_up ups j qj = elim (cases_eq j M.i) [
      | inl same ↦ subst (λ (z : ℕ). IsSomeAnd (next.world.state z) (λ s. Unit {0})) (sym same) (pack (λ s. Unit {0}) (next.world.state M.i) M.course.state M.now tt)
      | inr ne ↦ subst (λ (o : Option State). IsSomeAnd o (λ s. Unit {0})) (sym (M.others j ne)) (ups j qj)
    ]

  -- ---- the run

  -- it serves with the lost monitor at the end of the run
  abbrev pub Remains : Timed → Type 0
  Remains last = (last.time + pace.clock i ≤ b.third + b.late) × IsSomeAnd (last.world.state i) (λ s. Serves b (last.time + pace.clock i) s.phase s.leader s.clients.queue s.timers)

  -- it steps down in time, or still serves at the end
  pub goes : (u : ℕ) → b.third + b.late ≡ u + pace.clock i → (more : List (ℕ × Event)) (t last : Timed) → Holds i qi t.world t.time → AllGo ms q pace within t
      → ((j : ℕ) → has q j ≡ true → IsSomeAnd (t.world.state j) (λ s. Unit {0})) → (L : Leads ms q pace t more last) → EachIs ms q pace E t more last L → StepsDown ms q pace t more i b.lost u ⊎ Remains last
  goes u is [] t last H go ups L fine =
      let A = aged t last.time L.0 H in
      let K = A.1 in
      inr (
        A.0,
        subst (λ (w : World). IsSomeAnd (w.state i) (λ s. Serves b (last.time + pace.clock i) s.phase s.leader s.clients.queue s.timers)) (sym (ap (λ (z : Timed). z.world) L.1))
            (pack (λ s. Serves b (last.time + pace.clock i) s.phase s.leader s.clients.queue s.timers) (t.world.state i) K.state K.up K.serves),
      )
  goes u is ((v, e) ∷ more) t last H go ups L fine = by (stepped now next e fine.0 M A.1) (λ on. goes u is more next last on M.under_way (still_up now next e fine.0 M ups) L.1.2 fine.1)
    where
      now : Timed
      now = at_time ms q pace v t

      next : Timed
      next = L.1.0

      A : (v + pace.clock i ≤ b.third + b.late) × Holds i qi t.world v
      A = aged t v L.0 H

      M : AtMember ms q pace within now next e
      M = moves ms q pace within now next go ups e L.1.1

      onward : StepsDown ms q pace next more i b.lost u ⊎ Remains last → StepsDown ms q pace t ((v, e) ∷ more) i b.lost u ⊎ Remains last
      onward (inl S) = inl (record {
        before = (v, e) ∷ S.before;
        after = S.after;
        parts = ap (λ (z : List (ℕ × Event)). (v, e) ∷ z) S.parts;
        reached = S.reached;
        leads = (L.0, (next, L.1.1, S.leads));
        by = S.by;
        left = S.left;
      })
      onward (inr R) = inr R

      by : Holds i qi next.world next.time ⊎ Stopped i next → (Holds i qi next.world next.time → StepsDown ms q pace next more i b.lost u ⊎ Remains last) → StepsDown ms q pace t ((v, e) ∷ more) i b.lost u ⊎ Remains last
      by (inl on) rest = onward (rest on)
      by (inr off) rest =
          let time : next.time ≡ v = M.time in
          let soon = A.0 in
          inl (record {
            before = (v, e) ∷ [];
            after = more;
            parts = refl;
            reached = next;
            leads = (L.0, (next, L.1.1, (here ms q pace next last more L.1.2, refl)));
            by = omega arith;
            left = off;
          })

-- ---- how it begins

serving_is : (p : Phase) → is_one_of serving p ≡ true → (p ≡ phase.Active) ⊎ (p ≡ phase.Updating)
serving_is phase.Active t = inl refl
serving_is phase.Updating t = inr refl
serving_is other t = absurd cc

module _ (ms : Monitors) (q : List Bool) (pace : Pace) (t last : Timed) (more : List (ℕ × Event)) (i m : ℕ) (many : 1 < ms.count) (within : (i : ℕ) → has q i ≡ true → i < ms.count)
    (qi : has q i ≡ true) (outside : has q m ≡ false) (in_map : m < ms.count) (B : Begins ms q pace t) (L : Leads ms q pace t more last) where
  abbrev me : Me
  me = member_of ms i (lt ms q pace within i qi)

  pub ups : (j : ℕ) → has q j ≡ true → IsSomeAnd (t.world.state j) (λ s. Unit {0})
  ups j qj =
      let k = lt ms q pace within j qj in
      let F = unpack (Waits (member_of ms j k) (pace.since + pace.clock j)) (t.world.state j) (B.wait j (member_of ms j k) qj (me_is ms j k)) in
      pack (λ s. Unit {0}) (t.world.state j) F.0 F.1 tt

  pub waiting : (s : State) × (t.world.state i ≡ Some s) × Waits me (pace.since + pace.clock i) s
  waiting = let k = lt ms q pace within i qi in unpack (Waits me (pace.since + pace.clock i)) (t.world.state i) (B.wait i me qi (me_is ms i k))

  pub go : AllGo ms q pace within t
  go f j qf qj = parts t.world f j (pace.since + pace.delay) 0 (t.under_way f j) (B.earlier f j qf qj)

  -- the leases are renewed by `first`, and its lease ends at most `longer` after the time that follows from that
  abbrev pub terms : (first third longer : ℕ) → Terms
  terms first third longer = record { lost = m; first = pace.since + pace.clock i + first; second = pace.since + pace.clock i + first + pace.late + 10000; third = pace.since + pace.clock i + third; late = pace.late; acknowledged = omega arith; shown = pace.since + pace.clock i + first + pace.late + 10000 + pace.late + 5000 + longer; leased = omega arith }

  abbrev pub From : (first third longer : ℕ) → State → Type 0
  From first third longer s = Serves (terms first third longer) (pace.since + pace.clock i) s.phase s.leader s.clients.queue s.timers

  pub active_from : (first third longer : ℕ) (s : State) → 3000 ≤ first → s.phase ≡ phase.Active → has s.leader.quorum m ≡ true → (s.clients.queue ≡ []) ⊎ MayBegin (terms first third longer) → LeaseBy s.leader (terms first third longer).shown → Waits me (pace.since + pace.clock i) s → From first third longer s
  active_from first third longer s long is among commands lease W = record {
    among = among;
    size = W.kinds;
    awaits = renewing is (omega arith) (λ end e. let k = W.soon timer.Renew end e in omega arith) (λ end e. let k = W.soon timer.LeaseAck end e in omega arith);
    commands = commands;
    lease = lease;
  }

  updating_from : (first third longer : ℕ) (s : State) → 10000 ≤ first → s.phase ≡ phase.Updating → has s.leader.quorum m ≡ true → (s.clients.queue ≡ []) ⊎ MayBegin (terms first third longer) → LeaseBy s.leader (terms first third longer).shown → Waits me (pace.since + pace.clock i) s → From first third longer s
  updating_from first third longer s long is among commands lease W = record {
    among = among;
    size = W.kinds;
    awaits = accepting is (omega arith) (λ end e. let k = W.soon timer.Accept end e in omega arith);
    commands = commands;
    lease = lease;
  }

  -- what holds at first of one that serves with the monitor
  module _ (E : World → Event → Type 0) (first third longer : ℕ) (early : pace.since + pace.clock i ≤ (terms first third longer).first) (in_order : (terms first third longer).second ≤ (terms first third longer).third)
      (asks : (w : World) (at : ℕ) (session : Session) (r : Request) → E w (Arrives (Client i at session r)) → Reads r ⊎ MayBegin (terms first third longer))
      (forwards : (w : World) (k at : ℕ) (m : Message) → E w (Arrives (Deliver k at)) → IsSent ms q pace within w k i m → IsForward m.body → MayBegin (terms first third longer)) where
    pub from_first : From first third longer waiting.0 → Holds ms q pace many within (terms first third longer) refl outside in_map i qi early in_order E asks forwards i qi t.world t.time
    from_first from =
        let time = B.time in record {
          state = waiting.0;
          up = waiting.1;
          waits = subst (λ (n : ℕ). Waits me (n + pace.clock i) waiting.0) (sym time) waiting.2;
          serves = subst (λ (n : ℕ). Serves (terms first third longer) (n + pace.clock i) (waiting.0).phase (waiting.0).leader (waiting.0).clients.queue (waiting.0).timers) (sym time) from;
        }

  module _ (E : World → Event → Type 0) (fine : EachIs ms q pace E t more last L) (first third longer u : ℕ) (ordered : first + pace.late + 10000 ≤ third) (is : pace.since + third + pace.late ≡ u)
      (asks : (w : World) (at : ℕ) (session : Session) (r : Request) → E w (Arrives (Client i at session r)) → Reads r ⊎ MayBegin (terms first third longer))
      (forwards : (w : World) (k at : ℕ) (m : Message) → E w (Arrives (Deliver k at)) → IsSent ms q pace within w k i m → IsForward m.body → MayBegin (terms first third longer)) where
    abbrev Served : Type 0
    Served = (last.time + pace.clock i ≤ (terms first third longer).third + pace.late) × IsSomeAnd (last.world.state i) (λ s. Serves (terms first third longer) (last.time + pace.clock i) s.phase s.leader s.clients.queue s.timers)

    -- it serves with the monitor at first, or it doesn't
    begun : (has (waiting.0).leader.quorum m ≡ true → is_one_of serving (waiting.0).phase ≡ true → From first third longer waiting.0) → StepsDown ms q pace t more i m u ⊎ Served
    begun from = by (is_one_of serving s.phase) refl (has s.leader.quorum m) refl
      where
        s : State
        s = waiting.0

        time : t.time ≡ pace.since
        time = B.time

        at_once : (ServesWith m s → ⊥) → StepsDown ms q pace t more i m u ⊎ Served
        at_once doesnt = inl (record {
          before = [];
          after = more;
          parts = refl;
          reached = t;
          leads = (here ms q pace t last more L, refl);
          by = omega (arith, is, time);
          left = pack (λ s. ServesWith m s → ⊥) (t.world.state i) s waiting.1 doesnt;
        })

        by : (x : Bool) → is_one_of serving s.phase ≡ x → (y : Bool) → has s.leader.quorum m ≡ y → StepsDown ms q pace t more i m u ⊎ Served
        by false f y g = at_once (λ S. false≢true (sym f ∙ S.serves))
        by true f false g = at_once (λ S. false≢true (sym g ∙ S.among))
        by true f true g =
            let b = terms first third longer in
            let early : pace.since + pace.clock i ≤ b.first = omega arith in
            let in_order : b.second ≤ b.third = omega arith in
            goes ms q pace many within b refl outside in_map i qi early in_order E asks forwards u (omega (arith, is)) more t last (from_first E first third longer early in_order asks forwards (from g f)) go ups L fine

    -- the run goes on for longer than it serves
    ends : u < last.time → StepsDown ms q pace t more i m u ⊎ Served → StepsDown ms q pace t more i m u
    ends late (inl S) = S
    ends late (inr K) = absurd (let k = K.0 in omega (arith, is))

  -- ---- whatever comes

  abbrev Any : World → Event → Type 0
  Any w e = Unit {0}

  any_event : (more : List (ℕ × Event)) (t last : Timed) (L : Leads ms q pace t more last) → EachIs ms q pace Any t more last L
  any_event [] t last L = tt
  any_event ((u, e) ∷ more) t last L = (tt, any_event more L.1.0 last L.1.2)

  -- the end of its lease at first
  abbrev pub longest : ℕ
  longest = or_zero (waiting.0).leader.lease

  pub leased_at_first : (u : ℕ) → longest ≤ u → LeaseBy (waiting.0).leader u
  leased_at_first u le end e = let same : longest ≡ end = ap or_zero e in omega arith

  pub serving_steps_down : pace.since + 30000 + 3 * pace.late < last.time → StepsDown ms q pace t more i m (pace.since + 30000 + 3 * pace.late)
  serving_steps_down late =
      let third = 30000 + 2 * pace.late in
      let u = pace.since + 30000 + 3 * pace.late in
      let is : pace.since + third + pace.late ≡ u = omega arith in
      let ordered : 10000 + pace.late + 10000 ≤ third = omega arith in
      let may : MayBegin (terms 10000 third longest) = omega arith in
      let lease = leased_at_first (terms 10000 third longest).shown (omega arith) in
      ends Any (any_event more t last L) 10000 third longest u ordered is (λ w at session r k. inr may) (λ w k at z c d f. may) late
      (begun Any (any_event more t last L) 10000 third longest u ordered is (λ w at session r k. inr may) (λ w k at z c d f. may)
      (λ g f. elim (serving_is (waiting.0).phase f) [
        | inl at ↦ active_from 10000 third longest waiting.0 (omega arith) at g (inr may) lease waiting.2
        | inr at ↦ updating_from 10000 third longest waiting.0 (omega arith) at g (inr may) lease waiting.2
      ]))

  -- what holds of the state at first
  at_first : (P : State → Type 0) → IsSomeAnd (t.world.state i) P → P waiting.0
  at_first P k = let A = unpack P (t.world.state i) k in subst P (one_state (t.world.state i) A.0 waiting.0 A.1 waiting.1) A.2

  pub active_steps_down : IsSomeAnd (t.world.state i) (λ s. s.phase ≡ phase.Active) → pace.since + 23000 + 3 * pace.late < last.time → StepsDown ms q pace t more i m (pace.since + 23000 + 3 * pace.late)
  active_steps_down active late =
      let third = 23000 + 2 * pace.late in
      let u = pace.since + 23000 + 3 * pace.late in
      let is : pace.since + third + pace.late ≡ u = omega arith in
      let ordered : 3000 + pace.late + 10000 ≤ third = omega arith in
      let may : MayBegin (terms 3000 third longest) = omega arith in
      let lease = leased_at_first (terms 3000 third longest).shown (omega arith) in
      ends Any (any_event more t last L) 3000 third longest u ordered is (λ w at session r k. inr may) (λ w k at z c d f. may) late
      (begun Any (any_event more t last L) 3000 third longest u ordered is (λ w at session r k. inr may) (λ w k at z c d f. may)
      (λ g f. active_from 3000 third longest waiting.0 (omega arith) (at_first (λ s. s.phase ≡ phase.Active) active) g (inr may) lease waiting.2))

  -- ---- its lease

  -- a leader that serves has its own lease
  own_lease : (s : State) {b : Terms} {now : ℕ} → Awaits b now s.phase s.leader s.timers → lease_of s ≡ s.leader.lease
  own_lease s A = of_serving (λ (p : Phase). cond (is_peon p) s.peon.lease (cond (is_leading p) s.leader.lease None) ≡ s.leader.lease) refl refl A

  over : (o : Option ℕ) (now u : ℕ) → ((end : ℕ) → o ≡ Some end → end ≤ u) → u ≤ now → stands o now ≡ false
  over None now u by le = refl
  over (Some end) now u by le = let k = by end refl in le-ltb now end (omega arith)

  pub lease_ends : IsSomeAnd (t.world.state i) (λ s. (s.phase ≡ phase.Active) × LeaseBy s.leader (pace.since + pace.clock i + 5000)) → pace.since + 18000 + 2 * pace.late < last.time
      → StepsDown ms q pace t more i m (pace.since + 23000 + 3 * pace.late) ⊎ IsSomeAnd (last.world.state i) (λ s. stands (lease_of s) (last.time + pace.clock i) ≡ false)
  lease_ends active late =
      let third = 23000 + 2 * pace.late in
      let u = pace.since + 23000 + 3 * pace.late in
      let is : pace.since + third + pace.late ≡ u = omega arith in
      let ordered : 3000 + pace.late + 10000 ≤ third = omega arith in
      let may : MayBegin (terms 3000 third 0) = omega arith in
      let A = at_first (λ s. (s.phase ≡ phase.Active) × LeaseBy s.leader (pace.since + pace.clock i + 5000)) active in
      elim (begun Any (any_event more t last L) 3000 third 0 u ordered is (λ w at session r k. inr may) (λ w k at z c d f. may)
      (λ g f. active_from 3000 third 0 waiting.0 (omega arith) A.0 g (inr may) (λ end e. let k = A.1 end e in omega arith) waiting.2)) [
        | inl S ↦ inl S
        | inr K ↦ inr (let Z = unpack (λ s. Serves (terms 3000 third 0) (last.time + pace.clock i) s.phase s.leader s.clients.queue s.timers) (last.world.state i) K.1 in
            let S = Z.2 in
            pack (λ s. stands (lease_of s) (last.time + pace.clock i) ≡ false) (last.world.state i) Z.0 Z.1
            (subst (λ (o : Option ℕ). stands o (last.time + pace.clock i) ≡ false) (sym (own_lease Z.0 S.awaits))
            (over (Z.0).leader.lease (last.time + pace.clock i) (terms 3000 third 0).shown S.lease (omega arith))))
      ]

  -- ---- if no command comes

  pub none_forwarded : (w : World) (k : ℕ) (z : Message) → IfSome (message_at w.messages k) (λ m. m.to ≡ i → IsForward m.message.body → ⊥) → IsSent ms q pace within w k i z → IsForward z.body → ⊥
  none_forwarded w k z c d f = subst (λ (o : Option Envelope). IfSome o (λ m. m.to ≡ i → IsForward m.message.body → ⊥)) d.there c refl f

  pub idle_steps_down : IsSomeAnd (t.world.state i) (λ s. (s.phase ≡ phase.Active) × (s.clients.queue ≡ [])) → EachIs ms q pace (BringsNone i) t more last L → pace.since + 13000 + 2 * pace.late < last.time
      → StepsDown ms q pace t more i m (pace.since + 13000 + 2 * pace.late)
  idle_steps_down active quiet late =
      let third = 13000 + pace.late in
      let u = pace.since + 13000 + 2 * pace.late in
      let is : pace.since + third + pace.late ≡ u = omega arith in
      let ordered : 3000 + pace.late + 10000 ≤ third = omega arith in
      let A = at_first (λ s. (s.phase ≡ phase.Active) × (s.clients.queue ≡ [])) active in
      let lease = leased_at_first (terms 3000 third longest).shown (omega arith) in
      ends (BringsNone i) quiet 3000 third longest u ordered is (λ w at session r k. inl (k refl)) (λ w k at z c d f. absurd (none_forwarded w k z c d f)) late
      (begun (BringsNone i) quiet 3000 third longest u ordered is (λ w at session r k. inl (k refl)) (λ w k at z c d f. absurd (none_forwarded w k z c d f))
      (λ g f. active_from 3000 third longest waiting.0 (omega arith) A.0 g (inl A.1) lease waiting.2))
