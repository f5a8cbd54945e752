-- What every run says of a quorum that is led in it: its log, and how far its members are.
use Rattle.law_names.proofs.Runs.{Envelope, Monitors, Reached, World, last_of, message_at}
use Rattle.law_names.proofs.Table.{Phase, Readings, State, epoch_of, has, is_leading, is_member, is_peon, no_ranks, promise_of, readings_of}
use Rattle.mon_wire.specs.declared.phase.Phase.TheVariants as phase
use Rattle.quorum_elects.specs.Ready.{LacksAtMost}
use Rattle.quorum_history.proofs.History.{AnEpoch}
use Rattle.quorum_history.proofs.Holds.{FollowsIn, InPhase, core_of}
use Rattle.quorum_laws.proofs.Elections.{quorum_holds}
use Rattle.quorum_laws.proofs.Invariant.{EnvelopeHolds, InvOf}
use Rattle.quorum_laws.proofs.Reading.{at_least, state_holds}
use Rattle.quorum_laws.specs.Accepting.{readings_at}
use Rattle.quorum_laws.specs.Elections.{IsMember, IsQuorum}
use Rattle.quorum_model.proofs.Reached.{world_is}
use Rattle.quorum_near.proofs.Whole.{Holds, held, last_read, mark_read}
use Rattle.quorum_recovers.proofs.Known.{within_log}
use Rattle.quorum_stays.specs.Steady.{Begun, Follower, FollowsSince, Keeps, Leads, Reign, Round, Steady, leased}
use Rattle.quorum_timed.specs.Timed.{Pace, Timed}
use Rattle.quorum_walk.proofs.Sparing.{own_of}
use Rattle.std.proofs.Common.{Bool, IfSome, IsSomeAnd, List, None, Option, Some, ap, arith, cond, false, inl, inr, length, refl, subst, suc, sym, true, zero, ℕ, ◌+◌, ◌<◌, ◌∙◌, ◌≡◌, ◌≤◌, ◌⊎◌}
use Rattle.std.proofs.lemmas.Bool.{cases_eq}
use Rattle.table_walk.proofs.Lists.{all_get}
use Rattle.timed_election.proofs.Lists.{opened}
use Rattle.timed_failover.proofs.Owned.{Owns, owned}
use Rattle.timed_failover.proofs.WholeLog.{leads, whole}
use Rattle.timed_failover.specs.Reached.{IsAsLed}

-- it has the version, or lacks it alone and accepted a value for it last
abbrev pub HasOrAccepted : (version : ℕ) → Readings → Type 0
HasOrAccepted version w = (w.last ≡ version) ⊎ ((suc w.last ≡ version) × (w.pending_v ≡ version))

pub reached_holds : (ms : Monitors) (several : 1 < ms.count) (w : World) → Reached ms w → Holds ms several w
reached_holds ms several w R = subst (Holds ms several) (world_is ms w R) (held ms several R.events R.fit)

-- a message is of no later epoch than its sender
pub sent_epoch_in : (ms : Monitors) (w : World) (I : InvOf ms w) (k : ℕ) (m : Envelope) → message_at w.messages k ≡ Some m → m.message.epoch ≤ epoch_of (readings_at w m.message.from)
sent_epoch_in ms w I zero m there = absurd cc
sent_epoch_in ms w I (suc k) m there =
    let E : EnvelopeHolds ms.count I.g m = subst (λ (o : Option Envelope). IfSome o (EnvelopeHolds ms.count I.g)) there (all_get (EnvelopeHolds ms.count I.g) w.messages k I.sent) in
    at_least ms w I AnEpoch m.message.from m.message.epoch (E.1).epoch

-- a leader that serves promised its number
pub own_promise : (ms : Monitors) (w : World) (I : InvOf ms w) (i : ℕ) (s : State) → w.state i ≡ Some s → (s.phase ≡ phase.Active) ⊎ (s.phase ≡ phase.Updating) → s.leader.pn ≡ promise_of (readings_at w i)
own_promise ms w I i s up (inl e) = let k = subst (InPhase ms.count I.g i (core_of (own_of (readings_at w i)) s)) e (state_holds ms w I i s up) in (k.0).promised
own_promise ms w I i s up (inr e) = let k = subst (InPhase ms.count I.g i (core_of (own_of (readings_at w i)) s)) e (state_holds ms w I i s up) in (k.0).promised

-- what a peon keeps of a round
pub keeps_last : (r : Round) (heard : ℕ) (w : Readings) → Keeps r heard w → HasOrAccepted r.version w
keeps_last r zero w K = inr (K.0, K.1)
keeps_last r (suc zero) w K = inl K.0
keeps_last r (suc (suc zero)) w K = inl K.0
keeps_last r (suc (suc (suc h))) w K = inl K.0

-- ---- the leader

-- what a leader remembers, whether a value is in progress or not
pub record IsLeader (q : List Bool) (reign : Reign) (s : State) : Type 0 where
  pub serves : (s.phase ≡ phase.Active) ⊎ (s.phase ≡ phase.Updating)
  pub quorum : s.leader.quorum ≡ q
  pub number : s.leader.pn ≡ reign.pn

is_leader : (n : ℕ) (q : List Bool) (pace : Pace) (reign : Reign) (r : Round) (o : Option Begun) (s : State) → Leads n q pace reign r o s → IsLeader q reign s
is_leader n q pace reign r None s L = record { serves = inl L.leads; quorum = L.quorum; number = L.number }
is_leader n q pace reign r (Some b) s L = let P = L.proposes in record { serves = inr P.leads; quorum = P.quorum; number = P.number }

module _ (ms : Monitors) (q : List Bool) (pace : Pace) (reign : Reign) (r : Round) (t : Timed) (R : Reached ms t.world) (S : Steady ms q pace reign r t) where
  pub several : 1 < ms.count
  several = let a = S.members reign.leader S.leads in let b = S.members S.second S.second_in in let ne = S.second_is in omega arith

  pub near_holds : Holds ms several t.world
  near_holds = reached_holds ms several t.world R

  abbrev pub I : InvOf ms t.world
  I = near_holds.0.0

  owns : Owns ms several t.world
  owns = subst (Owns ms several) (world_is ms t.world R) (owned ms several R.events R.fit)

  lead : (s : State) × (t.world.state reign.leader ≡ Some s) × IsLeader q reign s
  lead = let o = opened (Leads ms.count q pace reign r r.next) (t.world.state reign.leader) S.lead in (o.0, o.1, is_leader ms.count q pace reign r r.next o.0 o.2)

  -- the leader is in its quorum, which is a majority, in an even epoch
  pub of_quorum : IsQuorum ms.count reign.leader reign.epoch reign.leader q
  of_quorum = let l = lead in quorum_holds ms t.world I reign.leader reign.epoch reign.leader q (by l.0 l.1 l.2)
    where
      of : (s : State) → t.world.state reign.leader ≡ Some s → (p : Phase) → s.phase ≡ p → is_member p ≡ true → cond (is_peon p) s.peon.leader reign.leader ≡ reign.leader
          → cond (is_peon p) s.peon.quorum (cond (is_leading p) s.leader.quorum no_ranks) ≡ q → IsMember t.world reign.leader reign.epoch reign.leader q
      of s up p is member leader quorum = record {
        state = s;
        up = up;
        member = ap is_member is ∙ member;
        epoch = S.epoch;
        leader = ap (λ (z : Phase). cond (is_peon z) s.peon.leader reign.leader) is ∙ leader;
        quorum = ap (λ (z : Phase). cond (is_peon z) s.peon.quorum (cond (is_leading z) s.leader.quorum no_ranks)) is ∙ quorum;
      }

      by : (s : State) → t.world.state reign.leader ≡ Some s → IsLeader q reign s → IsMember t.world reign.leader reign.epoch reign.leader q
      by s up L = elim L.serves [ inl e ↦ of s up phase.Active e refl refl L.quorum | inr e ↦ of s up phase.Updating e refl refl L.quorum ]

  -- ---- the peons

  module _ (i : ℕ) (qi : has q i ≡ true) (ne : i ≡ reign.leader → ⊥) where
    abbrev P : Follower ms q pace reign r t.world.messages (t.time + pace.delay) i (t.world.state i) (t.world.state reign.leader) (readings_of (t.world.store i)) (t.under_way reign.leader i) (t.under_way i reign.leader)
    P = S.peons i qi ne

    pub peon_unmarked : (readings_of (t.world.store i)).marked ≡ false
    peon_unmarked = by (t.world.state i) refl P.follows
      where
        by : (o : Option State) → t.world.state i ≡ o → IsSomeAnd o (FollowsSince reign.leader q (leased r P.heard + pace.clock i)) → (readings_of (t.world.store i)).marked ≡ false
        by None is k = absurd k
        by (Some s) is F =
            let K : FollowsIn I.g i (core_of (own_of (readings_at t.world i)) s) = subst (InPhase ms.count I.g i (core_of (own_of (readings_at t.world i)) s)) F.follows (state_holds ms t.world I i s is) in
            K.unmarked

    pub peon_last : HasOrAccepted r.version (readings_of (t.world.store i))
    peon_last = keeps_last r P.heard (readings_of (t.world.store i)) P.keeps

  -- ---- the log

  -- all members promised the leader's number and no greater one
  pub promise_is : (i : ℕ) → has q i ≡ true → promise_of (readings_of (t.world.store i)) ≡ reign.pn
  promise_is i qi = elim (cases_eq i reign.leader) [
    | inr ne ↦ (let P = S.peons i qi ne in P.promise)
    | inl same ↦ (let l = lead in let L = l.2 in ap (λ (j : ℕ). promise_of (readings_at t.world j)) same ∙ sym (own_promise ms t.world I reign.leader l.0 l.1 L.serves) ∙ L.number)
  ]

  pub log_and_mark : (length t.world.log ≡ r.version) × ((readings_of (t.world.store reign.leader)).marked ≡ false)
  log_and_mark = let l = lead in by l.0 l.1 l.2
    where
      by : (s : State) → t.world.state reign.leader ≡ Some s → IsLeader q reign s → (length t.world.log ≡ r.version) × ((readings_of (t.world.store reign.leader)).marked ≡ false)
      by s up L =
          let within = λ (i : ℕ) (qi : has q i ≡ true). subst (λ (z : List Bool). has z i ≡ true) (sym L.quorum) qi in
          let low : (i : ℕ) → has q i ≡ true → promise_of (readings_at t.world i) ≤ s.leader.pn = λ i qi. (let p = promise_is i qi in let n = L.number in omega arith) in
          let Q = of_quorum in
          let most = whole ms several t.world owns reign.leader s up L.serves q Q.major within low in
          let own = leads ms several t.world owns reign.leader s up L.serves q Q.major within low in
          let least = within_log ms several t.world near_holds reign.leader own.2 own.1 in
          let last = S.last in
          (omega arith, own.1)

  pub as_led : IsAsLed q reign t.world
  as_led = record { leader = S.last ∙ sym log_and_mark.0; members = lacks }
    where
      lacks : (i : ℕ) → has q i ≡ true → LacksAtMost 1 t.world i
      lacks i qi = elim (cases_eq i reign.leader) [
        | inl same ↦ subst (LacksAtMost 1 t.world) (sym same) (record {
          unmarked = sym (mark_read (t.world.store reign.leader)) ∙ log_and_mark.1;
          near = (let a = last_read (t.world.store reign.leader) in let b = S.last in let c = log_and_mark.0 in omega arith);
        })
        | inr ne ↦ record { unmarked = sym (mark_read (t.world.store i)) ∙ peon_unmarked i qi ne; near = near (peon_last i qi ne) }
      ]
        where
          near : HasOrAccepted r.version (readings_of (t.world.store i)) → length t.world.log ≤ last_of (t.world.store i) + 1
          near (inl e) = let a = last_read (t.world.store i) in let c = log_and_mark.0 in omega arith
          near (inr k) = let e = k.0 in let a = last_read (t.world.store i) in let c = log_and_mark.0 in omega arith

  pub sent_epoch : (k : ℕ) (m : Envelope) → message_at t.world.messages k ≡ Some m → m.message.epoch ≤ epoch_of (readings_at t.world m.message.from)
  sent_epoch = sent_epoch_in ms t.world I
