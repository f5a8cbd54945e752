-- What a monitor's history says of its state and of its input, as the step of one event over the log needs it.
use Rattle.law_names.proofs.Table.{Cell, Me, Op, Phase, Readings, State, SyncStage, Told, are_within, count_of, epoch_of, has, is_even, is_leading, is_majority, same_phase, votes, with_rank}
use Rattle.log_copies.proofs.Agreeing.{IsRecent, RecentStage}
use Rattle.log_copies.proofs.Rows.{HasOthers}
use Rattle.mon_msg.specs.declared.synchronization.SyncStage.TheVariants as sync
use Rattle.mon_wire.specs.declared.phase.Phase.TheVariants as phase
use Rattle.quorum_agreement.proofs.Chosen.{Chosen}
use Rattle.quorum_agreement.proofs.Others.{others}
use Rattle.quorum_history.proofs.History.{ALevel, Accepted, Entered, Ghost, Glob, Had}
use Rattle.quorum_history.proofs.Holds.{Answers, Core, Disk, InPhase, LeadsIn, ProposesIn, RequestsIn, StageHolds, StandsIn, core_of, epoch_in}
use Rattle.quorum_history.proofs.Numbers.{level_is}
use Rattle.quorum_history.proofs.Phases.{electing_is, no}
use Rattle.quorum_walk.proofs.Ranks.{has_with_is, whole_major, within_at}
use Rattle.quorum_walk.proofs.Sparing.{own_of}
use Rattle.std.proofs.Common.{Bool, List, Option, Some, arith, eqb, false, inl, inr, refl, subst, suc, sym, true, ℕ, ◌<◌, ◌∙◌, ◌≡◌, ◌≤◌, ◌⊎◌}

module _ (me : Me) (g : Ghost) (w : Readings) (s : State) (G : Glob me.member.monitors g) where
  abbrev n : ℕ
  n = me.member.monitors

  abbrev i : ℕ
  i = me.member.rank

  abbrev c : Core
  c = core_of (own_of w) s

  -- ---- what a monitor has in a phase that a test names

  role_in : (p : Phase) → is_leading p ≡ true → InPhase n g i c p → Entered g i (epoch_in c.own) i c.quorum
  role_in phase.Collecting t k = k.0.reigns.role
  role_in phase.Previous t k = k.0.reigns.role
  role_in phase.Active t k = k.0.reigns.role
  role_in phase.Updating t k = k.0.reigns.role
  role_in other t k = no t

  stands_in : (p : Phase) → same_phase p phase.Electing ≡ true → InPhase n g i c p → StandsIn n i c
  stands_in p t k = subst (InPhase n g i c) (electing_is p t) k

  pub requests_in : (p : Phase) → same_phase p phase.Synchronizing ≡ true → InPhase n g i c p → RequestsIn g c
  requests_in phase.Synchronizing t k = k
  requests_in other t k = no t

  -- a monitor that votes in an odd epoch is a candidate
  odd_stands : (p : Phase) → votes p ≡ true → is_even (epoch_of w) ≡ false → InPhase n g i c p → StandsIn n i c
  odd_stands phase.Electing t odd k = k
  odd_stands phase.Peon t odd k = no (sym odd ∙ G.roles.even i (epoch_in c.own) c.leader c.members k.role)
  odd_stands phase.Booting t odd k = no t
  odd_stands phase.Probing t odd k = no t
  odd_stands phase.Synchronizing t odd k = no t
  odd_stands other t odd k = no (sym odd ∙ G.roles.even i (epoch_in c.own) i c.quorum k.0.reigns.role)

  module _ (several : 1 < n) (K : InPhase n g i c s.phase) where
    -- ---- it has others

    pub leads_others : is_leading s.phase ≡ true → HasOthers me s.leader.quorum
    leads_others t =
        let role = role_in s.phase t K in
        let R = G.roles in
        others me s.leader.quorum several (R.major i (epoch_in c.own) i c.quorum role) (R.within i (epoch_in c.own) i c.quorum role)

    pub elects_others : same_phase s.phase phase.Electing ≡ true → is_majority n s.elector.acked ≡ true → HasOthers me s.elector.acked
    elects_others t major = let S = stands_in s.phase t K in others me s.elector.acked several major S.within

    pub ack_others : (f : ℕ) → f < n → votes s.phase ≡ true → is_even (epoch_of w) ≡ false → eqb (count_of (with_rank s.elector.acked f)) n ≡ true → HasOthers me (with_rank s.elector.acked f)
    ack_others f known t odd whole =
        let S = odd_stands s.phase t odd K in
        others me (with_rank s.elector.acked f) several (whole_major n (with_rank s.elector.acked f) (omega arith) whole) (λ m h. elim (has_with_is s.elector.acked f m h) [ inl e ↦ (omega arith) | inr o ↦ S.within m o ])

    -- ---- it asks for versions

    pub recent : w.marked ≡ false → same_phase s.phase phase.Synchronizing ≡ true → IsRecent w s.requester
    recent unmarked t = let R = requests_in s.phase t K in record { full = R.0 ∙ unmarked; stage = by s.requester.stage (R.0 ∙ unmarked) R.1 }
      where
        by : (z : SyncStage) → s.requester.full ≡ false → StageHolds g w.last w.floor s.requester.provider s.requester.full s.requester.start s.requester.place.version z → RecentStage w z s.requester.place
        by sync.Cookie e k = tt
        by sync.Chunks e k = k.1 e
        by (sync.Replay next end) e k = no (sym e ∙ k.0)

    -- ---- all of its quorum accepted its value

    -- the value that the leader proposes is chosen, once this answer counts
    pub record Completed (f : ℕ) : Type 0 where
      pub x : List Op
      pub is : s.leader.value ≡ Some x
      pub chosen : Chosen n g (suc w.last) x
      pub number : chosen.pn ≡ s.leader.pn
      pub quorum : chosen.by ≡ s.leader.quorum

    completes : (f pn v : ℕ) (value : List Op) (L : ℕ → ℕ → Type 0) → LeadsIn g i c L → (P : ProposesIn g i c) → pn ≡ s.leader.pn → v ≡ suc w.last → Accepted g f v pn value
        → are_within n s.leader.quorum (with_rank s.leader.accepted f) ≡ true → Completed f
    completes f pn v value L k P same next a all = record {
      x = P.x;
      is = P.is;
      chosen = record { pn = s.leader.pn; by = s.leader.quorum; major = G.roles.major i (epoch_in c.own) i c.quorum k.reigns.role; below = below; all = each };
      number = refl;
      quorum = refl;
    }
      where
        below : (m : ℕ) → has s.leader.quorum m ≡ true → m < n
        below = G.roles.within i (epoch_in c.own) i c.quorum k.reigns.role

        now : Accepted g f (suc w.last) s.leader.pn value
        now = subst (λ (p : ℕ). Accepted g f (suc w.last) p value) same (subst (λ (u : ℕ). Accepted g f u pn value) next a)

        by : (m : ℕ) → (m ≡ f) ⊎ (has s.leader.accepted m ≡ true) → Accepted g m (suc w.last) s.leader.pn P.x
        by m (inl e) =
            let x_is = G.triples.one f i (suc w.last) s.leader.pn value P.x now P.was in
            subst (λ (z : ℕ). Accepted g z (suc w.last) s.leader.pn P.x) (sym e) (subst (Accepted g f (suc w.last) s.leader.pn) x_is now)
        by m (inr o) = P.counted m o

        each : (m : ℕ) → has s.leader.quorum m ≡ true → Accepted g m (suc w.last) s.leader.pn P.x
        each m h = by m (has_with_is s.leader.accepted f m (within_at n s.leader.quorum (with_rank s.leader.accepted f) m all (below m h) h))

    pub accept_completes : (f pn v : ℕ) (value : List Op) → (s.phase ≡ phase.Previous) ⊎ (s.phase ≡ phase.Updating) → pn ≡ s.leader.pn → v ≡ suc w.last → Accepted g f v pn value
        → are_within n s.leader.quorum (with_rank s.leader.accepted f) ≡ true → Completed f
    accept_completes f pn v value p same next a all = by p
      where
        by : (s.phase ≡ phase.Previous) ⊎ (s.phase ≡ phase.Updating) → Completed f
        by (inl e) = let k = subst (InPhase n g i c) e K in completes f pn v value _ k.0 k.2 same next a all
        by (inr e) = let k = subst (InPhase n g i c) e K in completes f pn v value _ k.0 k.2 same next a all

  -- ---- what comes

  module _ (records : ℕ → Cell) (D : Disk g i (own_of w) records) (unmarked : w.marked ≡ false) where
    at_last : (v : ℕ) → Had g ALevel i v → v ≤ w.last
    at_last v a = let s = D.numbers.top ALevel v a in let e = level_is (own_of w) unmarked in omega arith

    pub last_follows : (f e pn last first : ℕ) (whole : Bool) (values : List (List Op)) (told : Option Told) → Answers g f i e pn last whole first values told → first ≤ suc w.last
    last_follows f e pn last first whole values told A = let b = at_last A.base A.behind in let q = A.from in omega arith

    pub place_reached : (v : ℕ) → Had g ALevel i v → v ≤ w.last
    place_reached v a = at_last v a
