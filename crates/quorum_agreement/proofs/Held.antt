-- What is known of each version that was acknowledged, that it lasts, and what follows: every later active leader has it, and nobody shows
-- less in the same epoch.
use Rattle.law_names.proofs.Runs.{Acknowledged, Asked, IsKeptIn, Monitors, World, is_active, last_of}
use Rattle.law_names.proofs.Table.{Contains, Leader, Phase, State, Store, entry, epoch_of, has, is_leading, is_member, is_peon, lease_of, ops_in, put_in, readable, readings_of, stands, votes}
use Rattle.log_model.proofs.Logs.{IsPrefixOf, entry_stays}
use Rattle.mon_wire.specs.declared.phase.Phase.TheVariants as phase
use Rattle.quorum_agreement.proofs.Result.{there_marked}
use Rattle.quorum_history.proofs.History.{Entered, Ghost, RolesHold}
use Rattle.quorum_history.proofs.Holds.{Core, InPhase, LeadsIn, core_of, epoch_in, level_in}
use Rattle.quorum_history.proofs.Numbers.{level_is}
use Rattle.quorum_history.proofs.Phases.{no, votes_unmarked}
use Rattle.quorum_laws.proofs.Chosen.{leaders_know, stays_nothing}
use Rattle.quorum_laws.proofs.Invariant.{Further, InvOf, WasActive}
use Rattle.quorum_laws.proofs.Later.{Later}
use Rattle.quorum_laws.proofs.Reading.{accepted_as, state_holds}
use Rattle.quorum_laws.proofs.Whole.{was_active}
use Rattle.quorum_laws.specs.Accepting.{HasAccepted, IsMajorityOf, readings_at}
use Rattle.quorum_laws.specs.Values.{AcceptedNothing, has_heard}
use Rattle.quorum_model.specs.Kept.{LeaderHas}
use Rattle.quorum_walk.proofs.Ranks.{majorities}
use Rattle.quorum_walk.proofs.Sparing.{own_of}
use Rattle.std.proofs.Common.{Bool, List, None, Option, Some, ap, arith, cond, eqb, false, inl, inr, is_some, length, ltb, refl, subst, sym, true, ℕ, ◌%◌, ◌<◌, ◌||◌, ◌∙◌, ◌≡◌, ◌≤◌, ◌⊎◌}
use Rattle.std.proofs.lemmas.Bool.{and_parts, cases_lt, eqb-true, false≢true, or_cases}

-- A leader that isn't active yet gave no lease, and nobody waits for the value that it proposes again.
abbrev pub Still : Phase → Leader → Type 0
Still phase.Collecting l = l.lease ≡ None
Still phase.Previous l = (l.lease ≡ None) × (l.origin ≡ None)
Still other l = Unit {0}

-- the level of a monitor: the floor of a full synchronization that is under way, and else its last version
abbrev pub level_at : World → ℕ → ℕ
level_at w i = level_in (own_of (readings_at w i))

-- An acknowledged version is in the log, and the monitor that acknowledged it led its whole quorum in the epoch. That
-- monitor still has the version, or takes a full copy up to a floor that isn't below it. If there are several monitors,
-- all of that quorum accepted the version under the acknowledgement's number. Under a lower number each majority has a
-- rank that accepted nothing for it, and never will.
pub record IsHeld (n : ℕ) (w : World) (g : Ghost) (a : Acknowledged) : Type 0 where
  pub rank : ℕ
  pub below : rank < n
  pub own : a.what.pn % 100 ≡ rank
  pub event : a.event ≤ w.events
  pub some : 1 ≤ a.what.version
  pub within : a.what.version ≤ length w.log
  pub put : Contains (put_in a.what.service (ops_in (entry w.log a.what.version))) a.what.incremental
  pub led : WasActive n g (a.what.epoch, rank)
  pub level : a.what.version ≤ level_at w rank
  pub chosen : 1 < n → (m : ℕ) → has led.0 m ≡ true → HasAccepted w m a.what.version a.what.pn (entry w.log a.what.version)
  pub fresh : 1 < n → (lower : ℕ) (q : List Bool) → lower < a.what.pn → IsMajorityOf n q → AcceptedNothing w q a.what.version lower

-- ---- it lasts

pub record Onward (w next : World) (g h : Ghost) : Type 0 where
  pub further : Further g h
  pub log_prefix : IsPrefixOf w.log next.log
  pub events : w.events ≤ next.events
  pub later : Later w next
  pub levels : (i : ℕ) → level_at w i ≤ level_at next i
  pub accepted : (i v pn : ℕ) (bytes : List ℕ) → HasAccepted w i v pn bytes → HasAccepted next i v pn bytes
  pub acks : (a : Acknowledged) → Contains w.acknowledged a → Contains next.acknowledged a
  pub asked : (a : Asked) → Contains w.asked a → Contains next.asked a

pub held_lasts : (n : ℕ) (w next : World) (g h : Ghost) → Onward w next g h → (a : Acknowledged) → IsHeld n w g a → IsHeld n next h a
held_lasts n w next g h O a k = record {
  rank = k.rank;
  below = k.below;
  own = k.own;
  event = let e = k.event in let f = O.events in omega arith;
  some = k.some;
  within = let e = k.within in let f = O.log_prefix in let s = f.short in omega arith;
  put = subst (λ (e : List ℕ). Contains (put_in a.what.service (ops_in e)) a.what.incremental) (sym same) k.put;
  led = (let F = O.further in (k.led.0, F.roles _ k.led.1, λ m lt t. let j = k.led.2 m lt t in (j.0, F.roles _ j.1)));
  level = let l = k.level in let m = O.levels k.rank in omega arith;
  chosen = λ several m t. subst (HasAccepted next m a.what.version a.what.pn) (sym same) (O.accepted m a.what.version a.what.pn (entry w.log a.what.version) (k.chosen several m t));
  fresh = λ several lower q lt Q. stays_nothing w next O.later q a.what.version lower (k.fresh several lower q lt Q);
}
  where
    same : entry next.log a.what.version ≡ entry w.log a.what.version
    same = entry_stays O.log_prefix a.what.version k.within

-- ---- what follows

pub last_is : (m : Store) → (readings_of m).last ≡ last_of m
unfolding readings_of
last_is m = refl

module _ (ms : Monitors) (w : World) (J : InvOf ms w) (a : Acknowledged) (H : IsHeld ms.count w J.g a) where
  abbrev n : ℕ
  n = ms.count

  R : RolesHold n J.g.roles
  R = J.glob.roles

  -- the rank that acknowledged it has it, unless it is under a full synchronization
  itself : (i : ℕ) → i ≡ H.rank → (readings_at w i).marked ≡ false → a.what.version ≤ (readings_at w i).last
  itself i e u =
      let level : level_at w i ≡ (readings_at w i).last = level_is (own_of (readings_at w i)) u in
      let l = subst (λ (j : ℕ). a.what.version ≤ level_at w j) (sym e) H.level in
      omega (arith, level)

  alone : (i : ℕ) → i < n → (1 < n → ⊥) → i ≡ H.rank
  alone i lt one = let b = H.below in by (cases_lt 1 n)
    where
      by : (1 < n) ⊎ (n ≤ 1) → i ≡ H.rank
      by (inl more) = absurd (one more)
      by (inr le) = let b = H.below in omega arith

  -- ---- later leaders

  module _ (i : ℕ) (lt : i < n) (s : State) (up : w.state i ≡ Some s) where
    abbrev c : Core
    c = core_of (own_of (readings_at w i)) s

    leads_has : (L : ℕ → ℕ → Type 0) → is_active s.phase ≡ true → has_heard s.phase ≡ true → LeadsIn J.g i c L → a.what.pn ≤ s.leader.pn → a.what.version ≤ (readings_at w i).last
    leads_has L active heard k le = by (cases_lt a.what.pn s.leader.pn) (cases_lt 1 n)
      where
        later : 1 < n → a.what.pn < s.leader.pn → a.what.version ≤ (readings_at w i).last
        later several low =
            let role = k.reigns.role in
            let both = majorities n H.led.0 s.leader.quorum (R.major H.rank a.what.epoch H.rank H.led.0 H.led.1) (R.major i (epoch_in c.own) i s.leader.quorum role) (R.within H.rank a.what.epoch H.rank H.led.0 H.led.1) (R.within i (epoch_in c.own) i s.leader.quorum role) in
            let K = leaders_know ms w J i s up heard in
            elim (K.covered both.0 a.what.version a.what.pn (entry w.log a.what.version) both.2 (H.chosen several both.0 both.1) low) [
              | inl e ↦ e
              | inr r ↦ (let p = subst (λ (q : Phase). is_active q ≡ true) r.phase active in no p)
            ]

        by : (a.what.pn < s.leader.pn) ⊎ (s.leader.pn ≤ a.what.pn) → (1 < n) ⊎ (n ≤ 1) → a.what.version ≤ (readings_at w i).last
        by (inl low) (inl several) = later several low
        by (inl low) (inr one) = itself i (alone i lt (λ more. omega arith)) k.reigns.unmarked
        by (inr ge) t = let same : a.what.pn ≡ s.leader.pn = omega arith in itself i (sym k.own ∙ ap (λ (p : ℕ). p % 100) (sym same) ∙ H.own) k.reigns.unmarked

    in_phase_has : (p : Phase) → s.phase ≡ p → is_active p ≡ true → InPhase n J.g i c p → a.what.pn ≤ s.leader.pn → a.what.version ≤ (readings_at w i).last
    in_phase_has phase.Active e t k = leads_has _ (ap is_active e) (ap has_heard e) k.0
    in_phase_has phase.Updating e t k = leads_has _ (ap is_active e) (ap has_heard e) k.0
    in_phase_has other e t k = no t

    -- ---- whoever may show

    -- a leader of that epoch, which has its whole quorum, is who acknowledged it
    same_leader : (l : ℕ) → WasActive n J.g (a.what.epoch, l) → l ≡ H.rank
    same_leader l k =
        let both = majorities n k.0 H.led.0 (R.major l a.what.epoch l k.0 k.1) (R.major H.rank a.what.epoch H.rank H.led.0 H.led.1) (R.within l a.what.epoch l k.0 k.1) (R.within H.rank a.what.epoch H.rank H.led.0 H.led.1) in
        let below = R.within l a.what.epoch l k.0 k.1 both.0 both.1 in
        let first = k.2 both.0 below both.1 in
        let second = H.led.2 both.0 below both.2 in
        (R.once both.0 a.what.epoch l H.rank first.0 second.0 first.1 second.1).0

    module _ (now : ℕ) (may : readable (readings_at w i).last n (lease_of s) now ≡ true) (still : Still s.phase s.leader) (epoch : a.what.epoch ≡ epoch_of (readings_at w i)) where
      has_lease : 1 < n → (o : Option ℕ) → lease_of s ≡ o → is_some o ≡ true
      has_lease several o e = by o (elim (or_cases (eqb n 1) (stands (lease_of s) now) (and_parts (ltb 0 (readings_at w i).last) (eqb n 1 || stands (lease_of s) now) may).1) [ inl one ↦ (let q = eqb-true n 1 one in absurd (omega arith)) | inr t ↦ subst (λ (z : Option ℕ). stands z now ≡ true) e t ])
        where
          by : (o : Option ℕ) → stands o now ≡ true → is_some o ≡ true
          by None t = no t
          by (Some end) t = refl

      leader_shows : (p : Phase) → s.phase ≡ p → is_active p ≡ true → InPhase n J.g i c p → LeadsIn J.g i c (λ v r. ⊥) → a.what.version ≤ (readings_at w i).last
      leader_shows p e t k leads =
          let A = subst (λ (f : ℕ). WasActive n J.g (f, i)) (sym epoch) (was_active n J.g i c p t k) in
          itself i (same_leader i A) leads.reigns.unmarked

      gives_none : (p : Phase) → s.phase ≡ p → is_leading p ≡ true → is_peon p ≡ false → s.leader.lease ≡ None → (readings_at w i).marked ≡ false → a.what.version ≤ (readings_at w i).last
      gives_none p e t f none u = by (cases_lt 1 n)
        where
          lease : lease_of s ≡ None
          lease = ap (λ (q : Phase). cond (is_peon q) s.peon.lease (cond (is_leading q) s.leader.lease None)) e ∙ ap (λ (b : Bool). cond b s.peon.lease (cond (is_leading p) s.leader.lease None)) f ∙ ap (λ (b : Bool). cond b s.leader.lease None) t ∙ none

          by : (1 < n) ⊎ (n ≤ 1) → a.what.version ≤ (readings_at w i).last
          by (inl several) = no (has_lease several None lease)
          by (inr one) = itself i (alone i lt (λ more. omega arith)) u

      in_phase_shows : (p : Phase) → s.phase ≡ p → is_member p ≡ true → Still p s.leader → InPhase n J.g i c p → a.what.version ≤ (readings_at w i).last
      in_phase_shows phase.Collecting e t still k = gives_none phase.Collecting e refl refl still k.0.reigns.unmarked
      in_phase_shows phase.Previous e t still k = gives_none phase.Previous e refl refl still.0 k.0.reigns.unmarked
      in_phase_shows phase.Active e t still k = leader_shows phase.Active e refl k k.0
      in_phase_shows phase.Updating e t still k = leader_shows phase.Updating e refl k k.0
      in_phase_shows phase.Peon e t still k = by (cases_lt 1 n)
        where
          lease : lease_of s ≡ s.peon.lease
          lease = ap (λ (q : Phase). cond (is_peon q) s.peon.lease (cond (is_leading q) s.leader.lease None)) e

          by : (1 < n) ⊎ (n ≤ 1) → a.what.version ≤ (readings_at w i).last
          by (inr one) = itself i (alone i lt (λ more. omega arith)) k.unmarked
          by (inl several) =
              let given = has_lease several s.peon.lease lease in
              let F = k.led given in
              let at : epoch_in c.own ≡ a.what.epoch = sym epoch in
              let led : Entered J.g c.leader a.what.epoch c.leader F.quorum = subst (λ (f : ℕ). Entered J.g c.leader f c.leader F.quorum) at F.led in
              let same = same_leader c.leader (F.quorum, led, λ m lt t. let j = F.joined m t in (j.0, subst (λ (f : ℕ). Entered J.g m f c.leader j.0) at j.1)) in
              let role : Entered J.g i a.what.epoch c.leader c.members = subst (λ (f : ℕ). Entered J.g i f c.leader c.members) at k.role in
              let lead : Entered J.g H.rank a.what.epoch H.rank c.members = subst (λ (l : ℕ). Entered J.g l a.what.epoch l c.members) same (R.lead i a.what.epoch c.leader c.members role) in
              let quorum = (R.once H.rank a.what.epoch H.rank H.rank c.members H.led.0 lead H.led.1).1 in
              let mine : has H.led.0 i ≡ true = subst (λ (q : List Bool). has q i ≡ true) quorum (R.self i a.what.epoch c.leader c.members role) in
              let b = accepted_as ms w J i a.what.version a.what.pn (entry w.log a.what.version) (H.chosen several i mine) in
              k.clear given a.what.version a.what.pn b.0 b.2
      in_phase_shows phase.Booting e t still k = no t
      in_phase_shows phase.Probing e t still k = no t
      in_phase_shows phase.Synchronizing e t still k = no t
      in_phase_shows phase.Electing e t still k = no t

      pub shows_it : is_member s.phase ≡ true → a.what.version ≤ (readings_at w i).last
      shows_it member = in_phase_shows s.phase refl member still (state_holds ms w J i s up)

  active_votes : (p : Phase) → is_active p ≡ true → votes p ≡ true
  active_votes phase.Active t = refl
  active_votes phase.Updating t = refl
  active_votes other t = no t

  leader_has : (i : ℕ) → i < n → (o : Option State) → w.state i ≡ o → LeaderHas a.what o (w.store i)
  leader_has i lt None e = tt
  leader_has i lt (Some s) e = λ t le.
      let K = state_holds ms w J i s e in
      let k = in_phase_has i lt s e s.phase refl t K le in
      let l = last_is (w.store i) in
      (omega arith, λ marked. false≢true (sym (votes_unmarked n J.g i (core_of (own_of (readings_at w i)) s) s.phase (active_votes s.phase t) K) ∙ there_marked (w.store i) marked))

  pub is_kept : IsKeptIn n w a
  is_kept = record { some = H.some; within = H.within; put = H.put; leaders = λ i lt. leader_has i lt (w.state i) refl }
