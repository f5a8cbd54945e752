-- What holds in a phase that a test names.
use Rattle.law_names.proofs.Table.{AllByRecursion, Course, Me, Op, Phase, Waiting, epoch_of, is_even, is_leading, is_peon, same_phase, votes}
use Rattle.mon_wire.specs.declared.phase.Phase.TheVariants as phase
use Rattle.quorum_history.proofs.History.{Ghost, RolesHold}
use Rattle.quorum_history.proofs.Holds.{At, Core, Good, InPhase, LeadsIn, StandsIn, Waits, core, epoch_in}
use Rattle.quorum_history.proofs.Steps.{weaken}
use Rattle.std.proofs.Common.{Bool, List, false, inl, inr, refl, subst, sym, true, ℕ, ◌||◌, ◌∙◌, ◌≡◌}
use Rattle.std.proofs.lemmas.Bool.{false≢true, or_cases}

pub no : {A : Type 0} → false ≡ true → A
no e = absurd (false≢true e)

pub electing_is : (p : Phase) → same_phase p phase.Electing ≡ true → p ≡ phase.Electing
electing_is phase.Electing e = refl
electing_is other e = no e

-- the phases that rows of a leader name
pub same_leads : (p q : Phase) → is_leading q ≡ true → same_phase p q ≡ true → is_leading p ≡ true
same_leads phase.Collecting q l e = refl
same_leads phase.Previous q l e = refl
same_leads phase.Active q l e = refl
same_leads phase.Updating q l e = refl
same_leads phase.Booting phase.Booting l e = no l
same_leads phase.Booting other l e = no e
same_leads phase.Probing phase.Probing l e = no l
same_leads phase.Probing other l e = no e
same_leads phase.Synchronizing phase.Synchronizing l e = no l
same_leads phase.Synchronizing other l e = no e
same_leads phase.Electing phase.Electing l e = no l
same_leads phase.Electing other l e = no e
same_leads phase.Peon phase.Peon l e = no l
same_leads phase.Peon other l e = no e

leads_or : (b : Bool) (p q : Phase) → is_leading q ≡ true → (b ≡ true → is_leading p ≡ true) → (same_phase p q || b) ≡ true → is_leading p ≡ true
leads_or b p q l f e = elim (or_cases (same_phase p q) b e) [ inl s ↦ same_leads p q l s | inr r ↦ f r ]

pub collecting_is : (p : Phase) → (same_phase p phase.Collecting || false) ≡ true → p ≡ phase.Collecting
collecting_is phase.Collecting e = refl
collecting_is other e = no e

pub any_leads : (p : Phase) → (same_phase p phase.Collecting || (same_phase p phase.Previous || (same_phase p phase.Active || (same_phase p phase.Updating || false)))) ≡ true → is_leading p ≡ true
any_leads p = leads_or _ p phase.Collecting refl (leads_or _ p phase.Previous refl (leads_or _ p phase.Active refl (leads_or _ p phase.Updating refl no)))

pub peon_is_peon : (p : Phase) → is_peon p ≡ true → p ≡ phase.Peon
peon_is_peon phase.Peon e = refl
peon_is_peon other e = no e

pub active_is : (p : Phase) → same_phase p phase.Active ≡ true → p ≡ phase.Active
active_is phase.Active e = refl
active_is other e = no e

-- ---- what holds in it

pub requeued : (g : Ghost) (i : ℕ) (c : Core) (ws : List Waiting) (L : ℕ → ℕ → Type 0) → (AllByRecursion (Waits g i (epoch_in c.own)) c.queue → AllByRecursion (Waits g i (epoch_in c.own)) ws) → LeadsIn g i c L → LeadsIn g i (record c { queue = ws }) L
requeued g i c ws L f k = record { reigns = record { role = k.reigns.role; unmarked = k.reigns.unmarked; queue = f k.reigns.queue }; made = k.made; promised = k.promised; own = k.own; heard = k.heard }

pub queue_in : (n : ℕ) (g : Ghost) (i : ℕ) (c : Core) (ws : List Waiting) (p : Phase) → is_leading p ≡ true → (AllByRecursion (Waits g i (epoch_in c.own)) c.queue → AllByRecursion (Waits g i (epoch_in c.own)) ws) → InPhase n g i c p → InPhase n g i (record c { queue = ws }) p
queue_in n g i c ws phase.Collecting e f k = (requeued g i c ws _ f k.0, k.1)
queue_in n g i c ws phase.Previous e f k = (requeued g i c ws _ f k.0, k.1, k.2)
queue_in n g i c ws phase.Active e f k = (requeued g i c ws _ f k.0, k.1, k.2)
queue_in n g i c ws phase.Updating e f k = (requeued g i c ws _ f k.0, k.1, k.2)
queue_in n g i c ws other e f k = no e

-- a monitor that votes in an odd epoch is electing: it is in no quorum
pub votes_in_odd : (n : ℕ) (h : Ghost) (i : ℕ) (c : Core) (p : Phase) → RolesHold n h.roles → is_even (epoch_in c.own) ≡ false → votes p ≡ true → InPhase n h i c p → p ≡ phase.Electing
votes_in_odd n h i c phase.Electing G odd v k = refl
votes_in_odd n h i c phase.Peon G odd v k = no (sym odd ∙ G.even i (epoch_in c.own) c.leader c.members k.role)
votes_in_odd n h i c phase.Booting G odd v k = no v
votes_in_odd n h i c phase.Probing G odd v k = no v
votes_in_odd n h i c phase.Synchronizing G odd v k = no v
votes_in_odd n h i c other G odd v k = no (sym odd ∙ G.even i (epoch_in c.own) i c.quorum k.0.reigns.role)

-- a monitor that votes is under no full synchronization
pub votes_unmarked : (n : ℕ) (h : Ghost) (i : ℕ) (c : Core) (p : Phase) → votes p ≡ true → InPhase n h i c p → c.own.marked ≡ false
votes_unmarked n h i c phase.Electing v k = k.unmarked
votes_unmarked n h i c phase.Peon v k = k.unmarked
votes_unmarked n h i c phase.Booting v k = no v
votes_unmarked n h i c phase.Probing v k = no v
votes_unmarked n h i c phase.Synchronizing v k = no v
votes_unmarked n h i c other v k = k.0.reigns.unmarked

-- ---- of a monitor

module _ (me : Me) (g : Ghost) (Known : ℕ → List Op → Type 0) (x : Course) where
  -- what it has if its phase is known
  pub in_known : (p : Phase) → x.state.phase ≡ p → Good me g Known x → At me g Known (λ h. InPhase me.member.monitors h me.member.rank (core x) p) x
  in_known p e A = weaken _ _ A (λ h E G D k. subst (InPhase me.member.monitors h me.member.rank (core x)) e k)

  pub as_known : (p : Phase) → x.state.phase ≡ p → At me g Known (λ h. InPhase me.member.monitors h me.member.rank (core x) p) x → Good me g Known x
  as_known p e A = weaken _ _ A (λ h E G D k. subst (InPhase me.member.monitors h me.member.rank (core x)) (sym e) k)

  pub unmarked_of : Good me g Known x → votes x.state.phase ≡ true → x.readings.marked ≡ false
  unmarked_of A v = votes_unmarked me.member.monitors A.h me.member.rank (core x) x.state.phase v A.fact

  pub stands_of : x.state.phase ≡ phase.Electing → Good me g Known x → StandsIn me.member.monitors me.member.rank (core x)
  stands_of e A = subst (InPhase me.member.monitors A.h me.member.rank (core x)) e A.fact

  pub in_odd_epoch_electing : Good me g Known x → votes x.state.phase ≡ true → is_even (epoch_of x.readings) ≡ false → x.state.phase ≡ phase.Electing
  in_odd_epoch_electing A v odd = votes_in_odd me.member.monitors A.h me.member.rank (core x) x.state.phase A.glob.roles odd v A.fact
