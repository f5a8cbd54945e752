-- A mark of an epoch is a version below which nobody reads in that epoch. What was shown in an epoch is a mark.
use Rattle.law_names.proofs.Runs.{Envelope, Monitors, World}
use Rattle.law_names.proofs.Table.{AllByRecursion, Body, Phase, State, epoch_of, has, is_leading, is_member, is_peon, lease_of, readable, stands}
use Rattle.mon_wire.specs.declared.body.Body.TheVariants as body
use Rattle.mon_wire.specs.declared.phase.Phase.TheVariants as phase
use Rattle.quorum_agreement.proofs.Held.{Still, level_at}
use Rattle.quorum_answers.proofs.Saying.{has_answers}
use Rattle.quorum_history.proofs.History.{Entered, Ghost, RolesHold}
use Rattle.quorum_history.proofs.Holds.{Core, Followed, FollowsIn, InPhase, core_of, epoch_in}
use Rattle.quorum_history.proofs.Numbers.{level_is}
use Rattle.quorum_history.proofs.Phases.{no}
use Rattle.quorum_laws.proofs.Invariant.{Further, InvOf, WasActive}
use Rattle.quorum_laws.proofs.Later.{Later}
use Rattle.quorum_laws.proofs.Reading.{accepted_as, state_holds}
use Rattle.quorum_laws.specs.Accepting.{HasAccepted, readings_at}
use Rattle.quorum_walk.proofs.Lists.{Among, all_among, all_append, among_left}
use Rattle.quorum_walk.proofs.Ranks.{majorities, within_at}
use Rattle.quorum_walk.proofs.Sparing.{own_of}
use Rattle.std.proofs.Common.{Bool, List, None, Option, Some, ap, arith, cond, eqb, false, inl, inr, is_some, length, ltb, refl, subst, suc, sym, true, ℕ, ◌++◌, ◌+◌, ◌<◌, ◌||◌, ◌∙◌, ◌≡◌, ◌≤◌, ◌⊎◌}
use Rattle.std.proofs.lemmas.Bool.{and_parts, eqb-true, or_cases}

-- the body is no LEASE of epoch e with a version below v
abbrev pub NotBelow : (e v f : ℕ) → Body → Type 0
NotBelow e v f (body.Lease last) = f ≡ e → v ≤ last
NotBelow e v f other = Unit {0}

abbrev pub HasNoLess : (e v : ℕ) → Envelope → Type 0
HasNoLess e v x = NotBelow e v x.message.epoch x.message.body

pub record AcceptedTo (w : World) (m v : ℕ) : Type 0 where
  pub version : ℕ
  pub number : ℕ
  pub bytes : List ℕ
  pub was : HasAccepted w m version number bytes
  pub high : v ≤ version

-- Version v is a mark of epoch e: an active leader of the epoch has it. Either all of its quorum accepted it or a later
-- version, or no LEASE of the epoch has a lower version.
pub record Mark (n : ℕ) (w : World) (g : Ghost) (e v : ℕ) : Type 0 where
  pub rank : ℕ
  pub led : WasActive n g (e, rank)
  pub level : v ≤ level_at w rank
  pub how : ((m : ℕ) → has led.0 m ≡ true → AcceptedTo w m v) ⊎ AllByRecursion (HasNoLess e v) w.messages

-- ---- what a LEASE and a COMMIT have

abbrev pub BodyMark : (n : ℕ) → World → Ghost → (e : ℕ) → Body → Type 0
BodyMark n w g e (body.Lease last) = Mark n w g e last
BodyMark n w g e (body.Commit from values) = (v : ℕ) × (from + length values ≤ suc v) × Mark n w g e v
BodyMark n w g e other = Unit {0}

abbrev pub SentMark : (n : ℕ) → World → Ghost → Envelope → Type 0
SentMark n w g x = BodyMark n w g x.message.epoch x.message.body

-- ---- what a monitor remembers

abbrev pub IsLease : (i e from f : ℕ) → Body → Type 0
IsLease i e from f (body.Lease last) = from ≡ i → f ≡ e → ⊥
IsLease i e from f other = Unit {0}

-- it sent no LEASE in this epoch
abbrev pub NoLease : (i e : ℕ) → Envelope → Type 0
NoLease i e x = IsLease i e x.message.from x.message.epoch x.message.body

pub record HasLease (w : World) (e v : ℕ) : Type 0 where
  pub envelope : Envelope
  pub among : Among envelope w.messages
  pub last : ℕ
  pub says : envelope.message.body ≡ body.Lease last
  pub epoch : envelope.message.epoch ≡ e
  pub low : last ≤ v

abbrev pub PhaseMark : (n : ℕ) → World → Ghost → (i e v : ℕ) → Option ℕ → Phase → Type 0
PhaseMark n w g i e v z phase.Collecting = AllByRecursion (NoLease i e) w.messages
PhaseMark n w g i e v z phase.Previous = AllByRecursion (NoLease i e) w.messages
PhaseMark n w g i e v z phase.Active = Mark n w g e v
PhaseMark n w g i e v z phase.Updating = Mark n w g e v
PhaseMark n w g i e v z phase.Peon = is_some z ≡ true → Mark n w g e v × HasLease w e v
PhaseMark n w g i e v z other = Unit {0}

abbrev pub StateMark : (n : ℕ) → World → Ghost → ℕ → State → Type 0
StateMark n w g i s = PhaseMark n w g i (epoch_of (readings_at w i)) (readings_at w i).last s.peon.lease s.phase

-- ---- one leader per epoch

pub one_leader : (n : ℕ) (g : Ghost) → RolesHold n g.roles → (e l k : ℕ) → WasActive n g (e, l) → WasActive n g (e, k) → l ≡ k
one_leader n g R e l k a b =
    let both = majorities n a.0 b.0 (R.major l e l a.0 a.1) (R.major k e k b.0 b.1) (R.within l e l a.0 a.1) (R.within k e k b.0 b.1) in
    let below = R.within l e l a.0 a.1 both.0 both.1 in
    let first = a.2 both.0 below both.1 in
    let second = b.2 both.0 below both.2 in
    (R.once both.0 e l k first.0 second.0 first.1 second.1).0

pub active_of : (n : ℕ) (g : Ghost) (e l : ℕ) → Followed g e l → WasActive n g (e, l)
active_of n g e l F = (F.quorum, F.led, λ m lt t. F.joined m t)

-- a leader whose quorum answered has it
pub was_led : (n : ℕ) (h : Ghost) (i : ℕ) (c : Core) (p : Phase) → has_answers p ≡ true → InPhase n h i c p → WasActive n h (epoch_in c.own, i)
was_led n h i c phase.Active e k = (c.quorum, k.0.reigns.role, λ m lt a. (k.0.heard m (within_at n c.quorum c.answered m k.1 lt a)).joined)
was_led n h i c phase.Updating e k = (c.quorum, k.0.reigns.role, λ m lt a. (k.0.heard m (within_at n c.quorum c.answered m k.1 lt a)).joined)
was_led n h i c phase.Previous e k = (c.quorum, k.0.reigns.role, λ m lt a. (k.0.heard m (within_at n c.quorum c.answered m k.1 lt a)).joined)
was_led n h i c other e k = no e

pub led_unmarked : (n : ℕ) (h : Ghost) (i : ℕ) (c : Core) (p : Phase) → has_answers p ≡ true → InPhase n h i c p → c.own.marked ≡ false
led_unmarked n h i c phase.Active e k = k.0.reigns.unmarked
led_unmarked n h i c phase.Updating e k = k.0.reigns.unmarked
led_unmarked n h i c phase.Previous e k = k.0.reigns.unmarked
led_unmarked n h i c other e k = no e

-- ---- who reads

module _ (ms : Monitors) (several : 1 < ms.count) (w : World) (J : InvOf ms w) (i : ℕ) (s : State) (up : w.state i ≡ Some s) where
  abbrev n : ℕ
  n = ms.count

  abbrev c : Core
  c = core_of (own_of (readings_at w i)) s

  R : RolesHold n J.g.roles
  R = J.glob.roles

  abbrev e : ℕ
  e = epoch_of (readings_at w i)

  -- a peon that has a lease
  pub peon_has : FollowsIn J.g i c → is_some s.peon.lease ≡ true → HasLease w e (readings_at w i).last → (v : ℕ) → Mark n w J.g e v → v ≤ (readings_at w i).last
  peon_has k given H v M = by M.how
    where
      by : ((m : ℕ) → has M.led.0 m ≡ true → AcceptedTo w m v) ⊎ AllByRecursion (HasNoLess e v) w.messages → v ≤ (readings_at w i).last
      by (inl A) =
          let F = k.led given in
          let same = one_leader n J.g R e c.leader M.rank (active_of n J.g e c.leader F) M.led in
          let role : Entered J.g i e c.leader c.members = k.role in
          let lead : Entered J.g M.rank e M.rank c.members = subst (λ (l : ℕ). Entered J.g l e l c.members) same (R.lead i e c.leader c.members role) in
          let quorum = (R.once M.rank e M.rank M.rank c.members M.led.0 lead M.led.1).1 in
          let mine : has M.led.0 i ≡ true = subst (λ (q : List Bool). has q i ≡ true) quorum (R.self i e c.leader c.members role) in
          let a = A i mine in
          let b = accepted_as ms w J i a.version a.number a.bytes a.was in
          let low : a.version ≤ (readings_at w i).last = k.clear given a.version a.number b.0 b.2 in
          let high = a.high in
          omega arith
      by (inr B) = let t : NotBelow e v H.envelope.message.epoch (body.Lease H.last) = subst (NotBelow e v H.envelope.message.epoch) H.says (all_among (HasNoLess e v) H.envelope w.messages H.among B) in let le = t H.epoch in let low = H.low in omega arith

  -- an active leader
  pub leader_has : (p : Phase) → has_answers p ≡ true → InPhase n J.g i c p → (v : ℕ) → Mark n w J.g e v → v ≤ (readings_at w i).last
  leader_has p t k v M =
      let same = one_leader n J.g R e i M.rank (was_led n J.g i c p t k) M.led in
      let level : level_at w i ≡ (readings_at w i).last = level_is (own_of (readings_at w i)) (led_unmarked n J.g i c p t k) in
      let l = subst (λ (j : ℕ). v ≤ level_at w j) (sym same) M.level in
      omega (arith, level)

  module _ (now : ℕ) (may : readable (readings_at w i).last n (lease_of s) now ≡ true) where
    has_lease : (o : Option ℕ) → lease_of s ≡ o → is_some o ≡ true
    has_lease o e = by o (elim (or_cases (eqb n 1) (stands (lease_of s) now) (and_parts (ltb 0 (readings_at w i).last) (eqb n 1 || stands (lease_of s) now) may).1) [ inl one ↦ (let q = eqb-true n 1 one in absurd (omega arith)) | inr t ↦ subst (λ (z : Option ℕ). stands z now ≡ true) e t ])
      where
        by : (o : Option ℕ) → stands o now ≡ true → is_some o ≡ true
        by None t = no t
        by (Some end) t = refl

    gives_none : (p : Phase) → s.phase ≡ p → is_leading p ≡ true → is_peon p ≡ false → s.leader.lease ≡ None → ⊥
    gives_none p e t f none = no (has_lease None lease)
      where
        lease : lease_of s ≡ None
        lease = ap (λ (q : Phase). cond (is_peon q) s.peon.lease (cond (is_leading q) s.leader.lease None)) e ∙ ap (λ (b : Bool). cond b s.peon.lease (cond (is_leading p) s.leader.lease None)) f ∙ ap (λ (b : Bool). cond b s.leader.lease None) t ∙ none

    -- its own last version is a mark, and no mark of its epoch is above it
    abbrev pub Reads : Type 0
    Reads = Mark n w J.g e (readings_at w i).last × ((v : ℕ) → Mark n w J.g e v → v ≤ (readings_at w i).last)

    in_phase : (p : Phase) → s.phase ≡ p → is_member p ≡ true → Still p s.leader → InPhase n J.g i c p → PhaseMark n w J.g i e (readings_at w i).last s.peon.lease p → Reads
    in_phase phase.Collecting q t still k M = absurd (gives_none phase.Collecting q refl refl still)
    in_phase phase.Previous q t still k M = absurd (gives_none phase.Previous q refl refl still.0)
    in_phase phase.Active q t still k M = (M, leader_has phase.Active refl k)
    in_phase phase.Updating q t still k M = (M, leader_has phase.Updating refl k)
    in_phase phase.Peon q t still k M =
        let given = has_lease s.peon.lease (ap (λ (q : Phase). cond (is_peon q) s.peon.lease (cond (is_leading q) s.leader.lease None)) q) in
        ((M given).0, peon_has k given (M given).1)
    in_phase other q t still k M = no t

    pub reads : is_member s.phase ≡ true → Still s.phase s.leader → StateMark n w J.g i s → Reads
    reads member still M = in_phase s.phase refl member still (state_holds ms w J i s up) M

-- ---- what lasts

pub record Lasts (n : ℕ) (w next : World) (g h : Ghost) (new : List Envelope) : Type 0 where
  pub further : Further g h
  pub later : Later w next
  pub accepted : (i v pn : ℕ) (bytes : List ℕ) → HasAccepted w i v pn bytes → HasAccepted next i v pn bytes
  pub messages : next.messages ≡ w.messages ++ new
  -- no LEASE that is sent now is below a mark
  pub leases : (e v rank : ℕ) → WasActive n h (e, rank) → v ≤ level_at next rank → AllByRecursion (HasNoLess e v) new

module _ (n : ℕ) (w next : World) (g h : Ghost) (new : List Envelope) (L : Lasts n w next g h new) where
  pub mark_lasts : (e v : ℕ) → Mark n w g e v → Mark n next h e v
  mark_lasts e v M = record { rank = M.rank; led = led; level = level; how = by M.how }
    where
      led : WasActive n h (e, M.rank)
      led = let F = L.further in (M.led.0, F.roles _ M.led.1, λ m lt t. let j = M.led.2 m lt t in (j.0, F.roles _ j.1))

      level : v ≤ level_at next M.rank
      level = let a = M.level in let T = L.later in let b = (T.each M.rank).level in omega arith

      by : ((m : ℕ) → has M.led.0 m ≡ true → AcceptedTo w m v) ⊎ AllByRecursion (HasNoLess e v) w.messages → ((m : ℕ) → has M.led.0 m ≡ true → AcceptedTo next m v) ⊎ AllByRecursion (HasNoLess e v) next.messages
      by (inl A) = inl (λ m t. let a = A m t in record { version = a.version; number = a.number; bytes = a.bytes; was = L.accepted m a.version a.number a.bytes a.was; high = a.high })
      by (inr B) = inr (subst (AllByRecursion (HasNoLess e v)) (sym L.messages) (all_append (HasNoLess e v) w.messages new B (L.leases e v M.rank led level)))

  pub lease_lasts : (e v : ℕ) → HasLease w e v → HasLease next e v
  lease_lasts e v H = record { envelope = H.envelope; among = subst (Among H.envelope) (sym L.messages) (among_left H.envelope w.messages new H.among); last = H.last; says = H.says; epoch = H.epoch; low = H.low }

  body_lasts : (e : ℕ) (b : Body) → BodyMark n w g e b → BodyMark n next h e b
  body_lasts e (body.Lease last) k = mark_lasts e last k
  body_lasts e (body.Commit from values) k = (k.0, k.1, mark_lasts e k.0 k.2)
  body_lasts e other k = tt

  pub sent_lasts : (x : Envelope) → SentMark n w g x → SentMark n next h x
  sent_lasts x k = body_lasts x.message.epoch x.message.body k

  -- if it sent no LEASE now
  pub phase_lasts : (i e v : ℕ) (z : Option ℕ) (p : Phase) → AllByRecursion (NoLease i e) new → PhaseMark n w g i e v z p → PhaseMark n next h i e v z p
  phase_lasts i e v z phase.Collecting N k = subst (AllByRecursion (NoLease i e)) (sym L.messages) (all_append (NoLease i e) w.messages new k N)
  phase_lasts i e v z phase.Previous N k = subst (AllByRecursion (NoLease i e)) (sym L.messages) (all_append (NoLease i e) w.messages new k N)
  phase_lasts i e v z phase.Active N k = mark_lasts e v k
  phase_lasts i e v z phase.Updating N k = mark_lasts e v k
  phase_lasts i e v z phase.Peon N k = λ t. (mark_lasts e v (k t).0, lease_lasts e v (k t).1)
  phase_lasts i e v z other N k = tt
