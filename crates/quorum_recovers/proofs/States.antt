-- The states of a leader that asks, proposes and commits, and of its peons.
use Rattle.law_names.proofs.Runs.{request_of}
use Rattle.law_names.proofs.Table.{Cell, Command, Course, Entry, Me, Op, Origin, Phase, Readings, Session, State, ask, at_leader, at_rest, epoch_of, fits, flat_map, has, hear_client, is_leading, longest, missed, most_value, or_zero, promise_of, react, record_at, run_from, run_of, same_phase, text}
use Rattle.mon_bytes.specs.declared.command.Command.TheVariants as command
use Rattle.mon_lease.specs.Lease as lease
use Rattle.mon_msg.specs.declared.input.Input.TheVariants as input
use Rattle.mon_msg.specs.declared.plan.Origin.TheVariants as origin
use Rattle.mon_wire.specs.declared.body.Body.TheVariants as body
use Rattle.mon_wire.specs.declared.phase.Phase.TheVariants as phase
use Rattle.quorum_elects.proofs.Values.{FoundShort}
use Rattle.quorum_recovers.proofs.LastAnswers.{fits_commit, run_one}
use Rattle.quorum_walk.proofs.Lists.{Among, among_left, among_right}
use Rattle.std.proofs.Common.{Bool, List, Option, Some, [], ap, arith, cond, false, inl, inr, length, min, refl, slice_index_or, slice_set, subst, suc, true, zero, ℕ, ◌+◌, ◌-◌, ◌<◌, ◌^◌, ◌||◌, ◌∙◌, ◌∷◌, ◌≡◌, ◌≤◌}
use Rattle.table_rows.proofs.Hearing.{IsLeader, IsMember, asked}
use Rattle.table_rows.proofs.Serving.{asks_leader}

-- ---- the states

-- a peon of l versions that promised p
pub record IsHearing (by e : ℕ) (a : List Bool) (l p : ℕ) (w : Readings) (s : State) : Type 0 where
  pub unmarked : w.marked ≡ false
  pub epoch : epoch_of w ≡ e
  pub last : w.last ≡ l
  pub promised : promise_of w ≡ p
  pub phase : s.phase ≡ phase.Peon
  pub leader : s.peon.leader ≡ by
  pub quorum : s.peon.quorum ≡ a

-- A leader of l versions that asks under pn. Those of A answered, each with its last version.
pub record IsAsking (i e : ℕ) (a : List Bool) (l pn : ℕ) (A : List Bool) (T : ℕ → ℕ) (w : Readings) (s : State) : Type 0 where
  pub unmarked : w.marked ≡ false
  pub epoch : epoch_of w ≡ e
  pub last : w.last ≡ l
  pub promised : promise_of w ≡ pn
  pub own : or_zero w.last_pn ≡ pn
  pub short : pn ≤ 2 ^ 62
  pub phase : s.phase ≡ phase.Collecting
  pub quorum : s.leader.quorum ≡ a
  pub number : s.leader.pn ≡ pn
  pub found : FoundShort s.leader.found
  pub answered : s.leader.answered ≡ A
  pub lasts : (f : ℕ) → has A f ≡ true → (f ≡ i → ⊥) → slice_index_or s.leader.lasts f 0 ≡ T f
  pub long : length s.leader.lasts ≡ 15
  pub queue : s.clients.queue ≡ []

-- a leader with a lease
abbrev pub HasLease : State → Type 0
HasLease s = (end : ℕ) × (s.leader.lease ≡ Some end) × (0 < end)

-- the lease that a leader gives itself has an end
pub lease_given : (now : ℕ) → (end : ℕ) × (lease.extended now ≡ Some end) × (0 < end)
lease_given now = (min (now + 5000) (2 ^ 62), refl, omega arith)

-- an active leader of l versions
pub record IsActive (i e : ℕ) (a : List Bool) (l pn : ℕ) (w : Readings) (s : State) : Type 0 where
  pub unmarked : w.marked ≡ false
  pub epoch : epoch_of w ≡ e
  pub last : w.last ≡ l
  pub promised : promise_of w ≡ pn
  pub short : pn ≤ 2 ^ 62
  pub phase : s.phase ≡ phase.Active
  pub quorum : s.leader.quorum ≡ a
  pub number : s.leader.pn ≡ pn
  pub lease : HasLease s
  pub queue : s.clients.queue ≡ []

-- a leader that proposes a value, which those of A accepted
pub record IsProposing (ph : Phase) (i e : ℕ) (a : List Bool) (l pn : ℕ) (A : List Bool) (value : List Op) (o : Option Origin) (w : Readings) (s : State) : Type 0 where
  pub unmarked : w.marked ≡ false
  pub epoch : epoch_of w ≡ e
  pub last : w.last ≡ l
  pub promised : promise_of w ≡ pn
  pub short : pn ≤ 2 ^ 62
  pub room : suc l ≤ 2 ^ 62
  pub phase : s.phase ≡ ph
  pub quorum : s.leader.quorum ≡ a
  pub number : s.leader.pn ≡ pn
  pub accepted : s.leader.accepted ≡ A
  pub proposes : s.leader.value ≡ Some value
  pub origin : s.leader.origin ≡ o
  pub queue : s.clients.queue ≡ []

-- ---- who hears whom

pub follows : {me : Me} {r e : ℕ} {a : List Bool} {l p : ℕ} {w : Readings} {s : State} → IsHearing r e a l p w s → (r ≡ me.member.rank → ⊥) → IsLeader me w s r e
follows P ne = record { other = ne; follows = P.phase; epoch = P.epoch; leader = P.leader }

pub asks_of : {me : Me} {i e : ℕ} {a : List Bool} {l pn : ℕ} {A : List Bool} {T : ℕ → ℕ} {w : Readings} {s : State} → IsAsking i e a l pn A T w s → {f : ℕ} → (f ≡ me.member.rank → ⊥) → has a f ≡ true → IsMember me w s phase.Collecting f e
asks_of P {f} ne h = record { other = ne; leads = P.phase; epoch = P.epoch; member = ap (λ (b : List Bool). has b f) P.quorum ∙ h }

pub proposes_to : {me : Me} {ph : Phase} {i e : ℕ} {a : List Bool} {l pn : ℕ} {A : List Bool} {value : List Op} {o : Option Origin} {w : Readings} {s : State} → IsProposing ph i e a l pn A value o w s → {f : ℕ} → (f ≡ me.member.rank → ⊥) → has a f ≡ true → IsMember me w s ph f e
proposes_to P {f} ne h = record { other = ne; leads = P.phase; epoch = P.epoch; member = ap (λ (b : List Bool). has b f) P.quorum ∙ h }

hears_command : (me : Me) (now : ℕ) (session : Session) (c : Command) (x : Course) → hear_client me now session (request_of c) x ≡ ask me now session c x
unfolding hear_client
hears_command me now session (command.Set k v) x = refl
hears_command me now session (command.Remove k) x = refl
hears_command me now session (command.Log t) x = refl

-- a leader takes a client's command
pub takes_command : (me : Me) (sh : List Entry) (now : ℕ) (w : Readings) (s : State) (session : Session) (c : Command) → s.phase ≡ phase.Active
    → react me sh now w s (input.Client session (request_of c)) ≡ at_leader me now c (origin.Session session) (at_rest w s)
takes_command me sh now w s session c active =
    asked me sh now w s session (request_of c) (ap (λ (p : Phase). same_phase p phase.Booting) active)
    ∙ hears_command me now session c (at_rest w s)
    ∙ asks_leader me now c session (at_rest w s) (ap is_leading active)

-- ---- lists

pub among_flat : {A B : Type 0} (f : A → List B) (y : B) (x : A) (xs : List A) → Among y (f x) → Among x xs → Among y (flat_map f xs)
among_flat f y x [] a k = absurd k
among_flat f y x (z ∷ zs) a (inl e) = among_left y (f z) (flat_map f zs) (subst (λ u. Among y (f u)) e a)
among_flat f y x (z ∷ zs) a (inr o) = among_right y (f z) (flat_map f zs) (among_flat f y x zs a o)

pub get_set : (xs : List ℕ) (k v : ℕ) → k < length xs → slice_index_or (slice_set xs k v) k 0 ≡ v
get_set [] k v lt = absurd (omega arith)
get_set (x ∷ xs) zero v lt = refl
get_set (x ∷ xs) (suc k) v lt = get_set xs k v (omega arith)

pub get_other : (xs : List ℕ) (k g v : ℕ) → (g ≡ k → ⊥) → slice_index_or (slice_set xs k v) g 0 ≡ slice_index_or xs g 0
get_other [] k g v ne = refl
get_other (x ∷ xs) zero zero v ne = absurd (ne refl)
get_other (x ∷ xs) zero (suc g) v ne = refl
get_other (x ∷ xs) (suc k) zero v ne = refl
get_other (x ∷ xs) (suc k) (suc g) v ne = get_other xs k g v (λ e. ne (ap suc e))

pub or_true : (a b : Bool) → b ≡ true → (a || b) ≡ true
or_true true b t = refl
or_true false b t = t

-- the one version that a member lacks
pub missed_one : (n : ℕ) (records : ℕ → Cell) (last t : ℕ) (x : List Op) → suc t ≡ last → record_at records last ≡ Some x → length (text x) ≤ most_value → missed n records last t ≡ x ∷ []
unfolding missed
missed_one n records last t x e is short =
    let count : suc last - suc t ≡ 1 = omega arith in
    let run : run_from records last (suc t) ≡ x ∷ [] = ap (λ (c : ℕ). run_of records c (suc t)) count ∙ run_one records (suc t) x (ap (record_at records) e ∙ is) in
    ap (longest (λ values. fits n (body.Commit (suc t) values))) run ∙ ap (λ b. cond b (x ∷ []) []) (fits_commit n (suc t) x short)
