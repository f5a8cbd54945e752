-- What monitors keep and remember on their way into a quorum, and what they send.
use Rattle.law_names.proofs.Runs.{World}
use Rattle.law_names.proofs.Table.{Body, Me, Message, Readings, Sent, State, epoch_of, has, is_armed, is_even, members, no_clients, only, or_zero, others, promise_of, range_with_len}
use Rattle.mon_msg.specs.declared.plan.Sent.TheVariants as send
use Rattle.mon_wire.specs.declared.phase.Phase.TheVariants as phase
use Rattle.mon_wire.specs.declared.phase.Timer.TheVariants as timer
use Rattle.quorum_elects.proofs.Ranking.{IsFull}
use Rattle.quorum_elects.proofs.Values.{FoundShort}
use Rattle.quorum_elects.specs.Ready.{HasRoom}
use Rattle.quorum_laws.specs.Accepting.{readings_at}
use Rattle.quorum_walk.proofs.Lists.{Among}
use Rattle.std.proofs.Common.{Bool, List, None, Option, Some, [], ap, arith, cond, eqb, false, filter, inl, inr, length, map, not, refl, slice_index_or, slice_set, suc, sym, true, zero, ℕ, ◌&&◌, ◌+◌, ◌<◌, ◌^◌, ◌∙◌, ◌∷◌, ◌≡◌, ◌≤◌, ◌⊎◌}
use Rattle.std.proofs.lemmas.Bool.{cases_order, false≢true, ne_eqb}

-- ---- stores

-- an unmarked monitor that lacks at most one of c versions, and keeps all of its versions or at least 502
pub record CloseAt (c : ℕ) (marked : Bool) (first last : ℕ) : Type 0 where
  pub unmarked : marked ≡ false
  pub most : last ≤ c
  pub least : c ≤ suc last
  pub low : (first ≤ 1) ⊎ (first + 501 ≤ last)

abbrev pub Close : ℕ → Readings → Type 0
Close c w = CloseAt c w.marked w.first w.last

-- its proposal numbers have room
abbrev pub HasNumbers : Readings → Type 0
HasNumbers w = HasRoom (or_zero w.last_pn) × HasRoom (promise_of w)

-- ---- states

-- monitor i is up, and this holds of what it keeps and remembers
pub record Is (R : Readings → State → Type 0) (w : World) (i : ℕ) : Type 0 where
  pub state : State
  pub up : w.state i ≡ Some state
  pub holds : R (readings_at w i) state

module _ (c : ℕ) where
  -- it probes in epoch e, and heard those of o
  pub record IsProbing (e : ℕ) (o : List Bool) (w : Readings) (s : State) : Type 0 where
    pub close : Close c w
    pub numbers : HasNumbers w
    pub room : e + 9 ≤ 2 ^ 62
    pub epoch : epoch_of w ≡ e
    pub phase : s.phase ≡ phase.Probing
    pub outside : s.prober.outside ≡ o
    pub timers : 1 < length s.timers
    pub scores : IsFull s.elector.scores

  -- a candidate of epoch e, to which those of a deferred
  pub record IsCandidate (e : ℕ) (a : List Bool) (w : Readings) (s : State) : Type 0 where
    pub close : Close c w
    pub numbers : HasNumbers w
    pub room : e + 8 ≤ 2 ^ 62
    pub epoch : epoch_of w ≡ e
    pub odd : is_even e ≡ false
    pub phase : s.phase ≡ phase.Electing
    pub candidate : s.elector.candidate ≡ true
    pub acked : s.elector.acked ≡ a
    pub deferred : s.elector.deferred ≡ None
    pub armed : is_armed timer.Election s.timers ≡ true
    pub timers : 1 < length s.timers
    pub clients : s.clients ≡ no_clients
    pub scores : IsFull s.elector.scores

  -- it votes in epoch e
  pub record IsVoter (e : ℕ) (w : Readings) (s : State) : Type 0 where
    pub close : Close c w
    pub numbers : HasNumbers w
    pub epoch : epoch_of w ≡ e
    pub phase : s.phase ≡ phase.Electing

  -- monitor i leads the quorum q in epoch e, and asks under pn; nobody else answered yet
  pub record IsCollector (i e : ℕ) (q : List Bool) (pn first last : ℕ) (w : Readings) (s : State) : Type 0 where
    pub close : Close c w
    pub epoch : epoch_of w ≡ e
    pub phase : s.phase ≡ phase.Collecting
    pub quorum : s.leader.quorum ≡ q
    pub first_is : w.first ≡ first
    pub last_is : w.last ≡ last
    pub promised : promise_of w ≡ pn
    pub own : or_zero w.last_pn ≡ pn
    pub room : pn + 800 ≤ 2 ^ 62
    pub number : s.leader.pn ≡ pn
    pub found : FoundShort s.leader.found
    pub answered : s.leader.answered ≡ only i
    pub long : length s.leader.lasts ≡ 15
    pub queue : s.clients.queue ≡ []

  -- a peon of the quorum q in epoch e
  pub record IsPeon (e by : ℕ) (q : List Bool) (w : Readings) (s : State) : Type 0 where
    pub close : Close c w
    pub numbers : HasNumbers w
    pub epoch : epoch_of w ≡ e
    pub phase : s.phase ≡ phase.Peon
    pub leader : s.peon.leader ≡ by
    pub quorum : s.peon.quorum ≡ q

-- ---- what is sent

abbrev pub letter : (n i e : ℕ) → Body → Message
letter n i e b = record { from = i; monitors = n; epoch = e; body = b }

-- the body is sent to each other monitor
abbrev pub SaysAll : (n i e : ℕ) → Body → List Sent → Type 0
SaysAll n i e b out = (g : ℕ) → g < n → (g ≡ i → ⊥) → Among (send.Message g (letter n i e b)) out

abbrev pub SaysTo : (n i e : ℕ) → List Bool → Body → List Sent → Type 0
SaysTo n i e q b out = (g : ℕ) → g < n → has q g ≡ true → (g ≡ i → ⊥) → Among (send.Message g (letter n i e b)) out

-- ---- lists of ranks

pub among_map : {A B : Type 0} (f : A → B) (x : A) (xs : List A) → Among x xs → Among (f x) (map f xs)
among_map f x [] a = absurd a
among_map f x (y ∷ ys) (inl e) = inl (ap f e)
among_map f x (y ∷ ys) (inr o) = inr (among_map f x ys o)

among_filter : {A : Type 0} (p : A → Bool) (x : A) (xs : List A) → p x ≡ true → Among x xs → Among x (filter p xs)
among_filter p x [] t a = absurd a
among_filter p x (y ∷ ys) t a = by (among_filter p x ys t) (p y) refl a
  where
    by : (Among x ys → Among x (filter p ys)) → (b : Bool) → p y ≡ b → (x ≡ y) ⊎ Among x ys → Among x (cond b (y ∷ filter p ys) (filter p ys))
    by later true e (inl is) = inl is
    by later true e (inr o) = inr (later o)
    by later false e (inl is) = absurd (false≢true (sym e ∙ ap p (sym is) ∙ t))
    by later false e (inr o) = later o

among_range : (g from len : ℕ) → from ≤ g → g < from + len → Among g (range_with_len from len)
among_range g from zero low high = absurd (omega arith)
among_range g from (suc len) low high = elim (cases_order from g) [
  | inl e ↦ inl (sym e)
  | inr o ↦ elim o [ inl less ↦ inr (among_range g (from + 1) len (omega arith) (omega arith)) | inr more ↦ absurd (omega arith) ]
]

module _ (me : Me) where
  pub among_others : (g : ℕ) → g < me.member.monitors → (g ≡ me.member.rank → ⊥) → Among g (others me)
  among_others g lt ne = among_filter (λ k. not (eqb k me.member.rank)) g (range_with_len 0 me.member.monitors) (ap not (ne_eqb g me.member.rank ne)) (among_range g 0 me.member.monitors (omega arith) (omega arith))

  pub among_members : (q : List Bool) (g : ℕ) → g < me.member.monitors → has q g ≡ true → (g ≡ me.member.rank → ⊥) → Among g (members me q)
  among_members q g lt h ne =
      among_filter (λ k. has q k && not (eqb k me.member.rank)) g (range_with_len 0 me.member.monitors) (λ j. h j && not (ne_eqb g me.member.rank ne j)) (among_range g 0 me.member.monitors (omega arith) (omega arith))

-- ---- timers

pub armed_there : (ts : List (Option ℕ)) (x : Option ℕ) → 1 < length ts → slice_index_or (slice_set ts 1 x) 1 None ≡ x
armed_there [] x lt = absurd (omega arith)
armed_there (a ∷ []) x lt = absurd (omega arith)
armed_there (a ∷ b ∷ ts) x lt = refl
