-- The premise of the laws can be met. Processes may begin in any order, with numbers that their ranks didn't have
-- before. A datagram that was sent may arrive at its receiver once, never, late or again. A process may be killed in
-- each of its iterations.
use Rattle.law_names.proofs.Runs.{Monitors, me_of}
use Rattle.law_names.proofs.Table.{Contains, Me, Member, Store, Timer, due, empty}
use Rattle.mon_store.specs.Pair.{Create}
use Rattle.mon_store.specs.StoreView.{standing_of}
use Rattle.quorum_network.proofs.Assembled.{contains_cases, contains_first, contains_later}
use Rattle.quorum_network.proofs.Names.{AllMay, Begins, Client, Datagram, Doing, Down, Idle, IsAsked, Iterates, Iteration, May, Monitor, Network, Peer, Posted, Process, Step, StoreView, Until, Up, after_step, due_by, first_network, if_made, iteration_of, lives_then, made_by, map_of, network}
use Rattle.quorum_network.specs.Network.{IsNew, lives_after}
use Rattle.std.proofs.Common.{Bool, List, None, Ok, Option, Some, [], ap, arith, cond, eqb, false, inl, inr, refl, subst, suc, sym, true, zero, ℕ, ◌^◌, ◌∷◌, ◌≡◌, ◌≤◌}
use Rattle.std.proofs.lemmas.Bool.{eq-eqb, eqb-true}

-- ---- a datagram

abbrev pub comes : ℕ → ℕ → List ℕ → (clock : ℕ) → Until → Step
comes j i bytes clock u = record { rank = i; doing = Iterates (record { began = clock; answer = Ok (Datagram (Monitor j) bytes); later = clock }); up_to = u }

abbrev pub to_monitor : ℕ → ℕ → List ℕ → Posted
to_monitor j i bytes = record { by = j; datagram = record { to = Monitor i; bytes = bytes } }

may_come : (net : Network) (j i : ℕ) (bytes : List ℕ) (clock : ℕ) (u : Until) (p : Process) → Contains net.sent (to_monitor j i bytes) → May net i p (comes j i bytes clock u).doing
may_come net j i bytes clock u (Up s) was = by (due_by clock (due s.node.state.timers))
  where
    by : (t : Option Timer) → IsAsked net i t (Ok (Datagram (Monitor j) bytes))
    by (Some t) = tt
    by None = was
may_come net j i bytes clock u (Down m) was = tt

-- ---- any play

pub data Play : Type 0 where
  -- a process begins on the map that the last one of its rank left, in a life with this number
  Starts : (rank number : ℕ) → Until → Play
  -- the datagram with this number, counted from 0 in the order of sending, arrives at the monitor that it was sent to, at
  -- this reading of that monitor's clock
  Arrives : (datagram clock : ℕ) → Until → Play
  -- nothing arrives at a process
  Waits : (rank clock : ℕ) → Until → Play

abbrev pub idle : (i now : ℕ) → Until → Step
idle i now u = record { rank = i; doing = Iterates (record { began = now; answer = Ok Idle; later = now }); up_to = u }

abbrev comes_to : Peer → ℕ → List ℕ → (clock : ℕ) → Until → Step
comes_to (Monitor i) j bytes clock u = comes j i bytes clock u
comes_to (Client c) j bytes clock u = idle j clock u

abbrev pub if_sent : Option Posted → (clock : ℕ) → Until → Step
if_sent (Some d) clock u = comes_to d.datagram.to d.by d.datagram.bytes clock u
if_sent None clock u = idle 0 clock u

abbrev pub datagram_at : List Posted → ℕ → Option Posted
datagram_at [] k = None
datagram_at (d ∷ ds) zero = Some d
datagram_at (d ∷ ds) (suc k) = datagram_at ds k

-- the store of a member, with this map
abbrev pub store_with : Member → Store → StoreView
store_with member m = record (standing_of member Create empty) { kv = m }

abbrev pub step_of : Member → Network → Play → Step
step_of member net (Starts i number u) = record { rank = i; doing = Begins number (store_with member (map_of (net.process i))) None None 0; up_to = u }
step_of member net (Arrives k clock u) = if_sent (datagram_at net.sent k) clock u
step_of member net (Waits i now u) = idle i now u

idle_may : (net : Network) (i now : ℕ) (u : Until) (p : Process) → May net i p (idle i now u).doing
idle_may net i now u (Up s) = by (due_by now (due s.node.state.timers))
  where
    by : (t : Option Timer) → IsAsked net i t (Ok Idle)
    by (Some t) = tt
    by None = tt
idle_may net i now u (Down m) = tt

datagram_among : (ds : List Posted) (k : ℕ) (d : Posted) → datagram_at ds k ≡ Some d → Contains ds d
datagram_among [] k d e = absurd cc
datagram_among (x ∷ ds) zero d e = let same : x ≡ d = cc (e) in (0, omega arith, same)
datagram_among (x ∷ ds) (suc k) d e = let c = datagram_among ds k d e in (suc c.0, omega (arith, c.1), c.2)

-- ---- the numbers of lives

abbrev and_its_number : Play → ℕ → List ℕ → List ℕ
and_its_number (Starts rank number u) i older = cond (eqb rank i) (number ∷ older) older
and_its_number (Arrives datagram clock u) i older = older
and_its_number (Waits rank clock u) i older = older

-- the numbers with which a rank begins in these plays, the newest first
abbrev numbers_in : ℕ → List Play → List ℕ
numbers_in i [] = []
numbers_in i (p ∷ earlier) = and_its_number p i (numbers_in i earlier)

-- no rank begins twice with one number
abbrev IsNewIn : List Play → Play → Type 0
IsNewIn earlier (Starts rank number u) = (number ≤ 2 ^ 62) × ¬ Contains (numbers_in rank earlier) number
IsNewIn earlier (Arrives datagram clock u) = Unit {0}
IsNewIn earlier (Waits rank clock u) = Unit {0}

abbrev pub AreNew : List Play → Type 0
AreNew [] = Unit {0}
AreNew (p ∷ earlier) = AreNew earlier × IsNewIn earlier p

-- what a step leaves of the lives of a rank
module _ (ms : Monitors) (net : Network) (s : Step) (i : ℕ) (P : List ℕ → Type 0) (old : P (net.lives i)) (new : s.rank ≡ i → P (lives_then s.doing (net.lives i))) where
  begins_so : (doing : Doing) → (s.rank ≡ i → P (lives_then doing (net.lives i))) → P (lives_after net.lives s.rank doing i)
  begins_so (Iterates g) h = old
  begins_so (Begins number store_view clock link first) h = by (eqb i s.rank) refl
    where
      by : (b : Bool) → eqb i s.rank ≡ b → P (cond b (number ∷ net.lives s.rank) (net.lives i))
      by true e = let same : i ≡ s.rank = eqb-true i s.rank e in subst (λ (k : ℕ). P (number ∷ net.lives k)) same (h (sym same))
      by false e = old

  lives_left : P ((after_step ms net s).lives i)
  lives_left = by (me_of ms s.rank)
    where
      made : (m : Me) (t : Option Iteration) → P ((if_made m net s t).lives i)
      made m None = old
      made m (Some t) = begins_so s.doing new

      by : (x : Option Me) → P ((made_by net s x).lives i)
      by None = old
      by (Some m) = made m (iteration_of m (net.process s.rank) s.doing)

abbrev IfNew : Network → Play → Type 0
IfNew net (Starts i number u) = IsNew net i number
IfNew net (Arrives k clock u) = Unit {0}
IfNew net (Waits i now u) = Unit {0}

-- each play may happen
may_play : (member : Member) (net : Network) (p : Play) → IfNew net p → May net (step_of member net p).rank (net.process (step_of member net p).rank) (step_of member net p).doing
may_play member net (Starts i number u) new = (refl, new)
may_play member net (Waits i now u) new = idle_may net i now u (net.process i)
may_play member net (Arrives k clock u) new = by (datagram_at net.sent k) refl
  where
    to_it : (d : Posted) → Contains net.sent d → (to : Peer) → d.datagram.to ≡ to
        → May net (comes_to to d.by d.datagram.bytes clock u).rank (net.process (comes_to to d.by d.datagram.bytes clock u).rank) (comes_to to d.by d.datagram.bytes clock u).doing
    to_it d c (Monitor i) e = may_come net d.by i d.datagram.bytes clock u (net.process i) (subst (λ (to : Peer). Contains net.sent (record { by = d.by; datagram = record { to = to; bytes = d.datagram.bytes } })) e c)
    to_it d c (Client x) e = idle_may net d.by clock u (net.process d.by)

    by : (o : Option Posted) → datagram_at net.sent k ≡ o → May net (if_sent o clock u).rank (net.process (if_sent o clock u).rank) (if_sent o clock u).doing
    by (Some d) e = to_it d (datagram_among net.sent k d e) d.datagram.to refl
    by None e = idle_may net 0 clock u (net.process 0)

module _ (ms : Monitors) (member : Member) where
  abbrev pub played_on : Network → Play → Network
  played_on net p = after_step ms net (step_of member net p)

  -- the network after these plays, the newest first
  abbrev pub played : List Play → Network
  played [] = first_network
  played (p ∷ earlier) = played_on (played earlier) p

  -- and its steps
  unfoldable pub steps_of : List Play → List Step
  steps_of [] = []
  steps_of (p ∷ earlier) = step_of member (played earlier) p ∷ steps_of earlier

  pub network_is : (ps : List Play) → network ms (steps_of ps) ≡ played ps
  unfolding network steps_of
  network_is [] = refl
  network_is (p ∷ earlier) = ap (λ (net : Network). after_step ms net (step_of member (played earlier) p)) (network_is earlier)

  -- each life of a rank was begun with a number of these
  module _ (i number : ℕ) where
    still_among : (p : Play) (older : List ℕ) → Contains older number → Contains (and_its_number p i older) number
    still_among (Starts rank other u) older c = by (eqb rank i)
      where
        by : (b : Bool) → Contains (cond b (other ∷ older) older) number
        by true = contains_later other older number c
        by false = c
    still_among (Arrives k clock u) older c = c
    still_among (Waits rank clock u) older c = c

    -- a play that begins nothing
    if_turned : (o : Option Posted) (clock : ℕ) (u : Until) (lives : List ℕ) → Contains (lives_then (if_sent o clock u).doing lives) number → Contains lives number
    if_turned (Some d) clock u lives c = by d.datagram.to c
      where
        by : (to : Peer) → Contains (lives_then (comes_to to d.by d.datagram.bytes clock u).doing lives) number → Contains lives number
        by (Monitor j) c = c
        by (Client j) c = c
    if_turned None clock u lives c = c

    begun_among : (net : Network) (p : Play) (older : List ℕ) → (Contains (net.lives i) number → Contains older number) → (step_of member net p).rank ≡ i
        → Contains (lives_then (step_of member net p).doing (net.lives i)) number → Contains (and_its_number p i older) number
    begun_among net (Starts rank other u) older h e c =
        subst (λ (b : Bool). Contains (cond b (other ∷ older) older) number) (sym (eq-eqb rank i e))
        (elim (contains_cases other (net.lives i) number c) [
          | inl first ↦ subst (Contains (other ∷ older)) first (contains_first other older)
          | inr later ↦ contains_later other older number (h later)
        ])
    begun_among net (Arrives k clock u) older h e c = h (if_turned (datagram_at net.sent k) clock u (net.lives i) c)
    begun_among net (Waits rank clock u) older h e c = h c

    lives_among : (ps : List Play) → Contains ((played ps).lives i) number → Contains (numbers_in i ps) number
    lives_among [] c = c
    lives_among (p ∷ earlier) c =
        let net : Network = played earlier in
        lives_left ms net (step_of member net p) i (λ (lives : List ℕ). Contains lives number → Contains (and_its_number p i (numbers_in i earlier)) number)
        (λ c. still_among p (numbers_in i earlier) (lives_among earlier c)) (begun_among net p (numbers_in i earlier) (lives_among earlier)) c

  if_new : (p : Play) (earlier : List Play) → IsNewIn earlier p → IfNew (played earlier) p
  if_new (Starts i number u) earlier new = (new.0, λ c. new.1 (lives_among i number earlier c))
  if_new (Arrives k clock u) earlier new = tt
  if_new (Waits i now u) earlier new = tt

  pub all_may : (ps : List Play) → AreNew ps → AllMay ms (steps_of ps)
  unfolding AllMay steps_of
  all_may [] new = tt
  all_may (p ∷ earlier) new =
      let s : Step = step_of member (played earlier) p in
      (all_may earlier new.0, subst (λ (net : Network). May net s.rank (net.process s.rank) s.doing) (sym (network_is earlier)) (may_play member (played earlier) p (if_new p earlier new.1)))
