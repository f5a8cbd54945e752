-- What holds while the members join an election one by one.
use Rattle.law_names.proofs.Runs.{Envelope, Monitors, World, message_at}
use Rattle.law_names.proofs.Table.{AllByRecursion, Epoch, Message, Readings, end_of, epoch_of, has, length_of, played, readings_of}
use Rattle.mon_wire.specs.declared.body.Body.TheVariants as body
use Rattle.mon_wire.specs.declared.phase.Phase.TheVariants as phase
use Rattle.mon_wire.specs.declared.phase.Timer.TheVariants as timer
use Rattle.quorum_stays.specs.Steady.{FollowsSince}
use Rattle.quorum_timed.specs.Calls.{IsCall}
use Rattle.quorum_timed.specs.Timed.{MayBe, Owed, Pace, Timed}
use Rattle.std.proofs.Common.{Bool, IsSomeAnd, List, None, Option, Some, [], arith, false, min, refl, suc, true, ℕ, ◌*◌, ◌+◌, ◌<◌, ◌∷◌, ◌≡◌, ◌≤◌, ◌⊎◌}
use Rattle.timed_election.specs.Election.{ArrivesBy, Election, Heard, IsAck, Stands, TakesPart}
use Rattle.timed_election.specs.Joining.{CausesNoCopy, FollowsLost, LeavesStores}
use Rattle.timed_election.specs.Probing.{IsAnswer, IsProbe, IsProbing}

-- a message under way arrives by then
pub arrives_by : (by : ℕ) (P : Owed → Type 0) (ms : Monitors) (q : List Bool) (pace : Pace) (t : Timed) (u : ℕ) → MayBe ms q pace t u → (f i : ℕ) → has q f ≡ true → has q i ≡ true → ArrivesBy by P (t.under_way f i) → u ≤ by
arrives_by by P ms q pace t u M f i qf qi k = of (t.under_way f i) (λ o others e. M.messages f i qf qi o others e) k
  where
    of : (os : List Owed) → ((o : Owed) (others : List Owed) → os ≡ o ∷ others → u ≤ o.by) → ArrivesBy by P os → u ≤ by
    of [] le k = absurd k
    of (o ∷ others) le k = let a = le o others refl in let b = k.0 in omega arith

-- The member that is to win, and the even epoch in which all begin. Each member that probes has begun to by `top`, and all
-- take part by `end`. The member that led the others, if there is one, and what each store keeps at first.
pub record Beginning : Type 0 where
  pub best : ℕ
  pub epoch : ℕ
  pub top : ℕ
  pub end : ℕ
  pub former : Option ℕ
  pub stores : ℕ → Readings

module _ (ms : Monitors) (q : List Bool) (pace : Pace) (B : Beginning) where
  -- the election that a member called first at `from`
  abbrev pub election : (from : ℕ) → Election
  election from = record { epoch = suc B.epoch; best = B.best; from = from; by = min (from + 3 * pace.delay) B.end }

  -- who called it first, and when
  abbrev pub First : Type 0
  First = Option (ℕ × ℕ)

  abbrev pub call : (k i : ℕ) → Envelope
  call k i = record { to = i; message = record { from = k; monitors = ms.count; epoch = suc B.epoch; body = body.Propose None } }

  -- A message from f to i that arrives by `until`. A call is of the election, in which f takes part. What the former leader
  -- sent changes no store.
  pub record Goes (v : World) (f i until : ℕ) (o : Owed) : Type 0 where
    pub message : Message
    pub there : message_at v.messages o.number ≡ Some (record { to = i; message = message })
    pub sender : message.from ≡ f
    pub epoch : message.epoch ≤ suc B.epoch
    pub calls : IsCall message.body → (message.epoch ≡ suc B.epoch) × (epoch_of (readings_of (v.store f)) ≡ suc B.epoch)
    pub near : CausesNoCopy (B.stores i).last message.body
    pub leaves : B.former ≡ Some f → LeavesStores message.body
    pub in_time : o.by ≤ until

  -- a store keeps this, in epoch e
  pub record Stock (e : ℕ) (these w : Readings) : Type 0 where
    pub epoch : epoch_of w ≡ e
    pub unmarked : w.marked ≡ false
    pub same : w ≡ these

  -- the store of member i is as at the beginning
  abbrev pub Kept : (i : ℕ) → Readings → Type 0
  Kept i w = Stock B.epoch (B.stores i) w

  -- it changed in its epoch alone, which is that of the election
  abbrev pub Raised : (i : ℕ) → Readings → Type 0
  Raised i w = Stock (suc B.epoch) (played (Epoch (suc B.epoch) ∷ []) (B.stores i)) w

  -- ---- members

  -- the first call is under way to member i
  abbrev pub Called : First → Timed → ℕ → Type 0
  Called None t i = Unit {0}
  Called (Some (k, from)) t i = (has q k ≡ true) × (k ≡ i → ⊥) × ArrivesBy (from + pace.delay) (λ o. message_at t.world.messages o.number ≡ Some (call k i)) (t.under_way k i)

  -- a member that probes since then called soon after the first one
  abbrev pub Since : First → (at : ℕ) → Type 0
  Since None at = Unit {0}
  Since (Some (k, from)) at = at ≤ from + pace.delay

  -- it awaits the answers of the others
  abbrev pub Awaits : (at : ℕ) → Timed → (i : ℕ) → Type 0
  Awaits at t i = (j : ℕ) → has q j ≡ true → (j ≡ i → ⊥)
      → ArrivesBy (at + pace.delay) (IsProbe ms pace i at t.world.messages j) (t.under_way i j)
      ⊎ ArrivesBy (at + 2 * pace.delay) (IsAnswer ms pace i at t.world.messages j) (t.under_way j i)
      ⊎ IsSomeAnd (t.world.state i) (λ s. has s.prober.outside j ≡ true)

  pub record Prober (c : First) (t : Timed) (i : ℕ) : Type 0 where
    pub at : ℕ
    pub begun : at ≤ t.time
    pub early : at ≤ B.top
    pub since : Since c at
    pub probing : IsSomeAnd (t.world.state i) (IsProbing ms pace i at)
    pub calm : IsSomeAnd (t.world.state i) (λ s. end_of timer.Ping s.timers ≡ None)
    pub awaits : Awaits at t i

  -- it follows a monitor outside of q, and its lease ends in time for it to probe by `top`
  pub record Lost (t : Timed) (i : ℕ) : Type 0 where
    pub nobody : B.former ≡ None
    pub by : ℕ
    pub since : pace.since ≤ by
    pub early : by + pace.late ≤ B.top
    pub follows : IsSomeAnd (t.world.state i) (FollowsLost q (by + pace.clock i))

  -- it follows the former leader, and its lease lasts until all take part
  pub record Loyal (t : Timed) (i : ℕ) : Type 0 where
    pub leader : ℕ
    pub former : B.former ≡ Some leader
    pub quorum : List Bool
    pub leased : ℕ
    pub before : leased ≤ t.time
    pub lasts : B.end < leased + length_of timer.Lease
    pub late : B.top + 3 * pace.delay ≤ B.end
    pub follows : IsSomeAnd (t.world.state i) (FollowsSince leader quorum (leased + pace.clock i))

  abbrev pub Takes : First → Timed → ℕ → Type 0
  Takes None t i = ⊥
  Takes (Some (k, from)) t i = IsSomeAnd (t.world.state i) (λ s. TakesPart q pace (election from) i s × (i ≡ B.best → Stands q pace (election from) s))

  abbrev pub IsIn : Timed → ℕ → Type 0
  IsIn t i = epoch_of (readings_of (t.world.store i)) ≡ suc B.epoch

  -- it follows its lost leader or the former one, probes, or takes part
  pub data Standing (c : First) (t : Timed) (i : ℕ) : Type 0 where
    peon : Kept i (readings_of (t.world.store i)) → Lost t i → Called c t i → Standing c t i
    loyal : Kept i (readings_of (t.world.store i)) → Loyal t i → Called c t i → Standing c t i
    prober : Kept i (readings_of (t.world.store i)) → Prober c t i → Standing c t i
    joined : Raised i (readings_of (t.world.store i)) → Takes c t i → Standing c t i

  -- ---- acknowledgements

  -- member j hasn't heard `best`
  pub record Missed (t : Timed) (j : ℕ) : Type 0 where
    pub silent : AllByRecursion (λ o. IsAck ms pace (election 0) q t j o → ⊥) (t.under_way j B.best)
    pub unacked : IsIn t B.best → IsSomeAnd (t.world.state B.best) (λ s. has s.elector.acked j ≡ false)

  abbrev pub HeardIn : First → Timed → ℕ → Type 0
  HeardIn None t j = ⊥
  HeardIn (Some (k, from)) t j = IsIn t B.best × IsIn t j × Heard ms pace (election from) q t j

  -- ---- all of it

  abbrev pub Begun : First → Timed → Type 0
  Begun None t = Unit {0}
  Begun (Some (k, from)) t = (from ≤ t.time) × (pace.since ≤ from) × (from ≤ B.top + 2 * pace.delay)

  pub record Joining (c : First) (t : Timed) : Type 0 where
    pub since : pace.since ≤ t.time
    pub begun : Begun c t
    pub stands : (i : ℕ) → has q i ≡ true → Standing c t i
    pub former : c ≡ None → (l : ℕ) → B.former ≡ Some l → (has q l ≡ true) × IsSomeAnd (t.world.state l) (λ s. s.phase ≡ phase.Probing)
    pub under_way : (f i : ℕ) → has q f ≡ true → has q i ≡ true → AllByRecursion (Goes t.world f i (t.time + pace.delay)) (t.under_way f i)
    pub alike : (i k : ℕ) (m : Envelope) → message_at t.world.messages k ≡ Some m → IsCall m.message.body → m.message.from ≡ B.best → m.to ≡ i → m.message.epoch ≡ suc B.epoch → (m ≡ call B.best i) × IsIn t B.best
    pub called : IsIn t B.best → (i : ℕ) → has q i ≡ true → (i ≡ B.best → ⊥) → (k : ℕ) × (message_at t.world.messages k ≡ Some (call B.best i))
    pub told : (j : ℕ) → has q j ≡ true → (j ≡ B.best → ⊥) → Missed t j ⊎ HeardIn c t j
    pub calls_by : (i : ℕ) → has q i ≡ true → t.call_by B.best i ≤ t.time + pace.again
