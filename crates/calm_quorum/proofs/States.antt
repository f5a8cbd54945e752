-- The states and stores of the monitors in the first calm run.
use Rattle.calm_quorum.proofs.Sets.{chosen}
use Rattle.law_names.proofs.Runs.{classic}
use Rattle.law_names.proofs.Table.{Body, Boot, Change, Epoch, Leader, Me, Message, Numbers, Promise, Reaction, Readings, Sent, State, Store, apply, armed, booting, empty, encoded, joined, no_ranks, start_elector, start_leader, unarmed}
use Rattle.mon_msg.specs.declared.paxos.LeaderStage.TheVariants as stage
use Rattle.mon_wire.specs.declared.phase.Phase.TheVariants as phase
use Rattle.mon_wire.specs.declared.phase.Timer.TheVariants as timer
use Rattle.quorum_model.proofs.Members.{member_of}
use Rattle.std.proofs.Common.{Bool, List, None, Option, Some, [], false, nat_lt, refl, true, ℕ, ◌∷◌, ◌≡◌, ◌≤◌}

abbrev pub me_at : (n i : ℕ) → n ≤ 15 → nat_lt i n ≡ true → Me
me_at n i most e = member_of (classic n most) i e

abbrev pub says : (n i e : ℕ) → Body → Message
says n i e b = record { from = i; monitors = n; epoch = e; body = b }

-- what the readers of a monitor's store give before there is a version
abbrev pub tells : Option ℕ → Option ℕ → Option ℕ → Readings
tells epoch last_pn promise = record {
  epoch = epoch;
  boot = 1;
  last_pn = last_pn;
  promise = promise;
  pending_v = 0;
  pending_pn = 0;
  first = 0;
  last = 0;
  marked = false;
  floor = 0;
  record_of = λ v. None;
  row = λ s k. None;
}

abbrev pub reacts : List Change → List Sent → State → Reaction
reacts cs out s = record { transaction = joined (encoded cs); sends = out; state = s }

-- ---- states

abbrev pub probing : ℕ → List Bool → State
probing i outside = record (booting i) {
  phase = phase.Probing;
  prober = record { outside = outside };
  timers = armed 0 timer.Probe unarmed;
}

-- a monitor in an election, as a candidate or deferring to one
abbrev pub electing : ℕ → List Bool → Bool → List Bool → Option ℕ → State
electing i outside candidate acked deferred = record (booting i) {
  phase = phase.Electing;
  elector = record (start_elector i) { candidate = candidate; acked = acked; deferred = deferred };
  prober = record { outside = outside };
  timers = armed 0 timer.Election unarmed;
}

abbrev pub collector : ℕ → List Bool → Leader
collector n answered = record start_leader { quorum = chosen n; pn = 100; answered = answered; found = None }

abbrev pub collecting : ℕ → List Bool → List Bool → State
collecting n outside answered = record (booting 0) {
  phase = phase.Collecting;
  elector = record (start_elector 0) { candidate = true; acked = chosen n };
  prober = record { outside = outside };
  leader = collector n answered;
  timers = armed 0 timer.Collect unarmed;
}

abbrev pub leasing : ℕ → List Bool → List Bool → List (Option ℕ) → State
leasing n outside acks timers = record (booting 0) {
  phase = phase.Active;
  elector = record (start_elector 0) { candidate = true; acked = chosen n };
  prober = record { outside = outside };
  leader = record (collector n (chosen n)) { stage = stage.Active; lease = Some 5000; acks = acks };
  timers = timers;
}

abbrev pub following : ℕ → ℕ → List Bool → Option ℕ → State
following n i outside lease = record (booting i) {
  phase = phase.Peon;
  elector = record (start_elector i) { candidate = false; acked = no_ranks; deferred = Some 0 };
  prober = record { outside = outside };
  peon = record { leader = 0; quorum = chosen n; lease = lease };
  timers = armed 0 timer.Lease unarmed;
}

abbrev pub unacked : List (Option ℕ)
unacked = armed 0 timer.LeaseAck (armed 0 timer.Renew unarmed)

abbrev pub acked : List (Option ℕ)
acked = armed 0 timer.Renew unarmed

-- ---- stores

abbrev pub with_changes : List Change → Store → Store
with_changes cs m = apply (joined (encoded cs)) m

unfoldable pub born : Store
born = with_changes (Boot 1 ∷ Epoch 1 ∷ []) empty

unfoldable pub led : Store
led = with_changes (Epoch 2 ∷ Numbers 100 ∷ []) born

unfoldable pub served : Store
served = with_changes (Epoch 2 ∷ []) born

unfoldable pub promised : Store
promised = with_changes (Promise 100 ∷ []) served

unfoldable pub alone : Store
alone = with_changes (Boot 1 ∷ Epoch 1 ∷ Epoch 2 ∷ Numbers 100 ∷ []) empty

pub led_is : with_changes (Epoch 2 ∷ Numbers 100 ∷ []) born ≡ led
unfolding led
led_is = refl

pub served_is : with_changes (Epoch 2 ∷ []) born ≡ served
unfolding served
served_is = refl

pub promised_is : with_changes (Promise 100 ∷ []) served ≡ promised
unfolding promised
promised_is = refl

pub born_is : with_changes (Boot 1 ∷ Epoch 1 ∷ []) empty ≡ born
unfolding born
born_is = refl

pub alone_is : with_changes (Boot 1 ∷ Epoch 1 ∷ Epoch 2 ∷ Numbers 100 ∷ []) empty ≡ alone
unfolding alone
alone_is = refl
