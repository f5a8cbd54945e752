-- What the monitors remember during a command.
pub use Rattle.calm_command.specs.Resting.{Follows, Leads, firsts}
use Rattle.law_names.proofs.Runs.{Monitors}
use Rattle.law_names.proofs.Table.{Asked, Body, Message, Op, Origin, Readings, State, has}
use Rattle.mon_wire.specs.declared.phase.Phase.TheVariants as phase
use Rattle.quorum_model.proofs.Members.{member_of}
use Rattle.std.proofs.Common.{Bool, List, Some, [], false, ltb, refl, true, ℕ, ◌≡◌}
use Rattle.table_rows.proofs.Hearing.{IsLeader, IsMember}

-- an active leader of all n
abbrev pub active : (n : ℕ) (acks : List Bool) (taken : List ℕ) → State → State
active n acks taken s = record s {
  phase = phase.Active;
  leader = record s.leader { quorum = firsts n; pn = 100; acks = acks };
  clients = record s.clients { queue = []; sessions = []; taken = taken };
}

pub is_active : (n : ℕ) (acks : List Bool) (taken : List ℕ) (s : State) → Leads n acks taken s
    → s ≡ active n acks taken s
is_active n acks taken s H = λ i. record s {
  phase = H.phase i;
  leader = record s.leader { quorum = H.quorum i; pn = H.pn i; acks = H.acked i };
  clients = record s.clients { queue = H.queue i; sessions = H.sessions i; taken = H.took i };
}

-- one whose value is under way
abbrev pub updating : (n : ℕ) (accepted : List Bool) (value : List Op) (o : Origin) (taken : List ℕ) → State → State
updating n accepted value o taken s = record s {
  phase = phase.Updating;
  leader = record s.leader { quorum = firsts n; pn = 100; accepted = accepted; value = Some value; origin = Some o };
  clients = record s.clients { queue = []; sessions = []; taken = taken };
}

pub record Updates (n : ℕ) (accepted : List Bool) (value : List Op) (o : Origin) (taken : List ℕ) (s : State) : Type
    0 where
  pub phase : s.phase ≡ phase.Updating
  pub quorum : s.leader.quorum ≡ firsts n
  pub pn : s.leader.pn ≡ 100
  pub accepts : s.leader.accepted ≡ accepted
  pub values : s.leader.value ≡ Some value
  pub origin : s.leader.origin ≡ Some o
  pub queue : s.clients.queue ≡ []
  pub sessions : s.clients.sessions ≡ []
  pub took : s.clients.taken ≡ taken

pub is_updating : (n : ℕ) (accepted : List Bool) (value : List Op) (o : Origin) (taken : List ℕ) (s : State)
    → Updates n accepted value o taken s → s ≡ updating n accepted value o taken s
is_updating n accepted value o taken s H = λ i. record s {
  phase = H.phase i;
  leader = record s.leader {
    quorum = H.quorum i;
    pn = H.pn i;
    accepted = H.accepts i;
    value = H.values i;
    origin = H.origin i;
  };
  clients = record s.clients { queue = H.queue i; sessions = H.sessions i; taken = H.took i };
}

-- a peon of monitor 0, of which these sessions wait
abbrev pub following : (n : ℕ) (sessions : List Asked) (seq : ℕ) → State → State
following n sessions seq s = record s {
  phase = phase.Peon;
  peon = record s.peon { leader = 0; quorum = firsts n };
  clients = record s.clients { sessions = sessions; next_seq = seq };
}

pub is_following : (n : ℕ) (leased : Bool) (sessions : List Asked) (seq : ℕ) (s : State)
    → Follows n leased sessions seq s → s ≡ following n sessions seq s
is_following n leased sessions seq s H = λ i. record s {
  phase = H.phase i;
  peon = record s.peon { leader = H.leader i; quorum = H.quorum i };
  clients = record s.clients { sessions = H.waits i; next_seq = H.next i };
}

-- what the readers of a store with the last version v return
abbrev pub reads : ℕ → Readings → Readings
reads v w = record w { epoch = Some 2; promise = Some 100; last = v; marked = false }

-- a message of monitor `from`, in the epoch of a calm run
abbrev pub said : (n from : ℕ) → Body → Message
said n from b = record { from = from; monitors = n; epoch = 2; body = b }

module _ (ms : Monitors) {i : ℕ} (lt : ltb i ms.count ≡ true) where
  -- monitor 0 is the leader of such a peon
  pub led : (0 ≡ i → ⊥) → (v : ℕ) (w : Readings) (sessions : List Asked) (seq : ℕ) (s : State)
      → IsLeader (member_of ms i lt) (reads v w) (following ms.count sessions seq s) 0 2
  led other v w sessions seq s = record { other = other; follows = refl; epoch = refl; leader = refl }

  module _ {f : ℕ} (other : f ≡ i → ⊥) (member : has (firsts ms.count) f ≡ true) (v : ℕ) (w : Readings) where
    -- and the first n ranks are the quorum of such a leader
    pub led_by : (acks : List Bool) (taken : List ℕ) (s : State)
        → IsMember (member_of ms i lt) (reads v w) (active ms.count acks taken s) phase.Active f 2
    led_by acks taken s = record { other = other; leads = refl; epoch = refl; member = member }

    pub led_in_update : (accepted : List Bool) (value : List Op) (o : Origin) (taken : List ℕ) (s : State)
        → IsMember (member_of ms i lt) (reads v w) (updating ms.count accepted value o taken s) phase.Updating f 2
    led_in_update accepted value o taken s = record { other = other; leads = refl; epoch = refl; member = member }
