-- An event under way: what it has written so far takes at most this many bytes, what it has said may be sent, and its
-- state may be remembered.
use Rattle.std.proofs.Common.{ℕ, ◌+◌, ◌<◌, ◌≤◌, ◌^◌, List, [], ◌∷◌, ◌++◌, map, Some, None, Ok, IfSome, arith}
use Rattle.std.specs.List.{AllByRecursion}
use Rattle.std.specs.Option.{option_map_or}
use Rattle.log_model.proofs.Lists.{all_append}
use Rattle.mon_msg.specs.Protocol.Changes.{Change, Boot, Epoch, Numbers, Promise, Vote, Record, Learn, Last, Copy, Mark, Unmark, ops_of}
use Rattle.mon_msg.specs.Protocol.Course.{Course}
use Rattle.mon_msg.specs.Protocol.Played.{play, played}
use Rattle.mon_msg.specs.Protocol.Readings.{Readings, after, epoch_of, epoch_or_first, number_if_there, readings_of}
use Rattle.mon_msg.specs.Protocol.Sending.{message_to}
use Rattle.mon_msg.specs.declared.clients.Clients.{Clients}
use Rattle.mon_msg.specs.declared.election.Elector.{Elector}
use Rattle.mon_msg.specs.declared.paxos.Leader.{Leader}
use Rattle.mon_msg.specs.declared.paxos.Peon.{Peon}
use Rattle.mon_msg.specs.declared.plan.Sent.{Sent}
use Rattle.mon_msg.specs.declared.synchronization.Requester.{Requester}
use Rattle.mon_msg.specs.declared.view.Me.{Me}
use Rattle.mon_tx.proofs.Places.{number_in-low}
use Rattle.mon_tx.specs.Decision.{Cell, Decision, decision}
use Rattle.mon_tx.specs.Keys.{cell, place}
use Rattle.mon_tx.specs.Map.{Store, number_in}
use Rattle.mon_tx.specs.declared.key.Area.TheVariants as area
use Rattle.mon_tx.specs.declared.key.Key.TheVariants as key
use Rattle.mon_tx.specs.declared.op.Op.{Op}
use Rattle.mon_wire.specs.declared.body.Body.{Body}
use Rattle.mon_wire.specs.declared.phase.Phase.{Phase}
use Rattle.mon_bounds.proofs.Messages.{Said, goes}
use Rattle.mon_bounds.proofs.Sizes.{size, size-append}
use Rattle.quorum_walk.proofs.Walk.{Then, done}
use Rattle.mon_bounds.specs.Fitting.{MaySend}
use Rattle.mon_bounds.specs.Remembered.{AreClients, IsElector, IsLeader, IsNumber, IsPeon, IsPlaced, IsRequester}

-- ---- what a store's readers return

-- the numbers that the readers return can be carried by a message
pub record AreNumbers (w : Readings) : Type 0 where
  pub epoch : IsNumber (epoch_of w)
  pub boot : IsNumber w.boot
  pub promise : IfSome w.promise IsNumber
  pub pending : IsNumber w.pending_pn
  pub first : IsNumber w.first
  pub last : IsNumber w.last

epoch_short : (c : Cell) → epoch_or_first (number_if_there c) ≤ 2 ^ 62
epoch_short None = omega arith
epoch_short (Some bytes) = number_in-low (Some bytes)

there_short : (c : Cell) → IfSome (number_if_there c) IsNumber
there_short None = tt
there_short (Some bytes) = number_in-low (Some bytes)

pub readings_numbers : (m : Store) → AreNumbers (readings_of m)
unfolding readings_of
readings_numbers m = record {
  epoch = epoch_short (cell m area.Monitor key.ElectionEpoch);
  boot = number_in-low (cell m area.Monitor key.BootCount);
  promise = there_short (cell m area.Paxos key.AcceptedPn);
  pending = number_in-low (cell m area.Paxos key.PendingPn);
  first = number_in-low (cell m area.Paxos key.FirstCommitted);
  last = number_in-low (cell m area.Paxos key.LastCommitted);
}

told : {A : Type 0} (P : A → Type 0) (tell : Cell → A) (d : Decision) (before : A) → ((c : Cell) → P (tell c)) → P before → P (option_map_or tell d before)
told P tell None before h k = k
told P tell (Some c) before h k = h c

after_numbers : (ops : List Op) (w : Readings) → AreNumbers w → AreNumbers (after ops w)
unfolding after
after_numbers ops w R = record {
  epoch = told (λ e. epoch_or_first e ≤ 2 ^ 62) number_if_there (decision ops (place area.Monitor key.ElectionEpoch)) w.epoch epoch_short R.epoch;
  boot = told IsNumber number_in (decision ops (place area.Monitor key.BootCount)) w.boot number_in-low R.boot;
  promise = told (λ p. IfSome p IsNumber) number_if_there (decision ops (place area.Paxos key.AcceptedPn)) w.promise there_short R.promise;
  pending = told IsNumber number_in (decision ops (place area.Paxos key.PendingPn)) w.pending_pn number_in-low R.pending;
  first = told IsNumber number_in (decision ops (place area.Paxos key.FirstCommitted)) w.first number_in-low R.first;
  last = told IsNumber number_in (decision ops (place area.Paxos key.LastCommitted)) w.last number_in-low R.last;
}

-- what readers return after a change, which a message can carry
abbrev pub Tells : Change → Type 0
Tells (Boot b) = IsNumber b
Tells (Epoch e) = IsNumber e
Tells (Numbers pn) = IsNumber pn
Tells (Promise pn) = IsNumber pn
Tells (Vote v pn value) = IsNumber pn
Tells (Last v) = IsNumber v
Tells (Mark floor last_pn promise) = IfSome promise IsNumber
Tells other = Unit {0}

play_numbers : (c : Change) (w : Readings) → Tells c → AreNumbers w → AreNumbers (play c w)
play_numbers (Boot b) w h R = record { epoch = R.epoch; boot = h; promise = R.promise; pending = R.pending; first = R.first; last = R.last }
play_numbers (Epoch e) w h R = record { epoch = h; boot = R.boot; promise = R.promise; pending = R.pending; first = R.first; last = R.last }
play_numbers (Numbers pn) w h R = record { epoch = R.epoch; boot = R.boot; promise = h; pending = R.pending; first = R.first; last = R.last }
play_numbers (Promise pn) w h R = record { epoch = R.epoch; boot = R.boot; promise = h; pending = R.pending; first = R.first; last = R.last }
play_numbers (Vote v pn value) w h R = record { epoch = R.epoch; boot = R.boot; promise = R.promise; pending = h; first = R.first; last = R.last }
play_numbers (Record v value) w h R = record { epoch = R.epoch; boot = R.boot; promise = R.promise; pending = R.pending; first = R.first; last = R.last }
play_numbers (Learn v value) w h R = after_numbers (ops_of (Learn v value)) w R
play_numbers (Last v) w h R = record { epoch = R.epoch; boot = R.boot; promise = R.promise; pending = R.pending; first = R.first; last = h }
play_numbers (Copy entry) w h R = after_numbers (ops_of (Copy entry)) w R
play_numbers (Mark floor l p) w h R = record { epoch = R.epoch; boot = R.boot; promise = h; pending = omega arith; first = omega arith; last = omega arith }
play_numbers Unmark w h R = record { epoch = R.epoch; boot = R.boot; promise = R.promise; pending = R.pending; first = R.first; last = R.last }

pub played_numbers : (cs : List Change) (w : Readings) → AllByRecursion Tells cs → AreNumbers w → AreNumbers (played cs w)
played_numbers [] w h R = R
played_numbers (c ∷ cs) w h R = played_numbers cs (play c w) h.1 (play_numbers c w h.0 R)

-- ---- what is written and said

module _ (me : Me) where
  pub record Written (b : ℕ) (w : Readings) (cs : List Change) (out : List Sent) : Type 0 where
    pub bytes : size cs ≤ b
    pub numbers : AreNumbers w
    pub sends : AllByRecursion (MaySend me) out

  -- what every role but the leader remembers, and what all roles remember
  pub record Others (e : Elector) (q : Peon) (c : Clients) (s : Requester) : Type 0 where
    pub elector : IsElector me.member.monitors me.member.rank e
    pub peon : IsPeon me.member.monitors q
    pub clients : AreClients me.member.monitors c
    pub requester : IsRequester me.member.monitors s

  pub record Keeps (p : Phase) (l : Leader) (e : Elector) (q : Peon) (c : Clients) (s : Requester) : Type 0 where
    pub placed : IsPlaced me.member.monitors p l
    pub leader : IsLeader me.member.monitors l
    pub others : Others e q c s

  abbrev pub WrittenIn : ℕ → Course → Type 0
  WrittenIn b x = Written b x.readings x.changes x.out

  abbrev pub OthersIn : Course → Type 0
  OthersIn x = Others x.state.elector x.state.peon x.state.clients x.state.requester

  abbrev pub KeepsIn : Course → Type 0
  KeepsIn x = Keeps x.state.phase x.state.leader x.state.elector x.state.peon x.state.clients x.state.requester

  -- an event that has written at most b bytes, and one that has written at most as much as a store takes
  abbrev pub Under : ℕ → Course → Type 0
  Under b x = WrittenIn b x × KeepsIn x

  abbrev pub most_written : ℕ
  most_written = 4194299

  abbrev pub Over : Course → Type 0
  Over x = Under most_written x

  -- ---- what is written

  pub raise : (b more : ℕ) (w : Readings) (cs : List Change) (out : List Sent) → b ≤ more → Written b w cs out → Written more w cs out
  raise b more w cs out h A = record { bytes = let k = A.bytes in omega arith; numbers = A.numbers; sends = A.sends }

  pub writes : (more : List Change) (k b : ℕ) (w : Readings) (cs : List Change) (out : List Sent) → size more ≤ k → AllByRecursion Tells more → Written b w cs out → Written (b + k) (played more w) (cs ++ more) out
  writes more k b w cs out h f A = record { bytes = let l = A.bytes in omega (arith, size-append cs more); numbers = played_numbers more w f A.numbers; sends = A.sends }

  pub says : (more : List Sent) (b : ℕ) (w : Readings) (cs : List Change) (out : List Sent) → AllByRecursion (MaySend me) more → Written b w cs out → Written b w cs (out ++ more)
  says more b w cs out h A = record { bytes = A.bytes; numbers = A.numbers; sends = all_append (MaySend me) out more A.sends h }

  pub each_goes : (body : Body) (epoch : ℕ) (tos : List ℕ) → epoch ≤ 2 ^ 62 → Said me body → AllByRecursion (λ (k : ℕ). k < me.member.monitors) tos → AllByRecursion (MaySend me) (map (message_to me epoch body) tos)
  each_goes body epoch [] h S k = tt
  each_goes body epoch (to ∷ tos) h S k = ((k.0, goes me body epoch h S), each_goes body epoch tos h S k.1)

  pub tells_each : (body : Body) (tos : List ℕ) (b : ℕ) (w : Readings) (cs : List Change) (out : List Sent) → Said me body → AllByRecursion (λ (k : ℕ). k < me.member.monitors) tos → Written b w cs out
      → Written b w cs (out ++ map (message_to me (epoch_of w) body) tos)
  tells_each body tos b w cs out S k A = says (map (message_to me (epoch_of w) body) tos) b w cs out (each_goes body (epoch_of w) tos A.numbers.epoch S k) A

  pub tells : (body : Body) (to b : ℕ) (w : Readings) (cs : List Change) (out : List Sent) → Said me body → to < me.member.monitors → Written b w cs out
      → Written b w cs (out ++ message_to me (epoch_of w) body to ∷ [])
  tells body to b w cs out S lt A = says (message_to me (epoch_of w) body to ∷ []) b w cs out ((lt, goes me body (epoch_of w) A.numbers.epoch S), tt) A

  -- ---- what is remembered

  module _ {p : Phase} {l : Leader} {e : Elector} {q : Peon} {c : Clients} {s : Requester} where
    pub leading : (more : Leader) → Keeps p l e q c s → IsPlaced me.member.monitors p more → IsLeader me.member.monitors more → Keeps p more e q c s
    leading more K a h = record { placed = a; leader = h; others = K.others }

    pub electing : (more : Elector) → Keeps p l e q c s → IsElector me.member.monitors me.member.rank more → Keeps p l more q c s
    electing more K h = let O = K.others in record { placed = K.placed; leader = K.leader; others = record { elector = h; peon = O.peon; clients = O.clients; requester = O.requester } }

    pub following : (more : Peon) → Keeps p l e q c s → IsPeon me.member.monitors more → Keeps p l e more c s
    following more K h = let O = K.others in record { placed = K.placed; leader = K.leader; others = record { elector = O.elector; peon = h; clients = O.clients; requester = O.requester } }

    pub serving : (more : Clients) → Keeps p l e q c s → AreClients me.member.monitors more → Keeps p l e q more s
    serving more K h = let O = K.others in record { placed = K.placed; leader = K.leader; others = record { elector = O.elector; peon = O.peon; clients = h; requester = O.requester } }

    pub copying : (more : Requester) → Keeps p l e q c s → IsRequester me.member.monitors more → Keeps p l e q c more
    copying more K h = let O = K.others in record { placed = K.placed; leader = K.leader; others = record { elector = O.elector; peon = O.peon; clients = O.clients; requester = h } }

  -- an event may end if it has written at most b bytes, and b is allowed
  pub over : (b : ℕ) (x : Course) → b ≤ most_written → Under b x → Then Over (Ok x)
  over b x h A = done (raise b most_written x.readings x.changes x.out h A.0, A.1)
