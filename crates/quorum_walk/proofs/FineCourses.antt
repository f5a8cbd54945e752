-- When a course is fine: it passes on only values of commands, its numbers fit, and what it says is what its
-- transaction writes. Nothing here depends on other monitors or on a phase.
use Rattle.log_model.specs.LogOfValues.{IsCommand}
use Rattle.mon_bytes.specs.declared.command.Command.TheVariants as command
use Rattle.mon_bytes.specs.declared.command.Command.{Command}
use Rattle.mon_bytes.specs.declared.entry.Entry.{Entry}
use Rattle.mon_msg.proofs.Changed.{readings-joined}
use Rattle.mon_msg.specs.Joined.{joined}
use Rattle.mon_msg.specs.Protocol.Changes.{Boot, Change, Copy, Epoch, Last, Learn, Mark, Numbers, Promise, Record, Unmark, Vote, encoded, ops_of}
use Rattle.mon_msg.specs.Protocol.Course.{Course}
use Rattle.mon_msg.specs.Protocol.Phases.{same_phase}
use Rattle.mon_msg.specs.Protocol.Played.{Fits, IsShort, play, played}
use Rattle.mon_msg.specs.Protocol.Readings.{Readings, cell_after, epoch_of, epoch_or_first, readings_of}
use Rattle.mon_msg.specs.Protocol.Records.{most_value, pending, transaction_in}
use Rattle.mon_msg.specs.Protocol.Sending.{message_to}
use Rattle.mon_msg.specs.Protocol.Services.{service_last}
use Rattle.mon_msg.specs.Protocol.State.{State}
use Rattle.mon_msg.specs.Protocol.Value.{service_of, value}
use Rattle.mon_msg.specs.declared.clients.Waiting.{Waiting}
use Rattle.mon_msg.specs.declared.input.Input.TheVariants as input
use Rattle.mon_msg.specs.declared.input.Input.{Input}
use Rattle.mon_msg.specs.declared.paxos.Found.{Found}
use Rattle.mon_msg.specs.declared.plan.Origin.TheVariants as origin
use Rattle.mon_msg.specs.declared.plan.Origin.{Origin}
use Rattle.mon_msg.specs.declared.plan.Sent.TheVariants as sent
use Rattle.mon_msg.specs.declared.plan.Sent.{Sent}
use Rattle.mon_msg.specs.declared.synchronization.SyncStage.TheVariants as sync
use Rattle.mon_msg.specs.declared.synchronization.SyncStage.{SyncStage}
use Rattle.mon_msg.specs.declared.view.Me.{Me}
use Rattle.mon_tx.specs.Decision.{Cell, decision}
use Rattle.mon_tx.specs.Keys.{place}
use Rattle.mon_tx.specs.Map.{Store, apply}
use Rattle.mon_tx.specs.declared.key.Area.TheVariants as area
use Rattle.mon_tx.specs.declared.key.Key.TheVariants as key
use Rattle.mon_tx.specs.Text.{text}
use Rattle.mon_tx.specs.declared.op.Op.{Op}
use Rattle.mon_wire.specs.declared.body.Body.TheVariants as body
use Rattle.mon_wire.specs.declared.body.Body.{Body}
use Rattle.mon_wire.specs.declared.message.Message.{Message}
use Rattle.mon_wire.specs.declared.parts.Told.{Told}
use Rattle.mon_wire.specs.declared.phase.Phase.TheVariants as phase
use Rattle.mon_wire.specs.declared.request.Request.TheVariants as request
use Rattle.mon_wire.specs.declared.request.Request.{Request}
use Rattle.quorum_walk.proofs.Sparing.{EntrySpares, Own, Spares, own_of, played_more}
use Rattle.std.proofs.Common.{IfSome, List, None, Ok, Option, Some, [], ap, inl, inr, length, map, refl, subst, suc, sym, ℕ, ◌++◌, ◌∙◌, ◌∷◌, ◌≡◌, ◌≤◌, ◌⊎◌}
use Rattle.std.specs.List.{AllByRecursion}
use Rattle.std.specs.Prelude.{if◌then◌else◌}
use Rattle.table_walk.proofs.Lists.{all_append, all_of}

-- what some store's readers return
abbrev pub IsStored : Readings → Type 0
IsStored w = (m : Store) × (w ≡ readings_of m)

-- A value that may be proposed and learned: the value of a command over some store.
pub record Val (x : List Op) : Type 0 where
  pub over : Store
  pub command : Command
  pub form : IsCommand command
  pub asked : ℕ
  pub rank : asked ≤ 14
  pub made : value (readings_of over) command asked ≡ Ok x
  pub spares : Spares x
  pub reads : transaction_in (Some (text x)) ≡ Some x
  pub short : length (text x) ≤ most_value
  -- it puts no version's record, and may erase some
  pub records : (u : ℕ) → (decision x (place area.Paxos (key.Version u)) ≡ None) ⊎ (decision x (place area.Paxos (key.Version u)) ≡ Some None)

-- every value that a command makes is such
abbrev pub Made : Type 0
Made = (w : Readings) → IsStored w → (c : Command) (asked : ℕ) (x : List Op) → IsCommand c → asked ≤ 14 → IsShort w.last → IsShort (suc (service_last w (service_of c))) → value w c asked ≡ Ok x → Val x

-- if a cell encodes a transaction, that is such a value
abbrev pub CellFine : Cell → Type 0
CellFine c = (x : List Op) → transaction_in c ≡ Some x → Val x

pub record EntryFine (e : Entry) : Type 0 where
  pub spares : EntrySpares e
  pub cells : (u : ℕ) (c : Cell) → CellFine c → CellFine (cell_after (ops_of (Copy e)) area.Paxos (key.Version u) c)

-- ---- a monitor

pub record OwnFine (o : Own) : Type 0 where
  pub epoch : IsShort (epoch_or_first o.epoch)
  pub last_pn : IfSome o.last_pn IsShort
  pub promise : IfSome o.promise IsShort
  pub pending : IsShort o.pending_v
  pub last : IsShort o.last
  pub floor : IsShort o.floor

abbrev pub RecordsFine : (ℕ → Cell) → Type 0
RecordsFine records = (v : ℕ) → CellFine (records v)

pub record ReadingsFine (w : Readings) : Type 0 where
  pub own : OwnFine (own_of w)
  pub records : RecordsFine w.record_of

abbrev pub StageFine : SyncStage → Type 0
StageFine sync.Cookie = Unit {0}
StageFine sync.Chunks = Unit {0}
StageFine (sync.Replay next end) = IsShort end

abbrev pub FoundFine : Option Found → Type 0
FoundFine found = IfSome found (λ f. Val f.value)

-- a command that has its form, asked of a monitor of the map
abbrev pub OriginFine : Origin → Type 0
OriginFine (origin.Session s) = Unit {0}
OriginFine (origin.Forwarded f seq) = f ≤ 14

abbrev pub WaitingFine : Waiting → Type 0
WaitingFine w = IsCommand w.command × OriginFine w.origin

pub record StateFine (f : Option Found) (v : Option (List Op)) (p : ℕ) (s : SyncStage) (q : List Waiting) : Type 0 where
  pub found : FoundFine f
  pub value : IfSome v Val
  pub pn : IsShort p
  pub stage : StageFine s
  pub queue : AllByRecursion WaitingFine q

-- ---- messages

-- what a request asks has its form
abbrev pub RequestFine : Request → Type 0
RequestFine (request.Set key value) = IsCommand (command.Set key value)
RequestFine (request.Remove key) = IsCommand (command.Remove key)
RequestFine (request.Log text) = IsCommand (command.Log text)
RequestFine other = Unit {0}

abbrev pub ToldFine : Option Told → Type 0
ToldFine told = IfSome told (λ t. Val t.value)

abbrev pub BodyFine : Body → Type 0
BodyFine (body.Collect pn first last) = IsShort pn
BodyFine (body.Last pn first last whole from values pending) = AllByRecursion Val values × ToldFine pending
BodyFine (body.Begin pn v value) = IsShort pn × IsShort v × Val value
BodyFine (body.Commit from values) = AllByRecursion Val values
BodyFine (body.Forward seq c) = IsCommand c
BodyFine (body.Chunk cookie p values entries done) = AllByRecursion Val values × AllByRecursion EntryFine entries
BodyFine (body.LastChunk cookie p values entries last) = AllByRecursion Val values × AllByRecursion EntryFine entries × IsShort last
BodyFine other = Unit {0}

abbrev pub MessageFine : Message → Type 0
MessageFine m = IsShort m.epoch × BodyFine m.body

-- ---- changes

-- a change's number fits, and its value or entry doesn't change the monitor's own keys
abbrev pub Fit : Change → Type 0
Fit (Learn v value) = Spares value
Fit (Copy entry) = EntrySpares entry
Fit other = Fits other

pub fit_fits : (cs : List Change) → AllByRecursion Fit cs → AllByRecursion Fits cs
fit_fits [] k = tt
fit_fits (Learn v value ∷ cs) k = (tt, fit_fits cs k.1)
fit_fits (Copy entry ∷ cs) k = (tt, fit_fits cs k.1)
fit_fits (Boot n ∷ cs) k = (k.0, fit_fits cs k.1)
fit_fits (Epoch n ∷ cs) k = (k.0, fit_fits cs k.1)
fit_fits (Numbers n ∷ cs) k = (k.0, fit_fits cs k.1)
fit_fits (Promise n ∷ cs) k = (k.0, fit_fits cs k.1)
fit_fits (Vote v pn value ∷ cs) k = (k.0, fit_fits cs k.1)
fit_fits (Record v value ∷ cs) k = (k.0, fit_fits cs k.1)
fit_fits (Last n ∷ cs) k = (k.0, fit_fits cs k.1)
fit_fits (Mark f l p ∷ cs) k = (k.0, fit_fits cs k.1)
fit_fits (Unmark ∷ cs) k = (k.0, fit_fits cs k.1)

-- A change that is no vote and no mark. A vote or a mark can only be the last change of a course.
abbrev pub IsCalm : Change → Type 0
IsCalm (Vote v pn value) = ⊥
IsCalm (Mark floor last_pn promise) = ⊥
IsCalm other = Unit {0}

abbrev pub Calm : List Change → Type 0
Calm = AllByRecursion IsCalm

pub record EndsInVote (cs : List Change) : Type 0 where
  pub before : List Change
  pub calm : Calm before
  pub v : ℕ
  pub pn : ℕ
  pub value : List Op
  pub is : cs ≡ before ++ Vote v pn value ∷ []

pub record EndsInMark (cs : List Change) : Type 0 where
  pub before : List Change
  pub calm : Calm before
  pub floor : ℕ
  pub last_pn : Option ℕ
  pub promise : Option ℕ
  pub is : cs ≡ before ++ Mark floor last_pn promise ∷ []

abbrev pub Shaped : List Change → Type 0
Shaped cs = Calm cs ⊎ (EndsInVote cs ⊎ EndsInMark cs)

-- what the readers returned when an event began, and the count of starts when it is over
pub record Base (me : Me) : Type 0 where
  pub from : Readings
  pub boot : ℕ

-- an event that isn't counted as a start
abbrev pub still : (me : Me) → Readings → Base me
still me w = record { from = w; boot = w.boot }

-- the count of starts after an event, from the count before it
abbrev pub boot_after : State → Input → ℕ → ℕ
boot_after s input.Start boot = if same_phase s.phase phase.Booting then suc boot else boot
boot_after s other boot = boot

abbrev pub begun : (me : Me) → Readings → State → Input → Base me
begun me w s came = record { from = w; boot = boot_after s came w.boot }

-- a message is fine, and names its sender
abbrev pub SentOwn : Me → Sent → Type 0
SentOwn me (sent.Message to m) = MessageFine m × (m.from ≡ me.member.rank)
SentOwn me (sent.Reply to r) = Unit {0}

-- ---- a course, begun where the readers returned w0

pub record FineAt (Shape : List Change → Type 0) (me : Me) (w0 : Base me) (w : Readings) (cs : List Change) (found : Option Found) (value : Option (List Op)) (pn : ℕ) (stage : SyncStage) (queue : List Waiting) (out : List Sent) : Type 0 where
  pub shape : Shape cs
  pub stored : IsStored w0.from
  pub tells : w ≡ played cs w0.from
  pub boot : w.boot ≡ w0.boot
  pub fits : AllByRecursion Fit cs
  pub readings : ReadingsFine w
  pub state : StateFine found value pn stage queue
  pub sends : AllByRecursion (SentOwn me) out

abbrev pub FineOf : (List Change → Type 0) → (me : Me) → Base me → Course → Type 0
FineOf Shape me w0 x = FineAt Shape me w0 x.readings x.changes x.state.leader.found x.state.leader.value x.state.leader.pn x.state.requester.stage x.state.clients.queue x.out

-- a fine course, without a vote or a mark so far (`Fine`), and at its end (`Ended`)
abbrev pub Fine : {me : Me} → Base me → Course → Type 0
Fine {me = me} w0 x = FineOf Calm me w0 x

abbrev pub Ended : {me : Me} → Base me → Course → Type 0
Ended {me = me} w0 x = FineOf Shaped me w0 x

module _ {S : List Change → Type 0} {me : Me} {w0 : Base me} {w : Readings} {cs : List Change} {found : Option Found} {value : Option (List Op)} {pn : ℕ} {stage : SyncStage} {queue : List Waiting} {out : List Sent} where
  pub more_sent : (more : List Sent) → FineAt S me w0 w cs found value pn stage queue out → AllByRecursion (SentOwn me) more → FineAt S me w0 w cs found value pn stage queue (out ++ more)
  more_sent more A k = record { shape = A.shape; stored = A.stored; tells = A.tells; boot = A.boot; fits = A.fits; readings = A.readings; state = A.state; sends = all_append (SentOwn me) out more A.sends k }

  pub state_fine : (f : Option Found) (v : Option (List Op)) (p : ℕ) (s : SyncStage) (q : List Waiting) → FineAt S me w0 w cs found value pn stage queue out → StateFine f v p s q
      → FineAt S me w0 w cs f v p s q out
  state_fine f v p s q A k = record { shape = A.shape; stored = A.stored; tells = A.tells; boot = A.boot; fits = A.fits; readings = A.readings; state = k; sends = A.sends }

module _ {S : List Change → Type 0} (me : Me) {w0 : Base me} {w : Readings} {cs : List Change} {found : Option Found} {value : Option (List Op)} {pn : ℕ} {stage : SyncStage} {queue : List Waiting} {out : List Sent} where
  -- a message to each of some, and to one
  pub tells_fine : (b : Body) (tos : List ℕ) → FineAt S me w0 w cs found value pn stage queue out → BodyFine b
      → FineAt S me w0 w cs found value pn stage queue (out ++ map (message_to me (epoch_of w) b) tos)
  tells_fine b tos A k = more_sent (map (message_to me (epoch_of w) b) tos) A (all_of (SentOwn me) (message_to me (epoch_of w) b) (λ to. ((A.readings.own.epoch, k), refl)) tos)

  pub tell_fine : (b : Body) (to : ℕ) → FineAt S me w0 w cs found value pn stage queue out → BodyFine b
      → FineAt S me w0 w cs found value pn stage queue (out ++ message_to me (epoch_of w) b to ∷ [])
  tell_fine b to A k = more_sent (message_to me (epoch_of w) b to ∷ []) A (((A.readings.own.epoch, k), refl), tt)

module _ {me : Me} {w0 : Base me} {w : Readings} {cs : List Change} {found : Option Found} {value : Option (List Op)} {pn : ℕ} {stage : SyncStage} {queue : List Waiting} {out : List Sent} where
  pub changes_fine : (more : List Change) → FineAt Calm me w0 w cs found value pn stage queue out → Calm more → AllByRecursion Fit more → ReadingsFine (played more w) → (played more w).boot ≡ w.boot
      → FineAt Calm me w0 (played more w) (cs ++ more) found value pn stage queue out
  changes_fine more A c f r same = record {
    boot = same ∙ A.boot;
    shape = all_append IsCalm cs more A.shape c;
    stored = A.stored;
    tells = ap (played more) A.tells ∙ sym (played_more cs more w0.from);
    fits = all_append Fit cs more A.fits f;
    readings = r;
    state = A.state;
    sends = A.sends;
  }

  -- what is read after the changes so far is what some store's readers return
  pub stored_now : FineAt Calm me w0 w cs found value pn stage queue out → IsStored w
  stored_now A = (apply (joined (encoded cs)) A.stored.0, A.tells ∙ ap (played cs) A.stored.1 ∙ sym (readings-joined cs (fit_fits cs A.fits) A.stored.0))

  -- a number alone
  pub number_fine : (c : Change) → FineAt Calm me w0 w cs found value pn stage queue out → IsCalm c → Fit c → (play c w).record_of ≡ w.record_of → (play c w).boot ≡ w.boot → OwnFine (own_of (play c w))
      → FineAt Calm me w0 (play c w) (cs ++ c ∷ []) found value pn stage queue out
  number_fine c A calm f same boots o = changes_fine (c ∷ []) A (calm, tt) (f, tt) (record { own = o; records = subst RecordsFine (sym same) A.readings.records }) boots

  pub vote_fine : (v p : ℕ) (x : List Op) → FineAt Calm me w0 w cs found value pn stage queue out → Fit (Vote v p x) → ReadingsFine (play (Vote v p x) w)
      → FineAt Shaped me w0 (play (Vote v p x) w) (cs ++ Vote v p x ∷ []) found value pn stage queue out
  vote_fine v p x A f r = record {
    boot = A.boot;
    shape = inr (inl (record { before = cs; calm = A.shape; v = v; pn = p; value = x; is = refl }));
    stored = A.stored;
    tells = ap (play (Vote v p x)) A.tells ∙ sym (played_more cs (Vote v p x ∷ []) w0.from);
    fits = all_append Fit cs (Vote v p x ∷ []) A.fits (f, tt);
    readings = r;
    state = A.state;
    sends = A.sends;
  }

  pub mark_fine : (floor : ℕ) (last_pn promised : Option ℕ) → FineAt Calm me w0 w cs found value pn stage queue out → Fit (Mark floor last_pn promised) → ReadingsFine (play (Mark floor last_pn promised) w)
      → FineAt Shaped me w0 (play (Mark floor last_pn promised) w) (cs ++ Mark floor last_pn promised ∷ []) found value pn stage queue out
  mark_fine floor last_pn promised A f r = record {
    boot = A.boot;
    shape = inr (inr (record { before = cs; calm = A.shape; floor = floor; last_pn = last_pn; promise = promised; is = refl }));
    stored = A.stored;
    tells = ap (play (Mark floor last_pn promised)) A.tells ∙ sym (played_more cs (Mark floor last_pn promised ∷ []) w0.from);
    fits = all_append Fit cs (Mark floor last_pn promised ∷ []) A.fits (f, tt);
    readings = r;
    state = A.state;
    sends = A.sends;
  }

  pub ended_at : FineAt Calm me w0 w cs found value pn stage queue out → FineAt Shaped me w0 w cs found value pn stage queue out
  ended_at A = record { shape = inl A.shape; stored = A.stored; tells = A.tells; boot = A.boot; fits = A.fits; readings = A.readings; state = A.state; sends = A.sends }
