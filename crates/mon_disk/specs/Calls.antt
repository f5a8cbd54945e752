-- What can be seen of a disk, and what holds of the calls on it.
use Rattle.std.specs.Prelude.{◌≡◌, ◌⊎◌, ℕ, suc, Bool, true, false, nat_le, List, [], ◌∷◌, ◌++◌, length, Option, Some, None, IfSome, is_some}
use Rattle.mon_types.specs.Faults.{risen}
use Rattle.mon_types.specs.declared.names.Stop.{Stop}
use Rattle.mon_types.specs.declared.names.Stop.TheVariants.{Failed, OutOfMemory}
use Rattle.mon_disk.specs.declared.disk.DiskCall.{DiskCall}
use Rattle.mon_disk.specs.Images.{Content, images, LeavesOnly}

-- What can be seen of a disk's calls: the writes and syncs in order, failed ones too; the number, counted from 1, of
-- the first that fails, as all after it do; and the file that the disk settles to after any list of writes and syncs.
pub record Observed : Type 0 where
  pub made : List DiskCall
  pub fails_from : Option ℕ
  pub settles : List DiskCall → List ℕ

-- A disk at one point: what it holds, and what a crash may leave of it; its known length; the calls that were made on it, if
-- they can be seen; how many calls failed so far; and how many of its own allocations failed. Both counts saturate at the
-- greatest 64-bit number.
pub record DiskState : Type 1 where
  pub content : Content
  pub known : ℕ
  pub observed : Option Observed
  pub faults : ℕ
  pub refusals : ℕ

-- one more call
abbrev pub and_made : DiskCall → Option Observed → Option Observed
and_made call None = None
and_made call (Some t) = Some (record { made = t.made ++ call ∷ []; fails_from = t.fails_from; settles = t.settles })

-- whether the call of this number fails: it is the first that does, or a later one
abbrev pub is_past : Option ℕ → ℕ → Bool
is_past None n = false
is_past (Some from) n = nat_le from n

-- whether the next write or sync fails
abbrev pub fails_next : Observed → Bool
fails_next t = is_past t.fails_from (suc (length t.made))

-- Which of these writes and syncs were made, in this order: each of them, if none failed; or those up to the first that
-- failed, after which Failed is returned; or those before memory ran out. A disk whose calls can be seen fails in no other
-- call.
abbrev pub Makes : List DiskCall → Option Stop → Option Observed → Option Observed → Type 0
Makes [] stop old new = (new ≡ old) × IfSome old (λ t. stop ≡ Some Failed → ⊥)
Makes (call ∷ calls) stop old new =
    ((stop ≡ Some OutOfMemory) × (new ≡ old))
    ⊎ ((stop ≡ Some Failed) × (new ≡ and_made call old) × IfSome old (λ t. fails_next t ≡ true))
    ⊎ (IfSome old (λ t. fails_next t ≡ false) × Makes calls stop (and_made call old) new)

-- A fault is counted if and only if a call returns Failed.
abbrev pub faults_after : Option Stop → ℕ → ℕ
faults_after None faults = faults
faults_after (Some Failed) faults = risen faults
faults_after (Some OutOfMemory) faults = faults

-- Only OutOfMemory may raise the count of the disk's own failed allocations, by one. It stays if the memory was refused
-- to what is built on the disk.
abbrev pub MayCountRefusal : Option Stop → ℕ → ℕ → Type 0
MayCountRefusal None old new = new ≡ old
MayCountRefusal (Some Failed) old new = new ≡ old
MayCountRefusal (Some OutOfMemory) old new = (new ≡ old) ⊎ (new ≡ risen old)

-- What holds of every sequence of calls on a disk, from its state before them to that after them, whether they were all made
-- or stopped: of one call, and of all that is built of them.
pub record Called (calls : List DiskCall) (P : List ℕ → Type 0) (stop : Option Stop) (old new : DiskState) : Type 0 where
  -- whether the disk's contents can be seen stays the same
  pub visible : is_some new.content.seen ≡ is_some old.content.seen
  -- a crash at any point of the calls leaves a file that has P
  pub any_time : LeavesOnly old.content new.content P
  -- these writes and syncs were made, up to the stop
  pub made : Makes calls stop old.observed new.observed
  -- the counts of faults and of failed allocations after the stop
  pub faults : new.faults ≡ faults_after stop old.faults
  pub refusals : MayCountRefusal stop old.refusals new.refusals

-- A call that wasn't made, since the disk had no memory for it.
pub record Unmade (old new : DiskState) : Type 0 where
  pub seen : new.content.seen ≡ old.content.seen
  pub any_time : LeavesOnly old.content new.content (images old.content)
  pub known : new.known ≡ old.known
  pub observed : new.observed ≡ old.observed
  pub refusals : new.refusals ≡ risen old.refusals
