-- The calls on a disk, for each result of a store's call.
use Rattle.std.proofs.Common.{◌≡◌, Bool, true, false, ◌||◌, List, [], ℕ, None, Err, refl}
use Rattle.mon_disk.specs.declared.disk.DiskCall.{DiskCall}
use Rattle.mon_disk.specs.Images.{images}
use Rattle.mon_disk.specs.Calls.{DiskState, Called}
use Rattle.mon_disk.proofs.Following.{none, widened, stopped_at, without_memory}
use Rattle.mon_journal.specs.declared.stop.JournalStop.{JournalStop}
use Rattle.mon_journal.specs.declared.stop.JournalStop.TheVariants as journal
use Rattle.mon_journal.specs.Steps.{Any, stop_in as of_journal, IsOutside as IsDisks}
use Rattle.mon_store.specs.declared.stop.StoreStop.{StoreStop}
use Rattle.mon_store.specs.declared.stop.StoreStop.TheVariants.{Broken, TooLong, Full, DiskFault, OutOfMemory}
use Rattle.mon_store.specs.Calls.{stop_of, stop_in, unless_early}
use Rattle.mon_store.specs.Refusals.{IsEarly, IsOutside, Restarts, breaks}

-- no call
pub nothing : (d : DiskState) → Called [] Any None d d
nothing d = none d Any (λ c left. tt)

-- a refusal before the first call
pub none_made : (T : Type 0) (e : StoreStop) (calls : List DiskCall) (P : List ℕ → Type 0) (d : DiskState) → IsEarly e → ((c : List ℕ) → images d.content c → P c)
    → Called (unless_early {T = T} (Err e) calls) P (stop_in {T = T} (Err e)) d d
none_made T Broken calls P d early here = absurd early
none_made T (TooLong len) calls P d early here = none d P here
none_made T (Full would_be) calls P d early here = none d P here
none_made T DiskFault calls P d early here = absurd early
none_made T OutOfMemory calls P d early here = stopped_at calls P P (without_memory P (none d P here)) (λ c h. h)

-- a stop of the journal's
pub journal_stopped : (T U : Type 0) (e : JournalStop) (calls : List DiskCall) (P R : List ℕ → Type 0) (old new : DiskState) → IsDisks e → Called calls P (of_journal {T = U} (Err e)) old new → ((c : List ℕ) → P c → R c)
    → Called (unless_early {T = T} (Err (stop_of e)) calls) R (stop_in {T = T} (Err (stop_of e))) old new
journal_stopped T U journal.DiskFault calls P R old new outside c p = widened P R c p
journal_stopped T U (journal.NotAStore at) calls P R old new outside c p = absurd outside
journal_stopped T U journal.OutOfMemory calls P R old new outside c p = widened P R c p

pub stop_goes_on : (T : Type 0) (e : JournalStop) → IsDisks e → stop_in {T = T} (Err (stop_of e)) ≡ of_journal {T = T} (Err e)
stop_goes_on T journal.DiskFault outside = refl
stop_goes_on T (journal.NotAStore at) outside = absurd outside
stop_goes_on T journal.OutOfMemory outside = refl

-- the same stop of a call of another result
pub same_stop : (T U : Type 0) (e : StoreStop) (calls : List DiskCall) (P R : List ℕ → Type 0) (old new : DiskState) → IsOutside e → Called calls P (stop_in {T = U} (Err e)) old new → ((c : List ℕ) → P c → R c)
    → Called (unless_early {T = T} (Err e) calls) R (stop_in {T = T} (Err e)) old new
same_stop T U Broken calls P R old new outside c p = absurd outside
same_stop T U (TooLong len) calls P R old new outside c p = absurd outside
same_stop T U (Full would_be) calls P R old new outside c p = absurd outside
same_stop T U DiskFault calls P R old new outside c p = widened P R c p
same_stop T U OutOfMemory calls P R old new outside c p = widened P R c p

-- what a checkpoint's failure returns
pub refuses : (broken due : Bool) (e : StoreStop) → IsOutside e → broken ≡ false → due ≡ true → Restarts broken due (Err e)
refuses broken due Broken outside whole is = absurd outside
refuses broken due (TooLong len) outside whole is = absurd outside
refuses broken due (Full would_be) outside whole is = absurd outside
refuses broken due DiskFault outside whole is = (whole, is)
refuses broken due OutOfMemory outside whole is = (whole, is)

pub breaks_all : (broken : Bool) (e : StoreStop) → IsOutside e → true ≡ (broken || breaks {T = Bool} (Err e))
breaks_all true e outside = refl
breaks_all false Broken outside = absurd outside
breaks_all false (TooLong len) outside = absurd outside
breaks_all false (Full would_be) outside = absurd outside
breaks_all false DiskFault outside = refl
breaks_all false OutOfMemory outside = refl
