-- Folding the payloads of a file, one after the other.
use Rattle.std.proofs.Common.{◌≡◌, ℕ, ◌+◌, List, [], length, Option, Some, None, Result, Ok, Err, refl, sym, ap, ◌∙◌}
use Rattle.std.specs.Prelude.{IfSome}
use Rattle.std.specs.FinMap.{empty}
use Rattle.mon_bytes.specs.Reading.{Reading}
use Rattle.mon_tx.specs.Map.{Store}
use Rattle.mon_journal.specs.declared.stop.JournalStop.{JournalStop}
use Rattle.mon_journal.specs.declared.stop.JournalStop.TheVariants.{DiskFault, NotAStore, OutOfMemory}
use Rattle.mon_journal.specs.Content.{payloads_of, Fails, IsUnread, IsNext}
use Rattle.mon_journal.specs.Pieces.{left_at}
use Rattle.mon_journal.specs.Steps.{IsOutside}
use Rattle.mon_journal.proofs.Walks.{Next}
use Rattle.mon_store.specs.Payloads.{after, begun, at_fault, folded, map_of}

-- the payloads that are left take a map to the whole
abbrev pub IsFolded : Reading → ℕ → Store → Result Store JournalStop → Type 0
IsFolded c at m total = (left : List (List ℕ)) × IsUnread left c × (folded left at m ≡ total)

-- a fault of a part is one of the whole
fails_on : {X Y : Type 0} (e : JournalStop) (part : Result X JournalStop) (whole : Result Y JournalStop) → Fails e part → (part ≡ Err e → whole ≡ Err e) → Fails e whole
fails_on OutOfMemory part whole h step = tt
fails_on DiskFault part whole h step = tt
fails_on (NotAStore at) part whole h step = step h

-- no payload makes the empty map
pub map_nothing : map_of [] ≡ Ok empty
unfolding map_of
map_nothing = refl

module _ (payloads : List (List ℕ)) (first : List ℕ) (c : Reading) (next : IsNext (Some first) payloads c) where
  pub begins : (m : Store) (at : ℕ) → at_fault 30 (begun first) ≡ Ok m → 35 + length first ≡ at → IsFolded c at m (map_of payloads)
  unfolding map_of
  begins m at h g = (next.0, next.2, rw (next.1, h, g) refl)

  pub fails_first : (e : JournalStop) → Fails e (at_fault 30 (begun first)) → Fails e (map_of payloads)
  unfolding map_of
  fails_first e h = fails_on e (at_fault 30 (begun first)) (map_of payloads) h (λ one. rw (next.1, one) refl)

module _ (c after_c : Reading) (at : ℕ) (m : Store) (payload : List ℕ) (total : Result Store JournalStop) (so_far : IsFolded c at m total) (next : IsNext (Some payload) so_far.0 after_c) where
  pub goes_on : (n : Store) (behind : ℕ) → at_fault at (after payload m) ≡ Ok n → at + 5 + length payload ≡ behind → IsFolded after_c behind n total
  unfolding folded
  goes_on n behind h g =
      let one : folded so_far.0 at m ≡ folded next.0 behind n = ap (λ ps. folded ps at m) next.1 ∙ rw (h, g) refl in
      (next.0, next.2, sym one ∙ so_far.2)

  pub fails_next : (e : JournalStop) → Fails e (at_fault at (after payload m)) → Fails e total
  unfolding folded
  fails_next e h = fails_on e (at_fault at (after payload m)) total h (λ stop. sym so_far.2 ∙ ap (λ ps. folded ps at m) next.1 ∙ rw stop refl)

pub ends : (left : List (List ℕ)) (at : ℕ) (m : Store) (total : Result Store JournalStop) → left ≡ [] → folded left at m ≡ total → total ≡ Ok m
unfolding folded
ends left at m total none so_far = sym so_far ∙ ap (λ ps. folded ps at m) none

-- ---- the same, if the file may be seen

-- the payloads of a file that are left after a gate take a map to the whole
abbrev pub IsFoldedOn : Option (List ℕ) → ℕ → ℕ → Store → Type 0
IsFoldedOn seen gate at m = IfSome seen (λ file. IsFolded (left_at gate file) at m (map_of (payloads_of file)))

abbrev pub AllLeft : Option (List ℕ) → ℕ → Type 0
AllLeft seen gate = IfSome seen (λ file. IsUnread (payloads_of file) (left_at gate file))

module _ {V : Type 0} (view : V → List ℕ) (gate behind : ℕ) where
  pub read_fails : (e : JournalStop) (seen : Option (List ℕ)) → AllLeft seen gate → Next view seen gate behind (Err e) → IfSome seen (λ file. Fails e (map_of (payloads_of file)))
  read_fails e None left next = tt
  read_fails DiskFault (Some file) left next = tt
  read_fails OutOfMemory (Some file) left next = tt
  read_fails (NotAStore at) (Some file) left next = absurd (next (payloads_of file) left)

  pub reads_on_fails : (e : JournalStop) (seen : Option (List ℕ)) (at : ℕ) (m : Store) → IsFoldedOn seen gate at m → Next view seen gate behind (Err e) → IfSome seen (λ file. Fails e (map_of (payloads_of file)))
  reads_on_fails e None at m so_far next = tt
  reads_on_fails DiskFault (Some file) at m so_far next = tt
  reads_on_fails OutOfMemory (Some file) at m so_far next = tt
  reads_on_fails (NotAStore place) (Some file) at m so_far next = absurd (next so_far.0 so_far.1)

  pub none_at_all : (seen : Option (List ℕ)) (m : Store) → m ≡ empty → AllLeft seen gate → Next view seen gate behind (Ok None) → IfSome seen (λ file. map_of (payloads_of file) ≡ Ok m)
  none_at_all None m is left next = tt
  none_at_all (Some file) m is left next = ap map_of (next (payloads_of file) left) ∙ map_nothing ∙ ap (λ n. Ok n) (sym is)

  pub begins_on : (seen : Option (List ℕ)) (v : V) (m : Store) (at : ℕ) → AllLeft seen gate → Next view seen gate behind (Ok (Some v)) → at_fault 30 (begun (view v)) ≡ Ok m → 35 + length (view v) ≡ at → IsFoldedOn seen behind at m
  begins_on None v m at left next h g = tt
  begins_on (Some file) v m at left next h g = begins (payloads_of file) (view v) (left_at behind file) (next (payloads_of file) left) m at h g

  pub first_fails : (seen : Option (List ℕ)) (v : V) (e : JournalStop) → AllLeft seen gate → Next view seen gate behind (Ok (Some v)) → Fails e (at_fault 30 (begun (view v))) → IfSome seen (λ file. Fails e (map_of (payloads_of file)))
  first_fails None v e left next h = tt
  first_fails (Some file) v e left next h = fails_first (payloads_of file) (view v) (left_at behind file) (next (payloads_of file) left) e h

  pub goes_on_there : (seen : Option (List ℕ)) (at : ℕ) (m : Store) (v : V) (n : Store) (place : ℕ) → IsFoldedOn seen gate at m → Next view seen gate behind (Ok (Some v)) → at_fault at (after (view v) m) ≡ Ok n → at + 5 + length (view v) ≡ place
      → IsFoldedOn seen behind place n
  goes_on_there None at m v n place so_far next h g = tt
  goes_on_there (Some file) at m v n place so_far next h g = goes_on (left_at gate file) (left_at behind file) at m (view v) (map_of (payloads_of file)) so_far (next so_far.0 so_far.1) n place h g

  pub next_fails : (seen : Option (List ℕ)) (at : ℕ) (m : Store) (v : V) (e : JournalStop) → IsFoldedOn seen gate at m → Next view seen gate behind (Ok (Some v)) → Fails e (at_fault at (after (view v) m)) → IfSome seen (λ file. Fails e (map_of (payloads_of file)))
  next_fails None at m v e so_far next h = tt
  next_fails (Some file) at m v e so_far next h = fails_next (left_at gate file) (left_at behind file) at m (view v) (map_of (payloads_of file)) so_far (next so_far.0 so_far.1) e h

  pub ends_there : (seen : Option (List ℕ)) (at : ℕ) (m : Store) → IsFoldedOn seen gate at m → Next view seen gate behind (Ok None) → IfSome seen (λ file. map_of (payloads_of file) ≡ Ok m)
  ends_there None at m so_far next = tt
  ends_there (Some file) at m so_far next = ends so_far.0 at m (map_of (payloads_of file)) (next so_far.0 so_far.1) so_far.2

-- what can't be seen doesn't matter
pub any_fails : (e : JournalStop) (seen : Option (List ℕ)) → IfSome seen (λ file. IsOutside e) → IfSome seen (λ file. Fails e (map_of (payloads_of file)))
any_fails e None outside = tt
any_fails DiskFault (Some file) outside = tt
any_fails OutOfMemory (Some file) outside = tt
any_fails (NotAStore at) (Some file) outside = absurd outside

pub no_memory_fails : (seen : Option (List ℕ)) → IfSome seen (λ file. Fails OutOfMemory (map_of (payloads_of file)))
no_memory_fails None = tt
no_memory_fails (Some file) = tt
