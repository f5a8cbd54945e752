-- Which calls opening makes on each disk, by what they hold; and which files it leaves.
use Rattle.std.proofs.Common.{◌≡◌, ℕ, ◌+◌, Bool, true, false, nat_lt, List, [], ◌∷◌, ◌++◌, length, Option, Some, None, is_some, Result, Ok, Err, refl, sym, ap, ◌∙◌, subst}
use Rattle.std.specs.Prelude.{◌==◌, if◌then◌else◌}
use Rattle.mon_types.specs.declared.names.Side.{Side}
use Rattle.mon_types.specs.declared.names.Side.TheVariants.{A, B}
use Rattle.mon_disk.specs.declared.disk.DiskCall.{DiskCall}
use Rattle.mon_disk.specs.declared.disk.DiskCall.TheVariants.{Sync}
use Rattle.mon_journal.specs.declared.stop.JournalStop.{JournalStop}
use Rattle.mon_journal.specs.declared.stop.JournalStop.TheVariants as stops
use Rattle.mon_journal.specs.Content.{Held}
use Rattle.mon_journal.specs.Content as journal
use Rattle.mon_journal.specs.Fields.{Owner}
use Rattle.mon_journal.specs.Steps.{open_calls}
use Rattle.mon_store.specs.OpeningCalls.{calls_on, unless_refused, both_calls, creation, opening_calls}
use Rattle.mon_store.specs.Pair.{◌>>=◌, Refusal, Found, Create, Live, held_on, new_store, newer, chosen, found}
use Rattle.mon_store.specs.Pair as pair
use Rattle.mon_tx.specs.Map.{Store}
use Rattle.quorum_model.specs.Files.{Files, is_created}
use Rattle.quorum_model.specs.InjectedFaults.{opening_count}
use Rattle.mon_site.specs.Disks.{file_of, file_in}
use Rattle.mon_site.proofs.Guarded.{guarded}
use Rattle.mon_site.proofs.Gates.{create_writes}
use Rattle.mon_site.proofs.Openings.{on}

abbrev pub Content : Type 0
Content = Option (Result Held JournalStop)

-- an open store's first closed gate is written as zero
abbrev pub open_writes : Content → List (ℕ × List ℕ)
open_writes None = []
open_writes (Some (Ok held)) = (held.next_gate, 0 ∷ []) ∷ []
open_writes (Some (Err e)) = []

-- and a new store is created on disk A
abbrev pub writes_a : Owner → Content → Content → List (ℕ × List ℕ)
writes_a owner None None = create_writes owner 1 None
writes_a owner None (Some y) = []
writes_a owner (Some x) y = open_writes (Some x)

abbrev found_with : Content → Content → (a b : ℕ) → Result Found Refusal
found_with x y a b = held_on A x >>= λ hx. held_on B y >>= λ hy. chosen hx hy a b

abbrev calls_with : Owner → Content → Content → Result Found Refusal → List (Side × DiskCall)
calls_with owner x y place = (calls_on A (open_calls x) ++ unless_refused (held_on A x) (calls_on B (open_calls y))) ++ creation owner place

abbrev pub files_with : Content → Content → Files
files_with x y = record { a = file_of x; b = file_of y }

no_refusal : (side : Side) (e : JournalStop) (place : Found) (next : Option Held → Result Found Refusal) → (held_on side (Some (Err e)) >>= next) ≡ Ok place → ⊥
no_refusal side (stops.NotAStore at) place next h = cc
no_refusal side stops.DiskFault place next h = cc
no_refusal side stops.OutOfMemory place next h = cc

new_is : (a b : ℕ) (place : Found) → new_store a b ≡ Ok place → new_store a b ≡ Ok Create
new_is a b place e = by (nat_lt 26 a) (nat_lt 0 b) e
  where
    by : (p q : Bool) → (if p then Err (pair.NotAStore A 0) else (if q then Err (pair.NotAStore B 0) else Ok Create)) ≡ Ok place
        → (if p then Err (pair.NotAStore A 0) else (if q then Err (pair.NotAStore B 0) else Ok Create)) ≡ Ok Create
    by true q e = absurd cc
    by false true e = absurd cc
    by false false e = refl

-- a store was there
pub record IsThere (place : Result Found Refusal) : Type 0 where
  pub side : Side
  pub held : Held
  pub is : place ≡ Ok (Live side held)

newer_is : (x y : Held) (place : Found) → newer x y ≡ Ok place → IsThere (newer x y)
newer_is x y place e = by (x.header.generation == y.header.generation) (nat_lt y.header.generation x.header.generation) e
  where
    by : (p q : Bool) → (if p then Err (pair.NotAStore B 0) else (if q then Ok (Live A x) else Ok (Live B y))) ≡ Ok place
        → IsThere (if p then Err (pair.NotAStore B 0) else (if q then Ok (Live A x) else Ok (Live B y)))
    by true q e = absurd cc
    by false true e = record { side = A; held = x; is = refl }
    by false false e = record { side = B; held = y; is = refl }

-- Opening creates a new store if both disks are closed, and otherwise finds one.
pub data Finds (x y : Content) (place : Result Found Refusal) : Type 0 where
  IsNew : (x ≡ None) → (y ≡ None) → (place ≡ Ok Create) → Finds x y place
  WasThere : (is_created (files_with x y) ≡ true) → IsThere place → Finds x y place

module _ (owner : Owner) (a b : ℕ) where
  finds_with : (x y : Content) (place : Found) → found_with x y a b ≡ Ok place → Finds x y (found_with x y a b)
  finds_with None None place e = IsNew refl refl (new_is a b place e)
  finds_with None (Some (Ok y)) place e = WasThere refl (record { side = B; held = y; is = refl })
  finds_with None (Some (Err y)) place e = absurd (no_refusal B y place (λ hy. chosen None hy a b) e)
  finds_with (Some (Ok x)) None place e = WasThere refl (record { side = A; held = x; is = refl })
  finds_with (Some (Ok x)) (Some (Ok y)) place e = WasThere refl (newer_is x y place e)
  finds_with (Some (Ok x)) (Some (Err y)) place e = absurd (no_refusal B y place (λ hy. chosen (Some x) hy a b) e)
  finds_with (Some (Err x)) y place e = absurd (no_refusal A x place (λ hx. held_on B y >>= λ hy. chosen hx hy a b) e)

  -- the calls of disk A
  a_with : (x y : Content) (place : Found) → found_with x y a b ≡ Ok place → on A (calls_with owner x y (found_with x y a b)) ≡ Sync ∷ guarded (writes_a owner x y)
  a_with None None place e = ap (λ (r : Result Found Refusal). on A (calls_with owner None None r)) (new_is a b place e)
  a_with None (Some (Ok y)) place e = refl
  a_with None (Some (Err y)) place e = absurd (no_refusal B y place (λ hy. chosen None hy a b) e)
  a_with (Some (Ok x)) None place e = refl
  a_with (Some (Ok x)) (Some (Ok y)) place e = let n = newer_is x y place e in ap (λ (r : Result Found Refusal). on A (calls_with owner (Some (Ok x)) (Some (Ok y)) r)) n.is
  a_with (Some (Ok x)) (Some (Err y)) place e = absurd (no_refusal B y place (λ hy. chosen (Some x) hy a b) e)
  a_with (Some (Err x)) y place e = absurd (no_refusal A x place (λ hx. held_on B y >>= λ hy. chosen hx hy a b) e)

  -- and of disk B
  b_with : (x y : Content) (place : Found) → found_with x y a b ≡ Ok place → on B (calls_with owner x y (found_with x y a b)) ≡ Sync ∷ guarded (open_writes y)
  b_with None None place e = ap (λ (r : Result Found Refusal). on B (calls_with owner None None r)) (new_is a b place e)
  b_with None (Some (Ok y)) place e = refl
  b_with None (Some (Err y)) place e = absurd (no_refusal B y place (λ hy. chosen None hy a b) e)
  b_with (Some (Ok x)) None place e = refl
  b_with (Some (Ok x)) (Some (Ok y)) place e = let n = newer_is x y place e in ap (λ (r : Result Found Refusal). on B (calls_with owner (Some (Ok x)) (Some (Ok y)) r)) n.is
  b_with (Some (Ok x)) (Some (Err y)) place e = absurd (no_refusal B y place (λ hy. chosen (Some x) hy a b) e)
  b_with (Some (Err x)) y place e = absurd (no_refusal A x place (λ hx. held_on B y >>= λ hy. chosen hx hy a b) e)

  -- the number of these calls
  count_a : (x y : Content) (place : Found) → found_with x y a b ≡ Ok place → opening_count A (files_with x y) ≡ 1 + length (guarded (writes_a owner x y))
  count_a None None place e = refl
  count_a None (Some (Ok y)) place e = refl
  count_a None (Some (Err y)) place e = absurd (no_refusal B y place (λ hy. chosen None hy a b) e)
  count_a (Some (Ok x)) y place e = refl
  count_a (Some (Err x)) y place e = absurd (no_refusal A x place (λ hx. held_on B y >>= λ hy. chosen hx hy a b) e)

  count_b : (x y : Content) (place : Found) → found_with x y a b ≡ Ok place → opening_count B (files_with x y) ≡ 1 + length (guarded (open_writes y))
  count_b None None place e = refl
  count_b None (Some (Ok y)) place e = refl
  count_b None (Some (Err y)) place e = absurd (no_refusal B y place (λ hy. chosen None hy a b) e)
  count_b (Some (Ok x)) None place e = refl
  count_b (Some (Ok x)) (Some (Ok y)) place e = refl
  count_b (Some (Ok x)) (Some (Err y)) place e = absurd (no_refusal B y place (λ hy. chosen (Some x) hy a b) e)
  count_b (Some (Err x)) y place e = absurd (no_refusal A x place (λ hx. held_on B y >>= λ hy. chosen hx hy a b) e)

  -- which of the two have a file
  there_a : (x y : Content) (place : Found) → found_with x y a b ≡ Ok place → is_some (file_of x) ≡ is_some x
  there_a None y place e = refl
  there_a (Some (Ok x)) y place e = refl
  there_a (Some (Err x)) y place e = absurd (no_refusal A x place (λ hx. held_on B y >>= λ hy. chosen hx hy a b) e)

  there_b : (x y : Content) (place : Found) → found_with x y a b ≡ Ok place → is_some (file_of y) ≡ is_some y
  there_b x None place e = refl
  there_b x (Some (Ok y)) place e = refl
  there_b None (Some (Err y)) place e = absurd (no_refusal B y place (λ hy. chosen None hy a b) e)
  there_b (Some (Ok x)) (Some (Err y)) place e = absurd (no_refusal B y place (λ hy. chosen (Some x) hy a b) e)
  there_b (Some (Err x)) (Some (Err y)) place e = absurd (no_refusal A x place (λ hx. held_on B (Some (Err y)) >>= λ hy. chosen hx hy a b) e)

-- ---- of two files

module _ (owner : Owner) (a b : List ℕ) (place : Found) (e : found a b ≡ Ok place) where
  abbrev x : Content
  x = journal.content a

  abbrev y : Content
  y = journal.content b

  is_found : found a b ≡ found_with x y (length a) (length b)
  unfolding found
  is_found = refl

  so : found_with x y (length a) (length b) ≡ Ok place
  so = sym is_found ∙ e

  calls_are : opening_calls owner a b ≡ calls_with owner x y (found_with x y (length a) (length b))
  unfolding opening_calls
  calls_are = ap (λ (r : Result Found Refusal). both_calls a b ++ creation owner r) is_found

  pub finds : Finds x y (found a b)
  finds = subst (Finds x y) (sym is_found) (finds_with owner (length a) (length b) x y place so)

  pub on_disk_a : on A (opening_calls owner a b) ≡ Sync ∷ guarded (writes_a owner x y)
  on_disk_a = ap (on A) calls_are ∙ a_with owner (length a) (length b) x y place so

  pub on_disk_b : on B (opening_calls owner a b) ≡ Sync ∷ guarded (open_writes y)
  on_disk_b = ap (on B) calls_are ∙ b_with owner (length a) (length b) x y place so

  pub counts_a : opening_count A (files_with x y) ≡ 1 + length (guarded (writes_a owner x y))
  counts_a = count_a owner (length a) (length b) x y place so

  pub counts_b : opening_count B (files_with x y) ≡ 1 + length (guarded (open_writes y))
  counts_b = count_b owner (length a) (length b) x y place so

  pub has_a : is_some (file_in a) ≡ is_some x
  has_a = there_a owner (length a) (length b) x y place so

  pub has_b : is_some (file_in b) ≡ is_some y
  has_b = there_b owner (length a) (length b) x y place so

-- what is found if a member opens
pub found_by : (owner : Owner) (a b : List ℕ) (it : Found × Store) → pair.opened owner a b ≡ Ok it → (place : Found) × (found a b ≡ Ok place)
unfolding pair.opened
found_by owner a b it e = by (found a b) e
  where
    by : (r : Result Found Refusal) → (r >>= λ place. pair.taken owner place) ≡ Ok it → (place : Found) × (r ≡ Ok place)
    by (Ok place) e = (place, refl)
    by (Err f) e = absurd cc
