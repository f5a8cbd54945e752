-- A full synchronization under way: what the monitor's store holds at each stage.
use Rattle.law_names.proofs.Table.{Area, Cell, Course, IsShort, Key, KeyPlace, Op, Place as ChunkPlace, Readings, State, Store, SyncStage, Which, apply, at_rest, cell, empty, encoded, epoch_or_first, floor_of, found_as, joined, marks, number_if_there, number_in, pending_of, pending_version, readings_of, record_at, same_key_place, same_place}
use Rattle.log_copies.proofs.Chunks.{IsOpen}
use Rattle.log_copies.specs.Copies.{IsFuzzyCopy, shared_with_records}
use Rattle.log_copies.specs.Synchronizing.{IsShaped, IsSynchronized, SameNumbers, written}
use Rattle.log_model.proofs.Spares.{is_number}
use Rattle.mon_bytes.proofs.Fields.{ok_is}
use Rattle.mon_bytes.specs.declared.entry.KeyPlace.TheVariants as key_place
use Rattle.mon_msg.proofs.Joining.{apply-joined}
use Rattle.mon_msg.specs.declared.synchronization.SyncStage.TheVariants as sync
use Rattle.mon_tx.proofs.Places.{is_equal, number_in-low}
use Rattle.mon_tx.specs.declared.key.Area.TheVariants as area
use Rattle.mon_tx.specs.declared.key.Key.TheVariants as key
use Rattle.mon_wire.specs.declared.phase.Phase.TheVariants as phase
use Rattle.std.proofs.Common.{IfSome, List, None, Ok, Option, Result, Some, [], ap, arith, eqb, inl, length, option_map, refl, subst, suc, sym, true, ℕ, ◌^◌, ◌∙◌, ◌≡◌, ◌≤◌, ◌⊎◌}
use Rattle.std.proofs.lemmas.Bool.{and_parts, cond_both, eqb-true}
use Rattle.std.proofs.lemmas.Map.Lookups.{exact_bytes}
use Rattle.std.proofs.lemmas.Map.Text.{is_eq-slice_cmp}
use Rattle.std.specs.Str.{bytes_eq}

-- ---- numbers that are read are short

pub there_short : (c : Cell) → IfSome (number_if_there c) IsShort
there_short None = tt
there_short (Some bytes) = number_in-low (Some bytes)

pending_low : (v pn last : ℕ) (records : ℕ → Cell) → pending_version (pending_of v pn last records) ≤ v
unfolding pending_of
pending_low v pn last records = cond_both (eqb v (suc last)) _ None (λ f. pending_version f ≤ v) (λ e. by (record_at records (suc last))) (λ e. omega arith)
  where
    some : (o : Option (List Op)) → pending_version (option_map (λ short. record { version = v; pn = pn; value = short }) o) ≤ v
    some None = omega arith
    some (Some x) = omega arith

    by : (o : Option (List Op)) → pending_version (found_as v pn o) ≤ v
    by None = omega arith
    by (Some x) = some _

pub floor_short : (m : Store) → floor_of (readings_of m) ≤ 2 ^ 62
unfolding readings_of
floor_short m =
    let a = number_in-low (cell m area.Sync key.Floor) in
    let b = number_in-low (cell m area.Paxos key.LastCommitted) in
    let c = number_in-low (cell m area.Paxos key.PendingV) in
    let p = pending_low (number_in (cell m area.Paxos key.PendingV)) (number_in (cell m area.Paxos key.PendingPn)) (number_in (cell m area.Paxos key.LastCommitted)) (λ v. cell m area.Paxos (key.Version v)) in
    omega (arith, a, b, c, p)

-- ---- places that are the same

bytes_same : (a b : List ℕ) → bytes_eq a b ≡ true → a ≡ b
bytes_same a b e = exact_bytes a b (is_equal _ (is_eq-slice_cmp a b ∙ e))

key_same : (a b : KeyPlace) → same_key_place a b ≡ true → a ≡ b
key_same key_place.Start key_place.Start e = refl
key_same (key_place.After p k) (key_place.After q l) e =
    let parts = and_parts (bytes_eq p q) (bytes_eq k l) e in
    λ i. key_place.After (bytes_same p q parts.0 i) (bytes_same k l parts.1 i)
key_same key_place.Done key_place.Done e = refl
key_same a b e = absurd cc

pub place_same : (a b : ChunkPlace) → same_place a b ≡ true → a ≡ b
place_same a b e =
    let parts = and_parts (eqb a.version b.version) (same_key_place a.key b.key) e in
    λ i. record { version = eqb-true a.version b.version parts.0 i; key = key_same a.key b.key parts.1 i }

-- ---- under way

-- two stores have the same numbers of a monitor's own
abbrev pub SameCells : Store → Store → Type 0
SameCells m n = (a : Area) (k : Key) → is_number a k ≡ true → cell n a k ≡ cell m a k

-- `before` is what the store's readers returned at first, and `floor` is the version that the copy must reach
module _ (log : List (List ℕ)) (before : Readings) (floor : ℕ) where
  -- what the readers of a marked store return
  pub record Noted (m : Store) : Type 0 where
    pub numbers : SameNumbers before (readings_of m)
    pub kept_floor : floor ≤ (readings_of m).floor
    pub marked : (readings_of m).marked ≡ true

  pub still_noted : (m n : Store) → SameCells m n → Noted m → Noted n
  unfolding readings_of
  still_noted m n same N =
      let numbers = N.numbers in
      record {
        numbers = record {
          last_pn = ap number_if_there (same area.Paxos key.LastPn refl) ∙ numbers.last_pn;
          promise = ap number_if_there (same area.Paxos key.AcceptedPn refl) ∙ numbers.promise;
          epoch = ap (λ (c : Cell). epoch_or_first (number_if_there c)) (same area.Monitor key.ElectionEpoch refl) ∙ numbers.epoch;
        };
        kept_floor = (let k = N.kept_floor in omega (arith, ap number_in (same area.Sync key.Floor refl)));
        marked = ap marks (same area.Sync key.InSync refl) ∙ N.marked;
      }

  pub record Chunking (m : Store) (start : ℕ) (p : ChunkPlace) : Type 0 where
    pub above : floor ≤ start
    pub order : start ≤ p.version
    pub within : p.version ≤ length log
    pub goes_on : IsOpen p.key
    pub copy : IsFuzzyCopy log start p.version p.key m

  pub record Replaying (m : Store) (next end : ℕ) : Type 0 where
    pub done : ℕ
    pub is : next ≡ suc done
    pub above : floor ≤ done
    pub order : done ≤ end
    pub within : end ≤ length log
    pub copy : IsFuzzyCopy log done end key_place.Done m

  abbrev pub InStage : Store → SyncStage → ℕ → ChunkPlace → Type 0
  InStage m sync.Cookie start p = shared_with_records m ≡ empty
  InStage m sync.Chunks start p = Chunking m start p
  InStage m (sync.Replay next end) start p = Replaying m next end

  -- the monitor takes a copy
  pub record UnderWay (m : Store) (s : State) : Type 0 where
    pub in_phase : s.phase ≡ phase.Synchronizing
    pub full : s.requester.full ≡ true
    pub noted : Noted m
    pub stage : InStage m s.requester.stage s.requester.start s.requester.place

  -- the monitor looks for another one, or isn't started yet
  pub record Waits (m : Store) (s : State) : Type 0 where
    pub in_phase : (s.phase ≡ phase.Probing) ⊎ (s.phase ≡ phase.Booting)
    pub noted : Noted m
    pub shaped : IsShaped m

  abbrev pub Marked : Store → State → Type 0
  Marked m s = UnderWay m s ⊎ Waits m s

  -- the synchronization is under way or waits, or it is finished
  abbrev pub Stands : Store → State → Type 0
  Stands m s = Marked m s ⊎ IsSynchronized log before floor m

  -- nothing is written
  pub unwritten : (m : Store) (s : State) → Marked m s → Stands (apply (joined (encoded [])) m) s
  unwritten m s I = subst (λ (n : Store). Stands n s) (sym (apply-joined [] m)) (inl I)

  pub stays : (m : Store) (s : State) (x : Course) → ◌≡◌ {A = Result Course Which} (Ok (at_rest (readings_of m) s)) (Ok x) → Marked m s → Stands (written m x) x.state
  stays m s x e I = subst (λ (y : Course). Stands (written m y) y.state) (ok_is (at_rest (readings_of m) s) x e) (unwritten m s I)
