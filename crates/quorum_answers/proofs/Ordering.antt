-- Operations of one epoch are in the order of their events, as replies and acknowledgements come.
use Rattle.law_names.proofs.Runs.{Acknowledged, Replied, World}
use Rattle.law_names.proofs.Table.{AllByRecursion}
use Rattle.quorum_answers.specs.Reads.{NoOlder, Shows}
use Rattle.quorum_answers.specs.Refused.{CoversAll}
use Rattle.quorum_walk.proofs.Lists.{Among, all_among, all_append, all_both, all_map}
use Rattle.std.proofs.Common.{List, [], arith, inl, inr, refl, subst, suc, sym, ℕ, ◌++◌, ◌<◌, ◌∷◌, ◌≡◌, ◌≤◌}

-- ---- pairs of items

abbrev pub AllPairs : {A B : Type 0} → (A → B → Type 0) → List A → List B → Type 0
AllPairs P xs ys = AllByRecursion (λ x. AllByRecursion (P x) ys) xs

pub pairs_grow : {A B : Type 0} (P : A → B → Type 0) (xs more : List A) (ys rest : List B) → AllPairs P xs ys → AllPairs P xs rest → AllPairs P more (ys ++ rest) → AllPairs P (xs ++ more) (ys ++ rest)
pairs_grow P xs more ys rest old new last =
    all_append (λ x. AllByRecursion (P x) (ys ++ rest)) xs more (all_map _ _ (λ x k. all_append (P x) ys rest k.0 k.1) xs (all_both (λ x. AllByRecursion (P x) ys) (λ x. AllByRecursion (P x) rest) xs old new)) last

pub pairs_of : {A B : Type 0} (P : A → B → Type 0) (Q : A → Type 0) (R : B → Type 0) → ((x : A) → Q x → (y : B) → R y → P x y) → (xs : List A) (ys : List B) → AllByRecursion Q xs → AllByRecursion R ys → AllPairs P xs ys
pairs_of P Q R f xs ys q r = all_map Q _ (λ x k. all_map R (P x) (f x k) ys r) xs q

pub all_there : {A : Type 0} (xs : List A) → AllByRecursion (λ x. Among x xs) xs
all_there [] = tt
all_there (x ∷ xs) = (inl refl, all_map (λ y. Among y xs) (λ y. Among y (x ∷ xs)) (λ y a. inr a) xs (all_there xs))

-- ---- operations in order

abbrev pub ReadRead : Replied → Replied → Type 0
ReadRead a b = a.epoch ≡ b.epoch → NoOlder a b

abbrev pub WriteWrite : Acknowledged → Acknowledged → Type 0
WriteWrite a b = a.what.epoch ≡ b.what.epoch → a.event < b.event → a.what.version < b.what.version

abbrev pub ReadWrite : Replied → Acknowledged → Type 0
ReadWrite a b = Shows a.reply → a.epoch ≡ b.what.epoch → a.event < b.event → a.last < b.what.version

-- The operations of a world are in order, except reads after writes: these are left to the law of the fence.
pub record Ordered (w : World) : Type 0 where
  pub reads : AllPairs ReadRead w.replied w.replied
  pub writes : AllPairs WriteWrite w.acknowledged w.acknowledged
  pub mixed : AllPairs ReadWrite w.replied w.acknowledged

-- no operation is of an event later than the world's last
pub record Dated (w : World) : Type 0 where
  pub replied : AllByRecursion (λ (r : Replied). r.event ≤ w.events) w.replied
  pub acknowledged : AllByRecursion (λ (a : Acknowledged). a.event ≤ w.events) w.acknowledged

-- no operation of the epoch is above this version
pub record Covered (w : World) (e v : ℕ) : Type 0 where
  pub reads : AllByRecursion (λ (r : Replied). Shows r.reply → r.epoch ≡ e → r.last ≤ v) w.replied
  pub writes : CoversAll w e v

-- a reply of this event: if it shows something, its last version is `top`, which covers all operations before
pub record NewRead (w : World) (event top : ℕ) (r : Replied) : Type 0 where
  pub event_is : r.event ≡ event
  pub top_is : Shows r.reply → r.last ≡ top
  pub covers : Shows r.reply → Covered w r.epoch top

-- an acknowledgement of this event: its version is the next after one that covers all operations before
pub record NewWrite (w : World) (event : ℕ) (a : Acknowledged) : Type 0 where
  pub event_is : a.event ≡ event
  pub before : ℕ
  pub next : a.what.version ≡ suc before
  pub covers : Covered w a.what.epoch before

module _ (w next : World) (top : ℕ) (reads : List Replied) (writes : List Acknowledged) (later : next.events ≡ suc w.events) (replied : next.replied ≡ w.replied ++ reads) (acknowledged : next.acknowledged ≡ w.acknowledged ++ writes)
    (R : AllByRecursion (NewRead w next.events top) reads) (W : AllByRecursion (NewWrite w next.events) writes) (D : Dated w) where
  among_reads : AllByRecursion (λ (r : Replied). Among r w.replied × (r.event ≤ w.events)) w.replied
  among_reads = all_both (λ r. Among r w.replied) _ w.replied (all_there w.replied) D.replied

  among_writes : AllByRecursion (λ (a : Acknowledged). Among a w.acknowledged × (a.event ≤ w.events)) w.acknowledged
  among_writes = all_both (λ a. Among a w.acknowledged) _ w.acknowledged (all_there w.acknowledged) D.acknowledged

  abbrev IsRead : Replied → Type 0
  IsRead = NewRead w next.events top

  abbrev IsWrite : Acknowledged → Type 0
  IsWrite = NewWrite w next.events

  -- ---- old ones and new ones

  abbrev OldRead : Replied → Type 0
  OldRead r = Among r w.replied × (r.event ≤ w.events)

  abbrev OldWrite : Acknowledged → Type 0
  OldWrite a = Among a w.acknowledged × (a.event ≤ w.events)

  reads_then : AllPairs ReadRead w.replied w.replied → AllPairs ReadRead next.replied next.replied
  reads_then O = subst (λ (rs : List Replied). AllPairs ReadRead rs rs) (sym replied) (pairs_grow ReadRead w.replied reads w.replied reads O
      (pairs_of ReadRead OldRead IsRead after w.replied reads among_reads R)
      (all_map IsRead _ (λ a k. all_append (ReadRead a) w.replied reads (all_map OldRead (ReadRead a) (late a k) w.replied among_reads) (all_map IsRead (ReadRead a) (together a k) reads R)) reads R))
    where
      after : (a : Replied) → OldRead a → (b : Replied) → IsRead b → ReadRead a b
      after a k b z e s t le = let x = z.top_is t in let y = all_among _ a w.replied k.0 (z.covers t).reads s e in omega arith

      late : (a : Replied) → IsRead a → (b : Replied) → OldRead b → ReadRead a b
      late a k b z e s t le = let x = k.event_is in let y = z.1 in absurd (omega arith)

      together : (a : Replied) → IsRead a → (b : Replied) → IsRead b → ReadRead a b
      together a k b z e s t le = let x = k.top_is s in let y = z.top_is t in omega arith

  writes_then : AllPairs WriteWrite w.acknowledged w.acknowledged → AllPairs WriteWrite next.acknowledged next.acknowledged
  writes_then O = subst (λ (rs : List Acknowledged). AllPairs WriteWrite rs rs) (sym acknowledged) (pairs_grow WriteWrite w.acknowledged writes w.acknowledged writes O
      (pairs_of WriteWrite OldWrite IsWrite after w.acknowledged writes among_writes W)
      (all_map IsWrite _ (λ a k. all_append (WriteWrite a) w.acknowledged writes (all_map OldWrite (WriteWrite a) (late a k) w.acknowledged among_writes) (all_map IsWrite (WriteWrite a) (together a k) writes W)) writes W))
    where
      after : (a : Acknowledged) → OldWrite a → (b : Acknowledged) → IsWrite b → WriteWrite a b
      after a k b z e lt = let x = z.next in let y = all_among _ a w.acknowledged k.0 z.covers.writes e in omega arith

      late : (a : Acknowledged) → IsWrite a → (b : Acknowledged) → OldWrite b → WriteWrite a b
      late a k b z e lt = let x = k.event_is in let y = z.1 in absurd (omega arith)

      together : (a : Acknowledged) → IsWrite a → (b : Acknowledged) → IsWrite b → WriteWrite a b
      together a k b z e lt = let x = k.event_is in let y = z.event_is in absurd (omega arith)

  mixed_then : AllPairs ReadWrite w.replied w.acknowledged → AllPairs ReadWrite next.replied next.acknowledged
  mixed_then O =
      subst (λ (rs : List Replied). AllPairs ReadWrite rs next.acknowledged) (sym replied) (subst (λ (ws : List Acknowledged). AllPairs ReadWrite (w.replied ++ reads) ws) (sym acknowledged) (pairs_grow ReadWrite w.replied reads w.acknowledged writes O
      (pairs_of ReadWrite OldRead IsWrite after w.replied writes among_reads W)
      (all_map IsRead _ (λ a k. all_append (ReadWrite a) w.acknowledged writes (all_map OldWrite (ReadWrite a) (late a k) w.acknowledged among_writes) (all_map IsWrite (ReadWrite a) (together a k) writes W)) reads R)))
    where
      after : (a : Replied) → OldRead a → (b : Acknowledged) → IsWrite b → ReadWrite a b
      after a k b z s e lt = let x = z.next in let y = all_among _ a w.replied k.0 z.covers.reads s e in omega arith

      late : (a : Replied) → IsRead a → (b : Acknowledged) → OldWrite b → ReadWrite a b
      late a k b z s e lt = let x = k.event_is in let y = z.1 in absurd (omega arith)

      together : (a : Replied) → IsRead a → (b : Acknowledged) → IsWrite b → ReadWrite a b
      together a k b z s e lt = let x = k.event_is in let y = z.event_is in absurd (omega arith)

  pub ordered_then : Ordered w → Ordered next
  ordered_then O = record { reads = reads_then O.reads; writes = writes_then O.writes; mixed = mixed_then O.mixed }
