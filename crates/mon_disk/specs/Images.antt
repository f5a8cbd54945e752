-- What a disk holds, and what a crash may leave of it.
use Rattle.std.specs.Prelude.{◌≡◌, ◌≢◌, ◌<◌, ◌≤◌, ◌⊎◌, ◌+◌, ℕ, min, max, List, [], ◌∷◌, ◌++◌, length, take, drop, Option, Some, None, ⊤}

-- A disk at one point of its life: the bytes that a read gives, if its contents can be seen; the number of the point; and
-- what a crash at each point so far may leave. A disk whose contents can't be seen has no such image.
pub record Content : Type 1 where
  pub seen : Option (List ℕ)
  pub time : ℕ
  pub images_at : ℕ → List ℕ → Type 0

-- a disk whose contents can't be seen
abbrev pub unobserved : Content
unobserved = record { seen = None; time = 0; images_at = λ t c. ⊥ }

-- what a crash may leave now
abbrev pub images : Content → List ℕ → Type 0
images x = x.images_at x.time

-- a file with these bytes at a place
abbrev pub overwritten : ℕ → List ℕ → List ℕ → List ℕ
overwritten at bytes file = take at file ++ bytes ++ drop (at + length bytes) file

-- what a read gives after such a write, if its contents can be seen
abbrev pub written : ℕ → List ℕ → Option (List ℕ) → Option (List ℕ)
written at bytes None = None
written at bytes (Some file) = Some (overwritten at bytes file)

-- the bytes from an offset on are these, if the disk's contents can be seen
abbrev pub Reads : Option (List ℕ) → ℕ → List ℕ → Type 0
Reads None at bytes = ⊤
Reads (Some file) at bytes = bytes ≡ take (length bytes) (drop at file)

-- A one-byte write inside the file that a crash cuts short: the byte is the old one, the new one, or any other but 1.
abbrev pub TornByte : ℕ → ℕ → List ℕ → List ℕ → Type 0
TornByte at byte old new =
    (new ≡ old) ⊎ (new ≡ overwritten at (byte ∷ []) old) ⊎ ((other : ℕ) × (other ≢ 1) × (new ≡ overwritten at (other ∷ []) old))

-- A write that a crash cuts short: any bytes in its range and past the old end, the old bytes elsewhere, and a length
-- between the old and the new one.
pub record Torn (at : ℕ) (bytes old new : List ℕ) : Type 0 where
  pub before : take (min at (length old)) new ≡ take at old
  pub after : drop (at + length bytes) new ≡ drop (at + length bytes) old
  pub no_shorter : length old ≤ length new
  pub no_longer : length new ≤ max (length old) (at + length bytes)
  pub narrow : (byte : ℕ) → bytes ≡ byte ∷ [] → at < length old → TornByte at byte old new

-- what a write that begins on this disk may have become when a crash comes
abbrev pub TornFrom : Content → ℕ → List ℕ → List ℕ → Type 0
TornFrom x at bytes c = (d : List ℕ) × images x d × Torn at bytes d c

-- a crash leaves what a read gives, and nothing else
abbrev pub Only : Content → Type 0
Only x = (c : List ℕ) → images x c → x.seen ≡ Some c

-- Time goes on from old to new: what a crash might have left at an earlier point stays so, and at each point from old to new
-- it leaves a file that has P.
pub record LeavesOnly (old new : Content) (P : List ℕ → Type 0) : Type 0 where
  pub later : old.time ≤ new.time
  pub past : (t : ℕ) (c : List ℕ) → t ≤ old.time → new.images_at t c → old.images_at t c
  pub kept : (t : ℕ) (c : List ℕ) → t ≤ old.time → old.images_at t c → new.images_at t c
  pub each : (t : ℕ) (c : List ℕ) → old.time ≤ t → t ≤ new.time → new.images_at t c → P c
