-- What a crash may leave of two disks, at each point of a call.
use Rattle.std.specs.Prelude.{ℕ, ◌≤◌, List}
use Rattle.mon_disk.specs.Images.{Content, images}

-- what a crash might have left of a disk at an earlier point doesn't change later
pub record Lasts (old new : Content) : Type 0 where
  pub later : old.time ≤ new.time
  pub past : (t : ℕ) (c : List ℕ) → t ≤ old.time → new.images_at t c → old.images_at t c
  pub kept : (t : ℕ) (c : List ℕ) → t ≤ old.time → old.images_at t c → new.images_at t c

-- a crash now leaves a pair that has P
abbrev pub EachPair : Content → Content → (List ℕ → List ℕ → Type 0) → Type 0
EachPair a b P = (c d : List ℕ) → images a c → images b d → P c d

-- A crash at any point of a call leaves of the two disks a pair that has P, whichever points of the call they were at.
pub record Meanwhile (old_a old_b new_a new_b : Content) (P : List ℕ → List ℕ → Type 0) : Type 0 where
  pub a : Lasts old_a new_a
  pub b : Lasts old_b new_b
  pub each : (s t : ℕ) (c d : List ℕ) → old_a.time ≤ s → s ≤ new_a.time → old_b.time ≤ t → t ≤ new_b.time → new_a.images_at s c → new_b.images_at t d → P c d

-- The same of a call that calls disk A alone from some point `switch_time` of A on. From there disk B is at its last
-- point.
pub record WhileOpening (old_a old_b new_a new_b : Content) (P : List ℕ → List ℕ → Type 0) : Type 0 where
  pub a : Lasts old_a new_a
  pub b : Lasts old_b new_b
  pub switch_time : ℕ
  pub from : old_a.time ≤ switch_time
  pub to : switch_time ≤ new_a.time
  pub each : (s t : ℕ) (c d : List ℕ) → old_a.time ≤ s → s ≤ switch_time → old_b.time ≤ t → t ≤ new_b.time → new_a.images_at s c → new_b.images_at t d → P c d
  pub alone : (s : ℕ) (c d : List ℕ) → switch_time ≤ s → s ≤ new_a.time → new_a.images_at s c → images new_b d → P c d
