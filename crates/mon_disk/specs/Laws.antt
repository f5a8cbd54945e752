-- What a disk in memory gives to a read, and what it settles to, are among its images.
use Rattle.std.specs.Prelude.{◌≡◌, List, [], ◌∷◌, length, get_or, IfSome, Some}
use Rattle.std.proofs.Common.{refl, sym, subst, inl, inr}
use Rattle.mon_disk.specs.Images.{images}
use Rattle.mon_disk.specs.Memory.{Lived, seen_of, settled}
use Rattle.mon_disk.specs.MemoryDisk.{MemoryState, Leaves, earlier, content_of, observed_of}

-- after all earlier points comes the life that goes on
pub as_now : (lives : List Lived) (life : Lived) → get_or lives (length lives) life ≡ life
as_now [] life = refl
as_now (l ∷ lives) life = as_now lives life

pub as_read : (d : MemoryState) → IfSome (content_of d.past d.life).seen (images (content_of d.past d.life))
as_read d = subst (λ (l : Lived). Leaves l (seen_of d.life)) (sym (as_now (earlier d.past d.life) d.life)) (inl refl)

pub settles : (d : MemoryState) → IfSome (Some (observed_of d.life)) (λ t. images (content_of d.past d.life) (t.settles t.made))
settles d = subst (λ (l : Lived). Leaves l (settled d.life)) (sym (as_now (earlier d.past d.life) d.life)) (inr (inl refl))
