-- A store is as it must be, after the checkpoint that is due was made.
use Rattle.std.proofs.Common.{◌≡◌, Bool, true, false, cond, refl, ap, ◌∙◌}
use Rattle.mon_store.specs.Sound.{is_due, next_journal}
use Rattle.mon_store.specs.StoreView.{StoreView}
use Rattle.mon_types.specs.Sides.{other as other_side}
use Rattle.mon_node.specs.Keeping.{renewed}

-- by whether one is due
abbrev pub by_due : StoreView → Bool → StoreView
by_due s due = cond due (record { side = other_side s.side; journal = next_journal s.journal s.kv; kv = s.kv }) s

pub renews : (due : Bool) (old new : StoreView) → due ≡ is_due old.journal old.kv → new.kv ≡ old.kv
    → (due ≡ true → new.side ≡ other_side old.side) → (due ≡ true → new.journal ≡ next_journal old.journal old.kv) → (due ≡ false → new ≡ old)
    → new ≡ renewed old
renews true old new is kv side journal same = (λ i. record { side = side refl i; journal = journal refl i; kv = kv i }) ∙ ap (by_due old) is
renews false old new is kv side journal same = same refl ∙ ap (by_due old) is
