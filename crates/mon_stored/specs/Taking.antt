-- The changes that take keys away, and named keys.
use Rattle.std.specs.Prelude.{◌≡◌, Bool, true, false}
use Rattle.mon_tx.specs.Keys.{key_text}
use Rattle.mon_tx.specs.declared.op.Op.TheVariants.{Put, Erase, ErasePrefix, EraseRange}
use Rattle.mon_tx.specs.declared.op.Op.{Op}
use Rattle.mon_stored.specs.declared.stored.At.{At}

abbrev pub is_taking : Op → Bool
is_taking (Put prefix key value) = false
is_taking (Erase prefix key) = true
is_taking (ErasePrefix prefix) = true
is_taking (EraseRange prefix from to) = true

-- the text is that of the key
abbrev pub IsAt : At → Type 0
IsAt at = at.text.now ≡ key_text at.key
