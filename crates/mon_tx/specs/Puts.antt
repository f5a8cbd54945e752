-- Changes of named keys.
use Rattle.std.specs.Prelude.{ℕ, List}
use Rattle.mon_tx.specs.declared.op.Op.{Op}
use Rattle.mon_tx.specs.declared.op.Op.TheVariants.{Put, Erase}
use Rattle.mon_tx.specs.declared.key.Area.{Area}
use Rattle.mon_tx.specs.declared.key.Key.{Key}
use Rattle.mon_tx.specs.Map.{number_bytes}
use Rattle.mon_tx.specs.Keys.{area_text, key_text}

abbrev pub put : Area → Key → List ℕ → Op
put a k value = Put (area_text a) (key_text k) value

abbrev pub put_number : Area → Key → ℕ → Op
put_number a k n = put a k (number_bytes n)

abbrev pub erase : Area → Key → Op
erase a k = Erase (area_text a) (key_text k)
