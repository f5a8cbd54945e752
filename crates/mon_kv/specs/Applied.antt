-- What a text of changes makes of a map.
use Rattle.std.specs.Prelude.{List, Result, Ok, Err}
use Rattle.mon_tx.specs.declared.op.Op.{Op}
use Rattle.mon_tx.specs.declared.refusal.TxRefused.{TxRefused}
use Rattle.mon_tx.specs.Map.{Store, apply}

-- a map with the changes that were read, or why they are refused
abbrev pub applied : Store → Result (List Op) TxRefused → Result Store TxRefused
applied m (Ok ops) = Ok (apply ops m)
applied m (Err e) = Err e
