-- Calls that may fail.
use Rattle.std.proofs.Common.{Result, Ok, Err, IfOk}

-- if P implies Q, a result that has P unless it is an error also has Q unless it is one
pub if_ok : {T E : Type 0} (P Q : T → Type 0) → ((x : T) → P x → Q x) → (r : Result T E) → IfOk r P → IfOk r Q
if_ok P Q f (Ok x) h = f x h
if_ok P Q f (Err e) h = tt
