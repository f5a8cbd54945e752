-- A fault that reading names is one that a call may answer.
use Rattle.std.proofs.Common.{◌≡◌, Bool, true, false, Result, Err}
use Rattle.mon_bytes.specs.Answers.{Fails, Unless}
use Rattle.mon_tx.specs.declared.refusal.TxRefused.{TxRefused}
use Rattle.mon_tx.specs.Fields.{no_memory}

unless : (b : Bool) (P Q : Type 0) → Unless b P → (P → Q) → Unless b Q
unless true P Q h step = tt
unless false P Q h step = step h

pub fails : {Y : Type 0} (e : TxRefused) (read : Result Y TxRefused) → read ≡ Err e → Fails no_memory e read
fails e read h = by (no_memory e)
  where
    by : (b : Bool) → Unless b (read ≡ Err e)
    by true = tt
    by false = h

-- a fault of a part is one of the whole
pub fails_on : {X Y : Type 0} (e : TxRefused) (part : Result X TxRefused) (whole : Result Y TxRefused) → Fails no_memory e part → (part ≡ Err e → whole ≡ Err e) → Fails no_memory e whole
fails_on e part whole h step = unless (no_memory e) (part ≡ Err e) (whole ≡ Err e) h step
