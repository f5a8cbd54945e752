-- The results of calls that read. Some of their errors mean that memory ran out.
use Rattle.std.specs.Prelude.{◌≡◌, ℕ, Bool, true, false, Result, Ok, Err}
use Rattle.mon_bytes.specs.declared.cursor.Short.{Short}
use Rattle.mon_bytes.specs.Reading.{Reading}

infixl 10 ◌>>=◌
abbrev pub ◌>>=◌ : {A B E : Type 0} → Result A E → (A → Result B E) → Result B E
(Ok x) >>= f = f x
(Err e) >>= f = Err e

-- a field that doesn't fit is at fault where it begins
abbrev pub at_fault : {A E : Type 0} → (ℕ → E) → Result A Short → Result A E
at_fault fault (Ok x) = Ok x
at_fault fault (Err s) = Err (fault s.at)

abbrev pub Unless : Bool → Type 0 → Type 0
Unless true P = Unit {0}
Unless false P = P

-- The result of a call, and the place of its cursor after `Ok`, are those of the definition, unless memory ran out.
abbrev pub Fails : {Y E : Type 0} → (E → Bool) → E → Result Y E → Type 0
Fails no_memory e read = Unless (no_memory e) (read ≡ Err e)

abbrev pub Reads : {X Y E : Type 0} → (E → Bool) → (X → Y) → Result X E → Reading → Result (Y × Reading) E → Type 0
Reads no_memory view (Ok x) new read = read ≡ Ok (view x, new)
Reads no_memory view (Err e) new read = Fails no_memory e read

abbrev pub Gives : {X Y E : Type 0} → (E → Bool) → (X → Y) → Result X E → Result Y E → Type 0
Gives no_memory view (Ok x) read = read ≡ Ok (view x)
Gives no_memory view (Err e) read = Fails no_memory e read
