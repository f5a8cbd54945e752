-- A pending value is no longer than a value may be.
use Rattle.law_names.proofs.Table.{Found, Op, Readings, found_as, most_value, pending, pending_of, record_at, text}
use Rattle.mon_msg.specs.Protocol.Records.{if_short_value}
use Rattle.std.proofs.Common.{IfSome, List, None, Option, Some, eqb, leb, length, option_map, suc, ℕ, ◌≤◌}
use Rattle.std.proofs.lemmas.Bool.{cond_both, leb-true}
use Rattle.std.specs.Option.{option_and_then}

-- a value that was found is short
abbrev pub FoundShort : Option Found → Type 0
FoundShort found = IfSome found (λ f. length (text f.value) ≤ most_value)

found_short : (v pn : ℕ) (o : Option (List Op)) → FoundShort (option_map (λ short. record { version = v; pn = pn; value = short }) (option_and_then if_short_value o))
found_short v pn None = tt
found_short v pn (Some x) = cond_both (leb (length (text x)) most_value) (Some x) None (λ (o : Option (List Op)). FoundShort (option_map (λ short. record { version = v; pn = pn; value = short }) o))
    (λ t. leb-true (length (text x)) most_value t) (λ _. tt)

pub pending_short : (w : Readings) → FoundShort (pending w)
unfolding pending_of
pending_short w = cond_both (eqb w.pending_v (suc w.last)) (found_as w.pending_v w.pending_pn (record_at w.record_of (suc w.last))) None FoundShort
    (λ _. found_short w.pending_v w.pending_pn (record_at w.record_of (suc w.last))) (λ _. tt)
