-- The timer that comes next, found from the last kind to the first.
use Rattle.std.proofs.Common.{◌≡◌, ℕ, ◌+◌, ◌-◌, ◌<◌, ◌≤◌, List, length, drop, get_or, Option, sym, ap, ◌∙◌, arith}
use Rattle.std.proofs.lemmas.List.{drop_more}
use Rattle.mon_wire.specs.declared.phase.Timer.{Timer}
use Rattle.mon_msg.specs.Protocol.Timers.{end_of, sooner, soonest}

pub soonest_before : (kinds : List Timer) (ts : List (Option ℕ)) (i : ℕ) (d : Timer) → 0 < i → i ≤ length kinds
    → sooner (get_or kinds (i - 1) d) (end_of (get_or kinds (i - 1) d) ts) (soonest (drop i kinds) ts) ≡ soonest (drop (i - 1) kinds) ts
soonest_before kinds ts i d above within =
    let next : i - 1 + 1 ≡ i = omega arith in
    let below : i - 1 < length kinds = omega arith in
    let t = get_or kinds (i - 1) d in
    (λ j. sooner t (end_of t ts) (soonest (drop (sym next j) kinds) ts)) ∙ sym (ap (λ (l : List Timer). soonest l ts) (drop_more kinds (i - 1) d below))
