-- A timer is found by its word, one after the other.
use Rattle.std.proofs.Common.{◌≡◌, ℕ, ◌+◌, ◌<◌, false, cond, List, length, drop, get_or, Ok, sym, ap, ◌∙◌}
use Rattle.std.proofs.lemmas.List.{drop_more}
use Rattle.std.specs.Str.{bytes_eq}
use Rattle.mon_wire.specs.declared.phase.Timer.{Timer}
use Rattle.schedule_text.specs.Words.{timer_text}
use Rattle.schedule_text.specs.Fields.{timer_among}

pub timer_next : (timers : List Timer) (field : List ℕ) (i : ℕ) (d : Timer) → i < length timers → bytes_eq field (timer_text (get_or timers i d)) ≡ false
    → timer_among (drop (i + 1) timers) field ≡ timer_among (drop i timers) field
timer_next timers field i d within other =
    let t = get_or timers i d in
    let others = timer_among (drop (i + 1) timers) field in
    sym (ap (λ (ts : List Timer). timer_among ts field) (drop_more timers i d within) ∙ ap (λ b. cond b (Ok t) others) other)
