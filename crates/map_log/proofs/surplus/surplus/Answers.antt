use Rattle.std.proofs.Common.{◌≡◌, ℕ, suc, ◌+◌, ◌<◌, ◌∷◌, ◌⊎◌, inl, inr, get_or, ap, sym, ◌∙◌, arith, drop, length}
use Rattle.std.proofs.lemmas.List.{length-drop}
use Rattle.map_log.specs.declared.inc.LogInc.{LogInc}
use Rattle.map_log.specs.Map.{trimmed}
use Rattle.map_log.specs.Text.{size_of}
use Rattle.map_log.proofs.Lengths.{trimmed-within, trimmed-above, drop_first}
use Rattle.map_log.proofs.surplus.surplus.Goals as goal

pub returns-then-size-le-MOST_LOG_MAP-clause-left : goal.returns-then-size-le-MOST_LOG_MAP-clause-left
returns-then-size-le-MOST_LOG_MAP-clause-left c =
    let left = drop c.loop-i.i c.args.entries.now in
    sym (trimmed-within left (omega (arith, length-drop c.loop-i.i c.args.entries.now, c.if-entries-i-le-MOST_ENTRIES.true)) (omega (arith, c.loop-i.invariant.1, c.if-size-le-MOST_LOG_MAP.true))) ∙ c.loop-i.invariant.0

pub returns-then-size-le-MOST_LOG_MAP-clause-size : goal.returns-then-size-le-MOST_LOG_MAP-clause-size
returns-then-size-le-MOST_LOG_MAP-clause-size c =
    let left = drop c.loop-i.i c.args.entries.now in
    let within = trimmed-within left (omega (arith, length-drop c.loop-i.i c.args.entries.now, c.if-entries-i-le-MOST_ENTRIES.true)) (omega (arith, c.loop-i.invariant.1, c.if-size-le-MOST_LOG_MAP.true)) in
    c.loop-i.invariant.1 ∙ ap (λ es. 4 + size_of es) (sym within ∙ c.loop-i.invariant.0)

pub loop-i-preserved : goal.loop-i-preserved
loop-i-preserved c =
    let es = c.args.entries.now in
    let i = c.loop-i.i in
    let e = get_or es i c.index-entries-i.result in
    let first = drop_first es i c.index-entries-i.result c.loop-i-test.true in
    let one : i + 1 ≡ suc i = omega arith in
    let next = ap (λ (n : ℕ). drop n es) one in
    let many = ap length first in
    let bytes = ap size_of first in
    let left = length-drop i es in
    let over : (500 < length (e ∷ drop (suc i) es)) ⊎ (12288 < 4 + size_of (e ∷ drop (suc i) es)) =
    elim c.else-entries-i-le-MOST_ENTRIES.either [
      | inl h ↦ inr (omega (arith, h.1, bytes, c.loop-i.invariant.1))
      | inr h ↦ inl (omega (arith, h, many, left))
    ] in
    let item = ap (λ (d : LogInc). length d.text) c.index-entries-i.is in
    rw next
    (sym (trimmed-above e (drop (suc i) es) over) ∙ ap trimmed (sym first) ∙ c.loop-i.invariant.0, omega (arith, bytes, item, c.inc_size-size.ensures.size, c.loop-i.invariant.1))
