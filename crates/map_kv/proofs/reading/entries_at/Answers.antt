use Rattle.std.proofs.Common.{[], ap, sym, subst, ◌∙◌}
use Rattle.std.proofs.lemmas.Result.{err_from_is_err_and}
use Rattle.std.specs.FinMap.{entries, insert}
use Rattle.map_kv.specs.Decode.{entries_at}
use Rattle.map_kv.proofs.Loop.{begins, above_none, goes_on, ends_at_key, ends_at_value, is_done, key_rises, stays_above, entries_after}
use Rattle.map_kv.proofs.Rising.{IsBelow}
use Rattle.map_kv.proofs.reading.entries_at.Goals as goal

pub loop-init : goal.loop-init
loop-init c = (begins c.new-map.result c.args.count c.args.cursor.now c.new-map.ensures, above_none c.new-map.result [] c.new-map.ensures)

pub returns-in_err-key : goal.returns-in_err-key
returns-in_err-key c =
    let p = err_from_is_err_and c.from_residual.result c.from_residual.ensures.1 in
    rw (p.1, p.2) (ends_at_key c.in_err-key.field-0.0 (entries c.loop.map) c.args.count c.loop.counter c.loop.before.now c.loop.cursor (entries_at c.args.count [] c.args.cursor.now) c.loop-test.true c.in_err-key.ensures.bytes c.loop.invariant.0)

pub returns-in_err-value : goal.returns-in_err-value
returns-in_err-value c =
    let p = err_from_is_err_and c.from_residual-in_err-value.result c.from_residual-in_err-value.ensures.1 in
    rw (p.1, p.2)
    (ends_at_value c.in_err-value.field-0.0 (entries c.loop.map) c.args.count c.loop.counter c.loop.before.now c.in_ok-key.key.now c.loop.cursor c.key_at.new.cursor (entries_at c.args.count [] c.args.cursor.now) c.loop-test.true c.in_ok-key.ensures.bytes c.in_err-value.ensures c.loop.invariant.0)

pub loop-preserved : goal.loop-preserved
loop-preserved c =
    let key = c.in_ok-key.key.now in
    let rises = key_rises c.loop.before.now c.loop.cursor (key, c.key_at.new.cursor) c.in_ok-key.ensures.bytes in
    let after = ap entries (c.in_ok-push.ensures ∙ ap (λ k. insert c.loop.map k c.in_ok-value.value) c.in_ok-from_slice.ensures) ∙ entries_after c.loop.map c.loop.before.now key c.in_ok-value.value rises c.loop.invariant.1 in
    rw after (
      goes_on (entries c.loop.map) c.args.count c.loop.counter c.loop.before.now key c.in_ok-value.value c.loop.cursor c.key_at.new.cursor c.read_text.new.cursor (entries_at c.args.count [] c.args.cursor.now) c.loop-test.true c.in_ok-key.ensures.bytes c.in_ok-value.ensures c.loop.invariant.0,
      stays_above c.loop.before.now key c.in_ok-value.value (entries c.loop.map) rises c.loop.invariant.1,
    )

pub returns : goal.returns
returns c = rw c.in_ok-into_map.ensures (is_done (entries c.loop.map) c.args.count c.loop.counter c.loop.before.now c.loop.cursor (entries_at c.args.count [] c.args.cursor.now) c.loop-test.false c.loop.invariant.0)

pub push-requires : goal.push-requires
push-requires c =
    let key = c.in_ok-key.key.now in
    subst (λ k. IsBelow k (entries c.loop.map)) (sym c.in_ok-from_slice.ensures) (c.loop.invariant.1 key (key_rises c.loop.before.now c.loop.cursor (key, c.key_at.new.cursor) c.in_ok-key.ensures.bytes))
