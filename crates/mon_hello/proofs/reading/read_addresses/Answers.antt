use Rattle.std.proofs.lemmas.Result.{err_from_is_err_and}
use Rattle.mon_bytes.specs.Format.{items}
use Rattle.mon_bytes.specs.Forms.{no_memory}
use Rattle.mon_bytes.proofs.ItemsLoop.{goes_on, ends, is_done}
use Rattle.mon_hello.specs.Formats.{address_at}
use Rattle.mon_hello.proofs.reading.read_addresses.Goals as goal

pub returns-in_err-address : goal.returns-in_err-address
returns-in_err-address c =
    let p = err_from_is_err_and c.from_residual.result c.from_residual.ensures.1 in
    rw (p.1, p.2) (ends no_memory address_at c.in_err-address.field-0.0 c.loop.read c.args.count c.loop.counter c.loop.cursor (items address_at c.args.count c.args.cursor.now) c.loop-test.true c.in_err-address.ensures c.loop.invariant)

pub loop-preserved : goal.loop-preserved
loop-preserved c =
    rw c.in_ok-push.ensures.ok
    (goes_on address_at c.loop.read c.args.count c.loop.counter c.loop.cursor c.read_address.new.cursor c.in_ok-address.address (items address_at c.args.count c.args.cursor.now) c.loop-test.true c.in_ok-address.ensures c.loop.invariant)

pub returns : goal.returns
returns c = is_done address_at c.loop.read c.args.count c.loop.counter c.loop.cursor (items address_at c.args.count c.args.cursor.now) c.loop-test.false c.loop.invariant
