use Rattle.std.proofs.Common.{sym, ap, ◌∙◌}
use Rattle.std.specs.Option.{option_copied}
use Rattle.mon_stored.proofs.Standing.{read-put, read-still}
use Rattle.mon_stored.proofs.stored.Stored.named.Goals as goal

pub returns-in-Some : goal.returns-in-Some
returns-in-Some c =
    read-put c.self.inside.ops.now c.self.inside.kv.now c.self.inside.put c.args.self.now c.as_bytes-prefix.result.now c.args.text.now c.args.area c.args.key
    c.self.invariant.0 c.self.view_is c.as_bytes-prefix.ensures c.requires c.in-Some.bytes.now (sym (ap option_copied c.in-Some.is) ∙ c.get.ensures)

pub returns-in-None : goal.returns-in-None
returns-in-None c =
    read-still c.self.inside.ops.now c.self.inside.kv.now c.self.inside.put c.args.self.now c.as_bytes-prefix.result.now c.args.text.now c.args.area c.args.key
    c.self.invariant.0 c.self.view_is c.as_bytes-prefix.ensures c.requires c.as_slice.result.now (c.as_slice.ensures.value ∙ c.self.invariant.1)
    (sym (ap option_copied c.in-None.is) ∙ c.get.ensures) (option_copied c.still_there.result) c.still_there.ensures
