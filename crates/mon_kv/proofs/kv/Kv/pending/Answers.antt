use Rattle.std.proofs.Common.{◌≡◌, ◌+◌, true, Some, sym, ap, ◌∙◌, rules, arith}
use Rattle.std.specs.Option.{option_copied}
use Rattle.mon_tx.specs.Decode.{is_text}
use Rattle.mon_tx.specs.Keys.{cell, number}
use Rattle.mon_tx.specs.declared.key.Area.TheVariants as area
use Rattle.mon_tx.specs.declared.key.Key.TheVariants as key
use Rattle.mon_kv.specs.Readers.{pending}
use Rattle.mon_kv.proofs.ReaderLaws.{waiting-some}
use Rattle.mon_kv.proofs.kv.Kv.pending.Goals as goal

pub returns-clause-value : goal.returns-clause-value
unfolding pending
returns-clause-value c =
    let m = c.args.self.now in
    let last = c.last_committed-v.result in
    let text : is_text c.in_ok-value.value.now ≡ true = search rules in
    let there : cell m area.Paxos (key.Version (last + 1)) ≡ Some c.in_ok-value.value.now = sym c.stored.ensures ∙ ap option_copied c.in_ok-value.was in
    let own : number m area.Paxos key.PendingV ≡ last + 1 = sym c.named_number.ensures.0 ∙ c.if-named_number-v.false in
    rw (← c.last_committed-v.ensures.0, ← c.named_number-pn.ensures.0) (sym (waiting-some (number m area.Paxos key.PendingV) c.named_number-pn.result last (cell m area.Paxos (key.Version (last + 1))) c.in_ok-value.value.now own there text))

pub returns-clause-most : goal.returns-clause-most
returns-clause-most c = (omega (arith, c.named_number.ensures.1, c.if-named_number-v.false), c.named_number-pn.ensures.1)
