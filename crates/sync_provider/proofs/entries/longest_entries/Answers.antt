use Rattle.std.proofs.Common.{◌+◌, leb, List, vec_len, sym, ap, ◌∙◌, arith}
use Rattle.std.specs.Prelude.{sum_by}
use Rattle.std.proofs.lemmas.Bool.{eqb-false, eqb-true}
use Rattle.mon_bytes.specs.declared.entry.Entry.{Entry}
use Rattle.mon_msg.specs.Protocol.Parts.{entry_length}
use Rattle.sync_provider.proofs.GivenLaws.{taken-some, taken-none, taken-all, taken-but-one}
use Rattle.sync_provider.proofs.entries.longest_entries.Goals as goal

pub returns-then-not-found : goal.returns-then-not-found
returns-then-not-found c =
    taken-some c.args.kv.now c.args.place.now.key c.args.bytes c.saturating_sub-room.result (omega (arith, c.saturating_sub-room.ensures, c.saturating_sub.ensures)) c.in_ok-found.found c.in_ok-found.ensures c.if-not-found.true

pub returns-then-is_empty : goal.returns-then-is_empty
returns-then-is_empty c =
    taken-none c.args.kv.now c.args.place.now.key c.args.bytes c.saturating_sub-room.result (omega (arith, c.saturating_sub-room.ensures, c.saturating_sub.ensures)) c.in_ok-found.found c.in_ok-found.ensures c.if-not-found.false
    (let none = eqb-true (vec_len c.in_ok-found.found.entries) 0 (sym c.is_empty.ensures ∙ c.if-is_empty.true) in sym c.in_ok-found.found.entries.ok.0 ∙ none)

pub returns-then-are_last : goal.returns-then-are_last
returns-then-are_last c =
    taken-all c.args.kv.now c.args.place.now.key c.args.bytes c.saturating_sub-room.result (omega (arith, c.saturating_sub-room.ensures, c.saturating_sub.ensures)) c.in_ok-found.found c.in_ok-found.ensures c.if-not-found.false
    (ap (λ (es : List Entry). leb (40 + c.args.bytes + sum_by entry_length es) 1048576) (sym c.deref.ensures.value) ∙ sym c.are_last.ensures ∙ c.if-are_last.true)

pub returns : goal.returns
returns c =
    taken-but-one c.args.kv.now c.args.place.now.key c.args.bytes c.saturating_sub-room.result (omega (arith, c.saturating_sub-room.ensures, c.saturating_sub.ensures)) c.in_ok-found.found c.in_ok-found.ensures c.if-not-found.false
    (let some = eqb-false (vec_len c.in_ok-found.found.entries) 0 (sym c.is_empty.ensures ∙ c.if-is_empty.false) in omega (arith, some))
    (ap (λ (es : List Entry). leb (40 + c.args.bytes + sum_by entry_length es) 1048576) (sym c.deref.ensures.value) ∙ sym c.are_last.ensures ∙ c.if-are_last.false)
    c.without_last.result c.without_last.ensures.entries c.without_last.ensures.done
