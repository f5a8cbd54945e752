use Rattle.std.proofs.Common.{◌-◌, length, sym, ◌∙◌, arith}
use Rattle.std.proofs.lemmas.Option.{slice_get_within}
use Rattle.mon_bytes.specs.declared.entry.KeyPlace.TheVariants.{After}
use Rattle.sync_requester.proofs.ChunkLaws.{after-at}
use Rattle.sync_requester.proofs.places.after_entries.Goals as goal

pub returns-in_ok-copy-in-Some-2 : goal.returns-in_ok-copy-in-Some-2
returns-in_ok-copy-in-Some-2 c =
    let entries = c.args.entries.now in
    let at = sym c.in-Some.ensures.value in
    let lt = slice_get_within entries (length entries - 1) c.in-Some.entry.now at in
    (λ i. After (c.in_ok-copy-in-Some.ensures i) (c.in_ok-copy-in-Some-2.ensures i))
    ∙ sym (after-at entries c.args.key.now (length entries - 1) c.in-Some.entry.now (omega (arith, lt)) at)
