use Rattle.std.proofs.Common.{◌≡◌, ◌+◌, Bool, ◌&&◌, leb, ap, sym, ◌∙◌, arith}
use Rattle.std.specs.Prelude.{sum_by}
use Rattle.mon_msg.specs.Protocol.Parts.{place_length, value_length}
use Rattle.mon_msg.specs.Protocol.Providing.{reach}
use Rattle.mon_msg.specs.Protocol.Readings.{readings_of}
use Rattle.mon_tx.specs.Map.{Store}
use Rattle.mon_wire.specs.declared.body.Body.TheVariants as body
use Rattle.sync_provider.specs.Rows.{remaining_after}
use Rattle.sync_provider.proofs.ChunkLaws.{chunk-last, chunk-more, given-short}
use Rattle.sync_provider.proofs.chunk.chunk.Goals as goal

pub returns-then-is_last : goal.returns-then-is_last
returns-then-is_last c =
    λ n.
    let w = readings_of c.args.kv.now in
    let p = c.args.place.now in
    let left = remaining_after c.args.kv.now p.key in
    let run = c.in_ok-values.field-0 in
    let told = c.in_ok-values.ensures in
    let keys = c.in_ok-entries.field-0 in
    let last : c.last-last.result ≡ w.last = c.last-last.ensures.value ∙ ap (λ (m : Store). (readings_of m).last) c.of-stored.ensures in
    let is = told.values n c.args.cookie in
    let reached : reach w.last p run.values ≡ c.reaches-whole.result = sym (c.reaches-whole.ensures ∙ (λ i. leb (last i) (p.version + c.len.ensures i))) in
    let short = given-short w.last n c.args.cookie p left w.record_of run.values is in
    let size : c.saturating_add-len.result ≡ place_length p + sum_by value_length run.values = omega (arith, c.saturating_add-len.ensures, c.place_len.ensures.value, c.place_len.ensures.most, told.bytes, short) in
    let given = c.in_ok-entries.ensures w.last n c.args.cookie run.values reached told.few size in
    (λ i. body.LastChunk c.args.cookie (c.in_ok-place.ensures i) run.values (c.from_vec-entries.ensures i) (last i))
    ∙ chunk-last w.last n c.args.cookie p left w.record_of run.values keys is given (ap (λ (b : Bool). b && keys.done) reached ∙ c.if-is_last.true)

pub returns : goal.returns
returns c =
    λ n.
    let w = readings_of c.args.kv.now in
    let p = c.args.place.now in
    let left = remaining_after c.args.kv.now p.key in
    let run = c.in_ok-values.field-0 in
    let told = c.in_ok-values.ensures in
    let keys = c.in_ok-entries.field-0 in
    let last : c.last-last.result ≡ w.last = c.last-last.ensures.value ∙ ap (λ (m : Store). (readings_of m).last) c.of-stored.ensures in
    let is = told.values n c.args.cookie in
    let reached : reach w.last p run.values ≡ c.reaches-whole.result = sym (c.reaches-whole.ensures ∙ (λ i. leb (last i) (p.version + c.len.ensures i))) in
    let short = given-short w.last n c.args.cookie p left w.record_of run.values is in
    let size : c.saturating_add-len.result ≡ place_length p + sum_by value_length run.values = omega (arith, c.saturating_add-len.ensures, c.place_len.ensures.value, c.place_len.ensures.most, told.bytes, short) in
    let given = c.in_ok-entries.ensures w.last n c.args.cookie run.values reached told.few size in
    (λ i. body.Chunk c.args.cookie (c.in_ok-place.ensures i) run.values (c.from_vec-entries.ensures i) keys.done)
    ∙ chunk-more w.last n c.args.cookie p left w.record_of run.values keys is given (ap (λ (b : Bool). b && keys.done) reached ∙ c.if-is_last.false)
