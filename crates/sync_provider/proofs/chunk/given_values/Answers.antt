use Rattle.std.proofs.Common.{◌≡◌, ℕ, suc, ◌+◌, cond, [], sym, ap, ◌∙◌, arith}
use Rattle.mon_msg.specs.Protocol.Parts.{place_length}
use Rattle.mon_msg.specs.Protocol.Providing.{given_values, is_finished}
use Rattle.mon_msg.specs.Protocol.Readings.{readings_of}
use Rattle.mon_stored.specs.Runs.{run_within}
use Rattle.mon_stored.proofs.Fitting.{given_values-run}
use Rattle.mon_stored.specs.declared.records.Run.{Run}
use Rattle.mon_wire.specs.declared.parts.Cookie.{Cookie}
use Rattle.sync_provider.specs.Rows.{remaining_after}
use Rattle.sync_provider.proofs.Fallible.{if_ok}
use Rattle.sync_provider.proofs.chunk.given_values.Goals as goal

pub returns-clause-values : goal.returns-clause-values
returns-clause-values c =
    let w = readings_of c.args.kv.now in
    let p = c.args.place.now in
    let left = remaining_after c.args.kv.now p.key in
    let v = readings_of c.args.stored.now in
    let told : v ≡ w = ap readings_of c.requires in
    let next : c.get-next.result + 1 ≡ suc p.version = omega (arith, c.get-next.ensures.value) in
    let len : c.place_len-len.result ≡ place_length p = c.place_len-len.ensures.value in
    let more : c.besides.result ≡ cond (is_finished p left []) 40 33 = c.besides.ensures ∙ ap (λ b. cond b 40 33) c.in_ok-end.ensures in
    if_ok (λ (run : Run). run.values ≡ run_within v.record_of v.last (c.get-next.result + 1) (33 + c.place_len-len.result) (c.besides.result + c.place_len-len.result))
    (λ (run : Run). (n : ℕ) (k : Cookie) → run.values ≡ given_values w.last k p left n w.record_of)
    (λ run h n k. h ∙ (λ i. run_within (told i).record_of (told i).last (next i) (33 + len i) (more i + len i)) ∙ sym (given_values-run w.last k p left n w.record_of)) c.run.result c.run.ensures.values
