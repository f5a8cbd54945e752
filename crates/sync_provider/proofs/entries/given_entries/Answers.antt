use Rattle.std.proofs.Common.{◌≡◌, ℕ, ◌+◌, ◌≤◌, List, length, ◌∙◌}
use Rattle.std.specs.Prelude.{sum_by}
use Rattle.mon_kv.specs.Chunks.{IsLongestRun, shared_after}
use Rattle.mon_kv.specs.declared.chunk.KeyRun.{KeyRun}
use Rattle.mon_msg.specs.Protocol.Parts.{place_length, value_length}
use Rattle.mon_msg.specs.Protocol.Providing.{reach}
use Rattle.mon_tx.specs.declared.op.Op.{Op}
use Rattle.mon_wire.specs.declared.parts.Cookie.{Cookie}
use Rattle.sync_provider.specs.Rows.{remaining_after}
use Rattle.sync_provider.specs.Taken.{IsGiven, IsTaken}
use Rattle.sync_provider.proofs.ChunkLaws.{given-none, given-some}
use Rattle.sync_provider.proofs.Fallible.{if_ok}
use Rattle.sync_provider.proofs.entries.given_entries.Goals as goal

pub returns-then-not-reaches : goal.returns-then-not-reaches
returns-then-not-reaches c =
    let m = c.args.kv.now in
    let p = c.args.place.now in
    if_ok (IsLongestRun (shared_after m p.key) 0 0)
    (λ (run : KeyRun). (last n : ℕ) (k : Cookie) (values : List (List Op)) → reach last p values ≡ c.args.reaches → length values ≤ 65535 → c.args.bytes ≡ place_length p + sum_by value_length values → IsGiven last k p (remaining_after m p.key) n values run)
    (λ run l last n k values h few size. given-none last n k m p values run (h ∙ c.if-not-reaches.true) l) c.chunk_from.result c.chunk_from.ensures

pub returns : goal.returns
returns c =
    let m = c.args.kv.now in
    let p = c.args.place.now in
    if_ok (IsTaken (remaining_after m p.key) c.args.bytes)
    (λ (run : KeyRun). (last n : ℕ) (k : Cookie) (values : List (List Op)) → reach last p values ≡ c.args.reaches → length values ≤ 65535 → c.args.bytes ≡ place_length p + sum_by value_length values → IsGiven last k p (remaining_after m p.key) n values run)
    (λ run t last n k values h few size. given-some last n k m p values run c.args.bytes size few (h ∙ c.if-not-reaches.false) t) c.longest_entries.result c.longest_entries.ensures
