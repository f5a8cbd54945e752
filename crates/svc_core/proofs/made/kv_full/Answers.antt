use Rattle.std.proofs.Common.{arith}
use Rattle.map_kv.specs.Map.{with_inc}
use Rattle.map_kv.proofs.Kept.{is_short}
use Rattle.svc_core.proofs.Drafting.{made_short}
use Rattle.svc_core.proofs.DraftSizes.{kv_inc_short}
use Rattle.svc_core.proofs.made.kv_full.Goals as goal

pub kv_draft-requires-clause-map : goal.kv_draft-requires-clause-map
kv_draft-requires-clause-map c =
    let short = made_short c.in_ok-map.map c.args.command.now c.in_ok-inc.inc c.in_ok-map.ensures.short c.in_ok-inc.ensures.made in
    is_short (with_inc c.in_ok-map.map c.in_ok-inc.inc) (omega (arith, short))

pub returns-clause-short : goal.returns-clause-short
returns-clause-short c = record {
  incremental = rw c.in_ok-kv_draft.ensures.incremental (kv_inc_short c.in_ok-map.map c.args.command.now c.in_ok-inc.inc c.in_ok-inc.ensures.form c.in_ok-inc.ensures.made);
  text = rw c.in_ok-kv_draft.ensures.text (made_short c.in_ok-map.map c.args.command.now c.in_ok-inc.inc c.in_ok-map.ensures.short c.in_ok-inc.ensures.made);
}
