use Rattle.std.proofs.Common.{◌++◌, ◌∷◌, [], arith}
use Rattle.map_log.specs.Map.{with_inc}
use Rattle.map_log.proofs.Lengths.{is_short}
use Rattle.svc_core.proofs.MapSizes.{trimmed_short}
use Rattle.svc_core.proofs.made.log_text_after.Goals as goal

pub encode-requires : goal.encode-requires
encode-requires c =
    rw c.in_ok-applied.ensures.ok (is_short (with_inc c.args.map c.args.inc) (omega (arith, trimmed_short (c.args.map ++ c.args.inc ∷ []))))
