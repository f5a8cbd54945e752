use Rattle.std.proofs.Common.{◌++◌, ◌∷◌, [], Ok, ap, ◌∙◌, arith}
use Rattle.std.proofs.lemmas.Result.{err_from_is_err_and}
use Rattle.map_log.specs.Text.{inc_text}
use Rattle.mon_msg.specs.Protocol.Services.{read_map}
use Rattle.mon_msg.specs.Protocol.Readings.{readings_of}
use Rattle.mon_wire.specs.declared.request.Service.TheVariants as service
use Rattle.svc_core.proofs.Drafting.{draft_is, log_refused, log_entry}
use Rattle.svc_core.proofs.Kindly.{read_kind}
use Rattle.svc_core.proofs.MapSizes.{trimmed_short}
use Rattle.svc_core.proofs.DraftSizes.{log_inc_short}
use Rattle.svc_core.proofs.made.log_made.Goals as goal

pub returns-in_err-inc-clause-made : goal.returns-in_err-inc-clause-made
returns-in_err-inc-clause-made c =
    let p = err_from_is_err_and c.from_residual.result c.from_residual.ensures.1 in
    rw (p.1, p.2) (log_refused (read_map (readings_of c.args.kv.now) service.Log) c.args.due c.args.asked c.args.text.now c.in_err-inc.field-0.0 (read_kind (readings_of c.args.kv.now) service.Log) c.in_err-inc.ensures.made)

pub returns-then-due-clause-short : goal.returns-then-due-clause-short
returns-then-due-clause-short c =
    let whole = trimmed_short (c.in_ok-map.map ++ c.in_ok-inc.inc ∷ []) in
    record {
      incremental = rw c.in_ok-log_draft.ensures.incremental (log_inc_short c.args.asked c.args.text.now c.in_ok-inc.inc c.in_ok-inc.ensures.made);
      text = rw c.in_ok-log_draft.ensures.text (omega (arith, whole));
    }

pub returns-clause-made : goal.returns-clause-made
returns-clause-made c =
    rw c.if-due.false
    (log_entry (read_map (readings_of c.args.kv.now) service.Log) c.args.asked c.args.text.now c.in_ok-inc.inc (read_kind (readings_of c.args.kv.now) service.Log) c.in_ok-inc.ensures.made
    ∙ ap Ok (draft_is c.bare.result (inc_text c.in_ok-inc.inc) [] (c.bare.ensures.incremental ∙ c.new.ensures ∙ c.in_ok-incremental.ensures.text) c.bare.ensures.text))

pub returns-clause-short : goal.returns-clause-short
returns-clause-short c = record {
  incremental = rw (c.bare.ensures.incremental, c.new.ensures, c.in_ok-incremental.ensures.text) (log_inc_short c.args.asked c.args.text.now c.in_ok-inc.inc c.in_ok-inc.ensures.made);
  text = rw c.bare.ensures.text (omega arith);
}
