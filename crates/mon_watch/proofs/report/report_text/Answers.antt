use Rattle.std.proofs.Common.{◌≡◌, false, ap, ◌∙◌}
use Rattle.serde_json.specs.View.{view}
use Rattle.serde_json.specs.Written.{compact_text, has_float}
use Rattle.mon_watch.proofs.Calm.{no_float}
use Rattle.mon_watch.proofs.report.report_text.Goals as goal

pub returns : goal.returns
returns c =
    let calm : has_float (view c.in_ok-value.value) ≡ false = ap has_float c.in_ok-value.ensures ∙ no_float c.args.report.now in
    c.in_ok-to_string.ensures.text calm ∙ ap compact_text c.in_ok-value.ensures
