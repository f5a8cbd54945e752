use Rattle.std.proofs.Common.{◌≡◌, false, List, ℕ, [], ◌∷◌, ◌++◌, string_bytes, Vec, Global, ap, ◌∙◌}
use Rattle.serde_json.specs.Data.{Items}
use Rattle.serde_json.specs.View.{view}
use Rattle.serde_json.specs.Written.{compact_text, has_float}
use Rattle.cephmon_run.specs.Summary.{object_of}
use Rattle.cephmon_run.proofs.Counting.{line_is, no_float, numbers_of, numbers_view}
use Rattle.cephmon_run.proofs.summary.line_of.Goals as goal

pub returns : goal.returns
returns c = λ ns are.
    let events = c.args.events in
    let log = c.args.log in
    let k = c.args.counts in
    let seen : view c.in_ok-summary.summary ≡ object_of events (numbers_of ns) log k =
    c.in_ok-summary.ensures ∙ ap (λ (items : Items). object_of events items log k) (numbers_view c.args.last.items ns are) in
    let calm : has_float (view c.in_ok-summary.summary) ≡ false = ap has_float seen ∙ no_float events ns log k in
    let text : string_bytes c.in_ok-line.line ≡ compact_text (object_of events (numbers_of ns) log k) = c.in_ok-line.ensures.text calm ∙ ap compact_text seen in
    ap (λ (v : Vec ℕ Global). v.items) c.into_bytes.ensures.value ∙ c.in_ok-push_str.ensures.bytes ∙ ap (λ (l : List ℕ). l ++ 10 ∷ []) text ∙ line_is events ns log k
