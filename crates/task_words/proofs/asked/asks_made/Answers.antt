use Rattle.std.proofs.Common.{ℕ, ◌≤◌, ◌^◌, decimal, map, string_bytes, ◌∙◌}
use Rattle.task_words.proofs.AskedLaws.{reflects_made}
use Rattle.task_words.proofs.NumberLaws.{parsed_some}
use Rattle.task_words.proofs.Parsed.{two_texts}
use Rattle.task_words.proofs.asked.asks_made.Goals as goal

pub returns : goal.returns
returns c =
    let are = two_texts c.args.texts.now c.number-item.result c.events-item.result c.as_bytes.result.now c.as_bytes-2.result.now c.in-len2.len_at_least c.in-len2.len_below
    c.number-item.is c.events-item.is (c.as_bytes.ensures.value ∙ c.as_str.ensures.value) (c.as_bytes-2.ensures.value ∙ c.as_str-2.ensures.value) in
    let first = parsed_some ℕ decimal (λ n. (0 ≤ n) × (n ≤ 2 ^ 62)) c.as_bytes.result.now c.number_of.result c.is_none.result c.number_of.ensures c.is_none.ensures c.if-is_none.false in
    reflects_made (map string_bytes c.args.texts.now) c.as_bytes.result.now c.as_bytes-2.result.now first.0 c.number_of-2.result c.is_some.result are first.1.0 first.1.1.1
    c.number_of-2.ensures c.is_some.ensures
