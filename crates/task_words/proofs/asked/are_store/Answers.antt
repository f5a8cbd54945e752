use Rattle.std.proofs.Common.{map, string_bytes, ◌∙◌}
use Rattle.task_words.proofs.AskedLaws.{reflects_store}
use Rattle.task_words.proofs.Parsed.{four_texts}
use Rattle.task_words.proofs.asked.are_store.Goals as goal

pub returns : goal.returns
returns c =
    let files = four_texts c.args.texts.now c.rank-item.result c.monitors-item.result c.as_bytes.result.now c.as_bytes-2.result.now c.in-len4.len_at_least c.in-len4.len_below
    c.rank-item.is c.monitors-item.is (c.as_bytes.ensures.value ∙ c.as_str.ensures.value) (c.as_bytes-2.ensures.value ∙ c.as_str-2.ensures.value) in
    reflects_store (map string_bytes c.args.texts.now) c.as_bytes.result.now c.as_bytes-2.result.now files c.member_of.result c.is_some.result
    c.member_of.ensures.parsed c.member_of.ensures.none c.is_some.ensures
