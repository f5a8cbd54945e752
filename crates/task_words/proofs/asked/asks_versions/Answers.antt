use Rattle.std.proofs.Common.{◌≤◌, ◌^◌, map, string_bytes, refl, ◌∙◌}
use Rattle.task_words.proofs.AskedLaws.{reflects_versions, versions_without_member}
use Rattle.task_words.proofs.NumberLaws.{member_there, no_member_there}
use Rattle.task_words.proofs.Parsed.{six_texts}
use Rattle.task_words.proofs.asked.asks_versions.Goals as goal

pub returns-then-is_none : goal.returns-then-is_none
returns-then-is_none c =
    let files = six_texts c.args.texts.now c.rank-item.result c.monitors-item.result c.from-item.result c.to-item.result c.as_bytes.result.now c.as_bytes-2.result.now (string_bytes c.from-item.result) (string_bytes c.to-item.result) c.in-len6.len_at_least c.in-len6.len_below
    c.rank-item.is c.monitors-item.is c.from-item.is c.to-item.is (c.as_bytes.ensures.value ∙ c.as_str.ensures.value) (c.as_bytes-2.ensures.value ∙ c.as_str-2.ensures.value) refl refl in
    versions_without_member (map string_bytes c.args.texts.now) c.as_bytes.result.now c.as_bytes-2.result.now (string_bytes c.from-item.result) (string_bytes c.to-item.result) files
    (c.member_of.ensures.none (no_member_there c.member_of.result c.is_none.result c.is_none.ensures c.if-is_none.true))

pub returns : goal.returns
returns c =
    let files = six_texts c.args.texts.now c.rank-item.result c.monitors-item.result c.from-item.result c.to-item.result c.as_bytes.result.now c.as_bytes-2.result.now c.as_bytes-4.result.now c.as_bytes-3.result.now c.in-len6.len_at_least c.in-len6.len_below
    c.rank-item.is c.monitors-item.is c.from-item.is c.to-item.is (c.as_bytes.ensures.value ∙ c.as_str.ensures.value) (c.as_bytes-2.ensures.value ∙ c.as_str-2.ensures.value) (c.as_bytes-4.ensures.value ∙ c.as_str-4.ensures.value) (c.as_bytes-3.ensures.value ∙ c.as_str-3.ensures.value) in
    let member = member_there c.as_bytes.result.now c.as_bytes-2.result.now c.member_of.result c.is_none.result c.member_of.ensures.parsed c.is_none.ensures c.if-is_none.false in
    reflects_versions (map string_bytes c.args.texts.now) c.as_bytes.result.now c.as_bytes-2.result.now c.as_bytes-4.result.now c.as_bytes-3.result.now files member.0 c.in-Some.to c.number_of-2.result c.is_some.result
    member.1.0 member.1.1 c.in-Some.ensures.0 c.in-Some.ensures.1.1 c.number_of-2.ensures c.is_some.ensures
