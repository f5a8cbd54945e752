use Rattle.std.proofs.Common.{map, string_bytes, refl, sym, ◌∙◌}
use Rattle.election_rules.specs.declared.rule.Rule.{Rule}
use Rattle.schedule_text.specs.Encoding.{RuleFits, rule_text}
use Rattle.task_words.proofs.AskedLaws.{node_without_addresses, node_without_rule, reflects_node}
use Rattle.task_words.proofs.NumberLaws.{parsed_none, parsed_some}
use Rattle.task_words.proofs.Parsed.{seven_texts}
use Rattle.task_words.proofs.asked.asks_node.Goals as goal

pub returns-then-is_none : goal.returns-then-is_none
returns-then-is_none c =
    let files = seven_texts c.args.texts.now c.rank-item.result c.monitors-item.result c.rule-item.result c.addresses-item.result c.turns-item.result c.as_bytes.result.now c.as_bytes-2.result.now c.as_bytes-3.result.now (string_bytes c.addresses-item.result) (string_bytes c.turns-item.result) c.in-len7.len_at_least c.in-len7.len_below
    c.rank-item.is c.monitors-item.is c.rule-item.is c.addresses-item.is c.turns-item.is (c.as_bytes.ensures.value ∙ c.as_str.ensures.value) (c.as_bytes-2.ensures.value ∙ c.as_str-2.ensures.value) (c.as_bytes-3.ensures.value ∙ c.as_str-3.ensures.value) refl refl in
    node_without_rule (map string_bytes c.args.texts.now) c.as_bytes.result.now c.as_bytes-2.result.now c.as_bytes-3.result.now (string_bytes c.addresses-item.result) (string_bytes c.turns-item.result) files c.in-Some.member c.in-Some.ensures.parsed.0 c.in-Some.ensures.parsed.1
    (parsed_none Rule rule_text (RuleFits c.in-Some.member.monitors) c.as_bytes-3.result.now c.rule_in.result c.is_none.result c.rule_in.ensures c.is_none.ensures c.if-is_none.true)

pub returns-then-not-are_addresses : goal.returns-then-not-are_addresses
returns-then-not-are_addresses c =
    let files = seven_texts c.args.texts.now c.rank-item.result c.monitors-item.result c.rule-item.result c.addresses-item.result c.turns-item.result c.as_bytes.result.now c.as_bytes-2.result.now c.as_bytes-3.result.now c.as_bytes-4.result.now (string_bytes c.turns-item.result) c.in-len7.len_at_least c.in-len7.len_below
    c.rank-item.is c.monitors-item.is c.rule-item.is c.addresses-item.is c.turns-item.is (c.as_bytes.ensures.value ∙ c.as_str.ensures.value) (c.as_bytes-2.ensures.value ∙ c.as_str-2.ensures.value) (c.as_bytes-3.ensures.value ∙ c.as_str-3.ensures.value) (c.as_bytes-4.ensures.value ∙ c.as_str-4.ensures.value) refl in
    node_without_addresses (map string_bytes c.args.texts.now) c.as_bytes.result.now c.as_bytes-2.result.now c.as_bytes-3.result.now c.as_bytes-4.result.now (string_bytes c.turns-item.result) files c.in-Some.member c.in-Some.ensures.parsed.0 c.in-Some.ensures.parsed.1
    (sym c.are_addresses.ensures ∙ c.if-not-are_addresses.true)

pub returns : goal.returns
returns c =
    let files = seven_texts c.args.texts.now c.rank-item.result c.monitors-item.result c.rule-item.result c.addresses-item.result c.turns-item.result c.as_bytes.result.now c.as_bytes-2.result.now c.as_bytes-3.result.now c.as_bytes-4.result.now c.as_bytes-5.result.now c.in-len7.len_at_least c.in-len7.len_below
    c.rank-item.is c.monitors-item.is c.rule-item.is c.addresses-item.is c.turns-item.is (c.as_bytes.ensures.value ∙ c.as_str.ensures.value) (c.as_bytes-2.ensures.value ∙ c.as_str-2.ensures.value) (c.as_bytes-3.ensures.value ∙ c.as_str-3.ensures.value) (c.as_bytes-4.ensures.value ∙ c.as_str-4.ensures.value) (c.as_bytes-5.ensures.value ∙ c.as_str-5.ensures.value) in
    let rule = parsed_some Rule rule_text (RuleFits c.in-Some.member.monitors) c.as_bytes-3.result.now c.rule_in.result c.is_none.result c.rule_in.ensures c.is_none.ensures c.if-is_none.false in
    reflects_node (map string_bytes c.args.texts.now) c.as_bytes.result.now c.as_bytes-2.result.now c.as_bytes-3.result.now c.as_bytes-4.result.now c.as_bytes-5.result.now files c.in-Some.member c.in-Some.ensures.parsed.0 c.in-Some.ensures.parsed.1
    rule.0 c.number_of.result c.is_some.result rule.1.1 rule.1.0 (sym c.are_addresses.ensures ∙ c.if-not-are_addresses.false) c.number_of.ensures c.is_some.ensures
