use Rattle.std.proofs.Common.{ℕ, List, ◌+◌, ap, map, string_bytes, refl, sym, ◌∙◌}
use Rattle.mon_wire.specs.declared.request.Service.{Service}
use Rattle.schedule_text.specs.Words.{service_text}
use Rattle.task_words.specs.Addresses.{commas}
use Rattle.task_words.proofs.AskedLaws.{follow_of_many, follow_without_addresses, follow_without_service, reflects_follow}
use Rattle.task_words.proofs.NumberLaws.{parsed_none, parsed_some}
use Rattle.task_words.proofs.Parsed.{three_texts}
use Rattle.task_words.proofs.asked.asks_follow.Goals as goal

pub returns-then-is_none : goal.returns-then-is_none
returns-then-is_none c =
    let are = three_texts c.args.texts.now c.service-item.result c.addresses-item.result c.turns-item.result c.as_str.result.now (string_bytes c.addresses-item.result) (string_bytes c.turns-item.result) c.in-len3.len_at_least c.in-len3.len_below
    c.service-item.is c.addresses-item.is c.turns-item.is c.as_str.ensures.value refl refl in
    follow_without_service (map string_bytes c.args.texts.now) c.as_str.result.now (string_bytes c.addresses-item.result) (string_bytes c.turns-item.result) are
    (parsed_none Service service_text (λ _. Unit {0}) c.as_str.result.now c.service_in.result c.is_none.result c.service_in.ensures c.is_none.ensures c.if-is_none.true)

pub returns-in_default-count_of : goal.returns-in_default-count_of
returns-in_default-count_of c =
    let are = three_texts c.args.texts.now c.service-item.result c.addresses-item.result c.turns-item.result c.as_str.result.now c.as_bytes.result.now (string_bytes c.turns-item.result) c.in-len3.len_at_least c.in-len3.len_below
    c.service-item.is c.addresses-item.is c.turns-item.is c.as_str.ensures.value (c.as_bytes.ensures.value ∙ c.as_str-2.ensures.value) refl in
    follow_of_many (map string_bytes c.args.texts.now) c.as_str.result.now c.as_bytes.result.now (string_bytes c.turns-item.result) are (c.in_default-count_of.ensures.none refl)

pub returns-then-not-are_addresses : goal.returns-then-not-are_addresses
returns-then-not-are_addresses c =
    let are = three_texts c.args.texts.now c.service-item.result c.addresses-item.result c.turns-item.result c.as_str.result.now c.as_bytes-2.result.now (string_bytes c.turns-item.result) c.in-len3.len_at_least c.in-len3.len_below
    c.service-item.is c.addresses-item.is c.turns-item.is c.as_str.ensures.value (c.as_bytes-2.ensures.value ∙ c.as_str-3.ensures.value) refl in
    follow_without_addresses (map string_bytes c.args.texts.now) c.as_str.result.now c.as_bytes-2.result.now (string_bytes c.turns-item.result) are c.in-Some.monitors
    (c.in-Some.ensures.some.1 ∙ ap (λ (t : List ℕ). commas t + 1) (c.as_bytes.ensures.value ∙ c.as_str-2.ensures.value ∙ sym (c.as_bytes-2.ensures.value ∙ c.as_str-3.ensures.value))) (sym c.are_addresses.ensures ∙ c.if-not-are_addresses.true)

pub returns : goal.returns
returns c =
    let are = three_texts c.args.texts.now c.service-item.result c.addresses-item.result c.turns-item.result c.as_str.result.now c.as_bytes-2.result.now c.as_bytes-3.result.now c.in-len3.len_at_least c.in-len3.len_below
    c.service-item.is c.addresses-item.is c.turns-item.is c.as_str.ensures.value (c.as_bytes-2.ensures.value ∙ c.as_str-3.ensures.value) (c.as_bytes-3.ensures.value ∙ c.as_str-4.ensures.value) in
    let service = parsed_some Service service_text (λ _. Unit {0}) c.as_str.result.now c.service_in.result c.is_none.result c.service_in.ensures c.is_none.ensures c.if-is_none.false in
    reflects_follow (map string_bytes c.args.texts.now) c.as_str.result.now c.as_bytes-2.result.now c.as_bytes-3.result.now are service.0 c.in-Some.monitors c.number_of.result c.is_some.result
    service.1.0 (c.in-Some.ensures.some.1 ∙ ap (λ (t : List ℕ). commas t + 1) (c.as_bytes.ensures.value ∙ c.as_str-2.ensures.value ∙ sym (c.as_bytes-2.ensures.value ∙ c.as_str-3.ensures.value))) c.in-Some.ensures.some.0 (sym c.are_addresses.ensures ∙ c.if-not-are_addresses.false) c.number_of.ensures c.is_some.ensures
