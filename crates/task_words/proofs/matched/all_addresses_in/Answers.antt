use Rattle.std.proofs.Common.{refl, ◌∙◌, arith}
use Rattle.task_words.specs.Addresses.{addresses_text}
use Rattle.task_words.proofs.Given.{count_is, not_many}
use Rattle.task_words.proofs.matched.all_addresses_in.Goals as goal

pub returns-in-Some : goal.returns-in-Some
returns-in-Some c = λ addresses least most each found.
    c.addresses_in.ensures addresses (omega (arith, c.in-Some.ensures.some.1)) (count_is c.as_bytes.result.now c.in-Some.monitors addresses c.in-Some.ensures.some.1 least each
    (c.as_bytes.ensures.value ∙ c.in_ok-text.ensures (addresses_text addresses) found)) each found

pub returns-in-None : goal.returns-in-None
returns-in-None c = λ addresses least most each found.
    absurd (not_many c.as_bytes.result.now addresses (c.in-None.ensures.none refl) least most each (c.as_bytes.ensures.value ∙ c.in_ok-text.ensures (addresses_text addresses) found))
