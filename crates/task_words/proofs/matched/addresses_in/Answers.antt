use Rattle.std.proofs.Common.{◌∙◌}
use Rattle.task_words.proofs.Given.{addresses_given}
use Rattle.task_words.specs.Addresses.{addresses_text}
use Rattle.task_words.proofs.matched.addresses_in.Goals as goal

pub returns : goal.returns
returns c = λ addresses some count each found.
    addresses_given c.args.monitors c.as_bytes.result.now c.addresses_of.result addresses c.addresses_of.ensures.read c.addresses_of.ensures.refused some count each
    (c.as_bytes.ensures.value ∙ c.in_ok-text.ensures (addresses_text addresses) found)
