use Rattle.std.proofs.Common.{arith}
use Rattle.mon_tx.proofs.Words.{is_word_by}
use Rattle.mon_tx.proofs.fields.word_at.Goals as goal

pub returns-clause-word : goal.returns-clause-word
returns-clause-word c =
    is_word_by c.args.limit c.in_ok-bytes.bytes.now (omega (arith, c.in_ok-bytes.ensures.len)) (omega (arith, c.in_ok-bytes.ensures.len)) (omega (arith, c.graphic_prefix_len-good.ensures.value))
