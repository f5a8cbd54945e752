use Rattle.std.proofs.Common.{ℕ, ◌∷◌, List, map, string_bytes, sym, ap, ◌∙◌}
use Rattle.task_words.proofs.AskedLaws.{no_words, reflects_asked}
use Rattle.task_words.proofs.asked.is_asked.Goals as goal

pub returns-then-not-are_words : goal.returns-then-not-are_words
returns-then-not-are_words c = no_words c.args.words.now c.are_words.result c.are_words.ensures c.if-not-are_words.true

pub returns : goal.returns
returns c =
    reflects_asked c.args.words.now (c.as_str.result.now ∷ map string_bytes c.in-Some.texts.now) c.are_words.result c.asks.result c.are_words.ensures c.if-not-are_words.false
    (ap (map string_bytes) c.in-Some.ensures.cases.0 ∙ ap (λ (w : List ℕ). w ∷ map string_bytes c.in-Some.texts.now) (sym c.as_str.ensures.value)) c.asks.ensures
