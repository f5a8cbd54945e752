use Rattle.std.proofs.Common.{List, ℕ, ◌∷◌, map, string_bytes, subst, sym}
use Rattle.task_words.specs.Task.{ParsesTask}
use Rattle.task_words.specs.Words.{Reflects}
use Rattle.task_words.proofs.AskedLaws.{reflects_compare, reflects_export, reflects_import, reflects_keys, reflects_replay, reflects_scrub}
use Rattle.task_words.proofs.asked.asks.Goals as goal

pub returns-in-scrub : goal.returns-in-scrub
returns-in-scrub c =
    subst (λ (name : List ℕ). Reflects c.are_store.result (ParsesTask (name ∷ map string_bytes c.args.texts.now))) (sym c.in-scrub.is)
    (reflects_scrub (map string_bytes c.args.texts.now) c.are_store.result c.are_store.ensures)

pub returns-in-text-2 : goal.returns-in-text-2
returns-in-text-2 c =
    subst (λ (name : List ℕ). Reflects c.are_store-in-text-2.result (ParsesTask (name ∷ map string_bytes c.args.texts.now))) (sym c.in-text-2.is)
    (reflects_keys (map string_bytes c.args.texts.now) c.are_store-in-text-2.result c.are_store-in-text-2.ensures)

pub returns-in-text-4 : goal.returns-in-text-4
returns-in-text-4 c =
    subst (λ (name : List ℕ). Reflects c.are_store-in-text-4.result (ParsesTask (name ∷ map string_bytes c.args.texts.now))) (sym c.in-text-4.is)
    (reflects_export (map string_bytes c.args.texts.now) c.are_store-in-text-4.result c.are_store-in-text-4.ensures)

pub returns-in-text-5 : goal.returns-in-text-5
returns-in-text-5 c =
    subst (λ (name : List ℕ). Reflects c.are_store-in-text-5.result (ParsesTask (name ∷ map string_bytes c.args.texts.now))) (sym c.in-text-5.is)
    (reflects_import (map string_bytes c.args.texts.now) c.are_store-in-text-5.result c.are_store-in-text-5.ensures)

pub returns-in-replay : goal.returns-in-replay
returns-in-replay c =
    subst (λ (name : List ℕ). Reflects c.is_empty.result (ParsesTask (name ∷ map string_bytes c.args.texts.now))) (sym c.in-replay.is)
    (reflects_replay c.args.texts.now c.is_empty.result c.is_empty.ensures)

pub returns-in-text : goal.returns-in-text
returns-in-text c =
    subst (λ (name : List ℕ). Reflects c.is_empty-in-text.result (ParsesTask (name ∷ map string_bytes c.args.texts.now))) (sym c.in-text.is)
    (reflects_compare c.args.texts.now c.is_empty-in-text.result c.is_empty-in-text.ensures)
