-- What is found in parsed arguments.
use Rattle.std.specs.Prelude.{◌≡◌, ℕ, List, [], ◌∷◌, Some, Result, Ok, Err}
use Rattle.std.specs.Borrow.{Bor}
use Rattle.clap.specs.Words.{Row, Text, first_of}
use Rattle.task_words.specs.declared.task.WordsStop.{WordsStop}
use Rattle.task_words.specs.declared.task.WordsStop.TheVariants.{Refused, OutOfMemory}

-- the first text that is found under this id
abbrev pub IsFound : List Row → Text → List ℕ → Type 0
IsFound rows id text = first_of id rows ≡ Some text

-- the texts that are found under these ids are these
abbrev pub AreTexts : List Row → List Text → List (List ℕ) → Type 0
AreTexts rows [] [] = Unit {0}
AreTexts rows (id ∷ ids) (text ∷ texts) = IsFound rows id text × AreTexts rows ids texts
AreTexts rows [] (text ∷ texts) = ⊥
AreTexts rows (id ∷ ids) [] = ⊥

-- the text was found
abbrev pub IsText : List ℕ → Result (Bor (List ℕ)) WordsStop → Type 0
IsText text (Ok found) = found.now ≡ text
IsText text (Err e) = ⊥

-- it is this, unless memory ran out
abbrev pub IsGiven : {A : Type 0} → A → Result A WordsStop → Type 0
IsGiven x (Ok y) = y ≡ x
IsGiven x (Err Refused) = ⊥
IsGiven x (Err OutOfMemory) = Unit {0}
