-- Accepted arguments are read as the task that they ask for.
use Rattle.std.proofs.Common.{◌≡◌, ℕ, Bool, true, false, List, [], ◌∷◌, Option, Some, None, Result, Ok, Err, String, string_bytes, map, refl, sym, ap, ap₂, subst, ◌∙◌}
use Rattle.std.specs.Prelude.{option_map}
use Rattle.clap.specs.Words.{App, HasMatchesOf, Row, Text, subcommand_name_of, subcommand_of, subcommand_rows_of, takes}
use Rattle.clap.specs.declared.parser.matches.ArgMatches.{ArgMatches}
use Rattle.task_words.specs.declared.task.Task.{Task}
use Rattle.task_words.specs.declared.task.Task.TheVariants as task
use Rattle.task_words.specs.declared.task.WordsStop.{WordsStop}
use Rattle.task_words.specs.declared.task.WordsStop.TheVariants.{Refused, OutOfMemory}
use Rattle.std.specs.declared.alloc.Global.{Global}
use Rattle.task_words.specs.Commands.{command}
use Rattle.task_words.specs.Matches.{AreTexts, IsGiven}
use Rattle.task_words.specs.Task.{Asks, AsksFor, HasWords, IsAsked, Reads, words_of}
use Rattle.task_words.specs.Words.{Reflects}
use Rattle.task_words.proofs.TaskKinds.{Fields, Kind, Replays, Makes, Serves, Follows, Scrubs, Compares, DumpsKeys, DumpsPaxos, Exports, Imports, ids_by, kind_named, kind_of, name_by, name_of, of_name, task_by, texts_of}
use Rattle.task_words.proofs.Matching.{finds_task, finds_texts, leaf_by, leaf_of, rows_of_task, simple, takes_task}

-- ---- what a test returns

pub told : (test : Bool) (fact : Type 0) → Reflects test fact → test ≡ true → fact
told true fact reflects is = reflects
told false fact reflects is = absurd cc

-- ---- the parse

pub own_words : (t : Task) (words : List (List ℕ)) → Asks t words → Asks t (words_of t)
own_words t words asks = subst (Asks t) asks.are asks

pub is_taken : (a : App) (t : Task) (words : List (List ℕ)) → a ≡ command → Asks t words → takes a words ≡ true
is_taken a t words is asks = ap₂ takes is asks.are ∙ takes_task t (own_words t words asks).each

-- ---- the task of what was met

map_twice : {A B C : Type 0} (f : B → C) (g : A → B) (o : Option A) → option_map f (option_map g o) ≡ option_map (λ x. f (g x)) o
map_twice f g None = refl
map_twice f g (Some x) = refl

name_found : (m : ArgMatches) → subcommand_name_of m ≡ option_map (λ p. p.0) (subcommand_rows_of m)
name_found m = sym (map_twice (λ (p : Text × List Row). p.0) _ _)

-- the name and the rows that were met are the task's
pub record Met (t : Task) (name : Text) (rows : List Row) : Type 0 where
  pub named : name ≡ name_of t
  pub found : rows ≡ rows_of_task t

same_some : {A : Type 0} (x y : A) → Some x ≡ Some y → x ≡ y
same_some x y e = cc

leaf_name : (k : Kind) → (leaf_by k).name ≡ name_by k
leaf_name Replays = refl
leaf_name Makes = refl
leaf_name Serves = refl
leaf_name Follows = refl
leaf_name Scrubs = refl
leaf_name Compares = refl
leaf_name DumpsKeys = refl
leaf_name DumpsPaxos = refl
leaf_name Exports = refl
leaf_name Imports = refl

pub is_met : (t : Task) (m : ArgMatches) (name : Text) (rows : List Row) → Asks t (words_of t) → subcommand_rows_of m ≡ subcommand_of command (words_of t)
    → Some name ≡ subcommand_name_of m → Some rows ≡ option_map (λ p. p.1) (subcommand_rows_of m) → Met t name rows
is_met t m name rows asks same named found =
    let all = same ∙ finds_task t asks.each in record {
      named = same_some name (name_of t) (named ∙ name_found m ∙ ap (option_map (λ p. p.0)) all ∙ ap (λ (n : Text). Some n) (leaf_name (kind_of t)));
      found = same_some rows (rows_of_task t) (found ∙ ap (option_map (λ p. p.1)) all);
    }

pub none_met : (t : Task) (m : ArgMatches) → Asks t (words_of t) → subcommand_rows_of m ≡ subcommand_of command (words_of t) → subcommand_name_of m ≡ None → ⊥
none_met t m asks same none =
    let some : None ≡ Some (leaf_of t).name = sym none ∙ name_found m ∙ ap (option_map (λ p. p.0)) (same ∙ finds_task t asks.each) in cc

-- what is met under a name is the texts of a task of its kind
pub record MetAs (k : Kind) (t : Task) (rows : List Row) : Type 0 where
  pub fields : Fields k
  pub is : t ≡ task_by k fields
  pub has : HasWords (task_by k fields)
  pub texts : AreTexts rows (ids_by (kind_of (task_by k fields))) (texts_of (task_by k fields))

pub met_as : (t : Task) (name met : Text) (rows : List Row) → Met t met rows → HasWords t → met ≡ name → MetAs (kind_named name) t rows
met_as t name met_name rows met has is =
    let it = of_name name t (sym is ∙ met.named) in
    let found : rows ≡ rows_of_task (task_by (kind_named name) it.0) = met.found ∙ ap rows_of_task it.1 in
    record {
      fields = it.0;
      is = it.1;
      has = subst HasWords it.1 has;
      texts = subst (λ (rs : List Row). AreTexts rs (ids_by (kind_of (task_by (kind_named name) it.0))) (texts_of (task_by (kind_named name) it.0))) (sym found) (finds_texts (task_by (kind_named name) it.0));
    }

-- what is given of the kind is given of the task
pub given_as : (t u : Task) (read : Result Task WordsStop) → t ≡ u → IsGiven u read → IsGiven t read
given_as t u read is given = subst (λ (v : Task). IsGiven v read) (sym is) given

reads_given : (words : List (String Global)) (r : Result Task WordsStop) (t : Task) → AsksFor t words → IsGiven t r → Reads r words
reads_given words (Ok u) t asks given = subst (λ (v : Task). AsksFor v words) (sym given) asks
reads_given words (Err Refused) t asks given = absurd given
reads_given words (Err OutOfMemory) t asks given = (t, asks)

-- accepted arguments are read as the task that they ask for
pub reads : (words : List (String Global)) (test : Bool) (r : Result Task WordsStop) (a : App) (m : ArgMatches) → Reflects test (IsAsked words) → test ≡ true → a ≡ command
    → HasMatchesOf a (map string_bytes words) m → ((t : Task) → Asks t (words_of t) → subcommand_rows_of m ≡ subcommand_of command (words_of t) → IsGiven t r) → Reads r words
reads words test r a m reflects holds is matches given =
    let asked = told test (IsAsked words) reflects holds in
    let rows = (subst (λ (b : App). HasMatchesOf b (map string_bytes words) m) is matches simple).1 in
    reads_given words r asked.0 asked.1 (given asked.0 (own_words asked.0 (map string_bytes words) asked.1) (rows ∙ ap (subcommand_of command) asked.1.are))
