-- The command takes the arguments of each task, and finds each text under its name.
use Rattle.std.proofs.Common.{◌≡◌, true, false, List, [], ◌∷◌, Option, Some, IsTrue, codes, decimal, refl, ap, subst, ◌∙◌}
use Rattle.std.specs.Prelude.{fold, find, option_map}
use Rattle.std.specs.List.{list_all}
use Rattle.mon_bytes.proofs.Ascii.{both}
use Rattle.clap.specs.Simple.{App, Shape, built, built_leaf, entered, inherited, is_simple, label_of, marked_built, names_of, on_top, rows_at, subcommand_of, with_leaf_noted}
use Rattle.clap.specs.Takes.{built_takes, default_passes, is_valid, level_passes, settle_passes, takes, turn_passes, walk_passes}
use Rattle.clap.specs.Walk.{Row, answers_to, Text, Walk, finished, nothing_held, rows_after, stop_after, walk, walk_from, walked}
use Rattle.clap.proofs.OnLiterals.{clap_on_literals}
use Rattle.schedule_text.specs.Encoding.{rule_text}
use Rattle.schedule_text.specs.Words.{service_text}
use Rattle.task_words.specs.declared.task.Task.{Task}
use Rattle.task_words.specs.declared.task.Task.TheVariants as task
use Rattle.task_words.specs.Addresses.{addresses_text}
use Rattle.task_words.specs.Commands.{command, no_texts, store_texts, subcommand}
use Rattle.task_words.specs.Matches.{AreTexts}
use Rattle.task_words.specs.Task.{is_word, words_of}
use Rattle.task_words.proofs.TaskKinds.{Kind, Replays, Makes, Serves, Follows, Scrubs, Compares, DumpsKeys, DumpsPaxos, Exports, Imports, ids_by, kind_of, name_by, name_of, texts_of, words_are}
use Rattle.task_words.proofs.Parsing.{Goes, placed, stopped_at, stopped_passes, stopped_walk, walk_goes, walk_placed}

-- ---- one level

-- what a subcommand asks for beside its arguments
pub record EndsWell (s : Shape) (words : List Text) : Type 0 where
  pub goes : Goes s (walk_from nothing_held) words
  pub settles : settle_passes s.rules s.args_override_self (placed s.rules (walk_from nothing_held) words).held ≡ true
  pub defaults : list_all default_passes s.rules ≡ true
  pub valid : is_valid s (finished s.rules (placed s.rules (walk_from nothing_held) words).held) false ≡ true

pub leaf_takes : (s : Shape) (words : List Text) → IsTrue (list_all is_word words) → EndsWell s words → level_passes s [] nothing_held words false ≡ true
leaf_takes s words each well =
    let end = walk_placed s (walk_from nothing_held) words well.goes each in
    rw (walk_goes s (walk_from nothing_held) words well.goes each, end, well.settles, well.defaults, well.valid) refl

pub leaf_rows : (s : Shape) (words : List Text) → IsTrue (list_all is_word words) → EndsWell s words
    → rows_after s.rules [] words ≡ finished s.rules (placed s.rules (walk_from nothing_held) words).held
leaf_rows s words each well = ap (λ (w : Walk). finished s.rules w.held) (walk_placed s (walk_from nothing_held) words well.goes each)

-- ---- the command

pub simple : is_simple command ≡ true
unfolding clap_on_literals
simple = refl

abbrev pub top : App
top = built command

-- What meets a subcommand: the command's walk stops at its name, and it is found by it.
pub record Meets (name : Text) (s : Shape) : Type 0 where
  pub stops : walked top.top.rules (names_of top) (walk_from nothing_held) name ≡ stopped_at (walk_from nothing_held) name []
  pub passes : turn_passes top.top (names_of top) (walk_from nothing_held) name ≡ true
  pub found : find (λ s. answers_to name (label_of s)) top.subs ≡ Some s

module _ (name : Text) (s : Shape) (words : List Text) (meets : Meets name s) (each : IsTrue (list_all is_word words)) (well : EndsWell s words) where
  walk_stops : walk top.top.rules (names_of top) nothing_held (name ∷ words) ≡ stopped_at (walk_from nothing_held) name words
  walk_stops =
      ap (λ (v : Walk). fold (walked top.top.rules (names_of top)) v words) meets.stops
      ∙ stopped_walk top.top.rules (names_of top) (walk_from nothing_held) name [] words

  walk_passes_all : walk_passes top.top (names_of top) (walk_from nothing_held) (name ∷ words) ≡ true
  unfolding walk_passes
  walk_passes_all =
      let rest : walk_passes top.top (names_of top) (walked top.top.rules (names_of top) (walk_from nothing_held) name) words ≡ true =
      ap (λ (v : Walk). walk_passes top.top (names_of top) v words) meets.stops
      ∙ stopped_passes top.top (names_of top) (walk_from nothing_held) name [] words in
      rw meets.passes rest

  pub takes_words : built_takes top nothing_held (name ∷ words) ≡ true
  takes_words = rw (walk_stops, meets.found, walk_passes_all, leaf_takes s words each well) refl

  pub finds_rows : entered top (stop_after top.top.rules (names_of top) (name ∷ words))
      ≡ Some (s.name, finished s.rules (placed s.rules (walk_from nothing_held) words).held)
  finds_rows =
      ap (λ (w : Walk). entered top w.stopped) walk_stops
      ∙ ap (λ (o : Option Shape). option_map (λ s. rows_at s words) o) meets.found
      ∙ ap (λ (rows : List Row). Some (s.name, rows)) (leaf_rows s words each well)

-- ---- the subcommands, as they are built

abbrev pub leaf : Text → List Text → Shape
leaf name ids = built_leaf (inherited (on_top with_leaf_noted (on_top marked_built command)).top (subcommand name ids))

abbrev pub leaf_by : Kind → Shape
leaf_by k = leaf (name_by k) (ids_by k)

meets_by : (k : Kind) → Meets (name_by k) (leaf_by k)
unfolding clap_on_literals
meets_by Replays = record { stops = refl; passes = refl; found = refl }
meets_by Makes = record { stops = refl; passes = refl; found = refl }
meets_by Serves = record { stops = refl; passes = refl; found = refl }
meets_by Follows = record { stops = refl; passes = refl; found = refl }
meets_by Scrubs = record { stops = refl; passes = refl; found = refl }
meets_by Compares = record { stops = refl; passes = refl; found = refl }
meets_by DumpsKeys = record { stops = refl; passes = refl; found = refl }
meets_by DumpsPaxos = record { stops = refl; passes = refl; found = refl }
meets_by Exports = record { stops = refl; passes = refl; found = refl }
meets_by Imports = record { stops = refl; passes = refl; found = refl }

well_none : (name : Text) → EndsWell (leaf name no_texts) []
well_none name = record { goes = tt; settles = refl; defaults = refl; valid = refl }

well_made : (a b : Text) → EndsWell (leaf_by Makes) (a ∷ b ∷ [])
well_made a b = record { goes = (refl, refl, (refl, refl, tt)); settles = refl; defaults = refl; valid = refl }

well_node : (a b c d e f g : Text) → EndsWell (leaf_by Serves) (a ∷ b ∷ c ∷ d ∷ e ∷ f ∷ g ∷ [])
well_node a b c d e f g = record {
  goes = (refl, refl, (refl, refl, (refl, refl, (refl, refl, (refl, refl, (refl, refl, (refl, refl, tt)))))));
  settles = refl;
  defaults = refl;
  valid = refl;
}

well_follow : (a b c : Text) → EndsWell (leaf_by Follows) (a ∷ b ∷ c ∷ [])
well_follow a b c = record { goes = (refl, refl, (refl, refl, (refl, refl, tt))); settles = refl; defaults = refl; valid = refl }

well_store : (name a b c d : Text) → EndsWell (leaf name store_texts) (a ∷ b ∷ c ∷ d ∷ [])
well_store name a b c d = record { goes = (refl, refl, (refl, refl, (refl, refl, (refl, refl, tt)))); settles = refl; defaults = refl; valid = refl }

well_versions : (a b c d e f : Text) → EndsWell (leaf_by DumpsPaxos) (a ∷ b ∷ c ∷ d ∷ e ∷ f ∷ [])
well_versions a b c d e f = record {
  goes = (refl, refl, (refl, refl, (refl, refl, (refl, refl, (refl, refl, (refl, refl, tt))))));
  settles = refl;
  defaults = refl;
  valid = refl;
}

-- ---- the arguments of a task

abbrev pub leaf_of : Task → Shape
leaf_of t = leaf_by (kind_of t)

well_of : (t : Task) → EndsWell (leaf_of t) (texts_of t)
well_of task.Replay = well_none (codes "replay")
well_of (task.Made number events) = well_made (decimal number) (decimal events)
well_of (task.Node member rule addresses disk_a disk_b turns) =
    well_node (decimal member.rank) (decimal member.monitors) (rule_text rule) (addresses_text addresses) disk_a disk_b (decimal turns)
well_of (task.Follow service addresses turns) = well_follow (service_text service) (addresses_text addresses) (decimal turns)
well_of (task.Scrub member disk_a disk_b) = well_store (codes "scrub") (decimal member.rank) (decimal member.monitors) disk_a disk_b
well_of task.ScrubCompare = well_none (codes "scrub-compare")
well_of (task.DumpKeys member disk_a disk_b) = well_store (codes "dump-keys") (decimal member.rank) (decimal member.monitors) disk_a disk_b
well_of (task.DumpPaxos member disk_a disk_b from to) = well_versions (decimal member.rank) (decimal member.monitors) disk_a disk_b (decimal from) (decimal to)
well_of (task.StoreExport member disk_a disk_b) = well_store (codes "store-export") (decimal member.rank) (decimal member.monitors) disk_a disk_b
well_of (task.StoreImport member disk_a disk_b) = well_store (codes "store-import") (decimal member.rank) (decimal member.monitors) disk_a disk_b

-- the rows that are found
abbrev pub rows_of_task : Task → List Row
rows_of_task t = finished (leaf_of t).rules (placed (leaf_of t).rules (walk_from nothing_held) (texts_of t)).held

each_text : (t : Task) → IsTrue (list_all is_word (words_of t)) → IsTrue (list_all is_word (texts_of t))
each_text t each = (both (is_word (name_of t)) (list_all is_word (texts_of t)) (subst (λ (ws : List Text). IsTrue (list_all is_word ws)) (words_are t) each)).1

pub takes_task : (t : Task) → IsTrue (list_all is_word (words_of t)) → takes command (words_of t) ≡ true
takes_task t each =
    ap (takes command) (words_are t) ∙ rw (simple, takes_words (name_of t) (leaf_of t) (texts_of t) (meets_by (kind_of t)) (each_text t each) (well_of t)) refl

pub finds_task : (t : Task) → IsTrue (list_all is_word (words_of t)) → subcommand_of command (words_of t) ≡ Some ((leaf_of t).name, rows_of_task t)
finds_task t each =
    ap (subcommand_of command) (words_are t) ∙ finds_rows (name_of t) (leaf_of t) (texts_of t) (meets_by (kind_of t)) (each_text t each) (well_of t)

-- each text stands under its name
pub finds_texts : (t : Task) → AreTexts (rows_of_task t) (ids_by (kind_of t)) (texts_of t)
finds_texts task.Replay = tt
finds_texts (task.Made number events) = (refl, (refl, tt))
finds_texts (task.Node member rule addresses disk_a disk_b turns) = (refl, (refl, (refl, (refl, (refl, (refl, (refl, tt)))))))
finds_texts (task.Follow service addresses turns) = (refl, (refl, (refl, tt)))
finds_texts (task.Scrub member disk_a disk_b) = (refl, (refl, (refl, (refl, tt))))
finds_texts task.ScrubCompare = tt
finds_texts (task.DumpKeys member disk_a disk_b) = (refl, (refl, (refl, (refl, tt))))
finds_texts (task.DumpPaxos member disk_a disk_b from to) = (refl, (refl, (refl, (refl, (refl, (refl, tt))))))
finds_texts (task.StoreExport member disk_a disk_b) = (refl, (refl, (refl, (refl, tt))))
finds_texts (task.StoreImport member disk_a disk_b) = (refl, (refl, (refl, (refl, tt))))
