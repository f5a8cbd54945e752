-- The command that parses the arguments: its subcommands, each with the texts that it requires.
use Rattle.std.specs.Prelude.{true, List, [], ◌∷◌, codes}
use Rattle.clap.specs.Words.{App, Rule, Shape, Text, new_app, new_rule, with_rule, with_subcommand}

-- a text that is required, at its place
abbrev pub required : Text → Rule
required id = record (new_rule id) { required = true }

abbrev pub with_required : App → List Text → App
with_required a [] = a
with_required a (id ∷ ids) = with_required (with_rule a (required id)) ids

abbrev pub subcommand : Text → List Text → Shape
subcommand name ids = (with_required (new_app name) ids).top

abbrev pub no_texts : List Text
no_texts = []

abbrev pub made_texts : List Text
made_texts = codes "NUMBER" ∷ codes "EVENTS" ∷ []

abbrev pub node_texts : List Text
node_texts =
    codes "RANK" ∷ codes "MONITORS" ∷ codes "RULE" ∷ codes "ADDRESSES" ∷ codes "DISK_A" ∷ codes "DISK_B" ∷ codes "TURNS" ∷ []

abbrev pub follow_texts : List Text
follow_texts = codes "SERVICE" ∷ codes "ADDRESSES" ∷ codes "TURNS" ∷ []

abbrev pub store_texts : List Text
store_texts = codes "RANK" ∷ codes "MONITORS" ∷ codes "DISK_A" ∷ codes "DISK_B" ∷ []

abbrev pub versions_texts : List Text
versions_texts = codes "RANK" ∷ codes "MONITORS" ∷ codes "DISK_A" ∷ codes "DISK_B" ∷ codes "FROM" ∷ codes "TO" ∷ []

-- there is no form of help or version, and the arguments are those after the program's name
abbrev pub plain : App
plain =
    let a = new_app (codes "cephmon") in
    record a { top = record a.top { no_binary_name = true; disable_help_flag = true; disable_help_subcommand = true; disable_version_flag = true } }

-- the command with one subcommand more
abbrev pub with_texts : App → Text → List Text → App
with_texts a name ids = with_subcommand a (subcommand name ids)

-- the commands for schedules and monitors
abbrev pub first_commands : App
first_commands = with_texts (with_texts (with_texts plain (codes "replay") no_texts) (codes "made") made_texts) (codes "node") node_texts

-- and those of a client and on stopped stores
abbrev pub command : App
command =
    with_texts (with_texts (with_texts (with_texts (with_texts (with_texts (with_texts first_commands
    (codes "follow") follow_texts)
    (codes "scrub") store_texts)
    (codes "scrub-compare") no_texts)
    (codes "dump-keys") store_texts)
    (codes "dump-paxos") versions_texts)
    (codes "store-export") store_texts)
    (codes "store-import") store_texts
