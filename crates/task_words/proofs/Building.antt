-- What the command is, as it is built up.
use Rattle.std.proofs.Common.{◌≡◌, ℕ, ◌+◌, ◌<◌, Bool, true, false, ◌||◌, List, [], ◌∷◌, ◌++◌, length, map, take, get_or, codes, refl, sym, ap, ◌∙◌}
use Rattle.std.specs.Borrow.{Bor}
use Rattle.std.proofs.lemmas.List.{map-append, take_more}
use Rattle.clap.specs.Built.{AddsArg}
use Rattle.clap.specs.Simple.{App, app_of, app_of_fields, new_app, new_rule, on_top, with_rule}
use Rattle.clap.specs.Walk.{Rule, Text, rule_of}
use Rattle.clap.specs.declared.builder.arg.Arg.{Arg}
use Rattle.clap.specs.declared.builder.command.Command.{Command}
use Rattle.clap.specs.declared.builder.command.Command.TheViews.{out-Command}
use Rattle.task_words.specs.Commands.{plain, required, with_required}

-- ---- the texts of a subcommand

one_more : (a : App) (ids : List Text) (id : Text) → with_required a (ids ++ id ∷ []) ≡ with_rule (with_required a ids) (required id)
one_more a [] id = refl
one_more a (x ∷ ids) id = one_more (with_rule a (required x)) ids id

-- the texts of the first this many
abbrev pub first_texts : ℕ → List (Bor Text) → List Text
first_texts i texts = map (λ t. t.now) (take i texts)

next_text : (texts : List (Bor Text)) (i : ℕ) (d : Bor Text) → i < length texts → first_texts (i + 1) texts ≡ first_texts i texts ++ (get_or texts i d).now ∷ []
next_text texts i d low =
    ap (λ (ts : List (Bor Text)). map (λ t. t.now) ts) (take_more texts i d low) ∙ map-append (λ (t : Bor Text). t.now) (take i texts) (get_or texts i d ∷ [])

pub text_added : (old new : Command) (name : Text) (texts : List (Bor Text)) (i : ℕ) (d : Bor Text) (made arg : Arg) → i < length texts
    → app_of old ≡ with_required (new_app name) (first_texts i texts) → rule_of made ≡ new_rule (get_or texts i d).now → made.global ≡ false
    → arg ≡ record made { required = true } → AddsArg old arg new → app_of new ≡ with_required (new_app name) (first_texts (i + 1) texts)
text_added old new name texts i d made arg low so_far rule own is adds =
    adds.shape (ap (λ (a : Arg). a.global) is ∙ own)
    ∙ ap (with_rule (app_of old)) (ap rule_of is ∙ ap (λ (r : Rule). record r { required = true }) rule)
    ∙ ap (λ (a : App). with_rule a (required (get_or texts i d).now)) so_far
    ∙ sym (one_more (new_app name) (first_texts i texts) (get_or texts i d).now)
    ∙ ap (with_required (new_app name)) (sym (next_text texts i d low))

pub stays_local : (old new : Command) (made arg : Arg) → (out-Command old).has_globals ≡ false → made.global ≡ false → arg ≡ record made { required = true } → AddsArg old arg new
    → (out-Command new).has_globals ≡ false
stays_local old new made arg none own is adds =
    adds.globals ∙ ap (λ (b : Bool). b || arg.global) none ∙ ap (λ (a : Arg). a.global) is ∙ own

-- ---- the command with no form of help or version

pub plain_is : (a b c d e : Command) → app_of a ≡ new_app (codes "cephmon") → out-Command b ≡ record (out-Command a) { no_binary_name = true }
    → out-Command c ≡ record (out-Command b) { disable_help_flag = true } → out-Command d ≡ record (out-Command c) { disable_help_subcommand = true }
    → out-Command e ≡ record (out-Command d) { disable_version_flag = true } → app_of e ≡ plain
plain_is a b c d e named first second third fourth =
    ap app_of_fields fourth
    ∙ ap (λ (x : App). on_top (λ s. record s { disable_version_flag = true }) x) (ap app_of_fields third)
    ∙ ap (λ (x : App). on_top (λ s. record s { disable_version_flag = true; disable_help_subcommand = true }) x) (ap app_of_fields second)
    ∙ ap (λ (x : App). on_top (λ s. record s { disable_version_flag = true; disable_help_subcommand = true; disable_help_flag = true }) x) (ap app_of_fields first)
    ∙ ap (λ (x : App). on_top (λ s. record s { disable_version_flag = true; disable_help_subcommand = true; disable_help_flag = true; no_binary_name = true }) x) named
