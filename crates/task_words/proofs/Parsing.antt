-- How a command with required texts alone takes arguments, none of which begins with a hyphen.
use Rattle.std.proofs.Common.{◌≡◌, ℕ, Bool, true, false, not, ◌&&◌, ◌==◌, List, [], ◌∷◌, ◌++◌, Some, None, IsTrue, refl, sym, ap, ◌∙◌, arith, append_assoc}
use Rattle.std.specs.Prelude.{fold}
use Rattle.std.specs.List.{list_all}
use Rattle.std.proofs.lemmas.List.{append-nil}
use Rattle.std.proofs.lemmas.Bool.Decides.{nat_tests}
use Rattle.mon_bytes.proofs.Ascii.{both}
use Rattle.clap.specs.Simple.{Shape}
use Rattle.clap.specs.Takes.{step_passes, turn_passes, walk_passes}
use Rattle.clap.specs.Walk.{Held, Names, Rule, Text, Walk, arg_by_index, idle, to_positional, value, walked}
use Rattle.task_words.specs.Task.{is_word}

abbrev pub at : Held → ℕ → Walk
at h p = record { held = h; waiting = idle; position = p; is_trailing = false; stopped = None }

no_hyphen : (b : ℕ) (long : Bool) → IsTrue (not (b == 45) && long) → (b == 45) ≡ false
no_hyphen b long h = let p = both (not (b == 45)) long h in grind (arith, nat_tests)

-- an argument that is no flag and names no subcommand goes to the next place
goes : (c : List Rule) (h : Held) (p : ℕ) (word : Text) → IsTrue (is_word word) → walked c [] (at h p) word ≡ to_positional c (arg_by_index c p) word (at h p) h
unfolding walked
goes c h p [] is = absurd cc
goes c h p (b ∷ bytes) is = simp (no_hyphen b _ is)

goes_on : (s : Shape) (h : Held) (p : ℕ) (word : Text) → IsTrue (is_word word) → turn_passes s [] (at h p) word ≡ step_passes s p h value
goes_on s h p [] is = absurd cc
goes_on s h p (b ∷ bytes) is = simp (no_hyphen b _ is)

-- where the walk is after these arguments
abbrev pub placed : List Rule → Walk → List Text → Walk
placed c w [] = w
placed c w (x ∷ xs) = placed c (to_positional c (arg_by_index c w.position) x w w.held) xs

-- between two arguments it waits for nothing, and each argument has its place
abbrev pub Goes : Shape → Walk → List Text → Type 0
Goes s w [] = Unit {0}
Goes s w (x ∷ xs) =
    (w ≡ at w.held w.position) × (step_passes s w.position w.held value ≡ true) × Goes s (to_positional s.rules (arg_by_index s.rules w.position) x w w.held) xs

one_step : (c : List Rule) (w : Walk) (x : Text) → w ≡ at w.held w.position → IsTrue (is_word x) → walked c [] w x ≡ to_positional c (arg_by_index c w.position) x w w.held
one_step c w x stands is =
    ap (λ (v : Walk). walked c [] v x) stands ∙ goes c w.held w.position x is
    ∙ ap (λ (v : Walk). to_positional c (arg_by_index c w.position) x v w.held) (sym stands)

pub walk_placed : (s : Shape) (w : Walk) (words : List Text) → Goes s w words → IsTrue (list_all is_word words) → fold (walked s.rules []) w words ≡ placed s.rules w words
walk_placed s w [] go each = refl
walk_placed s w (x ∷ xs) go each =
    let parts = both (is_word x) (list_all is_word xs) each in
    ap (λ (v : Walk). fold (walked s.rules []) v xs) (one_step s.rules w x go.0 parts.0)
    ∙ walk_placed s (to_positional s.rules (arg_by_index s.rules w.position) x w w.held) xs go.2 parts.1

one_turn : (s : Shape) (w : Walk) (x : Text) → w ≡ at w.held w.position → IsTrue (is_word x) → turn_passes s [] w x ≡ step_passes s w.position w.held value
one_turn s w x stands is = ap (λ (v : Walk). turn_passes s [] v x) stands ∙ goes_on s w.held w.position x is

pub walk_goes : (s : Shape) (w : Walk) (words : List Text) → Goes s w words → IsTrue (list_all is_word words) → walk_passes s [] w words ≡ true
unfolding walk_passes
walk_goes s w [] go each = refl
walk_goes s w (x ∷ xs) go each =
    let parts = both (is_word x) (list_all is_word xs) each in
    let turn : turn_passes s [] w x ≡ true = one_turn s w x go.0 parts.0 ∙ go.1 in
    let after = to_positional s.rules (arg_by_index s.rules w.position) x w w.held in
    let rest : walk_passes s [] (walked s.rules [] w x) xs ≡ true =
    ap (λ (v : Walk). walk_passes s [] v xs) (one_step s.rules w x go.0 parts.0) ∙ walk_goes s after xs go.2 parts.1 in
    rw turn rest

-- ---- after the name of a subcommand

abbrev pub stopped_at : Walk → Text → List Text → Walk
stopped_at w name words = record w { stopped = Some (name, words) }

pub stopped_walk : (c : List Rule) (names : Names) (w : Walk) (name : Text) (before words : List Text)
    → fold (walked c names) (stopped_at w name before) words ≡ stopped_at w name (before ++ words)
unfolding walked
stopped_walk c names w name before [] = ap (stopped_at w name) (sym (append-nil before))
stopped_walk c names w name before (x ∷ xs) =
    stopped_walk c names w name (before ++ x ∷ []) xs ∙ ap (stopped_at w name) (append_assoc before (x ∷ []) xs)

pub stopped_passes : (s : Shape) (names : Names) (w : Walk) (name : Text) (before words : List Text) → walk_passes s names (stopped_at w name before) words ≡ true
unfolding walk_passes walked
stopped_passes s names w name before [] = refl
stopped_passes s names w name before (x ∷ xs) = stopped_passes s names w name (before ++ x ∷ []) xs
