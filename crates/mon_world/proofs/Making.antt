-- The monitors of a map, made one after the other.
use Rattle.std.proofs.Common.{◌≡◌, ◌⊎◌, ℕ, zero, suc, ◌+◌, List, [], ◌∷◌, ◌++◌, length, slice_get, Some, None, refl, sym, ap, subst, ◌∙◌, inl, inr, length-append}
use Rattle.std.proofs.lemmas.Option.{same_Some}
use Rattle.std.specs.FinMap.{empty}
use Rattle.election_rules.specs.declared.rule.Rule.{Rule}
use Rattle.mon_msg.specs.declared.view.Me.{Me}
use Rattle.mon_types.proofs.Members.{same_member}
use Rattle.mon_types.specs.declared.member.Member.{Member}
use Rattle.quorum_model.specs.Files.{no_files}
use Rattle.quorum_model.specs.Monitors.{Monitors}
use Rattle.quorum_model.specs.Scenes.{first_scene}
use Rattle.mon_world.specs.declared.monitor.Monitor.{Monitor}
use Rattle.mon_world.specs.Monitor.{Represents}
use Rattle.mon_world.specs.Represented.{EachRepresents}
use Rattle.mon_world.proofs.Ranks.{is_of}

-- there is one monitor of a rank, a number and a rule
pub same_me : (a b : Me) → a.member.rank ≡ b.member.rank → a.member.monitors ≡ b.member.monitors → a.rule ≡ b.rule → a ≡ b
same_me a b ranks counts rules =
    ap (λ (m : Member). record { member = m; rule = a.rule }) (same_member a.member b.member ranks counts)
    ∙ ap (λ (r : Rule). record { member = b.member; rule = r }) rules

-- a monitor represents who has that rank
abbrev pub IsNew : (monitors : ℕ) → Rule → (rank : ℕ) → Monitor → Type 0
IsNew monitors rule rank monitor = (me : Me) → me.member.rank ≡ rank → me.member.monitors ≡ monitors → me.rule ≡ rule → Represents me empty None no_files monitor

-- this many were made
pub record Made (monitors : ℕ) (rule : Rule) (list : List Monitor) (so_many : ℕ) : Type 0 where
  pub count : length list ≡ so_many
  pub each : (i : ℕ) (monitor : Monitor) → slice_get list i ≡ Some monitor → IsNew monitors rule i monitor

-- the last of a list, or one before it
last_or : {A : Type 0} (xs : List A) (x y : A) (i : ℕ) → slice_get (xs ++ x ∷ []) i ≡ Some y → ((i ≡ length xs) × (x ≡ y)) ⊎ (slice_get xs i ≡ Some y)
last_or [] x y zero e = inl (refl, same_Some x y e)
last_or [] x y (suc i) e = inr e
last_or (z ∷ xs) x y zero e = inr e
last_or (z ∷ xs) x y (suc i) e = elim (last_or xs x y i e) [ inl h ↦ inl (ap suc h.0, h.1) | inr h ↦ inr h ]

pub one_made : (monitors : ℕ) (rule : Rule) (list : List Monitor) (rank : ℕ) (monitor : Monitor) → Made monitors rule list rank → IsNew monitors rule rank monitor
    → Made monitors rule (list ++ monitor ∷ []) (rank + 1)
one_made monitors rule list rank monitor made is_new = record {
  count = length-append list (monitor ∷ []) ∙ ap (λ (n : ℕ). n + 1) made.count;
  each = λ i other found.
      elim (last_or list monitor other i found) [
        | inl h ↦ subst (IsNew monitors rule i) h.1 (subst (λ (k : ℕ). IsNew monitors rule k monitor) (sym (h.0 ∙ made.count)) is_new)
        | inr before ↦ made.each i other before
      ];
}

pub all_made : (ms : Monitors) (monitors : ℕ) (rule : Rule) (list : List Monitor) (n : ℕ) → Made monitors rule list n → ms.count ≡ monitors → ms.rule ≡ rule
    → EachRepresents ms list first_scene
all_made ms monitors rule list n made counts rules i me monitor itself found =
    let of_map = is_of ms i me itself in
    made.each i monitor found me of_map.rank_is (of_map.monitors ∙ counts) (of_map.rule ∙ rules)
