-- What a core ensures of its reaction to an iteration's input is what is needed on any disk.
use Rattle.law_names.proofs.Runs.{most_size, size_of}
use Rattle.law_names.proofs.Table.{AllByRecursion, Me, Reaction, State, Which, reaction}
use Rattle.mon_core.specs.Core.{Monitor}
use Rattle.mon_core.specs.Reacts.{IsReaction}
use Rattle.mon_core.specs.declared.reaction.Reaction as core
use Rattle.quorum_network.proofs.Names.{AreNamed, Iteration, Kept, Lost, SendsNamed, Serving, TimedInput, Until, Whole, kept_reaction, map_after, of_input, reaction_to}
use Rattle.std.proofs.Common.{Bool, IfSome, None, Ok, Option, Result, Some, ap, cond, false, nat_lt, subst, sym, true, ◌∙◌, ◌≡◌}

abbrev Named : Reaction → Type 0
Named q = AllByRecursion SendsNamed q.sends

pub core_names : (me : Me) (s : Serving) (it : TimedInput) (u : Until) (old new : Monitor) (r : core.Reaction) → old.me ≡ me → old.state ≡ s.node.state → IsReaction old new s.node.store.kv it.at it.input r
    → AreNamed me u (Some (record { came = Ok (Some it); serving = s }))
core_names me s it u old new r me_is state_is R = by u
  where
    t : Iteration
    t = record { came = Ok (Some it); serving = s }

    done : Reaction
    done = record { transaction = r.tx; sends = r.out; state = new.state }

    if_small : Reaction → Option Reaction
    if_small q = cond (nat_lt most_size (size_of (map_after s.node q))) None (Some q)

    reacts : reaction_to me s.node it ≡ Ok done
    reacts =
        ap (λ (x : Me). reaction x it.at s.node.store.kv s.node.state it.input) (sym me_is)
        ∙ ap (λ (x : State). reaction old.me it.at s.node.store.kv x it.input) (sym state_is) ∙ R.reacts

    named : (b : Bool) → IfSome (cond b None (Some done)) Named
    named true = tt
    named false = R.named

    kept : IfSome (kept_reaction me t) Named
    kept = subst (λ (x : Result Reaction Which). IfSome (of_input None if_small x) Named) (sym reacts) (named (nat_lt most_size (size_of (map_after s.node done))))

    by : (u : Until) → AreNamed me u (Some t)
    by Whole = kept
    by Lost = tt
    by (Kept k) = kept
