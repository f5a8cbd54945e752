-- A network whose disks keep their maps meets the premise of networks on any disks: its monitors send only entries with
-- a valid prefix and a valid key.
use Rattle.law_names.proofs.Runs.{Monitors, Reached, World, me_of, most_size, put_at, size_of}
use Rattle.law_names.proofs.Table.{AllByRecursion, Contains, Me, Reaction, Which}
use Rattle.quorum_network.proofs.Assembled.{assembly}
use Rattle.quorum_network.proofs.Assembling.{Assembly}
use Rattle.quorum_network.proofs.Elected.{is_played, plays}
use Rattle.quorum_network.proofs.Events.{known}
use Rattle.quorum_network.proofs.Facts.{Facts}
use Rattle.quorum_network.proofs.Invariant.{IfUp, Inv, IsAlive}
use Rattle.quorum_network.proofs.Kept.{named}
use Rattle.quorum_network.proofs.Letters.{Letter}
use Rattle.quorum_network.proofs.Mails.{me_0, three}
use Rattle.quorum_network.proofs.Names.{AllMay, AreNamed, Begins, Doing, Down, Iterates, Iteration, Kept, Lost, May, Network, Node, NodeEnd, Process, SendsNamed, Serving, Step, TimedInput, Until, Up, Whole, iteration, iteration_of, kept_reaction, map_after, map_of, network, number_of, of_input, reaction_to, start, unstarted}
use Rattle.quorum_network.proofs.Played.{steps_of}
use Rattle.quorum_network.proofs.Steps.{EventFine, IterationFine, begins_fine, entered_holds, has_here, newest_here, none_has, turns_fine}
use Rattle.quorum_network.proofs.Whole.{facts, stands}
use Rattle.quorum_network.specs.AnyDisk.{AllMayAnyhow, MayAnyhow, NamesAt}
use Rattle.std.proofs.Common.{Bool, Err, IfSome, List, None, Ok, Option, Result, Some, [], ap, cond, eqb, false, nat_lt, refl, subst, sym, true, ℕ, ◌∙◌, ◌∷◌, ◌≡◌}
use Rattle.std.proofs.lemmas.Bool.{eq-eqb}

abbrev AllNamed : Reaction → Type 0
AllNamed r = AllByRecursion SendsNamed r.sends

module _ (A : Assembly) (ms : Monitors) (F : Facts ms) (net : Network) (w : World) (R : Reached ms w) (I : Inv A ms net w) (i : ℕ) (me : Me) (is : me_of ms i ≡ Some me) where
  -- an iteration with an input
  module _ (s : Serving) (it : TimedInput) (T : IterationFine A ms F net w R I i me is (Ok (Some it)) s) where
    abbrev t : Iteration
    t = record { came = Ok (Some it); serving = s }

    abbrev n : Node
    n = s.node

    abbrev E : EventFine A ms F net w R I i me is n it
    E = T.so

    abbrev small_of : Reaction → Option Reaction
    small_of r = cond (nat_lt most_size (size_of (map_after n r))) None (Some r)

    kept_named : (x : Result Reaction Which) → reaction_to me n it ≡ x → IfSome (kept_reaction me t) AllNamed
    kept_named (Err which) e = subst (λ (o : Option Reaction). IfSome o AllNamed) (sym (ap (of_input None small_of) e)) tt
    kept_named (Ok r) e = subst (λ (o : Option Reaction). IfSome o AllNamed) (sym (ap (of_input None small_of) e)) (by (nat_lt most_size (size_of (map_after n r))) refl)
      where
        by : (b : Bool) → nat_lt most_size (size_of (map_after n r)) ≡ b → IfSome (cond b None (Some r)) AllNamed
        by true small = tt
        by false small =
            named A ms F net w R I i me is n it.at it.input E.plain E.fits E.there (T.kv ∙ (I.mine i (known ms i me is).below).map) E.up E.may T.remembers r e (E.own r e) small

  iteration_named : (came : Result (Option TimedInput) NodeEnd) (s : Serving) (u : Until) → IterationFine A ms F net w R I i me is came s → AreNamed me u (Some (record { came = came; serving = s }))
  iteration_named came s Lost T = tt
  iteration_named (Err e) s Whole T = tt
  iteration_named (Err e) s (Kept k) T = tt
  iteration_named (Ok None) s Whole T = tt
  iteration_named (Ok None) s (Kept k) T = tt
  iteration_named (Ok (Some it)) s Whole T = kept_named s it T (reaction_to me s.node it) refl
  iteration_named (Ok (Some it)) s (Kept k) T = kept_named s it T (reaction_to me s.node it) refl

module _ (A : Assembly) (ms : Monitors) (F : Facts ms) (net : Network) (w : World) (R : Reached ms w) (I : Inv A ms net w) where
  made_named : (i : ℕ) (me : Me) → me_of ms i ≡ Some me → (p : Process) (doing : Doing) (u : Until) → net.process i ≡ p → May net i p doing → IfUp A ms I.ls (number_of net.lives i) i (w.state i) p → IsAlive (net.lives i) p
      → AreNamed me u (iteration_of me p doing)
  made_named i me is p (Begins life store_view clock link first) u e may up alive =
      let t : Iteration = start first (unstarted me.member.rank store_view clock link) in
      let then_net : Network = record { process = net.process; lives = put_at net.lives i (life ∷ net.lives i); sent = net.sent } in
      let J = entered_holds A ms net w I i life may.1.0 may.1.1 in
      let one : eqb i i ≡ true = eq-eqb i i refl in
      let none : (l : Letter) → Contains J.0.ls l → l.by ≡ i → l.boot ≡ number_of then_net.lives i → ⊥ =
      λ l c own boot. none_has A ms net w I i life may.1.0 may.1.1 l (subst (λ (ls : List Letter). Contains ls l) J.1 c) own (boot ∙ newest_here A ms F net w R I i life (eqb i i) one) in
      iteration_named A ms F then_net w R J.0 i me is t.came t.serving u
      (begins_fine A ms F then_net w R J.0 i me is store_view clock link first (may.0 ∙ ap map_of (sym e)) (has_here A ms F net w R I i life (eqb i i) one) none)
  made_named i me is (Up s) (Iterates g) u e may up alive =
      let t : Iteration = iteration me g s in
      iteration_named A ms F net w R I i me is t.came t.serving u (turns_fine A ms F net w R I i me is s e up alive g may)
  made_named i me is (Down m) (Iterates g) u e may up alive = tt

  step_named : (s : Step) → May net s.rank (net.process s.rank) s.doing → NamesAt net s (me_of ms s.rank)
  step_named s may = by (me_of ms s.rank) refl
    where
      by : (x : Option Me) → me_of ms s.rank ≡ x → NamesAt net s x
      by None e = tt
      by (Some me) e = made_named s.rank me e (net.process s.rank) s.doing s.up_to refl may (I.mine s.rank (known ms s.rank me e).below).up (I.alive s.rank (known ms s.rank me e).below)

may_anyhow : (net : Network) (i : ℕ) (p : Process) (doing : Doing) → May net i p doing → MayAnyhow net i p doing
may_anyhow net i p (Begins number store_view clock link first) may = may.1
may_anyhow net i (Up s) (Iterates g) may = may
may_anyhow net i (Down m) (Iterates g) may = tt

pub all_may_anyhow : (ms : Monitors) (steps : List Step) → AllMay ms steps → AllMayAnyhow ms steps
unfolding AllMay AllMayAnyhow
all_may_anyhow ms [] may = tt
all_may_anyhow ms (s ∷ earlier) may =
    let net : Network = network ms earlier in
    let S = stands assembly ms (facts ms) earlier may.0 in
    (all_may_anyhow ms earlier may.0, may_anyhow net s.rank (net.process s.rank) s.doing may.1, step_named assembly ms (facts ms) net S.w S.reach S.inv s may.1)

-- the steps by which three processes elect a leader meet that premise
pub is_played_anyhow : AllMayAnyhow three (steps_of three me_0.member plays)
is_played_anyhow = all_may_anyhow three (steps_of three me_0.member plays) is_played
