-- What the link of a life was asked to send is in the network.
use Rattle.law_names.proofs.Runs.{Monitors, me_of}
use Rattle.law_names.proofs.Table.{Contains, Me}
use Rattle.mon_resend.specs.Copied.{IsOneOf}
use Rattle.quorum_network.proofs.Lives.{sends_alone}
use Rattle.quorum_network.proofs.Names.{Happened, Outgoing, Posted, Step, alone, network, own, posted, sent, under}
use Rattle.quorum_network.specs.Lives.{sent_of}
use Rattle.std.proofs.Common.{Bool, List, Some, [], ap, arith, cond, eqb, false, inl, inr, map, refl, subst, suc, sym, true, ℕ, ◌++◌, ◌∙◌, ◌∷◌, ◌≡◌}
use Rattle.std.proofs.lemmas.Bool.{eqb-true}

one_of_map : (f : Outgoing → Outgoing) (ds : List Outgoing) (d : Outgoing) → IsOneOf ds d → IsOneOf (map f ds) (f d)
one_of_map f [] d h = absurd h
one_of_map f (x ∷ ds) d (inl e) = inl (ap f e)
one_of_map f (x ∷ ds) d (inr h) = inr (one_of_map f ds d h)

one_of_last : (xs ys : List Outgoing) (d : Outgoing) → IsOneOf ys d → IsOneOf (xs ++ ys) d
one_of_last [] ys d h = h
one_of_last (x ∷ xs) ys d h = inr (one_of_last xs ys d h)

-- in a longer list
later : (x : Posted) (xs : List Posted) (p : Posted) → Contains xs p → Contains (x ∷ xs) p
later x xs p c = (suc c.0, omega (arith, c.1), c.2)

-- what is among the datagrams of monitor i is among all
among : (i : ℕ) (posts : List Posted) (d : Outgoing) → IsOneOf (sent_of i posts) d → Contains posts (posted i d)
among i [] d h = absurd h
among i (x ∷ posts) d h = by (among i posts d) (eqb x.by i) refl h
  where
    by : (IsOneOf (sent_of i posts) d → Contains posts (posted i d)) → (b : Bool) → eqb x.by i ≡ b → IsOneOf (cond b (x.datagram ∷ sent_of i posts) (sent_of i posts)) d → Contains (x ∷ posts) (posted i d)
    by ih true e (inl same) = let is : x ≡ posted i d = λ k. record { by = eqb-true x.by i e k; datagram = sym same k } in (0, omega arith, is)
    by ih true e (inr h) = later x posts (posted i d) (ih h)
    by ih false e h = later x posts (posted i d) (ih h)

-- A life whose steps send what its link was asked to send has posted it.
pub has_posted : (ms : Monitors) (i : ℕ) (me : Me) → me_of ms i ≡ Some me → (steps : List Step) (number : ℕ) (before : List Outgoing) (h : List Happened)
    → (alone me (own i steps)).sends ≡ before ++ map (under number) (sent h) → (d : Outgoing) → IsOneOf (sent h) d → Contains (network ms steps).sent (posted i (under number d))
has_posted ms i me is steps number before h sends d one =
    let there : IsOneOf (before ++ map (under number) (sent h)) (under number d) = one_of_last before (map (under number) (sent h)) (under number d) (one_of_map (under number) (sent h) d one) in
    among i (network ms steps).sent (under number d) (subst (λ (ds : List Outgoing). IsOneOf ds (under number d)) (sym (sends_alone ms i me is steps ∙ sends)) there)
