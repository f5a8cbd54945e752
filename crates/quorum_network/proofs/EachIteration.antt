-- What an iteration of a serving node does with its link.
use Rattle.law_names.proofs.Runs.{epoch, most_size, size_of}
use Rattle.law_names.proofs.Table.{AllByRecursion, Contains, Me, Reaction, Sent, Stop, Timer, Which, due}
use Rattle.mon_node.specs.Lasting.{RemainsAfter}
use Rattle.mon_node.specs.Posting.{letter}
use Rattle.mon_node.specs.Serving.{EndsAfter, OfInput, of_arrival}
use Rattle.mon_node.specs.declared.end.NodeEnd.TheVariants as end
use Rattle.mon_types.specs.declared.names.Stop.TheVariants as stop
use Rattle.quorum_network.proofs.Assembled.{all_both, all_mapped, all_self}
use Rattle.quorum_network.proofs.Names.{Closed, Datagram, Given, Got, Has, Idle, Iteration, Node, NodeEnd, Observed, Outgoing, Outside, Readings, Serving, StoreView, TimedInput, answer_arrived, boot_in, clock_read, datagrams, datagrams_of, due_by, heard, heard_by, iteration, letters, link_asked, map_after, next_after_message, next_leaves, numbered_by, of_input, pieces_of, reaction_to, sends_of, to_peer, wait_until, with_number}
use Rattle.quorum_network.proofs.Sends.{all_with_number}
use Rattle.quorum_network.specs.EachIteration.{IsAskedInTime, IsInTime, IsKeptFirst, IsOfReaction, Takes}
use Rattle.std.proofs.Common.{Bool, Err, List, None, Ok, Option, Result, Some, [], ap, arith, cond, false, inl, inr, leb, length, min, nat_lt, option_map, refl, subst, sym, true, ℕ, ◌+◌, ◌-◌, ◌∙◌, ◌∷◌, ◌≡◌, ◌≤◌}
use Rattle.std.proofs.lemmas.Bool.Decides.{nat_tests}
use Rattle.std.proofs.lemmas.Bool.{le-leb}

-- ---- timers

pub takes_timer : (me : Me) (g : Given) (s : Serving) (timer : Timer) (at : ℕ) → due s.node.state.timers ≡ Some (timer, at) → at ≤ g.began → Takes g s timer (iteration me g s)
unfolding iteration
takes_timer me g s timer at e le =
    let n : ℕ = me.member.monitors in
    let is : due_by g.began (due s.node.state.timers) ≡ Some timer = ap (due_by g.began) e ∙ ap (λ (b : Bool). cond b (Some timer) None) (le-leb at g.began le) in
    let wait : ℕ = wait_until g.began (due s.node.state.timers) in
    let o : Outside = clock_read s.outside in
    record {
      came = ap (λ (x : Option Timer). (heard_by x n wait g o).came) is;
      link = ap (λ (x : Option Timer). (heard_by x n wait g o).outside.link) is;
    }

-- what is done with an answer leaves the link as it was after the question
came_link : (n later : ℕ) (answer : Result Got Stop) (o : Outside) → (answer_arrived n later answer o).outside.link ≡ o.link
came_link n later (Ok (Datagram from bytes)) o = refl
came_link n later (Ok Idle) o = refl
came_link n later (Ok Closed) o = refl
came_link n later (Err stop.Failed) o = refl
came_link n later (Err stop.OutOfMemory) o = refl

module _ (began : ℕ) (next : Option (Timer × ℕ)) (wait : ℕ) (in_time : IsInTime began next wait) where
  waits_left : (answer : Result Got Stop) (link : Option Observed) → IsAskedInTime began next link (option_map (next_leaves wait answer) link)
  waits_left answer None = inl refl
  waits_left (Ok got) (Some t) = inr (wait, in_time, refl)
  waits_left (Err stop.Failed) (Some t) = inr (wait, in_time, refl)
  waits_left (Err stop.OutOfMemory) (Some t) = inl refl

  waits_came : (n : ℕ) (g : Given) (o : Outside) → IsAskedInTime began next o.link (answer_arrived n g.later g.answer (link_asked wait g.answer o)).outside.link
  waits_came n g o = subst (IsAskedInTime began next o.link) (sym (came_link n g.later g.answer (link_asked wait g.answer o))) (waits_left g.answer o.link)

before_it : (began at : ℕ) → leb at began ≡ false → began + min 1000 (at - began) ≤ at
before_it began at e = let lt : began + 1 ≤ at = grind (arith, nat_tests) in omega (arith, lt)

waits_heard : (n : ℕ) (next : Option (Timer × ℕ)) (g : Given) (o : Outside) → IsAskedInTime g.began next o.link (heard n next g o).outside.link
waits_heard n None g o = waits_came g.began None 1000 (omega arith) n g (clock_read o)
waits_heard n (Some next) g o = by (leb next.1 g.began) refl
  where
    by : (b : Bool) → leb next.1 g.began ≡ b → IsAskedInTime g.began (Some next) o.link (heard_by (cond b (Some next.0) None) n (wait_until g.began (Some next)) g (clock_read o)).outside.link
    by true e = inl refl
    by false e = waits_came g.began (Some next) (min 1000 (next.1 - g.began)) (omega arith, before_it g.began next.1 e) n g (clock_read o)

pub asked_in_time : (me : Me) (g : Given) (s : Serving) → IsAskedInTime g.began (due s.node.state.timers) s.outside.link (iteration me g s).serving.outside.link
unfolding iteration
asked_in_time me g s = waits_heard me.member.monitors (due s.node.state.timers) g s.outside

-- ---- what is sent is kept

pub kept_first : (me : Me) (turns begun : ℕ) (t : Iteration) (e : NodeEnd) (clock : Option Readings) (link : Option Observed) (s : StoreView) → EndsAfter me turns begun t e clock link → RemainsAfter me t e link s → IsKeptFirst me t link s
kept_first me turns begun t end.TurnsUsed clock link s h left = inr left
kept_first me turns begun t end.OutOfMemory clock link s h (inl left) = inl left.0
kept_first me turns begun t end.OutOfMemory clock link s h (inr left) = inr left.1
kept_first me turns begun t end.DiskFault clock link s h left = inl h.link_is
kept_first me turns begun t (end.Spent spent) clock link s h left = inr left
kept_first me turns begun t end.Closed clock link s h left = inl h.link_is
kept_first me turns begun t end.LinkFault clock link s h left = inl h.link_is
kept_first me turns begun t (end.Full would_be) clock link s h left = inl h.link_is

-- ---- datagrams

module _ (me : Me) (n : Node) (r : Reaction) where
  abbrev Goes : Outgoing → Type 0
  Goes o = (x : Sent) × Contains r.sends x × (o ≡ letter me (epoch (map_after n r)) x)

  abbrev IsOf : Outgoing → Type 0
  IsOf d = IsOfReaction me n d r

  abbrev boot : ℕ
  boot = boot_in (map_after n r)

  letters_go : AllByRecursion Goes (letters me (map_after n r) r.sends)
  letters_go = all_mapped Goes (letter me (epoch (map_after n r))) r.sends (all_self (λ (x : Sent). Goes (letter me (epoch (map_after n r)) x)) r.sends (λ x c. (x, c, refl)))

  piece_goes : (o : Outgoing) → Goes o → (seq : ℕ) (bytes : List ℕ) → Contains (pieces_of o.bytes boot seq) bytes → IsOf (to_peer o.to bytes)
  piece_goes o (x, c, is) seq bytes k = (x, c, (ap (λ (y : Outgoing). y.to) is, (seq, subst (λ (y : Outgoing). Contains (pieces_of y.bytes boot seq) bytes) is k)))

  datagrams_go : (next : ℕ) (outs : List Outgoing) → AllByRecursion Goes outs → AllByRecursion IsOf (datagrams boot next outs)
  datagrams_go next [] h = tt
  datagrams_go next (o ∷ outs) h =
      all_both IsOf (datagrams_of boot next o) (datagrams boot (next_after_message next (length o.bytes)) outs)
      (all_mapped IsOf (to_peer o.to) (pieces_of o.bytes boot next) (all_self (λ (b : List ℕ). IsOf (to_peer o.to b)) (pieces_of o.bytes boot next) (λ b c. piece_goes o h.0 next b c)))
      (datagrams_go (next_after_message next (length o.bytes)) outs h.1)

  numbered_go : (large : Bool) → AllByRecursion IsOf (cond large [] (numbered_by me n r))
  numbered_go true = tt
  numbered_go false = datagrams_go n.next (with_number n.next (letters me (map_after n r) r.sends)) (all_with_number Goes n.next (letters me (map_after n r) r.sends) letters_go)

module _ (me : Me) (n : Node) where
  abbrev if_kept : Reaction → List Outgoing
  if_kept r = cond (nat_lt most_size (size_of (map_after n r))) [] (numbered_by me n r)

  reaction_goes : (x : Result Reaction Which) → AllByRecursion (λ (d : Outgoing). Has x (IsOfReaction me n d)) (of_input [] if_kept x)
  reaction_goes (Ok r) = numbered_go me n r (nat_lt most_size (size_of (map_after n r)))
  reaction_goes (Err spent) = tt

  came_goes : (came : Result (Option TimedInput) NodeEnd) → AllByRecursion (λ (d : Outgoing). OfInput me n (IsOfReaction me n d) came) (of_arrival me n [] if_kept came)
  came_goes (Ok (Some it)) = reaction_goes (reaction_to me n it)
  came_goes (Ok None) = tt
  came_goes (Err e) = tt

pub sends_messages : (me : Me) (t : Iteration) → AllByRecursion (λ (d : Outgoing). OfInput me t.serving.node (IsOfReaction me t.serving.node d) t.came) (sends_of me t)
sends_messages me t = came_goes me t.serving.node t.came
