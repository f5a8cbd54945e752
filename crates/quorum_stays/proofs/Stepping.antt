-- What an event makes of the world: of the monitor that reacts, of its store, and of what is sent.
use Rattle.law_names.proofs.Runs.{Arrival, Arrives, Envelope, Full, Meeting, Monitors, Plain, Reacts, Stop, World, after_meeting, arrival, happens, in_world, map_after, meeting, meeting_at, meets, messages_of, most_size, moved, replies_of, size_of, state_at}
use Rattle.law_names.proofs.Table.{AllByRecursion, Change, Course, Fits, Input, Me, Reaction, State, Store, Which, any_reaction, apply, encoded, joined, played, react, reaction_of, readings_of, shared_entries}
use Rattle.mon_msg.proofs.Changed.{readings-joined}
use Rattle.mon_msg.specs.declared.input.Input.TheVariants as input
use Rattle.quorum_model.proofs.Members.{me_is, member_of}
use Rattle.std.proofs.Common.{Err, List, Ok, Option, Result, Some, ap, ltb, nat_lt, refl, subst, suc, sym, true, ℕ, ◌++◌, ◌∙◌, ◌≡◌}
use Rattle.std.proofs.lemmas.Bool.{cond_both, eq-eqb, ne_eqb}

-- a message that arrives at its receiver
abbrev pub brought : (at : ℕ) → Envelope → Arrival
brought at e = record { rank = e.to; at = at; input = input.Deliver e.message }

-- monitor i remembers s then, made these changes, and sent these messages
pub record Did (w next : World) (i : ℕ) (s : State) (cs : List Change) (es : List Envelope) : Type 0 where
  pub up : next.state i ≡ Some s
  pub others : (j : ℕ) → (j ≡ i → ⊥) → next.state j ≡ w.state j
  pub kept : AllByRecursion Fits cs → readings_of (next.store i) ≡ played cs (readings_of (w.store i))
  pub stores : (j : ℕ) → (j ≡ i → ⊥) → next.store j ≡ w.store j
  pub messages : next.messages ≡ w.messages ++ es

module _ (ms : Monitors) (w next : World) (p : Plain) (i : ℕ) (lt : ltb i ms.count ≡ true) (now : ℕ) (came : Input) (s : State)
    (a : arrival w p ≡ Some (record { rank = i; at = now; input = came })) (c : state_at i (w.state i) came ≡ Some s)
    (happened : happens ms w (Arrives p) ≡ Ok next) where
  abbrev pub reacted : Result Course Which
  reacted = react (member_of ms i lt) (shared_entries (w.store i)) now (readings_of (w.store i)) s came

  pub met : meets ms w p ≡ Reacts i came (any_reaction reacted)
  met =
      ap (meeting_at ms w) a
      ∙ ap (λ (o : Option Me). meeting (record { rank = i; at = now; input = came }) (w.store i) o (state_at i (w.state i) came)) (me_is ms i lt)
      ∙ ap (meeting (record { rank = i; at = now; input = came }) (w.store i) (Some (member_of ms i lt))) c

  module _ (y : Course) (is : reacted ≡ Ok y) where
    pub becomes : next ≡ moved w p i (reaction_of y)
    becomes =
        let m : meets ms w p ≡ Reacts i came (Ok (reaction_of y)) = met ∙ ap (λ (z : Result Course Which). Reacts i came (any_reaction z)) is in
        let size = size_of (apply (joined (encoded y.changes)) (w.store i)) in
        cond_both (nat_lt most_size size) (Err (Full size)) (Ok (reaction_of y)) (λ (o : Result Reaction Stop). in_world (moved w p i) o ≡ Ok next → next ≡ moved w p i (reaction_of y))
        (λ t e. absurd cc) (λ t e. (let same : moved w p i (reaction_of y) ≡ next = cc in sym same))
        (subst (λ (z : Meeting). after_meeting w (Arrives p) z ≡ Ok next) m happened)

  module _ (y : Course) (is : reacted ≡ Ok y) where
    after : Did w (moved w p i (reaction_of y)) i y.state y.changes (messages_of y.out)
    unfolding moved
    after = record {
      up = rw (eq-eqb i i refl) refl;
      others = λ j ne. rw (ne_eqb j i ne) refl;
      kept = λ fits. rw (eq-eqb i i refl) (readings-joined y.changes fits (w.store i));
      stores = λ j ne. rw (ne_eqb j i ne) refl;
      messages = refl;
    }

    -- what it replied to clients
    pub replied : (event : ℕ) × (m : Store) × (next.replied ≡ w.replied ++ replies_of event i m y.out)
    unfolding moved
    replied = (suc w.events, map_after w i (reaction_of y), ap (λ (z : World). z.replied) (becomes y is) ∙ refl)

    pub did : Did w next i y.state y.changes (messages_of y.out)
    did = subst (λ (v : World). Did w v i y.state y.changes (messages_of y.out)) (sym (becomes y is)) after

  -- it reacts, if it is up
  pub reacts : (y : Course) × (reacted ≡ Ok y)
  reacts = by reacted refl
    where
      by : (z : Result Course Which) → reacted ≡ z → (y : Course) × (reacted ≡ Ok y)
      by (Ok y) is = (y, is)
      by (Err which) is =
          let m : meets ms w p ≡ Reacts i came (Err which) = met ∙ ap (λ (z : Result Course Which). Reacts i came (any_reaction z)) is in
          let stops = subst (λ (z : Meeting). after_meeting w (Arrives p) z ≡ Ok next) m happened in
          absurd cc
