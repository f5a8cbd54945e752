-- Every run keeps what is known of the requests that were answered.
use Rattle.law_names.proofs.Runs.{AllFit, Asked, Event, Monitors, Plain, PlainFits, Replied, World, first_world, happens, kept_only, lost, messages_of, moved, plain_of, replies_of, run, unmoved, with_asked}
use Rattle.law_names.proofs.Table.{reaction_of}
use Rattle.quorum_commands.proofs.Answered.{Answers, Back, Becomes, IsKnown, answers_last, becomes, may_answer}
use Rattle.quorum_commands.proofs.Basis.{Basis, basis}
use Rattle.quorum_commands.proofs.Coming.{Does, each_event, next}
use Rattle.quorum_commands.proofs.Places.{Begun, IsSettled, LoggedAt, Nowhere, Places}
use Rattle.quorum_commands.proofs.Runs.{Follows, TicketsIn, falls, first_tickets, follows, goes, if_both, loses, nothing, version_of}
use Rattle.quorum_commands.proofs.Sources.{asks_more}
use Rattle.quorum_commands.proofs.Steps.{leaves}
use Rattle.quorum_commands.specs.Unmade.{IsUnmade, Requests, Unmade}
use Rattle.quorum_history.proofs.History.{Ghost}
use Rattle.quorum_laws.proofs.Beginning.{at_first}
use Rattle.quorum_laws.proofs.Events as laws
use Rattle.quorum_laws.proofs.Invariant.{Further, InvOf}
use Rattle.quorum_model.proofs.Happening.{of_next, run_keeps}
use Rattle.quorum_walk.proofs.Lists.{all_append, all_map}
use Rattle.std.proofs.Common.{IfOk, List, ap, arith, length, suc, sym, ℕ, ◌<◌, ◌∙◌, ◌≡◌}

-- of the requests of a world, and of those that were answered
pub record Kept (ms : Monitors) (w : World) : Type 0 where
  pub inv : InvOf ms w
  pub places : Places
  pub tickets : TicketsIn ms places w
  pub answers : Answers inv.g w.asked places w.messages w.replied

-- with a history that goes on
abbrev KeptWith : Monitors → World → Ghost → Type 0
KeptWith ms w h = (places : Places) × TicketsIn ms places w × Answers h w.asked places w.messages w.replied

first_kept : (ms : Monitors) → Kept ms first_world
first_kept ms = record { inv = at_first ms; places = λ k. Nowhere; tickets = first_tickets ms; answers = record { back = tt; known = tt } }

module _ (ms : Monitors) (D : Basis ms) where
  -- ---- an event

  module _ (w : World) (p : Plain) (B : D.holds w) (K : Kept ms w) where
    abbrev I : InvOf ms w
    I = K.inv

    abbrev asked : List Asked
    asked = with_asked p w.asked

    abbrev Next : World → Type 0
    Next next = Follows ms D w next → (h : Ghost) → Further K.inv.g h → KeptWith ms next h

    -- nothing is said, and what moves wasn't settled
    silent : (h : Ghost) → Further K.inv.g h → (after : Places) → ((k : ℕ) → k < length w.asked → K.places k ≡ Nowhere → after k ≡ Nowhere) → Answers h asked after w.messages w.replied
    silent h F after stays = answers_last w.asked asked (asks_more p w.asked) K.places after stays K.inv.g h F w.messages w.replied K.answers

    unmoves : Next (unmoved w p)
    unfolding unmoved
    unmoves f h F = (K.places, nothing ms D w p B I K.places K.tickets, silent h F K.places (λ k lt e. e))

    forgets : (i : ℕ) → Next (lost w p i)
    unfolding lost
    forgets i f h F = (K.places, loses ms D w p B I K.places K.tickets i, silent h F K.places (λ k lt e. e))

    module _ (d : Does ms w p) where
      abbrev Becoming : Ghost → Type 0
      Becoming h = Becomes ms w p I K.places K.tickets K.answers d (D.one w B) (D.whole w B) h (suc w.events) (next ms w I p d) d.y.out

      keeps : Next (kept_only w p d.by.rank (reaction_of d.y))
      unfolding kept_only
      keeps f h F =
          let S = may_answer ms w p I K.places K.tickets K.answers d in
          let E = leaves ms w p I (D.one w B) (D.whole w B) K.places K.tickets d _ S in
          let T = falls ms D w p B I K.places K.tickets d _ S f in
          (E.after, T.0, silent h F E.after E.settled)

      moves : Next (moved w p d.by.rank (reaction_of d.y))
      unfolding moved
      moves f h F =
          let S = may_answer ms w p I K.places K.tickets K.answers d in
          let T = goes ms D w p B I K.places K.tickets d _ S f in
          let C : Becoming h = becomes ms w p I K.places K.tickets K.answers d (D.one w B) (D.whole w B) h F (suc w.events) (next ms w I p d) in
          let old = silent h F C.after C.stays in (
            C.after,
            C.tickets _ _ _ _ _ T.0,
            record {
              back = all_append (Back h asked C.after) w.messages (messages_of d.y.out) old.back C.back;
              known = all_append (IsKnown asked C.after) w.replied (replies_of (suc w.events) d.by.rank (next ms w I p d) d.y.out) old.known C.known;
            },
          )

  event : (w : World) (e : Event) → PlainFits ms.count (plain_of e) → D.holds w → Kept ms w → IfOk (happens ms w e) (λ next. D.holds next × Kept ms next)
  event w e F B K =
      let p = plain_of e in
      if_both (λ (next : World). D.holds next × ((h : Ghost) → Further K.inv.g h → KeptWith ms next h)) (laws.After ms w w.asked K.inv) (λ (next : World). D.holds next × Kept ms next)
      (λ next a b. (a.0, (let z = a.1 b.0.g b.1 in record { inv = b.0; places = z.0; tickets = z.1; answers = z.2 }))) (happens ms w e)
      (follows ms D (λ w next. (h : Ghost) → Further K.inv.g h → KeptWith ms next h) w e F B
      (each_event ms w (λ (next : World). Follows ms D w next → (h : Ghost) → Further K.inv.g h → KeptWith ms next h) e F (unmoves w p B K) (forgets w p B K) (moves w p B K) (keeps w p B K))) (laws.event_holds ms w e F K.inv)

  abbrev Stands : World → Type 0
  Stands w = D.holds w × Kept ms w

  run_kept : (events : List Event) → AllFit ms.count events → Stands (run ms events)
  run_kept events F = run_keeps ms (λ e. PlainFits ms.count (plain_of e)) Stands (λ w e fits h next q. of_next Stands (happens ms w e) next q (event w e fits h.0 h.1)) first_world events F (D.first, first_kept ms)

module _ (ms : Monitors) (events : List Event) (F : AllFit ms.count events) where
  abbrev now : World
  now = run ms events

  K : Kept ms now
  K = (run_kept ms (basis ms) events F).1

  logged : (v : ℕ) → v < length now.log → LoggedAt ms.count now.asked now.log K.places v
  logged v lt = K.tickets.logged v lt

  abbrev request : Requests now
  request v lt = (logged v lt).k

  -- a settled request isn't that of a version
  unmade : (r : Replied) → IsSettled now.asked K.places r.rank r.session → IsUnmade now request r
  unmade r s = record {
    k = s.k;
    by = s.by;
    at = s.at;
    rank = s.rank;
    session = s.session;
    none = λ v lt e. (let l = logged v lt in let bad : Begun (suc v) _ ≡ Nowhere = sym l.place ∙ ap K.places e ∙ s.place in absurd cc);
  }

  pub unmade_unless_done : Unmade ms.count now
  unmade_unless_done = record {
    request = request;
    is = λ v lt. (let l = logged v lt in record { by = l.by; at = l.at; made = l.made });
    once = λ u v low high e. (let a = logged u low in let b = logged v high in let z : suc u ≡ suc v = ap version_of (sym a.place ∙ ap K.places e ∙ b.place) in omega arith);
    refused = all_map (IsKnown now.asked K.places) _ (λ r k u. unmade r (k u)) now.replied K.answers.known;
  }
