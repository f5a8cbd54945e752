-- What a monitor's store kept is what its events made it write.
use Rattle.std.proofs.Common.{◌≡◌, ℕ, Bool, true, false, cond, eqb, ltb, List, [], ◌∷◌, ◌++◌, Result, Ok, Err, refl, sym, ap, ◌∙◌, append_assoc}
use Rattle.std.proofs.lemmas.Bool.{eqb-true}
use Rattle.std.proofs.lemmas.List.{append-nil}
use Rattle.mon_types.specs.declared.names.Which.{Which}
use Rattle.mon_tx.specs.Map.{Store, apply}
use Rattle.mon_tx.specs.declared.op.Op.{Op}
use Rattle.mon_kv.specs.Readers.{size_of, most_size}
use Rattle.mon_msg.specs.Protocol.Reaction.{Reaction}
use Rattle.mon_msg.specs.declared.input.Input.{Input}
use Rattle.quorum_model.specs.Happens.{Stop, Full, map_after, unmoved, lost, kept_only, moved, unless_stopped, in_world, after_meeting, happens}
use Rattle.quorum_model.specs.Meets.{Meeting, NoMessage, Down, Reacts, meets}
use Rattle.quorum_model.specs.Monitors.{Monitors}
use Rattle.quorum_model.specs.Runs.{goes_on, ran_from, run_from, run, writes_at, writes_of, if_continued, all_writes}
use Rattle.quorum_model.specs.Safe.{after_transactions}
use Rattle.quorum_model.specs.World.{World, Plain, Event, Arrives, Crash, first_world}

push_at : (w : World) (rank : ℕ) (r : Reaction) (i : ℕ)
    → cond (eqb i rank) (w.transactions rank ++ r.transaction ∷ []) (w.transactions i) ≡ w.transactions i ++ cond (eqb i rank) (r.transaction ∷ []) []
push_at w rank r i = by (eqb i rank) refl
  where
    by : (b : Bool) → eqb i rank ≡ b → cond b (w.transactions rank ++ r.transaction ∷ []) (w.transactions i) ≡ w.transactions i ++ cond b (r.transaction ∷ []) []
    by true e = ap (λ (k : ℕ). w.transactions k ++ r.transaction ∷ []) (sym (eqb-true i rank e))
    by false e = sym (append-nil (w.transactions i))

module _ (ms : Monitors) (es : List Event) (i : ℕ) (others : (next : World) → (run_from ms next es).transactions i ≡ next.transactions i ++ all_writes ms next es i) (w : World) where
  -- The transactions that monitor i kept in the run are those from before the event, then the event's and those of the
  -- later events, if the event doesn't stop the run.
  abbrev IsWritten : List (List Op) → Result World Stop → Type 0
  IsWritten first next =
      (goes_on w (λ next. ran_from ms next es) next).world.transactions i ≡ w.transactions i ++ if_continued (λ next. first ++ all_writes ms next es i) next

  goes : (first : List (List Op)) (next : World) → next.transactions i ≡ w.transactions i ++ first → IsWritten first (Ok next)
  goes first next e =
      others next ∙ ap (λ (k : List (List Op)). k ++ all_writes ms next es i) e ∙ append_assoc (w.transactions i) first (all_writes ms next es i)

  stays : (next : World) → next.transactions i ≡ w.transactions i → IsWritten [] (Ok next)
  stays next e = goes [] next (e ∙ sym (append-nil (w.transactions i)))

  reacts : (next : Reaction → World) (rank : ℕ) → ((r : Reaction) → (next r).transactions i ≡ cond (eqb i rank) (w.transactions rank ++ r.transaction ∷ []) (w.transactions i))
      → (came : Input) (r : Result Reaction Which) → IsWritten (writes_at i (Reacts rank came r)) (in_world next (unless_stopped (w.store rank) r))
  reacts next rank e came (Err which) = sym (append-nil (w.transactions i))
  reacts next rank e came (Ok r) = by (ltb most_size (size_of (map_after w rank r)))
    where
      by : (b : Bool) → IsWritten (writes_at i (Reacts rank came (Ok r))) (in_world next (cond b (Err (Full (size_of (map_after w rank r)))) (Ok r)))
      by true = sym (append-nil (w.transactions i))
      by false = goes (writes_at i (Reacts rank came (Ok r))) (next r) (e r ∙ push_at w rank r i)

  comes : (p : Plain) (met : Meeting) → IsWritten (writes_at i met) (after_meeting w (Arrives p) met)
  unfolding unmoved moved
  comes p NoMessage = stays (unmoved w p) refl
  comes p Down = stays (unmoved w p) refl
  comes p (Reacts rank came r) = reacts (moved w p rank) rank (λ r. refl) came r

  keeps : (p : Plain) (met : Meeting) → IsWritten (writes_at i met) (after_meeting w (Crash p true) met)
  unfolding unmoved kept_only
  keeps p NoMessage = stays (unmoved w p) refl
  keeps p Down = stays (unmoved w p) refl
  keeps p (Reacts rank came r) = reacts (kept_only w p rank) rank (λ r. refl) came r

  loses : (p : Plain) (met : Meeting) → IsWritten [] (after_meeting w (Crash p false) met)
  unfolding unmoved lost
  loses p NoMessage = stays (unmoved w p) refl
  loses p Down = stays (unmoved w p) refl
  loses p (Reacts rank came r) = stays (lost w p rank) refl

  event : (e : Event) → IsWritten (writes_of ms w e i) (happens ms w e)
  event (Arrives p) = comes p (meets ms w p)
  event (Crash p true) = keeps p (meets ms w p)
  event (Crash p false) = loses p (meets ms w p)

kept_from : (ms : Monitors) (w : World) (es : List Event) (i : ℕ) → (run_from ms w es).transactions i ≡ w.transactions i ++ all_writes ms w es i
unfolding ran_from all_writes
kept_from ms w [] i = sym (append-nil (w.transactions i))
kept_from ms w (e ∷ es) i = event ms es i (λ next. kept_from ms next es i) w e

pub all_kept : (ms : Monitors) (events : List Event) (i : ℕ) → (run ms events).transactions i ≡ all_writes ms first_world events i
all_kept ms events i = kept_from ms first_world events i

-- one transaction more
pub after_push : (txs : List (List Op)) (tx : List Op) (m : Store) → after_transactions (txs ++ tx ∷ []) m ≡ apply tx (after_transactions txs m)
after_push [] tx m = refl
after_push (t ∷ txs) tx m = after_push txs tx (apply t m)
