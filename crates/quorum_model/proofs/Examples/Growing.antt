-- What a leader acknowledges by a ROUTE, and how the log grows by a value that a new leader recovered.
use Rattle.std.proofs.Common.{◌≡◌, ℕ, true, false, List, [], ◌∷◌, map, Some, refl, ap, ◌∙◌}
use Rattle.std.specs.Prelude.{codes}
use Rattle.mon_tx.specs.declared.key.Area.TheVariants as area
use Rattle.mon_tx.specs.declared.key.Key.TheVariants as key
use Rattle.mon_tx.specs.declared.op.Op.TheVariants.{Put}
use Rattle.mon_tx.specs.Keys.{cell}
use Rattle.mon_tx.specs.Map.{Store}
use Rattle.mon_kv.specs.Readers.{is_marked}
use Rattle.mon_msg.specs.Protocol.Phases.{is_leading}
use Rattle.mon_msg.specs.Protocol.Reaction.{Reaction}
use Rattle.mon_msg.specs.Protocol.State.{State}
use Rattle.mon_wire.specs.declared.body.Body.TheVariants as body
use Rattle.mon_msg.specs.declared.plan.Sent.{Sent}
use Rattle.mon_msg.specs.declared.plan.Sent.TheVariants as sent
use Rattle.mon_wire.specs.declared.reply.Reply.{Reply}
use Rattle.mon_wire.specs.declared.reply.Reply.TheVariants as reply
use Rattle.mon_wire.specs.declared.request.Service.{Service}
use Rattle.mon_wire.specs.declared.request.Service.TheVariants as service
use Rattle.mon_wire.specs.declared.request.Session.{Session}
use Rattle.quorum_model.specs.Acknowledging.{record_kept, acknowledgements_of}
use Rattle.quorum_model.specs.Growth.{last_of, grown}
use Rattle.quorum_model.specs.Happens.{map_after, kept_only}
use Rattle.quorum_model.specs.World.{World, Plain, Acknowledged}

-- an answer that goes back to peon 1, which handed a command on
abbrev route : Reply → Sent
route r = sent.Message 1 (record { from = 0; monitors = 3; epoch = 2; body = body.Route 4 r })

abbrev made : Acknowledged → ℕ × ℕ × Service × List ℕ
made a = (a.event, a.what.version, a.what.service, a.what.incremental)

-- the fifth event of a run, after which a monitor keeps this map and remembers this
module _ (m : Store) (s : State) where
  -- a ROUTE that says that version 7 is done acknowledges it, with the incremental that the leader keeps in it
  by_route : record_kept m 7 ≡ Put (codes "kv") (codes "3") (1 ∷ []) ∷ [] → map made (acknowledgements_of 5 m s (route (reply.Done 7) ∷ [])) ≡ (5, 7, service.Kv, 1 ∷ []) ∷ []
  by_route e = rw e refl

  -- one that says anything else acknowledges nothing
  not_by_route : acknowledgements_of 5 m s (route (reply.Busy 64) ∷ []) ≡ []
  not_by_route = refl

  -- and so does a peon that replies to its client
  not_by_peon : (to : Session) → is_leading s.phase ≡ false → acknowledgements_of 5 m s (sent.Reply to (reply.Done 7) ∷ []) ≡ []
  not_by_peon to e = rw e refl

-- a map with two committed versions, of which the log has the first
module _ (m : Store) (x y : List ℕ) (last : last_of m ≡ 2) (kept : cell m area.Paxos (key.Version 2) ≡ Some y) where
  recovered : is_marked m ≡ false → grown (x ∷ []) m ≡ x ∷ y ∷ []
  unfolding grown
  recovered unmarked = rw (unmarked, last, kept) refl

  -- one under a full synchronization has no committed versions
  not_yet : is_marked m ≡ true → grown (x ∷ []) m ≡ x ∷ []
  unfolding grown
  not_yet marked = rw marked refl

-- it makes no difference that the monitor that learned it crashed, if only its store kept it
crashed : (w : World) (p : Plain) (i : ℕ) (r : Reaction) (x y : List ℕ) → w.log ≡ x ∷ [] → last_of (map_after w i r) ≡ 2 → cell (map_after w i r) area.Paxos (key.Version 2) ≡ Some y
    → is_marked (map_after w i r) ≡ false → (kept_only w p i r).log ≡ x ∷ y ∷ []
unfolding kept_only
crashed w p i r x y log last kept unmarked = ap (λ (l : List (List ℕ)). grown l (map_after w i r)) log ∙ recovered (map_after w i r) x y last kept unmarked
