-- What is under way between two members of a quorum that is led is no call, and of no later epoch.
use Rattle.law_names.proofs.Runs.{Envelope, Monitors, message_at}
use Rattle.law_names.proofs.Table.{AllByRecursion, Body, Message}
use Rattle.mon_wire.specs.declared.body.Body.TheVariants as body
use Rattle.quorum_stays.specs.Steady.{Carries, IsAside, IsItem, IsOfClients, IsOfEarlier, IsOfElections, Item, Reign}
use Rattle.quorum_timed.specs.Calls.{IsCall}
use Rattle.quorum_timed.specs.Timed.{Owed}
use Rattle.std.proofs.Common.{IsSomeAnd, List, Some, [], ap, arith, inl, inr, refl, subst, sym, ℕ, ◌∙◌, ◌∷◌, ◌≡◌, ◌≤◌, ◌⊎◌}
use Rattle.timed_election.proofs.Lists.{opened}
use Rattle.timed_election.specs.Joining.{IsOld, IsOther}
use Rattle.timed_failover.proofs.WaningCalls.{CallsNone}

is_other : (b : Body) → IsOfClients b ⊎ IsOfElections b → (IsCall b → ⊥) → IsOther b
is_other (body.Propose table) k n = n tt
is_other (body.ProbeReply quorum first last) (inl k) n = k
is_other (body.ProbeReply quorum first last) (inr k) n = k
is_other other k n = tt

pub aside_is : (epoch f : ℕ) (m : Message) → IsOfClients m.body ⊎ IsOfEarlier epoch f m → IsOfClients m.body ⊎ IsOfElections m.body
aside_is epoch f m (inl k) = inl k
aside_is epoch f m (inr k) = inr k.elects

module _ (ms : Monitors) (reign : Reign) (messages : List Envelope) (f i top : ℕ) (early : (k : ℕ) (m : Envelope) → message_at messages k ≡ Some m → m.message.from ≡ f → m.message.epoch ≤ reign.epoch) where
  aside_old : (o : Owed) → o.by ≤ top → IsSomeAnd (message_at messages o.number) (λ m. (m.message.from ≡ f) × (m.to ≡ i)) → IsSomeAnd (message_at messages o.number) (λ m. IsCall m.message.body → ⊥)
      → IsAside reign.epoch messages f i o → IsOld reign.epoch messages f i top o
  aside_old o in_time between silent A =
      let b = opened (λ (m : Envelope). (m.message.from ≡ f) × (m.to ≡ i)) (message_at messages o.number) between in
      let c = opened (λ (m : Envelope). IsCall m.message.body → ⊥) (message_at messages o.number) silent in
      let same : A.envelope ≡ b.0 = (let two : Some A.envelope ≡ Some b.0 = sym A.there ∙ b.1 in cc) in
      let same_too : A.envelope ≡ c.0 = (let two : Some A.envelope ≡ Some c.0 = sym A.there ∙ c.1 in cc) in
      let from : A.envelope.message.from ≡ f = ap (λ (m : Envelope). m.message.from) same ∙ b.2.0 in
      record {
        envelope = A.envelope;
        there = A.there;
        sender = from;
        receiver = A.receiver;
        early = early o.number A.envelope A.there from;
        kind = is_other A.envelope.message.body (aside_is reign.epoch f A.envelope.message A.aside) (λ k. c.2 (subst (λ (m : Envelope). IsCall m.message.body) same_too k));
        in_time = in_time;
      }

  item_old : (x : Item) (o : Owed) → IsOther x.body → o.by ≤ top → IsItem ms reign messages f i top x o → IsOld reign.epoch messages f i top o
  item_old x o other in_time I = record { envelope = _; there = I.there; sender = refl; receiver = refl; early = omega arith; kind = other; in_time = in_time }

  pub carried_old : (xs : List Item) (os : List Owed) → AllByRecursion (λ x. IsOther x.body) xs → AllByRecursion (λ o. IsSomeAnd (message_at messages o.number) (λ m. (m.message.from ≡ f) × (m.to ≡ i))) os
      → CallsNone messages os → Carries ms reign messages f i top xs os → AllByRecursion (IsOld reign.epoch messages f i top) os
  carried_old xs [] others between silent carries = tt
  carried_old xs (o ∷ os) others between silent carries = elim carries.1 [
    | inl k ↦ (aside_old o carries.0 between.0 silent.0 k.0, carried_old xs os others between.1 silent.1 k.2)
    | inr k ↦
        let rest : AllByRecursion (λ x. IsOther x.body) (k.0 ∷ k.1) = subst (AllByRecursion (λ x. IsOther x.body)) k.2 others in
        (item_old k.0 o rest.0 carries.0 k.3, carried_old k.1 os rest.1 between.1 silent.1 k.4)
  ]
