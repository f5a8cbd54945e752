-- Single events at a monitor that may be in a full synchronization.
use Rattle.law_names.proofs.Runs.{Arrival, Deliver, Envelope, Ring, Start, World}
use Rattle.law_names.proofs.Table.{Course, Message, State, Timer, booting, has, react, readings_of, shared_entries}
use Rattle.mon_msg.specs.declared.input.Input.TheVariants as input
use Rattle.quorum_elects.proofs.Can.{Can, New, Sane, Scope, new_step}
use Rattle.quorum_elects.proofs.Moving.{Bears, Did, Sound, comes, copies}
use Rattle.quorum_elects.proofs.Walking.{Surely}
use Rattle.quorum_model.proofs.Members.{member_of}
use Rattle.std.proofs.Common.{Some, ap, ltb, option_map, refl, suc, true, ℕ, ◌≡◌}
use Rattle.std.proofs.lemmas.Bool.{ltb-true}

abbrev arrives : (at : ℕ) → Envelope → Arrival
arrives at e = record { rank = e.to; at = at; input = input.Deliver e.message }

module _ (S : Scope) (w : World) (sane : Sane S w) (i : ℕ) (lt : ltb i S.ms.count ≡ true) (inside : has S.q i ≡ true) (R : Course → Type 0) where
  pub start : Surely (λ y. Sound (readings_of (w.store i)) y × R y) (react (member_of S.ms i lt) (shared_entries (w.store i)) (S.clock.event w) (readings_of (w.store i)) (booting i) input.Start) → Can S 1 (Did S R w i) w
  start T = comes S w sane (Start i (S.clock.event w)) i lt (S.clock.event w) input.Start (booting i) refl refl (refl, inside) inside (ltb-true i S.ms.count lt) R T

  pub deliver : (m : Message) → New S.sent w (record { to = i; message = m }) → (s : State) → w.state i ≡ Some s
      → Surely (λ y. Sound (readings_of (w.store i)) y × R y) (react (member_of S.ms i lt) (shared_entries (w.store i)) (S.clock.event w) (readings_of (w.store i)) s (input.Deliver m)) → Can S 1 (Did S R w i) w
  deliver m N s up T = comes S w sane (Deliver (suc N.index) (S.clock.event w)) i lt (S.clock.event w) (input.Deliver m) s (ap (option_map (arrives (S.clock.event w))) N.there) up (new_step S.q S.asks S.clock N inside) inside tt R T

  pub start_copy : Surely (λ y. Bears (w.store i) y × R y) (react (member_of S.ms i lt) (shared_entries (w.store i)) (S.clock.event w) (readings_of (w.store i)) (booting i) input.Start) → Can S 1 (Did S R w i) w
  start_copy T = copies S w sane (Start i (S.clock.event w)) i lt (S.clock.event w) input.Start (booting i) refl refl (refl, inside) inside (ltb-true i S.ms.count lt) R T

  pub deliver_copy : (m : Message) → New S.sent w (record { to = i; message = m }) → (s : State) → w.state i ≡ Some s
      → Surely (λ y. Bears (w.store i) y × R y) (react (member_of S.ms i lt) (shared_entries (w.store i)) (S.clock.event w) (readings_of (w.store i)) s (input.Deliver m)) → Can S 1 (Did S R w i) w
  deliver_copy m N s up T = copies S w sane (Deliver (suc N.index) (S.clock.event w)) i lt (S.clock.event w) (input.Deliver m) s (ap (option_map (arrives (S.clock.event w))) N.there) up (new_step S.q S.asks S.clock N inside) inside tt R T

  pub ring_copy : (t : Timer) → (s : State) → w.state i ≡ Some s
      → Surely (λ y. Bears (w.store i) y × R y) (react (member_of S.ms i lt) (shared_entries (w.store i)) (S.clock.event w) (readings_of (w.store i)) s (input.Timer t)) → Can S 1 (Did S R w i) w
  ring_copy t s up T = copies S w sane (Ring i t (S.clock.event w)) i lt (S.clock.event w) (input.Timer t) s refl up (refl, inside) inside (ltb-true i S.ms.count lt) R T
