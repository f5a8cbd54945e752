-- What holds of the answers of every run.
use Rattle.law_names.proofs.Runs.{Acknowledged, AllFit, Event, IsFenced, Monitors, Replied, Safe, run}
use Rattle.law_names.proofs.Table.{AllByRecursion, Contains, Reply}
use Rattle.log_model.proofs.Lists.{of_all}
use Rattle.mon_wire.specs.declared.reply.Reply.TheVariants as reply
use Rattle.quorum_agreement.proofs.SafeWorlds.{safe}
use Rattle.quorum_answers.proofs.Ordering.{AllPairs, Ordered}
use Rattle.quorum_answers.proofs.Whole.{after_events}
use Rattle.quorum_answers.specs.Linear.{Completed, Linearizable, Operation, Precedes, Read, Write, its_epoch, its_event}
use Rattle.quorum_answers.specs.Reads.{EachOnward, EpochsOnward, Shows}
use Rattle.std.proofs.Common.{List, arith, ◌<◌, ◌≡◌, ◌≤◌}

pub each_onward : (ms : Monitors) (events : List Event) → AllFit ms.count events → EachOnward (run ms events)
each_onward ms events F = let O = (after_events ms events F).1 in O.order

ordered : (ms : Monitors) (events : List Event) → AllFit ms.count events → Ordered (run ms events)
ordered ms events F = (after_events ms events F).3

pub epochs_onward : (ms : Monitors) (events : List Event) → AllFit ms.count events → EpochsOnward (run ms events)
epochs_onward ms events F = let O = ordered ms events F in O.reads

of_pairs : {A B : Type 0} (P : A → B → Type 0) (xs : List A) (ys : List B) → AllPairs P xs ys → (x : A) (y : B) → Contains xs x → Contains ys y → P x y
of_pairs P xs ys k x y a b = of_all (P x) ys (of_all (λ z. AllByRecursion (P z) ys) xs k x a) y b

fenced : (a : Acknowledged) (r : Replied) (y : Reply) → IsFenced a r y → Shows y → a.event < r.event → a.what.epoch ≡ r.epoch → a.what.version ≤ r.last
fenced a r (reply.Shown s paxos version map) k t = k
fenced a r (reply.Since s from told more) k t = k
fenced a r other k t = absurd t

pub linearizable : (ms : Monitors) (events : List Event) → AllFit ms.count events → Linearizable ms.count (run ms events)
linearizable ms events F = record { writes = S.kept; reads = S.shown; order = order }
  where
    S : Safe ms events
    S = safe ms events F

    O : Ordered (run ms events)
    O = ordered ms events F

    order : (x y : Operation) → Completed (run ms events) x → Completed (run ms events) y → its_epoch x ≡ its_epoch y → its_event x < its_event y → Precedes x y
    order (Write a) (Write b) i j e lt = of_pairs _ (run ms events).acknowledged (run ms events).acknowledged O.writes a b i j e lt
    order (Write a) (Read r) i j e lt = fenced a r r.reply (of_pairs (λ (b : Acknowledged) (q : Replied). IsFenced b q q.reply) (run ms events).acknowledged (run ms events).replied S.fence a r i j.0) j.1 lt e
    order (Read r) (Write a) i j e lt = of_pairs _ (run ms events).replied (run ms events).acknowledged O.mixed r a i.0 j i.1 e lt
    order (Read q) (Read r) i j e lt = of_pairs _ (run ms events).replied (run ms events).replied O.reads q r i.0 j.0 e i.1 j.1 (omega arith)
