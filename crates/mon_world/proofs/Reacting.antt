-- What a monitor that is up does at an input is what the protocol says.
use Rattle.std.proofs.Common.{◌≡◌, ℕ, ◌≤◌, ◌<◌, true, false, Ok, Err, refl, sym, ap, subst, ◌∙◌}
use Rattle.std.specs.List.{AllByRecursion}
use Rattle.std.specs.Prelude.{nat_lt}
use Rattle.std.proofs.lemmas.Bool.{le-ltb, lt-ltb}
use Rattle.mon_bounds.specs.Fitting.{MaySend}
use Rattle.mon_core.specs.Core.{Monitor}
use Rattle.mon_core.specs.Reacts.{IsReaction, Reacts}
use Rattle.mon_msg.specs.declared.plan.RoleStop.{RoleStop}
use Rattle.mon_msg.specs.declared.plan.RoleStop.TheVariants as stop
use Rattle.mon_core.specs.declared.reaction.Reaction as core
use Rattle.mon_kv.specs.Readers.{size_of, most_size}
use Rattle.mon_msg.specs.Protocol.Reaction.{Reaction, reaction}
use Rattle.mon_msg.specs.Protocol.State.{State}
use Rattle.mon_msg.specs.declared.input.Input.{Input}
use Rattle.mon_msg.specs.declared.view.Me.{Me}
use Rattle.mon_tx.specs.Map.{Store, apply}
use Rattle.quorum_model.specs.Files.{Files}
use Rattle.quorum_model.specs.Happens.{Full, unless_stopped}
use Rattle.mon_world.specs.declared.monitor.Running.{Running}
use Rattle.mon_world.specs.declared.stop.WorldStop.{WorldStop}
use Rattle.mon_world.specs.declared.stop.WorldStop.TheVariants as world
use Rattle.mon_world.specs.Monitor.{IsDone, IsUp, Keeps, does}
use Rattle.mon_world.specs.Monitor.{Reacts as Answers}
use Rattle.mon_world.specs.Stops.{IsntKept, Stops, core_stop}

module _ (me : Me) (now : ℕ) (m : Store) (s : State) (came : Input) where
  has_room : (r : Reaction) → size_of (apply r.transaction m) ≤ most_size → reaction me now m s came ≡ Ok r → does me now m s came ≡ Ok r
  unfolding does
  has_room r small is =
      let fits : nat_lt most_size (size_of (apply r.transaction m)) ≡ false = le-ltb most_size (size_of (apply r.transaction m)) small in
      ap (unless_stopped m) is ∙ rw fits refl

  no_room : (r : Reaction) → most_size < size_of (apply r.transaction m) → reaction me now m s came ≡ Ok r → does me now m s came ≡ Err (Full (size_of (apply r.transaction m)))
  unfolding does
  no_room r large is =
      let past : nat_lt most_size (size_of (apply r.transaction m)) ≡ true = lt-ltb most_size (size_of (apply r.transaction m)) large in
      ap (unless_stopped m) is ∙ rw past refl

  -- a transaction that isn't kept stops the run as the model says
  pub not_kept : (r : Reaction) (e : WorldStop) → reaction me now m s came ≡ Ok r → IsntKept r.transaction m e → Stops e (does me now m s came)
  not_kept r world.OutOfMemory is h = tt
  not_kept r (world.Spent which) is h = absurd h
  not_kept r (world.Full would_be) is h = no_room r h.0 is ∙ ap (λ (n : ℕ). Err (Full n)) (sym h.1)

  module _ (old new : Monitor) (me_is : old.me ≡ me) (state_is : old.state ≡ s) where
    pub reacts_so : (r : core.Reaction) → IsReaction old new m now came r → reaction me now m s came ≡ Ok (record { transaction = r.tx; sends = r.out; state = new.state })
    reacts_so r x = (λ i. reaction (sym me_is i) now m (sym state_is i) came) ∙ x.reacts

    pub done : (r : core.Reaction) → size_of (apply r.tx m) ≤ most_size → IsReaction old new m now came r → IsDone me now m s came new.state r
    done r small x = record {
      does_so = has_room (record { transaction = r.tx; sends = r.out; state = new.state }) small (reacts_so r x);
      short = x.bounded.transaction;
      may_go = subst (λ (me : Me). AllByRecursion (MaySend me) r.out) me_is x.bounded.sends;
      named = x.named;
    }

-- A monitor that is up reacted so, and its transaction was kept: it is up with the new map and state.
pub reacted : (me : Me) (now : ℕ) (m : Store) (s : State) (f : Files) (came : Input) (old new : Running) (kv : Store) (r : core.Reaction) → IsUp me m s f old → kv ≡ old.store.kv
    → IsReaction old.core new.core kv now came r → Keeps me.member m f r.tx new.store (Ok tt) → Answers me now m s f came new (Ok r)
reacted me now m s f came old new kv r up is x kept =
    let so = subst (λ (k : Store). IsReaction old.core new.core k now came r) (is ∙ up.runs.map) x in (
      new.core.state,
      done me now m s came old.core new.core up.me_is up.state r kept.0 so,
      record { runs = kept.1; me_is = so.me ∙ up.me_is; state = refl; follows = so.follows },
    )

pub unkept : (me : Me) (now : ℕ) (m : Store) (s : State) (f : Files) (came : Input) (old : Running) (new : Monitor) (kv : Store) (r : core.Reaction) (e : WorldStop) → IsUp me m s f old
    → kv ≡ old.store.kv → IsReaction old.core new kv now came r → IsntKept r.tx m e → Stops e (does me now m s came)
unkept me now m s f came old new kv r e up is x h =
    let so = subst (λ (k : Store). IsReaction old.core new k now came r) (is ∙ up.runs.map) x in
    not_kept me now m s came (record { transaction = r.tx; sends = r.out; state = new.state }) e (reacts_so me now m s came old.core new up.me_is up.state r so) h

-- a core's stop stops the run as the model says
pub core_stops : (me : Me) (now : ℕ) (m : Store) (s : State) (came : Input) (old new : Monitor) (kv : Store) (e : RoleStop) → old.me ≡ me → old.state ≡ s → kv ≡ m → Reacts old new kv now came (Err e)
    → Stops (core_stop e) (unless_stopped m (reaction me now m s came))
core_stops me now m s came old new kv stop.OutOfMemory me_is state_is is h = tt
core_stops me now m s came old new kv (stop.Spent which) me_is state_is is h =
    ap (unless_stopped m) ((λ i. reaction (sym me_is i) now (sym is i) (sym state_is i) came) ∙ h)
