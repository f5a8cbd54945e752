-- What a monitor that is up, or that starts, represents.
use Rattle.std.proofs.Common.{◌≡◌, ℕ, Option, Some, None, Ok, refl, sym, ap, subst, ◌∙◌}
use Rattle.mon_core.specs.Core.{Monitor as Core}
use Rattle.mon_core.specs.declared.reaction.Reaction as core
use Rattle.mon_disk.specs.MemoryDisk.{MemoryState}
use Rattle.mon_disk.specs.declared.node.NodeDisks.{NodeDisks}
use Rattle.mon_msg.specs.Protocol.Readings.{readings_of}
use Rattle.mon_msg.specs.Protocol.State.{State, booting}
use Rattle.mon_msg.specs.declared.input.Input.{Input}
use Rattle.mon_msg.specs.declared.view.Me.{Me}
use Rattle.mon_site.specs.Calm.{Runs}
use Rattle.mon_site.specs.Faults.{Rests}
use Rattle.mon_store.specs.declared.store.Store as kept
use Rattle.mon_tx.specs.Map.{Store}
use Rattle.quorum_model.specs.Files.{Files, after_opening}
use Rattle.quorum_model.specs.Growth.{last_of}
use Rattle.svc_core.specs.Cache.{Follows}
use Rattle.mon_world.specs.declared.monitor.Kept.{Kept}
use Rattle.mon_world.specs.declared.monitor.Kept.TheVariants.{Up}
use Rattle.mon_world.specs.declared.monitor.Monitor.{Monitor}
use Rattle.mon_world.specs.declared.monitor.Running.{Running}
use Rattle.mon_world.specs.Monitor.{Holds, IsUp, Reacts, Represents, RepresentsAfter, Takes, remembered}

-- the monitor is up, so its core has a state
pub record IsInUse (me : Me) (m : Store) (s : Option State) (f : Files) (r : Running) : Type 0 where
  pub state : State
  pub something : s ≡ Some state
  pub is_up : IsUp me m state f r

in_use : (me : Me) (m : Store) (s : Option State) (f : Files) (r : Running) → Holds me m s f (Up r) → IsInUse me m s f r
in_use me m None f r h = absurd h
in_use me m (Some x) f r h = record { state = x; something = refl; is_up = h }

pub up : (me : Me) (m : Store) (s : Option State) (f : Files) (kept : Kept) (r : Running) → kept ≡ Up r → Holds me m s f kept → IsInUse me m s f r
up me m s f kept r is h = in_use me m s f r (subst (Holds me m s f) is h)

pub as_known : (me : Me) (m : Store) (s : State) (f : Files) (kept : Kept) (r : Running) → kept ≡ Up r → Holds me m (Some s) f kept → IsUp me m s f r
as_known me m s f kept r is h = subst (Holds me m (Some s) f) is h

-- what a monitor keeps, by its own identity
pub holds_itself : (me : Me) (m : Store) (s : Option State) (f : Files) (monitor : Monitor) → Represents me m s f monitor → Holds monitor.me m s f monitor.kept
holds_itself me m s f monitor stands = subst (λ (me : Me). Holds me m s f monitor.kept) (sym stands.me_is) stands.holds

-- ---- what is taken of it

pub taken_up : (me : Me) (m : Store) (s : Option State) (f : Files) (disks : NodeDisks MemoryState) (r : Running) → IsInUse me m s f r → Rests me.member m f disks.a disks.b
    → Takes me m s f (record { disks = disks; core = r.core })
taken_up me m s f disks r used rests = record {
  rests = rests;
  me_is = used.is_up.me_is;
  state = used.is_up.state ∙ ap (remembered me) (sym used.something);
  follows = used.is_up.follows;
}

-- ---- one that starts

same_me : (a b : Me) → a.member ≡ b.member → a.rule ≡ b.rule → a ≡ b
same_me a b member rule = λ i. record { member = member i; rule = rule i }

-- its store is open again, and its core is new
pub started : (me : Me) (m : Store) (f : Files) (old : Monitor) → old.me ≡ me → old.last ≡ last_of m → (store : kept.Store MemoryState) (boot : Core) → Runs old.me.member m (after_opening f) store
    → boot.me.member ≡ old.me.member → boot.me.rule ≡ old.me.rule → boot.state ≡ booting old.me.member.rank → Follows boot.cache (readings_of m)
    → Represents me m (Some (booting me.member.rank)) (after_opening f) (record old { kept = Up (record { store = store; core = boot }) })
started me m f old me_is last store boot runs member rule state follows = record {
  me_is = me_is;
  last = last;
  holds = record {
    runs = subst (λ (me : Me). Runs me.member m (after_opening f) store) me_is runs;
    me_is = same_me boot.me old.me member rule ∙ me_is;
    state = state ∙ ap (λ (me : Me). booting me.member.rank) me_is;
    follows = follows;
  };
}

-- ---- one that reacts

-- its field `last` is the last version of its store
pub stands_after : (me : Me) (now : ℕ) (m : Store) (s : State) (f : Files) (came : Input) (old : Monitor) (r : Running) (reaction : core.Reaction) (last : ℕ) → old.me ≡ me
    → Reacts me now m s f came r (Ok reaction) → last ≡ last_of r.store.kv → RepresentsAfter me now m s f came (record old { last = last; kept = Up r }) (Ok reaction)
stands_after me now m s f came old r reaction last me_is h last_is =
    (h.0, h.1, record { me_is = me_is; last = last_is ∙ ap last_of h.2.runs.map; holds = h.2 })
