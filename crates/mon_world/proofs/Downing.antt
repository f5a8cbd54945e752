-- What a monitor represents after a disk failed in its event: it is down.
use Rattle.std.proofs.Common.{◌≡◌, ℕ, Bool, true, false, List, Option, Some, None, Result, Ok, refl, sym, ap, subst, ◌∙◌}
use Rattle.std.specs.Prelude.{if◌then◌else◌}
use Rattle.mon_disk.specs.MemoryDisk.{MemoryState}
use Rattle.mon_disk.specs.Memory.{seen_of}
use Rattle.mon_core.specs.Core.{Monitor as Core}
use Rattle.mon_msg.specs.Protocol.Reaction.{Reaction, reaction}
use Rattle.mon_msg.specs.Protocol.Readings.{readings_of}
use Rattle.mon_msg.specs.Protocol.State.{State}
use Rattle.mon_msg.specs.declared.input.Input.{Input}
use Rattle.mon_msg.specs.declared.view.Me.{Me}
use Rattle.mon_site.specs.Faults.{OpensMap, Rests}
use Rattle.mon_site.specs.declared.injected.InjectedFault.{InjectedFault}
use Rattle.mon_store.specs.Pair.{Refusal}
use Rattle.mon_store.specs.StoreView.{StoreView}
use Rattle.mon_tx.specs.Map.{Store, apply}
use Rattle.mon_types.specs.declared.member.Member.{Member}
use Rattle.mon_types.specs.declared.names.Which.{Which}
use Rattle.quorum_model.specs.Files.{Files}
use Rattle.quorum_model.specs.Growth.{last_of}
use Rattle.quorum_model.specs.Meets.{state_at}
use Rattle.quorum_model.specs.Scenes.{ops_of}
use Rattle.svc_core.specs.Cache.{Follows}
use Rattle.svc_core.specs.declared.cache.Cache.{Cache}
use Rattle.mon_world.specs.declared.crash.Remains.{Remains}
use Rattle.mon_world.specs.declared.crash.Written.{Written}
use Rattle.mon_world.specs.declared.monitor.Kept.TheVariants.{Down}
use Rattle.mon_world.specs.declared.monitor.Monitor.{Monitor}
use Rattle.mon_world.specs.declared.stop.WorldStop.{WorldStop}
use Rattle.mon_world.specs.Crashes.{Crashes, IsDown, IsRemains, files_remaining, keeps, map_remaining, marked_if, written, written_if}
use Rattle.mon_world.specs.Monitor.{Holds, Represents, remembered}
use Rattle.mon_world.proofs.Remembering.{remembered_so, same_state}

-- ---- two disks have one map

same_store_view : (x y : StoreView) → ◌≡◌ {A = Result StoreView Refusal} (Ok x) (Ok y) → x ≡ y
same_store_view x y e = cc

one_map : (member : Member) (m n : Store) (a b : List ℕ) → OpensMap member m a b → OpensMap member n a b → m ≡ n
one_map member m n a b x y = sym x.map ∙ (ap (λ (s : StoreView). s.kv) (same_store_view x.store_view y.store_view (sym x.opens ∙ y.opens)) ∙ y.map)

-- a cache that follows one map of two disks follows each
pub follows_each : (member : Member) (m n : Store) (f g : Files) (a b : MemoryState) (cache : Cache) → Rests member m f a b → Follows cache (readings_of m) → Rests member n g a b → Follows cache (readings_of n)
follows_each member m n f g a b cache x follows y =
    subst (λ (m : Store). Follows cache (readings_of m)) (one_map member m n (seen_of a.life) (seen_of b.life) x.opens y.opens) follows

-- ---- what was taken

-- the state of the core that takes an input
pub remembers : (me : Me) (s : Option State) (came : Input) (before now to : State) → before ≡ remembered me s → state_at me.member.rank (Some before) came ≡ Some now → state_at me.member.rank s came ≡ Some to → now ≡ to
remembers me s came before now to is forgets at =
    same_state now to (sym forgets ∙ (ap (λ (x : State). state_at me.member.rank (Some x) came) is ∙ remembered_so me s came to at))

-- it crashes as its monitor does
pub crashes_as : (u : InjectedFault) (m : Store) (f : Files) (came : Input) (now : ℕ) (result : Result Remains WorldStop) (core : Core) (me : Me) (to : State) → core.me ≡ me → core.state ≡ to
    → Crashes u me.member m f came (reaction core.me now m core.state came) result → Crashes u me.member m f came (reaction me now m to came) result
crashes_as u m f came now result core me to me_is state_is h =
    subst (λ (x : State). Crashes u me.member m f came (reaction me now m x came) result) state_is
    (subst (λ (k : Me). Crashes u me.member m f came (reaction k now m core.state came) result) me_is h)

-- the same by the monitor's own identity
pub crashes_itself : (u : InjectedFault) (m : Store) (s : Option State) (f : Files) (came : Input) (now : ℕ) (result : Result Remains WorldStop) (monitor : Monitor) (me : Me) (to : State) → Represents me m s f monitor → state_at me.member.rank s came ≡ Some to
    → (Holds monitor.me m s f monitor.kept → state_at monitor.me.member.rank s came ≡ Some to → Crashes u monitor.me.member m f came (reaction monitor.me now m to came) result)
    → Crashes u me.member m f came (reaction me now m to came) result
crashes_itself u m s f came now result monitor me to stands at h =
    subst (λ (k : Me). Crashes u k.member m f came (reaction k now m to came) result) stands.me_is
    (h (subst (λ (k : Me). Holds k m s f monitor.kept) (sym stands.me_is) stands.holds) (subst (λ (k : Me). state_at k.member.rank s came ≡ Some to) (sym stands.me_is) at))

-- ---- a monitor that is down

some_written : (x y : Written) → ◌≡◌ {A = Option Written} (Some x) (Some y) → x ≡ y
some_written x y e = cc

module _ (u : InjectedFault) (me : Me) (m : Store) (f : Files) (came : Input) (r : Result Reaction Which) (remains : Remains) (left : IsRemains u me.member m f came r remains) (new : Monitor) (me_is : new.me ≡ me) (down : new.kept ≡ Down remains.disks) where
  holds : Holds me (map_remaining u m f came r) None (files_remaining u m f came r) new.kept
  holds = subst (Holds me (map_remaining u m f came r) None (files_remaining u m f came r)) (sym down) left.rests

  left_is : (k : Bool) → keeps u m f came r ≡ k → map_remaining u m f came r ≡ (if k then apply (ops_of r) m else m)
  unfolding map_remaining
  left_is k so = ap (λ (k : Bool). if k then apply (ops_of r) m else m) so

  -- its transaction is kept
  pub down_kept : (w : Written) → remains.kept ≡ Some w → new.last ≡ w.last → IsDown u me m f came r (Some w.marked) new
  down_kept w some last = by (keeps u m f came r) refl
    where
      by : (k : Bool) → keeps u m f came r ≡ k → IsDown u me m f came r (Some w.marked) new
      by true so =
          let is : w ≡ written (apply (ops_of r) m) = some_written w (written (apply (ops_of r) m)) (sym some ∙ (left.kept ∙ ap (λ (k : Bool). written_if k (apply (ops_of r) m)) so)) in record {
            goes_on = left.goes_on;
            reported_is = ap (λ (w : Written). Some w.marked) is ∙ ap (λ (k : Bool). marked_if k (apply (ops_of r) m)) (sym so);
            stands = record {
              me_is = me_is;
              last = last ∙ (ap (λ (w : Written). w.last) is ∙ ap last_of (sym (left_is true so)));
              holds = holds;
            };
          }
      by false so = absurd (let e : ◌≡◌ {A = Option Written} (Some w) None = sym some ∙ (left.kept ∙ ap (λ (k : Bool). written_if k (apply (ops_of r) m)) so) in cc)

  -- or lost
  pub down_lost : remains.kept ≡ None → new.last ≡ last_of m → IsDown u me m f came r None new
  down_lost none last = by (keeps u m f came r) refl
    where
      by : (k : Bool) → keeps u m f came r ≡ k → IsDown u me m f came r None new
      by false so = record {
        goes_on = left.goes_on;
        reported_is = ap (λ (k : Bool). marked_if k (apply (ops_of r) m)) (sym so);
        stands = record {
          me_is = me_is;
          last = last ∙ ap last_of (sym (left_is false so));
          holds = holds;
        };
      }
      by true so = absurd (let e : ◌≡◌ {A = Option Written} None (Some (written (apply (ops_of r) m))) = sym none ∙ (left.kept ∙ ap (λ (k : Bool). written_if k (apply (ops_of r) m)) so) in cc)
