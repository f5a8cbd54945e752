-- Whether a crash keeps what a monitor writes, and what it leaves, is as the model says.
use Rattle.std.proofs.Common.{◌≡◌, ℕ, ◌+◌, ◌-◌, ◌≤◌, ◌<◌, Bool, true, false, List, Option, Some, None, Result, Ok, Err, refl, sym, ap, subst, ◌∙◌, arith}
use Rattle.std.specs.Prelude.{◌&&◌, nat_le, nat_lt, is_err, if◌then◌else◌}
use Rattle.std.proofs.lemmas.Bool.{le-leb, le-ltb, lt-leb, lt-ltb}
use Rattle.mon_kv.specs.Readers.{size_of, most_size}
use Rattle.mon_msg.specs.Protocol.Reaction.{Reaction}
use Rattle.mon_msg.specs.declared.input.Input.{Input}
use Rattle.mon_msg.specs.declared.input.Input.TheVariants as input
use Rattle.mon_site.specs.Ending.{is_kept}
use Rattle.mon_site.specs.declared.injected.InjectedFault.{InjectedFault}
use Rattle.mon_tx.specs.Map.{Store, apply}
use Rattle.mon_tx.specs.declared.op.Op.{Op}
use Rattle.mon_types.specs.declared.names.Which.{Which}
use Rattle.quorum_model.specs.Cuts.{append_cut, files_cut, opening_cut}
use Rattle.quorum_model.specs.Files.{File, Files, after_opening, live_side}
use Rattle.quorum_model.specs.Happens.{unless_stopped}
use Rattle.quorum_model.specs.Scenes.{opening_of}
use Rattle.quorum_model.specs.InjectedFaults.{crash_keeps, opening_count, opens_gate, same_side, stops, writes_nothing}
use Rattle.quorum_model.specs.Scenes.{ops_of}
use Rattle.mon_site.specs.Faults.{Rests}
use Rattle.mon_types.specs.declared.member.Member.{Member}
use Rattle.mon_world.specs.declared.crash.Remains.{Remains}
use Rattle.mon_world.specs.declared.stop.WorldStop.{WorldStop}
use Rattle.mon_world.specs.declared.stop.WorldStop.TheVariants.{OutOfMemory, Spent, Full}
use Rattle.mon_world.specs.Crashes.{Ends, Crashes, IsRemains, Settled, StopsKept, counted, files_remaining, keeps, map_remaining, injected_of, written_if}
use Rattle.mon_world.specs.Stops.{Stops}

-- the side that is live is the same after an opening: if both disks are empty, the store is created on disk A
live_opened : (a b : Option File) → live_side (after_opening (record { a = a; b = b })) ≡ live_side (record { a = a; b = b })
live_opened None None = refl
live_opened None (Some b) = refl
live_opened (Some a) None = refl
live_opened (Some a) (Some b) = refl

-- the fault with its call counted from the end of an opening of this many calls
abbrev pub behind : InjectedFault → ℕ → InjectedFault
behind u opening = record { disk = u.disk; call = u.call - opening; image = u.image }

-- ---- the call from which a fault is counted

pub record IsBehind (u : InjectedFault) (f : Files) (came : Input) (n : ℕ) : Type 0 where
  pub same : behind (counted u came n) n ≡ behind u (opening_of came u.disk f)
  pub later : opening_of came u.disk f < u.call

called : (u : InjectedFault) (n : ℕ) → behind (record { disk = u.disk; call = u.call + n; image = u.image }) n ≡ behind u 0
called u n = ap (λ (k : ℕ). record { disk = u.disk; call = k; image = u.image }) (let e : (u.call + n) - n ≡ u.call - 0 = omega arith in e)

pub counted_behind : (u : InjectedFault) (f : Files) (came : Input) (n : ℕ) → 1 ≤ u.call → n ≡ opening_count u.disk f → opening_count u.disk f < (counted u came n).call → IsBehind u f came n
counted_behind u f input.Start n first is late = record { same = ap (behind u) is; later = late }
counted_behind u f (input.Deliver m) n first is late = record { same = called u n; later = first }
counted_behind u f (input.Timer t) n first is late = record { same = called u n; later = first }
counted_behind u f (input.Client session r) n first is late = record { same = called u n; later = first }

-- only a start's opening fails
pub record IsStart (u : InjectedFault) (f : Files) (came : Input) : Type 0 where
  pub start : came ≡ input.Start
  pub early : u.call ≤ opening_count u.disk f

pub fails_at_start : (u : InjectedFault) (f : Files) (came : Input) (n : ℕ) → 1 ≤ u.call → n ≡ opening_count u.disk f → (counted u came n).call ≤ opening_count u.disk f → IsStart u f came
fails_at_start u f input.Start n first is early = record { start = refl; early = early }
fails_at_start u f (input.Deliver m) n first is early = absurd (omega arith)
fails_at_start u f (input.Timer t) n first is early = absurd (omega arith)
fails_at_start u f (input.Client session r) n first is early = absurd (omega arith)

-- ---- opening went through

module _ (u : InjectedFault) (m : Store) (f : Files) (opening : ℕ) (late : opening < u.call) where
  late_so : nat_lt opening u.call ≡ true
  late_so = lt-ltb opening u.call late

  -- what stops the run counts as kept
  pub stop_kept : (r : Result Reaction Which) → stops m r ≡ true → crash_keeps f m opening (injected_of u) r ≡ true
  stop_kept r e = rw (e, late_so) refl

  small_goes_on : (r : Reaction) → size_of (apply r.transaction m) ≤ most_size → stops m (Ok r) ≡ false
  small_goes_on r small = let fits : nat_lt most_size (size_of (apply r.transaction m)) ≡ false = le-ltb most_size (size_of (apply r.transaction m)) small in rw fits refl

  pub kept_so : (r : Reaction) → size_of (apply r.transaction m) ≤ most_size
      → crash_keeps f m opening (injected_of u) (Ok r) ≡ is_kept (behind u opening) (after_opening f) r.transaction
  kept_so r small = rw (small_goes_on r small, late_so, live_opened f.a f.b) refl

  pub goes_on : (r : Reaction) → size_of (apply r.transaction m) ≤ most_size → is_err (unless_stopped m (Ok r)) ≡ false
  goes_on r small = small_goes_on r small

  pub files_so : (ops : List Op)
      → files_cut f m opening (injected_of u) ops ≡ append_cut (after_opening f) m u.disk (u.call - opening) u.image ops
  files_so ops = let past : nat_le u.call opening ≡ false = lt-leb u.call opening late in rw past refl

-- ---- a monitor whose disk fails

module _ (u : InjectedFault) (member : Member) (m : Store) (f : Files) (came : Input) (later : opening_of came u.disk f < u.call) where
  left : (x : Reaction) (remains : Remains) → Settled (behind u (opening_of came u.disk f)) member m (after_opening f) x.transaction remains → IsRemains u member m f came (Ok x) remains
  unfolding keeps map_remaining files_remaining
  left x remains s =
      let same = kept_so u m f (opening_of came u.disk f) later x s.room in
      let files = files_so u m f (opening_of came u.disk f) later x.transaction in record {
        goes_on = λ _. goes_on u m f (opening_of came u.disk f) later x s.room;
        kept = s.kept ∙ ap (λ (k : Bool). written_if k (apply x.transaction m)) (sym same);
        rests =
            subst (λ (k : Bool). Rests member (if k then apply x.transaction m else m) (files_remaining u m f came (Ok x)) remains.disks.a remains.disks.b) (sym same)
            (subst (λ (g : Files). Rests member (if is_kept (behind u (opening_of came u.disk f)) (after_opening f) x.transaction then apply x.transaction m else m) g remains.disks.a remains.disks.b) (sym files) s.rests);
      }

  stopped : (e : WorldStop) (r : Result Reaction Which) → Stops e (unless_stopped m r) → StopsKept e (keeps u m f came r) (unless_stopped m r)
  unfolding keeps
  stopped OutOfMemory r h = tt
  stopped (Spent which) r h = (stop_kept u m f (opening_of came u.disk f) later r (ap is_err h), h)
  stopped (Full would_be) r h = (stop_kept u m f (opening_of came u.disk f) later r (ap is_err h), h)

  pub ended : (r : Result Reaction Which) (result : Result Remains WorldStop) → Ends (behind u (opening_of came u.disk f)) member m (after_opening f) r result → Crashes u member m f came r result
  ended r (Ok remains) h = subst (λ (r : Result Reaction Which). IsRemains u member m f came r remains) (sym h.1) (left h.0 remains h.2)
  ended r (Err e) h = stopped e r h

-- a start whose opening failed loses what it would write
lost : (u : InjectedFault) (m : Store) (f : Files) (r : Result Reaction Which) → u.call ≤ opening_count u.disk f → writes_nothing r ≡ false → keeps u m f input.Start r ≡ false
unfolding keeps
lost u m f r early writes =
    let never : nat_lt (opening_count u.disk f) u.call ≡ false = le-ltb (opening_count u.disk f) u.call early in
    let none : u.call - opening_count u.disk f ≡ 0 = omega arith in
    by (stops m r) (same_side u.disk (live_side f)) never none writes
  where
    by : (b c : Bool) → nat_lt (opening_count u.disk f) u.call ≡ false → u.call - opening_count u.disk f ≡ 0 → writes_nothing r ≡ false
        → (if b && nat_lt (opening_count u.disk f) u.call then true else (if writes_nothing r then true else (if c then opens_gate 3 (u.call - opening_count u.disk f) u.image else nat_lt (opening_count u.disk f) u.call))) ≡ false
    by true true never none writes = rw (never, writes, none) refl
    by true false never none writes = rw (never, writes) refl
    by false true never none writes = rw (writes, none) refl
    by false false never none writes = rw (writes, never) refl

pub failed : (u : InjectedFault) (member : Member) (m : Store) (f : Files) (r : Result Reaction Which) (remains : Remains) → u.call ≤ opening_count u.disk f → writes_nothing r ≡ false
    → remains.kept ≡ None → Rests member m (opening_cut f u.disk u.call u.image) remains.disks.a remains.disks.b → IsRemains u member m f input.Start r remains
unfolding keeps map_remaining files_remaining
failed u member m f r remains early writes none rests =
    let is = lost u m f r early writes in
    let files : files_remaining u m f input.Start r ≡ opening_cut f u.disk u.call u.image =
    let first : nat_le u.call (opening_count u.disk f) ≡ true = le-leb u.call (opening_count u.disk f) early in rw first refl in record {
      goes_on = λ k. absurd (let e : true ≡ false = sym k ∙ is in cc);
      kept = none ∙ ap (λ (k : Bool). written_if k (apply (ops_of r) m)) (sym is);
      rests =
          subst (λ (k : Bool). Rests member (if k then apply (ops_of r) m else m) (files_remaining u m f input.Start r) remains.disks.a remains.disks.b) (sym is)
          (subst (λ (g : Files). Rests member m g remains.disks.a remains.disks.b) (sym files) rests);
    }
