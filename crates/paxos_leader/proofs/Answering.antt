-- A member's answer to a collect, as calls go on with it.
use Rattle.std.proofs.Common.{◌≡◌, ℕ, suc, ◌≤◌, ◌<◌, ◌^◌, Bool, true, false, ◌&&◌, cond, List, [], ◌∷◌, length, Option, Some, None, Ok, Err, refl, sym, ap, ◌∙◌, arith}
use Rattle.std.specs.List.{AllByRecursion}
use Rattle.std.specs.Prelude.{◌==◌}
use Rattle.std.proofs.lemmas.Bool.{and_parts, le-leb, lt-leb}
use Rattle.mon_msg.specs.Protocol.Changes.{Change, encoded}
use Rattle.mon_msg.specs.Protocol.Collecting.{collect, settle}
use Rattle.mon_msg.specs.Protocol.Course.{Course, ◌>>=◌, leader_is}
use Rattle.mon_msg.specs.Protocol.Found.{counts, better, is_newer}
use Rattle.mon_msg.specs.Protocol.Leader.{is_one_of, note, note_pending, note_answer, all_answered, hear_whole}
use Rattle.mon_msg.specs.Protocol.Phases.{phase_of}
use Rattle.mon_msg.specs.Protocol.Played.{Fits, played}
use Rattle.mon_msg.specs.Protocol.Readings.{Readings, readings_of, epoch_of}
use Rattle.mon_msg.specs.Protocol.Records.{most_value}
use Rattle.mon_msg.specs.Protocol.Sets.{are_within}
use Rattle.mon_msg.specs.Protocol.State.{State, start_leader}
use Rattle.mon_msg.specs.declared.paxos.Found.{Found}
use Rattle.mon_msg.specs.declared.paxos.Leader.{Leader}
use Rattle.mon_msg.specs.declared.paxos.LeaderStage.TheVariants as stage
use Rattle.mon_msg.specs.declared.paxos.LeaderStage.{LeaderStage}
use Rattle.mon_msg.specs.declared.plan.RoleStop.TheVariants as stop
use Rattle.mon_msg.specs.declared.plan.RoleStop.{RoleStop}
use Rattle.mon_msg.specs.declared.view.Me.{Me}
use Rattle.mon_tx.specs.Map.{Store, apply}
use Rattle.mon_tx.specs.Text.{text}
use Rattle.mon_tx.specs.declared.op.Op.{Op}
use Rattle.mon_types.specs.Ranks.{has}
use Rattle.mon_types.specs.declared.names.Which.TheVariants as which
use Rattle.mon_wire.specs.declared.parts.Told.{Told}
use Rattle.mon_wire.specs.declared.phase.Phase.TheVariants as phase
use Rattle.mon_wire.specs.declared.phase.Phase.{Phase}
use Rattle.mon_plan.specs.Plans.{changed}
use Rattle.mon_plan.proofs.Planning.{changed-readings, changed-state}
use Rattle.mon_stored.proofs.Standing.{readings-after}
use Rattle.paxos_leader.specs.Drafts.{GoesOn, IsAsking, under_way}
use Rattle.paxos_leader.specs.Parts.{with_answer}
use Rattle.paxos_leader.specs.Rows.{IsHeard, Notes, NotesFound, goes_on}

-- ---- what is found

module _ (f last : ℕ) (x : Course) where
  note-none : (told : Option Told) (found : Option Found) → counts told ≡ None → x.state.leader.found ≡ found → note f last told x ≡ Ok (note_answer f last found x)
  note-none told found none h = ap (λ t. note_pending f last t x) none ∙ ap (λ k. Ok (note_answer f last k x)) h

  note-some : (t : Told) (found : Option Found) → length (text t.value) ≤ most_value → suc last ≤ 2 ^ 62 → x.state.leader.found ≡ found
      → note f last (Some t) x ≡ Ok (note_answer f last (better found (record { version = suc last; pn = t.pn; value = t.value })) x)
  note-some t found short fits h =
      let a = le-leb (length (text t.value)) most_value short in
      let b = le-leb (suc last) (2 ^ 62) fits in
      rw (a, b) (ap (λ k. Ok (note_answer f last (better k (record { version = suc last; pn = t.pn; value = t.value })) x)) h)

  pub note-spent : (t : Told) → length (text t.value) ≤ most_value → 2 ^ 62 < suc last → note f last (Some t) x ≡ Err which.Version
  note-spent t short over =
      let a = le-leb (length (text t.value)) most_value short in
      let b = lt-leb (suc last) (2 ^ 62) over in
      rw (a, b) refl

pub notes-none : (found : Option Found) (last : ℕ) → NotesFound found last None (Ok found)
notes-none found last f x h = note-none f last x None found refl h

pub notes-long : (found : Option Found) (last : ℕ) (t : Told) → most_value < length (text t.value) → NotesFound found last (Some t) (Ok found)
notes-long found last t long f x h = note-none f last x (Some t) found (ap (λ b. cond b (Some t) None) (lt-leb (length (text t.value)) most_value long)) h

module _ (found : Option Found) (last : ℕ) (t : Told) (short : length (text t.value) ≤ most_value) (v : ℕ) (is : v ≡ suc last) (fits : v ≤ 2 ^ 62) where
  abbrev told_one : ℕ → Found
  told_one n = record { version = n; pn = t.pn; value = t.value }

  notes : (new : Option Found) → better found (told_one v) ≡ new → NotesFound found last (Some t) (Ok new)
  notes new h f x r =
      note-some f last x t found short (omega (arith, is, fits)) r
      ∙ ap (λ n. Ok (note_answer f last (better found (told_one n)) x)) (sym is)
      ∙ ap (λ k. Ok (note_answer f last k x)) h

  pub notes-older : is_newer v t.pn found ≡ false → NotesFound found last (Some t) (Ok found)
  notes-older old = notes found (ap (λ b. cond b (Some (told_one v)) found) old)

  pub notes-newer : is_newer v t.pn found ≡ true → NotesFound found last (Some t) (Ok (Some (told_one v)))
  notes-newer new = notes (Some (told_one v)) (ap (λ b. cond b (Some (told_one v)) found) new)

-- what a leader remembers by what is found
module _ (l : Leader) (f last : ℕ) (told : Option Told) where
  pub notes-leader : (found : Option Found) → NotesFound l.found last told (Ok found) → Notes l f last told (Ok (with_answer f last found l))
  notes-leader found h x r = h f x (ap (λ (k : Leader). k.found) r) ∙ ap (λ k. Ok (leader_is (with_answer f last found k) x)) r

  pub notes-fails : (e : RoleStop) → NotesFound l.found last told (Err e) → Notes l f last told (Err e)
  notes-fails stop.OutOfMemory h = tt
  notes-fails (stop.Spent which) h = λ x r. h f x

-- ---- an answer that is whole

module _ (me : Me) (now f last : ℕ) (told : Option Told) where
  pub whole-fails : (At : Course → Type 0) (l : Leader) (e : RoleStop) → Notes l f last told (Err e)
      → GoesOn me now At (record { tx = []; out = []; state = l }) (hear_whole me now f last told) (Err e)
  whole-fails At l stop.OutOfMemory h cs fit is = tt
  whole-fails At l (stop.Spent which) h cs fit is = λ x b.
      ap (λ r. r >>= (λ z. cond (all_answered me z) (settle me now z) (Ok z))) (h (under_way cs [] l x) refl)

  module _ (new : Leader) (y : Course) (noted : note f last told y ≡ Ok (leader_is new y)) where
    chosen : hear_whole me now f last told y ≡ cond (are_within me.member.monitors new.quorum new.answered) (settle me now (leader_is new y)) (Ok (leader_is new y))
    chosen = ap (λ r. r >>= (λ z. cond (all_answered me z) (settle me now z) (Ok z))) noted

    pub whole-waits : are_within me.member.monitors new.quorum new.answered ≡ false → hear_whole me now f last told y ≡ Ok (leader_is new y)
    whole-waits few = chosen ∙ ap (λ b. cond b (settle me now (leader_is new y)) (Ok (leader_is new y))) few

    pub whole-settles : are_within me.member.monitors new.quorum new.answered ≡ true → hear_whole me now f last told y ≡ settle me now (leader_is new y)
    whole-settles all = chosen ∙ ap (λ b. cond b (settle me now (leader_is new y)) (Ok (leader_is new y))) all

  pub goes-whole : (whole : Bool) (y : Course) → whole ≡ true → goes_on me now f last whole told y ≡ hear_whole me now f last told y
  goes-whole whole y h = ap (λ b. cond b (hear_whole me now f last told y) (collect me now y.state.leader.quorum 0 y)) h

  pub goes-asking : (whole : Bool) (y : Course) (quorum : List Bool) → whole ≡ false → y.state.leader.quorum ≡ quorum → goes_on me now f last whole told y ≡ collect me now quorum 0 y
  goes-asking whole y quorum h r =
      ap (λ b. cond b (hear_whole me now f last told y) (collect me now y.state.leader.quorum 0 y)) h ∙ ap (λ q. collect me now q 0 y) r

-- ---- phases

pub collects : (p : Phase) → is_one_of (phase.Collecting ∷ []) p ≡ true → p ≡ phase.Collecting
collects phase.Collecting h = refl
collects phase.Booting h = cc
collects phase.Probing h = cc
collects phase.Synchronizing h = cc
collects phase.Electing h = cc
collects phase.Previous h = cc
collects phase.Active h = cc
collects phase.Updating h = cc
collects phase.Peon h = cc

pub collects-in : (s : LeaderStage) → phase_of s ≡ phase.Collecting → s ≡ stage.Collecting
collects-in stage.Collecting h = refl
collects-in stage.Previous h = cc
collects-in stage.Active h = cc
collects-in stage.Updating h = cc

-- what a store's readers return except for its epoch and its starts
pub as_read : (w : Readings) (x : Course) → x.readings ≡ w → x.readings ≡ record w { epoch = x.readings.epoch; boot = x.readings.boot }
as_read w x h = λ i. record (h i) { epoch = x.readings.epoch; boot = x.readings.boot }

-- ---- an event under way at one that collects

pub heard-phase : (f e : ℕ) (w : Readings) (l : Leader) (x : Course) → IsHeard (phase.Collecting ∷ []) f e w l x → x.state.phase ≡ phase.Collecting
heard-phase f e w l x b =
    collects x.state.phase (and_parts (is_one_of (phase.Collecting ∷ []) x.state.phase) (e == epoch_of x.readings)
    (and_parts (is_one_of (phase.Collecting ∷ []) x.state.phase && e == epoch_of x.readings) (has x.state.leader.quorum f) b.member).0).0

pub asks-here : (epoch : ℕ) (w : Readings) (x : Course) → x.readings ≡ w → epoch ≡ epoch_of w → x.state.phase ≡ phase.Collecting → IsAsking epoch w (leader_is start_leader x)
asks-here epoch w x h is collecting = record { epoch = ap epoch_of h ∙ sym is; kept = as_read w x h; phase = collecting; stage = refl }

-- once values of an answer are learned
module _ (cs : List Change) (fit : AllByRecursion Fits cs) (kv : Store) (tx : List Op) (encodes : tx ≡ encoded cs) where
  pub learned-asks : (f e : ℕ) (l : Leader) (x : Course) → IsHeard (phase.Collecting ∷ []) f e (readings_of kv) l x
      → IsAsking (epoch_of (readings_of (apply tx kv))) (readings_of (apply tx kv)) (leader_is l (changed cs x))
  learned-asks f e l x b =
      let reads : (changed cs x).readings ≡ readings_of (apply tx kv) =
      changed-readings cs x ∙ ap (played cs) b.readings ∙ sym (readings-after cs fit kv) ∙ ap (λ ops. readings_of (apply ops kv)) (sym encodes) in
      let phases = heard-phase f e (readings_of kv) l x b in
      record {
        epoch = ap epoch_of reads;
        kept = as_read (readings_of (apply tx kv)) (changed cs x) reads;
        phase = ap (λ (s : State). s.phase) (changed-state cs x) ∙ phases;
        stage = collects-in l.stage (b.stage ∙ phases);
      }
