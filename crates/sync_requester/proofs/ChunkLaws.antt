-- What a requester does at a chunk.
use Rattle.std.proofs.Common.{◌≡◌, ℕ, zero, suc, ◌+◌, ◌-◌, ◌≤◌, ◌<◌, ◌^◌, Bool, true, false, ◌&&◌, cond, List, [], ◌∷◌, ◌++◌, length, min, Some, Result, Ok, Err, refl, sym, ap, subst, ◌∙◌, append_assoc, arith}
use Rattle.std.specs.List.{AllByRecursion, slice_get}
use Rattle.std.proofs.lemmas.Bool.{le-leb, lt-leb}
use Rattle.mon_bytes.specs.declared.entry.Entry.{Entry}
use Rattle.mon_bytes.specs.declared.entry.KeyPlace.TheVariants.{After}
use Rattle.mon_bytes.specs.declared.entry.KeyPlace.{KeyPlace}
use Rattle.mon_msg.specs.Protocol.Changes.{Change, encoded}
use Rattle.mon_msg.specs.Protocol.Chunks.{begin_replay, copy, copy_changes, hear_chunk, hear_last_chunk, next_place, record_changes, replay_or_end, take, take_and_ask, take_last, takes_chunks}
use Rattle.mon_msg.specs.Protocol.Copying.{ask_chunk, of_provider}
use Rattle.mon_msg.specs.Protocol.Course.{Course, ◌>>=◌, requester_is}
use Rattle.mon_msg.specs.Protocol.Entering.{bootstrap}
use Rattle.mon_msg.specs.Protocol.Places.{after_entries, is_cookie, same_place}
use Rattle.mon_msg.specs.Protocol.Played.{Fits, played}
use Rattle.mon_msg.specs.Protocol.Readings.{Readings, epoch_of}
use Rattle.mon_msg.specs.Protocol.Timers.{length_of}
use Rattle.mon_msg.specs.declared.plan.Arming.TheVariants as arming
use Rattle.mon_msg.specs.declared.plan.Next.TheVariants as next
use Rattle.mon_msg.specs.declared.plan.Plan.{Plan}
use Rattle.mon_msg.specs.declared.plan.RoleStop.TheVariants as stop
use Rattle.mon_msg.specs.declared.plan.RoleStop.{RoleStop}
use Rattle.mon_msg.specs.declared.synchronization.Requester.{Requester}
use Rattle.mon_msg.specs.declared.synchronization.SyncStage.TheVariants as sync
use Rattle.mon_msg.specs.declared.view.Me.{Me}
use Rattle.mon_plan.proofs.Planning.{changed-is, changed-readings, changed-state, changes-append, encoded-append}
use Rattle.mon_plan.specs.Learned.{Learns}
use Rattle.mon_plan.specs.Plans.{Plans, changed, done}
use Rattle.mon_tx.specs.declared.op.Op.{Op}
use Rattle.mon_types.specs.declared.names.Which.TheVariants as which
use Rattle.mon_types.specs.declared.names.Which.{Which}
use Rattle.mon_wire.specs.declared.parts.Cookie.{Cookie}
use Rattle.mon_wire.specs.declared.parts.Place.{Place}
use Rattle.mon_wire.specs.declared.phase.Timer.TheVariants as timer
use Rattle.sync_requester.specs.Copied.{Copies, IsTaken, Takes, copied}
use Rattle.sync_requester.specs.Rows.{IsHeard}
use Rattle.sync_requester.specs.declared.chunks.Taken.{Taken}
use Rattle.sync_requester.proofs.Planned.{asks_chunk, then_acts}

-- ---- the place after some entries

pub after-at : (entries : List Entry) (k : KeyPlace) (i : ℕ) (e : Entry) → suc i ≡ length entries → slice_get entries i ≡ Some e → after_entries entries k ≡ After e.prefix e.key
after-at [] k i e n h = absurd (omega arith)
after-at (a ∷ []) k zero e n h = let same : a ≡ e = cc in ap (λ (e : Entry). After e.prefix e.key) same
after-at (a ∷ []) k (suc i) e n h = absurd (omega arith)
after-at (a ∷ c ∷ es) k zero e n h = absurd (omega arith)
after-at (a ∷ c ∷ es) k (suc i) e n h = after-at (c ∷ es) (After a.prefix a.key) i e (omega arith) h

-- ---- what is written

pub copies-whole : (v : ℕ) (values : List (List Op)) (entries : List Entry) (x : Course) → copy true v values entries x ≡ Ok (changed (copied true v values entries) x)
copies-whole v values entries x =
    sym (ap Ok (changed-is (copied true v values entries) x ∙ changes-append (record_changes v values) (copy_changes entries) x))

pub copies-learned : (v : ℕ) (values : List (List Op)) (entries : List Entry) (r : Result Unit RoleStop) → Learns v values r → Copies false v values entries r
copies-learned v values entries (Ok done) h = h
copies-learned v values entries (Err stop.OutOfMemory) h = tt
copies-learned v values entries (Err (stop.Spent which)) h = h

pub whole-encoded : (tx : List Op) (v : ℕ) (values : List (List Op)) (entries : List Entry) → (tx ++ encoded (record_changes v values)) ++ encoded (copy_changes entries) ≡ tx ++ encoded (copied true v values entries)
whole-encoded tx v values entries =
    append_assoc tx (encoded (record_changes v values)) (encoded (copy_changes entries)) ∙ sym (ap (λ (ops : List Op). tx ++ ops) (encoded-append (record_changes v values) (copy_changes entries)))

module _ (s : Requester) (p : Place) (values : List (List Op)) (entries : List Entry) (last : Bool) where
  abbrev changes : List Change
  changes = copied s.full (suc p.version) values entries

  abbrev moved : Course → Course
  moved y = requester_is (record y.state.requester { place = next_place p (p.version + length values) entries last }) y

  abbrev by_copy : Course → Bool → Result Course Which
  by_copy x full = (copy full (suc p.version) values entries x) >>= (λ y. Ok (moved y))

  counted : (x : Course) → x.state.requester ≡ s → p.version + length values ≤ 2 ^ 62 → take p values entries last x ≡ by_copy x s.full
  counted x role short = let t = le-leb (p.version + length values) (2 ^ 62) short in rw t (ap (by_copy x) (ap (λ (r : Requester). r.full) role))

  pub take-spent : (x : Course) → 2 ^ 62 < p.version + length values → take p values entries last x ≡ Err which.Version
  take-spent x above = let t = lt-leb (p.version + length values) (2 ^ 62) above in rw t refl

  pub take-done : (x : Course) → x.state.requester ≡ s → p.version + length values ≤ 2 ^ 62 → copy s.full (suc p.version) values entries x ≡ Ok (changed changes x)
      → take p values entries last x ≡ Ok (requester_is (record s { place = next_place p (p.version + length values) entries last }) (changed changes x))
  take-done x role short h =
      counted x role short
      ∙ ap (λ (r : Result Course Which). r >>= (λ y. Ok (moved y))) h
      ∙ ap (λ (q : Requester). Ok (requester_is (record q { place = next_place p (p.version + length values) entries last }) (changed changes x)))
      (ap (λ st. st.requester) (changed-state changes x) ∙ role)

  pub take-fails : (x : Course) (e : Which) → x.state.requester ≡ s → p.version + length values ≤ 2 ^ 62 → copy s.full (suc p.version) values entries x ≡ Err e → take p values entries last x ≡ Err e
  take-fails x e role short h = counted x role short ∙ ap (λ (r : Result Course Which). r >>= (λ y. Ok (moved y))) h

-- by what was written for the versions after the place
module _ (s : Requester) (p : Place) (values : List (List Op)) (entries : List Entry) (last : Bool) (from : ℕ) (behind : from ≡ suc p.version) (short : p.version + length values ≤ 2 ^ 62) where
  pub taken-is : ((x : Course) → copy s.full from values entries x ≡ Ok (changed (copied s.full from values entries) x)) → AllByRecursion Fits (copied s.full from values entries)
      → (tx : List Op) → tx ≡ encoded (copied s.full from values entries) → (place : Place) → place ≡ next_place p (p.version + length values) entries last
      → IsTaken s p values entries last (record { tx = tx; place = place })
  taken-is copies fit tx is place moves = record {
    encoded = is ∙ ap (λ v. encoded (copied s.full v values entries)) behind;
    fit = subst (λ v. AllByRecursion Fits (copied s.full v values entries)) behind fit;
    row = λ x role.
        take-done s p values entries last x role short (subst (λ v. copy s.full v values entries x ≡ Ok (changed (copied s.full v values entries) x)) behind (copies x))
        ∙ ap (λ (q : Place). Ok (requester_is (record s { place = q }) (changed (copied s.full (suc p.version) values entries) x))) (sym moves);
  }

  pub taken-fails : (e : RoleStop) → Copies s.full from values entries (Err e) → Takes s p values entries last (Err e)
  taken-fails stop.OutOfMemory h = tt
  taken-fails (stop.Spent which) h = λ x role. take-fails s p values entries last x which role short (subst (λ v. copy s.full v values entries x ≡ Err which) behind (h x))

-- a call that takes a chunk and fails fails as the row does
pub take-stops : (s : Requester) (p : Place) (values : List (List Op)) (entries : List Entry) (last : Bool) (me : Me) (now : ℕ) (B : Course → Type 0) (wanted : Course → Result Course Which) (e : RoleStop)
    → Takes s p values entries last (Err e) → ((x : Course) → B x → x.state.requester ≡ s) → ((x : Course) → B x → (which : Which) → take p values entries last x ≡ Err which → wanted x ≡ Err which)
    → Plans me now requester_is B (λ x. x) wanted (Err e)
take-stops s p values entries last me now B wanted stop.OutOfMemory h role row = tt
take-stops s p values entries last me now B wanted (stop.Spent which) h role row = λ x b. row x b which (h x (role x b))

-- ---- rows

-- the plan that begins to replay
abbrev pub replays : (now : ℕ) → List Op → Requester → Plan Requester
replays now tx s = record {
  tx = tx;
  out = [];
  timers = arming.Disarm timer.Sync ∷ arming.Arm timer.Step (min (now + length_of timer.Step) (2 ^ 62)) ∷ [];
  state = s;
  next = next.Stay;
}

module _ (w : Readings) (s : Requester) (f : ℕ) (x : Course) (b : IsHeard w s f x) (me : Me) (now : ℕ) (p : Place) (values : List (List Op)) (entries : List Entry) where
  module _ (c : Cookie) where
    abbrev pub awaited : Requester → Bool
    awaited s = takes_chunks s.stage && is_cookie c s.cookie && same_place p s.place

    abbrev by_tests : Bool → Requester → Result Course Which → Result Course Which
    by_tests ours r row = cond (ours && takes_chunks r.stage && is_cookie c r.cookie && same_place p r.place) row (Ok x)

    tested : (t : Bool) → awaited s ≡ t → (row : Result Course Which) → by_tests (of_provider f x) x.state.requester row ≡ cond t row (Ok x)
    tested t h row = (λ i. by_tests (b.ours i) x.state.requester row) ∙ (λ i. by_tests true (b.role i) row) ∙ (λ i. cond (h i) row (Ok x))

    pub chunk-is : (last t : Bool) → awaited s ≡ t → hear_chunk me now f c p values entries last x ≡ cond t (take_and_ask me now c p values entries last x) (Ok x)
    unfolding hear_chunk
    chunk-is last t h = tested t h (take_and_ask me now c p values entries last x)

    pub last_chunk-is : (last : ℕ) (t : Bool) → awaited s ≡ t → hear_last_chunk me now f c p values entries last x ≡ cond t (take_last me now p values entries last x) (Ok x)
    unfolding hear_last_chunk
    last_chunk-is last t h = tested t h (take_last me now p values entries last x)

  abbrev pub changes_of : List Change
  changes_of = copied s.full (suc p.version) values entries

  module _ (last : Bool) (taken : Taken) (h : IsTaken s p values entries last taken) where
    abbrev pub here : Requester
    here = record s { place = taken.place }

    pub chunk-asks : (c : Cookie) → take_and_ask me now c p values entries last x ≡ Ok (done requester_is changes_of (asks_chunk me now (encoded changes_of) c here (epoch_of (played changes_of w))) x)
    chunk-asks c =
        ap (λ (r : Result Course Which). r >>= (λ y. Ok (ask_chunk me now c y.state.requester.place y))) (h.row x b.role)
        ∙ ap (λ (r : Readings). Ok (done requester_is changes_of (asks_chunk me now (encoded changes_of) c here (epoch_of r)) x))
        (changed-readings changes_of x ∙ ap (played changes_of) b.readings)

  module _ (taken : Taken) (h : IsTaken s p values entries true taken) (last : ℕ) where
    by_kind : (full : Bool) → s.full ≡ full → take_last me now p values entries last x ≡ cond full (begin_replay now last (requester_is (here true taken h) (changed changes_of x))) (bootstrap me now (requester_is (here true taken h) (changed changes_of x)))
    by_kind full e =
        ap (λ (r : Result Course Which). r >>= replay_or_end me now last) (h.row x b.role)
        ∙ ap (λ (t : Bool). cond t (begin_replay now last (requester_is (here true taken h) (changed changes_of x))) (bootstrap me now (requester_is (here true taken h) (changed changes_of x)))) e

    pub copy-spent : s.full ≡ true → 2 ^ 62 < suc s.start → take_last me now p values entries last x ≡ Err which.Version
    copy-spent e above = by_kind true e ∙ (let t = lt-leb (suc s.start) (2 ^ 62) above in rw t refl)

    pub copy-replays : s.full ≡ true → suc s.start ≤ 2 ^ 62
        → take_last me now p values entries last x ≡ Ok (done requester_is changes_of (replays now (encoded changes_of) (record s { place = taken.place; stage = sync.Replay (suc s.start) last })) x)
    copy-replays e short = by_kind true e ∙ (let t = le-leb (suc s.start) (2 ^ 62) short in rw t refl)

    pub recent-ends : s.full ≡ false → take_last me now p values entries last x ≡ bootstrap me now (done requester_is changes_of (then_acts (encoded changes_of) (here true taken h) next.Bootstrap) x)
    recent-ends e = by_kind false e
