-- What a requester hears, by what it sees.
use Rattle.std.proofs.Common.{◌≡◌, ℕ, ◌+◌, ◌≤◌, Bool, true, false, ◌&&◌, leb, List, length, Result, Ok, IsTrue, refl, sym, ap, ◌∙◌, ◌⊎◌, inl, inr, arith}
use Rattle.std.specs.Bool.{◌==◌}
use Rattle.std.specs.List.{AllByRecursion}
use Rattle.std.specs.Prelude.{sum_by}
use Rattle.std.proofs.lemmas.Bool.{and_parts, leb-true}
use Rattle.mon_bytes.specs.declared.entry.Entry.{Entry}
use Rattle.mon_msg.specs.Protocol.Chunks.{hear_chunk, hear_last_chunk}
use Rattle.mon_msg.specs.Protocol.Copying.{hear_cookie, hear_no_cookie, of_provider}
use Rattle.mon_msg.specs.Protocol.Course.{Course, requester_is}
use Rattle.mon_msg.specs.Protocol.Hearing.{hear}
use Rattle.mon_msg.specs.Protocol.Length.{fits}
use Rattle.mon_msg.specs.Protocol.Parts.{entry_length, place_length, value_length}
use Rattle.mon_msg.specs.Protocol.Phases.{same_phase}
use Rattle.mon_msg.specs.Protocol.Readings.{Readings}
use Rattle.mon_msg.specs.Protocol.Replay.{replay_step, step_in}
use Rattle.mon_msg.specs.declared.plan.Plan.{Plan}
use Rattle.mon_msg.specs.declared.plan.RoleStop.{RoleStop}
use Rattle.mon_msg.specs.declared.synchronization.Requester.{Requester}
use Rattle.mon_msg.specs.declared.synchronization.SyncStage.TheVariants as sync
use Rattle.mon_msg.specs.declared.synchronization.SyncStage.{SyncStage}
use Rattle.mon_msg.specs.declared.view.Me.{Me}
use Rattle.mon_msg.specs.declared.view.View.{View}
use Rattle.mon_plan.proofs.Planning.{weaken}
use Rattle.mon_plan.proofs.Values.{all_short}
use Rattle.mon_plan.specs.Plans.{PlansRow}
use Rattle.mon_plan.specs.Seen.{IsMet}
use Rattle.mon_tx.specs.Text.{most, text}
use Rattle.mon_tx.specs.declared.op.Op.{Op}
use Rattle.mon_wire.specs.declared.body.Body.TheVariants as body
use Rattle.mon_wire.specs.declared.body.Body.{Body}
use Rattle.mon_wire.specs.declared.parts.Cookie.{Cookie}
use Rattle.mon_wire.specs.declared.parts.Place.{Place}
use Rattle.mon_wire.specs.declared.phase.Phase.TheVariants as phase
use Rattle.mon_types.specs.declared.names.Which.{Which}
use Rattle.sync_requester.specs.Inputs.{is_role_message}
use Rattle.sync_requester.specs.Rows.{IsHeard}

module _ (me : Me) (now : ℕ) (w : Readings) (view : View) (s : Requester) where
  abbrev met : Course → Type 0
  met = IsMet me now w view (λ st. st.requester) s

  module _ (f : ℕ) where
    abbrev pub seen : Bool
    seen = same_phase view.phase phase.Synchronizing && f == s.provider

    pub provider-is : (t : Bool) → seen ≡ t → (x : Course) → met x → of_provider f x ≡ t
    provider-is t h x b = (λ i. same_phase (sym b.seen.phase i) phase.Synchronizing && f == (b.role i).provider) ∙ h

    pub heard-row : seen ≡ true → (row : Course → Result Course Which) (r : Result (Plan Requester) RoleStop) → PlansRow me now requester_is (IsHeard w s f) row r → PlansRow me now requester_is met row r
    heard-row h row r plans = weaken me now requester_is (IsHeard w s f) met (λ x. x) row r (λ x b. record { readings = b.readings; role = b.role; ours = provider-is true h x b }) plans

  pub phase-is : (t : Bool) → same_phase view.phase phase.Synchronizing ≡ t → (x : Course) → met x → same_phase x.state.phase phase.Synchronizing ≡ t
  phase-is t h x b = (λ i. same_phase (sym b.seen.phase i) phase.Synchronizing) ∙ h

  pub idle : same_phase view.phase phase.Synchronizing ≡ false → (x : Course) → met x → replay_step me now x ≡ Ok x
  unfolding replay_step
  idle h x b = let t = phase-is false h x b in rw t refl

  pub stepping : same_phase view.phase phase.Synchronizing ≡ true → (x : Course) → met x → replay_step me now x ≡ step_in me now s.stage x
  unfolding replay_step
  stepping h x b = let t = phase-is true h x b in rw t (ap (λ (r : Requester). step_in me now r.stage x) b.role)

pub idle-stage : (me : Me) (now : ℕ) (stage : SyncStage) → (stage ≡ sync.Cookie) ⊎ (stage ≡ sync.Chunks) → (x : Course) → step_in me now stage x ≡ Ok x
idle-stage me now stage (inl e) x = ap (λ (st : SyncStage). step_in me now st x) e
idle-stage me now stage (inr e) x = ap (λ (st : SyncStage). step_in me now st x) e

pub hear-dropped : (me : Me) (shared : List Entry) (now f e : ℕ) (m : Body) → IsTrue (is_role_message m) → (x : Course) → of_provider f x ≡ false → hear me shared now f e m x ≡ Ok x
unfolding hear_cookie hear_chunk hear_last_chunk hear_no_cookie
hear-dropped me shared now f e (body.Cookie full c last) t x h = rw h refl
hear-dropped me shared now f e (body.Chunk c p values entries done) t x h = rw h refl
hear-dropped me shared now f e (body.LastChunk c p values entries last) t x h = rw h refl
hear-dropped me shared now f e (body.NoCookie c) t x h = rw h refl
hear-dropped me shared now f e other t x h = let no : false ≡ true = t in absurd cc

-- ---- the values of a chunk that may be sent are short and few

pub chunk-short : (n : ℕ) (c : Cookie) (p : Place) (values : List (List Op)) (entries : List Entry) (done : Bool) → IsTrue (fits n (body.Chunk c p values entries done))
    → AllByRecursion (λ (ops : List Op). length (text ops) ≤ most) values
chunk-short n c p values entries done h =
    let le = leb-true (12 + (17 + place_length p + (2 + sum_by value_length values) + (2 + sum_by entry_length entries))) 1048576 (and_parts (leb (12 + (17 + place_length p + (2 + sum_by value_length values) + (2 + sum_by entry_length entries))) 1048576) (leb (length values) 65535 && leb (length entries) 65535) h).0 in
    all_short values (omega (arith, le))

pub chunk-few : (n : ℕ) (c : Cookie) (p : Place) (values : List (List Op)) (entries : List Entry) (done : Bool) → IsTrue (fits n (body.Chunk c p values entries done)) → length values ≤ 65535
chunk-few n c p values entries done h =
    let both = and_parts (leb (12 + (17 + place_length p + (2 + sum_by value_length values) + (2 + sum_by entry_length entries))) 1048576) (leb (length values) 65535 && leb (length entries) 65535) h in
    leb-true (length values) 65535 (and_parts (leb (length values) 65535) (leb (length entries) 65535) both.1).0

pub last-short : (n : ℕ) (c : Cookie) (p : Place) (values : List (List Op)) (entries : List Entry) (last : ℕ) → IsTrue (fits n (body.LastChunk c p values entries last))
    → AllByRecursion (λ (ops : List Op). length (text ops) ≤ most) values
last-short n c p values entries last h =
    let le = leb-true (12 + (24 + place_length p + (2 + sum_by value_length values) + (2 + sum_by entry_length entries))) 1048576 (and_parts (leb (12 + (24 + place_length p + (2 + sum_by value_length values) + (2 + sum_by entry_length entries))) 1048576) (leb (length values) 65535 && leb (length entries) 65535) h).0 in
    all_short values (omega (arith, le))

pub last-few : (n : ℕ) (c : Cookie) (p : Place) (values : List (List Op)) (entries : List Entry) (last : ℕ) → IsTrue (fits n (body.LastChunk c p values entries last)) → length values ≤ 65535
last-few n c p values entries last h =
    let both = and_parts (leb (12 + (24 + place_length p + (2 + sum_by value_length values) + (2 + sum_by entry_length entries))) 1048576) (leb (length values) 65535 && leb (length entries) 65535) h in
    leb-true (length values) 65535 (and_parts (leb (length values) 65535) (leb (length entries) 65535) both.1).0
