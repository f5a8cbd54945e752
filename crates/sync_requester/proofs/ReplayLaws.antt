-- The versions that a step of a replay learns, one after the other, and what the step does.
use Rattle.std.proofs.Common.{◌≡◌, ℕ, zero, suc, ◌+◌, ◌-◌, ◌≤◌, ◌<◌, ◌^◌, Bool, true, false, cond, leb, ltb, List, [], ◌∷◌, ◌++◌, length, min, Option, Some, None, Result, Ok, Err, IfSome, refl, sym, ap, subst, ◌∙◌, append_assoc, append-nil, arith}
use Rattle.std.specs.List.{AllByRecursion}
use Rattle.std.specs.Option.{option_map}
use Rattle.std.proofs.lemmas.Bool.{and_parts, le-leb, le-ltb, leb-true, lt-leb, lt-ltb}
use Rattle.std.proofs.lemmas.Option.{cond_some}
use Rattle.mon_msg.specs.Protocol.Changes.{Change, Last, Unmark, ops_of, encoded}
use Rattle.mon_msg.specs.Protocol.Course.{Course, ◌▸◌, arm, change, change_all, requester_is}
use Rattle.mon_msg.specs.Protocol.Entering.{bootstrap}
use Rattle.mon_msg.specs.Protocol.Learning.{learn_changes}
use Rattle.mon_msg.specs.Protocol.Played.{Fits}
use Rattle.mon_msg.specs.Protocol.Readings.{Readings}
use Rattle.mon_msg.specs.Protocol.Records.{may_begin, record_at, transaction_in, if_it_may_begin}
use Rattle.mon_msg.specs.Protocol.Replay.{more_of, replay_any, step_in, step_of}
use Rattle.mon_msg.specs.Protocol.Timers.{length_of}
use Rattle.mon_msg.specs.declared.plan.Arming.TheVariants as arming
use Rattle.mon_msg.specs.declared.plan.Next.TheVariants as next
use Rattle.mon_msg.specs.declared.plan.Plan.{Plan}
use Rattle.mon_msg.specs.declared.synchronization.Requester.{Requester}
use Rattle.mon_msg.specs.declared.synchronization.SyncStage.TheVariants as sync
use Rattle.mon_msg.specs.declared.view.Me.{Me}
use Rattle.mon_plan.proofs.Kept.{kept-requester}
use Rattle.mon_plan.proofs.Learning.{learned-fit}
use Rattle.mon_plan.proofs.Planning.{changed-is, changed-state, changes-append, fit-append, encoded-append}
use Rattle.mon_plan.specs.Plans.{changed, done}
use Rattle.mon_tx.specs.Decision.{Cell}
use Rattle.mon_tx.specs.Decode.{transaction_of}
use Rattle.mon_tx.specs.Text.{most, text}
use Rattle.mon_tx.specs.declared.op.Op.{Op}
use Rattle.mon_tx.specs.declared.refusal.TxRefused.{TxRefused}
use Rattle.mon_types.specs.declared.names.Which.{Which}
use Rattle.mon_wire.specs.declared.phase.Timer.TheVariants as timer
use Rattle.sync_requester.specs.Rows.{Holds}

-- ---- records are short

cell_short : (c : Cell) (value : List Op) → transaction_in c ≡ Some value → length (text value) ≤ 1048544
cell_short None value h = cc
cell_short (Some bytes) value h = by (transaction_of bytes) h
  where
    by_begin : (ops : List Op) → if_it_may_begin (Ok ops) ≡ Some value → length (text value) ≤ 1048544
    by_begin ops h =
        let both = cond_some (may_begin ops) ops value h in
        let le = leb-true (12 + (16 + (4 + length (text ops)))) 1048576 (and_parts (leb (12 + (16 + (4 + length (text ops)))) 1048576) true both.0).0 in
        subst (λ (ops : List Op). length (text ops) ≤ 1048544) both.1 (omega (arith, le))

    by : (r : Result (List Op) TxRefused) → if_it_may_begin r ≡ Some value → length (text value) ≤ 1048544
    by (Ok ops) h = by_begin ops h
    by (Err e) h = cc

pub record-short : (records : ℕ → Cell) (v : ℕ) (value : List Op) → record_at records v ≡ Some value → length (text value) ≤ 1048544
unfolding record_at
record-short records v value h = cell_short (records v) value h

abbrev IsShort : List Op → Type 0
IsShort ops = length (text ops) ≤ most

-- ---- the values of a step

-- these values, and the ones after them
abbrev pub onto : List (List Op) → Option (List (List Op)) → Option (List (List Op))
onto values all = option_map (λ more. values ++ more) all

onto_next : (values : List (List Op)) (value : List Op) (all : Option (List (List Op))) → onto (values ++ value ∷ []) all ≡ onto values (option_map (λ more. value ∷ more) all)
onto_next values value None = refl
onto_next values value (Some more) = ap Some (append_assoc values (value ∷ []) more)

module _ (records : ℕ → Cell) where
  abbrev more_with : Option (List Op) → (count room v : ℕ) → Option (List (List Op))
  more_with o count room v = elim o as (λ _. Option (List (List Op))) [
    | None ↦ None
    | Some value ↦
        let size = length (text value) in
        cond (leb size room) (option_map (λ values. value ∷ values) (more_of records count (room - size) (suc v))) (Some [])
  ]

  more_none : (count room v : ℕ) → record_at records v ≡ None → more_of records (suc count) room v ≡ None
  unfolding more_of
  more_none count room v h = ap (λ o. more_with o count room v) h

  more_some : (count room v : ℕ) (value : List Op) → record_at records v ≡ Some value → more_of records (suc count) room v ≡ more_with (Some value) count room v
  unfolding more_of
  more_some count room v value h = ap (λ o. more_with o count room v) h

  more_full : (count room v : ℕ) (value : List Op) → record_at records v ≡ Some value → room < length (text value) → more_of records (suc count) room v ≡ Some []
  more_full count room v value h above =
      more_some count room v value h
      ∙ ap (λ t. cond t (option_map (λ more. value ∷ more) (more_of records count (room - length (text value)) (suc v))) (Some [])) (lt-leb (length (text value)) room above)

  more_next : (count room v : ℕ) (value : List Op) → record_at records v ≡ Some value → length (text value) ≤ room
      → more_of records (suc count) room v ≡ option_map (λ more. value ∷ more) (more_of records count (room - length (text value)) (suc v))
  more_next count room v value h fits =
      more_some count room v value h
      ∙ ap (λ t. cond t (option_map (λ more. value ∷ more) (more_of records count (room - length (text value)) (suc v))) (Some [])) (le-leb (length (text value)) room fits)

  more_end : (room v : ℕ) → more_of records zero room v ≡ Some []
  unfolding more_of
  more_end room v = refl

  -- this many values were taken, and this is what all will be
  module _ (all : Option (List (List Op))) (values : List (List Op)) (to room v : ℕ) (so_far : onto values (more_of records (to - v) room v) ≡ all) where
    pub goes-none : v < to → record_at records v ≡ None → None ≡ all
    goes-none lt h =
        let n : to - v ≡ suc (to - suc v) = omega arith in
        sym (ap (λ k. onto values (more_of records k room v)) n ∙ ap (onto values) (more_none (to - suc v) room v h)) ∙ so_far

    pub goes-full : v < to → (value : List Op) → record_at records v ≡ Some value → room < length (text value) → Some values ≡ all
    goes-full lt value h above =
        let n : to - v ≡ suc (to - suc v) = omega arith in
        sym (ap (λ k. onto values (more_of records k room v)) n ∙ ap (onto values) (more_full (to - suc v) room v value h above) ∙ ap Some (append-nil values)) ∙ so_far

    pub goes-on : v < to → (value : List Op) → record_at records v ≡ Some value → length (text value) ≤ room
        → onto (values ++ value ∷ []) (more_of records (to - suc v) (room - length (text value)) (suc v)) ≡ all
    goes-on lt value h fits =
        let n : to - v ≡ suc (to - suc v) = omega arith in
        onto_next values value (more_of records (to - suc v) (room - length (text value)) (suc v))
        ∙ sym (ap (λ k. onto values (more_of records k room v)) n ∙ ap (onto values) (more_next (to - suc v) room v value h fits)) ∙ so_far

    pub goes-past : to ≤ v → Some values ≡ all
    goes-past past =
        let n : to - v ≡ 0 = omega arith in
        sym (ap (λ k. onto values (more_of records k room v)) n ∙ ap (onto values) (more_end room v) ∙ ap Some (append-nil values)) ∙ so_far

  step_end : (v : ℕ) → step_of records zero v ≡ Some []
  unfolding step_of
  step_end v = refl

  abbrev step_with : Option (List Op) → (left v : ℕ) → Option (List (List Op))
  step_with o left v = elim o as (λ _. Option (List (List Op))) [
    | None ↦ None
    | Some value ↦
        let more = more_of records (min left (64 - 1)) (524288 - length (text value)) (suc v) in
        option_map (λ values. value ∷ values) more
  ]

  step_none : (left v : ℕ) → record_at records v ≡ None → step_of records (suc left) v ≡ None
  unfolding step_of
  step_none left v h = ap (λ o. step_with o left v) h

  step_some : (left v : ℕ) (value : List Op) → record_at records v ≡ Some value
      → step_of records (suc left) v ≡ option_map (λ values. value ∷ values) (more_of records (min left 63) (524288 - length (text value)) (suc v))
  unfolding step_of
  step_some left v value h = ap (λ o. step_with o left v) h

  pub step-past : (end v : ℕ) → end < v → Some [] ≡ step_of records (suc end - v) v
  step-past end v past = let n : suc end - v ≡ 0 = omega arith in sym (ap (λ k. step_of records k v) n ∙ step_end v)

  pub step-lost : (end v : ℕ) → v ≤ end → record_at records v ≡ None → None ≡ step_of records (suc end - v) v
  step-lost end v within h = let n : suc end - v ≡ suc (end - v) = omega arith in sym (ap (λ k. step_of records k v) n ∙ step_none (end - v) v h)

  pub step-first : (end v count room : ℕ) (value : List Op) → v ≤ end → record_at records v ≡ Some value → count ≡ min (end - v) 63 → room ≡ 524288 - length (text value)
      → onto (value ∷ []) (more_of records count room (v + 1)) ≡ step_of records (suc end - v) v
  step-first end v count room value within h few left =
      let n : suc end - v ≡ suc (end - v) = omega arith in
      let m : v + 1 ≡ suc v = omega arith in
      (λ i. option_map (λ more. value ∷ more) (more_of records (few i) (left i) (m i)))
      ∙ sym (ap (λ k. step_of records k v) n ∙ step_some (end - v) v value h)

  -- they are short and few
  abbrev pub Few : ℕ → List (List Op) → Type 0
  Few count values = AllByRecursion (λ (ops : List Op). length (text ops) ≤ most) values × (length values ≤ count)

  one_more : (count : ℕ) (value : List Op) (all : Option (List (List Op))) → length (text value) ≤ 1048544 → IfSome all (Few count) → IfSome (option_map (λ more. value ∷ more) all) (Few (suc count))
  one_more count value None short h = tt
  one_more count value (Some more) short h = ((omega arith, h.0), omega (arith, h.1))

  few_or : (count : ℕ) (value : List Op) (all : Option (List (List Op))) → length (text value) ≤ 1048544 → IfSome all (Few count) → (t : Bool)
      → IfSome (cond t (option_map (λ more. value ∷ more) all) (Some [])) (Few (suc count))
  few_or count value all short h true = one_more count value all short h
  few_or count value all short h false = (tt, omega arith)

  few_with : (count room v : ℕ) (o : Option (List Op)) → record_at records v ≡ o → ((room : ℕ) → IfSome (more_of records count room (suc v)) (Few count)) → IfSome (more_with o count room v) (Few (suc count))
  few_with count room v None e h = tt
  few_with count room v (Some value) e h =
      let left = room - length (text value) in
      few_or count value (more_of records count left (suc v)) (record-short records v value e) (h left) (leb (length (text value)) room)

  more_few : (count room v : ℕ) → IfSome (more_of records count room v) (Few count)
  unfolding more_of
  more_few zero room v = (tt, omega arith)
  more_few (suc count) room v = few_with count room v (record_at records v) refl (λ room. more_few count room (suc v))

  fewer : (count : ℕ) (all : Option (List (List Op))) → count ≤ 64 → IfSome all (Few count) → IfSome all (Few 64)
  fewer count None le h = tt
  fewer count (Some values) le h = (h.0, omega (arith, h.1))

  few_steps : (left v : ℕ) (o : Option (List Op)) → record_at records v ≡ o → IfSome (step_with o left v) (Few 64)
  few_steps left v None e = tt
  few_steps left v (Some value) e =
      let room = 524288 - length (text value) in
      fewer (suc (min left 63)) (option_map (λ more. value ∷ more) (more_of records (min left 63) room (suc v))) (omega arith)
      (one_more (min left 63) value (more_of records (min left 63) room (suc v)) (record-short records v value e) (more_few (min left 63) room (suc v)))

  pub step-few : (left v : ℕ) → IfSome (step_of records left v) (Few 64)
  unfolding step_of
  step-few zero v = (tt, omega arith)
  step-few (suc left) v = few_steps left v (record_at records v) refl

  pub few-of : (left v : ℕ) (values : List (List Op)) → Some values ≡ step_of records left v → Few 64 values
  few-of left v values h = subst (λ (all : Option (List (List Op))). IfSome all (Few 64)) (sym h) (step-few left v)

-- ---- what the step does

abbrev pub end_changes : (next end : ℕ) → List (List Op) → List Change
end_changes next end values = learn_changes next values ++ Last end ∷ Unmark ∷ []

pub end-fits : (next end : ℕ) (values : List (List Op)) → Fits (Last end) → AllByRecursion Fits (end_changes next end values)
end-fits next end values short = fit-append (learn_changes next values) (Last end ∷ Unmark ∷ []) (learned-fit next values) (short, (tt, tt))

pub end-encoded : (next end : ℕ) (values : List (List Op)) → (encoded (learn_changes next values) ++ ops_of (Last end)) ++ ops_of Unmark ≡ encoded (end_changes next end values)
end-encoded next end values =
    append_assoc (encoded (learn_changes next values)) (ops_of (Last end)) (ops_of Unmark) ∙ sym (encoded-append (learn_changes next values) (Last end ∷ Unmark ∷ []))

abbrev pub steps_on : (now : ℕ) → List Op → Requester → Plan Requester
steps_on now tx s = record {
  tx = tx;
  out = [];
  timers = arming.Arm timer.Step (min (now + length_of timer.Step) (2 ^ 62)) ∷ [];
  state = s;
  next = next.Stay;
}

module _ (w : Readings) (s : Requester) (x : Course) (b : Holds w s x) (me : Me) (now next end : ℕ) where
  abbrev pub left : ℕ
  left = suc end - next

  by_values : (all : Option (List (List Op))) → all ≡ step_of w.record_of left next → step_in me now (sync.Replay next end) x ≡ replay_any me now next end all x
  by_values all h = ap (λ (r : Readings). replay_any me now next end (step_of r.record_of left next) x) b.readings ∙ sym (ap (λ (all : Option (List (List Op))). replay_any me now next end all x) h)

  pub replay-lost : None ≡ step_of w.record_of left next → step_in me now (sync.Replay next end) x ≡ bootstrap me now x
  replay-lost h = by_values None h

  module _ (values : List (List Op)) (h : Some values ≡ step_of w.record_of left next) where
    abbrev learned_so : Course
    learned_so = change_all (learn_changes next values) x

    abbrev chosen : Bool → Result Course Which
    chosen t =
        cond t (bootstrap me now (learned_so ▸ change (Last end) ▸ change Unmark))
        (Ok (learned_so ▸ requester_is (record learned_so.state.requester { stage = sync.Replay (next + length values) end }) ▸ arm now timer.Step))

    by_end : (t : Bool) → ltb end (next + length values) ≡ t → step_in me now (sync.Replay next end) x ≡ chosen t
    by_end t e = by_values (Some values) h ∙ ap chosen e

    ended : (learned_so ▸ change (Last end) ▸ change Unmark) ≡ requester_is s (changed (end_changes next end values) x)
    ended =
        let cs = end_changes next end values in
        sym
        (kept-requester s (changed cs x) (ap (λ st. st.requester) (changed-state cs x) ∙ b.role)
        ∙ changed-is cs x ∙ changes-append (learn_changes next values) (Last end ∷ Unmark ∷ []) x ∙ changes-append (Last end ∷ []) (Unmark ∷ []) learned_so)

    pub replay-ends : end < next + length values → step_in me now (sync.Replay next end) x ≡ bootstrap me now (requester_is s (changed (end_changes next end values) x))
    replay-ends past = by_end true (lt-ltb end (next + length values) past) ∙ ap (bootstrap me now) ended

    pub replay-steps : next + length values ≤ end
        → step_in me now (sync.Replay next end) x ≡ Ok (done requester_is (learn_changes next values) (steps_on now (encoded (learn_changes next values)) (record s { stage = sync.Replay (next + length values) end })) x)
    replay-steps within =
        by_end false (le-ltb end (next + length values) within)
        ∙ (λ i. Ok (learned_so ▸ requester_is (record (b.role i) { stage = sync.Replay (next + length values) end }) ▸ arm now timer.Step))
        ∙ ap (λ (y : Course). Ok (y ▸ requester_is (record s { stage = sync.Replay (next + length values) end }) ▸ arm now timer.Step)) (sym (changed-is (learn_changes next values) x))
