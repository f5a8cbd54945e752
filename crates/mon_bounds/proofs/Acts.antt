-- Each act leaves an event under way that may go on, if the earlier changes left it room.
use Rattle.std.proofs.Common.{◌≡◌, ℕ, suc, ◌+◌, ◌*◌, ◌<◌, ◌≤◌, ◌^◌, ◌⊎◌, Bool, true, false, not, ◌&&◌, eqb, ltb, max, List, [], ◌∷◌, length, Option, Some, None, IfSome, Ok, refl, ap, subst, inl, inr, arith}
use Rattle.std.proofs.lemmas.Bool.{cond_both, ltb-true}
use Rattle.std.specs.List.{AllByRecursion, flat_map}
use Rattle.std.specs.Prelude.{slice_index_or}
use Rattle.election_rules.specs.Ranking.{allows}
use Rattle.log_model.proofs.Lists.{all_append}
use Rattle.mon_msg.specs.Protocol.Changes.{Epoch, Last, Mark, Numbers, Vote}
use Rattle.mon_msg.specs.Protocol.Collecting.{begin_found, collect, collect_with, commits_to, commits_with, missed, reign, settle}
use Rattle.mon_msg.specs.Protocol.Course.{Course, change, disarm, forget_clients, in_phase, leader_is, prober_is, ◌▸◌}
use Rattle.mon_msg.specs.Protocol.Entering.{adopt, bootstrap, elect, in_next_epoch, in_odd_epoch, is_even, next_even, own_table, scores_count, win, win_alone}
use Rattle.mon_msg.specs.Protocol.Leading.{be_active, begin, begin_alone, begin_with, commit, extend, is_alone}
use Rattle.mon_msg.specs.Protocol.Learning.{learn, learn_changes}
use Rattle.mon_msg.specs.Protocol.Length.{fits}
use Rattle.mon_msg.specs.Protocol.Phases.{phase_of}
use Rattle.mon_msg.specs.Protocol.Readings.{Readings, epoch_of, or_zero, promise_of}
use Rattle.mon_msg.specs.Protocol.Records.{pending, run_from}
use Rattle.mon_msg.specs.Protocol.Sending.{answers_to, members, others, send_each}
use Rattle.mon_msg.specs.Protocol.Sets.{only}
use Rattle.mon_msg.specs.Protocol.State.{State}
use Rattle.mon_msg.specs.Protocol.Synchronizing.{floor_of, full_sync, recent_sync}
use Rattle.mon_msg.specs.declared.paxos.Found.{Found}
use Rattle.mon_msg.specs.declared.paxos.Leader.{Leader}
use Rattle.mon_msg.specs.declared.paxos.LeaderStage.TheVariants as stage
use Rattle.mon_msg.specs.declared.paxos.LeaderStage.{LeaderStage}
use Rattle.mon_msg.specs.declared.plan.Origin.TheVariants as origin
use Rattle.mon_msg.specs.declared.plan.Origin.{Origin}
use Rattle.mon_msg.specs.declared.view.Me.{Me}
use Rattle.mon_tx.specs.Decode.{HasText}
use Rattle.mon_tx.specs.declared.op.Op.{Op}
use Rattle.mon_types.specs.Proposal.{next_number}
use Rattle.mon_types.specs.declared.names.Which.TheVariants as which
use Rattle.mon_wire.specs.declared.body.Body.TheVariants as body
use Rattle.mon_wire.specs.declared.phase.Phase.TheVariants as phase
use Rattle.mon_wire.specs.declared.phase.Timer.TheVariants as timer
use Rattle.mon_wire.specs.declared.reply.Reply.TheVariants as reply
use Rattle.mon_wire.specs.declared.reply.Reply.{Reply}
use Rattle.mon_bounds.proofs.Courses.{AreNumbers, Tells, OthersIn, KeepsIn, Over, Under, WrittenIn, leading, over, raise, says, tells, tells_each, writes}
use Rattle.mon_bounds.proofs.Messages as said
use Rattle.mon_bounds.proofs.Messages.{Routed, goes, routed_answers}
use Rattle.mon_bounds.proofs.RankSets.{members_below, others_below, set_none, set_only}
use Rattle.mon_bounds.proofs.Reading.{longest_passes, pending_is, run_texts}
use Rattle.mon_bounds.proofs.Sizes.{epoch_size, last_size, learned_size, load, load-cons, mark_size, numbers_size, vote_size}
use Rattle.quorum_walk.proofs.FineReading.{longest_fine}
use Rattle.quorum_walk.proofs.Walk.{Then, and_then, by_test, done, where_fits}
use Rattle.mon_bounds.specs.Fitting.{MaySend}
use Rattle.mon_bounds.specs.Remembered.{IsElector, IsOrigin, IsPlaced, IsSet, MayPropose}

-- ---- phases

leading_only : (s : LeaderStage) → phase_of s ≡ phase.Synchronizing → ⊥
leading_only stage.Collecting e = absurd cc
leading_only stage.Previous e = absurd cc
leading_only stage.Active e = absurd cc
leading_only stage.Updating e = absurd cc

-- a leader in the phase of its stage
pub in_stage : (n : ℕ) (s : LeaderStage) (l : Leader) → l.stage ≡ s → IsPlaced n (phase_of s) l
in_stage n s l e = record { leads = λ _. ap phase_of e; copies = λ c. absurd (leading_only s c) }

pub in_probing : (n : ℕ) (l : Leader) → IsPlaced n phase.Probing l
in_probing n l = record { leads = λ e. absurd cc; copies = λ e. absurd cc }

pub in_electing : (n : ℕ) (l : Leader) → IsPlaced n phase.Electing l
in_electing n l = record { leads = λ e. absurd cc; copies = λ e. absurd cc }

pub in_peon : (n : ℕ) (l : Leader) → IsPlaced n phase.Peon l
in_peon n l = record { leads = λ e. absurd cc; copies = λ e. absurd cc }

in_synchronizing : (n : ℕ) (l : Leader) → 1 < n → IsPlaced n phase.Synchronizing l
in_synchronizing n l h = record { leads = λ e. absurd cc; copies = λ _. h }

-- ---- lists

pub learned_tells : (v : ℕ) (values : List (List Op)) → AllByRecursion Tells (learn_changes v values)
learned_tells v [] = tt
learned_tells v (x ∷ xs) = (tt, learned_tells (suc v) xs)

all_flat_map : {A B : Type 0} (P : B → Type 0) (Q : A → Type 0) (f : A → List B) → ((x : A) → Q x → AllByRecursion P (f x)) → (xs : List A) → AllByRecursion Q xs → AllByRecursion P (flat_map f xs)
all_flat_map P Q f h [] k = tt
all_flat_map P Q f h (x ∷ xs) k = all_append P (f x) (flat_map f xs) (h x k.0) (all_flat_map P Q f h xs k.1)

-- how many bytes may be written before a leader begins a value: fewer if it is alone, since it then learns the value at
-- once
abbrev pub room : Bool → ℕ
room true = 3000000
room false = 3600000

pub room_least : (b : Bool) → 3000000 ≤ room b
room_least true = omega arith
room_least false = omega arith

module _ (me : Me) (now : ℕ) where
  abbrev n : ℕ
  n = me.member.monitors

  -- ---- answers

  pub done_routed : (v : ℕ) → v ≤ 2 ^ 62 → Routed me (reply.Done v)
  done_routed v h = record { routed = refl; form = h }

  pub answers_go : (o : Option Origin) (r : Reply) (epoch : ℕ) → epoch ≤ 2 ^ 62 → IfSome o (IsOrigin n) → Routed me r → AllByRecursion (MaySend me) (answers_to me epoch o r)
  answers_go None r epoch h k R = tt
  answers_go (Some (origin.Session s)) r epoch h k R = ((λ e l. goes me (body.Reply s.id r) e l (said.answer me s.id r k (routed_answers me r R))), tt)
  answers_go (Some (origin.Forwarded rank seq)) r epoch h k R = ((k.0, goes me (body.Route seq r) epoch h (said.route me seq r k.1 R)), tt)

  -- ---- learning

  -- learning values writes at most this many bytes more; R is a property of what is remembered, which doesn't change
  pub learn_some : (R : State → Type 0) (b v : ℕ) (value : List Op) (values : List (List Op)) (x : Course) → R x.state → Under me b x
      → Then (λ y. Under me (b + (19 * length (value ∷ values) + 2 * load (value ∷ values)) + 100) y × (v + length values ≤ 2 ^ 62) × R y.state) (learn v (value ∷ values) x)
  unfolding learn
  learn_some R b v value values x r A =
      let cs = learn_changes v (value ∷ values) in
      let k = 19 * length (value ∷ values) + 2 * load (value ∷ values) in
      where_fits _ which.Version (v + length values) _ (λ short.
      let B = writes me cs k b _ _ _ (learned_size v (value ∷ values) (omega arith)) (learned_tells v (value ∷ values)) A.0 in
      let C = writes me (Last (v + length values) ∷ []) 100 (b + k) _ _ _ (last_size (v + length values)) (short, tt) B in
      done ((C, A.1), short, r))

  pub learn_ok : (R : State → Type 0) (b k v : ℕ) (values : List (List Op)) (x : Course) → 19 * length values + 2 * load values + 100 ≤ k → R x.state → Under me b x
      → Then (λ y. Under me (b + k) y × R y.state) (learn v values x)
  unfolding learn
  learn_ok R b k v [] x h r A = done ((raise me b (b + k) _ _ _ (omega arith) A.0, A.1), r)
  learn_ok R b k v (value ∷ values) x h r A =
      let cs = learn_changes v (value ∷ values) in
      let j = 19 * length (value ∷ values) + 2 * load (value ∷ values) in
      where_fits _ which.Version (v + length values) _ (λ short.
      let B = writes me cs j b _ _ _ (learned_size v (value ∷ values) (omega arith)) (learned_tells v (value ∷ values)) A.0 in
      let C = writes me (Last (v + length values) ∷ []) 100 (b + j) _ _ _ (last_size (v + length values)) (short, tt) B in
      done ((raise me (b + j + 100) (b + k) _ _ _ (omega arith) C, A.1), r))

  -- ---- leading

  pub be_active_ok : (b : ℕ) (x : Course) → Under me b x → Under me b (be_active me now x)
  unfolding be_active extend
  be_active_ok b x A =
      let l = x.state.leader in
      let L = A.1.leader in (
        tells_each me (body.Lease x.readings.last) (members me l.quorum) b _ _ _ (said.lease me x.readings.last A.0.numbers.last) (members_below me l.quorum) A.0,
        record { placed = in_stage n stage.Active _ refl; leader = record { quorum = L.quorum; pn = L.pn; found = L.found; value = L.value; origin = L.origin }; others = A.1.others },
      )

  short_load : (value : List Op) → MayPropose value → 19 * length (value ∷ []) + 2 * load (value ∷ []) ≤ 1049000
  short_load value V = let s = V.short in omega (arith, load-cons value [])

  pub commit_ok : (b : ℕ) (value : List Op) (x : Course) → MayPropose value → b ≤ 3000000 → Under me b x → Then (Over me) (commit me now value x)
  unfolding commit
  commit_ok b value x V h A =
      let v = suc x.readings.last in
      let k = 19 * length (value ∷ []) + 2 * load (value ∷ []) in
      let few = short_load value V in
      and_then _ (Over me) (learn v (value ∷ []) x) _ (learn_some (λ s. Unit {0}) b v value [] x tt A) (λ y B.
      let short : v ≤ 2 ^ 62 = let s = B.1 in omega arith in
      let K = B.0.1 in
      let L = K.leader in
      let l = y.state.leader in
      let P = K.placed in
      let C = tells_each me (body.Commit v (value ∷ [])) (members me l.quorum) (b + k + 100) _ _ _ (said.commit_one me v value short V) (members_below me l.quorum) B.0.0 in
      let N : Leader = record l { value = None; origin = None } in
      let K2 = leading me N K (record { leads = P.leads; copies = P.copies }) (record { quorum = L.quorum; pn = L.pn; found = L.found; value = tt; origin = tt }) in
      let y2 : Course = y ▸ disarm timer.Accept ▸ leader_is N ▸ send_each me (members me l.quorum) (body.Commit v (value ∷ [])) in
      let D = be_active_ok (b + k + 100) y2 (C, K2) in
      over me (b + k + 100) _ (omega (arith, few, h)) (says me (answers_to me _ l.origin (reply.Done v)) (b + k + 100) _ _ _ (answers_go l.origin (reply.Done v) _ D.0.numbers.epoch L.origin (done_routed v short)) D.0, D.1))

  begin_alone_ok : (b v : ℕ) (value : List Op) (o : Option Origin) (x : Course) → MayPropose value → IfSome o (IsOrigin n) → v ≤ 2 ^ 62 → b ≤ 3000000 → Under me b x → Then (Over me) (begin_alone me v value o x)
  unfolding begin_alone
  begin_alone_ok b v value o x V O short h A =
      let k = 19 * length (value ∷ []) + 2 * load (value ∷ []) in
      let few = short_load value V in
      and_then _ (Over me) (learn v (value ∷ []) x) _ (learn_some (λ s. Unit {0}) b v value [] x tt A) (λ y B.
      let K = B.0.1 in
      let L = K.leader in
      over me (b + k + 100) _ (omega (arith, few, h)) (
        says me (answers_to me _ o (reply.Done v)) (b + k + 100) _ _ _ (answers_go o (reply.Done v) _ B.0.0.numbers.epoch O (done_routed v short)) B.0.0,
        record { placed = in_stage n stage.Active _ refl; leader = record { quorum = L.quorum; pn = L.pn; found = L.found; value = L.value; origin = L.origin }; others = K.others },
      ))

  begin_with_ok : (s : LeaderStage) (b v : ℕ) (value : List Op) (o : Option Origin) (x : Course) → MayPropose value → IfSome o (IsOrigin n) → v ≤ 2 ^ 62 → b ≤ 3600000 → Under me b x → Over me (begin_with me now s v value o x)
  unfolding begin_with
  begin_with_ok s b v value o x V O short h A =
      let l = x.state.leader in
      let L = A.1.leader in
      let pn = l.pn in
      let short_value = V.short in
      let B = writes me (Vote v pn value ∷ []) (100 + 524288) b _ _ _ (omega (arith, vote_size v pn value short, short_value)) (L.pn, tt) A.0 in
      let C = tells_each me (body.Begin pn v value) (members me l.quorum) (b + (100 + 524288)) _ _ _ (said.begin me pn v value L.pn short V) (members_below me l.quorum) B in (
        raise me (b + (100 + 524288)) 4194299 _ _ _ (omega arith) C,
        record { placed = in_stage n s _ refl; leader = record { quorum = L.quorum; pn = L.pn; found = L.found; value = V; origin = O }; others = A.1.others },
      )

  pub begin_ok : (s : LeaderStage) (b : ℕ) (value : List Op) (o : Option Origin) (x : Course) → MayPropose value → IfSome o (IsOrigin n) → b ≤ room (is_alone me x.state.leader.quorum) → Under me b x
      → Then (Over me) (begin me now s value o x)
  unfolding begin
  begin_ok s b value o x V O h A =
      let v = suc x.readings.last in
      where_fits (Over me) which.Version v _ (λ short.
      by_test (is_alone me x.state.leader.quorum) (λ t. begin_alone_ok b v value o x V O short (subst (λ (z : Bool). b ≤ room z) t h) A)
      (λ t. done (begin_with_ok s b v value o x V O short (subst (λ (z : Bool). b ≤ room z) t h) A)))

  -- ---- collecting

  commits_go : (told epoch : ℕ) (values : List (List Op)) (to : ℕ) → told < 2 ^ 62 → epoch ≤ 2 ^ 62 → to < n → AllByRecursion HasText values → fits n (body.Commit (suc told) values) ≡ true
      → AllByRecursion (MaySend me) (commits_with me epoch told values to)
  commits_go told epoch [] to t e lt k ok = tt
  commits_go told epoch (value ∷ values) to t e lt k ok =
      ((lt, goes me (body.Commit (suc told) (value ∷ values)) epoch e (said.commit me (suc told) value values (omega arith) k ok)), tt)

  commits_to_go : (w : Readings) (lasts : List ℕ) (to : ℕ) → AreNumbers w → to < n → AllByRecursion (MaySend me) (commits_to me w lasts to)
  unfolding missed
  commits_to_go w lasts to R lt =
      let told = slice_index_or lasts to 0 in
      let test = λ (vs : List (List Op)). fits n (body.Commit (suc told) vs) in
      let run = run_from w.record_of w.last (suc told) in
      cond_both (ltb told w.last) (commits_with me (epoch_of w) told (missed n w.record_of w.last told) to) [] (AllByRecursion (MaySend me))
      (λ t. let below = ltb-true told w.last t in
      let last = R.last in
      commits_go told (epoch_of w) (missed n w.record_of w.last told) to (omega arith) R.epoch lt (longest_fine HasText test run (run_texts w.record_of w.last (suc told))) (longest_passes test run refl))
      (λ _. tt)

  abbrev pub IsFound : Option Found → Type 0
  IsFound found = IfSome found (λ f. MayPropose f.value)

  begin_found_ok : (found : Option Found) (b : ℕ) (x : Course) → IsFound found → b ≤ room (is_alone me x.state.leader.quorum) → b ≤ 4194299 → Under me b x → Then (Over me) (begin_found me now found x)
  begin_found_ok None b x F h m A = over me b (be_active me now x) m (be_active_ok b x A)
  begin_found_ok (Some f) b x F h m A =
      by_test (eqb f.version (suc x.readings.last)) (λ _. begin_ok stage.Previous b f.value None x F tt h A) (λ _. over me b (be_active me now x) m (be_active_ok b x A))

  room_most : (b : ℕ) (z : Bool) → b ≤ room z → b ≤ 4194299
  room_most b true h = omega arith
  room_most b false h = omega arith

  pub settle_ok : (b : ℕ) (x : Course) → b ≤ room (is_alone me x.state.leader.quorum) → Under me b x → Then (Over me) (settle me now x)
  unfolding settle
  settle_ok b x h A =
      let l = x.state.leader in
      let ks = members me l.quorum in
      let L = A.1.leader in
      let P = A.1.placed in
      let B = says me (flat_map (commits_to me x.readings l.lasts) ks) b _ _ _ (all_flat_map (MaySend me) (λ (k : ℕ). k < n) (commits_to me x.readings l.lasts) (λ to lt. commits_to_go x.readings l.lasts to A.0.numbers lt) ks (members_below me l.quorum)) A.0 in
      let N : Leader = record l { found = None } in
      let K = leading me N A.1 (record { leads = P.leads; copies = P.copies }) (record { quorum = L.quorum; pn = L.pn; found = tt; value = L.value; origin = L.origin }) in
      begin_found_ok l.found b _ L.found h (room_most b (is_alone me l.quorum) h) (B, K)

  found_of : (pn : ℕ) (found : Option Found) → IfSome found (λ f. MayPropose f.value × (f.pn ≡ pn)) → IsFound found
  found_of pn None k = tt
  found_of pn (Some f) k = k.0

  pub pending_found : (w : Readings) → IsFound (pending w)
  pending_found w = found_of w.pending_pn (pending w) (pending_is w.record_of w.pending_v w.pending_pn w.last)

  collect_with_ok : (q : List Bool) (pn b : ℕ) (x : Course) → IsSet n q → pn ≤ 2 ^ 62 → WrittenIn me b x → OthersIn me x → Under me (b + 100) (collect_with me now q pn x)
  unfolding collect_with
  collect_with_ok q pn b x s short A O =
      let B = writes me (Numbers pn ∷ []) 100 b _ _ _ (numbers_size pn) (short, tt) A in (
        tells_each me (body.Collect pn x.readings.first x.readings.last) (members me q) (b + 100) _ _ _ (said.collect me pn x.readings.first x.readings.last short A.numbers.first A.numbers.last) (members_below me q) B,
        record { placed = in_stage n stage.Collecting _ refl; leader = record { quorum = s; pn = short; found = pending_found x.readings; value = tt; origin = tt }; others = O },
      )

  pub collect_ok : (q : List Bool) (above b : ℕ) (x : Course) → IsSet n q → b + 100 ≤ room (is_alone me q) → WrittenIn me b x → OthersIn me x → Then (Over me) (collect me now q above x)
  unfolding collect collect_with
  collect_ok q above b x s h A O =
      let pn = next_number (or_zero x.readings.last_pn) (max (promise_of x.readings) above) me.member.rank in
      where_fits (Over me) which.Pn pn _ (λ short.
      let B = collect_with_ok q pn b x s short A O in
      by_test (is_alone me q) (λ _. settle_ok (b + 100) (collect_with me now q pn x) h B) (λ _. over me (b + 100) (collect_with me now q pn x) (room_most (b + 100) (is_alone me q) h) B))

  pub reign_ok : (q : List Bool) (b : ℕ) (x : Course) → IsSet n q → b + 100 ≤ room (is_alone me q) → WrittenIn me b x → OthersIn me x → Then (Over me) (reign me now q x)
  unfolding reign
  reign_ok q b x s h A O =
      collect_ok q 0 b _ s h (tells_each me (body.Victory q) (members me q) b _ _ _ (said.victory me q s) (members_below me q) A) O

  -- ---- elections

  pub calls_epoch : (e b : ℕ) (x : Course) → e ≤ 2 ^ 62 → WrittenIn me b x → WrittenIn me (b + 100) (change (Epoch e) x)
  calls_epoch e b x short A = writes me (Epoch e ∷ []) 100 b _ _ _ (epoch_size e) (short, tt) A

  forgets : (x : Course) → OthersIn me x → OthersIn me (forget_clients x)
  forgets x O = record { elector = O.elector; peon = O.peon; clients = record { queue = tt; sessions = tt }; requester = O.requester }

  -- how many bytes may be written before a monitor begins again: few if it is alone, and otherwise as many as a store
  -- takes
  abbrev pub Anew : ℕ → Type 0
  Anew b = (b ≤ 2800000) ⊎ ((ltb 1 n ≡ true) × (b ≤ 4194299))

  win_alone_ok : (b : ℕ) (x : Course) → b ≤ 2800000 → WrittenIn me b x → OthersIn me x → Then (Over me) (win_alone me now x)
  win_alone_ok b x h A O =
      let e = next_even (epoch_of x.readings) in
      where_fits (Over me) which.Epoch e _ (λ short.
      let r = room_least (is_alone me (only me.member.rank)) in
      reign_ok (only me.member.rank) (b + 100) (change (Epoch e) x) (set_only n me.member.rank me.member.in_map) (omega arith) (calls_epoch e b x short A) O)

  pub bootstrap_ok : (b : ℕ) (x : Course) → Anew b → Under me b x → Then (Over me) (bootstrap me now x)
  unfolding bootstrap
  bootstrap_ok b x h A =
      let y : Course = x ▸ in_phase phase.Probing ▸ forget_clients ▸ prober_is (record { outside = only me.member.rank }) in
      let O = forgets x A.1.others in
      let K : KeepsIn me y = record { placed = in_probing n x.state.leader; leader = A.1.leader; others = O } in
      let W : WrittenIn me b y = A.0 in
      by_test (ltb 1 n)
      (λ _. over me b _ (within_most b h) (tells_each me body.Probe (others me) b _ _ _ (said.probe me) (others_below me) W, K))
      (λ t. by_test (allows me.rule me.member.rank && not x.readings.marked)
      (λ _. win_alone_ok b y (alone b h t) W O)
      (λ _. over me b y (within_most b h) (W, K)))
    where
      within_most : (b : ℕ) → Anew b → b ≤ 4194299
      within_most b (inl l) = omega arith
      within_most b (inr l) = l.1

      alone : (b : ℕ) → Anew b → ltb 1 n ≡ false → b ≤ 2800000
      alone b (inl l) t = l
      alone b (inr l) t = let u = l.0 in absurd cc

  in_next_epoch_ok : (R : State → Type 0) (b : ℕ) (x : Course) → R x.state → Under me b x → Then (λ y. Under me (b + 100) y × R y.state) (in_next_epoch x)
  in_next_epoch_ok R b x r A = where_fits _ which.Epoch (suc (epoch_of x.readings)) (λ e. Ok (change (Epoch e) x)) (λ short. done ((calls_epoch (suc (epoch_of x.readings)) b x short A.0, A.1), r))

  in_odd_epoch_ok : (b : ℕ) (x : Course) → Under me b x → Then (λ y. Under me (b + 100) y × Unit {0}) (in_odd_epoch x)
  unfolding in_odd_epoch
  in_odd_epoch_ok b x A = by_test (is_even (epoch_of x.readings)) (λ _. in_next_epoch_ok (λ s. Unit {0}) b x tt A) (λ _. done ((raise me b (b + 100) _ _ _ (omega arith) A.0, A.1), tt))

  pub own_is : (x : Course) → IsElector n me.member.rank x.state.elector → said.IfTable me (own_table me x)
  own_is x E = cond_both (scores_count me.rule) (Some x.state.elector.scores) None (said.IfTable me) (λ _. E.scores) (λ _. tt)

  pub elect_ok : (b : ℕ) (x : Course) → b + 100 ≤ 4194299 → Under me b x → Then (Over me) (elect me now x)
  unfolding elect
  elect_ok b x h A = and_then _ (Over me) (in_odd_epoch x) _ (in_odd_epoch_ok b x A) (λ y B.
      let W = B.0.0 in
      let K = B.0.1 in
      let O = K.others in
      let E = O.elector in
      over me (b + 100) _ h (
        tells_each me (body.Propose (own_table me y)) (others me) (b + 100) _ _ _ (said.propose me (own_table me y) (own_is y E)) (others_below me) W,
        record { placed = in_electing n y.state.leader; leader = K.leader; others = record { elector = record { acked = set_only n me.member.rank me.member.in_map; scores = E.scores }; peon = O.peon; clients = record { queue = tt; sessions = tt }; requester = O.requester } },
      ))

  pub adopt_ok : (e b : ℕ) (x : Course) → e ≤ 2 ^ 62 → Under me b x → Under me (b + 100) (adopt now e x)
  unfolding adopt
  adopt_ok e b x short A =
      let K = A.1 in
      let O = K.others in
      let E = O.elector in (
        calls_epoch e b x short A.0,
        record { placed = in_electing n x.state.leader; leader = K.leader; others = record { elector = record { acked = set_none n; scores = E.scores }; peon = O.peon; clients = record { queue = tt; sessions = tt }; requester = O.requester } },
      )

  pub win_ok : (q : List Bool) (b : ℕ) (x : Course) → IsSet n q → b ≤ 2800000 → Under me b x → Then (Over me) (win me now q x)
  unfolding win
  win_ok q b x s h A = and_then _ (Over me) (in_next_epoch x) _ (in_next_epoch_ok (λ s. Unit {0}) b x tt A) (λ y B.
      let r = room_least (is_alone me q) in reign_ok q (b + 100) y s (omega arith) B.0.0 B.0.1.others)

  -- ---- synchronization

  pub full_sync_ok : (f b : ℕ) (x : Course) → f < n → 1 < n → b + 200 ≤ 4194299 → Under me b x → Over me (full_sync me now f x)
  unfolding full_sync
  full_sync_ok f b x lt many h A =
      let K = A.1 in
      let O = K.others in
      let B = writes me (Mark (floor_of x.readings) x.readings.last_pn x.readings.promise ∷ []) 200 b _ _ _ (mark_size (floor_of x.readings) x.readings.last_pn x.readings.promise) (A.0.numbers.promise, tt) A.0 in (
        raise me (b + 200) 4194299 _ _ _ h (tells me body.GetCookieFull f (b + 200) _ _ _ (said.get_cookie_full me) lt B),
        record { placed = in_synchronizing n x.state.leader many; leader = K.leader; others = record { elector = O.elector; peon = O.peon; clients = O.clients; requester = record { provider = lt; stage = tt } } },
      )

  pub recent_sync_ok : (f b : ℕ) (x : Course) → f < n → 1 < n → b ≤ 4194299 → Under me b x → Over me (recent_sync me now f x)
  unfolding recent_sync
  recent_sync_ok f b x lt many h A =
      let K = A.1 in
      let O = K.others in (
        raise me b 4194299 _ _ _ h (tells me (body.GetCookieRecent x.readings.last) f b _ _ _ (said.get_cookie_recent me x.readings.last A.0.numbers.last) lt A.0),
        record { placed = in_synchronizing n x.state.leader many; leader = K.leader; others = record { elector = O.elector; peon = O.peon; clients = O.clients; requester = record { provider = lt; stage = tt } } },
      )
