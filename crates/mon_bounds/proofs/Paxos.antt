-- The rows of leaders and peons.
use Rattle.std.proofs.Common.{◌≡◌, ℕ, suc, ◌+◌, ◌-◌, ◌*◌, ◌<◌, ◌≤◌, ◌^◌, Bool, true, false, not, ◌&&◌, ◌||◌, cond, eqb, ltb, leb, List, [], ◌∷◌, length, Option, Some, None, IfSome, Result, Ok, Err, refl, sym, subst, inl, arith, length-drop}
use Rattle.std.proofs.lemmas.Bool.{and_parts, cond_both, leb-true, not-false}
use Rattle.std.proofs.lemmas.List.Sums.{sum_by-take-drop}
use Rattle.std.specs.List.{AllByRecursion}
use Rattle.std.specs.Prelude.{is_some}
use Rattle.mon_msg.specs.Protocol.Answers.{answer_of, last_answer, is_complete, told_of, sent_values}
use Rattle.mon_msg.specs.Protocol.Changes.{Change, Promise, Vote}
use Rattle.mon_msg.specs.Protocol.Course.{Course, leader_is, ◌▸◌}
use Rattle.mon_msg.specs.Protocol.Found.{better, counts, is_newer}
use Rattle.mon_msg.specs.Protocol.Leader.{all_accepted, all_answered, commit_any, hear_accept, hear_answer, hear_last, hear_lease_ack, hear_whole, is_one_of, note, note_answer, note_pending, of_member, renew}
use Rattle.mon_msg.specs.Protocol.Leading.{extend, is_alone}
use Rattle.mon_msg.specs.Protocol.Learning.{learn, news, news_from}
use Rattle.mon_msg.specs.Protocol.Length.{fits}
use Rattle.mon_msg.specs.Protocol.Peon.{cancel, hear_begin, hear_collect, hear_commit, hear_lease, of_leader, promise}
use Rattle.mon_msg.specs.Protocol.Phases.{same_phase}
use Rattle.mon_msg.specs.Protocol.Readings.{Readings, epoch_of, or_zero, promise_of}
use Rattle.mon_msg.specs.Protocol.Records.{longest, most_value, pending, run_from}
use Rattle.mon_msg.specs.Protocol.Sending.{members}
use Rattle.mon_msg.specs.Protocol.State.{State}
use Rattle.mon_msg.specs.declared.paxos.Found.{Found}
use Rattle.mon_msg.specs.declared.view.Me.{Me}
use Rattle.mon_tx.specs.Decode.{HasText}
use Rattle.mon_tx.specs.Text.{text}
use Rattle.mon_tx.specs.declared.op.Op.{Op}
use Rattle.mon_types.specs.Ranks.{has, with_rank}
use Rattle.mon_types.specs.declared.names.Which.TheVariants as which
use Rattle.mon_types.specs.declared.names.Which.{Which}
use Rattle.mon_wire.specs.Message.Bodies.{encoded}
use Rattle.mon_wire.specs.Message.Parts as parts
use Rattle.mon_wire.specs.Message.PartLengths.{value_length}
use Rattle.mon_wire.specs.declared.body.Body.TheVariants as body
use Rattle.mon_wire.specs.declared.parts.Told.{Told}
use Rattle.mon_wire.specs.declared.phase.Phase.TheVariants as phase
use Rattle.mon_wire.specs.declared.phase.Phase.{Phase}
use Rattle.mon_bounds.proofs.Acts.{bootstrap_ok, collect_ok, commit_ok, learn_ok, room, room_least, settle_ok}
use Rattle.mon_bounds.proofs.Courses.{AreNumbers, Tells, Over, Under, following, leading, over, raise, tells, tells_each, writes}
use Rattle.mon_bounds.proofs.Messages as said
use Rattle.mon_bounds.proofs.Messages.{Said, fits_length, fits_lists}
use Rattle.mon_bounds.proofs.RankSets.{members_below, not_alone}
use Rattle.mon_bounds.proofs.Reading.{longest_passes, pending_is, run_texts}
use Rattle.mon_bounds.proofs.Sizes.{load, promise_size, size, vote_size}
use Rattle.quorum_walk.proofs.FineReading.{longest_fine}
use Rattle.quorum_walk.proofs.Walk.{Then, and_then, by_test, done, where_fits}
use Rattle.mon_bounds.specs.Remembered.{MayPropose}

-- what a message of values that fits makes a monitor write at most
abbrev pub most_learned : ℕ
most_learned = 3400000

pub news_short : (last from : ℕ) (values : List (List Op)) → length values ≤ 65535 → load values ≤ 1048576 → 19 * length (news last from values) + 2 * load (news last from values) + 100 ≤ most_learned
news_short last from values few short = omega (arith, length-drop (suc last - from) values, sum_by-take-drop value_length values (suc last - from))

module _ (me : Me) (now : ℕ) where
  abbrev n : ℕ
  n = me.member.monitors

  abbrev AreOthers : State → Type 0
  AreOthers s = is_alone me s.leader.quorum ≡ false

  among : (f e : ℕ) (phases : List Phase) (x : Course) → not (of_member phases f e x) ≡ false → has x.state.leader.quorum f ≡ true
  among f e phases x t = (and_parts (is_one_of phases x.state.phase && eqb e (epoch_of x.readings)) (has x.state.leader.quorum f) (not-false (of_member phases f e x) t)).1

  -- ---- what members accepted

  note_answer_ok : (f last b : ℕ) (found : Option Found) (x : Course) → IfSome found (λ g. MayPropose g.value) → Under me b x → Under me b (note_answer f last found x)
  note_answer_ok f last b found x F A =
      let L = A.1.leader in
      let P = A.1.placed in
      (A.0, leading me _ A.1 (record { leads = P.leads; copies = P.copies }) (record { quorum = L.quorum; pn = L.pn; found = F; value = L.value; origin = L.origin }))

  better_is : (found : Option Found) (new : Found) → IfSome found (λ g. MayPropose g.value) → MayPropose new.value → IfSome (better found new) (λ g. MayPropose g.value)
  better_is found new F V = cond_both (is_newer new.version new.pn found) (Some new) found (λ o. IfSome o (λ g. MayPropose g.value)) (λ _. V) (λ _. F)

  note_told_ok : (f last b : ℕ) (t : Option Told) (x : Course) → IfSome t (λ u. MayPropose u.value) → AreOthers x.state → Under me b x → Then (λ y. Under me b y × AreOthers y.state) (note_pending f last t x)
  note_told_ok f last b None x T o A = done (note_answer_ok f last b x.state.leader.found x A.1.leader.found A, o)
  note_told_ok f last b (Some t) x T o A = where_fits _ which.Version (suc last) _ (λ short.
      done (note_answer_ok f last b _ x (better_is x.state.leader.found (record { version = suc last; pn = t.pn; value = t.value }) A.1.leader.found T) A, o))

  counts_is : (t : Option Told) → said.IsTold me t → IfSome (counts t) (λ u. MayPropose u.value)
  counts_is None T = tt
  counts_is (Some t) T = cond_both (leb (length (text t.value)) most_value) (Some t) None (λ o. IfSome o (λ u. MayPropose u.value))
      (λ s. record { form = T.1; short = leb-true (length (text t.value)) most_value s }) (λ _. tt)

  hear_whole_ok : (f last : ℕ) (t : Option Told) (x : Course) → said.IsTold me t → AreOthers x.state → Under me most_learned x → Then (Over me) (hear_whole me now f last t x)
  hear_whole_ok f last t x T o A =
      and_then _ (Over me) (note f last t x) _ (note_told_ok f last most_learned (counts t) x (counts_is t T) o A) (λ y B.
      by_test (all_answered me y) (λ _. settle_ok me now most_learned y (rest (is_alone me y.state.leader.quorum) B.1) B.0) (λ _. over me most_learned y (omega arith) B.0))
    where
      rest : (z : Bool) → z ≡ false → most_learned ≤ room z
      rest z e = subst (λ (y : Bool). most_learned ≤ room y) (sym e) (omega arith)

  hear_answer_ok : (f last : ℕ) (whole : Bool) (from : ℕ) (values : List (List Op)) (t : Option Told) (x : Course) → length values ≤ 65535 → load values ≤ 1048576 → said.IsTold me t → AreOthers x.state → Under me 0 x
      → Then (Over me) (hear_answer me now f last whole from values t x)
  hear_answer_ok f last whole from values t x few short T o A =
      let own = x.readings.last in
      and_then _ (Over me) (learn (news_from own from) (news own from values) x) _ (learn_ok me now AreOthers 0 most_learned (news_from own from) (news own from values) x (news_short own from values few short) o A) (λ y B.
      by_test whole (λ _. hear_whole_ok f last t y T B.1 (raise me (0 + most_learned) most_learned _ _ _ (omega arith) B.0.0, B.0.1))
      (λ _. collect_ok me now y.state.leader.quorum 0 (0 + most_learned) y B.0.1.leader.quorum (among_others (is_alone me y.state.leader.quorum) B.1) B.0.0 B.0.1.others))
    where
      among_others : (z : Bool) → z ≡ false → 0 + most_learned + 100 ≤ room z
      among_others z e = subst (λ (y : Bool). 0 + most_learned + 100 ≤ room y) (sym e) (omega arith)

  told_of_form : (t : Option Told) → (parts.optional parts.told).Form t → said.IsTold me t
  told_of_form None h = tt
  told_of_form (Some t) h = h

  pub hear_last_ok : (f e : ℕ) (pn first last : ℕ) (whole : Bool) (from : ℕ) (values : List (List Op)) (t : Option Told) (x : Course) → eqb f me.member.rank ≡ false → f < n
      → (encoded n f (body.Last pn first last whole from values t)).Form → fits n (body.Last pn first last whole from values t) ≡ true → Under me 0 x
      → Then (Over me) (hear_last me now f e pn first last whole from values t x)
  unfolding hear_last
  hear_last_ok f e pn first last whole from values t x ne lt form ok A =
      let l = x.state.leader in
      let r = room_least (is_alone me l.quorum) in
      let long = fits_length n (body.Last pn first last whole from values t) ok in
      let few = leb-true (length values) 65535 (fits_lists n (body.Last pn first last whole from values t) ok) in
      by_test (not (of_member (phase.Collecting ∷ []) f e x)) (λ _. over me 0 x (omega arith) A) (λ m.
      by_test (ltb l.pn pn) (λ _. collect_ok me now l.quorum pn 0 x A.1.leader.quorum (omega arith) A.0 A.1.others) (λ _.
      by_test (ltb pn l.pn) (λ _. over me 0 x (omega arith) A) (λ _.
      by_test (ltb (suc x.readings.last) first && ltb x.readings.last last) (λ _. bootstrap_ok me now 0 x (inl (omega arith)) A) (λ _.
      hear_answer_ok f last whole from values t x few (omega arith) (told_of_form t form.1.1.1.1.1.1) (not_alone me l.quorum f (among f e (phase.Collecting ∷ []) x m) ne lt) A))))

  -- ---- a value

  commit_any_ok : (value : Option (List Op)) (x : Course) → IfSome value MayPropose → Under me 0 x → Then (Over me) (commit_any me now value x)
  commit_any_ok None x V A = over me 0 x (omega arith) A
  commit_any_ok (Some value) x V A = commit_ok me now 0 value x V (omega arith) A

  pub hear_accept_ok : (f e : ℕ) (pn v : ℕ) (x : Course) → Under me 0 x → Then (Over me) (hear_accept me now f e pn v x)
  unfolding hear_accept
  hear_accept_ok f e pn v x A =
      let l = x.state.leader in
      let L = A.1.leader in
      let P = A.1.placed in
      let y : Course = x ▸ leader_is (record l { accepted = with_rank l.accepted f }) in
      let B : Under me 0 y = (A.0, leading me _ A.1 (record { leads = P.leads; copies = P.copies }) (record { quorum = L.quorum; pn = L.pn; found = L.found; value = L.value; origin = L.origin })) in
      by_test (not (of_member (phase.Previous ∷ phase.Updating ∷ []) f e x && eqb pn l.pn && eqb v (suc x.readings.last))) (λ _. over me 0 x (omega arith) A) (λ _.
      by_test (all_accepted me y) (λ _. commit_any_ok l.value y L.value B) (λ _. over me 0 y (omega arith) B))

  -- ---- leases

  pub hear_lease_ack_ok : (f e : ℕ) (last : ℕ) (x : Course) → Under me 0 x → Then (Over me) (hear_lease_ack me f e last x)
  unfolding hear_lease_ack
  hear_lease_ack_ok f e last x A =
      let L = A.1.leader in
      let P = A.1.placed in
      by_test (not (of_member (phase.Active ∷ []) f e x && eqb last x.readings.last)) (λ _. over me 0 x (omega arith) A)
      (λ _. over me 0 _ (omega arith) (A.0, leading me _ A.1 (record { leads = P.leads; copies = P.copies }) (record { quorum = L.quorum; pn = L.pn; found = L.found; value = L.value; origin = L.origin })))

  pub renew_ok : (x : Course) → Under me 0 x → Then (Over me) (renew me now x)
  unfolding renew extend
  renew_ok x A =
      let l = x.state.leader in
      let L = A.1.leader in
      let P = A.1.placed in
      by_test (not (same_phase x.state.phase phase.Active)) (λ _. over me 0 x (omega arith) A)
      (λ _. over me 0 _ (omega arith) (
        tells_each me (body.Lease x.readings.last) (members me l.quorum) 0 _ _ _ (said.lease me x.readings.last A.0.numbers.last) (members_below me l.quorum) A.0,
        leading me _ A.1 (record { leads = P.leads; copies = P.copies }) (record { quorum = L.quorum; pn = L.pn; found = L.found; value = L.value; origin = L.origin }),
      ))

  -- ---- a peon

  told_is : (found : Option Found) (pn : ℕ) → pn ≤ 2 ^ 62 → IfSome found (λ g. MayPropose g.value × (g.pn ≡ pn)) → said.IsTold me (told_of found)
  told_is None pn h k = tt
  told_is (Some g) pn h k = (subst (λ (m : ℕ). m ≤ 2 ^ 62) (sym k.1) h, k.0.form)

  promise_short : (p : Option ℕ) → IfSome p (λ k. k ≤ 2 ^ 62) → or_zero p ≤ 2 ^ 62
  promise_short None h = omega arith
  promise_short (Some k) h = h

  answer_said : (w : Readings) (from : ℕ) → from ≤ 2 ^ 62 → AreNumbers w → Said me (last_answer n w from)
  unfolding answer_of
  answer_said w from short R =
      let p = promise_of w in
      let values = sent_values n p w.first w.last w.record_of from in
      let told = told_of (pending w) in
      let test = λ (vs : List (List Op)). fits n (body.Last p w.first w.last false from vs None) in
      let run = run_from w.record_of w.last from in
      let ps = promise_short w.promise R.promise in
      let texts : AllByRecursion HasText values = cond_both (ltb w.last from || ltb from w.first) [] (longest test run) (AllByRecursion HasText) (λ _. tt) (λ _. longest_fine HasText test run (run_texts w.record_of w.last from)) in
      let passes : test values ≡ true = cond_both (ltb w.last from || ltb from w.first) [] (longest test run) (λ vs. test vs ≡ true) (λ _. refl) (λ _. longest_passes test run refl) in
      let T = told_is (pending w) w.pending_pn R.pending (pending_is w.record_of w.pending_v w.pending_pn w.last) in
      cond_both (is_complete n p w.first w.last from values told) (body.Last p w.first w.last true from values told) (body.Last p w.first w.last false from values None) (Said me)
      (λ t. said.last me p w.first w.last true from values told ps R.first R.last short texts T (and_parts (ltb w.last (from + length values)) (fits n (body.Last p w.first w.last true from values told)) t).1)
      (λ _. said.last me p w.first w.last false from values None ps R.first R.last short texts tt passes)

  cancel_ok : (b : ℕ) (x : Course) → Under me b x → Under me b (cancel x)
  cancel_ok b x A = let Q = A.1.others.peon in (A.0, following me _ A.1 (record { leader = Q.leader; quorum = Q.quorum }))

  promise_ok : (pn : ℕ) (x : Course) → pn ≤ 2 ^ 62 → Under me 0 x → Under me 100 (promise pn x)
  promise_ok pn x short A =
      let t = ltb (promise_of x.readings) pn in
      let cs : List Change = cond t (Promise pn ∷ []) [] in
      let few : size cs ≤ 100 = cond_both t (Promise pn ∷ []) [] (λ c. size c ≤ 100) (λ _. promise_size pn) (λ _. omega arith) in
      let tell : AllByRecursion Tells cs = cond_both t (Promise pn ∷ []) [] (AllByRecursion Tells) (λ _. (short, tt)) (λ _. tt) in
      (raise me (0 + 100) 100 _ _ _ (omega arith) (writes me cs 100 0 _ _ _ few tell A.0), A.1)

  pub hear_collect_ok : (f e : ℕ) (pn first last : ℕ) (x : Course) → f < n → pn ≤ 2 ^ 62 → Under me 0 x → Then (Over me) (hear_collect me now f e pn first last x)
  unfolding hear_collect
  hear_collect_ok f e pn first last x lt short A =
      let y : Course = x ▸ cancel ▸ promise pn in
      let B : Under me 100 y = promise_ok pn (cancel x) short (cancel_ok 0 x A) in
      by_test (not (of_leader f e x)) (λ _. over me 0 x (omega arith) A) (λ _.
      by_test (ltb (suc x.readings.last) first) (λ _. bootstrap_ok me now 0 x (inl (omega arith)) A) (λ _.
      where_fits (Over me) which.Version (suc last) _ (λ from.
      over me 100 _ (omega arith) (tells me (last_answer n y.readings (suc last)) f 100 _ _ _ (answer_said y.readings (suc last) from B.0.numbers) lt B.0, B.1))))

  pub hear_begin_ok : (f e : ℕ) (pn v : ℕ) (value : List Op) (x : Course) → f < n → (encoded n f (body.Begin pn v value)).Form → fits n (body.Begin pn v value) ≡ true → Under me 0 x
      → Then (Over me) (hear_begin me f e pn v value x)
  unfolding hear_begin
  hear_begin_ok f e pn v value x lt form ok A =
      let long = fits_length n (body.Begin pn v value) ok in
      let B = writes me (Vote v pn value ∷ []) 1100000 0 _ _ _ (omega (arith, long, vote_size v pn value form.1.0)) (form.0, tt) A.0 in
      let Q = A.1.others.peon in
      by_test (not (of_leader f e x && eqb pn (promise_of x.readings) && eqb v (suc x.readings.last))) (λ _. over me 0 x (omega arith) A) (λ _.
      over me 1100000 _ (omega arith) (
        tells me (body.Accept pn v) f 1100000 _ _ _ (said.accept me pn v form.0 form.1.0) lt (raise me (0 + 1100000) 1100000 _ _ _ (omega arith) B),
        following me _ A.1 (record { leader = Q.leader; quorum = Q.quorum }),
      ))

  pub hear_commit_ok : (f e : ℕ) (from : ℕ) (values : List (List Op)) (x : Course) → fits n (body.Commit from values) ≡ true → Under me 0 x → Then (Over me) (hear_commit f e from values x)
  unfolding hear_commit
  hear_commit_ok f e from values x ok A =
      let own = x.readings.last in
      let long = fits_length n (body.Commit from values) ok in
      let few = leb-true (length values) 65535 (fits_lists n (body.Commit from values) ok) in
      by_test (not (of_leader f e x) || ltb (suc own) from) (λ _. over me 0 x (omega arith) A)
      (λ _. ends (learn (suc own) (news own from values) x) (learn_ok me now (λ s. Unit {0}) 0 most_learned (suc own) (news own from values) x (news_short own from values few (omega arith)) tt A))
    where
      ends : (r : Result Course Which) → Then (λ y. Under me (0 + most_learned) y × Unit {0}) r → Then (Over me) r
      ends (Ok y) h = over me (0 + most_learned) y (omega arith) h.holds.0
      ends (Err w) h = record { holds = tt }

  pub hear_lease_ok : (f e : ℕ) (last : ℕ) (x : Course) → f < n → Under me 0 x → Then (Over me) (hear_lease me now f e last x)
  unfolding hear_lease
  hear_lease_ok f e last x lt A =
      let Q = A.1.others.peon in
      by_test (not (of_leader f e x) || not (eqb last x.readings.last) || is_some (pending x.readings)) (λ _. over me 0 x (omega arith) A) (λ _.
      over me 0 _ (omega arith) (tells me (body.LeaseAck x.readings.last) f 0 _ _ _ (said.lease_ack me x.readings.last A.0.numbers.last) lt A.0, following me _ A.1 (record { leader = Q.leader; quorum = Q.quorum })))
