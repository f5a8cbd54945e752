-- What is seen of a monitor after each act.
use Rattle.law_names.proofs.Table.{AllByRecursion, Body, Course, Found, LeaderStage, Me, Message, Op, Origin, Phase, Readings, Reply, Scores, Sent, State, Which, adopt, answer_to, answers_to, be_active, begin, begin_alone, begin_found, begin_with, bootstrap, collect, collect_with, commit, commits_to, commits_with, disarm, elect, epoch_of, epoch_or_first, extend, flat_map, in_next_epoch, in_odd_epoch, is_allowed, is_alone, leader_is, learn, may_defer, members, merge, message_to, missed, next_number, or_zero, others, own_table, phase_of, promise_of, reign, say, send_each, settle, stands_before, weigh, win, ◌▸◌}
use Rattle.mon_decode.specs.Headers.{kind_in}
use Rattle.mon_msg.specs.declared.paxos.LeaderStage.TheVariants as stage
use Rattle.mon_msg.specs.declared.plan.Origin.TheVariants as origin
use Rattle.mon_types.specs.declared.names.Which.TheVariants as which
use Rattle.mon_watch.specs.Seen.{shown}
use Rattle.mon_watch.specs.declared.seen.Seen.{Seen}
use Rattle.mon_wire.specs.declared.body.Body.TheVariants as body
use Rattle.mon_wire.specs.declared.phase.Phase.TheVariants as phase
use Rattle.mon_wire.specs.declared.phase.Timer.TheVariants as timer
use Rattle.mon_wire.specs.declared.reply.Reply.TheVariants as reply
use Rattle.quorum_walk.proofs.Learning.{Same, learns}
use Rattle.quorum_walk.proofs.Lists.{all_flat_map, all_of}
use Rattle.quorum_walk.proofs.Sparing.{Own, Spares, learned_own}
use Rattle.quorum_walk.proofs.Walk.{Then, and_then, by_test, done, where_fits}
use Rattle.std.proofs.Common.{Bool, Err, List, None, Ok, Option, Result, Some, [], ap, eqb, false, inl, inr, is_some, length, ltb, map, max, not, refl, slice_index_or, subst, suc, sym, true, ℕ, ◌&&◌, ◌++◌, ◌+◌, ◌∙◌, ◌∷◌, ◌≡◌, ◌⊎◌}
use Rattle.std.proofs.lemmas.Bool.{cond_both, false≢true}
use Rattle.watch_laws.proofs.Showing.{At, Is, IsIdle, IsSilent, Shown, all, has_others, idle_alone, nobody, still, told}
use Rattle.watch_laws.specs.Watching.{ReadsShort}

-- a condition that each result meets
pub anyway : {A : Type 0} (r : Result A Which) → Then (λ (x : A). Unit {0}) r
anyway (Ok x) = done tt
anyway (Err e) = record { holds = tt }

pub then_map : {A : Type 0} (P Q : A → Type 0) (r : Result A Which) → ((x : A) → P x → Q x) → Then P r → Then Q r
then_map P Q (Ok x) f p = done (f x p.holds)
then_map P Q (Err e) f p = record { holds = tt }

-- two courses with the same state, messages sent and epoch
pub record Kept (x y : Course) : Type 0 where
  pub state : y.state ≡ x.state
  pub out : y.out ≡ x.out
  pub epoch : epoch_of y.readings ≡ epoch_of x.readings

pub learns_sparing : (v : ℕ) (values : List (List Op)) (x : Course) → AllByRecursion Spares values → Then (Kept x) (learn v values x)
unfolding learn
learns_sparing v [] x S = done (record { state = refl; out = refl; epoch = refl })
learns_sparing v (value ∷ values) x S = where_fits (Kept x) which.Version (v + length values) _
    (λ _. done (record { state = refl; out = refl; epoch = ap (λ (o : Own). epoch_or_first o.epoch) (learned_own v (value ∷ values) x.readings S) }))

module _ (me : Me) (now : ℕ) (is_read : Message → Bool) (R : ReadsShort is_read) (several : ltb 1 me.member.monitors ≡ true) (strict : Bool) (seen : Seen) where
  abbrev pub Keeps : Course → Type 0
  Keeps x = Is me is_read strict seen x

  -- what is seen after this was sent
  abbrev pub after : List Sent → Seen
  after out = all me is_read out seen

  pub silent_each : (e : ℕ) (b : Body) → shown (kind_in b) ≡ None → (tos : List ℕ) → AllByRecursion IsSilent (map (message_to me e b) tos)
  silent_each e b k tos = all_of IsSilent (message_to me e b) (λ to. k) tos

  pub silent_answer : (e : ℕ) (o : Origin) (r : Reply) → AllByRecursion IsSilent (answer_to me e o r ∷ [])
  silent_answer e (origin.Session u) r = (tt, tt)
  silent_answer e (origin.Forwarded f seq) r = (refl, tt)

  pub silent_answers : (e : ℕ) (o : Option Origin) (r : Reply) → AllByRecursion IsSilent (answers_to me e o r)
  silent_answers e None r = tt
  silent_answers e (Some o) r = silent_answer e o r

  -- sending more messages that show no phase changes nothing that is seen
  pub quiet : (x : Course) (sends : List Sent) → AllByRecursion IsSilent sends → Keeps x → Keeps (say sends x)
  quiet x sends k K = subst (λ (s : Seen). At me is_read strict s (epoch_of x.readings) x.state.phase x.state.leader.quorum x.state.peon.leader x.state.requester.provider) (sym (still me is_read x.out sends k seen)) K

  -- a course with the same state, messages and epoch is seen alike
  pub kept : (x y : Course) → Kept x y → Keeps x → Keeps y
  kept x y k K =
      subst (λ (out : List Sent). At me is_read strict (after out) (epoch_of y.readings) y.state.phase y.state.leader.quorum y.state.peon.leader y.state.requester.provider) (sym k.out)
      (subst (λ (e : ℕ). At me is_read strict (after x.out) e y.state.phase y.state.leader.quorum y.state.peon.leader y.state.requester.provider) (sym k.epoch)
      (subst (λ (z : State). At me is_read strict (after x.out) (epoch_of x.readings) z.phase z.leader.quorum z.peon.leader z.requester.provider) (sym k.state) K))

  -- a leader that collects is seen as one that finishes an earlier value
  pub collecting : (x : Course) → Keeps x → x.state.phase ≡ phase.Collecting → At me is_read strict (after x.out) (epoch_of x.readings) phase.Previous x.state.leader.quorum x.state.peon.leader x.state.requester.provider
  collecting x k p = subst (λ (z : Phase). At me is_read strict (after x.out) (epoch_of x.readings) z x.state.leader.quorum x.state.peon.leader x.state.requester.provider) p k

  pub alone_in : (x : Course) → Keeps x → x.state.phase ≡ phase.Collecting → is_alone me x.state.leader.quorum ≡ true → IsIdle strict (after x.out)
  alone_in x k p = idle_alone me is_read strict (after x.out) (epoch_of x.readings) x.state.phase x.state.leader.quorum x.state.peon.leader x.state.requester.provider k (inl p)

  idle_still : (out sends : List Sent) → AllByRecursion IsSilent sends → IsIdle strict (after out) → IsIdle strict (after (out ++ sends))
  idle_still out sends k i = subst (IsIdle strict) (sym (still me is_read out sends k seen)) i

  -- ---- leading

  -- if its quorum is itself alone, the monitor was seen as a candidate at most
  abbrev pub Company : List Sent → List Bool → Type 0
  Company out q = is_alone me q ≡ true → IsIdle strict (after out)

  -- each member of the quorum was sent a message that shows a leader's phase
  lead_shown : (p : Phase) (b : Body) (e : ℕ) (q : List Bool) (out : List Sent) → Company out q
      → ((t : is_alone me q ≡ false) → Shown p e (Some me.member.rank) (after (out ++ map (message_to me e b) (members me q))))
      → IsIdle strict (after (out ++ map (message_to me e b) (members me q))) ⊎ (Shown p e (Some me.member.rank) (after (out ++ map (message_to me e b) (members me q))) × (is_alone me q ≡ false))
  lead_shown p b e q out C k = by (is_alone me q) refl
    where
      by : (c : Bool) → is_alone me q ≡ c → IsIdle strict (after (out ++ map (message_to me e b) (members me q))) ⊎ (Shown p e (Some me.member.rank) (after (out ++ map (message_to me e b) (members me q))) × (is_alone me q ≡ false))
      by true t = inl (subst (IsIdle strict) (sym (nobody me is_read out (message_to me e b) (members me q) t seen)) (C t))
      by false t = inr (k t, t)

  pub active : (x : Course) → Company x.out x.state.leader.quorum → Keeps (be_active me now x)
  unfolding be_active extend
  active x C =
      let e = epoch_of x.readings in let q = x.state.leader.quorum in
      lead_shown phase.Active (body.Lease x.readings.last) e q x.out C (λ t. told me is_read R (body.Lease x.readings.last) e phase.Active (Some me.member.rank) (λ to. refl) refl refl x.out (members me q) t seen)

  -- an active leader renews its lease
  pub extends : (x : Course) → x.state.phase ≡ phase.Active → Company x.out x.state.leader.quorum → Keeps (extend me now x)
  unfolding extend
  extends x p C =
      let e = epoch_of x.readings in let q = x.state.leader.quorum in let b = body.Lease x.readings.last in
      subst (λ (z : Phase). At me is_read strict (after (x.out ++ map (message_to me e b) (members me q))) e z q x.state.peon.leader x.state.requester.provider) (sym p)
      (lead_shown phase.Active b e q x.out C (λ t. told me is_read R b e phase.Active (Some me.member.rank) (λ to. refl) refl refl x.out (members me q) t seen))

  alone : (v : ℕ) (value : List Op) (o : Option Origin) (x : Course) → IsIdle strict (after x.out) → Then Keeps (begin_alone me v value o x)
  unfolding begin_alone
  alone v value o x i = and_then (Same x) Keeps (learn v (value ∷ []) x) _ (learns v (value ∷ []) x)
      (λ y S. done (inl (idle_still y.out (answers_to me (epoch_of y.readings) o (reply.Done v)) (silent_answers (epoch_of y.readings) o (reply.Done v)) (subst (λ (out : List Sent). IsIdle strict (after out)) (sym S.out) i))))

  -- a value is begun by a leader that was seen as one that begins values in this stage
  pub begins : (z : LeaderStage) (value : List Op) (o : Option Origin) (x : Course) → Company x.out x.state.leader.quorum
      → At me is_read strict (after x.out) (epoch_of x.readings) (phase_of z) x.state.leader.quorum x.state.peon.leader x.state.requester.provider → Then Keeps (begin me now z value o x)
  unfolding begin begin_with
  begins z value o x C K = where_fits Keeps which.Version (suc x.readings.last) _ (λ _. by_test (is_alone me x.state.leader.quorum) (λ t. alone (suc x.readings.last) value o x (C t))
      (λ _. done (let sends = map (message_to me (epoch_of x.readings) (body.Begin x.state.leader.pn (suc x.readings.last) value)) (members me x.state.leader.quorum) in
      subst (λ (s : Seen). At me is_read strict s (epoch_of x.readings) (phase_of z) x.state.leader.quorum x.state.peon.leader x.state.requester.provider)
      (sym (still me is_read x.out sends (silent_each (epoch_of x.readings) (body.Begin x.state.leader.pn (suc x.readings.last) value) refl (members me x.state.leader.quorum)) seen)) K)))

  begins_found : (found : Option Found) (x : Course) → Company x.out x.state.leader.quorum
      → At me is_read strict (after x.out) (epoch_of x.readings) phase.Previous x.state.leader.quorum x.state.peon.leader x.state.requester.provider → Then Keeps (begin_found me now found x)
  begins_found None x C K = done (active x C)
  begins_found (Some f) x C K = by_test (eqb f.version (suc x.readings.last)) (λ _. begins stage.Previous f.value None x C K) (λ _. done (active x C))

  commits_silent : (r : Readings) (lasts : List ℕ) (ks : List ℕ) → AllByRecursion IsSilent (flat_map (commits_to me r lasts) ks)
  commits_silent r lasts ks = all_flat_map IsSilent (commits_to me r lasts) (λ to. let told = slice_index_or lasts to 0 in let values = missed me.member.monitors r.record_of r.last told in
      cond_both (ltb told r.last) (commits_with me (epoch_of r) told values to) [] (AllByRecursion IsSilent) (λ _. by told values to) (λ _. tt)) ks
    where
      by : (told : ℕ) (values : List (List Op)) (to : ℕ) → AllByRecursion IsSilent (commits_with me (epoch_of r) told values to)
      by told [] to = tt
      by told (value ∷ values) to = (refl, tt)

  -- all of the quorum answered
  pub settles : (x : Course) → Company x.out x.state.leader.quorum
      → At me is_read strict (after x.out) (epoch_of x.readings) phase.Previous x.state.leader.quorum x.state.peon.leader x.state.requester.provider → Then Keeps (settle me now x)
  unfolding settle
  settles x C K =
      let sends = flat_map (commits_to me x.readings x.state.leader.lasts) (members me x.state.leader.quorum) in
      let S = commits_silent x.readings x.state.leader.lasts (members me x.state.leader.quorum) in
      begins_found x.state.leader.found _ (λ t. idle_still x.out sends S (C t))
      (subst (λ (s : Seen). At me is_read strict s (epoch_of x.readings) phase.Previous x.state.leader.quorum x.state.peon.leader x.state.requester.provider) (sym (still me is_read x.out sends S seen)) K)

  pub collects : (q : List Bool) (above : ℕ) (x : Course) → Company x.out q → Then Keeps (collect me now q above x)
  unfolding collect collect_with
  collects q above x C =
      let e = epoch_of x.readings in
      let pn = next_number (or_zero x.readings.last_pn) (max (promise_of x.readings) above) me.member.rank in
      let asked = body.Collect pn x.readings.first x.readings.last in
      let sends = map (message_to me e asked) (members me q) in
      let K = lead_shown phase.Collecting asked e q x.out C (λ t. told me is_read R asked e phase.Collecting (Some me.member.rank) (λ to. refl) refl refl x.out (members me q) t seen) in
      let D : Company (x.out ++ sends) q = λ t. subst (IsIdle strict) (sym (nobody me is_read x.out (message_to me e asked) (members me q) t seen)) (C t) in
      where_fits Keeps which.Pn pn _ (λ _. by_test (is_alone me q) {x = settle me now (collect_with me now q pn x)} {y = Ok (collect_with me now q pn x)} (λ _. settles (collect_with me now q pn x) D K) (λ _. done K))

  reigns : (q : List Bool) (x : Course) → Company x.out q → Then Keeps (reign me now q x)
  unfolding reign
  reigns q x C = collects q 0 _ (λ t. subst (IsIdle strict) (sym (nobody me is_read x.out (message_to me (epoch_of x.readings) (body.Victory q)) (members me q) t seen)) (C t))

  -- ---- beginning again, and elections

  pub bootstraps : (x : Course) → Then Keeps (bootstrap me now x)
  unfolding bootstrap
  bootstraps x =
      by_test (ltb 1 me.member.monitors) (λ _. done (inr (told me is_read R body.Probe (epoch_of x.readings) phase.Probing None (λ to. refl) refl refl x.out (others me) (has_others me several) seen)))
      (λ few. absurd (false≢true (sym few ∙ several)))

  pub elects : (x : Course) → Then Keeps (elect me now x)
  unfolding elect in_odd_epoch
  elects x = and_then (λ (y : Course). Unit {0}) Keeps (in_odd_epoch x) _ (anyway (in_odd_epoch x))
      (λ y _. done (inr (told me is_read R (body.Propose (own_table me y)) (epoch_of y.readings) phase.Electing None (λ to. refl) refl refl y.out (others me) (has_others me several) seen)))

  -- a monitor wins that was seen as a candidate at most
  pub wins : (q : List Bool) (x : Course) → IsIdle strict (after x.out) → Then Keeps (win me now q x)
  unfolding win
  wins q x i = and_then (λ (y : Course). y.out ≡ x.out) Keeps (in_next_epoch x) _ (where_fits (λ (y : Course). y.out ≡ x.out) which.Epoch (suc (epoch_of x.readings)) _ (λ _. done refl))
      (λ y same. reigns q y (λ _. subst (λ (out : List Sent). IsIdle strict (after out)) (sym same) i))

  -- a monitor that defers to f is seen in an election
  deferred : (f : ℕ) (x : Course) → Shown phase.Electing (epoch_of x.readings) None (after (x.out ++ message_to me (epoch_of x.readings) body.Ack f ∷ []))
  deferred f x = told me is_read R body.Ack (epoch_of x.readings) phase.Electing None (λ to. refl) refl refl x.out (f ∷ []) refl seen

  pub weighs : (table : Scores) (f : ℕ) (x : Course) → x.state.phase ≡ phase.Electing → Keeps x → Then Keeps (weigh me now table f x)
  weighs table f x e K =
      by_test (is_allowed me f && stands_before me table f me.member.rank) (λ _. by_test (may_defer me table f x.state.elector.deferred)
      (λ _. done (subst (λ (p : Phase). At me is_read strict (after (x.out ++ message_to me (epoch_of x.readings) body.Ack f ∷ [])) (epoch_of x.readings) p x.state.leader.quorum x.state.peon.leader x.state.requester.provider) (sym e) (inr (deferred f x)))) (λ _. done K))
      (λ _. by_test (not (is_some x.state.elector.deferred) && not x.state.elector.candidate) (λ _. elects x) (λ _. done K))

  -- one that joined an election without standing in it defers, or stands
  pub weighs_joined : (table : Scores) (t : Option Scores) (f e : ℕ) (x : Course) → Then Keeps (weigh me now table f (merge t (adopt now e x)))
  unfolding adopt
  weighs_joined table t f e x =
      by_test (is_allowed me f && stands_before me table f me.member.rank) (λ _. done (inr (deferred f (merge t (adopt now e x))))) (λ _. elects (merge t (adopt now e x)))

  -- ---- a value is committed

  pub commits : (value : List Op) (x : Course) → Company x.out x.state.leader.quorum → Then Keeps (commit me now value x)
  unfolding commit
  commits value x C = and_then (Same x) Keeps (learn (suc x.readings.last) (value ∷ []) x) _ (learns (suc x.readings.last) (value ∷ []) x) (λ y S. done (
      let b = body.Commit (suc x.readings.last) (value ∷ []) in
      let sends = map (message_to me (epoch_of y.readings) b) (members me y.state.leader.quorum) in
      let D : Company y.out y.state.leader.quorum = subst (λ (q : List Bool). Company y.out q) (ap (λ z. z.leader.quorum) (sym S.state)) (subst (λ (out : List Sent). Company out x.state.leader.quorum) (sym S.out) C) in
      let z : Course = y ▸ disarm timer.Accept ▸ leader_is (record y.state.leader { value = None; origin = None }) ▸ send_each me (members me y.state.leader.quorum) b in
      let a = be_active me now z in
      quiet a (answers_to me (epoch_of a.readings) y.state.leader.origin (reply.Done (suc x.readings.last))) (silent_answers (epoch_of a.readings) y.state.leader.origin (reply.Done (suc x.readings.last)))
      (active z (λ t. idle_still y.out sends (silent_each (epoch_of y.readings) b refl (members me y.state.leader.quorum)) (D t)))))
