-- A leader's acts, elections and new beginnings, as `Saying` has them.
use Rattle.law_names.proofs.Table.{AllByRecursion, Body, Cell, Change, Command, Course, Found, Input, Me, Numbers, Op, Origin, Phase, Readings, Reply, Sent, State, allows, be_active, begin, begin_alone, begin_found, begin_with, bootstrap, collect, collect_with, commits_to, commits_with, elect, epoch_of, extend, fits, flat_map, in_next_epoch, in_odd_epoch, is_alone, is_even, learn, longest, members, message_to, missed, next_even, next_number, only, or_zero, others, own_table, promise_of, reign, run_from, settle, value, win}
use Rattle.log_model.proofs.Records.{run_from_length}
use Rattle.mon_msg.proofs.Runs.{longest_is}
use Rattle.mon_types.specs.declared.names.Which.TheVariants as which
use Rattle.mon_wire.specs.declared.body.Body.TheVariants as body
use Rattle.mon_wire.specs.declared.phase.Phase.TheVariants as phase
use Rattle.mon_wire.specs.declared.reply.Reply.TheVariants as reply
use Rattle.quorum_agreement.proofs.Accepting.{then_map}
use Rattle.quorum_answers.proofs.Saying as saying
use Rattle.quorum_answers.proofs.Saying.{Learned, NoRefusal, has_answers, learns}
use Rattle.quorum_walk.proofs.Lists.{all_append, all_flat_map, all_map, all_of}
use Rattle.quorum_walk.proofs.Walk.{Then, and_then, by_test, done, where_fits}
use Rattle.std.proofs.Common.{Bool, List, None, Ok, Option, Some, [], ap, arith, eqb, inl, inr, length, length-append, ltb, map, max, not, refl, slice_index_or, subst, suc, sym, true, ℕ, ◌&&◌, ◌++◌, ◌-◌, ◌<◌, ◌∙◌, ◌∷◌, ◌≡◌, ◌≤◌}
use Rattle.std.proofs.lemmas.Bool.{cond_both, ltb-false, ltb-true}

module _ (me : Me) (now : ℕ) (w : Readings) (s : State) (came : Input) (From : ℕ → Command → Origin → Type 0) (Routed : (f e seq : ℕ) → Reply → Type 0) (Voted : (f pn v : ℕ) → Type 0) where
  abbrev Outcome : Course → Type 0
  Outcome = saying.Outcome me now w s came From Routed Voted

  abbrev Good : Course → Type 0
  Good = saying.Good me now w s came From Routed Voted

  abbrev Goes : List Change → (e v : ℕ) → Type 0
  Goes = saying.Goes me now w s came From Routed Voted

  abbrev LeadAt : Course → Type 0
  LeadAt = saying.LeadAt me now w s came From Routed Voted

  abbrev GathersAt : Course → Type 0
  GathersAt = saying.GathersAt me now w s came From Routed Voted

  abbrev AllPlain : List Sent → Type 0
  AllPlain = saying.AllPlain me now w s came From Routed Voted

  abbrev Short : (e v : ℕ) → Sent → Type 0
  Short = saying.Short me now w s came From Routed Voted

  abbrev SaysSent : Phase → (e v : ℕ) → Sent → Type 0
  SaysSent = saying.SaysSent me now w s came From Routed Voted

  abbrev Founded : Sent → Type 0
  Founded = saying.Founded me now w s came From Routed Voted

  abbrev AllShort : Course → Type 0
  AllShort x = AllByRecursion (Short (epoch_of x.readings) x.readings.last) x.out

  quiet : (y : Course) → AllPlain y.out → LeadAt y → Then Outcome (Ok y)
  quiet = saying.quiet me now w s came From Routed Voted

  more : (out sends : List Sent) → AllPlain out → AllPlain sends → AllPlain (out ++ sends)
  more = saying.more me now w s came From Routed Voted

  to_each : (e : ℕ) (b : Body) → ((to : ℕ) → saying.IsPlainBody me now w s came From Routed Voted to e b) → (tos : List ℕ) → AllPlain (map (message_to me e b) tos)
  to_each = saying.to_each me now w s came From Routed Voted

  says : (p : Phase) (e v : ℕ) → has_answers p ≡ true → (out : List Sent) → AllByRecursion (Short e v) out → AllByRecursion (SaysSent p e v) out
  says p e v t out k = all_map _ _ (saying.short_says me now w s came From Routed Voted p e v t) out k

  -- ---- leading

  -- what was short and a message to each of these
  calmly : (x : Course) → AllShort x → (b : Body) (tos : List ℕ) → AllByRecursion NoRefusal (x.out ++ map (message_to me (epoch_of x.readings) b) tos)
  calmly x O b tos = all_append NoRefusal x.out _ (saying.all_calm me now w s came From Routed Voted (epoch_of x.readings) x.readings.last x.out O) (all_of NoRefusal (message_to me (epoch_of x.readings) b) (λ to. tt) tos)

  pub active : (x : Course) → AllShort x → Goes x.changes (epoch_of x.readings) x.readings.last → Good (be_active me now x)
  unfolding be_active extend
  active x O G = record {
    out = all_append _ x.out _ (says phase.Active (epoch_of x.readings) x.readings.last refl x.out O)
        (all_of (SaysSent phase.Active (epoch_of x.readings) x.readings.last) (message_to me (epoch_of x.readings) (body.Lease x.readings.last)) (λ to. (refl, refl, refl)) (members me x.state.leader.quorum));
    calm = inl (calmly x O (body.Lease x.readings.last) (members me x.state.leader.quorum));
    lead = G;
  }

  -- a quorum of the leader alone commits at once
  pub alone : (v : ℕ) (value : List Op) (o : Option Origin) (x : Course) → is_alone me x.state.leader.quorum ≡ true → AllByRecursion Founded x.out → AllByRecursion NoRefusal x.out → Then Outcome (begin_alone me v value o x)
  unfolding begin_alone
  alone v value o x t O N = and_then (Learned v (value ∷ []) x) Outcome (learn v (value ∷ []) x) _ (learns v (value ∷ []) x) (λ y K. let plain = saying.answers_plain me now w s came From Routed Voted (epoch_of y.readings) o (reply.Done v) (λ u. u) in done (inr (record {
    out = all_append Founded y.out _ (subst (AllByRecursion Founded) (sym K.out) O) (saying.all_founded me now w s came From Routed Voted (epoch_of y.readings) v _ (saying.all_short me now w s came From Routed Voted (epoch_of y.readings) v _ plain));
    calm = inl (all_append NoRefusal y.out _ (subst (AllByRecursion NoRefusal) (sym K.out) N) (saying.all_plain_calm me now w s came From Routed Voted _ plain));
    leads = refl;
    alone = ap (λ (z : State). is_alone me z.leader.quorum) K.state ∙ t;
  })))

  begins_found : (found : Option Found) (x : Course) → GathersAt x → AllShort x → Then Outcome (begin_found me now found x)
  unfolding begin begin_with
  begins_found None x G O = done (inl (active x O (inr (inl G))))
  begins_found (Some f) x G O = by_test (eqb f.version (suc x.readings.last)) (λ _. where_fits Outcome which.Version (suc x.readings.last) _ (λ _.
      by_test (is_alone me x.state.leader.quorum) (λ t. alone (suc x.readings.last) f.value None x t (saying.all_founded me now w s came From Routed Voted (epoch_of x.readings) x.readings.last x.out O) (saying.all_calm me now w s came From Routed Voted (epoch_of x.readings) x.readings.last x.out O))
      (λ _. done (inl (record {
        out = all_append _ x.out _ (says phase.Previous (epoch_of x.readings) x.readings.last refl x.out O)
            (all_of (SaysSent phase.Previous (epoch_of x.readings) x.readings.last) (message_to me (epoch_of x.readings) (body.Begin x.state.leader.pn (suc x.readings.last) f.value)) (λ to. tt) (members me x.state.leader.quorum));
        calm = inl (calmly x O (body.Begin x.state.leader.pn (suc x.readings.last) f.value) (members me x.state.leader.quorum));
        lead = saying.gathers_more me now w s came From Routed Voted x.changes _ (epoch_of x.readings) G;
      }))))) (λ _. done (inl (active x O (inr (inl G)))))

  missed_short : (n : ℕ) (records : ℕ → Cell) (last told : ℕ) → length (missed n records last told) ≤ last - told
  unfolding missed
  missed_short n records last told =
      let L = longest_is (λ values. fits n (body.Commit (suc told) values)) (run_from records last (suc told)) in
      let l = run_from_length records last told in
      omega (arith, ap length L.begins, length-append (longest (λ values. fits n (body.Commit (suc told) values)) (run_from records last (suc told))) L.rest)

  commits_short : (r : Readings) (lasts : List ℕ) (ks : List ℕ) → AllByRecursion (Short (epoch_of r) r.last) (flat_map (commits_to me r lasts) ks)
  commits_short r lasts ks = all_flat_map (Short (epoch_of r) r.last) (commits_to me r lasts) (λ to. let told = slice_index_or lasts to 0 in let values = missed me.member.monitors r.record_of r.last told in
      cond_both (ltb told r.last) (commits_with me (epoch_of r) told values to) [] (AllByRecursion (Short (epoch_of r) r.last)) (λ t. by told values to (ltb-true told r.last t) (missed_short me.member.monitors r.record_of r.last told)) (λ _. tt)) ks
    where
      by : (told : ℕ) (values : List (List Op)) (to : ℕ) → told < r.last → length values ≤ r.last - told → AllByRecursion (Short (epoch_of r) r.last) (commits_with me (epoch_of r) told values to)
      by told [] to lt k = tt
      by told (value ∷ values) to lt k = ((omega arith, refl), tt)

  pub settles : (x : Course) → GathersAt x → AllPlain x.out → Then Outcome (settle me now x)
  unfolding settle
  settles x G O =
      begins_found x.state.leader.found _ G (all_append (Short (epoch_of x.readings) x.readings.last) x.out _ (saying.all_short me now w s came From Routed Voted (epoch_of x.readings) x.readings.last x.out O) (commits_short x.readings x.state.leader.lasts (members me x.state.leader.quorum)))

  pub collects : (q : List Bool) (above : ℕ) (x : Course) → GathersAt x → AllPlain x.out → Then Outcome (collect me now q above x)
  unfolding collect collect_with
  collects q above x G O =
      let pn = next_number (or_zero x.readings.last_pn) (max (promise_of x.readings) above) me.member.rank in
      let sent = more x.out (map (message_to me (epoch_of x.readings) (body.Collect pn x.readings.first x.readings.last)) (members me q)) O (to_each (epoch_of x.readings) (body.Collect pn x.readings.first x.readings.last) (λ to. tt) (members me q)) in
      let next = saying.gathers_more me now w s came From Routed Voted x.changes (Numbers pn ∷ []) (epoch_of x.readings) G in
      where_fits Outcome which.Pn pn _ (λ _. by_test (is_alone me q) {x = settle me now (collect_with me now q pn x)} {y = Ok (collect_with me now q pn x)} (λ _. settles (collect_with me now q pn x) next sent) (λ _. quiet (collect_with me now q pn x) sent next))

  reigns : (q : List Bool) (x : Course) → GathersAt x → AllPlain x.out → Then Outcome (reign me now q x)
  unfolding reign
  reigns q x G O = collects q 0 _ G (more x.out _ O (to_each (epoch_of x.readings) (body.Victory q) (λ to. tt) (members me q)))

  -- ---- beginning again, and elections

  pub bootstraps : (x : Course) → AllPlain x.out → Then Outcome (bootstrap me now x)
  unfolding bootstrap
  bootstraps x O =
      by_test (ltb 1 me.member.monitors) (λ _. quiet _ (more x.out _ O (to_each (epoch_of x.readings) body.Probe (λ to. tt) (others me))) tt)
      (λ few. by_test (allows me.rule me.member.rank && not x.readings.marked) (λ _. where_fits Outcome which.Epoch (next_even (epoch_of x.readings)) _ (λ _. reigns (only me.member.rank) _ (inr (inr (ltb-false 1 me.member.monitors few))) O)) (λ _. quiet _ O tt))

  record Next (x y : Course) : Type 0 where
    out : AllPlain y.out
    epoch : epoch_of y.readings ≡ suc (epoch_of x.readings)

  next_epoch : (x : Course) → AllPlain x.out → Then (Next x) (in_next_epoch x)
  next_epoch x O = where_fits (Next x) which.Epoch (suc (epoch_of x.readings)) _ (λ _. done (record { out = O; epoch = refl }))

  pub elects : (x : Course) → AllPlain x.out → Then Outcome (elect me now x)
  unfolding elect in_odd_epoch
  elects x O = and_then (λ y. AllPlain y.out) Outcome (in_odd_epoch x) _ (by_test (is_even (epoch_of x.readings)) (λ _. then_map (Next x) (λ y. AllPlain y.out) _ (λ y k. k.out) (next_epoch x O)) (λ _. done O))
      (λ y P. quiet _ (more y.out _ P (to_each (epoch_of y.readings) (body.Propose (own_table me y)) (λ to. tt) (others me))) tt)

  pub wins : (q : List Bool) (x : Course) → epoch_of x.readings ≡ epoch_of w → AllPlain x.out → Then Outcome (win me now q x)
  unfolding win
  wins q x e O = and_then (Next x) Outcome (in_next_epoch x) _ (next_epoch x O) (λ y P. reigns q y (inr (inl (let n = P.epoch in omega arith))) P.out)
