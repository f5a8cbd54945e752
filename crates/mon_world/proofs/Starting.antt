-- A start always writes something: it counts itself.
use Rattle.std.proofs.Common.{◌≡◌, ℕ, suc, ◌+◌, max, Bool, true, false, List, [], ◌∷◌, ◌++◌, Option, Some, None, Result, Ok, Err, refl, sym, ap, ◌∙◌}
use Rattle.std.specs.Prelude.{not, ◌&&◌, ◌==◌, nat_lt, is_some, if◌then◌else◌}
use Rattle.std.specs.List.{list_any}
use Rattle.election_rules.specs.Ranking.{allows}
use Rattle.mon_bytes.specs.declared.entry.Entry.{Entry}
use Rattle.mon_msg.specs.Joined.{joined, joined_onto, joined_with, or_here, or_last, puts, replaced, takes_away}
use Rattle.mon_msg.specs.Protocol.Changes.{Change, Boot, Epoch, Last, Numbers, Vote, encoded}
use Rattle.mon_msg.specs.Protocol.Collecting.{begin_found, collect, collect_with, reign, settle}
use Rattle.mon_msg.specs.Protocol.Course.{Course, ◌▸◌, change, change_all, forget_clients, in_phase, prober_is}
use Rattle.mon_msg.specs.Protocol.Entering.{bootstrap, next_even, win_alone}
use Rattle.mon_msg.specs.Protocol.Leading.{be_active, begin, begin_alone, begin_with, extend, is_alone}
use Rattle.mon_msg.specs.Protocol.Learning.{learn, learn_changes}
use Rattle.mon_msg.specs.Protocol.Reaction.{any_reaction, reaction}
use Rattle.mon_msg.specs.Protocol.Readings.{Readings, epoch_of, or_zero, promise_of, readings_of, shared_entries}
use Rattle.mon_msg.specs.Protocol.Sets.{is_empty, only}
use Rattle.mon_msg.specs.Protocol.State.{State}
use Rattle.mon_msg.specs.Protocol.Table.{at_rest, react, start}
use Rattle.mon_msg.specs.declared.input.Input.{Input}
use Rattle.mon_msg.specs.declared.input.Input.TheVariants as input
use Rattle.mon_msg.specs.declared.paxos.Found.{Found}
use Rattle.mon_msg.specs.declared.paxos.LeaderStage.{LeaderStage}
use Rattle.mon_msg.specs.declared.paxos.LeaderStage.TheVariants as stage
use Rattle.mon_msg.specs.declared.plan.Origin.{Origin}
use Rattle.mon_msg.specs.declared.view.Me.{Me}
use Rattle.mon_msg.specs.Puts.{put_number}
use Rattle.mon_tx.specs.Map.{Place, Store}
use Rattle.mon_tx.specs.declared.key.Area.TheVariants as area
use Rattle.mon_tx.specs.declared.key.Key.TheVariants as key
use Rattle.mon_tx.specs.declared.op.Op.{Op}
use Rattle.mon_tx.specs.declared.op.Op.TheVariants.{Put, Erase, ErasePrefix, EraseRange}
use Rattle.mon_types.specs.Proposal.{next_number}
use Rattle.mon_types.specs.declared.names.Which.{Which}
use Rattle.mon_types.specs.declared.names.Which.TheVariants as which
use Rattle.mon_wire.specs.declared.phase.Phase.TheVariants as phase
use Rattle.quorum_model.specs.InjectedFaults.{writes_nothing}
use Rattle.quorum_walk.proofs.Walk.{Then, and_then, by_test, done, where_fits}

-- ---- a joined transaction of some changes isn't empty

or_last_some : (new : Op) (done : List Op) (found : Option (List Op)) → (is_empty done ≡ false) → ((ops : List Op) → found ≡ Some ops → is_empty ops ≡ false) → is_empty (or_last new done found) ≡ false
or_last_some new done (Some ops) d h = h ops refl
or_last_some new [] None d h = refl
or_last_some new (op ∷ ops) None d h = refl

some_is : (ops other : List Op) → ◌≡◌ {A = Option (List Op)} (Some ops) (Some other) → ops ≡ other
some_is ops other e = cc

replaced_some : (at : Place) (new : Op) (done ops : List Op) → replaced at new done ≡ Some ops → is_empty ops ≡ false
replaced_some at new [] ops e = absurd cc
replaced_some at new (op ∷ rest) ops e = by (puts at op && not (list_any (takes_away at) rest)) (replaced at new rest) e
  where
    by : (here : Bool) (found : Option (List Op)) → or_here new op rest here found ≡ Some ops → is_empty ops ≡ false
    by here (Some found) e = ap is_empty (sym (some_is (op ∷ found) ops e))
    by true None e = ap is_empty (sym (some_is (new ∷ rest) ops e))
    by false None e = absurd cc

joined_with_some : (done : List Op) (op : Op) → is_empty done ≡ false → is_empty (joined_with done op) ≡ false
joined_with_some done (Put prefix key value) d = or_last_some (Put prefix key value) done (replaced (prefix, key) (Put prefix key value) done) d (replaced_some (prefix, key) (Put prefix key value) done)
joined_with_some (o ∷ os) (Erase prefix key) d = refl
joined_with_some (o ∷ os) (ErasePrefix prefix) d = refl
joined_with_some (o ∷ os) (EraseRange prefix from to) d = refl
joined_with_some [] (Erase prefix key) d = absurd cc
joined_with_some [] (ErasePrefix prefix) d = absurd cc
joined_with_some [] (EraseRange prefix from to) d = absurd cc

joined_onto_some : (done ops : List Op) → is_empty done ≡ false → is_empty (joined_onto done ops) ≡ false
joined_onto_some done [] d = d
joined_onto_some done (op ∷ ops) d = joined_onto_some (joined_with done op) ops (joined_with_some done op d)

-- ---- a course that began with the count

record Counts (x : Course) : Type 0 where
  boot : ℕ
  more : List Change
  is : x.changes ≡ Boot boot ∷ more

counts_on : (x y : Course) (cs : List Change) → y.changes ≡ x.changes ++ cs → Counts x → Counts y
counts_on x y cs e s = record { boot = s.boot; more = s.more ++ cs; is = e ∙ ap (λ (l : List Change). l ++ cs) s.is }

counts_so : (x y : Course) → y.changes ≡ x.changes → Counts x → Counts y
counts_so x y e s = record { boot = s.boot; more = s.more; is = e ∙ s.is }

module _ (me : Me) (now : ℕ) where
  active : (x : Course) → Counts x → Counts (be_active me now x)
  unfolding be_active extend
  active x s = counts_so x _ refl s

  learns : (v : ℕ) (value : List Op) (x : Course) → Counts x → Then Counts (learn v (value ∷ []) x)
  unfolding learn
  learns v value x s =
      let y = x ▸ change_all (learn_changes v (value ∷ [])) in
      where_fits Counts which.Version (v + 0) _ (λ _. done (counts_on y _ (Last (v + 0) ∷ []) refl (counts_on x y (learn_changes v (value ∷ [])) refl s)))

  alone_begins : (v : ℕ) (value : List Op) (o : Option Origin) (x : Course) → Counts x → Then Counts (begin_alone me v value o x)
  unfolding begin_alone
  alone_begins v value o x s = and_then Counts Counts (learn v (value ∷ []) x) _ (learns v value x s) (λ y h. done (counts_so y _ refl h))

  begins_with : (l : LeaderStage) (v : ℕ) (value : List Op) (o : Option Origin) (x : Course) → Counts x → Counts (begin_with me now l v value o x)
  unfolding begin_with
  begins_with l v value o x s = counts_on x _ (Vote v x.state.leader.pn value ∷ []) refl s

  begins : (l : LeaderStage) (value : List Op) (o : Option Origin) (x : Course) → Counts x → Then Counts (begin me now l value o x)
  unfolding begin
  begins l value o x s =
      let v = suc x.readings.last in
      where_fits Counts which.Version v _ (λ _. by_test (is_alone me x.state.leader.quorum) (λ _. alone_begins v value o x s) (λ _. done (begins_with l v value o x s)))

  begins_found : (found : Option Found) (x : Course) → Counts x → Then Counts (begin_found me now found x)
  begins_found None x s = done (active x s)
  begins_found (Some found) x s = by_test (found.version == suc x.readings.last) (λ _. begins stage.Previous found.value None x s) (λ _. done (active x s))

  settles : (x : Course) → Counts x → Then Counts (settle me now x)
  unfolding settle
  settles x s = begins_found x.state.leader.found _ (counts_so x _ refl s)

  collects_with : (q : List Bool) (pn : ℕ) (x : Course) → Counts x → Counts (collect_with me now q pn x)
  unfolding collect_with
  collects_with q pn x s = counts_on x _ (Numbers pn ∷ []) refl s

  collects : (q : List Bool) (above : ℕ) (x : Course) → Counts x → Then Counts (collect me now q above x)
  unfolding collect
  collects q above x s =
      let pn = next_number (or_zero x.readings.last_pn) (max (promise_of x.readings) above) me.member.rank in
      let y = collects_with q pn x s in
      where_fits Counts which.Pn pn _ (λ _. by_test (is_alone me q) (λ _. settles (collect_with me now q pn x) y) (λ _. done y))

  reigns : (q : List Bool) (x : Course) → Counts x → Then Counts (reign me now q x)
  unfolding reign
  reigns q x s = collects q 0 _ (counts_so x _ refl s)

  wins_alone : (x : Course) → Counts x → Then Counts (win_alone me now x)
  wins_alone x s =
      let e = next_even (epoch_of x.readings) in
      where_fits Counts which.Epoch e _ (λ _. reigns (only me.member.rank) (change (Epoch e) x) (counts_on x _ (Epoch e ∷ []) refl s))

  bootstraps : (x : Course) → Counts x → Then Counts (bootstrap me now x)
  unfolding bootstrap
  bootstraps x s =
      let y = x ▸ in_phase phase.Probing ▸ forget_clients ▸ prober_is (record { outside = only me.member.rank }) in
      let counts : Counts y = counts_so x y refl s in
      by_test (nat_lt 1 me.member.monitors) (λ _. done (counts_so x _ refl s))
      (λ _. by_test (allows me.rule me.member.rank && not x.readings.marked) (λ _. wins_alone y counts) (λ _. done counts))

  starts : (w : Readings) (t : State) → Then Counts (start me now (at_rest w t))
  unfolding start
  starts w t =
      where_fits Counts which.Boot (suc w.boot) _ (λ _. bootstraps _ (record { boot = suc w.boot; more = if not (is_some w.epoch) then Epoch 1 ∷ [] else []; is = refl }))

  begins_so : (shared : List Entry) (w : Readings) (s : State) → s.phase ≡ phase.Booting → react me shared now w s input.Start ≡ start me now (at_rest w s)
  unfolding react
  begins_so shared w s booting = rw booting refl

  writes : (x : Course) → Counts x → is_empty (joined (encoded x.changes)) ≡ false
  unfolding joined
  writes x s =
      ap (λ (cs : List Change). is_empty (joined (encoded cs))) s.is
      ∙ joined_onto_some (put_number area.Monitor key.BootCount s.boot ∷ []) (encoded s.more) refl

  wrote : (x : Result Course Which) → Then Counts x → writes_nothing (any_reaction x) ≡ false
  wrote (Ok x) h = writes x h.holds
  wrote (Err kind) h = refl

  -- a start's transaction isn't empty
  pub start_writes : (m : Store) (s : State) (came : Input) → s.phase ≡ phase.Booting → came ≡ input.Start → writes_nothing (reaction me now m s came) ≡ false
  start_writes m s came booting starting =
      ap (λ (came : Input). writes_nothing (reaction me now m s came)) starting
      ∙ (ap (λ (x : Result Course Which). writes_nothing (any_reaction x)) (begins_so (shared_entries m) (readings_of m) s booting)
      ∙ wrote (start me now (at_rest (readings_of m) s)) (starts (readings_of m) s))
