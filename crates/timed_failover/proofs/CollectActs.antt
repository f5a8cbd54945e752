-- What a leader does once all members of its quorum answered: it sends the last version to those that lack it, and then
-- serves, or proposes the value that it found.
use Rattle.law_names.proofs.Runs.{Monitors, envelope_of, messages_of}
use Rattle.law_names.proofs.Table.{Body, Change, Course, Entry, Found, Me, Op, Readings, Sent, State, Timer, Vote, are_within, armed, be_active, begin, begin_found, begin_with, commits_to, disarmed, end_of, epoch_of, extend, flat_map, has, is_alone, is_empty, members, message_to, most_value, no_ranks, only, only_ping, range_with_len, record_at, settle, text}
use Rattle.mon_msg.specs.declared.paxos.LeaderStage.TheVariants as stage
use Rattle.mon_wire.specs.declared.body.Body.TheVariants as body
use Rattle.mon_wire.specs.declared.phase.Phase.TheVariants as phase
use Rattle.mon_wire.specs.declared.phase.Timer.TheVariants as timer
use Rattle.quorum_model.proofs.Members.{member_of}
use Rattle.quorum_recovers.proofs.CollectRows.{commits_one}
use Rattle.quorum_stays.proofs.Carrying.{Gives, gives_append}
use Rattle.quorum_stays.proofs.Sending.{each}
use Rattle.quorum_stays.proofs.States.{extends}
use Rattle.quorum_stays.proofs.Timers.{all_extended, ends, no_end, off, one_end, only_ping_is, same_kind_or, still_ends, still_on}
use Rattle.quorum_stays.specs.Steady.{LeadsSince, ProposesSince, Reign}
use Rattle.quorum_timed.proofs.Armed.{Timers}
use Rattle.quorum_walk.proofs.Ranks.{has_only, has_only_is, within_at}
use Rattle.std.proofs.Common.{Bool, List, None, Ok, Option, Some, [], ap, arith, cond, eqb, false, filter, inl, inr, length, ltb, map, not, refl, slice_index_or, subst, suc, sym, true, zero, ℕ, ◌&&◌, ◌++◌, ◌+◌, ◌<◌, ◌^◌, ◌∙◌, ◌∷◌, ◌≡◌, ◌≤◌, ◌⊎◌}
use Rattle.std.proofs.lemmas.Bool.{and_parts, cases_eq, eq-eqb, eqb-true, false≢true, ltb-true, ne_eqb, not-true}
use Rattle.std.proofs.lemmas.List.Elements.{filter_map-append}
use Rattle.std.proofs.lemmas.List.{append-nil, length-set}
use Rattle.table_rows.proofs.Serving.{begins}

-- ---- what is sent to some ranks, one after another

module _ (ms : Monitors) (reign : Reign) (each_to : ℕ → List Sent) (bs : ℕ → List Body) (p : ℕ → Bool)
    (here : (k : ℕ) → p k ≡ true → Gives ms reign reign.leader k (bs k) (messages_of (each_to k)))
    (away : (f k j : ℕ) → p k ≡ true → (k ≡ j → ⊥) → Gives ms reign f j [] (messages_of (each_to k)))
    (elsewhere : (f k j : ℕ) → p k ≡ true → (f ≡ reign.leader → ⊥) → Gives ms reign f j [] (messages_of (each_to k))) where
  -- none goes to another
  flat_none : (f j len from : ℕ) → ((k : ℕ) → from ≤ k → p k ≡ true → (k ≡ j → ⊥) ⊎ (f ≡ reign.leader → ⊥)) → Gives ms reign f j [] (messages_of (flat_map each_to (filter p (range_with_len from len))))
  flat_none f j zero from none = refl
  flat_none f j (suc len) from none = by (p from) refl (flat_none f j len (from + 1) (λ k le. none k (omega arith)))
    where
      by : (b : Bool) → p from ≡ b → Gives ms reign f j [] (messages_of (flat_map each_to (filter p (range_with_len (from + 1) len))))
          → Gives ms reign f j [] (messages_of (flat_map each_to (cond b (from ∷ filter p (range_with_len (from + 1) len)) (filter p (range_with_len (from + 1) len)))))
      by false e rest = rest
      by true e rest = subst (Gives ms reign f j []) (sym (filter_map-append envelope_of (each_to from) (flat_map each_to (filter p (range_with_len (from + 1) len)))))
          (gives_append ms reign f j [] [] (messages_of (each_to from)) _ (elim (none from (omega arith) e) [ inl ne ↦ away f from j e ne | inr ne ↦ elsewhere f from j e ne ]) rest)

  -- each gets its own
  flat_once : (j : ℕ) → p j ≡ true → (len from : ℕ) → from ≤ j → j < from + len → Gives ms reign reign.leader j (bs j) (messages_of (flat_map each_to (filter p (range_with_len from len))))
  flat_once j pj zero from le lt = absurd (omega arith)
  flat_once j pj (suc len) from le lt = by (cases_eq j from) (p from) refl (flat_once j pj len (from + 1))
    where
      by : (j ≡ from) ⊎ (j ≡ from → ⊥) → (b : Bool) → p from ≡ b → (from + 1 ≤ j → j < from + 1 + len → Gives ms reign reign.leader j (bs j) (messages_of (flat_map each_to (filter p (range_with_len (from + 1) len)))))
          → Gives ms reign reign.leader j (bs j) (messages_of (flat_map each_to (cond b (from ∷ filter p (range_with_len (from + 1) len)) (filter p (range_with_len (from + 1) len)))))
      by (inl is) false e go = absurd (false≢true (sym e ∙ subst (λ (z : ℕ). p z ≡ true) is pj))
      by (inl is) true e go = subst (Gives ms reign reign.leader j (bs j)) (sym (filter_map-append envelope_of (each_to from) (flat_map each_to (filter p (range_with_len (from + 1) len)))))
          (subst (λ (z : List Body). Gives ms reign reign.leader j z (messages_of (each_to from) ++ messages_of (flat_map each_to (filter p (range_with_len (from + 1) len))))) (append-nil (bs j))
          (gives_append ms reign reign.leader j (bs j) [] (messages_of (each_to from)) _ (subst (λ (z : ℕ). Gives ms reign reign.leader z (bs z) (messages_of (each_to from))) (sym is) (here from e))
          (flat_none reign.leader j len (from + 1) (λ k le _. inl (λ same. omega arith)))))
      by (inr ne) false e go = go (omega arith) (omega arith)
      by (inr ne) true e go = subst (Gives ms reign reign.leader j (bs j)) (sym (filter_map-append envelope_of (each_to from) (flat_map each_to (filter p (range_with_len (from + 1) len)))))
          (gives_append ms reign reign.leader j [] (bs j) (messages_of (each_to from)) _ (away reign.leader from j e (λ same. ne (sym same))) (go (omega arith) (omega arith)))

-- ---- the leader

module _ (ms : Monitors) (several : 1 < ms.count) (reign : Reign) (lt : ltb reign.leader ms.count ≡ true) (sh : List Entry) (now : ℕ) (room : now + 10000 ≤ 2 ^ 62) (q : List Bool) where
  abbrev me : Me
  me = member_of ms reign.leader lt

  -- ---- who lacks the last version gets it

  module _ (w : Readings) (epoch : epoch_of w ≡ reign.epoch) (lasts : List ℕ) (near : (k : ℕ) → has q k ≡ true → (k ≡ reign.leader → ⊥) → (slice_index_or lasts k 0 ≡ w.last) ⊎ (suc (slice_index_or lasts k 0) ≡ w.last))
      (value : List Op) (there : (k : ℕ) → has q k ≡ true → (k ≡ reign.leader → ⊥) → slice_index_or lasts k 0 < w.last → (record_at w.record_of w.last ≡ Some value) × (length (text value) ≤ most_value)) where
    abbrev pub behind : ℕ → Bool
    behind k = ltb (slice_index_or lasts k 0) w.last

    abbrev pub caught_up : ℕ → List Body
    caught_up k = cond (behind k) (body.Commit w.last (value ∷ []) ∷ []) []

    abbrev commits : ℕ → List Sent
    commits k = commits_to me w lasts k

    lacks : (k : ℕ) → has q k ≡ true → (k ≡ reign.leader → ⊥) → behind k ≡ true → commits k ≡ message_to me (epoch_of w) (body.Commit w.last (value ∷ [])) k ∷ []
    lacks k qk nk t =
        let l = ltb-true (slice_index_or lasts k 0) w.last t in
        let next : suc (slice_index_or lasts k 0) ≡ w.last = (elim (near k qk nk) [ inl same ↦ absurd (omega arith) | inr next ↦ next ]) in
        let v = there k qk nk l in
        commits_one ms several reign.leader lt sh now w lasts k (slice_index_or lasts k 0) value refl next v.0 v.1
        ∙ ap (λ (z : ℕ). message_to me (epoch_of w) (body.Commit z (value ∷ [])) k ∷ []) next

    has_it : (k : ℕ) → behind k ≡ false → commits k ≡ []
    has_it k t = rw t refl

    gives_here : (k : ℕ) → has q k ≡ true → (k ≡ reign.leader → ⊥) → Gives ms reign reign.leader k (caught_up k) (messages_of (commits k))
    gives_here k qk nk = by (behind k) refl
      where
        by : (b : Bool) → behind k ≡ b → Gives ms reign reign.leader k (cond b (body.Commit w.last (value ∷ []) ∷ []) []) (messages_of (commits k))
        by true t = subst (λ (z : List Sent). Gives ms reign reign.leader k (body.Commit w.last (value ∷ []) ∷ []) (messages_of z)) (sym (lacks k qk nk t))
            (inr (inr (body.Commit w.last (value ∷ []), [], refl, ap (λ (z : ℕ). record { to = k; message = record { from = reign.leader; monitors = ms.count; epoch = z; body = body.Commit w.last (value ∷ []) } }) epoch, refl)))
        by false t = subst (λ (z : List Sent). Gives ms reign reign.leader k [] (messages_of z)) (sym (has_it k t)) refl

    gives_not : (f k j : ℕ) → has q k ≡ true → (k ≡ reign.leader → ⊥) → (f ≡ reign.leader → k ≡ j → ⊥) → Gives ms reign f j [] (messages_of (commits k))
    gives_not f k j qk nk ne = by (behind k) refl
      where
        by : (b : Bool) → behind k ≡ b → Gives ms reign f j [] (messages_of (commits k))
        by true t = subst (λ (z : List Sent). Gives ms reign f j [] (messages_of z)) (sym (lacks k qk nk t)) (inl ((λ from to. ne (sym from) to), refl))
        by false t = subst (λ (z : List Sent). Gives ms reign f j [] (messages_of z)) (sym (has_it k t)) refl

    abbrev among : ℕ → Bool
    among k = has q k && not (eqb k reign.leader)

    parts : (k : ℕ) → among k ≡ true → (has q k ≡ true) × (k ≡ reign.leader → ⊥)
    parts k t = let both = and_parts (has q k) (not (eqb k reign.leader)) t in (both.0, λ e. false≢true (sym (not-true (eqb k reign.leader) both.1) ∙ eq-eqb k reign.leader e))

    abbrev all_commits : List Sent
    all_commits = flat_map (commits_to me w lasts) (members me q)

    pub commits_give : (j : ℕ) → has q j ≡ true → (j ≡ reign.leader → ⊥) → j < ms.count → Gives ms reign reign.leader j (caught_up j) (messages_of all_commits)
    commits_give j qj nj few = flat_once ms reign (commits_to me w lasts) caught_up among (λ k t. gives_here k (parts k t).0 (parts k t).1) (λ f k z t ne. gives_not f k z (parts k t).0 (parts k t).1 (λ _. ne))
        (λ f k z t nf. gives_not f k z (parts k t).0 (parts k t).1 (λ is _. nf is)) j (let other = ne_eqb j reign.leader nj in rw (qj, other) refl) ms.count 0 (omega arith) (omega arith)

    pub commits_none : (f j : ℕ) → (f ≡ reign.leader → j ≡ reign.leader) → Gives ms reign f j [] (messages_of all_commits)
    commits_none f j own = flat_none ms reign (commits_to me w lasts) caught_up among (λ k t. gives_here k (parts k t).0 (parts k t).1) (λ f k z t ne. gives_not f k z (parts k t).0 (parts k t).1 (λ _. ne))
        (λ f k z t nf. gives_not f k z (parts k t).0 (parts k t).1 (λ is _. nf is)) f j ms.count 0
        (λ k _ t. elim (cases_eq f reign.leader) [ inl is ↦ inl (λ same. (parts k t).1 (same ∙ own is)) | inr ne ↦ inr ne ])

  -- ---- it goes on

  module _ (w : Readings) (cs : List Change) (s : State) (quorum : s.leader.quorum ≡ q) (number : s.leader.pn ≡ reign.pn) (kinds : length s.timers ≡ 11)
      (no_ping : (end : ℕ) → end_of timer.Ping s.timers ≡ Some end → ⊥) (second : ℕ) (inside : has q second ≡ true) (other : second ≡ reign.leader → ⊥) (few : reign.leader < 15) (below : second < ms.count) where
    -- all answered
    abbrev pub heard_all : Course
    heard_all = record { readings = w; changes = cs; state = record s { phase = phase.Collecting }; out = [] }

    abbrev pub settled : Course
    settled = record {
      readings = w;
      changes = cs;
      state = record s { phase = phase.Collecting; leader = record s.leader { found = None }; timers = disarmed timer.Collect s.timers };
      out = flat_map (commits_to me w s.leader.lasts) (members me s.leader.quorum);
    }

    -- it serves, or proposes what it found
    pub data Goes (y : Course) : Type 0 where
      serves : ((g : Found) → s.leader.found ≡ Some g → g.version ≡ suc w.last → ⊥) → y ≡ be_active me now settled → Goes y
      proposes : (g : Found) → s.leader.found ≡ Some g → g.version ≡ suc w.last → suc w.last ≤ 2 ^ 62 → y ≡ begin_with me now stage.Previous (suc w.last) g.value None settled → Goes y

    pub goes : (y : Course) → settle me now heard_all ≡ Ok y → suc w.last ≤ 2 ^ 62 → is_alone me q ≡ false → Goes y
    unfolding settle
    goes y e fits many = by s.leader.found refl e
      where
        by : (o : Option Found) → s.leader.found ≡ o → begin_found me now o settled ≡ Ok y → Goes y
        by None is k = serves (λ g there _. (let clash : None ≡ Some g = sym is ∙ there in cc)) (let same : Ok (be_active me now settled) ≡ Ok y = k in cc)
        by (Some g) is k = test (eqb g.version (suc w.last)) refl k
          where
            test : (b : Bool) → eqb g.version (suc w.last) ≡ b → cond b (begin me now stage.Previous g.value None settled) (Ok (be_active me now settled)) ≡ Ok y → Goes y
            test true t h = proposes g is (eqb-true g.version (suc w.last) t) fits
                (let same : Ok (begin_with me now stage.Previous (suc w.last) g.value None settled) ≡ Ok y = sym (begins me now stage.Previous g.value None settled fits (ap (is_alone me) quorum ∙ many)) ∙ h in cc)
            test false t h = serves (λ z there version. (let same : g ≡ z = (let two : Some g ≡ Some z = sym is ∙ there in cc) in false≢true (sym t ∙ eq-eqb g.version (suc w.last) (ap (λ (f : Found). f.version) same ∙ version))))
                (let same : Ok (be_active me now settled) ≡ Ok y = h in cc)

    -- ---- it serves

    abbrev bare : Timers
    bare = only_ping (disarmed timer.Collect s.timers)

    bare_none : (kind : Timer) (end : ℕ) → end_of kind bare ≡ Some end → kind ≡ timer.Propose
    bare_none kind end on =
        let k = only_ping_is (disarmed timer.Collect s.timers) kind end on in
        absurd (no_ping end (sym (still_on timer.Ping timer.Collect s.timers (λ e. omega arith)) ∙ k.1))

    pub leads_since : LeadsSince reign q now ((be_active me now settled).state)
    unfolding be_active extend
    leads_since = extends reign q second now _ few inside other refl quorum number refl refl room bare refl bare_none room
        (all_extended now room bare refl bare_none (not (is_empty s.clients.queue)) (is_empty (members me s.leader.quorum)))

    pub serves_changes : (be_active me now settled).changes ≡ cs
    unfolding be_active extend
    serves_changes = refl

    pub serves_out : epoch_of w ≡ reign.epoch → messages_of (be_active me now settled).out ≡ messages_of (flat_map (commits_to me w s.leader.lasts) (members me q)) ++ each me reign.epoch (body.Lease w.last) (members me q)
    unfolding be_active extend
    serves_out epoch =
        ap (λ (z : List Bool). messages_of (flat_map (commits_to me w s.leader.lasts) (members me z) ++ map (message_to me (epoch_of w) (body.Lease w.last)) (members me z))) quorum
        ∙ ap (λ (e : ℕ). messages_of (flat_map (commits_to me w s.leader.lasts) (members me q) ++ map (message_to me e (body.Lease w.last)) (members me q))) epoch
        ∙ filter_map-append envelope_of (flat_map (commits_to me w s.leader.lasts) (members me q)) (map (message_to me reign.epoch (body.Lease w.last)) (members me q))

    -- ---- it proposes

    abbrev left : Timers
    left = disarmed timer.LeaseAck (disarmed timer.Renew bare)

    pub proposes_since : (x : List Op) → ProposesSince phase.Previous ms.count reign q x now ((begin_with me now stage.Previous (suc w.last) x None settled).state)
    unfolding begin_with
    proposes_since x = record {
      leads = refl;
      quorum = quorum;
      number = number;
      proposed = refl;
      ranks = length-set no_ranks reign.leader true;
      own = has_only reign.leader few;
      more = fewer (are_within ms.count q (only reign.leader)) refl;
      only = λ kind end on. elim (same_kind_or kind timer.Accept) [
        | inl same ↦ inr (same, (let is = one_end _ end (now + 10000) (subst (λ (z : Timer). end_of z (armed now timer.Accept left) ≡ Some end) same on) (ends now timer.Accept left refl room) in omega arith))
        | inr ne ↦ inl (bare_none kind end (kept kind end (sym (still_ends now kind timer.Accept left ne) ∙ on)))
      ];
    }
      where
        kept : (kind : Timer) (end : ℕ) → end_of kind left ≡ Some end → end_of kind bare ≡ Some end
        kept kind end e = elim (same_kind_or kind timer.LeaseAck) [
          | inl same ↦ no_end _ end (off timer.LeaseAck (disarmed timer.Renew bare) refl) (subst (λ (z : Timer). end_of z left ≡ Some end) same e)
          | inr ne ↦ (let old = sym (still_on kind timer.LeaseAck (disarmed timer.Renew bare) ne) ∙ e in elim (same_kind_or kind timer.Renew) [
            | inl same ↦ no_end _ end (off timer.Renew bare refl) (subst (λ (z : Timer). end_of z (disarmed timer.Renew bare) ≡ Some end) same old)
            | inr ne2 ↦ sym (still_on kind timer.Renew bare ne2) ∙ old
          ])
        ]

        fewer : (b : Bool) → are_within ms.count q (only reign.leader) ≡ b → b ≡ false
        fewer false e = refl
        fewer true e = absurd (other (has_only_is reign.leader second (within_at ms.count q (only reign.leader) second e below inside)))

    pub proposes_changes : (x : List Op) → (begin_with me now stage.Previous (suc w.last) x None settled).changes ≡ cs ++ Vote (suc w.last) s.leader.pn x ∷ []
    unfolding begin_with
    proposes_changes x = refl

    pub proposes_accepted : (x : List Op) → ((begin_with me now stage.Previous (suc w.last) x None settled).state).leader.accepted ≡ only reign.leader
    unfolding begin_with
    proposes_accepted x = refl

    pub proposes_out : (x : List Op) → epoch_of w ≡ reign.epoch → messages_of (begin_with me now stage.Previous (suc w.last) x None settled).out
        ≡ messages_of (flat_map (commits_to me w s.leader.lasts) (members me q)) ++ each me reign.epoch (body.Begin reign.pn (suc w.last) x) (members me q)
    unfolding begin_with
    proposes_out x epoch =
        ap (λ (z : List Bool). messages_of (flat_map (commits_to me w s.leader.lasts) (members me z) ++ map (message_to me (epoch_of w) (body.Begin s.leader.pn (suc w.last) x)) (members me z))) quorum
        ∙ ap (λ (e : ℕ). messages_of (flat_map (commits_to me w s.leader.lasts) (members me q) ++ map (message_to me e (body.Begin s.leader.pn (suc w.last) x)) (members me q))) epoch
        ∙ ap (λ (p : ℕ). messages_of (flat_map (commits_to me w s.leader.lasts) (members me q) ++ map (message_to me reign.epoch (body.Begin p (suc w.last) x)) (members me q))) number
        ∙ filter_map-append envelope_of (flat_map (commits_to me w s.leader.lasts) (members me q)) (map (message_to me reign.epoch (body.Begin reign.pn (suc w.last) x)) (members me q))
