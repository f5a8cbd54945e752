-- A majority that has room catches up, however far its members are from the whole log.
use Rattle.calm_sizes.proofs.Records.{entry_short}
use Rattle.calm_sizes.specs.Sizes.{AllShort, longest}
use Rattle.law_names.proofs.Runs.{AllFit, Event, Monitors, World, first_read, last_of, log_from, most_size, ran, run, size_of}
use Rattle.law_names.proofs.Table.{AllByRecursion, Command, Course, Op, Readings, Session, State, Store, booting, epoch_of, has, lag, number, react, readings_of, record_at, same_phase, shared_entries, text}
use Rattle.log_copies.proofs.Matching.{monitor_keeps, read_last, record_there}
use Rattle.mon_msg.specs.declared.input.Input.TheVariants as input
use Rattle.mon_tx.specs.declared.key.Area.TheVariants as area
use Rattle.mon_tx.specs.declared.key.Key.TheVariants as key
use Rattle.mon_wire.specs.declared.phase.Phase.TheVariants as phase
use Rattle.quorum_agreement.proofs.Grown.{first_is}
use Rattle.quorum_elects.proofs.Can.{Can, Onward, Sane, Scope, for_each, reached_holds, rests, then, weaker}
use Rattle.quorum_elects.proofs.Elected.{near_lacks}
use Rattle.quorum_elects.proofs.Moving.{Did, Sound}
use Rattle.quorum_elects.proofs.Ranks.{Greatest, greatest_of, in_or_out, same_or_not, up_to}
use Rattle.quorum_elects.proofs.Stores.{near_short}
use Rattle.quorum_elects.proofs.Walking.{weaken}
use Rattle.quorum_elects.specs.Ready.{LacksAtMost}
use Rattle.quorum_elects.specs.Ways.{Clock}
use Rattle.quorum_laws.specs.Accepting.{IsMajorityOf, readings_at}
use Rattle.quorum_model.proofs.Continuing.{at}
use Rattle.quorum_model.proofs.Members.{member_of}
use Rattle.quorum_near.proofs.Whole.{Holds, every, last_read, mark_read}
use Rattle.quorum_near.specs.Near.{SomeNear}
use Rattle.quorum_recovers.proofs.Known.{at_cell, entry_value, low_of, on_log, record_read, within_log}
use Rattle.quorum_rejoins.proofs.Events.{start}
use Rattle.quorum_rejoins.proofs.Progress.{IsBrief, entries_few, entries_short}
use Rattle.quorum_rejoins.proofs.Taking.{Begins, begins}
use Rattle.quorum_rejoins.proofs.Turning.{Caught, KeptFrom, catches_up}
use Rattle.quorum_rejoins.proofs.Turns.{Gives, Provider, Turn, adds_none}
use Rattle.quorum_rejoins.specs.Lagging.{CaughtUp, HaveRoom, LacksMore}
use Rattle.std.proofs.Common.{Bool, List, Option, Some, ap, arith, false, inl, inr, length, ltb, refl, subst, suc, sym, true, zero, ℕ, ◌*◌, ◌+◌, ◌<◌, ◌^◌, ◌∙◌, ◌≡◌, ◌≤◌, ◌⊎◌}
use Rattle.std.proofs.lemmas.Bool.{cases_lt, false≢true, lt-ltb}

-- a store keeps at most 752 versions
low_from : (c : ℕ) → c < log_from c + 752
low_from c = omega arith

kept_window : (c : ℕ) (r : Readings) → r.last ≡ c → r.first ≡ first_read log_from c → r.last < r.first + 752
kept_window zero r last first = omega arith
kept_window (suc c) r last first = let l = low_from (suc c) in omega arith

-- a majority of a run, ready to join
module _ (ms : Monitors) (several : 1 < ms.count) (events : List Event) (F : AllFit ms.count events) (there : ran ms events ≡ at (run ms events)) (q : List Bool) (M : IsMajorityOf ms.count q) (R : HaveRoom q (run ms events)) (asks : Option (Session × Command)) (clock : Clock) where
  abbrev w0 : World
  w0 = run ms events

  abbrev n : ℕ
  n = ms.count

  abbrev log : List (List ℕ)
  log = w0.log

  abbrev S : Scope
  S = record { ms = ms; q = q; sent = length w0.messages; asks = asks; clock = clock }

  H0 : Holds ms several (run ms events)
  H0 = reached_holds ms several (run ms events) (record { events = events; fit = F; is = there })

  lt_of : (f : ℕ) → has q f ≡ true → ltb f n ≡ true
  lt_of f h = lt-ltb f n (M.below f h)

  short_of : (i : ℕ) → has q i ≡ true → AllShort longest ((run ms events).store i)
  short_of i h = by (readings_at (run ms events) i).marked refl
    where
      by : (b : Bool) → (readings_at (run ms events) i).marked ≡ b → AllShort longest ((run ms events).store i)
      by false u = let X = R.monitors i h in near_short ms (run ms events) H0.0 i (M.below i h) u X.store
      by true t = let X = R.stores i h (sym (mark_read ((run ms events).store i)) ∙ t) in X.short

  sane : Sane S (run ms events)
  sane = record { since = omega arith; reached = record { events = events; fit = F; is = there }; short = short_of }

  -- ---- the provider: a member that has the most versions

  N : SomeNear (run ms events) q
  N = every ms events F (omega arith) q M

  G : Greatest q (λ f. (readings_at (run ms events) f).last) n
  G = greatest_of q (λ f. (readings_at (run ms events) f).last) N.rank N.within n

  abbrev p : ℕ
  p = G.rank

  top : length log ≤ suc (readings_at (run ms events) p).last
  top =
      let L = near_lacks (run ms events) N.rank N.near in
      let near = L.near in
      let g = G.greatest N.rank (M.below N.rank N.within) N.within in
      let r = last_read ((run ms events).store N.rank) in
      omega arith

  -- a marked one has no version, and its floor is far below the end of the log
  marked_low : (i : ℕ) → (readings_at (run ms events) i).marked ≡ true → ((readings_at (run ms events) i).last ≡ 0) × ((readings_at (run ms events) i).floor + 501 ≤ length log)
  marked_low i t = elim (H0.1.stores i) [ inl u ↦ absurd (false≢true (sym u.0 ∙ t)) | inr low ↦ ((((H0.0).0.mine i).disk.kept.clear t).0, low) ]

  unmarked_p : (readings_at (run ms events) p).marked ≡ false
  unmarked_p = by (readings_at (run ms events) p).marked refl
    where
      by : (b : Bool) → (readings_at (run ms events) p).marked ≡ b → b ≡ false
      by false u = refl
      by true t = absurd (let z = marked_low p t in let y = top in let a = z.0 in let b = z.1 in omega arith)

  within_p : (readings_at (run ms events) p).last ≤ length log
  within_p = within_log ms several (run ms events) H0 p (M.below p G.within) unmarked_p

  -- ---- the provider starts

  -- what holds of it then
  record Ready (w : World) : Type 0 where
    room : Sane S w
    log_is : w.log ≡ log
    state : State
    up : w.state p ≡ Some state
    gives : Gives 1 state
    kept : KeptFrom (readings_at (run ms events) p) (readings_at w p)
    last : (readings_at w p).last ≡ (readings_at (run ms events) p).last
    rest : (j : ℕ) → (j ≡ p → ⊥) → w.store j ≡ (run ms events).store j

  readies : Can S 1 Ready (run ms events)
  readies = weaker S (omega arith) after
      (start S (run ms events) sane p (lt_of p G.within) G.within (Begins ms several p (lt_of p G.within) (shared_entries (w0.store p)) (S.clock.event w0) (readings_at w0 p))
      (weaken (Begins ms several p (lt_of p G.within) (shared_entries (w0.store p)) (S.clock.event w0) (readings_at w0 p)) _ (react (member_of ms p (lt_of p G.within)) (shared_entries (w0.store p)) (S.clock.event w0) (readings_at w0 p) (booting p) input.Start) (λ y B. (sound y B, B))
      (begins ms several p (lt_of p G.within) (shared_entries (w0.store p)) (S.clock.event w0) (readings_at w0 p) (let X = R.monitors p G.within in let N = X.numbers in N.boot))))
    where
      sound : (y : Course) → Begins ms several p (lt_of p G.within) (shared_entries (w0.store p)) (S.clock.event w0) (readings_at w0 p) y → Sound (readings_at w0 p) y
      sound y B = record { tells = B.tells; fits = B.fits; short = B.short; unmarked = ap (λ (r : Readings). r.marked) B.own ∙ unmarked_p }

      after : (v : World) → Onward S w0 v → Did S (Begins ms several p (lt_of p G.within) (shared_entries (w0.store p)) (S.clock.event w0) (readings_at w0 p)) w0 p v → Ready v
      after v o D =
          let B = D.did in
          let own = D.moved.reads ∙ B.own in
          let last : (readings_at v p).last ≡ (readings_at w0 p).last = ap (λ (r : Readings). r.last) own in
          record {
            room = o.sane sane;
            log_is = D.moved.log ∙ adds_none log _ (inr (subst (λ (m : Store). (readings_of m).last ≤ length log) D.moved.stored (let z = within_p in omega arith)));
            state = D.y.state;
            up = D.moved.up;
            gives = record { runs = ap (λ x. same_phase x phase.Booting) B.phase; long = ap (λ z. length z.cookies) B.provider; next = (let e = ap (λ z. z.next_cookie) B.provider in omega arith) };
            kept = record {
              unmarked = ap (λ (r : Readings). r.marked) own ∙ unmarked_p;
              boot = (let e = ap (λ (r : Readings). r.boot) own in omega arith);
              epoch = ap epoch_of D.moved.reads ∙ B.epoch;
              last_pn = ap (λ (r : Readings). r.last_pn) own;
              promise = ap (λ (r : Readings). r.promise) own;
            };
            last = last;
            rest = λ j ne. (D.moved.others j ne).1;
          }

  -- ---- the others catch up, one after the other

  module _ (v : World) (Y : Ready v) where
    Hv : Holds ms several v
    Hv = let Z = Y.room in reached_holds ms several v Z.reached

    lt_p : p < n
    lt_p = M.below p G.within

    unmarked_v : (readings_at v p).marked ≡ false
    unmarked_v = let K = Y.kept in K.unmarked

    within_v : (readings_at v p).last ≤ length log
    within_v = let e = Y.last in let z = within_p in omega arith

    near_v : length log ≤ suc (readings_at v p).last
    near_v = let e = Y.last in let z = top in omega arith

    abbrev P : Provider S
    P = record { p = p; log = log; given = v.store p; none = inr within_v }

    room_log : length log + 1000 ≤ 2 ^ 62
    room_log = R.log

    brief : AllByRecursion IsBrief (shared_entries (v.store p))
    brief = let O = Hv.0.1 in let V = on_log ms several v Hv p lt_p unmarked_v in let W = V.versions in entries_short v.log O.short O.values V.last W.within (v.store p) W.folded

    few : length (shared_entries (v.store p)) ≤ 915
    few = let O = Hv.0.1 in let V = on_log ms several v Hv p lt_p unmarked_v in let W = V.versions in entries_few v.log O.short O.values V.last W.within (v.store p) W.folded

    window : (readings_at v p).last < (readings_at v p).first + 752
    window =
        let O = Hv.0.1 in
        let V = on_log ms several v Hv p lt_p unmarked_v in
        let W = V.versions in
        let r = read_last v.log O.short O.values V.last (v.store p) W in
        let K = monitor_keeps v.log O.short O.values V.last (v.store p) W in
        kept_window V.last (readings_at v p) r K.first

    kept_low : (readings_at v p).first ≤ suc (readings_at v p).last
    kept_low = elim (low_of ms several v Hv p lt_p unmarked_v) [ inl few ↦ (omega arith) | inr far ↦ (omega arith) ]

    -- each version that it keeps has a record
    records : (x : ℕ) → (readings_at v p).first ≤ suc x → x < (readings_at v p).last → (value : List Op) × (record_at (readings_at v p).record_of (suc x) ≡ Some value) × (length (text value) ≤ 524288)
    records x low less =
        let O = Hv.0.1 in
        let V = on_log ms several v Hv p lt_p unmarked_v in
        let W = V.versions in
        let r = last_read (v.store p) in
        let l : number (v.store p) area.Paxos key.LastCommitted ≡ V.last = W.last in
        let inside = W.within in
        let f = first_is (v.store p) in
        let e = entry_value ms several v Hv x (omega arith) in
        let s = entry_short v.log O.short O.values x (omega arith) in (
          e.0,
          at_cell (readings_at v p).record_of (suc x) _ e.0 (record_read (v.store p) (suc x) ∙ record_there v.log O.short O.values V.last (v.store p) W (suc x) (omega arith) (omega arith)) e.1 e.2,
          (let z = ap length e.1 in omega arith),
        )

    -- the events that one member takes at most
    abbrev each : ℕ
    each = 1850

    -- what holds of a member once it caught up
    record CaughtOf (f : ℕ) (r : Readings) : Type 0 where
      kept : KeptFrom (readings_at (run ms events) f) r
      near : length log ≤ r.last + 11
      more : (readings_at (run ms events) f).last ≤ r.last
      copied : LacksMore 11 (run ms events) f → length log ≤ r.last + 1

    record Done (k : ℕ) (w : World) : Type 0 where
      room : Sane S w
      log_is : w.log ≡ log
      given_is : w.store p ≡ v.store p
      state : State
      up : w.state p ≡ Some state
      gives : Gives (suc k) state
      done : (f : ℕ) → f < k → has q f ≡ true → (f ≡ p → ⊥) → CaughtOf f (readings_at w f)
      left : (f : ℕ) → k ≤ f → has q f ≡ true → (f ≡ p → ⊥) → w.store f ≡ (run ms events).store f

    begun : Done 0 v
    begun = record {
      room = Y.room;
      log_is = Y.log_is;
      given_is = refl;
      state = Y.state;
      up = Y.up;
      gives = Y.gives;
      done = λ f less h ne. absurd (omega arith);
      left = λ f ge h ne. Y.rest f ne;
    }

    more_gives : (k : ℕ) (s : State) → Gives (suc k) s → Gives (suc (suc k)) s
    more_gives k s X = record { runs = X.runs; long = X.long; next = (let z = X.next in omega arith) }

    -- all below k + 1 are done if k caught up already, is the provider, or is no member
    skip : (k : ℕ) (w : World) → Done k w → (has q k ≡ true → (k ≡ p → ⊥) → CaughtOf k (readings_at w k)) → Done (suc k) w
    skip k w D here = record {
      room = D.room;
      log_is = D.log_is;
      given_is = D.given_is;
      state = D.state;
      up = D.up;
      gives = more_gives k D.state D.gives;
      done = λ f less h ne. elim (up_to f k less) [
        | inl e ↦ subst (λ (x : ℕ). CaughtOf x (readings_at w x)) (sym e) (here (subst (λ (x : ℕ). has q x ≡ true) e h) (λ z. ne (e ∙ z)))
        | inr low ↦ D.done f low h ne
      ];
      left = λ f ge h ne. D.left f (omega arith) h ne;
    }

    module _ (k : ℕ) (h : has q k ≡ true) (ne : k ≡ p → ⊥) where
      lt_k : k < n
      lt_k = M.below k h

      few_k : k < 15
      few_k = let m = ms.most in let z = lt_k in omega arith

      -- it is near enough
      stays_near : (w : World) → Done k w → (readings_at (run ms events) k).marked ≡ false → (readings_at v p).last ≤ (readings_at (run ms events) k).last + lag → CaughtOf k (readings_at w k)
      stays_near w D u le = subst (λ (m : Store). CaughtOf k (readings_of m)) (sym (D.left k (omega arith) h ne)) (record {
        kept = record { unmarked = u; boot = omega arith; epoch = refl; last_pn = refl; promise = refl };
        near = (let z = near_v in omega arith);
        more = omega arith;
        copied = λ more. elim more [
          | inl t ↦ absurd (false≢true (sym u ∙ mark_read ((run ms events).store k) ∙ t))
          | inr far ↦ absurd (let z = near_v in let r = last_read ((run ms events).store k) in omega arith)
        ];
      })

      turned : (w : World) → Done k w → Turn S P k ne w (suc k) w
      turned w D = record { room = D.room; log = D.log_is; given = D.given_is; state = D.state; up = D.up; gives = D.gives; rest = λ j a b. refl }

      abbrev Catches : World → World → Type 0
      Catches w u = Caught S several P k ne w (lt_of k h) h (lt_of p G.within) G.within (suc (suc k)) (readings_at w k) u

      after : (w : World) → Done k w → (u : World) → Onward S w u → Catches w u → Done (suc k) u
      after w D u o C =
          let T = C.turn in
          record {
            room = T.room;
            log_is = T.log;
            given_is = T.given;
            state = T.state;
            up = T.up;
            gives = T.gives;
            done = λ f less g other. elim (same_or_not f k) [
              | inl e ↦ subst (λ (x : ℕ). CaughtOf x (readings_at u x)) (sym e) caught
              | inr apart ↦ subst (λ (m : Store). CaughtOf f (readings_of m)) (sym (T.rest f apart other)) (D.done f (elim (up_to f k less) [ inl e ↦ absurd (apart e) | inr low ↦ low ]) g other)
            ];
            left = λ f ge g other. T.rest f (λ e. omega arith) other ∙ D.left f (omega arith) g other;
          }
        where
          caught : CaughtOf k (readings_at u k)
          caught = let near : length log ≤ (readings_at u k).last + 1 = (let z = C.reached in let y = near_v in omega arith) in record {
            kept = subst (λ (m : Store). KeptFrom (readings_of m) (readings_at u k)) (D.left k (omega arith) h ne) C.kept;
            near = omega arith;
            more = (let z = C.reached in let y = Y.last in let g = G.greatest k (M.below k h) h in omega arith);
            copied = λ more. near;
          }

      -- it must copy
      copies : (w : World) → Done k w → ((readings_at (run ms events) k).marked ≡ true) ⊎ (((readings_at (run ms events) k).marked ≡ false) × ((readings_at (run ms events) k).last + lag < (readings_at v p).last))
          → Can S each (Done (suc k)) w
      copies w D why =
          weaker S (omega arith) (after w D)
          (catches_up S several P k ne w (lt_of k h) h (lt_of p G.within) G.within few_k unmarked_v within_v (let z = room_log in omega arith) near_v kept_low brief records few window (suc k) (let z = few_k in omega arith) w (turned w D)
          (subst (λ (m : Store). (readings_of m).boot + 1000 ≤ 2 ^ 62) (sym same) boot)
          (subst (λ (m : Store). (readings_of m).marked ≡ true → size_of m + 1000 ≤ most_size) (sym same) large)
          (subst (λ (m : Store). (((readings_of m).marked ≡ true) × (1 ≤ (readings_at v p).last) × ((readings_of m).floor ≤ (readings_at v p).last)) ⊎ (((readings_of m).marked ≡ false) × ((readings_of m).last ≤ length log) × ((readings_of m).last + lag < (readings_at v p).last))) (sym same) (by why)))
        where
          same : w.store k ≡ (run ms events).store k
          same = D.left k (omega arith) h ne

          boot : (readings_at (run ms events) k).boot + 1000 ≤ 2 ^ 62
          boot = let X = R.monitors k h in let N = X.numbers in N.boot

          large : (readings_at (run ms events) k).marked ≡ true → size_of ((run ms events).store k) + 1000 ≤ most_size
          large t = let X = R.stores k h (sym (mark_read ((run ms events).store k)) ∙ t) in X.size

          by : ((readings_at (run ms events) k).marked ≡ true) ⊎ (((readings_at (run ms events) k).marked ≡ false) × ((readings_at (run ms events) k).last + lag < (readings_at v p).last))
              → (((readings_at (run ms events) k).marked ≡ true) × (1 ≤ (readings_at v p).last) × ((readings_at (run ms events) k).floor ≤ (readings_at v p).last)) ⊎ (((readings_at (run ms events) k).marked ≡ false) × ((readings_at (run ms events) k).last ≤ length log) × ((readings_at (run ms events) k).last + lag < (readings_at v p).last))
          by (inl t) = inl (t, (let z = (marked_low k t).1 in let y = near_v in omega arith), (let z = (marked_low k t).1 in let y = near_v in omega arith))
          by (inr u) = inr (u.0, (let y = within_v in let z = u.1 in omega arith), u.1)

    step : (k : ℕ) (w : World) → k < n → Done k w → Can S each (Done (suc k)) w
    step k w lt D = by (in_or_out (has q k))
      where
        by : (has q k ≡ true) ⊎ (has q k ≡ false) → Can S each (Done (suc k)) w
        by (inr out) = rests S (skip k w D (λ h ne. absurd (false≢true (sym out ∙ h))))
        by (inl h) = elim (same_or_not k p) [ inl e ↦ rests S (skip k w D (λ h ne. absurd (ne e))) | inr ne ↦ goes h ne (readings_at (run ms events) k).marked refl ]
          where
            goes : (h : has q k ≡ true) (ne : k ≡ p → ⊥) (b : Bool) → (readings_at (run ms events) k).marked ≡ b → Can S each (Done (suc k)) w
            goes h ne true t = copies k h ne w D (inl t)
            goes h ne false u = elim (cases_lt ((readings_at (run ms events) k).last + lag) (readings_at v p).last) [
              | inl late ↦ copies k h ne w D (inr (u, late))
              | inr near ↦ rests S (skip k w D (λ g other. stays_near k h ne w D u near))
            ]

    others : Can S (each * n) (Done n) v
    others = for_each S n each Done step n 0 (omega arith) v begun

  -- ---- all have caught up

  pub record AllCaught (w : World) : Type 0 where
    pub room : Sane S w
    pub caught : CaughtUp q (run ms events) w
    pub kept : (f : ℕ) → has q f ≡ true → KeptFrom (readings_at (run ms events) f) (readings_at w f)

  ended : (v : World) (Y : Ready v) (w : World) → Done v Y n w → AllCaught w
  ended v Y w D = record {
    room = D.room;
    kept = λ f h. elim (same_or_not f p) [ inl e ↦ kept_p f e | inr ne ↦ (let C = D.done f (M.below f h) h ne in C.kept) ];
    caught = record {
      log = D.log_is;
      near = λ f h. elim (same_or_not f p) [ inl e ↦ near_p 11 f e (omega arith) | inr ne ↦ (let C = D.done f (M.below f h) h ne in let K = C.kept in near_of 11 f K.unmarked C.near) ];
      more = λ f h. elim (same_or_not f p) [ inl e ↦ more_of f (more_p f e) | inr ne ↦ (let C = D.done f (M.below f h) h ne in more_of f C.more) ];
      copied = λ f h more. elim (same_or_not f p) [ inl e ↦ near_p 1 f e (omega arith) | inr ne ↦ (let C = D.done f (M.below f h) h ne in let K = C.kept in near_of 1 f K.unmarked (C.copied more)) ];
    };
  }
    where
      kept_p : (f : ℕ) → f ≡ p → KeptFrom (readings_at (run ms events) f) (readings_at w f)
      kept_p f e = subst (λ (x : ℕ). KeptFrom (readings_at (run ms events) x) (readings_at w x)) (sym e) (subst (λ (m : Store). KeptFrom (readings_at (run ms events) p) (readings_of m)) (sym D.given_is) Y.kept)

      near_of : (most : ℕ) (f : ℕ) → (readings_at w f).marked ≡ false → length log ≤ (readings_at w f).last + most → LacksAtMost most w f
      near_of most f u le = record { unmarked = sym (mark_read (w.store f)) ∙ u; near = (let e = ap (λ (l : List (List ℕ)). length l) D.log_is in let r = last_read (w.store f) in omega arith) }

      more_of : (f : ℕ) → (readings_at (run ms events) f).last ≤ (readings_at w f).last → last_of ((run ms events).store f) ≤ last_of (w.store f)
      more_of f le = let a = last_read ((run ms events).store f) in let b = last_read (w.store f) in omega arith

      more_p : (f : ℕ) → f ≡ p → (readings_at (run ms events) f).last ≤ (readings_at w f).last
      more_p f e = subst (λ (x : ℕ). (readings_at (run ms events) x).last ≤ (readings_at w x).last) (sym e) (subst (λ (m : Store). (readings_at (run ms events) p).last ≤ (readings_of m).last) (sym D.given_is) (let y = Y.last in omega arith))

      near_p : (most : ℕ) (f : ℕ) → f ≡ p → 1 ≤ most → LacksAtMost most w f
      near_p most f e some = subst (LacksAtMost most w) (sym e) (near_of most p
          (subst (λ (m : Store). (readings_of m).marked ≡ false) (sym D.given_is) (let K = Y.kept in K.unmarked))
          (subst (λ (m : Store). length log ≤ (readings_of m).last + most) (sym D.given_is) (let z = top in let y = Y.last in omega arith)))

  pub all_catch_up : Can S (1850 * n + 1) AllCaught (run ms events)
  all_catch_up = weaker S (omega arith) (λ w o A. A) (then S {l = 1850 * n} readies (λ v o Y. weaker S (omega arith) (λ w o2 D. ended v Y w D) (others v Y)))
