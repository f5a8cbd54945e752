-- The member that is to lead becomes a candidate of the greatest epoch, and is elected.
use Rattle.law_names.proofs.Runs.{Monitors, World}
use Rattle.law_names.proofs.Table.{Course, count_of, has, is_even, is_majority, no_ranks, only, shared_entries, with_rank}
use Rattle.mon_wire.specs.declared.body.Body.TheVariants as body
use Rattle.mon_wire.specs.declared.kind.Kind.TheVariants as kind
use Rattle.mon_wire.specs.declared.phase.Phase.TheVariants as phase
use Rattle.mon_wire.specs.declared.phase.Timer.TheVariants as timer
use Rattle.quorum_elects.proofs.Can.{New, Onward, Sane, Scope, new_stays}
use Rattle.quorum_elects.proofs.InTurn.{InTurn, Peon, Turned, at_first, covers_one, covers_with, each_in_turn, not_peon, peon_or_not}
use Rattle.quorum_elects.proofs.Majorities.{Candidacy, Majority, epoch_at, scope}
use Rattle.quorum_elects.proofs.Moving.{Did}
use Rattle.quorum_elects.proofs.Planning.{Plays, does_weaker, passes, step}
use Rattle.quorum_elects.proofs.Probing as probing
use Rattle.quorum_elects.proofs.Ranks.{IsHighest, count_more, highest_of, in_or_out, same_or_not}
use Rattle.quorum_elects.proofs.Rows.{Elects, odd_from, odd_from_is}
use Rattle.quorum_elects.proofs.Standing.{Is, IsCandidate, IsCollector, IsPeon, IsVoter, letter}
use Rattle.quorum_elects.proofs.Steps.{deliver, is_now, is_stays, ring}
use Rattle.quorum_elects.proofs.Tests.{and_false, chosen, in_phase, itself_is, other_is, otherwise, outside_is, quorum_is}
use Rattle.quorum_elects.proofs.VoteRows.{Defers, Reigns, acked, calls, defers, ends, follows}
use Rattle.quorum_elects.specs.Electing as electing
use Rattle.quorum_elects.specs.Plans.{Hears, Rings}
use Rattle.quorum_laws.specs.Accepting.{IsMajorityOf, readings_at}
use Rattle.quorum_walk.proofs.Ranks.{has_only, has_only_is, has_with, has_with_is}
use Rattle.std.proofs.Common.{Bool, List, [], ap, arith, false, inl, inr, length, ltb, subst, suc, sym, true, ℕ, ◌&&◌, ◌*◌, ◌+◌, ◌<◌, ◌^◌, ◌∙◌, ◌∷◌, ◌≡◌, ◌≤◌, ◌⊎◌}
use Rattle.std.proofs.lemmas.Bool.{cases_lt, false≢true, le-ltb, lt-ltb, ltb-true}
use Rattle.std.proofs.lemmas.List.{length-set}

module _ (G : Majority) (K : Candidacy G) where
  abbrev ms : Monitors
  ms = G.ms

  abbrev n : ℕ
  n = G.ms.count

  abbrev several : 1 < n
  several = G.several

  abbrev q : List Bool
  q = G.q

  abbrev M : IsMajorityOf n q
  M = G.major

  abbrev c : ℕ
  c = G.c

  abbrev Us : Scope
  Us = scope G

  abbrev sent : ℕ
  sent = length G.from.messages

  abbrev e0 : ℕ → ℕ
  e0 f = epoch_at G f

  abbrev On : World → World → Type 0
  On w v = Onward Us w v

  abbrev Room : World → Type 0
  Room w = Sane (scope G) w

  abbrev r : ℕ
  r = K.r

  abbrev mine : has q r ≡ true
  mine = K.mine

  abbrev E : ℕ
  E = K.E

  lt_of : (f : ℕ) → has q f ≡ true → ltb f n ≡ true
  lt_of f h = probing.lt_of G f h

  abbrev Stands : ℕ → World → Type 0
  Stands f w = probing.Stands G f w

  abbrev Calls : ℕ → ℕ → World → Type 0
  Calls f e w = probing.Calls G f e w

  -- ---- messages that wait

  abbrev Acks : ℕ → World → Type 0
  Acks f w = New sent w (record { to = r; message = letter n f E body.Ack })

  abbrev Victories : List Bool → World → Type 0
  Victories a w = (g : ℕ) → g < n → has a g ≡ true → (g ≡ r → ⊥) → New sent w (record { to = g; message = letter n r (suc E) (body.Victory a) })

  abbrev Collects : List Bool → (pn first last : ℕ) → World → Type 0
  Collects a pn first last w = (g : ℕ) → g < n → has a g ≡ true → (g ≡ r → ⊥) → New sent w (record { to = g; message = letter n r (suc E) (body.Collect pn first last) })

  -- ---- it is a candidate of the greatest epoch, and the others vote for it

  -- it is a candidate of this epoch, to which those of a deferred
  abbrev Leads : List Bool → World → Type 0
  Leads a w = Is (IsCandidate c E a) w r

  abbrev Votes : ℕ → World → Type 0
  Votes f w = Is (IsVoter c E) w f × Acks f w

  votes_stay : (w v : World) (f : ℕ) → On w v → (v.state f ≡ w.state f) × (v.store f ≡ w.store f) → Votes f w → Votes f v
  votes_stay w v f o same k = (is_stays (IsVoter c E) w v f same k.0, new_stays Us o k.1)

  -- it stands in its epoch, and sent the others its PROPOSE
  pub record Candidate (w : World) : Type 0 where
    pub room : Room w
    pub leads : Leads (only r) w
    pub calls : Calls r E w

  -- those below k voted for r, and the others are candidates
  abbrev pub Voted : ℕ → World → Type 0
  Voted = InTurn (Peon q r) Candidate Votes Stands

  -- one that has the greatest epoch
  abbrev topmost : World → ℕ
  topmost w = electing.highest (electing.epoch_at w) q r n

  pub called : (one : ℕ) → has q one ≡ true → odd_from (e0 one) ≡ E → (w : World) → probing.Probed G n w → Plays Us (electing.calls n q r ∷ []) 1 (Voted 0) w
  called one has_one is_top w P = by (cases_lt (odd_from (e0 r)) E)
    where
      all : (f : ℕ) → has q f ≡ true → Stands f w
      all f h = P.done f (M.below f h) h

      M1 : IsHighest (electing.epoch_at w) q n (topmost w)
      M1 = highest_of (electing.epoch_at w) q r mine n

      there : has q (topmost w) ≡ true
      there = M1.within

      epoch_is : (f : ℕ) → has q f ≡ true → electing.epoch_at w f ≡ odd_from (e0 f)
      epoch_is f h = let z = all f h in let Z : Is (IsCandidate c (odd_from (e0 f)) (only f)) w f = z.0 in let H = Z.holds in H.epoch

      top : odd_from (e0 (topmost w)) ≡ E
      top =
          let g = M1.greatest one (M.below one has_one) has_one in
          let a = epoch_is one has_one in
          let b = epoch_is (topmost w) there in
          let most = K.greatest (topmost w) (M.below (topmost w) there) there in
          omega (arith, is_top)

      at_once : odd_from (e0 r) ≡ E → Voted 0 w
      at_once e = let z = all r mine in at_first (Peon q r) Candidate Votes Stands w (record {
        room = P.room;
        leads = subst (λ (x : ℕ). Is (IsCandidate c x (only r)) w r) e z.0;
        calls = subst (λ (x : ℕ). Calls r x w) e z.1;
      }) (λ f peon. all f peon.0)

      goes : odd_from (e0 r) < E → Plays Us (electing.calls n q r ∷ []) 1 (Voted 0) w
      goes less =
          let z = all r mine in
          let Z : Is (IsCandidate c (odd_from (e0 r)) (only r)) w r = z.0 in
          let y = all (topmost w) there in
          let Y : Is (IsCandidate c (odd_from (e0 (topmost w))) (only (topmost w))) w (topmost w) = y.0 in
          let H = Y.holds in
          let A : Calls (topmost w) (odd_from (e0 (topmost w))) w = y.1 in
          let other : r ≡ (topmost w) → ⊥ = (λ e. let t = subst (λ (x : ℕ). odd_from (e0 x) < E) e less in omega (arith, top)) in
          let room : E + 8 ≤ 2 ^ 62 = (let f = H.room in omega (arith, top)) in
          step Us (electing.calls n q r) (Hears r (topmost w) kind.Propose ∷ [])
          (chosen _ _ (ltb (electing.epoch_at w r) (electing.epoch_at w (topmost w))) (lt-ltb (electing.epoch_at w r) (electing.epoch_at w (topmost w)) (let a = epoch_is r mine in let b = epoch_is (topmost w) there in omega (arith, top))))
          (does_weaker Us (omega arith) after
          (deliver Us w P.room r (lt_of r mine) mine (Elects ms several c r (lt_of r mine) (shared_entries (w.store r)) (G.clock.event w) E) (letter n (topmost w) E (body.Propose A.table))
          (subst (λ (x : ℕ). New sent w (record { to = r; message = letter n (topmost w) x (body.Propose A.table) })) top (A.sent_to r (M.below r mine) other)) Z.state Z.up
          (calls ms several c r (lt_of r mine) (shared_entries (w.store r)) (G.clock.event w) (readings_at w r) Z.state (odd_from (e0 r)) (only r) Z.holds (topmost w) E (M.below (topmost w) there) (λ e. other (sym e)) (K.before (topmost w) there (λ e. other (sym e))) A.table A.fits A.full (subst (λ (x : ℕ). is_even x ≡ false) top (odd_from_is (e0 (topmost w)))) room less)))
        where
          after : (v : World) → On w v → Did Us (Elects ms several c r (lt_of r mine) (shared_entries (w.store r)) (G.clock.event w) E) w r v → Voted 0 v
          after v o D = let R = D.did in at_first (Peon q r) Candidate Votes Stands v (record {
            room = o.sane P.room;
            leads = is_now Us (IsCandidate c E (only r)) w v r D.y D.moved R.stands;
            calls = record { table = R.table; fits = R.fits; full = R.full; sent_to = λ g lt ne. D.moved.says g (letter n r E (body.Propose R.table)) (R.says g lt ne) };
          }) (λ f peon. probing.stands_stay G w v f o (D.moved.others f peon.1) (all f peon.0))

      by : (odd_from (e0 r) < E) ⊎ (E ≤ odd_from (e0 r)) → Plays Us (electing.calls n q r ∷ []) 1 (Voted 0) w
      by (inl less) = goes less
      by (inr ge) =
          let g = K.greatest r (M.below r mine) mine in
          passes Us (electing.calls n q r)
          (otherwise _ _ (ltb (electing.epoch_at w r) (electing.epoch_at w (topmost w))) (le-ltb (electing.epoch_at w r) (electing.epoch_at w (topmost w)) (let a = epoch_is r mine in let b = epoch_is (topmost w) there in omega (arith, top))))
          (at_once (omega arith))

  vote_one : (k : ℕ) (w : World) → k < n → Peon q r k → Candidate w → Stands k w → Plays Us (electing.votes q r k ∷ []) 1 (Turned (Peon q r) Candidate Votes Stands k w) w
  vote_one k w lt peon V z =
      let Z : Is (IsCandidate c (odd_from (e0 k)) (only k)) w k = z.0 in
      let L : Leads (only r) w = V.leads in
      let H = L.holds in
      let A : Calls r E w = V.calls in
      let there : has q k ≡ true = peon.0 in
      let mine_not : r ≡ k → ⊥ = (λ e. peon.1 (sym e)) in
      step Us (electing.votes q r k) (Hears k r kind.Propose ∷ []) (chosen _ _ (electing.is_other q r k) (other_is q r k there peon.1))
      (does_weaker Us (omega arith) after
      (deliver Us w V.room k (lt_of k there) there (Defers ms several c k (lt_of k there) (shared_entries (w.store k)) (G.clock.event w) r E) (letter n r E (body.Propose A.table)) (A.sent_to k lt peon.1) Z.state Z.up
      (defers ms several c k (lt_of k there) (shared_entries (w.store k)) (G.clock.event w) (readings_at w k) Z.state (odd_from (e0 k)) (only k) Z.holds r E (M.below r mine) mine_not (K.before k there peon.1) A.table A.fits A.full H.odd (let x = H.room in omega arith) (K.greatest k lt there))))
    where
      after : (v : World) → On w v → Did Us (Defers ms several c k (lt_of k peon.0) (shared_entries (w.store k)) (G.clock.event w) r E) w k v → Turned (Peon q r) Candidate Votes Stands k w v
      after v o D = record {
        keeps = record {
          room = o.sane V.room;
          leads = is_stays (IsCandidate c E (only r)) w v r (D.moved.others r (λ e. peon.1 (sym e))) V.leads;
          calls = probing.calls_stay G r E w v o V.calls;
        };
        done = (let R = D.did in (is_now Us (IsVoter c E) w v k D.y D.moved R.stands, D.moved.says r (letter n k E body.Ack) R.says));
        others = λ f ne a. (votes_stay w v f o (D.moved.others f ne), probing.stands_stay G w v f o (D.moved.others f ne));
      }

  pub vote_all : (w : World) → Voted 0 w → Plays Us (electing.each n (electing.votes q r)) (1 * n) (Voted n) w
  vote_all w V = each_in_turn (Peon q r) Candidate Votes Stands Us n 1 (electing.votes q r) (peon_or_not q r) (λ k w none V. otherwise _ _ (electing.is_other q r k) (not_peon q r k none)) vote_one w V

  -- ---- it counts the votes

  -- it leads this quorum, and sent its members VICTORY and COLLECT
  pub record Won (w : World) : Type 0 where
    pub quorum : List Bool
    pub self : has quorum r ≡ true
    pub within : (f : ℕ) → has quorum f ≡ true → has q f ≡ true
    pub major : is_majority n quorum ≡ true
    pub pn : ℕ
    pub first : ℕ
    pub last : ℕ
    pub stands : Is (IsCollector c r (suc E) quorum pn first last) w r
    pub asks : Collects quorum pn first last w
    pub odd : is_even E ≡ false
    pub short : suc E ≤ 2 ^ 62
    pub told : Victories quorum w

  pub record Counts (k : ℕ) (w : World) : Type 0 where
    pub acked_by : List Bool
    pub long : length acked_by ≡ 15
    pub self : has acked_by r ≡ true
    pub within : (f : ℕ) → has acked_by f ≡ true → has q f ≡ true
    pub counted : (f : ℕ) → f < k → has q f ≡ true → has acked_by f ≡ true
    pub leads : Leads acked_by w

  pub record Counting (k : ℕ) (w : World) : Type 0 where
    pub room : Room w
    pub votes : (f : ℕ) → has q f ≡ true → (f ≡ r → ⊥) → Votes f w
    pub hub : Won w ⊎ Counts k w

  pub voted_counting : (w : World) → Voted n w → Counting 0 w
  voted_counting w V = record {
    room = (let Z = V.keeps in Z.room);
    votes = λ f h ne. V.done f (M.below f h) (h, ne);
    hub = inr (record {
      acked_by = only r;
      long = length-set no_ranks r true;
      self = has_only r (let l = M.below r mine in let m = ms.most in omega arith);
      within = λ f h. subst (λ (x : ℕ). has q x ≡ true) (sym (has_only_is r f h)) mine;
      counted = λ f low h. absurd (omega arith);
      leads = (let Z = V.keeps in Z.leads);
    });
  }

  -- its phase, before and after it won
  leads_in : (w : World) (a : List Bool) (L : Leads a w) → electing.is_in w r phase.Electing ≡ true
  leads_in w a L = let H = L.holds in in_phase w r L.state phase.Electing phase.Electing L.up H.phase

  won_in : (w : World) (W : Won w) → electing.is_in w r phase.Electing ≡ false
  won_in w W = let Z = W.stands in let H = Z.holds in in_phase w r Z.state phase.Collecting phase.Electing Z.up H.phase

  abbrev is_counted : ℕ → World → Bool
  is_counted k w = electing.is_other q r k && electing.is_in w r phase.Electing

  pub count_one : (k : ℕ) (w : World) → k < n → Counting k w → Plays Us (electing.counts q r k ∷ []) 1 (Counting (suc k)) w
  count_one k w lt V = by V.hub
    where
      stays : (is_counted k w) ≡ false → Won w ⊎ Counts (suc k) w → Plays Us (electing.counts q r k ∷ []) 1 (Counting (suc k)) w
      stays out h = passes Us (electing.counts q r k) (otherwise _ _ (is_counted k w) out) (record { room = V.room; votes = V.votes; hub = h })

      skips : electing.is_other q r k ≡ false → (C : Counts k w) → (has q k ≡ true → has C.acked_by k ≡ true) → Plays Us (electing.counts q r k ∷ []) 1 (Counting (suc k)) w
      skips out C in_it = stays (λ i. out i && electing.is_in w r phase.Electing) (inr (record {
        acked_by = C.acked_by;
        long = C.long;
        self = C.self;
        within = C.within;
        counted = covers_one q C.acked_by k in_it C.counted;
        leads = C.leads;
      }))

      goes : (C : Counts k w) → (there : has q k ≡ true) → (k ≡ r → ⊥) → Plays Us (electing.counts q r k ∷ []) 1 (Counting (suc k)) w
      goes C there other =
          let L : Leads C.acked_by w = C.leads in
          step Us (electing.counts q r k) (Hears r k kind.Ack ∷ []) (chosen _ _ (is_counted k w) (λ i. other_is q r k there other i && leads_in w C.acked_by C.leads i))
          (does_weaker Us (omega arith) after
          (deliver Us w V.room r (lt_of r mine) mine Either (letter n k E body.Ack) ((V.votes k there other).1) L.state L.up
          (acked ms several c r (lt_of r mine) (shared_entries (w.store r)) (G.clock.event w) (readings_at w r) L.state E C.acked_by L.holds (λ m h. M.below m (C.within m h)) k lt other)))
        where
          Either : Course → Type 0
          Either y = IsCandidate c E (with_rank C.acked_by k) y.readings y.state ⊎ ((is_majority n (with_rank C.acked_by k) ≡ true) × Reigns ms several c r (lt_of r mine) (shared_entries (w.store r)) (G.clock.event w) E (with_rank C.acked_by k) y)

          in_q : (f : ℕ) → has (with_rank C.acked_by k) f ≡ true → has q f ≡ true
          in_q f h = elim (has_with_is C.acked_by k f h) [ inl e ↦ subst (λ (x : ℕ). has q x ≡ true) (sym e) there | inr o ↦ C.within f o ]

          after : (v : World) → On w v → Did Us Either w r v → Counting (suc k) v
          after v o D = record { room = o.sane V.room; votes = λ f h ne. votes_stay w v f o (D.moved.others f ne) (V.votes f h ne); hub = hub D.did }
            where
              hub : Either D.y → Won v ⊎ Counts (suc k) v
              hub (inl S) = inr (record {
                acked_by = with_rank C.acked_by k;
                long = length-set C.acked_by k true ∙ C.long;
                self = has_with C.acked_by k r C.self;
                within = in_q;
                counted = covers_with q C.acked_by k (let z = C.long in let m = lt in let s = ms.most in omega arith) C.counted;
                leads = is_now Us (IsCandidate c E (with_rank C.acked_by k)) w v r D.y D.moved S;
              })
              hub (inr S) = inl (let R = S.1 in let L : Leads C.acked_by w = C.leads in let H = L.holds in record {
                quorum = with_rank C.acked_by k;
                self = has_with C.acked_by k r C.self;
                within = in_q;
                major = S.0;
                pn = R.pn;
                first = D.y.readings.first;
                last = D.y.readings.last;
                stands = is_now Us (IsCollector c r (suc E) (with_rank C.acked_by k) R.pn D.y.readings.first D.y.readings.last) w v r D.y D.moved R.stands;
                asks = λ g low h ne. D.moved.says g (letter n r (suc E) (body.Collect R.pn D.y.readings.first D.y.readings.last)) (R.asks g low h ne);
                odd = H.odd;
                short = R.short;
                told = λ g low h ne. D.moved.says g (letter n r (suc E) (body.Victory (with_rank C.acked_by k))) (R.says g low h ne);
              })

      by : Won w ⊎ Counts k w → Plays Us (electing.counts q r k ∷ []) 1 (Counting (suc k)) w
      by (inl W) = stays (and_false (electing.is_other q r k) (electing.is_in w r phase.Electing) (won_in w W)) (inl W)
      by (inr C) = elim (in_or_out (has q k)) [
        | inr out ↦ skips (outside_is q r k out) C (λ h. absurd (false≢true (sym out ∙ h)))
        | inl there ↦ elim (same_or_not k r) [ inl e ↦ skips (itself_is q r k e) C (λ _. subst (λ (x : ℕ). has C.acked_by x ≡ true) (sym e) C.self) | inr other ↦ goes C there other ]
      ]

  -- its time is over, unless all of the map voted for it
  pub record Elected (w : World) : Type 0 where
    pub room : Room w
    pub votes : (f : ℕ) → has q f ≡ true → (f ≡ r → ⊥) → Votes f w
    pub won : Won w

  pub count_end : (w : World) → Counting n w → Plays Us (electing.ends r ∷ []) 1 Elected w
  count_end w V = by V.hub
    where
      goes : Counts n w → Plays Us (electing.ends r ∷ []) 1 Elected w
      goes C =
          let L : Leads C.acked_by w = C.leads in
          step Us (electing.ends r) (Rings r timer.Election ∷ []) (chosen _ _ (electing.is_in w r phase.Electing) (leads_in w C.acked_by C.leads))
          (does_weaker Us (omega arith) after
          (ring Us w V.room r (lt_of r mine) mine (Reigns ms several c r (lt_of r mine) (shared_entries (w.store r)) (G.clock.event w) E C.acked_by) timer.Election L.state L.up
          (ends ms several c r (lt_of r mine) (shared_entries (w.store r)) (G.clock.event w) (readings_at w r) L.state E C.acked_by L.holds K.may_lead (λ m h. M.below m (C.within m h)) major)))
        where
          major : is_majority n C.acked_by ≡ true
          major =
              let more = count_more q C.acked_by (λ f h. C.counted f (M.below f h) h) in
              let all = ltb-true n (2 * count_of q) M.major in
              lt-ltb n (2 * count_of C.acked_by) (omega arith)

          after : (v : World) → On w v → Did Us (Reigns ms several c r (lt_of r mine) (shared_entries (w.store r)) (G.clock.event w) E C.acked_by) w r v → Elected v
          after v o D = let R = D.did in let L : Leads C.acked_by w = C.leads in let H = L.holds in record {
            room = o.sane V.room;
            votes = λ f h ne. votes_stay w v f o (D.moved.others f ne) (V.votes f h ne);
            won = record {
              quorum = C.acked_by;
              self = C.self;
              within = C.within;
              major = major;
              pn = R.pn;
              first = D.y.readings.first;
              last = D.y.readings.last;
              stands = is_now Us (IsCollector c r (suc E) C.acked_by R.pn D.y.readings.first D.y.readings.last) w v r D.y D.moved R.stands;
              asks = λ g low h ne. D.moved.says g (letter n r (suc E) (body.Collect R.pn D.y.readings.first D.y.readings.last)) (R.asks g low h ne);
              odd = H.odd;
              short = R.short;
              told = λ g low h ne. D.moved.says g (letter n r (suc E) (body.Victory C.acked_by)) (R.says g low h ne);
            };
          }

      by : Won w ⊎ Counts n w → Plays Us (electing.ends r ∷ []) 1 Elected w
      by (inl W) = passes Us (electing.ends r) (otherwise _ _ (electing.is_in w r phase.Electing) (won_in w W)) (record { room = V.room; votes = V.votes; won = W })
      by (inr C) = goes C

  -- ---- the others follow

  pub record Reigning (a : List Bool) (w : World) : Type 0 where
    pub room : Room w
    pub self : has a r ≡ true
    pub within : (f : ℕ) → has a f ≡ true → has q f ≡ true
    pub major : is_majority n a ≡ true
    pub pn : ℕ
    pub first : ℕ
    pub last : ℕ
    pub stands : Is (IsCollector c r (suc E) a pn first last) w r
    pub asks : Collects a pn first last w
    pub odd : is_even E ≡ false
    pub short : suc E ≤ 2 ^ 62
    pub told : Victories a w

  abbrev Follows : List Bool → ℕ → World → Type 0
  Follows a f w = Is (IsPeon c (suc E) r a) w f

  abbrev Voter : ℕ → World → Type 0
  Voter f w = Is (IsVoter c E) w f

  -- those below k follow it, and the others are still in the election
  abbrev pub Following : List Bool → ℕ → World → Type 0
  Following a = InTurn (Peon a r) (Reigning a) (Follows a) Voter

  pub won_following : (w : World) (L : Elected w) → (let W = L.won in Following W.quorum 0 w)
  won_following w L = let W = L.won in at_first (Peon W.quorum r) (Reigning W.quorum) (Follows W.quorum) Voter w (record {
    room = L.room;
    self = W.self;
    within = W.within;
    major = W.major;
    pn = W.pn;
    first = W.first;
    last = W.last;
    stands = W.stands;
    asks = W.asks;
    odd = W.odd;
    short = W.short;
    told = W.told;
  }) (λ f peon. (L.votes f (W.within f peon.0) peon.1).0)

  abbrev is_member : ℕ → World → Bool
  is_member k w = electing.is_other (electing.quorum_at w r) r k

  module _ (a : List Bool) where
    members : (w : World) (V : Reigning a w) (k : ℕ) {b : Bool} → electing.is_other a r k ≡ b → is_member k w ≡ b
    members w V k e = ap (λ (x : List Bool). electing.is_other x r k) (let Z = V.stands in let H = Z.holds in quorum_is w r Z.state a Z.up H.quorum) ∙ e

    follow_one : (k : ℕ) (w : World) → k < n → Peon a r k → Reigning a w → Voter k w → Plays Us (electing.follows r k ∷ []) 1 (Turned (Peon a r) (Reigning a) (Follows a) Voter k w) w
    follow_one k w lt peon V Z =
        step Us (electing.follows r k) (Hears k r kind.Victory ∷ []) (chosen _ _ (is_member k w) (members w V k (other_is a r k peon.0 peon.1)))
        (does_weaker Us (omega arith) after
        (deliver Us w V.room k (lt_of k (V.within k peon.0)) (V.within k peon.0) (λ y. IsPeon c (suc E) r a y.readings y.state) (letter n r (suc E) (body.Victory a)) (V.told k lt peon.0 peon.1) Z.state Z.up
        (follows ms several c k (lt_of k (V.within k peon.0)) (shared_entries (w.store k)) (G.clock.event w) (readings_at w k) Z.state E Z.holds V.odd V.short r a (λ e. peon.1 (sym e)) peon.0 V.self V.major)))
      where
        after : (v : World) → On w v → Did Us (λ y. IsPeon c (suc E) r a y.readings y.state) w k v → Turned (Peon a r) (Reigning a) (Follows a) Voter k w v
        after v o D = record {
          keeps = record {
            room = o.sane V.room;
            self = V.self;
            within = V.within;
            major = V.major;
            pn = V.pn;
            first = V.first;
            last = V.last;
            stands = is_stays (IsCollector c r (suc E) a V.pn V.first V.last) w v r (D.moved.others r (λ e. peon.1 (sym e))) V.stands;
            asks = λ g low h ne. new_stays Us o (V.asks g low h ne);
            odd = V.odd;
            short = V.short;
            told = λ g low h ne. new_stays Us o (V.told g low h ne);
          };
          done = is_now Us (IsPeon c (suc E) r a) w v k D.y D.moved D.did;
          others = λ f ne b. (is_stays (IsPeon c (suc E) r a) w v f (D.moved.others f ne), is_stays (IsVoter c E) w v f (D.moved.others f ne));
        }

    pub follow_all : (w : World) → Following a 0 w → Plays Us (electing.each n (electing.follows r)) (1 * n) (Following a n) w
    follow_all w F = each_in_turn (Peon a r) (Reigning a) (Follows a) Voter Us n 1 (electing.follows r) (peon_or_not a r) (λ k w none V. otherwise _ _ (is_member k w) (members w V k (not_peon a r k none))) follow_one w F
