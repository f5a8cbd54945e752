-- A leader asks a member what it accepted, and hears the answer.
use Rattle.law_names.proofs.Runs.{Monitors, World}
use Rattle.law_names.proofs.Table.{Body, Course, Entry, Learn, Op, Readings, are_within, has, most_value, no_ranks, only, play, record_at, shared_entries, text, with_rank}
use Rattle.log_model.proofs.Records.{IsVersion}
use Rattle.mon_msg.specs.declared.plan.Sent.TheVariants as send
use Rattle.mon_wire.specs.declared.body.Body.TheVariants as body
use Rattle.mon_wire.specs.declared.kind.Kind.TheVariants as kind
use Rattle.mon_wire.specs.declared.phase.Phase.TheVariants as phase
use Rattle.quorum_elects.proofs.Can.{New, Onward, Sane, Scope, new_stays, reached_holds}
use Rattle.quorum_elects.proofs.Majorities.{Majority, scope}
use Rattle.quorum_elects.proofs.Moving.{Did}
use Rattle.quorum_elects.proofs.Planning.{Does, does_then, does_weaker}
use Rattle.quorum_elects.proofs.Ranks.{same_or_not}
use Rattle.quorum_elects.proofs.Standing.{Is, letter}
use Rattle.quorum_elects.proofs.Steps.{deliver, is_now, is_stays}
use Rattle.quorum_elects.specs.Plans as plans
use Rattle.quorum_laws.specs.Accepting.{readings_at}
use Rattle.quorum_near.proofs.Whole.{Holds}
use Rattle.quorum_recovers.proofs.CollectRows.{Asks, Hears, Matches, Settles, asked, drop_none, hears_again, hears_more, hears_same}
use Rattle.quorum_recovers.proofs.Known.{IsThere, learned_there, low_of, message_fine, message_tells, value_there}
use Rattle.quorum_recovers.proofs.LastAnswers.{IsAnswer}
use Rattle.quorum_recovers.proofs.States.{IsActive, IsAsking, IsHearing, IsProposing}
use Rattle.quorum_recovers.proofs.Terms as terms
use Rattle.quorum_recovers.proofs.Terms.{Term}
use Rattle.quorum_walk.proofs.FineCourses.{Val}
use Rattle.quorum_walk.proofs.Lists.{Among}
use Rattle.quorum_walk.proofs.Ranks.{has_only, has_only_is, has_with, has_with_is, within_at}
use Rattle.std.proofs.Common.{Bool, List, None, Some, [], ap, arith, drop, false, inl, inr, length, ltb, max, refl, subst, suc, sym, true, zero, ℕ, ◌*◌, ◌+◌, ◌-◌, ◌<◌, ◌^◌, ◌∙◌, ◌∷◌, ◌≡◌, ◌≤◌, ◌⊎◌}
use Rattle.std.proofs.lemmas.Bool.{cases_lt, false≢true, le-ltb, lt-ltb}
use Rattle.std.proofs.lemmas.List.{length-set}

module _ (G : Majority) (Q : Term G) where
  abbrev ms : Monitors
  ms = G.ms

  abbrev n : ℕ
  n = G.ms.count

  abbrev several : 1 < n
  several = G.several

  abbrev q : List Bool
  q = G.q

  abbrev Us : Scope
  Us = scope G

  abbrev sent : ℕ
  sent = length G.from.messages

  abbrev c : ℕ
  c = G.c

  abbrev r : ℕ
  r = Q.r

  abbrev e : ℕ
  e = Q.e

  abbrev a : List Bool
  a = Q.a

  abbrev mine : has a r ≡ true
  mine = Q.mine

  abbrev within : (f : ℕ) → has a f ≡ true → has q f ≡ true
  within = Q.within

  abbrev T : ℕ → ℕ
  T = Q.T

  abbrev On : World → World → Type 0
  On w v = Onward Us w v

  abbrev Mail : ℕ → ℕ → Body → World → Type 0
  Mail f g b w = New sent w (record { to = g; message = letter n f e b })

  below : (f : ℕ) → has a f ≡ true → f < n
  below f h = terms.below G Q f h

  lt_of : (f : ℕ) → has a f ≡ true → ltb f n ≡ true
  lt_of f h = lt-ltb f n (below f h)

  -- a world in which they may go on, with its laws
  pub record Fit (w : World) : Type 0 where
    pub room : Sane Us w
    pub holds : Holds ms several w
    pub log : c ≤ length w.log

  pub fit_on : (R : Course → Type 0) (w v : World) (i : ℕ) → On w v → Did Us R w i v → Fit w → Fit v
  fit_on R w v i o D F =
      let S : Sane Us v = o.sane F.room in
      record { room = S; holds = reached_holds ms several v S.reached; log = (let z = F.log in let y = (o.log_prefix).short in omega arith) }

  -- ---- one is asked

  pub record Answered (f l p : ℕ) (w v : World) : Type 0 where
    pub fit : Fit v
    pub stands : Is (IsHearing r e a (T f) p) v f
    pub others : (j : ℕ) → (j ≡ f → ⊥) → (v.state j ≡ w.state j) × (v.store j ≡ w.store j)
    pub first : ℕ
    pub low : (first ≤ 1) ⊎ (first + 501 ≤ T f)
    pub tells : Body
    pub answer : IsAnswer tells p first (T f) (suc l)
    pub mail : Mail f r tells v

  pub ask_one : (w : World) → Fit w → (f : ℕ) (h : has a f ≡ true) → (f ≡ r → ⊥) → (p : ℕ) → Is (IsHearing r e a (T f) p) w f → (pn first l : ℕ) → pn ≤ 2 ^ 62 → first ≤ suc (T f) → T f ≤ suc l → l ≤ c → Mail r f (body.Collect pn first l) w
      → Does Us (plans.Hears f r kind.Collect ∷ []) 1 (Answered f l (max p pn) w) w
  ask_one w F f h ne p P pn first l short kept high low_l mail =
      does_weaker Us (omega arith) after
      (deliver Us w F.room f (lt_of f h) (within f h) (Matches ms several f (lt_of f h) (shared_entries (w.store f)) (G.clock.event w) r e a (T f) (max p pn) (readings_at w f).first (suc l)) (letter n r e (body.Collect pn first l)) mail P.state P.up
      (asked ms several f (lt_of f h) (shared_entries (w.store f)) (G.clock.event w) (readings_at w f) P.state r e a (T f) p H (λ z. ne (sym z)) pn first l short (terms.version_room G Q l (omega arith)) (le-ltb (suc (readings_at w f).last) first (let z = H.last in omega arith)) (let z = H.last in omega arith) known))
    where
      H : IsHearing r e a (T f) p (readings_at w f) P.state
      H = P.holds

      low : ((readings_at w f).first ≤ 1) ⊎ ((readings_at w f).first + 501 ≤ (readings_at w f).last)
      low = low_of ms several w F.holds f (below f h) H.unmarked

      known : (readings_at w f).last ≡ suc l → (readings_at w f).first ≤ suc l × ((x : List Op) × (record_at (readings_at w f).record_of (suc l) ≡ Some x) × (length (text x) ≤ most_value))
      known is = let t = value_there ms several w F.holds f (below f h) H.unmarked l is in ((elim low [ inl few ↦ (omega arith) | inr far ↦ (omega arith) ]), (t.value, t.is, (let V = t.fine in V.short)))

      after : (v : World) → On w v → Did Us (Matches ms several f (lt_of f h) (shared_entries (w.store f)) (G.clock.event w) r e a (T f) (max p pn) (readings_at w f).first (suc l)) w f v → Answered f l (max p pn) w v
      after v o D = let R = D.did in record {
        fit = fit_on (Matches ms several f (lt_of f h) (shared_entries (w.store f)) (G.clock.event w) r e a (T f) (max p pn) (readings_at w f).first (suc l)) w v f o D F;
        stands = is_now Us (IsHearing r e a (T f) (max p pn)) w v f D.y D.moved R.stands;
        others = D.moved.others;
        first = (readings_at w f).first;
        low = elim low [ inl few ↦ inl few | inr far ↦ inr (let z = H.last in omega arith) ];
        tells = R.tells;
        answer = R.answer;
        mail = D.moved.says r (letter n f e R.tells) R.says;
      }

  -- ---- the leader asks

  -- The leader had la versions when it asked, and has l now. Those of A answered. No peon promised more than pn, the
  -- number under which the leader asks.
  pub record Asking (A : List Bool) (la : ℕ) (w : World) : Type 0 where
    pub pn : ℕ
    pub room : pn + 200 * (suc c - la) ≤ 2 ^ 62
    pub l : ℕ
    pub first : ℕ
    pub hub : Is (IsAsking r e a l pn A T) w r
    pub asks : (g : ℕ) → g < n → has a g ≡ true → (g ≡ r → ⊥) → Mail r g (body.Collect pn first la) w
    pub kept : (g : ℕ) → has a g ≡ true → first ≤ suc (T g)
    pub above : la ≤ l
    pub near : l ≤ suc la
    pub under : l ≤ c
    pub least : c ≤ suc la
    pub told : (f : ℕ) → has a f ≡ true → has A f ≡ true → T f ≤ l
    pub peons : (f : ℕ) → has a f ≡ true → (f ≡ r → ⊥) → (p : ℕ) × Is (IsHearing r e a (T f) p) w f × (p ≤ pn) × (has A f ≡ true → p ≡ pn)
    pub unheard : are_within n a A ≡ false
    pub self : has A r ≡ true
    pub long : length A ≡ 15

  -- the leader asks anew: nobody else answered yet, and no member has more versions than it
  pub record Fresh (w : World) : Type 0 where
    pub la : ℕ
    pub asking : Asking (only r) la w
    pub all : (f : ℕ) → has a f ≡ true → T f ≤ la

  abbrev pub Goes : (l pn : ℕ) → World → Type 0
  Goes l pn w = Is (IsActive r e a l pn) w r ⊎ ((value : List Op) × Is (IsProposing phase.Previous r e a l pn (only r) value None) w r × ((g : ℕ) → g < n → has a g ≡ true → (g ≡ r → ⊥) → Mail r g (body.Begin pn (suc l) value) w))

  -- It heard all of its quorum. Members that lack its last version get it, and a value that was found is proposed.
  pub record Settled (w : World) : Type 0 where
    pub l : ℕ
    pub pn : ℕ
    pub short : pn ≤ 2 ^ 62
    pub goes : Goes l pn w
    pub value : List Op
    pub fine : 1 ≤ l → Val value
    pub commits : (f : ℕ) → f < n → has a f ≡ true → (f ≡ r → ⊥) → T f < l → Mail r f (body.Commit l (value ∷ [])) w
    pub peons : (f : ℕ) → has a f ≡ true → (f ≡ r → ⊥) → Is (IsHearing r e a (T f) pn) w f
    pub top : (f : ℕ) → has a f ≡ true → T f ≤ l
    pub under : l ≤ c
    pub least : c ≤ suc l

  -- the version that the leader has, or any value if it has none
  own_value : (w : World) → Fit w → (l : ℕ) → (readings_at w r).marked ≡ false → (readings_at w r).last ≡ l → (v : List Op) × (1 ≤ l → (record_at (readings_at w r).record_of l ≡ Some v) × (length (text v) ≤ most_value)) × (1 ≤ l → Val v)
  own_value w F zero u is = ([], (λ some. absurd (omega arith)), (λ some. absurd (omega arith)))
  own_value w F (suc l) u is = let t = value_there ms several w F.holds r (below r mine) u l is in (t.value, (λ some. (t.is, (let V = t.fine in V.short))), (λ some. t.fine))

  -- after the answer of k
  pub record After (k la : ℕ) (A : List Bool) (v : World) : Type 0 where
    pub fit : Fit v
    pub comes : Settled v ⊎ (Asking (with_rank A k) la v ⊎ (Fresh v × (T k ≡ suc la)))

  module _ (k : ℕ) (there : has a k ≡ true) (other : k ≡ r → ⊥) (A : List Bool) (la : ℕ) (w : World) (F : Fit w) (X : Asking A la w) where
    abbrev p0 : ℕ
    p0 = (X.peons k there other).0

    P0 : Is (IsHearing r e a (T k) p0) w k
    P0 = (X.peons k there other).1

    high : T k ≤ suc la
    high = let z = Q.most k there in let y = X.least in omega arith

    Hub : Is (IsAsking r e a X.l X.pn A T) w r
    Hub = X.hub

    asks_it : Does Us (plans.Hears k r kind.Collect ∷ []) 1 (Answered k la (max p0 X.pn) w) w
    asks_it = ask_one w F k there other p0 P0 X.pn X.first la (let H = Hub.holds in H.short) (X.kept k there) high (let z = X.above in let y = X.under in omega arith) (X.asks k (below k there) there other)

    module _ (v : World) (o : On w v) (R : Answered k la (max p0 X.pn) w v) where
      promise_is : max p0 X.pn ≡ X.pn
      promise_is = let z = (X.peons k there other).2 in omega arith

      hub : Is (IsAsking r e a X.l X.pn A T) v r
      hub = is_stays (IsAsking r e a X.l X.pn A T) w v r (R.others r (λ z. other (sym z))) Hub

      Hv : IsAsking r e a X.l X.pn A T (readings_at v r) hub.state
      Hv = hub.holds

      peon_k : Is (IsHearing r e a (T k) X.pn) v k
      peon_k = subst (λ (z : ℕ). Is (IsHearing r e a (T k) z) v k) promise_is R.stands

      Ans : IsAnswer R.tells (max p0 X.pn) R.first (T k) (suc la)
      Ans = R.answer

      the_mail : Mail k r (body.Last (max p0 X.pn) R.first (T k) Ans.whole (suc la) Ans.values Ans.told) v
      the_mail = subst (λ (b : Body). Mail k r b v) Ans.is R.mail

      own : (x : List Op) × (1 ≤ X.l → (record_at (readings_at v r).record_of X.l ≡ Some x) × (length (text x) ≤ most_value)) × (1 ≤ X.l → Val x)
      own = own_value v R.fit X.l Hv.unmarked Hv.last

      number_room : X.pn + 114 ≤ 2 ^ 62
      number_room = let z = X.room in let y = X.above in let b = X.under in omega arith

      lag : (l : ℕ) → l ≤ c → (g : ℕ) → has a g ≡ true → l ≤ suc (T g)
      lag l le g h = let z = Q.least g h in omega arith

      -- what each peon promised
      peons_then : (u : World) → ((j : ℕ) → (j ≡ r → ⊥) → (u.state j ≡ v.state j) × (u.store j ≡ v.store j)) → (f : ℕ) → has a f ≡ true → (f ≡ r → ⊥) → (p : ℕ) × Is (IsHearing r e a (T f) p) u f × (p ≤ X.pn) × (has (with_rank A k) f ≡ true → p ≡ X.pn)
      peons_then u same f h ne = by (same_or_not f k)
        where
          by : (f ≡ k) ⊎ (f ≡ k → ⊥) → (p : ℕ) × Is (IsHearing r e a (T f) p) u f × (p ≤ X.pn) × (has (with_rank A k) f ≡ true → p ≡ X.pn)
          by (inl z) = (X.pn, is_stays (IsHearing r e a (T f) X.pn) v u f (same f ne) (subst (λ (x : ℕ). Is (IsHearing r e a (T x) X.pn) v x) (sym z) peon_k), (omega arith), (λ _. refl))
          by (inr nk) =
              let y = X.peons f h ne in
              (y.0, is_stays (IsHearing r e a (T f) y.0) v u f (same f ne) (is_stays (IsHearing r e a (T f) y.0) w v f (R.others f nk) y.1), y.2, (λ m. y.3 (elim (has_with_is A k f m) [ inl z ↦ absurd (nk z) | inr i ↦ i ])))

      settled_then : (R2 : Course → Type 0) (u : World) → On v u → (D : Did Us R2 v r u) → (l : ℕ) → X.l ≤ l → l ≤ c → T k ≤ l → (x : List Op) → (1 ≤ l → Val x) → Settles ms several r (lt_of r mine) (shared_entries (v.store r)) (G.clock.event v) e a l X.pn T x D.y
          → are_within n a (with_rank A k) ≡ true → Settled u
      settled_then R2 u o2 D l up le mine_low x fine S t = record {
        l = l;
        pn = X.pn;
        short = Hv.short;
        goes = goes S.goes;
        value = x;
        fine = fine;
        commits = λ f few h ne low. D.moved.says f (letter n r e (body.Commit l (x ∷ []))) (S.commits f few h ne low);
        peons = λ f h ne. (let y = peons_then u D.moved.others f h ne in subst (λ (p : ℕ). Is (IsHearing r e a (T f) p) u f) (y.3 (within_at n a (with_rank A k) f t (below f h) h)) y.1);
        top = λ f h. elim (has_with_is A k f (within_at n a (with_rank A k) f t (below f h) h)) [ inl z ↦ subst (λ (x : ℕ). T x ≤ l) (sym z) mine_low | inr i ↦ (let y = X.told f h i in omega arith) ];
        under = le;
        least = (let y = X.least in let z = X.above in omega arith);
      }
        where
          goes : (IsActive r e a l X.pn D.y.readings D.y.state ⊎ ((value : List Op) × IsProposing phase.Previous r e a l X.pn (only r) value None D.y.readings D.y.state × ((g : ℕ) → g < n → has a g ≡ true → (g ≡ r → ⊥) → Among (send.Message g (letter n r e (body.Begin X.pn (suc l) value))) D.y.out))) → Goes l X.pn u
          goes (inl G) = inl (is_now Us (IsActive r e a l X.pn) v u r D.y D.moved G)
          goes (inr G) = inr (G.0, is_now Us (IsProposing phase.Previous r e a l X.pn (only r) G.0 None) v u r D.y D.moved G.1, λ g few h ne. D.moved.says g (letter n r e (body.Begin X.pn (suc l) G.0)) (G.2 g few h ne))

      asking_then : (R2 : Course → Type 0) (u : World) → On v u → (D : Did Us R2 v r u) → (l : ℕ) → X.l ≤ l → l ≤ suc la → l ≤ c → T k ≤ l → IsAsking r e a l X.pn (with_rank A k) T D.y.readings D.y.state → are_within n a (with_rank A k) ≡ false → Asking (with_rank A k) la u
      asking_then R2 u o2 D l up near le low S t = record {
        pn = X.pn;
        room = X.room;
        l = l;
        first = X.first;
        hub = is_now Us (IsAsking r e a l X.pn (with_rank A k) T) v u r D.y D.moved S;
        asks = λ g few h ne. new_stays Us o2 (new_stays Us o (X.asks g few h ne));
        kept = X.kept;
        above = (let z = X.above in omega arith);
        near = near;
        under = le;
        least = X.least;
        told = λ f h i. elim (has_with_is A k f i) [ inl z ↦ subst (λ (x : ℕ). T x ≤ l) (sym z) low | inr j ↦ (let y = X.told f h j in omega arith) ];
        peons = peons_then u D.moved.others;
        unheard = t;
        self = has_with A k r X.self;
        long = length-set A k true ∙ X.long;
      }

      fresh_then : (R2 : Course → Type 0) (u : World) → On v u → (D : Did Us R2 v r u) → (l : ℕ) → l ≡ suc la → l ≤ c → T k ≡ suc la → Asks ms several r (lt_of r mine) (shared_entries (v.store r)) (G.clock.event v) e a l X.pn (X.pn + 114) T D.y → Fit u → Fresh u
      fresh_then R2 u o2 D l is le top S FU = record {
        la = l;
        asking = record {
          pn = S.pn;
          room = (let z = X.room in let y = S.low in omega arith);
          l = l;
          first = D.y.readings.first;
          hub = at;
          asks = λ g few h ne. D.moved.says g (letter n r e (body.Collect S.pn D.y.readings.first l)) (S.says g few h ne);
          kept = kept;
          above = omega arith;
          near = omega arith;
          under = le;
          least = (let z = X.least in omega arith);
          told = λ f h i. (let z = Q.most f h in let y = X.least in omega arith);
          peons = λ f h ne. (let y = peons_then u D.moved.others f h ne in let z = S.high in (y.0, y.1, (let low = y.2 in omega arith), (λ i. absurd (ne (has_only_is r f i)))));
          unheard = terms.only_open G Q;
          self = has_only r (terms.few_r G Q);
          long = length-set no_ranks r true;
        };
        all = λ f h. (let z = Q.most f h in let y = X.least in omega arith);
      }
        where
          at : Is (IsAsking r e a l S.pn (only r) T) u r
          at = is_now Us (IsAsking r e a l S.pn (only r) T) v u r D.y D.moved S.stands

          kept : (g : ℕ) → has a g ≡ true → D.y.readings.first ≤ suc (T g)
          kept g h = subst (λ (w : Readings). w.first ≤ suc (T g)) D.moved.reads (let H = at.holds in let z = Q.least g h in let y = H.last in elim (low_of ms several u FU.holds r (below r mine) H.unmarked) [ inl few ↦ (omega arith) | inr far ↦ (omega arith) ])

      -- the leader hears the answer
      hears_it : Does Us (plans.Hears r k kind.Last ∷ []) 1 (After k la A) v
      hears_it = by (cases_lt (T k) (suc la))
        where
          rank : ltb r n ≡ true
          rank = lt_of r mine

          sh : List Entry
          sh = shared_entries (v.store r)

          -- the versions that the peon keeps begin low enough
          kept : ltb (suc (readings_at v r).last) R.first ≡ false
          kept = let z = Hv.last in let y = X.above in le-ltb (suc (readings_at v r).last) R.first (elim R.low [ inl few ↦ (omega arith) | inr far ↦ (omega arith) ])

          same : (vs : List (List Op)) → drop (suc X.l - suc la) vs ≡ [] → (whole : Bool) → whole ≡ true → Mail k r (body.Last (max p0 X.pn) R.first (T k) whole (suc la) vs Ans.told) v → T k ≤ X.l → Does Us (plans.Hears r k kind.Last ∷ []) 1 (After k la A) v
          same vs none true z mail low =
              does_weaker Us (omega arith) after
              (deliver Us v (let F = R.fit in F.room) r rank (within r mine) (Hears ms several r rank sh (G.clock.event v) e a X.l X.pn (with_rank A k) T own.0) (letter n k e (body.Last (max p0 X.pn) R.first (T k) true (suc la) vs Ans.told)) mail hub.state hub.up
              (hears_same ms several r rank sh (G.clock.event v) (readings_at v r) hub.state e a X.l X.pn A T Hv (terms.not_alone G Q (lt_of r mine)) k (below k there) there other (terms.version_room G Q X.l (let z = X.under in omega arith)) (max p0 X.pn) R.first (T k) (suc la) vs Ans.told none promise_is refl low (lag X.l X.under) own.0 own.1))
            where
              after : (u : World) → On v u → Did Us (Hears ms several r rank sh (G.clock.event v) e a X.l X.pn (with_rank A k) T own.0) v r u → After k la A u
              after u o2 D = record { fit = fit_on (Hears ms several r rank sh (G.clock.event v) e a X.l X.pn (with_rank A k) T own.0) v u r o2 D R.fit; comes = go D.did }
                where
                  go : Hears ms several r rank sh (G.clock.event v) e a X.l X.pn (with_rank A k) T own.0 D.y → Settled u ⊎ (Asking (with_rank A k) la u ⊎ (Fresh u × (T k ≡ suc la)))
                  go (inl S) = inr (inl (asking_then (Hears ms several r rank sh (G.clock.event v) e a X.l X.pn (with_rank A k) T own.0) u o2 D X.l (omega arith) X.near X.under low S.0 S.1))
                  go (inr S) = inl (settled_then (Hears ms several r rank sh (G.clock.event v) e a X.l X.pn (with_rank A k) T own.0) u o2 D X.l (omega arith) X.under low own.0 own.2 S.0 S.1)
          same vs none false z mail low = absurd (false≢true z)

          again : (vs : List (List Op)) → drop (suc X.l - suc la) vs ≡ [] → (whole : Bool) → Mail k r (body.Last (max p0 X.pn) R.first (T k) whole (suc la) vs Ans.told) v → T k ≡ suc la → X.l ≡ suc la → Does Us (plans.Hears r k kind.Last ∷ []) 1 (After k la A) v
          again vs none true mail top is = same vs none true refl mail (omega arith)
          again vs none false mail top is =
              does_weaker Us (omega arith) after
              (deliver Us v (let F = R.fit in F.room) r rank (within r mine) (Asks ms several r rank sh (G.clock.event v) e a X.l X.pn (X.pn + 114) T) (letter n k e (body.Last (max p0 X.pn) R.first (T k) false (suc la) vs Ans.told)) mail hub.state hub.up
              (hears_again ms several r rank sh (G.clock.event v) (readings_at v r) hub.state e a X.l X.pn A T Hv (terms.not_alone G Q (lt_of r mine)) k there other (max p0 X.pn) R.first (T k) (suc la) vs Ans.told none promise_is (omega arith) (X.pn + 114) (omega arith) number_room))
            where
              after : (u : World) → On v u → Did Us (Asks ms several r rank sh (G.clock.event v) e a X.l X.pn (X.pn + 114) T) v r u → After k la A u
              after u o2 D =
                  let FU = fit_on (Asks ms several r rank sh (G.clock.event v) e a X.l X.pn (X.pn + 114) T) v u r o2 D R.fit in
                  record { fit = FU; comes = inr (inr (fresh_then (Asks ms several r rank sh (G.clock.event v) e a X.l X.pn (X.pn + 114) T) u o2 D X.l is X.under top D.did FU, top)) }

          more : (x : List Op) → Ans.values ≡ x ∷ [] → T k ≡ suc la → X.l ≡ la → Does Us (plans.Hears r k kind.Last ∷ []) 1 (After k la A) v
          more x one top is =
              does_weaker Us (omega arith) after
              (deliver Us v (let F = R.fit in F.room) r rank (within r mine) Goal (letter n k e (body.Last (max p0 X.pn) R.first (T k) Ans.whole (suc X.l) (x ∷ []) Ans.told)) mail hub.state hub.up
              (hears_more ms several r rank sh (G.clock.event v) (readings_at v r) hub.state e a X.l X.pn A T Hv (terms.not_alone G Q (lt_of r mine)) k (below k there) there other (max p0 X.pn) R.first (T k) Ans.whole x Ans.told promise_is refl (omega arith) (terms.version_room G Q (suc X.l) (let z = Q.most k there in omega arith)) fine_x kept
              (λ g h. (let z = Q.least g h in let y = Q.most k there in omega arith)) next.value next.is (let V = next.fine in V.short) (X.pn + 114) (omega arith) number_room))
            where
              mail : Mail k r (body.Last (max p0 X.pn) R.first (T k) Ans.whole (suc X.l) (x ∷ []) Ans.told) v
              mail = subst (λ (z : ℕ). Mail k r (body.Last (max p0 X.pn) R.first (T k) Ans.whole (suc z) (x ∷ []) Ans.told) v) (sym is) (subst (λ (vs : List (List Op)). Mail k r (body.Last (max p0 X.pn) R.first (T k) Ans.whole (suc la) vs Ans.told) v) one the_mail)

              fine_x : Val x
              fine_x = (message_fine ms several v (let F = R.fit in F.holds) mail).1.0.0

              told_x : IsVersion v.log (suc X.l) x
              told_x = (message_tells ms several v (let F = R.fit in F.holds) mail).1.0

              long_log : suc X.l ≤ length v.log
              long_log = let z = (message_tells ms several v (let F = R.fit in F.holds) mail).0 in omega arith

              next : IsThere (play (Learn (suc X.l) x) (readings_at v r)).record_of (suc X.l)
              next = learned_there ms several v (let F = R.fit in F.holds) r (below r mine) Hv.unmarked X.l Hv.last x told_x long_log

              Goal : Course → Type 0
              Goal y = Hears ms several r rank sh (G.clock.event v) e a (suc X.l) X.pn (with_rank A k) T next.value y ⊎ Asks ms several r rank sh (G.clock.event v) e a (suc X.l) X.pn (X.pn + 114) T y

              after : (u : World) → On v u → Did Us Goal v r u → After k la A u
              after u o2 D = record { fit = FU; comes = go D.did }
                where
                  FU : Fit u
                  FU = fit_on Goal v u r o2 D R.fit

                  le : suc X.l ≤ c
                  le = let z = Q.most k there in omega arith

                  go : Goal D.y → Settled u ⊎ (Asking (with_rank A k) la u ⊎ (Fresh u × (T k ≡ suc la)))
                  go (inl (inl S)) = inr (inl (asking_then Goal u o2 D (suc X.l) (omega arith) (omega arith) le (omega arith) S.0 S.1))
                  go (inl (inr S)) = inl (settled_then Goal u o2 D (suc X.l) (omega arith) le (omega arith) next.value (λ some. next.fine) S.0 S.1)
                  go (inr S) = inr (inr (fresh_then Goal u o2 D (suc X.l) (ap suc is) le top S FU, top))

          top_one : T k ≡ suc la → Does Us (plans.Hears r k kind.Last ∷ []) 1 (After k la A) v
          top_one top =
              let one = Ans.one top in
              elim (cases_lt la X.l) [
                | inl up ↦ (let is : X.l ≡ suc la = (let z = X.near in omega arith) in again (one.0 ∷ []) (ap (λ (z : ℕ). drop (z) (one.0 ∷ [])) (let z : suc X.l - suc la ≡ 1 = omega arith in z)) Ans.whole (subst (λ (vs : List (List Op)). Mail k r (body.Last (max p0 X.pn) R.first (T k) Ans.whole (suc la) vs Ans.told) v) one.1 the_mail) top is)
                | inr ge ↦ more one.0 one.1 top (let z = X.above in omega arith)
              ]

          by : (T k < suc la) ⊎ (suc la ≤ T k) → Does Us (plans.Hears r k kind.Last ∷ []) 1 (After k la A) v
          by (inl less) =
              let none = Ans.none less in
              same [] (drop_none ms several r rank sh (G.clock.event v) (suc X.l - suc la)) Ans.whole none.0 (subst (λ (vs : List (List Op)). Mail k r (body.Last (max p0 X.pn) R.first (T k) Ans.whole (suc la) vs Ans.told) v) none.1 the_mail) (let z = X.above in omega arith)
          by (inr ge) = top_one (let z = high in omega arith)

    pub answer_one : Does Us (plans.Hears k r kind.Collect ∷ plans.Hears r k kind.Last ∷ []) 2 (After k la A) w
    answer_one = does_then Us asks_it (λ v o R. hears_it v o R)
