-- A leader that just won asks its quorum, if all else that is under way is of the election, and all stores are near.
use Rattle.law_names.proofs.Runs.{Envelope, Monitors, message_at}
use Rattle.law_names.proofs.Table.{AllByRecursion, Found, Leader, Op, Readings, State, are_within, end_of, found_as, has, is_even, most_value, no_ranks, only, pending, pending_of, promise_of, readings_of, record_at, text}
use Rattle.log_model.proofs.Lists.{all_both, all_map}
use Rattle.mon_wire.specs.declared.body.Body.TheVariants as body
use Rattle.mon_wire.specs.declared.phase.Timer.TheVariants as timer
use Rattle.quorum_stays.proofs.Carrying.{carries_append}
use Rattle.quorum_stays.proofs.Onward.{pack, unpack}
use Rattle.quorum_stays.specs.Steady.{Carries, IsAside, IsOfCommand, IsOfElections, Reign, item}
use Rattle.quorum_timed.specs.Begins.{IsQuick}
use Rattle.quorum_timed.specs.Timed.{Owed, Pace, Timed}
use Rattle.quorum_walk.proofs.Ranks.{has_only, has_only_is, within_at}
use Rattle.std.proofs.Common.{Bool, IsSomeAnd, List, None, Option, Some, [], ap, arith, cond, eqb, false, inl, inr, length, option_map, refl, subst, suc, sym, true, ℕ, ◌*◌, ◌++◌, ◌+◌, ◌<◌, ◌^◌, ◌∙◌, ◌∷◌, ◌≡◌, ◌≤◌}
use Rattle.std.proofs.lemmas.Bool.{eqb-true}
use Rattle.std.proofs.lemmas.List.{length-set}
use Rattle.timed_election.proofs.Lists.{opened}
use Rattle.timed_election.specs.Election.{BeginsToCollect, CanElect, Defers, Election, IsOfElection, IsTold, IsWon, TakesPart, reign_of}
use Rattle.timed_failover.proofs.CollectKeeps.{asides}
use Rattle.timed_failover.specs.Collecting.{CanLearn, Collects, Electing, IsAsked, IsStocked, IsWhole, Query, Questioned, StillElects, answer_to}

-- sets with the same ranks are the same
same_ranks : (a b : List Bool) → length a ≡ length b → ((i : ℕ) → has a i ≡ has b i) → a ≡ b
same_ranks [] [] size same = refl
same_ranks [] (y ∷ ys) size same = absurd (omega arith)
same_ranks (x ∷ xs) [] size same = absurd (omega arith)
same_ranks (x ∷ xs) (y ∷ ys) size same = let rest = same_ranks xs ys (omega arith) (λ i. same (suc i)) in let here : x ≡ y = same 0 in (λ i. here i ∷ rest i)

-- a pending value is that of the next version
pending_next : (w : Readings) (f : Found) → pending w ≡ Some f → f.version ≡ suc w.last
unfolding pending_of
pending_next w f e = by (eqb w.pending_v (suc w.last)) refl e
  where
    found : (v : ℕ) (o : Option (List Op)) → option_map (λ short. record { version = v; pn = w.pending_pn; value = short }) o ≡ Some f → f.version ≡ v
    found v None k = absurd cc
    found v (Some value) k = let same : record { version = v; pn = w.pending_pn; value = value } ≡ f = cc in sym (ap (λ (g : Found). g.version) same)

    by : (b : Bool) → eqb w.pending_v (suc w.last) ≡ b → cond b (found_as w.pending_v w.pending_pn (record_at w.record_of (suc w.last))) None ≡ Some f → f.version ≡ suc w.last
    by true t k = found w.pending_v _ k ∙ eqb-true w.pending_v (suc w.last) t
    by false t k = absurd cc

module _ (ms : Monitors) (q : List Bool) (pace : Pace) (quick : IsQuick pace) (E : Election) (t : Timed) (W : IsWon ms q pace E t) (C : CanElect ms q E.best) (odd : is_even E.epoch ≡ false) (together : E.by ≤ E.from + 3 * pace.delay)
    (soon : t.time ≤ E.by + 5000 + pace.late) (since : pace.since ≤ t.time) (ranks : length q ≡ 15) (second : ℕ) (second_in : has q second ≡ true) (second_is : second ≡ E.best → ⊥)
    (votes : (f i : ℕ) → has q f ≡ true → has q i ≡ true → AllByRecursion (λ o. IsSomeAnd (message_at t.world.messages o.number) (λ m. m.message.epoch ≤ E.epoch → IsOfElections m.message.body)) (t.under_way f i))
    (version : ℕ) (value : List Op) (fits : suc (suc version) ≤ 2 ^ 62) (made : 0 < version → IsOfCommand value × (length (text value) ≤ most_value))
    (stocked : (i : ℕ) → has q i ≡ true → IsStocked version value (readings_of (t.world.store i))) (learns : CanLearn version value (readings_of (t.world.store E.best)))
    (low : (i : ℕ) → has q i ≡ true → (i ≡ E.best → ⊥) → promise_of (readings_of (t.world.store i)) < W.pn)
    (whole : (i : ℕ) → has q i ≡ true → (i ≡ E.best → ⊥) → IsWhole (answer_to ms.count W.pn (readings_of (t.world.store E.best)).last (readings_of (t.world.store i)))) where
  abbrev w : Readings
  w = readings_of (t.world.store E.best)

  abbrev pub query : Query
  query = record { election = E; won = t.time; pn = W.pn; first = w.first; last = w.last; version = version; value = value }

  abbrev R : Reign
  R = reign_of E W.pn

  quorum_is : W.quorum ≡ q
  quorum_is = same_ranks W.quorum q (W.ranks ∙ sym ranks) W.members

  own : IsStocked version value w
  own = stocked E.best C.member

  few : E.best < 15
  few = let z = C.members E.best C.member in let m = ms.most in omega arith

  -- ---- what is under way

  old_aside : (f j : ℕ) (o : Owed) → IsOfElection E t.world.messages f j (t.time + pace.delay) o × IsSomeAnd (message_at t.world.messages o.number) (λ m. m.message.epoch ≤ E.epoch → IsOfElections m.message.body)
      → (o.by ≤ t.time + pace.delay) × IsAside R.epoch t.world.messages f j o
  old_aside f j o k =
      let O : IsOfElection E t.world.messages f j (t.time + pace.delay) o = k.0 in
      let v = opened (λ (m : Envelope). m.message.epoch ≤ E.epoch → IsOfElections m.message.body) (message_at t.world.messages o.number) k.1 in
      let same : v.0 ≡ O.envelope = (let two : Some v.0 ≡ Some O.envelope = sym v.1 ∙ O.there in cc) in
      let body_of : O.envelope.message.epoch ≤ E.epoch → IsOfElections O.envelope.message.body = subst (λ (m : Envelope). m.message.epoch ≤ E.epoch → IsOfElections m.message.body) same v.2 in
      (O.in_time, record { envelope = O.envelope; there = O.there; receiver = O.receiver; aside = inr (record { sender = O.sender; before = (let z = O.epoch in omega arith); elects = body_of O.epoch }) })

  all_aside : (f j : ℕ) (os : List Owed) → AllByRecursion (IsOfElection E t.world.messages f j (t.time + pace.delay)) os
      → AllByRecursion (λ o. IsSomeAnd (message_at t.world.messages o.number) (λ m. m.message.epoch ≤ E.epoch → IsOfElections m.message.body)) os → Carries ms R t.world.messages f j (t.time + pace.delay) [] os
  all_aside f j os a b = asides ms q pace query t.world.messages f j (t.time + pace.delay) os
      (all_map (λ o. IsOfElection E t.world.messages f j (t.time + pace.delay) o × IsSomeAnd (message_at t.world.messages o.number) (λ m. m.message.epoch ≤ E.epoch → IsOfElections m.message.body))
      (λ o. (o.by ≤ t.time + pace.delay) × IsAside R.epoch t.world.messages f j o) (old_aside f j) os
      (all_both (IsOfElection E t.world.messages f j (t.time + pace.delay)) (λ o. IsSomeAnd (message_at t.world.messages o.number) (λ m. m.message.epoch ≤ E.epoch → IsOfElections m.message.body)) os a b))

  first_part : (P : Owed → Type 0) (xs ys : List Owed) → AllByRecursion P (xs ++ ys) → AllByRecursion P xs
  first_part P [] ys k = tt
  first_part P (o ∷ xs) ys k = (k.0, first_part P xs ys k.1)

  told_so : (j : ℕ) → has q j ≡ true → (j ≡ E.best → ⊥)
      → Carries ms R t.world.messages E.best j (t.time + pace.delay) (item (body.Victory q) (t.time + pace.delay) ∷ item (body.Collect W.pn w.first w.last) (t.time + pace.delay) ∷ []) (t.under_way E.best j)
  told_so j qj nj =
      let T : IsTold ms E W.quorum W.pn w t.world.messages j (t.time + pace.delay) (t.under_way E.best j) = W.told j qj nj in
      subst (Carries ms R t.world.messages E.best j (t.time + pace.delay) (item (body.Victory q) (t.time + pace.delay) ∷ item (body.Collect W.pn w.first w.last) (t.time + pace.delay) ∷ [])) (sym T.parts)
      (carries_append ms R E.best j t.world.messages (t.time + pace.delay) [] (item (body.Victory q) (t.time + pace.delay) ∷ item (body.Collect W.pn w.first w.last) (t.time + pace.delay) ∷ []) T.earlier T.later (omega arith)
      (all_aside E.best j T.earlier T.of_election (first_part (λ o. IsSomeAnd (message_at t.world.messages o.number) (λ m. m.message.epoch ≤ E.epoch → IsOfElections m.message.body)) T.earlier T.later
      (subst (AllByRecursion (λ o. IsSomeAnd (message_at t.world.messages o.number) (λ m. m.message.epoch ≤ E.epoch → IsOfElections m.message.body))) T.parts (votes E.best j C.member qj))))
      (subst (λ (z : List Bool). Carries ms R t.world.messages E.best j (t.time + pace.delay) (item (body.Victory z) (t.time + pace.delay) ∷ item (body.Collect W.pn w.first w.last) (t.time + pace.delay) ∷ []) T.later) quorum_is T.tells))

  -- ---- the leader

  lead_so : (s : State) → BeginsToCollect E.best W.quorum W.pn (t.time + pace.clock E.best) w s → Collects ms.count q query (t.time + pace.clock E.best) w s
  lead_so s B = record {
    collects = B.collects;
    quorum = ap (λ (l : Leader). l.quorum) B.leader_is ∙ quorum_is;
    number = ap (λ (l : Leader). l.pn) B.leader_is;
    ranks = ap (λ (l : Leader). length l.answered) B.leader_is ∙ length-set no_ranks E.best true;
    long = ap (λ (l : Leader). length l.lasts) B.leader_is;
    own = ap (λ (l : Leader). has l.answered E.best) B.leader_is ∙ has_only E.best few;
    more = ap (λ (l : Leader). are_within ms.count q l.answered) B.leader_is ∙ fewer (are_within ms.count q (only E.best)) refl;
    found = λ f is. (let there = sym (ap (λ (l : Leader). l.found) B.leader_is) ∙ is in (own.made f there, (let z = pending_next w f there in omega arith)));
    kinds = B.kinds;
    only = λ kind end on. (let k = B.timers kind end on in let e = k.1 in inr (k.0, omega arith));
  }
    where
      fewer : (b : Bool) → are_within ms.count q (only E.best) ≡ b → b ≡ false
      fewer false e = refl
      fewer true e = absurd (second_is (has_only_is E.best second (within_at ms.count q (only E.best) second e (C.members second second_in) second_in)))

  -- ---- the others

  still_elects : (i : ℕ) (s : State) → TakesPart q pace E i s × Defers q pace E t.time i s → StillElects q pace query i s
  still_elects i s k =
      let P : TakesPart q pace E i s = k.0 in record {
        elects = P.elects;
        kinds = P.kinds;
        only = P.only;
        acks = P.acks;
        stands = λ stands end on. elim k.1 [
          | inl d ↦ absurd (let clash : false ≡ true = sym d.0 ∙ stands in cc)
          | inr l ↦ (let o = opened (λ (z : ℕ). E.from + pace.clock i + 10000 ≤ z) (end_of timer.Election s.timers) l.1 in
              let same : o.0 ≡ end = (let two : Some o.0 ≡ Some end = sym o.1 ∙ on in cc) in
              let late = o.2 in let a = quick.elections in omega arith)
        ];
      }

  unset : (i : ℕ) → (i ≡ E.best → ⊥) → (b : Bool) → has (only E.best) i ≡ b → b ≡ false
  unset i ni false e = refl
  unset i ni true e = absurd (ni (has_only_is E.best i e))

  questioned : (i : ℕ) → has q i ≡ true → (i ≡ E.best → ⊥)
      → Questioned ms q pace query t.world.messages t.time i (t.world.state i) (t.world.state E.best) w (readings_of (t.world.store i)) (t.under_way E.best i) (t.under_way i E.best)
  questioned i qi ni =
      let O = W.others i qi ni in
      let s = unpack (λ (s : State). TakesPart q pace E i s × Defers q pace E t.time i s) (t.world.state i) O.0 in
      let l = unpack (BeginsToCollect E.best W.quorum W.pn (t.time + pace.clock E.best) w) (t.world.state E.best) W.leads in record {
        progress = Electing;
        is_as = pack (StillElects q pace query i) (t.world.state i) s.0 s.1 (still_elects i s.0 s.2);
        keeps = (O.1, low i qi ni);
        stocked = stocked i qi;
        whole = whole i qi ni;
        noted = pack (λ (z : State). has z.leader.answered i ≡ false) (t.world.state E.best) l.0 l.1 (ap (λ (z : Leader). has z.answered i) (l.2).leader_is ∙ unset i ni (has (only E.best) i) refl);
        to_come = told_so i qi ni;
        to_take = all_aside i E.best (t.under_way i E.best) (W.apart i E.best qi C.member (λ _. refl)) (votes i E.best qi C.member);
      }

  pub asked : IsAsked ms q pace query t
  asked = record {
    can = C;
    odd = odd;
    second = second;
    second_in = second_in;
    second_is = second_is;
    ranks = ranks;
    short = W.short;
    fits = fits;
    room = W.fits;
    early = own.low;
    close = elim own.near [ inl k ↦ (let z = k.0 in omega arith) | inr k ↦ (let z = k.0 in omega arith) ];
    since = since;
    begun = omega arith;
    after = W.begun;
    made = made;
    epoch = W.epoch;
    promise = W.promise;
    near = own.near;
    learns = learns;
    grown = omega arith;
    lead = (let l = unpack (BeginsToCollect E.best W.quorum W.pn (t.time + pace.clock E.best) w) (t.world.state E.best) W.leads in pack (Collects ms.count q query (t.time + pace.clock E.best) w) (t.world.state E.best) l.0 l.1 (lead_so l.0 l.2));
    others = questioned;
    apart = λ f i qf qi a. all_aside f i (t.under_way f i) (W.apart f i qf qi a.0) (votes f i qf qi);
  }
