-- What a new leader keeps and remembers after a LAST of a member.
use Rattle.law_names.proofs.Runs.{Monitors}
use Rattle.law_names.proofs.Table.{AllByRecursion, Change, Course, Entry, Fits, Found, Last, Learn, Me, Readings, State, Which, are_within, epoch_of, has, most_value, pending, play, played, promise_of, record_at, text, with_rank}
use Rattle.mon_wire.specs.declared.phase.Phase.TheVariants as phase
use Rattle.quorum_model.proofs.Members.{member_of}
use Rattle.quorum_recovers.proofs.States.{get_other, get_set}
use Rattle.quorum_stays.proofs.Stores.{learned_epoch, learned_promise}
use Rattle.quorum_stays.specs.Steady.{IsOfCommand}
use Rattle.quorum_timed.specs.Timed.{Pace}
use Rattle.quorum_walk.proofs.Ranks.{has_with, has_with_is}
use Rattle.std.proofs.Common.{Bool, List, Result, Some, [], ap, arith, drop, false, inl, inr, length, ltb, refl, subst, suc, sym, true, ℕ, ◌&&◌, ◌-◌, ◌<◌, ◌^◌, ◌∙◌, ◌∷◌, ◌≡◌, ◌≤◌}
use Rattle.std.proofs.Math.Seq.{drop-nil}
use Rattle.std.proofs.lemmas.Bool.{cases_order, false≢true, le-ltb}
use Rattle.std.proofs.lemmas.List.{get_or-set_same, length-set}
use Rattle.table_rows.proofs.Hearing.{IsMember, hears}
use Rattle.timed_failover.proofs.CollectRows.{Says, after_note, found_either, found_later, found_there, notes, says, takes_new, takes_old}
use Rattle.timed_failover.specs.Collecting.{CanLearn, Collects, Electing, Following, IsNear, IsNoted, IsStocked, IsWhole, Noted, Progress, Promised, Query, answer_to}

-- ---- the answer of a member

module _ (n : ℕ) (x : Query) (v : Readings) (stocked : IsStocked x.version x.value v) (close : x.version ≤ suc x.last) (made : 0 < x.version → IsOfCommand x.value × (length (text x.value) ≤ most_value)) where
  -- it has no version that no member accepted
  pub within : v.last ≤ x.version
  within = elim stocked.near [ inl k ↦ (let z = k.0 in omega arith) | inr k ↦ (let z = k.0 in omega arith) ]

  pub says_value : IsWhole (answer_to n x.pn x.last v) → Says n x.pn x.last v x.value
  says_value whole = says n x.pn x.last v x.value whole known
    where
      known : v.last ≡ suc x.last → (v.first ≤ suc x.last) × (record_at v.record_of (suc x.last) ≡ Some x.value) × (length (text x.value) ≤ most_value)
      known e = elim stocked.near [
        | inr k ↦ (let z = k.0 in absurd (omega arith))
        | inl k ↦ (let z = k.0 in let top : x.version ≡ suc x.last = omega arith in (
          elim stocked.low [ inl few ↦ omega arith | inr far ↦ omega arith ],
          subst (λ (c : ℕ). record_at v.record_of c ≡ Some x.value) top (k.1 (omega arith)),
          (made (omega arith)).1,
        ))
      ]

-- ---- what the leader learns

-- The leader's readings w before, and w2 after, with these changes: nothing, or the version that it lacked.
pub record Learns (x : Query) (v w w2 : Readings) (cs : List Change) : Type 0 where
  pub after : w2 ≡ played cs w
  pub fits : AllByRecursion Fits cs
  pub epoch : epoch_of w2 ≡ epoch_of w
  pub promise : promise_of w2 ≡ promise_of w
  pub near : IsNear x.version x.value w2
  pub learns : CanLearn x.version x.value w2
  pub grown : w.last ≤ w2.last
  pub more : v.last ≤ w2.last

module _ (ms : Monitors) (q : List Bool) (pace : Pace) (x : Query) (at : ℕ) (lt : ltb x.election.best ms.count ≡ true) (sh : List Entry) (now : ℕ) (w : Readings) (s : State) (K : Collects ms.count q x at w s)
    (epoch : epoch_of w ≡ suc x.election.epoch) (near : IsNear x.version x.value w) (can_learn : CanLearn x.version x.value w) (grown : x.last ≤ w.last) (close : x.version ≤ suc x.last) (room : suc (suc x.version) ≤ 2 ^ 62)
    (made : 0 < x.version → IsOfCommand x.value × (length (text x.value) ≤ most_value))
    (f : ℕ) (qf : has q f ≡ true) (nf : f ≡ x.election.best → ⊥) (few : f < ms.count) (v : Readings) (stocked : IsStocked x.version x.value v) (whole : IsWhole (answer_to ms.count x.pn x.last v)) where
  abbrev me : Me
  me = member_of ms x.election.best lt

  -- its phase is known
  abbrev pub collecting : State
  collecting = record s { phase = phase.Collecting }

  A : Says ms.count x.pn x.last v x.value
  A = says_value ms.count x v stocked close made whole

  in_log : v.last ≤ x.version
  in_log = within ms.count x v stocked close made

  own_in_log : w.last ≤ x.version
  own_in_log = elim near [ inl k ↦ (let z = k.0 in omega arith) | inr k ↦ (let z = k.0 in omega arith) ]

  M : IsMember me w collecting phase.Collecting f (suc x.election.epoch)
  M = record { other = nf; leads = refl; epoch = epoch; member = ap (λ (z : List Bool). has z f) K.quorum ∙ qf }

  low : (ltb (suc w.last) v.first && ltb w.last v.last) ≡ false
  low = ap (λ b. b && ltb w.last v.last) (le-ltb (suc w.last) v.first (elim stocked.low [ inl z ↦ (omega arith) | inr z ↦ (let k = in_log in omega arith) ]))

  -- what it does with the answer
  pub record Takes (r : Result Course Which) : Type 0 where
    pub readings : Readings
    pub changes : List Change
    pub learns : Learns x v w readings changes
    pub is : r ≡ after_note me sh now (notes me sh now f v.last (pending v) (record { readings = readings; changes = changes; state = collecting; out = [] }))

  old_taken : drop (suc w.last - suc x.last) A.values ≡ [] → v.last ≤ w.last → Takes (hears me sh now w collecting f (suc x.election.epoch) (answer_to ms.count x.pn x.last v))
  old_taken none le = record {
    readings = w;
    changes = [];
    learns = record { after = refl; fits = tt; epoch = refl; promise = refl; near = near; learns = can_learn; grown = omega arith; more = le };
    is = takes_old me sh now w collecting f (suc x.election.epoch) x.pn x.last v x.value M (sym K.number) A low (let k = in_log in omega arith) none;
  }

  new_taken : w.last ≡ x.last → v.last ≡ suc x.last → Takes (hears me sh now w collecting f (suc x.election.epoch) (answer_to ms.count x.pn x.last v))
  new_taken same next =
      let top : suc x.last ≡ x.version = (let k = in_log in omega arith) in
      let c = made (omega arith) in record {
        readings = played (Learn (suc x.last) x.value ∷ Last (suc x.last) ∷ []) w;
        changes = Learn (suc x.last) x.value ∷ Last (suc x.last) ∷ [];
        learns = record {
          after = refl;
          fits = (tt, ((let k = room in omega arith), tt));
          epoch = learned_epoch (suc x.last) x.value w c.0;
          promise = learned_promise (suc x.last) x.value w c.0;
          near = inl (top, λ _. subst (λ (z : ℕ). record_at (play (Learn z x.value) w).record_of x.version ≡ Some x.value) (sym top) (can_learn (let z = same in omega arith)));
          learns = λ e. absurd (omega arith);
          grown = (let z = same in omega arith);
          more = (let z = next in omega arith);
        };
        is = takes_new me sh now w collecting f (suc x.election.epoch) x.pn x.last v x.value M (sym K.number) A low (let k = in_log in omega arith) same next;
      }

  pub takes : Takes (hears me sh now w collecting f (suc x.election.epoch) (answer_to ms.count x.pn x.last v))
  takes = elim (cases_order v.last x.last) [
    | inl same ↦ older (omega arith)
    | inr o ↦ elim o [
      | inl less ↦ older (omega arith)
      | inr more ↦ (let next : v.last ≡ suc x.last = (let k = in_log in omega arith) in elim (cases_order w.last x.last) [
        | inl own ↦ new_taken own next
        | inr k ↦ elim k [
          | inl less ↦ absurd (omega arith)
          | inr has_it ↦ old_taken (let one : suc w.last - suc x.last ≡ 1 = (let k = own_in_log in omega arith) in ap (drop (suc w.last - suc x.last)) (A.one next) ∙ ap (λ (z : ℕ). drop z (x.value ∷ [])) one) (omega arith)
        ]
      ])
    ]
  ]
    where
      older : v.last ≤ x.last → Takes (hears me sh now w collecting f (suc x.election.epoch) (answer_to ms.count x.pn x.last v))
      older le = old_taken (ap (drop (suc w.last - suc x.last)) (A.none le) ∙ drop-nil (suc w.last - suc x.last)) (omega arith)

  -- ---- what it noted

  module _ (w2 : Readings) (cs : List Change) (G : Learns x v w w2 cs) where
    abbrev pub noted : State
    noted = (notes me sh now f v.last (pending v) (record { readings = w2; changes = cs; state = collecting; out = [] })).state

    pub found_fine : (g : Found) → noted.leader.found ≡ Some g → IsOfCommand g.value × (g.version ≤ suc w2.last)
    found_fine = found_either (λ g. IsOfCommand g.value × (g.version ≤ suc w2.last)) v.last (pending v) s.leader.found
        (λ g is. (let k = K.found g is in let z = k.1 in let l = G.grown in (k.0, omega arith)))
        (λ g is. (stocked.made g is, (let z = G.more in omega arith)))

    unset : (j : ℕ) → (j ≡ f → ⊥) → has s.leader.answered j ≡ false → has (with_rank s.leader.answered f) j ≡ false
    unset j ne k = by (has (with_rank s.leader.answered f) j) refl
      where
        by : (b : Bool) → has (with_rank s.leader.answered f) j ≡ b → b ≡ false
        by false e = refl
        by true e = elim (has_with_is s.leader.answered f j e) [ inl is ↦ absurd (ne is) | inr old ↦ absurd (false≢true (sym k ∙ old)) ]

    -- of the member that answered, and of the others
    pub notes_it : (p : Progress) → IsNoted ms.count pace x f w v p s → IsNoted ms.count pace x f w2 v Noted noted
    notes_it p k = (
      get_or-set_same s.leader.answered f true false (let z = K.ranks in let m = ms.most in omega arith),
      get_set s.leader.lasts f v.last (let z = K.long in let m = ms.most in omega arith),
      G.more,
      λ some. found_there v.last (pending v) s.leader.found some,
    )

    pub notes_others : (j : ℕ) → (j ≡ f → ⊥) → (z : Readings) (p : Progress) → IsNoted ms.count pace x j w z p s → IsNoted ms.count pace x j w2 z p noted
    notes_others j ne z Noted k = (
      has_with s.leader.answered f j k.0,
      get_other s.leader.lasts f j v.last ne ∙ k.1,
      (let a = k.2 in let b = G.grown in omega arith),
      λ some. found_later (suc z.last) v.last (pending v) s.leader.found (k.3 some),
    )
    notes_others j ne z Electing k = unset j ne k
    notes_others j ne z Following k = unset j ne k
    notes_others j ne z Promised k = unset j ne k

    -- not all answered
    pub still_collects : are_within ms.count q (with_rank s.leader.answered f) ≡ false → Collects ms.count q x at w2 noted
    still_collects more = record {
      collects = refl;
      quorum = K.quorum;
      number = K.number;
      ranks = length-set s.leader.answered f true ∙ K.ranks;
      long = length-set s.leader.lasts f v.last ∙ K.long;
      own = has_with s.leader.answered f x.election.best K.own;
      more = more;
      found = found_fine;
      kinds = K.kinds;
      only = K.only;
    }
