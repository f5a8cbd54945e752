-- The rows of an election that was won: VICTORY, COLLECT, and LAST up to the last one.
use Rattle.law_names.proofs.Table.{Course, Entry, Found, Me, Op, Phase, Promise, Readings, State, Timer, Which, all_answered, answer_of, armed, at_rest, better, counts, end_of, epoch_of, fits, hear_whole, is_complete, learn, longest, message_to, most_value, news_from, note, only_ping, pending, play, promise_of, record_at, run_from, run_of, same_phase, sent_values, settle, text, told_of, ◌>>=◌}
use Rattle.mon_msg.specs.Protocol.Elections.{follow}
use Rattle.mon_msg.specs.Protocol.Found.{is_newer}
use Rattle.mon_msg.specs.Protocol.Leader.{hear_answer, note_answer}
use Rattle.mon_wire.specs.declared.body.Body.TheVariants as body
use Rattle.mon_wire.specs.declared.phase.Phase.TheVariants as phase
use Rattle.mon_wire.specs.declared.phase.Timer.TheVariants as timer
use Rattle.quorum_elects.proofs.Values.{FoundShort, pending_short}
use Rattle.quorum_recovers.proofs.LastAnswers.{fits_one, run_one}
use Rattle.quorum_stays.proofs.Timers.{armed_size, ends, one_end, only_ping_is, same_kind_or, still_ends}
use Rattle.quorum_stays.specs.Steady.{FollowsSince}
use Rattle.quorum_timed.proofs.Armed.{Timers}
use Rattle.std.proofs.Common.{Bool, IsSomeAnd, List, None, Ok, Option, Result, Some, [], ap, arith, cond, drop, eqb, false, inl, inr, is_some, length, ltb, refl, subst, suc, sym, true, ℕ, ◌&&◌, ◌+◌, ◌-◌, ◌<◌, ◌^◌, ◌||◌, ◌∙◌, ◌∷◌, ◌≡◌, ◌≤◌}
use Rattle.std.proofs.lemmas.Bool.{and_parts, cond_both, eqb-true, false≢true, le-leb, le-ltb, lt-ltb, ltb-false, ltb-true, or_cases}
use Rattle.table_rows.proofs.Electing.{collect_row, last_row}
use Rattle.table_rows.proofs.Hearing.{IsLeader, IsMember, hears}
use Rattle.table_rows.proofs.Serving.{learned, learns_one}
use Rattle.timed_failover.specs.Collecting.{IsWhole, answer_to}

-- ---- VICTORY

-- it follows the sender, and its lease was armed now
module _ (now f at e : ℕ) (q : List Bool) (w : Readings) (s : State) (elects : s.phase ≡ phase.Electing) (only_one : (kind : Timer) (end : ℕ) → end_of kind s.timers ≡ Some end → kind ≡ timer.Election) (room : now + 10000 ≤ 2 ^ 62) (le : at ≤ now) where
  abbrev bare : Timers
  bare = cond (same_phase s.phase phase.Peon) s.timers (only_ping s.timers)

  bare_is : bare ≡ only_ping s.timers
  bare_is = ap (λ (p : Phase). cond (same_phase p phase.Peon) s.timers (only_ping s.timers)) elects

  bare_size : length bare ≡ 11
  bare_size = ap length bare_is ∙ refl

  pub follows_since : FollowsSince f q at ((follow now f e q (at_rest w s)).state)
  follows_since = record {
    follows = refl;
    leader_is = refl;
    quorum = refl;
    kinds = armed_size now timer.Lease bare bare_size;
    waits = λ end on. (let is = one_end (end_of timer.Lease (armed now timer.Lease bare)) end (now + 10000) on (ends now timer.Lease bare bare_size room) in omega arith);
    only = λ kind end on. elim (same_kind_or kind timer.Lease) [
      | inl same ↦ inl same
      | inr ne ↦ (let k = only_ping_is s.timers kind end (sym (ap (end_of kind) bare_is) ∙ sym (still_ends now kind timer.Lease bare ne) ∙ on) in
          absurd (let clash : timer.Ping ≡ timer.Election = only_one timer.Ping end k.1 in cc))
    ];
  }

-- ---- COLLECT

-- it promises the number, and answers
pub promises : (me : Me) (sh : _) (now : ℕ) (w : Readings) (s : State) (f e pn first last : ℕ) → IsLeader me w s f e → ltb (suc w.last) first ≡ false → suc last ≤ 2 ^ 62 → promise_of w < pn
    → hears me sh now w s f e (body.Collect pn first last) ≡ Ok (record {
      readings = play (Promise pn) w;
      changes = Promise pn ∷ [];
      state = record s { peon = record s.peon { lease = None } };
      out = message_to me (epoch_of w) (answer_to me.member.monitors pn last w) f ∷ [];
    })
promises me sh now w s f e pn first last L kept fits low = collect_row me sh now L pn first last kept fits ∙ rw (lt-ltb (promise_of w) pn low) refl

-- ---- the answer

-- what a whole answer says; `value` is that of the version after the leader's last one
pub record Says (n pn last : ℕ) (w : Readings) (value : List Op) : Type 0 where
  pub values : List (List Op)
  pub is : answer_to n pn last w ≡ body.Last pn w.first w.last true (suc last) values (told_of (pending w))
  pub none : w.last ≤ last → values ≡ []
  pub one : w.last ≡ suc last → values ≡ value ∷ []

-- the values of the versions after the leader's last one
abbrev sends : (n pn last : ℕ) → Readings → List (List Op)
sends n pn last w = sent_values n pn w.first w.last w.record_of (suc last)

pub says : (n pn last : ℕ) (w : Readings) (value : List Op) → IsWhole (answer_to n pn last w)
    → (w.last ≡ suc last → (w.first ≤ suc last) × (record_at w.record_of (suc last) ≡ Some value) × (length (text value) ≤ most_value)) → Says n pn last w value
unfolding answer_of
says n pn last w value whole known = by (is_complete n pn w.first w.last (suc last) (sends n pn last w) (told_of (pending w))) refl whole
  where
    none : w.last ≤ last → sends n pn last w ≡ []
    none le = rw (lt-ltb w.last (suc last) (omega arith)) refl

    one : w.last ≡ suc last → sends n pn last w ≡ value ∷ []
    one e =
        let k = known e in
        let count : suc w.last - suc last ≡ 1 = omega arith in
        let run : run_from w.record_of w.last (suc last) ≡ value ∷ [] = ap (λ (c : ℕ). run_of w.record_of c (suc last)) count ∙ run_one w.record_of (suc last) value k.1 in
        rw (le-ltb w.last (suc last) (omega arith), le-ltb (suc last) w.first k.0)
        (ap (longest (λ vs. fits n (body.Last pn w.first w.last false (suc last) vs None))) run ∙ ap (λ b. cond b (value ∷ []) []) (fits_one n pn w.first w.last (suc last) value k.2))

    by : (b : Bool) → is_complete n pn w.first w.last (suc last) (sends n pn last w) (told_of (pending w)) ≡ b
        → IsWhole (cond b (body.Last pn w.first w.last true (suc last) (sends n pn last w) (told_of (pending w))) (body.Last pn w.first w.last false (suc last) (sends n pn last w) None)) → Says n pn last w value
    by false e k = absurd (false≢true k)
    by true e k = record {
      values = sends n pn last w;
      is = ap (λ b. cond b (body.Last pn w.first w.last true (suc last) (sends n pn last w) (told_of (pending w))) (body.Last pn w.first w.last false (suc last) (sends n pn last w) None)) e;
      none = none;
      one = one;
    }

-- ---- what is found

-- a member of `last` versions has this pending, too
abbrev pub found_with : (last : ℕ) → Option Found → Option Found → Option Found
found_with last None found = found
found_with last (Some f) found = better found (record { version = suc last; pn = f.pn; value = f.value })

told_counts : (o : Option Found) → FoundShort o → counts (told_of o) ≡ told_of o
told_counts None k = refl
told_counts (Some f) k = rw (le-leb (length (text f.value)) most_value k) refl

-- what is found is as late as what was found before
pub found_later : (v last : ℕ) (o found : Option Found) → IsSomeAnd found (λ f. v ≤ f.version) → IsSomeAnd (found_with last o found) (λ f. v ≤ f.version)
found_later v last None found k = k
found_later v last (Some f) None k = absurd k
found_later v last (Some f) (Some g) k =
    cond_both (is_newer (suc last) f.pn (Some g)) (Some (record { version = suc last; pn = f.pn; value = f.value })) (Some g) (λ (o : Option Found). IsSomeAnd o (λ f. v ≤ f.version))
    (λ t. (let le : g.version ≤ suc last = (elim (or_cases (ltb g.version (suc last)) (eqb (suc last) g.version && ltb g.pn f.pn) t) [
      | inl l ↦ (let a = ltb-true g.version (suc last) l in omega arith)
      | inr e ↦ (let a = eqb-true (suc last) g.version (and_parts (eqb (suc last) g.version) (ltb g.pn f.pn) e).0 in omega arith)
    ]) in omega arith)) (λ _. k)

-- and as late as what the member has
pub found_there : (last : ℕ) (o found : Option Found) → is_some o ≡ true → IsSomeAnd (found_with last o found) (λ f. suc last ≤ f.version)
found_there last None found k = absurd (false≢true k)
found_there last (Some f) None k = omega arith
found_there last (Some f) (Some g) k =
    cond_both (is_newer (suc last) f.pn (Some g)) (Some (record { version = suc last; pn = f.pn; value = f.value })) (Some g) (λ (o : Option Found). IsSomeAnd o (λ f. suc last ≤ f.version))
    (λ _. (let le : suc last ≤ suc last = omega arith in le)) (λ t. not_newer (ltb g.version (suc last)) refl t)
  where
    not_newer : (b : Bool) → ltb g.version (suc last) ≡ b → (b || (eqb (suc last) g.version && ltb g.pn f.pn)) ≡ false → suc last ≤ g.version
    not_newer true e t = absurd (false≢true (sym t))
    not_newer false e t = ltb-false g.version (suc last) e

-- it is one of the two
pub found_either : (P : Found → Type 0) (last : ℕ) (o found : Option Found) → ((f : Found) → found ≡ Some f → P f) → ((f : Found) → o ≡ Some f → P (record { version = suc last; pn = f.pn; value = f.value }))
    → (g : Found) → found_with last o found ≡ Some g → P g
found_either P last None found old new g is = old g is
found_either P last (Some f) found old new g is =
    cond_both (is_newer (suc last) f.pn found) (Some (record { version = suc last; pn = f.pn; value = f.value })) found (λ (o : Option Found). o ≡ Some g → P g)
    (λ _ e. (let same : record { version = suc last; pn = f.pn; value = f.value } ≡ g = cc in subst P same (new f refl))) (λ _ e. old g e) is

-- ---- LAST

module _ (me : Me) (sh : List Entry) (now : ℕ) where
  -- the answer of f, which has `last` versions, is noted
  abbrev pub notes : (f last : ℕ) → Option Found → Course → Course
  notes f last o z = note_answer f last (found_with last o z.state.leader.found) z

  note_is : (f last : ℕ) (o : Option Found) (z : Course) → FoundShort o → suc last ≤ 2 ^ 62 → note f last (told_of o) z ≡ Ok (notes f last o z)
  note_is f last None z k fits = refl
  note_is f last (Some g) z k fits = rw (told_counts (Some g) k) (rw (le-leb (suc last) (2 ^ 62) fits) refl)

  -- the leader goes on if that was the last one
  abbrev pub after_note : Course → Result Course Which
  after_note z = cond (all_answered me z) (settle me now z) (Ok z)

  whole_is : (f last : ℕ) (o : Option Found) (z : Course) → FoundShort o → suc last ≤ 2 ^ 62 → hear_whole me now f last (told_of o) z ≡ after_note (notes f last o z)
  whole_is f last o z k fits = ap (λ r. r >>= λ y. cond (all_answered me y) (settle me now y) (Ok y)) (note_is f last o z k fits)

  module _ (w : Readings) (s : State) (f e pn last : ℕ) (v : Readings) (value : List Op) (M : IsMember me w s phase.Collecting f e) (number : pn ≡ s.leader.pn) (A : Says me.member.monitors pn last v value)
      (low : (ltb (suc w.last) v.first && ltb w.last v.last) ≡ false) (fits : suc v.last ≤ 2 ^ 62) where
    taken : hears me sh now w s f e (answer_to me.member.monitors pn last v) ≡ hear_answer me now f v.last true (suc last) A.values (told_of (pending v)) (at_rest w s)
    taken = ap (hears me sh now w s f e) A.is ∙ last_row me sh now M pn v.first v.last true (suc last) A.values (told_of (pending v)) number low

    -- nothing new is in it
    pub takes_old : drop (suc w.last - suc last) A.values ≡ [] → hears me sh now w s f e (answer_to me.member.monitors pn last v) ≡ after_note (notes f v.last (pending v) (at_rest w s))
    unfolding learn
    takes_old none =
        taken
        ∙ ap (λ (vs : List (List Op)). learn (news_from w.last (suc last)) vs (at_rest w s) >>= λ y. hear_whole me now f v.last (told_of (pending v)) y) none
        ∙ whole_is f v.last (pending v) (at_rest w s) (pending_short v) fits

    -- a version is learned from it
    pub takes_new : w.last ≡ last → v.last ≡ suc last → hears me sh now w s f e (answer_to me.member.monitors pn last v) ≡ after_note (notes f v.last (pending v) (learned (suc last) value (at_rest w s)))
    takes_new same next =
        let none : suc w.last - suc last ≡ 0 = omega arith in
        let first : news_from w.last (suc last) ≡ suc last = omega arith in
        taken
        ∙ ap (λ (vs : List (List Op)). learn (news_from w.last (suc last)) (drop (suc w.last - suc last) vs) (at_rest w s) >>= λ y. hear_whole me now f v.last (told_of (pending v)) y) (A.one next)
        ∙ ap (λ (k : ℕ). learn (news_from w.last (suc last)) (drop k (value ∷ [])) (at_rest w s) >>= λ y. hear_whole me now f v.last (told_of (pending v)) y) none
        ∙ ap (λ (k : ℕ). learn k (value ∷ []) (at_rest w s) >>= λ y. hear_whole me now f v.last (told_of (pending v)) y) first
        ∙ ap (λ (r : Result Course Which). r >>= λ y. hear_whole me now f v.last (told_of (pending v)) y) (learns_one (suc last) value (at_rest w s) (omega arith))
        ∙ whole_is f v.last (pending v) (learned (suc last) value (at_rest w s)) (pending_short v) fits
