-- What is shown and acknowledged in one epoch is in the order of its events, after every event of a run.
use Rattle.law_names.proofs.Runs.{Acknowledged, AllFit, Asked, Envelope, Event, Monitors, Plain, PlainFits, Replied, World, acknowledgements_of, first_world, happens, kept_only, last_of, lost, messages_of, moved, plain_of, put_at, replies_of, run, unmoved, with_asked}
use Rattle.law_names.proofs.Table.{AllByRecursion, Input, Readings, Sent, State, Store, apply, encoded, epoch_of, joined, reaction_of, readings_of, votes}
use Rattle.mon_msg.specs.declared.input.Input.TheVariants as input
use Rattle.mon_msg.specs.declared.plan.Sent.TheVariants as sent
use Rattle.mon_wire.specs.declared.phase.Phase.TheVariants as phase
use Rattle.quorum_agreement.proofs.Acknowledging.{NoShowSent}
use Rattle.quorum_agreement.proofs.Held.{Still, last_is, level_at}
use Rattle.quorum_agreement.proofs.Kept.{accepted_keeps}
use Rattle.quorum_agreement.proofs.SafeWorlds.{put_same}
use Rattle.quorum_answers.proofs.Epochs.{mark_goes, mark_now, sent_now, up_now}
use Rattle.quorum_answers.proofs.Marks.{Lasts, Mark, PhaseMark, Reads, SentMark, StateMark, leader_has, led_unmarked, mark_lasts, phase_lasts, reads, sent_lasts}
use Rattle.quorum_answers.proofs.Ordering.{AllPairs, Covered, Dated, NewRead, NewWrite, Ordered, ReadRead, ReadWrite, WriteWrite, all_there, ordered_then}
use Rattle.quorum_answers.proofs.Own as own
use Rattle.quorum_answers.proofs.Own.{IsBelow, IsHad, Onward, Quiet, answers_vote, member_votes, more_replies, same_replies}
use Rattle.quorum_answers.proofs.Replies.{shows_not}
use Rattle.quorum_answers.proofs.Saying.{has_answers}
use Rattle.quorum_answers.specs.Reads.{Shows}
use Rattle.quorum_history.proofs.History.{Ghost}
use Rattle.quorum_history.proofs.Holds.{core_of}
use Rattle.quorum_history.proofs.Numbers.{level_is}
use Rattle.quorum_laws.proofs.Beginning.{at_first}
use Rattle.quorum_laws.proofs.Events.{After, Does, Keeps, ToldOf, each_event, each_keeps}
use Rattle.quorum_laws.proofs.Invariant.{Further, InvOf, InvWith, further_trans}
use Rattle.quorum_laws.proofs.Later.{Later}
use Rattle.quorum_laws.proofs.Reading.{state_holds}
use Rattle.quorum_laws.specs.Accepting.{HasAccepted, readings_at}
use Rattle.quorum_model.proofs.Happening.{of_next, run_keeps}
use Rattle.quorum_walk.proofs.Lists.{Among, all_append, all_both, all_map}
use Rattle.quorum_walk.proofs.Sparing.{own_of}
use Rattle.std.proofs.Common.{Bool, IfOk, List, None, Some, [], ap, append-nil, arith, cond, eqb, false, inl, inr, ltb, refl, subst, suc, sym, true, ℕ, ◌<◌, ◌∙◌, ◌∷◌, ◌≡◌, ◌≤◌, ◌⊎◌}
use Rattle.std.proofs.lemmas.Bool.{cases_lt, cases_order, eqb-true, ltb-true}

abbrev pub ReadMarked : (n : ℕ) → World → Ghost → Replied → Type 0
ReadMarked n w g r = Shows r.reply → Mark n w g r.epoch r.last

abbrev pub WriteMarked : (n : ℕ) → World → Ghost → Acknowledged → Type 0
WriteMarked n w g a = Mark n w g a.what.epoch a.what.version

abbrev ReadLow : (e top : ℕ) → Replied → Type 0
ReadLow e top r = Shows r.reply → r.epoch ≡ e → r.last ≤ top

abbrev WriteLow : (e top : ℕ) → Acknowledged → Type 0
WriteLow e top a = a.what.epoch ≡ e → a.what.version ≤ top

-- each operation's version is a mark of its epoch
pub record Marked (n : ℕ) (w : World) (g : Ghost) : Type 0 where
  pub sent : AllByRecursion (SentMark n w g) w.messages
  pub up : (i : ℕ) (s : State) → w.state i ≡ Some s → StateMark n w g i s
  pub reads : AllByRecursion (ReadMarked n w g) w.replied
  pub writes : AllByRecursion (WriteMarked n w g) w.acknowledged

-- no mark of the epoch is above this version
covered_marks : (n : ℕ) (w : World) (g : Ghost) → Marked n w g → (e top : ℕ) → ((v : ℕ) → Mark n w g e v → v ≤ top) → Covered w e top
covered_marks n w g M e top low = record {
  reads = all_map (ReadMarked n w g) (ReadLow e top) (λ r k t q. low r.last (subst (λ (f : ℕ). Mark n w g f r.last) q (k t))) w.replied M.reads;
  writes = all_map (WriteMarked n w g) (WriteLow e top) (λ a k q. low a.what.version (subst (λ (f : ℕ). Mark n w g f a.what.version) q k)) w.acknowledged M.writes;
}

-- the only monitor has all
covered_alone : (n : ℕ) (w : World) → n ≤ 1 → Onward n w → (i e top : ℕ) → i < n → level_at w i ≡ top → Covered w e top
covered_alone n w few O i e top below level = record {
  reads = all_map (IsBelow n w) (ReadLow e top) (λ r k t q. let b = k.below in let h = k.last t in let same : r.rank ≡ i = omega arith in let l = subst (λ (j : ℕ). r.last ≤ level_at w j) same h in omega arith) w.replied O.replied;
  writes = all_map (IsHad n w) (WriteLow e top) (λ a k q. let b = k.below in let h = k.level in let same : k.rank ≡ i = omega arith in let l = subst (λ (j : ℕ). a.what.version ≤ level_at w j) same h in omega arith) w.acknowledged O.acknowledged;
}

dated : (n : ℕ) (w : World) → Onward n w → Dated w
dated n w O = record { replied = all_map (IsBelow n w) _ (λ r k. k.event) w.replied O.replied; acknowledged = all_map (IsHad n w) _ (λ a k. k.event) w.acknowledged O.acknowledged }

-- nothing is sent
module _ (n : ℕ) (w next : World) (g h : Ghost) (F : Further g h) (T : Later w next) (accepted : (i v pn : ℕ) (bytes : List ℕ) → HasAccepted w i v pn bytes → HasAccepted next i v pn bytes) (messages : next.messages ≡ w.messages)
    (replied : next.replied ≡ w.replied) (acknowledged : next.acknowledged ≡ w.acknowledged) (unchanged : (i : ℕ) (s : State) → next.state i ≡ Some s → (w.state i ≡ Some s) × (next.store i ≡ w.store i)) (M : Marked n w g) where
  lasts : Lasts n w next g h []
  lasts = record { further = F; later = T; accepted = accepted; messages = messages ∙ sym (append-nil w.messages); leases = λ e v rank led le. tt }

  silent : Marked n next h
  silent = record {
    sent = subst (AllByRecursion (SentMark n next h)) (sym messages) (all_map _ _ (sent_lasts n w next g h [] lasts) w.messages M.sent);
    up = λ i s e. let u = unchanged i s e in
        subst (λ (m : Store). PhaseMark n next h i (epoch_of (readings_of m)) (readings_of m).last s.peon.lease s.phase) (sym u.1)
        (phase_lasts n w next g h [] lasts i (epoch_of (readings_at w i)) (readings_at w i).last s.peon.lease s.phase tt (M.up i s u.0));
    reads = subst (AllByRecursion (ReadMarked n next h)) (sym replied) (all_map (ReadMarked n w g) (ReadMarked n next h) (λ r k t. mark_lasts n w next g h [] lasts r.epoch r.last (k t)) w.replied M.reads);
    writes = subst (AllByRecursion (WriteMarked n next h)) (sym acknowledged) (all_map (WriteMarked n w g) (WriteMarked n next h) (λ a k. mark_lasts n w next g h [] lasts a.what.epoch a.what.version k) w.acknowledged M.writes);
  }

ordered_same : (w next : World) → next.replied ≡ w.replied → next.acknowledged ≡ w.acknowledged → Ordered w → Ordered next
ordered_same w next r a O = record {
  reads = subst (λ (rs : List Replied). AllPairs ReadRead rs rs) (sym r) O.reads;
  writes = subst (λ (ws : List Acknowledged). AllPairs WriteWrite ws ws) (sym a) O.writes;
  mixed = subst (λ (rs : List Replied). AllPairs ReadWrite rs next.acknowledged) (sym r) (subst (AllPairs ReadWrite w.replied) (sym a) O.mixed);
}

-- ---- an event

module _ (ms : Monitors) where
  abbrev n : ℕ
  n = ms.count

  abbrev pub Holds : World → Type 0
  Holds w = (I : InvOf ms w) × Onward ms.count w × (1 < ms.count → Marked ms.count w I.g) × Ordered w

  module _ (w : World) (I : InvOf ms w) (O : Onward ms.count w) (M : 1 < ms.count → Marked ms.count w I.g) (R : Ordered w) (p : Plain) (J : InvWith ms w (with_asked p w.asked)) (up : Further I.g J.g) where
    abbrev asked : List Asked
    asked = with_asked p w.asked

    -- if there are several
    abbrev Way : Envelope → Type 0
    Way x = Quiet x × ((1 < ms.count → SentMark ms.count w I.g x) × Among x w.messages)

    K : Keeps ms w Way p J (After ms w (with_asked p w.asked) J)
    K = each_keeps ms w Way p J

    first_way : (rank : ℕ) (came : Input) → ToldOf Way rank came → ToldOf Quiet rank came
    first_way rank (input.Deliver e) t = t.0
    first_way rank other t = tt

    second_way : (several : 1 < ms.count) (rank : ℕ) (came : Input) → ToldOf Way rank came → ToldOf (λ x. SentMark ms.count w I.g x × Among x w.messages) rank came
    second_way several rank (input.Deliver e) t = (t.1.0 several, t.1.1)
    second_way several rank other t = tt

    down : (i j : ℕ) (m : Store) (s : State) → put_at w.state i None j ≡ Some s → (w.state j ≡ Some s) × (put_at w.store i m j ≡ w.store j)
    down i j m s e = by (eqb j i) e
      where
        by : (b : Bool) → cond b None (w.state j) ≡ Some s → (w.state j ≡ Some s) × (cond b m (w.store j) ≡ w.store j)
        by true q = absurd cc
        by false q = (q, refl)

    apart : (i j : ℕ) (m : Store) (t s : State) → (j ≡ i → ⊥) → put_at w.state i (Some t) j ≡ Some s → (w.state j ≡ Some s) × (put_at w.store i m j ≡ w.store j)
    apart i j m t s ne e = by (eqb j i) refl e
      where
        by : (b : Bool) → eqb j i ≡ b → cond b (Some t) (w.state j) ≡ Some s → (w.state j ≡ Some s) × (cond b m (w.store j) ≡ w.store j)
        by true a q = absurd (ne (eqb-true j i a))
        by false a q = (q, refl)

    nobody : (i j : ℕ) (s : State) → put_at w.state i None j ≡ Some s → Still s.phase s.leader
    nobody i j s e = O.still j s (down i j (w.store i) s e).0

    equal_or_not : (j i : ℕ) → (j ≡ i) ⊎ (j ≡ i → ⊥)
    equal_or_not j i = elim (cases_order j i) [ inl e ↦ inl e | inr o ↦ inr (λ e. elim o [ inl a ↦ (omega arith) | inr b ↦ (omega arith) ]) ]

    module _ (d : Does ms w Way (with_asked p w.asked) J) where
      abbrev q : Does ms w Quiet (with_asked p w.asked) J
      q = let a = d.by in record {
        by = record { rank = a.rank; lt = a.lt; at = a.at; state = a.state; remembers = a.remembers; came = a.came; on = a.on; fits = a.fits; holds = a.holds; fine = a.fine; told = first_way a.rank a.came a.told; noted = a.noted };
        y = d.y;
        is = d.is;
      }

      abbrev rank : ℕ
      rank = d.by.rank

      abbrev s : State
      s = d.by.state

      abbrev m : Store
      m = apply (joined (encoded d.y.changes)) (w.store d.by.rank)

      abbrev w0 : Readings
      w0 = readings_of (w.store d.by.rank)

      below : d.by.rank < ms.count
      below = ltb-true d.by.rank ms.count d.by.lt

      there : votes s.phase ≡ true → w.state rank ≡ Some s
      there t = own.voted ms w I O asked J q t

      -- whoever reads or commits has each operation of its epoch
      covers : votes s.phase ≡ true → ((several : 1 < ms.count) (v : ℕ) → Mark ms.count w I.g (epoch_of w0) v → v ≤ w0.last) → Covered w (epoch_of w0) w0.last
      covers t low = elim (cases_lt 1 ms.count) [
        | inl several ↦ covered_marks ms.count w I.g (M several) (epoch_of w0) w0.last (low several)
        | inr few ↦ covered_alone ms.count w few O rank (epoch_of w0) w0.last below (level_is (own_of w0) (own.unmarked ms w I O asked J q t))
      ]

      -- ---- what it shows

      module _ (S : own.Showing ms w I O asked J q) where
        votes_now : votes s.phase ≡ true
        votes_now = member_votes s.phase S.member

        reading : (several : 1 < ms.count) → Reads ms several w I rank s (there votes_now) d.by.at S.readable
        reading several = reads ms several w I rank s (there votes_now) d.by.at S.readable S.member (O.still rank s (there votes_now)) ((M several).up rank s (there votes_now))

        shown_last : last_of m ≡ w0.last
        shown_last = sym (last_is m) ∙ ap (λ (r : Readings). r.last) S.same_read

        shown_covers : Covered w (epoch_of (readings_of m)) w0.last
        shown_covers = subst (λ (r : Readings). Covered w (epoch_of r) w0.last) (sym S.same_read) (covers votes_now (λ several. (reading several).1))

      quiet_reads : (event : ℕ) (sends : List Sent) → AllByRecursion NoShowSent sends → AllByRecursion (NewRead w event w0.last) (replies_of event rank m sends)
      quiet_reads event [] k = tt
      quiet_reads event (sent.Message to x ∷ sends) k = quiet_reads event sends k.1
      quiet_reads event (sent.Reply t y ∷ sends) k = (record { event_is = refl; top_is = λ u. absurd (shows_not y k.0 u); covers = λ u. absurd (shows_not y k.0 u) }, quiet_reads event sends k.1)

      new_reads : (event : ℕ) → AllByRecursion (NewRead w event w0.last) (replies_of event rank m d.y.out)
      new_reads event = by (own.shows ms w I O asked J q)
        where
          by : AllByRecursion NoShowSent d.y.out ⊎ own.Showing ms w I O asked J q → AllByRecursion (NewRead w event w0.last) (replies_of event rank m d.y.out)
          by (inl k) = quiet_reads event d.y.out k
          by (inr S) = subst (λ (out : List Sent). AllByRecursion (NewRead w event w0.last) (replies_of event rank m out)) (sym S.out) (record { event_is = refl; top_is = λ u. shown_last S; covers = λ u. shown_covers S }, tt)

      -- ---- what it acknowledges

      module _ (event : ℕ) (A : own.Acking ms w I O asked J q event) where
        leads_now : votes s.phase ≡ true
        leads_now = answers_vote s.phase A.answered

        acked_covers : Covered w (epoch_of (readings_of m)) w0.last
        acked_covers = subst (λ (e : ℕ). Covered w e w0.last) (sym A.epoch) (covers leads_now (λ several v N. leader_has ms several w I rank s (there leads_now) s.phase A.answered (state_holds ms w I rank s (there leads_now)) v N))

      new_writes : (event : ℕ) → AllByRecursion (NewWrite w event) (acknowledgements_of event m d.y.state d.y.out)
      new_writes event = by (own.acking ms w I O asked J q event)
        where
          by : (acknowledgements_of event m d.y.state d.y.out ≡ []) ⊎ own.Acking ms w I O asked J q event → AllByRecursion (NewWrite w event) (acknowledgements_of event m d.y.state d.y.out)
          by (inl e) = subst (AllByRecursion (NewWrite w event)) (sym e) tt
          by (inr A) = subst (AllByRecursion (NewWrite w event)) (sym A.acks) (record { event_is = refl; before = w0.last; next = refl; covers = acked_covers event A }, tt)

      had_now : (next : World) (K : InvOf ms next) → next.store rank ≡ m → next.state rank ≡ Some d.y.state → AllByRecursion (IsHad ms.count next) (acknowledgements_of next.events m d.y.state d.y.out)
      had_now next K store state = by (own.acking ms w I O asked J q next.events)
        where
          by : (acknowledgements_of next.events m d.y.state d.y.out ≡ []) ⊎ own.Acking ms w I O asked J q next.events → AllByRecursion (IsHad ms.count next) (acknowledgements_of next.events m d.y.state d.y.out)
          by (inl e) = subst (AllByRecursion (IsHad ms.count next)) (sym e) tt
          by (inr A) = subst (AllByRecursion (IsHad ms.count next)) (sym A.acks) (
            record {
              event = omega arith;
              rank = rank;
              below = below;
              level = (
                  let u = led_unmarked ms.count K.g rank (core_of (own_of (readings_at next rank)) d.y.state) d.y.state.phase (ap has_answers A.active) (state_holds ms next K rank d.y.state state) in
                  let l : level_at next rank ≡ (readings_at next rank).last = level_is (own_of (readings_at next rank)) u in
                  let e : (readings_at next rank).last ≡ suc w0.last = ap (λ (z : Store). (readings_of z).last) store ∙ A.last in
                  omega arith);
            },
            tt,
          )

      -- ---- marks

      module _ (several : 1 < ms.count) (next : World) (A : After ms w (with_asked p w.asked) J next) (lasting : (e v : ℕ) → Mark ms.count w I.g e v → Mark ms.count next A.0.g e v) (marked : has_answers d.y.state.phase ≡ true → Mark ms.count next A.0.g (epoch_of (readings_at next rank)) (readings_at next rank).last) (store : next.store rank ≡ m) where
        abbrev ReadMark : Replied → Type 0
        ReadMark = ReadMarked ms.count next A.0.g

        abbrev WriteMark : Acknowledged → Type 0
        WriteMark = WriteMarked ms.count next A.0.g

        quiet_marks : (event : ℕ) (sends : List Sent) → AllByRecursion NoShowSent sends → AllByRecursion ReadMark (replies_of event rank m sends)
        quiet_marks event [] k = tt
        quiet_marks event (sent.Message to x ∷ sends) k = quiet_marks event sends k.1
        quiet_marks event (sent.Reply t y ∷ sends) k = ((λ u. absurd (shows_not y k.0 u)), quiet_marks event sends k.1)

        read_marks : (event : ℕ) → AllByRecursion ReadMark (replies_of event rank m d.y.out)
        read_marks event = by (own.shows ms w I O asked J q)
          where
            by : AllByRecursion NoShowSent d.y.out ⊎ own.Showing ms w I O asked J q → AllByRecursion ReadMark (replies_of event rank m d.y.out)
            by (inl k) = quiet_marks event d.y.out k
            by (inr S) = subst (λ (out : List Sent). AllByRecursion ReadMark (replies_of event rank m out)) (sym S.out)
                ((λ u. subst (Mark ms.count next A.0.g (epoch_of (readings_of m))) (sym (shown_last S)) (subst (λ (r : Readings). Mark ms.count next A.0.g (epoch_of r) w0.last) (sym S.same_read) (lasting (epoch_of w0) w0.last (reading S several).0))), tt)

        write_marks : (event : ℕ) → AllByRecursion WriteMark (acknowledgements_of event m d.y.state d.y.out)
        write_marks event = by (own.acking ms w I O asked J q event)
          where
            by : (acknowledgements_of event m d.y.state d.y.out ≡ []) ⊎ own.Acking ms w I O asked J q event → AllByRecursion WriteMark (acknowledgements_of event m d.y.state d.y.out)
            by (inl e) = subst (AllByRecursion WriteMark) (sym e) tt
            by (inr B) = subst (AllByRecursion WriteMark) (sym B.acks) (subst (Mark ms.count next A.0.g (epoch_of (readings_of m))) B.last (subst (λ (z : Store). Mark ms.count next A.0.g (epoch_of (readings_of z)) (readings_of z).last) store (marked (ap has_answers B.active))), tt)

      goes_on_holds : Holds (moved w p d.by.rank (reaction_of d.y))
      unfolding moved
      goes_on_holds =
          let next = moved w p d.by.rank (reaction_of d.y) in
          let A = K.goes_on d in
          let F = further_trans I.g J.g A.0.g up A.1 in
          let acc = accepted_keeps w.transactions d.by.rank (joined (encoded d.y.changes)) in
          let store = put_same w.store d.by.rank m in
          let state = put_same w.state d.by.rank (Some d.y.state) in
          let others = λ (i : ℕ) (z : State) (ne : i ≡ d.by.rank → ⊥) (e : put_at w.state d.by.rank (Some d.y.state) i ≡ Some z). apart d.by.rank i m d.y.state z ne e in
          let replies = replies_of (suc w.events) d.by.rank m d.y.out in
          let acks = acknowledgements_of (suc w.events) m d.y.state d.y.out in (
            A.0,
            more_replies ms.count w next d.by.rank below replies refl A.2 refl (own.new_replies ms w I O asked J q next store (suc w.events)) O (own.stills ms w I O asked J q) (all_append Quiet w.messages (messages_of d.y.out) O.quiet (own.quiet_out ms w I O asked J q)) acks refl (had_now next A.0 store state),
            (λ several.
                let N = M several in
                let way = second_way several d.by.rank d.by.came d.by.told in
                let lasting = mark_goes ms several w I asked J Way d up N.up way next A.0 A.1 F A.2 acc store state refl others in
                let marked = mark_now ms several w I asked J Way d up N.up way next A.0 A.1 F A.2 acc store state refl others in
                record {
                  sent = sent_now ms several w I asked J Way d up N.up way next A.0 A.1 F A.2 acc store state refl others N.sent;
                  up = λ i z e. up_now ms several w I asked J Way d up N.up way next A.0 A.1 F A.2 acc store state refl others i z e (equal_or_not i d.by.rank);
                  reads = all_append (ReadMarked ms.count next A.0.g) w.replied replies (all_map (ReadMarked ms.count w I.g) (ReadMarked ms.count next A.0.g) (λ r k t. lasting r.epoch r.last (k t)) w.replied N.reads) (read_marks several next A lasting marked store (suc w.events));
                  writes = all_append (WriteMarked ms.count next A.0.g) w.acknowledged acks (all_map (WriteMarked ms.count w I.g) (WriteMarked ms.count next A.0.g) (λ a k. lasting a.what.epoch a.what.version k) w.acknowledged N.writes) (write_marks several next A lasting marked store (suc w.events));
                }),
            ordered_then w next w0.last replies acks refl refl refl (new_reads (suc w.events)) (new_writes (suc w.events)) (dated ms.count w O) R,
          )

      goes_down_holds : Holds (kept_only w p d.by.rank (reaction_of d.y))
      unfolding kept_only
      goes_down_holds =
          let next = kept_only w p d.by.rank (reaction_of d.y) in
          let A = K.goes_down d in (
            A.0,
            same_replies ms.count w next (omega arith) A.2 (nobody d.by.rank) refl refl refl O,
            (λ several. silent ms.count w next I.g A.0.g (further_trans I.g J.g A.0.g up A.1) A.2 (accepted_keeps w.transactions d.by.rank (joined (encoded d.y.changes))) refl refl refl (λ i s e. down d.by.rank i m s e) (M several)),
            ordered_same w next refl refl R,
          )

    lost_holds : (i : ℕ) → ltb i ms.count ≡ true → Holds (lost w p i)
    unfolding lost
    lost_holds i lt =
        let next = lost w p i in
        let A = K.loses i lt in (
          A.0,
          same_replies ms.count w next (omega arith) A.2 (nobody i) refl refl refl O,
          (λ several. silent ms.count w next I.g A.0.g (further_trans I.g J.g A.0.g up A.1) A.2 (λ j v pn bytes a. a) refl refl refl (λ j s e. ((down i j (w.store i) s e).0, refl)) (M several)),
          ordered_same w next refl refl R,
        )

    nothing_holds : Holds (unmoved w p)
    unfolding unmoved
    nothing_holds =
        let next = unmoved w p in
        let A = K.nothing in (
          A.0,
          same_replies ms.count w next (omega arith) A.2 O.still refl refl refl O,
          (λ several. silent ms.count w next I.g A.0.g (further_trans I.g J.g A.0.g up A.1) A.2 (λ j v pn bytes a. a) refl refl refl (λ j s e. (e, refl)) (M several)),
          ordered_same w next refl refl R,
        )

    all_keep : Keeps ms w Way p J Holds
    all_keep = record { nothing = nothing_holds; loses = lost_holds; goes_on = goes_on_holds; goes_down = goes_down_holds }

  follows : (w : World) (e : Event) → PlainFits ms.count (plain_of e) → Holds w → IfOk (happens ms w e) Holds
  follows w e F h =
      let I = h.0 in
      let O = h.1 in
      let M = h.2 in
      each_event ms w (λ x. Quiet x × ((1 < ms.count → SentMark ms.count w I.g x) × Among x w.messages)) I Holds
      (all_both Quiet (λ x. (1 < ms.count → SentMark ms.count w I.g x) × Among x w.messages) w.messages O.quiet
      (all_both (λ x. 1 < ms.count → SentMark ms.count w I.g x) (λ x. Among x w.messages) w.messages (marked_messages w.messages (λ several. (M several).sent)) (all_there w.messages)))
      e F (λ J up. all_keep w I O M h.3 (plain_of e) J up)
    where
      marked_messages : (xs : List Envelope) → (1 < ms.count → AllByRecursion (SentMark ms.count w h.0.g) xs) → AllByRecursion (λ x. 1 < ms.count → SentMark ms.count w h.0.g x) xs
      marked_messages [] k = tt
      marked_messages (x ∷ xs) k = ((λ several. (k several).0), marked_messages xs (λ several. (k several).1))

  first : Holds first_world
  first = (at_first ms, record { still = λ i s e. absurd cc; quiet = tt; replied = tt; acknowledged = tt; order = tt }, (λ several. record { sent = tt; up = λ i s e. absurd cc; reads = tt; writes = tt }), record { reads = tt; writes = tt; mixed = tt })

  pub after_events : (events : List Event) → AllFit ms.count events → Holds (run ms events)
  after_events events F = run_keeps ms (λ e. PlainFits ms.count (plain_of e)) Holds (λ w e fits h next q. of_next Holds (happens ms w e) next q (follows w e fits h)) first_world events F first

  -- an active leader has each operation of its epoch
  pub leader_covers : (w : World) → Holds w → (i : ℕ) (s : State) → i < ms.count → w.state i ≡ Some s → s.phase ≡ phase.Active → Covered w (epoch_of (readings_at w i)) (readings_at w i).last
  leader_covers w h i s below up active =
      let I = h.0 in
      let P = state_holds ms w I i s up in
      let t : has_answers s.phase ≡ true = ap has_answers active in
      elim (cases_lt 1 ms.count) [
        | inl several ↦ covered_marks ms.count w I.g (h.2 several) (epoch_of (readings_at w i)) (readings_at w i).last (leader_has ms several w I i s up s.phase t P)
        | inr few ↦ covered_alone ms.count w few h.1 i (epoch_of (readings_at w i)) (readings_at w i).last below (level_is (own_of (readings_at w i)) (led_unmarked ms.count I.g i (core_of (own_of (readings_at w i)) s) s.phase t P))
      ]
