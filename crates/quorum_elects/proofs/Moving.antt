-- One event at one monitor, by what the table says of it.
use Rattle.calm_sizes.proofs.AnyRuns.{OnSomeLog, goes_on_then, goes_on_within, would_be}
use Rattle.calm_sizes.proofs.Stores.{ChangeShort, short_behind}
use Rattle.calm_sizes.specs.Sizes.{AllShort, OwnShort, longest}
use Rattle.law_names.proofs.Runs.{Arrives, Envelope, Plain, PlainFits, Reached, Reacts, Replied, World, arrival, grown, happens, is_marked, last_of, meeting, meeting_at, meets, messages_of, most_size, moved, records_after, replies_of, size_of, state_at}
use Rattle.law_names.proofs.Table.{AllByRecursion, Contains, Course, Fits, Input, Me, Message, Readings, Reply, Sent, Session, State, Store, Which, any_reaction, apply, encoded, epoch_of, has, joined, played, react, reaction_of, readings_of, shared_entries}
use Rattle.log_model.proofs.Logs.{IsPrefixOf, log_prefix_itself}
use Rattle.mon_msg.proofs.Changed.{readings-joined}
use Rattle.mon_msg.specs.declared.plan.Sent.TheVariants as send
use Rattle.quorum_elects.proofs.Can.{Can, New, Onward, Sane, Scope, new_added}
use Rattle.quorum_elects.proofs.Walking.{Surely}
use Rattle.quorum_elects.specs.Ways.{IsStep}
use Rattle.quorum_laws.specs.Accepting.{readings_at}
use Rattle.quorum_model.proofs.Continuing.{ran_one}
use Rattle.quorum_model.proofs.Members.{me_is, member_of}
use Rattle.quorum_model.proofs.Reached.{reached_next, world_is}
use Rattle.quorum_walk.proofs.Lists.{Among}
use Rattle.std.proofs.Common.{Bool, Err, List, Ok, Option, Result, Some, [], ap, arith, cond, eqb, false, inl, inr, length, ltb, refl, subst, suc, sym, true, ℕ, ◌++◌, ◌-◌, ◌∙◌, ◌∷◌, ◌≡◌, ◌≤◌}
use Rattle.std.proofs.lemmas.Bool.{cond_both, eq-eqb, false≢true, ne_eqb}
use Rattle.std.proofs.lemmas.List.Elements.{Contains-append_right}
use Rattle.std.proofs.lemmas.List.{get_or_append_left, length-append}

-- A sound course: its readings are those after its changes, its numbers fit, and it writes no long value. It leaves the
-- monitor in no full synchronization.
pub record Sound (w : Readings) (y : Course) : Type 0 where
  pub tells : y.readings ≡ played y.changes w
  pub fits : AllByRecursion Fits y.changes
  pub short : AllByRecursion ChangeShort y.changes
  pub unmarked : y.readings.marked ≡ false

-- The same of a monitor that may be in a full synchronization: its readings are those after its changes, its numbers
-- fit, and it writes no long value. Over any log, the store after it isn't too large.
pub record Bears (m : Store) (y : Course) : Type 0 where
  pub tells : y.readings ≡ played y.changes (readings_of m)
  pub fits : AllByRecursion Fits y.changes
  pub short : AllShort longest m → AllShort longest (apply (joined (encoded y.changes)) m)
  pub small : AllShort longest (apply (joined (encoded y.changes)) m) → OnSomeLog (apply (joined (encoded y.changes)) m) y.state → size_of (apply (joined (encoded y.changes)) m) ≤ most_size

-- ---- the log, messages and replies

log_prefix_append : (log more : List (List ℕ)) → IsPrefixOf log (log ++ more)
log_prefix_append log more = record { short = (let l = length-append log more in omega arith); same = λ i lt. get_or_append_left log more [] i lt }

log_prefix_grown : (log : List (List ℕ)) (m : Store) → IsPrefixOf log (grown log m)
unfolding grown
log_prefix_grown log m = cond_both (is_marked m) log (log ++ records_after m (length log) (last_of m - length log)) (λ more. IsPrefixOf log more) (λ _. log_prefix_itself log) (λ _. log_prefix_append log (records_after m (length log) (last_of m - length log)))

among_sent : (to : ℕ) (m : Message) (sends : List Sent) → Among (send.Message to m) sends → Among (record { to = to; message = m }) (messages_of sends)
among_sent to m [] a = absurd a
among_sent to m (send.Message k x ∷ sends) a = elim a [
  | inl e ↦ inl (same to m k x e)
  | inr o ↦ inr (among_sent to m sends o)
]
  where
    same : (to : ℕ) (m : Message) (k : ℕ) (x : Message) → ◌≡◌ {A = Sent} (send.Message to m) (send.Message k x) → ◌≡◌ {A = Envelope} (record { to = to; message = m }) (record { to = k; message = x })
    same to m k x e = ap taken e
      where
        taken : Sent → Envelope
        taken (send.Message a b) = record { to = a; message = b }
        taken (send.Reply a b) = record { to = to; message = m }
among_sent to m (send.Reply s r ∷ sends) a = elim a [
  | inl e ↦ absurd cc
  | inr o ↦ among_sent to m sends o
]

-- a session got this reply from this monitor
pub record HasReply (next : World) (by : ℕ) (session : Session) (r : Reply) : Type 0 where
  pub told : Replied
  pub among : Contains next.replied told
  pub since : next.events ≤ told.event
  pub rank_is : told.rank ≡ by
  pub session_is : told.session ≡ session
  pub reply_is : told.reply ≡ r

pub replied_in : (event i : ℕ) (m : Store) (session : Session) (r : Reply) (sends : List Sent) → Among (send.Reply session r) sends
    → (t : Replied) × Among t (replies_of event i m sends) × (t.session ≡ session) × (t.reply ≡ r) × (t.event ≡ event) × (t.rank ≡ i)
replied_in event i m session r [] a = absurd a
replied_in event i m session r (send.Reply s x ∷ sends) (inl e) = (record { event = event; rank = i; epoch = epoch_of (readings_of m); last = last_of m; session = s; reply = x }, inl refl, sym (ap session_in e), sym (ap reply_in e), refl, refl)
  where
    session_in : Sent → Session
    session_in (send.Reply a b) = a
    session_in (send.Message a b) = s

    reply_in : Sent → Reply
    reply_in (send.Reply a b) = b
    reply_in (send.Message a b) = x
replied_in event i m session r (send.Reply s x ∷ sends) (inr o) = let z = replied_in event i m session r sends o in (z.0, inr z.1, z.2, z.3, z.4, z.5)
replied_in event i m session r (send.Message k x ∷ sends) (inl e) = absurd cc
replied_in event i m session r (send.Message k x ∷ sends) (inr o) = replied_in event i m session r sends o

contains_of : {A : Type 0} (xs : List A) (x : A) → Among x xs → Contains xs x
contains_of [] x a = absurd a
contains_of (y ∷ ys) x (inl e) = (0, omega arith, sym e)
contains_of (y ∷ ys) x (inr o) = let z = contains_of ys x o in (suc z.0, (let l = z.1 in omega arith), z.2)

module _ (S : Scope) where
  -- the world after monitor i did this
  pub record Moved (w next : World) (i : ℕ) (y : Course) : Type 0 where
    pub up : next.state i ≡ Some y.state
    pub reads : readings_at next i ≡ y.readings
    pub stored : next.store i ≡ apply (joined (encoded y.changes)) (w.store i)
    pub log : next.log ≡ grown w.log (apply (joined (encoded y.changes)) (w.store i))
    pub others : (j : ℕ) → (j ≡ i → ⊥) → (next.state j ≡ w.state j) × (next.store j ≡ w.store j)
    pub says : (to : ℕ) (m : Message) → Among (send.Message to m) y.out → New S.sent next (record { to = to; message = m })
    pub elapses : next.events ≡ suc w.events
    pub replies : (session : Session) (r : Reply) → Among (send.Reply session r) y.out → HasReply next i session r

  pub record Did (R : Course → Type 0) (w : World) (i : ℕ) (next : World) : Type 0 where
    pub y : Course
    pub did : R y
    pub moved : Moved w next i y

  -- this one event does it
  pub record DoesBy (p : Plain) (P : World → Type 0) (w : World) : Type 0 where
    pub can : Can S 1 P w
    pub is : can.events ≡ Arrives p ∷ []

  module _ (w : World) (sane : Sane S w) (p : Plain) (i : ℕ) (lt : ltb i S.ms.count ≡ true) (now : ℕ) (came : Input) (s : State)
      (a : arrival w p ≡ Some (record { rank = i; at = now; input = came })) (c : state_at i (w.state i) came ≡ Some s) (allowed : IsStep S.q S.sent S.asks S.clock w (Arrives p)) (inside : has S.q i ≡ true)
      (fits : PlainFits S.ms.count p) (R : Course → Type 0) where
    abbrev reacted : Result Course Which
    reacted = react (member_of S.ms i lt) (shared_entries (w.store i)) now (readings_of (w.store i)) s came

    met : meets S.ms w p ≡ Reacts i came (any_reaction reacted)
    met =
        ap (meeting_at S.ms w) a
        ∙ ap (λ (o : Option Me). meeting (record { rank = i; at = now; input = came }) (w.store i) o (state_at i (w.state i) came)) (me_is S.ms i lt)
        ∙ ap (meeting (record { rank = i; at = now; input = came }) (w.store i) (Some (member_of S.ms i lt))) c

    R0 : Reached S.ms w
    R0 = sane.reached

    -- a course that is sound where the store has room for it
    module _ (y : Course) (read : readings_of (apply (joined (encoded y.changes)) (w.store i)) ≡ y.readings) (short : AllShort longest (apply (joined (encoded y.changes)) (w.store i)))
        (happened : happens S.ms w (Arrives p) ≡ Ok (moved w p i (reaction_of y))) where
      after : Moved w (moved w p i (reaction_of y)) i y
      unfolding moved
      after = record {
        up = rw (eq-eqb i i refl) refl;
        reads = rw (eq-eqb i i refl) read;
        stored = rw (eq-eqb i i refl) refl;
        log = refl;
        others = λ j ne. rw (ne_eqb j i ne) (refl, refl);
        says = λ to e k. new_added S.sent w (moved w p i (reaction_of y)) (messages_of y.out) (record { to = to; message = e }) refl sane.since (among_sent to e y.out k);
        elapses = refl;
        replies = λ session r k. (let z = replied_in (suc w.events) i (apply (joined (encoded y.changes)) (w.store i)) session r y.out k in record {
          told = z.0;
          among = Contains-append_right w.replied (replies_of (suc w.events) i (apply (joined (encoded y.changes)) (w.store i)) y.out) z.0 (contains_of _ z.0 z.1);
          since = (let e = z.4 in omega arith);
          rank_is = z.5;
          session_is = z.2;
          reply_is = z.3;
        });
      }

      reached : Reached S.ms (moved w p i (reaction_of y))
      reached = reached_next S.ms w (moved w p i (reaction_of y)) (Arrives p) fits happened R0

      stores : (j : ℕ) → has S.q j ≡ true → AllShort longest ((moved w p i (reaction_of y)).store j)
      unfolding moved
      stores j k = by (eqb j i)
        where
          by : (b : Bool) → AllShort longest (cond b (apply (joined (encoded y.changes)) (w.store i)) (w.store j))
          by true = short
          by false = sane.short j k

      longer : S.sent ≤ length (moved w p i (reaction_of y)).messages
      unfolding moved
      longer = let l = length-append w.messages (messages_of y.out) in let s = sane.since in omega arith

      onward : Onward S w (moved w p i (reaction_of y))
      unfolding moved
      onward = record {
        rest = λ j out. rw (ne_eqb j i (λ e. false≢true (sym out ∙ subst (λ (z : ℕ). has S.q z ≡ true) (sym e) inside))) (refl, refl);
        more = messages_of y.out;
        messages = refl;
        sane = λ _. record { since = longer; reached = reached; short = stores };
        log_prefix = log_prefix_grown w.log (apply (joined (encoded y.changes)) (w.store i));
        elapsed = omega arith;
      }

      one : R y → Can S 1 (Did R w i) w
      one k = record {
        events = Arrives p ∷ [];
        few = omega arith;
        steps = (allowed, tt);
        next = moved w p i (reaction_of y);
        goes = ran_one S.ms w (moved w p i (reaction_of y)) (Arrives p) happened;
        onward = onward;
        there = record { y = y; did = k; moved = after };
      }

    -- the store of an unmarked monitor has room
    module _ (y : Course) (A : Sound (readings_of (w.store i)) y) (e : reacted ≡ Ok y) where
      read : readings_of (apply (joined (encoded y.changes)) (w.store i)) ≡ y.readings
      read = readings-joined y.changes A.fits (w.store i) ∙ sym A.tells

      short : AllShort longest (apply (joined (encoded y.changes)) (w.store i))
      short = short_behind y.changes (w.store i) A.short (sane.short i inside)

      own : OwnShort longest (apply (joined (encoded y.changes)) (w.store i))
      own q x local e = short q x e

      happened : happens S.ms w (Arrives p) ≡ Ok (moved w p i (reaction_of y))
      happened =
          (subst (λ (v : World). meets S.ms v p ≡ Reacts i came (Ok (reaction_of y)) → (readings_of (apply (joined (encoded y.changes)) (v.store i))).marked ≡ false → OwnShort longest (apply (joined (encoded y.changes)) (v.store i)) → happens S.ms v (Arrives p) ≡ Ok (moved v p i (reaction_of y)))
          (world_is S.ms w R0)
          (goes_on_then S.ms R0.events R0.fit p fits i came (reaction_of y)))
          (met ∙ ap (λ (r : Result Course Which). Reacts i came (any_reaction r)) e) (ap (λ (r : Readings). r.marked) read ∙ A.unmarked) own

      soundly : R y → Can S 1 (Did R w i) w
      soundly = one y read short happened

    -- it does this
    pub comes_by : Surely (λ y. Sound (readings_of (w.store i)) y × R y) reacted → DoesBy p (Did R w i) w
    unfolding soundly one
    comes_by T = by reacted refl T
      where
        by : (r : Result Course Which) → reacted ≡ r → Surely (λ y. Sound (readings_of (w.store i)) y × R y) r → DoesBy p (Did R w i) w
        by (Ok y) e T = record { can = soundly y (T.holds).0 e (T.holds).1; is = refl }
        by (Err which) e T = absurd T.holds

    -- so does one in a full synchronization, if its store has room
    module _ (y : Course) (A : Bears (w.store i) y) (e : reacted ≡ Ok y) where
      read_so : readings_of (apply (joined (encoded y.changes)) (w.store i)) ≡ y.readings
      read_so = readings-joined y.changes A.fits (w.store i) ∙ sym A.tells

      short_so : AllShort longest (apply (joined (encoded y.changes)) (w.store i))
      short_so = A.short (sane.short i inside)

      happened_so : happens S.ms w (Arrives p) ≡ Ok (moved w p i (reaction_of y))
      happened_so =
          (subst (λ (v : World). meets S.ms v p ≡ Reacts i came (Ok (reaction_of y)) → (OnSomeLog (apply (joined (encoded y.changes)) (v.store i)) y.state → size_of (apply (joined (encoded y.changes)) (v.store i)) ≤ most_size) → happens S.ms v (Arrives p) ≡ Ok (moved v p i (reaction_of y)))
          (world_is S.ms w R0)
          (λ m small. goes_on_within S.ms R0.events R0.fit p fits i came (reaction_of y) m (small (would_be S.ms R0.events R0.fit p fits i came (reaction_of y) m))))
          (met ∙ ap (λ (r : Result Course Which). Reacts i came (any_reaction r)) e) (A.small short_so)

      bearing : R y → Can S 1 (Did R w i) w
      bearing = one y read_so short_so happened_so

    pub copies : Surely (λ y. Bears (w.store i) y × R y) reacted → Can S 1 (Did R w i) w
    copies T = by reacted refl T
      where
        by : (r : Result Course Which) → reacted ≡ r → Surely (λ y. Bears (w.store i) y × R y) r → Can S 1 (Did R w i) w
        by (Ok y) e T = bearing y (T.holds).0 e (T.holds).1
        by (Err which) e T = absurd T.holds

    pub comes : Surely (λ y. Sound (readings_of (w.store i)) y × R y) reacted → Can S 1 (Did R w i) w
    comes T = let D = comes_by T in D.can
