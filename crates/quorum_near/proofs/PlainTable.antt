-- What an event writes and sends. It marks the store only if the store is marked already, or after an answer to PROBE
-- whose first version is above the monitor's last one. An answer to PROBE has the monitor's own first and last version.
use Rattle.law_names.proofs.Table.{AllByRecursion, Asked, Body, Change, Copy, Course, Entry, Input, Last, Mark, Me, Op, Origin, Readings, Reply, Sent, State, Vote, answers_to, begin_with, copy_changes, epoch_of, floor_of, full_sync, learn_changes, members, message_to, react, record_changes}
use Rattle.mon_msg.specs.declared.plan.Origin.TheVariants as origin
use Rattle.mon_msg.specs.declared.plan.Sent.TheVariants as sent
use Rattle.mon_wire.specs.declared.body.Body.TheVariants as body
use Rattle.mon_wire.specs.declared.reply.Reply.TheVariants as reply
use Rattle.std.proofs.Common.{List, None, Option, Some, [], false, inl, inr, length, refl, suc, true, ℕ, ◌++◌, ◌+◌, ◌∷◌, ◌≡◌, ◌⊎◌}
use Rattle.table_walk.proofs.Acts.{acts_of}
use Rattle.table_walk.proofs.Lists.{all_append, all_map, all_of}
use Rattle.table_walk.proofs.Steps.{ActSteps, InHand, IsOwn, LacksVersions, MayRaise, MaySay, MaySend, MayTell, MayWrite, Steps, origin_of}
use Rattle.table_walk.proofs.Table.{walked}
use Rattle.table_walk.proofs.Walk.{Then}

-- ---- what is written and sent

abbrev pub NoMark : Change → Type 0
NoMark (Mark floor last_pn promise) = ⊥
NoMark other = Unit {0}

-- an answer to PROBE has the first and last version of the sender's store, which isn't marked
abbrev pub AnswersAs : Readings → Body → Type 0
AnswersAs w (body.ProbeReply quorum first last) = (w.marked ≡ false) × (first ≡ w.first) × (last ≡ w.last)
AnswersAs w other = Unit {0}

abbrev pub SaysAs : Readings → Sent → Type 0
SaysAs w (sent.Message to m) = AnswersAs w m.body
SaysAs w (sent.Reply to r) = Unit {0}

-- the only change is a mark: the store is marked already, or the monitor lacks versions that the sender doesn't keep
pub record Marks (w : Readings) (came : Input) (cs : List Change) : Type 0 where
  pub is : cs ≡ Mark (floor_of w) w.last_pn w.promise ∷ []
  pub why : (w.marked ≡ true) ⊎ LacksVersions w came

pub record Writes (w : Readings) (came : Input) (cs : List Change) (out : List Sent) : Type 0 where
  pub changes : AllByRecursion NoMark cs ⊎ Marks w came cs
  pub sends : AllByRecursion (SaysAs w) out

abbrev pub WritesAs : Readings → Input → Course → Type 0
WritesAs w came y = Writes w came y.changes y.out

module _ (me : Me) (shared : List Entry) (now : ℕ) (w : Readings) (s : State) (came : Input) where
  -- so far no mark is written, and no answer to PROBE but such a one is sent
  abbrev Plain : InHand → Course → Type 0
  Plain h x = AllByRecursion NoMark x.changes × AllByRecursion (SaysAs w) x.out

  -- ---- reasons

  body_as : (x : Course) (m : Body) → MaySay me shared x m → AnswersAs w m
  body_as x (body.ProbeReply quorum first last) k = absurd k
  body_as x other k = tt

  said_as : (x : Course) (m : Sent) → MaySend me shared x m → SaysAs w m
  said_as x (sent.Message to m) k = body_as x m.body k.2
  said_as x (sent.Reply to r) k = tt

  told_body : (h : InHand) (x : Course) (m : Body) → MayTell me h x m → AnswersAs w m
  told_body h x (body.ProbeReply quorum first last) k = absurd k
  told_body h x other k = tt

  told_as : (h : InHand) (x : Course) (m : Sent) → IsOwn me x (MayTell me h x) m → SaysAs w m
  told_as h x (sent.Message to m) k = told_body h x m.body k.2
  told_as h x (sent.Reply to r) k = tt

  no_mark : (x : Course) (c : Change) → MayWrite me s came x c → NoMark c
  no_mark x (Mark floor last_pn promise) k = absurd k
  no_mark x other k = tt

  raised_no : (c : Change) → MayRaise me came c → NoMark c
  raised_no (Mark floor last_pn promise) k = absurd k
  raised_no other k = tt

  learned_may : (v : ℕ) (values : List (List Op)) → AllByRecursion NoMark (learn_changes v values)
  learned_may v [] = tt
  learned_may v (x ∷ values) = (tt, learned_may (suc v) values)

  recorded_may : (v : ℕ) (values : List (List Op)) → AllByRecursion NoMark (record_changes v values)
  recorded_may v [] = tt
  recorded_may v (x ∷ values) = (tt, recorded_may (suc v) values)

  answers_as : (e : ℕ) (o : Option Origin) (r : Reply) → AllByRecursion (SaysAs w) (answers_to me e o r)
  answers_as e None r = tt
  answers_as e (Some (origin.Session u)) r = (tt, tt)
  answers_as e (Some (origin.Forwarded f seq)) r = (tt, tt)

  -- ---- steps

  near : Steps me now shared w s came Plain (WritesAs w came)
  unfolding full_sync
  near = record {
    before = λ no. (tt, tt);
    after = λ A. record { changes = inl A.0; sends = A.1 };
    marks = λ f C why A. record { changes = inr (record { is = refl; why = why }); sends = (tt, tt) };
    answers_probe = λ f e A. record { changes = inl tt; sends = ((e, refl, refl), tt) };
    votes = λ {x = x} f e pn v value C k A. record { changes = inl (all_append NoMark x.changes (Vote v pn value ∷ []) A.0 (tt, tt)); sends = all_append (SaysAs w) x.out (message_to me (epoch_of x.readings) (body.Accept pn v) f ∷ []) A.1 (tt, tt) };
    writes = λ {x = x} c k A. (all_append NoMark x.changes (c ∷ []) A.0 (no_mark x c k, tt), A.1);
    replays = λ left v end values t z e A. (all_append NoMark [] (learn_changes v values) A.0 (learned_may v values), A.1);
    copies = λ {x = x} v values entries t k A. (all_append NoMark (x.changes ++ record_changes v values) (copy_changes entries) (all_append NoMark x.changes (record_changes v values) A.0 (recorded_may v values)) (all_of NoMark Copy (λ e. tt) entries), A.1);
    sends = λ {x = x} sends k A. (A.0, all_append (SaysAs w) x.out sends A.1 (all_map (MaySend me shared x) (SaysAs w) (said_as x) sends k));
    timers = λ ts A. A;
    elector = λ e A. A;
    prober = λ p A. A;
    peon = λ p k A. A;
    provider = λ p A. A;
    requester = λ q k A. A;
    leader = λ l A. A;
    finds = λ l k A. A;
    takes_queued = λ q qs e is due A. A;
    takes_forwarded = λ f e seq c C new A. A;
    makes_value = λ c o ops short e active A. A;
    queues = λ c o short A. record { changes = inl A.0; sends = A.1 };
    forwards = λ {x = x} c u peon short fits A. record { changes = inl A.0; sends = all_append (SaysAs w) x.out (message_to me (epoch_of x.readings) (body.Forward x.state.clients.next_seq c) x.state.peon.leader ∷ []) A.1 (tt, tt) };
    routes = λ f e seq r C k A. record { changes = inl A.0; sends = all_append (SaysAs w) [] _ A.1 (all_of (SaysAs w) (λ (a : Asked). sent.Reply a.session r) (λ a. tt) _) };
    answers = λ {x = x} h r k A. record { changes = inl A.0; sends = all_append (SaysAs w) x.out (answers_to me (epoch_of x.readings) (origin_of h) r) A.1 (answers_as (epoch_of x.readings) (origin_of h) r) };
  }

  near_within : ActSteps me now shared w s came Plain (WritesAs w came)
  unfolding begin_with
  near_within = record {
    boots = λ is boots short. ((tt, tt), tt);
    raises = λ {x = x} c k A. (all_append NoMark x.changes (c ∷ []) A.0 (raised_no c k, tt), A.1);
    learns = λ {x = x} v value values k short A. (all_append NoMark (x.changes ++ learn_changes v (value ∷ values)) (Last (v + length values) ∷ []) (all_append NoMark x.changes (learn_changes v (value ∷ values)) A.0 (learned_may v (value ∷ values))) (tt, tt), A.1);
    proposes = λ {x = x} z value o short leads A. record {
      changes = inl (all_append NoMark x.changes (Vote (suc x.readings.last) x.state.leader.pn value ∷ []) A.0 (tt, tt));
      sends = all_append (SaysAs w) x.out _ A.1 (all_of (SaysAs w) (message_to me (epoch_of x.readings) (body.Begin x.state.leader.pn (suc x.readings.last) value)) (λ to. tt) (members me x.state.leader.quorum));
    };
    tells = λ {h = h} {x = x} sends k A. (A.0, all_append (SaysAs w) x.out sends A.1 (all_map (IsOwn me x (MayTell me h x)) (SaysAs w) (told_as h x) sends k));
    leads = λ l A. A;
    enters = λ p k A. A;
    collects = λ q pn short A. A;
    forgets = λ k A. A;
    takes_found = λ how A. A;
    takes_value = λ value C e A. A;
    proposes_found = λ found A. A;
    drops_found = λ found A. A;
    acknowledges = λ {x = x} v value o A. record { changes = inl A.0; sends = all_append (SaysAs w) x.out (answers_to me (epoch_of x.readings) o (reply.Done v)) A.1 (answers_as (epoch_of x.readings) o (reply.Done v)) };
  }

  -- whatever comes
  pub reacts_as : Then (WritesAs w came) (react me shared now w s came)
  reacts_as = walked near (acts_of near near_within)
