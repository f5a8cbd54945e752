-- A client that follows a network's monitors holds maps of the log.
use Rattle.law_names.proofs.Runs.{Acknowledgement, Asked, IsShown, Replied, World, first_world}
use Rattle.law_names.proofs.Table.{AllByRecursion, Contains, HasText, Message, MsgRefused, Reply, Service, Session, ShownMap, Stop, flat_map, map_of_log, message_of, version_of_log}
use Rattle.log_model.proofs.Lists.{all_append, all_map, of_all}
use Rattle.map_follower.proofs.Follows.{holds_all}
use Rattle.map_follower.specs.Copies.{Taken, applied_from, first, if_applied, is_of, taken, taken_all}
use Rattle.map_follower.specs.Following.{Holds, WasGiven}
use Rattle.map_follower.specs.Iterations as turns
use Rattle.map_follower.specs.Iterations.{Course, EndsAfter, Follows, IsAnswer, Iterated, all_turned, and_turned, asked, copy_text, course, course_before, line_of, reply_in, reply_read, request_of, turned, with_datagram, with_reply}
use Rattle.map_follower.specs.declared.end.FollowEnd.TheVariants as end
use Rattle.map_follower.specs.declared.end.FollowEnd.{FollowEnd}
use Rattle.map_follower.specs.declared.follower.Follower.{Follower}
use Rattle.map_follower.specs.declared.took.Took.TheVariants as took
use Rattle.mon_decode.proofs.WholeLaws.{message_again}
use Rattle.mon_frag.specs.Whole.{FromPeer, and_answered, answered}
use Rattle.mon_link.specs.Links.{asked_to_send, first_of, others}
use Rattle.mon_link.specs.Memory.{fails_next}
use Rattle.mon_types.specs.declared.names.Stop.TheVariants as stop
use Rattle.mon_wire.specs.Message.Whole.{text}
use Rattle.mon_wire.specs.declared.reply.Reply.TheVariants as reply
use Rattle.network_answers.specs.Answers.{Answer, IsAnswer as IsAnAnswer, IsOfLog, IsOfThisLog, message_of as answer_message}
use Rattle.network_answers.specs.Followers.{AreRising, Reaches, Writes}
use Rattle.quorum_network.proofs.Assembled.{contains_first, contains_later}
use Rattle.quorum_network.proofs.Names.{AreAnswers, Client, Closed, Datagram, Got, Idle, Monitor, Observed, Partial, Peer, Posted, answer_in, kept_in, next_leaves, taken as piece_taken}
use Rattle.quorum_network.specs.Promises.{IsJoined, Numbers, ReachesClient}
use Rattle.std.proofs.Common.{Bool, Err, List, None, Ok, Option, Result, Some, [], ap, append_assoc, arith, cond, drop, eqb, false, inl, inr, leb, length, ltb, option_map, refl, subst, sym, true, ℕ, ◌%◌, ◌&&◌, ◌++◌, ◌+◌, ◌-◌, ◌<◌, ◌^◌, ◌∙◌, ◌∷◌, ◌≡◌, ◌≤◌}
use Rattle.std.proofs.lemmas.Bool.{eq-eqb, leb-false, ltb-true}
use Rattle.std.proofs.lemmas.List.Concat.{flat_map-append}
use Rattle.std.proofs.lemmas.List.{append-nil}

-- ---- replies that are the log's, as replies of a run of the model

module _ (requests : List Asked) (acks : List Acknowledgement) (log : List (List ℕ)) where
  record IsGiven (r : Reply) : Type 0 where
    rank : ℕ
    session : Session
    last : ℕ
    within : last ≤ length log
    of_log : IsOfLog requests acks log rank session last r

  abbrev AllGiven : List Reply → Type 0
  AllGiven rs = AllByRecursion IsGiven rs

  abbrev replied_of : (r : Reply) → IsGiven r → Replied
  replied_of r g = record { event = 0; rank = g.rank; epoch = 0; last = g.last; session = g.session; reply = r }

  -- a world of which this much is so
  abbrev world_of : List Replied → World
  world_of rs = record first_world { log = log; asked = requests; replied = rs }

  shown_is : (all : List Replied) (i : ℕ) (session : Session) (last : ℕ) → last ≤ length log → (r : Reply) → IsOfLog requests acks log i session last r
      → IsShown (world_of all) (record { event = 0; rank = i; epoch = 0; last = last; session = session; reply = r })
  shown_is all i session last low (reply.Shown s paxos version map) k =
      record { within = low; shows = (k.0, k.1 ∙ ap (λ (v : ℕ). map_of_log s log v) k.0, k.2 ∙ ap (λ (v : ℕ). version_of_log s log v) k.0); asked = k.3 }
  shown_is all i session last low (reply.Since s from told more) k = record { within = low; shows = k.0; asked = k.2 }
  shown_is all i session last low other k = record { within = low; shows = tt; asked = tt }

  replies_of : (rs : List Reply) → AllGiven rs → List Replied
  replies_of [] g = []
  replies_of (r ∷ rs) g = replied_of r g.0 ∷ replies_of rs g.1

  all_shown : (all : List Replied) (rs : List Reply) (g : AllGiven rs) → AllByRecursion (IsShown (world_of all)) (replies_of rs g)
  unfolding replies_of
  all_shown all [] g = tt
  all_shown all (r ∷ rs) g = (shown_is all g.0.rank g.0.session g.0.last g.0.within r g.0.of_log, all_shown all rs g.1)

  all_given : (all : List Replied) (rs : List Reply) (g : AllGiven rs) → ((q : Replied) → Contains (replies_of rs g) q → Contains all q) → AllByRecursion (WasGiven (world_of all)) rs
  unfolding replies_of
  all_given all [] g f = tt
  all_given all (r ∷ rs) g f = (
    record { replied = replied_of r g.0; there = f (replied_of r g.0) (contains_first (replied_of r g.0) (replies_of rs g.1)); is = refl },
    all_given all rs g.1 (λ q c. f q (contains_later (replied_of r g.0) (replies_of rs g.1) q c)),
  )

  holds_given : (s : Service) (rs : List Reply) → AllGiven rs → Holds s log (taken_all (first s) rs)
  holds_given s rs g = holds_all s (world_of (replies_of rs g)) (all_shown (replies_of rs g) rs g) rs (all_given (replies_of rs g) rs g (λ q c. c))

-- ---- one more of a list

taken_more : (f : Follower) (rs : List Reply) (r : Reply) → taken_all f (rs ++ r ∷ []) ≡ (taken (taken_all f rs) r).0
taken_more f [] r = refl
taken_more f (q ∷ rs) r = taken_more (taken f q).0 rs r

kept_all : List Partial → List FromPeer → List Partial
kept_all kept [] = kept
kept_all kept (d ∷ later) = kept_all (kept_in kept (piece_taken kept d.from d.bytes)) later

kept_more : (kept : List Partial) (came : List FromPeer) (d : FromPeer) → kept_all kept (came ++ d ∷ []) ≡ kept_in (kept_all kept came) (piece_taken (kept_all kept came) d.from d.bytes)
unfolding kept_all
kept_more kept [] d = refl
kept_more kept (x ∷ came) d = kept_more (kept_in kept (piece_taken kept x.from x.bytes)) came d

answered_more : (kept : List Partial) (came later : List FromPeer) → answered kept (came ++ later) ≡ answered kept came ++ answered (kept_all kept came) later
unfolding kept_all
answered_more kept [] later = refl
answered_more kept (d ∷ came) later =
    let next = kept_in kept (piece_taken kept d.from d.bytes) in
    by (answer_in (piece_taken kept d.from d.bytes)) (answered next (came ++ later)) (answered next came) (answered (kept_all next came) later) (answered_more next came later)
  where
    by : (o : Option (List ℕ)) (all some rest : List FromPeer) → all ≡ some ++ rest → and_answered d.from o all ≡ and_answered d.from o some ++ rest
    by None all some rest e = e
    by (Some bytes) all some rest e = ap (λ (ds : List FromPeer). record { from = d.from; bytes = bytes } ∷ ds) e

all_rest : {X : Type 0} (P : X → Type 0) (xs ys : List X) → AllByRecursion P (xs ++ ys) → AllByRecursion P ys
all_rest P [] ys h = h
all_rest P (x ∷ xs) ys h = all_rest P xs ys h.1

-- ---- a copy is no older after it takes a reply

shown_rises : (f : Follower) (version : ℕ) (m : ShownMap) (a b : Bool) → ltb f.version version ≡ b
    → f.version ≤ (cond {A = Taken} a (cond b (record { version = version; map = m }, took.Newer version) (f, took.Known f.version)) (f, took.Other)).0.version
shown_rises f version m true true e = let lt = ltb-true f.version version e in omega (arith, lt)
shown_rises f version m true false e = omega arith
shown_rises f version m false b e = omega arith

applied_rises : (f : Follower) (reached : ℕ) (r : Result ShownMap ℕ) → f.version ≤ reached → f.version ≤ (if_applied f reached r).0.version
applied_rises f reached (Ok m) le = le
applied_rises f reached (Err i) le = omega arith

since_rises : (f : Follower) (from : ℕ) (told : List (List ℕ)) (r : Result ShownMap ℕ) (a b c : Bool) → leb (from + length told) f.version ≡ c
    → f.version ≤ (cond {A = Taken} a (cond b (f, took.Ahead from) (cond c (f, took.Known f.version) (if_applied f (from + length told) r))) (f, took.Other)).0.version
since_rises f from told r true true c e = omega arith
since_rises f from told r true false true e = omega arith
since_rises f from told r true false false e = let lt = leb-false (from + length told) f.version e in applied_rises f (from + length told) r (omega (arith, lt))
since_rises f from told r false b c e = omega arith

taken_rises : (f : Follower) (r : Reply) → f.version ≤ (taken f r).0.version
taken_rises f (reply.Shown s paxos version m) = shown_rises f version m (is_of s f.map && is_of s m) (ltb f.version version) refl
taken_rises f (reply.Since s from told more) =
    since_rises f from told (applied_from (f.version - from) f.map (drop (f.version - from) told)) (is_of s f.map && leb (from + length told) (2 ^ 62)) (ltb f.version from) (leb (from + length told) f.version) refl
taken_rises f other = omega arith

-- ---- lines

lines_in : Taken → List Follower
lines_in (f, took.Newer version) = f ∷ []
lines_in (f, _) = []

line_is : (t : Taken) → line_of t ≡ flat_map copy_text (lines_in t)
unfolding lines_in
line_is (f, took.Newer version) = sym (append-nil (copy_text f))
line_is (f, _) = refl

all_lines : (P : Follower → Type 0) (t : Taken) → P t.0 → AllByRecursion P (lines_in t)
unfolding lines_in
all_lines P (f, took.Newer version) h = (h, tt)
all_lines P (f, _) h = tt

-- a line is of a newer copy
shown_newer : (f : Follower) (version : ℕ) (m : ShownMap) (a b : Bool) → ltb f.version version ≡ b
    → AllByRecursion (λ (g : Follower). f.version < g.version) (lines_in (cond {A = Taken} a (cond b (record { version = version; map = m }, took.Newer version) (f, took.Known f.version)) (f, took.Other)))
unfolding lines_in
shown_newer f version m true true e = (ltb-true f.version version e, tt)
shown_newer f version m true false e = tt
shown_newer f version m false b e = tt

applied_newer : (f : Follower) (reached : ℕ) (r : Result ShownMap ℕ) → f.version < reached → AllByRecursion (λ (g : Follower). f.version < g.version) (lines_in (if_applied f reached r))
unfolding lines_in
applied_newer f reached (Ok m) lt = (lt, tt)
applied_newer f reached (Err i) lt = tt

since_newer : (f : Follower) (from : ℕ) (told : List (List ℕ)) (r : Result ShownMap ℕ) (a b c : Bool) → leb (from + length told) f.version ≡ c
    → AllByRecursion (λ (g : Follower). f.version < g.version) (lines_in (cond {A = Taken} a (cond b (f, took.Ahead from) (cond c (f, took.Known f.version) (if_applied f (from + length told) r))) (f, took.Other)))
unfolding lines_in
since_newer f from told r true true c e = tt
since_newer f from told r true false true e = tt
since_newer f from told r true false false e = applied_newer f (from + length told) r (leb-false (from + length told) f.version e)
since_newer f from told r false b c e = tt

line_newer : (f : Follower) (r : Reply) → AllByRecursion (λ (g : Follower). f.version < g.version) (lines_in (taken f r))
unfolding lines_in
line_newer f (reply.Shown s paxos version m) = shown_newer f version m (is_of s f.map && is_of s m) (ltb f.version version) refl
line_newer f (reply.Since s from told more) =
    since_newer f from told (applied_from (f.version - from) f.map (drop (f.version - from) told)) (is_of s f.map && leb (from + length told) (2 ^ 62)) (ltb f.version from) (leb (from + length told) f.version) refl
line_newer f other = tt

one_rises : (t : Taken) → AreRising (lines_in t)
unfolding lines_in
one_rises (f, took.Newer version) = (tt, tt)
one_rises (f, _) = tt

abbrev AreUpTo : ℕ → List Follower → Type 0
AreUpTo v copies = AllByRecursion (λ (f : Follower). f.version ≤ v) copies

rising_more : (v : ℕ) (copies more : List Follower) → AreRising copies → AreUpTo v copies → AreRising more → AllByRecursion (λ (g : Follower). v < g.version) more → AreRising (copies ++ more)
rising_more v [] more rising low rest newer = rest
rising_more v (f ∷ copies) more rising low rest newer = (
  all_append (λ (g : Follower). f.version < g.version) copies more rising.0
      (all_map (λ (g : Follower). v < g.version) (λ (g : Follower). f.version < g.version) (λ g lt. let le = low.0 in omega (arith, le, lt)) more newer),
  rising_more v copies more rising.1 low.1 rest newer,
)

up_to_more : (v w : ℕ) (copies more : List Follower) → v ≤ w → AreUpTo v copies → AreUpTo w more → AreUpTo w (copies ++ more)
up_to_more v w copies more le low rest =
    all_append (λ (f : Follower). f.version ≤ w) copies more (all_map (λ (f : Follower). f.version ≤ v) (λ (f : Follower). f.version ≤ w) (λ f k. omega (arith, k, le)) copies low) rest

written_more : (old now : Option (List ℕ)) (copies more : List Follower) (line : List ℕ) → now ≡ option_map (λ (w : List ℕ). w ++ flat_map copy_text copies) old → line ≡ flat_map copy_text more
    → option_map (λ (w : List ℕ). w ++ line) now ≡ option_map (λ (w : List ℕ). w ++ flat_map copy_text (copies ++ more)) old
written_more None now copies more line is same = ap (option_map (λ (w : List ℕ). w ++ line)) is
written_more (Some w) now copies more line is same =
    ap (option_map (λ (x : List ℕ). x ++ line)) is
    ∙ ap Some (append_assoc w (flat_map copy_text copies) line ∙ ap (λ (x : List ℕ). w ++ x) (ap (λ (x : List ℕ). flat_map copy_text copies ++ x) same ∙ sym (flat_map-append copy_text copies more)))

none_written : (w : Option (List ℕ)) → w ≡ option_map (λ (x : List ℕ). x ++ []) w
none_written None = refl
none_written (Some x) = ap Some (sym (append-nil x))

-- ---- iterations

-- P holds after an iteration, or at the end if the client ended before it
turned_or_not : (P : Course → Type 0) (n : ℕ) (g : Result Got Stop) (t : Iterated) → P t.course → P (turned n g t.course).course → P (and_turned n g t).course
turned_or_not P n g t h k = by t.stop
  where
    by : (o : Option FollowEnd) → P (elim o as (λ _. Iterated) [ None ↦ turned n g t.course | Some e ↦ t ]).course
    by None = k
    by (Some e) = h

module _ (n : ℕ) (requests : List Asked) (acks : List Acknowledgement) (log : List (List ℕ)) (sent : List Posted) (answers : List Answer) (O : AllByRecursion (IsOfThisLog requests acks log) answers) (A : AreAnswers (IsAnAnswer n answers) sent) (numbers : Numbers) (s : Service) (written : Option (List ℕ)) where
  -- what a client joined and took so far, and that its copy and its lines follow from that
  record IsSo (now : Course) : Type 0 where
    came : List FromPeer
    reach : AllByRecursion (λ (d : FromPeer). ReachesClient sent numbers d.from d.bytes) came
    parts : now.parts ≡ kept_all [] came
    replies : List Reply
    given : AllGiven requests acks log replies
    follower : now.follower ≡ taken_all (first s) replies
    writes : Writes s log written now.written
    low : AreUpTo now.follower.version writes.copies

  holds_so : (now : Course) → IsSo now → Holds s log now.follower
  holds_so now I = subst (Holds s log) (sym I.follower) (holds_given requests acks log s I.replies I.given)

  -- with another message joined, if one is
  module _ (now : Course) (parts : List Partial) (came : List FromPeer) (reach : AllByRecursion (λ (d : FromPeer). ReachesClient sent numbers d.from d.bytes) came) (is : parts ≡ kept_all [] came) (I : IsSo now) where
    takes_none : IsSo (record now { parts = parts })
    takes_none = record { came = came; reach = reach; parts = is; replies = I.replies; given = I.given; follower = I.follower; writes = I.writes; low = I.low }

    takes_one : (r : Reply) → IsGiven requests acks log r → IsSo (with_reply (record now { parts = parts }) (Some r))
    takes_one r g =
        let t = taken now.follower r in
        let all = all_append (IsGiven requests acks log) I.replies (r ∷ []) I.given (g, tt) in
        let f : t.0 ≡ taken_all (first s) (I.replies ++ r ∷ []) = ap (λ (x : Follower). (taken x r).0) I.follower ∙ sym (taken_more (first s) I.replies r) in
        let holds = subst (Holds s log) (sym f) (holds_given requests acks log s (I.replies ++ r ∷ []) all) in
        record {
          came = came;
          reach = reach;
          parts = is;
          replies = I.replies ++ r ∷ [];
          given = all;
          follower = f;
          writes = record {
            copies = I.writes.copies ++ lines_in t;
            hold = all_append (Holds s log) I.writes.copies (lines_in t) I.writes.hold (all_lines (Holds s log) t holds);
            rising = rising_more now.follower.version I.writes.copies (lines_in t) I.writes.rising I.low (one_rises t) (line_newer now.follower r);
            lines = written_more written now.written I.writes.copies (lines_in t) (line_of t) I.writes.lines (line_is t);
          };
          low = up_to_more now.follower.version t.0.version I.writes.copies (lines_in t) (taken_rises now.follower r) I.low (all_lines (λ (f : Follower). f.version ≤ t.0.version) t (omega arith));
        }

    read_by : (a : Answer) (bytes : List ℕ) → bytes ≡ text (answer_message n a) → HasText (answer_message n a) → reply_read n (Monitor a.rank) (message_of bytes) ≡ Some a.reply
    read_by a bytes is has =
        ap (reply_read n (Monitor a.rank)) (ap message_of is ∙ message_again (answer_message n a) has)
        ∙ ap (λ (b : Bool). cond b (cond (eqb a.rank a.rank) (Some a.reply) None) None) (eq-eqb n n refl) ∙ ap (λ (b : Bool). cond b (Some a.reply) None) (eq-eqb a.rank a.rank refl)

    -- the reply that its bytes encode
    reads : (i c : ℕ) (bytes : List ℕ) (R : IsAnAnswer n answers i c bytes) → reply_read n (Monitor i) (message_of bytes) ≡ Some R.answer.reply
    reads i c bytes R = subst (λ (j : ℕ). reply_read n (Monitor j) (message_of bytes) ≡ Some R.answer.reply) R.rank (read_by R.answer bytes R.is_text R.has_text)

    no_client : (x : ℕ) (m : Result Message MsgRefused) → reply_read n (Client x) m ≡ None
    no_client x (Ok m) = refl
    no_client x (Err e) = refl

    abbrev Joined : FromPeer → Type 0
    Joined d = IsJoined (IsAnAnswer n answers) numbers d.from d.bytes

    takes : (from : Peer) (o : Option (List ℕ)) → AllByRecursion Joined (and_answered from o []) → IsSo (with_reply (record now { parts = parts }) (reply_in n from o))
    takes from None h = takes_none
    takes (Client x) (Some bytes) h = subst (λ (o : Option Reply). IsSo (with_reply (record now { parts = parts }) o)) (sym (no_client x (message_of bytes))) takes_none
    takes (Monitor i) (Some bytes) h =
        let c = h.0.0 in
        let R = h.0.2 in
        let K = of_all (IsOfThisLog requests acks log) answers O R.answer R.among in
        subst (λ (o : Option Reply). IsSo (with_reply (record now { parts = parts }) o)) (sym (reads i c bytes R)) (takes_one R.answer.reply (record { rank = R.answer.rank; session = R.answer.session; last = R.answer.last; within = K.within; of_log = K.of_log }))

  -- a datagram of a monitor
  with_one : (now : Course) (from : Peer) (bytes : List ℕ) → ReachesClient sent numbers from bytes → IsSo now → IsSo (with_datagram n from bytes now)
  with_one now from bytes reaches I =
      let d : FromPeer = record { from = from; bytes = bytes } in
      let came = I.came ++ d ∷ [] in
      let reach = all_append (λ (x : FromPeer). ReachesClient sent numbers x.from x.bytes) I.came (d ∷ []) I.reach (reaches, tt) in
      let parts : kept_in now.parts (piece_taken now.parts from bytes) ≡ kept_all [] came = ap (λ (ps : List Partial). kept_in ps (piece_taken ps from bytes)) I.parts ∙ sym (kept_more [] I.came d) in
      let joined = subst (AllByRecursion (λ (x : FromPeer). IsJoined (IsAnAnswer n answers) numbers x.from x.bytes)) (answered_more [] I.came (d ∷ [])) (A.joined numbers came reach) in
      let last = all_rest (λ (x : FromPeer). IsJoined (IsAnAnswer n answers) numbers x.from x.bytes) (answered [] I.came) (answered (kept_all [] I.came) (d ∷ [])) joined in
      takes now (kept_in now.parts (piece_taken now.parts from bytes)) came reach parts I from (answer_in (piece_taken now.parts from bytes))
      (subst (λ (ps : List Partial). AllByRecursion (λ (x : FromPeer). IsJoined (IsAnAnswer n answers) numbers x.from x.bytes) (and_answered from (answer_in (piece_taken ps from bytes)) [])) (sym I.parts) last)

  -- a question to the link doesn't change what a client joined and took
  with_link : (now : Course) (link : Option Observed) (asks : ℕ) → IsSo now → IsSo (record now { asks = asks; link = link })
  with_link now link asks I = record { came = I.came; reach = I.reach; parts = I.parts; replies = I.replies; given = I.given; follower = I.follower; writes = I.writes; low = I.low }

  after_result : (g : Result Got Stop) (now : Course) → Reaches sent numbers g → IsSo now → IsSo (turns.answered n g now).course
  after_result (Ok (Datagram from bytes)) now reaches I = with_one now from bytes reaches I
  after_result (Ok Idle) now reaches I = with_link now (asked n now).link (asked n now).asks I
  after_result (Ok Closed) now reaches I = I
  after_result (Err stop.Failed) now reaches I = I
  after_result (Err stop.OutOfMemory) now reaches I = I

  module _ (asks : ℕ) (link : Option Observed) where
    abbrev begun : Course
    begun = course (first s) [] asks link written

    at_first : IsSo begun
    unfolding kept_all
    at_first = record { came = []; reach = tt; parts = refl; replies = []; given = tt; follower = refl; writes = record { copies = []; hold = tt; rising = tt; lines = none_written written }; low = tt }

    all_so : (given : List (Result Got Stop)) → AllByRecursion (Reaches sent numbers) given → IsSo (all_turned n begun given).course
    all_so [] reach = with_link begun (asked n begun).link (asked n begun).asks at_first
    all_so (g ∷ earlier) reach =
        let t = all_turned n begun earlier in
        let I = all_so earlier reach.1 in
        turned_or_not IsSo n g t I (after_result g (record t.course { link = option_map (next_leaves 1000 g) t.course.link }) reach.0 (with_link t.course (option_map (next_leaves 1000 g) t.course.link) t.course.asks I))

    before_so : (given : List (Result Got Stop)) → AllByRecursion (Reaches sent numbers) given → Holds s log (course_before n begun given).follower
    before_so [] reach = holds_so begun at_first
    before_so (g ∷ earlier) reach = holds_so (all_turned n begun earlier).course (all_so earlier reach.1)

    -- the copy at an end
    at_end : (P : Follower → Type 0) (turns made : ℕ) (e : FollowEnd) (before : Course) (t : Iterated) (new : Course) → EndsAfter turns e made before t new → P before.follower → P t.course.follower → P new.follower
    at_end P turns made end.TurnsUsed before t new h was now = subst (λ (x : Iterated). P x.course.follower) h.1 now
    at_end P turns made end.OutOfMemory before t new h was now = elim h.0 [ inl e ↦ subst P (sym e) was | inr e ↦ subst P (sym e) now ]
    at_end P turns made end.WriteFault before t new h was now = subst P (sym h.0) now
    at_end P turns made end.Closed before t new h was now = subst P (sym h.0) now
    at_end P turns made end.LinkFault before t new h was now = subst P (sym h.0) now

    pub end_holds : (turns : ℕ) (new : Course) (e : FollowEnd) (F : Follows n turns begun new e) → AllByRecursion (Reaches sent numbers) F.given → Holds s log new.follower
    end_holds turns new e F reach = at_end (Holds s log) turns (length F.given) e (course_before n begun F.given) (all_turned n begun F.given) new F.ends (before_so F.given reach)
        (holds_so (all_turned n begun F.given).course (all_so F.given reach))

    pub so_far : (given : List (Result Got Stop)) → AllByRecursion (Reaches sent numbers) given → Holds s log (all_turned n begun given).course.follower × Writes s log written (all_turned n begun given).course.written
    so_far given reach = let I = all_so given reach in (holds_so (all_turned n begun given).course I, I.writes)

-- ---- the copy's version never decreases

abbrev IsHigher : ℕ → Course → Type 0
IsHigher v now = v ≤ now.follower.version

higher : (v w x : ℕ) → v ≤ w → w ≤ x → v ≤ x
higher v w x a b = omega (arith, a, b)

reply_rises : (v : ℕ) (now : Course) (o : Option Reply) → IsHigher v now → IsHigher v (with_reply now o)
reply_rises v now None h = h
reply_rises v now (Some r) h = higher v now.follower.version (taken now.follower r).0.version h (taken_rises now.follower r)

result_rises : (v n : ℕ) (g : Result Got Stop) (now : Course) → IsHigher v now → IsHigher v (turns.answered n g now).course
result_rises v n (Ok (Datagram from bytes)) now h = reply_rises v (record now { parts = kept_in now.parts (piece_taken now.parts from bytes) }) (reply_in n from (answer_in (piece_taken now.parts from bytes))) h
result_rises v n (Ok Idle) now h = h
result_rises v n (Ok Closed) now h = h
result_rises v n (Err stop.Failed) now h = h
result_rises v n (Err stop.OutOfMemory) now h = h

pub rises : (n : ℕ) (old : Course) (later earlier : List (Result Got Stop)) → (all_turned n old earlier).course.follower.version ≤ (all_turned n old (later ++ earlier)).course.follower.version
rises n old [] earlier = omega arith
rises n old (g ∷ later) earlier =
    let v = (all_turned n old earlier).course.follower.version in
    let t = all_turned n old (later ++ earlier) in
    let h = rises n old later earlier in
    turned_or_not (IsHigher v) n g t h (result_rises v n g (record t.course { link = option_map (next_leaves 1000 g) t.course.link }) h)

-- ---- a link whose ghost state lists what it will return

module _ (sent : List Posted) (numbers : Numbers) where
  abbrev GivesFine : Option Observed → Type 0
  GivesFine None = ⊥
  GivesFine (Some t) = AllByRecursion (λ (g : Got). Reaches sent numbers (Ok g)) t.left

  abbrev IsFine : Course → Type 0
  IsFine now = GivesFine now.link

  asked_fine : (to : Peer) (bytes : List ℕ) (o : Option Observed) → GivesFine o → GivesFine (option_map (asked_to_send to bytes) o)
  asked_fine to bytes None h = h
  asked_fine to bytes (Some t) h = h

  others_fine : (gs : List Got) → AllByRecursion (λ (g : Got). Reaches sent numbers (Ok g)) gs → AllByRecursion (λ (g : Got). Reaches sent numbers (Ok g)) (others gs)
  others_fine [] h = tt
  others_fine (g ∷ gs) h = h.1

  leaves_fine : (g : Result Got Stop) (o : Option Observed) → GivesFine o → GivesFine (option_map (next_leaves 1000 g) o)
  leaves_fine g None h = h
  leaves_fine (Ok got) (Some t) h = others_fine t.left h
  leaves_fine (Err stop.Failed) (Some t) h = h
  leaves_fine (Err stop.OutOfMemory) (Some t) h = h

  result_fine : (n : ℕ) (g : Result Got Stop) (now : Course) → IsFine now → IsFine (turns.answered n g now).course
  result_fine n (Ok (Datagram from bytes)) now h = reply_fine (record now { parts = kept_in now.parts (piece_taken now.parts from bytes) }) (reply_in n from (answer_in (piece_taken now.parts from bytes))) h
    where
      reply_fine : (x : Course) (o : Option Reply) → IsFine x → IsFine (with_reply x o)
      reply_fine x None k = k
      reply_fine x (Some r) k = k
  result_fine n (Ok Idle) now h = asked_fine (Monitor (now.asks % n)) (text (request_of n now.asks now.follower)) now.link h
  result_fine n (Ok Closed) now h = h
  result_fine n (Err stop.Failed) now h = h
  result_fine n (Err stop.OutOfMemory) now h = h

  first_fine : (gs : List Got) → AllByRecursion (λ (g : Got). Reaches sent numbers (Ok g)) gs → Reaches sent numbers (Ok (first_of gs))
  first_fine [] h = tt
  first_fine (g ∷ gs) h = h.0

  answer_fine : (g : Result Got Stop) (o : Option Observed) → GivesFine o → IsAnswer o g → Reaches sent numbers g
  answer_fine g None h k = absurd h
  answer_fine (Err e) (Some t) h k = tt
  answer_fine (Ok got) (Some t) h k = by (fails_next t.failing_next (length t.waits)) k
    where
      by : (b : Bool) → cond {A = Result Got Stop} b (Err stop.Failed) (Ok (first_of t.left)) ≡ Ok got → Reaches sent numbers (Ok got)
      by true e = absurd cc
      by false e = let same : first_of t.left ≡ got = cc (e) in subst (λ (x : Got). Reaches sent numbers (Ok x)) same (first_fine t.left h)

  all_fine : (n : ℕ) (old : Course) → IsFine old → (given : List (Result Got Stop)) → turns.AreAnswers n old given → AllByRecursion (Reaches sent numbers) given × IsFine (all_turned n old given).course
  all_fine n old fine [] are = (tt, asked_fine (Monitor (old.asks % n)) (text (request_of n old.asks old.follower)) old.link fine)
  all_fine n old fine (g ∷ earlier) are =
      let t = all_turned n old earlier in
      let h = all_fine n old fine earlier are.0 in (
        (answer_fine g t.course.link h.1 are.1, h.0),
        turned_or_not IsFine n g t h.1 (result_fine n g (record t.course { link = option_map (next_leaves 1000 g) t.course.link }) (leaves_fine g t.course.link h.1)),
      )

  pub all_reach : (n turns asks : ℕ) (s : Service) (link : Observed) (written : Option (List ℕ)) (new : Course) (e : FollowEnd) → AllByRecursion (λ (g : Got). Reaches sent numbers (Ok g)) link.left
      → (F : Follows n turns (course (first s) [] asks (Some link) written) new e) → AllByRecursion (Reaches sent numbers) F.given
  all_reach n turns asks s link written new e fine F = (all_fine n (course (first s) [] asks (Some link) written) fine F.given F.are).0
