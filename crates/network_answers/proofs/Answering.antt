-- The answers of a network's run: each is the log's, and each datagram that went to a client is of one.
use Rattle.law_names.proofs.Runs.{Acknowledged, Acknowledgement, AllFit, Asked, DoneIsAnswered, Event, IsKeptIn, IsShown, Monitors, Replied, ShowsLog, WasAskedFor, World, made_by, run}
use Rattle.law_names.proofs.Table.{AllByRecursion, Contains, HasText, Reply, Service, Session, entry, map_of_log, ops_in, put_in, version_of_log}
use Rattle.log_model.proofs.Lists.{all_map, of_all}
use Rattle.mon_wire.specs.Message.Whole.{text}
use Rattle.mon_wire.specs.declared.reply.Reply.TheVariants as reply
use Rattle.mon_wire.specs.declared.request.Request.TheVariants as request
use Rattle.network_answers.proofs.Lists.{all_image, in_image, of_image}
use Rattle.network_answers.specs.Answers.{Answer, AreInOrder, IsAnswer, IsDone, IsNoOlder, IsOfLog, IsOfThisLog, IsRefused, Requested}
use Rattle.quorum_agreement.proofs.SafeWorlds.{safe}
use Rattle.quorum_answers.proofs.Answers.{each_onward, linearizable}
use Rattle.quorum_answers.proofs.Changes.{name_next}
use Rattle.quorum_answers.proofs.Refusals.{all_refused}
use Rattle.quorum_answers.specs.Changes.{NamesNext}
use Rattle.quorum_answers.specs.Linear.{Linearizable, Read, Write}
use Rattle.quorum_answers.specs.Reads.{EachOnward, NoOlder, Shows}
use Rattle.quorum_answers.specs.Refused as model
use Rattle.quorum_answers.specs.Refused.{AllRefused, CoversAll, IsRefusalReply}
use Rattle.quorum_model.proofs.Reached.{world_is}
use Rattle.quorum_model.specs.Kept.{IsAnswered}
use Rattle.quorum_model.specs.Shown.{AskedFor}
use Rattle.quorum_network.proofs.Adding.{IsBy, IsLater, IsRepliedBy, given}
use Rattle.quorum_network.proofs.Assembled.{all_self, assembly}
use Rattle.quorum_network.proofs.Going.{GoesOn, grown_log}
use Rattle.quorum_network.proofs.Invariant.{IsSaid}
use Rattle.quorum_network.proofs.Joined.{letters_answer}
use Rattle.quorum_network.proofs.Letters.{Letter}
use Rattle.quorum_network.proofs.Names.{AreAnswers, Client, IsLogOf, Leadership, Network, Peer, answer_of}
use Rattle.quorum_network.proofs.Promised.{acks_are, asked_so, some_letters, stands_log, world}
use Rattle.quorum_network.proofs.Whole.{Stands, asked_among, given_more}
use Rattle.quorum_network.specs.History.{Extends}
use Rattle.std.proofs.Common.{List, ap, arith, inl, inr, length, map, subst, sym, ℕ, ◌++◌, ◌<◌, ◌∙◌, ◌≡◌, ◌≤◌, ◌⊎◌}
use Rattle.std.proofs.lemmas.List.Elements.{Contains-append_cases, Contains-append_left, Contains-append_right}
use Rattle.std.proofs.lemmas.List.{map-append}

abbrev pub answer : Replied → Answer
answer r = record { rank = r.rank; session = r.session; epoch = r.epoch; last = r.last; reply = r.reply }

-- ---- what a reply of a run says

module _ (n : ℕ) (asks : List Asked) (w : World) (asked : AllByRecursion (λ a. Contains asks a) w.asked) (r : Replied) where
  abbrev acks : List Acknowledgement
  acks = map given w.acknowledged

  was_asked : (a : Asked) → Contains w.asked a → Contains asks a
  was_asked a c = of_all (λ a. Contains asks a) w.asked asked a c

  done_is : (v : ℕ) → AllByRecursion (IsKeptIn n w) w.acknowledged → IsAnswered w r v → IsDone asks acks w.log r.rank r.session v
  done_is v kept A =
      let k = of_all (IsKeptIn n w) w.acknowledged kept A.acknowledged A.among in
      let a = A.asked in
      let one : a ≡ record { rank = r.rank; session = r.session; request = a.request } = ap (λ (i : ℕ). record { rank = i; session = a.session; request = a.request }) A.rank ∙ ap (λ (s : Session). record { rank = r.rank; session = s; request = a.request }) A.session in
      record {
        acknowledgement = given A.acknowledged;
        among = in_image given w.acknowledged A.acknowledged A.among;
        version = A.version;
        some = subst (λ (x : ℕ). 1 ≤ x) A.version k.some;
        within = subst (λ (x : ℕ). x ≤ length w.log) A.version k.within;
        request = a.request;
        requested = subst (λ (x : Asked). Contains asks x) one (was_asked a A.was_asked);
        made = ap (λ (i : ℕ). made_by i a.request) (sym A.rank) ∙ A.made;
        put = subst (λ (x : ℕ). Contains (put_in A.acknowledged.what.service (ops_in (entry w.log x))) A.acknowledged.what.incremental) A.version k.put;
      }

  asked_either : (s : Service) → AskedFor w r (request.Show s) ⊎ ((v : ℕ) × AskedFor w r (request.Since s v)) → Requested asks r.rank r.session (request.Show s) ⊎ ((v : ℕ) × Requested asks r.rank r.session (request.Since s v))
  asked_either s (inl c) = inl (was_asked _ c)
  asked_either s (inr (v, c)) = inr (v, was_asked _ c)

  reply_of_log : (q : Reply) → AllByRecursion (IsKeptIn n w) w.acknowledged → ShowsLog w r q → WasAskedFor w r q → DoneIsAnswered w r q → NamesNext w r q → IsOfLog asks acks w.log r.rank r.session r.last q
  reply_of_log (reply.Shown s paxos version map) kept shows for answered next = (
    shows.0,
    shows.1 ∙ ap (λ (k : ℕ). map_of_log s w.log k) (sym shows.0),
    shows.2 ∙ ap (λ (k : ℕ). version_of_log s w.log k) (sym shows.0),
    asked_either s for,
  )
  reply_of_log (reply.Since s from told more) kept shows for answered next = (shows, next, was_asked _ for)
  reply_of_log (reply.Done v) kept shows for answered next = done_is v kept answered
  reply_of_log other kept shows for answered next = tt

-- ---- at one point in time

module _ (ms : Monitors) (asks : List Asked) (acks : List Acknowledgement) (leads : List Leadership) (net : Network) (S : Stands assembly ms asks acks leads net) where
  -- what holds of the run's world
  of_world : (P : World → Type 0) → P (run ms S.reach.events) → P S.w
  of_world P h = subst P (world_is ms S.w S.reach) h

  pub is_log : IsLogOf ms asks acks net S.w.log
  is_log = of_world (λ w. IsLogOf ms asks acks net w.log) (stands_log ms asks acks leads net S)

  in_run : (r : Replied) → Contains (world ms asks acks leads net S).replied r → IsOfThisLog asks acks (world ms asks acks leads net S).log (answer r)
  in_run r c =
      let w : World = run ms S.reach.events in
      let K = safe ms S.reach.events S.reach.fit in
      let shown = of_all (IsShown w) w.replied K.shown r c in
      let answered = of_all (λ (q : Replied). DoneIsAnswered w q q.reply) w.replied K.kept.answered r c in
      let next = of_all (λ (q : Replied). NamesNext w q q.reply) w.replied (name_next ms S.reach.events S.reach.fit) r c in
      let is = reply_of_log ms.count asks w (asked_so ms asks acks leads net S) r r.reply K.kept.each shown.shows shown.asked answered next in
      record { within = shown.within; of_log = subst (λ (xs : List Acknowledgement). IsOfLog asks xs w.log r.rank r.session r.last r.reply) (acks_are ms asks acks leads net S) is }

  one_of_log : (r : Replied) → Contains S.w.replied r → IsOfThisLog asks acks S.w.log (answer r)
  one_of_log = of_world (λ w. (r : Replied) → Contains w.replied r → IsOfThisLog asks acks w.log (answer r)) in_run

  pub all_of_log : AllByRecursion (IsOfThisLog asks acks S.w.log) (map answer S.w.replied)
  all_of_log = all_image answer (IsOfThisLog asks acks S.w.log) S.w.replied (all_self (λ (r : Replied). IsOfThisLog asks acks S.w.log (answer r)) S.w.replied one_of_log)

  -- a letter to a client is of a reply among these
  letter_is : (rs : List Replied) (l : Letter) (c : ℕ) (r : Replied) → Contains rs r → HasText (answer_of ms.count r) → r.rank ≡ l.by → r.session.client ≡ c → l.bytes ≡ text (answer_of ms.count r)
      → IsAnswer ms.count (map answer rs) l.by c l.bytes
  letter_is rs l c r among has rank client is = record { answer = answer r; among = in_image answer rs r among; rank = rank; client = client; has_text = has; is_text = is }

  said_is : (l : Letter) → Contains S.inv.ls l → (c : ℕ) → l.to ≡ Client c → IsAnswer ms.count (map answer S.w.replied) l.by c l.bytes
  said_is l k c e =
      let t = subst (IsSaid ms.count S.w l) e (S.inv.said l k) in
      letter_is S.w.replied l c t.0 t.1 t.2 t.3 t.4 t.5

  pub brings : AreAnswers (IsAnswer ms.count (map answer S.w.replied)) net.sent
  brings = letters_answer S.inv.ls S.inv.letters net.sent S.inv.posted (IsAnswer ms.count (map answer S.w.replied)) said_is

-- ---- at two points in time

module _ (ms : Monitors) (old_asks asks : List Asked) (old_acks acks : List Acknowledgement) (old_leads leads : List Leadership) (earlier later : Network)
    (S : Stands assembly ms old_asks old_acks old_leads earlier) (T : Stands assembly ms asks acks leads later) (G : GoesOn assembly ms old_asks asks old_acks acks old_leads leads earlier later S T) where
  pub extends : Extends T.w.log S.w.log
  extends =
      subst (λ (w : World). Extends w.log S.w.log) (world_is ms T.w T.reach)
      (subst (λ (w : World). Extends (run ms T.reach.events).log w.log) (world_is ms S.w S.reach)
      (grown_log assembly ms old_asks asks old_acks acks old_leads leads earlier later S T G))

  pub acknowledged : acks ≡ old_acks ++ map given G.writes
  acknowledged =
      sym T.given_are ∙ ap (λ (xs : List Acknowledged). map given xs) G.acknowledged ∙ given_more S.w.acknowledged G.writes
      ∙ ap (λ (xs : List Acknowledgement). xs ++ map given G.writes) S.given_are

  pub answered : map answer T.w.replied ≡ map answer S.w.replied ++ map answer G.replies
  answered = ap (λ (xs : List Replied). map answer xs) G.replied ∙ map-append answer S.w.replied G.replies

  -- a reply of a later event is one that was added
  is_later : (r : Replied) → Contains T.w.replied r → S.w.events < r.event → Contains G.replies r
  is_later r c late = elim (Contains-append_cases S.w.replied G.replies r (subst (λ (xs : List Replied). Contains xs r) G.replied c)) [
    | inl old ↦ let early = of_all (IsRepliedBy S.w.events) S.w.replied S.dated r old in absurd (omega (arith, early, late))
    | inr new ↦ new
  ]

  later_is : (l : Letter) → Contains G.letters l → (c : ℕ) → l.to ≡ Client c → IsAnswer ms.count (map answer G.replies) l.by c l.bytes
  later_is l k c e =
      let t = subst (λ (to : Peer). IsLater ms.count S.w.events T.w l.by to l.bytes) e (G.later_replies l k) in
      letter_is ms asks acks leads later T G.replies l c t.0 (is_later t.0 t.1 t.2) t.3 t.4 t.5 t.6

  pub brings_more : AreAnswers (IsAnswer ms.count (map answer G.replies)) G.sent
  brings_more = letters_answer G.letters (some_letters ms asks acks leads later T G.letters G.among) G.sent G.posted (IsAnswer ms.count (map answer G.replies)) later_is

  -- ---- in order

  linear : Linearizable ms.count T.w
  linear = of_world ms asks acks leads later T (Linearizable ms.count) (linearizable ms T.reach.events T.reach.fit)

  each : EachOnward T.w
  each = of_world ms asks acks leads later T EachOnward (each_onward ms T.reach.events T.reach.fit)

  -- what was there before
  record OldWrite (a : Acknowledgement) : Type 0 where
    it : Acknowledged
    among : Contains T.w.acknowledged it
    event : it.event ≤ S.w.events
    is : given it ≡ a

  record OldRead (a : Answer) : Type 0 where
    it : Replied
    among : Contains T.w.replied it
    event : it.event ≤ S.w.events
    is : answer it ≡ a

  record NewWrite (a : Acknowledgement) : Type 0 where
    it : Acknowledged
    among : Contains T.w.acknowledged it
    event : S.w.events < it.event
    is : given it ≡ a

  record NewRead (a : Answer) : Type 0 where
    it : Replied
    among : Contains T.w.replied it
    event : S.w.events < it.event
    is : answer it ≡ a

  old_write : (a : Acknowledgement) → Contains old_acks a → OldWrite a
  old_write a c =
      let o = of_image given S.w.acknowledged a (subst (λ (xs : List Acknowledgement). Contains xs a) (sym S.given_are) c) in
      record { it = o.0; among = subst (λ (xs : List Acknowledged). Contains xs o.0) (sym G.acknowledged) (Contains-append_left S.w.acknowledged G.writes o.0 o.1); event = of_all (IsBy S.w.events) S.w.acknowledged S.numbered o.0 o.1; is = o.2 }

  new_write : (a : Acknowledgement) → Contains (map given G.writes) a → NewWrite a
  new_write a c =
      let o = of_image given G.writes a c in
      record { it = o.0; among = subst (λ (xs : List Acknowledged). Contains xs o.0) (sym G.acknowledged) (Contains-append_right S.w.acknowledged G.writes o.0 o.1); event = of_all (λ (x : Acknowledged). S.w.events < x.event) G.writes G.written o.0 o.1; is = o.2 }

  old_read : (a : Answer) → Contains (map answer S.w.replied) a → OldRead a
  old_read a c =
      let o = of_image answer S.w.replied a c in
      record { it = o.0; among = subst (λ (xs : List Replied). Contains xs o.0) (sym G.replied) (Contains-append_left S.w.replied G.replies o.0 o.1); event = of_all (IsRepliedBy S.w.events) S.w.replied S.dated o.0 o.1; is = o.2 }

  new_read : (a : Answer) → Contains (map answer G.replies) a → NewRead a
  new_read a c =
      let o = of_image answer G.replies a c in
      record { it = o.0; among = subst (λ (xs : List Replied). Contains xs o.0) (sym G.replied) (Contains-append_right S.w.replied G.replies o.0 o.1); event = of_all (λ (x : Replied). S.w.events < x.event) G.replies G.answered o.0 o.1; is = o.2 }

  shows_so : (r : Replied) (a : Answer) → answer r ≡ a → Shows a.reply → Shows r.reply
  shows_so r a e s = subst (λ (x : Answer). Shows x.reply) (sym e) s

  earlier_of : (e f g : ℕ) → e ≤ g → g < f → e < f
  earlier_of e f g a b = omega (arith, a, b)

  pub order : AreInOrder old_acks (map answer S.w.replied) (map given G.writes) (map answer G.replies)
  order = record {
    write_write = λ a b c d same.
        let x = old_write a c in
        let y = new_write b d in
        let v = ap (λ (z : Acknowledgement). z.version) x.is in
        let u = ap (λ (z : Acknowledgement). z.version) y.is in
        let epochs = ap (λ (z : Acknowledgement). z.epoch) x.is ∙ same ∙ sym (ap (λ (z : Acknowledgement). z.epoch) y.is) in
        let before = linear.order (Write x.it) (Write y.it) x.among y.among epochs (earlier_of x.it.event y.it.event S.w.events x.event y.event) in
        omega (arith, v, u, before);
    write_read = λ a b c d same s.
        let x = old_write a c in
        let y = new_read b d in
        let v = ap (λ (z : Acknowledgement). z.version) x.is in
        let u = ap (λ (z : Answer). z.last) y.is in
        let epochs = ap (λ (z : Acknowledgement). z.epoch) x.is ∙ same ∙ sym (ap (λ (z : Answer). z.epoch) y.is) in
        let before = linear.order (Write x.it) (Read y.it) x.among (y.among, shows_so y.it b y.is s) epochs (earlier_of x.it.event y.it.event S.w.events x.event y.event) in
        omega (arith, v, u, before);
    read_write = λ a b c d same s.
        let x = old_read a c in
        let y = new_write b d in
        let v = ap (λ (z : Answer). z.last) x.is in
        let u = ap (λ (z : Acknowledgement). z.version) y.is in
        let epochs = ap (λ (z : Answer). z.epoch) x.is ∙ same ∙ sym (ap (λ (z : Acknowledgement). z.epoch) y.is) in
        let before = linear.order (Read x.it) (Write y.it) (x.among, shows_so x.it a x.is s) y.among epochs (earlier_of x.it.event y.it.event S.w.events x.event y.event) in
        omega (arith, v, u, before);
    read_read = λ a b c d same s t.
        let x = old_read a c in
        let y = new_read b d in
        let v = ap (λ (z : Answer). z.last) x.is in
        let u = ap (λ (z : Answer). z.last) y.is in
        let epochs = ap (λ (z : Answer). z.epoch) x.is ∙ same ∙ sym (ap (λ (z : Answer). z.epoch) y.is) in
        let before = linear.order (Read x.it) (Read y.it) (x.among, shows_so x.it a x.is s) (y.among, shows_so y.it b y.is t) epochs (earlier_of x.it.event y.it.event S.w.events x.event y.event) in
        omega (arith, v, u, before);
    of_monitor = λ a b c d same s t.
        let x = old_read a c in
        let y = new_read b d in
        let v = ap (λ (z : Answer). z.last) x.is in
        let u = ap (λ (z : Answer). z.last) y.is in
        let ranks = ap (λ (z : Answer). z.rank) x.is ∙ same ∙ sym (ap (λ (z : Answer). z.rank) y.is) in
        let pair = of_all (λ (q : Replied). x.it.rank ≡ q.rank → NoOlder x.it q) T.w.replied (of_all (λ (p : Replied). AllByRecursion (λ (q : Replied). p.rank ≡ q.rank → NoOlder p q) T.w.replied) T.w.replied each x.it x.among) y.it y.among in
        let first = x.event in
        let second = y.event in
        let before = pair ranks (shows_so x.it a x.is s) (shows_so y.it b y.is t) (omega (arith, first, second)) in
        omega (arith, v, u, before);
  }

  -- ---- refusals

  refused_world : AllRefused S.w T.w
  refused_world =
      subst (λ (w : World). AllRefused w T.w) (world_is ms S.w S.reach)
      (of_world ms asks acks leads later T (AllRefused (run ms S.reach.events))
      (subst (λ (es : List Event). AllRefused (run ms S.reach.events) (run ms es)) (sym G.is)
      (all_refused ms S.reach.events G.more (subst (AllFit ms.count) G.is T.reach.fit))))

  was : (i : ℕ) (t : Session) (xs olds : List Asked) → AllByRecursion (λ a. Contains olds a) xs → (a : Asked) → a.rank ≡ i → a.session ≡ t → Contains xs a → Requested olds i t a.request
  was i t xs olds all a rank session c =
      let one : a ≡ record { rank = i; session = t; request = a.request } = ap (λ (k : ℕ). record { rank = k; session = a.session; request = a.request }) rank ∙ ap (λ (s : Session). record { rank = i; session = s; request = a.request }) session in
      subst (λ (x : Asked). Contains olds x) one (of_all (λ x. Contains olds x) xs all a c)

  covers : (e v : ℕ) → CoversAll S.w e v → IsNoOlder old_acks e v
  covers e v k = subst (λ (xs : List Acknowledgement). IsNoOlder xs e v) S.given_are (all_image given (λ (a : Acknowledgement). a.epoch ≡ e → a.version ≤ v) S.w.acknowledged k)

  refusal_is : (r : Replied) → model.IsRefused S.w T.w r.rank r.session r.epoch r.reply → IsRefused old_asks asks old_acks T.w.log (answer r)
  refusal_is r R = record {
    request = R.asked.request;
    requested = was r.rank r.session T.w.asked asks (asked_among asks T.w.asked T.asked) R.asked R.rank R.session R.was_asked;
    command = R.command;
    is = R.is;
    version = R.version;
    within = R.within;
    why = R.why;
    refused = R.refused;
    says = R.says;
    since = elim R.since [
      | inl c ↦ inl (was r.rank r.session S.w.asked old_asks (asked_among old_asks S.w.asked S.asked) R.asked R.rank R.session c)
      | inr k ↦ inr (covers r.epoch R.version k)
    ];
  }

  pub refusals : AllByRecursion (λ (a : Answer). IsRefusalReply a.reply → IsRefused old_asks asks old_acks T.w.log a) (map answer T.w.replied)
  refusals = all_image answer (λ (a : Answer). IsRefusalReply a.reply → IsRefused old_asks asks old_acks T.w.log a) T.w.replied
      (all_map (λ (r : Replied). IsRefusalReply r.reply → model.IsRefused S.w T.w r.rank r.session r.epoch r.reply) (λ (r : Replied). IsRefusalReply r.reply → IsRefused old_asks asks old_acks T.w.log (answer r)) (λ r k t. refusal_is r (k t)) T.w.replied refused_world)
