-- What is seen of datagrams is what is seen of the messages that they are of.
use Rattle.law_names.proofs.Runs.{Arrives, Crash, Down, Event, Meeting, Monitors, NoMessage, Reacts, Stop, World, first_world, happens, meets, plain_of, run}
use Rattle.law_names.proofs.Table.{AllByRecursion, Body, HasText, Input, Message, Phase, Scores, Sent, State, epoch_of, range_with_len, readings_of}
use Rattle.mon_decode.proofs.HeaderLaws.{reads_headers}
use Rattle.mon_decode.specs.Headers.{header_of, heading, kind_in, same_kind}
use Rattle.mon_decode.specs.declared.header.Header.{Header}
use Rattle.mon_frag.specs.Pieces.{piece, piece_count, pieces_of}
use Rattle.mon_link.specs.declared.link.Got.TheVariants.{Closed, Datagram, Idle}
use Rattle.mon_link.specs.declared.link.Got.{Got}
use Rattle.mon_link.specs.declared.link.Outgoing.{Outgoing}
use Rattle.mon_link.specs.declared.link.Peer.TheVariants.{Client, Monitor}
use Rattle.mon_link.specs.declared.link.Peer.{Peer}
use Rattle.mon_msg.specs.declared.input.Input.TheVariants as input
use Rattle.mon_msg.specs.declared.plan.Sent.TheVariants as sent
use Rattle.mon_watch.specs.Kinds.{kind_at, kind_named}
use Rattle.mon_watch.specs.Seen.{after_header, after_heard, after_phase, header_heard, header_read, nothing_seen, shown, taken_from}
use Rattle.mon_watch.specs.Traffic.{no_notes, notes_got, notes_sent}
use Rattle.mon_watch.specs.declared.notes.Notes.{Notes}
use Rattle.mon_watch.specs.declared.seen.Seen.{Seen}
use Rattle.mon_wire.proofs.BodyLengths.{length-message}
use Rattle.mon_wire.specs.Message.Bodies.{encoded}
use Rattle.mon_wire.specs.Message.Length.{message_length}
use Rattle.mon_wire.specs.Message.PartLengths.{table_length}
use Rattle.mon_wire.specs.Message.Whole.{text}
use Rattle.mon_wire.specs.declared.body.Body.TheVariants as body
use Rattle.mon_wire.specs.declared.kind.Kind.TheVariants as kind
use Rattle.std.proofs.Common.{Bool, Err, List, None, Ok, Option, Result, Some, [], ap, arith, cond, eqb, false, inl, inr, is_some, leb, length, map, not, refl, subst, sym, true, ℕ, ◌*◌, ◌++◌, ◌+◌, ◌<◌, ◌||◌, ◌∙◌, ◌∷◌, ◌≡◌, ◌≤◌}
use Rattle.std.proofs.lemmas.Bool.Decides.{nat_tests}
use Rattle.std.proofs.lemmas.List.{take_all}
use Rattle.std.proofs.lemmas.Nat.{mul-le}
use Rattle.watch_laws.proofs.Runs.{watch_is_so}
use Rattle.watch_laws.specs.Datagrams.{AreOf, Call, Comes, Goes, IsToClient, LinkIsSo, given, is_short, noted, sent_at, sent_before, sent_from, sent_on, to_peer}
use Rattle.watch_laws.specs.Watching.{IsSo, ReadsShort, after_all, after_message, fits, lags, seen_at, seen_before, seen_from, seen_on}

-- ---- what is said of a monitor

pub record ShowsSame (a b : Seen) : Type 0 where
  phase : a.phase ≡ b.phase
  epoch : a.epoch ≡ b.epoch
  leader : a.leader ≡ b.leader
  source : a.source ≡ b.source

pub same_of : (s : Seen) → ShowsSame s s
same_of s = record { phase = refl; epoch = refl; leader = refl; source = refl }

pub is_so : (own : ℕ) (a b : Seen) (e : ℕ) (s : State) → ShowsSame a b → IsSo own b e s → IsSo own a e s
is_so own a b e s same (inl l) = inl (subst (λ p. lags p s.phase ≡ true) (sym same.phase) l)
is_so own a b e s same (inr h) = inr (record {
  shows = subst (λ p. fits p s.phase ≡ true) (sym same.phase) h.shows;
  epoch = same.epoch ∙ h.epoch;
  leader = same.leader ∙ h.leader;
  source = λ is. same.source ∙ h.source is;
})

-- ---- one datagram

header_same : (own to : ℕ) (h : Option Header) (a b : Seen) → ShowsSame a b → ShowsSame (after_header own to h a) (after_header own to h b)
header_same own to None a b same = same
header_same own to (Some h) a b same = phase_same (shown h.kind)
  where
    phase_same : (p : Option Phase) → ShowsSame (after_phase own to h p a) (after_phase own to h p b)
    phase_same None = same
    phase_same (Some p) = record { phase = refl; epoch = refl; leader = refl; source = ap (λ x. taken_from to p x) same.source }

-- what is seen of a datagram, without what is noted of other monitors
abbrev pub one : (own : ℕ) → Peer → List ℕ → Seen → Seen
one own (Monitor to) bytes s = after_header own to (header_read (kind_named bytes) bytes) s
one own (Client c) bytes s = s

abbrev pub all : (own : ℕ) → List Outgoing → Seen → Seen
all own [] s = s
all own (d ∷ ds) s = all own ds (one own d.to d.bytes s)

pub goes_same : (own : ℕ) (to : Peer) (bytes : List ℕ) (n : Notes) (s : Seen) → ShowsSame n.seen s → ShowsSame (notes_sent own to bytes n).seen (one own to bytes s)
goes_same own (Monitor to) bytes n s same =
    let h = header_same own to (header_read (kind_named bytes) bytes) n.seen s same in
    record { phase = h.phase; epoch = h.epoch; leader = h.leader; source = h.source }
goes_same own (Client c) bytes n s same = same

heard_same : (from : ℕ) (h : Option Header) (s : Seen) → ShowsSame (after_heard from h s) s
heard_same from None s = same_of s
heard_same from (Some h) s = record { phase = refl; epoch = refl; leader = refl; source = refl }

pub comes_same : (now : ℕ) (got : Got) (n : Notes) (s : Seen) → ShowsSame n.seen s → ShowsSame (notes_got now got n).seen s
comes_same now (Datagram (Monitor from) bytes) n s same =
    let h = heard_same from (header_heard (kind_named bytes) bytes) n.seen in
    record { phase = h.phase ∙ same.phase; epoch = h.epoch ∙ same.epoch; leader = h.leader ∙ same.leader; source = h.source ∙ same.source }
comes_same now (Datagram (Client c) bytes) n s same = same
comes_same now Idle n s same = same
comes_same now Closed n s same = same

calls_same : (own : ℕ) (calls : List Call) (n : Notes) (s : Seen) → ShowsSame n.seen s → ShowsSame (noted own calls n).seen (all own (given calls) s)
calls_same own [] n s same = same
calls_same own (Goes to bytes ∷ calls) n s same = calls_same own calls (notes_sent own to bytes n) (one own to bytes s) (goes_same own to bytes n s same)
calls_same own (Comes now got ∷ calls) n s same = calls_same own calls (notes_got now got n) s (comes_same now got n s same)

-- ---- a message in one datagram

named_at : (n own : ℕ) (b : Body) → kind_at (encoded n own b).tag ≡ Some (kind_in b)
named_at n own body.Probe = refl
named_at n own other = refl

header_in : (m : Message) → HasText m → header_of (text m) ≡ Some (heading m)
header_in m h =
    let n = 28 + length (text m) in
    ap header_of (sym (take_all n (text m) (omega arith))) ∙ reads_headers m n h (omega arith)

if_shown : (own to : ℕ) (h : Header) (s : Seen) (p : Option Phase) → shown h.kind ≡ p → after_header own to (cond (is_some p) (Some h) None) s ≡ after_header own to (Some h) s
if_shown own to h s None e = sym (ap (λ p. after_phase own to h p s) e)
if_shown own to h s (Some p) e = refl

text_read : (own to : ℕ) (m : Message) (s : Seen) → HasText m → after_header own to (header_read (kind_named (text m)) (text m)) s ≡ after_header own to (Some (heading m)) s
text_read own to m s h =
    ap (λ k. after_header own to (header_read k (text m)) s) (named_at m.monitors m.from m.body)
    ∙ ap (λ x. after_header own to (cond (is_some (shown (kind_in m.body))) x None) s) (header_in m h)
    ∙ if_shown own to (heading m) s (shown (kind_in m.body)) refl

-- ---- a message in pieces

pieces_unread : (own to : ℕ) (bytes : List ℕ) (boot seq : ℕ) (ks : List ℕ) (rest : List Outgoing) (s : Seen)
    → all own (map (to_peer (Monitor to)) (map (λ k. piece bytes boot seq (59000 * k)) ks) ++ rest) s ≡ all own rest s
pieces_unread own to bytes boot seq [] rest s = refl
pieces_unread own to bytes boot seq (k ∷ ks) rest s = pieces_unread own to bytes boot seq ks rest s

table_short : (n : ℕ) (t : Option Scores) → n ≤ 15 → table_length n t ≤ 2000
table_short n None few = omega arith
table_short n (Some t) few = omega (arith, mul-le n (16 + 4 * n) 15 76 few (omega (arith, few)))

-- A message that is longer than a datagram shows no phase, or is a LAST.
long_unseen : (own to : ℕ) (b : Body) (from monitors epoch : ℕ) (s : Seen) → monitors ≤ 15 → 60000 < message_length monitors b → (long : Bool) → long ≡ false
    → cond (not (same_kind (kind_in b) kind.Last) || long) (after_header own to (Some (heading (record { from = from; monitors = monitors; epoch = epoch; body = b }))) s) s ≡ s
long_unseen own to body.Probe from monitors epoch s few far long e = absurd (omega (arith, far))
long_unseen own to (body.Propose t) from monitors epoch s few far long e = absurd (omega (arith, far, table_short monitors t few))
long_unseen own to body.Ack from monitors epoch s few far long e = absurd (omega (arith, far))
long_unseen own to (body.Victory quorum) from monitors epoch s few far long e = absurd (omega (arith, far))
long_unseen own to (body.Collect pn first last) from monitors epoch s few far long e = absurd (omega (arith, far))
long_unseen own to (body.Last pn first l whole at values pending) from monitors epoch s few far long e =
    ap (λ b. cond b (after_header own to (Some (heading (record { from = from; monitors = monitors; epoch = epoch; body = body.Last pn first l whole at values pending }))) s) s) e
long_unseen own to (body.Accept pn version) from monitors epoch s few far long e = absurd (omega (arith, far))
long_unseen own to (body.Lease l) from monitors epoch s few far long e = absurd (omega (arith, far))
long_unseen own to (body.LeaseAck l) from monitors epoch s few far long e = absurd (omega (arith, far))
long_unseen own to body.GetCookieFull from monitors epoch s few far long e = absurd (omega (arith, far))
long_unseen own to (body.GetCookieRecent l) from monitors epoch s few far long e = absurd (omega (arith, far))
long_unseen own to other from monitors epoch s few far long e = refl

-- ---- what a core sends

either_true : (a b : Bool) → b ≡ true → (a || b) ≡ true
either_true true b e = refl
either_true false b e = e

message_all : (own to : ℕ) (m : Message) (boot seq : ℕ) (rest : List Outgoing) (s : Seen) → HasText m
    → all own (map (to_peer (Monitor to)) (pieces_of (text m) boot seq) ++ rest) s ≡ all own rest (after_message own is_short to m s)
message_all own to m boot seq rest s h = by (leb (length (text m)) 60000) refl
  where
    P : Bool → Type 0
    P b = all own (map (to_peer (Monitor to)) (cond b (text m ∷ []) (map (λ k. piece (text m) boot seq (59000 * k)) (range_with_len 0 (piece_count (length (text m)))))) ++ rest) s
        ≡ all own rest (after_message own is_short to m s)

    by : (b : Bool) → leb (length (text m)) 60000 ≡ b → P b
    by true e =
        let read : is_short m ≡ true = either_true (not (same_kind (kind_in m.body) kind.Last)) (leb (length (text m)) 60000) e in
        ap (all own rest) (text_read own to m s h ∙ sym (ap (λ b. cond b (after_header own to (Some (heading m)) s) s) read))
    by false e =
        let far : 60000 < length (text m) = grind (arith, nat_tests, e) in
        let long : 60000 < message_length m.monitors m.body = omega (arith, far, length-message m h.form) in
        pieces_unread own to (text m) boot seq (range_with_len 0 (piece_count (length (text m)))) rest s
        ∙ ap (all own rest) (sym (long_unseen own to m.body m.from m.monitors m.epoch s h.form.monitors long (leb (length (text m)) 60000) e))

clients_all : (own : ℕ) (these rest : List Outgoing) (s : Seen) → AllByRecursion IsToClient these → all own (these ++ rest) s ≡ all own rest s
clients_all own [] rest s h = refl
clients_all own (d ∷ these) rest s h = ap (λ to. all own (these ++ rest) (one own to d.bytes s)) h.0.1 ∙ clients_all own these rest s h.1

pub sent_all : (own : ℕ) (out : List Sent) (ds : List Outgoing) (s : Seen) → AreOf out ds → all own ds s ≡ after_all own is_short out s
sent_all own [] ds s h = ap (λ ds. all own ds s) h
sent_all own (sent.Message to m ∷ out) ds s h =
    ap (λ ds. all own ds s) h.1.3 ∙ message_all own to m h.1.0 h.1.1 h.1.2 s h.0 ∙ sent_all own out h.1.2 (after_message own is_short to m s) h.1.4
sent_all own (sent.Reply session r ∷ out) ds s h = ap (λ ds. all own ds s) h.3 ∙ clients_all own h.0 h.1 s h.2 ∙ sent_all own out h.1 s h.4

-- ---- since the monitor started

module _ (i : ℕ) where
  abbrev seen_of : List Sent → Seen
  seen_of out = after_all i is_short out nothing_seen

  append_all : (out more : List Sent) (s : Seen) → after_all i is_short (out ++ more) s ≡ after_all i is_short more (after_all i is_short out s)
  append_all [] more s = refl
  append_all (sent.Message to m ∷ out) more s = append_all out more (after_message i is_short to m s)
  append_all (sent.Reply session r ∷ out) more s = append_all out more s

  before_same : (came : Input) (out more : List Sent) → after_all i is_short more (seen_before i is_short came (seen_of out)) ≡ seen_of (sent_before i came out ++ more)
  before_same input.Start out more = refl
  before_same (input.Deliver m) out more = sym (append_all out more nothing_seen)
  before_same (input.Timer t) out more = sym (append_all out more nothing_seen)
  before_same (input.Client session r) out more = sym (append_all out more nothing_seen)

  at_same : (e : Event) (met : Meeting) (out : List Sent) → seen_at i is_short e met (seen_of out) ≡ seen_of (sent_at i e met out)
  at_same (Arrives p) (Reacts rank came (Ok r)) out = by (eqb rank i)
    where
      by : (b : Bool) → cond b (after_all i is_short r.sends (seen_before i is_short came (seen_of out))) (seen_of out) ≡ seen_of (cond b (sent_before i came out ++ r.sends) out)
      by true = before_same came out r.sends
      by false = refl
  at_same (Arrives p) (Reacts rank came (Err e)) out = refl
  at_same (Arrives p) NoMessage out = refl
  at_same (Arrives p) Down out = refl
  at_same (Crash p kept) met out = refl

  from_same : (ms : Monitors) (w : World) (es : List Event) (out : List Sent) → seen_from i is_short ms w es (seen_of out) ≡ seen_of (sent_from i ms w es out)
  unfolding seen_from sent_from
  from_same ms w [] out = refl
  from_same ms w (e ∷ es) out = by (λ next. from_same ms next es (sent_at i e met out)) (happens ms w e)
    where
      met : Meeting
      met = meets ms w (plain_of e)

      by : ((next : World) → seen_from i is_short ms next es (seen_of (sent_at i e met out)) ≡ seen_of (sent_from i ms next es (sent_at i e met out))) → (r : Result World Stop)
          → seen_on i is_short (λ next. seen_from i is_short ms next es (seen_at i is_short e met (seen_of out))) (seen_of out) r
          ≡ seen_of (sent_on i (λ next. sent_from i ms next es (sent_at i e met out)) out r)
      by later (Ok next) = ap (λ s. seen_from i is_short ms next es s) (at_same e met out) ∙ later next
      by later (Err stop) = refl

pub reads_short : ReadsShort is_short
reads_short m e = subst (λ b. (not b || leb (length (text m)) 60000) ≡ true) (sym e) refl

pub link_is_so : LinkIsSo
link_is_so ms events fit several i s up calls are =
    let e = epoch_of (readings_of ((run ms events).store i)) in
    let out = sent_from i ms first_world events [] in
    let seen = seen_from i is_short ms first_world events nothing_seen in
    let shown : ShowsSame (noted i calls no_notes).seen (all i (given calls) nothing_seen) = calls_same i calls no_notes nothing_seen (same_of nothing_seen) in
    let same : all i (given calls) nothing_seen ≡ seen = sent_all i out (given calls) nothing_seen are ∙ sym (from_same i ms first_world events []) in
    is_so i (noted i calls no_notes).seen seen e s (subst (ShowsSame (noted i calls no_notes).seen) same shown) (watch_is_so ms events fit several is_short reads_short i s up)
