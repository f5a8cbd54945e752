-- What an iteration leaves, and how iterations go on.
use Rattle.std.proofs.Common.{◌≡◌, ℕ, ◌+◌, ◌≤◌, inl, inr, List, [], ◌∷◌, ◌++◌, length, take, Option, Some, None, Result, Ok, Err, refl, sym, ap, subst, ◌∙◌, append_assoc, arith}
use Rattle.std.proofs.Math.Nat.{le_refl}
use Rattle.std.proofs.Math.Seq.{take-append_seam, take-append-add, take-length}
use Rattle.std.specs.Prelude.{IfErr, IfSome, OnOk, ◌%◌}
use Rattle.std.specs.Option.{option_map}
use Rattle.mon_frag.specs.declared.partial.Partial.{Partial}
use Rattle.mon_link.specs.Histories.{Happened, GoOn}
use Rattle.mon_link.specs.Histories.Happened.{Received}
use Rattle.mon_link.specs.Links.{Observed, asked_to_send, next_leaves}
use Rattle.mon_link.specs.declared.link.Got.{Got}
use Rattle.mon_link.specs.declared.link.Got.TheVariants.{Closed, Datagram, Idle}
use Rattle.mon_link.specs.declared.link.Peer.TheVariants.{Monitor}
use Rattle.mon_link.specs.declared.link.Peer.{Peer}
use Rattle.mon_types.specs.declared.names.Stop.{Stop}
use Rattle.mon_types.specs.declared.names.Stop.TheVariants as stop
use Rattle.mon_wire.specs.Message.Whole.{text}
use Rattle.mon_wire.specs.declared.reply.Reply.{Reply}
use Rattle.map_follower.specs.Copies.{taken}
use Rattle.map_follower.specs.Iterations.{CopyAt, Course, Iterated, Does, Ends, EndsAfter, Follows, AreAnswers, IsAnswer, SentPrefix, WrittenPrefix, Writes, WritesPrefix, all_turned, and_turned, answered, asked, goes_on, line_of, request_of, turned, with_datagram, with_reply}
use Rattle.map_follower.specs.Talking.{AllWent, Answer, Asks, AsksBy, LackedAt, SendsOrNot, TalkIteration, Talks, WentAt, WentBy, WentUntil, asked_with, happened}
use Rattle.map_follower.specs.declared.end.FollowEnd.{FollowEnd}
use Rattle.map_follower.specs.declared.end.FollowEnd.TheVariants as end
use Rattle.map_follower.specs.declared.follower.Follower.{Follower}

pub same_sent : (l : Option Observed) → SentPrefix l l l
same_sent None = (0, tt, refl)
same_sent (Some t) = (length t.sent, le_refl (length t.sent), λ i. Some (record t { sent = sym (take-length t.sent) i }))

pub not_sent : (to : Peer) (bytes : List ℕ) (l : Option Observed) → SentPrefix l (option_map (asked_to_send to bytes) l) l
not_sent to bytes None = (0, tt, refl)
not_sent to bytes (Some t) = (length t.sent, le_refl (length t.sent), λ i. Some (record t { sent = sym (take-append_seam t.sent (record { to = to; bytes = bytes } ∷ [])) i }))

pub same_written : (w : Option (List ℕ)) → WrittenPrefix w w w
same_written None = (0, tt, refl)
same_written (Some xs) = (length xs, le_refl (length xs), λ i. Some (sym (take-length xs) i))

none_written : (w : Option (List ℕ)) (line : List ℕ) → WrittenPrefix w (option_map (λ xs. xs ++ line) w) w
none_written None line = (0, tt, refl)
none_written (Some xs) line = (length xs, le_refl (length xs), λ i. Some (sym (take-append_seam xs line) i))

front_written : (old new : Option (List ℕ)) (line : List ℕ) (k : ℕ) → Writes old new (take k line) → WrittenPrefix old (option_map (λ xs. xs ++ line) old) new
front_written None new line k h = (0, tt, h)
front_written (Some xs) new line k h = let more : length xs ≤ length xs + k = omega arith in (length xs + k, more, h ∙ (λ i. Some (sym (take-append-add xs line k) i)))

-- ---- a reply

pub none_with : (c : Course) (r : Option Reply) → WrittenPrefix c.written (with_reply c r).written c.written
none_with c None = same_written c.written
none_with c (Some r) = none_written c.written (line_of (taken c.follower r))

pub sent_with : (c : Course) (r : Option Reply) → SentPrefix c.link (with_reply c r).link c.link
sent_with c None = same_sent c.link
sent_with c (Some r) = same_sent c.link

pub does_reply : (result : Result (Unit {0}) FollowEnd) (parts : List Partial) (c : Course) (r : Reply) (f : Follower) (w : Option (List ℕ)) → OnOk result (f ≡ (taken c.follower r).0)
    → IfErr result (λ e. CopyAt e c.follower (taken c.follower r).0 f)
    → OnOk result (Writes c.written w (line_of (taken c.follower r))) → IfErr result (λ e. WritesPrefix e c.written w (line_of (taken c.follower r)))
    → Does result (record c { parts = parts }) (goes_on (with_reply c (Some r))) (record c { follower = f; written = w })
does_reply (Ok x) parts c r f w is copy text front = λ i. goes_on (record c { follower = sym is i; written = sym text i })
does_reply (Err end.WriteFault) parts c r f w is copy text front = (copy, (refl, refl, front_written c.written w (line_of (taken c.follower r)) front.0 front.1))
does_reply (Err end.OutOfMemory) parts c r f w is copy text front = (copy, (same_sent c.link, front_written c.written w (line_of (taken c.follower r)) front.0 front.1))
does_reply (Err end.Closed) parts c r f w is copy text front = absurd front
does_reply (Err end.TurnsUsed) parts c r f w is copy text front = absurd front
does_reply (Err end.LinkFault) parts c r f w is copy text front = absurd front

-- ---- iterations

-- a wait of the link sends nothing
waits_alone : (g : Result Got Stop) (l : Option Observed) (k : ℕ) → IfSome (option_map (next_leaves 1000 g) l) (λ t. length t.sent ≤ k) → IfSome l (λ t. length t.sent ≤ k)
waits_alone g None k h = tt
waits_alone (Ok got) (Some t) k h = h
waits_alone (Err stop.Failed) (Some t) k h = h
waits_alone (Err stop.OutOfMemory) (Some t) k h = h

sent_before : (g : Result Got Stop) (l updates whole new : Option Observed) → updates ≡ option_map (next_leaves 1000 g) l → SentPrefix updates whole new → SentPrefix l whole new
sent_before g l updates whole new leaves p = (p.0, waits_alone g l p.0 (subst (λ x. IfSome x (λ t. length t.sent ≤ p.0)) leaves p.1), p.2)

-- what is done after the wait is done in the iteration
asked_before : (r : Result (Unit {0}) FollowEnd) (g : Result Got Stop) (old : Course) (updates : Option Observed) → updates ≡ option_map (next_leaves 1000 g) old.link
    → (t : Iterated) (new : Course) → Does r (record old { link = updates }) t new → Does r old t new
asked_before (Ok x) g old updates leaves t new h = h
asked_before (Err end.WriteFault) g old updates leaves t new h = h
asked_before (Err end.OutOfMemory) g old updates leaves t new h = (h.0, (sent_before g old.link updates t.course.link new.link leaves h.1.0, h.1.1))
asked_before (Err end.Closed) g old updates leaves t new h = h
asked_before (Err end.LinkFault) g old updates leaves t new h = h
asked_before (Err end.TurnsUsed) g old updates leaves t new h = absurd h.1

pub iteration_with : (n : ℕ) (r : Result (Unit {0}) FollowEnd) (g : Result Got Stop) (from : Peer) (bytes shown : List ℕ) → g ≡ Ok (Datagram from bytes) → shown ≡ bytes
    → (old : Course) (updates : Option Observed) → updates ≡ option_map (next_leaves 1000 g) old.link → (new : Course)
    → Does r (record old { link = updates }) (goes_on (with_datagram n from shown (record old { link = updates }))) new → Does r old (turned n g old) new
iteration_with n r g from bytes shown is same old updates leaves new does =
    subst (λ l. Does r old (answered n g (record old { link = l })) new) leaves
    (subst (λ z. Does r old (answered n z (record old { link = updates })) new) (sym is)
    (subst (λ b. Does r old (goes_on (with_datagram n from b (record old { link = updates }))) new) same
    (asked_before r g old updates leaves (goes_on (with_datagram n from shown (record old { link = updates }))) new does)))

pub iteration_idle : (n : ℕ) (r : Result (Unit {0}) FollowEnd) (g : Result Got Stop) → g ≡ Ok Idle
    → (old : Course) (updates : Option Observed) → updates ≡ option_map (next_leaves 1000 g) old.link → (new : Course)
    → Does r (record old { link = updates }) (goes_on (asked n (record old { link = updates }))) new → Does r old (turned n g old) new
iteration_idle n r g is old updates leaves new does =
    subst (λ l. Does r old (answered n g (record old { link = l })) new) leaves
    (subst (λ z. Does r old (answered n z (record old { link = updates })) new) (sym is)
    (asked_before r g old updates leaves (goes_on (asked n (record old { link = updates }))) new does))

out_sent : (l : Option Observed) → SentPrefix l (option_map (next_leaves 1000 (Err stop.OutOfMemory)) l) (option_map (next_leaves 1000 (Err stop.OutOfMemory)) l)
out_sent None = same_sent None
out_sent (Some t) = same_sent (Some t)

pub iteration_out : (n : ℕ) (g : Result Got Stop) → g ≡ Err stop.OutOfMemory → (old : Course) (updates : Option Observed) → updates ≡ option_map (next_leaves 1000 g) old.link
    → SentPrefix old.link (turned n g old).course.link updates × WrittenPrefix old.written (turned n g old).course.written old.written
iteration_out n g is old updates leaves =
    subst (λ z. SentPrefix old.link (turned n z old).course.link updates × WrittenPrefix old.written (turned n z old).course.written old.written) (sym is) (
      subst (SentPrefix old.link (option_map (next_leaves 1000 (Err stop.OutOfMemory)) old.link)) (sym (leaves ∙ ap (λ z. option_map (next_leaves 1000 z) old.link) is)) (out_sent old.link),
      same_written old.written,
    )

-- the link reports that it is closed, or that it couldn't receive
pub iteration_closed : (n : ℕ) (g : Result Got Stop) → g ≡ Ok Closed → (old : Course) (updates : Option Observed) → updates ≡ option_map (next_leaves 1000 g) old.link
    → Does (Err end.Closed) old (turned n g old) (record old { link = updates })
iteration_closed n g is old updates leaves =
    subst (λ (z : Result Got Stop). updates ≡ option_map (next_leaves 1000 z) old.link → Does (Err end.Closed) old (turned n z old) (record old { link = updates })) (sym is)
    (λ l. (refl, (refl, l, refl))) leaves

pub iteration_failed : (n : ℕ) (g : Result Got Stop) → g ≡ Err stop.Failed → (old : Course) (updates : Option Observed) → updates ≡ option_map (next_leaves 1000 g) old.link
    → Does (Err end.LinkFault) old (turned n g old) (record old { link = updates })
iteration_failed n g is old updates leaves =
    subst (λ (z : Result Got Stop). updates ≡ option_map (next_leaves 1000 z) old.link → Does (Err end.LinkFault) old (turned n z old) (record old { link = updates })) (sym is)
    (λ l. (refl, (refl, l, refl))) leaves

pub ends_after : (turns made : ℕ) (e : FollowEnd) (before : Course) (t : Iterated) (new : Course) → Ends e before t new → EndsAfter turns e made before t new
ends_after turns made end.WriteFault before t new h = h
ends_after turns made end.OutOfMemory before t new h = h
ends_after turns made end.Closed before t new h = h
ends_after turns made end.LinkFault before t new h = h
ends_after turns made end.TurnsUsed before t new h = absurd h.1

-- ---- what happened on the link

go_further : (P Q R : List Happened → Type 0) (xs ys : List Happened) → GoOn P xs Q → GoOn Q ys R → GoOn P (xs ++ ys) R
go_further P Q R xs ys f g h old = subst R (append_assoc h xs ys) (g (h ++ xs) (f h old))

pub none_lacks : (e : FollowEnd) → LackedAt e None
none_lacks end.OutOfMemory = inl refl
none_lacks end.Closed = refl
none_lacks end.TurnsUsed = refl
none_lacks end.LinkFault = refl
none_lacks end.WriteFault = refl

module _ (n : ℕ) (c : Course) (P Q : List Happened → Type 0) where
  abbrev to : Peer
  to = Monitor (c.asks % n)

  abbrev bytes : List ℕ
  bytes = text (request_of n c.asks c.follower)

  pub was_asked : SendsOrNot {T = Unit {0}} {E = Unit {0}} to bytes (Ok tt) P Q → Asks {T = Unit {0}} n c (Ok tt) P Q
  was_asked h = record { answer = Some h.0; went = h.1; goes_on = h.2 }

  pub not_asked : SendsOrNot {T = Unit {0}} {E = Unit {0}} to bytes (Err tt) P Q → Asks {T = Unit {0}} n c (Err end.OutOfMemory) P Q
  not_asked h = elim h [
    | inl none ↦ record { answer = None; went = inl refl; goes_on = none }
    | inr lacked ↦ record { answer = Some (Err stop.OutOfMemory); went = inr refl; goes_on = lacked }
  ]

-- an iteration at which the client ends isn't the last of all
abbrev IsNoUse : FollowEnd → Type 0
IsNoUse end.TurnsUsed = ⊥
IsNoUse other = Unit {0}

not_used : (e : FollowEnd) (before : Course) (t : Iterated) (new : Course) → Ends e before t new → IsNoUse e
not_used end.OutOfMemory before t new h = tt
not_used end.Closed before t new h = tt
not_used end.TurnsUsed before t new h = absurd h.1
not_used end.LinkFault before t new h = tt
not_used end.WriteFault before t new h = tt

first_talk : (e : FollowEnd) (a : Answer) → IsNoUse e → LackedAt e a → WentUntil e [] (a ∷ [])
first_talk end.OutOfMemory a last h = (h, refl)
first_talk end.Closed a last h = (h, refl)
first_talk end.TurnsUsed a last h = absurd last
first_talk end.LinkFault a last h = (h, refl)
first_talk end.WriteFault a last h = (h, refl)

ends_talk : (e : FollowEnd) (g : Result Got Stop) (earlier : List (Result Got Stop)) (a : Answer) (others : List Answer) → IsNoUse e → LackedAt e a → AllWent earlier others → WentUntil e (g ∷ earlier) (a ∷ others)
ends_talk end.OutOfMemory g earlier a others last h all = (h, all)
ends_talk end.Closed g earlier a others last h all = (h, all)
ends_talk end.TurnsUsed g earlier a others last h all = absurd last
ends_talk end.LinkFault g earlier a others last h all = (h, all)
ends_talk end.WriteFault g earlier a others last h all = (h, all)

used_talk : (given : List (Result Got Stop)) (answers : List Answer) → AllWent given answers → WentUntil end.TurnsUsed given answers
used_talk [] [] all = absurd all
used_talk (g ∷ earlier) [] all = absurd all
used_talk [] (a ∷ others) all = all
used_talk (g ∷ earlier) (a ∷ others) all = all

module _ (n : ℕ) (old : Course) (g : Result Got Stop) (P Q : List Happened → Type 0) (asks : GoOn P (Received 1000 g ∷ []) Q) where
  -- nothing was sent
  pub silent_talk : (r : Result (Unit {0}) FollowEnd) → WentBy g None → TalkIteration n old g r P Q
  silent_talk r none = record { answer = None; went = by r; goes_on = asks }
    where
      by : (r : Result (Unit {0}) FollowEnd) → WentAt r g None
      by (Ok x) = none
      by (Err e) = none_lacks e

  pub ends_silent : (e : FollowEnd) → TalkIteration n old g (Err e) P Q
  ends_silent e = record { answer = None; went = none_lacks e; goes_on = asks }

  -- nothing came, and the next request was sent, or not
  pub idle_talk : (R : List Happened → Type 0) (r : Result (Unit {0}) FollowEnd) (link : Option Observed) → g ≡ Ok Idle → Asks n (record old { link = link }) r Q R → TalkIteration n old g r P R
  idle_talk R r link is sends = record {
    answer = sends.answer;
    went = by r sends.went;
    goes_on = go_further P Q R (Received 1000 g ∷ []) (asked_with n old sends.answer) asks sends.goes_on;
  }
    where
      by : (r : Result (Unit {0}) FollowEnd) → AsksBy r sends.answer → WentAt r g sends.answer
      by (Ok x) h = subst (λ (z : Result Got Stop). WentBy z sends.answer) (sym is) h
      by (Err e) h = h

-- this many iterations led from one course to another
pub record Leads (n made : ℕ) (old now : Course) (before mid : List Happened → Type 0) : Type 0 where
  pub given : List (Result Got Stop)
  pub are : AreAnswers n old given
  pub long : length given ≡ made
  pub leads : all_turned n old given ≡ goes_on now
  pub answers : List Answer
  pub went : AllWent given answers
  pub talk : GoOn before (happened n old given answers) mid

pub begins : (n : ℕ) (old now : Course) (before mid : List Happened → Type 0) → goes_on (asked n old) ≡ goes_on now → Asks {T = Unit {0}} n old (Ok tt) before mid → Leads n 0 old now before mid
begins n old now before mid h asks = record { given = []; are = tt; long = refl; leads = h; answers = asks.answer ∷ []; went = (asks.went, refl); talk = asks.goes_on }

module _ (n made : ℕ) (old now : Course) (before mid : List Happened → Type 0) (L : Leads n made old now before mid) (g : Result Got Stop) (answer : IsAnswer now.link g) where
  one_more : all_turned n old (g ∷ L.given) ≡ turned n g now
  one_more = ap (and_turned n g) L.leads

  are_more : AreAnswers n old (g ∷ L.given)
  are_more = (L.are, subst (λ (t : Iterated). IsAnswer t.course.link g) (sym L.leads) answer)

  -- what happened in the iteration comes after what happened before
  talk_more : (a : Answer) (after : List Happened → Type 0) → GoOn mid (Received 1000 g ∷ asked_with n now a) after → GoOn before (happened n old (g ∷ L.given) (a ∷ L.answers)) after
  talk_more a after talk =
      go_further before mid after (happened n old L.given L.answers) (Received 1000 g ∷ asked_with n (all_turned n old L.given).course a) L.talk
      (subst (λ (t : Iterated). GoOn mid (Received 1000 g ∷ asked_with n t.course a) after) (sym L.leads) talk)

  pub leads_on : (next : Course) (after : List Happened → Type 0) → turned n g now ≡ goes_on next → TalkIteration n now g (Ok tt) mid after → Leads n (made + 1) old next before after
  leads_on next after h talk = record {
    given = g ∷ L.given;
    are = are_more;
    long = omega (arith, L.long);
    leads = one_more ∙ h;
    answers = talk.answer ∷ L.answers;
    went = (talk.went, L.went);
    talk = talk_more talk.answer after talk.goes_on;
  }

  follows_at : (turns : ℕ) (e : FollowEnd) (new : Course) → made + 1 ≤ turns → Ends e now (turned n g now) new → Follows n turns old new e
  follows_at turns e new few h = record {
    given = g ∷ L.given;
    are = are_more;
    most = omega (arith, L.long, few);
    ends =
        ends_after turns (length (g ∷ L.given)) e _ _ new
        (subst (λ (t : Iterated). Ends e (all_turned n old L.given).course t new) (sym one_more)
        (subst (λ (c : Course). Ends e c (turned n g now) new) (sym (ap (λ (t : Iterated). t.course) L.leads)) h));
  }

  pub ends_at : (turns : ℕ) (e : FollowEnd) (new : Course) (after : List Happened → Type 0) → made + 1 ≤ turns → Ends e now (turned n g now) new → TalkIteration n now g (Err e) mid after
      → (F : Follows n turns old new e) × Talks n old e F.given before after
  unfolding follows_at
  ends_at turns e new after few h talk = (
    follows_at turns e new few h,
    record {
      answers = talk.answer ∷ L.answers;
      went = ends_talk e g L.given talk.answer L.answers (not_used e now (turned n g now) new h) talk.went L.went;
      goes_on = talk_more talk.answer after talk.goes_on;
    },
  )

pub ends_first : (n turns : ℕ) (e : FollowEnd) (old new : Course) (before after : List Happened → Type 0) → Ends e old (goes_on (asked n old)) new → Asks {T = Unit {0}} n old (Err e) before after
    → (F : Follows n turns old new e) × Talks n old e F.given before after
ends_first n turns e old new before after h asks = (
  record { given = []; are = tt; most = omega arith; ends = ends_after turns 0 e _ _ new h },
  record { answers = asks.answer ∷ []; went = first_talk e asks.answer (not_used e old (goes_on (asked n old)) new h) asks.went; goes_on = asks.goes_on },
)

pub ends_last : (n made turns : ℕ) (old now : Course) (before mid : List Happened → Type 0) → Leads n made old now before mid → made ≡ turns
    → (F : Follows n turns old now end.TurnsUsed) × Talks n old end.TurnsUsed F.given before mid
ends_last n made turns old now before mid L all = (
  record { given = L.given; are = L.are; most = omega (arith, L.long, all); ends = (L.long ∙ all, L.leads) },
  record { answers = L.answers; went = used_talk L.given L.answers L.went; goes_on = L.talk },
)
