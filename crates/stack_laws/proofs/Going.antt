-- What each link sends below was sent above, or is of the link's own.
use Rattle.std.proofs.Common.{◌≡◌, ℕ, Bool, true, false, cond, List, [], ◌∷◌, ◌++◌, Some, None, Result, Ok, Err, ◌⊎◌, refl, sym, ap, subst, ◌∙◌, inl, inr}
use Rattle.mon_bytes.specs.declared.command.MapRefused.{MapRefused}
use Rattle.answer_times.specs.Times.{is_answered}
use Rattle.mon_link.specs.Histories.{Happened, sent}
use Rattle.mon_link.specs.Histories.Happened.{Received, WasSent}
use Rattle.mon_link.specs.Layers.{Sent, Steps}
use Rattle.mon_link.specs.declared.link.Got.{Got}
use Rattle.mon_link.specs.declared.link.Got.TheVariants.{Datagram, Idle, Closed}
use Rattle.mon_link.specs.declared.link.Outgoing.{Outgoing}
use Rattle.mon_link.specs.declared.link.Peer.TheVariants.{Monitor, Client}
use Rattle.mon_types.specs.declared.member.Member.{Member}
use Rattle.mon_types.specs.declared.names.Stop.{Stop}
use Rattle.mon_name.specs.Awake.{Gaps}
use Rattle.mon_name.specs.Histories as naming
use Rattle.mon_resend.specs.Copied.{IsOneOf, datagram}
use Rattle.mon_resend.specs.Histories as resending
use Rattle.mon_resend.specs.Sending.{outs, with_got}
use Rattle.mon_resend.specs.World.{all_due_copies, is_sent_now}
use Rattle.mon_resend.specs.declared.copies.Copies.{Copies}
use Rattle.mon_resend.proofs.Among.{all_passed_among, due_among, got_among, sent_among}
use Rattle.mon_resend.proofs.Parts.{either, one_left, one_right}
use Rattle.mon_watch.specs.Answering.{admitted, answer, asked_by, asker}
use Rattle.mon_watch.specs.Histories as watching
use Rattle.mon_watch.specs.Requests.{request_of}
use Rattle.mon_watch.specs.declared.notes.Notes.{Notes}
use Rattle.mon_watch.specs.declared.times.DiskTimes.{DiskTimes}
use Rattle.stack_laws.specs.Stack.{Came, on_wire}
use Rattle.stack_laws.proofs.Passing.{came_left, came_right, sent_either}

-- ---- what was sent above

pub above_here : (x : Happened) (above : List Happened) (d : Outgoing) → IsOneOf (sent (x ∷ [])) d → IsOneOf (sent (x ∷ above)) d
above_here (Received wait answer) above d m = absurd m
above_here (WasSent to bytes answer) above d (inl is) = inl is
above_here (WasSent to bytes answer) above d (inr m) = absurd m

pub above_later : (x : Happened) (above : List Happened) (d : Outgoing) → IsOneOf (sent above) d → IsOneOf (sent (x ∷ above)) d
above_later (Received wait answer) above d m = m
above_later (WasSent to bytes answer) above d m = inr m

pub none_sent : (calls : List Happened) (d : Outgoing) → calls ≡ [] → IsOneOf (sent calls) d → ⊥
none_sent calls d e m = subst (λ (xs : List Happened). IsOneOf (sent xs) d) e m

-- only this was sent
pub one_sent : (calls : List Happened) (x : Happened) (d : Outgoing) → calls ≡ x ∷ [] → IsOneOf (sent calls) d → IsOneOf (sent (x ∷ [])) d
one_sent calls x d e m = subst (λ (xs : List Happened). IsOneOf (sent xs) d) e m

-- it was sent after the link was asked for what comes
pub after_asking : (calls rest : List Happened) (wait : ℕ) (gave : Result Got Stop) (d : Outgoing) → calls ≡ Received wait gave ∷ rest → IsOneOf (sent calls) d → IsOneOf (sent rest) d
after_asking calls rest wait gave d e m = subst (λ (xs : List Happened). IsOneOf (sent xs) d) e m

-- ---- gaps

pub awake_sends : (s t : Gaps) (x : Happened) (calls : List Happened) → naming.AwakeDoes s x calls t → (d : Outgoing) → IsOneOf (sent calls) d → IsOneOf (sent (x ∷ [])) d
awake_sends s t (Received wait result) calls p d m = elim p.does [
  | inl closed ↦ absurd (none_sent calls d closed.3 m)
  | inr asked ↦ absurd (after_asking calls [] wait asked.1.gave d asked.1.are m)
]
awake_sends s t (WasSent to bytes result) calls p d m = elim p.does [
  | inl closed ↦ absurd (none_sent calls d closed.2 m)
  | inr went ↦ one_sent calls (WasSent to bytes result) d went.1 m
]

-- ---- frames

none_asked : (wait : ℕ) (answers : List (Result Got Stop)) → sent (naming.asked wait answers) ≡ []
none_asked wait [] = refl
none_asked wait (answer ∷ answers) = none_asked 0 answers

-- a datagram that was sent above, as it goes over the wire
abbrev pub IsWired : (tag life : ℕ) → List Happened → Outgoing → Type 0
IsWired tag life above d = (x : Outgoing) × IsOneOf (sent above) x × (d ≡ on_wire tag life x)

pub frames_send : (n s t : naming.Names) (x : Happened) (calls : List Happened) → s ≡ n → naming.NamedDoes s x calls t → (d : Outgoing) → IsOneOf (sent calls) d → IsWired n.tag n.life (x ∷ []) d
frames_send n s t (Received wait result) calls e p d m =
    absurd (subst (λ (xs : List Outgoing). IsOneOf xs d) (none_asked wait (p.0.past ++ p.0.last ∷ [])) (subst (λ (xs : List Happened). IsOneOf (sent xs) d) p.0.are m))
frames_send n s t (WasSent to bytes result) calls e p d m = subst (λ (k : naming.Names). IsWired k.tag k.life (WasSent to bytes result ∷ []) d) e
    (elim p.0 [
      | inl are ↦ (elim (one_sent calls _ d are m) [ inl is ↦ (datagram to bytes, inl refl, is) | inr none ↦ absurd none ])
      | inr none ↦ absurd (none_sent calls d none.1 m)
    ])

-- ---- the watch

-- an answer of the watch
pub record IsWatchAnswer (member : Member) (below : List Happened) (d : Outgoing) : Type 0 where
  pub client : ℕ
  pub request : List ℕ
  pub id : ℕ
  pub notes : Notes
  pub a : DiskTimes
  pub b : DiskTimes
  pub unkept : ℕ
  pub came : Came below (Datagram (Client client) request)
  pub asks : request_of request ≡ Ok id
  pub is : d ≡ datagram (Client client) (answer member notes id a b unkept)

abbrev pub IsWatched : Member → (above below : List Happened) → Outgoing → Type 0
IsWatched member above below d = IsOneOf (sent above) d ⊎ IsWatchAnswer member below d

answer_right : (member : Member) (xs ys : List Happened) (d : Outgoing) → IsWatchAnswer member ys d → IsWatchAnswer member (xs ++ ys) d
answer_right member xs ys d w = record {
  client = w.client;
  request = w.request;
  id = w.id;
  notes = w.notes;
  a = w.a;
  b = w.b;
  unkept = w.unkept;
  came = came_right xs ys (Datagram (Client w.client) w.request) w.came;
  asks = w.asks;
  is = w.is;
}

answer_left : (member : Member) (xs ys : List Happened) (d : Outgoing) → IsWatchAnswer member xs d → IsWatchAnswer member (xs ++ ys) d
answer_left member xs ys d w = record {
  client = w.client;
  request = w.request;
  id = w.id;
  notes = w.notes;
  a = w.a;
  b = w.b;
  unkept = w.unkept;
  came = came_left xs ys (Datagram (Client w.client) w.request) w.came;
  asks = w.asks;
  is = w.is;
}

pub watched_here : (member : Member) (x : Happened) (above xs ys : List Happened) (d : Outgoing) → IsWatched member (x ∷ []) xs d → IsWatched member (x ∷ above) (xs ++ ys) d
watched_here member x above xs ys d (inl m) = inl (above_here x above d m)
watched_here member x above xs ys d (inr w) = inr (answer_left member xs ys d w)

pub watched_later : (member : Member) (x : Happened) (above xs ys : List Happened) (d : Outgoing) → IsWatched member above ys d → IsWatched member (x ∷ above) (xs ++ ys) d
watched_later member x above xs ys d (inl m) = inl (above_later x above d m)
watched_later member x above xs ys d (inr w) = inr (answer_right member xs ys d w)

watched_member : (gave result : Result Got Stop) (s t : watching.WatchState) (rest : List Happened) → watching.IsAskedAfter gave result s t rest → t.member ≡ s.member
watched_member (Ok came) result s t rest p = ap (λ (w : watching.WatchState). w.member) p.notes
watched_member (Err e) result s t rest p = ap (λ (w : watching.WatchState). w.member) p.1

pub watch_stays : (s t : watching.WatchState) (x : Happened) (calls : List Happened) → watching.WatchedDoes s x calls t → t.member ≡ s.member
watch_stays s t (Received wait result) calls p = watched_member p.gave result s t p.rest p.after
watch_stays s t (WasSent to bytes result) calls p = ap (λ (w : watching.WatchState). w.member) p.1

module _ (member : Member) (t : watching.WatchState) (same : t.member ≡ member) (calls rest : List Happened) (wait : ℕ) (d : Outgoing) (m : IsOneOf (sent rest) d) where
  answered : (c : ℕ) (request : List ℕ) (id : ℕ) (went : Result (Unit {0}) Stop) → Came calls (Datagram (Client c) request) → request_of request ≡ Ok id
      → (b : Bool) → watching.AnswerIsSent (cond b (Some (record { client = c; id = id })) None) t went rest → IsWatchAnswer member calls d
  answered c request id went came asks true (inl sent_it) = record {
    client = c;
    request = request;
    id = id;
    notes = t.notes;
    a = sent_it.0;
    b = sent_it.1;
    unkept = sent_it.2;
    came = came;
    asks = asks;
    is = elim (one_sent rest _ d sent_it.3.1 m) [ inl is ↦ is ∙ ap (λ (me : Member). datagram (Client c) (answer me t.notes id sent_it.0 sent_it.1 sent_it.2)) same | inr none ↦ absurd none ];
  }
  answered c request id went came asks true (inr none) = absurd (none_sent rest d none.1 m)
  answered c request id went came asks false none = absurd (none_sent rest d none.1 m)

  asked : (c : ℕ) (request : List ℕ) (now : ℕ) (untils : List ℕ) (went : Result (Unit {0}) Stop) → Came calls (Datagram (Client c) request)
      → (read : Result ℕ MapRefused) → request_of request ≡ read → watching.AnswerIsSent (admitted now untils (asked_by c read)) t went rest → IsWatchAnswer member calls d
  asked c request now untils went came (Ok id) is p = answered c request id went came is (is_answered c now untils) p
  asked c request now untils went came (Err e) is p = absurd (none_sent rest d p.1 m)

  answers_one : (came : Got) (now : ℕ) (untils : List ℕ) (went : Result (Unit {0}) Stop) → Came calls came → watching.AnswerIsSent (admitted now untils (asker came)) t went rest → IsWatchAnswer member calls d
  answers_one (Datagram (Client c) bytes) now untils went came p = asked c bytes now untils went came (request_of bytes) refl p
  answers_one (Datagram (Monitor j) bytes) now untils went came p = absurd (none_sent rest d p.1 m)
  answers_one Idle now untils went came p = absurd (none_sent rest d p.1 m)
  answers_one Closed now untils went came p = absurd (none_sent rest d p.1 m)

pub watch_sends : (member : Member) (s t : watching.WatchState) (x : Happened) (calls : List Happened) → s.member ≡ member → watching.WatchedDoes s x calls t → (d : Outgoing) → IsOneOf (sent calls) d → IsWatched member (x ∷ []) calls d
watch_sends member s t (Received wait result) calls e p d m = inr (by p.gave p.are p.after)
  where
    by : (gave : Result Got Stop) → calls ≡ Received wait gave ∷ p.rest → watching.IsAskedAfter gave result s t p.rest → IsWatchAnswer member calls d
    by (Ok came) are after =
        answers_one member t (ap (λ (w : watching.WatchState). w.member) after.notes ∙ e) calls p.rest wait d (after_asking calls p.rest wait (Ok came) d are m)
        came after.now after.untils after.went (subst (λ (xs : List Happened). Came xs came) (sym are) (inl refl)) after.sent
    by (Err f) are after = absurd (none_sent p.rest d after.2 (after_asking calls p.rest wait (Err f) d are m))
watch_sends member s t (WasSent to bytes result) calls e p d m = inl (one_sent calls (WasSent to bytes result) d p.0 m)

-- ---- copies

among_sent : (ds : List Outgoing) (calls : List Happened) (d : Outgoing) → Sent ds calls → IsOneOf (sent calls) d → IsOneOf ds d
among_sent [] calls d p m = none_sent calls d p m
among_sent (x ∷ ds) calls d p m =
    elim (subst (λ (xs : List Happened). IsOneOf (sent xs) d) p.2 m) [ inl is ↦ inl is | inr more ↦ inr (among_sent ds p.1 d p.3 more) ]

-- what is kept after a call was kept before it, or is what was to be sent
pub kept_from : (s t : Copies) (x : Happened) (calls : List Happened) → resending.ResendingDoes s x calls t → (d : Outgoing) → IsOneOf (outs t) d → IsOneOf (outs s ++ sent (x ∷ [])) d
kept_from s t (Received wait result) calls p d m = one_left (outs s) [] d (by p.gave p.after)
  where
    by : (gave : Result Got Stop) → resending.IsAskedAfter gave result s t p.rest → IsOneOf (outs s) d
    by (Ok came) after =
        (got_among after.memory came after.now s).each d
        ((all_passed_among after.again after.now (with_got after.memory came after.now s)).each d (subst (λ c. IsOneOf (outs c) d) after.kept m))
    by (Err e) after = subst (λ c. IsOneOf (outs c) d) after.1 m
kept_from s t (WasSent (Monitor rank) bytes result) calls p d m =
    (sent_among p.memory rank bytes p.now s).each d (subst (λ c. IsOneOf (outs c) d) p.kept m)
kept_from s t (WasSent (Client number) bytes result) calls p d m = one_left (outs s) (datagram (Client number) bytes ∷ []) d (subst (λ c. IsOneOf (outs c) d) p.1 m)

-- what is sent below is kept, or is what was to be sent
pub sends_kept : (s t : Copies) (x : Happened) (calls : List Happened) → resending.ResendingDoes s x calls t → (d : Outgoing) → IsOneOf (sent calls) d → IsOneOf (outs s ++ sent (x ∷ [])) d
sends_kept s t (Received wait result) calls p d m = one_left (outs s) [] d (by p.gave p.are p.after)
  where
    by : (gave : Result Got Stop) → calls ≡ Received p.slice gave ∷ p.rest → resending.IsAskedAfter gave result s t p.rest → IsOneOf (outs s) d
    by (Ok came) are after =
        let got = with_got after.memory came after.now s in
        (got_among after.memory came after.now s).each d
        ((due_among after.again after.now got).each d (among_sent (all_due_copies after.again after.now got) p.rest d after.copies (after_asking calls p.rest p.slice (Ok came) d are m)))
    by (Err e) are after = absurd (none_sent p.rest d after.2 (after_asking calls p.rest p.slice (Err e) d are m))
sends_kept s t (WasSent (Monitor rank) bytes result) calls p d m = by (is_sent_now rank bytes p.now s) p.goes
  where
    by : (b : Bool) → resending.GoesNow b (Monitor rank) bytes result calls → IsOneOf (outs s ++ datagram (Monitor rank) bytes ∷ []) d
    by true are = one_right (outs s) (datagram (Monitor rank) bytes ∷ []) d (one_sent calls (WasSent (Monitor rank) bytes result) d are m)
    by false none = absurd (none_sent calls d none.1 m)
sends_kept s t (WasSent (Client number) bytes result) calls p d m =
    one_right (outs s) (datagram (Client number) bytes ∷ []) d (one_sent calls (WasSent (Client number) bytes result) d p.0 m)

first_ones : (kept : List Outgoing) (x : Happened) (above : List Happened) (d : Outgoing) → IsOneOf (kept ++ sent (x ∷ [])) d → IsOneOf (kept ++ sent (x ∷ above)) d
first_ones kept x above d m = elim (either kept (sent (x ∷ [])) d m) [
  | inl l ↦ one_left kept (sent (x ∷ above)) d l
  | inr r ↦ one_right kept (sent (x ∷ above)) d (above_here x above d r)
]

pub resent : (above below : List Happened) (first last : Copies) → Steps resending.ResendingDoes first above below last → (d : Outgoing) → IsOneOf (sent below) d → IsOneOf (outs first ++ sent above) d
resent [] below first last p d m = absurd (none_sent below d p.0 m)
resent (x ∷ above) below first last p d m =
    elim (sent_either p.0 p.1 d (subst (λ (xs : List Happened). IsOneOf (sent xs) d) p.3 m)) [
      | inl l ↦ first_ones (outs first) x above d (sends_kept first p.2 x p.0 p.4 d l)
      | inr r ↦ (
          elim (either (outs p.2) (sent above) d (resent above p.1 p.2 last p.5 d r)) [
            | inl kept ↦ first_ones (outs first) x above d (kept_from first p.2 x p.0 p.4 d kept)
            | inr later ↦ one_right (outs first) (sent (x ∷ above)) d (above_later x above d later)
          ])
    ]
