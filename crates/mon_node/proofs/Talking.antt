-- What happened on the link of a node in an iteration, and in all of them.
use Rattle.std.proofs.Common.{◌≡◌, ℕ, inl, inr, map, List, [], ◌∷◌, ◌++◌, Option, Some, None, Result, Ok, Err, refl, sym, subst}
use Rattle.std.proofs.lemmas.List.{append-nil}
use Rattle.mon_disk.specs.Calls.{DiskState}
use Rattle.mon_link.specs.Histories.{Happened, GoOn}
use Rattle.mon_link.specs.Histories.Happened.{Received}
use Rattle.mon_link.specs.Links.{Observed}
use Rattle.mon_link.specs.Clocks.{Readings}
use Rattle.mon_link.specs.declared.link.Got.{Got}
use Rattle.mon_link.specs.declared.link.Outgoing.{Outgoing}
use Rattle.mon_msg.specs.declared.view.Me.{Me}
use Rattle.mon_store.specs.declared.store.Store.{Store as StoreOn}
use Rattle.mon_types.specs.declared.names.Stop.{Stop}
use Rattle.mon_wire.specs.declared.phase.Timer.{Timer}
use Rattle.mon_node.specs.Hearing.{Given, due_by, wait_until}
use Rattle.mon_node.specs.Iterations.{Iteration, last_iteration}
use Rattle.mon_node.specs.Lasting.{Leave, store_view_kept}
use Rattle.mon_node.specs.Nodes.{Disks, Serving, disks_of}
use Rattle.mon_node.specs.Posting.{IsSpent}
use Rattle.mon_node.specs.Sends.{AreSent, Send, Went, WentFirst, call_of}
use Rattle.mon_node.specs.Serving.{EndsAt, Has, sends_of}
use Rattle.mon_node.specs.Talking.{AllSent, AllSentBefore, SentAfter, SentAtEnd, TalkIteration, asked, asked_by}
use Rattle.mon_node.specs.declared.end.NodeEnd.TheVariants as end
use Rattle.mon_node.specs.declared.end.NodeEnd.{NodeEnd}
use Rattle.mon_node.proofs.Sends.{go_as, go_further}

-- ---- an iteration

none_at_end : (e : NodeEnd) (ds : List Outgoing) → SentAtEnd e ds []
none_at_end end.OutOfMemory ds = record { count = 0; first = refl; had = tt }
none_at_end (end.Spent which) ds = record { count = 0; first = refl; had = tt }
none_at_end end.Closed ds = refl
none_at_end end.TurnsUsed ds = refl
none_at_end end.DiskFault ds = refl
none_at_end end.LinkFault ds = refl
none_at_end (end.Full would_be) ds = refl

module _ (T : Type 0) (me : Me) (t : Iteration) (P Q : List Happened → Type 0) (old new : Disks) where
  -- the node ends, and nothing was sent
  pub silent_end : (e : NodeEnd) (heard : List Happened) → GoOn P heard Q → TalkIteration {T = T} me t heard (Err e) P Q old new
  silent_end e heard asks = record {
    sends = [];
    sent = none_at_end e (sends_of me t);
    goes_on = go_as P Q heard (heard ++ []) (sym (append-nil heard)) asks;
    kept = λ both. inl refl;
  }

  -- it is completed
  pub all_went : (x : T) → Went (sends_of me t) P Q → TalkIteration me t [] (Ok x) P Q old new
  all_went x went = record { sends = went.sends; sent = went.are; goes_on = went.goes_on; kept = λ both. tt }

  -- it ends while datagrams are sent
  pub some_went : (next : ℕ) (e : NodeEnd) → IsSpent next e → WentFirst (sends_of me t) P Q → Leave new (λ s. s ≡ store_view_kept me t) → TalkIteration {T = T} me t [] (Err e) P Q old new
  some_went next e why went left = record { sends = went.sends; sent = by e why; goes_on = went.goes_on; kept = λ both. inr left }
    where
      by : (e : NodeEnd) → IsSpent next e → SentAtEnd e (sends_of me t) went.sends
      by end.OutOfMemory why = went.are
      by (end.Spent which) why = went.are
      by end.Closed why = absurd why
      by end.TurnsUsed why = absurd why
      by end.DiskFault why = absurd why
      by end.LinkFault why = absurd why
      by (end.Full would_be) why = absurd why

-- nothing came
pub quiet_talk : (T : Type 0) (me : Me) (s : Serving) (P Q : List Happened → Type 0) (old new : Disks) (x : T) (heard : List Happened) → GoOn P heard Q
    → TalkIteration me (record { came = Ok None; serving = s }) heard (Ok x) P Q old new
quiet_talk T me s P Q old new x heard asks = record {
  sends = [];
  sent = record { all = refl; had = tt };
  goes_on = go_as P Q heard (heard ++ []) (sym (append-nil heard)) asks;
  kept = λ both. tt;
}

-- the link was asked before
pub after_asking : (T : Type 0) (me : Me) (t : Iteration) (P Q R : List Happened → Type 0) (old new : Disks) (r : Result T NodeEnd) (heard : List Happened) → GoOn P heard Q
    → TalkIteration me t [] r Q R old new → TalkIteration me t heard r P R old new
after_asking T me t P Q R old new r heard asks talk = record {
  sends = talk.sends;
  sent = talk.sent;
  goes_on = go_further P Q R heard (map call_of talk.sends) asks talk.goes_on;
  kept = talk.kept;
}

-- the same for equal identities, inputs and stores
pub talk_as : {T D : Type 0} (state : D → DiskState) (me mine : Me) (t u : Iteration) (result : Result T NodeEnd) (P Q : List Happened → Type 0) (s n : StoreOn D) (new : Disks) → mine ≡ me → t ≡ u → s ≡ n
    → TalkIteration mine t [] result P Q (disks_of state s) new → TalkIteration me u [] result P Q (disks_of state n) new
talk_as {T} {D} state me mine t u result P Q s n new own same stores h =
    subst (λ (x : StoreOn D). TalkIteration me u [] result P Q (disks_of state x) new) stores
    (subst (λ (x : Me). TalkIteration x u [] result P Q (disks_of state s) new) own (subst (λ (x : Iteration). TalkIteration mine x [] result P Q (disks_of state s) new) same h))

-- ---- what is asked

pub asked_none : (next : Option (Timer × ℕ)) (g : Given) (t : Timer) (P : List Happened → Type 0) → Some t ≡ due_by g.began next → GoOn P [] P → GoOn P (asked next g) P
asked_none next g t P is none = subst (λ (d : Option Timer). GoOn P (asked_by d (wait_until g.began next) g.answer) P) is none

pub asked_once : (next : Option (Timer × ℕ)) (began wait later : ℕ) (answer : Result Got Stop) (P Q : List Happened → Type 0) → None ≡ due_by began next → wait ≡ wait_until began next
    → GoOn P (Received wait answer ∷ []) Q → GoOn P (asked next (record { began = began; answer = answer; later = later })) Q
asked_once next began wait later answer P Q is wait_is asks =
    subst (λ (d : Option Timer). GoOn P (asked_by d (wait_until began next) answer) Q) is (subst (λ (w : ℕ). GoOn P (Received w answer ∷ []) Q) wait_is asks)

-- ---- all iterations

pub sent_after : (me : Me) (t : Iteration) (e : NodeEnd) (clock : Option Readings) (link : Option Observed) (ds : List Outgoing) (sends : List Send) → EndsAt me t e clock link → SentAtEnd e ds sends → SentAfter e ds sends
sent_after me t end.TurnsUsed clock link ds sends ends h = absurd ends.cause
sent_after me t end.Closed clock link ds sends ends h = h
sent_after me t end.DiskFault clock link ds sends ends h = h
sent_after me t end.LinkFault clock link ds sends ends h = h
sent_after me t (end.Full would_be) clock link ds sends ends h = h
sent_after me t (end.Spent which) clock link ds sends ends h = h
sent_after me t end.OutOfMemory clock link ds sends ends h = h

-- what the last iteration sent, and what the others did
pub record LastSent (me : Me) (first : ℕ) (s : Serving) (given : List Given) (sends : List (List Send)) : Type 0 where
  pub last : List Send
  pub others : List (List Send)
  pub is : sends ≡ last ∷ others
  pub others_sent : AllSentBefore me first s given others
  pub last_sent : Has (last_iteration me first s given) (λ t. AreSent (sends_of me t) last)

pub last_of : (me : Me) (first : ℕ) (s : Serving) (given : List Given) (sends : List (List Send)) → AllSent me first s given sends → LastSent me first s given sends
last_of me first s [] [] all = absurd all
last_of me first s (g ∷ earlier) [] all = absurd all
last_of me first s [] (last ∷ others) all = record { last = last; others = others; is = refl; others_sent = all.0; last_sent = all.1 }
last_of me first s (g ∷ earlier) (last ∷ others) all = record { last = last; others = others; is = refl; others_sent = all.0; last_sent = all.1 }
