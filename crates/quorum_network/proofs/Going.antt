-- A run of later steps goes on from one of earlier ones.
use Rattle.law_names.proofs.Runs.{Acknowledged, Acknowledgement, AllFit, Asked, Event, Monitors, Replied, World, me_of, run}
use Rattle.law_names.proofs.Table.{AllByRecursion, Contains}
use Rattle.log_model.proofs.Lists.{all_append, all_map}
use Rattle.quorum_agreement.proofs.Every.{grows}
use Rattle.quorum_network.proofs.Acts.{Act}
use Rattle.quorum_network.proofs.Adding.{AllLater, IsAt, IsLater, IsRepliedAt}
use Rattle.quorum_network.proofs.Assembling.{Assembly}
use Rattle.quorum_network.proofs.Facts.{Facts}
use Rattle.quorum_network.proofs.Invariant.{Moved, Next, Still}
use Rattle.quorum_network.proofs.Letters.{IsPosted, Letter}
use Rattle.quorum_network.proofs.Names.{AllMay, Client, Leadership, Monitor, Network, Peer, Posted, Step, acknowledged_at, acknowledgements, after_step, asked_by, leaderships, led_at, may_before, network, requests}
use Rattle.quorum_network.proofs.Sends.{posted_behind, posted_more}
use Rattle.quorum_network.proofs.Steps.{step_next}
use Rattle.quorum_network.proofs.Whole.{Stands, stands, stands_next}
use Rattle.quorum_network.specs.History.{Extends}
use Rattle.std.proofs.Common.{List, Option, [], ap, append_assoc, arith, inl, inr, subst, suc, sym, ℕ, ◌++◌, ◌<◌, ◌∙◌, ◌∷◌, ◌≡◌, ◌≤◌}
use Rattle.std.proofs.lemmas.List.Elements.{Contains-append_cases, Contains-append_left}
use Rattle.std.proofs.lemmas.List.{append-nil}

-- What the later steps add to the run: events, the acknowledgements and replies of these events, and datagrams. A
-- datagram that goes to a client is of a letter that is such a reply.
pub record GoesOn (A : Assembly) (ms : Monitors) (old_asks asks : List Asked) (old_acks acks : List Acknowledgement) (old_leads leads : List Leadership) (earlier later : Network)
    (S : Stands A ms old_asks old_acks old_leads earlier) (T : Stands A ms asks acks leads later) : Type 0 where
  pub more : List Event
  pub is : T.reach.events ≡ S.reach.events ++ more
  pub events : S.w.events ≤ T.w.events
  pub writes : List Acknowledged
  pub acknowledged : T.w.acknowledged ≡ S.w.acknowledged ++ writes
  pub written : AllByRecursion (λ (a : Acknowledged). S.w.events < a.event) writes
  pub replies : List Replied
  pub replied : T.w.replied ≡ S.w.replied ++ replies
  pub answered : AllByRecursion (λ (r : Replied). S.w.events < r.event) replies
  pub sent : List Posted
  pub wire : later.sent ≡ earlier.sent ++ sent
  pub letters : List Letter
  pub posted : AllByRecursion (IsPosted letters) sent
  pub later_replies : AllLater ms.count S.w.events T.w letters
  pub among : (l : Letter) → Contains letters l → Contains T.inv.ls l

later_again : (count e f : ℕ) (w v : World) → e ≤ f → ((r : Replied) → Contains w.replied r → Contains v.replied r) → (i : ℕ) (to : Peer) (bytes : List ℕ) → IsLater count f w i to bytes → IsLater count e v i to bytes
later_again count e f w v le stay i (Monitor j) bytes k = tt
later_again count e f w v le stay i (Client c) bytes (r, among, event, has, rank, client, is) = (r, stay r among, omega (arith, le, event), has, rank, client, is)

module _ (A : Assembly) (ms : Monitors) (old_asks bs asks : List Asked) (old_acks acks added : List Acknowledgement) (old_leads leads led : List Leadership) (old between net : Network)
    (S : Stands A ms old_asks old_acks old_leads old) (T : Stands A ms bs acks leads between) (G : GoesOn A ms old_asks bs old_acks acks old_leads leads old between S T) where
  one_more : {act : Option Act} (N : Next A ms asks added led act between.sent T.inv.ls net T.w)
      → GoesOn A ms old_asks (bs ++ asks) old_acks (acks ++ added) old_leads (leads ++ led) old net S (stands_next A ms bs asks acks added leads led between.sent between net T N)
  unfolding stands_next
  one_more (Still same unasked none nobody idle I letters) = record {
    more = G.more;
    is = G.is;
    events = G.events;
    writes = G.writes;
    acknowledged = G.acknowledged;
    written = G.written;
    replies = G.replies;
    replied = G.replied;
    answered = G.answered;
    sent = G.sent;
    wire = same ∙ G.wire;
    letters = G.letters;
    posted = G.posted;
    later_replies = G.later_replies;
    among = λ l c. subst (λ (ls : List Letter). Contains ls l) (sym letters) (G.among l c);
  }
  one_more (Moved M) = record {
    more = G.more ++ M.event ∷ [];
    is = ap (λ (es : List Event). es ++ M.event ∷ []) G.is ∙ append_assoc S.reach.events G.more (M.event ∷ []);
    events = let le = G.events in let now = M.adds.events in omega (arith, le, now);
    writes = G.writes ++ M.adds.new;
    acknowledged = M.adds.acknowledged ∙ ap (λ (xs : List Acknowledged). xs ++ M.adds.new) G.acknowledged ∙ append_assoc S.w.acknowledged G.writes M.adds.new;
    written = all_append (λ (a : Acknowledged). S.w.events < a.event) G.writes M.adds.new G.written
        (all_map (IsAt (suc T.w.events)) (λ (a : Acknowledged). S.w.events < a.event) (λ a at. let le = G.events in omega (arith, le, at)) M.adds.new M.adds.numbered);
    replies = G.replies ++ M.adds.replies;
    replied = M.adds.replied ∙ ap (λ (xs : List Replied). xs ++ M.adds.replies) G.replied ∙ append_assoc S.w.replied G.replies M.adds.replies;
    answered = all_append (λ (r : Replied). S.w.events < r.event) G.replies M.adds.replies G.answered
        (all_map (IsRepliedAt (suc T.w.events)) (λ (r : Replied). S.w.events < r.event) (λ r at. let le = G.events in omega (arith, le, at)) M.adds.replies M.adds.answered);
    sent = G.sent ++ M.sent;
    wire = M.wire ∙ ap (λ (xs : List Posted). xs ++ M.sent) G.wire ∙ append_assoc old.sent G.sent M.sent;
    letters = G.letters ++ M.adds.letters;
    posted = all_append (IsPosted (G.letters ++ M.adds.letters)) G.sent M.sent (posted_more G.letters M.adds.letters G.sent G.posted) (posted_behind G.letters M.adds.letters M.sent M.adds.posted);
    later_replies = λ l c. elim (Contains-append_cases G.letters M.adds.letters l c) [
      | inl before ↦ later_again ms.count S.w.events S.w.events T.w M.world (omega arith) still_replied l.by l.to l.bytes (G.later_replies l before)
      | inr now ↦ later_again ms.count S.w.events T.w.events M.world M.world G.events (λ r k. k) l.by l.to l.bytes (M.adds.later l now)
    ];
    among = λ l c. elim (Contains-append_cases G.letters M.adds.letters l c) [ inl before ↦ M.old l (G.among l before) | inr now ↦ M.new l now ];
  }
    where
      still_replied : (r : Replied) → Contains T.w.replied r → Contains M.world.replied r
      still_replied r k = subst (λ (xs : List Replied). Contains xs r) (sym M.adds.replied) (Contains-append_left T.w.replied M.adds.replies r k)

-- the log goes on too
pub grown_log : (A : Assembly) (ms : Monitors) (old_asks asks : List Asked) (old_acks acks : List Acknowledgement) (old_leads leads : List Leadership) (earlier later : Network)
    (S : Stands A ms old_asks old_acks old_leads earlier) (T : Stands A ms asks acks leads later) → GoesOn A ms old_asks asks old_acks acks old_leads leads earlier later S T
    → Extends (run ms T.reach.events).log (run ms S.reach.events).log
grown_log A ms old_asks asks old_acks acks old_leads leads earlier later S T G =
    let up = grows ms S.reach.events G.more (subst (AllFit ms.count) G.is T.reach.fit) in
    record { more = up.more; is = ap (λ (es : List Event). (run ms es).log) G.is ∙ up.is }

-- nothing is added
none_more : (A : Assembly) (ms : Monitors) (asks : List Asked) (acks : List Acknowledgement) (leads : List Leadership) (net : Network) (S : Stands A ms asks acks leads net)
    → GoesOn A ms asks asks acks acks leads leads net net S S
none_more A ms asks acks leads net S = record {
  more = [];
  is = sym (append-nil S.reach.events);
  events = omega arith;
  writes = [];
  acknowledged = sym (append-nil S.w.acknowledged);
  written = tt;
  replies = [];
  replied = sym (append-nil S.w.replied);
  answered = tt;
  sent = [];
  wire = sym (append-nil net.sent);
  letters = [];
  posted = tt;
  later_replies = λ l c. absurd (omega (arith, c.1));
  among = λ l c. absurd (omega (arith, c.1));
}

pub goes_on : (A : Assembly) (ms : Monitors) (F : Facts ms) (later earlier : List Step) (may : AllMay ms (later ++ earlier))
    → GoesOn A ms (requests ms earlier) (requests ms (later ++ earlier)) (acknowledgements ms earlier) (acknowledgements ms (later ++ earlier)) (leaderships ms earlier) (leaderships ms (later ++ earlier)) (network ms earlier) (network ms (later ++ earlier))
    (stands A ms F earlier (may_before ms later earlier may)) (stands A ms F (later ++ earlier) may)
unfolding network AllMay may_before requests acknowledgements leaderships stands
goes_on A ms F [] earlier may = none_more A ms (requests ms earlier) (acknowledgements ms earlier) (leaderships ms earlier) (network ms earlier) (stands A ms F earlier may)
goes_on A ms F (s ∷ later) earlier may =
    let now : Network = network ms (later ++ earlier) in
    let G = goes_on A ms F later earlier may.0 in
    let T = stands A ms F (later ++ earlier) may.0 in
    one_more A ms (requests ms earlier) (requests ms (later ++ earlier)) (asked_by now s (me_of ms s.rank)) (acknowledgements ms earlier) (acknowledgements ms (later ++ earlier)) (acknowledged_at now s (me_of ms s.rank)) (leaderships ms earlier) (leaderships ms (later ++ earlier)) (led_at now s (me_of ms s.rank)) (network ms earlier) now (after_step ms now s)
    (stands A ms F earlier (may_before ms later earlier may.0)) T G (step_next A ms F now T.w T.reach T.inv s may.1)
