-- What holds of all other monitors, and of the messages that were sent, still holds after what one monitor does.
use Rattle.law_names.proofs.Table.{Body, Cell, Command, Found, Message, Op, Origin, Phase, Sent, Session, SyncStage, Told, Waiting, start, value}
use Rattle.mon_msg.specs.declared.plan.Origin.TheVariants as origin
use Rattle.mon_msg.specs.declared.plan.Sent.TheVariants as sent
use Rattle.mon_msg.specs.declared.synchronization.SyncStage.TheVariants as sync
use Rattle.mon_wire.specs.declared.body.Body.TheVariants as body
use Rattle.mon_wire.specs.declared.phase.Phase.TheVariants as phase
use Rattle.quorum_history.proofs.History.{ALevel, ANumber, APromise, Accepted, AnEpoch, Entered, Ext, Ghost, Had, Handed, Joined, NewTriple, asking, entry, had_before, had_lasts, hand, triple}
use Rattle.quorum_history.proofs.Holds.{Answers, BodyHolds, Core, Disk, Followed, FollowsIn, FoundCovers, Gathers, HasSource, Heard, InPhase, IsFound, IsHanded, Kept, LeadsIn, MessageHolds, Nowhere, Numbered, Proposes, Reigns, Repeats, SentHolds, StageHolds, Voted, Waits, epoch_in, number_of}
use Rattle.quorum_walk.proofs.Lists.{all_map}
use Rattle.quorum_walk.proofs.Sparing.{Own}
use Rattle.quorum_walk.proofs.Walk.{done}
use Rattle.std.proofs.Common.{Bool, IfSome, List, None, Option, Some, arith, inl, inr, is_some, length, subst, suc, sym, true, ℕ, ◌%◌, ◌+◌, ◌<◌, ◌∙◌, ◌≡◌, ◌≤◌, ◌⊎◌}

module _ (i : ℕ) (g h : Ghost) (E : Ext i g h) where
  -- ---- what held before still holds

  pub entered_lasts : (j e l : ℕ) (q : List Bool) → Entered g j e l q → Entered h j e l q
  entered_lasts j e l q a = E.roles.keeps (entry j e l q) a

  pub handed_lasts : (j e seq : ℕ) (s : Session) (c : Command) → Handed g j e seq s c → Handed h j e seq s c
  handed_lasts j e seq s c a = E.hands.keeps (hand j e seq s c) a

  pub accepted_lasts : (j v p : ℕ) (x : List Op) → Accepted g j v p x → Accepted h j v p x
  accepted_lasts j v p x a = E.accepts.keeps (triple j v p x) a

  pub joined_lasts : (m e l : ℕ) → Joined g m e l → Joined h m e l
  joined_lasts m e l k = (k.0, entered_lasts m e l k.0 k.1)

  -- what is accepted under a number below a promised one was accepted before
  pub accepted_below : (j v r p : ℕ) (x : List Op) → Had g APromise j p → r < p → Accepted h j v r x → Accepted g j v r x
  accepted_below j v r p x promised lt a = elim (E.accepts.added (triple j v r x) a) [
    | inl o ↦ o
    | inr w ↦ (let le = w.high p (subst (λ (z : ℕ). Had g APromise z p) w.who promised) in absurd (omega arith))
  ]

  pub followed_lasts : (e l : ℕ) → Followed g e l → Followed h e l
  followed_lasts e l k = record { quorum = k.quorum; led = entered_lasts l e l k.quorum k.led; joined = λ m a. joined_lasts m e l (k.joined m a) }

  -- ---- messages

  answers_last : (f to e pn last : ℕ) (whole : Bool) (from : ℕ) (values : List (List Op)) (told : Option Told) → Answers g f to e pn last whole from values told → Answers h f to e pn last whole from values told
  answers_last f to e pn last whole from values told k = record {
    joined = joined_lasts f e to k.joined;
    promised = had_lasts E APromise f pn k.promised;
    level = had_lasts E ALevel f last k.level;
    base = k.base;
    from = k.from;
    behind = had_lasts E ALevel to k.base k.behind;
    short = k.short;
    reaches = k.reaches;
    told = still told k.told;
    covers = λ w v r x a lt. k.covers w v r x (accepted_below f v r pn x k.promised lt a) lt;
  }
    where
      still : (o : Option Told) → IfSome o (λ t. (whole ≡ true) × (t.pn ≤ pn) × Accepted g f (suc last) t.pn t.value) → IfSome o (λ t. (whole ≡ true) × (t.pn ≤ pn) × Accepted h f (suc last) t.pn t.value)
      still None k = tt
      still (Some t) k = (k.0, k.1, accepted_lasts f (suc last) t.pn t.value k.2)

  pub body_lasts : (f to e : ℕ) (b : Body) → BodyHolds g f to e b → BodyHolds h f to e b
  body_lasts f to e (body.ProbeReply q first last) k = had_lasts E ALevel f last k
  body_lasts f to e (body.Victory q) k = entered_lasts f e f q k
  body_lasts f to e (body.Collect pn first last) k = (k.0, had_lasts E ANumber f pn k.1, had_lasts E ALevel f last k.2)
  body_lasts f to e (body.Last pn first last whole from values told) k = answers_last f to e pn last whole from values told k
  body_lasts f to e (body.Begin pn v value) k = accepted_lasts f v pn value k
  body_lasts f to e (body.Accept pn v) k = (had_lasts E APromise f pn k.0, k.1, accepted_lasts f v pn k.1 k.2)
  body_lasts f to e (body.Lease last) k = followed_lasts e f k
  body_lasts f to e (body.Forward seq c) k = (k.0, handed_lasts f e seq k.0 c k.1)
  body_lasts f to e (body.Cookie full c last) k = had_lasts E ALevel f last k
  body_lasts f to e (body.GetChunk c p) k = had_lasts E ALevel to p.version k
  body_lasts f to e (body.Chunk c p values entries done) k = had_lasts E ALevel f (p.version + length values) k
  body_lasts f to e (body.LastChunk c p values entries last) k = (had_lasts E ALevel f last k.0, k.1)
  body_lasts f to e other k = tt

  pub message_lasts : (to : ℕ) (m : Message) → MessageHolds g to m → MessageHolds h to m
  message_lasts to m k = record { epoch = had_lasts E AnEpoch m.from m.epoch k.epoch; body = body_lasts m.from to m.epoch m.body k.body }

  pub sent_lasts : (j : ℕ) (s : Sent) → SentHolds g j s → SentHolds h j s
  sent_lasts j (sent.Message to m) k = (k.0, message_lasts to m k.1)
  sent_lasts j (sent.Reply to r) k = tt

  -- ---- a monitor, i itself among them if its own part is unchanged

  pub source_lasts : (j e : ℕ) (c : Command) (o : Origin) → HasSource g j e c o → HasSource h j e c o
  source_lasts j e c (origin.Session s) k = E.asks.keeps (asking j s c) k
  source_lasts j e c (origin.Forwarded f seq) k = (k.0, handed_lasts f e seq k.0 c k.1)

  pub reigns_last : (j e : ℕ) (m : Bool) (q : List Bool) (queue : List Waiting) → Reigns g j e m q queue → Reigns h j e m q queue
  reigns_last j e m q queue k = record { unmarked = k.unmarked; role = entered_lasts j e j q k.role; queue = all_map (Waits g j e) (Waits h j e) (λ w. source_lasts j e w.command w.origin) queue k.queue }

  pub heard_lasts : (j e pn last f : ℕ) (L M : ℕ → ℕ → Type 0) → ((v r : ℕ) → L v r → M v r) → Heard g j e pn last L f → Heard h j e pn last M f
  heard_lasts j e pn last f L M left k = record {
    joined = joined_lasts f e j k.joined;
    promised = had_lasts E APromise f pn k.promised;
    covers = λ v r x a lt. elim (k.covers v r x (accepted_below f v r pn x k.promised lt a) lt) [ inl s ↦ inl s | inr c ↦ inr (left v r c) ];
  }

  pub leads_last : (j : ℕ) (c : Core) (L M : ℕ → ℕ → Type 0) → ((v r : ℕ) → L v r → M v r) → LeadsIn g j c L → LeadsIn h j c M
  leads_last j c L M left k = record {
    reigns = reigns_last j (epoch_in c.own) c.own.marked c.quorum c.queue k.reigns;
    made = k.made;
    promised = k.promised;
    own = k.own;
    heard = λ f a. heard_lasts j (epoch_in c.own) c.pn c.own.last f L M left (k.heard f a);
  }

  pub repeats_last : (q : List Bool) (pn last : ℕ) (value : Option (List Op)) (v r : ℕ) → Repeats g q pn last value v r → Repeats h q pn last value v r
  repeats_last q pn last value v r k = record { next = k.next; x = k.x; is = k.is; by = k.by; member = k.member; number = k.number; high = k.high; low = k.low; was = accepted_lasts k.by (suc last) k.number k.x k.was }

  pub found_lasts : (q : List Bool) (pn last : ℕ) (found : Option Found) → IfSome found (IsFound g q last pn) → IfSome found (IsFound h q last pn)
  found_lasts q pn last None k = tt
  found_lasts q pn last (Some f) k = record { next = k.next; low = k.low; by = k.by; member = k.member; was = accepted_lasts k.by f.version f.pn f.value k.was }

  -- monitor j accepted nothing further
  abbrev pub AcceptsNothingNew : ℕ → Type 0
  AcceptsNothingNew j = (v p : ℕ) (x : List Op) → Accepted h j v p x → Accepted g j v p x

  pub gathers_last : (j : ℕ) (q : List Bool) (pn last : ℕ) (found : Option Found) → AcceptsNothingNew j → Gathers g j q pn last found → Gathers h j q pn last found
  gathers_last j q pn last found same k = record { fresh = λ v x a. k.fresh v x (same v pn x a); found = found_lasts q pn last found k.found }

  pub proposes_last : (j pn last : ℕ) (value : Option (List Op)) (accepted : List Bool) → AcceptsNothingNew j → Proposes g j pn last value accepted → Proposes h j pn last value accepted
  proposes_last j pn last value accepted same k = record {
    x = k.x;
    is = k.is;
    was = accepted_lasts j (suc last) pn k.x k.was;
    most = λ v y a. k.most v y (same v pn y a);
    counted = λ f a. accepted_lasts f (suc last) pn k.x (k.counted f a);
  }

  -- monitor j handed nothing further on
  abbrev pub HandsOnNothingNew : ℕ → Type 0
  HandsOnNothingNew j = (e seq : ℕ) (s : Session) (c : Command) → Handed h j e seq s c → Handed g j e seq s c

  pub follows_last : (j : ℕ) (c : Core) → (is_some c.lease ≡ true → AcceptsNothingNew j) → HandsOnNothingNew j → FollowsIn g j c → FollowsIn h j c
  follows_last j c same hands k = record {
    role = entered_lasts j (epoch_in c.own) c.leader c.members k.role;
    unmarked = k.unmarked;
    sessions = all_map (IsHanded g j (epoch_in c.own)) (IsHanded h j (epoch_in c.own)) (λ a w. (w.0, handed_lasts j (epoch_in c.own) a.seq a.session w.0 w.1)) c.sessions k.sessions;
    below = λ seq s d a. k.below seq s d (hands (epoch_in c.own) seq s d a);
    clear = λ t v p x a. k.clear t v p x (same t v p x a);
    led = λ t. followed_lasts (epoch_in c.own) c.leader (k.led t);
  }

  pub stage_lasts : (last floor provider : ℕ) (full : Bool) (start version : ℕ) (s : SyncStage) → StageHolds g last floor provider full start version s → StageHolds h last floor provider full start version s
  stage_lasts last floor provider full start version sync.Cookie k = λ e. had_lasts E ALevel provider last (k e)
  stage_lasts last floor provider full start version sync.Chunks k = (had_lasts E ALevel provider version k.0, k.1, k.2)
  stage_lasts last floor provider full start version (sync.Replay next end) k = k

  -- what holds of monitor j in its phase still holds if j accepted nothing and handed nothing on
  pub phase_lasts : (n j : ℕ) (c : Core) (p : Phase) → AcceptsNothingNew j → HandsOnNothingNew j → InPhase n g j c p → InPhase n h j c p
  phase_lasts n j c phase.Booting same hands k = tt
  phase_lasts n j c phase.Probing same hands k = tt
  phase_lasts n j c phase.Synchronizing same hands k = (k.0, stage_lasts c.own.last c.own.floor c.provider c.full c.start c.version c.stage k.1)
  phase_lasts n j c phase.Electing same hands k = k
  phase_lasts n j c phase.Collecting same hands k = (leads_last j c (FoundCovers c.found) (FoundCovers c.found) (λ v r l. l) k.0, gathers_last j c.quorum c.pn c.own.last c.found same k.1)
  phase_lasts n j c phase.Previous same hands k =
      (leads_last j c (Repeats g c.quorum c.pn c.own.last c.value) (Repeats h c.quorum c.pn c.own.last c.value) (repeats_last c.quorum c.pn c.own.last c.value) k.0, k.1, proposes_last j c.pn c.own.last c.value c.accepted same k.2)
  phase_lasts n j c phase.Active same hands k = (leads_last j c Nowhere Nowhere (λ v r l. l) k.0, k.1, λ v x a. k.2 v x (same v c.pn x a))
  phase_lasts n j c phase.Updating same hands k = (leads_last j c Nowhere Nowhere (λ v r l. l) k.0, k.1, proposes_last j c.pn c.own.last c.value c.accepted same k.2)
  phase_lasts n j c phase.Peon same hands k = follows_last j c (λ _. same) hands k

  -- ---- the other monitors

  pub same_accepts : (j : ℕ) → (j ≡ i → ⊥) → AcceptsNothingNew j
  same_accepts j ne v p x a = elim (E.accepts.added (triple j v p x) a) [ inl o ↦ o | inr w ↦ absurd (ne w.who) ]

  pub same_hands : (j : ℕ) → (j ≡ i → ⊥) → HandsOnNothingNew j
  same_hands j ne e seq s c a = elim (E.hands.added (hand j e seq s c) a) [ inl o ↦ o | inr w ↦ absurd (ne w) ]

  numbers_last : (j : ℕ) (o : Own) → (j ≡ i → ⊥) → Numbered g.signs j o → Numbered h.signs j o
  numbers_last j o ne k = record { now = λ z. had_lasts E z j (number_of o z) (k.now z); top = λ z n a. k.top z n (had_before E z j n ne a) }

  vote_lasts : (j v p : ℕ) (c : Cell) → Voted g.accepts j v p c → Voted h.accepts j v p c
  vote_lasts j v p c k = record { x = k.x; was = accepted_lasts j v p k.x k.was; is = k.is }

  kept_lasts : (j : ℕ) (o : Own) (records : ℕ → Cell) → (j ≡ i → ⊥) → Kept g.roles g.hands g.accepts j o records → Kept h.roles h.hands h.accepts j o records
  kept_lasts j o records ne k = record {
    roles = λ f l q a. k.roles f l q (elim (E.roles.added (entry j f l q) a) [ inl old ↦ old | inr w ↦ absurd (ne w.who) ]);
    hands = λ f seq s c a. k.hands f seq s c (same_hands j ne f seq s c a);
    order = k.order;
    mine = k.mine;
    accepts = λ v p x a. k.accepts v p x (same_accepts j ne v p x a);
    made = λ m v p x a e. let s = sooner v p x e m (E.accepts.added (triple m v p x) a) in k.made s.0 v p x s.1 e;
    covered = λ v p x a. k.covered v p x (same_accepts j ne v p x a);
    under = k.under;
    next = k.next;
    vote = λ u e. vote_lasts j (suc o.last) o.pending_pn (records (suc o.last)) (k.vote u e);
    clear = k.clear;
  }
    where
      from : (v p : ℕ) (x : List Op) → p % 100 ≡ j → (p % 100 ≡ i) ⊎ ((k : ℕ) × Accepted g k v p x) → (k : ℕ) × Accepted g k v p x
      from v p x e (inl q) = absurd (ne (sym e ∙ q))
      from v p x e (inr s) = s

      sooner : (v p : ℕ) (x : List Op) → p % 100 ≡ j → (m : ℕ) → Accepted g m v p x ⊎ NewTriple i g (triple m v p x) → (k : ℕ) × Accepted g k v p x
      sooner v p x e m (inl old) = (m, old)
      sooner v p x e m (inr w) = from v p x e w.from

  pub disk_lasts : (j : ℕ) (o : Own) (records : ℕ → Cell) → (j ≡ i → ⊥) → Disk g j o records → Disk h j o records
  disk_lasts j o records ne k = record { numbers = numbers_last j o ne k.numbers; kept = kept_lasts j o records ne k.kept }
