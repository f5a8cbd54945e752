-- The elementary steps: what is said, numbers that rise, an epoch that is entered, and a command that is handed on.
use Rattle.law_names.proofs.Table.{AllByRecursion, Body, Cell, Change, Command, Epoch, Me, Numbers, Op, Sent, Session, Vote, ask, has, is_even, is_majority, made, message_to}
use Rattle.quorum_history.proofs.Frame.{accepted_below, sent_lasts}
use Rattle.quorum_history.proofs.Growing.{grows_by, grows_more, grows_not}
use Rattle.quorum_history.proofs.History.{ALevel, ANumber, APromise, Accepted, AnEpoch, Ask, Asks, Entered, Entry, Ext, Ghost, Glob, Had, HadIn, Hand, Handed, HandsHold, HasBlocker, NewEntry, Rising, RolesHold, Sign, Triple, entry, ext_trans, had_lasts, hand, sign, triple}
use Rattle.quorum_history.proofs.Holds.{BodyHolds, Disk, Kept, Numbered, SentHolds, Tied, With, epoch_in, level_in, number_in_own, number_of, promise_in}
use Rattle.quorum_walk.proofs.Lists.{Among, all_among, all_append, all_map, all_of, among_append, among_left}
use Rattle.quorum_walk.proofs.Sparing.{Own}
use Rattle.std.proofs.Common.{Bool, List, Some, [], ap, arith, inl, inr, map, refl, subst, suc, sym, true, ℕ, ◌%◌, ◌++◌, ◌<◌, ◌∙◌, ◌∷◌, ◌≡◌, ◌≤◌, ◌⊎◌}

-- ---- with no new history

module _ {n i : ℕ} {g : Ghost} {Known : ℕ → List Op → Type 0} {o : Own} {records : ℕ → Cell} {cs : List Change} {out : List Sent} where
  pub weaken : (P Q : Ghost → Type 0) → With n i g Known o records cs out P → ((h : Ghost) → Ext i g h → Glob n h → Disk h i o records → P h → Q h) → With n i g Known o records cs out Q
  weaken P Q A f = record { h = A.h; ext = A.ext; glob = A.glob; disk = A.disk; tied = A.tied; known = A.known; asks = A.asks; sent = A.sent; fact = f A.h A.ext A.glob A.disk A.fact }

  pub says : (P : Ghost → Type 0) (more : List Sent) → With n i g Known o records cs out P → ((h : Ghost) → Ext i g h → Glob n h → Disk h i o records → P h → AllByRecursion (SentHolds h i) more) → With n i g Known o records cs (out ++ more) P
  says P more A f = record { h = A.h; ext = A.ext; glob = A.glob; disk = A.disk; tied = A.tied; known = A.known; asks = A.asks; sent = all_append _ out more A.sent (f A.h A.ext A.glob A.disk A.fact); fact = A.fact }

-- one message to some
pub messages_hold : (me : Me) (h : Ghost) (o : Own) (b : Body) (tos : List ℕ) → Numbered h.signs me.member.rank o → ((to : ℕ) → BodyHolds h me.member.rank to (epoch_in o) b) → AllByRecursion (SentHolds h me.member.rank) (map (message_to me (epoch_in o) b) tos)
messages_hold me h o b tos N f = all_of (SentHolds h me.member.rank) (message_to me (epoch_in o) b) (λ to. (refl, record { epoch = N.now AnEpoch; body = f to })) tos

module _ (me : Me) {g : Ghost} {Known : ℕ → List Op → Type 0} {o : Own} {records : ℕ → Cell} {cs : List Change} {out : List Sent} where
  -- a message to each of some
  pub tells_each : (P : Ghost → Type 0) (b : Body) (tos : List ℕ) → With me.member.monitors me.member.rank g Known o records cs out P → ((h : Ghost) → Ext me.member.rank g h → Glob me.member.monitors h → Disk h me.member.rank o records → P h → (to : ℕ) → BodyHolds h me.member.rank to (epoch_in o) b)
      → With me.member.monitors me.member.rank g Known o records cs (out ++ map (message_to me (epoch_in o) b) tos) P
  tells_each P b tos A f = says P _ A (λ h E G D p. messages_hold me h o b tos D.numbers (f h E G D p))

  -- a message to one
  pub tells : (P : Ghost → Type 0) (b : Body) (to : ℕ) → With me.member.monitors me.member.rank g Known o records cs out P → ((h : Ghost) → Ext me.member.rank g h → Glob me.member.monitors h → Disk h me.member.rank o records → P h → BodyHolds h me.member.rank to (epoch_in o) b)
      → With me.member.monitors me.member.rank g Known o records cs (out ++ message_to me (epoch_in o) b to ∷ []) P
  tells P b to A f = says P _ A (λ h E G D p. ((refl, record { epoch = D.numbers.now AnEpoch; body = f h E G D p }), tt))

-- ---- changes without votes and new numbers

abbrev pub IsPlain : Change → Type 0
IsPlain (Vote v pn value) = ⊥
IsPlain (Numbers pn) = ⊥
IsPlain other = Unit {0}

abbrev pub Plain : List Change → Type 0
Plain = AllByRecursion IsPlain

pub tied_refl : (i : ℕ) (g : Ghost) → Tied i g g []
tied_refl i g = record { votes = λ v p x a. absurd a; only = λ j v p x a. inl a; made = λ p a. absurd a }

-- no triple was added since
pub tied_more : (i : ℕ) (g h k : Ghost) (cs more : List Change) → ((v p : ℕ) (x : List Op) → Among (Vote v p x) more → ⊥) → ((p : ℕ) → Among (Numbers p) more → (p % 100 ≡ i) × ((q : ℕ) → Had g ANumber i q → q < p))
    → ((t : Triple) → Among t h.accepts → Among t k.accepts) → ((t : Triple) → Among t k.accepts → Among t h.accepts) → Tied i g h cs → Tied i g k (cs ++ more)
tied_more i g h k cs more none made forth back T = record {
  votes = λ v p x a. elim (among_append (Vote v p x) cs more a) [ inl o ↦ forth (triple i v p x) (T.votes v p x o) | inr w ↦ absurd (none v p x w) ];
  only = λ j v p x a. elim (T.only j v p x (back (triple j v p x) a)) [ inl o ↦ inl o | inr w ↦ inr (w.0, among_left (Vote v p x) cs more w.1) ];
  made = λ p a. elim (among_append (Numbers p) cs more a) [ inl o ↦ T.made p o | inr w ↦ made p w ];
}

plainly : (i : ℕ) (g h k : Ghost) (cs more : List Change) → Plain more → ((t : Triple) → Among t h.accepts → Among t k.accepts) → ((t : Triple) → Among t k.accepts → Among t h.accepts) → Tied i g h cs → Tied i g k (cs ++ more)
plainly i g h k cs more plain forth back T = tied_more i g h k cs more (λ v p x a. all_among IsPlain (Vote v p x) more a plain) (λ p a. absurd (all_among IsPlain (Numbers p) more a plain)) forth back T

-- ---- with a new history

pub further : {n i : ℕ} {g : Ghost} {Known : ℕ → List Op → Type 0} {o : Own} {records : ℕ → Cell} {cs : List Change} {out : List Sent} (P Q : Ghost → Type 0) (o2 : Own) (records2 : ℕ → Cell) (cs2 : List Change) (A : With n i g Known o records cs out P) (k : Ghost)
    → Ext i A.h k → Glob n k → Disk k i o2 records2 → Tied i g k cs2 → ((j v p : ℕ) (x : List Op) → Accepted k j v p x → Known v x) → ((a : Ask) → Among a k.asks → Among a A.h.asks) → Q k → With n i g Known o2 records2 cs2 out Q
further {i = i} {out = out} P Q o2 records2 cs2 A k E G D T K N q = record { h = k; ext = ext_trans A.ext E; glob = G; disk = D; tied = T; known = K; asks = λ a m. A.asks a (N a m); sent = all_map _ _ (sent_lasts i A.h k E i) out A.sent; fact = q }

-- ---- numbers that rise

-- the history in which monitor i signed each of its numbers as it is now
abbrev pub signed : ℕ → Own → Ghost → Ghost
signed i o g = record g { signs = sign AnEpoch i (epoch_in o) ∷ sign ANumber i (number_in_own o) ∷ sign APromise i (promise_in o) ∷ sign ALevel i (level_in o) ∷ g.signs }

pub signed_ext : (i : ℕ) (o : Own) (g : Ghost) → Ext i g (signed i o g)
signed_ext i o g = record {
  roles = grows_not _ g.roles;
  hands = grows_not _ g.hands;
  asks = grows_not _ g.asks;
  signs = let N : Sign → Type 0 = λ s. s.i ≡ i in
      grows_more N g.signs _ _ (grows_by N (sign ALevel i (level_in o)) g.signs refl)
      (grows_more N _ _ _ (grows_by N (sign APromise i (promise_in o)) _ refl) (grows_more N _ _ _ (grows_by N (sign ANumber i (number_in_own o)) _ refl) (grows_by N (sign AnEpoch i (epoch_in o)) _ refl)));
  accepts = grows_not _ g.accepts;
}

-- each of these signed numbers is the number that i has of its kind
is_number : (o : Own) (i j m : ℕ) (k z : Rising) → sign k j m ≡ sign z i (number_of o z) → m ≡ number_of o k
is_number o i j m k z e = ap (λ (s : Sign). s.n) e ∙ ap (number_of o) (sym (ap (λ (s : Sign). s.kind) e))

pub signed_numbers : (i : ℕ) (o o2 : Own) (g : Ghost) → ((k : Rising) → number_of o k ≤ number_of o2 k) → Numbered g.signs i o → Numbered (signed i o2 g).signs i o2
signed_numbers i o o2 g up N = record { now = now; top = top }
  where
    now : (k : Rising) → HadIn (signed i o2 g).signs k i (number_of o2 k)
    now AnEpoch = inr (record { m = epoch_in o2; high = omega arith; was = inl refl })
    now ANumber = inr (record { m = number_in_own o2; high = omega arith; was = inr (inl refl) })
    now APromise = inr (record { m = promise_in o2; high = omega arith; was = inr (inr (inl refl)) })
    now ALevel = inr (record { m = level_in o2; high = omega arith; was = inr (inr (inr (inl refl))) })

    old : (k : Rising) (m : ℕ) → HadIn g.signs k i m → m ≤ number_of o2 k
    old k m a = let s = N.top k m a in let t = up k in omega arith

    new : (k z : Rising) (n m : ℕ) → n ≤ m → sign k i m ≡ sign z i (number_of o2 z) → n ≤ number_of o2 k
    new k z n m le e = let s = is_number o2 i i m k z e in omega arith

    top : (k : Rising) (m : ℕ) → HadIn (signed i o2 g).signs k i m → m ≤ number_of o2 k
    top k m (inl l) = old k m (inl l)
    top k m (inr s) = elim s.was [
      | inl e ↦ new k AnEpoch m s.m s.high e
      | inr a ↦ elim a [
        | inl e ↦ new k ANumber m s.m s.high e
        | inr b ↦ elim b [
          | inl e ↦ new k APromise m s.m s.high e
          | inr c ↦ elim c [ inl e ↦ new k ALevel m s.m s.high e | inr d ↦ old k m (inr (record { m = s.m; high = s.high; was = d })) ]
        ]
      ]
    ]

-- a value that can no longer be accepted can't be accepted later either
pub refuses_later : (i : ℕ) (g h : Ghost) (E : Ext i g h) (Q : List Bool) (v r : ℕ) (y : List Op) → HasBlocker g.signs g.accepts Q v r y → HasBlocker h.signs h.accepts Q v r y
refuses_later i g h E Q v r y k = record { m = k.m; within = k.within; above = had_lasts E APromise k.m (suc r) k.above; never = λ a. k.never (accepted_below i g h E k.m v r (suc r) y k.above (omega arith) a) }

pub signed_glob : (n i : ℕ) (o : Own) (g : Ghost) → Glob n g → Glob n (signed i o g)
signed_glob n i o g G = record {
  roles = G.roles;
  hands = G.hands;
  triples = let T = G.triples in record {
    below = T.below;
    some = T.some;
    fine = T.fine;
    owner = T.owner;
    one = T.one;
    safe = λ j v p r x y Q a lt ne ma le. refuses_later i g (signed i o g) (signed_ext i o g) Q v r y (T.safe j v p r x y Q a lt ne ma le);
  };
}

-- changes without a vote, after which no number is lower
pub moves : {n i : ℕ} {g : Ghost} {Known : ℕ → List Op → Type 0} {o : Own} {records : ℕ → Cell} {cs : List Change} {out : List Sent} (P Q : Ghost → Type 0) (o2 : Own) (records2 : ℕ → Cell) (more : List Change) → Plain more → ((k : Rising) → number_of o k ≤ number_of o2 k)
    → (A : With n i g Known o records cs out P) → ((h : Ghost) → Ext i g h → Glob n h → Disk h i o records → P h → Kept h.roles h.hands h.accepts i o2 records2)
    → ((h : Ghost) → Ext i g h → Ext i h (signed i o2 h) → Glob n h → Disk h i o records → P h → Q (signed i o2 h)) → With n i g Known o2 records2 (cs ++ more) out Q
moves {n} {i} {g} {Known} {o} {records} {cs} P Q o2 records2 more calm up A keep f =
    let h = A.h in
    let k = signed i o2 h in
    let E = signed_ext i o2 h in
    further P Q o2 records2 (cs ++ more) A k E (signed_glob n i o2 h A.glob) (record { numbers = signed_numbers i o o2 h up A.disk.numbers; kept = keep h A.ext A.glob A.disk A.fact })
    (plainly i g h k cs more calm (λ t a. a) (λ t a. a) A.tied) A.known (λ a m. m) (f h A.ext E A.glob A.disk A.fact)

-- ---- an epoch

abbrev pub with_epoch : ℕ → Own → Own
with_epoch e o = record o { epoch = Some e }

epoch_kept : (rs : List Entry) (hs : List Hand) (ts : List Triple) (i e : ℕ) (o : Own) (records : ℕ → Cell) → epoch_in o ≤ e → Kept rs hs ts i o records → Kept rs hs ts i (with_epoch e o) records
epoch_kept rs hs ts i e o records le k = record {
  roles = λ f l q a. let s = k.roles f l q a in omega arith;
  hands = λ f seq s c a. let t = k.hands f seq s c a in omega arith;
  order = k.order;
  mine = k.mine;
  accepts = k.accepts;
  made = k.made;
  covered = k.covered;
  under = k.under;
  next = k.next;
  vote = k.vote;
  clear = k.clear;
}

epoch_up : (e : ℕ) (o : Own) → epoch_in o ≤ e → (k : Rising) → number_of o k ≤ number_of (with_epoch e o) k
epoch_up e o le AnEpoch = le
epoch_up e o le ANumber = omega arith
epoch_up e o le APromise = omega arith
epoch_up e o le ALevel = omega arith

-- a later epoch, in which i has no role yet
pub rises : {n i : ℕ} {g : Ghost} {Known : ℕ → List Op → Type 0} {o : Own} {records : ℕ → Cell} {cs : List Change} {out : List Sent} (P Q : Ghost → Type 0) (e : ℕ) → epoch_in o ≤ e → With n i g Known o records cs out P → ((h k : Ghost) → Ext i h k → P h → Q k)
    → With n i g Known (with_epoch e o) records (cs ++ Epoch e ∷ []) out Q
rises {n} {i} {g} {Known} {o} {records} P Q e le A f = moves P Q (with_epoch e o) records (Epoch e ∷ []) (tt, tt) (epoch_up e o le) A (λ h E G D p. epoch_kept h.roles h.hands h.accepts i e o records le D.kept) (λ h E F G D p. f h (signed i (with_epoch e o) h) F p)

-- ---- an epoch that is entered

abbrev pub entered : (i e l : ℕ) → List Bool → Ghost → Ghost
entered i e l q g = record g { roles = entry i e l q ∷ g.roles }

pub record MayEnter (n i : ℕ) (g : Ghost) (e l : ℕ) (q : List Bool) : Type 0 where
  pub even : is_even e ≡ true
  pub below : i < n
  pub self : has q i ≡ true
  pub leader : has q l ≡ true
  pub major : is_majority n q ≡ true
  pub within : (m : ℕ) → has q m ≡ true → m < n
  pub lead : (l ≡ i) ⊎ Entered g l e l q

entered_ext : (i e l : ℕ) (q : List Bool) (g : Ghost) → ((n : ℕ) → Had g AnEpoch i n → n < e) → Ext i g (entered i e l q g)
entered_ext i e l q g later = record { roles = grows_by (NewEntry i g) (entry i e l q) g.roles (record { who = refl; later = later }); hands = grows_not _ g.hands; asks = grows_not _ g.asks; signs = grows_not _ g.signs; accepts = grows_not _ g.accepts }

-- what holds of the new entry and of the old ones holds of all
each_entry : (i e l : ℕ) (q : List Bool) (rs : List Entry) (P : Entry → Type 0) → P (entry i e l q) → ((j f m : ℕ) (w : List Bool) → Among (entry j f m w) rs → P (entry j f m w)) → (j f m : ℕ) (w : List Bool) → Among (entry j f m w) (entry i e l q ∷ rs) → P (entry j f m w)
each_entry i e l q rs P new k j f m w a = elim a [ inl p ↦ subst P (sym p) new | inr o ↦ k j f m w o ]

entered_roles : (n i e l : ℕ) (q : List Bool) (g : Ghost) (e1 : ℕ) → e1 < e → ((f m : ℕ) (w : List Bool) → Among (entry i f m w) g.roles → f ≤ e1) → RolesHold n g.roles → MayEnter n i g e l q → RolesHold n (entry i e l q ∷ g.roles)
entered_roles n i e l q g e1 lt low G M = record {
  even = each_entry i e l q g.roles (λ (r : Entry). is_even r.e ≡ true) M.even G.even;
  below = each_entry i e l q g.roles (λ (r : Entry). r.i < n) M.below G.below;
  self = each_entry i e l q g.roles (λ (r : Entry). has r.q r.i ≡ true) M.self G.self;
  leader = each_entry i e l q g.roles (λ (r : Entry). has r.q r.l ≡ true) M.leader G.leader;
  major = each_entry i e l q g.roles (λ (r : Entry). is_majority n r.q ≡ true) M.major G.major;
  within = each_entry i e l q g.roles (λ (r : Entry). (m : ℕ) → has r.q m ≡ true → m < n) M.within G.within;
  lead = each_entry i e l q g.roles (λ (r : Entry). Among (entry r.l r.e r.l r.q) (entry i e l q ∷ g.roles)) (by M.lead) (λ j f m w a. inr (G.lead j f m w a));
  once = λ j f m k u v a b. elim a [
    | inl p ↦ elim b [
      | inl r ↦ (ap (λ (t : Entry). t.l) p ∙ sym (ap (λ (t : Entry). t.l) r), ap (λ (t : Entry). t.q) p ∙ sym (ap (λ (t : Entry). t.q) r))
      | inr o ↦ absurd (stale j f k v (ap (λ (t : Entry). t.i) p) (ap (λ (t : Entry). t.e) p) o)
    ]
    | inr o ↦ elim b [ inl r ↦ absurd (stale j f m u (ap (λ (t : Entry). t.i) r) (ap (λ (t : Entry). t.e) r) o) | inr s ↦ G.once j f m k u v o s ]
  ];
}
  where
    by : (l ≡ i) ⊎ Entered g l e l q → Among (entry l e l q) (entry i e l q ∷ g.roles)
    by (inl p) = inl (ap (λ (z : ℕ). entry z e l q) p)
    by (inr o) = inr o

    stale : (j f m : ℕ) (w : List Bool) → j ≡ i → f ≡ e → Entered g j f m w → ⊥
    stale j f m w p r o = let s = low f m w (subst (λ (z : ℕ). Entered g z f m w) p o) in omega arith

entered_kept : (i e l : ℕ) (q : List Bool) (rs : List Entry) (hs : List Hand) (ts : List Triple) (o : Own) (records : ℕ → Cell) → epoch_in o ≡ e → Kept rs hs ts i o records → Kept (entry i e l q ∷ rs) hs ts i o records
entered_kept i e l q rs hs ts o records at k = record {
  roles = λ f m w a. elim a [ inl p ↦ (let s : f ≡ e = ap (λ (r : Entry). r.e) p in omega arith) | inr old ↦ k.roles f m w old ];
  hands = k.hands;
  order = k.order;
  mine = k.mine;
  accepts = k.accepts;
  made = k.made;
  covered = k.covered;
  under = k.under;
  next = k.next;
  vote = k.vote;
  clear = k.clear;
}

pub enters : {n i : ℕ} {g : Ghost} {Known : ℕ → List Op → Type 0} {o : Own} {records : ℕ → Cell} {cs : List Change} {out : List Sent} (P Q : Ghost → Type 0) (e l : ℕ) (q : List Bool) → epoch_in o < e → (A : With n i g Known o records cs out P)
    → ((h : Ghost) → Ext i g h → P h → MayEnter n i h e l q)
    → ((h k : Ghost) → Ext i h k → Kept h.roles h.hands h.accepts i o records → P h → Entered k i e l q → ((seq : ℕ) (s : Session) (c : Command) → Handed k i e seq s c → Handed h i e seq s c) → Q k)
    → With n i g Known (with_epoch e o) records (cs ++ Epoch e ∷ []) out Q
enters {n} {i} {g} {Known} {o} {records} {cs} P Q e l q lt A may f =
    let h = A.h in
    let o2 = with_epoch e o in
    let j = entered i e l q h in
    let k = signed i o2 j in
    let M = may h A.ext A.fact in
    let E1 = entered_ext i e l q h (λ m a. let t = A.disk.numbers.top AnEpoch m a in omega arith) in
    let E : Ext i h k = ext_trans E1 (signed_ext i o2 j) in
    let G = signed_glob n i o2 h A.glob in
    let kept = epoch_kept h.roles h.hands h.accepts i e o records (omega arith) A.disk.kept in
    further P Q o2 records (cs ++ Epoch e ∷ []) A k E
    (record { roles = entered_roles n i e l q h (epoch_in o) lt (λ f m w a. A.disk.kept.roles f m w a) A.glob.roles M; hands = G.hands; triples = G.triples })
    (record { numbers = signed_numbers i o o2 h (epoch_up e o (omega arith)) A.disk.numbers; kept = entered_kept i e l q h.roles h.hands h.accepts o2 records refl kept })
    (plainly i g h k cs (Epoch e ∷ []) (tt, tt) (λ t a. a) (λ t a. a) A.tied) A.known (λ a m. m)
    (f h k E A.disk.kept A.fact (inl refl) (λ seq s c a. a))

-- ---- a command that is handed on

abbrev pub handed : (i e seq : ℕ) → Session → Command → Ghost → Ghost
handed i e seq s c g = record g { hands = hand i e seq s c ∷ g.hands }

handed_ext : (i e seq : ℕ) (s : Session) (c : Command) (g : Ghost) → Ext i g (handed i e seq s c g)
handed_ext i e seq s c g = record { roles = grows_not _ g.roles; hands = grows_by _ (hand i e seq s c) g.hands refl; asks = grows_not _ g.asks; signs = grows_not _ g.signs; accepts = grows_not _ g.accepts }

handed_hold : (i e seq : ℕ) (s : Session) (c : Command) (g : Ghost) → Asks g i s c → ((t : Session) (d : Command) → Handed g i e seq t d → ⊥) → HandsHold g.hands g.asks → HandsHold (hand i e seq s c ∷ g.hands) g.asks
handed_hold i e seq s c g ask fresh G = record {
  once = λ j f q u v d k a b. elim a [
    | inl p ↦ elim b [
      | inl r ↦ (ap (λ (t : Hand). t.session) p ∙ sym (ap (λ (t : Hand). t.session) r), ap (λ (t : Hand). t.command) p ∙ sym (ap (λ (t : Hand). t.command) r))
      | inr o ↦ absurd (stale j f q v k (ap (λ (t : Hand). t.i) p) (ap (λ (t : Hand). t.e) p) (ap (λ (t : Hand). t.seq) p) o)
    ]
    | inr o ↦ elim b [ inl r ↦ absurd (stale j f q u d (ap (λ (t : Hand). t.i) r) (ap (λ (t : Hand). t.e) r) (ap (λ (t : Hand). t.seq) r) o) | inr w ↦ G.once j f q u v d k o w ]
  ];
  asked = λ j f q u d a. elim a [ inl p ↦ subst (λ (t : Hand). Asks g t.i t.session t.command) (sym p) ask | inr o ↦ G.asked j f q u d o ];
}
  where
    stale : (j f q : ℕ) (u : Session) (d : Command) → j ≡ i → f ≡ e → q ≡ seq → Handed g j f q u d → ⊥
    stale j f q u d a b k o = fresh u d (subst (λ (z : ℕ). Handed g i e z u d) k (subst (λ (z : ℕ). Handed g i z q u d) b (subst (λ (z : ℕ). Handed g z f q u d) a o)))

handed_kept : (i e seq : ℕ) (s : Session) (c : Command) (rs : List Entry) (hs : List Hand) (ts : List Triple) (o : Own) (records : ℕ → Cell) → e ≡ epoch_in o → Kept rs hs ts i o records → Kept rs (hand i e seq s c ∷ hs) ts i o records
handed_kept i e seq s c rs hs ts o records at k = record {
  roles = k.roles;
  hands = λ f q u d a. elim a [ inl p ↦ (let t : f ≡ e = ap (λ (r : Hand). r.e) p in omega arith) | inr old ↦ k.hands f q u d old ];
  order = k.order;
  mine = k.mine;
  accepts = k.accepts;
  made = k.made;
  covered = k.covered;
  under = k.under;
  next = k.next;
  vote = k.vote;
  clear = k.clear;
}

-- which numbers were given
pub handed_below : (i e seq : ℕ) (s : Session) (c : Command) (g : Ghost) → ((q : ℕ) (t : Session) (d : Command) → Handed g i e q t d → q < seq) → (q : ℕ) (t : Session) (d : Command) → Handed (handed i e seq s c g) i e q t d → q < suc seq
handed_below i e seq s c g below q t d a = elim a [ inl p ↦ (let w : q ≡ seq = ap (λ (r : Hand). r.seq) p in omega arith) | inr o ↦ (let w = below q t d o in omega arith) ]

pub hands_on : {n i : ℕ} {g : Ghost} {Known : ℕ → List Op → Type 0} {o : Own} {records : ℕ → Cell} {cs : List Change} {out : List Sent} (P Q : Ghost → Type 0) (seq : ℕ) (s : Session) (c : Command) → (A : With n i g Known o records cs out P)
    → ((h : Ghost) → Ext i g h → P h → Asks h i s c) → ((h : Ghost) → P h → (t : Session) (d : Command) → Handed h i (epoch_in o) seq t d → ⊥)
    → ((h : Ghost) → Ext i h (handed i (epoch_in o) seq s c h) → P h → Q (handed i (epoch_in o) seq s c h)) → With n i g Known o records cs out Q
hands_on {n} {i} {g} {Known} {o} {records} {cs} P Q seq s c A ask fresh f =
    let h = A.h in
    let e = epoch_in o in
    let k = handed i e seq s c h in
    let E = handed_ext i e seq s c h in
    further P Q o records cs A k E
    (record { roles = A.glob.roles; hands = handed_hold i e seq s c h (ask h A.ext A.fact) (fresh h A.fact) A.glob.hands; triples = A.glob.triples })
    (record { numbers = A.disk.numbers; kept = handed_kept i e seq s c h.roles h.hands h.accepts o records refl A.disk.kept })
    (record { votes = A.tied.votes; only = A.tied.only; made = A.tied.made }) A.known (λ a m. m) (f h E A.fact)
