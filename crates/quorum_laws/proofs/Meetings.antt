-- What holds of a meeting, whatever it is, if it holds of a monitor of which all is known that is kept.
pub use Rattle.quorum_model.proofs.Members.{member_of}
use Rattle.law_names.proofs.Runs.{Asked, Client, Deliver, Down, Envelope, IsCommand, Meeting, Monitors, NoMessage, Plain, PlainFits, Reacts, RequestFits, World, command_of, meets, with_asked}
use Rattle.law_names.proofs.Table.{AllByRecursion, Command, Contains, Course, Input, Message, Op, Request, Session, State, Store, Which, any_reaction, booting, react, readings_of, shared_entries}
use Rattle.mon_bytes.specs.declared.command.Command.TheVariants as command
use Rattle.mon_msg.specs.declared.input.Input.TheVariants as input
use Rattle.mon_wire.specs.declared.request.Request.TheVariants as request
use Rattle.quorum_history.proofs.Growing.{grows_by, grows_not}
use Rattle.quorum_history.proofs.History.{Ask, Asks, Ext, Ghost, Glob, asking}
use Rattle.quorum_history.proofs.Rows.{InputHolds}
use Rattle.quorum_history.proofs.RowsClients.{IsAsked}
use Rattle.quorum_laws.proofs.Invariant.{EnvelopeFine, EnvelopeHolds, Further, Inv, InvOf, InvWith, OnState, StateFits, further_refl, was_asked_more}
use Rattle.quorum_laws.proofs.Values.{made}
use Rattle.quorum_laws.proofs.Whole.{active_last, envelopes_last, mine_lasts}
use Rattle.quorum_laws.specs.Commands.{WasAsked}
use Rattle.quorum_model.proofs.Happening as happening
use Rattle.quorum_model.proofs.Happening.{Arrived, Brought}
use Rattle.quorum_walk.proofs.FineCourses.{EntryFine, RequestFine}
use Rattle.quorum_walk.proofs.FineTable.{ComesFine}
use Rattle.quorum_walk.proofs.Lists.{all_get}
use Rattle.std.proofs.Common.{IfSome, List, Option, Result, Some, [], arith, inl, inr, ltb, refl, subst, suc, sym, true, ℕ, ◌++◌, ◌<◌, ◌∷◌, ◌≡◌, ◌⊎◌}
use Rattle.std.proofs.lemmas.List.Elements.{Contains-append_right, Contains-push}

-- ---- what a client asks

abbrev with_ask : Ask → Ghost → Ghost
with_ask a g = record g { asks = a ∷ g.asks }

ask_ext : (k : ℕ) (a : Ask) (g : Ghost) → Ext k g (with_ask a g)
ask_ext k a g =
    record {
      roles = grows_not _ g.roles;
      hands = grows_not _ g.hands;
      asks = grows_by _ a g.asks tt;
      signs = grows_not _ g.signs;
      accepts = grows_not _ g.accepts;
    }

ask_glob : (n : ℕ) (a : Ask) (g : Ghost) → Glob n g → Glob n (with_ask a g)
ask_glob n a g G =
    record {
      roles = G.roles;
      hands = record { once = G.hands.once; asked = λ i e seq s c t. inr (G.hands.asked i e seq s c t) };
      triples = G.triples;
    }

module _ (n : ℕ) (store : ℕ → Store) (state : ℕ → Option State) (txs : ℕ → List (List Op))
    (messages : List Envelope) (pairs : List (ℕ × ℕ)) (asked : List Asked)
    (I : Inv n store state txs messages pairs asked) where
  -- what holds if more was asked, with a history that goes on
  abbrev Asking : List Asked → Type 0
  Asking more = (J : Inv n store state txs messages pairs (asked ++ more)) × Further I.g J.g

  map_asked : (more : List Asked) → Asking more
  map_asked more = (
    record {
      g = I.g;
      glob = I.glob;
      mine = I.mine;
      triples = I.triples;
      held = I.held;
      raised = I.raised;
      sent = I.sent;
      sizes = I.sizes;
      active = I.active;
      asks = λ j t d a. was_asked_more n asked more j t d (I.asks j t d a);
    },
    further_refl I.g,
  )

  -- a command is asked
  command_asked : (i : ℕ) (s : Session) (r : Request) (c : Command) → i < n → command_of r ≡ Some c → IsCommand c
      → (J : Asking (record { rank = i; session = s; request = r } ∷ [])) × Asks J.0.g i s c
  command_asked i s r c lt is form =
      let a = asking i s c in
      let h = with_ask a I.g in
      let one : Asked = record { rank = i; session = s; request = r } in
      let now : WasAsked n (asked ++ one ∷ []) i s c = record {
        by = one;
        among = Contains-append_right asked (one ∷ []) one (0, omega arith, refl);
        at = refl;
        below = lt;
        session = refl;
        command = is;
        form = form;
      } in (
        (
          record {
            g = h;
            glob = ask_glob n a I.g I.glob;
            mine = λ j. mine_lasts n (suc j) I.g h (ask_ext (suc j) a I.g) j (readings_of (store j)) (state j)
                (λ e. omega arith) (I.mine j);
            triples = record { kept = I.triples.kept; known = I.triples.known };
            held = I.held;
            raised = I.raised;
            sent = envelopes_last n 0 I.g h (ask_ext 0 a I.g) messages I.sent;
            sizes = I.sizes;
            active = active_last n 0 I.g h (ask_ext 0 a I.g) pairs I.active;
            asks = λ j t d b. elim b [
              | inl e ↦ subst (λ (z : Ask). WasAsked n (asked ++ one ∷ []) z.i z.session z.command) (sym e) now
              | inr o ↦ was_asked_more n asked (one ∷ []) j t d (I.asks j t d o)
            ];
          },
          record { roles = λ r b. b; hands = λ r b. b; asks = λ r b. inr b },
        ),
        inl refl,
      )

-- ---- what an event meets

-- what is known of each envelope is known of the message that comes
abbrev pub ToldOf : (Envelope → Type 0) → (rank : ℕ) → Input → Type 0
ToldOf Told rank (input.Deliver m) = Told (record { to = rank; message = m })
ToldOf Told rank other = Unit {0}

-- what a client asks is noted
abbrev pub IsNoted : List Asked → (rank : ℕ) → Input → Type 0
IsNoted asked rank (input.Client s r) = Contains asked (record { rank = rank; session = s; request = r })
IsNoted asked rank other = Unit {0}

module _ (ms : Monitors) (w : World) (Told : Envelope → Type 0) where
  -- what arrives at a monitor that is up, or that starts
  pub record Arriving (asked : List Asked) (I : InvWith ms w asked) : Type 0 where
    pub rank : ℕ
    pub lt : ltb rank ms.count ≡ true
    pub at : ℕ
    pub state : State
    pub remembers : (w.state rank ≡ Some state) ⊎ (state ≡ booting rank)
    pub came : Input
    pub on : OnState ms.count I.g rank (readings_of (w.store rank)) (Some state)
    pub fits : StateFits state
    pub holds : InputHolds (member_of ms rank lt) I.g came
    pub fine : (S : AllByRecursion EntryFine (shared_entries (w.store rank))) → ComesFine (member_of ms rank lt) at
        (readings_of (w.store rank)) made (shared_entries (w.store rank)) S came
    pub told : ToldOf Told rank came
    pub noted : IsNoted asked rank came

  -- this is so of whatever an event meets
  pub record OfMeeting (p : Plain) (I : InvWith ms w (with_asked p w.asked)) (Q : Meeting → Type 0) : Type 0 where
    pub down : Q Down
    pub none : Q NoMessage
    pub reacts : (A : Arriving (with_asked p w.asked) I) (r : Result Course Which)
        → react (member_of ms A.rank A.lt) (shared_entries (w.store A.rank)) A.at (readings_of (w.store A.rank))
        A.state A.came ≡ r → Q (Reacts A.rank A.came (any_reaction r))

-- ---- what arrives, in a history

module _ (ms : Monitors) (w : World) (p : Plain) (a : Arrived ms w p) (asked : List Asked) (J : InvWith ms w asked) where
  pub on : OnState ms.count J.g a.rank (readings_of (w.store a.rank)) (Some a.state)
  on = by a.remembers
    where
      by : (w.state a.rank ≡ Some a.state) ⊎ (a.state ≡ booting a.rank) → OnState ms.count J.g a.rank (readings_of (w.store a.rank)) (Some a.state)
      by (inl e) = subst (OnState ms.count J.g a.rank (readings_of (w.store a.rank))) e (J.mine a.rank).state
      by (inr e) = subst (λ (s : State). OnState ms.count J.g a.rank (readings_of (w.store a.rank)) (Some s)) (sym e) tt

  pub fits : StateFits a.state
  fits = by a.remembers
    where
      by : (w.state a.rank ≡ Some a.state) ⊎ (a.state ≡ booting a.rank) → StateFits a.state
      by (inl e) = subst (λ (o : Option State). IfSome o StateFits) e (J.mine a.rank).fits
      by (inr e) = subst StateFits (sym e) (record { found = tt; value = tt; pn = omega arith; stage = tt; queue = tt })

  -- what is known of each envelope is known of the one that comes
  pub sent_known : (P : Envelope → Type 0) → AllByRecursion P w.messages → (m : Message) → Brought ms w p a.rank (input.Deliver m) → P (record { to = a.rank; message = m })
  sent_known P k m b = subst (λ (o : Option Envelope). IfSome o P) b.1 (all_get P w.messages b.0 k)

  pub said : (m : Message) → Brought ms w p a.rank (input.Deliver m) → EnvelopeHolds ms.count J.g (record { to = a.rank; message = m })
  said m b = sent_known (EnvelopeHolds ms.count J.g) J.sent m b

  pub fine : PlainFits ms.count p → (S : AllByRecursion EntryFine (shared_entries (w.store a.rank))) (came : Input) → Brought ms w p a.rank came → ComesFine (member_of ms a.rank a.lt) a.at (readings_of (w.store a.rank)) made (shared_entries (w.store a.rank)) S came
  fine F S (input.Deliver m) b = (let k = (said m b).0 in let few = ms.most in omega arith, sent_known EnvelopeFine J.sizes m b)
  fine F S (input.Client t r) b = by r (subst (PlainFits ms.count) b.1 F).1
    where
      by : (r : Request) → RequestFits r → RequestFine r
      by (request.Set key value) k = k
      by (request.Remove key) k = k
      by (request.Log text) k = k
      by other k = tt
  fine F S other b = tt

  pub told_so : (Told : Envelope → Type 0) → AllByRecursion Told w.messages → (came : Input) → Brought ms w p a.rank came → ToldOf Told a.rank came
  told_so Told T (input.Deliver m) b = sent_known Told T m b
  told_so Told T other b = tt

-- what is asked is in the history
abbrev Knows : Ghost → Plain → Type 0
Knows g (Client rank at s r) = IsAsked g rank s r
Knows g other = Unit {0}

module _ (ms : Monitors) (w : World) (Told : Envelope → Type 0) (p : Plain) (F : PlainFits ms.count p) (T : AllByRecursion Told w.messages) (J : InvWith ms w (with_asked p w.asked)) (known : Knows J.g p) (a : Arrived ms w p) where
  pub holds : (came : Input) → Brought ms w p a.rank came → InputHolds (member_of ms a.rank a.lt) J.g came
  holds (input.Deliver m) b = said ms w p a (with_asked p w.asked) J m b
  holds (input.Client t r) b = subst (Knows J.g) b.1 known
  holds other b = tt

  pub noted : (came : Input) → Brought ms w p a.rank came → IsNoted (with_asked p w.asked) a.rank came
  noted (input.Client t r) b = let one : Asked = record { rank = a.rank; session = t; request = r } in subst (λ (z : Plain). Contains (with_asked z w.asked) one) (sym b.1) (Contains-push w.asked one)
  noted other b = tt

  abbrev pub arriving : Arriving ms w Told (with_asked p w.asked) J
  arriving = record {
    rank = a.rank;
    lt = a.lt;
    at = a.at;
    state = a.state;
    remembers = a.remembers;
    came = a.came;
    on = on ms w p a (with_asked p w.asked) J;
    fits = fits ms w p a (with_asked p w.asked) J;
    holds = holds a.came a.brought;
    fine = λ S. fine ms w p a (with_asked p w.asked) J F S a.came a.brought;
    told = told_so ms w p a (with_asked p w.asked) J Told T a.came a.brought;
    noted = noted a.came a.brought;
  }

module _ (ms : Monitors) (w : World) (I : InvOf ms w) where
  -- what an event asks is added to the history
  abbrev pub Adds : Plain → Type 0
  Adds p = (J : InvWith ms w (with_asked p w.asked)) × Further I.g J.g × Knows J.g p

  pub adds : (p : Plain) → PlainFits ms.count p → Adds p
  adds (Client rank at s r) F = by r F.1
    where
      asks : (r : Request) (c : Command) → command_of r ≡ Some c → IsCommand c → ((g : Ghost) → Asks g rank s c → IsAsked g rank s r) → Adds (Client rank at s r)
      asks r c is form known = let A = command_asked ms.count w.store w.state w.transactions w.messages w.active w.asked I rank s r c F.0 is form in (A.0.0, A.0.1, known A.0.0.g A.1)

      reads : (r : Request) → ((g : Ghost) → IsAsked g rank s r) → Adds (Client rank at s r)
      reads r known = let A = map_asked ms.count w.store w.state w.transactions w.messages w.active w.asked I (record { rank = rank; session = s; request = r } ∷ []) in (A.0, A.1, known A.0.g)

      by : (r : Request) → RequestFits r → Adds (Client rank at s r)
      by (request.Set key value) k = asks (request.Set key value) (command.Set key value) refl k (λ g a. a)
      by (request.Remove key) k = asks (request.Remove key) (command.Remove key) refl k (λ g a. a)
      by (request.Log text) k = asks (request.Log text) (command.Log text) refl k (λ g a. a)
      by (request.Show v) k = reads (request.Show v) (λ g. tt)
      by (request.Since v n) k = reads (request.Since v n) (λ g. tt)
  adds other F = (I, further_refl I.g, tt)

-- it is so whatever what is asked adds to the history
pub each_meeting : (ms : Monitors) (w : World) (Told : Envelope → Type 0) (I : InvOf ms w) (Q : Meeting → Type 0) → AllByRecursion Told w.messages → (p : Plain) → PlainFits ms.count p
    → ((J : InvWith ms w (with_asked p w.asked)) → Further I.g J.g → OfMeeting ms w Told p J Q) → Q (meets ms w p)
each_meeting ms w Told I Q T p F K = let A = adds ms w I p F in let k = K A.0 A.1 in happening.each_meeting ms w p Q k.down k.none (λ a r q. k.reacts (arriving ms w Told p F T A.0 A.2 a) r q)
