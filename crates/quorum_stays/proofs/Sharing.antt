-- What an event makes of the sessions that wait at a peon.
use Rattle.law_names.proofs.Runs.{Arrival, Arrives, Client, Deliver, Envelope, Event, Monitors, Plain, Replied, Ring, Start, World, arrival, message_at, replies_of}
use Rattle.law_names.proofs.Table.{AllByRecursion, Asked, Body, Change, Command, Reply, Sent, Session, State, Store}
use Rattle.mon_msg.specs.declared.plan.Sent.TheVariants as sent
use Rattle.mon_wire.specs.declared.body.Body.TheVariants as body
use Rattle.quorum_stays.proofs.Stepping.{Did, brought}
use Rattle.quorum_stays.specs.Reading.{Reads}
use Rattle.quorum_stays.specs.Serving.{IsAnswer, IsForward, IsServed}
use Rattle.quorum_stays.specs.Steady.{Reign, in_reign}
use Rattle.quorum_walk.proofs.Lists.{Among}
use Rattle.std.proofs.Common.{List, Option, Some, [], ap, filter, inl, inr, map, not, option_map, refl, subst, suc, sym, ℕ, ◌++◌, ◌==◌, ◌∙◌, ◌∷◌, ◌≡◌}
use Rattle.std.proofs.lemmas.List.{append_assoc}

-- the event is a command that this session asks of monitor f
abbrev pub AsksOf : Event → (f : ℕ) → Session → Type 0
AsksOf (Arrives (Client i at session request)) f z = (i ≡ f) × (z ≡ session) × (Reads request → ⊥)
AsksOf other f z = ⊥

-- the event brings this message
abbrev pub Delivers : World → Event → Envelope → Type 0
Delivers w (Arrives (Deliver k at)) m = message_at w.messages k ≡ Some m
Delivers w other m = ⊥

-- a ROUTE
abbrev pub IsRoute : Body → Type 0
IsRoute (body.Route seq r) = Unit {0}
IsRoute other = ⊥

-- a message that is there isn't a ROUTE
pub no_route_there : (ms : Monitors) (reign : Reign) (o : Option Envelope) (f i : ℕ) (b : Body) → (IsRoute b → ⊥) → o ≡ Some (in_reign ms reign f i b) → (seq : ℕ) (r : Reply) → o ≡ Some (in_reign ms reign f i (body.Route seq r)) → ⊥
no_route_there ms reign o f i b none there seq r k =
    let same : Some (in_reign ms reign f i b) ≡ Some (in_reign ms reign f i (body.Route seq r)) = sym there ∙ k in
    let is : in_reign ms reign f i b ≡ in_reign ms reign f i (body.Route seq r) = cc in
    none (subst IsRoute (sym (ap (λ (m : Envelope). m.message.body) is)) tt)

-- monitor f hands on no command in these messages
abbrev pub HandsOnNoneOf : (f : ℕ) → List Envelope → Type 0
HandsOnNoneOf f = AllByRecursion (λ m. m.message.from ≡ f → IsForward m.message.body → ⊥)

pub none_of : (f : ℕ) (es : List Envelope) → AllByRecursion (λ (m : Envelope). IsForward m.message.body → ⊥) es → HandsOnNoneOf f es
none_of f [] all = tt
none_of f (m ∷ es) all = ((λ _. all.0), none_of f es all.1)

module _ (ms : Monitors) (reign : Reign) (before after : World) (e : Event) (f : ℕ) (was is : State) (es : List Envelope) where
  pub data Share : Type 0 where
    -- nobody asks, and no ROUTE of the leader comes
    Untouched : ((z : Session) → AsksOf e f z → ⊥) → ((seq : ℕ) (r : Reply) → Delivers before e (in_reign ms reign reign.leader f (body.Route seq r)) → ⊥) → is.clients.sessions ≡ was.clients.sessions → is.clients.next_seq ≡ was.clients.next_seq
        → HandsOnNoneOf f es → Share
    RepliedNow : (z : Session) → AsksOf e f z → IsServed before after f z → is.clients.sessions ≡ was.clients.sessions → is.clients.next_seq ≡ was.clients.next_seq → HandsOnNoneOf f es → Share
    Passed : (z : Session) (c : Command) → AsksOf e f z → is.clients.sessions ≡ was.clients.sessions ++ record { seq = was.clients.next_seq; session = z } ∷ [] → is.clients.next_seq ≡ suc was.clients.next_seq
        → es ≡ in_reign ms reign f reign.leader (body.Forward was.clients.next_seq c) ∷ [] → Share
    Routed : (seq : ℕ) (r : Reply) (m : Envelope) → Delivers before e m → m.message.body ≡ body.Route seq r → is.clients.sessions ≡ filter (λ (a : Asked). not (a.seq == seq)) was.clients.sessions → is.clients.next_seq ≡ was.clients.next_seq
        → HandsOnNoneOf f es → ((a : Asked) → Among a (filter (λ (a : Asked). a.seq == seq) was.clients.sessions) → IsAnswer r → IsServed before after f a.session) → Share

-- ---- an event at another monitor

one_rank : (a b : Arrival) → Some a ≡ Some b → a.rank ≡ b.rank
one_rank a b e = let same : a ≡ b = cc in ap (λ (z : Arrival). z.rank) same

unasked : (w : World) (p : Plain) (a : Arrival) → arrival w p ≡ Some a → (f : ℕ) → (a.rank ≡ f → ⊥) → (z : Session) → AsksOf (Arrives p) f z → ⊥
unasked w (Client i at session request) a comes f other z k = other (sym (one_rank _ a comes) ∙ k.0)
unasked w (Start i at) a comes f other z k = k
unasked w (Deliver m at) a comes f other z k = k
unasked w (Ring i kind at) a comes f other z k = k

unrouted : (ms : Monitors) (reign : Reign) (w : World) (p : Plain) (a : Arrival) → arrival w p ≡ Some a → (f : ℕ) → (a.rank ≡ f → ⊥) → (b : Body) → Delivers w (Arrives p) (in_reign ms reign reign.leader f b) → ⊥
unrouted ms reign w (Deliver m at) a comes f other b k = let same = ap (option_map (brought at)) k in other (sym (one_rank _ a (sym same ∙ comes)))
unrouted ms reign w (Start i at) a comes f other b k = k
unrouted ms reign w (Client i at session request) a comes f other b k = k
unrouted ms reign w (Ring i kind at) a comes f other b k = k

-- what is known of peon f after an event
abbrev pub Shares : Monitors → Reign → (before after : World) → Event → List Envelope → (f : ℕ) → Type 0
Shares ms reign before after e es f = (s : State) → before.state f ≡ Some s → (is : State) × (after.state f ≡ Some is) × Share ms reign before after e f s is es

pub elsewhere : (ms : Monitors) (reign : Reign) (before after : World) (p : Plain) (a : Arrival) → arrival before p ≡ Some a → (i : ℕ) → a.rank ≡ i → (x : State) (cs : List Change) (es : List Envelope) → Did before after i x cs es → (f : ℕ) → (f ≡ i → ⊥)
    → HandsOnNoneOf f es → Shares ms reign before after (Arrives p) es f
elsewhere ms reign before after p a comes i rank x cs es D f other none s up =
    let ne : a.rank ≡ f → ⊥ = (λ e. other (sym e ∙ rank)) in
    (s, D.others f other ∙ up, Untouched (unasked before p a comes f ne) (λ seq r. unrouted ms reign before p a comes f ne (body.Route seq r)) refl refl none)

-- ---- replies

-- one reply
pub replied_one : (before after : World) (event f : ℕ) (m : Store) (z : Session) (r : Reply) (out : List Sent) → IsAnswer r → out ≡ sent.Reply z r ∷ [] → after.replied ≡ before.replied ++ replies_of event f m out → IsServed before after f z
replied_one before after event f m z r out k is replied = record {
  earlier = [];
  answer = _;
  later = [];
  replied = replied ∙ ap (λ (o : List Sent). before.replied ++ replies_of event f m o) is ∙ sym (append_assoc before.replied [] (replies_of event f m (sent.Reply z r ∷ [])));
  rank_is = refl;
  session_is = refl;
  answers = k;
}

-- a reply to each of these sessions
pub replied_each : (before after : World) (event f : ℕ) (m : Store) (r : Reply) (k : IsAnswer r) (first : List Replied) (xs : List Asked) → after.replied ≡ (before.replied ++ first) ++ replies_of event f m (map (λ (a : Asked). sent.Reply a.session r) xs)
    → (a : Asked) → Among a xs → IsServed before after f a.session
replied_each before after event f m r k first [] replied a there = absurd there
replied_each before after event f m r k first (x ∷ xs) replied a (inl is) = record {
  earlier = first;
  answer = _;
  later = replies_of event f m (map (λ (a : Asked). sent.Reply a.session r) xs);
  replied = replied;
  rank_is = refl;
  session_is = ap (λ (z : Asked). z.session) (sym is);
  answers = k;
}
replied_each before after event f m r k first (x ∷ xs) replied a (inr there) =
    let head = replies_of event f m (sent.Reply x.session r ∷ []) in
    let rest = replies_of event f m (map (λ (a : Asked). sent.Reply a.session r) xs) in
    replied_each before after event f m r k (first ++ head) xs
    (replied ∙ sym (append_assoc (before.replied ++ first) head rest) ∙ ap (λ (z : List Replied). z ++ rest) (append_assoc before.replied first head)) a there
