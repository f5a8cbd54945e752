-- For which command a leader's value is, and which acknowledgement a ROUTE or a session's answer has.
use Rattle.law_names.proofs.Runs.{Acknowledged, Asked, DoneIsAnswered, Envelope, Replied, World, done_in, incremental_of, last_of, made_by, messages_of, replies_of}
use Rattle.law_names.proofs.Table.{AllByRecursion, Body, Command, Contains, Leader, Me, Op, Origin, Reply, Sent, Service, Session, Store, asked_of, epoch_of, readings_of, service_of}
use Rattle.mon_msg.specs.declared.plan.Origin.TheVariants as origin
use Rattle.mon_msg.specs.declared.plan.Sent.TheVariants as sent
use Rattle.mon_wire.specs.declared.body.Body.TheVariants as body
use Rattle.mon_wire.specs.declared.reply.Reply.TheVariants as reply
use Rattle.quorum_agreement.proofs.Acknowledging.{NoShow}
use Rattle.quorum_agreement.proofs.Answering.{AllPlain, IsPlain, IsPlainBody, IsPlainReply}
use Rattle.quorum_history.proofs.History.{Ghost, Handed, asking, hand}
use Rattle.quorum_history.proofs.Holds.{HasSource}
use Rattle.quorum_laws.proofs.Invariant.{Further}
use Rattle.quorum_laws.specs.Commands.{WasAsked}
use Rattle.quorum_model.specs.Acknowledging.{incremental_in}
use Rattle.quorum_walk.proofs.Lists.{all_map}
use Rattle.std.proofs.Common.{List, None, Option, Some, [], ap, arith, option_map, refl, ℕ, ◌∙◌, ◌∷◌, ◌≡◌, ◌≤◌}

-- ---- whose command it is

-- which monitor was asked a command that monitor i has from this origin
abbrev pub asker : ℕ → Origin → ℕ
asker i (origin.Session t) = i
asker i (origin.Forwarded f seq) = f

pub asker_is : (me : Me) (o : Origin) → asked_of me o ≡ asker me.member.rank o
asker_is me (origin.Session t) = refl
asker_is me (origin.Forwarded f seq) = refl

-- the service that a command changes, and the incremental that it makes if this rank was asked
abbrev pub changed : ℕ → Command → Service × List ℕ
changed i c = (service_of c, incremental_of i c)

-- this value is that of a command that monitor i has from this origin
pub record ComesFrom (g : Ghost) (i e : ℕ) (o : Origin) (ops : List Op) : Type 0 where
  pub command : Command
  pub from : HasSource g i e command o
  pub makes : incremental_in ops ≡ changed (asker i o) command

-- the value that a leader proposes is that of a command which it has from the origin that waits for it
pub record Stems (g : Ghost) (i e : ℕ) (l : Leader) : Type 0 where
  pub origin : Origin
  pub is : l.origin ≡ Some origin
  pub ops : List Op
  pub proposes : l.value ≡ Some ops
  pub comes : ComesFrom g i e origin ops

pub source_further : (g h : Ghost) → Further g h → (i e : ℕ) (c : Command) (o : Origin) → HasSource g i e c o → HasSource h i e c o
source_further g h F i e c (origin.Session t) k = F.asks (asking i t c) k
source_further g h F i e c (origin.Forwarded f seq) k = (k.0, F.hands (hand f e seq k.0 c) k.1)

pub comes_further : (g h : Ghost) → Further g h → (i e : ℕ) (o : Origin) (ops : List Op) → ComesFrom g i e o ops → ComesFrom h i e o ops
comes_further g h F i e o ops k = record { command = k.command; from = source_further g h F i e k.command o k.from; makes = k.makes }

pub stems_further : (g h : Ghost) → Further g h → (i e : ℕ) (l : Leader) → Stems g i e l → Stems h i e l
stems_further g h F i e l k = record { origin = k.origin; is = k.is; ops = k.ops; proposes = k.proposes; comes = comes_further g h F i e k.origin k.ops k.comes }

-- the request that was asked makes what its command changes
pub asked_makes : (n : ℕ) (asked : List Asked) (i : ℕ) (t : Session) (c : Command) (W : WasAsked n asked i t c) → made_by W.by.rank W.by.request ≡ Some (changed i c)
asked_makes n asked i t c W = ap (λ (o : Option Command). option_map (changed W.by.rank) o) W.command ∙ ap (λ (j : ℕ). Some (changed j c)) W.at

-- ---- an answer's acknowledgement

-- the version was acknowledged for a command that a session of monitor i has under this number
pub record IsRouted (w : World) (g : Ghost) (i e seq v : ℕ) : Type 0 where
  pub acknowledged : Acknowledged
  pub among : Contains w.acknowledged acknowledged
  pub version : acknowledged.what.version ≡ v
  pub earlier : acknowledged.event ≤ w.events
  pub session : Session
  pub command : Command
  pub handed : Handed g i e seq session command
  pub made : changed i command ≡ (acknowledged.what.service, acknowledged.what.incremental)

abbrev pub MayRoute : World → Ghost → (i e seq : ℕ) → Reply → Type 0
MayRoute w g i e seq (reply.Done v) = IsRouted w g i e seq v
MayRoute w g i e seq (reply.Shown s paxos version map) = ⊥
MayRoute w g i e seq (reply.Since s from told more) = ⊥
MayRoute w g i e seq other = Unit {0}

abbrev pub BodyRoutes : World → Ghost → (i e : ℕ) → Body → Type 0
BodyRoutes w g i e (body.Route seq r) = MayRoute w g i e seq r
BodyRoutes w g i e other = Unit {0}

abbrev pub Routes : World → Ghost → Envelope → Type 0
Routes w g e = BodyRoutes w g e.to e.message.epoch e.message.body

pub route_shows_nothing : (w : World) (g : Ghost) (i e seq : ℕ) (r : Reply) → MayRoute w g i e seq r → NoShow r
route_shows_nothing w g i e seq (reply.Shown s paxos version map) k = absurd k
route_shows_nothing w g i e seq (reply.Since s from told more) k = absurd k
route_shows_nothing w g i e seq other k = tt

-- ---- it lasts

module _ (w next : World) (acks : (a : Acknowledged) → Contains w.acknowledged a → Contains next.acknowledged a) where
  module _ (g h : Ghost) (F : Further g h) (events : w.events ≤ next.events) where
    may_last : (i e seq : ℕ) (r : Reply) → MayRoute w g i e seq r → MayRoute next h i e seq r
    may_last i e seq (reply.Done v) k = record {
      acknowledged = k.acknowledged;
      among = acks k.acknowledged k.among;
      version = k.version;
      earlier = let a = k.earlier in omega arith;
      session = k.session;
      command = k.command;
      handed = F.hands (hand i e seq k.session k.command) k.handed;
      made = k.made;
    }
    may_last i e seq (reply.Shown s paxos version map) k = absurd k
    may_last i e seq (reply.Since s from told more) k = absurd k
    may_last i e seq other k = tt

    body_lasts : (i e : ℕ) (b : Body) → BodyRoutes w g i e b → BodyRoutes next h i e b
    body_lasts i e (body.Route seq r) k = may_last i e seq r k
    body_lasts i e other k = tt

    pub routes_last : (e : Envelope) → Routes w g e → Routes next h e
    routes_last e k = body_lasts e.to e.message.epoch e.message.body k

  pub answer_lasts : ((a : Asked) → Contains w.asked a → Contains next.asked a) → (r : Replied) (y : Reply) → DoneIsAnswered w r y → DoneIsAnswered next r y
  answer_lasts asked r (reply.Done v) k = record {
    acknowledged = k.acknowledged;
    among = acks k.acknowledged k.among;
    version = k.version;
    earlier = k.earlier;
    asked = k.asked;
    was_asked = asked k.asked k.was_asked;
    rank = k.rank;
    session = k.session;
    made = k.made;
  }
  answer_lasts asked r other k = tt

-- ---- what an event sends

pub no_answer : (w : World) (r : Replied) (y : Reply) → done_in y ≡ None → DoneIsAnswered w r y
no_answer w r (reply.Done v) e = absurd cc
no_answer w r other e = tt

module _ (w : World) (g : Ghost) (event rank : ℕ) (m : Store) where
  abbrev pub reply_then : Session → Reply → Replied
  reply_then t r = record { event = event; rank = rank; epoch = epoch_of (readings_of m); last = last_of m; session = t; reply = r }

  -- a ROUTE or a reply that says that a version is done has its acknowledgement
  abbrev pub IsFounded : Sent → Type 0
  IsFounded (sent.Message to x) = BodyRoutes w g to x.epoch x.body
  IsFounded (sent.Reply t r) = DoneIsAnswered w (reply_then t r) r

  pub founded_replies : (sends : List Sent) → AllByRecursion IsFounded sends → AllByRecursion (λ (r : Replied). DoneIsAnswered w r r.reply) (replies_of event rank m sends)
  founded_replies [] k = tt
  founded_replies (sent.Message to x ∷ sends) k = founded_replies sends k.1
  founded_replies (sent.Reply t r ∷ sends) k = (k.0, founded_replies sends k.1)

  pub founded_routes : (sends : List Sent) → AllByRecursion IsFounded sends → AllByRecursion (Routes w g) (messages_of sends)
  founded_routes [] k = tt
  founded_routes (sent.Message to x ∷ sends) k = (k.0, founded_routes sends k.1)
  founded_routes (sent.Reply t r ∷ sends) k = founded_routes sends k.1

  plain_route : (i e seq : ℕ) (r : Reply) → IsPlainReply r → MayRoute w g i e seq r
  plain_route i e seq (reply.Done v) k = absurd k
  plain_route i e seq (reply.Shown s paxos version map) k = absurd k
  plain_route i e seq (reply.Since s from told more) k = absurd k
  plain_route i e seq other k = tt

  plain_body : (i e : ℕ) (b : Body) → IsPlainBody b → BodyRoutes w g i e b
  plain_body i e (body.Route seq r) k = plain_route i e seq r k
  plain_body i e other k = tt

  plain_answer : (r : Replied) (y : Reply) → IsPlainReply y → DoneIsAnswered w r y
  plain_answer r (reply.Done v) k = absurd k
  plain_answer r other k = tt

  plain_sent : (x : Sent) → IsPlain x → IsFounded x
  plain_sent (sent.Message to x) k = plain_body to x.epoch x.body k
  plain_sent (sent.Reply t r) k = plain_answer (reply_then t r) r k

  pub plain_founded : (sends : List Sent) → AllPlain sends → AllByRecursion IsFounded sends
  plain_founded sends k = all_map IsPlain IsFounded plain_sent sends k
