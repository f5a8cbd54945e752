-- What an event acknowledges and replies, by what its monitor sends.
use Rattle.law_names.proofs.Runs.{Acknowledged, Envelope, IsFenced, Replied, ShowsLog, WasAskedFor, World, acknowledgement, acknowledgements_of, done_by, done_in, last_of, messages_of, replies_of}
use Rattle.law_names.proofs.Table.{AllByRecursion, Body, Me, Origin, Reply, Sent, Session, State, Store, answer_to, epoch_of, is_leading, readings_of}
use Rattle.mon_msg.specs.declared.plan.Origin.TheVariants as origin
use Rattle.mon_msg.specs.declared.plan.Sent.TheVariants as sent
use Rattle.mon_wire.specs.declared.body.Body.TheVariants as body
use Rattle.mon_wire.specs.declared.reply.Reply.TheVariants as reply
use Rattle.quorum_agreement.proofs.Answering.{AllPlain, IsPlain, IsPlainBody, IsPlainReply}
use Rattle.quorum_model.specs.Acknowledging.{done_by_route}
use Rattle.quorum_walk.proofs.Lists.{all_map}
use Rattle.std.proofs.Common.{Bool, List, None, Some, [], ap, arith, cond, false, length, option_map, refl, true, ℕ, ◌++◌, ◌<◌, ◌∙◌, ◌∷◌, ◌≡◌, ◌≤◌}
use Rattle.std.proofs.lemmas.List.Elements.{filter_map-append}
use Rattle.std.specs.List.{cons_option}

-- ---- what shows nothing

abbrev pub NoShow : Reply → Type 0
NoShow (reply.Shown s paxos version map) = ⊥
NoShow (reply.Since s from told more) = ⊥
NoShow other = Unit {0}

abbrev pub NoShowBody : Body → Type 0
NoShowBody (body.Route seq r) = NoShow r
NoShowBody other = Unit {0}

abbrev pub NoShowSent : Sent → Type 0
NoShowSent (sent.Message to m) = NoShowBody m.body
NoShowSent (sent.Reply t r) = NoShow r

plain_reply : (r : Reply) → IsPlainReply r → NoShow r
plain_reply (reply.Done v) k = absurd k
plain_reply (reply.Shown s paxos version map) k = absurd k
plain_reply (reply.Since s from told more) k = absurd k
plain_reply other k = tt

plain_body : (b : Body) → IsPlainBody b → NoShowBody b
plain_body (body.Route seq r) k = plain_reply r k
plain_body other k = tt

plain_sent : (x : Sent) → IsPlain x → NoShowSent x
plain_sent (sent.Message to m) k = plain_body m.body k
plain_sent (sent.Reply t r) k = plain_reply r k

pub plain_shows_nothing : (sends : List Sent) → AllPlain sends → AllByRecursion NoShowSent sends
plain_shows_nothing sends k = all_map IsPlain NoShowSent plain_sent sends k

pub answer_shows_nothing : (me : Me) (e : ℕ) (o : Origin) (v : ℕ) → AllByRecursion NoShowSent (answer_to me e o (reply.Done v) ∷ [])
answer_shows_nothing me e (origin.Session t) v = (tt, tt)
answer_shows_nothing me e (origin.Forwarded f seq) v = (tt, tt)

pub no_routes_show : (sends : List Sent) → AllByRecursion NoShowSent sends → AllByRecursion (λ (e : Envelope). NoShowBody e.message.body) (messages_of sends)
no_routes_show [] k = tt
no_routes_show (sent.Message to m ∷ sends) k = (k.0, no_routes_show sends k.1)
no_routes_show (sent.Reply t r ∷ sends) k = no_routes_show sends k.1

-- ---- what is acknowledged

done_plain : (r : Reply) → IsPlainReply r → done_in r ≡ None
done_plain (reply.Done v) k = absurd k
done_plain other k = refl

done_body : (b : Body) → IsPlainBody b → done_by_route b ≡ None
done_body (body.Route seq r) k = done_plain r k
done_body other k = refl

done_sent : (s : State) (x : Sent) → IsPlain x → done_by s x ≡ None
done_sent s (sent.Message to m) k = done_body m.body k
done_sent s (sent.Reply t r) k = by (is_leading s.phase)
  where
    by : (b : Bool) → cond b (done_in r) None ≡ None
    by true = done_plain r k
    by false = refl

module _ (event : ℕ) (m : Store) (s : State) where
  pub plain_acks : (sends : List Sent) → AllPlain sends → acknowledgements_of event m s sends ≡ []
  plain_acks [] k = refl
  plain_acks (x ∷ sends) k = λ i. cons_option (option_map (acknowledgement event m s) (done_sent s x k.0 i)) (plain_acks sends k.1 i)

  answered : (me : Me) (e : ℕ) (o : Origin) (v : ℕ) → is_leading s.phase ≡ true → acknowledgements_of event m s (answer_to me e o (reply.Done v) ∷ []) ≡ acknowledgement event m s v ∷ []
  answered me e (origin.Session t) v lead = ap (λ (b : Bool). cons_option (option_map (acknowledgement event m s) (cond b (Some v) None)) []) lead
  answered me e (origin.Forwarded f seq) v lead = refl

  -- an answer of a leader that a version is done acknowledges that version alone, after plain sends
  pub one_ack : (me : Me) (plain : List Sent) (e : ℕ) (o : Origin) (v : ℕ) → AllPlain plain → is_leading s.phase ≡ true → acknowledgements_of event m s (plain ++ answer_to me e o (reply.Done v) ∷ []) ≡ acknowledgement event m s v ∷ []
  one_ack me plain e o v k lead =
      filter_map-append (λ x. option_map (acknowledgement event m s) (done_by s x)) plain (answer_to me e o (reply.Done v) ∷ [])
      ∙ ap (λ (before : List Acknowledged). before ++ acknowledgements_of event m s (answer_to me e o (reply.Done v) ∷ [])) (plain_acks plain k) ∙ answered me e o v lead

  -- sends that don't say that a version is done acknowledge nothing
  pub no_acks : (sends : List Sent) → AllByRecursion (λ (x : Sent). done_by s x ≡ None) sends → acknowledgements_of event m s sends ≡ []
  no_acks [] k = refl
  no_acks (x ∷ sends) k = λ i. cons_option (option_map (acknowledgement event m s) (k.0 i)) (no_acks sends k.1 i)

-- ---- what is replied

-- a reply shows the log's, and what was asked for
pub record IsShownIn (w : World) (r : Replied) : Type 0 where
  pub event : r.event ≤ w.events
  pub last : r.last ≤ length w.log
  pub shows : ShowsLog w r r.reply
  pub asked : WasAskedFor w r r.reply

shows_nothing : (w : World) (r : Replied) (y : Reply) → NoShow y → ShowsLog w r y
shows_nothing w r (reply.Shown s paxos version map) k = absurd k
shows_nothing w r (reply.Since s from told more) k = absurd k
shows_nothing w r other k = tt

asked_nothing : (w : World) (r : Replied) (y : Reply) → NoShow y → WasAskedFor w r y
asked_nothing w r (reply.Shown s paxos version map) k = absurd k
asked_nothing w r (reply.Since s from told more) k = absurd k
asked_nothing w r other k = tt

fenced_nothing : (a : Acknowledged) (r : Replied) (y : Reply) → NoShow y → IsFenced a r y
fenced_nothing a r (reply.Shown s paxos version map) k = absurd k
fenced_nothing a r (reply.Since s from told more) k = absurd k
fenced_nothing a r other k = tt

-- whatever was acknowledged is not later than the reply, or the reply's monitor has it
pub fenced_by : (a : Acknowledged) (r : Replied) (y : Reply) → (a.event < r.event → a.what.epoch ≡ r.epoch → a.what.version ≤ r.last) → IsFenced a r y
fenced_by a r (reply.Shown s paxos version map) k = k
fenced_by a r (reply.Since s from told more) k = k
fenced_by a r other k = tt

pub quiet_replies : (w : World) (rank : ℕ) (m : Store) → last_of m ≤ length w.log → (sends : List Sent) → AllByRecursion NoShowSent sends → AllByRecursion (IsShownIn w) (replies_of w.events rank m sends)
quiet_replies w rank m le [] k = tt
quiet_replies w rank m le (sent.Message to x ∷ sends) k = quiet_replies w rank m le sends k.1
quiet_replies w rank m le (sent.Reply t y ∷ sends) k =
    (record { event = omega arith; last = le; shows = shows_nothing w (told t y) y k.0; asked = asked_nothing w (told t y) y k.0 }, quiet_replies w rank m le sends k.1)
  where
    told : Session → Reply → Replied
    told t y = record { event = w.events; rank = rank; epoch = epoch_of (readings_of m); last = last_of m; session = t; reply = y }

pub quiet_fenced : (a : Acknowledged) (event rank : ℕ) (m : Store) (sends : List Sent) → AllByRecursion NoShowSent sends → AllByRecursion (λ (r : Replied). IsFenced a r r.reply) (replies_of event rank m sends)
quiet_fenced a event rank m [] k = tt
quiet_fenced a event rank m (sent.Message to x ∷ sends) k = quiet_fenced a event rank m sends k.1
quiet_fenced a event rank m (sent.Reply t y ∷ sends) k = (fenced_nothing a (record { event = event; rank = rank; epoch = epoch_of (readings_of m); last = last_of m; session = t; reply = y }) y k.0, quiet_fenced a event rank m sends k.1)

-- they come with the event
pub replies_event : (event rank : ℕ) (m : Store) (sends : List Sent) → AllByRecursion (λ (r : Replied). r.event ≡ event) (replies_of event rank m sends)
replies_event event rank m [] = tt
replies_event event rank m (sent.Message to x ∷ sends) = replies_event event rank m sends
replies_event event rank m (sent.Reply t y ∷ sends) = (refl, replies_event event rank m sends)
