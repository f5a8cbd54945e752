-- How each monitor stands during a command.
use Rattle.calm_command.proofs.Rounds.{to_rank}
use Rattle.calm_command.proofs.Sets.{firsts, others_are}
use Rattle.calm_command.proofs.States.{Follows, Leads, Updates, said}
use Rattle.calm_command.proofs.Stores.{Stored}
use Rattle.calm_command.proofs.Worlds.{answer_in, answers_in}
use Rattle.law_names.proofs.Runs.{Answer, Envelope, Monitors, envelope_of, messages_of}
use Rattle.law_names.proofs.Table.{Asked, Body, Course, Entry, Input, Me, Op, Origin, Readings, Reply, Sent, Session, State, Store, Which, answer_to, answers_to, asked_of, members, message_to, range_with_len, react, stands}
use Rattle.mon_msg.specs.declared.plan.Origin.TheVariants as origin
use Rattle.mon_wire.specs.declared.body.Body.TheVariants as body
use Rattle.quorum_model.proofs.Members.{member_of}
use Rattle.std.proofs.Common.{Bool, List, Result, Some, [], ap, append_assoc, eqb, ltb, map, refl, suc, true, ℕ, ◌++◌, ◌-◌, ◌||◌, ◌∙◌, ◌∷◌, ◌≡◌}
use Rattle.std.proofs.lemmas.Bool.{ltb-true, or_right}
use Rattle.std.proofs.lemmas.List.Elements.{filter_map-append}

pub data Role : Type 0 where
  -- an active leader of v versions, whose lease these took
  Leading : (v p : ℕ) → (acks : List Bool) → (taken : List ℕ) → Role
  -- one whose value is under way, which these accepted
  Voting : (v : ℕ) → (accepted : List Bool) → (x : List Op) → (o : Origin) → (taken : List ℕ) → Role
  -- a peon with v versions and with or without a lease, which accepted no value for a version above p
  Following : (v p : ℕ) → (leased : Bool) → (sessions : List Asked) → (seq : ℕ) → Role

-- a monitor does the same from all states of which the same is known
pub as_seen : (me : Me) (sh : List Entry) (came : Input) (w v : Readings) (s t : State) (r : Result Course Which)
    → w ≡ v → s ≡ t → react me sh 0 v t came ≡ r → react me sh 0 w s came ≡ r
as_seen me sh came w v s t r e f h = (λ i. react me sh 0 (e i) (f i) came) ∙ h

-- ---- what is sent

-- one message to each of these ranks
abbrev pub to_each : (n : ℕ) → Body → List ℕ → List Envelope
to_each n b ks = map (λ k. to_rank k (said n 0 b)) ks

pub sent_to_each : (me : Me) (e : ℕ) (b : Body) (ks : List ℕ) → messages_of (map (message_to me e b) ks)
    ≡ map (λ k. to_rank k (record { from = me.member.rank; monitors = me.member.monitors; epoch = e; body = b })) ks
sent_to_each me e b [] = refl
sent_to_each me e b (k ∷ ks) =
    ap (λ (l : List Envelope).
    to_rank k (record { from = me.member.rank; monitors = me.member.monitors; epoch = e; body = b }) ∷ l)
    (sent_to_each me e b ks)

pub tells_none : (i : ℕ) (me : Me) (e : ℕ) (b : Body) (ks : List ℕ) → answers_in i (map (message_to me e b) ks) ≡ []
tells_none i me e b [] = refl
tells_none i me e b (k ∷ ks) = tells_none i me e b ks

-- the leader's answer
abbrev pub routed : (n : ℕ) → Origin → Reply → List Envelope
routed n (origin.Session session) r = []
routed n (origin.Forwarded f seq) r = to_rank f (said n 0 (body.Route seq r)) ∷ []

abbrev pub replied : Origin → Reply → List Answer
replied (origin.Session session) r = (0, session, r) ∷ []
replied (origin.Forwarded f seq) r = []

-- the monitor that was asked
abbrev pub rank_of : Origin → ℕ
rank_of (origin.Session session) = 0
rank_of (origin.Forwarded f seq) = f

-- a leader answers
module _ (ms : Monitors) (lt : ltb 0 ms.count ≡ true) (r : Reply) where
  pub asked_rank : (o : Origin) → asked_of (member_of ms 0 lt) o ≡ rank_of o
  asked_rank (origin.Session session) = refl
  asked_rank (origin.Forwarded f seq) = refl

  pub one_sent : (o : Origin) → messages_of (answer_to (member_of ms 0 lt) 2 o r ∷ []) ≡ routed ms.count o r
  one_sent (origin.Session session) = refl
  one_sent (origin.Forwarded f seq) = refl

  pub one_told : (e : ℕ) (o : Origin) → answers_in 0 (answer_to (member_of ms 0 lt) e o r ∷ []) ≡ replied o r
  one_told e (origin.Session session) = refl
  one_told e (origin.Forwarded f seq) = refl

-- what a leader sends and replies once it committed a value
module _ (ms : Monitors) (lt : ltb 0 ms.count ≡ true) (a b : Body) (o : Origin) (r : Reply) where
  abbrev leader : Me
  leader = member_of ms 0 lt

  abbrev all_sent : (e : ℕ) → List ℕ → List Sent
  all_sent e ks = (map (message_to leader e a) ks ++ map (message_to leader e b) ks) ++ answers_to leader e (Some o) r

  answer_sent : messages_of (answers_to leader 2 (Some o) r) ≡ routed ms.count o r
  answer_sent = by o
    where
      by : (o : Origin) → messages_of (answers_to leader 2 (Some o) r) ≡ routed ms.count o r
      by (origin.Session session) = refl
      by (origin.Forwarded f seq) = refl

  answer_told : (e : ℕ) → answers_in 0 (answers_to leader e (Some o) r) ≡ replied o r
  answer_told e = by o
    where
      by : (o : Origin) → answers_in 0 (answers_to leader e (Some o) r) ≡ replied o r
      by (origin.Session session) = refl
      by (origin.Forwarded f seq) = refl

  in_order : (ks : List ℕ)
      → messages_of (all_sent 2 ks) ≡ to_each ms.count a ks ++ (to_each ms.count b ks ++ routed ms.count o r)
  in_order ks =
      filter_map-append envelope_of (map (message_to leader 2 a) ks ++ map (message_to leader 2 b) ks)
      (answers_to leader 2 (Some o) r)
      ∙ ap (λ (l : List Envelope). l ++ messages_of (answers_to leader 2 (Some o) r))
      (filter_map-append envelope_of (map (message_to leader 2 a) ks) (map (message_to leader 2 b) ks))
      ∙ append_assoc (messages_of (map (message_to leader 2 a) ks)) (messages_of (map (message_to leader 2 b) ks))
      (messages_of (answers_to leader 2 (Some o) r))
      ∙ (λ i. sent_to_each leader 2 a ks i ++ (sent_to_each leader 2 b ks i ++ answer_sent i))

  pub all_are_sent : (e : ℕ) → e ≡ 2 → messages_of (all_sent e (members leader (firsts ms.count)))
      ≡ to_each ms.count a (range_with_len 1 (ms.count - 1))
      ++ (to_each ms.count b (range_with_len 1 (ms.count - 1)) ++ routed ms.count o r)
  all_are_sent e two =
      (λ i. messages_of (all_sent (two i) (others_are ms.count ms.most (ltb-true 0 ms.count lt) i)))
      ∙ in_order (range_with_len 1 (ms.count - 1))

  pub all_are_told : (e : ℕ) (ks : List ℕ) → answers_in 0 (all_sent e ks) ≡ replied o r
  all_are_told e ks =
      filter_map-append (answer_in 0) (map (message_to leader e a) ks ++ map (message_to leader e b) ks)
      (answers_to leader e (Some o) r)
      ∙ ap (λ (l : List Answer). l ++ answers_in 0 (answers_to leader e (Some o) r))
      (filter_map-append (answer_in 0) (map (message_to leader e a) ks) (map (message_to leader e b) ks))
      ∙ (λ i. (tells_none 0 leader e a ks i ++ tells_none 0 leader e b ks i) ++ answer_told e i)

-- with a valid lease a leader of n may propose
pub standing : (n : ℕ) (s : State) → stands s.leader.lease 0 ≡ true → (eqb n 1 || stands s.leader.lease 0) ≡ true
standing n s h = or_right (eqb n 1) (stands s.leader.lease 0) h

module _ (ms : Monitors) where
  abbrev n : ℕ
  n = ms.count

  abbrev pub Holds : List (List ℕ) → Role → Store → State → Type 0
  Holds log (Leading v p acks taken) m s = Stored log v p m × Leads n acks taken s
  Holds log (Voting v accepted x o taken) m s = Stored log v (suc v) m × Updates n accepted x o taken s
  Holds log (Following v p leased sessions seq) m s = Stored log v p m × Follows n leased sessions seq s
