-- The rounds of a value: it is accepted, committed and leased.
use Rattle.calm_command.proofs.Roles.{Following, Holds, Leading, Role, Voting, replied, routed, to_each}
use Rattle.calm_command.proofs.Rounds.{Later, Standing, crew, gather, leader_hears, nothing_sent, spread, to_rank}
use Rattle.calm_command.proofs.Sets.{firsts}
use Rattle.calm_command.proofs.States.{said}
use Rattle.calm_command.proofs.Stores.{Makes}
use Rattle.calm_command.proofs.Values.{accepts, begins, commits, completes, counts, leases}
use Rattle.calm_command.proofs.Worlds.{and_then}
use Rattle.law_names.proofs.Runs.{Answer, Envelope, Monitors, World}
use Rattle.law_names.proofs.Table.{Asked, Message, Op, Origin, Reply, State, Store, range_with_len, text}
use Rattle.mon_wire.specs.declared.body.Body.TheVariants as body
use Rattle.mon_wire.specs.declared.reply.Reply.TheVariants as reply
use Rattle.std.proofs.Common.{Bool, List, [], ap, append-nil, arith, false, length, map, subst, suc, sym, true, ℕ, ◌++◌, ◌+◌, ◌-◌, ◌<◌, ◌∙◌, ◌∷◌, ◌≡◌}
use Rattle.std.proofs.lemmas.List.Concat.{flat_map_single}
use Rattle.std.proofs.lemmas.List.FromFn.{map-range_with_len_more}

-- the peons, with the sessions that wait at each
abbrev pub peons : (v p : ℕ) → Bool → (sessions : ℕ → List Asked) → (seq : ℕ → ℕ) → ℕ → Role
peons v p leased sessions seq j = Following v p leased (sessions j) (seq j)

-- one message from each of these ranks to the leader
abbrev pub from_each : (ℕ → Message) → List ℕ → List Envelope
from_each m ks = map (λ k. to_rank 0 (m k)) ks

module _ (ms : Monitors) (log : List (List ℕ)) (x : List Op) (V : Makes log x)
    (several : 1 < ms.count) where
  abbrev n : ℕ
  n = ms.count

  abbrev v : ℕ
  v = length log

  abbrev longer : List (List ℕ)
  longer = log ++ text x ∷ []

  abbrev ranks : List ℕ
  ranks = range_with_len 1 (n - 1)

  abbrev H : Role → Store → State → Type 0
  H = Holds ms longer

  abbrev St : (ℕ → Role) → ℕ → List Envelope → List (List ℕ) → List Answer → World → Type 0
  St = Standing ms Role H

  abbrev Lt : (ℕ → Role) → List Envelope → List (List ℕ) → List Answer → ℕ → ℕ → World → Type 0
  Lt = Later ms Role H

  waits_are : (S : ℕ → Role) (a b : List Envelope) (l : List (List ℕ)) (told : List Answer) (q k : ℕ) (w : World)
      → a ≡ b → Lt S a l told q k w → Lt S b l told q k w
  waits_are S a b l told q k w e A = subst (λ (z : List Envelope). Lt S z l told q k w) e A

  waiting : (S : ℕ → Role) (a b : List Envelope) (l : List (List ℕ)) (told : List Answer) (k : ℕ) (w : World)
      → a ≡ b → St S k a l told w → St S k b l told w
  waiting S a b l told k w e A = subst (λ (z : List Envelope). St S k z l told w) e A

  module _ (o : Origin) (taken : List ℕ) (sessions later : ℕ → List Asked) (seq : ℕ → ℕ) where
    abbrev voting : ℕ → Role
    voting k = Voting v (firsts k) x o taken

    abbrev leading : ℕ → Role
    leading k = Leading (suc v) (suc v) (firsts k) taken

    abbrev accept : ℕ → Message
    accept k = said n k (body.Accept 100 (suc v))

    abbrev ack : ℕ → Message
    ack k = said n k (body.LeaseAck (suc v))

    abbrev done : Reply
    done = reply.Done (suc v)

    abbrev commit_sent : List Envelope
    commit_sent = to_each n (body.Commit (suc v) (x ∷ [])) ranks

    abbrev lease_sent : List Envelope
    lease_sent = to_each n (body.Lease (suc v)) ranks

    -- they accept
    first : (told : List Answer) (k : ℕ) (w : World) → St (crew (voting 1) (peons v v true sessions seq)) k
        (to_each n (body.Begin 100 (suc v) x) ranks) log told w
        → Lt (crew (voting 1) (peons v (suc v) false sessions seq)) (from_each accept ranks) log told (n - 1) k w
    first told k w S =
        waits_are _ _ _ log told (n - 1) k w (flat_map_single (λ j. to_rank 0 (accept j)) ranks)
        (spread ms Role H (voting 1) (peons v v true sessions seq) (peons v (suc v) false sessions seq)
        (λ _. said n 0 (body.Begin 100 (suc v) x)) (λ j. to_rank 0 (accept j) ∷ []) log told
        (λ j pos lt. begins ms log x V j (λ e. omega arith) (sessions j) (seq j)) (omega arith) [] k w
        (waiting _ _ _ log told k w (sym (append-nil (to_each n (body.Begin 100 (suc v) x) ranks))) S))

    -- all but the last are counted, and then the last
    second : (P : ℕ → Role) (told : List Answer) (k : ℕ) (w : World)
        → St (crew (voting 1) P) k (from_each accept ranks) log told w
        → Lt (crew (leading 1) P) (commit_sent ++ (lease_sent ++ routed n o done)) longer (told ++ replied o done)
        ((n - 2) + 1) k w
    second P told k w S =
        and_then ms Role H _ _ _ _ log longer told (told ++ replied o done) (n - 2) 1 k w
        (gather ms Role H voting P accept log told (n - 2) (n - 1) (omega arith) (omega arith)
        (λ j pos lt. accepts ms log x V j pos (omega arith) o taken) (to_rank 0 (accept (n - 1)) ∷ []) k w
        (waiting _ _ _ log told k w split S))
        (λ j u T. leader_hears ms Role H (voting (n - 1)) (leading 1) P (accept (n - 1)) log _ _ longer (omega arith)
        (completes ms log x V (n - 1) (omega arith) (omega arith) o taken) [] told j u T)
      where
        split : from_each accept ranks
            ≡ map (λ k. to_rank 0 (accept k)) (range_with_len 1 (n - 2)) ++ to_rank 0 (accept (n - 1)) ∷ []
        split =
            ap (λ (q : ℕ). from_each accept (range_with_len 1 q)) (let e : n - 1 ≡ (n - 2) + 1 = omega arith in e)
            ∙ map-range_with_len_more (λ k. to_rank 0 (accept k)) 1 (n - 2) (n - 1) (omega arith)

    -- they learn it
    third : (told : List Answer) (k : ℕ) (w : World) → St (crew (leading 1) (peons v (suc v) false sessions seq)) k
        (commit_sent ++ (lease_sent ++ routed n o done)) longer told w
        → Lt (crew (leading 1) (peons (suc v) (suc v) false sessions seq)) (lease_sent ++ routed n o done) longer
        told (n - 1) k w
    third told k w S =
        waits_are _ _ _ longer told (n - 1) k w (ap (λ (l : List Envelope). (lease_sent ++ routed n o done) ++ l)
        (nothing_sent ranks)
        ∙ append-nil (lease_sent ++ routed n o done))
        (spread ms Role H (leading 1) (peons v (suc v) false sessions seq)
        (peons (suc v) (suc v) false sessions seq) (λ _. said n 0 (body.Commit (suc v) (x ∷ []))) (λ _. [])
        longer told
        (λ j pos lt. commits ms log x V j (λ e. omega arith) (sessions j) (seq j)) (omega arith)
        (lease_sent ++ routed n o done) k w S)

    -- they take the lease
    fourth : (told : List Answer) (k : ℕ) (w : World) → St
        (crew (leading 1) (peons (suc v) (suc v) false sessions seq)) k (lease_sent ++ routed n o done) longer told
        w
        → Lt (crew (leading 1) (peons (suc v) (suc v) true sessions seq)) (routed n o done ++ from_each ack ranks)
        longer told (n - 1) k w
    fourth told k w S =
        waits_are _ _ _ longer told (n - 1) k w
        (ap (λ (l : List Envelope). routed n o done ++ l) (flat_map_single (λ j. to_rank 0 (ack j)) ranks))
        (spread ms Role H (leading 1) (peons (suc v) (suc v) false sessions seq)
        (peons (suc v) (suc v) true sessions seq) (λ _. said n 0 (body.Lease (suc v)))
        (λ j. to_rank 0 (ack j) ∷ []) longer told
        (λ j pos lt. leases ms log x V j (λ e. omega arith) (sessions j) (seq j)) (omega arith)
        (routed n o done) k w S)

    -- and are counted
    fifth : (P : ℕ → Role) (told : List Answer) (k : ℕ) (w : World)
        → St (crew (leading 1) P) k (from_each ack ranks) longer told w
        → Lt (crew (leading n) P) [] longer told (n - 1) k w
    fifth P told k w S =
        gather ms Role H leading P ack longer told (n - 1) n (omega arith) (omega arith)
        (λ j pos lt. counts ms log x V j pos lt taken) [] k w
        (waiting _ _ _ longer told k w (sym (append-nil (from_each ack ranks))) S)

    -- the leader's answer reaches who asked
    abbrev pub Reaches : List Answer → Type 0
    Reaches also =
        (waits : List Envelope) (told : List Answer) (k : ℕ) (w : World)
        → St (crew (leading 1) (peons (suc v) (suc v) true sessions seq)) k (routed n o done ++ waits) longer told w
        → Lt (crew (leading 1) (peons (suc v) (suc v) true later seq)) waits longer (told ++ also) 1 k w

    pub settles : (also : List Answer) → Reaches also → (told : List Answer) (k : ℕ) (w : World)
        → St (crew (voting 1) (peons v v true sessions seq)) k (to_each n (body.Begin 100 (suc v) x) ranks) log told
        w
        → Lt (crew (leading n) (peons (suc v) (suc v) true later seq)) [] longer ((told ++ replied o done) ++ also)
        ((n - 1) + (((n - 2) + 1) + ((n - 1) + ((n - 1) + (1 + (n - 1)))))) k w
    settles also back told k w S =
        and_then ms Role H _ _ _ _ log longer told _ (n - 1) _ k w (first told k w S)
        (λ k w S. and_then ms Role H _ _ _ _ longer longer (told ++ replied o done) _ ((n - 2) + 1) _ k w
        (second (peons v (suc v) false sessions seq) told k w S)
        (λ k w S. and_then ms Role H _ _ _ _ longer longer (told ++ replied o done) _ (n - 1) _ k w
        (third (told ++ replied o done) k w S)
        (λ k w S. and_then ms Role H _ _ _ _ longer longer (told ++ replied o done) _ (n - 1) _ k w
        (fourth (told ++ replied o done) k w S)
        (λ k w S. and_then ms Role H _ _ _ _ longer longer ((told ++ replied o done) ++ also) _ 1 _ k w
        (back (from_each ack ranks) (told ++ replied o done) k w S)
        (λ k w S. fifth (peons (suc v) (suc v) true later seq) ((told ++ replied o done) ++ also) k w S)))))
