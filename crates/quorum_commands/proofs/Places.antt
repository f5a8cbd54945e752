-- Where the command of each request is, and which of that lasts.
use Rattle.law_names.proofs.Runs.{Asked, Envelope, IsAsked}
use Rattle.law_names.proofs.Table.{AllByRecursion, Body, Command, Op, Session, State, Store, Waiting, entry, epoch_of, is_leading, readings_of, text}
use Rattle.log_model.proofs.Logs.{IsPrefixOf}
use Rattle.mon_wire.specs.declared.body.Body.TheVariants as body
use Rattle.quorum_agreement.proofs.Answered.{asker}
use Rattle.quorum_agreement.proofs.Made.{MadeOver, made_stays}
use Rattle.quorum_laws.specs.Accepting.{AcceptedIn}
use Rattle.quorum_laws.specs.Commands.{WasAsked}
use Rattle.std.proofs.Common.{Bool, List, None, Option, Some, [], ap, arith, cond, eqb, false, inl, inr, length, refl, slice_get, slice_index_or, subst, suc, sym, true, zero, ℕ, ◌++◌, ◌+◌, ◌<◌, ◌∙◌, ◌∷◌, ◌≡◌, ◌≤◌, ◌⊎◌}
use Rattle.std.proofs.lemmas.Bool.{eq-eqb, eqb-true}

-- where the command of a request is
pub data Place : Type 0 where
  -- it isn't asked yet, or isn't under way any more
  Nowhere : Place
  -- monitor i handed it on to its leader in this epoch under this number
  Handed : (i to e seq : ℕ) → Place
  -- it waits at monitor i, after the commands with lower tickets
  Queued : (i ticket : ℕ) → Place
  -- these bytes were proposed for a version
  Begun : (v : ℕ) → (bytes : List ℕ) → Place

-- the place of each request, by its number, counted from 0
abbrev pub Places : Type 0
Places = ℕ → Place

-- request k asked a command of this rank
pub record AskedAt (n : ℕ) (asked : List Asked) (k rank : ℕ) (c : Command) : Type 0 where
  pub by : Asked
  pub at : slice_get asked k ≡ Some by
  pub session : Session
  pub was : WasAsked n (by ∷ []) rank session c

-- request k made this value for a version, and these bytes
pub record MadeOf (n : ℕ) (asked : List Asked) (log : List (List ℕ)) (k v : ℕ) (x : List Op) : Type 0 where
  pub by : Asked
  pub at : slice_get asked k ≡ Some by
  pub made : MadeOver n (by ∷ []) log v x

pub record MadeAt (n : ℕ) (asked : List Asked) (log : List (List ℕ)) (k v : ℕ) (bytes : List ℕ) : Type 0 where
  pub x : List Op
  pub encodes : bytes ≡ text x
  pub of : MadeOf n asked log k v x

-- version v + 1 of the log is of request k
pub record LoggedAt (n : ℕ) (asked : List Asked) (log : List (List ℕ)) (places : Places) (v : ℕ) : Type 0 where
  pub k : ℕ
  pub place : places k ≡ Begun (suc v) (entry log (suc v))
  pub by : Asked
  pub at : slice_get asked k ≡ Some by
  pub made : IsAsked n (by ∷ []) log v

-- Session t asked monitor i a request that is under way nowhere. So it makes no version, now or later.
pub record IsSettled (asked : List Asked) (places : Places) (i : ℕ) (t : Session) : Type 0 where
  pub k : ℕ
  pub by : Asked
  pub at : slice_get asked k ≡ Some by
  pub rank : by.rank ≡ i
  pub session : by.session ≡ t
  pub place : places k ≡ Nowhere

module _ (n : ℕ) (asked : List Asked) (places : Places) where
  -- a command has a request of its own
  pub record HasOwn (p : Place) (rank : ℕ) (c : Command) : Type 0 where
    pub k : ℕ
    pub place : places k ≡ p
    pub of : AskedAt n asked k rank c

  -- those that wait at monitor i, from this ticket on
  abbrev pub AllWait : (i ticket : ℕ) → List Waiting → Type 0
  AllWait i t [] = Unit {0}
  AllWait i t (x ∷ xs) = HasOwn (Queued i t) (asker i x.origin) x.command × AllWait i (suc t) xs

  abbrev pub Waits : (i : ℕ) → List Waiting → (taken : List ℕ) → Type 0
  Waits i queue taken = (length taken ≡ 15) × (t : ℕ) × AllWait i t queue

  abbrev pub WaitsIn : (i : ℕ) → Option State → Type 0
  WaitsIn i None = Unit {0}
  WaitsIn i (Some s) = Waits i s.clients.queue s.clients.taken

  -- A command that peon f handed on to monitor `to` in epoch e: `to` reached the epoch. As long as `to` leads in it and
  -- didn't take the command, the command has a request of its own.
  pub record IsForwarded (m : Store) (o : Option State) (f to e seq : ℕ) (c : Command) : Type 0 where
    pub low : e ≤ epoch_of (readings_of m)
    pub own : (s : State) → o ≡ Some s → is_leading s.phase ≡ true → epoch_of (readings_of m) ≡ e → slice_index_or s.clients.taken f 0 < seq → HasOwn (Handed f to e seq) f c

  abbrev pub BodyForwards : (m : Store) (o : Option State) (f to e : ℕ) → Body → Type 0
  BodyForwards m o f to e (body.Forward seq c) = (f ≡ to → ⊥) → IsForwarded m o f to e seq c
  BodyForwards m o f to e other = Unit {0}

  abbrev pub Forwards : (store : ℕ → Store) (state : ℕ → Option State) → Envelope → Type 0
  Forwards store state e = BodyForwards (store e.to) (state e.to) e.message.from e.to e.message.epoch e.message.body

pub record Tickets (n : ℕ) (places : Places) (store : ℕ → Store) (state : ℕ → Option State) (txs : ℕ → List (List Op)) (messages : List Envelope) (asked : List Asked) (log : List (List ℕ)) : Type 0 where
  pub free : (k : ℕ) → length asked ≤ k → places k ≡ Nowhere
  pub waits : (i : ℕ) → WaitsIn n asked places i (state i)
  pub forwards : AllByRecursion (Forwards n asked places store state) messages
  pub begun : (k v : ℕ) (bytes : List ℕ) → places k ≡ Begun v bytes → MadeAt n asked log k v bytes
  pub accepted : 1 < n → (i v p : ℕ) (bytes : List ℕ) → AcceptedIn (txs i) v p bytes → (k : ℕ) × (places k ≡ Begun v bytes)
  pub logged : (v : ℕ) → v < length log → LoggedAt n asked log places v

-- each version of the old log is still there, and of the same request
abbrev pub Lasts : (n : ℕ) (asked more : List Asked) (log newer : List (List ℕ)) (places after : Places) → Type 0
Lasts n asked more log newer places after = (v : ℕ) → v < length log → (a : LoggedAt n asked log places v) → (v < length newer) × (b : LoggedAt n more newer after v) × (b.k ≡ a.k)

-- ---- a request arrives at another place

-- a place that an event of monitor i may take a request from
abbrev pub IsAt : ℕ → Place → Type 0
IsAt i Nowhere = Unit {0}
IsAt i (Handed f to e seq) = to ≡ i
IsAt i (Queued j t) = j ≡ i
IsAt i (Begun v bytes) = ⊥

-- only requests at `from` may move
abbrev pub Moves : Place → Places → Places → Type 0
Moves from places after = (j : ℕ) (p : Place) → places j ≡ p → (p ≡ from → ⊥) → after j ≡ p

abbrev pub moved_to : ℕ → Place → Places → Places
moved_to k p places j = cond (eqb j k) p (places j)

pub moves : (k : ℕ) (from to : Place) (places : Places) → places k ≡ from → Moves from places (moved_to k to places)
moves k from to places at j p e apart = by (eqb j k) refl
  where
    by : (b : Bool) → eqb j k ≡ b → cond b to (places j) ≡ p
    by true t = absurd (apart (sym e ∙ ap places (eqb-true j k t) ∙ at))
    by false t = e

pub is_moved : (k : ℕ) (to : Place) (places : Places) → moved_to k to places k ≡ to
is_moved k to places = rw (eq-eqb k k refl) refl

-- what is at a place was there, or is what moved
pub was_there : (k : ℕ) (to : Place) (places : Places) (j : ℕ) (p : Place) → moved_to k to places j ≡ p → (places j ≡ p) ⊎ ((j ≡ k) × (to ≡ p))
was_there k to places j p = by (eqb j k) refl
  where
    by : (b : Bool) → eqb j k ≡ b → cond b to (places j) ≡ p → (places j ≡ p) ⊎ ((j ≡ k) × (to ≡ p))
    by true t e = inr (eqb-true j k t, e)
    by false t e = inl e

pub apart_at : (i : ℕ) (from p : Place) → IsAt i from → (IsAt i p → ⊥) → p ≡ from → ⊥
apart_at i from p at none e = none (subst (IsAt i) (sym e) at)

pub get_more : {A : Type 0} (xs ys : List A) (k : ℕ) (x : A) → slice_get xs k ≡ Some x → slice_get (xs ++ ys) k ≡ Some x
get_more [] ys k x e = absurd cc
get_more (z ∷ xs) ys zero x e = e
get_more (z ∷ xs) ys (suc k) x e = get_more xs ys k x e

pub get_pushed : {A : Type 0} (xs : List A) (x : A) → slice_get (xs ++ x ∷ []) (length xs) ≡ Some x
get_pushed [] x = refl
get_pushed (z ∷ xs) x = get_pushed xs x

pub get_contained : {A : Type 0} (xs : List A) (k : ℕ) (x : A) → k < length xs → slice_index_or xs k x ≡ x → slice_get xs k ≡ Some x
get_contained [] k x lt e = absurd (omega arith)
get_contained (z ∷ xs) zero x lt e = ap Some e
get_contained (z ∷ xs) (suc k) x lt e = get_contained xs k x (omega arith) e

-- more is asked
abbrev pub StillAt : List Asked → List Asked → Type 0
StillAt asked more = (k : ℕ) (a : Asked) → slice_get asked k ≡ Some a → slice_get more k ≡ Some a

module _ (n : ℕ) (asked more : List Asked) (still : StillAt asked more) where
  pub asked_still : (k rank : ℕ) (c : Command) → AskedAt n asked k rank c → AskedAt n more k rank c
  asked_still k rank c a = record { by = a.by; at = still k a.by a.at; session = a.session; was = a.was }

  pub made_still : (log newer : List (List ℕ)) → IsPrefixOf log newer → (k v : ℕ) (bytes : List ℕ) → MadeAt n asked log k v bytes → MadeAt n more newer k v bytes
  made_still log newer F k v bytes a = let M = a.of in record { x = a.x; encodes = a.encodes; of = record { by = M.by; at = still k M.by M.at; made = made_stays F n (M.by ∷ []) v a.x M.made } }

  module _ (from : Place) (places after : Places) (M : Moves from places after) where
    pub own_lasts : (p : Place) (rank : ℕ) (c : Command) → (p ≡ from → ⊥) → HasOwn n asked places p rank c → HasOwn n more after p rank c
    own_lasts p rank c apart h = record { k = h.k; place = M h.k p h.place apart; of = asked_still h.k rank c h.of }

    pub wait_last : (i t : ℕ) (xs : List Waiting) → ((u : ℕ) → t ≤ u → Queued i u ≡ from → ⊥) → AllWait n asked places i t xs → AllWait n more after i t xs
    wait_last i t [] apart h = tt
    wait_last i t (x ∷ xs) apart h = (own_lasts (Queued i t) (asker i x.origin) x.command (apart t (omega arith)) h.0, wait_last i (suc t) xs (λ u le. apart u (omega arith)) h.1)

-- ---- one more waits

pub wait_push : (n : ℕ) (asked : List Asked) (places : Places) (i t : ℕ) (xs : List Waiting) (x : Waiting) → AllWait n asked places i t xs → HasOwn n asked places (Queued i (t + length xs)) (asker i x.origin) x.command → AllWait n asked places i t (xs ++ x ∷ [])
wait_push n asked places i t [] x h k = (subst (λ (u : ℕ). HasOwn n asked places (Queued i u) (asker i x.origin) x.command) (let e : t + 0 ≡ t = omega arith in e) k, tt)
wait_push n asked places i t (z ∷ xs) x h k =
    (h.0, wait_push n asked places i (suc t) xs x h.1 (subst (λ (u : ℕ). HasOwn n asked places (Queued i u) (asker i x.origin) x.command) (let e : t + suc (length xs) ≡ suc t + length xs = omega arith in e) k))
