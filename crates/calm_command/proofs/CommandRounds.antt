-- A command comes, of whichever monitor it is asked.
use Rattle.calm_command.proofs.Quiet.{Quietly, asks_lead, forward_comes, forwards, long_lead, long_peon, refused, routes}
use Rattle.calm_command.proofs.Roles.{Following, Holds, Leading, Role, Voting, to_each}
use Rattle.calm_command.proofs.Rounds.{Hears, Later, Standing, crew, leader_hears, one_hears, restand, to_rank}
use Rattle.calm_command.proofs.Sets.{firsts}
use Rattle.calm_command.proofs.States.{said}
use Rattle.calm_command.proofs.Stores.{Makes, long, longer, short, values}
use Rattle.calm_command.proofs.ValueRounds.{peons, settles}
use Rattle.calm_command.proofs.Values.{commits_alone, proposes}
use Rattle.calm_command.proofs.Worlds.{After, Does, Is, Moves, One, and_then, at_once, moves}
use Rattle.law_names.proofs.Runs.{AllValues, Answer, Arrives, Client, Envelope, Monitors, Plain, World, happens, request_of}
use Rattle.law_names.proofs.Table.{Asked, Command, CommandRefused, Input, Op, Origin, Reply, Request, Session, State, Store, is_too_long, range_with_len, readings_of, refusal, text, too_long, value}
use Rattle.log_copies.specs.Versions.{HasVersions}
use Rattle.mon_msg.specs.declared.input.Input.TheVariants as input
use Rattle.mon_msg.specs.declared.plan.Origin.TheVariants as origin
use Rattle.mon_wire.specs.declared.body.Body.TheVariants as body
use Rattle.mon_wire.specs.declared.reply.Reply.TheVariants as reply
use Rattle.std.proofs.Common.{Bool, Err, List, Ok, [], ap, append-nil, arith, cond, eqb, false, length, ltb, refl, slice_index_or, slice_set, subst, suc, sym, true, zero, ℕ, ◌++◌, ◌+◌, ◌-◌, ◌<◌, ◌^◌, ◌∙◌, ◌∷◌, ◌≡◌, ◌≤◌}
use Rattle.std.proofs.lemmas.Bool.{eq-eqb, ne_eqb}

-- nobody waits
abbrev pub nobody : ℕ → List Asked
nobody j = []

-- one waits at monitor r
abbrev pub waits_at : ℕ → Asked → ℕ → List Asked
waits_at r a j = cond (eqb j r) (a ∷ []) []

-- and there the next number is one more
abbrev pub one_up : ℕ → (ℕ → ℕ) → ℕ → ℕ
one_up r seq j = cond (eqb j r) (suc (seq r)) (seq j)

module _ (v p : ℕ) (b : Bool) (seq : ℕ → ℕ) (r : ℕ) (a : Asked) where
  at_r : peons v p b (waits_at r a) (one_up r seq) r ≡ Following v p b (a ∷ []) (suc (seq r))
  at_r = rw (eq-eqb r r refl) refl

  at_r_then : peons v p b nobody (one_up r seq) r ≡ Following v p b [] (suc (seq r))
  at_r_then = rw (eq-eqb r r refl) refl

  off_r : (j : ℕ) → (j ≡ r → ⊥) → peons v p b nobody seq j ≡ peons v p b (waits_at r a) (one_up r seq) j
  off_r j ne = rw (ne_eqb j r ne) refl

  off_r_then : (j : ℕ) → (j ≡ r → ⊥) → peons v p b (waits_at r a) (one_up r seq) j ≡ peons v p b nobody (one_up r seq) j
  off_r_then j ne = rw (ne_eqb j r ne) refl

module _ (ms : Monitors) (H : Role → Store → State → Type 0) where
  -- the command comes, and the monitors are in these roles once all messages are delivered
  pub record Goes (T : ℕ → Role) (more : List (List ℕ)) (told : List Answer) (c k : ℕ) (p : Plain)
      (w : World) : Type 0 where
    pub next : World
    pub is : happens ms w (Arrives p) ≡ Ok next
    pub later : After ms Role H T [] more told c k next

  -- monitor i gets a client's request
  module _ (S T U : ℕ → Role) (i : ℕ) (session : Session) (q : Request) (log more final : List (List ℕ))
      (out : List Envelope) (said told all : List Answer)
      (O : One ms Role H S T i (input.Client session q) log out said more) where
    comes : (c k : ℕ) (w : World) → Standing ms Role H S k [] log told w → ((next : World)
        → Standing ms Role H T k out more (told ++ said) next → After ms Role H U [] final all c k next)
        → Goes U final all c k (Client i 0 session q) w
    comes c k w St h = record {
      next = M.next;
      is = M.is;
      later = h M.next (record {
        each = M.each;
        done = St.done;
        count = St.count;
        messages = M.messages ∙ ap (λ (l : List Envelope). l ++ out) (St.messages ∙ append-nil St.done);
        logged = M.logged;
        answered = M.answered;
      });
    }
      where
        M : Moves ms Role H S T i (input.Client session q) log out said more O (Client i 0 session q) told w
        M =
            moves ms Role H S T i (input.Client session q) log out said more O (Client i 0 session q) w k [] told St
            refl refl

  -- if the leader gets it, the others stay as they are
  one_leads : (l a : Role) (P : ℕ → Role) (came : Input) (log : List (List ℕ)) (out : List Envelope)
      (said : List Answer) (more : List (List ℕ)) → 0 < ms.count
      → ((lt : ltb 0 ms.count ≡ true) (m : Store) (s : State) → H l m s
      → Does ms Role H 0 lt m s came log a out said more)
      → One ms Role H (crew l P) (crew a P) 0 came log out said more
  one_leads l a P came log out said more pos h = record { below = pos; others = λ j lt ne. by j ne; does = h }
    where
      by : (j : ℕ) → (j ≡ 0 → ⊥) → crew l P j ≡ crew a P j
      by zero ne = absurd (ne refl)
      by (suc j) ne = refl

  -- a peon does
  one_follows : (l : Role) (P Q : ℕ → Role) (r : ℕ) (came : Input) (log : List (List ℕ)) (out : List Envelope)
      (said : List Answer) → 0 < r → r < ms.count → ((j : ℕ) → (j ≡ r → ⊥) → P j ≡ Q j)
      → ((lt : ltb r ms.count ≡ true) (m : Store) (s : State) → H (P r) m s
      → Does ms Role H r lt m s came log (Q r) out said log)
      → One ms Role H (crew l P) (crew l Q) r came log out said log
  one_follows l P Q zero came log out said pos lt same h = absurd (omega arith)
  one_follows l P Q (suc r) came log out said pos lt same h =
      record { below = lt; others = λ j lt ne. by j ne; does = h }
    where
      by : (j : ℕ) → (j ≡ suc r → ⊥) → crew l P j ≡ crew l Q j
      by zero ne = refl
      by (suc j) ne = same (suc j) ne

-- ---- nothing comes of it but an answer

module _ (ms : Monitors) (base : List (List ℕ)) (fits : length base ≤ 2 ^ 62)
    (all : AllValues base) (seq : ℕ → ℕ)
    (taken : List ℕ) (session : Session) (c : Command)
    (room : length base < 2 ^ 62) where
  abbrev n : ℕ
  n = ms.count

  abbrev v : ℕ
  v = length base

  abbrev H : Role → Store → State → Type 0
  H = Holds ms base

  abbrev lead : List ℕ → Role
  lead taken = Leading v v (firsts n) taken

  abbrev Resting : List ℕ → (ℕ → ℕ) → ℕ → Role
  Resting taken seq = crew (lead taken) (peons v v true nobody seq)

  pub long_at_leader : is_too_long c ≡ true → 0 < n → (told : List Answer) (k : ℕ) (w : World)
      → Standing ms Role H (Resting taken seq) k [] base told w
      → Goes ms H (Resting taken seq) base (told ++ (0, session, too_long c) ∷ []) 0 k
      (Client 0 0 session (request_of c)) w
  long_at_leader long pos told k w S =
      comes ms H (Resting taken seq) (Resting taken seq) (Resting taken seq) 0 session (request_of c) base base base
      [] _ told _
      (one_leads ms H (lead taken) (lead taken) (peons v v true nobody seq) _ base [] _ base pos
      (long_lead ms base fits all base v v (omega arith) (firsts n) taken c session long
      (omega arith))) 0 k w S
      (λ next T. at_once ms Role H (Resting taken seq) [] base _ k next T)

  pub long_at_peon : (r : ℕ) → is_too_long c ≡ true → 0 < r → r < n → (told : List Answer) (k : ℕ) (w : World)
      → Standing ms Role H (Resting taken seq) k [] base told w
      → Goes ms H (Resting taken seq) base (told ++ (r, session, too_long c) ∷ []) 0 k
      (Client r 0 session (request_of c)) w
  long_at_peon r long pos lt told k w S =
      comes ms H (Resting taken seq) (Resting taken seq) (Resting taken seq) r session (request_of c) base base base
      [] _ told _
      (one_follows ms H (lead taken) (peons v v true nobody seq) (peons v v true nobody seq) r _ base [] _ pos lt
      (λ j ne. refl) (long_peon ms base fits all base v v (omega arith) r (seq r) session c long)) 0
      k w S
      (λ next T. at_once ms Role H (Resting taken seq) [] base _ k next T)

  module _ (short : is_too_long c ≡ false) (e : CommandRefused) where
    pub refused_at_leader : ((m : Store) → HasVersions base v m → value (readings_of m) c 0 ≡ Err e) → 0 < n
        → (told : List Answer) (k : ℕ) (w : World) → Standing ms Role H (Resting taken seq) k [] base told w
        → Goes ms H (Resting taken seq) base (told ++ (0, session, refusal e) ∷ []) 0 k
        (Client 0 0 session (request_of c)) w
    refused_at_leader made pos told k w S =
        comes ms H (Resting taken seq) (Resting taken seq) (Resting taken seq) 0 session (request_of c) base base
        base [] _ told _
        (one_leads ms H (lead taken) (lead taken) (peons v v true nobody seq) _ base [] _ base pos
        (refused ms base fits all base v v (omega arith) (input.Client session (request_of c)) (firsts n)
        taken taken c (origin.Session session) e short (omega arith) made
        (asks_lead ms base fits all base v v (omega arith) (firsts n) taken c session (omega arith)))) 0
        k w S
        (λ next T. at_once ms Role H (Resting taken seq) [] base _ k next T)

    module _ (r : ℕ) (pos : 0 < r) (lt : r < n) where
      abbrev waiter : Asked
      waiter = record { seq = seq r; session = session }

      abbrev after_taken : List ℕ
      after_taken = slice_set taken r (seq r)

      abbrev Waiting : List ℕ → ℕ → Role
      Waiting taken = crew (lead taken) (peons v v true (waits_at r waiter) (one_up r seq))

      pub refused_at_peon : ((m : Store) → HasVersions base v m → value (readings_of m) c r ≡ Err e)
          → slice_index_or taken r 0 < seq r → seq r ≤ 2 ^ 62 → (told : List Answer) (k : ℕ) (w : World)
          → Standing ms Role H (Resting taken seq) k [] base told w
          → Goes ms H (Resting after_taken (one_up r seq)) base (told ++ (r, session, refusal e) ∷ []) 2 k
          (Client r 0 session (request_of c)) w
      refused_at_peon made new few told k w S =
          comes ms H (Resting taken seq) (Waiting taken) (Resting after_taken (one_up r seq)) r session
          (request_of c) base base base _ [] told _
          (one_follows ms H (lead taken) (peons v v true nobody seq)
          (peons v v true (waits_at r waiter) (one_up r seq)) r _ base _ [] pos lt (off_r v v true seq r waiter)
          asks) 2 k w S
          (λ next T. subst (λ (l : List Answer). After ms Role H (Resting after_taken (one_up r seq)) [] base
          (l ++ (r, session, refusal e) ∷ []) 2 k next) (append-nil (told ++ []) ∙ append-nil told)
          (and_then ms Role H (crew (lead after_taken) (peons v v true (waits_at r waiter) (one_up r seq)))
          (Resting after_taken (one_up r seq)) _ _ base base ((told ++ []) ++ []) _ 1 1 k next
          (leader_hears ms Role H (lead taken) (lead after_taken)
          (peons v v true (waits_at r waiter) (one_up r seq)) (said n r (body.Forward (seq r) c)) base _ [] base
          (omega arith) hears [] (told ++ []) k next T)
          (λ j u U. one_hears ms Role H (lead after_taken) (peons v v true (waits_at r waiter) (one_up r seq))
          (peons v v true nobody (one_up r seq)) r (said n 0 (body.Route (seq r) (refusal e))) base [] _ pos lt
          (off_r_then v v true seq r waiter) answers [] ((told ++ []) ++ []) j u U)))
        where
          asks : (lt : ltb r n ≡ true) (m : Store) (s : State) → H (peons v v true nobody seq r) m s
              → Does ms Role H r lt m s (input.Client session (request_of c)) base
              (peons v v true (waits_at r waiter) (one_up r seq) r)
              (to_rank 0 (said n r (body.Forward (seq r) c)) ∷ []) [] base
          asks =
              subst (λ (d : Role). Quietly ms base fits all base v v (omega arith) r
              (input.Client session (request_of c)) (Following v v true [] (seq r)) d
              (to_rank 0 (said n r (body.Forward (seq r) c)) ∷ []) []) (sym (at_r v v true seq r waiter))
              (forwards ms base fits all base v v (omega arith) r (seq r) session c short few)

          hears : Hears ms Role H 0 (said n r (body.Forward (seq r) c)) base (lead taken) (lead after_taken)
              (to_rank r (said n 0 (body.Route (seq r) (refusal e))) ∷ []) [] base
          hears =
              refused ms base fits all base v v (omega arith)
              (input.Deliver (said n r (body.Forward (seq r) c))) (firsts n) taken after_taken c
              (origin.Forwarded r (seq r)) e short (omega arith) made
              (forward_comes ms base fits all base v v (omega arith) (firsts n) taken c r (seq r)
              (omega arith) pos lt new)

          answers : Hears ms Role H r (said n 0 (body.Route (seq r) (refusal e))) base
              (peons v v true (waits_at r waiter) (one_up r seq) r) (peons v v true nobody (one_up r seq) r) []
              ((r, session, refusal e) ∷ []) base
          answers =
              subst (λ (d : Role). Hears ms Role H r (said n 0 (body.Route (seq r) (refusal e))) base d
              (peons v v true nobody (one_up r seq) r) [] ((r, session, refusal e) ∷ []) base)
              (sym (at_r v v true seq r waiter))
              (subst (λ (d : Role). Hears ms Role H r (said n 0 (body.Route (seq r) (refusal e))) base
              (Following v v true (waiter ∷ []) (suc (seq r))) d [] ((r, session, refusal e) ∷ []) base)
              (sym (at_r_then v v true seq r waiter))
              (routes ms base fits all base v v (omega arith) r (seq r) session (λ z. omega arith) true
              (refusal e)))

-- ---- it makes a value

module _ (ms : Monitors) (log : List (List ℕ)) (x : List Op) (V : Makes log x)
    (seq : ℕ → ℕ) (taken : List ℕ) (session : Session) (small_text : is_too_long V.command ≡ false) where
  abbrev c : Command
  c = V.command

  abbrev asked : ℕ
  asked = V.asked

  abbrev m0 : ℕ
  m0 = ms.count

  abbrev u : ℕ
  u = length log

  abbrev more : List (List ℕ)
  more = log ++ text x ∷ []

  abbrev G : Role → Store → State → Type 0
  G = Holds ms more

  fits_more : length more ≤ 2 ^ 62
  fits_more = short log x V

  all_more : AllValues more
  all_more = values log x V

  long_more : length more ≡ suc u
  long_more = long log x V

  abbrev done : Reply
  done = reply.Done (suc u)

  abbrev At : ℕ → List ℕ → (ℕ → ℕ) → ℕ → Role
  At v taken seq = crew (Leading v v (firsts m0) taken) (peons v v true nobody seq)

  -- the longer log
  relogged : (k : ℕ) (told : List Answer) (w : World)
      → Standing ms Role (Holds ms log) (At u taken seq) k [] log told w
      → Standing ms Role G (At u taken seq) k [] log told w
  relogged k told w S =
      record {
        each = λ i lt. by i (S.each i lt);
        done = S.done;
        count = S.count;
        messages = S.messages;
        logged = S.logged;
        answered = S.answered;
      }
    where
      by : (i : ℕ) → Is ms Role (Holds ms log) (At u taken seq i) (w.store i) (w.state i)
          → Is ms Role G (At u taken seq i) (w.store i) (w.state i)
      by zero I =
          let h = I.holds in
          record { state = I.state; up = I.up; holds = (longer log x V u (w.store 0) h.0, h.1) }
      by (suc i) I =
          let h = I.holds in
          record { state = I.state; up = I.up; holds = (longer log x V u (w.store (suc i)) h.0, h.1) }

  -- of a leader alone
  pub alone : asked ≡ 0 → m0 ≡ 1 → (told : List Answer) (k : ℕ) (w : World)
      → Standing ms Role (Holds ms log) (At u taken seq) k [] log told w
      → Goes ms G (At (suc u) taken seq) more (told ++ (0, session, done) ∷ []) 0 k
      (Client 0 0 session (request_of c)) w
  alone from one told k w S =
      comes ms G (At u taken seq) (crew (Leading (suc u) (suc u) (firsts m0) taken) (peons u u true nobody seq))
      (At (suc u) taken seq) 0 session (request_of c) log more more [] _ told _
      (one_leads ms G (Leading u u (firsts m0) taken) (Leading (suc u) (suc u) (firsts m0) taken)
      (peons u u true nobody seq) _ log [] _ more (omega arith)
      (commits_alone ms log x V (input.Client session (request_of c)) (firsts m0) taken taken
      (origin.Session session) small_text (sym from) one
      (asks_lead ms more fits_more all_more log u u (omega arith) (firsts m0) taken c session
      (omega arith)))) 0 k w (relogged k told w S)
      (λ next T. at_once ms Role G (At (suc u) taken seq) [] more _ k next
      (restand ms Role G _ (At (suc u) taken seq) nobody_else k [] more _ next T))
    where
      nobody_else : (j : ℕ) → j < m0
          → crew (Leading (suc u) (suc u) (firsts m0) taken) (peons u u true nobody seq) j ≡ At (suc u) taken seq j
      nobody_else zero lt = refl
      nobody_else (suc j) lt = absurd (omega arith)

  module _ (several : 1 < m0) where
    abbrev rounds : ℕ
    rounds = (m0 - 1) + (((m0 - 2) + 1) + ((m0 - 1) + ((m0 - 1) + (1 + (m0 - 1)))))

    -- asked of the leader
    pub of_leader : asked ≡ 0 → (told : List Answer) (k : ℕ) (w : World)
        → Standing ms Role (Holds ms log) (At u taken seq) k [] log told w
        → Goes ms G (At (suc u) taken seq) more (told ++ (0, session, done) ∷ []) rounds k
        (Client 0 0 session (request_of c)) w
    of_leader from told k w S =
        comes ms G (At u taken seq)
        (crew (Voting u (firsts 1) x (origin.Session session) taken) (peons u u true nobody seq))
        (At (suc u) taken seq) 0 session (request_of c) log log more _ [] told _
        (one_leads ms G (Leading u u (firsts m0) taken) (Voting u (firsts 1) x (origin.Session session) taken)
        (peons u u true nobody seq) _ log _ [] log (omega arith)
        (proposes ms log x V (input.Client session (request_of c)) (firsts m0) taken taken
        (origin.Session session) small_text (sym from) several
        (asks_lead ms more fits_more all_more log u u (omega arith) (firsts m0) taken c session
        (omega arith)))) rounds k w (relogged k told w S)
        (λ next T. subst (λ (l : List Answer). After ms Role G (At (suc u) taken seq) [] more l rounds k next)
        (append-nil _ ∙ ap (λ (l : List Answer). l ++ (0, session, done) ∷ []) (append-nil told))
        (settles ms log x V several (origin.Session session) taken nobody nobody seq [] passes (told ++ []) k
        next T))
      where
        passes : (waits : List Envelope) (told : List Answer) (k : ℕ) (w : World) → Standing ms Role G
            (crew (Leading (suc u) (suc u) (firsts 1) taken) (peons (suc u) (suc u) true nobody seq)) k waits more
            told w
            → Later ms Role G
            (crew (Leading (suc u) (suc u) (firsts 1) taken) (peons (suc u) (suc u) true nobody seq)) waits more
            (told ++ []) 1 k w
        passes waits told k w T =
            let A = at_once ms Role G
            (crew (Leading (suc u) (suc u) (firsts 1) taken) (peons (suc u) (suc u) true nobody seq)) waits more
            told k w T in
            subst (λ (l : List Answer). After ms Role G
            (crew (Leading (suc u) (suc u) (firsts 1) taken) (peons (suc u) (suc u) true nobody seq)) waits more
            l 1 k w) (sym (append-nil told)) (record {
              next = A.next;
              at = A.at;
              few = (let f = A.few in omega arith);
              drains = A.drains;
              stands = A.stands;
            })

    -- asked of a peon
    module _ (from_peon : 0 < asked) (below : asked < m0) (new : slice_index_or taken asked 0 < seq asked)
        (few : seq asked ≤ 2 ^ 62) where
      abbrev wait : Asked
      wait = record { seq = seq asked; session = session }

      abbrev took : List ℕ
      took = slice_set taken asked (seq asked)

      abbrev o : Origin
      o = origin.Forwarded asked (seq asked)

      abbrev waiting : ℕ → ℕ → Role
      waiting v = peons v v true (waits_at asked wait) (one_up asked seq)

      pub of_peon : (told : List Answer) (k : ℕ) (w : World)
          → Standing ms Role (Holds ms log) (At u taken seq) k [] log told w
          → Goes ms G (At (suc u) took (one_up asked seq)) more (told ++ (asked, session, done) ∷ []) (1 + rounds) k
          (Client asked 0 session (request_of c)) w
      of_peon told k w S =
          comes ms G (At u taken seq) (crew (Leading u u (firsts m0) taken) (waiting u))
          (At (suc u) took (one_up asked seq)) asked session (request_of c) log log more _ [] told _
          (one_follows ms G (Leading u u (firsts m0) taken) (peons u u true nobody seq) (waiting u) asked _ log _ []
          from_peon below (off_r u u true seq asked wait) asks) (1 + rounds) k w (relogged k told w S)
          (λ next T. subst (λ (l : List Answer). After ms Role G (At (suc u) took (one_up asked seq)) [] more
          (l ++ (asked, session, done) ∷ []) (1 + rounds) k next)
          (append-nil _ ∙ append-nil _ ∙ append-nil told)
          (and_then ms Role G (crew (Voting u (firsts 1) x o took) (waiting u)) (At (suc u) took (one_up asked seq))
          _ [] log more ((told ++ []) ++ []) _ 1 rounds k next
          (leader_hears ms Role G (Leading u u (firsts m0) taken) (Voting u (firsts 1) x o took) (waiting u)
          (said m0 asked (body.Forward (seq asked) c)) log _ [] log (omega arith) hears [] (told ++ []) k next
          T)
          (λ j q U. settles ms log x V several o took (waits_at asked wait) nobody (one_up asked seq)
          ((asked, session, done) ∷ []) reaches ((told ++ []) ++ []) j q U)))
        where
          asks : (lt : ltb asked m0 ≡ true) (m : Store) (s : State) → G (peons u u true nobody seq asked) m s
              → Does ms Role G asked lt m s (input.Client session (request_of c)) log (waiting u asked)
              (to_rank 0 (said m0 asked (body.Forward (seq asked) c)) ∷ []) [] log
          asks =
              subst (λ (d : Role). Quietly ms more fits_more all_more log u u (omega arith) asked
              (input.Client session (request_of c)) (Following u u true [] (seq asked)) d
              (to_rank 0 (said m0 asked (body.Forward (seq asked) c)) ∷ []) []) (sym (at_r u u true seq asked wait))
              (forwards ms more fits_more all_more log u u (omega arith) asked (seq asked)
              session c small_text few)

          hears : Hears ms Role G 0 (said m0 asked (body.Forward (seq asked) c)) log (Leading u u (firsts m0) taken)
              (Voting u (firsts 1) x o took) (to_each m0 (body.Begin 100 (suc u) x) (range_with_len 1 (m0 - 1))) []
              log
          hears =
              proposes ms log x V (input.Deliver (said m0 asked (body.Forward (seq asked) c))) (firsts m0)
              taken took o small_text refl several
              (forward_comes ms more fits_more all_more log u u (omega arith) (firsts m0) taken c
              asked (seq asked) (omega arith) from_peon below new)

          answers : Hears ms Role G asked (said m0 0 (body.Route (seq asked) done)) more (waiting (suc u) asked)
              (peons (suc u) (suc u) true nobody (one_up asked seq) asked) [] ((asked, session, done) ∷ []) more
          answers =
              subst (λ (d : Role). Hears ms Role G asked (said m0 0 (body.Route (seq asked) done)) more d
              (peons (suc u) (suc u) true nobody (one_up asked seq) asked) [] ((asked, session, done) ∷ []) more)
              (sym (at_r (suc u) (suc u) true seq asked wait))
              (subst (λ (d : Role). Hears ms Role G asked (said m0 0 (body.Route (seq asked) done)) more
              (Following (suc u) (suc u) true (wait ∷ []) (suc (seq asked))) d [] ((asked, session, done) ∷ [])
              more) (sym (at_r_then (suc u) (suc u) true seq asked wait))
              (routes ms more fits_more all_more more (suc u) (suc u) (omega (arith, long_more))
              asked (seq asked) session (λ z. omega arith) true done))

          reaches : (waits : List Envelope) (told : List Answer) (k : ℕ) (w : World) → Standing ms Role G
              (crew (Leading (suc u) (suc u) (firsts 1) took) (waiting (suc u))) k
              (to_rank asked (said m0 0 (body.Route (seq asked) done)) ∷ waits) more told w
              → Later ms Role G (crew (Leading (suc u) (suc u) (firsts 1) took)
              (peons (suc u) (suc u) true nobody (one_up asked seq))) waits more
              (told ++ (asked, session, done) ∷ []) 1 k w
          reaches waits told k w T =
              subst (λ (l : List Envelope). After ms Role G (crew (Leading (suc u) (suc u) (firsts 1) took)
              (peons (suc u) (suc u) true nobody (one_up asked seq))) l more
              (told ++ (asked, session, done) ∷ []) 1 k w) (append-nil waits)
              (one_hears ms Role G (Leading (suc u) (suc u) (firsts 1) took) (waiting (suc u))
              (peons (suc u) (suc u) true nobody (one_up asked seq)) asked
              (said m0 0 (body.Route (seq asked) done)) more [] ((asked, session, done) ∷ []) from_peon below
              (off_r_then (suc u) (suc u) true seq asked wait) answers waits told k w T)
