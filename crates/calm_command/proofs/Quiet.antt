-- What monitors do at messages and commands that write nothing.
use Rattle.calm_command.proofs.CommandRows.{comes}
use Rattle.calm_command.proofs.Roles.{Following, Holds, Leading, Role, as_seen, asked_rank, one_sent, one_told, rank_of, replied, routed, standing}
use Rattle.calm_command.proofs.Rounds.{to_rank}
use Rattle.calm_command.proofs.Sets.{has_firsts}
use Rattle.calm_command.proofs.States.{active, following, is_active, is_following, led, led_by, reads, said}
use Rattle.calm_command.proofs.Stores.{Stored, is_read, long, nothing_written, service_fits, short}
use Rattle.calm_command.proofs.Worlds.{Does}
use Rattle.calm_sizes.proofs.Stores.{not_full}
use Rattle.law_names.proofs.Runs.{AllValues, Answer, Envelope, Monitors, grown, request_of}
use Rattle.law_names.proofs.Table.{Asked, Command, CommandRefused, Course, Input, Origin, Readings, Reply, Session, State, Store, ask, asked_of, at_leader, at_rest, clients_are, is_too_long, react, readings_of, refusal, reply_to, service_of, shared_entries, stands, too_long, value, ◌▸◌}
use Rattle.log_copies.proofs.Matching.{read_last}
use Rattle.log_copies.specs.Versions.{HasVersions, store_after}
use Rattle.mon_msg.specs.declared.input.Input.TheVariants as input
use Rattle.mon_msg.specs.declared.plan.Origin.TheVariants as origin
use Rattle.mon_wire.specs.declared.body.Body.TheVariants as body
use Rattle.quorum_agreement.proofs.Grown.{grown_none}
use Rattle.quorum_model.proofs.Members.{member_of}
use Rattle.std.proofs.Common.{Bool, Err, List, Ok, [], ap, arith, false, length, ltb, refl, slice_index_or, slice_set, subst, suc, sym, true, ℕ, ◌&&◌, ◌-◌, ◌<◌, ◌^◌, ◌∙◌, ◌∷◌, ◌≡◌, ◌≤◌}
use Rattle.std.proofs.lemmas.Bool.{eq-eqb, lt-ltb}
use Rattle.table_rows.proofs.Serving as rows

module _ (ms : Monitors) where
  abbrev n : ℕ
  n = ms.count

  -- ---- nothing is written

  module _ (base : List (List ℕ)) (fits : length base ≤ 2 ^ 62) (all : AllValues base) (l : List (List ℕ)) (u p : ℕ)
      (le : u ≤ length l) where
    abbrev pub Quietly : (i : ℕ) → Input → (from to : Role) → List Envelope → List Answer → Type 0
    Quietly i came from to out said =
        (lt : ltb i n ≡ true) (m : Store) (s : State) → Holds ms base from m s
        → Does ms Role (Holds ms base) i lt m s came l to out said l

    unwritten : (m : Store) → Stored base u p m → Stored base u p (store_after [] m)
    unwritten m S = subst (λ (m : Store). Stored base u p m) (sym (nothing_written m)) S

    kept : (m : Store) → Stored base u p m → grown l (store_after [] m) ≡ l
    kept m S =
        let T = unwritten m S in
        grown_none l (store_after [] m) T.unmarked
        (let r = read_last base fits all u (store_after [] m) T.versions in omega arith)

    abbrev at_peon : Store → State → List Asked → ℕ → Course
    at_peon m s sessions seq = at_rest (reads u (readings_of m)) (following n sessions seq s)

    abbrev at_lead : Store → State → List Bool → List ℕ → Course
    at_lead m s acks taken = at_rest (reads u (readings_of m)) (active n acks taken s)

    asks : (k : ℕ) (m : Store) (s : State) (sessions : List Asked) (seq : ℕ) (lt : ltb k n ≡ true) (session : Session)
        (c : Command)
        → react (member_of ms k lt) (shared_entries m) 0 (reads u (readings_of m)) (following n sessions seq s)
        (input.Client session (request_of c)) ≡ ask (member_of ms k lt) 0 session c (at_peon m s sessions seq)
    asks k m s sessions seq lt session c =
        comes (member_of ms k lt) (shared_entries m) 0 (reads u (readings_of m)) (following n sessions seq s) session c refl

    route_row : (k : ℕ) (m : Store) (s : State) (seq : ℕ) (session : Session) (lt : ltb k n ≡ true) → (0 ≡ k → ⊥) → (r : Reply)
        → react (member_of ms k lt) (shared_entries m) 0 (reads u (readings_of m))
        (following n (record { seq = seq; session = session } ∷ []) (suc seq) s) (input.Deliver (said n 0 (body.Route seq r)))
        ≡ Ok (at_peon m s (record { seq = seq; session = session } ∷ []) (suc seq)
        ▸ clients_are (record s.clients { sessions = []; next_seq = suc seq }) ▸ reply_to session r)
    route_row k m s seq session lt nz r =
        rows.route_row (member_of ms k lt) (shared_entries m) 0
        (led ms lt nz u (readings_of m) (record { seq = seq; session = session } ∷ []) (suc seq) s) seq r
        ∙ rw (eq-eqb seq seq refl) refl

    module _ (k : ℕ) (seq : ℕ) (session : Session) where
      pub long_peon : (c : Command) → is_too_long c ≡ true
          → Quietly k (input.Client session (request_of c)) (Following u p true [] seq) (Following u p true [] seq)
          [] ((k, session, too_long c) ∷ [])
      long_peon c long lt m s H = let next = unwritten m H.0 in let H1 = H.1 in record {
        y = _;
        is = as_seen _ _ _ _ _ _ _ _ (is_read base fits all u p m H.0) (is_following n true [] seq s H.1)
            (asks k m s [] seq lt session c ∙ rows.refuses_long (member_of ms k lt) 0 c session (at_peon m s [] seq) refl long);
        small = not_full base fits all _ _ next.versions next.short;
        sends = refl;
        tells = refl;
        grows = kept m H.0;
        leaves = (
          next,
          record { phase = refl; leader = refl; quorum = refl; lease = H1.lease; waits = refl; next = refl },
        );
      }

      pub forwards : (c : Command) → is_too_long c ≡ false → seq ≤ 2 ^ 62
          → Quietly k (input.Client session (request_of c)) (Following u p true [] seq)
          (Following u p true (record { seq = seq; session = session } ∷ []) (suc seq))
          (to_rank 0 (said n k (body.Forward seq c)) ∷ []) []
      forwards c short few lt m s H = let next = unwritten m H.0 in let H1 = H.1 in record {
        y = _;
        is = as_seen _ _ _ _ _ _ _ _ (is_read base fits all u p m H.0) (is_following n true [] seq s H.1)
            (asks k m s [] seq lt session c ∙ rows.forwards (member_of ms k lt) 0 c session (at_peon m s [] seq) refl short refl few);
        small = not_full base fits all _ _ next.versions next.short;
        sends = refl;
        tells = refl;
        grows = kept m H.0;
        leaves = (
          next,
          record { phase = refl; leader = refl; quorum = refl; lease = H1.lease; waits = refl; next = refl },
        );
      }

      pub routes : (0 ≡ k → ⊥) → (leased : Bool) (r : Reply)
          → Quietly k (input.Deliver (said n 0 (body.Route seq r)))
          (Following u p leased (record { seq = seq; session = session } ∷ []) (suc seq))
          (Following u p leased [] (suc seq)) [] ((k, session, r) ∷ [])
      routes nz leased r lt m s H = let next = unwritten m H.0 in let H1 = H.1 in record {
        y = _;
        is = as_seen _ _ _ _ _ _ _ _ (is_read base fits all u p m H.0)
            (is_following n leased (record { seq = seq; session = session } ∷ []) (suc seq) s H.1)
            (route_row k m s seq session lt nz r);
        small = not_full base fits all _ _ next.versions next.short;
        sends = refl;
        tells = refl;
        grows = kept m H.0;
        leaves = (
          next,
          record { phase = refl; leader = refl; quorum = refl; lease = H1.lease; waits = refl; next = refl },
        );
      }

    -- what a leader does at which a command came, by itself or handed on
    abbrev pub Leads_to : (came : Input) (acks : List Bool) (taken later : List ℕ) (c : Command) (o : Origin) → Type 0
    Leads_to came acks taken later c o = (lt : ltb 0 n ≡ true) (m : Store) (s : State) → stands s.leader.lease 0 ≡ true
        → react (member_of ms 0 lt) (shared_entries m) 0 (reads u (readings_of m)) (active n acks taken s) came
        ≡ at_leader (member_of ms 0 lt) 0 c o (at_rest (reads u (readings_of m)) (active n acks later s))

    pub asks_lead : (acks : List Bool) (taken : List ℕ) (c : Command) (session : Session) → suc u ≤ 2 ^ 62
        → Leads_to (input.Client session (request_of c)) acks taken taken c (origin.Session session)
    asks_lead acks taken c session room lt m s h =
        comes (member_of ms 0 lt) (shared_entries m) 0 (reads u (readings_of m)) (active n acks taken s) session c refl
        ∙ rows.asks_leader (member_of ms 0 lt) 0 c session (at_lead m s acks taken) refl

    pub long_lead : (acks : List Bool) (taken : List ℕ) (c : Command) (session : Session) → is_too_long c ≡ true
        → suc u ≤ 2 ^ 62
        → Quietly 0 (input.Client session (request_of c)) (Leading u p acks taken) (Leading u p acks taken) []
        ((0, session, too_long c) ∷ [])
    long_lead acks taken c session long room lt m s H = let next = unwritten m H.0 in let H1 = H.1 in record {
      y = _;
      is = as_seen _ _ _ _ _ _ _ _ (is_read base fits all u p m H.0) (is_active n acks taken s H.1)
          (asks_lead acks taken c session room lt m s H1.lease
          ∙ rows.leader_refuses (member_of ms 0 lt) 0 c (origin.Session session) (at_lead m s acks taken) long);
      small = not_full base fits all _ _ next.versions next.short;
      sends = refl;
      tells = refl;
      grows = kept m H.0;
      leaves = (
        next,
        record {
          phase = refl;
          quorum = refl;
          pn = refl;
          acked = refl;
          lease = H1.lease;
          queue = refl;
          sessions = refl;
          took = refl;
        },
      );
    }

    pub forward_comes : (acks : List Bool) (taken : List ℕ) (c : Command) (f seq : ℕ) → suc u ≤ 2 ^ 62 → 0 < f
        → f < n → slice_index_or taken f 0 < seq
        → Leads_to (input.Deliver (said n f (body.Forward seq c))) acks taken (slice_set taken f seq) c
        (origin.Forwarded f seq)
    forward_comes acks taken c f seq room pos below new lt m s h =
        rows.forward_row (member_of ms 0 lt) (shared_entries m) 0 refl refl
        (led_by ms lt (λ e. omega arith) (has_firsts n ms.most f ∙ lt-ltb f n below) u (readings_of m) acks taken s) seq c new

    pub refused : (came : Input) (acks : List Bool) (taken later : List ℕ) (c : Command) (o : Origin)
        (e : CommandRefused) → is_too_long c ≡ false → suc u ≤ 2 ^ 62
        → ((m : Store) → HasVersions base u m → value (readings_of m) c (rank_of o) ≡ Err e)
        → Leads_to came acks taken later c o
        → Quietly 0 came (Leading u p acks taken) (Leading u p acks later) (routed n o (refusal e))
        (replied o (refusal e))
    refused came acks taken later c o e short room made comes lt m s H =
        let S = H.0 in let next = unwritten m S in let H1 = H.1 in record {
          y = _;
          is = as_seen _ _ _ _ _ _ _ _ (is_read base fits all u p m S) (is_active n acks taken s H1)
              (comes lt m s H1.lease
              ∙ rows.proposes (member_of ms 0 lt) 0 c o (at_lead m s acks later) short (ap (λ b. b && true) (standing n s H1.lease))
              (service_fits base fits all u p m S (omega arith) (service_of c))
              (ap (λ (w : Readings). value w c (asked_of (member_of ms 0 lt) o))
              (sym (is_read base fits all u p m S))
              ∙ ap (λ (a : ℕ). value (readings_of m) c a) (asked_rank ms lt (refusal e) o)
              ∙ made m S.versions));
          small = not_full base fits all _ _ next.versions next.short;
          sends = one_sent ms lt (refusal e) o;
          tells = one_told ms lt (refusal e) 2 o;
          grows = kept m S;
          leaves = (
            next,
            record {
              phase = refl;
              quorum = refl;
              pn = refl;
              acked = refl;
              lease = H1.lease;
              queue = refl;
              sessions = refl;
              took = refl;
            },
          );
        }
