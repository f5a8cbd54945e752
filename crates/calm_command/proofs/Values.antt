-- What monitors do with one more value.
use Rattle.calm_command.proofs.Quiet.{Leads_to}
use Rattle.calm_command.proofs.Roles.{Following, Holds, Leading, Role, Voting, all_are_sent, all_are_told, as_seen, asked_rank, one_sent, one_told, rank_of, replied, routed, sent_to_each, standing, tells_none, to_each}
use Rattle.calm_command.proofs.Rounds.{Hears, to_rank}
use Rattle.calm_command.proofs.Sets.{covers_all, covers_not, firsts, has_firsts, one_more, only_first, others_are}
use Rattle.calm_command.proofs.States.{active, is_active, is_following, is_updating, led, led_by, led_in_update, reads, said}
use Rattle.calm_command.proofs.Stores.{Makes, Stored, adds_none, adds_one, is_read, long, more, nothing_written, service_fits, short, stored_learned, stored_voted, value_is, values}
use Rattle.calm_command.proofs.Worlds.{Does}
use Rattle.calm_sizes.proofs.Stores.{not_full}
use Rattle.calm_sizes.specs.Sizes.{AllShort, longest}
use Rattle.law_names.proofs.Runs.{Answer, Envelope, Monitors, grown, messages_of, most_size, size_of, view_at}
use Rattle.law_names.proofs.Table.{Asked, Command, Course, Input, Last, Learn, Message, Op, Origin, Readings, State, Store, Vote, answer_to, are_within, asked_of, at_leader, at_rest, be_active, begin_made, begin_with, epoch_of, epoch_or_first, extend, has, is_empty, is_too_long, members, message_to, ops_of, range_with_len, readings_of, service_last, service_of, shared_entries, stands, text, value}
use Rattle.log_copies.specs.Versions.{HasVersions, store_after}
use Rattle.log_model.proofs.AnyValue.{value_spares}
use Rattle.mon_msg.specs.Protocol.Readings.{after}
use Rattle.mon_msg.specs.declared.paxos.LeaderStage.TheVariants as stage
use Rattle.mon_wire.specs.declared.body.Body.TheVariants as body
use Rattle.mon_wire.specs.declared.reply.Reply.TheVariants as reply
use Rattle.quorum_model.proofs.Members.{member_of}
use Rattle.quorum_walk.proofs.Sparing.{Own, learned_own}
use Rattle.std.proofs.Common.{Bool, List, Ok, Some, [], ap, arith, false, inr, is_some, length, ltb, map, refl, subst, suc, sym, true, zero, ℕ, ◌&&◌, ◌++◌, ◌-◌, ◌<◌, ◌^◌, ◌∙◌, ◌∷◌, ◌≡◌, ◌≤◌}
use Rattle.std.proofs.lemmas.Bool.{lt-ltb}
use Rattle.table_rows.proofs.Serving as rows

module _ (ms : Monitors) where
  abbrev n : ℕ
  n = ms.count

  -- ---- one more value

  module _ (log : List (List ℕ)) (x : List Op) (V : Makes log x) where
    abbrev v : ℕ
    v = length log

    abbrev c : Command
    c = V.command

    abbrev longer : List (List ℕ)
    longer = log ++ text x ∷ []

    abbrev pub Heard : (i : ℕ) → Message → List (List ℕ) → (from to : Role) → List Envelope → List Answer
        → List (List ℕ) → Type 0
    Heard = Hears ms Role (Holds ms longer)

    small_then : (u : ℕ) (m : Store) → HasVersions longer u m → AllShort longest m
        → ltb most_size (size_of m) ≡ false
    small_then = not_full longer (short log x V) (values log x V)

    reading : (u p : ℕ) (m : Store) → Stored longer u p m → readings_of m ≡ reads u (readings_of m)
    reading = is_read longer (short log x V) (values log x V)

    quiet : (l : List (List ℕ)) (u p : ℕ) (m : Store) → Stored longer u p m → u ≤ length l → grown l m ≡ l
    quiet = adds_none log x V

    voted : (p : ℕ) (m : Store) → Stored longer v p m
        → Stored longer v (suc v) (store_after (Vote (suc v) 100 x ∷ []) m)
    voted p m = stored_voted log x V m p

    learned : (p : ℕ) (m : Store) → p ≤ suc v → Stored longer v p m
        → Stored longer (suc v) (suc v) (store_after (Learn (suc v) x ∷ Last (suc v) ∷ []) m)
    learned p m = stored_learned log x V m p

    length_longer : length longer ≡ suc v
    length_longer = long log x V

    -- the same store
    same : (u p : ℕ) (m : Store) → Stored longer u p m → Stored longer u p (store_after [] m)
    same u p m S = subst (λ (m : Store). Stored longer u p m) (sym (nothing_written m)) S

    -- ---- the peons

    -- accept it
    pub begins : (k : ℕ) → (0 ≡ k → ⊥) → (sessions : List Asked) (seq : ℕ)
        → Heard k (said n 0 (body.Begin 100 (suc v) x)) log (Following v v true sessions seq)
        (Following v (suc v) false sessions seq) (to_rank 0 (said n k (body.Accept 100 (suc v))) ∷ []) [] log
    begins k nz sessions seq lt m s H = let next = voted v m H.0 in record {
      y = _;
      is = as_seen _ _ _ _ _ _ _ _ (reading v v m H.0) (is_following n true sessions seq s H.1)
          (rows.begin_row (member_of ms k lt) (shared_entries m) 0 (led ms lt nz v (readings_of m) sessions seq s) 100 (suc v) x refl refl);
      small = small_then _ _ next.versions next.short;
      sends = refl;
      tells = refl;
      grows = quiet log v (suc v) _ next (omega arith);
      leaves = (next, record { phase = refl; leader = refl; quorum = refl; lease = refl; waits = refl; next = refl });
    }

    -- learn it
    pub commits : (k : ℕ) → (0 ≡ k → ⊥) → (sessions : List Asked) (seq : ℕ)
        → Heard k (said n 0 (body.Commit (suc v) (x ∷ []))) longer (Following v (suc v) false sessions seq)
        (Following (suc v) (suc v) false sessions seq) [] [] longer
    commits k nz sessions seq lt m s H = let next = learned (suc v) m (omega arith) H.0 in record {
      y = _;
      is = as_seen _ _ _ _ _ _ _ _ (reading v (suc v) m H.0) (is_following n false sessions seq s H.1)
          (rows.commit_row (member_of ms k lt) (shared_entries m) 0 (led ms lt nz v (readings_of m) sessions seq s) (suc v) x refl (omega arith));
      small = small_then _ _ next.versions next.short;
      sends = refl;
      tells = refl;
      grows = quiet longer (suc v) (suc v) _ next (omega (arith, length_longer));
      leaves = (
        next,
        record {
          phase = refl;
          leader = refl;
          quorum = refl;
          lease = (let H1 = H.1 in H1.lease);
          waits = refl;
          next = refl;
        },
      );
    }

    -- and take the lease
    pub leases : (k : ℕ) → (0 ≡ k → ⊥) → (sessions : List Asked) (seq : ℕ)
        → Heard k (said n 0 (body.Lease (suc v))) longer (Following (suc v) (suc v) false sessions seq)
        (Following (suc v) (suc v) true sessions seq) (to_rank 0 (said n k (body.LeaseAck (suc v))) ∷ []) []
        longer
    leases k nz sessions seq lt m s H = let S = H.0 in let next = same (suc v) (suc v) m S in record {
      y = _;
      is = as_seen _ _ _ _ _ _ _ _ (reading (suc v) (suc v) m S) (is_following n false sessions seq s H.1)
          (rows.lease_row (member_of ms k lt) (shared_entries m) 0 (led ms lt nz (suc v) (readings_of m) sessions seq s) (suc v) refl
          (ap is_some (rows.none_pends (reads (suc v) (readings_of m)) (λ e. let o = S.votes in omega arith))));
      small = small_then _ _ next.versions next.short;
      sends = refl;
      tells = refl;
      grows = quiet longer (suc v) (suc v) _ next (omega (arith, length_longer));
      leaves = (next, record { phase = refl; leader = refl; quorum = refl; lease = refl; waits = refl; next = refl });
    }

    -- ---- the leader

    in_all : (k : ℕ) → k < n → has (firsts n) k ≡ true
    in_all k lt = has_firsts n ms.most k ∙ lt-ltb k n lt

    -- counts who took the lease
    pub counts : (k : ℕ) → 0 < k → k < n → (taken : List ℕ)
        → Heard 0 (said n k (body.LeaseAck (suc v))) longer (Leading (suc v) (suc v) (firsts k) taken)
        (Leading (suc v) (suc v) (firsts (suc k)) taken) [] [] longer
    counts k pos below taken lt m s H = let next = same (suc v) (suc v) m H.0 in let H1 = H.1 in record {
      y = _;
      is = as_seen _ _ _ _ _ _ _ _ (reading (suc v) (suc v) m H.0) (is_active n (firsts k) taken s H.1)
          (rows.lease_ack_row (member_of ms 0 lt) (shared_entries m) 0
          (led_by ms lt (λ e. omega arith) (in_all k below) (suc v) (readings_of m) (firsts k) taken s) (suc v) refl);
      small = small_then _ _ next.versions next.short;
      sends = refl;
      tells = refl;
      grows = quiet longer (suc v) (suc v) _ next (omega (arith, length_longer));
      leaves = (
        next,
        record {
          phase = refl;
          quorum = refl;
          pn = refl;
          acked = one_more k;
          lease = H1.lease;
          queue = refl;
          sessions = refl;
          took = refl;
        },
      );
    }

    -- and who accepted the value
    pub accepts : (k : ℕ) → 0 < k → suc k < n → (o : Origin) (taken : List ℕ)
        → Heard 0 (said n k (body.Accept 100 (suc v))) log (Voting v (firsts k) x o taken)
        (Voting v (firsts (suc k)) x o taken) [] [] log
    accepts k pos below o taken lt m s H = let next = same v (suc v) m H.0 in let H1 = H.1 in record {
      y = _;
      is = as_seen _ _ _ _ _ _ _ _ (reading v (suc v) m H.0) (is_updating n (firsts k) x o taken s H.1)
          (rows.accept_row (member_of ms 0 lt) (shared_entries m) 0 (inr refl)
          (led_in_update ms lt (λ e. omega arith) (in_all k (omega arith)) v (readings_of m) (firsts k) x o taken s) 100 (suc v)
          refl refl (ap (λ (q : List Bool). are_within n (firsts n) q) (one_more k) ∙ covers_not n (suc k) ms.most below));
      small = small_then _ _ next.versions next.short;
      sends = refl;
      tells = refl;
      grows = quiet log v (suc v) _ next (omega arith);
      leaves = (
        next,
        record {
          phase = refl;
          quorum = refl;
          pn = refl;
          accepts = one_more k;
          values = refl;
          origin = refl;
          queue = refl;
          sessions = refl;
          took = refl;
        },
      );
    }

    epoch_kept : (m : Store) → epoch_of (after (ops_of (Learn (suc v) x)) (reads v (readings_of m))) ≡ 2
    epoch_kept m =
        ap (λ (o : Own). epoch_or_first o.epoch) (learned_own (suc v) (x ∷ []) (reads v (readings_of m))
        (value_spares (view_at log v) V.command V.asked x V.made, tt))

    -- until all did
    pub completes : (k : ℕ) → 0 < k → suc k ≡ n → (o : Origin) (taken : List ℕ)
        → Heard 0 (said n k (body.Accept 100 (suc v))) log (Voting v (firsts k) x o taken)
        (Leading (suc v) (suc v) (firsts 1) taken)
        (to_each n (body.Commit (suc v) (x ∷ [])) (range_with_len 1 (n - 1))
        ++ (to_each n (body.Lease (suc v)) (range_with_len 1 (n - 1)) ++ routed n o (reply.Done (suc v))))
        (replied o (reply.Done (suc v))) longer
    unfolding be_active extend
    completes k pos whole o taken lt m s H = let next = learned (suc v) m (omega arith) H.0 in record {
      y = _;
      is = as_seen _ _ _ _ _ _ _ _ (reading v (suc v) m H.0) (is_updating n (firsts k) x o taken s H.1)
          (rows.last_accept_row (member_of ms 0 lt) (shared_entries m) 0 (inr refl)
          (led_in_update ms lt (λ e. omega arith) (in_all k (omega arith)) v (readings_of m) (firsts k) x o taken s) 100 (suc v)
          refl refl (ap (λ (q : List Bool). are_within n (firsts n) q) (one_more k ∙ ap firsts whole) ∙ covers_all n ms.most) x refl
          ∙ rows.commits (member_of ms 0 lt) 0 x _ (omega arith));
      small = small_then _ _ next.versions next.short;
      sends = all_are_sent ms lt (body.Commit (suc v) (x ∷ [])) (body.Lease (suc v)) o (reply.Done (suc v)) _
          (epoch_kept m);
      tells = all_are_told ms lt (body.Commit (suc v) (x ∷ [])) (body.Lease (suc v)) o (reply.Done (suc v))
          (epoch_of (after (ops_of (Learn (suc v) x)) (reads v (readings_of m))))
          (members (member_of ms 0 lt) (firsts n));
      grows = adds_one log x V (suc v) _ next;
      leaves = (
        next,
        record {
          phase = refl;
          quorum = refl;
          pn = refl;
          acked = only_first;
          lease = refl;
          queue = refl;
          sessions = refl;
          took = refl;
        },
      );
    }

    -- it begins a value if there are others
    abbrev Arrives : (came : Input) (acks : List Bool) (taken later : List ℕ) (o : Origin) → Type 0
    Arrives came acks taken later o =
        Leads_to ms longer (short log x V) (values log x V) log v v (omega arith) came acks
        taken later c o

    abbrev pub HeardInput : Input → (from to : Role) → List Envelope → List Answer → List (List ℕ) → Type 0
    HeardInput came from to out said more =
        (lt : ltb 0 n ≡ true) (m : Store) (s : State) → Holds ms longer from m s
        → Does ms Role (Holds ms longer) 0 lt m s came log to out said more

    makes : (o : Origin) → rank_of o ≡ V.asked → (p : ℕ) (m : Store) → Stored longer v p m
        → (lt : ltb 0 n ≡ true) → value (reads v (readings_of m)) c (asked_of (member_of ms 0 lt) o) ≡ Ok x
    makes o from p m S lt =
        ap (λ (w : Readings). value w c (asked_of (member_of ms 0 lt) o)) (sym (reading v p m S))
        ∙ ap (λ (a : ℕ). value (readings_of m) c a) (asked_rank ms lt (reply.Done 0) o ∙ from)
        ∙ value_is log x V m S.versions

    fits_service : (p : ℕ) (m : Store) → Stored longer v p m
        → suc (service_last (readings_of m) (service_of c)) ≤ 2 ^ 62
    fits_service p m S =
        service_fits longer (short log x V) (values log x V) v p m S V.room (service_of c)

    not_alone : (lt : ltb 0 n ≡ true) → 1 < n → is_empty (members (member_of ms 0 lt) (firsts n)) ≡ false
    not_alone lt several = ap (λ (ks : List ℕ). is_empty ks) (others_are n ms.most (omega arith)) ∙ by (n - 1) refl
      where
        by : (c : ℕ) → c ≡ n - 1 → is_empty (range_with_len 1 c) ≡ false
        by zero e = absurd (omega arith)
        by (suc c) e = refl

    is_alone : (lt : ltb 0 n ≡ true) → n ≡ 1 → is_empty (members (member_of ms 0 lt) (firsts n)) ≡ true
    is_alone lt one =
        ap (λ (ks : List ℕ). is_empty ks) (others_are n ms.most (omega arith))
        ∙ ap (λ (c : ℕ). is_empty (range_with_len 1 c)) (let e : n - 1 ≡ 0 = omega arith in e)

    abbrev leads : Store → State → (acks : List Bool) (later : List ℕ) → Course
    leads m s acks later = at_rest (reads v (readings_of m)) (active n acks later s)

    -- with a lease the leader makes a value of it
    proposed : (m : Store) (s : State) (acks : List Bool) (later : List ℕ) (o : Origin) (lt : ltb 0 n ≡ true)
        → is_too_long c ≡ false → stands s.leader.lease 0 ≡ true → suc (service_last (readings_of m) (service_of c)) ≤ 2 ^ 62
        → value (reads v (readings_of m)) c (asked_of (member_of ms 0 lt) o) ≡ Ok x
        → at_leader (member_of ms 0 lt) 0 c o (leads m s acks later)
        ≡ begin_made (member_of ms 0 lt) 0 o (Ok x) (leads m s acks later)
    proposed m s acks later o lt short lease fits made =
        rows.proposes (member_of ms 0 lt) 0 c o (leads m s acks later) short (ap (λ b. b && true) (standing n s lease)) fits made

    pub proposes : (came : Input) (acks : List Bool) (taken later : List ℕ) (o : Origin) → is_too_long c ≡ false
        → rank_of o ≡ V.asked → 1 < n → Arrives came acks taken later o
        → HeardInput came (Leading v v acks taken) (Voting v (firsts 1) x o later)
        (to_each n (body.Begin 100 (suc v) x) (range_with_len 1 (n - 1))) [] log
    unfolding begin_with
    proposes came acks taken later o small_text from several comes lt m s H =
        let S = H.0 in let next = voted v m S in let H1 = H.1 in record {
          y = _;
          is = as_seen _ _ _ _ _ _ _ _ (reading v v m S) (is_active n acks taken s H1)
              (comes lt m s H1.lease
              ∙ proposed m s acks later o lt small_text H1.lease (fits_service v m S) (makes o from v m S lt)
              ∙ rows.begins (member_of ms 0 lt) 0 stage.Updating x (Some o) (leads m s acks later) (omega arith) (not_alone lt several));
          small = small_then _ _ next.versions next.short;
          sends = (λ i. messages_of (map (message_to (member_of ms 0 lt) 2 (body.Begin 100 (suc v) x))
              (others_are n ms.most (omega arith) i)))
              ∙ sent_to_each (member_of ms 0 lt) 2 (body.Begin 100 (suc v) x) (range_with_len 1 (n - 1));
          tells = tells_none 0 (member_of ms 0 lt) 2 (body.Begin 100 (suc v) x)
              (members (member_of ms 0 lt) (firsts n));
          grows = quiet log v (suc v) _ next (omega arith);
          leaves = (
            next,
            record {
              phase = refl;
              quorum = refl;
              pn = refl;
              accepts = only_first;
              values = refl;
              origin = refl;
              queue = refl;
              sessions = refl;
              took = refl;
            },
          );
        }

    -- and commits it at once if there are none
    pub commits_alone : (came : Input) (acks : List Bool) (taken later : List ℕ) (o : Origin)
        → is_too_long c ≡ false → rank_of o ≡ V.asked → n ≡ 1 → Arrives came acks taken later o
        → HeardInput came (Leading v v acks taken) (Leading (suc v) (suc v) acks later)
        (routed n o (reply.Done (suc v))) (replied o (reply.Done (suc v))) longer
    commits_alone came acks taken later o small_text from one comes lt m s H =
        let S = H.0 in let next = learned v m (omega arith) S in let H1 = H.1 in record {
          y = _;
          is = as_seen _ _ _ _ _ _ _ _ (reading v v m S) (is_active n acks taken s H1)
              (comes lt m s H1.lease
              ∙ proposed m s acks later o lt small_text H1.lease (fits_service v m S) (makes o from v m S lt)
              ∙ rows.begins_alone (member_of ms 0 lt) 0 stage.Updating x (Some o) (leads m s acks later) (omega arith) (is_alone lt one));
          small = small_then _ _ next.versions next.short;
          sends = ap (λ (e : ℕ). messages_of (answer_to (member_of ms 0 lt) e o (reply.Done (suc v)) ∷ []))
              (epoch_kept m)
              ∙ one_sent ms lt (reply.Done (suc v)) o;
          tells = one_told ms lt (reply.Done (suc v))
              (epoch_of (after (ops_of (Learn (suc v) x)) (reads v (readings_of m)))) o;
          grows = adds_one log x V (suc v) _ next;
          leaves = (
            next,
            record {
              phase = refl;
              quorum = refl;
              pn = refl;
              acked = refl;
              lease = H1.lease;
              queue = refl;
              sessions = refl;
              took = refl;
            },
          );
        }
