-- A run that rests is calm.
use Rattle.calm_command.proofs.Sets.{firsts, has_firsts}
use Rattle.calm_command.specs.Resting.{IsResting, RestsAt, Stored}
use Rattle.law_names.proofs.Runs.{Answer, Event, HasAll, IsCalm, Monitors, Order, Replied, World, answers_of, log_of, reply_over, run, session, value_over, with_value}
use Rattle.law_names.proofs.Table.{CommandRefused, Op, Store, epoch_or_first, has, number, or_zero, readings_of, refusal, text}
use Rattle.log_model.proofs.Lists.{length_push}
use Rattle.mon_bytes.specs.declared.command.CommandRefused.TheVariants as refused
use Rattle.mon_kv.specs.Readers.{pending}
use Rattle.mon_tx.specs.declared.key.Area.TheVariants as area
use Rattle.mon_tx.specs.declared.key.Key.TheVariants as key
use Rattle.quorum_model.specs.CalmRun.{AreAll, IsCalmAt, is_done}
use Rattle.std.proofs.Common.{Bool, Err, List, Ok, Result, [], ap, arith, cond, false, filter, length, map, refl, slice_index_or, subst, suc, sym, true, zero, ℕ, ◌++◌, ◌+◌, ◌<◌, ◌∙◌, ◌∷◌, ◌≡◌}
use Rattle.std.proofs.lemmas.Bool.{ne_eqb}

-- ---- how many are done

abbrev dones : List Answer → ℕ
dones those = length (filter (λ (a : Answer). is_done a.2) those)

abbrev as_answer : Replied → Answer
as_answer r = (r.rank, r.session, r.reply)

done_replies : (rs : List Replied) → length (filter (λ (r : Replied). is_done r.reply) rs) ≡ dones (map as_answer rs)
done_replies [] = refl
done_replies (r ∷ rs) = by (is_done r.reply) (done_replies rs)
  where
    by : (b : Bool) → length (filter (λ (r : Replied). is_done r.reply) rs) ≡ dones (map as_answer rs)
        → length (cond b (r ∷ filter (λ (r : Replied). is_done r.reply) rs)
        (filter (λ (r : Replied). is_done r.reply) rs)) ≡ length (cond b
        (as_answer r ∷ filter (λ (a : Answer). is_done a.2) (map as_answer rs))
        (filter (λ (a : Answer). is_done a.2) (map as_answer rs)))
    by true ih = ap suc ih
    by false ih = ih

not_done : (e : CommandRefused) → is_done (refusal e) ≡ false
not_done refused.NoSuch = refl
not_done (refused.TooLong len most) = refl
not_done (refused.MapFull size) = refl
not_done refused.OutOfMemory = refl

done_commands : (j : ℕ) (log : List (List ℕ)) (cs : List Order)
    → dones (answers_of j log cs) + length log ≡ length (log_of log cs)
unfolding answers_of log_of
done_commands j log [] = omega arith
done_commands j log (c ∷ cs) = by (value_over log c) (λ l. done_commands (suc j) l cs)
  where
    by : (r : Result (List Op) CommandRefused)
        → ((l : List (List ℕ)) → dones (answers_of (suc j) l cs) + length l ≡ length (log_of l cs))
        → length (cond (is_done (reply_over log r)) ((c.0, session j, reply_over log r)
        ∷ filter (λ (a : Answer). is_done a.2) (answers_of (suc j) (with_value log r) cs))
        (filter (λ (a : Answer). is_done a.2) (answers_of (suc j) (with_value log r) cs))) + length log
        ≡ length (log_of (with_value log r) cs)
    by (Ok x) ih = let h = ih (log ++ text x ∷ []) in omega (arith, length_push log (text x))
    by (Err e) ih = let h = ih log in rw (not_done e) h

module _ (ms : Monitors) where
  abbrev n : ℕ
  n = ms.count

  has_all : (log : List (List ℕ)) (m : Store) → Stored log (length log) (length log) m → HasAll log m
  unfolding pending readings_of
  has_all log m S = let V = S.versions in record {
    epoch = ap epoch_or_first S.epoch;
    promise = ap or_zero S.promise;
    settled = (let last = V.last in
        let votes = S.votes in
        rw
        (ne_eqb (number m area.Paxos key.PendingV) (number m area.Paxos key.LastCommitted + 1) (λ e. omega arith))
        refl);
    last = V.last;
    folded = V.folded;
  }

  all_ranks : (q : List Bool) → q ≡ firsts n → AreAll n q
  all_ranks q e k = ap (λ (q : List Bool). has q k) e ∙ has_firsts n ms.most k

  module _ (cs : List Order) (events : List Event) (H : IsResting ms cs events) (some : 0 < n) where
    abbrev w : World
    w = run ms events

    abbrev log : List (List ℕ)
    log = log_of [] cs

    lead : RestsAt n log H.taken H.seq 0 (w.store 0) (w.state 0)
    lead = H.each 0 some

    calm_at : (i : ℕ) → i < n → RestsAt n log H.taken H.seq i (w.store i) (w.state i) → IsCalmAt n w lead.state i
    calm_at zero lt R = let L = R.remembers in record {
      state = R.state;
      up = R.up;
      serves = record {
        active = L.phase;
        quorum = all_ranks R.state.leader.quorum L.quorum;
        pn = L.pn;
        lease = L.lease;
        acks = L.acked ∙ sym L.quorum;
        queue = L.queue;
      };
      has = subst (λ (l : List (List ℕ)). HasAll l (w.store 0)) (sym H.log) (has_all log (w.store 0) R.keeps);
      sessions = L.sessions;
      seqs = λ none. absurd (omega arith);
    }
    calm_at (suc i) lt R = let F = R.remembers in let L = lead.remembers in record {
      state = R.state;
      up = R.up;
      serves = record {
        peon = F.phase;
        leader = F.leader;
        quorum = all_ranks R.state.peon.quorum F.quorum;
        lease = F.lease;
      };
      has = subst (λ (l : List (List ℕ)). HasAll l (w.store (suc i))) (sym H.log)
          (has_all log (w.store (suc i)) R.keeps);
      sessions = F.waits;
      seqs = λ other. ap (λ (t : List ℕ). slice_index_or t (suc i) 0 + 1) L.took ∙ H.seqs (suc i) ∙ sym F.next;
    }

    pub is_calm : IsCalm ms cs events
    is_calm = record {
      goes_on = H.goes_on;
      once = H.once;
      leader = lead.state;
      leads = lead.up;
      each = λ i lt. calm_at i lt (H.each i lt);
      log = H.log;
      done = done_replies w.replied
          ∙ ap (λ (l : List Answer). dones l) H.answered
          ∙ (let d = done_commands 1 [] cs in omega arith)
          ∙ ap (λ (l : List (List ℕ)). length l) (sym H.log);
      answered = H.answered;
    }
