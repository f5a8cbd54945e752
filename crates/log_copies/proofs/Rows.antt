-- What an event leaves of the versions of the log that an unmarked monitor has, and what it sends: the rows of elections, of values and
-- of clients.
use Rattle.law_names.proofs.Runs.{AllValues}
use Rattle.law_names.proofs.Table.{Body, Change, Command, CommandRefused, Course, Epoch, MOST_WAITING, Me, Op, Origin, Phase, Promise, Readings, Reply, Scores, Sent, Session, State, Store, Told, Vote, Waiting, Which, adopt, all_answered, answer_to, are_within, ask, asked_of, at_leader, at_peon, begin_made, bootstrap, cancel, change, clients_are, commit_any, count_ack, counts, elect, election_ends, elector_is, epoch_of, has, has_queue, hear_accept, hear_ack, hear_begin, hear_collect, hear_commit, hear_forward, hear_last, hear_propose, hear_victory, hear_whole, is_allowed, is_empty, is_even, is_leading, is_majority, is_one_of, is_peon, is_standing, is_too_long, is_whole, last_answer, leader_is, learn, may_defer, may_propose, members, merge, message_to, news, news_from, note, note_pending, of_leader, of_member, promise, promise_of, propose, propose_due, propose_first, propose_next, quorum_of, refusal, same_phase, send, service_last, service_of, stands_before, table_or, too_long, value, votes, wait_under, weigh, with_rank}
use Rattle.log_copies.proofs.Acts.{Has, HasAt, Then, adopts, and_then, begins, bootstraps, by_test, changes, changes_if, collects, commits, done, elects, learns, says_answer, says_one, says_reply, settles, where_fits, wins, within}
use Rattle.log_copies.proofs.Matching.{news_begin, news_versions}
use Rattle.log_copies.proofs.Sending.{BodyMatches, ReplyMatches, answer_tells}
use Rattle.log_model.proofs.Records.{AreVersions, IsVersion}
use Rattle.mon_bytes.specs.declared.command.CommandRefused.TheVariants as refused
use Rattle.mon_msg.specs.Protocol.Commands.{hand_on}
use Rattle.mon_msg.specs.Protocol.Leader.{hear_answer}
use Rattle.mon_msg.specs.Protocol.Peon.{answer_collect}
use Rattle.mon_msg.specs.declared.paxos.LeaderStage.TheVariants as stage
use Rattle.mon_msg.specs.declared.plan.Origin.TheVariants as origin
use Rattle.mon_msg.specs.declared.plan.Sent.TheVariants as sent
use Rattle.mon_types.specs.declared.names.Which.TheVariants as which
use Rattle.mon_wire.specs.declared.body.Body.TheVariants as body
use Rattle.mon_wire.specs.declared.phase.Phase.TheVariants as phase
use Rattle.mon_wire.specs.declared.reply.Reply.TheVariants as reply
use Rattle.std.proofs.Common.{Bool, Err, IfSome, List, None, Ok, Option, Result, Some, [], ap, arith, cond, eqb, false, is_some, leb, length, ltb, not, refl, slice_index_or, slice_set, subst, suc, sym, true, ℕ, ◌&&◌, ◌++◌, ◌+◌, ◌<◌, ◌^◌, ◌||◌, ◌∙◌, ◌∷◌, ◌≡◌, ◌≤◌}
use Rattle.std.proofs.lemmas.Bool.{and_parts, eqb-true, ltb-false, not-false, or_parts}

-- ---- walking a row

pub branch : {A : Type 0} {Q : A → Type 0} {b : Bool} {x y : Result A Which} → (b ≡ true → Then Q x) → (b ≡ false → Then Q y) → Then Q (cond b x y)
branch {Q = Q} {b = b} {x = x} {y = y} h k = by_test Q b x y h k

pub both : {A : Type 0} {P Q : A → Type 0} {r : Result A Which} → Then P r → Then Q r → Then (λ x. P x × Q x) r
both h k = record { holds = λ x e. (h.holds x e, k.holds x e) }

-- ---- phases of a leader

pub leads_collecting : (p : Phase) → same_phase p phase.Collecting ≡ true → is_leading p ≡ true
leads_collecting phase.Collecting e = refl
leads_collecting p e = absurd cc

pub leads_active : (p : Phase) → same_phase p phase.Active ≡ true → is_leading p ≡ true
leads_active phase.Active e = refl
leads_active p e = absurd cc

abbrev all_leading : List Phase
all_leading = phase.Collecting ∷ phase.Previous ∷ phase.Active ∷ phase.Updating ∷ []

pub leads_any : (p : Phase) → is_one_of all_leading p ≡ true → is_leading p ≡ true
leads_any phase.Collecting e = refl
leads_any phase.Previous e = refl
leads_any phase.Active e = refl
leads_any phase.Updating e = refl
leads_any p e = absurd cc

-- a set of monitors that isn't the own one alone
abbrev pub HasOthers : Me → List Bool → Type 0
HasOthers me q = is_empty (members me q) ≡ false

module _ (log : List (List ℕ)) (fits : length log ≤ 2 ^ 62) (all : AllValues log) (m : Store) (me : Me) (several : 1 < me.member.monitors) (now : ℕ) where
  abbrev pub OnLog : Course → Type 0
  OnLog x = Has log fits all m x

  ok : {x : Course} → OnLog x → Then OnLog (Ok x)
  ok {x} H = done OnLog x H

  -- ---- and something is sent

  pub sends : {w : Readings} {cs : List Change} {out : List Sent} (e : ℕ) (b : Body) (to : ℕ) → BodyMatches log b → HasAt log fits all m w cs out → HasAt log fits all m w cs (out ++ message_to me e b to ∷ [])
  sends e b to h H = says_one log fits all m me e b to h H

  tells_answer : {w : Readings} {cs : List Change} {out : List Sent} (e : ℕ) (o : Origin) (r : Reply) → ReplyMatches log r → HasAt log fits all m w cs out → HasAt log fits all m w cs (out ++ answer_to me e o r ∷ [])
  tells_answer e o r h H = says_answer log fits all m me e o r h H

  pub tells_reply : {w : Readings} {cs : List Change} {out : List Sent} (session : Session) (r : Reply) → ReplyMatches log r → HasAt log fits all m w cs out → HasAt log fits all m w cs (out ++ sent.Reply session r ∷ [])
  tells_reply session r h H = says_reply log fits all m session r h H

  pub boots : (x : Course) → OnLog x → Then OnLog (bootstrap me now x)
  boots x H = bootstraps log fits all m me several now x H

  pub anew_votes : (x : Course) → OnLog x → Then OnLog (elect me now x)
  anew_votes x H = elects log fits all m me several now x H

  -- ---- elections

  weighs : (table : Scores) (f : ℕ) (x : Course) → OnLog x → Then OnLog (weigh me now table f x)
  weighs table f x H =
      branch {b = is_allowed me f && stands_before me table f me.member.rank} (λ t. branch {b = may_defer me table f x.state.elector.deferred} (λ u. done OnLog _ (sends (epoch_of x.readings) body.Ack f tt H)) (λ u. ok H))
      (λ t. branch {b = not (is_some x.state.elector.deferred) && not x.state.elector.candidate} (λ u. anew_votes x H) (λ u. ok H))

  pub proposed : (f e : ℕ) (table : Option Scores) (x : Course) → OnLog x → Then OnLog (hear_propose me now f e table x)
  unfolding hear_propose
  proposed f e table x H =
      branch {b = not (votes x.state.phase) || is_even e} (λ t. ok H) (λ t. branch {b = ltb e (epoch_of x.readings)}
      (λ u. branch {b = is_even (epoch_of x.readings) && not (has (quorum_of x.state) f)} (λ v. anew_votes x H) (λ v. ok H))
      (λ u. branch {b = ltb (epoch_of x.readings) e} (λ v. weighs (table_or table x.state.elector.scores) f (merge table (adopt now e x)) (adopts log fits all m me several now e x H))
      (λ v. weighs (table_or table x.state.elector.scores) f (merge table x) H)))

  counts_ack : (f : ℕ) (x : Course) → (is_whole me (with_rank x.state.elector.acked f) ≡ true → HasOthers me (with_rank x.state.elector.acked f)) → OnLog x → Then OnLog (count_ack me now f x)
  counts_ack f x others H =
      let q = with_rank x.state.elector.acked f in
      branch {b = is_whole me q && is_allowed me me.member.rank}
      (λ t. wins log fits all m me several now q (elector_is (record x.state.elector { acked = q }) x) (others (and_parts (is_whole me q) (is_allowed me me.member.rank) t).0) H) (λ t. ok H)

  pub acked : (f e : ℕ) (x : Course)
      → (votes x.state.phase ≡ true → is_even (epoch_of x.readings) ≡ false → is_whole me (with_rank x.state.elector.acked f) ≡ true → HasOthers me (with_rank x.state.elector.acked f))
      → OnLog x → Then OnLog (hear_ack me now f e x)
  unfolding hear_ack
  acked f e x others H =
      branch {b = not (votes x.state.phase) || is_even e || ltb e (epoch_of x.readings)} (λ t. ok H) (λ t. branch {b = ltb (epoch_of x.readings) e}
      (λ u. anew_votes (adopt now e x) (adopts log fits all m me several now e x H)) (λ u. branch {b = x.state.elector.candidate} (λ v. counts_ack f x (in_epoch t u) H) (λ v. ok H)))
    where
      in_epoch : (not (votes x.state.phase) || is_even e || ltb e (epoch_of x.readings)) ≡ false → ltb (epoch_of x.readings) e ≡ false
          → is_whole me (with_rank x.state.elector.acked f) ≡ true → HasOthers me (with_rank x.state.elector.acked f)
      in_epoch t u =
          let p = or_parts (not (votes x.state.phase) || is_even e) (ltb e (epoch_of x.readings)) t in
          let q = or_parts (not (votes x.state.phase)) (is_even e) p.0 in
          let low = ltb-false e (epoch_of x.readings) p.1 in
          let high = ltb-false (epoch_of x.readings) e u in
          let same : epoch_of x.readings ≡ e = omega arith in
          others (not-false _ q.0) (ap is_even same ∙ q.1)

  pub election_over : (x : Course) → (same_phase x.state.phase phase.Electing ≡ true → is_majority me.member.monitors x.state.elector.acked ≡ true → HasOthers me x.state.elector.acked)
      → OnLog x → Then OnLog (election_ends me now x)
  unfolding election_ends
  election_over x others H =
      let may_win = is_majority me.member.monitors x.state.elector.acked in
      branch {b = not (same_phase x.state.phase phase.Electing)} (λ t. ok H) (λ t. branch {b = x.state.elector.candidate && is_allowed me me.member.rank && may_win}
      (λ u. wins log fits all m me several now x.state.elector.acked x (others (not-false _ t) (and_parts (x.state.elector.candidate && is_allowed me me.member.rank) may_win u).1) H) (λ u. anew_votes x H))

  pub victory : (f e : ℕ) (q : List Bool) (x : Course) → OnLog x → Then OnLog (hear_victory me now f e q x)
  unfolding hear_victory
  victory f e q x H =
      let K : OnLog (change (Epoch e) x) = changes log fits all m (Epoch e) x.readings x.changes tt H in
      branch {b = not (votes x.state.phase) || not (is_even e) || leb e (epoch_of x.readings)} (λ t. ok H) (λ t. branch {b = not (eqb e (suc (epoch_of x.readings)))}
      (λ u. anew_votes (change (Epoch e) x) K) (λ u. branch {b = has q me.member.rank && has q f && is_majority me.member.monitors q} (λ v. ok K) (λ v. ok H)))

  -- ---- a peon

  promises : (f pn last : ℕ) (x : Course) → OnLog x → Then OnLog (answer_collect me f pn last x)
  promises f pn last x H =
      let y = promise pn (cancel x) in
      let K : OnLog y = changes_if log fits all m (ltb (promise_of x.readings) pn) (Promise pn) (cancel x) tt H in
      where_fits OnLog which.Version (suc last) (λ from. Ok (send me f (last_answer me.member.monitors y.readings from) y))
      (done OnLog _ (sends (epoch_of y.readings) (last_answer me.member.monitors y.readings (suc last)) f (answer_tells log fits all me.member.monitors y.readings (within log fits all m K) K.keeps last) K))

  pub collect_comes : (f e pn first last : ℕ) (x : Course) → OnLog x → Then OnLog (hear_collect me now f e pn first last x)
  unfolding hear_collect
  collect_comes f e pn first last x H =
      branch {b = not (of_leader f e x)} (λ t. ok H) (λ t. branch {b = ltb (suc x.readings.last) first} (λ u. boots x H) (λ u. promises f pn last x H))

  pub begin_comes : (f e pn v : ℕ) (value : List Op) (x : Course) → OnLog x → Then OnLog (hear_begin me f e pn v value x)
  unfolding hear_begin
  begin_comes f e pn v value x H = branch {b = not (of_leader f e x && eqb pn (promise_of x.readings) && eqb v (suc x.readings.last))} (λ t. ok H) (λ t. done OnLog _
      (sends (epoch_of x.readings) (body.Accept pn v) f tt (changes log fits all m (Vote v pn value) x.readings x.changes (next (of_leader f e x && eqb pn (promise_of x.readings)) t) H)))
    where
      next : (a : Bool) → not (a && eqb v (suc x.readings.last)) ≡ false → v ≡ suc x.readings.last
      next true t = eqb-true v (suc x.readings.last) (turned (eqb v (suc x.readings.last)) t)
        where
          turned : (b : Bool) → not b ≡ false → b ≡ true
          turned true g = refl
          turned false g = absurd cc
      next false t = absurd cc

  pub commit_comes : (f e from : ℕ) (values : List (List Op)) (x : Course) → AreVersions log from values → OnLog x → Then OnLog (hear_commit f e from values x)
  unfolding hear_commit
  commit_comes f e from values x W H =
      branch {b = not (of_leader f e x) || ltb (suc x.readings.last) from} (λ t. ok H) (λ t. learns log fits all m (suc x.readings.last) (news x.readings.last from values) x refl (news_versions log x.readings.last from values (low (not (of_leader f e x)) t) W) H)
    where
      low : (a : Bool) → (a || ltb (suc x.readings.last) from) ≡ false → from ≤ suc x.readings.last
      low true t = absurd cc
      low false t = ltb-false (suc x.readings.last) from t

  -- ---- a leader

  -- the leader isn't alone in its quorum
  abbrev pub Leads : Course → Type 0
  Leads x = OnLog x × HasOthers me x.state.leader.quorum

  learn_state : (v : ℕ) (values : List (List Op)) (x : Course) → Then (λ y. y.state ≡ x.state) (learn v values x)
  unfolding learn
  learn_state v [] x = done (λ y. y.state ≡ x.state) x refl
  learn_state v (value ∷ values) x = where_fits (λ y. y.state ≡ x.state) which.Version (v + length values) _ (done (λ y. y.state ≡ x.state) _ refl)

  notes : (f last : ℕ) (told : Option Told) (x : Course) → Leads x → Then Leads (note_pending f last told x)
  notes f last None x H = done Leads _ (H.0, H.1)
  notes f last (Some told) x H = where_fits Leads which.Version (suc last) _ (done Leads _ (H.0, H.1))

  hears_whole : (f last : ℕ) (told : Option Told) (x : Course) → Leads x → Then OnLog (hear_whole me now f last told x)
  hears_whole f last told x H = and_then Leads OnLog (note f last told x) _ (notes f last (counts told) x H) (λ y K. branch {b = all_answered me y} (λ t. settles log fits all m me several now y K.1 K.0) (λ t. ok K.0))

  answers : (f last : ℕ) (whole : Bool) (from : ℕ) (values : List (List Op)) (told : Option Told) (x : Course) → from ≤ suc x.readings.last → AreVersions log from values → Leads x
      → Then OnLog (hear_answer me now f last whole from values told x)
  answers f last whole from values told x low W H =
      and_then (λ y. OnLog y × (y.state ≡ x.state)) OnLog (learn (news_from x.readings.last from) (news x.readings.last from values) x) _
      (both (learns log fits all m (news_from x.readings.last from) (news x.readings.last from values) x (news_begin x.readings.last from low) in_order H.0) (learn_state _ _ x))
      (λ y K. branch {b = whole} (λ t. hears_whole f last told y (K.0, subst (λ (s : State). HasOthers me s.leader.quorum) (sym K.1) H.1))
      (λ t. collects log fits all m me several now y.state.leader.quorum 0 y (subst (λ (s : State). HasOthers me s.leader.quorum) (sym K.1) H.1) K.0))
    where
      in_order : AreVersions log (news_from x.readings.last from) (news x.readings.last from values)
      in_order = subst (λ (v : ℕ). AreVersions log v (news x.readings.last from values)) (sym (news_begin x.readings.last from low)) (news_versions log x.readings.last from values low W)

  pub last_comes : (f e pn first last : ℕ) (whole : Bool) (from : ℕ) (values : List (List Op)) (told : Option Told) (x : Course) → (is_leading x.state.phase ≡ true → HasOthers me x.state.leader.quorum)
      → from ≤ suc x.readings.last → AreVersions log from values → OnLog x → Then OnLog (hear_last me now f e pn first last whole from values told x)
  unfolding hear_last
  last_comes f e pn first last whole from values told x leads low W H =
      branch {b = not (of_member (phase.Collecting ∷ []) f e x)} (λ t. ok H) (λ t.
      let others = leads (leads_collecting x.state.phase (collecting (same_phase x.state.phase phase.Collecting) (eqb e (epoch_of x.readings)) (has x.state.leader.quorum f) t)) in
      branch {b = ltb x.state.leader.pn pn} (λ u. collects log fits all m me several now x.state.leader.quorum pn x others H)
      (λ u. branch {b = ltb pn x.state.leader.pn} (λ v. ok H) (λ v. branch {b = ltb (suc x.readings.last) first && ltb x.readings.last last} (λ k. boots x H)
      (λ k. answers f last whole from values told x low W (H, others)))))
    where
      collecting : (b rest more : Bool) → not ((b || false) && rest && more) ≡ false → b ≡ true
      collecting true rest more e = refl
      collecting false rest more e = absurd cc

  commits_any : (value : Option (List Op)) (x : Course) → IfSome value (λ v. IsVersion log (suc x.readings.last) v) → OnLog x → Then OnLog (commit_any me now value x)
  commits_any None x V H = ok H
  commits_any (Some value) x V H = commits log fits all m me several now value x V H

  pub accept_comes : (f e pn v : ℕ) (x : Course)
      → (are_within me.member.monitors x.state.leader.quorum (with_rank x.state.leader.accepted f) ≡ true → IfSome x.state.leader.value (λ value. IsVersion log (suc x.readings.last) value))
      → OnLog x → Then OnLog (hear_accept me now f e pn v x)
  unfolding hear_accept
  accept_comes f e pn v x chosen H =
      let y = leader_is (record x.state.leader { accepted = with_rank x.state.leader.accepted f }) x in
      branch {b = not (of_member (phase.Previous ∷ phase.Updating ∷ []) f e x && eqb pn x.state.leader.pn && eqb v (suc x.readings.last))} (λ t. ok H)
      (λ t. branch {b = are_within me.member.monitors x.state.leader.quorum (with_rank x.state.leader.accepted f)} (λ u. commits_any x.state.leader.value y (chosen u) H) (λ u. ok H))

  -- ---- commands

  made_value : (o : Origin) (r : Result (List Op) CommandRefused) (x : Course) → HasOthers me x.state.leader.quorum → OnLog x → Then OnLog (begin_made me now o r x)
  made_value o (Ok value) x others H = begins log fits all m me several now stage.Updating value (Some o) x others H
  made_value o (Err e) x others H = done OnLog _ (tells_answer (epoch_of x.readings) o (refusal e) (is_told e) H)
    where
      is_told : (e : CommandRefused) → ReplyMatches log (refusal e)
      is_told refused.NoSuch = tt
      is_told (refused.TooLong len most) = tt
      is_told (refused.MapFull would_be) = tt
      is_told refused.OutOfMemory = tt

  proposes : (c : Command) (o : Origin) (x : Course) → HasOthers me x.state.leader.quorum → OnLog x → Then OnLog (propose me now c o x)
  unfolding propose
  proposes c o x others H =
      where_fits OnLog which.Version (suc (service_last x.readings (service_of c))) (λ _. begin_made me now o (value x.readings c (asked_of me o)) x) (made_value o (value x.readings c (asked_of me o)) x others H)

  leads_command : (c : Command) (o : Origin) (x : Course) → HasOthers me x.state.leader.quorum → OnLog x → Then OnLog (at_leader me now c o x)
  leads_command c o x others H =
      branch {b = is_too_long c} (λ t. done OnLog _ (tells_answer (epoch_of x.readings) o (too_long c) tt H)) (λ t. branch {b = may_propose me now x && not (has_queue x)} (λ u. proposes c o x others H)
      (λ u. branch {b = leb MOST_WAITING (length x.state.clients.queue)} (λ v. done OnLog _ (tells_answer (epoch_of x.readings) o (reply.Busy MOST_WAITING) tt H)) (λ v. ok H)))

  hands_on : (c : Command) (s : Session) (x : Course) → OnLog x → Then OnLog (hand_on me c s x)
  hands_on c s x H =
      where_fits OnLog which.Seq x.state.clients.next_seq (λ seq. Ok (send me x.state.peon.leader (body.Forward seq c) (wait_under seq s x)))
      (done OnLog _ (sends (epoch_of x.readings) (body.Forward x.state.clients.next_seq c) x.state.peon.leader tt H))

  peon_command : (c : Command) (s : Session) (x : Course) → OnLog x → Then OnLog (at_peon me c s x)
  peon_command c s x H =
      branch {b = is_too_long c} (λ t. done OnLog _ (tells_reply s (too_long c) tt H))
      (λ t. branch {b = leb MOST_WAITING (length x.state.clients.sessions)} (λ u. done OnLog _ (tells_reply s (reply.Busy MOST_WAITING) tt H)) (λ u. hands_on c s x H))

  pub asked : (s : Session) (c : Command) (x : Course) → (is_leading x.state.phase ≡ true → HasOthers me x.state.leader.quorum) → OnLog x → Then OnLog (ask me now s c x)
  unfolding ask
  asked s c x leads H = branch {b = is_leading x.state.phase} (λ t. leads_command c (origin.Session s) x (leads t) H) (λ t. branch {b = is_peon x.state.phase} (λ u. peon_command c s x H) (λ u. done OnLog _ (tells_reply s reply.Unavailable tt H)))

  pub forwarded : (f e seq : ℕ) (c : Command) (x : Course) → (is_leading x.state.phase ≡ true → HasOthers me x.state.leader.quorum) → OnLog x → Then OnLog (hear_forward me now f e seq c x)
  unfolding hear_forward
  forwarded f e seq c x leads H =
      let y = clients_are (record x.state.clients { taken = slice_set x.state.clients.taken f seq }) x in
      let new = ltb (slice_index_or x.state.clients.taken f 0) seq in
      branch {b = not (of_member all_leading f e x && new)} (λ t. ok H)
      (λ t. leads_command c (origin.Forwarded f seq) y (leads (leads_any x.state.phase (member (is_one_of all_leading x.state.phase) (eqb e (epoch_of x.readings)) (has x.state.leader.quorum f) new t))) H)
    where
      member : (b rest more last : Bool) → not (b && rest && more && last) ≡ false → b ≡ true
      member true rest more last e = refl
      member false rest more last e = absurd cc

  next_command : (ws : List Waiting) (x : Course) → HasOthers me x.state.leader.quorum → OnLog x → Then OnLog (propose_first me now ws x)
  next_command [] x others H = ok H
  next_command (w ∷ ws) x others H = proposes w.command w.origin (clients_are (record x.state.clients { queue = ws }) x) others H

  pub proposes_due : (x : Course) → (is_leading x.state.phase ≡ true → HasOthers me x.state.leader.quorum) → OnLog x → Then OnLog (propose_due me now x)
  unfolding propose_due propose_next
  proposes_due x leads H = branch {b = may_propose me now x} (λ t. next_command x.state.clients.queue x (leads (leads_active x.state.phase (and_parts (same_phase x.state.phase phase.Active) (is_standing me now x.state) t).0)) H) (λ t. ok H)
