-- What monitors send each other of the log.
use Rattle.law_names.proofs.Runs.{AllValues, Keeps}
use Rattle.law_names.proofs.Table.{AllByRecursion, Body, Boot, Cell, Change, Cookie, Copy, Entry, Epoch, Last, Learn, Mark, Me, Numbers, Op, Place as ChunkPlace, Promise, Readings, Record, Reply, Sent, Told, Unmark, Vote, answer_of, chunk, chunk_with, commits_to, commits_with, epoch_of, fits, flat_map, given_entries, given_values, is_complete, is_finished, last_answer, learn_changes, longest, message_to, missed, pending, play, played, promise_of, put, reach, run_from, run_of, sent_values, text, told_of}
use Rattle.log_copies.proofs.Chunks.{ChunkOf}
use Rattle.log_copies.proofs.Matching.{IsTold}
use Rattle.log_copies.specs.Versions.{IsOwnChange}
use Rattle.log_model.proofs.Committed as committed
use Rattle.log_model.proofs.FoldWindows.{keeps_last}
use Rattle.log_model.proofs.Lists.{all_append}
use Rattle.log_model.proofs.Records.{AreVersions, IsVersion, first_versions, keeps_held, run_versions}
use Rattle.mon_msg.proofs.Runs.{longest_is}
use Rattle.mon_msg.specs.Protocol.Answers.{answer_with}
use Rattle.mon_msg.specs.Protocol.Readings.{after}
use Rattle.mon_msg.specs.declared.plan.Sent.TheVariants as sent
use Rattle.mon_tx.specs.declared.key.Area.TheVariants as area
use Rattle.mon_tx.specs.declared.key.Key.TheVariants as key
use Rattle.mon_wire.specs.declared.body.Body.TheVariants as body
use Rattle.mon_wire.specs.declared.reply.Reply.TheVariants as reply
use Rattle.std.proofs.Common.{Bool, List, None, Option, Some, [], ap, arith, cond, false, inl, inr, length, ltb, map, slice_index_or, subst, suc, sym, true, ℕ, ◌&&◌, ◌++◌, ◌+◌, ◌-◌, ◌<◌, ◌^◌, ◌||◌, ◌∙◌, ◌∷◌, ◌≡◌, ◌≤◌, ◌⊎◌}
use Rattle.std.proofs.lemmas.Bool.{cases_lt, cond_both, ne_eqb}

-- what is shown to a client is what a prefix of the log makes
pub record ToldOf (log : List (List ℕ)) (r : Reply) : Type 0 where
  pub version : ℕ
  pub within : version ≤ length log
  pub told : IsTold log version r

abbrev pub ReplyMatches : List (List ℕ) → Reply → Type 0
ReplyMatches log (reply.Shown s paxos version map) = ToldOf log (reply.Shown s paxos version map)
ReplyMatches log (reply.Since s from told more) = ToldOf log (reply.Since s from told more)
ReplyMatches log other = Unit {0}

pub reply_tells : (log : List (List ℕ)) (r : Reply) → ToldOf log r → ReplyMatches log r
reply_tells log (reply.Shown s paxos version map) h = h
reply_tells log (reply.Since s from told more) h = h
reply_tells log other h = tt

-- Sent values are the log's, in order, and so are the values of chunks. No sent last version is beyond the log.
abbrev pub BodyMatches : List (List ℕ) → Body → Type 0
BodyMatches log (body.Last pn first last whole from values pending) = (last ≤ length log) × AreVersions log from values
BodyMatches log (body.Commit from values) = AreVersions log from values
BodyMatches log (body.ProbeReply quorum first last) = last ≤ length log
BodyMatches log (body.Collect pn first last) = last ≤ length log
BodyMatches log (body.Lease last) = last ≤ length log
BodyMatches log (body.LeaseAck last) = last ≤ length log
BodyMatches log (body.GetCookieRecent last) = last ≤ length log
BodyMatches log (body.Route seq r) = ReplyMatches log r
BodyMatches log (body.Cookie full cookie last) = last ≤ length log
BodyMatches log (body.Chunk cookie p values entries done) = ChunkOf log (body.Chunk cookie p values entries done)
BodyMatches log (body.LastChunk cookie p values entries last) = ChunkOf log (body.LastChunk cookie p values entries last)
BodyMatches log other = Unit {0}

abbrev pub SentMatches : List (List ℕ) → Sent → Type 0
SentMatches log (sent.Message to m) = BodyMatches log m.body
SentMatches log (sent.Reply session r) = ReplyMatches log r

abbrev pub AllMatch : List (List ℕ) → List Sent → Type 0
AllMatch log sends = AllByRecursion (SentMatches log) sends

pub more_tell : (log : List (List ℕ)) (a b : List Sent) → AllMatch log a → AllMatch log b → AllMatch log (a ++ b)
more_tell log a b h k = all_append (SentMatches log) a b h k

-- the chunk that is given
pub chunk_tells : (log : List (List ℕ)) (last : ℕ) (c : Cookie) (p : ChunkPlace) (left : List Entry) (n : ℕ) (records : ℕ → Cell) → ChunkOf log (chunk last c p left n records) → BodyMatches log (chunk last c p left n records)
unfolding chunk
chunk_tells log last c p left n records = with_entries (given_values last c p left n records) (given_entries last c p left n (given_values last c p left n records))
  where
    with_entries : (values : List (List Op)) (es : List Entry) → ChunkOf log (chunk_with last c p left values es) → BodyMatches log (chunk_with last c p left values es)
    with_entries values es =
        cond_both (reach last p values && is_finished p left es) (body.LastChunk c p values es last) (body.Chunk c p values es (is_finished p left es)) (λ b. ChunkOf log b → BodyMatches log b) (λ t h. h) (λ t h. h)

-- one body to some monitors
pub each_tells : (log : List (List ℕ)) (me : Me) (e : ℕ) (b : Body) (ks : List ℕ) → BodyMatches log b → AllMatch log (map (message_to me e b) ks)
each_tells log me e b [] h = tt
each_tells log me e b (k ∷ ks) h = (h, each_tells log me e b ks h)

module _ (log : List (List ℕ)) (short : length log ≤ 2 ^ 62) (all : AllValues log) where
  -- ---- what is sent if the readers keep the log

  pub run_keeps : (c : ℕ) → c ≤ length log → (w : Readings) → Keeps log c w → (v : ℕ) → AreVersions log (suc v) (run_from w.record_of c (suc v))
  unfolding run_of
  run_keeps c le w K v = by (cases_lt c v)
    where
      by : (c < v) ⊎ (v ≤ c) → AreVersions log (suc v) (run_from w.record_of c (suc v))
      by (inl above) = let none : suc c - suc v ≡ 0 = omega arith in subst (λ (n : ℕ). AreVersions log (suc v) (run_of w.record_of n (suc v))) (sym none) (nothing v)
        where
          nothing : (v : ℕ) → AreVersions log (suc v) (run_of w.record_of 0 (suc v))
          nothing v = tt
      by (inr within) = run_versions log short all w.record_of (suc c - suc v) v (omega arith) (λ u from to. keeps_held log short all c w K (suc u) (omega arith))

  longest_versions : (test : List (List Op) → Bool) (v : ℕ) (xs : List (List Op)) → AreVersions log v xs → AreVersions log v (longest test xs)
  longest_versions test v xs h = let L = longest_is test xs in first_versions log (longest test xs) L.rest v (subst (AreVersions log v) (sym L.begins) h)

  -- a member gets the versions that it lacks
  commits_tell : (me : Me) (w : Readings) (lasts : List ℕ) → w.last ≤ length log → Keeps log w.last w → (to : ℕ) → AllMatch log (commits_to me w lasts to)
  unfolding missed
  commits_tell me w lasts le K to =
      let told = slice_index_or lasts to 0 in
      let W = longest_versions (λ values. fits me.member.monitors (body.Commit (suc told) values)) (suc told) (run_from w.record_of w.last (suc told)) (run_keeps w.last le w K told) in
      cond_both (ltb told w.last) (commits_with me (epoch_of w) told (missed me.member.monitors w.record_of w.last told) to) [] (AllMatch log)
      (λ t. by told (longest (λ values. fits me.member.monitors (body.Commit (suc told) values)) (run_from w.record_of w.last (suc told))) W) (λ t. tt)
    where
      by : (told : ℕ) (values : List (List Op)) → AreVersions log (suc told) values → AllMatch log (commits_with me (epoch_of w) told values to)
      by told [] h = tt
      by told (x ∷ values) h = (h, tt)

  pub all_commits_tell : (me : Me) (w : Readings) (lasts : List ℕ) → w.last ≤ length log → Keeps log w.last w → (ks : List ℕ) → AllMatch log (flat_map (commits_to me w lasts) ks)
  all_commits_tell me w lasts le K [] = tt
  all_commits_tell me w lasts le K (k ∷ ks) = more_tell log (commits_to me w lasts k) (flat_map (commits_to me w lasts) ks) (commits_tell me w lasts le K k) (all_commits_tell me w lasts le K ks)

  -- and so does a leader that collects
  pub answer_tells : (n : ℕ) (w : Readings) → w.last ≤ length log → Keeps log w.last w → (v : ℕ) → BodyMatches log (last_answer n w (suc v))
  unfolding answer_of
  answer_tells n w le K v = with_values (sent_values n (promise_of w) w.first w.last w.record_of (suc v)) values (told_of (pending w))
    where
      values : AreVersions log (suc v) (sent_values n (promise_of w) w.first w.last w.record_of (suc v))
      values =
          cond_both (ltb w.last (suc v) || ltb (suc v) w.first) [] (longest (λ vs. fits n (body.Last (promise_of w) w.first w.last false (suc v) vs None)) (run_from w.record_of w.last (suc v))) (AreVersions log (suc v))
          (λ t. tt) (λ t. longest_versions (λ vs. fits n (body.Last (promise_of w) w.first w.last false (suc v) vs None)) (suc v) (run_from w.record_of w.last (suc v)) (run_keeps w.last le w K v))

      with_values : (vs : List (List Op)) → AreVersions log (suc v) vs → (told : Option Told) → BodyMatches log (answer_with n (promise_of w) w.first w.last (suc v) vs told)
      with_values vs h told =
          cond_both (is_complete n (promise_of w) w.first w.last (suc v) vs told) (body.Last (promise_of w) w.first w.last true (suc v) vs told) (body.Last (promise_of w) w.first w.last false (suc v) vs None) (BodyMatches log)
          (λ t. (le, h)) (λ t. (le, h))

  -- ---- the readers still keep the log

  pub keeps_own : (c : Change) (w : Readings) → IsOwnChange w.last c → Keeps log w.last w → Keeps log (play c w).last (play c w)
  keeps_own (Boot n) w h K = record { first = K.first; records = K.records; rows = K.rows }
  keeps_own (Epoch e) w h K = record { first = K.first; records = K.records; rows = K.rows }
  keeps_own (Numbers pn) w h K = record { first = K.first; records = K.records; rows = K.rows }
  keeps_own (Promise pn) w h K = record { first = K.first; records = K.records; rows = K.rows }
  keeps_own (Vote v pn value) w h K = record {
    first = K.first;
    records = λ u le. ap (λ b. cond b (Some (text value)) (w.record_of u)) (ne_eqb u v (λ e. omega arith)) ∙ K.records u le;
    rows = K.rows;
  }
  keeps_own (Record v value) w h K = absurd h
  keeps_own (Learn v value) w h K = absurd h
  keeps_own (Last v) w h K = absurd h
  keeps_own (Copy e) w h K = absurd h
  keeps_own (Mark floor a b) w h K = absurd h
  keeps_own Unmark w h K = absurd h

  keeps_one : (c : ℕ) → c < length log → (x : List Op) → IsVersion log (suc c) x → (w : Readings) → Keeps log c w → Keeps log (suc c) (play (Learn (suc c) x) w)
  keeps_one c lt x V w K = subst (Keeps log (suc c)) (λ i. after (put area.Paxos (key.Version (suc c)) (V.encodes i) ∷ V.reads i) w) (committed.learns log short all c lt w K)

  pub keeps_learned : (values : List (List Op)) (c : ℕ) → c + length values ≤ length log → AreVersions log (suc c) values → (w : Readings) → Keeps log c w
      → Keeps log (c + length values) (played (learn_changes (suc c) values) w)
  keeps_learned [] c le h w K = subst (λ (n : ℕ). Keeps log n w) (omega arith) K
  keeps_learned (x ∷ values) c le h w K =
      let same : suc c + length values ≡ c + length (x ∷ values) = omega arith in
      subst (λ (n : ℕ). Keeps log n (played (learn_changes (suc (suc c)) values) (play (Learn (suc c) x) w))) same
      (keeps_learned values (suc c) (omega arith) h.1 (play (Learn (suc c) x) w) (keeps_one c (omega arith) x h.0 w K))

  -- and once their last version is noted
  pub keeps_noted : (values : List (List Op)) (c e : ℕ) → c + length values ≡ e → e ≤ length log → AreVersions log (suc c) values → (w : Readings) → Keeps log c w
      → Keeps log e (record (played (learn_changes (suc c) values) w) { last = e })
  keeps_noted values c e is le h w K =
      keeps_last log e e (played (learn_changes (suc c) values) w) (subst (λ (n : ℕ). Keeps log n (played (learn_changes (suc c) values) w)) is (keeps_learned values c (omega arith) h w K))
