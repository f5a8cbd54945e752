-- The acts of a monitor that isn't marked leave it the versions of the log that it has, and those that it learns; and what it sends
-- is the log's.
use Rattle.law_names.proofs.Runs.{AllValues, Keeps}
use Rattle.law_names.proofs.Table.{Body, Boot, Change, Copy, Course, Epoch, Found, Last, LeaderStage, Learn, Mark, Me, Numbers, Op, Origin, Promise, Readings, Record, Reply, Sent, Session, Store, Unmark, Vote, Which, adopt, answer_to, answers_to, apply, be_active, begin, begin_found, begin_with, bootstrap, cell, change, change_if, checked, collect, collect_with, commit, commits_to, elect, encoded, epoch_of, extend, in_next_epoch, in_odd_epoch, is_empty, is_even, learn, learn_changes, members, message_to, next_number, or_zero, others, own_table, play, played, promise_of, recent_sync, reign, settle, win, ◌>>=◌}
use Rattle.log_copies.proofs.Learning.{learned}
use Rattle.log_copies.proofs.Leaving.{mark_kept, mark_learned, still_has}
use Rattle.log_copies.proofs.Matching.{versions_within}
use Rattle.log_copies.proofs.Sending.{AllMatch, BodyMatches, ReplyMatches, all_commits_tell, each_tells, keeps_noted, keeps_own, more_tell}
use Rattle.log_copies.proofs.Taken.{encoded_append}
use Rattle.log_copies.specs.Versions.{HasVersions, IsOwnChange, store_after}
use Rattle.log_model.proofs.Records.{AreVersions, IsVersion}
use Rattle.mon_msg.proofs.Afterwards.{apply-append}
use Rattle.mon_msg.proofs.Joining.{apply-joined}
use Rattle.mon_msg.specs.declared.paxos.LeaderStage.TheVariants as stage
use Rattle.mon_msg.specs.declared.plan.Origin.TheVariants as origin
use Rattle.mon_msg.specs.declared.plan.Sent.TheVariants as sent
use Rattle.mon_tx.specs.declared.key.Area.TheVariants as area
use Rattle.mon_tx.specs.declared.key.Key.TheVariants as key
use Rattle.mon_types.specs.declared.names.Which.TheVariants as which
use Rattle.mon_wire.specs.declared.body.Body.TheVariants as body
use Rattle.mon_wire.specs.declared.reply.Reply.TheVariants as reply
use Rattle.std.proofs.Common.{Bool, Err, List, None, Ok, Option, Result, Some, [], ap, append_assoc, arith, cond, false, leb, length, map, max, refl, subst, suc, sym, true, ℕ, ◌++◌, ◌+◌, ◌<◌, ◌^◌, ◌∙◌, ◌∷◌, ◌≡◌, ◌≤◌}
use Rattle.std.proofs.lemmas.Bool.{cond_both, lt-ltb}
use Rattle.std.proofs.lemmas.List.{append-nil}
use Rattle.std.specs.Prelude.{flat_map}

-- ---- where no number runs out

pub record Then {A : Type 0} (P : A → Type 0) (r : Result A Which) : Type 0 where
  pub holds : (x : A) → r ≡ Ok x → P x

pub done : {A : Type 0} (P : A → Type 0) (x : A) → P x → Then P (Ok x)
done {A} P x h = record { holds = λ y e. let same : x ≡ y = cc in subst P same h }

pub failed : {A : Type 0} (P : A → Type 0) (w : Which) → Then P (Err w)
failed {A} P w = record { holds = λ y e. let n : ◌≡◌ {A = Result A Which} (Err w) (Ok y) = e in absurd cc }

pub and_then : {A B : Type 0} (P : A → Type 0) (Q : B → Type 0) (r : Result A Which) (f : A → Result B Which) → Then P r → ((x : A) → P x → Then Q (f x)) → Then Q (r >>= f)
and_then P Q (Ok x) f h k = k x (h.holds x refl)
and_then P Q (Err w) f h k = failed Q w

pub where_fits : {B : Type 0} (Q : B → Type 0) (w : Which) (n : ℕ) (f : ℕ → Result B Which) → Then Q (f n) → Then Q (checked w n >>= f)
where_fits Q w n f h = cond_both (leb n (2 ^ 62)) (Ok n) (Err w) (λ r. Then Q (r >>= f)) (λ t. h) (λ t. failed Q w)

pub by_test : {A : Type 0} (Q : A → Type 0) (b : Bool) (x y : Result A Which) → (b ≡ true → Then Q x) → (b ≡ false → Then Q y) → Then Q (cond b x y)
by_test Q b x y h k = cond_both b x y (Then Q) h k

-- ---- what is written in parts

pub behind_append : (a b : List Change) (m : Store) → store_after (a ++ b) m ≡ store_after b (store_after a m)
behind_append a b m =
    apply-joined (encoded (a ++ b)) m ∙ ap (λ (ops : List Op). apply ops m) (encoded_append a b) ∙ apply-append (encoded a) (encoded b) m
    ∙ ap (apply (encoded b)) (sym (apply-joined (encoded a) m)) ∙ sym (apply-joined (encoded b) (store_after a m))

module _ (log : List (List ℕ)) (fits : length log ≤ 2 ^ 62) (all : AllValues log) (m : Store) where
  -- the monitor has the log up to its last version, once these changes are written; and so it reports
  pub record HasAt (w : Readings) (cs : List Change) (out : List Sent) : Type 0 where
    pub has : HasVersions log w.last (store_after cs m)
    pub keeps : Keeps log w.last w
    pub mark : cell (store_after cs m) area.Sync key.InSync ≡ cell m area.Sync key.InSync
    pub tells : AllMatch log out

  abbrev pub Has : Course → Type 0
  Has x = HasAt x.readings x.changes x.out

  pub within : {w : Readings} {cs : List Change} {out : List Sent} → HasAt w cs out → w.last ≤ length log
  within H = let V = H.has in V.within

  -- ---- what is sent

  pub says : {w : Readings} {cs : List Change} {out : List Sent} (sends : List Sent) → AllMatch log sends → HasAt w cs out → HasAt w cs (out ++ sends)
  says {out = out} sends h H = record { has = H.has; keeps = H.keeps; mark = H.mark; tells = more_tell log out sends H.tells h }

  pub says_each : {w : Readings} {cs : List Change} {out : List Sent} (me : Me) (e : ℕ) (b : Body) (ks : List ℕ) → BodyMatches log b → HasAt w cs out → HasAt w cs (out ++ map (message_to me e b) ks)
  says_each me e b ks h H = says (map (message_to me e b) ks) (each_tells log me e b ks h) H

  pub says_one : {w : Readings} {cs : List Change} {out : List Sent} (me : Me) (e : ℕ) (b : Body) (to : ℕ) → BodyMatches log b → HasAt w cs out → HasAt w cs (out ++ message_to me e b to ∷ [])
  says_one me e b to h H = says (message_to me e b to ∷ []) (h, tt) H

  answers_tell : (me : Me) (e : ℕ) (o : Origin) (r : Reply) → ReplyMatches log r → AllMatch log (answer_to me e o r ∷ [])
  answers_tell me e (origin.Session session) r h = (h, tt)
  answers_tell me e (origin.Forwarded rank seq) r h = (h, tt)

  pub says_answer : {w : Readings} {cs : List Change} {out : List Sent} (me : Me) (e : ℕ) (o : Origin) (r : Reply) → ReplyMatches log r → HasAt w cs out → HasAt w cs (out ++ answer_to me e o r ∷ [])
  says_answer me e o r h H = says (answer_to me e o r ∷ []) (answers_tell me e o r h) H

  pub says_reply : {w : Readings} {cs : List Change} {out : List Sent} (session : Session) (r : Reply) → ReplyMatches log r → HasAt w cs out → HasAt w cs (out ++ sent.Reply session r ∷ [])
  says_reply session r h H = says (sent.Reply session r ∷ []) (h, tt) H

  any_tell : (me : Me) (e : ℕ) (o : Option Origin) (r : Reply) → ReplyMatches log r → AllMatch log (answers_to me e o r)
  any_tell me e None r h = tt
  any_tell me e (Some o) r h = answers_tell me e o r h

  -- ---- changes

  last_stays : (c : Change) (w : Readings) (n : ℕ) → IsOwnChange n c → (play c w).last ≡ w.last
  last_stays (Boot n) w c h = refl
  last_stays (Epoch e) w c h = refl
  last_stays (Numbers pn) w c h = refl
  last_stays (Promise pn) w c h = refl
  last_stays (Vote v pn value) w c h = refl
  last_stays (Record v value) w c h = absurd h
  last_stays (Learn v value) w c h = absurd h
  last_stays (Last v) w c h = absurd h
  last_stays (Copy e) w c h = absurd h
  last_stays (Mark floor a b) w c h = absurd h
  last_stays Unmark w c h = absurd h

  pub changes : (c : Change) (w : Readings) (cs : List Change) {out : List Sent} → IsOwnChange w.last c → HasAt w cs out → HasAt (play c w) (cs ++ c ∷ []) out
  changes c w cs own H = record {
    keeps = keeps_own log fits all c w own H.keeps;
    mark = ap (λ (n : Store). cell n area.Sync key.InSync) (behind_append cs (c ∷ []) m) ∙ mark_kept w.last (c ∷ []) (own, tt) (store_after cs m) ∙ H.mark;
    tells = H.tells;
    has = subst (λ (n : ℕ). HasVersions log n (store_after (cs ++ c ∷ []) m)) (sym (last_stays c w w.last own))
        (subst (HasVersions log w.last) (sym (behind_append cs (c ∷ []) m)) (still_has log w.last (store_after cs m) H.has (c ∷ []) (own, tt)));
  }

  pub changes_if : (b : Bool) (c : Change) (x : Course) → IsOwnChange x.readings.last c → Has x → Has (change_if b c x)
  changes_if true c x own H = changes c x.readings x.changes own H
  changes_if false c x own H = record { keeps = H.keeps; tells = H.tells; mark = ap (λ (cs : List Change). cell (store_after cs m) area.Sync key.InSync) (append-nil x.changes) ∙ H.mark; has = subst (λ (cs : List Change). HasVersions log x.readings.last (store_after cs m)) (sym (append-nil x.changes)) H.has }

  pub learns : (v : ℕ) (values : List (List Op)) (x : Course) → v ≡ suc x.readings.last → AreVersions log v values → Has x → Then Has (learn v values x)
  unfolding learn
  learns v [] x is V H = done Has x H
  learns v (value ∷ values) x is V H = where_fits Has which.Version (v + length values) _ (done Has _ (record { has = subst (HasVersions log (v + length values)) (sym wrote) next; keeps = kept; mark = still_marked; tells = H.tells }))
    where
      c : ℕ
      c = x.readings.last

      W : AreVersions log (suc x.readings.last) (value ∷ values)
      W = subst (λ (u : ℕ). AreVersions log u (value ∷ values)) is V

      next : HasVersions log (v + length values) (store_after (learn_changes v (value ∷ values) ++ Last (v + length values) ∷ []) (store_after x.changes m))
      next =
          subst (λ (u : ℕ). HasVersions log (u + length values) (store_after (learn_changes u (value ∷ values) ++ Last (u + length values) ∷ []) (store_after x.changes m))) (sym is)
          (learned log fits all x.readings.last (store_after x.changes m) H.has value values W (let r = versions_within log values x.readings.last value W in omega arith))

      known : x.readings.last + length (value ∷ values) ≤ length log
      known = versions_within log values x.readings.last value W

      kept : Keeps log (v + length values) (record (played (learn_changes v (value ∷ values)) x.readings) { last = v + length values })
      kept =
          subst (λ (u : ℕ). Keeps log (u + length values) (record (played (learn_changes u (value ∷ values)) x.readings) { last = u + length values })) (sym is)
          (keeps_noted log fits all (value ∷ values) x.readings.last (suc x.readings.last + length values) (omega arith) (let r = known in omega arith) W x.readings H.keeps)

      wrote : store_after ((x.changes ++ learn_changes v (value ∷ values)) ++ Last (v + length values) ∷ []) m ≡ store_after (learn_changes v (value ∷ values) ++ Last (v + length values) ∷ []) (store_after x.changes m)
      wrote = ap (λ (cs : List Change). store_after cs m) (append_assoc x.changes (learn_changes v (value ∷ values)) (Last (v + length values) ∷ [])) ∙ behind_append x.changes _ m

      still_marked : cell (store_after ((x.changes ++ learn_changes v (value ∷ values)) ++ Last (v + length values) ∷ []) m) area.Sync key.InSync ≡ cell m area.Sync key.InSync
      still_marked =
          ap (λ (n : Store). cell n area.Sync key.InSync) wrote
          ∙ subst (λ (u : ℕ). cell (store_after (learn_changes u (value ∷ values) ++ Last (v + length values) ∷ []) (store_after x.changes m)) area.Sync key.InSync ≡ cell (store_after x.changes m) area.Sync key.InSync) (sym is)
          (mark_learned log fits all (value ∷ values) x.readings.last (v + length values) known W (store_after x.changes m)) ∙ H.mark

  -- ---- acts

  module _ (me : Me) (several : 1 < me.member.monitors) (now : ℕ) where
    pub is_active : (x : Course) → Has x → Has (be_active me now x)
    unfolding be_active extend
    is_active x H = says_each me (epoch_of x.readings) (body.Lease x.readings.last) (members me x.state.leader.quorum) (within H) H

    pub commits : (value : List Op) (x : Course) → IsVersion log (suc x.readings.last) value → Has x → Then Has (commit me now value x)
    unfolding commit be_active extend
    commits value x V H =
        let v = suc x.readings.last in
        and_then Has Has (learn v (value ∷ []) x) _ (learns v (value ∷ []) x refl (V, tt) H) (λ y K. done Has _
        (says (answers_to me (epoch_of y.readings) y.state.leader.origin (reply.Done v)) (any_tell me (epoch_of y.readings) y.state.leader.origin (reply.Done v) tt)
        (says_each me (epoch_of y.readings) (body.Lease y.readings.last) (members me y.state.leader.quorum) (within K)
        (says_each me (epoch_of y.readings) (body.Commit v (value ∷ [])) (members me y.state.leader.quorum) (V, tt) K))))

    -- a monitor that isn't alone in its quorum
    pub begins : (s : LeaderStage) (value : List Op) (o : Option Origin) (x : Course) → is_empty (members me x.state.leader.quorum) ≡ false → Has x → Then Has (begin me now s value o x)
    unfolding begin begin_with
    begins s value o x several H =
        where_fits Has which.Version (suc x.readings.last) _
        (by_test Has (is_empty (members me x.state.leader.quorum)) _ _ (λ t. absurd (let g : true ≡ false = sym t ∙ several in cc))
        (λ t. done Has _ (says_each me (epoch_of x.readings) (body.Begin x.state.leader.pn (suc x.readings.last) value) (members me x.state.leader.quorum) tt
        (changes (Vote (suc x.readings.last) x.state.leader.pn value) x.readings x.changes refl H))))

    begins_found : (found : Option Found) (x : Course) → is_empty (members me x.state.leader.quorum) ≡ false → Has x → Then Has (begin_found me now found x)
    begins_found None x several H = done Has _ (is_active x H)
    begins_found (Some found) x several H = by_test Has _ _ _ (λ t. begins stage.Previous found.value None x several H) (λ t. done Has _ (is_active x H))

    pub settles : (x : Course) → is_empty (members me x.state.leader.quorum) ≡ false → Has x → Then Has (settle me now x)
    unfolding settle
    settles x several H =
        let w = x.readings in
        let ks = members me x.state.leader.quorum in
        begins_found x.state.leader.found _ several
        (says (flat_map (commits_to me w x.state.leader.lasts) ks) (all_commits_tell log fits all me w x.state.leader.lasts (within H) H.keeps ks) H)

    pub collects : (q : List Bool) (above : ℕ) (x : Course) → is_empty (members me q) ≡ false → Has x → Then Has (collect me now q above x)
    unfolding collect collect_with
    collects q above x several H =
        let pn = next_number (or_zero x.readings.last_pn) (max (promise_of x.readings) above) me.member.rank in
        where_fits Has which.Pn pn (λ n. cond (is_empty (members me q)) (settle me now (collect_with me now q n x)) (Ok (collect_with me now q n x)))
        (by_test Has (is_empty (members me q)) (settle me now (collect_with me now q pn x)) (Ok (collect_with me now q pn x)) (λ t. absurd (let g : true ≡ false = sym t ∙ several in cc))
        (λ t. done Has (collect_with me now q pn x) (says_each me (epoch_of x.readings) (body.Collect pn x.readings.first x.readings.last) (members me q) (within H) (changes (Numbers pn) x.readings x.changes tt H))))

    pub reigns : (q : List Bool) (x : Course) → is_empty (members me q) ≡ false → Has x → Then Has (reign me now q x)
    unfolding reign
    reigns q x several H = collects q 0 _ several (says_each me (epoch_of x.readings) (body.Victory q) (members me q) tt H)

    pub bootstraps : (x : Course) → Has x → Then Has (bootstrap me now x)
    unfolding bootstrap
    bootstraps x H = rw (lt-ltb 1 me.member.monitors several) (done Has _ (says_each me (epoch_of x.readings) body.Probe (others me) tt H))

    pub enters : (x : Course) → Has x → Then Has (in_next_epoch x)
    enters x H =
        let e = suc (epoch_of x.readings) in
        where_fits Has which.Epoch e (λ n. Ok (change (Epoch n) x)) (done Has (change (Epoch e) x) (changes (Epoch e) x.readings x.changes tt H))

    pub elects : (x : Course) → Has x → Then Has (elect me now x)
    unfolding elect in_odd_epoch
    elects x H =
        and_then Has Has (in_odd_epoch x) _ (by_test Has (is_even (epoch_of x.readings)) _ _ (λ t. enters x H) (λ t. done Has x H))
        (λ y K. done Has _ (says_each me (epoch_of y.readings) (body.Propose (own_table me y)) (others me) tt K))

    pub wins : (acked : List Bool) (x : Course) → is_empty (members me acked) ≡ false → Has x → Then Has (win me now acked x)
    unfolding win
    wins acked x several H = and_then Has Has (in_next_epoch x) _ (enters x H) (λ y K. reigns acked y several K)

    pub adopts : (e : ℕ) (x : Course) → Has x → Has (adopt now e x)
    unfolding adopt
    adopts e x H = changes (Epoch e) x.readings x.changes tt H

    pub asks_versions : (f : ℕ) (x : Course) → Has x → Has (recent_sync me now f x)
    unfolding recent_sync
    asks_versions f x H = says_one me (epoch_of x.readings) (body.GetCookieRecent x.readings.last) f (within H) H
