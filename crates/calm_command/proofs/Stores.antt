-- What the stores hold during a command.
pub use Rattle.calm_command.specs.Resting.{Stored}
use Rattle.calm_command.proofs.States.{reads}
use Rattle.calm_sizes.proofs.Stores.{short_behind}
use Rattle.calm_sizes.specs.Sizes.{longest}
use Rattle.law_names.proofs.Runs.{AllValues, IsCommand, IsValue, Keeps, grown, log_from, view_at}
use Rattle.law_names.proofs.Table.{Command, Last, Learn, Op, Readings, Service, Store, Vote, entry, incrementals, joined, learn_changes, played, readings_of, service_last, text, value}
use Rattle.log_copies.proofs.Growing as growing
use Rattle.log_copies.proofs.Learning as learning
use Rattle.log_copies.proofs.Leaving.{still_has}
use Rattle.log_copies.proofs.Matching.{monitor_keeps, read_last, record_there}
use Rattle.log_copies.specs.Versions.{HasVersions, store_after}
use Rattle.log_model.proofs.AnyValue.{value_spares}
use Rattle.log_model.proofs.Committed.{holds, shorts, value_told}
use Rattle.log_model.proofs.FoldWindows.{keeps_view, view_last}
use Rattle.log_model.proofs.Lists.{length_push}
use Rattle.log_model.proofs.Logs.{entry_push, fold_stays, log_prefix_push}
use Rattle.log_model.proofs.Older.{older_itself}
use Rattle.log_model.proofs.Records.{IsVersion}
use Rattle.log_model.proofs.RowReadings as rows
use Rattle.log_model.proofs.RowReadings.{read_some}
use Rattle.log_model.proofs.RuleCells.{log_high}
use Rattle.log_model.proofs.Windows.{row_of}
use Rattle.mon_msg.proofs.Changed.{readings-joined}
use Rattle.quorum_agreement.proofs.Grown.{first_is, grown_none, grown_one}
use Rattle.quorum_walk.proofs.Sparing.{Own, learned_own, own_of}
use Rattle.std.proofs.Common.{List, Ok, [], ap, arith, length, refl, subst, suc, sym, ℕ, ◌++◌, ◌<◌, ◌^◌, ◌∙◌, ◌∷◌, ◌≡◌, ◌≤◌}

-- no change
pub nothing_written : (m : Store) → store_after [] m ≡ m
unfolding joined
nothing_written m = refl

-- the value x is that of a command, over the whole log
pub record Makes (log : List (List ℕ)) (x : List Op) : Type 0 where
  pub room : length log < 2 ^ 62
  pub all : AllValues log
  pub command : Command
  pub form : IsCommand command
  pub asked : ℕ
  pub rank : asked ≤ 14
  pub made : value (view_at log (length log)) command asked ≡ Ok x

module _ (log : List (List ℕ)) (fits : length log ≤ 2 ^ 62) (all : AllValues log) where
  pub is_read : (v p : ℕ) (m : Store) → Stored log v p m → readings_of m ≡ reads v (readings_of m)
  is_read v p m S =
      λ i. record (readings_of m) {
        epoch = S.epoch i;
        promise = S.promise i;
        last = read_last log fits all v m S.versions i;
        marked = S.unmarked i;
      }

  -- the next version of a service is at most 2^62
  pub service_fits : (v p : ℕ) (m : Store) → Stored log v p m → v < 2 ^ 62 → (s : Service)
      → suc (service_last (readings_of m) s) ≤ 2 ^ 62
  service_fits v p m S lt s =
      let V = S.versions in
      let few = (holds log fits all v V.within).chains.few s in
      let last = rows.last_is (readings_of m) s (incrementals s log v)
      (row_of log v (readings_of m) s (monitor_keeps log fits all v m V)) (omega arith) in
      omega arith

-- ---- one more value

module _ (log : List (List ℕ)) (x : List Op) (V : Makes log x) where
  abbrev v : ℕ
  v = length log

  abbrev pub more : List (List ℕ)
  more = log ++ text x ∷ []

  pub long : length more ≡ suc v
  long = length_push log (text x)

  pub short : length more ≤ 2 ^ 62
  short = omega (arith, long)

  is_value : IsValue (view_at log v) x
  is_value =
      record {
        command = V.command;
        form = V.form;
        asked = V.asked;
        rank = V.rank;
        newer = x;
        made = V.made;
        encoded = older_itself x;
      }

  keeps : Keeps log v (view_at log v)
  keeps = keeps_view log v (omega arith) (holds log (omega arith) V.all v (omega arith)).keeps

  last : (view_at log v).last ≡ v
  last = view_last log v (omega arith)

  pub values : AllValues more
  values = growing.more_values log V.room V.all (view_at log v) keeps last x is_value

  text_short : length (text x) ≤ longest
  text_short = let s = shorts log V.room V.all (view_at log v) keeps last x is_value in omega arith

  version : IsVersion more (suc v) x
  version = growing.new_version log V.room V.all (view_at log v) keeps last x is_value

  -- the leader makes it
  pub value_is : (m : Store) → HasVersions more v m → value (readings_of m) V.command V.asked ≡ Ok x
  value_is m W =
      let S : HasVersions log v m = record {
        within = omega arith;
        last = W.last;
        folded = W.folded ∙ fold_stays (log_prefix_push log (text x)) v (omega arith);
      } in
      sym (value_told log (omega arith) V.all (readings_of m) (monitor_keeps log (omega arith) V.all v m S)
      (read_last log (omega arith) V.all v m S) V.command V.asked)
      ∙ V.made

  pub longer : (p : ℕ) (m : Store) → Stored log v p m → Stored more v p m
  longer p m S =
      record {
        versions = growing.versions_stay (log_prefix_push log (text x)) v m S.versions;
        epoch = S.epoch;
        promise = S.promise;
        unmarked = S.unmarked;
        votes = S.votes;
        short = S.short;
      }

  module _ (m : Store) where
    abbrev voted : Store
    voted = store_after (Vote (suc v) 100 x ∷ []) m

    told_voted : readings_of voted ≡ played (Vote (suc v) 100 x ∷ []) (readings_of m)
    told_voted = readings-joined (Vote (suc v) 100 x ∷ []) ((omega arith, omega arith), tt) m

    pub stored_voted : (p : ℕ) → Stored more v p m → Stored more v (suc v) voted
    stored_voted p S = record {
      versions = still_has more v m S.versions (Vote (suc v) 100 x ∷ []) (refl, tt);
      epoch = ap (λ (w : Readings). w.epoch) told_voted ∙ S.epoch;
      promise = ap (λ (w : Readings). w.promise) told_voted ∙ S.promise;
      unmarked = ap (λ (w : Readings). w.marked) told_voted ∙ S.unmarked;
      votes = (let e = ap (λ (w : Readings). w.pending_v) told_voted in omega arith);
      short = short_behind (Vote (suc v) 100 x ∷ []) m (text_short, tt) S.short;
    }

    abbrev learned : Store
    learned = store_after (Learn (suc v) x ∷ Last (suc v) ∷ []) m

    told_learned : readings_of learned ≡ played (Learn (suc v) x ∷ Last (suc v) ∷ []) (readings_of m)
    told_learned = readings-joined (Learn (suc v) x ∷ Last (suc v) ∷ []) (tt, (omega arith, tt)) m

    spared : own_of (played (learn_changes (suc v) (x ∷ [])) (readings_of m)) ≡ own_of (readings_of m)
    spared =
        learned_own (suc v) (x ∷ []) (readings_of m) (value_spares (view_at log v) V.command V.asked x V.made, tt)

    pub stored_learned : (p : ℕ) → p ≤ suc v → Stored more v p m → Stored more (suc v) (suc v) learned
    stored_learned p le S = record {
      versions = subst (λ (e : ℕ). HasVersions more e (store_after (Learn (suc v) x ∷ Last e ∷ []) m)) (omega arith)
          (learning.learned more short values v m S.versions x [] (version, tt) (omega (arith, long)));
      epoch = ap (λ (w : Readings). w.epoch) told_learned ∙ ap (λ (o : Own). o.epoch) spared ∙ S.epoch;
      promise = ap (λ (w : Readings). w.promise) told_learned ∙ ap (λ (o : Own). o.promise) spared ∙ S.promise;
      unmarked = ap (λ (w : Readings). w.marked) told_learned ∙ ap (λ (o : Own). o.marked) spared ∙ S.unmarked;
      votes = (let e = ap (λ (w : Readings). w.pending_v) told_learned ∙ ap (λ (o : Own). o.pending_v) spared in
          let q = S.votes in
          omega arith);
      short = short_behind (Learn (suc v) x ∷ Last (suc v) ∷ []) m (text_short, (tt, tt)) S.short;
    }

  -- ---- the one log

  -- a store of no version more adds nothing
  pub adds_none : (l : List (List ℕ)) → (u p : ℕ) (m : Store) → Stored more u p m → u ≤ length l → grown l m ≡ l
  adds_none l u p m S le =
      grown_none l m S.unmarked (let r = read_last more short values u m S.versions in omega arith)

  -- and one with the new version adds that
  pub adds_one : (p : ℕ) (m : Store) → Stored more (suc v) p m → grown log m ≡ more
  adds_one p m S =
      let K = monitor_keeps more short values (suc v) m S.versions in
      let f = K.first in
      let low = log_high (suc v) (omega arith) in
      let there = record_there more short values (suc v) m S.versions (suc v)
      (omega (arith, f, low, read_some log_from (suc v) (omega arith), first_is m)) (omega arith) in
      grown_one log m (entry more (suc v)) S.unmarked (read_last more short values (suc v) m S.versions) there
      ∙ ap (λ (b : List ℕ). log ++ b ∷ []) (entry_push log (text x))
