-- A monitor that is alone in its map keeps the log, whatever the events and the rule.
use Rattle.law_names.proofs.Runs.{AllValues, Asked, Keeps, Monitors, Plain, World, first_world, grown, kept_only, log_from, lost, messages_of, moved, put_at, unmoved, with_asked}
use Rattle.law_names.proofs.Table.{AllByRecursion, Change, Last, Learn, Me, Op, Readings, Sent, Store, entry, learn_changes, ops_in, played, reaction_of, readings_of, shared_entries, text}
use Rattle.log_copies.proofs.Growing.{committed}
use Rattle.log_copies.proofs.Leaving.{still_has}
use Rattle.log_copies.proofs.Matching.{monitor_keeps, read_last, record_there}
use Rattle.log_copies.specs.Synchronizing.{written}
use Rattle.log_copies.specs.Versions.{HasVersions, IsOwnChange, store_after}
use Rattle.log_model.proofs.Committed.{ops_again, texts}
use Rattle.log_model.proofs.Holds.{holds_nothing}
use Rattle.log_model.proofs.Lists.{length_push}
use Rattle.log_model.proofs.Logs.{IsPrefixOf, entry_push, log_prefix_itself, log_prefix_push}
use Rattle.log_model.proofs.RowReadings.{read_some}
use Rattle.log_model.proofs.RuleCells.{log_high}
use Rattle.mon_msg.specs.declared.plan.Sent.TheVariants as sent
use Rattle.quorum_agreement.proofs.Grown.{GrowsByOne, first_is, grown_none, grown_one}
use Rattle.quorum_agreement.proofs.Invariant.{EnvelopeMatches, envelopes_stay}
use Rattle.quorum_agreement.proofs.Lone.{Commits, Outcome, Quiet, SaysNothing, lone_reacts}
use Rattle.quorum_agreement.proofs.Made.{AllAsked, MadeOver, asked_again, is_value, values_again, version_asked}
use Rattle.quorum_agreement.proofs.Worlds.{still_among}
use Rattle.quorum_laws.proofs.Beginning as beginning
use Rattle.quorum_laws.proofs.Events as events
use Rattle.quorum_laws.proofs.Events.{Does, ended, goes_down_holds, goes_on_holds, lost_holds, member_of, same, shares}
use Rattle.quorum_laws.proofs.Invariant.{InvOf, InvWith}
use Rattle.quorum_laws.proofs.Whole.{at_put}
use Rattle.quorum_walk.proofs.FineCourses.{Ended, Fit, begun}
use Rattle.quorum_walk.proofs.Lists.{all_append}
use Rattle.quorum_walk.proofs.Sparing.{Own, learned_own, own_of}
use Rattle.quorum_walk.proofs.Walk.{Then}
use Rattle.std.proofs.Common.{List, [], ap, arith, false, inl, inr, length, refl, subst, suc, sym, ℕ, ◌++◌, ◌<◌, ◌^◌, ◌∙◌, ◌∷◌, ◌≡◌, ◌≤◌}
use Rattle.std.proofs.lemmas.Bool.{ltb-true}

-- a store has the whole log, and no value is pending in it
pub record IsWhole (log : List (List ℕ)) (m : Store) : Type 0 where
  pub versions : HasVersions log (length log) m
  pub unmarked : (readings_of m).marked ≡ false
  pub settled : (readings_of m).pending_v ≡ 0

pub record OfLone (ms : Monitors) (w : World) (asked : List Asked) : Type 0 where
  pub short : length w.log ≤ 2 ^ 62
  pub values : AllValues w.log
  pub asks : AllAsked ms.count asked w.log
  pub stores : (i : ℕ) → i < ms.count → IsWhole w.log (w.store i)
  pub sent : AllByRecursion (EnvelopeMatches w.log) w.messages

abbrev pub LoneHolds : Monitors → World → Type 0
LoneHolds ms w = InvOf ms w × OfLone ms w w.asked

pub lone_at_first : (ms : Monitors) → LoneHolds ms first_world
lone_at_first ms = (
  beginning.at_first ms,
  record {
    short = omega arith;
    values = λ v lt. absurd (omega arith);
    asks = λ v lt. absurd (omega arith);
    stores = λ i lt. record { versions = record { within = omega arith; last = (let h = holds_nothing in h.last); folded = (let h = holds_nothing in h.folded) }; unmarked = beginning.unmarked_at_first; settled = beginning.settled_at_first };
    sent = tt;
  },
)

says_nothing : (log : List (List ℕ)) (sends : List Sent) → AllByRecursion SaysNothing sends → AllByRecursion (EnvelopeMatches log) (messages_of sends)
says_nothing log [] k = tt
says_nothing log (sent.Message to m ∷ sends) k = (k.0 log, says_nothing log sends k.1)
says_nothing log (sent.Reply to r ∷ sends) k = says_nothing log sends k.1

-- ---- the world after an event

abbrev pub LoneFollows : Monitors → World → World → Type 0
LoneFollows ms w next = LoneHolds ms next × GrowsByOne w.log next.log

-- the log after an event, all of which the monitor's store then has
record Next (n : ℕ) (asked : List Asked) (log : List (List ℕ)) (m : Store) (out : List Sent) : Type 0 where
  more : List (List ℕ)
  log_prefix : IsPrefixOf log more
  grows : GrowsByOne log more
  short : length more ≤ 2 ^ 62
  values : AllValues more
  asks : AllAsked n asked more
  whole : IsWhole more m
  tells : AllByRecursion SaysNothing out
  is : grown log m ≡ more

module _ (ms : Monitors) (one : ms.count ≡ 1) (w : World) (asked : List Asked) (J : InvWith ms w asked) (O : OfLone ms w asked) (d : Does ms w (EnvelopeMatches w.log) asked J) where
  abbrev rank : ℕ
  rank = d.by.rank

  abbrev me : Me
  me = member_of ms d.by.rank d.by.lt

  abbrev m : Store
  m = w.store d.by.rank

  abbrev w0 : Readings
  w0 = readings_of m

  abbrev after : Store
  after = written m d.y

  H : IsWhole w.log m
  H = O.stores rank (ltb-true rank ms.count d.by.lt)

  last_is : w0.last ≡ length w.log
  last_is = read_last w.log O.short O.values (length w.log) m H.versions

  outcome : Outcome me one d.by.at J.g J.glob w0 d.y
  outcome = (subst (Then (Outcome me one d.by.at J.g J.glob w0)) d.is (lone_reacts me one d.by.at J.g J.glob w0 H.settled H.unmarked (shared_entries m) d.by.came d.by.state d.by.holds d.by.on)).holds

  read : readings_of after ≡ d.y.readings
  read = same w.store w.state w.transactions w.messages w.active asked me J d.by.at d.by.state d.by.came d.by.on d.by.fits d.by.holds (d.by.fine (shares w.store w.state w.transactions w.messages w.active asked me J d.by.at)) d.y d.is

  quiet_next : Quiet me one d.by.at J.g J.glob w0 d.y → Next ms.count asked w.log after d.y.out
  quiet_next Q = record {
    more = w.log;
    log_prefix = log_prefix_itself w.log;
    grows = inl refl;
    short = O.short;
    values = O.values;
    asks = O.asks;
    whole = record { versions = has; unmarked = ap (λ (r : Readings). r.marked) read ∙ Q.marked ∙ H.unmarked; settled = ap (λ (r : Readings). r.pending_v) read ∙ Q.pending };
    tells = Q.out;
    is = grown_none w.log after (ap (λ (r : Readings). r.marked) read ∙ Q.marked ∙ H.unmarked) (let l = read_last w.log O.short O.values (length w.log) after has in omega arith);
  }
    where
      has : HasVersions w.log (length w.log) after
      has = still_has w.log (length w.log) m H.versions d.y.changes (subst (λ (c : ℕ). AllByRecursion (IsOwnChange c) d.y.changes) last_is Q.changes)

  module _ (C : Commits me one d.by.at J.g J.glob w0 d.y) where
    abbrev more : List (List ℕ)
    more = w.log ++ text C.ops ∷ []

    long : length more ≡ suc (length w.log)
    long = length_push w.log (text C.ops)

    room : length w.log < 2 ^ 62
    room = let f = C.fits in omega (arith, last_is)

    short : length more ≤ 2 ^ 62
    short = omega (arith, long, room)

    keeps : Keeps w.log (length w.log) w0
    keeps = monitor_keeps w.log O.short O.values (length w.log) m H.versions

    abbrev made : MadeOver ms.count asked w.log (suc (length w.log)) C.ops
    made = record {
      before = length w.log;
      next = refl;
      within = omega arith;
      over = w0;
      keeps = keeps;
      last = last_is;
      rank = C.rank;
      session = C.session;
      command = C.command;
      of = J.asks C.rank C.session C.command C.asked;
      made = C.made;
    }

    values : AllValues more
    values = values_again ms.count ms.most asked w.log room O.values C.ops made

    changes : d.y.changes ≡ Learn (suc (length w.log)) C.ops ∷ Last (suc (length w.log)) ∷ []
    changes = C.changes ∙ ap (λ (c : ℕ). Learn (suc c) C.ops ∷ Last (suc c) ∷ []) last_is

    has : HasVersions more (length more) after
    has = subst (λ (c : ℕ). HasVersions more c after) (sym long)
        (subst (λ (cs : List Change). HasVersions more (suc (length w.log)) (store_after cs m)) (sym changes) (committed w.log room O.values w0 keeps last_is C.ops (is_value ms.count ms.most asked w.log room O.values C.ops made) m H.versions))

    E : Ended (begun me w0 d.by.state d.by.came) d.y
    E = ended w.store w.state w.transactions w.messages w.active asked me J d.by.at d.by.state d.by.came d.by.on d.by.fits d.by.holds (d.by.fine (shares w.store w.state w.transactions w.messages w.active asked me J d.by.at)) d.y d.is

    tells : readings_of after ≡ played (Learn (suc w0.last) C.ops ∷ Last (suc w0.last) ∷ []) w0
    tells = read ∙ E.tells ∙ ap (λ (cs : List Change). played cs w0) C.changes

    own : own_of (played (learn_changes (suc w0.last) (C.ops ∷ [])) w0) ≡ own_of w0
    own = learned_own (suc w0.last) (C.ops ∷ []) w0 (let f = subst (AllByRecursion Fit) C.changes E.fits in (f.0, tt))

    unmarked : (readings_of after).marked ≡ false
    unmarked = ap (λ (r : Readings). r.marked) tells ∙ ap (λ (o : Own). o.marked) own ∙ H.unmarked

    last_now : (readings_of after).last ≡ suc (length w.log)
    last_now = read_last more short values (length more) after has ∙ long

    adds : grown w.log after ≡ more
    adds =
        let K = monitor_keeps more short values (length more) after has in
        let f = K.first in
        let some : 1 ≤ length more = omega (arith, long) in
        let low = log_high (length more) some in
        let there = record_there more short values (length more) after has (suc (length w.log)) (omega (arith, f, long, low, read_some log_from (length more) some, first_is after)) (omega (arith, long)) in
        grown_one w.log after (entry more (suc (length w.log))) unmarked last_now there ∙ ap (λ (b : List ℕ). w.log ++ b ∷ []) (entry_push w.log (text C.ops))

    commits_next : Next ms.count asked w.log after d.y.out
    commits_next = record {
      more = more;
      log_prefix = log_prefix_push w.log (text C.ops);
      grows = inr (text C.ops, refl);
      short = short;
      values = values;
      asks = asked_again ms.count ms.most asked w.log room O.values C.ops made O.asks;
      whole = record { versions = has; unmarked = unmarked; settled = ap (λ (r : Readings). r.pending_v) tells ∙ ap (λ (o : Own). o.pending_v) own ∙ H.settled };
      tells = C.out;
      is = adds;
    }

    -- the new entry reads as the value that was learned
    reads_it : ops_in (entry more (suc (length w.log))) ≡ C.ops
    reads_it = ap ops_in (entry_push w.log (text C.ops)) ∙ ops_again C.ops (texts w.log room O.values w0 keeps last_is C.ops (is_value ms.count ms.most asked w.log room O.values C.ops made))

  next : Next ms.count asked w.log after d.y.out
  next = by outcome
    where
      by : Outcome me one d.by.at J.g J.glob w0 d.y → Next ms.count asked w.log after d.y.out
      by (inl Q) = quiet_next Q
      by (inr C) = commits_next C

  abbrev value_learned : List Change → List Op
  value_learned (Learn v ops ∷ cs) = ops
  value_learned other = []

  -- if it learns a value, the log's new entry reads as that
  pub lone_reads : (ops : List Op) → d.y.changes ≡ Learn (suc w0.last) ops ∷ Last (suc w0.last) ∷ [] → d.y.readings.last ≡ suc w0.last → ops_in (entry (grown w.log after) (suc w0.last)) ≡ ops
  unfolding commits_next
  lone_reads ops e l = by outcome
    where
      by : Outcome me one d.by.at J.g J.glob w0 d.y → ops_in (entry (grown w.log after) (suc w0.last)) ≡ ops
      by (inl Q) = let same = Q.last in absurd (omega (arith, l, same))
      by (inr C) =
          let N = commits_next C in
          ap (λ (log : List (List ℕ)). ops_in (entry log (suc w0.last))) N.is ∙ ap (λ (c : ℕ). ops_in (entry N.more (suc c))) last_is ∙ reads_it C ∙ ap value_learned (sym C.changes ∙ e)

-- ---- every event

module _ (ms : Monitors) (w : World) (asked : List Asked) (log : List (List ℕ)) (e : w.log ≡ log) where
  of_lone : length log ≤ 2 ^ 62 → AllValues log → AllAsked ms.count asked log → ((i : ℕ) → i < ms.count → IsWhole log (w.store i)) → AllByRecursion (EnvelopeMatches log) w.messages → OfLone ms w asked
  of_lone short values asks stores sent = record {
    short = subst (λ (l : List (List ℕ)). length l ≤ 2 ^ 62) (sym e) short;
    values = subst AllValues (sym e) values;
    asks = subst (AllAsked ms.count asked) (sym e) asks;
    stores = subst (λ (l : List (List ℕ)). (i : ℕ) → i < ms.count → IsWhole l (w.store i)) (sym e) stores;
    sent = subst (λ (l : List (List ℕ)). AllByRecursion (EnvelopeMatches l) w.messages) (sym e) sent;
  }

pub lone_asking : (ms : Monitors) (w : World) (p : Plain) → OfLone ms w w.asked → OfLone ms w (with_asked p w.asked)
lone_asking ms w p O = record { short = O.short; values = O.values; asks = λ v lt. version_asked ms.count w.asked (with_asked p w.asked) w.log v (still_among p w.asked) (O.asks v lt); stores = O.stores; sent = O.sent }

pub lone_follows : (ms : Monitors) → ms.count ≡ 1 → (w : World) (p : Plain) (J : InvWith ms w (with_asked p w.asked)) → OfLone ms w (with_asked p w.asked) → events.Keeps ms w (EnvelopeMatches w.log) p J (LoneFollows ms w)
unfolding unmoved lost moved kept_only
lone_follows ms one w p J O = record {
  nothing = ((J, record { short = O.short; values = O.values; asks = O.asks; stores = O.stores; sent = O.sent }), inl refl);
  loses = λ i lt. ((lost_holds ms.count w.store w.state w.transactions w.messages w.active asked i J, record { short = O.short; values = O.values; asks = O.asks; stores = O.stores; sent = O.sent }), inl refl);
  goes_on = λ d. let N = next ms one w asked J O d in let a = d.by in (
    (
      goes_on_holds w.store w.state w.transactions w.messages w.active asked (member_of ms a.rank a.lt) J a.at a.state a.came a.on a.fits a.holds (a.fine (shares w.store w.state w.transactions w.messages w.active asked (member_of ms a.rank a.lt) J a.at)) d.y d.is,
      of_lone ms (moved w p a.rank (reaction_of d.y)) asked N.more N.is N.short N.values N.asks (stores_then d N.more N.whole)
          (all_append (EnvelopeMatches N.more) w.messages (messages_of d.y.out) (envelopes_stay N.log_prefix w.messages O.sent) (says_nothing N.more d.y.out N.tells)),
    ),
    subst (GrowsByOne w.log) (sym N.is) N.grows,
  );
  goes_down = λ d. let N = next ms one w asked J O d in let a = d.by in (
    (
      goes_down_holds w.store w.state w.transactions w.messages w.active asked (member_of ms a.rank a.lt) J a.at a.state a.came a.on a.fits a.holds (a.fine (shares w.store w.state w.transactions w.messages w.active asked (member_of ms a.rank a.lt) J a.at)) d.y d.is,
      of_lone ms (kept_only w p a.rank (reaction_of d.y)) asked N.more N.is N.short N.values N.asks (stores_then d N.more N.whole) (envelopes_stay N.log_prefix w.messages O.sent),
    ),
    subst (GrowsByOne w.log) (sym N.is) N.grows,
  );
}
  where
    asked : List Asked
    asked = with_asked p w.asked

    -- it is the only monitor
    stores_then : (d : Does ms w (EnvelopeMatches w.log) asked J) (more : List (List ℕ)) → IsWhole more (written (w.store d.by.rank) d.y) → (j : ℕ) → j < ms.count → IsWhole more (put_at w.store d.by.rank (written (w.store d.by.rank) d.y) j)
    stores_then d more h =
        at_put (λ (j : ℕ) (u : Store) (s : ℕ). j < ms.count → IsWhole more u) w.store (λ j. 0) d.by.rank (written (w.store d.by.rank) d.y) 0 (λ lt. h)
        (λ j ne lt. let k = ltb-true d.by.rank ms.count d.by.lt in absurd (ne (omega arith)))
