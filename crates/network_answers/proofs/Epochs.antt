-- Answers are in order over all epochs, in every history that has them.
use Rattle.law_names.proofs.Runs.{Acknowledgement, Asked, Monitors}
use Rattle.law_names.proofs.Table.{Contains, entry, ops_in, put_in}
use Rattle.log_model.proofs.Lists.{of_all}
use Rattle.mon_wire.specs.declared.reply.Reply.TheVariants as reply
use Rattle.network_answers.proofs.Marks.{above, one_of_version, told_put}
use Rattle.network_answers.specs.Answers.{Answer, IsDone, IsOfLog, IsOfThisLog}
use Rattle.network_answers.specs.Epochs.{AreDoneInOrder, AreLinearizable, AreOfOneChange, AsksAnew, IsMark, IsUnasked, ShowsMark, TellsUnasked}
use Rattle.network_answers.specs.History.{Adds, HaveAnswers}
use Rattle.quorum_answers.specs.Reads.{Shows}
use Rattle.quorum_network.proofs.Names.{AllMay, IsLogOf, Step, acknowledgements, may_before, network, requests}
use Rattle.quorum_network.specs.Promises.{IsKeptBy}
use Rattle.std.proofs.Common.{List, Some, ap, arith, length, subst, sym, ℕ, ◌++◌, ◌<◌, ◌∙◌, ◌≡◌, ◌≤◌}

module _ (ms : Monitors) (H : HaveAnswers ms) (later earlier : List Step) (may : AllMay ms (later ++ earlier)) where
  abbrev steps : List Step
  steps = later ++ earlier

  abbrev old : AllMay ms earlier
  old = may_before ms later earlier may

  abbrev added : Adds ms earlier steps (H.log earlier old) (H.log steps may) (H.answers earlier old) (H.answers steps may)
  added = H.goes_on later earlier may

  abbrev before : List Asked
  before = requests ms earlier

  abbrev old_log : List (List ℕ)
  old_log = H.log earlier old

  abbrev log : List (List ℕ)
  log = H.log steps may

  abbrev was : IsLogOf ms (requests ms earlier) (acknowledgements ms earlier) (network ms earlier) old_log
  was = H.is_of earlier old

  abbrev is : IsLogOf ms (requests ms steps) (acknowledgements ms steps) (network ms steps) log
  is = H.is_of steps may

  -- ---- marks

  mark_above : (m : ℕ) → IsMark before log m → length old_log < m
  mark_above m K =
      let not_within = above ms.count before old_log added.extends.more was.values m K.service K.incremental K.some (subst (λ (xs : List (List ℕ)). Contains (put_in K.service (ops_in (entry xs m))) K.incremental) added.extends.is K.put) K.unasked in
      omega (arith, not_within)

  given_mark : (a : Acknowledgement) → Contains (acknowledgements ms steps) a → IsUnasked before a.service a.incremental → IsMark before log a.version
  given_mark a c none =
      let k = of_all (IsKeptBy ms.count (network ms steps) log) (acknowledgements ms steps) is.kept a c in
      record { some = k.some; within = k.within; service = a.service; incremental = a.incremental; put = k.put; unasked = none }

  given_within : (a : Acknowledgement) → Contains (acknowledgements ms earlier) a → a.version ≤ length old_log
  given_within a c = (of_all (IsKeptBy ms.count (network ms earlier) old_log) (acknowledgements ms earlier) was.kept a c).within

  old_is : (a : Answer) → Contains (H.answers earlier old) a → IsOfThisLog (requests ms earlier) (acknowledgements ms earlier) old_log a
  old_is a c = of_all (IsOfThisLog (requests ms earlier) (acknowledgements ms earlier) old_log) (H.answers earlier old) (H.of_log earlier old) a c

  new_is : (a : Answer) → Contains (H.answers steps may) a → IsOfThisLog (requests ms steps) (acknowledgements ms steps) log a
  new_is a c = of_all (IsOfThisLog (requests ms steps) (acknowledgements ms steps) log) (H.answers steps may) (H.of_log steps may) a c

  -- changes that are told
  tells_mark : (a : Answer) → Contains (H.answers steps may) a → TellsUnasked before a → ShowsMark before log a
  tells_mark a c t =
      let k = new_is a c in
      let told = subst (IsOfLog (requests ms steps) (acknowledgements ms steps) log a.rank a.session a.last) t.is k.of_log in
      let after = told.0 in
      let p = told_put t.service log a.last t.from t.told after.same t.incremental t.among in
      record {
        shows = subst Shows (sym t.is) tt;
        mark = p.version;
        is = record {
          some = p.some;
          within = (let low = k.within in let high = p.within in omega (arith, low, high));
          service = t.service;
          incremental = t.incremental;
          put = p.put;
          unasked = t.unasked;
        };
        to = p.within;
      }

  pub linearizable : AreLinearizable before old_log log (acknowledgements ms earlier) (acknowledgements ms steps) (H.answers earlier old) (H.answers steps may)
  linearizable = record {
    write_write = λ a b c d none.
        let low = given_within a c in
        let high = mark_above b.version (given_mark b d none) in
        omega (arith, low, high);
    write_read = λ a b c d k.
        let low = given_within a c in
        let high = mark_above k.mark k.is in
        let to = k.to in
        omega (arith, low, high, to);
    read_write = λ a b c d shows none.
        let low = (old_is a c).within in
        let high = mark_above b.version (given_mark b d none) in
        omega (arith, low, high);
    read_read = λ a b c d shows k.
        let low = (old_is a c).within in
        let high = mark_above k.mark k.is in
        let to = k.to in
        omega (arith, low, high, to);
    apart = λ a b c d same. one_of_version (acknowledgements ms steps) a b is.once c d same;
    told = tells_mark;
    above = mark_above;
  }

  -- ---- what a client sees of its writes

  done_of : (asks : List Asked) (acks : List Acknowledgement) (log : List (List ℕ)) (a : Answer) (v : ℕ) → a.reply ≡ reply.Done v → IsOfThisLog asks acks log a → IsDone asks acks log a.rank a.session v
  done_of asks acks log a v e k = subst (IsOfLog asks acks log a.rank a.session a.last) e k.of_log

  new_done : (a : Answer) (v : ℕ) → Contains (H.answers steps may) a → a.reply ≡ reply.Done v → IsDone (requests ms steps) (acknowledgements ms steps) log a.rank a.session v
  new_done a v c e = done_of (requests ms steps) (acknowledgements ms steps) log a v e (new_is a c)

  marks : (a : Answer) (v : ℕ) → Contains (H.answers steps may) a → a.reply ≡ reply.Done v → AsksAnew before (requests ms steps) a.rank a.session → IsMark before log v
  marks a v c e anew =
      let D = new_done a v c e in
      record {
        some = D.some;
        within = D.within;
        service = D.acknowledgement.service;
        incremental = D.acknowledgement.incremental;
        put = D.put;
        unasked = anew D.request D.acknowledgement.service D.acknowledgement.incremental D.requested D.made;
      }

  apart : (a b : Answer) (v : ℕ) → Contains (H.answers steps may) a → Contains (H.answers steps may) b → a.reply ≡ reply.Done v → b.reply ≡ reply.Done v → AreOfOneChange (requests ms steps) a b
  apart a b v c d e f =
      let A = new_done a v c e in
      let B = new_done b v d f in
      let same = one_of_version (acknowledgements ms steps) B.acknowledgement A.acknowledgement is.once B.among A.among (B.version ∙ sym A.version) in
      record {
        service = A.acknowledgement.service;
        incremental = A.acknowledgement.incremental;
        first = A.request;
        first_requested = A.requested;
        first_made = A.made;
        second = B.request;
        second_requested = B.requested;
        second_made = B.made ∙ ap (λ (x : Acknowledgement). Some (x.service, x.incremental)) same;
      }

  pub done_in_order : AreDoneInOrder before (requests ms steps) log (H.answers earlier old) (H.answers steps may)
  done_in_order = record {
    marks = marks;
    later = λ a b v w c d e f anew.
        let low = (done_of (requests ms earlier) (acknowledgements ms earlier) old_log a v e (old_is a c)).within in
        let high = mark_above w (marks b w d f anew) in
        omega (arith, low, high);
    unseen = λ a b w c d shows f anew.
        let low = (old_is a c).within in
        let high = mark_above w (marks b w d f anew) in
        omega (arith, low, high);
    apart = apart;
  }
