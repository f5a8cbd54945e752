use Rattle.std.proofs.Common.{rules, ◌≡◌, [], ◌∷◌, Ok, Err, refl, subst, sym, ap, ◌∙◌}
use Rattle.mon_link.specs.Histories.Happened.{Received}
use Rattle.mon_link.specs.Layers.{Grows}
use Rattle.mon_link.specs.Links.{count_after}
use Rattle.mon_link.proofs.Layers.{grows_one, grows_then}
use Rattle.mon_types.specs.declared.names.Stop.{Stop}
use Rattle.mon_link.specs.declared.link.Got.{Got}
use Rattle.mon_watch.specs.Answering.{admitted, asker, handed, passed}
use Rattle.mon_watch.specs.Histories.{AnswerIsSent, Asks, watching}
use Rattle.mon_watch.specs.Traffic.{notes_got}
use Rattle.mon_watch.proofs.Histories.{asks_and_answers, asks_only}
use Rattle.mon_watch.proofs.watched.WatchedLink.next.Goals as goal

pub returns-in-Err-clause-asks : goal.returns-in-Err-clause-asks
returns-in-Err-clause-asks g c =
    let old = (g.L.Link.state c.args.self.now.inner).faults in
    let still : (g.L.Link.state c.answers_if.new.self.inner).faults ≡ old = search rules in
    record {
      gave = Ok c.in_ok-got.got;
      between = g.L.Link.state c.next.new.self;
      asks = search rules;
      passes = record {
        now = c.now-moment.result;
        shows = search rules;
        notes = search rules;
        untils = search rules;
        went = Err c.in-Err.stop;
        unkept = g.L.Keeps.unkept c.next.new.self;
        sends = search rules;
        hands = refl;
      };
      faults = still ∙ ap (λ (e : Stop). count_after {T = Got} (Err e) old) (sym c.in-Err.ensures.memory);
    }

pub returns-in_err-got-clause-does : goal.returns-in_err-got-clause-does
returns-in_err-got-clause-does g c =
    let old = watching c.args.self.now.watch.member c.args.self.now.notes in
    let f = c.in_err-got.field-0.0 in
    let is : c.next.result ≡ Err f = search rules in
    let e : c.from_residual.result ≡ Err f = search rules in
    grows_one _ _ _ (Received c.args.wait c.next.result) c.next.ensures.goes_on
    (subst (λ r. Asks c.args.wait r old old (Received c.args.wait c.next.result ∷ [])) (sym e)
    (subst (λ r. Asks c.args.wait (Err f) old old (Received c.args.wait r ∷ [])) (sym is) (asks_only c.args.wait f old)))

pub returns-in-Ok-clause-does : goal.returns-in-Ok-clause-does
returns-in-Ok-clause-does g c =
    let old = watching c.args.self.now.watch.member c.args.self.now.notes in
    let new = watching c.answers_if.new.self.watch.member c.answers_if.new.self.notes in
    let got = c.in_ok-got.got in
    let now = c.now-moment.result in
    let untils = c.args.self.now.watch.answered in
    let is : c.next.result ≡ Ok got = search rules in
    let noted : new ≡ watching old.member (notes_got now (passed got) old.notes) = search rules in
    let hands : Ok c.passed-got.result ≡ handed got (Ok tt) = search rules in
    let sent : Grows (g.L.Link.history c.next.new.self) (AnswerIsSent (admitted now untils (asker got)) new (Ok tt)) (g.L.Link.history c.answers_if.new.self.inner) = search rules in
    grows_then _ _ _ (λ xs. xs ≡ Received c.args.wait (Ok got) ∷ []) (AnswerIsSent (admitted now untils (asker got)) new (Ok tt)) (λ calls. Asks c.args.wait (Ok c.passed-got.result) old new calls)
    (asks_and_answers c.args.wait got (Ok c.passed-got.result) old new now untils (Ok tt) noted hands)
    (grows_one _ _ (λ xs. xs ≡ Received c.args.wait (Ok got) ∷ []) (Received c.args.wait c.next.result) c.next.ensures.goes_on (ap (λ r. Received c.args.wait r ∷ []) is))
    sent

pub returns-in-Err-clause-does : goal.returns-in-Err-clause-does
returns-in-Err-clause-does g c =
    let old = watching c.args.self.now.watch.member c.args.self.now.notes in
    let new = watching c.answers_if.new.self.watch.member c.answers_if.new.self.notes in
    let got = c.in_ok-got.got in
    let now = c.now-moment.result in
    let untils = c.args.self.now.watch.answered in
    let is : c.next.result ≡ Ok got = search rules in
    let noted : new ≡ watching old.member (notes_got now (passed got) old.notes) = search rules in
    let hands : Err c.in-Err.stop ≡ handed got (Err c.in-Err.stop) = search rules in
    let sent : Grows (g.L.Link.history c.next.new.self) (AnswerIsSent (admitted now untils (asker got)) new (Err c.in-Err.stop)) (g.L.Link.history c.answers_if.new.self.inner) = search rules in
    grows_then _ _ _ (λ xs. xs ≡ Received c.args.wait (Ok got) ∷ []) (AnswerIsSent (admitted now untils (asker got)) new (Err c.in-Err.stop)) (λ calls. Asks c.args.wait (Err c.in-Err.stop) old new calls)
    (asks_and_answers c.args.wait got (Err c.in-Err.stop) old new now untils (Err c.in-Err.stop) noted hands)
    (grows_one _ _ (λ xs. xs ≡ Received c.args.wait (Ok got) ∷ []) (Received c.args.wait c.next.result) c.next.ensures.goes_on (ap (λ r. Received c.args.wait r ∷ []) is))
    sent
