use Rattle.std.proofs.Common.{rules, arith, ◌≡◌, [], ◌∷◌, Ok, Err, cond, ap, sym, subst, ◌∙◌}
use Rattle.mon_link.specs.Histories.Happened.{Received}
use Rattle.mon_link.specs.Layers.{Grows, Sent}
use Rattle.mon_link.proofs.Layers.{grows_one, grows_then}
use Rattle.mon_link.specs.declared.link.Got.TheVariants.{Idle}
use Rattle.mon_resend.specs.Histories.{Asks}
use Rattle.mon_resend.proofs.Histories.{asks_and_sends, asks_only}
use Rattle.mon_resend.specs.Sending.{Receives, SendsEach, may_go, with_got, isnt_handed_up}
use Rattle.mon_resend.specs.World.{all_due_copies, all_passed}
use Rattle.mon_resend.proofs.Nexts.{fails, gives, shows_read, shows_then, asks_once, keeps_some}
use Rattle.mon_resend.proofs.resending.ResendingLink.next.Goals as goal

pub returns-in_err-got-clause-exactly : goal.returns-in_err-got-clause-exactly
returns-in_err-got-clause-exactly g c =
    let e : c.from_residual.result ≡ Err c.in_err-got.field-0.0 = search rules in
    let is : c.next.result ≡ Err c.in_err-got.field-0.0 = search rules in
    subst (λ r. Receives c.args.wait (g.C.Clock.left c.args.self.now.clock) c.args.self.now.run c.args.self.now.copies (g.L.Link.state c.args.self.now.inner) r c.args.self.now.run c.args.self.now.copies (g.L.Link.state c.next.new.self)) (sym e)
    (fails
    c.args.wait (g.C.Clock.left c.args.self.now.clock) c.args.self.now.run c.args.self.now.copies (g.L.Link.state c.args.self.now.inner) c.in_err-got.field-0.0 c.next.result (g.L.Link.state c.next.new.self) c.get-before.result c.next_wait-rest.result
    (shows_read _ c.get-before.result c.now.result c.get-before.ensures.value c.now.ensures.shows) c.next_wait-rest.ensures c.next.ensures.calls is)

pub returns-then-known-clause-exactly : goal.returns-then-known-clause-exactly
returns-then-known-clause-exactly g c =
    let same = ap (λ s. s.copies) c.note_arrival-again.ensures.run in
    let now = c.get-now.result in
    let came = c.in_ok-got.got in
    let after = ap (λ s. s.copies) c.note-known.ensures.kept ∙ ap (λ cs. with_got c.note-known.result.has_memory came now cs) same in
    let link = ap (λ s. g.L.Link.state s.inner) c.note-known.ensures.kept ∙ ap (λ s. g.L.Link.state s.inner) c.note_arrival-again.ensures.run in
    let goes = subst (λ cs. SendsEach (all_due_copies c.note_arrival-again.result now cs) (g.L.Link.state c.note-known.new.self.inner) (g.L.Link.state c.repeat.new.self.inner)) after c.repeat.ensures.sends in
    gives
    c.args.wait (g.C.Clock.left c.args.self.now.clock) c.args.self.now.run c.args.self.now.copies (g.L.Link.state c.args.self.now.inner)
    (g.L.Link.state c.next.new.self) came c.next.result (Ok Idle) c.repeat.new.self.run c.repeat.new.self.copies (g.L.Link.state c.repeat.new.self.inner)
    c.get-before.result now c.next_wait-rest.result c.note-known.result.has_memory
    (shows_read _ c.get-before.result c.now.result c.get-before.ensures.value c.now.ensures.shows)
    (shows_then _ _ now c.now.ensures.left (shows_read _ now c.now-2.result c.get-now.ensures.value c.now-2.ensures.shows))
    c.next_wait-rest.ensures c.next.ensures.calls (search rules)
    (ap (λ b. Ok (cond b Idle came)) (sym c.if-known.true ∙ c.note-known.ensures.known ∙ ap (λ cs. isnt_handed_up came now cs) same))
    (c.repeat.ensures.kept ∙ ap (λ cs. all_passed c.note_arrival-again.result now cs) after ∙ ap (λ b. all_passed b now (with_got c.note-known.result.has_memory came now c.args.self.now.copies)) c.note_arrival-again.ensures.may)
    (subst (λ s. SendsEach (all_due_copies (may_go came c.args.self.now.run) now (with_got c.note-known.result.has_memory came now c.args.self.now.copies)) s (g.L.Link.state c.repeat.new.self.inner)) link
    (subst (λ b. SendsEach (all_due_copies b now (with_got c.note-known.result.has_memory came now c.args.self.now.copies)) (g.L.Link.state c.note-known.new.self.inner) (g.L.Link.state c.repeat.new.self.inner)) c.note_arrival-again.ensures.may goes))
    (c.repeat.ensures.run ∙ ap (λ s. s.run) c.note-known.ensures.kept ∙ ap (λ s. s.run) c.note_arrival-again.ensures.run)

pub returns-then-known-clause-asks : goal.returns-then-known-clause-asks
returns-then-known-clause-asks g c = asks_once _ _ _ _ _ _ _ _ _ (returns-then-known-clause-exactly g c)

pub returns-then-known-clause-kept : goal.returns-then-known-clause-kept
returns-then-known-clause-kept g c = keeps_some _ _ _ _ _ _ _ _ _ (returns-then-known-clause-exactly g c)

pub returns-clause-exactly : goal.returns-clause-exactly
returns-clause-exactly g c =
    let same = ap (λ s. s.copies) c.note_arrival-again.ensures.run in
    let now = c.get-now.result in
    let came = c.in_ok-got.got in
    let after = ap (λ s. s.copies) c.note-known.ensures.kept ∙ ap (λ cs. with_got c.note-known.result.has_memory came now cs) same in
    let link = ap (λ s. g.L.Link.state s.inner) c.note-known.ensures.kept ∙ ap (λ s. g.L.Link.state s.inner) c.note_arrival-again.ensures.run in
    let goes = subst (λ cs. SendsEach (all_due_copies c.note_arrival-again.result now cs) (g.L.Link.state c.note-known.new.self.inner) (g.L.Link.state c.repeat.new.self.inner)) after c.repeat.ensures.sends in
    gives
    c.args.wait (g.C.Clock.left c.args.self.now.clock) c.args.self.now.run c.args.self.now.copies (g.L.Link.state c.args.self.now.inner)
    (g.L.Link.state c.next.new.self) came c.next.result (Ok c.in_ok-got.got) c.repeat.new.self.run c.repeat.new.self.copies (g.L.Link.state c.repeat.new.self.inner)
    c.get-before.result now c.next_wait-rest.result c.note-known.result.has_memory
    (shows_read _ c.get-before.result c.now.result c.get-before.ensures.value c.now.ensures.shows)
    (shows_then _ _ now c.now.ensures.left (shows_read _ now c.now-2.result c.get-now.ensures.value c.now-2.ensures.shows))
    c.next_wait-rest.ensures c.next.ensures.calls (search rules)
    (ap (λ b. Ok (cond b Idle came)) (sym c.if-known.false ∙ c.note-known.ensures.known ∙ ap (λ cs. isnt_handed_up came now cs) same))
    (c.repeat.ensures.kept ∙ ap (λ cs. all_passed c.note_arrival-again.result now cs) after ∙ ap (λ b. all_passed b now (with_got c.note-known.result.has_memory came now c.args.self.now.copies)) c.note_arrival-again.ensures.may)
    (subst (λ s. SendsEach (all_due_copies (may_go came c.args.self.now.run) now (with_got c.note-known.result.has_memory came now c.args.self.now.copies)) s (g.L.Link.state c.repeat.new.self.inner)) link
    (subst (λ b. SendsEach (all_due_copies b now (with_got c.note-known.result.has_memory came now c.args.self.now.copies)) (g.L.Link.state c.note-known.new.self.inner) (g.L.Link.state c.repeat.new.self.inner)) c.note_arrival-again.ensures.may goes))
    (c.repeat.ensures.run ∙ ap (λ s. s.run) c.note-known.ensures.kept ∙ ap (λ s. s.run) c.note_arrival-again.ensures.run)

pub returns-clause-asks : goal.returns-clause-asks
returns-clause-asks g c = asks_once _ _ _ _ _ _ _ _ _ (returns-clause-exactly g c)

pub returns-clause-kept : goal.returns-clause-kept
returns-clause-kept g c = keeps_some _ _ _ _ _ _ _ _ _ (returns-clause-exactly g c)

pub returns-in_err-got-clause-asks : goal.returns-in_err-got-clause-asks
returns-in_err-got-clause-asks g c = asks_once _ _ _ _ _ _ _ _ _ (returns-in_err-got-clause-exactly g c)

pub returns-in_err-got-clause-does : goal.returns-in_err-got-clause-does
returns-in_err-got-clause-does g c =
    let e : c.from_residual.result ≡ Err c.in_err-got.field-0.0 = search rules in
    let is : c.next.result ≡ Err c.in_err-got.field-0.0 = search rules in
    let old = c.args.self.now.copies in
    let slice = c.next_wait-rest.result in
    let f = c.in_err-got.field-0.0 in
    subst (λ r. Grows (g.L.Link.history c.args.self.now.inner) (λ calls. Asks c.args.wait r old old calls) (g.L.Link.history c.next.new.self)) (sym e)
    (grows_one _ _ (λ calls. Asks c.args.wait (Err f) old old calls) (Received slice c.next.result) c.next.ensures.goes_on
    (subst (λ r. Asks c.args.wait (Err f) old old (Received slice r ∷ [])) (sym is) (asks_only c.args.wait slice (omega (arith, c.next_wait-rest.ensures)) f old)))

pub returns-then-known-clause-does : goal.returns-then-known-clause-does
returns-then-known-clause-does g c =
    let same = ap (λ s. s.copies) c.note_arrival-again.ensures.run in
    let now = c.get-now.result in
    let came = c.in_ok-got.got in
    let old = c.args.self.now.copies in
    let slice = c.next_wait-rest.result in
    let again = c.note_arrival-again.result in
    let memory = c.note-known.result.has_memory in
    let after = ap (λ s. s.copies) c.note-known.ensures.kept ∙ ap (λ cs. with_got memory came now cs) same in
    let inner = ap (λ s. s.inner) c.note-known.ensures.kept ∙ ap (λ s. s.inner) c.note_arrival-again.ensures.run in
    let is : c.next.result ≡ Ok came = search rules in
    grows_then _ _ _ (λ xs. xs ≡ Received slice (Ok came) ∷ []) (Sent (all_due_copies again now (with_got memory came now old))) (λ calls. Asks c.args.wait (Ok Idle) old c.repeat.new.self.copies calls)
    (asks_and_sends
    c.args.wait slice (omega (arith, c.next_wait-rest.ensures)) came (Ok Idle) old c.repeat.new.self.copies again now memory
    (ap (λ b. Ok (cond b Idle came)) (sym c.if-known.true ∙ c.note-known.ensures.known ∙ ap (λ cs. isnt_handed_up came now cs) same))
    (c.repeat.ensures.kept ∙ ap (λ cs. all_passed again now cs) after))
    (grows_one _ _ (λ xs. xs ≡ Received slice (Ok came) ∷ []) (Received slice c.next.result) c.next.ensures.goes_on (ap (λ r. Received slice r ∷ []) is))
    (subst (λ cs. Grows (g.L.Link.history c.next.new.self) (Sent (all_due_copies again now cs)) (g.L.Link.history c.repeat.new.self.inner)) after
    (subst (λ i. Grows (g.L.Link.history i) (Sent (all_due_copies again now c.note-known.new.self.copies)) (g.L.Link.history c.repeat.new.self.inner)) inner c.repeat.ensures.grows))

pub returns-clause-does : goal.returns-clause-does
returns-clause-does g c =
    let same = ap (λ s. s.copies) c.note_arrival-again.ensures.run in
    let now = c.get-now.result in
    let came = c.in_ok-got.got in
    let old = c.args.self.now.copies in
    let slice = c.next_wait-rest.result in
    let again = c.note_arrival-again.result in
    let memory = c.note-known.result.has_memory in
    let after = ap (λ s. s.copies) c.note-known.ensures.kept ∙ ap (λ cs. with_got memory came now cs) same in
    let inner = ap (λ s. s.inner) c.note-known.ensures.kept ∙ ap (λ s. s.inner) c.note_arrival-again.ensures.run in
    let is : c.next.result ≡ Ok came = search rules in
    grows_then _ _ _ (λ xs. xs ≡ Received slice (Ok came) ∷ []) (Sent (all_due_copies again now (with_got memory came now old))) (λ calls. Asks c.args.wait (Ok c.in_ok-got.got) old c.repeat.new.self.copies calls)
    (asks_and_sends
    c.args.wait slice (omega (arith, c.next_wait-rest.ensures)) came (Ok c.in_ok-got.got) old c.repeat.new.self.copies again now memory
    (ap (λ b. Ok (cond b Idle came)) (sym c.if-known.false ∙ c.note-known.ensures.known ∙ ap (λ cs. isnt_handed_up came now cs) same))
    (c.repeat.ensures.kept ∙ ap (λ cs. all_passed again now cs) after))
    (grows_one _ _ (λ xs. xs ≡ Received slice (Ok came) ∷ []) (Received slice c.next.result) c.next.ensures.goes_on (ap (λ r. Received slice r ∷ []) is))
    (subst (λ cs. Grows (g.L.Link.history c.next.new.self) (Sent (all_due_copies again now cs)) (g.L.Link.history c.repeat.new.self.inner)) after
    (subst (λ i. Grows (g.L.Link.history i) (Sent (all_due_copies again now c.note-known.new.self.copies)) (g.L.Link.history c.repeat.new.self.inner)) inner c.repeat.ensures.grows))
