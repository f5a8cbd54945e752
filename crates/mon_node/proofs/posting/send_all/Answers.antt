use Rattle.std.proofs.Common.{◌≡◌, ℕ, Ok, Err, length, sym, ap, subst, ◌∙◌, arith}
use Rattle.std.proofs.lemmas.Result.{err_from_is_err_and}
use Rattle.std.proofs.lemmas.Iterator.Adapters.{YieldsList-from_vec}
use Rattle.std.proofs.lemmas.Iterator.Consumers.{YieldsList-turn, YieldsList-end}
use Rattle.std.proofs.lemmas.List.{length_push}
use Rattle.mon_kv.specs.Readers.{epoch}
use Rattle.mon_node.specs.Posting.{Posts, letter, datagrams_of}
use Rattle.mon_node.specs.declared.end.NodeEnd.{NodeEnd}
use Rattle.mon_node.specs.Sends.{link_now}
use Rattle.mon_node.proofs.Sending.{AreSentSoFar, all_left, never_sent, letter_sent, letter_stops, letter_spent, letters_done, number_behind}
use Rattle.mon_node.proofs.posting.send_all.Goals as goal

pub returns-in_err-letter-clause-posts : goal.returns-in_err-letter-clause-posts
returns-in_err-letter-clause-posts g c =
    let l = c.loop-sent in
    let p = err_from_is_err_and c.from_residual.result c.from_residual.ensures.1 in
    rw (p.1, p.2)
    (never_sent c.args.me.now c.args.kv.now c.args.next.now c.args.out (length l.yielded) l.next (link_now g.L.Link.state g.L.Link.history c.args.link.now) (link_now g.L.Link.state g.L.Link.history l.link) l.invariant)

pub returns-in_err-send_letter-clause-posts : goal.returns-in_err-send_letter-clause-posts
returns-in_err-send_letter-clause-posts g c =
    let l = c.loop-sent in
    let me = c.args.me.now in
    let m = c.args.kv.now in
    let x = c.in-Some.sent in
    let t = YieldsList-turn (YieldsList-from_vec {s = c.into_iter-sent-iterator.result} c.args.out (c.into_iter-sent-iterator.ensures.into_iter_gives.0 ∙ c.into_vec-sent-items.ensures) (c.into_iter-sent-iterator.ensures.into_iter_gives.1 ∙ c.into_vec-sent-items.result.ok.0 ∙ ap length c.into_vec-sent-items.ensures)) l.yielded l.sent-iterator l.yielded_by c.next.result c.next.new.self c.in-Some.sent c.in-Some.is c.next.ensures.steps in
    let text = c.in_ok-letter.letter in
    let e = c.in_err-send_letter.field-0.0 in
    let now = link_now g.L.Link.state g.L.Link.history l.link in
    let new = link_now g.L.Link.state g.L.Link.history c.send_letter.new.link in
    let p = err_from_is_err_and c.from_residual-in_err-send_letter.result c.from_residual-in_err-send_letter.ensures.1 in
    let is : text ≡ letter me (epoch m) x = c.in_ok-letter.ensures.letter ∙ ap (λ (n : ℕ). letter me n x) (c.known-epoch.ensures ∙ c.epoch.ensures.value) in
    let posts = subst (λ (boot : ℕ). Posts {T = Unit {0}} {E = NodeEnd} (datagrams_of boot l.next text) (Err e) now new) c.boot_count-boot.ensures.0 c.in_err-send_letter.ensures.posts in
    rw (p.1, p.2)
    (letter_stops me m c.args.next.now c.args.out (length l.yielded) l.next (link_now g.L.Link.state g.L.Link.history c.args.link.now) now l.invariant
    x text t.0 t.1 is new e e posts c.send_letter.ensures.unsent)

pub returns-in_err-send_letter-clause-spent : goal.returns-in_err-send_letter-clause-spent
returns-in_err-send_letter-clause-spent g c =
    let l = c.loop-sent in
    let me = c.args.me.now in
    let m = c.args.kv.now in
    let x = c.in-Some.sent in
    let t = YieldsList-turn (YieldsList-from_vec {s = c.into_iter-sent-iterator.result} c.args.out (c.into_iter-sent-iterator.ensures.into_iter_gives.0 ∙ c.into_vec-sent-items.ensures) (c.into_iter-sent-iterator.ensures.into_iter_gives.1 ∙ c.into_vec-sent-items.result.ok.0 ∙ ap length c.into_vec-sent-items.ensures)) l.yielded l.sent-iterator l.yielded_by c.next.result c.next.new.self c.in-Some.sent c.in-Some.is c.next.ensures.steps in
    let text = c.in_ok-letter.letter in
    let p = err_from_is_err_and c.from_residual-in_err-send_letter.result c.from_residual-in_err-send_letter.ensures.1 in
    let is : text ≡ letter me (epoch m) x = c.in_ok-letter.ensures.letter ∙ ap (λ (n : ℕ). letter me n x) (c.known-epoch.ensures ∙ c.epoch.ensures.value) in
    rw (p.1, p.2)
    (letter_spent me m c.args.next.now c.args.out (length l.yielded) l.next (link_now g.L.Link.state g.L.Link.history c.args.link.now) (link_now g.L.Link.state g.L.Link.history l.link) l.invariant
    x text t.0 t.1 is c.in_err-send_letter.field-0.0 c.in_err-send_letter.ensures.spent)

pub loop-sent-preserved : goal.loop-sent-preserved
loop-sent-preserved g c =
    let l = c.loop-sent in
    let me = c.args.me.now in
    let m = c.args.kv.now in
    let x = c.in-Some.sent in
    let t = YieldsList-turn (YieldsList-from_vec {s = c.into_iter-sent-iterator.result} c.args.out (c.into_iter-sent-iterator.ensures.into_iter_gives.0 ∙ c.into_vec-sent-items.ensures) (c.into_iter-sent-iterator.ensures.into_iter_gives.1 ∙ c.into_vec-sent-items.result.ok.0 ∙ ap length c.into_vec-sent-items.ensures)) l.yielded l.sent-iterator l.yielded_by c.next.result c.next.new.self c.in-Some.sent c.in-Some.is c.next.ensures.steps in
    let text = c.in_ok-letter.letter in
    let u = c.in_ok-send_letter.field-0 in
    let now = link_now g.L.Link.state g.L.Link.history l.link in
    let new = link_now g.L.Link.state g.L.Link.history c.send_letter.new.link in
    let is : text ≡ letter me (epoch m) x = c.in_ok-letter.ensures.letter ∙ ap (λ (n : ℕ). letter me n x) (c.known-epoch.ensures ∙ c.epoch.ensures.value) in
    let posts = subst (λ (boot : ℕ). Posts {T = Unit {0}} {E = NodeEnd} (datagrams_of boot l.next text) (Ok u) now new) c.boot_count-boot.ensures.0 c.in_ok-send_letter.ensures.posts in
    subst (λ (k : ℕ). AreSentSoFar me m c.args.next.now c.args.out k c.send_letter.new.next (link_now g.L.Link.state g.L.Link.history c.args.link.now) new) (sym (length_push l.yielded x))
    (letter_sent me m c.args.next.now c.args.out (length l.yielded) l.next (link_now g.L.Link.state g.L.Link.history c.args.link.now) now l.invariant
    x text t.0 t.1 is new u c.send_letter.new.next c.in_ok-send_letter.ensures.behind c.in_ok-send_letter.ensures.most posts)

pub returns-clause-posts : goal.returns-clause-posts
returns-clause-posts g c =
    let l = c.loop-sent in
    let t = YieldsList-end (YieldsList-from_vec {s = c.into_iter-sent-iterator.result} c.args.out (c.into_iter-sent-iterator.ensures.into_iter_gives.0 ∙ c.into_vec-sent-items.ensures) (c.into_iter-sent-iterator.ensures.into_iter_gives.1 ∙ c.into_vec-sent-items.result.ok.0 ∙ ap length c.into_vec-sent-items.ensures)) l.yielded l.sent-iterator l.yielded_by c.next.result c.next.new.self c.in-None.is c.next.ensures.steps in
    letters_done c.args.me.now c.args.kv.now c.args.next.now c.args.out (length l.yielded) l.next (link_now g.L.Link.state g.L.Link.history c.args.link.now) (link_now g.L.Link.state g.L.Link.history l.link) l.invariant _ (omega (arith, t.1))

pub returns-clause-behind : goal.returns-clause-behind
returns-clause-behind g c =
    let l = c.loop-sent in
    let t = YieldsList-end (YieldsList-from_vec {s = c.into_iter-sent-iterator.result} c.args.out (c.into_iter-sent-iterator.ensures.into_iter_gives.0 ∙ c.into_vec-sent-items.ensures) (c.into_iter-sent-iterator.ensures.into_iter_gives.1 ∙ c.into_vec-sent-items.result.ok.0 ∙ ap length c.into_vec-sent-items.ensures)) l.yielded l.sent-iterator l.yielded_by c.next.result c.next.new.self c.in-None.is c.next.ensures.steps in
    number_behind c.args.me.now c.args.kv.now c.args.next.now c.args.out (length l.yielded) l.next (link_now g.L.Link.state g.L.Link.history c.args.link.now) (link_now g.L.Link.state g.L.Link.history l.link) l.invariant (omega (arith, t.1))

pub loop-sent-init : goal.loop-sent-init
loop-sent-init g c = all_left c.args.me.now c.args.kv.now c.args.next.now c.args.out (link_now g.L.Link.state g.L.Link.history c.args.link.now) c.requires.next
