use Rattle.std.proofs.Common.{◌≡◌, ◌+◌, ◌<◌, ◌^◌, ℕ, List, Option, Ok, take, drop, subst, arith}
use Rattle.std.specs.Prelude.{IfSome}
use Rattle.mon_journal.specs.Content.{HeadAt}
use Rattle.mon_journal.specs.Pieces.{left_at}
use Rattle.mon_journal.proofs.Walks.{next_one}
use Rattle.mon_journal.proofs.reader.Reader.next_payload.Goals as goal

pub overflow_add-self : goal.overflow_add-self
overflow_add-self g c =
    let fits : c.args.self.now.gate + 5 + c.in-Some.length < 2 ^ 64 = subst (λ (o : Option ℕ). IfSome o (λ n. c.args.self.now.gate + 5 + n < 2 ^ 64)) c.in-Some.is c.in_ok-length.ensures.fits in
    omega (arith, fits)

pub overflow_add-self-3 : goal.overflow_add-self-3
overflow_add-self-3 g c =
    let fits : c.args.self.now.gate + 5 + c.in-Some.length < 2 ^ 64 = subst (λ (o : Option ℕ). IfSome o (λ n. c.args.self.now.gate + 5 + n < 2 ^ 64)) c.in-Some.is c.in_ok-length.ensures.fits in
    omega (arith, fits)

pub returns-clause-next : goal.returns-clause-next
returns-clause-next g c =
    let s = (g.D.Disk.state c.args.disk.now).content.seen in
    let gate = c.args.self.now.gate in
    let head = subst (λ (o : Option ℕ). IfSome s (λ file. HeadAt (Ok o) (left_at gate file))) c.in-Some.is c.in_ok-length.ensures.head in
    let read = subst (λ (t : Option (List ℕ)). IfSome t (λ file. c.in_ok-payload.payload.items ≡ take c.in-Some.length (drop (gate + 5) file))) c.in_ok-length.ensures.disk.seen c.in_ok-payload.ensures.bytes in
    next_one (λ v. v.items) s gate (gate + (5 + c.in-Some.length)) c.in-Some.length c.in_ok-payload.payload (omega arith) read head
