use Rattle.std.proofs.Common.{rules, ◌≡◌, subst, Some, None}
use Rattle.std.specs.List.{position}
use Rattle.mon_frag.specs.Keeping.{Outcome, Takes, is_of}
use Rattle.mon_frag.proofs.Lists.{piece_found}
use Rattle.mon_frag.proofs.assembly.Assembly.take_piece.Goals as goal

pub returns-in-Some : goal.returns-in-Some
returns-in-Some c =
    let found : Some c.in-Some.at ≡ position (is_of c.args.from c.args.header.boot c.args.header.seq) c.args.self.now = search rules in
    subst (λ (out : Outcome). Takes c.add.result c.args.self.now c.add.new.self out)
    (piece_found c.args.from c.args.header c.args.bytes.now c.args.self.now (Some c.in-Some.at) found) c.add.ensures

pub returns-in-None : goal.returns-in-None
returns-in-None c =
    let none : None ≡ position (is_of c.args.from c.args.header.boot c.args.header.seq) c.args.self.now = search rules in
    subst (λ (out : Outcome). Takes c.begin.result c.args.self.now c.begin.new.self out)
    (piece_found c.args.from c.args.header c.args.bytes.now c.args.self.now None none) c.begin.ensures
