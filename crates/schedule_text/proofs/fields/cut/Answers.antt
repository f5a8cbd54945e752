use Rattle.std.proofs.Common.{◌≡◌, ◌+◌, ◌-◌, length, take, drop, refl, add-one, length-drop, arith}
use Rattle.std.proofs.lemmas.List.{take_all}
use Rattle.schedule_text.proofs.Cuts.{cut_nowhere, cut_first}
use Rattle.schedule_text.proofs.fields.cut.Goals as goal

pub returns-in-Some-clause-first : goal.returns-in-Some-clause-first
returns-in-Some-clause-first c =
    rw (cut_first c.args.separator c.args.bytes.now c.in-Some.end c.in-Some.ensures.0 c.in-Some.ensures.1) refl

pub returns-in-Some-clause-rest : goal.returns-in-Some-clause-rest
returns-in-Some-clause-rest c =
    let bytes = c.args.bytes.now in
    let separated = drop (c.in-Some.end + 1) bytes in
    let all : take (length bytes - (c.in-Some.end + 1)) separated ≡ separated = take_all _ separated (omega (arith, length-drop (c.in-Some.end + 1) bytes)) in
    rw (all, cut_first c.args.separator bytes c.in-Some.end c.in-Some.ensures.0 c.in-Some.ensures.1, add-one) refl

pub returns-in-None-clause-first : goal.returns-in-None-clause-first
returns-in-None-clause-first c = rw (cut_nowhere c.args.separator c.args.bytes.now c.in-None.ensures) refl

pub returns-in-None-clause-rest : goal.returns-in-None-clause-rest
returns-in-None-clause-rest c = rw (cut_nowhere c.args.separator c.args.bytes.now c.in-None.ensures) refl
