use Rattle.std.proofs.Common.{rules, ◌≡◌, ◌+◌, ℕ, List, drop, get_or, refl, sym, ap, ◌∙◌, arith}
use Rattle.std.proofs.lemmas.List.{at_drop_all, at_drop_more}
use Rattle.mon_record.specs.Entries.{reading}
use Rattle.mon_record.specs.Tapes.{missed, noted, read}
use Rattle.mon_record.proofs.recorder.Recorder.reads.Goals as goal

pub loop-time-preserved : goal.loop-time-preserved
loop-time-preserved g c =
    let times = c.times-time-items.result.now in
    let i = c.loop-time.time-index in
    let t = c.loop-time.self.tape in
    let noted_is : c.note.new.self ≡ noted (reading (get_or times i 0)) t = search rules in
    let more : read (drop i times) t ≡ read (drop (i + 1) times) (noted (reading (get_or times i 0)) t) =
    at_drop_more (λ (xs : List ℕ). read xs t) times i 0 (omega arith) in
    record {
      left = ap (read (drop (i + 1) times)) noted_is ∙ sym more ∙ c.loop-time.invariant.left;
      sink = c.loop-time.invariant.sink;
    }

pub returns-clause-tape : goal.returns-clause-tape
returns-clause-tape g c =
    let times = c.times-time-items.result.now in
    let i = c.loop-time.time-index in
    let t = c.loop-time.self.tape in
    let all : read (drop i times) t ≡ t = at_drop_all (λ (xs : List ℕ). read xs t) times i (omega arith) in
    let is : t ≡ read times c.args.self.now.tape = sym all ∙ c.loop-time.invariant.left in
    let missed_is : c.miss.new.self ≡ missed c.args.readings.missed t = search rules in
    missed_is ∙ ap (missed c.args.readings.missed) (is ∙ ap (λ (xs : List ℕ). read xs c.args.self.now.tape) c.times-time-items.ensures)
