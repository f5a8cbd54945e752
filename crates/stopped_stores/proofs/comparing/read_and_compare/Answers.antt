use Rattle.std.proofs.Common.{Err, ap, sym, subst, ◌∙◌}
use Rattle.std.specs.Io.KnownBytes.{Appends}
use Rattle.mon_link.specs.Whole.{AppendsPrefix}
use Rattle.mon_scrub.specs.Reading.{reports_at}
use Rattle.mon_scrub.specs.Text.{compared, fields_of}
use Rattle.stopped_stores.specs.Ends.{end_of_writing}
use Rattle.stopped_stores.specs.Reading.{Compares, HaveReports}
use Rattle.stopped_stores.specs.Texts.{Stream, WritesAll}
use Rattle.stopped_stores.specs.declared.end.ToolEnd.TheVariants as end
use Rattle.stopped_stores.proofs.WasRead.{read_all, short_reports}
use Rattle.stopped_stores.proofs.Works.{ends_compared, stopped_writing}
use Rattle.stopped_stores.proofs.comparing.read_and_compare.Goals as goal

pub returns-in-Ok-write_all : goal.returns-in-Ok-write_all
returns-in-Ok-write_all g c =
    let before : Stream = record { bytes = g.S.Source.left c.args.source.now; faults = g.S.Source.faults c.args.source.now } in
    let after : Stream = record { bytes = g.S.Source.left c.read_all.new.source; faults = g.S.Source.faults c.read_all.new.source } in
    let old : Stream = record { bytes = g.K.Sink.held c.args.sink.now; faults = g.K.Sink.faults c.args.sink.now } in
    let new : Stream = record { bytes = g.K.Sink.held c.write_all.new.sink; faults = g.K.Sink.faults c.write_all.new.sink } in
    let a = c.in-Ok-parse.reports.0 in
    let b = c.in-Ok-parse.reports.1 in
    let r = c.in-Ok.ensures in
    let same = c.as_slice.ensures.value in
    let exact = ap reports_at (sym same) ∙ c.in-Ok-parse.ensures.exact in
    let text = c.as_slice-2.ensures.value ∙ c.in-Ok-compare.ensures in
    ends_compared before after old new end.Done
    (read_all 4097 before after c.in-Ok.bytes.items (HaveReports (λ a b. WritesAll (compared a b) old new end.Done)) (record { visible = r.visible; most_is = r.most; whole = r.whole })
    (short_reports c.in-Ok.bytes.items (fields_of a, fields_of b) exact)
    (record { a = a; b = b; are = record { text = sym same ∙ c.in-Ok-parse.ensures.found; read = exact }; holds = subst (Appends old.bytes new.bytes) text c.in-Ok-write_all.ensures.whole }))

pub returns : goal.returns
returns g c =
    let before : Stream = record { bytes = g.S.Source.left c.args.source.now; faults = g.S.Source.faults c.args.source.now } in
    let after : Stream = record { bytes = g.S.Source.left c.read_all.new.source; faults = g.S.Source.faults c.read_all.new.source } in
    let old : Stream = record { bytes = g.K.Sink.held c.args.sink.now; faults = g.K.Sink.faults c.args.sink.now } in
    let new : Stream = record { bytes = g.K.Sink.held c.write_all.new.sink; faults = g.K.Sink.faults c.write_all.new.sink } in
    let a = c.in-Ok-parse.reports.0 in
    let b = c.in-Ok-parse.reports.1 in
    let r = c.in-Ok.ensures in
    let same = c.as_slice.ensures.value in
    let exact = ap reports_at (sym same) ∙ c.in-Ok-parse.ensures.exact in
    let text = c.as_slice-2.ensures.value ∙ c.in-Ok-compare.ensures in
    let stop = c.in-Err-write_all.stop in
    let part = subst (AppendsPrefix old.bytes new.bytes) text c.in-Err-write_all.ensures.part in
    subst (Compares before after old new) (sym c.of_writing.ensures)
    (ends_compared before after old new (end_of_writing stop)
    (read_all 4097 before after c.in-Ok.bytes.items (HaveReports (λ a b. WritesAll (compared a b) old new (end_of_writing stop))) (record { visible = r.visible; most_is = r.most; whole = r.whole })
    (short_reports c.in-Ok.bytes.items (fields_of a, fields_of b) exact)
    (record {
      a = a;
      b = b;
      are = record { text = sym same ∙ c.in-Ok-parse.ensures.found; read = exact };
      holds = stopped_writing stop (compared a b) old new part (λ is. c.in-Err-write_all.ensures.cause.failed (ap Err is));
    })))
