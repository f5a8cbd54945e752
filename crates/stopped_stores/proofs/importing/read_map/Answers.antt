use Rattle.std.proofs.Common.{ap, refl, sym, subst, ◌∙◌}
use Rattle.mon_journal.specs.Written.{owner_of}
use Rattle.store_tool.specs.Export.{HasExport, export_of, export_text}
use Rattle.stopped_stores.specs.Importing.{IsExport, IsExportOf}
use Rattle.stopped_stores.specs.Texts.{Stream}
use Rattle.stopped_stores.proofs.WasRead.{read_all, short_export}
use Rattle.stopped_stores.proofs.importing.read_map.Goals as goal

pub returns-then-is_same : goal.returns-then-is_same
returns-then-is_same g c =
    let before : Stream = record { bytes = g.S.Source.left c.args.source.now; faults = g.S.Source.faults c.args.source.now } in
    let after : Stream = record { bytes = g.S.Source.left c.read_all.new.source; faults = g.S.Source.faults c.read_all.new.source } in
    let r = c.in-Ok.ensures in
    let kept = c.in-Ok-read_export.kept in
    let kv = c.in-Ok-read_export.kv in
    let same = c.as_slice.ensures.value in
    let found = c.in-Ok-read_export.ensures.found in
    let exact = ap export_of (sym same) ∙ c.in-Ok-read_export.ensures.exact in
    let owner = c.is_same.ensures.same c.if-is_same.true in
    let it : IsExport kept kv c.in-Ok.bytes.items = record { form = found.0; text = sym same ∙ found.1 } in
    read_all 268435472 before after c.in-Ok.bytes.items (IsExport c.args.member.now kv) (record { visible = r.visible; most_is = r.most; whole = r.whole })
    (short_export c.in-Ok.bytes.items (owner_of kept, kv) exact)
    (record { form = subst (λ o. HasExport o kv) owner it.form; text = it.text ∙ ap (λ o. export_text o kv) owner })

pub returns-in-Ok-read_export : goal.returns-in-Ok-read_export
returns-in-Ok-read_export g c =
    let before : Stream = record { bytes = g.S.Source.left c.args.source.now; faults = g.S.Source.faults c.args.source.now } in
    let after : Stream = record { bytes = g.S.Source.left c.read_all.new.source; faults = g.S.Source.faults c.read_all.new.source } in
    let r = c.in-Ok.ensures in
    let kept = c.in-Ok-read_export.kept in
    let kv = c.in-Ok-read_export.kv in
    let same = c.as_slice.ensures.value in
    let found = c.in-Ok-read_export.ensures.found in
    let exact = ap export_of (sym same) ∙ c.in-Ok-read_export.ensures.exact in (
      refl,
      c.is_same.ensures.other c.if-is_same.false,
      read_all 268435472 before after c.in-Ok.bytes.items (IsExportOf kept) (record { visible = r.visible; most_is = r.most; whole = r.whole })
          (short_export c.in-Ok.bytes.items (owner_of kept, kv) exact)
          (record { map = kv; export = record { form = found.0; text = sym same ∙ found.1 } }),
    )
