use Rattle.std.proofs.Common.{◌≡◌, true, Some, None, sym, ap, ◌∙◌, length, arith}
use Rattle.std.specs.FinMap.Entries.{find, is_sorted}
use Rattle.mon_kv.specs.Tree.{bytes_cmp, entries}
use Rattle.mon_kv.proofs.Forks.{without}
use Rattle.mon_kv.proofs.RangeLaws.{frees_some, frees_none}
use Rattle.mon_kv.proofs.areas.erase_version.Goals as goal

pub returns-in-Some-clause-freed : goal.returns-in-Some-clause-freed
returns-in-Some-clause-freed c =
    let sorted : is_sorted bytes_cmp (entries c.args.records.now) ≡ true = c.requires.in_order in
    let left : entries c.remove.new.self ≡ without c.as_bytes.result.now (entries c.args.records.now) = c.remove.ensures.entries c.requires.in_order in
    let found : find bytes_cmp c.as_bytes.result.now (entries c.args.records.now) ≡ Some c.as_slice.result.now = sym (c.remove.ensures.value c.requires.in_order) ∙ c.in-Some.is ∙ ap Some (sym c.as_slice.ensures) in
    let frees = frees_some c.args.prefix_len c.as_bytes.result.now (entries c.args.records.now) (entries c.remove.new.self) sorted left c.as_slice.result.now found in
    omega (arith, frees, ap length c.as_bytes.ensures.value)

pub returns-in-None-clause-freed : goal.returns-in-None-clause-freed
returns-in-None-clause-freed c =
    let sorted : is_sorted bytes_cmp (entries c.args.records.now) ≡ true = c.requires.in_order in
    let left : entries c.remove.new.self ≡ without c.as_bytes.result.now (entries c.args.records.now) = c.remove.ensures.entries c.requires.in_order in
    let found : find bytes_cmp c.as_bytes.result.now (entries c.args.records.now) ≡ None = sym (c.remove.ensures.value c.requires.in_order) ∙ c.in-None.is in
    frees_none c.args.prefix_len c.as_bytes.result.now (entries c.args.records.now) (entries c.remove.new.self) sorted left found

pub overflow_add-result-in-Some-2 : goal.overflow_add-result-in-Some-2
overflow_add-result-in-Some-2 c =
    let left : entries c.remove.new.self ≡ without c.as_bytes.result.now (entries c.args.records.now) = c.remove.ensures.entries c.requires.in_order in
    let found : find bytes_cmp c.as_bytes.result.now (entries c.args.records.now) ≡ Some c.as_slice.result.now = sym (c.remove.ensures.value c.requires.in_order) ∙ c.in-Some.is ∙ ap Some (sym c.as_slice.ensures) in
    let frees = frees_some c.args.prefix_len c.as_bytes.result.now (entries c.args.records.now) (entries c.remove.new.self) c.requires.in_order left c.as_slice.result.now found in
    omega (arith, frees, ap length c.as_bytes.ensures.value, c.requires.fits)

pub overflow_add-result-in-Some : goal.overflow_add-result-in-Some
overflow_add-result-in-Some c = omega (arith, overflow_add-result-in-Some-2 c)

pub overflow_add-result : goal.overflow_add-result
overflow_add-result c = omega (arith, overflow_add-result-in-Some-2 c)
