-- What the log's laws say of values: each that a command makes is passed on, and so is what a store shares.
use Rattle.law_names.proofs.Table.{AllByRecursion, Cell, Copy, Readings, Store, ops_of, readings_of, shared_entries, value}
use Rattle.log_model.proofs.AnyValue.{value_reads, value_records, value_spares}
use Rattle.log_model.proofs.SharedEntries.{shared_records, shared_spares}
use Rattle.mon_msg.specs.Protocol.Readings.{cell_after}
use Rattle.mon_tx.specs.declared.key.Area.TheVariants as area
use Rattle.mon_tx.specs.declared.key.Key.TheVariants as key
use Rattle.quorum_walk.proofs.FineCourses.{CellFine, EntryFine, Made, RecordsFine}
use Rattle.quorum_walk.proofs.Lists.{all_both, all_map}
use Rattle.quorum_walk.proofs.Sparing.{Copied, Spares}
use Rattle.std.proofs.Common.{ap, sym, ℕ, ◌∙◌}

pub made : Made
made w S c asked x form rank last next e =
    let r = value_reads w c asked x e form rank last next in
    record {
      over = S.0;
      command = c;
      form = form;
      asked = asked;
      rank = rank;
      made = ap (λ (v : Readings). value v c asked) (sym S.1) ∙ e;
      spares = value_spares w c asked x e;
      reads = r.1;
      short = r.0;
      records = value_records w c asked x e;
    }

entry_fine : (e : Copied) → Spares (ops_of (Copy e)) × ((u : ℕ) (c : Cell) → CellFine c → CellFine (cell_after (ops_of (Copy e)) area.Paxos (key.Version u) c)) → EntryFine e
entry_fine e h = record { spares = h.0; cells = h.1 }

-- the entries that a store shares, if its records are passed on
pub sharing : (m : Store) → RecordsFine (readings_of m).record_of → AllByRecursion EntryFine (shared_entries m)
unfolding readings_of
sharing m R = all_map _ EntryFine entry_fine (shared_entries m) (all_both _ _ (shared_entries m) (shared_spares m) (shared_records m CellFine R))
