-- Facts of each item of a list, and items that a list has, from the crate that walks the table.
pub use Rattle.table_walk.proofs.Lists.{all_map, all_append, all_both, all_of, all_filter, all_flat_map, all_drop, all_get, Among, all_among, among_append, among_left, among_right}
