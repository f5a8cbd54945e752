use Rattle.std.proofs.Common.{◌≡◌, ℕ, List, ◌<◌, ◌^◌, ◌++◌, ◌∷◌, [], length, Some, sym, ap, subst, ◌∙◌, append_assoc, arith}
use Rattle.std.specs.List.{flat_map}
use Rattle.std.specs.FinMap.{entries, len}
use Rattle.mon_bytes.specs.Forms.{u32_bytes}
use Rattle.mon_kv.specs.Readers.{entry_of, size_of}
use Rattle.mon_store.specs.Checkpoint.{checkpoint_text, entry_text}
use Rattle.mon_store.proofs.Walks.{left, Walks, begins, left_first, fewer, goes_on, texts}
use Rattle.mon_store.proofs.checkpoint.write_checkpoint.Goals as goal

head_parts : (a b c d : List ℕ) → ((a ++ b) ++ c) ++ d ≡ a ++ (b ++ (c ++ d))
head_parts a b c d = simp append_assoc

pub loop-next-init : goal.loop-next-init
loop-next-init c =
    let m = c.args.kv.now in
    let next = c.next_entry-next.result in
    let found = c.next_entry-next.ensures.value in
    let start = c.next_entry-next.ensures.start in
    record {
      walks = begins m next found start c.next_entry-next.ensures.form;
      text = ap (λ es. c.write_count.new.out ++ flat_map entry_text es) (left_first m next found start)
          ∙ ap (λ bs. bs ++ flat_map entry_text (entries m)) (c.in_ok-write_count.ensures.ok ∙ ap (λ bs. bs ++ u32_bytes c.count.result) c.in_ok-put_u8.ensures.ok ∙ ap (λ n. (c.args.out.now ++ 128 ∷ []) ++ u32_bytes n) c.count.ensures)
          ∙ head_parts c.args.out.now (128 ∷ []) (u32_bytes (len m)) (flat_map entry_text (entries m));
    }

pub loop-next-smaller : goal.loop-next-smaller
loop-next-smaller c =
    let one = fewer c.args.kv.now c.in-Some.entry c.next_entry-next-in-Some.result c.next_entry-next-in-Some.ensures.value in
    let h : length (left c.args.kv.now c.next_entry-next-in-Some.result) < length (left c.args.kv.now (Some c.in-Some.entry)) = omega (arith, one) in
    subst (λ next. length (left c.args.kv.now c.next_entry-next-in-Some.result) < length (left c.args.kv.now next)) (sym c.in-Some.is) h

pub loop-next-preserved : goal.loop-next-preserved
loop-next-preserved c =
    let m = c.args.kv.now in
    let e = c.in-Some.entry in
    let next = c.next_entry-next-in-Some.result in
    let found = c.next_entry-next-in-Some.ensures.value in
    let small : size_of m < 2 ^ 32 = omega (arith, c.requires) in
    let walks = subst (Walks m) c.in-Some.is c.loop-next.invariant.walks in
    let text = subst (λ n. c.loop-next.out ++ flat_map entry_text (left m n) ≡ c.args.out.now ++ checkpoint_text m) c.in-Some.is c.loop-next.invariant.text in
    record {
      walks = goes_on m e next found walks small c.next_entry-next-in-Some.ensures.form;
      text = ap (λ bs. bs ++ flat_map entry_text (left m next)) c.in_ok-put_entry.ensures ∙ append_assoc c.loop-next.out (entry_text (entry_of e)) (flat_map entry_text (left m next)) ∙ ap (λ bs. c.loop-next.out ++ bs) (sym (texts m e next found)) ∙ text;
    }
