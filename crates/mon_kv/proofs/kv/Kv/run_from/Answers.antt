use Rattle.std.proofs.Common.{◌≡◌, ◌≢◌, ◌<◌, ◌≤◌, eqb, inl, inr, true, false, [], ◌∷◌, ◌++◌, map, length, sym, ap, subst, ◌∙◌, arith, rules}
use Rattle.std.specs.Option.{option_map}
use Rattle.std.proofs.lemmas.List.{map-append, length-map}
use Rattle.mon_tx.specs.Keys.{is_local}
use Rattle.mon_kv.specs.Readers.{found_of, entries_after}
use Rattle.mon_kv.specs.Chunks.{shared_of, entry_len, run_of, plain}
use Rattle.mon_kv.proofs.ChunkLaws.{RunsOn, shorter, skips, takes, runs_push, runs_full, runs_long, runs_more}
use Rattle.mon_kv.proofs.kv.Kv.run_from.Goals as goal

pub loop-found-smaller-then-is_local : goal.loop-found-smaller-then-is_local
loop-found-smaller-then-is_local c =
    let found = sym (ap (option_map found_of) c.in-Some.is) ∙ c.next_found.ensures.value in
    let m = c.args.self.now in
    let h : length (entries_after m (c.as_slice-passed_prefix.result.now, c.as_slice-passed_key.result.now)) < length (entries_after m (c.loop-found.passed_prefix.now, c.loop-found.passed_key.now)) =
    rw (c.as_slice-passed_prefix.ensures.value, c.as_slice-passed_key.ensures.value) (shorter m (c.loop-found.passed_prefix.now, c.loop-found.passed_key.now) (found_of c.in-Some.found) found) in
    h

pub loop-found-preserved-then-is_local : goal.loop-found-preserved-then-is_local
loop-found-preserved-then-is_local c =
    let found = sym (ap (option_map found_of) c.in-Some.is) ∙ c.next_found.ensures.value in
    let m = c.args.self.now in
    let last = c.last_committed-last.result in
    let own : is_local last (c.in-Some.found.prefix.now, c.in-Some.found.key.now) ≡ true = search rules in
    rw (c.as_slice-passed_prefix.ensures.value, c.as_slice-passed_key.ensures.value)
    (subst (RunsOn _ c.args.room c.args.most (map plain c.loop-found.entries.items) c.loop-found.left) (skips m (c.loop-found.passed_prefix.now, c.loop-found.passed_key.now) (found_of c.in-Some.found) found last own) c.loop-found.invariant)

pub loop-found-smaller : goal.loop-found-smaller
loop-found-smaller c =
    let found = sym (ap (option_map found_of) c.in-Some.is) ∙ c.next_found.ensures.value in
    let m = c.args.self.now in
    let h : length (entries_after m (c.as_slice-passed_prefix.result.now, c.as_slice-passed_key.result.now)) < length (entries_after m (c.loop-found.passed_prefix.now, c.loop-found.passed_key.now)) =
    rw (c.as_slice-passed_prefix.ensures.value, c.as_slice-passed_key.ensures.value) (shorter m (c.loop-found.passed_prefix.now, c.loop-found.passed_key.now) (found_of c.in-Some.found) found) in
    h

pub loop-found-preserved : goal.loop-found-preserved
loop-found-preserved c =
    let found = sym (ap (option_map found_of) c.in-Some.is) ∙ c.next_found.ensures.value in
    let m = c.args.self.now in
    let last = c.last_committed-last.result in
    let e = found_of c.in-Some.found in
    let items = c.loop-found.entries.items in
    let all = shared_of last (entries_after m (c.args.prefix.now, c.args.key.now)) in
    let other : is_local last (c.in-Some.found.prefix.now, c.in-Some.found.key.now) ≡ false = search rules in
    let before : RunsOn all c.args.room c.args.most (map plain items) c.loop-found.left (e ∷ shared_of last (entries_after m e.0)) =
    subst (RunsOn all c.args.room c.args.most (map plain items) c.loop-found.left) (takes m (c.loop-found.passed_prefix.now, c.loop-found.passed_key.now) e found last other) c.loop-found.invariant in
    let not_full : length (map plain items) ≢ c.args.most = λ full. c.if-len-most.false (omega (arith, full, length-map items plain, c.len.ensures)) in
    let fits : entry_len e ≤ c.loop-found.left = omega (arith, c.entry_len-len.ensures, c.if-len-left.false) in
    let pushed : map plain c.push.new.self.items ≡ map plain items ++ e ∷ [] = ap (map plain) c.in_ok-push.ensures.items ∙ map-append plain items (c.in_ok-copied.field-0 ∷ []) ∙ ap (λ x. map plain items ++ x ∷ []) c.in_ok-copied.ensures in
    rw (pushed, c.entry_len-len.ensures, c.as_slice-passed_prefix.ensures.value, c.as_slice-passed_key.ensures.value) (runs_push all c.args.room c.args.most (map plain items) c.loop-found.left e _ before not_full fits)

pub returns-then-len-most : goal.returns-then-len-most
returns-then-len-most c =
    let found = sym (ap (option_map found_of) c.in-Some.is) ∙ c.next_found.ensures.value in
    let m = c.args.self.now in
    let last = c.last_committed-last.result in
    let e = found_of c.in-Some.found in
    let items = c.loop-found.entries.items in
    let all = shared_of last (entries_after m (c.args.prefix.now, c.args.key.now)) in
    let other : is_local last (c.in-Some.found.prefix.now, c.in-Some.found.key.now) ≡ false = search rules in
    let before : RunsOn all c.args.room c.args.most (map plain items) c.loop-found.left (e ∷ shared_of last (entries_after m e.0)) =
    subst (RunsOn all c.args.room c.args.most (map plain items) c.loop-found.left) (takes m (c.loop-found.passed_prefix.now, c.loop-found.passed_key.now) e found last other) c.loop-found.invariant in
    let len : length (map plain items) ≡ c.len.result = omega (arith, length-map items plain, c.len.ensures) in
    let run : map plain items ≡ run_of c.args.room c.args.most all = elim c.then-len-most.either [
      | inl full ↦ runs_full all c.args.room c.args.most (map plain items) c.loop-found.left e _ before (len ∙ full)
      | inr long ↦ runs_long all c.args.room c.args.most (map plain items) c.loop-found.left e _ before (λ full. long.0 (sym len ∙ full)) (omega (arith, long.1, c.entry_len-len.ensures))
    ] in
    let more : eqb (length items) (length all) ≡ false = ap (λ n. eqb n (length all)) (sym (length-map items plain)) ∙ runs_more all c.args.room c.args.most (map plain items) c.loop-found.left e _ before in
    rw (← c.last_committed-last.ensures.0) (record { entries = run; done = sym more })
