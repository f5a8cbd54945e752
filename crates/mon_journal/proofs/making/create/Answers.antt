use Rattle.std.proofs.Common.{◌≡◌, inl, Option, Some, None, ◌+◌, true, is_some, [], ◌∷◌, length, List, ℕ, Bor, option_map, ◌∙◌, subst, ap, arith}
use Rattle.std.proofs.lemmas.Result.{err_from_is_err_and}
use Rattle.mon_disk.specs.declared.disk.DiskCall.TheVariants.{Write, Sync}
use Rattle.mon_journal.specs.declared.journal.Journal.{Journal}
use Rattle.mon_journal.specs.Written.{head_bytes, first_payloads, owner_of, created}
use Rattle.mon_types.specs.declared.names.Stop.{Stop}
use Rattle.mon_disk.specs.Images.{TornFrom}
use Rattle.mon_disk.specs.Calls.{Called}
use Rattle.mon_disk.proofs.Following.{none, stopped_at, then_calls, without_memory}
use Rattle.mon_journal.specs.Steps.{Any, create_calls, CreatedFrom}
use Rattle.mon_journal.proofs.Counts.{count, at_most, all_made, begun}
use Rattle.mon_journal.proofs.Created.{reads_of, is_short, long, none_settles, closing, closing_settles, heading, heading_settles, opening, opening_settles, is_kept}
use Rattle.mon_journal.proofs.Stops.{stop_back, with_times}
use Rattle.mon_journal.proofs.making.create.Goals as goal

pub returns-in_err-write_synced-clause-call : goal.returns-in_err-write_synced-clause-call
returns-in_err-write_synced-clause-call g c =
    let first = option_map {T = Bor (List ℕ)} {U = List ℕ} (λ payload. payload.now) c.args.first in
    let head = head_bytes (owner_of c.args.member) c.args.generation first in
    let old = g.D.Disk.state c.args.disk.now in
    let made = CreatedFrom old.content (created c.args.member c.args.generation first) (first_payloads first) in
    let p = err_from_is_err_and c.from_residual-in_err-write_synced.result c.from_residual-in_err-write_synced.ensures.1 in
    let e = c.in_err-write_synced.field-0.0 in
    rw (p.1, p.2, stop_back Journal e) (with_times (TornFrom old.content 0 (0 ∷ [])) made (stopped_at (Write 1 head ∷ Sync ∷ Write 0 (1 ∷ []) ∷ Sync ∷ []) (TornFrom old.content 0 (0 ∷ [])) (TornFrom old.content 0 (0 ∷ [])) c.in_err-write_synced.ensures.call (λ d h. h))
    (closing c.args.member c.args.generation (option_map {T = Bor (List ℕ)} {U = List ℕ} (λ payload. payload.now) c.args.first) c.requires.from_one c.requires.most (is_short c.args.first c.requires.short)
    (g.D.Disk.state c.args.disk.now).content (reads_of (g.D.Disk.state c.args.disk.now).content (g.met.D.Disk.as_read c.args.disk.now)) (g.D.Disk.state c.write_synced.new.disk).content c.write_synced.ensures.call.any_time))

pub returns-in_err-write_synced-2-clause-call : goal.returns-in_err-write_synced-2-clause-call
returns-in_err-write_synced-2-clause-call g c =
    let first = option_map {T = Bor (List ℕ)} {U = List ℕ} (λ payload. payload.now) c.args.first in
    let head = head_bytes (owner_of c.args.member) c.args.generation first in
    let old = g.D.Disk.state c.args.disk.now in
    let made = CreatedFrom old.content (created c.args.member c.args.generation first) (first_payloads first) in
    let c1 = g.D.Disk.state c.write_synced.new.disk in
    let c2 = g.D.Disk.state c.write_synced-2.new.disk in
    let two : (s : Option Stop) → Called (Write 1 c.deref.result.now ∷ Sync ∷ []) (TornFrom c1.content 1 c.deref.result.now) s c1 c2 → Called (Write 1 head ∷ Sync ∷ []) (TornFrom c1.content 1 head) s c1 c2 = λ s.
    subst (λ (b : List ℕ). Called (Write 1 b ∷ Sync ∷ []) (TornFrom c1.content 1 b) s c1 c2) (c.deref.ensures.value ∙ c.in_ok-head.ensures) in
    let p = err_from_is_err_and c.from_residual-in_err-write_synced-2.result c.from_residual-in_err-write_synced-2.ensures.1 in
    let e = c.in_err-write_synced-2.field-0.0 in
    rw (p.1, p.2, stop_back Journal e) (with_times Any made (then_calls (TornFrom old.content 0 (0 ∷ [])) Any Any c.in_ok-write_synced.ensures.call (stopped_at (Write 0 (1 ∷ []) ∷ Sync ∷ []) (TornFrom c1.content 1 head) Any (two (Some e) c.in_err-write_synced-2.ensures.call) (λ d h. tt)) (λ d h. tt) (λ d h. tt))
    (heading c.args.member c.args.generation (option_map {T = Bor (List ℕ)} {U = List ℕ} (λ payload. payload.now) c.args.first) c.requires.from_one c.requires.most (is_short c.args.first c.requires.short)
    (g.D.Disk.state c.args.disk.now).content (reads_of (g.D.Disk.state c.args.disk.now).content (g.met.D.Disk.as_read c.args.disk.now)) (g.D.Disk.state c.write_synced.new.disk).content c.write_synced.ensures.call.any_time
    (g.D.Disk.state c.write_synced-2.new.disk).content c.deref.result.now (c.deref.ensures.value ∙ c.in_ok-head.ensures) c.in_ok-write_synced.ensures.seen c.in_ok-write_synced.ensures.durable c.write_synced-2.ensures.call.any_time))

pub returns-in_err-write_synced-3-clause-call : goal.returns-in_err-write_synced-3-clause-call
returns-in_err-write_synced-3-clause-call g c =
    let first = option_map {T = Bor (List ℕ)} {U = List ℕ} (λ payload. payload.now) c.args.first in
    let head = head_bytes (owner_of c.args.member) c.args.generation first in
    let old = g.D.Disk.state c.args.disk.now in
    let made = CreatedFrom old.content (created c.args.member c.args.generation first) (first_payloads first) in
    let c1 = g.D.Disk.state c.write_synced.new.disk in
    let c2 = g.D.Disk.state c.write_synced-2.new.disk in
    let two : (s : Option Stop) → Called (Write 1 c.deref.result.now ∷ Sync ∷ []) (TornFrom c1.content 1 c.deref.result.now) s c1 c2 → Called (Write 1 head ∷ Sync ∷ []) (TornFrom c1.content 1 head) s c1 c2 = λ s.
    subst (λ (b : List ℕ). Called (Write 1 b ∷ Sync ∷ []) (TornFrom c1.content 1 b) s c1 c2) (c.deref.ensures.value ∙ c.in_ok-head.ensures) in
    let p = err_from_is_err_and c.from_residual-in_err-write_synced-3.result c.from_residual-in_err-write_synced-3.ensures.1 in
    let e = c.in_err-write_synced-3.field-0.0 in
    rw (p.1, p.2, stop_back Journal e) (with_times Any made (then_calls (TornFrom old.content 0 (0 ∷ [])) Any Any c.in_ok-write_synced.ensures.call (then_calls (TornFrom c1.content 1 head) (TornFrom c2.content 0 (1 ∷ [])) Any (two None c.in_ok-write_synced-2.ensures.call) c.in_err-write_synced-3.ensures.call (λ d h. tt) (λ d h. tt)) (λ d h. tt) (λ d h. tt))
    (opening c.args.member c.args.generation (option_map {T = Bor (List ℕ)} {U = List ℕ} (λ payload. payload.now) c.args.first) c.requires.from_one c.requires.most (is_short c.args.first c.requires.short)
    (g.D.Disk.state c.args.disk.now).content (reads_of (g.D.Disk.state c.args.disk.now).content (g.met.D.Disk.as_read c.args.disk.now)) (g.D.Disk.state c.write_synced.new.disk).content c.write_synced.ensures.call.any_time
    (g.D.Disk.state c.write_synced-2.new.disk).content c.deref.result.now (c.deref.ensures.value ∙ c.in_ok-head.ensures) c.in_ok-write_synced.ensures.seen c.in_ok-write_synced.ensures.durable c.write_synced-2.ensures.call.any_time
    (g.D.Disk.state c.write_synced-3.new.disk).content c.in_ok-write_synced-2.ensures.seen c.in_ok-write_synced-2.ensures.durable c.write_synced-3.ensures.call.any_time))

pub returns-clause-call : goal.returns-clause-call
returns-clause-call g c =
    let first = option_map {T = Bor (List ℕ)} {U = List ℕ} (λ payload. payload.now) c.args.first in
    let head = head_bytes (owner_of c.args.member) c.args.generation first in
    let old = g.D.Disk.state c.args.disk.now in
    let made = CreatedFrom old.content (created c.args.member c.args.generation first) (first_payloads first) in
    let c1 = g.D.Disk.state c.write_synced.new.disk in
    let c2 = g.D.Disk.state c.write_synced-2.new.disk in
    let two : (s : Option Stop) → Called (Write 1 c.deref.result.now ∷ Sync ∷ []) (TornFrom c1.content 1 c.deref.result.now) s c1 c2 → Called (Write 1 head ∷ Sync ∷ []) (TornFrom c1.content 1 head) s c1 c2 = λ s.
    subst (λ (b : List ℕ). Called (Write 1 b ∷ Sync ∷ []) (TornFrom c1.content 1 b) s c1 c2) (c.deref.ensures.value ∙ c.in_ok-head.ensures) in
    with_times Any made (then_calls (TornFrom old.content 0 (0 ∷ [])) Any Any c.in_ok-write_synced.ensures.call (then_calls (TornFrom c1.content 1 head) (TornFrom c2.content 0 (1 ∷ [])) Any (two None c.in_ok-write_synced-2.ensures.call) c.in_ok-write_synced-3.ensures.call (λ d h. tt) (λ d h. tt)) (λ d h. tt) (λ d h. tt))
    (opening c.args.member c.args.generation (option_map {T = Bor (List ℕ)} {U = List ℕ} (λ payload. payload.now) c.args.first) c.requires.from_one c.requires.most (is_short c.args.first c.requires.short)
    (g.D.Disk.state c.args.disk.now).content (reads_of (g.D.Disk.state c.args.disk.now).content (g.met.D.Disk.as_read c.args.disk.now)) (g.D.Disk.state c.write_synced.new.disk).content c.write_synced.ensures.call.any_time
    (g.D.Disk.state c.write_synced-2.new.disk).content c.deref.result.now (c.deref.ensures.value ∙ c.in_ok-head.ensures) c.in_ok-write_synced.ensures.seen c.in_ok-write_synced.ensures.durable c.write_synced-2.ensures.call.any_time
    (g.D.Disk.state c.write_synced-3.new.disk).content c.in_ok-write_synced-2.ensures.seen c.in_ok-write_synced-2.ensures.durable c.write_synced-3.ensures.call.any_time)

-- ---- what the disk settles to

pub returns-in_err-head-clause-settles : goal.returns-in_err-head-clause-settles
returns-in_err-head-clause-settles g c =
    none_settles c.args.member c.args.generation (option_map {T = Bor (List ℕ)} {U = List ℕ} (λ payload. payload.now) c.args.first) c.requires.from_one c.requires.most (is_short c.args.first c.requires.short)
    (g.D.Disk.state c.args.disk.now).content (reads_of (g.D.Disk.state c.args.disk.now).content (g.met.D.Disk.as_read c.args.disk.now))
    (g.D.Disk.state c.args.disk.now).observed (g.met.D.Disk.settled c.args.disk.now)

pub returns-in_err-write_synced-clause-settles : goal.returns-in_err-write_synced-clause-settles
returns-in_err-write_synced-clause-settles g c =
    closing_settles c.args.member c.args.generation (option_map {T = Bor (List ℕ)} {U = List ℕ} (λ payload. payload.now) c.args.first) c.requires.from_one c.requires.most (is_short c.args.first c.requires.short)
    (g.D.Disk.state c.args.disk.now).content (reads_of (g.D.Disk.state c.args.disk.now).content (g.met.D.Disk.as_read c.args.disk.now)) (g.D.Disk.state c.write_synced.new.disk).content c.write_synced.ensures.call.any_time
    (g.D.Disk.state c.args.disk.now).observed (g.D.Disk.state c.write_synced.new.disk).observed (at_most (Write 0 (0 ∷ []) ∷ Sync ∷ []) (g.D.Disk.state c.args.disk.now).observed (g.D.Disk.state c.write_synced.new.disk).observed (Some c.in_err-write_synced.field-0.0) c.in_err-write_synced.ensures.call.made) (g.met.D.Disk.settled c.write_synced.new.disk)

pub returns-in_err-write_synced-2-clause-settles : goal.returns-in_err-write_synced-2-clause-settles
returns-in_err-write_synced-2-clause-settles g c =
    let first = (at_most (Write 0 (0 ∷ []) ∷ Sync ∷ []) (g.D.Disk.state c.args.disk.now).observed (g.D.Disk.state c.write_synced.new.disk).observed None c.in_ok-write_synced.ensures.call.made) in
    let then_second = at_most (Write 1 c.deref.result.now ∷ Sync ∷ []) (g.D.Disk.state c.write_synced.new.disk).observed (g.D.Disk.state c.write_synced-2.new.disk).observed (Some c.in_err-write_synced-2.field-0.0) c.in_err-write_synced-2.ensures.call.made in
    heading_settles c.args.member c.args.generation (option_map {T = Bor (List ℕ)} {U = List ℕ} (λ payload. payload.now) c.args.first) c.requires.from_one c.requires.most (is_short c.args.first c.requires.short)
    (g.D.Disk.state c.args.disk.now).content (reads_of (g.D.Disk.state c.args.disk.now).content (g.met.D.Disk.as_read c.args.disk.now)) (g.D.Disk.state c.write_synced.new.disk).content c.write_synced.ensures.call.any_time
    (g.D.Disk.state c.write_synced-2.new.disk).content c.deref.result.now (c.deref.ensures.value ∙ c.in_ok-head.ensures) c.in_ok-write_synced.ensures.seen c.in_ok-write_synced.ensures.durable c.write_synced-2.ensures.call.any_time
    (g.D.Disk.state c.args.disk.now).observed (g.D.Disk.state c.write_synced-2.new.disk).observed (omega (arith, first, then_second)) (g.met.D.Disk.settled c.write_synced-2.new.disk)

pub returns-in_err-write_synced-3-clause-settles : goal.returns-in_err-write_synced-3-clause-settles
returns-in_err-write_synced-3-clause-settles g c =
    let all : is_some (g.D.Disk.state c.args.disk.now).observed ≡ true → (count (g.D.Disk.state c.write_synced-2.new.disk).observed ≡ count (g.D.Disk.state c.args.disk.now).observed + 4) × (is_some (g.D.Disk.state c.write_synced-2.new.disk).observed ≡ true) = λ some.
    let first = all_made (Write 0 (0 ∷ []) ∷ Sync ∷ []) (g.D.Disk.state c.args.disk.now).observed (g.D.Disk.state c.write_synced.new.disk).observed some c.in_ok-write_synced.ensures.call.made in
    let then_second = all_made (Write 1 c.deref.result.now ∷ Sync ∷ []) (g.D.Disk.state c.write_synced.new.disk).observed (g.D.Disk.state c.write_synced-2.new.disk).observed first.1 c.in_ok-write_synced-2.ensures.call.made in
    (omega (arith, first.0, then_second.0), then_second.1) in
    opening_settles c.args.member c.args.generation (option_map {T = Bor (List ℕ)} {U = List ℕ} (λ payload. payload.now) c.args.first) c.requires.from_one c.requires.most (is_short c.args.first c.requires.short)
    (g.D.Disk.state c.args.disk.now).content (reads_of (g.D.Disk.state c.args.disk.now).content (g.met.D.Disk.as_read c.args.disk.now)) (g.D.Disk.state c.write_synced.new.disk).content c.write_synced.ensures.call.any_time
    (g.D.Disk.state c.write_synced-2.new.disk).content c.deref.result.now (c.deref.ensures.value ∙ c.in_ok-head.ensures) c.in_ok-write_synced.ensures.seen c.in_ok-write_synced.ensures.durable c.write_synced-2.ensures.call.any_time
    (g.D.Disk.state c.write_synced-3.new.disk).content c.in_ok-write_synced-2.ensures.seen c.in_ok-write_synced-2.ensures.durable c.write_synced-3.ensures.call.any_time
    (g.D.Disk.state c.args.disk.now).observed (g.D.Disk.state c.write_synced-2.new.disk).observed (g.D.Disk.state c.write_synced-3.new.disk).observed (λ some. (all some).0) (λ some. begun (Write 0 (1 ∷ [])) (Sync ∷ []) (g.D.Disk.state c.write_synced-2.new.disk).observed (g.D.Disk.state c.write_synced-3.new.disk).observed (Some c.in_err-write_synced-3.field-0.0) (all some).1 c.in_err-write_synced-3.ensures.call.made)
    c.write_synced-3.ensures.not_begun (g.met.D.Disk.settled c.write_synced-3.new.disk)

pub returns-clause-settles : goal.returns-clause-settles
returns-clause-settles g c =
    let all : is_some (g.D.Disk.state c.args.disk.now).observed ≡ true → (count (g.D.Disk.state c.write_synced-2.new.disk).observed ≡ count (g.D.Disk.state c.args.disk.now).observed + 4) × (is_some (g.D.Disk.state c.write_synced-2.new.disk).observed ≡ true) = λ some.
    let first = all_made (Write 0 (0 ∷ []) ∷ Sync ∷ []) (g.D.Disk.state c.args.disk.now).observed (g.D.Disk.state c.write_synced.new.disk).observed some c.in_ok-write_synced.ensures.call.made in
    let then_second = all_made (Write 1 c.deref.result.now ∷ Sync ∷ []) (g.D.Disk.state c.write_synced.new.disk).observed (g.D.Disk.state c.write_synced-2.new.disk).observed first.1 c.in_ok-write_synced-2.ensures.call.made in
    (omega (arith, first.0, then_second.0), then_second.1) in
    opening_settles c.args.member c.args.generation (option_map {T = Bor (List ℕ)} {U = List ℕ} (λ payload. payload.now) c.args.first) c.requires.from_one c.requires.most (is_short c.args.first c.requires.short)
    (g.D.Disk.state c.args.disk.now).content (reads_of (g.D.Disk.state c.args.disk.now).content (g.met.D.Disk.as_read c.args.disk.now)) (g.D.Disk.state c.write_synced.new.disk).content c.write_synced.ensures.call.any_time
    (g.D.Disk.state c.write_synced-2.new.disk).content c.deref.result.now (c.deref.ensures.value ∙ c.in_ok-head.ensures) c.in_ok-write_synced.ensures.seen c.in_ok-write_synced.ensures.durable c.write_synced-2.ensures.call.any_time
    (g.D.Disk.state c.write_synced-3.new.disk).content c.in_ok-write_synced-2.ensures.seen c.in_ok-write_synced-2.ensures.durable c.write_synced-3.ensures.call.any_time
    (g.D.Disk.state c.args.disk.now).observed (g.D.Disk.state c.write_synced-2.new.disk).observed (g.D.Disk.state c.write_synced-3.new.disk).observed (λ some. (all some).0) (λ some. begun (Write 0 (1 ∷ [])) (Sync ∷ []) (g.D.Disk.state c.write_synced-2.new.disk).observed (g.D.Disk.state c.write_synced-3.new.disk).observed None (all some).1 c.in_ok-write_synced-3.ensures.call.made)
    c.write_synced-3.ensures.not_begun (g.met.D.Disk.settled c.write_synced-3.new.disk)

pub returns-clause-journal : goal.returns-clause-journal
returns-clause-journal g c =
    let first = option_map {T = Bor (List ℕ)} {U = List ℕ} (λ payload. payload.now) c.args.first in
    let bytes_len : c.len.result ≡ length c.in_ok-head.head.items = omega (arith, c.len.ensures, c.in_ok-head.head.ok) in
    let gate : c.len.result ≡ (created c.args.member c.args.generation first).next_gate =
    bytes_len ∙ ap length c.in_ok-head.ensures ∙ long c.args.member c.args.generation first c.requires.from_one c.requires.most (is_short c.args.first c.requires.short) in
    ap (λ (n : ℕ). record (created c.args.member c.args.generation first) { next_gate = n }) gate

pub returns-clause-kept : goal.returns-clause-kept
returns-clause-kept g c =
    let first = option_map {T = Bor (List ℕ)} {U = List ℕ} (λ payload. payload.now) c.args.first in
    let bytes_len : c.len.result ≡ length c.in_ok-head.head.items = omega (arith, c.len.ensures, c.in_ok-head.head.ok) in
    let gate : c.len.result ≡ (created c.args.member c.args.generation first).next_gate =
    bytes_len ∙ ap length c.in_ok-head.ensures ∙ long c.args.member c.args.generation first c.requires.from_one c.requires.most (is_short c.args.first c.requires.short) in
    rw gate
    (is_kept c.args.member c.args.generation first c.requires.from_one c.requires.most (is_short c.args.first c.requires.short)
    (g.D.Disk.state c.args.disk.now).content (reads_of (g.D.Disk.state c.args.disk.now).content (g.met.D.Disk.as_read c.args.disk.now)) (g.D.Disk.state c.write_synced.new.disk).content (g.D.Disk.state c.write_synced-2.new.disk).content (g.D.Disk.state c.write_synced-3.new.disk).content
    c.deref.result.now (g.D.Disk.state c.write_synced.new.disk).known (g.D.Disk.state c.write_synced-2.new.disk).known (g.D.Disk.state c.write_synced-3.new.disk).known (c.deref.ensures.value ∙ c.in_ok-head.ensures)
    c.in_ok-write_synced.ensures.seen c.in_ok-write_synced-2.ensures.seen c.in_ok-write_synced-3.ensures.seen c.in_ok-write_synced-3.ensures.durable c.in_ok-write_synced-2.ensures.end c.in_ok-write_synced-2.ensures.known c.in_ok-write_synced-3.ensures.known)

pub returns-in_err-head-clause-call : goal.returns-in_err-head-clause-call
returns-in_err-head-clause-call g c =
    let p = err_from_is_err_and c.from_residual.result c.from_residual.ensures.1 in
    let first = option_map {T = Bor (List ℕ)} {U = List ℕ} (λ payload. payload.now) c.args.first in
    let old = g.D.Disk.state c.args.disk.now in
    let made = CreatedFrom old.content (created c.args.member c.args.generation first) (first_payloads first) in
    rw (p.1, p.2) (stopped_at (create_calls (owner_of c.args.member) c.args.generation first) made made (without_memory made (none old made (λ d left. inl left))) (λ d h. h))
