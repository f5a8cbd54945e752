use Rattle.std.proofs.Common.{◌≡◌, ◌<◌, ◌+◌, List, ℕ, Vec, Global, Option, Some, None, Ok, Err, length, sym, subst}
use Rattle.std.proofs.lemmas.Result.{err_from_is_err_and}
use Rattle.mon_bytes.proofs.Fields.{ok_is}
use Rattle.mon_journal.proofs.Looking.{then_reads}
use Rattle.mon_journal.proofs.Walks.{Next}
use Rattle.mon_journal.specs.Content.{Fails}
use Rattle.mon_store.specs.Payloads.{after, begun, at_fault}
use Rattle.mon_store.proofs.Sizes.{size_empty}
use Rattle.mon_store.proofs.Folds.{any_fails, read_fails, reads_on_fails, none_at_all, begins_on, first_fails, goes_on_there, next_fails, ends_there}
use Rattle.mon_store.proofs.fold.fold.Goals as goal

pub returns-in_err-reader-clause-map : goal.returns-in_err-reader-clause-map
returns-in_err-reader-clause-map g c =
    let p = err_from_is_err_and c.from_residual.result c.from_residual.ensures.1 in
    rw (p.1, p.2) (any_fails c.in_err-reader.field-0.0 (g.D.Disk.state c.args.disk.now).content.seen c.in_err-reader.ensures.there)

pub returns-in_err-first-clause-map : goal.returns-in_err-first-clause-map
returns-in_err-first-clause-map g c =
    let p = err_from_is_err_and c.from_residual-in_err-first.result c.from_residual-in_err-first.ensures.1 in
    let s = (g.D.Disk.state c.args.disk.now).content.seen in
    let next = subst (λ (t : Option (List ℕ)). Next {V = Vec ℕ Global} (λ v. v.items) t c.in_ok-reader.reader.gate c.next_payload.new.self.gate (Err c.in_err-first.field-0.0)) c.in_ok-reader.ensures.disk.seen c.in_err-first.ensures.next in
    rw (p.1, p.2) (read_fails (λ (v : Vec ℕ Global). v.items) c.in_ok-reader.reader.gate c.next_payload.new.self.gate c.in_err-first.field-0.0 s c.in_ok-reader.ensures.left next)

pub returns-in_err-kv-clause-map : goal.returns-in_err-kv-clause-map
returns-in_err-kv-clause-map g c =
    let p = err_from_is_err_and c.from_residual-in_err-kv.result c.from_residual-in_err-kv.ensures.1 in
    let s = (g.D.Disk.state c.args.disk.now).content.seen in
    let one = subst (λ o. Next {V = Vec ℕ Global} (λ v. v.items) (g.D.Disk.state c.of.new.disk).content.seen c.in_ok-reader.reader.gate c.next_payload.new.self.gate (Ok o)) c.in-Some.is c.in_ok-first.ensures.next in
    let next = subst (λ (t : Option (List ℕ)). Next {V = Vec ℕ Global} (λ v. v.items) t c.in_ok-reader.reader.gate c.next_payload.new.self.gate (Ok (Some c.in-Some.first))) c.in_ok-reader.ensures.disk.seen one in
    let fails = subst (λ (bytes : List ℕ). Fails c.in_err-kv.field-0.0 (at_fault 30 (begun bytes))) c.deref-2.ensures.value c.in_err-kv.ensures.map in
    rw (p.1, p.2) (first_fails (λ (v : Vec ℕ Global). v.items) c.in_ok-reader.reader.gate c.next_payload.new.self.gate s c.in-Some.first c.in_err-kv.field-0.0 c.in_ok-reader.ensures.left next fails)

pub returns-in_default-clause-size : goal.returns-in_default-clause-size
returns-in_default-clause-size g c = size_empty c.empty.result c.empty.ensures

pub returns-in_default-clause-map : goal.returns-in_default-clause-map
returns-in_default-clause-map g c =
    let s = (g.D.Disk.state c.args.disk.now).content.seen in
    let one = subst (λ o. Next {V = Vec ℕ Global} (λ v. v.items) (g.D.Disk.state c.of.new.disk).content.seen c.in_ok-reader.reader.gate c.next_payload.new.self.gate (Ok o)) c.in_default.is c.in_ok-first.ensures.next in
    let next = subst (λ (t : Option (List ℕ)). Next {V = Vec ℕ Global} (λ v. v.items) t c.in_ok-reader.reader.gate c.next_payload.new.self.gate (Ok None)) c.in_ok-reader.ensures.disk.seen one in
    none_at_all (λ (v : Vec ℕ Global). v.items) c.in_ok-reader.reader.gate c.next_payload.new.self.gate s c.empty.result c.empty.ensures c.in_ok-reader.ensures.left next

pub loop-kv-init : goal.loop-kv-init
loop-kv-init g c =
    let state = g.D.Disk.state in
    let s = (state c.args.disk.now).content.seen in
    let first = c.in-Some.first in
    let one = subst (λ o. Next {V = Vec ℕ Global} (λ v. v.items) (state c.of.new.disk).content.seen c.in_ok-reader.reader.gate c.next_payload.new.self.gate (Ok o)) c.in-Some.is c.in_ok-first.ensures.next in
    let next = subst (λ (t : Option (List ℕ)). Next {V = Vec ℕ Global} (λ v. v.items) t c.in_ok-reader.reader.gate c.next_payload.new.self.gate (Ok (Some first))) c.in_ok-reader.ensures.disk.seen one in
    let at : 35 + length c.deref.result.now ≡ c.in_ok-at.at = ok_is _ _ c.in_ok-at.ensures.place in
    let place = subst (λ (bytes : List ℕ). 35 + length bytes ≡ c.in_ok-at.at) c.deref.ensures.value at in
    let map = subst (λ (bytes : List ℕ). at_fault 30 (begun bytes) ≡ Ok c.in_ok-kv.kv) c.deref-2.ensures.value c.in_ok-kv.ensures.map in
    record {
      map = begins_on (λ (v : Vec ℕ Global). v.items) c.in_ok-reader.reader.gate c.next_payload.new.self.gate s first c.in_ok-kv.kv c.in_ok-at.at c.in_ok-reader.ensures.left next map place;
      size = c.in_ok-kv.ensures.size;
      disk = then_reads None (state c.args.disk.now) (state c.of.new.disk) (state c.next_payload.new.disk) c.in_ok-reader.ensures.disk c.in_ok-first.ensures.disk;
      on = c.in_ok-first.ensures.on;
      reach = subst (λ (end : ℕ). c.args.journal.now.next_gate < end) (sym c.in_ok-first.ensures.end) c.in_ok-reader.ensures.reach;
    }

pub returns-in_err-payload-clause-map : goal.returns-in_err-payload-clause-map
returns-in_err-payload-clause-map g c =
    let p = err_from_is_err_and c.from_residual-in_err-payload.result c.from_residual-in_err-payload.ensures.1 in
    let s = (g.D.Disk.state c.args.disk.now).content.seen in
    let l = c.loop-kv in
    let after_payload = c.next_payload-in-loop-kv.new.self.gate in
    let next = subst (λ (t : Option (List ℕ)). Next {V = Vec ℕ Global} (λ v. v.items) t l.reader.gate after_payload (Err c.in_err-payload.field-0.0)) l.invariant.disk.seen c.in_err-payload.ensures.next in
    rw (p.1, p.2) (reads_on_fails (λ (v : Vec ℕ Global). v.items) l.reader.gate after_payload c.in_err-payload.field-0.0 s l.at l.kv l.invariant.map next)

pub returns-in_err-kv-2-clause-map : goal.returns-in_err-kv-2-clause-map
returns-in_err-kv-2-clause-map g c =
    let p = err_from_is_err_and c.from_residual-in_err-kv-2.result c.from_residual-in_err-kv-2.ensures.1 in
    let s = (g.D.Disk.state c.args.disk.now).content.seen in
    let l = c.loop-kv in
    let after_payload = c.next_payload-in-loop-kv.new.self.gate in
    let payload = c.in-Some-2.payload in
    let one = subst (λ o. Next {V = Vec ℕ Global} (λ v. v.items) (g.D.Disk.state l.disk).content.seen l.reader.gate after_payload (Ok o)) c.in-Some-2.is c.in_ok-payload.ensures.next in
    let next = subst (λ (t : Option (List ℕ)). Next {V = Vec ℕ Global} (λ v. v.items) t l.reader.gate after_payload (Ok (Some payload))) l.invariant.disk.seen one in
    let fails = subst (λ (bytes : List ℕ). Fails c.in_err-kv-2.field-0.0 (at_fault l.at (after bytes l.kv))) c.deref-in-Some-2.ensures.value c.in_err-kv-2.ensures.map in
    rw (p.1, p.2) (next_fails (λ (v : Vec ℕ Global). v.items) l.reader.gate after_payload s l.at l.kv payload c.in_err-kv-2.field-0.0 l.invariant.map next fails)

pub loop-kv-preserved : goal.loop-kv-preserved
loop-kv-preserved g c =
    let state = g.D.Disk.state in
    let s = (state c.args.disk.now).content.seen in
    let l = c.loop-kv in
    let after_payload = c.next_payload-in-loop-kv.new.self.gate in
    let payload = c.in-Some-2.payload in
    let one = subst (λ o. Next {V = Vec ℕ Global} (λ v. v.items) (state l.disk).content.seen l.reader.gate after_payload (Ok o)) c.in-Some-2.is c.in_ok-payload.ensures.next in
    let next = subst (λ (t : Option (List ℕ)). Next {V = Vec ℕ Global} (λ v. v.items) t l.reader.gate after_payload (Ok (Some payload))) l.invariant.disk.seen one in
    let map = subst (λ (bytes : List ℕ). at_fault l.at (after bytes l.kv) ≡ Ok c.in_ok-kv-2.kv) c.deref-in-Some-2.ensures.value c.in_ok-kv-2.ensures.map in
    let at : l.at + 5 + length c.deref-in-Some-2-2.result.now ≡ c.in_ok-at-2.at = ok_is _ _ c.in_ok-at-2.ensures.place in
    let place = subst (λ (bytes : List ℕ). l.at + 5 + length bytes ≡ c.in_ok-at-2.at) c.deref-in-Some-2-2.ensures.value at in
    record {
      map = goes_on_there (λ (v : Vec ℕ Global). v.items) l.reader.gate after_payload s l.at l.kv payload c.in_ok-kv-2.kv c.in_ok-at-2.at l.invariant.map next map place;
      size = c.in_ok-kv-2.ensures.size;
      disk = then_reads None (state c.args.disk.now) (state l.disk) (state c.next_payload-in-loop-kv.new.disk) l.invariant.disk c.in_ok-payload.ensures.disk;
      on = c.in_ok-payload.ensures.on;
      reach = subst (λ (end : ℕ). c.args.journal.now.next_gate < end) (sym c.in_ok-payload.ensures.end) l.invariant.reach;
    }

pub returns-clause-map : goal.returns-clause-map
returns-clause-map g c =
    let s = (g.D.Disk.state c.args.disk.now).content.seen in
    let l = c.loop-kv in
    let after_payload = c.next_payload-in-loop-kv.new.self.gate in
    let one = subst (λ o. Next {V = Vec ℕ Global} (λ v. v.items) (g.D.Disk.state l.disk).content.seen l.reader.gate after_payload (Ok o)) c.in_default-2.is c.in_ok-payload.ensures.next in
    let next = subst (λ (t : Option (List ℕ)). Next {V = Vec ℕ Global} (λ v. v.items) t l.reader.gate after_payload (Ok None)) l.invariant.disk.seen one in
    ends_there (λ (v : Vec ℕ Global). v.items) l.reader.gate after_payload s l.at l.kv l.invariant.map next
