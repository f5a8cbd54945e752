-- What is exported is read, and what is read is exported so.
use Rattle.std.proofs.Common.{◌≡◌, ℕ, ◌+◌, ◌≤◌, ◌<◌, false, cond, ltb, List, [], ◌∷◌, ◌++◌, length, Result, Ok, Err, refl, ap, subst, ◌∙◌, arith}
use Rattle.std.specs.Str.{bytes_eq}
use Rattle.std.specs.Cmp.Lexicographic.{bytes_decides}
use Rattle.std.proofs.lemmas.Bool.{le-ltb}
use Rattle.std.proofs.lemmas.Bool.Decides.{nat_tests}
use Rattle.std.proofs.Math.ListN.{length-append}
use Rattle.mon_bytes.specs.declared.command.MapRefused.{MapRefused}
use Rattle.mon_bytes.specs.declared.command.MapRefused.TheVariants as map
use Rattle.mon_bytes.specs.Reading.{IsBytes, Reading, next_bytes}
use Rattle.mon_bytes.specs.Forms.{◌>>=◌, fitted}
use Rattle.mon_bytes.proofs.Fields.{guard_ok, chosen_ok, ok_is, Takes, Found, front_takes, front_found}
use Rattle.mon_bytes.proofs.Forms.{bind_ok, fitted_ok}
use Rattle.mon_tx.specs.Map.{Store}
use Rattle.mon_kv.specs.Readers.{size_of, most_size}
use Rattle.std.specs.Prelude.{IfOk}
use Rattle.mon_types.specs.declared.member.Member.{Member}
use Rattle.mon_journal.specs.Fields.{Owner, owner_at}
use Rattle.mon_journal.specs.declared.stop.JournalStop.{JournalStop}
use Rattle.mon_journal.proofs.Headers.{owner_again}
use Rattle.mon_journal.proofs.Encodes.{owner_takes}
use Rattle.mon_journal.specs.Written.{owner_of}
use Rattle.mon_store.specs.Checkpoint.{checkpoint_text, HasCheckpoint}
use Rattle.mon_store.specs.Decode.{checkpoint_of}
use Rattle.mon_store.proofs.Again.{checkpoint_again}
use Rattle.mon_store.proofs.Back.{checkpoint_takes}
use Rattle.mon_store.proofs.Sizes.{length-checkpoint}
use Rattle.store_tool.specs.declared.refusal.ExportRefused.{ExportRefused}
use Rattle.store_tool.specs.declared.refusal.ExportRefused.TheVariants.{At, Full}
use Rattle.store_tool.specs.Export.{export_word, export_text, HasExport, word_at, formed, fields_of, judged, export_of, Gives}

-- ---- what is exported is read

word_found : (c : Reading) (rest : List ℕ) → c.rest ≡ export_word ++ rest → Found (word_at c) export_word rest
unfolding word_at
word_found c rest e =
    let a = front_found 8 c export_word rest e refl in
    (a.0, a.1, rw a.2 refl)

owner_found : (c : Reading) (owner : Owner) (rest : List ℕ) → c.rest ≡ owner.rank ∷ owner.monitors ∷ rest → owner.rank < owner.monitors → owner.monitors ≤ 15 → Found (formed (owner_at c)) owner rest
owner_found c owner rest e below most =
    (record { at = c.at + 1 + 1; rest = rest }, refl, (λ i. formed (owner_at (record { at = c.at; rest = e i }))) ∙ ap (λ r. formed r) (owner_again c.at owner rest below most))

fields_again : (owner : Owner) (m : Store) → HasExport owner m → fields_of (record { at = 0; rest = export_text owner m }) ≡ Ok (owner, m)
unfolding fields_of
fields_again owner m h =
    let a = word_found (record { at = 0; rest = export_text owner m }) (owner.rank ∷ owner.monitors ∷ checkpoint_text m) refl in
    let b = owner_found a.0 owner (checkpoint_text m) a.1 h.below h.most_monitors in
    rw (a.2, b.2, checkpoint_again m b.0 b.1 h.form) refl

pub export_again : (owner : Owner) (m : Store) → HasExport owner m → export_of (export_text owner m) ≡ Ok (owner, m)
unfolding export_of
export_again owner m h =
    let long : length (export_text owner m) ≤ 268435471 = omega (arith, length-append export_word (owner.rank ∷ owner.monitors ∷ checkpoint_text m), length-checkpoint m, h.size) in
    let short : ltb 268435471 (length (export_text owner m)) ≡ false = le-ltb _ _ long in
    let small : ltb most_size (size_of m) ≡ false = le-ltb _ _ h.size in
    rw (short, fields_again owner m h, small) refl

-- ---- what is read is exported so

word_takes : (c : Reading) (x : List ℕ × Reading) → IsBytes c.rest → word_at c ≡ Ok x → Takes c export_word x.1
unfolding word_at
word_takes c x fits e =
    let a = bind_ok (fitted (next_bytes 8 c)) (λ word. cond (bytes_eq word.0 export_word) (Ok word) (Err (map.Form c.at))) x e in
    let g = chosen_ok (bytes_eq a.0.0 export_word) (map.Form c.at) (Ok a.0) x a.2 in
    let t = front_takes 8 c a.0 fits (fitted_ok (next_bytes 8 c) a.0 a.1) in
    let is : a.0.0 ≡ export_word = (bytes_decides a.0.0 export_word).0 g.0 in
    subst (λ (p : List ℕ × Reading). Takes c export_word p.1) (ok_is a.0 x g.1) (subst (λ (w : List ℕ). Takes c w a.0.1) is t.0)

formed_ok : {A : Type 0} (r : Result A JournalStop) (x : A) → formed r ≡ Ok x → r ≡ Ok x
formed_ok (Ok y) x e = ap (λ z. Ok z) (ok_is y x e)
formed_ok (Err stop) x e = absurd cc

record TakesAll (c : Reading) (x : Owner × Store) : Type 0 where
  all : c.rest ≡ export_text x.0 x.1
  below : x.0.rank < x.0.monitors
  most : x.0.monitors ≤ 15
  form : HasCheckpoint x.1

fields_takes : (c : Reading) (x : Owner × Store) → IsBytes c.rest → fields_of c ≡ Ok x → TakesAll c x
unfolding fields_of
fields_takes c x fits e =
    let a = bind_ok (word_at c) (λ word. formed (owner_at word.1) >>= λ owner. checkpoint_of owner.1 >>= λ m. Ok (owner.0, m)) x e in
    let b = bind_ok (formed (owner_at a.0.1)) (λ owner. checkpoint_of owner.1 >>= λ m. Ok (owner.0, m)) x a.2 in
    let d = bind_ok (checkpoint_of b.0.1) (λ m. Ok (b.0.0, m)) x b.2 in
    let t0 = word_takes c a.0 fits a.1 in
    let t1 = owner_takes a.0.1 b.0 t0.bytes (formed_ok (owner_at a.0.1) b.0 b.1) in
    let t2 = checkpoint_takes b.0.1 d.0 t1.0.bytes d.1 in
    let head = b.0.0.rank ∷ b.0.0.monitors ∷ [] in
    subst (TakesAll c) (ok_is (b.0.0, d.0) x d.2) (record {
      all = t0.parts ∙ ap (λ (bs : List ℕ). export_word ++ bs) (t1.0.parts ∙ ap (λ (bs : List ℕ). head ++ bs) t2.1);
      below = t1.1;
      most = t1.2;
      form = t2.0;
    })

-- a map that a store may have was read
judged_ok : (r : Result (Owner × Store) MapRefused) (x : Owner × Store) → judged r ≡ Ok x → (r ≡ Ok x) × (size_of x.1 ≤ most_size)
judged_ok (Ok y) x h =
    let g = guard_ok (ltb most_size (size_of y.1)) (Full (size_of y.1)) (Ok y) x h in
    let is = ok_is y x g.1 in
    let small : size_of y.1 ≤ most_size = (let low = g.0 in grind (arith, nat_tests, low)) in
    (ap (λ z. Ok z) is, subst (λ (z : Owner × Store). size_of z.1 ≤ most_size) is small)
judged_ok (Err (map.Form at)) x h = absurd cc
judged_ok (Err map.OutOfMemory) x h = absurd cc

pub export_takes : (bytes : List ℕ) (owner : Owner) (m : Store) → IsBytes bytes → export_of bytes ≡ Ok (owner, m) → HasExport owner m × (bytes ≡ export_text owner m)
unfolding export_of
export_takes bytes owner m fits e =
    let c : Reading = record { at = 0; rest = bytes } in
    let g = guard_ok (ltb 268435471 (length bytes)) (At 268435471) (judged (fields_of c)) (owner, m) e in
    let j = judged_ok (fields_of c) (owner, m) g.1 in
    let t = fields_takes c (owner, m) fits j.0 in
    (record { below = t.below; most_monitors = t.most; form = t.form; size = j.1 }, t.all)

-- what a call gave
pub is_found : (bytes : List ℕ) (r : Result (Member × Store) ExportRefused) → IsBytes bytes → Gives {Y = Owner × Store} (λ x. (owner_of x.0, x.1)) r (export_of bytes) → IfOk r (λ x. HasExport (owner_of x.0) x.1 × (bytes ≡ export_text (owner_of x.0) x.1))
is_found bytes (Ok x) fits h = export_takes bytes (owner_of x.0) x.1 fits h
is_found bytes (Err e) fits h = tt
