-- What every run says of the records of a monitor, and of what waits.
use Rattle.law_names.proofs.Runs.{Envelope, Keeps, Monitors, World, log_from, within}
use Rattle.law_names.proofs.Table.{AllByRecursion, Cell, Learn, Op, State, Store, cell, entry, number, play, readings_of, record_at, text, transaction_in}
use Rattle.log_copies.proofs.Matching.{monitor_keeps, read_last, record_there}
use Rattle.log_copies.proofs.Sending.{keeps_noted}
use Rattle.log_copies.proofs.Standing.{Agrees}
use Rattle.log_copies.proofs.Unmarked.{OnLog}
use Rattle.log_model.proofs.Records.{IsVersion}
use Rattle.log_model.proofs.RuleCells.{log_high}
use Rattle.mon_tx.specs.declared.key.Area.TheVariants as area
use Rattle.mon_tx.specs.declared.key.Key.TheVariants as key
use Rattle.quorum_agreement.proofs.Chosen.{IsEntry, some_rank}
use Rattle.quorum_agreement.proofs.Grown.{first_is}
use Rattle.quorum_agreement.proofs.Invariant.{EnvelopeMatches, OfLog, remembers}
use Rattle.quorum_agreement.proofs.Step.{copy_marked}
use Rattle.quorum_elects.proofs.Can.{New}
use Rattle.quorum_laws.proofs.Invariant.{EnvelopeFine, InvOf, StateFits}
use Rattle.quorum_laws.specs.Accepting.{readings_at}
use Rattle.quorum_near.proofs.LowWorlds.{first_of}
use Rattle.quorum_near.proofs.Whole.{Holds}
use Rattle.quorum_walk.proofs.FineCourses.{Val}
use Rattle.quorum_walk.proofs.Lists.{all_get}
use Rattle.std.proofs.Common.{IfSome, List, None, Option, Some, [], ap, arith, cond, false, inl, inr, length, max, refl, subst, suc, sym, ℕ, ◌+◌, ◌<◌, ◌∙◌, ◌∷◌, ◌≡◌, ◌≤◌, ◌⊎◌}
use Rattle.std.proofs.lemmas.Bool.{false≢true, le-leb, lt-ltb}

-- a value that a record encodes
pub record IsThere (records : ℕ → Cell) (v : ℕ) : Type 0 where
  pub value : List Op
  pub is : record_at records v ≡ Some value
  pub fine : Val value

pub at_cell : (records : ℕ → Cell) (v : ℕ) (bytes : List ℕ) (x : List Op) → records v ≡ Some bytes → bytes ≡ text x → Val x → record_at records v ≡ Some x
unfolding record_at
at_cell records v bytes x e is V = ap transaction_in (e ∙ ap Some is) ∙ V.reads

pub record_read : (m : Store) (v : ℕ) → (readings_of m).record_of v ≡ cell m area.Paxos (key.Version v)
unfolding readings_of
record_read m v = refl

module _ (ms : Monitors) (several : 1 < ms.count) (w : World) (H : Holds ms several w) where
  abbrev I : InvOf ms w
  I = H.0.0

  abbrev O : OfLog ms w w.asked H.0.0
  O = H.0.1

  pub low_of : (i : ℕ) → i < ms.count → (readings_at w i).marked ≡ false → ((readings_at w i).first ≤ 1) ⊎ ((readings_at w i).first + 501 ≤ (readings_at w i).last)
  low_of i lt u = first_of ms w H.0 H.1 i lt u

  pub on_log : (i : ℕ) → i < ms.count → (readings_at w i).marked ≡ false → OnLog w.log (w.store i)
  on_log i lt u = by (O.stores i lt)
    where
      by : Agrees w.log (w.store i) (remembers i (w.state i)) → OnLog w.log (w.store i)
      by (inl V) = V
      by (inr T) = absurd (false≢true (sym u ∙ copy_marked w.log (w.store i) (remembers i (w.state i)) T))

  -- it has no version that the log lacks
  pub within_log : (i : ℕ) → i < ms.count → (readings_at w i).marked ≡ false → (readings_at w i).last ≤ length w.log
  within_log i lt u =
      let V = on_log i lt u in
      let W = V.versions in
      let r = read_last w.log O.short O.values V.last (w.store i) V.versions in
      let z = W.within in
      omega arith

  -- a version of the log is a value that may be proposed
  pub entry_value : (v : ℕ) → v < length w.log → (x : List Op) × (entry w.log (suc v) ≡ text x) × Val x
  entry_value v lt =
      let E : IsEntry ms.count I.g w.log (suc v) = O.chosen v lt in
      let s = some_rank ms.count I.g I.glob.triples (suc v) E.x E.chosen in
      let C = E.chosen in
      (E.x, E.encodes, I.glob.triples.fine s.0 (suc v) C.pn E.x s.1)

  -- ---- records

  -- a monitor has its last version
  pub last_cell : (i : ℕ) → i < ms.count → (readings_at w i).marked ≡ false → (l : ℕ) → (readings_at w i).last ≡ suc l → (readings_at w i).record_of (suc l) ≡ Some (entry w.log (suc l))
  last_cell i lt u l last =
      let V = on_log i lt u in
      let r = read_last w.log O.short O.values V.last (w.store i) V.versions in
      let f = first_is (w.store i) in
      let low : max 1 (number (w.store i) area.Paxos key.FirstCommitted) ≤ suc l = elim (low_of i lt u) [ inl few ↦ (omega arith) | inr far ↦ (omega arith) ] in
      record_read (w.store i) (suc l) ∙ record_there w.log O.short O.values V.last (w.store i) V.versions (suc l) low (omega arith)

  pub value_there : (i : ℕ) → i < ms.count → (readings_at w i).marked ≡ false → (l : ℕ) → (readings_at w i).last ≡ suc l → IsThere (readings_at w i).record_of (suc l)
  value_there i lt u l last =
      let inside = within_log i lt u in
      let x = entry_value l (omega arith) in
      record { value = x.0; is = at_cell (readings_at w i).record_of (suc l) (entry w.log (suc l)) x.0 (last_cell i lt u l last) x.1 x.2; fine = x.2 }

  -- and the next one, once it is learned
  pub learned_cell : (i : ℕ) → i < ms.count → (readings_at w i).marked ≡ false → (l : ℕ) → (readings_at w i).last ≡ l → (x : List Op) → IsVersion w.log (suc l) x → suc l ≤ length w.log
      → (play (Learn (suc l) x) (readings_at w i)).record_of (suc l) ≡ Some (entry w.log (suc l))
  learned_cell i lt u l last x V le =
      let L = on_log i lt u in
      let r = read_last w.log O.short O.values L.last (w.store i) L.versions in
      let K : Keeps w.log l (readings_at w i) = subst (λ (c : ℕ). Keeps w.log c (readings_at w i)) (sym r ∙ last) (monitor_keeps w.log O.short O.values L.last (w.store i) L.versions) in
      let N = keeps_noted w.log O.short O.values (x ∷ []) l (suc l) (omega arith) le (V, tt) (readings_at w i) K in
      N.records (suc l) (omega arith) ∙ here
    where
      here : cond (within (log_from (suc l)) (suc (suc l)) (suc l)) (Some (entry w.log (suc l))) None ≡ Some (entry w.log (suc l))
      here = rw (le-leb (log_from (suc l)) (suc l) (let h = log_high (suc l) (omega arith) in omega arith), lt-ltb (suc l) (suc (suc l)) (omega arith)) refl

  pub learned_there : (i : ℕ) → i < ms.count → (readings_at w i).marked ≡ false → (l : ℕ) → (readings_at w i).last ≡ l → (x : List Op) → IsVersion w.log (suc l) x → suc l ≤ length w.log → IsThere (play (Learn (suc l) x) (readings_at w i)).record_of (suc l)
  learned_there i lt u l last x V le =
      let y = entry_value l le in
      record { value = y.0; is = at_cell (play (Learn (suc l) x) (readings_at w i)).record_of (suc l) (entry w.log (suc l)) y.0 (learned_cell i lt u l last x V le) y.1 y.2; fine = y.2 }

  -- ---- what waits

  at_index : (P : Envelope → Type 0) → AllByRecursion P w.messages → {sent : ℕ} {e : Envelope} → New sent w e → P e
  at_index P all {sent} {e} N = subst (λ (o : Option Envelope). IfSome o P) N.there (all_get P w.messages N.index all)

  pub message_fine : {sent : ℕ} {e : Envelope} → New sent w e → EnvelopeFine e
  message_fine N = at_index EnvelopeFine I.sizes N

  pub message_tells : {sent : ℕ} {e : Envelope} → New sent w e → EnvelopeMatches w.log e
  message_tells N = at_index (EnvelopeMatches w.log) O.sent N

  -- what a leader proposes
  pub value_fine : (i : ℕ) (s : State) → w.state i ≡ Some s → (x : List Op) → s.leader.value ≡ Some x → Val x
  value_fine i s up x is = subst (λ (o : Option (List Op)). IfSome o Val) is (let F : StateFits s = subst (λ (o : Option State). IfSome o StateFits) up (I.mine i).fits in F.value)
