-- A monitor's own part of what its store's readers return, which no value and no copied entry changes.
pub use Rattle.log_model.proofs.Spares.{Spares}
use Rattle.log_model.proofs.Spares.{SparesNumbers, played_spared, spares_learned}
use Rattle.mon_bytes.specs.declared.entry.Entry.{Entry}
use Rattle.mon_msg.specs.Protocol.Changes.{Change, Copy, Record, ops_of}
use Rattle.mon_msg.specs.Protocol.Chunks.{copy_changes, record_changes}
use Rattle.mon_msg.specs.Protocol.Learning.{learn_changes}
use Rattle.mon_msg.specs.Protocol.Played.{play, played}
use Rattle.mon_msg.specs.Protocol.Readings.{Readings}
use Rattle.mon_tx.specs.declared.op.Op.{Op}
use Rattle.std.proofs.Common.{Bool, List, Option, [], ap, refl, suc, ℕ, ◌++◌, ◌∷◌, ◌≡◌}
use Rattle.std.specs.List.{AllByRecursion}

pub record Own : Type 0 where
  pub epoch : Option ℕ
  pub boot : ℕ
  pub last_pn : Option ℕ
  pub promise : Option ℕ
  pub pending_v : ℕ
  pub pending_pn : ℕ
  pub last : ℕ
  pub marked : Bool
  pub floor : ℕ

abbrev pub own_of : Readings → Own
own_of w = record {
  epoch = w.epoch;
  boot = w.boot;
  last_pn = w.last_pn;
  promise = w.promise;
  pending_v = w.pending_v;
  pending_pn = w.pending_pn;
  last = w.last;
  marked = w.marked;
  floor = w.floor;
}

-- ---- changes in a row

pub played_more : (a b : List Change) (w : Readings) → played (a ++ b) w ≡ played b (played a w)
played_more [] b w = refl
played_more (c ∷ a) b w = played_more a b (play c w)

learned_spared : (v : ℕ) (values : List (List Op)) → AllByRecursion Spares values → AllByRecursion SparesNumbers (learn_changes v values)
learned_spared v [] h = tt
learned_spared v (x ∷ xs) h = (spares_learned v x h.0, learned_spared (suc v) xs h.1)

pub learned_own : (v : ℕ) (values : List (List Op)) (w : Readings) → AllByRecursion Spares values → own_of (played (learn_changes v values) w) ≡ own_of w
learned_own v values w h = ap own_of (played_spared (learn_changes v values) w (learned_spared v values h))

pub records_own : (v : ℕ) (values : List (List Op)) (w : Readings) → own_of (played (record_changes v values) w) ≡ own_of w
records_own v [] w = refl
records_own v (x ∷ xs) w = records_own (suc v) xs (play (Record v x) w)

-- an entry of a copy
abbrev pub Copied : Type 0
Copied = Entry

abbrev pub EntrySpares : Entry → Type 0
EntrySpares e = Spares (ops_of (Copy e))

copied_spared : (es : List Entry) → AllByRecursion EntrySpares es → AllByRecursion SparesNumbers (copy_changes es)
copied_spared [] h = tt
copied_spared (e ∷ es) h = (h.0, copied_spared es h.1)

pub copied_own : (es : List Entry) (w : Readings) → AllByRecursion EntrySpares es → own_of (played (copy_changes es) w) ≡ own_of w
copied_own es w h = ap own_of (played_spared (copy_changes es) w (copied_spared es h))
