-- The fold of a log of values keeps the windows, after each of its versions.
use Rattle.std.proofs.Common.{◌≡◌, ℕ, suc, ◌<◌, ◌≤◌, ◌^◌, ◌&&◌, false, cond, List, [], ◌∷◌, take, Some, None, sym, ap, subst, ◌∙◌, arith}
use Rattle.std.proofs.lemmas.Bool.Decides.{nat_tests}
use Rattle.std.specs.FinMap.{empty, get-empty}
use Rattle.mon_tx.specs.declared.key.Area.{Area}
use Rattle.mon_tx.specs.declared.key.Area.TheVariants as area
use Rattle.mon_tx.specs.declared.key.Key.{Key}
use Rattle.mon_tx.specs.declared.key.Key.TheVariants.{FirstCommitted, LastCommitted, LastPn, AcceptedPn, PendingV, PendingPn, FullLatest, ElectionEpoch, BootCount, InSync, Floor, Version, Full}
use Rattle.mon_tx.specs.declared.op.Op.{Op}
use Rattle.mon_tx.specs.Decode.{ops_in}
use Rattle.mon_tx.specs.Keys.{place, cell}
use Rattle.mon_tx.specs.Map.{place_cmp, number_in}
use Rattle.mon_tx.proofs.After.{get-apply}
use Rattle.mon_wire.specs.declared.request.Service.{Service}
use Rattle.mon_msg.specs.Puts.{put}
use Rattle.mon_msg.specs.Fold.{entry, fold, incrementals, map_after}
use Rattle.mon_msg.specs.Joined.{joined}
use Rattle.mon_msg.specs.Puts.{area_of}
use Rattle.mon_msg.specs.Protocol.Readings.{cell_after}
use Rattle.mon_msg.specs.Protocol.Changes.{Last}
use Rattle.mon_msg.specs.Protocol.Parts.{map_text}
use Rattle.mon_msg.specs.Protocol.Readings.{Readings, readings_of, after}
use Rattle.mon_msg.proofs.Changed.{readings-apply, readings-joined}
use Rattle.log_model.specs.LogOfValues.{view_at, EncodesValue}
use Rattle.log_model.specs.Windows.{is_kept_key, within, is_full, row_after, Keeps, Shows}
use Rattle.log_model.proofs.MapSteps.{chain_none}
use Rattle.log_model.proofs.RowReadings.{none_read, last_is, map_is, since_is}
use Rattle.log_model.proofs.Windows.{Chains, Next, next_of, chains_more, others_more, above_more, keeps_more}

-- ---- no version

none_within : (v : ℕ) (x : List ℕ) → None ≡ cond (within 1 1 v) (Some x) None
none_within v x = grind (arith, nat_tests)

none_full : (v : ℕ) (x : List ℕ) → None ≡ cond (within 1 1 v && is_full v) (Some x) None
none_full v x = grind (arith, nat_tests)

nothing : (a : Area) (k : Key) → cell empty a k ≡ None
nothing a k = get-empty place_cmp (place a k)

row_none : (s : Service) (k : Key) → cell empty (area_of s) k ≡ row_after s [] k
row_none s (Version v) = nothing (area_of s) (Version v) ∙ none_within v (entry [] v)
row_none s (Full v) = nothing (area_of s) (Full v) ∙ none_full v (map_text (map_after s (take v [])))
row_none s FirstCommitted = nothing (area_of s) FirstCommitted
row_none s LastCommitted = nothing (area_of s) LastCommitted
row_none s FullLatest = nothing (area_of s) FullLatest
row_none s LastPn = nothing (area_of s) LastPn
row_none s AcceptedPn = nothing (area_of s) AcceptedPn
row_none s PendingV = nothing (area_of s) PendingV
row_none s PendingPn = nothing (area_of s) PendingPn
row_none s ElectionEpoch = nothing (area_of s) ElectionEpoch
row_none s BootCount = nothing (area_of s) BootCount
row_none s InSync = nothing (area_of s) InSync
row_none s Floor = nothing (area_of s) Floor

keeps_none : (log : List (List ℕ)) → Keeps log 0 (readings_of (fold log 0))
unfolding readings_of fold incrementals
keeps_none log = record {
  first = ap number_in (nothing area.Paxos FirstCommitted) ∙ none_read;
  records = λ v h. nothing area.Paxos (Version v) ∙ none_within v (entry log v);
  rows = row_none;
}

above_none : (log : List (List ℕ)) (v : ℕ) → 0 < v → (readings_of (fold log 0)).record_of v ≡ None
unfolding readings_of fold
above_none log v h = nothing area.Paxos (Version v)

others_none : (log : List (List ℕ)) (a : Area) (k : Key) → is_kept_key a k ≡ false → cell (fold log 0) a k ≡ None
unfolding fold
others_none log a k h = nothing a k

chains_none : (log : List (List ℕ)) → Chains log 0
unfolding incrementals
chains_none log = record { chain = chain_none; few = λ s. omega arith }

-- ---- what is read if the versions up to c are committed

view_is : (log : List (List ℕ)) (c : ℕ) → c ≤ 2 ^ 62 → view_at log c ≡ record (readings_of (fold log c)) { last = c }
unfolding joined
view_is log c h = readings-joined (Last c ∷ []) (h, tt) (fold log c)

-- the number of the last version doesn't matter
pub keeps_last : (log : List (List ℕ)) (c last : ℕ) (w : Readings) → Keeps log c w → Keeps log c (record w { last = last })
keeps_last log c last w K = record { first = K.first; records = K.records; rows = K.rows }

pub keeps_view : (log : List (List ℕ)) (c : ℕ) → c ≤ 2 ^ 62 → Keeps log c (readings_of (fold log c)) → Keeps log c (view_at log c)
keeps_view log c h K = subst (Keeps log c) (sym (view_is log c h)) (keeps_last log c c (readings_of (fold log c)) K)

pub view_last : (log : List (List ℕ)) (c : ℕ) → c ≤ 2 ^ 62 → (view_at log c).last ≡ c
view_last log c h = ap (λ (w : Readings). w.last) (view_is log c h)

-- ---- one version more

fold_more : (log : List (List ℕ)) (c : ℕ) (changes : List Op) → ops_in (entry log (suc c)) ≡ changes → readings_of (fold log (suc c)) ≡ after (put area.Paxos (Version (suc c)) (entry log (suc c)) ∷ changes) (readings_of (fold log c))
unfolding fold
fold_more log c changes e =
    readings-apply (put area.Paxos (Version (suc c)) (entry log (suc c)) ∷ ops_in (entry log (suc c))) (fold log c)
    ∙ ap (λ (ops : List Op). after (put area.Paxos (Version (suc c)) (entry log (suc c)) ∷ ops) (readings_of (fold log c))) e

fold_cell : (log : List (List ℕ)) (c : ℕ) (changes : List Op) → ops_in (entry log (suc c)) ≡ changes → (a : Area) (k : Key)
    → cell (fold log (suc c)) a k ≡ cell_after (put area.Paxos (Version (suc c)) (entry log (suc c)) ∷ changes) a k (cell (fold log c) a k)
unfolding fold
fold_cell log c changes e a k =
    get-apply (put area.Paxos (Version (suc c)) (entry log (suc c)) ∷ ops_in (entry log (suc c))) (fold log c) (place a k)
    ∙ ap (λ (ops : List Op). cell_after (put area.Paxos (Version (suc c)) (entry log (suc c)) ∷ ops) a k (cell (fold log c) a k)) e

pub record Holds (log : List (List ℕ)) (c : ℕ) : Type 0 where
  pub keeps : Keeps log c (readings_of (fold log c))
  pub above : (v : ℕ) → c < v → (readings_of (fold log c)).record_of v ≡ None
  pub others : (a : Area) (k : Key) → is_kept_key a k ≡ false → cell (fold log c) a k ≡ None
  pub chains : Chains log c

pub holds_none : (log : List (List ℕ)) → Holds log 0
holds_none log = record { keeps = keeps_none log; above = above_none log; others = others_none log; chains = chains_none log }

pub holds_more : (log : List (List ℕ)) (c : ℕ) → suc c ≤ 2 ^ 62 → Holds log c → (S : EncodesValue log c) → ops_in (entry log (suc c)) ≡ S.changes → Holds log (suc c)
holds_more log c fits H S e = record {
  keeps = subst (Keeps log (suc c)) (sym (fold_more log c S.changes e)) (keeps_more log c S.changes S.value.newer S.value.encoded next e (readings_of (fold log c)) fits H.keeps);
  above = λ v gt. ap (λ (w : Readings). w.record_of v) (fold_more log c S.changes e) ∙ above_more log c S.changes S.value.newer S.value.encoded next e (readings_of (fold log c)) H.above v gt;
  others = λ a k h. fold_cell log c S.changes e a k ∙ ap (cell_after (put area.Paxos (Version (suc c)) (entry log (suc c)) ∷ S.changes) a k) (H.others a k h) ∙ others_more log c S.changes S.value.newer S.value.encoded next e a k h;
  chains = chains_more log c S.changes S.value.newer S.value.encoded next e H.chains;
}
  where
    next : Next log c S.value.newer
    next = next_of log c (view_at log c) S.changes (omega arith) (keeps_view log c (omega arith) H.keeps) H.chains (view_last log c (omega arith)) S.value

-- ---- what is shown

-- the services' rows alone decide it
abbrev pub KeepsRows : List (List ℕ) → ℕ → Readings → Type 0
KeepsRows log c w = (s : Service) (k : Key) → w.row s k ≡ row_after s (incrementals s log c) k

pub shows : (log : List (List ℕ)) (c : ℕ) (w : Readings) → c ≤ 2 ^ 62 → Chains log c → KeepsRows log c w → Shows log c w
shows log c w fits C rows = record {
  version = λ s. last_is w s (incrementals s log c) (record { cell = rows s }) (let f = C.few s in omega arith);
  map = λ s. map_is w s (incrementals s log c) (record { cell = rows s }) (let f = C.few s in omega arith) (C.chain s);
  since = λ s v. since_is w s (incrementals s log c) (record { cell = rows s }) (let f = C.few s in omega arith) (C.chain s) v;
}
