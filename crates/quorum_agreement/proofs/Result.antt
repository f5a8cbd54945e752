-- What follows from the one log: no two monitors disagree, and what is sent and copied is the log's.
use Rattle.law_names.proofs.Runs.{Agree, AllValues, Monitors, World, is_marked}
use Rattle.law_names.proofs.Table.{AllByRecursion, Body, Op, Place as ChunkPlace, Readings, Requester, State, Store, SyncStage, entry, fold, readings_of, text}
use Rattle.log_copies.proofs.Matching.{one_within, record_there}
use Rattle.log_copies.proofs.Sending.{BodyMatches}
use Rattle.log_copies.proofs.Standing.{Agrees, TakesCopy}
use Rattle.log_copies.proofs.UnderWay.{InStage, Marked}
use Rattle.log_copies.proofs.Unmarked.{OnLog}
use Rattle.log_model.proofs.Records.{AreVersions, IsVersion}
use Rattle.mon_bytes.specs.declared.entry.KeyPlace.TheVariants as key_place
use Rattle.mon_msg.specs.declared.synchronization.SyncStage.TheVariants as sync
use Rattle.mon_wire.specs.declared.body.Body.TheVariants as body
use Rattle.mon_wire.specs.declared.phase.Phase.TheVariants as phase
use Rattle.quorum_agreement.proofs.Chosen.{Chosen}
use Rattle.quorum_agreement.proofs.Invariant.{EnvelopeMatches, LogHolds, OfLog, remembers}
use Rattle.quorum_agreement.proofs.LoneWorlds.{LoneHolds}
use Rattle.quorum_agreement.proofs.Made.{AllAsked}
use Rattle.quorum_agreement.proofs.Step.{copy_marked}
use Rattle.quorum_agreement.specs.Copying.{HasCopied, IsCopying, MarkedIfFull}
use Rattle.quorum_agreement.specs.Matching.{AreItsEntries, AreItsValues, MatchesLog}
use Rattle.quorum_history.proofs.History.{Ghost}
use Rattle.quorum_history.proofs.Holds.{InPhase, RequestsIn, StageHolds, core_of}
use Rattle.quorum_laws.proofs.Invariant.{InvOf}
use Rattle.quorum_laws.proofs.Reading.{state_holds}
use Rattle.quorum_laws.specs.Values.{IsChosen}
use Rattle.quorum_model.specs.Agree as agreed
use Rattle.quorum_walk.proofs.Sparing.{Own, own_of}
use Rattle.std.proofs.Common.{Bool, List, None, Option, Some, [], ap, arith, false, inl, inr, length, refl, subst, suc, sym, true, zero, ℕ, ◌<◌, ◌^◌, ◌∙◌, ◌∷◌, ◌≡◌, ◌≤◌}

-- of one monitor or of several
pub record OneLog (ms : Monitors) (w : World) : Type 0 where
  pub short : length w.log ≤ 2 ^ 62
  pub values : AllValues w.log
  pub asks : AllAsked ms.count w.asked w.log
  pub stores : (i : ℕ) → i < ms.count → Agrees w.log (w.store i) (remembers i (w.state i))
  pub sent : AllByRecursion (EnvelopeMatches w.log) w.messages

pub several_log : (ms : Monitors) (w : World) → LogHolds ms w → OneLog ms w
several_log ms w h = let O = h.1 in record { short = O.short; values = O.values; asks = O.asks; stores = O.stores; sent = O.sent }

pub lone_log : (ms : Monitors) (w : World) → LoneHolds ms w → OneLog ms w
lone_log ms w h = let O = h.1 in record {
  short = O.short;
  values = O.values;
  asks = O.asks;
  stores = λ i lt. let s = O.stores i lt in inl (record { last = length w.log; versions = s.versions; unmarked = s.unmarked });
  sent = O.sent;
}

-- ---- what monitors have

marked_there : (m : Store) → (readings_of m).marked ≡ true → is_marked m ≡ true
unfolding readings_of
marked_there m t = t

pub there_marked : (m : Store) → is_marked m ≡ true → (readings_of m).marked ≡ true
unfolding readings_of
there_marked m t = t

marked_is : (m : Store) → (readings_of m).marked ≡ is_marked m
unfolding readings_of
marked_is m = refl

-- ---- what a requester has

module _ (ms : Monitors) (w : World) (I : InvOf ms w) where
  abbrev pub Requesting : (i : ℕ) → State → Type 0
  Requesting i s = RequestsIn I.g (core_of (own_of (readings_of (w.store i))) s)

  pub requesting : (i : ℕ) (s : State) → w.state i ≡ Some s → s.phase ≡ phase.Synchronizing → Requesting i s
  requesting i s up is = subst (InPhase ms.count I.g i (core_of (own_of (readings_of (w.store i))) s)) is (state_holds ms w I i s up)

  pub marked_if_full : (i : ℕ) → MarkedIfFull (w.store i) (w.state i)
  marked_if_full i = by (w.state i) refl
    where
      by : (o : Option State) → w.state i ≡ o → MarkedIfFull (w.store i) o
      by None up = tt
      by (Some s) up = λ is. (requesting i s up is).0 ∙ marked_is (w.store i)

module _ (ms : Monitors) (w : World) (L : OneLog ms w) where
  on_log : (m : Store) → OnLog w.log m → agreed.Agrees w.log m
  on_log m V =
      let h = V.versions in
      record {
        within = (let a = h.within in let b = h.last in omega arith);
        records = λ v low high. record_there w.log L.short L.values V.last m h v low (let b = h.last in omega arith);
        folded = h.folded ∙ ap (fold w.log) (sym h.last);
      }

  pub agree : Agree ms.count w
  agree = record { monitors = λ i lt unmarked. by i unmarked (L.stores i lt); values = L.asks }
    where
      by : (i : ℕ) → ¬ (is_marked (w.store i) ≡ true) → Agrees w.log (w.store i) (remembers i (w.state i)) → agreed.Agrees w.log (w.store i)
      by i unmarked (inl V) = on_log (w.store i) V
      by i unmarked (inr T) = absurd (unmarked (marked_there (w.store i) (copy_marked w.log (w.store i) (remembers i (w.state i)) T)))

  -- what a requester copied, from what holds in its stage
  has_copied : (g : Ghost) (last reached provider : ℕ) (before : Readings) (floor : ℕ) (m : Store) (z : SyncStage) (start : ℕ) (p : ChunkPlace)
      → StageHolds g last reached provider true start p.version z → InStage w.log before floor m z start p → HasCopied w.log m reached z start p
  has_copied g last reached provider before floor m sync.Cookie start p R h = h
  has_copied g last reached provider before floor m sync.Chunks start p R h = ((R.2 refl).0, h.within, h.copy)
  has_copied g last reached provider before floor m (sync.Replay next end) start p R h = record {
    done = h.done;
    is = h.is;
    above = (let low = R.1 in let high = R.2 in let is = h.is in omega arith);
    within = h.within;
    copy = h.copy;
  }

  module _ (I : InvOf ms w) where
    pub copying : (i : ℕ) → i < ms.count → is_marked (w.store i) ≡ true → IsCopying w.log (w.store i) (w.state i)
    copying i lt t = by (w.state i) refl (L.stores i lt)
      where
        up : (s : State) → w.state i ≡ Some s → (T : TakesCopy w.log (w.store i) s) → Marked w.log T.before T.floor (w.store i) s → IsCopying w.log (w.store i) (Some s)
        up s is T (inl U) =
            let m : Store = w.store i in
            let own : Own = own_of (readings_of m) in
            let q : Requester = s.requester in
            let stage : StageHolds I.g own.last own.floor q.provider q.full q.start q.place.version q.stage = (requesting ms w I i s is U.in_phase).1 in
            let full : StageHolds I.g own.last own.floor q.provider true q.start q.place.version q.stage =
            subst (λ (b : Bool). StageHolds I.g own.last own.floor q.provider b q.start q.place.version q.stage) U.full stage in
            inl (record { synchronizes = U.in_phase; full = U.full; copy = has_copied I.g own.last own.floor q.provider T.before T.floor m q.stage q.start q.place full U.stage })
        up s is T (inr W) = inr W.in_phase

        by : (o : Option State) → w.state i ≡ o → Agrees w.log (w.store i) (remembers i o) → IsCopying w.log (w.store i) o
        by None is h = tt
        by (Some s) is (inl V) = let g : true ≡ false = sym (there_marked (w.store i) t) ∙ V.unmarked in absurd cc
        by (Some s) is (inr T) = up s is T T.marked

-- ---- what they send

its_values : (log : List (List ℕ)) (xs : List (List Op)) (v : ℕ) → AreVersions log v xs → AreItsValues log v xs
its_values log [] v h = tt
its_values log (x ∷ xs) v h = (low v h.0, h.0.encodes, its_values log xs (suc v) h.1)
  where
    low : (v : ℕ) → IsVersion log v x → v ≤ length log
    low zero V = omega arith
    low (suc v) V = one_within log v x V

pub tells : (log : List (List ℕ)) (b : Body) → BodyMatches log b → MatchesLog log b
tells log (body.Last pn first last whole from values pending) h = (h.0, its_values log values from h.1)
tells log (body.Commit from values) h = its_values log values from h
tells log (body.ProbeReply quorum first last) h = h
tells log (body.Collect pn first last) h = h
tells log (body.Lease last) h = h
tells log (body.LeaseAck last) h = h
tells log (body.GetCookieRecent last) h = h
tells log (body.Cookie full cookie last) h = h
tells log (body.Chunk cookie p values entries done) h = let C = h.0 in (its_values log values (suc p.version) C.versions, C.within, C.made)
tells log (body.LastChunk cookie p values entries last) h =
    let C = h.0 in (its_values log values (suc p.version) C.versions, (let w = C.within in let e = h.1 in omega arith), h.1, subst (λ (v : ℕ). AreItsEntries log v p.key key_place.Done entries) (sym h.1) C.made)
tells log other h = tt

-- ---- what several of them chose

module _ (ms : Monitors) (w : World) (J : InvOf ms w) (L : OfLog ms w w.asked J) where
  accepted : (v : ℕ) (x : List Op) → Chosen ms.count J.g v x → IsChosen ms.count w v (text x)
  accepted v x a = record { pn = a.pn; by = a.by; major = record { below = a.below; major = a.major }; all = λ m k. J.triples.kept m v a.pn x (a.all m k) }

  pub entries_chosen : (v : ℕ) → v < length w.log → IsChosen ms.count w (suc v) (entry w.log (suc v))
  entries_chosen v lt = let e = L.chosen v lt in subst (IsChosen ms.count w (suc v)) (sym e.encodes) (accepted (suc v) e.x e.chosen)
