-- One member of a set catches up, by whichever copy it needs.
use Rattle.law_names.proofs.Runs.{World, most_size, size_of}
use Rattle.law_names.proofs.Table.{AllByRecursion, Course, Fits, Op, Readings, Store, SyncStage, cell, epoch_of, epoch_or_first, floor_of, has, lag, play, readings_of, record_at, shared_entries, text}
use Rattle.log_copies.proofs.UnderWay.{floor_short, there_short}
use Rattle.mon_msg.specs.declared.synchronization.SyncStage.TheVariants as sync
use Rattle.mon_tx.specs.declared.key.Area.TheVariants as area
use Rattle.mon_tx.specs.declared.key.Key.TheVariants as key
use Rattle.mon_wire.specs.declared.body.Body.TheVariants as body
use Rattle.mon_wire.specs.declared.phase.Phase.TheVariants as phase
use Rattle.quorum_elects.proofs.Can.{Can, Onward, Scope, then, weaker}
use Rattle.quorum_elects.proofs.Moving.{Bears, Did}
use Rattle.quorum_elects.proofs.Standing.{Is, letter}
use Rattle.quorum_elects.proofs.Steps.{is_now}
use Rattle.quorum_elects.proofs.Walking.{weaken}
use Rattle.quorum_elects.specs.Ready.{HasRoom}
use Rattle.quorum_laws.specs.Accepting.{readings_at}
use Rattle.quorum_rejoins.proofs.Beginnings.{StartedOf, Told, asks_how_far}
use Rattle.quorum_rejoins.proofs.Copying.{Joined, T1, Waiting, bears, copies_whole, puts_mark}
use Rattle.quorum_rejoins.proofs.Events.{deliver, deliver_copy}
use Rattle.quorum_rejoins.proofs.Progress.{IsBrief}
use Rattle.quorum_rejoins.proofs.Recent as recent
use Rattle.quorum_rejoins.proofs.Sizes.{IsStill}
use Rattle.quorum_rejoins.proofs.Taking.{Asks, Marks, MustCopy, Takes, mark, must_ask, must_copy}
use Rattle.quorum_rejoins.proofs.Turns.{AddsNone, Provider, turn_k}
use Rattle.quorum_walk.proofs.Sparing.{Own, own_of}
use Rattle.std.proofs.Common.{Bool, List, Some, [], ap, arith, false, inl, inr, length, ltb, refl, subst, suc, sym, true, ℕ, ◌&&◌, ◌+◌, ◌<◌, ◌^◌, ◌∙◌, ◌∷◌, ◌≡◌, ◌≤◌, ◌⊎◌}
use Rattle.std.proofs.lemmas.Bool.{and_parts, ltb-false, ltb-true}

mark_fits : (m : Store) → AllByRecursion Fits (mark (readings_of m) ∷ [])
unfolding readings_of
mark_fits m = ((floor_short m, there_short (cell m area.Paxos key.LastPn), there_short (cell m area.Paxos key.AcceptedPn)), tt)

-- The monitor's epoch and proposal numbers are those in r0. It was started at most once more, and is in no full
-- synchronization.
pub record KeptFrom (r0 r : Readings) : Type 0 where
  pub unmarked : r.marked ≡ false
  pub boot : r.boot ≤ suc r0.boot
  pub epoch : epoch_of r ≡ epoch_of r0
  pub last_pn : r.last_pn ≡ r0.last_pn
  pub promise : r.promise ≡ r0.promise

module _ (S : Scope) (several : 1 < S.ms.count) (P : Provider S) (k : ℕ) (other : k ≡ P.p → ⊥) (from : World) (lt_k : ltb k S.ms.count ≡ true) (in_k : has S.q k ≡ true) (lt_p : ltb P.p S.ms.count ≡ true) (in_p : has S.q P.p ≡ true) where
  abbrev n : ℕ
  n = S.ms.count

  abbrev t : ℕ
  t = (readings_of P.given).last

  abbrev T3 : ℕ → World → Type 0
  T3 most w = T1 S several P k other from lt_k in_k lt_p in_p most w

  -- Member k has at least the versions of the provider.
  pub record Caught (most : ℕ) (r0 : Readings) (w : World) : Type 0 where
    pub turn : T3 most w
    pub kept : KeptFrom r0 (readings_at w k)
    pub reached : t ≤ (readings_at w k).last

  module _ (few : k < 15) (unmarked : (readings_of P.given).marked ≡ false) (within : t ≤ length P.log) (short : length P.log < 2 ^ 62) (near : length P.log ≤ suc t) (kept : (readings_of P.given).first ≤ suc t)
      (brief : AllByRecursion IsBrief (shared_entries P.given))
      (there : (v : ℕ) → (readings_of P.given).first ≤ suc v → v < (readings_of P.given).last → (x : List Op) × (record_at (readings_of P.given).record_of (suc v) ≡ Some x) × (length (text x) ≤ 524288)) (entries : length (shared_entries P.given) ≤ 915) (window : t < (readings_of P.given).first + 752) (most : ℕ) (room : suc most ≤ 2 ^ 62) where
    -- the events that a copy takes at most: a store shares at most 915 entries, and keeps at most 752 versions
    abbrev pub enough : ℕ
    enough = 1850

    -- after the provider's PROBE_REPLY was sent to member k
    module _ (r0 : Readings) (v : World) (A : Told S several P k other from lt_k in_k lt_p in_p most r0 v) where
      T : T3 most v
      T = A.turn

      M : Is (λ r s. (s.phase ≡ phase.Probing) × StartedOf S several P k other from lt_k in_k lt_p in_p r0 r) v k
      M = A.member

      started : StartedOf S several P k other from lt_k in_k lt_p in_p r0 (readings_at v k)
      started = (M.holds).1

      -- what it keeps of its own after a copy
      kept_from : (z : Readings) → z.marked ≡ false → z.boot ≡ (readings_at v k).boot → epoch_of z ≡ epoch_of (readings_at v k) → z.last_pn ≡ (readings_at v k).last_pn → z.promise ≡ (readings_at v k).promise → KeptFrom r0 z
      kept_from z u b e l p = record {
        unmarked = u;
        boot = (let s = ap (λ (x : Readings). x.boot) started.own in omega arith);
        epoch = e ∙ started.epoch;
        last_pn = l ∙ ap (λ (x : Readings). x.last_pn) started.own;
        promise = p ∙ ap (λ (x : Readings). x.promise) started.own;
      }

      -- ---- a whole copy

      marks_it : MustCopy (readings_at v k) (readings_of P.given).first t → Can S 1 (Waiting S several P k other from lt_k in_k lt_p in_p most (own_of (play (mark (readings_at v k)) (readings_at v k)))) v
      marks_it why = weaker S (omega arith) after
          (deliver_copy S v T.room k lt_k in_k (Marks S.ms several k lt_k (shared_entries (v.store k)) (S.clock.event v) P.p (readings_at v k)) (letter n P.p (A.reply).0 (body.ProbeReply A.quorum (readings_of P.given).first t)) (A.reply).1 M.state M.up
          (weaken (Marks S.ms several k lt_k (shared_entries (v.store k)) (S.clock.event v) P.p (readings_at v k)) _ _ (λ y B. (bearing y B, B))
          (must_copy S.ms several k lt_k (shared_entries (v.store k)) (S.clock.event v) (readings_at v k) M.state P.p (A.reply).0 A.quorum (readings_of P.given).first t (λ e. other (sym e)) (M.holds).0 why)))
        where
          bearing : (y : Course) → Marks S.ms several k lt_k (shared_entries (v.store k)) (S.clock.event v) P.p (readings_at v k) y → Bears (v.store k) y
          bearing y B =
              let K = B.takes in
              bears (v.store k) y (mark (readings_at v k) ∷ []) B.changes B.reads (mark_fits (v.store k)) (puts_mark (floor_of (readings_at v k)) (readings_at v k).last_pn (readings_at v k).promise) K.phase
              (subst (λ (z : SyncStage). IsStill z y.state.requester.start y.state.requester.place.version) (sym K.stage) tt)

          after : (u : World) → Onward S v u → Did S (Marks S.ms several k lt_k (shared_entries (v.store k)) (S.clock.event v) P.p (readings_at v k)) v k u → Waiting S several P k other from lt_k in_k lt_p in_p most (own_of (play (mark (readings_at v k)) (readings_at v k))) u
          after u on D =
              let B = D.did in
              record {
                turn = turn_k S P k other from D.y T on D.moved (inl (ap (λ (x : Readings). x.marked) B.reads));
                member = is_now S (λ r s. Takes P.p true sync.Cookie s × (own_of r ≡ own_of (play (mark (readings_at v k)) (readings_at v k)))) v u k D.y D.moved (B.takes, ap own_of B.reads);
                asks = (epoch_of (readings_at v k), D.moved.says P.p (letter n k (epoch_of (readings_at v k)) body.GetCookieFull) B.says);
              }

      whole : MustCopy (readings_at v k) (readings_of P.given).first t → Can S 1848 (Caught (suc most) r0) v
      whole why =
          weaker S (omega arith) ended
          (then S (marks_it why) (λ u on W. copies_whole S several P k other from lt_k in_k lt_p in_p few unmarked within short near kept brief most room (own_of (play (mark (readings_at v k)) (readings_at v k))) refl u W))
        where
          ended : (u : World) → Onward S v u → Joined S several P k other from lt_k in_k lt_p in_p (suc most) (own_of (play (mark (readings_at v k)) (readings_at v k))) u → Caught (suc most) r0 u
          ended u on J = record {
            turn = J.turn;
            kept = kept_from (readings_at u k) (ap (λ (x : Own). x.marked) J.own) (ap (λ (x : Own). x.boot) J.own) (ap (λ (x : Own). epoch_or_first x.epoch) J.own) (ap (λ (x : Own). x.last_pn) J.own) (ap (λ (x : Own). x.promise) J.own);
            reached = (let e = ap (λ (x : Own). x.last) J.own in omega arith);
          }

      -- ---- a recent one

      module _ (plain : (readings_at v k).marked ≡ false) (begins : (readings_at v k).last ≤ length P.log) where
        asks_it : (ltb (readings_at v k).last (readings_of P.given).first && ltb 1 (readings_of P.given).first) ≡ false → (readings_at v k).last + lag < t → Can S 1 (recent.Waiting S several P k other from lt_k in_k lt_p in_p most (own_of (readings_at v k))) v
        asks_it low late = weaker S (omega arith) after
            (deliver S v T.room k lt_k in_k (Asks S.ms several k lt_k (shared_entries (v.store k)) (S.clock.event v) P.p (readings_at v k)) (letter n P.p (A.reply).0 (body.ProbeReply A.quorum (readings_of P.given).first t)) (A.reply).1 M.state M.up
            (weaken (Asks S.ms several k lt_k (shared_entries (v.store k)) (S.clock.event v) P.p (readings_at v k)) _ _ (λ y B. (recent.nothing (readings_at v k) y B.still B.reads plain, B))
            (must_ask S.ms several k lt_k (shared_entries (v.store k)) (S.clock.event v) (readings_at v k) M.state P.p (A.reply).0 A.quorum (readings_of P.given).first t (λ e. other (sym e)) (M.holds).0 plain low late)))
          where
            after : (u : World) → Onward S v u → Did S (Asks S.ms several k lt_k (shared_entries (v.store k)) (S.clock.event v) P.p (readings_at v k)) v k u → recent.Waiting S several P k other from lt_k in_k lt_p in_p most (own_of (readings_at v k)) u
            after u on D =
                let B = D.did in
                record {
                  turn = turn_k S P k other from D.y T on D.moved (inr (subst (λ (z : Readings). z.last ≤ length P.log) (sym B.reads) begins));
                  member = is_now S (λ r s. Takes P.p false sync.Cookie s × (own_of r ≡ own_of (readings_at v k))) v u k D.y D.moved (B.takes, ap own_of B.reads);
                  asks = (epoch_of (readings_at v k), D.moved.says P.p (letter n k (epoch_of (readings_at v k)) (body.GetCookieRecent (readings_at v k).last)) B.says);
                }

        first_low : (ltb (readings_at v k).last (readings_of P.given).first && ltb 1 (readings_of P.given).first) ≡ false → (readings_of P.given).first ≤ suc (readings_at v k).last
        first_low f = by (ltb (readings_at v k).last (readings_of P.given).first) refl f
          where
            by : (b : Bool) → ltb (readings_at v k).last (readings_of P.given).first ≡ b → (b && ltb 1 (readings_of P.given).first) ≡ false → (readings_of P.given).first ≤ suc (readings_at v k).last
            by false e f = let z = ltb-false (readings_at v k).last (readings_of P.given).first e in omega arith
            by true e f = let z = ltb-false 1 (readings_of P.given).first f in omega arith

        lately : (ltb (readings_at v k).last (readings_of P.given).first && ltb 1 (readings_of P.given).first) ≡ false → (readings_at v k).last + lag < t → Can S 1848 (Caught (suc most) r0) v
        lately low late =
            weaker S (let z = first_low low in omega arith) ended
            (then S (asks_it low late) (λ u on W. recent.copies_recent S several P k other from lt_k in_k lt_p in_p few unmarked short there most room (own_of (readings_at v k)) plain begins (first_low low) u W))
          where
            ended : (u : World) → Onward S v u → recent.Joined S several P k other from lt_k in_k lt_p in_p (suc most) (own_of (readings_at v k)) u → Caught (suc most) r0 u
            ended u on J = record {
              turn = J.turn;
              kept = kept_from (readings_at u k) (ap (λ (x : Own). x.marked) J.own ∙ plain) (ap (λ (x : Own). x.boot) J.own) (ap (λ (x : Own). epoch_or_first x.epoch) J.own) (ap (λ (x : Own). x.last_pn) J.own) (ap (λ (x : Own). x.promise) J.own);
              reached = (let e = ap (λ (x : Own). x.last) J.own in let z = J.reached in omega arith);
            }

        either : (readings_at v k).last + lag < t → Can S 1848 (Caught (suc most) r0) v
        either late = by (ltb (readings_at v k).last (readings_of P.given).first && ltb 1 (readings_of P.given).first) refl
          where
            by : (b : Bool) → (ltb (readings_at v k).last (readings_of P.given).first && ltb 1 (readings_of P.given).first) ≡ b → Can S 1848 (Caught (suc most) r0) v
            by true e = let z = and_parts (ltb (readings_at v k).last (readings_of P.given).first) (ltb 1 (readings_of P.given).first) e in weaker S (omega arith) (λ u on C. C) (whole (inr (plain, ltb-true (readings_at v k).last (readings_of P.given).first z.0, ltb-true 1 (readings_of P.given).first z.1)))
            by false e = weaker S (omega arith) (λ u on C. C) (lately e late)

    -- Member k is in a full synchronization whose floor the provider reaches, or lacks more versions of it than `lag`.
    abbrev pub MustCatchUp : Readings → Type 0
    MustCatchUp r0 = ((r0.marked ≡ true) × (1 ≤ t) × (r0.floor ≤ t)) ⊎ ((r0.marked ≡ false) × (r0.last ≤ length P.log) × (r0.last + lag < t))

    pub catches_up : (w : World) → T3 most w → HasRoom (readings_at w k).boot → ((readings_at w k).marked ≡ true → size_of (w.store k) + 1000 ≤ most_size) → MustCatchUp (readings_at w k) → Can S enough (Caught (suc most) (readings_at w k)) w
    catches_up w T boot large why = then S (asks_how_far S several P k other from lt_k in_k lt_p in_p most unmarked w T boot (none why) large) (λ v on A. goes v A why)
      where
        none : MustCatchUp (readings_at w k) → AddsNone P.log (readings_at w k)
        none (inl m) = inl m.0
        none (inr u) = inr u.1

        goes : (v : World) (A : Told S several P k other from lt_k in_k lt_p in_p most (readings_at w k) v) → MustCatchUp (readings_at w k) → Can S 1848 (Caught (suc most) (readings_at w k)) v
        goes v A (inl m) =
            let M = A.member in
            let st = (M.holds).1 in
            weaker S (omega arith) (λ u on C. C) (whole (readings_at w k) v A (inl (ap (λ (x : Readings). x.marked) st.own ∙ m.0, m.1, (let e = ap (λ (x : Readings). x.floor) st.own in let z = m.2 in omega arith))))
        goes v A (inr u) =
            let M = A.member in
            let st = (M.holds).1 in
            either (readings_at w k) v A (ap (λ (x : Readings). x.marked) st.own ∙ u.0) (let e = ap (λ (x : Readings). x.last) st.own in let z = u.1 in omega arith) (let e = ap (λ (x : Readings). x.last) st.own in let z = u.2 in omega arith)
