-- One member starts, and asks another one how far it is.
use Rattle.calm_sizes.proofs.Stores.{short_behind}
use Rattle.law_names.proofs.Runs.{World, most_size, size_of}
use Rattle.law_names.proofs.Table.{Body, Boot, Change, Course, Epoch, Readings, Store, apply, booting, encoded, epoch_of, has, joined, number_bytes, place, quorum_of, react, readings_of, shared_entries}
use Rattle.log_model.proofs.TextSizes.{area_length, key_length}
use Rattle.mon_msg.proofs.Joining.{apply-joined}
use Rattle.mon_msg.specs.declared.input.Input.TheVariants as input
use Rattle.mon_tx.specs.declared.key.Area.TheVariants as area
use Rattle.mon_tx.specs.declared.key.Key.TheVariants as key
use Rattle.mon_wire.specs.declared.body.Body.TheVariants as body
use Rattle.mon_wire.specs.declared.phase.Phase.TheVariants as phase
use Rattle.quorum_elects.proofs.Can.{Can, New, Onward, Scope, then, weaker}
use Rattle.quorum_elects.proofs.Moving.{Bears, Did, Sound}
use Rattle.quorum_elects.proofs.Rows.{Answers, probed}
use Rattle.quorum_elects.proofs.Standing.{Is, letter}
use Rattle.quorum_elects.proofs.Steps.{is_now, is_stays}
use Rattle.quorum_elects.proofs.Walking.{Surely, weaken}
use Rattle.quorum_elects.specs.Ready.{HasRoom}
use Rattle.quorum_laws.specs.Accepting.{readings_at}
use Rattle.quorum_model.proofs.Members.{member_of}
use Rattle.quorum_rejoins.proofs.Copying.{Mail, T1}
use Rattle.quorum_rejoins.proofs.Events.{deliver, start, start_copy}
use Rattle.quorum_rejoins.proofs.Sizes.{put_small}
use Rattle.quorum_rejoins.proofs.Taking.{Begins, begins}
use Rattle.quorum_rejoins.proofs.Turns.{AddsNone, Gives, Provider, turn_k, turn_p}
use Rattle.std.proofs.Common.{Bool, List, [], ap, arith, false, inl, inr, length, ltb, refl, subst, suc, sym, true, ℕ, ◌+◌, ◌<◌, ◌∙◌, ◌∷◌, ◌≡◌, ◌≤◌, ◌⊎◌}
use Rattle.std.proofs.lemmas.Bool.{ltb-true}

-- ---- a start makes a store larger by at most two numbers

eight : (n : ℕ) → length (number_bytes n) ≤ 8
unfolding number_bytes
eight n = omega arith

one_put : (b : ℕ) (m : Store) → size_of (apply (encoded (Boot b ∷ [])) m) ≤ size_of m + 100
one_put b m =
    let s = put_small m (place area.Monitor key.BootCount) (number_bytes b) in
    let e = eight b in
    let a = area_length area.Monitor in
    let k = key_length key.BootCount tt in
    omega (arith, s, e, a, k)

two_puts : (b : ℕ) (m : Store) → size_of (apply (encoded (Boot b ∷ Epoch 1 ∷ [])) m) ≤ size_of m + 200
two_puts b m =
    let f = one_put b m in
    let s = put_small (apply (encoded (Boot b ∷ [])) m) (place area.Monitor key.ElectionEpoch) (number_bytes 1) in
    let e = eight 1 in
    let a = area_length area.Monitor in
    let k = key_length key.ElectionEpoch tt in
    omega (arith, f, s, e, a, k)

start_small : (b : ℕ) (m : Store) (cs : List Change) → (cs ≡ Boot b ∷ []) ⊎ (cs ≡ Boot b ∷ Epoch 1 ∷ []) → size_of m + 1000 ≤ most_size → size_of (apply (joined (encoded cs)) m) ≤ most_size
start_small b m cs (inl e) room = let s = one_put b m in let same = ap size_of (apply-joined (encoded cs) m) in let is = ap (λ (xs : List Change). size_of (apply (encoded xs) m)) e in omega (arith, s, same, is, room)
start_small b m cs (inr e) room = let s = two_puts b m in let same = ap size_of (apply-joined (encoded cs) m) in let is = ap (λ (xs : List Change). size_of (apply (encoded xs) m)) e in omega (arith, s, same, is, room)

module _ (S : Scope) (several : 1 < S.ms.count) (P : Provider S) (k : ℕ) (other : k ≡ P.p → ⊥) (from : World) (lt_k : ltb k S.ms.count ≡ true) (in_k : has S.q k ≡ true) (lt_p : ltb P.p S.ms.count ≡ true) (in_p : has S.q P.p ≡ true) where
  abbrev n : ℕ
  n = S.ms.count

  abbrev T2 : ℕ → World → Type 0
  T2 most w = T1 S several P k other from lt_k in_k lt_p in_p most w

  abbrev Mail2 : ℕ → ℕ → Body → World → Type 0
  Mail2 f g b w = Mail S several P k other from lt_k in_k lt_p in_p f g b w

  -- r is r0 after one more start, with the same epoch
  pub record StartedOf (r0 r : Readings) : Type 0 where
    pub own : r ≡ record r0 { boot = suc r0.boot; epoch = r.epoch }
    pub epoch : epoch_of r ≡ epoch_of r0

  pub record Asking (most : ℕ) (r0 : Readings) (w : World) : Type 0 where
    pub turn : T2 most w
    pub member : Is (λ r s. (s.phase ≡ phase.Probing) × StartedOf r0 r) w k
    pub asks : Mail2 k P.p body.Probe w

  pub record Told (most : ℕ) (r0 : Readings) (w : World) : Type 0 where
    pub turn : T2 most w
    pub member : Is (λ r s. (s.phase ≡ phase.Probing) × StartedOf r0 r) w k
    pub quorum : List Bool
    pub reply : Mail2 P.p k (body.ProbeReply quorum (readings_of P.given).first (readings_of P.given).last) w

  module _ (most : ℕ) (unmarked : (readings_of P.given).marked ≡ false) where
    -- its own start, if it has room
    starts_if : (w : World) → T2 most w → HasRoom (readings_at w k).boot → AddsNone P.log (readings_at w k) → ((readings_at w k).marked ≡ true → size_of (w.store k) + 1000 ≤ most_size) → Can S 1 (Asking most (readings_at w k)) w
    starts_if w T boot none large = by (readings_at w k).marked refl
      where
        R : Course → Type 0
        R = Begins S.ms several k lt_k (shared_entries (w.store k)) (S.clock.event w) (readings_at w k)

        walked : Surely (Begins S.ms several k lt_k (shared_entries (w.store k)) (S.clock.event w) (readings_at w k)) (react (member_of S.ms k lt_k) (shared_entries (w.store k)) (S.clock.event w) (readings_at w k) (booting k) input.Start)
        walked = begins S.ms several k lt_k (shared_entries (w.store k)) (S.clock.event w) (readings_at w k) boot

        after : (v : World) → Onward S w v → Did S (Begins S.ms several k lt_k (shared_entries (w.store k)) (S.clock.event w) (readings_at w k)) w k v → Asking most (readings_at w k) v
        after v on D =
            let B = D.did in
            record {
              turn = turn_k S P k other from D.y T on D.moved (subst (AddsNone P.log) (sym B.own) none);
              member = is_now S (λ r s. (s.phase ≡ phase.Probing) × StartedOf (readings_at w k) r) w v k D.y D.moved (B.phase, record { own = B.own; epoch = B.epoch });
              asks = (B.at, D.moved.says P.p (letter n k B.at body.Probe) (B.says P.p (ltb-true P.p S.ms.count lt_p) (λ e. other (sym e))));
            }

        sound : (readings_at w k).marked ≡ false → (y : Course) → Begins S.ms several k lt_k (shared_entries (w.store k)) (S.clock.event w) (readings_at w k) y → Sound (readings_at w k) y
        sound u y B = record { tells = B.tells; fits = B.fits; short = B.short; unmarked = ap (λ (r : Readings). r.marked) B.own ∙ u }

        bears : size_of (w.store k) + 1000 ≤ most_size → (y : Course) → Begins S.ms several k lt_k (shared_entries (w.store k)) (S.clock.event w) (readings_at w k) y → Bears (w.store k) y
        bears room y B = record {
          tells = B.tells;
          fits = B.fits;
          short = λ all. short_behind y.changes (w.store k) B.short all;
          small = λ short L. start_small (suc (readings_at w k).boot) (w.store k) y.changes B.puts room;
        }

        by : (b : Bool) → (readings_at w k).marked ≡ b → Can S 1 (Asking most (readings_at w k)) w
        by false u = weaker S (omega arith) after (start S w T.room k lt_k in_k R (weaken R (λ y. Sound (readings_at w k) y × R y) _ (λ y B. (sound u y B, B)) walked))
        by true t = weaker S (omega arith) after (start_copy S w T.room k lt_k in_k R (weaken R (λ y. Bears (w.store k) y × R y) _ (λ y B. (bears (large t) y B, B)) walked))

    answers : (r0 : Readings) (w : World) → Asking most r0 w → Can S 1 (Told most r0) w
    answers r0 w A = weaker S (omega arith) after
        (deliver S w T.room P.p lt_p in_p (Answers S.ms several 0 P.p lt_p (shared_entries (w.store P.p)) (S.clock.event w) (readings_at w P.p) T.state k) (letter n k (A.asks).0 body.Probe) (A.asks).1 T.state T.up
        (probed S.ms several 0 P.p lt_p (shared_entries (w.store P.p)) (S.clock.event w) (readings_at w P.p) T.state k (A.asks).0 other (ap (λ (m : Store). (readings_of m).marked) T.given ∙ unmarked) G.runs))
      where
        T : T2 most w
        T = A.turn

        G : Gives most T.state
        G = T.gives

        after : (v : World) → Onward S w v → Did S (Answers S.ms several 0 P.p lt_p (shared_entries (w.store P.p)) (S.clock.event w) (readings_at w P.p) T.state k) w P.p v → Told most r0 v
        after v on D =
            let B = D.did in
            record {
              turn = turn_p S P k other from most D.y T on D.moved B.still (subst (Gives most) (sym B.same) G);
              member = is_stays (λ r s. (s.phase ≡ phase.Probing) × StartedOf r0 r) w v k (D.moved.others k other) A.member;
              quorum = quorum_of T.state;
              reply = (
                B.at,
                subst (λ (m : Store). New S.sent v (record { to = k; message = letter n P.p B.at (body.ProbeReply (quorum_of T.state) (readings_of m).first (readings_of m).last) })) T.given
                    (D.moved.says k (letter n P.p B.at (body.ProbeReply (quorum_of T.state) (readings_at w P.p).first (readings_at w P.p).last)) B.says),
              );
            }

    pub asks_how_far : (w : World) → T2 most w → HasRoom (readings_at w k).boot → AddsNone P.log (readings_at w k) → ((readings_at w k).marked ≡ true → size_of (w.store k) + 1000 ≤ most_size) → Can S 2 (Told most (readings_at w k)) w
    asks_how_far w T boot none large = then S (starts_if w T boot none large) (λ v on A. answers (readings_at w k) v A)
