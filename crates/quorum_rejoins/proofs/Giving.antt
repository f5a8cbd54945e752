-- The rows by which a monitor gives a copy.
use Rattle.law_names.proofs.Runs.{Monitors}
use Rattle.law_names.proofs.Table.{Body, Cookie, Course, Entry, Me, Place, Readings, State, at_rest, chunk, epoch_of, grant, is_after, is_cookie, react, same_phase}
use Rattle.mon_msg.specs.declared.input.Input.TheVariants as input
use Rattle.mon_msg.specs.declared.plan.Sent.TheVariants as send
use Rattle.mon_types.specs.declared.names.Which.TheVariants as which
use Rattle.mon_wire.specs.declared.body.Body.TheVariants as body
use Rattle.mon_wire.specs.declared.phase.Phase.TheVariants as phase
use Rattle.quorum_elects.proofs.Moving.{Sound}
use Rattle.quorum_elects.proofs.Standing.{letter}
use Rattle.quorum_elects.proofs.Walking.{Surely, done, so, where_fits}
use Rattle.quorum_model.proofs.Members.{member_of}
use Rattle.quorum_walk.proofs.Lists.{Among}
use Rattle.std.proofs.Common.{Bool, List, None, Option, Some, [], ap, arith, false, filter, inl, length, ltb, refl, slice_index_or, slice_set, suc, true, zero, ℕ, ◌&&◌, ◌<◌, ◌^◌, ◌∙◌, ◌∷◌, ◌≡◌, ◌≤◌}
use Rattle.std.proofs.lemmas.Bool.{eq-eqb}
use Rattle.table_rows.proofs.Hearing.{another}
use Rattle.table_rows.proofs.Serving.{get_chunk_row, get_cookie_full_row, get_cookie_recent_row}

pub held_set : (xs : List (Option Cookie)) (k : ℕ) (c : Option Cookie) → k < length xs → slice_index_or (slice_set xs k c) k None ≡ c
held_set [] k c lt = absurd (omega arith)
held_set (x ∷ xs) zero c lt = refl
held_set (x ∷ xs) (suc k) c lt = held_set xs k c (omega arith)

pub same_cookie_is : (c : Cookie) → is_cookie c (Some c) ≡ true
same_cookie_is c = λ j. eq-eqb c.boot c.boot refl j && eq-eqb c.seq c.seq refl j

module _ (ms : Monitors) (several : 1 < ms.count) (i : ℕ) (lt : ltb i ms.count ≡ true) (sh : List Entry) (now : ℕ) where
  abbrev n : ℕ
  n = ms.count

  abbrev me : Me
  me = member_of ms i lt

  abbrev Does : Readings → (Course → Type 0) → Course → Type 0
  Does w R y = Sound w y × R y

  -- ---- cookies

  abbrev pub next_cookie : Readings → State → Cookie
  next_cookie w s = record { boot = w.boot; seq = s.provider.next_cookie }

  pub record Grants (k : ℕ) (full : Bool) (w : Readings) (s : State) (y : Course) : Type 0 where
    pub state : y.state ≡ record s { provider = record { cookies = slice_set s.provider.cookies k (Some (next_cookie w s)); next_cookie = suc s.provider.next_cookie } }
    pub still : y.changes ≡ []
    pub reads : y.readings ≡ w
    pub says : Among (send.Message k (letter n i (epoch_of w) (body.Cookie full (next_cookie w s) w.last))) y.out

  granted : (k : ℕ) (full : Bool) (w : Readings) (s : State) → w.marked ≡ false → s.provider.next_cookie ≤ 2 ^ 62 → Surely (Does w (Grants k full w s)) (grant me full k (at_rest w s))
  granted k full w s unmarked room = where_fits (Does w (Grants k full w s)) which.Cookie s.provider.next_cookie _ room (λ fits. done (
    record { tells = refl; fits = tt; short = tt; unmarked = unmarked },
    record { state = refl; still = refl; reads = refl; says = inl refl },
  ))

  pub grants_full : (w : Readings) (s : State) (k e : ℕ) → (k ≡ i → ⊥) → w.marked ≡ false → same_phase s.phase phase.Booting ≡ false → s.provider.next_cookie ≤ 2 ^ 62
      → Surely (Does w (Grants k true w s)) (react me sh now w s (input.Deliver (letter n k e body.GetCookieFull)))
  grants_full w s k e ne unmarked up room = so (get_cookie_full_row me sh now w e (another ne up) unmarked) (granted k true w s unmarked room)

  pub grants_recent : (w : Readings) (s : State) (k e last : ℕ) → (k ≡ i → ⊥) → w.marked ≡ false → same_phase s.phase phase.Booting ≡ false → s.provider.next_cookie ≤ 2 ^ 62 → w.first ≤ suc last
      → Surely (Does w (Grants k false w s)) (react me sh now w s (input.Deliver (letter n k e (body.GetCookieRecent last))))
  grants_recent w s k e last ne unmarked up room low = so (get_cookie_recent_row me sh now w e (another ne up) unmarked last low) (granted k false w s unmarked room)

  -- ---- chunks

  pub record Gives (k : ℕ) (b : Body) (w : Readings) (s : State) (y : Course) : Type 0 where
    pub state : y.state ≡ s
    pub still : y.changes ≡ []
    pub reads : y.readings ≡ w
    pub says : Among (send.Message k (letter n i (epoch_of w) b)) y.out

  pub gives : (w : Readings) (s : State) (k e : ℕ) (c : Cookie) (p : Place) → (k ≡ i → ⊥) → w.marked ≡ false → same_phase s.phase phase.Booting ≡ false → slice_index_or s.provider.cookies k None ≡ Some c → w.first ≤ suc p.version
      → Surely (Does w (Gives k (chunk w.last c p (filter (is_after p.key) sh) n w.record_of) w s)) (react me sh now w s (input.Deliver (letter n k e (body.GetChunk c p))))
  gives w s k e c p ne unmarked up held low =
      so (get_chunk_row me sh now w e (another ne up) unmarked c p (ap (is_cookie c) held ∙ same_cookie_is c) low)
      (done (record { tells = refl; fits = tt; short = tt; unmarked = unmarked }, record { state = refl; still = refl; reads = refl; says = inl refl }))
