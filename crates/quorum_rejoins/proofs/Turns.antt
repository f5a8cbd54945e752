-- What stays in the world while one member of a set copies from another one.
use Rattle.law_names.proofs.Runs.{World, grown}
use Rattle.law_names.proofs.Table.{Change, Course, Readings, State, Store, apply, encoded, joined, readings_of, same_phase}
use Rattle.mon_msg.proofs.Joining.{apply-joined}
use Rattle.mon_wire.specs.declared.phase.Phase.TheVariants as phase
use Rattle.quorum_agreement.proofs.Grown.{grown_marked, grown_none}
use Rattle.quorum_elects.proofs.Can.{Onward, Sane, Scope}
use Rattle.quorum_elects.proofs.Moving.{Moved}
use Rattle.std.proofs.Common.{Bool, List, Some, [], ap, false, inl, inr, length, refl, subst, sym, true, ℕ, ◌∙◌, ◌≡◌, ◌≤◌, ◌⊎◌}

-- A store with these readings adds nothing to the log: it is marked, or has no version that the log lacks.
abbrev pub AddsNone : List (List ℕ) → Readings → Type 0
AddsNone log w = (w.marked ≡ true) ⊎ (w.last ≤ length log)

pub adds_none : (log : List (List ℕ)) (m : Store) → AddsNone log (readings_of m) → grown log m ≡ log
adds_none log m h = by (readings_of m).marked refl h
  where
    by : (b : Bool) → (readings_of m).marked ≡ b → AddsNone log (readings_of m) → grown log m ≡ log
    by true t h = grown_marked log m t
    by false u (inr le) = grown_none log m u le
    by false u (inl t) = grown_marked log m t

-- The state of a monitor that can give copies: it isn't booting, its list of cookies has 15 places, and the number of
-- its next cookie is at most `most`.
pub record Gives (most : ℕ) (s : State) : Type 0 where
  pub runs : same_phase s.phase phase.Booting ≡ false
  pub long : length s.provider.cookies ≡ 15
  pub next : s.provider.next_cookie ≤ most

-- The provider is monitor p. Its store `given` is marked, or has no version that `log` lacks.
pub record Provider (S : Scope) : Type 0 where
  pub p : ℕ
  pub log : List (List ℕ)
  pub given : Store
  pub none : AddsNone log (readings_of given)

module _ (S : Scope) (P : Provider S) (k : ℕ) (other : k ≡ P.p → ⊥) (from : World) where
  -- In world w the log and the provider's store are still those of P, and the provider is up and can give copies. The
  -- stores of all monitors but k and the provider are those in `from`. What these monitors remember is not stated.
  pub record Turn (most : ℕ) (w : World) : Type 0 where
    pub room : Sane S w
    pub log : w.log ≡ P.log
    pub given : w.store P.p ≡ P.given
    pub state : State
    pub up : w.state P.p ≡ Some state
    pub gives : Gives most state
    pub rest : (j : ℕ) → (j ≡ k → ⊥) → (j ≡ P.p → ⊥) → w.store j ≡ from.store j

  pub unwritten : (cs : List Change) → cs ≡ [] → (m : Store) → apply (joined (encoded cs)) m ≡ m
  unwritten cs e m = ap (λ (xs : List Change). apply (joined (encoded xs)) m) e ∙ apply-joined [] m

  -- This stays after an event at the provider that writes nothing.
  abbrev pub turn_p : {most : ℕ} (more : ℕ) {w v : World} (y : Course) → Turn most w → Onward S w v → Moved S w v P.p y → y.changes ≡ [] → Gives more y.state → Turn more v
  turn_p {most} more {w} {v} y T o M still G = record {
    room = o.sane T.room;
    log = M.log ∙ ap (grown w.log) (unwritten y.changes still (w.store P.p) ∙ T.given) ∙ ap (λ (l : List (List ℕ)). grown l P.given) T.log ∙ adds_none P.log P.given P.none;
    given = M.stored ∙ unwritten y.changes still (w.store P.p) ∙ T.given;
    state = y.state;
    up = M.up;
    gives = G;
    rest = λ j a b. (M.others j b).1 ∙ T.rest j a b;
  }

  -- This stays after an event at member k, if its store then adds nothing to the log.
  abbrev pub turn_k : {most : ℕ} {w v : World} (y : Course) → Turn most w → Onward S w v → Moved S w v k y → AddsNone P.log y.readings → Turn most v
  turn_k {most} {w} {v} y T o M none = record {
    room = o.sane T.room;
    log = M.log ∙ ap (λ (l : List (List ℕ)). grown l (apply (joined (encoded y.changes)) (w.store k))) T.log
        ∙ adds_none P.log (apply (joined (encoded y.changes)) (w.store k)) (subst (AddsNone P.log) (sym reads) none);
    given = (M.others P.p (λ e. other (sym e))).1 ∙ T.given;
    state = T.state;
    up = (M.others P.p (λ e. other (sym e))).0 ∙ T.up;
    gives = T.gives;
    rest = λ j a b. (M.others j a).1 ∙ T.rest j a b;
  }
    where
      reads : readings_of (apply (joined (encoded y.changes)) (w.store k)) ≡ y.readings
      reads = ap readings_of (sym M.stored) ∙ M.reads
