-- The input that an event brings to a monitor, and what the monitor does with it.
use Rattle.law_names.proofs.Runs.{Event, Keeps, Monitors, Plain, PlainFits, World, happens, kept_only, lost, moved, plain_of, unmoved}
use Rattle.law_names.proofs.Table.{AllByRecursion, Course, Me, Store, apply, at_rest, encoded, is_leading, joined, reaction_of, readings_of, shared_entries}
use Rattle.log_copies.proofs.Matching.{monitor_keeps, read_last}
use Rattle.log_copies.proofs.Standing.{Agrees}
use Rattle.mon_msg.proofs.Changed.{readings-joined}
use Rattle.quorum_agreement.proofs.Invariant.{remembers}
use Rattle.quorum_agreement.proofs.Result.{OneLog}
use Rattle.quorum_agreement.proofs.Step.{copy_marked}
use Rattle.quorum_history.proofs.Holds.{InPhase, core_of}
use Rattle.quorum_history.proofs.Phases.{no, votes_unmarked}
use Rattle.quorum_laws.proofs.Invariant.{InvOf}
use Rattle.quorum_laws.proofs.Meetings.{fine, fits, on}
use Rattle.quorum_laws.proofs.Values.{made, sharing}
use Rattle.quorum_model.proofs.Happening as happening
use Rattle.quorum_model.proofs.Happening.{Arrived, reacted}
use Rattle.quorum_model.proofs.Members.{member_of}
use Rattle.quorum_walk.proofs.FineCourses.{Ended, EntryFine, Fine, begun, fit_fits, still}
use Rattle.quorum_walk.proofs.FineTable.{react_fine}
use Rattle.quorum_walk.proofs.Sparing.{own_of}
use Rattle.quorum_walk.proofs.Walk.{Then}
use Rattle.std.proofs.Common.{IfOk, Ok, arith, false, inl, inr, length, refl, subst, sym, true, ℕ, ◌∙◌, ◌≡◌, ◌≤◌}
use Rattle.std.proofs.lemmas.Bool.{ltb-true}

-- what arrives at a monitor with a fitting event, and what it does
pub record Does (ms : Monitors) (w : World) (p : Plain) : Type 0 where
  pub fit : PlainFits ms.count p
  pub by : Arrived ms w p
  pub y : Course
  pub is : reacted ms w p by ≡ Ok y

pub each_event : (ms : Monitors) (w : World) (P : World → Type 0) (e : Event) → PlainFits ms.count (plain_of e) → P (unmoved w (plain_of e)) → ((i : ℕ) → P (lost w (plain_of e) i)) → ((d : Does ms w (plain_of e)) → P (moved w (plain_of e) d.by.rank (reaction_of d.y)))
    → ((d : Does ms w (plain_of e)) → P (kept_only w (plain_of e) d.by.rank (reaction_of d.y))) → IfOk (happens ms w e) P
each_event ms w P e F nothing loses goes_on goes_down = happening.each_event ms w P e nothing (λ i lt. loses i) (λ d. goes_on (does d)) (λ d. goes_down (does d))
  where
    does : happening.Does ms w (plain_of e) → Does ms w (plain_of e)
    does d = record { fit = F; by = d.by; y = d.y; is = d.is }

-- ---- what a monitor does, by what holds of it

module _ (ms : Monitors) (w : World) (I : InvOf ms w) (p : Plain) (d : Does ms w p) where
  abbrev pub me : Me
  me = member_of ms d.by.rank d.by.lt

  abbrev pub m : Store
  m = w.store d.by.rank

  abbrev pub next : Store
  next = apply (joined (encoded d.y.changes)) m

  pub phase_holds : InPhase ms.count I.g d.by.rank (core_of (own_of (readings_of m)) d.by.state) d.by.state.phase
  phase_holds = on ms w p d.by w.asked I

  pub ended : Ended (begun me (readings_of m) d.by.state d.by.came) d.y
  ended =
      let shares : AllByRecursion EntryFine (shared_entries m) = sharing m (I.mine d.by.rank).fine.records in
      let F : Fine (still me (readings_of m)) (at_rest (readings_of m) d.by.state) = record { shape = tt; stored = (m, refl); tells = refl; boot = refl; fits = tt; readings = (I.mine d.by.rank).fine; state = fits ms w p d.by w.asked I; sends = tt } in
      (subst (Then (Ended (begun me (readings_of m) d.by.state d.by.came))) d.is (react_fine me d.by.at made (shared_entries m) shares (readings_of m) d.by.state d.by.came (fine ms w p d.by w.asked I d.fit shares d.by.came d.by.brought) F)).holds

  -- what its store's readers return then
  pub tells : readings_of next ≡ d.y.readings
  tells = readings-joined d.y.changes (fit_fits d.y.changes ended.fits) m ∙ sym ended.tells

  -- ---- what a leader has

  pub leads_unmarked : is_leading d.by.state.phase ≡ true → (readings_of m).marked ≡ false
  leads_unmarked t = votes_unmarked ms.count I.g d.by.rank (core_of (own_of (readings_of m)) d.by.state) d.by.state.phase (rw t refl) phase_holds

  module _ (L : OneLog ms w) where
    pub record Versions : Type 0 where
      pub within : (readings_of m).last ≤ length w.log
      pub keeps : Keeps w.log (readings_of m).last (readings_of m)

    pub versions : (readings_of m).marked ≡ false → Versions
    versions u = by (L.stores d.by.rank (ltb-true d.by.rank ms.count d.by.lt))
      where
        by : Agrees w.log m (remembers d.by.rank (w.state d.by.rank)) → Versions
        by (inl V) =
            let h = V.versions in
            let e = read_last w.log L.short L.values V.last m h in
            let k = monitor_keeps w.log L.short L.values V.last m h in
            record { within = (let l = h.within in omega arith); keeps = subst (λ (c : ℕ). Keeps w.log c (readings_of m)) (sym e) k }
        by (inr C) = no (sym u ∙ copy_marked w.log m (remembers d.by.rank (w.state d.by.rank)) C)
