-- What a peon hears, by what it sees.
use Rattle.std.proofs.Common.{◌≡◌, ℕ, Bool, true, false, ◌+◌, ◌≤◌, ◌&&◌, leb, List, length, Result, Ok, IsTrue, refl, sym, subst, ◌∙◌, arith}
use Rattle.std.specs.Bool.{◌==◌}
use Rattle.std.specs.List.{AllByRecursion}
use Rattle.std.specs.Prelude.{sum_by}
use Rattle.std.proofs.lemmas.Bool.{and_parts, eqb-true, leb-true}
use Rattle.mon_bytes.specs.declared.entry.Entry.{Entry}
use Rattle.mon_msg.specs.Protocol.Course.{Course, peon_is}
use Rattle.mon_msg.specs.Protocol.Entering.{bootstrap}
use Rattle.mon_msg.specs.Protocol.Hearing.{hear}
use Rattle.mon_msg.specs.Protocol.Length.{fits}
use Rattle.mon_msg.specs.Protocol.Parts.{value_length}
use Rattle.mon_msg.specs.Protocol.Peon.{of_leader, hear_collect, hear_begin, hear_commit, hear_lease}
use Rattle.mon_msg.specs.Protocol.Phases.{is_peon}
use Rattle.mon_msg.specs.Protocol.Readings.{Readings, epoch_of}
use Rattle.mon_msg.specs.Protocol.Table.{timer_comes}
use Rattle.mon_msg.specs.declared.paxos.Peon.{Peon}
use Rattle.mon_msg.specs.declared.plan.Plan.{Plan}
use Rattle.mon_msg.specs.declared.plan.RoleStop.{RoleStop}
use Rattle.mon_msg.specs.declared.view.Me.{Me}
use Rattle.mon_msg.specs.declared.view.View.{View}
use Rattle.mon_plan.specs.Plans.{PlansRow}
use Rattle.mon_plan.specs.Seen.{IsMet}
use Rattle.mon_plan.proofs.Planning.{weaken}
use Rattle.mon_plan.proofs.Values.{all_short}
use Rattle.mon_tx.specs.Text.{text, most}
use Rattle.mon_tx.specs.declared.op.Op.{Op}
use Rattle.mon_types.specs.declared.names.Which.{Which}
use Rattle.mon_wire.specs.declared.body.Body.TheVariants as body
use Rattle.mon_wire.specs.declared.body.Body.{Body}
use Rattle.mon_wire.specs.declared.phase.Timer.TheVariants as timer
use Rattle.mon_wire.specs.declared.phase.Timer.{Timer}
use Rattle.paxos_peon.specs.Rows.{is_role_message, is_rung, IsOurs}

module _ (me : Me) (now : ℕ) (w : Readings) (v : View) (s : Peon) (f e : ℕ) where
  abbrev pub seems_ours : Bool
  seems_ours = is_peon v.phase && e == epoch_of w && f == s.leader

  abbrev pub Met : Course → Type 0
  Met = IsMet me now w v (λ st. st.peon) s

  heard : (x : Course) → Met x → of_leader f e x ≡ seems_ours
  heard x b = λ i. is_peon (sym b.seen.phase i) && e == epoch_of (b.readings i) && f == (b.role i).leader

  pub others : seems_ours ≡ false → (x : Course) → Met x → of_leader f e x ≡ false
  others h x b = heard x b ∙ h

  -- a row for what the leader sends is the row for what is heard
  pub of_leader-row : seems_ours ≡ true → (row : ℕ → Course → Result Course Which) (r : Result (Plan Peon) RoleStop)
      → PlansRow me now peon_is (IsOurs w s s.leader e) (row s.leader) r → PlansRow me now peon_is Met (row f) r
  of_leader-row h row r p =
      let leads : f ≡ s.leader = eqb-true f s.leader (and_parts (is_peon v.phase && e == epoch_of w) (f == s.leader) h).1 in
      weaken me now peon_is (IsOurs w s f e) Met (λ x. x) (row f) r
      (λ x b. record { readings = b.readings; role = b.role; ours = heard x b ∙ h })
      (subst (λ (g : ℕ). PlansRow me now peon_is (IsOurs w s g e) (row g) r) (sym leads) p)

pub hear-dropped : (me : Me) (shared : List Entry) (now f e : ℕ) (b : Body) → IsTrue (is_role_message b) → (x : Course) → of_leader f e x ≡ false → hear me shared now f e b x ≡ Ok x
unfolding hear_collect hear_begin hear_commit hear_lease
hear-dropped me shared now f e (body.Collect pn first last) t x h = rw h refl
hear-dropped me shared now f e (body.Begin pn v value) t x h = rw h refl
hear-dropped me shared now f e (body.Commit from values) t x h = rw h refl
hear-dropped me shared now f e (body.Lease last) t x h = rw h refl
hear-dropped me shared now f e other t x h = let no : false ≡ true = t in absurd cc

pub rings : (me : Me) (now : ℕ) (t : Timer) → IsTrue (is_rung t) → (x : Course) → timer_comes me now t x ≡ bootstrap me now x
rings me now timer.Lease h x = refl
rings me now other h x = let no : false ≡ true = h in absurd cc

-- the values of messages that may be sent are short

pub begun-short : (n pn v : ℕ) (value : List Op) → IsTrue (fits n (body.Begin pn v value)) → length (text value) ≤ most
begun-short n pn v value h =
    let both = and_parts (leb (12 + (16 + (4 + length (text value)))) 1048576) true h in
    let le = leb-true (12 + (16 + (4 + length (text value)))) 1048576 both.0 in
    omega (arith, le)

pub committed-short : (n from : ℕ) (values : List (List Op)) → IsTrue (fits n (body.Commit from values)) → AllByRecursion (λ (ops : List Op). length (text ops) ≤ most) values
committed-short n from values h =
    let both = and_parts (leb (12 + (8 + (2 + sum_by value_length values))) 1048576) (leb (length values) 65535) h in
    let le = leb-true (12 + (8 + (2 + sum_by value_length values))) 1048576 both.0 in
    all_short values (omega (arith, le))

pub committed-few : (n from : ℕ) (values : List (List Op)) → IsTrue (fits n (body.Commit from values)) → length values ≤ 65535
committed-few n from values h =
    leb-true (length values) 65535 (and_parts (leb (12 + (8 + (2 + sum_by value_length values))) 1048576) (leb (length values) 65535) h).1
