-- What is known of an event under way, by what a prober sees and remembers.
use Rattle.std.proofs.Common.{◌≡◌, ℕ, Bool, List, [], Result, Ok, refl, sym, subst}
use Rattle.std.specs.List.{AllByRecursion}
use Rattle.mon_msg.specs.Protocol.Changes.{Change, encoded}
use Rattle.mon_msg.specs.Protocol.Course.{Course, prober_is}
use Rattle.mon_msg.specs.Protocol.Played.{Fits}
use Rattle.mon_msg.specs.Protocol.Readings.{Readings}
use Rattle.mon_msg.specs.declared.election.Prober.{Prober}
use Rattle.mon_msg.specs.declared.plan.Arming.{Arming}
use Rattle.mon_msg.specs.declared.plan.Next.{Next}
use Rattle.mon_msg.specs.declared.plan.Plan.{Plan}
use Rattle.mon_msg.specs.declared.plan.Sent.{Sent}
use Rattle.mon_msg.specs.declared.view.Me.{Me}
use Rattle.mon_msg.specs.declared.view.View.{View}
use Rattle.mon_plan.specs.Plans.{act, done, stands}
use Rattle.mon_plan.specs.Seen.{IsMet}
use Rattle.mon_plan.proofs.Kept.{kept-prober}
use Rattle.mon_plan.proofs.Planning.{does_as, only_acts}
use Rattle.mon_types.specs.declared.names.Which.{Which}
use Rattle.mon_wire.specs.declared.phase.Phase.{Phase}
use Rattle.mon_probe.specs.Rows.{PlansProbe}

-- a plan by its parts
abbrev pub plan_of : List Change → List Sent → List Arming → Prober → Next → Plan Prober
plan_of cs ms ts s n = record { tx = encoded cs; out = ms; timers = ts; state = s; next = n }

abbrev pub planned : List Change → List Sent → List Arming → Prober → Next → Course → Course
planned cs ms ts s n x = done prober_is cs (plan_of cs ms ts s n) x

abbrev pub Met : Me → ℕ → Readings → View → Prober → Course → Type 0
Met me now w v s = IsMet me now w v (λ st. st.prober) s

module _ (me : Me) (now : ℕ) (w : Readings) (v : View) (s : Prober) (x : Course) (b : Met me now w v s x) where
  -- what holds of the event also holds of what is known of it
  pub along : (P : Readings → Prober → Type 0) → P x.readings x.state.prober → P w s
  along P p = subst (λ (r : Readings). P r s) b.readings (subst (P x.readings) b.role p)

  pub at_phase : (test : Phase → Bool) (t : Bool) → test v.phase ≡ t → test x.state.phase ≡ t
  at_phase test t h = subst (λ (p : Phase). test p ≡ t) b.seen.phase h

  pub at_store : (test : Readings → Bool) (t : Bool) → test w ≡ t → test x.readings ≡ t
  at_store test t h = subst (λ (r : Readings). test r ≡ t) (sym b.readings) h

  pub at_role : (test : Prober → Bool) (t : Bool) → test s ≡ t → test x.state.prober ≡ t
  at_role test t h = subst (λ (p : Prober). test p ≡ t) (sym b.role) h

-- ---- what a row's call answers

module _ (me : Me) (now : ℕ) (w : Readings) (v : View) (s : Prober) (row : Course → Result Course Which) (p : Plan Prober) where
  -- an act alone, before which the phase stays
  pub acts : (n : Next) → ((x : Course) → stands n x ≡ x) → p ≡ plan_of [] [] [] s n → ((x : Course) → Met me now w v s x → row x ≡ act me now n x) → PlansProbe me now w v s row (Ok p)
  acts n stays e is = only_acts me now prober_is (Met me now w v s) (λ x. x) row [] tt s (λ x b. kept-prober s x b.role) n stays is p e

  -- a plan of these parts
  pub plans : (cs : List Change) → AllByRecursion Fits cs → (ms : List Sent) (ts : List Arming) (t : Prober) (n : Next)
      → p ≡ plan_of cs ms ts t n → ((x : Course) → Met me now w v s x → row x ≡ act me now n (planned cs ms ts t n x)) → PlansProbe me now w v s row (Ok p)
  plans cs fit ms ts t n e is =
      does_as me now prober_is (Met me now w v s) (λ x. x) row cs fit (plan_of cs ms ts t n) refl is p e
