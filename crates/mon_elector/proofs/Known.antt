-- What is known of an event under way, by what an elector sees and remembers.
use Rattle.std.proofs.Common.{◌≡◌, ℕ, Bool, List, [], Result, Ok, refl, sym, subst}
use Rattle.std.specs.List.{AllByRecursion}
use Rattle.mon_msg.specs.Protocol.Changes.{Change, encoded}
use Rattle.mon_msg.specs.Protocol.Course.{Course, elector_is}
use Rattle.mon_msg.specs.Protocol.Entering.{elect}
use Rattle.mon_msg.specs.Protocol.Played.{Fits}
use Rattle.mon_msg.specs.Protocol.Readings.{Readings, epoch_of, readings_of}
use Rattle.mon_msg.specs.declared.election.Elector.{Elector}
use Rattle.mon_msg.specs.declared.plan.Arming.{Arming}
use Rattle.mon_msg.specs.declared.plan.Next.TheVariants as next
use Rattle.mon_msg.specs.declared.plan.Next.{Next}
use Rattle.mon_msg.specs.declared.plan.Plan.{Plan}
use Rattle.mon_msg.specs.declared.plan.Sent.{Sent}
use Rattle.mon_plan.specs.Plans.{act, done}
use Rattle.mon_plan.specs.Seen.{IsMet}
use Rattle.mon_plan.proofs.Kept.{kept-elector}
use Rattle.mon_plan.proofs.Planning.{does_as, only_acts}
use Rattle.mon_types.specs.declared.names.Which.{Which}
use Rattle.mon_wire.specs.declared.phase.Phase.{Phase}
use Rattle.mon_elector.specs.Rows.{ByRow}
use Rattle.mon_elector.specs.declared.here.Here.{Here}

-- a plan by its parts
abbrev pub plan_of : List Change → List Sent → List Arming → Elector → Next → Plan Elector
plan_of cs ms ts s n = record { tx = encoded cs; out = ms; timers = ts; state = s; next = n }

abbrev pub planned : List Change → List Sent → List Arming → Elector → Next → Course → Course
planned cs ms ts s n x = done elector_is cs (plan_of cs ms ts s n) x

abbrev pub Met : Here → Course → Type 0
Met here x = IsMet here.me.now here.time (readings_of here.stored.now) here.view.now (λ st. st.elector) here.state.now x

abbrev pub epoch_in : Here → ℕ
epoch_in here = epoch_of (readings_of here.stored.now)

module _ (here : Here) (x : Course) (b : Met here x) where
  -- what holds of the event also holds of what is known of it
  pub along : (P : Readings → Elector → Type 0) → P x.readings x.state.elector → P (readings_of here.stored.now) here.state.now
  along P p = subst (λ (r : Readings). P r here.state.now) b.readings (subst (P x.readings) b.role p)

  pub at_phase : (test : Phase → Bool) (t : Bool) → test here.view.now.phase ≡ t → test x.state.phase ≡ t
  at_phase test t h = subst (λ (p : Phase). test p ≡ t) b.seen.phase h

  pub at_epoch : (test : ℕ → Bool) (t : Bool) → test (epoch_in here) ≡ t → test (epoch_of x.readings) ≡ t
  at_epoch test t h = subst (λ (r : Readings). test (epoch_of r) ≡ t) (sym b.readings) h

  pub at_role : (test : Elector → Bool) (t : Bool) → test here.state.now ≡ t → test x.state.elector ≡ t
  at_role test t h = subst (λ (e : Elector). test e ≡ t) (sym b.role) h

-- ---- what a row's call answers

module _ (here : Here) (row : Course → Result Course Which) (p : Plan Elector) where
  -- nothing
  pub stays : p ≡ plan_of [] [] [] here.state.now next.Stay → ((x : Course) → Met here x → row x ≡ Ok x) → ByRow here row (Ok p)
  stays e is =
      only_acts here.me.now here.time elector_is (Met here) (λ x. x) row [] tt here.state.now (λ x b. kept-elector here.state.now x b.role) next.Stay (λ x. refl) is p e

  -- an election is called
  pub elects : p ≡ plan_of [] [] [] here.state.now next.Elect → ((x : Course) → Met here x → row x ≡ elect here.me.now here.time x) → ByRow here row (Ok p)
  elects e is =
      only_acts here.me.now here.time elector_is (Met here) (λ x. x) row [] tt here.state.now (λ x b. kept-elector here.state.now x b.role) next.Elect (λ x. refl) is p e

  -- a plan of these parts
  pub plans : (cs : List Change) → AllByRecursion Fits cs → (ms : List Sent) (ts : List Arming) (t : Elector) (n : Next)
      → p ≡ plan_of cs ms ts t n → ((x : Course) → Met here x → row x ≡ act here.me.now here.time n (planned cs ms ts t n x)) → ByRow here row (Ok p)
  plans cs fit ms ts t n e is =
      does_as here.me.now here.time elector_is (Met here) (λ x. x) row cs fit (plan_of cs ms ts t n) refl is p e
