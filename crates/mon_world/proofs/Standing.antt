-- The result of an input at a monitor that may be down.
use Rattle.std.proofs.Common.{◌≡◌, ◌≢◌, ℕ, Bool, true, false, Option, Some, None, Ok, Err, refl, sym, ap, subst, ◌∙◌}
use Rattle.std.specs.Prelude.{◌↔◌, IsTrue, is_some}
use Rattle.std.proofs.lemmas.Bool.{false≢true}
use Rattle.mon_msg.specs.Protocol.State.{State, booting}
use Rattle.mon_msg.specs.declared.input.Input.{Input}
use Rattle.mon_msg.specs.declared.input.Input.TheVariants as input
use Rattle.mon_msg.specs.declared.view.Me.{Me}
use Rattle.mon_tx.specs.Map.{Store}
use Rattle.quorum_model.specs.Files.{Files}
use Rattle.quorum_model.specs.Meets.{state_at}
use Rattle.quorum_model.specs.Scenes.{files_at}
use Rattle.trace_text.specs.declared.step.StateLine.{StateLine}
use Rattle.mon_world.specs.declared.meeting.Handled.{Handled}
use Rattle.mon_world.specs.declared.monitor.Monitor.{Monitor}
use Rattle.mon_world.specs.declared.stop.WorldStop.{WorldStop}
use Rattle.mon_world.specs.Meeting.{IsHandled, Meets}
use Rattle.mon_world.specs.Monitor.{does}
use Rattle.mon_world.specs.Step.{state_before, state_if_up, state_of}
use Rattle.mon_world.specs.Stops.{Stops}

-- an input that isn't a start finds the state and the files of the monitor unchanged
pub record AsItStands (rank : ℕ) (m : Store) (s : Option State) (f : Files) (came : Input) : Type 0 where
  pub state : state_at rank s came ≡ s
  pub files : files_at came f ≡ f
  pub before : state_before m s came ≡ state_if_up m s

pub as_it_stands : (rank : ℕ) (m : Store) (s : Option State) (f : Files) (came : Input) → came ≢ input.Start → AsItStands rank m s f came
as_it_stands rank m s f input.Start n = absurd (n refl)
as_it_stands rank m s f (input.Deliver x) n = record { state = refl; files = refl; before = refl }
as_it_stands rank m s f (input.Timer x) n = record { state = refl; files = refl; before = refl }
as_it_stands rank m s f (input.Client session x) n = record { state = refl; files = refl; before = refl }

pub no_start : (came : Input) (b : Bool) → IsTrue b ↔ (came ≡ input.Start) → b ≡ false → came ≢ input.Start
no_start came b is none e = false≢true (sym none ∙ is.1 e)

-- a monitor that is up has a state
pub record IsUpAt (m : Store) (s : Option State) (line : StateLine) : Type 0 where
  pub state : State
  pub up : s ≡ Some state
  pub line_is : line ≡ state_of m state

pub is_up : (m : Store) (s : Option State) (line : StateLine) → Some line ≡ state_if_up m s → IsUpAt m s line
is_up m None line e = absurd cc
is_up m (Some x) line e = record { state = x; up = refl; line_is = cc }

pub is_down : (m : Store) (s : Option State) (line : Option StateLine) → line ≡ state_if_up m s → is_some line ≡ false → s ≡ None
is_down m None line is none = refl
is_down m (Some x) line is none = absurd (false≢true (sym none ∙ ap is_some is))

-- ---- it is up, and what comes isn't a start

module _ (me : Me) (now : ℕ) (m : Store) (s : Option State) (f : Files) (line : StateLine) (came : Input) (new : Monitor) (other : came ≢ input.Start) (up : IsUpAt m s line) where
  pub handles_input : (t : Handled) → IsHandled me now m up.state f (Some line) came t new → Meets me now m s f came new (Ok (Some t))
  handles_input t handled =
      let still = as_it_stands me.member.rank m s f came other in (
        up.state,
        still.state ∙ up.up,
        subst (λ (f : Files). IsHandled me now m up.state f (state_before m s came) came t new) (sym still.files)
            (subst (λ (b : Option StateLine). IsHandled me now m up.state f b came t new) (ap Some up.line_is ∙ sym (ap (state_if_up m) up.up) ∙ sym still.before) handled),
      )

  pub stops_input : (e : WorldStop) → Stops e (does me now m up.state came) → Meets me now m s f came new (Err e)
  stops_input e stops =
      let still = as_it_stands me.member.rank m s f came other in (up.state, still.state ∙ up.up, stops)

-- ---- it starts or is up

pub may_start : (rank : ℕ) (s : Option State) (came : Input) → came ≡ input.Start → (t : State) × (state_at rank s came ≡ Some t)
may_start rank s came is = (booting rank, ap (state_at rank s) is)

pub may_go_on : (rank : ℕ) (m : Store) (s : Option State) (came : Input) (line : Option StateLine) → line ≡ state_if_up m s → is_some line ≡ true → (t : State) × (state_at rank s came ≡ Some t)
may_go_on rank m s input.Start line is up = (booting rank, refl)
may_go_on rank m (Some x) (input.Deliver y) line is up = (x, refl)
may_go_on rank m (Some x) (input.Timer y) line is up = (x, refl)
may_go_on rank m (Some x) (input.Client session y) line is up = (x, refl)
may_go_on rank m None came line is up = absurd (false≢true (sym (ap is_some is) ∙ up))
