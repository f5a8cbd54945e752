-- What is heard, by whether a timer is due.
use Rattle.std.proofs.Common.{◌≡◌, ℕ, List, [], ◌∷◌, Option, Some, None, Result, Ok, sym, ap, subst, ◌∙◌}
use Rattle.std.specs.Prelude.{option_map}
use Rattle.mon_frag.specs.declared.partial.Partial.{Partial}
use Rattle.mon_link.specs.Clocks.{Readings, after}
use Rattle.mon_link.specs.Histories.{Happened, GoOn}
use Rattle.mon_link.specs.Histories.Happened.{Received}
use Rattle.mon_link.specs.Links.{Observed}
use Rattle.mon_link.specs.declared.link.Got.TheVariants as got
use Rattle.mon_link.specs.declared.link.Got.{Got}
use Rattle.mon_msg.specs.declared.input.Input.TheVariants as input
use Rattle.mon_types.specs.declared.names.Stop.{Stop}
use Rattle.mon_wire.specs.declared.phase.Timer.{Timer}
use Rattle.mon_node.specs.Hearing.{Given, Heard, Hears, IsGiven, IsReading, AreAnswers, AreAsked, due_by, wait_until, at_time, clock_read, link_asked, answer_arrived, heard_by, heard}
use Rattle.mon_node.specs.Nodes.{Outside, outside_of}
use Rattle.mon_node.specs.declared.end.NodeEnd.{NodeEnd}
use Rattle.mon_node.specs.declared.hearing.TimedInput.{TimedInput}
use Rattle.mon_node.specs.Talking.{asked}
use Rattle.mon_node.proofs.Sends.{no_call}
use Rattle.mon_node.proofs.Talking.{asked_none, asked_once}

module _ (n : ℕ) (next : Option (Timer × ℕ)) (began : ℕ) (parts : List Partial) (clock read : Option Readings) (link : Option Observed) (reading : IsReading clock began) (read_is : read ≡ option_map after clock) where
  abbrev before : Outside
  before = outside_of parts clock link

  abbrev once_read : Outside
  once_read = outside_of parts read link

  read_so : clock_read before ≡ once_read
  read_so = λ i. outside_of parts (sym read_is i) link

  abbrev unasked : Given
  unasked = record { began = began; answer = Ok got.Idle; later = 0 }

  pub timer_heard : (P : List Happened → Type 0) (t : Timer) → Some t ≡ due_by began next
      → (g : Given) × IsGiven next g before × (heard n next g before ≡ record { came = Ok (Some (at_time began (input.Timer t))); outside = once_read }) × GoOn P (asked next g) P
  timer_heard P t is = (
    unasked,
    record { began = reading; rest = subst (λ (d : Option Timer). AreAsked d unasked (clock_read before)) is tt },
    ap (λ (d : Option Timer). heard_by d n (wait_until began next) unasked (clock_read before)) (sym is) ∙ ap (λ (o : Outside). heard_by (Some t) n (wait_until began next) unasked o) read_so,
    asked_none next unasked t P is (no_call P),
  )

  module _ (wait : ℕ) (wait_is : wait ≡ wait_until began next) (none : None ≡ due_by began next) where
    came_so : (answer : Result Got Stop) (later : ℕ) → answer_arrived n later answer (link_asked wait answer once_read) ≡ heard n next (record { began = began; answer = answer; later = later }) before
    came_so answer later =
        ap (λ (o : Outside). answer_arrived n later answer (link_asked wait answer o)) (sym read_so)
        ∙ ap (λ (w : ℕ). answer_arrived n later answer (link_asked w answer (clock_read before))) wait_is
        ∙ ap (λ (d : Option Timer). heard_by d n (wait_until began next) (record { began = began; answer = answer; later = later }) (clock_read before)) none

    pub link_heard : (P Q : List Happened → Type 0) (answer : Result Got Stop) (later : ℕ) (result : Result (Option TimedInput) NodeEnd) (o : Outside)
        → AreAnswers once_read answer later → Hears (answer_arrived n later answer (link_asked wait answer once_read)) result o → GoOn P (Received wait answer ∷ []) Q
        → (g : Given) × IsGiven next g before × Hears (heard n next g before) result o × GoOn P (asked next g) Q
    link_heard P Q answer later result o answers h asks = (
      record { began = began; answer = answer; later = later },
      record { began = reading; rest = subst (λ (d : Option Timer). AreAsked d (record { began = began; answer = answer; later = later }) (clock_read before)) none (subst (λ (x : Outside). AreAnswers x answer later) (sym read_so) answers) },
      subst (λ (x : Heard). Hears x result o) (came_so answer later) h,
      asked_once next began wait later answer P Q none wait_is asks,
    )
