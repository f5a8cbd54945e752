-- The result of an iteration, by what is heard in it.
use Rattle.std.proofs.Common.{◌≡◌, Option, None, Result, Ok, Err, refl, sym, ap, subst, ◌∙◌}
use Rattle.mon_link.specs.Links.{Observed}
use Rattle.mon_msg.specs.Protocol.Timers.{due}
use Rattle.mon_msg.specs.declared.view.Me.{Me}
use Rattle.mon_node.specs.Hearing.{Given, Heard, Hears, heard}
use Rattle.mon_node.specs.Nodes.{Outside, Serving}
use Rattle.mon_node.specs.Posting.{SendsPrefix}
use Rattle.mon_node.specs.Serving.{EndsAt, sends_of}
use Rattle.mon_node.specs.Iterations.{Iteration, iteration, ended_iteration}
use Rattle.mon_node.specs.declared.end.NodeEnd.TheVariants as end
use Rattle.mon_node.specs.declared.end.NodeEnd.{NodeEnd}
use Rattle.mon_node.specs.declared.hearing.TimedInput.{TimedInput}
use Rattle.mon_node.proofs.Sending.{none_in_front}

-- what is heard, given as an equal input
pub came_as : (h : Heard) (came x : Option TimedInput) (o : Outside) → Hears h (Ok came) o → came ≡ x → Hears h (Ok x) o
came_as h came x o heard is = subst (λ (y : Option TimedInput). Hears h (Ok y) o) is heard

module _ (me : Me) (g : Given) (s : Serving) where
  abbrev it : Heard
  it = heard me.member.monitors (due s.node.state.timers) g s.outside

  abbrev with_heard : Heard → Iteration
  with_heard h = record { came = h.came; serving = record s { outside = h.outside } }

  iteration_is : iteration me g s ≡ with_heard it
  unfolding iteration
  iteration_is = refl

  pub iteration_with : (came : Result (Option TimedInput) NodeEnd) (o : Outside) → it ≡ record { came = came; outside = o } → iteration me g s ≡ record { came = came; serving = record s { outside = o } }
  iteration_with came o e = iteration_is ∙ ap with_heard e

  -- nothing came
  pub quiet : (o : Outside) → it ≡ record { came = Ok None; outside = o } → ended_iteration me (iteration me g s) ≡ Ok (record s { outside = o })
  unfolding ended_iteration
  quiet o e = ap (ended_iteration me) (iteration_with (Ok None) o e)

  ends_with : (e : NodeEnd) (o : Outside) → it ≡ record { came = Err e; outside = o } → ended_iteration me (iteration me g s) ≡ Err e
  unfolding ended_iteration
  ends_with e o h = ap (ended_iteration me) (iteration_with (Err e) o h)

  clock_with : (e : NodeEnd) (o : Outside) → it ≡ record { came = Err e; outside = o } → o.clock ≡ (iteration me g s).serving.outside.clock
  clock_with e o h = sym (ap (λ (t : Iteration). t.serving.outside.clock) (iteration_with (Err e) o h))

  link_with : (e : NodeEnd) (o : Outside) → it ≡ record { came = Err e; outside = o } → o.link ≡ (iteration me g s).serving.outside.link
  link_with e o h = sym (ap (λ (t : Iteration). t.serving.outside.link) (iteration_with (Err e) o h))

  -- the end
  pub ends : (e : NodeEnd) (o : Outside) → Hears it (Err e) o → EndsAt me (iteration me g s) e o.clock o.link
  ends end.Closed o h = record { cause = ends_with end.Closed o h; clock_is = clock_with end.Closed o h; link_is = link_with end.Closed o h }
  ends end.LinkFault o h = record { cause = ends_with end.LinkFault o h; clock_is = clock_with end.LinkFault o h; link_is = link_with end.LinkFault o h }
  ends end.OutOfMemory o h = record {
    cause = tt;
    clock_is = h.0 ∙ sym (ap (λ (t : Iteration). t.serving.outside.clock) iteration_is);
    link_is = subst (λ (x : Option Observed). SendsPrefix (sends_of me (iteration me g s)) x o.link) (h.1 ∙ sym (ap (λ (t : Iteration). t.serving.outside.link) iteration_is)) (none_in_front (sends_of me (iteration me g s)) o.link);
  }
  ends end.TurnsUsed o h = absurd h
  ends end.DiskFault o h = absurd h
  ends (end.Full would_be) o h = absurd h
  ends (end.Spent spent) o h = absurd h
