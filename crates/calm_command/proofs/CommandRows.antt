-- How a monitor that runs takes a client's command.
use Rattle.law_names.proofs.Runs.{request_of}
use Rattle.law_names.proofs.Table.{Command, Course, Entry, Me, Readings, Session, State, ask, at_rest, hear_client, react, same_phase}
use Rattle.mon_bytes.specs.declared.command.Command.TheVariants as command
use Rattle.mon_msg.specs.declared.input.Input.TheVariants as input
use Rattle.mon_wire.specs.declared.phase.Phase.TheVariants as phase
use Rattle.std.proofs.Common.{List, false, refl, ℕ, ◌∙◌, ◌≡◌}
use Rattle.table_rows.proofs.Hearing.{asked}

hears : (me : Me) (now : ℕ) (session : Session) (c : Command) (x : Course)
    → hear_client me now session (request_of c) x ≡ ask me now session c x
unfolding hear_client
hears me now session (command.Set key value) x = refl
hears me now session (command.Remove key) x = refl
hears me now session (command.Log text) x = refl

pub comes : (me : Me) (sh : List Entry) (now : ℕ) (w : Readings) (s : State) (session : Session) (c : Command)
    → same_phase s.phase phase.Booting ≡ false
    → react me sh now w s (input.Client session (request_of c)) ≡ ask me now session c (at_rest w s)
comes me sh now w s session c runs =
    asked me sh now w s session (request_of c) runs ∙ hears me now session c (at_rest w s)
