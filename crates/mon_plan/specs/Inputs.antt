-- Inputs as a role takes them, and their rows of the table.
use Rattle.std.specs.Prelude.{ℕ, Bool, true, List, Result}
use Rattle.mon_bytes.specs.declared.entry.Entry.{Entry}
use Rattle.mon_msg.specs.Protocol.Course.{Course, dropped}
use Rattle.mon_msg.specs.Protocol.Hearing.{hear, hear_client}
use Rattle.mon_msg.specs.Protocol.Length.{fits}
use Rattle.mon_msg.specs.Protocol.Table.{timer_comes}
use Rattle.mon_msg.specs.declared.input.Input.TheVariants as input
use Rattle.mon_msg.specs.declared.input.Input.{Input}
use Rattle.mon_msg.specs.declared.view.Me.{Me}
use Rattle.mon_types.specs.declared.names.Which.{Which}

-- a message among n monitors isn't longer than one that may be sent
abbrev pub input_is_short : (n : ℕ) → Input → Bool
input_is_short n (input.Deliver m) = fits n m.body
input_is_short n input.Start = true
input_is_short n (input.Timer t) = true
input_is_short n (input.Client session r) = true

-- the row of an input: of a message that is heard, and of a timer that is disarmed already
abbrev pub row : Me → (shared : List Entry) → (now : ℕ) → Input → Course → Result Course Which
row me shared now (input.Deliver m) x = hear me shared now m.from m.epoch m.body x
row me shared now (input.Timer t) x = timer_comes me now t x
row me shared now (input.Client session r) x = hear_client me now session r x
row me shared now input.Start x = dropped x
