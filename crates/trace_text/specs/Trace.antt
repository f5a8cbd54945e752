-- The lines of a trace.
use Rattle.std.specs.Prelude.{ℕ, zero, suc, ◌+◌, Bool, List, [], ◌∷◌, ◌++◌, length, Option, Some, None, codes, decimal}
use Rattle.std.specs.List.{flat_map}
use Rattle.mon_wire.specs.declared.request.Service.{Service}
use Rattle.mon_wire.specs.declared.reply.Reply.{Reply}
use Rattle.mon_wire.specs.declared.reply.Reply.TheVariants.{Done, Shown, Since, NoSuch, TooLong, MapFull, Unavailable, NotReadable, Busy}
use Rattle.schedule_text.specs.declared.event.Event.{Event}
use Rattle.schedule_text.specs.Words.{service_text}
use Rattle.schedule_text.specs.Encoding.{event_text}
use Rattle.trace_text.specs.declared.step.Replied.{Replied}
use Rattle.trace_text.specs.declared.step.StateLine.{StateLine}
use Rattle.trace_text.specs.declared.step.Outcome.{Outcome}
use Rattle.trace_text.specs.declared.step.Outcome.TheVariants.{Ran, Down, NoMessage, Crashed, Failed}
use Rattle.trace_text.specs.declared.step.StepLine.{StepLine}
use Rattle.trace_text.specs.Words.{flag_text, fate_text, phase_text}
use Rattle.trace_text.specs.Shown.{shown_text}
use Rattle.trace_text.specs.Sent.{sent_line}

-- ---- what an event did

-- this many incrementals of a service after a version, and whether there are more
abbrev pub since_text : Service → ℕ → ℕ → Bool → List ℕ
since_text service from count more =
    codes "since "
    ++ (service_text service ++ (codes " from=" ++ (decimal from ++ (codes " to=" ++ (decimal (from + count) ++ (codes " count=" ++ (decimal count ++ (codes " more=" ++ flag_text more))))))))

abbrev pub reply_text : Reply → List ℕ
reply_text (Done version) = codes "done " ++ decimal version
reply_text (Shown service paxos version map) =
    codes "shown " ++ (service_text service ++ (codes " paxos=" ++ (decimal paxos ++ (codes " version=" ++ (decimal version ++ 32 ∷ shown_text map)))))
reply_text (Since service from incrementals more) = since_text service from (length incrementals) more
reply_text NoSuch = codes "nosuch"
reply_text (TooLong len most) = codes "toolong len=" ++ (decimal len ++ (codes " most=" ++ decimal most))
reply_text (MapFull would_be) = codes "mapfull would_be=" ++ decimal would_be
reply_text Unavailable = codes "unavailable"
reply_text (NotReadable has lease) = codes "notreadable has=" ++ (decimal has ++ (codes " lease=" ++ flag_text lease))
reply_text (Busy waiting) = codes "busy waiting=" ++ decimal waiting

abbrev pub reply_line : Replied → List ℕ
reply_line r =
    codes "  reply " ++ (decimal r.rank ++ 32 ∷ (decimal r.session.client ++ 46 ∷ (decimal r.session.id ++ 32 ∷ (reply_text r.reply ++ 10 ∷ []))))

-- no line for a transaction without changes
abbrev pub store_lines : ℕ → List ℕ
store_lines zero = []
store_lines (suc n) = codes "  store " ++ (decimal (suc n) ++ 10 ∷ [])

abbrev pub state_lines : Option StateLine → List ℕ
state_lines None = []
state_lines (Some s) = codes "  is " ++ (phase_text s.phase ++ (codes " epoch " ++ (decimal s.epoch ++ (codes " last " ++ (decimal s.last ++ 10 ∷ [])))))

abbrev pub outcome_lines : Outcome → List ℕ → List ℕ
outcome_lines Ran lines = lines
outcome_lines Down lines = codes "  down\n"
outcome_lines NoMessage lines = codes "  none\n"
outcome_lines (Crashed kept) lines = codes "  crashed " ++ (fate_text kept ++ 10 ∷ [])
outcome_lines (Failed kept) lines = codes "  failed " ++ (fate_text kept ++ 10 ∷ [])

abbrev pub done_lines : StepLine → List ℕ
done_lines step = outcome_lines step.outcome (store_lines step.ops ++ (state_lines step.state ++ (flat_map sent_line step.sent ++ flat_map reply_line step.replies)))

-- ---- the lines of an event, and the last line

-- an event's number and text, and what it did
abbrev pub step_lines : ℕ → Event → StepLine → List ℕ
step_lines number event step = (decimal number ++ 32 ∷ (event_text event ++ 10 ∷ [])) ++ done_lines step

abbrev pub end_text : ℕ → ℕ → List ℕ
end_text events log = codes "end events=" ++ (decimal events ++ (codes " log=" ++ (decimal log ++ 10 ∷ [])))
