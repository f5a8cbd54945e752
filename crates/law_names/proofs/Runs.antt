-- The names of definitions that proofs of laws import, passed on from one place. Declares nothing.
pub use Rattle.log_model.specs.LogOfValues.{AllValues, IsCommand, IsValue, view_at}
pub use Rattle.log_model.specs.Windows.{Keeps, first_read, log_from, row_after, service_from, within}
pub use Rattle.mon_kv.specs.Readers.{entry_size, epoch, is_marked, most_size}
unfoldable pub use Rattle.mon_kv.specs.Readers.{size_of}
pub use Rattle.quorum_model.specs.Acknowledging.{acknowledgement, acknowledgements_of, done_by, done_in}
pub use Rattle.quorum_model.specs.Agree.{Agree, Agrees, IsAsked}
pub use Rattle.quorum_model.specs.CalmRun.{Answer, HasAll, IsCalm, answers, reply_over, value_over, with_value}
unfoldable pub use Rattle.quorum_model.specs.CalmRun.{answers_of, log_of}
pub use Rattle.quorum_model.specs.CalmSchedule.{Order, asks, numbers_delivered, orders, request_of, session, starts}
unfoldable pub use Rattle.quorum_model.specs.CalmSchedule.{deliveries}
pub use Rattle.quorum_model.specs.Clients.{command_of, envelope_of, incremental_of, made_by, messages_of, replies_of, with_asked}
pub use Rattle.quorum_model.specs.Events.{AllFit, PlainFits, RequestFits}
pub use Rattle.quorum_model.specs.Growth.{last_of, records_after}
unfoldable pub use Rattle.quorum_model.specs.Growth.{grown}
pub use Rattle.quorum_model.specs.Happens.{Full, Stop, after_meeting, happens, in_world, is_active, map_after, put_at, unless_stopped}
unfoldable pub use Rattle.quorum_model.specs.Happens.{kept_only, lost, moved, unmoved}
pub use Rattle.quorum_model.specs.Kept.{AcknowledgedOnce, DoneIsAnswered, IsKeptIn}
pub use Rattle.quorum_model.specs.Meets.{Arrival, Down, Meeting, NoMessage, Reacts, arrival, meeting, meeting_at, meets, message_at, state_at}
pub use Rattle.quorum_model.specs.Monitors.{Monitors, classic, me_if, me_of}
pub use Rattle.quorum_model.specs.Reached.{Reached}
pub use Rattle.quorum_model.specs.Runs.{Ran, goes_on, ran, run, run_from}
unfoldable pub use Rattle.quorum_model.specs.Runs.{ran_from}
pub use Rattle.quorum_model.specs.Safe.{Safe}
pub use Rattle.quorum_model.specs.Shown.{IsFenced, IsShown, ShowsLog, WasAskedFor}
pub use Rattle.quorum_model.specs.World.{Acknowledged, Acknowledgement, Arrives, Asked, Client, Crash, Deliver, Envelope, Event, Plain, Replied, Ring, Start, World, first_world, plain_of}
