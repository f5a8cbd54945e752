-- The events of a schedule as the model has them.
use Rattle.std.specs.Prelude.{Some, None}
use Rattle.quorum_model.specs.Scenes.{Scheduled}
use Rattle.quorum_model.specs.World as model
use Rattle.schedule_text.specs.declared.event.Event as schedule
use Rattle.schedule_text.specs.declared.event.Event.TheVariants as events
use Rattle.schedule_text.specs.declared.event.Plain.{Plain}
use Rattle.schedule_text.specs.declared.event.Plain.TheVariants as plain

abbrev pub plain_event : Plain → model.Plain
plain_event (plain.Start rank at) = model.Start rank at
plain_event (plain.Deliver message at) = model.Deliver message at
plain_event (plain.Timer rank kind at) = model.Ring rank kind at
plain_event (plain.Client rank at session request) = model.Client rank at session request

-- a crash and a fault of a disk are one to the model: the disk fails, and the monitor is down
abbrev pub scheduled_of : schedule.Event → Scheduled
scheduled_of (events.Plain p) = record { plain = plain_event p; injected = None }
scheduled_of (events.Crash disk call image p) =
    record { plain = plain_event p; injected = Some (record { disk = disk; call = call; image = image }) }
scheduled_of (events.Fail disk call image p) =
    record { plain = plain_event p; injected = Some (record { disk = disk; call = call; image = image }) }
