-- The monitors of a world may get the inputs that events bring.
use Rattle.std.proofs.Common.{ℕ, zero, suc, ◌<◌, List, [], ◌∷◌, map, Option, Some, None, IfSome, arith}
use Rattle.std.specs.List.{AllByRecursion}
use Rattle.std.specs.Prelude.{slice_get}
use Rattle.mon_bounds.specs.Fitting.{IsRequest, IsValidInput}
use Rattle.mon_msg.specs.declared.input.Input.TheVariants as input
use Rattle.mon_wire.specs.declared.request.Request.{Request}
use Rattle.mon_wire.specs.declared.request.Request.TheVariants as request
use Rattle.quorum_model.specs.Events.{AllFit, PlainFits, RequestFits}
use Rattle.quorum_model.specs.Meets.{Arrival, arrival, message_at}
use Rattle.quorum_model.specs.Monitors.{Monitors}
use Rattle.quorum_model.specs.Scenes.{Scheduled, events_of, first_scene}
use Rattle.quorum_model.specs.World.{Envelope, World}
use Rattle.quorum_model.proofs.Fitting.{all_fit}
use Rattle.quorum_walk.proofs.Lists.{all_get}
use Rattle.schedule_text.specs.declared.event.Event as schedule
use Rattle.schedule_text.specs.declared.event.Event.TheVariants as events
use Rattle.schedule_text.specs.declared.event.Plain.{Plain}
use Rattle.schedule_text.specs.declared.event.Plain.TheVariants as plain
use Rattle.mon_world.specs.Events.{plain_event, scheduled_of}
use Rattle.mon_types.specs.declared.names.Side.{Side}
use Rattle.mon_world.specs.Crashes.{MayBe}
use Rattle.mon_world.specs.Represented.{Fits, FitsPlain, FitsInjected, MayArrive}

-- ---- events

request_spoken : (r : Request) → IsRequest r → RequestFits r
request_spoken (request.Set key value) h = h.0
request_spoken (request.Remove key) h = h.0
request_spoken (request.Log text) h = h.0
request_spoken (request.Show s) h = tt
request_spoken (request.Since s version) h = tt

plain_spoken : (n : ℕ) (p : Plain) → FitsPlain n p → PlainFits n (plain_event p)
plain_spoken n (plain.Start rank at) h = h
plain_spoken n (plain.Deliver message at) h = tt
plain_spoken n (plain.Timer rank kind at) h = h
plain_spoken n (plain.Client rank at session asked) h = (h.0, request_spoken asked h.1.1)

pub event_spoken : (n : ℕ) (e : schedule.Event) → Fits n e → PlainFits n (scheduled_of e).plain
event_spoken n (events.Plain p) h = plain_spoken n p h
event_spoken n (events.Crash disk call image p) h = plain_spoken n p h.3
event_spoken n (events.Fail disk call image p) h = plain_spoken n p h.3

each_spoken : (n : ℕ) (es : List schedule.Event) → AllByRecursion (Fits n) es → AllByRecursion (λ (e : Scheduled). PlainFits n e.plain) (map scheduled_of es)
each_spoken n [] h = tt
each_spoken n (e ∷ es) h = (event_spoken n e h.0, each_spoken n es h.1)

-- the model's events of a schedule are those that its laws speak of
pub all_spoken : (ms : Monitors) (es : List schedule.Event) → AllByRecursion (Fits ms.count) es → AllFit ms.count (events_of ms (map scheduled_of es))
all_spoken ms es h = all_fit ms ms.count first_scene (map scheduled_of es) (each_spoken ms.count es h)

-- ---- arrivals

-- the arrival is at one of n monitors, and its input may come
pub record MayMeet (n : ℕ) (a : Arrival) : Type 0 where
  pub rank : a.rank < n
  pub comes : IsValidInput a.input

delivers : (n at : ℕ) (es : List Envelope) (k : ℕ) → AllByRecursion (MayArrive n) es
    → IfSome (Rattle.std.specs.Option.option_map (λ (e : Envelope). record { rank = e.to; at = at; input = input.Deliver e.message }) (message_at es k)) (MayMeet n)
delivers n at es zero h = tt
delivers n at es (suc k) h = by (slice_get es k) (all_get (MayArrive n) es k h)
  where
    by : (found : Option Envelope) → IfSome found (MayArrive n)
        → IfSome (Rattle.std.specs.Option.option_map (λ (e : Envelope). record { rank = e.to; at = at; input = input.Deliver e.message }) found) (MayMeet n)
    by None h = tt
    by (Some e) h = record { rank = h.to; comes = h.comes }

pub may_meet : (n : ℕ) (w : World) (p : Plain) → FitsPlain n p → AllByRecursion (MayArrive n) w.messages → IfSome (arrival w (plain_event p)) (MayMeet n)
may_meet n w (plain.Start rank at) fits h = record { rank = fits; comes = tt }
may_meet n w (plain.Deliver message at) fits h = delivers n at w.messages message h
may_meet n w (plain.Timer rank kind at) fits h = record { rank = fits; comes = tt }
may_meet n w (plain.Client rank at session asked) fits h = record { rank = fits.0; comes = fits.1 }

-- ---- if a disk fails

pub record IsInjectedBy (n : ℕ) (disk : Side) (call image : ℕ) (p : Plain) : Type 0 where
  pub may : MayBe (record { disk = disk; call = call; image = image })
  pub plain_fits_too : FitsPlain n p

pub injected_fits : (n : ℕ) (disk : Side) (call image : ℕ) (p : Plain) → FitsInjected n call image p → IsInjectedBy n disk call image p
injected_fits n disk call image p h = record {
  may = let last = h.1 in record { first = h.0; most = omega arith; image = h.2 };
  plain_fits_too = h.3;
}
