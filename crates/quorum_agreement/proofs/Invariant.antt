-- What holds of several monitors and of their one log after every event.
use Rattle.law_names.proofs.Runs.{AllValues, Asked, Envelope, Monitors, World, messages_of}
use Rattle.law_names.proofs.Table.{AllByRecursion, Sent, State, booting}
use Rattle.log_copies.proofs.Sending.{AllMatch, BodyMatches}
use Rattle.log_copies.proofs.Standing.{Agrees, body_stays}
use Rattle.log_model.proofs.Logs.{IsPrefixOf}
use Rattle.mon_msg.specs.declared.plan.Sent.TheVariants as sent
use Rattle.quorum_agreement.proofs.Chosen.{AllChosen}
use Rattle.quorum_agreement.proofs.Made.{AllAsked, AllMade}
use Rattle.quorum_laws.proofs.Invariant.{InvOf, InvWith}
use Rattle.quorum_walk.proofs.Lists.{all_map}
use Rattle.std.proofs.Common.{List, None, Option, Some, [], length, ℕ, ◌<◌, ◌^◌, ◌∷◌, ◌≤◌}

-- what a monitor remembers, or will when it starts
abbrev pub remembers : ℕ → Option State → State
remembers i None = booting i
remembers i (Some s) = s

abbrev pub EnvelopeMatches : List (List ℕ) → Envelope → Type 0
EnvelopeMatches log e = BodyMatches log e.message.body

-- Each entry of the log was chosen, and is the value of a command that was asked, over the entries before it. Each
-- accepted value is for a version of the log or the next one, and is such a value over the versions before it. Each
-- monitor has versions of the log or takes a copy of it. What messages say of committed versions is the log's.
pub record OfLog (ms : Monitors) (w : World) (asked : List Asked) (J : InvWith ms w asked) : Type 0 where
  pub short : length w.log ≤ 2 ^ 62
  pub values : AllValues w.log
  pub chosen : AllChosen ms.count J.g w.log
  pub made : AllMade ms.count J.g asked w.log
  pub asks : AllAsked ms.count asked w.log
  pub stores : (i : ℕ) → i < ms.count → Agrees w.log (w.store i) (remembers i (w.state i))
  pub sent : AllByRecursion (EnvelopeMatches w.log) w.messages

abbrev pub LogHolds : Monitors → World → Type 0
LogHolds ms w = (J : InvOf ms w) × OfLog ms w w.asked J

-- ---- the log grows

pub envelopes_stay : {log more : List (List ℕ)} → IsPrefixOf log more → (es : List Envelope) → AllByRecursion (EnvelopeMatches log) es → AllByRecursion (EnvelopeMatches more) es
envelopes_stay {log} {more} F es h = all_map (EnvelopeMatches log) (EnvelopeMatches more) (λ e k. body_stays F e.message.body k) es h

pub envelopes_tell : (log : List (List ℕ)) (sends : List Sent) → AllMatch log sends → AllByRecursion (EnvelopeMatches log) (messages_of sends)
envelopes_tell log [] h = tt
envelopes_tell log (sent.Message to m ∷ sends) h = (h.0, envelopes_tell log sends h.1)
envelopes_tell log (sent.Reply to r ∷ sends) h = envelopes_tell log sends h.1
