-- What one reaction of a monitor sends.
use Rattle.std.specs.Prelude.{◌≡◌, ℕ, suc, List, [], ◌∷◌, ◌++◌, length, map}
use Rattle.mon_msg.specs.declared.plan.Sent.{Sent}
use Rattle.quorum_model.specs.Clients.{messages_of}
use Rattle.mon_world.specs.declared.sending.Envelope.{Envelope}
use Rattle.mon_world.specs.declared.sending.Gone.{Gone}
use Rattle.mon_world.specs.Represented.{envelope_of}
use Rattle.mon_world.specs.Step.{numbered, replied}

-- the messages, numbered from this one on, and the replies
pub record GoesOut (rank n : ℕ) (sends : List Sent) (gone : Gone) : Type 0 where
  pub sent : gone.sent ≡ numbered n (messages_of sends)
  pub replies : gone.replies ≡ replied rank sends

-- one message or reply is sent after others
pub record Sends (rank : ℕ) (one : Sent) (old new : List Envelope) (before after : Gone) : Type 0 where
  pub messages : map envelope_of new ≡ map envelope_of old ++ messages_of (one ∷ [])
  pub sent : after.sent ≡ before.sent ++ numbered (suc (length old)) (messages_of (one ∷ []))
  pub replies : after.replies ≡ before.replies ++ replied rank (one ∷ [])
