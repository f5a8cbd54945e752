use Rattle.std.proofs.Common.{◌≡◌, ℕ, List, Result, Ok, Err, ap, subst, ◌∙◌}
use Rattle.mon_bytes.specs.declared.memory.OutOfMemory.{OutOfMemory as NoMemory}
use Rattle.mon_link.specs.Histories.Happened.{WasSent}
use Rattle.mon_link.specs.Histories.{GoesOn, Happened}
use Rattle.mon_link.specs.declared.link.Peer.{Peer}
use Rattle.mon_types.specs.declared.names.Stop.TheVariants.{Failed, OutOfMemory}
use Rattle.mon_types.specs.declared.names.Stop.{Stop}
use Rattle.map_follower.specs.Talking.{Sends}
use Rattle.map_follower.proofs.asking.send.Goals as goal

module _ (to : Peer) (bytes : List ℕ) (P Q : List Happened → Type 0) where
  -- a datagram that failed is lost
  abbrev SendsBy : Result (Unit {0}) Stop → Type 0
  SendsBy (Ok x) = Sends {T = Unit {0}} {E = NoMemory} to bytes (Ok tt) P Q
  SendsBy (Err Failed) = Sends {T = Unit {0}} {E = NoMemory} to bytes (Ok tt) P Q
  SendsBy (Err OutOfMemory) = Sends {T = Unit {0}} {E = NoMemory} to bytes (Err (record {})) P Q

  sends : (a : Result (Unit {0}) Stop) → GoesOn P (WasSent to bytes a) Q → SendsBy a
  sends (Ok x) goes = (Ok x, (λ is. absurd cc), goes)
  sends (Err Failed) goes = (Err Failed, (λ is. absurd cc), goes)
  sends (Err OutOfMemory) goes = goes

  sends_as : (a b : Result (Unit {0}) Stop) → a ≡ b → GoesOn P (WasSent to bytes a) Q → SendsBy b
  sends_as a b is goes = subst SendsBy is (sends a goes)

pub returns-in-Ok-clause-talks : goal.returns-in-Ok-clause-talks
returns-in-Ok-clause-talks g c =
    sends_as c.args.to c.args.bytes.now (g.L.Link.history c.args.link.now) (g.L.Link.history c.send.new.self) c.send.result (Ok tt) c.in-Ok.is c.send.ensures.goes_on

pub returns-in-Err-Failed-clause-talks : goal.returns-in-Err-Failed-clause-talks
returns-in-Err-Failed-clause-talks g c =
    sends_as c.args.to c.args.bytes.now (g.L.Link.history c.args.link.now) (g.L.Link.history c.send.new.self) c.send.result (Err Failed) (c.in-Err-Failed.is ∙ ap Err c.in-Err-Failed.field-0-is) c.send.ensures.goes_on

pub returns-in-Err-OutOfMemory-clause-talks : goal.returns-in-Err-OutOfMemory-clause-talks
returns-in-Err-OutOfMemory-clause-talks g c =
    sends_as c.args.to c.args.bytes.now (g.L.Link.history c.args.link.now) (g.L.Link.history c.send.new.self) c.send.result (Err OutOfMemory) (c.in-Err-OutOfMemory.is ∙ ap Err c.in-Err-OutOfMemory.field-0-is) c.send.ensures.goes_on
