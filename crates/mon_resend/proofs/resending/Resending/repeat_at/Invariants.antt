use Rattle.std.proofs.Common.{◌≡◌, take}
use Rattle.mon_link.specs.Layers.{Grows, Sent}
use Rattle.mon_resend.specs.Sending.{SendsEach}
use Rattle.mon_resend.specs.Shelves.{due_copies}
use Rattle.mon_resend.specs.World.{box_of}
use Rattle.mon_resend.proofs.resending.Resending.repeat_at.Given as goal

abbrev pub invariant-loop-at : goal.invariant-loop-at
invariant-loop-at g l = record {
  sends : SendsEach (due_copies l.again l.now (take l.at (box_of l.place l.fn.self.copies).shelf)) (g.L.Link.state l.fn.self.inner) (g.L.Link.state l.self.inner);
  grows : Grows (g.L.Link.history l.fn.self.inner) (Sent (due_copies l.again l.now (take l.at (box_of l.place l.fn.self.copies).shelf))) (g.L.Link.history l.self.inner);
  copies : l.self.copies ≡ l.fn.self.copies;
  run : l.self.run ≡ l.fn.self.run;
}
