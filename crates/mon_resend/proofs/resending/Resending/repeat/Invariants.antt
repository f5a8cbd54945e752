use Rattle.std.proofs.Common.{◌≡◌, take}
use Rattle.std.specs.List.{flat_map}
use Rattle.mon_link.specs.Layers.{Grows, Sent}
use Rattle.mon_resend.specs.Sending.{SendsEach}
use Rattle.mon_resend.specs.Shelves.{due_copies}
use Rattle.mon_resend.proofs.resending.Resending.repeat.Given as goal

abbrev pub invariant-loop-place : goal.invariant-loop-place
invariant-loop-place g l = record {
  sends : SendsEach (flat_map (λ b. due_copies l.again l.now b.shelf) (take l.place l.fn.self.copies.boxes)) (g.L.Link.state l.fn.self.inner) (g.L.Link.state l.self.inner);
  grows : Grows (g.L.Link.history l.fn.self.inner) (Sent (flat_map (λ b. due_copies l.again l.now b.shelf) (take l.place l.fn.self.copies.boxes))) (g.L.Link.history l.self.inner);
  copies : l.self.copies ≡ l.fn.self.copies;
  run : l.self.run ≡ l.fn.self.run;
}
