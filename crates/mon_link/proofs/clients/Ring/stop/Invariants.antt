use Rattle.std.proofs.Common.{◌≡◌, ◌<◌, ◌-◌}
use Rattle.mon_link.specs.Clients.{MOST_CLIENTS, stopped}
use Rattle.mon_link.proofs.clients.Ring.stop.Given as goal

abbrev pub invariant-loop : goal.invariant-loop
invariant-loop l = record {
  within : l.self.hand < MOST_CLIENTS;
  so_far : stopped (MOST_CLIENTS - l.counter) l.self ≡ stopped MOST_CLIENTS l.fn.self;
}
