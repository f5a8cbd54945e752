use Rattle.std.proofs.Common.{arith, ◌<◌, ◌≤◌, ◌≡◌, refl, slice_set}
use Rattle.std.specs.List.{position_or_len}
use Rattle.mon_link.specs.Clients.{MOST_CLIENTS, same_address}
use Rattle.mon_link.proofs.Places.{is_absent, seen_within, most_within, replaces, seen_beyond, most_beyond, at_place}
use Rattle.mon_link.proofs.clients.Clients.number_of.Goals as goal

pub invariant_of-self-then-number-lt-MOST_CLIENTS :
    goal.invariant_of-self-then-number-lt-MOST_CLIENTS
invariant_of-self-then-number-lt-MOST_CLIENTS c =
    let e = c.in_ok-number.ensures in
    let keys = c.self.inside.addresses.keys in
    let new = is_absent (same_address c.args.address) keys c.in_ok-number.is_new e.added c.if-not-is_new.false in
    let within : position_or_len (same_address c.args.address) keys < MOST_CLIENTS = omega (arith, e.index, c.if-number-lt-MOST_CLIENTS.true) in
    (rw e.keys (most_within c.args.address keys c.self.invariant.0 new within), c.self.invariant.1, e.unique)

pub returns-then-number-lt-MOST_CLIENTS-clause-seen :
    goal.returns-then-number-lt-MOST_CLIENTS-clause-seen
returns-then-number-lt-MOST_CLIENTS-clause-seen c =
    let e = c.in_ok-number.ensures in
    let keys = c.self.inside.addresses.keys in
    let new = is_absent (same_address c.args.address) keys c.in_ok-number.is_new e.added c.if-not-is_new.false in
    let within : position_or_len (same_address c.args.address) keys < MOST_CLIENTS = omega (arith, e.index, c.if-number-lt-MOST_CLIENTS.true) in
    rw (e.keys, ← c.self.view_is) (seen_within c.args.address keys c.self.invariant.0 c.self.inside.ring new within)

here : (c : goal.After-row_known-1) → MOST_CLIENTS ≤ position_or_len (same_address c.args.address) c.self.inside.addresses.keys
here c = omega (arith, c.in_ok-number.ensures.index, c.if-number-lt-MOST_CLIENTS.false)

replaced : (c : goal.After-row_known-1) → c.swap_remove_index.new.self.keys ≡ slice_set c.self.inside.addresses.keys c.stop.new.self.hand c.args.address
replaced c =
    let e = c.swap_remove_index.ensures in
    let keys = c.in_ok-number.ensures.keys in
    replaces c.args.address c.self.inside.addresses.keys c.self.invariant.0 c.stop.new.self.hand c.stop.ensures.within (here c) c.swap_remove_index.result c.swap_remove_index.new.self.keys (rw (← keys) e.key) (rw (← keys) e.keys)

pub invariant_of-self-2 : goal.invariant_of-self-2
invariant_of-self-2 c =
    (most_beyond c.args.address c.self.inside.addresses.keys c.self.invariant.0 c.stop.new.self.hand c.stop.ensures.within (here c) c.swap_remove_index.new.self.keys (replaced c), omega arith, c.swap_remove_index.ensures.unique)

pub returns-clause-seen : goal.returns-clause-seen
returns-clause-seen c =
    rw (← c.self.view_is) (seen_beyond c.args.address c.self.inside.addresses.keys c.self.invariant.0 c.stop.new.self.hand c.stop.ensures.within (here c) c.self.inside.ring c.stop.new.self c.swap_remove_index.new.self.keys c.stop.ensures.stopped refl (replaced c))

pub returns-clause-number : goal.returns-clause-number
returns-clause-number c =
    at_place c.args.address c.self.inside.addresses.keys c.self.invariant.0 c.stop.new.self.hand c.stop.ensures.within (here c) c.swap_remove_index.new.self.keys (replaced c)
