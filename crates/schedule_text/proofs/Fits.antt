-- When a client's event has a line.
use Rattle.std.proofs.Common.{◌≡◌, ℕ, ◌-◌, ◌^◌, ◌≤◌, ◌<◌, Bool, ◌&&◌, leb, ltb, refl}
use Rattle.std.proofs.lemmas.Bool.{le-leb, lt-ltb}

pub client_fits : (n rank at client id : ℕ) (request : Bool) → rank < n → at ≤ 2 ^ 62 → client ≤ 2 ^ 32 - 1 → id ≤ 2 ^ 62 → request ≡ (ltb rank n && (leb at (2 ^ 62) && (leb client (2 ^ 32 - 1) && (leb id (2 ^ 62) && request))))
client_fits n rank at client id request a b c d =
    rw (lt-ltb rank n a, le-leb at (2 ^ 62) b, le-leb client (2 ^ 32 - 1) c, le-leb id (2 ^ 62) d) refl
