-- Kinds and their bytes.
use Rattle.std.proofs.Common.{◌≡◌, ℕ, zero, suc, ◌+◌, ◌-◌, ◌≤◌, ◌<◌, List, [], ◌∷◌, length, get_or, refl, arith}
use Rattle.mon_wire.specs.declared.kind.Kind.{Kind}
use Rattle.mon_wire.specs.declared.kind.Kind.TheVariants as kind
use Rattle.mon_wire.specs.Message.Whole.{kinds, kind_of}
use Rattle.mon_decode.specs.Headers.{kind_byte}

-- ---- kinds and their bytes

-- each kind of the list has its number, counted from i on
abbrev AreNumbered : ℕ → List Kind → Type 0
AreNumbered i [] = Unit {0}
AreNumbered i (k ∷ ks) = (kind_byte k ≡ i) × AreNumbered (suc i) ks

numbered : (i : ℕ) (ks : List Kind) (j : ℕ) → AreNumbered i ks → j < length ks → kind_byte (get_or ks j kind.Probe) ≡ i + j
numbered i [] j h lt = absurd (omega arith)
numbered i (k ∷ ks) zero h lt = omega (arith, h.0)
numbered i (k ∷ ks) (suc j) h lt = omega (arith, numbered (suc i) ks j h.1 (omega arith))

kinds-numbered : AreNumbered 1 kinds
kinds-numbered = (refl, (refl, (refl, (refl, (refl, (refl, (refl, (refl, (refl, (refl, (refl, (refl, (refl, (refl, (refl, (refl, (refl, (refl, (refl, (refl, (refl, (refl, (refl, (refl, (refl, tt)))))))))))))))))))))))))

pub byte_of_kind : (n : ℕ) → 1 ≤ n → n ≤ 25 → kind_byte (kind_of n) ≡ n
byte_of_kind n low high = let h = numbered 1 kinds (n - 1) kinds-numbered (omega arith) in omega (arith, h)

pub kind_of_byte : (k : Kind) → kind_of (kind_byte k) ≡ k
kind_of_byte kind.Probe = refl
kind_of_byte kind.ProbeReply = refl
kind_of_byte kind.Propose = refl
kind_of_byte kind.Ack = refl
kind_of_byte kind.Victory = refl
kind_of_byte kind.Collect = refl
kind_of_byte kind.Last = refl
kind_of_byte kind.Begin = refl
kind_of_byte kind.Accept = refl
kind_of_byte kind.Commit = refl
kind_of_byte kind.Lease = refl
kind_of_byte kind.LeaseAck = refl
kind_of_byte kind.Forward = refl
kind_of_byte kind.Route = refl
kind_of_byte kind.GetCookieFull = refl
kind_of_byte kind.GetCookieRecent = refl
kind_of_byte kind.Cookie = refl
kind_of_byte kind.GetChunk = refl
kind_of_byte kind.Chunk = refl
kind_of_byte kind.LastChunk = refl
kind_of_byte kind.NoCookie = refl
kind_of_byte kind.Ping = refl
kind_of_byte kind.PingReply = refl
kind_of_byte kind.Request = refl
kind_of_byte kind.Reply = refl

pub kind_low : (k : Kind) → 1 ≤ kind_byte k
kind_low kind.Probe = omega arith
kind_low kind.ProbeReply = omega arith
kind_low kind.Propose = omega arith
kind_low kind.Ack = omega arith
kind_low kind.Victory = omega arith
kind_low kind.Collect = omega arith
kind_low kind.Last = omega arith
kind_low kind.Begin = omega arith
kind_low kind.Accept = omega arith
kind_low kind.Commit = omega arith
kind_low kind.Lease = omega arith
kind_low kind.LeaseAck = omega arith
kind_low kind.Forward = omega arith
kind_low kind.Route = omega arith
kind_low kind.GetCookieFull = omega arith
kind_low kind.GetCookieRecent = omega arith
kind_low kind.Cookie = omega arith
kind_low kind.GetChunk = omega arith
kind_low kind.Chunk = omega arith
kind_low kind.LastChunk = omega arith
kind_low kind.NoCookie = omega arith
kind_low kind.Ping = omega arith
kind_low kind.PingReply = omega arith
kind_low kind.Request = omega arith
kind_low kind.Reply = omega arith

pub kind_high : (k : Kind) → kind_byte k ≤ 25
kind_high kind.Probe = omega arith
kind_high kind.ProbeReply = omega arith
kind_high kind.Propose = omega arith
kind_high kind.Ack = omega arith
kind_high kind.Victory = omega arith
kind_high kind.Collect = omega arith
kind_high kind.Last = omega arith
kind_high kind.Begin = omega arith
kind_high kind.Accept = omega arith
kind_high kind.Commit = omega arith
kind_high kind.Lease = omega arith
kind_high kind.LeaseAck = omega arith
kind_high kind.Forward = omega arith
kind_high kind.Route = omega arith
kind_high kind.GetCookieFull = omega arith
kind_high kind.GetCookieRecent = omega arith
kind_high kind.Cookie = omega arith
kind_high kind.GetChunk = omega arith
kind_high kind.Chunk = omega arith
kind_high kind.LastChunk = omega arith
kind_high kind.NoCookie = omega arith
kind_high kind.Ping = omega arith
kind_high kind.PingReply = omega arith
kind_high kind.Request = omega arith
kind_high kind.Reply = omega arith
