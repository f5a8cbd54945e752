-- What an assembly keeps of the messages that are under way, and what it makes of a datagram.
use Rattle.std.specs.Prelude.{◌≡◌, ◌⊎◌, ◌==◌, ◌/◌, ℕ, Bool, true, false, ◌&&◌, nat_lt, List, [], ◌∷◌, ◌++◌, length, drop, count_by, replicate, slice_get, slice_set, Option, Some, None, is_some, unwrap_or, Result, Ok, Err, if◌then◌else◌, IsOk}
use Rattle.std.specs.List.{list_all, flat_map, position, remove}
use Rattle.std.specs.Str.{bytes_eq}
use Rattle.mon_link.specs.declared.link.Peer.{Peer}
use Rattle.mon_link.specs.declared.link.Peer.TheVariants.{Monitor, Client}
use Rattle.mon_bytes.specs.Answers.{◌>>=◌}
use Rattle.mon_frag.specs.declared.assembly.TheConstants.{MOST_OF_MONITOR, MOST_OF_CLIENT, MOST_OF_CLIENTS}
use Rattle.mon_frag.specs.declared.cutting.TheConstants.{DATAGRAM}
use Rattle.mon_frag.specs.declared.header.Header.{Header}
use Rattle.mon_frag.specs.declared.header.TheConstants.{PART, PIECE_HEADER}
use Rattle.mon_frag.specs.declared.partial.Partial.{Partial}
use Rattle.mon_frag.specs.declared.partial.Joined.{Joined}
use Rattle.mon_frag.specs.declared.partial.Joined.TheVariants as joined
use Rattle.mon_frag.specs.declared.refused.FragRefused.{FragRefused}
use Rattle.mon_frag.specs.declared.refused.FragRefused.TheVariants.{TooLong, Clash, OutOfMemory}
use Rattle.mon_frag.specs.Pieces.{piece_count}
use Rattle.mon_frag.specs.Headers.{is_piece, header_of}

-- ---- one message

-- the parts of a message of which only one is there
abbrev pub begun : Header → List ℕ → List (Option (List ℕ))
begun h bytes = slice_set (replicate (piece_count h.total) None) (h.place / PART) (Some bytes)

-- the message, once all of its parts are there
abbrev pub grown : List (Option (List ℕ)) → Joined
grown parts = if list_all is_some parts then joined.Whole (flat_map (λ part. unwrap_or part []) parts) else joined.More

-- what a part at place k is for a message, given what is there: no such place, no part yet, or a part
abbrev pub joined_at : List (Option (List ℕ)) → ℕ → List ℕ → Option (Option (List ℕ)) → Joined
joined_at parts k bytes None = joined.Clash
joined_at parts k bytes (Some None) = grown (slice_set parts k (Some bytes))
joined_at parts k bytes (Some (Some known)) = if bytes_eq known bytes then joined.Known else joined.Clash

abbrev pub joins : Partial → Header → List ℕ → Joined
joins p h bytes =
    if p.total == h.total
    then joined_at p.parts (h.place / PART) bytes (slice_get p.parts (h.place / PART))
    else joined.Clash

-- ---- all that are under way, the newest last

abbrev pub same_peer : Peer → Peer → Bool
same_peer (Monitor a) (Monitor b) = a == b
same_peer (Monitor a) (Client b) = false
same_peer (Client a) (Monitor b) = false
same_peer (Client a) (Client b) = a == b

abbrev pub is_client : Peer → Bool
is_client (Monitor a) = false
is_client (Client a) = true

abbrev pub is_of : Peer → ℕ → ℕ → Partial → Bool
is_of from boot seq p = same_peer from p.from && (boot == p.boot) && (seq == p.seq)

-- the first one, if there are as many as allowed
abbrev pub first_of : ℕ → (Partial → Bool) → List Partial → Option ℕ
first_of most test kept = if nat_lt (count_by test kept) most then None else position test kept

abbrev pub or_else : Option ℕ → Option ℕ → Option ℕ
or_else (Some i) other = Some i
or_else None other = other

-- The oldest one that has to go for a new one, if as many are kept as allowed of a monitor, of a client or of all clients.
abbrev pub oldest_against : Peer → List Partial → Option ℕ
oldest_against (Monitor r) kept = first_of MOST_OF_MONITOR (λ p. same_peer (Monitor r) p.from) kept
oldest_against (Client c) kept =
    or_else (first_of MOST_OF_CLIENT (λ p. same_peer (Client c) p.from) kept)
    (first_of MOST_OF_CLIENTS (λ p. is_client p.from) kept)

abbrev pub without : List Partial → Option ℕ → List Partial
without kept None = kept
without kept (Some i) = remove kept i

abbrev pub with_new : Peer → Header → List ℕ → List Partial → List Partial
with_new from h bytes kept =
    without kept (oldest_against from kept)
    ++ record { from = from; boot = h.boot; seq = h.seq; total = h.total; parts = begun h bytes } ∷ []

-- ---- what is answered and kept

pub record Taken : Type 0 where
  pub answer : Option (List ℕ)
  pub kept : List Partial

abbrev pub Outcome : Type 0
Outcome = Result Taken FragRefused

abbrev pub with_part : Header → List ℕ → Partial → Partial
with_part h bytes p = record p { parts = slice_set p.parts (h.place / PART) (Some bytes) }

abbrev pub after_join : List Partial → ℕ → Partial → Joined → Outcome
after_join kept i more joined.Clash = Err Clash
after_join kept i more joined.Known = Ok (record { answer = None; kept = kept })
after_join kept i more joined.More = Ok (record { answer = None; kept = slice_set kept i more })
after_join kept i more (joined.Whole message) = Ok (record { answer = Some message; kept = remove kept i })

-- a piece of the partial at a place
abbrev pub joined_with : Header → List ℕ → List Partial → ℕ → Option Partial → Outcome
joined_with h bytes kept i None = Ok (record { answer = None; kept = kept })
joined_with h bytes kept i (Some p) = after_join kept i (with_part h bytes p) (joins p h bytes)

abbrev pub at_found : Peer → Header → List ℕ → List Partial → Option ℕ → Outcome
at_found from h bytes kept None = Ok (record { answer = None; kept = with_new from h bytes kept })
at_found from h bytes kept (Some i) = joined_with h bytes kept i (slice_get kept i)

abbrev pub piece_taken : Peer → List ℕ → List Partial → Header → Outcome
piece_taken from bytes kept h = at_found from h bytes kept (position (is_of from h.boot h.seq) kept)

abbrev pub taken : List Partial → Peer → List ℕ → Outcome
taken kept from datagram =
    if nat_lt DATAGRAM (length datagram) then Err TooLong
    else if is_piece datagram then header_of datagram >>= piece_taken from (drop PIECE_HEADER datagram) kept
    else Ok (record { answer = Some datagram; kept = kept })

-- What a call returned and kept, if it should have taken `wanted`. A refusal changes nothing, and memory runs out only if
-- there is no other fault.
abbrev pub Takes : Result (Option (List ℕ)) FragRefused → List Partial → List Partial → Outcome → Type 0
Takes (Ok answer) old new wanted = wanted ≡ Ok (record { answer = answer; kept = new })
Takes (Err e) old new wanted = (new ≡ old) × ((wanted ≡ Err e) ⊎ ((e ≡ OutOfMemory) × IsOk wanted))
