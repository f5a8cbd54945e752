-- Names of quorums.
use Rattle.std.specs.Prelude.{ℕ, Bool, ◌&&◌, List, length, nat_le}
use Rattle.std.specs.Str.{is_utf8}
use Rattle.mon_hello.specs.declared.name.TheConstants.{MOST_QUORUM_NAME}

-- UTF-8 of at most 255 bytes
abbrev pub is_quorum_name : List ℕ → Bool
is_quorum_name bytes = nat_le (length bytes) MOST_QUORUM_NAME && is_utf8 bytes
