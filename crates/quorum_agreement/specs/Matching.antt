-- What a message says of the one log.
use Rattle.std.specs.FinMap.{empty, retain_keys}
use Rattle.std.specs.Prelude.{◌≡◌, ℕ, suc, ◌+◌, ◌≤◌, Bool, not, ◌&&◌, List, [], ◌∷◌, length}
use Rattle.log_copies.specs.Copies.{is_past}
use Rattle.mon_bytes.specs.declared.entry.Entry.{Entry}
use Rattle.mon_bytes.specs.declared.entry.KeyPlace.TheVariants as key_place
use Rattle.mon_bytes.specs.declared.entry.KeyPlace.{KeyPlace}
use Rattle.mon_msg.specs.Fold.{entry, fold}
use Rattle.mon_msg.specs.Protocol.Changes.{encoded}
use Rattle.mon_msg.specs.Protocol.Chunks.{copy_changes}
use Rattle.mon_msg.specs.Protocol.Places.{after_entries}
use Rattle.mon_tx.specs.Map.{Place, apply}
use Rattle.mon_tx.specs.Text.{text}
use Rattle.mon_tx.specs.declared.op.Op.{Op}
use Rattle.mon_wire.specs.declared.body.Body.TheVariants as body
use Rattle.mon_wire.specs.declared.body.Body.{Body}

-- these are the values of the log's versions from v on
abbrev pub AreItsValues : List (List ℕ) → (v : ℕ) → List (List Op) → Type 0
AreItsValues log v [] = Unit {0}
AreItsValues log v (x ∷ xs) = (v ≤ length log) × (entry log v ≡ text x) × AreItsValues log (suc v) xs

-- after the one place, and at or before the other
abbrev pub is_between : KeyPlace → KeyPlace → Place → Bool
is_between from to at = is_past from at && not (is_past to at)

-- these entries are what the log's first v versions leave in a store between two places
abbrev pub AreItsEntries : List (List ℕ) → (v : ℕ) → (from to : KeyPlace) → List Entry → Type 0
AreItsEntries log v from to entries = apply (encoded (copy_changes entries)) empty ≡ retain_keys (fold log v) (is_between from to)

-- What a message says of committed versions is the log's. Committed values are those of the log's versions, and a last
-- version is one that the log has. A chunk's values follow the version of its place. Its entries are what the versions
-- up to its last value leave, from its place on up to its last entry; those of the last chunk go up to the end.
abbrev pub MatchesLog : List (List ℕ) → Body → Type 0
MatchesLog log (body.Last pn first last whole from values pending) = (last ≤ length log) × AreItsValues log from values
MatchesLog log (body.Commit from values) = AreItsValues log from values
MatchesLog log (body.Chunk cookie p values entries done) =
    AreItsValues log (suc p.version) values × (p.version + length values ≤ length log) × AreItsEntries log (p.version + length values) p.key (after_entries entries p.key) entries
MatchesLog log (body.LastChunk cookie p values entries last) =
    AreItsValues log (suc p.version) values × (last ≤ length log) × (last ≡ p.version + length values) × AreItsEntries log last p.key key_place.Done entries
MatchesLog log (body.ProbeReply quorum first last) = last ≤ length log
MatchesLog log (body.Collect pn first last) = last ≤ length log
MatchesLog log (body.Lease last) = last ≤ length log
MatchesLog log (body.LeaseAck last) = last ≤ length log
MatchesLog log (body.GetCookieRecent last) = last ≤ length log
MatchesLog log (body.Cookie full cookie last) = last ≤ length log
MatchesLog log other = Unit {0}
