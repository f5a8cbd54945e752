-- The lines of the messages that a monitor sends to others.
use Rattle.std.specs.Prelude.{ℕ, ◌+◌, ◌-◌, Bool, List, [], ◌∷◌, ◌++◌, length, Option, Some, None, codes, decimal}
use Rattle.mon_bytes.specs.declared.entry.KeyPlace.{KeyPlace}
use Rattle.mon_bytes.specs.declared.entry.KeyPlace.TheVariants.{Start, After, Done}
use Rattle.mon_wire.specs.declared.body.Body.{Body}
use Rattle.mon_wire.specs.declared.body.Body.TheVariants as body
use Rattle.mon_wire.specs.declared.parts.Cookie.{Cookie}
use Rattle.mon_wire.specs.declared.parts.Place.{Place}
use Rattle.mon_wire.specs.declared.parts.Told.{Told}
use Rattle.schedule_text.specs.Ranks.{ranks_text}
use Rattle.trace_text.specs.declared.step.Numbered.{Numbered}
use Rattle.trace_text.specs.Words.{flag_text, kind_text}

-- ---- the fields of a message, each after a space

abbrev pub or_dash : Option (List ℕ) → List ℕ
or_dash None = codes "-"
or_dash (Some ranks) = ranks

abbrev pub quorum_text : List Bool → List ℕ
quorum_text quorum = codes " quorum=" ++ or_dash (ranks_text quorum)

abbrev pub last_text : ℕ → List ℕ
last_text last = codes " last=" ++ decimal last

-- the versions that are kept
abbrev pub kept_text : ℕ → ℕ → List ℕ
kept_text first last = codes " first=" ++ (decimal first ++ last_text last)

abbrev pub collect_text : ℕ → ℕ → ℕ → List ℕ
collect_text pn first last = codes " pn=" ++ (decimal pn ++ kept_text first last)

-- the number of a pending value; if there is none, 0
abbrev pub pending_number : Option Told → ℕ
pending_number None = 0
pending_number (Some told) = told.pn

-- this many committed values, and the pending one
abbrev pub told_text : Bool → ℕ → Option Told → List ℕ
told_text whole count pending = codes " whole=" ++ (flag_text whole ++ (codes " values=" ++ (decimal count ++ (codes " pending=" ++ decimal (pending_number pending)))))

abbrev pub vote_text : ℕ → ℕ → List ℕ
vote_text pn version = codes " pn=" ++ (decimal pn ++ (codes " v=" ++ decimal version))

-- the first and the last of this many versions
abbrev pub versions_text : ℕ → ℕ → List ℕ
versions_text from count = codes " v=" ++ (decimal from ++ (codes ".." ++ decimal (from + count - 1)))

abbrev pub cookie_text : Cookie → List ℕ
cookie_text cookie = codes " cookie=" ++ (decimal cookie.boot ++ 46 ∷ decimal cookie.seq)

abbrev pub key_text : KeyPlace → List ℕ
key_text Start = codes "start"
key_text (After prefix key) = prefix ++ 47 ∷ key
key_text Done = codes "done"

abbrev pub asked_text : Cookie → Place → List ℕ
asked_text cookie place = cookie_text cookie ++ (codes " at=" ++ (decimal place.version ++ (codes " key=" ++ key_text place.key)))

-- this many values and entries
abbrev pub chunk_text : Cookie → Place → ℕ → ℕ → List ℕ
chunk_text cookie place values entries = asked_text cookie place ++ (codes " values=" ++ (decimal values ++ (codes " keys=" ++ decimal entries)))

-- those of elections and of Paxos
abbrev pub agreeing_text : Body → List ℕ
agreeing_text (body.ProbeReply quorum first last) = quorum_text quorum ++ kept_text first last
agreeing_text (body.Victory quorum) = quorum_text quorum
agreeing_text (body.Collect pn first last) = collect_text pn first last
agreeing_text (body.Last pn first last whole from values pending) = collect_text pn first last ++ told_text whole (length values) pending
agreeing_text (body.Begin pn version value) = vote_text pn version
agreeing_text (body.Accept pn version) = vote_text pn version
agreeing_text (body.Commit from values) = versions_text from (length values)
agreeing_text (body.Lease last) = last_text last
agreeing_text (body.LeaseAck last) = last_text last
agreeing_text (body.Forward seq command) = codes " seq=" ++ decimal seq
agreeing_text (body.Route seq reply) = codes " seq=" ++ decimal seq
agreeing_text _ = []

-- those of synchronization
abbrev pub copying_text : Body → List ℕ
copying_text (body.GetCookieRecent last) = last_text last
copying_text (body.Cookie full cookie last) = codes " full=" ++ (flag_text full ++ (cookie_text cookie ++ last_text last))
copying_text (body.GetChunk cookie place) = asked_text cookie place
copying_text (body.Chunk cookie place values entries done) = chunk_text cookie place (length values) (length entries) ++ (codes " done=" ++ flag_text done)
copying_text (body.LastChunk cookie place values entries last) = chunk_text cookie place (length values) (length entries) ++ last_text last
copying_text (body.NoCookie cookie) = cookie_text cookie
copying_text _ = []

-- no message has both
abbrev pub fields_text : Body → List ℕ
fields_text body = agreeing_text body ++ copying_text body

-- ---- the line

-- the message's number, its sender and its receiver, its kind, the sender's epoch, and its fields
abbrev pub sent_line : Numbered → List ℕ
sent_line sent =
    codes "  send "
    ++ (decimal sent.number ++ 32 ∷ (decimal sent.message.from ++ 62 ∷ (decimal sent.to ++ 32 ∷ (kind_text sent.message.body ++ (codes " e=" ++ (decimal sent.message.epoch ++ (fields_text sent.message.body ++ 10 ∷ [])))))))
