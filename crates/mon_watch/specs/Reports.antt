-- The text with which a monitor answers a client that asks what is known of it: one JSON object, its keys in order.
use Rattle.std.specs.Prelude.{ℕ, ◌-◌, List, take, map, codes, Option, Some, None}
use Rattle.serde_json.specs.Data.{Data, Items, Members, array, item, member, no_items, no_members, null, number, object, put, string, unsigned}
use Rattle.serde_json.specs.View.{items_of}
use Rattle.mon_types.specs.declared.member.Member.{Member}
use Rattle.mon_wire.specs.declared.phase.Phase.{Phase}
use Rattle.mon_wire.specs.declared.phase.Phase.TheVariants as phase
use Rattle.mon_watch.specs.declared.contact.Contact.{Contact}
use Rattle.mon_watch.specs.declared.report.Report.{Report}
use Rattle.mon_watch.specs.declared.seen.Seen.{Seen}
use Rattle.mon_watch.specs.declared.times.DiskTimes.{DiskTimes}
use Rattle.mon_watch.specs.declared.traffic.Traffic.{Traffic}
use Rattle.mon_watch.specs.Seen.{quorum_of}

abbrev pub phase_name : Phase → List ℕ
phase_name phase.Booting = codes "unknown"
phase_name phase.Probing = codes "probing"
phase_name phase.Synchronizing = codes "synchronizing"
phase_name phase.Electing = codes "electing"
phase_name phase.Collecting = codes "collecting"
phase_name phase.Previous = codes "previous"
phase_name phase.Active = codes "active"
phase_name phase.Updating = codes "updating"
phase_name phase.Peon = codes "peon"

abbrev pub count : ℕ → Data
count n = number (unsigned n)

abbrev pub maybe : Option ℕ → Data
maybe (Some n) = count n
maybe None = null

abbrev pub counts : List ℕ → Items
counts ns = items_of (map count ns)

-- how long ago it was, in milliseconds
abbrev pub age : (now : ℕ) → Option ℕ → Option ℕ
age now (Some at) = Some (now - at)
age now None = None

-- how long ago each monitor was heard, and since how long each was asked without being heard
abbrev pub heard_ages : (now : ℕ) → List Contact → Items
heard_ages now contacts = items_of (map (λ c. maybe (age now c.heard)) contacts)

abbrev pub asked_ages : (now : ℕ) → List Contact → Items
asked_ages now contacts = items_of (map (λ c. maybe (age now c.asked)) contacts)

abbrev pub disk_data : DiskTimes → Data
disk_data t =
    object (member (codes "buckets") (array (counts t.buckets))
    (member (codes "bytes_read") (count t.fetched)
    (member (codes "bytes_written") (count t.written)
    (member (codes "greatest_ms") (count t.greatest)
    (member (codes "length") (count t.length)
    (member (codes "reads") (count t.reads)
    (member (codes "slow") (count t.slow)
    (member (codes "syncs") (count t.syncs)
    (member (codes "total_ms") (count t.total)
    (member (codes "writes") (count t.writes) no_members))))))))))

-- ---- the members of a report, each put at its place among the keys

abbrev pub with_member : Member → (now : ℕ) → Members → Members
with_member m now ms = put (codes "rank") (count m.rank) (put (codes "ms") (count now) (put (codes "monitors") (count m.monitors) ms))

abbrev pub with_contacts : (now : ℕ) → List Contact → Members → Members
with_contacts now contacts ms = put (codes "heard_ms") (array (heard_ages now contacts)) (put (codes "asked_ms") (array (asked_ages now contacts)) ms)

abbrev pub with_seen : Seen → Members → Members
with_seen s ms =
    put (codes "version") (count s.version)
    (put (codes "source") (maybe s.source)
    (put (codes "quorum") (count (quorum_of s.leader s.epoch s.victory))
    (put (codes "phase") (string (phase_name s.phase))
    (put (codes "leader") (maybe s.leader)
    (put (codes "epoch") (count s.epoch)
    (put (codes "elections") (count s.elections) ms))))))

abbrev pub with_traffic : Traffic → Members → Members
with_traffic t ms =
    put (codes "sent") (array (counts t.sent)) (put (codes "refused") (count t.refused) (put (codes "received") (array (counts t.received)) ms))

abbrev pub with_disks : (a b : DiskTimes) → Members → Members
with_disks a b ms = put (codes "disks") (array (item (disk_data a) (item (disk_data b) no_items))) ms

abbrev pub with_all : Report → Members → Members
with_all r ms =
    put (codes "unkept") (count r.unkept)
    (with_disks r.a r.b
    (with_traffic r.notes.traffic
    (with_seen r.notes.seen
    (with_contacts r.notes.now (take r.member.monitors r.notes.seen.contacts)
    (with_member r.member r.notes.now ms)))))

abbrev pub report_data : Report → Data
report_data r = object (with_all r no_members)
