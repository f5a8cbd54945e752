-- The devices of each task: whose files, whose address and whose peers they have.
use Rattle.std.specs.Prelude.{◌≡◌, ◌⊎◌, ℕ, false, List, [], None, Some, String, string_bytes}
use Rattle.std.specs.declared.alloc.Global.{Global}
use Rattle.election_rules.specs.declared.rule.Rule.{Rule}
use Rattle.mon_link.specs.declared.udp.Address.{Address}
use Rattle.mon_types.specs.declared.member.Member.{Member}
use Rattle.mon_hello.specs.Formats.{tag_of}
use Rattle.mon_resend.specs.World.{fresh}
use Rattle.mon_watch.specs.Traffic.{no_notes}
use Rattle.mon_record.specs.declared.link.Recording.{Recording}
use Rattle.task_words.specs.Task.{AsksFor, AsksForNone}
use Rattle.task_words.specs.declared.task.Task.{Task}
use Rattle.task_words.specs.declared.task.Task.TheVariants as task
use Rattle.cephmon_links.specs.declared.devices.Channel.{Channel}
use Rattle.cephmon_links.specs.declared.devices.Channel.TheVariants as channel
use Rattle.cephmon_links.specs.declared.devices.Devices.{Devices}
use Rattle.cephmon_links.specs.declared.living.MonitorLives.{MonitorLives}
use Rattle.cephmon_links.specs.declared.living.TheConstants.{FIRST_STANDSTILL}
use Rattle.cephmon_links.specs.declared.recording.RecordFiles.{RecordFiles}

-- the lives of a monitor, of which a record may be kept
abbrev pub RecordedLives : Type 0
RecordedLives = Recording MonitorLives RecordFiles

-- disk a is in the file of this name, and disk b in that one
abbrev pub HaveFiles : (a b : List ℕ) → Devices → Type 0
HaveFiles a b d = (string_bytes d.disks.a.inner.path ≡ a) × (string_bytes d.disks.b.inner.path ≡ b)

-- The link of a monitor: its socket is at the address of its own rank, among the addresses of all. It says that it is this
-- member of that quorum, and takes what has the quorum's tag. It is the link of a first life.
abbrev pub IsMonitorOf : Member → Rule → List Address → Channel → Type 0
IsMonitorOf m rule addresses (channel.Monitor recorded clock) =
    let link = recorded.inner.link in
    let named = link.inner.inner.inner in
    let greeting = named.inner in
    (greeting.inner.own ≡ Some m.rank) × (greeting.inner.addresses.items ≡ addresses)
    × (greeting.own.member ≡ m) × (greeting.own.hello.rank ≡ m.rank) × (greeting.own.hello.addresses ≡ addresses)
    × (greeting.own.hello.identity.monitors ≡ m.monitors) × (greeting.own.hello.identity.rule ≡ rule)
    × (named.tag ≡ tag_of greeting.own.hello.identity)
    × (link.inner.inner.gaps.most ≡ FIRST_STANDSTILL) × (link.inner.inner.gaps.stood ≡ false)
    × (link.inner.copies ≡ fresh)
    × (link.watch.member ≡ m) × (link.notes ≡ no_notes)
IsMonitorOf m rule addresses (channel.Client link) = ⊥
IsMonitorOf m rule addresses (channel.Unused link) = ⊥

-- the link of a client, which has no rank, to these addresses
abbrev pub IsClientOf : List Address → Channel → Type 0
IsClientOf addresses (channel.Client link) = (link.own ≡ None) × (link.addresses.items ≡ addresses)
IsClientOf addresses (channel.Monitor link clock) = ⊥
IsClientOf addresses (channel.Unused link) = ⊥

abbrev pub IsUnused : Channel → Type 0
IsUnused (channel.Unused link) = Unit {0}
IsUnused (channel.Monitor link clock) = ⊥
IsUnused (channel.Client link) = ⊥

-- the devices of a command on the store in two files
abbrev pub AreOfStore : (a b : List ℕ) → Devices → Type 0
AreOfStore a b d = HaveFiles a b d × IsUnused d.channel

-- devices that name no file
abbrev pub AreUnused : Devices → Type 0
AreUnused d = AreOfStore [] [] d

-- the devices of a task
abbrev pub AreFor : Task → Devices → Type 0
AreFor (task.Node m rule addresses disk_a disk_b turns) d = HaveFiles disk_a disk_b d × IsMonitorOf m rule addresses d.channel
AreFor (task.Follow service addresses turns) d = HaveFiles [] [] d × IsClientOf addresses d.channel
AreFor (task.Scrub m disk_a disk_b) d = AreOfStore disk_a disk_b d
AreFor (task.DumpKeys m disk_a disk_b) d = AreOfStore disk_a disk_b d
AreFor (task.DumpPaxos m disk_a disk_b from to) d = AreOfStore disk_a disk_b d
AreFor (task.StoreExport m disk_a disk_b) d = AreOfStore disk_a disk_b d
AreFor (task.StoreImport m disk_a disk_b) d = AreOfStore disk_a disk_b d
AreFor task.Replay d = AreUnused d
AreFor (task.Made number events) d = AreUnused d
AreFor task.ScrubCompare d = AreUnused d

-- the devices of the task for which the arguments ask, if they ask for one
abbrev pub AreAsked : List (String Global) → Devices → Type 0
AreAsked words d = ((t : Task) × AsksFor t words × AreFor t d) ⊎ (AsksForNone words × AreUnused d)
