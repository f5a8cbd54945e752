-- The kinds of tasks. The first argument names the kind, so a proof about two tasks with the same arguments needs no
-- case for each pair of kinds.
use Rattle.std.proofs.Common.{◌≡◌, ℕ, List, [], ◌∷◌, codes, decimal, refl, sym, ap, subst, ◌∙◌, if◌then◌else◌}
use Rattle.std.specs.Str.{bytes_eq}
use Rattle.clap.specs.Words.{Text}
use Rattle.election_rules.specs.declared.rule.Rule.{Rule}
use Rattle.mon_link.specs.declared.udp.Address.{Address}
use Rattle.mon_types.specs.declared.member.Member.{Member}
use Rattle.mon_wire.specs.declared.request.Service.{Service}
use Rattle.schedule_text.specs.Encoding.{rule_text}
use Rattle.schedule_text.specs.Words.{service_text}
use Rattle.task_words.specs.declared.task.Task.{Task}
use Rattle.task_words.specs.declared.task.Task.TheVariants as task
use Rattle.task_words.specs.Addresses.{addresses_text}
use Rattle.task_words.specs.Commands.{follow_texts, made_texts, no_texts, node_texts, store_texts, versions_texts}
use Rattle.task_words.specs.Task.{HasWords, ParsesTask, words_of}

pub data Kind : Type 0 where
  Replays : Kind
  Makes : Kind
  Serves : Kind
  Follows : Kind
  Scrubs : Kind
  Compares : Kind
  DumpsKeys : Kind
  DumpsPaxos : Kind
  Exports : Kind
  Imports : Kind

abbrev pub kind_of : Task → Kind
kind_of task.Replay = Replays
kind_of (task.Made number events) = Makes
kind_of (task.Node member rule addresses disk_a disk_b turns) = Serves
kind_of (task.Follow service addresses turns) = Follows
kind_of (task.Scrub member disk_a disk_b) = Scrubs
kind_of task.ScrubCompare = Compares
kind_of (task.DumpKeys member disk_a disk_b) = DumpsKeys
kind_of (task.DumpPaxos member disk_a disk_b from to) = DumpsPaxos
kind_of (task.StoreExport member disk_a disk_b) = Exports
kind_of (task.StoreImport member disk_a disk_b) = Imports

-- ---- its name

abbrev pub name_by : Kind → Text
name_by Replays = codes "replay"
name_by Makes = codes "made"
name_by Serves = codes "node"
name_by Follows = codes "follow"
name_by Scrubs = codes "scrub"
name_by Compares = codes "scrub-compare"
name_by DumpsKeys = codes "dump-keys"
name_by DumpsPaxos = codes "dump-paxos"
name_by Exports = codes "store-export"
name_by Imports = codes "store-import"

abbrev pub name_of : Task → Text
name_of t = name_by (kind_of t)

-- the kind that a name has, if it has one
abbrev pub kind_named : Text → Kind
kind_named name =
    if bytes_eq name (codes "made") then Makes else
    (if bytes_eq name (codes "node") then Serves else
    (if bytes_eq name (codes "follow") then Follows else
    (if bytes_eq name (codes "scrub") then Scrubs else
    (if bytes_eq name (codes "scrub-compare") then Compares else
    (if bytes_eq name (codes "dump-keys") then DumpsKeys else
    (if bytes_eq name (codes "dump-paxos") then DumpsPaxos else
    (if bytes_eq name (codes "store-export") then Exports else
    (if bytes_eq name (codes "store-import") then Imports else Replays))))))))

pub named : (k : Kind) → kind_named (name_by k) ≡ k
named Replays = refl
named Makes = refl
named Serves = refl
named Follows = refl
named Scrubs = refl
named Compares = refl
named DumpsKeys = refl
named DumpsPaxos = refl
named Exports = refl
named Imports = refl

-- ---- its fields

-- a member and two files
abbrev pub OfStore : Type 0
OfStore = Member × List ℕ × List ℕ

abbrev pub Fields : Kind → Type 0
Fields Replays = Unit {0}
Fields Makes = ℕ × ℕ
Fields Serves = Member × Rule × List Address × List ℕ × List ℕ × ℕ
Fields Follows = Service × List Address × ℕ
Fields Scrubs = OfStore
Fields Compares = Unit {0}
Fields DumpsKeys = OfStore
Fields DumpsPaxos = Member × List ℕ × List ℕ × ℕ × ℕ
Fields Exports = OfStore
Fields Imports = OfStore

abbrev pub task_by : (k : Kind) → Fields k → Task
task_by Replays f = task.Replay
task_by Makes f = task.Made f.0 f.1
task_by Serves f = task.Node f.0 f.1 f.2 f.3 f.4 f.5
task_by Follows f = task.Follow f.0 f.1 f.2
task_by Scrubs f = task.Scrub f.0 f.1 f.2
task_by Compares f = task.ScrubCompare
task_by DumpsKeys f = task.DumpKeys f.0 f.1 f.2
task_by DumpsPaxos f = task.DumpPaxos f.0 f.1 f.2 f.3 f.4
task_by Exports f = task.StoreExport f.0 f.1 f.2
task_by Imports f = task.StoreImport f.0 f.1 f.2

-- a task of this kind
abbrev pub IsBy : Kind → Task → Type 0
IsBy k t = (f : Fields k) × (t ≡ task_by k f)

is_by : (t : Task) → IsBy (kind_of t) t
is_by task.Replay = (tt, refl)
is_by (task.Made number events) = ((number, events), refl)
is_by (task.Node member rule addresses disk_a disk_b turns) = ((member, rule, addresses, disk_a, disk_b, turns), refl)
is_by (task.Follow service addresses turns) = ((service, addresses, turns), refl)
is_by (task.Scrub member disk_a disk_b) = ((member, disk_a, disk_b), refl)
is_by task.ScrubCompare = (tt, refl)
is_by (task.DumpKeys member disk_a disk_b) = ((member, disk_a, disk_b), refl)
is_by (task.DumpPaxos member disk_a disk_b from to) = ((member, disk_a, disk_b, from, to), refl)
is_by (task.StoreExport member disk_a disk_b) = ((member, disk_a, disk_b), refl)
is_by (task.StoreImport member disk_a disk_b) = ((member, disk_a, disk_b), refl)

pub of_kind : (k : Kind) (t : Task) → kind_of t ≡ k → IsBy k t
of_kind k t is = subst (λ (j : Kind). IsBy j t) is (is_by t)

pub same_kind : (t u : Task) → name_of t ≡ name_of u → kind_of u ≡ kind_of t
same_kind t u same = sym (named (kind_of u)) ∙ ap kind_named (sym same) ∙ named (kind_of t)

-- a task of this name is of its kind
pub of_name : (name : Text) (t : Task) → name ≡ name_of t → IsBy (kind_named name) t
of_name name t is = of_kind (kind_named name) t (sym (named (kind_of t)) ∙ ap kind_named (sym is))

-- ---- its texts

-- the arguments after the name
abbrev pub texts_of : Task → List Text
texts_of task.Replay = []
texts_of (task.Made number events) = decimal number ∷ decimal events ∷ []
texts_of (task.Node member rule addresses disk_a disk_b turns) =
    decimal member.rank ∷ decimal member.monitors ∷ rule_text rule ∷ addresses_text addresses ∷ disk_a ∷ disk_b ∷ decimal turns ∷ []
texts_of (task.Follow service addresses turns) = service_text service ∷ addresses_text addresses ∷ decimal turns ∷ []
texts_of (task.Scrub member disk_a disk_b) = decimal member.rank ∷ decimal member.monitors ∷ disk_a ∷ disk_b ∷ []
texts_of task.ScrubCompare = []
texts_of (task.DumpKeys member disk_a disk_b) = decimal member.rank ∷ decimal member.monitors ∷ disk_a ∷ disk_b ∷ []
texts_of (task.DumpPaxos member disk_a disk_b from to) = decimal member.rank ∷ decimal member.monitors ∷ disk_a ∷ disk_b ∷ decimal from ∷ decimal to ∷ []
texts_of (task.StoreExport member disk_a disk_b) = decimal member.rank ∷ decimal member.monitors ∷ disk_a ∷ disk_b ∷ []
texts_of (task.StoreImport member disk_a disk_b) = decimal member.rank ∷ decimal member.monitors ∷ disk_a ∷ disk_b ∷ []

pub words_are : (t : Task) → words_of t ≡ name_of t ∷ texts_of t
words_are task.Replay = refl
words_are (task.Made number events) = refl
words_are (task.Node member rule addresses disk_a disk_b turns) = refl
words_are (task.Follow service addresses turns) = refl
words_are (task.Scrub member disk_a disk_b) = refl
words_are task.ScrubCompare = refl
words_are (task.DumpKeys member disk_a disk_b) = refl
words_are (task.DumpPaxos member disk_a disk_b from to) = refl
words_are (task.StoreExport member disk_a disk_b) = refl
words_are (task.StoreImport member disk_a disk_b) = refl

-- what the command requires
abbrev pub ids_by : Kind → List Text
ids_by Replays = no_texts
ids_by Makes = made_texts
ids_by Serves = node_texts
ids_by Follows = follow_texts
ids_by Scrubs = store_texts
ids_by Compares = no_texts
ids_by DumpsKeys = store_texts
ids_by DumpsPaxos = versions_texts
ids_by Exports = store_texts
ids_by Imports = store_texts

-- ---- what arguments encode

pub same_head : (a b : Text) (x y : List Text) → a ∷ x ≡ b ∷ y → a ≡ b
same_head a b x y e = cc

pub same_tail : (a b : Text) (x y : List Text) → a ∷ x ≡ b ∷ y → x ≡ y
same_tail a b x y e = cc

-- the arguments of a task of this kind
pub record Parsed (k : Kind) (texts : List Text) : Type 0 where
  pub fields : Fields k
  pub has : HasWords (task_by k fields)
  pub are : texts ≡ texts_of (task_by k fields)

-- a task that a name and texts encode is of the name's kind
pub parsed : (name : Text) (texts : List Text) → ParsesTask (name ∷ texts) → Parsed (kind_named name) texts
parsed name texts s =
    let whole : name ∷ texts ≡ name_of s.0 ∷ texts_of s.0 = s.1.1 ∙ words_are s.0 in
    let it = of_name name s.0 (same_head _ _ _ _ whole) in
    record { fields = it.0; has = subst HasWords it.1 s.1.0; are = same_tail _ _ _ _ whole ∙ ap texts_of it.1 }

-- and the converse, for a kind and its own name
words_by : (k : Kind) (f : Fields k) → name_by k ∷ texts_of (task_by k f) ≡ words_of (task_by k f)
words_by Replays f = refl
words_by Makes f = refl
words_by Serves f = refl
words_by Follows f = refl
words_by Scrubs f = refl
words_by Compares f = refl
words_by DumpsKeys f = refl
words_by DumpsPaxos f = refl
words_by Exports f = refl
words_by Imports f = refl

pub parses : (k : Kind) (texts : List Text) → Parsed k texts → ParsesTask (name_by k ∷ texts)
parses k texts s = (task_by k s.fields, (s.has, ap (λ (x : List Text). name_by k ∷ x) s.are ∙ words_by k s.fields))
