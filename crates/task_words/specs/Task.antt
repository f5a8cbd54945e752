-- What the arguments of a command line ask for.
use Rattle.std.specs.Prelude.{◌≡◌, ℕ, ◌≤◌, ◌^◌, ◌==◌, ◌&&◌, not, nat_le, Bool, false, IsTrue, List, [], ◌∷◌, length, map, Result, Ok, Err, String, string_bytes, codes, decimal}
use Rattle.std.specs.declared.alloc.Global.{Global}
use Rattle.std.specs.List.{AllByRecursion, list_all}
use Rattle.mon_types.specs.declared.member.Member.{Member}
use Rattle.schedule_text.specs.Encoding.{RuleFits, rule_text}
use Rattle.schedule_text.specs.Words.{service_text}
use Rattle.task_words.specs.declared.asked.TheConstants.{LONGEST_WORD, MOST_MADE}
use Rattle.task_words.specs.declared.task.StoreTask.{StoreTask}
use Rattle.task_words.specs.declared.task.StoreTask.TheVariants as on_store
use Rattle.task_words.specs.declared.task.Task.{Task}
use Rattle.task_words.specs.declared.task.Task.TheVariants.{Replay, Made, Node, Follow, Scrub, ScrubCompare, DumpKeys, DumpPaxos, StoreExport, StoreImport}
use Rattle.task_words.specs.declared.task.WordsStop.{WordsStop}
use Rattle.task_words.specs.declared.task.WordsStop.TheVariants.{Refused, OutOfMemory}
use Rattle.task_words.specs.Addresses.{IsAddress, addresses_text}

-- an argument isn't empty, isn't too long and doesn't begin with a hyphen
abbrev pub is_word : List ℕ → Bool
is_word [] = false
is_word (b ∷ bytes) = not (b == 45) && nat_le (length (b ∷ bytes)) LONGEST_WORD

-- the arguments of a command on a member's store: its name, `RANK MONITORS DISK_A DISK_B`, and others
abbrev pub store_words : List ℕ → Member → (disk_a disk_b : List ℕ) → List (List ℕ) → List (List ℕ)
store_words name member disk_a disk_b others = name ∷ decimal member.rank ∷ decimal member.monitors ∷ disk_a ∷ disk_b ∷ others

-- `replay`; `made NUMBER EVENTS`; `node RANK MONITORS RULE ADDRESSES DISK_A DISK_B TURNS`; `follow SERVICE ADDRESSES TURNS`; `scrub-compare`;
-- and the commands on a store, of which `dump-paxos` has `FROM TO` besides
abbrev pub words_of : Task → List (List ℕ)
words_of Replay = codes "replay" ∷ []
words_of (Made number events) = codes "made" ∷ decimal number ∷ decimal events ∷ []
words_of (Node member rule addresses disk_a disk_b turns) =
    codes "node" ∷ decimal member.rank ∷ decimal member.monitors ∷ rule_text rule ∷ addresses_text addresses ∷ disk_a ∷ disk_b ∷ decimal turns ∷ []
words_of (Follow service addresses turns) = codes "follow" ∷ service_text service ∷ addresses_text addresses ∷ decimal turns ∷ []
words_of (Scrub member disk_a disk_b) = store_words (codes "scrub") member disk_a disk_b []
words_of ScrubCompare = codes "scrub-compare" ∷ []
words_of (DumpKeys member disk_a disk_b) = store_words (codes "dump-keys") member disk_a disk_b []
words_of (DumpPaxos member disk_a disk_b from to) = store_words (codes "dump-paxos") member disk_a disk_b (decimal from ∷ decimal to ∷ [])
words_of (StoreExport member disk_a disk_b) = store_words (codes "store-export") member disk_a disk_b []
words_of (StoreImport member disk_a disk_b) = store_words (codes "store-import") member disk_a disk_b []

-- the task of a command on a member's store that takes no other arguments
abbrev pub task_on : StoreTask → Member → (disk_a disk_b : List ℕ) → Task
task_on on_store.Scrub member disk_a disk_b = Scrub member disk_a disk_b
task_on on_store.DumpKeys member disk_a disk_b = DumpKeys member disk_a disk_b
task_on on_store.Export member disk_a disk_b = StoreExport member disk_a disk_b
task_on on_store.Import member disk_a disk_b = StoreImport member disk_a disk_b

-- the most events of a schedule that is made
abbrev pub most_made : ℕ
most_made = MOST_MADE

-- The tasks that arguments can ask for. A member needs no bound here: its rank is always below the number of its
-- monitors, of which there are 1 to 15.
abbrev pub HasWords : Task → Type 0
HasWords (Made number events) = (number ≤ 2 ^ 62) × (1 ≤ events) × (events ≤ most_made)
HasWords (Node member rule addresses disk_a disk_b turns) =
    RuleFits member.monitors rule × (length addresses ≡ member.monitors) × AllByRecursion IsAddress addresses × (1 ≤ turns) × (turns ≤ 2 ^ 62)
HasWords (Follow service addresses turns) =
    (1 ≤ length addresses) × (length addresses ≤ 15) × AllByRecursion IsAddress addresses × (1 ≤ turns) × (turns ≤ 2 ^ 61)
HasWords (DumpPaxos member disk_a disk_b from to) = (from ≤ to) × (to ≤ 2 ^ 62)
HasWords other = Unit {0}

-- the arguments of a task, whether or not each of them is allowed
abbrev pub ParsesTask : List (List ℕ) → Type 0
ParsesTask words = (t : Task) × (HasWords t × (words ≡ words_of t))

-- texts of a command on a store that takes no others
pub record AreStore (texts : List (List ℕ)) : Type 0 where
  pub member : Member
  pub disk_a : List ℕ
  pub disk_b : List ℕ
  pub are : texts ≡ decimal member.rank ∷ decimal member.monitors ∷ disk_a ∷ disk_b ∷ []

-- The arguments are the task's, and each of them is allowed.
pub record Asks (t : Task) (words : List (List ℕ)) : Type 0 where
  pub has : HasWords t
  pub are : words ≡ words_of t
  pub each : IsTrue (list_all is_word words)

abbrev pub AsksFor : Task → List (String Global) → Type 0
AsksFor t words = Asks t (map string_bytes words)

-- the arguments ask for no task
abbrev pub AsksForNone : List (String Global) → Type 0
AsksForNone words = (t : Task) → ¬ (AsksFor t words)

-- the arguments ask for a task
abbrev pub IsAsked : List (String Global) → Type 0
IsAsked words = (t : Task) × AsksFor t words

-- The result of reading the arguments: the task that they ask for. If memory ran out, they ask for one too.
abbrev pub Reads : Result Task WordsStop → List (String Global) → Type 0
Reads (Ok t) words = AsksFor t words
Reads (Err Refused) words = AsksForNone words
Reads (Err OutOfMemory) words = IsAsked words
