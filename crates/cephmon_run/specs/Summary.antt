-- The summary of a schedule's run.
use Rattle.std.specs.Prelude.{◌≡◌, ℕ, ◌+◌, nat_lt, List, [], ◌∷◌, ◌++◌, length, map, Option, Some, None, Result, Ok, Err, codes, decimal, if◌then◌else◌}
use Rattle.std.specs.List.{range_with_len}
use Rattle.quorum_model.specs.Growth.{last_of}
use Rattle.quorum_model.specs.Happens.{Stop}
use Rattle.quorum_model.specs.Monitors.{Monitors}
use Rattle.quorum_model.specs.Scenes.{Scene, first_scene}
use Rattle.schedule_text.specs.declared.event.Event as schedule
use Rattle.serde_json.specs.Data.{Data, Items, array, member, no_members, number, object, unsigned}
use Rattle.serde_json.specs.View.{view}
use Rattle.serde_json.specs.declared.value.Value.{Value}
use Rattle.trace_text.specs.declared.step.StepLine.{StepLine}
use Rattle.mon_world.specs.Step.{step}
use Rattle.cephmon_run.specs.declared.summary.Counts.{Counts}

-- ---- what is counted

abbrev pub no_counts : Counts
no_counts = record { replies = 0; sent = 0; stores = 0 }

abbrev pub and_step : StepLine → Counts → Counts
and_step line k = record {
  replies = k.replies + length line.replies;
  sent = k.sent + length line.sent;
  stores = k.stores + (if nat_lt 0 line.ops then 1 else 0);
}

-- the scene at the end and what was counted on the way, or what stops the run
abbrev pub counts_on : (Scene → Counts → Result (Scene × Counts) Stop) → Counts → Result (Scene × StepLine) Stop →
    Result (Scene × Counts) Stop
counts_on follow k (Ok done) = follow done.0 (and_step done.1 k)
counts_on follow k (Err stop) = Err stop

unfoldable pub counted_from : Monitors → Scene → Counts → List schedule.Event → Result (Scene × Counts) Stop
counted_from ms c k [] = Ok (c, k)
counted_from ms c k (e ∷ es) = counts_on (λ next more. counted_from ms next more es) k (step ms c e)

-- ---- its line

-- numbers with commas between them
abbrev pub joined_numbers : List ℕ → List ℕ
joined_numbers [] = []
joined_numbers (n ∷ []) = decimal n
joined_numbers (n ∷ m ∷ ns) = decimal n ++ 44 ∷ joined_numbers (m ∷ ns)

-- a name of the JSON object in quotes, a colon, and the text after it
abbrev pub named : List ℕ → List ℕ → List ℕ
named name rest = 34 ∷ (name ++ 34 ∷ 58 ∷ rest)

-- one compact JSON object, its keys in order, and a line feed
abbrev pub line_text : (events : ℕ) (last : List ℕ) (log : ℕ) → Counts → List ℕ
line_text events last log k =
    123 ∷ named (codes "events") (decimal events
    ++ 44 ∷ named (codes "last") (91 ∷ (joined_numbers last
    ++ 93 ∷ 44 ∷ named (codes "log") (decimal log
    ++ 44 ∷ named (codes "replies") (decimal k.replies
    ++ 44 ∷ named (codes "sent") (decimal k.sent
    ++ 44 ∷ named (codes "stores") (decimal k.stores ++ 125 ∷ 10 ∷ [])))))))

-- the last version of each of this many monitors
abbrev pub last_versions : Scene → ℕ → List ℕ
last_versions c n = map (λ i. last_of (c.world.store i)) (range_with_len 0 n)

-- the line of this many events of this many monitors
abbrev pub summary_line : (events n : ℕ) → Scene → Counts → List ℕ
summary_line events n c k = line_text events (last_versions c n) (length c.world.log) k

-- what is written of a run, or what stops it
pub record Summary : Type 0 where
  pub text : List ℕ
  pub stop : Option Stop

abbrev pub summed : (events n : ℕ) → Result (Scene × Counts) Stop → Summary
summed events n (Ok done) = record { text = summary_line events n done.0 done.1; stop = None }
summed events n (Err stop) = record { text = []; stop = Some stop }

abbrev pub summary : Monitors → List schedule.Event → Summary
summary ms events = summed (length events) ms.count (counted_from ms first_scene no_counts events)

-- the run of this summary isn't stopped, and the bytes are its line
pub record IsLine (s : Summary) (line : List ℕ) : Type 0 where
  pub goes : s.stop ≡ None
  pub text : s.text ≡ line

-- ---- as JSON

abbrev pub AreNumbers : List Value → List ℕ → Type 0
AreNumbers values ns = map view values ≡ map (λ n. number (unsigned n)) ns

abbrev pub object_of : (events : ℕ) (last : Items) (log : ℕ) → Counts → Data
object_of events last log k =
    object (member (codes "events") (number (unsigned events))
    (member (codes "last") (array last) (member (codes "log") (number (unsigned log))
    (member (codes "replies") (number (unsigned k.replies))
    (member (codes "sent") (number (unsigned k.sent))
    (member (codes "stores") (number (unsigned k.stores)) no_members))))))
