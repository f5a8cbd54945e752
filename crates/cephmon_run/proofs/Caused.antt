-- What a command after `node` did is the cause of its status.
use Rattle.std.proofs.Common.{◌≡◌, ◌⊎◌, ℕ, List, length, Some, sym, subst, inl, inr, refl}
use Rattle.map_follower.specs.declared.end.FollowEnd.{FollowEnd}
use Rattle.map_follower.specs.declared.end.FollowEnd.TheVariants as follow_end
use Rattle.mon_disk.specs.Calls.{DiskState}
use Rattle.mon_link.specs.declared.udp.Address.{Address}
use Rattle.mon_types.specs.declared.member.Member.{Member}
use Rattle.mon_wire.specs.declared.request.Service.{Service}
use Rattle.stopped_stores.specs.Completing.{ComparisonCompletes, Hold, ImportCompletes, TextCompletes}
use Rattle.stopped_stores.specs.Completing as stopped
use Rattle.stopped_stores.specs.Importing.{ImportsExport}
use Rattle.stopped_stores.specs.Reading.{Compares}
use Rattle.stopped_stores.specs.Texts.{WritesText}
use Rattle.stopped_stores.specs.declared.end.ToolEnd.{ToolEnd}
use Rattle.stopped_stores.specs.declared.end.ToolEnd.TheVariants as tool_end
use Rattle.stopped_stores.specs.declared.writing.StoreText.{StoreText}
use Rattle.stopped_stores.specs.declared.writing.StoreText.TheVariants as text
use Rattle.stopped_stores.proofs.Completing.{comparison_completes, completes, none_rose, text_completes}
use Rattle.task_words.specs.declared.task.Task.{Task}
use Rattle.task_words.specs.declared.task.Task.TheVariants as task
use Rattle.cephmon_run.specs.Further.{CompareCause, FollowCause, Followed, ImportCause, RanOut, TextCause}
use Rattle.cephmon_run.specs.Node.{Around}
use Rattle.cephmon_run.specs.Outside.{Outside, ReadNothing, WroteNothing, sink_of, source_of}
use Rattle.cephmon_run.specs.Run.{HasCause, IsFollowed, NoneFailed, NothingFailed, text_task}
use Rattle.run_status.specs.Status.{StatusOf, status_of_follow, status_of_tool}
use Rattle.run_status.specs.declared.status.Status.{Status}
use Rattle.run_status.specs.declared.status.Status.TheVariants as status

module _ {D : Type 0} (state : D → DiskState) (before after : Outside) (around left : Around D) where
  -- the cause is that of the command's own task
  caused : (t u : Task) (s : Status) → t ≡ u → HasCause state u before after around left s → HasCause state t before after around left s
  caused t u s is cause = subst (λ (v : Task). HasCause state v before after around left s) (sym is) cause

  -- of a client, of as many monitors as there are addresses
  pub follow_caused : (service : Service) (addresses : List Address) (turns n : ℕ) (t : Task) (s : Status) → t ≡ task.Follow service addresses turns → n ≡ length addresses
      → StatusOf status_of_follow (Followed service n turns (sink_of before) (sink_of after) around.link left.link) s
      → ReadNothing before after → left.disks ≡ around.disks → left.clock ≡ around.clock → HasCause state t before after around left s
  follow_caused service addresses turns n t s is count did unread disks clock =
      let counted = subst (λ (k : ℕ). StatusOf status_of_follow (Followed service k turns (sink_of before) (sink_of after) around.link left.link) s) count did in
      caused t (task.Follow service addresses turns) s is (inr (counted, unread, disks, clock))

  -- of a text, whichever it is
  pub as_text : (what : StoreText) (member : Member) (disk_a disk_b : List ℕ) (s : Status) → RanOut before after around left s ⊎ TextCause state what member before after around left s
      → HasCause state (text_task what member disk_a disk_b) before after around left s
  as_text text.Report member disk_a disk_b s cause = cause
  as_text text.Keys member disk_a disk_b s cause = cause
  as_text (text.Versions from to) member disk_a disk_b s cause = cause
  as_text text.Export member disk_a disk_b s cause = cause

  of_text : (what : StoreText) (member : Member) (disk_a disk_b : List ℕ) (s : Status) → HasCause state (text_task what member disk_a disk_b) before after around left s
      → RanOut before after around left s ⊎ TextCause state what member before after around left s
  of_text text.Report member disk_a disk_b s cause = cause
  of_text text.Keys member disk_a disk_b s cause = cause
  of_text (text.Versions from to) member disk_a disk_b s cause = cause
  of_text text.Export member disk_a disk_b s cause = cause

  pub text_caused : (what : StoreText) (member : Member) (disk_a disk_b : List ℕ) (t : Task) (s : Status) → t ≡ text_task what member disk_a disk_b
      → StatusOf status_of_tool (WritesText state member around.disks left.disks (sink_of before) (sink_of after) what) s
      → ReadNothing before after → left.link ≡ around.link → left.clock ≡ around.clock → HasCause state t before after around left s
  text_caused what member disk_a disk_b t s is did unread link clock =
      caused t (text_task what member disk_a disk_b) s is (as_text what member disk_a disk_b s (inr (did, unread, link, clock)))

  pub import_caused : (member : Member) (disk_a disk_b : List ℕ) (t : Task) (s : Status) → t ≡ task.StoreImport member disk_a disk_b
      → StatusOf status_of_tool (ImportsExport state member around.disks left.disks (source_of before) (source_of after)) s
      → WroteNothing before after → left.link ≡ around.link → left.clock ≡ around.clock → HasCause state t before after around left s
  import_caused member disk_a disk_b t s is did silent link clock = caused t (task.StoreImport member disk_a disk_b) s is (inr (did, silent, link, clock))

  -- ---- and which status comes, if nothing fails

  module _ (calm : NothingFailed before after) (quiet : NoneFailed state around left) where
    follow_ends : (service : Service) (n turns : ℕ) (e : FollowEnd) → Followed service n turns (sink_of before) (sink_of after) around.link left.link e → IsFollowed (status_of_follow e)
    follow_ends service n turns follow_end.Closed did = tt
    follow_ends service n turns follow_end.TurnsUsed did = tt
    follow_ends service n turns follow_end.OutOfMemory did = tt
    follow_ends service n turns follow_end.LinkFault did = absurd (none_rose _ _ quiet.link did.link_counts)
    follow_ends service n turns follow_end.WriteFault did = absurd (calm.writes (did.sink_counts refl))

    pub followed_so : (service : Service) (addresses : List Address) (turns : ℕ) (s : Status) → HasCause state (task.Follow service addresses turns) before after around left s → IsFollowed s
    followed_so service addresses turns s cause = elim cause [
      | inl ran ↦ subst IsFollowed (sym ran.is) tt
      | inr did ↦ subst IsFollowed (sym did.0.is) (follow_ends service (length addresses) turns did.0.end did.0.holds)
    ]

    disks_quiet : stopped.NoneFailed state around.disks left.disks
    disks_quiet = record { a = quiet.disk_a; b = quiet.disk_b }

    pub written_so : (what : StoreText) (member : Member) (disk_a disk_b : List ℕ) (s : Status) → HasCause state (text_task what member disk_a disk_b) before after around left s
        → (a b : List ℕ) → Hold state around.disks a b → StatusOf status_of_tool (TextCompletes member a b) s
    written_so what member disk_a disk_b s cause a b holds = elim (of_text what member disk_a disk_b s cause) [
      | inl ran ↦ record { end = tool_end.OutOfMemory; is = ran.is; holds = record { stands = λ store_view is. tt; refused = λ refusal is. tt } }
      | inr did ↦ record {
        end = did.0.end;
        is = did.0.is;
        holds = text_completes state what member around.disks left.disks (sink_of before) (sink_of after) did.0.end did.0.holds disks_quiet calm.writes a b holds;
      }
    ]

    pub imported_so : (member : Member) (disk_a disk_b : List ℕ) (s : Status) → HasCause state (task.StoreImport member disk_a disk_b) before after around left s
        → (bytes a b : List ℕ) → before.left ≡ Some bytes → Hold state around.disks a b → StatusOf status_of_tool (ImportCompletes member bytes a b) s
    imported_so member disk_a disk_b s cause bytes a b is holds = elim cause [
      | inl ran ↦ record {
        end = tool_end.OutOfMemory;
        is = ran.is;
        holds = record {
          refused = λ at bad. tt;
          too_large = λ would_be bad. tt;
          stranger = λ kept m export other. tt;
          filled_disk = λ m disk export full. tt;
          imported = λ m export empty. tt;
        };
      }
      | inr did ↦ record {
        end = did.0.end;
        is = did.0.is;
        holds = completes state member around.disks left.disks (source_of before) (source_of after) disks_quiet calm.reads bytes a b is holds did.0.end did.0.holds;
      }
    ]

  pub compared_so : (s : Status) → NothingFailed before after → HasCause state task.ScrubCompare before after around left s → (bytes : List ℕ) → before.left ≡ Some bytes
      → StatusOf status_of_tool (ComparisonCompletes bytes) s
  compared_so s calm cause bytes is = elim cause [
    | inl ran ↦ record { end = tool_end.OutOfMemory; is = ran.is; holds = record { compared = λ x good. tt; refused = λ line bad. tt } }
    | inr did ↦ record {
      end = did.0.end;
      is = did.0.is;
      holds = comparison_completes (source_of before) (source_of after) (sink_of before) (sink_of after) did.0.end did.0.holds calm.reads calm.writes bytes is;
    }
  ]

pub compare_caused : {D : Type 0} (state : D → DiskState) (before after : Outside) (around : Around D) (t : Task) (s : Status) → t ≡ task.ScrubCompare
    → StatusOf status_of_tool (Compares (source_of before) (source_of after) (sink_of before) (sink_of after)) s → HasCause state t before after around around s
compare_caused state before after around t s is did = caused state before after around around t task.ScrubCompare s is (inr (did, refl))

-- ---- faulty arguments have no such status

tool_words : (e : ToolEnd) → status.Words ≡ status_of_tool e → ⊥
tool_words tool_end.Done is = absurd cc
tool_words tool_end.ReadFault is = absurd cc
tool_words tool_end.WriteFault is = absurd cc
tool_words tool_end.DiskFault is = absurd cc
tool_words (tool_end.NotAStore disk at) is = absurd cc
tool_words (tool_end.Stranger kept asked) is = absurd cc
tool_words (tool_end.Full would_be) is = absurd cc
tool_words (tool_end.Report line) is = absurd cc
tool_words (tool_end.NotEmpty disk) is = absurd cc
tool_words (tool_end.Export at) is = absurd cc
tool_words tool_end.OutOfMemory is = absurd cc

follow_words : (e : FollowEnd) → status.Words ≡ status_of_follow e → ⊥
follow_words follow_end.Closed is = absurd cc
follow_words follow_end.TurnsUsed is = absurd cc
follow_words follow_end.LinkFault is = absurd cc
follow_words follow_end.WriteFault is = absurd cc
follow_words follow_end.OutOfMemory is = absurd cc

ran_words : {D : Type 0} (before after : Outside) (around left : Around D) → RanOut before after around left status.Words → ⊥
ran_words before after around left ran = let is = ran.is in absurd cc

module _ {D : Type 0} (state : D → DiskState) (before after : Outside) (around left : Around D) where
  pub follow_faulty : (service : Service) (n turns : ℕ) → RanOut before after around left status.Words ⊎ FollowCause service n turns before after around left status.Words → ⊥
  follow_faulty service n turns cause = elim cause [
    | inl ran ↦ ran_words before after around left ran
    | inr did ↦ follow_words did.0.end did.0.is
  ]

  pub text_faulty : (what : StoreText) (member : Member) → RanOut before after around left status.Words ⊎ TextCause state what member before after around left status.Words → ⊥
  text_faulty what member cause = elim cause [
    | inl ran ↦ ran_words before after around left ran
    | inr did ↦ tool_words did.0.end did.0.is
  ]

  pub compare_faulty : RanOut before after around left status.Words ⊎ CompareCause before after around left status.Words → ⊥
  compare_faulty cause = elim cause [
    | inl ran ↦ ran_words before after around left ran
    | inr did ↦ tool_words did.0.end did.0.is
  ]

  pub import_faulty : (member : Member) → RanOut before after around left status.Words ⊎ ImportCause state member before after around left status.Words → ⊥
  import_faulty member cause = elim cause [
    | inl ran ↦ ran_words before after around left ran
    | inr did ↦ tool_words did.0.end did.0.is
  ]
