-- A report has no floats.
use Rattle.std.proofs.Common.{◌≡◌, ℕ, false, List, [], ◌∷◌, take, Option, Some, None, refl}
use Rattle.serde_json.specs.Written.{has_float, items_have_float}
use Rattle.serde_json.proofs.OnLiterals.{serde_json_on_literals}
use Rattle.mon_watch.specs.declared.contact.Contact.{Contact}
use Rattle.mon_watch.specs.declared.report.Report.{Report}
use Rattle.mon_watch.specs.Reports.{age, asked_ages, counts, heard_ages, maybe, report_data}

calm_counts : (ns : List ℕ) → items_have_float (counts ns) ≡ false
calm_counts [] = refl
calm_counts (n ∷ ns) = calm_counts ns

calm_maybe : (n : Option ℕ) → has_float (maybe n) ≡ false
calm_maybe (Some n) = refl
calm_maybe None = refl

calm_heard : (now : ℕ) (cs : List Contact) → items_have_float (heard_ages now cs) ≡ false
calm_heard now [] = refl
calm_heard now (c ∷ cs) = rw (calm_maybe (age now c.heard)) (calm_heard now cs)

calm_asked : (now : ℕ) (cs : List Contact) → items_have_float (asked_ages now cs) ≡ false
calm_asked now [] = refl
calm_asked now (c ∷ cs) = rw (calm_maybe (age now c.asked)) (calm_asked now cs)

pub no_float : (r : Report) → has_float (report_data r) ≡ false
unfolding serde_json_on_literals
no_float r =
    let known = take r.member.monitors r.notes.seen.contacts in
    rw (
      calm_asked r.notes.now known,
      calm_counts r.a.buckets,
      calm_counts r.b.buckets,
      calm_heard r.notes.now known,
      calm_maybe r.notes.seen.leader,
      calm_counts r.notes.traffic.received,
      calm_counts r.notes.traffic.sent,
      calm_maybe r.notes.seen.source,
    ) refl
