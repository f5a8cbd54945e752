use Rattle.std.proofs.Common.{◌≡◌, map, take}
use Rattle.serde_json.specs.View.{view}
use Rattle.mon_watch.specs.Reports.{age, maybe}
use Rattle.mon_watch.proofs.report.asked_ages.Given as goal

abbrev pub invariant-loop-contact : goal.invariant-loop-contact
invariant-loop-contact l = map view l.values.items ≡ map (λ c. maybe (age l.now c.asked)) (take l.contact-index l.contacts)
