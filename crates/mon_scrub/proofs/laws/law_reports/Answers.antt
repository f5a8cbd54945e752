use Rattle.mon_scrub.proofs.Again.{reports_again}
use Rattle.mon_scrub.proofs.Found.{reports_take}
use Rattle.mon_scrub.proofs.laws.law_reports.Goals as goal

pub returns-clause-again : goal.returns-clause-again
returns-clause-again c a b ha hb = reports_again a b ha hb

pub returns-clause-found : goal.returns-clause-found
returns-clause-found c bytes a b e = reports_take bytes (a, b) e
