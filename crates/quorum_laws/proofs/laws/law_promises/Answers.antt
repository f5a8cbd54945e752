use Rattle.law_names.proofs.Runs.{first_world, run}
use Rattle.quorum_laws.proofs.Beginning.{at_first}
use Rattle.quorum_laws.proofs.Events.{all_runs, both_runs}
use Rattle.quorum_laws.proofs.Numbers.{all_remember, answers_cover, numbers_hold, numbers_rise, values_alone}
use Rattle.quorum_laws.proofs.laws.law_promises.Goals as goal

pub returns : goal.returns
returns c = record {
  numbers = λ ms events F. numbers_hold ms (run ms events) (all_runs ms events F);
  collects = λ ms events F. numbers_rise ms (run ms events) (all_runs ms events F);
  rising = λ ms before after F i. let k = (both_runs ms first_world before after F (at_first ms)).3.each i in record { epoch = k.epoch; promise = k.promise; level = k.level };
  remembered = λ ms events F. all_remember ms (run ms events) (all_runs ms events F);
  covered = λ ms events F. answers_cover ms (run ms events) (all_runs ms events F);
  values = λ ms events F. values_alone ms (run ms events) (all_runs ms events F);
}
