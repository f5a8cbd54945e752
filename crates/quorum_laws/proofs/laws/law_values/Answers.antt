use Rattle.law_names.proofs.Runs.{run}
use Rattle.quorum_laws.proofs.Chosen.{chosen_once, leaders_know, leaves_no_room, one_value, proposes_new}
use Rattle.quorum_laws.proofs.Events.{all_runs}
use Rattle.quorum_laws.proofs.laws.law_values.Goals as goal

pub returns : goal.returns
returns c = record {
  one = λ ms events F. one_value ms (run ms events) (all_runs ms events F);
  room = λ ms events F. leaves_no_room ms (run ms events) (all_runs ms events F);
  chosen = λ ms events F. chosen_once ms (run ms events) (all_runs ms events F);
  leaders = λ ms events F. leaders_know ms (run ms events) (all_runs ms events F);
  fresh = proposes_new;
}
