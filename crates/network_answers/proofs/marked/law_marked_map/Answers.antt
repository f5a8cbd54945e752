use Rattle.network_answers.proofs.MarkedMaps.{includes}
use Rattle.network_answers.proofs.marked.law_marked_map.Goals as goal

pub returns : goal.returns
returns c = includes
