use Rattle.mon_store.proofs.OnPairs.{store_view_map, store_view_opens}
use Rattle.mon_store.proofs.law.law_stands.Goals as goal

pub returns-clause-map : goal.returns-clause-map
returns-clause-map c = λ side journal m a b s. store_view_map journal m side a b s

pub returns-clause-opens : goal.returns-clause-opens
returns-clause-opens c = λ member side journal m a b s own. store_view_opens journal m member side a b s own
