use Rattle.quorum_network.proofs.AnyDisk.{clients_join_whole, joins_whole}
use Rattle.quorum_network.proofs.Anyhow.{all_may_anyhow}
use Rattle.quorum_network.proofs.OfCore.{core_names}
use Rattle.quorum_network.proofs.laws.law_any_disk.Goals as goal

pub returns : goal.returns
returns c = record { clients = clients_join_whole; monitors = joins_whole; met = all_may_anyhow; named = core_names }
