-- The names of definitions that proofs of laws import, passed on from one place. Declares nothing.
pub use Rattle.mon_bounds.specs.Fitting.{IsNamed, IsValidInput, entries_in}
pub use Rattle.mon_bounds.specs.Remembered.{MayRemember}
pub use Rattle.mon_core.specs.Reacts.{SendsNamed}
pub use Rattle.mon_decode.specs.Headers.{heading, kind_in}
pub use Rattle.mon_frag.specs.Headers.{is_piece}
pub use Rattle.mon_frag.specs.Keeping.{taken}
pub use Rattle.mon_frag.specs.Pieces.{pieces_of}
pub use Rattle.mon_frag.specs.Whole.{answer_in, kept_in}
pub use Rattle.mon_frag.specs.declared.partial.Partial.{Partial}
pub use Rattle.mon_link.specs.Clocks.{Readings}
pub use Rattle.mon_link.specs.Histories.{Happened, sent}
pub use Rattle.mon_link.specs.Links.{Observed, next_leaves}
pub use Rattle.mon_link.specs.declared.link.Got.TheVariants.{Closed, Datagram, Idle}
pub use Rattle.mon_link.specs.declared.link.Got.{Got}
pub use Rattle.mon_link.specs.declared.link.Outgoing.{Outgoing}
pub use Rattle.mon_link.specs.declared.link.Peer.TheVariants.{Client, Monitor}
pub use Rattle.mon_link.specs.declared.link.Peer.{Peer}
pub use Rattle.mon_name.specs.Numbers.{renumbered}
pub use Rattle.mon_node.specs.Hearing.{Given, Heard, answer_arrived, at_time, clock_read, due_by, heard, heard_by, input_in, input_read, is_request, link_asked, wait_until}
pub use Rattle.mon_node.specs.Iterations.{Iteration, done, map_after, next_number, numbered_by, reacted, reaction_to, sent_by, start}
unfoldable pub use Rattle.mon_node.specs.Iterations.{ended_iteration, iteration}
pub use Rattle.mon_node.specs.Keeping.{kept}
pub use Rattle.mon_node.specs.Nodes.{Node, Outside, Serving, unstarted}
pub use Rattle.mon_node.specs.Posting.{boot_in, datagrams, datagrams_of, letters, next_after, next_after_message, to_peer, with_number}
pub use Rattle.mon_node.specs.Serving.{Has, of_input, sends_of}
pub use Rattle.mon_node.specs.declared.end.NodeEnd.{NodeEnd}
pub use Rattle.mon_node.specs.declared.hearing.TimedInput.{TimedInput}
pub use Rattle.mon_store.specs.StoreView.{StoreView}
pub use Rattle.quorum_network.specs.AnyDisk.{AreNamed}
pub use Rattle.quorum_network.specs.Lives.{Alone, life, lives_then, own}
unfoldable pub use Rattle.quorum_network.specs.Lives.{alone}
pub use Rattle.quorum_network.specs.Network.{Begins, Doing, Down, IsAnswer, IsAsked, Iterates, Kept, Lost, May, Network, Posted, Process, Step, StepOutcome, Until, Up, Whole, after_step, at_end, down, entered, first_network, if_made, iteration_of, kept_reaction, made_by, map_of, newest, number_of, outcome_of, posted, under, with_outcome}
unfoldable pub use Rattle.quorum_network.specs.Network.{AllMay, may_before, network}
pub use Rattle.quorum_network.specs.Promises.{AreAnswers, IsLogOf}
pub use Rattle.quorum_network.specs.Requests.{Leadership, acknowledged_at, asked_by, kept_by, led_at}
unfoldable pub use Rattle.quorum_network.specs.Requests.{acknowledgements, leaderships, requests}
pub use Rattle.quorum_network.specs.Running.{answer_of}
