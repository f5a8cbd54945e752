-- The names of definitions that proofs of laws import, passed on from one place. Declares nothing.
pub use Rattle.election_rules.specs.Ranking.{allows}
pub use Rattle.election_rules.specs.declared.rule.Rule.{Rule}
pub use Rattle.election_rules.specs.declared.scores.Scores.{Scores}
pub use Rattle.mon_bytes.specs.Reading.{IsBytes}
pub use Rattle.mon_bytes.specs.declared.command.CommandRefused.{CommandRefused}
pub use Rattle.mon_bytes.specs.declared.command.Command.{Command}
pub use Rattle.mon_bytes.specs.declared.entry.Entry.{Entry}
pub use Rattle.mon_bytes.specs.declared.entry.KeyPlace.{KeyPlace}
pub use Rattle.mon_lease.specs.Lease.{readable, stands}
pub use Rattle.mon_msg.specs.Fold.{entry, map_after, map_of_log, put_in, version_of_log}
unfoldable pub use Rattle.mon_msg.specs.Fold.{fold, incrementals}
unfoldable pub use Rattle.mon_msg.specs.Joined.{joined}
pub use Rattle.mon_msg.specs.Protocol.Answers.{is_complete, last_answer, sent_values, told_of}
unfoldable pub use Rattle.mon_msg.specs.Protocol.Answers.{answer_of}
pub use Rattle.mon_msg.specs.Protocol.Changes.{Boot, Change, Copy, Epoch, Last, Learn, Mark, Numbers, Promise, Record, Unmark, Vote, encoded, ops_of}
pub use Rattle.mon_msg.specs.Protocol.Chunks.{copy, copy_changes, is_ours, next_place, record_changes, replay_or_end, take, take_and_ask, take_last, takes_chunks}
unfoldable pub use Rattle.mon_msg.specs.Protocol.Chunks.{hear_chunk, hear_last_chunk}
pub use Rattle.mon_msg.specs.Protocol.Collecting.{begin_found, catch_up, commits_to, commits_with}
unfoldable pub use Rattle.mon_msg.specs.Protocol.Collecting.{collect, collect_with, missed, reign, settle}
pub use Rattle.mon_msg.specs.Protocol.Commands.{at_leader, at_peon, is_too_long, may_propose, most_text, queue_up, text_length, too_long, wait_under}
unfoldable pub use Rattle.mon_msg.specs.Protocol.Commands.{ask, hear_forward, hear_route, propose_due}
pub use Rattle.mon_msg.specs.Protocol.Copying.{ask_chunk, awaits_cookie, first_place, of_provider, same_flag, start_chunks}
unfoldable pub use Rattle.mon_msg.specs.Protocol.Copying.{hear_cookie, hear_no_cookie}
pub use Rattle.mon_msg.specs.Protocol.Course.{Course, arm, arm_if, change, change_all, change_if, checked, clients_are, disarm, elector_is, forget_clients, in_phase, leader_is, leads_in, peon_is, prober_is, requester_is, say, ◌>>=◌, ◌▸◌}
pub use Rattle.mon_msg.specs.Protocol.Elections.{count_ack, is_allowed, is_whole, may_defer, merge, stands_before, table_or, weigh}
unfoldable pub use Rattle.mon_msg.specs.Protocol.Elections.{election_ends, hear_ack, hear_propose, hear_victory}
pub use Rattle.mon_msg.specs.Protocol.Entering.{in_next_epoch, is_even, next_even, own_table, scores_count}
unfoldable pub use Rattle.mon_msg.specs.Protocol.Entering.{adopt, bootstrap, elect, in_odd_epoch, win}
pub use Rattle.mon_msg.specs.Protocol.Found.{better, counts}
pub use Rattle.mon_msg.specs.Protocol.Hearing.{deliver, hear, is_heard}
unfoldable pub use Rattle.mon_msg.specs.Protocol.Hearing.{hear_client}
pub use Rattle.mon_msg.specs.Protocol.Leader.{all_accepted, all_answered, commit_any, hear_whole, is_one_of, note, note_pending, of_member}
unfoldable pub use Rattle.mon_msg.specs.Protocol.Leader.{hear_accept, hear_last, hear_lease_ack, renew}
pub use Rattle.mon_msg.specs.Protocol.Leading.{has_queue, is_alone}
unfoldable pub use Rattle.mon_msg.specs.Protocol.Leading.{be_active, begin, begin_alone, begin_with, commit, extend}
pub use Rattle.mon_msg.specs.Protocol.Learning.{learn_changes, news, news_from}
unfoldable pub use Rattle.mon_msg.specs.Protocol.Learning.{learn}
pub use Rattle.mon_msg.specs.Protocol.Length.{fits}
pub use Rattle.mon_msg.specs.Protocol.Peon.{cancel, of_leader, promise}
unfoldable pub use Rattle.mon_msg.specs.Protocol.Peon.{hear_begin, hear_collect, hear_commit, hear_lease}
pub use Rattle.mon_msg.specs.Protocol.Phases.{is_leading, is_member, is_peon, phase_of, same_phase, votes}
pub use Rattle.mon_msg.specs.Protocol.Pings.{measure, note_table}
unfoldable pub use Rattle.mon_msg.specs.Protocol.Pings.{hear_ping, hear_ping_reply, ping}
pub use Rattle.mon_msg.specs.Protocol.Places.{after_entries, is_after, is_cookie, is_done, no_cookie, same_cookie, same_key_place, same_place}
pub use Rattle.mon_msg.specs.Protocol.Played.{Fits, IsShort, play, played}
pub use Rattle.mon_msg.specs.Protocol.Probing.{lag}
unfoldable pub use Rattle.mon_msg.specs.Protocol.Probing.{hear_probe, hear_probe_reply}
pub use Rattle.mon_msg.specs.Protocol.Proposing.{asked_of, begin_made, propose_first, refusal}
unfoldable pub use Rattle.mon_msg.specs.Protocol.Proposing.{propose, propose_next}
pub use Rattle.mon_msg.specs.Protocol.Providing.{chunk_with, given_entries, given_values, grant, is_finished, reach}
unfoldable pub use Rattle.mon_msg.specs.Protocol.Providing.{chunk, hear_get_chunk, hear_get_cookie_full, hear_get_cookie_recent}
pub use Rattle.mon_msg.specs.Protocol.Reaction.{Reaction, any_reaction, reaction, reaction_of}
pub use Rattle.mon_msg.specs.Protocol.Readings.{Readings, epoch_of, epoch_or_first, marks, number_if_there, or_zero, promise_of}
unfoldable pub use Rattle.mon_msg.specs.Protocol.Readings.{readings_of, shared_entries}
pub use Rattle.mon_msg.specs.Protocol.Reads.{changes_after, is_standing, read, shown}
unfoldable pub use Rattle.mon_msg.specs.Protocol.Reads.{since}
pub use Rattle.mon_msg.specs.Protocol.Records.{found_as, longest, most_value, pending, run_from, transaction_in}
unfoldable pub use Rattle.mon_msg.specs.Protocol.Records.{pending_of, record_at, run_of}
pub use Rattle.mon_msg.specs.Protocol.Replay.{replay, replay_any, step_in}
unfoldable pub use Rattle.mon_msg.specs.Protocol.Replay.{replay_step, step_of}
pub use Rattle.mon_msg.specs.Protocol.Sending.{answer, answer_any, answer_to, answers_to, members, message_to, others, reply_to, send, send_each}
pub use Rattle.mon_msg.specs.Protocol.Services.{fits_reply, service_first, service_last}
unfoldable pub use Rattle.mon_msg.specs.Protocol.Services.{kept_from, read_map}
pub use Rattle.mon_msg.specs.Protocol.Sets.{are_within, is_empty, only}
pub use Rattle.mon_msg.specs.Protocol.State.{State, booting, lease_of, no_clients, quorum_of, start_elector, start_leader}
pub use Rattle.mon_msg.specs.Protocol.Synchronizing.{floor_of, pending_version}
unfoldable pub use Rattle.mon_msg.specs.Protocol.Synchronizing.{full_sync, recent_sync}
pub use Rattle.mon_msg.specs.Protocol.Table.{at_rest, before_start, first_elector, running, timer_comes}
unfoldable pub use Rattle.mon_msg.specs.Protocol.Table.{react, start}
pub use Rattle.mon_msg.specs.Protocol.Timers.{armed, disarmed, due, end_of, index_of, is_armed, length_of, only_ping, unarmed}
pub use Rattle.mon_msg.specs.Protocol.Value.{made, service_of, value_if_made}
unfoldable pub use Rattle.mon_msg.specs.Protocol.Value.{value}
pub use Rattle.mon_msg.specs.Puts.{area_of, put, put_number}
pub use Rattle.mon_msg.specs.declared.clients.Asked.{Asked}
pub use Rattle.mon_msg.specs.declared.clients.Clients.{Clients}
pub use Rattle.mon_msg.specs.declared.clients.Waiting.{Waiting}
pub use Rattle.mon_msg.specs.declared.input.Input.{Input}
pub use Rattle.mon_msg.specs.declared.limits.TheConstants.{MOST_WAITING}
pub use Rattle.mon_msg.specs.declared.paxos.Found.{Found}
pub use Rattle.mon_msg.specs.declared.paxos.LeaderStage.{LeaderStage}
pub use Rattle.mon_msg.specs.declared.paxos.Leader.{Leader}
pub use Rattle.mon_msg.specs.declared.plan.Origin.{Origin}
pub use Rattle.mon_msg.specs.declared.plan.Sent.{Sent}
pub use Rattle.mon_msg.specs.declared.synchronization.Requester.{Requester}
pub use Rattle.mon_msg.specs.declared.synchronization.SyncStage.{SyncStage}
pub use Rattle.mon_msg.specs.declared.view.Me.{Me}
pub use Rattle.mon_tx.specs.Decision.{Cell, Decision, decided, decision, later, or_before}
unfoldable pub use Rattle.mon_tx.specs.Decode.{ops_in}
pub use Rattle.mon_tx.specs.Keys.{cell, is_local, number, place, same_area}
unfoldable pub use Rattle.mon_tx.specs.Keys.{shared}
pub use Rattle.mon_tx.specs.Map.{Store, apply, apply_op, place_cmp}
unfoldable pub use Rattle.mon_tx.specs.Map.{number_bytes, number_in}
pub use Rattle.mon_tx.specs.Text.{text}
pub use Rattle.mon_tx.specs.declared.key.Area.{Area}
pub use Rattle.mon_tx.specs.declared.key.Key.{Key}
pub use Rattle.mon_tx.specs.declared.op.Op.TheVariants.{Erase, ErasePrefix, EraseRange, Put}
pub use Rattle.mon_tx.specs.declared.op.Op.{Op}
pub use Rattle.mon_types.specs.Proposal.{next_number}
pub use Rattle.mon_types.specs.Ranks.{count_of, has, is_majority, no_ranks, with_rank}
pub use Rattle.mon_types.specs.declared.member.Member.{Member}
pub use Rattle.mon_types.specs.declared.names.Stop.{Stop}
pub use Rattle.mon_types.specs.declared.names.Which.{Which}
pub use Rattle.mon_wire.specs.Message.Whole.{HasText}
unfoldable pub use Rattle.mon_wire.specs.Message.Whole.{message_of}
pub use Rattle.mon_wire.specs.declared.body.Body.{Body}
pub use Rattle.mon_wire.specs.declared.message.Message.{Message}
pub use Rattle.mon_wire.specs.declared.parts.Cookie.{Cookie}
pub use Rattle.mon_wire.specs.declared.parts.Place.{Place}
pub use Rattle.mon_wire.specs.declared.parts.Told.{Told}
pub use Rattle.mon_wire.specs.declared.phase.Phase.{Phase}
pub use Rattle.mon_wire.specs.declared.phase.Timer.{Timer}
pub use Rattle.mon_wire.specs.declared.refusal.MsgRefused.{MsgRefused}
pub use Rattle.mon_wire.specs.declared.reply.Reply.{Reply}
pub use Rattle.mon_wire.specs.declared.reply.ShownMap.{ShownMap}
pub use Rattle.mon_wire.specs.declared.request.Request.{Request}
pub use Rattle.mon_wire.specs.declared.request.Service.TheVariants.{Kv, Log}
pub use Rattle.mon_wire.specs.declared.request.Service.{Service}
pub use Rattle.mon_wire.specs.declared.request.Session.{Session}
pub use Rattle.std.specs.FinMap.{empty, entries, find, get, insert, is_sorted, retain_keys, same_map}
pub use Rattle.std.specs.List.{AllByRecursion, Contains, enumerate_from, filter_map, flat_map, list_all, range_with_len}
