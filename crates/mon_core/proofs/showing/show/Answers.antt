use Rattle.std.proofs.Common.{Ok, ap, sym, ◌∙◌}
use Rattle.mon_msg.specs.Protocol.Readings.{readings_of, shared_entries}
use Rattle.mon_msg.specs.Protocol.Sending.{reply_to}
use Rattle.mon_msg.specs.Protocol.Table.{at_rest}
use Rattle.mon_wire.specs.declared.reply.Reply.{Reply}
use Rattle.mon_event.specs.State.{state_of}
use Rattle.mon_core.proofs.Acting.{rests}
use Rattle.mon_core.proofs.Shown.{shows, told_seen}
use Rattle.mon_core.proofs.showing.show.Goals as goal

pub returns-clause-row : goal.returns-clause-row
returns-clause-row c =
    let me = c.args.here.now.me.now in
    let m = c.args.here.now.kv.now in
    let w = readings_of m in
    let s = state_of c.args.event.now.state in
    let x = at_rest w s in
    let session = c.args.session in
    record {
      course = reply_to session c.in_ok-answer.answer x;
      wanted_is =
          shows me (shared_entries m) c.args.here.now.time w s session c.args.service
          ∙ ap (λ (r : Reply). Ok (reply_to session r x))
          (sym (c.in_ok-answer.ensures.reply ∙ told_seen me c.args.here.now.time w s c.view-view.result c.view-view.ensures c.args.service));
      under_way = c.in_ok-reply.ensures w x (rests me m c.args.event.now c.requires.ready);
    }
