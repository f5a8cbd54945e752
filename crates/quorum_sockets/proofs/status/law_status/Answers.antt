use Rattle.law_names.proofs.Table.{Member, epoch_of, readings_of}
use Rattle.mon_watch.specs.Histories.{WatchState, WatchedDoes, watching}
use Rattle.mon_watch.specs.Seen.{nothing_seen}
use Rattle.mon_watch.specs.declared.notes.Notes.{Notes}
use Rattle.mon_watch.specs.declared.seen.Seen.{Seen}
use Rattle.quorum_network.proofs.Names.{own, sent}
use Rattle.quorum_sockets.proofs.Known.{seen_alike, shows_process}
use Rattle.quorum_sockets.proofs.Watches.{seen_same, watches}
use Rattle.quorum_sockets.proofs.status.law_status.Goals as goal
use Rattle.quorum_sockets.specs.Status.{Watches}
use Rattle.stack_laws.proofs.Going.{watch_stays}
use Rattle.stack_laws.proofs.Passing.{stays}
use Rattle.std.proofs.Common.{ap, subst, sym, ◌∙◌}
use Rattle.watch_laws.proofs.Datagrams.{ShowsSame, all, is_so, same_of}
use Rattle.watch_laws.specs.Watching.{IsSo}

pub returns : goal.returns
returns g c =
    let l = c.args.link.now in
    let last = watching l.watch.member l.notes in record {
      answers = λ h history.
          let member = sym (stays WatchedDoes (λ (w : WatchState). w.member) watch_stays h history.0 history.2 last history.4) in (
            history.0,
            history.1,
            subst (λ (n : Notes). Watches l.watch.member (sent h) n history.0 l.notes) history.3 (watches l.watch.member last h history.0 history.2 member history.4),
          );
      processes = λ ms several steps may i s h K rank history.
          let first = ap (λ (k : Member). k.rank) (sym (stays WatchedDoes (λ (w : WatchState). w.member) watch_stays h history.0 history.2 last history.4)) ∙ rank in
          let begun = subst (λ (n : Notes). ShowsSame n.seen nothing_seen) (sym history.3) (same_of nothing_seen) in
          let shown = seen_same i h history.0 history.2 last first history.4 nothing_seen begun in
          let alike = seen_alike i K.me K.number K.store_view K.clock K.link K.first K.earlier (own i steps) K.given K.life_is (sent h) K.sends nothing_seen in
          is_so i l.notes.seen (all i (sent h) nothing_seen) (epoch_of (readings_of s.node.store.kv)) s.node.state shown
          (subst (λ (z : Seen). IsSo i z (epoch_of (readings_of s.node.store.kv)) s.node.state) (sym alike) (shows_process ms several i K.me K.known steps may s K.up));
    }
