-- What a watch noted is what the datagrams below make of it, and its answers show that.
use Rattle.law_names.proofs.Table.{Member, Stop}
use Rattle.mon_link.specs.Histories.Happened.{Received, WasSent}
use Rattle.mon_link.specs.Layers.{Steps}
use Rattle.mon_watch.specs.Answering.{admitted, answer, asker, passed}
use Rattle.mon_watch.specs.Histories.{AnswerIsSent, IsAskedAfter, WatchState, WatchedDoes}
use Rattle.mon_watch.specs.Traffic.{notes_got, notes_sent}
use Rattle.mon_watch.specs.declared.notes.Notes.{Notes}
use Rattle.mon_watch.specs.declared.request.Asker.{Asker}
use Rattle.mon_watch.specs.declared.seen.Seen.{Seen}
use Rattle.mon_watch.specs.declared.times.DiskTimes.{DiskTimes}
use Rattle.quorum_network.proofs.Names.{Client, Got, Happened, sent}
use Rattle.quorum_sockets.specs.Status.{ShowsNotes, Watches}
use Rattle.stack_laws.proofs.Going.{watch_stays}
use Rattle.std.proofs.Common.{Err, List, None, Ok, Option, Result, Some, [], ap, inl, inr, refl, subst, sym, ℕ, ◌++◌, ◌∙◌, ◌∷◌, ◌≡◌}
use Rattle.watch_laws.proofs.Datagrams.{ShowsSame, all, comes_same, goes_same, one}
use Rattle.watch_laws.specs.Datagrams.{to_peer}

-- a status answer leaves the notes as they are
answer_unnoted : (own client : ℕ) (m : Member) (shown n : Notes) (id : ℕ) (a b : DiskTimes) (unkept : ℕ) → notes_sent own (Client client) (answer m shown id a b unkept) n ≡ n
unfolding answer
answer_unnoted own client m shown n id a b unkept = refl

module _ (m : Member) (last : WatchState) where
  abbrev Goes : (above : List Happened) → WatchState → (below : List Happened) → Type 0
  Goes above s below = Watches m (sent above) s.notes below last.notes

  answered : (who : Option Asker) (went : Result (Unit {0}) Stop) (above calls rest : List Happened) (t : WatchState) → t.member ≡ m → AnswerIsSent who t went calls → Goes above t rest
      → Goes above t (calls ++ rest)
  answered None went above calls rest t e none h = subst (λ (c : List Happened). Goes above t (c ++ rest)) (sym none.1) h
  answered (Some who) went above calls rest t e (inl it) h =
      let bytes : List ℕ = answer t.member t.notes who.id it.0 it.1 it.2 in
      let shows : ShowsNotes m t.notes (to_peer (Client who.client) bytes) = record {
        client = who.client;
        id = who.id;
        a = it.0;
        b = it.1;
        unkept = it.2;
        is = ap (λ (k : Member). to_peer (Client who.client) (answer k t.notes who.id it.0 it.1 it.2)) e;
      } in
      subst (λ (c : List Happened). Goes above t (c ++ rest)) (sym it.3.1)
      (inr (shows, subst (λ (n : Notes). Watches m (sent above) n rest last.notes) (sym (answer_unnoted m.rank who.client t.member t.notes t.notes who.id it.0 it.1 it.2)) h))
  answered (Some who) went above calls rest t e (inr none) h = subst (λ (c : List Happened). Goes above t (c ++ rest)) (sym none.1) h

  one_call : (x : Happened) (above calls rest : List Happened) (s t : WatchState) → s.member ≡ m → WatchedDoes s x calls t → Goes above t rest → Goes (x ∷ above) s (calls ++ rest)
  one_call (WasSent to bytes result) above calls rest s t e p h =
      let noted : t.notes ≡ notes_sent m.rank to bytes s.notes = ap (λ (w : WatchState). w.notes) p.1 ∙ ap (λ (k : Member). notes_sent k.rank to bytes s.notes) e in
      subst (λ (c : List Happened). Watches m (to_peer to bytes ∷ sent above) s.notes (c ++ rest) last.notes) (sym p.0)
      (inl (sent above, refl, subst (λ (n : Notes). Watches m (sent above) n rest last.notes) noted h))
  one_call (Received wait result) above calls rest s t e p h = by p.gave p.are p.after
    where
      by : (gave : Result Got Stop) → calls ≡ Received wait gave ∷ p.rest → IsAskedAfter gave result s t p.rest → Goes above s (calls ++ rest)
      by (Err f) are after =
          subst (λ (c : List Happened). Goes above s (c ++ rest)) (sym (are ∙ ap (λ (r : List Happened). Received wait (Err f) ∷ r) after.2)) (subst (λ (w : WatchState). Goes above w rest) after.1 h)
      by (Ok got) are after =
          let noted : t.notes ≡ notes_got after.now (passed got) s.notes = ap (λ (w : WatchState). w.notes) after.notes in
          let member : t.member ≡ m = ap (λ (w : WatchState). w.member) after.notes ∙ e in
          subst (λ (c : List Happened). Goes above s (c ++ rest)) (sym are)
          (after.now, subst (λ (n : Notes). Watches m (sent above) n (p.rest ++ rest) last.notes) noted (answered (admitted after.now after.untils (asker got)) after.went above p.rest rest t member after.sent h))

  pub watches : (above below : List Happened) (first : WatchState) → first.member ≡ m → Steps WatchedDoes first above below last → Goes above first below
  watches [] below first e p = subst (λ (b : List Happened). Watches m [] first.notes b last.notes) (sym p.0) (refl, ap (λ (w : WatchState). w.notes) p.1)
  watches (x ∷ above) below first e p =
      subst (λ (b : List Happened). Goes (x ∷ above) first b) (sym p.3)
      (one_call x above p.0 p.1 first p.2 e p.4 (watches above p.1 p.2 (watch_stays first p.2 x p.0 p.4 ∙ e) p.5))

-- ---- what is seen

asked_same : (wait : ℕ) (result : Result Got Stop) (calls : List Happened) (s t : WatchState) (z : Seen) → WatchedDoes s (Received wait result) calls t → ShowsSame s.notes.seen z → ShowsSame t.notes.seen z
asked_same wait result calls s t z p same = by p.gave p.after
  where
    by : (gave : Result Got Stop) → IsAskedAfter gave result s t p.rest → ShowsSame t.notes.seen z
    by (Err f) after = subst (λ (w : WatchState). ShowsSame w.notes.seen z) (sym after.1) same
    by (Ok got) after = subst (λ (w : WatchState). ShowsSame w.notes.seen z) (sym after.notes) (comes_same after.now (passed got) s.notes z same)

-- what the watch shows of its monitor is what the datagrams show that it was given to send
pub seen_same : (own : ℕ) (above below : List Happened) (first last : WatchState) → first.member.rank ≡ own → Steps WatchedDoes first above below last → (z : Seen) → ShowsSame first.notes.seen z
    → ShowsSame last.notes.seen (all own (sent above) z)
seen_same own [] below first last rank p z same = subst (λ (w : WatchState). ShowsSame w.notes.seen z) (sym p.1) same
seen_same own (Received wait result ∷ above) below first last rank p z same =
    seen_same own above p.1 p.2 last (ap (λ (k : Member). k.rank) (watch_stays first p.2 (Received wait result) p.0 p.4) ∙ rank) p.5 z (asked_same wait result p.0 first p.2 z p.4 same)
seen_same own (WasSent to bytes result ∷ above) below first last rank p z same =
    let noted : p.2.notes ≡ notes_sent own to bytes first.notes = ap (λ (w : WatchState). w.notes) p.4.1 ∙ ap (λ (k : ℕ). notes_sent k to bytes first.notes) rank in
    seen_same own above p.1 p.2 last (ap (λ (k : Member). k.rank) (watch_stays first p.2 (WasSent to bytes result) p.0 p.4) ∙ rank) p.5 (one own to bytes z)
    (subst (λ (n : Notes). ShowsSame n.seen (one own to bytes z)) (sym noted) (goes_same own to bytes first.notes z same))
