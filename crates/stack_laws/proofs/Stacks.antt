-- The links of a monitor together.
use Rattle.std.proofs.Common.{◌≡◌, List, ◌++◌, refl, sym, ap, subst, ◌∙◌, inl, inr}
use Rattle.mon_link.specs.Histories.{Happened, received, sent}
use Rattle.mon_link.specs.Layers.{Steps}
use Rattle.mon_link.specs.declared.link.Got.{Got}
use Rattle.mon_link.specs.declared.link.Got.TheVariants.{Datagram, Idle, Closed}
use Rattle.mon_link.specs.declared.link.Outgoing.{Outgoing}
use Rattle.mon_link.specs.declared.link.Peer.TheVariants.{Monitor, Client}
use Rattle.mon_hello.specs.Histories as greeting
use Rattle.mon_hello.specs.declared.own.Own.{Own}
use Rattle.mon_name.specs.Awake.{Gaps}
use Rattle.mon_name.specs.Histories as naming
use Rattle.mon_resend.specs.Copied.{IsDatagram, IsOneOf}
use Rattle.mon_resend.specs.Histories as resending
use Rattle.mon_resend.specs.Sending.{outs}
use Rattle.mon_resend.specs.World.{fresh}
use Rattle.mon_resend.specs.declared.copies.Copies.{Copies}
use Rattle.mon_watch.specs.Histories as watching
use Rattle.stack_laws.specs.Stack.{Came, IsCome, IsMade, IsPart, IsStatus, Stack, datagrams, on_wire, opened}
use Rattle.stack_laws.proofs.Passing.{comes_through, goes_through, stays}
use Rattle.stack_laws.proofs.Order.{as_they_are, come_part, in_order, opened_part, part_of_part, passed_part, without_frames}
use Rattle.stack_laws.proofs.Coming.{IsPassed, awake_passes, copies_pass, frames_left, frames_right, greeting_passes, named_passes, names_stay, passed_left, passed_right, watch_passes}
use Rattle.stack_laws.proofs.Going.{IsWatchAnswer, IsWatched, IsWired, above_here, above_later, awake_sends, frames_send, resent, watch_sends, watch_stays, watched_here, watched_later}
use Rattle.stack_laws.proofs.Hellos.{IsGreeting, greeting_here, greeting_later, greeting_sends, greeting_stays}

-- ---- what comes

through_watch : (h b : List Happened) (first last : watching.WatchState) → Steps watching.WatchedDoes first h b last → (got : Got) → Came h got → IsPassed b got
through_watch h b first last p got c =
    comes_through watching.WatchedDoes (λ s. tt {0}) (tt {0}) IsPassed passed_left passed_right (λ s t x calls q. refl) (λ s t e. watch_passes s t) h b first last refl p got c

through_copies : (h b : List Happened) (first last : Copies) → Steps resending.ResendingDoes first h b last → (got : Got) → Came h got → IsPassed b got
through_copies h b first last p got c =
    comes_through resending.ResendingDoes (λ s. tt {0}) (tt {0}) IsPassed passed_left passed_right (λ s t x calls q. refl) (λ s t e. copies_pass s t) h b first last refl p got c

through_awake : (h b : List Happened) (first last : Gaps) → Steps naming.AwakeDoes first h b last → (got : Got) → Came h got → IsPassed b got
through_awake h b first last p got c =
    comes_through naming.AwakeDoes (λ s. tt {0}) (tt {0}) IsPassed passed_left passed_right (λ s t x calls q. refl) (λ s t e. awake_passes s t) h b first last refl p got c

through_frames : (h b : List Happened) (first last : naming.Names) → Steps naming.NamedDoes first h b last → (got : Got) → Came h got → IsCome last.tag b got
through_frames h b first last p got c =
    comes_through naming.NamedDoes (λ n. n) last (IsCome last.tag) (frames_left last.tag) (frames_right last.tag) names_stay (named_passes last) h b first last
    (sym (stays naming.NamedDoes (λ n. n) names_stay h b first last p)) p got c

through_greeting : (h b : List Happened) (first last : Own) → Steps greeting.GreetingDoes first h b last → (got : Got) → Came h got → IsPassed b got
through_greeting h b first last p got c =
    comes_through greeting.GreetingDoes (λ s. tt {0}) (tt {0}) IsPassed passed_left passed_right (λ s t x calls q. refl) (λ s t e. greeting_passes s t) h b first last refl p got c

-- ---- in which order it comes

order_of_watch : (h b : List Happened) (first last : watching.WatchState) → Steps watching.WatchedDoes first h b last → IsPart (datagrams (received h)) (datagrams (received b))
order_of_watch h b first last p =
    in_order watching.WatchedDoes (λ s. tt {0}) (tt {0}) (λ calls. datagrams (received calls)) as_they_are (λ s t x calls q. refl) (λ s t e wait got calls q. passed_part calls got (watch_passes s t wait got calls q)) h b first last refl p

order_of_copies : (h b : List Happened) (first last : Copies) → Steps resending.ResendingDoes first h b last → IsPart (datagrams (received h)) (datagrams (received b))
order_of_copies h b first last p =
    in_order resending.ResendingDoes (λ s. tt {0}) (tt {0}) (λ calls. datagrams (received calls)) as_they_are (λ s t x calls q. refl) (λ s t e wait got calls q. passed_part calls got (copies_pass s t wait got calls q)) h b first last refl p

order_of_awake : (h b : List Happened) (first last : Gaps) → Steps naming.AwakeDoes first h b last → IsPart (datagrams (received h)) (datagrams (received b))
order_of_awake h b first last p =
    in_order naming.AwakeDoes (λ s. tt {0}) (tt {0}) (λ calls. datagrams (received calls)) as_they_are (λ s t x calls q. refl) (λ s t e wait got calls q. passed_part calls got (awake_passes s t wait got calls q)) h b first last refl p

order_of_frames : (h b : List Happened) (first last : naming.Names) → Steps naming.NamedDoes first h b last → IsPart (datagrams (received h)) (opened last.tag (datagrams (received b)))
order_of_frames h b first last p =
    in_order naming.NamedDoes (λ n. n) last (λ calls. opened last.tag (datagrams (received calls))) (without_frames last.tag) names_stay (λ s t e wait got calls q. come_part last.tag calls got (named_passes last s t e wait got calls q)) h b first last
    (sym (stays naming.NamedDoes (λ n. n) names_stay h b first last p)) p

order_of_greeting : (h b : List Happened) (first last : Own) → Steps greeting.GreetingDoes first h b last → IsPart (datagrams (received h)) (datagrams (received b))
order_of_greeting h b first last p =
    in_order greeting.GreetingDoes (λ s. tt {0}) (tt {0}) (λ calls. datagrams (received calls)) as_they_are (λ s t x calls q. refl) (λ s t e wait got calls q. passed_part calls got (greeting_passes s t wait got calls q)) h b first last refl p

-- ---- what goes

from_watch : (h b : List Happened) (first last : watching.WatchState) → Steps watching.WatchedDoes first h b last → (d : Outgoing) → IsOneOf (sent b) d → IsWatched last.member h b d
from_watch h b first last p =
    goes_through watching.WatchedDoes (λ s. s.member) last.member (IsWatched last.member) (watched_here last.member) (watched_later last.member) watch_stays (watch_sends last.member) h b first last
    (sym (stays watching.WatchedDoes (λ s. s.member) watch_stays h b first last p)) p

from_awake : (h b : List Happened) (first last : Gaps) → Steps naming.AwakeDoes first h b last → (d : Outgoing) → IsOneOf (sent b) d → IsOneOf (sent h) d
from_awake h b first last p =
    goes_through naming.AwakeDoes (λ s. tt {0}) (tt {0}) (λ above below d. IsOneOf (sent above) d) (λ x above xs ys d m. above_here x above d m) (λ x above xs ys d m. above_later x above d m)
    (λ s t x calls q. refl) (λ s t x calls e q. awake_sends s t x calls q) h b first last refl p

from_frames : (h b : List Happened) (first last : naming.Names) → Steps naming.NamedDoes first h b last → (d : Outgoing) → IsOneOf (sent b) d → IsWired last.tag last.life h d
from_frames h b first last p =
    goes_through naming.NamedDoes (λ n. n) last (λ above below d. IsWired last.tag last.life above d) (λ x above xs ys d m. (m.0, above_here x above m.0 m.1, m.2)) (λ x above xs ys d m. (m.0, above_later x above m.0 m.1, m.2))
    names_stay (frames_send last) h b first last (sym (stays naming.NamedDoes (λ n. n) names_stay h b first last p)) p

from_greeting : (h b : List Happened) (first last : Own) → Steps greeting.GreetingDoes first h b last → (d : Outgoing) → IsOneOf (sent b) d → IsGreeting last h b d
from_greeting h b first last p =
    goes_through greeting.GreetingDoes (λ s. s) last (IsGreeting last) (greeting_here last) (greeting_later last) greeting_stays (greeting_sends last) h b first last
    (sym (stays greeting.GreetingDoes (λ s. s) greeting_stays h b first last p)) p

-- ---- all five

module _ (w0 w : watching.WatchState) (c0 c : Copies) (a0 a : Gaps) (n0 n : naming.Names) (own0 own : Own) (h b1 b2 b3 b4 below : List Happened) (new : c0 ≡ fresh)
    (watched : Steps watching.WatchedDoes w0 h b1 w) (copied : Steps resending.ResendingDoes c0 b1 b2 c) (awake : Steps naming.AwakeDoes a0 b2 b3 a)
    (named : Steps naming.NamedDoes n0 b3 b4 n) (greeted : Steps greeting.GreetingDoes own0 b4 below own) where
  -- a frame that came above the hellos came at the bottom
  down : (got : Got) → IsCome n.tag b4 got → IsCome n.tag below got
  down (Datagram (Monitor j) x) c = (c.0, c.1, through_greeting b4 below own0 own greeted (Datagram (Monitor j) c.0) c.2 tt)
  down (Datagram (Client k) x) came = through_greeting b4 below own0 own greeted (Datagram (Client k) x) came tt
  down Idle came = tt
  down Closed came = tt

  from_copies : (got : Got) → Came b1 got → IsDatagram got → IsCome n.tag below got
  from_copies got came d =
      down got (through_frames b3 b4 n0 n named got (through_awake b2 b3 a0 a awake got (through_copies b1 b2 c0 c copied got came d) d))

  comes_at : (got : Got) → (IsDatagram got → Came b1 got) → IsCome n.tag below got
  comes_at (Datagram from bytes) came = from_copies (Datagram from bytes) (came tt) tt
  comes_at Idle came = tt
  comes_at Closed came = tt

  unsent_fresh : (d : Outgoing) → IsOneOf (outs c0 ++ sent b1) d → IsOneOf (sent b1) d
  unsent_fresh d m = subst (λ (k : Copies). IsOneOf (outs k ++ sent b1) d) new m

  status : (x d : Outgoing) → IsWatchAnswer w.member b1 x → d ≡ on_wire n.tag n.life x → IsStatus w.member n.life below d
  status x d s e = record {
    client = s.client;
    request = s.request;
    id = s.id;
    notes = s.notes;
    a = s.a;
    b = s.b;
    unkept = s.unkept;
    came = from_copies (Datagram (Client s.client) s.request) s.came tt;
    asks = s.asks;
    is = e ∙ ap (λ (y : Outgoing). on_wire n.tag n.life y) s.is;
  }

  made : (x d : Outgoing) → IsWatched w.member h b1 x → d ≡ on_wire n.tag n.life x → IsMade w.member own n.tag n.life h below d
  made x d (inl m) e = inl (x, m, e)
  made x d (inr s) e = inr (inl (status x d s e))

  goes_at : (d : Outgoing) → IsGreeting own b4 below d → IsMade w.member own n.tag n.life h below d
  goes_at d (inl m) =
      let wire = from_frames b3 b4 n0 n named d m in
      made wire.0 d
      (from_watch h b1 w0 w watched wire.0
      (unsent_fresh wire.0 (resent b1 b2 c0 c copied wire.0 (from_awake b2 b3 a0 a awake wire.0 wire.1)))) wire.2
  goes_at d (inr (inl hello)) = inr (inr (inl hello))
  goes_at d (inr (inr back)) = inr (inr (inr back))

  pub stack : Stack w.member own n.tag n.life h below
  stack = record {
    comes = λ got came. comes_at got (through_watch h b1 w0 w watched got came);
    order =
        part_of_part (datagrams (received h)) (datagrams (received b1)) (opened n.tag (datagrams (received below))) (order_of_watch h b1 w0 w watched)
        (part_of_part (datagrams (received b1)) (datagrams (received b2)) (opened n.tag (datagrams (received below))) (order_of_copies b1 b2 c0 c copied)
        (part_of_part (datagrams (received b2)) (datagrams (received b3)) (opened n.tag (datagrams (received below))) (order_of_awake b2 b3 a0 a awake)
        (part_of_part (datagrams (received b3)) (opened n.tag (datagrams (received b4))) (opened n.tag (datagrams (received below))) (order_of_frames b3 b4 n0 n named)
        (opened_part n.tag (datagrams (received b4)) (datagrams (received below)) (order_of_greeting b4 below own0 own greeted)))));
    goes = λ d m. goes_at d (from_greeting b4 below own0 own greeted d m);
  }
