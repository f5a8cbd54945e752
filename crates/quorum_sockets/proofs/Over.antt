-- What a link over a socket gives was sent by another process, so the steps may be made.
use Rattle.law_names.proofs.Runs.{Monitors}
use Rattle.law_names.proofs.Table.{Contains, Stop, Timer, due}
use Rattle.mon_hello.specs.Formats.{a_hello, mark_of}
use Rattle.mon_hello.specs.Greets.{outgoing}
use Rattle.mon_hello.specs.declared.hello.Hello.{Hello}
use Rattle.mon_link.specs.Histories.{received}
use Rattle.mon_name.proofs.Frames.{comes_off}
use Rattle.mon_name.specs.Frames.{framed, unframed}
use Rattle.mon_name.specs.Naming.{wired}
use Rattle.mon_resend.specs.Copied.{IsOneOf}
use Rattle.quorum_network.proofs.Names.{AllMay, Begins, Client, Closed, Datagram, Doing, Down, Got, Idle, IsAnswer, IsAsked, Iterates, May, Monitor, Network, Outgoing, Peer, Process, Step, Up, due_by, network, posted, renumbered, under}
use Rattle.quorum_network.proofs.Wire.{unmarked}
use Rattle.quorum_sockets.specs.Sockets.{AllMayOver, AreSockets, IsAskedOver, IsFromSocket, Life, MayOver, to_monitor}
use Rattle.stack_laws.specs.Stack.{IsMade, on_wire}
use Rattle.std.proofs.Common.{Bool, Err, List, None, Ok, Option, Result, Some, [], ap, arith, false, inl, inr, subst, sym, true, ℕ, ◌<◌, ◌^◌, ◌∙◌, ◌∷◌, ◌≡◌}

-- a hello isn't framed
unframed_hello : (tag : ℕ) (h : Hello) → unframed tag (a_hello.text h) ≡ None
unframed_hello tag h = unmarked tag (mark_of h.answers) _ (by h.answers)
  where
    by : (answers : Bool) → mark_of answers ≡ 3 → ⊥
    by true e = absurd (omega (arith, e))
    by false e = absurd (omega (arith, e))

module _ (tag : ℕ) (lt : tag < 2 ^ 64) where
  -- what comes out of a frame is what was put into it
  inside : (x y : List ℕ) (frame : List ℕ) → unframed tag frame ≡ Some x → frame ≡ framed tag y → x ≡ y
  inside x y frame out in_it = let both : Some x ≡ Some y = sym out ∙ ap (unframed tag) in_it ∙ comes_off tag y lt in cc

  no_frame : (x : List ℕ) (frame : List ℕ) → unframed tag frame ≡ Some x → unframed tag frame ≡ None → ⊥
  no_frame x frame out none = let bad : Some x ≡ None = sym out ∙ none in absurd cc

  no_client : (i c : ℕ) (bytes these : List ℕ) → to_monitor i bytes ≡ outgoing (Client c) these → ⊥
  no_client i c bytes these e = let bad : Monitor i ≡ Client c = ap (λ (d : Outgoing). d.to) e in absurd cc

  -- a datagram to a monitor on the wire is the one that was sent above, in a frame
  wired_so : (i life : ℕ) (x frame : List ℕ) (d : Outgoing) → unframed tag frame ≡ Some x → to_monitor i frame ≡ on_wire tag life d → to_monitor i x ≡ under life d
  wired_so i life x frame d out is =
      let to : Monitor i ≡ d.to = ap (λ (z : Outgoing). z.to) is in
      let framed_so : frame ≡ wired tag life (Monitor i) d.bytes = ap (λ (z : Outgoing). z.bytes) is ∙ ap (λ (p : Peer). wired tag life p d.bytes) (sym to) in
      let bytes : x ≡ renumbered life d.bytes = inside x (renumbered life d.bytes) frame out framed_so in
      λ k. record { to = to k; bytes = bytes k }

  module _ (net : Network) (lives : ℕ → List Life) (S : AreSockets tag net lives) (i : ℕ) where
    -- a datagram in a frame that went out of a socket to monitor i is one that the network has
    went : (j : ℕ) (l : Life) (x frame : List ℕ) → unframed tag frame ≡ Some x → Contains (lives j) l → IsMade l.own.member l.own tag l.number l.above l.socket (to_monitor i frame)
        → Contains net.sent (posted j (to_monitor i x))
    went j l x frame out there (inl made) =
        subst (λ (d : Outgoing). Contains net.sent (posted j d)) (sym (wired_so i l.number x frame made.0 out made.2)) (S.posts j l made.0 there made.1)
    went j l x frame out there (inr (inl status)) = absurd (no_client i status.client frame _ status.is)
    went j l x frame out there (inr (inr (inl hello))) =
        let is : frame ≡ a_hello.text l.own.hello = ap (λ (z : Outgoing). z.bytes) hello.is ∙ (S.stacks j l there).1 in
        absurd (no_frame x frame out (ap (unframed tag) is ∙ unframed_hello tag l.own.hello))
    went j l x frame out there (inr (inr (inr back))) = absurd (no_client i back.client frame _ back.is)

    from : (j : ℕ) (x frame : List ℕ) → unframed tag frame ≡ Some x → IsFromSocket tag lives i (Datagram (Monitor j) frame) → Contains net.sent (posted j (to_monitor i x))
    from j x frame out (inl it) = went j it.0 x frame out it.1 ((S.stacks j it.0 it.1).0.goes (to_monitor i frame) it.2)
    from j x frame out (inr other) = absurd (no_frame x frame out other)

    pub is_answer : (l : Life) → Contains (lives i) l → (answer : Result Got Stop) → IsOneOf (received l.above) answer → IsAnswer net i answer
    is_answer l there (Ok (Datagram (Monitor j) x)) given =
        let c = (S.stacks i l there).0.comes (Datagram (Monitor j) x) given in
        from j x c.0 c.1 (S.came i l (Datagram (Monitor j) c.0) there c.2)
    is_answer l there (Ok (Datagram (Client k) x)) given =
        S.came i l (Datagram (Client k) x) there ((S.stacks i l there).0.comes (Datagram (Client k) x) given)
    is_answer l there (Ok Idle) given = tt
    is_answer l there (Ok Closed) given = tt
    is_answer l there (Err e) given = tt

  may : (net : Network) (i : ℕ) (p : Process) (doing : Doing) → MayOver tag net i p doing → May net i p doing
  may net i p (Begins number store_view clock link first) h = h
  may net i (Down m) (Iterates g) h = tt
  may net i (Up s) (Iterates g) h = by (due_by g.began (due s.node.state.timers)) h
    where
      by : (t : Option Timer) → IsAskedOver tag net i t g.answer → IsAsked net i t g.answer
      by (Some t) h = tt
      by None h = is_answer net h.0 h.1 i h.2 h.3 g.answer h.4

  pub all_may : (ms : Monitors) (steps : List Step) → AllMayOver tag ms steps → AllMay ms steps
  unfolding AllMayOver AllMay
  all_may ms [] h = tt
  all_may ms (s ∷ earlier) h = (all_may ms earlier h.0, may (network ms earlier) s.rank ((network ms earlier).process s.rank) s.doing h.1)
