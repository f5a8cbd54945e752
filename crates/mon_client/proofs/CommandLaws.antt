-- What clients' commands do, by what is seen.
use Rattle.std.proofs.Common.{◌≡◌, ℕ, suc, ◌^◌, ◌<◌, ◌≤◌, Bool, true, false, not, ◌&&◌, cond, eqb, leb, get_or, remove, List, [], ◌∷◌, ◌++◌, length, Result, Ok, Err, refl, sym, ap, ◌∙◌, arith}
use Rattle.std.proofs.lemmas.Bool.{eqb-true, le-leb, lt-leb}
use Rattle.std.proofs.lemmas.List.{nil_from_length}
use Rattle.mon_bytes.specs.declared.command.Command.{Command}
use Rattle.mon_msg.specs.Protocol.Commands.{is_too_long, too_long, at_leader, hand_on, at_peon, ask, propose_due}
use Rattle.mon_msg.specs.Protocol.Course.{Course, ◌▸◌, say, clients_are}
use Rattle.mon_msg.specs.Protocol.Phases.{same_phase, is_leading, is_peon}
use Rattle.mon_msg.specs.Protocol.Proposing.{propose, propose_first, propose_next}
use Rattle.mon_msg.specs.Protocol.Readings.{Readings, epoch_of}
use Rattle.mon_msg.specs.Protocol.Reads.{is_standing}
use Rattle.mon_msg.specs.Protocol.Sending.{message_to, answer_to}
use Rattle.mon_msg.specs.Protocol.Sets.{is_empty}
use Rattle.mon_msg.specs.declared.clients.Clients.{Clients}
use Rattle.mon_msg.specs.declared.clients.Waiting.{Waiting}
use Rattle.mon_msg.specs.declared.plan.Origin.TheVariants as origin
use Rattle.mon_msg.specs.declared.plan.Origin.{Origin}
use Rattle.mon_msg.specs.declared.plan.Plan.{Plan}
use Rattle.mon_msg.specs.declared.plan.RoleStop.{RoleStop}
use Rattle.mon_msg.specs.declared.plan.Sent.TheVariants as sent
use Rattle.mon_msg.specs.declared.view.Me.{Me}
use Rattle.mon_msg.specs.declared.view.View.{View}
use Rattle.mon_types.specs.declared.names.Which.TheVariants as which
use Rattle.mon_types.specs.declared.names.Which.{Which}
use Rattle.mon_wire.specs.declared.body.Body.TheVariants as body
use Rattle.mon_wire.specs.declared.phase.Phase.TheVariants as phase
use Rattle.mon_wire.specs.declared.reply.Reply.TheVariants as reply
use Rattle.mon_wire.specs.declared.request.Session.{Session}
use Rattle.mon_plan.specs.Plans.{PlansRow}
use Rattle.mon_plan.specs.Seen.{IsMet}
use Rattle.mon_plan.proofs.Kept.{kept-clients}
use Rattle.mon_plan.proofs.Planning.{weaken, instead}
use Rattle.mon_client.specs.Rows.{IsUnderWay}

pub under_way : (me : Me) (now : ℕ) (w : Readings) (v : View) (s : Clients) (x : Course) → IsMet me now w v (λ st. st.clients) s x → IsUnderWay me now w v x
under_way me now w v s x b = record { readings = b.readings; seen = b.seen }

-- ---- what the role remembers

module _ (me : Me) (now : ℕ) (w : Readings) (v : View) (s : Clients) where
  abbrev pub Met : Course → Type 0
  Met = IsMet me now w v (λ st. st.clients) s

  pub same : (x : Course) → Met x → x ≡ clients_are s x
  same x b = sym (kept-clients s x b.role)

  -- what a call plans once these clients are remembered
  pub once : (after : Clients) (one other : Course → Result Course Which) (r : Result (Plan Clients) RoleStop) → ((x : Course) → Met x → other x ≡ one (clients_are after x))
      → PlansRow me now clients_are (IsUnderWay me now w v) (λ x. one (clients_are after x)) r → PlansRow me now clients_are Met other r
  once after one other r f h =
      instead me now clients_are Met (λ x. x) (λ x. one (clients_are after x)) other r f
      (weaken me now clients_are (IsUnderWay me now w v) Met (λ x. x) (λ x. one (clients_are after x)) r (λ x b. under_way me now w v s x b) h)

  -- what a call plans once the clients s are put in, it also plans for an event whose clients are s already
  pub in_place : (one other : Course → Result Course Which) (r : Result (Plan Clients) RoleStop) → ((x : Course) → Met x → other x ≡ one x)
      → PlansRow me now clients_are (IsUnderWay me now w v) (λ x. one (clients_are s x)) r → PlansRow me now clients_are Met other r
  in_place one other r f h = once s one other r (λ x b. f x b ∙ ap one (same x b)) h

abbrev pub seems_free : View → Bool
seems_free v = same_phase v.phase phase.Active && v.standing

-- whether a command is proposed at once

pub goes_first : (free : Bool) (q : List Waiting) → free ≡ true → eqb (length q) 0 ≡ true → (free && not (not (is_empty q))) ≡ true
goes_first free q h e = let none : q ≡ [] = nil_from_length q (eqb-true (length q) 0 e) in λ i. h i && not (not (is_empty (none i)))

pub goes_later : (free : Bool) (q : List Waiting) → eqb (length q) 0 ≡ false → (free && not (not (is_empty q))) ≡ false
goes_later true [] e = let no : true ≡ false = e in absurd cc
goes_later true (w ∷ ws) e = refl
goes_later false q e = refl

module _ (me : Me) (now : ℕ) (w : Readings) (v : View) (x : Course) (b : IsUnderWay me now w v x) where
  free_is : (same_phase x.state.phase phase.Active && is_standing me now x.state) ≡ seems_free v
  free_is = λ i. same_phase (sym b.seen.phase i) phase.Active && sym b.seen.standing i

  -- ---- at a leader

  module _ (c : Command) (o : Origin) (s : Clients) where
    pub leader-long : is_too_long c ≡ true → at_leader me now c o (clients_are s x) ≡ Ok (x ▸ clients_are s ▸ say (answer_to me (epoch_of w) o (too_long c) ∷ []))
    leader-long t = rw t (λ i. Ok (x ▸ clients_are s ▸ say (answer_to me (epoch_of (b.readings i)) o (too_long c) ∷ [])))

    pub leader-first : is_too_long c ≡ false → (seems_free v && not (not (is_empty s.queue))) ≡ true → at_leader me now c o (clients_are s x) ≡ propose me now c o (clients_are s x)
    leader-first t h =
        let g = (λ i. free_is i && not (not (is_empty s.queue))) ∙ h in
        rw (t, g) refl

    pub leader-full : is_too_long c ≡ false → (seems_free v && not (not (is_empty s.queue))) ≡ false → leb 64 (length s.queue) ≡ true
        → at_leader me now c o (clients_are s x) ≡ Ok (x ▸ clients_are s ▸ say (answer_to me (epoch_of w) o (reply.Busy 64) ∷ []))
    leader-full t h full =
        let g = (λ i. free_is i && not (not (is_empty s.queue))) ∙ h in
        rw (t, g, full) (λ i. Ok (x ▸ clients_are s ▸ say (answer_to me (epoch_of (b.readings i)) o (reply.Busy 64) ∷ [])))

    pub leader-waits : is_too_long c ≡ false → (seems_free v && not (not (is_empty s.queue))) ≡ false → leb 64 (length s.queue) ≡ false
        → (after : Clients) → after ≡ record s { queue = s.queue ++ record { command = c; origin = o } ∷ [] }
        → at_leader me now c o (clients_are s x) ≡ Ok (clients_are after x)
    leader-waits t h free after e =
        let g = (λ i. free_is i && not (not (is_empty s.queue))) ∙ h in
        rw (t, g, free) (λ i. Ok (clients_are (sym e i) x))

  -- ---- at a peon

  module _ (c : Command) (session : Session) (s : Clients) where
    pub peon-long : is_too_long c ≡ true → at_peon me c session (clients_are s x) ≡ Ok (x ▸ clients_are s ▸ say (sent.Reply session (too_long c) ∷ []))
    peon-long t = rw t refl

    pub peon-full : is_too_long c ≡ false → leb 64 (length s.sessions) ≡ true → at_peon me c session (clients_are s x) ≡ Ok (x ▸ clients_are s ▸ say (sent.Reply session (reply.Busy 64) ∷ []))
    peon-full t full = rw (t, full) refl

    pub peon-hands_on : is_too_long c ≡ false → leb 64 (length s.sessions) ≡ false → at_peon me c session (clients_are s x) ≡ hand_on me c session (clients_are s x)
    peon-hands_on t free = rw (t, free) refl

    pub spent : 2 ^ 62 < s.next_seq → hand_on me c session (clients_are s x) ≡ Err which.Seq
    spent h = let t = lt-leb s.next_seq (2 ^ 62) h in rw t refl

    leads : is_peon v.phase ≡ true → x.state.peon.leader ≡ v.leader
    leads h =
        let t = ap is_peon (sym b.seen.phase) ∙ h in
        sym (b.seen.leader ∙ ap (λ k. cond k x.state.peon.leader me.member.rank) t)

    pub hands_on : is_peon v.phase ≡ true → s.next_seq ≤ 2 ^ 62
        → (after : Clients) → after ≡ record s { sessions = s.sessions ++ record { seq = s.next_seq; session = session } ∷ []; next_seq = suc s.next_seq }
        → hand_on me c session (clients_are s x) ≡ Ok (x ▸ clients_are after ▸ say (message_to me (epoch_of w) (body.Forward s.next_seq c) v.leader ∷ []))
    hands_on h le after e =
        let t = le-leb s.next_seq (2 ^ 62) le in
        rw t (λ i. Ok (x ▸ clients_are (sym e i) ▸ say (message_to me (epoch_of (b.readings i)) (body.Forward s.next_seq c) (leads h i) ∷ [])))

  -- ---- anywhere

  module _ (c : Command) (session : Session) where
    pub ask-leads : is_leading v.phase ≡ true → ask me now session c x ≡ at_leader me now c (origin.Session session) x
    unfolding ask
    ask-leads h = let t = ap is_leading (sym b.seen.phase) ∙ h in rw t refl

    pub ask-follows : is_leading v.phase ≡ false → is_peon v.phase ≡ true → ask me now session c x ≡ at_peon me c session x
    unfolding ask
    ask-follows h g =
        let t = ap is_leading (sym b.seen.phase) ∙ h in
        let u = ap is_peon (sym b.seen.phase) ∙ g in
        rw (t, u) refl

    pub ask-nobody : is_leading v.phase ≡ false → is_peon v.phase ≡ false → ask me now session c x ≡ Ok (say (sent.Reply session reply.Unavailable ∷ []) x)
    unfolding ask
    ask-nobody h g =
        let t = ap is_leading (sym b.seen.phase) ∙ h in
        let u = ap is_peon (sym b.seen.phase) ∙ g in
        rw (t, u) refl

  pub due-not_free : seems_free v ≡ false → propose_due me now x ≡ Ok x
  unfolding propose_due
  due-not_free h = let t = free_is ∙ h in rw t refl

  pub due-free : seems_free v ≡ true → propose_due me now x ≡ propose_next me now x
  unfolding propose_due
  due-free h = let t = free_is ∙ h in rw t refl

-- ---- the first command that waits

module _ (me : Me) (now : ℕ) (x : Course) where
  pub next-none : x.state.clients.queue ≡ [] → propose_next me now x ≡ Ok x
  unfolding propose_next
  next-none h = ap (λ (q : List Waiting). propose_first me now q x) h

  pub next-first : (first : Waiting) (rest : Clients) → x.state.clients ≡ record rest { queue = first ∷ rest.queue }
      → propose_next me now x ≡ propose me now first.command first.origin (clients_are rest x)
  unfolding propose_next
  next-first first rest h = ap (λ (s : Clients). propose_first me now s.queue (clients_are s x)) h

pub first_rest : (queue : List Waiting) (first : Waiting) (rest : List Waiting) → 0 < length queue → first ≡ get_or queue 0 first → rest ≡ remove queue 0 → queue ≡ first ∷ rest
first_rest [] first rest some at left = absurd (omega arith)
first_rest (w ∷ ws) first rest some at left = λ i. sym at i ∷ sym left i
