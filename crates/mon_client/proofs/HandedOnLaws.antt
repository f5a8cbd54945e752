-- What a peon hands on and what its leader answers, by what is seen; and what clients read.
use Rattle.std.proofs.Common.{◌≡◌, ℕ, Bool, true, false, not, ◌&&◌, cond, eqb, ltb, List, [], ◌∷◌, ◌++◌, map, filter, take, length, get_or, set, ◌+◌, ◌<◌, Some, None, Ok, IsTrue, refl, sym, ap, ◌∙◌, append-nil}
use Rattle.std.specs.Bool.{◌==◌}
use Rattle.std.specs.Option.{unwrap_or}
use Rattle.std.proofs.lemmas.List.Elements.{filter_more}
use Rattle.std.proofs.lemmas.List.{map-append}
use Rattle.mon_bytes.specs.declared.command.Command.{Command}
use Rattle.mon_lease.specs.Lease.{readable}
use Rattle.mon_msg.specs.Protocol.Commands.{at_leader, hear_forward, hear_route, propose_due}
use Rattle.mon_msg.specs.Protocol.Course.{Course, say, clients_are}
use Rattle.mon_msg.specs.Protocol.Leader.{is_one_of}
use Rattle.mon_msg.specs.Protocol.Phases.{is_leading, is_peon, is_member}
use Rattle.mon_msg.specs.Protocol.Readings.{Readings, epoch_of}
use Rattle.mon_msg.specs.Protocol.Reads.{is_standing, since, read}
use Rattle.mon_msg.specs.Protocol.State.{lease_of}
use Rattle.mon_msg.specs.Protocol.Table.{timer_comes}
use Rattle.mon_msg.specs.declared.clients.Asked.{Asked}
use Rattle.mon_msg.specs.declared.clients.Clients.{Clients}
use Rattle.mon_msg.specs.declared.plan.Origin.TheVariants as origin
use Rattle.mon_msg.specs.declared.plan.Sent.TheVariants as sent
use Rattle.mon_msg.specs.declared.plan.Sent.{Sent}
use Rattle.mon_msg.specs.declared.view.Me.{Me}
use Rattle.mon_msg.specs.declared.view.View.{View}
use Rattle.mon_types.specs.Ranks.{has, no_ranks}
use Rattle.mon_wire.specs.declared.phase.Phase.TheVariants as phase
use Rattle.mon_wire.specs.declared.phase.Phase.{Phase}
use Rattle.mon_wire.specs.declared.phase.Timer.TheVariants as timer
use Rattle.mon_wire.specs.declared.phase.Timer.{Timer}
use Rattle.mon_wire.specs.declared.reply.Reply.TheVariants as reply
use Rattle.mon_wire.specs.declared.reply.Reply.{Reply}
use Rattle.mon_wire.specs.declared.request.Service.{Service}
use Rattle.mon_wire.specs.declared.request.Session.{Session}
use Rattle.mon_plan.specs.Seen.{IsMet}
use Rattle.mon_client.specs.Rows.{is_rung, unreadable, IsUnderWay}

abbrev pub leading : List Phase
leading = phase.Collecting ∷ phase.Previous ∷ phase.Active ∷ phase.Updating ∷ []

-- what is tested of a leader, and of a peon, is what is seen of it

leads_in : (p : Phase) (e : Bool) (f : ℕ) (own other : List Bool)
    → (is_one_of leading p && e && has own f) ≡ (is_leading p && e && has (cond (is_peon p) other (cond (is_leading p) own no_ranks)) f)
leads_in phase.Booting e f own other = refl
leads_in phase.Probing e f own other = refl
leads_in phase.Synchronizing e f own other = refl
leads_in phase.Electing e f own other = refl
leads_in phase.Collecting e f own other = refl
leads_in phase.Previous e f own other = refl
leads_in phase.Active e f own other = refl
leads_in phase.Updating e f own other = refl
leads_in phase.Peon e f own other = refl

follows_in : (p : Phase) (e : Bool) (f leader rank : ℕ) → (is_peon p && e && f == leader) ≡ (is_peon p && e && f == cond (is_peon p) leader rank)
follows_in phase.Booting e f leader rank = refl
follows_in phase.Probing e f leader rank = refl
follows_in phase.Synchronizing e f leader rank = refl
follows_in phase.Electing e f leader rank = refl
follows_in phase.Collecting e f leader rank = refl
follows_in phase.Previous e f leader rank = refl
follows_in phase.Active e f leader rank = refl
follows_in phase.Updating e f leader rank = refl
follows_in phase.Peon e f leader rank = refl

module _ (me : Me) (now : ℕ) (w : Readings) (v : View) (s : Clients) (x : Course) (b : IsMet me now w v (λ st. st.clients) s x) (f e seq : ℕ) where
  of_member-seen : (is_one_of leading x.state.phase && e == epoch_of x.readings && has x.state.leader.quorum f) ≡ (is_leading v.phase && e == epoch_of w && has v.quorum f)
  of_member-seen =
      leads_in x.state.phase (e == epoch_of x.readings) f x.state.leader.quorum x.state.peon.quorum
      ∙ (λ i. is_leading (sym b.seen.phase i) && e == epoch_of (b.readings i) && has (sym b.seen.quorum i) f)

  of_leader-seen : (is_peon x.state.phase && e == epoch_of x.readings && f == x.state.peon.leader) ≡ (is_peon v.phase && e == epoch_of w && f == v.leader)
  of_leader-seen =
      follows_in x.state.phase (e == epoch_of x.readings) f x.state.peon.leader me.member.rank
      ∙ (λ i. is_peon (sym b.seen.phase i) && e == epoch_of (b.readings i) && f == sym b.seen.leader i)

  pub forward-of_others : (c : Command) → (is_leading v.phase && e == epoch_of w && has v.quorum f) ≡ false → hear_forward me now f e seq c x ≡ Ok x
  unfolding hear_forward
  forward-of_others c h = let t = of_member-seen ∙ h in rw t refl

  pub forward-again : (c : Command) → (is_leading v.phase && e == epoch_of w && has v.quorum f) ≡ true → ltb (get_or s.taken f 0) seq ≡ false → hear_forward me now f e seq c x ≡ Ok x
  unfolding hear_forward
  forward-again c h old =
      let t = of_member-seen ∙ h in
      let u = ap (λ (k : Clients). ltb (get_or k.taken f 0) seq) b.role ∙ old in
      rw (t, u) refl

  pub forward-new : (c : Command) → (is_leading v.phase && e == epoch_of w && has v.quorum f) ≡ true → ltb (get_or s.taken f 0) seq ≡ true
      → (after : Clients) → after ≡ record s { taken = set s.taken f seq }
      → hear_forward me now f e seq c x ≡ at_leader me now c (origin.Forwarded f seq) (clients_are after x)
  unfolding hear_forward
  forward-new c h new after is =
      let t = of_member-seen ∙ h in
      let u = ap (λ (k : Clients). ltb (get_or k.taken f 0) seq) b.role ∙ new in
      rw (t, u)
      (λ i. at_leader me now c (origin.Forwarded f seq) (clients_are ((ap (λ (k : Clients). record k { taken = set k.taken f seq }) b.role ∙ sym is) i) x))

  pub route-of_others : (r : Reply) → (is_peon v.phase && e == epoch_of w && f == v.leader) ≡ false → hear_route f e seq r x ≡ Ok x
  unfolding hear_route
  route-of_others r h = let t = of_leader-seen ∙ h in rw t refl

  pub route-replies : (r : Reply) → (is_peon v.phase && e == epoch_of w && f == v.leader) ≡ true
      → (after : Clients) → after ≡ record s { sessions = filter (λ a. not (a.seq == seq)) s.sessions }
      → (out : List Sent) → out ≡ map (λ a. sent.Reply a.session r) (filter (λ a. a.seq == seq) s.sessions)
      → hear_route f e seq r x ≡ Ok (say out (clients_are after x))
  unfolding hear_route
  route-replies r h after is out told =
      let t = of_leader-seen ∙ h in
      rw t
      (λ i.
      Ok (say ((ap (λ (k : Clients). map (λ a. sent.Reply a.session r) (filter (λ a. a.seq == seq) k.sessions)) b.role ∙ sym told) i)
      (clients_are ((ap (λ (k : Clients). record k { sessions = filter (λ a. not (a.seq == seq)) k.sessions }) b.role ∙ sym is) i) x)))

-- ---- loops over the clients that wait

pub keeps_one : (p : Asked → Bool) (xs : List Asked) (i : ℕ) → (kept : List Asked) → kept ≡ filter p (take i xs) → (d : Asked) → i < length xs → p (get_or xs i d) ≡ true
    → kept ++ get_or xs i d ∷ [] ≡ filter p (take (i + 1) xs)
keeps_one p xs i kept so_far d lt is =
    ap (λ (k : List Asked). k ++ get_or xs i d ∷ []) so_far
    ∙ sym (filter_more p xs i d lt ∙ ap (λ (t : Bool). filter p (take i xs) ++ cond t (get_or xs i d ∷ []) []) is)

pub skips_one : (p : Asked → Bool) (xs : List Asked) (i : ℕ) (d : Asked) → i < length xs → p (get_or xs i d) ≡ false → filter p (take i xs) ≡ filter p (take (i + 1) xs)
skips_one p xs i d lt is =
    sym (filter_more p xs i d lt ∙ ap (λ (t : Bool). filter p (take i xs) ++ cond t (get_or xs i d ∷ []) []) is ∙ append-nil (filter p (take i xs)))

pub replies_one : (seq : ℕ) (r : Reply) (xs : List Asked) (i : ℕ) (out : List Sent) → out ≡ map (λ a. sent.Reply a.session r) (filter (λ a. a.seq == seq) (take i xs))
    → (d : Asked) → i < length xs → eqb (get_or xs i d).seq seq ≡ true
    → (copied : Reply) → copied ≡ r → (after : List Sent) → after ≡ out ++ sent.Reply (get_or xs i d).session copied ∷ []
    → after ≡ map (λ a. sent.Reply a.session r) (filter (λ a. a.seq == seq) (take (i + 1) xs))
replies_one seq r xs i out so_far d lt is copied same after adds =
    let p : Asked → Bool = λ a. a.seq == seq in
    adds
    ∙ (λ j. so_far j ++ sent.Reply (get_or xs i d).session (same j) ∷ [])
    ∙ sym (map-append (λ (a : Asked). sent.Reply a.session r) (filter p (take i xs)) (get_or xs i d ∷ []))
    ∙ ap (λ (l : List Asked). map (λ a. sent.Reply a.session r) l) (keeps_one p xs i (filter p (take i xs)) refl d lt is)

-- ---- what clients read

chosen : {X : Type 0} (a b : Bool) (f : Reply → X) (u n s : Reply)
    → cond a (f u) (cond b (f n) (f s)) ≡ f (unwrap_or (cond a (Some u) (cond b (Some n) None)) s)
chosen true b f u n s = refl
chosen false true f u n s = refl
chosen false false f u n s = refl

abbrev pub told_by : Readings → View → Service → ℕ → Reply
told_by w v service version =
    unwrap_or (unreadable w v) (since w service version)

pub read-is : (me : Me) (now : ℕ) (w : Readings) (v : View) (x : Course) → IsUnderWay me now w v x → (session : Session) (service : Service) (version : ℕ)
    → read me now session (λ r. since r service version) x ≡ Ok (say (sent.Reply session (told_by w v service version) ∷ []) x)
read-is me now w v x b session service version =
    chosen (not (is_member x.state.phase)) (not (readable x.readings.last me.member.monitors (lease_of x.state) now)) (λ r. Ok (say (sent.Reply session r ∷ []) x))
    reply.Unavailable (reply.NotReadable x.readings.last (is_standing me now x.state)) (since x.readings service version)
    ∙ (λ i.
    Ok (say (sent.Reply session
    (unwrap_or
    (cond (not (is_member (sym b.seen.phase i))) (Some reply.Unavailable)
    (cond (not (sym b.seen.readable i)) (Some (reply.NotReadable (b.readings i).last (sym b.seen.standing i))) None))
    (since (b.readings i) service version)) ∷ []) x))

pub rings : (me : Me) (now : ℕ) (t : Timer) → IsTrue (is_rung t) → (x : Course) → timer_comes me now t x ≡ propose_due me now x
rings me now timer.Propose h x = refl
rings me now other h x = let no : false ≡ true = h in absurd cc
