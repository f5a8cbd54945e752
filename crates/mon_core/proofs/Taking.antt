-- Which inputs a role takes: those that are its own. What is nobody's is dropped.
use Rattle.std.proofs.Common.{◌≡◌, ℕ, Bool, true, List, Some, None, Ok, refl, subst}
use Rattle.mon_bytes.specs.declared.entry.Entry.{Entry}
use Rattle.mon_msg.specs.Protocol.Course.{Course}
use Rattle.mon_msg.specs.Protocol.Hearing.{hear}
use Rattle.mon_msg.specs.declared.input.Input.TheVariants as input
use Rattle.mon_msg.specs.declared.input.Input.{Input}
use Rattle.mon_msg.specs.declared.view.Me.{Me}
use Rattle.mon_wire.specs.declared.body.Body.TheVariants as body
use Rattle.mon_wire.specs.declared.body.Body.{Body}
use Rattle.mon_wire.specs.declared.phase.Timer.TheVariants as timer
use Rattle.mon_wire.specs.declared.phase.Timer.{Timer}
use Rattle.mon_wire.specs.declared.request.Request.TheVariants as request
use Rattle.mon_wire.specs.declared.request.Request.{Request}
use Rattle.mon_wire.specs.declared.request.Session.{Session}
use Rattle.mon_client.specs.Rows as client
use Rattle.mon_elector.specs.Rows as elector
use Rattle.mon_event.specs.Roles.{hearer, woken_by, helper, role_of}
use Rattle.mon_event.specs.declared.role.Role.TheVariants as role
use Rattle.mon_event.specs.declared.role.Role.{Role}
use Rattle.mon_probe.specs.Rows as probe
use Rattle.paxos_leader.specs.Inputs as leader
use Rattle.paxos_peon.specs.Rows as peon
use Rattle.sync_provider.specs.Rows as provider
use Rattle.sync_requester.specs.Inputs as requester

abbrev pub takes : Role → Input → Bool
takes role.Prober came = probe.is_input came
takes role.Elector came = elector.is_input came
takes role.Leader came = leader.is_input came
takes role.Peon came = peon.is_input came
takes role.Clients came = client.is_input came
takes role.Provider came = provider.is_input came
takes role.Requester came = requester.is_input came

abbrev Takes : Input → Role → Type 0
Takes came r = takes r came ≡ true

same : (a r : Role) (came : Input) → Some a ≡ Some r → Takes came a → Takes came r
same a r came h p = let e : a ≡ r = cc in subst (Takes came) e p

module _ (f n e : ℕ) where
  abbrev said : Body → Input
  said b = input.Deliver (record { from = f; monitors = n; epoch = e; body = b })

  told : (b : Body) (r : Role) → hearer b ≡ Some r → Takes (said b) r
  told body.Probe r h = same role.Prober r (said body.Probe) h refl
  told (body.ProbeReply quorum first last) r h = same role.Prober r (said (body.ProbeReply quorum first last)) h refl
  told (body.Propose table) r h = same role.Elector r (said (body.Propose table)) h refl
  told body.Ack r h = same role.Elector r (said body.Ack) h refl
  told (body.Victory quorum) r h = same role.Elector r (said (body.Victory quorum)) h refl
  told (body.Collect pn first last) r h = same role.Peon r (said (body.Collect pn first last)) h refl
  told (body.Last pn first last whole from values pending) r h = same role.Leader r (said (body.Last pn first last whole from values pending)) h refl
  told (body.Begin pn v value) r h = same role.Peon r (said (body.Begin pn v value)) h refl
  told (body.Accept pn v) r h = same role.Leader r (said (body.Accept pn v)) h refl
  told (body.Commit from values) r h = same role.Peon r (said (body.Commit from values)) h refl
  told (body.Lease last) r h = same role.Peon r (said (body.Lease last)) h refl
  told (body.LeaseAck last) r h = same role.Leader r (said (body.LeaseAck last)) h refl
  told (body.Forward seq c) r h = same role.Clients r (said (body.Forward seq c)) h refl
  told (body.Route seq p) r h = same role.Clients r (said (body.Route seq p)) h refl
  told body.GetCookieFull r h = same role.Provider r (said body.GetCookieFull) h refl
  told (body.GetCookieRecent last) r h = same role.Provider r (said (body.GetCookieRecent last)) h refl
  told (body.Cookie full cookie last) r h = same role.Requester r (said (body.Cookie full cookie last)) h refl
  told (body.GetChunk cookie place) r h = same role.Provider r (said (body.GetChunk cookie place)) h refl
  told (body.Chunk cookie place values entries done) r h = same role.Requester r (said (body.Chunk cookie place values entries done)) h refl
  told (body.LastChunk cookie place values entries last) r h = same role.Requester r (said (body.LastChunk cookie place values entries last)) h refl
  told (body.NoCookie cookie) r h = same role.Requester r (said (body.NoCookie cookie)) h refl
  told (body.Ping table) r h = same role.Elector r (said (body.Ping table)) h refl
  told (body.PingReply table) r h = same role.Elector r (said (body.PingReply table)) h refl
  told (body.Request id q) r h = absurd cc
  told (body.Reply id p) r h = absurd cc

rung : (t : Timer) (r : Role) → Some (woken_by t) ≡ Some r → Takes (input.Timer t) r
rung timer.Probe r h = same role.Prober r (input.Timer timer.Probe) h refl
rung timer.Election r h = same role.Elector r (input.Timer timer.Election) h refl
rung timer.Collect r h = same role.Leader r (input.Timer timer.Collect) h refl
rung timer.Accept r h = same role.Leader r (input.Timer timer.Accept) h refl
rung timer.Renew r h = same role.Leader r (input.Timer timer.Renew) h refl
rung timer.LeaseAck r h = same role.Leader r (input.Timer timer.LeaseAck) h refl
rung timer.Lease r h = same role.Peon r (input.Timer timer.Lease) h refl
rung timer.Sync r h = same role.Requester r (input.Timer timer.Sync) h refl
rung timer.Step r h = same role.Requester r (input.Timer timer.Step) h refl
rung timer.Propose r h = same role.Clients r (input.Timer timer.Propose) h refl
rung timer.Ping r h = same role.Elector r (input.Timer timer.Ping) h refl

asked : (session : Session) (q : Request) (r : Role) → helper q ≡ Some r → Takes (input.Client session q) r
asked session (request.Set key value) r h = same role.Clients r (input.Client session (request.Set key value)) h refl
asked session (request.Remove key) r h = same role.Clients r (input.Client session (request.Remove key)) h refl
asked session (request.Log text) r h = same role.Clients r (input.Client session (request.Log text)) h refl
asked session (request.Since s version) r h = same role.Clients r (input.Client session (request.Since s version)) h refl
asked session (request.Show s) r h = absurd cc

pub takes_own : (came : Input) (r : Role) → role_of came ≡ Some r → takes r came ≡ true
takes_own input.Start r h = absurd cc
takes_own (input.Deliver m) r h = told m.from m.monitors m.epoch m.body r h
takes_own (input.Timer t) r h = rung t r h
takes_own (input.Client session q) r h = asked session q r h

-- ---- what is nobody's

pub unheard : (me : Me) (shared : List Entry) (now f e : ℕ) (b : Body) (x : Course) → hearer b ≡ None → hear me shared now f e b x ≡ Ok x
unheard me shared now f e body.Probe x h = absurd cc
unheard me shared now f e (body.ProbeReply quorum first last) x h = absurd cc
unheard me shared now f e (body.Propose table) x h = absurd cc
unheard me shared now f e body.Ack x h = absurd cc
unheard me shared now f e (body.Victory quorum) x h = absurd cc
unheard me shared now f e (body.Collect pn first last) x h = absurd cc
unheard me shared now f e (body.Last pn first last whole from values pending) x h = absurd cc
unheard me shared now f e (body.Begin pn v value) x h = absurd cc
unheard me shared now f e (body.Accept pn v) x h = absurd cc
unheard me shared now f e (body.Commit from values) x h = absurd cc
unheard me shared now f e (body.Lease last) x h = absurd cc
unheard me shared now f e (body.LeaseAck last) x h = absurd cc
unheard me shared now f e (body.Forward seq c) x h = absurd cc
unheard me shared now f e (body.Route seq p) x h = absurd cc
unheard me shared now f e body.GetCookieFull x h = absurd cc
unheard me shared now f e (body.GetCookieRecent last) x h = absurd cc
unheard me shared now f e (body.Cookie full cookie last) x h = absurd cc
unheard me shared now f e (body.GetChunk cookie place) x h = absurd cc
unheard me shared now f e (body.Chunk cookie place values entries done) x h = absurd cc
unheard me shared now f e (body.LastChunk cookie place values entries last) x h = absurd cc
unheard me shared now f e (body.NoCookie cookie) x h = absurd cc
unheard me shared now f e (body.Ping table) x h = absurd cc
unheard me shared now f e (body.PingReply table) x h = absurd cc
unheard me shared now f e (body.Request id q) x h = refl
unheard me shared now f e (body.Reply id p) x h = refl
