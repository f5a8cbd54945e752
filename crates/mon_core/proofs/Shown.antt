-- The reply to a client that asks for a map.
use Rattle.std.proofs.Common.{◌≡◌, ℕ, Bool, true, false, not, ◌&&◌, ◌||◌, List, Option, Some, None, Result, Ok, Err, refl, ap, ◌∙◌}
use Rattle.std.specs.Option.{is_none, unwrap_or}
use Rattle.std.specs.Prelude.{if◌then◌else◌, OnOk}
use Rattle.mon_bytes.specs.declared.entry.Entry.{Entry}
use Rattle.mon_lease.specs.Lease.{readable}
use Rattle.mon_msg.specs.Protocol.Course.{Course}
use Rattle.mon_msg.specs.Protocol.Hearing.{hear_client}
use Rattle.mon_msg.specs.Protocol.Phases.{is_member, same_phase}
use Rattle.mon_msg.specs.Protocol.Reads.{is_standing, shown}
use Rattle.mon_msg.specs.Protocol.Readings.{Readings}
use Rattle.mon_msg.specs.Protocol.Sending.{reply_to}
use Rattle.mon_msg.specs.Protocol.State.{State, lease_of}
use Rattle.mon_msg.specs.Protocol.Table.{at_rest, react}
use Rattle.mon_msg.specs.declared.input.Input.TheVariants as input
use Rattle.mon_msg.specs.declared.input.Input.{Input}
use Rattle.mon_msg.specs.declared.view.Me.{Me}
use Rattle.mon_msg.specs.declared.view.View.{View}
use Rattle.mon_plan.specs.Seen.{IsSeen}
use Rattle.mon_types.specs.declared.names.Which.{Which}
use Rattle.mon_wire.specs.declared.phase.Phase.TheVariants as phase
use Rattle.mon_wire.specs.declared.phase.Phase.{Phase}
use Rattle.mon_wire.specs.declared.reply.Reply.TheVariants as reply
use Rattle.mon_wire.specs.declared.reply.Reply.{Reply}
use Rattle.mon_wire.specs.declared.request.Request.TheVariants as request
use Rattle.mon_wire.specs.declared.request.Service.TheVariants as service
use Rattle.mon_wire.specs.declared.request.Service.{Service}
use Rattle.mon_client.specs.Rows.{unreadable}
use Rattle.mon_core.specs.Known.{asks_any_map, asks_for}
use Rattle.mon_wire.specs.declared.request.Session.{Session}
use Rattle.svc_core.specs.declared.cache.Known.{Known}

abbrev refused : (is_member may_read : Bool) → (not_readable : Reply) → Option Reply
refused member may_read not_readable = if not member then Some reply.Unavailable else (if not may_read then Some not_readable else None)

-- the reply, by the monitor's phase
abbrev pub told : (is_member may_read : Bool) → (not_readable shown : Reply) → Reply
told member may_read not_readable shown = unwrap_or (refused member may_read not_readable) shown

both : (member may_read : Bool) (not_readable : Reply) → (member && may_read) ≡ is_none (refused member may_read not_readable)
both false may_read r = refl
both true false r = refl
both true true r = refl

-- a map may be read if no refusal comes
pub may_read : (w : Readings) (view : View) → (is_member view.phase && view.readable) ≡ is_none (unreadable w view)
may_read w view = both (is_member view.phase) view.readable (reply.NotReadable w.last view.standing)

module _ (session : Session) (x : Course) where
  abbrev Answer : Type 0
  Answer = Result Course Which

  abbrev says : Reply → Answer
  says r = Ok (reply_to session r x)

  -- a monitor that isn't started is in no quorum, so it is unavailable by both rules
  by_phase : (p : Phase) (other : Answer)
      → (if same_phase p phase.Booting then says reply.Unavailable else (if not (is_member p) then says reply.Unavailable else other))
      ≡ (if not (is_member p) then says reply.Unavailable else other)
  by_phase phase.Booting other = refl
  by_phase phase.Probing other = refl
  by_phase phase.Synchronizing other = refl
  by_phase phase.Electing other = refl
  by_phase phase.Collecting other = refl
  by_phase phase.Previous other = refl
  by_phase phase.Active other = refl
  by_phase phase.Updating other = refl
  by_phase phase.Peon other = refl

  by_told : (member may_read : Bool) (a b : Reply)
      → (if not member then says reply.Unavailable else (if not may_read then says a else says b)) ≡ says (told member may_read a b)
  by_told false may_read a b = refl
  by_told true false a b = refl
  by_told true true a b = refl

-- the protocol's answer
pub shows : (me : Me) (shared : List Entry) (now : ℕ) (w : Readings) (s : State) (session : Session) (of : Service)
    → react me shared now w s (input.Client session (request.Show of))
    ≡ Ok (reply_to session
    (told (is_member s.phase) (readable w.last me.member.monitors (lease_of s) now) (reply.NotReadable w.last (is_standing me now s)) (shown w of))
    (at_rest w s))
unfolding react hear_client
shows me shared now w s session of =
    by_phase session (at_rest w s) s.phase _
    ∙ by_told session (at_rest w s) (is_member s.phase) (readable w.last me.member.monitors (lease_of s) now)
    (reply.NotReadable w.last (is_standing me now s)) (shown w of)

-- by what is seen of the monitor
pub told_seen : (me : Me) (now : ℕ) (w : Readings) (s : State) (view : View) → IsSeen me now w s view → (of : Service)
    → told (is_member view.phase) view.readable (reply.NotReadable w.last view.standing) (shown w of)
    ≡ told (is_member s.phase) (readable w.last me.member.monitors (lease_of s) now) (reply.NotReadable w.last (is_standing me now s)) (shown w of)
told_seen me now w s view seen of = λ i. told (is_member (seen.phase i)) (seen.readable i) (reply.NotReadable w.last (seen.standing i)) (shown w of)

neither : (a b : Bool) → (a || b) ≡ false → (a ≡ false) × (b ≡ false)
neither true b h = cc
neither false b h = (refl, h)

pub asks_none : (came : Input) → asks_any_map came ≡ false → (s : Service) → asks_for s came ≡ false
asks_none came h service.Kv = (neither (asks_for service.Kv came) (asks_for service.Log came) h).0
asks_none came h service.Log = (neither (asks_for service.Kv came) (asks_for service.Log came) h).1

-- if no map is asked for, none becomes known
pub unasked : (shown asked : Bool) (read k : Option Known) → asked ≡ false → (if shown && asked then read else k) ≡ k
unasked true asked read k h = ap (λ b. if b then read else k) h
unasked false asked read k h = refl

-- what holds of every result holds of one that isn't an error
pub on_ok_any : {T E : Type 0} (r : Result T E) (P : Type 0) → P → OnOk r P
on_ok_any (Ok x) P p = p
on_ok_any (Err e) P p = tt
