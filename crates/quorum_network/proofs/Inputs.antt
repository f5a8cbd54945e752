-- Each input that a process gets in an iteration is the input of an event of the run.
use Rattle.law_names.proofs.Runs.{Client as ClientAsks, Deliver, Envelope, Monitors, Plain, PlainFits, RequestFits, Ring, World, arrival, message_at, state_at}
use Rattle.law_names.proofs.Table.{AllByRecursion, Body, Contains, HasText, Input, IsBytes, Message, MsgRefused, Request, Stop, Timer, message_of}
use Rattle.log_model.proofs.Lists.{of_all}
use Rattle.mon_bounds.proofs.Texts.{has_text}
use Rattle.mon_decode.proofs.WholeLaws.{message_again, message_is_found}
use Rattle.mon_msg.specs.declared.input.Input.TheVariants as input
use Rattle.mon_node.specs.Hearing.{from_client, from_monitor, input_of}
use Rattle.mon_types.specs.declared.names.Stop.TheVariants as stop
use Rattle.mon_wire.specs.Message.Bodies as bodies
use Rattle.mon_wire.specs.Message.Bodies.{encoded}
use Rattle.mon_wire.specs.Message.Whole.{text}
use Rattle.mon_wire.specs.declared.body.Body.TheVariants as body
use Rattle.mon_wire.specs.declared.request.Request.TheVariants as request
use Rattle.quorum_network.proofs.Assembling.{Assembly}
use Rattle.quorum_network.proofs.Invariant.{IsSaid}
use Rattle.quorum_network.proofs.Letters.{AreLetters, IsFed, IsPosted, IsRight, Letter}
use Rattle.quorum_network.proofs.Names.{Client, Closed, Datagram, Given, Got, Heard, Idle, IsAnswer, IsAsked, IsValidInput, Monitor, Network, NodeEnd, Outside, Peer, Posted, TimedInput, answer_arrived, answer_in, at_time, heard_by, input_in, input_read, is_request, link_asked, taken}
use Rattle.quorum_network.specs.Network.{CameFrom}
use Rattle.std.proofs.Common.{Bool, Err, List, None, Ok, Option, Result, Some, ap, arith, cond, eqb, false, not, option_map, refl, subst, suc, sym, true, ℕ, ◌&&◌, ◌<◌, ◌∙◌, ◌≡◌}
use Rattle.std.proofs.lemmas.Option.{slice_get-get_or}

-- it comes by an event, and it isn't the start
pub record ComesBy (ms : Monitors) (w : World) (i : ℕ) (at : ℕ) (came : Input) : Type 0 where
  pub plain : Plain
  pub fits : PlainFits ms.count plain
  pub there : arrival w plain ≡ Some (record { rank = i; at = at; input = came })
  pub may : IsValidInput came
  pub running : state_at i (w.state i) came ≡ w.state i
  pub other : came ≡ input.Start → ⊥

-- ---- a monitor's message

-- a letter's text is read as its message
read_again : (m : Message) (bytes : List ℕ) → HasText m → bytes ≡ text m → message_of bytes ≡ Ok m
read_again m bytes has e = ap message_of e ∙ message_again m has

-- the message of that number comes
found_at : (es : List Envelope) (e : Envelope) → Contains es e → (k : ℕ) × (message_at es (suc k) ≡ Some e)
found_at es e (k, lt, is) = (k, slice_get-get_or es k e lt ∙ ap (λ (x : Envelope). Some x) is)

delivered : (ms : Monitors) (w : World) (i at : ℕ) (m : Message) → Contains w.messages (record { to = i; message = m }) → IsValidInput (input.Deliver m) → ComesBy ms w i at (input.Deliver m)
delivered ms w i at m c may =
    let k = found_at w.messages (record { to = i; message = m }) c in
    record {
      plain = Deliver (suc k.0) at;
      fits = tt;
      there = ap (option_map (λ (e : Envelope). record { rank = e.to; at = at; input = input.Deliver e.message })) k.1;
      may = may;
      running = refl;
      other = λ e. absurd cc;
    }

-- what an input is, if there is one
abbrev pub IfComes : (ms : Monitors) (w : World) (i at : ℕ) → Option Input → Type 0
IfComes ms w i at None = Unit {0}
IfComes ms w i at (Some came) = ComesBy ms w i at came

if_comes : (ms : Monitors) (w : World) (i at : ℕ) (b : Bool) (came : Option Input) → IfComes ms w i at came → IfComes ms w i at (cond b came None)
if_comes ms w i at true came h = h
if_comes ms w i at false came h = tt

monitor_comes : (ms : Monitors) (w : World) (i n at j : ℕ) (m : Message) → HasText m → Contains w.messages (record { to = i; message = m }) → IfComes ms w i at (input_of n (Monitor j) m)
monitor_comes ms w i n at j m has c =
    if_comes ms w i at (eqb m.monitors n) (from_monitor j m)
    (if_comes ms w i at (eqb m.from j && not (is_request m.body)) (Some (input.Deliver m)) (delivered ms w i at m c ((has_text m).0 has)))

-- ---- a client's

request_may : (client id : ℕ) (r : Request) → bodies.request.Form (id, r) → IsValidInput (input.Client (record { client = client; id = id }) r) × RequestFits r
request_may client id (request.Set key value) h = ((h.0, ((h.1.0, h.1.1.0), omega (arith, h.1.1.1))), (h.1.0, h.1.1.0))
request_may client id (request.Remove key) h = ((h.0, (h.1, omega arith)), h.1)
request_may client id (request.Log text) h = ((h.0, (h.1.0, omega (arith, h.1.1))), h.1.0)
request_may client id (request.Show s) h = ((h.0, tt), tt)
request_may client id (request.Since s version) h = ((h.0, h.1.1), tt)

asked_comes : (ms : Monitors) (w : World) (i at c : ℕ) (m : Message) (b : Body) → i < ms.count → (encoded m.monitors m.from b).Form → IfComes ms w i at (from_client c b)
asked_comes ms w i at c m (body.Request id r) lt h =
    let k = request_may c id r h in
    record { plain = ClientAsks i at (record { client = c; id = id }) r; fits = (lt, k.1); there = refl; may = k.0; running = refl; other = λ e. absurd cc }
asked_comes ms w i at c m other lt h = tt

client_comes : (ms : Monitors) (w : World) (i n at c : ℕ) (m : Message) → i < ms.count → HasText m → IfComes ms w i at (input_of n (Client c) m)
client_comes ms w i n at c m lt has = if_comes ms w i at (eqb m.monitors n) (from_client c m.body) (asked_comes ms w i at c m m.body lt has.form.body)

-- ---- what an assembly answers

module _ (A : Assembly) (ms : Monitors) (w : World) (i : ℕ) (lt : i < ms.count) (ls : List Letter)
    (said : (l : Letter) → Contains ls l → IsSaid ms.count w l l.to) where
  client_reads : (n at c : ℕ) (bytes : List ℕ) (r : Result Message MsgRefused) → IsBytes bytes → message_of bytes ≡ r → IfComes ms w i at (input_read n (Client c) r)
  client_reads n at c bytes (Ok m) fits e = client_comes ms w i n at c m lt (message_is_found bytes (Ok m) fits e).0
  client_reads n at c bytes (Err f) fits e = tt

  right_comes : (n at : ℕ) (from : Peer) (answer : Option (List ℕ)) → IsRight ls i from answer → IfComes ms w i at (input_in n from answer)
  right_comes n at from None right = tt
  right_comes n at (Monitor j) (Some bytes) right =
      let l = right.0 in
      let says = subst (IsSaid ms.count w l) right.3 (said l right.1) in
      subst (λ (r : Result Message MsgRefused). IfComes ms w i at (input_read n (Monitor j) r)) (sym (read_again says.0 bytes says.2 (sym right.4 ∙ says.4)))
      (monitor_comes ms w i n at j says.0 says.2 says.1)
  right_comes n at (Client c) (Some bytes) right = client_reads n at c bytes (message_of bytes) right refl

  -- ---- what is heard

  abbrev pub CameFine : Result (Option TimedInput) NodeEnd → Type 0
  CameFine (Ok (Some it)) = ComesBy ms w i it.at it.input
  CameFine (Ok None) = Unit {0}
  CameFine (Err e) = Unit {0}

  pub record HeardFine (h : Heard) : Type 0 where
    pub parts : A.Keeps ls i h.outside.parts
    pub came : CameFine h.came

  came_of : (at : ℕ) (came : Option Input) → IfComes ms w i at came → CameFine (Ok (option_map (at_time at) came))
  came_of at None h = tt
  came_of at (Some came) h = h

  fed : (net : Network) (from : Peer) (bytes : List ℕ) → AllByRecursion (IsPosted ls) net.sent → CameFrom net i from bytes → IsFed ls i from bytes
  fed net (Monitor j) bytes posted came =
      let d : Posted = record { by = j; datagram = record { to = Monitor i; bytes = bytes } } in
      of_all (IsPosted ls) net.sent posted d came
  fed net (Client c) bytes posted came = came

  module _ (net : Network) (posted : AllByRecursion (IsPosted ls) net.sent) (letters : AreLetters ls) where
    answer_fine : (n later : ℕ) (answer : Result Got Stop) (o : Outside) → A.Keeps ls i o.parts → IsAnswer net i answer → HeardFine (answer_arrived n later answer o)
    answer_fine n later (Ok (Datagram from bytes)) o keeps is =
        let t = A.takes ls i o.parts from bytes letters keeps (fed net from bytes posted is) in
        record { parts = t.0; came = came_of later (input_in n from (answer_in (taken o.parts from bytes))) (right_comes n later from (answer_in (taken o.parts from bytes)) t.1) }
    answer_fine n later (Ok Idle) o keeps is = record { parts = keeps; came = tt }
    answer_fine n later (Ok Closed) o keeps is = record { parts = keeps; came = tt }
    answer_fine n later (Err stop.Failed) o keeps is = record { parts = keeps; came = tt }
    answer_fine n later (Err stop.OutOfMemory) o keeps is = record { parts = keeps; came = tt }

    pub heard_fine : (t : Option Timer) (n wait : ℕ) (g : Given) (o : Outside) → A.Keeps ls i o.parts → IsAsked net i t g.answer → HeardFine (heard_by t n wait g o)
    heard_fine (Some t) n wait g o keeps is = record { parts = keeps; came = record { plain = Ring i t g.began; fits = lt; there = refl; may = tt; running = refl; other = λ e. absurd cc } }
    heard_fine None n wait g o keeps is = answer_fine n g.later g.answer (link_asked wait g.answer o) keeps is
